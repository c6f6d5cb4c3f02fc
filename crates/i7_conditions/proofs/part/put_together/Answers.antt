use Rattle.std.proofs.Common.{◌∙◌, ap, sym}
use Rattle.std.specs.Prelude.{Some}
use Rattle.i7_conditions.specs.Parts.{found_in, parts_on, put_together, stack_of}
use Rattle.i7_conditions.proofs.Stacks.{stuck, went}
use Rattle.i7_conditions.proofs.part.put_together.Goals as goal

pub loop-mark-init : goal.loop-mark-init
unfolding put_together
loop-mark-init c = ap (λ parts. found_in (parts_on (Some (stack_of parts)) c.args.marks.items)) c.new-parts.ensures.items

pub returns-then-not-branch : goal.returns-then-not-branch
returns-then-not-branch c =
    sym (stuck c.loop-mark.marks.items c.pop.new.self.items c.in-Some.mark (stack_of c.loop-mark.parts.items) (stack_of c.take_mark.new.parts.items) c.in_ok-take_mark.field-0 c.in-Some.ensures.items c.in_ok-take_mark.ensures c.if-not-branch.true)
    ∙ c.loop-mark.invariant

pub loop-mark-preserved : goal.loop-mark-preserved
loop-mark-preserved c =
    sym (went c.loop-mark.marks.items c.pop.new.self.items c.in-Some.mark (stack_of c.loop-mark.parts.items) (stack_of c.take_mark.new.parts.items) c.in_ok-take_mark.field-0 c.in-Some.ensures.items c.in_ok-take_mark.ensures c.if-not-branch.false)
    ∙ c.loop-mark.invariant
