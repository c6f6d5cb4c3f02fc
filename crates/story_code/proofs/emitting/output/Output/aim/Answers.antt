use Rattle.std.proofs.Common.{◌≡◌, refl, sym, ap, ◌∙◌, Some, slice_get, slice_set}
use Rattle.std.proofs.lemmas.Bool.{lt-ltb}
use Rattle.std.proofs.lemmas.Option.{slice_get_read}
use Rattle.play_meaning.specs.Instructions.{sizes}
use Rattle.story_code.specs.Emitting.{aimed, can_say_all, kept_if}
use Rattle.story_code.proofs.Followed.{none_aimed, nothing_aimed, past_none, said_aimed, some_aimed}
use Rattle.story_code.proofs.emitting.output.Output.aim.Goals as goal

pub returns-then-not-self : goal.returns-then-not-self
returns-then-not-self c = sym c.self.view_is ∙ none_aimed _ _ _ _ _ c.if-not-self.true ∙ ap (aimed c.args.index c.args.place) c.self.view_is

pub invariant_of-self : goal.invariant_of-self
invariant_of-self c = λ t.
    let found = c.in-Some.ensures.lookup in
    let got : slice_get c.self.inside.code.items c.args.index ≡ Some c.in-Some.field-0.now = ap (λ code. slice_get code c.args.index) (sym c.deref.ensures.value) ∙ slice_get_read _ _ _ _ refl found.3.0 found.1 in
    let all = said_aimed c.self.inside.code.items c.self.inside.tests.items c.args.index c.args.place c.in-Some.field-0.now got (lt-ltb _ _ c.ranges.place.fits) (c.self.invariant t).1 in (
      (c.self.invariant t).0 ∙ sym all.0 ∙ ap (λ i. sizes (slice_set c.self.inside.code.items c.args.index i)) (sym c.aims.ensures),
      ap (λ i. can_say_all (record { code = slice_set c.self.inside.code.items c.args.index i; tests = c.self.inside.tests.items })) c.aims.ensures ∙ all.1,
    )

pub returns-in-Some : goal.returns-in-Some
returns-in-Some c =
    let found = c.in-Some.ensures.lookup in
    let got : slice_get c.self.inside.code.items c.args.index ≡ Some c.in-Some.field-0.now = ap (λ code. slice_get code c.args.index) (sym c.deref.ensures.value) ∙ slice_get_read _ _ _ _ refl found.3.0 found.1 in
    ap (λ i. record { first = c.self.inside.first; kept = kept_if c.self.inside.fits (record { code = slice_set c.self.inside.code.items c.args.index i; tests = c.self.inside.tests.items }) }) c.aims.ensures
    ∙ some_aimed _ _ _ _ _ _ _ got ∙ ap (aimed c.args.index c.args.place) c.self.view_is

pub returns-in_default : goal.returns-in_default
returns-in_default c =
    sym c.self.view_is ∙ nothing_aimed _ _ _ _ _ _ (ap (λ code. slice_get code c.args.index) (sym c.deref.ensures.value) ∙ past_none _ _ c.in_default.ensures.lookup.3)
    ∙ ap (aimed c.args.index c.args.place) c.self.view_is
