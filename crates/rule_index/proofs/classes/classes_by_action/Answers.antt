use Rattle.std.proofs.Common.{subst, sym, ap, ◌∷◌, [], length, arith, length-append}
use Rattle.rule_index.specs.Classes.{AreClasses}
use Rattle.rule_index.proofs.ClassLemmas.{classes_more}
use Rattle.rule_index.proofs.classes.classes_by_action.Goals as goal

pub loop-action-preserved : goal.loop-action-preserved
loop-action-preserved c = record {
  classes = subst (AreClasses c.args.story.now c.args.book) (sym c.in_ok-push.ensures)
      (classes_more c.args.story.now c.args.book c.loop-action.action c.args.listed.now c.in_ok-class_for.field-0.value c.loop-action.classes c.loop-action.invariant.classes
      c.loop-action.invariant.count c.requires.listed c.in_ok-class_for.ensures);
  count = omega (arith, ap length c.in_ok-push.ensures, length-append c.loop-action.classes (c.in_ok-class_for.field-0.value ∷ []), c.loop-action.invariant.count);
}
