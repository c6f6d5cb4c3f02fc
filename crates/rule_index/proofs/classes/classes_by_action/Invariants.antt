-- So far there is a class of each action.
use Rattle.std.proofs.Common.{◌≡◌, length}
use Rattle.rule_index.specs.Classes.{AreClasses}
use Rattle.rule_index.proofs.classes.classes_by_action.Given as goal

abbrev pub invariant-loop-action : goal.invariant-loop-action
invariant-loop-action l = record {
  classes : AreClasses l.story l.book l.classes;
  count : length l.classes ≡ l.action;
}
