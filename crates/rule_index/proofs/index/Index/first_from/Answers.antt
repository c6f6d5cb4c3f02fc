use Rattle.std.proofs.Common.{sym, subst}
use Rattle.rule_index.specs.Classes.{AreIndexed}
use Rattle.rule_index.proofs.ClassLemmas.{class_there}
use Rattle.rule_index.proofs.index.Index.first_from.Goals as goal

pub first_of_class-requires : goal.first_of_class-requires
first_of_class-requires c = record {
  class = class_there c.self.inside.story.value c.as_ref-story.result.now c.args.book c.args.action c.rules_listed-listed.result.now c.in-Some.class.now c.as_ref-story.ensures
      c.rules_listed-listed.ensures (c.in-Some.ensures c.self.inside.story.value (subst (AreIndexed c.self.inside.story.value) (sym c.as_slice.ensures.value) c.self.invariant));
}
