-- The number of a stored rule.
use Rattle.std.specs.Prelude.{ℕ}
use Rattle.standard_rules.specs.declared.stored_rule.StoredRule.{StoredRule}
use Rattle.standard_rules.specs.declared.stored_rule.StoredRule.TheVariants.{Own, Standard}

abbrev pub number_of : {X : _} {F : _} {g : _} → StoredRule X F g → ℕ
number_of (Standard rule) = rule.id
number_of (Own rule) = rule.id
