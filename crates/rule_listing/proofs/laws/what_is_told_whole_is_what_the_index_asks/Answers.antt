use Rattle.std.specs.Prelude.{filter}
use Rattle.story_format.specs.Facts.{rules_listed}
use Rattle.rule_listing.proofs.AskedAlike.{rule_alike}
use Rattle.rule_listing.proofs.laws.what_is_told_whole_is_what_the_index_asks.Goals as goal

pub returns : goal.returns
returns c = λ t book action noun room. λ i. filter (λ rule. rule_alike t action noun room rule i) (rules_listed t book)
