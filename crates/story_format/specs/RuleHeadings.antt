-- Rules as the order of their rulebook sees them.
use Rattle.std.specs.Prelude.{ℕ, ◌+◌, Bool, List, [], ◌∷◌, ◌++◌, is_some, map, slice_index_or}
use Rattle.play_meaning.specs.Patterns.{Pattern, listing_meant, pattern_meant}
use Rattle.play_meaning.specs.Rules.{Listed, Rule}
use Rattle.play_meaning.specs.StandardRules.{standard_rules}
use Rattle.play_meaning.specs.declared.tree.pattern.Listing.{Listing}
use Rattle.play_meaning.specs.declared.tree.pattern.Listing.TheVariants.{InOrder}
use Rattle.play_meaning.specs.declared.tree.rule.RuleHead.{RuleHead}
use Rattle.rule_order.specs.declared.heading.Heading.{Heading}

-- the rulebook, what the rule is about, whether it has a condition, and where sentences list it
pub record Headed : Type 0 where
  pub book : ℕ
  pub about : Pattern
  pub conditional : Bool
  pub listed : Listed

abbrev pub about_of : Rule → Pattern
about_of rule = record { action = rule.action; noun = rule.noun; second = rule.second; place = rule.place; scene = rule.scene }

abbrev pub heading_of : Rule → Headed
heading_of rule = record { book = rule.book; about = about_of rule; conditional = is_some rule.condition; listed = rule.listed }

-- ---- as it is kept

abbrev pub head_meant : RuleHead → Headed
head_meant head = record { book = head.book; about = pattern_meant head.pattern; conditional = is_some head.condition; listed = listing_meant head.listing }

abbrev pub heading_meant : Heading → Headed
heading_meant h = record { book = h.book; about = pattern_meant h.pattern.now; conditional = h.is_conditional; listed = listing_meant h.listing }

-- ---- as sentences list them

-- the listing of the rule of a number; in order, where there is none
abbrev pub listing_at : List Listing → ℕ → Listing
listing_at listings number = slice_index_or listings number InOrder

-- listed so, whatever the head says
abbrev pub headed_as : Listing → Headed → Headed
headed_as listing h = record h { listed = listing_meant listing }

-- rules from this number on, each with its listing
abbrev pub headed_from : List Listing → ℕ → List Headed → List Headed
headed_from listings number [] = []
headed_from listings number (h ∷ hs) = headed_as (listing_at listings number) h ∷ headed_from listings (number + 1) hs

-- those that every story has, and behind them the author's
abbrev pub all_headed : List Listing → List Rule → List Headed
all_headed listings rules = headed_from listings 0 (map heading_of standard_rules) ++ headed_from listings 61 (map heading_of rules)
