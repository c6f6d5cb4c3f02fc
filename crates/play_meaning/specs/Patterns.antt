-- What rules are, as their words say it: what they are about, and where sentences list them.
use Rattle.std.specs.Prelude.{ℕ, Option, None, map}
use Rattle.std.specs.Option.{option_map}
use Rattle.play_meaning.specs.Meant.{adjective_meant, body_meant, condition_meant}
use Rattle.play_meaning.specs.Rules as rules
use Rattle.play_meaning.specs.declared.tree.pattern.Aspect.{Aspect}
use Rattle.play_meaning.specs.declared.tree.pattern.Aspect.TheVariants as aspect
use Rattle.play_meaning.specs.declared.tree.pattern.Listing.{Listing}
use Rattle.play_meaning.specs.declared.tree.pattern.Listing.TheVariants as listing
use Rattle.play_meaning.specs.declared.tree.pattern.Pattern.{Pattern as Kept}
use Rattle.play_meaning.specs.declared.tree.rule.MeantRule.{MeantRule}

abbrev pub aspect_meant : Aspect → rules.Aspect
aspect_meant aspect.Anything = rules.Anything
aspect_meant (aspect.Exactly o) = rules.Exactly o
aspect_meant (aspect.OfKind kind adjectives) = rules.OfKind kind (map adjective_meant adjectives)

-- what a rule is about, its condition aside
pub record Pattern : Type 0 where
  pub action : Option ℕ
  pub noun : rules.Aspect
  pub second : rules.Aspect
  pub place : rules.Aspect
  pub scene : Option ℕ

-- about nothing
abbrev pub anything : Pattern
anything = record { action = None; noun = rules.Anything; second = rules.Anything; place = rules.Anything; scene = None }

abbrev pub pattern_meant : Kept → Pattern
pattern_meant p = record { action = p.action; noun = aspect_meant p.noun; second = aspect_meant p.second; place = aspect_meant p.place; scene = p.scene }

abbrev pub listing_meant : Listing → rules.Listed
listing_meant listing.InOrder = rules.InOrder
listing_meant (listing.First sentence) = rules.ListedFirst sentence
listing_meant (listing.Last sentence) = rules.ListedLast sentence
listing_meant listing.Unlisted = rules.Unlisted

abbrev pub rule_meant : MeantRule → rules.Rule
rule_meant rule = record {
  book = rule.head.book;
  action = rule.head.pattern.action;
  noun = aspect_meant rule.head.pattern.noun;
  second = aspect_meant rule.head.pattern.second;
  place = aspect_meant rule.head.pattern.place;
  scene = rule.head.pattern.scene;
  condition = option_map condition_meant rule.head.condition;
  body = body_meant rule.body.items;
  listed = listing_meant rule.head.listing;
}
