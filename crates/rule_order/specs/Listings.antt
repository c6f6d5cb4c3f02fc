-- Where the sentences of a source list its rules.
use Rattle.std.specs.Prelude.{◌≡◌, ℕ, ◌+◌, ◌<◌, ◌==◌, List, [], ◌∷◌, length, Some, slice_get, slice_set, if◌then◌else◌}
use Rattle.play_meaning.specs.Patterns.{listing_meant}
use Rattle.play_meaning.specs.Rules.{Rule}
use Rattle.play_meaning.specs.declared.tree.pattern.Listing.{Listing}
use Rattle.play_meaning.specs.declared.tree.pattern.Listing.TheVariants as listing
use Rattle.rule_order.specs.declared.listing.Front.{Front}
use Rattle.rule_order.specs.declared.listing.Front.TheVariants.{First, Last, Nowhere}
use Rattle.rule_order.specs.declared.listing.ListingSentence.{ListingSentence}

abbrev pub listing_by : ℕ → Front → Listing
listing_by number First = listing.First number
listing_by number Last = listing.Last number
listing_by number Nowhere = listing.Unlisted

-- what the last of these sentences about a rule says, the first of them having this number; this, where there is none
abbrev pub latest : Listing → ℕ → ℕ → List ListingSentence → Listing
latest so_far rule number [] = so_far
latest so_far rule number (sentence ∷ sentences) = latest (if sentence.rule == rule then listing_by number sentence.at else so_far) rule (number + 1) sentences

-- each rule is listed as the latest sentence about it says
pub record AreListings (rules : ℕ) (sentences : List ListingSentence) (listings : List Listing) : Type 0 where
  pub count : length listings ≡ rules
  pub each : (rule : ℕ) → rule < rules → slice_get listings rule ≡ Some (latest listing.InOrder rule 0 sentences)

-- the rules from this number on, each listed as the latest of the sentences about it says
abbrev pub listed_from : List ListingSentence → ℕ → List Rule → List Rule
listed_from sentences number [] = []
listed_from sentences number (rule ∷ rules) = record rule { listed = listing_meant (latest listing.InOrder number 0 sentences) } ∷ listed_from sentences (number + 1) rules

-- all rules, by number
abbrev pub listed_by : List ListingSentence → List Rule → List Rule
listed_by sentences rules = listed_from sentences 0 rules

-- ---- one sentence after the other

abbrev pub listed_after : List Listing → ℕ → ListingSentence → List Listing
listed_after listings number sentence = slice_set listings sentence.rule (listing_by number sentence.at)

abbrev pub listings_after : List Listing → ℕ → List ListingSentence → List Listing
listings_after listings number [] = listings
listings_after listings number (sentence ∷ sentences) = listings_after (listed_after listings number sentence) (number + 1) sentences
