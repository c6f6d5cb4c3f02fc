-- The sentences of a source that list rules, in order.
use Rattle.std.specs.Prelude.{ℕ, List, [], ◌∷◌, flat_map, map}
use Rattle.i7_sentences.specs.declared.rule_listing.RuleListing.{RuleListing}
use Rattle.i7_sentences.specs.declared.sentence.Assertion.{Assertion}
use Rattle.i7_sentences.specs.declared.sentence.Assertion.TheVariants as asserts
use Rattle.i7_sentences.specs.declared.sentence.Sentence.{Sentence}
use Rattle.i7_resolution.specs.declared.listing_list.ListingAt.{ListingAt as Lent}

-- what a sentence says that lists a rule, and its line
pub record ListingAt : Type 0 where
  pub line : ℕ
  pub said : RuleListing

abbrev pub listings_asserted : ℕ → Assertion → List ListingAt
listings_asserted line (asserts.Listing said) = record { line = line; said = said } ∷ []
listings_asserted line _ = []

abbrev pub listings_said : Sentence → List ListingAt
listings_said sentence = listings_asserted sentence.line sentence.said

abbrev pub listings_in : List Sentence → List ListingAt
listings_in sentences = flat_map listings_said sentences

-- ---- as they are lent

abbrev pub listing_lent : Lent → ListingAt
listing_lent l = record { line = l.line; said = l.said.now }

abbrev pub listings_lent : List Lent → List ListingAt
listings_lent listings = map listing_lent listings
