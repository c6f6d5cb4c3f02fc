-- Where the sentences of a source list its rules (*Writing with Inform*, 19.16), or why the source is refused for them.
use Rattle.std.specs.Prelude.{◌≡◌, ℕ, List, reverse}
use Rattle.std.specs.List.{AllZip}
use Rattle.world_meaning.specs.declared.fault.Fault.{Fault}
use Rattle.world_meaning.specs.declared.fault.FaultCode.{FaultCode}
use Rattle.world_meaning.specs.declared.fault.FaultCode.TheVariants.{UnknownName, WrongKind}
use Rattle.i7_rules.specs.Knowns.{Known}
use Rattle.i7_rules.specs.RuleList.{RuleAt, rules_in}
use Rattle.i7_sentences.specs.Lowest.{IsLowest, IsNowhere}
use Rattle.i7_sentences.specs.declared.sentence.Sentence.{Sentence}
use Rattle.rule_order.specs.declared.listing.ListingSentence.{ListingSentence}
use Rattle.i7_resolution.specs.ListingList.{ListingAt, listings_in}
use Rattle.i7_resolution.specs.Listings.{IsListed, NamesNone, NamesOther}
use Rattle.i7_resolution.specs.declared.source_listings.ListingsFound.{ListingsFound}
use Rattle.i7_resolution.specs.declared.source_listings.ListingsFound.TheVariants as found

-- ---- what is wrong with a sentence that lists a rule, and at which line that is told

abbrev pub IsUnknown : Known → List RuleAt → ListingAt → ℕ → Type 0
IsUnknown k rules l line = NamesNone k rules l.said × (line ≡ l.line)

abbrev pub IsMisplaced : Known → List RuleAt → ListingAt → ℕ → Type 0
IsMisplaced k rules l line = NamesOther k rules l.said × (line ≡ l.line)

-- ---- what is told of all of them

-- they are refused with that code at that line, and with no code before it
abbrev pub Stands : Known → List RuleAt → FaultCode → ℕ → List ListingAt → Type 0
Stands k rules UnknownName line listings = IsLowest (IsUnknown k rules) listings line
Stands k rules WrongKind line listings = IsNowhere (IsUnknown k rules) listings × IsLowest (IsMisplaced k rules) listings line
Stands k rules _ line listings = ⊥

abbrev pub IsTold : Known → List RuleAt → ListingAt → ListingSentence → Type 0
IsTold k rules l told = IsListed k rules l.said told

-- nothing refuses these sentences, which come with the last first, and each lists its rule so
pub record AreTold (k : Known) (rules : List RuleAt) (listings : List ListingAt) (told : List ListingSentence) : Type 0 where
  pub known : IsNowhere (IsUnknown k rules) listings
  pub own : IsNowhere (IsMisplaced k rules) listings
  pub each : AllZip (IsTold k rules) listings told

abbrev pub AreFound : Known → List RuleAt → List ListingAt → ListingsFound → Type 0
AreFound k rules listings (found.Says told) = AreTold k rules listings (reverse told.items)
AreFound k rules listings (found.Refused fault) = Stands k rules fault.code fault.line listings

-- what is told of the sentences that list rules
abbrev pub IsListingsFound : Known → List Sentence → ListingsFound → Type 0
IsListingsFound k sentences = AreFound k (rules_in sentences) (reverse (listings_in sentences))

-- ---- however that is kept

pub data ListingsMeant : Type 0 where
  All : List ListingSentence → ListingsMeant
  Refused : Fault → ListingsMeant

abbrev pub listings_meant : ListingsFound → ListingsMeant
listings_meant (found.Says told) = All told.items
listings_meant (found.Refused fault) = Refused fault
