-- The sentences that list rules as they are looked through from the first to the last.
use Rattle.std.specs.Prelude.{◌≡◌, ℕ, List, ◌∷◌, Option, Some, None, reverse}
use Rattle.std.specs.List.{AllZip}
use Rattle.world_meaning.specs.declared.fault.FaultCode.{FaultCode}
use Rattle.world_meaning.specs.declared.fault.FaultCode.TheVariants.{UnknownName, WrongKind}
use Rattle.i7_rules.specs.Knowns.{Known}
use Rattle.i7_rules.specs.RuleList.{RuleAt}
use Rattle.i7_rules.specs.RuleScans.{IsLow}
use Rattle.i7_sentences.specs.Lowest.{lower_of}
use Rattle.rule_order.specs.declared.listing.ListingSentence.{ListingSentence}
use Rattle.i7_resolution.specs.ListingList.{ListingAt}
use Rattle.i7_resolution.specs.SourceListings.{IsMisplaced, IsTold, IsUnknown}
use Rattle.i7_resolution.specs.declared.listing.ListingFound.{ListingFound}
use Rattle.i7_resolution.specs.declared.listing.ListingFound.TheVariants as found
use Rattle.i7_resolution.specs.declared.source_listings.ListingsFound.{ListingsFound}
use Rattle.i7_resolution.specs.declared.source_listings.ListingsFound.TheVariants as whole
use Rattle.i7_resolution.specs.declared.source_listings.SoFar.{SoFar}

-- what is told of the sentences so far, the last first, and the lowest lines of what is wrong
pub record State : Type 0 where
  pub listings : List ListingSentence
  pub unknown : Option ℕ
  pub misplaced : Option ℕ

abbrev pub state_of : SoFar → State
state_of so_far = record { listings = reverse so_far.listings.items; unknown = so_far.unknown; misplaced = so_far.misplaced }

-- with a sentence that is found to come to this
abbrev pub with_found : State → ListingAt → ListingFound → State
with_found state l (found.Lists listed) = record state { listings = listed ∷ state.listings }
with_found state l found.Unknown = record state { unknown = lower_of state.unknown (Some l.line) }
with_found state l found.OtherBook = record state { misplaced = lower_of state.misplaced (Some l.line) }

-- what is found of these sentences, the last first
pub record IsSoFar (k : Known) (rules : List RuleAt) (listings : List ListingAt) (state : State) : Type 0 where
  pub unknown : IsLow (IsUnknown k rules) listings state.unknown
  pub misplaced : IsLow (IsMisplaced k rules) listings state.misplaced
  pub told : state.unknown ≡ None → state.misplaced ≡ None → AllZip (IsTold k rules) listings state.listings

-- ---- what is told of all

abbrev pub refused_or : FaultCode → Option ℕ → ListingsFound → ListingsFound
refused_or code None next = next
refused_or code (Some line) next = whole.Refused (record { code = code; line = line })

abbrev pub so_far_told : SoFar → ListingsFound
so_far_told so_far = refused_or UnknownName so_far.unknown (refused_or WrongKind so_far.misplaced (whole.Says so_far.listings))
