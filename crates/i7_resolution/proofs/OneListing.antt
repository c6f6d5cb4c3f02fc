-- No sentences have two answers about where they list rules.
use Rattle.std.proofs.Common.{◌≡◌, ℕ, List, [], ◌∷◌, refl, sym, ◌∙◌, ap}
use Rattle.std.specs.Prelude.{reverse}
use Rattle.std.specs.List.{AllZip}
use Rattle.std.proofs.lemmas.List.{reverse-reverse}
use Rattle.world_meaning.specs.declared.fault.FaultCode.{FaultCode}
use Rattle.world_meaning.specs.declared.fault.FaultCode.TheVariants.{UnknownName, WrongKind}
use Rattle.i7_rules.proofs.Lows.{lowest_once}
use Rattle.i7_rules.specs.Knowns.{Known}
use Rattle.i7_rules.specs.RuleList.{RuleAt, rules_in}
use Rattle.i7_sentences.specs.Lowest.{IsLowest, IsNowhere}
use Rattle.i7_sentences.specs.declared.sentence.Sentence.{Sentence}
use Rattle.rule_order.specs.declared.listing.ListingSentence.{ListingSentence}
use Rattle.i7_resolution.specs.ListingList.{ListingAt, listings_in}
use Rattle.i7_resolution.specs.SourceListings.{All, AreFound, AreTold, IsListingsFound, IsMisplaced, IsTold, IsUnknown, ListingsMeant, Refused, Stands, listings_meant}
use Rattle.i7_resolution.specs.declared.source_listings.ListingsFound.{ListingsFound}
use Rattle.i7_resolution.specs.declared.source_listings.ListingsFound.TheVariants as found
use Rattle.i7_resolution.proofs.ReadListings.{same_rule}
use Rattle.i7_sentences.proofs.Lowest.{nowhere_there}

-- ---- listings

abbrev refusal : FaultCode → ℕ → ListingsMeant
refusal code line = Refused (record { code = code; line = line })

listing_same : (a b : ListingSentence) → a.rule ≡ b.rule → a.at ≡ b.at → a ≡ b
listing_same a b rules places = λ i. record { rule = rules i; at = places i }

module _ (k : Known) (rules : List RuleAt) where
  told_once : (l : ListingAt) (a b : ListingSentence) → IsTold k rules l a → IsTold k rules l b → a ≡ b
  told_once l a b one other = listing_same a b (same_rule a.rule b.rule (sym one.rule ∙ other.rule)) (one.at ∙ sym other.at)

  all_once : (ls : List ListingAt) (a b : List ListingSentence) → AllZip (IsTold k rules) ls a → AllZip (IsTold k rules) ls b → a ≡ b
  all_once [] [] [] one other = refl
  all_once [] [] (y ∷ b) one other = absurd other
  all_once [] (x ∷ a) b one other = absurd one
  all_once (l ∷ ls) [] b one other = absurd one
  all_once (l ∷ ls) (x ∷ a) [] one other = absurd other
  all_once (l ∷ ls) (x ∷ a) (y ∷ b) one other = ap (λ (m : ListingSentence). m ∷ a) (told_once l x y one.0 other.0) ∙ ap (λ (ms : List ListingSentence). y ∷ ms) (all_once ls a b one.1 other.1)

  in_order : (ls : List ListingAt) (a b : List ListingSentence) → AllZip (IsTold k rules) ls (reverse a) → AllZip (IsTold k rules) ls (reverse b) → a ≡ b
  in_order ls a b one other = sym (reverse-reverse a) ∙ ap reverse (all_once ls (reverse a) (reverse b) one other) ∙ reverse-reverse b

  unknown_once : (ls : List ListingAt) (c : FaultCode) (a b : ℕ) → IsLowest (IsUnknown k rules) ls a → Stands k rules c b ls → refusal UnknownName a ≡ refusal c b
  unknown_once ls UnknownName a b one other = ap (refusal UnknownName) (lowest_once (IsUnknown k rules) ls a b one other)
  unknown_once ls WrongKind a b one other = absurd (nowhere_there (IsUnknown k rules) ls a other.0 one)
  unknown_once ls _ a b one other = absurd other

  misplaced_once : (ls : List ListingAt) (c : FaultCode) (a b : ℕ) → IsNowhere (IsUnknown k rules) ls → IsLowest (IsMisplaced k rules) ls a → Stands k rules c b ls → refusal WrongKind a ≡ refusal c b
  misplaced_once ls UnknownName a b known one other = absurd (nowhere_there (IsUnknown k rules) ls b known other)
  misplaced_once ls WrongKind a b known one other = ap (refusal WrongKind) (lowest_once (IsMisplaced k rules) ls a b one other.1)
  misplaced_once ls _ a b known one other = absurd other

  refused_once : (ls : List ListingAt) (c d : FaultCode) (a b : ℕ) → Stands k rules c a ls → Stands k rules d b ls → refusal c a ≡ refusal d b
  refused_once ls UnknownName d a b one other = unknown_once ls d a b one other
  refused_once ls WrongKind d a b one other = misplaced_once ls d a b one.0 one.1 other
  refused_once ls _ d a b one other = absurd one

  told_or_refused : (ls : List ListingAt) (told : List ListingSentence) (c : FaultCode) (line : ℕ) → AreTold k rules ls told → Stands k rules c line ls → ⊥
  told_or_refused ls told UnknownName line is stands = nowhere_there (IsUnknown k rules) ls line is.known stands
  told_or_refused ls told WrongKind line is stands = nowhere_there (IsMisplaced k rules) ls line is.own stands.1
  told_or_refused ls told _ line is stands = stands

  found_once : (ls : List ListingAt) (a b : ListingsFound) → AreFound k rules ls a → AreFound k rules ls b → listings_meant a ≡ listings_meant b
  found_once ls (found.Says a) (found.Says b) one other = ap All (in_order ls a.items b.items one.each other.each)
  found_once ls (found.Says a) (found.Refused fault) one other = absurd (told_or_refused ls (reverse a.items) fault.code fault.line one other)
  found_once ls (found.Refused fault) (found.Says b) one other = absurd (told_or_refused ls (reverse b.items) fault.code fault.line other one)
  found_once ls (found.Refused fault) (found.Refused other_fault) one other = refused_once ls fault.code other_fault.code fault.line other_fault.line one other

pub listings_once : (k : Known) (sentences : List Sentence) (a b : ListingsFound) → IsListingsFound k sentences a → IsListingsFound k sentences b → listings_meant a ≡ listings_meant b
listings_once k sentences a b one other = found_once k (rules_in sentences) (reverse (listings_in sentences)) a b one other
