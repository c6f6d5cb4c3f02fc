-- What is found of the sentences that list rules, with one more, and what is told of all of them.
use Rattle.std.proofs.Common.{◌≡◌, ℕ, List, [], ◌∷◌, refl, sym, ◌∙◌, ap, subst, inl, inr}
use Rattle.std.specs.Prelude.{Option, None, Some, reverse}
use Rattle.world_meaning.specs.declared.fault.FaultCode.TheVariants.{UnknownName, WrongKind}
use Rattle.i7_actions.specs.Books.{IsFollowed}
use Rattle.i7_actions.specs.declared.action.Action.{Action}
use Rattle.i7_conditions.specs.Words.{Word}
use Rattle.i7_rules.proofs.Lows.{low_nothing, low_past, low_with, not_none}
use Rattle.i7_rules.specs.Knowns.{Known}
use Rattle.i7_rules.specs.RuleList.{RuleAt, rules_in}
use Rattle.i7_rules.specs.RuleScans.{IsLow}
use Rattle.i7_sentences.specs.Lowest.{IsNowhere}
use Rattle.i7_sentences.specs.declared.rule_listing.RuleListing.{RuleListing}
use Rattle.i7_sentences.specs.declared.sentence.Sentence.{Sentence}
use Rattle.rule_order.specs.declared.listing.ListingSentence.{ListingSentence}
use Rattle.i7_resolution.specs.ListingList.{ListingAt, listings_in}
use Rattle.i7_resolution.specs.Listings.{IsInOther, IsInOwn, IsInUnknown, IsListed, IsListing, NamesNone, NamesOther, book_words}
use Rattle.i7_resolution.specs.ListingScans.{IsSoFar, State, refused_or, so_far_told, state_of, with_found}
use Rattle.i7_resolution.specs.NumberedRules.{HasBook, all_names, rule_named}
use Rattle.i7_resolution.specs.SourceListings.{AreFound, IsListingsFound, IsMisplaced, IsUnknown}
use Rattle.i7_resolution.specs.declared.listing.ListingFound.{ListingFound}
use Rattle.i7_resolution.specs.declared.listing.ListingFound.TheVariants as found
use Rattle.i7_resolution.specs.declared.source_listings.ListingsFound.{ListingsFound}
use Rattle.i7_resolution.specs.declared.source_listings.SoFar.{SoFar}

pub none_read : (k : Known) (rules : List RuleAt) (state : State) → state ≡ record { listings = []; unknown = None; misplaced = None } → IsSoFar k rules [] state
none_read k rules state is =
    subst (IsSoFar k rules []) (sym is) (record { unknown = low_nothing (IsUnknown k rules); misplaced = low_nothing (IsMisplaced k rules); told = λ known own. tt })

-- words name one rulebook at most
abbrev pub IsOneBook : Type 0
IsOneBook = (actions : List Action) (names : List (List ℕ)) (scenes : ℕ) (words : List Word) (j k : ℕ) → IsFollowed actions names scenes words j → IsFollowed actions names scenes words k → j ≡ k

-- ---- a sentence comes to one thing

pub same_rule : (a b : ℕ) → Some a ≡ Some b → a ≡ b
same_rule a b e = cc

some_none : (a : ℕ) (o : Option ℕ) → o ≡ Some a → o ≡ None → ⊥
some_none a o is isnt = cc

-- where no rule is found by the words
pub none_named : (k : Known) (rules : List RuleAt) (said : RuleListing) (names : List (Option (List ℕ))) (words : List Word) (found : Option ℕ) → names ≡ all_names rules → words ≡ said.rule
    → found ≡ rule_named names words → found ≡ None → NamesNone k rules said
none_named k rules said names words found names_are words_are told none =
    inl (sym (ap (λ (all : List (Option (List ℕ))). rule_named all words) names_are ∙ ap (rule_named (all_names rules)) words_are) ∙ sym told ∙ none)

own_unknown : (k : Known) (rules : List RuleAt) (rule : ℕ) (words : Option (List Word)) → IsInOwn k rules rule words → IsInUnknown k words → ⊥
own_unknown k rules rule None own unknown = unknown
own_unknown k rules rule (Some words) own unknown = unknown own.0 own.1

other_unknown : (k : Known) (rules : List RuleAt) (rule : ℕ) (words : Option (List Word)) → IsInOther k rules rule words → IsInUnknown k words → ⊥
other_unknown k rules rule None other unknown = unknown
other_unknown k rules rule (Some words) other unknown = unknown other.0 other.1

pub listed_none : (k : Known) (rules : List RuleAt) (said : RuleListing) (listing : ListingSentence) → IsListed k rules said listing → NamesNone k rules said → ⊥
listed_none k rules said listing is (inl none) = some_none listing.rule _ is.rule none
listed_none k rules said listing is (inr unknown) = own_unknown k rules listing.rule (book_words said.place) is.own unknown

pub other_none : (k : Known) (rules : List RuleAt) (said : RuleListing) → NamesOther k rules said → NamesNone k rules said → ⊥
other_none k rules said is (inl none) = some_none is.0 _ is.1 none
other_none k rules said is (inr unknown) = other_unknown k rules is.0 (book_words said.place) is.2 unknown

module _ (law : IsOneBook) (k : Known) (rules : List RuleAt) where
  own_other : (rule : ℕ) (words : Option (List Word)) → IsInOwn k rules rule words → IsInOther k rules rule words → ⊥
  own_other rule None own other = other
  own_other rule (Some words) own other =
      other.2 (subst (HasBook k rules rule) (law k.actions k.rulebooks k.scenes words own.0 other.0 own.1 other.1) own.2)

  pub listed_other : (said : RuleListing) (listing : ListingSentence) → IsListed k rules said listing → NamesOther k rules said → ⊥
  listed_other said listing is other =
      own_other other.0 (book_words said.place) (subst (λ (rule : ℕ). IsInOwn k rules rule (book_words said.place)) (same_rule listing.rule other.0 (sym is.rule ∙ other.1)) is.own) other.2

  -- ---- with one more

  module _ (l : ListingAt) (before : List ListingAt) where
    pub listing_further : (found : ListingFound) (state : State) → IsListing k rules l.said found → IsSoFar k rules before state → IsSoFar k rules (l ∷ before) (with_found state l found)
    listing_further (found.Lists listed) state is so = record {
      unknown = low_past (IsUnknown k rules) l before state.unknown (λ line bad. listed_none k rules l.said listed is bad.0) so.unknown;
      misplaced = low_past (IsMisplaced k rules) l before state.misplaced (λ line bad. listed_other l.said listed is bad.0) so.misplaced;
      told = λ known own. (is, so.told known own);
    }
    listing_further found.Unknown state is so = record {
      unknown = low_with (IsUnknown k rules) l before state.unknown l.line (record { is = (is, refl); alone = λ at bad. sym bad.1 }) so.unknown;
      misplaced = low_past (IsMisplaced k rules) l before state.misplaced (λ line bad. other_none k rules l.said bad.0 is) so.misplaced;
      told = λ known own. absurd (not_none state.unknown l.line known);
    }
    listing_further found.OtherBook state is so = record {
      unknown = low_past (IsUnknown k rules) l before state.unknown (λ line bad. other_none k rules l.said is bad.0) so.unknown;
      misplaced = low_with (IsMisplaced k rules) l before state.misplaced l.line (record { is = (is, refl); alone = λ at bad. sym bad.1 }) so.misplaced;
      told = λ known own. absurd (not_none state.misplaced l.line own);
    }

-- ---- what is told of all

module _ (k : Known) (rules : List RuleAt) (listings : List ListingAt) where
  by_misplaced : (line : Option ℕ) (next : ListingsFound) → IsNowhere (IsUnknown k rules) listings → IsLow (IsMisplaced k rules) listings line
      → (IsNowhere (IsMisplaced k rules) listings → line ≡ None → AreFound k rules listings next) → AreFound k rules listings (refused_or WrongKind line next)
  by_misplaced None next known low all = all low refl
  by_misplaced (Some line) next known low all = (known, low)

  by_unknown : (line : Option ℕ) (next : ListingsFound) → IsLow (IsUnknown k rules) listings line → (IsNowhere (IsUnknown k rules) listings → line ≡ None → AreFound k rules listings next)
      → AreFound k rules listings (refused_or UnknownName line next)
  by_unknown None next low all = all low refl
  by_unknown (Some line) next low all = low

  all_told : (so_far : SoFar) → IsSoFar k rules listings (state_of so_far) → AreFound k rules listings (so_far_told so_far)
  all_told so_far so =
      by_unknown so_far.unknown _ so.unknown
      (λ known no_unknown. by_misplaced so_far.misplaced _ known so.misplaced (λ own none_misplaced. record { known = known; own = own; each = so.told no_unknown none_misplaced }))

pub sentences_told : (k : Known) (sentences : List Sentence) (rules : List RuleAt) (listings : List ListingAt) (so_far : SoFar) (found : ListingsFound) → rules ≡ rules_in sentences → listings ≡ listings_in sentences
    → IsSoFar k rules (reverse listings) (state_of so_far) → found ≡ so_far_told so_far → IsListingsFound k sentences found
sentences_told k sentences rules listings so_far found rules_are said so told =
    subst (λ (all : List RuleAt). AreFound k all (reverse (listings_in sentences)) found) rules_are
    (subst (λ (all : List ListingAt). AreFound k rules (reverse all) found) said (subst (AreFound k rules (reverse listings)) (sym told) (all_told k rules (reverse listings) so_far so)))
