-- What a sentence comes to that lists a rule (*Writing with Inform*, 19.16), once names are known.
use Rattle.std.specs.Prelude.{◌≡◌, ◌⊎◌, ℕ, ◌==◌, Bool, false, List, Option, None, Some}
use Rattle.i7_actions.specs.Books.{IsFollowed}
use Rattle.i7_conditions.specs.Words.{Word}
use Rattle.i7_rules.specs.Knowns.{Known}
use Rattle.i7_rules.specs.RuleList.{RuleAt}
use Rattle.i7_sentences.specs.declared.rule_listing.ListedIn.{ListedIn}
use Rattle.i7_sentences.specs.declared.rule_listing.ListedIn.TheVariants.{First, Last, Nowhere}
use Rattle.i7_sentences.specs.declared.rule_listing.RuleListing.{RuleListing}
use Rattle.rule_order.specs.declared.listing.Front.{Front}
use Rattle.rule_order.specs.declared.listing.Front.TheVariants as front
use Rattle.rule_order.specs.declared.listing.ListingSentence.{ListingSentence}
use Rattle.i7_resolution.specs.NumberedRules.{HasBook, all_names, rule_named}
use Rattle.i7_resolution.specs.declared.listing.ListingFound.{ListingFound}
use Rattle.i7_resolution.specs.declared.listing.ListingFound.TheVariants.{Lists, OtherBook, Unknown}

abbrev pub front_of : ListedIn → Front
front_of (First words) = front.First
front_of (Last words) = front.Last
front_of Nowhere = front.Nowhere

-- the words that name the rulebook, if one is named
abbrev pub book_words : ListedIn → Option (List Word)
book_words (First words) = Some words
book_words (Last words) = Some words
book_words Nowhere = None

-- ---- the rulebook: as `follow` names it

abbrev pub NamesBook : Known → List Word → ℕ → Type 0
NamesBook k words = IsFollowed k.actions k.rulebooks k.scenes words

-- the rule is listed in its own rulebook, or in none
abbrev pub IsInOwn : Known → List RuleAt → ℕ → Option (List Word) → Type 0
IsInOwn k rules rule None = Unit {0}
IsInOwn k rules rule (Some words) = (book : ℕ) × NamesBook k words book × HasBook k rules rule book

abbrev pub IsInUnknown : Known → Option (List Word) → Type 0
IsInUnknown k None = ⊥
IsInUnknown k (Some words) = (book : ℕ) → NamesBook k words book → ⊥

abbrev pub IsInOther : Known → List RuleAt → ℕ → Option (List Word) → Type 0
IsInOther k rules rule None = ⊥
IsInOther k rules rule (Some words) = (book : ℕ) × NamesBook k words book × (HasBook k rules rule book → ⊥)

-- ---- the whole sentence

abbrev pub Names : List RuleAt → RuleListing → Option ℕ → Type 0
Names rules said rule = rule_named (all_names rules) said.rule ≡ rule

-- the sentence lists this rule so
pub record IsListed (k : Known) (rules : List RuleAt) (said : RuleListing) (listing : ListingSentence) : Type 0 where
  pub rule : Names rules said (Some listing.rule)
  pub at : listing.at ≡ front_of said.place
  pub own : IsInOwn k rules listing.rule (book_words said.place)

-- it names no rule, or no rulebook
abbrev pub NamesNone : Known → List RuleAt → RuleListing → Type 0
NamesNone k rules said = Names rules said None ⊎ IsInUnknown k (book_words said.place)

-- it names a rulebook that isn't the rule's own; so it does of a rule whose own isn't there, which is refused for that before
abbrev pub NamesOther : Known → List RuleAt → RuleListing → Type 0
NamesOther k rules said = (rule : ℕ) × Names rules said (Some rule) × IsInOther k rules rule (book_words said.place)

abbrev pub IsListing : Known → List RuleAt → RuleListing → ListingFound → Type 0
IsListing k rules said (Lists listing) = IsListed k rules said listing
IsListing k rules said Unknown = NamesNone k rules said
IsListing k rules said OtherBook = NamesOther k rules said

-- ---- once the rule is known

abbrev pub is_book : Option ℕ → ℕ → Bool
is_book None book = false
is_book (Some own) book = own == book

abbrev pub IsPlaced : Known → List RuleAt → ListingSentence → Option (List Word) → ListingFound → Type 0
IsPlaced k rules listing words (Lists found) = (found ≡ listing) × IsInOwn k rules listing.rule words
IsPlaced k rules listing words Unknown = IsInUnknown k words
IsPlaced k rules listing words OtherBook = IsInOther k rules listing.rule words
