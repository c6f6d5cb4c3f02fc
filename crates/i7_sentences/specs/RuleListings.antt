-- What a sentence says that lists a rule.
use Rattle.std.specs.Prelude.{List, [], ◌∷◌, Option, Some, None}
use Rattle.i7_lexer.specs.declared.token.Token.{Token}
use Rattle.i7_sentences.specs.Names.{named_in}
use Rattle.i7_sentences.specs.declared.rule_listing.ListedIn.{ListedIn}
use Rattle.i7_sentences.specs.declared.rule_listing.ListedIn.TheVariants.{First, Last, Nowhere}
use Rattle.i7_sentences.specs.declared.sentence.Assertion.{Assertion}
use Rattle.i7_sentences.specs.declared.sentence.Assertion.TheVariants as assertion

abbrev pub listing : List Token → ListedIn → Option Assertion
listing rule place = Some (assertion.Listing (record { rule = named_in rule; place = place }))

abbrev pub listed_first : List (List Token) → Option Assertion
listed_first (rule ∷ book ∷ []) = listing rule (First (named_in book))
listed_first _ = None

abbrev pub listed_last : List (List Token) → Option Assertion
listed_last (rule ∷ book ∷ []) = listing rule (Last (named_in book))
listed_last _ = None

abbrev pub not_listed : List (List Token) → Option Assertion
not_listed (rule ∷ []) = listing rule Nowhere
not_listed _ = None
