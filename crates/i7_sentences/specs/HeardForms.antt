-- What a sentence says by the variant of a form that reads it.
use Rattle.std.specs.Prelude.{ℕ, Bool, true, false, List, Option, Some, None, if◌then◌else◌}
use Rattle.i7_lexer.specs.declared.token.Token.{Token}
use Rattle.i7_sentences.specs.Assertions.{assertion_of}
use Rattle.i7_sentences.specs.Cuts.{line_in}
use Rattle.i7_sentences.specs.Forms.{Variant}
use Rattle.i7_sentences.specs.Names.{Words}
use Rattle.i7_sentences.specs.Reserved.{has_reserved_among}
use Rattle.i7_sentences.specs.RuleHeads.{is_rule_form}
use Rattle.i7_sentences.specs.Rules.{rule_heard}
use Rattle.i7_sentences.specs.declared.heard.Heard.{Heard}
use Rattle.i7_sentences.specs.declared.heard.Heard.TheVariants.{Says, Unread, Reserved}
use Rattle.i7_sentences.specs.declared.sentence.Assertion.{Assertion}

abbrev pub named_heard : ℕ → Bool → Assertion → Heard
named_heard line true said = Reserved line
named_heard line false said = Says said

-- what a sentence at this line says that is no rule, and whether a name in it holds a reserved word
abbrev pub plain_heard : ℕ → Bool → Option Assertion → Heard
plain_heard line is_reserved None = Unread line
plain_heard line is_reserved (Some said) = named_heard line is_reserved said

-- what it says by this fit
abbrev pub plain_found : ℕ → List Words → Variant → List (List Token) → Heard
plain_found line kinds variant letters = plain_heard line (has_reserved_among variant.pieces letters) (assertion_of kinds variant.form letters)

-- what a sentence says by this variant of a form, where these kinds of value are declared
abbrev pub heard_by : List Words → List Token → Variant → List (List Token) → Heard
heard_by kinds tokens variant letters =
    if is_rule_form variant.form then rule_heard tokens
    else plain_found (line_in tokens) kinds variant letters
