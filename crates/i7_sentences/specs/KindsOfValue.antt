-- The kinds of value that a source declares: there are none where it says of value itself that it is a kind.
use Rattle.std.specs.Prelude.{◌-◌, Bool, false, ◌||◌, List, [], ◌∷◌, length, drop, map, Option, Some, None, is_some, if◌then◌else◌}
use Rattle.std.specs.List.{filter_map, list_any}
use Rattle.i7_lexer.specs.declared.token.Token.{Token}
use Rattle.i7_sentences.specs.Cuts.{Piece}
use Rattle.i7_sentences.specs.Forms.{Variant, lower_forms, middle_forms}
use Rattle.i7_sentences.specs.Keywords.{is_sign}
use Rattle.i7_sentences.specs.Matching.{best_fit, first_fit, lowest_fit}
use Rattle.i7_sentences.specs.Names.{named_in, Words}
use Rattle.i7_sentences.specs.declared.keyword.Keyword.TheVariants.{Value}
use Rattle.i7_sentences.specs.declared.part.PartKind.{PartKind}
use Rattle.i7_sentences.specs.declared.part.PartKind.TheVariants.{Title, Heading, Sentence}
use Rattle.i7_sentences.specs.declared.value_form.TheConstants.{KIND_OF_VALUE, VALUE_ITSELF}

-- the variants of what says of value itself that it is a kind
unfoldable pub value_itself : List Variant
value_itself = map (λ variant. record { form = variant.0; pieces = variant.1.now }) VALUE_ITSELF

abbrev pub speaks_of_value : PartKind → List Token → Bool
speaks_of_value Title tokens = false
speaks_of_value Heading tokens = false
speaks_of_value Sentence tokens = is_some (best_fit value_itself tokens)

abbrev pub is_value_itself : Piece → Bool
is_value_itself part = speaks_of_value part.kind part.tokens

abbrev pub first_name : Option (List (List Token)) → Option Words
first_name None = None
first_name (Some []) = None
first_name (Some (name ∷ letters)) = Some (named_in name)

-- a form reads the words that is tried before those that speak of kinds of value
abbrev pub is_read_before : List Token → Bool
is_read_before tokens = is_some (lowest_fit lower_forms tokens) || is_some (lowest_fit middle_forms tokens)

abbrev pub declared_by : PartKind → List Token → Option Words
declared_by Title tokens = None
declared_by Heading tokens = None
declared_by Sentence tokens = if is_read_before tokens then None else first_name (first_fit KIND_OF_VALUE.now tokens)

-- the kind of value that a sentence declares which no form reads that is tried before
abbrev pub declared_in : Piece → Option Words
declared_in part = declared_by part.kind part.tokens

-- only such sentences tell something of kinds of value: the word `value` is their last, their first or their second
abbrev pub ends_in_value : List Token → Bool
ends_in_value tokens = list_any (is_sign Value) (drop (length tokens - 1) tokens)

abbrev pub opens_with_value : List Token → Bool
opens_with_value [] = false
opens_with_value (first ∷ []) = is_sign Value first
opens_with_value (first ∷ second ∷ more) = is_sign Value first || is_sign Value second

-- the kinds of value that these parts declare
unfoldable pub kinds_of_value : List Piece → List Words
kinds_of_value parts = if list_any is_value_itself parts then [] else filter_map declared_in parts
