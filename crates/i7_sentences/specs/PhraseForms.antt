-- What a phrase is, by its shape.
use Rattle.std.specs.Prelude.{Bool, List, map, Option, Some, None}
use Rattle.i7_lexer.specs.declared.token.Token.{Token}
use Rattle.i7_sentences.specs.Forms.{Variant}
use Rattle.i7_sentences.specs.Matching.{Found, lowest_fit}
use Rattle.i7_sentences.specs.Reserved.{has_reserved_among}
use Rattle.i7_sentences.specs.declared.form.Form.{Form}
use Rattle.i7_sentences.specs.declared.form.Form.TheVariants as form
use Rattle.i7_sentences.specs.declared.phrase_form.PhraseForm.{PhraseForm}
use Rattle.i7_sentences.specs.declared.phrase_form.PhraseShape.{PhraseShape}
use Rattle.i7_sentences.specs.declared.phrase_form.TheConstants.{PHRASE_FORMS}

-- the forms of phrases
unfoldable pub phrase_forms : List (List Variant)
phrase_forms = map (λ form. map (λ variant. record { form = variant.0; pieces = variant.1.now }) form.1.now) PHRASE_FORMS

abbrev pub is_phrase_form : Form → Option PhraseForm
is_phrase_form (form.Phrase phrase) = Some phrase
is_phrase_form _ = None

abbrev pub shape_with : Bool → Option PhraseForm → Option PhraseShape
shape_with is_reserved None = None
shape_with is_reserved (Some form) = Some (record { form = form; has_reserved_name = is_reserved })

abbrev pub shape_found : Option Found → Option PhraseShape
shape_found None = None
shape_found (Some found) =
    shape_with (has_reserved_among found.variant.pieces found.letters) (is_phrase_form found.variant.form)

-- the first of the forms that fits a phrase, and whether a name in it holds a reserved word
abbrev pub shape_in : List Token → Option PhraseShape
shape_in tokens = shape_found (lowest_fit phrase_forms tokens)
