-- A sentence of which the word `value` isn't the last, the first or the second tells nothing of kinds of value.
use Rattle.std.proofs.Common.{◌≡◌, Bool, true, false, List, [], ◌∷◌, ◌++◌, refl, ap, sym, ◌∙◌, append_assoc}
use Rattle.std.specs.Prelude.{◌||◌, Option, Some, None, if◌then◌else◌}
use Rattle.std.specs.List.{list_any}
use Rattle.std.proofs.lemmas.Bool.{false≢true}
use Rattle.i7_lexer.specs.declared.token.Token.{Token}
use Rattle.i7_sentences.specs.Forms.{Fits}
use Rattle.i7_sentences.specs.Keywords.{is_sign}
use Rattle.i7_sentences.specs.KindsOfValue.{declared_by, ends_in_value, first_name, is_read_before, opens_with_value, speaks_of_value, value_itself}
use Rattle.i7_sentences.specs.Matching.{first_fit}
use Rattle.i7_sentences.specs.declared.class.Class.TheVariants as class
use Rattle.i7_sentences.specs.declared.form.Piece.{Piece}
use Rattle.i7_sentences.specs.declared.form.Piece.TheVariants.{Word, Letter}
use Rattle.i7_sentences.specs.declared.keyword.Keyword.TheVariants.{A, Is, Kind, Of, Value}
use Rattle.i7_sentences.specs.declared.part.PartKind.TheVariants.{Sentence}
use Rattle.i7_sentences.specs.declared.value_form.TheConstants.{KIND_OF_VALUE}
use Rattle.i7_sentences.proofs.Fitting.{Fitted, fitted}
use Rattle.i7_sentences.proofs.Lists.{last_part}

never_fits : (pieces : List Piece) (tokens : List Token) → ((letters : List (List Token)) → Fits pieces tokens letters → ⊥) → first_fit pieces tokens ≡ None
never_fits pieces tokens unfit =
    let Goal : Option (List (List Token)) → Type 0 = λ found. Fitted pieces tokens found → found ≡ None
    in (elim (first_fit pieces tokens) as Goal [
      | None ↦ λ none. refl
      | Some letters ↦ λ found. absurd (unfit letters found.fits)
    ]) (fitted pieces tokens)

last_value : (front : List Token) (token : Token) → is_sign Value token ≡ true → ends_in_value (front ++ token ∷ []) ≡ true
last_value front token is = ap (list_any (is_sign Value)) (last_part front (token ∷ [])) ∙ rw is refl

kind_ends : (tokens : List Token) (letters : List (List Token)) → Fits KIND_OF_VALUE.now tokens letters → ends_in_value tokens ≡ true
kind_ends tokens letters fits =
    let one = fits.behind in
    let two = one.behind in
    let three = two.behind in
    let four = three.behind in
    let five = four.behind in
    let front = one.word ∷ two.word ∷ three.word ∷ four.word ∷ [] in
    let rest : fits.rest ≡ front ++ five.word ∷ [] = one.parts
    ∙ ap (λ (ts : List Token). one.word ∷ ts) (two.parts
    ∙ ap (λ (ts : List Token). two.word ∷ ts) (three.parts
    ∙ ap (λ (ts : List Token). three.word ∷ ts) (four.parts
    ∙ ap (λ (ts : List Token). four.word ∷ ts) (five.parts
    ∙ ap (λ (ts : List Token). five.word ∷ ts) five.behind.0)))) in
    let whole : tokens ≡ (fits.words ++ front) ++ five.word ∷ [] = fits.parts
    ∙ ap (λ (ts : List Token). fits.words ++ ts) rest
    ∙ sym (append_assoc fits.words front (five.word ∷ [])) in
    ap ends_in_value whole ∙ last_value (fits.words ++ front) five.word five.is_word

no_name : (read : Bool) → (if read then None else first_name None) ≡ None
no_name true = refl
no_name false = refl

pub undeclared : (tokens : List Token) → ends_in_value tokens ≡ false → declared_by Sentence tokens ≡ None
undeclared tokens isnt =
    ap (λ (found : Option (List (List Token))). if is_read_before tokens then None else first_name found)
    (never_fits KIND_OF_VALUE.now tokens (λ letters fits. false≢true (sym isnt ∙ kind_ends tokens letters fits)))
    ∙ no_name (is_read_before tokens)

first_opens : (first : Token) (rest : List Token) → is_sign Value first ≡ true → opens_with_value (first ∷ rest) ≡ true
first_opens first [] is = is
first_opens first (second ∷ more) is = rw is refl

or_second : (a b : Bool) → b ≡ true → (a || b) ≡ true
or_second true b is = refl
or_second false b is = is

alone_none : (pieces : List Piece) (tokens : List Token) → opens_with_value tokens ≡ false → first_fit (Word Value ∷ pieces) tokens ≡ None
alone_none pieces tokens isnt = never_fits (Word Value ∷ pieces) tokens (λ letters fits. false≢true (sym isnt ∙ ap opens_with_value fits.parts ∙ first_opens fits.word fits.rest fits.is_word))

behind_none : (pieces : List Piece) (tokens : List Token) → opens_with_value tokens ≡ false → first_fit (Letter class.Article ∷ Word Value ∷ pieces) tokens ≡ None
behind_none pieces tokens isnt = never_fits (Letter class.Article ∷ Word Value ∷ pieces) tokens (λ letters fits.
    let first : Token = fits.is_of_class.token in
    let is : opens_with_value (first ∷ fits.behind.word ∷ fits.behind.rest) ≡ true = or_second (is_sign Value first) (is_sign Value fits.behind.word) fits.behind.is_word in
    let whole : tokens ≡ first ∷ fits.behind.word ∷ fits.behind.rest = fits.parts
    ∙ ap (λ (ts : List Token). ts ++ fits.rest) fits.is_of_class.alone
    ∙ ap (λ (ts : List Token). first ∷ ts) fits.behind.parts in
    false≢true (sym isnt ∙ ap opens_with_value whole ∙ is))

abbrev kind_pieces : List Piece
kind_pieces = Word Is ∷ Word A ∷ Word Kind ∷ Word Of ∷ Letter class.Name ∷ []

pub unspoken : (tokens : List Token) → opens_with_value tokens ≡ false → speaks_of_value Sentence tokens ≡ false
unfolding value_itself
unspoken tokens isnt = rw (alone_none kind_pieces tokens isnt, behind_none kind_pieces tokens isnt) refl

pub ruleset value_steps = (undeclared, unspoken)
