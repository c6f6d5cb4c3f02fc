-- Words that are fewer or more than those of a name don't name it, nor are they its plural.
use Rattle.std.proofs.Common.{◌≡◌, ◌≢◌, suc, Bool, true, false, List, [], ◌∷◌, length, refl, ap}
use Rattle.std.specs.Prelude.{◌&&◌}
use Rattle.world_meaning.specs.Spelling.{is_spelled}
use Rattle.i7_lexer.specs.declared.token.Token.{Token}
use Rattle.i7_sentences.specs.Names.{Words, words_in}
use Rattle.i7_sentences.specs.TextPieces.{are_spelled}
use Rattle.i7_sentences.specs.ValueForms.{are_plural}
use Rattle.i7_sentences.specs.Words.{word_of}

pub and_false : (a b : Bool) → b ≡ false → (a && b) ≡ false
and_false true b is = is
and_false false b is = refl

pub other_names : (words : List Token) (names : Words) → length words ≢ length names → are_spelled (words_in words) names ≡ false
other_names [] [] other = absurd (other refl)
other_names [] (name ∷ names) other = refl
other_names (word ∷ words) [] other = refl
other_names (word ∷ words) (name ∷ names) other =
    and_false (is_spelled (word_of word) name) (are_spelled (words_in words) names) (other_names words names (λ same. other (ap suc same)))

pub other_plurals : (words : List Token) (names : Words) → length words ≢ length names → are_plural (words_in words) names ≡ false
other_plurals [] names other = refl
other_plurals (word ∷ words) [] other = refl
other_plurals (word ∷ []) (name ∷ []) other = absurd (other refl)
other_plurals (word ∷ []) (name ∷ next ∷ names) other = and_false (is_spelled (word_of word) name) false refl
other_plurals (word ∷ second ∷ words) (name ∷ []) other = and_false (is_spelled (word_of word) name) false refl
other_plurals (word ∷ second ∷ words) (name ∷ next ∷ names) other =
    and_false (is_spelled (word_of word) name) (are_plural (words_in (second ∷ words)) (next ∷ names)) (other_plurals (second ∷ words) (next ∷ names) (λ same. other (ap suc same)))

pub ruleset count_steps = (other_names, other_plurals)
