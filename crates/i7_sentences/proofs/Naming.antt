-- The first name of a list, and the names behind it.
use Rattle.std.proofs.Common.{◌≡◌, ◌<◌, ◌≤◌, ◌+◌, Bool, true, false, List, [], ◌∷◌, length, take, drop, ◌++◌, map, refl, ap, sym, ◌∙◌, append_assoc, arith}
use Rattle.std.specs.Prelude.{if◌then◌else◌}
use Rattle.std.proofs.lemmas.Grind.{common_steps}
use Rattle.i7_lexer.specs.declared.token.Token.{Token}
use Rattle.i7_sentences.specs.declared.name.Name.{Name}
use Rattle.i7_sentences.specs.Names.{name_len, name_of, names_from, onto_name, parts_names, rest_of, unjoined}

names_within : (words : List Token) → names_from false words ≡ take (unjoined words) words ∷ names_from true (rest_of (drop (unjoined words) words))
names_within [] = refl
names_within (word ∷ words) =
    let Goal : Bool → Type 0 = λ joint.
    (if joint then [] ∷ names_from true words else onto_name word (names_from false words))
    ≡ take (if joint then 0 else 1 + unjoined words) (word ∷ words) ∷ names_from true (rest_of (drop (if joint then 0 else 1 + unjoined words) (word ∷ words)))
    in elim (parts_names word words) as Goal [
      | true ↦ refl
      | false ↦ ap (onto_name word) (names_within words) ∙ grind (arith, common_steps)
    ]

pub names_step : (words : List Token) → 0 < length words → names_from true words ≡ take (name_len words) words ∷ names_from true (rest_of (drop (name_len words) words))
names_step [] some = absurd (omega (arith, some))
names_step (word ∷ words) some = ap (onto_name word) (names_within words) ∙ grind (arith, common_steps)

pub name_len-positive : (words : List Token) → 0 < length words → 0 < name_len words
name_len-positive [] some = absurd (omega (arith, some))
name_len-positive (word ∷ words) some = omega arith

pub rest_of-shorter : (words : List Token) → length (rest_of words) ≤ length words
rest_of-shorter [] = omega arith
rest_of-shorter (word ∷ words) = omega arith

-- the names so far, with one more
pub names_onto : (names : List Name) (words : List Token) → 0 < length words
    → (names ++ name_of (take (name_len words) words) ∷ []) ++ map name_of (names_from true (rest_of (drop (name_len words) words))) ≡ names ++ map name_of (names_from true words)
names_onto names words some =
    append_assoc names (name_of (take (name_len words) words) ∷ []) (map name_of (names_from true (rest_of (drop (name_len words) words))))
    ∙ ap (λ more. names ++ map name_of more) (sym (names_step words some))

pub ruleset names_steps = (names_step, names_onto, name_len-positive, rest_of-shorter)
