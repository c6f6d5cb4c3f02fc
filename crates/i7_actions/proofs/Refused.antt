-- Many words that nothing opens mean no object.
use Rattle.std.proofs.Common.{◌≡◌, ◌<◌, true, false, List, [], ◌∷◌, length, refl, ap, ◌∙◌, arith, inl, inr}
use Rattle.std.specs.Prelude.{None, nat_lt, codes}
use Rattle.std.proofs.lemmas.Bool.Decides.{nat_tests}
use Rattle.std.proofs.lemmas.Bool.{cases_Bool, or_parts}
use Rattle.world_meaning.specs.Spelling.{is_article, is_spelled}
use Rattle.i7_conditions.specs.Marks.{has_from, marks_of, split_opening}
use Rattle.i7_conditions.specs.Parts.{put_together}
use Rattle.i7_conditions.specs.Plain.{plainly_named}
use Rattle.i7_conditions.specs.Scopes.{Scope}
use Rattle.i7_conditions.specs.Words.{Word, beyond_of}
use Rattle.i7_conditions.specs.declared.found.Found.TheVariants.{Unread}
use Rattle.i7_conditions.specs.declared.mark.Mark.TheVariants.{Unknown}
use Rattle.i7_actions.specs.NounForms.{is_opening, may_open, noun_said}

opens_nothing : (word : Word) → is_opening word ≡ false → beyond_of word ≡ None
unfolding is_opening beyond_of
opens_nothing word e =
    let nor = or_parts (is_spelled word (codes "room")) (is_spelled word (codes "door")) e in
    rw (nor.0, nor.1) refl

nothing_opened : (first second : Word) (words : List Word) → may_open (first ∷ second ∷ words) ≡ false → split_opening (first ∷ second ∷ words) ≡ None
nothing_opened first second words e =
    let nor = or_parts (is_opening first) (is_opening second) e in
    elim (cases_Bool (is_article first)) [
      | inl is ↦ rw (is, opens_nothing second nor.1) refl
      | inr isnt ↦ rw (isnt, opens_nothing first nor.0) refl
    ]

too_long : (first second : Word) (words : List Word) (s : Scope) → 33 < length (first ∷ second ∷ words) → plainly_named s (first ∷ second ∷ words) ≡ None
unfolding plainly_named
too_long first second words s lt =
    elim (cases_Bool (is_article first)) [
      | inl is ↦ let over : nat_lt 32 (length (second ∷ words)) ≡ true = grind (arith, nat_tests) in rw (is, over) refl
      | inr isnt ↦ let over : nat_lt 32 (length (first ∷ second ∷ words)) ≡ true = grind (arith, nat_tests) in rw (isnt, over) refl
    ]

unknown_marks : (s : Scope) (first second : Word) (words : List Word) → 33 < length (first ∷ second ∷ words) → may_open (first ∷ second ∷ words) ≡ false
    → marks_of s (first ∷ second ∷ words) ≡ Unknown ∷ []
unknown_marks s first second words lt e =
    elim (cases_Bool (has_from (first ∷ second ∷ words))) [
      | inl is ↦ rw (is, nothing_opened first second words e) refl
      | inr isnt ↦ rw (isnt, too_long first second words s lt) refl
    ]

unknown_unread : put_together (Unknown ∷ []) ≡ Unread
unfolding put_together
unknown_unread = refl

pub long_refused : (s : Scope) (words : List Word) → 33 < length words → may_open words ≡ false → noun_said s words ≡ Unread
long_refused s [] lt e = refl
long_refused s (first ∷ []) lt e = absurd (omega (arith, lt))
long_refused s (first ∷ second ∷ words) lt e = ap put_together (unknown_marks s first second words lt e) ∙ unknown_unread
