-- Words that are too many for a name and open nothing name nothing.
use Rattle.std.proofs.Common.{◌≡◌, ◌+◌, ◌<◌, ◌≤◌, true, not, ◌&&◌, List, [], ◌∷◌, length, refl, ap, arith, inl, inr}
use Rattle.std.specs.Prelude.{Option, Some, None, is_none, nat_lt}
use Rattle.std.proofs.lemmas.Bool.{lt-ltb, ltb-true, cases_Bool, and_parts}
use Rattle.world_meaning.specs.Spelling.{is_article}
use Rattle.i7_conditions.specs.Marks.{has_from, mark_named, marks_behind, marks_of, names_nothing, split_opening}
use Rattle.i7_conditions.specs.Plain.{plainly_named}
use Rattle.i7_conditions.specs.Scopes.{Scope}
use Rattle.i7_conditions.specs.Words.{Word, is_empty, without_article}
use Rattle.i7_conditions.specs.declared.mark.Mark.{Mark}
use Rattle.i7_conditions.specs.declared.mark.Mark.TheVariants.{Unknown}

-- one article is one word
article_left : (words : List Word) → length words ≤ length (without_article words) + 1
article_left [] = omega arith
article_left (first ∷ rest) =
    elim (cases_Bool (is_article first && not (is_empty rest))) [
      | inl is ↦ rw is (omega arith)
      | inr isnt ↦ rw isnt (omega arith)
    ]

no_name : (s : Scope) (words : List Word) → 33 < length words → plainly_named s words ≡ None
unfolding plainly_named
no_name s words long =
    let many : nat_lt 32 (length (without_article words)) ≡ true = lt-ltb 32 (length (without_article words)) (omega (arith, long, article_left words)) in
    rw many refl

none_opens : (found : Option (Mark × List Word)) → is_none found ≡ true → found ≡ None
none_opens None is = refl
none_opens (Some parts) is = absurd cc

pub nothing_named : (s : Scope) (words : List Word) → names_nothing words ≡ true → marks_of s words ≡ Unknown ∷ []
nothing_named s words is =
    let parts = and_parts (nat_lt 33 (length words)) (is_none (split_opening words)) is in
    elim (cases_Bool (has_from words)) [
      | inl has ↦ rw has (ap (marks_behind s) (none_opens (split_opening words) parts.1))
      | inr hasnt ↦ rw hasnt (ap (λ (named : Option Mark). mark_named named ∷ []) (no_name s words (ltb-true _ _ parts.0)))
    ]
