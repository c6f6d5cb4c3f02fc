-- The walk over a code's bytes, and what the names come to that its instructions hold.
use Rattle.std.proofs.Common.{◌≡◌, ◌∙◌, ap, sym, refl, ℕ, Bool, true, false, List, [], ◌++◌, drop, Option, Some, None}
use Rattle.std.specs.List.{flat_map}
use Rattle.play_meaning.specs.Instructions.{size_of}
use Rattle.play_meaning.specs.declared.instruction.Instruction.{Instruction}
use Rattle.story_code.specs.Fronts.{code_in, front, with_first}
use Rattle.story_code.specs.Passes.{if_so, is_nil}
use Rattle.story_code.proofs.WalkLemmas.{code_is_none, code_splits}
use Rattle.code_table.specs.Growing.{over_code}

module _ {S X : Type 0} (f : S → List X → Option S) (names : Instruction → List X) where
  abbrev pub Joins : Type 0
  Joins = (s t : S) (a b : List X) → f s a ≡ Some t → f s (a ++ b) ≡ f t b

  abbrev pub Stops : Type 0
  Stops = (s : S) (a b : List X) → f s a ≡ None → f s (a ++ b) ≡ None

  first_on : Joins → (s t : S) (i : Instruction) (o : Option (List Instruction)) → f s (names i) ≡ Some t → over_code f names s (with_first i o) ≡ over_code f names t o
  first_on joins s t i None is = refl
  first_on joins s t i (Some code) is = joins s t (names i) (flat_map names code) is

  first_stops : Stops → (s : S) (i : Instruction) (o : Option (List Instruction)) → f s (names i) ≡ None → over_code f names s (with_first i o) ≡ None
  first_stops stops s i None is = refl
  first_stops stops s i (Some code) is = stops s (names i) (flat_map names code) is

  pub walk_on : Joins → (bytes after : List ℕ) (i : Instruction) (n : ℕ) (s t : S) (whole : Option S) → front bytes ≡ Some i → n ≡ size_of i → after ≡ drop n bytes → f s (names i) ≡ Some t
      → over_code f names s (code_in bytes) ≡ whole → over_code f names t (code_in after) ≡ whole
  walk_on joins bytes after i n s t whole at long behind is so_far =
      ap (λ b. over_code f names t (code_in b)) (behind ∙ ap (λ m. drop m bytes) long) ∙ sym (first_on joins s t i (code_in (drop (size_of i) bytes)) is)
      ∙ ap (over_code f names s) (sym (code_splits bytes i at)) ∙ so_far

  pub walk_stops : Stops → (bytes : List ℕ) (i : Instruction) (s : S) (whole : Option S) → front bytes ≡ Some i → f s (names i) ≡ None → over_code f names s (code_in bytes) ≡ whole → None ≡ whole
  walk_stops stops bytes i s whole at is so_far =
      sym (first_stops stops s i (code_in (drop (size_of i) bytes)) is) ∙ ap (over_code f names s) (sym (code_splits bytes i at)) ∙ so_far

  pub walk_ends : ((s : S) → f s [] ≡ Some s) → (bytes : List ℕ) (s : S) (whole : Option S) → front bytes ≡ None → over_code f names s (code_in bytes) ≡ whole → if_so (is_nil bytes) s ≡ whole
  walk_ends none bytes s whole at so_far = sym (by (is_nil bytes)) ∙ ap (over_code f names s) (sym (code_is_none bytes at)) ∙ so_far
    where
      by : (b : Bool) → over_code f names s (if_so b []) ≡ if_so b s
      by true = none s
      by false = refl
