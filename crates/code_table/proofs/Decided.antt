-- Codes are a table or none: code by code it is decided whether the next is sound for its use, and names the next tests.
use Rattle.std.proofs.Common.{◌≡◌, ◌∙◌, ap, sym, subst, refl, ℕ, ◌+◌, ◌^◌, ◌<◌, ◌==◌, nat_lt, Bool, true, false, List, [], ◌∷◌, length, replicate, Option, Some, None, inl, inr, ◌⊎◌, arith}
use Rattle.std.specs.List.{AllByRecursion}
use Rattle.std.specs.Prelude.{slice_get}
use Rattle.std.proofs.lemmas.Bool.{eqb-false, eqb-true, ltb-false, ltb-true}
use Rattle.play_meaning.specs.declared.operand.Counts.{Counts}
use Rattle.play_meaning.specs.declared.operand.Use.{Use}
use Rattle.story_code.specs.Runs.{code_told}
use Rattle.story_code.specs.Soundness.{IsSoundCode, Judged}
use Rattle.story_code.specs.SoundlyEmitted.{sizes_as}
use Rattle.story_code.specs.Walks.{checked}
use Rattle.story_code.specs.declared.sizes.Sizes.{Sizes}
use Rattle.story_code.proofs.Exact.{checked_exact}
use Rattle.story_code.proofs.FrontLemmas.{Small}
use Rattle.code_table.specs.Growing.{IsCodeOf, IsNextOf, IsTableFrom, with_tests}
use Rattle.code_table.specs.Tables.{IsTableOf, tests_in}
use Rattle.code_table.proofs.Grown.{one_code}
use Rattle.code_table.proofs.Onward.{table_parts, table_whole}

abbrev pub Decided : Type 0 → Type 0
Decided P = P ⊎ (P → ⊥)

-- bytes are a sound code or none
sound_or_not : (z : Sizes) (bytes : List ℕ) → Small bytes → Decided (IsSoundCode z bytes)
sound_or_not z bytes small = by (nat_lt (length bytes) (2 ^ 16)) refl
  where
    checks : length bytes < 2 ^ 16 → (b : Bool) → b ≡ checked z bytes (replicate (length bytes) 0) → Decided (IsSoundCode z bytes)
    checks few true is = inl ((checked_exact z bytes (length bytes) true small (omega arith) few is).0 refl)
    checks few false is = inr (λ sound. let no : false ≡ true = (checked_exact z bytes (length bytes) false small (omega arith) few is).1 sound in cc)

    by : (b : Bool) → nat_lt (length bytes) (2 ^ 16) ≡ b → Decided (IsSoundCode z bytes)
    by true is = checks (ltb-true _ _ is) (checked z bytes (replicate (length bytes) 0)) refl
    by false is = inr (λ sound. omega (arith, sound.short, ltb-false _ _ is))

module _ (z : Counts) where
  -- the code of a number, and the uses with those of its tests
  pub record IsNext (uses : List Use) (n : ℕ) (bytes : List ℕ) : Type 0 where
    pub judged : Judged
    pub more : List Use
    pub next : IsNextOf z uses n bytes judged more

  code_or_not : (uses : List Use) (n : ℕ) (bytes : List ℕ) → Small bytes → Decided ((j : Judged) × IsCodeOf z uses n bytes j)
  code_or_not uses n bytes small = by (slice_get uses n) refl
    where
      judge : (role : Use) → slice_get uses n ≡ Some role → Decided (IsSoundCode (sizes_as z role n) bytes) → Decided ((j : Judged) × IsCodeOf z uses n bytes j)
      judge role named (inl sound) = inl (record { sizes = sizes_as z role n; bytes = bytes }, record { role = role; named = named; judged = refl; sound = sound })
      judge role named (inr unsound) = inr (λ found.
          let is = found.1 in
          let same : is.role ≡ role = (let e = sym is.named ∙ named in cc) in
          let sound : IsSoundCode (sizes_as z is.role n) bytes = subst (λ (j : Judged). IsSoundCode j.sizes j.bytes) is.judged is.sound in
          unsound (subst (λ r. IsSoundCode (sizes_as z r n) bytes) same sound))

      by : (o : Option Use) → slice_get uses n ≡ o → Decided ((j : Judged) × IsCodeOf z uses n bytes j)
      by None none = inr (λ found. let e = sym none ∙ found.1.named in cc)
      by (Some role) named = judge role named (sound_or_not (sizes_as z role n) bytes small)

  next_or_not : (uses : List Use) (n : ℕ) (bytes : List ℕ) → Small bytes → Decided (IsNext uses n bytes)
  next_or_not uses n bytes small = by (code_or_not uses n bytes small)
    where
      names : (j : Judged) → IsCodeOf z uses n bytes j → (o : Option (List Use)) → with_tests uses (tests_in (code_told j)) ≡ o → Decided (IsNext uses n bytes)
      names j is (Some more) named = inl (record { judged = j; more = more; next = record { code = is; names = named } })
      names j is None none = inr (λ other.
          let same = one_code z uses n bytes j other.judged is other.next.code in
          let e = sym none ∙ ap (λ (x : Judged). with_tests uses (tests_in (code_told x))) same ∙ other.next.names in
          cc)

      by : Decided ((j : Judged) × IsCodeOf z uses n bytes j) → Decided (IsNext uses n bytes)
      by (inl found) = names found.0 found.1 (with_tests uses (tests_in (code_told found.0))) refl
      by (inr never) = inr (λ other. never (other.judged, other.next.code))

  from_or_not : (uses : List Use) (n : ℕ) (codes : List (List ℕ)) → AllByRecursion Small codes → Decided ((judged : List Judged) × IsTableFrom z uses n codes judged)
  from_or_not uses n [] small = by (n == length uses) refl
    where
      none : (judged : List Judged) → (n ≡ length uses → ⊥) → IsTableFrom z uses n [] judged → ⊥
      none [] other is = other is
      none (j ∷ judged) other is = is

      by : (b : Bool) → (n == length uses) ≡ b → Decided ((judged : List Judged) × IsTableFrom z uses n [] judged)
      by true same = inl ([], eqb-true n (length uses) same)
      by false other = inr (λ found. none found.0 (eqb-false n (length uses) other) found.1)
  from_or_not uses n (bytes ∷ codes) small = by (next_or_not uses n bytes small.0) (λ more. from_or_not more (n + 1) codes small.1)
    where
      cut : (judged : List Judged) → IsTableFrom z uses n (bytes ∷ codes) judged → (one : IsNext uses n bytes) × ((later : List Judged) × IsTableFrom z one.more (n + 1) codes later)
      cut [] is = absurd is
      cut (j ∷ judged) is = (record { judged = j; more = is.0; next = is.1.0 }, (judged, is.1.1))

      same_uses : (one other : IsNext uses n bytes) → one.more ≡ other.more
      same_uses one other =
          let same = one_code z uses n bytes one.judged other.judged one.next.code other.next.code in
          let e = sym one.next.names ∙ ap (λ (x : Judged). with_tests uses (tests_in (code_told x))) same ∙ other.next.names in
          cc

      rest : (one : IsNext uses n bytes) → Decided ((judged : List Judged) × IsTableFrom z one.more (n + 1) codes judged) → Decided ((judged : List Judged) × IsTableFrom z uses n (bytes ∷ codes) judged)
      rest one (inl found) = inl (one.judged ∷ found.0, (one.more, (one.next, found.1)))
      rest one (inr never) = inr (λ found.
          let parts = cut found.0 found.1 in
          never (parts.1.0, subst (λ uses. IsTableFrom z uses (n + 1) codes parts.1.0) (same_uses parts.0 one) parts.1.1))

      by : Decided (IsNext uses n bytes) → ((more : List Use) → Decided ((judged : List Judged) × IsTableFrom z more (n + 1) codes judged)) → Decided ((judged : List Judged) × IsTableFrom z uses n (bytes ∷ codes) judged)
      by (inl one) later = rest one (later one.more)
      by (inr never) later = inr (λ found. never (cut found.0 found.1).0)

  pub table_or_not : (heads : List Use) (codes : List (List ℕ)) → AllByRecursion Small codes → ((judged : List Judged) × IsTableOf z heads codes judged) ⊎ ((judged : List Judged) → IsTableOf z heads codes judged → ⊥)
  table_or_not heads codes small = by (z.codes == length codes) refl
    where
      told : z.codes ≡ length codes → Decided ((judged : List Judged) × IsTableFrom z heads 0 codes judged) → ((judged : List Judged) × IsTableOf z heads codes judged) ⊎ ((judged : List Judged) → IsTableOf z heads codes judged → ⊥)
      told all (inl found) = inl (found.0, table_whole z heads codes found.0 all found.1)
      told all (inr never) = inr (λ judged table. never (judged, table_parts z heads codes judged table))

      by : (b : Bool) → (z.codes == length codes) ≡ b → ((judged : List Judged) × IsTableOf z heads codes judged) ⊎ ((judged : List Judged) → IsTableOf z heads codes judged → ⊥)
      by true all = told (eqb-true _ _ all) (from_or_not heads 0 codes small)
      by false other = inr (λ judged table. eqb-false _ _ other table.all)

pub table_or_none : (z : Counts) (heads : List Use) (codes : List (List ℕ)) → AllByRecursion Small codes
    → ((judged : List Judged) × IsTableOf z heads codes judged) ⊎ ((judged : List Judged) → IsTableOf z heads codes judged → ⊥)
table_or_none z heads codes small = table_or_not z heads codes small
