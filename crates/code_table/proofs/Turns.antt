-- Tests that are named each by the next number.
use Rattle.std.proofs.Common.{◌≡◌, ◌∙◌, ap, sym, refl, ℕ, ◌+◌, ◌<◌, nat_lt, Bool, true, false, ◌&&◌, if◌then◌else◌, List, [], ◌∷◌, ◌++◌, length, append_assoc, append-nil, Option, Some, None, arith, length-append}
use Rattle.std.specs.List.{AllByRecursion, range_with_len}
use Rattle.std.specs.Prelude.{map}
use Rattle.std.proofs.lemmas.Bool.{and_parts, eq-eqb, eqb-true, lt-ltb}
use Rattle.play_meaning.specs.declared.operand.Use.{Use}
use Rattle.code_table.specs.Growing.{is_next, with_tests}
use Rattle.code_table.specs.Tables.{use_of}

abbrev pub number_of : ℕ × ℕ → ℕ
number_of named = named.1

-- the tests have the numbers from this one on
abbrev pub AreInTurn : ℕ → List (ℕ × ℕ) → Type 0
AreInTurn n named = map number_of named ≡ range_with_len n (length named)

module _ (uses : List Use) (named : ℕ × ℕ) (rest : List (ℕ × ℕ)) where
  abbrev Onward : Bool → Option (List Use)
  Onward is = if is then with_tests (uses ++ use_of named ∷ []) rest else None

pub added : (uses : List Use) (named : List (ℕ × ℕ)) (more : List Use) → with_tests uses named ≡ Some more → (more ≡ uses ++ map use_of named) × AreInTurn (length uses) named
added uses [] more is = let same : more ≡ uses = cc in (same ∙ sym (append-nil uses), refl)
added uses (t ∷ ts) more is = by (is_next uses t) refl is (λ later. added (uses ++ use_of t ∷ []) ts more later)
  where
    by : (b : Bool) → is_next uses t ≡ b → Onward uses t ts b ≡ Some more
        → (with_tests (uses ++ use_of t ∷ []) ts ≡ Some more → (more ≡ (uses ++ use_of t ∷ []) ++ map use_of ts) × AreInTurn (length (uses ++ use_of t ∷ [])) ts)
        → (more ≡ uses ++ map use_of (t ∷ ts)) × AreInTurn (length uses) (t ∷ ts)
    by false next is later = absurd cc
    by true next is later =
        let rest = later is in
        let at : t.1 ≡ length uses = eqb-true t.1 (length uses) (and_parts _ _ next).0 in
        let long : length (uses ++ use_of t ∷ []) ≡ length uses + 1 = omega (arith, length-append uses (use_of t ∷ [])) in (
          rest.0 ∙ append_assoc uses (use_of t ∷ []) (map use_of ts),
          ap (λ n. n ∷ map number_of ts) at ∙ ap (λ l. length uses ∷ l) (rest.1 ∙ ap (λ n. range_with_len n (length ts)) long),
        )

pub adds : (uses : List Use) (named : List (ℕ × ℕ)) → AreInTurn (length uses) named → AllByRecursion (λ (t : ℕ × ℕ). t.0 < 9) named → with_tests uses named ≡ Some (uses ++ map use_of named)
adds uses [] turn few = ap Some (sym (append-nil uses))
adds uses (t ∷ ts) turn few =
    let at : t.1 ≡ length uses = cc in
    let later : map number_of ts ≡ range_with_len (length uses + 1) (length ts) = cc in
    let long : length uses + 1 ≡ length (uses ++ use_of t ∷ []) = omega (arith, length-append uses (use_of t ∷ [])) in
    let small : t.0 < 255 = omega (arith, few.0) in
    let next : is_next uses t ≡ true = ap (λ b. b && nat_lt t.0 255) (eq-eqb t.1 (length uses) at) ∙ lt-ltb t.0 255 small in
    ap (Onward uses t ts) next ∙ adds (uses ++ use_of t ∷ []) ts (later ∙ ap (λ n. range_with_len n (length ts)) long) few.1 ∙ ap Some (append_assoc uses (use_of t ∷ []) (map use_of ts))

-- ---- one behind the other

pub tests_then : (uses more : List Use) (a b : List (ℕ × ℕ)) → with_tests uses a ≡ Some more → with_tests uses (a ++ b) ≡ with_tests more b
tests_then uses more [] b is = let same : uses ≡ more = cc in ap (λ l. with_tests l b) same
tests_then uses more (t ∷ a) b is = by (is_next uses t) refl is (λ later. tests_then (uses ++ use_of t ∷ []) more a b later)
  where
    by : (x : Bool) → is_next uses t ≡ x → Onward uses t a x ≡ Some more → (with_tests (uses ++ use_of t ∷ []) a ≡ Some more → with_tests (uses ++ use_of t ∷ []) (a ++ b) ≡ with_tests more b)
        → Onward uses t (a ++ b) x ≡ with_tests more b
    by true next is later = later is
    by false next is later = absurd cc

pub tests_stop : (uses : List Use) (a b : List (ℕ × ℕ)) → with_tests uses a ≡ None → with_tests uses (a ++ b) ≡ None
tests_stop uses [] b is = absurd cc
tests_stop uses (t ∷ a) b is = by (is_next uses t) is (λ later. tests_stop (uses ++ use_of t ∷ []) a b later)
  where
    by : (x : Bool) → Onward uses t a x ≡ None → (with_tests (uses ++ use_of t ∷ []) a ≡ None → with_tests (uses ++ use_of t ∷ []) (a ++ b) ≡ None) → Onward uses t (a ++ b) x ≡ None
    by true is later = later is
    by false is later = refl
