-- What is said of a table whole is what is said of it code by code.
use Rattle.std.proofs.Common.{◌≡◌, ◌∙◌, ap, sym, subst, refl, ℕ, zero, suc, ◌+◌, ◌<◌, ◌≤◌, nat_lt, Bool, true, false, List, [], ◌∷◌, ◌++◌, length, drop, append_assoc, Some, arith, length-append, length-drop}
use Rattle.std.specs.List.{AllByRecursion, range_with_len}
use Rattle.std.specs.Prelude.{map, slice_get}
use Rattle.std.proofs.lemmas.Bool.{ltb-false, ltb-true}
use Rattle.std.proofs.lemmas.List.{drop_all, map-append}
use Rattle.play_meaning.specs.declared.operand.Counts.{Counts}
use Rattle.play_meaning.specs.declared.operand.Use.{Use}
use Rattle.story_code.specs.Runs.{code_told}
use Rattle.story_code.specs.Soundness.{IsSoundCode, Judged}
use Rattle.story_code.specs.SoundlyEmitted.{sizes_as}
use Rattle.story_code.specs.declared.sizes.Sizes.{Sizes}
use Rattle.story_code.proofs.Fetched.{told}
use Rattle.code_table.specs.Growing.{IsTableFrom}
use Rattle.code_table.specs.Tables.{IsTableOf, sizes_from, tests_in, tests_of, use_of}
use Rattle.code_table.proofs.Behind.{IsWithin, sound_within}
use Rattle.code_table.proofs.Lists.{all_append, all_more, at_drop, at_front, at_long, at_within, cut_alike, drop_at, range_append}
use Rattle.code_table.proofs.Turns.{AreInTurn, added, adds, number_of}

abbrev pub Sound : Judged → Type 0
Sound j = IsSoundCode j.sizes j.bytes

abbrev pub named_by : List Judged → List (ℕ × ℕ)
named_by judged = tests_of (map code_told judged)

-- what is said of a table's codes from a number on, where there are so many uses in front of those that they name
pub record IsOnward (z : Counts) (uses : List Use) (n : ℕ) (codes : List (List ℕ)) (judged : List Judged) : Type 0 where
  pub bytes : map (λ j. j.bytes) judged ≡ codes
  pub sizes : map (λ j. j.sizes) judged ≡ sizes_from z n (drop n (uses ++ map use_of (named_by judged)))
  pub in_turn : AreInTurn (length uses) (named_by judged)
  pub sound : AllByRecursion Sound judged

-- ---- what a sound code names

names_within : (j : Judged) → Sound j → AllByRecursion (IsWithin j.sizes) (tests_in (code_told j))
names_within j sound = subst (λ code. AllByRecursion (IsWithin j.sizes) (tests_in code)) (sym (told j sound)) (sound_within j.sizes sound.code sound.sound)

few_loops : (j : Judged) → Sound j → AllByRecursion (λ (t : ℕ × ℕ). t.0 < 9) (tests_in (code_told j))
few_loops j sound = all_more (IsWithin j.sizes) (λ t. t.0 < 9) (λ t within. within.1) (tests_in (code_told j)) (names_within j sound)

some_sizes : (z : Counts) (n : ℕ) (uses : List Use) (s : Sizes) (rest : List Sizes) → s ∷ rest ≡ sizes_from z n uses
    → (role : Use) × ((more : List Use) × ((uses ≡ role ∷ more) × ((s ≡ sizes_as z role n) × (rest ≡ sizes_from z (n + 1) more))))
some_sizes z n [] s rest is = absurd cc
some_sizes z n (role ∷ more) s rest is = let first : s ≡ sizes_as z role n = cc in let others : rest ≡ sizes_from z (n + 1) more = cc in (role, (more, (refl, (first, others))))

no_sizes : (z : Counts) (n : ℕ) (uses : List Use) → [] ≡ sizes_from z n uses → uses ≡ []
no_sizes z n [] is = refl
no_sizes z n (role ∷ more) is = absurd cc

-- codes from a number on name greater ones
behind_all : (z : Counts) (n : ℕ) (uses : List Use) (judged : List Judged) → map (λ j. j.sizes) judged ≡ sizes_from z n uses → AllByRecursion Sound judged → AllByRecursion (λ (t : ℕ × ℕ). n < t.1) (named_by judged)
behind_all z n uses [] sizes sound = tt
behind_all z n uses (j ∷ js) sizes sound =
    let parts = some_sizes z n uses j.sizes (map (λ j. j.sizes) js) sizes in
    let own : j.sizes.counts.own ≡ n = ap (λ (s : Sizes). s.counts.own) parts.1.1.1.0 in
    all_append (λ t. n < t.1) (tests_in (code_told j)) (named_by js)
    (all_more (IsWithin j.sizes) (λ t. n < t.1) (λ t within. omega (arith, within.0, own)) (tests_in (code_told j)) (names_within j sound.0))
    (all_more (λ t. n + 1 < t.1) (λ t. n < t.1) (λ t later. omega (arith, later)) (named_by js) (behind_all z (n + 1) parts.1.0 js parts.1.1.1.1 sound.1))

-- ---- code by code

-- the uses with those that a first code names, and those that the others name
together : (uses more : List Use) (first later : List (ℕ × ℕ)) → more ≡ uses ++ map use_of first → uses ++ map use_of (first ++ later) ≡ more ++ map use_of later
together uses more first later is =
    ap (λ l. uses ++ l) (map-append use_of first later) ∙ sym (append_assoc uses (map use_of first) (map use_of later)) ∙ ap (λ l. l ++ map use_of later) (sym is)

with_length : (uses more : List Use) (first : List (ℕ × ℕ)) → more ≡ uses ++ map use_of first → length more ≡ length uses + length first
with_length uses more first is = ap length is ∙ long first
  where
    mapped : (l : List (ℕ × ℕ)) → length (map use_of l) ≡ length l
    mapped [] = refl
    mapped (t ∷ l) = ap suc (mapped l)

    long : (l : List (ℕ × ℕ)) → length (uses ++ map use_of l) ≡ length uses + length l
    long l = omega (arith, length-append uses (map use_of l), mapped l)

pub turn_append : (n : ℕ) (first later : List (ℕ × ℕ)) → AreInTurn n first → AreInTurn (n + length first) later → AreInTurn n (first ++ later)
turn_append n first later one other =
    map-append number_of first later ∙ ap (λ l. l ++ map number_of later) one ∙ ap (λ l. range_with_len n (length first) ++ l) other
    ∙ sym (range_append n (length first) (length later)) ∙ ap (range_with_len n) (sym (length-append first later))

turn_cut : (n : ℕ) (first later : List (ℕ × ℕ)) → AreInTurn n (first ++ later) → AreInTurn n first × AreInTurn (n + length first) later
turn_cut n first later all =
    cut_alike (map number_of first) (map number_of later) (range_with_len n (length first)) (range_with_len (n + length first) (length later))
    (mapped first ∙ sym (ranged n (length first)))
    (sym (map-append number_of first later) ∙ all ∙ ap (range_with_len n) (length-append first later) ∙ range_append n (length first) (length later))
  where
    mapped : (l : List (ℕ × ℕ)) → length (map number_of l) ≡ length l
    mapped [] = refl
    mapped (t ∷ l) = ap suc (mapped l)

    ranged : (a k : ℕ) → length (range_with_len a k) ≡ k
    ranged a zero = refl
    ranged a (suc k) = ap suc (ranged (a + 1) k)

module _ (z : Counts) where
  pub onward : (uses : List Use) (n : ℕ) (codes : List (List ℕ)) (judged : List Judged) → n ≤ length uses → IsTableFrom z uses n codes judged → IsOnward z uses n codes judged
  onward uses n [] [] few all =
      let none : length (uses ++ []) ≤ n = omega (arith, length-append uses [], all) in
      record { bytes = refl; sizes = ap (sizes_from z n) (sym (drop_all n (uses ++ []) none)); in_turn = refl; sound = tt }
  onward uses n [] (j ∷ js) few all = absurd all
  onward uses n (b ∷ bs) [] few all = absurd all
  onward uses n (b ∷ bs) (j ∷ js) few all =
      let more = all.0 in
      let is = all.1.0 in
      let first = tests_in (code_told j) in
      let names = added uses first more is.names in
      let long = with_length uses more first names.0 in
      let less = at_long uses n is.code.role is.code.named in
      let rest = onward more (n + 1) bs js (omega (arith, less, long)) all.1.1 in
      let there : slice_get (more ++ map use_of (named_by js)) n ≡ Some is.code.role =
      at_front more (map use_of (named_by js)) n is.code.role (ap (λ l. slice_get l n) names.0 ∙ at_front uses (map use_of first) n is.code.role is.code.named) in
      record {
        bytes = ap (λ (x : Judged). x.bytes ∷ map (λ j. j.bytes) js) is.code.judged ∙ ap (λ l. b ∷ l) rest.bytes;
        sizes =
            ap (λ (x : Judged). x.sizes ∷ map (λ j. j.sizes) js) is.code.judged ∙ ap (λ l. sizes_as z is.code.role n ∷ l) rest.sizes
            ∙ ap (sizes_from z n) (sym (at_drop (more ++ map use_of (named_by js)) n is.code.role there))
            ∙ ap (λ l. sizes_from z n (drop n l)) (sym (together uses more first (named_by js) names.0));
        in_turn = turn_append (length uses) first (named_by js) names.1 (subst (λ k. AreInTurn k (named_by js)) long rest.in_turn);
        sound = (is.code.sound, rest.sound);
      }

  -- the use of a code is known in front of it
  used_before : (uses : List Use) (n : ℕ) (judged : List Judged) (role : Use) (rest : List Use) → n ≤ length uses → map (λ j. j.sizes) judged ≡ sizes_from z n (drop n (uses ++ map use_of (named_by judged)))
      → AreInTurn (length uses) (named_by judged) → AllByRecursion Sound judged → drop n (uses ++ map use_of (named_by judged)) ≡ role ∷ rest → n < length uses
  used_before uses n judged role rest few sizes turn sound there = by (nat_lt n (length uses)) refl
    where
      behind : AllByRecursion (λ (t : ℕ × ℕ). n < t.1) (named_by judged)
      behind = behind_all z n (drop n (uses ++ map use_of (named_by judged))) judged sizes sound

      named_itself : (named : List (ℕ × ℕ)) → length uses ≤ n → AreInTurn (length uses) named → AllByRecursion (λ (t : ℕ × ℕ). n < t.1) named → drop n (uses ++ map use_of named) ≡ role ∷ rest → ⊥
      named_itself [] whole turn behind there =
          let none : drop n (uses ++ []) ≡ [] = drop_all n (uses ++ []) (omega (arith, length-append uses [], whole)) in
          let no : [] ≡ role ∷ rest = sym none ∙ there in
          cc
      named_itself (t ∷ ts) whole turn behind there = let at : t.1 ≡ length uses = cc in omega (arith, at, whole, behind.0)

      by : (b : Bool) → nat_lt n (length uses) ≡ b → n < length uses
      by true is = ltb-true n (length uses) is
      by false is = absurd (named_itself (named_by judged) (ltb-false n (length uses) is) turn behind there)

  pub one_by_one : (uses : List Use) (n : ℕ) (codes : List (List ℕ)) (judged : List Judged) → n ≤ length uses → IsOnward z uses n codes judged → IsTableFrom z uses n codes judged
  one_by_one uses n [] [] few all =
      let none : drop n (uses ++ []) ≡ [] = no_sizes z n (drop n (uses ++ [])) all.sizes in
      omega (arith, few, length-drop n (uses ++ []), ap length none, length-append uses [])
  one_by_one uses n [] (j ∷ js) few all = let no : ⊥ = (let e = all.bytes in cc) in absurd no
  one_by_one uses n (b ∷ bs) [] few all = let no : ⊥ = (let e = all.bytes in cc) in absurd no
  one_by_one uses n (b ∷ bs) (j ∷ js) few all =
      let first = tests_in (code_told j) in
      let parts = some_sizes z n (drop n (uses ++ map use_of (named_by (j ∷ js)))) j.sizes (map (λ j. j.sizes) js) all.sizes in
      let role = parts.0 in
      let rest = parts.1.0 in
      let less = used_before uses n (j ∷ js) role rest few all.sizes all.in_turn all.sound parts.1.1.0 in
      let there = drop_at (uses ++ map use_of (named_by (j ∷ js))) rest n role parts.1.1.0 in
      let turns = turn_cut (length uses) first (named_by js) all.in_turn in
      let more = uses ++ map use_of first in
      let long = with_length uses more first refl in
      let own_bytes : j.bytes ≡ b = (let e = all.bytes in cc) in
      let other_bytes : map (λ j. j.bytes) js ≡ bs = (let e = all.bytes in cc) in (
        more,
        (
          record {
            code = record {
              role = role;
              named = at_within uses (map use_of (named_by (j ∷ js))) n role less there.0;
              judged = λ i. record { sizes = parts.1.1.1.0 i; bytes = own_bytes i };
              sound = all.sound.0;
            };
            names = adds uses first turns.0 (few_loops j all.sound.0);
          },
          one_by_one more (n + 1) bs js (omega (arith, less, long)) (record {
            bytes = other_bytes;
            sizes = parts.1.1.1.1 ∙ ap (sizes_from z (n + 1)) (sym there.1) ∙ ap (λ l. sizes_from z (n + 1) (drop (n + 1) l)) (together uses more first (named_by js) refl);
            in_turn = subst (λ k. AreInTurn k (named_by js)) (sym long) turns.1;
            sound = all.sound.1;
          }),
        ),
      )

  pub table_whole : (heads : List Use) (codes : List (List ℕ)) (judged : List Judged) → z.codes ≡ length codes → IsTableFrom z heads 0 codes judged → IsTableOf z heads codes judged
  table_whole heads codes judged all from =
      let is = onward heads 0 codes judged (omega arith) from in
      record { bytes = is.bytes; all = all; sizes = is.sizes; in_turn = is.in_turn; sound = is.sound }

  pub table_parts : (heads : List Use) (codes : List (List ℕ)) (judged : List Judged) → IsTableOf z heads codes judged → IsTableFrom z heads 0 codes judged
  table_parts heads codes judged is =
      one_by_one heads 0 codes judged (omega arith) (record { bytes = is.bytes; sizes = is.sizes; in_turn = is.in_turn; sound = is.sound })
