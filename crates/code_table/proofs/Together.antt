-- The codes of a table are sound together.
use Rattle.std.proofs.Common.{◌≡◌, ◌∙◌, ap, sym, refl, ℕ, zero, suc, ◌+◌, ◌-◌, ◌<◌, inl, inr, List, [], ◌∷◌, length, Option, Some, None, arith}
use Rattle.std.specs.List.{flat_map, range_with_len}
use Rattle.std.specs.Prelude.{map, slice_get}
use Rattle.play_meaning.specs.Instructions.{at_place, size_of}
use Rattle.play_meaning.specs.TranslatedScripts.{in_list}
use Rattle.play_meaning.specs.declared.instruction.Instruction.{Instruction}
use Rattle.play_meaning.specs.declared.operand.Counts.{Counts}
use Rattle.play_meaning.specs.declared.operand.Use.{Use}
use Rattle.story_code.specs.Emits.{AreSpelled}
use Rattle.story_code.specs.Fronts.{code_in}
use Rattle.story_code.specs.Runs.{AreSoundTogether, IsTestAt, IsTestOf, code_or_none, code_told, test_named}
use Rattle.story_code.specs.Soundness.{Judged}
use Rattle.story_code.specs.SoundlyEmitted.{sizes_as}
use Rattle.story_code.specs.declared.sizes.Sizes.{Sizes}
use Rattle.story_code.proofs.Exact.{spells_in}
use Rattle.story_code.proofs.Places.{at_cases}
use Rattle.code_table.specs.Tables.{IsTableOf, sizes_from, tests_in, use_of, uses_of}
use Rattle.code_table.proofs.Lists.{all_at, at_back, at_front, at_mapped, mapped_at}
use Rattle.code_table.proofs.Onward.{Sound, named_by}
use Rattle.code_table.proofs.Turns.{AreInTurn, number_of}

-- ---- by number

sizes_at : (z : Counts) (n : ℕ) (uses : List Use) (m : ℕ) (role : Use) → slice_get uses m ≡ Some role → slice_get (sizes_from z n uses) m ≡ Some (sizes_as z role (n + m))
sizes_at z n [] m role at = absurd cc
sizes_at z n (first ∷ uses) zero role at =
    let same : first ≡ role = cc in
    let number : n ≡ n + 0 = omega arith in
    ap (λ r. Some (sizes_as z r n)) same ∙ ap (λ k. Some (sizes_as z role k)) number
sizes_at z n (first ∷ uses) (suc m) role at =
    let number : n + 1 + m ≡ n + suc m = omega arith in
    sizes_at z (n + 1) uses m role at ∙ ap (λ k. Some (sizes_as z role k)) number

used_at : (z : Counts) (n : ℕ) (uses : List Use) (m : ℕ) (s : Sizes) → slice_get (sizes_from z n uses) m ≡ Some s → (role : Use) × (s ≡ sizes_as z role (n + m))
used_at z n [] m s at = absurd cc
used_at z n (first ∷ uses) zero s at =
    let same : s ≡ sizes_as z first n = cc in
    let number : n ≡ n + 0 = omega arith in
    (first, same ∙ ap (λ k. sizes_as z first k) number)
used_at z n (first ∷ uses) (suc m) s at =
    let number : n + 1 + m ≡ n + suc m = omega arith in
    let there = used_at z (n + 1) uses m s at in
    (there.0, there.1 ∙ ap (λ k. sizes_as z there.0 k) number)

turn_at : (n : ℕ) (named : List (ℕ × ℕ)) (m : ℕ) (t : ℕ × ℕ) → AreInTurn n named → slice_get named m ≡ Some t → t.1 ≡ n + m
turn_at n [] m t turn at = absurd cc
turn_at n (first ∷ named) zero t turn at =
    let same : first ≡ t = cc in
    let number : first.1 ≡ n = cc in
    omega (arith, number, ap number_of same)
turn_at n (first ∷ named) (suc m) t turn at =
    let later : map number_of named ≡ range_with_len (n + 1) (length named) = cc in
    omega (arith, turn_at (n + 1) named m t later at)

-- ---- what a code names is among what the codes name

-- among those of lists one behind the other
among : {A B : Type 0} (f : A → List B) (xs : List A) (n m : ℕ) (x : A) (y : B) → slice_get xs n ≡ Some x → slice_get (f x) m ≡ Some y → (k : ℕ) × (slice_get (flat_map f xs) k ≡ Some y)
among f [] n m x y at there = absurd cc
among f (first ∷ xs) zero m x y at there =
    let same : first ≡ x = cc in
    (m, at_front (f first) (flat_map f xs) m y (ap (λ z. slice_get (f z) m) same ∙ there))
among f (first ∷ xs) (suc n) m x y at there =
    let later = among f xs n m x y at there in
    (length (f first) + later.0, at_back (f first) (flat_map f xs) later.0 (length (f first) + later.0) refl ∙ later.1)

-- an instruction at a place has a number in the code
at_number : (code : List Instruction) (place : ℕ) (i : Instruction) → at_place code place ≡ Some i → (n : ℕ) × (slice_get code n ≡ Some i)
at_number [] place i at = absurd cc
at_number (first ∷ code) place i at = elim (at_cases first code place i at) [
  | inl here ↦ (0, ap Some here.1)
  | inr later ↦ let there = at_number code (place - size_of first) i later.1 in (suc there.0, there.1)
]

module _ (z : Counts) (heads : List Use) (codes : List (List ℕ)) (judged : List Judged) (table : IsTableOf z heads codes judged) where
  as_many : length codes ≡ length judged
  as_many = sym (ap length table.bytes) ∙ mapped judged
    where
      mapped : (l : List Judged) → length (map (λ j. j.bytes) l) ≡ length l
      mapped [] = refl
      mapped (j ∷ l) = ap suc (mapped l)

  -- what is named is there, for its use
  is_there : (n : ℕ) (role : Use) → slice_get (uses_of heads (map code_told judged)) n ≡ Some role → (j : Judged) × ((slice_get judged n ≡ Some j) × (j.sizes.role ≡ role))
  is_there n role at =
      let found = at_mapped (λ j. j.sizes) judged n (sizes_as z role (0 + n)) (ap (λ l. slice_get l n) table.sizes ∙ sizes_at z 0 (uses_of heads (map code_told judged)) n role at) in
      (found.0, (found.1.0, ap (λ (s : Sizes). s.role) found.1.1))

  pub head_there : (n : ℕ) (role : Use) → slice_get heads n ≡ Some role → (j : Judged) × ((slice_get judged n ≡ Some j) × (j.sizes.role ≡ role))
  head_there n role at = is_there n role (at_front heads (map use_of (named_by judged)) n role at)

  -- a test that is named is there
  test_there : (m : ℕ) (t : ℕ × ℕ) → slice_get (named_by judged) m ≡ Some t → IsTestAt judged t.1 (t.0 + 1)
  test_there m t at =
      is_there t.1 (use_of t)
      (at_back heads (map use_of (named_by judged)) m t.1 (turn_at (length heads) (named_by judged) m t table.in_turn at) ∙ mapped_at use_of (named_by judged) m t at)

  names_it : (n : ℕ) (j : Judged) (k : ℕ) (i : Instruction) (named : Option (ℕ × ℕ)) → slice_get judged n ≡ Some j → slice_get (code_told j) k ≡ Some i → test_named i ≡ named → IsTestOf judged named
  names_it n j k i None there at is = tt
  names_it n j k i (Some t) there at is =
      let in_code = among (λ x. in_list (test_named x)) (code_told j) k 0 i t at (ap (λ o. slice_get (in_list o) 0) is) in
      let in_all = among tests_in (map code_told judged) n in_code.0 (code_told j) t (mapped_at code_told judged n j there) in_code.1 in
      test_there in_all.0 t in_all.1

  pub sound_together : z.objects < 65536 → AreSoundTogether judged
  sound_together few n j there =
      let used = used_at z 0 (uses_of heads (map code_told judged)) n j.sizes (sym (ap (λ l. slice_get l n) table.sizes) ∙ mapped_at (λ x. x.sizes) judged n j there) in
      record {
        sound = all_at Sound judged n j table.sound there;
        few = omega (arith, few, ap (λ (s : Sizes). s.counts.objects) used.1);
        own = omega (arith, ap (λ (s : Sizes). s.counts.own) used.1);
        all = ap (λ (s : Sizes). s.counts.codes) used.1 ∙ table.all ∙ as_many;
        tests = λ place i at. let number = at_number (code_told j) place i at in names_it n j number.0 i (test_named i) there number.1 refl;
      }

-- ---- codes are judged in one way

codes_by_bytes : (judged : List Judged) → map code_told judged ≡ map (λ bytes. code_or_none (code_in bytes)) (map (λ j. j.bytes) judged)
codes_by_bytes [] = refl
codes_by_bytes (j ∷ judged) = ap (λ l. code_told j ∷ l) (codes_by_bytes judged)

both_alike : (one another : List Judged) → map (λ j. j.bytes) one ≡ map (λ j. j.bytes) another → map (λ j. j.sizes) one ≡ map (λ j. j.sizes) another → one ≡ another
both_alike [] [] bytes sizes = refl
both_alike [] (k ∷ another) bytes sizes = absurd cc
both_alike (j ∷ one) [] bytes sizes = absurd cc
both_alike (j ∷ one) (k ∷ another) bytes sizes =
    let same_bytes : j.bytes ≡ k.bytes = cc in
    let same_sizes : j.sizes ≡ k.sizes = cc in
    let more_bytes : map (λ j. j.bytes) one ≡ map (λ j. j.bytes) another = cc in
    let more_sizes : map (λ j. j.sizes) one ≡ map (λ j. j.sizes) another = cc in
    ap (λ l. j ∷ l) (both_alike one another more_bytes more_sizes) ∙ ap (λ (x : Judged). x ∷ another) (λ i. record { sizes = same_sizes i; bytes = same_bytes i })

pub one_table : (z : Counts) (heads : List Use) (codes : List (List ℕ)) (one another : List Judged) → IsTableOf z heads codes one → IsTableOf z heads codes another → one ≡ another
one_table z heads codes one another first second =
    let bytes = first.bytes ∙ sym second.bytes in
    let told = codes_by_bytes one ∙ ap (map (λ bytes. code_or_none (code_in bytes))) bytes ∙ sym (codes_by_bytes another) in
    both_alike one another bytes (first.sizes ∙ ap (λ all. sizes_from z 0 (uses_of heads all)) told ∙ sym second.sizes)

-- ---- the codes that the bytes spell

spelled_codes : (bytes : List (List ℕ)) (codes : List (List Instruction)) → AreSpelled bytes codes → map (λ b. code_or_none (code_in b)) bytes ≡ codes
spelled_codes [] [] spelled = refl
spelled_codes [] (code ∷ codes) spelled = absurd spelled
spelled_codes (b ∷ bytes) [] spelled = absurd spelled
spelled_codes (b ∷ bytes) (code ∷ codes) spelled = ap (λ l. code_or_none (code_in b) ∷ l) (spelled_codes bytes codes spelled.1) ∙ ap (λ o. code_or_none o ∷ codes) (spells_in b code spelled.0)

pub tables_told : (z : Counts) (heads : List Use) (bytes : List (List ℕ)) (judged : List Judged) (codes : List (List Instruction)) → IsTableOf z heads bytes judged → AreSpelled bytes codes → map code_told judged ≡ codes
tables_told z heads bytes judged codes table spelled = codes_by_bytes judged ∙ ap (map (λ b. code_or_none (code_in b))) table.bytes ∙ spelled_codes bytes codes spelled
