-- A table grows code by code: what is a table from there on is one from the beginning, behind the codes so far.
use Rattle.std.proofs.Common.{◌≡◌, ◌∙◌, ap, sym, subst, refl, ℕ, suc, ◌+◌, ◌-◌, ◌<◌, ◌≤◌, Bool, true, false, List, [], ◌∷◌, ◌++◌, length, drop, take, get_or, append_assoc, append-nil, MatchOption, Option, Some, None, arith, length-append}
use Rattle.std.proofs.lemmas.List.{take_all}
use Rattle.play_meaning.specs.declared.operand.Counts.{Counts}
use Rattle.play_meaning.specs.declared.operand.Use.{Use}
use Rattle.story_code.specs.Fronts.{code_in}
use Rattle.story_code.specs.Passes.{if_so}
use Rattle.story_code.specs.Runs.{code_told}
use Rattle.story_code.specs.Soundness.{IsSoundCode, Judged}
use Rattle.story_code.specs.SoundlyEmitted.{sizes_as}
use Rattle.story_code.proofs.Exact.{spells_in}
use Rattle.story_code.proofs.Fetched.{told}
use Rattle.code_table.specs.Growing.{Grows, IsCodeOf, IsNextOf, IsTableFrom, with_code, with_tests}
use Rattle.code_table.specs.Tables.{IsTableOf, tests_in}
use Rattle.code_table.proofs.Onward.{table_parts, table_whole}

-- the code of a number is one
pub one_code : (z : Counts) (uses : List Use) (n : ℕ) (b : List ℕ) (j k : Judged) → IsCodeOf z uses n b j → IsCodeOf z uses n b k → j ≡ k
one_code z uses n b j k one other =
    let same : one.role ≡ other.role = (let e = sym one.named ∙ other.named in cc) in
    one.judged ∙ ap (λ role. record { sizes = sizes_as z role n; bytes = b }) same ∙ sym other.judged

module _ (z : Counts) (heads : List Use) (codes : List (List ℕ)) where
  -- of all codes these are left, where so many uses are known and so many codes are judged
  pub record IsOnWay (uses : List Use) (judged : List Judged) (rest : List (List ℕ)) : Type 0 where
    pub forward : (later : List Judged) → IsTableFrom z uses (length judged) rest later → IsTableFrom z heads 0 codes (judged ++ later)
    pub backward : (whole : List Judged) → IsTableFrom z heads 0 codes whole → (later : List Judged) × ((whole ≡ judged ++ later) × IsTableFrom z uses (length judged) rest later)
    pub count : length judged + length rest ≡ length codes

  pub begins : (uses : List Use) (judged : List Judged) → uses ≡ heads → judged ≡ [] → IsOnWay uses judged codes
  begins uses judged first none =
      subst (λ u. IsOnWay u judged codes) (sym first) (subst (λ j. IsOnWay heads j codes) (sym none)
      (record { forward = λ later from. from; backward = λ whole from. (whole, (refl, from)); count = omega arith }))

  -- ---- a code more

  one_more : (uses : List Use) (n : ℕ) (b : List ℕ) (j k : Judged) (more others : List Use) → IsNextOf z uses n b j more → IsNextOf z uses n b k others → more ≡ others
  one_more uses n b j k more others one other =
      let e = sym one.names ∙ ap (λ (x : Judged). with_tests uses (tests_in (code_told x))) (one_code z uses n b j k one.code other.code) ∙ other.names in cc

  grown : (uses more : List Use) (judged next : List Judged) (b : List ℕ) (rest : List (List ℕ)) (j : Judged) → next ≡ judged ++ j ∷ [] → IsNextOf z uses (length judged) b j more → IsOnWay uses judged (b ∷ rest) → IsOnWay more next rest
  grown uses more judged next b rest j added is way = record {
    forward = λ later from.
        subst (λ l. IsTableFrom z heads 0 codes l) (sym (onto later)) (way.forward (j ∷ later) (more, (is, subst (λ n. IsTableFrom z more n rest later) long from)));
    backward = λ whole from. let back = way.backward whole from in by whole back.0 back.1.0 back.1.1;
    count = omega (arith, long, way.count);
  }
    where
      long : length next ≡ length judged + 1
      long = ap length added ∙ length-append judged (j ∷ [])

      onto : (later : List Judged) → next ++ later ≡ judged ++ (j ∷ later)
      onto later = ap (λ l. l ++ later) added ∙ append_assoc judged (j ∷ []) later

      by : (whole later : List Judged) → whole ≡ judged ++ later → IsTableFrom z uses (length judged) (b ∷ rest) later → (behind : List Judged) × ((whole ≡ next ++ behind) × IsTableFrom z more (length next) rest behind)
      by whole [] same from = absurd from
      by whole (k ∷ behind) same from =
          let codes_same = one_code z uses (length judged) b j k is.code from.1.0.code in
          let uses_same = one_more uses (length judged) b j k more from.0 is from.1.0 in (
            behind,
            (
              same ∙ ap (λ (x : Judged). judged ++ (x ∷ behind)) (sym codes_same) ∙ sym (onto behind),
              subst (λ n. IsTableFrom z more n rest behind) (sym long) (subst (λ u. IsTableFrom z u (length judged + 1) rest behind) (sym uses_same) from.1.1),
            ),
          )

  -- as the loop keeps it
  pub grows_on : (uses more : List Use) (judged next : List Judged) (rest : List (List ℕ)) (b first : List ℕ) (added : Bool) → added ≡ true → 1 ≤ length rest → first ≡ get_or rest 0 first → b ≡ first → Grows z uses judged b added more next
      → IsOnWay uses judged rest → IsOnWay more next (take (length rest - 1) (drop 1 rest))
  grows_on uses more judged next [] b first added is some at same grows way = absurd (omega (arith, some))
  grows_on uses more judged next (bytes ∷ rest) b first false is some at same grows way = absurd cc
  grows_on uses more judged next (bytes ∷ rest) b first true is some at same grows way =
      let whole : take (suc (length rest) - 1) rest ≡ rest = take_all _ rest (omega arith) in
      let own : b ≡ bytes = same ∙ at in
      subst (λ l. IsOnWay more next l) (sym whole) (grown uses more judged next bytes rest grows.0 grows.1.0 (subst (λ x. IsNextOf z uses (length judged) x grows.0 more) own grows.1.1) way)

  pub grows_not : (uses more : List Use) (judged next : List Judged) (rest : List (List ℕ)) (b first : List ℕ) (added : Bool) → added ≡ false → 1 ≤ length rest → first ≡ get_or rest 0 first → b ≡ first → Grows z uses judged b added more next
      → IsOnWay uses judged rest → (whole : List Judged) → IsTableOf z heads codes whole → ⊥
  grows_not uses more judged next [] b first added is some at same grows way whole table = absurd (omega (arith, some))
  grows_not uses more judged next (bytes ∷ rest) b first true is some at same grows way whole table = absurd cc
  grows_not uses more judged next (bytes ∷ rest) b first false is some at same grows way whole table =
      let own : b ≡ bytes = same ∙ at in
      let back = way.backward whole (table_parts z heads codes whole table) in by back.0 back.1.1
    where
      by : (later : List Judged) → IsTableFrom z uses (length judged) (bytes ∷ rest) later → ⊥
      by [] from = absurd from
      by (k ∷ behind) from = grows k from.0 (subst (λ x. IsNextOf z uses (length judged) x k from.0) (sym (same ∙ at)) from.1.0)

  -- ---- the end

  pub ends : (uses : List Use) (judged : List Judged) (rest : List (List ℕ)) → z.codes ≡ length codes → length rest < 1 → length uses ≡ length judged → IsOnWay uses judged rest → IsTableOf z heads codes judged
  ends uses judged (b ∷ rest) all none same way = absurd (omega (arith, none))
  ends uses judged [] all none same way = table_whole z heads codes judged all (subst (λ l. IsTableFrom z heads 0 codes l) (append-nil judged) (way.forward [] (sym same)))

  pub ends_not : (uses : List Use) (judged : List Judged) (rest : List (List ℕ)) → length rest < 1 → (length uses ≡ length judged → ⊥) → IsOnWay uses judged rest → (whole : List Judged) → IsTableOf z heads codes whole → ⊥
  ends_not uses judged (b ∷ rest) none other way whole table = absurd (omega (arith, none))
  ends_not uses judged [] none other way whole table = let back = way.backward whole (table_parts z heads codes whole table) in by back.0 back.1.1
    where
      by : (later : List Judged) → IsTableFrom z uses (length judged) [] later → ⊥
      by [] from = other (sym from)
      by (k ∷ behind) from = absurd from

-- ---- a code

pub found_code : {A : Type 0} (None_is : Type 0) (Is : A → Type 0) (found : Option A) (a : A) → found ≡ Some a → MatchOption found None_is Is → Is a
found_code None_is Is None a is so = absurd cc
found_code None_is Is (Some b) a is so = let same : b ≡ a = cc in subst Is same so

-- the names of a sound code's bytes are the code's
names_told : (uses : List Use) (j : Judged) → IsSoundCode j.sizes j.bytes → with_code uses (code_in j.bytes) ≡ with_tests uses (tests_in (code_told j))
names_told uses j sound = ap (with_code uses) (spells_in j.bytes sound.code sound.spells) ∙ ap (λ code. with_tests uses (tests_in code)) (sym (told j sound))

module _ (z : Counts) (uses : List Use) (judged : List Judged) (bytes : List ℕ) where
  there : (n : ℕ) (lent : List Use) (j : Judged) → n ≡ length judged → lent ≡ uses → IsCodeOf z lent n bytes j → IsCodeOf z uses (length judged) bytes j
  there n lent j number same is = subst (λ u. IsCodeOf z u (length judged) bytes j) same (subst (λ k. IsCodeOf z lent k bytes j) number is)

  pub no_next : (Is : Judged → Type 0) (n : ℕ) (lent : List Use) (found : Option Judged) → n ≡ length judged → lent ≡ uses → found ≡ None → MatchOption found ((j : Judged) → IsCodeOf z lent n bytes j → ⊥) Is
      → (j : Judged) (after : List Use) → IsNextOf z uses (length judged) bytes j after → ⊥
  no_next Is n lent None number same none never j after is = never j (subst (λ u. IsCodeOf z u n bytes j) (sym same) (subst (λ k. IsCodeOf z uses k bytes j) (sym number) is.code))
  no_next Is n lent (Some k) number same none never j after is = absurd cc

  pub grows_by : (n : ℕ) (lent : List Use) (own : List ℕ) (j : Judged) (added : Bool) (more : List Use) (next : List Judged) → n ≡ length judged → lent ≡ uses → IsCodeOf z lent n bytes j → own ≡ j.bytes
      → next ≡ judged ++ j ∷ [] → if_so added more ≡ with_code uses (code_in own) → Grows z uses judged bytes added more next
  grows_by n lent own j true more next number same is own_is behind names =
      let code = there n lent j number same is in
      (j, (behind, record { code = code; names = sym (names_told uses j code.sound) ∙ ap (λ b. with_code uses (code_in b)) (sym own_is) ∙ sym names }))
  grows_by n lent own j false more next number same is own_is behind names = λ k after other.
      let code = there n lent j number same is in
      let none : with_tests uses (tests_in (code_told j)) ≡ None = sym (names_told uses j code.sound) ∙ ap (λ b. with_code uses (code_in b)) (sym own_is) ∙ sym names in
      let e = sym none ∙ ap (λ (x : Judged). with_tests uses (tests_in (code_told x))) (one_code z uses (length judged) bytes j k code other.code) ∙ other.names in
      cc
