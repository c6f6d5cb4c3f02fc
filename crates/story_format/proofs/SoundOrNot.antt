-- The codes of tables that stand in bytes are sound or not.
use Rattle.std.proofs.Common.{◌≡◌, ◌∙◌, ap, sym, subst, ℕ, zero, suc, Bool, true, false, List, [], ◌∷◌, ◌++◌, length, map, MatchOption, Option, Some, None, inl, inr, ◌⊎◌, arith}
use Rattle.std.specs.List.{AllByRecursion, flat_map}
use Rattle.std.specs.Int.{w16, to_be_bytes}
use Rattle.std.proofs.lemmas.Simd.{map-map}
use Rattle.std.proofs.lemmas.Bool.{cases_Bool}
use Rattle.play_meaning.specs.declared.operand.Counts.{Counts}
use Rattle.play_meaning.specs.declared.operand.Use.{Use}
use Rattle.code_table.specs.Strings.{counted_on, strings_of}
use Rattle.code_table.specs.Tables.{IsTableOf}
use Rattle.code_table.proofs.Decided.{table_or_none}
use Rattle.story_code.specs.Runs.{code_told}
use Rattle.story_code.specs.Soundness.{Judged}
use Rattle.story_format.specs.Checks.{heads_named, strings_in_tables}
use Rattle.story_format.specs.Codes.{AreCodesOf, code_spelled, counts_of, uses_of}
use Rattle.story_format.specs.Formats.{IsBytes, number, text}
use Rattle.story_format.specs.FormatLaws.{IsBytes-rest}
use Rattle.story_format.specs.Layout.{entry_layout, exits_layout, rules_layout, first_layout, tables_layout, values_layout, world_layout}
use Rattle.story_format.specs.Soundness.{AreSound, all_strings_read, are_in_turn, is_count, strings_read}
use Rattle.story_format.specs.ValueChecks.{strings_in_values}
use Rattle.story_format.specs.Spells.{head}
use Rattle.story_format.specs.declared.tables.Tables.{Tables}
use Rattle.story_format.proofs.Counting.{count_is, is_counted}

-- ---- parts of bytes are bytes

back_bytes : (front back : List ℕ) → IsBytes (front ++ back) → IsBytes back
back_bytes [] back fits = fits
back_bytes (b ∷ front) back fits = back_bytes front back (IsBytes-rest b (front ++ back) fits)

front_bytes : (front back : List ℕ) → IsBytes (front ++ back) → IsBytes front
front_bytes [] back fits zero = omega arith
front_bytes [] back fits (suc i) = omega arith
front_bytes (b ∷ front) back fits zero = fits zero
front_bytes (b ∷ front) back fits (suc i) = front_bytes front back (IsBytes-rest b (front ++ back) fits) i

texts_are_bytes : (texts : List (List ℕ)) → IsBytes (flat_map text.put texts) → AllByRecursion IsBytes texts
texts_are_bytes [] fits = tt
texts_are_bytes (one ∷ texts) fits =
    let first = front_bytes (text.put one) (flat_map text.put texts) fits in
    (back_bytes (to_be_bytes w16 (length one)) one first, texts_are_bytes texts (back_bytes (text.put one) (flat_map text.put texts) fits))

-- what stands in front of the codes
pub codes_are_bytes : (bytes : List ℕ) (version : ℕ) (t : Tables) (rest : List ℕ) → IsBytes bytes → bytes ≡ head version ++ ((tables_layout version).format.put t ++ rest) → AllByRecursion IsBytes t.codes
unfolding tables_layout first_layout
codes_are_bytes bytes version t rest fits is =
    let strings = (number w16).put (length t.strings) ++ flat_map text.put t.strings in
    let world = world_layout.format.put t.world in
    let objects = (number w16).put (length t.objects) ++ flat_map entry_layout.format.put t.objects in
    let ways = (number w16).put (length t.ways) ++ flat_map exits_layout.format.put t.ways in
    let rules = rules_layout.format.put t.rules in
    let count = (number w16).put (length t.codes) in
    let codes = flat_map text.put t.codes in
    let values = (values_layout version).format.put t.values in
    let put = (tables_layout version).format.put t in
    let all : IsBytes (head version ++ (put ++ rest)) = subst IsBytes is fits in
    let tables : IsBytes ((strings ++ (world ++ (objects ++ (ways ++ (rules ++ (count ++ codes)))))) ++ values) = front_bytes put rest (back_bytes (head version) (put ++ rest) all) in
    let whole = front_bytes (strings ++ (world ++ (objects ++ (ways ++ (rules ++ (count ++ codes)))))) values tables in
    texts_are_bytes t.codes
    (back_bytes count codes (back_bytes rules (count ++ codes) (back_bytes ways (rules ++ (count ++ codes)) (back_bytes objects (ways ++ (rules ++ (count ++ codes)))
    (back_bytes world (objects ++ (ways ++ (rules ++ (count ++ codes)))) (back_bytes strings (world ++ (objects ++ (ways ++ (rules ++ (count ++ codes))))) whole))))))

-- ---- codes are sound or not

pub sound_or_not : (t : Tables) → AllByRecursion IsBytes t.codes → AreSound t ⊎ (AreSound t → ⊥)
sound_or_not t fit =
    elim (cases_Bool (are_in_turn 0 (heads_named t))) [
      | inl turn ↦
          elim (cases_Bool (is_count (length t.strings) (counted_on 0 (all_strings_read t)))) [
            | inl named ↦ by turn (count_is (length t.strings) (counted_on 0 (all_strings_read t)) named) (table_or_none (counts_of t) (uses_of t) t.codes fit)
            | inr unnamed ↦ inr (λ sound. is_counted (length t.strings) (counted_on 0 (all_strings_read t)) sound.named unnamed)
          ]
      | inr out ↦ inr (λ sound. let no : true ≡ false = sym sound.in_turn ∙ out in cc)
    ]
  where
    by : are_in_turn 0 (heads_named t) ≡ true → counted_on 0 (all_strings_read t) ≡ Some (length t.strings)
        → ((judged : List Judged) × IsTableOf (counts_of t) (uses_of t) t.codes judged) ⊎ ((judged : List Judged) → IsTableOf (counts_of t) (uses_of t) t.codes judged → ⊥) → AreSound t ⊎ (AreSound t → ⊥)
    by turn named (inl found) = inl (record { judged = found.0; table = found.1; in_turn = turn; named = named })
    by turn named (inr never) = inr (λ sound. never sound.judged sound.table)

-- ---- as they are found

pub none_found : {A : Type 0} (None_is : Type 0) (Is : A → Type 0) (found : Option A) → found ≡ None → MatchOption found None_is Is → None_is
none_found None_is Is None none so = so
none_found None_is Is (Some a) none so = absurd cc

module _ (t : Tables) (judged : List Judged) (z : Counts) (uses : List Use) (bytes : List (List ℕ)) (counts_are : z ≡ counts_of t) (uses_are : uses ≡ uses_of t) (bytes_are : bytes ≡ t.codes) (table : IsTableOf z uses bytes judged) (b : Bool)
    (told : b ≡ is_count (length t.strings) (counted_on 0 ((strings_in_tables t ++ strings_of (map code_told judged)) ++ strings_in_values t.values.kinds))) where
  table_is : AreCodesOf t judged
  table_is = subst (λ x. IsTableOf x (uses_of t) t.codes judged) counts_are (subst (λ x. IsTableOf z x t.codes judged) uses_are (subst (λ x. IsTableOf z uses x judged) bytes_are table))

  read : (strings_in_tables t ++ strings_of (map code_told judged)) ++ strings_in_values t.values.kinds ≡ all_strings_read t
  unfolding strings_read
  read = ap (λ codes. (strings_in_tables t ++ strings_of codes) ++ strings_in_values t.values.kinds) (sym (map-map code_spelled (λ (j : Judged). j.bytes) judged) ∙ ap (map code_spelled) table_is.bytes)

  pub unsound : b ≡ false → AreSound t → ⊥
  unsound other sound = is_counted (length t.strings) (counted_on 0 (all_strings_read t)) sound.named (ap (λ ns. is_count (length t.strings) (counted_on 0 ns)) (sym read) ∙ sym told ∙ other)

  pub sound : b ≡ true → are_in_turn 0 (heads_named t) ≡ true → AreCodesOf t judged × AreSound t
  sound is turn =
      let named : counted_on 0 (all_strings_read t) ≡ Some (length t.strings) = count_is (length t.strings) (counted_on 0 (all_strings_read t)) (ap (λ ns. is_count (length t.strings) (counted_on 0 ns)) (sym read) ∙ sym told ∙ is) in
      (table_is, record { judged = judged; table = table_is; in_turn = turn; named = named })
