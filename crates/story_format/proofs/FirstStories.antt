-- Files of version 1 spell stories as tables 1 to 13 say them by themselves.
use Rattle.std.proofs.Common.{◌≡◌, ℕ, true, false, cond, ◌&&◌, eqb, List, [], ◌∷◌, ◌++◌, length, take, refl, sym, ap, ◌∙◌}
use Rattle.std.proofs.Math.Dec.{eqb-suc-zero}
use Rattle.std.proofs.lemmas.Bool.{and_from, and_parts}
use Rattle.std.proofs.lemmas.List.{append-nil}
use Rattle.code_table.specs.Strings.{counted_on}
use Rattle.story_format.specs.Checks.{are_first_right, are_right}
use Rattle.story_format.specs.FirstVersion.{FirstVersionStands, SpellsFirst}
use Rattle.story_format.specs.Layout.{first_layout, first_tables, no_tables_layout, no_values, tables_layout, version_of}
use Rattle.story_format.specs.Soundness.{strings_read}
use Rattle.story_format.specs.Spells.{Spells, head}
use Rattle.story_format.specs.ValueChecks.{are_right_values, strings_in_values}
use Rattle.story_format.specs.declared.tables.Tables.{Tables}
use Rattle.story_format.specs.declared.value_tables.ValueTables.{ValueTables}
use Rattle.story_format.proofs.ReadingLemmas.{front_version, version_small, version_there}

-- ---- where there are no values

none_there : {A : Type 0} (xs : List A) → eqb (length xs) 0 ≡ true → xs ≡ []
none_there [] h = refl
none_there (x ∷ xs) h = let z : false ≡ true = sym (eqb-suc-zero (length xs)) ∙ h in absurd cc

no_values_fit : (v : ValueTables) → no_tables_layout.format.fits v ≡ true → v ≡ no_values
unfolding no_tables_layout
no_values_fit v h =
    let p = and_parts (eqb (length v.kinds) 0) (eqb (length v.objects) 0) h in
    λ i. record { kinds = none_there v.kinds p.0 i; objects = none_there v.objects p.1 i }

-- ---- of version 1, they say the same

first_of : (bytes : List ℕ) (t : Tables) → Spells bytes t → take 6 bytes ≡ head 1 → SpellsFirst bytes t
unfolding tables_layout no_tables_layout are_right are_right_values
first_of bytes t h front =
    let own = version_of t in
    let one : 1 ≡ own = front_version bytes ((tables_layout own).format.put t) 1 own (version_small 1 refl) (version_small own (version_there t)) front h.spelled in
    let fit : (first_layout.format.fits (first_tables t) && no_tables_layout.format.fits t.values) ≡ true = ap (λ version. (tables_layout version).format.fits t) one ∙ h.story.fits in
    let p = and_parts (first_layout.format.fits (first_tables t)) (no_tables_layout.format.fits t.values) fit in
    let none : t.values ≡ no_values = no_values_fit t.values p.1 in
    record {
      none = none;
      spelled = h.spelled ∙ ap (λ version. head version ++ (tables_layout version).format.put t) (sym one) ∙ ap (λ (rest : List ℕ). head 1 ++ rest) (append-nil (first_layout.format.put (first_tables t)));
      fits = p.0;
      right = (and_parts (are_first_right t) (are_right_values t) h.story.right).0;
      judged = h.story.sound.judged;
      codes = h.story.sound.table;
      in_turn = h.story.sound.in_turn;
      named = ap (counted_on 0) (sym (ap (λ (v : ValueTables). strings_read t ++ strings_in_values v.kinds) none ∙ append-nil (strings_read t))) ∙ h.story.sound.named;
      ordered = h.story.ordered;
    }

of_first : (bytes : List ℕ) (t : Tables) → SpellsFirst bytes t → Spells bytes t × (take 6 bytes ≡ head 1)
unfolding tables_layout no_tables_layout are_right are_right_values
of_first bytes t h =
    let own : version_of t ≡ 1 = ap (λ (v : ValueTables). cond (eqb (length v.kinds) 0) 1 2) h.none in
    let empty : no_tables_layout.format.fits t.values ≡ true = ap no_tables_layout.format.fits h.none in
    let fit : (tables_layout 1).format.fits t ≡ true = and_from (first_layout.format.fits (first_tables t)) (no_tables_layout.format.fits t.values) h.fits empty in
    let values : are_right_values t ≡ true = rw h.none refl in
    let spelled : bytes ≡ head 1 ++ (tables_layout 1).format.put t = h.spelled ∙ ap (λ (rest : List ℕ). head 1 ++ rest) (sym (append-nil (first_layout.format.put (first_tables t)))) in (
      record {
        story = record {
          fits = ap (λ version. (tables_layout version).format.fits t) own ∙ fit;
          right = and_from (are_first_right t) (are_right_values t) h.right values;
          sound = record {
            judged = h.judged;
            table = h.codes;
            in_turn = h.in_turn;
            named = ap (counted_on 0) (ap (λ (v : ValueTables). strings_read t ++ strings_in_values v.kinds) h.none ∙ append-nil (strings_read t)) ∙ h.named;
          };
          ordered = h.ordered;
        };
        spelled = spelled ∙ ap (λ version. head version ++ (tables_layout version).format.put t) (sym own);
      },
      ap (take 6) h.spelled,
    )

pub first_version : FirstVersionStands
first_version bytes t = (λ both. first_of bytes t both.0 both.1, of_first bytes t)
