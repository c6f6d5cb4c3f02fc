-- No bytes stand for two faults.
use Rattle.std.proofs.Common.{◌≡◌, ◌≢◌, ℕ, ◌+◌, ◌<◌, Bool, true, false, cond, eqb, List, [], ◌∷◌, ◌++◌, length, take, Option, Some, Ok, Err, refl, sym, ap, subst, ◌∙◌, arith, inl, inr, ◌⊎◌}
use Rattle.std.specs.Str.{bytes_eq}
use Rattle.std.specs.Int.{w16, to_be_bytes}
use Rattle.std.proofs.Math.Dec.{eqb-suc-zero}
use Rattle.std.proofs.lemmas.Bool.{lt-ltb, cases_Bool}
use Rattle.std.proofs.lemmas.List.{length-append}
use Rattle.std.proofs.lemmas.Slice.Eq.{bytes_eq-Decides}
use Rattle.story_format.specs.declared.fault.LoadFault.{LoadFault}
use Rattle.story_format.specs.declared.fault.LoadFault.TheVariants.{BadMagic, BadVersion, Truncated, TooLong, BadTable, BadCode, BadOrder, Memory}
use Rattle.story_format.specs.declared.tables.Tables.{Tables}
use Rattle.story_format.specs.FormatLaws.{number16_lawful}
use Rattle.story_format.specs.Layout.{tables_layout, version_of}
use Rattle.story_format.specs.Spells.{magic, head}
use Rattle.story_format.specs.Reading.{Read, whole, body_at, body_read, is_right_file, tables_in, tables_read}
use Rattle.story_format.specs.Refusals.{Are, Holds, IsRefused, is_version}
use Rattle.story_format.specs.Soundness.{AreSound}
use Rattle.story_format.proofs.ReadingLemmas.{file_right, file_wrong, front_version, ok_is, read_are, read_whole, version_small}

-- the fault of what was read
abbrev fault_told : Read → LoadFault
fault_told (Err fault) = fault
fault_told (Ok (version, t)) = cond (is_right_file version t) BadCode BadTable

-- ---- what is read where a fault stands

no_magic_read : (bytes : List ℕ) → take 4 bytes ≢ magic → tables_read bytes ≡ Err BadMagic
unfolding body_read
no_magic_read bytes other =
    elim (cases_Bool (bytes_eq (take 4 bytes) magic)) [
      | inl is ↦ absurd (other ((bytes_eq-Decides (take 4 bytes) magic).0 is))
      | inr isnt ↦ rw isnt refl
    ]

other_version_read : (version : ℕ) (rest : List ℕ) → is_version version ≡ false → version < 65536 → tables_read (magic ++ (to_be_bytes w16 version ++ rest)) ≡ Err BadVersion
unfolding body_read
other_version_read version rest other lt = ap (λ (o : Option (ℕ × List ℕ)). tables_in (body_at o)) (number16_lawful.again version rest (lt-ltb version 65536 lt)) ∙ rw other refl

more_is_long : (version : ℕ) (t : Tables) (rest : List ℕ) → rest ≢ [] → whole version (Some (t, rest)) ≡ Err TooLong
more_is_long version t [] some = absurd (some refl)
more_is_long version t (x ∷ rest) some = let isnt : eqb (length (x ∷ rest)) 0 ≡ false = eqb-suc-zero (length rest) in rw isnt refl

told_of_tables : (bytes : List ℕ) (version : ℕ) (t : Tables) (b : Bool) → Are bytes version t → is_right_file version t ≡ b → fault_told (tables_read bytes) ≡ cond b BadCode BadTable
told_of_tables bytes version t b are is = ap fault_told (read_are bytes version t are) ∙ ap (λ (b : Bool). cond b BadCode BadTable) is

-- books that are out of order are told apart from codes that aren't sound by the tables that stand there
told_or_cut : (bytes : List ℕ) (fault : LoadFault) → IsRefused fault bytes → fault ≢ Memory → (fault ≡ fault_told (tables_read bytes)) ⊎ (((fault ≡ BadOrder) × IsRefused BadOrder bytes) ⊎ ((fault ≡ Truncated) × IsRefused Truncated bytes))
told_or_cut bytes BadMagic h other = inl (sym (ap fault_told (no_magic_read bytes h)))
told_or_cut bytes BadVersion (version, rest, is_other, lt, parts) other = inl (sym (ap fault_told (ap tables_read parts ∙ other_version_read version rest is_other lt)))
told_or_cut bytes Truncated h other = inr (inr (refl, h))
told_or_cut bytes TooLong (version, t, rest, is, some, holds) other = inl (sym (ap fault_told (ap tables_read holds.1 ∙ read_whole version t rest is holds.0 ∙ more_is_long version t rest some)))
told_or_cut bytes BadTable (version, t, are, wrong) other = inl (sym (told_of_tables bytes version t false are (file_wrong version t wrong)))
told_or_cut bytes BadCode (t, are, right, unsound) other = inl (sym (told_of_tables bytes (version_of t) t true are (file_right t right)))
told_or_cut bytes BadOrder h other = inr (inl (refl, h))
told_or_cut bytes Memory h other = absurd (other refl)

-- ---- where the tables are cut, nothing else stands

no_short_head : (bytes : List ℕ) (version : ℕ) (body : List ℕ) → bytes ≡ magic ++ (to_be_bytes w16 version ++ body) → length bytes < 6 → ⊥
no_short_head bytes version body e short =
    let count : length bytes ≡ length (magic ++ (to_be_bytes w16 version ++ body)) = ap length e in
    let long : length (magic ++ (to_be_bytes w16 version ++ body)) ≡ 4 + length (to_be_bytes w16 version ++ body) = length-append magic (to_be_bytes w16 version ++ body) in
    let two : length (to_be_bytes w16 version ++ body) ≡ 2 + length body = length-append (to_be_bytes w16 version) body in
    absurd (omega (arith, count, long, two, short))

no_other_version : (bytes : List ℕ) (version other : ℕ) (rest : List ℕ) → is_version version ≡ true → is_version other ≡ false → other < 65536 → bytes ≡ magic ++ (to_be_bytes w16 other ++ rest) → take 6 bytes ≡ head version → ⊥
no_other_version bytes version other rest is isnt lt e front =
    let same : version ≡ other = front_version bytes rest version other (version_small version is) lt front e in
    let z : true ≡ false = sym is ∙ ap is_version same ∙ isnt in cc

no_tables : (bytes : List ℕ) (version : ℕ) (t : Tables) (rest : List ℕ) → IsRefused Truncated bytes → is_version version ≡ true → Holds bytes version t rest → ⊥
no_tables bytes version t rest (front, inl short) is holds = no_short_head bytes version ((tables_layout version).format.put t ++ rest) holds.1 short
no_tables bytes version t rest (front, inr (other, known, (first, none))) is holds =
    let same : other ≡ version = front_version bytes ((tables_layout version).format.put t ++ rest) other version (version_small other known) (version_small version is) first holds.1 in
    none t rest (subst (λ v. Holds bytes v t rest) (sym same) holds)

only_cut : (bytes : List ℕ) (fault : LoadFault) → IsRefused Truncated bytes → IsRefused fault bytes → fault ≢ Memory → fault ≡ Truncated
only_cut bytes BadMagic h k other = absurd (k h.0)
only_cut bytes BadVersion (front, inl short) (version, rest, is_other, lt, parts) other = absurd (no_short_head bytes version rest parts short)
only_cut bytes BadVersion (front, inr (known, is, cut)) (version, rest, is_other, lt, parts) other = absurd (no_other_version bytes known version rest is is_other lt parts cut.0)
only_cut bytes Truncated h k other = refl
only_cut bytes TooLong h (version, t, rest, is, some, holds) other = absurd (no_tables bytes version t rest h is holds)
only_cut bytes BadTable h (version, t, are, wrong) other = absurd (no_tables bytes version t [] h are.0 are.1)
only_cut bytes BadCode h (t, are, right, unsound) other = absurd (no_tables bytes (version_of t) t [] h are.0 are.1)
only_cut bytes BadOrder h (t, are, right, sound, disordered) other = absurd (no_tables bytes (version_of t) t [] h are.0 are.1)
only_cut bytes Memory h k other = absurd (other refl)

-- ---- codes that aren't sound, and books that are out of order

never_code_and_order : (bytes : List ℕ) (fault : LoadFault) → fault ≡ fault_told (tables_read bytes) → IsRefused fault bytes → IsRefused BadOrder bytes → ⊥
never_code_and_order bytes fault told h (u, are, right, sound, disordered) =
    let code : fault ≡ BadCode = told ∙ told_of_tables bytes (version_of u) u true are (file_right u right) in
    let unsound : IsRefused BadCode bytes = subst (λ (x : LoadFault). IsRefused x bytes) code h in
    let other = unsound.0 in
    let both =
    ok_is (version_of u, u) (version_of other, other) (sym (read_are bytes (version_of u) u are) ∙ read_are bytes (version_of other) other unsound.1) in
    unsound.3 (subst AreSound (ap (λ (p : ℕ × Tables). p.1) both) sound)

pub same_fault : (bytes : List ℕ) (fault other : LoadFault) → IsRefused fault bytes → IsRefused other bytes → fault ≢ Memory → other ≢ Memory → fault ≡ other
same_fault bytes fault other h k f g =
    elim (told_or_cut bytes fault h f) [
      | inl told ↦
          elim (told_or_cut bytes other k g) [
            | inl too ↦ told ∙ sym too
            | inr (inl ordered) ↦ absurd (never_code_and_order bytes fault told h ordered.1)
            | inr (inr cut) ↦ only_cut bytes fault cut.1 h f ∙ sym cut.0
          ]
      | inr (inl ordered) ↦
          elim (told_or_cut bytes other k g) [
            | inl too ↦ absurd (never_code_and_order bytes other too k ordered.1)
            | inr (inl both) ↦ ordered.0 ∙ sym both.0
            | inr (inr cut) ↦ only_cut bytes fault cut.1 h f ∙ sym cut.0
          ]
      | inr (inr cut) ↦ cut.0 ∙ sym (only_cut bytes other cut.1 k g)
    ]
