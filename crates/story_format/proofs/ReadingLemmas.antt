-- What is known of bytes whose tables were read, and of bytes that were refused.
use Rattle.std.proofs.Common.{◌≡◌, ◌≢◌, ℕ, ◌+◌, ◌<◌, ◌≤◌, Bool, true, false, cond, ltb, eqb, List, [], ◌∷◌, ◌++◌, length, take, drop, Option, Some, None, Result, Ok, Err, refl, sym, ap, subst, ◌∙◌, arith, inl, inr, ◌⊎◌}
use Rattle.std.specs.Str.{bytes_eq}
use Rattle.std.specs.Int.{w16, to_be_bytes, from_be_bytes}
use Rattle.std.proofs.Math.Dec.{eqb-suc-zero}
use Rattle.std.proofs.lemmas.Bool.{ltb-true, lt-ltb, ne_eqb, eq-eqb, eqb-true, eqb-false, and_from, and_parts, cases_Bool}
use Rattle.std.proofs.lemmas.List.{append-nil, length-append, length-drop, take-append-drop}
use Rattle.std.proofs.lemmas.Slice.Eq.{bytes_eq-Decides}
use Rattle.std.proofs.lemmas.Option.{same_Some}
use Rattle.story_format.specs.declared.fault.LoadFault.{LoadFault}
use Rattle.story_format.specs.declared.fault.LoadFault.TheVariants.{BadMagic, BadVersion, Truncated, TooLong, BadTable, BadCode, BadOrder, Memory}
use Rattle.story_format.specs.declared.tables.Tables.{Tables}
use Rattle.story_format.specs.Formats.{IsBytes, behind, number}
use Rattle.story_format.specs.FormatLaws.{number16_lawful, IsBytes-drop}
use Rattle.story_format.specs.Reading.{Read, whole, body_at, body_read, is_right_file, tables_in, tables_read, FailBy, FaultGiven}
use Rattle.story_format.specs.Refusals.{Are, Holds, IsRefused, is_version}
use Rattle.story_format.specs.Layout.{tables_layout, version_of}
use Rattle.story_format.specs.Checks.{are_right}
use Rattle.story_format.specs.Soundness.{AreSound}
use Rattle.story_format.specs.Spells.{magic, head, are_ordered, Spells}
use Rattle.story_format.proofs.SoundOrNot.{codes_are_bytes, sound_or_not}

-- ---- versions

pub version_small : (version : ℕ) → is_version version ≡ true → version < 65536
version_small version h =
    elim (cases_Bool (eqb version 1)) [
      | inl is ↦ omega (arith, eqb-true version 1 is)
      | inr isnt ↦ let two : eqb version 2 ≡ true = rw isnt at h in omega (arith, eqb-true version 2 two)
    ]

version_either : (b : Bool) → is_version (cond b 1 2) ≡ true
version_either true = refl
version_either false = refl

-- tables have a version
pub version_there : (t : Tables) → is_version (version_of t) ≡ true
version_there t = version_either (eqb (length t.values.kinds) 0)

pub same_version : (version other : ℕ) (rest body : List ℕ) → version < 65536 → other < 65536 → to_be_bytes w16 version ++ rest ≡ to_be_bytes w16 other ++ body → version ≡ other
same_version version other rest body lt low e =
    let first = number16_lawful.again version rest (lt-ltb version 65536 lt) in
    let second = ap (number w16).get e ∙ number16_lawful.again other body (lt-ltb other 65536 low) in
    ap (λ (p : ℕ × List ℕ). p.0) (same_Some (version, rest) (other, body) (sym first ∙ second))

-- the version that stands in front is one
pub front_version : (bytes body : List ℕ) (version other : ℕ) → version < 65536 → other < 65536 → take 6 bytes ≡ head version → bytes ≡ head other ++ body → version ≡ other
front_version bytes body version other lt low front e =
    let same : to_be_bytes w16 version ++ [] ≡ to_be_bytes w16 other ++ [] = ap (drop 4) (sym front ∙ ap (take 6) e) in
    same_version version other [] [] lt low same

-- the version is that of the tables, and these are right
pub file_parts : (version : ℕ) (t : Tables) → is_right_file version t ≡ true → (version ≡ version_of t) × (are_right t ≡ true)
unfolding is_right_file
file_parts version t h = let p = and_parts (eqb version (version_of t)) (are_right t) h in (eqb-true version (version_of t) p.0, p.1)

pub file_right : (t : Tables) → are_right t ≡ true → is_right_file (version_of t) t ≡ true
unfolding is_right_file
file_right t right = and_from (eqb (version_of t) (version_of t)) (are_right t) (eq-eqb (version_of t) (version_of t) refl) right

pub file_wrong : (version : ℕ) (t : Tables) → (version ≢ version_of t) ⊎ (are_right t ≡ false) → is_right_file version t ≡ false
unfolding is_right_file
file_wrong version t (inl other) = rw (ne_eqb version (version_of t) other) refl
file_wrong version t (inr wrong) =
    elim (cases_Bool (eqb version (version_of t))) [
      | inl is ↦ rw (is, wrong) refl
      | inr isnt ↦ rw isnt refl
    ]

why_wrong : (version : ℕ) (t : Tables) → is_right_file version t ≡ false → (version ≢ version_of t) ⊎ (are_right t ≡ false)
unfolding is_right_file
why_wrong version t h =
    elim (cases_Bool (eqb version (version_of t))) [
      | inl is ↦ let wrong : are_right t ≡ false = rw is at h in inr wrong
      | inr isnt ↦ inl (eqb-false version (version_of t) isnt)
    ]

-- ---- reading what was put

pub read_whole : (version : ℕ) (t : Tables) (rest : List ℕ) → is_version version ≡ true → (tables_layout version).format.fits t ≡ true → tables_read (head version ++ ((tables_layout version).format.put t ++ rest)) ≡ whole version (Some (t, rest))
unfolding body_read
read_whole version t rest is fits =
    ap (λ (o : Option (ℕ × List ℕ)). tables_in (body_at o)) (number16_lawful.again version ((tables_layout version).format.put t ++ rest) (lt-ltb version 65536 (version_small version is)))
    ∙ known is ∙ ap (whole version) ((tables_layout version).lawful.again t rest fits)
  where
    known : is_version version ≡ true → tables_in (body_at (Some (version, (tables_layout version).format.put t ++ rest))) ≡ whole version ((tables_layout version).format.get ((tables_layout version).format.put t ++ rest))
    known is = rw is refl

-- of bytes that are tables
pub read_are : (bytes : List ℕ) (version : ℕ) (t : Tables) → Are bytes version t → tables_read bytes ≡ Ok (version, t)
read_are bytes version t are = ap tables_read are.1.1 ∙ read_whole version t [] are.0 are.1.0

pub ok_is : {A : Type 0} (x y : A) → (let left : Result A LoadFault = Ok x in let right : Result A LoadFault = Ok y in left ≡ right) → x ≡ y
ok_is x y e = cc

-- ---- what skipping tells

pub cut_by_skip : (version : ℕ) (found : Option (Tables × List ℕ)) → None ≡ behind found → whole version found ≡ Err Truncated
cut_by_skip version None e = refl
cut_by_skip version (Some x) e = absurd cc

pub long_by_skip : (version : ℕ) (found : Option (Tables × List ℕ)) (rest : List ℕ) → 1 ≤ length rest → Some rest ≡ behind found → whole version found ≡ Err TooLong
long_by_skip version None rest le e = absurd cc
long_by_skip version (Some x) rest le e =
    let same : rest ≡ x.1 = same_Some rest x.1 e in
    let some : eqb (length x.1) 0 ≡ false = ne_eqb (length x.1) 0 (λ k. omega (arith, k, le, ap length same)) in
    rw some refl

nothing_behind : (version : ℕ) (rest : List ℕ) (x : Tables × List ℕ) → length rest < 1 → Some rest ≡ behind (Some x) → whole version (Some x) ≡ Ok (version, x.0)
nothing_behind version rest x lt e =
    let same : rest ≡ x.1 = same_Some rest x.1 e in
    let none : eqb (length x.1) 0 ≡ true = eq-eqb (length x.1) 0 (omega (arith, lt, ap length same)) in
    rw none refl

pub whole_by_skip : (version : ℕ) (found : Option (Tables × List ℕ)) (rest : List ℕ) → length rest < 1 → Some rest ≡ behind found → (told : ℕ × Tables) × (whole version found ≡ Ok told)
whole_by_skip version None rest lt e = absurd cc
whole_by_skip version (Some x) rest lt e = ((version, x.0), nothing_behind version rest x lt e)

pub read_by_skip : (version : ℕ) (found : Option (Tables × List ℕ)) (rest : List ℕ) (t : Tables) (more : List ℕ) → length rest < 1 → Some rest ≡ behind found → Some (t, more) ≡ found → whole version found ≡ Ok (version, t)
read_by_skip version None rest t more lt e k = absurd cc
read_by_skip version (Some x) rest t more lt e k =
    let same : x ≡ (t, more) = same_Some x (t, more) (sym k) in
    nothing_behind version rest x lt e ∙ ap (λ (p : Tables × List ℕ). let read : Read = Ok (version, p.0) in read) same

-- ---- what reading says of the bytes

magic_in_front : (bytes : List ℕ) → bytes_eq (take 4 bytes) magic ≡ true → bytes ≡ magic ++ drop 4 bytes
magic_in_front bytes e = sym (take-append-drop 4 bytes) ∙ ap (λ (front : List ℕ). front ++ drop 4 bytes) ((bytes_eq-Decides (take 4 bytes) magic).0 e)

-- how far reading came
data Stage : List ℕ → Read → Type 0 where
  no_magic : {bytes : List ℕ} → take 4 bytes ≢ magic → Stage bytes (Err BadMagic)
  no_version : {bytes : List ℕ} → take 4 bytes ≡ magic → length bytes < 6 → Stage bytes (Err Truncated)
  other_version : {bytes : List ℕ} (version : ℕ) (rest : List ℕ) → is_version version ≡ false → version < 65536 → bytes ≡ magic ++ (to_be_bytes w16 version ++ rest) → Stage bytes (Err BadVersion)
  cut : {bytes : List ℕ} (version : ℕ) (body : List ℕ) → is_version version ≡ true → bytes ≡ head version ++ body → (tables_layout version).format.get body ≡ None → Stage bytes (Err Truncated)
  more : {bytes : List ℕ} (version : ℕ) (t : Tables) (rest : List ℕ) → is_version version ≡ true → rest ≢ [] → Holds bytes version t rest → Stage bytes (Err TooLong)
  all : {bytes : List ℕ} (version : ℕ) (t : Tables) → Are bytes version t → Stage bytes (Ok (version, t))

stage_of_tables : (bytes : List ℕ) (version : ℕ) (body : List ℕ) → IsBytes body → is_version version ≡ true → bytes ≡ head version ++ body → (found : Option (Tables × List ℕ)) → (tables_layout version).format.get body ≡ found → Stage bytes (whole version found)
stage_of_tables bytes version body fits is e None k = cut version body is e k
stage_of_tables bytes version body fits is e (Some (t, [])) k =
    let p = (tables_layout version).lawful.takes body t [] fits k in
    all version t (is, (p.1, e ∙ ap (λ (b : List ℕ). head version ++ b) p.0.parts))
stage_of_tables bytes version body fits is e (Some (t, x ∷ rest)) k =
    let p = (tables_layout version).lawful.takes body t (x ∷ rest) fits k in
    let some : eqb (length (x ∷ rest)) 0 ≡ false = eqb-suc-zero (length rest) in
    rw some (more version t (x ∷ rest) is (λ e. absurd cc) (p.1, e ∙ ap (λ (b : List ℕ). head version ++ b) p.0.parts))

some_found : {A : Type 0} (test : Bool) (x : A) → cond test None (Some x) ≡ None → test ≡ true
some_found true x e = refl
some_found false x e = absurd cc

stage_of_version : (bytes : List ℕ) → IsBytes bytes → bytes_eq (take 4 bytes) magic ≡ true → (found : Option (ℕ × List ℕ)) → (number w16).get (drop 4 bytes) ≡ found → Stage bytes (tables_in (body_at found))
stage_of_version bytes fits e None k =
    let short : ltb (length (drop 4 bytes)) 2 ≡ true = some_found (ltb (length (drop 4 bytes)) 2) (from_be_bytes w16 (take 2 (drop 4 bytes)), drop 2 (drop 4 bytes)) k in
    let lt : length (drop 4 bytes) < 2 = ltb-true _ _ short in
    no_version ((bytes_eq-Decides (take 4 bytes) magic).0 e) (omega (arith, lt, length-drop 4 bytes))
stage_of_version bytes fits e (Some (version, body)) k =
    let p = number16_lawful.takes (drop 4 bytes) version body (IsBytes-drop 4 bytes fits) k in
    let lt : version < 65536 = ltb-true _ _ p.1 in
    let parts : bytes ≡ magic ++ (to_be_bytes w16 version ++ body) = magic_in_front bytes e ∙ ap (λ (rest : List ℕ). magic ++ rest) p.0.parts in
    elim (cases_Bool (is_version version)) [
      | inl is ↦ rw is (stage_of_tables bytes version body p.0.rest_fits is parts ((tables_layout version).format.get body) refl)
      | inr isnt ↦ rw isnt (other_version version body isnt lt parts)
    ]

stage_of : (bytes : List ℕ) → IsBytes bytes → Stage bytes (tables_read bytes)
unfolding body_read
stage_of bytes fits =
    elim (cases_Bool (bytes_eq (take 4 bytes) magic)) [
      | inl is ↦ rw is (stage_of_version bytes fits is ((number w16).get (drop 4 bytes)) refl)
      | inr isnt ↦ rw isnt (no_magic (λ e. let k : bytes_eq (take 4 bytes) magic ≡ true = (bytes_eq-Decides (take 4 bytes) magic).1 e in let z : false ≡ true = sym isnt ∙ k in absurd cc))
    ]

-- ---- what a fault says

given_is : (fault other : LoadFault) → FaultGiven fault (Err other) → other ≡ fault
given_is BadMagic other e = cc
given_is BadVersion other e = cc
given_is Truncated other e = cc
given_is TooLong other e = cc
given_is BadTable other e = cc
given_is BadCode other e = cc
given_is BadOrder other e = cc
given_is Memory other (told, e) = absurd cc

given_ok : (fault : LoadFault) (told : ℕ × Tables) → FaultGiven fault (Ok told) → Memory ≡ fault
given_ok BadMagic told e = absurd cc
given_ok BadVersion told e = absurd cc
given_ok Truncated told e = absurd cc
given_ok TooLong told e = absurd cc
given_ok BadTable told e = absurd cc
given_ok BadCode told e = absurd cc
given_ok BadOrder told e = absurd cc
given_ok Memory told e = refl

refused_as : (bytes : List ℕ) (fault other : LoadFault) → FaultGiven fault (Err other) → IsRefused other bytes → IsRefused fault bytes
refused_as bytes fault other e h = subst (λ (f : LoadFault). IsRefused f bytes) (given_is fault other e) h

none_stand : (bytes : List ℕ) (version : ℕ) (body : List ℕ) → bytes ≡ head version ++ body → (tables_layout version).format.get body ≡ None → (t : Tables) (rest : List ℕ) → Holds bytes version t rest → ⊥
none_stand bytes version body e k t rest h =
    let same : body ≡ (tables_layout version).format.put t ++ rest = ap (drop 6) (sym e ∙ h.1) in
    let z = sym k ∙ ap (tables_layout version).format.get same ∙ (tables_layout version).lawful.again t rest h.0 in absurd cc

cut_so : (bytes : List ℕ) (version : ℕ) (body : List ℕ) → is_version version ≡ true → bytes ≡ head version ++ body → (tables_layout version).format.get body ≡ None → IsRefused Truncated bytes
cut_so bytes version body is parts k = (ap (take 4) parts, inr (version, is, (ap (take 6) parts, none_stand bytes version body parts k)))

refused_at : (bytes : List ℕ) (read : Read) → Stage bytes read → (fault : LoadFault) → FaultGiven fault read → IsRefused fault bytes
refused_at bytes read (no_magic isnt) fault e = refused_as bytes fault BadMagic e isnt
refused_at bytes read (no_version front short) fault e = refused_as bytes fault Truncated e (front, inl short)
refused_at bytes read (other_version version rest other lt parts) fault e = refused_as bytes fault BadVersion e (version, rest, other, lt, parts)
refused_at bytes read (cut version body is parts k) fault e = refused_as bytes fault Truncated e (cut_so bytes version body is parts k)
refused_at bytes read (more version t rest is some holds) fault e = refused_as bytes fault TooLong e (version, t, rest, is, some, holds)
refused_at bytes read (all version t are) fault e = subst (λ (f : LoadFault). IsRefused f bytes) (given_ok fault (version, t) e) (version, t, are)

pub refused : (bytes : List ℕ) (fault : LoadFault) → IsBytes bytes → FaultGiven fault (tables_read bytes) → IsRefused fault bytes
refused bytes fault fits e = refused_at bytes (tables_read bytes) (stage_of bytes fits) fault e

are_at : (bytes : List ℕ) (read : Read) → Stage bytes read → (told : ℕ × Tables) → read ≡ Ok told → Are bytes told.0 told.1
are_at bytes read (no_magic isnt) told e = absurd cc
are_at bytes read (no_version front short) told e = absurd cc
are_at bytes read (other_version version rest other lt parts) told e = absurd cc
are_at bytes read (cut version body is parts k) told e = absurd cc
are_at bytes read (more version t rest is some holds) told e = absurd cc
are_at bytes read (all version t are) told e = subst (λ (p : ℕ × Tables). Are bytes p.0 p.1) (ok_is (version, t) told e) are

pub tables_stand : (bytes : List ℕ) (version : ℕ) (t : Tables) → IsBytes bytes → tables_read bytes ≡ Ok (version, t) → Are bytes version t
tables_stand bytes version t fits e = are_at bytes (tables_read bytes) (stage_of bytes fits) (version, t) e

-- ---- the faults of tables

module _ (bytes : List ℕ) (version : ℕ) (t : Tables) (fits : IsBytes bytes) (e : tables_read bytes ≡ Ok (version, t)) where
  pub table_fault : is_right_file version t ≡ false → IsRefused BadTable bytes
  table_fault h = (version, t, tables_stand bytes version t fits e, why_wrong version t h)

  -- tables of their own version
  are_own : is_right_file version t ≡ true → Are bytes (version_of t) t
  are_own right = subst (λ v. Are bytes v t) (file_parts version t right).0 (tables_stand bytes version t fits e)

  pub code_fault : is_right_file version t ≡ true → (AreSound t → ⊥) → IsRefused BadCode bytes
  code_fault right unsound = (t, are_own right, (file_parts version t right).1, unsound)

  pub order_fault : is_right_file version t ≡ true → AreSound t → are_ordered t ≡ false → IsRefused BadOrder bytes
  order_fault right sound disordered = (t, are_own right, (file_parts version t right).1, sound, disordered)

  pub memory_fault : IsRefused Memory bytes
  memory_fault = (version, t, tables_stand bytes version t fits e)

  pub failed_by : (fault : LoadFault) → FailBy fault version t → IsRefused fault bytes
  failed_by BadMagic h = absurd h
  failed_by BadVersion h = absurd h
  failed_by Truncated h = absurd h
  failed_by TooLong h = absurd h
  failed_by BadTable h = table_fault h
  failed_by BadCode (right, unsound) = code_fault right unsound
  failed_by BadOrder (right, sound, disordered) = order_fault right sound disordered
  failed_by Memory h = memory_fault

  pub story_there : is_right_file version t ≡ true → AreSound t → are_ordered t ≡ true → Spells bytes t
  story_there right sound ordered =
      let are = are_own right in
      record {
        story = record { fits = are.1.0; right = (file_parts version t right).1; sound = sound; ordered = ordered };
        spelled = are.1.1 ∙ ap (λ (body : List ℕ). head (version_of t) ++ body) (append-nil ((tables_layout (version_of t)).format.put t));
      }

-- ---- stories

pub spelled_are : (bytes : List ℕ) (t : Tables) → Spells bytes t → Are bytes (version_of t) t
spelled_are bytes t h =
    (version_there t, (h.story.fits, h.spelled ∙ ap (λ (body : List ℕ). head (version_of t) ++ body) (sym (append-nil ((tables_layout (version_of t)).format.put t)))))

pub spelled_read : (bytes : List ℕ) (t : Tables) → Spells bytes t → tables_read bytes ≡ Ok (version_of t, t)
spelled_read bytes t h = read_are bytes (version_of t) t (spelled_are bytes t h)

-- what is read of a story's bytes is the story
pub told_is : (bytes : List ℕ) (t : Tables) (version : ℕ) (u : Tables) → Spells bytes t → tables_read bytes ≡ Ok (version, u) → (let own : ℕ × Tables = (version_of t, t) in let read : ℕ × Tables = (version, u) in own ≡ read)
told_is bytes t version u h e = ok_is (version_of t, t) (version, u) (sym (spelled_read bytes t h) ∙ e)

pub read_is : (bytes : List ℕ) (t : Tables) (version : ℕ) (u : Tables) → Spells bytes t → tables_read bytes ≡ Ok (version, u) → t ≡ u
read_is bytes t version u h e = ap (λ (p : ℕ × Tables). p.1) (told_is bytes t version u h e)

pub same_story : (bytes : List ℕ) (t u : Tables) → Spells bytes t → Spells bytes u → t ≡ u
same_story bytes t u h k = read_is bytes t (version_of u) u h (spelled_read bytes u k)

pub right_if_spelled : (bytes : List ℕ) (t : Tables) (version : ℕ) (u : Tables) → Spells bytes t → tables_read bytes ≡ Ok (version, u) → is_right_file version u ≡ true
right_if_spelled bytes t version u h e = ap (λ (p : ℕ × Tables). is_right_file p.0 p.1) (sym (told_is bytes t version u h e)) ∙ file_right t h.story.right

pub sound_if_spelled : (bytes : List ℕ) (t : Tables) (version : ℕ) (u : Tables) → Spells bytes t → tables_read bytes ≡ Ok (version, u) → AreSound u
sound_if_spelled bytes t version u h e = subst AreSound (read_is bytes t version u h e) h.story.sound

pub ordered_if_spelled : (bytes : List ℕ) (t : Tables) (version : ℕ) (u : Tables) → Spells bytes t → tables_read bytes ≡ Ok (version, u) → are_ordered u ≡ true
ordered_if_spelled bytes t version u h e = ap are_ordered (sym (read_is bytes t version u h e)) ∙ h.story.ordered

pub only_memory : (bytes : List ℕ) (t : Tables) (fault : LoadFault) → Spells bytes t → FaultGiven fault (tables_read bytes) → fault ≡ Memory
only_memory bytes t fault h e = sym (given_ok fault (version_of t, t) (subst (FaultGiven fault) (spelled_read bytes t h) e))

-- ---- a story, or a fault

abbrev StoryOrFault : List ℕ → Type 0
StoryOrFault bytes = ((t : Tables) × Spells bytes t) ⊎ ((fault : LoadFault) × (fault ≢ Memory) × IsRefused fault bytes)

story_or_fault : (bytes : List ℕ) (version : ℕ) (t : Tables) → IsBytes bytes → tables_read bytes ≡ Ok (version, t) → StoryOrFault bytes
story_or_fault bytes version t fits e =
    elim (cases_Bool (is_right_file version t)) [
      | inl right ↦
          elim (sound_or_not t (codes_are_bytes bytes version t [] fits (tables_stand bytes version t fits e).1.1)) [
            | inl sound ↦
                elim (cases_Bool (are_ordered t)) [
                  | inl ordered ↦ inl (t, story_there bytes version t fits e right sound ordered)
                  | inr disordered ↦ inr (BadOrder, λ e. absurd cc, order_fault bytes version t fits e right sound disordered)
                ]
            | inr unsound ↦ inr (BadCode, λ e. absurd cc, code_fault bytes version t fits e right unsound)
          ]
      | inr wrong ↦ inr (BadTable, λ e. absurd cc, table_fault bytes version t fits e wrong)
    ]

refused_or_read : (bytes : List ℕ) (read : Read) → Stage bytes read → ((version : ℕ) (t : Tables) → tables_read bytes ≡ Ok (version, t) → StoryOrFault bytes) → StoryOrFault bytes
refused_or_read bytes read (no_magic isnt) f = inr (BadMagic, λ e. absurd cc, isnt)
refused_or_read bytes read (no_version front short) f = inr (Truncated, λ e. absurd cc, (front, inl short))
refused_or_read bytes read (other_version version rest other lt parts) f = inr (BadVersion, λ e. absurd cc, (version, rest, other, lt, parts))
refused_or_read bytes read (cut version body is parts k) f = inr (Truncated, λ e. absurd cc, cut_so bytes version body is parts k)
refused_or_read bytes read (more version t rest is some holds) f = inr (TooLong, λ e. absurd cc, (version, t, rest, is, some, holds))
refused_or_read bytes read (all version t are) f = f version t (read_are bytes version t are)

pub story_or_refused : (bytes : List ℕ) → IsBytes bytes → StoryOrFault bytes
story_or_refused bytes fits = refused_or_read bytes (tables_read bytes) (stage_of bytes fits) (λ version t. story_or_fault bytes version t fits)

-- ---- a story isn't refused

same_tables : (version : ℕ) (t u : Tables) (rest : List ℕ) → (tables_layout version).format.fits t ≡ true → (tables_layout version).format.fits u ≡ true → (tables_layout version).format.put t ≡ (tables_layout version).format.put u ++ rest → rest ≡ []
same_tables version t u rest f g e =
    let layout = (tables_layout version).format in
    let first : layout.get (layout.put t) ≡ Some (t, []) = ap layout.get (sym (append-nil (layout.put t))) ∙ (tables_layout version).lawful.again t [] f in
    let second = ap layout.get e ∙ (tables_layout version).lawful.again u rest g in
    sym (ap (λ (p : Tables × List ℕ). p.1) (same_Some (t, []) (u, rest) (sym first ∙ second)))

-- the version of a story's bytes is the story's
pub own_version : (bytes : List ℕ) (t : Tables) (version : ℕ) (body : List ℕ) → Spells bytes t → version < 65536 → bytes ≡ magic ++ (to_be_bytes w16 version ++ body) → version ≡ version_of t
own_version bytes t version body h lt parts =
    let own = version_of t in
    let same : to_be_bytes w16 version ++ body ≡ to_be_bytes w16 own ++ (tables_layout own).format.put t = ap (drop 4) (sym parts ∙ h.spelled) in
    same_version version own body ((tables_layout own).format.put t) lt (version_small own (version_there t)) same

no_longer : (bytes : List ℕ) (t : Tables) (version : ℕ) (u : Tables) (rest : List ℕ) → Spells bytes t → version ≡ version_of t → Holds bytes version u rest → rest ≡ []
no_longer bytes t version u rest h is holds =
    let own = subst (λ v. Holds bytes v u rest) is holds in
    same_tables (version_of t) t u rest h.story.fits own.0 (ap (drop 6) (sym h.spelled ∙ own.1))

pub not_refused : (bytes : List ℕ) (t : Tables) (fault : LoadFault) → Spells bytes t → IsRefused fault bytes → fault ≡ Memory
not_refused bytes t BadMagic h r = absurd (r (ap (take 4) (h.spelled)))
not_refused bytes t BadVersion h (version, rest, other, lt, parts) =
    let known : is_version version ≡ true = ap is_version (own_version bytes t version rest h lt parts) ∙ version_there t in
    let z : true ≡ false = sym known ∙ other in absurd cc
not_refused bytes t Truncated h (front, inl short) =
    let own = version_of t in
    let count : length bytes ≡ length (head own ++ (tables_layout own).format.put t) = ap length (h.spelled) in
    let long : length (head own ++ (tables_layout own).format.put t) ≡ 6 + length ((tables_layout own).format.put t) = length-append (head own) ((tables_layout own).format.put t) in
    absurd (omega (arith, count, long, short))
not_refused bytes t Truncated h (front, inr (version, is, (first, none))) =
    let own = version_of t in
    let same : version ≡ own = front_version bytes ((tables_layout own).format.put t) version own (version_small version is) (version_small own (version_there t)) first h.spelled in
    absurd (none t [] (subst (λ v. Holds bytes v t []) (sym same) (spelled_are bytes t h).1))
not_refused bytes t TooLong h (version, u, rest, is, some, holds) =
    absurd (some (no_longer bytes t version u rest h (own_version bytes t version ((tables_layout version).format.put u ++ rest) h (version_small version is) holds.1) holds))
not_refused bytes t BadTable h (version, u, are, wrong) =
    let z : true ≡ false = sym (right_if_spelled bytes t version u h (read_are bytes version u are)) ∙ file_wrong version u wrong in absurd cc
not_refused bytes t BadCode h (u, are, right, unsound) = absurd (unsound (sound_if_spelled bytes t (version_of u) u h (read_are bytes (version_of u) u are)))
not_refused bytes t BadOrder h (u, are, right, sound, disordered) =
    let z : true ≡ false = sym (ordered_if_spelled bytes t (version_of u) u h (read_are bytes (version_of u) u are)) ∙ disordered in absurd cc
not_refused bytes t Memory h r = refl
