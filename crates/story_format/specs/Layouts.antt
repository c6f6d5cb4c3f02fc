-- A format together with the fact that it is one, so that each layout is written once.
use Rattle.std.proofs.Common.{◌≡◌, ℕ, ◌==◌, true, false, List, [], ◌∷◌, length, Option, Some, refl, sym, subst, ◌∙◌}
use Rattle.std.proofs.Math.Dec.{eqb-suc-zero}
use Rattle.std.proofs.lemmas.Option.{same_Some}
use Rattle.std.specs.Int.{w16, w32}
use Rattle.story_format.specs.Formats.{Format, IsBytes, IsFormat, Takes, byte, number, pair, via, optional, exactly, counted, text}
use Rattle.story_format.specs.FormatLaws.{byte_lawful, number16_lawful, number32_lawful, pair_lawful, via_lawful, optional_lawful, exactly_lawful, counted_lawful, text_lawful}

pub record Layout (A : Type 0) : Type 0 where
  pub format : Format A
  pub lawful : IsFormat format

abbrev pub u8s : Layout ℕ
u8s = record { format = byte; lawful = byte_lawful }

abbrev pub u16s : Layout ℕ
u16s = record { format = number w16; lawful = number16_lawful }

abbrev pub u32s : Layout ℕ
u32s = record { format = number w32; lawful = number32_lawful }

-- 65,535 is none
abbrev pub optionals : Layout (Option ℕ)
optionals = record { format = optional 65535 (number w16); lawful = optional_lawful 65535 (number w16) number16_lawful (λ n. refl) }

-- 255 is none
abbrev pub optional_bytes : Layout (Option ℕ)
optional_bytes = record { format = optional 255 byte; lawful = optional_lawful 255 byte byte_lawful (λ n. refl) }

abbrev pub texts : Layout (List ℕ)
texts = record { format = text; lawful = text_lawful }

abbrev pub then : {A B : Type 0} → Layout A → Layout B → Layout (A × B)
then f g = record { format = pair f.format g.format; lawful = pair_lawful f.format g.format f.lawful g.lawful }

abbrev pub as_record : {A B : Type 0} (to : A → B) (from : B → A) → ((a : A) → from (to a) ≡ a) → ((b : B) → to (from b) ≡ b) → Layout A → Layout B
as_record to from back forth f = record { format = via to from f.format; lawful = via_lawful to from f.format back forth f.lawful }

abbrev pub times : {A : Type 0} → ℕ → Layout A → Layout (List A)
times n f = record { format = exactly n f.format; lawful = exactly_lawful n f.format f.lawful }

abbrev pub list_of : {A : Type 0} → Layout A → Layout (List A)
list_of f = record { format = counted byte f.format; lawful = counted_lawful byte f.format byte_lawful f.lawful }

abbrev pub table_of : {A : Type 0} → Layout A → Layout (List A)
table_of f = record { format = counted (number w16) f.format; lawful = counted_lawful (number w16) f.format number16_lawful f.lawful }

-- ---- a table that isn't there

-- it takes no bytes, and only an empty table fits
abbrev pub no_table : {A : Type 0} → Format (List A)
no_table = record { put = λ xs. []; get = λ bytes. Some ([], bytes); skip = λ bytes. Some bytes; fits = λ xs. length xs == 0 }

pub no_table_takes : {A : Type 0} (bytes : List ℕ) (xs : List A) (rest : List ℕ) → IsBytes bytes → (no_table {A = A}).get bytes ≡ Some (xs, rest)
    → Takes bytes [] rest × ((length xs == 0) ≡ true)
no_table_takes {A} bytes xs rest fits e =
    subst (λ (p : List A × List ℕ). Takes bytes [] p.1 × ((length p.0 == 0) ≡ true)) (same_Some ([], bytes) (xs, rest) e) (record { parts = refl; rest_fits = fits }, refl)

pub no_table_again : {A : Type 0} (xs : List A) (rest : List ℕ) → (length xs == 0) ≡ true → (no_table {A = A}).get rest ≡ Some (xs, rest)
no_table_again [] rest h = refl
no_table_again (x ∷ xs) rest h = let z : false ≡ true = sym (eqb-suc-zero (length xs)) ∙ h in absurd cc

abbrev pub absent : {A : Type 0} → Layout (List A)
absent = record { format = no_table; lawful = record { takes = no_table_takes; again = no_table_again; skips = λ bytes. refl } }
