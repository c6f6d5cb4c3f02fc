-- The bytes of a control character.
use Rattle.std.proofs.Common.{◌≡◌, ◌≢◌, ℕ, ◌+◌, ◌/◌, ◌%◌, ◌<◌, ◌≤◌, Bool, true, false, not, ◌&&◌, ◌||◌, eqb, ltb, leb, List, [], ◌∷◌, ◌++◌, refl, sym, ap, ◌∙◌, arith, ◌⊎◌, inl, inr}
use Rattle.std.proofs.lemmas.Bool.{eqb-true, eq-eqb, false_from_ne_true, ltb-true, lt-ltb, leb-true, le-leb, cases_lt}
use Rattle.std.proofs.lemmas.Str.{encode_ascii}
use Rattle.std.specs.Char.{encode_utf8}
use Rattle.i7_lexer.specs.Sources.{is_control, is_late_control, starts_with_control, IsForbidden, BeginsWithControl}

false-eqb' : (a b : ℕ) → a ≢ b → eqb a b ≡ false
false-eqb' a b other = false_from_ne_true (eqb a b) (λ e. other (eqb-true a b e))

encode_late : (c : ℕ) → 128 ≤ c → c < 160 → encode_utf8 c ≡ 194 ∷ c ∷ []
unfolding encode_utf8
encode_late c low high =
    let no_ascii : ltb c 128 ≡ false = false_from_ne_true (ltb c 128) (λ e. let h : c < 128 = ltb-true c 128 e in omega arith) in
    let short : ltb c 2048 ≡ true = lt-ltb c 2048 (omega arith) in
    let first : 192 + c / 64 ≡ 194 = omega arith in
    let second : 128 + c % 64 ≡ c = omega arith in
    rw (no_ascii, short, first, second) refl

control_by : (a : ℕ) (v w x y : Bool) → ltb a 32 ≡ v → eqb a 9 ≡ w → eqb a 10 ≡ x → eqb a 127 ≡ y → (v && not w && not x) || y ≡ true → IsForbidden a × (a < 128)
control_by a v w x true p q r s h = let last : a ≡ 127 = eqb-true a 127 s in (((inr (omega arith, omega arith)), (λ e. omega arith), (λ e. omega arith)), omega arith)
control_by a true false false false p q r s h = let low : a < 32 = ltb-true a 32 p in (((inl low), (λ e. let yes' = eq-eqb a 9 e in cc), (λ e. let yes' = eq-eqb a 10 e in cc)), omega arith)
control_by a true true x false p q r s h = cc
control_by a true false true false p q r s h = cc
control_by a false w x false p q r s h = cc

control_is : (a : ℕ) → is_control a ≡ true → IsForbidden a × (a < 128)
unfolding is_control
control_is a h = control_by a (ltb a 32) (eqb a 9) (eqb a 10) (eqb a 127) refl refl refl refl h

late_by : (a b : ℕ) (v w x : Bool) → eqb a 194 ≡ v → leb 128 b ≡ w → ltb b 160 ≡ x → v && w && x ≡ true → (a ≡ 194) × (128 ≤ b) × (b < 160)
late_by a b true true true p q r h = (eqb-true a 194 p, leb-true 128 b q, ltb-true b 160 r)
late_by a b true true false p q r h = cc
late_by a b true false x p q r h = cc
late_by a b false w x p q r h = cc

late_is : (a b : ℕ) → is_late_control a b ≡ true → (a ≡ 194) × (128 ≤ b) × (b < 160)
unfolding is_late_control
late_is a b h = late_by a b (eqb a 194) (leb 128 b) (ltb b 160) refl refl refl h

ascii_begins : (a : ℕ) (rest : List ℕ) → is_control a ≡ true → BeginsWithControl (a ∷ rest)
ascii_begins a rest h =
    let is = control_is a h in
    record { control = a; forbidden = is.0; rest = rest; spells = ap (λ t. t ++ rest) (sym (encode_ascii a is.1)) }

late_begins : (a b : ℕ) (rest : List ℕ) → is_late_control a b ≡ true → BeginsWithControl (a ∷ b ∷ rest)
late_begins a b rest h =
    let is = late_is a b h in
    record {
      control = b;
      forbidden = (inr (omega (arith, is.1), is.2), (λ e. omega (arith, is.1)), (λ e. omega (arith, is.1)));
      rest = rest;
      spells = ap (λ c. c ∷ b ∷ rest) is.0 ∙ ap (λ t. t ++ rest) (sym (encode_late b is.1 is.2));
    }

begins_by : (a b : ℕ) (rest : List ℕ) (v : Bool) → is_control a ≡ v → v || is_late_control a b ≡ true → BeginsWithControl (a ∷ b ∷ rest)
begins_by a b rest true e h = ascii_begins a (b ∷ rest) e
begins_by a b rest false e h = late_begins a b rest h

pub begins_from : (bytes : List ℕ) → starts_with_control bytes ≡ true → BeginsWithControl bytes
begins_from [] h = cc
begins_from (a ∷ []) h = ascii_begins a [] h
begins_from (a ∷ b ∷ rest) h = begins_by a b rest (is_control a) refl h

control_from : (a : ℕ) → IsForbidden a → a < 128 → is_control a ≡ true
unfolding is_control
control_from a (inl low, no_tab, no_feed) ascii = rw (lt-ltb a 32 low, false-eqb' a 9 no_tab, false-eqb' a 10 no_feed) refl
control_from a (inr (low, high), no_tab, no_feed) ascii =
    let last : a ≡ 127 = omega arith in
    rw last refl

late_from : (b : ℕ) → 128 ≤ b → b < 160 → is_late_control 194 b ≡ true
unfolding is_late_control
late_from b low high = rw (le-leb 128 b low, lt-ltb b 160 high) refl

or_true : (v : Bool) → v || true ≡ true
or_true true = refl
or_true false = refl

starts_ascii : (a : ℕ) (rest : List ℕ) → is_control a ≡ true → starts_with_control (a ∷ rest) ≡ true
starts_ascii a [] h = h
starts_ascii a (b ∷ rest) h = rw h refl

forbidden_late : (c : ℕ) → IsForbidden c → 128 ≤ c → c < 160
forbidden_late c (inl low, no_tab, no_feed) past = omega arith
forbidden_late c (inr (low, high), no_tab, no_feed) past = high

starts_by : (c : ℕ) (bytes rest : List ℕ) → IsForbidden c → bytes ≡ encode_utf8 c ++ rest → (c < 128) ⊎ (128 ≤ c) → starts_with_control bytes ≡ true
starts_by c bytes rest forbidden spells (inl ascii) =
    let whole : bytes ≡ c ∷ rest = spells ∙ ap (λ t. t ++ rest) (encode_ascii c ascii) in
    rw whole (starts_ascii c rest (control_from c forbidden ascii))
starts_by c bytes rest forbidden spells (inr past) =
    let high = forbidden_late c forbidden past in
    let whole : bytes ≡ 194 ∷ c ∷ rest = spells ∙ ap (λ t. t ++ rest) (encode_late c past high) in
    rw (whole, late_from c past high) (or_true (is_control 194))

pub starts_from : (bytes : List ℕ) → BeginsWithControl bytes → starts_with_control bytes ≡ true
starts_from bytes begins = starts_by begins.control bytes begins.rest begins.forbidden begins.spells (cases_lt begins.control 128)
