-- Each format gets what was put.
use Rattle.std.proofs.Common.{◌≡◌, ℕ, zero, suc, ◌+◌, ◌^◌, ◌<◌, ◌≤◌, Bool, true, false, cond, ◌&&◌, ltb, eqb, List, [], ◌∷◌, ◌++◌, length, take, drop, Option, Some, None, refl, sym, ap, subst, ◌∙◌, append_assoc, arith, inl, inr, ◌≢◌}
use Rattle.std.specs.List.{flat_map, list_all}
use Rattle.std.specs.Int.{Width, w16, w32, byte_len, from_be_bytes, to_be_bytes}
use Rattle.std.proofs.lemmas.Bool.{cases_lt, ltb-false, ltb-true, lt-ltb, le-ltb, eqb-true, eqb-false, ne_eqb, eq-eqb, and_from, and_parts, cases_Bool}
use Rattle.std.proofs.lemmas.List.{take_at, drop_at, take-append-drop, length-append, length-take, get_or-drop, get_or-take, get_or_past}
use Rattle.std.proofs.lemmas.Nat.{be_bytes_2, be_bytes_4, from_be_bytes-to_be_bytes_2, from_be_bytes-to_be_bytes_4}
use Rattle.std.proofs.lemmas.Option.{same_Some}
use Rattle.story_format.specs.Formats.{Format, and_then, skip_then, behind, byte_at, behind_byte, byte, number, pair, via, optional_of, optional_number, fits_optional, optional, get_many, skip_many, exactly, counted, text, IsBytes, Takes, IsFormat}

pub IsBytes-drop : (n : ℕ) (bytes : List ℕ) → IsBytes bytes → IsBytes (drop n bytes)
IsBytes-drop n bytes h i = rw get_or-drop (h (n + i))

IsBytes-take : (n : ℕ) (bytes : List ℕ) → IsBytes bytes → IsBytes (take n bytes)
IsBytes-take n bytes h i =
    elim (cases_lt i n) [
      | inl lt ↦ rw (get_or-take n bytes i 0 lt) (h i)
      | inr le ↦ rw (get_or_past (take n bytes) i 0 (omega (arith, length-take n bytes))) (omega arith)
    ]

Takes-then : (a x b y c : List ℕ) → Takes a x b → Takes b y c → Takes a (x ++ y) c
Takes-then a x b y c p q = record { parts = p.parts ∙ ap (λ (t : List ℕ). x ++ t) q.parts ∙ sym (append_assoc x y c); rest_fits = q.rest_fits }

-- the value of a step that found one
pub and_then_some : {A B : Type 0} (o : Option (A × List ℕ)) (next : A → List ℕ → Option B) (y : B) → and_then o next ≡ Some y → (x : A × List ℕ) × (o ≡ Some x) × (next x.0 x.1 ≡ Some y)
and_then_some None next y e = absurd cc
and_then_some (Some x) next y e = (x, refl, e)

-- a test that let the value through
guarded : {A : Type 0} (b : Bool) (x y : A) → cond b None (Some x) ≡ Some y → (b ≡ false) × (x ≡ y)
guarded true x y e = absurd cc
guarded false x y e = (refl, cc)

-- what is skipped where a test lets it through
guarded_behind : {A : Type 0} (b : Bool) (x : A) (rest : List ℕ) → cond b None (Some rest) ≡ behind (cond b None (Some (x, rest)))
guarded_behind true x rest = refl
guarded_behind false x rest = refl

-- what is behind a value that is seen otherwise
pub behind_value : {A B : Type 0} (to : A → B) (found : Option (A × List ℕ)) → behind found ≡ behind (and_then found (λ a rest. Some (to a, rest)))
behind_value to None = refl
behind_value to (Some x) = refl

-- ---- numbers

pub record IsWide (w : Width) : Type 0 where
  pub len : (n : ℕ) → length (to_be_bytes w n) ≡ byte_len w
  pub back : (bytes : List ℕ) → length bytes ≡ byte_len w → IsBytes bytes → to_be_bytes w (from_be_bytes w bytes) ≡ bytes
  pub again : (n : ℕ) → n < 256 ^ byte_len w → from_be_bytes w (to_be_bytes w n) ≡ n
  pub below : (bytes : List ℕ) → IsBytes bytes → from_be_bytes w bytes < 256 ^ byte_len w

wide16 : IsWide w16
wide16 = record {
  len = λ n. refl;
  back = λ bytes len fits. be_bytes_2 bytes _ len fits refl;
  again = λ n lt. from_be_bytes-to_be_bytes_2 n lt;
  below = λ bytes fits. omega (arith, fits 0, fits 1);
}

wide32 : IsWide w32
wide32 = record {
  len = λ n. refl;
  back = λ bytes len fits. be_bytes_4 bytes _ len fits refl;
  again = λ n lt. from_be_bytes-to_be_bytes_4 n lt;
  below = λ bytes fits. omega (arith, fits 0, fits 1, fits 2, fits 3);
}

number_takes : (w : Width) → IsWide w → (bytes : List ℕ) (n : ℕ) (rest : List ℕ) → IsBytes bytes → (number w).get bytes ≡ Some (n, rest) → Takes bytes (to_be_bytes w n) rest × (n < 256 ^ byte_len w)
number_takes w wide bytes n rest fits e =
    let g = guarded (ltb (length bytes) (byte_len w)) (from_be_bytes w (take (byte_len w) bytes), drop (byte_len w) bytes) (n, rest) e in
    let long : byte_len w ≤ length bytes = ltb-false _ _ g.0 in
    let n-is : from_be_bytes w (take (byte_len w) bytes) ≡ n = ap (λ (p : ℕ × List ℕ). p.0) g.1 in
    let rest-is : drop (byte_len w) bytes ≡ rest = ap (λ (p : ℕ × List ℕ). p.1) g.1 in
    let front : to_be_bytes w n ≡ take (byte_len w) bytes =
    rw (← n-is) (wide.back (take (byte_len w) bytes) (omega (arith, length-take (byte_len w) bytes)) (IsBytes-take (byte_len w) bytes fits)) in (
      record { parts = rw (front, ← rest-is) (sym (take-append-drop (byte_len w) bytes)); rest_fits = rw (← rest-is) (IsBytes-drop (byte_len w) bytes fits) },
      rw (← n-is) (wide.below (take (byte_len w) bytes) (IsBytes-take (byte_len w) bytes fits)),
    )

number_again : (w : Width) → IsWide w → (n : ℕ) (rest : List ℕ) → n < 256 ^ byte_len w → (number w).get (to_be_bytes w n ++ rest) ≡ Some (n, rest)
number_again w wide n rest lt =
    let len = wide.len n in
    let long : ltb (length (to_be_bytes w n ++ rest)) (byte_len w) ≡ false = le-ltb _ _ (omega (arith, length-append (to_be_bytes w n) rest)) in
    rw (long, take_at (to_be_bytes w n) rest (byte_len w) len, drop_at (to_be_bytes w n) rest (byte_len w) len, wide.again n lt) refl

number_lawful : (w : Width) → IsWide w → IsFormat (number w)
number_lawful w wide = record {
  takes = λ bytes n rest fits e. let t = number_takes w wide bytes n rest fits e in (t.0, lt-ltb n (256 ^ byte_len w) t.1);
  again = λ n rest h. number_again w wide n rest (ltb-true n (256 ^ byte_len w) h);
  skips = λ bytes. guarded_behind (ltb (length bytes) (byte_len w)) (from_be_bytes w (take (byte_len w) bytes)) (drop (byte_len w) bytes);
}

pub number16_lawful : IsFormat (number w16)
number16_lawful = number_lawful w16 wide16

pub number32_lawful : IsFormat (number w32)
number32_lawful = number_lawful w32 wide32

pub IsBytes-rest : (b : ℕ) (bytes : List ℕ) → IsBytes (b ∷ bytes) → IsBytes bytes
IsBytes-rest b bytes h i = h (suc i)

byte_takes : (bytes : List ℕ) (n : ℕ) (rest : List ℕ) → IsBytes bytes → byte_at bytes ≡ Some (n, rest) → Takes bytes (n ∷ []) rest × (ltb n 256 ≡ true)
byte_takes [] n rest fits e = absurd cc
byte_takes (b ∷ bytes) n rest fits e =
    let p = same_Some (b, bytes) (n, rest) e in
    subst (λ (q : ℕ × List ℕ). Takes (b ∷ bytes) (q.0 ∷ []) q.1 × (ltb q.0 256 ≡ true)) p (record { parts = refl; rest_fits = IsBytes-rest b bytes fits }, lt-ltb b 256 (fits 0))

byte_skips : (bytes : List ℕ) → behind_byte bytes ≡ behind (byte_at bytes)
byte_skips [] = refl
byte_skips (b ∷ bytes) = refl

pub byte_lawful : IsFormat byte
byte_lawful = record { takes = byte_takes; again = λ n rest h. refl; skips = byte_skips }

-- ---- one behind the other

pair_skips : {A B : Type 0} (g : Format B) → IsFormat g → (found : Option (A × List ℕ))
    → skip_then (behind found) g.skip ≡ behind {A = A × B} (and_then found (λ a after. and_then (g.get after) (λ b rest. Some ((a, b), rest))))
pair_skips {A} {B} g q None = refl
pair_skips {A} {B} g q (Some x) = q.skips x.1 ∙ behind_value {A = B} {B = A × B} (λ b. (x.0, b)) (g.get x.1)

pub pair_lawful : {A B : Type 0} (f : Format A) (g : Format B) → IsFormat f → IsFormat g → IsFormat (pair f g)
pair_lawful {A} {B} f g p q = record {
  takes = λ bytes x rest fits e.
      let a = and_then_some (f.get bytes) (λ a after. and_then (g.get after) (λ b rest. Some ((a, b), rest))) (x, rest) e in
      let b = and_then_some (g.get a.0.1) (λ b rest. Some ((a.0.0, b), rest)) (x, rest) a.2 in
      let first = p.takes bytes a.0.0 a.0.1 fits a.1 in
      let second = q.takes a.0.1 b.0.0 b.0.1 first.0.rest_fits b.1 in
      subst (λ (y : (A × B) × List ℕ). Takes bytes (f.put y.0.0 ++ g.put y.0.1) y.1 × ((f.fits y.0.0 && g.fits y.0.1) ≡ true)) (same_Some ((a.0.0, b.0.0), b.0.1) (x, rest) b.2)
      (Takes-then bytes (f.put a.0.0) a.0.1 (g.put b.0.0) b.0.1 first.0 second.0, and_from (f.fits a.0.0) (g.fits b.0.0) first.1 second.1);
  again = λ x rest h.
      let fits = and_parts (f.fits x.0) (g.fits x.1) h in
      rw (append_assoc (f.put x.0) (g.put x.1) rest, p.again x.0 (g.put x.1 ++ rest) fits.0, q.again x.1 rest fits.1) refl;
  skips = λ bytes. ap (λ (o : Option (List ℕ)). skip_then o g.skip) (p.skips bytes) ∙ pair_skips g q (f.get bytes);
}

pub via_lawful : {A B : Type 0} (to : A → B) (from : B → A) (f : Format A) → ((a : A) → from (to a) ≡ a) → ((b : B) → to (from b) ≡ b) → IsFormat f → IsFormat (via to from f)
via_lawful {A} {B} to from f back forth p = record {
  takes = λ bytes x rest fits e.
      let a = and_then_some (f.get bytes) (λ a rest. Some (to a, rest)) (x, rest) e in
      let first = p.takes bytes a.0.0 a.0.1 fits a.1 in
      subst (λ (y : B × List ℕ). Takes bytes (f.put (from y.0)) y.1 × (f.fits (from y.0) ≡ true)) (same_Some (to a.0.0, a.0.1) (x, rest) a.2)
      (rw (back a.0.0) first.0, ap f.fits (back a.0.0) ∙ first.1);
  again = λ x rest h. rw (p.again (from x) rest h, forth x) refl;
  skips = λ bytes. p.skips bytes ∙ behind_value to (f.get bytes);
}

-- ---- none is 65,535

optional_back : (none n : ℕ) → n < none + 1 → (optional_number none (optional_of none n) ≡ n) × (fits_optional none (optional_of none n) ≡ true)
optional_back none n lt =
    elim (cases_Bool (eqb n none)) [
      | inl e ↦ rw e (sym (eqb-true n none e), refl)
      | inr e ↦ let ne : n ≢ none = eqb-false n none e in rw e (refl, lt-ltb n none (omega arith))
    ]

optional_forth : (none : ℕ) (o : Option ℕ) → fits_optional none o ≡ true → optional_of none (optional_number none o) ≡ o
optional_forth none None h = rw (eq-eqb none none refl) refl
optional_forth none (Some n) h = let lt : n < none = ltb-true n none h in let ne : eqb n none ≡ false = ne_eqb n none (λ e. omega (arith, e, lt)) in rw ne refl

optional_below : (none : ℕ) (o : Option ℕ) → fits_optional none o ≡ true → optional_number none o < none + 1
optional_below none None h = omega arith
optional_below none (Some n) h = let lt : n < none = ltb-true n none h in omega arith

pub optional_lawful : (none : ℕ) (f : Format ℕ) → IsFormat f → ((n : ℕ) → f.fits n ≡ ltb n (none + 1)) → IsFormat (optional none f)
optional_lawful none f p highest = record {
  takes = λ bytes x rest fits e.
      let a = and_then_some (f.get bytes) (λ n rest. Some (optional_of none n, rest)) (x, rest) e in
      let first = p.takes bytes a.0.0 a.0.1 fits a.1 in
      let back = optional_back none a.0.0 (ltb-true a.0.0 (none + 1) (sym (highest a.0.0) ∙ first.1)) in
      subst (λ (y : Option ℕ × List ℕ). Takes bytes (f.put (optional_number none y.0)) y.1 × (fits_optional none y.0 ≡ true)) (same_Some (optional_of none a.0.0, a.0.1) (x, rest) a.2)
      (subst (λ (k : ℕ). Takes bytes (f.put k) a.0.1) (sym back.0) first.0, back.1);
  again = λ x rest h.
      ap (λ (o : Option (ℕ × List ℕ)). and_then o (λ n rest. Some (optional_of none n, rest)))
      (p.again (optional_number none x) rest (highest (optional_number none x) ∙ lt-ltb (optional_number none x) (none + 1) (optional_below none x h)))
      ∙ ap (λ (o : Option ℕ). Some (o, rest)) (optional_forth none x h);
  skips = λ bytes. p.skips bytes ∙ behind_value (optional_of none) (f.get bytes);
}

-- ---- many

many_take : {A : Type 0} (f : Format A) → IsFormat f → (n : ℕ) (bytes : List ℕ) (xs : List A) (rest : List ℕ) → IsBytes bytes → get_many f.get n bytes ≡ Some (xs, rest)
    → Takes bytes (flat_map f.put xs) rest × (length xs ≡ n) × (list_all f.fits xs ≡ true)
unfolding get_many
many_take {A} f p zero bytes xs rest fits e =
    subst (λ (y : List A × List ℕ). Takes bytes (flat_map f.put y.0) y.1 × (length y.0 ≡ 0) × (list_all f.fits y.0 ≡ true)) (same_Some ([], bytes) (xs, rest) e)
    (record { parts = refl; rest_fits = fits }, refl, refl)
many_take {A} f p (suc n) bytes xs rest fits e =
    let a = and_then_some (f.get bytes) (λ x after. and_then (get_many f.get n after) (λ xs rest. Some (x ∷ xs, rest))) (xs, rest) e in
    let b = and_then_some (get_many f.get n a.0.1) (λ xs rest. Some (a.0.0 ∷ xs, rest)) (xs, rest) a.2 in
    let first = p.takes bytes a.0.0 a.0.1 fits a.1 in
    let second = many_take f p n a.0.1 b.0.0 b.0.1 first.0.rest_fits b.1 in
    subst (λ (y : List A × List ℕ). Takes bytes (flat_map f.put y.0) y.1 × (length y.0 ≡ suc n) × (list_all f.fits y.0 ≡ true)) (same_Some (a.0.0 ∷ b.0.0, b.0.1) (xs, rest) b.2)
    (Takes-then bytes (f.put a.0.0) a.0.1 (flat_map f.put b.0.0) b.0.1 first.0 second.0, ap suc second.1, and_from (f.fits a.0.0) (list_all f.fits b.0.0) first.1 second.2)

many_again : {A : Type 0} (f : Format A) → IsFormat f → (xs : List A) (rest : List ℕ) → list_all f.fits xs ≡ true → get_many f.get (length xs) (flat_map f.put xs ++ rest) ≡ Some (xs, rest)
unfolding get_many
many_again f p [] rest h = refl
many_again f p (x ∷ xs) rest h =
    let fits = and_parts (f.fits x) (list_all f.fits xs) h in
    rw (append_assoc (f.put x) (flat_map f.put xs) rest, p.again x (flat_map f.put xs ++ rest) fits.0, many_again f p xs rest fits.1) refl

many_skip_on : {A : Type 0} (f : Format A) (n : ℕ) → ((bytes : List ℕ) → skip_many f.skip n bytes ≡ behind (get_many f.get n bytes)) → (found : Option (A × List ℕ))
    → skip_then (behind found) (skip_many f.skip n) ≡ behind (and_then found (λ x after. and_then (get_many f.get n after) (λ xs rest. Some (x ∷ xs, rest))))
many_skip_on f n known None = refl
many_skip_on f n known (Some x) = known x.1 ∙ behind_value (λ xs. x.0 ∷ xs) (get_many f.get n x.1)

many_skips : {A : Type 0} (f : Format A) → IsFormat f → (n : ℕ) (bytes : List ℕ) → skip_many f.skip n bytes ≡ behind (get_many f.get n bytes)
unfolding get_many skip_many
many_skips f p zero bytes = refl
many_skips f p (suc n) bytes = ap (λ (o : Option (List ℕ)). skip_then o (skip_many f.skip n)) (p.skips bytes) ∙ many_skip_on f n (many_skips f p n) (f.get bytes)

counted_skips : {A : Type 0} (f : Format A) → IsFormat f → (found : Option (ℕ × List ℕ)) → and_then found (skip_many f.skip) ≡ behind (and_then found (get_many f.get))
counted_skips f p None = refl
counted_skips f p (Some x) = many_skips f p x.0 x.1

pub exactly_lawful : {A : Type 0} (n : ℕ) (f : Format A) → IsFormat f → IsFormat (exactly n f)
exactly_lawful n f p = record {
  takes = λ bytes xs rest fits e. let t = many_take f p n bytes xs rest fits e in (t.0, and_from (eqb (length xs) n) (list_all f.fits xs) (eq-eqb (length xs) n t.1) t.2);
  again = λ xs rest h.
      let fits = and_parts (eqb (length xs) n) (list_all f.fits xs) h in
      rw (← eqb-true (length xs) n fits.0) (many_again f p xs rest fits.1);
  skips = many_skips f p n;
}

pub counted_lawful : {A : Type 0} (count : Format ℕ) (f : Format A) → IsFormat count → IsFormat f → IsFormat (counted count f)
counted_lawful {A} count f c p = record {
  takes = λ bytes xs rest fits e.
      let a = and_then_some (count.get bytes) (get_many f.get) (xs, rest) e in
      let first = c.takes bytes a.0.0 a.0.1 fits a.1 in
      let second = many_take f p a.0.0 a.0.1 xs rest first.0.rest_fits a.2 in
      let whole = Takes-then bytes (count.put a.0.0) a.0.1 (flat_map f.put xs) rest first.0 second.0 in
      (subst (λ (k : ℕ). Takes bytes (count.put k ++ flat_map f.put xs) rest) (sym second.1) whole, and_from (count.fits (length xs)) (list_all f.fits xs) (ap count.fits second.1 ∙ first.1) second.2);
  again = λ xs rest h.
      let fits = and_parts (count.fits (length xs)) (list_all f.fits xs) h in
      rw (append_assoc (count.put (length xs)) (flat_map f.put xs) rest, c.again (length xs) (flat_map f.put xs ++ rest) fits.0) (many_again f p xs rest fits.1);
  skips = λ bytes. counted_skips f p (count.get bytes);
}

-- ---- texts

text_skips : (found : Option (ℕ × List ℕ))
    → and_then found (λ n after. cond (ltb (length after) n) None (Some (drop n after))) ≡ behind (and_then found (λ n after. cond (ltb (length after) n) None (Some (take n after, drop n after))))
text_skips None = refl
text_skips (Some x) = guarded_behind (ltb (length x.1) x.0) (take x.0 x.1) (drop x.0 x.1)

pub text_lawful : IsFormat text
text_lawful = record {
  takes = λ bytes x rest fits e.
      let next : ℕ → List ℕ → Option (List ℕ × List ℕ) = λ n after. cond (ltb (length after) n) None (Some (take n after, drop n after)) in
      let a = and_then_some ((number w16).get bytes) next (x, rest) e in
      let n = a.0.0 in
      let after = a.0.1 in
      let first = number_takes w16 wide16 bytes n after fits a.1 in
      let g = guarded (ltb (length after) n) (take n after, drop n after) (x, rest) a.2 in
      let long : n ≤ length after = ltb-false _ _ g.0 in
      let len : length (take n after) ≡ n = omega (arith, length-take n after) in
      let second : Takes after (take n after) (drop n after) = record { parts = sym (take-append-drop n after); rest_fits = IsBytes-drop n after first.0.rest_fits } in
      let all = Takes-then bytes (to_be_bytes w16 n) after (take n after) (drop n after) first.0 second in
      let whole : Takes bytes (to_be_bytes w16 (length (take n after)) ++ take n after) (drop n after) =
      subst (λ (k : ℕ). Takes bytes (to_be_bytes w16 k ++ take n after) (drop n after)) (sym len) all in
      subst (λ (p : List ℕ × List ℕ). Takes bytes (to_be_bytes w16 (length p.0) ++ p.0) p.1 × (ltb (length p.0) 65536 ≡ true)) g.1
      (whole, lt-ltb (length (take n after)) 65536 (omega (arith, len, first.1)));
  again = λ x rest h.
      let long : ltb (length (x ++ rest)) (length x) ≡ false = le-ltb _ _ (omega (arith, length-append x rest)) in
      ap (λ (o : Option (ℕ × List ℕ)). and_then o (λ n after. cond (ltb (length after) n) None (Some (take n after, drop n after))))
      (ap (number w16).get (append_assoc (to_be_bytes w16 (length x)) x rest) ∙ number_again w16 wide16 (length x) (x ++ rest) (ltb-true _ _ h))
      ∙ rw (long, take_at x rest (length x) refl, drop_at x rest (length x) refl) refl;
  skips = λ bytes. text_skips ((number w16).get bytes);
}
