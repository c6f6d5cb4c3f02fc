-- Values of several sorts, told apart by their first byte: what stands behind it is the sort's.
use Rattle.std.proofs.Common.{◌≡◌, ℕ, Bool, true, false, cond, not, ◌&&◌, eqb, List, [], ◌∷◌, ◌++◌, get_or, Option, Some, None, refl, sym, ap, subst, ◌∙◌, inl, inr, ◌⊎◌}
use Rattle.std.proofs.lemmas.Bool.{eqb-true, eq-eqb, and_from, and_parts, cases_Bool, not-true}
use Rattle.std.proofs.lemmas.Option.{same_Some}
use Rattle.story_format.specs.Formats.{Format, and_then, behind, IsBytes, Takes, IsFormat}
use Rattle.story_format.specs.FormatLaws.{IsBytes-rest, and_then_some, behind_value}
use Rattle.story_format.specs.Layouts.{Layout, u8s}

-- no bytes
abbrev pub nothing : Format (Unit {0})
nothing = record { put = λ u. []; get = λ bytes. Some (tt, bytes); skip = λ bytes. Some bytes; fits = λ u. true }

pub nothing_takes : (bytes : List ℕ) (x : Unit {0}) (rest : List ℕ) → IsBytes bytes → nothing.get bytes ≡ Some (x, rest) → Takes bytes [] rest × (true ≡ true)
nothing_takes bytes x rest fits e = subst (λ (y : Unit {0} × List ℕ). Takes bytes [] y.1 × (true ≡ true)) (same_Some (tt, bytes) (x, rest) e) (record { parts = refl; rest_fits = fits }, refl)

abbrev pub nothings : Layout (Unit {0})
nothings = record { format = nothing; lawful = record { takes = nothing_takes; again = λ x rest h. refl; skips = λ bytes. refl } }

-- ---- this byte and the first sort, or another byte and the others

abbrev pub into_first : {A B : Type 0} → A → List ℕ → Option ((A ⊎ B) × List ℕ)
into_first a rest = Some (inl a, rest)

abbrev pub into_others : {A B : Type 0} → B → List ℕ → Option ((A ⊎ B) × List ℕ)
into_others b rest = Some (inr b, rest)

abbrev pub put_choice : {A B : Type 0} → ℕ → Format A → Format B → A ⊎ B → List ℕ
put_choice tag f g (inl a) = tag ∷ f.put a
put_choice tag f g (inr b) = g.put b

abbrev pub get_choice : {A B : Type 0} → ℕ → Format A → Format B → List ℕ → Option ((A ⊎ B) × List ℕ)
get_choice tag f g [] = None
get_choice tag f g (b ∷ bytes) = cond (eqb b tag) (and_then (f.get bytes) into_first) (and_then (g.get (b ∷ bytes)) into_others)

abbrev pub skip_choice : {A B : Type 0} → ℕ → Format A → Format B → List ℕ → Option (List ℕ)
skip_choice tag f g [] = None
skip_choice tag f g (b ∷ bytes) = cond (eqb b tag) (f.skip bytes) (g.skip (b ∷ bytes))

abbrev pub is_other : ℕ → List ℕ → Bool
is_other tag [] = false
is_other tag (b ∷ bytes) = not (eqb b tag)

abbrev pub fits_choice : {A B : Type 0} → ℕ → Format A → Format B → A ⊎ B → Bool
fits_choice tag f g (inl a) = f.fits a
fits_choice tag f g (inr b) = is_other tag (g.put b) && g.fits b

abbrev pub choice : {A B : Type 0} → ℕ → Format A → Format B → Format (A ⊎ B)
choice tag f g = record { put = put_choice tag f g; get = get_choice tag f g; skip = skip_choice tag f g; fits = fits_choice tag f g }

-- each value takes a byte
abbrev pub Starts : {A : Type 0} → Format A → Type 0
Starts {A} f = (x : A) → (b : ℕ) × (rest : List ℕ) × (f.put x ≡ b ∷ rest)

pub choice_takes : {A B : Type 0} (tag : ℕ) (f : Format A) (g : Format B) → IsFormat f → IsFormat g → Starts g
    → (bytes : List ℕ) (x : A ⊎ B) (rest : List ℕ) → IsBytes bytes → get_choice tag f g bytes ≡ Some (x, rest)
    → Takes bytes (put_choice tag f g x) rest × (fits_choice tag f g x ≡ true)
choice_takes tag f g p q starts [] x rest fits e = absurd cc
choice_takes {A} {B} tag f g p q starts (b ∷ bytes) x rest fits e =
    elim (cases_Bool (eqb b tag)) [
      | inl is ↦
          let found : and_then (f.get bytes) (into_first {A = A} {B = B}) ≡ Some (x, rest) = rw is at e in
          let a = and_then_some (f.get bytes) (into_first {A = A} {B = B}) (x, rest) found in
          let first = p.takes bytes a.0.0 a.0.1 (IsBytes-rest b bytes fits) a.1 in
          subst (λ (y : (A ⊎ B) × List ℕ). Takes (b ∷ bytes) (put_choice tag f g y.0) y.1 × (fits_choice tag f g y.0 ≡ true)) (same_Some (inl a.0.0, a.0.1) (x, rest) a.2)
          (record { parts = ap (λ n. n ∷ bytes) (eqb-true b tag is) ∙ ap (λ (bs : List ℕ). tag ∷ bs) first.0.parts; rest_fits = first.0.rest_fits }, first.1)
      | inr isnt ↦
          let found : and_then (g.get (b ∷ bytes)) (into_others {A = A} {B = B}) ≡ Some (x, rest) = rw isnt at e in
          let a = and_then_some (g.get (b ∷ bytes)) (into_others {A = A} {B = B}) (x, rest) found in
          let first = q.takes (b ∷ bytes) a.0.0 a.0.1 fits a.1 in
          let s = starts a.0.0 in
          let same : b ∷ bytes ≡ s.0 ∷ (s.1 ++ a.0.1) = first.0.parts ∙ ap (λ (bs : List ℕ). bs ++ a.0.1) s.2 in
          let front : b ≡ s.0 = ap (λ (bs : List ℕ). get_or bs 0 0) same in
          let other : is_other tag (g.put a.0.0) ≡ true = ap (is_other tag) s.2 ∙ ap (λ n. not (eqb n tag)) (sym front) ∙ ap not isnt in
          subst (λ (y : (A ⊎ B) × List ℕ). Takes (b ∷ bytes) (put_choice tag f g y.0) y.1 × (fits_choice tag f g y.0 ≡ true)) (same_Some (inr a.0.0, a.0.1) (x, rest) a.2)
          (first.0, and_from (is_other tag (g.put a.0.0)) (g.fits a.0.0) other first.1)
    ]

get_other : {A B : Type 0} (tag : ℕ) (f : Format A) (g : Format B) (b : ℕ) (bytes : List ℕ) → eqb b tag ≡ false → get_choice tag f g (b ∷ bytes) ≡ and_then (g.get (b ∷ bytes)) into_others
get_other tag f g b bytes isnt = rw isnt refl

pub choice_again : {A B : Type 0} (tag : ℕ) (f : Format A) (g : Format B) → IsFormat f → IsFormat g → Starts g
    → (x : A ⊎ B) (rest : List ℕ) → fits_choice tag f g x ≡ true → get_choice tag f g (put_choice tag f g x ++ rest) ≡ Some (x, rest)
choice_again tag f g p q starts (inl a) rest h = rw (eq-eqb tag tag refl, p.again a rest h) refl
choice_again {A} {B} tag f g p q starts (inr y) rest h =
    let t = and_parts (is_other tag (g.put y)) (g.fits y) h in
    let s = starts y in
    let isnt : eqb s.0 tag ≡ false = not-true (eqb s.0 tag) (sym (ap (is_other tag) s.2) ∙ t.0) in
    let split : g.put y ++ rest ≡ s.0 ∷ (s.1 ++ rest) = ap (λ (bs : List ℕ). bs ++ rest) s.2 in
    ap (get_choice tag f g) split ∙ get_other tag f g s.0 (s.1 ++ rest) isnt
    ∙ ap (λ (bs : List ℕ). and_then (g.get bs) (into_others {A = A} {B = B})) (sym split)
    ∙ ap (λ (o : Option (B × List ℕ)). and_then o (into_others {A = A} {B = B})) (q.again y rest t.1)

pub choice_skips : {A B : Type 0} (tag : ℕ) (f : Format A) (g : Format B) → IsFormat f → IsFormat g → (bytes : List ℕ) → skip_choice tag f g bytes ≡ behind (get_choice tag f g bytes)
choice_skips tag f g p q [] = refl
choice_skips {A} {B} tag f g p q (b ∷ bytes) =
    elim (cases_Bool (eqb b tag)) [
      | inl is ↦ rw is (p.skips bytes ∙ behind_value {A = A} {B = A ⊎ B} (λ a. inl a) (f.get bytes))
      | inr isnt ↦ rw isnt (q.skips (b ∷ bytes) ∙ behind_value {A = B} {B = A ⊎ B} (λ y. inr y) (g.get (b ∷ bytes)))
    ]

-- ---- sorts with their tags

pub record Sorts (A : Type 0) : Type 0 where
  pub layout : Layout A
  pub starts : Starts layout.format

-- a tag that tells none of the sorts: nothing stands behind it
abbrev pub no_sort : Sorts ℕ
no_sort = record { layout = u8s; starts = λ n. (n, [], refl) }

pub sort_starts : {A B : Type 0} (tag : ℕ) (f : Format A) (g : Format B) → Starts g → Starts (choice tag f g)
sort_starts tag f g starts (inl a) = (tag, f.put a, refl)
sort_starts tag f g starts (inr y) = starts y

-- this tag and its sort, or one of the others
abbrev pub sort : {A B : Type 0} → ℕ → Layout A → Sorts B → Sorts (A ⊎ B)
sort tag f g = record {
  layout = record {
    format = choice tag f.format g.layout.format;
    lawful = record {
      takes = choice_takes tag f.format g.layout.format f.lawful g.layout.lawful g.starts;
      again = choice_again tag f.format g.layout.format f.lawful g.layout.lawful g.starts;
      skips = choice_skips tag f.format g.layout.format f.lawful g.layout.lawful;
    };
  };
  starts = sort_starts tag f.format g.layout.format g.starts;
}
