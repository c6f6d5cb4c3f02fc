-- What is found of readings, from what is found of their parts.
use Rattle.std.proofs.Common.{◌≡◌, Bool, ◌||◌, refl, sym, ap, ◌∙◌, subst, inl, inr}
use Rattle.std.specs.Prelude.{Option, None, Some}
use Rattle.std.proofs.lemmas.Bool.{or_right}
use Rattle.i7_conditions.specs.Readings.{FirstOf, IsFoundAs, one, or_else, two}
use Rattle.i7_conditions.specs.declared.found.Found.{Found}
use Rattle.i7_conditions.specs.declared.found.Found.TheVariants.{Read, TooMany, Unread}

pub or_found : {A : Type 0} (First Second : A → Type 0) (over : A → Bool) (a b : Found A) → IsFoundAs First over a → IsFoundAs Second over b → IsFoundAs (FirstOf First Second) over (or_else a b)
or_found First Second over (Read x) b h k = (inl h.0, h.1)
or_found First Second over TooMany b h k = (h.0, inl h.1, h.2)
or_found First Second over Unread (Read y) h k = (inr (h, k.0), k.1)
or_found First Second over Unread TooMany h k = (k.0, inr (h, k.1), k.2)
or_found First Second over Unread Unread h k = λ x either. elim either [
  | inl first ↦ h x first
  | inr second ↦ k x second.1
]

-- one part, and what is made of it
abbrev pub Made : {A C : Type 0} → (A → C) → (A → Type 0) → C → Type 0
Made {A} make Means c = (x : A) × Means x × (c ≡ make x)

pub one_found : {A C : Type 0} (make : A → C) (Means : A → Type 0) (over : A → Bool) (is_over : C → Bool) → ((x : A) → is_over (make x) ≡ over x) → (a : Found A) → IsFoundAs Means over a
    → IsFoundAs (Made make Means) is_over (one make a)
one_found make Means over is_over same (Read x) h = ((x, h.0, refl), same x ∙ h.1)
one_found make Means over is_over same TooMany h = (make h.0, (h.0, h.1, refl), same h.0 ∙ h.2)
one_found make Means over is_over same Unread h = λ c made. h made.0 made.1

-- two parts, and what is made of them
abbrev pub MadeOfTwo : {A B C : Type 0} → (A → B → C) → (A → Type 0) → (B → Type 0) → C → Type 0
MadeOfTwo {A} {B} make First Second c = (x : A) × (y : B) × First x × Second y × (c ≡ make x y)

pub two_found : {A B C : Type 0} (make : A → B → C) (First : A → Type 0) (Second : B → Type 0) (over_first : A → Bool) (over_second : B → Bool) (is_over : C → Bool)
    → ((x : A) (y : B) → is_over (make x y) ≡ (over_first x || over_second y)) → (a : Found A) (b : Found B) → IsFoundAs First over_first a → IsFoundAs Second over_second b
    → IsFoundAs (MadeOfTwo make First Second) is_over (two make a b)
two_found make First Second fst snd is_over same (Read x) (Read y) h k = ((x, y, h.0, k.0, refl), same x y ∙ rw (h.1, k.1) refl)
two_found make First Second fst snd is_over same (Read x) TooMany h k = (make x k.0, (x, k.0, h.0, k.1, refl), same x k.0 ∙ or_right (fst x) (snd k.0) k.2)
two_found make First Second fst snd is_over same (Read x) Unread h k = λ c made. k made.1 made.3
two_found make First Second fst snd is_over same TooMany (Read y) h k = (make h.0 y, (h.0, y, h.1, k.0, refl), same h.0 y ∙ rw h.2 refl)
two_found make First Second fst snd is_over same TooMany TooMany h k = (make h.0 k.0, (h.0, k.0, h.1, k.1, refl), same h.0 k.0 ∙ rw h.2 refl)
two_found make First Second fst snd is_over same TooMany Unread h k = λ c made. k made.1 made.3
two_found make First Second fst snd is_over same Unread b h k = λ c made. h made.0 made.2

-- what is made of what stands there
abbrev pub MadeAt : {A C : Type 0} → Option A → (A → C → Type 0) → C → Type 0
MadeAt {A} found Makes c = (x : A) × (found ≡ Some x) × Makes x c

pub none_found : {A C : Type 0} (found : Option A) (Makes : A → C → Type 0) (over : C → Bool) → found ≡ None → IsFoundAs (MadeAt found Makes) over Unread
none_found found Makes over e = λ c made. let same : None ≡ Some made.0 = sym e ∙ made.1 in absurd cc

pub some_found : {A C : Type 0} (found : Option A) (Makes : A → C → Type 0) (over : C → Bool) (x : A) → found ≡ Some x → (answer : Found C) → IsFoundAs (Makes x) over answer → IsFoundAs (MadeAt found Makes) over answer
some_found found Makes over x e (Read c) h = ((x, e, h.0), h.1)
some_found found Makes over x e TooMany h = (h.0, (x, e, h.1), h.2)
some_found {A} found Makes over x e Unread h = λ c made.
    let both : Some made.0 ≡ Some x = sym made.1 ∙ e in
    let one : made.0 ≡ x = cc in
    h c (subst (λ (y : A). Makes y c) one made.2)

-- ---- one reading

abbrev pub IsOnce : {A : Type 0} → (A → Type 0) → Type 0
IsOnce {A} Means = (x y : A) → Means x → Means y → x ≡ y

pub first_once : {A : Type 0} (First Second : A → Type 0) → IsOnce First → IsOnce Second → IsOnce (FirstOf First Second)
first_once First Second f s x y (inl a) (inl b) = f x y a b
first_once First Second f s x y (inl a) (inr b) = absurd (b.0 x a)
first_once First Second f s x y (inr a) (inl b) = absurd (a.0 y b)
first_once First Second f s x y (inr a) (inr b) = s x y a.1 b.1

pub made_once : {A C : Type 0} (make : A → C) (Means : A → Type 0) → IsOnce Means → IsOnce (Made make Means)
made_once make Means once c d a b = a.2 ∙ ap make (once a.0 b.0 a.1 b.1) ∙ sym b.2

pub two_once : {A B C : Type 0} (make : A → B → C) (First : A → Type 0) (Second : B → Type 0) → IsOnce First → IsOnce Second → IsOnce (MadeOfTwo make First Second)
two_once {A} {B} make First Second f s c d a b =
    a.4 ∙ ap (λ (x : A). make x a.1) (f a.0 b.0 a.2 b.2) ∙ ap (make b.0) (s a.1 b.1 a.3 b.3) ∙ sym b.4

pub at_once : {A C : Type 0} (found : Option A) (Makes : A → C → Type 0) → ((x : A) → IsOnce (Makes x)) → IsOnce (MadeAt found Makes)
at_once {A} found Makes once c d a b =
    let both : Some a.0 ≡ Some b.0 = sym a.1 ∙ b.1 in
    let one : a.0 ≡ b.0 = cc in
    once a.0 c d a.2 (subst (λ (x : A). Makes x d) (sym one) b.2)
