-- Lines that rise, told of their numbers alone.
use Rattle.std.proofs.Common.{◌≡◌, ℕ, ◌≤◌, List, [], ◌∷◌, ◌++◌, refl, ap, subst, arith}
use Rattle.std.specs.Prelude.{map}
use Rattle.i7_lexer.specs.Rising.{LinesRise}

-- none of these numbers is below one before it
abbrev pub RiseFrom : ℕ → List ℕ → Type 0
RiseFrom least [] = Unit {0}
RiseFrom least (n ∷ ns) = (least ≤ n) × RiseFrom n ns

pub lower : (a b : ℕ) (ns : List ℕ) → a ≤ b → RiseFrom b ns → RiseFrom a ns
lower a b [] le r = tt
lower a b (n ∷ ns) le r = let more : b ≤ n = r.0 in (omega arith, r.1)

-- what is left out leaves the others as they rise
pub left_out : (least : ℕ) (ns ms ks : List ℕ) → RiseFrom least (ns ++ (ms ++ ks)) → RiseFrom least (ns ++ ks)
left_out least [] [] ks r = r
left_out least [] (m ∷ ms) ks r = left_out least [] ms ks (lower least m (ms ++ ks) r.0 r.1)
left_out least (n ∷ ns) ms ks r = (r.0, left_out n ns ms ks r.1)

pub behind : (least : ℕ) (ns : List ℕ) (m : ℕ) (ks : List ℕ) → RiseFrom least (ns ++ m ∷ ks) → least ≤ m
behind least [] m ks r = r.0
behind least (n ∷ ns) m ks r = let le : least ≤ n = r.0 in let more : n ≤ m = behind n ns m ks r.1 in omega arith

pub map_append : {A : Type 0} (f : A → ℕ) (xs ys : List A) → map f (xs ++ ys) ≡ map f xs ++ map f ys
map_append f [] ys = refl
map_append f (x ∷ xs) ys = ap (λ (ns : List ℕ). f x ∷ ns) (map_append f xs ys)

module _ {A : Type 0} (line : A → ℕ) where
  two_lines : (least : ℕ) (before between after : List A) (a b : A) → RiseFrom least (map line (before ++ a ∷ (between ++ b ∷ after))) → line a ≤ line b
  two_lines least [] between after a b r =
      behind (line a) (map line between) (line b) (map line after) (subst (λ (ns : List ℕ). RiseFrom (line a) ns) (map_append line between (b ∷ after)) r.1)
  two_lines least (x ∷ xs) between after a b r = two_lines (line x) xs between after a b r.1

  pub lines_rise : (items : List A) → RiseFrom 0 (map line items) → LinesRise line items
  lines_rise items r before between after a b split = two_lines 0 before between after a b (subst (λ (xs : List A). RiseFrom 0 (map line xs)) split r)

  -- and back
  pub rise_from : (least : ℕ) (items : List A) → ((first : A) (more : List A) → items ≡ first ∷ more → least ≤ line first) → LinesRise line items → RiseFrom least (map line items)
  rise_from least [] low r = tt
  rise_from least (x ∷ xs) low r = (
    low x xs refl,
    rise_from (line x) xs (λ first more split. r [] [] more x first (ap (λ (ys : List A). x ∷ ys) split))
        (λ before between after a b split. r (x ∷ before) between after a b (ap (λ (ys : List A). x ∷ ys) split)),
  )
