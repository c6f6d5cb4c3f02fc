-- The longest front of a list whose elements all pass.
use Rattle.std.proofs.Common.{◌≡◌, ℕ, ◌+◌, suc, Bool, true, false, ◌&&◌, List, [], ◌∷◌, ◌++◌, length, take, drop, refl, ap, ◌∙◌, arith}
use Rattle.std.specs.List.{prefix_len, list_all}
use Rattle.i7_lexer.specs.Lexemes.{begins_with}

pub and_left : (a b : Bool) → a && b ≡ true → a ≡ true
and_left true b h = refl
and_left false b h = h

pub and_right : (a b : Bool) → a && b ≡ true → b ≡ true
and_right true b h = h
and_right false b h = cc

pub prefix_len-yes : (p : ℕ → Bool) (x : ℕ) (xs : List ℕ) → p x ≡ true → prefix_len p (x ∷ xs) ≡ suc (prefix_len p xs)
prefix_len-yes p x xs h = let same : 1 + prefix_len p xs ≡ suc (prefix_len p xs) = omega arith in rw h same

pub prefix_len-no : (p : ℕ → Bool) (x : ℕ) (xs : List ℕ) → p x ≡ false → prefix_len p (x ∷ xs) ≡ 0
prefix_len-no p x xs h = rw h refl

-- a front whose elements all pass, and a rest that doesn't go on with one
pub prefix_len_at : (p : ℕ → Bool) (front rest : List ℕ) → list_all p front ≡ true → begins_with p rest ≡ false → prefix_len p (front ++ rest) ≡ length front
prefix_len_at p [] [] all stops = refl
prefix_len_at p [] (x ∷ rest) all stops = prefix_len-no p x rest stops
prefix_len_at p (x ∷ front) rest all stops = prefix_len-yes p x (front ++ rest) (and_left (p x) (list_all p front) all) ∙ ap suc (prefix_len_at p front rest (and_right (p x) (list_all p front) all) stops)

front_passes_by : (p : ℕ → Bool) (x : ℕ) (xs : List ℕ) (v : Bool) → p x ≡ v → list_all p (take (prefix_len p xs) xs) ≡ true → list_all p (take (prefix_len p (x ∷ xs)) (x ∷ xs)) ≡ true
front_passes_by p x xs true e all = rw (prefix_len-yes p x xs e) (rw e all)
front_passes_by p x xs false e all = rw (prefix_len-no p x xs e) refl

pub front_passes : (p : ℕ → Bool) (xs : List ℕ) → list_all p (take (prefix_len p xs) xs) ≡ true
front_passes p [] = refl
front_passes p (x ∷ xs) = front_passes_by p x xs (p x) refl (front_passes p xs)

behind_stops_by : (p : ℕ → Bool) (x : ℕ) (xs : List ℕ) (v : Bool) → p x ≡ v → begins_with p (drop (prefix_len p xs) xs) ≡ false → begins_with p (drop (prefix_len p (x ∷ xs)) (x ∷ xs)) ≡ false
behind_stops_by p x xs true e stops = rw (prefix_len-yes p x xs e) stops
behind_stops_by p x xs false e stops = rw (prefix_len-no p x xs e) e

pub behind_stops : (p : ℕ → Bool) (xs : List ℕ) → begins_with p (drop (prefix_len p xs) xs) ≡ false
behind_stops p [] = refl
behind_stops p (x ∷ xs) = behind_stops_by p x xs (p x) refl (behind_stops p xs)
