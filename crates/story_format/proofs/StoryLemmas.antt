-- What is known of the objects of a tale that a story file can hold.
use Rattle.std.proofs.Common.{◌≡◌, ℕ, zero, suc, ◌+◌, ◌≤◌, Bool, true, false, ◌&&◌, leb, List, [], ◌∷◌, ◌++◌, length, map, take, drop, Option, Some, refl, ap, ◌∙◌, arith}
use Rattle.std.specs.Prelude.{slice_get, is_none, codes}
use Rattle.std.specs.List.{list_all}
use Rattle.std.specs.Str.{bytes_eq}
use Rattle.std.proofs.lemmas.Bool.{leb-true, and_from, and_parts}
use Rattle.world_meaning.specs.declared.direction.Direction.{Direction}
use Rattle.world_meaning.specs.Directions.{all_directions, direction_name}
use Rattle.world_meaning.specs.Kinds.{is_under}
use Rattle.world_meaning.specs.WellMade.{are_directions, begin_rightly, has_no_article, is_direction, is_player, stands_in_room}
use Rattle.world_meaning.specs.declared.tale.Object.{Object}

pub all_at : {A : Type 0} (p : A → Bool) (xs : List A) (i : ℕ) (x : A) → list_all p xs ≡ true → slice_get xs i ≡ Some x → p x ≡ true
all_at p [] i x h e = absurd cc
all_at p (y ∷ ys) zero x h e = let same : y ≡ x = cc in rw (← same) (and_parts (p y) (list_all p ys) h).0
all_at p (y ∷ ys) (suc i) x h e = all_at p ys i x (and_parts (p y) (list_all p ys) h).1 e

pub all_weaker : {A : Type 0} (p q : A → Bool) → ((x : A) → p x ≡ true → q x ≡ true) → (xs : List A) → list_all p xs ≡ true → list_all q xs ≡ true
all_weaker p q f [] h = refl
all_weaker p q f (x ∷ xs) h = let t = and_parts (p x) (list_all p xs) h in and_from (q x) (list_all q xs) (f x t.0) (all_weaker p q f xs t.1)

pub get_dropped : {A : Type 0} (n i k : ℕ) (xs : List A) → n + i ≡ k → slice_get (drop n xs) i ≡ slice_get xs k
get_dropped zero i k xs e = let same : i ≡ k = omega arith in rw same refl
get_dropped (suc n) i k [] e = refl
get_dropped (suc n) i zero (x ∷ xs) e = absurd (omega arith)
get_dropped (suc n) i (suc k) (x ∷ xs) e = get_dropped n i k xs (omega arith)

pub behind_there : {A : Type 0} (front xs : List A) (k : ℕ) (x : A) → slice_get xs k ≡ Some x → slice_get (front ++ xs) (length front + k) ≡ Some x
behind_there [] xs k x at = let same : 0 + k ≡ k = omega arith in ap (slice_get xs) same ∙ at
behind_there (y ∷ front) xs k x at =
    let same : suc (length front) + k ≡ suc (length front + k) = omega arith in
    ap (slice_get (y ∷ (front ++ xs))) same ∙ behind_there front xs k x at

pub last_of_five : (a b c d e : Bool) → (a && b && c && d && e) ≡ true → (a ≡ true) × (b ≡ true) × (c ≡ true) × (d ≡ true) × (e ≡ true)
last_of_five true true true true true h = (refl, refl, refl, refl, refl)
last_of_five true true true true false h = absurd cc
last_of_five true true true false e h = absurd cc
last_of_five true true false d e h = absurd cc
last_of_five true false c d e h = absurd cc
last_of_five false b c d e h = absurd cc

pub three : (a b c : Bool) → (a && b && c) ≡ true → (a ≡ true) × (b ≡ true) × (c ≡ true)
three true true true h = (refl, refl, refl)
three true true false h = absurd cc
three true false c h = absurd cc
three false b c h = absurd cc

pub four : (a b c d : Bool) → (a && b && c && d) ≡ true → (a ≡ true) × (b ≡ true) × (c ≡ true) × (d ≡ true)
four true true true true h = (refl, refl, refl, refl)
four true true true false h = absurd cc
four true true false d h = absurd cc
four true false c d h = absurd cc
four false b c d h = absurd cc

pub player_parts : (parents : List (Option ℕ)) (rooms : List Bool) (o : Object) → is_player parents rooms o ≡ true → (is_under parents o.kind 6 ≡ true) × (bytes_eq o.name (codes "yourself") ≡ true) × (has_no_article o.article ≡ true) × (stands_in_room rooms o.place ≡ true)
unfolding is_player
player_parts parents rooms o h = four (is_under parents o.kind 6) (bytes_eq o.name (codes "yourself")) (has_no_article o.article) (stands_in_room rooms o.place) h

pub direction_parts : (parents : List (Option ℕ)) (d : Direction) (o : Object) → is_direction parents d o ≡ true → (is_under parents o.kind 2 ≡ true) × (bytes_eq o.name (direction_name d) ≡ true) × (has_no_article o.article ≡ true) × (is_none o.place ≡ true)
unfolding is_direction
direction_parts parents d o h = four (is_under parents o.kind 2) (bytes_eq o.name (direction_name d)) (has_no_article o.article) (is_none o.place) h

-- what is said of the player and the others
pub record HasParts (parents : List (Option ℕ)) (rooms : List Bool) (first : Object) (others : List Object) : Type 0 where
  pub few : length others ≤ 999
  pub many : 12 ≤ length others
  pub player : is_player parents rooms first ≡ true
  pub directions : are_directions parents all_directions (take 12 others) ≡ true

pub parts : (parents : List (Option ℕ)) (rooms : List Bool) (player : Object) (others : List Object) → begin_rightly parents rooms (player ∷ others) ≡ true → HasParts parents rooms player others
unfolding begin_rightly
parts parents rooms player others h =
    let t = four (leb (length others) 999) (leb 12 (length others)) (is_player parents rooms player) (are_directions parents all_directions (take 12 others)) h in
    record { few = leb-true _ _ t.0; many = leb-true _ _ t.1; player = t.2; directions = t.3 }

pub few_begin : (parents : List (Option ℕ)) (rooms : List Bool) (objects : List Object) → begin_rightly parents rooms objects ≡ true → length objects ≤ 1000
unfolding begin_rightly
few_begin parents rooms [] h = absurd cc
few_begin parents rooms (player ∷ others) h = omega (arith, (parts parents rooms player others h).few)

-- ---- lists of what is said of objects

pub all_mapped : {A B : Type 0} (p : B → Bool) (f : A → B) (xs : List A) → list_all p (map f xs) ≡ true → list_all (λ x. p (f x)) xs ≡ true
all_mapped p f [] h = refl
all_mapped p f (x ∷ xs) h = let t = and_parts (p (f x)) (list_all p (map f xs)) h in and_from (p (f x)) (list_all (λ y. p (f y)) xs) t.0 (all_mapped p f xs t.1)

pub all_both : {A : Type 0} (p q : A → Bool) (xs : List A) → list_all p xs ≡ true → list_all q xs ≡ true → list_all (λ x. p x && q x) xs ≡ true
all_both p q [] h k = refl
all_both p q (x ∷ xs) h k =
    let t = and_parts (p x) (list_all p xs) h in
    let u = and_parts (q x) (list_all q xs) k in
    and_from (p x && q x) (list_all (λ y. p y && q y) xs) (and_from (p x) (q x) t.0 u.0) (all_both p q xs t.1 u.1)
