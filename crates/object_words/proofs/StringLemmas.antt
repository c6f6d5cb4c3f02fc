-- The strings that a set of bytes keeps.
use Rattle.std.proofs.Common.{◌≡◌, ℕ, suc, Bool, true, false, cond, not, List, [], ◌∷◌, ◌++◌, length, map, Option, refl, ap, ◌||◌}
use Rattle.std.specs.Prelude.{position}
use Rattle.std.specs.Global.{Vec}
use Rattle.std.specs.List.{list_any, prefix_len}
use Rattle.std.specs.Str.{bytes_eq}
use Rattle.std.proofs.lemmas.List.{map_push}
use Rattle.object_words.specs.Mentions.{mention, number_or_none, number_in}

pub any_mapped : {A B : Type 0} (f : A → B) (t : B → Bool) (xs : List A) → list_any t (map f xs) ≡ list_any (λ x. t (f x)) xs
any_mapped f t [] = refl
any_mapped f t (x ∷ xs) = ap (λ b. t (f x) || b) (any_mapped f t xs)

prefix_mapped : {A B : Type 0} (f : A → B) (t : B → Bool) (xs : List A) → prefix_len t (map f xs) ≡ prefix_len (λ x. t (f x)) xs
prefix_mapped f t [] = refl
prefix_mapped f t (x ∷ xs) = rw (prefix_mapped f t xs) refl

pub length_mapped : {A B : Type 0} (f : A → B) (xs : List A) → length (map f xs) ≡ length xs
length_mapped f [] = refl
length_mapped f (x ∷ xs) = ap suc (length_mapped f xs)

pub position_mapped : {A B : Type 0} (f : A → B) (t : B → Bool) (xs : List A) → position t (map f xs) ≡ position (λ x. t (f x)) xs
position_mapped f t xs = rw (prefix_mapped f (λ b. not (t b)) xs, length_mapped f xs) refl

abbrev pub items_of : List (Vec ℕ) → List (List ℕ)
items_of keys = map (λ key. key.items) keys

pub added : (test : Bool) (keys : List (Vec ℕ)) (v : Vec ℕ) (string : List ℕ) → v.items ≡ string → test ≡ list_any (λ key. bytes_eq string key.items) keys
    → items_of (cond test keys (keys ++ v ∷ [])) ≡ mention (items_of keys) string
added true keys v string same h = rw (any_mapped (λ (key : Vec ℕ). key.items) (bytes_eq string) keys, ← h) refl
added false keys v string same h = rw (any_mapped (λ (key : Vec ℕ). key.items) (bytes_eq string) keys, ← h, map_push (λ (key : Vec ℕ). key.items) keys v, same) refl

pub was_there : (keys : List (Vec ℕ)) (string : List ℕ) → list_any (λ key. bytes_eq string key.items) keys ≡ true → items_of keys ≡ mention (items_of keys) string
was_there keys string h = rw (any_mapped (λ (key : Vec ℕ). key.items) (bytes_eq string) keys, h) refl

pub numbered : (found : Option ℕ) (keys : List (Vec ℕ)) (string : List ℕ) → found ≡ position (λ key. bytes_eq string key.items) keys → number_in (items_of keys) string ≡ number_or_none found
unfolding number_in
numbered found keys string h = rw (position_mapped (λ (key : Vec ℕ). key.items) (bytes_eq string) keys, ← h) refl
