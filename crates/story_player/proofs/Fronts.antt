-- What bytes begin with.
use Rattle.std.proofs.Common.{ℕ, List, [], ◌++◌, refl, ap, sym, ◌∙◌, append_assoc}
use Rattle.std.proofs.lemmas.List.{append-nil}
use Rattle.story_player.specs.Runs.{IsFront}

pub front_self : (a : List ℕ) → IsFront a a
front_self a = ([], sym (append-nil a))

pub front_nothing : (a : List ℕ) → IsFront [] a
front_nothing a = (a, refl)

pub front-append : (a b more : List ℕ) → IsFront a b → IsFront a (b ++ more)
front-append a b more front = (front.0 ++ more, ap (λ bs. bs ++ more) front.1 ∙ append_assoc a front.0 more)

pub front-behind : (first a b : List ℕ) → IsFront a b → IsFront (first ++ a) (first ++ b)
front-behind first a b front = (front.0, ap (λ bs. first ++ bs) front.1 ∙ sym (append_assoc first a front.0))

pub front_trans : (a b c : List ℕ) → IsFront a b → IsFront b c → IsFront a c
front_trans a b c first second = (first.0 ++ second.0, second.1 ∙ ap (λ bs. bs ++ second.0) first.1 ∙ append_assoc a first.0 second.0)

pub front_first : (a b : List ℕ) → IsFront a (a ++ b)
front_first a b = (b, refl)
