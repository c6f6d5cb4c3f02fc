-- What the parts of a turn come to, one behind the other, is what the turn comes to.
use Rattle.std.proofs.Common.{◌≡◌, ◌∙◌, ap, refl, ℕ, List, [], ◌∷◌, ◌++◌, map, Ok, Err}
use Rattle.world_meaning.specs.declared.session.Abandon.{Abandon}
use Rattle.play_meaning.specs.Acting.{progress_of as left_at}
use Rattle.play_meaning.specs.Attempts.{Attempt, next}
use Rattle.play_meaning.specs.Progress.{Asked, Progress}
use Rattle.play_meaning.specs.Games.{Game}
use Rattle.play_meaning.specs.Turns.{behind_action, parts, perform_upon, turn_upon, unless_over}
use Rattle.play_meaning.specs.declared.outcome.Outcome.{Outcome}
use Rattle.action_stages.specs.Performing.{Performed, ended_so, performed}

-- ---- where play has come to, whatever was decided

-- the progress alone
left_of : Attempt Performed → Attempt Progress
left_of attempt = next attempt (λ done. Ok done.progress)

left_is : (attempt : Attempt Asked) → left_at attempt ≡ left_of (performed attempt)
unfolding left_of
left_is (Ok a) = refl
left_is (Err reason) = refl

pub performed_so : (attempt : Attempt Asked) (p : Progress) (outcome : Outcome) → performed attempt ≡ Ok (ended_so p outcome) → left_at attempt ≡ Ok p
unfolding left_of
performed_so attempt p outcome is = left_is attempt ∙ ap left_of is

pub performed_not : (attempt : Attempt Asked) (reason : Abandon) → performed attempt ≡ Err reason → left_at attempt ≡ Err reason
unfolding left_of
performed_not attempt reason is = left_is attempt ∙ ap left_of is

-- ---- parts one behind the other

abbrev pub Part : Type 0
Part = Progress → Attempt Progress

pub first_breaks : (a : Part) (more : List Part) (p : Progress) (reason : Abandon) → unless_over p.world.ended a p ≡ Err reason → parts (a ∷ more) p ≡ Err reason
first_breaks a more p reason first = rw first refl

pub second_breaks : (a b : Part) (more : List Part) (p q : Progress) (reason : Abandon) → unless_over p.world.ended a p ≡ Ok q → unless_over q.world.ended b q ≡ Err reason → parts (a ∷ b ∷ more) p ≡ Err reason
second_breaks a b more p q reason first second = rw (first, second) refl

pub third_breaks : (a b c : Part) (more : List Part) (p q r : Progress) (reason : Abandon) → unless_over p.world.ended a p ≡ Ok q → unless_over q.world.ended b q ≡ Ok r
    → unless_over r.world.ended c r ≡ Err reason → parts (a ∷ b ∷ c ∷ more) p ≡ Err reason
third_breaks a b c more p q r reason first second third = rw (first, second, third) refl

pub two_parts : (a b : Part) (p q r : Progress) → unless_over p.world.ended a p ≡ Ok q → unless_over q.world.ended b q ≡ Ok r → parts (a ∷ b ∷ []) p ≡ Ok r
two_parts a b p q r first second = rw (first, second) refl

pub three_parts : (a b c : Part) (p q r s : Progress) → unless_over p.world.ended a p ≡ Ok q → unless_over q.world.ended b q ≡ Ok r → unless_over r.world.ended c r ≡ Ok s
    → parts (a ∷ b ∷ c ∷ []) p ≡ Ok s
three_parts a b c p q r s first second third = rw (first, second, third) refl

pub ruleset parts_rules = (first_breaks, second_breaks, third_breaks, two_parts, three_parts)

-- ---- a part, and all those behind it

pub comes_behind : (a : Part) (more : List Part) (p q r : Progress) → unless_over p.world.ended a p ≡ Ok q → parts more q ≡ Ok r → parts (a ∷ more) p ≡ Ok r
comes_behind a more p q r first rest = ap (λ attempt. next attempt (parts more)) first ∙ rest

pub breaks_behind : (a : Part) (more : List Part) (p q : Progress) (reason : Abandon) → unless_over p.world.ended a p ≡ Ok q → parts more q ≡ Err reason → parts (a ∷ more) p ≡ Err reason
breaks_behind a more p q reason first rest = ap (λ attempt. next attempt (parts more)) first ∙ rest

pub ruleset behind_rules = (comes_behind, first_breaks, breaks_behind)

-- ---- several parts, and several more

parts-append : (some more : List Part) (p : Progress) → parts (some ++ more) p ≡ next (parts some p) (parts more)
parts-append [] more p = refl
parts-append (a ∷ some) more p = by_first (unless_over p.world.ended a p) (λ q. parts-append some more q)
  where
    by_first : (first : Attempt Progress) → ((q : Progress) → parts (some ++ more) q ≡ next (parts some q) (parts more))
        → next first (parts (some ++ more)) ≡ next (next first (parts some)) (parts more)
    by_first (Ok q) behind = behind q
    by_first (Err reason) behind = refl

-- ---- a turn of an action on several things

module _ (g : Game) (action : ℕ) (objects : List ℕ) (p : Progress) where
  pub turned_upon : (q r : Progress) → parts (map (perform_upon g action) objects) p ≡ Ok q → parts (behind_action g) q ≡ Ok r → turn_upon g action objects p ≡ Ok r
  unfolding turn_upon
  turned_upon q r first rest = parts-append (map (perform_upon g action) objects) (behind_action g) p ∙ ap (λ attempt. next attempt (parts (behind_action g))) first ∙ rest

  pub each_breaks : (reason : Abandon) → parts (map (perform_upon g action) objects) p ≡ Err reason → turn_upon g action objects p ≡ Err reason
  unfolding turn_upon
  each_breaks reason first = parts-append (map (perform_upon g action) objects) (behind_action g) p ∙ ap (λ attempt. next attempt (parts (behind_action g))) first

  pub rest_breaks : (q : Progress) (reason : Abandon) → parts (map (perform_upon g action) objects) p ≡ Ok q → parts (behind_action g) q ≡ Err reason → turn_upon g action objects p ≡ Err reason
  unfolding turn_upon
  rest_breaks q reason first rest = parts-append (map (perform_upon g action) objects) (behind_action g) p ∙ ap (λ attempt. next attempt (parts (behind_action g))) first ∙ rest

pub ruleset all_rules = (turned_upon, each_breaks, rest_breaks)
