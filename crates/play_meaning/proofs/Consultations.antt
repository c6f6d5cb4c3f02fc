-- A decision ends a consultation.
use Rattle.std.proofs.Common.{◌≡◌, ◌∙◌, ap, ℕ, List, [], ◌∷◌, ◌++◌, Ok, Err, map}
use Rattle.std.specs.Prelude.{Option, None, Some}
use Rattle.std.proofs.lemmas.List.{map-append}
use Rattle.play_meaning.specs.Attempts.{Attempt, next}
use Rattle.play_meaning.specs.Consulting.{ask, consult, with_nouns}
use Rattle.play_meaning.specs.Doing.{Inner}
use Rattle.play_meaning.specs.Games.{Game}
use Rattle.play_meaning.specs.Progress.{Asked, Progress, first_decision, unless_decided}
use Rattle.play_meaning.specs.declared.action.ActionNow.{ActionNow}
use Rattle.play_meaning.specs.declared.outcome.Outcome.{Outcome}

-- what a step decides, or the steps behind it, in front of others
by_decision : (steps more : Progress → Attempt Asked) (asked : Asked) → ((q : Progress) → steps q ≡ Ok asked → more q ≡ Ok asked)
    → (decision : Option Outcome) (q : Progress) → unless_decided decision q (steps q) ≡ Ok asked → unless_decided decision q (more q) ≡ Ok asked
by_decision steps more asked on None q done = on q done
by_decision steps more asked on (Some outcome) q done = done

by_first : (steps more : Progress → Attempt Asked) (asked : Asked) → ((q : Progress) → steps q ≡ Ok asked → more q ≡ Ok asked)
    → (first : Attempt Asked) → next first (λ a. unless_decided a.decision a.progress (steps a.progress)) ≡ Ok asked
    → next first (λ a. unless_decided a.decision a.progress (more a.progress)) ≡ Ok asked
by_first steps more asked on (Ok a) done = by_decision steps more asked on a.decision a.progress done
by_first steps more asked on (Err reason) done = done

-- steps up to a decision are all, whatever stands behind them
ends_at : (steps others : List (Progress → Attempt Asked)) (p : Progress) (asked : Asked) (outcome : Outcome) → first_decision steps p ≡ Ok asked
    → asked.decision ≡ Some outcome → first_decision (steps ++ others) p ≡ Ok asked
ends_at [] others p asked outcome done decided = absurd cc
ends_at (step ∷ steps) others p asked outcome done decided =
    by_first (first_decision steps) (first_decision (steps ++ others)) asked (λ q more. ends_at steps others q asked outcome more decided) (step p) done

pub decision_ends : (g : Game) (inner : Inner) (book : ℕ) (now : ActionNow) (rules others : List ℕ) (p : Progress) (asked : Asked) (outcome : Outcome)
    → g.books book ≡ rules ++ others → first_decision (map (ask g inner book (with_nouns now)) rules) p ≡ Ok asked → asked.decision ≡ Some outcome
    → consult g inner book now p ≡ Ok asked
unfolding consult
decision_ends g inner book now rules others p asked outcome same done decided =
    ap (λ numbers. first_decision (map (ask g inner book (with_nouns now)) numbers) p) same
    ∙ ap (λ steps. first_decision steps p) (map-append (ask g inner book (with_nouns now)) rules others)
    ∙ ends_at (map (ask g inner book (with_nouns now)) rules) (map (ask g inner book (with_nouns now)) others) p asked outcome done decided
