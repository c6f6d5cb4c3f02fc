-- The walk over a rulebook's rules, from a place on.
use Rattle.std.proofs.Common.{◌≡◌, ℕ, zero, suc, ◌+◌, ◌-◌, ◌<◌, ◌≤◌, false, List, [], ◌∷◌, Option, None, Some, drop, map, refl, sym, ◌∙◌, ap, subst, arith}
use Rattle.std.specs.Prelude.{Err, Ok, slice_get, if◌then◌else◌}
use Rattle.play_meaning.specs.Acting.{inner_of}
use Rattle.play_meaning.specs.Attempts.{Attempt, next}
use Rattle.play_meaning.specs.CodedStories.{CodedStory, game_of_codes}
use Rattle.play_meaning.specs.Consulting.{applies, ask, done_if}
use Rattle.play_meaning.specs.Doing.{Inner}
use Rattle.play_meaning.specs.Games.{Game}
use Rattle.play_meaning.specs.Progress.{Asked, Progress, first_decision, undecided, unless_decided}
use Rattle.play_meaning.specs.declared.action.ActionNow.{ActionNow}
use Rattle.play_meaning.specs.declared.outcome.Outcome.{Outcome}
use Rattle.world_meaning.specs.declared.session.Abandon.{Abandon}
use Rattle.action_stages.specs.Answering.{asked}
use Rattle.action_stages.specs.Passing.{IsNext, NoneBehindIsAbout}

drop_on : (xs : List ℕ) (place x : ℕ) → slice_get xs place ≡ Some x → drop place xs ≡ x ∷ drop (place + 1) xs
drop_on [] place x is = let no : ⊥ = cc in absurd no
drop_on (y ∷ xs) zero x is = let e : y ≡ x = cc in ap (λ z. z ∷ xs) e
drop_on (y ∷ xs) (suc place) x is = let e : suc place + 1 ≡ suc (place + 1) = omega arith in drop_on xs place x is ∙ ap (λ n. x ∷ drop n (y ∷ xs)) (sym e)

drop_end : (xs : List ℕ) (place : ℕ) → slice_get xs place ≡ None → drop place xs ≡ []
drop_end [] zero is = refl
drop_end [] (suc place) is = refl
drop_end (y ∷ xs) zero is = let no : ⊥ = cc in absurd no
drop_end (y ∷ xs) (suc place) is = drop_end xs place is

-- a rule is asked, and then those behind it
pub walk_on : (f : ℕ → Progress → Attempt Asked) (xs : List ℕ) (place x : ℕ) (p : Progress) → slice_get xs place ≡ Some x
    → first_decision (map f (drop place xs)) p ≡ next (f x p) (λ asked. unless_decided asked.decision asked.progress (first_decision (map f (drop (place + 1) xs)) asked.progress))
walk_on f xs place x p is = ap (λ ys. first_decision (map f ys) p) (drop_on xs place x is)

-- with no rule left nothing decided
pub walk_end : (f : ℕ → Progress → Attempt Asked) (xs : List ℕ) (place : ℕ) (p : Progress) → slice_get xs place ≡ None
    → first_decision (map f (drop place xs)) p ≡ Ok (undecided p)
walk_end f xs place p is = ap (λ ys. first_decision (map f ys) p) (drop_end xs place is)

pub ruleset walk_rules = (walk_on, walk_end)

-- ---- rules that are passed over decide nothing

module _ (f : ℕ → Progress → Attempt Asked) (p : Progress) where
  skipped : (xs : List ℕ) (from gap place : ℕ) → place ≡ from + gap
      → ((n rule : ℕ) → from ≤ n → n < place → slice_get xs n ≡ Some rule → f rule p ≡ Ok (undecided p))
      → first_decision (map f (drop from xs)) p ≡ first_decision (map f (drop place xs)) p
  skipped [] zero gap zero is none = refl
  skipped [] zero gap (suc place) is none = refl
  skipped [] (suc from) gap zero is none = refl
  skipped [] (suc from) gap (suc place) is none = refl
  skipped (x ∷ xs) zero gap zero is none = refl
  skipped (x ∷ xs) zero zero (suc place) is none = absurd (omega arith)
  skipped (x ∷ xs) zero (suc gap) (suc place) is none =
      ap (λ first. next first (λ asked. unless_decided asked.decision asked.progress (first_decision (map f xs) asked.progress))) (none 0 x (omega arith) (omega arith) refl)
      ∙ skipped xs 0 gap place (omega arith) (λ n rule low high there. none (suc n) rule (omega arith) (omega arith) there)
  skipped (x ∷ xs) (suc from) gap zero is none = absurd (omega arith)
  skipped (x ∷ xs) (suc from) gap (suc place) is none =
      skipped xs from gap place (omega arith) (λ n rule low high there. none (suc n) rule (omega arith) (omega arith) there)

  all_skipped : (xs : List ℕ) (from : ℕ) → ((n rule : ℕ) → from ≤ n → slice_get xs n ≡ Some rule → f rule p ≡ Ok (undecided p))
      → first_decision (map f (drop from xs)) p ≡ Ok (undecided p)
  all_skipped [] zero none = refl
  all_skipped [] (suc from) none = refl
  all_skipped (x ∷ xs) zero none =
      ap (λ first. next first (λ asked. unless_decided asked.decision asked.progress (first_decision (map f xs) asked.progress))) (none 0 x (omega arith) refl)
      ∙ all_skipped xs 0 (λ n rule low there. none (suc n) rule (omega arith) there)
  all_skipped (x ∷ xs) (suc from) none = all_skipped xs from (λ n rule low there. none (suc n) rule (omega arith) there)

-- a rule that isn't about what is there decides nothing when it is asked
not_about : (g : Game) (inner : Inner) (book : ℕ) (now : ActionNow) (rule : ℕ) (p : Progress) → g.is_about rule now p.world ≡ false → ask g inner book now rule p ≡ Ok (undecided p)
unfolding ask applies
not_about g inner book now rule p not = ap (λ b. next (if b then g.holds rule now p.world else Ok false) (λ applies. done_if applies g inner book now rule p)) not

module _ (k kk : CodedStory) (same : kk ≡ k) (depth book : ℕ) (now : ActionNow) (from : ℕ) (p : Progress) (whole : Attempt Asked) where
  abbrev steps : ℕ → Progress → Attempt Asked
  steps = ask (game_of_codes k) (inner_of (game_of_codes k) depth) book now

  abbrev from_place : ℕ → Attempt Asked
  from_place place = first_decision (map steps (drop place ((game_of_codes k).books book))) p

  pub walk_over : (place rule : ℕ) → IsNext (game_of_codes kk) book now p.world from place rule → from_place from ≡ whole → from_place place ≡ whole
  walk_over place rule next rest =
      let is = subst (λ (k : CodedStory). IsNext (game_of_codes k) book now p.world from place rule) same next in
      let low = is.behind in
      sym (skipped steps p ((game_of_codes k).books book) from (place - from) place (omega arith)
      (λ n other low high there. not_about (game_of_codes k) (inner_of (game_of_codes k) depth) book now other p (is.others n other low high there)))
      ∙ rest

  pub walk_ends : NoneBehindIsAbout (game_of_codes kk) book now p.world from → from_place from ≡ whole → whole ≡ Ok (undecided p)
  walk_ends none rest =
      let is = subst (λ (k : CodedStory). NoneBehindIsAbout (game_of_codes k) book now p.world from) same none in
      sym rest
      ∙ all_skipped steps p ((game_of_codes k).books book) from
      (λ n other low there. not_about (game_of_codes k) (inner_of (game_of_codes k) depth) book now other p (is n other low there))

-- ---- one rule of a book, where it is known that play is of the same story

module _ (k kk : CodedStory) (same : kk ≡ k) (depth book : ℕ) (now : ActionNow) (place rule : ℕ) (p : Progress) (whole : Attempt Asked) where
  abbrev asks : CodedStory → ℕ → Progress → Attempt Asked
  asks k = ask (game_of_codes k) (inner_of (game_of_codes k) depth) book now

  abbrev left_from : ℕ → Progress → Attempt Asked
  left_from place = first_decision (map (asks k) (drop place ((game_of_codes k).books book)))

  abbrev IsThere : Type 0
  IsThere = slice_get ((game_of_codes kk).books book) place ≡ Some rule

  abbrev then_more : Attempt Asked → Attempt Asked
  then_more first = next first (λ asked. unless_decided asked.decision asked.progress (left_from (place + 1) asked.progress))

  walked : left_from place p ≡ whole → IsThere → then_more (asks kk rule p) ≡ whole
  walked rest there =
      ap (λ k. then_more (asks k rule p)) same
      ∙ sym (walk_on (asks k) ((game_of_codes k).books book) place rule p (ap (λ k. slice_get ((game_of_codes k).books book) place) (sym same) ∙ there)) ∙ rest

  pub walk_breaks : (reason : Abandon) → left_from place p ≡ whole → IsThere → asks kk rule p ≡ Err reason → whole ≡ Err reason
  walk_breaks reason rest there is = sym (walked rest there) ∙ ap then_more is

  -- by its decision, which is this one
  module _ (q : Progress) (decision : Option Outcome) (rest : left_from place p ≡ whole) (there : IsThere) (is : asks kk rule p ≡ Ok (asked q decision)) where
    pub walk_decides : (outcome : Outcome) → decision ≡ Some outcome → whole ≡ Ok (asked q (Some outcome))
    walk_decides outcome so = sym (walked rest there) ∙ ap then_more (is ∙ ap (λ d. Ok (asked q d)) so)

    pub walk_goes : decision ≡ None → left_from (place + 1) q ≡ whole
    walk_goes so = sym (ap then_more (is ∙ ap (λ d. Ok (asked q d)) so)) ∙ walked rest there
