-- Two games that differ only in what the bodies of rules do where that lowers work are played alike.
use Rattle.std.proofs.Common.{◌≡◌, ◌∙◌, ap, refl, ℕ, zero, suc, ◌≤◌, Bool, true, false, nat_lt, [], ◌∷◌, ltb-true, arith}
use Rattle.std.specs.Prelude.{◌+◌, map, Ok, Err, if◌then◌else◌}
use Rattle.world_meaning.specs.declared.session.Abandon.TheVariants.{TooMuchWork}
use Rattle.play_meaning.specs.Acting.{access, act, carrying, inner_of, progress_of, report, stages, visibility}
use Rattle.play_meaning.specs.Attempts.{Attempt, next}
use Rattle.play_meaning.specs.Consulting.{after_book, applies, ask, asked_of, before_book, carry_out_book, check_book, consult, done_if, instead_book, report_book, with_nouns}
use Rattle.play_meaning.specs.Doing.{Inner}
use Rattle.play_meaning.specs.Games.{Game}
use Rattle.play_meaning.specs.Progress.{Done, Progress, first_decision, most_work, spend, undecided}
use Rattle.play_meaning.specs.declared.action.ActionNow.{ActionNow}
use Rattle.action_stages.specs.Measures.{LowersNoWork}

abbrev pub Bodies : Type 0
Bodies = ℕ → Inner → ActionNow → Progress → Attempt Done

-- the game in which rules do this
abbrev pub doing : Game → Bodies → Game
doing g body = record g { body = body }

-- what follows a unit of work that is spent is asked only of work within the most
spent : {A : Type 0} (p : Progress) (f h : Progress → Attempt A) → ((q : Progress) → q.work ≤ most_work → f q ≡ h q) → next (spend p) f ≡ next (spend p) h
unfolding spend
spent {A} p f h same =
    let one : Bool → Attempt Progress = λ test. if test then Ok (record p { work = p.work + 1 }) else Err TooMuchWork in
    let Goal : Bool → Type 0 = λ test. nat_lt p.work most_work ≡ test → next (one test) f ≡ next (one test) h in
    elim (nat_lt p.work most_work) as Goal [
      | true ↦ λ is. same (record p { work = p.work + 1 }) (omega (arith, ltb-true p.work most_work is))
      | false ↦ λ is. refl
    ] refl

module _ (g : Game) (body : Bodies)
    (same : (rule : ℕ) (inner : Inner) (now : ActionNow) (p : Progress) → LowersNoWork inner → p.work ≤ most_work → body rule inner now p ≡ g.body rule inner now p)
    (keeps : (levels : ℕ) → LowersNoWork (inner_of (doing g body) levels)) where
  done_alike : (inner : Inner) → LowersNoWork inner → (is : Bool) (book : ℕ) (now : ActionNow) (rule : ℕ) (p : Progress) → done_if is (doing g body) inner book now rule p ≡ done_if is g inner book now rule p
  done_alike inner lowers false book now rule p = refl
  done_alike inner lowers true book now rule p =
      spent p (λ q. next (body rule inner now q) (λ done. Ok (asked_of book done))) (λ q. next (g.body rule inner now q) (λ done. Ok (asked_of book done)))
      (λ q within. ap (λ attempt. next attempt (λ done. Ok (asked_of book done))) (same rule inner now q lowers within))

  asked_alike : (inner : Inner) → LowersNoWork inner → (book : ℕ) (now : ActionNow) (rule : ℕ) (p : Progress) → ask (doing g body) inner book now rule p ≡ ask g inner book now rule p
  unfolding ask applies
  asked_alike inner lowers book now rule p = λ i. next (applies g rule now p.world) (λ is. done_alike inner lowers is book now rule p i)

  consulted_alike : (inner : Inner) → LowersNoWork inner → (book : ℕ) (now : ActionNow) (p : Progress) → consult (doing g body) inner book now p ≡ consult g inner book now p
  unfolding consult
  consulted_alike inner lowers book now p = λ i. first_decision (map (λ rule q. asked_alike inner lowers book (with_nouns now) rule q i) (g.books book)) p

  reported_alike : (inner : Inner) → LowersNoWork inner → (now : ActionNow) (p : Progress) → report (doing g body) inner now p ≡ report g inner now p
  reported_alike inner lowers now p = λ i. if now.silent then Ok (undecided p) else consulted_alike inner lowers report_book now p i

  stages_alike : (inner : Inner) → LowersNoWork inner → (now : ActionNow) (apart : Bool) → stages apart (doing g body) inner now ≡ stages apart g inner now
  unfolding stages visibility
  stages_alike inner lowers now true =
      λ i. (λ p. consulted_alike inner lowers check_book now p i) ∷ (λ p. consulted_alike inner lowers carry_out_book now p i) ∷ (λ p. reported_alike inner lowers now p i) ∷ []
  stages_alike inner lowers now false =
      λ i. (λ p. consulted_alike inner lowers before_book now p i) ∷ visibility g now
      ∷ access g.telling.setting (g.needs now.action).noun now.noun ∷ access g.telling.setting (g.needs now.action).second now.second
      ∷ carrying g.telling.setting inner (g.needs now.action).noun now.noun ∷ carrying g.telling.setting inner (g.needs now.action).second now.second
      ∷ (λ p. consulted_alike inner lowers instead_book now p i) ∷ (λ p. consulted_alike inner lowers check_book now p i)
      ∷ (λ p. consulted_alike inner lowers carry_out_book now p i) ∷ (λ p. consulted_alike inner lowers after_book now p i)
      ∷ (λ p. reported_alike inner lowers now p i) ∷ []

  acted_alike : (inner : Inner) → LowersNoWork inner → (now : ActionNow) (p : Progress) → act (doing g body) inner now p ≡ act g inner now p
  unfolding act
  acted_alike inner lowers now p = ap (λ all. first_decision all p) (stages_alike inner lowers now (g.needs now.action).out_of_world)

  one_inner : (levels : ℕ) → inner_of (doing g body) levels ≡ inner_of g levels
  unfolding inner_of
  one_inner zero = refl
  one_inner (suc left) =
      let same_inner = one_inner left in
      let lowers = keeps left in
      λ i. record {
        tries = λ now p. progress_of ((acted_alike (inner_of (doing g body) left) lowers now p ∙ ap (λ inner. act g inner now p) same_inner) i);
        follows = λ book now p. progress_of ((consulted_alike (inner_of (doing g body) left) lowers book now p ∙ ap (λ inner. consult g inner book now p) same_inner) i);
      }

  pub bodies_consulted : (levels book : ℕ) (now : ActionNow) (p : Progress) → consult (doing g body) (inner_of (doing g body) levels) book now p ≡ consult g (inner_of g levels) book now p
  bodies_consulted levels book now p = consulted_alike (inner_of (doing g body) levels) (keeps levels) book now p ∙ ap (λ inner. consult g inner book now p) (one_inner levels)

  pub bodies_acted : (levels : ℕ) (now : ActionNow) (p : Progress) → act (doing g body) (inner_of (doing g body) levels) now p ≡ act g (inner_of g levels) now p
  bodies_acted levels now p = acted_alike (inner_of (doing g body) levels) (keeps levels) now p ∙ ap (λ inner. act g inner now p) (one_inner levels)
