-- A sound body's run comes to an end, within as many steps as it may take; more of them change nothing.
use Rattle.std.proofs.Common.{◌≡◌, ◌∙◌, ap, sym, subst, ℕ, zero, suc, ◌+◌, ◌-◌, ◌*◌, ◌≤◌, List, [], ◌∷◌, length, refl, Option, Some, None, ℤ, arith}
use Rattle.std.proofs.lemmas.Nat.{mul-le}
use Rattle.play_meaning.specs.Codes.{most_steps, start_at}
use Rattle.play_meaning.specs.Instructions.{at_place, sizes}
use Rattle.play_meaning.specs.Machines.{Abandons, Answers, Frame, Goes, Leaves, State, Step, Stuck, does, does_at, goes_further, run, step}
use Rattle.play_meaning.specs.Progress.{Progress, most_work}
use Rattle.play_meaning.specs.SoundCodes.{IsPlace, IsSound, Labelled}
use Rattle.play_meaning.specs.Stands.{AreOf, StandsBy}
use Rattle.play_meaning.specs.declared.instruction.Instruction.{Instruction}
use Rattle.play_meaning.specs.declared.operand.Counts.{Counts}
use Rattle.play_meaning.specs.declared.operand.Sort.{Sort}
use Rattle.play_meaning.specs.declared.operand.Use.TheVariants.{Body}
use Rattle.play_meaning.proofs.Unstuck.{Follows, one_step}
use Rattle.action_stages.specs.Measures.{HasEnded, IsBetween, IsOver, LowersNoWork, far_from, outcome_from, steps_left}
use Rattle.action_stages.proofs.Coming.{Came, came}
use Rattle.action_stages.proofs.Falling.{falls, far_most}

-- ---- runs that are over

-- more steps change nothing where a run is over
pub longer : (f : Frame) (code : List Instruction) (n m : ℕ) (s : State) → IsOver (run f code n s) → run f code (n + m) s ≡ run f code n s
unfolding run
longer f code zero m s over = absurd over
longer f code (suc n) m s over =
    let count : suc n + m ≡ suc (n + m) = omega arith in
    ap (λ k. run f code k s) count ∙ further (step f code s) (longer f code n m) over
  where
    further : (st : Step) → ((t : State) → IsOver (run f code n t) → run f code (n + m) t ≡ run f code n t) → IsOver (goes_further (run f code n) st)
        → goes_further (run f code (n + m)) st ≡ goes_further (run f code n) st
    further (Goes t) more over = more t over
    further (Leaves flow p) more over = refl
    further (Answers truth) more over = refl
    further (Abandons reason) more over = refl
    further Stuck more over = refl

ended_over : (least : ℕ) (st : Step) → HasEnded least st → IsOver st
ended_over least (Goes s) ended = ended
ended_over least (Leaves flow p) ended = tt
ended_over least (Answers truth) ended = tt
ended_over least (Abandons reason) ended = tt
ended_over least Stuck ended = tt

-- ---- work

-- no instruction lowers the work
abbrev pub Worked : State → Step → Type 0
Worked s (Goes t) = IsBetween s.progress.work t.progress
Worked s (Leaves flow q) = IsBetween s.progress.work q
Worked s st = Unit {0}

pub worked : (f : Frame) (code : List Instruction) (s : State) → LowersNoWork f.inner → s.progress.work ≤ most_work → Worked s (step f code s)
worked f code s lowers within = at (at_place code s.place)
  where
    Between : Progress → Type 0
    Between p = IsBetween s.progress.work p

    told : (i : Instruction) (st : Step) → Came f s (IsBetween s.progress.work) i st → Worked s st
    told i (Goes t) comes = comes.1
    told i (Leaves flow q) comes = comes
    told i (Answers truth) comes = tt
    told i (Abandons reason) comes = tt
    told i Stuck comes = tt

    at : (there : Option Instruction) → Worked s (does_at f s there)
    at None = tt
    at (Some i) =
        told i (does f s i)
        (came f s (IsBetween s.progress.work) (λ p same. (omega (arith, same), omega (arith, same, within))) (λ p more few. (omega (arith, more), few))
        (λ now. lowers.tries now s.progress within) (λ book. lowers.follows book f.now s.progress within) i)

pub works : (f : Frame) (code : List Instruction) (s t : State) → LowersNoWork f.inner → s.progress.work ≤ most_work → step f code s ≡ Goes t → IsBetween s.progress.work t.progress
works f code s t lowers within on = subst (Worked s) on (worked f code s lowers within)

-- ---- bodies

many_of : (sorts : List Sort) (ops : List ℤ) → AreOf sorts ops → length ops ≡ length sorts
many_of [] [] are = refl
many_of [] (a ∷ ops) are = absurd are
many_of (sort ∷ sorts) [] are = absurd are
many_of (sort ∷ sorts) (a ∷ ops) are = ap suc (many_of sorts ops are.1)

-- with all the work still to be done
most : (work size far m : ℕ) → far ≤ size → (m - work) * size + far ≤ size * (m + 1)
most work size far m short = omega (arith, short, mul-le (m - work) size m size (omega arith) (omega arith), turned)
  where
    turned : size * (m + 1) ≡ m * size + size
    turned = grind arith

module _ (z : Counts) (code : List Instruction) (sound : IsSound z Body code) where
  abbrev c : Labelled
  c = record { code = code; at = sound.at }

  -- an instruction stands there, with as many operands as its place says
  abbrev Ready : State → Type 0
  Ready s = IsPlace c s.place × (length s.operands ≡ length (sound.at s.place).operands)

  ready : (s : State) → StandsBy sound s → Ready s
  ready s stands = (stands.place, many_of (sound.at s.place).operands s.operands stands.operands)

  starts : (loops : List (Option ℕ)) (p : Progress) → Ready (start_at loops p)
  starts loops p = (sound.starts.0, sym (ap (λ l. length l.operands) sound.starts.1))

  -- a run begins with no more steps left than a body's run is given
  pub start_within : (loops : List (Option ℕ)) (p : Progress) → steps_left code (start_at loops p) ≤ most_steps code
  start_within loops p = most p.work (sizes code) (far_from code 0) most_work (far_most z Body code sound 0 sound.starts.0).1

  -- one step on, the outcome is the same
  one_more : (f : Frame) (s : State) (r : Step) → Ready s → step f code s ≡ r → outcome_from f code s ≡ goes_further (run f code (steps_left code s - 1)) r
  unfolding outcome_from run
  one_more f s r at is =
      let count : steps_left code s ≡ suc (steps_left code s - 1) = omega (arith, (far_most z Body code sound s.place at.0).0) in
      ap (λ k. run f code k s) count ∙ ap (goes_further (run f code (steps_left code s - 1))) is

  over_so : (f : Frame) (n : ℕ) (r : Step) → IsOver r → goes_further (run f code n) r ≡ r
  over_so f n (Goes t) over = absurd over
  over_so f n (Leaves flow q) over = refl
  over_so f n (Answers truth) over = refl
  over_so f n (Abandons reason) over = refl
  over_so f n Stuck over = refl

  pub outcome_is : (f : Frame) (s : State) (r : Step) → StandsBy sound s → step f code s ≡ r → IsOver r → outcome_from f code s ≡ r
  outcome_is f s r stands is over = one_more f s r (ready s stands) is ∙ over_so f (steps_left code s - 1) r over

  module _ (f : Frame) (lowers : LowersNoWork f.inner) where
    comes_to_its_end : (least n : ℕ) (s : State) → Ready s → s.progress.work ≤ most_work → least ≤ s.progress.work → steps_left code s ≤ n → HasEnded least (run f code n s)
    unfolding run
    comes_to_its_end least zero s at within done short = absurd (omega (arith, short, (far_most z Body code sound s.place at.0).0))
    comes_to_its_end least (suc n) s at within done short =
        further (step f code s) refl (one_step z Body c f sound.fine s at.0 at.1) (worked f code s lowers within) (comes_to_its_end least n)
      where
        further : (st : Step) → step f code s ≡ st → Follows z Body c s.place st → Worked s st
            → ((t : State) → Ready t → t.progress.work ≤ most_work → least ≤ t.progress.work → steps_left code t ≤ n → HasEnded least (run f code n t))
            → HasEnded least (goes_further (run f code n) st)
        further (Goes t) on follows work more =
            let fell = falls z Body code sound f s t at.0 on work.0 work.1 in
            more t (follows.0, follows.1) work.1 (omega (arith, done, work.0)) (omega (arith, short, fell.1))
        further (Leaves flow q) on follows work more = (omega (arith, done, work.0), work.1)
        further (Answers truth) on follows work more = absurd cc
        further (Abandons reason) on follows work more = tt
        further Stuck on follows work more = absurd follows

    pub body_ends : (p : Progress) → p.work ≤ most_work → HasEnded p.work (run f code (most_steps code) (start_at [] p))
    body_ends p within = comes_to_its_end p.work (most_steps code) (start_at [] p) (starts [] p) within (omega arith) (start_within [] p)

    -- with more steps than are left a run comes to the same
    enough : (n : ℕ) (s : State) → Ready s → s.progress.work ≤ most_work → steps_left code s ≤ n → run f code n s ≡ outcome_from f code s
    unfolding outcome_from
    enough n s at within short =
        let left = steps_left code s in
        let count : n ≡ left + (n - left) = omega (arith, short) in
        ap (λ k. run f code k s) count
        ∙ longer f code left (n - left) s (ended_over s.progress.work (run f code left s) (comes_to_its_end s.progress.work left s at within (omega arith) (omega arith)))

    -- wherever it may stand, it ends with as many steps as are left, and comes to the same with more
    pub ends_within : (n : ℕ) (s : State) → StandsBy sound s → s.progress.work ≤ most_work → steps_left code s ≤ n → HasEnded s.progress.work (run f code n s)
    ends_within n s stands within short = comes_to_its_end s.progress.work n s (ready s stands) within (omega arith) short

    pub outcome_within : (n : ℕ) (s : State) → StandsBy sound s → s.progress.work ≤ most_work → steps_left code s ≤ n → run f code n s ≡ outcome_from f code s
    outcome_within n s stands within short = enough n s (ready s stands) within short

    pub outcome_of_start : (p : Progress) → p.work ≤ most_work → run f code (most_steps code) (start_at [] p) ≡ outcome_from f code (start_at [] p)
    outcome_of_start p within = enough (most_steps code) (start_at [] p) (starts [] p) within (start_within [] p)

    pub outcome_behind : (s t : State) → StandsBy sound s → s.progress.work ≤ most_work → step f code s ≡ Goes t → outcome_from f code s ≡ outcome_from f code t
    outcome_behind s t stands within on =
        let at = ready s stands in
        let work : Worked s (Goes t) = subst (Worked s) on (worked f code s lowers within) in
        let follows : Follows z Body c s.place (Goes t) = subst (Follows z Body c s.place) on (one_step z Body c f sound.fine s at.0 at.1) in
        let fell = falls z Body code sound f s t at.0 on work.0 work.1 in
        one_more f s (Goes t) at on ∙ enough (steps_left code s - 1) t (follows.0, follows.1) work.1 (omega (arith, fell.1))
