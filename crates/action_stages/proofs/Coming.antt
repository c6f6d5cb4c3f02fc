-- Where the run of a code has come to behind each instruction.
use Rattle.std.proofs.Common.{◌≡◌, pos, subst, ℕ, suc, ◌+◌, ◌≤◌, nat_lt, Bool, true, false, List, [], ◌∷◌, length, refl, ◌⊎◌, inl, inr, Option, Some, None, Ok, Err, ℤ, arith, ltb-true, sym}
use Rattle.std.specs.Prelude.{◌+ℤ◌, ◌-ℤ◌, ◌*ℤ◌, not, slice_index_or, if◌then◌else◌}
use Rattle.play_meaning.specs.Attempts.{Attempt}
use Rattle.play_meaning.specs.Instructions.{size_of}
use Rattle.play_meaning.specs.Machines.{Abandons, Answers, Frame, Goes, Leaves, State, Step, Stuck, behind, calculates, does, goes_to, is_true, next_object, object_at, object_number, of_one, of_two, passing_in, pushes, says, then_at, tried_with, truth_number, turns_to, unless_abandoned, with_one, with_two}
use Rattle.play_meaning.specs.Progress.{Progress, change, most_work, say, spend}
use Rattle.play_meaning.specs.Saying.{description_in, listed}
use Rattle.play_meaning.specs.Seeing.{has_light}
use Rattle.play_meaning.specs.SoundCodes.{way_of}
use Rattle.play_meaning.specs.Values.{in_range}
use Rattle.play_meaning.specs.Worlds.{end_with, location_of, scene_of, variable_of}
use Rattle.play_meaning.specs.declared.action.ActionNow.{ActionNow}
use Rattle.play_meaning.specs.declared.instruction.Instruction.{Instruction}
use Rattle.play_meaning.specs.declared.instruction.Instruction.TheVariants as code
use Rattle.play_meaning.specs.declared.way.Way.{Way}
use Rattle.play_meaning.specs.declared.way.Way.TheVariants.{Branch, Ends, Leap, Opens, Straight, Turns}
use Rattle.world_meaning.specs.declared.session.Abandon.TheVariants.{TooMuchWork}
use Rattle.action_stages.specs.Measures.{Gives}

-- where an instruction of this size leads from a state
abbrev pub Leads : Way → State → ℕ → State → Type 0
Leads Straight s size t = t.place ≡ s.place + size
Leads (Branch to) s size t = (t.place ≡ s.place + size) ⊎ (t.place ≡ to)
Leads (Leap to) s size t = (size ≡ 3) × (t.place ≡ to)
Leads Opens s size t = t.place ≡ s.place + size
Leads (Turns exit) s size t = (t.place ≡ exit) ⊎ ((t.place ≡ s.place + size) × (t.progress.work ≡ suc s.progress.work))
Leads Ends s size t = ⊥

-- what a unit of work costs
spent : (Held : Progress → Type 0) (p : Progress) → ((q : Progress) → q.work ≡ suc p.work → q.work ≤ most_work → Held q)
    → Gives (λ q. Held q × (q.work ≡ suc p.work)) (spend p)
unfolding spend
spent Held p holds =
    let Goal : Bool → Type 0 = λ test. nat_lt p.work most_work ≡ test → Gives (λ q. Held q × (q.work ≡ suc p.work)) (if test then Ok (record p { work = p.work + 1 }) else Err TooMuchWork) in
    elim (nat_lt p.work most_work) as Goal [
      | true ↦ λ is. (holds (record p { work = p.work + 1 }) (omega arith) (omega (arith, ltb-true p.work most_work is)), omega arith)
      | false ↦ λ is. tt
    ] refl

-- what holds where a run has come to: it held before, and behind a turn, an action that was tried and a rulebook that was followed
module _ (f : Frame) (s : State) (Held : Progress → Type 0) where
  -- the run has come where its instruction leads, and this holds of its progress; also where it has ended
  abbrev pub Came : Instruction → Step → Type 0
  Came i (Goes t) = Leads (way_of i) s (size_of i) t × Held t.progress
  Came i (Leaves flow q) = Held q
  Came i (Answers truth) = Unit {0}
  Came i (Abandons reason) = Unit {0}
  Came i Stuck = Unit {0}

  module _ (same : (p : Progress) → p.work ≡ s.progress.work → Held p) (more : (p : Progress) → p.work ≡ suc s.progress.work → p.work ≤ most_work → Held p)
      (tries : (now : ActionNow) → Gives Held (f.inner.tries now s.progress)) (follows : (book : ℕ) → Gives Held (f.inner.follows book f.now s.progress)) where
    one : (i : Instruction) (xs : List ℤ) (on : ℤ → List ℤ → Step) → ((a : ℤ) (rest : List ℤ) → Came i (on a rest)) → Came i (with_one xs on)
    one i [] on comes = tt
    one i (a ∷ rest) on comes = comes a rest

    two : (i : Instruction) (xs : List ℤ) (on : ℤ → ℤ → List ℤ → Step) → ((a b : ℤ) (rest : List ℤ) → Came i (on a b rest)) → Came i (with_two xs on)
    two i [] on comes = tt
    two i (b ∷ []) on comes = tt
    two i (b ∷ a ∷ rest) on comes = comes a b rest

    attempted : {A : Type 0} (i : Instruction) (attempt : Attempt A) (on : A → Step) → ((a : A) → Came i (on a)) → Came i (unless_abandoned attempt on)
    attempted i (Ok a) on comes = comes a
    attempted i (Err reason) on comes = tt

    attempted_so : (i : Instruction) (Given : Progress → Type 0) (attempt : Attempt Progress) (on : Progress → Step) → Gives Given attempt
        → ((p : Progress) → Given p → Came i (on p)) → Came i (unless_abandoned attempt on)
    attempted_so i Given (Ok p) on gives comes = comes p gives
    attempted_so i Given (Err reason) on gives comes = tt

    straight : (i : Instruction) → way_of i ≡ Straight → (t : State) → t.place ≡ s.place + size_of i → Held t.progress → Came i (Goes t)
    straight i way t there held = (subst (λ w. Leads w s (size_of i) t) (sym way) there, held)

    kept : Held s.progress
    kept = same s.progress refl

    pushed : (i : Instruction) → way_of i ≡ Straight → (rest : List ℤ) (n : ℤ) → Came i (pushes i s rest n)
    pushed i way rest n = straight i way (record (behind i s) { operands = n ∷ rest }) refl kept

    asked : (i : Instruction) → way_of i ≡ Straight → (g : ℤ → ℤ) → Came i (of_one i s g)
    asked i way g = one i s.operands (λ a rest. pushes i s rest (g a)) (λ a rest. pushed i way rest (g a))

    asked_two : (i : Instruction) → way_of i ≡ Straight → (g : ℤ → ℤ → ℤ) → Came i (of_two i s g)
    asked_two i way g = two i s.operands (λ a b rest. pushes i s rest (g a b)) (λ a b rest. pushed i way rest (g a b))

    calculated : (i : Instruction) → way_of i ≡ Straight → (g : ℤ → ℤ → ℤ) → Came i (calculates i s g)
    calculated i way g = two i s.operands (λ a b rest. unless_abandoned (in_range (g a b)) (pushes i s rest)) (λ a b rest. attempted i (in_range (g a b)) (pushes i s rest) (pushed i way rest))

    on_with : (i : Instruction) → way_of i ≡ Straight → (rest : List ℤ) (p : Progress) → Held p → Came i (then_at i s rest p)
    on_with i way rest p held = straight i way (record (behind i s) { operands = rest; progress = p }) refl held

    says_so : (i : Instruction) → way_of i ≡ Straight → (rest : List ℤ) (text : List ℕ) → Came i (says i s rest text)
    says_so i way rest text = on_with i way rest (say text s.progress) (same (say text s.progress) refl)

    takes_one : (i : Instruction) → way_of i ≡ Straight → (g : ℤ → Progress) → ((a : ℤ) → (g a).work ≡ s.progress.work) → Came i (with_one s.operands (λ a rest. then_at i s rest (g a)))
    takes_one i way g keeps = one i s.operands (λ a rest. then_at i s rest (g a)) (λ a rest. on_with i way rest (g a) (same (g a) (keeps a)))

    takes_two : (i : Instruction) → way_of i ≡ Straight → (g : ℤ → ℤ → Progress) → ((a b : ℤ) → (g a b).work ≡ s.progress.work)
        → Came i (with_two s.operands (λ a b rest. then_at i s rest (g a b)))
    takes_two i way g keeps = two i s.operands (λ a b rest. then_at i s rest (g a b)) (λ a b rest. on_with i way rest (g a b) (same (g a b) (keeps a b)))

    branches : (to : ℕ) (rest : List ℤ) (holds : Bool) → Came (code.IfZero to) (goes_to s rest (if holds then s.place + 3 else to))
    branches to rest true = (inl refl, kept)
    branches to rest false = (inr refl, kept)

    turned : (k test exit : ℕ) (o : Option ℕ) → Came (code.Next k test exit) (turns_to (code.Next k test exit) s k exit o)
    turned k test exit None = (inl refl, kept)
    turned k test exit (Some o) =
        attempted_so (code.Next k test exit) (λ q. Held q × (q.work ≡ suc s.progress.work)) (spend s.progress) _ (spent Held s.progress more) (λ p held. (inr (refl, held.1), held.0))

    pub came : (i : Instruction) → Came i (does f s i)
    unfolding does
    came (code.Num n) = pushed (code.Num n) refl s.operands n
    came (code.Var v) = pushed (code.Var v) refl s.operands (variable_of s.progress.world v)
    came (code.Prop p) = asked (code.Prop p) refl _
    came code.Turns = pushed code.Turns refl s.operands (pos s.progress.world.turns)
    came code.Add = calculated code.Add refl (λ a b. a +ℤ b)
    came code.Sub = calculated code.Sub refl (λ a b. a -ℤ b)
    came code.Mul = calculated code.Mul refl (λ a b. a *ℤ b)
    came code.Eq = asked_two code.Eq refl _
    came code.Less = asked_two code.Less refl _
    came code.AtMost = asked_two code.AtMost refl _
    came code.Not = asked code.Not refl _
    came code.And = asked_two code.And refl _
    came code.Or = asked_two code.Or refl _
    came code.Noun = pushed code.Noun refl s.operands (object_number f.now.noun)
    came code.Second = pushed code.Second refl s.operands (object_number f.now.second)
    came code.Location = pushed code.Location refl s.operands (object_number (location_of s.progress.world))
    came (code.Loop k) = pushed (code.Loop k) refl s.operands (object_number (slice_index_or s.loops k None))
    came (code.Flag p side) = asked (code.Flag p side) refl _
    came (code.Kind kind) = asked (code.Kind kind) refl _
    came (code.Held r) = asked_two (code.Held r) refl _
    came (code.Holder r) = asked (code.Holder r) refl _
    came code.Encloses = asked_two code.Encloses refl _
    came code.Visible = asked code.Visible refl _
    came code.Touchable = asked code.Touchable refl _
    came code.Dark = pushed code.Dark refl s.operands (truth_number (not (has_light f.telling.setting s.progress.world)))
    came (code.Happens scene) = pushed (code.Happens scene) refl s.operands (truth_number (scene_of s.progress.world scene).happens)
    came code.HasDescription = asked code.HasDescription refl _
    came code.Room = asked_two code.Room refl _
    came code.Door = asked_two code.Door refl _
    came (code.Valued kind value) = asked (code.Valued kind value) refl _
    came (code.Count k test) = attempted (code.Count k test) (passing_in f s k test) _ (λ objects. pushed (code.Count k test) refl s.operands (pos (length objects)))
    came (code.Names naming k test) = attempted (code.Names naming k test) (passing_in f s k test) _
        (λ objects. says_so (code.Names naming k test) refl s.operands (listed f.telling.setting naming objects))
    came (code.Say string) = says_so (code.Say string) refl s.operands (f.strings string)
    came (code.Name naming) = one (code.Name naming) s.operands _ (λ o rest. says_so (code.Name naming) refl rest _)
    came code.Figure = one code.Figure s.operands _ (λ n rest. says_so code.Figure refl rest _)
    came code.Description = one code.Description s.operands _
        (λ o rest. attempted code.Description (description_in f.telling f.now s.progress.world (object_at o)) (says code.Description s rest) (says_so code.Description refl rest))
    came (code.SetFlag p value) = takes_one (code.SetFlag p value) refl _ (λ a. refl)
    came (code.SetProp p) = takes_two (code.SetProp p) refl _ (λ a b. refl)
    came (code.SetVar v) = takes_one (code.SetVar v) refl _ (λ a. refl)
    came (code.PutAt r) = takes_two (code.PutAt r) refl _ (λ a b. refl)
    came code.Move = takes_two code.Move refl _ (λ a b. refl)
    came code.Away = takes_one code.Away refl _ (λ a. refl)
    came (code.ValueName kind) = one (code.ValueName kind) s.operands _ (λ o rest. says_so (code.ValueName kind) refl rest _)
    came (code.SetValue kind value) = takes_one (code.SetValue kind value) refl _ (λ a. refl)
    came (code.Try silent action) = two (code.Try silent action) s.operands _
        (λ noun second rest. attempted_so (code.Try silent action) Held (f.inner.tries (tried_with silent action noun second) s.progress) (then_at (code.Try silent action) s rest)
        (tries (tried_with silent action noun second)) (on_with (code.Try silent action) refl rest))
    came (code.Follow book) =
        attempted_so (code.Follow book) Held (f.inner.follows book f.now s.progress) (then_at (code.Follow book) s s.operands) (follows book) (on_with (code.Follow book) refl s.operands)
    came (code.IfZero place) = one (code.IfZero place) s.operands _ (λ a rest. branches place rest (is_true a))
    came (code.Jump place) = ((refl, refl), kept)
    came (code.Begin k) = (refl, kept)
    came (code.Next k test exit) = attempted (code.Next k test exit) (next_object f s k test) (turns_to (code.Next k test exit) s k exit) (turned k test exit)
    came (code.EndStory string) = on_with (code.EndStory string) refl s.operands (change (end_with (f.strings string)) s.progress) (same _ refl)
    came code.Done = kept
    came code.NoDecision = kept
    came code.Success = kept
    came code.Failure = kept
    came code.Answer = one code.Answer s.operands _ (λ a rest. tt)
