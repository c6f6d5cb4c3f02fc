-- No instruction changes how many properties, kinds of value, variables and scenes a world tells of.
use Rattle.std.proofs.Common.{◌≡◌, sym, subst, refl, ℕ, ◌+◌, nat_lt, Bool, true, false, List, [], ◌∷◌, Option, Some, None, Ok, Err, ℤ}
use Rattle.std.proofs.Math.ListN.{length-set}
use Rattle.std.specs.Prelude.{◌&&◌, ◌+ℤ◌, ◌-ℤ◌, ◌*ℤ◌, slice_index_or, slice_set, if◌then◌else◌}
use Rattle.play_meaning.specs.Attempts.{Attempt}
use Rattle.play_meaning.specs.Changes.{make_number, make_so, make_value, may_be_put, move, put, put_at, put_if, relation_to, take_away}
use Rattle.play_meaning.specs.Instructions.{at_place}
use Rattle.play_meaning.specs.Machines.{Frame, State, Step, calculates, does, does_at, goes_to, is_true, next_object, object_at, of_one, of_two, passing_in, pushes, says, step, then_at, tried_with, turns_to, unless_abandoned, with_one, with_two}
use Rattle.play_meaning.specs.Progress.{Progress, change, most_work, spend}
use Rattle.play_meaning.specs.Saying.{description_in}
use Rattle.play_meaning.specs.Settings.{Setting, kinds_of}
use Rattle.play_meaning.specs.Values.{in_range, is_value}
use Rattle.play_meaning.specs.Worlds.{World, set_flag, set_number, set_value, set_variable}
use Rattle.play_meaning.specs.declared.action.ActionNow.{ActionNow}
use Rattle.play_meaning.specs.declared.instruction.Instruction.{Instruction}
use Rattle.play_meaning.specs.declared.instruction.Instruction.TheVariants as code
use Rattle.world_meaning.specs.Placing.{may_be_taken}
use Rattle.world_meaning.specs.declared.place.Place.{Place}
use Rattle.world_meaning.specs.declared.place.Rel.{Rel}
use Rattle.world_meaning.specs.declared.session.Abandon.TheVariants.{TooMuchWork}
use Rattle.action_stages.specs.Lasting.{IsAsLong, Lasts}

pub as_long : (w : World) → IsAsLong w w
as_long w = record { flags = refl; numbers = refl; values = refl; variables = refl; scenes = refl }

-- ---- changes

chosen : (w : World) (b : Bool) (v : World) → IsAsLong w v → IsAsLong w (if b then v else w)
chosen w true v same = same
chosen w false v same = as_long w

so_lasts : (s : Setting) (o : Option ℕ) (property : ℕ) (value : Bool) (w : World) → IsAsLong w (make_so s o property value w)
unfolding set_flag
so_lasts s None property value w = as_long w
so_lasts s (Some o) property value w =
    chosen w (s.has_flag o property) (set_flag property o value w)
    (record { flags = length-set w.flags property (slice_set (slice_index_or w.flags property []) o value); numbers = refl; values = refl; variables = refl; scenes = refl })

number_lasts : (s : Setting) (o : Option ℕ) (property : ℕ) (value : ℤ) (w : World) → IsAsLong w (make_number s o property value w)
unfolding set_number
number_lasts s None property value w = as_long w
number_lasts s (Some o) property value w =
    chosen w (s.has_number o property) (set_number property o value w)
    (record { flags = refl; numbers = length-set w.numbers property (slice_set (slice_index_or w.numbers property []) o value); values = refl; variables = refl; scenes = refl })

value_lasts : (s : Setting) (o : Option ℕ) (kind value : ℕ) (w : World) → IsAsLong w (make_value s o kind value w)
unfolding set_value
value_lasts s None kind value w = as_long w
value_lasts s (Some o) kind value w =
    chosen w (s.has_value o kind && is_value s kind value) (set_value kind o value w)
    (record { flags = refl; numbers = refl; values = length-set w.values kind (slice_set (slice_index_or w.values kind []) o value); variables = refl; scenes = refl })

put_at_lasts : (s : Setting) (o : ℕ) (to : Place) (w : World) → IsAsLong w (put_at s o to w)
put_at_lasts s o to w = chosen w (may_be_put s w o to) _ (record { flags = refl; numbers = refl; values = refl; variables = refl; scenes = refl })

put_lasts : (s : Setting) (o : Option ℕ) (relation : Rel) (holder : Option ℕ) (w : World) → IsAsLong w (put s o relation holder w)
put_lasts s None relation holder w = as_long w
put_lasts s (Some o) relation None w = as_long w
put_lasts s (Some o) relation (Some holder) w = put_at_lasts s o (record { relation = relation; holder = holder }) w

away_lasts : (s : Setting) (o : Option ℕ) (w : World) → IsAsLong w (take_away s o w)
away_lasts s None w = as_long w
away_lasts s (Some o) w = chosen w (may_be_taken (kinds_of s) o) _ (record { flags = refl; numbers = refl; values = refl; variables = refl; scenes = refl })

put_if_lasts : (s : Setting) (o holder : ℕ) (relation : Option Rel) (w : World) → IsAsLong w (put_if s o holder relation w)
put_if_lasts s o holder None w = as_long w
put_if_lasts s o holder (Some relation) w = put_at_lasts s o (record { relation = relation; holder = holder }) w

move_lasts : (s : Setting) (o holder : Option ℕ) (w : World) → IsAsLong w (move s o holder w)
move_lasts s None holder w = as_long w
move_lasts s (Some o) None w = as_long w
move_lasts s (Some o) (Some holder) w = put_if_lasts s o holder (relation_to s holder) w

-- ---- instructions

-- where trying and following do nothing
module _ (f : Frame) (s : State) (tries : (now : ActionNow) → f.inner.tries now s.progress ≡ Ok s.progress) (follows : (book : ℕ) → f.inner.follows book f.now s.progress ≡ Ok
    s.progress) where
  abbrev w : World
  w = s.progress.world

  one : (xs : List ℤ) (on : ℤ → List ℤ → Step) → ((a : ℤ) (rest : List ℤ) → Lasts w (on a rest)) → Lasts w (with_one xs on)
  one [] on lasts = tt
  one (a ∷ rest) on lasts = lasts a rest

  two : (xs : List ℤ) (on : ℤ → ℤ → List ℤ → Step) → ((a b : ℤ) (rest : List ℤ) → Lasts w (on a b rest)) → Lasts w (with_two xs on)
  two [] on lasts = tt
  two (b ∷ []) on lasts = tt
  two (b ∷ a ∷ rest) on lasts = lasts a b rest

  attempted : {A : Type 0} (attempt : Attempt A) (on : A → Step) → ((a : A) → Lasts w (on a)) → Lasts w (unless_abandoned attempt on)
  attempted (Ok a) on lasts = lasts a
  attempted (Err reason) on lasts = tt

  asked : (i : Instruction) (g : ℤ → ℤ) → Lasts w (of_one i s g)
  asked i g = one s.operands (λ a rest. pushes i s rest (g a)) (λ a rest. as_long w)

  asked_two : (i : Instruction) (g : ℤ → ℤ → ℤ) → Lasts w (of_two i s g)
  asked_two i g = two s.operands (λ a b rest. pushes i s rest (g a b)) (λ a b rest. as_long w)

  calculated : (i : Instruction) (g : ℤ → ℤ → ℤ) → Lasts w (calculates i s g)
  calculated i g = two s.operands (λ a b rest. unless_abandoned (in_range (g a b)) (pushes i s rest)) (λ a b rest. attempted (in_range (g a b)) (pushes i s rest) (λ n. as_long w))

  takes_one : (i : Instruction) (g : ℤ → World → World) → ((a : ℤ) → IsAsLong w (g a w)) → Lasts w (with_one s.operands (λ a rest. then_at i s rest (change (g a) s.progress)))
  takes_one i g lasts = one s.operands (λ a rest. then_at i s rest (change (g a) s.progress)) (λ a rest. lasts a)

  takes_two : (i : Instruction) (g : ℤ → ℤ → World → World) → ((a b : ℤ) → IsAsLong w (g a b w)) → Lasts w (with_two s.operands (λ a b rest. then_at i s rest (change (g a b) s.progress)))
  takes_two i g lasts = two s.operands (λ a b rest. then_at i s rest (change (g a b) s.progress)) (λ a b rest. lasts a b)

  done_at : (i : Instruction) (rest : List ℤ) (attempt : Attempt Progress) → attempt ≡ Ok s.progress → Lasts w (unless_abandoned attempt (then_at i s rest))
  done_at i rest attempt is = subst (λ attempt. Lasts w (unless_abandoned attempt (then_at i s rest))) (sym is) (as_long w)

  branches : (to : ℕ) (rest : List ℤ) (holds : Bool) → Lasts w (goes_to s rest (if holds then s.place + 3 else to))
  branches to rest holds = as_long w

  spent : (on : Progress → Step) → ((p : Progress) → p.world ≡ w → Lasts w (on p)) → Lasts w (unless_abandoned (spend s.progress) on)
  unfolding spend
  spent on lasts = by (nat_lt s.progress.work most_work)
    where
      by : (test : Bool) → Lasts w (unless_abandoned (if test then Ok (record s.progress { work = s.progress.work + 1 }) else Err TooMuchWork) on)
      by true = lasts (record s.progress { work = s.progress.work + 1 }) refl
      by false = tt

  turned : (k test exit : ℕ) (o : Option ℕ) → Lasts w (turns_to (code.Next k test exit) s k exit o)
  turned k test exit None = as_long w
  turned k test exit (Some o) = spent _ (λ p is. subst (λ v. IsAsLong w v) (sym is) (as_long w))

  pub lasts : (i : Instruction) → Lasts w (does f s i)
  unfolding does
  lasts (code.Num n) = as_long w
  lasts (code.Var v) = as_long w
  lasts (code.Prop p) = asked (code.Prop p) _
  lasts code.Turns = as_long w
  lasts code.Add = calculated code.Add (λ a b. a +ℤ b)
  lasts code.Sub = calculated code.Sub (λ a b. a -ℤ b)
  lasts code.Mul = calculated code.Mul (λ a b. a *ℤ b)
  lasts code.Eq = asked_two code.Eq _
  lasts code.Less = asked_two code.Less _
  lasts code.AtMost = asked_two code.AtMost _
  lasts code.Not = asked code.Not _
  lasts code.And = asked_two code.And _
  lasts code.Or = asked_two code.Or _
  lasts code.Noun = as_long w
  lasts code.Second = as_long w
  lasts code.Location = as_long w
  lasts (code.Loop k) = as_long w
  lasts (code.Flag p side) = asked (code.Flag p side) _
  lasts (code.Kind kind) = asked (code.Kind kind) _
  lasts (code.Held r) = asked_two (code.Held r) _
  lasts (code.Holder r) = asked (code.Holder r) _
  lasts code.Encloses = asked_two code.Encloses _
  lasts code.Visible = asked code.Visible _
  lasts code.Touchable = asked code.Touchable _
  lasts code.Dark = as_long w
  lasts (code.Happens scene) = as_long w
  lasts code.HasDescription = asked code.HasDescription _
  lasts code.Room = asked_two code.Room _
  lasts code.Door = asked_two code.Door _
  lasts (code.Valued kind value) = asked (code.Valued kind value) _
  lasts (code.Count k test) = attempted (passing_in f s k test) _ (λ objects. as_long w)
  lasts (code.Names naming k test) = attempted (passing_in f s k test) _ (λ objects. as_long w)
  lasts (code.Say string) = as_long w
  lasts (code.Name naming) = one s.operands _ (λ o rest. as_long w)
  lasts code.Figure = one s.operands _ (λ n rest. as_long w)
  lasts code.Description = one s.operands _ (λ o rest. attempted (description_in f.telling f.now s.progress.world (object_at o)) (says code.Description s rest) (λ text. as_long w))
  lasts (code.SetFlag p value) = takes_one (code.SetFlag p value) (λ o. make_so f.telling.setting (object_at o) p value) (λ o. so_lasts f.telling.setting (object_at o) p value w)
  lasts (code.SetProp p) = takes_two (code.SetProp p) (λ o a. make_number f.telling.setting (object_at o) p a) (λ o a. number_lasts f.telling.setting (object_at o) p a w)
  lasts (code.SetVar v) = takes_one (code.SetVar v) (λ a. set_variable v a) (λ a. record { flags = refl; numbers = refl; values = refl; variables = length-set w.variables v a; scenes = refl })
  lasts (code.PutAt r) = takes_two (code.PutAt r) (λ o holder. put f.telling.setting (object_at o) r (object_at holder)) (λ o holder. put_lasts f.telling.setting (object_at o) r
      (object_at holder) w)
  lasts code.Move = takes_two code.Move (λ o holder. move f.telling.setting (object_at o) (object_at holder)) (λ o holder. move_lasts f.telling.setting (object_at o) (object_at holder) w)
  lasts code.Away = takes_one code.Away (λ o. take_away f.telling.setting (object_at o)) (λ o. away_lasts f.telling.setting (object_at o) w)
  lasts (code.ValueName kind) = one s.operands _ (λ o rest. as_long w)
  lasts (code.SetValue kind value) = takes_one (code.SetValue kind value) (λ o. make_value f.telling.setting (object_at o) kind value) (λ o. value_lasts f.telling.setting (object_at o)
      kind value w)
  lasts (code.Try silent action) = two s.operands _ (λ noun second rest. done_at (code.Try silent action) rest (f.inner.tries (tried_with silent action noun second) s.progress) (tries
      (tried_with silent action noun second)))
  lasts (code.Follow book) = done_at (code.Follow book) s.operands (f.inner.follows book f.now s.progress) (follows book)
  lasts (code.IfZero place) = one s.operands _ (λ a rest. branches place rest (is_true a))
  lasts (code.Jump place) = as_long w
  lasts (code.Begin k) = as_long w
  lasts (code.Next k test exit) = attempted (next_object f s k test) (turns_to (code.Next k test exit) s k exit) (turned k test exit)
  lasts (code.EndStory string) = record { flags = refl; numbers = refl; values = refl; variables = refl; scenes = refl }
  lasts code.Done = as_long w
  lasts code.NoDecision = as_long w
  lasts code.Success = as_long w
  lasts code.Failure = as_long w
  lasts code.Answer = one s.operands _ (λ a rest. tt)

  pub step_lasts : (code : List Instruction) → Lasts w (step f code s)
  step_lasts code = by (at_place code s.place)
    where
      by : (there : Option Instruction) → Lasts w (does_at f s there)
      by None = tt
      by (Some i) = lasts i
