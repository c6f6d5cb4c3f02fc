-- Runs of sound codes: each instruction finds its operands, and the code that may only go on comes to its end.
use Rattle.std.proofs.Common.{◌≡◌, ◌∙◌, ◌++◌, pos, ap, sym, subst, ℕ, zero, suc, ◌+◌, ◌-◌, ◌<◌, ◌≤◌, Bool, true, false, List, [], ◌∷◌, length, refl, ◌⊎◌, inl, inr, Option, Some, None, Ok, Err, ℤ, arith}
use Rattle.std.specs.Prelude.{◌||◌, ◌+ℤ◌, ◌-ℤ◌, ◌*ℤ◌, not, slice_index_or, take, if◌then◌else◌}
use Rattle.play_meaning.specs.Attempts.{Attempt}
use Rattle.play_meaning.specs.Codes.{start_at}
use Rattle.play_meaning.specs.Instructions as code
use Rattle.play_meaning.specs.Instructions.{Instruction, at_place, size_of, sizes}
use Rattle.play_meaning.specs.Machines.{Abandons, Answers, Frame, Goes, Leaves, State, Step, Stuck, behind, calculates, goes_to, next_object, object_at, object_number, truth_number, passing_in, says, tried_with, turns_to, with_object, of_one, of_two, pushes, then_at, does, does_at, goes_further, is_true, run, step, unless_abandoned, with_one, with_two}
use Rattle.play_meaning.specs.Operands.{Body, Counts, Describing, Number, NumberOrObject, is_from_to, is_object, Sort, Test, Use, gives, may_hold, operands_behind, takes, taken_from}
use Rattle.play_meaning.specs.SoundCodes.{Branch, Leap, LeapsTo, Opens, Straight, Turns, IsFine, IsPlace, IsSound, Labelled, LeadsTo, OpenLoop, Ways, bare, way_of}
use Rattle.play_meaning.specs.Progress.{Progress, change, say, spend}
use Rattle.play_meaning.specs.Saying.{description_in, listed}
use Rattle.play_meaning.specs.Seeing.{has_light}
use Rattle.play_meaning.specs.Stands.{is_body}
use Rattle.play_meaning.specs.SoundRuns.{AlwaysAnswers, AlwaysEnds, IsAbandoned, NeverStuck}
use Rattle.play_meaning.specs.Values.{in_range}
use Rattle.play_meaning.specs.Worlds.{end_with, location_of, scene_of, variable_of}
use Rattle.play_meaning.specs.declared.outcome.Flow.{Flow}
use Rattle.play_meaning.proofs.Standing.{size_is}
use Rattle.play_meaning.proofs.OperandCounts.{below_many, count_given, eq_many, inside, moves_by}

-- ---- roles

abbrev pub is_test : Use → Bool
is_test (Test loops) = true
is_test Describing = false
is_test Body = false

pub opens_in_bodies : (role : Use) (k : ℕ) → may_hold role (code.Begin k) ≡ true → is_body role ≡ true
unfolding may_hold
opens_in_bodies (Test loops) k may = absurd cc
opens_in_bodies Describing k may = absurd cc
opens_in_bodies Body k may = refl

answers_in_tests : (role : Use) → may_hold role code.Answer ≡ true → is_test role ≡ true
unfolding may_hold
answers_in_tests (Test loops) may = refl
answers_in_tests Describing may = absurd cc
answers_in_tests Body may = absurd cc

-- no test holds an instruction whose byte is neither up to that of `Count` nor that of `Answer`
leaves_outside_tests : (role : Use) (i : Instruction) → (is_from_to 0x01 0x20 i || is_from_to 0x3B 0x3B i) ≡ false → may_hold role i ≡ true → is_test role ≡ false
unfolding may_hold
leaves_outside_tests (Test loops) i other may = absurd cc
leaves_outside_tests Describing i other may = refl
leaves_outside_tests Body i other may = refl

num_gives : (z : Counts) (n : ℤ) → count_given (gives z (code.Num n)) ≡ 1
num_gives z n = by_bound (is_object z n)
  where
    by_bound : (b : Bool) → count_given (if b then Some NumberOrObject else Some Number) ≡ 1
    by_bound true = refl
    by_bound false = refl

module _ (z : Counts) (role : Use) (c : Labelled) where
  abbrev Fine : State → Instruction → Type 0
  Fine s i = IsFine z role c s.place i

  -- as many operands as the label says
  abbrev Many : State → Type 0
  Many s = length s.operands ≡ length (c.at s.place).operands

  -- a code that is no body goes further on, and opens no loop
  abbrev Forward : ℕ → State → Type 0
  Forward q s = is_body role ≡ false → (c.at q).loops ≡ [] → (q < s.place) × ((c.at s.place).loops ≡ [])

  -- what comes of the instruction at a place
  abbrev pub Follows : ℕ → Step → Type 0
  Follows q (Goes s) = IsPlace c s.place × Many s × Forward q s
  Follows q (Leaves flow p) = is_test role ≡ false
  Follows q (Answers truth) = is_test role ≡ true
  Follows q (Abandons reason) = Unit {0}
  Follows q Stuck = ⊥

  -- ---- what goes on behind its instruction

  goes_on : (s t : State) (i : Instruction) (left : List Sort) → LeadsTo c (s.place + size_of i) (record { operands = left; loops = (c.at s.place).loops })
      → t.place ≡ s.place + size_of i → length t.operands ≡ length left → Follows s.place (Goes t)
  goes_on s t i left leads at many =
      let label = ap c.at at ∙ leads.1 in
      (subst (λ q. IsPlace c q) (sym at) leads.0, many ∙ sym (ap (λ l. length l.operands) label), λ nobody outside. (omega (arith, at, size_is i), ap (λ l. l.loops) label ∙ outside))

  -- it takes so many operands, and whatever state stands behind it with so many over the rest follows
  abbrev Room : State → Instruction → ℕ → ℕ → Type 0
  Room s i taken given = (stays : ℕ) × (length s.operands ≡ taken + stays)
      × ((t : State) → t.place ≡ s.place + size_of i → length t.operands ≡ given + stays → Follows s.place (Goes t))

  room : (s : State) (i : Instruction) (taken given : ℕ) → Fine s i → Many s → way_of i ≡ Straight → count_given (gives z i) ≡ given
      → ((ops stays : List Sort) → taken_from i ops ≡ Some stays → length ops ≡ taken + length stays) → Room s i taken given
  unfolding operands_behind
  room s i taken given fine many way gives_so counts =
      let ops = (c.at s.place).operands in
      let moved = moves_by (gives z i) taken ops fine.left (taken_from i ops) (counts ops) fine.typed in
      let leads : LeadsTo c (s.place + size_of i) (record { operands = fine.left; loops = (c.at s.place).loops })
      = subst (λ w. Ways w c s.place (s.place + size_of i) fine.left (c.at s.place).loops) way fine.ways in
      (moved.0, many ∙ moved.1, λ t at long. goes_on s t i fine.left leads at (omega (arith, long, moved.2, gives_so)))

  one_there : (q n : ℕ) (xs : List ℤ) (more : ℤ → List ℤ → Step) → length xs ≡ 1 + n
      → ((a : ℤ) (rest : List ℤ) → length rest ≡ n → Follows q (more a rest)) → Follows q (with_one xs more)
  one_there q n [] more long on = absurd (omega (arith, long))
  one_there q n (a ∷ rest) more long on = on a rest (omega (arith, long))

  two_there : (q n : ℕ) (xs : List ℤ) (more : ℤ → ℤ → List ℤ → Step) → length xs ≡ 2 + n
      → ((a b : ℤ) (rest : List ℤ) → length rest ≡ n → Follows q (more a b rest)) → Follows q (with_two xs more)
  two_there q n [] more long on = absurd (omega (arith, long))
  two_there q n (b ∷ []) more long on = absurd (omega (arith, long))
  two_there q n (b ∷ a ∷ rest) more long on = on a b rest (omega (arith, long))

  or_abandons : {A : Type 0} (q : ℕ) (attempt : Attempt A) (more : A → Step) → ((a : A) → Follows q (more a)) → Follows q (unless_abandoned attempt more)
  or_abandons q (Ok a) more on = on a
  or_abandons q (Err reason) more on = tt

  -- ---- by what they take and give

  module _ (s : State) (i : Instruction) where
    pushed : (n : ℤ) → Room s i 0 1 → Follows s.place (pushes i s s.operands n)
    pushed n r = r.2 (record (behind i s) { operands = n ∷ s.operands }) refl (omega (arith, r.1))

    asked : (g : ℤ → ℤ) → Room s i 1 1 → Follows s.place (of_one i s g)
    asked g r = one_there s.place r.0 s.operands (λ a rest. pushes i s rest (g a)) r.1
        (λ a rest e. r.2 (record (behind i s) { operands = g a ∷ rest }) refl (omega (arith, e)))

    asked_two : (g : ℤ → ℤ → ℤ) → Room s i 2 1 → Follows s.place (of_two i s g)
    asked_two g r = two_there s.place r.0 s.operands (λ a b rest. pushes i s rest (g a b)) r.1
        (λ a b rest e. r.2 (record (behind i s) { operands = g a b ∷ rest }) refl (omega (arith, e)))

    calculated : (g : ℤ → ℤ → ℤ) → Room s i 2 1 → Follows s.place (calculates i s g)
    calculated g r = two_there s.place r.0 s.operands (λ a b rest. unless_abandoned (in_range (g a b)) (pushes i s rest)) r.1
        (λ a b rest e. or_abandons s.place (in_range (g a b)) (pushes i s rest) (λ n. r.2 (record (behind i s) { operands = n ∷ rest }) refl (omega (arith, e))))

    stays_on : (p : Progress) → Room s i 0 0 → Follows s.place (then_at i s s.operands p)
    stays_on p r = r.2 (record (behind i s) { operands = s.operands; progress = p }) refl (omega (arith, r.1))

    takes_one : (g : ℤ → Progress) → Room s i 1 0 → Follows s.place (with_one s.operands (λ a rest. then_at i s rest (g a)))
    takes_one g r = one_there s.place r.0 s.operands (λ a rest. then_at i s rest (g a)) r.1
        (λ a rest e. r.2 (record (behind i s) { operands = rest; progress = g a }) refl (omega (arith, e)))

    takes_two : (g : ℤ → ℤ → Progress) → Room s i 2 0 → Follows s.place (with_two s.operands (λ a b rest. then_at i s rest (g a b)))
    takes_two g r = two_there s.place r.0 s.operands (λ a b rest. then_at i s rest (g a b)) r.1
        (λ a b rest e. r.2 (record (behind i s) { operands = rest; progress = g a b }) refl (omega (arith, e)))

  -- ---- ways that aren't straight

  bare_place : (q to : ℕ) (t : State) (loops : List OpenLoop) → LeadsTo c to (bare loops) → t.place ≡ to → t.operands ≡ []
      → (is_body role ≡ false → (c.at q).loops ≡ [] → (q < to) × (loops ≡ [])) → Follows q (Goes t)
  bare_place q to t loops leads at none ahead =
      let label = ap c.at at ∙ leads.1 in (
        subst (λ r. IsPlace c r) (sym at) leads.0,
        ap length none ∙ sym (ap (λ l. length l.operands) label),
        λ nobody outside. (omega (arith, at, (ahead nobody outside).0), ap (λ l. l.loops) label ∙ (ahead nobody outside).1),
      )

  empty : (xs : List ℤ) → length xs ≡ 0 → xs ≡ []
  empty [] none = refl
  empty (x ∷ xs) none = absurd (omega (arith, none))

  branches : (s : State) (to : ℕ) (left : List Sort) → Ways (Branch to) c s.place (s.place + 3) left (c.at s.place).loops → (rest : List ℤ) → length rest ≡ 0
      → (holds : Bool) → Follows s.place (goes_to s rest (if holds then s.place + 3 else to))
  branches s to left ways rest none true =
      bare_place s.place (s.place + 3) (record s { place = s.place + 3; operands = rest }) (c.at s.place).loops ways.1.1.1 refl (empty rest none) (λ nobody outside. (omega arith, outside))
  branches s to left ways rest none false =
      bare_place s.place to (record s { place = to; operands = rest }) (c.at s.place).loops ways.1.1.0 refl (empty rest none) (λ nobody outside. (ways.1.0, outside))

  no_loop : {A : Type 0} {loop : OpenLoop} (loops outer : List OpenLoop) → loops ≡ [] → loops ≡ loop ∷ outer → A
  no_loop loops outer none some = absurd cc

  not_both : {A : Type 0} (b : Bool) → b ≡ false → b ≡ true → A
  not_both b nobody body = absurd cc

  -- outside every loop there is no way back
  ahead : (place next to : ℕ) (loops : List OpenLoop) → LeapsTo c place next to loops → loops ≡ [] → place < to
  ahead place next to loops (leads, inl on) outside = on.0
  ahead place next to loops (leads, inr back) outside = no_loop loops back.1.0 outside back.1.1.0

  leaps : (s : State) (to : ℕ) (left : List Sort) → length s.operands ≡ 0 → Ways (Leap to) c s.place (s.place + 3) left (c.at s.place).loops → Follows s.place (goes_to s s.operands to)
  leaps s to left none ways =
      bare_place s.place to (record s { place = to }) (c.at s.place).loops ways.1.0 refl (empty s.operands none)
      (λ nobody outside. (ahead s.place (s.place + 3) to (c.at s.place).loops ways.1 outside, outside))

  opens : (s : State) (k : ℕ) (left : List Sort) → length s.operands ≡ 0 → Ways Opens c s.place (s.place + 2) left (c.at s.place).loops → may_hold role (code.Begin k) ≡ true
      → (loops : List (Option ℕ)) → Follows s.place (Goes (record (behind (code.Begin k) s) { loops = loops }))
  opens s k left none ways allowed loops =
      bare_place s.place (s.place + 2) (record (behind (code.Begin k) s) { loops = loops }) _ ((ways.1.0, ways.1.1.1.0), ways.1.1.1.1.1) refl (empty s.operands none)
      (λ nobody outside. not_both (is_body role) nobody (opens_in_bodies role k allowed))

  turned : (s : State) (k test exit : ℕ) (left : List Sort) → length s.operands ≡ 0 → Ways (Turns exit) c s.place (s.place + 6) left (c.at s.place).loops
      → (o : Option ℕ) → Follows s.place (turns_to (code.Next k test exit) s k exit o)
  turned s k test exit left none ways None =
      bare_place s.place exit (record s { place = exit; loops = take k s.loops }) ways.1.0 ways.1.1.1.0 refl (empty s.operands none)
      (λ nobody outside. no_loop (c.at s.place).loops ways.1.0 outside ways.1.1.0)
  turned s k test exit left none ways (Some o) =
      or_abandons s.place (spend s.progress) _ (λ p. bare_place s.place (s.place + 6) (record (behind (code.Next k test exit) s) { loops = with_object s.loops k o; progress = p })
      (c.at s.place).loops ways.1.1.1.1 refl (empty s.operands none) (λ nobody outside. no_loop (c.at s.place).loops ways.1.0 outside ways.1.1.0))

  -- as many operands as it takes over those that stay, where it gives none
  moved_by : (s : State) (i : Instruction) (taken : ℕ) (fine : Fine s i) → count_given (gives z i) ≡ 0
      → ((ops stays : List Sort) → taken_from i ops ≡ Some stays → length ops ≡ taken + length stays)
      → length (c.at s.place).operands ≡ taken + length fine.left
  unfolding operands_behind
  moved_by s i taken fine none counts =
      let ops = (c.at s.place).operands in
      let moved = moves_by (gives z i) taken ops fine.left (taken_from i ops) (counts ops) fine.typed in
      omega (arith, moved.1, moved.2, none)

  module _ (f : Frame) where
    keeps : (s : State) (i : Instruction) → Fine s i → Many s → Follows s.place (does f s i)
    unfolding does
    keeps s (code.Num n) fine many = pushed s (code.Num n) n (room s (code.Num n) 0 1 fine many refl (num_gives z n) (below_many []))
    keeps s (code.Var v) fine many = pushed s (code.Var v) (variable_of s.progress.world v) (room s (code.Var v) 0 1 fine many refl refl (below_many []))
    keeps s (code.Prop p) fine many = asked s (code.Prop p) _ (room s (code.Prop p) 1 1 fine many refl refl (below_many (takes (code.Prop p))))
    keeps s code.Turns fine many = pushed s code.Turns (pos s.progress.world.turns) (room s code.Turns 0 1 fine many refl refl (below_many []))
    keeps s code.Add fine many = calculated s code.Add (λ a b. a +ℤ b) (room s code.Add 2 1 fine many refl refl (below_many (takes code.Add)))
    keeps s code.Sub fine many = calculated s code.Sub (λ a b. a -ℤ b) (room s code.Sub 2 1 fine many refl refl (below_many (takes code.Sub)))
    keeps s code.Mul fine many = calculated s code.Mul (λ a b. a *ℤ b) (room s code.Mul 2 1 fine many refl refl (below_many (takes code.Mul)))
    keeps s code.Eq fine many = asked_two s code.Eq _ (room s code.Eq 2 1 fine many refl refl eq_many)
    keeps s code.Less fine many = asked_two s code.Less _ (room s code.Less 2 1 fine many refl refl (below_many (takes code.Less)))
    keeps s code.AtMost fine many = asked_two s code.AtMost _ (room s code.AtMost 2 1 fine many refl refl (below_many (takes code.AtMost)))
    keeps s code.Not fine many = asked s code.Not _ (room s code.Not 1 1 fine many refl refl (below_many (takes code.Not)))
    keeps s code.And fine many = asked_two s code.And _ (room s code.And 2 1 fine many refl refl (below_many (takes code.And)))
    keeps s code.Or fine many = asked_two s code.Or _ (room s code.Or 2 1 fine many refl refl (below_many (takes code.Or)))
    keeps s code.Noun fine many = pushed s code.Noun (object_number f.now.noun) (room s code.Noun 0 1 fine many refl refl (below_many []))
    keeps s code.Second fine many = pushed s code.Second (object_number f.now.second) (room s code.Second 0 1 fine many refl refl (below_many []))
    keeps s code.Location fine many = pushed s code.Location (object_number (location_of s.progress.world)) (room s code.Location 0 1 fine many refl refl (below_many []))
    keeps s (code.Loop k) fine many = pushed s (code.Loop k) (object_number (slice_index_or s.loops k None)) (room s (code.Loop k) 0 1 fine many refl refl (below_many []))
    keeps s (code.Flag p side) fine many = asked s (code.Flag p side) _ (room s (code.Flag p side) 1 1 fine many refl refl (below_many (takes (code.Flag p side))))
    keeps s (code.Kind kind) fine many = asked s (code.Kind kind) _ (room s (code.Kind kind) 1 1 fine many refl refl (below_many (takes (code.Kind kind))))
    keeps s (code.Held r) fine many = asked_two s (code.Held r) _ (room s (code.Held r) 2 1 fine many refl refl (below_many (takes (code.Held r))))
    keeps s (code.Holder r) fine many = asked s (code.Holder r) _ (room s (code.Holder r) 1 1 fine many refl refl (below_many (takes (code.Holder r))))
    keeps s code.Encloses fine many = asked_two s code.Encloses _ (room s code.Encloses 2 1 fine many refl refl (below_many (takes code.Encloses)))
    keeps s code.Visible fine many = asked s code.Visible _ (room s code.Visible 1 1 fine many refl refl (below_many (takes code.Visible)))
    keeps s code.Touchable fine many = asked s code.Touchable _ (room s code.Touchable 1 1 fine many refl refl (below_many (takes code.Touchable)))
    keeps s code.Dark fine many = pushed s code.Dark (truth_number (not (has_light f.telling.setting s.progress.world))) (room s code.Dark 0 1 fine many refl refl (below_many []))
    keeps s (code.Happens scene) fine many =
        pushed s (code.Happens scene) (truth_number (scene_of s.progress.world scene).happens) (room s (code.Happens scene) 0 1 fine many refl refl (below_many []))
    keeps s code.HasDescription fine many = asked s code.HasDescription _ (room s code.HasDescription 1 1 fine many refl refl (below_many (takes code.HasDescription)))
    keeps s code.Room fine many = asked_two s code.Room _ (room s code.Room 2 1 fine many refl refl (below_many (takes code.Room)))
    keeps s code.Door fine many = asked_two s code.Door _ (room s code.Door 2 1 fine many refl refl (below_many (takes code.Door)))
    keeps s (code.Valued n value) fine many = asked s (code.Valued n value) _ (room s (code.Valued n value) 1 1 fine many refl refl (below_many (takes (code.Valued n value))))
    keeps s (code.Count k test) fine many =
        or_abandons s.place (passing_in f s k test) _ (λ objects. pushed s (code.Count k test) (pos (length objects)) (room s (code.Count k test) 0 1 fine many refl refl (below_many [])))
    keeps s (code.Names naming k test) fine many =
        or_abandons s.place (passing_in f s k test) _
        (λ objects. stays_on s (code.Names naming k test) (say (listed f.telling.setting naming objects) s.progress) (room s (code.Names naming k test) 0 0 fine many refl refl (below_many [])))
    keeps s (code.Say string) fine many = stays_on s (code.Say string) (say (f.strings string) s.progress) (room s (code.Say string) 0 0 fine many refl refl (below_many []))
    keeps s (code.Name naming) fine many = takes_one s (code.Name naming) _ (room s (code.Name naming) 1 0 fine many refl refl (below_many (takes (code.Name naming))))
    keeps s code.Figure fine many = takes_one s code.Figure _ (room s code.Figure 1 0 fine many refl refl (below_many (takes code.Figure)))
    keeps s code.Description fine many =
        let r = room s code.Description 1 0 fine many refl refl (below_many (takes code.Description)) in
        one_there s.place r.0 s.operands _ r.1 (λ o rest e. or_abandons s.place (description_in f.telling f.now s.progress.world (object_at o)) (says code.Description s rest)
        (λ text. r.2 (record (behind code.Description s) { operands = rest; progress = say text s.progress }) refl (omega (arith, e))))
    keeps s (code.SetFlag p value) fine many = takes_one s (code.SetFlag p value) _ (room s (code.SetFlag p value) 1 0 fine many refl refl (below_many (takes (code.SetFlag p value))))
    keeps s (code.SetProp p) fine many = takes_two s (code.SetProp p) _ (room s (code.SetProp p) 2 0 fine many refl refl (below_many (takes (code.SetProp p))))
    keeps s (code.SetVar v) fine many = takes_one s (code.SetVar v) _ (room s (code.SetVar v) 1 0 fine many refl refl (below_many (takes (code.SetVar v))))
    keeps s (code.PutAt r) fine many = takes_two s (code.PutAt r) _ (room s (code.PutAt r) 2 0 fine many refl refl (below_many (takes (code.PutAt r))))
    keeps s code.Move fine many = takes_two s code.Move _ (room s code.Move 2 0 fine many refl refl (below_many (takes code.Move)))
    keeps s code.Away fine many = takes_one s code.Away _ (room s code.Away 1 0 fine many refl refl (below_many (takes code.Away)))
    keeps s (code.ValueName n) fine many = takes_one s (code.ValueName n) _ (room s (code.ValueName n) 1 0 fine many refl refl (below_many (takes (code.ValueName n))))
    keeps s (code.SetValue n value) fine many = takes_one s (code.SetValue n value) _ (room s (code.SetValue n value) 1 0 fine many refl refl (below_many (takes (code.SetValue n value))))
    keeps s (code.Try silent action) fine many =
        let i = code.Try silent action in
        let r = room s i 2 0 fine many refl refl (below_many (takes i)) in
        two_there s.place r.0 s.operands _ r.1 (λ noun second rest e. or_abandons s.place (f.inner.tries (tried_with silent action noun second) s.progress) (then_at i s rest)
        (λ p. r.2 (record (behind i s) { operands = rest; progress = p }) refl (omega (arith, e))))
    keeps s (code.Follow book) fine many =
        or_abandons s.place (f.inner.follows book f.now s.progress) _ (λ p. stays_on s (code.Follow book) p (room s (code.Follow book) 0 0 fine many refl refl (below_many [])))
    keeps s (code.IfZero place) fine many =
        let r = moved_by s (code.IfZero place) 1 fine refl (below_many (takes (code.IfZero place))) in
        one_there s.place 0 s.operands (λ a rest. goes_to s rest (if is_true a then s.place + 3 else place)) (omega (arith, many, r, ap length fine.ways.0))
        (λ a rest e. branches s place fine.left fine.ways rest e (is_true a))
    keeps s (code.Jump place) fine many =
        leaps s place fine.left (omega (arith, many, moved_by s (code.Jump place) 0 fine refl (below_many []), ap length fine.ways.0)) fine.ways
    keeps s (code.Begin k) fine many =
        opens s k fine.left (omega (arith, many, moved_by s (code.Begin k) 0 fine refl (below_many []), ap length fine.ways.0)) fine.ways fine.allowed (s.loops ++ None ∷ [])
    keeps s (code.Next k test exit) fine many =
        or_abandons s.place (next_object f s k test) (turns_to (code.Next k test exit) s k exit)
        (turned s k test exit fine.left (omega (arith, many, moved_by s (code.Next k test exit) 0 fine refl (below_many []), ap length fine.ways.0)) fine.ways)
    keeps s (code.EndStory string) fine many =
        stays_on s (code.EndStory string) (change (end_with (f.strings string)) s.progress) (room s (code.EndStory string) 0 0 fine many refl refl (below_many []))
    keeps s code.Done fine many = leaves_outside_tests role code.Done refl fine.allowed
    keeps s code.NoDecision fine many = leaves_outside_tests role code.NoDecision refl fine.allowed
    keeps s code.Success fine many = leaves_outside_tests role code.Success refl fine.allowed
    keeps s code.Failure fine many = leaves_outside_tests role code.Failure refl fine.allowed
    keeps s code.Answer fine many =
        let r = moved_by s code.Answer 1 fine refl (below_many (takes code.Answer)) in
        one_there s.place (length fine.left) s.operands (λ a rest. Answers (is_true a)) (omega (arith, many, r)) (λ a rest e. answers_in_tests role fine.allowed)

    -- ---- runs

    abbrev IsFineAll : Type 0
    IsFineAll = (place : ℕ) (i : Instruction) → at_place c.code place ≡ Some i → IsFine z role c place i

    pub one_step : IsFineAll → (s : State) → IsPlace c s.place → Many s → Follows s.place (step f c.code s)
    one_step fine s there many = subst (λ o. Follows s.place (does_at f s o)) (sym there.1) (keeps s there.0 (fine s.place there.0 there.1) many)

    abbrev pub Unstuck : Step → Type 0
    Unstuck Stuck = ⊥
    Unstuck _ = Unit {0}

    pub never_stuck : IsFineAll → (n : ℕ) (s : State) → IsPlace c s.place → Many s → Unstuck (run f c.code n s)
    unfolding run
    never_stuck fine zero s there many = tt
    never_stuck fine (suc n) s there many = further (step f c.code s) (one_step fine s there many) (never_stuck fine n)
      where
        further : (st : Step) → Follows s.place st → ((t : State) → IsPlace c t.place → Many t → Unstuck (run f c.code n t)) → Unstuck (goes_further (run f c.code n) st)
        further (Goes t) follows more = more t follows.0 follows.1
        further (Leaves flow p) follows more = tt
        further (Answers truth) follows more = tt
        further (Abandons reason) follows more = tt
        further Stuck follows more = follows

    -- what is no body ends by going on
    abbrev pub Ends : Step → Type 0
    Ends (Goes s) = ⊥
    Ends (Leaves flow p) = is_test role ≡ false
    Ends (Answers truth) = is_test role ≡ true
    Ends (Abandons reason) = Unit {0}
    Ends Stuck = ⊥

    pub comes_to_its_end : IsFineAll → is_body role ≡ false → (n : ℕ) (s : State) → IsPlace c s.place → Many s → (c.at s.place).loops ≡ [] → sizes c.code ≤ s.place + n
        → Ends (run f c.code n s)
    unfolding run
    comes_to_its_end fine nobody zero s there many outside near = absurd (omega (arith, near, inside c.code s.place there.0 there.1))
    comes_to_its_end fine nobody (suc n) s there many outside near = further (step f c.code s) (one_step fine s there many) (comes_to_its_end fine nobody n)
      where
        further : (st : Step) → Follows s.place st
            → ((t : State) → IsPlace c t.place → Many t → (c.at t.place).loops ≡ [] → sizes c.code ≤ t.place + n → Ends (run f c.code n t))
            → Ends (goes_further (run f c.code n) st)
        further (Goes t) follows more =
            let on = follows.2 nobody outside in
            more t follows.0 follows.1 on.1 (omega (arith, near, on.0))
        further (Leaves flow p) follows more = follows
        further (Answers truth) follows more = follows
        further (Abandons reason) follows more = tt
        further Stuck follows more = follows

-- ---- sound codes

abbrev pub labelled : {z : Counts} {role : Use} {code : List Instruction} → IsSound z role code → Labelled
labelled {z} {role} {code} sound = record { code = code; at = sound.at }

pub sound_is_unstuck : (z : Counts) (role : Use) (code : List Instruction) → IsSound z role code → NeverStuck code
sound_is_unstuck z role code sound f loops p n e =
    let c = labelled sound in
    subst (λ st. Unstuck z role c f st) e (never_stuck z role c f sound.fine n (start_at loops p) sound.starts.0 (sym (ap (λ l. length l.operands) sound.starts.1)))

ends : (z : Counts) (role : Use) (code : List Instruction) (sound : IsSound z role code) → is_body role ≡ false → (f : Frame) (loops : List (Option ℕ)) (p : Progress)
    → Ends z role (labelled sound) f (run f code (sizes code) (start_at loops p))
ends z role code sound nobody f loops p =
    comes_to_its_end z role (labelled sound) f sound.fine nobody (sizes code) (start_at loops p) sound.starts.0 (sym (ap (λ l. length l.operands) sound.starts.1))
    (ap (λ l. l.loops) sound.starts.1) (omega arith)

pub sound_tests_answer : (z : Counts) (loops : ℕ) (code : List Instruction) → IsSound z (Test loops) code → AlwaysAnswers code
sound_tests_answer z around code sound f loops p = answers (run f code (sizes code) (start_at loops p)) (ends z (Test around) code sound refl f loops p)
  where
    answers : (st : Step) → Ends z (Test around) (labelled sound) f st → ((truth : Bool) × (st ≡ Answers truth)) ⊎ IsAbandoned st
    answers (Goes s) end = absurd end
    answers (Leaves flow q) end = absurd cc
    answers (Answers truth) end = inl (truth, refl)
    answers (Abandons reason) end = inr (reason, refl)
    answers Stuck end = absurd end

pub sound_descriptions_end : (z : Counts) (code : List Instruction) → IsSound z Describing code → AlwaysEnds code
sound_descriptions_end z code sound f loops p = leaves_off (run f code (sizes code) (start_at loops p)) (ends z Describing code sound refl f loops p)
  where
    leaves_off : (st : Step) → Ends z Describing (labelled sound) f st → ((flow : Flow) × ((q : Progress) × (st ≡ Leaves flow q))) ⊎ IsAbandoned st
    leaves_off (Goes s) end = absurd end
    leaves_off (Leaves flow q) end = inl (flow, (q, refl))
    leaves_off (Answers truth) end = absurd cc
    leaves_off (Abandons reason) end = inr (reason, refl)
    leaves_off Stuck end = absurd end
