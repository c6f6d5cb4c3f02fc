-- Where a sound code says what stands at a place, runs come to no other states.
use Rattle.std.proofs.Common.{◌≡◌, ◌∙◌, ◌++◌, pos, negsuc, ap, sym, subst, ℕ, zero, suc, ◌+◌, ◌<◌, ◌≤◌, Bool, true, false, List, [], ◌∷◌, length, length-append, length-drop, refl, ◌⊎◌, inl, inr, Option, Some, None, Ok, Err, ℤ, arith}
use Rattle.std.specs.Prelude.{◌==◌, ◌+ℤ◌, ◌-ℤ◌, ◌*ℤ◌, is_some, take, drop, nat_lt, if◌then◌else◌}
use Rattle.std.proofs.lemmas.Bool.{and_parts, eqb-true, lt-ltb, ltb-true}
use Rattle.play_meaning.specs.Attempts.{Attempt}
use Rattle.world_meaning.specs.declared.session.Abandon.{Abandon}
use Rattle.play_meaning.specs.Codes.{start_at}
use Rattle.play_meaning.specs.Instructions as code
use Rattle.play_meaning.specs.Instructions.{Instruction, at_place, size_of, sizes}
use Rattle.play_meaning.specs.Machines.{Abandons, Answers, Frame, Goes, State, Step, Stuck, behind, calculates, does, does_at, goes_to, is_true, next_object, object_at, of_one, of_two, passing_in, pushes, then_at, tried_with, turns_to, unless_abandoned, with_object, with_one, with_two}
use Rattle.play_meaning.specs.Operands.{Counts, Number, NumberOrObject, Object, Sort, Truth, Use, gives, is_object, names_what_is_there, operands_behind, taken_from, with_given}
use Rattle.play_meaning.specs.Progress.{Progress, change, say, spend}
use Rattle.play_meaning.specs.Saying.{description_in, listed}
use Rattle.play_meaning.specs.SoundCodes.{IsFine, IsSound, Labelled, LeadsTo, OpenLoop, Straight, Ways, bare, loops_around, way_of}
use Rattle.play_meaning.specs.Stands.{AreOf, Finds, GivesObject, HasOnTop, Serves, StandsBy, is_body, is_object_number, taken_by}
use Rattle.play_meaning.specs.Values.{in_range}
use Rattle.play_meaning.specs.Worlds.{end_with}
use Rattle.play_meaning.proofs.OperandCounts.{inside}
use Rattle.play_meaning.proofs.Unstuck.{Follows, one_step, opens_in_bodies}
use Rattle.play_meaning.proofs.Served.{Left, Served, TakesOff, given_on, if_both, is_told, many_of, off, served_by}

-- ---- what comes of an instruction

one : (P : Step → Type 0) (xs : List ℤ) (more : ℤ → List ℤ → Step) → P Stuck → ((a : ℤ) (rest : List ℤ) → xs ≡ a ∷ rest → P (more a rest)) → P (with_one xs more)
one P [] more stuck on = stuck
one P (a ∷ rest) more stuck on = on a rest refl

two : (P : Step → Type 0) (xs : List ℤ) (more : ℤ → ℤ → List ℤ → Step) → P Stuck → ((a b : ℤ) (rest : List ℤ) → xs ≡ b ∷ a ∷ rest → P (more a b rest)) → P (with_two xs more)
two P [] more stuck on = stuck
two P (b ∷ []) more stuck on = stuck
two P (b ∷ a ∷ rest) more stuck on = on a b rest refl

attempted : {A : Type 0} (P : Step → Type 0) (attempt : Attempt A) (more : A → Step) → ((reason : Abandon) → P (Abandons reason)) → ((a : A) → P (more a)) → P (unless_abandoned attempt more)
attempted P (Ok a) more broken on = on a
attempted P (Err reason) more broken on = broken reason

module _ (f : Frame) (s : State) where
  -- the state behind a straight instruction that takes so many operands and gives one of this sort
  abbrev Straightly : ℕ → Option Sort → Instruction → Step → Type 0
  Straightly taken given i (Goes t) = (t.place ≡ s.place + size_of i) × ((t.loops ≡ s.loops) × Left given (drop taken s.operands) t.operands)
  Straightly taken given i step = Unit {0}

  pushed : (i : Instruction) (sort : Sort) (n : ℤ) → Straightly 0 (Some sort) i (pushes i s s.operands n)
  pushed i sort n = (refl, (refl, (n, refl)))

  asked : (i : Instruction) (sort : Sort) (g : ℤ → ℤ) → Straightly 1 (Some sort) i (of_one i s g)
  asked i sort g = one (Straightly 1 (Some sort) i) s.operands (λ a rest. pushes i s rest (g a)) tt (λ a rest e. (refl, (refl, (g a, ap (λ l. g a ∷ drop 1 l) (sym e)))))

  asked_two : (i : Instruction) (sort : Sort) (g : ℤ → ℤ → ℤ) → Straightly 2 (Some sort) i (of_two i s g)
  asked_two i sort g = two (Straightly 2 (Some sort) i) s.operands (λ a b rest. pushes i s rest (g a b)) tt (λ a b rest e. (refl, (refl, (g a b, ap (λ l. g a b ∷ drop 2 l) (sym e)))))

  calculated : (i : Instruction) (sort : Sort) (g : ℤ → ℤ → ℤ) → Straightly 2 (Some sort) i (calculates i s g)
  calculated i sort g = two (Straightly 2 (Some sort) i) s.operands (λ a b rest. unless_abandoned (in_range (g a b)) (pushes i s rest)) tt
      (λ a b rest e. attempted (Straightly 2 (Some sort) i) (in_range (g a b)) (pushes i s rest) (λ reason. tt) (λ n. (refl, (refl, (n, ap (λ l. n ∷ drop 2 l) (sym e))))))

  on : (i : Instruction) (p : Progress) → Straightly 0 None i (then_at i s s.operands p)
  on i p = (refl, (refl, refl))

  takes_one : (i : Instruction) (g : ℤ → Progress) → Straightly 1 None i (with_one s.operands (λ a rest. then_at i s rest (g a)))
  takes_one i g = one (Straightly 1 None i) s.operands (λ a rest. then_at i s rest (g a)) tt (λ a rest e. (refl, (refl, ap (drop 1) (sym e))))

  takes_two : (i : Instruction) (g : ℤ → ℤ → Progress) → Straightly 2 None i (with_two s.operands (λ a b rest. then_at i s rest (g a b)))
  takes_two i g = two (Straightly 2 None i) s.operands (λ a b rest. then_at i s rest (g a b)) tt (λ a b rest e. (refl, (refl, ap (drop 2) (sym e))))

-- ---- what comes of ways

abbrev Unanswered : Step → Type 0
Unanswered (Goes t) = ⊥
Unanswered st = Unit {0}

module _ (s : State) where
  abbrev Topped : ℤ → Step → Type 0
  Topped n (Goes t) = t.operands ≡ n ∷ s.operands
  Topped n st = Unit {0}

  -- either way of a branch
  abbrev Branched : ℕ → Step → Type 0
  Branched to (Goes t) = (t.loops ≡ s.loops) × ((t.operands ≡ drop 1 s.operands) × ((t.place ≡ s.place + 3) ⊎ (t.place ≡ to)))
  Branched to st = Unit {0}

  one_way : (to : ℕ) (rest : List ℤ) → rest ≡ drop 1 s.operands → (holds : Bool) → Branched to (goes_to s rest (if holds then s.place + 3 else to))
  one_way to rest e true = (refl, (e, inl refl))
  one_way to rest e false = (refl, (e, inr refl))

  branched : (f : Frame) (to : ℕ) → Branched to (does f s (code.IfZero to))
  unfolding does
  branched f to = one (Branched to) s.operands (λ a rest. goes_to s rest (if is_true a then s.place + 3 else to)) tt (λ a rest e. one_way to rest (ap (drop 1) (sym e)) (is_true a))

  abbrev Leapt : ℕ → Step → Type 0
  Leapt to (Goes t) = (t.loops ≡ s.loops) × ((t.operands ≡ s.operands) × (t.place ≡ to))
  Leapt to st = Unit {0}

  leapt : (f : Frame) (to : ℕ) → Leapt to (does f s (code.Jump to))
  unfolding does
  leapt f to = (refl, (refl, refl))

  abbrev Begun : Step → Type 0
  Begun (Goes t) = (t.loops ≡ s.loops ++ None ∷ []) × ((t.operands ≡ s.operands) × (t.place ≡ s.place + 2))
  Begun st = Unit {0}

  begun : (f : Frame) (k : ℕ) → Begun (does f s (code.Begin k))
  unfolding does
  begun f k = (refl, (refl, refl))

  -- out of the loop, or to its next object
  abbrev Turned : ℕ → ℕ → Step → Type 0
  Turned k exit (Goes t) = (t.operands ≡ s.operands) × (((t.place ≡ exit) × (t.loops ≡ take k s.loops)) ⊎ ((t.place ≡ s.place + 6) × ((o : ℕ) × (t.loops ≡ with_object s.loops k o))))
  Turned k exit st = Unit {0}

  turned_to : (k test exit : ℕ) (o : Option ℕ) → Turned k exit (turns_to (code.Next k test exit) s k exit o)
  turned_to k test exit None = (refl, inl (refl, refl))
  turned_to k test exit (Some o) =
      attempted (Turned k exit) (spend s.progress) (λ p. Goes (record (behind (code.Next k test exit) s) { loops = with_object s.loops k o; progress = p })) (λ reason. tt) (λ p. (refl, inr (refl, (o, refl))))

  turned : (f : Frame) (k test exit : ℕ) → Turned k exit (does f s (code.Next k test exit))
  unfolding does
  turned f k test exit = attempted (Turned k exit) (next_object f s k test) (turns_to (code.Next k test exit) s k exit) (λ reason. tt) (turned_to k test exit)

taken_long : {A : Type 0} (k : ℕ) (xs : List A) → k ≤ length xs → length (take k xs) ≡ k
taken_long zero xs le = refl
taken_long (suc k) [] le = absurd (omega (arith, le))
taken_long (suc k) (x ∷ xs) le = ap suc (taken_long k xs (omega (arith, le)))

not_both : {A : Type 0} (b : Bool) → b ≡ false → b ≡ true → A
not_both b nobody body = absurd cc

-- those that are taken are there, and behind the instruction the stack is as its label says
abbrev Behind : Option Sort → List Sort → List ℤ → List Sort → Type 0
Behind given wanted ops after = HasOnTop wanted ops × ((is_some given ≡ true → length ops < 64 + length wanted)
    × ((stack : List ℤ) → Left given (drop (length wanted) ops) stack → Served given stack → AreOf after stack))

no_rest : {A : Type 0} (given : Option Sort) (after : List Sort) → with_given given None ≡ Some after → A
no_rest None after e = absurd cc
no_rest (Some sort) after e = absurd cc

room_for : (given : Option Sort) (rest after : List Sort) → with_given given (Some rest) ≡ Some after → is_some given ≡ true → length rest < 64
room_for None rest after e some = absurd cc
room_for (Some sort) rest after e some = ltb-true (length rest) 64 (if_both (nat_lt (length rest) 64) (Some (sort ∷ rest)) after e).0

behind_given : (given : Option Sort) (wanted sorts : List Sort) (left : Option (List Sort)) (after : List Sort) (ops : List ℤ) → with_given given left ≡ Some after → TakesOff wanted sorts left
    → AreOf sorts ops → Behind given wanted ops after
behind_given given wanted sorts None after ops e takes_off are = no_rest given after e
behind_given given wanted sorts (Some rest) after ops e takes_off are =
    let taken = takes_off rest refl ops are in (
      taken.0,
      (
        λ some. omega (arith, room_for given rest after e some, many_of rest (drop (length wanted) ops) taken.1, length-drop (length wanted) ops),
        λ stack left served. given_on given rest after (drop (length wanted) ops) stack e taken.1 left served,
      ),
    )

num_gives : (z : Counts) → z.objects < 65536 → (n : ℤ) → (sort : Sort) × ((gives z (code.Num n) ≡ Some sort) × Serves sort n)
num_gives z few n = by n (is_object z n) refl
  where
    small : (n : ℤ) → is_object z n ≡ true → is_object_number n ≡ true
    small (pos m) is = lt-ltb m 65536 (omega (arith, few, ltb-true m z.objects is))
    small (negsuc m) is = is

    by : (n : ℤ) (b : Bool) → is_object z n ≡ b → (sort : Sort) × (((if b then Some NumberOrObject else Some Number) ≡ Some sort) × Serves sort n)
    by n true is = (NumberOrObject, (refl, small n is))
    by n false is = (Number, (refl, tt))

module _ {z : Counts} {role : Use} {is : List Instruction} (sound : IsSound z role is) where
  abbrev c : Labelled
  c = record { code = is; at = sound.at }

  module _ (s : State) (i : Instruction) (stands : StandsBy sound s) (at : at_place is s.place ≡ Some i) where
    abbrev fine : IsFine z role c s.place i
    fine = sound.fine s.place i at

    typed : Behind (gives z i) (taken_by i) s.operands fine.left
    unfolding operands_behind
    typed = behind_given (gives z i) (taken_by i) (sound.at s.place).operands (taken_from i (sound.at s.place).operands) fine.left s.operands fine.typed (off i (sound.at s.place).operands) stands.operands

    pub finds : Finds z role i s
    finds = record {
      allowed = fine.allowed;
      named = subst (λ depth. names_what_is_there z depth i ≡ true) (sym stands.loops) fine.named;
      operands = typed.0;
      room = typed.1.0;
    }

  -- what stands at a place where the operands are these
  led : (t : State) (to : ℕ) (operands : List Sort) (loops : List OpenLoop) → LeadsTo c to (record { operands = operands; loops = loops }) → t.place ≡ to → AreOf operands t.operands
      → length t.loops ≡ loops_around role + length loops → (is_body role ≡ false → loops ≡ []) → StandsBy sound t
  led t to operands loops leads there are opened unlooped =
      let label : sound.at t.place ≡ record { operands = operands; loops = loops } = ap sound.at there ∙ leads.1 in
      record {
        place = subst (λ q. (j : Instruction) × (at_place is q ≡ Some j)) (sym there) leads.0;
        operands = subst (λ l. AreOf l.operands t.operands) (sym label) are;
        loops = opened ∙ sym (ap (λ l. loops_around role + length l.loops) label);
        unlooped = λ nobody. ap (λ l. l.loops) label ∙ unlooped nobody;
      }

  module _ (f : Frame) (few : z.objects < 65536) (s : State) (stands : StandsBy sound s) where
    abbrev Keeps : Instruction → Type 0
    Keeps i = (t : State) → at_place is s.place ≡ Some i → does f s i ≡ Goes t → GivesObject (gives z i) t.operands → StandsBy sound t

    straight_by : (i : Instruction) (given : Option Sort) → gives z i ≡ given → way_of i ≡ Straight → ((t : State) → does f s i ≡ Goes t → GivesObject (gives z i) t.operands → Served given t.operands)
        → Straightly f s (length (taken_by i)) given i (does f s i) → Keeps i
    straight_by i given gives_so way serving shape t at step gives_object =
        let f_ = fine s i stands at in
        let shaped : Straightly f s (length (taken_by i)) given i (Goes t) = subst (λ st. Straightly f s (length (taken_by i)) given i st) step shape in
        let leads : LeadsTo c (s.place + size_of i) (record { operands = f_.left; loops = (sound.at s.place).loops })
        = subst (λ w. Ways w c s.place (s.place + size_of i) f_.left (sound.at s.place).loops) way f_.ways in
        let behind : Behind given (taken_by i) s.operands f_.left = subst (λ g. Behind g (taken_by i) s.operands f_.left) gives_so (typed s i stands at) in
        led t (s.place + size_of i) f_.left (sound.at s.place).loops leads shaped.0 (behind.1.1 t.operands shaped.1.1 (serving t step gives_object)) (ap length shaped.1.0 ∙ stands.loops) stands.unlooped

    straight : (i : Instruction) (given : Option Sort) → gives z i ≡ given → way_of i ≡ Straight → is_told given ≡ true → Straightly f s (length (taken_by i)) given i (does f s i) → Keeps i
    straight i given gives_so way told shape = straight_by i given gives_so way (λ t step g. served_by given t.operands told (subst (λ o. GivesObject o t.operands) gives_so g)) shape

    -- nothing is left of the operands that a way goes on without
    none_left : (i : Instruction) (at : at_place is s.place ≡ Some i) → gives z i ≡ None → (fine s i stands at).left ≡ [] → AreOf [] (drop (length (taken_by i)) s.operands)
    none_left i at nothing none =
        let behind : Behind None (taken_by i) s.operands (fine s i stands at).left = subst (λ g. Behind g (taken_by i) s.operands (fine s i stands at).left) nothing (typed s i stands at) in
        subst (λ l. AreOf l (drop (length (taken_by i)) s.operands)) none (behind.1.1 (drop (length (taken_by i)) s.operands) refl tt)

    branches : (to : ℕ) → Keeps (code.IfZero to)
    branches to t at step gives_object =
        let ways = (fine s (code.IfZero to) stands at).ways in
        let shaped : Branched s to (Goes t) = subst (Branched s to) step (branched s f to) in
        let are : AreOf [] t.operands = subst (λ l. AreOf [] l) (sym shaped.1.0) (none_left (code.IfZero to) at refl ways.0) in
        let opened : length t.loops ≡ loops_around role + length (sound.at s.place).loops = ap length shaped.0 ∙ stands.loops in
        either_way ways.1.1.1 ways.1.1.0 shaped.1.1 are opened
      where
        either_way : LeadsTo c (s.place + 3) (bare (sound.at s.place).loops) → LeadsTo c to (bare (sound.at s.place).loops) → (t.place ≡ s.place + 3) ⊎ (t.place ≡ to) → AreOf [] t.operands
            → length t.loops ≡ loops_around role + length (sound.at s.place).loops → StandsBy sound t
        either_way ahead there (inl e) are opened = led t (s.place + 3) [] (sound.at s.place).loops ahead e are opened stands.unlooped
        either_way ahead there (inr e) are opened = led t to [] (sound.at s.place).loops there e are opened stands.unlooped

    leaps : (to : ℕ) → Keeps (code.Jump to)
    leaps to t at step gives_object =
        let ways = (fine s (code.Jump to) stands at).ways in
        let shaped : Leapt s to (Goes t) = subst (Leapt s to) step (leapt s f to) in
        led t to [] (sound.at s.place).loops ways.1.0 shaped.1.1 (subst (λ l. AreOf [] l) (sym shaped.1.0) (none_left (code.Jump to) at refl ways.0)) (ap length shaped.0 ∙ stands.loops) stands.unlooped

    opens : (k : ℕ) → Keeps (code.Begin k)
    opens k t at step gives_object =
        let f_ = fine s (code.Begin k) stands at in
        let ways = f_.ways in
        let shaped : Begun s (Goes t) = subst (Begun s) step (begun s f k) in
        let outer = (sound.at s.place).loops in
        let opened : length t.loops ≡ loops_around role + suc (length outer) = omega (arith, ap length shaped.0, length-append s.loops (None ∷ []), stands.loops) in
        led t (s.place + 2) [] _ ((ways.1.0, ways.1.1.1.0), ways.1.1.1.1.1) shaped.1.1 (subst (λ l. AreOf [] l) (sym shaped.1.0) (none_left (code.Begin k) at refl ways.0)) opened
        (λ nobody. not_both (is_body role) nobody (opens_in_bodies role k f_.allowed))

    turns : (k test exit : ℕ) → Keeps (code.Next k test exit)
    unfolding names_what_is_there
    turns k test exit t at step gives_object =
        let i = code.Next k test exit in
        let f_ = fine s i stands at in
        let ways = f_.ways in
        let shaped : Turned s k exit (Goes t) = subst (Turned s k exit) step (turned s f k test exit) in
        let innermost : k + 1 ≡ loops_around role + length (sound.at s.place).loops = eqb-true (k + 1) (loops_around role + length (sound.at s.place).loops) (named_loop (loops_around role + length (sound.at s.place).loops) f_.named) in
        let are : AreOf [] t.operands = subst (λ l. AreOf [] l) (sym shaped.0) (none_left i at refl ways.0) in
        let long : length s.loops ≡ k + 1 = stands.loops ∙ sym innermost in
        let within : length (sound.at s.place).loops ≡ suc (length ways.1.0) = ap length ways.1.1.0 in
        let body : is_body role ≡ false → ways.1.0 ≡ [] = λ nobody. no_loop (sound.at s.place).loops ways.1.0 (stands.unlooped nobody) ways.1.1.0 in
        either_way ways.1.0 ways.1.1.1.0 ways.1.1.1.1 shaped.1 are long innermost within body
      where
        named_loop : (depth : ℕ) → names_what_is_there z depth (code.Next k test exit) ≡ true → (k + 1 == depth) ≡ true
        named_loop depth named = (and_parts (k + 1 == depth) _ named).0

        no_loop : {A : Type 0} {loop : OpenLoop} (loops outer : List OpenLoop) → loops ≡ [] → loops ≡ loop ∷ outer → A
        no_loop loops outer none some = absurd cc

        either_way : (outer : List OpenLoop) → LeadsTo c exit (bare outer) → LeadsTo c (s.place + 6) (bare (sound.at s.place).loops)
            → ((t.place ≡ exit) × (t.loops ≡ take k s.loops)) ⊎ ((t.place ≡ s.place + 6) × ((o : ℕ) × (t.loops ≡ with_object s.loops k o)))
            → AreOf [] t.operands → length s.loops ≡ k + 1 → k + 1 ≡ loops_around role + length (sound.at s.place).loops → length (sound.at s.place).loops ≡ suc (length outer)
            → (is_body role ≡ false → outer ≡ []) → StandsBy sound t
        either_way outer out on (inl left) are long innermost within body =
            led t exit [] outer out left.0 are (omega (arith, ap length left.1, taken_long k s.loops (omega (arith, long)), innermost, within)) body
        either_way outer out on (inr next) are long innermost within body =
            led t (s.place + 6) [] (sound.at s.place).loops on next.0 are
            (omega (arith, ap length next.1.1, length-append (take k s.loops) (Some next.1.0 ∷ []), taken_long k s.loops (omega (arith, long)), innermost)) stands.unlooped

    ends : (i : Instruction) → ((t : State) → does f s i ≡ Goes t → ⊥) → Keeps i
    ends i over t at step gives_object = absurd (over t step)

    counted : (n : ℤ) → Keeps (code.Num n)
    unfolding does
    counted n t at step gives_object =
        let num = num_gives z few n in
        straight_by (code.Num n) (Some num.0) num.1.0 refl (λ t e g. subst (λ l. Served (Some num.0) l) (sym (given_there t e)) num.1.1) (pushed_number num.0) t at step gives_object
      where
        topped : Topped s n (does f s (code.Num n))
        topped = refl

        given_there : (t : State) → does f s (code.Num n) ≡ Goes t → t.operands ≡ n ∷ s.operands
        given_there t e = subst (Topped s n) e topped

        pushed_number : (sort : Sort) → Straightly f s 0 (Some sort) (code.Num n) (does f s (code.Num n))
        pushed_number sort = pushed f s (code.Num n) sort n

    kept : (i : Instruction) → Keeps i
    unfolding does
    kept (code.Num n) = counted n
    kept (code.Var v) = straight (code.Var v) (Some Number) refl refl refl (pushed f s (code.Var v) Number _)
    kept (code.Prop p) = straight (code.Prop p) (Some Number) refl refl refl (asked f s (code.Prop p) Number _)
    kept code.Turns = straight code.Turns (Some Number) refl refl refl (pushed f s code.Turns Number _)
    kept code.Add = straight code.Add (Some Number) refl refl refl (calculated f s code.Add Number (λ a b. a +ℤ b))
    kept code.Sub = straight code.Sub (Some Number) refl refl refl (calculated f s code.Sub Number (λ a b. a -ℤ b))
    kept code.Mul = straight code.Mul (Some Number) refl refl refl (calculated f s code.Mul Number (λ a b. a *ℤ b))
    kept code.Eq = straight code.Eq (Some Truth) refl refl refl (asked_two f s code.Eq Truth _)
    kept code.Less = straight code.Less (Some Truth) refl refl refl (asked_two f s code.Less Truth _)
    kept code.AtMost = straight code.AtMost (Some Truth) refl refl refl (asked_two f s code.AtMost Truth _)
    kept code.Not = straight code.Not (Some Truth) refl refl refl (asked f s code.Not Truth _)
    kept code.And = straight code.And (Some Truth) refl refl refl (asked_two f s code.And Truth _)
    kept code.Or = straight code.Or (Some Truth) refl refl refl (asked_two f s code.Or Truth _)
    kept code.Noun = straight code.Noun (Some Object) refl refl refl (pushed f s code.Noun Object _)
    kept code.Second = straight code.Second (Some Object) refl refl refl (pushed f s code.Second Object _)
    kept code.Location = straight code.Location (Some Object) refl refl refl (pushed f s code.Location Object _)
    kept (code.Loop k) = straight (code.Loop k) (Some Object) refl refl refl (pushed f s (code.Loop k) Object _)
    kept (code.Flag p side) = straight (code.Flag p side) (Some Truth) refl refl refl (asked f s (code.Flag p side) Truth _)
    kept (code.Kind kind) = straight (code.Kind kind) (Some Truth) refl refl refl (asked f s (code.Kind kind) Truth _)
    kept (code.Held r) = straight (code.Held r) (Some Truth) refl refl refl (asked_two f s (code.Held r) Truth _)
    kept (code.Holder r) = straight (code.Holder r) (Some Object) refl refl refl (asked f s (code.Holder r) Object _)
    kept code.Encloses = straight code.Encloses (Some Truth) refl refl refl (asked_two f s code.Encloses Truth _)
    kept code.Visible = straight code.Visible (Some Truth) refl refl refl (asked f s code.Visible Truth _)
    kept code.Touchable = straight code.Touchable (Some Truth) refl refl refl (asked f s code.Touchable Truth _)
    kept code.Dark = straight code.Dark (Some Truth) refl refl refl (pushed f s code.Dark Truth _)
    kept (code.Happens scene) = straight (code.Happens scene) (Some Truth) refl refl refl (pushed f s (code.Happens scene) Truth _)
    kept code.HasDescription = straight code.HasDescription (Some Truth) refl refl refl (asked f s code.HasDescription Truth _)
    kept code.Room = straight code.Room (Some Object) refl refl refl (asked_two f s code.Room Object _)
    kept code.Door = straight code.Door (Some Object) refl refl refl (asked_two f s code.Door Object _)
    kept (code.Valued n value) = straight (code.Valued n value) (Some Truth) refl refl refl (asked f s (code.Valued n value) Truth _)
    kept (code.Count k test) = straight (code.Count k test) (Some Number) refl refl refl (attempted (Straightly f s 0 (Some Number) (code.Count k test)) (passing_in f s k test) _ (λ reason. tt) (λ objects. pushed f s (code.Count k test) Number _))
    kept (code.Names naming k test) = straight (code.Names naming k test) None refl refl refl (attempted (Straightly f s 0 None (code.Names naming k test)) (passing_in f s k test) _ (λ reason. tt) (λ objects. on f s (code.Names naming k test) (say (listed f.telling.setting naming objects) s.progress)))
    kept (code.Say string) = straight (code.Say string) None refl refl refl (on f s (code.Say string) (say (f.strings string) s.progress))
    kept (code.Name naming) = straight (code.Name naming) None refl refl refl (takes_one f s (code.Name naming) _)
    kept code.Figure = straight code.Figure None refl refl refl (takes_one f s code.Figure _)
    kept code.Description = straight code.Description None refl refl refl (one (Straightly f s 1 None code.Description) s.operands _ tt (λ a rest e. attempted (Straightly f s 1 None code.Description) (description_in f.telling f.now s.progress.world (object_at a)) _ (λ reason. tt) (λ text. (refl, (refl, ap (drop 1) (sym e))))))
    kept (code.SetFlag p value) = straight (code.SetFlag p value) None refl refl refl (takes_one f s (code.SetFlag p value) _)
    kept (code.SetProp p) = straight (code.SetProp p) None refl refl refl (takes_two f s (code.SetProp p) _)
    kept (code.SetVar v) = straight (code.SetVar v) None refl refl refl (takes_one f s (code.SetVar v) _)
    kept (code.PutAt r) = straight (code.PutAt r) None refl refl refl (takes_two f s (code.PutAt r) _)
    kept code.Move = straight code.Move None refl refl refl (takes_two f s code.Move _)
    kept code.Away = straight code.Away None refl refl refl (takes_one f s code.Away _)
    kept (code.ValueName n) = straight (code.ValueName n) None refl refl refl (takes_one f s (code.ValueName n) _)
    kept (code.SetValue n value) = straight (code.SetValue n value) None refl refl refl (takes_one f s (code.SetValue n value) _)
    kept (code.Try silent action) = straight (code.Try silent action) None refl refl refl (two (Straightly f s 2 None (code.Try silent action)) s.operands _ tt (λ a b rest e. attempted (Straightly f s 2 None (code.Try silent action)) (f.inner.tries (tried_with silent action a b) s.progress) _ (λ reason. tt) (λ p. (refl, (refl, ap (drop 2) (sym e))))))
    kept (code.Follow book) = straight (code.Follow book) None refl refl refl (attempted (Straightly f s 0 None (code.Follow book)) (f.inner.follows book f.now s.progress) _ (λ reason. tt) (λ p. on f s (code.Follow book) p))
    kept (code.IfZero place) = branches place
    kept (code.Jump place) = leaps place
    kept (code.Begin k) = opens k
    kept (code.Next k test exit) = turns k test exit
    kept (code.EndStory string) = straight (code.EndStory string) None refl refl refl (on f s (code.EndStory string) (change (end_with (f.strings string)) s.progress))
    kept code.Done = ends code.Done (λ t e. absurd cc)
    kept code.NoDecision = ends code.NoDecision (λ t e. absurd cc)
    kept code.Success = ends code.Success (λ t e. absurd cc)
    kept code.Failure = ends code.Failure (λ t e. absurd cc)
    kept code.Answer = ends code.Answer (λ t e. subst Unanswered e (one Unanswered s.operands (λ a rest. Answers (is_true a)) tt (λ a rest e. tt)))

  pub begins : (loops : List (Option ℕ)) (p : Progress) → length loops ≡ loops_around role → StandsBy sound (start_at loops p)
  begins loops p around =
      let none : (sound.at 0).loops ≡ [] = ap (λ l. l.loops) sound.starts.1 in
      record {
        place = sound.starts.0;
        operands = subst (λ l. AreOf l.operands []) (sym sound.starts.1) tt;
        loops = omega (arith, around, ap length none);
        unlooped = λ nobody. none;
      }

  pub keeps : (f : Frame) → z.objects < 65536 → (s t : State) (i : Instruction) → StandsBy sound s → at_place is s.place ≡ Some i → does f s i ≡ Goes t → GivesObject (gives z i) t.operands → StandsBy sound t
  keeps f few s t i stands at step gives_object = kept f few s stands i t at step gives_object

  -- what is no body goes further on
  pub ahead : (f : Frame) → is_body role ≡ false → (s t : State) (i : Instruction) → StandsBy sound s → at_place is s.place ≡ Some i → does f s i ≡ Goes t → s.place < t.place
  ahead f nobody s t i stands at step =
      let follows = one_step z role c f sound.fine s stands.place (many_of (sound.at s.place).operands s.operands stands.operands) in
      let further : Follows z role c s.place (Goes t) = subst (λ st. Follows z role c s.place st) (ap (λ o. does_at f s o) at ∙ step) follows in
      (further.2 nobody (stands.unlooped nobody)).0

  pub within : (s : State) → StandsBy sound s → s.place < sizes is
  within s stands = inside is s.place stands.place.0 stands.place.1
