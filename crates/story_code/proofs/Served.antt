-- Where a run stands its instruction finds what it takes, and behind it the run stands again.
use Rattle.std.proofs.Common.{◌≡◌, ◌∙◌, ap, sym, subst, ℕ, zero, suc, ◌+◌, ◌<◌, ◌≤◌, Bool, true, false, ◌==◌, nat_lt, List, [], ◌∷◌, length, refl, Option, Some, None, ℤ, arith}
use Rattle.std.specs.Prelude.{◌&&◌, MatchOption, if◌then◌else◌, is_some, slice_get}
use Rattle.std.proofs.lemmas.Bool.{and_parts, eqb-true, ltb-true}
use Rattle.std.proofs.lemmas.Option.{same_Some}
use Rattle.play_meaning.specs.declared.instruction.Instruction.TheVariants as code
use Rattle.play_meaning.specs.Instructions.{at_place, sizes}
use Rattle.play_meaning.specs.Machines.{Frame, Goes, State, does}
use Rattle.play_meaning.specs.Operands.{gives, is_object, names_what_is_there}
use Rattle.play_meaning.specs.Progress.{Progress, fresh}
use Rattle.play_meaning.specs.SoundCodes.{IsSound}
use Rattle.play_meaning.specs.Stands.{Finds, GivesObject, HasOnTop, StandsBy, is_body, taken_by}
use Rattle.play_meaning.specs.Worlds.{World}
use Rattle.play_meaning.specs.declared.instruction.Instruction.{Instruction}
use Rattle.play_meaning.specs.declared.operand.Counts.{Counts}
use Rattle.play_meaning.specs.declared.operand.Sort.{Sort}
use Rattle.play_meaning.specs.declared.operand.Use.{Use}
use Rattle.play_meaning.specs.declared.operand.Sort.TheVariants.{Number, NumberOrObject}
use Rattle.play_meaning.proofs.States.{ahead, finds, keeps, within}
use Rattle.story_code.specs.Runs.{AreSoundTogether, IsFetched, IsNamedTest, IsStanding, IsTestAt, LeadsOn, LoopsSuit, MayRead, NamesItsTest, Standing, code_at, code_told, gives_one}
use Rattle.story_code.specs.Soundness.{Judged}

-- a number is given whatever it serves as
num_given : (z : Counts) (n : ℤ) → is_some (gives z (code.Num n)) ≡ true
num_given z n = by (is_object z n)
  where
    by : (b : Bool) → is_some (if b then Some NumberOrObject else Some Number) ≡ true
    by true = refl
    by false = refl

given : (z : Counts) (i : Instruction) → gives_one i ≡ true → is_some (gives z i) ≡ true
given z (code.Num n) some = num_given z n
given z (code.Var v) some = some
given z (code.Prop p) some = some
given z code.Turns some = some
given z code.Add some = some
given z code.Sub some = some
given z code.Mul some = some
given z code.Eq some = some
given z code.Less some = some
given z code.AtMost some = some
given z code.Not some = some
given z code.And some = some
given z code.Or some = some
given z code.Noun some = some
given z code.Second some = some
given z code.Location some = some
given z (code.Loop k) some = some
given z (code.Flag p asked) some = some
given z (code.Kind kind) some = some
given z (code.Held r) some = some
given z (code.Holder r) some = some
given z code.Encloses some = some
given z code.Visible some = some
given z code.Touchable some = some
given z code.Dark some = some
given z (code.Happens scene) some = some
given z code.HasDescription some = some
given z code.Room some = some
given z code.Door some = some
given z (code.Valued q value) some = some
given z (code.Count k test) some = some
given z (code.Names naming k test) some = some
given z (code.Say string) some = some
given z (code.Name naming) some = some
given z code.Figure some = some
given z code.Description some = some
given z (code.SetFlag p value) some = some
given z (code.SetProp p) some = some
given z (code.SetVar v) some = some
given z (code.PutAt r) some = some
given z code.Move some = some
given z code.Away some = some
given z (code.ValueName q) some = some
given z (code.SetValue q value) some = some
given z (code.Try silent action) some = some
given z (code.Follow book) some = some
given z (code.IfZero place) some = some
given z (code.Jump place) some = some
given z (code.Begin k) some = some
given z (code.Next k test exit) some = some
given z (code.EndStory string) some = some
given z code.Done some = some
given z code.NoDecision some = some
given z code.Success some = some
given z code.Failure some = some
given z code.Answer some = some

-- where a run stands, and what it did so far
abbrev pub state_of : Standing → Progress → State
state_of s p = record { place = s.place; operands = s.operands; loops = s.loops; progress = p }

on_top_many : (sorts : List Sort) (ops : List ℤ) → HasOnTop sorts ops → length sorts ≤ length ops
on_top_many [] ops has = omega arith
on_top_many (sort ∷ sorts) [] has = absurd has
on_top_many (sort ∷ sorts) (a ∷ ops) has = omega (arith, on_top_many sorts ops has.1)

module _ (judged : List Judged) (s : Standing) (z : Counts) (own : z.own ≡ s.code) where
  new_loop : (k test : ℕ) → (((k == length s.loops) && nat_lt (length s.loops) 9) && ((nat_lt z.own test && nat_lt test z.codes) && true)) ≡ true → IsTestAt judged test (k + 1)
      → (k ≡ length s.loops) × IsNamedTest judged s.code (length s.loops) test
  new_loop k test named there =
      let halves = and_parts _ _ named in
      let opened = and_parts _ _ halves.0 in
      let tested = and_parts _ _ (and_parts _ _ halves.1).0 in
      let same : k ≡ length s.loops = eqb-true k (length s.loops) opened.0 in (
        same,
        record {
          few = ltb-true (length s.loops) 9 opened.1;
          later = subst (λ n. n < test) own (ltb-true z.own test tested.0);
          there = subst (λ n. IsTestAt judged test (n + 1)) same there;
        },
      )

  innermost : (k test : ℕ) → ((k + 1 == length s.loops) && ((nat_lt z.own test && nat_lt test z.codes) && true)) ≡ true → length s.loops ≤ 9 → IsTestAt judged test (k + 1)
      → (k + 1 ≡ length s.loops) × IsNamedTest judged s.code k test
  innermost k test named nine there =
      let halves = and_parts _ _ named in
      let tested = and_parts _ _ (and_parts _ _ halves.1).0 in
      let same : k + 1 ≡ length s.loops = eqb-true (k + 1) (length s.loops) halves.0 in (
        same,
        record {
          few = omega (arith, same, nine);
          later = subst (λ n. n < test) own (ltb-true z.own test tested.0);
          there = there;
        },
      )

  opened : (k : ℕ) → (((k == length s.loops) && nat_lt (length s.loops) 9) && true) ≡ true → length s.loops < 9
  opened k named = ltb-true (length s.loops) 9 (and_parts _ _ (and_parts _ _ named).0).1

  loops_suit : length s.loops ≤ 9 → (i : Instruction) → names_what_is_there z (length s.loops) i ≡ true → NamesItsTest judged i → LoopsSuit judged s i
  unfolding names_what_is_there
  loops_suit nine (code.Num n) named there = tt
  loops_suit nine (code.Var v) named there = tt
  loops_suit nine (code.Prop p) named there = tt
  loops_suit nine code.Turns named there = tt
  loops_suit nine code.Add named there = tt
  loops_suit nine code.Sub named there = tt
  loops_suit nine code.Mul named there = tt
  loops_suit nine code.Eq named there = tt
  loops_suit nine code.Less named there = tt
  loops_suit nine code.AtMost named there = tt
  loops_suit nine code.Not named there = tt
  loops_suit nine code.And named there = tt
  loops_suit nine code.Or named there = tt
  loops_suit nine code.Noun named there = tt
  loops_suit nine code.Second named there = tt
  loops_suit nine code.Location named there = tt
  loops_suit nine (code.Loop k) named there = tt
  loops_suit nine (code.Flag p side) named there = tt
  loops_suit nine (code.Kind kind) named there = tt
  loops_suit nine (code.Held r) named there = tt
  loops_suit nine (code.Holder r) named there = tt
  loops_suit nine code.Encloses named there = tt
  loops_suit nine code.Visible named there = tt
  loops_suit nine code.Touchable named there = tt
  loops_suit nine code.Dark named there = tt
  loops_suit nine (code.Happens scene) named there = tt
  loops_suit nine code.HasDescription named there = tt
  loops_suit nine code.Room named there = tt
  loops_suit nine code.Door named there = tt
  loops_suit nine (code.Valued q value) named there = tt
  loops_suit nine (code.Count k test) named there = new_loop k test named there
  loops_suit nine (code.Names naming k test) named there = new_loop k test named there
  loops_suit nine (code.Say string) named there = tt
  loops_suit nine (code.Name naming) named there = tt
  loops_suit nine code.Figure named there = tt
  loops_suit nine code.Description named there = tt
  loops_suit nine (code.SetFlag p value) named there = tt
  loops_suit nine (code.SetProp p) named there = tt
  loops_suit nine (code.SetVar v) named there = tt
  loops_suit nine (code.PutAt r) named there = tt
  loops_suit nine code.Move named there = tt
  loops_suit nine code.Away named there = tt
  loops_suit nine (code.ValueName q) named there = tt
  loops_suit nine (code.SetValue q value) named there = tt
  loops_suit nine (code.Try silent action) named there = tt
  loops_suit nine (code.Follow book) named there = tt
  loops_suit nine (code.IfZero place) named there = tt
  loops_suit nine (code.Jump place) named there = tt
  loops_suit nine (code.Begin k) named there = opened k named
  loops_suit nine (code.Next k test exit) named there = innermost k test named nine there
  loops_suit nine (code.EndStory string) named there = tt
  loops_suit nine code.Done named there = tt
  loops_suit nine code.NoDecision named there = tt
  loops_suit nine code.Success named there = tt
  loops_suit nine code.Failure named there = tt
  loops_suit nine code.Answer named there = tt

pub told_at : (judged : List Judged) (n : ℕ) (j : Judged) → slice_get judged n ≡ Some j → code_at judged n ≡ code_told j
told_at [] n j there = absurd cc
told_at (k ∷ judged) zero j there = let same : k ≡ j = cc in ap code_told same
told_at (k ∷ judged) (suc n) j there = told_at judged n j there

pub fetched_there : (judged : List Judged) (s : Standing) (i : Instruction) (may : IsStanding judged s) → AreSoundTogether judged → length s.loops ≤ 9 → sizes (code_told may.code) < 65536
    → at_place (code_told may.code) s.place ≡ Some i → (w : World) → IsFetched judged s i
fetched_there judged s i may together nine short at w =
    let p : Progress = fresh w in
    let stands : StandsBy may.sound (state_of s p) = may.stands p in
    let found : Finds may.code.sizes.counts may.code.sizes.role i (state_of s p) = finds may.sound (state_of s p) i stands at in
    record {
      at = ap (λ c. at_place c s.place) (told_at judged s.code may.code may.there) ∙ at;
      served = record {
        place = omega (arith, within may.sound (state_of s p) stands, short);
        many = on_top_many (taken_by i) s.operands found.operands;
        operands = found.operands;
        room = λ some. found.room (given may.code.sizes.counts i some);
      };
      loops = loops_suit judged s may.code.sizes.counts (together s.code may.code may.there).own nine i found.named ((together s.code may.code may.there).tests s.place i at);
    }

-- behind an instruction that leads on a run stands again, in the same code, whatever became of the world
pub record StandsOn (judged : List Judged) (s t : Standing) (may : IsStanding judged s) : Type 0 where
  pub run : IsStanding judged t
  pub same : run.code ≡ may.code

-- whatever it did so far
whatever : {z : Counts} {role : Use} {is : List Instruction} (sound : IsSound z role is) (t : Standing) (p q : Progress) → StandsBy sound (state_of t p) → StandsBy sound (state_of t q)
whatever sound t p q stands = record { place = stands.place; operands = stands.operands; loops = stands.loops; unlooped = stands.unlooped }

pub stands_on : (judged : List Judged) (s t : Standing) (i : Instruction) (may : IsStanding judged s) (f : Frame) (p q : Progress) → at_place (code_told may.code) s.place ≡ Some i
    → does f (state_of s p) i ≡ Goes (state_of t q) → GivesObject (gives may.code.sizes.counts i) t.operands → t.code ≡ s.code → StandsOn judged s t may
stands_on judged s t i may f p q at step small same =
    let stands : StandsBy may.sound (state_of t q) = keeps may.sound f may.few (state_of s p) (state_of t q) i (may.stands p) at step small in
    record {
      run = record {
        code = may.code;
        there = ap (slice_get judged) same ∙ may.there;
        few = may.few;
        sound = may.sound;
        stands = λ r. whatever may.sound t q r stands;
      };
      same = refl;
    }

pub leads_on : (judged : List Judged) (s t : Standing) (i : Instruction) (may : MayRead judged s) (f : Frame) (p q : Progress) → at_place (code_told may.run.code) s.place ≡ Some i
    → does f (state_of s p) i ≡ Goes (state_of t q) → GivesObject (gives may.run.code.sizes.counts i) t.operands → t.code ≡ s.code → LeadsOn judged s t
leads_on judged s t i may f p q at step small same =
    let on : StandsOn judged s t may.run = stands_on judged s t i may.run f p q at step small same in
    record {
      stands = record { run = on.run; reads = ap (λ (j : Judged). is_body j.sizes.role) on.same ∙ may.reads };
      same = same;
      further = ahead may.run.sound f may.reads (state_of s p) (state_of t q) i (may.run.stands p) at step;
    }

blank : World
blank = record { places = []; flags = []; numbers = []; values = []; variables = []; scenes = []; turns = 1; ended = None }

-- a run stands at an instruction, which is fetched
pub fetched_by : (judged : List Judged) (s : Standing) (may : IsStanding judged s) (j : Judged) (result : Option Instruction) → AreSoundTogether judged → length s.loops ≤ 9
    → slice_get judged s.code ≡ Some j → sizes (code_told j) < 65536 → ((i : Instruction) → at_place (code_told j) s.place ≡ Some i → result ≡ Some i) → MatchOption result ⊥ (IsFetched judged s)
fetched_by judged s may j result together nine there short reads =
    let same : may.code ≡ j = same_Some may.code j (sym may.there ∙ there) in
    let stands = (may.stands (fresh blank)).place in
    let got : result ≡ Some stands.0 = reads stands.0 (ap (λ (k : Judged). at_place (code_told k) s.place) (sym same) ∙ stands.1) in
    subst (λ o. MatchOption o ⊥ (IsFetched judged s)) (sym got)
    (fetched_there judged s stands.0 may together nine (subst (λ (k : Judged). sizes (code_told k) < 65536) (sym same) short) stands.1 blank)
