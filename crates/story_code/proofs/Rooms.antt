-- A loop is opened only where there is room for it.
use Rattle.std.proofs.Common.{◌≡◌, ℕ, ◌+◌, ◌<◌, Bool, true, false, ◌&&◌, List, length, arith}
use Rattle.std.proofs.lemmas.Grind.{common_steps}
use Rattle.play_meaning.specs.Operands.{may_hold, names_what_is_there}
use Rattle.play_meaning.specs.SoundCodes.{loops_around, way_of}
use Rattle.play_meaning.specs.declared.instruction.Instruction.{Instruction}
use Rattle.play_meaning.specs.declared.instruction.Instruction.TheVariants.{Begin}
use Rattle.play_meaning.specs.declared.operand.Counts.{Counts}
use Rattle.play_meaning.specs.declared.way.OpenLoop.{OpenLoop}
use Rattle.play_meaning.specs.declared.way.Way.TheVariants.{Opens}
use Rattle.story_code.specs.Passes.{is_allowed}
use Rattle.story_code.specs.declared.sizes.Sizes.{Sizes}

named_room : (z : Counts) (depth : ℕ) (i : Instruction) → names_what_is_there z depth i ≡ true → way_of i ≡ Opens → depth < 9
unfolding names_what_is_there
named_room z depth (Begin k) h e = grind (arith, common_steps, h)
named_room z depth i h e = let no : ⊥ = cc in absurd no

pub allowed_room : (z : Sizes) (loops : List OpenLoop) (i : Instruction) → is_allowed z loops i ≡ true → way_of i ≡ Opens → length loops < 9
unfolding is_allowed
allowed_room z loops i h e =
    let named = second (may_hold z.role i) h in
    let room : loops_around z.role + length loops < 9 = named_room z.counts (loops_around z.role + length loops) i named e in
    omega (arith, room)
  where
    second : (a : Bool) {b : Bool} → (a && b) ≡ true → b ≡ true
    second true h = h
    second false h = let no : ⊥ = cc in absurd no
