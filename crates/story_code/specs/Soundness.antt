-- Which bytes are a sound code.
use Rattle.std.specs.Prelude.{ℕ, ◌<◌, ◌^◌, List, length}
use Rattle.play_meaning.specs.declared.instruction.Instruction.{Instruction}
use Rattle.play_meaning.specs.SoundCodes.{IsSound}
use Rattle.story_code.specs.Spelling.{Spells}
pub use Rattle.story_code.specs.declared.sizes.Sizes.{Sizes}

-- they are 65,535 at most, and spell a code that is sound for its use, by what there is of what its arguments name
pub record IsSoundCode (z : Sizes) (bytes : List ℕ) : Type 0 where
  pub short : length bytes < 2 ^ 16
  pub code : List Instruction
  pub spells : Spells bytes code
  pub sound : IsSound z.counts z.role code

-- bytes, and what they are judged by
pub record Judged : Type 0 where
  pub sizes : Sizes
  pub bytes : List ℕ
