-- Which of a reader and a writer has failed where a run broke off.
use Rattle.std.specs.Prelude.{◌≡◌, Bool, true, false}
use Rattle.story_player.specs.declared.fault.RunFault.{RunFault}
use Rattle.story_player.specs.declared.fault.RunFault.TheVariants.{Read, Write, InputTooLong}

-- the reader's fault exactly where the reader has failed, the writer's exactly where the writer has
abbrev pub Blames : RunFault → Bool → Bool → Type 0
Blames Read reader writer = (reader ≡ true) × (writer ≡ false)
Blames Write reader writer = (reader ≡ false) × (writer ≡ true)
Blames InputTooLong reader writer = (reader ≡ false) × (writer ≡ false)
