-- What is emitted: the bytes of a tree's code, and behind it those of the tests that it names.
use Rattle.std.specs.Prelude.{◌≡◌, ℕ, true, Err, IfErr, List, [], ◌∷◌, Result}
use Rattle.play_meaning.specs.Translation.{Emitted, Part, body_part, one, seq}
use Rattle.play_meaning.specs.Trees.{Body}
use Rattle.play_meaning.specs.declared.instruction.Instruction.{Instruction}
use Rattle.play_meaning.specs.declared.instruction.Instruction.TheVariants.{Done}
use Rattle.story_code.specs.Emitting.{can_say_all}
use Rattle.story_code.specs.Spelling.{Spells}
use Rattle.story_code.specs.declared.emit.EmitFault.{EmitFault}
use Rattle.story_code.specs.declared.emit.EmitFault.TheVariants.{Memory, TooLong}

-- a body, and its end
abbrev pub whole_body : (List ℕ → ℕ) → Body → Part
whole_body string body = seq (body_part string 0 body) (one Done)

-- bytes spell codes, each its own
abbrev pub AreSpelled : List (List ℕ) → List (List Instruction) → Type 0
AreSpelled [] [] = Unit {0}
AreSpelled [] (code ∷ codes) = ⊥
AreSpelled (bytes ∷ more) [] = ⊥
AreSpelled (bytes ∷ more) (code ∷ codes) = Spells bytes code × AreSpelled more codes

-- these bytes are those of what was emitted, which bytes can say
pub record AreEmitted (e : Emitted) (bytes : List (List ℕ)) : Type 0 where
  pub said : can_say_all e ≡ true
  pub spelled : AreSpelled bytes (e.code ∷ e.tests)

-- so it is where what is told is that the codes are too long
abbrev pub IfTooLong : {T : Type 0} → Result T EmitFault → Type 0 → Type 0
IfTooLong result so = IfErr result (λ fault. fault ≡ TooLong → so)

-- what doesn't fit is too long, whatever memory there is
abbrev pub IsUnfit : {T : Type 0} → Result T EmitFault → Type 0
IsUnfit result = result ≡ Err TooLong

-- nothing but memory lacked
abbrev pub IsOnlyMemory : {T : Type 0} → Result T EmitFault → Type 0
IsOnlyMemory result = IfErr result (λ fault. fault ≡ Memory)
