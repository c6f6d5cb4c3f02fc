-- What phrases say that others belong to (*Writing with Inform*, 11.6 to 11.9): `if`, `otherwise if`, `otherwise`, `repeat`.
use Rattle.std.specs.Prelude.{◌≡◌, Bool, true, false}
use Rattle.i7_sentences.specs.declared.spoken.Spoken.{Spoken}
use Rattle.i7_sentences.specs.declared.spoken.Spoken.TheVariants as spoken
use Rattle.play_meaning.specs.Trees.{Condition, Description}
use Rattle.i7_conditions.specs.Clauses.{asks_over}
use Rattle.i7_conditions.specs.Conditions.{IsCondition}
use Rattle.i7_conditions.specs.Describing.{Describes}
use Rattle.i7_conditions.specs.Predicates.{is_long}
use Rattle.i7_conditions.specs.Scopes.{Scope}

pub data Block : Type 0 where
  If : Condition → Block
  OtherwiseIf : Condition → Block
  Otherwise : Block
  Repeat : Description → Block
  -- a line that does something: no phrase says it here
  NoBlock : Block

abbrev pub is_block : Spoken → Bool
is_block (spoken.If words) = true
is_block (spoken.OtherwiseIf words) = true
is_block spoken.Otherwise = true
is_block (spoken.Repeat name through) = true
is_block _ = false

abbrev pub Opens : Scope → Spoken → Block → Type 0
Opens s (spoken.If words) b = (c : Condition) × IsCondition s words c × (b ≡ If c)
Opens s (spoken.OtherwiseIf words) b = (c : Condition) × IsCondition s words c × (b ≡ OtherwiseIf c)
Opens s spoken.Otherwise b = b ≡ Otherwise
Opens s (spoken.Repeat name through) b = (d : Description) × Describes s through d × (b ≡ Repeat d)
Opens s _ b = ⊥

-- more than 9 adjectives, or more than 8 `from`s within one another
abbrev pub block_is_over : Block → Bool
block_is_over (If c) = asks_over c
block_is_over (OtherwiseIf c) = asks_over c
block_is_over Otherwise = false
block_is_over (Repeat d) = is_long d
block_is_over NoBlock = false
