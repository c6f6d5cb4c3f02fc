-- What a phrase is as a line of a rule's body: something that is done, or a block that others belong to.
use Rattle.std.specs.Prelude.{◌≡◌, Bool, true, false, ◌&&◌, ◌||◌, nat_le, nat_lt, List, length, Some, is_some}
use Rattle.i7_sentences.specs.declared.rule.RulePhrase.{RulePhrase}
use Rattle.i7_sentences.specs.declared.spoken.Spoken.{Spoken}
use Rattle.i7_sentences.specs.declared.spoken.Spoken.TheVariants as spoken
use Rattle.play_meaning.specs.Meant.{simple_meant}
use Rattle.play_meaning.specs.Trees as tree
use Rattle.i7_conditions.specs.Scopes.{Scope}
use Rattle.i7_conditions.specs.Words.{Word}
use Rattle.i7_conditions.specs.Readings.{IsFoundAs, one}
use Rattle.i7_conditions.specs.declared.found.Found.{Found}
use Rattle.i7_conditions.specs.declared.found.Found.TheVariants.{Read, TooMany, Unread}
use Rattle.i7_conditions.specs.declared.line.Step.{Step}
use Rattle.i7_conditions.specs.declared.line.Step.TheVariants as step
use Rattle.i7_phrases.specs.Around.{name_given}
use Rattle.i7_phrases.specs.BlockForms.{block_in}
use Rattle.i7_phrases.specs.Blocks.{Block, Opens, block_is_over, is_block}
use Rattle.i7_phrases.specs.Limits.{phrase_is_over}
use Rattle.i7_rules.specs.Doings.{Does}
use Rattle.i7_rules.specs.Knowns.{Known, repeats_around, scope_among}

pub data Stated : Type 0 where
  -- a phrase, and whether an `instead` closes it
  Done : Bool → tree.Phrase → Stated
  Begun : Block → Stated

abbrev pub States : Known → Scope → RulePhrase → Stated → Type 0
States k s p (Done is_instead phrase) = (p.is_instead ≡ is_instead) × Does k s p.said phrase
States k s p (Begun block) = Opens s p.said block

-- where these repeats are open, the outermost first
abbrev pub StatesAmong : Known → List Word → RulePhrase → Stated → Type 0
StatesAmong k names p = States k (scope_among k names) p

-- where these phrases stand before it, the last first
abbrev pub StatesBehind : Known → List RulePhrase → RulePhrase → Stated → Type 0
StatesBehind k before p = StatesAmong k (repeats_around before p) p

-- ---- limits

abbrev pub is_over : Stated → Bool
is_over (Done is_instead phrase) = phrase_is_over phrase
is_over (Begun block) = block_is_over block

-- a repeat within eight others
unfoldable pub is_ninth : List Word → RulePhrase → Bool
is_ninth names p = is_some (name_given p.said) && nat_le 8 (length names)

-- a text of over 65,535 bytes as it is written
unfoldable pub says_long : Spoken → Bool
says_long (spoken.Say pieces bytes) = nat_lt 65535 bytes
says_long (spoken.EndStory (Some text)) = nat_lt 65535 (length text)
says_long _ = false

-- whatever its words mean
abbrev pub is_beyond : List Word → RulePhrase → Bool
is_beyond names p = is_ninth names p || says_long p.said

abbrev pub is_over_among : List Word → RulePhrase → Stated → Bool
is_over_among names p stated = is_over stated || is_beyond names p

abbrev pub is_over_behind : List RulePhrase → RulePhrase → Stated → Bool
is_over_behind before p = is_over_among (repeats_around before p) p

-- ---- as it is kept

abbrev pub stated_in : Step → Stated
stated_in (step.Does simple) = Done false (simple_meant simple)
stated_in (step.Instead simple) = Done true (simple_meant simple)
stated_in block = Begun (block_in block)

abbrev pub found_stated : Found Step → Found Stated
found_stated = one stated_in

-- what means something is too many where it goes beyond a limit whatever it means
abbrev pub limited : Bool → Found Stated → Found Stated
limited false found = found
limited true (Read stated) = TooMany
limited true TooMany = TooMany
limited true Unread = Unread

-- what is found of something that is done, as a line
abbrev pub done_by : Bool → Found tree.Phrase → Found Stated
done_by is_instead = one (Done is_instead)

-- found of a phrase that others don't belong to
abbrev pub IsDone : Known → Scope → RulePhrase → Found Stated → Type 0
IsDone k s p found = is_block p.said ≡ false → IsFoundAs (States k s p) is_over found
