-- Which story file a source has, and which refusal.
use Rattle.std.specs.Prelude.{◌≡◌, ◌≢◌, ℕ, ◌≤◌, List, length}
use Rattle.world_meaning.specs.declared.fault.Fault.{Fault}
use Rattle.world_meaning.specs.declared.fault.FaultCode.TheVariants.{TooMany}
use Rattle.world_meaning.specs.Faults.{out_of_memory}
use Rattle.world_meaning.specs.declared.tale.Tale.{Tale}
use Rattle.play_meaning.specs.Games.{Game}
use Rattle.play_meaning.specs.Scripts.{game_of}
use Rattle.i7_lexer.specs.Readings.{HasTokens}
use Rattle.i7_lexer.specs.Refusals.{IsRefused as IsUnspelled, longest}
use Rattle.i7_lexer.specs.declared.token.Token.{Token}
use Rattle.i7_sentences.specs.Sources.{HasSentences, IsRefused as IsUnread}
use Rattle.i7_sentences.specs.declared.sentence.Sentence.{Sentence}
use Rattle.code_table.specs.declared.fault.TableFault.{TableFault}
use Rattle.code_table.specs.declared.fault.TableFault.TheVariants.{Memory}
use Rattle.story_format.specs.Carrying.{Carries}
use Rattle.story_format.specs.Contents.{Contents}
use Rattle.story_format.specs.Holding.{AreHeld, AreNotHeld}
use Rattle.story_format.specs.Making.{tables_of}
use Rattle.story_format.specs.Spells.{Spells}
use Rattle.story_format.specs.TaleScripts.{whole_script}
use Rattle.story_format.specs.declared.tables.Tables.{Tables}
use Rattle.story_file.specs.LongOnes.{IsToldAt}
use Rattle.story_file.specs.Meanings.{AreMeant, AreRefused}

-- the game of a tale of which this is said: with the rules that every story has
abbrev pub game_meant : Tale → Contents → Game
game_meant tale said = game_of (whole_script tale said)

-- A source says these sentences: they are spelled by the tokens that it spells.
pub record Says (source : List ℕ) (sentences : List Sentence) : Type 0 where
  pub tokens : List Token
  pub spells : HasTokens source tokens
  pub reads : HasSentences tokens sentences

-- A source's sentences mean this tale, and say this of it.
pub record Means (source : List ℕ) (tale : Tale) (said : Contents) : Type 0 where
  pub sentences : List Sentence
  pub says : Says source sentences
  pub meant : AreMeant sentences tale said

-- A source has this story file: it spells the tables of the tale that the source's sentences mean, with codes for what its
-- descriptions say, for its rules, listed as its sentences say, and for what its scenes begin and end on, and these tables carry the
-- tale, its commands among it.
pub record IsCompiled (source bytes : List ℕ) : Type 0 where
  pub tale : Tale
  pub said : Contents
  pub means : Means source tale said
  pub held : AreHeld tale said
  pub tables : Tables
  pub tables_are : tables ≡ tables_of tale said
  pub carries : Carries tables tale said
  pub spells : Spells bytes tables

-- A source's tokens are refused.
pub record IsUnreadSource (source : List ℕ) (fault : Fault) : Type 0 where
  pub tokens : List Token
  pub spells : HasTokens source tokens
  pub unread : IsUnread tokens fault

-- What a source's sentences say is refused.
pub record IsUnmeant (source : List ℕ) (fault : Fault) : Type 0 where
  pub sentences : List Sentence
  pub says : Says source sentences
  pub refused : AreRefused sentences fault

-- how it is told that no story file says this of a tale, for another reason than memory: at the lowest line of what is too long
pub record IsTold (sentences : List Sentence) (tale : Tale) (said : Contents) (reason : TableFault) (fault : Fault) : Type 0 where
  pub other : reason ≢ Memory
  pub code_is : fault.code ≡ TooMany
  pub line_is : IsToldAt sentences tale said fault.line

-- A source means a tale of which no story file says what is said of it.
pub record IsUnheldSource (source : List ℕ) (fault : Fault) : Type 0 where
  pub tale : Tale
  pub said : Contents
  pub means : Means source tale said
  pub reason : TableFault
  pub not_held : AreNotHeld tale said reason
  pub told : IsTold means.sentences tale said reason fault

-- A source is refused: by its bytes, its tokens, what its sentences say, or for descriptions, rules and scenes that no story file says;
-- or, within the limit, memory was refused.
pub data IsRefused : List ℕ → Fault → Type 0 where
  unspelled : {source : List ℕ} {fault : Fault} → IsUnspelled source fault → IsRefused source fault
  unread : {source : List ℕ} {fault : Fault} → IsUnreadSource source fault → IsRefused source fault
  unmeant : {source : List ℕ} {fault : Fault} → IsUnmeant source fault → IsRefused source fault
  unheld : {source : List ℕ} {fault : Fault} → IsUnheldSource source fault → IsRefused source fault
  memory : {source : List ℕ} {fault : Fault} → length source ≤ longest → fault ≡ out_of_memory → IsRefused source fault
