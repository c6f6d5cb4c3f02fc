-- What no source may hold, and on which line.
use Rattle.std.specs.Prelude.{◌≡◌, ℕ, ◌<◌, ◌≤◌, List, length}
use Rattle.world_meaning.specs.declared.fault.Fault.{Fault}
use Rattle.world_meaning.specs.declared.fault.FaultCode.{FaultCode}
use Rattle.world_meaning.specs.declared.fault.FaultCode.TheVariants.{TooLong, NotText, Unclosed, BadIndent, Memory}
use Rattle.i7_lexer.specs.declared.placed.Placed.{Placed}
use Rattle.i7_lexer.specs.Sources.{text_of, line_at, IsFirstBad, IsText}
use Rattle.i7_lexer.specs.Cuts.{IsPlaced, IsUnclosedIn}
use Rattle.i7_lexer.specs.Indents.{IsTooDeep}

-- how many bytes a source may have
abbrev pub longest : ℕ
longest = 262144

-- a source within the limit, all of whose bytes are characters of a source
pub record IsReadable (source : List ℕ) : Type 0 where
  pub short : length source ≤ longest
  pub text : IsText (text_of source)

-- the first character that isn't one of a source's stands on that line
pub record IsNoText (text : List ℕ) (line : ℕ) : Type 0 where
  pub place : ℕ
  pub bad : IsFirstBad text place
  pub line_is : line ≡ line_at text place

-- a line of a text is deeper than the line before lets it be
pub record IsDeepIn (text : List ℕ) (line : ℕ) : Type 0 where
  pub placed : List Placed
  pub parts : IsPlaced text placed
  pub deep : IsTooDeep placed line

-- a source is refused with that code at that line; memory may be refused at any source within the limit
abbrev pub Stands : FaultCode → ℕ → List ℕ → Type 0
Stands TooLong line source = (longest < length source) × (line ≡ line_at source longest)
Stands NotText line source = (length source ≤ longest) × IsNoText (text_of source) line
Stands Unclosed line source = IsReadable source × IsUnclosedIn (text_of source) line
Stands BadIndent line source = IsReadable source × IsDeepIn (text_of source) line
Stands Memory line source = (length source ≤ longest) × (line ≡ 1)
Stands _ line source = ⊥

abbrev pub IsRefused : List ℕ → Fault → Type 0
IsRefused source fault = Stands fault.code fault.line source
