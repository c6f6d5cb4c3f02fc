-- Which body the phrases of a rule are, and the line at which they are none.
use Rattle.std.specs.Prelude.{◌≡◌, ℕ, false, true, List, [], ◌∷◌, reverse}
use Rattle.i7_sentences.specs.declared.rule.RulePhrase.{RulePhrase}
use Rattle.play_meaning.specs.Meant.{body_meant}
use Rattle.play_meaning.specs.Trees.{Body}
use Rattle.i7_conditions.specs.Nesting.{IsBody}
use Rattle.i7_conditions.specs.declared.line.Line.{Line}
use Rattle.i7_rules.specs.Knowns.{Known}
use Rattle.i7_rules.specs.Lines.{Stated, StatesBehind, is_over_behind, stated_in}
use Rattle.i7_rules.specs.declared.body.BodyRead.{BodyRead}
use Rattle.i7_rules.specs.declared.body.BodyRead.TheVariants as read

-- in all of these a rule's phrases come with the last first, and so do their lines

-- the names allow a reading of the phrase
abbrev pub IsUnderstood : Known → List RulePhrase → RulePhrase → Type 0
IsUnderstood k before p = (stated : Stated) × StatesBehind k before p stated

abbrev pub IsUnknown : Known → List RulePhrase → RulePhrase → Type 0
IsUnknown k before p = (stated : Stated) → StatesBehind k before p stated → ⊥

-- it is understood, but with more in it than the language allows
abbrev pub IsOver : Known → List RulePhrase → RulePhrase → Type 0
IsOver k before p = (stated : Stated) × StatesBehind k before p stated × (is_over_behind before p stated ≡ true)

-- the line says what the phrase does
pub record IsLine (k : Known) (before : List RulePhrase) (p : RulePhrase) (line : Line) : Type 0 where
  pub depth : line.depth ≡ p.depth
  pub states : StatesBehind k before p (stated_in line.step)
  pub within : is_over_behind before p (stated_in line.step) ≡ false

pub data AreLines (k : Known) : List RulePhrase → List Line → Type 0 where
  none : AreLines k [] []
  and_one : {before : List RulePhrase} {p : RulePhrase} {lines : List Line} {line : Line} → AreLines k before lines → IsLine k before p line → AreLines k (p ∷ before) (line ∷ lines)

pub data AreUnderstood (k : Known) : List RulePhrase → Type 0 where
  none : AreUnderstood k []
  and_one : {before : List RulePhrase} {p : RulePhrase} → AreUnderstood k before → IsUnderstood k before p → AreUnderstood k (p ∷ before)

-- the first phrase of the rule that isn't understood stands at this line
pub data IsUnknownAt (k : Known) : List RulePhrase → ℕ → Type 0 where
  this : {before : List RulePhrase} {p : RulePhrase} → AreUnderstood k before → IsUnknown k before p → IsUnknownAt k (p ∷ before) p.line
  one_before : {before : List RulePhrase} {p : RulePhrase} {line : ℕ} → IsUnknownAt k before line → IsUnknownAt k (p ∷ before) line

-- the first phrase of the rule that is over its limits stands at this line
pub data IsOverAt (k : Known) : List RulePhrase → ℕ → Type 0 where
  this : {before : List RulePhrase} {p : RulePhrase} {lines : List Line} → AreLines k before lines → IsOver k before p → IsOverAt k (p ∷ before) p.line
  one_before : {before : List RulePhrase} {p : RulePhrase} {line : ℕ} → IsOverAt k before line → IsOverAt k (p ∷ before) line

-- ---- what is told of a body

-- the lines of all its phrases are this body
abbrev pub IsBodyOf : Known → List RulePhrase → Body → Type 0
IsBodyOf k phrases body = (lines : List Line) × AreLines k (reverse phrases) (reverse lines) × IsBody 0 lines body

abbrev pub IsNoBody : Known → List RulePhrase → Type 0
IsNoBody k phrases = (lines : List Line) × AreLines k (reverse phrases) (reverse lines) × ((body : Body) → IsBody 0 lines body → ⊥)

abbrev pub IsBodyRead : Known → List RulePhrase → BodyRead → Type 0
IsBodyRead k phrases (read.Says body) = IsBodyOf k phrases (body_meant body.items)
IsBodyRead k phrases (read.Unknown line) = IsUnknownAt k (reverse phrases) line
IsBodyRead k phrases (read.TooMany line) = AreUnderstood k (reverse phrases) × IsOverAt k (reverse phrases) line
IsBodyRead k phrases read.Unnested = IsNoBody k phrases
