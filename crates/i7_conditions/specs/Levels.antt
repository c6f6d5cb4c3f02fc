-- The body of lines, put together from the last line to the first: what was read so far at each depth, the outermost first.
use Rattle.std.specs.Prelude.{ℕ, zero, suc, Bool, true, false, List, [], ◌∷◌, Option, Some, None, map, option_map, reverse, if◌then◌else◌}
use Rattle.play_meaning.specs.Meant.{body_meant, branches_meant, condition_meant, description_meant, simple_meant}
use Rattle.play_meaning.specs.Trees.{Body, End, If, Instead, Phrase, Repeat, Then}
use Rattle.i7_conditions.specs.declared.line.Line.{Line}
use Rattle.i7_conditions.specs.declared.line.Step.{Step}
use Rattle.i7_conditions.specs.declared.line.Step.TheVariants as step
use Rattle.i7_conditions.specs.declared.nesting.Level.{Level as Kept}

-- phrases; in front of them, perhaps, what is done otherwise, whose `if` is still to come
pub record Level : Type 0 where
  pub waits : Bool
  pub others : Body
  pub body : Body

abbrev pub level_of : Kept → Level
level_of level = record {
  waits = level.waits;
  others = branches_meant (reverse level.branches.items) (body_meant level.others.items);
  body = body_meant (reverse level.phrases.items);
}

abbrev pub levels_of : List Kept → List Level
levels_of levels = map level_of levels

abbrev pub no_level : Level
no_level = record { waits = false; others = End; body = End }

-- with a phrase in front; none where an `otherwise` waits for its `if`
abbrev pub with_phrase : Phrase → Level → Option Level
with_phrase phrase level = if level.waits then None else Some (record level { body = Then phrase level.body })

abbrev pub with_otherwise : Body → Level → Option Level
with_otherwise inner level = if level.waits then None else Some (record level { waits = true; others = inner })

-- a line with the deeper ones that belong to it, in front of those of its own depth
abbrev pub with_inner : Step → Body → Level → Option Level
with_inner (step.Does simple) inner level = None
with_inner (step.Instead simple) inner level = None
with_inner (step.If condition) inner level = Some (record { waits = false; others = End; body = Then (If (condition_meant condition) inner level.others) level.body })
with_inner (step.OtherwiseIf condition) inner level = Some (record level { waits = true; others = Then (If (condition_meant condition) inner level.others) End })
with_inner step.Otherwise inner level = with_otherwise inner level
with_inner (step.Repeat description) inner level = with_phrase (Repeat (description_meant description) inner) level

-- a line behind which none is deeper
abbrev pub alone : Step → Level → Option Level
alone (step.Does simple) level = with_phrase (simple_meant simple) level
alone (step.Instead simple) level = with_phrase (Instead (simple_meant simple)) level
alone step level = with_inner step End level

-- what stands deeper must be whole
abbrev pub behind : Step → Level → Level → Option Level
behind step inner level = if inner.waits then None else with_inner step inner.body level

abbrev pub only : Level → List Level
only level = level ∷ []

-- a line of this depth in front
abbrev pub placed : ℕ → Step → List Level → Option (List Level)
placed zero step [] = option_map only (alone step no_level)
placed zero step (level ∷ []) = option_map only (alone step level)
placed zero step (level ∷ inner ∷ []) = option_map only (behind step inner level)
placed zero step (level ∷ inner ∷ deeper ∷ levels) = None
placed (suc depth) step [] = option_map (λ levels. no_level ∷ levels) (placed depth step [])
placed (suc depth) step (level ∷ levels) = option_map (λ levels. level ∷ levels) (placed depth step levels)

abbrev pub placed_on : Line → Option (List Level) → Option (List Level)
placed_on line None = None
placed_on line (Some levels) = placed line.depth line.step levels

-- lines in front of these levels, the last first
abbrev pub levels_on : List Level → List Line → Option (List Level)
levels_on levels [] = Some levels
levels_on levels (line ∷ lines) = placed_on line (levels_on levels lines)

-- a body is whole where one level is left at most, and nothing waits
abbrev pub whole : List Level → Option Body
whole [] = Some End
whole (level ∷ []) = if level.waits then None else Some level.body
whole (level ∷ inner ∷ levels) = None

abbrev pub whole_if : Option (List Level) → Option Body
whole_if None = None
whole_if (Some levels) = whole levels

unfoldable pub nested : List Line → Option Body
nested lines = whole_if (levels_on [] lines)
