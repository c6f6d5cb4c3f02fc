-- Words that name an object as openings and names, in their order.
use Rattle.std.specs.Prelude.{nat_lt, Bool, ◌&&◌, List, [], ◌∷◌, ◌++◌, length, flat_map, Option, Some, None, is_none, if◌then◌else◌}
use Rattle.std.specs.List.{list_any, slice_split}
use Rattle.world_meaning.specs.Spelling.{is_article}
use Rattle.i7_conditions.specs.Plain.{plainly_named}
use Rattle.i7_conditions.specs.Scopes.{Scope}
use Rattle.i7_conditions.specs.Words.{Word, begins_beyond, beyond_of, is_from, without_article}
use Rattle.i7_conditions.specs.declared.mark.Mark.{Mark}
use Rattle.i7_conditions.specs.declared.mark.Mark.TheVariants.{Unknown}

abbrev pub has_from : List Word → Bool
has_from words = list_any is_from words

-- ---- a run of words without `from`

-- what a word is where no name begins: `room` or `door`, an article in front of one, or neither
abbrev pub opening_by : Option Mark → Word → List Word → Option (Option Mark)
opening_by (Some way) word after = Some (Some way)
opening_by None word after = if is_article word && begins_beyond after then Some None else None

abbrev pub opening : Word → List Word → Option (Option Mark)
opening word after = opening_by (beyond_of word) word after

abbrev pub opened : Option Mark → List Mark
opened None = []
opened (Some way) = way ∷ []

abbrev pub opened_or_unknown : Option (Option Mark) → List Mark → List Mark
opened_or_unknown None more = Unknown ∷ []
opened_or_unknown (Some way) more = opened way ++ more

abbrev pub named_or : Option Mark → List Mark → List Mark
named_or (Some mark) other = mark ∷ []
named_or None other = other

-- a name goes before what opens, as `room key` before a `room`
abbrev pub run_marks : Scope → List Word → List Mark
run_marks s [] = Unknown ∷ []
run_marks s (word ∷ words) = named_or (plainly_named s (word ∷ words)) (opened_or_unknown (opening word words) (run_marks s words))

-- ---- words

-- runs that are parted by `from`
abbrev pub marks_in : Scope → List Word → List Mark
marks_in s words = flat_map (run_marks s) (slice_split is_from words)

abbrev pub opens_with : Option Mark → List Word → Option (Mark × List Word)
opens_with None rest = None
opens_with (Some way) rest = Some (way, rest)

abbrev pub opening_and_rest : List Word → Option (Mark × List Word)
opening_and_rest [] = None
opening_and_rest (word ∷ rest) = opens_with (beyond_of word) rest

-- what words open with, one article in front being free, and the words behind it
abbrev pub split_opening : List Word → Option (Mark × List Word)
split_opening words = opening_and_rest (without_article words)

abbrev pub marks_behind : Scope → Option (Mark × List Word) → List Mark
marks_behind s None = Unknown ∷ []
marks_behind s (Some parts) = parts.0 ∷ marks_in s parts.1

-- words that hold a `from` begin with an opening
abbrev pub marks_beyond : Scope → List Word → List Mark
marks_beyond s words = marks_behind s (split_opening words)

-- words that are too many for a name and open nothing name nothing, which is told without a look at them all
abbrev pub names_nothing : List Word → Bool
names_nothing words = nat_lt 33 (length words) && is_none (split_opening words)

abbrev pub mark_named : Option Mark → Mark
mark_named None = Unknown
mark_named (Some mark) = mark

abbrev pub marks_of : Scope → List Word → List Mark
marks_of s words = if has_from words then marks_beyond s words else mark_named (plainly_named s words) ∷ []
