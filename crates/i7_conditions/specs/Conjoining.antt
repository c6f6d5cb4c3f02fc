-- Conditions by their words: what each part asks, joined from the first part on.
use Rattle.std.specs.Prelude.{Bool, List, [], ◌∷◌, Option, None, Some}
use Rattle.std.specs.List.{slice_split}
use Rattle.play_meaning.specs.Meant.{condition_meant, conjunction_meant}
use Rattle.play_meaning.specs.Trees as tree
use Rattle.play_meaning.specs.declared.tree.condition.Condition.{Condition}
use Rattle.play_meaning.specs.declared.tree.condition.Conjunction.{Conjunction}
use Rattle.i7_conditions.specs.ClauseForms.{clause_said}
use Rattle.i7_conditions.specs.Conditions.{is_and, is_or}
use Rattle.i7_conditions.specs.Readings.{two}
use Rattle.i7_conditions.specs.Scopes.{Scope}
use Rattle.i7_conditions.specs.Words.{Word, is_from}
use Rattle.i7_conditions.specs.declared.found.Found.{Found}
use Rattle.i7_conditions.specs.declared.found.Found.TheVariants.{Read, TooMany, Unread}
use Rattle.i7_conditions.specs.declared.joint.Joint.{Joint}
use Rattle.i7_conditions.specs.declared.joint.Joint.TheVariants.{And, From, Or}

abbrev pub is_joint : Joint → Word → Bool
is_joint From = is_from
is_joint And = is_and
is_joint Or = is_or

-- the parts of words that stand behind a joint, if there was one
abbrev pub parts_behind : Joint → Option (List Word) → List (List Word)
parts_behind joint None = []
parts_behind joint (Some words) = slice_split (is_joint joint) words

abbrev pub joined_behind : (tree.Condition → tree.Condition → tree.Condition) → (List Word → Found tree.Condition) → Found tree.Condition → List (List Word) → Found tree.Condition
joined_behind join said front [] = front
joined_behind join said front (part ∷ parts) = joined_behind join said (two join front (said part)) parts

abbrev pub joined_parts : (tree.Condition → tree.Condition → tree.Condition) → (List Word → Found tree.Condition) → List (List Word) → Found tree.Condition
joined_parts join said [] = Unread
joined_parts join said (part ∷ parts) = joined_behind join said (said part) parts

unfoldable pub conjunction_said : Scope → List Word → Found tree.Condition
conjunction_said s words = joined_parts tree.And (clause_said s) (slice_split is_and words)

unfoldable pub condition_said : Scope → List Word → Found tree.Condition
condition_said s words = joined_parts tree.Or (conjunction_said s) (slice_split is_or words)

abbrev pub found_conjunction : Found Conjunction → Found tree.Condition
found_conjunction (Read c) = Read (conjunction_meant c)
found_conjunction TooMany = TooMany
found_conjunction Unread = Unread

abbrev pub found_condition : Found Condition → Found tree.Condition
found_condition (Read c) = Read (condition_meant c)
found_condition TooMany = TooMany
found_condition Unread = Unread
