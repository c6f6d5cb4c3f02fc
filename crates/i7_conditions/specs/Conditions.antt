-- What a condition asks: clauses that `and` joins, and what these are together, joined by `or` (*Writing with Inform*, 11.8).
use Rattle.std.specs.Prelude.{◌≡◌, Bool, List, [], ◌∷◌, codes}
use Rattle.std.specs.List.{slice_split}
use Rattle.world_meaning.specs.Spelling.{is_spelled}
use Rattle.play_meaning.specs.Trees.{And, Condition, Or}
use Rattle.i7_conditions.specs.Clauses.{Asks}
use Rattle.i7_conditions.specs.Scopes.{Scope}
use Rattle.i7_conditions.specs.Words.{Word}

unfoldable pub is_and : Word → Bool
is_and word = is_spelled word (codes "and")

unfoldable pub is_or : Word → Bool
is_or word = is_spelled word (codes "or")

-- each part means a condition, which is joined to all in front of it
abbrev pub JoinsBehind : (Condition → Condition → Condition) → (List Word → Condition → Type 0) → Condition → List (List Word) → Condition → Type 0
JoinsBehind join Means front [] c = c ≡ front
JoinsBehind join Means front (part ∷ parts) c = (d : Condition) × Means part d × JoinsBehind join Means (join front d) parts c

abbrev pub Joins : (Condition → Condition → Condition) → (List Word → Condition → Type 0) → List (List Word) → Condition → Type 0
Joins join Means [] c = ⊥
Joins join Means (part ∷ parts) c = (first : Condition) × Means part first × JoinsBehind join Means first parts c

abbrev pub AsksAll : Scope → List Word → Condition → Type 0
AsksAll s words = Joins And (Asks s) (slice_split is_and words)

-- `and` binds closer than `or`
abbrev pub IsCondition : Scope → List Word → Condition → Type 0
IsCondition s words = Joins Or (AsksAll s) (slice_split is_or words)
