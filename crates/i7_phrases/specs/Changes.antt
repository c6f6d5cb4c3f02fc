-- What phrases that change the world do (*Writing with Inform*, chapters 8 and 15): `now`, `move`, `increase`, `decrease`.
use Rattle.std.specs.Prelude.{◌≡◌, ℕ, Bool, true, false, not, List, [], ◌∷◌, Option, None, Some, codes}
use Rattle.world_meaning.specs.Spelling.{is_spelled}
use Rattle.world_meaning.specs.declared.place.Rel.{Rel}
use Rattle.world_meaning.specs.declared.place.Rel.TheVariants.{Carried, Worn}
use Rattle.play_meaning.specs.Meant.{by_operator}
use Rattle.play_meaning.specs.Trees as tree
use Rattle.play_meaning.specs.declared.tree.number.Operator.{Operator}
use Rattle.play_meaning.specs.declared.tree.object.Adjective.{Adjective}
use Rattle.play_meaning.specs.declared.tree.object.Quality.{Quality}
use Rattle.play_meaning.specs.declared.tree.object.Quality.TheVariants.{Is, Touchable, Valued, Visible}
use Rattle.play_meaning.specs.declared.tree.object.Side.{Side}
use Rattle.play_meaning.specs.declared.tree.object.Side.TheVariants.{First, Second}
use Rattle.i7_conditions.specs.Adjectives.{adjective_named, quality_named}
use Rattle.i7_conditions.specs.Between.{Both, IsParted}
use Rattle.i7_conditions.specs.Clauses.{split_is}
use Rattle.i7_conditions.specs.Numbers.{CountsAs}
use Rattle.i7_conditions.specs.Objects.{Means}
use Rattle.i7_conditions.specs.Readings.{FirstOf}
use Rattle.i7_conditions.specs.Relations.{relation_at}
use Rattle.i7_conditions.specs.Scopes.{Scope}
use Rattle.i7_conditions.specs.Values.{SaysValue, Valuing}
use Rattle.i7_conditions.specs.Words.{Word, without_article}
use Rattle.i7_phrases.specs.Cells.{IsCell, read, set}

-- ---- `now OBJECT is ..`

-- a property's second name takes it away, and `not` turns that round
abbrev pub value_by : Side → Bool → Bool
value_by First denied = not denied
value_by Second denied = denied

-- the either-or property that an adjective names, and the value that it gives it; nothing is made visible
abbrev pub flag_in : Quality → Bool → Option (ℕ × Bool)
flag_in (Is property side) denied = Some (property, value_by side denied)
flag_in (Valued q value) denied = None
flag_in Visible denied = None
flag_in Touchable denied = None

abbrev pub flag_of : Option Adjective → Option (ℕ × Bool)
flag_of None = None
flag_of (Some adjective) = flag_in adjective.quality adjective.denied

abbrev pub MakesSo : Scope → List Word → List Word → tree.Phrase → Type 0
MakesSo s subject behind p = (flag : ℕ × Bool) × (flag_of (adjective_named s behind) ≡ Some flag) × ((o : tree.Object) × Means s subject o × (p ≡ tree.NowIs o flag.0 flag.1))

-- `in the box`, `carried by Bob`
abbrev pub PutsIn : Scope → List Word → List Word → tree.Phrase → Type 0
PutsIn s subject behind p =
    (place : Rel × List Word) × (relation_at behind ≡ Some place) × ((o : tree.Object) × (holder : tree.Object) × Means s subject o × Means s place.1 holder × (p ≡ tree.NowHeld o place.0 holder))

abbrev pub is_nowhere : List Word → Bool
is_nowhere [] = false
is_nowhere (word ∷ []) = is_spelled word (codes "nowhere")
is_nowhere (word ∷ other ∷ words) = false

abbrev pub TakesAway : Scope → List Word → List Word → tree.Phrase → Type 0
TakesAway s subject behind p = (is_nowhere behind ≡ true) × ((o : tree.Object) × Means s subject o × (p ≡ tree.NowNowhere o))

abbrev pub Sets : Scope → List Word → List Word → tree.Phrase → Type 0
Sets s subject behind p = (cell : _) × (n : tree.Number) × IsCell s subject cell × CountsAs s behind n × (p ≡ set cell n)

abbrev pub given : Valuing → tree.Phrase
given v = tree.NowValued v.object v.kind v.value

-- `the KIND of OBJECT`, and a value of that kind
abbrev pub GivesValue : Scope → List Word → List Word → tree.Phrase → Type 0
GivesValue s subject behind p = (v : Valuing) × SaysValue s subject behind v × (p ≡ given v)

-- the kind of value and the value, if words name one
abbrev pub value_of : Option Quality → Option (ℕ × ℕ)
value_of None = None
value_of (Some (Valued q value)) = Some (q, value)
value_of (Some _) = None

-- a value's name, one article in front being free, without a `not`
abbrev pub MakesValued : Scope → List Word → List Word → tree.Phrase → Type 0
MakesValued s subject behind p =
    (value : ℕ × ℕ) × (value_of (quality_named s (without_article behind)) ≡ Some value) × ((o : tree.Object) × Means s subject o × (p ≡ tree.NowValued o value.0 value.1))

abbrev pub SetsValue : Scope → List Word → List Word → tree.Phrase → Type 0
SetsValue s subject behind = FirstOf (GivesValue s subject behind) (MakesValued s subject behind)

-- what `now SUBJECT is ..` does
abbrev pub Becomes : Scope → List Word → List Word → tree.Phrase → Type 0
Becomes s subject behind =
    FirstOf (MakesSo s subject behind) (FirstOf (PutsIn s subject behind) (FirstOf (TakesAway s subject behind) (FirstOf (Sets s subject behind) (SetsValue s subject behind))))

-- words without an `is` make nothing so
abbrev pub BecomesIn : Scope → Option (List Word × List Word) → tree.Phrase → Type 0
BecomesIn s None p = ⊥
BecomesIn s (Some parts) p = Becomes s parts.0 parts.1 p

-- ---- the others

abbrev pub given_so : Rel → Both → tree.Phrase
given_so relation both = tree.NowHeld both.1 relation both.0

-- `now HOLDER carries OBJECT`, `now HOLDER wears OBJECT`, by the verb
abbrev pub Gives : Rel → List ℕ → Scope → List Word → tree.Phrase → Type 0
Gives relation verb s words p = (both : Both) × IsParted s verb words both × (p ≡ given_so relation both)

-- names may hold `carries` and `wears`: of the readings that there are the first is meant
abbrev pub Now : Scope → List Word → tree.Phrase → Type 0
Now s words = FirstOf (BecomesIn s (split_is words)) (FirstOf (Gives Carried (codes "carries") s words) (Gives Worn (codes "wears") s words))

abbrev pub moved_so : Both → tree.Phrase
moved_so both = tree.Move both.0 both.1

-- `move OBJECT to HOLDER`
abbrev pub Moves : Scope → List Word → tree.Phrase → Type 0
Moves s words p = (both : Both) × IsParted s (codes "to") words both × (p ≡ moved_so both)

-- `increase .. by ..`, `decrease .. by ..`
abbrev pub Adds : Operator → Scope → List Word → List Word → tree.Phrase → Type 0
Adds operator s value amount p = (cell : _) × (n : tree.Number) × IsCell s value cell × CountsAs s amount n × (p ≡ set cell (by_operator operator (read cell) n))
