-- Which question a clause of a condition asks (*Writing with Inform*, 11.7 and 11.8).
use Rattle.std.specs.Prelude.{◌≡◌, ℕ, Bool, true, false, ◌&&◌, ◌||◌, List, [], ◌∷◌, take, drop, Option, Some, None, codes, if◌then◌else◌}
use Rattle.std.specs.List.{position_or_len}
use Rattle.world_meaning.specs.Spelling.{is_spelled}
use Rattle.world_meaning.specs.declared.place.Rel.TheVariants.{Carried, Worn}
use Rattle.play_meaning.specs.Trees as tree
use Rattle.i7_conditions.specs.Between.{Both, IsParted}
use Rattle.i7_conditions.specs.Keys.{around, known, plain_key}
use Rattle.i7_conditions.specs.Numbers.{CountsAs}
use Rattle.i7_conditions.specs.Objects.{Means}
use Rattle.i7_conditions.specs.Predicates.{Predicate, Says, SaysSo, is_deep, is_long, said_of}
use Rattle.i7_conditions.specs.Readings.{FirstOf}
use Rattle.i7_conditions.specs.Scopes.{Scope}
use Rattle.i7_conditions.specs.Terms.{is_over}
use Rattle.i7_conditions.specs.Values.{SaysValue, Valuing}
use Rattle.i7_conditions.specs.Words.{Word, is_not}
use Rattle.i7_conditions.specs.declared.comparison.Comparison.{Comparison}
use Rattle.i7_conditions.specs.declared.comparison.Comparison.TheVariants.{AtLeast, AtMost, Greater, Less}
use Rattle.i7_conditions.specs.declared.meaning.Meaning.{Meaning}
use Rattle.i7_conditions.specs.declared.meaning.Meaning.TheVariants as meaning
use Rattle.i7_conditions.specs.declared.verb.Verb.{Verb}
use Rattle.i7_conditions.specs.declared.verb.Verb.TheVariants.{Carries, Encloses, Has, Wears}

-- ---- `is`

unfoldable pub is_is : Word → Bool
is_is word = is_spelled word (codes "is")

-- the words in front of the first `is`, and those behind it: no name holds one
abbrev pub split_is : List Word → Option (List Word × List Word)
split_is words = around (take (position_or_len is_is words) words) (drop (position_or_len is_is words) words)

abbrev pub scene_in : Option Meaning → Option ℕ
scene_in None = None
scene_in (Some (meaning.Scene k)) = Some k
scene_in (Some _) = None

abbrev pub scene_named : Scope → List Word → Option ℕ
scene_named s words = scene_in (known s (plain_key words))

abbrev pub is_happening : List Word → Bool
is_happening [] = false
is_happening (word ∷ []) = is_spelled word (codes "happening")
is_happening (word ∷ other ∷ words) = false

abbrev pub has_value : Valuing → tree.Condition
has_value v = tree.IsSo v.object (tree.Valued v.kind v.value)

-- `the KIND of OBJECT is VALUE`
abbrev pub OfValue : Scope → List Word → List Word → tree.Condition → Type 0
OfValue s subject predicate c = (v : Valuing) × SaysValue s subject predicate v × (c ≡ has_value v)

abbrev pub OfObject : Scope → List Word → List Word → tree.Condition → Type 0
OfObject s subject predicate c = (o : tree.Object) × (p : Predicate) × Means s subject o × Says s predicate p × (c ≡ said_of o p)

abbrev pub OfNumbers : Scope → List Word → List Word → tree.Condition → Type 0
OfNumbers s subject predicate c = (m : tree.Number) × (n : tree.Number) × CountsAs s subject m × CountsAs s predicate n × (c ≡ tree.Equals m n)

abbrev pub OfScene : Scope → List Word → List Word → tree.Condition → Type 0
OfScene s subject predicate c = (k : ℕ) × (scene_named s subject ≡ Some k) × (is_happening predicate ≡ true) × (c ≡ tree.Happens k)

-- no other adjective is named as a value is, so that a value is told where an adjective would be, in front of all else
abbrev pub Plainly : Scope → List Word → List Word → tree.Condition → Type 0
Plainly s subject predicate = FirstOf (OfValue s subject predicate) (FirstOf (OfObject s subject predicate) (FirstOf (OfNumbers s subject predicate) (OfScene s subject predicate)))

abbrev pub behind_not : List Word → Option (List Word)
behind_not [] = None
behind_not (word ∷ words) = if is_not word then Some words else None

-- `is not`
abbrev pub Denied : Scope → List Word → List Word → tree.Condition → Type 0
Denied s subject predicate c = (rest : List Word) × (behind_not predicate ≡ Some rest) × ((d : tree.Condition) × Plainly s subject rest d × (c ≡ tree.Not d))

abbrev pub behind_nots : List Word → Option (List Word)
behind_nots [] = None
behind_nots (word ∷ words) = if is_not word then behind_not words else None

abbrev pub OfAdjective : Scope → List Word → List Word → tree.Condition → Type 0
OfAdjective s subject words c = (o : tree.Object) × (p : Predicate) × Means s subject o × SaysSo s words p × (c ≡ said_of o p)

-- `is not not ADJECTIVE`: what is denied twice is so, also of nothing, of which no adjective is
abbrev pub DeniedTwice : Scope → List Word → List Word → tree.Condition → Type 0
DeniedTwice s subject predicate c = (rest : List Word) × (behind_nots predicate ≡ Some rest) × OfAdjective s subject rest c

abbrev pub compared : Comparison → tree.Number → tree.Number → tree.Condition
compared Greater a b = tree.IsLess b a
compared Less a b = tree.IsLess a b
compared AtLeast a b = tree.IsAtMost b a
compared AtMost a b = tree.IsAtMost a b

-- `greater than`, `less than`, `at least`, `at most`
unfoldable pub comparison_of : Word → Word → Option Comparison
comparison_of first second =
    if is_spelled second (codes "than") then (if is_spelled first (codes "greater") then Some Greater else (if is_spelled first (codes "less") then Some Less else None))
    else (if is_spelled first (codes "at") then (if is_spelled second (codes "least") then Some AtLeast else (if is_spelled second (codes "most") then Some AtMost else None)) else None)

abbrev pub with_rest : Option Comparison → List Word → Option (Comparison × List Word)
with_rest None rest = None
with_rest (Some how) rest = Some (how, rest)

abbrev pub comparison_at : List Word → Option (Comparison × List Word)
comparison_at [] = None
comparison_at (first ∷ []) = None
comparison_at (first ∷ second ∷ rest) = with_rest (comparison_of first second) rest

abbrev pub Compared : Scope → List Word → List Word → tree.Condition → Type 0
Compared s subject predicate c =
    (parts : Comparison × List Word) × (comparison_at predicate ≡ Some parts) × ((m : tree.Number) × (n : tree.Number) × CountsAs s subject m × CountsAs s parts.1 n × (c ≡ compared parts.0 m n))

abbrev pub AsksBy : Scope → List Word → List Word → tree.Condition → Type 0
AsksBy s subject predicate =
    FirstOf (Plainly s subject predicate) (FirstOf (Denied s subject predicate) (FirstOf (DeniedTwice s subject predicate) (Compared s subject predicate)))

-- ---- verbs

abbrev pub spelling : Verb → List ℕ
spelling Carries = codes "carries"
spelling Wears = codes "wears"
spelling Has = codes "has"
spelling Encloses = codes "encloses"

abbrev pub done_by : Verb → tree.Object → tree.Object → tree.Condition
done_by Carries holder o = tree.IsHeld o Carried holder
done_by Wears holder o = tree.IsHeld o Worn holder
done_by Has holder o = tree.Has holder o
done_by Encloses holder o = tree.Encloses holder o

abbrev pub asked_of : Verb → Both → tree.Condition
asked_of verb both = done_by verb both.0 both.1

abbrev pub Does : Scope → Verb → List Word → tree.Condition → Type 0
Does s verb words c = (both : Both) × IsParted s (spelling verb) words both × (c ≡ asked_of verb both)

abbrev pub is_a_description : List Word → Bool
is_a_description (first ∷ second ∷ third ∷ []) = is_spelled first (codes "has") && is_spelled second (codes "a") && is_spelled third (codes "description")
is_a_description _ = false

-- `O has a description`
abbrev pub HasText : Scope → List Word → tree.Condition → Type 0
HasText s words c = (n : ℕ) × (o : tree.Object) × (is_a_description (drop n words) ≡ true) × Means s (take n words) o × (c ≡ tree.HasDescription o)

abbrev pub AsksByVerb : Scope → List Word → tree.Condition → Type 0
AsksByVerb s words = FirstOf (HasText s words) (FirstOf (Does s Carries words) (FirstOf (Does s Wears words) (FirstOf (Does s Has words) (Does s Encloses words))))

-- ---- clauses

abbrev pub is_darkness : List Word → Bool
is_darkness (first ∷ second ∷ []) = is_spelled first (codes "in") && is_spelled second (codes "darkness")
is_darkness _ = false

abbrev pub InTheDark : List Word → tree.Condition → Type 0
InTheDark words c = (is_darkness words ≡ true) × (c ≡ tree.InDarkness)

abbrev pub NotInTheDark : List Word → tree.Condition → Type 0
NotInTheDark words c = (rest : List Word) × (behind_not words ≡ Some rest) × (is_darkness rest ≡ true) × (c ≡ tree.Not tree.InDarkness)

-- words with an `is` are read by it
abbrev pub AsksIn : Scope → List Word → Option (List Word × List Word) → tree.Condition → Type 0
AsksIn s words None = AsksByVerb s words
AsksIn s words (Some parts) = AsksBy s parts.0 parts.1

abbrev pub Asks : Scope → List Word → tree.Condition → Type 0
Asks s words = FirstOf (InTheDark words) (FirstOf (NotInTheDark words) (AsksIn s words (split_is words)))

-- more than 9 adjectives, or more than 8 `from`s within one another
abbrev pub asks_over : tree.Condition → Bool
asks_over (tree.IsSo o adjective) = is_deep o
asks_over (tree.IsOne o description) = is_deep o || is_long description
asks_over (tree.IsSame a b) = is_deep a || is_deep b
asks_over (tree.IsHeld o relation holder) = is_deep o || is_deep holder
asks_over (tree.IsHeldByOne o relation description) = is_deep o || is_long description
asks_over (tree.Has holder o) = is_deep holder || is_deep o
asks_over (tree.Encloses holder o) = is_deep holder || is_deep o
asks_over (tree.HasDescription o) = is_deep o
asks_over (tree.Equals a b) = is_over a || is_over b
asks_over (tree.IsLess a b) = is_over a || is_over b
asks_over (tree.IsAtMost a b) = is_over a || is_over b
asks_over (tree.Happens k) = false
asks_over tree.InDarkness = false
asks_over (tree.Not c) = asks_over c
asks_over (tree.And c d) = asks_over c || asks_over d
asks_over (tree.Or c d) = asks_over c || asks_over d
