-- Of which kinds sentences may say a property, and which kinds of a tale have it: the same.
use Rattle.std.specs.Prelude.{◌≡◌, ℕ, ◌++◌, List, map, Decides, slice_get, Some, Ok}
use Rattle.world_meaning.specs.Declarations.{is_had}
use Rattle.world_meaning.specs.declared.declared.Declared.{Declared}
use Rattle.world_meaning.specs.declared.declared.Granted.{Granted}
use Rattle.world_meaning.specs.declared.tale.Tale.{Tale}
use Rattle.i7_sentences.specs.declared.sentence.Sentence.{Sentence}
use Rattle.i7_kinds.specs.Judged.{scope_said}
use Rattle.i7_kinds.specs.RefusalsShown.{HasProperty}
use Rattle.i7_kinds.specs.Tales.{tale_said}

-- to which kinds each property is given, by number
abbrev pub properties_in : Declared → List Granted
properties_in d = d.flags ++ (d.numbers ++ map (λ q. q.given) d.values)

-- the objects of a kind of a tale have a property, the either-or ones counted first, then the numbers and then the kinds of value, just
-- where it may be said of them
abbrev pub PropertiesAreKept : Type 0
PropertiesAreKept =
    (sentences : List Sentence) (tale : Tale) (property : ℕ) (granted : Granted) (kind : ℕ) → tale_said sentences ≡ Ok tale
    → slice_get (properties_in tale.declared) property ≡ Some granted → Decides (is_had tale.declared.kinds kind granted) (HasProperty (scope_said sentences) kind property)
