-- The standard rules as an author would write them, by number: what each asks by its `if`, what it makes so by its `now`, and what its texts say
-- between brackets. A word of a source that holds spaces, as `fixed in place`, has lines in their place.
use Rattle.std.specs.Prelude.{ℕ, ◌==◌, ◌+◌, List, [], ◌∷◌, ◌++◌, map, codes, false, Option, None, Some, option_map, if◌then◌else◌}
use Rattle.std.specs.List.{slice_split}
use Rattle.i7_conditions.specs.Meanings.{Meanings, Plurals, no_kinds, no_meanings, with_kind, with_meaning}
use Rattle.i7_conditions.specs.Scopes.{Scope}
use Rattle.i7_conditions.specs.declared.meaning.Meaning.TheVariants as meaning
use Rattle.i7_phrases.specs.Substitutions.{DescriptionOf, Figure, Listing, Name, Piece, ValueName}
use Rattle.play_meaning.specs.Trees as tree
use Rattle.play_meaning.specs.Trees.{Body, Condition, End, If, Instead, NowHeld, NowIs, Phrase, Say, Text, Then}
use Rattle.play_meaning.specs.declared.tree.object.Side.TheVariants.{First, Second}
use Rattle.world_meaning.specs.declared.kinds.TheConstants.{KINDS, PROPERTIES}

-- ---- the names that stand for something in every source, by the places of their rows

abbrev pub with_kinds : ℕ → List (List ℕ) → Meanings → Meanings
with_kinds n [] known = known
with_kinds n (name ∷ names) known = with_kinds (n + 1) names (with_meaning known name (meaning.Kind n))

abbrev pub with_second : Meanings → ℕ → Option (List ℕ) → Meanings
with_second known n None = known
with_second known n (Some name) = with_meaning known name (meaning.Quality n Second)

abbrev pub with_qualities : ℕ → List (List ℕ × Option (List ℕ)) → Meanings → Meanings
with_qualities n [] known = known
with_qualities n (names ∷ more) known = with_qualities (n + 1) more (with_second (with_meaning known names.0 (meaning.Quality n First)) n names.1)

abbrev pub built_in : Meanings
built_in = with_qualities 0 (map (λ property. (property.0.now, option_map (λ second. second.now) property.1)) PROPERTIES) (with_kinds 0 (map (λ kind. kind.0.now) KINDS) no_meanings)

abbrev pub built_in_plurals : Plurals
built_in_plurals = with_kind no_kinds (codes "things") 0

-- of a rule in which nothing is repeated, where no name is the author's
abbrev pub first_scope : Scope
first_scope = record { meanings = built_in; plurals = built_in_plurals; repeats = []; has_operators = false }

-- ---- what a rule's trees ask, make so, and say besides bytes

abbrev pub asked_in : Body → Option Condition
asked_in (Then (If c a b) End) = Some c
asked_in _ = None

abbrev pub made_by : Phrase → Option Phrase
made_by (NowIs o property value) = Some (NowIs o property value)
made_by (NowHeld o relation holder) = Some (NowHeld o relation holder)
made_by _ = None

abbrev pub made_in : Body → Option Phrase
made_in (Then (If c (Then p End) b) End) = made_by p
made_in (Then p End) = made_by p
made_in _ = None

abbrev pub pieces_in : Text → List Piece
pieces_in tree.Silence = []
pieces_in (tree.Bytes bytes more) = pieces_in more
pieces_in (tree.Figure number more) = Figure number ∷ pieces_in more
pieces_in (tree.Name naming o more) = Name naming o ∷ pieces_in more
pieces_in (tree.Listing naming description more) = Listing naming description ∷ pieces_in more
pieces_in (tree.DescriptionOf o more) = DescriptionOf o ∷ pieces_in more
pieces_in (tree.ValueName q o more) = ValueName q o ∷ pieces_in more
pieces_in (tree.IfSaid c a b more) = pieces_in a ++ pieces_in b ++ pieces_in more

abbrev pub said_by : Phrase → List Piece
said_by (Say text) = pieces_in text
said_by (Instead (Say text)) = pieces_in text
said_by _ = []

abbrev pub said_first : Body → List Piece
said_first End = []
said_first (Then p b) = said_by p

abbrev pub said_in : Body → List Piece
said_in (Then (If c a b) End) = said_first a ++ said_first b
said_in b = said_first b

-- ---- what its sentence says

abbrev pub unjoined : ℕ → ℕ
unjoined b = if b == 95 then 32 else b

-- words parted by one space
abbrev pub words : List ℕ → List (List ℕ)
words text = map (map unjoined) (slice_split (λ b. b == 32) text)

-- of each rule what it asks, and what it makes so, if it does
abbrev pub written_standard : List (Option (List ℕ) × Option (List ℕ))
written_standard =
    (Some (codes "in darkness"), None)
    ∷ (Some (codes "in darkness"), None)
    ∷ (Some (codes "not in darkness and the number of described not scenery things in the location is at least 1"), None)
    ∷ (Some (codes "not in darkness"), Some (codes "the location is visited"))
    ∷ (Some (codes "the noun has a description"), None)
    ∷ (Some (codes "the number of visible things in the noun is at least 1"), None)
    ∷ (Some (codes "the number of visible things on the noun is at least 1"), None)
    ∷ (Some (codes "the noun is a device"), None)
    ∷ (Some (codes "the noun is the player"), None)
    ∷ (Some (codes "the noun is a person"), None)
    ∷ (Some (codes "the noun is part of something"), None)
    ∷ (Some (codes "the player has the noun"), None)
    ∷ (Some (codes "the noun is scenery"), None)
    ∷ (Some (codes "the noun is fixed_in_place"), None)
    ∷ (None, Some (codes "the player carries the noun"))
    ∷ (None, None)
    ∷ (Some (codes "the noun is not carried by the player and the noun is not worn by the player"), None)
    ∷ (None, Some (codes "the noun is in the location"))
    ∷ (None, None)
    ∷ (Some (codes "the noun is the second noun"), None)
    ∷ (Some (codes "the second noun is not a supporter"), None)
    ∷ (Some (codes "the noun encloses the second noun"), None)
    ∷ (None, Some (codes "the noun is on the second noun"))
    ∷ (None, None)
    ∷ (Some (codes "the noun is the second noun"), None)
    ∷ (Some (codes "the second noun is not a container"), None)
    ∷ (Some (codes "the noun encloses the second noun"), None)
    ∷ (Some (codes "the second noun is closed"), None)
    ∷ (None, Some (codes "the noun is in the second noun"))
    ∷ (None, None)
    ∷ (Some (codes "the noun is not openable"), None)
    ∷ (Some (codes "the noun is open"), None)
    ∷ (None, Some (codes "the noun is open"))
    ∷ (None, None)
    ∷ (Some (codes "the noun is not openable"), None)
    ∷ (Some (codes "the noun is closed"), None)
    ∷ (None, Some (codes "the noun is closed"))
    ∷ (None, None)
    ∷ (Some (codes "the door noun from the location is closed"), None)
    ∷ (Some (codes "the room noun from the location is nothing"), None)
    ∷ (None, Some (codes "the player is in the room noun from the location"))
    ∷ (None, None)
    ∷ (Some (codes "the noun is not wearable"), None)
    ∷ (Some (codes "the noun is worn by the player"), None)
    ∷ (None, Some (codes "the player wears the noun"))
    ∷ (None, None)
    ∷ (Some (codes "the noun is not worn by the player"), None)
    ∷ (None, Some (codes "the player carries the noun"))
    ∷ (None, None)
    ∷ (None, None)
    ∷ (Some (codes "the number of things worn by the player is at least 1"), None)
    ∷ (None, None)
    ∷ (None, None)
    ∷ (Some (codes "the noun is not a device"), None)
    ∷ (Some (codes "the noun is switched_on"), None)
    ∷ (None, Some (codes "the noun is switched_on"))
    ∷ (None, None)
    ∷ (Some (codes "the noun is not a device"), None)
    ∷ (Some (codes "the noun is switched_off"), None)
    ∷ (None, Some (codes "the noun is switched_off"))
    ∷ (None, None)
    ∷ []

-- of each rule what stands between the brackets of its texts
abbrev pub written_substitutions : List (List (List ℕ))
written_substitutions =
    (codes "location" ∷ [])
    ∷ (codes "description of the location" ∷ [])
    ∷ (codes "a list of described not scenery things in the location" ∷ [])
    ∷ []
    ∷ (codes "description of the noun" ∷ codes "the noun" ∷ [])
    ∷ (codes "the noun" ∷ codes "a list of visible things in the noun" ∷ [])
    ∷ (codes "the noun" ∷ codes "a list of visible things on the noun" ∷ [])
    ∷ (codes "The noun" ∷ [])
    ∷ []
    ∷ (codes "The noun" ∷ [])
    ∷ []
    ∷ []
    ∷ []
    ∷ []
    ∷ []
    ∷ []
    ∷ []
    ∷ []
    ∷ []
    ∷ []
    ∷ (codes "the second noun" ∷ [])
    ∷ []
    ∷ []
    ∷ (codes "the noun" ∷ codes "the second noun" ∷ [])
    ∷ []
    ∷ (codes "the second noun" ∷ [])
    ∷ []
    ∷ (codes "The second noun" ∷ [])
    ∷ []
    ∷ (codes "the noun" ∷ codes "the second noun" ∷ [])
    ∷ []
    ∷ []
    ∷ []
    ∷ (codes "the noun" ∷ [])
    ∷ []
    ∷ []
    ∷ []
    ∷ (codes "the noun" ∷ [])
    ∷ (codes "The door noun from the location" ∷ [])
    ∷ []
    ∷ []
    ∷ []
    ∷ []
    ∷ []
    ∷ []
    ∷ (codes "the noun" ∷ [])
    ∷ []
    ∷ []
    ∷ (codes "the noun" ∷ [])
    ∷ (codes "a list of things carried by the player" ∷ [])
    ∷ (codes "a list of things worn by the player" ∷ [])
    ∷ []
    ∷ []
    ∷ []
    ∷ []
    ∷ []
    ∷ (codes "the noun" ∷ [])
    ∷ []
    ∷ []
    ∷ []
    ∷ (codes "the noun" ∷ [])
    ∷ []
