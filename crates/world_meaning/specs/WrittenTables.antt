-- The language's own directions, kinds and either-or properties, row by row, as docs/language.md lists them.
use Rattle.std.specs.Prelude.{ℕ, Bool, true, not, ◌&&◌, List, [], ◌∷◌, bytes_eq, None, Option, Some, codes}
use Rattle.std.specs.List.{flat_map, list_any}
use Rattle.world_meaning.specs.declared.direction.Direction.{Direction}
use Rattle.world_meaning.specs.declared.direction.Direction.TheVariants.{North, Northeast, Northwest, South, Southeast, Southwest, East, West, Up, Down, Inside, Outside}

-- a direction: its name, its short word and the way back
abbrev pub written_directions : List (List ℕ × (List ℕ × Direction))
written_directions =
    (codes "north", (codes "n", South)) ∷ (codes "northeast", (codes "ne", Southwest)) ∷ (codes "northwest", (codes "nw", Southeast))
    ∷ (codes "south", (codes "s", North)) ∷ (codes "southeast", (codes "se", Northwest)) ∷ (codes "southwest", (codes "sw", Northeast))
    ∷ (codes "east", (codes "e", West)) ∷ (codes "west", (codes "w", East)) ∷ (codes "up", (codes "u", Down)) ∷ (codes "down", (codes "d", Up))
    ∷ (codes "inside", (codes "in", Outside)) ∷ (codes "outside", (codes "out", Inside)) ∷ []

-- the words for directions
abbrev pub written_words : List (List ℕ × (List ℕ × Direction)) → List (List ℕ)
written_words rows = flat_map (λ row. row.0 ∷ row.1.0 ∷ []) rows

-- no two are one
abbrev pub are_distinct : List (List ℕ) → Bool
are_distinct [] = true
are_distinct (word ∷ words) = not (list_any (bytes_eq word) words) && are_distinct words

-- a kind: its name and the number of the kind above it
abbrev pub written_kinds : List (List ℕ × Option ℕ)
written_kinds =
    (codes "thing", None) ∷ (codes "room", None) ∷ (codes "direction", None) ∷ (codes "door", Some 0) ∷ (codes "container", Some 0)
    ∷ (codes "supporter", Some 0) ∷ (codes "person", Some 0) ∷ (codes "device", Some 0) ∷ (codes "man", Some 6) ∷ (codes "woman", Some 6) ∷ []

-- a property: its name, the name of its opposite, the kinds that have it and those whose objects it is true of at first
abbrev pub written_properties : List (List ℕ × (Option (List ℕ) × (List ℕ × List ℕ)))
written_properties =
    (codes "open", (Some (codes "closed"), (3 ∷ 4 ∷ [], 4 ∷ [])))
    ∷ (codes "openable", (Some (codes "unopenable"), (3 ∷ 4 ∷ [], 3 ∷ [])))
    ∷ (codes "transparent", (Some (codes "opaque"), (4 ∷ [], [])))
    ∷ (codes "lit", (Some (codes "unlit"), (0 ∷ [], [])))
    ∷ (codes "lighted", (Some (codes "dark"), (1 ∷ [], 1 ∷ [])))
    ∷ (codes "scenery", (None, (0 ∷ [], [])))
    ∷ (codes "fixed in place", (Some (codes "portable"), (0 ∷ [], 3 ∷ 5 ∷ [])))
    ∷ (codes "wearable", (None, (0 ∷ [], [])))
    ∷ (codes "described", (Some (codes "undescribed"), (0 ∷ [], 0 ∷ [])))
    ∷ (codes "switched on", (Some (codes "switched off"), (7 ∷ [], [])))
    ∷ (codes "visited", (Some (codes "unvisited"), (1 ∷ [], []))) ∷ []
