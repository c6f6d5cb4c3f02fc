-- The kinds that plurals are of.
use Rattle.std.specs.Prelude.{ℕ, ◌-◌, ◌==◌, List, length, fold, codes, if◌then◌else◌}
use Rattle.i7_sentences.specs.Plurals.{plural_of}
use Rattle.i7_names.specs.Known.{Known, with_plural}
use Rattle.i7_names.specs.Numbers.{small_number}

-- the regular plural of a kind, where it has so many letters more than the name
abbrev pub with_regular : ℕ → List (List ℕ) → Known → List ℕ → Known
with_regular more kinds known kind =
    if (length (plural_of kind) - length kind) == more then with_plural known (plural_of kind) (small_number kinds kind) else known

-- `men`, `women` and `people` stand beside the regular plurals
abbrev pub with_irregular : List (List ℕ) → Known → Known
with_irregular kinds known =
    with_plural (with_plural (with_plural known (codes "men") (small_number kinds (codes "man")))
    (codes "women") (small_number kinds (codes "woman")))
    (codes "people") (small_number kinds (codes "person"))

-- of two kinds with one plural, as `boxe` and `box`, it is that of the longer name
unfoldable pub with_plurals : List (List ℕ) → Known → Known
with_plurals kinds known = fold (with_regular 2 kinds) (fold (with_regular 1 kinds) (with_irregular kinds known) kinds) kinds
