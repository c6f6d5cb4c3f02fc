-- Objects, one after the other.
use Rattle.std.proofs.Common.{◌≡◌, ℕ, ◌+◌, List, ◌∷◌, [], ◌++◌, append_assoc}
use Rattle.world_meaning.specs.declared.tale.Object.{Object}
use Rattle.i7_kinds.specs.declared.entries.Entry.{Entry}
use Rattle.i7_kinds.specs.Tales.{Made, object_of, objects_of}

pub object_behind : (m : Made) (objects : List Object) (number : ℕ) (entry : Entry) (entries : List Entry) → (objects ++ object_of m number entry ∷ []) ++ objects_of m (number + 1) entries ≡ objects ++ objects_of m number (entry ∷ entries)
object_behind m objects number entry entries = append_assoc objects (object_of m number entry ∷ []) (objects_of m (number + 1) entries)
