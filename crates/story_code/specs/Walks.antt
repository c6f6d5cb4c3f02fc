-- The verifier's two walks over the bytes of a code, with a table that has a number for each place: 0 where no instruction
-- begins or operands stand, else a number for the innermost loop that is open there.
use Rattle.std.specs.Prelude.{ℕ, ◌+◌, ◌==◌, Bool, true, false, ◌&&◌, not, List, [], ◌∷◌, Option, Some, None, nat_lt, if◌then◌else◌, slice_set, slice_index}
use Rattle.play_meaning.specs.Instructions.{size_of}
use Rattle.play_meaning.specs.SoundCodes.{Label, bare, way_of}
use Rattle.play_meaning.specs.declared.instruction.Instruction.{Instruction}
use Rattle.play_meaning.specs.declared.way.OpenLoop.{OpenLoop}
use Rattle.play_meaning.specs.declared.way.Way.{Way}
use Rattle.play_meaning.specs.declared.way.Way.TheVariants.{Branch, Leap}
use Rattle.story_code.specs.Fronts.{code_in}
use Rattle.story_code.specs.Passes.{behind, if_so, is_nil}
use Rattle.story_code.specs.declared.sizes.Sizes.{Sizes}

abbrev pub scope_of : List OpenLoop → ℕ
scope_of [] = 1
scope_of (o ∷ outer) = o.head + 2

abbrev pub bare_scope : Label → ℕ
bare_scope l = if is_nil l.operands then scope_of l.loops else 0

-- the first walk: each place's scope
abbrev pub filled : Sizes → ℕ → Option Label → List Instruction → List ℕ → Option (List ℕ)
filled z place None is table = None
filled z place (Some l) [] table = if_so (is_nil l.loops) table
filled z place (Some l) (i ∷ is) table = filled z (place + size_of i) (behind z place i is l) is (slice_set table place (bare_scope l))

abbrev pub way_met : Way → List ℕ → ℕ → List OpenLoop → Bool
way_met (Branch to) table place loops = slice_index table to == scope_of loops
way_met (Leap to) table place loops = if nat_lt place to then slice_index table to == scope_of loops else true
way_met way table place loops = true

unfoldable pub goal_met : List ℕ → ℕ → Instruction → List OpenLoop → Bool
goal_met table place i loops = way_met (way_of i) table place loops

-- the second walk: each goal
abbrev pub met_from : Sizes → ℕ → Option Label → List Instruction → List ℕ → Bool
met_from z place None is table = false
met_from z place (Some l) [] table = true
met_from z place (Some l) (i ∷ is) table = goal_met table place i l.loops && met_from z (place + size_of i) (behind z place i is l) is table

-- over bytes
abbrev pub fills : Sizes → ℕ → Option Label → Option (List Instruction) → List ℕ → Option (List ℕ)
fills z place l None table = None
fills z place l (Some is) table = filled z place l is table

abbrev pub meets : Sizes → ℕ → Option Label → Option (List Instruction) → List ℕ → Bool
meets z place l None table = false
meets z place l (Some is) table = met_from z place l is table

abbrev pub filled_meets : Sizes → Option (List Instruction) → Option (List ℕ) → Bool
filled_meets z is None = false
filled_meets z is (Some table) = meets z 0 (Some (bare [])) is table

-- both walks, with a table that is empty at first
abbrev pub checked : Sizes → List ℕ → List ℕ → Bool
checked z bytes blank = not (is_nil bytes) && filled_meets z (code_in bytes) (fills z 0 (Some (bare [])) (code_in bytes) blank)
