-- The lines of bytes whose first line is known.
use Rattle.std.proofs.Common.{◌≡◌, ℕ, ◌<◌, Bool, false, List, [], ◌∷◌, ◌++◌, length, refl, ap, ◌∙◌, arith}
use Rattle.std.specs.Prelude.{◌==◌}
use Rattle.std.specs.List.{slice_split}
use Rattle.std.specs.Str.Lines.{lines, lines_of_parts, strip_carriage_return}
use Rattle.std.proofs.lemmas.Grind.{common_steps}
use Rattle.std.proofs.lemmas.Bool.{ne_eqb, or_parts}
use Rattle.std.proofs.lemmas.List.Splits.{length-slice_split}
use Rattle.story_player.specs.Runs.{has_break}

abbrev pub is_break : ℕ → Bool
is_break b = b == 10

pub split-line : (line ahead : List ℕ) → has_break line ≡ false → slice_split is_break (line ++ 10 ∷ ahead) ≡ line ∷ slice_split is_break ahead
split-line [] ahead unbroken = refl
split-line (b ∷ bs) ahead unbroken =
    let each = or_parts (b == 10) (has_break bs) unbroken in
    rw (each.0) (rw (split-line bs ahead each.1) refl)

pub split-last : (line : List ℕ) → has_break line ≡ false → slice_split is_break line ≡ line ∷ []
split-last [] unbroken = refl
split-last (b ∷ bs) unbroken =
    let each = or_parts (b == 10) (has_break bs) unbroken in
    rw (each.0) (rw (split-last bs each.1) refl)

pub parts-more : (line : List ℕ) (parts : List (List ℕ)) → 0 < length parts → lines_of_parts (line ∷ parts) ≡ strip_carriage_return line ∷ lines_of_parts parts
parts-more line [] some = absurd (omega (arith, some))
parts-more line (part ∷ parts) some = refl

-- a whole line in front
pub lines-line : (line ahead : List ℕ) → has_break line ≡ false → lines (line ++ 10 ∷ ahead) ≡ strip_carriage_return line ∷ lines ahead
lines-line line ahead unbroken =
    ap lines_of_parts (split-line line ahead unbroken) ∙ parts-more line (slice_split is_break ahead) (omega (arith, length-slice_split is_break ahead))

-- a last line without a break
pub lines-last : (line : List ℕ) → has_break line ≡ false → 0 < length line → lines line ≡ line ∷ []
lines-last [] unbroken some = absurd (omega (arith, some))
lines-last (b ∷ bs) unbroken some =
    ap lines_of_parts (split-last (b ∷ bs) unbroken) ∙ rw (ne_eqb (length (b ∷ bs)) 0 (λ none. omega (arith, none))) refl

pub break-append : (a b : List ℕ) → has_break a ≡ false → has_break b ≡ false → has_break (a ++ b) ≡ false
break-append [] b first second = second
break-append (x ∷ xs) b first second =
    let each = or_parts (x == 10) (has_break xs) first in
    rw (each.0) (break-append xs b each.1 second)

-- a carriage return at the end isn't in front of the last bytes
pub strip-front : (front kept : List ℕ) → 0 < length kept → strip_carriage_return (front ++ kept) ≡ front ++ strip_carriage_return kept
strip-front [] kept some = refl
strip-front (b ∷ bs) kept some = grind (arith, common_steps, strip-front bs kept some)
