-- Marks taken from the last to the first.
use Rattle.std.proofs.Common.{◌≡◌, Bool, true, false, cond, List, [], ◌∷◌, ◌++◌, refl, ap, ◌∙◌}
use Rattle.std.specs.Prelude.{Option, Some, None}
use Rattle.i7_conditions.specs.Parts.{Part, found_in, parts_on, step, stepped}
use Rattle.i7_conditions.specs.declared.found.Found.TheVariants.{Unread}
use Rattle.i7_conditions.specs.declared.mark.Mark.{Mark}

parts_behind : (start : Option (List Part)) (ms ns : List Mark) → parts_on start (ms ++ ns) ≡ parts_on (parts_on start ns) ms
parts_behind start [] ns = refl
parts_behind start (m ∷ ms) ns = ap (stepped m) (parts_behind start ms ns)

parts_fail : (ms : List Mark) → parts_on None ms ≡ None
parts_fail [] = refl
parts_fail (m ∷ ms) = ap (stepped m) (parts_fail ms)

taken : (marks before : List Mark) (mark : Mark) (stack : List Part) (after : Option (List Part)) → marks ≡ before ++ mark ∷ [] → step mark stack ≡ after
    → parts_on (Some stack) marks ≡ parts_on after before
taken marks before mark stack after e s = ap (parts_on (Some stack)) e ∙ parts_behind (Some stack) before (mark ∷ []) ∙ ap (λ start. parts_on start before) s

pub stuck : (marks before : List Mark) (mark : Mark) (stack after : List Part) (fits : Bool) → marks ≡ before ++ mark ∷ [] → step mark stack ≡ cond fits (Some after) None → fits ≡ false
    → found_in (parts_on (Some stack) marks) ≡ Unread
stuck marks before mark stack after true e s n = absurd cc
stuck marks before mark stack after false e s n = ap found_in (taken marks before mark stack None e s ∙ parts_fail before)

pub went : (marks before : List Mark) (mark : Mark) (stack after : List Part) (fits : Bool) → marks ≡ before ++ mark ∷ [] → step mark stack ≡ cond fits (Some after) None → fits ≡ true
    → found_in (parts_on (Some stack) marks) ≡ found_in (parts_on (Some after) before)
went marks before mark stack after true e s n = ap found_in (taken marks before mark stack (Some after) e s)
went marks before mark stack after false e s n = absurd cc
