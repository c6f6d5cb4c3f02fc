-- A code that passes is sound.
use Rattle.std.proofs.Common.{◌≡◌, ◌⊎◌, inl, inr, ℕ, ◌+◌, ◌<◌, ◌≤◌, ◌==◌, Bool, true, false, nat_lt, if◌then◌else◌, List, [], ◌∷◌, length, Option, Some, None, refl, sym, ap, ◌∙◌, arith}
use Rattle.std.proofs.lemmas.Grind.{common_steps}
use Rattle.std.proofs.lemmas.Bool.{and_parts, not-true}
use Rattle.play_meaning.specs.Instructions.{at_place, size_of, sizes}
use Rattle.play_meaning.specs.SoundCodes.{Label, bare, way_of}
use Rattle.play_meaning.specs.declared.instruction.Instruction.{Instruction}
use Rattle.play_meaning.specs.declared.operand.Sort.{Sort}
use Rattle.play_meaning.specs.declared.way.OpenLoop.{OpenLoop}
use Rattle.play_meaning.specs.declared.way.Way.{Way}
use Rattle.play_meaning.specs.declared.way.Way.TheVariants.{Branch, Ends, Leap, Opens, Straight, Turns}
use Rattle.story_code.specs.declared.sizes.Sizes.{Sizes}
use Rattle.play_meaning.specs.Operands.{may_hold, names_what_is_there, operands_behind}
use Rattle.play_meaning.specs.SoundCodes.{loops_around}
use Rattle.story_code.specs.Passes.{Mark, behind, closed_at, ends_well, if_so, is_allowed, is_nil, left_behind, look, marks_from, opened_by, stands_at, way_behind, with_mark}
use Rattle.story_code.proofs.Places.{at_past}
use Rattle.story_code.proofs.WalkLemmas.{size_of-positive}
use Rattle.play_meaning.proofs.Served.{if_both}

-- what a step of the pass found, by cases of the way
abbrev pub Passed : Way → ℕ → ℕ → List Sort → List OpenLoop → List Instruction → Label → Type 0
Passed Straight p q ks ls rest l = (is_nil rest ≡ false) × (l ≡ record { operands = ks; loops = ls })
Passed (Branch to) p q ks ls rest l = (ks ≡ []) × ((p < to) × ((is_nil rest ≡ false) × (l ≡ bare ls)))
Passed (Leap to) p q ks ls rest l =
    (ks ≡ []) × (((p < to) × (l ≡ bare ls)) ⊎ ((to ≤ p) × ((outer : List OpenLoop) × ((ls ≡ record { head = to; exit = q } ∷ outer) × ((is_nil rest ≡ false) × (l ≡ bare outer))))))
Passed Opens p q ks ls rest l =
    (ks ≡ []) × ((n : Instruction) × ((more : List Instruction) × ((exit : ℕ) × ((rest ≡ n ∷ more) × ((way_of n ≡ Turns exit) × (l ≡ bare (record { head = q; exit = exit } ∷ ls)))))))
Passed (Turns exit) p q ks ls rest l = (ks ≡ []) × ((outer : List OpenLoop) × ((ls ≡ record { head = p; exit = exit } ∷ outer) × ((is_nil rest ≡ false) × (l ≡ bare ls))))
Passed Ends p q ks ls rest l = l ≡ bare ls

pub so_is : {A : Type 0} (b : Bool) (a c : A) → if_so b a ≡ Some c → (b ≡ true) × (c ≡ a)
so_is true a c h = let e : c ≡ a = cc in (refl, e)
so_is false a c h = let no : ⊥ = cc in absurd no

pub nil_is : {A : Type 0} (xs : List A) → is_nil xs ≡ true → xs ≡ []
nil_is [] h = refl
nil_is (x ∷ xs) h = let no : ⊥ = cc in absurd no

pub eq_is : (a b : ℕ) → (a == b) ≡ true → a ≡ b
eq_is a b h = grind (arith, common_steps, h)

pub lt_is : (a b : ℕ) → nat_lt a b ≡ true → a < b
lt_is a b h = grind (arith, common_steps, h)

pub none_some : {A : Type 0} (c : A) → None ≡ Some c → ⊥
none_some c h = cc

closed_is : (to here : ℕ) (ls : List OpenLoop) (l : Label) → closed_at to here ls ≡ Some l → (outer : List OpenLoop) × ((ls ≡ record { head = to; exit = here } ∷ outer) × (l ≡ bare outer))
closed_is to here [] l h = let no : ⊥ = cc in absurd no
closed_is to here (o ∷ outer) l h =
    let a = so_is _ (bare outer) l h in let b = and_parts _ _ a.0 in
    (outer, (ap (λ n. record { head = n; exit = o.exit } ∷ outer) (eq_is _ _ b.0) ∙ ap (λ n. record { head = to; exit = n } ∷ outer) (eq_is _ _ b.1), a.1))

stands_is : (p exit : ℕ) (ls : List OpenLoop) → stands_at p exit ls ≡ true → (outer : List OpenLoop) × (ls ≡ record { head = p; exit = exit } ∷ outer)
stands_is p exit [] h = let no : ⊥ = cc in absurd no
stands_is p exit (o ∷ outer) h =
    let b = and_parts _ _ h in
    (outer, ap (λ n. record { head = n; exit = o.exit } ∷ outer) (eq_is _ _ b.0) ∙ ap (λ n. record { head = p; exit = n } ∷ outer) (eq_is _ _ b.1))

opened_is : (w : Way) (q : ℕ) (ls : List OpenLoop) (l : Label) → opened_by w q ls ≡ Some l → (exit : ℕ) × ((w ≡ Turns exit) × (l ≡ bare (record { head = q; exit = exit } ∷ ls)))
opened_is (Turns exit) q ls l h = let e : l ≡ bare (record { head = q; exit = exit } ∷ ls) = cc in (exit, (refl, e))
opened_is w q ls l h = let no : ⊥ = cc in absurd no

leap_is : (p q to : ℕ) (ls : List OpenLoop) (rest : List Instruction) (l : Label) (b nil : Bool) → nat_lt p to ≡ b → is_nil rest ≡ nil → (if b then Some (bare ls) else (if nil then None else closed_at to q ls)) ≡ Some l
    → ((p < to) × (l ≡ bare ls)) ⊎ ((to ≤ p) × ((outer : List OpenLoop) × ((ls ≡ record { head = to; exit = q } ∷ outer) × ((is_nil rest ≡ false) × (l ≡ bare outer)))))
leap_is p q to ls rest l true nil e n h = let k : l ≡ bare ls = cc in inl (lt_is p to e, k)
leap_is p q to ls rest l false true e n h = let no : ⊥ = cc in absurd no
leap_is p q to ls rest l false false e n h =
    let c = closed_is to q ls l h in
    let le : to ≤ p = grind (arith, common_steps, e) in
    inr (le, (c.0, (c.1.0, (n, c.1.1))))

passed : (w : Way) (p q : ℕ) (ks : List Sort) (ls : List OpenLoop) (rest : List Instruction) (l : Label) → way_behind w p q ks ls rest ≡ Some l → Passed w p q ks ls rest l
passed Straight p q ks ls rest l h = let a = so_is _ (record { operands = ks; loops = ls }) l h in (not-true _ a.0, a.1)
passed (Branch to) p q ks ls rest l h = let a = so_is _ (bare ls) l h in let b = and_parts _ _ a.0 in let c = and_parts _ _ b.1 in (nil_is ks b.0, (lt_is _ _ c.0, (not-true _ c.1, a.1)))
passed (Leap to) p q ks ls rest l h = let a = if_both _ _ l h in (nil_is ks a.0, leap_is p q to ls rest l _ _ refl refl a.1)
passed Opens p q ks ls [] l h = absurd (none_some l (if_both (is_nil ks) None l h).1)
passed Opens p q ks ls (n ∷ more) l h =
    let a = if_both _ _ l h in let b = opened_is (way_of n) q ls l a.1 in
    (nil_is ks a.0, (n, (more, (b.0, (refl, (b.1.0, b.1.1))))))
passed (Turns exit) p q ks ls rest l h =
    let a = so_is _ (bare ls) l h in let b = and_parts _ _ a.0 in let c = and_parts _ _ b.1 in let d = stands_is p exit ls c.0 in
    (nil_is ks b.0, (d.0, (d.1, (not-true _ c.1, a.1))))
passed Ends p q ks ls rest l h = let e : l ≡ bare ls = cc in e

-- one step
pub record Step (z : Sizes) (p : ℕ) (i : Instruction) (rest : List Instruction) (l l' : Label) : Type 0 where
  pub allowed : may_hold z.role i ≡ true
  pub named : names_what_is_there z.counts (loops_around z.role + length l.loops) i ≡ true
  pub ended : ends_well z.role i rest ≡ true
  pub left : List Sort
  pub typed : operands_behind z.counts i l.operands ≡ Some left
  pub way : Passed (way_of i) p (p + size_of i) left l.loops rest l'

step_by : (z : Sizes) (p : ℕ) (i : Instruction) (rest : List Instruction) (l l' : Label) (o : Option (List Sort)) → may_hold z.role i ≡ true → names_what_is_there z.counts (loops_around z.role + length l.loops) i ≡ true → ends_well z.role i rest ≡ true
    → operands_behind z.counts i l.operands ≡ o → left_behind o p i l.loops rest ≡ Some l' → Step z p i rest l l'
step_by z p i rest l l' None a n d e h = let no : ⊥ = cc in absurd no
step_by z p i rest l l' (Some ks) a n d e h = record { allowed = a; named = n; ended = d; left = ks; typed = e; way = passed (way_of i) p (p + size_of i) ks l.loops rest l' h }

step_is : (z : Sizes) (p : ℕ) (i : Instruction) (rest : List Instruction) (l l' : Label) → behind z p i rest l ≡ Some l' → Step z p i rest l l'
unfolding behind is_allowed
step_is z p i rest l l' h =
    let a = if_both _ _ l' h in
    let b = and_parts _ _ a.0 in
    let c = and_parts _ _ b.0 in
    step_by z p i rest l l' (operands_behind z.counts i l.operands) c.0 c.1 b.1 refl a.1

-- the marks, step by step
abbrev pub Marked : Sizes → ℕ → Label → List Instruction → List Mark → Type 0
Marked z p l [] ms = (ms ≡ []) × (l.loops ≡ [])
Marked z p l (i ∷ is) ms = (l' : Label) × ((ms' : List Mark) × (Step z p i is l l' × ((ms ≡ record { place = p; instruction = i; label = l } ∷ ms') × Marked z (p + size_of i) l' is ms')))

mark_is : (m : Mark) (o : Option (List Mark)) (ms : List Mark) → with_mark m o ≡ Some ms → (ms' : List Mark) × ((o ≡ Some ms') × (ms ≡ m ∷ ms'))
mark_is m None ms h = let no : ⊥ = cc in absurd no
mark_is m (Some ms') ms h = let e : ms ≡ m ∷ ms' = cc in (ms', (refl, e))

marked_at : (z : Sizes) (p : ℕ) (l : Label) (i : Instruction) (is : List Instruction) (ms : List Mark) (o : Option Label) → behind z p i is l ≡ o → with_mark (record { place = p; instruction = i; label = l }) (marks_from z (p + size_of i) o is) ≡ Some ms
    → ((l' : Label) (ms' : List Mark) → marks_from z (p + size_of i) (Some l') is ≡ Some ms' → Marked z (p + size_of i) l' is ms') → Marked z p l (i ∷ is) ms
marked_at z p l i is ms None e h more = let no : ⊥ = cc in absurd no
marked_at z p l i is ms (Some l') e h more = let c = mark_is _ _ ms h in (l', (c.0, (step_is z p i is l l' e, (c.1.1, more l' c.0 c.1.0))))

pub marked : (z : Sizes) (p : ℕ) (l : Label) (is : List Instruction) (ms : List Mark) → marks_from z p (Some l) is ≡ Some ms → Marked z p l is ms
marked z p l [] ms h = let a = so_is _ [] ms h in (a.1, nil_is l.loops a.0)
marked z p l (i ∷ is) ms h = marked_at z p l i is ms (behind z p i is l) refl h (λ l' ms' e. marked z (p + size_of i) l' is ms' e)

-- nothing is marked past the end
pub look_past : (z : Sizes) (is : List Instruction) (p : ℕ) (l : Label) (ms : List Mark) (q : ℕ) → Marked z p l is ms → p + sizes is ≤ q → look ms q ≡ None
look_past z [] p l ms q m le = ap (λ x. look x q) m.0
look_past z (i ∷ is) p l ms q m le =
    let pos = size_of-positive i in
    let e : (p == q) ≡ false = grind (arith, common_steps, le, pos) in
    let le' : p + size_of i + sizes is ≤ q = omega (arith, le) in
    ap (λ x. look x q) m.1.1.1.0 ∙ ap (λ b. if b then Some l else look m.1.0 q) e ∙ look_past z is (p + size_of i) m.0 m.1.0 q m.1.1.1.1 le'

-- a place that is looked up has an instruction
look_split : (i : Instruction) (is : List Instruction) (p : ℕ) (l : Label) (ms' : List Mark) (q : ℕ) (found : Label) (b : Bool) → (p == q) ≡ b → (if b then Some l else look ms' q) ≡ Some found
    → (look ms' q ≡ Some found → (r : ℕ) × ((j : Instruction) × ((at_place is r ≡ Some j) × (p + size_of i + r ≡ q)))) → (r : ℕ) × ((j : Instruction) × ((at_place (i ∷ is) r ≡ Some j) × (p + r ≡ q)))
look_split i is p l ms' q found true e h more = let n : p + 0 ≡ q = omega (arith, eq_is p q e) in (0, (i, (refl, n)))
look_split i is p l ms' q found false e h more =
    let m = more h in let n : p + (size_of i + m.0) ≡ q = omega (arith, m.1.1.1) in
    (size_of i + m.0, (m.1.0, (at_past i is (size_of i + m.0) m.0 refl ∙ m.1.1.0, n)))

pub look_place : (z : Sizes) (is : List Instruction) (p : ℕ) (l : Label) (ms : List Mark) (q : ℕ) (found : Label) → Marked z p l is ms → look ms q ≡ Some found → (r : ℕ) × ((i : Instruction) × ((at_place is r ≡ Some i) × (p + r ≡ q)))
look_place z [] p l ms q found m h = absurd (none_some found (ap (λ x. look x q) (sym m.0) ∙ h))
look_place z (i ∷ is) p l ms q found m h =
    look_split i is p l m.1.0 q found (p == q) refl (ap (λ x. look x q) (sym m.1.1.1.0) ∙ h) (λ h'. look_place z is (p + size_of i) m.0 m.1.0 q found m.1.1.1.1 h')
