-- Of a code that passes, what was marked is known at each place.
use Rattle.std.proofs.Common.{◌≡◌, inl, inr, ℕ, ◌+◌, ◌-◌, ◌≤◌, ◌==◌, Bool, true, false, nat_lt, if◌then◌else◌, List, [], ◌∷◌, length, Option, Some, None, refl, sym, ap, ◌∙◌, subst, arith}
use Rattle.std.proofs.lemmas.Grind.{common_steps}
use Rattle.std.proofs.lemmas.Bool.{and_parts, not-true}
use Rattle.play_meaning.specs.Instructions.{at_place, size_of, sizes}
use Rattle.play_meaning.specs.SoundCodes.{Label, bare, way_of}
use Rattle.play_meaning.specs.declared.instruction.Instruction.{Instruction}
use Rattle.play_meaning.specs.declared.operand.Sort.{Sort}
use Rattle.play_meaning.specs.declared.way.OpenLoop.{OpenLoop}
use Rattle.play_meaning.specs.declared.way.Way.{Way}
use Rattle.play_meaning.specs.declared.way.Way.TheVariants.{Branch, Ends, Leap, Opens, Straight, Turns}
use Rattle.story_code.specs.declared.sizes.Sizes.{Sizes}
use Rattle.play_meaning.specs.Operands.{names_what_is_there, operands_behind}
use Rattle.play_meaning.specs.SoundCodes.{EndsInAnswer, IsFine, IsSound, Labelled, LeadsTo, Ways, loops_around}
use Rattle.play_meaning.specs.declared.instruction.Instruction.TheVariants.{Answer}
use Rattle.play_meaning.specs.declared.operand.Use.{Use}
use Rattle.play_meaning.specs.declared.operand.Use.TheVariants.{Body, Describing, Test}
use Rattle.story_code.specs.Passes.{Mark, all_meet, ends_well, is_bare_in, is_nil, look, marks_from, met, passes, same_loop, way_meets}
use Rattle.story_code.proofs.Marking.{Marked, Passed, Step, eq_is, look_past, look_place, marked, nil_is, none_some}
use Rattle.story_code.proofs.Places.{at_cases, at_past}
use Rattle.story_code.proofs.WalkLemmas.{size_of-positive}

module _ (z : Sizes) (whole : List Instruction) (all : List Mark) where
  -- a stretch of the code with its marks
  record Standing (p : ℕ) (l : Label) (is : List Instruction) (ms : List Mark) : Type 0 where
    marks : Marked z p l is ms
    views : (q : ℕ) → p ≤ q → look all q ≡ look ms q
    found : (r : ℕ) → at_place whole (p + r) ≡ at_place is r
    ends : p + sizes is ≡ sizes whole
    meets : all_meet all ms ≡ true

  next_standing : (p : ℕ) (l : Label) (i : Instruction) (is : List Instruction) (ms : List Mark) (s : Standing p l (i ∷ is) ms) → Standing (p + size_of i) s.marks.0 is s.marks.1.0
  next_standing p l i is ms s = record {
    marks = s.marks.1.1.1.1;
    views = λ q le. viewed q le;
    found = λ r. found r;
    ends = omega (arith, s.ends);
    meets = (and_parts _ _ (ap (all_meet all) (sym s.marks.1.1.1.0) ∙ s.meets)).1;
  }
    where
      viewed : (q : ℕ) → p + size_of i ≤ q → look all q ≡ look s.marks.1.0 q
      viewed q le =
          let pos = size_of-positive i in
          let e : (p == q) ≡ false = grind (arith, common_steps, le, pos) in
          let le' : p ≤ q = omega (arith, le) in
          s.views q le' ∙ ap (λ x. look x q) s.marks.1.1.1.0 ∙ ap (λ b. if b then Some l else look s.marks.1.0 q) e

      found : (r : ℕ) → at_place whole (p + size_of i + r) ≡ at_place is r
      found r =
          let e : p + size_of i + r ≡ p + (size_of i + r) = omega arith in
          ap (at_place whole) e ∙ s.found (size_of i + r) ∙ at_past i is (size_of i + r) r refl

  meets_here : (p : ℕ) (l : Label) (i : Instruction) (is : List Instruction) (ms : List Mark) (s : Standing p l (i ∷ is) ms) → way_meets (way_of i) all p l.loops ≡ true
  meets_here p l i is ms s = (and_parts _ _ (ap (all_meet all) (sym s.marks.1.1.1.0) ∙ s.meets)).0

  abbrev Here : ℕ → Label → Type 0
  Here p l = ((i : Instruction) × (at_place whole p ≡ Some i)) × (look all p ≡ Some l)

  here : (p : ℕ) (l : Label) (is : List Instruction) (ms : List Mark) → Standing p l is ms → is_nil is ≡ false → Here p l
  here p l [] ms s h = let no : ⊥ = cc in absurd no
  here p l (i ∷ is) ms s h =
      let e : p + 0 ≡ p = omega arith in
      let le : p ≤ p = omega arith in
      let same : (p == p) ≡ true = grind (arith, common_steps) in
      ((i, ap (at_place whole) (sym e) ∙ s.found 0), s.views p le ∙ ap (λ x. look x p) s.marks.1.1.1.0 ∙ ap (λ b. if b then Some l else look s.marks.1.0 p) same)

  past : (p : ℕ) (l : Label) (is : List Instruction) (ms : List Mark) → Standing p l is ms → is_nil is ≡ true → (look all p ≡ None) × (l.loops ≡ [])
  past p l [] ms s h = let le : p ≤ p = omega arith in (s.views p le ∙ ap (λ x. look x p) s.marks.0, s.marks.1)
  past p l (i ∷ is) ms s h = let no : ⊥ = cc in absurd no

  -- each open loop has its beginning behind, and its exit ahead
  abbrev Opened : List OpenLoop → Type 0
  Opened [] = Unit {0}
  Opened (o ∷ outer) = Here o.head (bare (o ∷ outer)) × Opened outer

  abbrev Closes : List OpenLoop → Type 0
  Closes [] = Unit {0}
  Closes (o ∷ outer) = Here o.exit (bare outer) × Closes outer

  tail_opened : (o : OpenLoop) (outer : List OpenLoop) → Opened (o ∷ outer) → Opened outer
  tail_opened o outer p = p.1

  tail_closes : (o : OpenLoop) (outer : List OpenLoop) → Closes (o ∷ outer) → Closes outer
  tail_closes o outer p = p.1

  way_opened : (w : Way) (p q : ℕ) (ks : List Sort) (ls : List OpenLoop) (rest : List Instruction) (l : Label) → Passed w p q ks ls rest l → (is_nil rest ≡ false → Here q l) → Opened ls → Opened l.loops
  way_opened Straight p q ks ls rest l w h o = subst (λ x. Opened x.loops) (sym w.1) o
  way_opened (Branch to) p q ks ls rest l w h o = subst (λ x. Opened x.loops) (sym w.1.1.1) o
  way_opened (Leap to) p q ks ls rest l w h o = elim w.1 [
    | inl f ↦ subst (λ x. Opened x.loops) (sym f.1) o
    | inr f ↦ subst (λ x. Opened x.loops) (sym f.1.1.1.1) (tail_opened _ f.1.0 (subst Opened f.1.1.0 o))
  ]
  way_opened Opens p q ks ls rest l w h o =
      let some : is_nil rest ≡ false = ap is_nil w.1.1.1.1.0 in
      let same = w.1.1.1.1.1.1 in
      subst (λ x. Opened x.loops) (sym same) (subst (Here q) same (h some), o)
  way_opened (Turns exit) p q ks ls rest l w h o = subst (λ x. Opened x.loops) (sym w.1.1.1.1) o
  way_opened Ends p q ks ls rest l w h o = subst (λ x. Opened x.loops) (sym w) o

  way_closes : (w : Way) (p q : ℕ) (ks : List Sort) (ls : List OpenLoop) (rest : List Instruction) (l : Label) → Passed w p q ks ls rest l → (is_nil rest ≡ false → Here q l) → Closes l.loops → Closes ls
  way_closes Straight p q ks ls rest l w h o = subst (λ x. Closes x.loops) w.1 o
  way_closes (Branch to) p q ks ls rest l w h o = subst (λ x. Closes x.loops) w.1.1.1 o
  way_closes (Leap to) p q ks ls rest l w h o = elim w.1 [
    | inl f ↦ subst (λ x. Closes x.loops) f.1 o
    | inr f ↦ subst Closes (sym f.1.1.0) (subst (Here q) f.1.1.1.1 (h f.1.1.1.0), subst (λ x. Closes x.loops) f.1.1.1.1 o)
  ]
  way_closes Opens p q ks ls rest l w h o = tail_closes (record { head = q; exit = w.1.1.1.0 }) ls (subst (λ x. Closes x.loops) w.1.1.1.1.1.1 o)
  way_closes (Turns exit) p q ks ls rest l w h o = subst (λ x. Closes x.loops) w.1.1.1.1 o
  way_closes Ends p q ks ls rest l w h o = subst (λ x. Closes x.loops) w o

  closes : (is : List Instruction) (p : ℕ) (l : Label) (ms : List Mark) → Standing p l is ms → Closes l.loops
  closes [] p l ms s = subst Closes (sym s.marks.1) tt
  closes (i ∷ is) p l ms s =
      let n = next_standing p l i is ms s in
      let st = s.marks.1.1.0 in
      way_closes (way_of i) p (p + size_of i) st.left l.loops is s.marks.0 st.way (here (p + size_of i) s.marks.0 is s.marks.1.0 n) (closes is (p + size_of i) s.marks.0 s.marks.1.0 n)

  -- what is known at an instruction
  record At (p : ℕ) (i : Instruction) : Type 0 where
    l : Label
    l' : Label
    rest : List Instruction
    place : Here p l
    step : Step z p i rest l l'
    meets : way_meets (way_of i) all p l.loops ≡ true
    opened : Opened l.loops
    closing : Closes l.loops
    ahead : is_nil rest ≡ false → Here (p + size_of i) l'
    at_end : is_nil rest ≡ true → (look all (p + size_of i) ≡ None) × (l'.loops ≡ [])
    first : at_place whole (p + size_of i) ≡ at_place rest 0
    ends : p + size_of i + sizes rest ≡ sizes whole

  first_at : (p : ℕ) (l : Label) (i : Instruction) (is : List Instruction) (ms : List Mark) → Standing p l (i ∷ is) ms → Opened l.loops → At p i
  first_at p l i is ms s o =
      let n = next_standing p l i is ms s in
      let e : p + size_of i ≡ p + size_of i + 0 = omega arith in
      record {
        l = l;
        l' = s.marks.0;
        rest = is;
        place = here p l (i ∷ is) ms s refl;
        step = s.marks.1.1.0;
        meets = meets_here p l i is ms s;
        opened = o;
        closing = closes (i ∷ is) p l ms s;
        ahead = here (p + size_of i) s.marks.0 is s.marks.1.0 n;
        at_end = past (p + size_of i) s.marks.0 is s.marks.1.0 n;
        first = ap (at_place whole) e ∙ n.found 0;
        ends = n.ends;
      }

  all_at : (is : List Instruction) (p : ℕ) (l : Label) (ms : List Mark) → Standing p l is ms → Opened l.loops → (r : ℕ) (i : Instruction) → at_place is r ≡ Some i → At (p + r) i
  all_at [] p l ms s o r i h = absurd (none_some i h)
  all_at (j ∷ is) p l ms s o r i h = elim (at_cases j is r i h) [
    | inl f ↦ let e : p ≡ p + r = omega (arith, f.0) in subst (λ q. At q i) e (subst (At p) f.1 (first_at p l j is ms s o))
    | inr f ↦
        let n = next_standing p l j is ms s in
        let st = s.marks.1.1.0 in
        let o' = way_opened (way_of j) p (p + size_of j) st.left l.loops is s.marks.0 st.way (here (p + size_of j) s.marks.0 is s.marks.1.0 n) o in
        let e : p + size_of j + (r - size_of j) ≡ p + r = omega (arith, f.0) in
        subst (λ q. At q i) e (all_at is (p + size_of j) s.marks.0 s.marks.1.0 n o' (r - size_of j) i f.1)
  ]

  abbrev label_or : Option Label → Label
  label_or None = bare []
  label_or (Some l) = l

  abbrev label_at : ℕ → Label
  label_at q = label_or (look all q)

  abbrev known : Labelled
  known = record { code = whole; at = label_at }

  label_here : (q : ℕ) (l : Label) → Here q l → LeadsTo known q l
  label_here q l h = (h.0, ap label_or h.1)

  -- places inside the same loop are inside the same loops
  one_path : (inner others : List OpenLoop) → Opened inner → Opened others → same_loop inner others ≡ true → inner ≡ others
  one_path [] [] o o' h = refl
  one_path [] (b ∷ bs) o o' h = let no : ⊥ = cc in absurd no
  one_path (a ∷ inner) [] o o' h = let no : ⊥ = cc in absurd no
  one_path (a ∷ inner) (b ∷ bs) o o' h =
      let e = eq_is a.head b.head h in
      ap (λ o. (label_or o).loops) (sym o.0.1 ∙ ap (look all) e ∙ o'.0.1)

  abbrev Found : Type 0
  Found = (q : ℕ) (l : Label) → look all q ≡ Some l → ((i : Instruction) × (at_place whole q ≡ Some i)) × Opened l.loops

  -- a goal that was met
  goal_is : (q : ℕ) (ls : List OpenLoop) (found : Option Label) → look all q ≡ found → is_bare_in ls found ≡ true → ((l : Label) → look all q ≡ Some l → ((i : Instruction) × (at_place whole q ≡ Some i)) × Opened l.loops) → Opened ls → LeadsTo known q (bare ls)
  goal_is q ls None e h more o = let no : ⊥ = cc in absurd no
  goal_is q ls (Some l) e h more o =
      let b = and_parts _ _ h in
      let m = more l e in
      let same : l.loops ≡ ls = one_path l.loops ls m.1 o b.1 in
      (m.0, ap label_or e ∙ ap (λ k. record { operands = k; loops = l.loops }) (nil_is l.operands b.0) ∙ ap bare same)

  -- what stands behind an instruction with no way on
  behind_is : (p : ℕ) (i : Instruction) (ls : List OpenLoop) (a : At p i) → a.l' ≡ bare ls → (b : Bool) → is_nil a.rest ≡ b → label_at (p + size_of i) ≡ bare ls
  behind_is p i ls a e true h =
      let m = a.at_end h in
      let none : [] ≡ ls = sym m.1 ∙ ap (λ l. l.loops) e in
      ap label_or m.0 ∙ ap bare none
  behind_is p i ls a e false h = ap label_or (a.ahead h).1 ∙ e

  ways : (w : Way) (p : ℕ) (i : Instruction) (ks : List Sort) (ls : List OpenLoop) (a : At p i) → Passed w p (p + size_of i) ks ls a.rest a.l' → way_meets w all p ls ≡ true → Opened ls → Closes ls → Found → Ways w known p (p + size_of i) ks ls
  ways Straight p i ks ls a w m o c more = label_here _ _ (subst (Here (p + size_of i)) w.1 (a.ahead w.0))
  ways (Branch to) p i ks ls a w m o c more =
      (w.0, (w.1.0, (goal_is to ls (look all to) refl m (more to) o, label_here _ _ (subst (Here (p + size_of i)) w.1.1.1 (a.ahead w.1.1.0)))))
  ways (Leap to) p i ks ls a w m o c more = elim w.1 [
    | inl f ↦
        let lt : nat_lt p to ≡ true = grind (arith, common_steps, f.0) in
        let met : is_bare_in ls (look all to) ≡ true = ap (λ b. if b then is_bare_in ls (look all to) else true) (sym lt) ∙ m in
        (w.0, (goal_is to ls (look all to) refl met (more to) o, inl (f.0, behind_is p i ls a f.1 (is_nil a.rest) refl)))
    | inr f ↦
        let outer = f.1.0 in
        let head = back_to outer (subst Opened f.1.1.0 o) in
        (w.0, (subst (λ l. LeadsTo known to (bare l)) (sym f.1.1.0) (label_here _ _ head), inr (f.0, (outer, (f.1.1.0, label_here _ _ (subst (Here (p + size_of i)) f.1.1.1.1 (a.ahead f.1.1.1.0)))))))
  ]
    where
      back_to : (outer : List OpenLoop) → Opened (record { head = to; exit = p + size_of i } ∷ outer) → Here to (bare (record { head = to; exit = p + size_of i } ∷ outer))
      back_to outer o = o.0
  ways Opens p i ks ls a w m o c more =
      let n = w.1.0 in
      let some : is_nil a.rest ≡ false = ap is_nil w.1.1.1.1.0 in
      let h = subst (Here (p + size_of i)) w.1.1.1.1.1.1 (a.ahead some) in
      (w.0, (n, (w.1.1.1.0, (a.first ∙ ap (λ r. at_place r 0) w.1.1.1.1.0, (w.1.1.1.1.1.0, ap label_or h.1)))))
  ways (Turns exit) p i ks ls a w m o c more =
      let outer = w.1.0 in
      (w.0, (outer, (w.1.1.0, (label_here _ _ (exit_of outer (subst Closes w.1.1.0 c)), label_here _ _ (subst (Here (p + size_of i)) w.1.1.1.1 (a.ahead w.1.1.1.0))))))
    where
      exit_of : (outer : List OpenLoop) → Closes (record { head = p; exit = exit } ∷ outer) → Here exit (bare outer)
      exit_of outer c = c.0
  ways Ends p i ks ls a w m o c more = behind_is p i ls a w (is_nil a.rest) refl

  fine_at : (p : ℕ) (i : Instruction) → At p i → Found → IsFine z.counts z.role known p i
  fine_at p i a more =
      let e : label_at p ≡ a.l = ap label_or a.place.1 in
      record {
        allowed = a.step.allowed;
        named = ap (λ l. names_what_is_there z.counts (loops_around z.role + length l.loops) i) e ∙ a.step.named;
        left = a.step.left;
        typed = ap (λ l. operands_behind z.counts i l.operands) e ∙ a.step.typed;
        ways = subst (λ l. Ways (way_of i) known p (p + size_of i) a.step.left l.loops) (sym e) (ways (way_of i) p i a.step.left a.l.loops a a.step.way a.meets a.opened a.closing more);
      }

-- an answer is the last instruction
last_nil : (rest : List Instruction) (n m : ℕ) → is_nil rest ≡ true → n + 1 + sizes rest ≡ m → n + 1 ≡ m
last_nil [] n m h e = omega (arith, e)
last_nil (i ∷ rest) n m h e = let no : ⊥ = cc in absurd no

answered_by : (role : Use) (whole : List Instruction) → ((p : ℕ) → at_place whole p ≡ Some Answer → (rest : List Instruction) × ((ends_well role Answer rest ≡ true) × (p + 1 + sizes rest ≡ sizes whole))) → EndsInAnswer role whole
answered_by (Test loops) whole h = λ p at. let a = h p at in last_nil a.0 p (sizes whole) a.1.0 a.1.1
answered_by Describing whole h = tt
answered_by Body whole h = tt

sound_by : (z : Sizes) (whole : List Instruction) (o : Option (List Mark)) → is_nil whole ≡ false → marks_from z 0 (Some (bare [])) whole ≡ o → met o ≡ true → IsSound z.counts z.role whole
sound_by z whole None h e m = let no : ⊥ = cc in absurd no
sound_by z whole (Some all) h e m = record {
  at = label_at z whole all;
  starts = label_here z whole all 0 (bare []) (here z whole all 0 (bare []) whole all standing h);
  fine = λ p i f. fine_at z whole all p i (at p i f) more;
  closed = ap (λ o. (label_or z whole all o).loops) (look_past z whole 0 (bare []) all (sizes whole) marks (omega arith));
  answered = answered_by z.role whole (λ p f. let a = at p Answer f in (a.rest, (a.step.ended, a.ends)));
}
  where
    marks : Marked z 0 (bare []) whole all
    marks = marked z 0 (bare []) whole all e

    zero_plus : (r : ℕ) → at_place whole (0 + r) ≡ at_place whole r
    zero_plus r = let n : 0 + r ≡ r = omega arith in ap (at_place whole) n

    standing : Standing z whole all 0 (bare []) whole all
    standing = record { marks = marks; views = λ q le. refl; found = zero_plus; ends = omega arith; meets = m }

    at : (p : ℕ) (i : Instruction) → at_place whole p ≡ Some i → At z whole all p i
    at p i f = let n : 0 + p ≡ p = omega arith in subst (λ q. At z whole all q i) n (all_at z whole all whole 0 (bare []) all standing tt p i f)

    more : (q : ℕ) (l : Label) → look all q ≡ Some l → ((i : Instruction) × (at_place whole q ≡ Some i)) × Opened z whole all l.loops
    more q l f =
        let r = look_place z whole 0 (bare []) all q l marks f in
        let n : r.0 ≡ q = omega (arith, r.1.1.1) in
        let there : at_place whole q ≡ Some (r.1.0) = ap (at_place whole) (sym n) ∙ r.1.1.0 in
        let a = at q r.1.0 there in
        let same : a.l ≡ l = some_is a.l l (sym a.place.1 ∙ f) in
        ((r.1.0, there), subst (λ x. Opened z whole all x.loops) same a.opened)
      where
        some_is : (x y : Label) → Some x ≡ Some y → x ≡ y
        some_is x y h = cc

pub passes_sound : (z : Sizes) (whole : List Instruction) → passes z whole ≡ true → IsSound z.counts z.role whole
unfolding passes
passes_sound z whole h = let b = and_parts _ _ h in sound_by z whole (marks_from z 0 (Some (bare [])) whole) (not-true _ b.0) refl b.1
