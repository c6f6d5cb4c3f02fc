-- Sound code passes.
use Rattle.std.proofs.Common.{◌≡◌, ◌⊎◌, inl, inr, ℕ, ◌+◌, ◌-◌, ◌<◌, ◌≤◌, ◌==◌, Bool, true, false, ◌&&◌, not, nat_lt, if◌then◌else◌, List, [], ◌∷◌, length, Some, None, refl, sym, ap, ◌∙◌, subst, arith}
use Rattle.std.proofs.lemmas.Grind.{common_steps}
use Rattle.std.proofs.lemmas.Bool.{not-true}
use Rattle.play_meaning.specs.Instructions.{at_place, size_of, sizes}
use Rattle.play_meaning.specs.SoundCodes.{bare, way_of}
use Rattle.play_meaning.specs.declared.instruction.Instruction.{Instruction}
use Rattle.play_meaning.specs.declared.operand.Sort.{Sort}
use Rattle.play_meaning.specs.declared.way.OpenLoop.{OpenLoop}
use Rattle.play_meaning.specs.declared.way.Way.{Way}
use Rattle.play_meaning.specs.declared.way.Way.TheVariants.{Branch, Ends, Leap, Opens, Straight, Turns}
use Rattle.story_code.specs.declared.sizes.Sizes.{Sizes}
use Rattle.play_meaning.specs.Operands.{names_what_is_there, operands_behind}
use Rattle.play_meaning.specs.SoundCodes.{EndsInAnswer, IsSound, LeadsTo, Ways, loops_around}
use Rattle.play_meaning.specs.declared.instruction.Instruction.TheVariants.{Answer}
use Rattle.play_meaning.specs.declared.operand.Use.{Use}
use Rattle.play_meaning.specs.declared.operand.Use.TheVariants.{Body, Describing, Test}
use Rattle.story_code.specs.Passes.{Mark, all_meet, answers, behind, closed_at, ends_well, if_so, is_allowed, is_bare_in, is_nil, leapt, left_behind, look, marks_from, met, opened_at, opened_by, passes, same_loop, stands_at, way_behind, way_meets, with_mark}
use Rattle.story_code.proofs.Places.{HasAt, at_cases, has_whole, none_past_end}
use Rattle.story_code.proofs.WalkLemmas.{size_of-positive}

pub eq_same : (n : ℕ) → (n == n) ≡ true
eq_same n = grind (arith, common_steps)

same_loop-refl : (ls : List OpenLoop) → same_loop ls ls ≡ true
same_loop-refl [] = refl
same_loop-refl (a ∷ outer) = eq_same a.head

closed_own : (p q : ℕ) (outer : List OpenLoop) → closed_at p q (record { head = p; exit = q } ∷ outer) ≡ Some (bare outer)
closed_own p q outer = ap (λ b. if_so (b && (q == q)) (bare outer)) (eq_same p) ∙ ap (λ b. if_so b (bare outer)) (eq_same q)

some_same : (a b : Instruction) → Some a ≡ Some b → a ≡ b
some_same a b h = cc

-- what answers is an answer
answer_is : (role : Use) (i : Instruction) → answers role i ≡ true → i ≡ Answer
answer_is (Test loops) Answer h = refl
answer_is (Test loops) i h = let no : ⊥ = cc in absurd no
answer_is Describing i h = let no : ⊥ = cc in absurd no
answer_is Body i h = let no : ⊥ = cc in absurd no

-- a test's answer is its last
last_is_answered : (role : Use) (code : List Instruction) (p : ℕ) → EndsInAnswer role code → answers role Answer ≡ true → at_place code p ≡ Some Answer → p + 1 ≡ sizes code
last_is_answered (Test loops) code p e a h = e p h
last_is_answered Describing code p e a h = let no : ⊥ = cc in absurd no
last_is_answered Body code p e a h = let no : ⊥ = cc in absurd no

module _ (z : Sizes) (whole : List Instruction) (s : IsSound z.counts z.role whole) where
  -- a place with instructions up to the end has one
  has_more : (q : ℕ) (rest : List Instruction) (i : Instruction) → at_place whole q ≡ Some i → q + sizes rest ≡ sizes whole → not (is_nil rest) ≡ true
  has_more q [] i h e = let n : sizes whole ≤ q = omega (arith, e) in absurd (none_past_end whole q i n h)
  has_more q (j ∷ rest) i h e = refl

  leap_passes : (p q to : ℕ) (ls : List OpenLoop) (rest : List Instruction) → q + sizes rest ≡ sizes whole
      → ((p < to) × (s.at q ≡ bare ls)) ⊎ ((to ≤ p) × ((outer : List OpenLoop) × ((ls ≡ record { head = to; exit = q } ∷ outer) × LeadsTo (record { code = whole; at = s.at }) q (bare outer))))
      → leapt to p q ls rest ≡ Some (s.at q)
  leap_passes p q to ls rest e (inl f) =
      let lt : nat_lt p to ≡ true = grind (arith, common_steps, f.0) in
      ap (λ b. if b then Some (bare ls) else (if is_nil rest then None else closed_at to q ls)) lt ∙ ap Some (sym f.1)
  leap_passes p q to ls rest e (inr f) =
      let lt : nat_lt p to ≡ false = grind (arith, common_steps, f.0) in
      let more = has_more q rest f.1.1.1.0.0 f.1.1.1.0.1 e in
      let some : is_nil rest ≡ false = not-true (is_nil rest) more in
      ap (λ b. if b then Some (bare ls) else (if is_nil rest then None else closed_at to q ls)) lt
      ∙ ap (λ b. if b then None else closed_at to q ls) some ∙ ap (closed_at to q) f.1.1.0 ∙ closed_own to q f.1.0 ∙ ap Some (sym f.1.1.1.1)

  way_passes : (w : Way) (p q : ℕ) (ks : List Sort) (ls : List OpenLoop) (rest : List Instruction) → HasAt whole q rest → q + sizes rest ≡ sizes whole → Ways w (record { code = whole; at = s.at }) p q ks ls → way_behind w p q ks ls rest ≡ Some (s.at q)
  way_passes Straight p q ks ls rest has e w =
      ap (λ b. if_so b (record { operands = ks; loops = ls })) (has_more q rest w.0.0 w.0.1 e) ∙ ap Some (sym w.1)
  way_passes (Branch to) p q ks ls rest has e w =
      let lt : nat_lt p to ≡ true = grind (arith, common_steps, w.1.0) in
      ap (λ k. if_so (is_nil k && (nat_lt p to && not (is_nil rest))) (bare ls)) w.0
      ∙ ap (λ b. if_so (b && not (is_nil rest)) (bare ls)) lt ∙ ap (λ b. if_so b (bare ls)) (has_more q rest w.1.1.1.0.0 w.1.1.1.0.1 e) ∙ ap Some (sym w.1.1.1.1)
  way_passes (Leap to) p q ks ls rest has e w =
      ap (λ k. if is_nil k then leapt to p q ls rest else None) w.0 ∙ leap_passes p q to ls rest e w.1.1
  way_passes Opens p q ks ls [] has e w = let n : sizes whole ≤ q = omega (arith, e) in absurd (none_past_end whole q w.1.0 n w.1.1.1.0)
  way_passes Opens p q ks ls (m ∷ rest) has e w =
      let same : m ≡ w.1.0 = some_same m w.1.0 (sym has.0 ∙ w.1.1.1.0) in
      ap (λ k. if is_nil k then opened_at q ls (m ∷ rest) else None) w.0
      ∙ ap (λ n. opened_by (way_of n) q ls) same ∙ ap (λ v. opened_by v q ls) w.1.1.1.1.0 ∙ ap Some (sym w.1.1.1.1.1)
  way_passes (Turns exit) p q ks ls rest has e w =
      ap (λ k. if_so (is_nil k && (stands_at p exit ls && not (is_nil rest))) (bare ls)) w.0
      ∙ ap (λ l. if_so (stands_at p exit l && not (is_nil rest)) (bare ls)) w.1.1.0
      ∙ ap (λ b. if_so ((b && (exit == exit)) && not (is_nil rest)) (bare ls)) (eq_same p)
      ∙ ap (λ b. if_so (b && not (is_nil rest)) (bare ls)) (eq_same exit)
      ∙ ap (λ b. if_so b (bare ls)) (has_more q rest w.1.1.1.1.0.0 w.1.1.1.1.0.1 e) ∙ ap Some (sym w.1.1.1.1.1)
  way_passes Ends p q ks ls rest has e w = ap Some (sym w)

  none_left : (p : ℕ) (rest : List Instruction) → p + 1 ≡ sizes whole → p + 1 + sizes rest ≡ sizes whole → is_nil rest ≡ true
  none_left p [] last e = refl
  none_left p (j ∷ js) last e = let no : ⊥ = omega (arith, e, last, size_of-positive j) in absurd no

  -- nothing follows an answer
  ends_passes : (p : ℕ) (i : Instruction) (rest : List Instruction) → at_place whole p ≡ Some i → p + size_of i + sizes rest ≡ sizes whole → ends_well z.role i rest ≡ true
  ends_passes p i rest at e = by (answers z.role i) refl
    where
      by : (b : Bool) → answers z.role i ≡ b → (if b then is_nil rest else true) ≡ true
      by false n = refl
      by true n =
          let is_answer : i ≡ Answer = answer_is z.role i n in
          let last : p + 1 ≡ sizes whole = last_is_answered z.role whole p s.answered (ap (answers z.role) (sym is_answer) ∙ n) (at ∙ ap Some is_answer) in
          let size : size_of i ≡ 1 = ap size_of is_answer in
          let e' : p + 1 + sizes rest ≡ sizes whole = omega (arith, e, size) in
          none_left p rest last e'

  behind_passes : (p : ℕ) (i : Instruction) (rest : List Instruction) → at_place whole p ≡ Some i → HasAt whole (p + size_of i) rest → p + size_of i + sizes rest ≡ sizes whole → behind z p i rest (s.at p) ≡ Some (s.at (p + size_of i))
  unfolding behind is_allowed
  behind_passes p i rest at has e =
      let f = s.fine p i at in
      ap (λ b. if (b && names_what_is_there z.counts (loops_around z.role + length (s.at p).loops) i) && ends_well z.role i rest then left_behind (operands_behind z.counts i (s.at p).operands) p i (s.at p).loops rest else None) f.allowed
      ∙ ap (λ b. if b && ends_well z.role i rest then left_behind (operands_behind z.counts i (s.at p).operands) p i (s.at p).loops rest else None) f.named
      ∙ ap (λ b. if b then left_behind (operands_behind z.counts i (s.at p).operands) p i (s.at p).loops rest else None) (ends_passes p i rest at e)
      ∙ ap (λ o. left_behind o p i (s.at p).loops rest) f.typed ∙ way_passes (way_of i) p (p + size_of i) f.left (s.at p).loops rest has e f.ways

  -- the marks of a stretch
  marks_of : ℕ → List Instruction → List Mark
  marks_of p [] = []
  marks_of p (i ∷ is) = record { place = p; instruction = i; label = s.at p } ∷ marks_of (p + size_of i) is

  marks_are : (p : ℕ) (is : List Instruction) → HasAt whole p is → p + sizes is ≡ sizes whole → marks_from z p (Some (s.at p)) is ≡ Some (marks_of p is)
  unfolding marks_of
  marks_are p [] has e =
      let p_end : p ≡ sizes whole = omega (arith, e) in
      ap (λ ls. if_so (is_nil ls) []) (ap (λ q. (s.at q).loops) p_end ∙ s.closed)
  marks_are p (i ∷ is) has e =
      let e' : p + size_of i + sizes is ≡ sizes whole = omega (arith, e) in
      ap (λ l. with_mark (record { place = p; instruction = i; label = s.at p }) (marks_from z (p + size_of i) l is)) (behind_passes p i is has.0 has.1 e')
      ∙ ap (with_mark (record { place = p; instruction = i; label = s.at p })) (marks_are (p + size_of i) is has.1 e')

  -- a place of the stretch has its label
  look_split : (p r : ℕ) (i j : Instruction) (js : List Instruction) → ((r' : ℕ) → at_place js r' ≡ Some i → look (marks_of (p + size_of j) js) (p + size_of j + r') ≡ Some (s.at (p + size_of j + r')))
      → ((r ≡ 0) × (j ≡ i)) ⊎ ((size_of j ≤ r) × (at_place js (r - size_of j) ≡ Some i))
      → (if p == p + r then Some (s.at p) else look (marks_of (p + size_of j) js) (p + r)) ≡ Some (s.at (p + r))
  look_split p r i j js more (inl f) =
      let e : (p == p + r) ≡ true = grind (arith, common_steps, f.0) in
      let q : p ≡ p + r = omega (arith, f.0) in
      ap (λ b. if b then Some (s.at p) else look (marks_of (p + size_of j) js) (p + r)) e ∙ ap (λ n. Some (s.at n)) q
  look_split p r i j js more (inr f) =
      let pos = size_of-positive j in
      let e : (p == p + r) ≡ false = grind (arith, common_steps, f.0, pos) in
      let q : p + size_of j + (r - size_of j) ≡ p + r = omega (arith, f.0) in
      ap (λ b. if b then Some (s.at p) else look (marks_of (p + size_of j) js) (p + r)) e
      ∙ subst (λ n. look (marks_of (p + size_of j) js) n ≡ Some (s.at n)) q (more (r - size_of j) f.1)

  look_marks : (is : List Instruction) (p r : ℕ) (i : Instruction) → at_place is r ≡ Some i → look (marks_of p is) (p + r) ≡ Some (s.at (p + r))
  unfolding marks_of
  look_marks [] p r i h = let no : ⊥ = cc in absurd no
  look_marks (j ∷ js) p r i h = look_split p r i j js (λ r' h'. look_marks js (p + size_of j) r' i h') (at_cases j js r i h)

  all_marks : List Mark
  all_marks = marks_of 0 whole

  look_all : (q : ℕ) (i : Instruction) → at_place whole q ≡ Some i → look all_marks q ≡ Some (s.at q)
  unfolding all_marks
  look_all q i h = let e : 0 + q ≡ q = omega arith in subst (λ n. look (marks_of 0 whole) n ≡ Some (s.at n)) e (look_marks whole 0 q i h)

  goal_meets : (q : ℕ) (ls : List OpenLoop) → LeadsTo (record { code = whole; at = s.at }) q (bare ls) → is_bare_in ls (look all_marks q) ≡ true
  goal_meets q ls w = ap (is_bare_in ls) (look_all q w.0.0 w.0.1) ∙ ap (λ l. is_bare_in ls (Some l)) w.1 ∙ same_loop-refl ls

  way_meet : (w : Way) (p q : ℕ) (ks : List Sort) → Ways w (record { code = whole; at = s.at }) p q ks (s.at p).loops → way_meets w all_marks p (s.at p).loops ≡ true
  way_meet Straight p q ks w = refl
  way_meet (Branch to) p q ks w = goal_meets to (s.at p).loops w.1.1.0
  way_meet (Leap to) p q ks w = one_of (nat_lt p to) (is_bare_in (s.at p).loops (look all_marks to)) (goal_meets to (s.at p).loops w.1.0)
    where
      one_of : (b g : Bool) → g ≡ true → (if b then g else true) ≡ true
      one_of true g h = h
      one_of false g h = refl
  way_meet Opens p q ks w = refl
  way_meet (Turns exit) p q ks w = refl
  way_meet Ends p q ks w = refl

  all_do_meet : (p : ℕ) (is : List Instruction) → HasAt whole p is → all_meet all_marks (marks_of p is) ≡ true
  unfolding marks_of
  all_do_meet p [] has = refl
  all_do_meet p (i ∷ is) has =
      let f = s.fine p i has.0 in
      ap (λ b. b && all_meet all_marks (marks_of (p + size_of i) is)) (way_meet (way_of i) p (p + size_of i) f.left f.ways) ∙ all_do_meet (p + size_of i) is has.1

  pub sound_passes : passes z whole ≡ true
  unfolding all_marks passes
  sound_passes =
      let has : HasAt whole 0 whole = has_whole whole in
      let e : 0 + sizes whole ≡ sizes whole = omega arith in
      ap (λ b. b && met (marks_from z 0 (Some (bare [])) whole)) (has_more 0 whole s.starts.0.0 s.starts.0.1 e)
      ∙ ap (λ l. met (marks_from z 0 (Some l) whole)) (sym s.starts.1) ∙ ap met (marks_are 0 whole has e) ∙ all_do_meet 0 whole has
