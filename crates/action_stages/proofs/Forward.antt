-- In a sound code every loop that is open at a place has its exit behind it, and its next turn at its head.
use Rattle.std.proofs.Common.{◌≡◌, ◌∙◌, ap, sym, subst, ℕ, zero, suc, ◌+◌, ◌-◌, ◌<◌, ◌≤◌, List, [], ◌∷◌, refl, ◌⊎◌, inl, inr, Some, None, arith}
use Rattle.std.proofs.lemmas.Bool.{cases_lt, le-ltb, lt-ltb, ne_eqb}
use Rattle.play_meaning.specs.Instructions.{at_place, size_of, sizes}
use Rattle.play_meaning.specs.SoundCodes.{IsFine, Labelled, Ways, way_of}
use Rattle.play_meaning.specs.declared.instruction.Instruction.{Instruction}
use Rattle.play_meaning.specs.declared.operand.Counts.{Counts}
use Rattle.play_meaning.specs.declared.operand.Sort.{Sort}
use Rattle.play_meaning.specs.declared.operand.Use.{Use}
use Rattle.play_meaning.specs.declared.way.OpenLoop.{OpenLoop}
use Rattle.play_meaning.specs.declared.way.Way.{Way}
use Rattle.play_meaning.specs.declared.way.Way.TheVariants.{Branch, Ends, Leap, Opens, Straight, Turns}
use Rattle.play_meaning.proofs.Standing.{size_is}

-- ---- over the places of a code

behind_first : (j : Instruction) (js : List Instruction) (q : ℕ) → size_of j ≤ q → at_place (j ∷ js) q ≡ at_place js (q - size_of j)
behind_first j js q more = rw (ne_eqb q 0 (λ none. omega (arith, none, more, size_is j)), le-ltb q (size_of j) more) refl

skipped : (j : Instruction) (js : List Instruction) (q : ℕ) → at_place (j ∷ js) (size_of j + q) ≡ at_place js q
skipped j js q =
    let rest : size_of j + q - size_of j ≡ q = omega arith in
    behind_first j js (size_of j + q) (omega arith) ∙ ap (at_place js) rest

moved : (P : ℕ → Type 0) (q r : ℕ) → q ≡ r → P q → P r
moved P q r e holds = subst P e holds

-- inside the first instruction none begins
is_first : (j i : Instruction) (js : List Instruction) (q : ℕ) → q < size_of j → at_place (j ∷ js) q ≡ Some i → q ≡ 0
is_first j i js zero less e = refl
is_first j i js (suc q) less e =
    let none : at_place (j ∷ js) (suc q) ≡ None = rw (ne_eqb (suc q) 0 (λ none. omega (arith, none)), lt-ltb (suc q) (size_of j) less) refl in
    absurd (nothing (sym none ∙ e))
  where
    nothing : None ≡ Some i → ⊥
    nothing e = absurd cc

-- what holds at the first place, and behind each instruction where it holds at the instruction, holds at every place
pub onward : (P : ℕ → Type 0) (is : List Instruction) → P 0 → ((q : ℕ) (i : Instruction) → at_place is q ≡ Some i → P q → P (q + size_of i))
    → (q : ℕ) (i : Instruction) → at_place is q ≡ Some i → P q
onward P [] first on q i e = absurd cc
onward P (j ∷ js) first on q i e =
    by_order (cases_lt q (size_of j))
    (onward (λ n. P (size_of j + n)) js (moved P (0 + size_of j) (size_of j + 0) (omega arith) (on 0 j refl first))
    (λ n k at here. moved P (size_of j + n + size_of k) (size_of j + (n + size_of k)) (omega arith) (on (size_of j + n) k (skipped j js n ∙ at) here)) (q - size_of j) i)
  where
    by_order : (q < size_of j) ⊎ (size_of j ≤ q) → (at_place js (q - size_of j) ≡ Some i → P (size_of j + (q - size_of j))) → P q
    by_order (inl less) more = moved P 0 q (sym (is_first j i js q less e)) first
    by_order (inr far) more = moved P (size_of j + (q - size_of j)) q (omega (arith, far)) (more (sym (behind_first j js q far) ∙ e))

-- what holds at the end, and at each instruction where it holds behind it, holds at every place
pub backward : (P : ℕ → Type 0) (is : List Instruction) → P (sizes is) → ((q : ℕ) (i : Instruction) → at_place is q ≡ Some i → P (q + size_of i) → P q)
    → P 0 × ((q : ℕ) (i : Instruction) → at_place is q ≡ Some i → P q)
backward P [] last back = (last, λ q i e. absurd cc)
backward P (j ∷ js) last back =
    with_first (backward (λ n. P (size_of j + n)) js last
    (λ n k at behind. back (size_of j + n) k (skipped j js n ∙ at) (moved P (size_of j + (n + size_of k)) (size_of j + n + size_of k) (omega arith) behind)))
  where
    with_first : P (size_of j + 0) × ((q : ℕ) (i : Instruction) → at_place js q ≡ Some i → P (size_of j + q)) → P 0 × ((q : ℕ) (i : Instruction) → at_place (j ∷ js) q ≡ Some i → P q)
    with_first more = (first, λ q i e. by_order q i e (cases_lt q (size_of j)))
      where
        first : P 0
        first = back 0 j refl (moved P (size_of j + 0) (0 + size_of j) (omega arith) more.0)

        by_order : (q : ℕ) (i : Instruction) → at_place (j ∷ js) q ≡ Some i → (q < size_of j) ⊎ (size_of j ≤ q) → P q
        by_order q i e (inl less) = moved P 0 q (sym (is_first j i js q less e)) first
        by_order q i e (inr far) = moved P (size_of j + (q - size_of j)) q (omega (arith, far)) (more.1 (q - size_of j) i (sym (behind_first j js q far) ∙ e))

-- ---- open loops

-- the exits of these loops stand behind a place
abbrev pub ExitBehind : ℕ → List OpenLoop → Type 0
ExitBehind q [] = Unit {0}
ExitBehind q (loop ∷ loops) = (q < loop.exit) × ExitBehind q loops

exits_before : (q r : ℕ) (loops : List OpenLoop) → q < r → ExitBehind r loops → ExitBehind q loops
exits_before q r [] less exits = tt
exits_before q r (loop ∷ loops) less exits = (omega (arith, less, exits.0), exits_before q r loops less exits.1)

-- the next turn of a loop stands at its head
abbrev pub HasTurn : List Instruction → OpenLoop → Type 0
HasTurn code loop = (turn : Instruction) × ((at_place code loop.head ≡ Some turn) × (way_of turn ≡ Turns loop.exit))

abbrev pub HaveTurns : List Instruction → List OpenLoop → Type 0
HaveTurns code [] = Unit {0}
HaveTurns code (loop ∷ loops) = HasTurn code loop × HaveTurns code loops

module _ (c : Labelled) where
  exits_by : (q behind : ℕ) (way : Way) (left : List Sort) (loops : List OpenLoop) → q < behind → Ways way c q behind left loops → ExitBehind behind (c.at behind).loops → ExitBehind q loops
  exits_by q behind Straight left loops less ways exits = exits_before q behind loops less (subst (λ l. ExitBehind behind l.loops) ways.1 exits)
  exits_by q behind (Branch to) left loops less ways exits = exits_before q behind loops less (subst (λ l. ExitBehind behind l.loops) ways.1.1.1.1 exits)
  exits_by q behind (Leap to) left loops less (none, (leads, inl on)) exits = exits_before q behind loops less (subst (λ l. ExitBehind behind l.loops) on.1 exits)
  exits_by q behind (Leap to) left loops less (none, (leads, inr back)) exits =
      subst (ExitBehind q) (sym back.1.1.0) (less, exits_before q behind back.1.0 less (subst (λ l. ExitBehind behind l.loops) back.1.1.1.1 exits))
  exits_by q behind Opens left loops less ways exits =
      exits_before q behind loops less (subst (λ l. ExitBehind behind l.loops) ways.1.1.1.1.1 exits).1
  exits_by q behind (Turns exit) left loops less ways exits = exits_before q behind loops less (subst (λ l. ExitBehind behind l.loops) ways.1.1.1.1.1 exits)
  exits_by q behind Ends left loops less ways exits = exits_before q behind loops less (subst (λ l. ExitBehind behind l.loops) ways exits)

  turns_by : (q behind : ℕ) (way : Way) (left : List Sort) (loops : List OpenLoop) → Ways way c q behind left loops → HaveTurns c.code loops → HaveTurns c.code (c.at behind).loops
  turns_by q behind Straight left loops ways turns = subst (λ l. HaveTurns c.code l.loops) (sym ways.1) turns
  turns_by q behind (Branch to) left loops ways turns = subst (λ l. HaveTurns c.code l.loops) (sym ways.1.1.1.1) turns
  turns_by q behind (Leap to) left loops (none, (leads, inl on)) turns = subst (λ l. HaveTurns c.code l.loops) (sym on.1) turns
  turns_by q behind (Leap to) left loops (none, (leads, inr back)) turns =
      subst (λ l. HaveTurns c.code l.loops) (sym back.1.1.1.1) (subst (HaveTurns c.code) back.1.1.0 turns).1
  turns_by q behind Opens left loops ways turns =
      let opens = ways.1 in
      subst (λ l. HaveTurns c.code l.loops) (sym opens.1.1.1.1) ((opens.0, (opens.1.1.0, opens.1.1.1.0)), turns)
  turns_by q behind (Turns exit) left loops ways turns = subst (λ l. HaveTurns c.code l.loops) (sym ways.1.1.1.1.1) turns
  turns_by q behind Ends left loops ways turns = subst (λ l. HaveTurns c.code l.loops) (sym ways) turns

module _ (z : Counts) (role : Use) (c : Labelled) (fine : (place : ℕ) (i : Instruction) → at_place c.code place ≡ Some i → IsFine z role c place i) where
  -- the exits of the loops that are open at a place stand behind it
  pub exits_behind : (c.at (sizes c.code)).loops ≡ [] → (q : ℕ) (i : Instruction) → at_place c.code q ≡ Some i → ExitBehind q (c.at q).loops
  exits_behind closed = (backward (λ q. ExitBehind q (c.at q).loops) c.code (subst (ExitBehind (sizes c.code)) (sym closed) tt)
      (λ q i at exits. let f = fine q i at in exits_by c q (q + size_of i) (way_of i) f.left (c.at q).loops (omega (arith, size_is i)) f.ways exits)).1

  -- and their next turns at their heads
  pub turns_stand : (c.at 0).loops ≡ [] → (q : ℕ) (i : Instruction) → at_place c.code q ≡ Some i → HaveTurns c.code (c.at q).loops
  turns_stand outside = onward (λ q. HaveTurns c.code (c.at q).loops) c.code (subst (HaveTurns c.code) (sym outside) tt)
      (λ q i at turns. let f = fine q i at in turns_by c q (q + size_of i) (way_of i) f.left (c.at q).loops f.ways turns)
