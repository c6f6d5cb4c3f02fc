-- A sound code names tests by numbers behind its own, inside no more than nine loops.
use Rattle.std.proofs.Common.{◌≡◌, ◌∙◌, ap, refl, ℕ, ◌+◌, ◌<◌, ◌≤◌, ◌==◌, nat_lt, ◌⊎◌, inl, inr, true, false, ◌&&◌, not, List, [], ◌∷◌, length, Option, Some, None, arith}
use Rattle.std.specs.List.{AllByRecursion}
use Rattle.std.proofs.lemmas.Bool.{and_parts, eqb-true, ltb-true}
use Rattle.play_meaning.specs.Instructions.{size_of}
use Rattle.play_meaning.specs.Operands.{may_hold, names_what_is_there}
use Rattle.play_meaning.specs.SoundCodes.{IsSound, Label, bare, loops_around, way_of}
use Rattle.play_meaning.specs.TranslatedScripts.{in_list}
use Rattle.play_meaning.specs.declared.instruction.Instruction.{Instruction}
use Rattle.play_meaning.specs.declared.instruction.Instruction.TheVariants.{Count, Names, Next}
use Rattle.play_meaning.specs.declared.operand.Sort.{Sort}
use Rattle.play_meaning.specs.declared.operand.Use.{Use}
use Rattle.play_meaning.specs.declared.operand.Use.TheVariants.{Body, Describing, Test}
use Rattle.play_meaning.specs.declared.way.OpenLoop.{OpenLoop}
use Rattle.play_meaning.specs.declared.way.Way.{Way}
use Rattle.play_meaning.specs.declared.way.Way.TheVariants.{Branch, Ends, Leap, Opens, Straight, Turns}
use Rattle.story_code.specs.Passes.{Mark, is_allowed, is_nil, marks_from, met, passes}
use Rattle.story_code.specs.Runs.{test_named}
use Rattle.story_code.specs.declared.sizes.Sizes.{Sizes}
use Rattle.story_code.proofs.Marking.{Marked, Passed, marked}
use Rattle.story_code.proofs.Passing.{sound_passes}
use Rattle.story_code.proofs.Rooms.{allowed_room}
use Rattle.code_table.specs.Tables.{tests_in}
use Rattle.code_table.proofs.Lists.{all_append}

-- ---- loops

few_behind : (w : Way) (p q : ℕ) (sorts : List Sort) (loops : List OpenLoop) (rest : List Instruction) (l : Label) → (w ≡ Opens → length loops < 9) → length loops ≤ 9 → Passed w p q sorts loops rest l → length l.loops ≤ 9
few_behind Straight p q sorts loops rest l room few passed = omega (arith, few, ap (λ (m : Label). length m.loops) passed.1)
few_behind (Branch to) p q sorts loops rest l room few passed = omega (arith, few, ap (λ (m : Label). length m.loops) passed.1.1.1)
few_behind (Leap to) p q sorts loops rest l room few passed = by passed.1
  where
    by : ((p < to) × (l ≡ bare loops)) ⊎ ((to ≤ p) × ((outer : List OpenLoop) × ((loops ≡ record { head = to; exit = q } ∷ outer) × ((is_nil rest ≡ false) × (l ≡ bare outer))))) → length l.loops ≤ 9
    by (inl on) = omega (arith, few, ap (λ (m : Label). length m.loops) on.1)
    by (inr back) = omega (arith, few, ap length back.1.1.0, ap (λ (m : Label). length m.loops) back.1.1.1.1)
few_behind Opens p q sorts loops rest l room few passed = omega (arith, room refl, ap (λ (m : Label). length m.loops) passed.1.1.1.1.1.1)
few_behind (Turns exit) p q sorts loops rest l room few passed = omega (arith, few, ap (λ (m : Label). length m.loops) passed.1.1.1.1)
few_behind Ends p q sorts loops rest l room few passed = omega (arith, few, ap (λ (m : Label). length m.loops) passed)

-- ---- what an instruction names

-- a loop's next turn stands in bodies alone
turns_in_bodies : (role : Use) (k test exit : ℕ) → may_hold role (Next k test exit) ≡ true → loops_around role ≡ 0
unfolding may_hold
turns_in_bodies (Test loops) k test exit may = absurd cc
turns_in_bodies Describing k test exit may = absurd cc
turns_in_bodies Body k test exit may = refl

module _ (z : Sizes) where
  abbrev pub IsWithin : ℕ × ℕ → Type 0
  IsWithin named = (z.counts.own < named.1) × (named.0 < 9)

  opens_within : (depth k test : ℕ) → (((k == depth) && nat_lt depth 9) && ((nat_lt z.counts.own test && nat_lt test z.counts.codes) && true)) ≡ true → IsWithin (k, test)
  opens_within depth k test named =
      let halves = and_parts ((k == depth) && nat_lt depth 9) ((nat_lt z.counts.own test && nat_lt test z.counts.codes) && true) named in
      let opened = and_parts (k == depth) (nat_lt depth 9) halves.0 in
      let tested = and_parts (nat_lt z.counts.own test) (nat_lt test z.counts.codes) (and_parts (nat_lt z.counts.own test && nat_lt test z.counts.codes) true halves.1).0 in
      (ltb-true z.counts.own test tested.0, omega (arith, eqb-true k depth opened.0, ltb-true depth 9 opened.1))

  turns_within : (around loops k test : ℕ) → around ≡ 0 → loops ≤ 9 → ((k + 1 == around + loops) && ((nat_lt z.counts.own test && nat_lt test z.counts.codes) && true)) ≡ true → IsWithin (k, test)
  turns_within around loops k test outside few named =
      let halves = and_parts (k + 1 == around + loops) ((nat_lt z.counts.own test && nat_lt test z.counts.codes) && true) named in
      let tested = and_parts (nat_lt z.counts.own test) (nat_lt test z.counts.codes) (and_parts (nat_lt z.counts.own test && nat_lt test z.counts.codes) true halves.1).0 in
      (ltb-true z.counts.own test tested.0, omega (arith, outside, few, eqb-true (k + 1) (around + loops) halves.0))

  test_within : (i : Instruction) (loops : ℕ) → loops ≤ 9 → may_hold z.role i ≡ true → names_what_is_there z.counts (loops_around z.role + loops) i ≡ true → AllByRecursion IsWithin (in_list (test_named i))
  unfolding names_what_is_there
  test_within (Count k test) loops few may named = (opens_within (loops_around z.role + loops) k test named, tt)
  test_within (Names naming k test) loops few may named = (opens_within (loops_around z.role + loops) k test named, tt)
  test_within (Next k test exit) loops few may named = (turns_within (loops_around z.role) loops k test (turns_in_bodies z.role k test exit may) few (still named), tt)
    where
      still : ((k + 1 == loops_around z.role + loops) && ((nat_lt z.counts.own test && nat_lt test z.counts.codes) && (true && true))) ≡ true → ((k + 1 == loops_around z.role + loops) && ((nat_lt z.counts.own test && nat_lt test z.counts.codes) && true)) ≡ true
      still is = is
  test_within i loops few may named = tt

  -- ---- a code

  room_for : (i : Instruction) (l : Label) → may_hold z.role i ≡ true → names_what_is_there z.counts (loops_around z.role + length l.loops) i ≡ true → way_of i ≡ Opens → length l.loops < 9
  unfolding is_allowed
  room_for i l may named opens = allowed_room z l.loops i (ap (λ b. b && names_what_is_there z.counts (loops_around z.role + length l.loops) i) may ∙ named) opens

  all_within : (p : ℕ) (l : Label) (is : List Instruction) (ms : List Mark) → Marked z p l is ms → length l.loops ≤ 9 → AllByRecursion IsWithin (tests_in is)
  all_within p l [] ms m few = tt
  all_within p l (i ∷ is) ms m few =
      let s = m.1.1.0 in
      let less = few_behind (way_of i) p (p + size_of i) s.left l.loops is m.0 (room_for i l s.allowed s.named) few s.way in
      all_append IsWithin (in_list (test_named i)) (tests_in is) (test_within i (length l.loops) few s.allowed s.named) (all_within (p + size_of i) m.0 is m.1.0 m.1.1.1.1 less)

  met_marks : (o : Option (List Mark)) → met o ≡ true → (ms : List Mark) × (o ≡ Some ms)
  met_marks None is = absurd cc
  met_marks (Some ms) is = (ms, refl)

  pub sound_within : (code : List Instruction) → IsSound z.counts z.role code → AllByRecursion IsWithin (tests_in code)
  unfolding passes
  sound_within code sound =
      let passed = and_parts (not (is_nil code)) (met (marks_from z 0 (Some (bare [])) code)) (sound_passes z code sound) in
      let all = met_marks (marks_from z 0 (Some (bare [])) code) passed.1 in
      all_within 0 (bare []) code all.0 (marked z 0 (bare []) code all.0 all.1) (omega arith)
