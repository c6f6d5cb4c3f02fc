-- Choices and loops: jumps whose place is told when it is known.
use Rattle.std.proofs.Common.{◌≡◌, ℕ, ◌+◌, ◌≤◌, nat_lt, Bool, true, false, List, [], ◌∷◌, ◌++◌, length, Option, None, Some, refl, sym, ap, ◌∙◌, arith, append_assoc, append-nil, length-append, is_some, slice_get}
use Rattle.std.proofs.Math.Seq.{set-append_seam}
use Rattle.std.proofs.lemmas.Bool.{ltb-true, false_from_ne_true}
use Rattle.std.proofs.lemmas.List.Folds.{list_all-append}
use Rattle.std.specs.List.{list_all}
use Rattle.play_meaning.specs.Instructions.{sizes}
use Rattle.play_meaning.specs.Translation.{Emitted, Part, behind, choice, loop, nothing, one, seq, testing}
use Rattle.play_meaning.specs.declared.instruction.Instruction.{Instruction}
use Rattle.play_meaning.specs.declared.instruction.Instruction.TheVariants.{Begin, IfZero, Jump, Next}
use Rattle.story_code.specs.Emitting.{Emitting, aimed, aimed_code, aims, can_say_all, can_say_code, count_in, emitted, followed, kept_if, named, opens_few, place_in, set_if}
use Rattle.story_code.specs.Spelling.{can_spell}
use Rattle.story_code.specs.declared.emitting.tested.Tested.TheVariants as tested
use Rattle.story_code.proofs.Followed.{and_first, and_second, can_say_front, emitted_seq, followed_seq, said_aimed, sizes_append}

-- ---- what stands at the seam of two lists

pub get_seam : (a : List Instruction) (x : Instruction) (b : List Instruction) → slice_get (a ++ x ∷ b) (length a) ≡ Some x
get_seam [] x b = refl
get_seam (y ∷ a) x b = get_seam a x b

-- a jump that is aimed stands where it stood
aimed_seam : (a : List Instruction) (x : Instruction) (b : List Instruction) (to : ℕ) → aimed_code (a ++ x ∷ b) (length a) to ≡ a ++ aims to x ∷ b
unfolding aimed_code
aimed_seam a x b to = ap (set_if (a ++ x ∷ b) (length a) (aims to)) (get_seam a x b) ∙ set-append_seam a x b (aims to x)

said_seam : (a : List Instruction) (x : Instruction) (b : List Instruction) (tests : List (List Instruction)) (to : ℕ) → nat_lt to 65536 ≡ true → can_say_all (record { code = a ++ x ∷ b; tests = tests }) ≡ true → can_say_all (record { code = a ++ aims to x ∷ b; tests = tests }) ≡ true
said_seam a x b tests to low h =
    ap (λ c. can_say_all (record { code = c; tests = tests })) (sym (set-append_seam a x b (aims to x)))
    ∙ (said_aimed (a ++ x ∷ b) tests (length a) to x (get_seam a x b) low h).1

-- ---- what was emitted in front of more that bytes can say is kept

last_kept : (first : ℕ) (e : Emitted) (p : Part) → can_say_all (followed first e p) ≡ true → emitted (record { first = first; kept = Some e }) p ≡ record { first = first; kept = Some (followed first e p) }
unfolding emitted
last_kept first e p h = ap (λ x. record { first = first; kept = kept_if x (followed first e p) }) h

not_kept : (first : ℕ) (e : Emitted) (p : Part) → can_say_all (followed first e p) ≡ false → emitted (record { first = first; kept = Some e }) p ≡ record { first = first; kept = None }
unfolding emitted
not_kept first e p h = ap (λ x. record { first = first; kept = kept_if x (followed first e p) }) h

said_is_short : (e : Emitted) → can_say_all e ≡ true → nat_lt (sizes e.code) 65536 ≡ true
unfolding can_say_all
said_is_short e h = and_first _ _ (and_first _ _ h)

lower : (m n most : ℕ) → m ≤ n → nat_lt n most ≡ true → nat_lt m most ≡ true
lower m n most l h = grind (arith)

-- ---- choices

module _ (first : ℕ) (e : Emitted) (condition a b : Part) where
  abbrev e1 : Emitted
  e1 = followed first e condition

  abbrev e2 : Emitted
  e2 = followed first e1 (one (IfZero 0))

  abbrev first_part : Emitted
  first_part = a (first + length e2.tests) (sizes e2.code)

  abbrev e3 : Emitted
  e3 = followed first e2 a

  abbrev e4 : Emitted
  e4 = followed first e3 (one (Jump 0))

  abbrev other_part : Emitted
  other_part = b (first + length e4.tests) (sizes e4.code)

  abbrev e5 : Emitted
  e5 = followed first e4 b

  -- with these jumps
  abbrev jumping : Instruction → Instruction → Emitted
  jumping x y = record { code = (((e1.code ++ x ∷ []) ++ first_part.code) ++ y ∷ []) ++ other_part.code; tests = e5.tests }

  -- a choice whose parts are emitted with these numbers of tests, at these places
  abbrev chosen_at : ℕ → ℕ → ℕ → ℕ → Emitted
  chosen_at n p m q =
      let asked = condition (first + length e.tests) (sizes e.code) in
      let taken = a n p in
      let other = b m q in
      behind e (record { code = asked.code ++ IfZero q ∷ (taken.code ++ Jump (q + sizes other.code) ∷ other.code); tests = asked.tests ++ (taken.tests ++ other.tests) })

  -- the tests and the places of its parts are those of the parts one behind the other
  tests_asked : first + length e.tests + length (condition (first + length e.tests) (sizes e.code)).tests ≡ first + length e2.tests
  tests_asked = let asked = condition (first + length e.tests) (sizes e.code) in omega (arith, length-append e.tests asked.tests, length-append (e.tests ++ asked.tests) [])

  place_asked : sizes e.code + sizes (condition (first + length e.tests) (sizes e.code)).code + 3 ≡ sizes e2.code
  place_asked = let asked = condition (first + length e.tests) (sizes e.code) in omega (arith, sizes_append e.code asked.code, sizes_append (e.code ++ asked.code) (IfZero 0 ∷ []))

  tests_taken : first + length e2.tests + length first_part.tests ≡ first + length e4.tests
  tests_taken = omega (arith, length-append e2.tests first_part.tests, length-append e3.tests [])

  place_taken : sizes e2.code + sizes first_part.code + 3 ≡ sizes e4.code
  place_taken = omega (arith, sizes_append e2.code first_part.code, sizes_append e3.code (Jump 0 ∷ []))

  place_end : sizes e4.code + sizes other_part.code ≡ sizes e5.code
  place_end = sym (sizes_append e4.code other_part.code)

  chosen_is : followed first e (choice condition a b) ≡ jumping (IfZero (sizes e4.code)) (Jump (sizes e5.code))
  unfolding choice
  chosen_is =
      let asked = condition (first + length e.tests) (sizes e.code) in
      let t = first + length e.tests + length asked.tests in
      let p = sizes e.code + sizes asked.code + 3 in
      ap (λ n. chosen_at n p (n + length (a n p).tests) (p + sizes (a n p).code + 3)) tests_asked
      ∙ ap (λ p. chosen_at (first + length e2.tests) p (first + length e2.tests + length (a (first + length e2.tests) p).tests) (p + sizes (a (first + length e2.tests) p).code + 3)) place_asked
      ∙ ap (λ m. chosen_at (first + length e2.tests) (sizes e2.code) m (sizes e2.code + sizes first_part.code + 3)) tests_taken
      ∙ ap (chosen_at (first + length e2.tests) (sizes e2.code) (first + length e4.tests)) place_taken
      ∙ ap (λ end. record { code = e.code ++ (asked.code ++ IfZero (sizes e4.code) ∷ (first_part.code ++ Jump end ∷ other_part.code)); tests = e.tests ++ (asked.tests ++ (first_part.tests ++ other_part.tests)) }) place_end
      ∙ ap (λ c. record { code = c; tests = e.tests ++ (asked.tests ++ (first_part.tests ++ other_part.tests)) }) codes
      ∙ ap (λ ts. record { code = (jumping (IfZero (sizes e4.code)) (Jump (sizes e5.code))).code; tests = ts }) tests
    where
      codes : e.code ++ ((condition (first + length e.tests) (sizes e.code)).code ++ IfZero (sizes e4.code) ∷ (first_part.code ++ Jump (sizes e5.code) ∷ other_part.code)) ≡ (jumping (IfZero (sizes e4.code)) (Jump (sizes e5.code))).code
      codes = simp append_assoc

      tests : e.tests ++ ((condition (first + length e.tests) (sizes e.code)).tests ++ (first_part.tests ++ other_part.tests)) ≡ e5.tests
      tests = simp (append_assoc, append-nil)

  -- the second jump, then the first
  aimed_both : (n1 p1 n2 p2 : ℕ) → n1 ≡ length e1.code → n2 ≡ length e3.code → aimed_code (aimed_code (jumping (IfZero 0) (Jump 0)).code n1 p1) n2 p2 ≡ (jumping (IfZero p1) (Jump p2)).code
  aimed_both n1 p1 n2 p2 at1 at2 =
      let one_at : (x y : Instruction) → (jumping x y).code ≡ e1.code ++ x ∷ (first_part.code ++ y ∷ other_part.code) = λ x y. simp append_assoc in
      let two_at : (x y : Instruction) → (jumping x y).code ≡ ((e1.code ++ x ∷ []) ++ first_part.code) ++ y ∷ other_part.code = λ x y. append_assoc ((e1.code ++ x ∷ []) ++ first_part.code) (y ∷ []) other_part.code in
      let n2_is : n2 ≡ length ((e1.code ++ IfZero p1 ∷ []) ++ first_part.code) = omega (arith, at2, length-append (e1.code ++ IfZero p1 ∷ []) first_part.code, length-append e1.code (IfZero p1 ∷ []), length-append (e1.code ++ IfZero 0 ∷ []) first_part.code, length-append e1.code (IfZero 0 ∷ [])) in
      ap (λ c. aimed_code (aimed_code c n1 p1) n2 p2) (one_at (IfZero 0) (Jump 0))
      ∙ ap (λ n. aimed_code (aimed_code (e1.code ++ IfZero 0 ∷ (first_part.code ++ Jump 0 ∷ other_part.code)) n p1) n2 p2) at1
      ∙ ap (λ c. aimed_code c n2 p2) (aimed_seam e1.code (IfZero 0) (first_part.code ++ Jump 0 ∷ other_part.code) p1 ∙ sym (one_at (IfZero p1) (Jump 0)) ∙ two_at (IfZero p1) (Jump 0))
      ∙ ap (λ n. aimed_code (((e1.code ++ IfZero p1 ∷ []) ++ first_part.code) ++ Jump 0 ∷ other_part.code) n p2) n2_is
      ∙ aimed_seam ((e1.code ++ IfZero p1 ∷ []) ++ first_part.code) (Jump 0) other_part.code p2
      ∙ sym (two_at (IfZero p1) (Jump p2))

  -- bytes can say it with any jumps within them
  said_both : (p q r s : ℕ) → nat_lt p 65536 ≡ true → nat_lt q 65536 ≡ true → can_say_all (jumping (IfZero r) (Jump s)) ≡ true → can_say_all (jumping (IfZero p) (Jump q)) ≡ true
  said_both p q r s low_p low_q h =
      let one_at : (x y : Instruction) → (jumping x y).code ≡ e1.code ++ x ∷ (first_part.code ++ y ∷ other_part.code) = λ x y. simp append_assoc in
      let two_at : (x y : Instruction) → (jumping x y).code ≡ ((e1.code ++ x ∷ []) ++ first_part.code) ++ y ∷ other_part.code = λ x y. append_assoc ((e1.code ++ x ∷ []) ++ first_part.code) (y ∷ []) other_part.code in
      let said : List Instruction → Bool = λ c. can_say_all (record { code = c; tests = e5.tests }) in
      let once : said (jumping (IfZero p) (Jump s)).code ≡ true = ap said (one_at (IfZero p) (Jump s)) ∙ said_seam e1.code (IfZero r) (first_part.code ++ Jump s ∷ other_part.code) e5.tests p low_p (ap said (sym (one_at (IfZero r) (Jump s))) ∙ h) in
      ap said (two_at (IfZero p) (Jump q)) ∙ said_seam ((e1.code ++ IfZero p ∷ []) ++ first_part.code) (Jump s) other_part.code e5.tests q low_q (ap said (sym (two_at (IfZero p) (Jump s))) ∙ once)

  abbrev start : Emitting
  start = record { first = first; kept = Some e }

  abbrev asked_state : Emitting
  asked_state = emitted start condition

  abbrev taken_state : Emitting
  taken_state = emitted (emitted asked_state (one (IfZero 0))) a

  abbrev leapt_state : Emitting
  leapt_state = emitted taken_state (one (Jump 0))

  abbrev other_state : Emitting
  other_state = emitted leapt_state b

  abbrev choice_done : Emitting
  choice_done = aimed (count_in taken_state.kept) (place_in other_state.kept) (aimed (count_in asked_state.kept) (place_in leapt_state.kept) other_state)

  choice_kept : can_say_all e5 ≡ true → choice_done ≡ emitted start (choice condition a b)
  unfolding aimed
  choice_kept h5 =
      let h4 = can_say_front e4 other_part h5 in
      let h3 = can_say_front e3 (record { code = Jump 0 ∷ []; tests = [] }) h4 in
      let h2 = can_say_front e2 first_part h3 in
      let h1 = can_say_front e1 (record { code = IfZero 0 ∷ []; tests = [] }) h2 in
      let is1 = last_kept first e condition h1 in
      let is2 = ap (λ s. emitted s (one (IfZero 0))) is1 ∙ last_kept first e1 (one (IfZero 0)) h2 in
      let is3 = ap (λ s. emitted s a) is2 ∙ last_kept first e2 a h3 in
      let is4 = ap (λ s. emitted s (one (Jump 0))) is3 ∙ last_kept first e3 (one (Jump 0)) h4 in
      let is5 = ap (λ s. emitted s b) is4 ∙ last_kept first e4 b h5 in
      let short = said_is_short e5 h5 in
      let said = ap can_say_all chosen_is ∙ said_both (sizes e4.code) (sizes e5.code) 0 0 (lower (sizes e4.code) (sizes e5.code) 65536 (omega (arith, place_end)) short) short h5 in
      ap (λ s. aimed (count_in taken_state.kept) (place_in other_state.kept) (aimed (count_in s.kept) (place_in leapt_state.kept) other_state)) is1
      ∙ ap (λ s. aimed (count_in s.kept) (place_in other_state.kept) (aimed (length e1.code) (place_in leapt_state.kept) other_state)) is3
      ∙ ap (λ s. aimed (length e3.code) (place_in other_state.kept) (aimed (length e1.code) (place_in s.kept) other_state)) is4
      ∙ ap (λ s. aimed (length e3.code) (place_in s.kept) (aimed (length e1.code) (sizes e4.code) s)) is5
      ∙ ap (λ c. record { first = first; kept = Some (record { code = c; tests = e5.tests }) }) (aimed_both (length e1.code) (sizes e4.code) (length e3.code) (sizes e5.code) refl refl)
      ∙ ap (λ d. record { first = first; kept = Some d }) (sym chosen_is)
      ∙ sym (last_kept first e (choice condition a b) said)

  lost_is : can_say_all e5 ≡ false → other_state ≡ record { first = first; kept = None }
  lost_is h5 =
      let rest3 = seq (one (Jump 0)) b in
      let rest2 = seq a rest3 in
      let rest1 = seq (one (IfZero 0)) rest2 in
      emitted_seq taken_state (one (Jump 0)) b ∙ emitted_seq (emitted asked_state (one (IfZero 0))) a rest3 ∙ emitted_seq asked_state (one (IfZero 0)) rest2 ∙ emitted_seq start condition rest1
      ∙ not_kept first e (seq condition rest1) (ap can_say_all (sym (followed_seq first e condition rest1) ∙ sym (followed_seq first e1 (one (IfZero 0)) rest2) ∙ sym (followed_seq first e2 a rest3) ∙ sym (followed_seq first e3 (one (Jump 0)) b)) ∙ h5)

  choice_lost : can_say_all e5 ≡ false → choice_done ≡ emitted start (choice condition a b)
  unfolding aimed
  choice_lost h5 =
      let unsaid : can_say_all (followed first e (choice condition a b)) ≡ false = false_from_ne_true _ (λ t. let no : ⊥ = cc (said_both 0 0 (sizes e4.code) (sizes e5.code) refl refl (ap can_say_all (sym chosen_is) ∙ t), h5) in no) in
      ap (λ s. aimed (count_in taken_state.kept) (place_in other_state.kept) (aimed (count_in asked_state.kept) (place_in leapt_state.kept) s)) (lost_is h5)
      ∙ sym (not_kept first e (choice condition a b) unsaid)

  choice_either : (x : Bool) → can_say_all e5 ≡ x → choice_done ≡ emitted start (choice condition a b)
  choice_either true h = choice_kept h
  choice_either false h = choice_lost h

-- a choice is emitted by its parts, with jumps that are aimed when their places are known
pub choice_aimed : (first : ℕ) (kept : Option Emitted) (condition a b : Part)
    → let s : Emitting = record { first = first; kept = kept } in
    let s1 = emitted s condition in
    let s3 = emitted (emitted s1 (one (IfZero 0))) a in
    let s4 = emitted s3 (one (Jump 0)) in
    let s5 = emitted s4 b in
    aimed (count_in s3.kept) (place_in s5.kept) (aimed (count_in s1.kept) (place_in s4.kept) s5) ≡ emitted s (choice condition a b)
unfolding aimed emitted
choice_aimed first None condition a b = refl
choice_aimed first (Some e) condition a b = choice_either first e condition a b (can_say_all (e5 first e condition a b)) refl

pub choice_emitted : (condition a b : Part) (s s1 s2 s3 s4 s5 s6 s7 : Emitting) (n1 p1 n2 p2 : ℕ)
    → s1 ≡ emitted s condition → n1 ≡ count_in s1.kept → s2 ≡ emitted s1 (one (IfZero 0)) → s3 ≡ emitted s2 a → n2 ≡ count_in s3.kept
    → s4 ≡ emitted s3 (one (Jump 0)) → p1 ≡ place_in s4.kept → s5 ≡ emitted s4 b → p2 ≡ place_in s5.kept → s6 ≡ aimed n1 p1 s5 → s7 ≡ aimed n2 p2 s6
    → s7 ≡ emitted s (choice condition a b)
choice_emitted condition a b s s1 s2 s3 s4 s5 s6 s7 n1 p1 n2 p2 h1 at1 h2 h3 at2 h4 to1 h5 to2 h6 h7 =
    let i3 = h3 ∙ ap (λ s. emitted s a) (h2 ∙ ap (λ s. emitted s (one (IfZero 0))) h1) in
    let i4 = h4 ∙ ap (λ s. emitted s (one (Jump 0))) i3 in
    let i5 = h5 ∙ ap (λ s. emitted s b) i4 in
    h7 ∙ ap (aimed n2 p2) h6
    ∙ ap (λ n. aimed n2 p2 (aimed n p1 s5)) (at1 ∙ ap (λ s. count_in s.kept) h1)
    ∙ ap (λ n. aimed n p2 (aimed (count_in (emitted s condition).kept) p1 s5)) (at2 ∙ ap (λ s. count_in s.kept) i3)
    ∙ ap (λ p. aimed (count_in (emitted (emitted (emitted s condition) (one (IfZero 0))) a).kept) p2 (aimed (count_in (emitted s condition).kept) p s5)) (to1 ∙ ap (λ s. place_in s.kept) i4)
    ∙ ap (λ p. aimed (count_in (emitted (emitted (emitted s condition) (one (IfZero 0))) a).kept) p (aimed (count_in (emitted s condition).kept) (place_in (emitted (emitted (emitted (emitted s condition) (one (IfZero 0))) a) (one (Jump 0))).kept) s5)) (to2 ∙ ap (λ s. place_in s.kept) i5)
    ∙ ap (aimed (count_in (emitted (emitted (emitted s condition) (one (IfZero 0))) a).kept) (place_in (emitted (emitted (emitted (emitted (emitted s condition) (one (IfZero 0))) a) (one (Jump 0))) b).kept)) (ap (aimed (count_in (emitted s condition).kept) (place_in (emitted (emitted (emitted (emitted s condition) (one (IfZero 0))) a) (one (Jump 0))).kept)) i5)
    ∙ choice_aimed s.first s.kept condition a b

-- ---- loops

module _ (first : ℕ) (e : Emitted) (k : ℕ) (passes : List Instruction) (body : Part) where
  abbrev b1 : Emitted
  b1 = followed first e (one (Begin k))

  abbrev b2 : Emitted
  b2 = followed first b1 (testing (named (tested.Next k)) passes)

  abbrev turn_part : Emitted
  turn_part = body (first + length b2.tests) (sizes b2.code)

  abbrev b3 : Emitted
  b3 = followed first b2 body

  abbrev b4 : Emitted
  b4 = followed first b3 (one (Jump (sizes b1.code)))

  abbrev turning : ℕ → ℕ → Emitted
  turning test exit = record { code = ((b1.code ++ Next k test exit ∷ []) ++ turn_part.code) ++ Jump (sizes b1.code) ∷ []; tests = b4.tests }

  -- a loop whose body is emitted with this number of tests, at this place
  abbrev turning_at : ℕ → ℕ → ℕ → Emitted
  turning_at test n p =
      let turn = body n p in
      behind e (record { code = Begin k ∷ Next k test (p + sizes turn.code + 3) ∷ (turn.code ++ Jump (sizes e.code + 2) ∷ []); tests = passes ∷ turn.tests })

  test_is : first + length e.tests ≡ first + length b1.tests
  test_is = omega (arith, length-append e.tests [])

  head_is : sizes e.code + 2 ≡ sizes b1.code
  head_is = omega (arith, sizes_append e.code (Begin k ∷ []))

  turn_tests : first + length e.tests + 1 ≡ first + length b2.tests
  turn_tests = omega (arith, length-append e.tests [], length-append b1.tests (passes ∷ []))

  turn_place : sizes e.code + 8 ≡ sizes b2.code
  turn_place = omega (arith, sizes_append e.code (Begin k ∷ []), sizes_append b1.code (Next k (first + length b1.tests) 0 ∷ []))

  exit_is : sizes b2.code + sizes turn_part.code + 3 ≡ sizes b4.code
  exit_is = omega (arith, sizes_append b2.code turn_part.code, sizes_append b3.code (Jump (sizes b1.code) ∷ []))

  loop_is : followed first e (loop k passes body) ≡ turning (first + length b1.tests) (sizes b4.code)
  unfolding loop
  loop_is =
      ap (λ p. turning_at (first + length e.tests) (first + length e.tests + 1) p) turn_place
      ∙ ap (λ n. turning_at (first + length e.tests) n (sizes b2.code)) turn_tests
      ∙ ap (λ test. turning_at test (first + length b2.tests) (sizes b2.code)) test_is
      ∙ ap (λ exit. record { code = e.code ++ (Begin k ∷ Next k (first + length b1.tests) exit ∷ (turn_part.code ++ Jump (sizes e.code + 2) ∷ [])); tests = e.tests ++ (passes ∷ turn_part.tests) }) exit_is
      ∙ ap (λ head. record { code = e.code ++ (Begin k ∷ Next k (first + length b1.tests) (sizes b4.code) ∷ (turn_part.code ++ Jump head ∷ [])); tests = e.tests ++ (passes ∷ turn_part.tests) }) head_is
      ∙ ap (λ c. record { code = c; tests = e.tests ++ (passes ∷ turn_part.tests) }) codes
      ∙ ap (λ ts. record { code = (turning (first + length b1.tests) (sizes b4.code)).code; tests = ts }) tests
    where
      codes : e.code ++ (Begin k ∷ Next k (first + length b1.tests) (sizes b4.code) ∷ (turn_part.code ++ Jump (sizes b1.code) ∷ [])) ≡ (turning (first + length b1.tests) (sizes b4.code)).code
      codes = simp append_assoc

      tests : e.tests ++ (passes ∷ turn_part.tests) ≡ b4.tests
      tests = simp (append_assoc, append-nil)

  next_at : (test exit : ℕ) → (turning test exit).code ≡ b1.code ++ Next k test exit ∷ (turn_part.code ++ Jump (sizes b1.code) ∷ [])
  next_at test exit = simp append_assoc

  said_exit : (test p q : ℕ) → nat_lt p 65536 ≡ true → can_say_all (turning test q) ≡ true → can_say_all (turning test p) ≡ true
  said_exit test p q low h =
      let said : List Instruction → Bool = λ c. can_say_all (record { code = c; tests = b4.tests }) in
      ap said (next_at test p) ∙ said_seam b1.code (Next k test q) (turn_part.code ++ Jump (sizes b1.code) ∷ []) b4.tests p low (ap said (sym (next_at test q)) ∙ h)

  abbrev begun : Emitting
  begun = record { first = first; kept = Some e }

  abbrev open_state : Emitting
  open_state = emitted begun (one (Begin k))

  abbrev turned_state : Emitting
  turned_state = emitted (emitted open_state (testing (named (tested.Next k)) passes)) body

  abbrev loop_done : ℕ → Emitting
  loop_done head = let back = emitted turned_state (one (Jump head)) in aimed (count_in open_state.kept) (place_in back.kept) back

  loop_kept : can_say_all b4 ≡ true → loop_done (place_in open_state.kept) ≡ emitted begun (loop k passes body)
  unfolding aimed
  loop_kept h4 =
      let h3 = can_say_front b3 (record { code = Jump (sizes b1.code) ∷ []; tests = [] }) h4 in
      let h2 = can_say_front b2 turn_part h3 in
      let h1 = can_say_front b1 (record { code = Next k (first + length b1.tests) 0 ∷ []; tests = passes ∷ [] }) h2 in
      let is1 = last_kept first e (one (Begin k)) h1 in
      let is2 = ap (λ s. emitted s (testing (named (tested.Next k)) passes)) is1 ∙ last_kept first b1 (testing (named (tested.Next k)) passes) h2 in
      let is3 = ap (λ s. emitted s body) is2 ∙ last_kept first b2 body h3 in
      let is4 = ap (λ s. emitted s (one (Jump (sizes b1.code)))) is3 ∙ last_kept first b3 (one (Jump (sizes b1.code))) h4 in
      let said = ap can_say_all loop_is ∙ said_exit (first + length b1.tests) (sizes b4.code) 0 (said_is_short b4 h4) h4 in
      ap (λ s. let back = emitted turned_state (one (Jump (place_in s.kept))) in aimed (count_in s.kept) (place_in back.kept) back) is1
      ∙ ap (λ s. aimed (length b1.code) (place_in s.kept) s) is4
      ∙ ap (λ c. record { first = first; kept = Some (record { code = c; tests = b4.tests }) }) (ap (λ c. aimed_code c (length b1.code) (sizes b4.code)) (next_at (first + length b1.tests) 0) ∙ aimed_seam b1.code (Next k (first + length b1.tests) 0) (turn_part.code ++ Jump (sizes b1.code) ∷ []) (sizes b4.code) ∙ sym (next_at (first + length b1.tests) (sizes b4.code)))
      ∙ ap (λ d. record { first = first; kept = Some d }) (sym loop_is)
      ∙ sym (last_kept first e (loop k passes body) said)

  back_lost : can_say_all b4 ≡ false → emitted turned_state (one (Jump (sizes b1.code))) ≡ record { first = first; kept = None }
  back_lost h4 =
      let rest2 = seq body (one (Jump (sizes b1.code))) in
      let rest1 = seq (testing (named (tested.Next k)) passes) rest2 in
      emitted_seq (emitted open_state (testing (named (tested.Next k)) passes)) body (one (Jump (sizes b1.code))) ∙ emitted_seq open_state (testing (named (tested.Next k)) passes) rest2 ∙ emitted_seq begun (one (Begin k)) rest1
      ∙ not_kept first e (seq (one (Begin k)) rest1) (ap can_say_all (sym (followed_seq first e (one (Begin k)) rest1) ∙ sym (followed_seq first b1 (testing (named (tested.Next k)) passes) rest2) ∙ sym (followed_seq first b2 body (one (Jump (sizes b1.code))))) ∙ h4)

  loop_not_kept : can_say_all b1 ≡ true → can_say_all b4 ≡ false → loop_done (place_in open_state.kept) ≡ emitted begun (loop k passes body)
  unfolding aimed
  loop_not_kept h1 h4 =
      let is1 = last_kept first e (one (Begin k)) h1 in
      let unsaid : can_say_all (followed first e (loop k passes body)) ≡ false = false_from_ne_true _ (λ t. let no : ⊥ = cc (said_exit (first + length b1.tests) 0 (sizes b4.code) refl (ap can_say_all (sym loop_is) ∙ t), h4) in no) in
      ap (λ s. let back = emitted turned_state (one (Jump (place_in s.kept))) in aimed (count_in s.kept) (place_in back.kept) back) is1
      ∙ ap (λ s. aimed (length b1.code) (place_in s.kept) s) (back_lost h4)
      ∙ sym (not_kept first e (loop k passes body) unsaid)

  loop_either : (x : Bool) → can_say_all b1 ≡ true → can_say_all b4 ≡ x → loop_done (place_in open_state.kept) ≡ emitted begun (loop k passes body)
  loop_either true h1 h4 = loop_kept h4
  loop_either false h1 h4 = loop_not_kept h1 h4

  begun_is : true ≡ is_some open_state.kept → can_say_all b1 ≡ true
  unfolding emitted
  begun_is h = if_kept (can_say_all b1) h
    where
      if_kept : (x : Bool) → true ≡ is_some (kept_if x b1) → x ≡ true
      if_kept true h = refl
      if_kept false h = sym h

-- a loop is emitted by its parts, with its exit aimed when its place is known
loop_aimed : (first : ℕ) (kept : Option Emitted) (k : ℕ) (passes : List Instruction) (body : Part)
    → let s : Emitting = record { first = first; kept = kept } in
    let s1 = emitted s (one (Begin k)) in
    let s4 = emitted (emitted (emitted s1 (testing (named (tested.Next k)) passes)) body) (one (Jump (place_in s1.kept))) in
    true ≡ is_some s1.kept → aimed (count_in s1.kept) (place_in s4.kept) s4 ≡ emitted s (loop k passes body)
unfolding aimed emitted
loop_aimed first None k passes body held = let no : ⊥ = cc in absurd no
loop_aimed first (Some e) k passes body held = loop_either first e k passes body (can_say_all (b4 first e k passes body)) (begun_is first e k passes body held) refl

pub loop_emitted : (k : ℕ) (passes : List Instruction) (body : Part) (s s1 s2 s3 s4 s5 : Emitting) (head n p : ℕ)
    → s1 ≡ emitted s (one (Begin k)) → true ≡ is_some s1.kept → head ≡ place_in s1.kept → n ≡ count_in s1.kept → s2 ≡ emitted s1 (testing (named (tested.Next k)) passes)
    → s3 ≡ emitted s2 body → s4 ≡ emitted s3 (one (Jump head)) → p ≡ place_in s4.kept → s5 ≡ aimed n p s4
    → s5 ≡ emitted s (loop k passes body)
loop_emitted k passes body s s1 s2 s3 s4 s5 head n p h1 held at1 count1 h2 h3 h4 to h5 =
    let o1 = emitted s (one (Begin k)) in
    let i3 = h3 ∙ ap (λ s. emitted s body) (h2 ∙ ap (λ s. emitted s (testing (named (tested.Next k)) passes)) h1) in
    let i4 = h4 ∙ ap (λ s. emitted s (one (Jump head))) i3 ∙ ap (λ p. emitted (emitted (emitted o1 (testing (named (tested.Next k)) passes)) body) (one (Jump p))) (at1 ∙ ap (λ s. place_in s.kept) h1) in
    h5 ∙ ap (λ n. aimed n p s4) (count1 ∙ ap (λ s. count_in s.kept) h1)
    ∙ ap (λ p. aimed (count_in o1.kept) p s4) (to ∙ ap (λ s. place_in s.kept) i4)
    ∙ ap (λ t. aimed (count_in o1.kept) (place_in (emitted (emitted (emitted o1 (testing (named (tested.Next k)) passes)) body) (one (Jump (place_in o1.kept)))).kept) t) i4
    ∙ loop_aimed s.first s.kept k passes body (held ∙ ap (λ s. is_some s.kept) h1)

-- where a loop's beginning is kept, few are open
begin_fits : (code : List Instruction) (k : ℕ) → can_say_code (code ++ Begin k ∷ []) ≡ true → nat_lt k 9 ≡ true
begin_fits code k h =
    let rest = and_second (nat_lt (sizes (code ++ Begin k ∷ [])) 65536) _ h in
    let opens = and_second (list_all can_spell (code ++ Begin k ∷ [])) _ rest in
    and_first (nat_lt k 9) true (and_second (list_all opens_few code) _ (sym (list_all-append opens_few code (Begin k ∷ [])) ∙ opens))

begin_kept : (first : ℕ) (kept : Option Emitted) (k : ℕ) → true ≡ is_some (emitted (record { first = first; kept = kept }) (one (Begin k))).kept → nat_lt k 9 ≡ true
unfolding emitted can_say_all
begin_kept first None k h = let no : ⊥ = cc in absurd no
begin_kept first (Some e) k h = begin_fits e.code k (and_first _ _ (begun_is first e k [] nothing h))

pub few_open : (s t : Emitting) (k : ℕ) → t ≡ emitted s (one (Begin k)) → true ≡ is_some t.kept → k + 1 ≤ 9
few_open s t k is_t held = omega (arith, ltb-true k 9 (begin_kept s.first s.kept k (held ∙ ap (λ s. is_some s.kept) is_t)))
