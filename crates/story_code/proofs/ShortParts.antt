-- Parts whose codes take so many bytes at most, which can say them wherever they stand.
use Rattle.std.proofs.Common.{◌≡◌, ◌∙◌, refl, ℕ, ◌+◌, ◌*◌, ◌<◌, ◌≤◌, ◌&&◌, nat_lt, true, List, [], ◌∷◌, ◌++◌, length, length-append, arith}
use Rattle.std.specs.List.{list_all}
use Rattle.std.proofs.lemmas.Bool.{and_from, lt-ltb}
use Rattle.std.proofs.lemmas.List.Folds.{list_all-append}
use Rattle.play_meaning.specs.Instructions.{size_of, sizes}
use Rattle.play_meaning.specs.Translation.{Emitted, Part, choice, loop, nothing, one, seq, testing, these}
use Rattle.play_meaning.specs.declared.instruction.Instruction.{Instruction}
use Rattle.play_meaning.specs.declared.instruction.Instruction.TheVariants as i
use Rattle.story_code.specs.Emitting.{can_say_all, can_say_code, opens_few}
use Rattle.story_code.specs.ShortLaws.{IsShortlySaid}
use Rattle.story_code.specs.Spelling.{can_spell}
use Rattle.story_code.proofs.Followed.{sizes_append}

-- bytes can say each instruction's arguments, and it opens one of the first nine loops
abbrev pub CanSpell : List Instruction → Type 0
CanSpell code = (list_all can_spell code ≡ true) × (list_all opens_few code ≡ true)

pub spell_both : (a b : List Instruction) → CanSpell a → CanSpell b → CanSpell (a ++ b)
spell_both a b x y = (
  list_all-append can_spell a b ∙ and_from (list_all can_spell a) (list_all can_spell b) x.0 y.0,
  list_all-append opens_few a b ∙ and_from (list_all opens_few a) (list_all opens_few b) x.1 y.1,
)

-- a number that two bytes can say
pub two_spelled : (n : ℕ) → n < 65536 → (nat_lt n 65536 && true) ≡ true
two_spelled n low = and_from (nat_lt n 65536) true (lt-ltb n 65536 low) refl

-- a jump, and what stands behind it
branch_spelled : (place : ℕ) (code : List Instruction) → place < 65536 → CanSpell code → CanSpell (i.IfZero place ∷ code)
branch_spelled place code low is = (and_from (nat_lt place 65536 && true) (list_all can_spell code) (two_spelled place low) is.0, is.1)

jump_spelled : (place : ℕ) (code : List Instruction) → place < 65536 → CanSpell code → CanSpell (i.Jump place ∷ code)
jump_spelled place code low is = (and_from (nat_lt place 65536 && true) (list_all can_spell code) (two_spelled place low) is.0, is.1)

-- ---- what is emitted

abbrev pub AllSay : List (List Instruction) → Type 0
AllSay tests = list_all can_say_code tests ≡ true

all_say : (a b : List (List Instruction)) → AllSay a → AllSay b → AllSay (a ++ b)
all_say a b x y = list_all-append can_say_code a b ∙ and_from (list_all can_say_code a) (list_all can_say_code b) x y

abbrev pub IsSpelled : Emitted → Type 0
IsSpelled e = CanSpell e.code × AllSay e.tests

-- with its first test by this number, and from this place on
abbrev pub HasNumbers : ℕ → ℕ → Emitted → Type 0
HasNumbers t q e = (t + length e.tests ≤ 65536) × (q + sizes e.code < 65536)

-- ---- parts

-- a part of so many bytes and tests at most, which bytes can say wherever it stands
pub record IsSaid (p : Part) (bytes tests : ℕ) : Type 0 where
  pub size : (t q : ℕ) → sizes (p t q).code ≤ bytes
  pub named : (t q : ℕ) → length (p t q).tests ≤ tests
  pub spelled : (t q : ℕ) → HasNumbers t q (p t q) → IsSpelled (p t q)

pub within : (p : Part) (a b m n : ℕ) → IsSaid p a m → a ≤ b → m ≤ n → IsSaid p b n
within p a b m n s low few = record { size = λ t q. omega (arith, s.size t q, low); named = λ t q. omega (arith, s.named t q, few); spelled = s.spelled }

pub said_these : (code : List Instruction) (bytes : ℕ) → sizes code ≤ bytes → CanSpell code → IsSaid (these code) bytes 0
said_these code bytes size is = record { size = λ t q. size; named = λ t q. omega arith; spelled = λ t q has. (is, refl) }

-- an instruction that bytes can say
pub said_one : (x : Instruction) (bytes : ℕ) → size_of x ≤ bytes → CanSpell (x ∷ []) → IsSaid (one x) bytes 0
said_one x bytes size is = said_these (x ∷ []) bytes (omega (arith, size)) is

pub said_nothing : IsSaid nothing 0 0
said_nothing = said_these [] 0 (omega arith) (refl, refl)

-- an instruction that names a test which bytes can say
pub said_testing : (x : ℕ → Instruction) (test : List Instruction) (bytes : ℕ) → ((t : ℕ) → size_of (x t) ≤ bytes) → ((t : ℕ) → t < 65536 → CanSpell (x t ∷ []))
    → can_say_code test ≡ true → IsSaid (testing x test) bytes 1
said_testing x test bytes size is said = record {
  size = λ t q. omega (arith, size t);
  named = λ t q. omega arith;
  spelled = λ t q has. (is t (omega (arith, has.0)), and_from (can_say_code test) true said refl);
}

-- ---- one behind the other

module _ (a b : Part) (t q : ℕ) where
  abbrev front : Emitted
  front = a t q

  abbrev rest : Emitted
  rest = b (t + length front.tests) (q + sizes front.code)

  seq_size : sizes (seq a b t q).code ≡ sizes front.code + sizes rest.code
  unfolding seq
  seq_size = sizes_append front.code rest.code

  seq_tests : length (seq a b t q).tests ≡ length front.tests + length rest.tests
  unfolding seq
  seq_tests = length-append front.tests rest.tests

  seq_spelled : IsSpelled front → IsSpelled rest → IsSpelled (seq a b t q)
  unfolding seq
  seq_spelled x y = (spell_both front.code rest.code x.0 y.0, all_say front.tests rest.tests x.1 y.1)

pub said_seq : (a b : Part) (x y m n : ℕ) → IsSaid a x m → IsSaid b y n → IsSaid (seq a b) (x + y) (m + n)
said_seq a b x y m n r s = record {
  size = λ t q. omega (arith, seq_size a b t q, r.size t q, s.size (t + length (a t q).tests) (q + sizes (a t q).code));
  named = λ t q. omega (arith, seq_tests a b t q, r.named t q, s.named (t + length (a t q).tests) (q + sizes (a t q).code));
  spelled = λ t q has. seq_spelled a b t q (r.spelled t q (omega (arith, has.0, seq_tests a b t q), omega (arith, has.1, seq_size a b t q)))
      (s.spelled (t + length (a t q).tests) (q + sizes (a t q).code) (omega (arith, has.0, seq_tests a b t q), omega (arith, has.1, seq_size a b t q)));
}

-- ---- a choice

module _ (c a b : Part) (t q : ℕ) where
  abbrev asked : Emitted
  asked = c t q

  abbrev t1 : ℕ
  t1 = t + length asked.tests

  abbrev q1 : ℕ
  q1 = q + sizes asked.code + 3

  abbrev taken : Emitted
  taken = a t1 q1

  abbrev t2 : ℕ
  t2 = t1 + length taken.tests

  abbrev q2 : ℕ
  q2 = q1 + sizes taken.code + 3

  abbrev other : Emitted
  other = b t2 q2

  abbrev end : ℕ
  end = q2 + sizes other.code

  abbrev behind_jump : List Instruction
  behind_jump = i.Jump end ∷ other.code

  choice_size : sizes (choice c a b t q).code ≡ sizes asked.code + sizes taken.code + sizes other.code + 6
  unfolding choice
  choice_size = omega (arith, sizes_append asked.code (i.IfZero q2 ∷ (taken.code ++ behind_jump)), sizes_append taken.code behind_jump)

  choice_tests : length (choice c a b t q).tests ≡ length asked.tests + length taken.tests + length other.tests
  unfolding choice
  choice_tests = omega (arith, length-append asked.tests (taken.tests ++ other.tests), length-append taken.tests other.tests)

  choice_spelled : end < 65536 → IsSpelled asked → IsSpelled taken → IsSpelled other → IsSpelled (choice c a b t q)
  unfolding choice
  choice_spelled low x y w = (
    spell_both asked.code (i.IfZero q2 ∷ (taken.code ++ behind_jump)) x.0
        (branch_spelled q2 (taken.code ++ behind_jump) (omega (arith, low)) (spell_both taken.code behind_jump y.0 (jump_spelled end other.code low w.0))),
    all_say asked.tests (taken.tests ++ other.tests) x.1 (all_say taken.tests other.tests y.1 w.1),
  )

  all_spelled : (x y w l m n : ℕ) → IsSaid c x l → IsSaid a y m → IsSaid b w n → HasNumbers t q (choice c a b t q) → IsSpelled (choice c a b t q)
  all_spelled x y w l m n r s u has =
      choice_spelled (omega (arith, has.1, choice_size)) (r.spelled t q (omega (arith, has.0, choice_tests), omega (arith, has.1, choice_size)))
      (s.spelled t1 q1 (omega (arith, has.0, choice_tests), omega (arith, has.1, choice_size)))
      (u.spelled t2 q2 (omega (arith, has.0, choice_tests), omega (arith, has.1, choice_size)))

pub said_choice : (c a b : Part) (x y w l m n : ℕ) → IsSaid c x l → IsSaid a y m → IsSaid b w n → IsSaid (choice c a b) (x + y + w + 6) (l + m + n)
said_choice c a b x y w l m n r s u = record {
  size = λ t q. omega (arith, choice_size c a b t q, r.size t q, s.size (t1 c a b t q) (q1 c a b t q), u.size (t2 c a b t q) (q2 c a b t q));
  named = λ t q. omega (arith, choice_tests c a b t q, r.named t q, s.named (t1 c a b t q) (q1 c a b t q), u.named (t2 c a b t q) (q2 c a b t q));
  spelled = λ t q. all_spelled c a b t q x y w l m n r s u;
}

-- ---- a loop

module _ (k : ℕ) (passes : List Instruction) (body : Part) (t q : ℕ) where
  abbrev turn : Emitted
  turn = body (t + 1) (q + 8)

  abbrev exit : ℕ
  exit = q + 8 + sizes turn.code + 3

  abbrev turned : List Instruction
  turned = turn.code ++ i.Jump (q + 2) ∷ []

  loop_size : sizes (loop k passes body t q).code ≡ sizes turn.code + 11
  unfolding loop
  loop_size = omega (arith, sizes_append turn.code (i.Jump (q + 2) ∷ []))

  loop_tests : length (loop k passes body t q).tests ≡ length turn.tests + 1
  unfolding loop
  loop_tests = omega arith

  loop_spelled : k < 9 → t < 65536 → exit < 65536 → can_say_code passes ≡ true → IsSpelled turn → IsSpelled (loop k passes body t q)
  unfolding loop
  loop_spelled few low short said is =
      let inner = spell_both turn.code (i.Jump (q + 2) ∷ []) is.0 (jump_spelled (q + 2) [] (omega (arith, short)) (refl, refl)) in
      let next = and_from (nat_lt t 65536) (nat_lt exit 65536 && true) (lt-ltb t 65536 low) (two_spelled exit short) in (
        (
          and_from (nat_lt t 65536 && (nat_lt exit 65536 && true)) (list_all can_spell turned) next inner.0,
          and_from (nat_lt k 9) (list_all opens_few turned) (lt-ltb k 9 few) inner.1,
        ),
        and_from (can_say_code passes) (list_all can_say_code turn.tests) said is.1,
      )

pub said_loop : (k : ℕ) (passes : List Instruction) (body : Part) (x m : ℕ) → k < 9 → can_say_code passes ≡ true → IsSaid body x m → IsSaid (loop k passes body) (x + 11) (m + 1)
said_loop k passes body x m few said s = record {
  size = λ t q. omega (arith, loop_size k passes body t q, s.size (t + 1) (q + 8));
  named = λ t q. omega (arith, loop_tests k passes body t q, s.named (t + 1) (q + 8));
  spelled = λ t q has. loop_spelled k passes body t q few (omega (arith, has.0, loop_tests k passes body t q)) (omega (arith, has.1, loop_size k passes body t q)) said
      (s.spelled (t + 1) (q + 8) (omega (arith, has.0, loop_tests k passes body t q), omega (arith, has.1, loop_size k passes body t q)));
}

-- ---- wholes

said_all : (p : Part) (bytes tests first : ℕ) → IsSaid p bytes tests → bytes < 65536 → first + length (p first 0).tests ≤ 65536 → can_say_all (p first 0) ≡ true
unfolding can_say_all
said_all p bytes tests first s low few =
    let e = p first 0 in
    let r = s.spelled first 0 (few, omega (arith, s.size first 0, low)) in
    and_from (can_say_code e.code) (list_all can_say_code e.tests)
    (and_from (nat_lt (sizes e.code) 65536) (list_all can_spell e.code && list_all opens_few e.code) (lt-ltb (sizes e.code) 65536 (omega (arith, s.size first 0, low)))
    (and_from (list_all can_spell e.code) (list_all opens_few e.code) r.0.0 r.0.1)) r.1

-- a part that so many words and strings say, and an instruction behind it
pub whole_said : (p : Part) (x : Instruction) (words strings first : ℕ) → IsSaid p (105 * words + 3 * strings) words → size_of x ≤ 1 → CanSpell (x ∷ []) → words ≤ 500 → strings ≤ 1000
    → IsShortlySaid first words (seq p (one x) first 0)
whole_said p x words strings first s size can low few =
    let bytes = 105 * words + 3 * strings in
    let all = said_seq p (one x) bytes 1 words 0 s (said_one x 1 size can) in
    record { few = omega (arith, all.named first 0); said = said_all (seq p (one x)) (bytes + 1) (words + 0) first all (omega (arith, low, few)) }
