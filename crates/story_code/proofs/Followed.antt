-- Parts one behind the other.
use Rattle.std.proofs.Common.{◌≡◌, ℕ, zero, suc, ◌+◌, ◌-◌, ◌≤◌, nat_lt, Bool, true, false, ◌&&◌, if◌then◌else◌, List, [], ◌∷◌, ◌++◌, length, take, drop, get_or, Option, None, Some, refl, sym, ap, ◌∙◌, arith, append_assoc, append-nil, length-append, is_some, slice_get, slice_set}
use Rattle.std.specs.Cmp.Derive.{both_true}
use Rattle.std.proofs.Math.Bool.{and-true}
use Rattle.std.proofs.lemmas.List.{take_all}
use Rattle.std.specs.List.{list_all}
use Rattle.std.proofs.lemmas.List.Folds.{list_all-append}
use Rattle.std.proofs.lemmas.Bool.{false_from_ne_true}
use Rattle.play_meaning.specs.Instructions.{size_of, sizes}
use Rattle.play_meaning.specs.Translation.{Emitted, Part, behind, nothing, one, seq, testing, these}
use Rattle.play_meaning.specs.declared.instruction.Instruction.{Instruction}
use Rattle.play_meaning.specs.declared.instruction.Instruction.TheVariants.{IfZero, Jump, Next}
use Rattle.story_code.specs.Emitting.{Emitting, aimed, aimed_code, aims, can_say_all, can_say_code, emitted, followed, followed_if, kept_if, named, next_test, next_test_if, only_test, opens_few, place_behind, set_if}
use Rattle.story_code.specs.declared.emitting.tested.Tested.{Tested}
use Rattle.story_code.specs.declared.emitting.tested.Tested.TheVariants as tested
use Rattle.story_code.specs.Spelling.{can_spell}

-- ---- sizes

pub sizes_append : (a b : List Instruction) → sizes (a ++ b) ≡ sizes a + sizes b
sizes_append [] b = omega arith
sizes_append (i ∷ a) b = omega (arith, sizes_append a b)

-- ---- what bytes can say

pub and_first : (x y : Bool) → (x && y) ≡ true → x ≡ true
and_first true y h = refl
and_first false y h = h

pub and_second : (x y : Bool) → (x && y) ≡ true → y ≡ true
and_second true y h = h
and_second false y h = let no : ⊥ = cc in absurd no

lt_shorter : (m n most : ℕ) → nat_lt (m + n) most ≡ true → nat_lt m most ≡ true
lt_shorter m n most h = grind (arith)

all_shorter : (p : Instruction → Bool) (a b : List Instruction) → list_all p (a ++ b) ≡ true → list_all p a ≡ true
all_shorter p a b h = and_first (list_all p a) (list_all p b) (sym (list_all-append p a b) ∙ h)

can_say_shorter : (a b : List Instruction) → can_say_code (a ++ b) ≡ true → can_say_code a ≡ true
can_say_shorter a b h =
    let short = and_first _ _ h in
    let rest = and_second _ _ h in
    both_true (lt_shorter (sizes a) (sizes b) 65536 (ap (λ n. nat_lt n 65536) (sym (sizes_append a b)) ∙ short))
    (both_true (all_shorter can_spell a b (and_first _ _ rest)) (all_shorter opens_few a b (and_second _ _ rest)))

-- what is said in front of more that bytes can say can be said
pub can_say_front : (e x : Emitted) → can_say_all (behind e x) ≡ true → can_say_all e ≡ true
unfolding can_say_all
can_say_front e x h =
    both_true (can_say_shorter e.code x.code (and_first _ _ h))
    (and_first (list_all can_say_code e.tests) (list_all can_say_code x.tests) (sym (list_all-append can_say_code e.tests x.tests) ∙ and_second _ _ h))

-- ---- what stands behind parts one behind the other

behind_behind : (x y z : Emitted) → behind (behind x y) z ≡ behind x (behind y z)
behind_behind x y z =
    ap (λ c. record { code = c; tests = (x.tests ++ y.tests) ++ z.tests }) (append_assoc x.code y.code z.code)
    ∙ ap (λ t. record { code = x.code ++ (y.code ++ z.code); tests = t }) (append_assoc x.tests y.tests z.tests)

pub followed_seq : (first : ℕ) (e : Emitted) (a b : Part) → followed first (followed first e a) b ≡ followed first e (seq a b)
unfolding seq
followed_seq first e a b =
    let ea = a (first + length e.tests) (sizes e.code) in
    let n : first + length (e.tests ++ ea.tests) ≡ first + length e.tests + length ea.tests = omega (arith, length-append e.tests ea.tests) in
    let p : sizes (e.code ++ ea.code) ≡ sizes e.code + sizes ea.code = sizes_append e.code ea.code in
    ap (behind (behind e ea)) (ap (λ m. b m (sizes (e.code ++ ea.code))) n ∙ ap (b (first + length e.tests + length ea.tests)) p)
    ∙ behind_behind e ea (b (first + length e.tests + length ea.tests) (sizes e.code + sizes ea.code))

kept_front : (first : ℕ) (a b : Part) (e : Emitted) (x : Bool) → can_say_all (followed first e a) ≡ x → followed_if first b (kept_if x (followed first e a)) ≡ followed_if first (seq a b) (Some e)
kept_front first a b e true h = ap (λ all. kept_if (can_say_all all) all) (followed_seq first e a b)
kept_front first a b e false h =
    let front = followed first e a in
    let all = followed first front b in
    let short : can_say_all all ≡ false = false_from_ne_true _ (λ t. let no : ⊥ = cc (can_say_front front (b (first + length front.tests) (sizes front.code)) t, h) in no) in
    ap (λ x. kept_if x all) (sym short) ∙ ap (λ all. kept_if (can_say_all all) all) (followed_seq first e a b)

kept_seq : (first : ℕ) (a b : Part) (kept : Option Emitted) → followed_if first b (followed_if first a kept) ≡ followed_if first (seq a b) kept
kept_seq first a b None = refl
kept_seq first a b (Some e) = kept_front first a b e (can_say_all (followed first e a)) refl

pub emitted_seq : (s : Emitting) (a b : Part) → emitted (emitted s a) b ≡ emitted s (seq a b)
unfolding emitted
emitted_seq s a b = ap (λ kept. record { first = s.first; kept = kept }) (kept_seq s.first a b s.kept)

-- ---- one instruction more

one_more : (most : ℕ) (code : List Instruction) (i : Instruction) → (nat_lt (sizes code) most && (list_all can_spell code && list_all opens_few code)) ≡ true
    → (nat_lt (sizes (code ++ i ∷ [])) most && (list_all can_spell (code ++ i ∷ []) && list_all opens_few (code ++ i ∷ []))) ≡ (nat_lt (sizes code + size_of i) most && (can_spell i && opens_few i))
one_more most code i h =
    let rest = and_second (nat_lt (sizes code) most) _ h in
    let place : sizes (code ++ i ∷ []) ≡ sizes code + size_of i = omega (arith, sizes_append code (i ∷ [])) in
    let spells : list_all can_spell (code ++ i ∷ []) ≡ can_spell i = list_all-append can_spell code (i ∷ []) ∙ ap (λ x. x && (can_spell i && true)) (and_first _ _ rest) ∙ and-true (can_spell i) in
    let opens : list_all opens_few (code ++ i ∷ []) ≡ opens_few i = list_all-append opens_few code (i ∷ []) ∙ ap (λ x. x && (opens_few i && true)) (and_second (list_all can_spell code) _ rest) ∙ and-true (opens_few i) in
    ap (λ n. nat_lt n most && (list_all can_spell (code ++ i ∷ []) && list_all opens_few (code ++ i ∷ []))) place
    ∙ ap (λ x. nat_lt (sizes code + size_of i) most && (x && list_all opens_few (code ++ i ∷ []))) spells
    ∙ ap (λ x. nat_lt (sizes code + size_of i) most && (can_spell i && x)) opens

if_some : (n m : ℕ) (x : Bool) → (if x then Some n else None) ≡ Some m → x ≡ true
if_some n m true h = refl
if_some n m false h = let no : ⊥ = cc in absurd no

if_none : (n : ℕ) (x : Bool) → (if x then Some n else None) ≡ None → x ≡ false
if_none n true h = let no : ⊥ = cc in absurd no
if_none n false h = refl

some_if : (n m : ℕ) (x : Bool) → (if x then Some n else None) ≡ Some m → n ≡ m
some_if n m true h = cc
some_if n m false h = let no : ⊥ = cc in absurd no

abbrev may_stand : ℕ → Instruction → Bool
may_stand place i = nat_lt (place + size_of i) 65536 && (can_spell i && opens_few i)

-- what can be said with one instruction more, by where that stands
said_more : (code : List Instruction) (tests : List (List Instruction)) (i : Instruction) → can_say_all (record { code = code; tests = tests }) ≡ true
    → can_say_all (record { code = code ++ i ∷ []; tests = tests }) ≡ (may_stand (sizes code) i && true)
unfolding can_say_all
said_more code tests i h =
    ap (λ x. x && list_all can_say_code tests) (one_more 65536 code i (and_first _ _ h))
    ∙ ap (λ x. may_stand (sizes code) i && x) (and_second (can_say_code code) (list_all can_say_code tests) h)

pub fits_behind : (place next : ℕ) (code : List Instruction) (tests : List (List Instruction)) (i : Instruction) → can_say_all (record { code = code; tests = tests }) ≡ true → place ≡ sizes code → place_behind place i ≡ Some next
    → (next ≡ sizes (code ++ i ∷ [])) × (can_say_all (record { code = code ++ i ∷ []; tests = tests }) ≡ true)
fits_behind place next code tests i h at found =
    let may : may_stand (sizes code) i ≡ true = ap (λ p. may_stand p i) (sym at) ∙ if_some _ _ (may_stand place i) found in
    let more : sizes (code ++ i ∷ []) ≡ sizes code + size_of i = omega (arith, sizes_append code (i ∷ [])) in
    (sym (some_if _ _ (may_stand place i) found) ∙ ap (λ p. p + size_of i) at ∙ sym more, said_more code tests i h ∙ ap (λ x. x && true) may)

pub fits_no_more : (place : ℕ) (code : List Instruction) (tests : List (List Instruction)) (i : Instruction) → can_say_all (record { code = code; tests = tests }) ≡ true → place ≡ sizes code → place_behind place i ≡ None
    → can_say_all (record { code = code ++ i ∷ []; tests = tests }) ≡ false
fits_no_more place code tests i h at found = said_more code tests i h ∙ ap (λ x. x && true) (ap (λ p. may_stand p i) (sym at) ∙ if_none _ (may_stand place i) found)

-- where it stands behind what was emitted
pub emitted_one : (first : ℕ) (code : List Instruction) (tests : List (List Instruction)) (i : Instruction) (x : Bool) → can_say_all (record { code = code ++ i ∷ []; tests = tests }) ≡ x
    → record { first = first; kept = kept_if x (record { code = code ++ i ∷ []; tests = tests }) } ≡ emitted (record { first = first; kept = Some (record { code = code; tests = tests }) }) (one i)
unfolding emitted
emitted_one first code tests i x h =
    ap (λ y. record { first = first; kept = kept_if y (record { code = code ++ i ∷ []; tests = tests }) }) (sym h)
    ∙ ap (λ ts. record { first = first; kept = kept_if (can_say_all (record { code = code ++ i ∷ []; tests = ts })) (record { code = code ++ i ∷ []; tests = ts }) }) (sym (append-nil tests))

-- nothing more
pub emitted_nothing : (first : ℕ) (code : List Instruction) (tests : List (List Instruction)) → can_say_all (record { code = code; tests = tests }) ≡ true
    → record { first = first; kept = Some (record { code = code; tests = tests }) } ≡ emitted (record { first = first; kept = Some (record { code = code; tests = tests }) }) nothing
unfolding emitted
emitted_nothing first code tests h =
    ap (λ x. record { first = first; kept = kept_if x (record { code = code; tests = tests }) }) (sym h)
    ∙ ap (λ c. record { first = first; kept = kept_if (can_say_all (record { code = c; tests = tests })) (record { code = c; tests = tests }) }) (sym (append-nil code))
    ∙ ap (λ ts. record { first = first; kept = kept_if (can_say_all (record { code = code ++ []; tests = ts })) (record { code = code ++ []; tests = ts }) }) (sym (append-nil tests))

-- ---- what is kept

pub kept_is : (x : Bool) (e : Emitted) → x ≡ is_some (kept_if x e)
kept_is true e = refl
kept_is false e = refl

pub none_kept : (first : ℕ) (x : Bool) (e : Emitted) (part : Part) → x ≡ false → record { first = first; kept = kept_if x e } ≡ emitted (record { first = first; kept = kept_if x e }) part
unfolding emitted
none_kept first true e part h = let no : ⊥ = cc in absurd no
none_kept first false e part h = refl

pub kept_nothing : (first : ℕ) (x : Bool) (code : List Instruction) (tests : List (List Instruction)) → (x ≡ true → can_say_all (record { code = code; tests = tests }) ≡ true)
    → record { first = first; kept = kept_if x (record { code = code; tests = tests }) } ≡ emitted (record { first = first; kept = kept_if x (record { code = code; tests = tests }) }) nothing
kept_nothing first true code tests h = emitted_nothing first code tests (h refl)
kept_nothing first false code tests h = none_kept first false (record { code = code; tests = tests }) nothing refl

pub emitted_more : (first : ℕ) (code : List Instruction) (tests : List (List Instruction)) (i : Instruction) (before behind : Bool) → before ≡ true → behind ≡ can_say_all (record { code = code ++ i ∷ []; tests = tests })
    → record { first = first; kept = kept_if behind (record { code = code ++ i ∷ []; tests = tests }) } ≡ emitted (record { first = first; kept = kept_if before (record { code = code; tests = tests }) }) (one i)
emitted_more first code tests i true behind h same = emitted_one first code tests i behind (sym same)
emitted_more first code tests i false behind h same = let no : ⊥ = cc in absurd no

-- ---- instructions one behind the other

pub record SaidSoFar (place : ℕ) (rest all : List Instruction) : Type 0 where
  pub done : List Instruction
  pub whole : done ++ rest ≡ all
  pub at : place ≡ sizes done
  pub said : can_say_code done ≡ true

-- ---- jumps whose place is told later

pub aims_size : (to : ℕ) (i : Instruction) → size_of (aims to i) ≡ size_of i
aims_size to (IfZero place) = refl
aims_size to (Jump place) = refl
aims_size to (Next k test exit) = refl
aims_size to i = refl

aims_opens : (to : ℕ) (i : Instruction) → opens_few (aims to i) ≡ opens_few i
aims_opens to (IfZero place) = refl
aims_opens to (Jump place) = refl
aims_opens to (Next k test exit) = refl
aims_opens to i = refl

aims_spells : (to : ℕ) (i : Instruction) → nat_lt to 65536 ≡ true → can_spell i ≡ true → can_spell (aims to i) ≡ true
aims_spells to (IfZero place) h can = ap (λ x. x && true) h
aims_spells to (Jump place) h can = ap (λ x. x && true) h
aims_spells to (Next k test exit) h can = both_true (and_first _ _ can) (ap (λ x. x && true) h)
aims_spells to i h can = can

sizes_set : (xs : List Instruction) (at : ℕ) (i v : Instruction) → slice_get xs at ≡ Some i → size_of v ≡ size_of i → sizes (slice_set xs at v) ≡ sizes xs
sizes_set [] at i v h same = let no : ⊥ = cc in absurd no
sizes_set (x ∷ xs) zero i v h same = let is : x ≡ i = cc in ap (λ n. n + sizes xs) (same ∙ ap size_of (sym is))
sizes_set (x ∷ xs) (suc at) i v h same = ap (λ n. size_of x + n) (sizes_set xs at i v h same)

all_set : (p : Instruction → Bool) (xs : List Instruction) (at : ℕ) (v : Instruction) → list_all p xs ≡ true → p v ≡ true → list_all p (slice_set xs at v) ≡ true
all_set p [] at v h is = refl
all_set p (x ∷ xs) zero v h is = both_true is (and_second (p x) _ h)
all_set p (x ∷ xs) (suc at) v h is = both_true (and_first (p x) _ h) (all_set p xs at v (and_second (p x) _ h) is)

all_get : (p : Instruction → Bool) (xs : List Instruction) (at : ℕ) (i : Instruction) → list_all p xs ≡ true → slice_get xs at ≡ Some i → p i ≡ true
all_get p [] at i h got = let no : ⊥ = cc in absurd no
all_get p (x ∷ xs) zero i h got = let is : x ≡ i = cc in ap p (sym is) ∙ and_first (p x) _ h
all_get p (x ∷ xs) (suc at) i h got = all_get p xs at i (and_second (p x) _ h) got

-- a jump that is aimed changes neither sizes nor what bytes can say
pub said_aimed : (code : List Instruction) (tests : List (List Instruction)) (at to : ℕ) (i : Instruction) → slice_get code at ≡ Some i → nat_lt to 65536 ≡ true → can_say_all (record { code = code; tests = tests }) ≡ true
    → (sizes (slice_set code at (aims to i)) ≡ sizes code) × (can_say_all (record { code = slice_set code at (aims to i); tests = tests }) ≡ true)
unfolding can_say_all
said_aimed code tests at to i got low h =
    let one = and_first (can_say_code code) (list_all can_say_code tests) h in
    let rest = and_second (nat_lt (sizes code) 65536) _ one in
    let size = sizes_set code at i (aims to i) got (aims_size to i) in
    let spells = and_first (list_all can_spell code) (list_all opens_few code) rest in
    let opens = and_second (list_all can_spell code) (list_all opens_few code) rest in (
      size,
      both_true (both_true (ap (λ n. nat_lt n 65536) size ∙ and_first (nat_lt (sizes code) 65536) _ one)
          (both_true (all_set can_spell code at (aims to i) spells (aims_spells to i low (all_get can_spell code at i spells got)))
          (all_set opens_few code at (aims to i) opens (aims_opens to i ∙ all_get opens_few code at i opens got))))
          (and_second (can_say_code code) (list_all can_say_code tests) h),
    )

-- ---- loops over instructions

pub these_step : (s t all : Emitting) (rest : List Instruction) (d : Instruction) → 1 ≤ length rest → emitted s (these rest) ≡ all → t ≡ emitted s (one (get_or rest 0 d)) → emitted t (these (take (length rest - 1) (drop 1 rest))) ≡ all
unfolding seq
these_step s t all [] d l so_far is_t = absurd (omega arith)
these_step s t all (i ∷ is) d l so_far is_t =
    let whole : take (suc (length is) - 1) is ≡ is = take_all _ is (omega arith) in
    rw whole (ap (λ u. emitted u (these is)) is_t ∙ emitted_seq s (one i) (these is) ∙ so_far)

pub said_step : (place behind : ℕ) (rest all : List Instruction) (d : Instruction) → 1 ≤ length rest → SaidSoFar place rest all → place_behind place (get_or rest 0 d) ≡ Some behind → SaidSoFar behind (take (length rest - 1) (drop 1 rest)) all
said_step place behind [] all d l so_far found = absurd (omega arith)
said_step place behind (i ∷ is) all d l so_far found =
    let whole : take (suc (length is) - 1) is ≡ is = take_all _ is (omega arith) in
    let more : sizes (so_far.done ++ i ∷ []) ≡ sizes so_far.done + size_of i = omega (arith, sizes_append so_far.done (i ∷ [])) in
    rw whole (record {
      done = so_far.done ++ i ∷ [];
      whole = append_assoc so_far.done (i ∷ []) is ∙ so_far.whole;
      at = sym (some_if _ _ (may_stand place i) found) ∙ ap (λ p. p + size_of i) so_far.at ∙ sym more;
      said = one_more 65536 so_far.done i so_far.said ∙ ap (λ p. may_stand p i) (sym so_far.at) ∙ if_some _ _ (may_stand place i) found;
    })

pub said_stop : (place : ℕ) (rest all : List Instruction) (d : Instruction) → 1 ≤ length rest → SaidSoFar place rest all → place_behind place (get_or rest 0 d) ≡ None → false ≡ can_say_code all
said_stop place [] all d l so_far found = absurd (omega arith)
said_stop place (i ∷ is) all d l so_far found =
    let stop : can_say_code (so_far.done ++ i ∷ []) ≡ false = one_more 65536 so_far.done i so_far.said ∙ ap (λ p. may_stand p i) (sym so_far.at) ∙ if_none _ (may_stand place i) found in
    sym (false_from_ne_true _ (λ t. let no : ⊥ = cc (can_say_shorter (so_far.done ++ i ∷ []) is (ap can_say_code (append_assoc so_far.done (i ∷ []) is ∙ so_far.whole) ∙ t), stop) in no))

-- ---- tests

pub fits_test : (code : List Instruction) (tests : List (List Instruction)) (test : List Instruction) (x : Bool) → can_say_all (record { code = code; tests = tests }) ≡ true → can_say_code test ≡ x → can_say_all (record { code = code; tests = tests ++ test ∷ [] }) ≡ x
unfolding can_say_all
fits_test code tests test x h can =
    ap (λ y. y && list_all can_say_code (tests ++ test ∷ [])) (and_first (can_say_code code) _ h)
    ∙ list_all-append can_say_code tests (test ∷ []) ∙ ap (λ y. y && (can_say_code test && true)) (and_second (can_say_code code) _ h) ∙ and-true (can_say_code test) ∙ can

pub emitted_test : (first : ℕ) (code : List Instruction) (tests : List (List Instruction)) (test : List Instruction) (before behind : Bool) (e : Emitted) → before ≡ true → (behind ≡ true → e ≡ record { code = code; tests = tests ++ test ∷ [] }) → behind ≡ can_say_all (record { code = code; tests = tests ++ test ∷ [] })
    → record { first = first; kept = kept_if behind e } ≡ emitted (record { first = first; kept = kept_if before (record { code = code; tests = tests }) }) (only_test test)
unfolding emitted
emitted_test first code tests test true true e h is same =
    ap (λ d. record { first = first; kept = Some d }) (is refl)
    ∙ ap (λ y. record { first = first; kept = kept_if y (record { code = code; tests = tests ++ test ∷ [] }) }) same
    ∙ ap (λ c. record { first = first; kept = kept_if (can_say_all (record { code = c; tests = tests ++ test ∷ [] })) (record { code = c; tests = tests ++ test ∷ [] }) }) (sym (append-nil code))
emitted_test first code tests test true false e h is same =
    ap (λ y. record { first = first; kept = kept_if y (record { code = code; tests = tests ++ test ∷ [] }) }) same
    ∙ ap (λ c. record { first = first; kept = kept_if (can_say_all (record { code = c; tests = tests ++ test ∷ [] })) (record { code = c; tests = tests ++ test ∷ [] }) }) (sym (append-nil code))
emitted_test first code tests test false behind e h is same = let no : ⊥ = cc in absurd no

some_number : (n : ℕ) (first : ℕ) (e : Emitted) → next_test_if first (Some e) ≡ Some n → first + length e.tests ≡ n
some_number n first e h = some_if _ _ (nat_lt (first + length e.tests) 65536) h

test_number : (n first : ℕ) (kept : Option Emitted) (tested : Tested) (test : List Instruction) → next_test_if first kept ≡ Some n → followed_if first (seq (one (named tested n)) (only_test test)) kept ≡ followed_if first (testing (named tested) test) kept
unfolding seq
test_number n first None tested test h = refl
test_number n first (Some e) tested test h = ap (λ m. followed_if first (these_and (named tested m ∷ []) (test ∷ [])) (Some e)) (sym (some_number n first e h))
  where
    these_and : List Instruction → List (List Instruction) → Part
    these_and code tests test place = record { code = code; tests = tests }

pub named_test : (s t : Emitting) (tested : Tested) (test : List Instruction) (n : ℕ) → next_test s ≡ Some n → t ≡ emitted s (one (named tested n)) → emitted t (only_test test) ≡ emitted s (testing (named tested) test)
unfolding emitted
named_test s t tested test n found is_t =
    ap (λ t. emitted t (only_test test)) is_t
    ∙ emitted_seq s (one (named tested n)) (only_test test)
    ∙ ap (λ kept. record { first = s.first; kept = kept }) (test_number n s.first s.kept tested test found)

same_flag : (x : Bool) → x ≡ false → (x && true) ≡ false
same_flag true h = h
same_flag false h = refl

-- a test whose number bytes can't say isn't named
cant_name : (n : ℕ) (tested : Tested) → nat_lt n 65536 ≡ false → can_spell (named tested n) ≡ false
cant_name n (tested.Count k) h = same_flag _ h
cant_name n (tested.Names naming k) h = same_flag _ h
cant_name n (tested.Next k) h = ap (λ x. x && true) h

unnamed : (code : List Instruction) (i : Instruction) → can_spell i ≡ false → can_say_code (code ++ i ∷ []) ≡ false
unnamed code i h = false_from_ne_true _ (λ t. let no : ⊥ = cc (all_end code i (and_first _ _ (and_second (nat_lt (sizes (code ++ i ∷ [])) 65536) _ t)), h) in no)
  where
    all_end : (code : List Instruction) (i : Instruction) → list_all can_spell (code ++ i ∷ []) ≡ true → can_spell i ≡ true
    all_end code i t = and_first (can_spell i) true (and_second (list_all can_spell code) _ (sym (list_all-append can_spell code (i ∷ [])) ∙ t))

no_number : (first : ℕ) (kept : Option Emitted) (tested : Tested) (test : List Instruction) → next_test_if first kept ≡ None → None ≡ followed_if first (testing (named tested) test) kept
unfolding can_say_all
no_number first None tested test h = refl
no_number first (Some e) tested test h =
    let number = first + length e.tests in
    let all = followed first e (testing (named tested) test) in
    let unsaid : can_say_all all ≡ false = ap (λ x. x && list_all can_say_code all.tests) (unnamed e.code (named tested number) (cant_name number tested (if_none _ (nat_lt number 65536) h))) in
    ap (λ x. kept_if x all) (sym unsaid)

pub no_test : (first : ℕ) (s : Emitting) (tested : Tested) (test : List Instruction) → first ≡ s.first → next_test s ≡ None → record { first = first; kept = None } ≡ emitted s (testing (named tested) test)
unfolding emitted
no_test first s tested test same h = ap (λ n. record { first = n; kept = None }) same ∙ ap (λ kept. record { first = s.first; kept = kept }) (no_number s.first s.kept tested test h)

-- ---- jumps that are aimed

pub none_aimed : (first : ℕ) (x : Bool) (e : Emitted) (at to : ℕ) → x ≡ false → record { first = first; kept = kept_if x e } ≡ aimed at to (record { first = first; kept = kept_if x e })
unfolding aimed
none_aimed first true e at to h = let no : ⊥ = cc in absurd no
none_aimed first false e at to h = refl

pub some_aimed : (first : ℕ) (x : Bool) (code : List Instruction) (tests : List (List Instruction)) (at to : ℕ) (i : Instruction) → slice_get code at ≡ Some i
    → record { first = first; kept = kept_if x (record { code = slice_set code at (aims to i); tests = tests }) } ≡ aimed at to (record { first = first; kept = kept_if x (record { code = code; tests = tests }) })
unfolding aimed aimed_code
some_aimed first true code tests at to i got = ap (λ found. record { first = first; kept = Some (record { code = set_if code at (aims to) found; tests = tests }) }) (sym got)
some_aimed first false code tests at to i got = refl

pub nothing_aimed : (first : ℕ) (x : Bool) (code : List Instruction) (tests : List (List Instruction)) (at to : ℕ) → slice_get code at ≡ None
    → record { first = first; kept = kept_if x (record { code = code; tests = tests }) } ≡ aimed at to (record { first = first; kept = kept_if x (record { code = code; tests = tests }) })
unfolding aimed aimed_code
nothing_aimed first true code tests at to got = ap (λ found. record { first = first; kept = Some (record { code = set_if code at (aims to) found; tests = tests }) }) (sym got)
nothing_aimed first false code tests at to got = refl

pub past_none : (xs : List Instruction) (i : ℕ) → length xs ≤ i → slice_get xs i ≡ None
past_none [] i h = refl
past_none (x ∷ xs) zero h = absurd (omega (arith, h))
past_none (x ∷ xs) (suc i) h = past_none xs i (omega (arith, h))
