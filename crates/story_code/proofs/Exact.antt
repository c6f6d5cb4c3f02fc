-- The two walks accept exactly sound code.
use Rattle.std.proofs.Common.{◌≡◌, ◌≢◌, ◌↔◌, ℕ, zero, suc, ◌+◌, ◌^◌, ◌<◌, ◌≤◌, ◌==◌, Bool, true, false, ◌&&◌, not, nat_lt, if◌then◌else◌, IsTrue, List, [], ◌∷◌, ◌++◌, length, drop, replicate, MatchOption, Option, Some, None, slice_set, slice_index, refl, sym, ap, ◌∙◌, subst, arith, length-append}
use Rattle.std.specs.List.{list_all}
use Rattle.std.proofs.Math.Seq.{drop-append_seam}
use Rattle.std.proofs.lemmas.List.{get_or-set_other, get_or-set_same}
use Rattle.std.proofs.lemmas.Grind.{common_steps}
use Rattle.std.proofs.lemmas.Bool.{and_parts, false≢true}
use Rattle.play_meaning.specs.Instructions.{Argument, BookOf, Integer, Place, StringOf, TestCode, opcode, row_of, size_of, sizes, width, widths}
use Rattle.play_meaning.specs.SoundCodes.{Label, bare, way_of}
use Rattle.play_meaning.specs.declared.instruction.Instruction.{Instruction}
use Rattle.play_meaning.specs.declared.way.OpenLoop.{OpenLoop}
use Rattle.play_meaning.specs.declared.way.Way.{Way}
use Rattle.play_meaning.specs.declared.way.Way.TheVariants.{Branch, Ends, Leap, Opens, Straight, Turns}
use Rattle.story_code.specs.declared.sizes.Sizes.{Sizes}
use Rattle.story_code.specs.Fronts.{code_in, front, read_on, read_within, with_first}
use Rattle.story_code.specs.Passes.{Mark, all_meet, behind, if_so, is_bare_in, is_nil, look, marks_from, met, passes, same_loop, way_meets, with_mark}
use Rattle.story_code.specs.Soundness.{IsSoundCode}
use Rattle.story_code.specs.Spelling.{HasNoFront, IsFront, Spells, argument_bytes, arguments_bytes, can_spell, spelled, spelling}
use Rattle.story_code.specs.Walks.{bare_scope, checked, filled, filled_meets, fills, goal_met, met_from, scope_of, way_met}
use Rattle.story_code.proofs.FrontLemmas.{Small, front_read}
use Rattle.story_code.proofs.Marking.{Marked, marked}
use Rattle.story_code.proofs.Passing.{sound_passes}
use Rattle.story_code.proofs.Sounding.{passes_sound}
use Rattle.story_code.proofs.SpelledFronts.{front_spelled}
use Rattle.story_code.proofs.WalkLemmas.{size_of-positive, spelled_nil, spelled_sizes}

written : List Mark → List ℕ → List ℕ
written [] t = t
written (m ∷ ms) t = written ms (slice_set t m.place (bare_scope m.label))

written_if : Option (List Mark) → List ℕ → Option (List ℕ)
written_if None t = None
written_if (Some ms) t = Some (written ms t)

written_cons : (m : Mark) (o : Option (List Mark)) (t : List ℕ) → written_if o (slice_set t m.place (bare_scope m.label)) ≡ written_if (with_mark m o) t
unfolding written_if written
written_cons m None t = refl
written_cons m (Some ms) t = refl

filled_is : (z : Sizes) (p : ℕ) (l : Option Label) (is : List Instruction) (t : List ℕ) → filled z p l is t ≡ written_if (marks_from z p l is) t
unfolding written_if written
filled_is z p None is t = refl
filled_is z p (Some l) [] t = closed (is_nil l.loops)
  where
    closed : (b : Bool) → if_so b t ≡ written_if (if_so b []) t
    closed true = refl
    closed false = refl
filled_is z p (Some l) (i ∷ is) t =
    filled_is z (p + size_of i) (behind z p i is l) is (slice_set t p (bare_scope l))
    ∙ written_cons (record { place = p; instruction = i; label = l }) (marks_from z (p + size_of i) (behind z p i is l) is) t

-- the goals of the marks
all_goals : List ℕ → List Mark → Bool
all_goals t [] = true
all_goals t (m ∷ ms) = goal_met t m.place m.instruction m.label.loops && all_goals t ms

goals_cons : (z : Sizes) (m : Mark) (t : List ℕ) (o : Option (List Mark)) (b : Bool) (ms : List Mark) → ((ms' : List Mark) → o ≡ Some ms' → b ≡ all_goals t ms') → with_mark m o ≡ Some ms → (goal_met t m.place m.instruction m.label.loops && b) ≡ all_goals t ms
unfolding all_goals
goals_cons z m t None b ms h e = let no : ⊥ = cc in absurd no
goals_cons z m t (Some ms') b ms h e =
    let same : m ∷ ms' ≡ ms = cc in
    ap (λ x. goal_met t m.place m.instruction m.label.loops && x) (h ms' refl) ∙ ap (all_goals t) same

met_is : (z : Sizes) (p : ℕ) (l : Option Label) (is : List Instruction) (t : List ℕ) (ms : List Mark) → marks_from z p l is ≡ Some ms → met_from z p l is t ≡ all_goals t ms
unfolding all_goals
met_is z p None is t ms e = let no : ⊥ = cc in absurd no
met_is z p (Some l) [] t ms e = closed (is_nil l.loops) e
  where
    closed : (b : Bool) → if_so b [] ≡ Some ms → true ≡ all_goals t ms
    closed true e = let same : [] ≡ ms = cc in ap (all_goals t) same
    closed false e = let no : ⊥ = cc in absurd no
met_is z p (Some l) (i ∷ is) t ms e =
    goals_cons z (record { place = p; instruction = i; label = l }) t (marks_from z (p + size_of i) (behind z p i is l) is) (met_from z (p + size_of i) (behind z p i is l) is t) ms
    (λ ms' e'. met_is z (p + size_of i) (behind z p i is l) is t ms' e') e

-- what was written at a place
scope_in : Option Label → ℕ → ℕ
scope_in None d = d
scope_in (Some l) d = bare_scope l

look_before : (z : Sizes) (is : List Instruction) (p : ℕ) (l : Label) (ms : List Mark) (q : ℕ) → Marked z p l is ms → q < p → look ms q ≡ None
look_before z [] p l ms q m lt = ap (λ x. look x q) m.0
look_before z (i ∷ is) p l ms q m lt =
    let e : (p == q) ≡ false = grind (arith, common_steps, lt) in
    let lt' : q < p + size_of i = omega (arith, lt) in
    ap (λ x. look x q) m.1.1.1.0 ∙ ap (λ b. if b then Some l else look m.1.0 q) e ∙ look_before z is (p + size_of i) m.0 m.1.0 q m.1.1.1.1 lt'

set_keeps : (t : List ℕ) (p s : ℕ) → length (slice_set t p s) ≡ length t
set_keeps t p s = grind (arith, common_steps)

written_at : (z : Sizes) (is : List Instruction) (p : ℕ) (l : Label) (ms : List Mark) (t : List ℕ) (q : ℕ) → Marked z p l is ms → p + sizes is ≤ length t → slice_index (written ms t) q ≡ scope_in (look ms q) (slice_index t q)
unfolding written scope_in
written_at z [] p l ms t q m le = ap (λ x. slice_index (written x t) q) m.0 ∙ ap (λ x. scope_in (look x q) (slice_index t q)) (sym m.0)
written_at z (i ∷ is) p l ms t q m le =
    let t' = slice_set t p (bare_scope l) in
    let pos = size_of-positive i in
    let le' : p + size_of i + sizes is ≤ length t' = omega (arith, le, set_keeps t p (bare_scope l)) in
    ap (λ x. slice_index (written x t) q) m.1.1.1.0 ∙ written_at z is (p + size_of i) m.0 m.1.0 t' q m.1.1.1.1 le' ∙ by (p == q) refl ∙ ap (λ x. scope_in (look x q) (slice_index t q)) (sym m.1.1.1.0)
  where
    by : (b : Bool) → (p == q) ≡ b → scope_in (look (m.1.0) q) (slice_index (slice_set t p (bare_scope l)) q) ≡ scope_in (if (p == q) then Some l else look (m.1.0) q) (slice_index t q)
    by true e =
        let same : p ≡ q = grind (arith, common_steps, e) in
        let pos = size_of-positive i in
        let lt : q < p + size_of i = omega (arith, same, pos) in
        let within : p < length t = omega (arith, le, pos) in
        ap (λ o. scope_in o (slice_index (slice_set t p (bare_scope l)) q)) (look_before z is (p + size_of i) m.0 m.1.0 q m.1.1.1.1 lt)
        ∙ ap (slice_index (slice_set t p (bare_scope l))) (sym same) ∙ get_or-set_same t p (bare_scope l) 0 within
        ∙ ap (λ b. scope_in (if b then Some l else look (m.1.0) q) (slice_index t q)) (sym e)
    by false e =
        let other : q ≢ p = λ x. (let f : (p == q) ≡ true = grind (arith, common_steps, x) in let no : ⊥ = cc in no) in
        ap (scope_in (look (m.1.0) q)) (get_or-set_other t p q (bare_scope l) 0 other)
        ∙ ap (λ b. scope_in (if b then Some l else look (m.1.0) q) (slice_index t q)) (sym e)

-- the numbers stand for the loops
zero_scope : (ls : List OpenLoop) → (0 == scope_of ls) ≡ false
zero_scope [] = refl
zero_scope (o ∷ ls) = grind (arith, common_steps)

same_scope : (inner others : List OpenLoop) → (scope_of inner == scope_of others) ≡ same_loop inner others
same_scope [] [] = refl
same_scope [] (b ∷ bs) = grind (arith, common_steps)
same_scope (a ∷ inner) [] = grind (arith, common_steps)
same_scope (a ∷ inner) (b ∷ bs) = by (a.head == b.head) refl
  where
    by : (c : Bool) → (a.head == b.head) ≡ c → (a.head + 2 == b.head + 2) ≡ (a.head == b.head)
    by true e = grind (arith, common_steps, e)
    by false e = grind (arith, common_steps, e)

bare_is : (ls : List OpenLoop) (o : Option Label) → (scope_in o 0 == scope_of ls) ≡ is_bare_in ls o
unfolding scope_in
bare_is ls None = zero_scope ls
bare_is ls (Some l) = by (is_nil l.operands)
  where
    by : (b : Bool) → ((if b then scope_of l.loops else 0) == scope_of ls) ≡ (b && same_loop l.loops ls)
    by true = same_scope l.loops ls
    by false = zero_scope ls

goals_meet : (t : List ℕ) (all ms : List Mark) → ((q : ℕ) → slice_index t q ≡ scope_in (look all q) 0) → all_goals t ms ≡ all_meet all ms
unfolding all_goals goal_met
goals_meet t all [] h = refl
goals_meet t all (m ∷ ms) h = ap (λ b. b && all_goals t ms) (one_goal (way_of m.instruction)) ∙ ap (λ b. way_meets (way_of m.instruction) all m.place m.label.loops && b) (goals_meet t all ms h)
  where
    at_goal : (to : ℕ) → (slice_index t to == scope_of m.label.loops) ≡ is_bare_in m.label.loops (look all to)
    at_goal to = ap (λ n. n == scope_of m.label.loops) (h to) ∙ bare_is m.label.loops (look all to)

    one_goal : (w : Way) → way_met w t m.place m.label.loops ≡ way_meets w all m.place m.label.loops
    one_goal Straight = refl
    one_goal (Branch to) = at_goal to
    one_goal (Leap to) = ap (λ b. if nat_lt m.place to then b else true) (at_goal to)
    one_goal Opens = refl
    one_goal (Turns exit) = refl
    one_goal Ends = refl

replicate_zero : (n q : ℕ) → slice_index (replicate n 0) q ≡ 0
replicate_zero zero q = refl
replicate_zero (suc n) zero = refl
replicate_zero (suc n) (suc q) = replicate_zero n q

replicate_length : (n : ℕ) → length {A = ℕ} (replicate n 0) ≡ n
replicate_length zero = refl
replicate_length (suc n) = ap suc (replicate_length n)

walks_are : (z : Sizes) (is : List Instruction) (n : ℕ) → sizes is ≤ n → filled_meets z (Some is) (filled z 0 (Some (bare [])) is (replicate n 0)) ≡ met (marks_from z 0 (Some (bare [])) is)
unfolding written_if
walks_are z is n short = ap (filled_meets z (Some is)) (filled_is z 0 (Some (bare [])) is (replicate n 0)) ∙ by (marks_from z 0 (Some (bare [])) is) refl
  where
    by : (o : Option (List Mark)) → marks_from z 0 (Some (bare [])) is ≡ o → filled_meets z (Some is) (written_if o (replicate n 0)) ≡ met o
    by None e = refl
    by (Some ms) e =
        let within : 0 + sizes is ≤ length {A = ℕ} (replicate n 0) = omega (arith, short, replicate_length n) in
        met_is z 0 (Some (bare [])) is (written ms (replicate n 0)) ms e
        ∙ goals_meet (written ms (replicate n 0)) ms ms (λ q. written_at z is 0 (bare []) ms (replicate n 0) q (marked z 0 (bare []) is ms e) within ∙ ap (scope_in (look ms q)) (replicate_zero n q))

checked_is : (z : Sizes) (bytes : List ℕ) (is : List Instruction) (n : ℕ) → code_in bytes ≡ Some is → length bytes ≤ n → checked z bytes (replicate n 0) ≡ passes z is
unfolding passes
checked_is z bytes is n h short =
    let size : sizes is ≤ n = omega (arith, spelled_sizes bytes is h, short) in
    ap (λ o. not (is_nil bytes) && filled_meets z o (fills z 0 (Some (bare [])) o (replicate n 0))) h
    ∙ ap (λ b. not b && filled_meets z (Some is) (filled z 0 (Some (bare [])) is (replicate n 0))) (spelled_nil bytes is h)
    ∙ ap (λ b. not (is_nil is) && b) (walks_are z is n size)

-- ---- what bytes spell

argument_size : (a : Argument) → length (argument_bytes a) ≡ width a
argument_size (Integer n) = refl
argument_size (TestCode n) = refl
argument_size (StringOf n) = refl
argument_size (BookOf n) = refl
argument_size (Place n) = refl
argument_size a = refl

arguments_size : (args : List Argument) → length (arguments_bytes args) ≡ widths args
arguments_size [] = refl
arguments_size (a ∷ more) = omega (arith, length-append (argument_bytes a) (arguments_bytes more), argument_size a, arguments_size more)

pub spelled_size : (i : Instruction) → length (spelled i) ≡ size_of i
spelled_size i = omega (arith, arguments_size (row_of i).arguments)

-- a code is read from its spelling
read_spelled : (n : ℕ) (code : List Instruction) → sizes code ≤ n → list_all can_spell code ≡ true → read_within n (spelling code) ≡ Some code
read_spelled n [] le can = refl
read_spelled zero (i ∷ is) le can = let no : ⊥ = omega (arith, le, size_of-positive i) in absurd no
read_spelled (suc n) (i ∷ is) le can =
    let c = and_parts (can_spell i) (list_all can_spell is) can in
    let le' : sizes is ≤ n = omega (arith, le, size_of-positive i) in
    let gone : drop (size_of i) (spelled i ++ spelling is) ≡ spelling is = ap (λ m. drop m (spelled i ++ spelling is)) (sym (spelled_size i)) ∙ drop-append_seam (spelled i) (spelling is) in
    ap (λ o. read_on o (λ j. read_within n (drop (size_of j) (spelled i ++ spelling is)))) (front_spelled i (spelling is) c.0)
    ∙ ap (λ bytes. with_first i (read_within n bytes)) gone ∙ ap (with_first i) (read_spelled n is le' c.1)

pub spelling_size : (code : List Instruction) → length (spelling code) ≡ sizes code
spelling_size [] = refl
spelling_size (i ∷ is) = omega (arith, length-append (spelled i) (spelling is), spelled_size i, spelling_size is)

pub spells_in : (bytes : List ℕ) (code : List Instruction) → Spells bytes code → code_in bytes ≡ Some code
unfolding code_in
spells_in bytes code s =
    let le : sizes code ≤ length bytes = omega (arith, ap length s.whole, spelling_size code) in
    ap (read_within (length bytes)) s.whole ∙ read_spelled (length bytes) code le s.each

some_is : (x y : List Instruction) → Some x ≡ Some y → x ≡ y
some_is x y h = cc

pub one_code : (bytes : List ℕ) (one another : List Instruction) → Spells bytes one → Spells bytes another → one ≡ another
one_code bytes one another s t = some_is one another (sym (spells_in bytes one s) ∙ spells_in bytes another t)

small_front : (xs ys : List ℕ) → Small (xs ++ ys) → Small xs
small_front [] ys s zero = omega arith
small_front [] ys s (suc k) = omega arith
small_front (x ∷ xs) ys s zero = s zero
small_front (x ∷ xs) ys s (suc k) = small_front xs ys (λ j. s (suc j)) k

small_back : (xs ys : List ℕ) → Small (xs ++ ys) → Small ys
small_back [] ys s = s
small_back (x ∷ xs) ys s = small_back xs ys (λ j. s (suc j))

first_read : (i : Instruction) (bytes args rest : List ℕ) (n : ℕ) (code : List Instruction) → bytes ≡ opcode i ∷ (args ++ rest) → args ≡ arguments_bytes (row_of i).arguments → can_spell i ≡ true → Small rest
    → ((js : List Instruction) → read_within n rest ≡ Some js → Spells rest js)
    → (o : Option (List Instruction)) → read_within n rest ≡ o → with_first i o ≡ Some code → Spells bytes code
first_read i bytes args rest n code cut said can small more None e h = let no : ⊥ = cc in absurd no
first_read i bytes args rest n code cut said can small more (Some js) e h =
    let same : i ∷ js ≡ code = cc in
    let later = more js e in
    subst (Spells bytes) same (record {
      whole = cut ∙ ap (λ xs. opcode i ∷ (xs ++ rest)) said ∙ ap (λ ys. spelled i ++ ys) later.whole;
      each = ap (λ b. b && list_all can_spell js) can ∙ later.each;
    })

spelled_in : (n : ℕ) (bytes : List ℕ) (code : List Instruction) → Small bytes → read_within n bytes ≡ Some code → Spells bytes code
spelled_in n [] code small h = let same : [] ≡ code = cc in subst (Spells []) same (record { whole = refl; each = refl })
spelled_in zero (b ∷ bytes) code small h = let no : ⊥ = cc in absurd no
spelled_in (suc n) (b ∷ bytes) code small h = by (front (b ∷ bytes)) refl h (λ x js s e. spelled_in n x js s e)
  where
    by : (o : Option Instruction) → front (b ∷ bytes) ≡ o → read_on o (λ i. read_within n (drop (size_of i) (b ∷ bytes))) ≡ Some code → ((x : List ℕ) (js : List Instruction) → Small x → read_within n x ≡ Some js → Spells x js) → Spells (b ∷ bytes) code
    by None e h more = let no : ⊥ = cc in absurd no
    by (Some i) e h more =
        let r = front_read (b ∷ bytes) i e in
        let all : Small (opcode i ∷ (r.args ++ r.rest)) = subst Small r.cut small in
        let behind : Small (r.args ++ r.rest) = λ k. all (suc k) in
        let rest : Small r.rest = small_back r.args r.rest behind in
        let said = r.says.said (small_front r.args r.rest behind) in
        let size : size_of i ≡ length (opcode i ∷ r.args) = omega (arith, r.says.many) in
        let gone : drop (size_of i) (b ∷ bytes) ≡ r.rest = ap (drop (size_of i)) r.cut ∙ ap (λ m. drop m (opcode i ∷ (r.args ++ r.rest))) size ∙ drop-append_seam (opcode i ∷ r.args) r.rest in
        first_read i (b ∷ bytes) r.args r.rest n code r.cut said.0 said.1 rest (λ js f. more r.rest js rest f) (read_within n r.rest) refl (ap (λ x. with_first i (read_within n x)) (sym gone) ∙ h)

cut_by : (i : Instruction) (bytes args rest : List ℕ) → bytes ≡ opcode i ∷ (args ++ rest) → (args ≡ arguments_bytes (row_of i).arguments) × (can_spell i ≡ true) → IsFront i bytes
cut_by i bytes args rest cut said = record { rest = rest; cut = cut ∙ ap (λ xs. opcode i ∷ (xs ++ rest)) said.0; can = said.1 }

-- what is read at the front stands there, and what stands there is read
pub front_exact : (bytes : List ℕ) (o : Option Instruction) → Small bytes → o ≡ front bytes → MatchOption o (HasNoFront bytes) (λ i. IsFront i bytes)
front_exact bytes None small e = λ i f. none_some i (e ∙ ap front f.cut ∙ front_spelled i f.rest f.can)
  where
    none_some : (i : Instruction) → None ≡ Some i → ⊥
    none_some i h = cc
front_exact bytes (Some i) small e =
    let r = front_read bytes i (sym e) in
    let all : Small (opcode i ∷ (r.args ++ r.rest)) = subst Small r.cut small in
    let behind : Small (r.args ++ r.rest) = λ k. all (suc k) in
    cut_by i bytes r.args r.rest r.cut (r.says.said (small_front r.args r.rest behind))

pub checked_exact : (z : Sizes) (bytes : List ℕ) (n : ℕ) (b : Bool) → Small bytes → length bytes ≤ n → length bytes < 2 ^ 16 → b ≡ checked z bytes (replicate n 0) → IsTrue b ↔ IsSoundCode z bytes
unfolding code_in
checked_exact z bytes n b small short few e = (λ h. to h (code_in bytes) refl, from)
  where
    from : IsSoundCode z bytes → b ≡ true
    from s = e ∙ checked_is z bytes s.code n (spells_in bytes s.code s.spells) short ∙ sound_passes z s.code s.sound

    to : b ≡ true → (o : Option (List Instruction)) → code_in bytes ≡ o → IsSoundCode z bytes
    to h None k =
        let f = and_parts _ _ (sym e ∙ h) in
        absurd (false≢true (ap (λ o. filled_meets z o (fills z 0 (Some (bare [])) o (replicate n 0))) (sym k) ∙ f.1))
    to h (Some code) k = record {
      short = few;
      code = code;
      spells = spelled_in (length bytes) bytes code small k;
      sound = passes_sound z code (sym (checked_is z bytes code n k short) ∙ sym e ∙ h);
    }
