-- What words are cut into by their column is the reading that is meant.
use Rattle.std.proofs.Common.{◌≡◌, ℕ, zero, suc, ◌+◌, ◌-◌, ◌<◌, ◌≤◌, min, Bool, true, false, cond, List, [], ◌∷◌, ◌++◌, length, take, drop, get_or, refl, sym, ap, ◌∙◌, subst, append_assoc, arith, inl, inr}
use Rattle.std.specs.Prelude.{Option, Some, None, nat_lt}
use Rattle.std.proofs.lemmas.List.{append-nil, length-append, length-drop, length-take}
use Rattle.std.proofs.lemmas.Bool.{ltb-true, ltb-false, cases_Bool}
use Rattle.std.proofs.lemmas.Bool.Decides.{nat_tests}
use Rattle.play_meaning.specs.declared.tree.object.Adjective.{Adjective}
use Rattle.i7_conditions.specs.Adjectives.{adjective_named, kind_named}
use Rattle.i7_conditions.specs.Cuts.{CanBeCut, IsCut, IsFrontFound, IsMeant, IsShortest}
use Rattle.i7_conditions.specs.Fronts.{adjective_at, can_go, column_of, ends_or, follow, followed, front_said, goes, goes_by, looked, step_at, window_of}
use Rattle.i7_conditions.specs.Scopes.{Scope}
use Rattle.i7_conditions.specs.Words.{Word, is_not}
use Rattle.i7_conditions.specs.declared.front.Front.{Front}
use Rattle.i7_conditions.specs.declared.front.Step.{Step}
use Rattle.i7_conditions.specs.declared.front.Step.TheVariants.{Ends, Goes, Stops}

-- ---- columns

pub column_long : (s : Scope) (words : List Word) → length (column_of s words) ≡ length words + 1
column_long s [] = refl
column_long s (word ∷ words) = omega (arith, length-append (column_of s words) (step_at s (word ∷ words) (column_of s words) ∷ []), column_long s words)

-- what words are cut into first
abbrev top : Scope → List Word → Step
top s [] = Stops
top s (word ∷ words) = step_at s (word ∷ words) (column_of s words)

pub looked_at_end : {X : Type 0} (xs : List X) (x d : X) → get_or (xs ++ x ∷ []) (length xs) d ≡ x
looked_at_end [] x d = refl
looked_at_end (y ∷ xs) x d = looked_at_end xs x d

pub looked_before : {X : Type 0} (xs ys : List X) (n : ℕ) (d : X) → n < length xs → get_or (xs ++ ys) n d ≡ get_or xs n d
looked_before [] ys n d lt = absurd (omega arith)
looked_before (x ∷ xs) ys zero d lt = refl
looked_before (x ∷ xs) ys (suc n) d lt = looked_before xs ys n d (omega arith)

looked_top : (s : Scope) (words : List Word) → looked (column_of s words) (length words) ≡ top s words
looked_top s [] = refl
looked_top s (word ∷ words) =
    let long : length (word ∷ words) ≡ length (column_of s words) = omega (arith, column_long s words) in
    ap (λ (n : ℕ). get_or (column_of s (word ∷ words)) n Stops) long ∙ looked_at_end (column_of s words) (step_at s (word ∷ words) (column_of s words)) Stops

pub columns_agree : (s : Scope) (words : List Word) (m j : ℕ) → j ≤ length (drop m words) → looked (column_of s words) j ≡ looked (column_of s (drop m words)) j
columns_agree s words zero j le = refl
columns_agree s [] (suc m) j le = refl
columns_agree s (word ∷ words) (suc m) j le =
    looked_before (column_of s words) (step_at s (word ∷ words) (column_of s words) ∷ []) j Stops (omega (arith, column_long s words, length-drop m words))
    ∙ columns_agree s words m j le

looked_drop : (s : Scope) (words : List Word) (m : ℕ) → looked (column_of s words) (length (drop m words)) ≡ top s (drop m words)
looked_drop s words m = columns_agree s words m (length (drop m words)) (omega arith) ∙ looked_top s (drop m words)

-- ---- the first adjective

abbrev pub IsGoes : Scope → List Word → List Step → ℕ → ℕ → Step → Type 0
IsGoes s words column count len Stops = (m : ℕ) → count ≤ m → m < count + len → adjective_at s words column m ≡ None
IsGoes s words column count len (Ends kind) = ⊥
IsGoes s words column count len (Goes a n) =
    (count ≤ n) × (n < count + len) × (adjective_at s words column n ≡ Some a) × ((m : ℕ) → count ≤ m → m < n → adjective_at s words column m ≡ None)

none_here : (s : Scope) (words : List Word) (column : List Step) (count m : ℕ) → adjective_at s words column count ≡ None → (count + 1 ≤ m → adjective_at s words column m ≡ None) → count ≤ m → adjective_at s words column m ≡ None
none_here s words column count m none later le =
    elim (cases_Bool (nat_lt count m)) [
      | inl lt ↦ later (omega (arith, ltb-true _ _ lt))
      | inr ge ↦ let same : m ≡ count = omega (arith, ltb-false _ _ ge) in ap (adjective_at s words column) same ∙ none
    ]

goes_on : (s : Scope) (words : List Word) (column : List Step) (count len : ℕ) (step : Step) → adjective_at s words column count ≡ None → IsGoes s words column (count + 1) len step → IsGoes s words column count (suc len) step
goes_on s words column count len Stops none later = λ m le lt. none_here s words column count m none (λ more. later m more (omega arith)) le
goes_on s words column count len (Ends kind) none later = absurd later
goes_on s words column count len (Goes a n) none later =
    (omega (arith, later.0), omega (arith, later.1), later.2, λ m le lt. none_here s words column count m none (λ more. later.3 m more lt) le)

goes_cases : (s : Scope) (words : List Word) (column : List Step) (count len : ℕ) (found : Option Adjective) (other : Step) → adjective_at s words column count ≡ found → IsGoes s words column (count + 1) len other
    → IsGoes s words column count (suc len) (goes_by found count other)
goes_cases s words column count len None other e later = goes_on s words column count len other e later
goes_cases s words column count len (Some a) other e later = (omega arith, omega arith, e, λ m le lt. absurd (omega (arith, le, lt)))

pub goes_is : (s : Scope) (words : List Word) (column : List Step) (count : ℕ) (window : List Word) → IsGoes s words column count (length window) (goes s words column count window)
goes_is s words column count [] = λ m le lt. absurd (omega (arith, le, lt))
goes_is s words column count (word ∷ window) =
    goes_cases s words column count (length window) (adjective_at s words column count) (goes s words column (count + 1) window) refl (goes_is s words column (count + 1) window)

-- an adjective in front, where the rest can be cut
abbrev here : Scope → Word → List Word → ℕ → Bool → Option Adjective
here s word words m can = cond can (adjective_named s (take (suc m) (word ∷ words))) None

at_is : (s : Scope) (word : Word) (words : List Word) (m : ℕ) → m ≤ length words → adjective_at s (word ∷ words) (column_of s words) (suc m) ≡ here s word words m (can_go (top s (drop m words)))
at_is s word words m le =
    let left : length (word ∷ words) - suc m ≡ length (drop m words) = omega (arith, length-drop m words) in
    ap (λ (j : ℕ). here s word words m (can_go (looked (column_of s words) j))) left ∙ ap (λ (step : Step). here s word words m (can_go step)) (looked_drop s words m)

empty_names : (s : Scope) → adjective_named s [] ≡ None
unfolding adjective_named
empty_names s = refl

no_kind : (s : Scope) → kind_named s [] ≡ None
unfolding kind_named
no_kind s = refl

long_names : (s : Scope) (front : List Word) → 33 < length front → adjective_named s front ≡ None
unfolding adjective_named
long_names s [] lt = absurd (omega arith)
long_names s (first ∷ rest) lt =
    let long : nat_lt 32 (length rest) ≡ true = grind (arith, nat_tests) in
    let longer : nat_lt 32 (length (first ∷ rest)) ≡ true = grind (arith, nat_tests) in
    elim (cases_Bool (is_not first)) [
      | inl is ↦ rw (is, long) refl
      | inr isnt ↦ rw (isnt, longer) refl
    ]

abbrev pub no_words : List Word
no_words = []

take_none : (n : ℕ) → take n no_words ≡ no_words
take_none zero = refl
take_none (suc n) = refl

-- ---- what can be cut is cut

can_within : (s : Scope) (words : List Word) (m : ℕ) → can_go (top s (drop m words)) ≡ true → m < length words
can_within s [] zero can = absurd cc
can_within s [] (suc m) can = absurd cc
can_within s (word ∷ words) zero can = omega arith
can_within s (word ∷ words) (suc m) can = let lt = can_within s words m can in omega (arith, lt)

found_goes : (s : Scope) (words : List Word) (column : List Step) (len n : ℕ) (a : Adjective) (step : Step) → IsGoes s words column 1 len step → 1 ≤ n → n < 1 + len → adjective_at s words column n ≡ Some a → can_go step ≡ true
found_goes s words column len n a Stops h le lt e = let none = h n le lt in absurd cc
found_goes s words column len n a (Ends kind) h le lt e = absurd h
found_goes s words column len n a (Goes b m) h le lt e = refl

ends_goes : (found : Option ℕ) (other : Step) → can_go other ≡ true → can_go (ends_or found other) ≡ true
ends_goes None other can = can
ends_goes (Some kind) other can = refl

pub window_long : (words : List Word) → length (window_of words) ≡ min (length words) 33
window_long words = omega (arith, length-take (min (length words) 33) words)

name_short : (s : Scope) (word : Word) (words : List Word) (m : ℕ) (a : Adjective) → m < length words + 1 → adjective_named s (take (suc m) (word ∷ words)) ≡ Some a → suc m ≤ 33
name_short s word words m a lt e =
    elim (cases_Bool (nat_lt 33 (suc m))) [
      | inl long ↦
          let more = ltb-true _ _ long in
          let over : 33 < length (take (suc m) (word ∷ words)) = omega (arith, more, length-take (suc m) (word ∷ words)) in
          let none = long_names s (take (suc m) (word ∷ words)) over in
          absurd cc
      | inr short ↦ omega (arith, ltb-false _ _ short)
    ]

adjective_goes : (s : Scope) (word : Word) (words : List Word) (m : ℕ) (a : Adjective) → adjective_named s (take (suc m) (word ∷ words)) ≡ Some a → can_go (top s (drop m words)) ≡ true → can_go (top s (word ∷ words)) ≡ true
adjective_goes s word words m a e can =
    let lt = can_within s words m can in
    let short = name_short s word words m a (omega (arith, lt)) e in
    let at : adjective_at s (word ∷ words) (column_of s words) (suc m) ≡ Some a = at_is s word words m (omega (arith, lt)) ∙ ap (here s word words m) can ∙ e in
    let all = goes_is s (word ∷ words) (column_of s words) 1 (window_of (word ∷ words)) in
    let within : suc m < 1 + length (window_of (word ∷ words)) = omega (arith, lt, short, window_long (word ∷ words)) in
    ends_goes (kind_named s (word ∷ words)) (goes s (word ∷ words) (column_of s words) 1 (window_of (word ∷ words)))
    (found_goes s (word ∷ words) (column_of s words) (length (window_of (word ∷ words))) (suc m) a (goes s (word ∷ words) (column_of s words) 1 (window_of (word ∷ words))) all (omega arith) within at)

pub cut_goes : (s : Scope) (words : List Word) (adjectives : List Adjective) (k : ℕ) → IsCut s words adjectives k → can_go (top s words) ≡ true
cut_goes s [] adjectives k (IsCut.kind e) = let none = no_kind s in absurd cc
cut_goes s (word ∷ words) adjectives k (IsCut.kind e) = rw e refl
cut_goes s [] adjectives k (IsCut.more {a = a} n e rest) = let none : adjective_named s (take n no_words) ≡ None = ap (adjective_named s) (take_none n) ∙ empty_names s in absurd cc
cut_goes s (word ∷ words) adjectives k (IsCut.more zero e rest) = let none = empty_names s in absurd cc
cut_goes s (word ∷ words) adjectives k (IsCut.more {a = a} {others = others} (suc m) e rest) = adjective_goes s word words m a e (cut_goes s (drop m words) others k rest)

-- ---- what is cut first is meant

ends_are : (found : Option ℕ) (other : Step) (k : ℕ) → (other ≡ Ends k → ⊥) → ends_or found other ≡ Ends k → found ≡ Some k
ends_are None other k never e = absurd (never e)
ends_are (Some kind) other k never e = cc

goes_are : (found : Option ℕ) (other : Step) (a : Adjective) (n : ℕ) → ends_or found other ≡ Goes a n → (found ≡ None) × (other ≡ Goes a n)
goes_are None other a n e = (refl, e)
goes_are (Some kind) other a n e = absurd cc

never_ends : (s : Scope) (words : List Word) (column : List Step) (count len : ℕ) (step : Step) (k : ℕ) → IsGoes s words column count len step → step ≡ Ends k → ⊥
never_ends s words column count len Stops k h e = absurd cc
never_ends s words column count len (Ends kind) k h e = h
never_ends s words column count len (Goes a n) k h e = absurd cc

here_is : (can : Bool) (named : Option Adjective) (a : Adjective) → cond can named None ≡ Some a → (can ≡ true) × (named ≡ Some a)
here_is true named a e = (refl, e)
here_is false named a e = absurd cc

top_ends : (s : Scope) (word : Word) (words : List Word) (k : ℕ) → top s (word ∷ words) ≡ Ends k → kind_named s (word ∷ words) ≡ Some k
top_ends s word words k e =
    let other = goes s (word ∷ words) (column_of s words) 1 (window_of (word ∷ words)) in
    ends_are (kind_named s (word ∷ words)) other k
    (never_ends s (word ∷ words) (column_of s words) 1 (length (window_of (word ∷ words))) other k (goes_is s (word ∷ words) (column_of s words) 1 (window_of (word ∷ words)))) e

-- the first adjective, of m + 1 words
pub record IsFirst (s : Scope) (word : Word) (words : List Word) (a : Adjective) (n : ℕ) : Type 0 where
  pub m : ℕ
  pub count : n ≡ suc m
  pub no_kind : kind_named s (word ∷ words) ≡ None
  pub named : adjective_named s (take (suc m) (word ∷ words)) ≡ Some a
  pub can : can_go (top s (drop m words)) ≡ true
  pub shortest : IsShortest s (word ∷ words) (suc m)

not_shorter : (s : Scope) (word : Word) (words : List Word) (p : ℕ) (b : Adjective) → p ≤ length words → adjective_at s (word ∷ words) (column_of s words) (suc p) ≡ None
    → adjective_named s (take (suc p) (word ∷ words)) ≡ Some b → CanBeCut s (drop p words) → ⊥
not_shorter s word words p b le none e cut =
    let can : can_go (top s (drop p words)) ≡ true = cut_goes s (drop p words) cut.0 cut.1 cut.2 in
    let at : adjective_at s (word ∷ words) (column_of s words) (suc p) ≡ Some b = at_is s word words p le ∙ ap (here s word words p) can ∙ e in
    absurd cc

shortest_so : (s : Scope) (word : Word) (words : List Word) (m : ℕ) → m ≤ length words → ((p : ℕ) → 1 ≤ p → p < suc m → adjective_at s (word ∷ words) (column_of s words) p ≡ None) → IsShortest s (word ∷ words) (suc m)
shortest_so s word words m le none zero lt b e cut = let no_name = empty_names s in absurd cc
shortest_so s word words m le none (suc p) lt b e cut = not_shorter s word words p b (omega arith) (none (suc p) (omega arith) lt) e cut

first_is : (s : Scope) (word : Word) (words : List Word) (a : Adjective) (n len : ℕ) → len ≤ length words + 1 → kind_named s (word ∷ words) ≡ None → IsGoes s (word ∷ words) (column_of s words) 1 len (Goes a n) → IsFirst s word words a n
first_is s word words a zero len le no_kind h = absurd (omega (arith, h.0))
first_is s word words a (suc m) len le no_kind h =
    let within : m ≤ length words = omega (arith, h.1) in
    let found = here_is (can_go (top s (drop m words))) (adjective_named s (take (suc m) (word ∷ words))) a (sym (at_is s word words m within) ∙ h.2) in
    record { m = m; count = refl; no_kind = no_kind; named = found.1; can = found.0; shortest = shortest_so s word words m within h.3 }

top_goes : (s : Scope) (word : Word) (words : List Word) (a : Adjective) (n : ℕ) → top s (word ∷ words) ≡ Goes a n → IsFirst s word words a n
top_goes s word words a n e =
    let other = goes s (word ∷ words) (column_of s words) 1 (window_of (word ∷ words)) in
    let both = goes_are (kind_named s (word ∷ words)) other a n e in
    let len = length (window_of (word ∷ words)) in
    let all = goes_is s (word ∷ words) (column_of s words) 1 (window_of (word ∷ words)) in
    first_is s word words a n len (omega (arith, window_long (word ∷ words))) both.0 (subst (IsGoes s (word ∷ words) (column_of s words) 1 len) both.1 all)

-- ---- along the column

follow_skip : (c : List Step) (n : ℕ) (done : List Adjective) (words : List Word) → follow c n done words ≡ follow c 0 done (drop n words)
follow_skip c zero done words = refl
follow_skip c (suc n) done [] = refl
follow_skip c (suc n) done (word ∷ words) =
    let some : nat_lt 0 (suc n) ≡ true = grind (arith, nat_tests) in
    let less : suc n - 1 ≡ n = omega arith in
    rw (some, less) (follow_skip c n done words)

followed_same : (step : Step) (done : List Adjective) (f g : ℕ → List Adjective → Option Front) → ((count : ℕ) (more : List Adjective) → f count more ≡ g count more) → followed step done f ≡ followed step done g
followed_same Stops done f g h = refl
followed_same (Ends kind) done f g h = refl
followed_same (Goes a n) done f g h = h (n - 1) (done ++ a ∷ [])

pub follow_same : (c d : List Step) (words : List Word) → ((j : ℕ) → j ≤ length words → looked c j ≡ looked d j) → (n : ℕ) (done : List Adjective) → follow c n done words ≡ follow d n done words
follow_same c d [] h n done = refl
follow_same c d (word ∷ words) h n done =
    let next = follow_same c d words (λ j le. h j (omega arith)) in
    elim (cases_Bool (nat_lt 0 n)) [
      | inl is ↦ rw is (next (n - 1) done)
      | inr isnt ↦ rw isnt (ap (λ step. followed step done (λ count more. follow c count more words)) (h (length words + 1) (omega arith))
          ∙ followed_same (looked d (length words + 1)) done (λ count more. follow c count more words) (λ count more. follow d count more words) next)
    ]

abbrev Reads : Scope → List Word → List Adjective → Option Front → Type 0
Reads s words done None = ⊥
Reads s words done (Some front) = (adjectives : List Adjective) × (front.adjectives ≡ done ++ adjectives) × IsMeant s words adjectives front.kind

one_more_read : (s : Scope) (word : Word) (words : List Word) (a : Adjective) (n : ℕ) (done : List Adjective) (first : IsFirst s word words a n) (found : Option Front)
    → Reads s (drop first.m words) (done ++ a ∷ []) found → Reads s (word ∷ words) done found
one_more_read s word words a n done first None h = h
one_more_read s word words a n done first (Some front) h =
    (a ∷ h.0, h.1 ∙ append_assoc done (a ∷ []) h.0, IsMeant.more (suc first.m) first.no_kind first.named first.shortest h.2)

follow_top : (s : Scope) (word : Word) (words : List Word) (done : List Adjective)
    → follow (column_of s (word ∷ words)) 0 done (word ∷ words) ≡ followed (top s (word ∷ words)) done (λ count more. follow (column_of s (word ∷ words)) count more words)
follow_top s word words done =
    ap (λ step. followed step done (λ count more. follow (column_of s (word ∷ words)) count more words))
    (ap (looked (column_of s (word ∷ words))) (omega arith) ∙ looked_top s (word ∷ words))

follow_behind : (s : Scope) (word : Word) (words : List Word) (m : ℕ) (done : List Adjective)
    → follow (column_of s (word ∷ words)) m done words ≡ follow (column_of s (drop m words)) 0 done (drop m words)
follow_behind s word words m done =
    follow_skip (column_of s (word ∷ words)) m done words
    ∙ follow_same (column_of s (word ∷ words)) (column_of s (drop m words)) (drop m words) (λ j le. columns_agree s (word ∷ words) (suc m) j le) 0 done

ends_read : (s : Scope) (word : Word) (words : List Word) (done : List Adjective) (k : ℕ) → top s (word ∷ words) ≡ Ends k → Reads s (word ∷ words) done (Some (record { adjectives = done; kind = k }))
ends_read s word words done k e = ([], sym (append-nil done), IsMeant.kind (top_ends s word words k e))

step_means : (s : Scope) (word : Word) (words : List Word) (done : List Adjective)
    → ((m : ℕ) (more : List Adjective) → can_go (top s (drop m words)) ≡ true → Reads s (drop m words) more (follow (column_of s (drop m words)) 0 more (drop m words)))
    → (step : Step) → top s (word ∷ words) ≡ step → can_go step ≡ true
    → Reads s (word ∷ words) done (followed step done (λ count more. follow (column_of s (word ∷ words)) count more words))
step_means s word words done rest Stops e can = absurd cc
step_means s word words done rest (Ends k) e can = ends_read s word words done k e
step_means s word words done rest (Goes a n) e can =
    let first = top_goes s word words a n e in
    let less : n - 1 ≡ first.m = omega (arith, first.count) in
    let same = ap (λ (m : ℕ). follow (column_of s (word ∷ words)) m (done ++ a ∷ []) words) less ∙ follow_behind s word words first.m (done ++ a ∷ []) in
    subst (Reads s (word ∷ words) done) (sym same) (one_more_read s word words a n done first (follow (column_of s (drop first.m words)) 0 (done ++ a ∷ []) (drop first.m words)) (rest first.m (done ++ a ∷ []) first.can))

follow_means : (fuel : ℕ) (s : Scope) (words : List Word) (done : List Adjective) → length words ≤ fuel → can_go (top s words) ≡ true → Reads s words done (follow (column_of s words) 0 done words)
follow_means fuel s [] done le can = absurd cc
follow_means zero s (word ∷ words) done le can = absurd (omega (arith, le))
follow_means (suc fuel) s (word ∷ words) done le can =
    subst (Reads s (word ∷ words) done) (sym (follow_top s word words done))
    (step_means s word words done (λ m more can_rest. follow_means fuel s (drop m words) more (omega (arith, le, length-drop m words)) can_rest) (top s (word ∷ words)) refl can)

stops_follow : (step : Step) (done : List Adjective) (next : ℕ → List Adjective → Option Front) → can_go step ≡ false → followed step done next ≡ None
stops_follow Stops done next stuck = refl
stops_follow (Ends kind) done next stuck = absurd cc
stops_follow (Goes a n) done next stuck = absurd cc

unread : (s : Scope) (words : List Word) → can_go (top s words) ≡ false → follow (column_of s words) 0 [] words ≡ None
unread s [] stuck = refl
unread s (word ∷ words) stuck = follow_top s word words [] ∙ stops_follow (top s (word ∷ words)) [] (λ count more. follow (column_of s (word ∷ words)) count more words) stuck

read_is_found : (s : Scope) (words : List Word) (found : Option Front) → Reads s words [] found → IsFrontFound s words found
read_is_found s words None h = absurd h
read_is_found s words (Some front) h = subst (λ (adjectives : List Adjective). IsMeant s words adjectives front.kind) (sym h.1) h.2

none_is_found : (s : Scope) (words : List Word) → can_go (top s words) ≡ false → IsFrontFound s words None
none_is_found s words stuck = λ cut. let can = cut_goes s words cut.0 cut.1 cut.2 in absurd cc

pub front_found : (s : Scope) (words : List Word) (found : Option Front) → found ≡ front_said s words → IsFrontFound s words found
unfolding front_said
front_found s words found e =
    elim (cases_Bool (can_go (top s words))) [
      | inl can ↦ subst (IsFrontFound s words) (sym e) (read_is_found s words (follow (column_of s words) 0 [] words) (follow_means (length words) s words [] (omega arith) can))
      | inr stuck ↦ subst (IsFrontFound s words) (sym (e ∙ unread s words stuck)) (none_is_found s words stuck)
    ]
