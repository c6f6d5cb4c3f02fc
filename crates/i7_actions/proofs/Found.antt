-- The nouns that are found of an action are those that words give it.
use Rattle.std.proofs.Common.{◌≡◌, ℕ, suc, ◌+◌, ◌<◌, ◌≤◌, Bool, true, false, List, [], ◌∷◌, length, take, drop, refl, sym, ap, ◌∙◌, subst, arith, inl, inr}
use Rattle.std.specs.Prelude.{Option, Some, None, nat_lt}
use Rattle.std.proofs.lemmas.List.{length-drop}
use Rattle.std.proofs.lemmas.Bool.{ltb-true, ltb-false, cases_Bool}
use Rattle.play_meaning.specs.Trees.{Nothing, Object}
use Rattle.i7_conditions.specs.Joining.{is_read}
use Rattle.i7_conditions.specs.Objects.{Means}
use Rattle.i7_conditions.specs.Predicates.{is_deep, object_said}
use Rattle.i7_conditions.specs.Readings.{IsFoundAs, or_else, two}
use Rattle.i7_conditions.specs.Scopes.{Scope}
use Rattle.i7_conditions.specs.Words.{Word}
use Rattle.i7_conditions.specs.declared.found.Found.{Found}
use Rattle.i7_conditions.specs.declared.found.Found.TheVariants.{Read, TooMany, Unread}
use Rattle.i7_conditions.proofs.FirstParts.{drop_next, left_behind}
use Rattle.i7_conditions.proofs.Listing.{MadeOfTwo, two_found}
use Rattle.i7_conditions.proofs.Predicated.{object_found}
use Rattle.i7_actions.specs.NounForms.{last_said, noun_said, nouns_at, nouns_behind, nouns_by, nouns_from, nouns_of, nouns_said, pair}
use Rattle.i7_actions.specs.Nouns.{GivesNouns, IsLast, IsNoun, Nouns, Reads, StandAt}
use Rattle.i7_actions.specs.Parts.{behind, first_part, is_name, second_part}
use Rattle.i7_actions.specs.Trying.{nouns_are_deep}
use Rattle.i7_actions.specs.declared.action.Action.{Action}
use Rattle.i7_actions.specs.declared.action.NounCount.{NounCount}
use Rattle.i7_actions.specs.declared.action.NounCount.TheVariants.{Zero, One, Two}

-- ---- one noun

noun_as : (s : Scope) (word : Word) (words : List Word) (found : Found Object) → IsFoundAs (Means s (word ∷ words)) is_deep found → IsFoundAs (IsNoun s (word ∷ words)) is_deep found
noun_as s word words (Read o) h = ((refl, h.0), h.1)
noun_as s word words TooMany h = (h.0, (refl, h.1), h.2)
noun_as s word words Unread h = λ o noun. h o noun.1

pub noun_found : (s : Scope) (words : List Word) → IsFoundAs (IsNoun s words) is_deep (noun_said s words)
noun_found s [] = λ o noun. absurd cc
noun_found s (word ∷ words) = noun_as s word words (object_said s (word ∷ words)) (object_found s (word ∷ words))

last_found : (s : Scope) (count : NounCount) (words : List Word) → IsFoundAs (IsLast s count words) is_deep (last_said s count words)
last_found s Zero words = λ o last. last
last_found s One [] = ((refl, refl), refl)
last_found s One (word ∷ words) = λ o last. absurd cc
last_found s Two words = noun_found s words

-- ---- both, of which the first has n words

abbrev Around : Scope → NounCount → List Word → List Word → Nouns → Type 0
Around s count noun last = MadeOfTwo pair (IsNoun s noun) (IsLast s count last)

around_found : (s : Scope) (count : NounCount) (noun last : List Word) → IsFoundAs (Around s count noun last) nouns_are_deep (two pair (noun_said s noun) (last_said s count last))
around_found s count noun last =
    two_found pair (IsNoun s noun) (IsLast s count last) is_deep is_deep nouns_are_deep (λ x y. refl) (noun_said s noun) (last_said s count last) (noun_found s noun) (last_found s count last)

stand_of : (s : Scope) (count : NounCount) (second words last : List Word) (n : ℕ) (nouns : Nouns) → n ≤ length words → behind second (drop n words) ≡ Some last
    → Around s count (take n words) last nouns
    → StandAt s count second words n nouns
stand_of s count second words last n nouns le at made =
    subst (StandAt s count second words n) (sym made.4) (record { last = last; within = le; part = at; noun = made.2; ends = made.3 })

around_of : (s : Scope) (count : NounCount) (second words last : List Word) (n : ℕ) (nouns : Nouns) → behind second (drop n words) ≡ Some last → StandAt s count second words n nouns
    → Around s count (take n words) last nouns
around_of s count second words last n nouns at stand =
    let both : Some stand.last ≡ Some last = sym stand.part ∙ at in
    let same : stand.last ≡ last = cc in
    (nouns.0, nouns.1, stand.noun, subst (λ (words : List Word). IsLast s count words nouns.1) same stand.ends, refl)

stand_as : (s : Scope) (count : NounCount) (second words last : List Word) (n : ℕ) → n ≤ length words → behind second (drop n words) ≡ Some last
    → (found : Found Nouns) → IsFoundAs (Around s count (take n words) last) nouns_are_deep found → IsFoundAs (StandAt s count second words n) nouns_are_deep found
stand_as s count second words last n le at (Read nouns) h = (stand_of s count second words last n nouns le at h.0, h.1)
stand_as s count second words last n le at TooMany h = (h.0, stand_of s count second words last n h.0 le at h.1, h.2)
stand_as s count second words last n le at Unread h = λ nouns stand. h nouns (around_of s count second words last n nouns at stand)

by_part : (s : Scope) (count : NounCount) (second words : List Word) (n : ℕ) → n ≤ length words → (found : Option (List Word)) → behind second (drop n words) ≡ found
    → IsFoundAs (StandAt s count second words n) nouns_are_deep (nouns_by s count (take n words) found)
by_part s count second words n le None at = λ nouns stand. let same : None ≡ Some stand.last = sym at ∙ stand.part in absurd cc
by_part s count second words n le (Some last) at =
    stand_as s count second words last n le at (two pair (noun_said s (take n words)) (last_said s count last)) (around_found s count (take n words) last)

stand_found : (s : Scope) (count : NounCount) (second words rest : List Word) (n : ℕ) → n ≤ length words → drop n words ≡ rest
    → IsFoundAs (StandAt s count second words n) nouns_are_deep (nouns_at s count second words n rest)
stand_found s count second words rest n le e =
    subst (λ (rest : List Word). IsFoundAs (StandAt s count second words n) nouns_are_deep (nouns_at s count second words n rest)) e
    (by_part s count second words n le (behind second (drop n words)) refl)

-- ---- the shortest noun

abbrev Never : (ℕ → Nouns → Type 0) → ℕ → Type 0
Never Stands n = (nouns : Nouns) → Stands n nouns → ⊥

pub record IsShortest (Stands : ℕ → Nouns → Type 0) (start : ℕ) (nouns : Nouns) : Type 0 where
  pub n : ℕ
  pub from : start ≤ n
  pub stands : Stands n nouns
  pub shortest : (m : ℕ) → start ≤ m → m < n → Never Stands m

abbrev pub IsFirst : (ℕ → Nouns → Type 0) → ℕ → Found Nouns → Type 0
IsFirst Stands start (Read nouns) = IsShortest Stands start nouns × (nouns_are_deep nouns ≡ false)
IsFirst Stands start TooMany = (nouns : Nouns) × IsShortest Stands start nouns × (nouns_are_deep nouns ≡ true)
IsFirst Stands start Unread = (n : ℕ) → start ≤ n → Never Stands n

here : (Stands : ℕ → Nouns → Type 0) (start : ℕ) (nouns : Nouns) → Stands start nouns → IsShortest Stands start nouns
here Stands start nouns h = record { n = start; from = omega arith; stands = h; shortest = λ m le lt. absurd (omega (arith, le, lt)) }

not_at : (Stands : ℕ → Nouns → Type 0) (start n : ℕ) → Never Stands start → start ≤ n → ((start + 1 ≤ n) → Never Stands n) → Never Stands n
not_at Stands start n never le later nouns h =
    elim (cases_Bool (nat_lt start n)) [
      | inl lt ↦ later (omega (arith, ltb-true _ _ lt)) nouns h
      | inr ge ↦ let same : n ≡ start = omega (arith, le, ltb-false _ _ ge) in never nouns (subst (λ (m : ℕ). Stands m nouns) same h)
    ]

later_shortest : (Stands : ℕ → Nouns → Type 0) (start : ℕ) (nouns : Nouns) → Never Stands start → IsShortest Stands (start + 1) nouns → IsShortest Stands start nouns
later_shortest Stands start nouns never h =
    record { n = h.n; from = omega (arith, h.from); stands = h.stands; shortest = λ m le lt. not_at Stands start m never le (λ more. h.shortest m more lt) }

first_later : (Stands : ℕ → Nouns → Type 0) (start : ℕ) (found : Found Nouns) → Never Stands start → IsFirst Stands (start + 1) found → IsFirst Stands start found
first_later Stands start (Read nouns) never h = (later_shortest Stands start nouns never h.0, h.1)
first_later Stands start TooMany never h = (h.0, later_shortest Stands start h.0 never h.1, h.2)
first_later Stands start Unread never h = λ n le. not_at Stands start n never le (λ more. h n more)

first_here : (Stands : ℕ → Nouns → Type 0) (start : ℕ) (found other : Found Nouns) → IsFoundAs (Stands start) nouns_are_deep found → IsFirst Stands (start + 1) other
    → IsFirst Stands start (or_else found other)
first_here Stands start (Read nouns) other h later = (here Stands start nouns h.0, h.1)
first_here Stands start TooMany other h later = (h.0, here Stands start h.0 h.1, h.2)
first_here Stands start Unread other h later = first_later Stands start other h later

first_alone : (Stands : ℕ → Nouns → Type 0) (start : ℕ) (found : Found Nouns) → IsFoundAs (Stands start) nouns_are_deep found → ((n : ℕ) → start + 1 ≤ n → Never Stands n) → IsFirst Stands start found
first_alone Stands start (Read nouns) h later = (here Stands start nouns h.0, h.1)
first_alone Stands start TooMany h later = (h.0, here Stands start h.0 h.1, h.2)
first_alone Stands start Unread h later = λ n le. not_at Stands start n h le (λ more. later n more)

long_end : (words : List Word) (n : ℕ) → drop n words ≡ [] → length words ≤ n
long_end words n e = let long : length (drop n words) ≡ 0 = ap length e in omega (arith, long, length-drop n words)

first_found : (s : Scope) (count : NounCount) (second words : List Word) (start : ℕ) (rest : List Word) → start ≤ length words → drop start words ≡ rest
    → IsFirst (StandAt s count second words) start (nouns_from s count second words start rest)
first_found s count second words start [] le e =
    first_alone (StandAt s count second words) start (nouns_at s count second words start []) (stand_found s count second words [] start le e)
    (λ n more nouns stand. absurd (omega (arith, more, stand.within, long_end words start e)))
first_found s count second words start (word ∷ rest) le e =
    let next : suc start ≡ start + 1 = omega arith in
    first_here (StandAt s count second words) start (nouns_at s count second words start (word ∷ rest)) (nouns_from s count second words (start + 1) rest)
    (stand_found s count second words (word ∷ rest) start le e)
    (first_found s count second words (start + 1) rest (omega (arith, left_behind words rest start word e)) (ap (λ (m : ℕ). drop m words) (sym next) ∙ drop_next words rest start word e))

-- ---- of an action

abbrev pub IsGiven : Scope → Action → List Word → Found Nouns → Type 0
IsGiven s a words found = IsFirst (Reads s a words) 0 found

one_reading : (Stands Reading : ℕ → Nouns → Type 0) → ((n : ℕ) (nouns : Nouns) → Stands n nouns → Reading n nouns) → ((n : ℕ) (nouns : Nouns) → Reading n nouns → Stands n nouns) → (nouns : Nouns)
    → IsShortest Stands 0 nouns → IsShortest Reading 0 nouns
one_reading Stands Reading to back nouns h = record { n = h.n; from = h.from; stands = to h.n nouns h.stands; shortest = λ m le lt others reads. h.shortest m le lt others (back m others reads) }

first_as : (Stands Reading : ℕ → Nouns → Type 0) → ((n : ℕ) (nouns : Nouns) → Stands n nouns → Reading n nouns) → ((n : ℕ) (nouns : Nouns) → Reading n nouns → Stands n nouns) → (found : Found Nouns)
    → IsFirst Stands 0 found → IsFirst Reading 0 found
first_as Stands Reading to back (Read nouns) h = (one_reading Stands Reading to back nouns h.0, h.1)
first_as Stands Reading to back TooMany h = (h.0, one_reading Stands Reading to back h.0 h.1, h.2)
first_as Stands Reading to back Unread h = λ n le nouns reads. h n le nouns (back n nouns reads)

abbrev pub is_zero : NounCount → Bool
is_zero Zero = true
is_zero One = false
is_zero Two = false

no_last : (s : Scope) (count : NounCount) (words : List Word) (o : Object) → is_zero count ≡ true → IsLast s count words o → ⊥
no_last s Zero words o zero last = last
no_last s One words o zero last = absurd cc
no_last s Two words o zero last = absurd cc

pub of_alone : (s : Scope) (a : Action) (words : List Word) (n : ℕ) (nouns : Nouns) → Reads s a words n nouns → is_zero a.nouns ≡ true → (nouns ≡ (Nothing, Nothing)) × (is_name a.name words ≡ true)
of_alone s a words n nouns (Reads.alone none is) zero = (refl, is)
of_alone s a words n nouns (Reads.around {rest = rest} at stand) zero = absurd (no_last s a.nouns stand.last nouns.1 zero stand.ends)

pub of_around : (s : Scope) (a : Action) (words : List Word) (n : ℕ) (nouns : Nouns) → Reads s a words n nouns → is_zero a.nouns ≡ false
    → (rest : List Word) × (behind (first_part a.name) words ≡ Some rest) × StandAt s a.nouns (second_part a.name) rest n nouns
of_around s a words n nouns (Reads.alone none is) some = let zero : is_zero a.nouns ≡ true = ap is_zero none in absurd cc
of_around s a words n nouns (Reads.around {rest = rest} at stand) some = (rest, at, stand)

standing : (s : Scope) (a : Action) (words rest : List Word) (n : ℕ) (nouns : Nouns) → is_zero a.nouns ≡ false → behind (first_part a.name) words ≡ Some rest → Reads s a words n nouns
    → StandAt s a.nouns (second_part a.name) rest n nouns
standing s a words rest n nouns some e reads =
    let of = of_around s a words n nouns reads some in
    let both : Some of.0 ≡ Some rest = sym of.1 ∙ e in
    let same : of.0 ≡ rest = cc in
    subst (λ (rest : List Word). StandAt s a.nouns (second_part a.name) rest n nouns) same of.2

by_front : (s : Scope) (a : Action) (words : List Word) (found : Option (List Word)) → is_zero a.nouns ≡ false → behind (first_part a.name) words ≡ found
    → IsGiven s a words (nouns_behind s a.nouns (second_part a.name) found)
by_front s a words None some e = λ n le nouns reads.
    let of = of_around s a words n nouns reads some in
    let same : None ≡ Some of.0 = sym e ∙ of.1 in
    absurd cc
by_front s a words (Some rest) some e =
    first_as (StandAt s a.nouns (second_part a.name) rest) (Reads s a words) (λ n nouns stand. Reads.around e stand) (λ n nouns reads. standing s a words rest n nouns some e reads)
    (nouns_from s a.nouns (second_part a.name) rest 0 rest) (first_found s a.nouns (second_part a.name) rest 0 rest (omega arith) refl)

by_count : (s : Scope) (a : Action) (words : List Word) (count : NounCount) → a.nouns ≡ count → IsGiven s a words (nouns_of s count a.name words)
by_count s a words Zero e =
    elim (cases_Bool (is_name a.name words)) [
      | inl is ↦ rw is (record { n = 0; from = omega arith; stands = Reads.alone e is; shortest = λ m le lt. absurd (omega (arith, lt)) }, refl)
      | inr isnt ↦ rw isnt (λ n le nouns reads. let of = of_alone s a words n nouns reads (ap is_zero e) in absurd cc)
    ]
by_count s a words One e =
    subst (λ (count : NounCount). IsGiven s a words (nouns_behind s count (second_part a.name) (behind (first_part a.name) words))) e
    (by_front s a words (behind (first_part a.name) words) (ap is_zero e) refl)
by_count s a words Two e =
    subst (λ (count : NounCount). IsGiven s a words (nouns_behind s count (second_part a.name) (behind (first_part a.name) words))) e
    (by_front s a words (behind (first_part a.name) words) (ap is_zero e) refl)

pub nouns_given : (s : Scope) (a : Action) (words : List Word) → IsGiven s a words (nouns_said s a words)
unfolding nouns_said
nouns_given s a words = by_count s a words a.nouns refl

-- ---- whether there are any

pub read_of : (Stands : ℕ → Nouns → Type 0) (found : Found Nouns) (n : ℕ) (nouns : Nouns) → IsFirst Stands 0 found → Stands n nouns → is_read found ≡ true
read_of Stands (Read other) n nouns h stands = refl
read_of Stands TooMany n nouns h stands = refl
read_of Stands Unread n nouns h stands = absurd (h n (omega arith) nouns stands)

pub given_of : (s : Scope) (a : Action) (words : List Word) (nouns : Nouns) → IsShortest (Reads s a words) 0 nouns → GivesNouns s a words nouns
given_of s a words nouns h = record { n = h.n; reads = h.stands; shortest = λ m lt others reads. h.shortest m (omega arith) lt others reads }
