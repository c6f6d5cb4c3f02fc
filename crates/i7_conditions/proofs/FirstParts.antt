-- Words that are one number alone, and the first part of a number that an operator joins.
use Rattle.std.proofs.Common.{◌≡◌, ℕ, zero, suc, ◌+◌, ◌<◌, ◌≤◌, Bool, true, false, cond, List, [], ◌∷◌, length, take, drop, get_or, refl, sym, ap, ◌∙◌, subst, arith, inl, inr}
use Rattle.std.specs.Prelude.{Option, Some, None, is_some, nat_lt}
use Rattle.std.specs.List.{list_any}
use Rattle.std.proofs.lemmas.List.{drop-drop, length-append, length-drop}
use Rattle.std.proofs.lemmas.Bool.{ltb-true, ltb-false, cases_Bool, and_from, and_parts, or_right}
use Rattle.play_meaning.specs.Trees.{Number}
use Rattle.i7_conditions.specs.Joining.{Column, column_of, entry, first_part, is_end, is_read, is_term, looked, part_from}
use Rattle.i7_conditions.specs.Operators.{is_operator}
use Rattle.i7_conditions.specs.Scopes.{Scope}
use Rattle.i7_conditions.specs.TermForms.{term_said}
use Rattle.i7_conditions.specs.Terms.{IsTermFound, IsTermMeant}
use Rattle.i7_conditions.specs.Words.{Word}
use Rattle.i7_conditions.specs.declared.found.Found.{Found}
use Rattle.i7_conditions.specs.declared.found.Found.TheVariants.{Read, TooMany, Unread}
use Rattle.i7_conditions.proofs.Alone.{term_found}
use Rattle.i7_conditions.proofs.Cutting.{looked_at_end, looked_before, no_words}

-- ---- words that are one number alone

by_meant : (s : Scope) (words : List Word) (t : Number) (found : Found Number) → IsTermFound s words found → IsTermMeant s words t → is_read found ≡ true
by_meant s words t (Read u) h meant = refl
by_meant s words t TooMany h meant = refl
by_meant s words t Unread h meant = absurd (h t meant)

pub is_alone : (s : Scope) (words : List Word) (t : Number) → IsTermMeant s words t → is_term s words ≡ true
is_alone s words t meant = by_meant s words t (term_said s words) (term_found s words) meant

-- ---- columns

-- of how many words the first part is
abbrev pub top : Scope → List Word → Option ℕ
top s words = first_part s (column_of s words) words

column_long : (s : Scope) (words : List Word) → length (column_of s words) ≡ length words
column_long s [] = refl
column_long s (word ∷ words) = omega (arith, length-append (column_of s words) (entry s (column_of s words) (word ∷ words) ∷ []), column_long s words)

-- a column tells what every number behind an operator begins with
abbrev pub Tells : Scope → Column → List Word → Type 0
Tells s column words = (k : ℕ) (word : Word) (rest : List Word) → drop k words ≡ word ∷ rest → is_operator word ≡ true → looked column (length rest) ≡ top s rest

drop_none : (n : ℕ) → drop n no_words ≡ no_words
drop_none zero = refl
drop_none (suc n) = refl

pub left_behind : (words rest : List Word) (k : ℕ) (word : Word) → drop k words ≡ word ∷ rest → k + length rest + 1 ≡ length words
left_behind words rest k word e =
    let long : length (drop k words) ≡ suc (length rest) = ap length e in
    omega (arith, long, length-drop k words)

told_first : (s : Scope) (word : Word) (words : List Word) → is_operator word ≡ true → looked (column_of s (word ∷ words)) (length words) ≡ top s words
told_first s word words is =
    ap (λ (n : ℕ). get_or (column_of s (word ∷ words)) n None) (sym (column_long s words))
    ∙ looked_at_end (column_of s words) (entry s (column_of s words) (word ∷ words)) None
    ∙ rw is refl

pub column_tells : (s : Scope) (words : List Word) → Tells s (column_of s words) words
column_tells s [] k word rest e is = let none = drop_none k in absurd cc
column_tells s (first ∷ words) zero word rest e is =
    let head : first ≡ word = cc in
    let tail : words ≡ rest = cc in
    subst (λ (more : List Word). looked (column_of s (first ∷ words)) (length more) ≡ top s more) tail (told_first s first words (ap is_operator head ∙ is))
column_tells s (first ∷ words) (suc k) word rest e is =
    looked_before (column_of s words) (entry s (column_of s words) (first ∷ words) ∷ []) (length rest) None (omega (arith, column_long s words, left_behind words rest k word e))
    ∙ column_tells s words k word rest e is

pub drop_next : (words rest : List Word) (n : ℕ) (word : Word) → drop n words ≡ word ∷ rest → drop (suc n) words ≡ rest
drop_next words rest n word e =
    let next : n + 1 ≡ suc n = omega arith in
    ap (λ (m : ℕ). drop m words) (sym next) ∙ sym (drop-drop 1 n words) ∙ ap (drop 1) e

pub tells_behind : (s : Scope) (column : Column) (words rest : List Word) (n : ℕ) (word : Word) → drop n words ≡ word ∷ rest → Tells s column words → Tells s column rest
tells_behind s column words rest n word at tells k other more e is =
    tells (suc n + k) other more (sym (drop-drop k (suc n) words) ∙ ap (drop k) (drop_next words rest n word at) ∙ e) is

-- ---- the first part

-- the words in front of an operator are a part, and those behind it are a number
pub record IsEnd (s : Scope) (column : Column) (words : List Word) (n : ℕ) : Type 0 where
  pub word : Word
  pub rest : List Word
  pub at : drop n words ≡ word ∷ rest
  pub joins : is_operator word ≡ true
  pub told : is_some (looked column (length rest)) ≡ true
  pub part : is_term s (take n words) ≡ true

abbrev pub IsFirstEnd : Scope → Column → List Word → ℕ → Option ℕ → Type 0
IsFirstEnd s column words start None = (n : ℕ) → start ≤ n → IsEnd s column words n → ⊥
IsFirstEnd s column words start (Some n) = (start ≤ n) × IsEnd s column words n × ((m : ℕ) → start ≤ m → m < n → IsEnd s column words m → ⊥)

not_here : (s : Scope) (column : Column) (words : List Word) (start : ℕ) → (IsEnd s column words start → ⊥) → (n : ℕ) → start ≤ n → IsEnd s column words n → (start + 1 ≤ n → ⊥) → ⊥
not_here s column words start never n le end later =
    elim (cases_Bool (nat_lt start n)) [
      | inl lt ↦ later (omega (arith, ltb-true _ _ lt))
      | inr ge ↦ let same : n ≡ start = omega (arith, le, ltb-false _ _ ge) in never (subst (IsEnd s column words) same end)
    ]

ends_later : (s : Scope) (column : Column) (words : List Word) (start : ℕ) (found : Option ℕ) → (IsEnd s column words start → ⊥) → IsFirstEnd s column words (start + 1) found → IsFirstEnd s column words start found
ends_later s column words start None never later = λ n le end. not_here s column words start never n le end (λ more. later n more end)
ends_later s column words start (Some n) never later =
    (omega (arith, later.0), later.1, λ m le lt end. not_here s column words start never m le end (λ more. later.2 m more lt end))

-- an operator that is passed over stands in the part
held_operator : (words rest : List Word) (k n : ℕ) (word : Word) → drop k words ≡ word ∷ rest → is_operator word ≡ true → k < n → list_any is_operator (take n words) ≡ true
held_operator [] rest k n word e is lt = let none = drop_none k in absurd cc
held_operator (first ∷ words) rest k zero word e is lt = absurd (omega (arith, lt))
held_operator (first ∷ words) rest zero (suc n) word e is lt = let head : first ≡ word = cc in rw (head, is) refl
held_operator (first ∷ words) rest (suc k) (suc n) word e is lt = or_right (is_operator first) (list_any is_operator (take n words)) (held_operator words rest k n word e is (omega (arith, lt)))

cannot_be : (s : Scope) (words : List Word) → s.has_operators ≡ false → list_any is_operator words ≡ true → is_term s words ≡ false
unfolding term_said
cannot_be s words none some = rw (none, some) refl

ends_nowhere : (s : Scope) (column : Column) (words rest : List Word) (start : ℕ) (word : Word) → drop start words ≡ word ∷ rest → is_operator word ≡ true → s.has_operators ≡ false → (IsEnd s column words start → ⊥)
    → IsFirstEnd s column words start None
ends_nowhere s column words rest start word at is none never n le end =
    not_here s column words start never n le end (λ more.
    let not_one = cannot_be s (take n words) none (held_operator words rest start n word at is (omega (arith, more))) in
    let part = end.part in
    absurd cc)

no_words_left : (s : Scope) (column : Column) (words : List Word) (start : ℕ) → drop start words ≡ [] → IsFirstEnd s column words start None
no_words_left s column words start e n le end =
    let long : length (drop start words) ≡ 0 = ap length e in
    absurd (omega (arith, long, le, length-drop start words, left_behind words end.rest n end.word end.at))

same_word : (words rest : List Word) (n : ℕ) (word other : Word) (more : List Word) → drop n words ≡ word ∷ rest → drop n words ≡ other ∷ more → (other ≡ word) × (more ≡ rest)
same_word words rest n word other more e f = let both : other ∷ more ≡ word ∷ rest = sym f ∙ e in (cc, cc)

no_operator_here : (s : Scope) (column : Column) (words rest : List Word) (n : ℕ) (word : Word) → drop n words ≡ word ∷ rest → is_operator word ≡ false → IsEnd s column words n → ⊥
no_operator_here s column words rest n word e isnt end =
    let same = (same_word words rest n word end.word end.rest e end.at).0 in
    let is : is_operator word ≡ true = ap is_operator (sym same) ∙ end.joins in
    absurd cc

no_end_here : (s : Scope) (column : Column) (words rest : List Word) (n : ℕ) (word : Word) → drop n words ≡ word ∷ rest → is_end s column words n rest ≡ false → IsEnd s column words n → ⊥
no_end_here s column words rest n word e isnt end =
    let same = (same_word words rest n word end.word end.rest e end.at).1 in
    let told : is_some (looked column (length rest)) ≡ true = ap (λ (more : List Word). is_some (looked column (length more))) (sym same) ∙ end.told in
    let is = and_from (is_some (looked column (length rest))) (is_term s (take n words)) told end.part in
    absurd cc

an_end : (s : Scope) (column : Column) (words rest : List Word) (n : ℕ) (word : Word) → drop n words ≡ word ∷ rest → is_operator word ≡ true → is_end s column words n rest ≡ true → IsEnd s column words n
an_end s column words rest n word e is ends =
    let parts = and_parts (is_some (looked column (length rest))) (is_term s (take n words)) ends in
    record { word = word; rest = rest; at = e; joins = is; told = parts.0; part = parts.1 }

on_or_stop : (s : Scope) (column : Column) (words rest : List Word) (start : ℕ) (word : Word) (later : Option ℕ) (some : Bool) → s.has_operators ≡ some → drop start words ≡ word ∷ rest → is_operator word ≡ true
    → (IsEnd s column words start → ⊥) → IsFirstEnd s column words (start + 1) later → IsFirstEnd s column words start (cond some later None)
on_or_stop s column words rest start word later true e at is never on = ends_later s column words start later never on
on_or_stop s column words rest start word later false e at is never on = ends_nowhere s column words rest start word at is e never

pub part_is : (s : Scope) (column : Column) (words : List Word) (start : ℕ) (rest : List Word) → drop start words ≡ rest → IsFirstEnd s column words start (part_from s column words start rest)
part_is s column words start [] e = no_words_left s column words start e
part_is s column words start (word ∷ rest) e =
    let next : suc start ≡ start + 1 = omega arith in
    let on : IsFirstEnd s column words (start + 1) (part_from s column words (start + 1) rest) =
    part_is s column words (start + 1) rest (ap (λ (m : ℕ). drop m words) (sym next) ∙ drop_next words rest start word e) in
    elim (cases_Bool (is_operator word)) [
      | inl is ↦ elim (cases_Bool (is_end s column words start rest)) [
        | inl ends ↦ rw (is, ends) (omega arith, an_end s column words rest start word e is ends, λ m le lt end. absurd (omega (arith, le, lt)))
        | inr never ↦ rw (is, never) (on_or_stop s column words rest start word (part_from s column words (start + 1) rest) s.has_operators refl e is (no_end_here s column words rest start word e never) on)
      ]
      | inr isnt ↦ rw isnt (ends_later s column words start (part_from s column words (start + 1) rest) (no_operator_here s column words rest start word e isnt) on)
    ]
