-- What words are found to be alone, as a number, is what they are.
use Rattle.std.proofs.Common.{◌≡◌, ℕ, ℤ, ◌+◌, ◌<◌, ◌≤◌, ◌⊎◌, true, false, ◌||◌, List, [], refl, sym, ap, ◌∙◌, subst, arith, inl, inr}
use Rattle.std.specs.Prelude.{Option, Some, None, codes, nat_lt}
use Rattle.std.proofs.lemmas.Bool.{ltb-true, ltb-false, cases_Bool}
use Rattle.std.proofs.lemmas.Bool.Decides.{nat_tests}
use Rattle.play_meaning.specs.Trees.{CountOf, Description, Literal, Number, Object, PropertyOf, TurnCount, Variable}
use Rattle.i7_conditions.specs.Describing.{Describes, IsDescriptionFound, adjectives_in, froms_in}
use Rattle.i7_conditions.specs.Descriptions.{description_said}
use Rattle.i7_conditions.specs.Keys.{is_named, property_named, split_of, variable_named}
use Rattle.i7_conditions.specs.Marks.{marks_of}
use Rattle.i7_conditions.specs.Objects.{IsObjectFound, Means, froms}
use Rattle.i7_conditions.specs.Parts.{put_together}
use Rattle.i7_conditions.specs.Scopes.{Scope}
use Rattle.i7_conditions.specs.TermForms.{a_count, a_literal, a_property, a_variable, count_of, from_literal, from_property, from_variable, or_else, property_by, property_of, term_said, turn_count}
use Rattle.i7_conditions.specs.Terms.{IsTerm, IsTermFound, IsTermMeant, can_stand, is_over, literal_said}
use Rattle.i7_conditions.specs.Words.{Word}
use Rattle.i7_conditions.specs.declared.found.Found.{Found}
use Rattle.i7_conditions.specs.declared.found.Found.TheVariants.{Read, TooMany, Unread}
use Rattle.i7_conditions.proofs.Described.{described_once, descriptions_found}
use Rattle.i7_conditions.proofs.Readings.{meant_once, objects_found}

-- ---- what stands behind each form

abbrev Parts : Type 0
Parts = List Word × List Word

of_literal : (s : Scope) (words : List Word) (form : ℕ) (t : Number) → IsTerm s words form t → form ≡ 0 → (n : ℤ) × (literal_said words ≡ Some n) × (t ≡ Literal n)
of_literal s words form t (IsTerm.literal {n = n} e) k = (n, e, refl)
of_literal s words form t (IsTerm.variable e) k = absurd (omega (arith, k))
of_literal s words form t (IsTerm.property e f g) k = absurd (omega (arith, k))
of_literal s words form t (IsTerm.count e f g) k = absurd (omega (arith, k))
of_literal s words form t (IsTerm.turns e) k = absurd (omega (arith, k))

of_variable : (s : Scope) (words : List Word) (form : ℕ) (t : Number) → IsTerm s words form t → form ≡ 1 → (v : ℕ) × (variable_named s words ≡ Some v) × (t ≡ Variable v)
of_variable s words form t (IsTerm.literal e) k = absurd (omega (arith, k))
of_variable s words form t (IsTerm.variable {v = v} e) k = (v, e, refl)
of_variable s words form t (IsTerm.property e f g) k = absurd (omega (arith, k))
of_variable s words form t (IsTerm.count e f g) k = absurd (omega (arith, k))
of_variable s words form t (IsTerm.turns e) k = absurd (omega (arith, k))

of_property : (s : Scope) (words : List Word) (form : ℕ) (t : Number) → IsTerm s words form t → form ≡ 2
    → (parts : Parts) × (p : ℕ) × (o : Object) × (split_of words ≡ Some parts) × (property_named s parts.0 ≡ Some p) × Means s parts.1 o × (t ≡ PropertyOf p o)
of_property s words form t (IsTerm.literal e) k = absurd (omega (arith, k))
of_property s words form t (IsTerm.variable e) k = absurd (omega (arith, k))
of_property s words form t (IsTerm.property {name = name} {object = object} {p = p} {o = o} e f g) k = ((name, object), p, o, e, f, g, refl)
of_property s words form t (IsTerm.count e f g) k = absurd (omega (arith, k))
of_property s words form t (IsTerm.turns e) k = absurd (omega (arith, k))

of_count : (s : Scope) (words : List Word) (form : ℕ) (t : Number) → IsTerm s words form t → form ≡ 3
    → (parts : Parts) × (d : Description) × (split_of words ≡ Some parts) × (is_named (codes "number") parts.0 ≡ true) × Describes s parts.1 d × (t ≡ CountOf d)
of_count s words form t (IsTerm.literal e) k = absurd (omega (arith, k))
of_count s words form t (IsTerm.variable e) k = absurd (omega (arith, k))
of_count s words form t (IsTerm.property e f g) k = absurd (omega (arith, k))
of_count s words form t (IsTerm.count {name = name} {those = those} {d = d} e f g) k = ((name, those), d, e, f, g, refl)
of_count s words form t (IsTerm.turns e) k = absurd (omega (arith, k))

of_turns : (s : Scope) (words : List Word) (form : ℕ) (t : Number) → IsTerm s words form t → 4 ≤ form → (form ≡ 4) × (is_named (codes "turn count") words ≡ true) × (t ≡ TurnCount)
of_turns s words form t (IsTerm.literal e) k = absurd (omega (arith, k))
of_turns s words form t (IsTerm.variable e) k = absurd (omega (arith, k))
of_turns s words form t (IsTerm.property e f g) k = absurd (omega (arith, k))
of_turns s words form t (IsTerm.count e f g) k = absurd (omega (arith, k))
of_turns s words form t (IsTerm.turns e) k = (refl, e, refl)

-- ---- one form

abbrev IsFormFound : Scope → List Word → ℕ → Found Number → Type 0
IsFormFound s words form (Read t) = IsTerm s words form t × (is_over t ≡ false)
IsFormFound s words form TooMany = (t : Number) × IsTerm s words form t × (is_over t ≡ true)
IsFormFound s words form Unread = (t : Number) → IsTerm s words form t → ⊥

pub within : (n k : ℕ) → n ≤ k → nat_lt k n ≡ false
within n k le = grind (arith, nat_tests)

pub past : (n k : ℕ) → k < n → nat_lt k n ≡ true
past n k lt = grind (arith, nat_tests)

literal_found : (s : Scope) (words : List Word) (found : Option ℤ) → literal_said words ≡ found → IsFormFound s words 0 (a_literal found)
literal_found s words None e = λ t term. let of = of_literal s words 0 t term refl in let same : None ≡ Some of.0 = sym e ∙ of.1 in absurd cc
literal_found s words (Some n) e = (IsTerm.literal e, refl)

variable_found : (s : Scope) (words : List Word) (found : Option ℕ) → variable_named s words ≡ found → IsFormFound s words 1 (a_variable found)
variable_found s words None e = λ t term. let of = of_variable s words 1 t term refl in let same : None ≡ Some of.0 = sym e ∙ of.1 in absurd cc
variable_found s words (Some v) e = (IsTerm.variable e, refl)

abbrev parts_in : Option Parts → Parts
parts_in None = ([], [])
parts_in (Some parts) = parts

same_parts : (words : List Word) (p q : Parts) → split_of words ≡ Some p → split_of words ≡ Some q → p ≡ q
same_parts words p q e f = ap parts_in (sym e ∙ f)

property_of_found : (s : Scope) (words : List Word) (parts : Parts) (p : ℕ) → split_of words ≡ Some parts → property_named s parts.0 ≡ Some p → (found : Found Object) → IsObjectFound s parts.1 found
    → IsFormFound s words 2 (property_of p found)
property_of_found s words parts p at named (Read o) h = (IsTerm.property at named h.0, within (froms o) 8 h.1)
property_of_found s words parts p at named TooMany h = (PropertyOf p h.0, IsTerm.property at named h.1, past (froms h.0) 8 h.2)
property_of_found s words parts p at named Unread h = λ t term.
    let of = of_property s words 2 t term refl in
    h of.2 (subst (λ (q : Parts). Means s q.1 of.2) (same_parts words of.0 parts of.3 at) of.5)

property_by_found : (s : Scope) (words : List Word) (parts : Parts) (named : Option ℕ) → split_of words ≡ Some parts → property_named s parts.0 ≡ named → IsFormFound s words 2 (property_by s named parts.1)
property_by_found s words parts None at e = λ t term.
    let of = of_property s words 2 t term refl in
    let same : None ≡ Some of.1 = sym e ∙ ap (λ (q : Parts). property_named s q.0) (same_parts words parts of.0 at of.3) ∙ of.4 in
    absurd cc
property_by_found s words parts (Some p) at e = property_of_found s words parts p at e (put_together (marks_of s parts.1)) (objects_found s parts.1 (put_together (marks_of s parts.1)) refl)

property_found : (s : Scope) (words : List Word) (found : Option Parts) → split_of words ≡ found → IsFormFound s words 2 (a_property s found)
property_found s words None at = λ t term. let of = of_property s words 2 t term refl in let same : None ≡ Some of.0 = sym at ∙ of.3 in absurd cc
property_found s words (Some parts) at = property_by_found s words parts (property_named s parts.0) at refl

pub over_either : (a b : ℕ) → (9 < a) ⊎ (8 < b) → (nat_lt 9 a || nat_lt 8 b) ≡ true
over_either a b (inl lt) = rw (past a 9 lt) refl
over_either a b (inr lt) = elim (cases_Bool (nat_lt 9 a)) [
  | inl is ↦ rw is refl
  | inr isnt ↦ rw isnt (past b 8 lt)
]

count_of_found : (s : Scope) (words : List Word) (parts : Parts) → split_of words ≡ Some parts → is_named (codes "number") parts.0 ≡ true → (found : Found Description) → IsDescriptionFound s parts.1 found
    → IsFormFound s words 3 (count_of found)
count_of_found s words parts at named (Read d) h = (IsTerm.count at named h.0, rw (within (adjectives_in d) 9 h.1) (within (froms_in d) 8 h.2))
count_of_found s words parts at named TooMany h = (CountOf h.0, IsTerm.count at named h.1, over_either (adjectives_in h.0) (froms_in h.0) h.2)
count_of_found s words parts at named Unread h = λ t term.
    let of = of_count s words 3 t term refl in
    h of.1 (subst (λ (q : Parts). Describes s q.1 of.1) (same_parts words of.0 parts of.2 at) of.4)

count_found : (s : Scope) (words : List Word) (found : Option Parts) → split_of words ≡ found → IsFormFound s words 3 (a_count s found)
count_found s words None at = λ t term. let of = of_count s words 3 t term refl in let same : None ≡ Some of.0 = sym at ∙ of.2 in absurd cc
count_found s words (Some parts) at =
    elim (cases_Bool (is_named (codes "number") parts.0)) [
      | inl is ↦ rw is (count_of_found s words parts at is (description_said s parts.1) (descriptions_found s parts.1 (description_said s parts.1) refl))
      | inr isnt ↦ rw isnt (λ t term.
          let of = of_count s words 3 t term refl in
          let is : is_named (codes "number") parts.0 ≡ true = ap (λ (q : Parts). is_named (codes "number") q.0) (same_parts words parts of.0 at of.2) ∙ of.3 in
          absurd cc)
    ]

-- ---- one form after the other

-- the first of the forms from this one on
pub record IsFirstFrom (s : Scope) (words : List Word) (start : ℕ) (t : Number) : Type 0 where
  pub form : ℕ
  pub later : start ≤ form
  pub is_term : IsTerm s words form t
  pub first : (lower : ℕ) → start ≤ lower → lower < form → (other : Number) → IsTerm s words lower other → ⊥

abbrev IsFoundFrom : Scope → List Word → ℕ → Found Number → Type 0
IsFoundFrom s words start (Read t) = IsFirstFrom s words start t × (is_over t ≡ false)
IsFoundFrom s words start TooMany = (t : Number) × IsFirstFrom s words start t × (is_over t ≡ true)
IsFoundFrom s words start Unread = (form : ℕ) → start ≤ form → (t : Number) → IsTerm s words form t → ⊥

this_first : (s : Scope) (words : List Word) (form : ℕ) (t : Number) → IsTerm s words form t → IsFirstFrom s words form t
this_first s words form t term = record { form = form; later = omega arith; is_term = term; first = λ lower le lt other is. absurd (omega (arith, le, lt)) }

not_this : (s : Scope) (words : List Word) (start : ℕ) → ((t : Number) → IsTerm s words start t → ⊥) → (form : ℕ) → start ≤ form → (t : Number) → IsTerm s words form t → (start + 1 ≤ form → ⊥) → ⊥
not_this s words start never form le t term later =
    elim (cases_Bool (nat_lt start form)) [
      | inl lt ↦ later (omega (arith, ltb-true _ _ lt))
      | inr ge ↦ let same : form ≡ start = omega (arith, le, ltb-false _ _ ge) in never t (subst (λ (f : ℕ). IsTerm s words f t) same term)
    ]

later_first : (s : Scope) (words : List Word) (start : ℕ) (t : Number) → ((other : Number) → IsTerm s words start other → ⊥) → IsFirstFrom s words (start + 1) t → IsFirstFrom s words start t
later_first s words start t never h = record {
  form = h.form;
  later = omega (arith, h.later);
  is_term = h.is_term;
  first = λ lower le lt other is. not_this s words start never lower le other is (λ more. h.first lower more lt other is);
}

or_found : (s : Scope) (words : List Word) (start : ℕ) (here others : Found Number) → IsFormFound s words start here → IsFoundFrom s words (start + 1) others → IsFoundFrom s words start (or_else here others)
or_found s words start (Read t) others h later = (this_first s words start t h.0, h.1)
or_found s words start TooMany others h later = (h.0, this_first s words start h.0 h.1, h.2)
or_found s words start Unread (Read t) h later = (later_first s words start t h later.0, later.1)
or_found s words start Unread TooMany h later = (later.0, later_first s words start later.0 h later.1, later.2)
or_found s words start Unread Unread h later = λ form le t term. not_this s words start h form le t term (λ more. later form more t term)

or_last : (a b c : Found Number) → or_else (or_else a b) c ≡ or_else a (or_else b c)
or_last (Read t) b c = refl
or_last TooMany b c = refl
or_last Unread b c = refl

turns_found : (s : Scope) (words : List Word) → IsFoundFrom s words 4 (turn_count words)
turns_found s words =
    elim (cases_Bool (is_named (codes "turn count") words)) [
      | inl is ↦ rw is (this_first s words 4 TurnCount (IsTerm.turns is), refl)
      | inr isnt ↦ rw isnt (λ form le t term. let of = of_turns s words form t term le in let is = of.1 in absurd cc)
    ]

all_found : (s : Scope) (words : List Word) → IsFoundFrom s words 0 (from_literal s words)
unfolding from_literal
all_found s words =
    let from_count = or_found s words 3 (a_count s (split_of words)) (turn_count words) (count_found s words (split_of words) refl) (turns_found s words) in
    let from_of = or_found s words 2 (a_property s (split_of words)) (or_else (a_count s (split_of words)) (turn_count words)) (property_found s words (split_of words) refl) from_count in
    let joined = subst (IsFoundFrom s words 2) (sym (or_last (a_property s (split_of words)) (a_count s (split_of words)) (turn_count words))) from_of in
    or_found s words 0 (a_literal (literal_said words)) (from_variable s words) (literal_found s words (literal_said words) refl)
    (or_found s words 1 (a_variable (variable_named s words)) (from_property s words) (variable_found s words (variable_named s words) refl) joined)

first_meant : (s : Scope) (words : List Word) (t : Number) → can_stand s words ≡ true → IsFirstFrom s words 0 t → IsTermMeant s words t
first_meant s words t can h = record { stands = can; form = h.form; is_term = h.is_term; first = λ lower lt other is. h.first lower (omega arith) lt other is }

found_alone : (s : Scope) (words : List Word) (found : Found Number) → can_stand s words ≡ true → IsFoundFrom s words 0 found → IsTermFound s words found
found_alone s words (Read t) can h = (first_meant s words t can h.0, h.1)
found_alone s words TooMany can h = (h.0, first_meant s words h.0 can h.1, h.2)
found_alone s words Unread can h = λ t meant. h meant.form (omega arith) t meant.is_term

pub term_found : (s : Scope) (words : List Word) → IsTermFound s words (term_said s words)
unfolding term_said
term_found s words =
    elim (cases_Bool (can_stand s words)) [
      | inl can ↦ rw can (found_alone s words (from_literal s words) can (all_found s words))
      | inr cannot ↦ rw cannot (λ t meant. let can = meant.stands in absurd cc)
    ]

-- ---- one reading

form_once : (s : Scope) (words : List Word) (f g : ℕ) (t u : Number) → IsTerm s words f t → IsTerm s words g u → g ≡ f → t ≡ u
form_once s words f g t u (IsTerm.literal {n = n} e) other k =
    let of = of_literal s words g u other k in
    let same : Some n ≡ Some of.0 = sym e ∙ of.1 in
    let is = of.2 in cc
form_once s words f g t u (IsTerm.variable {v = v} e) other k =
    let of = of_variable s words g u other k in
    let same : Some v ≡ Some of.0 = sym e ∙ of.1 in
    let is = of.2 in cc
form_once s words f g t u (IsTerm.property {name = name} {object = object} {p = p} {o = o} e named means) other k =
    let of = of_property s words g u other k in
    let parts : of.0 ≡ (name, object) = same_parts words of.0 (name, object) of.3 e in
    let names : Some p ≡ Some of.1 = sym named ∙ ap (λ (q : Parts). property_named s q.0) (sym parts) ∙ of.4 in
    let one : o ≡ of.2 = meant_once s object o of.2 means (subst (λ (q : Parts). Means s q.1 of.2) parts of.5) in
    let is = of.6 in cc
form_once s words f g t u (IsTerm.count {name = name} {those = those} {d = d} e named describes) other k =
    let of = of_count s words g u other k in
    let parts : of.0 ≡ (name, those) = same_parts words of.0 (name, those) of.2 e in
    let one : d ≡ of.1 = described_once s those d of.1 describes (subst (λ (q : Parts). Describes s q.1 of.1) parts of.4) in
    let is = of.5 in cc
form_once s words f g t u (IsTerm.turns e) other k = sym (of_turns s words g u other (omega (arith, k))).2

pub alone_once : (s : Scope) (words : List Word) (t u : Number) → IsTermMeant s words t → IsTermMeant s words u → t ≡ u
alone_once s words t u a b =
    elim (cases_Bool (nat_lt a.form b.form)) [
      | inl lt ↦ absurd (b.first a.form (ltb-true _ _ lt) t a.is_term)
      | inr ge ↦ elim (cases_Bool (nat_lt b.form a.form)) [
        | inl lt ↦ absurd (a.first b.form (ltb-true _ _ lt) u b.is_term)
        | inr le ↦ form_once s words a.form b.form t u a.is_term b.is_term (omega (arith, ltb-false _ _ ge, ltb-false _ _ le))
      ]
    ]
