-- Where a column's last steps stop, as many as an adjective may have words, all in front of them stop too.
use Rattle.std.proofs.Common.{◌≡◌, ◌⊎◌, ℕ, zero, suc, ◌+◌, ◌-◌, ◌<◌, ◌≤◌, true, List, [], ◌∷◌, ◌++◌, length, drop, refl, sym, ap, ◌∙◌, subst, arith, inl, inr}
use Rattle.std.specs.Prelude.{None, nat_lt}
use Rattle.std.proofs.Math.ListN.{get_or-eq_default}
use Rattle.std.proofs.lemmas.List.{length-append, length-drop}
use Rattle.std.proofs.lemmas.Bool.{ltb-true, ltb-false, cases_Bool}
use Rattle.std.proofs.lemmas.Bool.Decides.{nat_tests}
use Rattle.i7_conditions.specs.Adjectives.{kind_named}
use Rattle.i7_conditions.specs.Fronts.{IsToldBy, adjective_at, column_of, follow, goes, looked, step_at, stops_with, window_of}
use Rattle.i7_conditions.specs.Scopes.{Scope}
use Rattle.i7_conditions.specs.Words.{Word}
use Rattle.i7_conditions.specs.declared.front.Step.{Step}
use Rattle.i7_conditions.specs.declared.front.Step.TheVariants.{Ends, Goes, Stops}
use Rattle.i7_conditions.proofs.Cutting.{IsGoes, column_long, columns_agree, follow_same, goes_is, looked_at_end, looked_before, window_long}

-- the last steps of a column stop, so many of them
abbrev pub IsStopped : List Step → ℕ → Type 0
IsStopped column stops = (j : ℕ) → length column ≤ j + stops → looked column j ≡ Stops

-- ---- one step more

at_end_stops : (column : List Step) (stops j : ℕ) → IsStopped column stops → length column ≤ j + stops → looked (column ++ Stops ∷ []) j ≡ Stops
at_end_stops column stops j h le =
    elim (cases_Bool (nat_lt j (length column))) [
      | inl lt ↦ looked_before column (Stops ∷ []) j Stops (ltb-true _ _ lt) ∙ h j le
      | inr ge ↦ elim (cases_Bool (nat_lt (length column) j)) [
        | inl lt ↦ get_or-eq_default (column ++ Stops ∷ []) Stops (omega (arith, ltb-true _ _ lt, length-append column (Stops ∷ [])))
        | inr le ↦ let same : j ≡ length column = omega (arith, ltb-false _ _ ge, ltb-false _ _ le) in ap (looked (column ++ Stops ∷ [])) same ∙ looked_at_end column Stops Stops
      ]
    ]

none_stop : (column : List Step) → IsStopped column 0
none_stop column = λ j le. get_or-eq_default column Stops (omega (arith, le))

stopped_on : (column : List Step) (stops : ℕ) (step : Step) → IsStopped column stops → IsStopped (column ++ step ∷ []) (stops_with stops step)
stopped_on column stops Stops h = λ j le. at_end_stops column stops j h (omega (arith, le, length-append column (Stops ∷ [])))
stopped_on column stops (Ends kind) h = none_stop (column ++ Ends kind ∷ [])
stopped_on column stops (Goes a n) h = none_stop (column ++ Goes a n ∷ [])

pub stopped_as : (column next : List Step) (stops now : ℕ) (step : Step) → IsStopped column stops → next ≡ column ++ step ∷ [] → now ≡ stops_with stops step → IsStopped next now
stopped_as column next stops now step h e f =
    subst (IsStopped next) (sym f) (subst (λ (c : List Step). IsStopped c (stops_with stops step)) (sym e) (stopped_on column stops step h))

few_with : (len stops : ℕ) (step : Step) → stops ≤ len → stops_with stops step ≤ len + 1
few_with len stops Stops le = omega (arith, le)
few_with len stops (Ends kind) le = omega arith
few_with len stops (Goes a n) le = omega arith

pub few_as : (column next : List Step) (stops now : ℕ) (step : Step) → stops ≤ length column → next ≡ column ++ step ∷ [] → now ≡ stops_with stops step → now ≤ length next
few_as column next stops now step le e f = omega (arith, few_with (length column) stops step le, f, ap length e, length-append column (step ∷ []))

-- ---- all in front

-- behind so many words nothing is cut that as many as a name and its `not` stand in front of
abbrev AllStop : List Step → ℕ → Type 0
AllStop column len = (j : ℕ) → len ≤ j + 32 → looked column j ≡ Stops

long_kind : (s : Scope) (word : Word) (words : List Word) → 32 ≤ length words → kind_named s (word ∷ words) ≡ None
unfolding kind_named
long_kind s word words le = let long : nat_lt 32 (length (word ∷ words)) ≡ true = grind (arith, nat_tests) in rw long refl

none_goes : (s : Scope) (words : List Word) (column : List Step) (len : ℕ) (step : Step) → IsGoes s words column 1 len step → ((n : ℕ) → n < 1 + len → adjective_at s words column n ≡ None) → step ≡ Stops
none_goes s words column len Stops h none = refl
none_goes s words column len (Ends kind) h none = absurd h
none_goes s words column len (Goes a n) h none = let never = none n h.1 in let is = h.2 in absurd cc

no_adjective : (s : Scope) (word : Word) (words : List Word) (column : List Step) (n : ℕ) → AllStop column (length words) → 32 ≤ length words → n ≤ 33 → adjective_at s (word ∷ words) column n ≡ None
no_adjective s word words column n h le few = rw (h (length (word ∷ words) - n) (omega arith)) refl

step_stops : (s : Scope) (word : Word) (words : List Word) (column : List Step) → AllStop column (length words) → 32 ≤ length words → step_at s (word ∷ words) column ≡ Stops
step_stops s word words column h le =
    rw (long_kind s word words le)
    (none_goes s (word ∷ words) column (length (window_of (word ∷ words))) (goes s (word ∷ words) column 1 (window_of (word ∷ words))) (goes_is s (word ∷ words) column 1 (window_of (word ∷ words)))
    (λ n lt. no_adjective s word words column n h le (omega (arith, lt, window_long (word ∷ words)))))

further : (s : Scope) (words : List Word) (m stops : ℕ) → IsStopped (column_of s (drop m words)) stops → 32 < stops → stops ≤ length (drop m words) + 1 → (j : ℕ) → length (drop m words) < j → looked (column_of s words) j ≡ Stops
further s words zero stops h many le j lt = get_or-eq_default (column_of s words) Stops (omega (arith, lt, column_long s words))
further s [] (suc m) stops h many le j lt = get_or-eq_default (column_of s []) Stops (omega (arith, lt))
further s (word ∷ words) (suc m) stops h many le j lt =
    let ih = further s words m stops h many le in
    let all : AllStop (column_of s words) (length words) = λ i near.
    elim (cases_Bool (nat_lt (length (drop m words)) i)) [
      | inl past ↦ ih i (ltb-true _ _ past)
      | inr within ↦
          let here : i ≤ length (drop m words) = ltb-false _ _ within in
          columns_agree s words m i here ∙ h i (omega (arith, near, many, here, column_long s (drop m words), length-drop m words))
    ]
    in
    let long : 32 ≤ length words = omega (arith, many, le, length-drop m words) in
    elim (cases_Bool (nat_lt j (length (column_of s words)))) [
      | inl before ↦ looked_before (column_of s words) (step_at s (word ∷ words) (column_of s words) ∷ []) j Stops (ltb-true _ _ before) ∙ ih j lt
      | inr ge ↦
          ap (λ (step : Step). looked (column_of s words ++ step ∷ []) j) (step_stops s word words (column_of s words) all long)
          ∙ at_end_stops (column_of s words) 0 j (none_stop (column_of s words)) (omega (arith, ltb-false _ _ ge))
    ]

-- ---- what is told

-- a column of last words is enough if they are all, or if its last steps stop
pub stopped_told : (s : Scope) (words : List Word) (place stops : ℕ) (column : List Step) → place ≤ length words → column ≡ column_of s (drop place words) → IsStopped column stops → stops ≤ length column
    → (place ≡ 0) ⊎ (32 < stops) → IsToldBy column (column_of s words)
stopped_told s words place stops column le same h few (inl all) = λ left. ap (λ (c : List Step). looked c left) (same ∙ ap (λ (n : ℕ). column_of s (drop n words)) all)
stopped_told s words place stops column le same h few (inr many) = λ left.
    let stopped : IsStopped (column_of s (drop place words)) stops = subst (λ (c : List Step). IsStopped c stops) same h in
    let long : stops ≤ length (drop place words) + 1 = omega (arith, few, ap length same, column_long s (drop place words)) in
    elim (cases_Bool (nat_lt (length (drop place words)) left)) [
      | inl past ↦
          let lt = ltb-true _ _ past in
          get_or-eq_default column Stops (omega (arith, lt, ap length same, column_long s (drop place words))) ∙ sym (further s words place stops stopped many long left lt)
      | inr within ↦ ap (λ (c : List Step). looked c left) same ∙ sym (columns_agree s words place left (ltb-false _ _ within))
    ]

pub front_told : (s : Scope) (words : List Word) (column : List Step) → IsToldBy column (column_of s words) → follow column 0 [] words ≡ follow (column_of s words) 0 [] words
front_told s words column h = follow_same column (column_of s words) words (λ j le. h j) 0 []
