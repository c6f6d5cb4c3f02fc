-- Objects that name codes in turn.
use Rattle.std.proofs.Common.{◌≡◌, ◌∙◌, ap, refl, ℕ, zero, suc, ◌+◌, ◌<◌, true, false, eqb, List, [], ◌∷◌, length, Some, None, inl, inr, arith}
use Rattle.std.specs.Prelude.{slice_get}
use Rattle.std.proofs.lemmas.Bool.{eqb-true, cases_Bool, and_parts}
use Rattle.story_format.specs.Checks.{codes_named}
use Rattle.story_format.specs.Facts.{description_code_in}
use Rattle.story_format.specs.Soundness.{are_in_turn}
use Rattle.story_format.specs.declared.tables.Entry.{Entry}

-- what is known of the next object: it has no description, or the next code's
pub data IsNextOf (next : ℕ) (e : Entry) (es : List Entry) : Type 0 where
  plain : eqb e.description 65535 ≡ true → e.description ≡ 65535 → codes_named (e ∷ es) ≡ codes_named es → are_in_turn next (codes_named es) ≡ true → IsNextOf next e es
  described : eqb e.description 65535 ≡ false → e.description ≡ next → codes_named (e ∷ es) ≡ next ∷ codes_named es → are_in_turn (next + 1) (codes_named es) ≡ true → IsNextOf next e es

pub next_of : (next : ℕ) (e : Entry) (es : List Entry) → are_in_turn next (codes_named (e ∷ es)) ≡ true → IsNextOf next e es
unfolding are_in_turn
next_of next e es h =
    elim (cases_Bool (eqb e.description 65535)) [
      | inl is ↦ plain is (eqb-true _ _ is) (rw is refl) (rw is at h)
      | inr isnt ↦
          let named : are_in_turn next (e.description ∷ codes_named es) ≡ true = rw isnt at h in
          let t = and_parts (eqb e.description next) (are_in_turn (next + 1) (codes_named es)) named in
          let here : e.description ≡ next = eqb-true _ _ t.0 in
          let all : codes_named (e ∷ es) ≡ e.description ∷ codes_named es = rw isnt refl in
          described isnt here (all ∙ ap (λ n. n ∷ codes_named es) here) t.1
    ]

-- a code that an object names is among them
pub named_within : (next : ℕ) (es : List Entry) (o n : ℕ) → are_in_turn next (codes_named es) ≡ true → description_code_in (slice_get es o) ≡ Some n → n < next + length (codes_named es)
named_within next [] o n h is = absurd cc
named_within next (e ∷ es) zero n h is =
    elim (next_of next e es h) [
      | plain none none_is all later ↦ let wrong : None ≡ Some n = rw none at is in absurd cc
      | described isnt here all later ↦
          let same : Some e.description ≡ Some n = rw isnt at is in
          let one : e.description ≡ n = cc in
          omega (arith, one, here, ap length all)
    ]
named_within next (e ∷ es) (suc o) n h is =
    elim (next_of next e es h) [
      | plain none none_is all later ↦ omega (arith, named_within next es o n later is, ap length all)
      | described isnt here all later ↦ omega (arith, named_within (next + 1) es o n later is, ap length all)
    ]
