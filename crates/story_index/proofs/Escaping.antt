-- Texts as they are written in a page, byte by byte.
use Rattle.std.proofs.Common.{◌≡◌, ◌≢◌, ◌∙◌, ap, refl, sym, subst, ℕ, false, ◌||◌, List, [], ◌∷◌, ◌++◌, eqb, inl, inr, arith}
use Rattle.std.specs.List.{list_any}
use Rattle.std.proofs.lemmas.Bool.{eqb-true, cases_Bool}
use Rattle.std.proofs.lemmas.List.Folds.{list_any-append}
use Rattle.story_index.specs.Escapes.{IsReadAs, is_of_markup, shown, shown_text}
use Rattle.story_index.specs.Escapes.IsReadAs.{nothing, ampersand, less, greater, quotation, plain}

differs : (n m : ℕ) → eqb n m ≡ false → n ≢ m
differs n m is same = absurd (grind (arith, is, same))

-- each byte that stands for another is itself or none of these
by_byte : (P : ℕ → Type 0) → P 38 → P 60 → P 62 → P 34
    → ((b : ℕ) → eqb b 38 ≡ false → eqb b 60 ≡ false → eqb b 62 ≡ false → eqb b 34 ≡ false → P b) → (b : ℕ) → P b
by_byte P p38 p60 p62 p34 other b =
    elim (cases_Bool (eqb b 38)) [
      | inl is ↦ subst P (sym (eqb-true b 38 is)) p38
      | inr not38 ↦ elim (cases_Bool (eqb b 60)) [
        | inl is ↦ subst P (sym (eqb-true b 60 is)) p60
        | inr not60 ↦ elim (cases_Bool (eqb b 62)) [
          | inl is ↦ subst P (sym (eqb-true b 62 is)) p62
          | inr not62 ↦ elim (cases_Bool (eqb b 34)) [
            | inl is ↦ subst P (sym (eqb-true b 34 is)) p34
            | inr not34 ↦ other b not38 not60 not62 not34
          ]
        ]
      ]
    ]

-- a byte as it is written, in front of more
one : (bytes text : List ℕ) → IsReadAs bytes text → (b : ℕ) → IsReadAs (shown b ++ bytes) (b ∷ text)
one bytes text more = by_byte (λ b. IsReadAs (shown b ++ bytes) (b ∷ text)) (ampersand more) (less more) (greater more) (quotation more)
    (λ b not38 not60 not62 not34. rw (not38, not60, not62, not34) (plain (differs b 38 not38) more))

pub read_back : (text : List ℕ) → IsReadAs (shown_text text) text
read_back [] = nothing
read_back (b ∷ text) = one (shown_text text) text (read_back text) b

no_mark : (b : ℕ) → eqb b 60 ≡ false → eqb b 62 ≡ false → eqb b 34 ≡ false → is_of_markup b || false ≡ false
no_mark b not60 not62 not34 = rw (not60, not62, not34) refl

none_shown : (b : ℕ) → list_any is_of_markup (shown b) ≡ false
none_shown = by_byte (λ b. list_any is_of_markup (shown b) ≡ false) refl refl refl refl
    (λ b not38 not60 not62 not34. rw (not38, not60, not62, not34) (no_mark b not60 not62 not34))

pub no_markup : (text : List ℕ) → list_any is_of_markup (shown_text text) ≡ false
no_markup [] = refl
no_markup (b ∷ text) = list_any-append is_of_markup (shown b) (shown_text text) ∙ ap (λ any. any || list_any is_of_markup (shown_text text)) (none_shown b) ∙ no_markup text
