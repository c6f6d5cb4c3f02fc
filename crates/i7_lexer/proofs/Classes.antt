-- What a byte's class says of the byte.
use Rattle.std.proofs.Common.{◌≡◌, ℕ, Bool, true, false, cond, ◌||◌, eqb, refl, sym, ap, ◌∙◌}
use Rattle.std.proofs.lemmas.Bool.{eqb-true}
use Rattle.i7_lexer.specs.declared.byte_class.ByteClass.{ByteClass}
use Rattle.i7_lexer.specs.declared.byte_class.ByteClass.TheVariants.{Letter, Blank, Quote, Bracket, Other}
use Rattle.i7_lexer.specs.Bytes.{is_letter, is_blank, class_of}

abbrev picked : Bool → Bool → Bool → Bool → ByteClass
picked v w x y = cond v Letter (cond w Blank (cond x Quote (cond y Bracket Other)))

class_is_picked : (b : ℕ) → class_of b ≡ picked (is_letter b) (is_blank b) (eqb b 34) (eqb b 91)
unfolding class_of
class_is_picked b = refl

letter_picked : (v w x y : Bool) → picked v w x y ≡ Letter → v ≡ true
letter_picked true w x y e = refl
letter_picked false true x y e = cc
letter_picked false false true y e = cc
letter_picked false false false true e = cc
letter_picked false false false false e = cc

blank_picked : (v w x y : Bool) → picked v w x y ≡ Blank → w ≡ true
blank_picked v true x y e = refl
blank_picked true false x y e = cc
blank_picked false false true y e = cc
blank_picked false false false true e = cc
blank_picked false false false false e = cc

quote_picked : (v w x y : Bool) → picked v w x y ≡ Quote → x ≡ true
quote_picked v w true y e = refl
quote_picked true w false y e = cc
quote_picked false true false y e = cc
quote_picked false false false true e = cc
quote_picked false false false false e = cc

bracket_picked : (v w x y : Bool) → picked v w x y ≡ Bracket → y ≡ true
bracket_picked v w x true e = refl
bracket_picked true w x false e = cc
bracket_picked false true x false e = cc
bracket_picked false false true false e = cc
bracket_picked false false false false e = cc

pub letter_from_class : (b : ℕ) → class_of b ≡ Letter → is_letter b ≡ true
letter_from_class b e = letter_picked (is_letter b) (is_blank b) (eqb b 34) (eqb b 91) (sym (class_is_picked b) ∙ e)

pub blank_from_class : (b : ℕ) → class_of b ≡ Blank → is_blank b ≡ true
blank_from_class b e = blank_picked (is_letter b) (is_blank b) (eqb b 34) (eqb b 91) (sym (class_is_picked b) ∙ e)

pub quote_from_class : (b : ℕ) → class_of b ≡ Quote → b ≡ 34
quote_from_class b e = eqb-true b 34 (quote_picked (is_letter b) (is_blank b) (eqb b 34) (eqb b 91) (sym (class_is_picked b) ∙ e))

pub bracket_from_class : (b : ℕ) → class_of b ≡ Bracket → b ≡ 91
bracket_from_class b e = eqb-true b 91 (bracket_picked (is_letter b) (is_blank b) (eqb b 34) (eqb b 91) (sym (class_is_picked b) ∙ e))

pub class-letter : (b : ℕ) → is_letter b ≡ true → class_of b ≡ Letter
class-letter b e = class_is_picked b ∙ rw e refl

pub class-blank : (b : ℕ) → is_blank b ≡ true → class_of b ≡ Blank
unfolding is_blank is_letter class_of
class-blank b e = blank_by (eqb b 32) (eqb b 9) (eqb b 10) refl refl refl e
  where
    blank_by : (u v w : Bool) → eqb b 32 ≡ u → eqb b 9 ≡ v → eqb b 10 ≡ w → u || v || w ≡ true → class_of b ≡ Blank
    blank_by true v w p q r h = ap class_of (eqb-true b 32 p)
    blank_by false true w p q r h = ap class_of (eqb-true b 9 q)
    blank_by false false true p q r h = ap class_of (eqb-true b 10 r)
    blank_by false false false p q r h = cc

pub class_34 : class_of 34 ≡ Quote
unfolding is_blank is_letter class_of
class_34 = refl

pub class_91 : class_of 91 ≡ Bracket
unfolding is_blank is_letter class_of
class_91 = refl
