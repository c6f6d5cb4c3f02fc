-- The words of a line, taken from its front.
use Rattle.std.proofs.Common.{◌≡◌, ℕ, ◌<◌, Bool, true, false, List, [], ◌∷◌, take, drop, refl, ap, ◌∙◌, arith}
use Rattle.std.specs.Prelude.{filter}
use Rattle.std.specs.List.{slice_split, position_or_len}
use Rattle.std.proofs.lemmas.Grind.{common_steps}
use Rattle.world_meaning.specs.Reading.{is_blank, is_word, words_of}

-- a blank in front parts nothing
pub words_of-blank : (b : ℕ) (bs : List ℕ) → is_blank b ≡ true → words_of (b ∷ bs) ≡ words_of bs
words_of-blank b bs blank = rw blank refl

-- the line after its first part: the parts that follow it
pub record AfterFirst (p : ℕ → Bool) (bs : List ℕ) : Type 0 where
  pub parts : List (List ℕ)
  pub first : slice_split p bs ≡ take (position_or_len p bs) bs ∷ parts
  pub is_long : 0 < position_or_len p bs → is_word (take (position_or_len p bs) bs) ≡ true
  pub others : filter is_word parts ≡ filter is_word (slice_split p (drop (position_or_len p bs) bs))

pub after_stop : (p : ℕ → Bool) (b : ℕ) (bs : List ℕ) → p b ≡ true → AfterFirst p (b ∷ bs)
after_stop p b bs stop = record {
  parts = slice_split p bs;
  first = rw stop refl;
  is_long = rw stop (λ h. absurd (omega (arith, h)));
  others = rw stop (rw stop refl);
}

pub after_more : (p : ℕ → Bool) (b : ℕ) (bs : List ℕ) → p b ≡ false → AfterFirst p bs → AfterFirst p (b ∷ bs)
after_more p b bs more h = record {
  parts = h.parts;
  first = rw (more, h.first) (grind (arith, common_steps));
  is_long = rw more (λ h. grind (arith, common_steps));
  others = rw more (grind (arith, common_steps, h.others));
}

pub after_first_part : (p : ℕ → Bool) (bs : List ℕ) → AfterFirst p bs
after_first_part p [] = record { parts = []; first = refl; is_long = λ h. absurd (omega (arith, h)); others = refl }
after_first_part p (b ∷ bs) =
    let Goal : Bool → Type 0 = λ v. p b ≡ v → AfterFirst p (b ∷ bs)
    in elim (p b) as Goal [ true ↦ after_stop p b bs | false ↦ λ e. after_more p b bs e (after_first_part p bs) ] refl

-- a word in front is the first word
pub words_of-word : (bs : List ℕ) → 0 < position_or_len is_blank bs → words_of bs ≡ take (position_or_len is_blank bs) bs ∷ words_of (drop (position_or_len is_blank bs) bs)
words_of-word bs here =
    let h = after_first_part is_blank bs
    in ap (filter is_word) h.first ∙ rw (h.is_long here) (ap (λ words. take (position_or_len is_blank bs) bs ∷ words) h.others)

pub ruleset word_steps = (words_of-blank, words_of-word)
