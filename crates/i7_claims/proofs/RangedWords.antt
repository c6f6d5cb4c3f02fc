-- What words say holds no number out of range: it holds none at all.
use Rattle.std.proofs.Common.{ℕ, Bool, true, false, ◌≡◌, ◌&&◌, List, [], ◌∷◌, ◌++◌, length, Option, inl, inr}
use Rattle.std.specs.Prelude.{Some, None}
use Rattle.std.proofs.lemmas.Bool.{cases_Bool}
use Rattle.world_meaning.specs.Declarations.{is_number}
use Rattle.i7_claims.specs.NameScans.{Standings}
use Rattle.i7_claims.specs.Phrases.{denied, denied_if, is_behind_and, is_blank, is_denied, name_in, name_said, phrase_said, plain_said, quality_in, behind_word}
use Rattle.i7_claims.specs.Wording.{Cut, column_of, cut, cut_words, ended, finished, is_empty, kind_at, looked, may_end, taken, uncut, with_byte, with_kind, with_quality}
use Rattle.i7_claims.specs.declared.claim.Quality.{Quality}
use Rattle.i7_claims.specs.declared.claim.Standing.{Standing}
use Rattle.i7_claims.specs.declared.claim.Standing.TheVariants as stands
use Rattle.i7_claims.specs.declared.claim.Value.{Value}
use Rattle.i7_claims.specs.declared.claim.Value.TheVariants.{Truth, Amount, Choice, Never}
use Rattle.i7_claims.specs.declared.wording.What.{What}

abbrev pub IsRangedValue : Value → Type 0
IsRangedValue (Truth truth) = Unit {0}
IsRangedValue (Amount number) = is_number number ≡ true
IsRangedValue (Choice place) = Unit {0}
IsRangedValue Never = Unit {0}

abbrev pub AreRangedQualities : List Quality → Type 0
AreRangedQualities [] = Unit {0}
AreRangedQualities (quality ∷ qualities) = IsRangedValue quality.value × AreRangedQualities qualities

abbrev pub IsRangedWhat : Option What → Type 0
IsRangedWhat None = Unit {0}
IsRangedWhat (Some what) = AreRangedQualities what.qualities

abbrev IsRangedQuality : Option Quality → Type 0
IsRangedQuality None = Unit {0}
IsRangedQuality (Some quality) = IsRangedValue quality.value

quality_ranged : (is_joined : Bool) (standing : Option Standing) (name : List ℕ) → IsRangedQuality (quality_in is_joined standing name)
quality_ranged is_joined None name = tt
quality_ranged true (Some (stands.Value value)) name = tt
quality_ranged false (Some (stands.Value value)) name = tt
quality_ranged is_joined (Some (stands.First second)) name = tt
quality_ranged is_joined (Some (stands.Second first)) name = tt
quality_ranged is_joined (Some _) name = tt

value_denied : (value : Value) → IsRangedValue value → IsRangedValue (denied value)
value_denied (Truth truth) h = tt
value_denied (Amount number) h = h
value_denied (Choice place) h = tt
value_denied Never h = tt

quality_denied : (is_not : Bool) (quality : Option Quality) → IsRangedQuality quality → IsRangedQuality (denied_if is_not quality)
quality_denied is_not None h = tt
quality_denied true (Some quality) h = value_denied quality.value h
quality_denied false (Some quality) h = h

plain_ranged : (known : Standings) (is_joined : Bool) (phrase : List ℕ) → IsRangedQuality (plain_said known is_joined phrase)
plain_ranged known is_joined phrase =
    quality_denied (is_denied phrase) (name_said known is_joined (name_in phrase)) (quality_ranged is_joined (known (name_in phrase)) (name_in phrase))

phrase_ranged : (known : Standings) (is_joined : Bool) (phrase : List ℕ) → IsRangedQuality (phrase_said known is_joined phrase)
unfolding phrase_said
phrase_ranged known false phrase = plain_ranged known false phrase
phrase_ranged known true phrase =
    elim (cases_Bool (is_behind_and phrase)) [
      | inl is ↦ rw is (plain_ranged known true (behind_word phrase))
      | inr isnt ↦ rw isnt tt
    ]

-- ---- of what is cut

one_more : (qualities : List Quality) (quality : Quality) → AreRangedQualities qualities → IsRangedValue quality.value → AreRangedQualities (qualities ++ quality ∷ [])
one_more [] quality h k = (k, tt)
one_more (first ∷ more) quality h k = (h.0, one_more more quality h.1 k)

with_ranged : (cut : Cut) (quality : Option Quality) → AreRangedQualities cut.qualities → IsRangedQuality quality → AreRangedQualities (with_quality cut quality).qualities
with_ranged cut None h k = h
with_ranged cut (Some quality) h k = one_more cut.qualities quality h k

ended_ranged : (known : Standings) (is_joined : Bool) (column : List Bool) (cut : Cut) (after : List ℕ) → AreRangedQualities cut.qualities
    → AreRangedQualities (ended known is_joined column cut after).qualities
ended_ranged known is_joined column cut after h =
    elim (cases_Bool (may_end column cut.front after)) [
      | inl is ↦ rw is (with_ranged cut (phrase_said known is_joined cut.front) h (phrase_ranged known is_joined cut.front))
      | inr isnt ↦ rw isnt h
    ]

taken_ranged : (known : Standings) (is_joined : Bool) (column : List Bool) (cut : Cut) (b : ℕ) (after : List ℕ) → AreRangedQualities cut.qualities
    → AreRangedQualities (taken known is_joined column cut b after).qualities
taken_ranged known is_joined column cut b after h =
    elim (cases_Bool (is_empty cut.front && is_blank b)) [
      | inl is ↦ rw is h
      | inr isnt ↦ rw isnt (ended_ranged known is_joined column (with_byte cut b) after h)
    ]

finished_ranged : (cut : Cut) → AreRangedQualities cut.qualities → IsRangedWhat (finished cut)
finished_ranged cut h =
    elim (cases_Bool (is_empty cut.front)) [
      | inl is ↦ rw is h
      | inr isnt ↦ rw isnt tt
    ]

kind_ranged : (cut : Cut) (kind : Option (List ℕ)) (other : Option What) → AreRangedQualities cut.qualities → IsRangedWhat other → IsRangedWhat (with_kind cut kind other)
kind_ranged cut None other h k = k
kind_ranged cut (Some kind) other h k = h

words_ranged : (known : Standings) (is_joined : Bool) (column : List Bool) (words : List ℕ) (cut : Cut) → AreRangedQualities cut.qualities
    → IsRangedWhat (cut_words known is_joined column cut words)
words_ranged known is_joined column [] cut h = finished_ranged cut h
words_ranged known is_joined column (b ∷ bytes) cut h =
    let next = taken known is_joined column cut b bytes in
    kind_ranged cut (kind_at known is_joined cut (b ∷ bytes)) (cut_words known is_joined column next bytes) h
    (words_ranged known is_joined column bytes next (taken_ranged known is_joined column cut b bytes h))

pub cut_ranged : (known : Standings) (is_joined : Bool) (words : List ℕ) → IsRangedWhat (cut known is_joined words)
unfolding cut
cut_ranged known is_joined words =
    let column = column_of known is_joined words in
    elim (cases_Bool (looked column (length words))) [
      | inl is ↦ rw is (words_ranged known is_joined column words uncut tt)
      | inr isnt ↦ rw isnt tt
    ]
