-- The words of a head behind those of its book: cut at their first `when`, and in front of that at their first `during`.
use Rattle.std.specs.Prelude.{◌≡◌, ℕ, true, false, List, [], ◌∷◌, ◌++◌, drop, Option, Some, None}
use Rattle.std.specs.List.{before_first, list_any, position_or_len}
use Rattle.i7_lexer.specs.declared.token.Token.{Token}
use Rattle.i7_sentences.specs.Keywords.{is_sign}
use Rattle.i7_sentences.specs.Names.{words_in}
use Rattle.i7_sentences.specs.declared.keyword.Keyword.{Keyword}
use Rattle.i7_sentences.specs.declared.keyword.Keyword.TheVariants as keyword
use Rattle.i7_sentences.specs.declared.rule.RuleSubject.{RuleSubject}
use Rattle.i7_sentences.specs.declared.rule.RuleSubject.TheVariants as subject
use Rattle.i7_sentences.specs.declared.rule_form.HeadParts.{HeadParts}
use Rattle.i7_sentences.specs.declared.rule_form.HeadParts.TheVariants as parts

-- the words in front of the first that is this one, or all
abbrev pub in_front_of : Keyword → List Token → List Token
in_front_of keyword words = before_first (is_sign keyword) words

abbrev pub behind_one : List Token → Option (List Token)
behind_one [] = None
behind_one (word ∷ words) = Some words

-- those behind it, if it is there
abbrev pub behind_first : Keyword → List Token → Option (List Token)
behind_first keyword words = behind_one (drop (position_or_len (is_sign keyword) words) words)

-- the word stands behind those in front, of which none is this one, and in front of those behind
pub record IsFirst (keyword : Keyword) (words front behind : List Token) : Type 0 where
  pub word : Token
  pub parts : words ≡ front ++ word ∷ behind
  pub is_word : is_sign keyword word ≡ true
  pub none_before : list_any (is_sign keyword) front ≡ false

-- words are parted so at the first, or none of them is this one
abbrev pub IsParted : Keyword → List Token → List Token → Option (List Token) → Type 0
IsParted keyword words front None = (front ≡ words) × (list_any (is_sign keyword) words ≡ false)
IsParted keyword words front (Some behind) = IsFirst keyword words front behind

-- the condition stands behind the first `when`
abbrev pub condition_in : HeadParts → List Token → Option (List Token)
condition_in parts.Nothing letter = None
condition_in parts.Condition letter = Some letter
condition_in parts.Pattern letter = behind_first keyword.When letter
condition_in parts.Place letter = behind_first keyword.When letter
condition_in parts.Scene letter = behind_first keyword.When letter

-- the scene behind the first `during` in front of that
abbrev pub scene_in : HeadParts → List Token → Option (List Token)
scene_in parts.Nothing letter = None
scene_in parts.Condition letter = None
scene_in parts.Scene letter = Some (in_front_of keyword.When letter)
scene_in parts.Pattern letter = behind_first keyword.During (in_front_of keyword.When letter)
scene_in parts.Place letter = behind_first keyword.During (in_front_of keyword.When letter)

-- the pattern or the place in front of both
abbrev pub subject_in : List Token → List Token
subject_in letter = in_front_of keyword.During (in_front_of keyword.When letter)

-- as they are written, a scene's free article among them
abbrev pub words_if : Option (List Token) → Option (List (List ℕ))
words_if None = None
words_if (Some words) = Some (words_in words)

abbrev pub subject_of : HeadParts → List Token → RuleSubject
subject_of parts.Nothing letter = subject.Anything
subject_of parts.Scene letter = subject.Anything
subject_of parts.Condition letter = subject.Anything
subject_of parts.Pattern letter = subject.Pattern (words_in (subject_in letter))
subject_of parts.Place letter = subject.Place (words_in (subject_in letter))
