-- The sentences that tell what texts mean as they are looked through from the first to the last.
use Rattle.std.specs.Prelude.{ℕ, ◌+◌, Bool, false, not, ◌||◌, nat_lt, List, [], ◌∷◌, fold, length, map, slice_get, slice_set, Option, Some, None}
use Rattle.std.specs.List.{list_any}
use Rattle.world_meaning.specs.Spelling.{lowered}
use Rattle.world_meaning.specs.declared.fault.FaultCode.TheVariants.{TooMany}
use Rattle.world_meaning.specs.declared.tale.Object.{Object}
use Rattle.object_words.specs.Mentions.{mention}
use Rattle.object_words.specs.Words.{words_for}
use Rattle.i7_sentences.specs.Lowest.{lower_of}
use Rattle.i7_grammar.specs.Grammars.{All, GrammarMeant, is_full, is_long, line_unless, lines_in, lines_told, most_lines, refused_or, synonyms_in}
use Rattle.i7_grammar.specs.TextTokens.{words_among}
use Rattle.i7_grammar.specs.Understood.{Understood}
use Rattle.i7_grammar.specs.declared.target.Target.{Target}
use Rattle.i7_grammar.specs.declared.target.Target.TheVariants.{Object as Names}

-- the words of each object by its name, the first having this number
abbrev pub named_from : ℕ → List Object → List (List (List ℕ))
named_from o [] = []
named_from o (object ∷ objects) = words_for o object.name ∷ named_from (o + 1) objects

-- with the words of a text
abbrev pub with_text : List (List ℕ) → List ℕ → List (List ℕ)
with_text words text = fold mention words (map lowered (words_among text))

abbrev pub with_texts : List (List ℕ) → List (List ℕ) → List (List ℕ)
with_texts words texts = fold with_text words texts

abbrev pub set_words : List (List (List ℕ)) → ℕ → List (List ℕ) → Option (List (List ℕ)) → List (List (List ℕ))
set_words all o texts None = all
set_words all o texts (Some words) = slice_set all o (with_texts words texts)

-- the words of all objects, with those that a sentence tells
abbrev pub with_words : List (List (List ℕ)) → Option Target → List (List ℕ) → List (List (List ℕ))
with_words all (Some (Names o)) texts = set_words all o texts (slice_get all o)
with_words all _ texts = all

abbrev pub are_many : Option (List (List ℕ)) → Bool
are_many None = false
are_many (Some words) = nat_lt 32 (length words)

-- the object that a sentence is about has more than 32 of these
abbrev pub has_many : List (List (List ℕ)) → Option Target → Bool
has_many all (Some (Names o)) = are_many (slice_get all o)
has_many all _ = false

-- where so many lines and these words are told up to this sentence
unfoldable pub is_over_by : ℕ → List (List (List ℕ)) → Understood → Bool
is_over_by count all u = list_any is_long u.texts || (list_any is_full (lines_told u) || (has_many all u.target || nat_lt most_lines count))

abbrev pub over_by : ℕ → List (List (List ℕ)) → Understood → Option ℕ
over_by count all u = line_unless (not (is_over_by count all u)) u.line

-- the lowest line at which one is over the limits, where so many lines and these words are told before them
abbrev pub over_from : ℕ → List (List (List ℕ)) → List Understood → Option ℕ
over_from count all [] = None
over_from count all (u ∷ us) =
    lower_of (over_by (count + length (lines_told u)) (with_words all u.target u.texts) u)
    (over_from (count + length (lines_told u)) (with_words all u.target u.texts) us)

-- what sentences tell that are within the limits
abbrev pub told_within : List Object → List Understood → GrammarMeant
told_within objects us = refused_or TooMany (over_from 0 (named_from 0 objects) us) (All (lines_in us) (synonyms_in us))
