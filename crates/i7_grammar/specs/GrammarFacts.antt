-- What holds of the lines and synonyms that sentences tell, where nothing refuses the source for them.
use Rattle.std.specs.Prelude.{◌≡◌, ◌≤◌, ℕ, ◌+◌, Bool, true, false, ◌&&◌, ◌==◌, nat_le, nat_lt, List, [], ◌∷◌, count_by, length, slice_get, Option, Some, None, ⊤}
use Rattle.std.specs.List.{list_all}
pub use Rattle.world_meaning.specs.Spelling.{is_small_byte}
use Rattle.world_meaning.specs.declared.tale.Object.{Object}
use Rattle.play_meaning.specs.Grammar.{Line, is_slot}
use Rattle.command_grammar.specs.Synonyms.{words_said}
use Rattle.command_grammar.specs.declared.synonym.Synonym.{Synonym}
use Rattle.i7_actions.specs.declared.action.Action.{Action}
use Rattle.i7_grammar.specs.Grammars.{All, GrammarMeant, Refused, noun_number}
use Rattle.i7_grammar.specs.Targets.{Known}

abbrev pub has_nouns : ℕ → Option Action → Bool
has_nouns slots None = false
has_nouns slots (Some action) = slots == noun_number action.nouns

-- a line of 32 tokens at most for one of these actions, with a slot for each of its nouns
abbrev pub is_line_for : List Action → Line → Bool
is_line_for actions line = has_nouns (count_by is_slot line.tokens) (slice_get actions line.action) && nat_le (length line.tokens) 32

-- a word in small letters that one of so many objects goes by
abbrev pub is_synonym_of : ℕ → Synonym → Bool
is_synonym_of count synonym = nat_lt synonym.object count && (list_all is_small_byte synonym.word && nat_lt 0 (length synonym.word))

-- the words of each object, the first having this number
abbrev pub worded : List Synonym → ℕ → List Object → List (List (List ℕ))
worded synonyms o [] = []
worded synonyms o (object ∷ objects) = words_said synonyms o object.name ∷ worded synonyms (o + 1) objects

-- no object has more than 32 words
abbrev pub have_few_words : List Synonym → List Object → Bool
have_few_words synonyms objects = list_all (λ words. nat_le (length words) 32) (worded synonyms 0 objects)

pub record AreSound (k : Known) (lines : List Line) (synonyms : List Synonym) : Type 0 where
  pub few_lines : length lines ≤ 65502
  pub lines_suit : list_all (is_line_for k.actions) lines ≡ true
  pub small_words : list_all (is_synonym_of (length k.objects)) synonyms ≡ true
  -- where each has few by its name
  pub few_words : have_few_words [] k.objects ≡ true → have_few_words synonyms k.objects ≡ true

abbrev pub IsSound : Known → GrammarMeant → Type 0
IsSound k (All lines synonyms) = AreSound k lines synonyms
IsSound k (Refused fault) = ⊤
