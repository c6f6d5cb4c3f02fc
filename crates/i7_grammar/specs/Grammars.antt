-- The lines and synonyms that sentences tell (*Writing with Inform*, 17.2, 17.8), or why the source is refused for them.
use Rattle.std.specs.Prelude.{◌≡◌, ℕ, Bool, true, false, not, ◌==◌, ◌||◌, nat_lt, List, [], ◌∷◌, ◌++◌, count_by, length, map, slice_get, Option, Some, None}
use Rattle.std.specs.List.{flat_map, list_all, list_any}
use Rattle.world_meaning.specs.Spelling.{lowered}
use Rattle.world_meaning.specs.declared.fault.Fault.{Fault}
use Rattle.world_meaning.specs.declared.fault.FaultCode.{FaultCode}
use Rattle.world_meaning.specs.declared.fault.FaultCode.TheVariants.{TooMany, UnknownName, WrongKind}
use Rattle.play_meaning.specs.Grammar.{Line, is_slot}
use Rattle.command_grammar.specs.Lines.{line_meant}
use Rattle.command_grammar.specs.Synonyms.{words_in}
use Rattle.command_grammar.specs.declared.synonym.Synonym.{Synonym}
use Rattle.i7_actions.specs.declared.action.NounCount.{NounCount}
use Rattle.i7_actions.specs.declared.action.NounCount.TheVariants.{Zero, One, Two}
use Rattle.i7_sentences.specs.Lowest.{lowest}
use Rattle.i7_sentences.specs.declared.sentence.Sentence.{Sentence}
use Rattle.i7_grammar.specs.Targets.{Known}
use Rattle.i7_grammar.specs.TextTokens.{has_slot, tokens_of, words_among}
use Rattle.i7_grammar.specs.Understood.{Understood, understood_in}
use Rattle.i7_grammar.specs.declared.grammar.GrammarFound.{GrammarFound}
use Rattle.i7_grammar.specs.declared.grammar.GrammarFound.TheVariants as found
use Rattle.i7_grammar.specs.declared.target.Target.{Target}
use Rattle.i7_grammar.specs.declared.target.Target.TheVariants.{Action, Object}

-- ---- what a sentence tells

abbrev pub line_by : ℕ → List ℕ → Line
line_by action text = record { action = action; tokens = tokens_of text }

-- each text is a line that asks for the action
abbrev pub lines_by : Option Target → List (List ℕ) → List Line
lines_by (Some (Action action nouns)) texts = map (line_by action) texts
lines_by _ texts = []

abbrev pub synonym_by : ℕ → List ℕ → Synonym
synonym_by o word = record { object = o; word = lowered word }

-- each word of each text is one that the object goes by
abbrev pub synonyms_by : Option Target → List (List ℕ) → List Synonym
synonyms_by (Some (Object o)) texts = map (synonym_by o) (flat_map words_among texts)
synonyms_by _ texts = []

abbrev pub lines_told : Understood → List Line
lines_told u = lines_by u.target u.texts

abbrev pub synonyms_told : Understood → List Synonym
synonyms_told u = synonyms_by u.target u.texts

abbrev pub lines_in : List Understood → List Line
lines_in us = flat_map lines_told us

abbrev pub synonyms_in : List Understood → List Synonym
synonyms_in us = flat_map synonyms_told us

-- ---- what is wrong with a sentence, and at which line that is told

abbrev pub line_unless : Bool → ℕ → Option ℕ
line_unless true line = None
line_unless false line = Some line

abbrev pub is_known : Option Target → Bool
is_known None = false
is_known (Some target) = true

-- its words mean nothing
abbrev pub unknown_at : Understood → Option ℕ
unknown_at u = line_unless (is_known u.target) u.line

abbrev pub noun_number : NounCount → ℕ
noun_number Zero = 0
noun_number One = 1
noun_number Two = 2

-- a line has a slot for each noun of its action, and words for an object have none
abbrev pub suits : Target → List ℕ → Bool
suits (Action action nouns) text = count_by is_slot (tokens_of text) == noun_number nouns
suits (Object o) text = not (has_slot text)

abbrev pub all_suit : Option Target → List (List ℕ) → Bool
all_suit None texts = true
all_suit (Some target) texts = list_all (suits target) texts

-- a text of it doesn't suit what it means
abbrev pub unsuited_at : Understood → Option ℕ
unsuited_at u = line_unless (all_suit u.target u.texts) u.line

abbrev pub is_long : List ℕ → Bool
is_long text = nat_lt 65535 (length text)

abbrev pub is_full : Line → Bool
is_full line = nat_lt 32 (length line.tokens)

-- the object has more than 32 words with those that these sentences tell
abbrev pub is_wordy : Known → List Understood → Option Target → Bool
is_wordy k us (Some (Object o)) = nat_lt 32 (length (words_in (synonyms_in us) o (slice_get k.objects o)))
is_wordy k us _ = false

-- so many lines may be an author's: with the standard ones they are 65,535
abbrev pub most_lines : ℕ
most_lines = 65502

-- a text is too long, a line has too many tokens, or the object too many words, or with its lines there are too many
unfoldable pub is_over : Known → List Understood → Understood → Bool
is_over k before u =
    list_any is_long u.texts || (list_any is_full (lines_told u) || (is_wordy k (before ++ u ∷ []) u.target || nat_lt most_lines (length (lines_in (before ++ u ∷ [])))))

-- a sentence, and those before it
pub record Placed : Type 0 where
  pub before : List Understood
  pub here : Understood

-- each of these with all that are before it
abbrev pub placed : List Understood → List Understood → List Placed
placed before [] = []
placed before (u ∷ us) = record { before = before; here = u } ∷ placed (before ++ u ∷ []) us

abbrev pub over_at : Known → Placed → Option ℕ
over_at k p = line_unless (not (is_over k p.before p.here)) p.here.line

-- ---- what all of them tell

pub data GrammarMeant : Type 0 where
  All : List Line → List Synonym → GrammarMeant
  Refused : Fault → GrammarMeant

-- refused with the code at the line, if there is one
abbrev pub refused_or : FaultCode → Option ℕ → GrammarMeant → GrammarMeant
refused_or code None next = next
refused_or code (Some line) next = Refused (record { code = code; line = line })

-- each code is looked for in all of them before the next
unfoldable pub grammar_by : Known → List Understood → GrammarMeant
grammar_by k us =
    refused_or UnknownName (lowest unknown_at us)
    (refused_or WrongKind (lowest unsuited_at us) (refused_or TooMany (lowest (over_at k) (placed [] us)) (All (lines_in us) (synonyms_in us))))

-- ---- as it is kept

abbrev pub grammar_meant : GrammarFound → GrammarMeant
grammar_meant (found.Says grammar) = All (map line_meant grammar.lines.items) grammar.synonyms.items
grammar_meant (found.Refused fault) = Refused fault

-- what is found is what the sentences tell
abbrev pub IsGrammarFound : Known → List Sentence → GrammarFound → Type 0
IsGrammarFound k sentences found = grammar_meant found ≡ grammar_by k (understood_in k sentences)
