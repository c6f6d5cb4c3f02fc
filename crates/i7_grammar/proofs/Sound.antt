-- What sentences tell that no refusal stands for is within the limits and suits the actions and objects.
use Rattle.std.proofs.Common.{◌≡◌, ℕ, zero, suc, ◌+◌, ◌≤◌, Bool, true, false, not, ◌&&◌, List, [], ◌∷◌, ◌++◌, length, map, refl, ap, ◌∙◌, sym, subst, arith, append-nil, append_assoc}
use Rattle.std.specs.Prelude.{◌==◌, ◌||◌, nat_le, nat_lt, count_by, slice_get, Option, Some, None, if◌then◌else◌}
use Rattle.std.specs.Char.{to_ascii_lowercase}
use Rattle.std.specs.List.{flat_map, list_all, list_any, slice_split}
use Rattle.std.specs.Option.{option_or}
use Rattle.std.proofs.lemmas.Bool.{and_from, and_parts, eq-eqb, le-leb, lt-ltb, ltb-false}
use Rattle.std.proofs.lemmas.List.Folds.{list_all-append}
use Rattle.std.proofs.lemmas.Str.Ascii.{lowercase-lowercase}
use Rattle.object_words.proofs.StringLemmas.{length_mapped}
use Rattle.world_meaning.specs.Spelling.{lowered}
use Rattle.world_meaning.specs.declared.fault.FaultCode.TheVariants.{TooMany, UnknownName, WrongKind}
use Rattle.play_meaning.specs.Grammar.{Line, is_slot}
use Rattle.i7_actions.specs.Parts.{is_name}
use Rattle.i7_actions.specs.declared.action.Action.{Action}
use Rattle.i7_actions.specs.declared.action.NounCount.{NounCount}
use Rattle.i7_conditions.specs.Words.{Word, key_of, without_article}
use Rattle.i7_sentences.specs.Lowest.{lower_of, lowest}
use Rattle.i7_sentences.specs.declared.sentence.Assertion.{Assertion}
use Rattle.i7_sentences.specs.declared.sentence.Assertion.TheVariants as asserts
use Rattle.i7_sentences.specs.declared.sentence.Sentence.{Sentence}
use Rattle.i7_grammar.specs.GrammarFacts.{AreSound, IsSound, has_nouns, is_line_for, is_small_byte, is_synonym_of}
use Rattle.i7_grammar.specs.GrammarScans.{are_many, has_many, set_words, with_texts, with_words}
use Rattle.i7_grammar.specs.Grammars.{All, IsGrammarFound, all_suit, grammar_by, grammar_meant, refused_or, unknown_at, is_full, is_long, is_over, is_wordy, line_by, line_unless, lines_by, lines_in, lines_told, most_lines, noun_number, over_at, placed, suits, synonym_by, synonyms_by, synonyms_in, synonyms_told, unsuited_at}
use Rattle.i7_grammar.specs.Targets.{Known, action_from, object_by, object_of, target_of}
use Rattle.i7_grammar.specs.TextTokens.{is_blank, tokens_of, word_run, words_among}
use Rattle.i7_grammar.specs.Understood.{Understood, understood_as, understood_in}
use Rattle.i7_grammar.specs.declared.grammar.GrammarFound.{GrammarFound}
use Rattle.i7_grammar.specs.declared.target.Target.{Target}
use Rattle.i7_grammar.specs.declared.target.Target.TheVariants.{Action as Acts, Object as Names}
use Rattle.i7_grammar.proofs.Reaching.{lines_more, many_wordy, set_behind, words_before, words_more}

-- ---- nothing is found

no_lower : (a b : Option ℕ) → lower_of a b ≡ None → (a ≡ None) × (b ≡ None)
no_lower None b none = (refl, none)
no_lower (Some x) None none = cc
no_lower (Some x) (Some y) none = by_less (nat_lt y x) none
  where
    by_less : (is : Bool) → (if is then Some y else Some x) ≡ None → (Some x ≡ None) × (Some y ≡ None)
    by_less true none' = cc
    by_less false none' = cc

no_line : (is : Bool) (line : ℕ) → line_unless is line ≡ None → is ≡ true
no_line true line none = refl
no_line false line none = cc

not_true : (is : Bool) → not is ≡ true → is ≡ false
not_true true e = cc
not_true false e = refl

no_either : (a b : Bool) → (a || b) ≡ false → (a ≡ false) × (b ≡ false)
no_either true b e = cc
no_either false b e = (refl, e)

no_more : (m n : ℕ) → nat_lt m n ≡ false → n ≤ m
no_more m n isnt = let e = ltb-false m n isnt in omega (arith, e)

-- ---- what holds of sentences so far goes on to hold with one that is within the limits

abbrev Step : Known → (List Understood → Type 0) → Type 0
Step k Holds = (before : List Understood) (u : Understood) → is_over k before u ≡ false → Holds before → Holds (before ++ u ∷ [])

goes_on : (k : Known) (Holds : List Understood → Type 0) → Step k Holds → (before us : List Understood) → lowest (over_at k) (placed before us) ≡ None → Holds before → Holds (before ++ us)
goes_on k Holds step before [] none holds = subst Holds (sym (append-nil before)) holds
goes_on k Holds step before (u ∷ us) none holds =
    let parts = no_lower (line_unless (not (is_over k before u)) u.line) (lowest (over_at k) (placed (before ++ u ∷ []) us)) none in
    let within = not_true (is_over k before u) (no_line (not (is_over k before u)) u.line parts.0) in
    subst Holds (append_assoc before (u ∷ []) us) (goes_on k Holds step (before ++ u ∷ []) us parts.1 (step before u within holds))

-- ---- few lines

abbrev FewLines : List Understood → Type 0
FewLines us = length (lines_in us) ≤ 65502

few_lines_step : (k : Known) → Step k FewLines
unfolding is_over
few_lines_step k before u within holds =
    let behind = no_either (list_any is_long u.texts) (list_any is_full (lines_told u) || (is_wordy k (before ++ u ∷ []) u.target || nat_lt most_lines (length (lines_in (before ++ u ∷ []))))) within in
    let later = no_either (list_any is_full (lines_told u)) (is_wordy k (before ++ u ∷ []) u.target || nat_lt most_lines (length (lines_in (before ++ u ∷ [])))) behind.1 in
    let last = no_either (is_wordy k (before ++ u ∷ []) u.target) (nat_lt most_lines (length (lines_in (before ++ u ∷ [])))) later.1 in
    no_more most_lines (length (lines_in (before ++ u ∷ []))) last.1

-- ---- lines of few tokens

abbrev is_short_line : Line → Bool
is_short_line line = nat_le (length line.tokens) 32

short_if : (line : Line) → is_full line ≡ false → is_short_line line ≡ true
short_if line isnt = le-leb _ _ (no_more 32 (length line.tokens) isnt)

all_short : (lines : List Line) → list_any is_full lines ≡ false → list_all is_short_line lines ≡ true
all_short [] isnt = refl
all_short (line ∷ lines) isnt =
    let parts = no_either (is_full line) (list_any is_full lines) isnt in
    and_from (is_short_line line) (list_all is_short_line lines) (short_if line parts.0) (all_short lines parts.1)

abbrev ShortLines : List Understood → Type 0
ShortLines us = list_all is_short_line (lines_in us) ≡ true

short_lines_step : (k : Known) → Step k ShortLines
unfolding is_over
short_lines_step k before u within holds =
    let behind = no_either (list_any is_long u.texts) (list_any is_full (lines_told u) || (is_wordy k (before ++ u ∷ []) u.target || nat_lt most_lines (length (lines_in (before ++ u ∷ []))))) within in
    let later = no_either (list_any is_full (lines_told u)) (is_wordy k (before ++ u ∷ []) u.target || nat_lt most_lines (length (lines_in (before ++ u ∷ [])))) behind.1 in
    ap (list_all is_short_line) (lines_more before u) ∙ list_all-append is_short_line (lines_in before) (lines_told u)
    ∙ and_from (list_all is_short_line (lines_in before)) (list_all is_short_line (lines_told u)) holds (all_short (lines_told u) later.0)

-- ---- few words

abbrev is_few : List (List ℕ) → Bool
is_few words = nat_le (length words) 32

few_set : (all : List (List (List ℕ))) (o : ℕ) (texts : List (List ℕ)) → list_all is_few all ≡ true
    → are_many (slice_get (set_words all o texts (slice_get all o)) o) ≡ false → list_all is_few (set_words all o texts (slice_get all o)) ≡ true
few_set [] o texts few isnt = few
few_set (words ∷ all) zero texts few isnt =
    let parts = and_parts (is_few words) (list_all is_few all) few in
    and_from (is_few (with_texts words texts)) (list_all is_few all) (le-leb _ _ (no_more 32 (length (with_texts words texts)) isnt)) parts.1
few_set (words ∷ all) (suc i) texts few isnt =
    let parts = and_parts (is_few words) (list_all is_few all) few in
    let same = set_behind words all i texts in
    let rest = few_set all i texts parts.1 (ap (λ l. are_many (slice_get l (suc i))) (sym same) ∙ isnt) in
    ap (list_all is_few) same ∙ and_from (is_few words) (list_all is_few (set_words all i texts (slice_get all i))) parts.0 rest

few_by : (all : List (List (List ℕ))) (target : Option Target) (texts : List (List ℕ)) → list_all is_few all ≡ true → has_many (with_words all target texts) target ≡ false → list_all is_few (with_words all target texts) ≡ true
few_by all None texts few isnt = few
few_by all (Some (Acts action nouns)) texts few isnt = few
few_by all (Some (Names o)) texts few isnt = few_set all o texts few isnt

abbrev FewWords : Known → List Understood → Type 0
FewWords k us = list_all is_few (words_before k us) ≡ true

few_words_step : (k : Known) → Step k (FewWords k)
unfolding is_over
few_words_step k before u within holds =
    let behind = no_either (list_any is_long u.texts) (list_any is_full (lines_told u) || (is_wordy k (before ++ u ∷ []) u.target || nat_lt most_lines (length (lines_in (before ++ u ∷ []))))) within in
    let later = no_either (list_any is_full (lines_told u)) (is_wordy k (before ++ u ∷ []) u.target || nat_lt most_lines (length (lines_in (before ++ u ∷ [])))) behind.1 in
    let last = no_either (is_wordy k (before ++ u ∷ []) u.target) (nat_lt most_lines (length (lines_in (before ++ u ∷ [])))) later.1 in
    let more = words_more k before u in
    let few : has_many (with_words (words_before k before) u.target u.texts) u.target ≡ false =
    ap (λ all. has_many all u.target) (sym more) ∙ many_wordy k (before ++ u ∷ []) u.target ∙ last.0 in
    ap (list_all is_few) more ∙ few_by (words_before k before) u.target u.texts holds few

-- ---- what words mean is there

abbrev IsAction : ℕ → NounCount → Option Action → Type 0
IsAction n nouns None = ⊥
IsAction n nouns (Some action) = action.nouns ≡ nouns

abbrev IsThere : Known → Option Target → Type 0
IsThere k None = Unit {0}
IsThere k (Some (Acts action nouns)) = IsAction action nouns (slice_get k.actions action)
IsThere k (Some (Names o)) = nat_lt o (length k.objects) ≡ true

-- among actions that are numbered from n
abbrev IsNumbered : List Action → ℕ → Option Target → Type 0
IsNumbered actions n None = Unit {0}
IsNumbered actions n (Some (Acts action nouns)) = (i : ℕ) × (action ≡ n + i) × IsAction action nouns (slice_get actions i)
IsNumbered actions n (Some (Names o)) = ⊥

numbered_later : (action : Action) (actions : List Action) (n : ℕ) (target : Option Target) → IsNumbered actions (n + 1) target → IsNumbered (action ∷ actions) n target
numbered_later action actions n None is = tt
numbered_later action actions n (Some (Acts number nouns)) is = let same = is.1 in (suc is.0, omega (arith, same), is.2)
numbered_later action actions n (Some (Names o)) is = absurd is

numbered : (n : ℕ) (actions : List Action) (words : List Word) → IsNumbered actions n (action_from n actions words)
numbered n [] words = tt
numbered n (action ∷ actions) words =
    let Goal : Bool → Type 0 = λ is. IsNumbered (action ∷ actions) n (if is then Some (Acts n action.nouns) else action_from (n + 1) actions words)
    in elim (is_name action.name words) as Goal [
      | true ↦ (0, omega arith, refl)
      | false ↦ numbered_later action actions n (action_from (n + 1) actions words) (numbered (n + 1) actions words)
    ]

object_there : (k : Known) (object : Option ℕ) → IsThere k (object_of (length k.objects) object)
object_there k None = tt
object_there k (Some o) =
    let Goal : Bool → Type 0 = λ is. nat_lt o (length k.objects) ≡ is → IsThere k (if is then Some (Names o) else None)
    in (elim (nat_lt o (length k.objects)) as Goal [
      | true ↦ λ is. is
      | false ↦ λ is. tt
    ]) refl

there_or : (k : Known) (action object : Option Target) → IsNumbered k.actions 0 action → IsThere k object → IsThere k (option_or action object)
there_or k None object is there = there
there_or k (Some (Acts number nouns)) object is there =
    let same = is.1 in
    let place : is.0 ≡ number = omega (arith, same) in
    subst (λ i. IsAction number nouns (slice_get k.actions i)) place is.2
there_or k (Some (Names o)) object is there = absurd is

there : (k : Known) (words : List Word) → IsThere k (target_of k words)
unfolding target_of
there k words = there_or k (action_from 0 k.actions words) (object_of (length k.objects) (object_by k.meanings (key_of (without_article words)))) (numbered 0 k.actions words) (object_there k (object_by k.meanings (key_of (without_article words))))

-- ---- what one sentence tells

abbrev has_slots : Known → Line → Bool
has_slots k line = has_nouns (count_by is_slot line.tokens) (slice_get k.actions line.action)

nouns_there : (n : ℕ) (nouns : NounCount) (found : Option Action) (slots : ℕ) → IsAction n nouns found → (slots == noun_number nouns) ≡ true → has_nouns slots found ≡ true
nouns_there n nouns None slots is same = absurd is
nouns_there n nouns (Some action) slots is same = ap (λ count. slots == noun_number count) is ∙ same

each_has_slots : (k : Known) (action : ℕ) (nouns : NounCount) (texts : List (List ℕ)) → IsAction action nouns (slice_get k.actions action) → list_all (suits (Acts action nouns)) texts ≡ true → list_all (has_slots k) (map (line_by action) texts) ≡ true
each_has_slots k action nouns [] is suit = refl
each_has_slots k action nouns (text ∷ texts) is suit =
    let parts = and_parts (suits (Acts action nouns) text) (list_all (suits (Acts action nouns)) texts) suit in
    and_from (has_slots k (line_by action text)) (list_all (has_slots k) (map (line_by action) texts))
    (nouns_there action nouns (slice_get k.actions action) (count_by is_slot (tokens_of text)) is parts.0) (each_has_slots k action nouns texts is parts.1)

lines_there : (k : Known) (target : Option Target) (texts : List (List ℕ)) → IsThere k target → all_suit target texts ≡ true → list_all (has_slots k) (lines_by target texts) ≡ true
lines_there k None texts is suit = refl
lines_there k (Some (Acts action nouns)) texts is suit = each_has_slots k action nouns texts is suit
lines_there k (Some (Names o)) texts is suit = refl

some_bytes : (parts : List (List ℕ)) → list_all (λ word. nat_lt 0 (length word)) (flat_map word_run parts) ≡ true
some_bytes [] = refl
some_bytes ([] ∷ parts) = some_bytes parts
some_bytes ((b ∷ bytes) ∷ parts) = and_from (nat_lt 0 (length (b ∷ bytes))) (list_all (λ word. nat_lt 0 (length word)) (flat_map word_run parts)) (lt-ltb _ _ (omega arith)) (some_bytes parts)

lowered_small : (word : List ℕ) → list_all is_small_byte (lowered word) ≡ true
lowered_small [] = refl
lowered_small (b ∷ word) = and_from (is_small_byte (to_ascii_lowercase b)) (list_all is_small_byte (lowered word)) (eq-eqb _ _ (lowercase-lowercase b)) (lowered_small word)

synonym_there : (k : Known) (o : ℕ) (word : List ℕ) → nat_lt o (length k.objects) ≡ true → nat_lt 0 (length word) ≡ true → is_synonym_of (length k.objects) (synonym_by o word) ≡ true
synonym_there k o word is some =
    and_from (nat_lt o (length k.objects)) (list_all is_small_byte (lowered word) && nat_lt 0 (length (lowered word))) is
    (and_from (list_all is_small_byte (lowered word)) (nat_lt 0 (length (lowered word))) (lowered_small word) (ap (nat_lt 0) (length_mapped to_ascii_lowercase word) ∙ some))

each_synonym : (k : Known) (o : ℕ) (words : List (List ℕ)) → nat_lt o (length k.objects) ≡ true → list_all (λ word. nat_lt 0 (length word)) words ≡ true → list_all (is_synonym_of (length k.objects)) (map (synonym_by o) words) ≡ true
each_synonym k o [] is some = refl
each_synonym k o (word ∷ words) is some =
    let parts = and_parts (nat_lt 0 (length word)) (list_all (λ other. nat_lt 0 (length other)) words) some in
    and_from (is_synonym_of (length k.objects) (synonym_by o word)) (list_all (is_synonym_of (length k.objects)) (map (synonym_by o) words)) (synonym_there k o word is parts.0) (each_synonym k o words is parts.1)

all_with_bytes : (texts : List (List ℕ)) → list_all (λ word. nat_lt 0 (length word)) (flat_map words_among texts) ≡ true
all_with_bytes [] = refl
all_with_bytes (text ∷ texts) =
    list_all-append (λ word. nat_lt 0 (length word)) (words_among text) (flat_map words_among texts)
    ∙ and_from (list_all (λ word. nat_lt 0 (length word)) (words_among text)) (list_all (λ word. nat_lt 0 (length word)) (flat_map words_among texts)) (some_bytes (slice_split is_blank text)) (all_with_bytes texts)

synonyms_there : (k : Known) (target : Option Target) (texts : List (List ℕ)) → IsThere k target → list_all (is_synonym_of (length k.objects)) (synonyms_by target texts) ≡ true
synonyms_there k None texts is = refl
synonyms_there k (Some (Acts action nouns)) texts is = refl
synonyms_there k (Some (Names o)) texts is = each_synonym k o (flat_map words_among texts) is (all_with_bytes texts)

-- ---- what all tell

abbrev AllThere : Known → List Understood → Type 0
AllThere k [] = Unit {0}
AllThere k (u ∷ us) = IsThere k u.target × AllThere k us

there_before : (k : Known) (line : ℕ) (said : Assertion) (us : List Understood) → AllThere k us → AllThere k (understood_as k line said ++ us)
there_before k line (asserts.Understand said) us all = (there k said.meaning, all)
there_before k line _ us all = all

all_there : (k : Known) (sentences : List Sentence) → AllThere k (understood_in k sentences)
all_there k [] = tt
all_there k (sentence ∷ sentences) = there_before k sentence.line sentence.said (understood_in k sentences) (all_there k sentences)

all_lines : (k : Known) (us : List Understood) → AllThere k us → lowest unsuited_at us ≡ None → list_all (has_slots k) (lines_in us) ≡ true
all_lines k [] all none = refl
all_lines k (u ∷ us) all none =
    let parts = no_lower (unsuited_at u) (lowest unsuited_at us) none in
    list_all-append (has_slots k) (lines_told u) (lines_in us)
    ∙ and_from (list_all (has_slots k) (lines_told u)) (list_all (has_slots k) (lines_in us)) (lines_there k u.target u.texts all.0 (no_line (all_suit u.target u.texts) u.line parts.0)) (all_lines k us all.1 parts.1)

all_synonyms : (k : Known) (us : List Understood) → AllThere k us → list_all (is_synonym_of (length k.objects)) (synonyms_in us) ≡ true
all_synonyms k [] all = refl
all_synonyms k (u ∷ us) all =
    list_all-append (is_synonym_of (length k.objects)) (synonyms_told u) (synonyms_in us)
    ∙ and_from (list_all (is_synonym_of (length k.objects)) (synonyms_told u)) (list_all (is_synonym_of (length k.objects)) (synonyms_in us)) (synonyms_there k u.target u.texts all.0) (all_synonyms k us all.1)

both_of : (k : Known) (lines : List Line) → list_all (has_slots k) lines ≡ true → list_all is_short_line lines ≡ true → list_all (is_line_for k.actions) lines ≡ true
both_of k [] slots short = refl
both_of k (line ∷ lines) slots short =
    let one = and_parts (has_slots k line) (list_all (has_slots k) lines) slots in
    let two = and_parts (is_short_line line) (list_all is_short_line lines) short in
    and_from (is_line_for k.actions line) (list_all (is_line_for k.actions) lines) (and_from (has_slots k line) (is_short_line line) one.0 two.0) (both_of k lines one.1 two.1)

sound_told : (k : Known) (us : List Understood) → AllThere k us → lowest unsuited_at us ≡ None → lowest (over_at k) (placed [] us) ≡ None → AreSound k (lines_in us) (synonyms_in us)
sound_told k us all suit within = record {
  few_lines = goes_on k FewLines (few_lines_step k) [] us within (omega arith);
  lines_suit = both_of k (lines_in us) (all_lines k us all suit) (goes_on k ShortLines (short_lines_step k) [] us within refl);
  small_words = all_synonyms k us all;
  few_words = goes_on k (FewWords k) (few_words_step k) [] us within;
}

pub sound : (k : Known) (us : List Understood) → AllThere k us → IsSound k (grammar_by k us)
unfolding grammar_by
sound k us all = by_unknown (lowest unknown_at us)
  where
    by_over : (over : Option ℕ) → lowest unsuited_at us ≡ None → lowest (over_at k) (placed [] us) ≡ over → IsSound k (refused_or TooMany over (All (lines_in us) (synonyms_in us)))
    by_over None suit is = sound_told k us all suit is
    by_over (Some line) suit is = tt

    by_unsuited : (unsuited : Option ℕ) → lowest unsuited_at us ≡ unsuited → IsSound k (refused_or WrongKind unsuited (refused_or TooMany (lowest (over_at k) (placed [] us)) (All (lines_in us) (synonyms_in us))))
    by_unsuited None is = by_over (lowest (over_at k) (placed [] us)) is refl
    by_unsuited (Some line) is = tt

    by_unknown : (unknown : Option ℕ) → IsSound k (refused_or UnknownName unknown (refused_or WrongKind (lowest unsuited_at us) (refused_or TooMany (lowest (over_at k) (placed [] us)) (All (lines_in us) (synonyms_in us)))))
    by_unknown None = by_unsuited (lowest unsuited_at us) refl
    by_unknown (Some line) = tt

pub sound_found : (k : Known) (sentences : List Sentence) (found : GrammarFound) → IsGrammarFound k sentences found → IsSound k (grammar_meant found)
sound_found k sentences found is = subst (IsSound k) (sym is) (sound k (understood_in k sentences) (all_there k sentences))
