-- The lines of the grammar and the synonyms of sentences that mean a tale suit its actions and objects, and are few.
use Rattle.std.proofs.Common.{◌≡◌, ◌≤◌, ◌∙◌, ap, refl, sym, subst, ℕ, ◌+◌, Bool, true, ◌&&◌, leb, eqb, ltb, List, [], ◌∷◌, ◌++◌, length, map, Option, Some, None, arith}
use Rattle.std.specs.Prelude.{count_by, slice_get}
use Rattle.std.specs.List.{list_all}
use Rattle.std.specs.Option.{option_map}
use Rattle.std.proofs.lemmas.Bool.{and_from, and_parts}
use Rattle.std.proofs.lemmas.List.{length-append, length-map, take_all}
use Rattle.std.proofs.lemmas.List.Folds.{list_all-append}
use Rattle.std.proofs.lemmas.Option.{slice_get-map}
use Rattle.world_meaning.specs.declared.needs.Needs.{Needs}
use Rattle.world_meaning.specs.declared.needs.Slot.{Slot}
use Rattle.world_meaning.specs.declared.needs.Slot.TheVariants.{Absent, Visible, Touched, Carried}
use Rattle.world_meaning.specs.declared.tale.Object.{Object}
use Rattle.world_meaning.specs.declared.tale.Tale.{Tale}
use Rattle.command_grammar.specs.Lines.{line_meant}
use Rattle.command_grammar.specs.declared.synonym.Synonym.{Synonym}
use Rattle.play_meaning.specs.Grammar.{Line, is_slot}
use Rattle.play_meaning.specs.StandardActions.{standard_needs}
use Rattle.i7_actions.specs.Actions.{count_needed, counted, standard_actions}
use Rattle.i7_actions.specs.declared.action.Action.{Action}
use Rattle.i7_grammar.specs.GrammarFacts.{AreSound, has_nouns, is_line_for, is_small_byte, is_synonym_of, worded as words_each}
use Rattle.i7_grammar.specs.Grammars.{IsGrammarFound, noun_number}
use Rattle.i7_grammar.specs.declared.grammar.GrammarFound.TheVariants as spoken
use Rattle.i7_grammar.proofs.Sound.{sound_found}
use Rattle.i7_resolution.specs.Resolutions.{naming_of}
use Rattle.i7_resolution.specs.SourceActions.{action_of, actions_in, known_actions}
use Rattle.i7_sentences.specs.ActionDeclarations.{actions_declared}
use Rattle.i7_sentences.specs.declared.sentence.Sentence.{Sentence}
use Rattle.story_format.specs.Checks.{is_small}
use Rattle.story_format.specs.Contents.{Contents}
use Rattle.story_format.specs.Holding.{has_few_words, has_first_noun, is_line_of, is_number, nouns_needed}
use Rattle.story_format.specs.Making.{worded, worded_at, worded_from}
use Rattle.story_format.specs.RuleMaking.{noun_count}
use Rattle.story_format.proofs.ActionLemmas.{standard_first}
use Rattle.story_format.proofs.StoryLemmas.{all_at}
use Rattle.story_file.specs.Meanings.{AreMeant, known_said}
use Rattle.story_file.proofs.NounsAgree.{nouns_agree}
use Rattle.story_file.proofs.Resolving.{few_actions, said_of}
use Rattle.story_file.proofs.RulesOf.{sixteen}

-- ---- as many nouns has an action as it needs

count_so : (noun second : Slot) → leb (noun_count second) (noun_count noun) ≡ true → noun_number (counted noun second) ≡ noun_count noun + noun_count second
count_so Absent Absent h = refl
count_so Absent Visible h = absurd cc
count_so Absent Touched h = absurd cc
count_so Absent Carried h = absurd cc
count_so Visible Absent h = refl
count_so Visible Visible h = refl
count_so Visible Touched h = refl
count_so Visible Carried h = refl
count_so Touched Absent h = refl
count_so Touched Visible h = refl
count_so Touched Touched h = refl
count_so Touched Carried h = refl
count_so Carried Absent h = refl
count_so Carried Visible h = refl
count_so Carried Touched h = refl
count_so Carried Carried h = refl

-- asked of the action of a number, by its name or by its needs
nouns_so : (slots : ℕ) (found : Option Action) (needed : Option Needs) → option_map (λ action. action.nouns) found ≡ option_map count_needed needed
    → ((needs : Needs) → needed ≡ Some needs → has_first_noun needs ≡ true) → has_nouns slots found ≡ true → is_number slots (nouns_needed needed) ≡ true
nouns_so slots None needed same first h = absurd cc
nouns_so slots (Some action) None same first h = absurd cc
nouns_so slots (Some action) (Some needs) same first h =
    let nouns : action.nouns ≡ count_needed needs = cc in
    ap (eqb slots) (sym (ap noun_number nouns ∙ count_so needs.noun needs.second (first needs refl))) ∙ h

module _ (actions : List Action) (needs : List Needs) (agree : map (λ action. action.nouns) actions ≡ map count_needed needs) (first : list_all has_first_noun needs ≡ true) where
  nouns_at : (n : ℕ) → option_map (λ action. action.nouns) (slice_get actions n) ≡ option_map count_needed (slice_get needs n)
  nouns_at n = sym (slice_get-map (λ (action : Action). action.nouns) actions n) ∙ ap (λ all. slice_get all n) agree ∙ slice_get-map count_needed needs n

  line_so : (line : Line) → is_line_for actions line ≡ true → is_line_of needs line ≡ true
  line_so line is =
      let slots = count_by is_slot line.tokens in
      let t = and_parts (has_nouns slots (slice_get actions line.action)) (leb (length line.tokens) 32) is in
      and_from (is_number slots (nouns_needed (slice_get needs line.action))) (leb (length line.tokens) 32)
      (nouns_so slots (slice_get actions line.action) (slice_get needs line.action) (nouns_at line.action) (λ one at. all_at has_first_noun needs line.action one first at) t.0) t.1

  lines_so : (lines : List Line) → list_all (is_line_for actions) lines ≡ true → list_all (is_line_of needs) lines ≡ true
  lines_so [] are = refl
  lines_so (line ∷ lines) are =
      let t = and_parts (is_line_for actions line) (list_all (is_line_for actions) lines) are in
      and_from (is_line_of needs line) (list_all (is_line_of needs) lines) (line_so line t.0) (lines_so lines t.1)

-- all actions are known where they are few
all_known : (sentences : List Sentence) → length (actions_declared sentences) ≤ 184 → known_actions (actions_in sentences) ≡ actions_in sentences
unfolding actions_in
all_known sentences few =
    let declared = actions_declared sentences in
    let all = standard_actions ++ map action_of declared in
    take_all 255 all (omega (arith, few, sixteen, length-append standard_actions (map action_of declared), length-map declared action_of))

-- ---- the words of each object

same_words : (synonyms : List Synonym) (o : ℕ) (objects : List Object) → list_all has_few_words (worded_from synonyms o objects) ≡ list_all (λ words. leb (length words) 32) (words_each synonyms o objects)
same_words synonyms o [] = refl
same_words synonyms o (object ∷ objects) = ap (λ (b : Bool). has_few_words (worded_at synonyms o object) && b) (same_words synonyms (o + 1) objects)

all_small : (count : ℕ) (synonyms : List Synonym) → list_all (is_synonym_of count) synonyms ≡ true → list_all (λ synonym. is_small synonym.word) synonyms ≡ true
all_small count [] are = refl
all_small count (synonym ∷ synonyms) are =
    let t = and_parts (is_synonym_of count synonym) (list_all (is_synonym_of count) synonyms) are in
    let own = and_parts (ltb synonym.object count) (list_all is_small_byte synonym.word && ltb 0 (length synonym.word)) t.0 in
    let word = and_parts (list_all is_small_byte synonym.word) (ltb 0 (length synonym.word)) own.1 in
    and_from (is_small synonym.word) (list_all (λ synonym. is_small synonym.word) synonyms) word.0 (all_small count synonyms t.1)

module _ (sentences : List Sentence) (tale : Tale) (said : Contents) (meant : AreMeant sentences tale said) where
  sound : AreSound (naming_of (known_said sentences tale)) said.lines said.synonyms
  sound =
      let k = known_said sentences tale in
      let told = (said_of k tale.declared.scenes sentences meant.resolved meant.resolved_is).grammar in
      let found = subst (IsGrammarFound (naming_of k) sentences) told meant.resolved_is.is_joined.grammar_is in
      let whole = sound_found (naming_of k) sentences (spoken.Says meant.resolved.grammar) found in
      subst (λ (lines : List Line). AreSound (naming_of k) lines said.synonyms) (sym meant.lines_are)
      (subst (AreSound (naming_of k) (map line_meant meant.resolved.grammar.lines.items)) (sym meant.synonyms_are) whole)

  pub few_lines : length said.lines ≤ 65502
  few_lines = sound.few_lines

  pub lines_are : list_all has_first_noun tale.declared.actions ≡ true → list_all (is_line_of (standard_needs ++ tale.declared.actions)) said.lines ≡ true
  lines_are first =
      let needs = standard_needs ++ tale.declared.actions in
      let all_first = list_all-append has_first_noun standard_needs tale.declared.actions ∙ and_from (list_all has_first_noun standard_needs) (list_all has_first_noun tale.declared.actions) standard_first first in
      let known = all_known sentences (few_actions (known_said sentences tale) tale.declared.scenes sentences meant.resolved meant.resolved_is) in
      lines_so (actions_in sentences) needs (nouns_agree sentences tale meant.tale_is) all_first said.lines
      (ap (λ actions. list_all (is_line_for actions) said.lines) (sym known) ∙ sound.lines_suit)

  pub small_synonyms : list_all (λ synonym. is_small synonym.word) said.synonyms ≡ true
  small_synonyms = all_small _ said.synonyms sound.small_words

  -- where each object has few by its name
  pub few_words : list_all has_few_words (worded [] tale.objects) ≡ true → list_all has_few_words (worded said.synonyms tale.objects) ≡ true
  few_words named = same_words said.synonyms 0 tale.objects ∙ sound.few_words (sym (same_words [] 0 tale.objects) ∙ named)
