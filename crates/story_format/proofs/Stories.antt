-- The tables of a tale that a story file holds are a story's.
use Rattle.std.proofs.Common.{◌≡◌, ◌+◌, ◌≤◌, true, List, length, sym, ap, ◌∙◌, arith}
use Rattle.world_meaning.specs.WellMade.{sorts_in}
use Rattle.world_meaning.specs.declared.tale.Tale.{Tale}
use Rattle.std.proofs.lemmas.List.{length-map}
use Rattle.object_words.proofs.StringLemmas.{length_mapped}
use Rattle.play_meaning.specs.Rules.{Rule}
use Rattle.play_meaning.specs.Scripts.{Scene}
use Rattle.rule_order.specs.declared.listing.ListingSentence.{ListingSentence}
use Rattle.command_grammar.specs.declared.synonym.Synonym.{Synonym}
use Rattle.story_format.specs.Contents.{Contents, origins_said}
use Rattle.story_format.specs.Holding.{AreHeld, AreOf, IsHeld}
use Rattle.story_format.specs.Making.{Worded, books_of, code_bytes, codes_in, described_in, story_lines, strings_behind, strings_of, tables_of, tables_with, texts_named, worded}
use Rattle.story_format.specs.RuleMaking.{all_entries, rules_of}
use Rattle.story_format.specs.Spells.{IsStory, are_ordered}
use Rattle.story_format.proofs.StoryLemmas.{few_begin}
use Rattle.story_format.proofs.SoundLemmas.{bytes_enough, bytes_few, bytes_short, origins_counted, tables_sound}
use Rattle.story_format.proofs.EntryLemmas.{objects_back}
use Rattle.story_format.proofs.OwnBooks.{books_counted, books_fit, books_own, books_there, have_books, story_count}
use Rattle.story_format.proofs.RuleLemmas.{AreRightBooks, origins_in}
use Rattle.story_format.proofs.SceneLemmas.{origins_in_scenes}
use Rattle.story_format.proofs.GrammarLemmas.{story_lines_are, story_lines_few}
use Rattle.story_format.proofs.TableLemmas.{tables_right}
use Rattle.story_format.proofs.Fits.{tables_fit}

pub few_objects : (synonyms : List Synonym) (t : Tale) → IsHeld t → length (worded synonyms t.objects) ≤ 1000
few_objects synonyms t held =
    let ws = worded synonyms t.objects in
    let count : length ws ≡ length t.objects = sym (length_mapped (λ (w : Worded). w.object) ws) ∙ ap length (objects_back synonyms 0 t.objects) in
    omega (arith, count, few_begin t.declared.kinds (sorts_in t).rooms t.objects held.made.begins)

pub described_back : (synonyms : List Synonym) (t : Tale) → described_in (worded synonyms t.objects) ≡ codes_in t.objects
described_back synonyms t = ap codes_in (objects_back synonyms 0 t.objects)

-- ---- books

right_books : (t : Tale) (listings : List ListingSentence) (rules : List Rule) → length rules ≤ 1939 → AreRightBooks t.declared (books_of t listings rules) (61 + length rules)
right_books t listings rules few =
    let many = story_count listings rules in
    record {
      count_is = books_counted t listings rules;
      there = books_there t listings rules (61 + length rules) many;
      fit = books_fit t listings rules (61 + length rules) many (omega (arith, few));
    }

tale_ordered : (t : Tale) (c : Contents) → are_ordered (tables_of t c) ≡ true
unfolding are_ordered tables_with rules_of
tale_ordered t c = books_own t c.listings c.rules (all_entries (described_in (worded c.synonyms t.objects)) c.rules) (have_books c.listings c.rules (described_in (worded c.synonyms t.objects)))

-- ---- scenes

pub as_many_scenes : (t : Tale) (c : Contents) → AreOf t c → length c.scenes ≡ length t.declared.scenes
as_many_scenes t c of = sym (length-map c.scenes (λ (scene : Scene). scene.recurs)) ∙ ap length of.scenes

-- ---- all of it

pub tale_is_story : (t : Tale) (c : Contents) → IsHeld t → AreHeld t c → IsStory (tables_of t c)
tale_is_story t c held said =
    let ws = worded c.synonyms t.objects in
    let lines = story_lines c.lines in
    let origins = origins_said c in
    let strings = strings_of (texts_named ws lines) (strings_behind t.declared origins) in
    let of = said.are_of in
    let few = bytes_few strings origins said.said in
    let enough : described_in ws + (length (origins_in c.rules) + length (origins_in_scenes c.scenes)) ≤ length (code_bytes strings origins) =
    omega (arith, origins_counted c.texts c.rules c.scenes, of.many, described_back c.synonyms t, bytes_enough strings origins) in
    let books = books_of t c.listings c.rules in
    let known = right_books t c.listings c.rules of.few in
    let same = as_many_scenes t c of in
    let few_lines = story_lines_few c.lines of.few_lines in
    let lines_are = story_lines_are t.declared.actions c.lines of.lines in
    record {
      fits = tables_fit t.declared books c.synonyms t.objects lines c.rules c.scenes origins same held.made of.few_words few_lines lines_are of.few_actions of.few known of.named said.few said.short few (bytes_short strings origins said.said);
      right = tables_right t.declared books c.synonyms t.objects lines c.rules c.scenes origins same held.made of.small of.few_words few_lines lines_are of.few_actions of.first_nouns of.few known of.named said.few few enough;
      sound = tables_sound t.declared books ws lines c.texts c.rules c.scenes said.few (few_objects c.synonyms t held) (of.many ∙ sym (described_back c.synonyms t)) said.fit said.said;
      ordered = tale_ordered t c;
    }
