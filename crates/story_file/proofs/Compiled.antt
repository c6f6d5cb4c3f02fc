-- How many texts a tale has, and the outcome of a source by what its sentences say.
use Rattle.std.proofs.Common.{◌≡◌, ◌∙◌, refl, subst, ℕ, ◌+◌, List, [], ◌∷◌, ◌++◌, length, inl, inr, ◌⊎◌, arith}
use Rattle.std.specs.Prelude.{Option, None, Some, true}
use Rattle.std.specs.List.{list_all}
use Rattle.world_meaning.specs.Faults.{out_of_memory}
use Rattle.world_meaning.specs.declared.fault.Fault.{Fault}
use Rattle.world_meaning.specs.declared.needs.Needs.{Needs}
use Rattle.world_meaning.specs.declared.tale.Object.{Object}
use Rattle.world_meaning.specs.declared.tale.Tale.{Tale}
use Rattle.play_meaning.specs.TranslatedScripts.{in_list}
use Rattle.play_meaning.specs.Trees.{Text}
use Rattle.i7_conditions.specs.Scopes.{Scope}
use Rattle.i7_sentences.specs.declared.sentence.Sentence.{Sentence}
use Rattle.code_table.specs.declared.fault.TableFault.{TableFault}
use Rattle.story_format.specs.Contents.{Contents}
use Rattle.story_format.specs.Holding.{AreHeld, AreNotHeld, AreOf, IsHeld, has_first_noun}
use Rattle.story_format.specs.Making.{code_count, codes_in, tables_of}
use Rattle.story_format.specs.Spells.{Spells}
use Rattle.story_format.proofs.Carried.{tale_carried}
use Rattle.story_file.specs.Compilations.{IsCompiled, IsRefused, IsTold, Means, Says, memory, unheld, unmeant}
use Rattle.story_file.specs.Meanings.{AreMeant, AreRefused, AreTexts, descriptions_of, scope_said}
use Rattle.story_file.proofs.Acted.{IsKept}
use Rattle.story_file.proofs.GrammarOf.{few_lines, few_words, lines_are, small_synonyms}
use Rattle.story_file.proofs.Held.{tale_kept}
use Rattle.story_file.proofs.Outcomes.{refused_so}
use Rattle.story_file.proofs.Counted.{acts_are}
use Rattle.story_file.proofs.Ranges.{says_first_nouns, says_ranged}
use Rattle.story_file.proofs.RulesOf.{acts_few, as_many, few_rules, rules_named}
use Rattle.story_file.proofs.ScenesOf.{scenes_recur}

-- ---- how many texts there are

described : (objects : List Object) → length (descriptions_of objects) ≡ codes_in objects
described [] = refl
described (object ∷ objects) = by object.description (described objects)
  where
    by : (d : Option (List ℕ)) → length (descriptions_of objects) ≡ codes_in objects → length (in_list d ++ descriptions_of objects) ≡ code_count d + codes_in objects
    by None rest = omega (arith, rest)
    by (Some bytes) rest = omega (arith, rest)

texts_counted : (s : Scope) (objects : List Object) (texts : List Text) → AreTexts s objects texts → length texts ≡ codes_in objects
texts_counted s objects texts are = as_many _ (descriptions_of objects) texts are ∙ described objects

-- ---- a source's outcome, by what its sentences say

module _ (source : List ℕ) (sentences lent : List Sentence) (says : Says source sentences) (same : lent ≡ sentences) where
  -- where what they say refuses them
  pub refused_by : (fault : Fault) → AreRefused lent fault ⊎ (fault ≡ out_of_memory) → IsRefused source fault
  refused_by fault (inl refused) = unmeant (record { sentences = sentences; says = says; refused = refused_so _ _ _ same refused })
  refused_by fault (inr is) = memory says.spells.readable.short is

  module _ (tale : Tale) (said : Contents) (meant : AreMeant lent tale said) where
    means : Means source tale said
    means = record { sentences = sentences; says = says; meant = subst (λ (all : List Sentence). AreMeant all tale said) same meant }

    kept : IsKept tale
    unfolding means
    kept = tale_kept sentences tale (says_ranged source sentences says) means.meant.tale_is means.meant.short

    pub is_held : IsHeld tale
    is_held = kept.held

    first_so : list_all has_first_noun tale.declared.actions ≡ true
    unfolding means
    first_so = subst (λ (all : List Needs). list_all has_first_noun all ≡ true) (acts_are sentences tale means.meant.tale_is) (says_first_nouns source sentences says)

    pub are_of : AreOf tale said
    unfolding means
    are_of = record {
      many = texts_counted (scope_said lent) tale.objects said.texts meant.texts_are;
      few = few_rules lent tale said meant;
      few_actions = acts_few lent tale said meant;
      first_nouns = first_so;
      few_lines = few_lines lent tale said meant;
      lines = lines_are lent tale said meant first_so;
      small = small_synonyms lent tale said meant;
      few_words = few_words lent tale said meant kept.words;
      named = rules_named lent tale said meant;
      scenes = scenes_recur lent tale said meant;
    }

    pub compiled_by : (bytes : List ℕ) → AreHeld tale said → Spells bytes (tables_of tale said) → IsCompiled source bytes
    unfolding means
    compiled_by bytes held spells = record {
      tale = tale;
      said = said;
      means = means;
      held = held;
      tables = tables_of tale said;
      tables_are = refl;
      carries = tale_carried tale said is_held held;
      spells = spells;
    }

    pub unheld_by : (reason : TableFault) (fault : Fault) → AreNotHeld tale said reason → IsTold lent tale said reason fault ⊎ (fault ≡ out_of_memory) → IsRefused source fault
    unfolding means
    unheld_by reason fault not_held (inl told) = unheld (record {
      tale = tale;
      said = said;
      means = means;
      reason = reason;
      not_held = not_held;
      told = subst (λ (all : List Sentence). IsTold all tale said reason fault) same told;
    })
    unheld_by reason fault not_held (inr is) = memory says.spells.readable.short is
