-- What the sentences of the standard rules say is computed.
use Rattle.std.proofs.Common.{◌≡◌, refl, map}
use Rattle.std.specs.Prelude.{option_map}
use Rattle.i7_conditions.specs.Adjectives.{adjective_named, kind_named}
use Rattle.i7_conditions.specs.Asking.{asked_by, plain_said}
use Rattle.i7_conditions.specs.Between.{parted_said}
use Rattle.i7_conditions.specs.ClauseForms.{clause_said}
use Rattle.i7_conditions.specs.Clauses.{comparison_of, is_is}
use Rattle.i7_conditions.specs.Conditions.{is_and, is_or}
use Rattle.i7_conditions.specs.Conjoining.{condition_said, conjunction_said}
use Rattle.i7_conditions.specs.Descriptions.{bare_said, description_said}
use Rattle.i7_conditions.specs.Fronts.{front_said}
use Rattle.i7_conditions.specs.Joining.{number_said}
use Rattle.i7_conditions.specs.Keys.{is_of, plain_key}
use Rattle.i7_conditions.specs.Operators.{operator_of}
use Rattle.i7_conditions.specs.Parts.{put_together}
use Rattle.i7_conditions.specs.Plain.{plainly_named}
use Rattle.i7_conditions.specs.Predicates.{predicate_said}
use Rattle.i7_conditions.specs.Relations.{relation_at, relation_of_two}
use Rattle.i7_conditions.specs.TermForms.{from_literal, term_said}
use Rattle.i7_conditions.specs.Verbs.{by_verb}
use Rattle.i7_conditions.specs.Words.{beyond_of, is_from, is_not}
use Rattle.i7_conditions.specs.declared.found.Found.TheVariants.{Read}
use Rattle.i7_phrases.specs.CellForms.{cell_said}
use Rattle.i7_phrases.specs.ChangeForms.{becomes_said, from_value, now_said}
use Rattle.i7_phrases.specs.SubstitutionForms.{substitution_said}
use Rattle.i7_phrases.specs.Substitutions.{naming_of}
use Rattle.play_meaning.specs.StandardRules.{rules_of_closing, rules_of_dropping, rules_of_examining, rules_of_going, rules_of_inserting, rules_of_inventory, rules_of_looking}
use Rattle.play_meaning.specs.StandardRules.{rules_of_opening, rules_of_putting, rules_of_switching, rules_of_taking, rules_of_wearing, standard_rules}
use Rattle.world_meaning.specs.Spelling.{is_article}
use Rattle.language_tables.specs.WrittenStandard.{asked_in, first_scope, made_in, said_in, words, written_standard, written_substitutions}

pub asked : map (λ row. option_map (λ text. condition_said first_scope (words text)) row.0) written_standard ≡ map (λ rule. option_map Read (asked_in rule.body)) standard_rules
unfolding adjective_named kind_named plain_said asked_by parted_said clause_said is_is comparison_of is_and is_or conjunction_said condition_said bare_said
    description_said front_said number_said plain_key is_of operator_of put_together plainly_named predicate_said relation_of_two relation_at from_literal
    term_said by_verb is_from is_not beyond_of from_value becomes_said now_said cell_said is_article standard_rules rules_of_looking rules_of_examining
    rules_of_taking rules_of_dropping rules_of_putting rules_of_inserting rules_of_opening rules_of_closing rules_of_going rules_of_wearing
    rules_of_inventory rules_of_switching substitution_said naming_of
asked = refl

pub made_so : map (λ row. option_map (λ text. now_said first_scope (words text)) row.1) written_standard ≡ map (λ rule. option_map Read (made_in rule.body)) standard_rules
unfolding adjective_named kind_named plain_said asked_by parted_said clause_said is_is comparison_of is_and is_or conjunction_said condition_said bare_said
    description_said front_said number_said plain_key is_of operator_of put_together plainly_named predicate_said relation_of_two relation_at from_literal
    term_said by_verb is_from is_not beyond_of from_value becomes_said now_said cell_said is_article standard_rules rules_of_looking rules_of_examining
    rules_of_taking rules_of_dropping rules_of_putting rules_of_inserting rules_of_opening rules_of_closing rules_of_going rules_of_wearing
    rules_of_inventory rules_of_switching substitution_said naming_of
made_so = refl

pub said : map (map (λ text. substitution_said first_scope (words text))) written_substitutions ≡ map (λ rule. map Read (said_in rule.body)) standard_rules
unfolding adjective_named kind_named plain_said asked_by parted_said clause_said is_is comparison_of is_and is_or conjunction_said condition_said bare_said
    description_said front_said number_said plain_key is_of operator_of put_together plainly_named predicate_said relation_of_two relation_at from_literal
    term_said by_verb is_from is_not beyond_of from_value becomes_said now_said cell_said is_article standard_rules rules_of_looking rules_of_examining
    rules_of_taking rules_of_dropping rules_of_putting rules_of_inserting rules_of_opening rules_of_closing rules_of_going rules_of_wearing
    rules_of_inventory rules_of_switching substitution_said naming_of
said = refl
