use Rattle.std.proofs.Common.{refl}
use Rattle.object_words.specs.Words.{more_words, words_for}
use Rattle.world_meaning.specs.Declarations.{count_of_numbers}
use Rattle.world_meaning.specs.Directions.{direction_name, opposite_of, short_word}
use Rattle.world_meaning.specs.Spelling.{is_article}
use Rattle.world_meaning.specs.Kinds.{built_in_parents, is_under}
use Rattle.world_meaning.specs.Properties.{built_in_properties}
use Rattle.play_meaning.specs.Acting.{access, act, carrying, inner_of, stages, visibility}
use Rattle.play_meaning.specs.Changes.{may_be_put}
use Rattle.play_meaning.specs.CommandLines.{commands_of}
use Rattle.play_meaning.specs.Commands.{answer, command, first_reading, read, settle}
use Rattle.play_meaning.specs.Consulting.{applies, ask, consult}
use Rattle.play_meaning.specs.Doing.{do_body, do_phrase}
use Rattle.play_meaning.specs.Grammar.{candidates, splits}
use Rattle.play_meaning.specs.Order.{book_of}
use Rattle.play_meaning.specs.Progress.{spend}
use Rattle.play_meaning.specs.Rules.{is_about}
use Rattle.play_meaning.specs.Saying.{said_in}
use Rattle.play_meaning.specs.Scripts.{game_of}
use Rattle.play_meaning.specs.Seeing.{encloses, has_light, is_in_view, is_touchable, is_visible, is_visible_thing}
use Rattle.play_meaning.specs.Sessions.{commands_answer, opened}
use Rattle.play_meaning.specs.StandardActions.{standard_needs}
use Rattle.play_meaning.specs.StandardGrammar.{standard_lines}
use Rattle.play_meaning.specs.StandardRules.{rules_of_closing, rules_of_dropping, rules_of_examining, rules_of_going, rules_of_inserting, rules_of_inventory, rules_of_looking, rules_of_opening, rules_of_putting, rules_of_switching, rules_of_taking, rules_of_wearing, standard_rules}
use Rattle.play_meaning.specs.Tales.{depth_of, setting_of, start_of}
use Rattle.play_meaning.specs.Truth.{truth_in}
use Rattle.play_meaning.specs.Turns.{beginning_of, ending_of, opening, pass, turn}
use Rattle.play_meaning.specs.Values.{is_one, number_in, object_in, those}
use Rattle.play_meaning.specs.Worlds.{chain, is_true_of, number_of, set_flag, set_number}
use Rattle.i7_kinds.specs.Grants.{built_in_bases}
use Rattle.i7_claims.specs.NameScans.{built_in_standings}
use Rattle.i7_claims.specs.Sorts.{built_in_either_ors, built_in_kinds}
use Rattle.i7_claims.specs.Standings.{built_in_namings}
use Rattle.i7_claims.specs.Phrases.{is_phrase, kind_said, phrase_said}
use Rattle.i7_claims.specs.Wording.{can_begin, cut}
use Rattle.i7_kinds.specs.Tales.{built_in_truths, entries_of, exits_of, frame_refusal, long_in, object_as}
use Rattle.command_grammar.specs.Synonyms.{words_said}
use Rattle.story_format.specs.TaleScripts.{whole_script}
use Rattle.story_file.proofs.worked_rows.two_rooms_are_played.Goals as goal

pub returns : goal.returns
unfolding direction_name opposite_of short_word is_article kind_said phrase_said is_phrase can_begin cut built_in_bases built_in_truths count_of_numbers built_in_either_ors built_in_kinds built_in_namings built_in_parents built_in_properties built_in_standings words_said entries_of exits_of frame_refusal is_under long_in more_words object_as words_for whole_script read answer command first_reading settle candidates splits standard_lines visibility access carrying stages act inner_of may_be_put applies ask consult do_phrase do_body book_of spend is_about said_in game_of encloses is_in_view has_light is_visible_thing is_visible is_touchable commands_of commands_answer opened standard_needs rules_of_looking rules_of_examining rules_of_taking rules_of_dropping rules_of_putting rules_of_inserting rules_of_opening rules_of_closing rules_of_going rules_of_wearing rules_of_inventory rules_of_switching standard_rules depth_of setting_of start_of truth_in ending_of beginning_of pass turn opening object_in is_one those number_in chain is_true_of number_of set_flag set_number
returns c = refl
