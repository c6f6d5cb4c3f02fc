use Rattle.std.proofs.Common.{refl}
use Rattle.std.specs.Fmt.{digits}
use Rattle.world_meaning.specs.Declarations.{count_of_numbers}
use Rattle.world_meaning.specs.Directions.{direction_name, short_word}
use Rattle.world_meaning.specs.Spelling.{is_article}
use Rattle.world_meaning.specs.Kinds.{built_in_parents, is_under}
use Rattle.world_meaning.specs.Properties.{built_in_properties}
use Rattle.play_meaning.specs.Acting.{access, act, carrying, inner_of, stages, visibility}
use Rattle.play_meaning.specs.ActionRows.{ball_in_box, ball_in_box_not_things_shown, ball_in_box_shown, ball_looked_at, ball_looked_at_shown, ball_on_table, ball_on_table_shown, parted_words, parted_words_shown, question_refused_shown, two_boxes, two_boxes_shown, two_open_boxes, two_open_boxes_shown}
use Rattle.play_meaning.specs.Changes.{may_be_put}
use Rattle.play_meaning.specs.CodedStories.{game_of_codes}
use Rattle.play_meaning.specs.Codes.{body_done, description_said, test_within}
use Rattle.play_meaning.specs.CommandLines.{commands_of}
use Rattle.play_meaning.specs.Commands.{answer, command, first_reading, read, settle}
use Rattle.play_meaning.specs.Consulting.{applies, ask, consult}
use Rattle.play_meaning.specs.Doing.{do_body, do_phrase}
use Rattle.play_meaning.specs.Grammar.{candidates, splits}
use Rattle.play_meaning.specs.Machines.{does, run}
use Rattle.play_meaning.specs.Order.{book_of}
use Rattle.play_meaning.specs.Progress.{spend}
use Rattle.play_meaning.specs.Rules.{is_about}
use Rattle.play_meaning.specs.Saying.{said_in}
use Rattle.play_meaning.specs.Scripts.{game_of}
use Rattle.play_meaning.specs.Seeing.{encloses, has_light, is_in_view, is_touchable, is_visible, is_visible_thing}
use Rattle.play_meaning.specs.Sessions.{commands_answer, opened}
use Rattle.play_meaning.specs.Sketches.{grammar_of, script_of, start_in, tale_of}
use Rattle.play_meaning.specs.StandardActions.{standard_needs}
use Rattle.play_meaning.specs.StandardGrammar.{standard_lines}
use Rattle.play_meaning.specs.StandardRules.{rules_of_closing, rules_of_dropping, rules_of_examining, rules_of_going, rules_of_inserting, rules_of_inventory, rules_of_looking, rules_of_opening, rules_of_putting, rules_of_switching, rules_of_taking, rules_of_wearing, standard_rules}
use Rattle.play_meaning.specs.Tales.{depth_of, setting_of, start_of}
use Rattle.play_meaning.specs.TranslatedScripts.{coded, codes_of_script}
use Rattle.play_meaning.specs.Translation.{adjective_code, body_part, choice, condition_part, description_code, loop, number_part, phrase_part, seq, strings_of_body, strings_of_phrase, text_part}
use Rattle.play_meaning.specs.Truth.{truth_in}
use Rattle.play_meaning.specs.Turns.{beginning_of, ending_of, opening, pass, turn}
use Rattle.play_meaning.specs.Values.{is_one, number_in, object_in, those}
use Rattle.play_meaning.specs.Worlds.{chain, is_true_of, number_of, set_flag, set_number}
use Rattle.play_meaning.proofs.laws.commands_are_read.Goals as goal

pub returns : goal.returns
unfolding direction_name short_word is_article game_of_codes coded codes_of_script description_said body_done test_within does run adjective_code body_part choice condition_part description_code loop number_part phrase_part seq strings_of_body strings_of_phrase text_part count_of_numbers built_in_parents is_under built_in_properties digits visibility access carrying stages act inner_of ball_on_table ball_in_box two_boxes two_open_boxes parted_words ball_looked_at ball_on_table_shown ball_in_box_shown ball_in_box_not_things_shown ball_looked_at_shown parted_words_shown two_open_boxes_shown two_boxes_shown question_refused_shown may_be_put settle first_reading command answer read applies ask consult do_phrase do_body splits candidates book_of spend is_about said_in game_of encloses is_in_view has_light is_visible_thing is_visible is_touchable commands_of commands_answer opened tale_of start_in grammar_of script_of standard_needs standard_lines rules_of_looking rules_of_examining rules_of_taking rules_of_dropping rules_of_putting rules_of_inserting rules_of_opening rules_of_closing rules_of_going rules_of_wearing rules_of_inventory rules_of_switching standard_rules depth_of setting_of start_of truth_in ending_of beginning_of pass turn opening object_in is_one those number_in chain is_true_of number_of set_flag set_number
returns c = record { verbs = (refl, refl); within = (refl, refl); not_things = (refl, refl); described = (refl, refl); shortest = (refl, refl); second_asked = (refl, refl); question_refused = refl; asked = (refl, refl) }
