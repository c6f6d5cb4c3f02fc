use Rattle.i7_rules.proofs.OneAnswer.{rules_once}
use Rattle.i7_rules.proofs.laws.one_list_of_rules.Goals as goal

pub returns : goal.returns
returns c = rules_once (record {
  text = c.one_text_is_meant.ensures;
  change = c.one_change_is_made.ensures;
  block = c.one_block_is_opened.ensures;
  action = c.one_action_is_tried.ensures;
  book = c.one_book_is_followed.ensures;
  pattern = c.one_pattern_is_meant.ensures;
  place = c.one_place_is_meant.ensures;
}) c.one_body_is_nested.ensures
