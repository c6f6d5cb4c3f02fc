use Rattle.rule_order.proofs.Renumbering.{order_renewed}
use Rattle.rule_order.proofs.laws.order_of_handing_is_nothing.Goals as goal

pub returns : goal.returns
returns c = λ s rules others renewed old book numbers is keeps order. order_renewed s rules others renewed old is keeps book numbers order
