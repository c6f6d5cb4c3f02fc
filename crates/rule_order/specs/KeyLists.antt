-- A rule's key as the list of numbers by which rules are compared.
use Rattle.std.specs.Prelude.{ℤ, pos, List, [], ◌∷◌}
use Rattle.play_meaning.specs.Order.{minus}
use Rattle.rule_order.specs.declared.key.Key.{Key}
use Rattle.rule_order.specs.declared.key.Key.TheVariants as key

abbrev pub key_list : Key → List ℤ
key_list (key.First sentence) = pos 0 ∷ minus sentence.0 ∷ []
key_list (key.InOrder aspects noun second place number) =
    pos 1 ∷ minus aspects.0 ∷ minus noun.0 ∷ minus second.0 ∷ minus place.0 ∷ pos number ∷ []
key_list (key.Last sentence) = pos 2 ∷ pos sentence ∷ []
