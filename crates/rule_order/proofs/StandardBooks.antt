-- The table of the rules that every story has tells their rulebooks.
use Rattle.std.proofs.Common.{◌≡◌, ◌∙◌, ap, sym, refl, ℕ, List}
use Rattle.std.specs.Prelude.{map, slice_get}
use Rattle.std.specs.Option.{option_map}
use Rattle.std.proofs.lemmas.Option.{slice_get-map}
use Rattle.play_meaning.specs.Rules.{Rule}
use Rattle.play_meaning.specs.StandardRules.{rules_of_closing, rules_of_dropping, rules_of_examining, rules_of_going, rules_of_inserting, rules_of_inventory, rules_of_looking, rules_of_opening, rules_of_putting, rules_of_switching, rules_of_taking, rules_of_wearing, standard_rules}
use Rattle.rule_order.specs.declared.standard_rules.TheConstants.{STANDARD_RULES}

books_are : map (λ row. row.0) STANDARD_RULES ≡ map (λ rule. rule.book) standard_rules
unfolding standard_rules rules_of_looking rules_of_examining rules_of_taking rules_of_dropping rules_of_putting rules_of_inserting rules_of_opening rules_of_closing rules_of_going rules_of_wearing rules_of_inventory rules_of_switching
books_are = refl

pub book_told : (number : ℕ) → option_map (λ row. row.0) (slice_get STANDARD_RULES number) ≡ option_map (λ rule. rule.book) (slice_get standard_rules number)
book_told number =
    sym (slice_get-map (λ (row : ℕ × ℕ). row.0) STANDARD_RULES number) ∙ ap (λ (books : List ℕ). slice_get books number) books_are ∙ slice_get-map (λ (rule : Rule). rule.book) standard_rules number
