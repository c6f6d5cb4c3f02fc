-- A phrase changes the world in one way at most, and says one thing of what belongs to it.
use Rattle.std.proofs.Common.{◌≡◌, ℕ, Bool, List, sym, ◌∙◌}
use Rattle.std.specs.Prelude.{Option, None, Some, codes}
use Rattle.world_meaning.specs.declared.place.Rel.{Rel}
use Rattle.world_meaning.specs.declared.place.Rel.TheVariants.{Carried, Worn}
use Rattle.i7_sentences.specs.declared.spoken.Spoken.{Spoken}
use Rattle.i7_sentences.specs.declared.spoken.Spoken.TheVariants as spoken
use Rattle.play_meaning.specs.Trees as tree
use Rattle.play_meaning.specs.declared.tree.number.Operator.{Operator}
use Rattle.play_meaning.specs.declared.tree.number.Operator.TheVariants.{Minus, Plus}
use Rattle.i7_conditions.specs.Adjectives.{adjective_named, quality_named}
use Rattle.i7_conditions.specs.Between.{IsParted}
use Rattle.i7_conditions.specs.Clauses.{split_is}
use Rattle.i7_conditions.specs.Conditions.{IsCondition}
use Rattle.i7_conditions.specs.Describing.{Describes}
use Rattle.i7_conditions.specs.Keys.{property_named, split_of, variable_named}
use Rattle.i7_conditions.specs.Numbers.{CountsAs}
use Rattle.i7_conditions.specs.Objects.{Means}
use Rattle.i7_conditions.specs.Readings.{FirstOf}
use Rattle.i7_conditions.specs.Relations.{relation_at}
use Rattle.i7_conditions.specs.Scopes.{Scope}
use Rattle.i7_conditions.specs.Values.{SaysValue}
use Rattle.i7_conditions.specs.Words.{Word, without_article}
use Rattle.i7_conditions.proofs.Counting.{counted_once}
use Rattle.i7_conditions.proofs.Described.{described_once}
use Rattle.i7_conditions.proofs.Listing.{IsOnce, Made, MadeAt, MadeOfTwo, at_once, first_once, made_once, two_once}
use Rattle.i7_conditions.proofs.Once.{condition_once}
use Rattle.i7_conditions.proofs.Parted.{parted_once}
use Rattle.i7_conditions.proofs.Readings.{meant_once}
use Rattle.i7_conditions.proofs.Valued.{value_once}
use Rattle.i7_phrases.specs.Blocks.{If, Opens, OtherwiseIf, Repeat}
use Rattle.i7_phrases.specs.Cells.{Cell, IsCell, IsProperty, IsVariable, PropertyOf, Variable, set}
use Rattle.i7_phrases.specs.ChangeForms.{added, held_so, made_so, made_valued}
use Rattle.i7_phrases.specs.Changes.{Adds, Becomes, BecomesIn, Gives, GivesValue, MakesSo, MakesValued, Moves, Now, PutsIn, Sets, SetsValue, TakesAway, flag_of, given, given_so, moved_so, value_of}
use Rattle.i7_phrases.specs.Phrases.{Changes}

abbrev Around : Type 0
Around = List Word × List Word

abbrev Place : Type 0
Place = Rel × List Word

-- ---- changes

cell_once : (s : Scope) (words : List Word) → IsOnce (IsCell s words)
cell_once s words =
    first_once (IsProperty s words) (IsVariable s words)
    (at_once (split_of words) (λ (parts : Around). MadeAt (property_named s parts.0) (λ (p : ℕ). Made (PropertyOf p) (Means s parts.1)))
    (λ parts. at_once (property_named s parts.0) (λ (p : ℕ). Made (PropertyOf p) (Means s parts.1)) (λ p. made_once (PropertyOf p) (Means s parts.1) (meant_once s parts.1))))
    (at_once (variable_named s words) (λ (v : ℕ) (cell : Cell). cell ≡ Variable v) (λ v c d e f. e ∙ sym f))

values_once : (s : Scope) (subject behind : List Word) → IsOnce (SetsValue s subject behind)
values_once s subject behind =
    first_once (GivesValue s subject behind) (MakesValued s subject behind) (made_once given (SaysValue s subject behind) (value_once s subject behind))
    (at_once (value_of (quality_named s (without_article behind))) (λ (value : ℕ × ℕ). Made (made_valued value) (Means s subject)) (λ value. made_once (made_valued value) (Means s subject) (meant_once s subject)))

becomes_once : (s : Scope) (subject behind : List Word) → IsOnce (Becomes s subject behind)
becomes_once s subject behind =
    first_once (MakesSo s subject behind) (FirstOf (PutsIn s subject behind) (FirstOf (TakesAway s subject behind) (FirstOf (Sets s subject behind) (SetsValue s subject behind))))
    (at_once (flag_of (adjective_named s behind)) (λ (flag : ℕ × Bool). Made (made_so flag) (Means s subject)) (λ flag. made_once (made_so flag) (Means s subject) (meant_once s subject)))
    (first_once (PutsIn s subject behind) (FirstOf (TakesAway s subject behind) (FirstOf (Sets s subject behind) (SetsValue s subject behind)))
    (at_once (relation_at behind) (λ (place : Place). MadeOfTwo (held_so place.0) (Means s subject) (Means s place.1))
    (λ place. two_once (held_so place.0) (Means s subject) (Means s place.1) (meant_once s subject) (meant_once s place.1)))
    (first_once (TakesAway s subject behind) (FirstOf (Sets s subject behind) (SetsValue s subject behind)) (λ p q a b. made_once tree.NowNowhere (Means s subject) (meant_once s subject) p q a.1 b.1)
    (first_once (Sets s subject behind) (SetsValue s subject behind) (two_once set (IsCell s subject) (CountsAs s behind) (cell_once s subject) (counted_once s behind)) (values_once s subject behind))))

becomes_in_once : (s : Scope) (parts : Option Around) → IsOnce (BecomesIn s parts)
becomes_in_once s None = λ p q a b. absurd a
becomes_in_once s (Some parts) = becomes_once s parts.0 parts.1

gives_once : (relation : Rel) (verb : List ℕ) (s : Scope) (words : List Word) → IsOnce (Gives relation verb s words)
gives_once relation verb s words = made_once (given_so relation) (IsParted s verb words) (parted_once s verb words)

now_once : (s : Scope) (words : List Word) → IsOnce (Now s words)
now_once s words =
    first_once (BecomesIn s (split_is words)) (FirstOf (Gives Carried (codes "carries") s words) (Gives Worn (codes "wears") s words)) (becomes_in_once s (split_is words))
    (first_once (Gives Carried (codes "carries") s words) (Gives Worn (codes "wears") s words) (gives_once Carried (codes "carries") s words) (gives_once Worn (codes "wears") s words))

moves_once : (s : Scope) (words : List Word) → IsOnce (Moves s words)
moves_once s words = made_once moved_so (IsParted s (codes "to") words) (parted_once s (codes "to") words)

adds_once : (operator : Operator) (s : Scope) (value amount : List Word) → IsOnce (Adds operator s value amount)
adds_once operator s value amount = two_once (added operator) (IsCell s value) (CountsAs s amount) (cell_once s value) (counted_once s amount)

pub change_once : (s : Scope) (said : Spoken) → IsOnce (Changes s said)
change_once s (spoken.Now words) = now_once s words
change_once s (spoken.Move words) = moves_once s words
change_once s (spoken.Increase value amount) = adds_once Plus s value amount
change_once s (spoken.Decrease value amount) = adds_once Minus s value amount
change_once s (spoken.Say text bytes) = λ p q a b. absurd a
change_once s (spoken.Try silently action) = λ p q a b. absurd a
change_once s (spoken.Follow book) = λ p q a b. absurd a
change_once s spoken.RuleSucceeds = λ p q a b. absurd a
change_once s spoken.RuleFails = λ p q a b. absurd a
change_once s spoken.MakeNoDecision = λ p q a b. absurd a
change_once s spoken.ContinueAction = λ p q a b. absurd a
change_once s spoken.StopAction = λ p q a b. absurd a
change_once s (spoken.EndStory text) = λ p q a b. absurd a
change_once s (spoken.If condition) = λ p q a b. absurd a
change_once s (spoken.OtherwiseIf condition) = λ p q a b. absurd a
change_once s spoken.Otherwise = λ p q a b. absurd a
change_once s (spoken.Repeat name through) = λ p q a b. absurd a

-- ---- blocks

pub block_once : (s : Scope) (said : Spoken) → IsOnce (Opens s said)
block_once s (spoken.If words) = made_once If (IsCondition s words) (condition_once s words)
block_once s (spoken.OtherwiseIf words) = made_once OtherwiseIf (IsCondition s words) (condition_once s words)
block_once s spoken.Otherwise = λ b c e f. e ∙ sym f
block_once s (spoken.Repeat name through) = made_once Repeat (Describes s through) (described_once s through)
block_once s (spoken.Say text bytes) = λ p q a b. absurd a
block_once s (spoken.Now words) = λ p q a b. absurd a
block_once s (spoken.Move words) = λ p q a b. absurd a
block_once s (spoken.Increase value amount) = λ p q a b. absurd a
block_once s (spoken.Decrease value amount) = λ p q a b. absurd a
block_once s (spoken.Try silently action) = λ p q a b. absurd a
block_once s (spoken.Follow book) = λ p q a b. absurd a
block_once s spoken.RuleSucceeds = λ p q a b. absurd a
block_once s spoken.RuleFails = λ p q a b. absurd a
block_once s spoken.MakeNoDecision = λ p q a b. absurd a
block_once s spoken.ContinueAction = λ p q a b. absurd a
block_once s spoken.StopAction = λ p q a b. absurd a
block_once s (spoken.EndStory text) = λ p q a b. absurd a
