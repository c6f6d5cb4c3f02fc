-- What phrases are found to say that others belong to is what they say.
use Rattle.std.proofs.Common.{◌≡◌, refl, sym, subst}
use Rattle.std.specs.Prelude.{Option}
use Rattle.i7_sentences.specs.declared.spoken.Spoken.{Spoken}
use Rattle.i7_sentences.specs.declared.spoken.Spoken.TheVariants as spoken
use Rattle.i7_conditions.specs.Clauses.{asks_over}
use Rattle.i7_conditions.specs.Conditions.{IsCondition}
use Rattle.i7_conditions.specs.Conjoining.{condition_said}
use Rattle.i7_conditions.specs.Describing.{Describes}
use Rattle.i7_conditions.specs.Descriptions.{description_said}
use Rattle.i7_conditions.specs.Predicates.{is_long}
use Rattle.i7_conditions.specs.Scopes.{Scope}
use Rattle.i7_conditions.specs.declared.found.Found.{Found}
use Rattle.i7_conditions.proofs.Conjoined.{conditions_found}
use Rattle.i7_conditions.proofs.Listing.{one_found}
use Rattle.i7_conditions.proofs.Predicated.{description_found}
use Rattle.i7_phrases.specs.BlockForms.{block_said}
use Rattle.i7_phrases.specs.Blocks.{Block, If, Opens, OtherwiseIf, Repeat, block_is_over, is_block}
use Rattle.i7_phrases.specs.Told.{IsToldOf}

block_found : (s : Scope) (said : Spoken) → IsToldOf (is_block said) (Opens s said) block_is_over (block_said s said)
block_found s (spoken.If words) = (refl, one_found If (IsCondition s words) asks_over block_is_over (λ c. refl) (condition_said s words) (conditions_found s words (condition_said s words) refl))
block_found s (spoken.OtherwiseIf words) =
    (refl, one_found OtherwiseIf (IsCondition s words) asks_over block_is_over (λ c. refl) (condition_said s words) (conditions_found s words (condition_said s words) refl))
block_found s spoken.Otherwise = (refl, (refl, refl))
block_found s (spoken.Repeat name through) = (refl, one_found Repeat (Describes s through) is_long block_is_over (λ d. refl) (description_said s through) (description_found s through))
block_found s (spoken.Say text bytes) = refl
block_found s (spoken.Now words) = refl
block_found s (spoken.Move words) = refl
block_found s (spoken.Increase value amount) = refl
block_found s (spoken.Decrease value amount) = refl
block_found s (spoken.Try silently action) = refl
block_found s (spoken.Follow book) = refl
block_found s spoken.RuleSucceeds = refl
block_found s spoken.RuleFails = refl
block_found s spoken.MakeNoDecision = refl
block_found s spoken.ContinueAction = refl
block_found s spoken.StopAction = refl
block_found s (spoken.EndStory text) = refl

pub blocks_found : (s : Scope) (said : Spoken) (block : Option (Found Block)) → block ≡ block_said s said → IsToldOf (is_block said) (Opens s said) block_is_over block
blocks_found s said block e = subst (IsToldOf (is_block said) (Opens s said) block_is_over) (sym e) (block_found s said)
