-- The tale of sentences is what is told of it by their claims, with the actions that they declare.
use Rattle.std.proofs.Common.{◌≡◌, refl, true, List, [], length, Ok}
use Rattle.std.specs.List.{list_all}
use Rattle.std.specs.Prelude.{Result, Err}
use Rattle.std.proofs.lemmas.List.{length-map}
use Rattle.world_meaning.specs.Declarations.{is_well_declared, suits_kind}
use Rattle.world_meaning.specs.declared.fault.Fault.{Fault}
use Rattle.world_meaning.specs.declared.needs.Needs.{Needs}
use Rattle.world_meaning.specs.declared.tale.Tale.{Tale}
use Rattle.i7_kinds.specs.Actions.{actions_said, told_with, with_actions}
use Rattle.i7_sentences.specs.ActionDeclarations.{ActionAt, actions_declared}
use Rattle.i7_sentences.specs.declared.sentence.Sentence.{Sentence}
use Rattle.story_format.specs.Holding.{IsHeld, has_few_words}
use Rattle.story_format.specs.Making.{worded}

pub record Acted (actions : List Needs) (said : Result Tale Fault) (tale : Tale) : Type 0 where
  pub before : Tale
  pub said_is : said ≡ Ok before
  pub tale_is : told_with actions before ≡ tale

pub acted : (actions : List Needs) (said : Result Tale Fault) (tale : Tale) → with_actions actions said ≡ Ok tale → Acted actions said tale
acted actions (Ok before) tale is = record { before = before; said_is = refl; tale_is = cc }
acted actions (Err fault) tale is = absurd cc

pub actions_counted : (sentences : List Sentence) → length (actions_said sentences) ≡ length (actions_declared sentences)
unfolding actions_said
actions_counted sentences = length-map (actions_declared sentences) (λ (action : ActionAt). action.said.needs)

-- a tale that a story file holds, and whose objects have few words by their names
pub record IsKept (tale : Tale) : Type 0 where
  pub held : IsHeld tale
  pub words : list_all has_few_words (worded [] tale.objects) ≡ true

-- a tale that a story file holds is held with any actions
still_held : (actions : List Needs) (tale : Tale) → IsHeld tale → IsHeld (told_with actions tale)
unfolding is_well_declared suits_kind
still_held actions tale held = record {
  made = record {
    declared = held.made.declared;
    begins = held.made.begins;
    kinds = held.made.kinds;
    suited = held.made.suited;
    placed = held.made.placed;
    tree = held.made.tree;
    exits = held.made.exits;
  };
  texts = held.texts;
}

pub kept_with : (actions : List Needs) (tale : Tale) → IsKept tale → IsKept (told_with actions tale)
kept_with actions tale kept = record { held = still_held actions tale kept.held; words = kept.words }
