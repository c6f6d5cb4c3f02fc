use Rattle.std.proofs.Common.{ap, ◌∙◌, ℕ}
use Rattle.std.specs.Prelude.{slice_get}
use Rattle.story_format.specs.declared.tables.Tables.{Tables}
use Rattle.action_stages.proofs.Asked.{applies_none, applies_some, asked_of}
use Rattle.action_stages.proofs.conditions.applies.Goals as goal

pub entry_applies-requires-clause-asked : goal.entry_applies-requires-clause-asked
entry_applies-requires-clause-asked c =
    asked_of c.args.world.now.tables c.args.rule c.args.now.now c.args.world.now.world c.args.codes.now c.requires.told c.in-Some.entry.now
    (c.in-Some.ensures.entry ∙ ap (λ (t : Tables). slice_get t.rules.rules c.from.result) c.story.ensures ∙ ap (λ (n : ℕ). slice_get c.args.world.now.tables.rules.rules n) c.from.ensures)

pub returns-in-None : goal.returns-in-None
returns-in-None c =
    applies_none c.args.world.now.tables c.args.rule c.args.now.now c.args.world.now.world
    (c.in-None.ensures.entry ∙ ap (λ (t : Tables). slice_get t.rules.rules c.from.result) c.story.ensures ∙ ap (λ (n : ℕ). slice_get c.args.world.now.tables.rules.rules n) c.from.ensures)

pub returns-in-Some : goal.returns-in-Some
returns-in-Some c =
    applies_some c.args.world.now.tables c.args.rule c.args.now.now c.args.world.now.world c.in-Some.entry.now c.entry_applies.result
    (c.in-Some.ensures.entry ∙ ap (λ (t : Tables). slice_get t.rules.rules c.from.result) c.story.ensures ∙ ap (λ (n : ℕ). slice_get c.args.world.now.tables.rules.rules n)
    c.from.ensures) c.entry_applies.ensures
