use Rattle.play_meaning.specs.declared.outcome.Flow.TheVariants.{GoesOn}
use Rattle.action_stages.proofs.Tests.{breaks_so, reads_so, truth_so}
use Rattle.action_stages.proofs.conditions.test.Goals as goal

pub read_plain-requires-clause-stands : goal.read_plain-requires-clause-stands
read_plain-requires-clause-stands c =
    reads_so c.args.world.now.tables c.args.codes.now c.requires.told c.args.now.now c.args.world.now.world c.args.code c.requires.test c.new-state.result c.new-text.result.items
    c.new-state.ensures c.new-text.ensures.items c.runs_begin_standing.ensures.reads

pub returns-in-Ok : goal.returns-in-Ok
returns-in-Ok c =
    truth_so c.args.world.now.tables c.args.codes.now c.requires.told c.args.now.now c.args.world.now.world c.args.code c.requires.test c.new-state.result c.new-text.result.items
    c.new-state.ensures c.new-text.ensures.items
    c.runs_begin_standing.ensures.reads c.sound_codes_run.ensures.tests c.in-Ok.truth GoesOn _ c.in-Ok.ensures.read

pub returns : goal.returns
returns c = λ other.
    breaks_so c.args.world.now.tables c.args.codes.now c.requires.told c.args.now.now c.args.world.now.world c.args.code c.requires.test c.new-state.result c.new-text.result.items
    c.new-state.ensures c.new-text.ensures.items
    c.in-Err.reason (c.in-Err.ensures.read other)
