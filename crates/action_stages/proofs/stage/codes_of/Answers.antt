use Rattle.action_stages.proofs.Asked.{told_codes}
use Rattle.action_stages.proofs.stage.codes_of.Goals as goal

pub returns-clause-told : goal.returns-clause-told
returns-clause-told c = told_codes c.args.story.now c.codes.result.now c.codes.ensures.codes c.codes.ensures.sound c.codes.ensures.described c.codes.ensures.asked c.codes.ensures.done
