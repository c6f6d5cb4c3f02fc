use Rattle.i7_resolution.specs.Resolutions.{scope_in}
use Rattle.story_file.proofs.Gathered.{ends}
use Rattle.story_file.proofs.texts.texts_of.Goals as goal

pub returns : goal.returns
returns c = ends (scope_in c.args.names.now) c.args.objects.now c.loop-rest.texts.items c.loop-rest.rest.now c.in_default.len_below c.loop-rest.invariant
