use Rattle.std.proofs.Common.{◌≡◌, ◌++◌, length}
use Rattle.play_meaning.specs.Saying.{listed_on}
use Rattle.story_code.specs.Longer.{IsLonger}
use Rattle.story_code.proofs.naming.say_others.Given as goal

abbrev pub invariant-loop-rest : goal.invariant-loop-rest
invariant-loop-rest g l =
    (l.text.items ++ listed_on (g.G.Ground.fixed l.ground).setting l.naming l.rest ≡ l.fn.text.items ++ listed_on (g.G.Ground.fixed l.ground).setting l.naming l.fn.objects)
    × IsLonger l.fn.text.items l.text.items

abbrev pub decreases-loop-rest : goal.decreases-loop-rest
decreases-loop-rest g l = length l.rest
