use Rattle.std.proofs.Common.{length}
use Rattle.i7_conditions.specs.Scopes.{scope_of}
use Rattle.i7_phrases.specs.Drafts.{draft_of}
use Rattle.i7_phrases.proofs.Steps.{Leads}
use Rattle.i7_phrases.proofs.text.text_of.Given as goal

abbrev pub invariant-loop-rest : goal.invariant-loop-rest
invariant-loop-rest l = Leads (scope_of l.scope) l.pieces (draft_of l.draft) l.rest

abbrev pub decreases-loop-rest : goal.decreases-loop-rest
decreases-loop-rest l = length l.rest
