use Rattle.std.proofs.Common.{sym, subst}
use Rattle.i7_conditions.specs.Scopes.{scope_of}
use Rattle.i7_phrases.specs.Drafts.{Draft}
use Rattle.i7_phrases.specs.Texts.{found_text}
use Rattle.i7_phrases.proofs.Steps.{Leads, goes_nowhere, goes_on, goes_to_end, start_leads}
use Rattle.i7_phrases.proofs.text.text_of.Goals as goal

pub loop-rest-init : goal.loop-rest-init
loop-rest-init c = subst (λ (d : Draft). Leads (scope_of c.args.scope.now) c.args.pieces.now d c.args.pieces.now) (sym c.start-draft.ensures) (start_leads (scope_of c.args.scope.now) c.args.pieces.now)

pub loop-rest-preserved : goal.loop-rest-preserved
loop-rest-preserved c =
    goes_on (scope_of c.args.scope.now) c.args.pieces.now c.loop-rest.rest.now c.piece-item.result c.loop-rest.draft c.in-Some.next c.in_ok-read_on.field-0 c.in-len1-up.len_at_least c.piece-item.is c.loop-rest.invariant
    c.in_ok-read_on.ensures c.in-Some.is

pub returns-in-None : goal.returns-in-None
returns-in-None c =
    goes_nowhere (scope_of c.args.scope.now) c.args.pieces.now c.loop-rest.rest.now c.piece-item.result c.loop-rest.draft c.in_ok-read_on.field-0 c.in-len1-up.len_at_least c.piece-item.is c.loop-rest.invariant
    c.in_ok-read_on.ensures c.in-None.is

pub returns : goal.returns
returns c = goes_to_end (scope_of c.args.scope.now) c.args.pieces.now c.loop-rest.rest.now c.loop-rest.draft (found_text c.ended.result) c.in_default.len_below c.loop-rest.invariant c.ended.ensures
