use Rattle.std.proofs.Common.{List, ap}
use Rattle.std.specs.Prelude.{reverse}
use Rattle.std.proofs.lemmas.Result.{IfOk-weaker}
use Rattle.i7_conditions.specs.declared.line.Line.{Line}
use Rattle.i7_phrases.specs.Around.{around_of}
use Rattle.i7_rules.specs.Bodies.{IsBodyRead}
use Rattle.i7_rules.specs.Knowns.{known_of}
use Rattle.i7_rules.specs.ReadSoFar.{IsEnded, Lines}
use Rattle.i7_rules.proofs.ReadOn.{goes_nowhere, goes_on, goes_to_end, starts}
use Rattle.i7_rules.proofs.body.body_of.Goals as goal

pub loop-rest-init : goal.loop-rest-init
loop-rest-init c =
    starts (known_of c.args.known.now) c.args.phrases.now (around_of c.new-around.result) (Lines (reverse c.new.result.items)) c.new-around.ensures (ap (λ (items : List Line). Lines (reverse items)) c.new.ensures.items)

pub loop-rest-preserved : goal.loop-rest-preserved
loop-rest-preserved c =
    goes_on (known_of c.args.known.now) c.args.phrases.now c.loop-rest.rest.now c.phrase-item.result (around_of c.loop-rest.around) (around_of c.read_on.new.around) c.loop-rest.so_far c.in-Some.next
    c.in_ok-read_on.field-0 c.in-len1-up.len_at_least c.phrase-item.is c.loop-rest.invariant c.in_ok-read_on.ensures.around c.in_ok-read_on.ensures.read c.in-Some.is

pub returns-in-None : goal.returns-in-None
returns-in-None c =
    goes_nowhere (known_of c.args.known.now) c.args.phrases.now c.loop-rest.rest.now c.phrase-item.result (around_of c.loop-rest.around) c.loop-rest.so_far c.in_ok-read_on.field-0 c.in-len1-up.len_at_least
    c.phrase-item.is c.loop-rest.invariant c.in_ok-read_on.ensures.read c.in-None.is

pub returns : goal.returns
returns c =
    IfOk-weaker c.ended.result (λ read. IsEnded c.loop-rest.so_far read) (λ read. IsBodyRead (known_of c.args.known.now) c.args.phrases.now read)
    (λ read e. goes_to_end (known_of c.args.known.now) c.args.phrases.now c.loop-rest.rest.now (around_of c.loop-rest.around) c.loop-rest.so_far read c.in_default.len_below c.loop-rest.invariant e) c.ended.ensures
