use Rattle.std.proofs.Common.{arith}
use Rattle.code_table.proofs.Grown.{found_code, grows_by, no_next}
use Rattle.code_table.proofs.table.add_code.Goals as goal

pub returns-in-None : goal.returns-in-None
returns-in-None c = no_next c.args.counts.now c.args.uses.now.items c.args.table.now.items c.args.bytes.now _ c.len-number.result c.as_slice.result.now c.in_ok-code_of.field-0 (omega (arith, c.len-number.ensures, c.args.table.now.ok)) c.as_slice.ensures.value c.in-None.is c.in_ok-code_of.ensures

pub returns-in_ok-push-in-Some : goal.returns-in_ok-push-in-Some
returns-in_ok-push-in-Some c =
    grows_by c.args.counts.now c.args.uses.now.items c.args.table.now.items c.args.bytes.now c.len-number.result c.as_slice.result.now c.bytes.result.now c.in-Some.code c.in_ok-added-in-Some.added c.add_tests.new.uses.items c.push.new.self.items
    (omega (arith, c.len-number.ensures, c.args.table.now.ok)) c.as_slice.ensures.value (found_code _ _ _ _ c.in-Some.is c.in_ok-code_of.ensures) c.bytes.ensures c.in_ok-push-in-Some.ensures.items c.in_ok-added-in-Some.ensures
