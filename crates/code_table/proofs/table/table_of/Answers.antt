use Rattle.std.proofs.Common.{arith}
use Rattle.code_table.proofs.Grown.{ends, ends_not, grows_not, grows_on}
use Rattle.code_table.proofs.table.table_of.Goals as goal

pub returns-then-not-branch : goal.returns-then-not-branch
returns-then-not-branch c =
    grows_not c.args.counts.now c.args.heads.now c.args.codes.now c.loop-rest.uses.items c.add_code.new.uses.items c.loop-rest.table.items c.add_code.new.table.items c.loop-rest.rest.now c.as_slice.result.now c.code-item.result
    c.in_ok-add_code.field-0 c.if-not-branch.true c.in-len1-up.len_at_least c.code-item.is c.as_slice.ensures c.in_ok-add_code.ensures c.loop-rest.invariant

pub loop-rest-preserved : goal.loop-rest-preserved
loop-rest-preserved c =
    grows_on c.args.counts.now c.args.heads.now c.args.codes.now c.loop-rest.uses.items c.add_code.new.uses.items c.loop-rest.table.items c.add_code.new.table.items c.loop-rest.rest.now c.as_slice.result.now c.code-item.result
    c.in_ok-add_code.field-0 c.if-not-branch.false c.in-len1-up.len_at_least c.code-item.is c.as_slice.ensures c.in_ok-add_code.ensures c.loop-rest.invariant

pub returns-then-len : goal.returns-then-len
returns-then-len c =
    ends_not c.args.counts.now c.args.heads.now c.args.codes.now c.loop-rest.uses.items c.loop-rest.table.items c.loop-rest.rest.now c.in_default.len_below
    (λ same. c.if-len.true (omega (arith, same, c.len.ensures, c.len-2.ensures, c.loop-rest.uses.ok, c.loop-rest.table.ok))) c.loop-rest.invariant

pub returns : goal.returns
returns c =
    ends c.args.counts.now c.args.heads.now c.args.codes.now c.loop-rest.uses.items c.loop-rest.table.items c.loop-rest.rest.now (omega (arith, c.if-codes-from.false, c.from.ensures)) c.in_default.len_below
    (omega (arith, c.if-len.false, c.len.ensures, c.len-2.ensures, c.loop-rest.uses.ok, c.loop-rest.table.ok)) c.loop-rest.invariant
