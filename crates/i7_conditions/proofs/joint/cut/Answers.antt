use Rattle.std.proofs.Common.{arith}
use Rattle.i7_conditions.specs.Conjoining.{is_joint}
use Rattle.i7_conditions.proofs.Runs.{no_cut, run_parts}
use Rattle.i7_conditions.proofs.joint.cut.Goals as goal

pub returns-in-empty-clause-parts : goal.returns-in-empty-clause-parts
returns-in-empty-clause-parts c = no_cut (is_joint c.args.joint) c.args.words.now _ c.part_len.result c.part_len.ensures.place (omega arith) c.split_at.ensures.front

pub returns-in-len1-up-clause-parts : goal.returns-in-len1-up-clause-parts
returns-in-len1-up-clause-parts c =
    (run_parts (is_joint c.args.joint) c.args.words.now c.part_len.result _ _ _ c.part_len.ensures.place (omega arith) c.split_at.ensures.front c.split_at.ensures.back c.split_at-in-len1-up.ensures.back).0
