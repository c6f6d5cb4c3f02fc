use Rattle.std.proofs.Common.{◌≡◌}
use Rattle.std.specs.Prelude.{option_map}
use Rattle.std.proofs.lemmas.Result.{IfOk-weaker}
use Rattle.i7_conditions.specs.Scopes.{scope_of}
use Rattle.i7_phrases.specs.BlockForms.{block_said, found_block}
use Rattle.i7_phrases.specs.Blocks.{Opens, block_is_over, is_block}
use Rattle.i7_phrases.specs.Told.{IsToldOf}
use Rattle.i7_phrases.proofs.Opened.{blocks_found}
use Rattle.i7_phrases.proofs.block.block_of.Goals as goal

pub returns : goal.returns
returns c =
    IfOk-weaker c.block_said.result (λ step. option_map found_block step ≡ block_said (scope_of c.args.scope.now) c.args.said.now)
    (λ step. IsToldOf (is_block c.args.said.now) (Opens (scope_of c.args.scope.now) c.args.said.now) block_is_over (option_map found_block step))
    (λ step e. blocks_found (scope_of c.args.scope.now) c.args.said.now (option_map found_block step) e) c.block_said.ensures
