use Rattle.std.proofs.Common.{false, get_or-set_same, subst}
use Rattle.std.specs.Prelude.{pos}
use Rattle.world_store.specs.StoryWorlds.{IsKept, StoryWorld}
use Rattle.world_store.proofs.LawLemmas.{flag_read, number_read, place_read, value_read}
use Rattle.world_store.proofs.laws.what_is_set_is_read.Goals as goal

pub returns : goal.returns
returns c =
    let t = c.args.world.now.tables in
    let w = c.args.world.now.world in
    let kept = subst (λ (s : StoryWorld). IsKept s.tables s.world) c.world.view_is c.world.invariant.now in
    record {
      flags = λ property o value has. flag_read t w property o value kept has;
      numbers = λ property o value has. number_read t w property o value kept has;
      values = λ kind o value has. value_read t w kind o value kept has;
      places = λ o place there. place_read t w o place kept there;
      variables = λ variable value there. get_or-set_same w.variables variable value (pos 0) there;
      scenes = λ scene now there. get_or-set_same w.scenes scene now (record { happens = false; has_begun = false }) there;
    }
