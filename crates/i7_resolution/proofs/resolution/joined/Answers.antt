use Rattle.std.proofs.Common.{◌≡◌, ap, ◌∙◌}
use Rattle.std.specs.Prelude.{Result}
use Rattle.world_meaning.specs.declared.fault.Fault.{Fault}
use Rattle.i7_resolution.specs.Resolutions.{both, resolution_by}
use Rattle.i7_resolution.proofs.resolution.joined.Goals as goal

both_of : {A B : Type 0} (told : Result (A × B) Fault) (x u : Result A Fault) (y v : Result B Fault) → told ≡ both x y → x ≡ u → y ≡ v → told ≡ both u v
both_of {A} {B} told x u y v is first second = is ∙ ap (λ (w : Result A Fault). both w y) first ∙ ap (λ (w : Result B Fault). both u w) second

pub returns : goal.returns
returns c =
    let two = both_of _ _ _ _ _ c.both-told.ensures c.rules_told.ensures c.texts_told.ensures in
    let three = both_of _ _ _ _ _ c.both-told-2.ensures two c.listings_told.ensures in
    let four = both_of _ _ _ _ _ c.both-told-3.ensures three c.scenes_told.ensures in
    let five = both_of _ _ _ _ _ c.both-told-4.ensures four c.grammar_told.ensures in
    c.resolution_by.ensures ∙ ap resolution_by five
