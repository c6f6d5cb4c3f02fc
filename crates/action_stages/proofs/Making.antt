-- Changes that are made one behind the other.
use Rattle.std.proofs.Common.{◌≡◌, ◌∙◌, ap, sym, refl, true, List, [], ◌∷◌, ◌++◌, Ok, Err}
use Rattle.std.specs.Prelude.{OnOk, Result, is_ok}
use Rattle.play_meaning.specs.Effects.{all_made, made}
use Rattle.play_meaning.specs.Settings.{Setting}
use Rattle.play_meaning.specs.Worlds.{World}
use Rattle.play_meaning.specs.declared.change.Change.{Change}
use Rattle.world_meaning.specs.declared.session.Abandon.{Abandon}

pub held_so : {A : Type 0} (result : Result (Unit {0}) Abandon) → is_ok result ≡ true → OnOk result A → A
held_so (Ok done) is held = held
held_so (Err reason) is held = absurd cc

one_more_made : (s : Setting) (changes : List Change) (change : Change) (w : World) → all_made s (changes ++ change ∷ []) w ≡ made s (all_made s changes w) change
one_more_made s [] change w = refl
one_more_made s (first ∷ changes) change w = one_more_made s changes change (made s w first)

pub made_more : (result : Result (Unit {0}) Abandon) (s t : Setting) (changes : List Change) (change : Change) (w v u : World) → s ≡ t → v ≡ all_made s changes w
    → OnOk result (u ≡ made t v change) → OnOk result (u ≡ all_made s (changes ++ change ∷ []) w)
made_more (Ok done) s t changes change w v u same so is =
    is ∙ ap (λ (s : Setting). made s v change) (sym same) ∙ ap (λ (v : World). made s v change) so ∙ sym (one_more_made s changes change w)
made_more (Err reason) s t changes change w v u same so is = tt
