use Rattle.std.proofs.Common.{◌≡◌, sym, ap, ◌∙◌, [], ◌∷◌, ◌++◌, subst}
use Rattle.story_code.specs.Emits.{AreSpelled}
use Rattle.story_code.specs.Spelling.{Spells}
use Rattle.story_code.proofs.Spelt.{spelled_end, spelled_step}
use Rattle.story_code.proofs.emit.spell_all.Goals as goal

pub loop-rest-init : goal.loop-rest-init
loop-rest-init c = λ bytes h.
    let first : c.push.new.self.items ≡ c.in_ok-spell.field-0.items ∷ [] = c.in_ok-push.ensures.items ∙ ap (λ all. all ++ c.new.result ∷ []) c.new-all.ensures.items ∙ ap (λ b. b ∷ []) c.new.ensures in
    subst (λ front. AreSpelled (front ++ bytes) (c.args.code.now ∷ c.args.tests.now)) (sym first) (c.in_ok-spell.ensures, h)

pub loop-rest-preserved : goal.loop-rest-preserved
loop-rest-preserved c = spelled_step _ _ _ c.loop-rest.rest.now _ c.test-item.result c.in-len1-up.len_at_least c.test-item.is (c.in_ok-push-2.ensures.items ∙ ap (λ b. c.loop-rest.all.items ++ b ∷ []) c.new-in-len1-up.ensures) (subst (Spells c.in_ok-spell-2.field-0.items) c.as_slice.ensures c.in_ok-spell-2.ensures) c.loop-rest.invariant

pub returns : goal.returns
returns c = spelled_end _ c.loop-rest.rest.now _ c.in_default.len_below c.loop-rest.invariant
