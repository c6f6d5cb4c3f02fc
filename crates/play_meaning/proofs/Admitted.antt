-- A rule that applies admits the action, its noun and the player's room.
use Rattle.std.proofs.Common.{◌≡◌, ℕ, Bool, true, false, refl}
use Rattle.std.specs.Prelude.{Option, None, Some, ◌&&◌}
use Rattle.std.proofs.lemmas.Bool.{and_parts}
use Rattle.play_meaning.specs.Admitting.{admits, may_be_met}
use Rattle.play_meaning.specs.Rules.{Anything, Aspect, Exactly, OfKind, Rule, is_about, is_action, is_happening, is_met}
use Rattle.play_meaning.specs.Settings.{Setting}
use Rattle.play_meaning.specs.Worlds.{World, location_of}
use Rattle.play_meaning.specs.declared.action.ActionNow.{ActionNow}

met_may : (s : Setting) (w : World) (aspect : Aspect) (o : Option ℕ) → is_met s w aspect o ≡ true → may_be_met s aspect o ≡ true
met_may s w Anything o met = refl
met_may s w (Exactly n) o met = met
met_may s w (OfKind kind adjectives) None met = met
met_may s w (OfKind kind adjectives) (Some o) met = (and_parts _ _ met).0

-- of five that hold, the first, the second and the fourth
parts : (a b c d e : Bool) → (a && b && c && d && e) ≡ true → (a ≡ true) × (b ≡ true) × (d ≡ true)
parts true true c true e all = (refl, refl, refl)
parts false b c d e all = absurd cc
parts true false c d e all = absurd cc
parts true true false false e all = absurd cc
parts true true true false e all = absurd cc

pub about_admits : (s : Setting) (w : World) (now : ActionNow) (rule : Rule) → is_about s w now rule ≡ true → admits s rule now.action now.noun (location_of w) ≡ true
unfolding is_about admits
about_admits s w now rule about =
    let all = parts (is_action rule.action now.action) (is_met s w rule.noun now.noun) (is_met s w rule.second now.second) (is_met s w rule.place (location_of w)) (is_happening w rule.scene) about in
    rw (all.0, met_may s w rule.noun now.noun all.1, met_may s w rule.place (location_of w) all.2) refl
