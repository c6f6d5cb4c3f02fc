-- What was said in three parts was said as one text.
use Rattle.std.proofs.Common.{◌≡◌, ℕ, Bool, false, List, [], ◌∷◌, ◌++◌, Option, ◌∙◌, ap, subst, sym}
use Rattle.std.specs.Prelude.{◌||◌, not, Result, if◌then◌else◌}
use Rattle.std.proofs.lemmas.List.{append_assoc}
use Rattle.play_meaning.specs.Acting.{access, asks_sight, fails, reach}
use Rattle.play_meaning.specs.Progress.{Progress, say}
use Rattle.play_meaning.specs.Seeing.{is_visible}
use Rattle.play_meaning.specs.Settings.{Setting}
use Rattle.play_meaning.specs.Truth.{of_some}
use Rattle.play_meaning.specs.declared.outcome.Outcome.{Outcome}
use Rattle.world_meaning.specs.Texts.{not_seen_text}
use Rattle.world_meaning.specs.declared.needs.Slot.{Slot}
use Rattle.world_meaning.specs.declared.session.Abandon.{Abandon}
use Rattle.action_stages.specs.Answering.{Answers, asked}

joined : (x front name : List ℕ) (a b : ℕ) → x ++ front ++ name ++ (a ∷ b ∷ []) ≡ x ++ (front ++ name ++ a ∷ [] ++ b ∷ [])
joined x front name a b =
    ap (λ t. t ++ (a ∷ b ∷ [])) (append_assoc x front name) ∙ append_assoc x (front ++ name) (a ∷ b ∷ [])
    ∙ ap (λ t. x ++ t) (sym (append_assoc (front ++ name) (a ∷ []) (b ∷ [])))

-- a text, a name and the last two bytes
pub named_said : (front name : List ℕ) (a b : ℕ) (p q r s : Progress) → q ≡ say front p → r ≡ say name q → s ≡ say (a ∷ b ∷ []) r
    → s ≡ say (front ++ name ++ a ∷ [] ++ b ∷ []) p
named_said front name a b p q r s to_q to_r to_s =
    to_s ∙ ap (say (a ∷ b ∷ [])) (to_r ∙ ap (say name) to_q) ∙ ap (λ text. record p { text = text }) (joined p.text front name a b)

-- a noun that isn't seen where it must be
pub unseen : (s : Setting) (slot : Slot) (noun : Option ℕ) (p q : Progress) (result : Result (Option Outcome) Abandon) (seen : Bool)
    → seen ≡ (not (asks_sight slot) || of_some noun (is_visible s p.world)) → seen ≡ false → Answers result (asked q) (fails not_seen_text p) → Answers result (asked q) (access s slot noun p)
unfolding access
unseen s slot noun p q result seen is none answers =
    subst (λ seen. Answers result (asked q) (if seen then reach s slot noun p else fails not_seen_text p)) (sym (sym is ∙ none)) answers
