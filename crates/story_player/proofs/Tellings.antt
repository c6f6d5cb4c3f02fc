-- What is written for a line that was answered, part by part.
use Rattle.std.proofs.Common.{◌≡◌, ℕ, Bool, true, false, List, [], ◌∷◌, ◌++◌, refl, ap, sym, ◌∙◌, subst}
use Rattle.std.specs.Prelude.{Option, if◌then◌else◌}
use Rattle.std.specs.Io.KnownBytes.{Appends}
use Rattle.play_meaning.specs.Sessions.{State, answer_to}
use Rattle.world_meaning.specs.Texts.{prompt}
use Rattle.play_meaning.specs.Transcripts.{while_going}
use Rattle.play_meaning.specs.Games.{Game}
use Rattle.story_player.specs.Steps.{Answered, BrokeAnswer, WroteFront, last_part, last_state, shown, typed_part}
use Rattle.story_player.specs.Typed.{Typing, is_untyped, typed_parts}
use Rattle.story_player.proofs.Writes.{appends-more, front-more, front-of_first}

pub shown-append : (echo : Bool) (a b : List ℕ) → shown echo (a ++ b) ≡ shown echo a ++ shown echo b
shown-append true a b = refl
shown-append false a b = refl

-- the line break of the echo couldn't be written whole
pub tell_break : (held a b : Option (List ℕ)) (echo : Bool) (kept text : List ℕ) → Appends held a (shown echo kept) → WroteFront a b (shown echo (10 ∷ [])) → WroteFront held b (shown echo (kept ++ 10 ∷ []) ++ text)
tell_break held a b echo kept text first second =
    subst (λ bs. WroteFront held b (bs ++ text)) (sym (shown-append echo kept (10 ∷ [])))
    (front-of_first held b (shown echo kept ++ shown echo (10 ∷ [])) text (front-more held a b (shown echo kept) (shown echo (10 ∷ [])) first second))

-- the text couldn't be written whole
pub tell_text : (held a b c : Option (List ℕ)) (echo : Bool) (kept text : List ℕ) → Appends held a (shown echo kept) → Appends a b (shown echo (10 ∷ [])) → WroteFront b c text → WroteFront held c (shown echo (kept ++ 10 ∷ []) ++ text)
tell_text held a b c echo kept text first second third =
    subst (λ bs. WroteFront held c (bs ++ text)) (sym (shown-append echo kept (10 ∷ [])))
    (front-more held b c (shown echo kept ++ shown echo (10 ∷ [])) text (appends-more held a b (shown echo kept) (shown echo (10 ∷ [])) first second) third)

abbrev pub part_told : Game → Bool → State → Typing → Option ℕ → List ℕ
part_told g echo state t = λ refused. typed_part g echo refused state t

abbrev pub state_told : Game → State → Typing → Option ℕ → State
state_told g state t = λ refused. (answer_to g refused state (typed_parts t)).state

abbrev pub part_last : Game → Bool → State → Typing → Option ℕ → List ℕ
part_last g echo state t = λ refused. last_part g echo refused state t

abbrev pub state_last : Game → State → Typing → Option ℕ → State
state_last g state t = λ refused. last_state g refused state t

pub last_part-typed : (g : Game) (echo : Bool) (refused : Option ℕ) (state : State) (t : Typing) → is_untyped t ≡ false → last_part g echo refused state t ≡ typed_part g echo refused state t ++ while_going (answer_to g refused state (typed_parts t)).state.ending prompt
last_part-typed g echo refused state t typed =
    ap (λ none. if none then [] else (typed_part g echo refused state t ++ while_going (answer_to g refused state (typed_parts t)).state.ending prompt)) typed

pub last_state-typed : (g : Game) (refused : Option ℕ) (state : State) (t : Typing) → is_untyped t ≡ false → last_state g refused state t ≡ (answer_to g refused state (typed_parts t)).state
last_state-typed g refused state t typed = ap (λ none. if none then state else (answer_to g refused state (typed_parts t)).state) typed

-- the last line couldn't be written whole
pub last_broke : (g : Game) (echo : Bool) (state to : State) (t : Typing) (held now : Option (List ℕ)) → is_untyped t ≡ false → BrokeAnswer (part_told g echo state t) (state_told g state t) held now to → BrokeAnswer (part_last g echo state t) (state_last g state t) held now to
last_broke g echo state to t held now typed broke = record {
  refused = broke.refused;
  writes = subst (λ bs. WroteFront held now bs) (sym (last_part-typed g echo broke.refused state t typed))
      (front-of_first held now (typed_part g echo broke.refused state t) (while_going (answer_to g broke.refused state (typed_parts t)).state.ending prompt) broke.writes);
  behind = broke.behind ∙ sym (last_state-typed g broke.refused state t typed);
}

-- the prompt behind it couldn't
pub last_prompt : (g : Game) (echo : Bool) (state to : State) (t : Typing) (held a now : Option (List ℕ)) → is_untyped t ≡ false → Answered (part_told g echo state t) (state_told g state t) held a to → WroteFront a now (while_going to.ending prompt) → BrokeAnswer (part_last g echo state t) (state_last g state t) held now to
last_prompt g echo state to t held a now typed told broke = record {
  refused = told.refused;
  writes = subst (λ bs. WroteFront held now bs) (sym (last_part-typed g echo told.refused state t typed))
      (front-more held a now (typed_part g echo told.refused state t) (while_going (answer_to g told.refused state (typed_parts t)).state.ending prompt) told.writes
      (subst (λ s. WroteFront a now (while_going s.ending prompt)) told.behind broke));
  behind = told.behind ∙ sym (last_state-typed g told.refused state t typed);
}
