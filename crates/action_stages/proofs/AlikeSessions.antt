-- Sessions of games that are played alike are one: their openings, their turns and their answers.
use Rattle.std.proofs.Common.{◌≡◌, ◌∙◌, ap, refl, ℕ, ◌+◌, Bool, true, false, List, [], ◌∷◌, ◌++◌, map, Option, None, Ok}
use Rattle.std.specs.Prelude.{not, ◌&&◌, ◌||◌, codes, if◌then◌else◌}
use Rattle.world_meaning.specs.declared.session.Abandon.TheVariants.{Memory}
use Rattle.world_meaning.specs.declared.session.ReplyKind.TheVariants.{Free, Kept}
use Rattle.play_meaning.specs.Acting.{progress_of}
use Rattle.play_meaning.specs.AllThings.{all_things}
use Rattle.play_meaning.specs.Attempts.{next}
use Rattle.play_meaning.specs.CommandLines.{Blank, Commands, Overlong, Parts, parts_of}
use Rattle.play_meaning.specs.Consulting.{every_turn_book, play_begins_book}
use Rattle.play_meaning.specs.Games.{Acts, ActsAll, Asks, Game, Quit, Reading, Says, Undo}
use Rattle.play_meaning.specs.Progress.{Progress, change, fresh, say}
use Rattle.play_meaning.specs.Seeing.{is_visible}
use Rattle.play_meaning.specs.Sessions.{Answer, State, abandoned, acted, acted_upon_all, answer_of, command_answer, commands_answer, followed as followed_by, goes_on_behind, keep, leads_on, meant, meant_among, opened, parts_answer, played, read_answer, refuses, unless_ended}
use Rattle.play_meaning.specs.Transcripts.{exchanges, first_refusal, later_refusals, while_going}
use Rattle.play_meaning.specs.Turns.{beginning_of, begins_book, begins_now, behind_action, completed, count_turn, ending_of, ends_book, follow, in_order, look_round, no_action, opening, parts, pass, perform, perform_upon, scene_steps, set_and_follow, turn, turn_upon, upon}
use Rattle.play_meaning.specs.Worlds.{scene_of, set_scene}
use Rattle.play_meaning.specs.declared.action.ActionNow.{ActionNow}
use Rattle.play_meaning.specs.declared.scene.SceneNow.{SceneNow}
use Rattle.action_stages.specs.Alike.{ArePlayedAlike}

module _ (g h : Game) (alike : ArePlayedAlike g h) where
  -- ---- turns

  followed : (book : ℕ) (p : Progress) → follow g book p ≡ follow h book p
  followed book p = ap progress_of (alike.consulted 16 book no_action p)

  performed : (now : ActionNow) (p : Progress) → perform g now p ≡ perform h now p
  performed now p = ap progress_of (alike.acted 16 now p)

  set_alike : (is : Bool) (scene : ℕ) (now : SceneNow) (book : ℕ) (p : Progress) → set_and_follow is g scene now book p ≡ set_and_follow is h scene now book p
  set_alike false scene now book p = refl
  set_alike true scene now book p = followed book (change (set_scene scene now) p)

  ended : (scene : ℕ) (p : Progress) → ending_of g scene p ≡ ending_of h scene p
  unfolding ending_of
  ended scene p =
      λ i. next (if (scene_of p.world scene).happens then alike.ends i scene p.world else Ok false)
      (λ ends. set_alike ends scene (record { happens = false; has_begun = true }) (ends_book scene) p i)

  begun : (recurs : Bool) (scene : ℕ) (p : Progress) → beginning_of g recurs scene p ≡ beginning_of h recurs scene p
  unfolding beginning_of
  begun recurs scene p =
      λ i. next (if (scene_of p.world scene).happens then Ok false else alike.begins i scene p.world)
      (λ begins. set_alike (begins_now begins (recurs || not (scene_of p.world scene).has_begun)) scene (record { happens = true; has_begun = true }) (begins_book scene) p i)

  steps : (scene : ℕ) (scenes : List Bool) → scene_steps g scene scenes ≡ scene_steps h scene scenes
  steps scene [] = refl
  steps scene (recurs ∷ more) = λ i. (λ p. ended scene p i) ∷ (λ p. begun recurs scene p i) ∷ steps (scene + 1) more i

  passed : (p : Progress) → pass g p ≡ pass h p
  unfolding pass
  passed p = ap (λ all. in_order all p) (steps 0 g.scenes ∙ ap (λ scenes. scene_steps h 0 scenes) alike.scenes)

  behind_so : behind_action g ≡ behind_action h
  behind_so = λ i. (λ q. passed q i) ∷ (λ q. followed every_turn_book q i) ∷ count_turn ∷ (λ q. passed q i) ∷ []

  turned : (now : ActionNow) (p : Progress) → turn g now p ≡ turn h now p
  unfolding turn
  turned now p = λ i. parts ((λ q. performed now q i) ∷ behind_so i) p

  performed_upon : (action o : ℕ) (p : Progress) → perform_upon g action o p ≡ perform_upon h action o p
  performed_upon action o p =
      λ i. next (performed (upon action o) (say ((alike.telling i).setting.name o ++ codes ": ") p) i) (λ q. Ok (record q { text = completed q.text }))

  upon_so : (action : ℕ) (objects : List ℕ) → (map (perform_upon g action) objects ++ behind_action g) ≡ (map (perform_upon h action) objects ++ behind_action h)
  upon_so action [] = behind_so
  upon_so action (o ∷ objects) = λ i. (λ p. performed_upon action o p i) ∷ upon_so action objects i

  turned_upon : (action : ℕ) (objects : List ℕ) (p : Progress) → turn_upon g action objects p ≡ turn_upon h action objects p
  unfolding turn_upon
  turned_upon action objects p = ap (λ all. parts all p) (upon_so action objects)

  opened_so : (p : Progress) → opening g p ≡ opening h p
  unfolding opening
  opened_so p = λ i. parts ((λ q. passed q i) ∷ (λ q. followed play_begins_book q i) ∷ (λ q. performed look_round q i) ∷ []) p

  -- ---- answers

  pub one_opening : opened g ≡ opened h
  unfolding opened
  one_opening =
      λ i. played Free [] (record { world = alike.start i; kept = []; question = None; ending = None })
      ((opened_so (fresh g.start) ∙ ap (λ w. opening h (fresh w)) alike.start) i)

  acted_so : (apart : Bool) (now : ActionNow) (s : State) → acted apart g now s ≡ acted apart h now s
  acted_so true now s = ap (played Free s.kept s) (performed now (fresh s.world))
  acted_so false now s = ap (played Kept (keep s.world s.kept) s) (turned now (fresh s.world))

  done_so : (now : ActionNow) (s : State) → acted (g.needs now.action).out_of_world g now s ≡ acted (h.needs now.action).out_of_world h now s
  done_so now s = acted_so (g.needs now.action).out_of_world now s ∙ (λ i. acted (alike.needs i now.action).out_of_world h now s)

  all_so : (action : ℕ) (s : State) → acted_upon_all g action s ≡ acted_upon_all h action s
  all_so action s =
      λ i. played Kept (keep s.world s.kept) s (turned_upon action (all_things (alike.telling i).setting s.world action) (fresh s.world) i)

  said_so : (refused : Bool) (s : State) (reading : Reading) → read_answer g refused s reading ≡ read_answer h refused s reading
  said_so refused s (Says text) = refl
  said_so refused s (Asks question text) = refl
  said_so refused s (Acts now) = λ i. if refused then abandoned Memory s else done_so now s i
  said_so refused s (ActsAll action) = λ i. if refused then abandoned Memory s else all_so action s i
  said_so refused s Undo = refl
  said_so refused s Quit = refl

  meant_so : (s : State) (words : List (List ℕ)) → meant g s words ≡ meant h s words
  meant_so s words =
      λ i. meant_among (alike.telling i).setting s.world (alike.reads i s.question (is_visible (alike.telling i).setting s.world) words)

  command_so : (refused : Bool) (s : State) (words : List (List ℕ)) → command_answer g refused s words ≡ command_answer h refused s words
  command_so refused s words = said_so refused s (meant g s words) ∙ ap (read_answer h refused s) (meant_so s words)

  commands_so : (refused : Option ℕ) (place : ℕ) (s : State) (words : List (List ℕ)) (more : List (List (List ℕ)))
      → commands_answer g refused place s words more ≡ commands_answer h refused place s words more
  unfolding commands_answer
  commands_so refused place s words [] = command_so (refuses refused place) s words
  commands_so refused place s words (next ∷ more) =
      let same = command_so (refuses refused place) s words in
      λ i. followed_by (leads_on (meant_so s words i) && goes_on_behind (same i).kind) (same i) (λ behind. commands_so refused (place + 1) behind next more i)

  parts_so : (refused : Option ℕ) (s : State) (parts : Parts) → parts_answer g refused s parts ≡ parts_answer h refused s parts
  parts_so refused s Blank = refl
  parts_so refused s Overlong = refl
  parts_so refused s (Commands words more) = commands_so refused 0 s words more

  pub one_answer : (refused : Option ℕ) (s : State) (line : List ℕ) → answer_of g refused s line ≡ answer_of h refused s line
  one_answer refused s line = ap (unless_ended s.ending s) (parts_so refused s (parts_of line))

  pub one_session : (refusals : List (Option ℕ)) (s : State) (lines : List (List ℕ)) → exchanges g refusals s lines ≡ exchanges h refusals s lines
  one_session refusals s [] = refl
  one_session refusals s (line ∷ lines) =
      let same = one_answer (first_refusal refusals) s line in
      let later = λ (answer : Answer). one_session (later_refusals refusals) answer.state lines in
      ap (while_going s.ending)
      ((λ i. record { line = line; answer = answer_of g (first_refusal refusals) s line } ∷ later (answer_of g (first_refusal refusals) s line) i)
      ∙ (λ i. record { line = line; answer = same i } ∷ exchanges h (later_refusals refusals) (same i).state lines))
