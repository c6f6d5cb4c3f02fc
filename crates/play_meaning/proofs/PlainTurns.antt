-- Turns and the opening of a story without rules of its own.
use Rattle.std.proofs.Common.{◌≡◌, ◌∙◌, ap, sym, ℕ, Bool, true, false, List, [], ◌∷◌, ◌++◌, ◌+◌, refl, Ok, Err, arith}
use Rattle.std.specs.Prelude.{Option, None, Some, map, slice_get, slice_set, slice_index_or, if◌then◌else◌}
use Rattle.play_meaning.specs.Attempts.{Attempt, next}
use Rattle.world_meaning.specs.Sight.{direction}
use Rattle.world_meaning.specs.declared.session.Abandon.{Abandon}
use Rattle.world_meaning.specs.declared.place.Place.{Place}
use Rattle.world_meaning.specs.declared.place.Rel.TheVariants.{In}
use Rattle.play_meaning.specs.Acting.{inner_of, progress_of}
use Rattle.play_meaning.specs.Changes.{make_so, may_be_put, put}
use Rattle.play_meaning.specs.Consulting.{consult}
use Rattle.play_meaning.specs.Deeds.{arrive, closed_text, come_to, go, going_to, is_closed, look, look_text, looked as behind_look, visit}
use Rattle.play_meaning.specs.Order.{book_of}
use Rattle.play_meaning.specs.PlainStories.{PlainStory, game_of_plain}
use Rattle.play_meaning.specs.Progress.{Progress, fresh, undecided}
use Rattle.play_meaning.specs.Scripts.{Script, begins_in, condition_holds, ends_in, game_of, rule_body, rule_condition, rule_is_about, telling_of}
use Rattle.play_meaning.specs.PlainTales.{IsPlain, story_of_script}
use Rattle.play_meaning.specs.Seeing.{has_light, root_of}
use Rattle.play_meaning.specs.Settings.{Setting}
use Rattle.play_meaning.specs.StandardRules.{rules_of_closing, rules_of_dropping, rules_of_examining, rules_of_going, rules_of_inserting, rules_of_inventory, rules_of_looking, rules_of_opening, rules_of_putting, rules_of_switching, rules_of_taking, rules_of_wearing, standard_rules}
use Rattle.play_meaning.specs.Turns.{count_turn, follow, look_round, no_action, opening, parts, pass, perform, turn, unless_over}
use Rattle.play_meaning.specs.Values.{beyond}
use Rattle.play_meaning.specs.Worlds.{World, location_of, set_flag, set_place}
use Rattle.play_meaning.specs.declared.action.ActionNow.{ActionNow}
use Rattle.play_meaning.proofs.Going.{LooksRound, gone}
use Rattle.play_meaning.proofs.Looking.{looked}

-- where an action without a decision has come to
dropped : (to : Attempt Progress) → progress_of (next to (λ q. Ok (undecided q))) ≡ to
dropped (Ok q) = refl
dropped (Err reason) = refl

looks_round : (k : PlainStory) → LooksRound k (inner_of (game_of_plain k) 16)
unfolding inner_of
looks_round k q most = ap progress_of (looked k (inner_of (game_of_plain k) 15) q most) ∙ dropped (look k q)

pub look_performed : (k : PlainStory) (w : World) → perform (game_of_plain k) look_round (fresh w) ≡ look k (fresh w)
look_performed k w = ap progress_of (looked k (inner_of (game_of_plain k) 16) (fresh w) (omega arith)) ∙ dropped (look k (fresh w))

pub go_performed : (k : PlainStory) (d : ℕ) (w : World) → root_of k.setting d ≡ Some direction → perform (game_of_plain k) (going_to d) (fresh w) ≡ go k d (fresh w)
go_performed k d w is_direction = gone k (inner_of (game_of_plain k) 16) d (fresh w) is_direction (omega arith) (looks_round k)

no_scenes : (k : PlainStory) (p : Progress) → pass (game_of_plain k) p ≡ Ok p
unfolding pass game_of_plain
no_scenes k p = refl

no_rules_outside : (k : PlainStory) (p : Progress) → (follow (game_of_plain k) 6 p ≡ Ok p) × (follow (game_of_plain k) 7 p ≡ Ok p)
unfolding consult book_of game_of_plain rules_of_looking rules_of_examining rules_of_taking rules_of_dropping rules_of_putting rules_of_inserting rules_of_opening rules_of_closing rules_of_going rules_of_wearing rules_of_inventory rules_of_switching standard_rules
no_rules_outside k p = (refl, refl)

-- a part that leaves the story going, and then the others
part_done : (part : Progress → Attempt Progress) (more : List (Progress → Attempt Progress)) (p q : Progress) → p.world.ended ≡ None → part p ≡ Ok q
    → parts (part ∷ more) p ≡ parts more q
part_done part more p q going done = ap (λ ended. next (unless_over ended part p) (parts more)) going ∙ ap (λ attempt. next attempt (parts more)) done

counted : (k : PlainStory) (q : Progress) (counted : Attempt Progress) → q.world.ended ≡ None → count_turn q ≡ counted
    → parts (count_turn ∷ pass (game_of_plain k) ∷ []) q ≡ counted
counted k q (Err reason) going is = ap (λ ended. next (unless_over ended count_turn q) (parts (pass (game_of_plain k) ∷ []))) going
    ∙ ap (λ attempt. next attempt (parts (pass (game_of_plain k) ∷ []))) is
counted k q (Ok r) going is = part_done count_turn (pass (game_of_plain k) ∷ []) q r going is ∙ last r r.world.ended refl
  where
    last : (r : Progress) (ended : Option (List ℕ)) → r.world.ended ≡ ended → parts (pass (game_of_plain k) ∷ []) r ≡ Ok r
    last r None e = part_done (pass (game_of_plain k)) [] r r e (no_scenes k r)
    last r (Some text) e = ap (λ ended. next (unless_over ended (pass (game_of_plain k)) r) (parts [])) e

-- a part that abandons play
part_broken : (part : Progress → Attempt Progress) (more : List (Progress → Attempt Progress)) (p : Progress) (reason : Abandon) → p.world.ended ≡ None → part p ≡ Err reason
    → parts (part ∷ more) p ≡ Err reason
part_broken part more p reason going broke = ap (λ ended. next (unless_over ended part p) (parts more)) going ∙ ap (λ attempt. next attempt (parts more)) broke

pub turn_counted : (k : PlainStory) (now : ActionNow) (p : Progress) (to : Attempt Progress) → p.world.ended ≡ None → perform (game_of_plain k) now p ≡ to
    → ((q : Progress) → to ≡ Ok q → q.world.ended ≡ None) → turn (game_of_plain k) now p ≡ next to count_turn
unfolding turn
turn_counted k now p (Err reason) going done on = let g = game_of_plain k in part_broken (perform g now) (pass g ∷ follow g 6 ∷ count_turn ∷ pass g ∷ []) p reason going done
turn_counted k now p (Ok q) going done on =
    let g = game_of_plain k in
    part_done (perform g now) (pass g ∷ follow g 6 ∷ count_turn ∷ pass g ∷ []) p q going done
    ∙ (part_done (pass g) (follow g 6 ∷ count_turn ∷ pass g ∷ []) q q (on q refl) (no_scenes k q)
    ∙ (part_done (follow g 6) (count_turn ∷ pass g ∷ []) q q (on q refl) (no_rules_outside k q).0
    ∙ counted k q (count_turn q) (on q refl) refl))

-- the last part
last_part : (part : Progress → Attempt Progress) (p : Progress) (to : Attempt Progress) → p.world.ended ≡ None → part p ≡ to → parts (part ∷ []) p ≡ to
last_part part p (Ok q) going is = part_done part [] p q going is
last_part part p (Err reason) going is = part_broken part [] p reason going is

pub opened_by_looking : (k : PlainStory) → k.start.ended ≡ None → opening (game_of_plain k) (fresh k.start) ≡ look k (fresh k.start)
unfolding opening
opened_by_looking k going =
    let g = game_of_plain k in
    part_done (pass g) (follow g 7 ∷ perform g look_round ∷ []) (fresh k.start) (fresh k.start) going (no_scenes k (fresh k.start))
    ∙ (part_done (follow g 7) (perform g look_round ∷ []) (fresh k.start) (fresh k.start) going (no_rules_outside k (fresh k.start)).1
    ∙ last_part (perform g look_round) (fresh k.start) (look k (fresh k.start)) going (look_performed k k.start))

-- ---- looking and going change flags and places alone

-- what of a world neither flags nor places decide
record IsApart {X : Type 0} (f : World → X) : Type 0 where
  flags : (w : World) (flags : List (List Bool)) → f (record w { flags = flags }) ≡ f w
  places : (w : World) (places : List (Option Place)) → f (record w { places = places }) ≡ f w

make_so_leaves : {X : Type 0} (f : World → X) → IsApart f → (s : Setting) (o : Option ℕ) (property : ℕ) (value : Bool) (w : World) → f (make_so s o property value w) ≡ f w
unfolding set_flag
make_so_leaves f apart s None property value w = refl
make_so_leaves f apart s (Some o) property value w = by_flag (s.has_flag o property)
  where
    by_flag : (has : Bool) → f (if has then record w { flags = slice_set w.flags property (slice_set (slice_index_or w.flags property []) o value) } else w) ≡ f w
    by_flag true = apart.flags w (slice_set w.flags property (slice_set (slice_index_or w.flags property []) o value))
    by_flag false = refl

visit_leaves : {X : Type 0} (f : World → X) → IsApart f → (s : Setting) (w : World) → f (visit s w) ≡ f w
visit_leaves f apart s w = by_light (has_light s w)
  where
    by_light : (light : Bool) → f (if light then make_so s (location_of w) 10 true w else w) ≡ f w
    by_light true = make_so_leaves f apart s (location_of w) 10 true w
    by_light false = refl

-- what is so of all that play may come to
abbrev Comes : (Progress → Type 0) → Attempt Progress → Type 0
Comes p to = (q : Progress) → to ≡ Ok q → p q

-- it leaves what was so
abbrev Leaves : {X : Type 0} → (World → X) → Progress → Attempt Progress → Type 0
Leaves f p = Comes (λ q. f q.world ≡ f p.world)

-- of the world that play has come to; of that one, where it is abandoned
abbrev of_ok : {X : Type 0} → (World → X) → Progress → Attempt Progress → X
of_ok f p (Ok q) = f q.world
of_ok f p (Err reason) = f p.world

look_leaves : {X : Type 0} (f : World → X) → IsApart f → (k : PlainStory) (p : Progress) → Leaves f p (look k p)
look_leaves f apart k p = by (look_text k p.world)
  where
    by : (text : Attempt (List ℕ)) → Leaves f p (next text (λ said. Ok (behind_look k p said)))
    by (Ok said) q is = ap (of_ok f p) (sym is) ∙ visit_leaves f apart k.setting p.world
    by (Err reason) q is = absurd cc

put_leaves : {X : Type 0} (f : World → X) → IsApart f → (s : Setting) (room : ℕ) (w : World) → f (put s (Some 0) In (Some room) w) ≡ f w
put_leaves f apart s room w = by_rule (may_be_put s w 0 (record { relation = In; holder = room }))
  where
    by_rule : (may : Bool) → f (if may then set_place 0 (Some (record { relation = In; holder = room })) w else w) ≡ f w
    by_rule true = apart.places w (slice_set w.places 0 (Some (record { relation = In; holder = room })))
    by_rule false = refl

arrive_leaves : {X : Type 0} (f : World → X) → IsApart f → (k : PlainStory) (p : Progress) (room : Option ℕ) → Leaves f p (arrive k p room)
arrive_leaves f apart k p None q is = ap (of_ok f p) (sym is)
arrive_leaves f apart k p (Some room) q is = look_leaves f apart k (come_to k room p) q is ∙ put_leaves f apart k.setting room p.world

go_leaves : {X : Type 0} (f : World → X) → IsApart f → (k : PlainStory) (d : ℕ) (p : Progress) → Leaves f p (go k d p)
go_leaves f apart k d p = by_door (is_closed k.setting p.world door)
  where
    door : Option ℕ
    door = beyond k.setting k.setting.door_beyond (Some d) (location_of p.world)

    by_door : (closed : Bool)
        → Leaves f p (if closed then Ok (record p { text = p.text ++ closed_text k.setting door; work = p.work + 1 }) else arrive k p (beyond k.setting k.setting.room_beyond (Some d) (location_of p.world)))
    by_door true q is = ap (of_ok f p) (sym is)
    by_door false q is = arrive_leaves f apart k p (beyond k.setting k.setting.room_beyond (Some d) (location_of p.world)) q is

-- they end no story and count no turn
ended_apart : IsApart (λ w. w.ended)
ended_apart = record { flags = λ w flags. refl; places = λ w places. refl }

pub look_ended : (k : PlainStory) (p : Progress) → Leaves (λ w. w.ended) p (look k p)
look_ended = look_leaves (λ w. w.ended) ended_apart

pub go_ended : (k : PlainStory) (d : ℕ) (p : Progress) → Leaves (λ w. w.ended) p (go k d p)
go_ended = go_leaves (λ w. w.ended) ended_apart

pub look_turn : (k : PlainStory) (w : World) → w.ended ≡ None → turn (game_of_plain k) look_round (fresh w) ≡ next (look k (fresh w)) count_turn
look_turn k w going = turn_counted k look_round (fresh w) (look k (fresh w)) going (look_performed k w) (λ q is. look_ended k (fresh w) q is ∙ going)

pub go_turn : (k : PlainStory) (d : ℕ) (w : World) → root_of k.setting d ≡ Some direction → w.ended ≡ None
    → turn (game_of_plain k) (going_to d) (fresh w) ≡ next (go k d (fresh w)) count_turn
go_turn k d w is_direction going = turn_counted k (going_to d) (fresh w) (go k d (fresh w)) going (go_performed k d w is_direction) (λ q is. go_ended k d (fresh w) q is ∙ going)

-- ---- the game of a script without rules of its own

pub plain_script : (script : Script) → IsPlain script → game_of script ≡ game_of_plain (story_of_script script)
unfolding game_of game_of_plain story_of_script
plain_script script is = λ i. record {
  start = script.start;
  telling = telling_of script;
  books = book_of script.setting (is.rules i);
  needs = is.needs i;
  is_about = λ rule now w. rule_is_about script.setting now w (slice_get (is.rules i) rule);
  holds = λ rule now w. rule_condition script.setting now w (slice_get (is.rules i) rule);
  body = λ rule inner now p. rule_body (telling_of script) inner now p (slice_get (is.rules i) rule);
  scenes = map (λ scene. scene.recurs) (is.scenes i);
  begins = λ scene w. condition_holds script.setting no_action w (begins_in (slice_get (is.scenes i) scene));
  ends = λ scene w. condition_holds script.setting no_action w (ends_in (slice_get (is.scenes i) scene));
  reads = script.reads;
}
