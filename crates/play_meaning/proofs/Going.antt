-- What going comes to, by its rules one behind the other.
use Rattle.std.proofs.Common.{◌≡◌, ◌∙◌, ap, sym, ℕ, ◌+◌, Bool, true, false, List, [], ◌∷◌, ◌++◌, ◌<◌, ◌≤◌, refl, Ok, Err, nat_lt, arith}
use Rattle.std.specs.Prelude.{Option, None, Some, map}
use Rattle.std.proofs.lemmas.Bool.{lt-ltb}
use Rattle.play_meaning.specs.Attempts.{Attempt, next}
use Rattle.world_meaning.specs.Texts.{no_way_text}
use Rattle.world_meaning.specs.Sight.{direction}
use Rattle.world_meaning.specs.declared.place.Rel.TheVariants.{In}
use Rattle.play_meaning.specs.Acting.{access, act, carrying, progress_of, stages, visibility}
use Rattle.play_meaning.specs.Changes.{put}
use Rattle.play_meaning.specs.Consulting.{applies, ask, consult}
use Rattle.play_meaning.specs.Deeds.{closed_text, come_to, go, going_to, is_closed, look}
use Rattle.play_meaning.specs.Doing.{Inner, do_body, do_phrase}
use Rattle.play_meaning.specs.Order.{book_of}
use Rattle.play_meaning.specs.PlainStories.{PlainStory, game_of_plain}
use Rattle.play_meaning.specs.Progress.{Asked, Progress, first_decision, spend, undecided}
use Rattle.play_meaning.specs.Rules.{is_about}
use Rattle.play_meaning.specs.Saying.{said_in}
use Rattle.play_meaning.specs.Seeing.{is_visible, root_of}
use Rattle.play_meaning.specs.StandardActions.{standard_needs}
use Rattle.play_meaning.specs.StandardRules.{rules_of_closing, rules_of_dropping, rules_of_examining, rules_of_going, rules_of_inserting, rules_of_inventory, rules_of_looking, rules_of_opening, rules_of_putting, rules_of_switching, rules_of_taking, rules_of_wearing, standard_rules}
use Rattle.play_meaning.specs.Truth.{truth_in}
use Rattle.play_meaning.specs.Turns.{look_round}
use Rattle.play_meaning.specs.Values.{beyond, object_in}
use Rattle.play_meaning.specs.Worlds.{World, location_of}
use Rattle.play_meaning.specs.declared.outcome.Outcome.TheVariants.{Failure}
use Rattle.world_meaning.specs.declared.session.Abandon.{Abandon}
use Rattle.play_meaning.proofs.Looking.{At, after_asked, asked_first, before_asked, instead_asked}

abbrev door_of : PlainStory → ℕ → World → Option ℕ
door_of k d w = beyond k.setting k.setting.door_beyond (Some d) (location_of w)

abbrev room_of : PlainStory → ℕ → World → Option ℕ
room_of k d w = beyond k.setting k.setting.room_beyond (Some d) (location_of w)

-- ---- the four rules

closed_in : (k : PlainStory) (inner : Inner) (d : ℕ) (w : World) (text : List ℕ) (n : ℕ) → is_closed k.setting w (door_of k d w) ≡ true → nat_lt n 10000 ≡ true
    → ask (game_of_plain k) inner 2 (going_to d) 38 (At w text n) ≡ Ok (record { progress = At w (text ++ closed_text k.setting (door_of k d w)) (n + 1); decision = Some Failure })
unfolding applies ask do_phrase do_body spend is_about said_in game_of_plain rules_of_looking rules_of_examining rules_of_taking rules_of_dropping rules_of_putting rules_of_inserting rules_of_opening rules_of_closing rules_of_going rules_of_wearing rules_of_inventory rules_of_switching standard_rules truth_in object_in
closed_in k inner d w text n closed low = rw (low, closed) refl

open_in : (k : PlainStory) (inner : Inner) (d : ℕ) (w : World) (text : List ℕ) (n : ℕ) → is_closed k.setting w (door_of k d w) ≡ false → nat_lt n 10000 ≡ true
    → ask (game_of_plain k) inner 2 (going_to d) 38 (At w text n) ≡ Ok (undecided (At w text (n + 1)))
unfolding applies ask do_phrase do_body spend is_about said_in game_of_plain rules_of_looking rules_of_examining rules_of_taking rules_of_dropping rules_of_putting rules_of_inserting rules_of_opening rules_of_closing rules_of_going rules_of_wearing rules_of_inventory rules_of_switching standard_rules truth_in object_in
open_in k inner d w text n closed low = rw (low, closed) refl

no_way_in : (k : PlainStory) (inner : Inner) (d : ℕ) (w : World) (text : List ℕ) (n : ℕ) → room_of k d w ≡ None → nat_lt n 10000 ≡ true
    → ask (game_of_plain k) inner 2 (going_to d) 39 (At w text n) ≡ Ok (record { progress = At w (text ++ no_way_text) (n + 1); decision = Some Failure })
unfolding applies ask do_phrase do_body spend is_about said_in game_of_plain rules_of_looking rules_of_examining rules_of_taking rules_of_dropping rules_of_putting rules_of_inserting rules_of_opening rules_of_closing rules_of_going rules_of_wearing rules_of_inventory rules_of_switching standard_rules truth_in object_in
no_way_in k inner d w text n none low = rw (low, none) refl

way_in : (k : PlainStory) (inner : Inner) (d : ℕ) (w : World) (text : List ℕ) (n room : ℕ) → room_of k d w ≡ Some room → nat_lt n 10000 ≡ true
    → ask (game_of_plain k) inner 2 (going_to d) 39 (At w text n) ≡ Ok (undecided (At w text (n + 1)))
unfolding applies ask do_phrase do_body spend is_about said_in game_of_plain rules_of_looking rules_of_examining rules_of_taking rules_of_dropping rules_of_putting rules_of_inserting rules_of_opening rules_of_closing rules_of_going rules_of_wearing rules_of_inventory rules_of_switching standard_rules truth_in object_in
way_in k inner d w text n room some low = rw (low, some) refl

moved_in : (k : PlainStory) (inner : Inner) (d : ℕ) (w : World) (text : List ℕ) (n room : ℕ) → room_of k d w ≡ Some room → nat_lt n 10000 ≡ true
    → ask (game_of_plain k) inner 3 (going_to d) 40 (At w text n) ≡ Ok (undecided (At (put k.setting (Some 0) In (Some room) w) text (n + 1)))
unfolding applies ask do_phrase do_body spend is_about said_in game_of_plain rules_of_looking rules_of_examining rules_of_taking rules_of_dropping rules_of_putting rules_of_inserting rules_of_opening rules_of_closing rules_of_going rules_of_wearing rules_of_inventory rules_of_switching standard_rules truth_in object_in
moved_in k inner d w text n room some low = rw (low, some) refl

arrived_in : (k : PlainStory) (inner : Inner) (d : ℕ) (w : World) (text : List ℕ) (n : ℕ) (to : Attempt Progress) → inner.tries look_round (At w text (n + 1)) ≡ to → nat_lt n 10000 ≡ true
    → ask (game_of_plain k) inner 5 (going_to d) 41 (At w text n) ≡ next to (λ q. Ok (undecided q))
unfolding applies ask do_phrase do_body spend is_about said_in game_of_plain rules_of_looking rules_of_examining rules_of_taking rules_of_dropping rules_of_putting rules_of_inserting rules_of_opening rules_of_closing rules_of_going rules_of_wearing rules_of_inventory rules_of_switching standard_rules truth_in object_in
arrived_in k inner d w text n (Ok q) looked low = rw (low, looked) refl
arrived_in k inner d w text n (Err reason) looked low = rw (low, looked) refl

-- ---- the three books that hold them: no other rule is about going

abbrev checks_behind : List ℕ
checks_behind = 42 ∷ 43 ∷ 46 ∷ 53 ∷ 54 ∷ 57 ∷ 58 ∷ []

abbrev carry_outs_behind : List ℕ
carry_outs_behind = 44 ∷ 47 ∷ 49 ∷ 50 ∷ 55 ∷ 59 ∷ []

abbrev reports_behind : List ℕ
reports_behind = 45 ∷ 48 ∷ 51 ∷ 52 ∷ 56 ∷ 60 ∷ []

asked_in : PlainStory → Inner → ℕ → ℕ → List ℕ → Progress → Attempt Asked
asked_in k inner book d rules p = first_decision (map (ask (game_of_plain k) inner book (going_to d)) rules) p

check_first : (k : PlainStory) (inner : Inner) (d : ℕ) (p : Progress) → consult (game_of_plain k) inner 2 (going_to d) p ≡ asked_in k inner 2 d (38 ∷ 39 ∷ checks_behind) p
unfolding asked_in consult applies ask is_about book_of game_of_plain rules_of_looking rules_of_examining rules_of_taking rules_of_dropping rules_of_putting rules_of_inserting rules_of_opening rules_of_closing rules_of_going rules_of_wearing rules_of_inventory rules_of_switching standard_rules
check_first k inner d p = refl

carry_out_first : (k : PlainStory) (inner : Inner) (d : ℕ) (p : Progress) → consult (game_of_plain k) inner 3 (going_to d) p ≡ asked_in k inner 3 d (40 ∷ carry_outs_behind) p
unfolding asked_in consult applies ask is_about book_of game_of_plain rules_of_looking rules_of_examining rules_of_taking rules_of_dropping rules_of_putting rules_of_inserting rules_of_opening rules_of_closing rules_of_going rules_of_wearing rules_of_inventory rules_of_switching standard_rules
carry_out_first k inner d p = refl

report_first : (k : PlainStory) (inner : Inner) (d : ℕ) (p : Progress) → consult (game_of_plain k) inner 5 (going_to d) p ≡ asked_in k inner 5 d (41 ∷ reports_behind) p
unfolding asked_in consult applies ask is_about book_of game_of_plain rules_of_looking rules_of_examining rules_of_taking rules_of_dropping rules_of_putting rules_of_inserting rules_of_opening rules_of_closing rules_of_going rules_of_wearing rules_of_inventory rules_of_switching standard_rules
report_first k inner d p = refl

behind_asked : (k : PlainStory) (inner : Inner) (d : ℕ) (p : Progress)
    → (asked_in k inner 2 d checks_behind p ≡ Ok (undecided p)) × (asked_in k inner 3 d carry_outs_behind p ≡ Ok (undecided p))
    × (asked_in k inner 5 d reports_behind p ≡ Ok (undecided p))
unfolding asked_in applies ask is_about game_of_plain rules_of_looking rules_of_examining rules_of_taking rules_of_dropping rules_of_putting rules_of_inserting rules_of_opening rules_of_closing rules_of_going rules_of_wearing rules_of_inventory rules_of_switching standard_rules
behind_asked k inner d p = (refl, refl, refl)

-- a rule that decides nothing is asked, and then those behind it
then_asked : (k : PlainStory) (inner : Inner) (book d rule : ℕ) (rules : List ℕ) (p q : Progress) → ask (game_of_plain k) inner book (going_to d) rule p ≡ Ok (undecided q)
    → asked_in k inner book d (rule ∷ rules) p ≡ asked_in k inner book d rules q
unfolding asked_in
then_asked k inner book d rule rules p q e = asked_first (game_of_plain k) inner book (going_to d) rule rules p q e

-- one that abandons play does too
broken : (k : PlainStory) (inner : Inner) (book d rule : ℕ) (rules : List ℕ) (p : Progress) (reason : Abandon) → ask (game_of_plain k) inner book (going_to d) rule p ≡ Err reason
    → asked_in k inner book d (rule ∷ rules) p ≡ Err reason
unfolding asked_in
broken k inner book d rule rules p reason e = rw e refl

-- one that decides ends the consultation
decided : (k : PlainStory) (inner : Inner) (book d rule : ℕ) (rules : List ℕ) (p q : Progress)
    → ask (game_of_plain k) inner book (going_to d) rule p ≡ Ok (record { progress = q; decision = Some Failure })
    → asked_in k inner book d (rule ∷ rules) p ≡ Ok (record { progress = q; decision = Some Failure })
unfolding asked_in
decided k inner book d rule rules p q e = rw e refl

-- ---- going

-- in front of the check rules nothing stands in the way of one who goes in a direction
checked : (k : PlainStory) (inner : Inner) (d : ℕ) (p : Progress) → root_of k.setting d ≡ Some direction
    → act (game_of_plain k) inner (going_to d) p
    ≡ first_decision (consult (game_of_plain k) inner 2 (going_to d) ∷ consult (game_of_plain k) inner 3 (going_to d) ∷ consult (game_of_plain k) inner 4 (going_to d) ∷ consult (game_of_plain k) inner 5 (going_to d) ∷ []) p
unfolding act stages visibility access carrying is_visible game_of_plain standard_needs
checked k inner d p is_direction = rw (before_asked k inner (going_to d) p, is_direction, instead_asked k inner (going_to d) p) refl

-- what looking round comes to, where it is tried
abbrev pub LooksRound : PlainStory → Inner → Type 0
LooksRound k inner = (q : Progress) → q.work + 4 ≤ 10000 → inner.tries look_round q ≡ look k q

gone_closed : (k : PlainStory) (inner : Inner) (d : ℕ) (p : Progress) → root_of k.setting d ≡ Some direction → p.work + 8 ≤ 10000
    → is_closed k.setting p.world (door_of k d p.world) ≡ true
    → progress_of (act (game_of_plain k) inner (going_to d) p) ≡ go k d p
gone_closed k inner d p is_direction most closed =
    rw (
      checked k inner d p is_direction,
      check_first k inner d p,
      decided k inner 2 d 38 (39 ∷ checks_behind) p _ (closed_in k inner d p.world p.text p.work closed (lt-ltb p.work 10000 (omega arith))),
      closed,
    ) refl

gone_nowhere : (k : PlainStory) (inner : Inner) (d : ℕ) (p : Progress) → root_of k.setting d ≡ Some direction → p.work + 8 ≤ 10000
    → is_closed k.setting p.world (door_of k d p.world) ≡ false
    → room_of k d p.world ≡ None → progress_of (act (game_of_plain k) inner (going_to d) p) ≡ go k d p
gone_nowhere k inner d p is_direction most closed none =
    let work : p.work + 1 + 1 ≡ p.work + 2 = omega arith in
    rw (
      checked k inner d p is_direction,
      check_first k inner d p,
      then_asked k inner 2 d 38 (39 ∷ checks_behind) p (At p.world p.text (p.work + 1)) (open_in k inner d p.world p.text p.work closed (lt-ltb p.work 10000 (omega arith))),
      decided k inner 2 d 39 checks_behind (At p.world p.text (p.work + 1)) _ (no_way_in k inner d p.world p.text (p.work + 1) none (lt-ltb (p.work + 1) 10000 (omega arith))),
      closed,
      none,
      work,
    ) refl

-- the three books behind one another, where a way is there and no door is closed
check_passed : (k : PlainStory) (inner : Inner) (d room : ℕ) (w : World) (text : List ℕ) (n : ℕ) → n + 8 ≤ 10000
    → is_closed k.setting w (door_of k d w) ≡ false → room_of k d w ≡ Some room
    → consult (game_of_plain k) inner 2 (going_to d) (At w text n) ≡ Ok (undecided (At w text (n + 1 + 1)))
check_passed k inner d room w text n most closed some =
    check_first k inner d (At w text n)
    ∙ (then_asked k inner 2 d 38 (39 ∷ checks_behind) (At w text n) (At w text (n + 1)) (open_in k inner d w text n closed (lt-ltb n 10000 (omega arith)))
    ∙ (then_asked k inner 2 d 39 checks_behind (At w text (n + 1)) (At w text (n + 1 + 1)) (way_in k inner d w text (n + 1) room some (lt-ltb (n + 1) 10000 (omega arith)))
    ∙ (behind_asked k inner d (At w text (n + 1 + 1))).0))

carried_out : (k : PlainStory) (inner : Inner) (d room : ℕ) (w : World) (text : List ℕ) (n : ℕ) → n < 10000 → room_of k d w ≡ Some room
    → consult (game_of_plain k) inner 3 (going_to d) (At w text n) ≡ Ok (undecided (At (put k.setting (Some 0) In (Some room) w) text (n + 1)))
carried_out k inner d room w text n most some =
    carry_out_first k inner d (At w text n)
    ∙ (then_asked k inner 3 d 40 carry_outs_behind (At w text n) (At (put k.setting (Some 0) In (Some room) w) text (n + 1)) (moved_in k inner d w text n room some (lt-ltb n 10000 most))
    ∙ (behind_asked k inner d (At (put k.setting (Some 0) In (Some room) w) text (n + 1))).1)

reported : (k : PlainStory) (inner : Inner) (d : ℕ) (w : World) (text : List ℕ) (n : ℕ) (to : Attempt Progress) → LooksRound k inner → n + 5 ≤ 10000 → look k (At w text (n + 1)) ≡ to
    → consult (game_of_plain k) inner 5 (going_to d) (At w text n) ≡ next to (λ q. Ok (undecided q))
reported k inner d w text n (Ok q) looks most is =
    report_first k inner d (At w text n)
    ∙ (then_asked k inner 5 d 41 reports_behind (At w text n) q (arrived_in k inner d w text n (Ok q) (looks (At w text (n + 1)) (omega arith) ∙ is) (lt-ltb n 10000 (omega arith)))
    ∙ (behind_asked k inner d q).2)
reported k inner d w text n (Err reason) looks most is =
    report_first k inner d (At w text n)
    ∙ broken k inner 5 d 41 reports_behind (At w text n) reason (arrived_in k inner d w text n (Err reason) (looks (At w text (n + 1)) (omega arith) ∙ is) (lt-ltb n 10000 (omega arith)))

-- in the room beyond
abbrev there_in : PlainStory → ℕ → World → World
there_in k room w = put k.setting (Some 0) In (Some room) w

gone_to : (k : PlainStory) (inner : Inner) (d room : ℕ) (w : World) (text : List ℕ) (n : ℕ) (to : Attempt Progress) → root_of k.setting d ≡ Some direction → n + 8 ≤ 10000
    → LooksRound k inner → is_closed k.setting w (door_of k d w) ≡ false → room_of k d w ≡ Some room → look k (At (there_in k room w) text (n + 1 + 1 + 1 + 1)) ≡ to
    → progress_of (act (game_of_plain k) inner (going_to d) (At w text n)) ≡ to
gone_to k inner d room w text n (Ok q) is_direction most looks closed some is =
    rw (
      checked k inner d (At w text n) is_direction,
      check_passed k inner d room w text n most closed some,
      carried_out k inner d room w text (n + 1 + 1) (omega arith) some,
      after_asked k inner (going_to d) (At (there_in k room w) text (n + 1 + 1 + 1)),
      reported k inner d (there_in k room w) text (n + 1 + 1 + 1) (Ok q) looks (omega arith) is,
    ) refl
gone_to k inner d room w text n (Err reason) is_direction most looks closed some is =
    rw (
      checked k inner d (At w text n) is_direction,
      check_passed k inner d room w text n most closed some,
      carried_out k inner d room w text (n + 1 + 1) (omega arith) some,
      after_asked k inner (going_to d) (At (there_in k room w) text (n + 1 + 1 + 1)),
      reported k inner d (there_in k room w) text (n + 1 + 1 + 1) (Err reason) looks (omega arith) is,
    ) refl

-- going there is coming to the room and looking
go_is : (k : PlainStory) (d room : ℕ) (p : Progress) → is_closed k.setting p.world (door_of k d p.world) ≡ false → room_of k d p.world ≡ Some room → look k (come_to k room p) ≡ go k d p
go_is k d room p closed some = sym (rw (closed, some) refl)

gone_there : (k : PlainStory) (inner : Inner) (d room : ℕ) (p : Progress) → root_of k.setting d ≡ Some direction → p.work + 8 ≤ 10000
    → LooksRound k inner → is_closed k.setting p.world (door_of k d p.world) ≡ false
    → room_of k d p.world ≡ Some room → progress_of (act (game_of_plain k) inner (going_to d) p) ≡ go k d p
gone_there k inner d room p is_direction most looks closed some =
    let work : p.work + 1 + 1 + 1 + 1 ≡ p.work + 4 = omega arith in
    gone_to k inner d room p.world p.text p.work (go k d p) is_direction most looks closed some
    (ap (λ n. look k (At (there_in k room p.world) p.text n)) work ∙ go_is k d room p closed some)

gone_by : (k : PlainStory) (inner : Inner) (d : ℕ) (p : Progress) (closed : Bool) (room : Option ℕ) → root_of k.setting d ≡ Some direction → p.work + 8 ≤ 10000 → LooksRound k inner
    → is_closed k.setting p.world (door_of k d p.world) ≡ closed → room_of k d p.world ≡ room → progress_of (act (game_of_plain k) inner (going_to d) p) ≡ go k d p
gone_by k inner d p true room is_direction most looks closed some = gone_closed k inner d p is_direction most closed
gone_by k inner d p false None is_direction most looks closed some = gone_nowhere k inner d p is_direction most closed some
gone_by k inner d p false (Some room) is_direction most looks closed some = gone_there k inner d room p is_direction most looks closed some

-- what trying to go comes to
pub gone : (k : PlainStory) (inner : Inner) (d : ℕ) (p : Progress) → root_of k.setting d ≡ Some direction → p.work + 8 ≤ 10000 → LooksRound k inner
    → progress_of (act (game_of_plain k) inner (going_to d) p) ≡ go k d p
gone k inner d p is_direction most looks = gone_by k inner d p (is_closed k.setting p.world (door_of k d p.world)) (room_of k d p.world) is_direction most looks refl refl
