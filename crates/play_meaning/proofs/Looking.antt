-- What looking comes to, by its rules one behind the other.
use Rattle.std.proofs.Common.{◌≡◌, ◌∙◌, ap, sym, ℕ, ◌+◌, Bool, true, false, List, [], ◌∷◌, ◌++◌, ◌≤◌, append_assoc, refl, Ok, Err, nat_lt, length, suc, arith}
use Rattle.std.specs.Prelude.{map, int_le, pos, if◌then◌else◌}
use Rattle.std.proofs.lemmas.Bool.{le-leb, lt-ltb}
use Rattle.std.proofs.lemmas.List.{append-nil}
use Rattle.play_meaning.specs.Attempts.{Attempt, next}
use Rattle.play_meaning.specs.Acting.{access, act, carrying, dark_text, stages, visibility}
use Rattle.play_meaning.specs.Consulting.{applies, ask, consult}
use Rattle.play_meaning.specs.Deeds.{body_text, contents_text, heading, look, looked as behind_look, on_view, view_text, visit}
use Rattle.play_meaning.specs.Doing.{Inner, do_body, do_phrase}
use Rattle.play_meaning.specs.Games.{Game}
use Rattle.play_meaning.specs.Order.{book_of}
use Rattle.play_meaning.specs.PlainStories.{PlainStory, game_of_plain, plain_telling}
use Rattle.play_meaning.specs.Progress.{Asked, Progress, first_decision, spend, undecided}
use Rattle.play_meaning.specs.Rules.{is_about}
use Rattle.play_meaning.specs.Saying.{description_in, said_in, then_said}
use Rattle.play_meaning.specs.Scripts.{scope_of}
use Rattle.play_meaning.specs.Seeing.{has_light}
use Rattle.play_meaning.specs.StandardActions.{standard_needs}
use Rattle.play_meaning.specs.StandardRules.{rules_of_closing, rules_of_dropping, rules_of_examining, rules_of_going, rules_of_inserting, rules_of_inventory, rules_of_looking, rules_of_opening, rules_of_putting, rules_of_switching, rules_of_taking, rules_of_wearing, room_contents, standard_rules}
use Rattle.play_meaning.specs.Truth.{truth_in}
use Rattle.play_meaning.specs.Turns.{look_round}
use Rattle.play_meaning.specs.Values.{is_one, number_in, object_in, those}
use Rattle.play_meaning.specs.Worlds.{World, location_of}
use Rattle.world_meaning.specs.declared.session.Abandon.{Abandon}
use Rattle.play_meaning.specs.declared.action.ActionNow.{ActionNow}

-- play that has come to this world, with this said and this work done
abbrev pub At : World → List ℕ → ℕ → Progress
At w text n = record { world = w; text = text; work = n }

-- a rule that decides nothing is asked, and then the others
pub asked_first : (g : Game) (inner : Inner) (book : ℕ) (now : ActionNow) (rule : ℕ) (others : List ℕ) (p q : Progress) → ask g inner book now rule p ≡ Ok (undecided q)
    → first_decision (map (ask g inner book now) (rule ∷ others)) p ≡ first_decision (map (ask g inner book now) others) q
asked_first g inner book now rule others p q e = rw e refl

-- ---- the four rules

heading_in : (k : PlainStory) (inner : Inner) (w : World) (text : List ℕ) (n : ℕ) (light : Bool) → has_light k.setting w ≡ light → nat_lt n 10000 ≡ true
    → ask (game_of_plain k) inner 3 look_round 0 (At w text n) ≡ Ok (undecided (At w (text ++ heading k w) (n + 1)))
unfolding applies ask do_phrase do_body spend is_about said_in game_of_plain rules_of_looking standard_rules truth_in object_in
heading_in k inner w text n false light low = rw (low, light) refl
heading_in k inner w text n true light low = rw (low, light) refl

-- what is said, if nothing is said behind it
then_nothing : (a : Attempt (List ℕ)) → then_said a (Ok []) ≡ a
then_nothing (Ok text) = ap Ok (append-nil text)
then_nothing (Err reason) = refl

-- the body of a room in light
lit_body : PlainStory → World → Attempt (List ℕ)
lit_body k w = description_in (plain_telling k) look_round w (location_of w)

-- behind what the body says
body_asked : Attempt (List ℕ) → World → List ℕ → ℕ → Attempt Asked
body_asked body w text n = next body (λ said. Ok (undecided (At w (text ++ said) (n + 1))))

body_in_light : (k : PlainStory) (inner : Inner) (w : World) (text : List ℕ) (n : ℕ) (body : Attempt (List ℕ)) → has_light k.setting w ≡ true → nat_lt n 10000 ≡ true
    → lit_body k w ≡ body → ask (game_of_plain k) inner 3 look_round 1 (At w text n) ≡ body_asked body w text n
unfolding lit_body body_asked applies ask do_phrase do_body spend is_about said_in game_of_plain rules_of_looking standard_rules truth_in object_in
body_in_light k inner w text n (Ok said) light low is = rw (low, light, is, append-nil said) refl
body_in_light k inner w text n (Err reason) light low is = rw (low, light, is) refl

body_in : (k : PlainStory) (inner : Inner) (w : World) (text : List ℕ) (n : ℕ) (light : Bool) → has_light k.setting w ≡ light → nat_lt n 10000 ≡ true
    → ask (game_of_plain k) inner 3 look_round 1 (At w text n) ≡ body_asked (body_text k w) w text n
unfolding lit_body body_asked applies ask do_phrase do_body spend is_about said_in game_of_plain rules_of_looking standard_rules truth_in object_in
body_in k inner w text n false light low = rw (low, light) refl
body_in k inner w text n true light low = body_in_light k inner w text n (lit_body k w) light low refl ∙ sym (ap (λ (lit : Bool). body_asked (if lit then lit_body k w else Ok dark_text) w text n) light)

one_at_least : (n : ℕ) → int_le (pos 1) (pos (suc n)) ≡ true
one_at_least n = le-leb 1 (suc n) (omega arith)

view_said : (k : PlainStory) (w : World) → those k.setting (scope_of look_round) w room_contents ≡ on_view k.setting w
unfolding those is_one object_in
view_said k w = refl

contents_in : (k : PlainStory) (inner : Inner) (w : World) (text : List ℕ) (n : ℕ) (light : Bool) (things : List ℕ) → has_light k.setting w ≡ light
    → those k.setting (scope_of look_round) w room_contents ≡ things
    → nat_lt n 10000 ≡ true → ask (game_of_plain k) inner 3 look_round 2 (At w text n) ≡ Ok (undecided (At w (text ++ (if light then view_text k.setting things else [])) (n + 1)))
unfolding applies ask do_phrase do_body spend is_about said_in game_of_plain rules_of_looking standard_rules truth_in object_in number_in
contents_in k inner w text n false things light are low = rw (low, light) (ap (λ t. Ok (undecided (At w t (n + 1)))) (sym (append-nil text)))
contents_in k inner w text n true [] light are low = rw (low, light, are) (ap (λ t. Ok (undecided (At w t (n + 1)))) (sym (append-nil text)))
contents_in k inner w text n true (o ∷ things) light are low = rw (low, light, are, one_at_least (length things)) refl

visit_in : (k : PlainStory) (inner : Inner) (w : World) (text : List ℕ) (n : ℕ) (light : Bool) → has_light k.setting w ≡ light → nat_lt n 10000 ≡ true
    → ask (game_of_plain k) inner 3 look_round 3 (At w text n) ≡ Ok (undecided (At (visit k.setting w) text (n + 1)))
unfolding applies ask do_phrase do_body spend is_about said_in game_of_plain rules_of_looking standard_rules truth_in object_in
visit_in k inner w text n false light low = rw (low, light) refl
visit_in k inner w text n true light low = rw (low, light) refl

-- ---- looking

-- the carry out rules behind those of looking
abbrev others : List ℕ
others = 5 ∷ 6 ∷ 7 ∷ 14 ∷ 17 ∷ 22 ∷ 28 ∷ 32 ∷ 36 ∷ 40 ∷ 44 ∷ 47 ∷ 49 ∷ 50 ∷ 55 ∷ 59 ∷ []

looking_book : (k : PlainStory) → (game_of_plain k).books 3 ≡ 0 ∷ 1 ∷ 2 ∷ 3 ∷ 4 ∷ others
unfolding book_of game_of_plain rules_of_looking rules_of_examining rules_of_taking rules_of_dropping rules_of_putting rules_of_inserting rules_of_opening rules_of_closing rules_of_going rules_of_wearing rules_of_inventory rules_of_switching standard_rules
looking_book k = refl

others_asked : (k : PlainStory) (inner : Inner) (p : Progress) → first_decision (map (ask (game_of_plain k) inner 3 look_round) (4 ∷ others)) p ≡ Ok (undecided p)
unfolding applies ask is_about game_of_plain rules_of_looking rules_of_examining rules_of_taking rules_of_dropping rules_of_putting rules_of_inserting rules_of_opening rules_of_closing rules_of_going rules_of_wearing rules_of_inventory rules_of_switching standard_rules
others_asked k inner p = refl

all_said : (w : World) (text a b c : List ℕ) (n : ℕ)
    → ◌≡◌ {A = Attempt Asked} (Ok (undecided (At w (((text ++ a) ++ b) ++ c) (n + 1 + 1 + 1 + 1)))) (Ok (undecided (At w (text ++ (a ++ b ++ c)) (n + 4))))
all_said w text a b c n =
    let work : n + 1 + 1 + 1 + 1 ≡ n + 4 = omega arith in
    rw (work, append_assoc text a b, append_assoc text (a ++ b) c) refl

-- a rule that abandons play ends the consultation
broken_off : (g : Game) (inner : Inner) (book : ℕ) (now : ActionNow) (rule : ℕ) (others : List ℕ) (p : Progress) (reason : Abandon) → ask g inner book now rule p ≡ Err reason
    → first_decision (map (ask g inner book now) (rule ∷ others)) p ≡ Err reason
broken_off g inner book now rule others p reason e = rw e refl

-- what a look is where the body's description is this
look_by : PlainStory → World → List ℕ → ℕ → Attempt (List ℕ) → Attempt Asked
look_by k w text n body = next body (λ said. Ok (undecided (behind_look k (At w text n) (heading k w ++ said ++ contents_text k w))))

look_is : (k : PlainStory) (w : World) (text : List ℕ) (n : ℕ) (body : Attempt (List ℕ)) → body_text k w ≡ body
    → next (look k (At w text n)) (λ q. Ok (undecided q)) ≡ look_by k w text n body
unfolding look_by
look_is k w text n (Ok said) is = rw is refl
look_is k w text n (Err reason) is = rw is refl

carried_by : (k : PlainStory) (inner : Inner) (w : World) (text : List ℕ) (n : ℕ) (body : Attempt (List ℕ)) → n + 4 ≤ 10000 → body_text k w ≡ body
    → consult (game_of_plain k) inner 3 look_round (At w text n) ≡ look_by k w text n body
unfolding consult look_by body_asked
carried_by k inner w text n (Err reason) most is =
    let g = game_of_plain k in
    ap (λ rules. first_decision (map (ask g inner 3 look_round) rules) (At w text n)) (looking_book k)
    ∙ (asked_first g inner 3 look_round 0 (1 ∷ 2 ∷ 3 ∷ 4 ∷ others) _ _ (heading_in k inner w text n (has_light k.setting w) refl (lt-ltb n 10000 (omega arith)))
    ∙ broken_off g inner 3 look_round 1 (2 ∷ 3 ∷ 4 ∷ others) _ reason
    (body_in k inner w (text ++ heading k w) (n + 1) (has_light k.setting w) refl (lt-ltb (n + 1) 10000 (omega arith)) ∙ ap (λ b. body_asked b w (text ++ heading k w) (n + 1)) is))
carried_by k inner w text n (Ok body) most is =
    let g = game_of_plain k in
    let said = contents_in k inner w ((text ++ heading k w) ++ body) (n + 1 + 1) (has_light k.setting w) (on_view k.setting w) refl
    (view_said k w) (lt-ltb (n + 1 + 1) 10000 (omega arith)) in
    ap (λ rules. first_decision (map (ask g inner 3 look_round) rules) (At w text n)) (looking_book k)
    ∙ (asked_first g inner 3 look_round 0 (1 ∷ 2 ∷ 3 ∷ 4 ∷ others) _ _ (heading_in k inner w text n (has_light k.setting w) refl (lt-ltb n 10000 (omega arith)))
    ∙ (asked_first g inner 3 look_round 1 (2 ∷ 3 ∷ 4 ∷ others) _ _
    (body_in k inner w (text ++ heading k w) (n + 1) (has_light k.setting w) refl (lt-ltb (n + 1) 10000 (omega arith)) ∙ ap (λ b. body_asked b w (text ++ heading k w) (n + 1)) is)
    ∙ (asked_first g inner 3 look_round 2 (3 ∷ 4 ∷ others) _ _ said
    ∙ (asked_first g inner 3 look_round 3 (4 ∷ others) _ _ (visit_in k inner w (((text ++ heading k w) ++ body) ++ contents_text k w) (n + 1 + 1 + 1) (has_light k.setting w) refl (lt-ltb (n + 1 + 1 + 1) 10000 (omega arith)))
    ∙ (others_asked k inner _ ∙ all_said (visit k.setting w) text (heading k w) body (contents_text k w) n)))))

carried_out : (k : PlainStory) (inner : Inner) (w : World) (text : List ℕ) (n : ℕ) → n + 4 ≤ 10000
    → consult (game_of_plain k) inner 3 look_round (At w text n) ≡ next (look k (At w text n)) (λ q. Ok (undecided q))
carried_out k inner w text n most = carried_by k inner w text n (body_text k w) most refl ∙ sym (look_is k w text n (body_text k w) refl)

-- the other books that an action passes
pub before_asked : (k : PlainStory) (inner : Inner) (now : ActionNow) (p : Progress) → consult (game_of_plain k) inner 0 now p ≡ Ok (undecided p)
unfolding consult book_of game_of_plain rules_of_looking rules_of_examining rules_of_taking rules_of_dropping rules_of_putting rules_of_inserting rules_of_opening rules_of_closing rules_of_going rules_of_wearing rules_of_inventory rules_of_switching standard_rules
before_asked k inner now p = refl

pub instead_asked : (k : PlainStory) (inner : Inner) (now : ActionNow) (p : Progress) → consult (game_of_plain k) inner 1 now p ≡ Ok (undecided p)
unfolding consult book_of game_of_plain rules_of_looking rules_of_examining rules_of_taking rules_of_dropping rules_of_putting rules_of_inserting rules_of_opening rules_of_closing rules_of_going rules_of_wearing rules_of_inventory rules_of_switching standard_rules
instead_asked k inner now p = refl

pub after_asked : (k : PlainStory) (inner : Inner) (now : ActionNow) (p : Progress) → consult (game_of_plain k) inner 4 now p ≡ Ok (undecided p)
unfolding consult book_of game_of_plain rules_of_looking rules_of_examining rules_of_taking rules_of_dropping rules_of_putting rules_of_inserting rules_of_opening rules_of_closing rules_of_going rules_of_wearing rules_of_inventory rules_of_switching standard_rules
after_asked k inner now p = refl

check_asked : (k : PlainStory) (inner : Inner) (p : Progress) → consult (game_of_plain k) inner 2 look_round p ≡ Ok (undecided p)
unfolding applies ask consult is_about book_of game_of_plain rules_of_looking rules_of_examining rules_of_taking rules_of_dropping rules_of_putting rules_of_inserting rules_of_opening rules_of_closing rules_of_going rules_of_wearing rules_of_inventory rules_of_switching standard_rules
check_asked k inner p = refl

report_asked : (k : PlainStory) (inner : Inner) (p : Progress) → consult (game_of_plain k) inner 5 look_round p ≡ Ok (undecided p)
unfolding applies ask consult is_about book_of game_of_plain rules_of_looking rules_of_examining rules_of_taking rules_of_dropping rules_of_putting rules_of_inserting rules_of_opening rules_of_closing rules_of_going rules_of_wearing rules_of_inventory rules_of_switching standard_rules
report_asked k inner p = refl

looked_to : (k : PlainStory) (inner : Inner) (p : Progress) (to : Attempt Progress) → p.work + 4 ≤ 10000 → look k p ≡ to → act (game_of_plain k) inner look_round p ≡ next to (λ q. Ok (undecided q))
unfolding act stages visibility access carrying game_of_plain standard_needs
looked_to k inner p (Ok q) most is =
    rw (
      before_asked k inner look_round p,
      instead_asked k inner look_round p,
      check_asked k inner p,
      carried_out k inner p.world p.text p.work most,
      is,
      after_asked k inner look_round q,
      report_asked k inner q,
    ) refl
looked_to k inner p (Err reason) most is =
    rw (
      before_asked k inner look_round p,
      instead_asked k inner look_round p,
      check_asked k inner p,
      carried_out k inner p.world p.text p.work most,
      is,
    ) refl

pub looked : (k : PlainStory) (inner : Inner) (p : Progress) → p.work + 4 ≤ 10000 → act (game_of_plain k) inner look_round p ≡ next (look k p) (λ q. Ok (undecided q))
looked k inner p most = looked_to k inner p (look k p) most refl
