-- No step of a tale's game goes past the most work.
use Rattle.std.proofs.Common.{◌≡◌, ℕ, zero, suc, ◌+◌, ◌≤◌, nat_lt, Bool, true, false, List, [], ◌∷◌, ◌++◌, refl, Ok, Err, arith, ltb-true, map, subst}
use Rattle.std.specs.Prelude.{not, ◌||◌, ⊤, Option, None, Some, slice_get, if◌then◌else◌}
use Rattle.play_meaning.specs.Attempts.{Attempt, next}
use Rattle.play_meaning.specs.Turns.{most_turns}
use Rattle.world_meaning.specs.declared.session.Abandon.TheVariants.{NumberOutOfRange, TooMuchWork}
use Rattle.world_meaning.specs.Texts.{not_seen_text}
use Rattle.play_meaning.specs.Changes.{make_number}
use Rattle.play_meaning.specs.Seeing.{has_light, is_touchable, is_visible}
use Rattle.play_meaning.specs.Acting.{access, act, asks_sight, asks_touch, carrying, dark_text, fails, has_noun, inner_of, out_of_reach_text, progress_of, stages, unless, unless_held, visibility}
use Rattle.play_meaning.specs.Consulting.{applies, ask, consult, done_if, with_nouns}
use Rattle.play_meaning.specs.Doing.{Inner, changed, do_body, do_phrase, repeat, turn_if, turning_to}
use Rattle.play_meaning.specs.Games.{Game}
use Rattle.play_meaning.specs.Progress.{Asked, Done, Progress, change, first_decision, goes_on, most_work, say, spend, then_do, undecided, unless_decided, unless_left}
use Rattle.play_meaning.specs.Rules.{Rule}
use Rattle.play_meaning.specs.Saying.{Telling, chosen, said_in}
use Rattle.play_meaning.specs.Settings.{Setting, objects_of}
use Rattle.play_meaning.specs.Scripts.{Script, game_of, rule_body, scope_of, telling_of}
use Rattle.play_meaning.specs.Trees.{Body, End, EndStory, Follow, If, Instead, Leave, Move, NowHeld, NowIs, NowNowhere, NowNumber, NowValued, NowVariable, Phrase, Repeat, Say, Then, Try}
use Rattle.play_meaning.specs.Truth.{of_some, truth_in}
use Rattle.play_meaning.specs.Turns.{beginning_of, begins_book, begins_now, behind_action, completed, count_turn, ending_of, follow, in_order, look_round, name_first, opening, parts, pass, perform, perform_upon, scene_steps, set_and_follow, turn, turn_upon, unless_over, upon}
use Rattle.play_meaning.specs.Values.{Scope, is_one, number_in, object_in}
use Rattle.play_meaning.specs.Worlds.{World, next_turn, scene_of, set_variable}
use Rattle.play_meaning.specs.declared.action.ActionNow.{ActionNow}
use Rattle.world_meaning.specs.declared.needs.Slot.{Slot}
use Rattle.play_meaning.specs.declared.scene.SceneNow.{SceneNow}
use Rattle.play_meaning.specs.declared.outcome.Flow.{Flow}
use Rattle.play_meaning.specs.declared.outcome.Flow.TheVariants.{GoesOn, NoDecision, Decides}
use Rattle.play_meaning.specs.declared.outcome.Outcome.{Outcome}

-- what an attempt gives is so, if it gives anything
abbrev pub Gives : {A : Type 0} → (A → Type 0) → Attempt A → Type 0
Gives P (Ok a) = P a
Gives P (Err reason) = ⊤

-- not more than the most work
abbrev pub Within : Progress → Type 0
Within p = p.work ≤ most_work

abbrev pub DoneWithin : Done → Type 0
DoneWithin done = Within done.progress

abbrev pub AskedWithin : Asked → Type 0
AskedWithin asked = Within asked.progress

gives_next : {A B : Type 0} (P : A → Type 0) (Q : B → Type 0) (a : Attempt A) (f : A → Attempt B) → Gives P a → ((x : A) → P x → Gives Q (f x)) → Gives Q (next a f)
gives_next P Q (Ok x) f given on = on x given
gives_next P Q (Err reason) f given on = tt

-- whatever comes first
gives_behind : {A B : Type 0} (Q : B → Type 0) (a : Attempt A) (f : A → Attempt B) → ((x : A) → Gives Q (f x)) → Gives Q (next a f)
gives_behind Q (Ok x) f on = on x
gives_behind Q (Err reason) f on = tt

spend_within : (p : Progress) → Gives Within (spend p)
unfolding spend
spend_within p =
    let Goal : Bool → Type 0 = λ test. nat_lt p.work most_work ≡ test → Gives Within (if test then Ok (record p { work = p.work + 1 }) else Err TooMuchWork) in
    elim (nat_lt p.work most_work) as Goal [
      | true ↦ λ is. omega (arith, ltb-true p.work most_work is)
      | false ↦ λ is. tt
    ] refl

-- ---- bodies

-- what trying and following give stays within
pub record InnerWithin (inner : Inner) : Type 0 where
  pub tries : (now : ActionNow) (p : Progress) → Within p → Gives Within (inner.tries now p)
  pub follows : (book : ℕ) (now : ActionNow) (p : Progress) → Within p → Gives Within (inner.follows book now p)

left_within : (flow : Flow) (p : Progress) (more : Progress → Attempt Done) → Within p → ((q : Progress) → Within q → Gives DoneWithin (more q))
    → Gives DoneWithin (unless_left flow p more)
left_within GoesOn p more within on = on p within
left_within NoDecision p more within on = within
left_within (Decides outcome) p more within on = within

then_within : (first : Attempt Done) (more : Progress → Attempt Done) → Gives DoneWithin first
    → ((q : Progress) → Within q → Gives DoneWithin (more q)) → Gives DoneWithin (then_do first more)
then_within first more given on = gives_next DoneWithin DoneWithin first (λ done. unless_left done.flow done.progress more) given (λ done within. left_within done.flow done.progress more within on)

turn_within : (test : Bool) (does : Progress → Attempt Done) (p : Progress) → Within p → ((q : Progress) → Within q → Gives DoneWithin (does q))
    → Gives DoneWithin (turn_if test does p)
turn_within false does p within on = within
turn_within true does p within on = gives_next Within DoneWithin (spend p) does (spend_within p) on

repeat_within : (passes : ℕ → World → Bool) (does : ℕ → Progress → Attempt Done) (objects : List ℕ) (p : Progress) → Within p
    → ((o : ℕ) (q : Progress) → Within q → Gives DoneWithin (does o q)) → Gives DoneWithin (repeat passes does objects p)
repeat_within passes does [] p within on = within
repeat_within passes does (o ∷ objects) p within on =
    then_within (turn_if (passes o p.world) (does o) p) (repeat passes does objects) (turn_within (passes o p.world) (does o) p within (on o)) (λ q held. repeat_within passes does objects q held on)

chosen_within : (test : Bool) (a b : Attempt Done) → Gives DoneWithin a → Gives DoneWithin b → Gives DoneWithin (chosen test a b)
chosen_within true a b first second = first
chosen_within false a b first second = second

mutual
  unfolding do_phrase do_body

  pub phrase_within : (t : Telling) (inner : Inner) → InnerWithin inner → (phrase : Phrase) (scope : Scope) (p : Progress) → Within p
      → Gives DoneWithin (do_phrase t inner phrase scope p)
  phrase_within t inner i (Say text) scope p within = gives_behind DoneWithin (said_in t scope p.world text) (λ y. Ok (goes_on (say y p))) (λ bytes. within)
  phrase_within t inner i (NowIs o property value) scope p within = within
  phrase_within t inner i (NowHeld o relation holder) scope p within = within
  phrase_within t inner i (NowNowhere o) scope p within = within
  phrase_within t inner i (Move o holder) scope p within = within
  phrase_within t inner i (NowNumber property o number) scope p within = gives_behind DoneWithin (number_in t.setting scope p.world number) (λ y. changed (make_number t.setting (object_in t.setting scope p.world o) property y) p) (λ n. within)
  phrase_within t inner i (NowVariable v number) scope p within = gives_behind DoneWithin (number_in t.setting scope p.world number) (λ y. changed (set_variable v y) p) (λ n. within)
  phrase_within t inner i (NowValued o q value) scope p within = within
  phrase_within t inner i (Try silent action o other) scope p within = gives_next Within DoneWithin _ _ (i.tries _ p within) (λ q held. held)
  phrase_within t inner i (Follow book) scope p within = gives_next Within DoneWithin _ _ (i.follows book scope.now p within) (λ q held. held)
  phrase_within t inner i (Leave flow) scope p within = within
  phrase_within t inner i (EndStory text) scope p within = within
  phrase_within t inner i (If condition body otherwise) scope p within =
      gives_behind DoneWithin (truth_in t.setting scope p.world condition) _
      (λ holds. chosen_within holds (do_body t inner body scope p) (do_body t inner otherwise scope p) (body_within t inner i body scope p within) (body_within t inner i otherwise scope p within))
  phrase_within t inner i (Repeat description body) scope p within = repeat_within (λ y w. is_one t.setting scope w description y) _ (objects_of t.setting) p within (λ o q held. body_within t inner i body (turning_to scope o) q held)
  phrase_within t inner i (Instead phrase) scope p within = then_within (do_phrase t inner phrase scope p) _ (phrase_within t inner i phrase scope p within) (λ q held. held)

  body_within : (t : Telling) (inner : Inner) → InnerWithin inner → (body : Body) (scope : Scope) (p : Progress) → Within p
      → Gives DoneWithin (do_body t inner body scope p)
  body_within t inner i End scope p within = within
  body_within t inner i (Then phrase body) scope p within = then_within (do_phrase t inner phrase scope p) (do_body t inner body scope) (phrase_within t inner i phrase scope p within) (λ q held. body_within t inner i body scope q held)

-- ---- consultations

-- in a game whose bodies stay within, for whatever is tried and followed within
pub record BodiesWithin (g : Game) : Type 0 where
  pub body : (rule : ℕ) (inner : Inner) → InnerWithin inner → (now : ActionNow) (p : Progress) → Within p → Gives DoneWithin (g.body rule inner now p)

decided_within : (decision : Option Outcome) (p : Progress) (more : Attempt Asked) → Within p → Gives AskedWithin more
    → Gives AskedWithin (unless_decided decision p more)
decided_within None p more within given = given
decided_within (Some outcome) p more within given = within

-- steps that each stay within, one behind the other
abbrev pub StepsWithin : List (Progress → Attempt Asked) → Type 0
StepsWithin [] = ⊤
StepsWithin (step ∷ steps) = ((p : Progress) → Within p → Gives AskedWithin (step p)) × StepsWithin steps

first_within : (steps : List (Progress → Attempt Asked)) → StepsWithin steps → (p : Progress) → Within p → Gives AskedWithin (first_decision steps p)
first_within [] all p within = within
first_within (step ∷ steps) all p within =
    gives_next AskedWithin AskedWithin (step p) (λ asked. unless_decided asked.decision asked.progress (first_decision steps asked.progress)) (all.0 p within)
    (λ asked held. decided_within asked.decision asked.progress (first_decision steps asked.progress) held (first_within steps all.1 asked.progress held))

done_within : (test : Bool) (g : Game) → BodiesWithin g → (inner : Inner) → InnerWithin inner → (book : ℕ) (now : ActionNow) (rule : ℕ) (p : Progress)
    → Within p → Gives AskedWithin (done_if test g inner book now rule p)
done_within false g b inner i book now rule p within = within
done_within true g b inner i book now rule p within =
    gives_next Within AskedWithin (spend p) _ (spend_within p) (λ q held. gives_next DoneWithin AskedWithin (g.body rule inner now q) _ (b.body rule inner i now q held) (λ done over. over))

ask_within : (g : Game) → BodiesWithin g → (inner : Inner) → InnerWithin inner → (book : ℕ) (now : ActionNow) (rule : ℕ) (p : Progress) → Within p
    → Gives AskedWithin (ask g inner book now rule p)
unfolding ask
ask_within g b inner i book now rule p within = gives_behind AskedWithin (applies g rule now p.world) _ (λ test. done_within test g b inner i book now rule p within)

asks_within : (g : Game) → BodiesWithin g → (inner : Inner) → InnerWithin inner → (book : ℕ) (now : ActionNow) (rules : List ℕ)
    → StepsWithin (map (ask g inner book now) rules)
asks_within g b inner i book now [] = tt
asks_within g b inner i book now (rule ∷ rules) = (ask_within g b inner i book now rule, asks_within g b inner i book now rules)

consult_within : (g : Game) → BodiesWithin g → (inner : Inner) → InnerWithin inner → (book : ℕ) (now : ActionNow) (p : Progress) → Within p
    → Gives AskedWithin (consult g inner book now p)
unfolding consult
consult_within g b inner i book now p within = first_within (map (ask g inner book (with_nouns now)) (g.books book)) (asks_within g b inner i book (with_nouns now) (g.books book)) p within

-- ---- actions

unless_within : (test : Bool) (p : Progress) (otherwise : Attempt Asked) → Within p → Gives AskedWithin otherwise → Gives AskedWithin (unless test p otherwise)
unless_within true p otherwise within given = within
unless_within false p otherwise within given = given

light_within : (g : Game) (now : ActionNow) (p : Progress) → Within p → Gives AskedWithin (visibility g now p)
unfolding visibility
light_within g now p within =
    let is_met : Bool = not (g.needs now.action).light || has_light g.telling.setting p.world in
    unless_within is_met p (fails dark_text p) within within

either_within : (test : Bool) (a b : Attempt Asked) → Gives AskedWithin a → Gives AskedWithin b → Gives AskedWithin (if test then a else b)
either_within true a b first second = first
either_within false a b first second = second

access_within : (s : Setting) (slot : Slot) (noun : Option ℕ) (p : Progress) → Within p → Gives AskedWithin (access s slot noun p)
unfolding access
access_within s slot noun p within =
    let is_seen : Bool = not (asks_sight slot) || of_some noun (is_visible s p.world) in
    let is_touched : Bool = not (asks_touch slot) || of_some noun (is_touchable s p.world) in
    let out_of_reach : Attempt Asked = fails (out_of_reach_text s noun) p in
    either_within is_seen (unless is_touched p out_of_reach) (fails not_seen_text p) (unless_within is_touched p out_of_reach within within) within

carrying_within : (s : Setting) (inner : Inner) → InnerWithin inner → (slot : Slot) (noun : Option ℕ) (p : Progress) → Within p
    → Gives AskedWithin (carrying s inner slot noun p)
unfolding carrying
carrying_within s inner i slot noun p within =
    unless_within _ p _ within (gives_next Within AskedWithin _ (unless_held noun) (i.tries _ _ within) (λ q held. unless_within (has_noun q.world noun) q (fails [] q) held held))

report_within : (silent : Bool) (g : Game) → BodiesWithin g → (inner : Inner) → InnerWithin inner → (now : ActionNow) (p : Progress) → Within p
    → Gives AskedWithin (if silent then Ok (undecided p) else consult g inner 5 now p)
report_within true g b inner i now p within = within
report_within false g b inner i now p within = consult_within g b inner i 5 now p within

stages_within : (out : Bool) (g : Game) → BodiesWithin g → (inner : Inner) → InnerWithin inner → (now : ActionNow) → StepsWithin (stages out g inner now)
unfolding stages
stages_within true g b inner i now = (consult_within g b inner i 2 now, (consult_within g b inner i 3 now, (report_within now.silent g b inner i now, tt)))
stages_within false g b inner i now = (
  consult_within g b inner i 0 now,
  (
    light_within g now,
    (
      access_within g.telling.setting (g.needs now.action).noun now.noun,
      (
        access_within g.telling.setting (g.needs now.action).second now.second,
        (
          carrying_within g.telling.setting inner i (g.needs now.action).noun now.noun,
          (
            carrying_within g.telling.setting inner i (g.needs now.action).second now.second,
            (consult_within g b inner i 1 now, (consult_within g b inner i 2 now, (consult_within g b inner i 3 now, (consult_within g b inner i 4 now, (report_within now.silent g b inner i now, tt))))),
          ),
        ),
      ),
    ),
  ),
)

act_within : (g : Game) → BodiesWithin g → (inner : Inner) → InnerWithin inner → (now : ActionNow) (p : Progress) → Within p → Gives AskedWithin (act g inner now p)
unfolding act
act_within g b inner i now p within = first_within _ (stages_within (g.needs now.action).out_of_world g b inner i now) p within

progress_within : (asked : Attempt Asked) → Gives AskedWithin asked → Gives Within (progress_of asked)
progress_within asked given = gives_next AskedWithin Within asked _ given (λ a held. held)

inner_within : (g : Game) → BodiesWithin g → (left : ℕ) → InnerWithin (inner_of g left)
unfolding inner_of
inner_within g b zero = record { tries = λ now p within. tt; follows = λ book now p within. tt }
inner_within g b (suc left) = record {
  tries = λ now p within. progress_within _ (act_within g b (inner_of g left) (inner_within g b left) now p within);
  follows = λ book now p within. progress_within _ (consult_within g b (inner_of g left) (inner_within g b left) book now p within);
}

-- ---- turns

follow_within : (g : Game) → BodiesWithin g → (book : ℕ) (p : Progress) → Within p → Gives Within (follow g book p)
follow_within g b book p within = progress_within _ (consult_within g b (inner_of g 16) (inner_within g b 16) book _ p within)

perform_within : (g : Game) → BodiesWithin g → (now : ActionNow) (p : Progress) → Within p → Gives Within (perform g now p)
perform_within g b now p within = progress_within _ (act_within g b (inner_of g 16) (inner_within g b 16) now p within)

-- parts that each stay within
abbrev pub PartsWithin : List (Progress → Attempt Progress) → Type 0
PartsWithin [] = ⊤
PartsWithin (part ∷ more) = ((p : Progress) → Within p → Gives Within (part p)) × PartsWithin more

order_within : (steps : List (Progress → Attempt Progress)) → PartsWithin steps → (p : Progress) → Within p → Gives Within (in_order steps p)
order_within [] all p within = within
order_within (step ∷ steps) all p within = gives_next Within Within (step p) (in_order steps) (all.0 p within) (order_within steps all.1)

set_within : (test : Bool) (g : Game) → BodiesWithin g → (scene : ℕ) (now : SceneNow) (book : ℕ) (p : Progress) → Within p
    → Gives Within (set_and_follow test g scene now book p)
set_within false g b scene now book p within = within
set_within true g b scene now book p within = follow_within g b book _ within

ending_within : (g : Game) → BodiesWithin g → (scene : ℕ) (p : Progress) → Within p → Gives Within (ending_of g scene p)
unfolding ending_of
ending_within g b scene p within = gives_behind Within _ _ (λ test. set_within test g b scene _ _ p within)

beginning_within : (g : Game) → BodiesWithin g → (recurs : Bool) (scene : ℕ) (p : Progress) → Within p → Gives Within (beginning_of g recurs scene p)
unfolding beginning_of
beginning_within g b recurs scene p within =
    let holds : Attempt Bool = if (scene_of p.world scene).happens then Ok false else g.begins scene p.world in
    let may : Bool = recurs || not (scene_of p.world scene).has_begun in
    let begun : SceneNow = record { happens = true; has_begun = true } in
    gives_behind Within holds (λ begins. set_and_follow (begins_now begins may) g scene begun (begins_book scene) p)
    (λ begins. set_within (begins_now begins may) g b scene begun (begins_book scene) p within)

scenes_within : (g : Game) → BodiesWithin g → (scene : ℕ) (scenes : List Bool) → PartsWithin (scene_steps g scene scenes)
scenes_within g b scene [] = tt
scenes_within g b scene (recurs ∷ more) = (ending_within g b scene, (beginning_within g b recurs scene, scenes_within g b (scene + 1) more))

pass_within : (g : Game) → BodiesWithin g → (p : Progress) → Within p → Gives Within (pass g p)
unfolding pass
pass_within g b p within = order_within _ (scenes_within g b 0 g.scenes) p within

over_within : (ending : Option (List ℕ)) (part : Progress → Attempt Progress) (p : Progress) → Within p → Gives Within (part p) → Gives Within (unless_over ending part p)
over_within None part p within given = given
over_within (Some ending) part p within given = within

parts_within : (all : List (Progress → Attempt Progress)) → PartsWithin all → (p : Progress) → Within p → Gives Within (parts all p)
parts_within [] held p within = within
parts_within (part ∷ more) held p within = gives_next Within Within (unless_over p.world.ended part p) (parts more) (over_within p.world.ended part p within (held.0 p within)) (parts_within more held.1)

count_within : (p : Progress) → Within p → Gives Within (count_turn p)
count_within p within =
    let Goal : Bool → Type 0 = λ test. Gives Within (if test then Ok (change next_turn p) else Err NumberOutOfRange) in
    elim (nat_lt p.world.turns most_turns) as Goal [
      | true ↦ within
      | false ↦ tt
    ]

turn_of_within : (g : Game) → BodiesWithin g → (now : ActionNow) (p : Progress) → Within p → Gives Within (turn g now p)
unfolding turn
turn_of_within g b now p within =
    parts_within (perform g now ∷ pass g ∷ follow g 6 ∷ count_turn ∷ pass g ∷ [])
    (perform_within g b now, (pass_within g b, (follow_within g b 6, (count_within, (pass_within g b, tt))))) p within

-- parts in front of parts that each stay within
upon_within : (g : Game) → BodiesWithin g → (action : ℕ) (objects : List ℕ) (more : List (Progress → Attempt Progress)) → PartsWithin more
    → PartsWithin (map (perform_upon g action) objects ++ more)
upon_within g b action [] more held = held
upon_within g b action (o ∷ objects) more held = (
  (λ p within. gives_next Within Within (perform g (upon action o) (say (name_first g o) p)) (λ q. Ok (record q { text = completed q.text }))
      (perform_within g b (upon action o) (say (name_first g o) p) within) (λ q still. still)),
  upon_within g b action objects more held,
)

turn_upon_within : (g : Game) → BodiesWithin g → (action : ℕ) (objects : List ℕ) (p : Progress) → Within p → Gives Within (turn_upon g action objects p)
unfolding turn_upon
turn_upon_within g b action objects p within =
    parts_within (map (perform_upon g action) objects ++ behind_action g)
    (upon_within g b action objects (behind_action g) (pass_within g b, (follow_within g b 6, (count_within, (pass_within g b, tt))))) p within

opening_within : (g : Game) → BodiesWithin g → (p : Progress) → Within p → Gives Within (opening g p)
unfolding opening
opening_within g b p within = parts_within (pass g ∷ follow g 7 ∷ perform g look_round ∷ []) (pass_within g b, (follow_within g b 7, (perform_within g b look_round, tt))) p within

-- ---- a tale's game

rule_within : (t : Telling) (inner : Inner) → InnerWithin inner → (now : ActionNow) (p : Progress) (rule : Option Rule) → Within p
    → Gives DoneWithin (rule_body t inner now p rule)
rule_within t inner i now p None within = within
rule_within t inner i now p (Some rule) within = body_within t inner i rule.body (scope_of now) p within

script_within : (script : Script) → BodiesWithin (game_of script)
unfolding game_of
script_within script = record { body = λ rule inner i now p within. rule_within (telling_of script) inner i now p (slice_get script.rules rule) within }

given_ok : (a : Attempt Progress) (q : Progress) → Gives Within a → a ≡ Ok q → Within q
given_ok a q given is = subst (Gives Within) is given

pub turns_bounded : (script : Script) (now : ActionNow) (p q : Progress) → p.work ≤ most_work → turn (game_of script) now p ≡ Ok q → q.work ≤ most_work
turns_bounded script now p q within is = given_ok (turn (game_of script) now p) q (turn_of_within (game_of script) (script_within script) now p within) is

pub turns_upon_bounded : (script : Script) (action : ℕ) (objects : List ℕ) (p q : Progress) → p.work ≤ most_work → turn_upon (game_of script) action objects p ≡ Ok q
    → q.work ≤ most_work
turns_upon_bounded script action objects p q within is =
    given_ok (turn_upon (game_of script) action objects p) q (turn_upon_within (game_of script) (script_within script) action objects p within) is

pub openings_bounded : (script : Script) (p q : Progress) → p.work ≤ most_work → opening (game_of script) p ≡ Ok q → q.work ≤ most_work
openings_bounded script p q within is = given_ok (opening (game_of script) p) q (opening_within (game_of script) (script_within script) p within) is

pub actions_bounded : (script : Script) (now : ActionNow) (p q : Progress) → p.work ≤ most_work → perform (game_of script) now p ≡ Ok q → q.work ≤ most_work
actions_bounded script now p q within is = given_ok (perform (game_of script) now p) q (perform_within (game_of script) (script_within script) now p within) is
