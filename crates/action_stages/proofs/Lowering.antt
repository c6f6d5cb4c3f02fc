-- In a game whose bodies lower no work, nothing that is tried or followed does.
use Rattle.std.proofs.Common.{◌≡◌, ℕ, zero, suc, ◌+◌, ◌-◌, ◌≤◌, nat_lt, Bool, true, false, List, [], ◌∷◌, refl, Ok, Err, arith, ltb-true, map, subst}
use Rattle.std.specs.Prelude.{not, ◌||◌, ⊤, Option, None, Some, slice_get, if◌then◌else◌}
use Rattle.play_meaning.specs.Attempts.{Attempt, next}
use Rattle.world_meaning.specs.declared.session.Abandon.TheVariants.{TooMuchWork}
use Rattle.world_meaning.specs.Texts.{not_seen_text}
use Rattle.play_meaning.specs.Changes.{make_number}
use Rattle.play_meaning.specs.CodedStories.{Coded, CodedRule, CodedStory, RuleBody, Standard, coded_body, done_by, game_of_codes, telling_by_codes}
use Rattle.play_meaning.specs.Codes.{Codes, body_done, code_of, frame_of, left_off, most_steps, start_at, test_of}
use Rattle.play_meaning.specs.Seeing.{has_light, is_touchable, is_visible}
use Rattle.play_meaning.specs.Acting.{access, act, asks_sight, asks_touch, carrying, dark_text, fails, has_noun, inner_of, out_of_reach_text, progress_of, report, stages, unless, unless_held, visibility}
use Rattle.play_meaning.specs.Consulting.{applies, ask, consult, done_if, with_nouns}
use Rattle.play_meaning.specs.Doing.{Inner, changed, do_body, do_phrase, repeat, turn_if, turning_to}
use Rattle.play_meaning.specs.Games.{Game}
use Rattle.play_meaning.specs.Machines.{Abandons, Answers, Goes, Leaves, Step, Stuck, run}
use Rattle.play_meaning.specs.Progress.{Asked, Done, Progress, first_decision, goes_on, most_work, say, spend, then_do, undecided, unless_decided, unless_left}
use Rattle.play_meaning.specs.Rules.{Rule}
use Rattle.play_meaning.specs.Saying.{Telling, chosen, said_in}
use Rattle.play_meaning.specs.Settings.{Setting, objects_of}
use Rattle.play_meaning.specs.SoundCodes.{IsSound}
use Rattle.play_meaning.specs.Scripts.{rule_body, scope_of}
use Rattle.play_meaning.specs.StandardRules.{standard_rules}
use Rattle.play_meaning.specs.Trees.{Body, End, EndStory, Follow, If, Instead, Leave, Move, NowHeld, NowIs, NowNowhere, NowNumber, NowValued, NowVariable, Phrase, Repeat, Say, Then, Try}
use Rattle.play_meaning.specs.Truth.{of_some, truth_in}
use Rattle.play_meaning.specs.Values.{Scope, is_one, number_in, object_in}
use Rattle.play_meaning.specs.Worlds.{World, set_variable}
use Rattle.play_meaning.specs.declared.action.ActionNow.{ActionNow}
use Rattle.play_meaning.specs.declared.operand.Counts.{Counts}
use Rattle.play_meaning.specs.declared.operand.Use.TheVariants.{Body as UsedAsBody}
use Rattle.play_meaning.specs.declared.outcome.Flow.{Flow}
use Rattle.play_meaning.specs.declared.outcome.Flow.TheVariants.{GoesOn, NoDecision, Decides}
use Rattle.play_meaning.specs.declared.outcome.Outcome.{Outcome}
use Rattle.world_meaning.specs.declared.needs.Slot.{Slot}
use Rattle.action_stages.specs.Lowering.{AskedBetween, BodiesLowerNoWork, DoneBetween, HasSoundBodies, HasSoundBody}
use Rattle.action_stages.specs.Measures.{Gives, HasEnded, IsBetween, LowersNoWork}
use Rattle.action_stages.proofs.Ending.{body_ends}

gives_next : {A B : Type 0} (P : A → Type 0) (Q : B → Type 0) (a : Attempt A) (f : A → Attempt B) → Gives P a → ((x : A) → P x → Gives Q (f x)) → Gives Q (next a f)
gives_next P Q (Ok x) f given on = on x given
gives_next P Q (Err reason) f given on = tt

-- whatever comes first
gives_behind : {A B : Type 0} (Q : B → Type 0) (a : Attempt A) (f : A → Attempt B) → ((x : A) → Gives Q (f x)) → Gives Q (next a f)
gives_behind Q (Ok x) f on = on x
gives_behind Q (Err reason) f on = tt

gives_also : {A : Type 0} (P Q : A → Type 0) (a : Attempt A) → ((x : A) → P x → Q x) → Gives P a → Gives Q a
gives_also P Q (Ok x) on given = on x given
gives_also P Q (Err reason) on given = tt

-- what was given is so
pub given_so : {A : Type 0} (P : A → Type 0) (a : Attempt A) (x : A) → Gives P a → a ≡ Ok x → P x
given_so P a x gives is = subst (Gives P) is gives

-- what is done from here on lowers the work under this nowhere
module _ (least : ℕ) where
  abbrev Held : Progress → Type 0
  Held = IsBetween least

  raised : (p q : Progress) → Held p → IsBetween p.work q → Held q
  raised p q held more = (omega (arith, held.0, more.0), more.1)

  tries_held : (inner : Inner) → LowersNoWork inner → (now : ActionNow) (p : Progress) → Held p → Gives Held (inner.tries now p)
  tries_held inner lowers now p held = gives_also (IsBetween p.work) Held (inner.tries now p) (λ q. raised p q held) (lowers.tries now p held.1)

  follows_held : (inner : Inner) → LowersNoWork inner → (book : ℕ) (now : ActionNow) (p : Progress) → Held p → Gives Held (inner.follows book now p)
  follows_held inner lowers book now p held = gives_also (IsBetween p.work) Held (inner.follows book now p) (λ q. raised p q held) (lowers.follows book now p held.1)

  spend_held : (p : Progress) → Held p → Gives Held (spend p)
  unfolding spend
  spend_held p held =
      let Goal : Bool → Type 0 = λ test. nat_lt p.work most_work ≡ test → Gives Held (if test then Ok (record p { work = p.work + 1 }) else Err TooMuchWork) in
      elim (nat_lt p.work most_work) as Goal [
        | true ↦ λ is. (omega (arith, held.0), omega (arith, ltb-true p.work most_work is))
        | false ↦ λ is. tt
      ] refl

  -- ---- bodies that are trees

  abbrev DoneHeld : Done → Type 0
  DoneHeld = DoneBetween least

  left_held : (flow : Flow) (p : Progress) (more : Progress → Attempt Done) → Held p → ((q : Progress) → Held q → Gives DoneHeld (more q)) → Gives DoneHeld (unless_left flow p more)
  left_held GoesOn p more held on = on p held
  left_held NoDecision p more held on = held
  left_held (Decides outcome) p more held on = held

  then_held : (first : Attempt Done) (more : Progress → Attempt Done) → Gives DoneHeld first → ((q : Progress) → Held q → Gives DoneHeld (more q)) → Gives DoneHeld (then_do first more)
  then_held first more given on = gives_next DoneHeld DoneHeld first (λ done. unless_left done.flow done.progress more) given (λ done held. left_held done.flow done.progress more held on)

  turn_held : (test : Bool) (does : Progress → Attempt Done) (p : Progress) → Held p → ((q : Progress) → Held q → Gives DoneHeld (does q)) → Gives DoneHeld (turn_if test does p)
  turn_held false does p held on = held
  turn_held true does p held on = gives_next Held DoneHeld (spend p) does (spend_held p held) on

  repeat_held : (passes : ℕ → World → Bool) (does : ℕ → Progress → Attempt Done) (objects : List ℕ) (p : Progress) → Held p
      → ((o : ℕ) (q : Progress) → Held q → Gives DoneHeld (does o q)) → Gives DoneHeld (repeat passes does objects p)
  repeat_held passes does [] p held on = held
  repeat_held passes does (o ∷ objects) p held on =
      then_held (turn_if (passes o p.world) (does o) p) (repeat passes does objects) (turn_held (passes o p.world) (does o) p held (on o)) (λ q later. repeat_held passes does objects q later on)

  chosen_held : (test : Bool) (a b : Attempt Done) → Gives DoneHeld a → Gives DoneHeld b → Gives DoneHeld (chosen test a b)
  chosen_held true a b first second = first
  chosen_held false a b first second = second

  module _ (t : Telling) (inner : Inner) (lowers : LowersNoWork inner) where
    mutual
      unfolding do_phrase do_body

      phrase_held : (phrase : Phrase) (scope : Scope) (p : Progress) → Held p → Gives DoneHeld (do_phrase t inner phrase scope p)
      phrase_held (Say text) scope p held = gives_behind DoneHeld (said_in t scope p.world text) (λ y. Ok (goes_on (say y p))) (λ bytes. held)
      phrase_held (NowIs o property value) scope p held = held
      phrase_held (NowHeld o relation holder) scope p held = held
      phrase_held (NowNowhere o) scope p held = held
      phrase_held (Move o holder) scope p held = held
      phrase_held (NowNumber property o number) scope p held =
          gives_behind DoneHeld (number_in t.setting scope p.world number) (λ y. changed (make_number t.setting (object_in t.setting scope p.world o) property y) p) (λ n. held)
      phrase_held (NowVariable v number) scope p held = gives_behind DoneHeld (number_in t.setting scope p.world number) (λ y. changed (set_variable v y) p) (λ n. held)
      phrase_held (NowValued o kind value) scope p held = held
      phrase_held (Try silent action o other) scope p held = gives_next Held DoneHeld _ _ (tries_held inner lowers _ p held) (λ q later. later)
      phrase_held (Follow book) scope p held = gives_next Held DoneHeld _ _ (follows_held inner lowers book scope.now p held) (λ q later. later)
      phrase_held (Leave flow) scope p held = held
      phrase_held (EndStory text) scope p held = held
      phrase_held (If condition body otherwise) scope p held =
          gives_behind DoneHeld (truth_in t.setting scope p.world condition) _
          (λ holds. chosen_held holds (do_body t inner body scope p) (do_body t inner otherwise scope p) (body_held body scope p held) (body_held otherwise scope p held))
      phrase_held (Repeat description body) scope p held =
          repeat_held (λ y w. is_one t.setting scope w description y) _ (objects_of t.setting) p held (λ o q later. body_held body (turning_to scope o) q later)
      phrase_held (Instead phrase) scope p held = then_held (do_phrase t inner phrase scope p) _ (phrase_held phrase scope p held) (λ q later. later)

      body_held : (body : Body) (scope : Scope) (p : Progress) → Held p → Gives DoneHeld (do_body t inner body scope p)
      body_held End scope p held = held
      body_held (Then phrase body) scope p held = then_held (do_phrase t inner phrase scope p) (do_body t inner body scope) (phrase_held phrase scope p held) (λ q later. body_held body scope q later)

    rule_held : (now : ActionNow) (p : Progress) (rule : Option Rule) → Held p → Gives DoneHeld (rule_body t inner now p rule)
    rule_held now p None held = held
    rule_held now p (Some rule) held = body_held rule.body (scope_of now) p held

  -- ---- consultations

  abbrev AskedHeld : Asked → Type 0
  AskedHeld = AskedBetween least

  decided_held : (decision : Option Outcome) (p : Progress) (more : Attempt Asked) → Held p → Gives AskedHeld more → Gives AskedHeld (unless_decided decision p more)
  decided_held None p more held given = given
  decided_held (Some outcome) p more held given = held

  -- steps that each lower none
  abbrev StepsHold : List (Progress → Attempt Asked) → Type 0
  StepsHold [] = ⊤
  StepsHold (step ∷ steps) = ((p : Progress) → Held p → Gives AskedHeld (step p)) × StepsHold steps

  first_held : (steps : List (Progress → Attempt Asked)) → StepsHold steps → (p : Progress) → Held p → Gives AskedHeld (first_decision steps p)
  first_held [] all p held = held
  first_held (step ∷ steps) all p held =
      gives_next AskedHeld AskedHeld (step p) (λ asked. unless_decided asked.decision asked.progress (first_decision steps asked.progress)) (all.0 p held)
      (λ asked later. decided_held asked.decision asked.progress (first_decision steps asked.progress) later (first_held steps all.1 asked.progress later))

  unless_held_so : (test : Bool) (p : Progress) (otherwise : Attempt Asked) → Held p → Gives AskedHeld otherwise → Gives AskedHeld (unless test p otherwise)
  unless_held_so true p otherwise held given = held
  unless_held_so false p otherwise held given = given

  either_held : (test : Bool) (a b : Attempt Asked) → Gives AskedHeld a → Gives AskedHeld b → Gives AskedHeld (if test then a else b)
  either_held true a b first second = first
  either_held false a b first second = second

  access_held : (s : Setting) (slot : Slot) (noun : Option ℕ) (p : Progress) → Held p → Gives AskedHeld (access s slot noun p)
  unfolding access
  access_held s slot noun p held =
      let is_seen : Bool = not (asks_sight slot) || of_some noun (is_visible s p.world) in
      let is_touched : Bool = not (asks_touch slot) || of_some noun (is_touchable s p.world) in
      let out_of_reach : Attempt Asked = fails (out_of_reach_text s noun) p in
      either_held is_seen (unless is_touched p out_of_reach) (fails not_seen_text p) (unless_held_so is_touched p out_of_reach held held) held

  module _ (g : Game) (bodies : BodiesLowerNoWork g) (inner : Inner) (lowers : LowersNoWork inner) where
    done_held : (test : Bool) (book : ℕ) (now : ActionNow) (rule : ℕ) (p : Progress) → Held p → Gives AskedHeld (done_if test g inner book now rule p)
    done_held false book now rule p held = held
    done_held true book now rule p held =
        gives_next Held AskedHeld (spend p) _ (spend_held p held)
        (λ q later. gives_next DoneHeld AskedHeld (g.body rule inner now q) _
        (gives_also (DoneBetween q.work) DoneHeld (g.body rule inner now q) (λ done. raised q done.progress later) (bodies.body rule inner lowers now q later.1)) (λ done over. over))

    ask_held : (book : ℕ) (now : ActionNow) (rule : ℕ) (p : Progress) → Held p → Gives AskedHeld (ask g inner book now rule p)
    unfolding ask
    ask_held book now rule p held = gives_behind AskedHeld (applies g rule now p.world) _ (λ test. done_held test book now rule p held)

    asks_held : (book : ℕ) (now : ActionNow) (rules : List ℕ) → StepsHold (map (ask g inner book now) rules)
    asks_held book now [] = tt
    asks_held book now (rule ∷ rules) = (ask_held book now rule, asks_held book now rules)

    pub consult_held : (book : ℕ) (now : ActionNow) (p : Progress) → Held p → Gives AskedHeld (consult g inner book now p)
    unfolding consult
    consult_held book now p held = first_held (map (ask g inner book (with_nouns now)) (g.books book)) (asks_held book (with_nouns now) (g.books book)) p held

    -- ---- actions

    light_held : (now : ActionNow) (p : Progress) → Held p → Gives AskedHeld (visibility g now p)
    unfolding visibility
    light_held now p held =
        let is_met : Bool = not (g.needs now.action).light || has_light g.telling.setting p.world in
        unless_held_so is_met p (fails dark_text p) held held

    carrying_held : (s : Setting) (slot : Slot) (noun : Option ℕ) (p : Progress) → Held p → Gives AskedHeld (carrying s inner slot noun p)
    unfolding carrying
    carrying_held s slot noun p held =
        unless_held_so _ p _ held (gives_next Held AskedHeld _ (unless_held noun) (tries_held inner lowers _ _ held) (λ q later. unless_held_so (has_noun q.world noun) q (fails [] q) later later))

    report_held : (silent : Bool) (now : ActionNow) (p : Progress) → Held p → Gives AskedHeld (if silent then Ok (undecided p) else consult g inner 5 now p)
    report_held true now p held = held
    report_held false now p held = consult_held 5 now p held

    -- the rulebooks behind the stages between them
    ruled : (now : ActionNow) → StepsHold (consult g inner 1 now ∷ consult g inner 2 now ∷ consult g inner 3 now ∷ consult g inner 4 now ∷ report g inner now ∷ [])
    ruled now = (consult_held 1 now, (consult_held 2 now, (consult_held 3 now, (consult_held 4 now, (report_held now.silent now, tt)))))

    stages_hold : (out : Bool) (now : ActionNow) → StepsHold (stages out g inner now)
    unfolding stages
    stages_hold true now = (consult_held 2 now, (consult_held 3 now, (report_held now.silent now, tt)))
    stages_hold false now =
        let s = g.telling.setting in
        let noun = (g.needs now.action).noun in
        let second = (g.needs now.action).second in
        (consult_held 0 now, (light_held now, (access_held s noun now.noun, (access_held s second now.second, (carrying_held s noun now.noun, (carrying_held s second now.second, ruled now))))))

    pub act_held : (now : ActionNow) (p : Progress) → Held p → Gives AskedHeld (act g inner now p)
    unfolding act
    act_held now p held = first_held _ (stages_hold (g.needs now.action).out_of_world now) p held

  progress_held : (asked : Attempt Asked) → Gives AskedHeld asked → Gives Held (progress_of asked)
  progress_held asked given = gives_next AskedHeld Held asked _ given (λ a held. held)

-- ---- games

begun : (p : Progress) → p.work ≤ most_work → IsBetween p.work p
begun p within = (omega arith, within)

pub consults_lower : (g : Game) → BodiesLowerNoWork g → (inner : Inner) → LowersNoWork inner → (book : ℕ) (now : ActionNow) (p : Progress) → p.work ≤ most_work
    → Gives (AskedBetween p.work) (consult g inner book now p)
consults_lower g bodies inner lowers book now p within = consult_held p.work g bodies inner lowers book now p (begun p within)

pub acts_lower : (g : Game) → BodiesLowerNoWork g → (inner : Inner) → LowersNoWork inner → (now : ActionNow) (p : Progress) → p.work ≤ most_work → Gives (AskedBetween p.work) (act g inner now p)
acts_lower g bodies inner lowers now p within = act_held p.work g bodies inner lowers now p (begun p within)

pub inner_lowers : (g : Game) → BodiesLowerNoWork g → (left : ℕ) → LowersNoWork (inner_of g left)
unfolding inner_of
inner_lowers g bodies zero = record { tries = λ now p within. tt; follows = λ book now p within. tt }
inner_lowers g bodies (suc left) = record {
  tries = λ now p within. progress_held p.work _ (acts_lower g bodies (inner_of g left) (inner_lowers g bodies left) now p within);
  follows = λ book now p within. progress_held p.work _ (consults_lower g bodies (inner_of g left) (inner_lowers g bodies left) book now p within);
}

-- ---- a story's game

left_between : (least : ℕ) (st : Step) (p : Progress) → HasEnded least st → Gives (DoneBetween least) (left_off st p)
left_between least (Goes s) p ended = absurd ended
left_between least (Leaves flow q) p ended = ended
left_between least (Answers truth) p ended = absurd ended
left_between least (Abandons reason) p ended = tt
left_between least Stuck p ended = absurd ended

module _ (c : Codes) (t : Telling) (inner : Inner) (lowers : LowersNoWork inner) (now : ActionNow) (p : Progress) (within : p.work ≤ most_work) where
  pub body_lowers : (n : ℕ) (z : Counts) → IsSound z UsedAsBody (code_of c n) → Gives (DoneBetween p.work) (body_done c t inner n now p)
  unfolding body_done
  body_lowers n z sound =
      let f = frame_of c t inner (test_of c t now) now in
      left_between p.work (run f (code_of c n) (most_steps (code_of c n)) (start_at [] p)) p (body_ends z (code_of c n) sound f lowers p within)

  done_lowers : (body : RuleBody) → HasSoundBody c body → Gives (DoneBetween p.work) (done_by c t inner now p body)
  done_lowers (Standard n) sound = rule_held p.work t inner lowers now p (slice_get standard_rules (n - 1)) (begun p within)
  done_lowers (Coded n) sound = body_lowers n sound.0 sound.1

  coded_lowers : (rule : Option CodedRule) → ((r : CodedRule) → rule ≡ Some r → HasSoundBody c r.body) → Gives (DoneBetween p.work) (coded_body c t inner now p rule)
  coded_lowers None sound = begun p within
  coded_lowers (Some rule) sound = done_lowers rule.body (sound rule refl)

pub stories_lower : (k : CodedStory) → HasSoundBodies k → BodiesLowerNoWork (game_of_codes k)
unfolding game_of_codes
stories_lower k sound = record {
  body = λ rule inner lowers now p within. coded_lowers k.codes (telling_by_codes k) inner lowers now p within (slice_get k.rules rule) (λ r is. sound rule r is);
}
