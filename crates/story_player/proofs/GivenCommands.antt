-- The commands of a line, answered one behind the other, are the line.
use Rattle.std.proofs.Common.{◌≡◌, ◌∙◌, ap, sym, refl, ℕ, ◌+◌, Bool, true, false, List, [], ◌∷◌, append_assoc, arith, Ok, Err}
use Rattle.std.specs.Prelude.{not, ◌&&◌, ◌==◌, Option, None, Some, is_some, if◌then◌else◌}
use Rattle.std.proofs.lemmas.Bool.{and_parts, ne_eqb}
use Rattle.play_meaning.specs.AllThings.{all_things}
use Rattle.play_meaning.specs.Attempts.{Attempt}
use Rattle.play_meaning.specs.Games.{Acts, ActsAll, Asks, Game, Quit, Reading, Says, Undo}
use Rattle.play_meaning.specs.Progress.{Progress, fresh}
use Rattle.play_meaning.specs.Sessions.{Answer, State, abandoned, acted, acted_upon_all, closed, command_answer, commands_answer, followed, free, goes_on_behind, keep, leads_on, meant, parted_by_break, played, read_answer, refuses, undone}
use Rattle.play_meaning.specs.Turns.{perform, turn, turn_upon}
use Rattle.play_meaning.specs.Worlds.{World}
use Rattle.play_meaning.specs.declared.action.ActionNow.{ActionNow}
use Rattle.world_meaning.specs.declared.session.Abandon.TheVariants.{Memory}
use Rattle.world_meaning.specs.declared.session.ReplyKind.{ReplyKind}
use Rattle.world_meaning.specs.declared.session.ReplyKind.TheVariants.{Abandoned, Ended, Free, Kept, Over}
use Rattle.story_player.specs.Given.{AreGiven, IsFrom, IsGiven, said_behind, so_far}
use Rattle.story_player.specs.Refusals.{is_refusal}
use Rattle.story_player.specs.declared.commands.Given.{Given}

-- ---- texts

pub parted-assoc : (a b c : List ℕ) → parted_by_break (parted_by_break a b) c ≡ parted_by_break a (parted_by_break b c)
parted-assoc [] b c = refl
parted-assoc (x ∷ xs) [] c = refl
parted-assoc (x ∷ xs) (y ∷ ys) [] = refl
parted-assoc (x ∷ xs) (y ∷ ys) (z ∷ zs) = append_assoc (x ∷ xs) (10 ∷ y ∷ ys) (10 ∷ z ∷ zs)

-- ---- what goes on

-- no refusal is followed
pub refusal_stops : (kind : ReplyKind) → goes_on_behind kind ≡ true → is_refusal kind ≡ false
refusal_stops Kept on = refl
refusal_stops Free on = refl
refusal_stops (Abandoned reason) on = absurd cc
refusal_stops Ended on = absurd cc
refusal_stops Over on = absurd cc

-- an answer behind which commands are done leaves the story going on
abbrev StaysGoing : Answer → Type 0
StaysGoing a = goes_on_behind a.kind ≡ true → a.state.ending ≡ None

closed_stays : (kind : ReplyKind) (kept : List World) (p : Progress) (ending : Option (List ℕ)) → StaysGoing (closed kind kept p ending)
closed_stays kind kept p None on = refl
closed_stays kind kept p (Some ending) on = absurd cc

played_stays : (kind : ReplyKind) (kept : List World) (s : State) (attempt : Attempt Progress) → StaysGoing (played kind kept s attempt)
played_stays kind kept s (Ok p) on = closed_stays kind kept p p.world.ended on
played_stays kind kept s (Err reason) on = absurd cc

acted_stays : (out : Bool) (g : Game) (now : ActionNow) (s : State) → StaysGoing (acted out g now s)
acted_stays true g now s on = played_stays Free s.kept s (perform g now (fresh s.world)) on
acted_stays false g now s on = played_stays Kept (keep s.world s.kept) s (turn g now (fresh s.world)) on

unless_refused_stays : (refused : Bool) (s : State) (a : Answer) → StaysGoing a → StaysGoing (if refused then abandoned Memory s else a)
unless_refused_stays true s a stays on = absurd cc
unless_refused_stays false s a stays on = stays on

undone_stays : (kept : List World) (s : State) → s.ending ≡ None → (undone kept s).state.ending ≡ None
undone_stays [] s going = going
undone_stays (w ∷ kept) s going = going

pub reading_stays : (g : Game) (refused : Bool) (s : State) (reading : Reading) → s.ending ≡ None → StaysGoing (read_answer g refused s reading)
reading_stays g refused s (Says text) going on = going
reading_stays g refused s (Asks question text) going on = unless_refused_stays refused s (free text (Some question) s) (λ on. going) on
reading_stays g refused s (Acts now) going on =
    unless_refused_stays refused s (acted (g.needs now.action).out_of_world g now s) (λ on. acted_stays (g.needs now.action).out_of_world g now s on) on
reading_stays g refused s (ActsAll action) going on =
    unless_refused_stays refused s (acted_upon_all g action s)
    (λ on. played_stays Kept (keep s.world s.kept) s (turn_upon g action (all_things g.telling.setting s.world action) (fresh s.world)) on) on
reading_stays g refused s Undo going on = undone_stays s.kept s going
reading_stays g refused s Quit going on = absurd cc

pub off_so : (on : Bool) → not on ≡ true → on ≡ false
off_so true is = absurd cc
off_so false is = refl

pub on_so : (on : Bool) → not on ≡ false → on ≡ true
on_so true is = refl
on_so false is = absurd cc

-- ---- commands one behind the other

-- The commands in front of one were answered, none of them refused: what it and those behind it give is what the line gives.
pub record IsUnderway (g : Game) (first : List (List ℕ)) (more : List (List (List ℕ))) (from : State) (before : List ℕ)
    (command : List (List ℕ)) (rest : List (List (List ℕ))) (here : State) (said : List ℕ) : Type 0 where
  pub place : ℕ
  pub going : here.ending ≡ None
  pub same : (refused : Option ℕ) → IsFrom place refused
      → said_behind said (commands_answer g refused place here command rest) ≡ said_behind before (commands_answer g refused 0 from first more)

from_nothing : (refused : Option ℕ) → IsFrom 0 refused
from_nothing None = tt
from_nothing (Some refused) = omega arith

earlier : (place : ℕ) (refused : Option ℕ) → IsFrom (place + 1) refused → IsFrom place refused
earlier place None later = tt
earlier place (Some refused) later = omega (arith, later)

not_here : (place : ℕ) (refused : Option ℕ) → IsFrom (place + 1) refused → refuses refused place ≡ false
not_here place None later = refl
not_here place (Some refused) later = ne_eqb refused place (λ same. omega (arith, later, same))

pub begun_commands : (g : Game) (first : List (List ℕ)) (more : List (List (List ℕ))) (from : State) (before : List ℕ) → from.ending ≡ None
    → IsUnderway g first more from before first more from before
begun_commands g first more from before going = record { place = 0; going = going; same = λ refused is. refl }

module _ (g : Game) (first : List (List ℕ)) (more : List (List (List ℕ))) (from : State) (before : List ℕ) (command : List (List ℕ)) (here to : State) (said after : List ℕ)
    (given : Given) (is : IsGiven g (meant g here command) here to said after given) where
  -- what the command gives, refused or not
  abbrev gives : Bool → Answer
  gives refused = command_answer g refused here command

  -- one more command was answered, behind which the line goes on
  module _ (next : List (List ℕ)) (rest : List (List (List ℕ))) (so : IsUnderway g first more from before command (next ∷ rest) here said) (on : given.goes_on ≡ true) where
    both : (leads_on (meant g here command) ≡ true) × (goes_on_behind given.kind ≡ true)
    both = and_parts (leads_on (meant g here command)) (goes_on_behind given.kind) (sym is.goes_on ∙ on)

    answered : so_far after given.kind to ≡ said_behind said (gives false)
    answered = is.answer ∙ ap (λ refused. said_behind said (gives refused)) (refusal_stops given.kind both.1)

    abbrev later : Option ℕ → State → Answer
    later refused behind = commands_answer g refused (so.place + 1) behind next rest

    unrolled : (refused : Option ℕ) → IsFrom (so.place + 1) refused → commands_answer g refused so.place here command (next ∷ rest) ≡ followed true (gives false) (later refused)
    unfolding commands_answer
    unrolled refused behind =
        ap (λ here_refused. followed (leads_on (meant g here command) && goes_on_behind (gives here_refused).kind) (gives here_refused) (later refused)) (not_here so.place refused behind)
        ∙ ap (λ goes. followed goes (gives false) (later refused))
        ((λ i. both.0 i && goes_on_behind (sym (ap (λ (a : Answer). a.kind) answered) i)) ∙ both.1)

    kept_apart : (refused : Option ℕ) → said_behind said (followed true (gives false) (later refused)) ≡ said_behind after (later refused to)
    kept_apart refused =
        (λ i. let last = later refused (gives false).state in record last { text = sym (parted-assoc said (gives false).text last.text) i })
        ∙ (λ i. said_behind ((sym answered i).text) (later refused (sym answered i).state))

    pub underway : IsUnderway g first more from before next rest to after
    underway = record {
      place = so.place + 1;
      going = ap (λ (a : Answer). a.state.ending) answered
          ∙ reading_stays g false here (meant g here command) so.going (ap goes_on_behind (sym (ap (λ (a : Answer). a.kind) answered)) ∙ both.1);
      same = λ refused behind.
          sym (ap (said_behind said) (unrolled refused behind) ∙ kept_apart refused) ∙ so.same refused (earlier so.place refused behind);
    }

  -- where memory was refused to this command
  abbrev refusal_at : ℕ → Bool → Option ℕ
  refusal_at place true = Some place
  refusal_at place false = None

  at_place : (place : ℕ) (refused : Bool) → IsFrom place (refusal_at place refused)
  at_place place true = omega arith
  at_place place false = tt

  is_at : (place : ℕ) (refused : Bool) → refuses (refusal_at place refused) place ≡ refused
  is_at place true = eq_self place
    where
      eq_self : (n : ℕ) → (n == n) ≡ true
      eq_self n = grind arith
  is_at place false = refl

  has_place : (place : ℕ) (refused : Bool) → is_some (refusal_at place refused) ≡ refused
  has_place place true = refl
  has_place place false = refl

  -- the last command of the line that is done was answered
  ended : (rest : List (List (List ℕ))) (so : IsUnderway g first more from before command rest here said)
      → ((refused : Option ℕ) → refuses refused so.place ≡ is_refusal given.kind → commands_answer g refused so.place here command rest ≡ gives (is_refusal given.kind))
      → AreGiven g 0 first more from to before after given.kind
  ended rest so last =
      let refused = refusal_at so.place (is_refusal given.kind) in
      record {
        refused = refused;
        from_here = from_nothing refused;
        told = has_place so.place (is_refusal given.kind);
        answer = is.answer ∙ ap (said_behind said) (sym (last refused (is_at so.place (is_refusal given.kind)))) ∙ so.same refused (at_place so.place (is_refusal given.kind));
      }

  -- as no command stands behind it
  pub ended_last : IsUnderway g first more from before command [] here said → AreGiven g 0 first more from to before after given.kind
  unfolding commands_answer
  ended_last so = ended [] so (λ refused is. ap gives is)

  -- as those behind it are dropped
  pub ended_early : (rest : List (List (List ℕ))) → IsUnderway g first more from before command rest here said → given.goes_on ≡ false
      → AreGiven g 0 first more from to before after given.kind
  unfolding commands_answer
  ended_early [] so off = ended_last so
  ended_early (next ∷ rest) so off =
      ended (next ∷ rest) so
      (λ refused same.
      ap (λ here_refused. followed (leads_on (meant g here command) && goes_on_behind (gives here_refused).kind) (gives here_refused) (λ behind. commands_answer g refused (so.place + 1) behind next rest)) same
      ∙ ap (λ goes. followed goes (gives (is_refusal given.kind)) (λ behind. commands_answer g refused (so.place + 1) behind next rest))
      (ap (λ kind. leads_on (meant g here command) && goes_on_behind kind) (sym (ap (λ (a : Answer). a.kind) is.answer)) ∙ sym is.goes_on ∙ off))
