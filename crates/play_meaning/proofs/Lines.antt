-- What commands keep: an abandoned one the world, and a kept one the world before it.
use Rattle.std.proofs.Common.{◌≡◌, ◌∙◌, ap, ℕ, Bool, true, false, List, [], ◌∷◌, refl, take, Ok, Err}
use Rattle.std.specs.Prelude.{Option, None, Some, if◌then◌else◌}
use Rattle.play_meaning.specs.Attempts.{Attempt}
use Rattle.world_meaning.specs.declared.session.Abandon.{Abandon}
use Rattle.world_meaning.specs.declared.session.Abandon.TheVariants.{Memory}
use Rattle.world_meaning.specs.declared.session.ReplyKind.{ReplyKind}
use Rattle.world_meaning.specs.declared.session.ReplyKind.TheVariants.{Abandoned, Free, Kept}
use Rattle.play_meaning.specs.Games.{Acts, ActsAll, Asks, Game, Question, Quit, Reading, Says, Undo}
use Rattle.play_meaning.specs.Progress.{Progress, fresh}
use Rattle.play_meaning.specs.CommandLines.{Commands, parts_of}
use Rattle.play_meaning.specs.Sessions.{Answer, MeansUndo, State, abandoned, acted, acted_upon_all, answer_of, closed, command_answer, commands_answer, free, keep, meant, parts_answer, played, read_answer, refuses, undone, unless_ended}
use Rattle.play_meaning.specs.AllThings.{all_things}
use Rattle.play_meaning.specs.Turns.{perform, turn, turn_upon}
use Rattle.play_meaning.specs.Worlds.{World}
use Rattle.play_meaning.specs.declared.action.ActionNow.{ActionNow}

-- an answer that says that play was abandoned leaves all but the question
abbrev pub LeavesAll : State → Answer → Type 0
LeavesAll s a = (reason : Abandon) → a.kind ≡ Abandoned reason → a.state ≡ record s { question = None }

-- an answer that says that a turn was kept has the world before it in front
abbrev pub KeepsBefore : State → Answer → Type 0
KeepsBefore s a = a.kind ≡ Kept → a.state.kept ≡ keep s.world s.kept

-- ---- abandoned commands

closed_leaves : (s : State) (kind : ReplyKind) (kept : List World) (p : Progress) (ending : Option (List ℕ))
    → ((reason : Abandon) → kind ≡ Abandoned reason → ⊥) → LeavesAll s (closed kind kept p ending)
closed_leaves s kind kept p None other reason is = absurd (other reason is)
closed_leaves s kind kept p (Some ending) other reason is = absurd cc

played_leaves : (s : State) (kind : ReplyKind) (kept : List World) (attempt : Attempt Progress) → ((reason : Abandon) → kind ≡ Abandoned reason → ⊥)
    → LeavesAll s (played kind kept s attempt)
played_leaves s kind kept (Ok p) other reason is = closed_leaves s kind kept p p.world.ended other reason is
played_leaves s kind kept (Err why) other reason is = refl

acted_leaves : (out : Bool) (g : Game) (now : ActionNow) (s : State) → LeavesAll s (acted out g now s)
acted_leaves true g now s = played_leaves s Free s.kept (perform g now (fresh s.world)) (λ reason is. absurd cc)
acted_leaves false g now s = played_leaves s Kept (keep s.world s.kept) (turn g now (fresh s.world)) (λ reason is. absurd cc)

unless_refused_leaves : (refused : Bool) (s : State) (a : Answer) → LeavesAll s a → LeavesAll s (if refused then abandoned Memory s else a)
unless_refused_leaves true s a leaves reason is = refl
unless_refused_leaves false s a leaves reason is = leaves reason is

upon_all_leaves : (g : Game) (action : ℕ) (s : State) → LeavesAll s (acted_upon_all g action s)
upon_all_leaves g action s =
    played_leaves s Kept (keep s.world s.kept) (turn_upon g action (all_things g.telling.setting s.world action) (fresh s.world)) (λ reason is. absurd cc)

free_leaves : (text : List ℕ) (question : Option Question) (s : State) → LeavesAll s (free text question s)
free_leaves text question s reason is = absurd cc

undone_leaves : (kept : List World) (s : State) → LeavesAll s (undone kept s)
undone_leaves [] s reason is = absurd cc
undone_leaves (w ∷ kept) s reason is = absurd cc

read_leaves : (g : Game) (refused : Bool) (s : State) (reading : Reading) → LeavesAll s (read_answer g refused s reading)
read_leaves g refused s (Says text) reason is = absurd cc
read_leaves g refused s (Asks question text) reason is = unless_refused_leaves refused s (free text (Some question) s) (free_leaves text (Some question) s) reason is
read_leaves g refused s (Acts now) reason is =
    unless_refused_leaves refused s (acted (g.needs now.action).out_of_world g now s) (acted_leaves (g.needs now.action).out_of_world g now s) reason is
read_leaves g refused s (ActsAll action) reason is = unless_refused_leaves refused s (acted_upon_all g action s) (upon_all_leaves g action s) reason is
read_leaves g refused s Undo reason is = undone_leaves s.kept s reason is
read_leaves g refused s Quit reason is = absurd cc

pub command_leaves : (g : Game) (refused : Bool) (s : State) (words : List (List ℕ)) → LeavesAll s (command_answer g refused s words)
command_leaves g refused s words reason is = read_leaves g refused s (meant g s words) reason is

-- ---- kept turns

closed_keeps : (s : State) (kind : ReplyKind) (kept : List World) (p : Progress) (ending : Option (List ℕ))
    → (kind ≡ Kept → kept ≡ keep s.world s.kept) → KeepsBefore s (closed kind kept p ending)
closed_keeps s kind kept p None same is = same is
closed_keeps s kind kept p (Some ending) same is = absurd cc

played_keeps : (s : State) (kind : ReplyKind) (kept : List World) (attempt : Attempt Progress) → (kind ≡ Kept → kept ≡ keep s.world s.kept)
    → KeepsBefore s (played kind kept s attempt)
played_keeps s kind kept (Ok p) same is = closed_keeps s kind kept p p.world.ended same is
played_keeps s kind kept (Err why) same is = absurd cc

acted_keeps : (out : Bool) (g : Game) (now : ActionNow) (s : State) → KeepsBefore s (acted out g now s)
acted_keeps true g now s is = played_keeps s Free s.kept (perform g now (fresh s.world)) (λ is. absurd cc) is
acted_keeps false g now s is = played_keeps s Kept (keep s.world s.kept) (turn g now (fresh s.world)) (λ is. refl) is

upon_all_keeps : (g : Game) (action : ℕ) (s : State) → KeepsBefore s (acted_upon_all g action s)
upon_all_keeps g action s is =
    played_keeps s Kept (keep s.world s.kept) (turn_upon g action (all_things g.telling.setting s.world action) (fresh s.world)) (λ is. refl) is

unless_refused_keeps : (refused : Bool) (s : State) (a : Answer) → KeepsBefore s a → KeepsBefore s (if refused then abandoned Memory s else a)
unless_refused_keeps true s a keeps is = absurd cc
unless_refused_keeps false s a keeps is = keeps is

free_keeps : (text : List ℕ) (question : Option Question) (s : State) → KeepsBefore s (free text question s)
free_keeps text question s is = absurd cc

undone_keeps : (kept : List World) (s : State) → KeepsBefore s (undone kept s)
undone_keeps [] s is = absurd cc
undone_keeps (w ∷ kept) s is = absurd cc

read_keeps : (g : Game) (refused : Bool) (s : State) (reading : Reading) → KeepsBefore s (read_answer g refused s reading)
read_keeps g refused s (Says text) is = absurd cc
read_keeps g refused s (Asks question text) is = unless_refused_keeps refused s (free text (Some question) s) (free_keeps text (Some question) s) is
read_keeps g refused s (Acts now) is =
    unless_refused_keeps refused s (acted (g.needs now.action).out_of_world g now s) (acted_keeps (g.needs now.action).out_of_world g now s) is
read_keeps g refused s (ActsAll action) is = unless_refused_keeps refused s (acted_upon_all g action s) (upon_all_keeps g action s) is
read_keeps g refused s Undo is = undone_keeps s.kept s is
read_keeps g refused s Quit is = absurd cc

command_keeps : (g : Game) (refused : Bool) (s : State) (words : List (List ℕ)) → KeepsBefore s (command_answer g refused s words)
command_keeps g refused s words is = read_keeps g refused s (meant g s words) is

-- ---- undo

-- where a world is kept, undo puts the latest back
undo_restores : (g : Game) (refused : Bool) (s : State) (words : List (List ℕ)) (w : World) (kept : List World) → s.kept ≡ w ∷ kept
    → MeansUndo g s words → (command_answer g refused s words).state ≡ record s { world = w; kept = kept; question = None }
undo_restores g refused s words w kept same undo =
    ap (λ reading. (read_answer g refused s reading).state) undo ∙ ap (λ worlds. (undone worlds s).state) same

pub undo_brings_back : (g : Game) (refused again : Bool) (s : State) (words undo : List (List ℕ)) → (command_answer g refused s words).kind ≡ Kept
    → MeansUndo g (command_answer g refused s words).state undo → (command_answer g again (command_answer g refused s words).state undo).state.world ≡ s.world
undo_brings_back g refused again s words undo is means =
    ap (λ t. t.world) (undo_restores g again (command_answer g refused s words).state undo s.world (take 7 s.kept) (command_keeps g refused s words is) means)

-- ---- lines of one command

pub alone : (g : Game) (refused : Option ℕ) (s : State) (line : List ℕ) (words : List (List ℕ)) → s.ending ≡ None → parts_of line ≡ Commands words []
    → answer_of g refused s line ≡ command_answer g (refuses refused 0) s words
unfolding commands_answer
alone g refused s line words going is = (λ i. unless_ended (going i) s (parts_answer g refused s (is i)))
