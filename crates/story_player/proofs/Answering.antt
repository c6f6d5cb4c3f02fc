-- What a session answers where what was done came to its end, or was abandoned.
use Rattle.std.proofs.Common.{◌≡◌, ◌≢◌, ◌∙◌, ap, sym, refl, subst, ℕ, Bool, true, false, List, [], Option, None, Some, Err}
use Rattle.world_meaning.specs.declared.session.Abandon.{Abandon}
use Rattle.world_meaning.specs.declared.session.Abandon.TheVariants.{Memory}
use Rattle.world_meaning.specs.declared.session.ReplyKind.{ReplyKind}
use Rattle.world_meaning.specs.declared.session.ReplyKind.TheVariants.{Free}
use Rattle.play_meaning.specs.Attempts.{Attempt}
use Rattle.play_meaning.specs.CodedStories.{game_of_codes}
use Rattle.play_meaning.specs.Games.{Game}
use Rattle.play_meaning.specs.Progress.{Progress, fresh}
use Rattle.play_meaning.specs.Sessions.{Answer, State, abandon_text, abandoned, closed, opened, parted_by_break, played}
use Rattle.play_meaning.specs.Turns.{opening}
use Rattle.play_meaning.specs.Worlds.{World}
use Rattle.story_format.specs.declared.tables.Tables.{Tables}
use Rattle.world_store.specs.StartWorlds.{start_world}
use Rattle.world_store.specs.StoryWorlds.{StoryWorld}
use Rattle.action_stages.specs.Answering.{Breaks}
use Rattle.world_store.specs.StoryPlay.{coded_story, game_in_play}
use Rattle.story_player.specs.Begun.{IsBegun}
use Rattle.story_player.specs.Given.{said_behind, so_far}
use Rattle.story_player.specs.Refusals.{is_refusal}
use Rattle.story_player.specs.Turns.{IsToldBehind, IsToldOf, deed_answer, done_by, ending_told, is_turn, kept_by, kind_by, kind_told, told_text}
use Rattle.story_player.specs.declared.deed.Deed.{Deed}

-- ---- where play has come to an end

closed_is : (kind : ReplyKind) (kept : List World) (p : Progress) (e : Option (List ℕ))
    → closed kind kept p e ≡ record { text = told_text p.text e; kind = kind_told kind e; state = record { world = p.world; kept = kept; question = None; ending = ending_told e } }
closed_is kind kept p None = refl
closed_is kind kept p (Some ending) = refl

played_to : (kind : ReplyKind) (kept : List World) (s : State) (attempt : Attempt Progress) (w : World) (text : List ℕ) → IsToldOf attempt w text
    → played kind kept s attempt ≡ record { text = text; kind = kind_told kind w.ended; state = record { world = w; kept = kept; question = None; ending = ending_told w.ended } }
played_to kind kept s attempt w text told =
    ap (played kind kept s) told.comes.comes ∙ closed_is kind kept (record { world = w; text = told.said; work = told.comes.work }) w.ended
    ∙ ap (λ bytes. record { text = bytes; kind = kind_told kind w.ended; state = record { world = w; kept = kept; question = None; ending = ending_told w.ended } }) (sym told.told)

-- ---- something that was done

no_refusal : (is_kept : Bool) (e : Option (List ℕ)) → is_refusal (kind_told (kind_by is_kept) e) ≡ false
no_refusal true None = refl
no_refusal true (Some ending) = refl
no_refusal false None = refl
no_refusal false (Some ending) = refl

-- it has come to this world, and was taken up, the world before it being kept or not
pub deed_told : (d : Deed) (g : Game) (s to : State) (is_kept : Bool) (kind : ReplyKind) (w : World) (before after : List ℕ)
    → is_kept ≡ is_turn d → IsToldBehind (done_by d g (fresh s.world)) w before after → kind ≡ kind_told (kind_by is_kept) w.ended
    → to ≡ record { world = w; kept = kept_by is_kept s; question = None; ending = ending_told w.ended }
    → so_far after kind to ≡ said_behind before (deed_answer d g (is_refusal kind) s)
deed_told d g s to is_kept kind w before after is told kind_is state =
    let answer : Bool → Answer = λ kept. played (kind_by kept) (kept_by kept s) s (done_by d g (fresh s.world)) in
    (λ i. so_far (told.behind i) (kind_is i) (state i))
    ∙ ap (said_behind before) (sym (played_to (kind_by is_kept) (kept_by is_kept s) s (done_by d g (fresh s.world)) w told.text told.is))
    ∙ ap (λ kept. said_behind before (answer kept)) is
    ∙ ap (λ refused. said_behind before (deed_answer d g refused s)) (sym (ap is_refusal kind_is ∙ no_refusal is_kept w.ended))

-- ---- the beginning

abbrev start_state : World → State
start_state w = record { world = w; kept = []; question = None; ending = None }

abbrev IsStart : Tables → StoryWorld → Type 0
IsStart t start = start ≡ record { tables = t; world = start_world t; past = [] }

opened_by : (t : Tables) (start : StoryWorld) → IsStart t start → opened (game_in_play t) ≡ played Free [] (start_state (start_world t)) (opening (game_in_play t) (fresh start.world))
unfolding opened game_of_codes coded_story
opened_by t start is = ap (λ (v : StoryWorld). played Free [] (start_state (start_world t)) (opening (game_in_play t) (fresh v.world))) (sym is)

-- what is told where nothing was said before
pub told_first : (attempt : Attempt Progress) (w : World) (before after : List ℕ) → before ≡ [] → IsToldBehind attempt w before after → IsToldOf attempt w after
told_first attempt w before after is told =
    subst (λ (text : List ℕ). IsToldOf attempt w text) (sym (told.behind ∙ ap (λ (before : List ℕ). parted_by_break before told.text) is)) told.is

-- where the tables that were played are the story's
pub begun : (t u : Tables) (start now : StoryWorld) (text : List ℕ) → u ≡ t → IsStart t start → now.tables ≡ u → IsToldOf (opening (game_in_play u) (fresh start.world)) now.world text → IsBegun t now text
begun t u start now text one is same told =
    let whole = subst (λ (v : Tables). IsToldOf (opening (game_in_play v) (fresh start.world)) now.world text) one told in
    let answer = sym (opened_by t start is ∙ played_to Free [] (start_state (start_world t)) (opening (game_in_play t) (fresh start.world)) now.world text whole) in
    record { tables = same ∙ one; text = ap (λ (a : Answer). a.text) answer; state = ap (λ (a : Answer). a.state) answer }

pub not_begun : (t u : Tables) (start now : StoryWorld) (text : List ℕ) (reason : Abandon) → u ≡ t → IsStart t start → IsStart t now → text ≡ abandon_text reason → reason ≢ Memory
    → Breaks (opening (game_in_play u) (fresh start.world)) reason → IsBegun t now text
unfolding start_world
not_begun t u start now text reason one is again says known breaks =
    let broke : opening (game_in_play t) (fresh start.world) ≡ Err reason = subst (λ (v : Tables). opening (game_in_play v) (fresh start.world) ≡ Err reason) one (breaks known) in
    let answer : abandoned reason (start_state (start_world t)) ≡ opened (game_in_play t) = sym (opened_by t start is ∙ ap (played Free [] (start_state (start_world t))) broke) in
    record {
      tables = ap (λ (v : StoryWorld). v.tables) again;
      text = says ∙ ap (λ (a : Answer). a.text) answer;
      state = ap (λ (v : StoryWorld). record { world = v.world; kept = []; question = None; ending = ending_told v.world.ended }) again ∙ ap (λ (a : Answer). a.state) answer;
    }
