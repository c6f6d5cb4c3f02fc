-- What comes behind a world of a log, and the way back to it.
use Rattle.std.proofs.Common.{◌≡◌, ◌∙◌, ap, sym, refl, ℕ, suc, ◌≤◌, inl, inr, List, [], ◌∷◌, ◌++◌, length, take, nat_lt, false, ltb-false, arith}
use Rattle.std.specs.Prelude.{Err, Ok, OnErr, Result, slice_index_or}
use Rattle.std.proofs.lemmas.List.{get_or-take, get_or_push, length-take, length_push, set_past, take-append-le, take-take, take_all, take_at}
use Rattle.play_meaning.specs.Worlds.{World, set_scene}
use Rattle.play_meaning.specs.declared.scene.SceneNow.{SceneNow}
use Rattle.play_meaning.specs.declared.fault.WorldFault.{WorldFault}
use Rattle.story_code.specs.Steps.{LeadsBack}
use Rattle.world_store.specs.StoryWorlds.{StoryWorld, changed, reverted, worlds}
use Rattle.action_stages.specs.Returning.{Back, ComesBehind, IsThere, back_at, back_to, front_at}

-- ---- places of a log

pub worlds_long : (s : StoryWorld) → length (worlds s) ≡ suc (length s.past)
worlds_long s = let long = length_push s.past s.world in omega (arith, long)

-- a world stands at the last place of its own log
pub back_here : (s : StoryWorld) → back_at (length s.past) s ≡ back_to s
back_here s = ap (λ (front : List World). record { since = length s.past; front = front }) (take_all (suc (length s.past)) (worlds s) (omega (arith, worlds_long s)))

pub there_here : (s : StoryWorld) → IsThere (back_to s)
there_here s = worlds_long s

-- a place that is there is one of the log's
pub there_within : (s : StoryWorld) (mark : ℕ) → IsThere (back_at mark s) → mark ≤ length s.past
there_within s mark there = omega (arith, there, worlds_long s, length-take (suc mark) (worlds s))

-- ---- behind a world

pub behind_both : (s t u : StoryWorld) → ComesBehind s t → ComesBehind t u → ComesBehind s u
behind_both s t u first second = λ mark within. let a = first mark within in let b = second mark a.0 in (b.0, b.1 ∙ a.1)

-- another world behind the same worlds
pub pushed : (s t : StoryWorld) → t.past ≡ worlds s → ComesBehind s t
pushed s t is = λ mark within.
    let long = ap length is ∙ worlds_long s in (
      omega (arith, within, long),
      ap (λ (past : List World). take (suc mark) (past ++ t.world ∷ [])) is ∙ take-append-le (suc mark) (worlds s) (t.world ∷ []) (omega (arith, within, worlds_long s)),
    )

same_log : (s t : StoryWorld) → t.world ≡ s.world → t.past ≡ s.past → ComesBehind s t
same_log s t world past = λ mark within.
    (omega (arith, within, ap length past), λ i. take (suc mark) (past i ++ world i ∷ []))

pub led_behind : (s t : StoryWorld) → LeadsBack s.world s.past t.world t.past → ComesBehind s t
led_behind s t (inl both) = same_log s t both.0 both.1
led_behind s t (inr is) = pushed s t is

-- a change that was asked for, which leaves the world where it isn't made
pub changed_behind : (result : Result (Unit {0}) WorldFault) (made : World) (s t : StoryWorld) → t ≡ changed result made s → OnErr result (t ≡ s) → ComesBehind s t
changed_behind (Ok done) made s t is left = pushed s t (ap (λ (v : StoryWorld). v.past) is)
changed_behind (Err fault) made s t is left = same_log s t (ap (λ (v : StoryWorld). v.world) left) (ap (λ (v : StoryWorld). v.past) left)

-- a scene that isn't there is not set
pub no_scene : (w : World) (scene : ℕ) (now : SceneNow) → nat_lt scene (length w.scenes) ≡ false → set_scene scene now w ≡ w
no_scene w scene now is = ap (λ scenes. record w { scenes = scenes }) (set_past w.scenes scene now (ltb-false scene (length w.scenes) is))

-- ---- the way back

at_back : (front : List World) (world otherwise : World) (mark : ℕ) → mark ≡ length front → slice_index_or (front ++ world ∷ []) mark otherwise ≡ world
at_back front world otherwise mark is = get_or_push front world otherwise mark (sym is)

-- a world is brought back from any that has its log up to its place
pub brought_back : (s t : StoryWorld) → t.tables ≡ s.tables → front_at (length s.past) t ≡ worlds s → reverted (length s.past) t ≡ s
brought_back s t tables front =
    let here : ℕ = length s.past in
    let long = ap length front ∙ worlds_long s in
    let within : here ≤ length t.past = omega (arith, long, worlds_long t, length-take (suc here) (worlds t)) in
    let world : slice_index_or (worlds t) here t.world ≡ s.world =
    sym (get_or-take (suc here) (worlds t) here t.world (omega arith)) ∙ ap (λ (ws : List World). slice_index_or ws here t.world) front ∙ at_back s.past s.world t.world here refl in
    let past : take here t.past ≡ s.past =
    sym (take-append-le here t.past (t.world ∷ []) within) ∙ sym (take-take here (suc here) (worlds t) (omega arith)) ∙ ap (take here) front
    ∙ take_at s.past (s.world ∷ []) here refl in
    λ i. record { tables = tables i; world = world i; past = past i }

pub back_again : (s t : StoryWorld) (since : ℕ) → t.tables ≡ s.tables → back_at since t ≡ back_to s → reverted since t ≡ s
back_again s t since tables back =
    let place : since ≡ length s.past = ap (λ (b : Back). b.since) back in
    ap (λ (n : ℕ). reverted n t) place
    ∙ brought_back s t tables (ap (λ (n : ℕ). front_at n t) (sym place) ∙ ap (λ (b : Back). b.front) back)

-- what has a world's log up to its place comes behind it
pub back_behind : (s t : StoryWorld) (since : ℕ) → back_at since t ≡ back_to s → ComesBehind s t
back_behind s t since back = λ mark within.
    let place : since ≡ length s.past = ap (λ (b : Back). b.since) back in
    let front : front_at since t ≡ worlds s = ap (λ (b : Back). b.front) back in
    let long = ap length front ∙ worlds_long s in (
      omega (arith, within, place, long, worlds_long t, length-take (suc since) (worlds t)),
      sym (take-take (suc mark) (suc since) (worlds t) (omega (arith, within, place))) ∙ ap (take (suc mark)) front,
    )
