-- What a log tells whose first changes are let go of.
use Rattle.std.proofs.Common.{◌≡◌, ◌∙◌, sym, ap, refl, subst, ℕ, zero, suc, ◌+◌, ◌-◌, ◌≤◌, List, [], ◌∷◌, ◌++◌, length, arith}
use Rattle.std.specs.Prelude.{drop, slice_index_or, take}
use Rattle.play_meaning.specs.Worlds.{World}
use Rattle.story_format.specs.declared.tables.Tables.{Tables}
use Rattle.world_store.specs.Pasts.{past_of, story_world}
use Rattle.world_store.specs.StoryWorlds.{AreKept, IsStoryWorld, StoryWorld, let_go, reverted}
use Rattle.world_store.specs.declared.remembering.Was.{Was}

past_dropped : (count : ℕ) (log : List Was) (w : World) → past_of (drop count log) w ≡ drop count (past_of log w)
past_dropped zero log w = refl
past_dropped (suc count) [] w = refl
past_dropped (suc count) (was ∷ log) w = past_dropped count log w

kept_dropped : (t : Tables) (count : ℕ) (ws : List World) → AreKept t ws → AreKept t (drop count ws)
kept_dropped t zero ws all = all
kept_dropped t (suc count) [] all = all
kept_dropped t (suc count) (w ∷ ws) all = kept_dropped t count ws (λ i. all (suc i))

-- what is seen of it, and that it is kept
pub seen_let_go : (t : Tables) (w : World) (count : ℕ) (log new : List Was) (s : StoryWorld) → story_world t w log ≡ s → new ≡ drop count log → story_world t w new ≡ let_go count s
seen_let_go t w count log new s same cut =
    ap (story_world t w) cut
    ∙ ap (λ (past : List World). record { tables = t; world = w; past = past }) (past_dropped count log w)
    ∙ ap (let_go count) same

pub kept_let_go : (t : Tables) (w : World) (count : ℕ) (log new : List Was) → new ≡ drop count log → IsStoryWorld (story_world t w log) → IsStoryWorld (story_world t w new)
kept_let_go t w count log new cut is =
    record {
      now = is.now;
      before = subst (AreKept t) (sym (ap (λ entries. past_of entries w) cut ∙ past_dropped count log w)) (kept_dropped t count (past_of log w) is.before);
    }

-- ---- a later mark leads to the same world

index_at : (first back mark : ℕ) (past : List World) (w : World) → first + back ≡ mark → mark ≤ length past
    → slice_index_or (drop first past ++ w ∷ []) back w ≡ slice_index_or (past ++ w ∷ []) mark w
index_at zero back mark past w at within = ap (λ n. slice_index_or (past ++ w ∷ []) n w) (omega (arith, at))
index_at (suc first) back zero past w at within = absurd (omega (arith, at))
index_at (suc first) back (suc mark) [] w at within = absurd (omega (arith, within))
index_at (suc first) back (suc mark) (v ∷ past) w at within = index_at first back mark past w (omega (arith, at)) (omega (arith, within))

pub index_behind : (first mark : ℕ) (past : List World) (w : World) → first ≤ mark → mark ≤ length past
    → slice_index_or (drop first past ++ w ∷ []) (mark - first) w ≡ slice_index_or (past ++ w ∷ []) mark w
index_behind first mark past w upto within = index_at first (mark - first) mark past w (omega (arith, upto)) within

taken_at : (first back mark : ℕ) (past : List World) → first + back ≡ mark → mark ≤ length past → take back (drop first past) ≡ drop first (take mark past)
taken_at zero back mark past at within = ap (λ n. take n past) (omega (arith, at))
taken_at (suc first) back zero past at within = absurd (omega (arith, at))
taken_at (suc first) back (suc mark) [] at within = absurd (omega (arith, within))
taken_at (suc first) back (suc mark) (v ∷ past) at within = taken_at first back mark past (omega (arith, at)) (omega (arith, within))

pub brought_back_behind : (s : StoryWorld) (first mark : ℕ) → first ≤ mark → mark ≤ length s.past → reverted (mark - first) (let_go first s) ≡ let_go first (reverted mark s)
brought_back_behind s first mark upto within = λ i. record {
  tables = s.tables;
  world = index_behind first mark s.past s.world upto within i;
  past = taken_at first (mark - first) mark s.past (omega (arith, upto)) within i;
}
