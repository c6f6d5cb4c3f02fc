-- The worlds before the changes of a log: what writing a change adds to them, and what taking one back leaves.
use Rattle.std.proofs.Common.{◌≡◌, ◌∙◌, sym, ap, refl, subst, ℕ, zero, suc, Bool, ℤ, List, [], ◌∷◌, ◌++◌, length}
use Rattle.std.specs.Prelude.{Option, None, false, pos, slice_index_or, slice_set}
use Rattle.std.proofs.lemmas.List.{set-get_or, set-set}
use Rattle.std.proofs.lemmas.Option.{none-some, same_Some}
use Rattle.play_meaning.specs.Worlds.{World, is_true_of, number_of, place_of, set_flag, set_number, set_place, set_scene, set_value, set_variable, scene_of, value_of, variable_of}
use Rattle.play_meaning.specs.declared.scene.SceneNow.{SceneNow}
use Rattle.story_format.specs.declared.tables.Tables.{Tables}
use Rattle.world_store.specs.Pasts.{all_undone, past_of, story_world, undone}
use Rattle.world_store.specs.StoryWorlds.{AreKept, IsKept, IsStoryWorld, StoryWorld, worlds}
use Rattle.world_meaning.specs.declared.place.Place.{Place}
use Rattle.world_store.specs.declared.remembering.Was.{Was}

-- ---- the past of a log

all_grows : (log : List Was) (was : Was) (w : World) → all_undone (log ++ was ∷ []) w ≡ all_undone log (undone was w)
all_grows [] was w = refl
all_grows (first ∷ log) was w = ap (undone first) (all_grows log was w)

past_grows : (log : List Was) (was : Was) (w : World) → past_of (log ++ was ∷ []) w ≡ past_of log (undone was w) ++ undone was w ∷ []
past_grows [] was w = refl
past_grows (first ∷ log) was w =
    ap (λ v. undone first v ∷ past_of (log ++ was ∷ []) w) (all_grows log was w) ∙ ap (λ ws. undone first (all_undone log (undone was w)) ∷ ws) (past_grows log was w)

pub past_length : (log : List Was) (w : World) → length (past_of log w) ≡ length log
past_length [] w = refl
past_length (was ∷ log) w = ap suc (past_length log w)

-- the worlds before a last change are those before the world before it, and that
pub past_but_last : (all log : List Was) (was : Was) (w v : World) → all ≡ log ++ was ∷ [] → v ≡ undone was w → past_of all w ≡ past_of log v ++ v ∷ []
past_but_last all log was w v last back =
    ap (λ entries. past_of entries w) last ∙ past_grows log was w ∙ ap (λ u. past_of log u ++ u ∷ []) (sym back)

-- ---- what is kept of each of them

pub kept_last : (t : Tables) (ws : List World) (w : World) → AreKept t (ws ++ w ∷ []) → IsKept t w
kept_last t [] w all = all 0 w refl
kept_last t (x ∷ ws) w all = kept_last t ws w (λ i. all (suc i))

pub kept_front : (t : Tables) (ws : List World) (w : World) → AreKept t (ws ++ w ∷ []) → AreKept t ws
kept_front t [] w all i v e = absurd (none-some v e)
kept_front t (x ∷ ws) w all zero v e = all 0 v e
kept_front t (x ∷ ws) w all (suc i) v e = kept_front t ws w (λ j. all (suc j)) i v e

pub kept_more : (t : Tables) (ws : List World) (w : World) → AreKept t ws → IsKept t w → AreKept t (ws ++ w ∷ [])
kept_more t [] w all kept zero v e = subst (IsKept t) (same_Some w v e) kept
kept_more t [] w all kept (suc i) v e = absurd (none-some v e)
kept_more t (x ∷ ws) w all kept zero v e = all 0 v e
kept_more t (x ∷ ws) w all kept (suc i) v e = kept_more t ws w (λ j. all (suc j)) kept i v e

pub kept_none : (t : Tables) → AreKept t []
kept_none t i w e = absurd (none-some w e)

-- a story without a past
pub kept_without_past : (t u : Tables) (w v : World) (log : List Was) → u ≡ t → v ≡ w → log ≡ [] → IsKept t w → IsStoryWorld (story_world u v log)
kept_without_past t u w v log tables world none kept =
    let whole : story_world u v log ≡ record { tables = t; world = w; past = [] } = λ i. story_world (tables i) (world i) (none i) in
    subst IsStoryWorld (sym whole) (record { now = kept; before = kept_none t })

pub kept_in : (t a b : Tables) (w : World) (log : List Was) (s : StoryWorld) → story_world t w log ≡ s → a ≡ b → AreKept b (worlds s) → IsStoryWorld (story_world a w log)
kept_in t a b w log s same is all =
    let kept : AreKept a (past_of log w ++ w ∷ []) = subst (λ (u : Tables). AreKept u (past_of log w ++ w ∷ [])) (sym is) (subst (λ (x : StoryWorld). AreKept b (worlds x)) (sym same) all) in
    record { now = kept_last a (past_of log w) w kept; before = kept_front a (past_of log w) w kept }

-- ---- taking the last change back

kept_before : (t : Tables) (all log : List Was) (was : Was) (w v : World) → all ≡ log ++ was ∷ [] → v ≡ undone was w → IsStoryWorld (story_world t w all)
    → AreKept t (past_of log v ++ v ∷ [])
kept_before t all log was w v last back is = subst (AreKept t) (past_but_last all log was w v last back) is.before

pub kept_back : (t : Tables) (all log : List Was) (was : Was) (w v : World) → all ≡ log ++ was ∷ [] → v ≡ undone was w → IsStoryWorld (story_world t w all)
    → IsStoryWorld (story_world t v log)
kept_back t all log was w v last back is =
    let before = kept_before t all log was w v last back is in
    record { now = kept_last t (past_of log v) v before; before = kept_front t (past_of log v) v before }

-- ---- changes by what they replaced

set_back : {A : Type 0} (xs : List A) (i : ℕ) (value otherwise : A) → slice_set (slice_set xs i value) i (slice_index_or xs i otherwise) ≡ xs
set_back xs i value otherwise = set-set xs i value (slice_index_or xs i otherwise) ∙ set-get_or xs i otherwise

cell_back : {A : Type 0} (rows : List (List A)) (i o : ℕ) (value otherwise : A)
    → slice_set (slice_set rows i (slice_set (slice_index_or rows i []) o value)) i
    (slice_set (slice_index_or (slice_set rows i (slice_set (slice_index_or rows i []) o value)) i []) o (slice_index_or (slice_index_or rows i []) o otherwise)) ≡ rows
cell_back [] i o value otherwise = refl
cell_back (row ∷ rows) zero o value otherwise = ap (λ r. r ∷ rows) (set_back row o value otherwise)
cell_back (row ∷ rows) (suc i) o value otherwise = ap (λ rs. row ∷ rs) (cell_back rows i o value otherwise)

pub flag_back : (w : World) (property o : ℕ) (value : Bool) → set_flag property o (is_true_of w property o) (set_flag property o value w) ≡ w
unfolding is_true_of set_flag
flag_back w property o value = ap (λ flags. record w { flags = flags }) (cell_back w.flags property o value false)

pub number_back : (w : World) (property o : ℕ) (value : ℤ) → set_number property o (number_of w property o) (set_number property o value w) ≡ w
unfolding number_of set_number
number_back w property o value = ap (λ numbers. record w { numbers = numbers }) (cell_back w.numbers property o value (pos 0))

pub value_back : (w : World) (kind o value : ℕ) → set_value kind o (value_of w kind o) (set_value kind o value w) ≡ w
unfolding value_of set_value
value_back w kind o value = ap (λ values. record w { values = values }) (cell_back w.values kind o value 0)

pub variable_back : (w : World) (variable : ℕ) (value : ℤ) → set_variable variable (variable_of w variable) (set_variable variable value w) ≡ w
variable_back w variable value = ap (λ variables. record w { variables = variables }) (set_back w.variables variable value (pos 0))

pub scene_back : (w : World) (scene : ℕ) (now : SceneNow) → set_scene scene (scene_of w scene) (set_scene scene now w) ≡ w
scene_back w scene now = ap (λ scenes. record w { scenes = scenes }) (set_back w.scenes scene now (record { happens = false; has_begun = false }))

pub place_back : (w : World) (o : ℕ) (place : Option Place) → set_place o (place_of w o) (set_place o place w) ≡ w
place_back w o place = ap (λ places. record w { places = places }) (set_back w.places o place None)
