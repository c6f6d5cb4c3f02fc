-- Levels as the code keeps them: what was read last stands last.
use Rattle.std.proofs.Common.{◌≡◌, Global, Vec, ℕ, ◌+◌, ◌<◌, ◌≤◌, false, List, [], ◌∷◌, ◌++◌, length, reverse, Option, None, Some, option_map, refl, sym, ap, ◌∙◌, arith, append_assoc, length-append}
use Rattle.std.proofs.lemmas.List.{map-append, reverse-append}
use Rattle.play_meaning.specs.Composed.{if_meant}
use Rattle.play_meaning.specs.Meant.{body_meant, branches_meant, condition_meant}
use Rattle.play_meaning.specs.Trees.{Body, End, If, Then}
use Rattle.play_meaning.specs.declared.tree.phrase.Branch.{Branch}
use Rattle.play_meaning.specs.declared.tree.phrase.Phrase.{Phrase}
use Rattle.play_meaning.specs.declared.tree.phrase.Phrase.TheVariants as phrase
use Rattle.i7_conditions.specs.Levels.{Level, alone, behind, level_of, levels_of, levels_on, no_level, placed, placed_on}
use Rattle.i7_conditions.specs.declared.line.Line.{Line}
use Rattle.i7_conditions.specs.declared.line.Step.{Step}
use Rattle.i7_conditions.specs.declared.nesting.Level.{Level as Kept}
use Rattle.i7_conditions.proofs.Nested.{in_front, map_only, on_append, one_more, too_deep}

abbrev made : Body → Body → Option Level
made others body = Some (record { waits = false; others = others; body = body })

pub choice_level : (first : Branch) (v new_v : Vec Branch Global) (w new_w : Vec Phrase Global) (rows all : List Phrase) (bs : List Branch)
    → v.items ≡ reverse bs → all ≡ rows ++ phrase.If first v w ∷ [] → new_v.items ≡ [] → new_w.items ≡ []
    → made (branches_meant (reverse new_v.items) (body_meant new_w.items)) (body_meant (reverse all))
    ≡ made End (Then (If (condition_meant first.condition) (body_meant first.phrases.items) (branches_meant (reverse bs) (body_meant w.items))) (body_meant (reverse rows)))
choice_level first v new_v w new_w rows all bs is_v is_all no_v no_w =
    ap (λ x. made (branches_meant (reverse x) (body_meant new_w.items)) (body_meant (reverse all))) no_v
    ∙ ap (λ x. made (body_meant x) (body_meant (reverse all))) no_w
    ∙ ap (made End) (ap (λ a. body_meant (reverse a)) is_all ∙ ap body_meant (reverse-append rows (phrase.If first v w ∷ []))
    ∙ ap (λ m. Then m (body_meant (reverse rows))) (sym (if_meant (phrase.If first v w) first v w v.items w.items refl refl refl)
    ∙ ap (λ b. If (condition_meant first.condition) (body_meant first.phrases.items) (branches_meant b (body_meant w.items))) is_v))

-- ---- levels one more, or one less

pub levels_last : (levels : List Kept) (level : Kept) → levels_of (levels ++ level ∷ []) ≡ levels_of levels ++ level_of level ∷ []
levels_last levels level = map-append level_of levels (level ∷ [])

levels_len : (levels : List Kept) → length (levels_of levels) ≡ length levels
levels_len [] = refl
levels_len (x ∷ levels) = omega (arith, levels_len levels)

front_len : (depth : ℕ) (all front : List Kept) (level : Kept) → all ≡ front ++ level ∷ [] → length all ≡ depth + 1 → length (levels_of front) ≡ depth
front_len depth all front level is deepest = omega (arith, levels_len front, length-append front (level ∷ []), ap length is, deepest)

pub raised_one : (depth : ℕ) (before after : List Kept) (level : Kept) (step : Step) → after ≡ before ++ level ∷ [] → level_of level ≡ no_level → length before ≤ depth → placed depth step (levels_of after) ≡ placed depth step (levels_of before)
raised_one depth before after level step is empty few =
    ap (λ levels. placed depth step (levels_of levels)) is ∙ ap (placed depth step) (levels_last before level ∙ ap (λ l. levels_of before ++ l ∷ []) empty)
    ∙ one_more depth step (levels_of before) (omega (arith, few, levels_len before))

-- a line at the deepest level
pub alone_placed : (depth : ℕ) (step : Step) (all front : List Kept) (level : Kept) (x : Option (List Level)) (found : Option Level) → all ≡ front ++ level ∷ [] → length all ≡ depth + 1
    → found ≡ alone step (level_of level) → x ≡ option_map (λ y. levels_of front ++ y ∷ []) found → x ≡ placed depth step (levels_of all)
alone_placed depth step all front level x found is deepest is_found is_x =
    is_x ∙ ap (option_map (λ y. levels_of front ++ y ∷ [])) is_found ∙ sym (map_only (levels_of front) (alone step (level_of level)))
    ∙ sym (in_front depth (levels_of front) step (level_of level ∷ []) (front_len depth all front level is deepest))
    ∙ ap (placed depth step) (sym (ap levels_of is ∙ levels_last front level))

pub behind_placed : (depth : ℕ) (step : Step) (all front : List Kept) (level inner : Kept) (x : Option (List Level)) (found : Option Level) → all ≡ front ++ level ∷ [] → length all ≡ depth + 1
    → found ≡ behind step (level_of inner) (level_of level) → x ≡ option_map (λ y. levels_of front ++ y ∷ []) found → x ≡ placed depth step (levels_of all ++ level_of inner ∷ [])
behind_placed depth step all front level inner x found is deepest is_found is_x =
    is_x ∙ ap (option_map (λ y. levels_of front ++ y ∷ [])) is_found ∙ sym (map_only (levels_of front) (behind step (level_of inner) (level_of level)))
    ∙ sym (in_front depth (levels_of front) step (level_of level ∷ level_of inner ∷ []) (front_len depth all front level is deepest))
    ∙ ap (placed depth step) (sym (ap (λ levels. levels ++ level_of inner ∷ []) (ap levels_of is ∙ levels_last front level) ∙ append_assoc (levels_of front) (level_of level ∷ []) (level_of inner ∷ [])))

pub deep_placed : (depth : ℕ) (step : Step) (all : List Kept) (inner : Kept) → depth + 1 < length all → None ≡ placed depth step (levels_of all ++ level_of inner ∷ [])
deep_placed depth step all inner h = sym (too_deep depth step (levels_of all) (level_of inner) (omega (arith, h, levels_len all)))

-- ---- lines one less

pub line_kept : (levels more : List Level) (rest before : List Line) (line : Line) (all : Option (List Level)) → rest ≡ before ++ line ∷ [] → levels_on levels rest ≡ all → Some more ≡ placed line.depth line.step levels → levels_on more before ≡ all
line_kept levels more rest before line all is so_far kept = sym (on_append levels more before (line ∷ []) (sym kept)) ∙ ap (levels_on levels) (sym is) ∙ so_far

lost : (levels : List Level) (before : List Line) (line : Line) → placed line.depth line.step levels ≡ None → levels_on levels (before ++ line ∷ []) ≡ None
lost levels [] line is = is
lost levels (x ∷ before) line is = ap (placed_on x) (lost levels before line is)

pub line_lost : (levels : List Level) (rest before : List Line) (line : Line) (all : Option (List Level)) → rest ≡ before ++ line ∷ [] → levels_on levels rest ≡ all → None ≡ placed line.depth line.step levels → None ≡ all
line_lost levels rest before line all is so_far none = sym (lost levels before line (sym none)) ∙ ap (levels_on levels) (sym is) ∙ so_far

pub none_left : (lines : List Line) → length lines ≡ 0 → lines ≡ []
none_left [] is = refl
none_left (line ∷ lines) is = absurd (omega (arith, is))
