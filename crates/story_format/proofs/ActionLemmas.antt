-- The actions of a tale: their table is a story's, has room in its bytes, and says what they ask for.
use Rattle.std.proofs.Common.{◌≡◌, ◌∙◌, refl, ℕ, ◌+◌, ◌≤◌, Bool, true, false, ◌&&◌, ◌||◌, ltb, leb, eqb, List, [], ◌∷◌, ◌++◌, length, map, Some, arith, length-append}
use Rattle.std.specs.Prelude.{count_by}
use Rattle.std.specs.List.{AllZip, list_all}
use Rattle.std.proofs.lemmas.Bool.{le-leb, lt-ltb, and_from, and_parts}
use Rattle.std.proofs.lemmas.List.{length-map}
use Rattle.std.proofs.lemmas.List.Folds.{list_all-append}
use Rattle.world_meaning.specs.declared.needs.Needs.{Needs}
use Rattle.world_meaning.specs.declared.needs.Slot.{Slot}
use Rattle.world_meaning.specs.declared.needs.Slot.TheVariants.{Absent, Visible, Touched, Carried}
use Rattle.play_meaning.specs.StandardActions.{standard_needs}
use Rattle.story_format.specs.Carrying.{AsksFor, is_present, need_told}
use Rattle.story_format.specs.Holding.{has_first_noun}
use Rattle.story_format.specs.Layout.{action_layout}
use Rattle.story_format.specs.RuleChecks.{are_right_actions, begin_with_actions, is_right_action, is_right_need}
use Rattle.story_format.specs.RuleMaking.{action_entries, action_entry, mark_if, need_number, noun_count}

-- ---- how many there are

pub sixteen : length standard_needs ≡ 16
unfolding standard_needs
sixteen = refl

pub length_actions : (actions : List Needs) → length (action_entries actions) ≡ 16 + length actions
unfolding action_entries
length_actions actions = omega (arith, length-map (standard_needs ++ actions) action_entry, length-append standard_needs actions, sixteen)

-- ---- they are right

nouns_right : (noun second : Slot) → leb (noun_count second) (noun_count noun) ≡ true
    → (leb (noun_count noun + noun_count second) 2 && is_right_need (leb 1 (noun_count noun + noun_count second)) (need_number noun) && is_right_need (leb 2 (noun_count noun + noun_count second)) (need_number second)) ≡ true
nouns_right Absent Absent h = refl
nouns_right Absent Visible h = absurd cc
nouns_right Absent Touched h = absurd cc
nouns_right Absent Carried h = absurd cc
nouns_right Visible Absent h = refl
nouns_right Visible Visible h = refl
nouns_right Visible Touched h = refl
nouns_right Visible Carried h = refl
nouns_right Touched Absent h = refl
nouns_right Touched Visible h = refl
nouns_right Touched Touched h = refl
nouns_right Touched Carried h = refl
nouns_right Carried Absent h = refl
nouns_right Carried Visible h = refl
nouns_right Carried Touched h = refl
nouns_right Carried Carried h = refl

marks_right : (light out : Bool) → leb (mark_if 1 light + mark_if 2 out) 3 ≡ true
marks_right true true = refl
marks_right true false = refl
marks_right false true = refl
marks_right false false = refl

entry_right : (needs : Needs) → has_first_noun needs ≡ true → is_right_action (action_entry needs) ≡ true
unfolding is_right_action
entry_right needs h = rw (nouns_right needs.noun needs.second h) (marks_right needs.light needs.out_of_world)

entries_right : (actions : List Needs) → list_all has_first_noun actions ≡ true → list_all is_right_action (map action_entry actions) ≡ true
entries_right [] h = refl
entries_right (needs ∷ actions) h =
    let t = and_parts (has_first_noun needs) (list_all has_first_noun actions) h in
    and_from (is_right_action (action_entry needs)) (list_all is_right_action (map action_entry actions)) (entry_right needs t.0) (entries_right actions t.1)

pub standard_first : list_all has_first_noun standard_needs ≡ true
unfolding standard_needs
standard_first = refl

begin_so : (actions : List Needs) → begin_with_actions (action_entries actions) (action_entries []) ≡ true
unfolding begin_with_actions action_entries standard_needs
begin_so actions = refl

each_right : (actions : List Needs) → list_all has_first_noun actions ≡ true → list_all is_right_action (action_entries actions) ≡ true
unfolding action_entries
each_right actions h =
    entries_right (standard_needs ++ actions) (list_all-append has_first_noun standard_needs actions ∙ and_from (list_all has_first_noun standard_needs) (list_all has_first_noun actions) standard_first h)

pub actions_right : (actions : List Needs) → length actions ≤ 184 → list_all has_first_noun actions ≡ true → are_right_actions (action_entries actions) ≡ true
unfolding are_right_actions
actions_right actions few h =
    let count : leb (length (action_entries actions)) 200 ≡ true = le-leb _ _ (omega (arith, length_actions actions, few)) in
    rw (count, begin_so actions) (each_right actions h)

-- ---- there is room for each in its bytes

count_fits : (noun second : Slot) → ltb (noun_count noun + noun_count second) 256 ≡ true
count_fits Absent Absent = refl
count_fits Absent Visible = refl
count_fits Absent Touched = refl
count_fits Absent Carried = refl
count_fits Visible Absent = refl
count_fits Visible Visible = refl
count_fits Visible Touched = refl
count_fits Visible Carried = refl
count_fits Touched Absent = refl
count_fits Touched Visible = refl
count_fits Touched Touched = refl
count_fits Touched Carried = refl
count_fits Carried Absent = refl
count_fits Carried Visible = refl
count_fits Carried Touched = refl
count_fits Carried Carried = refl

need_fits : (slot : Slot) → ltb (need_number slot) 256 ≡ true
need_fits Absent = refl
need_fits Visible = refl
need_fits Touched = refl
need_fits Carried = refl

marks_fit : (light out : Bool) → ltb (mark_if 1 light + mark_if 2 out) 256 ≡ true
marks_fit true true = refl
marks_fit true false = refl
marks_fit false true = refl
marks_fit false false = refl

entry_fits : (needs : Needs) → action_layout.format.fits (action_entry needs) ≡ true
unfolding action_layout
entry_fits needs = rw (count_fits needs.noun needs.second, need_fits needs.noun, need_fits needs.second) (marks_fit needs.light needs.out_of_world)

entries_fit : (actions : List Needs) → list_all action_layout.format.fits (map action_entry actions) ≡ true
entries_fit [] = refl
entries_fit (needs ∷ actions) = and_from (action_layout.format.fits (action_entry needs)) (list_all action_layout.format.fits (map action_entry actions)) (entry_fits needs) (entries_fit actions)

pub actions_fit : (actions : List Needs) → list_all action_layout.format.fits (action_entries actions) ≡ true
unfolding action_entries
actions_fit actions = entries_fit (standard_needs ++ actions)

pub action_count : (actions : List Needs) → length actions ≤ 184 → ltb (length (action_entries actions)) 65536 ≡ true
action_count actions few = lt-ltb _ _ (omega (arith, length_actions actions, few))

-- ---- they say what is asked for

count_told : (noun second : Slot) → noun_count noun + noun_count second ≡ count_by is_present (noun ∷ second ∷ [])
count_told Absent Absent = refl
count_told Absent Visible = refl
count_told Absent Touched = refl
count_told Absent Carried = refl
count_told Visible Absent = refl
count_told Visible Visible = refl
count_told Visible Touched = refl
count_told Visible Carried = refl
count_told Touched Absent = refl
count_told Touched Visible = refl
count_told Touched Touched = refl
count_told Touched Carried = refl
count_told Carried Absent = refl
count_told Carried Visible = refl
count_told Carried Touched = refl
count_told Carried Carried = refl

number_told : (slot : Slot) → need_told (need_number slot) ≡ Some slot
number_told Absent = refl
number_told Visible = refl
number_told Touched = refl
number_told Carried = refl

abbrev has_mark : ℕ → ℕ → Bool
has_mark mark marks = eqb marks mark || eqb marks 3

light_told : (light out : Bool) → has_mark 1 (mark_if 1 light + mark_if 2 out) ≡ light
light_told true true = refl
light_told true false = refl
light_told false true = refl
light_told false false = refl

out_told : (light out : Bool) → has_mark 2 (mark_if 1 light + mark_if 2 out) ≡ out
out_told true true = refl
out_told true false = refl
out_told false true = refl
out_told false false = refl

pub entries_ask : (actions : List Needs) → AllZip AsksFor (map action_entry actions) actions
entries_ask [] = tt
entries_ask (needs ∷ actions) = (
  record {
    nouns = count_told needs.noun needs.second;
    noun = number_told needs.noun;
    second = number_told needs.second;
    light = light_told needs.light needs.out_of_world;
    out_of_world = out_told needs.light needs.out_of_world;
  },
  entries_ask actions,
)

pub actions_ask : (actions : List Needs) → AllZip AsksFor (action_entries actions) (standard_needs ++ actions)
unfolding action_entries
actions_ask actions = entries_ask (standard_needs ++ actions)
