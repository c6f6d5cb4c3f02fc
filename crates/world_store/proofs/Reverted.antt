-- Turning a story back to a mark.
use Rattle.std.proofs.Common.{◌≡◌, ◌∙◌, sym, ap, refl, ℕ, ◌+◌, ◌<◌, ◌≤◌, List, [], ◌∷◌, ◌++◌, length, arith}
use Rattle.std.specs.Prelude.{Err, Ok, Result, slice_index_or, take}
use Rattle.std.proofs.lemmas.List.{append-nil, append_assoc, get_or_append_left, get_or_default, length-append, take-append-le, take_all}
use Rattle.play_meaning.specs.Worlds.{World}
use Rattle.play_meaning.specs.declared.fault.WorldFault.{WorldFault}
use Rattle.play_meaning.specs.declared.fault.WorldFault.TheVariants.{Memory, Misplaced}
use Rattle.world_store.specs.AskedChanges.{AreSetters, Asked, all_changed}
use Rattle.world_store.specs.StoryWorlds.{StoryWorld, changed, reverted, worlds}

one_more : (ws : List World) (w : World) → length (ws ++ w ∷ []) ≡ length ws + 1
one_more ws w = length-append ws (w ∷ [])

pub shorter : (old new : StoryWorld) → old.past ≡ new.past ++ new.world ∷ [] → length old.past ≡ length new.past + 1
shorter old new before = ap length before ∙ one_more new.past new.world

-- a mark before the last change leads where it leads from the world before that
pub reverted_back : (mark : ℕ) (old new : StoryWorld) → new.tables ≡ old.tables → old.past ≡ new.past ++ new.world ∷ [] → mark ≤ length new.past → reverted mark new ≡ reverted mark old
reverted_back mark old new same before upto = λ i. record { tables = same i; world = world i; past = past i }
  where
    within : mark < length (worlds new)
    within = omega (arith, upto, one_more new.past new.world)

    world : slice_index_or (worlds new) mark new.world ≡ slice_index_or (worlds old) mark old.world
    world =
        get_or_default (worlds new) mark new.world old.world within ∙ sym (get_or_append_left (worlds new) (old.world ∷ []) old.world mark within)
        ∙ ap (λ ws. slice_index_or (ws ++ old.world ∷ []) mark old.world) (sym before)

    past : take mark new.past ≡ take mark old.past
    past = sym (take-append-le mark new.past (new.world ∷ []) upto) ∙ ap (take mark) (sym before)

at_seam : (ws : List World) (w d : World) → slice_index_or (ws ++ w ∷ []) (length ws) d ≡ w
at_seam [] w d = refl
at_seam (x ∷ ws) w d = at_seam ws w d

-- the mark of the present place leads nowhere else
pub reverted_here : (mark : ℕ) (s : StoryWorld) → mark ≤ length s.past → length s.past ≤ mark → s ≡ reverted mark s
reverted_here mark s upto from =
    let here : mark ≡ length s.past = omega (arith, upto, from) in
    λ i. record {
      tables = s.tables;
      world = sym (ap (λ n. slice_index_or (worlds s) n s.world) here ∙ at_seam s.past s.world s.world) i;
      past = sym (take_all mark s.past from) i;
    }

-- ---- what was added since a mark is gone

pub brought_back : (old new : StoryWorld) (more : List World) → new.tables ≡ old.tables → worlds new ≡ worlds old ++ more → reverted (length old.past) new ≡ old
brought_back old new more same added = λ i. record { tables = same i; world = world i; past = past i }
  where
    mark : ℕ
    mark = length old.past

    within : mark ≤ length new.past
    within = omega (arith, one_more new.past new.world, ap length added, length-append (worlds old) more, one_more old.past old.world)

    world : slice_index_or (worlds new) (length old.past) new.world ≡ old.world
    world =
        ap (λ ws. slice_index_or ws (length old.past) new.world) added
        ∙ get_or_append_left (worlds old) more new.world (length old.past) (omega (arith, one_more old.past old.world)) ∙ at_seam old.past old.world new.world

    past : take (length old.past) new.past ≡ old.past
    past =
        sym (take-append-le (length old.past) new.past (new.world ∷ []) within) ∙ ap (take (length old.past)) added
        ∙ take-append-le (length old.past) (worlds old) more (omega (arith, one_more old.past old.world))
        ∙ take-append-le (length old.past) old.past (old.world ∷ []) (omega arith) ∙ take_all (length old.past) old.past (omega arith)

added_by : (answer : Result (Unit {0}) WorldFault) (made : World) (s : StoryWorld) → (answer ≡ Err Misplaced → made ≡ s.world)
    → (more : List World) × (worlds (changed answer made s) ≡ worlds s ++ more)
added_by (Ok done) made s same = (made ∷ [], refl)
added_by (Err Misplaced) made s same = ([], ap (λ (w : World). s.past ++ w ∷ []) (same refl) ∙ sym (append-nil (worlds s)))
added_by (Err Memory) made s same = ([], sym (append-nil (worlds s)))

all_added : (changes : List Asked) (s : StoryWorld) → AreSetters changes s → (more : List World) × (worlds (all_changed changes s) ≡ worlds s ++ more)
all_added [] s are = ([], sym (append-nil (worlds s)))
all_added (asked ∷ rest) s are =
    let first = added_by asked.answer asked.made s are.0 in
    let others = all_added rest (changed asked.answer asked.made s) are.1 in
    (first.0 ++ others.0, others.1 ∙ ap (λ (ws : List World). ws ++ others.0) first.1 ∙ append_assoc (worlds s) first.0 others.0)

same_tables : (changes : List Asked) (s : StoryWorld) → (all_changed changes s).tables ≡ s.tables
same_tables [] s = refl
same_tables (asked ∷ rest) s = same_tables rest (changed asked.answer asked.made s)

pub changes_brought_back : (s : StoryWorld) (changes : List Asked) → AreSetters changes s → reverted (length s.past) (all_changed changes s) ≡ s
changes_brought_back s changes are = let added = all_added changes s are in brought_back s (all_changed changes s) added.0 (same_tables changes s) added.1
