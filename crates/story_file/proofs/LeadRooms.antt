-- Ways that sentences state lead between rooms, by doors.
use Rattle.std.proofs.Common.{◌≡◌, ℕ, Bool, true, false, cond, ◌&&◌, ◌||◌, List, [], ◌∷◌, ◌++◌, Option, Some, None, refl, ◌∙◌, inl, inr}
use Rattle.std.specs.List.{list_all}
use Rattle.std.proofs.lemmas.Bool.{cases_Bool, and_from, and_parts, or_from}
use Rattle.world_meaning.specs.Sorts.{is_at, sorts_of, under_each}
use Rattle.world_meaning.specs.Standing.{is_at_or_none, leads}
use Rattle.i7_kinds.specs.Demands.{first_target, implied_in, implied_leads, is_exit, is_wrong, stated_in, stated_leads, subject_of, target_of, way_back, way_there, way_through, wrong_after, wrong_kind}
use Rattle.i7_claims.specs.Firsts.{first_of}
use Rattle.i7_kinds.specs.Knowns.{is_of, is_parted_at, kinds_of}
use Rattle.i7_kinds.specs.Tales.{way_to}
use Rattle.i7_kinds.specs.declared.knowns.Known.{Known}
use Rattle.i7_claims.specs.declared.statements.Numbered.{Numbered}
use Rattle.i7_claims.specs.declared.statements.Numbered.TheVariants as numbered
use Rattle.i7_claims.specs.declared.statements.NumberedSentence.{NumberedSentence}
use Rattle.i7_kinds.specs.declared.ways.Lead.{Lead}
use Rattle.i7_kinds.specs.declared.ways.Target.{Target}
use Rattle.i7_kinds.proofs.Placed.{judged}
use Rattle.story_file.proofs.MadeObjects.{LeadToRooms, told}

-- ---- ways lead between rooms

abbrev is_door_or_none : List (Option ℕ) → List Known → Option ℕ → Bool
is_door_or_none parents knowns None = true
is_door_or_none parents knowns (Some o) = is_of parents knowns 3 o

-- to a room, by a door or none
abbrev is_right : List (Option ℕ) → List Known → Option Target → Bool
is_right parents knowns None = true
is_right parents knowns (Some target) = is_of parents knowns 1 target.room && is_door_or_none parents knowns target.door

-- the objects of a fact are rooms, and what is between two a door
abbrev is_of_rooms : List (Option ℕ) → List Known → Numbered → Bool
is_of_rooms parents knowns numbered.Aside = true
is_of_rooms parents knowns (numbered.Description text) = true
is_of_rooms parents knowns (numbered.Describes o text) = true
is_of_rooms parents knowns (numbered.Being o) = true
is_of_rooms parents knowns (numbered.Way way) = is_of parents knowns 1 way.subject && is_of parents knowns 1 way.room
is_of_rooms parents knowns (numbered.Door d) = is_of parents knowns 3 d.door && (is_of parents knowns 1 d.first.room && is_of parents knowns 1 d.second.room)

nothing_wrong : (wrong : Bool) (line : ℕ) (later : Option ℕ) → cond wrong (Some line) later ≡ None → (wrong ≡ false) × (later ≡ None)
nothing_wrong true line later h = absurd cc
nothing_wrong false line later h = (refl, h)

module _ (parents : List (Option ℕ)) (knowns : List Known) (whole : (o : ℕ) → is_parted_at knowns o ≡ false) where
  abbrev are_of_rooms : NumberedSentence → Bool
  are_of_rooms statement = is_of_rooms parents knowns statement.said

  between : (before : Option ℕ) (fact : Numbered) → is_wrong parents knowns before fact ≡ false → is_of_rooms parents knowns fact ≡ true
  between before numbered.Aside h = refl
  between before (numbered.Description text) h = refl
  between before (numbered.Describes o text) h = refl
  between before (numbered.Being o) h = refl
  between before (numbered.Way way) h = judged (is_parted_at knowns way.subject) (is_parted_at knowns way.room) (is_of parents knowns 1 way.subject && is_of parents knowns 1 way.room) (whole way.subject) (whole way.room) h
  between before (numbered.Door d) h =
      judged (is_parted_at knowns d.door) (is_parted_at knowns d.first.room || is_parted_at knowns d.second.room) (is_of_rooms parents knowns (numbered.Door d))
      (whole d.door) (or_from (is_parted_at knowns d.first.room) (is_parted_at knowns d.second.room) (whole d.first.room) (whole d.second.room)) h

  all_of_rooms : (before : Option ℕ) (statements : List NumberedSentence) → wrong_after parents knowns before statements ≡ None → list_all are_of_rooms statements ≡ true
  all_of_rooms before [] h = refl
  all_of_rooms before (statement ∷ statements) h =
      let t = nothing_wrong (is_wrong parents knowns before statement.said) statement.line (wrong_after parents knowns (subject_of statement.said) statements) h in
      and_from (are_of_rooms statement) (list_all are_of_rooms statements) (between before statement.said t.0) (all_of_rooms (subject_of statement.said) statements t.1)

  -- each exit is led to a room, by a door or none
  abbrev LeadRight : List Lead → Type 0
  LeadRight leads = (room direction : ℕ) → is_right parents knowns (first_target leads room direction) ≡ true

  lead_right : (lead : Lead) (leads : List Lead) (room direction : ℕ) → is_right parents knowns (Some lead.target) ≡ true → is_right parents knowns (first_target leads room direction) ≡ true → is_right parents knowns (first_target (lead ∷ leads) room direction) ≡ true
  lead_right lead leads room direction h k =
      elim (cases_Bool (is_exit room direction lead)) [
        | inl is ↦ rw is h
        | inr isnt ↦ rw isnt k
      ]

  plain_right : (room : ℕ) → is_of parents knowns 1 room ≡ true → (is_of parents knowns 1 room && true) ≡ true
  plain_right room h = and_from (is_of parents knowns 1 room) true h refl

  stated_one : (fact : Numbered) (leads : List Lead) → is_of_rooms parents knowns fact ≡ true → LeadRight leads → LeadRight (stated_in fact ++ leads)
  stated_one numbered.Aside leads h k room direction = k room direction
  stated_one (numbered.Description text) leads h k room direction = k room direction
  stated_one (numbered.Describes o text) leads h k room direction = k room direction
  stated_one (numbered.Being o) leads h k room direction = k room direction
  stated_one (numbered.Way way) leads h k room direction =
      lead_right (way_there way) leads room direction (plain_right way.subject (and_parts (is_of parents knowns 1 way.subject) (is_of parents knowns 1 way.room) h).0) (k room direction)
  stated_one (numbered.Door d) leads h k room direction =
      let t = and_parts (is_of parents knowns 3 d.door) (is_of parents knowns 1 d.first.room && is_of parents knowns 1 d.second.room) h in
      let u = and_parts (is_of parents knowns 1 d.first.room) (is_of parents knowns 1 d.second.room) t.1 in
      lead_right (way_through d.door d.first d.second) (way_through d.door d.second d.first ∷ leads) room direction (and_from (is_of parents knowns 1 d.second.room) (is_of parents knowns 3 d.door) u.1 t.0)
      (lead_right (way_through d.door d.second d.first) leads room direction (and_from (is_of parents knowns 1 d.first.room) (is_of parents knowns 3 d.door) u.0 t.0) (k room direction))

  implied_one : (fact : Numbered) (leads : List Lead) → is_of_rooms parents knowns fact ≡ true → LeadRight leads → LeadRight (implied_in fact ++ leads)
  implied_one numbered.Aside leads h k room direction = k room direction
  implied_one (numbered.Description text) leads h k room direction = k room direction
  implied_one (numbered.Describes o text) leads h k room direction = k room direction
  implied_one (numbered.Being o) leads h k room direction = k room direction
  implied_one (numbered.Way way) leads h k room direction =
      lead_right (way_back way) leads room direction (plain_right way.room (and_parts (is_of parents knowns 1 way.subject) (is_of parents knowns 1 way.room) h).1) (k room direction)
  implied_one (numbered.Door d) leads h k room direction = k room direction

  stated_right : (statements : List NumberedSentence) → list_all are_of_rooms statements ≡ true → LeadRight (stated_leads statements)
  stated_right [] h room direction = refl
  stated_right (statement ∷ statements) h room direction =
      let t = and_parts (are_of_rooms statement) (list_all are_of_rooms statements) h in
      stated_one statement.said (stated_leads statements) t.0 (stated_right statements t.1) room direction

  implied_right : (statements : List NumberedSentence) → list_all are_of_rooms statements ≡ true → LeadRight (implied_leads statements)
  implied_right [] h room direction = refl
  implied_right (statement ∷ statements) h room direction =
      let t = and_parts (are_of_rooms statement) (list_all are_of_rooms statements) h in
      implied_one statement.said (implied_leads statements) t.0 (implied_right statements t.1) room direction

  either_right : (a b : Option Target) → is_right parents knowns a ≡ true → is_right parents knowns b ≡ true → is_right parents knowns (first_of a b) ≡ true
  either_right None b h k = k
  either_right (Some t) b h k = h

  targets_right : (statements : List NumberedSentence) → wrong_kind parents knowns statements ≡ None → (room direction : ℕ) → is_right parents knowns (target_of statements room direction) ≡ true
  targets_right statements h room direction =
      let rooms = all_of_rooms None statements h in
      either_right (first_target (stated_leads statements) room direction) (first_target (implied_leads statements) room direction) (stated_right statements rooms room direction) (implied_right statements rooms room direction)

  door_right : (door : Option ℕ) → is_door_or_none parents knowns door ≡ true → is_at_or_none (under_each parents (kinds_of knowns) 3) door ≡ true
  door_right None h = refl
  door_right (Some o) h = told parents knowns 3 o ∙ h

  leads_right : (target : Option Target) → is_right parents knowns target ≡ true → leads (sorts_of parents (kinds_of knowns)) (way_to target) ≡ true
  unfolding sorts_of
  leads_right None h = refl
  leads_right (Some target) h =
      let t = and_parts (is_of parents knowns 1 target.room) (is_door_or_none parents knowns target.door) h in
      and_from (is_at (under_each parents (kinds_of knowns) 1) target.room) (is_at_or_none (under_each parents (kinds_of knowns) 3) target.door) (told parents knowns 1 target.room ∙ t.0) (door_right target.door t.1)

  pub lead_to_rooms : (statements : List NumberedSentence) → wrong_kind parents knowns statements ≡ None → LeadToRooms (sorts_of parents (kinds_of knowns)) statements
  lead_to_rooms statements h room direction = leads_right (target_of statements room direction) (targets_right statements h room direction)
