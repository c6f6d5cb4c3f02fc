-- The statement that leads an exit to a second target is the first that leads one elsewhere than a statement before it.
use Rattle.std.proofs.Common.{◌≡◌, ℕ, Bool, true, List, [], ◌∷◌, ◌++◌, Option, refl, sym, ap, ◌∙◌, subst, inl, inr, ⊎_elim}
use Rattle.std.specs.Prelude.{◌==◌, Some, None, option_map}
use Rattle.std.proofs.lemmas.Bool.{eqb-true, eq-eqb, and_from, and_parts}
use Rattle.i7_claims.specs.declared.statements.Numbered.{Numbered}
use Rattle.i7_claims.specs.declared.statements.Numbered.TheVariants as numbered
use Rattle.i7_claims.specs.declared.statements.NumberedDoor.{NumberedDoor}
use Rattle.i7_claims.specs.declared.statements.NumberedSentence.{NumberedSentence}
use Rattle.i7_kinds.specs.Demands.{is_exit, is_same_door, is_target, leads_to, line_of_statement, second_target, shows_elsewhere, stated_in, stated_leads, target_led, way_through}
use Rattle.i7_kinds.specs.FirstShown.{IsFirst, IsFound}
use Rattle.i7_kinds.specs.RefusalsShown.{IsLedElsewhere, States}
use Rattle.i7_kinds.specs.declared.ways.Exit.{Exit}
use Rattle.i7_kinds.specs.declared.ways.Lead.{Lead}
use Rattle.i7_kinds.specs.declared.ways.Target.{Target}
use Rattle.i7_kinds.proofs.Contrary.{IsAmong, IsContrary, Keyed, all_told, contrary_first}
use Rattle.i7_kinds.proofs.FirstShown.{first_passed, first_same, found_of_first, found_passed, shown_as}

-- ---- leads are keyed by their exits

same_doors : (a b : Option ℕ) → is_same_door a b ≡ true → a ≡ b
same_doors None None h = refl
same_doors None (Some b) h = absurd cc
same_doors (Some a) None h = absurd cc
same_doors (Some a) (Some b) h = ap (λ (n : ℕ). Some n) (eqb-true a b h)

pub same_door_itself : (a : Option ℕ) → is_same_door a a ≡ true
same_door_itself None = refl
same_door_itself (Some a) = eq-eqb a a refl

pub same_targets : (a b : Target) → is_target a b ≡ true → a ≡ b
same_targets a b h =
    let t = and_parts (a.room == b.room) (is_same_door a.door b.door) h in
    λ i. record { room = eqb-true a.room b.room t.0 i; door = same_doors a.door b.door t.1 i }

abbrev same_exit : Lead → Lead → Bool
same_exit lead other = is_exit lead.exit.room lead.exit.direction other

same_rooms : (a b : Lead) → same_exit a b ≡ true → (b.exit.room ≡ a.exit.room) × (b.exit.direction ≡ a.exit.direction)
same_rooms a b h =
    let t = and_parts (b.exit.room == a.exit.room) (b.exit.direction == a.exit.direction) h in
    (eqb-true b.exit.room a.exit.room t.0, eqb-true b.exit.direction a.exit.direction t.1)

same_exits : (a b : Lead) → same_exit a b ≡ true → a.exit ≡ b.exit
same_exits a b h = let t = same_rooms a b h in λ i. record { room = sym t.0 i; direction = sym t.1 i }

pub exits_same : (a b : Lead) → a.exit ≡ b.exit → same_exit a b ≡ true
exits_same a b h =
    and_from (b.exit.room == a.exit.room) (b.exit.direction == a.exit.direction)
    (eq-eqb b.exit.room a.exit.room (ap (λ (e : Exit). e.room) (sym h)))
    (eq-eqb b.exit.direction a.exit.direction (ap (λ (e : Exit). e.direction) (sym h)))

keyed : Keyed same_exit target_led leads_to
keyed = record {
  itself = λ x. exits_same x x refl;
  alike = λ x y h. let t = same_rooms x y h in λ i z. is_exit (t.0 i) (t.1 i) z;
  with_none = λ v. refl;
  agreeing = same_targets;
  with_itself = λ v. and_from (v.room == v.room) (is_same_door v.door v.door) (eq-eqb v.room v.room refl) (same_door_itself v.door);
}

-- ---- what a statement states

pub stated_to : (lead : Lead) (said : Numbered) → IsAmong lead (stated_in said) → States lead said
stated_to lead numbered.Aside m = m
stated_to lead (numbered.Description text) m = m
stated_to lead (numbered.Describes o text) m = m
stated_to lead (numbered.Being o) m = m
stated_to lead (numbered.Way way) m = ⊎_elim (λ here. here) (λ none. absurd none) m
stated_to lead (numbered.Door d) m = ⊎_elim (λ here. inl here) (λ later. ⊎_elim (λ here. inr here) (λ none. absurd none) later) m

pub stated_from : (lead : Lead) (said : Numbered) → States lead said → IsAmong lead (stated_in said)
stated_from lead numbered.Aside m = m
stated_from lead (numbered.Description text) m = m
stated_from lead (numbered.Describes o text) m = m
stated_from lead (numbered.Being o) m = m
stated_from lead (numbered.Way way) m = inl m
stated_from lead (numbered.Door d) m = ⊎_elim (λ here. inl here) (λ there. inr (inl there)) m

-- both ways through a door that is in one direction of one room lead there
through : (d : NumberedDoor) → same_exit (way_through d.door d.first d.second) (way_through d.door d.second d.first) ≡ true
    → target_led (way_through d.door d.second d.first) ≡ target_led (way_through d.door d.first d.second)
through d h =
    let t = same_rooms (way_through d.door d.first d.second) (way_through d.door d.second d.first) h in
    λ i. record { room = sym t.0 i; door = Some d.door }

back_through : (d : NumberedDoor) → same_exit (way_through d.door d.second d.first) (way_through d.door d.first d.second) ≡ true
    → target_led (way_through d.door d.first d.second) ≡ target_led (way_through d.door d.second d.first)
back_through d h =
    let t = same_rooms (way_through d.door d.second d.first) (way_through d.door d.first d.second) h in
    λ i. record { room = sym t.0 i; door = Some d.door }

-- no statement leads one exit to two targets
pub one_target : (said : Numbered) (x y : Lead) → States x said → States y said → same_exit x y ≡ true → target_led y ≡ target_led x
one_target numbered.Aside x y m k h = absurd m
one_target (numbered.Description text) x y m k h = absurd m
one_target (numbered.Describes o text) x y m k h = absurd m
one_target (numbered.Being o) x y m k h = absurd m
one_target (numbered.Way way) x y m k h = ap target_led (k ∙ sym m)
one_target (numbered.Door d) x y (inl m) (inl k) h = ap target_led (k ∙ sym m)
one_target (numbered.Door d) x y (inr m) (inr k) h = ap target_led (k ∙ sym m)
one_target (numbered.Door d) x y (inl m) (inr k) h =
    ap target_led k ∙ through d (sym (λ i. same_exit (m i) (k i)) ∙ h) ∙ ap target_led (sym m)
one_target (numbered.Door d) x y (inr m) (inl k) h =
    ap target_led k ∙ back_through d (sym (λ i. same_exit (m i) (k i)) ∙ h) ∙ ap target_led (sym m)

-- ---- the statements

abbrev Nothing : Type 0
Nothing = Unit {0}

abbrev tells : Nothing → NumberedSentence → List Lead
tells state s = stated_in s.said

abbrev goes_on : Nothing → NumberedSentence → Nothing
goes_on state s = state

told_all : (statements : List NumberedSentence) → all_told tells goes_on tt statements ≡ stated_leads statements
told_all [] = refl
told_all (s ∷ statements) = ap (λ (leads : List Lead). stated_in s.said ++ leads) (told_all statements)

abbrev Contrary : List NumberedSentence → NumberedSentence → Type 0
Contrary before s = IsContrary same_exit target_led leads_to keyed line_of_statement tells goes_on tt before s

pub elsewhere_first : (statements : List NumberedSentence) → IsFirst line_of_statement IsLedElsewhere statements (second_target statements)
elsewhere_first statements =
    let found : second_target statements ≡ option_map line_of_statement (first_passed (λ (state : Nothing) s. shows_elsewhere (all_told tells goes_on tt statements) s) goes_on tt statements) =
    ap (λ (found : Option NumberedSentence). option_map line_of_statement found) (found_passed (shows_elsewhere (stated_leads statements)) statements)
    ∙ ap (λ (leads : List Lead). option_map line_of_statement (first_passed (λ (state : Nothing) s. shows_elsewhere leads s) goes_on tt statements)) (sym (told_all statements)) in
    let contrary = contrary_first same_exit target_led leads_to keyed line_of_statement tells goes_on
    (λ state s x y m k h. one_target s.said x y (stated_to x s.said m) (stated_to y s.said k) h)
    tt statements in
    first_same line_of_statement Contrary IsLedElsewhere statements (second_target statements)
    (λ before s after split c. record {
      lead = c.here;
      other = c.other;
      states = stated_to c.here s.said c.tells;
      stated = shown_as _ _ before (λ earlier a m. stated_to c.other a.said m) c.told_before;
      exit = same_exits c.here c.other c.key;
      differ = λ e. c.differ (sym e);
    })
    (λ before s after split e. inl (record {
      here = e.lead;
      other = e.other;
      tells = stated_from e.lead s.said e.states;
      told_before = shown_as _ _ before (λ earlier a m. stated_from e.other a.said m) e.stated;
      key = exits_same e.lead e.other e.exit;
      differ = λ same. e.differ (sym same);
    }))
    (subst (λ (line : Option ℕ). IsFirst line_of_statement Contrary statements line) (sym found) contrary)

pub elsewhere_found : (statements : List NumberedSentence) → IsFound line_of_statement IsLedElsewhere statements (second_target statements)
elsewhere_found statements = found_of_first line_of_statement IsLedElsewhere statements (second_target statements) (elsewhere_first statements)
