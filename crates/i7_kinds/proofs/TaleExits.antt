-- The exits of the objects of a tale are as the sentences say that mean the tale.
use Rattle.std.proofs.Common.{◌≡◌, ℕ, ◌+◌, ◌-◌, zero, suc, List, [], ◌∷◌, Option, refl, sym, ap, ◌∙◌, subst, arith, inl, inr, ⊎_elim, true≢false}
use Rattle.std.specs.Prelude.{Some, None, Result, slice_get}
use Rattle.std.proofs.lemmas.Bool.{cases_Bool}
use Rattle.world_meaning.proofs.Climbs.{climbs_decide}
use Rattle.world_meaning.specs.Directions.{direction_number}
use Rattle.world_meaning.specs.Kinds.{Under, is_under, room_kind}
use Rattle.world_meaning.specs.Tale.{object_at}
use Rattle.world_meaning.specs.declared.direction.Direction.{Direction}
use Rattle.world_meaning.specs.declared.direction.Direction.TheVariants as direction
use Rattle.world_meaning.specs.declared.exits.Exits.{Exits}
use Rattle.world_meaning.specs.declared.exits.Way.{Way}
use Rattle.world_meaning.specs.declared.fault.Fault.{Fault}
use Rattle.world_meaning.specs.declared.tale.Object.{Object}
use Rattle.world_meaning.specs.declared.tale.Tale.{Tale}
use Rattle.i7_sentences.specs.declared.sentence.Sentence.{Sentence}
use Rattle.i7_claims.specs.Claims.{claims_of}
use Rattle.i7_claims.specs.Statements.{named_by, stated_by}
use Rattle.i7_claims.specs.declared.statements.Numbered.{Numbered}
use Rattle.i7_claims.specs.declared.statements.Numbered.TheVariants as numbered
use Rattle.i7_claims.specs.declared.statements.NumberedSentence.{NumberedSentence}
use Rattle.i7_kinds.specs.Actions.{actions_said}
use Rattle.i7_kinds.specs.Demands.{line_of_statement, target_led, target_of}
use Rattle.i7_kinds.specs.ExitsShown.{Implies, IsLedFirst, IsWayOut}
use Rattle.i7_kinds.specs.FirstShown.{IsShown}
use Rattle.i7_kinds.specs.Judged.{AreJudged, Refusal, stands_twice, Shows, knowns_said, scope_said}
use Rattle.i7_kinds.specs.RefusalsShown.{IsLedElsewhere}
use Rattle.i7_kinds.specs.TaleExits.{ExitsAreAsSaid, HasExits, LeadsAsSaid, way_out_of}
use Rattle.i7_kinds.specs.Tales.{Made, entries_of, exits_by, exits_of, kind_at, made_of, no_exits, object_as, object_of, objects_of, refusal_of, way_to}
use Rattle.i7_kinds.specs.WrittenAbout.{IsRoomOf}
use Rattle.i7_kinds.specs.declared.entries.Entry.{Entry}
use Rattle.i7_kinds.specs.declared.ways.Exit.{Exit}
use Rattle.i7_kinds.specs.declared.ways.Lead.{Lead}
use Rattle.i7_kinds.specs.declared.ways.Target.{Target}
use Rattle.i7_kinds.proofs.ExitsShown.{agree, way_out}
use Rattle.i7_kinds.proofs.FirstShown.{two_places}
use Rattle.i7_kinds.proofs.Judged.{judged}
use Rattle.i7_kinds.proofs.WrittenAbout.{kind_made, tale_is, untold}

-- ---- the first that implies an exit

one_implied : (said : Numbered) (a b : Lead) → Implies a said → Implies b said → a ≡ b
one_implied (numbered.Way way) a b p q = p ∙ sym q
one_implied numbered.Aside a b p q = absurd p
one_implied (numbered.Description text) a b p q = absurd p
one_implied (numbered.Describes o text) a b p q = absurd p
one_implied (numbered.Being o) a b p q = absurd p
one_implied (numbered.Door d) a b p q = absurd p

one_first : (statements : List NumberedSentence) (exit : Exit) (a b : Target) → IsLedFirst Implies statements exit a → IsLedFirst Implies statements exit b → a ≡ b
one_first statements exit a b p q =
    let x = p.first in
    let y = q.first in
    let one : x.item ≡ y.item → a ≡ b = λ same.
    ap target_led (one_implied y.item.said (record { exit = exit; target = a }) (record { exit = exit; target = b })
    (subst (λ (s : NumberedSentence). Implies (record { exit = exit; target = a }) s.said) same x.here) y.here) in
    ⊎_elim
    (λ t. absurd (p.none_before b (record { before = y.before; item = y.item; after = t.0; split = t.1; here = y.here })))
    (λ u. ⊎_elim one (λ t. absurd (q.none_before a (record { before = x.before; item = x.item; after = t.0; split = t.2; here = x.here }))) u)
    (two_places x.before x.item x.after y.before y.item y.after (sym x.split ∙ y.split))

-- ---- the ways out of an object

room_ways : (statements : List NumberedSentence) (o : ℕ) (d : Direction)
    → slice_get (exits_of statements o).ways (direction_number d - 1) ≡ Some (way_to (target_of statements o (direction_number d)))
unfolding exits_of
room_ways statements o direction.North = refl
room_ways statements o direction.Northeast = refl
room_ways statements o direction.Northwest = refl
room_ways statements o direction.South = refl
room_ways statements o direction.Southeast = refl
room_ways statements o direction.Southwest = refl
room_ways statements o direction.East = refl
room_ways statements o direction.West = refl
room_ways statements o direction.Up = refl
room_ways statements o direction.Down = refl
room_ways statements o direction.Inside = refl
room_ways statements o direction.Outside = refl

no_ways : (d : Direction) → slice_get no_exits.ways (direction_number d - 1) ≡ Some (way_to None)
no_ways direction.North = refl
no_ways direction.Northeast = refl
no_ways direction.Northwest = refl
no_ways direction.South = refl
no_ways direction.Southeast = refl
no_ways direction.Southwest = refl
no_ways direction.East = refl
no_ways direction.West = refl
no_ways direction.Up = refl
no_ways direction.Down = refl
no_ways direction.Inside = refl
no_ways direction.Outside = refl

led_as_said : (statements : List NumberedSentence) → (IsShown IsLedElsewhere statements → ⊥) → (exit : Exit) (found : Option Target) → IsWayOut statements exit found
    → LeadsAsSaid statements exit (Some (way_to found))
led_as_said statements none exit None h = record {
  stated = λ target led. absurd (h.0 target led);
  implied = λ unled target led. absurd (h.1 target led.first);
  nowhere = λ unstated unimplied. refl;
}
led_as_said statements none exit (Some t) (inl first) = record {
  stated = λ target led. ap (λ (x : Target). Some (way_to (Some x))) (agree statements none exit t target first.first led);
  implied = λ unled target led. absurd (unled t first.first);
  nowhere = λ unstated unimplied. absurd (unstated t first.first);
}
led_as_said statements none exit (Some t) (inr h) = record {
  stated = λ target led. absurd (h.0 target led);
  implied = λ unled target led. ap (λ (x : Target). Some (way_to (Some x))) (one_first statements exit t target h.1 led);
  nowhere = λ unstated unimplied. absurd (unimplied t h.1.first);
}

pub object_made : (m : Made) (entries : List Entry) (from o at : ℕ) (object : Object) → at ≡ from + o → slice_get (objects_of m from entries) o ≡ Some object
    → (entry : Entry) × (object_of m at entry ≡ object)
object_made m [] from o at object same e = absurd cc
object_made m (entry ∷ entries) from zero at object same e =
    let here : at ≡ from = omega (arith, same) in
    let is : object_of m from entry ≡ object = cc in
    (entry, ap (λ (n : ℕ). object_of m n entry) here ∙ is)
object_made m (entry ∷ entries) from (suc o) at object same e = object_made m entries (from + 1) o at object (omega (arith, same)) e

exits_made : (m : Made) (o : ℕ) (entry : Entry) → (object_of m o entry).exits ≡ exits_by m.parents m.statements (kind_at m.kinds o) o
unfolding object_as
exits_made m o entry = refl

pub same_object : (found : Option Object) (a b : Object) → found ≡ Some a → found ≡ Some b → a ≡ b
same_object found a b h k = cc

module _ (parents : List (Option ℕ)) (sentences : List Sentence) (none : IsShown IsLedElsewhere (stated_by sentences) → ⊥) (tale : Tale)
    (kinds_are : tale.declared.kinds ≡ parents) (o : ℕ) (object : Object) (at : object_at tale o ≡ Some object) (exits_are : object.exits ≡ exits_by parents (stated_by sentences) object.kind o) where
  ways_are : (exits : Exits) → object.exits ≡ exits → (d : Direction) → way_out_of object d ≡ slice_get exits.ways (direction_number d - 1)
  ways_are exits e d = ap (λ (x : Exits). slice_get x.ways (direction_number d - 1)) e

  under_room : IsRoomOf tale o → Under parents object.kind room_kind
  under_room r =
      let same : r.0 ≡ object = same_object (object_at tale o) r.0 object r.1 at in
      subst (λ (ps : List (Option ℕ)). Under ps object.kind room_kind) kinds_are (subst (λ (x : Object). Under tale.declared.kinds x.kind room_kind) same r.2)

  has_exits : HasExits sentences tale o object
  has_exits =
      elim (cases_Bool (is_under parents object.kind room_kind)) [
        | inl is ↦
            let ways : object.exits ≡ exits_of (stated_by sentences) o = exits_are ∙ (rw is refl) in
            record {
              room = λ r d. subst (λ (w : Option Way). LeadsAsSaid (stated_by sentences) (record { room = o; direction = direction_number d }) w)
                  (sym (ways_are (exits_of (stated_by sentences) o) ways d ∙ room_ways (stated_by sentences) o d))
                  (led_as_said (stated_by sentences) none (record { room = o; direction = direction_number d }) (target_of (stated_by sentences) o (direction_number d))
                  (way_out (stated_by sentences) o (direction_number d)));
              other = λ isnt. absurd (isnt (object, at, subst (λ (ps : List (Option ℕ)). Under ps object.kind room_kind) (sym kinds_are) ((climbs_decide parents object.kind room_kind).0 is)));
            }
        | inr isnt ↦
            let ways : object.exits ≡ no_exits = exits_are ∙ (rw isnt refl) in
            record {
              room = λ r. absurd (true≢false (sym ((climbs_decide parents object.kind room_kind).1 (under_room r)) ∙ isnt));
              other = λ no_room d. ways_are no_exits ways d ∙ no_ways d;
            }
      ]

pub exits_as_said : ExitsAreAsSaid
exits_as_said sentences tale o object means at =
    let s = scope_said sentences in
    let knowns = knowns_said sentences in
    let named = named_by sentences in
    let m : Made = made_of s knowns (claims_of sentences) (stated_by sentences) in
    let t = tale_is (refusal_of s knowns (claims_of sentences) (stated_by sentences) named.mentions) (actions_said sentences)
    (untold (claims_of sentences) m (entries_of named.mentions)) tale means in
    let none : (r : Refusal) (line : ℕ) → Shows sentences r line → ⊥ = subst (λ (said : Result Tale Fault). AreJudged sentences said) means (judged sentences) in
    let made = object_made m (entries_of named.mentions) 0 o o object (omega arith) (ap (λ (x : Tale). object_at x o) t.0 ∙ at) in
    let kind : object.kind ≡ kind_at m.kinds o = ap (λ (x : Object). x.kind) (sym made.1) ∙ kind_made m o made.0 in
    let exits : object.exits ≡ exits_by s.parents (stated_by sentences) object.kind o =
    ap (λ (x : Object). x.exits) (sym made.1) ∙ exits_made m o made.0 ∙ ap (λ (k : ℕ). exits_by s.parents (stated_by sentences) k o) (sym kind) in
    has_exits s.parents sentences (λ shown. none stands_twice (line_of_statement shown.item) (inl (shown, refl))) tale (ap (λ (x : Tale). x.declared.kinds) (sym t.0)) o object at exits
