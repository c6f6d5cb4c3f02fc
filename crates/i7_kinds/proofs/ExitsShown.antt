-- An exit leads where the first statement says, and where no exit is led to a second target all statements of one exit agree.
use Rattle.std.proofs.Common.{◌≡◌, ◌≢◌, ℕ, Bool, true, false, List, [], ◌∷◌, ◌++◌, Option, refl, sym, ap, ◌∙◌, subst, append_assoc, inl, inr, ⊎_elim, true≢false}
use Rattle.std.specs.Prelude.{◌==◌, Some, None, find, flat_map, option_map}
use Rattle.std.specs.List.{list_any}
use Rattle.std.proofs.lemmas.Bool.{eqb-true, eq-eqb, cases_Bool, and_from, and_parts}
use Rattle.i7_claims.specs.Firsts.{first_of}
use Rattle.i7_claims.specs.declared.statements.Numbered.{Numbered}
use Rattle.i7_claims.specs.declared.statements.Numbered.TheVariants as numbered
use Rattle.i7_claims.specs.declared.statements.NumberedSentence.{NumberedSentence}
use Rattle.i7_kinds.specs.Demands.{first_target, implied_by_one, implied_in, is_exit, is_same_door, is_target, line_of_statement, second_target, stated_by_one, stated_in, target_led, target_of}
use Rattle.i7_kinds.specs.ExitsShown.{Implies, IsLed, IsLedFirst, IsUnled, IsWayOut}
use Rattle.i7_kinds.specs.FirstShown.{IsFirst, IsShown}
use Rattle.i7_kinds.specs.RefusalsShown.{IsLedElsewhere, States}
use Rattle.i7_kinds.specs.declared.ways.Exit.{Exit}
use Rattle.i7_kinds.specs.declared.ways.Lead.{Lead}
use Rattle.i7_kinds.specs.declared.ways.Target.{Target}
use Rattle.i7_kinds.proofs.Contrary.{IsAmong, any_from, any_to, found_in}
use Rattle.i7_kinds.proofs.FirstShown.{shown_as, two_places}
use Rattle.i7_kinds.proofs.LedElsewhere.{elsewhere_first, exits_same, one_target, same_door_itself, same_targets, stated_from, stated_to}

-- ---- the first of what items tell

module _ {A T : Type 0} (told : A → List T) (test : T → Bool) where
  -- the item tells something that passes
  abbrev Passes : List A → A → Type 0
  Passes before a = (t : T) × IsAmong t (told a) × (test t ≡ true)

  record FirstTold (items : List A) (found : T) : Type 0 where
    before : List A
    item : A
    after : List A
    split : items ≡ before ++ item ∷ after
    tells : IsAmong found (told item)
    passes : test found ≡ true
    none_before : IsShown Passes before → ⊥

  ToldFirst : List A → Option T → Type 0
  ToldFirst items None = IsShown Passes items → ⊥
  ToldFirst items (Some found) = FirstTold items found

  nothing_told : IsShown Passes [] → ⊥
  nothing_told s = nothing s.before s.item s.after s.split
    where
      nothing : (before : List A) (item : A) (after : List A) → [] ≡ before ++ item ∷ after → ⊥
      nothing [] item after e = absurd cc
      nothing (x ∷ xs) item after e = absurd cc

  passes_later : (a : A) (items before : List A) (item : A) (after : List A) → list_any test (told a) ≡ false → a ∷ items ≡ before ++ item ∷ after → Passes before item → IsShown Passes items
  passes_later a items [] item after none split t =
      let same : a ≡ item = cc in
      absurd (true≢false (sym (any_from test (told item) t.0 t.1 t.2) ∙ ap (λ (x : A). list_any test (told x)) (sym same) ∙ none))
  passes_later a items (x ∷ xs) item after none split t = let rest : items ≡ xs ++ item ∷ after = cc in record { before = xs; item = item; after = after; split = rest; here = t }

  skipped : (front back : List T) → list_any test front ≡ false → find test (front ++ back) ≡ find test back
  skipped [] back none = refl
  skipped (t ∷ ts) back none =
      elim (cases_Bool (test t)) [
        | inl is ↦ let any : list_any test (t ∷ ts) ≡ true = rw is refl in absurd (true≢false (sym any ∙ none))
        | inr isnt ↦ let later : list_any test ts ≡ false = rw isnt at none in rw isnt (skipped ts back later)
      ]

  told_later : (a : A) (items : List A) (found : Option T) → list_any test (told a) ≡ false → ToldFirst items found → ToldFirst (a ∷ items) found
  unfolding ToldFirst
  told_later a items None none h = λ s. h (passes_later a items s.before s.item s.after none s.split s.here)
  told_later a items (Some t) none h = record {
    before = a ∷ h.before;
    item = h.item;
    after = h.after;
    split = ap (λ (xs : List A). a ∷ xs) h.split;
    tells = h.tells;
    passes = h.passes;
    none_before = λ s. h.none_before (passes_later a h.before s.before s.item s.after none s.split s.here);
  }

  told_first : (items : List A) → ToldFirst items (find test (flat_map told items))
  unfolding ToldFirst
  told_first [] = nothing_told
  told_first (a ∷ items) =
      elim (cases_Bool (list_any test (told a))) [
        | inl is ↦
            let t = any_to test (told a) is in
            let u = found_in test (told a) (flat_map told items) t.0 t.1 t.2 in
            rw u.1 (record { before = []; item = a; after = items; split = refl; tells = u.3; passes = u.2; none_before = nothing_told })
        | inr isnt ↦ rw (skipped (told a) (flat_map told items) isnt) (told_later a items (find test (flat_map told items)) isnt (told_first items))
      ]

-- ---- exits

is_exit_to : (room direction : ℕ) (lead : Lead) → is_exit room direction lead ≡ true → lead.exit ≡ record { room = room; direction = direction }
is_exit_to room direction lead h =
    let t = and_parts (lead.exit.room == room) (lead.exit.direction == direction) h in
    λ i. record { room = eqb-true lead.exit.room room t.0 i; direction = eqb-true lead.exit.direction direction t.1 i }

is_exit_from : (room direction : ℕ) (lead : Lead) → lead.exit ≡ record { room = room; direction = direction } → is_exit room direction lead ≡ true
is_exit_from room direction lead e =
    and_from (lead.exit.room == room) (lead.exit.direction == direction) (eq-eqb lead.exit.room room (ap (λ (x : Exit). x.room) e))
    (eq-eqb lead.exit.direction direction (ap (λ (x : Exit). x.direction) e))

module _ (Leads : Lead → Numbered → Type 0) (leads_in : Numbered → List Lead) (to : (lead : Lead) (said : Numbered) → IsAmong lead (leads_in said) → Leads lead said)
    (from : (lead : Lead) (said : Numbered) → Leads lead said → IsAmong lead (leads_in said)) (room direction : ℕ) where
  abbrev exit_here : Exit
  exit_here = record { room = room; direction = direction }

  abbrev leads_of : NumberedSentence → List Lead
  leads_of s = leads_in s.said

  abbrev PassesHere : List NumberedSentence → NumberedSentence → Type 0
  PassesHere before s = Passes leads_of (is_exit room direction) before s

  LedFirst : List NumberedSentence → Option Target → Type 0
  LedFirst statements None = IsUnled Leads statements exit_here
  LedFirst statements (Some target) = IsLedFirst Leads statements exit_here target

  passes_if : (before : List NumberedSentence) (s : NumberedSentence) (target : Target) → Leads (record { exit = exit_here; target = target }) s.said → PassesHere before s
  passes_if before s target leads = (
    record { exit = exit_here; target = target },
    from (record { exit = exit_here; target = target }) s.said leads,
    is_exit_from room direction (record { exit = exit_here; target = target }) refl,
  )

  unled_if : (statements : List NumberedSentence) → (IsShown PassesHere statements → ⊥) → IsUnled Leads statements exit_here
  unled_if statements none target led = none (shown_as _ PassesHere statements (λ before s leads. passes_if before s target leads) led)

  led_if : (statements : List NumberedSentence) (found : Option Lead) → ToldFirst leads_of (is_exit room direction) statements found → LedFirst statements (option_map target_led found)
  unfolding LedFirst ToldFirst
  led_if statements None none = unled_if statements none
  led_if statements (Some lead) h =
      let exit : lead.exit ≡ exit_here = is_exit_to room direction lead h.passes in
      let same : lead ≡ record { exit = exit_here; target = lead.target } = λ i. record { exit = exit i; target = lead.target } in
      record {
        first = record { before = h.before; item = h.item; after = h.after; split = h.split; here = subst (λ (x : Lead). Leads x h.item.said) same (to lead h.item.said h.tells) };
        none_before = unled_if h.before h.none_before;
      }

  led_first : (statements : List NumberedSentence) → LedFirst statements (first_target (flat_map leads_of statements) room direction)
  unfolding LedFirst
  led_first statements = led_if statements (find (is_exit room direction) (flat_map leads_of statements)) (told_first leads_of (is_exit room direction) statements)

implied_to : (lead : Lead) (said : Numbered) → IsAmong lead (implied_in said) → Implies lead said
implied_to lead numbered.Aside m = m
implied_to lead (numbered.Description text) m = m
implied_to lead (numbered.Describes o text) m = m
implied_to lead (numbered.Being o) m = m
implied_to lead (numbered.Way way) m = ⊎_elim (λ here. here) (λ none. absurd none) m
implied_to lead (numbered.Door d) m = m

implied_from : (lead : Lead) (said : Numbered) → Implies lead said → IsAmong lead (implied_in said)
implied_from lead numbered.Aside m = m
implied_from lead (numbered.Description text) m = m
implied_from lead (numbered.Describes o text) m = m
implied_from lead (numbered.Being o) m = m
implied_from lead (numbered.Way way) m = inl m
implied_from lead (numbered.Door d) m = m

joined : (room direction : ℕ) (statements : List NumberedSentence) (stated implied : Option Target) → LedFirst States stated_in stated_to stated_from room direction statements stated
    → LedFirst Implies implied_in implied_to implied_from room direction statements implied → IsWayOut statements (record { room = room; direction = direction }) (first_of stated implied)
unfolding LedFirst
joined room direction statements (Some target) implied h k = inl h
joined room direction statements None (Some target) h k = inr (h, k)
joined room direction statements None None h k = (h, k)

pub way_out : (statements : List NumberedSentence) (room direction : ℕ) → IsWayOut statements (record { room = room; direction = direction }) (target_of statements room direction)
way_out statements room direction =
    joined room direction statements (first_target (flat_map stated_by_one statements) room direction) (first_target (flat_map implied_by_one statements) room direction)
    (led_first States stated_in stated_to stated_from room direction statements)
    (led_first Implies implied_in implied_to implied_from room direction statements)

-- ---- all statements of one exit agree

target_itself : (t : Target) → is_target t t ≡ true
target_itself t = and_from (t.room == t.room) (is_same_door t.door t.door) (eq-eqb t.room t.room refl) (same_door_itself t.door)

led_again : (before : List NumberedSentence) (s other : NumberedSentence) (earlier between : List NumberedSentence) (exit : Exit) (a b : Target) → before ≡ earlier ++ other ∷ between
    → States (record { exit = exit; target = a }) s.said → States (record { exit = exit; target = b }) other.said → a ≢ b → IsLedElsewhere before s
led_again before s other earlier between exit a b split states stated differ = record {
  lead = record { exit = exit; target = a };
  other = record { exit = exit; target = b };
  states = states;
  stated = record { before = earlier; item = other; after = between; split = split; here = stated };
  exit = refl;
  differ = differ;
}

-- unless one of them is refused
agree_or_again : (statements : List NumberedSentence) → (IsShown IsLedElsewhere statements → ⊥) → (exit : Exit) (a b : Target) → a ≢ b → IsLed States statements exit a
    → IsLed States statements exit b → ⊥
agree_or_again statements none exit a b differ x y =
    ⊎_elim
    (λ t. none (record { before = x.before; item = x.item; after = x.after; split = x.split; here = led_again x.before x.item y.item y.before t.0 exit a b t.1 x.here y.here differ }))
    (λ u. ⊎_elim
    (λ same. differ (sym (one_target y.item.said (record { exit = exit; target = a }) (record { exit = exit; target = b })
    (subst (λ (s : NumberedSentence). States (record { exit = exit; target = a }) s.said) same x.here) y.here
    (exits_same (record { exit = exit; target = a }) (record { exit = exit; target = b }) refl))))
    (λ t.
    let split : statements ≡ (x.before ++ x.item ∷ t.0) ++ y.item ∷ y.after =
    x.split ∙ ap (λ (ss : List NumberedSentence). x.before ++ x.item ∷ ss) t.1 ∙ sym (append_assoc x.before (x.item ∷ t.0) (y.item ∷ y.after)) in
    none (record {
      before = x.before ++ x.item ∷ t.0;
      item = y.item;
      after = y.after;
      split = split;
      here = led_again (x.before ++ x.item ∷ t.0) y.item x.item x.before t.0 exit b a refl y.here x.here (λ e. differ (sym e));
    }))
    u)
    (two_places x.before x.item x.after y.before y.item y.after (sym x.split ∙ y.split))

-- where none is refused they agree
pub agree : (statements : List NumberedSentence) → (IsShown IsLedElsewhere statements → ⊥) → (exit : Exit) (a b : Target) → IsLed States statements exit a → IsLed States statements exit b → a ≡ b
agree statements none exit a b x y =
    elim (cases_Bool (is_target a b)) [
      | inl is ↦ same_targets a b is
      | inr isnt ↦ absurd (agree_or_again statements none exit a b (λ e. true≢false (sym (target_itself a) ∙ ap (is_target a) e ∙ isnt)) x y)
    ]

none_elsewhere : (statements : List NumberedSentence) (found : Option ℕ) → found ≡ None → IsFirst line_of_statement IsLedElsewhere statements found → IsShown IsLedElsewhere statements → ⊥
none_elsewhere statements None e h = h
none_elsewhere statements (Some line) e h = absurd cc

pub stated_agree : (statements : List NumberedSentence) → second_target statements ≡ None → (exit : Exit) (a b : Target) → IsLed States statements exit a → IsLed States statements exit b → a ≡ b
stated_agree statements accepted = agree statements (none_elsewhere statements (second_target statements) accepted (elsewhere_first statements))
