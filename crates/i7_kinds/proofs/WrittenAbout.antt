-- The sentence in which a description stands is about the object that has it.
use Rattle.std.proofs.Common.{◌≡◌, ℕ, ◌+◌, zero, suc, Bool, true, List, [], ◌∷◌, ◌++◌, refl, sym, ap, ◌∙◌, subst, arith, Ok, inl, inr}
use Rattle.std.specs.Prelude.{◌==◌, Option, None, Some, find, map, option_map, slice_get}
use Rattle.std.proofs.lemmas.Bool.{eqb-true, cases_Bool}
use Rattle.world_meaning.specs.Kinds.{Under, room_kind}
use Rattle.world_meaning.specs.Tale.{description_in, description_of as told_description}
use Rattle.world_meaning.specs.declared.fault.Fault.{Fault}
use Rattle.world_meaning.specs.declared.needs.Needs.{Needs}
use Rattle.world_meaning.specs.declared.place.Rel.{Rel}
use Rattle.world_meaning.specs.declared.place.Rel.TheVariants.{In, On, Carried, Worn, Part}
use Rattle.world_meaning.specs.declared.tale.Tale.{Tale}
use Rattle.i7_sentences.specs.declared.name.Name.{Name}
use Rattle.i7_sentences.specs.declared.sentence.Assertion.{Assertion}
use Rattle.i7_sentences.specs.declared.sentence.Assertion.TheVariants as asserts
use Rattle.i7_sentences.specs.declared.sentence.Sentence.{Sentence}
use Rattle.i7_claims.specs.Claims.{claims_of}
use Rattle.i7_claims.specs.Statements.{Named, named_by, numbered_holding, numbered_in, numbered_subject, statement_in, stated_by}
use Rattle.i7_claims.specs.declared.claim.Claim.{Claim}
use Rattle.i7_claims.specs.declared.statements.NumberedSentence.{NumberedSentence}
use Rattle.i7_kinds.specs.Actions.{actions_said, told_with, with_actions}
use Rattle.i7_kinds.specs.Demands.{description_of, descriptions_of, subject_of}
use Rattle.i7_kinds.specs.FirstShown.{IsShown}
use Rattle.i7_kinds.specs.KindClaims.{declared_by}
use Rattle.i7_kinds.specs.Knowns.{Scope, kind_of, kinds_of, knowns_of}
use Rattle.i7_kinds.specs.RefusalsShown.{Describes, EndsAbout, IsRoom}
use Rattle.i7_kinds.specs.Tales.{Made, entries_of, kind_at, made_of, object_as, object_of, objects_of, or_refused, refusal_of, scope_of}
use Rattle.i7_kinds.specs.WrittenAbout.{DescribesObject, DescriptionsAreAbout, IsAbout, IsHoldingAbout, IsOneName, IsRoomOf, LastIsAbout}
use Rattle.i7_kinds.specs.declared.descriptions.Description.{Description}
use Rattle.i7_kinds.specs.declared.entries.Entry.{Entry}
use Rattle.i7_kinds.specs.declared.knowns.Known.{Known}
use Rattle.i7_kinds.proofs.Contrary.{IsAmong, told_before}
use Rattle.i7_kinds.proofs.DescribedAgain.{describes_to, tells, told_all}
use Rattle.i7_kinds.proofs.FirstShown.{shown_as}
use Rattle.i7_kinds.proofs.KindsDecided.{then_about}

-- ---- what sentences state

-- a part of a mapped list is mapped from a part
map_split : {A B : Type 0} (f : A → B) (xs : List A) (before : List B) (y : B) (after : List B) → map f xs ≡ before ++ y ∷ after
    → (b : List A) × (x : A) × (a : List A) × (xs ≡ b ++ x ∷ a) × (map f b ≡ before) × (f x ≡ y) × (map f a ≡ after)
map_split f [] [] y after e = absurd cc
map_split f [] (z ∷ zs) y after e = absurd cc
map_split f (x ∷ xs) [] y after e = ([], x, xs, refl, refl, cc, cc)
map_split {A = A} f (x ∷ xs) (z ∷ zs) y after e =
    let first : f x ≡ z = cc in
    let rest : map f xs ≡ zs ++ y ∷ after = cc in
    let t = map_split f xs zs y after rest in
    (x ∷ t.0, t.1, t.2, ap (λ (ys : List A). x ∷ ys) t.3, λ i. first i ∷ t.4 i, t.5, t.6)

nothing_mapped : {A B : Type 0} (f : A → B) (xs : List A) → map f xs ≡ [] → xs ≡ []
nothing_mapped f [] e = refl
nothing_mapped f (x ∷ xs) e = absurd cc

one_name : (named : Named) (o : ℕ) (names : List Name) → subject_of (numbered_subject named names) ≡ Some o → IsOneName named o names
one_name named o [] e = absurd cc
one_name named o (name ∷ []) e = (name, refl, cc)
one_name named o (name ∷ other ∷ names) e = absurd cc

holding_about : (named : Named) (o : ℕ) (relation : Rel) (holder : Name) (things : List Name) → subject_of (numbered_holding named relation holder things) ≡ Some o
    → IsHoldingAbout named o relation holder things
holding_about named o In holder things e = one_name named o things e
holding_about named o On holder things e = one_name named o things e
holding_about named o Carried holder things e = cc
holding_about named o Worn holder things e = cc
holding_about named o Part holder things e = one_name named o things e

is_about : (named : Named) (o : ℕ) (said : Assertion) → subject_of (numbered_in named said) ≡ Some o → IsAbout named o said
is_about named o (asserts.Are being) e = one_name named o being.subjects e
is_about named o (asserts.Way way) e = cc
is_about named o (asserts.Door door first second) e = cc
is_about named o (asserts.Holds holder relation things) e = holding_about named o relation holder things e
is_about named o _ e = absurd cc

last_about : (named : Named) (o : ℕ) (sentences : List Sentence) (statements : List NumberedSentence) → map (statement_in named) sentences ≡ statements → EndsAbout statements o
    → LastIsAbout named o sentences
last_about named o sentences statements e ends =
    let t = map_split (statement_in named) sentences ends.earlier ends.last [] (e ∙ ends.parts) in
    record {
      earlier = t.0;
      last = t.1;
      parts = t.3 ∙ ap (λ (a : List Sentence). t.0 ++ t.1 ∷ a) (nothing_mapped (statement_in named) t.2 t.6);
      about = is_about named o t.1.said (ap (λ (s : NumberedSentence). subject_of s.said) t.5 ∙ ends.about);
    }

module _ (parents : List (Option ℕ)) (knowns : List Known) (named : Named) (tale : Tale) (o : ℕ) (text : List ℕ) (room : IsRoom parents knowns o → IsRoomOf tale o) where
  none_of_subject : {X : Type 0} (before : List NumberedSentence) (names : List Name) → Describes parents knowns o text before (numbered_subject named names) → X
  none_of_subject before [] h = absurd h
  none_of_subject before (name ∷ []) h = absurd h
  none_of_subject before (name ∷ other ∷ names) h = absurd h

  none_of_holding : {X : Type 0} (before : List NumberedSentence) (relation : Rel) (holder : Name) (names : List Name)
      → Describes parents knowns o text before (numbered_holding named relation holder names) → X
  none_of_holding before In holder names h = none_of_subject before names h
  none_of_holding before On holder names h = none_of_subject before names h
  none_of_holding before Carried holder names h = absurd h
  none_of_holding before Worn holder names h = absurd h
  none_of_holding before Part holder names h = none_of_subject before names h

  describes_object : (sentences : List Sentence) (before : List NumberedSentence) → map (statement_in named) sentences ≡ before → (said : Assertion)
      → Describes parents knowns o text before (numbered_in named said) → DescribesObject named tale o text sentences said
  describes_object sentences before e (asserts.Description other) h = (last_about named o sentences before e h.0, room h.1, h.2)
  describes_object sentences before e (asserts.DescriptionOf object other) h = h
  describes_object sentences before e (asserts.Are being) h = none_of_subject before being.subjects h
  describes_object sentences before e (asserts.Holds holder relation things) h = none_of_holding before relation holder things h
  describes_object sentences before e _ h = absurd h

  described_in : (sentences : List Sentence) → IsShown (λ before s. Describes parents knowns o text before s.said) (map (statement_in named) sentences)
      → IsShown (λ before s. DescribesObject named tale o text before s.said) sentences
  described_in sentences shown =
      let t = map_split (statement_in named) sentences shown.before shown.item shown.after shown.split in
      record {
        before = t.0;
        item = t.1;
        after = t.2;
        split = t.3;
        here = describes_object t.0 shown.before t.4 t.1.said (subst (λ (s : NumberedSentence). Describes parents knowns o text shown.before s.said) (sym t.5) shown.here);
      }

-- ---- what describes an object

found_is : {X : Type 0} (test : X → Bool) (xs : List X) (x : X) → find test xs ≡ Some x → IsAmong x xs × (test x ≡ true)
found_is test [] x e = absurd cc
found_is test (y ∷ ys) x e =
    elim (cases_Bool (test y)) [
      | inl is ↦ let here : Some y ≡ Some x = rw is at e in let same : y ≡ x = cc in (inl (sym same), ap test (sym same) ∙ is)
      | inr isnt ↦ let later : find test ys ≡ Some x = rw isnt at e in let t = found_is test ys x later in (inr t.0, t.1)
    ]

text_found : (found : Option Description) (text : List ℕ) → option_map (λ d. d.text) found ≡ Some text → (d : Description) × (found ≡ Some d) × (d.text ≡ text)
text_found None text e = absurd cc
text_found (Some d) text e = (d, refl, cc)

pub described_shown : (parents : List (Option ℕ)) (knowns : List Known) (statements : List NumberedSentence) (o : ℕ) (text : List ℕ)
    → description_of (descriptions_of parents knowns statements) o ≡ Some text
    → IsShown (λ before s. Describes parents knowns o text before s.said) statements
described_shown parents knowns statements o text e =
    let t = text_found (find (λ d. d.object == o) (descriptions_of parents knowns statements)) text e in
    let u = found_is (λ (d : Description). d.object == o) (descriptions_of parents knowns statements) t.0 t.1 in
    let object : t.0.object ≡ o = eqb-true t.0.object o u.1 in
    let among : IsAmong t.0 _ = subst (λ (ds : List Description). IsAmong t.0 ds) (sym (told_all parents knowns None statements)) u.0 in
    shown_as _ _ statements
    (λ before s m. subst (λ (n : ℕ). Describes parents knowns n text before s.said) object
    (subst (λ (x : List ℕ). Describes parents knowns t.0.object x before s.said) t.2 (describes_to parents knowns before t.0 s.said s.line m)))
    (told_before (tells parents knowns) then_about None statements t.0 among)

-- ---- the tale

abbrev pub untold : List Claim → Made → List Entry → Tale
untold claims m entries = record { declared = declared_by claims; objects = objects_of m 0 entries }

pub tale_is : (refusal : Option Fault) (actions : List Needs) (untold tale : Tale) → with_actions actions (or_refused refusal untold) ≡ Ok tale → (told_with actions untold ≡ tale) × (refusal ≡ None)
tale_is None actions untold tale e = (cc, refl)
tale_is (Some fault) actions untold tale e = absurd cc

-- the object of a number is made by it
made_at : (m : Made) (entries : List Entry) (from o at : ℕ) (text : List ℕ) → at ≡ from + o → description_in (slice_get (objects_of m from entries) o) ≡ Some text
    → (entry : Entry) × (slice_get (objects_of m from entries) o ≡ Some (object_of m at entry)) × (description_of m.descriptions at ≡ Some text)
unfolding object_as
made_at m [] from o at text same e = absurd cc
made_at m (entry ∷ entries) from zero at text same e =
    let here : at ≡ from = omega (arith, same) in
    (entry, ap (λ (n : ℕ). Some (object_of m n entry)) (sym here), ap (λ (n : ℕ). description_of m.descriptions n) here ∙ e)
made_at m (entry ∷ entries) from (suc o) at text same e = made_at m entries (from + 1) o at text (omega (arith, same)) e

pub kind_there : (knowns : List Known) (o : ℕ) (known : Known) → slice_get knowns o ≡ Some known → kind_at (kinds_of knowns) o ≡ kind_of known
kind_there [] o known e = absurd cc
kind_there (k ∷ knowns) zero known e = let same : k ≡ known = cc in ap kind_of same
kind_there (k ∷ knowns) (suc o) known e = kind_there knowns o known e

pub kind_made : (m : Made) (o : ℕ) (entry : Entry) → (object_of m o entry).kind ≡ kind_at m.kinds o
unfolding object_as
kind_made m o entry = refl

pub about : DescriptionsAreAbout
about sentences tale o text means described =
    let claims = claims_of sentences in
    let named = named_by sentences in
    let s : Scope = scope_of claims named.keys in
    let knowns = knowns_of s claims in
    let statements = stated_by sentences in
    let m : Made = made_of s knowns claims statements in
    let t = tale_is (refusal_of s knowns claims statements named.mentions) (actions_said sentences) (untold claims m (entries_of named.mentions)) tale means in
    let made = made_at m (entries_of named.mentions) 0 o o text (omega arith) (ap (λ (x : Tale). told_description x o) t.0 ∙ described) in
    let room : IsRoom s.parents knowns o → IsRoomOf tale o = λ r.
    subst (λ (x : Tale). IsRoomOf x o) t.0
    (object_of m o made.0, made.1, subst (λ (k : ℕ). Under s.parents k room_kind) (sym (kind_made m o made.0 ∙ kind_there knowns o r.known r.at)) r.under) in
    described_in s.parents knowns named tale o text room sentences (described_shown s.parents knowns statements o text made.2)
