-- An object of a tale has the description with which any sentence describes it.
use Rattle.std.proofs.Common.{◌≡◌, ◌≢◌, ℕ, ◌+◌, ◌<◌, zero, suc, Bool, true, List, [], ◌∷◌, ◌++◌, length, Option, refl, sym, ap, ◌∙◌, subst, append-nil, arith, inl, inr, ⊎_elim, true≢false}
use Rattle.std.specs.Prelude.{◌==◌, Some, None, Result, bytes_eq, find, map, option_map, slice_get}
use Rattle.std.proofs.lemmas.Bool.{eq-eqb, cases_Bool}
use Rattle.std.proofs.lemmas.Slice.Eq.{bytes_eq-Decides}
use Rattle.std.proofs.lemmas.List.{map-append}
use Rattle.world_meaning.specs.Kinds.{Under, room_kind}
use Rattle.world_meaning.specs.Tale.{object_at}
use Rattle.world_meaning.specs.declared.fault.Fault.{Fault}
use Rattle.world_meaning.specs.declared.place.Rel.{Rel}
use Rattle.world_meaning.specs.declared.place.Rel.TheVariants.{In, On, Carried, Worn, Part}
use Rattle.world_meaning.specs.declared.tale.Object.{Object}
use Rattle.world_meaning.specs.declared.tale.Tale.{Tale}
use Rattle.i7_sentences.specs.declared.name.Name.{Name}
use Rattle.i7_sentences.specs.declared.sentence.Assertion.{Assertion}
use Rattle.i7_sentences.specs.declared.sentence.Assertion.TheVariants as asserts
use Rattle.i7_sentences.specs.declared.sentence.Sentence.{Sentence}
use Rattle.i7_claims.specs.Claims.{claims_of}
use Rattle.i7_claims.specs.Statements.{NameAt, Named, named_by, numbered_holding, numbered_in, numbered_subject, stated_by, statement_in}
use Rattle.i7_claims.specs.declared.statements.Numbered.{Numbered}
use Rattle.i7_claims.specs.declared.statements.Numbered.TheVariants as numbered
use Rattle.i7_claims.specs.declared.statements.NumberedSentence.{NumberedSentence}
use Rattle.i7_kinds.specs.Actions.{actions_said}
use Rattle.i7_kinds.specs.Demands.{description_of, descriptions_of, line_of_statement, subject_of}
use Rattle.i7_kinds.specs.FirstShown.{IsShown}
use Rattle.i7_kinds.specs.Judged.{AreJudged, Refusal, said_twice, Shows, knowns_said, scope_said}
use Rattle.i7_kinds.specs.Knowns.{first_knowns, kind_of}
use Rattle.i7_kinds.specs.RefusalsShown.{Describes, EndsAbout, IsDescribedAgain, IsRoom}
use Rattle.i7_kinds.specs.Tales.{Made, author_entry, entries_of, made_of, object_as, object_of, objects_of, refusal_of}
use Rattle.i7_kinds.specs.WrittenAbout.{DescribesObject, DescriptionsAreThoseSaid, IsAbout, IsHoldingAbout, IsOneName, IsRoomOf, LastIsAbout}
use Rattle.i7_kinds.specs.declared.descriptions.Description.{Description}
use Rattle.i7_kinds.specs.declared.entries.Entry.{Entry}
use Rattle.i7_kinds.specs.declared.knowns.Known.{Known}
use Rattle.i7_kinds.proofs.Bounds.{counted-source}
use Rattle.i7_kinds.proofs.Contrary.{IsAmong, all_told, all_told_append, found_in}
use Rattle.i7_kinds.proofs.DescribedAgain.{describes_from, tells, told_all}
use Rattle.i7_kinds.proofs.FirstShown.{two_places}
use Rattle.i7_kinds.proofs.Judged.{judged}
use Rattle.i7_kinds.proofs.KindsDecided.{about_last, then_about}
use Rattle.i7_kinds.proofs.OffPath.{first_length, length_from}
use Rattle.i7_kinds.proofs.TaleExits.{object_made, same_object}
use Rattle.i7_kinds.proofs.WrittenAbout.{described_shown, kind_made, kind_there, tale_is, untold}
use Rattle.object_words.proofs.StringLemmas.{length_mapped}

-- ---- statements that describe one object agree

one_text : (parents : List (Option ℕ)) (knowns : List Known) (o : ℕ) (a b : List ℕ) (before behind : List NumberedSentence) (said : Numbered) → Describes parents knowns o a before said
    → Describes parents knowns o b behind said → a ≡ b
one_text parents knowns o a b before behind (numbered.Describes object text) p q = sym p.1 ∙ q.1
one_text parents knowns o a b before behind (numbered.Description text) p q = sym p.2 ∙ q.2
one_text parents knowns o a b before behind numbered.Aside p q = absurd p
one_text parents knowns o a b before behind (numbered.Being object) p q = absurd p
one_text parents knowns o a b before behind (numbered.Way way) p q = absurd p
one_text parents knowns o a b before behind (numbered.Door d) p q = absurd p

module _ (parents : List (Option ℕ)) (knowns : List Known) (o : ℕ) where
  abbrev IsDescribed : List NumberedSentence → List ℕ → Type 0
  IsDescribed statements text = IsShown (λ before s. Describes parents knowns o text before s.said) statements

  told_again : (a b : List ℕ) (before earlier between : List NumberedSentence) (s other : NumberedSentence) → before ≡ earlier ++ other ∷ between
      → Describes parents knowns o a before s.said → Describes parents knowns o b earlier other.said → a ≢ b → IsDescribedAgain parents knowns before s
  told_again a b before earlier between s other split p q differ = record {
    object = o;
    text = a;
    other = b;
    describes = p;
    described = record { before = earlier; item = other; after = between; split = split; here = q };
    differ = differ;
  }

  texts_agree : (statements : List NumberedSentence) → (IsShown (IsDescribedAgain parents knowns) statements → ⊥) → (a b : List ℕ) → a ≢ b → IsDescribed statements a → IsDescribed statements b → ⊥
  texts_agree statements none a b differ x y =
      ⊎_elim
      (λ t. none (record { before = x.before; item = x.item; after = x.after; split = x.split; here = told_again a b x.before y.before t.0 x.item y.item t.1 x.here y.here differ }))
      (λ u. ⊎_elim
      (λ same. differ (one_text parents knowns o a b x.before y.before y.item.said (subst (λ (s : NumberedSentence). Describes parents knowns o a x.before s.said) same x.here) y.here))
      (λ t. none (record {
        before = y.before;
        item = y.item;
        after = y.after;
        split = y.split;
        here = told_again b a y.before x.before t.0 y.item x.item t.2 y.here x.here (λ e. differ (sym e));
      }))
      u)
      (two_places x.before x.item x.after y.before y.item y.after (sym x.split ∙ y.split))

-- ---- the description of an object that a statement describes

same_text : (a b : List ℕ) → (a ≢ b → ⊥) → a ≡ b
same_text a b h =
    elim (cases_Bool (bytes_eq a b)) [
      | inl is ↦ (bytes_eq-Decides a b).0 is
      | inr isnt ↦ absurd (h (λ e. true≢false (sym ((bytes_eq-Decides a b).1 e) ∙ isnt)))
    ]

among_on : {T : Type 0} (x : T) (xs ys : List T) → IsAmong x xs → IsAmong x (xs ++ ys)
among_on x [] ys m = elim m [ ]
among_on x (z ∷ zs) ys (inl same) = inl same
among_on x (z ∷ zs) ys (inr later) = inr (among_on x zs ys later)

among_behind : {T : Type 0} (x : T) (xs ys : List T) → IsAmong x ys → IsAmong x (xs ++ ys)
among_behind x [] ys m = m
among_behind x (z ∷ zs) ys m = inr (among_behind x zs ys m)

found_one : {T : Type 0} (test : T → Bool) (xs : List T) (x : T) → IsAmong x xs → test x ≡ true → (y : T) × (find test xs ≡ Some y)
found_one test xs x m is = let t = found_in test xs [] x m is in (t.0, ap (find test) (sym (append-nil xs)) ∙ t.1)

module _ (parents : List (Option ℕ)) (knowns : List Known) (o : ℕ) where
  abbrev told_of : Option ℕ → NumberedSentence → List Description
  told_of before s = tells parents knowns before s

  -- what a statement tells is among all descriptions
  told_among : (statements : List NumberedSentence) (text : List ℕ) → IsDescribed parents knowns o statements text
      → (d : Description) × IsAmong d (descriptions_of parents knowns statements) × ((d.object == o) ≡ true)
  told_among statements text shown =
      let d : Description = record { object = o; text = text; line = shown.item.line } in
      let here : IsAmong d (told_of (about_last shown.before) shown.item) = describes_from parents knowns shown.before o text shown.item.said shown.item.line shown.here in
      let rest = told_of (about_last shown.before) shown.item ++ all_told told_of then_about (subject_of shown.item.said) shown.after in
      let parts : all_told told_of then_about None statements ≡ all_told told_of then_about None shown.before ++ rest =
      ap (all_told told_of then_about None) shown.split ∙ all_told_append told_of then_about None shown.before (shown.item ∷ shown.after) in (
        d,
        subst (λ (ds : List Description). IsAmong d ds) (sym parts ∙ told_all parents knowns None statements)
            (among_behind d (all_told told_of then_about None shown.before) rest (among_on d _ _ here)),
        eq-eqb o o refl,
      )

  described_so : (statements : List NumberedSentence) → (IsShown (IsDescribedAgain parents knowns) statements → ⊥) → (text : List ℕ) → IsDescribed parents knowns o statements text
      → description_of (descriptions_of parents knowns statements) o ≡ Some text
  described_so statements none text shown =
      let t = told_among statements text shown in
      let u = found_one (λ (d : Description). d.object == o) (descriptions_of parents knowns statements) t.0 t.1 t.2 in
      let is : description_of (descriptions_of parents knowns statements) o ≡ Some u.0.text = ap (λ (found : Option Description). option_map (λ (d : Description). d.text) found) u.1 in
      let other = described_shown parents knowns statements o u.0.text is in
      is ∙ ap (λ (x : List ℕ). Some x) (same_text u.0.text text (λ differ. texts_agree parents knowns o statements none u.0.text text differ other shown))

-- ---- what sentences state

one_subject : (named : Named) (o : ℕ) (names : List Name) → IsOneName named o names → subject_of (numbered_subject named names) ≡ Some o
one_subject named o names t = ap (λ (ns : List Name). subject_of (numbered_subject named ns)) t.1 ∙ ap (λ (n : ℕ). Some n) t.2

holding_subject : (named : Named) (o : ℕ) (relation : Rel) (holder : Name) (things : List Name) → IsHoldingAbout named o relation holder things
    → subject_of (numbered_holding named relation holder things) ≡ Some o
holding_subject named o In holder things h = one_subject named o things h
holding_subject named o On holder things h = one_subject named o things h
holding_subject named o Carried holder things h = ap (λ (n : ℕ). Some n) h
holding_subject named o Worn holder things h = ap (λ (n : ℕ). Some n) h
holding_subject named o Part holder things h = one_subject named o things h

subject_said : (named : Named) (o : ℕ) (said : Assertion) → IsAbout named o said → subject_of (numbered_in named said) ≡ Some o
subject_said named o (asserts.Are being) h = one_subject named o being.subjects h
subject_said named o (asserts.Way way) h = ap (λ (n : ℕ). Some n) h
subject_said named o (asserts.Door door first second) h = ap (λ (n : ℕ). Some n) h
subject_said named o (asserts.Holds holder relation things) h = holding_subject named o relation holder things h
subject_said named o _ h = absurd h

ends_said : (named : Named) (o : ℕ) (sentences : List Sentence) → LastIsAbout named o sentences → EndsAbout (map (statement_in named) sentences) o
ends_said named o sentences h = record {
  earlier = map (statement_in named) h.earlier;
  last = statement_in named h.last;
  parts = ap (map (statement_in named)) h.parts ∙ map-append (statement_in named) h.earlier (h.last ∷ []);
  about = subject_said named o h.last.said h.about;
}

module _ (parents : List (Option ℕ)) (knowns : List Known) (named : Named) (tale : Tale) (o : ℕ) (text : List ℕ) (room : IsRoomOf tale o → IsRoom parents knowns o) where
  describes_said : (before : List Sentence) (said : Assertion) → DescribesObject named tale o text before said
      → Describes parents knowns o text (map (statement_in named) before) (numbered_in named said)
  describes_said before (asserts.Description other) h = (ends_said named o before h.0, room h.1, h.2)
  describes_said before (asserts.DescriptionOf object other) h = h
  describes_said before _ h = absurd h

  shown_said : (sentences : List Sentence) → IsShown (λ before s. DescribesObject named tale o text before s.said) sentences → IsDescribed parents knowns o (map (statement_in named) sentences) text
  shown_said sentences shown = record {
    before = map (statement_in named) shown.before;
    item = statement_in named shown.item;
    after = map (statement_in named) shown.after;
    split = ap (map (statement_in named)) shown.split ∙ map-append (statement_in named) shown.before (shown.item ∷ shown.after);
    here = describes_said shown.before shown.item.said shown.here;
  }

-- ---- how many objects there are

pub entries_counted : (mentions : List NameAt) → length (entries_of mentions) ≡ 13 + length mentions
unfolding entries_of
entries_counted mentions = omega (arith, length_mapped author_entry mentions)

object_within : (m : Made) (entries : List Entry) (from o : ℕ) (object : Object) → slice_get (objects_of m from entries) o ≡ Some object → o < length entries
object_within m [] from o object e = absurd cc
object_within m (entry ∷ entries) from zero object e = omega arith
object_within m (entry ∷ entries) from (suc o) object e = omega (arith, object_within m entries (from + 1) o object e)

get_there : (knowns : List Known) (o : ℕ) → o < length knowns → (known : Known) × (slice_get knowns o ≡ Some known)
get_there [] o lt = absurd (omega arith)
get_there (k ∷ knowns) zero lt = (k, refl)
get_there (k ∷ knowns) (suc o) lt = get_there knowns o (omega arith)

description_made : (m : Made) (o : ℕ) (entry : Entry) → (object_of m o entry).description ≡ description_of m.descriptions o
unfolding object_as
description_made m o entry = refl

-- ---- the tale

pub said_so : DescriptionsAreThoseSaid
said_so sentences tale o object text means at shown =
    let s = scope_said sentences in
    let claims = claims_of sentences in
    let knowns = knowns_said sentences in
    let named = named_by sentences in
    let statements = stated_by sentences in
    let m : Made = made_of s knowns claims statements in
    let t = tale_is (refusal_of s knowns claims statements named.mentions) (actions_said sentences) (untold claims m (entries_of named.mentions)) tale means in
    let none : (r : Refusal) (line : ℕ) → Shows sentences r line → ⊥ = subst (λ (said : Result Tale Fault). AreJudged sentences said) means (judged sentences) in
    let there : slice_get (objects_of m 0 (entries_of named.mentions)) o ≡ Some object = ap (λ (x : Tale). object_at x o) t.0 ∙ at in
    let made = object_made m (entries_of named.mentions) 0 o o object (omega arith) there in
    let within : o < length (entries_of named.mentions) = object_within m (entries_of named.mentions) 0 o object there in
    let counted : length named.keys ≡ 13 + length named.mentions = counted-source sentences in
    let known = get_there knowns o (omega (
      arith,
      within,
      entries_counted named.mentions,
      counted,
      length_from s claims (first_knowns (length named.keys)),
      first_length (length named.keys)
          (omega (arith, counted)),
    )) in
    let kind : object.kind ≡ kind_of known.0 = ap (λ (x : Object). x.kind) (sym made.1) ∙ kind_made m o made.0 ∙ kind_there knowns o known.0 known.1 in
    let room : IsRoomOf tale o → IsRoom s.parents knowns o = λ r.
    let under : Under s.parents r.0.kind room_kind = subst (λ (ps : List (Option ℕ)). Under ps r.0.kind room_kind) (ap (λ (x : Tale). x.declared.kinds) (sym t.0)) r.2 in
    record {
      known = known.0;
      at = known.1;
      under = subst (λ (k : ℕ). Under s.parents k room_kind) (ap (λ (x : Object). x.kind) (same_object (object_at tale o) r.0 object r.1 at) ∙ kind) under;
    } in
    ap (λ (x : Object). x.description) (sym made.1) ∙ description_made m o made.0
    ∙ described_so s.parents knowns o statements (λ again. none said_twice (line_of_statement again.item) (inr (inr (inr (inl (again, refl)))))) text
    (shown_said s.parents knowns named tale o text room sentences shown)
