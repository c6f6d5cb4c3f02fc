-- The objects of a tale stand at the numbers of their names, with the kinds that are known of them.
use Rattle.std.proofs.Common.{◌≡◌, ℕ, zero, suc, ◌+◌, List, [], ◌∷◌, ◌++◌, map, Option, refl, sym, ap, ◌∙◌, arith, inl, inr, append_assoc, Ok}
use Rattle.std.specs.Prelude.{Some, None, fold, slice_get}
use Rattle.std.proofs.lemmas.List.{map-append}
use Rattle.std.proofs.lemmas.Bool.{cases_Bool}
use Rattle.world_meaning.specs.Directions.{direction_name}
use Rattle.world_meaning.specs.declared.declared.Declared.{Declared}
use Rattle.world_meaning.specs.declared.fault.Fault.{Fault}
use Rattle.world_meaning.specs.declared.fault.FaultCode.TheVariants.{Twice}
use Rattle.world_meaning.specs.declared.needs.Needs.{Needs}
use Rattle.world_meaning.specs.declared.tale.Object.{Object}
use Rattle.world_meaning.specs.declared.tale.Tale.{Tale}
use Rattle.i7_sentences.specs.declared.sentence.Sentence.{Sentence}
use Rattle.i7_claims.specs.Claims.{claims_of}
use Rattle.i7_claims.specs.NameScans.{book_twice, list_twice, name_twice}
use Rattle.i7_claims.specs.Scans.{earlier}
use Rattle.i7_claims.specs.Statements.{NameAt, Named, built_in_keys, has_key, key_of, named_by, names_at, stated_by, with_name, with_names_of}
use Rattle.i7_claims.specs.declared.claim.Claim.{Claim}
use Rattle.i7_claims.specs.declared.statements.NumberedSentence.{NumberedSentence}
use Rattle.i7_kinds.specs.Actions.{actions_said, told_with, with_actions}
use Rattle.i7_kinds.specs.Demands.{wrong_kind}
use Rattle.i7_kinds.specs.KindClaims.{kind_cycle, kind_names, unknown_kind}
use Rattle.i7_kinds.specs.Knowns.{kind_of, kinds_of, known_at, knowns_of, off_path}
use Rattle.i7_kinds.specs.Places.{holder_cycle}
use Rattle.i7_kinds.specs.Suits.{first_room, unsuited}
use Rattle.i7_kinds.specs.Tales.{Made, author_entry, entries_of, faults_of, frame_refusal, kind_at}
use Rattle.i7_kinds.specs.Tales.{made_of, object_as, objects_of, or_refused, refusal_at, refusal_of, scope_of, tale_said}
use Rattle.i7_kinds.specs.declared.entries.Entry.{Entry}
use Rattle.i7_kinds.specs.declared.faults.Faults.{Faults}
use Rattle.i7_kinds.specs.declared.knowns.Known.{Known}
use Rattle.i7_kinds.proofs.Bounds.{earlier_none, first_none_both, frame_parts, unrefused}
use Rattle.i7_kinds.proofs.NamesOnce.{StandOnce, none_once, once_mention, once_mentions, same_some}

-- ---- what an accepted source doesn't show

pub record NoneFound (claims : List Claim) (keys : List (List ℕ)) : Type 0 where
  pub once : name_twice claims ≡ None
  pub listed : list_twice claims ≡ None
  pub known : unknown_kind (kind_names claims) claims ≡ None
  pub ends : kind_cycle (kind_names claims) claims ≡ None
  pub on_path : off_path (scope_of claims keys) claims ≡ None

none_twice : (faults : Faults) (mentions : List NameAt) (room : Option ℕ) → frame_refusal faults mentions room ≡ None → faults.twice ≡ None
unfolding frame_refusal
none_twice faults mentions room none = unrefused Twice faults.twice (first_none_both (refusal_at Twice faults.twice) _ none).0

none_found : (claims : List Claim) (keys : List (List ℕ)) (statements : List NumberedSentence) (mentions : List NameAt)
    → refusal_of (scope_of claims keys) (knowns_of (scope_of claims keys) claims) claims statements mentions ≡ None → NoneFound claims keys
none_found claims keys statements mentions none =
    let s = scope_of claims keys in
    let knowns = knowns_of s claims in
    let faults = faults_of s knowns claims statements in
    let room = first_room s.parents knowns in
    let parts = frame_parts faults mentions room none in
    let names = earlier_none (name_twice claims) _ (none_twice faults mentions room none) in
    record {
      once = names.0;
      listed = (earlier_none (list_twice claims) _ (earlier_none (book_twice claims) _ names.1).1).0;
      known = parts.unknown;
      ends = (earlier_none (kind_cycle s.kinds claims) (holder_cycle s.objects claims) parts.cycle).0;
      on_path = (earlier_none (off_path s claims) (earlier (unsuited s knowns claims) (wrong_kind s.parents knowns statements)) parts.wrong).0;
    }

-- a tale that stands, its objects and its kinds
pub unrefused_tale : (m : Made) (declared : Declared) (entries : List Entry) (actions : List Needs) (refusal : Option Fault) (tale : Tale)
    → with_actions actions (or_refused refusal (record { declared = declared; objects = objects_of m 0 entries })) ≡ Ok tale
    → (refusal ≡ None) × (objects_of m 0 entries ≡ tale.objects) × (declared.kinds ≡ tale.declared.kinds)
unrefused_tale m declared entries actions None tale means =
    let same : told_with actions (record { declared = declared; objects = objects_of m 0 entries }) ≡ tale = cc in
    (refl, ap (λ (t : Tale). t.objects) same, ap (λ (t : Tale). t.declared.kinds) same)
unrefused_tale m declared entries actions (Some fault) tale means = absurd cc

-- ---- the keys of the objects

abbrev pub key_at : NameAt → List ℕ
key_at at = key_of at.name.text

abbrev pub key_in : Entry → List ℕ
key_in e = key_of e.name

-- the keys stand in the order of the mentions, each once
pub record Keyed (named : Named) : Type 0 where
  pub keys_are : named.keys ≡ built_in_keys ++ map key_at named.mentions
  pub once : StandOnce named.keys

keyed_name : (named : Named) (at : NameAt) → Keyed named → Keyed (with_name named at)
keyed_name named at keyed =
    elim (cases_Bool (has_key named.keys (key_at at))) [
      | inl is ↦ rw is keyed
      | inr isnt ↦
          let once : StandOnce (named.keys ++ key_at at ∷ []) = rw isnt at (once_mention named.keys (key_at at) keyed.once) in
          let keys : named.keys ++ key_at at ∷ [] ≡ built_in_keys ++ map key_at (named.mentions ++ at ∷ []) =
          ap (λ (front : List (List ℕ)). front ++ key_at at ∷ []) keyed.keys_are
          ∙ append_assoc built_in_keys (map key_at named.mentions) (key_at at ∷ [])
          ∙ ap (λ (back : List (List ℕ)). built_in_keys ++ back) (sym (map-append key_at named.mentions (at ∷ []))) in
          rw isnt (record { keys_are = keys; once = once })
    ]

keyed_names : (names : List NameAt) (named : Named) → Keyed named → Keyed (fold with_name named names)
keyed_names [] named keyed = keyed
keyed_names (at ∷ names) named keyed = keyed_names names (with_name named at) (keyed_name named at keyed)

keyed_sentences : (sentences : List Sentence) (named : Named) → Keyed named → Keyed (fold with_names_of named sentences)
keyed_sentences [] named keyed = keyed
keyed_sentences (sentence ∷ sentences) named keyed = keyed_sentences sentences (with_names_of named sentence) (keyed_names (names_at sentence) named keyed)

pub keyed : (sentences : List Sentence) → Keyed (named_by sentences)
unfolding direction_name
keyed sentences = keyed_sentences sentences (record { keys = built_in_keys; mentions = [] }) (record { keys_are = refl; once = once_mentions built_in_keys [] none_once })

-- ---- the entries stand at the keys

get_mapped : {X Y : Type 0} (f : X → Y) (xs : List X) (i : ℕ) (x : X) → slice_get xs i ≡ Some x → slice_get (map f xs) i ≡ Some (f x)
get_mapped f [] i x h = absurd cc
get_mapped f (y ∷ xs) zero x h = ap (λ (z : _). Some (f z)) (same_some h)
get_mapped f (y ∷ xs) (suc i) x h = get_mapped f xs i x h

author_keys : (mentions : List NameAt) → map key_in (map author_entry mentions) ≡ map key_at mentions
author_keys [] = refl
author_keys (at ∷ mentions) = ap (λ (keys : List (List ℕ)). key_at at ∷ keys) (author_keys mentions)

pub entry_keys : (mentions : List NameAt) → map key_in (entries_of mentions) ≡ built_in_keys ++ map key_at mentions
unfolding entries_of direction_name
entry_keys mentions = ap (λ (keys : List (List ℕ)). built_in_keys ++ keys) (author_keys mentions)

-- ---- the objects

object_told : (m : Made) (entries : List Entry) (from o n : ℕ) (object : Object) → n ≡ from + o → slice_get (objects_of m from entries) o ≡ Some object
    → (e : Entry) × (slice_get entries o ≡ Some e) × (object.kind ≡ kind_at m.kinds n) × (object.name ≡ e.name)
unfolding object_as
object_told m [] from o n object e h = absurd cc
object_told m (entry ∷ entries) from zero n object e h =
    let same = same_some h in
    let number : from ≡ n = omega (arith, e) in
    (entry, refl, ap (λ (x : Object). x.kind) (sym same) ∙ ap (kind_at m.kinds) number, ap (λ (x : Object). x.name) (sym same))
object_told m (entry ∷ entries) from (suc o) n object e h = object_told m entries (from + 1) o n object (omega (arith, e)) h

-- the kind of what is known at a number
pub kind_known : (knowns : List Known) (o : ℕ) → kind_at (kinds_of knowns) o ≡ kind_of (known_at knowns o)
kind_known [] o = refl
kind_known (known ∷ knowns) zero = refl
kind_known (known ∷ knowns) (suc o) = kind_known knowns o

-- what an accepted source says of an object of its tale
pub record ToldOf (sentences : List Sentence) (o : ℕ) (object : Object) : Type 0 where
  pub kind : object.kind ≡ kind_of (known_at (knowns_of (scope_of (claims_of sentences) (named_by sentences).keys) (claims_of sentences)) o)
  pub stands : slice_get (named_by sentences).keys o ≡ Some (key_of object.name)

pub accepted : (sentences : List Sentence) (tale : Tale) → tale_said sentences ≡ Ok tale → NoneFound (claims_of sentences) (named_by sentences).keys
accepted sentences tale means =
    let t = unrefused_tale _ _ _ (actions_said sentences) _ tale means in
    none_found (claims_of sentences) (named_by sentences).keys (stated_by sentences) (named_by sentences).mentions t.0

pub told_of : (sentences : List Sentence) (tale : Tale) (o : ℕ) (object : Object) → tale_said sentences ≡ Ok tale → slice_get tale.objects o ≡ Some object → ToldOf sentences o object
told_of sentences tale o object means at =
    let claims = claims_of sentences in
    let named = named_by sentences in
    let s = scope_of claims named.keys in
    let knowns = knowns_of s claims in
    let m = made_of s knowns claims (stated_by sentences) in
    let t = unrefused_tale m _ (entries_of named.mentions) (actions_said sentences) _ tale means in
    let there : slice_get (objects_of m 0 (entries_of named.mentions)) o ≡ Some object = ap (λ (objects : List Object). slice_get objects o) t.1 ∙ at in
    let number : o ≡ 0 + o = omega arith in
    let told = object_told m (entries_of named.mentions) 0 o o object number there in
    record {
      kind = told.2 ∙ kind_known knowns o;
      stands =
          ap (λ (keys : List (List ℕ)). slice_get keys o) ((keyed sentences).keys_are ∙ sym (entry_keys named.mentions))
          ∙ get_mapped key_in (entries_of named.mentions) o told.0 told.1
          ∙ ap (λ (name : List ℕ). Some (key_of name)) (sym told.3);
    }
