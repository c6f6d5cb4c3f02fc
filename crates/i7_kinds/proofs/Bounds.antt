-- The numbers of a tale whose objects are few are small.
use Rattle.std.proofs.Common.{◌≡◌, ℕ, zero, suc, ◌+◌, ◌≤◌, Bool, true, false, cond, List, [], ◌∷◌, ◌++◌, length, map, refl, arith}
use Rattle.std.specs.Prelude.{Option, Some, None, fold, slice_get, if◌then◌else◌}
use Rattle.std.specs.Option.{option_map}
use Rattle.std.specs.List.{position_or_len}
use Rattle.std.specs.Str.{bytes_eq}
use Rattle.std.proofs.lemmas.List.{length-append}
use Rattle.i7_sentences.specs.declared.name.Name.{Name}
use Rattle.i7_sentences.specs.declared.sentence.Sentence.{Sentence}
use Rattle.i7_sentences.specs.declared.sentence.Assertion.{Assertion}
use Rattle.i7_sentences.specs.declared.sentence.Assertion.TheVariants.{Description, DescriptionOf, Door, Way, Are, Holds}
use Rattle.world_meaning.specs.declared.place.Rel.{Rel}
use Rattle.world_meaning.specs.declared.place.Rel.TheVariants.{In, On, Carried, Worn, Part}
use Rattle.world_meaning.specs.declared.fault.FaultCode.{FaultCode}
use Rattle.world_meaning.specs.declared.fault.FaultCode.TheVariants.{Cycle, NoRoom, NoValues, TooMany, Twice, TwoPlaces, UnknownName, WrongKind}
use Rattle.i7_kinds.specs.Bounds.{AreWithin, IsSmallTarget, IsWithin, LeadWithin}
use Rattle.i7_kinds.specs.Demands.{first_target, line_at, implied_in, implied_leads, is_exit, stated_in, stated_leads, way_back, way_there, way_through}
use Rattle.i7_claims.specs.Scans.{earlier}
use Rattle.i7_kinds.specs.declared.faults.Faults.{Faults}
use Rattle.i7_claims.specs.Firsts.{first_of}
use Rattle.i7_kinds.specs.Tales.{frame_refusal, no_room, object_too_many, refusal_at}
use Rattle.i7_claims.specs.declared.statements.Numbered.{Numbered}
use Rattle.i7_claims.specs.declared.statements.Numbered.TheVariants as numbered
use Rattle.i7_claims.specs.declared.statements.NumberedSentence.{NumberedSentence}
use Rattle.i7_kinds.specs.declared.ways.Lead.{Lead}
use Rattle.i7_kinds.specs.declared.ways.Target.{Target}
use Rattle.i7_claims.specs.Statements.{NameAt, Named, built_in_keys, numbered_holding, numbered_in, numbered_subject, has_key, key_of, named_by, names_at, number_in, place_or, stated_by, statement_in, with_name, with_names_of}

-- as many keys as objects
abbrev pub IsCounted : Named → Type 0
IsCounted named = length named.keys ≡ 13 + length named.mentions

pub counted-name : (named : Named) (at : NameAt) → IsCounted named → IsCounted (with_name named at)
counted-name named at counted =
    let key = key_of at.name.text in
    let Goal : Bool → Type 0 = λ known. IsCounted (if known then named else record { keys = named.keys ++ key ∷ []; mentions = named.mentions ++ at ∷ [] }) in
    elim (has_key named.keys key) as Goal [
      | true ↦ counted
      | false ↦ omega (arith, counted, length-append named.keys (key ∷ []), length-append named.mentions (at ∷ []))
    ]

pub counted-names : (names : List NameAt) (named : Named) → IsCounted named → IsCounted (fold with_name named names)
counted-names [] named counted = counted
counted-names (at ∷ names) named counted = counted-names names (with_name named at) (counted-name named at counted)

pub counted-sentences : (sentences : List Sentence) (named : Named) → IsCounted named → IsCounted (fold with_names_of named sentences)
counted-sentences [] named counted = counted
counted-sentences (sentence ∷ sentences) named counted = counted-sentences sentences (with_names_of named sentence) (counted-names (names_at sentence) named counted)

pub counted-source : (sentences : List Sentence) → IsCounted (named_by sentences)
counted-source sentences = counted-sentences sentences (record { keys = built_in_keys; mentions = [] }) refl

pub place-within : (count place : ℕ) → place ≤ count → (test : Bool) → place_or count (cond test (Some place) None) ≤ count
place-within count place within true = within
place-within count place within false = omega arith

pub position-within : (keys : List (List ℕ)) (key : List ℕ) → position_or_len (bytes_eq key) keys ≤ length keys
position-within [] key = omega arith
position-within (k ∷ keys) key =
    let Goal : Bool → Type 0 = λ v. bytes_eq key k ≡ v → position_or_len (bytes_eq key) (k ∷ keys) ≤ length (k ∷ keys) in
    elim (bytes_eq key k) as Goal [
      | true ↦ λ here. rw here (omega arith)
      | false ↦ λ later. rw later (omega (arith, position-within keys key))
    ] refl

-- a number is at most the count of the keys
pub number-within : (keys : List (List ℕ)) (key : List ℕ) → number_in keys key ≤ length keys
number-within keys key = place-within (length keys) (position_or_len (bytes_eq key) keys) (position-within keys key) _

subject-within : (named : Named) (subjects : List Name) → IsWithin (length named.keys) (numbered_subject named subjects)
subject-within named [] = tt
subject-within named (name ∷ []) = tt
subject-within named (name ∷ other ∷ names) = tt

holding-within : (named : Named) (relation : Rel) (holder : Name) (things : List Name) → IsWithin (length named.keys) (numbered_holding named relation holder things)
holding-within named In holder things = subject-within named things
holding-within named On holder things = subject-within named things
holding-within named Carried holder things = tt
holding-within named Worn holder things = tt
holding-within named Part holder things = subject-within named things

pub assertion-within : (named : Named) (said : Assertion) → IsWithin (length named.keys) (numbered_in named said)
assertion-within named (Description text) = tt
assertion-within named (DescriptionOf object text) = tt
assertion-within named (Are being) = subject-within named being.subjects
assertion-within named (Holds holder relation things) = holding-within named relation holder things
assertion-within named (Way way) = (number-within named.keys (key_of way.subject.text), number-within named.keys (key_of way.room.text))
assertion-within named (Door door first second) =
    (number-within named.keys (key_of door.text), number-within named.keys (key_of first.room.text), number-within named.keys (key_of second.room.text))
assertion-within named _ = tt

pub all-within : (named : Named) (sentences : List Sentence) → AreWithin (length named.keys) (map (statement_in named) sentences)
all-within named [] = tt
all-within named (sentence ∷ sentences) = (assertion-within named sentence.said, all-within named sentences)

-- the numbers of a source's statements
pub source-within : (sentences : List Sentence) → AreWithin (length (named_by sentences).keys) (stated_by sentences)
source-within sentences = all-within (named_by sentences) sentences

pub small-first : (a b : Option Target) → IsSmallTarget a → IsSmallTarget b → IsSmallTarget (first_of a b)
small-first None b first second = second
small-first (Some t) b first second = first

-- a lead in front of others
pub small-lead : (lead : Lead) (leads : List Lead) (room direction : ℕ) → IsSmallTarget (Some lead.target) → IsSmallTarget (first_target leads room direction) → IsSmallTarget (first_target (lead ∷ leads) room direction)
small-lead lead leads room direction small others =
    let Goal : Bool → Type 0 = λ v. is_exit room direction lead ≡ v → IsSmallTarget (first_target (lead ∷ leads) room direction) in
    elim (is_exit room direction lead) as Goal [
      | true ↦ λ here. rw here small
      | false ↦ λ other. rw other others
    ] refl

abbrev pub SmallLeads : List Lead → Type 0
SmallLeads leads = (room direction : ℕ) → IsSmallTarget (first_target leads room direction)

stated-small-by : (most : ℕ) (fact : Numbered) (leads : List Lead) → most ≤ 1000 → IsWithin most fact → SmallLeads leads → SmallLeads (stated_in fact ++ leads)
stated-small-by most numbered.Aside leads few within others room direction = others room direction
stated-small-by most (numbered.Description text) leads few within others room direction = others room direction
stated-small-by most (numbered.Describes o text) leads few within others room direction = others room direction
stated-small-by most (numbered.Being o) leads few within others room direction = others room direction
stated-small-by most (numbered.Way way) leads few within others room direction = small-lead (way_there way) leads room direction (omega (arith, within.0, few), tt) (others room direction)
stated-small-by most (numbered.Door d) leads few within others room direction =
    let door : d.door ≤ 1000 = omega (arith, within.0, few) in
    small-lead (way_through d.door d.first d.second) (way_through d.door d.second d.first ∷ leads) room direction (omega (arith, within.2, few), door)
    (small-lead (way_through d.door d.second d.first) leads room direction (omega (arith, within.1, few), door) (others room direction))

implied-small-by : (most : ℕ) (fact : Numbered) (leads : List Lead) → most ≤ 1000 → IsWithin most fact → SmallLeads leads → SmallLeads (implied_in fact ++ leads)
implied-small-by most numbered.Aside leads few within others room direction = others room direction
implied-small-by most (numbered.Description text) leads few within others room direction = others room direction
implied-small-by most (numbered.Describes o text) leads few within others room direction = others room direction
implied-small-by most (numbered.Being o) leads few within others room direction = others room direction
implied-small-by most (numbered.Way way) leads few within others room direction = small-lead (way_back way) leads room direction (omega (arith, within.1, few), tt) (others room direction)
implied-small-by most (numbered.Door d) leads few within others room direction = others room direction

stated-small : (most : ℕ) (statements : List NumberedSentence) → most ≤ 1000 → AreWithin most statements → SmallLeads (stated_leads statements)
stated-small most [] few within room direction = tt
stated-small most (statement ∷ statements) few within room direction = stated-small-by most statement.said (stated_leads statements) few within.0 (stated-small most statements few within.1) room direction

implied-small : (most : ℕ) (statements : List NumberedSentence) → most ≤ 1000 → AreWithin most statements → SmallLeads (implied_leads statements)
implied-small most [] few within room direction = tt
implied-small most (statement ∷ statements) few within room direction = implied-small-by most statement.said (implied_leads statements) few within.0 (implied-small most statements few within.1) room direction

-- a source of few objects leads within a story
pub lead-within : (most : ℕ) (statements : List NumberedSentence) → most ≤ 1000 → AreWithin most statements → LeadWithin statements
lead-within most statements few within room direction =
    small-first (first_target (stated_leads statements) room direction) (first_target (implied_leads statements) room direction) (stated-small most statements few within room direction) (implied-small most statements few within room direction)

pub unmapped : {A B : Type 0} (f : A → B) (found : Option A) → option_map f found ≡ None → found ≡ None
unmapped f None none = refl
unmapped f (Some x) none = absurd cc

pub slice_get-none : {A : Type 0} (xs : List A) (n : ℕ) → slice_get xs n ≡ None → length xs ≤ n
slice_get-none [] n none = omega arith
slice_get-none (x ∷ xs) zero none = absurd cc
slice_get-none (x ∷ xs) (suc n) none = omega (arith, slice_get-none xs n none)

pub first_none_both : {X : Type 0} (a b : Option X) → first_of a b ≡ None → (a ≡ None) × (b ≡ None)
first_none_both None b none = (refl, none)
first_none_both (Some x) b none = absurd cc

pub unrefused : (code : FaultCode) (line : Option ℕ) → refusal_at code line ≡ None → line ≡ None
unrefused code None none = refl
unrefused code (Some line) none = absurd cc

pub earlier_none : (a b : Option ℕ) → earlier a b ≡ None → (a ≡ None) × (b ≡ None)
earlier_none None b h = (refl, h)
earlier_none (Some a) None h = absurd cc
earlier_none (Some a) (Some b) h = absurd cc

-- with no object too many there are few
pub few_objects : (mentions : List NameAt) → object_too_many mentions ≡ None → 13 + length mentions ≤ 1000
few_objects mentions none = omega (arith, slice_get-none mentions 987 (unmapped line_at (slice_get mentions 987) none))

-- what no refusal says
pub record NoFaults (faults : Faults) (mentions : List NameAt) (room : Option ℕ) : Type 0 where
  pub unknown : faults.unknown ≡ None
  pub cycle : faults.cycle ≡ None
  pub wrong : faults.wrong ≡ None
  pub few : 13 + length mentions ≤ 1000
  pub too_many : faults.too_many ≡ None
  pub roomy : no_room room ≡ None
  pub listed : faults.unlisted ≡ None

pub frame_parts : (faults : Faults) (mentions : List NameAt) (room : Option ℕ) → frame_refusal faults mentions room ≡ None → NoFaults faults mentions room
unfolding frame_refusal
frame_parts faults mentions room none =
    let a = first_none_both (refusal_at Twice faults.twice) _ none in
    let u = first_none_both (refusal_at UnknownName faults.unknown) _ a.1 in
    let v = first_none_both (refusal_at Cycle faults.cycle) _ u.1 in
    let b = first_none_both (refusal_at WrongKind faults.wrong) _ v.1 in
    let c = first_none_both (refusal_at TwoPlaces faults.second) _ b.1 in
    let d = first_none_both (refusal_at TooMany (earlier (object_too_many mentions) faults.too_many)) _ c.1 in
    let e = first_none_both (refusal_at NoRoom (no_room room)) (refusal_at NoValues faults.unlisted) d.1 in
    let many = earlier_none (object_too_many mentions) faults.too_many (unrefused TooMany (earlier (object_too_many mentions) faults.too_many) d.0) in
    record {
      unknown = unrefused UnknownName faults.unknown u.0;
      cycle = unrefused Cycle faults.cycle v.0;
      wrong = unrefused WrongKind faults.wrong b.0;
      few = few_objects mentions many.0;
      too_many = many.1;
      roomy = unrefused NoRoom (no_room room) e.0;
      listed = unrefused NoValues faults.unlisted e.1;
    }
