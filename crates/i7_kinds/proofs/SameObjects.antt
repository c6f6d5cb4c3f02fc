-- Sources that assert the same name the same objects.
use Rattle.std.proofs.Common.{◌≡◌, ℕ, zero, suc, ◌+◌, Bool, true, false, ◌||◌, List, [], ◌∷◌, ◌++◌, map, refl, sym, ap, ◌∙◌, subst, inl, inr, ◌⊎◌, ⊎_elim}
use Rattle.std.specs.Prelude.{Some, bytes_eq, fold, slice_get}
use Rattle.std.proofs.lemmas.List.Folds.{list_any-append}
use Rattle.std.proofs.lemmas.Slice.Eq.{bytes_eq-Decides}
use Rattle.std.proofs.lemmas.Bool.{or_cases, or_left, or_right, cases_Bool}
use Rattle.std.proofs.Math.Bool.{or-false}
use Rattle.world_meaning.specs.declared.tale.Object.{Object}
use Rattle.i7_sentences.specs.declared.name.Name.{Name}
use Rattle.i7_sentences.specs.declared.sentence.Assertion.{Assertion}
use Rattle.i7_sentences.specs.declared.sentence.Assertion.TheVariants as asserts
use Rattle.i7_sentences.specs.declared.sentence.Sentence.{Sentence}
use Rattle.i7_claims.specs.Claims.{claims_of}
use Rattle.i7_claims.specs.Numbers.{has_name, number_in}
use Rattle.i7_claims.specs.Statements.{NameAt, Named, built_in_keys, has_key, key_of, named_by, names_at, names_in, stated_by, with_name, with_names_of}
use Rattle.i7_kinds.specs.Actions.{actions_said}
use Rattle.i7_kinds.specs.KindsMeant.{IsSaid, OrderIsNothingToObjects, is_claiming}
use Rattle.i7_kinds.specs.Knowns.{knowns_of}
use Rattle.i7_kinds.specs.Tales.{Made, entries_of, made_of, object_as, object_of, objects_of, scope_of}
use Rattle.i7_kinds.specs.declared.entries.Entry.{Entry}
use Rattle.i7_kinds.proofs.NamesOnce.{at_number, is_there, same_some}
use Rattle.i7_kinds.proofs.ObjectsNamed.{entry_keys, key_at, key_in, keyed, told_of, unrefused_tale}

-- ---- which names are mentioned

-- one of these names has this key
abbrev IsKeyOf : List ℕ → List Name → Type 0
IsKeyOf key [] = ⊥
IsKeyOf key (name ∷ names) = (key ≡ key_of name.text) ⊎ IsKeyOf key names

abbrev Mentions : List Sentence → List ℕ → Type 0
Mentions sentences key = (said : Assertion) × IsSaid sentences said × IsKeyOf key (names_in said)

old_or : (a b : Bool) → (b ≡ true → a ≡ true) → a ≡ (a || b)
old_or true b h = refl
old_or false true h = h refl
old_or false false h = refl

key_more : (named : Named) (at : NameAt) (key : List ℕ) → has_name (with_name named at).keys key ≡ (has_name named.keys key || bytes_eq key (key_at at))
key_more named at key =
    elim (cases_Bool (has_key named.keys (key_at at))) [
      | inl is ↦
          let same : has_name (with_name named at).keys key ≡ has_name named.keys key = rw is refl in
          same ∙ old_or (has_name named.keys key) (bytes_eq key (key_at at)) (λ e. ap (has_name named.keys) ((bytes_eq-Decides key (key_at at)).0 e) ∙ is)
      | inr isnt ↦
          let pushed : has_name (with_name named at).keys key ≡ has_name (named.keys ++ key_at at ∷ []) key = rw isnt refl in
          pushed ∙ list_any-append (bytes_eq key) named.keys (key_at at ∷ []) ∙ ap (λ (b : Bool). has_name named.keys key || b) (or-false (bytes_eq key (key_at at)))
    ]

key_from_names : (names : List Name) (line : ℕ) (named : Named) (key : List ℕ) → has_name (fold with_name named (map (λ name. record { name = name; line = line }) names)).keys key ≡ true
    → (has_name named.keys key ≡ true) ⊎ IsKeyOf key names
key_from_names [] line named key h = inl h
key_from_names (name ∷ names) line named key h =
    let at : NameAt = record { name = name; line = line } in
    ⊎_elim
    (λ now. ⊎_elim (λ old. inl old) (λ here. inr (inl ((bytes_eq-Decides key (key_at at)).0 here)))
    (or_cases (has_name named.keys key) (bytes_eq key (key_at at)) (sym (key_more named at key) ∙ now)))
    (λ later. inr (inr later))
    (key_from_names names line (with_name named at) key h)

key_stays_name : (named : Named) (at : NameAt) (key : List ℕ) → has_name named.keys key ≡ true → has_name (with_name named at).keys key ≡ true
key_stays_name named at key h = key_more named at key ∙ or_left (has_name named.keys key) (bytes_eq key (key_at at)) h

key_stays_names : (names : List NameAt) (named : Named) (key : List ℕ) → has_name named.keys key ≡ true → has_name (fold with_name named names).keys key ≡ true
key_stays_names [] named key h = h
key_stays_names (at ∷ names) named key h = key_stays_names names (with_name named at) key (key_stays_name named at key h)

key_of_names : (names : List Name) (line : ℕ) (named : Named) (key : List ℕ) → IsKeyOf key names
    → has_name (fold with_name named (map (λ name. record { name = name; line = line }) names)).keys key ≡ true
key_of_names [] line named key h = absurd h
key_of_names (name ∷ names) line named key (inl here) =
    let at : NameAt = record { name = name; line = line } in
    key_stays_names (map (λ name. record { name = name; line = line }) names) (with_name named at) key
    (key_more named at key ∙ or_right (has_name named.keys key) (bytes_eq key (key_at at)) ((bytes_eq-Decides key (key_at at)).1 here))
key_of_names (name ∷ names) line named key (inr later) = key_of_names names line (with_name named (record { name = name; line = line })) key later

key_from : (sentences : List Sentence) (named : Named) (key : List ℕ) → has_name (fold with_names_of named sentences).keys key ≡ true → (has_name named.keys key ≡ true) ⊎ Mentions sentences key
key_from [] named key h = inl h
key_from (sentence ∷ sentences) named key h =
    ⊎_elim
    (λ now. ⊎_elim (λ old. inl old) (λ here. inr (sentence.said, inl refl, here)) (key_from_names (names_in sentence.said) sentence.line named key now))
    (λ later. inr (later.0, inr later.1, later.2))
    (key_from sentences (with_names_of named sentence) key h)

key_stays : (sentences : List Sentence) (named : Named) (key : List ℕ) → has_name named.keys key ≡ true → has_name (fold with_names_of named sentences).keys key ≡ true
key_stays [] named key h = h
key_stays (sentence ∷ sentences) named key h = key_stays sentences (with_names_of named sentence) key (key_stays_names (names_at sentence) named key h)

key_to : (sentences : List Sentence) (named : Named) (key : List ℕ) (said : Assertion) → IsSaid sentences said → IsKeyOf key (names_in said)
    → has_name (fold with_names_of named sentences).keys key ≡ true
key_to [] named key said is h = absurd is
key_to (sentence ∷ sentences) named key said (inl here) h =
    key_stays sentences (with_names_of named sentence) key (key_of_names (names_in sentence.said) sentence.line named key (subst (λ (s : Assertion). IsKeyOf key (names_in s)) (sym here) h))
key_to (sentence ∷ sentences) named key said (inr later) h = key_to sentences (with_names_of named sentence) key said later h

naming : (said : Assertion) (key : List ℕ) → IsKeyOf key (names_in said) → is_claiming said ≡ true
naming asserts.Aside key h = absurd h
naming (asserts.Description text) key h = absurd h
naming (asserts.Rule rule) key h = absurd h
naming (asserts.SceneChange change) key h = absurd h
naming (asserts.Understand understanding) key h = absurd h
naming (asserts.Listing listing) key h = absurd h
naming (asserts.Action action) key h = absurd h
naming _ key h = refl

same_keys : (these those : List Sentence) → ((said : Assertion) → is_claiming said ≡ true → IsSaid these said → IsSaid those said) → (key : List ℕ)
    → has_name (named_by these).keys key ≡ true → has_name (named_by those).keys key ≡ true
same_keys these those to key h =
    let start : Named = record { keys = built_in_keys; mentions = [] } in
    ⊎_elim (λ old. key_stays those start key old) (λ t. key_to those start key t.0 (to t.0 (naming t.0 key t.2) t.1) t.2) (key_from these start key h)

-- ---- an object at each key

mapped_from : {X Y : Type 0} (f : X → Y) (xs : List X) (i : ℕ) (y : Y) → slice_get (map f xs) i ≡ Some y → (x : X) × (slice_get xs i ≡ Some x) × (f x ≡ y)
mapped_from f [] i y h = absurd cc
mapped_from f (x ∷ xs) zero y h = (x, refl, same_some h)
mapped_from f (x ∷ xs) (suc i) y h = mapped_from f xs i y h

object_there : (m : Made) (entries : List Entry) (from o : ℕ) (e : Entry) → slice_get entries o ≡ Some e
    → (object : Object) × (slice_get (objects_of m from entries) o ≡ Some object) × (object.name ≡ e.name)
unfolding object_as
object_there m [] from o e h = absurd cc
object_there m (entry ∷ entries) from zero e h = (object_of m from entry, refl, ap (λ (x : Entry). x.name) (same_some h))
object_there m (entry ∷ entries) from (suc o) e h = object_there m entries (from + 1) o e h

pub same_objects : OrderIsNothingToObjects
same_objects these those tale other same means means_too i object at =
    let key = key_of object.name in
    let claims = claims_of those in
    let named = named_by those in
    let s = scope_of claims named.keys in
    let m = made_of s (knowns_of s claims) claims (stated_by those) in
    let told = told_of these tale i object means at in
    let there : has_name named.keys key ≡ true = same_keys these those (λ said is. (same said is).0) key (is_there (named_by these).keys i key told.stands) in
    let j = number_in named.keys key in
    let in_entries = mapped_from key_in (entries_of named.mentions) j key
    (ap (λ (keys : List (List ℕ)). slice_get keys j) (entry_keys named.mentions ∙ sym (keyed those).keys_are) ∙ at_number named.keys key there) in
    let t = unrefused_tale m _ (entries_of named.mentions) (actions_said those) _ other means_too in
    let twin = object_there m (entries_of named.mentions) 0 j in_entries.0 in_entries.1 in
    (j, twin.0, ap (λ (objects : List Object). slice_get objects j) (sym t.1) ∙ twin.1, sym (ap key_of twin.2 ∙ in_entries.2))
