-- In an accepted source each object has the kind that is meant for its name, and no other kind is meant.
use Rattle.std.proofs.Common.{◌≡◌, ℕ, List, [], length, map, refl, sym, ap, ◌∙◌}
use Rattle.std.specs.Prelude.{Some, codes, slice_get}
use Rattle.i7_claims.specs.Claims.{claims_of}
use Rattle.i7_claims.specs.KindNames.{kind_names}
use Rattle.i7_claims.specs.Numbers.{number_in}
use Rattle.i7_claims.specs.Sorts.{built_in_kinds}
use Rattle.i7_claims.specs.Statements.{key_of, named_by}
use Rattle.i7_claims.specs.declared.claim.Claim.{Claim}
use Rattle.i7_kinds.specs.KindsMeant.{HasKind, IsDemanded, KindsAreMeant, KindsAreOne, by_claim, by_way, container, deepest, of_direction, of_player, thing}
use Rattle.i7_kinds.specs.Knowns.{first_knowns}
use Rattle.i7_kinds.specs.Tales.{scope_of}
use Rattle.i7_kinds.proofs.Bounds.{counted-source}
use Rattle.i7_kinds.proofs.Fines.{knowns_counted}
use Rattle.i7_kinds.proofs.KindPlaces.{AreNew}
use Rattle.i7_kinds.proofs.KindsDeclared.{kinds_new}
use Rattle.i7_kinds.proofs.KindsMeant.{is_kind, kind_at_number, numbered, object_meant}
use Rattle.i7_kinds.proofs.NamesOnce.{at_number}
use Rattle.i7_kinds.proofs.ObjectsNamed.{NoneFound, accepted, key_at, keyed, told_of}
use Rattle.i7_kinds.proofs.UnderNames.{one_kind}

pub kinds_meant : KindsAreMeant
kinds_meant sentences tale o object means at =
    let claims = claims_of sentences in
    let named = named_by sentences in
    let found = accepted sentences tale means in
    let told = told_of sentences tale o object means at in
    let in_order = keyed sentences in
    let counted = counted-source sentences in
    let known : length named.keys ≡ length (first_knowns (length named.keys)) = counted ∙ sym (knowns_counted (scope_of claims named.keys) [] (length named.mentions) counted) in
    let t = object_meant claims named.keys (kinds_new sentences found.once) found (map key_at named.mentions) in_order.keys_are in_order.once o (key_of object.name) told.stands known in
    (t.0, ap (slice_get (kind_names claims)) told.kind ∙ t.1, t.2)

module _ (claims : List Claim) (keys : List (List ℕ)) (new : AreNew built_in_kinds claims) (found : NoneFound claims keys) where
  built_in_kind : (i : ℕ) (kind built_in : List ℕ) → slice_get built_in_kinds i ≡ Some built_in → kind ≡ built_in → slice_get (kind_names claims) (number_in (kind_names claims) kind) ≡ Some kind
  built_in_kind i kind built_in h same =
      let N = kind_names claims in
      ap (slice_get N) (ap (number_in N) same ∙ numbered claims keys new found i built_in h) ∙ kind_at_number claims keys new found i built_in h ∙ ap (λ (n : List ℕ). Some n) (sym same)

  -- each kind that is demanded is there
  demanded_kind : (name kind : List ℕ) → IsDemanded claims name kind → slice_get (kind_names claims) (number_in (kind_names claims) kind) ≡ Some kind
  unfolding built_in_kinds
  demanded_kind name kind (of_player is same) = built_in_kind 6 kind (codes "person") refl same
  demanded_kind name kind (of_direction d is same) = built_in_kind 2 kind (codes "direction") refl same
  demanded_kind name kind (by_claim h) = at_number (kind_names claims) kind (is_kind claims keys new found (record { object = name; kind = kind }) h)
  demanded_kind name kind (by_way h none same) = built_in_kind 1 kind (codes "room") refl same

  pub one_meant : (name kind other : List ℕ) → HasKind claims name kind → HasKind claims name other → kind ≡ other
  one_meant name kind other (deepest d deeper all) (deepest e deepest_too every) =
      one_kind claims new found.known found.ends (number_in (kind_names claims) kind) (number_in (kind_names claims) other) kind other (demanded_kind name kind d)
      (demanded_kind name other e) (all other e) (every kind d)
  one_meant name kind other (deepest d deeper all) (container most h same) = absurd (deeper (most kind d))
  one_meant name kind other (deepest d deeper all) (thing most none same) = absurd (deeper (most kind d))
  one_meant name kind other (container most h same) (deepest e deeper every) = absurd (deeper (most other e))
  one_meant name kind other (container most h same) (container at_most g alike) = same ∙ sym alike
  one_meant name kind other (container most h same) (thing at_most none alike) = absurd (none h)
  one_meant name kind other (thing most none same) (deepest e deeper every) = absurd (deeper (most other e))
  one_meant name kind other (thing most none same) (container at_most g alike) = absurd (none g)
  one_meant name kind other (thing most none same) (thing at_most no_more alike) = same ∙ sym alike

pub kinds_one : KindsAreOne
kinds_one sentences tale name kind other means h k =
    let found = accepted sentences tale means in
    one_meant (claims_of sentences) (named_by sentences).keys (kinds_new sentences found.once) found name kind other h k
