-- No order of the sentences of an accepted source changes the kind of an object.
use Rattle.std.proofs.Common.{◌≡◌, ℕ, List, ap, ◌∙◌, subst, inl, inr}
use Rattle.std.specs.Prelude.{Some, codes}
use Rattle.i7_sentences.specs.declared.sentence.Sentence.{Sentence}
use Rattle.i7_claims.specs.Claims.{claims_of}
use Rattle.i7_claims.specs.Statements.{key_of, named_by}
use Rattle.i7_claims.specs.declared.claim.Claim.{Claim}
use Rattle.i7_claims.specs.declared.claim.Fact.TheVariants.{Demands, Lies, RoomUnlessDoor}
use Rattle.i7_kinds.specs.KindsMeant.{HasKind, HoldsSomething, IsAbove, IsDemanded, IsSaidDoor, IsThingAtMost, LiesUnder, OrderIsNothingToKinds, SayTheSame}
use Rattle.i7_kinds.specs.KindsMeant.{above, by_claim, by_way, container, deepest, itself, of_direction, of_player, thing}
use Rattle.i7_kinds.proofs.KindsDeclared.{kinds_new}
use Rattle.i7_kinds.proofs.KindsOne.{kinds_meant, one_meant}
use Rattle.i7_kinds.proofs.ObjectsNamed.{accepted}
use Rattle.i7_kinds.proofs.SameClaims.{AreOnce, claimed_in_both}
use Rattle.i7_kinds.proofs.SameStandings.{SameClaimed}

-- ---- what rests on which claims there are

module _ (these those : List Claim) (to : SameClaimed these those) where
  above_too : (kind parent : List ℕ) → IsAbove these kind parent → IsAbove those kind parent
  above_too kind parent (inl built_in) = inl built_in
  above_too kind parent (inr claimed) = inr (to (Lies (record { kind = kind; parent = parent })) claimed)

  lies_too : (kind other : List ℕ) → LiesUnder these kind other → LiesUnder those kind other
  lies_too kind other itself = itself
  lies_too kind other (above {parent = p} h u) = above (above_too kind p h) (lies_too p other u)

  said_door_too : (name : List ℕ) → IsSaidDoor these name → IsSaidDoor those name
  said_door_too name t = (t.0, to (Demands (record { object = name; kind = t.0 })) t.1, lies_too t.0 (codes "door") t.2)

  holds_too : (name : List ℕ) → HoldsSomething these name → HoldsSomething those name
  holds_too name t = (t.0, to _ t.1)

demanded_too : (these those : List Claim) → SameClaimed these those → SameClaimed those these → (name kind : List ℕ) → IsDemanded these name kind → IsDemanded those name kind
demanded_too these those to from name kind (of_player is same) = of_player is same
demanded_too these those to from name kind (of_direction d is same) = of_direction d is same
demanded_too these those to from name kind (by_claim h) = by_claim (to (Demands (record { object = name; kind = kind })) h)
demanded_too these those to from name kind (by_way h none same) = by_way (to (RoomUnlessDoor name) h) (λ door. none (said_door_too those these from name door)) same

at_most_too : (these those : List Claim) → SameClaimed these those → SameClaimed those these → (name : List ℕ) → IsThingAtMost these name → IsThingAtMost those name
at_most_too these those to from name most kind h = most kind (demanded_too those these from to name kind h)

pub has_kind_too : (these those : List Claim) → SameClaimed these those → SameClaimed those these → (name kind : List ℕ) → HasKind these name kind → HasKind those name kind
has_kind_too these those to from name kind (deepest d deeper all) =
    deepest (demanded_too these those to from name kind d) deeper (λ other h. lies_too these those to kind other (all other (demanded_too those these from to name other h)))
has_kind_too these those to from name kind (container most h same) = container (at_most_too these those to from name most) (holds_too these those to name h) same
has_kind_too these those to from name kind (thing most none same) = thing (at_most_too these those to from name most) (λ h. none (holds_too those these from name h)) same

-- ---- two accepted sources

the_other_way : (these those : List Sentence) → SayTheSame these those → SayTheSame those these
the_other_way these those same said is = ((same said is).1, (same said is).0)

pub order_is_nothing : OrderIsNothingToKinds
order_is_nothing these those tale other same means means_too i j object twin at at_too named =
    let found = accepted these tale means in
    let found_too = accepted those other means_too in
    let once : AreOnce (claims_of these) = (found.once, found.listed) in
    let once_too : AreOnce (claims_of those) = (found_too.once, found_too.listed) in
    let to = claimed_in_both these those same once once_too in
    let from = claimed_in_both those these (the_other_way these those same) once_too once in
    let a = kinds_meant these tale i object means at in
    let b = kinds_meant those other j twin means_too at_too in
    let has : HasKind (claims_of those) (key_of twin.name) a.0 = subst (λ (name : List ℕ). HasKind (claims_of those) name a.0) named
    (has_kind_too (claims_of these) (claims_of those) to from (key_of object.name) a.0 a.2) in
    let one : b.0 ≡ a.0 = one_meant (claims_of those) (named_by those).keys (kinds_new those found_too.once) found_too (key_of twin.name) b.0 a.0 b.2 has in
    (a.0, a.1, b.1 ∙ ap (λ (kind : List ℕ). Some kind) one)
