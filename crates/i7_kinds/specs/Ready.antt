-- What is so where no refusal stands: kinds and places have small numbers, and there is no more of anything than there may be.
use Rattle.std.specs.Prelude.{◌≤◌, List, length}
use Rattle.i7_claims.specs.declared.claim.Claim.{Claim}
use Rattle.i7_claims.specs.declared.statements.NumberedSentence.{NumberedSentence}
use Rattle.i7_kinds.specs.Bounds.{AreSmallKnowns, AreSmallPlaces, LeadWithin}
use Rattle.i7_kinds.specs.KindClaims.{AreSmallKinds, declared_by, parents_of}
use Rattle.i7_kinds.specs.Knowns.{Scope}
use Rattle.i7_kinds.specs.Places.{places_by}
use Rattle.i7_kinds.specs.Suits.{first_room, with_player}
use Rattle.i7_kinds.specs.ValueKinds.{AreFewValues}
use Rattle.i7_kinds.specs.declared.knowns.Known.{Known}

pub record IsReady (s : Scope) (knowns : List Known) (claims : List Claim) (statements : List NumberedSentence) : Type 0 where
  pub within : LeadWithin statements
  pub few_kinds : AreSmallKinds s.parents
  pub few_declared : AreSmallKinds (parents_of s.kinds claims)
  pub short : length (parents_of s.kinds claims) ≤ 100
  pub few_flags : length (declared_by claims).flags ≤ 100
  pub few_numbers : length (declared_by claims).numbers ≤ 100
  pub few_values : AreFewValues (declared_by claims).values
  pub small_kinds : AreSmallKnowns knowns
  pub small_places : AreSmallPlaces (with_player (places_by s.objects claims) (first_room s.parents knowns))
