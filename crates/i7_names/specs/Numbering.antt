-- The names of a source by their numbers: each is numbered among those of its sort.
use Rattle.std.specs.Prelude.{ℕ, List, length, map}
use Rattle.i7_sentences.specs.declared.sentence.Sentence.{Sentence}
use Rattle.i7_claims.specs.Claims.{claims_of}
use Rattle.i7_claims.specs.KindNames.{kind_names}
use Rattle.i7_claims.specs.Listings.{values_listed}
use Rattle.i7_claims.specs.Sorts.{names_as}
use Rattle.i7_claims.specs.Statements.{named_by}
use Rattle.i7_claims.specs.declared.claim.Claim.{Claim}
use Rattle.i7_claims.specs.declared.sorts.Sort.TheVariants as sort

-- an either-or property is numbered by its first name
pub record Numbering : Type 0 where
  pub objects : List (List ℕ)
  pub kinds : List (List ℕ)
  pub qualities : List (List ℕ)
  pub numbers : List (List ℕ)
  pub variables : List (List ℕ)
  pub scenes : List (List ℕ)
  pub value_kinds : List (List ℕ)
  -- how many values each kind of value has
  pub value_counts : List ℕ

-- how many values the kinds of value of these names have
abbrev pub counts_listed : List Claim → List (List ℕ) → List ℕ
counts_listed claims names = map (λ name. length (values_listed claims name)) names

-- where the objects have these names
abbrev pub numbering_by : List (List ℕ) → List Claim → Numbering
numbering_by objects claims = record {
  objects = objects;
  kinds = kind_names claims;
  qualities = names_as sort.EitherOr claims;
  numbers = names_as sort.Number claims;
  variables = names_as sort.Variable claims;
  scenes = names_as sort.Scene claims;
  value_kinds = names_as sort.ValueKind claims;
  value_counts = counts_listed claims (names_as sort.ValueKind claims);
}

abbrev pub numbering_of : List Sentence → Numbering
numbering_of sentences = numbering_by (named_by sentences).keys (claims_of sentences)

-- the view of the code's record
abbrev pub numbering_with : List (List ℕ) → List (List ℕ) → List (List ℕ) → List (List ℕ) → List (List ℕ) → List (List ℕ) → List (List ℕ) → List ℕ → Numbering
numbering_with objects kinds qualities numbers variables scenes value_kinds value_counts = record {
  objects = objects;
  kinds = kinds;
  qualities = qualities;
  numbers = numbers;
  variables = variables;
  scenes = scenes;
  value_kinds = value_kinds;
  value_counts = value_counts;
}
