-- The names of the kinds: the built-in ones, then the author's in the order of their sentences.
use Rattle.std.specs.Prelude.{ℕ, List, fold}
use Rattle.object_words.specs.Mentions.{mention}
use Rattle.i7_claims.specs.Sorts.{built_in_kinds}
use Rattle.i7_claims.specs.declared.claim.Claim.{Claim}
use Rattle.i7_claims.specs.declared.claim.Fact.{Fact}
use Rattle.i7_claims.specs.declared.claim.Fact.TheVariants.{Lies}

abbrev pub with_kind : List (List ℕ) → Fact → List (List ℕ)
with_kind names (Lies l) = mention names l.kind
with_kind names _ = names

abbrev pub with_kind_of : List (List ℕ) → Claim → List (List ℕ)
with_kind_of names c = with_kind names c.fact

-- in the order of their numbers
abbrev pub kind_names : List Claim → List (List ℕ)
kind_names claims = fold with_kind_of built_in_kinds claims
