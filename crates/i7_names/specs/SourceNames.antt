-- What the names of a source stand for.
use Rattle.std.specs.Prelude.{ℕ, List, length}
use Rattle.i7_sentences.specs.declared.sentence.Sentence.{Sentence}
use Rattle.i7_claims.specs.Claims.{claims_of}
use Rattle.i7_claims.specs.Sorts.{names_as}
use Rattle.i7_claims.specs.Statements.{named_by}
use Rattle.i7_claims.specs.declared.claim.Claim.{Claim}
use Rattle.i7_claims.specs.declared.sorts.Sort.TheVariants as sort
use Rattle.i7_names.specs.Known.{Known}
use Rattle.i7_names.specs.Meant.{named_in}
use Rattle.i7_names.specs.Numbering.{Numbering, numbering_by}
use Rattle.i7_names.specs.PluralNames.{with_plurals}

abbrev pub known_in : Numbering → List Claim → Known
known_in n claims = with_plurals n.kinds (named_in n claims)

-- by what is claimed, where the objects have these names
unfoldable pub known_by : List (List ℕ) → List Claim → Known
known_by objects claims = known_in (numbering_by objects claims) claims

-- the author's rulebooks, whose names are apart, by number
unfoldable pub rulebooks_by : List Claim → List (List ℕ)
rulebooks_by claims = names_as sort.Rulebook claims

unfoldable pub scenes_by : List Claim → ℕ
scenes_by claims = length (names_as sort.Scene claims)

abbrev pub names_in : List Sentence → Known
names_in sentences = known_by (named_by sentences).keys (claims_of sentences)

abbrev pub rulebooks_in : List Sentence → List (List ℕ)
rulebooks_in sentences = rulebooks_by (claims_of sentences)

abbrev pub scene_count : List Sentence → ℕ
scene_count sentences = scenes_by (claims_of sentences)
