-- The scans for names that stand for two things.
use Rattle.std.specs.Prelude.{◌≡◌, ℕ, ◌<◌, max, Bool, false, not, List, [], length, Option, Some, None, fold, bytes_eq, option_copied}
use Rattle.std.specs.Borrow.{Bor}
use Rattle.indexmap.specs.IndexMap.{IndexMap, get_by}
use Rattle.object_words.specs.Mentions.{mention}
use Rattle.i7_claims.specs.Firsts.{first_of, given}
use Rattle.i7_claims.specs.Scans.{lowest}
use Rattle.i7_claims.specs.Standings.{built_in_books, built_in_namings, has_name, suits}
use Rattle.i7_claims.specs.declared.claim.Claim.{Claim}
use Rattle.i7_claims.specs.declared.claim.Fact.{Fact}
use Rattle.i7_claims.specs.declared.claim.Fact.TheVariants.{Stands, Rulebook, Values}
use Rattle.i7_claims.specs.declared.claim.Naming.{Naming}
use Rattle.i7_claims.specs.declared.claim.Standing.{Standing}

-- what each name stands for so far
abbrev pub Standings : Type 0
Standings = List ℕ → Option Standing

abbrev pub no_standings : Standings
no_standings name = None

abbrev pub with_naming : Standings → Naming → Standings
with_naming known n name = first_of (known name) (given bytes_eq n.name n.standing name)

abbrev pub with_fact : Standings → Fact → Standings
with_fact known (Stands n) = with_naming known n
with_fact known _ = known

abbrev pub with_claim : Standings → Claim → Standings
with_claim known c = with_fact known c.fact

-- no longer name stands for anything
abbrev pub IsShort : ℕ → Standings → Type 0
IsShort most known = (name : List ℕ) → most < length name → known name ≡ None

-- the most bytes of a name so far
abbrev pub longer : ℕ → Naming → ℕ
longer most n = max most (length n.name)

abbrev pub longer_fact : ℕ → Fact → ℕ
longer_fact most (Stands n) = longer most n
longer_fact most _ = most

abbrev pub longer_claim : ℕ → Claim → ℕ
longer_claim most c = longer_fact most c.fact

abbrev pub clashes : Option Standing → Standing → Bool
clashes None said = false
clashes (Some known) said = not (suits known said)

abbrev pub is_twice : Standings → Fact → Bool
is_twice known (Stands n) = clashes (known n.name) n.standing
is_twice known _ = false

abbrev pub shows_twice : Standings → Claim → Bool
shows_twice known c = is_twice known c.fact

unfoldable pub built_in_standings : Standings
built_in_standings = fold with_naming no_standings built_in_namings

abbrev pub name_twice : List Claim → Option ℕ
name_twice claims = lowest shows_twice with_claim built_in_standings claims None

-- what a map knows of a name
abbrev pub standing_at : {S : Type 0} → IndexMap (Bor (List ℕ)) (Bor Standing) S → Standings
standing_at known name = option_copied (get_by (λ key. bytes_eq name key.now) known)

abbrev pub with_book : List (List ℕ) → Fact → List (List ℕ)
with_book books (Rulebook name) = mention books name
with_book books _ = books

abbrev pub with_book_of : List (List ℕ) → Claim → List (List ℕ)
with_book_of books c = with_book books c.fact

abbrev pub is_book_twice : List (List ℕ) → Fact → Bool
is_book_twice books (Rulebook name) = has_name books name
is_book_twice books _ = false

abbrev pub shows_book : List (List ℕ) → Claim → Bool
shows_book books c = is_book_twice books c.fact

abbrev pub book_twice : List Claim → Option ℕ
book_twice claims = lowest shows_book with_book_of built_in_books claims None

abbrev pub with_list : List (List ℕ) → Fact → List (List ℕ)
with_list kinds (Values listing) = mention kinds listing.kind
with_list kinds _ = kinds

abbrev pub with_list_of : List (List ℕ) → Claim → List (List ℕ)
with_list_of kinds c = with_list kinds c.fact

abbrev pub is_listed_twice : List (List ℕ) → Fact → Bool
is_listed_twice kinds (Values listing) = has_name kinds listing.kind
is_listed_twice kinds _ = false

abbrev pub shows_list : List (List ℕ) → Claim → Bool
shows_list kinds c = is_listed_twice kinds c.fact

abbrev pub list_twice : List Claim → Option ℕ
list_twice claims = lowest shows_list with_list_of [] claims None
