-- Which objects stand in which, by all the places that claims tell of each, and the walk through contents that finds it out.
use Rattle.std.specs.Prelude.{◌≡◌, ◌⊎◌, ℕ, zero, suc, ◌+◌, Bool, true, false, not, ◌||◌, ◌&&◌, ◌==◌, nat_lt, List, [], ◌∷◌, ◌++◌, length, fold, replicate, slice_index_or, slice_set, if◌then◌else◌}
use Rattle.i7_claims.specs.Numbers.{number_in}
use Rattle.i7_claims.specs.declared.claim.Claim.{Claim}
use Rattle.i7_claims.specs.declared.claim.Fact.{Fact}
use Rattle.i7_claims.specs.declared.claim.Fact.TheVariants.{Placed}

-- a fact puts a thing in a holder, by whatever relation
abbrev pub Puts : List (List ℕ) → Fact → ℕ → ℕ → Type 0
Puts objects (Placed p) thing holder = (number_in objects p.thing ≡ thing) × (number_in objects p.holder ≡ holder)
Puts objects _ thing holder = ⊥

-- some claim puts it there
abbrev pub IsPut : List (List ℕ) → List Claim → ℕ → ℕ → Type 0
IsPut objects [] thing holder = ⊥
IsPut objects (c ∷ claims) thing holder = Puts objects c.fact thing holder ⊎ IsPut objects claims thing holder

-- From an object one comes to another holder by holder, or is there.
pub data Leads (Stands : ℕ → ℕ → Type 0) : ℕ → ℕ → Type 0 where
  itself : {object : ℕ} → Leads Stands object object
  up : {object holder other : ℕ} → Stands object holder → Leads Stands holder other → Leads Stands object other

-- ---- what was put in each object

abbrev pub Contents : Type 0
Contents = List (List ℕ)

abbrev pub things_in : Contents → ℕ → List ℕ
things_in contents holder = slice_index_or contents holder []

abbrev pub with_thing : Contents → ℕ → ℕ → Contents
with_thing contents thing holder = slice_set contents holder (things_in contents holder ++ thing ∷ [])

abbrev pub with_put : List (List ℕ) → Contents → Fact → Contents
with_put objects contents (Placed p) = with_thing contents (number_in objects p.thing) (number_in objects p.holder)
with_put objects contents _ = contents

abbrev pub with_put_of : List (List ℕ) → Contents → Claim → Contents
with_put_of objects contents c = with_put objects contents c.fact

-- nothing yet is in one of so many, nor in what has none of their names, which has the next number
abbrev pub nothing_in : ℕ → Contents
nothing_in count = replicate (count + 1) []

-- what claims put in each object
abbrev pub contents_by : List (List ℕ) → List Claim → Contents
contents_by objects claims = fold (with_put_of objects) (nothing_in (length objects)) claims

-- ---- a walk

abbrev pub emptied : Contents → ℕ → Contents
emptied contents holder = slice_set contents holder []

-- Whether a walk of so many steps at most comes from these to another, each holder leading to what is in it. It goes through each once.
abbrev pub walk : ℕ → Contents → List ℕ → ℕ → Bool
walk zero contents todo other = false
walk (suc most) contents [] other = false
walk (suc most) contents (object ∷ todo) other = (object == other) || walk most (emptied contents object) (todo ++ things_in contents object) other

abbrev pub things_held : Contents → ℕ
things_held [] = 0
things_held (things ∷ contents) = length things + things_held contents

-- it has no more steps than there are those to begin with and things in holders
abbrev pub comes_to : Contents → List ℕ → ℕ → Bool
comes_to contents todo other = walk (things_held contents + length todo) contents todo other

-- an object of these was not walked through
abbrev pub is_unseen : List Bool → ℕ → Bool
is_unseen seen object = not (slice_index_or seen object true)

-- what is left of the contents where some objects were walked through
abbrev pub unseen : Contents → List Bool → Contents
unseen [] seen = []
unseen (things ∷ contents) [] = []
unseen (things ∷ contents) (is ∷ seen) = (if is then [] else things) ∷ unseen contents seen

-- an object is another, or has it in it
abbrev pub encloses : Contents → ℕ → ℕ → Bool
encloses contents object other = comes_to contents (object ∷ []) other

-- ---- ranks that tell that there is no cycle

abbrev pub rank_of : List ℕ → ℕ → ℕ
rank_of ranks object = slice_index_or ranks object 0

abbrev pub are_above : List ℕ → ℕ → List ℕ → Bool
are_above ranks rank [] = true
are_above ranks rank (thing ∷ things) = nat_lt rank (rank_of ranks thing) && are_above ranks rank things

-- what is in each holder, from this one on, ranks above it
abbrev pub rise_from : List ℕ → ℕ → Contents → Bool
rise_from ranks object [] = true
rise_from ranks object (things ∷ contents) = are_above ranks (rank_of ranks object) things && rise_from ranks (object + 1) contents
