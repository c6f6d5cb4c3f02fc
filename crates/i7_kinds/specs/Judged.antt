-- What sentences are refused for: that they mean a tale where nothing of it is shown, and else are refused for the first that is.
use Rattle.std.specs.Prelude.{◌≡◌, ◌⊎◌, ℕ, ◌≤◌, ◌<◌, List, Option, Some, None, Result, Ok, Err}
use Rattle.world_meaning.specs.declared.fault.Fault.{Fault}
use Rattle.world_meaning.specs.declared.fault.FaultCode.{FaultCode}
use Rattle.world_meaning.specs.declared.fault.FaultCode.TheVariants as fault
use Rattle.world_meaning.specs.declared.tale.Tale.{Tale}
use Rattle.i7_sentences.specs.declared.sentence.Sentence.{Sentence}
use Rattle.i7_claims.specs.Claims.{claims_of}
use Rattle.i7_claims.specs.Scans.{ShownBy}
use Rattle.i7_claims.specs.Sorts.{IsListTooLong, IsTooMany}
use Rattle.i7_claims.specs.Standings.{IsBookTwice, IsListedTwice, IsTwice}
use Rattle.i7_claims.specs.Statements.{NameAt, named_by, stated_by}
use Rattle.i7_claims.specs.declared.claim.Claim.{Claim}
use Rattle.i7_claims.specs.declared.sorts.Sort.TheVariants as sort
use Rattle.i7_claims.specs.declared.statements.NumberedSentence.{NumberedSentence}
use Rattle.i7_kinds.specs.Demands.{line_at, line_of_statement}
use Rattle.i7_kinds.specs.Doors.{IsToldAgain}
use Rattle.i7_kinds.specs.FirstShown.{IsShownAt}
use Rattle.i7_lexer.specs.Rising.{LinesRise}
use Rattle.i7_kinds.specs.KindClaims.{IsCycle, IsKindTooMany, IsUnknown}
use Rattle.i7_kinds.specs.Knowns.{Scope, knowns_of}
use Rattle.i7_kinds.specs.LongNames.{IsLonger}
use Rattle.i7_kinds.specs.Places.{IsHolderCycle, IsSecond}
use Rattle.i7_kinds.specs.RefusalsShown.{DescribesAtLength, HasNoRoom, IsDescribedAgain, IsLedElsewhere, IsLongName, IsOffPath, IsOneTooMany, IsUnsuited, IsWrong}
use Rattle.i7_kinds.specs.Tales.{scope_of}
use Rattle.i7_kinds.specs.ValueKinds.{IsUnlisted}
use Rattle.i7_kinds.specs.Values.{IsContrary, told_by, values_by}
use Rattle.i7_kinds.specs.declared.knowns.Known.{Known}
use Rattle.i7_kinds.specs.declared.values.Bearer.{Bearer}
use Rattle.i7_kinds.specs.declared.values.Bearer.TheVariants.{Objects, Kinds, Variables}

-- ---- what is known by sentences

abbrev pub scope_said : List Sentence → Scope
scope_said sentences = scope_of (claims_of sentences) (named_by sentences).keys

abbrev pub parents_said : List Sentence → List (Option ℕ)
parents_said sentences = (scope_said sentences).parents

abbrev pub knowns_said : List Sentence → List Known
knowns_said sentences = knowns_of (scope_said sentences) (claims_of sentences)

-- ---- what shows something at a line: a claim, a statement or a mention of sentences, with those before it

abbrev pub ClaimShows : (List Claim → Claim → Type 0) → List Sentence → ℕ → Type 0
ClaimShows Here sentences line = ShownBy Here (claims_of sentences) line

abbrev pub StatementShows : (List NumberedSentence → NumberedSentence → Type 0) → List Sentence → ℕ → Type 0
StatementShows Here sentences line = IsShownAt line_of_statement Here (stated_by sentences) line

abbrev pub MentionShows : (List NameAt → NameAt → Type 0) → List Sentence → ℕ → Type 0
MentionShows Here sentences line = IsShownAt line_at Here (named_by sentences).mentions line

abbrev pub ShowsContrary : Bearer → List Sentence → ℕ → Type 0
ShowsContrary bearer sentences line = ClaimShows (λ before c. IsContrary (values_by bearer (scope_said sentences) before) (told_by bearer (scope_said sentences) c.fact)) sentences line

-- ---- what is refused

-- in the order in which it is looked for
pub data Refusal : Type 0 where
  said_twice : Refusal
  names_nothing : Refusal
  closes_cycle : Refusal
  wrong_kind : Refusal
  stands_twice : Refusal
  one_too_many : Refusal
  roomless : Refusal
  valueless : Refusal

abbrev pub turn_of : Refusal → ℕ
turn_of said_twice = 0
turn_of names_nothing = 1
turn_of closes_cycle = 2
turn_of wrong_kind = 3
turn_of stands_twice = 4
turn_of one_too_many = 5
turn_of roomless = 6
turn_of valueless = 7

abbrev pub code_of : Refusal → FaultCode
code_of said_twice = fault.Twice
code_of names_nothing = fault.UnknownName
code_of closes_cycle = fault.Cycle
code_of wrong_kind = fault.WrongKind
code_of stands_twice = fault.TwoPlaces
code_of one_too_many = fault.TooMany
code_of roomless = fault.NoRoom
code_of valueless = fault.NoValues

-- the sentences show it at this line: a name that stands for two things, a rulebook's that is another's, a second list of values, an object described
-- otherwise than before, another value of an object's property, of a kind's usual one or of a variable; a kind that isn't
-- there, or words that name nothing; a cycle of kinds or of holders; demands on no one path, and what the kinds don't allow;
-- an exit led elsewhere, a second place of an object, a door's rooms told again; an object, a kind or another name that is
-- one too many, or a list of values that is too long; no room, at line 1; a kind of value without values
abbrev pub Shows : List Sentence → Refusal → ℕ → Type 0
Shows sentences said_twice line =
    ClaimShows (λ before c. IsTwice before c.fact) sentences line
    ⊎ (ClaimShows (λ before c. IsBookTwice before c.fact) sentences line
    ⊎ (ClaimShows (λ before c. IsListedTwice before c.fact) sentences line
    ⊎ (StatementShows (IsDescribedAgain (parents_said sentences) (knowns_said sentences)) sentences line
    ⊎ (ShowsContrary Objects sentences line
    ⊎ (ShowsContrary Kinds sentences line
    ⊎ ShowsContrary Variables sentences line)))))
Shows sentences names_nothing line = ClaimShows (λ before c. IsUnknown (scope_said sentences).kinds c.fact) sentences line
Shows sentences closes_cycle line =
    ClaimShows (λ before c. IsCycle (scope_said sentences).kinds before c.fact) sentences line
    ⊎ ClaimShows (λ before c. IsHolderCycle (scope_said sentences).objects before c.fact) sentences line
Shows sentences wrong_kind line =
    ClaimShows (IsOffPath (scope_said sentences)) sentences line
    ⊎ (ClaimShows (λ before c. IsUnsuited (scope_said sentences) (knowns_said sentences) c.fact) sentences line
    ⊎ StatementShows (λ before s. IsWrong (parents_said sentences) (knowns_said sentences) before s.said) sentences line)
Shows sentences stands_twice line =
    StatementShows IsLedElsewhere sentences line
    ⊎ (ClaimShows (λ before c. IsSecond (scope_said sentences).objects before c.fact) sentences line
    ⊎ ClaimShows (λ before c. IsToldAgain before c.fact) sentences line)
Shows sentences one_too_many line =
    MentionShows IsOneTooMany sentences line
    ⊎ (ClaimShows (λ before c. IsKindTooMany before c.fact) sentences line
    ⊎ (ClaimShows (λ before c. IsTooMany sort.EitherOr before c.fact) sentences line
    ⊎ (ClaimShows (λ before c. IsTooMany sort.Number before c.fact) sentences line
    ⊎ (ClaimShows (λ before c. IsTooMany sort.Variable before c.fact) sentences line
    ⊎ (ClaimShows (λ before c. IsTooMany sort.Rulebook before c.fact) sentences line
    ⊎ (ClaimShows (λ before c. IsTooMany sort.Scene before c.fact) sentences line
    ⊎ (ClaimShows (λ before c. IsTooMany sort.ValueKind before c.fact) sentences line
    ⊎ ClaimShows (λ before c. IsListTooLong c.fact) sentences line)))))))
Shows sentences roomless line = HasNoRoom (parents_said sentences) (knowns_said sentences) × (line ≡ 1)
Shows sentences valueless line = ClaimShows (λ before c. IsUnlisted (claims_of sentences) c.fact) sentences line

-- an object's name, a description or any name that is too long
abbrev pub ShowsLong : List Sentence → ℕ → Type 0
ShowsLong sentences line =
    MentionShows (λ before at. IsLongName at.name.text) sentences line
    ⊎ (StatementShows (DescribesAtLength (parents_said sentences) (knowns_said sentences)) sentences line
    ⊎ ClaimShows (λ before c. IsLonger 65535 c.fact) sentences line)

-- ---- what sentences are refused for

-- what they show at the fault's line, and where their lines rise at no lower one; nothing that is looked for before it
pub record IsRefusedFor (sentences : List Sentence) (fault : Fault) : Type 0 where
  pub refusal : Refusal
  pub code : fault.code ≡ code_of refusal
  pub shown : Shows sentences refusal fault.line
  pub lowest : LinesRise (λ s. s.line) sentences → (line : ℕ) → Shows sentences refusal line → fault.line ≤ line
  pub none_before : (earlier : Refusal) (line : ℕ) → turn_of earlier < turn_of refusal → Shows sentences earlier line → ⊥

-- sentences that mean a tale show nothing that is refused, and others are refused for the first that they show
abbrev pub AreJudged : List Sentence → Result Tale Fault → Type 0
AreJudged sentences (Ok tale) = (refusal : Refusal) (line : ℕ) → Shows sentences refusal line → ⊥
AreJudged sentences (Err fault) = IsRefusedFor sentences fault

-- nothing is too long, or something is at this line, and where the sentences' lines rise at no lower one
abbrev pub IsFirstLong : List Sentence → Option ℕ → Type 0
IsFirstLong sentences None = (line : ℕ) → ShowsLong sentences line → ⊥
IsFirstLong sentences (Some line) = ShowsLong sentences line × (LinesRise (λ s. s.line) sentences → (other : ℕ) → ShowsLong sentences other → line ≤ other)
