-- Where no refusal stands, objects have kinds and places of small numbers.
use Rattle.std.proofs.Common.{◌≡◌, ℕ, suc, ◌+◌, ◌≤◌, List, [], ◌∷◌, length, map, Option, sym, ap, ◌∙◌, subst, arith}
use Rattle.std.specs.Prelude.{None}
use Rattle.i7_kinds.specs.Bounds.{AreSmallKnowns, AreWithin}
use Rattle.i7_kinds.specs.Demands.{wrong_kind}
use Rattle.i7_kinds.specs.Doors.{doors_of}
use Rattle.i7_kinds.specs.KindClaims.{declared_by, flags_by, givens_by, kind_names, kind_too_many, numbers_by, parents_of, unknown_kind}
use Rattle.i7_kinds.specs.Knowns.{Scope, kind_of, known_at, knowns_of, off_path}
use Rattle.i7_kinds.specs.Ready.{IsReady}
use Rattle.i7_claims.specs.Scans.{earlier}
use Rattle.i7_claims.specs.Sorts.{name_too_many, names_as, property_names, too_many_as}
use Rattle.i7_kinds.specs.Grants.{built_in_bases, givens_of}
use Rattle.i7_kinds.specs.ValueKinds.{AreFewValues}
use Rattle.i7_kinds.specs.declared.grants.Given.{Given}
use Rattle.i7_claims.specs.declared.sorts.Sort.TheVariants as sort
use Rattle.i7_kinds.proofs.Granting.{flags_counted}
use Rattle.i7_sentences.specs.declared.sentence.Sentence.{Sentence}
use Rattle.i7_claims.specs.Statements.{NameAt, Named, named_by, stated_by, statement_in}
use Rattle.i7_kinds.specs.Suits.{first_room, unsuited}
use Rattle.i7_kinds.specs.Tales.{faults_of, refusal_of, scope_of, scope_with}
use Rattle.i7_claims.specs.declared.claim.Claim.{Claim}
use Rattle.i7_kinds.specs.declared.knowns.Known.{Known}
use Rattle.i7_claims.specs.declared.statements.NumberedSentence.{NumberedSentence}
use Rattle.i7_kinds.proofs.Bounds.{counted-source, earlier_none, frame_parts, lead-within, source-within}
use Rattle.i7_kinds.proofs.Fines.{AreFine, base, kind_few, knowns_counted, knowns_fine}
use Rattle.i7_kinds.proofs.KindScans.{either_ors_few, kind_names_counted, kinds_small, numbers_few, parents_are_kinds, parents_few}
use Rattle.i7_kinds.proofs.Placed.{places_small}
use Rattle.i7_kinds.proofs.Valueless.{kinds_few}
use Rattle.i7_kinds.proofs.Rooted.{number_there}
use Rattle.i7_kinds.proofs.PropertiesKept.{parents_many}

pub fine_of : (claims : List Claim) (keys : List (List ℕ)) → unknown_kind (kind_names claims) claims ≡ None → off_path (scope_of claims keys) claims ≡ None
    → AreFine (parents_of (kind_names claims) claims) (length (parents_of (kind_names claims) claims)) (knowns_of (scope_of claims keys) claims)
fine_of claims keys unknown off =
    let names = kind_names claims in
    knowns_fine (scope_of claims keys) (length (parents_of names claims)) claims (λ kind h. omega (arith, number_there names kind h, kind_names_counted claims, parents_are_kinds names claims)) (parents_many claims) off unknown

small_kinds : (knowns : List Known) → ((o : ℕ) → kind_of (known_at knowns o) ≤ 100) → AreSmallKnowns knowns
small_kinds [] h = tt
small_kinds (known ∷ knowns) h = (h 0, small_kinds knowns (λ o. h (suc o)))

kinds_are_small : (parents : List (Option ℕ)) (knowns : List Known) → 10 ≤ length parents → length parents ≤ 100 → AreFine parents (length parents) knowns → AreSmallKnowns knowns
kinds_are_small parents knowns many few fine =
    small_kinds knowns (λ o. let lt = kind_few parents (length parents) (base o) (known_at knowns o).demanded (known_at knowns o).holds many (fine o) in omega (arith, lt, few))

-- where no either-or property is one too many
flags_few : (claims : List Claim) → name_too_many claims ≡ None → length (declared_by claims).flags ≤ 100
flags_few claims many =
    let sorts = earlier_none (too_many_as sort.EitherOr claims) _ many in
    let counted = flags_counted (parents_of (kind_names claims) claims) (parents_many claims) (givens_by claims) 0 built_in_bases (names_as sort.EitherOr claims) in
    omega (arith, counted, either_ors_few claims sorts.0)

-- nor a number property
sorts_few : (claims : List Claim) → name_too_many claims ≡ None → length (declared_by claims).numbers ≤ 100
sorts_few claims many =
    let sorts = earlier_none (too_many_as sort.EitherOr claims) _ many in
    let numbers = earlier_none (too_many_as sort.Number claims) _ sorts.1 in
    let counted = flags_counted (parents_of (kind_names claims) claims) (parents_many claims) (givens_by claims) (length (flags_by claims)) [] (names_as sort.Number claims) in
    omega (arith, counted, numbers_few claims numbers.0)

-- nor a list of values is too long
values_few : (claims : List Claim) → name_too_many claims ≡ None → AreFewValues (declared_by claims).values
values_few claims many =
    let sorts = earlier_none (too_many_as sort.EitherOr claims) _ many in
    let numbers = earlier_none (too_many_as sort.Number claims) _ sorts.1 in
    let variables = earlier_none (too_many_as sort.Variable claims) _ numbers.1 in
    let books = earlier_none (too_many_as sort.Rulebook claims) _ variables.1 in
    let scenes = earlier_none (too_many_as sort.Scene claims) _ books.1 in
    let kinds = earlier_none (too_many_as sort.ValueKind claims) _ scenes.1 in
    kinds_few (parents_of (kind_names claims) claims) (givens_by claims) (length (flags_by claims) + length (numbers_by claims)) claims (names_as sort.ValueKind claims) kinds.1

ready : (claims : List Claim) (keys : List (List ℕ)) (statements : List NumberedSentence) (mentions : List NameAt) → AreWithin (length keys) statements → length keys ≡ 13 + length mentions
    → refusal_of (scope_of claims keys) (knowns_of (scope_of claims keys) claims) claims statements mentions ≡ None → IsReady (scope_of claims keys) (knowns_of (scope_of claims keys) claims) claims statements
ready claims keys statements mentions within counted none =
    let s = scope_of claims keys in
    let knowns = knowns_of s claims in
    let faults = faults_of s knowns claims statements in
    let room = first_room s.parents knowns in
    let fine = frame_parts faults mentions room none in
    let off = earlier_none (off_path s claims) (earlier (unsuited s knowns claims) (wrong_kind s.parents knowns statements)) fine.wrong in
    let many = earlier_none (kind_too_many claims) (name_too_many claims) fine.too_many in
    let few : length keys ≤ 1000 = omega (arith, counted, fine.few) in
    let known : length knowns ≡ 13 + length mentions = knowns_counted s claims (length mentions) counted in
    record {
      within = lead-within (length keys) statements few within;
      few_kinds = kinds_small claims many.0;
      few_declared = kinds_small claims many.0;
      short = parents_few claims many.0;
      few_flags = flags_few claims many.1;
      few_numbers = sorts_few claims many.1;
      few_values = values_few claims many.1;
      small_kinds = kinds_are_small s.parents knowns (parents_many claims) (parents_few claims many.0) (fine_of claims keys fine.unknown off.0);
      small_places = places_small keys claims s.parents knowns few (omega (arith, known)) (omega (arith, known, fine.few));
    }

ready_by : (s : Scope) (claims : List Claim) (statements : List NumberedSentence) (mentions : List NameAt) → s ≡ scope_of claims s.objects → AreWithin (length s.objects) statements → length s.objects ≡ 13 + length mentions
    → refusal_of s (knowns_of s claims) claims statements mentions ≡ None → IsReady s (knowns_of s claims) claims statements
ready_by s claims statements mentions same within counted =
    subst (λ (x : Scope). refusal_of x (knowns_of x claims) claims statements mentions ≡ None → IsReady x (knowns_of x claims) claims statements) (sym same) (ready claims s.objects statements mentions within counted)

-- by what is equal to the statements and to what is known
pub ready_at : (s : Scope) (claims : List Claim) (statements stated : List NumberedSentence) (mentions : List NameAt) (knowns : List Known) → stated ≡ statements → knowns ≡ knowns_of s claims → s ≡ scope_of claims s.objects → AreWithin (length s.objects) statements
    → length s.objects ≡ 13 + length mentions → refusal_of s knowns claims stated mentions ≡ None → IsReady s knowns claims stated
ready_at s claims statements stated mentions knowns same_statements same_knowns same within counted none =
    subst (λ (k : List Known). refusal_of s k claims stated mentions ≡ None → IsReady s k claims stated) (sym same_knowns)
    (subst (λ (w : List NumberedSentence). refusal_of s (knowns_of s claims) claims w mentions ≡ None → IsReady s (knowns_of s claims) claims w) (sym same_statements) (ready_by s claims statements mentions same within counted))
    none

-- the names and the statements of a source
pub named_within : (sentences : List Sentence) (named : Named) → named ≡ named_by sentences → AreWithin (length named.keys) (map (statement_in named) sentences)
named_within sentences named same = subst (λ (n : Named). AreWithin (length n.keys) (map (statement_in n) sentences)) (sym same) (source-within sentences)

pub named_counted : (sentences : List Sentence) (named : Named) → named ≡ named_by sentences → length named.keys ≡ 13 + length named.mentions
named_counted sentences named same = subst (λ (n : Named). length n.keys ≡ 13 + length n.mentions) (sym same) (counted-source sentences)

-- ---- from the code's names to the sentences'

pub scope_same : (s : Scope) (kinds : List (List ℕ)) (parents : List (Option ℕ)) (claims : List Claim) (objects keys properties : List (List ℕ)) (givens : List Given) (doors variables : List (List ℕ))
    → s ≡ record { objects = objects; kinds = kinds; parents = parents; properties = properties; givens = givens; doors = doors; variables = variables } → objects ≡ keys → properties ≡ property_names claims → givens ≡ givens_of properties kinds claims → doors ≡ doors_of kinds parents claims → variables ≡ names_as sort.Variable claims
    → s ≡ scope_with kinds parents claims keys
scope_same s kinds parents claims objects keys properties givens doors variables h o p g d v =
    let given = g ∙ ap (λ (ps : List (List ℕ)). givens_of ps kinds claims) p in
    h ∙ (λ i. record { objects = o i; kinds = kinds; parents = parents; properties = p i; givens = given i; doors = d i; variables = v i })

pub scope_meant : (s : Scope) (kinds : List (List ℕ)) (parents : List (Option ℕ)) (claims : List Claim) (keys : List (List ℕ)) → s ≡ scope_with kinds parents claims keys → kinds ≡ kind_names claims → parents ≡ parents_of kinds claims → s ≡ scope_of claims s.objects
scope_meant s kinds parents claims keys h named above =
    h
    ∙ ap (scope_with kinds parents claims) (sym (ap (λ (x : Scope). x.objects) h))
    ∙ ap (λ (ps : List (Option ℕ)). scope_with kinds ps claims s.objects) above
    ∙ ap (λ (names : List (List ℕ)). scope_with names (parents_of names claims) claims s.objects) named

-- by what is equal to the scope, the statements and the mentions of sentences
pub said_same : {A : Type 0} (of : Scope → List NumberedSentence → List NameAt → A) (kinds : List (List ℕ)) (parents : List (Option ℕ)) (claims : List Claim) (sentences : List Sentence) (s : Scope) (statements : List NumberedSentence) (mentions : List NameAt) (named : Named)
    → named ≡ named_by sentences → s ≡ scope_with kinds parents claims named.keys → statements ≡ map (statement_in named) sentences → mentions ≡ named.mentions
    → of s statements mentions ≡ of (scope_with kinds parents claims (named_by sentences).keys) (stated_by sentences) (named_by sentences).mentions
said_same of kinds parents claims sentences s statements mentions named same scope stated mentioned =
    let of_names = λ (n : Named). of (scope_with kinds parents claims n.keys) (map (statement_in n) sentences) n.mentions in
    (λ i. of (scope i) (stated i) (mentioned i)) ∙ ap of_names same

pub said_above : {A : Type 0} (of : List (List ℕ) → List (Option ℕ) → A) (claims : List Claim) (kinds : List (List ℕ)) (parents : List (Option ℕ)) → kinds ≡ kind_names claims → parents ≡ parents_of kinds claims
    → of kinds parents ≡ of (kind_names claims) (parents_of (kind_names claims) claims)
said_above of claims kinds parents named above = ap (of kinds) above ∙ ap (λ (names : List (List ℕ)). of names (parents_of names claims)) named
