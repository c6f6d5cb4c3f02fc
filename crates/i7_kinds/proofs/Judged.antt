-- Sentences that mean a tale show nothing that is refused, and others are refused for the first that they show.
use Rattle.std.proofs.Common.{◌≡◌, ℕ, zero, suc, ◌+◌, ◌≤◌, ◌<◌, min, List, Option, refl, sym, ap, ◌∙◌, subst, arith, inl, inr, ◌⊎◌, ⊎_elim}
use Rattle.std.specs.Prelude.{Some, None}
use Rattle.std.proofs.lemmas.Bool.{cases_lt}
use Rattle.world_meaning.specs.declared.fault.Fault.{Fault}
use Rattle.world_meaning.specs.declared.needs.Needs.{Needs}
use Rattle.world_meaning.specs.declared.tale.Tale.{Tale}
use Rattle.i7_sentences.specs.declared.sentence.Sentence.{Sentence}
use Rattle.i7_claims.specs.Claims.{claims_of}
use Rattle.i7_claims.specs.Firsts.{first_of}
use Rattle.i7_claims.specs.Scans.{IsLowest, earlier}
use Rattle.i7_claims.specs.Statements.{NameAt, named_by, stated_by}
use Rattle.i7_claims.specs.declared.statements.NumberedSentence.{NumberedSentence}
use Rattle.i7_claims.specs.declared.sorts.Sort.TheVariants as sort
use Rattle.i7_claims.proofs.Firsts.{first_none}
use Rattle.i7_claims.proofs.BookScans.{book_lowest}
use Rattle.i7_claims.proofs.NameScans.{name_lowest}
use Rattle.i7_claims.proofs.ListScans.{list_lowest}
use Rattle.i7_claims.proofs.SortScans.{lists_lowest, too_many_lowest}
use Rattle.i7_kinds.specs.Actions.{actions_said, with_actions}
use Rattle.i7_kinds.specs.Demands.{line_at, line_of_statement}
use Rattle.i7_kinds.specs.FirstShown.{IsFound, IsShownAt}
use Rattle.i7_lexer.specs.Rising.{LinesRise}
use Rattle.i7_kinds.specs.Judged.{AreJudged, IsRefusedFor, Refusal, said_twice, names_nothing, closes_cycle, wrong_kind, stands_twice, one_too_many, roomless, valueless, IsFirstLong, Shows, ShowsLong, code_of, knowns_said, parents_said, scope_said, turn_of}
use Rattle.i7_kinds.specs.RefusalsShown.{IsRefusedRoomless}
use Rattle.i7_kinds.specs.Suits.{first_room}
use Rattle.i7_kinds.specs.Tales.{faults_of, frame_refusal, long_in, long_said, no_room, object_too_many, or_refused, refusal_at, refusal_of, tale_said}
use Rattle.i7_kinds.specs.declared.faults.Faults.{Faults}
use Rattle.i7_kinds.specs.declared.values.Bearer.TheVariants.{Objects, Kinds, Variables}
use Rattle.i7_kinds.proofs.DescribedAgain.{again_found}
use Rattle.i7_kinds.proofs.DoorScans.{again_lowest}
use Rattle.i7_kinds.proofs.KindScans.{cycle_lowest, kind_count_lowest, unknown_lowest}
use Rattle.i7_kinds.proofs.LedElsewhere.{elsewhere_found}
use Rattle.i7_kinds.proofs.LimitsShown.{long_name_found, long_text_found, one_too_many_found, roomless_refused}
use Rattle.i7_kinds.proofs.LinesRise.{statements_rise}
use Rattle.i7_kinds.proofs.LongNames.{longer_lowest}
use Rattle.i7_kinds.proofs.OffPath.{built_in_named, off_lowest}
use Rattle.i7_kinds.proofs.PlaceScans.{holder_cycle_lowest, second_lowest}
use Rattle.i7_kinds.proofs.Valueless.{unlisted_lowest}
use Rattle.i7_kinds.proofs.ValueScans.{contrary_lowest}
use Rattle.i7_kinds.proofs.WrongKinds.{unsuited_lowest, wrong_found}

-- ---- lowest lines, where lines rise

module _ (Rise : Type 0) where
  -- no line shows it, or this one does, and no lower one if lines rise
  LowestIf : (ℕ → Type 0) → Option ℕ → Type 0
  LowestIf Shown None = (line : ℕ) → Shown line → ⊥
  LowestIf Shown (Some l) = Shown l × (Rise → (line : ℕ) → Shown line → l ≤ line)

  if_lowest : (Shown : ℕ → Type 0) (found : Option ℕ) → IsLowest Shown found → LowestIf Shown found
  unfolding LowestIf
  if_lowest Shown None h = h
  if_lowest Shown (Some l) h = (h.0, λ rise. h.1)

  if_found : {A : Type 0} (line_of : A → ℕ) (Here : List A → A → Type 0) (items : List A) (found : Option ℕ) → (Rise → LinesRise line_of items) → IsFound line_of Here items found
      → LowestIf (IsShownAt line_of Here items) found
  unfolding LowestIf
  if_found line_of Here items None rise h = λ line s. h.first s.0
  if_found line_of Here items (Some l) rise h = ((h.first.first, h.first.on), λ r. (h.lowest (rise r)).1)

  either_if : (P Q : ℕ → Type 0) (a b : Option ℕ) → LowestIf P a → LowestIf Q b → LowestIf (λ line. P line ⊎ Q line) (earlier a b)
  unfolding LowestIf
  either_if P Q None None p q = λ line s. ⊎_elim (p line) (q line) s
  either_if P Q None (Some l) p q = (inr q.0, λ rise line s. ⊎_elim (λ x. absurd (p line x)) (q.1 rise line) s)
  either_if P Q (Some l) None p q = (inl p.0, λ rise line s. ⊎_elim (p.1 rise line) (λ x. absurd (q line x)) s)
  either_if P Q (Some k) (Some l) p q = (
    ⊎_elim
        (λ lt. let e : min k l ≡ k = omega (arith, lt) in inl (subst P (sym e) p.0))
        (λ le. let e : min k l ≡ l = omega (arith, le) in inr (subst Q (sym e) q.0))
        (cases_lt k l),
    λ rise line s. ⊎_elim (λ x. let le : k ≤ line = p.1 rise line x in omega (arith, le)) (λ x. let le : l ≤ line = q.1 rise line x in omega (arith, le)) s,
  )

-- ---- one refusal after the other

at_turn : ℕ → Refusal
at_turn zero = said_twice
at_turn (suc zero) = names_nothing
at_turn (suc (suc zero)) = closes_cycle
at_turn (suc (suc (suc zero))) = wrong_kind
at_turn (suc (suc (suc (suc zero)))) = stands_twice
at_turn (suc (suc (suc (suc (suc zero))))) = one_too_many
at_turn (suc (suc (suc (suc (suc (suc zero)))))) = roomless
at_turn _ = valueless

turn_back : (r : Refusal) → at_turn (turn_of r) ≡ r
unfolding at_turn
turn_back said_twice = refl
turn_back names_nothing = refl
turn_back closes_cycle = refl
turn_back wrong_kind = refl
turn_back stands_twice = refl
turn_back one_too_many = refl
turn_back roomless = refl
turn_back valueless = refl

same_turn : (a b : Refusal) → turn_of a ≡ turn_of b → a ≡ b
same_turn a b e = sym (turn_back a) ∙ ap at_turn e ∙ turn_back b

turns_end : (r : Refusal) → turn_of r < 8
turns_end said_twice = omega arith
turns_end names_nothing = omega arith
turns_end closes_cycle = omega arith
turns_end wrong_kind = omega arith
turns_end stands_twice = omega arith
turns_end one_too_many = omega arith
turns_end roomless = omega arith
turns_end valueless = omega arith

module _ (sentences : List Sentence) (Rise : Type 0) where
  -- what refuses sentences that show nothing that is looked for before this turn
  JudgedFrom : ℕ → Option Fault → Type 0
  JudgedFrom turn None = (r : Refusal) (line : ℕ) → turn ≤ turn_of r → Shows sentences r line → ⊥
  JudgedFrom turn (Some f) = (r : Refusal) × (turn ≤ turn_of r) × (f.code ≡ code_of r) × Shows sentences r f.line × (Rise → (line : ℕ) → Shows sentences r line → f.line ≤ line)
      × ((other : Refusal) (line : ℕ) → turn ≤ turn_of other → turn_of other < turn_of r → Shows sentences other line → ⊥)

  this_or_later : (r other : Refusal) → turn_of r ≤ turn_of other → (other ≡ r) ⊎ (turn_of r + 1 ≤ turn_of other)
  this_or_later r other le =
      ⊎_elim
      (λ lt. inr (omega (arith, lt)))
      (λ more. let same : turn_of other ≡ turn_of r = omega (arith, le, more) in inl (same_turn other r same))
      (cases_lt (turn_of r) (turn_of other))

  one_turn : (r : Refusal) (found : Option ℕ) (next : Option Fault) → LowestIf Rise (Shows sentences r) found → JudgedFrom (turn_of r + 1) next
      → JudgedFrom (turn_of r) (first_of (refusal_at (code_of r) found) next)
  unfolding LowestIf JudgedFrom
  one_turn r (Some line) next h later = (r, omega arith, refl, h.0, h.1, λ other at le lt shown. absurd (omega (arith, le, lt)))
  one_turn r None None h later = λ other line le shown.
      ⊎_elim (λ same. h line (subst (λ (x : Refusal). Shows sentences x line) same shown)) (λ more. later other line more shown) (this_or_later r other le)
  one_turn r None (Some f) h later = (
    later.0,
    omega (arith, later.1),
    later.2,
    later.3,
    later.4,
    λ other line le lt shown. ⊎_elim (λ same. h line (subst (λ (x : Refusal). Shows sentences x line) same shown)) (λ more. later.5 other line more lt shown) (this_or_later r other le),
  )

  no_turn : JudgedFrom 8 None
  unfolding JudgedFrom
  no_turn = λ r line le shown. absurd (omega (arith, le, turns_end r))

  judged_as : (refusal : Option Fault) (actions : List Needs) (untold : Tale) → (LinesRise (λ (s : Sentence). s.line) sentences → Rise) → JudgedFrom 0 refusal
      → AreJudged sentences (with_actions actions (or_refused refusal untold))
  unfolding JudgedFrom
  judged_as None actions untold rises h = λ r line shown. h r line (omega arith) shown
  judged_as (Some f) actions untold rises h = record {
    refusal = h.0;
    code = h.2;
    shown = h.3;
    lowest = λ rise. h.4 (rises rise);
    none_before = λ earlier line lt shown. h.5 earlier line (omega arith) lt shown;
  }

-- ---- the refusals of sentences

module _ (sentences : List Sentence) where
  abbrev Rise : Type 0
  Rise = LinesRise (λ (s : Sentence). s.line) sentences

  abbrev all_faults : Faults
  all_faults = faults_of (scope_said sentences) (knowns_said sentences) (claims_of sentences) (stated_by sentences)

  statement_if : (Here : List NumberedSentence → NumberedSentence → Type 0) (found : Option ℕ) → IsFound line_of_statement Here (stated_by sentences) found
      → LowestIf Rise (IsShownAt line_of_statement Here (stated_by sentences)) found
  statement_if Here found h = if_found Rise line_of_statement Here (stated_by sentences) found (λ rise. (statements_rise sentences rise).0) h

  mention_if : (Here : List NameAt → NameAt → Type 0) (found : Option ℕ) → IsFound line_at Here (named_by sentences).mentions found
      → LowestIf Rise (IsShownAt line_at Here (named_by sentences).mentions) found
  mention_if Here found h = if_found Rise line_at Here (named_by sentences).mentions found (λ rise. (statements_rise sentences rise).1) h

  twice_if : LowestIf Rise (Shows sentences said_twice) all_faults.twice
  twice_if =
      let s = scope_said sentences in
      let claims = claims_of sentences in
      either_if Rise _ _ _ _ (if_lowest Rise _ _ (name_lowest claims))
      (either_if Rise _ _ _ _ (if_lowest Rise _ _ (book_lowest claims))
      (either_if Rise _ _ _ _ (if_lowest Rise _ _ (list_lowest claims))
      (either_if Rise _ _ _ _ (statement_if _ _ (again_found s.parents (knowns_said sentences) (stated_by sentences)))
      (either_if Rise _ _ _ _ (if_lowest Rise _ _ (contrary_lowest Objects s claims))
      (either_if Rise _ _ _ _ (if_lowest Rise _ _ (contrary_lowest Kinds s claims)) (if_lowest Rise _ _ (contrary_lowest Variables s claims)))))))

  unknown_if : LowestIf Rise (Shows sentences names_nothing) all_faults.unknown
  unknown_if = if_lowest Rise _ _ (unknown_lowest (scope_said sentences).kinds (claims_of sentences))

  cycle_if : LowestIf Rise (Shows sentences closes_cycle) all_faults.cycle
  cycle_if =
      let s = scope_said sentences in
      let claims = claims_of sentences in
      either_if Rise _ _ _ _ (if_lowest Rise _ _ (cycle_lowest s.kinds claims)) (if_lowest Rise _ _ (holder_cycle_lowest s.objects claims))

  wrong_if : LowestIf Rise (Shows sentences wrong_kind) all_faults.wrong
  wrong_if =
      let s = scope_said sentences in
      let claims = claims_of sentences in
      let knowns = knowns_said sentences in
      either_if Rise _ _ _ _ (if_lowest Rise _ _ (off_lowest s (built_in_named sentences) claims))
      (either_if Rise _ _ _ _ (if_lowest Rise _ _ (unsuited_lowest s knowns claims)) (statement_if _ _ (wrong_found s.parents knowns (stated_by sentences))))

  second_if : LowestIf Rise (Shows sentences stands_twice) all_faults.second
  second_if =
      let claims = claims_of sentences in
      either_if Rise _ _ _ _ (statement_if _ _ (elsewhere_found (stated_by sentences)))
      (either_if Rise _ _ _ _ (if_lowest Rise _ _ (second_lowest (scope_said sentences).objects claims)) (if_lowest Rise _ _ (again_lowest claims)))

  too_many_if : LowestIf Rise (Shows sentences one_too_many) (earlier (object_too_many (named_by sentences).mentions) all_faults.too_many)
  too_many_if =
      let claims = claims_of sentences in
      either_if Rise _ _ _ _ (mention_if _ _ (one_too_many_found (named_by sentences).mentions))
      (either_if Rise _ _ _ _ (if_lowest Rise _ _ (kind_count_lowest claims))
      (either_if Rise _ _ _ _ (if_lowest Rise _ _ (too_many_lowest sort.EitherOr claims))
      (either_if Rise _ _ _ _ (if_lowest Rise _ _ (too_many_lowest sort.Number claims))
      (either_if Rise _ _ _ _ (if_lowest Rise _ _ (too_many_lowest sort.Variable claims))
      (either_if Rise _ _ _ _ (if_lowest Rise _ _ (too_many_lowest sort.Rulebook claims))
      (either_if Rise _ _ _ _ (if_lowest Rise _ _ (too_many_lowest sort.Scene claims))
      (either_if Rise _ _ _ _ (if_lowest Rise _ _ (too_many_lowest sort.ValueKind claims)) (if_lowest Rise _ _ (lists_lowest claims)))))))))

  roomless_at : (found : Option ℕ) → IsRefusedRoomless (parents_said sentences) (knowns_said sentences) found → LowestIf Rise (Shows sentences roomless) found
  unfolding LowestIf
  roomless_at None h = λ line shown. h shown.0
  roomless_at (Some l) h = (h, λ rise line shown. omega (arith, h.1, shown.1))

  roomless_if : LowestIf Rise (Shows sentences roomless) (no_room (first_room (parents_said sentences) (knowns_said sentences)))
  roomless_if = roomless_at _ (roomless_refused (parents_said sentences) (knowns_said sentences))

  valueless_if : LowestIf Rise (Shows sentences valueless) all_faults.unlisted
  valueless_if = if_lowest Rise _ _ (unlisted_lowest (claims_of sentences))

  first_long : (found : Option ℕ) → LowestIf Rise (ShowsLong sentences) found → IsFirstLong sentences found
  unfolding LowestIf
  first_long None h = h
  first_long (Some line) h = h

  pub long_found : IsFirstLong sentences (long_said sentences)
  unfolding long_in
  long_found =
      first_long _
      (either_if Rise _ _ _ _ (mention_if _ _ (long_name_found (named_by sentences).mentions))
      (either_if Rise _ _ _ _ (statement_if _ _ (long_text_found (parents_said sentences) (knowns_said sentences) (stated_by sentences)))
      (if_lowest Rise _ _ (longer_lowest 65535 (claims_of sentences)))))

  abbrev all_too_many : Option ℕ
  all_too_many = earlier (object_too_many (named_by sentences).mentions) all_faults.too_many

  abbrev none_room : Option ℕ
  none_room = no_room (first_room (parents_said sentences) (knowns_said sentences))

  abbrev the_refusal : Option Fault
  the_refusal = refusal_of (scope_said sentences) (knowns_said sentences) (claims_of sentences) (stated_by sentences) (named_by sentences).mentions

  judged_refusal : JudgedFrom sentences Rise 0 the_refusal
  unfolding frame_refusal
  judged_refusal =
      one_turn sentences Rise said_twice _ _ twice_if
      (one_turn sentences Rise names_nothing _ _ unknown_if
      (one_turn sentences Rise closes_cycle _ _ cycle_if
      (one_turn sentences Rise wrong_kind _ _ wrong_if
      (one_turn sentences Rise stands_twice _ _ second_if
      (one_turn sentences Rise one_too_many _ _ too_many_if
      (one_turn sentences Rise roomless _ _ roomless_if
      (subst (λ (f : Option Fault). JudgedFrom sentences Rise 7 f) (first_none (refusal_at (code_of valueless) all_faults.unlisted))
      (one_turn sentences Rise valueless _ _ valueless_if (no_turn sentences Rise)))))))))

  pub judged : AreJudged sentences (tale_said sentences)
  judged = judged_as sentences Rise the_refusal (actions_said sentences) _ (λ rise. rise) judged_refusal

-- ---- no two refusals

same_fault : (a b : Fault) → a.code ≡ b.code → a.line ≡ b.line → a ≡ b
same_fault a b p q = λ i. record { code = p i; line = q i }

-- sentences whose lines rise are refused in one way alone
pub one_refusal : (sentences : List Sentence) → LinesRise (λ (s : Sentence). s.line) sentences → (a b : Fault) → IsRefusedFor sentences a → IsRefusedFor sentences b → a ≡ b
one_refusal sentences rise a b p q =
    ⊎_elim
    (λ lt. absurd (q.none_before p.refusal a.line lt p.shown))
    (λ le. ⊎_elim
    (λ lt. absurd (p.none_before q.refusal b.line lt q.shown))
    (λ more.
    let turns : turn_of p.refusal ≡ turn_of q.refusal = omega (arith, le, more) in
    let same : p.refusal ≡ q.refusal = same_turn p.refusal q.refusal turns in
    let one : a.line ≤ b.line = p.lowest rise b.line (subst (λ (r : Refusal). Shows sentences r b.line) (sym same) q.shown) in
    let other : b.line ≤ a.line = q.lowest rise a.line (subst (λ (r : Refusal). Shows sentences r a.line) same p.shown) in
    same_fault a b (p.code ∙ ap code_of same ∙ sym q.code) (omega arith))
    (cases_lt (turn_of q.refusal) (turn_of p.refusal)))
    (cases_lt (turn_of p.refusal) (turn_of q.refusal))
