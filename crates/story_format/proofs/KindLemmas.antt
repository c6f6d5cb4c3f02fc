-- What is told of each kind is what objects of the kind have.
use Rattle.std.proofs.Common.{◌≡◌, ℕ, zero, suc, ◌+◌, ◌<◌, ◌≤◌, Bool, true, ◌&&◌, ◌||◌, ltb, leb, eqb, List, [], ◌∷◌, length, Option, Some, None, refl, sym, ap, ◌∙◌, arith, inl, inr}
use Rattle.std.specs.Prelude.{count_by, slice_get}
use Rattle.std.specs.List.{list_all}
use Rattle.std.specs.Option.{option_map}
use Rattle.std.proofs.lemmas.Bool.{ltb-true, cases_Bool, and_parts}
use Rattle.std.proofs.lemmas.Option.{slice_get-map}
use Rattle.world_meaning.specs.Declarations.{are_right_kinds, are_right_grants, are_rising, begin_with_properties, count_of_numbers, has_properties, has_property, is_had, is_had_at}
use Rattle.world_meaning.specs.Properties.{built_in_properties}
use Rattle.world_meaning.specs.Sorts.{is_at}
use Rattle.world_meaning.specs.declared.declared.Granted.{Granted}
use Rattle.story_format.specs.declared.row.Sizes.{Sizes}
use Rattle.story_format.specs.declared.tables.Entry.{Entry}
use Rattle.story_format.specs.declared.tables.Tables.{Tables}
use Rattle.story_format.specs.declared.world_tables.WorldTables.{WorldTables}
use Rattle.story_format.specs.Checks.{is_right_frame}
use Rattle.story_format.specs.Counts.{counts_of}
use Rattle.story_format.specs.RuleChecks.{are_right_rules}
use Rattle.story_format.specs.KindTables.{all_had, count_told, had_by, had_from, is_told, is_told_had, suits_told}
use Rattle.story_format.specs.Placed.{is_place}
use Rattle.story_format.specs.Sizes.{are_different, is_right_entry}
use Rattle.story_format.specs.WorldChecks.{is_right_world, suits_kind}
use Rattle.story_format.proofs.DeclaredLemmas.{few_kinds}
use Rattle.story_format.proofs.EntryLemmas.{counted_more, counted_same}
use Rattle.story_format.proofs.StoryLemmas.{four, last_of_five}

told_from : (parents : List (Option ℕ)) (g : Granted) (k : ℕ) (left : List (Option ℕ)) (i n : ℕ) → k + i ≡ n → i < length left → is_at (had_from parents g k left) i ≡ is_had parents n g
told_from parents g k [] i n e lt = absurd (omega (arith, lt))
told_from parents g k (x ∷ left) zero n e lt = let same : k ≡ n = omega (arith, e) in ap (λ (j : ℕ). is_had parents j g) same
told_from parents g k (x ∷ left) (suc i) n e lt = told_from parents g (k + 1) left i n (omega (arith, e)) (omega (arith, lt))

told_by : (parents : List (Option ℕ)) (g : Granted) (kind : ℕ) → kind < length parents → is_at (had_by parents g) kind ≡ is_had parents kind g
told_by parents g kind lt = told_from parents g 0 parents kind kind (omega arith) lt

told_at : (parents : List (Option ℕ)) (kind : ℕ) → kind < length parents → (found : Option Granted) → is_told (option_map (had_by parents) found) kind ≡ is_had_at parents kind found
told_at parents kind lt None = refl
told_at parents kind lt (Some g) = told_by parents g kind lt

told_had : (parents : List (Option ℕ)) (flags : List Granted) (kind n : ℕ) → kind < length parents → is_told_had (all_had parents flags) kind n ≡ has_property parents flags kind n
told_had parents flags kind n lt = ap (λ (found : Option (List Bool)). is_told found kind) (slice_get-map (had_by parents) flags n) ∙ told_at parents kind lt (slice_get flags n)

all_alike : {A : Type 0} (p q : A → Bool) → ((x : A) → p x ≡ q x) → (xs : List A) → list_all p xs ≡ list_all q xs
all_alike p q same [] = refl
all_alike p q same (x ∷ xs) = ap (λ b. b && list_all p xs) (same x) ∙ ap (λ b. q x && b) (all_alike p q same xs)

counted_told : (parents : List (Option ℕ)) (numbers : List Granted) (kind : ℕ) → kind < length parents → count_told (all_had parents numbers) kind ≡ count_by (is_had parents kind) numbers
counted_told parents [] kind lt = refl
counted_told parents (g ∷ numbers) kind lt =
    let later = counted_told parents numbers kind lt in
    let told : List Bool → Bool = λ had. is_at had kind in
    elim (cases_Bool (is_had parents kind g)) [
      | inl is ↦ counted_more told (had_by parents g) (all_had parents numbers) (told_by parents g kind lt ∙ is) ∙ ap suc later ∙ sym (counted_more (is_had parents kind) g numbers is)
      | inr isnt ↦ counted_same told (had_by parents g) (all_had parents numbers) (told_by parents g kind lt ∙ isnt) ∙ later ∙ sym (counted_same (is_had parents kind) g numbers isnt)
    ]

one_told : (w : WorldTables) (e : Entry) → e.kind < length w.kinds → suits_told (all_had w.kinds w.flags) (all_had w.kinds w.numbers) e ≡ suits_kind w e
unfolding suits_kind has_properties count_of_numbers
one_told w e lt =
    let flags = all_alike (is_told_had (all_had w.kinds w.flags) e.kind) (has_property w.kinds w.flags e.kind) (λ n. told_had w.kinds w.flags e.kind n lt) e.properties in
    let count = counted_told w.kinds w.numbers e.kind lt in
    ap (λ b. (are_rising 0 e.properties && b) && eqb (length e.numbers) (count_told (all_had w.kinds w.numbers) e.kind)) flags
    ∙ ap (λ n. (are_rising 0 e.properties && list_all (has_property w.kinds w.flags e.kind) e.properties) && eqb (length e.numbers) n) count

pub entry_kind : (sizes : Sizes) (e : Entry) → is_right_entry sizes e ≡ true → e.kind < sizes.kinds
unfolding is_right_entry
entry_kind sizes e h =
    let kind = ltb e.kind sizes.kinds in
    let article = leb e.article 3 in
    let code = eqb e.description 65535 || ltb e.description sizes.codes in
    let few = leb (length e.words) 32 in
    let t = and_parts (kind && article && code && few && are_different e.words) (is_place e) h in
    ltb-true _ _ (last_of_five kind article code few (are_different e.words) t.0).0

pub all_told : (sizes : Sizes) (w : WorldTables) (es : List Entry) → sizes.kinds ≡ length w.kinds → list_all (is_right_entry sizes) es ≡ true → list_all (suits_told (all_had w.kinds w.flags) (all_had w.kinds w.numbers)) es ≡ list_all (suits_kind w) es
all_told sizes w [] same h = refl
all_told sizes w (e ∷ es) same h =
    let t = and_parts (is_right_entry sizes e) (list_all (is_right_entry sizes) es) h in
    let told = suits_told (all_had w.kinds w.flags) (all_had w.kinds w.numbers) in
    ap (λ b. b && list_all told es) (one_told w e (omega (arith, same, entry_kind sizes e t.0))) ∙ ap (λ b. suits_kind w e && b) (all_told sizes w es same t.1)

pub frame_few : (t : Tables) → is_right_frame t ≡ true → length t.world.kinds ≤ 100
unfolding is_right_frame is_right_world
frame_few t h =
    let p = four (is_right_world t.world) (are_right_rules (counts_of t) t.rules) (leb (length t.objects) 1000) (ltb (length t.strings) 65535) h in
    let kinds = t.world.kinds in
    let q =
    last_of_five (are_right_kinds kinds) (begin_with_properties t.world.flags built_in_properties) (are_right_grants (length kinds) t.world.flags) (are_right_grants (length kinds) t.world.numbers) (leb (length t.world.variables) 100) p.0 in
    few_kinds kinds q.0
