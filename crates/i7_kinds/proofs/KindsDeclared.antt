-- Sentences that declare claim just that, and others claim of names only that they are objects'; so in a source where no
-- name stands for two things each kind is declared once.
use Rattle.std.proofs.Common.{◌+◌, ◌≡◌, ℕ, ℤ, zero, suc, Bool, true, false, cond, ◌||◌, List, [], ◌∷◌, ◌++◌, map, Option, refl, sym, ap, ◌∙◌, subst, inl, inr, ◌⊎◌, ⊎_elim, true≢false}
use Rattle.std.specs.Prelude.{Some, None, bytes_eq, codes, flat_map, is_some, slice_get}
use Rattle.std.proofs.lemmas.List.Folds.{list_any-append}
use Rattle.std.proofs.lemmas.Slice.Eq.{bytes_eq-Decides}
use Rattle.std.proofs.lemmas.Bool.{or_cases, cases_Bool}
use Rattle.std.proofs.Math.Bool.{or-false}
use Rattle.world_meaning.specs.declared.place.Rel.{Rel}
use Rattle.world_meaning.specs.declared.place.Rel.TheVariants.{In, On, Carried, Worn, Part}
use Rattle.object_words.specs.Mentions.{mention}
use Rattle.i7_sentences.specs.declared.name.Name.{Name}
use Rattle.i7_sentences.specs.declared.sentence.Assertion.{Assertion}
use Rattle.i7_sentences.specs.declared.sentence.Assertion.TheVariants as asserts
use Rattle.i7_sentences.specs.declared.sentence.Being.{Being}
use Rattle.i7_sentences.specs.declared.sentence.Holder.{Holder}
use Rattle.i7_sentences.specs.declared.sentence.Sentence.{Sentence}
use Rattle.i7_claims.specs.Beings.{names_said}
use Rattle.i7_claims.specs.Claims.{being_claims, claims_in, claims_of, claims_said, declares_said, demands, demands_said, has_all, has_quality, holder_demands, kind_said, known_by, choice_said, has_choice, usually_choice, values_from}
use Rattle.i7_claims.specs.Claims.{lies, named, number_claim, placed, placings_said, qualities_said, start_claim, usual_claims, usual_kind, usual_number, usual_quality, what_claims, worn_claims}
use Rattle.i7_claims.specs.NameScans.{Standings, built_in_standings, clashes, name_twice, shows_twice, with_claim, with_fact}
use Rattle.i7_claims.specs.Firsts.{first_of, given}
use Rattle.i7_claims.specs.Numbers.{has_name, number_in}
use Rattle.i7_claims.specs.KindNames.{with_kind}
use Rattle.i7_claims.specs.Scans.{lowest}
use Rattle.i7_claims.specs.Standings.{built_in_namings, is_number_name, is_variable_name}
use Rattle.i7_claims.specs.Sorts.{built_in_kinds}
use Rattle.i7_claims.specs.Statements.{key_of}
use Rattle.i7_claims.specs.Wording.{usual_said, what_said}
use Rattle.i7_claims.specs.declared.claim.Claim.{Claim}
use Rattle.i7_claims.specs.declared.claim.Value.{Value}
use Rattle.i7_claims.specs.declared.claim.Fact.{Fact}
use Rattle.i7_claims.specs.declared.claim.Fact.TheVariants.{Stands, Lies, Rulebook, Values}
use Rattle.i7_claims.specs.declared.claim.Standing.{Standing}
use Rattle.i7_claims.specs.declared.claim.Standing.TheVariants as stands
use Rattle.i7_claims.specs.declared.wording.What.{What}
use Rattle.i7_claims.proofs.Lowest.{none_shown}
use Rattle.i7_kinds.proofs.KindPlaces.{AreNew, IsNew}
use Rattle.i7_kinds.proofs.NamesOnce.{at_number, same_some}

-- ---- what each claim is

abbrev pub EachFact : (Fact → Type 0) → List Claim → Type 0
EachFact Is [] = Unit {0}
EachFact Is (c ∷ claims) = Is c.fact × EachFact Is claims

each_append : (Is : Fact → Type 0) (xs ys : List Claim) → EachFact Is xs → EachFact Is ys → EachFact Is (xs ++ ys)
each_append Is [] ys h k = k
each_append Is (x ∷ xs) ys h k = (h.0, each_append Is xs ys h.1 k)

each_map : {X : Type 0} (Is : Fact → Type 0) (f : X → Claim) (xs : List X) → ((x : X) → Is (f x).fact) → EachFact Is (map f xs)
each_map Is f [] h = tt
each_map Is f (x ∷ xs) h = (h x, each_map Is f xs h)

each_flat : {X : Type 0} (Is : Fact → Type 0) (f : X → List Claim) (xs : List X) → ((x : X) → EachFact Is (f x)) → EachFact Is (flat_map f xs)
each_flat Is f [] h = tt
each_flat Is f (x ∷ xs) h = each_append Is (f x) (flat_map f xs) (h x) (each_flat Is f xs h)

-- a fact declares nothing but objects, and lists no values
abbrev pub IsPlain : Fact → Type 0
IsPlain (Stands n) = n.standing ≡ stands.Object
IsPlain (Lies l) = ⊥
IsPlain (Rulebook name) = ⊥
IsPlain (Values listing) = ⊥
IsPlain _ = Unit {0}

abbrev ArePlain : List Claim → Type 0
ArePlain claims = EachFact IsPlain claims

-- ---- plain claims

plain_demands : (kind : Option (List ℕ)) (subjects : List Name) (line : ℕ) → ArePlain (demands_said kind subjects line)
plain_demands None subjects line = tt
plain_demands (Some kind) subjects line = each_map IsPlain (demands kind line) subjects (λ name. tt)

plain_what : (what : Option What) (words : List ℕ) (subjects : List Name) (line : ℕ) → ArePlain (what_claims what words subjects line)
plain_what what words subjects line =
    each_append IsPlain (demands_said (kind_said what words) subjects line) (flat_map (has_all (qualities_said what) line) subjects) (plain_demands (kind_said what words) subjects line)
    (each_flat IsPlain (has_all (qualities_said what) line) subjects (λ name. each_map IsPlain (has_quality line name) (qualities_said what) (λ quality. tt)))

plain_worn : (relation : Rel) (line : ℕ) (name : Name) → ArePlain (worn_claims relation line name)
plain_worn In line name = tt
plain_worn On line name = tt
plain_worn Carried line name = tt
plain_worn Worn line name = (tt, tt)
plain_worn Part line name = tt

plain_holder : (relation : Rel) (name : Name) (line : ℕ) → ArePlain (holder_demands relation name line)
plain_holder In name line = tt
plain_holder On name line = (tt, tt)
plain_holder Carried name line = (tt, tt)
plain_holder Worn name line = (tt, tt)
plain_holder Part name line = (tt, tt)

plain_placings : (place : Option Holder) (subjects : List Name) (line : ℕ) → ArePlain (placings_said place subjects line)
plain_placings None subjects line = tt
plain_placings (Some holder) subjects line =
    each_append IsPlain (holder_demands holder.relation holder.name line) (flat_map (placed holder line) subjects) (plain_holder holder.relation holder.name line)
    (each_flat IsPlain (placed holder line) subjects (λ name. (tt, (tt, plain_worn holder.relation line name))))

plain_objects : (names : List Name) (line : ℕ) → ArePlain (map (named stands.Object line) names)
plain_objects names line = each_map IsPlain (named stands.Object line) names (λ name. refl)

plain_being : (known : Standings) (being : Being) (line : ℕ) → ArePlain (being_claims known being line)
plain_being known being line =
    let objects = map (named stands.Object line) (names_said being) in
    let what = what_claims (what_said known being.what) being.what being.subjects line in
    let places = placings_said being.place being.subjects line in
    each_append IsPlain (objects ++ what) places (each_append IsPlain objects what (plain_objects (names_said being) line)
    (plain_what (what_said known being.what) being.what being.subjects line)) (plain_placings being.place being.subjects line)

plain_usual : (kind : List ℕ) (what : Option What) (words : List ℕ) (line : ℕ) → ArePlain (usual_claims kind what words line)
plain_usual kind None words line = (tt, tt)
plain_usual kind (Some what) words line = each_map IsPlain (usual_quality kind line) what.qualities (λ quality. tt)

plain_if : (b : Bool) (one other : Claim) → IsPlain one.fact → IsPlain other.fact → IsPlain (cond b one other).fact
plain_if true one other h k = h
plain_if false one other h k = k

plain_number : (known : Standings) (property object : Name) (number : ℤ) (line : ℕ) → IsPlain (number_claim known property object number line).fact
plain_number known property object number line = plain_if (is_number_name (known (key_of property.text))) _ _ tt tt

plain_usual_number : (known : Standings) (property kind : Name) (number : ℤ) (line : ℕ) → IsPlain (usual_number known property kind number line).fact
plain_usual_number known property kind number line = plain_if (is_number_name (known (key_of property.text))) _ _ tt tt

plain_start : (known : Standings) (variable : Name) (number : ℤ) (line : ℕ) → IsPlain (start_claim known variable number line).fact
plain_start known variable number line = plain_if (is_variable_name (known (key_of variable.text))) _ _ tt tt

plain_choice : (property object value : Name) (line : ℕ) (choice : Option Value) → IsPlain (has_choice property object value line choice).fact
plain_choice property object value line None = tt
plain_choice property object value line (Some choice) = tt

plain_usual_choice : (kind : List ℕ) (property value : Name) (line : ℕ) (choice : Option Value) → IsPlain (usually_choice kind property value line choice).fact
plain_usual_choice kind property value line None = tt
plain_usual_choice kind property value line (Some choice) = tt

-- a sentence declares what it claims, or declares nothing and claims what is plain
abbrev pub DeclaresOrNot : Standings → Assertion → ℕ → Type 0
DeclaresOrNot known said line = ((declares_said said line ≡ []) × EachFact IsPlain (claims_said known said line)) ⊎ (claims_said known said line ≡ declares_said said line)

pub declares_or_not : (known : Standings) (said : Assertion) (line : ℕ) → DeclaresOrNot known said line
declares_or_not known (asserts.Way way) line = inl (refl, (refl, (tt, (refl, (tt, tt)))))
declares_or_not known (asserts.Door door first second) line = inl (refl, (refl, (tt, (tt, (refl, (tt, (refl, (tt, tt))))))))
declares_or_not known (asserts.DescriptionOf object text) line = inl (refl, (refl, tt))
declares_or_not known (asserts.Are being) line = inl (refl, plain_being known being line)
declares_or_not known (asserts.Holds holder relation things) line =
    inl (
      refl,
      each_append IsPlain (map (named stands.Object line) (holder ∷ things)) (placings_said (Some (record { relation = relation; name = holder })) things line)
          (plain_objects (holder ∷ things) line) (plain_placings (Some (record { relation = relation; name = holder })) things line),
    )
declares_or_not known (asserts.Usually kind adjectives) line = inl (refl, plain_usual (usual_kind known kind) (usual_said known adjectives) adjectives line)
declares_or_not known (asserts.NumberOf property object number) line = inl (refl, (refl, (plain_number known property object number line, tt)))
declares_or_not known (asserts.UsuallyNumber property kind number) line = inl (refl, (plain_usual_number known property kind number line, tt))
declares_or_not known (asserts.VariableIs variable number) line = inl (refl, (plain_start known variable number line, tt))
declares_or_not known (asserts.ValueOf property object value) line = inl (refl, (refl, (plain_choice property object value line (choice_said known property value), tt)))
declares_or_not known (asserts.UsuallyValue property kind value) line = inl (refl, (plain_usual_choice (usual_kind known kind) property value line (choice_said known property value), tt))
declares_or_not known _ line = inr refl

-- ---- kinds

-- each kind's name stands for something
abbrev AreNamed : Standings → List (List ℕ) → Type 0
AreNamed known names = (name : List ℕ) → has_name names name ≡ true → is_some (known name) ≡ true

some_first : {X : Type 0} (a b : Option X) → is_some a ≡ true → is_some (first_of a b) ≡ true
some_first None b h = absurd (true≢false (sym h))
some_first (Some x) b h = refl

abbrev IsNoKind : Fact → Type 0
IsNoKind (Lies l) = ⊥
IsNoKind _ = Unit {0}

plain_no_kind : (f : Fact) → IsPlain f → IsNoKind f
plain_no_kind (Lies l) h = h
plain_no_kind _ h = tt

plain_no_kinds : (claims : List Claim) → EachFact IsPlain claims → EachFact IsNoKind claims
plain_no_kinds [] h = tt
plain_no_kinds (c ∷ claims) h = (plain_no_kind c.fact h.0, plain_no_kinds claims h.1)

still_named : (known : Standings) (names : List (List ℕ)) (f : Fact) → AreNamed known names → AreNamed (with_fact known f) names
still_named known names (Stands n) all name h = some_first (known name) _ (all name h)
still_named known names _ all name h = all name h

new_step : (names : List (List ℕ)) (f : Fact) (claims : List Claim) → IsNoKind f → AreNew names claims → IsNew names f × AreNew (with_kind names f) claims
new_step names (Lies l) claims quiet h = absurd quiet
new_step names _ claims quiet h = (tt, h)

-- what claims of no kinds leave
no_kinds : (some rest : List Claim) (known : Standings) (names : List (List ℕ)) → EachFact IsNoKind some → AreNamed known names → lowest shows_twice with_claim known (some ++ rest) None ≡ None
    → ((now : Standings) → AreNamed now names → lowest shows_twice with_claim now rest None ≡ None → AreNew names rest) → AreNew names (some ++ rest)
no_kinds [] rest known names quiet all none later = later known all none
no_kinds (c ∷ some) rest known names quiet all none later =
    let t = none_shown shows_twice with_claim known c (some ++ rest) none in
    new_step names c.fact (some ++ rest) quiet.0 (no_kinds some rest (with_claim known c) names quiet.1 (still_named known names c.fact all) t.1 later)

unnamed : (found : Option Standing) → clashes found stands.Kind ≡ false → is_some found ≡ true → ⊥
unnamed None h k = true≢false (sym k)
unnamed (Some s) h k = true≢false h

mention_is : (names : List (List ℕ)) (name other : List ℕ) → has_name names name ≡ false → has_name (mention names name) other ≡ true → (has_name names other ≡ true) ⊎ (other ≡ name)
mention_is names name other new h =
    let there : has_name (names ++ name ∷ []) other ≡ true = rw new at h in
    ⊎_elim (λ old. inl old) (λ is. inr ((bytes_eq-Decides other name).0 is))
    (or_cases (has_name names other) (bytes_eq other name) (sym
    (list_any-append (bytes_eq other) names (name ∷ []) ∙ ap (λ (b : Bool). has_name names other || b) (or-false (bytes_eq other name))) ∙ there))

given_here : (a : Option Standing) (standing : Standing) (name other : List ℕ) → other ≡ name → is_some (first_of a (given bytes_eq name standing other)) ≡ true
given_here (Some x) standing name other same = refl
given_here None standing name other same = rw ((bytes_eq-Decides name other).1 (sym same)) refl

-- a kind's sentence
kind_step : (kind parent : Name) (line : ℕ) (rest : List Claim) (known : Standings) (names : List (List ℕ)) → AreNamed known names
    → lowest shows_twice with_claim known (declares_said (asserts.KindOfKind kind parent) line ++ rest) None ≡ None
    → ((now : Standings) → AreNamed now (mention names (key_of kind.text)) → lowest shows_twice with_claim now rest None ≡ None → AreNew (mention names (key_of kind.text)) rest)
    → AreNew names (declares_said (asserts.KindOfKind kind parent) line ++ rest)
kind_step kind parent line rest known names all none later =
    let k = key_of kind.text in
    let one = named stands.Kind line kind in
    let two = lies kind parent line in
    let now = with_claim known one in
    let t = none_shown shows_twice with_claim known one (two ∷ rest) none in
    let u = none_shown shows_twice with_claim now two rest t.1 in
    let new : has_name names k ≡ false = ⊎_elim (λ old. absurd (unnamed (known k) t.0 (all k old))) (λ isnt. isnt) (cases_Bool (has_name names k)) in
    let named_now : AreNamed now (mention names k) = λ name h. ⊎_elim (λ old. some_first (known name) _ (all name old)) (λ same. given_here (known name) stands.Kind k name same)
    (mention_is names k name new h) in
    (tt, (new, later now named_now u.1))

abbrev Later : Standings → List Sentence → Type 0
Later known0 sentences = (known : Standings) (names : List (List ℕ)) → AreNamed known names → lowest shows_twice with_claim known (flat_map (claims_in known0) sentences) None ≡ None
    → AreNew names (flat_map (claims_in known0) sentences)

no_kind_values : (kind : List ℕ) (line place : ℕ) (values : List Name) → EachFact IsNoKind (values_from kind line place values)
no_kind_values kind line place [] = tt
no_kind_values kind line place (value ∷ values) = (tt, no_kind_values kind line (1 + place) values)

declared_new : (said : Assertion) (line : ℕ) (rest : List Claim) (known : Standings) (names : List (List ℕ)) → AreNamed known names
    → lowest shows_twice with_claim known (declares_said said line ++ rest) None ≡ None
    → ((now : Standings) (more : List (List ℕ)) → AreNamed now more → lowest shows_twice with_claim now rest None ≡ None → AreNew more rest) → AreNew names (declares_said said line ++ rest)
declared_new (asserts.KindOfKind kind parent) line rest known names all none later = kind_step kind parent line rest known names all none (λ now h k. later now (mention names (key_of kind.text)) h k)
declared_new (asserts.EitherOr kind first None) line rest known names all none later = no_kinds (declares_said (asserts.EitherOr kind first None) line) rest known names
    (tt, (tt, tt)) all none (λ now h k. later now names h k)
declared_new (asserts.EitherOr kind first (Some second)) line rest known names all none later = no_kinds (declares_said (asserts.EitherOr kind first (Some second)) line) rest known names
    (tt, (tt, (tt, tt))) all none (λ now h k. later now names h k)
declared_new (asserts.Rulebook name) line rest known names all none later = no_kinds (declares_said (asserts.Rulebook name) line) rest known names (tt, tt) all none (λ now h k. later now names h k)
declared_new (asserts.Scene name recurs) line rest known names all none later = no_kinds (declares_said (asserts.Scene name recurs) line) rest known names (tt, tt) all none
    (λ now h k. later now names h k)
declared_new (asserts.NumberProperty kind property) line rest known names all none later = no_kinds (declares_said (asserts.NumberProperty kind property) line) rest known names
    (tt, (tt, tt)) all none (λ now h k. later now names h k)
declared_new (asserts.Variable name) line rest known names all none later = no_kinds (declares_said (asserts.Variable name) line) rest known names (tt, tt) all none (λ now h k. later now names h k)
declared_new (asserts.ValueKind name) line rest known names all none later = no_kinds (declares_said (asserts.ValueKind name) line) rest known names (tt, tt) all none
    (λ now h k. later now names h k)
declared_new (asserts.Values kind values) line rest known names all none later = no_kinds (declares_said (asserts.Values kind values) line) rest known names
    (tt, no_kind_values (key_of kind.text) line 0 values) all none (λ now h k. later now names h k)
declared_new (asserts.HasValue kind property) line rest known names all none later = no_kinds (declares_said (asserts.HasValue kind property) line) rest known names
    (tt, tt) all none (λ now h k. later now names h k)
declared_new _ line rest known names all none later = later known names all none

sentence_new : (known0 : Standings) (said : Assertion) (line : ℕ) (rest : List Claim) (known : Standings) (names : List (List ℕ)) → DeclaresOrNot known0 said line → AreNamed known names
    → lowest shows_twice with_claim known (claims_said known0 said line ++ rest) None ≡ None
    → ((now : Standings) (more : List (List ℕ)) → AreNamed now more → lowest shows_twice with_claim now rest None ≡ None → AreNew more rest) → AreNew names (claims_said known0 said line ++ rest)
sentence_new known0 said line rest known names (inl plain) all none later = no_kinds (claims_said known0 said line) rest known names
    (plain_no_kinds (claims_said known0 said line) plain.1) all none (λ now h k. later now names h k)
sentence_new known0 said line rest known names (inr same) all none later =
    subst (λ (cs : List Claim). AreNew names (cs ++ rest)) (sym same)
    (declared_new said line rest known names all (subst (λ (cs : List Claim). lowest shows_twice with_claim known (cs ++ rest) None ≡ None) same none) later)

all_new : (known0 : Standings) (sentences : List Sentence) → Later known0 sentences
all_new known0 [] known names all none = tt
all_new known0 (sentence ∷ sentences) known names all none =
    sentence_new known0 sentence.said sentence.line (flat_map (claims_in known0) sentences) known names (declares_or_not known0 sentence.said sentence.line) all none
    (λ now more h k. all_new known0 sentences now more h k)

-- ---- the built-in kinds have names

stands_for : (name key : List ℕ) → Some key ≡ Some name → is_some (built_in_standings key) ≡ true → is_some (built_in_standings name) ≡ true
stands_for name key same h = subst (λ (n : List ℕ). is_some (built_in_standings n) ≡ true) (same_some same) h

built_in_at : (i : ℕ) (name : List ℕ) → slice_get built_in_kinds i ≡ Some name → is_some (built_in_standings name) ≡ true
unfolding built_in_kinds built_in_standings built_in_namings
built_in_at zero name h = stands_for name (codes "thing") h refl
built_in_at (suc zero) name h = stands_for name (codes "room") h refl
built_in_at (suc (suc zero)) name h = stands_for name (codes "direction") h refl
built_in_at (suc (suc (suc zero))) name h = stands_for name (codes "door") h refl
built_in_at (suc (suc (suc (suc zero)))) name h = stands_for name (codes "container") h refl
built_in_at (suc (suc (suc (suc (suc zero))))) name h = stands_for name (codes "supporter") h refl
built_in_at (suc (suc (suc (suc (suc (suc zero)))))) name h = stands_for name (codes "person") h refl
built_in_at (suc (suc (suc (suc (suc (suc (suc zero))))))) name h = stands_for name (codes "device") h refl
built_in_at (suc (suc (suc (suc (suc (suc (suc (suc zero)))))))) name h = stands_for name (codes "man") h refl
built_in_at (suc (suc (suc (suc (suc (suc (suc (suc (suc zero))))))))) name h = stands_for name (codes "woman") h refl
built_in_at (suc (suc (suc (suc (suc (suc (suc (suc (suc (suc i)))))))))) name h = absurd cc

-- where no name stands for two things each kind is declared once
pub kinds_new : (sentences : List Sentence) → name_twice (claims_of sentences) ≡ None → AreNew built_in_kinds (claims_of sentences)
kinds_new sentences none =
    all_new (known_by sentences) sentences built_in_standings built_in_kinds
    (λ name h. built_in_at (number_in built_in_kinds name) name (at_number built_in_kinds name h)) none
