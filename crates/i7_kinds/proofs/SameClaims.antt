-- Sources that assert the same, each accepted, claim the same: what is claimed rests on no line and no order.
use Rattle.std.proofs.Common.{◌+◌, ◌≡◌, ℕ, ℤ, Bool, true, false, cond, List, [], ◌∷◌, ◌++◌, map, Option, refl, sym, ap, ◌∙◌, subst, inl, inr, ◌⊎◌, ⊎_elim}
use Rattle.std.specs.Prelude.{Some, None, flat_map, fold}
use Rattle.world_meaning.specs.declared.place.Rel.{Rel}
use Rattle.world_meaning.specs.declared.place.Rel.TheVariants.{In, On, Carried, Worn, Part}
use Rattle.i7_sentences.specs.declared.name.Name.{Name}
use Rattle.i7_sentences.specs.declared.sentence.Assertion.{Assertion}
use Rattle.i7_sentences.specs.declared.sentence.Assertion.TheVariants as asserts
use Rattle.i7_sentences.specs.declared.sentence.Being.{Being}
use Rattle.i7_sentences.specs.declared.sentence.Holder.{Holder}
use Rattle.i7_sentences.specs.declared.sentence.Sentence.{Sentence}
use Rattle.i7_claims.specs.Beings.{names_said}
use Rattle.i7_claims.specs.Claims.{being_claims, claims_of, claims_said, declares_said, demands, demands_said, has_all, has_quality, holder_demands, kind_said, known_by, choice_said, has_choice, usually_choice, values_from}
use Rattle.i7_claims.specs.Claims.{named, number_claim, placed, placings_said, qualities_said, start_claim, usual_claims, usual_kind, usual_number, usual_quality, what_claims, worn_claims}
use Rattle.i7_claims.specs.NameScans.{Standings, built_in_standings, list_twice, name_twice, with_claim}
use Rattle.i7_claims.specs.Standings.{is_number_name, is_variable_name}
use Rattle.i7_claims.specs.Statements.{key_of}
use Rattle.i7_claims.specs.Wording.{usual_said, what_said}
use Rattle.i7_claims.specs.declared.claim.Claim.{Claim}
use Rattle.i7_claims.specs.declared.claim.Value.{Value}
use Rattle.i7_claims.specs.declared.claim.Fact.{Fact}
use Rattle.i7_claims.specs.declared.claim.Standing.TheVariants as stands
use Rattle.i7_claims.specs.declared.wording.What.{What}
use Rattle.i7_kinds.specs.KindsMeant.{IsClaimed, IsSaid, SayTheSame, is_claiming}
use Rattle.i7_kinds.proofs.FirstLists.{declares_once}
use Rattle.i7_kinds.proofs.SameStandings.{SameClaimed, none_twice_declared, same_standings}

-- ---- the same facts, on other lines

abbrev SameFacts : List Claim → List Claim → Type 0
SameFacts [] [] = Unit {0}
SameFacts [] (y ∷ ys) = ⊥
SameFacts (x ∷ xs) [] = ⊥
SameFacts (x ∷ xs) (y ∷ ys) = (x.fact ≡ y.fact) × SameFacts xs ys

same_claimed : (xs ys : List Claim) (f : Fact) → SameFacts xs ys → IsClaimed xs f → IsClaimed ys f
same_claimed [] ys f same h = absurd h
same_claimed (x ∷ xs) [] f same h = absurd same
same_claimed (x ∷ xs) (y ∷ ys) f same (inl here) = inl (sym same.0 ∙ here)
same_claimed (x ∷ xs) (y ∷ ys) f same (inr later) = inr (same_claimed xs ys f same.1 later)

same_append : (a b xs ys : List Claim) → SameFacts a b → SameFacts xs ys → SameFacts (a ++ xs) (b ++ ys)
same_append [] [] xs ys h k = k
same_append [] (y ∷ b) xs ys h k = absurd h
same_append (x ∷ a) [] xs ys h k = absurd h
same_append (x ∷ a) (y ∷ b) xs ys h k = (h.0, same_append a b xs ys h.1 k)

same_map : {X : Type 0} (f g : X → Claim) (xs : List X) → ((x : X) → (f x).fact ≡ (g x).fact) → SameFacts (map f xs) (map g xs)
same_map f g [] h = tt
same_map f g (x ∷ xs) h = (h x, same_map f g xs h)

same_flat : {X : Type 0} (f g : X → List Claim) (xs : List X) → ((x : X) → SameFacts (f x) (g x)) → SameFacts (flat_map f xs) (flat_map g xs)
same_flat f g [] h = tt
same_flat f g (x ∷ xs) h = same_append (f x) (g x) (flat_map f xs) (flat_map g xs) (h x) (same_flat f g xs h)

same_demands : (kind : Option (List ℕ)) (subjects : List Name) (m n : ℕ) → SameFacts (demands_said kind subjects m) (demands_said kind subjects n)
same_demands None subjects m n = tt
same_demands (Some kind) subjects m n = same_map (demands kind m) (demands kind n) subjects (λ name. refl)

same_what : (what : Option What) (words : List ℕ) (subjects : List Name) (m n : ℕ) → SameFacts (what_claims what words subjects m) (what_claims what words subjects n)
same_what what words subjects m n =
    let qualities = qualities_said what in
    same_append (demands_said (kind_said what words) subjects m) (demands_said (kind_said what words) subjects n) (flat_map (has_all qualities m) subjects)
    (flat_map (has_all qualities n) subjects) (same_demands (kind_said what words) subjects m n)
    (same_flat (has_all qualities m) (has_all qualities n) subjects (λ name. same_map (has_quality m name) (has_quality n name) qualities (λ quality. refl)))

same_worn : (relation : Rel) (m n : ℕ) (name : Name) → SameFacts (worn_claims relation m name) (worn_claims relation n name)
same_worn In m n name = tt
same_worn On m n name = tt
same_worn Carried m n name = tt
same_worn Worn m n name = (refl, tt)
same_worn Part m n name = tt

same_holder : (relation : Rel) (name : Name) (m n : ℕ) → SameFacts (holder_demands relation name m) (holder_demands relation name n)
same_holder In name m n = tt
same_holder On name m n = (refl, tt)
same_holder Carried name m n = (refl, tt)
same_holder Worn name m n = (refl, tt)
same_holder Part name m n = (refl, tt)

same_placings : (place : Option Holder) (subjects : List Name) (m n : ℕ) → SameFacts (placings_said place subjects m) (placings_said place subjects n)
same_placings None subjects m n = tt
same_placings (Some holder) subjects m n =
    same_append (holder_demands holder.relation holder.name m) (holder_demands holder.relation holder.name n) (flat_map (placed holder m) subjects) (flat_map (placed holder n) subjects)
    (same_holder holder.relation holder.name m n)
    (same_flat (placed holder m) (placed holder n) subjects (λ name. (refl, (refl, same_worn holder.relation m n name))))

same_objects : (names : List Name) (m n : ℕ) → SameFacts (map (named stands.Object m) names) (map (named stands.Object n) names)
same_objects names m n = same_map (named stands.Object m) (named stands.Object n) names (λ name. refl)

same_being : (known : Standings) (being : Being) (m n : ℕ) → SameFacts (being_claims known being m) (being_claims known being n)
same_being known being m n =
    let objects = λ (line : ℕ). map (named stands.Object line) (names_said being) in
    let what = λ (line : ℕ). what_claims (what_said known being.what) being.what being.subjects line in
    same_append (objects m ++ what m) (objects n ++ what n) (placings_said being.place being.subjects m) (placings_said being.place being.subjects n)
    (same_append (objects m) (objects n) (what m) (what n) (same_objects (names_said being) m n) (same_what (what_said known being.what) being.what being.subjects m n))
    (same_placings being.place being.subjects m n)

same_usual : (kind : List ℕ) (what : Option What) (words : List ℕ) (m n : ℕ) → SameFacts (usual_claims kind what words m) (usual_claims kind what words n)
same_usual kind None words m n = (refl, tt)
same_usual kind (Some what) words m n = same_map (usual_quality kind m) (usual_quality kind n) what.qualities (λ quality. refl)

same_if : (b : Bool) (a x c y : Claim) → a.fact ≡ c.fact → x.fact ≡ y.fact → (cond b a x).fact ≡ (cond b c y).fact
same_if true a x c y h k = h
same_if false a x c y h k = k

same_number : (known : Standings) (property object : Name) (number : ℤ) (m n : ℕ) → (number_claim known property object number m).fact ≡ (number_claim known property object number n).fact
same_number known property object number m n = same_if (is_number_name (known (key_of property.text))) _ _ _ _ refl refl

same_usual_number : (known : Standings) (property kind : Name) (number : ℤ) (m n : ℕ) → (usual_number known property kind number m).fact ≡ (usual_number known property kind number n).fact
same_usual_number known property kind number m n = same_if (is_number_name (known (key_of property.text))) _ _ _ _ refl refl

same_start : (known : Standings) (variable : Name) (number : ℤ) (m n : ℕ) → (start_claim known variable number m).fact ≡ (start_claim known variable number n).fact
same_start known variable number m n = same_if (is_variable_name (known (key_of variable.text))) _ _ _ _ refl refl

same_values : (kind : List ℕ) (m n place : ℕ) (values : List Name) → SameFacts (values_from kind m place values) (values_from kind n place values)
same_values kind m n place [] = tt
same_values kind m n place (value ∷ values) = (refl, same_values kind m n (1 + place) values)

same_choice : (property object value : Name) (m n : ℕ) (choice : Option Value) → (has_choice property object value m choice).fact ≡ (has_choice property object value n choice).fact
same_choice property object value m n None = refl
same_choice property object value m n (Some choice) = refl

same_usual_choice : (kind : List ℕ) (property value : Name) (m n : ℕ) (choice : Option Value)
    → (usually_choice kind property value m choice).fact ≡ (usually_choice kind property value n choice).fact
same_usual_choice kind property value m n None = refl
same_usual_choice kind property value m n (Some choice) = refl

same_declared : (said : Assertion) (m n : ℕ) → SameFacts (declares_said said m) (declares_said said n)
same_declared (asserts.Rulebook name) m n = (refl, tt)
same_declared (asserts.Scene name recurs) m n = (refl, tt)
same_declared (asserts.KindOfKind kind parent) m n = (refl, (refl, tt))
same_declared (asserts.EitherOr kind first None) m n = (refl, (refl, tt))
same_declared (asserts.EitherOr kind first (Some second)) m n = (refl, (refl, (refl, tt)))
same_declared (asserts.NumberProperty kind property) m n = (refl, (refl, tt))
same_declared (asserts.Variable name) m n = (refl, tt)
same_declared (asserts.ValueKind name) m n = (refl, tt)
same_declared (asserts.Values kind values) m n = (refl, same_values (key_of kind.text) m n 0 values)
same_declared (asserts.HasValue kind property) m n = (refl, tt)
same_declared _ m n = tt

same_said : (known : Standings) (said : Assertion) (m n : ℕ) → SameFacts (claims_said known said m) (claims_said known said n)
same_said known (asserts.Way way) m n = (refl, (refl, (refl, (refl, tt))))
same_said known (asserts.Door door first second) m n = (refl, (refl, (refl, (refl, (refl, (refl, (refl, tt)))))))
same_said known (asserts.DescriptionOf object text) m n = (refl, tt)
same_said known (asserts.Are being) m n = same_being known being m n
same_said known (asserts.Holds holder relation things) m n =
    same_append (map (named stands.Object m) (holder ∷ things)) (map (named stands.Object n) (holder ∷ things)) _ _ (same_objects (holder ∷ things) m n)
    (same_placings (Some (record { relation = relation; name = holder })) things m n)
same_said known (asserts.Usually kind adjectives) m n = same_usual (usual_kind known kind) (usual_said known adjectives) adjectives m n
same_said known (asserts.NumberOf property object number) m n = (refl, (same_number known property object number m n, tt))
same_said known (asserts.UsuallyNumber property kind number) m n = (same_usual_number known property kind number m n, tt)
same_said known (asserts.VariableIs variable number) m n = (same_start known variable number m n, tt)
same_said known (asserts.ValueOf property object value) m n = (refl, (same_choice property object value m n (choice_said known property value), tt))
same_said known (asserts.UsuallyValue property kind value) m n = (same_usual_choice (usual_kind known kind) property value m n (choice_said known property value), tt)
same_said known said m n = same_declared said m n

-- ---- what is claimed by what is said

claiming_of : (known : Standings) (said : Assertion) (line : ℕ) (f : Fact) → IsClaimed (claims_said known said line) f → is_claiming said ≡ true
claiming_of known asserts.Aside line f h = absurd h
claiming_of known (asserts.Description text) line f h = absurd h
claiming_of known (asserts.Rule rule) line f h = absurd h
claiming_of known (asserts.SceneChange change) line f h = absurd h
claiming_of known (asserts.Understand understanding) line f h = absurd h
claiming_of known (asserts.Listing listing) line f h = absurd h
claiming_of known (asserts.Action action) line f h = absurd h
claiming_of known _ line f h = refl

declaring : (said : Assertion) (line : ℕ) (f : Fact) → IsClaimed (declares_said said line) f → is_claiming said ≡ true
declaring asserts.Aside line f h = absurd h
declaring (asserts.Description text) line f h = absurd h
declaring (asserts.Rule rule) line f h = absurd h
declaring (asserts.SceneChange change) line f h = absurd h
declaring (asserts.Understand understanding) line f h = absurd h
declaring (asserts.Listing listing) line f h = absurd h
declaring (asserts.Action action) line f h = absurd h
declaring _ line f h = refl

claimed_append : (xs ys : List Claim) (f : Fact) → IsClaimed (xs ++ ys) f → IsClaimed xs f ⊎ IsClaimed ys f
claimed_append [] ys f h = inr h
claimed_append (x ∷ xs) ys f (inl here) = inl (inl here)
claimed_append (x ∷ xs) ys f (inr later) = ⊎_elim (λ front. inl (inr front)) (λ back. inr back) (claimed_append xs ys f later)

claimed_front : (xs ys : List Claim) (f : Fact) → IsClaimed xs f → IsClaimed (xs ++ ys) f
claimed_front [] ys f h = absurd h
claimed_front (x ∷ xs) ys f (inl here) = inl here
claimed_front (x ∷ xs) ys f (inr later) = inr (claimed_front xs ys f later)

claimed_back : (xs ys : List Claim) (f : Fact) → IsClaimed ys f → IsClaimed (xs ++ ys) f
claimed_back [] ys f h = h
claimed_back (x ∷ xs) ys f h = inr (claimed_back xs ys f h)

module _ (claims_by : Assertion → ℕ → List Claim) (lines : (said : Assertion) (m n : ℕ) → SameFacts (claims_by said m) (claims_by said n))
    (claiming : (said : Assertion) (line : ℕ) (f : Fact) → IsClaimed (claims_by said line) f → is_claiming said ≡ true) where
  abbrev claims_by_one : Sentence → List Claim
  claims_by_one sentence = claims_by sentence.said sentence.line

  said_from : (sentences : List Sentence) (f : Fact) → IsClaimed (flat_map claims_by_one sentences) f → (said : Assertion) × (line : ℕ) × IsSaid sentences said × IsClaimed (claims_by said line) f
  said_from [] f h = absurd h
  said_from (sentence ∷ sentences) f h =
      ⊎_elim (λ here. (sentence.said, sentence.line, inl refl, here)) (λ later. let t = said_from sentences f later in (t.0, t.1, inr t.2, t.3))
      (claimed_append (claims_by_one sentence) (flat_map claims_by_one sentences) f h)

  said_to : (sentences : List Sentence) (said : Assertion) (line : ℕ) (f : Fact) → IsSaid sentences said → IsClaimed (claims_by said line) f → IsClaimed (flat_map claims_by_one sentences) f
  said_to [] said line f is h = absurd is
  said_to (sentence ∷ sentences) said line f (inl here) h =
      let now : IsClaimed (claims_by sentence.said line) f = subst (λ (s : Assertion). IsClaimed (claims_by s line) f) (sym here) h in
      claimed_front (claims_by_one sentence) (flat_map claims_by_one sentences) f (same_claimed (claims_by sentence.said line) (claims_by_one sentence) f (lines sentence.said line sentence.line) now)
  said_to (sentence ∷ sentences) said line f (inr later) h = claimed_back (claims_by_one sentence) (flat_map claims_by_one sentences) f (said_to sentences said line f later h)

  claimed_too : (these those : List Sentence) → ((said : Assertion) → is_claiming said ≡ true → IsSaid these said → IsSaid those said)
      → SameClaimed (flat_map claims_by_one these) (flat_map claims_by_one those)
  claimed_too these those to f h = let t = said_from these f h in said_to those t.0 t.1 f (to t.0 (claiming t.0 t.1 f t.3) t.2) t.3

-- ---- two accepted sources

-- no name stands for two things, and no kind of value is listed twice
abbrev pub AreOnce : List Claim → Type 0
AreOnce claims = (name_twice claims ≡ None) × (list_twice claims ≡ None)

pub same_known : (these those : List Sentence) → SayTheSame these those → AreOnce (claims_of these) → AreOnce (claims_of those) → known_by these ≡ known_by those
same_known these those same once once_too =
    let known_from = fold with_claim built_in_standings in
    let to = claimed_too declares_said same_declared declaring these those (λ said is. (same said is).0) in
    let from = claimed_too declares_said same_declared declaring those these (λ said is. (same said is).1) in
    ap known_from (declares_once these once.1) ∙ same_standings _ _ to from built_in_standings (none_twice_declared these once.0) (none_twice_declared those once_too.0)
    ∙ ap known_from (sym (declares_once those once_too.1))

pub claimed_in_both : (these those : List Sentence) → SayTheSame these those → AreOnce (claims_of these) → AreOnce (claims_of those)
    → SameClaimed (claims_of these) (claims_of those)
claimed_in_both these those same once once_too f h =
    let claimed = claimed_too (claims_said (known_by these)) (same_said (known_by these)) (claiming_of (known_by these)) these those (λ said is. (same said is).0) f h in
    subst (λ (known : Standings). IsClaimed (flat_map (λ (sentence : Sentence). claims_said known sentence.said sentence.line) those) f) (same_known these those same once once_too) claimed
