-- What words are found to describe is what they describe.
use Rattle.std.proofs.Common.{◌≡◌, ℕ, ◌<◌, ◌≤◌, List, [], length, map, take, drop, refl, sym, ap, ◌∙◌, subst, arith, inl, inr}
use Rattle.std.specs.Prelude.{Option, Some, None, nat_lt}
use Rattle.std.proofs.lemmas.List.{length-map}
use Rattle.std.proofs.lemmas.Bool.{ltb-true, ltb-false, cases_Bool}
use Rattle.world_meaning.specs.declared.place.Rel.{Rel}
use Rattle.world_meaning.specs.declared.place.Rel.TheVariants.{In}
use Rattle.play_meaning.specs.Meant.{adjective_meant}
use Rattle.play_meaning.specs.Trees.{Description, Object, Those}
use Rattle.play_meaning.specs.declared.tree.object.Adjective.{Adjective}
use Rattle.i7_conditions.specs.Adjectives.{adjective_named}
use Rattle.i7_conditions.specs.Cuts.{CanBeCut, IsCut, IsFrontFound, IsMeant}
use Rattle.i7_conditions.specs.Descriptions.{Holding, bare_said, description_of, description_said, described, front_and, said_behind, with_holder}
use Rattle.i7_conditions.specs.Describing.{Describes, DescribesBare, IsDescriptionFound, IsFoundBy, adjectives_in, front_words, froms_in, words_behind}
use Rattle.i7_conditions.specs.Fronts.{front_said}
use Rattle.i7_conditions.specs.Marks.{marks_of}
use Rattle.i7_conditions.specs.Objects.{IsObjectFound, Means}
use Rattle.i7_conditions.specs.Parts.{put_together}
use Rattle.i7_conditions.specs.Relations.{relation_at}
use Rattle.i7_conditions.specs.Scopes.{Scope}
use Rattle.i7_conditions.specs.Words.{Word, without_article}
use Rattle.i7_conditions.specs.declared.found.Found.{Found}
use Rattle.i7_conditions.specs.declared.found.Found.TheVariants.{Read, TooMany, Unread}
use Rattle.i7_conditions.specs.declared.front.Front.{Front}
use Rattle.i7_conditions.proofs.Cutting.{front_found}
use Rattle.i7_conditions.proofs.Readings.{meant_once, objects_found}

pub meant_is_cut : (s : Scope) (words : List Word) (adjectives : List Adjective) (k : ℕ) → IsMeant s words adjectives k → IsCut s words adjectives k
meant_is_cut s words adjectives k (IsMeant.kind e) = IsCut.kind e
meant_is_cut s words adjectives k (IsMeant.more {others = others} n no_kind e shortest rest) = IsCut.more n e (meant_is_cut s (drop n words) others k rest)

-- ---- where nothing is described

not_cut : (s : Scope) (words : List Word) → (CanBeCut s (front_words words) → ⊥) → (d : Description) → DescribesBare s words d → ⊥
not_cut s words never d (DescribesBare.plain {adjectives = adjectives} {k = k} e meant) = never (adjectives, k, meant_is_cut s (front_words words) adjectives k meant)
not_cut s words never d (DescribesBare.held {adjectives = adjectives} {k = k} e meant means) = never (adjectives, k, meant_is_cut s (front_words words) adjectives k meant)

abbrev holder_in : Option (Rel × List Word) → List Word
holder_in None = []
holder_in (Some parts) = parts.1

no_holder : (s : Scope) (words : List Word) (relation : Rel) (holder : List Word) → relation_at (words_behind words) ≡ Some (relation, holder) → ((o : Object) → Means s holder o → ⊥)
    → (d : Description) → DescribesBare s words d → ⊥
no_holder s words relation holder at never d (DescribesBare.plain e meant) = absurd cc
no_holder s words relation holder at never d (DescribesBare.held {o = o} e meant means) = never o (subst (λ (w : List Word). Means s w o) (ap holder_in (sym e ∙ at)) means)

-- ---- where something is

adjectives_told : (front : Front) (held : Option Holding) → adjectives_in (description_of front held) ≡ length front.adjectives
adjectives_told front None = length-map front.adjectives adjective_meant
adjectives_told front (Some held) = length-map front.adjectives adjective_meant

described_found : (s : Scope) (words : List Word) (front : Front) (held : Option Holding) → DescribesBare s words (description_of front held) → froms_in (description_of front held) ≤ 8
    → IsFoundBy (DescribesBare s words) (described front held)
described_found s words front held describes few =
    let count = adjectives_told front held in
    elim (cases_Bool (nat_lt 9 (length front.adjectives))) [
      | inl many ↦ let over : 9 < adjectives_in (description_of front held) = omega (arith, ltb-true _ _ many, count) in rw many (description_of front held, describes, inl over)
      | inr fits ↦ let within : adjectives_in (description_of front held) ≤ 9 = omega (arith, ltb-false _ _ fits, count) in rw fits (describes, within, few)
    ]

holder_found : (s : Scope) (words : List Word) (front : Front) (relation : Rel) (holder : List Word) → IsMeant s (front_words words) front.adjectives front.kind → relation_at (words_behind words) ≡ Some (relation, holder)
    → (found : Found Object) → IsObjectFound s holder found → IsFoundBy (DescribesBare s words) (with_holder front relation found)
holder_found s words front relation holder meant at (Read o) h = described_found s words front (Some (relation, o)) (DescribesBare.held at meant h.0) h.1
holder_found s words front relation holder meant at TooMany h = (description_of front (Some (relation, h.0)), DescribesBare.held at meant h.1, inr h.2)
holder_found s words front relation holder meant at Unread h = no_holder s words relation holder at h

behind_found : (s : Scope) (words : List Word) (front : Front) → IsMeant s (front_words words) front.adjectives front.kind → (parts : Option (Rel × List Word)) → relation_at (words_behind words) ≡ parts
    → IsFoundBy (DescribesBare s words) (said_behind s front parts)
behind_found s words front meant None at = described_found s words front None (DescribesBare.plain at meant) (omega arith)
behind_found s words front meant (Some parts) at = holder_found s words front parts.0 parts.1 meant at (put_together (marks_of s parts.1)) (objects_found s parts.1 (put_together (marks_of s parts.1)) refl)

front_then : (s : Scope) (words : List Word) (front : Option Front) → IsFrontFound s (front_words words) front → IsFoundBy (DescribesBare s words) (front_and s front (words_behind words))
front_then s words None h = not_cut s words h
front_then s words (Some front) h = behind_found s words front h (relation_at (words_behind words)) refl

bare_found : (s : Scope) (words : List Word) → IsFoundBy (DescribesBare s words) (bare_said s words)
unfolding bare_said
bare_found s words = front_then s words (front_said s (front_words words)) (front_found s (front_words words) (front_said s (front_words words)) refl)

pub descriptions_found : (s : Scope) (words : List Word) (found : Found Description) → found ≡ description_said s words → IsDescriptionFound s words found
unfolding description_said
descriptions_found s words found e = subst (IsDescriptionFound s words) (sym e) (bare_found s (without_article words))

-- ---- one reading

pub same_cut : (s : Scope) (words : List Word) (adjectives others : List Adjective) (k j : ℕ) → IsMeant s words adjectives k → IsMeant s words others j → (adjectives ≡ others) × (k ≡ j)
same_cut s words adjectives others k j (IsMeant.kind e) (IsMeant.kind f) = let g : Some k ≡ Some j = sym e ∙ f in (refl, cc)
same_cut s words adjectives others k j (IsMeant.kind e) (IsMeant.more n no_kind f shortest rest) = absurd cc
same_cut s words adjectives others k j (IsMeant.more n no_kind f shortest rest) (IsMeant.kind e) = absurd cc
same_cut s words adjectives others k j (IsMeant.more {a = a} {others = more} n no_kind e shortest rest) (IsMeant.more {a = b} {others = same} m none f shorter behind) =
    elim (cases_Bool (nat_lt n m)) [
      | inl lt ↦ absurd (shorter n (ltb-true _ _ lt) a e (more, k, meant_is_cut s (drop n words) more k rest))
      | inr ge ↦ elim (cases_Bool (nat_lt m n)) [
        | inl lt ↦ absurd (shortest m (ltb-true _ _ lt) b f (same, j, meant_is_cut s (drop m words) same j behind))
        | inr le ↦
            let at : m ≡ n = omega (arith, ltb-false _ _ ge, ltb-false _ _ le) in
            let ih = same_cut s (drop n words) more same k j rest (subst (λ (i : ℕ). IsMeant s (drop i words) same j) at behind) in
            let name : Some a ≡ Some b = sym e ∙ ap (λ (i : ℕ). adjective_named s (take i words)) (sym at) ∙ f in
            let tail = ih.0 in
            (cc, ih.1)
      ]
    ]

abbrev relation_in : Option (Rel × List Word) → Rel
relation_in None = In
relation_in (Some parts) = parts.0

bare_once : (s : Scope) (words : List Word) (d e : Description) → DescribesBare s words d → DescribesBare s words e → d ≡ e
bare_once s words d e (DescribesBare.plain {adjectives = as1} {k = k} at meant) (DescribesBare.plain {adjectives = as2} {k = j} at2 meant2) =
    let same = same_cut s (front_words words) as1 as2 k j meant meant2 in
    ap (λ (adjectives : List Adjective). Those (map adjective_meant adjectives) (Some k)) same.0 ∙ ap (λ (n : ℕ). Those (map adjective_meant as2) (Some n)) same.1
bare_once s words d e (DescribesBare.plain at meant) (DescribesBare.held at2 meant2 means) = absurd cc
bare_once s words d e (DescribesBare.held at meant means) (DescribesBare.plain at2 meant2) = absurd cc
bare_once s words d e (DescribesBare.held {adjectives = as1} {k = k} {relation = r} {holder = h} {o = o} at meant means) (DescribesBare.held {adjectives = as2} {k = j} {relation = q} {holder = g} {o = p} at2 meant2 means2) =
    let same = same_cut s (front_words words) as1 as2 k j meant meant2 in
    let by : r ≡ q = ap relation_in (sym at ∙ at2) in
    let holder : g ≡ h = ap holder_in (sym at2 ∙ at) in
    let one : o ≡ p = meant_once s h o p means (subst (λ (w : List Word). Means s w p) holder means2) in
    let front : as1 ≡ as2 = same.0 in
    let kinds : k ≡ j = same.1 in
    cc

pub described_once : (s : Scope) (words : List Word) (d e : Description) → Describes s words d → Describes s words e → d ≡ e
described_once s words d e one other = bare_once s (without_article words) d e one other
