-- Words are one pattern at most.
use Rattle.std.proofs.Common.{◌≡◌, ℕ, List, [], ◌∷◌, take, drop, map, sym, ap, ◌∙◌, subst}
use Rattle.std.specs.Prelude.{Some, None}
use Rattle.play_meaning.specs.Meant.{adjective_meant}
use Rattle.play_meaning.specs.Rules.{Aspect, Exactly, OfKind}
use Rattle.play_meaning.specs.Trees.{The}
use Rattle.play_meaning.specs.declared.tree.object.Adjective.{Adjective}
use Rattle.i7_actions.specs.Parts.{behind, first_part, second_part}
use Rattle.i7_actions.specs.Trying.{GoesBefore}
use Rattle.i7_actions.specs.declared.action.Action.{Action}
use Rattle.i7_actions.specs.declared.action.NounCount.{NounCount}
use Rattle.i7_actions.specs.declared.action.NounCount.TheVariants.{Zero, One, Two}
use Rattle.i7_actions.proofs.Chosen.{one_at, one_first}
use Rattle.i7_actions.proofs.Once.{lowest_once}
use Rattle.i7_conditions.specs.Scopes.{Scope}
use Rattle.i7_conditions.specs.Words.{Word, without_article}
use Rattle.i7_conditions.proofs.Described.{same_cut}
use Rattle.i7_conditions.proofs.Listing.{IsOnce, at_once, first_once, made_once}
use Rattle.i7_conditions.proofs.Readings.{meant_once}
use Rattle.i7_patterns.specs.ActionForms.{in_place}
use Rattle.i7_patterns.specs.Actions.{AsksAround, AsksAt, AsksBehind, AsksBy, AsksFirst, AsksLast, AsksNouns, AsksPlace, IsOmitted, Nouns}
use Rattle.i7_patterns.specs.Aspects.{AsksKind, AsksNothing, AsksNoun, AsksObject, AsksOne}
use Rattle.i7_patterns.specs.Lowest.{IsLowest}
use Rattle.i7_patterns.specs.Patterns.{AsksAction, AsksAnything, IsPattern, any_in, behind_anything, pattern_of}
use Rattle.play_meaning.specs.Patterns.{Pattern}

-- ---- one noun, or the place

object_once : (s : Scope) (words : List Word) → IsOnce (AsksObject s words)
object_once s words x y a b =
    let same : The a.0 ≡ The b.0 = meant_once s words (The a.0) (The b.0) a.1.1 b.1.1 in
    let number : a.0 ≡ b.0 = cc in
    a.2 ∙ ap Exactly number ∙ sym b.2

kind_once : (s : Scope) (words : List Word) → IsOnce (AsksKind s words)
kind_once s words x y a b =
    let same = same_cut s (without_article words) a.adjectives b.adjectives a.kind b.kind a.meant b.meant in
    let one : OfKind a.kind (map adjective_meant a.adjectives) ≡ OfKind a.kind (map adjective_meant b.adjectives) = ap (λ (all : List Adjective). OfKind a.kind (map adjective_meant all)) same.0 in
    let two : OfKind a.kind (map adjective_meant b.adjectives) ≡ OfKind b.kind (map adjective_meant b.adjectives) = ap (λ (k : ℕ). OfKind k (map adjective_meant b.adjectives)) same.1 in
    a.asked ∙ one ∙ two ∙ sym b.asked

pub one_once : (s : Scope) (words : List Word) → IsOnce (AsksOne s words)
one_once s words = first_once (AsksObject s words) (AsksKind s words) (object_once s words) (kind_once s words)

noun_once : (s : Scope) (words : List Word) → IsOnce (AsksNoun s words)
noun_once s words = first_once (AsksNothing words) (AsksOne s words) (λ x y a b. a.1 ∙ sym b.1) (one_once s words)

-- ---- nouns

omitted_once : (words : List Word) → IsOnce (IsOmitted words)
omitted_once words x y a b = a.1 ∙ sym b.1

first_noun_once : (s : Scope) (count : NounCount) (words : List Word) → IsOnce (AsksFirst s count words)
first_noun_once s Zero words x y a b = absurd a
first_noun_once s One words x y a b = first_once (IsOmitted words) (AsksNoun s words) (omitted_once words) (noun_once s words) x y a b
first_noun_once s Two words x y a b = noun_once s words x y a b

last_once : (s : Scope) (count : NounCount) (words : List Word) → IsOnce (AsksLast s count words)
last_once s Zero words x y a b = absurd a
last_once s One words x y a b = omitted_once words x y a b
last_once s Two words x y a b = noun_once s words x y a b

pair_once : (nouns others : Nouns) → nouns.0 ≡ others.0 → nouns.1 ≡ others.1 → nouns ≡ others
pair_once nouns others first second = ap (λ (x : Aspect). (x, nouns.1)) first ∙ ap (λ (x : Aspect). (others.0, x)) second

around_once : (s : Scope) (count : NounCount) (second words : List Word) (n : ℕ) → IsOnce (AsksAround s count second words n)
around_once s count second words n nouns others a b =
    let both : Some a.last ≡ Some b.last = sym a.part ∙ b.part in
    let same : a.last ≡ b.last = cc in
    let ends : AsksLast s count b.last nouns.1 = subst (λ (last : List Word). AsksLast s count last nouns.1) same a.ends in
    pair_once nouns others (first_noun_once s count (take n words) nouns.0 others.0 a.noun b.noun) (last_once s count b.last nouns.1 others.1 ends b.ends)

behind_once : (s : Scope) (count : NounCount) (name words : List Word) (n : ℕ) → IsOnce (AsksBehind s count name words n)
behind_once s count name words n =
    at_once (behind (first_part name) words) (λ (rest : List Word). AsksAround s count (second_part name) rest n) (λ rest. around_once s count (second_part name) rest n)

by_once : (s : Scope) (count : NounCount) (name words : List Word) (n : ℕ) → IsOnce (AsksBy s count name words n)
by_once s Zero name words n nouns others a b = a.2 ∙ sym b.2
by_once s One name words n nouns others a b = behind_once s One name words n nouns others a b
by_once s Two name words n nouns others a b = behind_once s Two name words n nouns others a b

-- ---- the lowest

lowest_is_once : {A : Type 0} (Stands : ℕ → A → Type 0) → ((n : ℕ) → IsOnce (Stands n)) → IsOnce (IsLowest Stands)
lowest_is_once Stands once x y a b =
    let same : a.n ≡ b.n = lowest_once a.n b.n (λ lt. b.lowest a.n lt x a.stands) (λ lt. a.lowest b.n lt y b.stands) in
    once b.n x y (subst (λ (n : ℕ). Stands n x) same a.stands) b.stands

-- ---- the place

place_once : (s : Scope) (words : List Word) → IsOnce (AsksPlace s words)
place_once s [] x y a b = a ∙ sym b
place_once s (word ∷ words) x y a b = one_once s words x y a.1 b.1

at_number_once : (s : Scope) (a : Action) (words : List Word) (n : ℕ) → IsOnce (AsksAt s a words n)
at_number_once s a words n x y p q =
    let nouns : x.nouns ≡ y.nouns = lowest_is_once (AsksNouns s a (take n words)) (by_once s a.nouns a.name (take n words)) x.nouns y.nouns p.nouns q.nouns in
    let place : x.place ≡ y.place = place_once s (drop n words) x.place y.place p.place q.place in
    ap (in_place x.place) nouns ∙ ap (λ (place : Aspect). in_place place y.nouns) place

-- ---- patterns

anything_once : (s : Scope) (words : List Word) → IsOnce (AsksAnything s words)
anything_once s words =
    at_once (behind_anything words) (λ (rest : List Word) (p : Pattern). (place : Aspect) × AsksPlace s rest place × (p ≡ pattern_of None (any_in place)))
    (λ rest. made_once (λ (place : Aspect). pattern_of None (any_in place)) (AsksPlace s rest) (place_once s rest))

action_once : (actions : List Action) (s : Scope) (words : List Word) → IsOnce (AsksAction actions s words)
action_once actions s words p q a b =
    let never : GoesBefore a.number a.action b.number b.action → ⊥ = λ before. b.first a.number a.action a.at before a.asks.n a.aspects a.asks.stands in
    let nor : GoesBefore b.number b.action a.number a.action → ⊥ = λ before. a.first b.number b.action b.at before b.asks.n b.aspects b.asks.stands in
    let number : a.number ≡ b.number = one_first a.number b.number a.action b.action never nor in
    let action : a.action ≡ b.action = one_at actions a.number b.number a.action b.action number a.at b.at in
    let aspects : a.aspects ≡ b.aspects =
    lowest_is_once (AsksAt s b.action words) (at_number_once s b.action words) a.aspects b.aspects (subst (λ (c : Action). IsLowest (AsksAt s c words) a.aspects) action a.asks) b.asks
    in
    a.asked ∙ ap (λ (n : ℕ). pattern_of (Some n) a.aspects) number ∙ ap (pattern_of (Some b.number)) aspects ∙ sym b.asked

pub pattern_once : (actions : List Action) (s : Scope) (words : List Word) → IsOnce (IsPattern actions s words)
pattern_once actions s words = first_once (AsksAnything s words) (AsksAction actions s words) (anything_once s words) (action_once actions s words)
