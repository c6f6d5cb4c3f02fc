-- Words try one action at most, and name one rulebook at most.
use Rattle.std.proofs.Common.{◌≡◌, ℕ, ◌+◌, ◌<◌, true, List, take, sym, ap, ◌∙◌, subst, arith, inl, inr}
use Rattle.std.specs.Prelude.{Some, nat_lt}
use Rattle.std.proofs.lemmas.Bool.{ltb-true, ltb-false, cases_Bool}
use Rattle.play_meaning.specs.Trees.{Object}
use Rattle.i7_conditions.specs.Readings.{FirstOf}
use Rattle.i7_conditions.specs.Scopes.{Scope}
use Rattle.i7_conditions.specs.Words.{Word}
use Rattle.i7_conditions.proofs.Listing.{IsOnce, at_once, first_once}
use Rattle.i7_conditions.proofs.Readings.{meant_once}
use Rattle.i7_actions.specs.Books.{IsAlone, IsFollowed, IsOwn, IsStage, first_own, is_action, stage_at}
use Rattle.i7_actions.specs.Nouns.{GivesNouns, IsLast, Nouns, Reads, StandAt}
use Rattle.i7_actions.specs.Parts.{second_part}
use Rattle.i7_actions.specs.Trying.{GoesBefore, Tries}
use Rattle.i7_actions.specs.TryingForms.{try_of}
use Rattle.i7_actions.specs.declared.action.Action.{Action}
use Rattle.i7_actions.specs.declared.action.NounCount.{NounCount}
use Rattle.i7_actions.specs.declared.action.NounCount.TheVariants.{Zero, One, Two}
use Rattle.i7_actions.proofs.Chosen.{one_at, one_first}
use Rattle.i7_actions.proofs.Found.{is_zero, of_alone, of_around}

-- the lowest of numbers is one
pub lowest_once : (m n : ℕ) → (m < n → ⊥) → (n < m → ⊥) → m ≡ n
lowest_once m n never nor =
    elim (cases_Bool (nat_lt m n)) [
      | inl lt ↦ absurd (never (ltb-true _ _ lt))
      | inr ge ↦ elim (cases_Bool (nat_lt n m)) [
        | inl lt ↦ absurd (nor (ltb-true _ _ lt))
        | inr le ↦ omega (arith, ltb-false _ _ ge, ltb-false _ _ le)
      ]
    ]

-- ---- nouns

last_once : (s : Scope) (count : NounCount) (words : List Word) → IsOnce (IsLast s count words)
last_once s Zero words o p a b = absurd a
last_once s One words o p a b = a.1 ∙ sym b.1
last_once s Two words o p a b = meant_once s words o p a.1 b.1

pair_once : (nouns others : Nouns) → nouns.0 ≡ others.0 → nouns.1 ≡ others.1 → nouns ≡ others
pair_once nouns others first second =
    let one : (nouns.0, nouns.1) ≡ (others.0, nouns.1) = ap (λ (o : Object). (o, nouns.1)) first in
    let two : (others.0, nouns.1) ≡ (others.0, others.1) = ap (λ (o : Object). (others.0, o)) second in
    one ∙ two

stand_once : (s : Scope) (count : NounCount) (second words : List Word) (n : ℕ) → IsOnce (StandAt s count second words n)
stand_once s count second words n nouns others a b =
    let both : Some a.last ≡ Some b.last = sym a.part ∙ b.part in
    let same : a.last ≡ b.last = cc in
    let ends : IsLast s count b.last nouns.1 = subst (λ (last : List Word). IsLast s count last nouns.1) same a.ends in
    pair_once nouns others (meant_once s (take n words) nouns.0 others.0 a.noun.1 b.noun.1) (last_once s count b.last nouns.1 others.1 ends b.ends)

reads_once : (s : Scope) (a : Action) (words : List Word) (n : ℕ) → IsOnce (Reads s a words n)
reads_once s a words n nouns others x y =
    elim (cases_Bool (is_zero a.nouns)) [
      | inl zero ↦ (of_alone s a words n nouns x zero).0 ∙ sym (of_alone s a words n others y zero).0
      | inr some ↦
          let one = of_around s a words n nouns x some in
          let two = of_around s a words n others y some in
          let both : Some one.0 ≡ Some two.0 = sym one.1 ∙ two.1 in
          let same : one.0 ≡ two.0 = cc in
          stand_once s a.nouns (second_part a.name) two.0 n nouns others (subst (λ (rest : List Word). StandAt s a.nouns (second_part a.name) rest n nouns) same one.2) two.2
    ]

gives_once : (s : Scope) (a : Action) (words : List Word) → IsOnce (GivesNouns s a words)
gives_once s a words nouns others g h =
    let same : g.n ≡ h.n = lowest_once g.n h.n (λ lt. h.shortest g.n lt nouns g.reads) (λ lt. g.shortest h.n lt others h.reads) in
    reads_once s a words h.n nouns others (subst (λ (n : ℕ). Reads s a words n nouns) same g.reads) h.reads

-- ---- actions

pub try_once : (actions : List Action) (s : Scope) (words : List Word) → IsOnce (Tries actions s words)
try_once actions s words t u a b =
    let never : GoesBefore t.action a.action u.action b.action → ⊥ = λ before. b.first t.action a.action a.at before a.gives.n t.nouns a.gives.reads in
    let nor : GoesBefore u.action b.action t.action a.action → ⊥ = λ before. a.first u.action b.action b.at before b.gives.n u.nouns b.gives.reads in
    let number : t.action ≡ u.action = one_first t.action u.action a.action b.action never nor in
    let action : a.action ≡ b.action = one_at actions t.action u.action a.action b.action number a.at b.at in
    let nouns : t.nouns ≡ u.nouns = gives_once s b.action words t.nouns u.nouns (subst (λ (c : Action). GivesNouns s c words t.nouns) action a.gives) b.gives in
    let one : try_of t.action t.nouns ≡ try_of u.action t.nouns = ap (λ (n : ℕ). try_of n t.nouns) number in
    let two : try_of u.action t.nouns ≡ try_of u.action u.nouns = ap (try_of u.action) nouns in
    one ∙ two

-- ---- rulebooks

alone_once : (words : List Word) → IsOnce (IsAlone words)
alone_once words book other a b = let both : Some book ≡ Some other = sym a ∙ b in cc

abbrev Stage : Type 0
Stage = ℕ × List Word

stage_once : (actions : List Action) (words : List Word) → IsOnce (IsStage actions words)
stage_once actions words = at_once (stage_at words) (λ (parts : Stage) (book : ℕ). (is_action actions parts.1 ≡ true) × (book ≡ parts.0)) (λ parts book other a b. a.1 ∙ sym b.1)

own_once : (rulebooks : List (List ℕ)) (scenes : ℕ) (words : List Word) → IsOnce (IsOwn rulebooks scenes words)
own_once rulebooks scenes words book other a b =
    let same : a.k ≡ b.k = lowest_once a.k b.k (λ lt. b.first a.k a.name lt a.at a.named) (λ lt. a.first b.k b.name lt b.at b.named) in
    a.numbered ∙ ap (λ (k : ℕ). first_own scenes + k) same ∙ sym b.numbered

pub book_once : (actions : List Action) (rulebooks : List (List ℕ)) (scenes : ℕ) (words : List Word) → IsOnce (IsFollowed actions rulebooks scenes words)
book_once actions rulebooks scenes words =
    first_once (IsAlone words) (FirstOf (IsStage actions words) (IsOwn rulebooks scenes words)) (alone_once words)
    (first_once (IsStage actions words) (IsOwn rulebooks scenes words) (stage_once actions words) (own_once rulebooks scenes words))
