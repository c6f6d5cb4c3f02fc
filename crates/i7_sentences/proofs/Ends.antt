-- The nearest end of a letter, said by the ways in which the letter can be cut.
use Rattle.std.proofs.Common.{◌≡◌, ℕ, ◌≤◌, Bool, true, false, List, [], ◌∷◌, ◌++◌, length, refl, ap, sym, ◌∙◌, arith}
use Rattle.std.specs.Prelude.{◌&&◌, Option, Some, None, if◌then◌else◌}
use Rattle.std.proofs.lemmas.Bool.{false≢true, and_from}
use Rattle.i7_lexer.specs.declared.token.Token.{Token}
use Rattle.i7_sentences.specs.Automata.{accepts, step, runs, then_runs}
use Rattle.i7_sentences.specs.Matching.{nearest, then_left}
use Rattle.i7_sentences.specs.declared.class.Class.{Class}
use Rattle.i7_sentences.specs.declared.class.State.{State}
use Rattle.i7_sentences.proofs.Lists.{nil-cons, same_head, same_tail}

-- Words that the letter may stand for, behind which the pieces can fit, and no fewer are such.
pub record Ends (class : Class) (state : State) (can : List Token → Bool) (tokens : List Token) (left : ℕ) : Type 0 where
  pub words : List Token
  pub rest : List Token
  pub parts : tokens ≡ words ++ rest
  pub left_is : left ≡ length rest
  pub runs_there : runs class state words ≡ true
  pub can_rest : can rest ≡ true
  pub is_nearest : (others behind : List Token) → tokens ≡ others ++ behind → runs class state others ≡ true → can behind ≡ true → length words ≤ length others

-- no words in front are such
abbrev pub HasNoEnd : Class → State → (List Token → Bool) → List Token → Type 0
HasNoEnd class state can tokens = (others behind : List Token) → tokens ≡ others ++ behind → runs class state others ≡ true → can behind ≡ true → ⊥

abbrev pub Ended : Class → State → (List Token → Bool) → List Token → Option ℕ → Type 0
Ended class state can tokens None = HasNoEnd class state can tokens
Ended class state can tokens (Some left) = Ends class state can tokens left

pub and_left : (a b : Bool) → (a && b) ≡ true → a ≡ true
and_left true b one = refl
and_left false b one = absurd (false≢true one)

pub and_right : (a b : Bool) → (a && b) ≡ true → b ≡ true
and_right true b one = one
and_right false b one = absurd (false≢true one)

-- it ends where it stands
ends_here : (class : Class) (state : State) (can : List Token → Bool) (tokens : List Token) → (accepts state && can tokens) ≡ true → Ends class state can tokens (length tokens)
ends_here class state can tokens here = record {
  words = [];
  rest = tokens;
  parts = refl;
  left_is = refl;
  runs_there = and_left (accepts state) (can tokens) here;
  can_rest = and_right (accepts state) (can tokens) here;
  is_nearest = λ others behind parts runs_it can_it. omega arith;
}

-- it doesn't end without a word
not_none : (class : Class) (state : State) (can : List Token → Bool) → (accepts state && can []) ≡ false → HasNoEnd class state can []
not_none class state can here [] behind parts runs_it can_it = false≢true (sym here ∙ and_from (accepts state) (can []) runs_it (ap can parts ∙ can_it))
not_none class state can here (first ∷ others) behind parts runs_it can_it = nil-cons first (others ++ behind) parts

-- it doesn't end here, and behind one more word as told
later_none : (class : Class) (state : State) (can : List Token → Bool) (token : Token) (tokens : List Token) → (accepts state && can (token ∷ tokens)) ≡ false → ((others behind : List Token) → tokens ≡ others ++ behind → then_runs (step class state token) (λ after. runs class after others) ≡ true → can behind ≡ true → ⊥) → HasNoEnd class state can (token ∷ tokens)
later_none class state can token tokens here later [] behind parts runs_it can_it = false≢true (sym here ∙ and_from (accepts state) (can (token ∷ tokens)) runs_it (ap can parts ∙ can_it))
later_none class state can token tokens here later (first ∷ others) behind parts runs_it can_it =
    later others behind (same_tail token first tokens (others ++ behind) parts) (ap (λ t. then_runs (step class state t) (λ after. runs class after others)) (same_head token first tokens (others ++ behind) parts) ∙ runs_it) can_it

later_nearest : (class : Class) (state next : State) (can : List Token → Bool) (token : Token) (tokens words : List Token) → (accepts state && can (token ∷ tokens)) ≡ false → step class state token ≡ Some next → ((others behind : List Token) → tokens ≡ others ++ behind → runs class next others ≡ true → can behind ≡ true → length words ≤ length others) → (others behind : List Token) → token ∷ tokens ≡ others ++ behind → runs class state others ≡ true → can behind ≡ true → length (token ∷ words) ≤ length others
later_nearest class state next can token tokens words here steps later [] behind parts runs_it can_it = absurd (false≢true (sym here ∙ and_from (accepts state) (can (token ∷ tokens)) runs_it (ap can parts ∙ can_it)))
later_nearest class state next can token tokens words here steps later (first ∷ others) behind parts runs_it can_it =
    let follows : step class state first ≡ Some next = ap (λ t. step class state t) (sym (same_head token first tokens (others ++ behind) parts)) ∙ steps in
    let runs_on : runs class next others ≡ true = (let same : runs class state (first ∷ others) ≡ runs class next others = ap (λ o. then_runs o (λ after. runs class after others)) follows in sym same ∙ runs_it) in
    let fewer : length words ≤ length others = later others behind (same_tail token first tokens (others ++ behind) parts) runs_on can_it in
    omega (arith, fewer)

later_ends : (class : Class) (state next : State) (can : List Token → Bool) (token : Token) (tokens : List Token) (left : ℕ) → (accepts state && can (token ∷ tokens)) ≡ false → step class state token ≡ Some next → Ends class next can tokens left → Ends class state can (token ∷ tokens) left
later_ends class state next can token tokens left here steps later = record {
  words = token ∷ later.words;
  rest = later.rest;
  parts = ap (λ ts. token ∷ ts) later.parts;
  left_is = later.left_is;
  runs_there = rw steps later.runs_there;
  can_rest = later.can_rest;
  is_nearest = λ others behind parts runs_it can_it. later_nearest class state next can token tokens later.words here steps later.is_nearest others behind parts runs_it can_it;
}

ended_later : (class : Class) (state : State) (can : List Token → Bool) (token : Token) (tokens : List Token) → (accepts state && can (token ∷ tokens)) ≡ false → ((next : State) → Ended class next can tokens (nearest class next can tokens)) → Ended class state can (token ∷ tokens) (then_left (step class state token) (λ after. nearest class after can tokens))
ended_later class state can token tokens here later =
    let Goal : Option State → Type 0 = λ next. step class state token ≡ next → Ended class state can (token ∷ tokens) (then_left next (λ after. nearest class after can tokens))
    in elim (step class state token) as Goal [
      | None ↦ λ steps. later_none class state can token tokens here (λ others behind parts runs_it can_it. false≢true (ap (λ o. then_runs o (λ after. runs class after others)) (sym steps) ∙ runs_it))
      | Some next ↦ λ steps.
          let Last : Option ℕ → Type 0 = λ left. Ended class next can tokens left → Ended class state can (token ∷ tokens) left
          in (elim (nearest class next can tokens) as Last [
            | None ↦ λ none. later_none class state can token tokens here (λ others behind parts runs_it can_it. none others behind parts (ap (λ o. then_runs o (λ after. runs class after others)) (sym steps) ∙ runs_it) can_it)
            | Some left ↦ λ found. later_ends class state next can token tokens left here steps found
          ]) (later next)
    ] refl

-- what is found is the nearest end
pub ended : (class : Class) (state : State) (can : List Token → Bool) (tokens : List Token) → Ended class state can tokens (nearest class state can tokens)
ended class state can [] =
    let Goal : Bool → Type 0 = λ here. (accepts state && can []) ≡ here → Ended class state can [] (if here then Some 0 else None)
    in elim (accepts state && can []) as Goal [
      | true ↦ λ here. ends_here class state can [] here
      | false ↦ λ here. not_none class state can here
    ] refl
ended class state can (token ∷ tokens) =
    let later : (next : State) → Ended class next can tokens (nearest class next can tokens) = λ next. ended class next can tokens in
    let Goal : Bool → Type 0 = λ here. (accepts state && can (token ∷ tokens)) ≡ here → Ended class state can (token ∷ tokens) (if here then Some (length (token ∷ tokens)) else then_left (step class state token) (λ after. nearest class after can tokens))
    in elim (accepts state && can (token ∷ tokens)) as Goal [
      | true ↦ λ here. ends_here class state can (token ∷ tokens) here
      | false ↦ λ here. ended_later class state can token tokens here later
    ] refl
