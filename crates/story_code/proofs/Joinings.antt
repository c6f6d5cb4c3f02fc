-- Terms, clauses and conjunctions one behind the other.
use Rattle.std.proofs.Common.{◌≡◌, ℕ, suc, ◌-◌, ◌≤◌, List, [], ◌∷◌, ◌++◌, length, take, drop, get_or, fold, refl, sym, ap, ◌∙◌, arith}
use Rattle.std.proofs.lemmas.List.{take_all}
use Rattle.play_meaning.specs.Meant.{by_operator, clause_meant, conjunction_meant, joined_meant, term_meant}
use Rattle.play_meaning.specs.Translation.{condition_part, number_part, one, seq}
use Rattle.play_meaning.specs.Trees as tree
use Rattle.play_meaning.specs.declared.instruction.Instruction.{Instruction}
use Rattle.play_meaning.specs.declared.instruction.Instruction.TheVariants.{And, Or}
use Rattle.play_meaning.specs.declared.tree.condition.Clause.{Clause}
use Rattle.play_meaning.specs.declared.tree.condition.Conjunction.{Conjunction}
use Rattle.play_meaning.specs.declared.tree.number.Joined.{Joined}
use Rattle.play_meaning.specs.declared.tree.number.Operator.{Operator}
use Rattle.play_meaning.specs.declared.tree.number.Operator.TheVariants.{Minus, Plus, Times}
use Rattle.play_meaning.specs.declared.tree.number.Term.{Term}
use Rattle.story_code.specs.Emitting.{Emitting, clauses_emitted, conjunctions_emitted, emitted, operator_code, operators_emitted, terms_emitted}
use Rattle.story_code.proofs.Followed.{emitted_seq}

-- ---- numbers

by_code : (k : ℕ) (s : Emitting) (operator : Operator) (a b : tree.Number) → emitted (emitted (emitted s (number_part k a)) (number_part k b)) (one (operator_code operator)) ≡ emitted s (number_part k (by_operator operator a b))
unfolding number_part
by_code k s Plus a b = emitted_seq (emitted s (number_part k a)) (number_part k b) (one (operator_code Plus)) ∙ emitted_seq s (number_part k a) (seq (number_part k b) (one (operator_code Plus)))
by_code k s Minus a b = emitted_seq (emitted s (number_part k a)) (number_part k b) (one (operator_code Minus)) ∙ emitted_seq s (number_part k a) (seq (number_part k b) (one (operator_code Minus)))
by_code k s Times a b = emitted_seq (emitted s (number_part k a)) (number_part k b) (one (operator_code Times)) ∙ emitted_seq s (number_part k a) (seq (number_part k b) (one (operator_code Times)))

pub number_joined : (k : ℕ) (s : Emitting) (first : Term) (rest : List Joined) → operators_emitted (terms_emitted k (emitted s (number_part k (term_meant first))) rest) rest ≡ emitted s (number_part k (joined_meant first rest))
number_joined k s first [] = refl
number_joined k s first (joined ∷ rest) =
    ap (λ t. emitted t (one (operator_code joined.operator))) (number_joined k (emitted s (number_part k (term_meant first))) joined.term rest)
    ∙ by_code k s joined.operator (term_meant first) (joined_meant joined.term rest)

pub terms_step : (k : ℕ) (s t all : Emitting) (rest : List Joined) (d : Joined) → 1 ≤ length rest → d ≡ get_or rest 0 d → terms_emitted k s rest ≡ all → t ≡ emitted s (number_part k (term_meant d.term)) → terms_emitted k t (take (length rest - 1) (drop 1 rest)) ≡ all
terms_step k s t all [] d l is so_far is_t = absurd (omega arith)
terms_step k s t all (joined ∷ rest) d l is so_far is_t =
    let whole : take (suc (length rest) - 1) rest ≡ rest = take_all _ rest (omega arith) in
    rw whole (ap (λ u. terms_emitted k u rest) (is_t ∙ ap (λ j. emitted s (number_part k (term_meant j.term))) is) ∙ so_far)

-- ---- conditions

pub clauses_joined : (k : ℕ) (s : Emitting) (first : tree.Condition) (rest : List Clause) → clauses_emitted k (emitted s (condition_part k first)) rest ≡ emitted s (condition_part k (fold (λ all clause. tree.And all (clause_meant clause)) first rest))
unfolding condition_part
clauses_joined k s first [] = refl
clauses_joined k s first (clause ∷ rest) =
    ap (λ t. clauses_emitted k t rest) (emitted_seq (emitted s (condition_part k first)) (condition_part k (clause_meant clause)) (one And) ∙ emitted_seq s (condition_part k first) (seq (condition_part k (clause_meant clause)) (one And)))
    ∙ clauses_joined k s (tree.And first (clause_meant clause)) rest

pub clauses_step : (k : ℕ) (s t u all : Emitting) (rest : List Clause) (d : Clause) → 1 ≤ length rest → d ≡ get_or rest 0 d → clauses_emitted k s rest ≡ all → t ≡ emitted s (condition_part k (clause_meant d)) → u ≡ emitted t (one And) → clauses_emitted k u (take (length rest - 1) (drop 1 rest)) ≡ all
clauses_step k s t u all [] d l is so_far is_t is_u = absurd (omega arith)
clauses_step k s t u all (clause ∷ rest) d l is so_far is_t is_u =
    let whole : take (suc (length rest) - 1) rest ≡ rest = take_all _ rest (omega arith) in
    rw whole (ap (λ v. clauses_emitted k v rest) (is_u ∙ ap (λ t. emitted t (one And)) (is_t ∙ ap (λ c. emitted s (condition_part k (clause_meant c))) is)) ∙ so_far)

pub conjunctions_joined : (k : ℕ) (s : Emitting) (first : tree.Condition) (rest : List Conjunction) → conjunctions_emitted k (emitted s (condition_part k first)) rest ≡ emitted s (condition_part k (fold (λ any conjunction. tree.Or any (conjunction_meant conjunction)) first rest))
unfolding condition_part
conjunctions_joined k s first [] = refl
conjunctions_joined k s first (conjunction ∷ rest) =
    ap (λ t. conjunctions_emitted k t rest) (emitted_seq (emitted s (condition_part k first)) (condition_part k (conjunction_meant conjunction)) (one Or) ∙ emitted_seq s (condition_part k first) (seq (condition_part k (conjunction_meant conjunction)) (one Or)))
    ∙ conjunctions_joined k s (tree.Or first (conjunction_meant conjunction)) rest

pub conjunctions_step : (k : ℕ) (s t u all : Emitting) (rest : List Conjunction) (d : Conjunction) → 1 ≤ length rest → d ≡ get_or rest 0 d → conjunctions_emitted k s rest ≡ all → t ≡ emitted s (condition_part k (conjunction_meant d)) → u ≡ emitted t (one Or) → conjunctions_emitted k u (take (length rest - 1) (drop 1 rest)) ≡ all
conjunctions_step k s t u all [] d l is so_far is_t is_u = absurd (omega arith)
conjunctions_step k s t u all (conjunction ∷ rest) d l is so_far is_t is_u =
    let whole : take (suc (length rest) - 1) rest ≡ rest = take_all _ rest (omega arith) in
    rw whole (ap (λ v. conjunctions_emitted k v rest) (is_u ∙ ap (λ t. emitted t (one Or)) (is_t ∙ ap (λ c. emitted s (condition_part k (conjunction_meant c))) is)) ∙ so_far)

operators_last : (s : Emitting) (before : List Joined) (last : Joined) → operators_emitted (emitted s (one (operator_code last.operator))) before ≡ operators_emitted s (before ++ last ∷ [])
operators_last s [] last = refl
operators_last s (joined ∷ before) last = ap (λ t. emitted t (one (operator_code joined.operator))) (operators_last s before last)

pub operators_step : (s t all : Emitting) (i : Instruction) (rest before : List Joined) (last : Joined) → rest ≡ before ++ last ∷ [] → operators_emitted s rest ≡ all → i ≡ operator_code last.operator → t ≡ emitted s (one i) → operators_emitted t before ≡ all
operators_step s t all i rest before last is so_far code is_t =
    ap (λ u. operators_emitted u before) (is_t ∙ ap (λ i. emitted s (one i)) code) ∙ operators_last s before last ∙ ap (operators_emitted s) (sym is) ∙ so_far

pub number_emitted : (k : ℕ) (s t u v : Emitting) (first : Term) (rest joined : List Joined) → joined ≡ rest → t ≡ emitted s (number_part k (term_meant first)) → u ≡ terms_emitted k t joined → v ≡ operators_emitted u joined → v ≡ emitted s (number_part k (joined_meant first rest))
number_emitted k s t u v first rest joined same is_t is_u is_v =
    is_v ∙ ap (λ u. operators_emitted u joined) (is_u ∙ ap (λ t. terms_emitted k t joined) is_t)
    ∙ number_joined k s first joined ∙ ap (λ rest. emitted s (number_part k (joined_meant first rest))) same
