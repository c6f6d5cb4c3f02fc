-- What joins terms, conditions, pieces and phrases: a list of them fits where each fits.
use Rattle.std.proofs.Common.{◌≡◌, ◌∙◌, refl, sym, ap, ℕ, zero, suc, ◌+◌, ◌-◌, ◌<◌, ◌≤◌, ◌&&◌, Bool, true, false, List, [], ◌∷◌, length, drop, take, get_or, fold, Global, Vec, arith}
use Rattle.std.proofs.lemmas.List.{take_all}
use Rattle.std.proofs.Math.ListN.{drop_of_length-le}
use Rattle.std.specs.List.{list_all}
use Rattle.std.proofs.Math.Bool.{and-true}
use Rattle.play_meaning.specs.Composed.{if_meant, repeat_meant}
use Rattle.play_meaning.specs.Meant.{body_meant, branches_meant, by_operator, clause_meant, condition_meant, conjunction_meant, description_meant, joined_meant, not_if, parts_meant, phrase_meant, piece_meant, pieces_meant, said_meant, term_meant}
use Rattle.play_meaning.specs.Trees as tree
use Rattle.play_meaning.specs.declared.operand.Counts.{Counts}
use Rattle.play_meaning.specs.declared.operand.Use.{Use}
use Rattle.play_meaning.specs.declared.tree.condition.Clause.{Clause}
use Rattle.play_meaning.specs.declared.tree.condition.Conjunction.{Conjunction}
use Rattle.play_meaning.specs.declared.tree.number.Joined.{Joined}
use Rattle.play_meaning.specs.declared.tree.number.Operator.{Operator}
use Rattle.play_meaning.specs.declared.tree.number.Operator.TheVariants.{Minus, Plus, Times}
use Rattle.play_meaning.specs.declared.tree.number.Term.{Term}
use Rattle.play_meaning.specs.declared.tree.object.Description.{Description}
use Rattle.play_meaning.specs.declared.tree.phrase.Branch.{Branch}
use Rattle.play_meaning.specs.declared.tree.phrase.Phrase.{Phrase}
use Rattle.play_meaning.specs.declared.tree.phrase.Phrase.TheVariants as phrase
use Rattle.play_meaning.specs.declared.tree.said.Piece.{Piece}
use Rattle.play_meaning.specs.declared.tree.said.Piece.TheVariants as piece
use Rattle.play_meaning.specs.declared.tree.said.Said.{Said}
use Rattle.play_meaning.specs.declared.tree.said.Said.TheVariants as said
use Rattle.story_code.specs.Fits.{body_fits, branch_fits, condition_fits, number_fits, phrase_fits, piece_fits, said_fits, test_fits, text_fits}

and_assoc : (a b c : Bool) → ((a && b) && c) ≡ (a && (b && c))
and_assoc true b c = refl
and_assoc false b c = refl

pub none_first : (a b r : Bool) → r ≡ a → r ≡ false → false ≡ (a && b)
none_first a b r is not_so = ap (λ x. x && b) (sym not_so ∙ is)

pub then_next : (a b r : Bool) → r ≡ a → r ≡ true → b ≡ (a && b)
then_next a b r is so = ap (λ x. x && b) (sym so ∙ is)

pub operator_fits : (z : Counts) (k : ℕ) (operator : Operator) (a b : tree.Number) (room : ℕ) → number_fits z k (by_operator operator a b) room ≡ (number_fits z k a room && number_fits z k b (room - 1))
unfolding number_fits
operator_fits z k Plus a b room = refl
operator_fits z k Minus a b room = refl
operator_fits z k Times a b room = refl

-- a term, and what is joined to it
pub terms_tell : (z : Counts) (k : ℕ) (first : Term) (rest : List Joined) (d : Joined) (room fewer : ℕ) (r s : Bool) → 1 ≤ length rest → d ≡ get_or rest 0 d → fewer ≡ room - 1
    → r ≡ number_fits z k (term_meant first) room → r ≡ true → s ≡ number_fits z k (joined_meant d.term (take (length rest - 1) (drop 1 rest))) fewer
    → s ≡ number_fits z k (joined_meant first rest) room
terms_tell z k first [] d room fewer r s l is less tells so is_s = absurd (omega (arith, l))
terms_tell z k first (joined ∷ rest) d room fewer r s l is less tells so is_s =
    let whole : take (suc (length rest) - 1) rest ≡ rest = take_all _ rest (omega arith) in
    is_s ∙ ap (λ more. number_fits z k (joined_meant d.term more) fewer) whole ∙ ap (λ (j : Joined). number_fits z k (joined_meant j.term rest) fewer) is
    ∙ ap (number_fits z k (joined_meant joined.term rest)) less ∙ ap (λ b. b && number_fits z k (joined_meant joined.term rest) (room - 1)) (sym so ∙ tells)
    ∙ sym (operator_fits z k joined.operator (term_meant first) (joined_meant joined.term rest) room)

pub not_fits : (z : Counts) (k : ℕ) (denied : Bool) (c : tree.Condition) (room : ℕ) → condition_fits z k (not_if denied c) room ≡ condition_fits z k c room
unfolding condition_fits
not_fits z k true c room = refl
not_fits z k false c room = refl

pub clauses_tell : (z : Counts) (k : ℕ) (first : tree.Condition) (rest : List Clause) (room : ℕ)
    → condition_fits z k (fold (λ all clause. tree.And all (clause_meant clause)) first rest) room ≡ (condition_fits z k first room && list_all (λ c. condition_fits z k (clause_meant c) (room - 1)) rest)
unfolding condition_fits
clauses_tell z k first [] room = sym (and-true (condition_fits z k first room))
clauses_tell z k first (clause ∷ rest) room =
    clauses_tell z k (tree.And first (clause_meant clause)) rest room
    ∙ and_assoc (condition_fits z k first room) (condition_fits z k (clause_meant clause) (room - 1)) (list_all (λ c. condition_fits z k (clause_meant c) (room - 1)) rest)

pub conjunctions_tell : (z : Counts) (k : ℕ) (first : tree.Condition) (rest : List Conjunction) (room : ℕ)
    → condition_fits z k (fold (λ any conjunction. tree.Or any (conjunction_meant conjunction)) first rest) room ≡ (condition_fits z k first room && list_all (λ c. condition_fits z k (conjunction_meant c) (room - 1)) rest)
unfolding condition_fits
conjunctions_tell z k first [] room = sym (and-true (condition_fits z k first room))
conjunctions_tell z k first (conjunction ∷ rest) room =
    conjunctions_tell z k (tree.Or first (conjunction_meant conjunction)) rest room
    ∙ and_assoc (condition_fits z k first room) (condition_fits z k (conjunction_meant conjunction) (room - 1)) (list_all (λ c. condition_fits z k (conjunction_meant c) (room - 1)) rest)

pub ruleset conditions_tell = (not_fits, clauses_tell, conjunctions_tell)

piece_first : (z : Counts) (whose : Use) (string : List ℕ → ℕ) (k : ℕ) (p : Piece) (more : tree.Text)
    → text_fits z whose string k (piece_meant p more) ≡ (piece_fits z whose string k p && text_fits z whose string k more)
unfolding text_fits
piece_first z whose string k (piece.Bytes bytes) more = refl
piece_first z whose string k (piece.Figure number) more = refl
piece_first z whose string k (piece.Name naming o) more = refl
piece_first z whose string k (piece.Listing naming description) more = refl
piece_first z whose string k (piece.DescriptionOf o) more = refl
piece_first z whose string k (piece.ValueName q o) more = refl

pieces_tell : (z : Counts) (whose : Use) (string : List ℕ → ℕ) (k : ℕ) (pieces : List Piece)
    → text_fits z whose string k (pieces_meant pieces) ≡ list_all (piece_fits z whose string k) pieces
unfolding text_fits
pieces_tell z whose string k [] = refl
pieces_tell z whose string k (p ∷ pieces) = piece_first z whose string k p (pieces_meant pieces) ∙ ap (λ b. piece_fits z whose string k p && b) (pieces_tell z whose string k pieces)

said_first : (z : Counts) (whose : Use) (string : List ℕ → ℕ) (k : ℕ) (p : Said) (more : tree.Text)
    → text_fits z whose string k (said_meant p more) ≡ (said_fits z whose string k p && text_fits z whose string k more)
unfolding text_fits
said_first z whose string k (said.Plain piece) more = piece_first z whose string k piece more
said_first z whose string k (said.If condition pieces others) more =
    ap (λ b. condition_fits z k (condition_meant condition) 64 && ((b && text_fits z whose string k (pieces_meant others.items)) && text_fits z whose string k more)) (pieces_tell z whose string k pieces.items)
    ∙ ap (λ b. condition_fits z k (condition_meant condition) 64 && ((list_all (piece_fits z whose string k) pieces.items && b) && text_fits z whose string k more)) (pieces_tell z whose string k others.items)
    ∙ sym (and_assoc (condition_fits z k (condition_meant condition) 64) (list_all (piece_fits z whose string k) pieces.items && list_all (piece_fits z whose string k) others.items)
    (text_fits z whose string k more))

pub parts_tell : (z : Counts) (whose : Use) (string : List ℕ → ℕ) (k : ℕ) (parts : List Said)
    → text_fits z whose string k (parts_meant parts) ≡ list_all (said_fits z whose string k) parts
unfolding text_fits
parts_tell z whose string k [] = refl
parts_tell z whose string k (p ∷ parts) = said_first z whose string k p (parts_meant parts) ∙ ap (λ b. said_fits z whose string k p && b) (parts_tell z whose string k parts)

-- ---- lists that are looked at one by one

module _ {A : Type 0} (fits : A → Bool) where
  all_from : (xs : List A) (at : ℕ) (d : A) → at < length xs → list_all fits (drop at xs) ≡ (fits (get_or xs at d) && list_all fits (drop (suc at) xs))
  all_from [] at d l = absurd (omega (arith, l))
  all_from (x ∷ xs) zero d l = refl
  all_from (x ∷ xs) (suc at) d l = all_from xs at d (omega (arith, l))

  pub all_step : (xs : List A) (at : ℕ) (x : A) (r : Bool) → at < length xs → x ≡ get_or xs at x → list_all fits (drop at xs) ≡ list_all fits xs → r ≡ fits x → r ≡ true
      → list_all fits (drop (at + 1) xs) ≡ list_all fits xs
  all_step xs at x r l is so_far tells so_it_is =
      let next : at + 1 ≡ suc at = omega arith in
      let so : fits (get_or xs at x) ≡ true = ap fits (sym is) ∙ sym tells ∙ so_it_is in
      ap (λ n. list_all fits (drop n xs)) next ∙ (ap (λ b. b && list_all fits (drop (suc at) xs)) (sym so) ∙ sym (all_from xs at x l) ∙ so_far)

  pub all_stop : (xs : List A) (at : ℕ) (x : A) (r : Bool) → at < length xs → x ≡ get_or xs at x → list_all fits (drop at xs) ≡ list_all fits xs → r ≡ fits x → r ≡ false → false ≡ list_all fits xs
  all_stop xs at x r l is so_far tells not_so =
      let so : fits (get_or xs at x) ≡ false = ap fits (sym is) ∙ sym tells ∙ not_so in
      ap (λ b. b && list_all fits (drop (suc at) xs)) (sym so) ∙ sym (all_from xs at x l) ∙ so_far

  pub all_end : (xs : List A) (at : ℕ) → length xs ≤ at → list_all fits (drop at xs) ≡ list_all fits xs → true ≡ list_all fits xs
  all_end xs at l so_far = ap (list_all fits) (sym (drop_of_length-le xs l)) ∙ so_far

-- ---- phrases

abbrev pub fits_here : Counts → (List ℕ → ℕ) → ℕ → Phrase → Bool
fits_here z string k p = phrase_fits z string k (phrase_meant p)

pub body_tells : (z : Counts) (string : List ℕ → ℕ) (k : ℕ) (body : List Phrase) → body_fits z string k (body_meant body) ≡ list_all (fits_here z string k) body
unfolding body_fits
body_tells z string k [] = refl
body_tells z string k (p ∷ body) = ap (λ b. phrase_fits z string k (phrase_meant p) && b) (body_tells z string k body)

pub branches_tell : (z : Counts) (string : List ℕ → ℕ) (k : ℕ) (branches : List Branch) (others : tree.Body)
    → body_fits z string k (branches_meant branches others) ≡ (list_all (branch_fits z string k) branches && body_fits z string k others)
unfolding body_fits phrase_fits
branches_tell z string k [] others = refl
branches_tell z string k (branch ∷ branches) others =
    and-true _ ∙ ap (λ b. condition_fits z k (condition_meant branch.condition) 64 && (body_fits z string k (body_meant branch.phrases.items) && b)) (branches_tell z string k branches others)
    ∙ sym (four (condition_fits z k (condition_meant branch.condition) 64) (body_fits z string k (body_meant branch.phrases.items)) (list_all (branch_fits z string k) branches) (body_fits z string k others))
  where
    four : (a b c d : Bool) → (((a && b) && c) && d) ≡ (a && (b && (c && d)))
    four true true c d = refl
    four true false c d = refl
    four false b c d = refl

-- a choice fits where its first branch does, each further one, and what is done otherwise
pub choice_tells : (z : Counts) (string : List ℕ → ℕ) (k : ℕ) (p : Phrase) (first : Branch) (v : Vec Branch Global) (w : Vec Phrase Global) (a : List Branch) (b : List Phrase)
    → p ≡ phrase.If first v w → a ≡ v.items → b ≡ w.items
    → phrase_fits z string k (phrase_meant p) ≡ (branch_fits z string k first && (list_all (branch_fits z string k) a && body_fits z string k (body_meant b)))
unfolding phrase_fits
choice_tells z string k p first v w a b is is_a is_b =
    ap (phrase_fits z string k) (sym (if_meant p first v w a b is is_a is_b))
    ∙ ap (λ x. condition_fits z k (condition_meant first.condition) 64 && (body_fits z string k (body_meant first.phrases.items) && x)) (branches_tell z string k a (body_meant b))
    ∙ sym (and_assoc (condition_fits z k (condition_meant first.condition) 64) (body_fits z string k (body_meant first.phrases.items)) (list_all (branch_fits z string k) a && body_fits z string k (body_meant b)))

pub loop_tells : (z : Counts) (string : List ℕ → ℕ) (k : ℕ) (p : Phrase) (description : Description) (v : Vec Phrase Global) (a : List Phrase) → p ≡ phrase.Repeat description v → a ≡ v.items
    → phrase_fits z string k (phrase_meant p) ≡ (test_fits z k (description_meant description) && body_fits z string (k + 1) (body_meant a))
unfolding phrase_fits
loop_tells z string k p description v a is is_a = ap (phrase_fits z string k) (sym (repeat_meant p description v a is is_a))
