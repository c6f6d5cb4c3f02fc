-- The end of a comment: the bracket that closes it.
use Rattle.std.proofs.Common.{◌≡◌, ◌≢◌, ℕ, ◌+◌, ◌-◌, zero, suc, Bool, true, false, eqb, cond, List, [], ◌∷◌, ◌++◌, Option, Some, None, refl, sym, ap, ◌∙◌, subst, append_assoc, arith}
use Rattle.std.proofs.lemmas.Bool.{eqb-true, eqb-false, false_from_ne_true}
use Rattle.i7_lexer.specs.Lexemes.{IsInside}
use Rattle.i7_lexer.specs.Lexemes.IsInside.{nothing, byte, nested}
use Rattle.i7_lexer.specs.Scans.{closing}

-- so many insides of comments, each with its bracket, and then the rest
abbrev Closes : ℕ → List ℕ → List ℕ → Type 0
Closes zero bytes rest = bytes ≡ rest
Closes (suc depth) bytes rest = (inner : List ℕ) × ((after : List ℕ) × (IsInside inner × ((bytes ≡ inner ++ 93 ∷ after) × Closes depth after rest)))

opened : (depth : ℕ) (bytes rest : List ℕ) → Closes (suc (suc depth)) bytes rest → Closes (suc depth) (91 ∷ bytes) rest
opened depth bytes rest (inner, (after, (inside, (parts, (inner', (after', (inside', (parts', more)))))))) =
    let whole : 91 ∷ bytes ≡ (91 ∷ inner ++ 93 ∷ inner') ++ 93 ∷ after' = ap (λ t. 91 ∷ t) (parts ∙ (ap (λ t. inner ++ 93 ∷ t) parts' ∙ sym (append_assoc inner (93 ∷ inner') (93 ∷ after')))) in
    (91 ∷ inner ++ 93 ∷ inner', (after', (nested inside inside', (whole, more))))

closed : (depth : ℕ) (bytes rest : List ℕ) → Closes depth bytes rest → Closes (suc depth) (93 ∷ bytes) rest
closed depth bytes rest more = ([], (bytes, (nothing, (refl, more))))

passed : (depth b : ℕ) (bytes rest : List ℕ) → b ≢ 91 → b ≢ 93 → Closes (suc depth) bytes rest → Closes (suc depth) (b ∷ bytes) rest
passed depth b bytes rest no_open no_close (inner, (after, (inside, (parts, more)))) =
    (b ∷ inner, (after, (byte no_open no_close inside, (ap (λ t. b ∷ t) parts, more))))

closes_by : (depth b : ℕ) (bytes rest : List ℕ) (v w x : Bool) → eqb b 91 ≡ v → eqb b 93 ≡ w → eqb depth 0 ≡ x
    → ((d : ℕ) → closing d bytes ≡ Some rest → Closes (suc d) bytes rest)
    → cond v (closing (depth + 1) bytes) (cond w (cond x (Some bytes) (closing (depth - 1) bytes)) (closing depth bytes)) ≡ Some rest
    → Closes (suc depth) (b ∷ bytes) rest
closes_by depth b bytes rest true w x p q r next h =
    let first : b ≡ 91 = eqb-true b 91 p in
    let deeper : depth + 1 ≡ suc depth = omega arith in
    let whole : Closes (suc depth) (91 ∷ bytes) rest = opened depth bytes rest (let D : ℕ → Type 0 = λ d. Closes (suc d) bytes rest in subst D deeper (next (depth + 1) h)) in
    let P : ℕ → Type 0 = λ c. Closes (suc depth) (c ∷ bytes) rest in subst P (sym first) whole
closes_by depth b bytes rest false true true p q r next h =
    let first : b ≡ 93 = eqb-true b 93 q in
    let flat : depth ≡ 0 = eqb-true depth 0 r in
    let same : bytes ≡ rest = cc in
    let whole : Closes 1 (93 ∷ bytes) rest = closed 0 bytes rest same in
    let P : ℕ → Type 0 = λ c. Closes (suc depth) (c ∷ bytes) rest in subst P (sym first) (let D : ℕ → Type 0 = λ d. Closes (suc d) (93 ∷ bytes) rest in subst D (sym flat) whole)
closes_by depth b bytes rest false true false p q r next h =
    let first : b ≡ 93 = eqb-true b 93 q in
    let deep : suc (depth - 1) ≡ depth = omega (arith, eqb-false depth 0 r) in
    let whole : Closes (suc depth) (93 ∷ bytes) rest = closed depth bytes rest (let D : ℕ → Type 0 = λ d. Closes d bytes rest in subst D deep (next (depth - 1) h)) in
    let P : ℕ → Type 0 = λ c. Closes (suc depth) (c ∷ bytes) rest in subst P (sym first) whole
closes_by depth b bytes rest false false x p q r next h =
    passed depth b bytes rest (eqb-false b 91 p) (eqb-false b 93 q) (next depth h)

closes : (bytes rest : List ℕ) (depth : ℕ) → closing depth bytes ≡ Some rest → Closes (suc depth) bytes rest
closes [] rest depth h = cc
closes (b ∷ bytes) rest depth h = closes_by depth b bytes rest (eqb b 91) (eqb b 93) (eqb depth 0) refl refl refl (λ d e. closes bytes rest d e) h

pub record IsCommented (bytes rest : List ℕ) : Type 0 where
  pub inner : List ℕ
  pub parts : bytes ≡ inner ++ 93 ∷ rest
  pub inside : IsInside inner

commented_by : (bytes rest : List ℕ) → Closes 1 bytes rest → IsCommented bytes rest
commented_by bytes rest (inner, (after, (inside, (parts, same)))) = record { inner = inner; parts = parts ∙ ap (λ t. inner ++ 93 ∷ t) same; inside = inside }

pub commented : (bytes rest : List ℕ) → closing 0 bytes ≡ Some rest → IsCommented bytes rest
commented bytes rest h = commented_by bytes rest (closes bytes rest 0 h)

-- behind the inside of a comment its bracket is met at the depth before
inside_closes : (inner : List ℕ) → IsInside inner → (depth : ℕ) (rest : List ℕ) → closing depth (inner ++ 93 ∷ rest) ≡ cond (eqb depth 0) (Some rest) (closing (depth - 1) rest)
inside_closes [] nothing depth rest = refl
inside_closes (b ∷ bytes) (byte no_open no_close inside) depth rest =
    let first : eqb b 91 ≡ false = false_from_ne_true (eqb b 91) (λ e. no_open (eqb-true b 91 e)) in
    let second : eqb b 93 ≡ false = false_from_ne_true (eqb b 93) (λ e. no_close (eqb-true b 93 e)) in
    rw (first, second) (inside_closes bytes inside depth rest)
inside_closes (b ∷ whole) (nested {inner} {bytes} inside more) depth rest =
    let regroup : (inner ++ 93 ∷ bytes) ++ 93 ∷ rest ≡ inner ++ 93 ∷ (bytes ++ 93 ∷ rest) = append_assoc inner (93 ∷ bytes) (93 ∷ rest) in
    let deeper : eqb (depth + 1) 0 ≡ false = false_from_ne_true (eqb (depth + 1) 0) (λ e. let zero_is : depth + 1 ≡ 0 = eqb-true (depth + 1) 0 e in omega arith) in
    let back : depth + 1 - 1 ≡ depth = omega arith in
    rw regroup (inside_closes inner inside (depth + 1) (bytes ++ 93 ∷ rest) ∙ rw (deeper, back) (inside_closes bytes more depth rest))

pub closing_at : (inner rest : List ℕ) → IsInside inner → closing 0 (inner ++ 93 ∷ rest) ≡ Some rest
closing_at inner rest inside = inside_closes inner inside 0 rest

pub closing_none : (bytes : List ℕ) → ((inner rest : List ℕ) → IsInside inner → bytes ≡ inner ++ 93 ∷ rest → ⊥) → closing 0 bytes ≡ None
closing_none bytes never = none_by (closing 0 bytes) refl
  where
    none_by : (found : Option (List ℕ)) → closing 0 bytes ≡ found → closing 0 bytes ≡ None
    none_by None e = e
    none_by (Some rest) e = let c = commented bytes rest e in absurd (never c.inner rest c.inside c.parts)
