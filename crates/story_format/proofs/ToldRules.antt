-- Rules and scenes that are told alike, and whose codes are named in turn, are the same.
use Rattle.std.proofs.Common.{◌≡◌, ◌∙◌, ap, sym, subst, refl, ℕ, ◌+◌, ◌<◌, ◌≤◌, true, eqb, List, [], ◌∷◌, length, inl, inr, arith}
use Rattle.std.specs.Prelude.{map}
use Rattle.std.specs.List.{AllZip, flat_map}
use Rattle.std.proofs.lemmas.Bool.{eqb-true, eqb-false, cases_Bool, and_parts}
use Rattle.story_format.specs.RuleChecks.{code_if, code_of_body, codes_in_rule, codes_in_rules, codes_in_scene, codes_in_scenes}
use Rattle.story_format.specs.Soundness.{are_in_turn}
use Rattle.story_format.specs.Telling.{uncoded_body, uncoded_number, uncoded_rule, uncoded_scene}
use Rattle.story_format.specs.declared.rule_entry.RuleBody.{RuleBody}
use Rattle.story_format.specs.declared.rule_entry.RuleBody.TheVariants.{Code, Standard, Unknown}
use Rattle.story_format.specs.declared.rule_entry.RuleEntry.{RuleEntry}
use Rattle.story_format.specs.declared.rule_tables.SceneEntry.{SceneEntry}
use Rattle.story_format.proofs.Turns.{turn_parted}

-- ---- numbers

one_number : (n m next : ℕ) → uncoded_number n ≡ uncoded_number m → are_in_turn next (code_if n) ≡ true → are_in_turn next (code_if m) ≡ true → n ≡ m
unfolding are_in_turn
one_number n m next told h k =
    elim (cases_Bool (eqb n 65535)) [
      | inl none ↦
          elim (cases_Bool (eqb m 65535)) [
            | inl none_too ↦ eqb-true _ _ none ∙ sym (eqb-true _ _ none_too)
            | inr some ↦ let wrong : 65535 ≡ 0 = rw (none, some) at told in absurd (omega (arith, wrong))
          ]
      | inr some ↦
          elim (cases_Bool (eqb m 65535)) [
            | inl none ↦ let wrong : 0 ≡ 65535 = rw (some, none) at told in absurd (omega (arith, wrong))
            | inr some_too ↦
                let here : are_in_turn next (n ∷ []) ≡ true = rw some at h in
                let there : are_in_turn next (m ∷ []) ≡ true = rw some_too at k in
                eqb-true n next (and_parts (eqb n next) true here).0 ∙ sym (eqb-true m next (and_parts (eqb m next) true there).0)
          ]
    ]

one_body : (a b : RuleBody) (next : ℕ) → uncoded_body a ≡ uncoded_body b → are_in_turn next (code_of_body a) ≡ true → are_in_turn next (code_of_body b) ≡ true → a ≡ b
unfolding are_in_turn
one_body (Code n) (Code m) next told h k = ap Code (eqb-true n next (and_parts (eqb n next) true h).0 ∙ sym (eqb-true m next (and_parts (eqb m next) true k).0))
one_body (Code n) (Standard m) next told h k = absurd cc
one_body (Code n) (Unknown m) next told h k = absurd cc
one_body (Standard n) (Code m) next told h k = absurd cc
one_body (Standard n) (Standard m) next told h k = told
one_body (Standard n) (Unknown m) next told h k = absurd cc
one_body (Unknown n) (Code m) next told h k = absurd cc
one_body (Unknown n) (Standard m) next told h k = absurd cc
one_body (Unknown n) (Unknown m) next told h k = told

-- ---- rules

same_rule : (r s : RuleEntry) → uncoded_rule r ≡ uncoded_rule s → r.condition ≡ s.condition → r.body ≡ s.body → r ≡ s
same_rule r s told condition body =
    λ i. record {
      book = (told i).book;
      action = (told i).action;
      noun = (told i).noun;
      second = (told i).second;
      place = (told i).place;
      scene = (told i).scene;
      condition = condition i;
      body = body i;
    }

one_rule : (r s : RuleEntry) (next : ℕ) → uncoded_rule r ≡ uncoded_rule s → are_in_turn next (codes_in_rule r) ≡ true → are_in_turn next (codes_in_rule s) ≡ true → r ≡ s
one_rule r s next told h k =
    let p = turn_parted (code_if r.condition) (code_of_body r.body) next h in
    let q = turn_parted (code_if s.condition) (code_of_body s.body) next k in
    let condition = one_number r.condition s.condition next (ap (λ (x : RuleEntry). x.condition) told) p.0 q.0 in
    let moved : are_in_turn (next + length (code_if r.condition)) (code_of_body s.body) ≡ true = ap (λ n. are_in_turn (next + length (code_if n)) (code_of_body s.body)) condition ∙ q.1 in
    same_rule r s told condition (one_body r.body s.body (next + length (code_if r.condition)) (ap (λ (x : RuleEntry). x.body) told) p.1 moved)

-- ---- scenes

one_scene : (r s : SceneEntry) (next : ℕ) → uncoded_scene r ≡ uncoded_scene s → are_in_turn next (codes_in_scene r) ≡ true → are_in_turn next (codes_in_scene s) ≡ true → r ≡ s
one_scene r s next told h k =
    let p = turn_parted (code_if r.begins) (code_if r.ends) next h in
    let q = turn_parted (code_if s.begins) (code_if s.ends) next k in
    let begins = one_number r.begins s.begins next (ap (λ (x : SceneEntry). x.begins) told) p.0 q.0 in
    let moved : are_in_turn (next + length (code_if r.begins)) (code_if s.ends) ≡ true = ap (λ n. are_in_turn (next + length (code_if n)) (code_if s.ends)) begins ∙ q.1 in
    let ends = one_number r.ends s.ends (next + length (code_if r.begins)) (ap (λ (x : SceneEntry). x.ends) told) p.1 moved in
    λ i. record { recurring = (told i).recurring; begins = begins i; ends = ends i }

-- ---- all of them

module _ {X : Type 0} (codes : X → List ℕ) (uncoded : X → X) (one : (x y : X) (next : ℕ) → uncoded x ≡ uncoded y → are_in_turn next (codes x) ≡ true → are_in_turn next (codes y) ≡ true → x ≡ y) where
  all_again : (xs ys : List X) (next : ℕ) → map uncoded xs ≡ map uncoded ys → are_in_turn next (flat_map codes xs) ≡ true → are_in_turn next (flat_map codes ys) ≡ true → xs ≡ ys
  all_again [] [] next told h k = refl
  all_again [] (y ∷ ys) next told h k = absurd cc
  all_again (x ∷ xs) [] next told h k = absurd cc
  all_again (x ∷ xs) (y ∷ ys) next told h k =
      let head : uncoded x ≡ uncoded y = cc in
      let tail : map uncoded xs ≡ map uncoded ys = cc in
      let p = turn_parted (codes x) (flat_map codes xs) next h in
      let q = turn_parted (codes y) (flat_map codes ys) next k in
      let same = one x y next head p.0 q.0 in
      let moved : are_in_turn (next + length (codes x)) (flat_map codes ys) ≡ true = ap (λ (z : X). are_in_turn (next + length (codes z)) (flat_map codes ys)) same ∙ q.1 in
      let others = all_again xs ys (next + length (codes x)) tail p.1 moved in
      λ i. same i ∷ others i

pub rules_again : (rs ss : List RuleEntry) (next : ℕ) → map uncoded_rule rs ≡ map uncoded_rule ss → are_in_turn next (codes_in_rules rs) ≡ true → are_in_turn next (codes_in_rules ss) ≡ true → rs ≡ ss
rules_again = all_again codes_in_rule uncoded_rule one_rule

pub scenes_again : (rs ss : List SceneEntry) (next : ℕ) → map uncoded_scene rs ≡ map uncoded_scene ss → are_in_turn next (codes_in_scenes rs) ≡ true → are_in_turn next (codes_in_scenes ss) ≡ true → rs ≡ ss
scenes_again = all_again codes_in_scene uncoded_scene one_scene

-- ---- what is said of numbers in turn, one by one

pub at_each : (R : ℕ → ℕ → Type 0) (ns : List ℕ) (next : ℕ) → are_in_turn next ns ≡ true → AllZip R ns ns → (n : ℕ) → next ≤ n → n < next + length ns → R n n
unfolding are_in_turn
at_each R [] next turn all n low high = absurd (omega (arith, low, high))
at_each R (m ∷ ns) next turn all n low high =
    let t = and_parts (eqb m next) (are_in_turn (next + 1) ns) turn in
    let here : m ≡ next = eqb-true m next t.0 in
    elim (cases_Bool (eqb n m)) [
      | inl same ↦ subst (λ k. R k k) (sym (eqb-true n m same)) all.0
      | inr other ↦ at_each R ns (next + 1) t.1 all.1 n (omega (arith, low, here, eqb-false n m other)) (omega (arith, high))
    ]
