-- A slot takes one word more.
use Rattle.std.proofs.Common.{◌≡◌, ℕ, suc, ◌+◌, ◌-◌, ◌≤◌, true, false, List, [], ◌∷◌, ◌++◌, length, take, drop, map, refl, ap, sym, ◌∙◌, arith}
use Rattle.std.specs.Prelude.{Option, None, Some, is_some}
use Rattle.std.specs.Option.{option_map}
use Rattle.std.proofs.lemmas.List.{length-map, length-take, append_assoc, take-map, take_all}
use Rattle.command_parser.specs.Searching.{in_front, or_later, slot_filled}

front_more : {A : Type 0} (front : List A) (x : A) (back : List A) → take (suc (length front)) (front ++ x ∷ back) ≡ front ++ x ∷ []
front_more [] x back = refl
front_more (y ∷ ys) x back = ap (λ zs. y ∷ zs) (front_more ys x back)

one_more : {A : Type 0} (all : List A) (count : ℕ) (x : A) (back : List A) → count ≤ length all → all ≡ take count all ++ x ∷ back → take (count + 1) all ≡ take count all ++ x ∷ []
one_more all count x back within is =
    let long : count + 1 ≡ suc (length (take count all)) = omega (arith, within, length-take count all) in
    ap (take (count + 1)) is ∙ ap (λ k. take k (take count all ++ x ∷ back)) long ∙ front_more (take count all) x back

map_or : {A B : Type 0} (f : A → B) (a b : Option A) → option_map f (or_later a b) ≡ or_later (option_map f a) (option_map f b)
map_or f None b = refl
map_or f (Some x) b = refl

-- what is behind the first
abbrev pub behind_first : {X : Type 0} → List X → List X
behind_first rest = take (length rest - 1) (drop 1 rest)

module _ {X B : Type 0} (v : X → List ℕ) (f : List (List ℕ) → B) (means : List (List ℕ) → List ℕ) (behind : List (List ℕ) → Option (List (List ℕ))) (words : List X) (count : ℕ) where
  abbrev pub taken : ℕ → List (List ℕ)
  taken n = take n (map v words)

  pub record Step (rest : List X) : Type 0 where
    pub counted : count + 1 + length (behind_first rest) ≡ length words
    pub parted : map v words ≡ taken (count + 1) ++ map v (behind_first rest)
    pub same : option_map f (slot_filled means behind (taken count) (map v rest))
        ≡ or_later (option_map f (in_front (means (taken (count + 1))) (behind (map v (behind_first rest))))) (option_map f (slot_filled means behind (taken (count + 1)) (map v (behind_first rest))))

  step_to : (w : X) (ws after : List X) → after ≡ ws → count + length (w ∷ ws) ≡ length words → map v words ≡ taken count ++ map v (w ∷ ws) →
      (count + 1 + length after ≡ length words)
      × (map v words ≡ taken (count + 1) ++ map v after)
      × (option_map f (slot_filled means behind (taken count) (map v (w ∷ ws)))
      ≡ or_later (option_map f (in_front (means (taken (count + 1))) (behind (map v after)))) (option_map f (slot_filled means behind (taken (count + 1)) (map v after))))
  step_to w ws after is counted parted =
      let more : taken (count + 1) ≡ taken count ++ v w ∷ [] = one_more (map v words) count (v w) (map v ws) (omega (arith, counted, length-map words v)) parted in (
        ap (λ xs. count + 1 + length xs) is ∙ omega (arith, counted),
        parted ∙ sym (append_assoc (taken count) (v w ∷ []) (map v ws)) ∙ ap (λ front. front ++ map v ws) (sym more) ∙ ap (λ xs. taken (count + 1) ++ map v xs) (sym is),
        map_or f (in_front (means (taken count ++ v w ∷ [])) (behind (map v ws))) (slot_filled means behind (taken count ++ v w ∷ []) (map v ws))
            ∙ ap (λ front. or_later (option_map f (in_front (means front) (behind (map v ws)))) (option_map f (slot_filled means behind front (map v ws)))) (sym more)
            ∙ ap (λ xs. or_later (option_map f (in_front (means (taken (count + 1))) (behind (map v xs)))) (option_map f (slot_filled means behind (taken (count + 1)) (map v xs)))) (sym is),
      )

  pub one_step : (rest : List X) → 1 ≤ length rest → count + length rest ≡ length words → map v words ≡ taken count ++ map v rest → Step rest
  one_step [] some counted parted = absurd (omega (arith, some))
  one_step (w ∷ ws) some counted parted =
      let steps = step_to w ws (behind_first (w ∷ ws)) (take_all (length (w ∷ ws) - 1) ws (omega arith)) counted parted in
      record { counted = steps.0; parted = steps.1; same = steps.2 }

  pub here : (rest phrase : List X) (found : Option B) → Step rest → phrase ≡ take (count + 1) words → found ≡ option_map f (in_front (means (map v phrase)) (behind (map v (behind_first rest))))
      → option_map f (slot_filled means behind (taken count) (map v rest)) ≡ or_later found (option_map f (slot_filled means behind (taken (count + 1)) (map v (behind_first rest))))
  here rest phrase found step is finds =
      step.same ∙ ap (λ o. or_later o (option_map f (slot_filled means behind (taken (count + 1)) (map v (behind_first rest)))))
      (ap (λ front. option_map f (in_front (means front) (behind (map v (behind_first rest))))) (sym (ap (map v) is ∙ sym (take-map v (count + 1) words))) ∙ sym finds)

pub found_now : {A : Type 0} (a b : Option A) → is_some a ≡ true → or_later a b ≡ a
found_now None b some = absurd cc
found_now (Some x) b some = refl

pub found_later : {A : Type 0} (a b : Option A) → is_some a ≡ false → or_later a b ≡ b
found_later None b none = refl
found_later (Some x) b none = absurd cc

map_same : {A : Type 0} (o : Option A) → option_map (λ x. x) o ≡ o
map_same None = refl
map_same (Some x) = refl

-- the same where the candidates are listed
pub listed_here : {X : Type 0} (v : X → List ℕ) (means : List (List ℕ) → List ℕ) (behind : List (List ℕ) → Option (List (List ℕ))) (words : List X) (count : ℕ) (rest phrase : List X) (found : Option (List (List ℕ)))
    → 1 ≤ length rest → count + length rest ≡ length words → map v words ≡ take count (map v words) ++ map v rest
    → phrase ≡ take (count + 1) words → found ≡ in_front (means (map v phrase)) (behind (map v (behind_first rest)))
    → slot_filled means behind (take count (map v words)) (map v rest) ≡ or_later found (slot_filled means behind (take (count + 1) (map v words)) (map v (behind_first rest)))
listed_here v means behind words count rest phrase found some counted parted is finds =
    sym (map_same _)
    ∙ here v (λ x. x) means behind words count rest phrase found (one_step v (λ x. x) means behind words count rest some counted parted) is (finds ∙ sym (map_same _))
    ∙ ap (or_later found) (map_same _)

pub found_so : {A : Type 0} (found later whole : Option A) (x : A) → whole ≡ or_later found later → found ≡ Some x → Some x ≡ whole
found_so found later whole x is some = sym (is ∙ ap (λ o. or_later o later) some)

pub none_so : {A : Type 0} (found later whole : Option A) → whole ≡ or_later found later → found ≡ None → later ≡ whole
none_so found later whole is none = sym (is ∙ ap (λ o. or_later o later) none)
