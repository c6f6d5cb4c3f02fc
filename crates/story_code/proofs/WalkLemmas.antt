-- The walks over bytes, step by step.
use Rattle.std.proofs.Common.{◌≡◌, ◌⊎◌, inl, inr, ℕ, zero, suc, ◌+◌, ◌<◌, ◌≤◌, ◌==◌, Bool, true, false, ◌&&◌, if◌then◌else◌, List, [], ◌∷◌, length, drop, Option, Some, None, slice_set, refl, sym, ap, ◌∙◌, arith, length-drop}
use Rattle.std.proofs.lemmas.Grind.{common_steps}
use Rattle.play_meaning.specs.Instructions.{size_of, sizes}
use Rattle.play_meaning.specs.SoundCodes.{Label, way_of}
use Rattle.play_meaning.specs.declared.instruction.Instruction.{Instruction}
use Rattle.play_meaning.specs.declared.operand.Sort.{Sort}
use Rattle.play_meaning.specs.declared.way.OpenLoop.{OpenLoop}
use Rattle.play_meaning.specs.declared.way.Way.{Way}
use Rattle.play_meaning.specs.declared.way.Way.TheVariants.{Branch, Ends, Leap, Opens, Straight, Turns}
use Rattle.story_code.specs.declared.sizes.Sizes.{Sizes}
use Rattle.play_meaning.specs.Operands.{operands_behind}
use Rattle.story_code.specs.Fronts.{code_in, front, read_on, read_within, with_first}
use Rattle.story_code.specs.Passes.{behind, ends_well, if_so, is_allowed, is_nil, left_behind, next_list, way_behind}
use Rattle.story_code.specs.Walks.{bare_scope, filled, fills, goal_met, meets, met_from}
use Rattle.story_code.proofs.FrontLemmas.{front_fits}

pub size_of-positive : (i : Instruction) → 0 < size_of i
size_of-positive i = omega arith

-- more bound than needed changes nothing
read_more : (n m : ℕ) (bytes : List ℕ) → length bytes ≤ n → length bytes ≤ m → read_within n bytes ≡ read_within m bytes
read_more n m [] h k = refl
read_more zero m (b ∷ bytes) h k = let no : ⊥ = omega (arith, h) in absurd no
read_more (suc n) zero (b ∷ bytes) h k = let no : ⊥ = omega (arith, k) in absurd no
read_more (suc n) (suc m) (b ∷ bytes) h k = by_front (front (b ∷ bytes)) refl (λ x h' k'. read_more n m x h' k')
  where
    by_front : (o : Option Instruction) → front (b ∷ bytes) ≡ o → ((x : List ℕ) → length x ≤ n → length x ≤ m → read_within n x ≡ read_within m x) → read_on o (λ i. read_within n (drop (size_of i) (b ∷ bytes))) ≡ read_on o (λ i. read_within m (drop (size_of i) (b ∷ bytes)))
    by_front None e more = refl
    by_front (Some i) e more =
        let fits = front_fits (b ∷ bytes) i e in
        let pos = size_of-positive i in
        let l = length-drop (size_of i) (b ∷ bytes) in
        let h' : length (drop (size_of i) (b ∷ bytes)) ≤ n = omega (arith, l, h, pos) in
        let k' : length (drop (size_of i) (b ∷ bytes)) ≤ m = omega (arith, l, k, pos) in
        ap (with_first i) (more (drop (size_of i) (b ∷ bytes)) h' k')

-- the first instruction and the rest
pub code_splits : (bytes : List ℕ) (i : Instruction) → front bytes ≡ Some i → code_in bytes ≡ with_first i (code_in (drop (size_of i) bytes))
unfolding code_in
code_splits [] i h = let no : ⊥ = cc in absurd no
code_splits (b ∷ bytes) i h =
    let fits = front_fits (b ∷ bytes) i h in
    let pos = size_of-positive i in
    let l = length-drop (size_of i) (b ∷ bytes) in
    let h' : length (drop (size_of i) (b ∷ bytes)) ≤ length bytes = omega (arith, l, pos) in
    let k' : length (drop (size_of i) (b ∷ bytes)) ≤ length (drop (size_of i) (b ∷ bytes)) = omega arith in
    ap (λ o. read_on o (λ i. read_within (length bytes) (drop (size_of i) (b ∷ bytes)))) h
    ∙ ap (with_first i) (read_more (length bytes) (length (drop (size_of i) (b ∷ bytes))) (drop (size_of i) (b ∷ bytes)) h' k')

-- what bytes without an instruction spell
pub code_is_none : (bytes : List ℕ) → front bytes ≡ None → code_in bytes ≡ if_so (is_nil bytes) []
unfolding code_in
code_is_none [] h = refl
code_is_none (b ∷ bytes) h = ap (λ o. read_on o (λ i. read_within (length bytes) (drop (size_of i) (b ∷ bytes)))) h

-- the pass looks at the next instruction alone
way_next : (w : Way) (p q : ℕ) (n : Instruction) (ks : List Sort) (ls : List OpenLoop) (rest : List Instruction) → way_behind w p q ks ls (n ∷ rest) ≡ way_behind w p q ks ls (n ∷ [])
way_next Straight p q n ks ls rest = refl
way_next (Branch to) p q n ks ls rest = refl
way_next (Leap to) p q n ks ls rest = refl
way_next Opens p q n ks ls rest = refl
way_next (Turns exit) p q n ks ls rest = refl
way_next Ends p q n ks ls rest = refl

behind_next : (z : Sizes) (p : ℕ) (i n : Instruction) (l : Label) (rest : List Instruction) → behind z p i (n ∷ rest) l ≡ behind z p i (n ∷ []) l
unfolding behind
behind_next z p i n l rest = ap (λ o. if is_allowed z l.loops i && ends_well z.role i (n ∷ []) then o else None) (by_operands (operands_behind z.counts i l.operands))
  where
    by_operands : (o : Option (List Sort)) → left_behind o p i l.loops (n ∷ rest) ≡ left_behind o p i l.loops (n ∷ [])
    by_operands None = refl
    by_operands (Some ks) = way_next (way_of i) p (p + size_of i) n ks l.loops rest

-- the instructions of the rest, seen from its front
pub front_or : (bytes : List ℕ) → ((front bytes ≡ None) ⊎ ((i : Instruction) × (front bytes ≡ Some i)))
front_or bytes = by (front bytes) refl
  where
    by : (o : Option Instruction) → front bytes ≡ o → ((front bytes ≡ None) ⊎ ((i : Instruction) × (front bytes ≡ Some i)))
    by None e = inl e
    by (Some i) e = inr (i, e)

behind_rest : (z : Sizes) (p : ℕ) (i : Instruction) (l : Label) (after : List ℕ) (is : List Instruction) → code_in after ≡ Some is → behind z p i is l ≡ behind z p i (next_list (front after)) l
behind_rest z p i l after is h = elim (front_or after) [
  | inl e ↦
      let empty : if_so (is_nil after) [] ≡ Some is = sym (code_is_none after e) ∙ h in
      ap (λ x. behind z p i x l) (nil_rest (is_nil after) empty) ∙ ap (λ o. behind z p i (next_list o) l) (sym e)
  | inr e ↦
      let split : with_first e.0 (code_in (drop (size_of e.0) after)) ≡ Some is = sym (code_splits after e.0 e.1) ∙ h in
      let c = cons_rest e.0 (code_in (drop (size_of e.0) after)) split in
      ap (λ x. behind z p i x l) c.1 ∙ behind_next z p i e.0 l c.0 ∙ ap (λ o. behind z p i (next_list o) l) (sym e.1)
]
  where
    nil_rest : (b : Bool) → if_so b [] ≡ Some is → is ≡ []
    nil_rest true h = cc
    nil_rest false h = let no : ⊥ = cc in absurd no

    cons_rest : (n : Instruction) (o : Option (List Instruction)) → with_first n o ≡ Some is → (more : List Instruction) × (is ≡ n ∷ more)
    cons_rest n None h = let no : ⊥ = cc in absurd no
    cons_rest n (Some more) h = let e : is ≡ n ∷ more = cc in (more, e)

-- a step of the first walk
pub fills_step : (z : Sizes) (p : ℕ) (l : Label) (bytes : List ℕ) (i : Instruction) (t : List ℕ) → front bytes ≡ Some i
    → fills z p (Some l) (code_in bytes) t ≡ fills z (p + size_of i) (behind z p i (next_list (front (drop (size_of i) bytes))) l) (code_in (drop (size_of i) bytes)) (slice_set t p (bare_scope l))
fills_step z p l bytes i t h =
    ap (λ o. fills z p (Some l) o t) (code_splits bytes i h) ∙ by_rest (code_in (drop (size_of i) bytes)) refl
  where
    by_rest : (o : Option (List Instruction)) → code_in (drop (size_of i) bytes) ≡ o → fills z p (Some l) (with_first i o) t ≡ fills z (p + size_of i) (behind z p i (next_list (front (drop (size_of i) bytes))) l) o (slice_set t p (bare_scope l))
    by_rest None e = refl
    by_rest (Some is) e = ap (λ b. filled z (p + size_of i) b is (slice_set t p (bare_scope l))) (behind_rest z p i l (drop (size_of i) bytes) is e)

pub fills_broken : (z : Sizes) (p : ℕ) (o : Option (List Instruction)) (t : List ℕ) → fills z p None o t ≡ None
fills_broken z p None t = refl
fills_broken z p (Some is) t = refl

pub fills_end : (z : Sizes) (p : ℕ) (l : Label) (bytes : List ℕ) (t : List ℕ) → front bytes ≡ None → fills z p (Some l) (code_in bytes) t ≡ if_so (is_nil bytes && is_nil l.loops) t
fills_end z p l bytes t h = ap (λ o. fills z p (Some l) o t) (code_is_none bytes h) ∙ by_nil (is_nil bytes)
  where
    by_nil : (b : Bool) → fills z p (Some l) (if_so b []) t ≡ if_so (b && is_nil l.loops) t
    by_nil true = refl
    by_nil false = refl

-- a step of the second walk
pub meets_step : (z : Sizes) (p : ℕ) (l : Label) (bytes : List ℕ) (i : Instruction) (t : List ℕ) → front bytes ≡ Some i
    → meets z p (Some l) (code_in bytes) t ≡ (goal_met t p i l.loops && meets z (p + size_of i) (behind z p i (next_list (front (drop (size_of i) bytes))) l) (code_in (drop (size_of i) bytes)) t)
meets_step z p l bytes i t h =
    ap (λ o. meets z p (Some l) o t) (code_splits bytes i h) ∙ by_rest (code_in (drop (size_of i) bytes)) refl
  where
    and_false : (b : Bool) → false ≡ (b && false)
    and_false true = refl
    and_false false = refl

    by_rest : (o : Option (List Instruction)) → code_in (drop (size_of i) bytes) ≡ o → meets z p (Some l) (with_first i o) t ≡ (goal_met t p i l.loops && meets z (p + size_of i) (behind z p i (next_list (front (drop (size_of i) bytes))) l) o t)
    by_rest None e = and_false (goal_met t p i l.loops)
    by_rest (Some is) e = ap (λ b. goal_met t p i l.loops && met_from z (p + size_of i) b is t) (behind_rest z p i l (drop (size_of i) bytes) is e)

pub meets_broken : (z : Sizes) (p : ℕ) (o : Option (List Instruction)) (t : List ℕ) → meets z p None o t ≡ false
meets_broken z p None t = refl
meets_broken z p (Some is) t = refl

pub meets_end : (z : Sizes) (p : ℕ) (l : Label) (bytes : List ℕ) (t : List ℕ) → front bytes ≡ None → meets z p (Some l) (code_in bytes) t ≡ is_nil bytes
meets_end z p l bytes t h = ap (λ o. meets z p (Some l) o t) (code_is_none bytes h) ∙ by_nil (is_nil bytes)
  where
    by_nil : (b : Bool) → meets z p (Some l) (if_so b []) t ≡ b
    by_nil true = refl
    by_nil false = refl

-- what the loops keep
pub fill_next : (z : Sizes) (p : ℕ) (l l' : Label) (bytes after : List ℕ) (i : Instruction) (t t' : List ℕ) (n : ℕ) (b : Bool) (whole : Option (List ℕ)) → front bytes ≡ Some i → n ≡ size_of i → after ≡ drop n bytes → (s : ℕ) → t' ≡ slice_set t p s → s ≡ bare_scope l
    → (o : Option Instruction) → o ≡ front after → if_so b l' ≡ behind z p i (next_list o) l → b ≡ true → fills z p (Some l) (code_in bytes) t ≡ whole → fills z (p + n) (Some l') (code_in after) t' ≡ whole
fill_next z p l l' bytes after i t t' n b whole h e1 e2 sc e3' e3'' o eo e4' e5 e6 =
    let e4 : if_so b l' ≡ behind z p i (next_list (front after)) l = e4' ∙ ap (λ x. behind z p i (next_list x) l) eo in
    let e3 : t' ≡ slice_set t p (bare_scope l) = e3' ∙ ap (slice_set t p) e3'' in
    let s = fills_step z p l bytes i t h in
    let e7 : after ≡ drop (size_of i) bytes = e2 ∙ ap (λ m. drop m bytes) e1 in
    let e8 : Some l' ≡ behind z p i (next_list (front after)) l = ap (λ c. if_so c l') (sym e5) ∙ e4 in
    ap (λ m. fills z (p + m) (Some l') (code_in after) t') e1 ∙ ap (λ x. fills z (p + size_of i) x (code_in after) t') e8
    ∙ ap (λ x. fills z (p + size_of i) (behind z p i (next_list (front x)) l) (code_in x) t') e7
    ∙ ap (λ x. fills z (p + size_of i) (behind z p i (next_list (front (drop (size_of i) bytes))) l) (code_in (drop (size_of i) bytes)) x) e3 ∙ sym s ∙ e6

pub fill_stop : (z : Sizes) (p : ℕ) (l l' : Label) (bytes after : List ℕ) (i : Instruction) (t : List ℕ) (n : ℕ) (b : Bool) (whole : Option (List ℕ)) → front bytes ≡ Some i → n ≡ size_of i → after ≡ drop n bytes
    → (o : Option Instruction) → o ≡ front after → if_so b l' ≡ behind z p i (next_list o) l → b ≡ false → fills z p (Some l) (code_in bytes) t ≡ whole → None ≡ whole
fill_stop z p l l' bytes after i t n b whole h e1 e2 o eo e4' e5 e6 =
    let e4 : if_so b l' ≡ behind z p i (next_list (front after)) l = e4' ∙ ap (λ x. behind z p i (next_list x) l) eo in
    let s = fills_step z p l bytes i t h in
    let e7 : after ≡ drop (size_of i) bytes = e2 ∙ ap (λ m. drop m bytes) e1 in
    let e8 : None ≡ behind z p i (next_list (front after)) l = ap (λ c. if_so c l') (sym e5) ∙ e4 in
    let e9 : None ≡ behind z p i (next_list (front (drop (size_of i) bytes))) l = e8 ∙ ap (λ x. behind z p i (next_list (front x)) l) e7 in
    sym (fills_broken z (p + size_of i) (code_in (drop (size_of i) bytes)) (slice_set t p (bare_scope l)))
    ∙ ap (λ x. fills z (p + size_of i) x (code_in (drop (size_of i) bytes)) (slice_set t p (bare_scope l))) e9 ∙ sym s ∙ e6

pub meet_next : (z : Sizes) (p : ℕ) (l l' : Label) (bytes after : List ℕ) (i : Instruction) (t : List ℕ) (n : ℕ) (b g : Bool) (whole : Bool) → front bytes ≡ Some i → n ≡ size_of i → after ≡ drop n bytes → g ≡ goal_met t p i l.loops → g ≡ true
    → (o : Option Instruction) → o ≡ front after → if_so b l' ≡ behind z p i (next_list o) l → b ≡ true → meets z p (Some l) (code_in bytes) t ≡ whole → meets z (p + n) (Some l') (code_in after) t ≡ whole
meet_next z p l l' bytes after i t n b g whole h e1 e2 e3 e3' o eo e4' e5 e6 =
    let e4 : if_so b l' ≡ behind z p i (next_list (front after)) l = e4' ∙ ap (λ x. behind z p i (next_list x) l) eo in
    let s = meets_step z p l bytes i t h in
    let e7 : after ≡ drop (size_of i) bytes = e2 ∙ ap (λ m. drop m bytes) e1 in
    let e8 : Some l' ≡ behind z p i (next_list (front after)) l = ap (λ c. if_so c l') (sym e5) ∙ e4 in
    let met : true ≡ goal_met t p i l.loops = sym e3' ∙ e3 in
    ap (λ m. meets z (p + m) (Some l') (code_in after) t) e1 ∙ ap (λ x. meets z (p + size_of i) x (code_in after) t) e8
    ∙ ap (λ x. meets z (p + size_of i) (behind z p i (next_list (front x)) l) (code_in x) t) e7
    ∙ ap (λ x. x && meets z (p + size_of i) (behind z p i (next_list (front (drop (size_of i) bytes))) l) (code_in (drop (size_of i) bytes)) t) met ∙ sym s ∙ e6

pub meet_stop : (z : Sizes) (p : ℕ) (l l' : Label) (bytes after : List ℕ) (i : Instruction) (t : List ℕ) (n : ℕ) (b : Bool) (whole : Bool) → front bytes ≡ Some i → n ≡ size_of i → after ≡ drop n bytes
    → (o : Option Instruction) → o ≡ front after → if_so b l' ≡ behind z p i (next_list o) l → b ≡ false → meets z p (Some l) (code_in bytes) t ≡ whole → false ≡ whole
meet_stop z p l l' bytes after i t n b whole h e1 e2 o eo e4' e5 e6 =
    let e4 : if_so b l' ≡ behind z p i (next_list (front after)) l = e4' ∙ ap (λ x. behind z p i (next_list x) l) eo in
    let s = meets_step z p l bytes i t h in
    let e7 : after ≡ drop (size_of i) bytes = e2 ∙ ap (λ m. drop m bytes) e1 in
    let e8 : None ≡ behind z p i (next_list (front after)) l = ap (λ c. if_so c l') (sym e5) ∙ e4 in
    let e9 : None ≡ behind z p i (next_list (front (drop (size_of i) bytes))) l = e8 ∙ ap (λ x. behind z p i (next_list (front x)) l) e7 in
    and_no (goal_met t p i l.loops) _ (sym (ap (λ x. meets z (p + size_of i) x (code_in (drop (size_of i) bytes)) t) (sym e9) ∙ meets_broken z (p + size_of i) (code_in (drop (size_of i) bytes)) t)) ∙ sym s ∙ e6
  where
    and_no : (a b : Bool) → false ≡ b → false ≡ (a && b)
    and_no true b h = h
    and_no false b h = refl

pub meet_missed : (z : Sizes) (p : ℕ) (l : Label) (bytes : List ℕ) (i : Instruction) (t : List ℕ) (g : Bool) (whole : Bool) → front bytes ≡ Some i → g ≡ goal_met t p i l.loops → g ≡ false → meets z p (Some l) (code_in bytes) t ≡ whole → false ≡ whole
meet_missed z p l bytes i t g whole h e3 e3' e6 =
    let s = meets_step z p l bytes i t h in
    let met : false ≡ goal_met t p i l.loops = sym e3' ∙ e3 in
    ap (λ x. x && meets z (p + size_of i) (behind z p i (next_list (front (drop (size_of i) bytes))) l) (code_in (drop (size_of i) bytes)) t) met ∙ sym s ∙ e6

pub nil_length : {A : Type 0} (xs : List A) → (length xs == 0) ≡ is_nil xs
nil_length [] = refl
nil_length (x ∷ xs) = grind (arith, common_steps)

cons_size : (i : Instruction) (o : Option (List Instruction)) (is : List Instruction) (n : ℕ) → ((js : List Instruction) → o ≡ Some js → size_of i + sizes js ≡ n) → with_first i o ≡ Some is → sizes is ≡ n
cons_size i None is n h e = let no : ⊥ = cc in absurd no
cons_size i (Some js) is n h e = let same : is ≡ i ∷ js = cc in ap sizes same ∙ h js refl

read_sizes : (n : ℕ) (bytes : List ℕ) (is : List Instruction) → read_within n bytes ≡ Some is → sizes is ≡ length bytes
read_sizes n [] is h = let same : is ≡ [] = cc in ap sizes same
read_sizes zero (b ∷ bytes) is h = let no : ⊥ = cc in absurd no
read_sizes (suc n) (b ∷ bytes) is h = by (front (b ∷ bytes)) refl h (λ x js e. read_sizes n x js e)
  where
    by : (o : Option Instruction) → front (b ∷ bytes) ≡ o → read_on o (λ i. read_within n (drop (size_of i) (b ∷ bytes))) ≡ Some is → ((x : List ℕ) (js : List Instruction) → read_within n x ≡ Some js → sizes js ≡ length x) → sizes is ≡ length (b ∷ bytes)
    by None e h more = let no : ⊥ = cc in absurd no
    by (Some i) e h more = cons_size i (read_within n (drop (size_of i) (b ∷ bytes))) is (length (b ∷ bytes)) (λ js e'. omega (arith, more (drop (size_of i) (b ∷ bytes)) js e', length-drop (size_of i) (b ∷ bytes), front_fits (b ∷ bytes) i e)) h

pub spelled_sizes : (bytes : List ℕ) (is : List Instruction) → code_in bytes ≡ Some is → sizes is ≡ length bytes
unfolding code_in
spelled_sizes bytes is h = read_sizes (length bytes) bytes is h

pub spelled_nil : (bytes : List ℕ) (is : List Instruction) → code_in bytes ≡ Some is → is_nil bytes ≡ is_nil is
spelled_nil bytes is h = by bytes is (spelled_sizes bytes is h)
  where
    by : (bs : List ℕ) (js : List Instruction) → sizes js ≡ length bs → is_nil bs ≡ is_nil js
    by [] [] e = refl
    by [] (i ∷ js) e = let pos = size_of-positive i in let no : ⊥ = omega (arith, e, pos) in absurd no
    by (b ∷ bs) [] e = let no : ⊥ = omega (arith, e) in absurd no
    by (b ∷ bs) (i ∷ js) e = refl
