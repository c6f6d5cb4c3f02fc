-- A part of a code from its beginning on, and its last instruction, are sound.
use Rattle.std.proofs.Common.{◌≡◌, ◌∙◌, ap, sym, subst, inl, inr, ℕ, ◌+◌, ◌-◌, ◌≤◌, ◌⊎◌, true, List, [], ◌∷◌, ◌++◌, Some, arith}
use Rattle.play_meaning.specs.Instructions.{at_place, size_of, sizes}
use Rattle.play_meaning.specs.Operands.{may_hold, names_what_is_there, operands_behind}
use Rattle.play_meaning.specs.SoundCodes.{EndsInAnswer, IsFine, IsSound, Labelled, Ways, bare, loops_around, way_of}
use Rattle.play_meaning.specs.declared.instruction.Instruction.{Instruction}
use Rattle.play_meaning.specs.declared.instruction.Instruction.TheVariants.{Answer}
use Rattle.play_meaning.specs.declared.operand.Counts.{Counts}
use Rattle.play_meaning.specs.declared.operand.Sort.{Sort}
use Rattle.play_meaning.specs.declared.operand.Use.{Use}
use Rattle.play_meaning.specs.declared.operand.Use.TheVariants.{Body, Describing, Test}
use Rattle.play_meaning.specs.declared.way.Way.TheVariants.{Ends}
use Rattle.story_code.proofs.SoundParts.{AreGood, CarriesAt, Known, bare_behind, codes-append, codes_of, fine_by, good_there, known_all, known_behind, known_front, label, labelled}
use Rattle.story_code.proofs.Followed.{sizes_append}
use Rattle.story_code.proofs.Places.{at_cases, at_past}

-- what stands in a code stands in front of its last instruction, or is it
last_or_front : (is : List Instruction) (i : Instruction) (q : ℕ) (j : Instruction) → at_place (is ++ i ∷ []) q ≡ Some j → (at_place is q ≡ Some j) ⊎ ((q ≡ sizes is) × (i ≡ j))
last_or_front [] i q j at = elim (at_cases i [] q j at) [
  | inl f ↦ inr f
  | inr f ↦ let no : ⊥ = cc in absurd no
]
last_or_front (x ∷ is) i q j at = by_first (at_cases x (is ++ i ∷ []) q j at) (last_or_front is i (q - size_of x) j)
  where
    by_first : ((q ≡ 0) × (x ≡ j)) ⊎ ((size_of x ≤ q) × (at_place (is ++ i ∷ []) (q - size_of x) ≡ Some j))
        → (at_place (is ++ i ∷ []) (q - size_of x) ≡ Some j → (at_place is (q - size_of x) ≡ Some j) ⊎ ((q - size_of x ≡ sizes is) × (i ≡ j)))
        → (at_place (x ∷ is) q ≡ Some j) ⊎ ((q ≡ sizes (x ∷ is)) × (i ≡ j))
    by_first (inl f) later = inl (ap (at_place (x ∷ is)) f.0 ∙ ap Some f.1)
    by_first (inr f) later = elim (later f.1) [
      | inl g ↦ let e : q ≡ size_of x + (q - size_of x) = omega (arith, f.0) in inl (at_past x is q (q - size_of x) e ∙ g)
      | inr g ↦ let e : q ≡ size_of x + sizes is = omega (arith, f.0, g.0) in inr (e, g.1)
    ]

module _ (z : Counts) where
  ends_in_answer : (whose : Use) (c : Labelled) (is : List Instruction) (i : Instruction) → size_of i ≡ 1 → AreGood z whose c 0 is → EndsInAnswer whose (is ++ i ∷ [])
  unfolding may_hold
  ends_in_answer (Test loops) c is i size good = λ q at. elim (last_or_front is i q Answer at) [
    | inl f ↦ let good_answer = (good_there z (Test loops) c is 0 q Answer good f).onward in let no : ⊥ = cc in absurd no
    | inr f ↦ omega (arith, f.0, size, sizes_append is (i ∷ []))
  ]
  ends_in_answer Describing c is i size good = tt
  ends_in_answer Body c is i size good = tt

  pub sound_whole : (whose : Use) (is : List Instruction) (i : Instruction) (left after : List Sort) → CarriesAt z whose [] [] left 0 is → size_of i ≡ 1 → may_hold whose i ≡ true
      → names_what_is_there z (loops_around whose + 0) i ≡ true → operands_behind z i left ≡ Some after → way_of i ≡ Ends → IsSound z whose (is ++ i ∷ [])
  sound_whole whose is i left after x size allowed named typed way =
      let last : Known = record { instruction = i; label = label z whose left [] } in
      let all : List Known = x.known ++ last ∷ [] in
      let c = labelled all in
      let spells : codes_of all ≡ is ++ i ∷ [] = codes-append x.known (last ∷ []) ∙ ap (λ is. is ++ i ∷ []) x.spells in
      let known = known_all all in
      let back = known_behind c 0 x.known (last ∷ []) is x.spells known in
      let r = x.carried c (known_front c 0 x.known (last ∷ []) known) ((i, back.0.0), back.0.1) in
      let end : sizes (codes_of all) ≡ 0 + sizes is + size_of i = omega (arith, ap sizes spells, sizes_append is (i ∷ [])) in
      let behind : c.at (0 + sizes is + size_of i) ≡ bare [] = ap c.at (sym end) ∙ bare_behind all in
      let ends : IsFine z whose c (0 + sizes is) i = fine_by z whose c (0 + sizes is) i (label z whose left []) after back.0.1 allowed named typed
      (subst (λ w. Ways w c (0 + sizes is) (0 + sizes is + size_of i) after []) (sym way) behind) in
      subst (IsSound z whose) spells (record {
        at = c.at;
        starts = r.0;
        fine = λ q j at. fine_there c is i r.1 ends q j (ap (λ is. at_place is q) (sym spells) ∙ at);
        closed = ap (λ l. l.loops) (bare_behind all);
        answered = subst (EndsInAnswer whose) (sym spells) (ends_in_answer whose c is i size r.1);
      })
    where
      fine_there : (c : Labelled) (is : List Instruction) (i : Instruction) → AreGood z whose c 0 is → IsFine z whose c (0 + sizes is) i → (q : ℕ) (j : Instruction)
          → at_place (is ++ i ∷ []) q ≡ Some j → IsFine z whose c q j
      fine_there c is i good ends q j at = elim (last_or_front is i q j at) [
        | inl f ↦ let e : 0 + q ≡ q = omega arith in subst (λ n. IsFine z whose c n j) e (good_there z whose c is 0 q j good f).fine
        | inr f ↦ let e : 0 + sizes is ≡ q = omega (arith, f.0) in subst (λ n. IsFine z whose c n j) e (subst (IsFine z whose c (0 + sizes is)) f.1 ends)
      ]
