-- Choices and loops whose instructions find what they need.
use Rattle.std.proofs.Common.{◌≡◌, ◌∙◌, ap, sym, subst, refl, inl, inr, ℕ, ◌+◌, ◌<◌, ◌≤◌, true, List, [], ◌∷◌, ◌++◌, length, Some, None, if◌then◌else◌, arith}
use Rattle.play_meaning.specs.Instructions.{sizes}
use Rattle.play_meaning.specs.Operands.{may_hold, names_what_is_there, operands_behind, serves, with_given}
use Rattle.play_meaning.specs.SoundCodes.{LeadsTo, bare, loops_around}
use Rattle.play_meaning.specs.declared.instruction.Instruction.{Instruction}
use Rattle.play_meaning.specs.declared.instruction.Instruction.TheVariants.{Begin, IfZero, Jump, Next}
use Rattle.play_meaning.specs.declared.operand.Counts.{Counts}
use Rattle.play_meaning.specs.declared.operand.Sort.{Sort}
use Rattle.play_meaning.specs.declared.operand.Sort.TheVariants.{Truth}
use Rattle.play_meaning.specs.declared.operand.Use.{Use}
use Rattle.play_meaning.specs.declared.way.OpenLoop.{OpenLoop}
use Rattle.story_code.proofs.SoundParts.{AreGood, CarriesAt, IsGood, Known, KnownAt, codes-append, codes_of, fine_by, good-append, known_behind, known_front, label}
use Rattle.story_code.proofs.Followed.{sizes_append}

module _ (z : Counts) (whose : Use) where
  abbrev Carries : List OpenLoop → List Sort → List Sort → ℕ → List Instruction → Type 0
  Carries = CarriesAt z whose

  abbrev Holds : Instruction → Type 0
  Holds i = may_hold whose i ≡ true

  if_so : (sort : Sort) (place : ℕ) → serves sort Truth ≡ true → operands_behind z (IfZero place) (sort ∷ []) ≡ Some []
  unfolding operands_behind
  if_so sort place is = ap (λ b. with_given None (if b then Some [] else None)) is

  pub carries_choice : (loops : List OpenLoop) (q : ℕ) (asked taken other : List Instruction) (sort : Sort) → ((p : ℕ) → Holds (IfZero p)) → ((p : ℕ) → Holds (Jump p))
      → serves sort Truth ≡ true → Carries loops [] (sort ∷ []) q asked → Carries loops [] [] (q + sizes asked + 3) taken
      → let second = q + sizes asked + 3 + sizes taken + 3 in
      Carries loops [] [] second other → Carries loops [] [] q (asked ++ IfZero second ∷ (taken ++ Jump (second + sizes other) ∷ other))
  unfolding may_hold names_what_is_there operands_behind
  carries_choice loops q asked taken other sort may_branch may_jump is x y w =
      let second = q + sizes asked + 3 + sizes taken + 3 in
      let end = second + sizes other in
      let branch : Known = record { instruction = IfZero second; label = label z whose (sort ∷ []) loops } in
      let jump : Known = record { instruction = Jump end; label = bare loops } in
      record {
        known = x.known ++ branch ∷ (y.known ++ jump ∷ w.known);
        spells =
            codes-append x.known (branch ∷ (y.known ++ jump ∷ w.known)) ∙ ap (λ is. is ++ IfZero second ∷ codes_of (y.known ++ jump ∷ w.known)) x.spells
            ∙ ap (λ is. asked ++ IfZero second ∷ is) (codes-append y.known (jump ∷ w.known) ∙ ap (λ is. is ++ Jump end ∷ codes_of w.known) y.spells ∙ ap
            (λ is. taken ++ Jump end ∷ is) w.spells);
        carried = λ c known behind.
            let e : q + sizes (asked ++ IfZero second ∷ (taken ++ Jump end ∷ other)) ≡ end
            = omega (arith, sizes_append asked (IfZero second ∷ (taken ++ Jump end ∷ other)), sizes_append taken (Jump end ∷ other)) in
            let at_end = subst (λ n. LeadsTo c n (bare loops)) e behind in
            let k = known_behind c q x.known (branch ∷ (y.known ++ jump ∷ w.known)) asked x.spells known in
            let j = known_behind c (q + sizes asked + 3) y.known (jump ∷ w.known) taken y.spells k.1 in
            let last = w.carried c j.1 at_end in
            let ahead : q + sizes asked + 3 + sizes taken < end = omega arith in
            let leaps : IsGood z whose c (q + sizes asked + 3 + sizes taken) (Jump end) = record {
              fine = fine_by z whose c (q + sizes asked + 3 + sizes taken) (Jump end) (bare loops) [] j.0.1 (may_jump end) refl refl (refl, (at_end, inl (ahead, last.0.1)));
              onward = refl;
            } in
            let middle = y.carried c (known_front c (q + sizes asked + 3) y.known (jump ∷ w.known) k.1) ((Jump end, j.0.0), j.0.1) in
            let past : q + sizes asked < second = omega arith in
            let branches : IsGood z whose c (q + sizes asked) (IfZero second) = record {
              fine = fine_by z whose c (q + sizes asked) (IfZero second) (label z whose (sort ∷ []) loops) [] k.0.1 (may_branch second) refl (if_so sort second is)
                  (refl, (past, (last.0, middle.0)));
              onward = refl;
            } in
            let first = x.carried c (known_front c q x.known (branch ∷ (y.known ++ jump ∷ w.known)) known) ((IfZero second, k.0.0), k.0.1) in (
              first.0,
              good-append z whose c q asked (IfZero second ∷ (taken ++ Jump end ∷ other)) first.1
                  (branches, good-append z whose c (q + sizes asked + 3) taken (Jump end ∷ other) middle.1 (leaps, last.1)),
            );
      }

  pub carries_loop : (loops : List OpenLoop) (q k test : ℕ) (turn : List Instruction)
      → let exit = q + 8 + sizes turn + 3 in
      let open_loop : OpenLoop = record { head = q + 2; exit = exit } in
      Holds (Begin k) → Holds (Next k test exit) → Holds (Jump (q + 2))
      → names_what_is_there z (loops_around whose + length loops) (Begin k) ≡ true → names_what_is_there z (loops_around whose + length (open_loop ∷ loops)) (Next k test exit) ≡ true
      → Carries (open_loop ∷ loops) [] [] (q + 8) turn → Carries loops [] [] q (Begin k ∷ Next k test exit ∷ (turn ++ Jump (q + 2) ∷ []))
  unfolding may_hold names_what_is_there operands_behind
  carries_loop loops q k test turn may_begin may_turn may_jump opens turns x =
      let exit = q + 8 + sizes turn + 3 in
      let inside : List OpenLoop = record { head = q + 2; exit = exit } ∷ loops in
      let begin : Known = record { instruction = Begin k; label = bare loops } in
      let next : Known = record { instruction = Next k test exit; label = bare inside } in
      let jump : Known = record { instruction = Jump (q + 2); label = bare inside } in
      record {
        known = begin ∷ next ∷ (x.known ++ jump ∷ []);
        spells = ap (λ is. Begin k ∷ Next k test exit ∷ is) (codes-append x.known (jump ∷ []) ∙ ap (λ is. is ++ Jump (q + 2) ∷ []) x.spells);
        carried = λ c known behind.
            let e : q + sizes (Begin k ∷ Next k test exit ∷ (turn ++ Jump (q + 2) ∷ [])) ≡ exit = omega (arith, sizes_append turn (Jump (q + 2) ∷ [])) in
            let at_exit = subst (λ n. LeadsTo c n (bare loops)) e behind in
            let e8 : q + 2 + 6 ≡ q + 8 = omega arith in
            let here = subst (λ n. KnownAt c n (x.known ++ jump ∷ [])) e8 known.1.1 in
            let j = known_behind c (q + 8) x.known (jump ∷ []) turn x.spells here in
            let middle = x.carried c (known_front c (q + 8) x.known (jump ∷ []) here) ((Jump (q + 2), j.0.0), j.0.1) in
            let back : q + 2 ≤ q + 8 + sizes turn = omega arith in
            let leaps : IsGood z whose c (q + 8 + sizes turn) (Jump (q + 2)) = record {
              fine = fine_by z whose c (q + 8 + sizes turn) (Jump (q + 2)) (bare inside) [] j.0.1 may_jump refl refl
                  (refl, (((Next k test exit, known.1.0.0), known.1.0.1), inr (back, (loops, (refl, at_exit)))));
              onward = refl;
            } in
            let turned : IsGood z whose c (q + 2) (Next k test exit) = record {
              fine = fine_by z whose c (q + 2) (Next k test exit) (bare inside) [] known.1.0.1 may_turn turns refl
                  (refl, (loops, (refl, (at_exit, subst (λ n. LeadsTo c n (bare inside)) (sym e8) middle.0))));
              onward = refl;
            } in
            let opened : IsGood z whose c q (Begin k) = record {
              fine = fine_by z whose c q (Begin k) (bare loops) [] known.0.1 may_begin opens refl (refl, (Next k test exit, (exit, (known.1.0.0, (refl, known.1.0.1)))));
              onward = refl;
            } in
            let rest = good-append z whose c (q + 8) turn (Jump (q + 2) ∷ []) middle.1 (leaps, tt) in
            (((Begin k, known.0.0), known.0.1), (opened, (turned, subst (λ n. AreGood z whose c n (turn ++ Jump (q + 2) ∷ [])) (sym e8) rest)));
      }
