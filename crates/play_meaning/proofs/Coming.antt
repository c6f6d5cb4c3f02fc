-- What the codes of texts and phrases come to.
use Rattle.std.proofs.Common.{◌≡◌, ◌∙◌, ap, sym, ℕ, zero, suc, ◌+◌, ◌-◌, Bool, true, false, List, [], ◌∷◌, ◌++◌, length, refl, Option, Some, None, Ok, Err, ℤ, arith}
use Rattle.std.specs.Prelude.{slice_index_or, take}
use Rattle.std.specs.List.{range_with_len}
use Rattle.play_meaning.specs.Attempts.{Attempt, next}
use Rattle.play_meaning.specs.Doing.{repeat, turn_if}
use Rattle.play_meaning.specs.Instructions as code
use Rattle.play_meaning.specs.Instructions.{Instruction, at_place, size_of, sizes}
use Rattle.play_meaning.specs.Machines.{Abandons, Frame, Goes, Leaves, State, Step, does, does_at, first_passing, goes_further, next_object, number_behind, or_later, run, truth_number, turns_to, unless_abandoned, with_object}
use Rattle.play_meaning.specs.Progress.{Done, Progress, goes_on, spend, then_do}
use Rattle.play_meaning.specs.Saying.{chosen}
use Rattle.play_meaning.specs.Worlds.{World}
use Rattle.play_meaning.specs.declared.outcome.Flow.{Flow}
use Rattle.play_meaning.specs.declared.outcome.Flow.TheVariants.{GoesOn, NoDecision, Decides}
use Rattle.play_meaning.proofs.Asking.{on_top}
use Rattle.play_meaning.proofs.Standing.{HasAt, sizes-append}
use Rattle.play_meaning.proofs.Straight.{Gives, St, from, next_is, open_loops, step_of}

module _ (f : Frame) (c : List Instruction) where
  -- what follows a phrase's code at a place, unless the phrase ended the body
  abbrev pub going : ℕ → List ℕ → ℕ → Flow → Progress → Step
  going k turning q GoesOn p = run f c k (St q [] (open_loops turning) p)
  going k turning q NoDecision p = Leaves NoDecision p
  going k turning q (Decides outcome) p = Leaves (Decides outcome) p

  abbrev pub behind : ℕ → List ℕ → ℕ → Attempt Done → Step
  behind k turning q (Ok done) = going k turning q done.flow done.progress
  behind k turning q (Err reason) = Abandons reason

  -- from one place with this progress the run comes to another place with that, or leaves off so
  abbrev pub Comes : List ℕ → ℕ → Progress → Attempt Done → ℕ → Type 0
  Comes turning q p a r = (k : ℕ) → (j : ℕ) × (run f c j (St q [] (open_loops turning) p) ≡ behind k turning r a)

  pub alike_comes : (turning : List ℕ) (q : ℕ) (p : Progress) (a b : Attempt Done) (r s : ℕ) → a ≡ b → r ≡ s → Comes turning q p a r → Comes turning q p b s
  alike_comes turning q p a b r s e at comes k = ((comes k).0, (comes k).1 ∙ (ap (λ t. behind k turning r t) e ∙ ap (λ n. behind k turning n b) at))

  -- nothing is done
  pub stays : (turning : List ℕ) (q r : ℕ) (p : Progress) → q ≡ r → Comes turning q p (Ok (goes_on p)) r
  stays turning q r p e k = (k, ap (λ n. run f c k (St n [] (open_loops turning) p)) e)

  -- one behind the other
  pub then_comes : (turning : List ℕ) (q r s : ℕ) (p : Progress) (a : Attempt Done) (more : Progress → Attempt Done) → Comes turning q p a r
      → ((p' : Progress) → Comes turning r p' (more p') s) → Comes turning q p (then_do a more) s
  then_comes turning q r s p (Err reason) more first second k = first 0
  then_comes turning q r s p (Ok done) more first second k = by_flow done.flow done.progress first
    where
      by_flow : (flow : Flow) (p' : Progress) → Comes turning q p (Ok (record { progress = p'; flow = flow })) r
          → (j : ℕ) × (run f c j (St q [] (open_loops turning) p) ≡ behind k turning s (then_do (Ok (record { progress = p'; flow = flow })) more))
      by_flow GoesOn p' comes = let later = second p' k in let early = comes later.0 in (early.0, early.1 ∙ later.1)
      by_flow NoDecision p' comes = comes 0
      by_flow (Decides outcome) p' comes = comes 0

  -- values, and an instruction that takes them and changes where play has come to
  pub taken : {A : Type 0} (turning : List ℕ) (q : ℕ) (is : List Instruction) (i : Instruction) (p : Progress) (shown : A → List ℤ) (a : Attempt A) (h : A → Attempt Progress)
      → HasAt c (q + sizes is) (i ∷ []) → Gives f c turning p q is [] (next a (λ v. Ok (shown v)))
      → ((r : ℕ) (v : A) → does f (St r (shown v) (open_loops turning) p) i ≡ step_of (next (h v) (λ p'. Ok (St (r + size_of i) [] (open_loops turning) p'))))
      → Comes turning q p (next a (λ v. next (h v) (λ p'. Ok (goes_on p')))) (q + sizes (is ++ i ∷ []))
  taken turning q is i p shown (Err reason) h has gives takes k = (length is + 0, gives 0)
  taken turning q is i p shown (Ok v) h has gives takes k = (
    length is + suc k,
    gives (suc k) ∙ (next_is f c (St (q + sizes is) (shown v) (open_loops turning) p) i (next (h v) (λ p'. Ok (St (q + sizes is + size_of i) [] (open_loops turning) p'))) k has.0 (takes (q + sizes is) v)
        ∙ done (h v)),
  )
    where
      size : q + sizes is + size_of i ≡ q + sizes (is ++ i ∷ [])
      size = omega (arith, sizes-append is (i ∷ []))

      done : (b : Attempt Progress)
          → from f c k (next b (λ p'. Ok (St (q + sizes is + size_of i) [] (open_loops turning) p')))
          ≡ behind k turning (q + sizes (is ++ i ∷ [])) (next b (λ p'. Ok (goes_on p')))
      done (Ok p') = ap (λ n. run f c k (St n [] (open_loops turning) p')) size
      done (Err reason) = refl

  -- an instruction that ends the code
  pub stops_at : (s : State) (i : Instruction) (flow : Flow) (p : Progress) (k : ℕ) → at_place c s.place ≡ Some i → does f s i ≡ Leaves flow p → run f c (suc k) s ≡ Leaves flow p
  unfolding run
  stops_at s i flow p k at is = ap (λ o. goes_further (run f c k) (does_at f s o)) at ∙ ap (goes_further (run f c k)) is

  pub jump_is : (ls : List (Option ℕ)) (q to : ℕ) (p : Progress) (k : ℕ) → at_place c q ≡ Some (code.Jump to) → run f c (suc k) (St q [] ls p) ≡ run f c k (St to [] ls p)
  unfolding does
  jump_is ls q to p k at = next_is f c (St q [] ls p) (code.Jump to) (Ok (St to [] ls p)) k at refl

  -- a jump
  pub jumps : (turning : List ℕ) (q to : ℕ) (p : Progress) → HasAt c q (code.Jump to ∷ []) → Comes turning q p (Ok (goes_on p)) to
  unfolding does
  jumps turning q to p has k = (suc k, next_is f c (St q [] (open_loops turning) p) (code.Jump to) (Ok (St to [] (open_loops turning) p)) k has.0 refl)

  -- ---- a choice

  chooses : (turning : List ℕ) (q to : ℕ) (p : Progress) (b : Bool) → HasAt c q (code.IfZero to ∷ []) → (k : ℕ)
      → run f c (suc k) (St q (truth_number b ∷ []) (open_loops turning) p) ≡ run f c k (St (chosen b (q + 3) to) [] (open_loops turning) p)
  unfolding does
  chooses turning q to p true has k = next_is f c (St q (truth_number true ∷ []) (open_loops turning) p) (code.IfZero to) (Ok (St (q + 3) [] (open_loops turning) p)) k has.0 refl
  chooses turning q to p false has k = next_is f c (St q (truth_number false ∷ []) (open_loops turning) p) (code.IfZero to) (Ok (St to [] (open_loops turning) p)) k has.0 refl

  -- a truth, and one of two ways on
  pub choice_comes : (turning : List ℕ) (q : ℕ) (is : List Instruction) (to s : ℕ) (p : Progress) (truth : Attempt Bool) (a b : Attempt Done)
      → HasAt c (q + sizes is) (code.IfZero to ∷ [])
      → Gives f c turning p q is [] (on_top truth_number [] truth) → Comes turning (q + sizes is + 3) p a s → Comes turning to p b s
      → Comes turning q p (next truth (λ x. chosen x a b)) s
  choice_comes turning q is to s p (Err reason) a b has gives first second k = (length is + 0, gives 0)
  choice_comes turning q is to s p (Ok true) a b has gives first second k =
      let on = first k in (length is + suc on.0, gives (suc on.0) ∙ (chooses turning (q + sizes is) to p true has on.0 ∙ on.1))
  choice_comes turning q is to s p (Ok false) a b has gives first second k =
      let on = second k in (length is + suc on.0, gives (suc on.0) ∙ (chooses turning (q + sizes is) to p false has on.0 ∙ on.1))

  -- ---- a loop

  take_outer : (turning : List ℕ) (last : Option ℕ) → take (length turning) (open_loops turning ++ last ∷ []) ≡ open_loops turning
  take_outer [] last = refl
  take_outer (t ∷ ts) last = ap (λ ls. Some t ∷ ls) (take_outer ts last)

  last_loop : (turning : List ℕ) (last : Option ℕ) → slice_index_or (open_loops turning ++ last ∷ []) (length turning) None ≡ last
  last_loop [] last = refl
  last_loop (t ∷ ts) last = last_loop ts last

  opened : (turning : List ℕ) (o : ℕ) → open_loops turning ++ Some o ∷ [] ≡ open_loops (turning ++ o ∷ [])
  opened [] o = refl
  opened (t ∷ ts) o = ap (λ ls. Some t ∷ ls) (opened ts o)

  module _ (turning : List ℕ) (t head exit : ℕ) (is : ℕ → World → Bool) (does_to : ℕ → Progress → Attempt Done)
      (tells : (o : ℕ) (w : World) → f.tests t (open_loops (turning ++ o ∷ [])) w ≡ Ok (is o w))
      (has_next : HasAt c head (code.Next (length turning) t exit ∷ [])) where
    -- the state behind the search for the next object
    found : Progress → Option ℕ → Step
    found p None = Goes (St exit [] (open_loops turning) p)
    found p (Some o) = unless_abandoned (spend p) (λ p'. Goes (St (head + 6) [] (open_loops (turning ++ o ∷ [])) p'))

    searched : ℕ → ℕ → Progress → Attempt (Option ℕ)
    searched left o p = first_passing (λ o. f.tests t (open_loops (turning ++ o ∷ [])) p.world) left o

    found_is : (last : Option ℕ) (p : Progress) (o : Option ℕ)
        → turns_to (code.Next (length turning) t exit) (St head [] (open_loops turning ++ last ∷ []) p) (length turning) exit o ≡ found p o
    unfolding found
    found_is last p None = ap (λ ls. Goes (St exit [] ls p)) (take_outer turning last)
    found_is last p (Some o) = ap (λ ls. unless_abandoned (spend p) (λ p'. Goes (St (head + 6) [] ls p')))
        (ap (λ ls. ls ++ Some o ∷ []) (take_outer turning last) ∙ opened turning o)

    same_search : (g h : ℕ → Attempt Bool) (left o : ℕ) → ((n : ℕ) → g n ≡ h n) → first_passing g left o ≡ first_passing h left o
    same_search g h zero o same = refl
    same_search g h (suc left) o same = rw (same o, same_search g h left (o + 1) same) refl

    then_found : (last : Option ℕ) (p : Progress) (a : Attempt (Option ℕ))
        → unless_abandoned a (turns_to (code.Next (length turning) t exit) (St head [] (open_loops turning ++ last ∷ []) p) (length turning) exit)
        ≡ unless_abandoned a (found p)
    then_found last p (Ok o) = found_is last p o
    then_found last p (Err reason) = refl

    loops_with : (last : Option ℕ) (o : ℕ) → with_object (open_loops turning ++ last ∷ []) (length turning) o ≡ open_loops (turning ++ o ∷ [])
    loops_with last o = ap (λ ls. ls ++ Some o ∷ []) (take_outer turning last) ∙ opened turning o

    -- at the place of the next turn
    at_head : (last : Option ℕ) (p : Progress) (j : ℕ) → run f c (suc j) (St head [] (open_loops turning ++ last ∷ []) p)
        ≡ goes_further (run f c j) (unless_abandoned (searched (f.telling.setting.count - number_behind last) (number_behind last) p) (found p))
    unfolding run does searched
    at_head last p j =
        let s = St head [] (open_loops turning ++ last ∷ []) p in
        let tested : next_object f s (length turning) t ≡ searched (f.telling.setting.count - number_behind last) (number_behind last) p =
        ap (λ l. first_passing (λ o. f.tests t (with_object s.loops (length turning) o) p.world) (f.telling.setting.count - number_behind l) (number_behind l)) (last_loop turning last)
        ∙ same_search (λ o. f.tests t (with_object s.loops (length turning) o) p.world) (λ o. f.tests t (open_loops (turning ++ o ∷ [])) p.world)
        (f.telling.setting.count - number_behind last) (number_behind last)
        (λ o. ap (λ ls. f.tests t ls p.world) (loops_with last o))
        in
        ap (λ i. goes_further (run f c j) (does_at f s i)) has_next.0
        ∙ (ap (λ a. goes_further (run f c j) (unless_abandoned a (turns_to (code.Next (length turning) t exit) s (length turning) exit))) tested
        ∙ ap (goes_further (run f c j)) (then_found last p (searched (f.telling.setting.count - number_behind last) (number_behind last) p)))

    -- what the turns from here on come to, so many objects being left
    Turns : ℕ → ℕ → Progress → Type 0
    Turns left o p = (k : ℕ)
        → (j : ℕ) × (goes_further (run f c j) (unless_abandoned (searched left o p) (found p)) ≡ behind k turning exit (repeat is does_to (range_with_len o left) p))

    module _ (back : ℕ) (jumps_back : HasAt c back (code.Jump head ∷ [])) (does_so : (o : ℕ) (p : Progress) → Comes (turning ++ o ∷ []) (head + 6) p (does_to o p) back) where
      -- behind the body the next turn follows
      next_turn : (left o k : ℕ) → f.telling.setting.count - (o + 1) ≡ left → ((p' : Progress) → Turns left (o + 1) p')
          → (a : Attempt Done) (q : ℕ) (p : Progress) → Comes (turning ++ o ∷ []) q p a back
          → (j : ℕ) × (run f c j (St q [] (open_loops (turning ++ o ∷ [])) p) ≡ behind k turning exit (then_do a (repeat is does_to (range_with_len (o + 1) left))))
      unfolding Turns
      next_turn left o k count more (Err reason) q p comes = comes 0
      next_turn left o k count more (Ok done) q p comes = by_flow done.flow done.progress comes
        where
          by_flow : (flow : Flow) (p' : Progress) → Comes (turning ++ o ∷ []) q p (Ok (record { progress = p'; flow = flow })) back
              → (j : ℕ) × (run f c j (St q [] (open_loops (turning ++ o ∷ [])) p) ≡ behind k turning exit (then_do (Ok (record { progress = p'; flow = flow })) (repeat is does_to (range_with_len (o + 1) left))))
          by_flow GoesOn p' comes =
              let later = more p' k in
              let early = comes (suc (suc later.0)) in (
                early.0,
                early.1 ∙ (jump_is (open_loops (turning ++ o ∷ [])) back head p' (suc later.0) jumps_back.0
                    ∙ (ap (λ ls. run f c (suc later.0) (St head [] ls p')) (sym (opened turning o)) ∙ (at_head (Some o) p' later.0
                    ∙ (ap (λ n. goes_further (run f c later.0) (unless_abandoned (searched n (o + 1) p') (found p'))) count ∙ later.1)))),
              )
          by_flow NoDecision p' comes = comes 0
          by_flow (Decides outcome) p' comes = comes 0

      spent : (left o k : ℕ) → f.telling.setting.count - (o + 1) ≡ left → ((p' : Progress) → Turns left (o + 1) p') → (a : Attempt Progress)
          → (j : ℕ) × (goes_further (run f c j) (unless_abandoned a (λ p'. Goes (St (head + 6) [] (open_loops (turning ++ o ∷ [])) p'))) ≡ behind k turning exit (then_do (next a (does_to o)) (repeat is does_to (range_with_len (o + 1) left))))
      spent left o k count more (Err reason) = (0, refl)
      spent left o k count more (Ok p') = next_turn left o k count more (does_to o p') (head + 6) p' (does_so o p')

      tested : (left o k : ℕ) (p : Progress) (b : Bool) → f.telling.setting.count - (o + 1) ≡ left → ((p' : Progress) → Turns left (o + 1) p')
          → (j : ℕ) × (goes_further (run f c j) (unless_abandoned (or_later b o (searched left (o + 1) p)) (found p)) ≡ behind k turning exit (then_do (turn_if b (does_to o) p) (repeat is does_to (range_with_len (o + 1) left))))
      unfolding found Turns
      tested left o k p false count more = more p k
      tested left o k p true count more = spent left o k count more (spend p)

      all_turns : (left o : ℕ) (p : Progress) → f.telling.setting.count - o ≡ left → Turns left o p
      unfolding found Turns searched
      all_turns zero o p count k = (k, refl)
      all_turns (suc left) o p count k =
          let fewer : f.telling.setting.count - (o + 1) ≡ left = omega (arith, count) in
          let r = tested left o k p (is o p.world) fewer (λ p'. all_turns left (o + 1) p' fewer) in
          (r.0, ap (λ a. goes_further (run f c r.0) (unless_abandoned (next a (λ so. or_later so o (searched left (o + 1) p))) (found p))) (tells o p.world) ∙ r.1)

      -- a loop, from its beginning to its exit
      pub loops : (p : Progress) (start : ℕ) → HasAt c start (code.Begin (length turning) ∷ []) → start + 2 ≡ head
          → Comes turning start p (repeat is does_to (range_with_len 0 f.telling.setting.count) p) exit
      unfolding does Turns
      loops p start has at k =
          let r = all_turns f.telling.setting.count 0 p (omega arith) k in (
            suc (suc r.0),
            next_is f c (St start [] (open_loops turning) p) (code.Begin (length turning)) (Ok (St (start + 2) [] (open_loops turning ++ None ∷ []) p)) (suc r.0) has.0 refl
                ∙ (ap (λ n. run f c (suc r.0) (St n [] (open_loops turning ++ None ∷ []) p)) at ∙ (at_head None p r.0
                ∙ (ap (λ n. goes_further (run f c r.0) (unless_abandoned (searched n 0 p) (found p))) (omega arith) ∙ r.1))),
          )
