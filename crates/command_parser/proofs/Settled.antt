-- What slots come to, one behind the other.
use Rattle.std.proofs.Common.{◌≡◌, ℕ, ◌-◌, ◌<◌, ◌≤◌, Bool, true, false, List, [], ◌∷◌, ◌++◌, length, get_or, refl, ap, sym, ◌∙◌, arith}
use Rattle.std.proofs.lemmas.List.{take_all}
use Rattle.std.specs.Prelude.{Option, None, Some, if◌then◌else◌}
use Rattle.std.specs.Option.{option_map}
use Rattle.play_meaning.specs.Commands.{asks_for, done_to, is_settled, settle}
use Rattle.play_meaning.specs.Games.{Acts as ActsSo, Says}
use Rattle.play_meaning.specs.Grammar.{Grammar}
use Rattle.play_meaning.specs.declared.action.ActionNow.{ActionNow}
use Rattle.world_meaning.specs.Texts.{not_seen_text}
use Rattle.command_parser.specs.Commanding.{asks_if}
use Rattle.command_parser.specs.Fillings.{filling_of}
use Rattle.command_parser.specs.Settling.{is_asking, is_question, outcome_of, reading_by, settled_as, settled_by, with_noun}
use Rattle.command_parser.proofs.SlotSteps.{behind_first}
use Rattle.command_parser.specs.declared.filling.Filling.{Filling}
use Rattle.command_parser.specs.declared.filling.Filling.TheVariants.{Empty, Open, Settled}
use Rattle.command_parser.specs.declared.filling.Outcome.{Outcome}
use Rattle.command_parser.specs.declared.filling.Outcome.TheVariants.{Acts, Asks, NotSeen}

pub settle_end : (g : Grammar) (action : ℕ) (chosen : List ℕ) → settle g action chosen [] ≡ ActsSo (done_to action chosen)
unfolding settle
settle_end g action chosen = refl

pub settle_next : (g : Grammar) (action : ℕ) (chosen slot : List ℕ) (others : List (List ℕ)) → settle g action chosen (slot ∷ others) ≡ settled_as g action chosen slot others (filling_of g slot)
unfolding settle
settle_next g action chosen [] others = refl
settle_next g action chosen (o ∷ objects) others = one (is_settled g (o ∷ objects))
  where
    one : (settled : Bool) → (if settled then settle g action (chosen ++ o ∷ []) others else asks_for g action chosen (o ∷ objects) others)
        ≡ settled_as g action chosen (o ∷ objects) others (if settled then Settled o else Open)
    one true = refl
    one false = refl

-- ---- the same without the question's lists

pub one_noun_more : (action : ℕ) (chosen : List ℕ) (o : ℕ) → done_to action (chosen ++ o ∷ []) ≡ with_noun (done_to action chosen) o
one_noun_more action [] o = refl
one_noun_more action (first ∷ []) o = refl
one_noun_more action (first ∷ second ∷ more) o = refl

module _ (g : Grammar) (action : ℕ) where
  -- what is read by a slot's filling and the slots behind it
  read_by : (chosen slot : List ℕ) (others : List (List ℕ)) (filling : Filling)
      → ((o : ℕ) → settle g action (chosen ++ o ∷ []) others ≡ reading_by (outcome_of g (done_to action (chosen ++ o ∷ [])) others) (settle g action (chosen ++ o ∷ []) others))
      → settled_as g action chosen slot others filling
      ≡ reading_by (settled_by filling (done_to action chosen) (λ next. outcome_of g next others)) (settled_as g action chosen slot others filling)
  read_by chosen slot others Empty behind = refl
  read_by chosen slot others (Settled o) behind =
      behind o ∙ ap (λ now. reading_by (outcome_of g now others) (settle g action (chosen ++ o ∷ []) others)) (one_noun_more action chosen o)
  read_by chosen slot others Open behind = refl

  pub settle_reads : (chosen : List ℕ) (slots : List (List ℕ)) → settle g action chosen slots ≡ reading_by (outcome_of g (done_to action chosen) slots) (settle g action chosen slots)
  settle_reads chosen [] = settle_end g action chosen
  settle_reads chosen (slot ∷ others) =
      settle_next g action chosen slot others
      ∙ read_by chosen slot others (filling_of g slot) (λ o. settle_reads (chosen ++ o ∷ []) others)
      ∙ ap (reading_by (outcome_of g (done_to action chosen) (slot ∷ others))) (sym (settle_next g action chosen slot others))

  ask_by : (chosen slot : List ℕ) (others : List (List ℕ)) (filling : Filling)
      → ((o : ℕ) → is_asking (settle g action (chosen ++ o ∷ []) others) ≡ is_question (outcome_of g (done_to action (chosen ++ o ∷ [])) others))
      → is_asking (settled_as g action chosen slot others filling) ≡ is_question (settled_by filling (done_to action chosen) (λ next. outcome_of g next others))
  ask_by chosen slot others Empty behind = refl
  ask_by chosen slot others (Settled o) behind = behind o ∙ ap (λ now. is_question (outcome_of g now others)) (one_noun_more action chosen o)
  ask_by chosen slot others Open behind = refl

  pub settle_asks : (chosen : List ℕ) (slots : List (List ℕ)) → is_asking (settle g action chosen slots) ≡ is_question (outcome_of g (done_to action chosen) slots)
  settle_asks chosen [] = ap is_asking (settle_end g action chosen)
  settle_asks chosen (slot ∷ others) = ap is_asking (settle_next g action chosen slot others) ∙ ask_by chosen slot others (filling_of g slot) (λ o. settle_asks (chosen ++ o ∷ []) others)

-- ---- the slots that are left

rest_is : (rest : List (List ℕ)) (slot : List ℕ) → 1 ≤ length rest → slot ≡ get_or rest 0 slot → rest ≡ slot ∷ behind_first rest
rest_is [] slot some is = absurd (omega (arith, some))
rest_is (first ∷ others) slot some is = ap (λ x. x ∷ others) (sym is) ∙ ap (λ xs. slot ∷ xs) (sym (take_all (length (first ∷ others) - 1) others (omega arith)))

pub settle_here : (g : Grammar) (action : ℕ) (chosen slot : List ℕ) (rest : List (List ℕ)) (filling : Filling) → 1 ≤ length rest → slot ≡ get_or rest 0 slot → filling ≡ filling_of g slot
    → settle g action chosen rest ≡ settled_as g action chosen slot (behind_first rest) filling
settle_here g action chosen slot rest filling some is comes_to =
    ap (settle g action chosen) (rest_is rest slot some is) ∙ settle_next g action chosen slot (behind_first rest) ∙ ap (settled_as g action chosen slot (behind_first rest)) (sym comes_to)

pub settle_done : (g : Grammar) (action : ℕ) (chosen : List ℕ) (rest : List (List ℕ)) → length rest < 1 → settle g action chosen rest ≡ ActsSo (done_to action chosen)
settle_done g action chosen [] none = settle_end g action chosen
settle_done g action chosen (slot ∷ others) none = absurd (omega (arith, none))

-- ---- what comes of slots tells what is read

module _ (g : Grammar) (action : ℕ) where
  pub acts_as : (chosen : List ℕ) (slots : List (List ℕ)) (now : ActionNow) → outcome_of g (done_to action chosen) slots ≡ Acts now → ActsSo now ≡ settle g action chosen slots
  acts_as chosen slots now comes = sym (settle_reads g action chosen slots ∙ ap (λ o. reading_by o (settle g action chosen slots)) comes)

  pub not_seen_as : (chosen : List ℕ) (slots : List (List ℕ)) → outcome_of g (done_to action chosen) slots ≡ NotSeen → Says not_seen_text ≡ settle g action chosen slots
  not_seen_as chosen slots comes = sym (settle_reads g action chosen slots ∙ ap (λ o. reading_by o (settle g action chosen slots)) comes)

  pub asks_as : (chosen : List ℕ) (slots : List (List ℕ)) → outcome_of g (done_to action chosen) slots ≡ Asks → is_asking (settle g action chosen slots) ≡ true
  asks_as chosen slots comes = settle_asks g action chosen slots ∙ ap is_question comes

  pub acts_so : (found : Option (List (List ℕ))) (now : ActionNow) → option_map (outcome_of g (done_to action [])) found ≡ Some (Acts now) → Some (ActsSo now) ≡ option_map (settle g action []) found
  acts_so None now is = absurd cc
  acts_so (Some slots) now is = ap Some (acts_as [] slots now cc)

  pub not_seen_so : (found : Option (List (List ℕ))) → option_map (outcome_of g (done_to action [])) found ≡ Some NotSeen → Some (Says not_seen_text) ≡ option_map (settle g action []) found
  not_seen_so None is = absurd cc
  not_seen_so (Some slots) is = ap Some (not_seen_as [] slots cc)

  pub asks_so : (found : Option (List (List ℕ))) → option_map (outcome_of g (done_to action [])) found ≡ Some Asks → asks_if (option_map (settle g action []) found) ≡ true
  asks_so None is = absurd cc
  asks_so (Some slots) is = asks_as [] slots cc

  -- of a slot and the slots behind it
  pub slot_comes : (chosen slot : List ℕ) (others : List (List ℕ)) (filling : Filling) (begun : ActionNow) (outcome : Outcome) → filling ≡ filling_of g slot → begun ≡ done_to action chosen
      → outcome ≡ settled_by filling begun (λ next. outcome_of g next others) → outcome_of g (done_to action chosen) (slot ∷ others) ≡ outcome
  slot_comes chosen slot others filling begun outcome comes_to begins is =
      sym (is ∙ ap (λ f. settled_by f begun (λ next. outcome_of g next others)) comes_to ∙ ap (λ now. settled_by (filling_of g slot) now (λ next. outcome_of g next others)) begins)
