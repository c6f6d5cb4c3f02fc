-- The text that describes an object otherwise than its description is the first that does so than one before it, and what
-- texts are tested for is shown by the statements that describe with them.
use Rattle.std.proofs.Common.{◌≡◌, ℕ, Bool, true, List, [], ◌∷◌, ◌++◌, Option, refl, sym, ap, ◌∙◌, subst, inl, inr, ◌⊎◌, ⊎_elim}
use Rattle.std.specs.Prelude.{◌==◌, Some, None, find, option_map, if◌then◌else◌}
use Rattle.std.specs.List.{list_any}
use Rattle.std.proofs.lemmas.Bool.{eqb-true, eq-eqb, cases_Bool}
use Rattle.std.proofs.lemmas.Slice.Eq.{bytes_eq-Decides}
use Rattle.i7_claims.specs.declared.statements.Numbered.{Numbered}
use Rattle.i7_claims.specs.declared.statements.Numbered.TheVariants as numbered
use Rattle.i7_claims.specs.declared.statements.NumberedSentence.{NumberedSentence}
use Rattle.i7_kinds.specs.Demands.{described_after, described_by, descriptions_of, is_room, is_second, line_of_description, line_of_statement, says, second_description, subject_of, told_alone, told_in}
use Rattle.i7_kinds.specs.FirstShown.{IsFirst, IsFound}
use Rattle.i7_kinds.specs.RefusalsShown.{Describes, IsDescribedAgain, IsRoom}
use Rattle.i7_kinds.specs.declared.descriptions.Description.{Description}
use Rattle.i7_kinds.specs.declared.knowns.Known.{Known}
use Rattle.world_meaning.specs.Kinds.{room_kind}
use Rattle.i7_kinds.proofs.Contrary.{IsAmong, IsContrary, Keyed, all_told, contrary_first}
use Rattle.i7_kinds.proofs.FirstShown.{first_passed, first_same, found_of_first, shown_as}
use Rattle.i7_kinds.proofs.KindsDecided.{about_last, ends_from, ends_to, of_decides, then_about}

-- ---- descriptions are keyed by their objects

abbrev same_object : Description → Description → Bool
same_object d other = other.object == d.object

abbrev text_of : Description → List ℕ
text_of d = d.text

keyed : Keyed same_object text_of says
keyed = record {
  itself = λ x. eq-eqb x.object x.object refl;
  alike = λ x y h. λ i z. z.object == eqb-true y.object x.object h i;
  with_none = λ v. refl;
  agreeing = λ v w h. (bytes_eq-Decides v w).0 h;
  with_itself = λ v. (bytes_eq-Decides v v).1 refl;
}

one_line : (test : Description → Bool) (s : NumberedSentence) (rest : List Description) (later : Option NumberedSentence)
    → option_map line_of_description (find test rest) ≡ option_map line_of_statement later → (ds : List Description) → (ds ≡ []) ⊎ ((d : Description) × (ds ≡ d ∷ []) × (d.line ≡ s.line))
    → option_map line_of_description (find test (ds ++ rest)) ≡ option_map line_of_statement (if list_any test ds then Some s else later)
one_line test s rest later same ds h =
    let Goal : List Description → Type 0 = λ ds. option_map line_of_description (find test (ds ++ rest)) ≡ option_map line_of_statement (if list_any test ds then Some s else later) in
    ⊎_elim
    (λ none. subst Goal (sym none) same)
    (λ t. subst Goal (sym t.1) (elim (cases_Bool (test t.0)) [
      | inl is ↦ rw is (ap (λ (n : ℕ). Some n) t.2)
      | inr isnt ↦ rw isnt same
    ]))
    h

module _ (parents : List (Option ℕ)) (knowns : List Known) where
  abbrev pub tells : Option ℕ → NumberedSentence → List Description
  tells before s = described_by parents knowns before s

  -- a statement tells one description at most, at its line
  one_at_most : (before : Option ℕ) (said : Numbered) (line : ℕ)
      → (told_in parents knowns before said line ≡ []) ⊎ ((d : Description) × (told_in parents knowns before said line ≡ d ∷ []) × (d.line ≡ line))
  one_at_most before numbered.Aside line = inl refl
  one_at_most None (numbered.Description text) line = inl refl
  one_at_most (Some o) (numbered.Description text) line =
      elim (cases_Bool (is_room parents knowns o)) [
        | inl is ↦ inr (record { object = o; text = text; line = line }, rw is refl, refl)
        | inr isnt ↦ inl (rw isnt refl)
      ]
  one_at_most before (numbered.Describes o text) line = inr (record { object = o; text = text; line = line }, refl, refl)
  one_at_most before (numbered.Being o) line = inl refl
  one_at_most before (numbered.Way way) line = inl refl
  one_at_most before (numbered.Door d) line = inl refl

  pub told_all : (before : Option ℕ) (statements : List NumberedSentence) → all_told tells then_about before statements ≡ described_after parents knowns before statements
  told_all before [] = refl
  told_all before (s ∷ statements) = ap (λ (ds : List Description). described_by parents knowns before s ++ ds) (told_all (subject_of s.said) statements)

  -- the line of the first description that passes a test is that of the first statement that tells one that does
  pub lines_same : (test : Description → Bool) (before : Option ℕ) (statements : List NumberedSentence)
      → option_map line_of_description (find test (described_after parents knowns before statements))
      ≡ option_map line_of_statement (first_passed (λ state s. list_any test (tells state s)) then_about before statements)
  lines_same test before [] = refl
  lines_same test before (s ∷ statements) =
      one_line test s (described_after parents knowns (subject_of s.said) statements) (first_passed (λ state s. list_any test (tells state s)) then_about (subject_of s.said) statements)
      (lines_same test (subject_of s.said) statements)
      (tells before s)
      (one_at_most before s.said s.line)

  -- ---- what a statement tells describes an object

  alone_to : (before : List NumberedSentence) (state : Option ℕ) → about_last before ≡ state → (d : Description) (text : List ℕ) (line : ℕ) → IsAmong d (told_alone parents knowns state text line)
      → Describes parents knowns d.object d.text before (numbered.Description text)
  alone_to before None e d text line m = absurd m
  alone_to before (Some o) e d text line m =
      elim (cases_Bool (is_room parents knowns o)) [
        | inl is ↦
            let t : IsAmong d (record { object = o; text = text; line = line } ∷ []) = rw is at m in
            ⊎_elim
            (λ same.
            let object : o ≡ d.object = ap (λ (x : Description). x.object) (sym same) in (
              ends_to before d.object (e ∙ ap (λ (n : ℕ). Some n) object),
              subst (λ (n : ℕ). IsRoom parents knowns n) object ((of_decides parents knowns room_kind o).0 is),
              ap (λ (x : Description). x.text) (sym same),
            ))
            (λ none. absurd none)
            t
        | inr isnt ↦ let t : IsAmong d [] = rw isnt at m in absurd t
      ]

  pub describes_to : (before : List NumberedSentence) (d : Description) (said : Numbered) (line : ℕ) → IsAmong d (told_in parents knowns (about_last before) said line)
      → Describes parents knowns d.object d.text before said
  describes_to before d numbered.Aside line m = absurd m
  describes_to before d (numbered.Description text) line m = alone_to before (about_last before) refl d text line m
  describes_to before d (numbered.Describes o text) line m =
      ⊎_elim (λ same. (ap (λ (x : Description). x.object) (sym same), ap (λ (x : Description). x.text) (sym same))) (λ none. absurd none) m
  describes_to before d (numbered.Being o) line m = absurd m
  describes_to before d (numbered.Way way) line m = absurd m
  describes_to before d (numbered.Door door) line m = absurd m

  abbrev description : ℕ → List ℕ → ℕ → Description
  description o text line = record { object = o; text = text; line = line }

  pub describes_from : (before : List NumberedSentence) (o : ℕ) (text : List ℕ) (said : Numbered) (line : ℕ) → Describes parents knowns o text before said
      → IsAmong (description o text line) (told_in parents knowns (about_last before) said line)
  describes_from before o text numbered.Aside line h = absurd h
  describes_from before o text (numbered.Description other) line h =
      let is : is_room parents knowns o ≡ true = (of_decides parents knowns room_kind o).1 h.1 in
      rw (ends_from before o h.0, is) (inl (ap (λ (t : List ℕ). description o t line) (sym h.2)))
  describes_from before o text (numbered.Describes object other) line h = inl (λ i. description (sym h.0 i) (sym h.1 i) line)
  describes_from before o text (numbered.Being object) line h = absurd h
  describes_from before o text (numbered.Way way) line h = absurd h
  describes_from before o text (numbered.Door door) line h = absurd h

  one_text : (state : Option ℕ) (s : NumberedSentence) (x y : Description) → IsAmong x (tells state s) → IsAmong y (tells state s) → same_object x y ≡ true → text_of y ≡ text_of x
  one_text state s x y m k h =
      ⊎_elim
      (λ none. let t : IsAmong x [] = subst (λ (ds : List Description). IsAmong x ds) none m in absurd t)
      (λ t.
      let a : IsAmong x (t.0 ∷ []) = subst (λ (ds : List Description). IsAmong x ds) t.1 m in
      let b : IsAmong y (t.0 ∷ []) = subst (λ (ds : List Description). IsAmong y ds) t.1 k in
      ⊎_elim (λ p. ⊎_elim (λ q. ap text_of (q ∙ sym p)) (λ none. absurd none) b) (λ none. absurd none) a)
      (one_at_most state s.said s.line)

  -- ---- the statements

  abbrev Contrary : List NumberedSentence → NumberedSentence → Type 0
  Contrary before s = IsContrary same_object text_of says keyed line_of_statement tells then_about None before s

  again_first : (statements : List NumberedSentence) → IsFirst line_of_statement (IsDescribedAgain parents knowns) statements (second_description (descriptions_of parents knowns statements))
  again_first statements =
      let found : second_description (descriptions_of parents knowns statements)
      ≡ option_map line_of_statement (first_passed (λ state s. list_any (is_second (all_told tells then_about None statements)) (tells state s)) then_about None statements) =
      lines_same (is_second (descriptions_of parents knowns statements)) None statements
      ∙ ap (λ (ds : List Description). option_map line_of_statement (first_passed (λ state s. list_any (is_second ds) (tells state s)) then_about None statements)) (sym (told_all None statements)) in
      let contrary = contrary_first same_object text_of says keyed line_of_statement tells then_about one_text None statements in
      first_same line_of_statement Contrary (IsDescribedAgain parents knowns) statements (second_description (descriptions_of parents knowns statements))
      (λ before s after split c.
      let object : c.other.object ≡ c.here.object = eqb-true c.other.object c.here.object c.key in
      record {
        object = c.here.object;
        text = c.here.text;
        other = c.other.text;
        describes = describes_to before c.here s.said s.line c.tells;
        described = shown_as _ _ before (λ earlier a m. subst (λ (n : ℕ). Describes parents knowns n c.other.text earlier a.said) object (describes_to earlier c.other a.said a.line m)) c.told_before;
        differ = λ e. c.differ (sym e);
      })
      (λ before s after split e. inl (record {
        here = description e.object e.text s.line;
        other = description e.object e.other e.described.item.line;
        tells = describes_from before e.object e.text s.said s.line e.describes;
        told_before = let shown = e.described in record {
          before = shown.before;
          item = shown.item;
          after = shown.after;
          split = shown.split;
          here = describes_from shown.before e.object e.other shown.item.said shown.item.line shown.here;
        };
        key = eq-eqb e.object e.object refl;
        differ = λ same. e.differ (sym same);
      }))
      (subst (λ (line : Option ℕ). IsFirst line_of_statement Contrary statements line) (sym found) contrary)

  pub again_found : (statements : List NumberedSentence) → IsFound line_of_statement (IsDescribedAgain parents knowns) statements (second_description (descriptions_of parents knowns statements))
  again_found statements = found_of_first line_of_statement (IsDescribedAgain parents knowns) statements (second_description (descriptions_of parents knowns statements)) (again_first statements)
