-- What sentences tell of tells which of them says of a scene what one before it says.
use Rattle.std.proofs.Common.{◌≡◌, ℕ, Bool, true, false, ◌||◌, List, [], ◌∷◌, ◌++◌, refl, sym, ap, ◌∙◌, subst, true≢false, inl, inr, ◌⊎◌, arith}
use Rattle.std.specs.Prelude.{◌==◌, Option, None, Some, if◌then◌else◌, option_map}
use Rattle.std.proofs.lemmas.List.Folds.{list_any-append}
use Rattle.std.proofs.lemmas.Bool.{or_left, or_right}
use Rattle.std.proofs.lemmas.Bool.Decides.{Decides-eqb}
use Rattle.world_meaning.specs.Declarations.{is_among}
use Rattle.i7_conditions.specs.Clauses.{scene_named}
use Rattle.i7_rules.proofs.Lows.{low_nothing, low_past, low_with}
use Rattle.i7_rules.specs.Knowns.{Known, scope_among}
use Rattle.i7_rules.specs.RuleScans.{IsLow}
use Rattle.i7_sentences.specs.Lowest.{lower_of}
use Rattle.i7_sentences.specs.declared.scene_change.SceneEdge.{SceneEdge}
use Rattle.i7_sentences.specs.declared.scene_change.SceneEdge.TheVariants.{Begins, Ends}
use Rattle.i7_resolution.specs.SceneChangeList.{ChangeAt, placed}
use Rattle.i7_resolution.specs.SceneScans.{edge_number, edge_of, mention_edge, twice_at}
use Rattle.i7_resolution.specs.SourceScenes.{IsOf, IsTwice, OneOf}
use Rattle.i7_resolution.proofs.ReadScenes.{same_scene}
use Rattle.i7_sentences.proofs.Lowest.{lower_none}

-- ---- numbers of begins and ends

pub record IsSameEdge (edge other : SceneEdge) (scene number : ℕ) : Type 0 where
  pub edges : edge ≡ other
  pub scenes : scene ≡ number

same_number : (edge other : SceneEdge) (a b : ℕ) → edge_number edge a ≡ edge_number other b → IsSameEdge edge other a b
same_number Begins Begins a b e = record { edges = refl; scenes = omega (arith, e) }
same_number Begins Ends a b e = absurd (omega (arith, e))
same_number Ends Begins a b e = absurd (omega (arith, e))
same_number Ends Ends a b e = record { edges = refl; scenes = omega (arith, e) }

among_more : (n : ℕ) (seen more : List ℕ) → is_among n seen ≡ true → is_among n (seen ++ more) ≡ true
among_more n seen more is = list_any-append (λ m. n == m) seen more ∙ or_left (is_among n seen) (is_among n more) is

among_last : (n : ℕ) (seen : List ℕ) → is_among n (seen ++ n ∷ []) ≡ true
among_last n seen =
    list_any-append (λ m. n == m) seen (n ∷ []) ∙ or_right (is_among n seen) (is_among n (n ∷ [])) (or_left (n == n) false ((Decides-eqb n n).1 refl))

either_true : (a b : Bool) → (a || b) ≡ true → (a ≡ true) ⊎ (b ≡ true)
either_true true b e = inl refl
either_true false b e = inr e

among_parts : (n m : ℕ) (seen : List ℕ) → is_among n (seen ++ m ∷ []) ≡ true → (is_among n seen ≡ true) ⊎ (n ≡ m)
among_parts n m seen is = elim (either_true (is_among n seen) (is_among n (m ∷ [])) (sym (list_any-append (λ o. n == o) seen (m ∷ [])) ∙ is)) [
  | inl front ↦ inl front
  | inr last ↦ elim (either_true (n == m) false last) [
    | inl same ↦ inr ((Decides-eqb n m).0 same)
    | inr never ↦ absurd (true≢false (sym never))
  ]
]

-- ---- sentences

-- so much is mentioned as these sentences tell of, which come with the last first; so far this is the lowest line
pub record IsSeenTo (k : Known) (seen : List ℕ) (line : Option ℕ) (before : List ChangeAt) : Type 0 where
  pub told : (scene : ℕ) (edge : SceneEdge) → OneOf (IsOf k scene edge) before → is_among (edge_number edge scene) seen ≡ true
  pub tells : (scene : ℕ) (edge : SceneEdge) → is_among (edge_number edge scene) seen ≡ true → OneOf (IsOf k scene edge) before
  pub low : IsLow (IsTwice k) (placed before) line

pub none_seen : (k : Known) (seen : List ℕ) (low : Option ℕ) → seen ≡ [] → low ≡ None → IsSeenTo k seen low []
none_seen k seen low is none = record {
  told = λ scene edge one. absurd one;
  tells = λ scene edge there. true≢false (sym there ∙ ap (is_among (edge_number edge scene)) is);
  low = subst (IsLow (IsTwice k) []) (sym none) (low_nothing (IsTwice k));
}

none_some : (n : ℕ) → None ≡ Some n → ⊥
none_some n e = cc

module _ (k : Known) (seen : List ℕ) (low : Option ℕ) (c : ChangeAt) (before : List ChangeAt) (h : IsSeenTo k seen low before) where
  -- its words name no scene
  unnamed : scene_named (scope_among k []) c.said.scene ≡ None → IsSeenTo k seen (lower_of low None) (c ∷ before)
  unnamed none = record {
    told = λ scene edge either. elim either [
      | inl here ↦ absurd (none_some scene (sym none ∙ here.1))
      | inr there ↦ h.told scene edge there
    ];
    tells = λ scene edge is. inr (h.tells scene edge is);
    low =
        subst (IsLow (IsTwice k) (placed (c ∷ before))) (sym (lower_none low))
        (low_past (IsTwice k) (record { change = c; before = before }) (placed before) low (λ line bad. none_some bad.scene (sym none ∙ bad.is_of.1)) h.low);
  }

  module _ (n : ℕ) (is_named : scene_named (scope_among k []) c.said.scene ≡ Some n) where
    number_is : (scene : ℕ) (edge : SceneEdge) → IsOf k scene edge c → edge_number edge scene ≡ edge_number c.said.edge n
    number_is scene edge is = ap (λ (e : SceneEdge). edge_number e scene) (sym is.0) ∙ ap (edge_number c.said.edge) (same_scene scene n (sym is.1 ∙ is_named))

    of_number : (scene : ℕ) (edge : SceneEdge) → edge_number edge scene ≡ edge_number c.said.edge n → IsOf k scene edge c
    of_number scene edge e =
        let same = same_number edge c.said.edge scene n e in
        (sym same.edges, is_named ∙ ap Some (sym same.scenes))

    before_it : is_among (edge_number c.said.edge n) seen ≡ true → IsSeenTo k seen (lower_of low (Some c.line)) (c ∷ before)
    before_it is = record {
      told = λ scene edge either. elim either [
        | inl here ↦ ap (λ (number : ℕ). is_among number seen) (number_is scene edge here) ∙ is
        | inr there ↦ h.told scene edge there
      ];
      tells = λ scene edge is_there. inr (h.tells scene edge is_there);
      low = low_with (IsTwice k) (record { change = c; before = before }) (placed before) low c.line (record {
        is = record { scene = n; edge = c.said.edge; is_of = (refl, is_named); one_before = h.tells n c.said.edge is; line_is = refl };
        alone = λ at bad. sym bad.line_is;
      }) h.low;
    }

    first : is_among (edge_number c.said.edge n) seen ≡ false → IsSeenTo k (seen ++ edge_number c.said.edge n ∷ []) (lower_of low None) (c ∷ before)
    first isnt = record {
      told = λ scene edge either. elim either [
        | inl here ↦ ap (λ (number : ℕ). is_among number (seen ++ edge_number c.said.edge n ∷ [])) (number_is scene edge here) ∙ among_last (edge_number c.said.edge n) seen
        | inr there ↦ among_more (edge_number edge scene) seen (edge_number c.said.edge n ∷ []) (h.told scene edge there)
      ];
      tells = λ scene edge is. elim (among_parts (edge_number edge scene) (edge_number c.said.edge n) seen is) [
        | inl there ↦ inr (h.tells scene edge there)
        | inr same ↦ inl (of_number scene edge same)
      ];
      low =
          subst (IsLow (IsTwice k) (placed (c ∷ before))) (sym (lower_none low))
          (low_past (IsTwice k) (record { change = c; before = before }) (placed before) low
          (λ line bad. true≢false (sym (h.told bad.scene bad.edge bad.one_before) ∙ ap (λ (number : ℕ). is_among number seen) (number_is bad.scene bad.edge bad.is_of) ∙ isnt))
          h.low);
    }

    by_seen : (is : Bool) → is_among (edge_number c.said.edge n) seen ≡ is
        → IsSeenTo k (if is then seen else seen ++ edge_number c.said.edge n ∷ []) (lower_of low (if is then Some c.line else None)) (c ∷ before)
    by_seen true is = before_it is
    by_seen false isnt = first isnt

  by_scene : (scene : Option ℕ) → scene_named (scope_among k []) c.said.scene ≡ scene
      → IsSeenTo k (mention_edge seen (option_map (edge_number c.said.edge) scene)) (lower_of low (twice_at seen c.line (option_map (edge_number c.said.edge) scene))) (c ∷ before)
  by_scene None none = unnamed none
  by_scene (Some n) is = by_seen n is (is_among (edge_number c.said.edge n) seen) refl

pub seen_further : (k : Known) (seen more : List ℕ) (low told next edge : Option ℕ) (c : ChangeAt) → edge ≡ edge_of k c → more ≡ mention_edge seen edge → told ≡ twice_at seen c.line edge
    → next ≡ lower_of low told → (before : List ChangeAt) → IsSeenTo k seen low before → IsSeenTo k more next (c ∷ before)
seen_further k seen more low told next edge c is mentions tells lowers before h =
    subst (λ (all : List ℕ). IsSeenTo k all next (c ∷ before)) (sym (mentions ∙ ap (mention_edge seen) is))
    (subst (λ (line : Option ℕ). IsSeenTo k (mention_edge seen (edge_of k c)) line (c ∷ before)) (sym (lowers ∙ ap (lower_of low) (tells ∙ ap (twice_at seen c.line) is)))
    (by_scene k seen low c before h (scene_named (scope_among k []) c.said.scene) refl))
