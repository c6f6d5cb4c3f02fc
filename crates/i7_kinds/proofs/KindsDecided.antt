-- What the kinds of objects are, decided by what is known of the objects, and what the last statement is about.
use Rattle.std.proofs.Common.{◌≡◌, ℕ, List, [], ◌∷◌, ◌++◌, Option, refl, ap, ◌∙◌, subst, inl, inr, ◌⊎◌, ⊎_elim}
use Rattle.std.specs.Prelude.{Some, None, Decides, fold, slice_get}
use Rattle.world_meaning.proofs.Climbs.{climbs_decide}
use Rattle.world_meaning.specs.Kinds.{Under}
use Rattle.i7_claims.proofs.NameScans.{never}
use Rattle.i7_claims.specs.declared.statements.NumberedSentence.{NumberedSentence}
use Rattle.i7_kinds.specs.Demands.{subject_of}
use Rattle.i7_kinds.specs.Knowns.{is_of, is_of_in, is_parted, is_parted_at, is_parted_in, kind_of}
use Rattle.i7_kinds.specs.RefusalsShown.{EndsAbout, IsApart, IsOf}
use Rattle.i7_kinds.specs.declared.knowns.Demanded.{Demanded}
use Rattle.i7_kinds.specs.declared.knowns.Demanded.TheVariants.{Nothing, Deepest, Parted}
use Rattle.i7_kinds.specs.declared.knowns.Known.{Known}

nothing_there : {X : Type 0} (known : Known) (found : Option Known) → found ≡ None → found ≡ Some known → X
nothing_there known found e h = absurd cc

same_known : (found : Option Known) (a b : Known) → found ≡ Some a → found ≡ Some b → a ≡ b
same_known found a b h k = cc

of_found : (parents : List (Option ℕ)) (knowns : List Known) (kind o : ℕ) (found : Option Known) → slice_get knowns o ≡ found → Decides (is_of_in parents kind found) (IsOf parents knowns kind o)
of_found parents knowns kind o None e = never (λ h. nothing_there h.known (slice_get knowns o) e h.at)
of_found parents knowns kind o (Some known) e =
    let climbs = climbs_decide parents (kind_of known) kind in (
      λ is. record { known = known; at = e; under = climbs.0 is },
      λ h. climbs.1 (subst (λ (k : Known). Under parents (kind_of k) kind) (same_known (slice_get knowns o) h.known known h.at e) h.under),
    )

-- an object is of a kind where the test says so
pub of_decides : (parents : List (Option ℕ)) (knowns : List Known) (kind o : ℕ) → Decides (is_of parents knowns kind o) (IsOf parents knowns kind o)
of_decides parents knowns kind o = of_found parents knowns kind o (slice_get knowns o) refl

parted_decides : (demanded : Demanded) → Decides (is_parted demanded) (demanded ≡ Parted)
parted_decides Nothing = (λ h. absurd cc, λ h. absurd cc)
parted_decides (Deepest kind) = (λ h. absurd cc, λ h. absurd cc)
parted_decides Parted = (λ h. refl, λ h. refl)

apart_found : (knowns : List Known) (o : ℕ) (found : Option Known) → slice_get knowns o ≡ found → Decides (is_parted_in found) (IsApart knowns o)
apart_found knowns o None e = never (λ h. nothing_there h.known (slice_get knowns o) e h.at)
apart_found knowns o (Some known) e =
    let parted = parted_decides known.demanded in (
      λ is. record { known = known; at = e; parted = parted.0 is },
      λ h. parted.1 (subst (λ (k : Known). k.demanded ≡ Parted) (same_known (slice_get knowns o) h.known known h.at e) h.parted),
    )

-- an object's demands lie on no one path where the test says so
pub apart_decides : (knowns : List Known) (o : ℕ) → Decides (is_parted_at knowns o) (IsApart knowns o)
apart_decides knowns o = apart_found knowns o (slice_get knowns o) refl

-- ---- what the last statement is about

abbrev pub then_about : Option ℕ → NumberedSentence → Option ℕ
then_about before s = subject_of s.said

-- behind these statements
abbrev pub about_last : List NumberedSentence → Option ℕ
about_last statements = fold then_about None statements

ends_or_none : (start : Option ℕ) (statements : List NumberedSentence) (o : ℕ) → fold then_about start statements ≡ Some o → ((statements ≡ []) × (start ≡ Some o)) ⊎ EndsAbout statements o
ends_or_none start [] o h = inl (refl, h)
ends_or_none start (s ∷ statements) o h =
    ⊎_elim
    (λ t. inr (record { earlier = []; last = s; parts = ap (λ (ss : List NumberedSentence). s ∷ ss) t.0; about = t.1 }))
    (λ e. inr (record { earlier = s ∷ e.earlier; last = e.last; parts = ap (λ (ss : List NumberedSentence). s ∷ ss) e.parts; about = e.about }))
    (ends_or_none (subject_of s.said) statements o h)

pub ends_to : (statements : List NumberedSentence) (o : ℕ) → about_last statements ≡ Some o → EndsAbout statements o
ends_to statements o h = ⊎_elim (λ t. let none : None ≡ Some o = t.1 in absurd cc) (λ e. e) (ends_or_none None statements o h)

about_behind : (start : Option ℕ) (earlier : List NumberedSentence) (last : NumberedSentence) → fold then_about start (earlier ++ last ∷ []) ≡ subject_of last.said
about_behind start [] last = refl
about_behind start (s ∷ earlier) last = about_behind (subject_of s.said) earlier last

pub ends_from : (statements : List NumberedSentence) (o : ℕ) → EndsAbout statements o → about_last statements ≡ Some o
ends_from statements o e = ap about_last e.parts ∙ about_behind None e.earlier e.last ∙ e.about
