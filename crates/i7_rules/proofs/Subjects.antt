-- What is found of what heads are about is what they are about.
use Rattle.std.proofs.Common.{◌≡◌, ℕ, Bool, List, [], refl, sym, ◌∙◌, ap, subst}
use Rattle.std.specs.Prelude.{Option, None, Some}
use Rattle.play_meaning.specs.Patterns.{Pattern, anything}
use Rattle.play_meaning.specs.Rules.{Aspect}
use Rattle.i7_sentences.specs.declared.rule.Rule.{Rule}
use Rattle.i7_sentences.specs.declared.rule.RuleSubject.{RuleSubject}
use Rattle.i7_sentences.specs.declared.rule.RuleSubject.TheVariants as subject
use Rattle.i7_conditions.specs.Clauses.{scene_named}
use Rattle.i7_conditions.specs.Words.{Word}
use Rattle.i7_conditions.proofs.Listing.{Made}
use Rattle.i7_patterns.specs.Asked.{IsAsked as IsFound}
use Rattle.i7_patterns.specs.Aspects.{AsksOne}
use Rattle.i7_patterns.specs.PatternForms.{with_meaning}
use Rattle.i7_patterns.specs.Patterns.{IsPattern, pattern_is_over}
use Rattle.i7_patterns.specs.Places.{is_long, is_place, is_right_place}
use Rattle.i7_patterns.specs.declared.asked.Asked.{Asked}
use Rattle.i7_patterns.specs.declared.asked.Asked.TheVariants.{Read, TooMany, Unread, WrongKind}
use Rattle.i7_rules.specs.Abouts.{Happens, HappensSo, IsAbout, IsGiven, IsPlaceOf, IsSubject, during, happening, in_place, is_right_for}
use Rattle.i7_rules.specs.Knowns.{Known, scope_among}

-- ---- scenes

pub no_scene : (k : Known) (words : List Word) (scene : Option ℕ) → scene ≡ None → scene ≡ scene_named (scope_among k []) words → IsGiven (HappensSo k words) None
no_scene k words scene e named = λ happens is. let never : None ≡ Some is.0 = sym e ∙ named ∙ is.1 in cc

pub some_scene : (k : Known) (words : List Word) (scene : Option ℕ) (n : ℕ) → scene ≡ Some n → scene ≡ scene_named (scope_among k []) words → IsGiven (HappensSo k words) (Some (Some n))
some_scene k words scene n e named = (n, sym named ∙ e, refl)

pub none_asked : (k : Known) (words : Option (List Word)) → words ≡ None → IsGiven (Happens k words) (Some None)
none_asked k words e = subst (λ (w : Option (List Word)). IsGiven (Happens k w) (Some None)) (sym e) refl

happens_told : (k : Known) (words : List Word) (scene : Option (Option ℕ)) → IsGiven (HappensSo k words) scene → IsGiven (Happens k (Some words)) scene
happens_told k words None h = h
happens_told k words (Some scene) h = h

pub happens_at : (k : Known) (words lent : List Word) (said : Option (List Word)) (scene : Option (Option ℕ)) → said ≡ Some words → lent ≡ words → IsGiven (HappensSo k lent) scene → IsGiven (Happens k said) scene
happens_at k words lent said scene e lends h =
    subst (λ (w : Option (List Word)). IsGiven (Happens k w) scene) (sym e) (happens_told k words scene (subst (λ (w : List Word). IsGiven (HappensSo k w) scene) lends h))

-- ---- what is made of what is found

made_found : {A C : Type 0} (make : A → C) (Means : A → Type 0) (right over : A → Bool) (is_right is_over : C → Bool) → ((x : A) → is_right (make x) ≡ right x) → ((x : A) → is_over (make x) ≡ over x)
    → (found : Asked A) → IsFound Means right over found → IsFound (Made make Means) is_right is_over (with_meaning make found)
made_found make Means right over is_right is_over rights overs (Read x) h = ((x, h.0, refl), rights x ∙ h.1, overs x ∙ h.2)
made_found make Means right over is_right is_over rights overs WrongKind h = (make h.0, (h.0, h.1, refl), rights h.0 ∙ h.2)
made_found make Means right over is_right is_over rights overs TooMany h = (make h.0, (h.0, h.1, refl), rights h.0 ∙ h.2, overs h.0 ∙ h.3)
made_found make Means right over is_right is_over rights overs Unread h = λ c made. h made.0 made.1

pub place_found : (k : Known) (words : List Word) (place : Asked Aspect) (found : Asked Pattern) → found ≡ with_meaning in_place place → IsFound (AsksOne (scope_among k []) words) (is_right_place k.parents k.objects) is_long place
    → IsFound (IsPlaceOf k words) (is_right_for k) pattern_is_over found
place_found k words place found e h =
    subst (IsFound (IsPlaceOf k words) (is_right_for k) pattern_is_over) (sym e)
    (made_found in_place (AsksOne (scope_among k []) words) (is_right_place k.parents k.objects) is_long (is_right_for k) pattern_is_over (λ x. refl) (λ x. refl) place h)

-- ---- subjects

nothing_told : (k : Known) (p : Pattern) → p ≡ anything → IsFound (IsSubject k subject.Anything) (is_right_for k) pattern_is_over (Read p)
unfolding is_place
nothing_told k p e = (e, ap (is_right_for k) e, ap pattern_is_over e)

pub nothing_said : (k : Known) (said : RuleSubject) (p : Pattern) → said ≡ subject.Anything → p ≡ anything → IsFound (IsSubject k said) (is_right_for k) pattern_is_over (Read p)
nothing_said k said p e is = subst (λ (s : RuleSubject). IsFound (IsSubject k s) (is_right_for k) pattern_is_over (Read p)) (sym e) (nothing_told k p is)

same_means : {A : Type 0} (One Other : A → Type 0) (right over : A → Bool) → ((x : A) → One x → Other x) → ((x : A) → Other x → One x) → (found : Asked A) → IsFound One right over found → IsFound Other right over found
same_means One Other right over to back (Read x) h = (to x h.0, h.1, h.2)
same_means One Other right over to back WrongKind h = (h.0, to h.0 h.1, h.2)
same_means One Other right over to back TooMany h = (h.0, to h.0 h.1, h.2, h.3)
same_means One Other right over to back Unread h = λ x is. h x (back x is)

pub pattern_at : (k : Known) (words lent : List Word) (said : RuleSubject) (found : Asked Pattern) → said ≡ subject.Pattern words → lent ≡ words
    → IsFound (IsPattern k.actions (scope_among k []) lent) (is_right_for k) pattern_is_over found → IsFound (IsSubject k said) (is_right_for k) pattern_is_over found
pattern_at k words lent said found e lends h =
    subst (λ (s : RuleSubject). IsFound (IsSubject k s) (is_right_for k) pattern_is_over found) (sym e)
    (same_means (IsPattern k.actions (scope_among k []) words) (IsSubject k (subject.Pattern words)) (is_right_for k) pattern_is_over (λ p is. is) (λ p is. is) found
    (subst (λ (w : List Word). IsFound (IsPattern k.actions (scope_among k []) w) (is_right_for k) pattern_is_over found) lends h))

pub place_at : (k : Known) (words lent : List Word) (said : RuleSubject) (found : Asked Pattern) → said ≡ subject.Place words → lent ≡ words → IsFound (IsPlaceOf k lent) (is_right_for k) pattern_is_over found
    → IsFound (IsSubject k said) (is_right_for k) pattern_is_over found
place_at k words lent said found e lends h =
    subst (λ (s : RuleSubject). IsFound (IsSubject k s) (is_right_for k) pattern_is_over found) (sym e)
    (same_means (IsPlaceOf k words) (IsSubject k (subject.Place words)) (is_right_for k) pattern_is_over (λ p is. is) (λ p is. is) found
    (subst (λ (w : List Word). IsFound (IsPlaceOf k w) (is_right_for k) pattern_is_over found) lends h))

-- ---- while a scene happens

module _ (k : Known) (rule : Rule) where
  happening_so : (found : Asked Pattern) (scene : Option (Option ℕ)) → IsFound (IsSubject k rule.subject) (is_right_for k) pattern_is_over found → IsGiven (Happens k rule.scene) scene
      → IsFound (IsAbout k rule) (is_right_for k) pattern_is_over (happening found scene)
  happening_so found None h none = λ about is. none is.1 is.3
  happening_so (Read p) (Some scene) h is = ((p, scene, h.0, is, refl), h.1, h.2)
  happening_so WrongKind (Some scene) h is = (during h.0 scene, (h.0, scene, h.1, is, refl), h.2)
  happening_so TooMany (Some scene) h is = (during h.0 scene, (h.0, scene, h.1, is, refl), h.2, h.3)
  happening_so Unread (Some scene) h is = λ about made. h made.0 made.2

  pub about_found : (found : Asked Pattern) (scene : Option (Option ℕ)) (about : Asked Pattern) → IsFound (IsSubject k rule.subject) (is_right_for k) pattern_is_over found → IsGiven (Happens k rule.scene) scene
      → about ≡ happening found scene → IsFound (IsAbout k rule) (is_right_for k) pattern_is_over about
  about_found found scene about h is e = subst (IsFound (IsAbout k rule) (is_right_for k) pattern_is_over) (sym e) (happening_so found scene h is)
