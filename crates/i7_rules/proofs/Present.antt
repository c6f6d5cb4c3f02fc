-- What heads are about is there where what names stand for is.
use Rattle.std.proofs.Common.{◌≡◌, ◌<◌, ℕ, true, false, List, [], length, refl, sym, ap, ◌∙◌, subst}
use Rattle.std.specs.Prelude.{Option, None, Some, not}
use Rattle.std.proofs.lemmas.Bool.{and_parts, lt-ltb, not-true, or_parts}
use Rattle.play_meaning.specs.Patterns.{Pattern}
use Rattle.i7_sentences.specs.declared.rule.Rule.{Rule}
use Rattle.i7_sentences.specs.declared.rule.RuleSubject.{RuleSubject}
use Rattle.i7_sentences.specs.declared.rule.RuleSubject.TheVariants as subject
use Rattle.i7_conditions.specs.Clauses.{scene_in}
use Rattle.i7_conditions.specs.Keys.{known, plain_key}
use Rattle.i7_conditions.specs.There.{AreThere, Counts, IsThere}
use Rattle.i7_conditions.specs.Words.{Word}
use Rattle.i7_conditions.specs.declared.meaning.Meaning.{Meaning}
use Rattle.i7_conditions.specs.declared.meaning.Meaning.TheVariants as meaning
use Rattle.i7_patterns.specs.Patterns.{pattern_asks_value, pattern_is_over}
use Rattle.i7_patterns.specs.Places.{is_place}
use Rattle.i7_patterns.specs.There.{AsksWhatIs, is_one_of}
use Rattle.i7_patterns.proofs.Present.{one_there, patterns_there}
use Rattle.i7_rules.specs.Abouts.{Happens, IsAbout, IsScene, IsSubject, is_right_for}
use Rattle.i7_rules.specs.Heads.{Head, IsWithin, is_asked_over}
use Rattle.i7_rules.specs.Knowns.{Known, scope_among}

module _ (k : Known) (z : Counts) (there : AreThere z k.meanings k.plurals) where
  -- ---- scenes

  scene_of : (found : Option Meaning) (n : ℕ) → ((m : Meaning) → found ≡ Some m → IsThere z m) → scene_in found ≡ Some n → n < z.scenes
  scene_of None n h e = absurd cc
  scene_of (Some (meaning.Scene m)) n h e = let same : m ≡ n = cc in subst (λ (s : ℕ). s < z.scenes) same (h (meaning.Scene m) refl)
  scene_of (Some (meaning.Object o)) n h e = absurd cc
  scene_of (Some (meaning.Kind kind)) n h e = absurd cc
  scene_of (Some (meaning.Quality p side)) n h e = absurd cc
  scene_of (Some (meaning.Number p)) n h e = absurd cc
  scene_of (Some (meaning.Variable v)) n h e = absurd cc
  scene_of (Some (meaning.ValueKind q)) n h e = absurd cc
  scene_of (Some (meaning.Value q v)) n h e = absurd cc

  known_there : (key : Option (List ℕ)) (m : Meaning) → known (scope_among k []) key ≡ Some m → IsThere z m
  known_there None m e = absurd cc
  known_there (Some key) m e = there.names key m e

  pub scene_there : (words : List Word) (n : ℕ) → IsScene k words n → n < z.scenes
  scene_there words n is = scene_of (known (scope_among k []) (plain_key words)) n (known_there (plain_key words)) is

  happens_there : (words : Option (List Word)) (scene : Option ℕ) → Happens k words scene → is_one_of z.scenes scene ≡ true
  happens_there None scene is = ap (is_one_of z.scenes) is
  happens_there (Some words) scene is = ap (is_one_of z.scenes) is.2 ∙ lt-ltb is.0 z.scenes (scene_there words is.0 is.1)

  -- ---- patterns

  subject_there : (said : RuleSubject) (p : Pattern) → IsSubject k said p → pattern_is_over p ≡ false → pattern_asks_value p ≡ false → AsksWhatIs z (length k.actions) p
  subject_there subject.Anything p is within plain = subst (AsksWhatIs z (length k.actions)) (sym is) (record { action = refl; noun = refl; second = refl; place = refl; scene = refl })
  subject_there (subject.Pattern words) p is within plain = patterns_there z k.actions (scope_among k []) words p there is within plain
  subject_there (subject.Place words) p is within plain =
      let short = ap pattern_is_over (sym is.2) ∙ within in
      let no_value = ap pattern_asks_value (sym is.2) ∙ plain in
      subst (AsksWhatIs z (length k.actions)) (sym is.2) (record {
        action = refl;
        noun = refl;
        second = refl;
        place = one_there z (scope_among k []) words is.0 there is.1 short no_value;
        scene = refl;
      })

  about_there : (rule : Rule) (about : Pattern) → IsAbout k rule about → pattern_is_over about ≡ false → pattern_asks_value about ≡ false → AsksWhatIs z (length k.actions) about
  about_there rule about is within plain =
      let asks = subject_there rule.subject is.0 is.2 (ap pattern_is_over (sym is.4) ∙ within) (ap pattern_asks_value (sym is.4) ∙ plain) in
      subst (AsksWhatIs z (length k.actions)) (sym is.4) (record { action = asks.action; noun = asks.noun; second = asks.second; place = asks.place; scene = happens_there rule.scene is.1 is.3 })

  -- a right head asks for no value
  without_value : (about : Pattern) → is_right_for k about ≡ true → pattern_asks_value about ≡ false
  without_value about right = not-true (pattern_asks_value about) (and_parts (is_place k.parents k.objects about.place) (not (pattern_asks_value about)) right).1

  pub head_there : (rule : Rule) (head : Head) → IsWithin k rule head → AsksWhatIs z (length k.actions) head.about
  head_there rule head is =
      about_there rule head.about (is.0).about (or_parts (pattern_is_over head.about) (is_asked_over head.condition) is.2).0 (without_value head.about is.1)

pub heads_there : (k : Known) (z : Counts) (rule : Rule) (head : Head) → AreThere z k.meanings k.plurals → IsWithin k rule head → AsksWhatIs z (length k.actions) head.about
heads_there k z rule head there is = head_there k z there rule head is
