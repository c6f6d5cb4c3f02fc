-- What the head of a rule says it is about (*Writing with Inform*, chapters 7, 10 and 12): a pattern, or the place, and a scene.
use Rattle.std.specs.Prelude.{◌≡◌, ℕ, Bool, List, [], Option, Some, None}
use Rattle.play_meaning.specs.Patterns.{Pattern, anything}
use Rattle.play_meaning.specs.Rules.{Anything, Aspect}
use Rattle.i7_sentences.specs.declared.rule.Rule.{Rule}
use Rattle.i7_sentences.specs.declared.rule.RuleSubject.{RuleSubject}
use Rattle.i7_sentences.specs.declared.rule.RuleSubject.TheVariants as subject
use Rattle.i7_conditions.specs.Clauses.{scene_named}
use Rattle.i7_conditions.specs.Words.{Word}
use Rattle.i7_patterns.specs.Asked.{IsAsked}
use Rattle.i7_patterns.specs.Aspects.{AsksOne}
use Rattle.i7_patterns.specs.PatternForms.{with_meaning}
use Rattle.i7_patterns.specs.Patterns.{IsPattern, is_right, pattern_is_over}
use Rattle.i7_patterns.specs.declared.asked.Asked.{Asked}
use Rattle.i7_patterns.specs.declared.asked.Asked.TheVariants.{Unread}
use Rattle.i7_rules.specs.Knowns.{Known, scope_among}

-- no repeat stands around a head

-- the scene of this name, as in `the storm is happening`
abbrev pub IsScene : Known → List Word → ℕ → Type 0
IsScene k words scene = scene_named (scope_among k []) words ≡ Some scene

-- about nothing but the place
abbrev pub in_place : Aspect → Pattern
in_place place = record { action = None; noun = Anything; second = Anything; place = place; scene = None }

abbrev pub IsPatternOf : Known → List Word → Pattern → Type 0
IsPatternOf k words p = IsPattern k.actions (scope_among k []) words p

abbrev pub IsPlaceOf : Known → List Word → Pattern → Type 0
IsPlaceOf k words p = (place : Aspect) × AsksOne (scope_among k []) words place × (p ≡ in_place place)

abbrev pub IsSubject : Known → RuleSubject → Pattern → Type 0
IsSubject k subject.Anything p = p ≡ anything
IsSubject k (subject.Pattern words) p = IsPatternOf k words p
IsSubject k (subject.Place words) p = IsPlaceOf k words p

-- a scene by these words
abbrev pub HappensSo : Known → List Word → Option ℕ → Type 0
HappensSo k words scene = (n : ℕ) × IsScene k words n × (scene ≡ Some n)

-- the scene behind `during`, if there is one
abbrev pub Happens : Known → Option (List Word) → Option ℕ → Type 0
Happens k None scene = scene ≡ None
Happens k (Some words) scene = HappensSo k words scene

abbrev pub during : Pattern → Option ℕ → Pattern
during p scene = record { action = p.action; noun = p.noun; second = p.second; place = p.place; scene = scene }

-- the pattern, or the place, while the scene happens
abbrev pub IsAbout : Known → Rule → Pattern → Type 0
IsAbout k rule about = (p : Pattern) × (scene : Option ℕ) × IsSubject k rule.subject p × Happens k rule.scene scene × (about ≡ during p scene)

-- the place, if one is asked for, is a room or a description of rooms, and no value is asked for
abbrev pub is_right_for : Known → Pattern → Bool
is_right_for k p = is_right k.parents k.objects p

-- ---- what is found of it

-- where there may be one
abbrev pub IsGiven : {A : Type 0} → (A → Type 0) → Option A → Type 0
IsGiven {A} Is None = (x : A) → Is x → ⊥
IsGiven {A} Is (Some x) = Is x

-- of what these patterns are
abbrev pub IsFound : Known → (Pattern → Type 0) → Asked Pattern → Type 0
IsFound k Means found = IsAsked Means (is_right_for k) pattern_is_over found

-- what is asked, while a scene happens, if the scene is there
abbrev pub happening : Asked Pattern → Option (Option ℕ) → Asked Pattern
happening found None = Unread
happening found (Some scene) = with_meaning (λ p. during p scene) found
