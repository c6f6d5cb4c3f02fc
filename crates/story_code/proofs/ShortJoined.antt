-- What words mean is joined as the language joins it: few truths wait for others, and adjectives are denied once.
use Rattle.std.proofs.Common.{◌≡◌, refl, ◌≤◌, Bool, true, false, List, [], ◌∷◌, arith}
use Rattle.std.specs.Prelude.{fold}
use Rattle.play_meaning.specs.Meant.{basic_meant, clause_meant, condition_meant, conjunction_meant, denied_if, not_if, quality_meant}
use Rattle.play_meaning.specs.Trees as tree
use Rattle.play_meaning.specs.declared.operand.Counts.{Counts}
use Rattle.play_meaning.specs.declared.tree.condition.Basic.{Basic}
use Rattle.play_meaning.specs.declared.tree.condition.Basic.TheVariants as basic
use Rattle.play_meaning.specs.declared.tree.condition.Clause.{Clause}
use Rattle.play_meaning.specs.declared.tree.condition.Condition.{Condition}
use Rattle.play_meaning.specs.declared.tree.condition.Conjunction.{Conjunction}
use Rattle.play_meaning.specs.declared.tree.object.Quality.{Quality}
use Rattle.play_meaning.specs.declared.tree.object.Quality.TheVariants as quality
use Rattle.story_code.specs.Sayable.{AdjectiveIsPlain, AdjectiveIsSayable, truths_waiting}
use Rattle.story_code.specs.ShortLaws.{IsJoinedSo}

basic_waits : (b : Basic) → truths_waiting (basic_meant b) ≡ 0
basic_waits (basic.IsSo o adjective) = refl
basic_waits (basic.IsOne o description) = refl
basic_waits (basic.IsSame a b) = refl
basic_waits (basic.IsHeld o relation holder) = refl
basic_waits (basic.IsHeldByOne o relation description) = refl
basic_waits (basic.Has holder o) = refl
basic_waits (basic.Encloses holder o) = refl
basic_waits (basic.HasDescription o) = refl
basic_waits (basic.Equals a b) = refl
basic_waits (basic.IsLess a b) = refl
basic_waits (basic.IsAtMost a b) = refl
basic_waits (basic.Happens scene) = refl
basic_waits basic.InDarkness = refl

denied_waits : (denied : Bool) (c : tree.Condition) → truths_waiting (not_if denied c) ≡ truths_waiting c
denied_waits false c = refl
denied_waits true c = refl

clause_waits : (c : Clause) → truths_waiting (clause_meant c) ≤ 0
clause_waits c = omega (arith, denied_waits c.denied (basic_meant c.basic), basic_waits c.basic)

clauses_wait : (clauses : List Clause) (all : tree.Condition) → truths_waiting all ≤ 1 → truths_waiting (fold (λ all clause. tree.And all (clause_meant clause)) all clauses) ≤ 1
clauses_wait [] all low = low
clauses_wait (clause ∷ clauses) all low = clauses_wait clauses (tree.And all (clause_meant clause)) (omega (arith, low, clause_waits clause))

conjunction_waits : (c : Conjunction) → truths_waiting (conjunction_meant c) ≤ 1
conjunction_waits c = clauses_wait c.rest.items (clause_meant c.first) (omega (arith, clause_waits c.first))

conjunctions_wait : (conjunctions : List Conjunction) (any : tree.Condition) → truths_waiting any ≤ 2 → truths_waiting (fold (λ any conjunction. tree.Or any (conjunction_meant conjunction)) any conjunctions) ≤ 2
conjunctions_wait [] any low = low
conjunctions_wait (conjunction ∷ conjunctions) any low = conjunctions_wait conjunctions (tree.Or any (conjunction_meant conjunction)) (omega (arith, low, conjunction_waits conjunction))

condition_waits : (c : Condition) → truths_waiting (condition_meant c) ≤ 2
condition_waits c = conjunctions_wait c.rest.items (conjunction_meant c.first) (omega (arith, conjunction_waits c.first))

denied_once : (z : Counts) (q : Quality) (denied : Bool) → AdjectiveIsPlain z (quality_meant q) → AdjectiveIsSayable z (denied_if denied (quality_meant q))
denied_once z q true is = is
denied_once z (quality.Is property side) false is = is
denied_once z (quality.Valued q value) false is = is
denied_once z quality.Visible false is = is
denied_once z quality.Touchable false is = is

pub meant_is_joined_so : IsJoinedSo
meant_is_joined_so = record { conditions = condition_waits; adjectives = λ z adjective is. denied_once z adjective.quality adjective.denied is }
