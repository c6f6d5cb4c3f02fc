-- What rules' bodies of each shape do, told as answers.
use Rattle.std.proofs.Common.{◌≡◌, ◌++◌, ap, sym, subst, ℕ, Bool, true, false, List, [], ◌∷◌, length, Option, None, Some, refl, Ok, Err, codes, arith}
use Rattle.std.specs.Prelude.{◌&&◌, int_le, not, pos}
use Rattle.std.proofs.lemmas.Bool.{le-leb}
use Rattle.std.proofs.lemmas.List.{append-nil}
use Rattle.play_meaning.specs.Attempts.{Attempt, next}
use Rattle.play_meaning.specs.Doing.{Inner, do_body, do_phrase}
use Rattle.play_meaning.specs.Effects.{Answer, ByItself, HasEffectOf, effect, ended, saying, trying}
use Rattle.play_meaning.specs.Progress.{Progress, goes_on, say, then_do}
use Rattle.play_meaning.specs.Saying.{Telling, chosen, description_in, listed, name_in, said_in, then_said}
use Rattle.play_meaning.specs.Scripts.{scope_of}
use Rattle.play_meaning.specs.StandardRules.{at_least_one, only, refuse, with_list, with_name}
use Rattle.play_meaning.specs.Seeing.{has_light}
use Rattle.play_meaning.specs.Trees.{And, Body, Bytes, Condition, Description, DescriptionOf, End, If, InDarkness, Name, Not, NowHeld, NowIs, Object, Say, Silence, Text, Try}
use Rattle.play_meaning.specs.declared.naming.Naming.{Naming}
use Rattle.play_meaning.specs.declared.naming.Naming.TheVariants.{Definite, Indefinite}
use Rattle.play_meaning.specs.Truth.{joined, truth_in}
use Rattle.play_meaning.specs.Values.{number_in, object_in, those}
use Rattle.play_meaning.specs.Worlds.{World}
use Rattle.play_meaning.specs.declared.action.ActionNow.{ActionNow}
use Rattle.world_meaning.specs.Texts.{said}
use Rattle.world_meaning.specs.declared.place.Rel.{Rel}
use Rattle.standard_rules.specs.Answers.{HasEffect, IsTold, answer_of, are_any, making, putting, refused_if, said_if, stop, telling_in}
use Rattle.standard_rules.specs.declared.answer.HostAnswer.{HostAnswer}
use Rattle.world_store.specs.StoryWorlds.{StoryWorld}

one_or_more : (xs : List ℕ) → int_le (pos 1) (pos (length xs)) ≡ are_any xs
one_or_more [] = refl
one_or_more (x ∷ xs) = le-leb 1 (length (x ∷ xs)) (omega arith)

module _ (t : Telling) (w : World) (now : ActionNow) where
  -- in this world and action the answer does what a rule with this body does
  abbrev pub DoesAs : Body → Answer → Type 0
  DoesAs body answer =
      (inner : Inner) (text : List ℕ) (work : ℕ)
      → effect t.setting inner answer (record { world = w; text = text; work = work })
      ≡ do_body t inner body (scope_of now) (record { world = w; text = text; work = work })

  abbrev pub IsTruth : Condition → Bool → Type 0
  IsTruth condition is = truth_in t.setting (scope_of now) w condition ≡ Ok is

  abbrev pub IsSaid : Text → List ℕ → Type 0
  IsSaid text bytes = said_in t (scope_of now) w text ≡ Ok bytes

  -- `say TEXT`
  pub says : (words : Text) (bytes : List ℕ) → IsSaid words bytes → DoesAs (only (Say words)) (saying bytes)
  unfolding do_body do_phrase
  says words bytes is inner text work = rw is refl

  -- `if CONDITION, say TEXT instead`
  pub refuses : (condition : Condition) (words : Text) (is : Bool) (bytes : List ℕ) → IsTruth condition is → IsSaid words bytes → DoesAs (refuse condition words) (refused_if is bytes)
  unfolding do_body do_phrase
  refuses condition words true bytes is told inner text work = rw (is, told) refl
  refuses condition words false bytes is told inner text work = rw (is, append-nil text) refl

  -- `if CONDITION, say TEXT`
  pub says_if : (condition : Condition) (words : Text) (is : Bool) (bytes : List ℕ) → IsTruth condition is → IsSaid words bytes → DoesAs (only (If condition (only (Say words)) End)) (said_if is bytes)
  unfolding do_body do_phrase
  says_if condition words true bytes is told inner text work = rw (is, told) refl
  says_if condition words false bytes is told inner text work = rw (is, append-nil text) refl

  -- `if CONDITION, say TEXT; otherwise say TEXT`
  pub says_either : (condition : Condition) (words others : Text) (is : Bool) (bytes more : List ℕ) → IsTruth condition is → IsSaid words bytes → IsSaid others more → DoesAs (only (If condition (only (Say words)) (only (Say others)))) (saying (chosen is bytes more))
  unfolding do_body do_phrase
  says_either condition words others true bytes more is told otherwise inner text work = rw (is, told) refl
  says_either condition words others false bytes more is told otherwise inner text work = rw (is, otherwise) refl

  abbrev pub IsMeant : Object → Option ℕ → Type 0
  IsMeant o n = object_in t.setting (scope_of now) w o ≡ n

  -- `now OBJECT is in HOLDER`
  pub puts : (o : Object) (relation : Rel) (holder : Object) (n m : Option ℕ) → IsMeant o n → IsMeant holder m → DoesAs (only (NowHeld o relation holder)) (putting n relation m)
  unfolding do_body do_phrase
  puts o relation holder None m is stands inner text work = rw (is, append-nil text) refl
  puts o relation holder (Some n) None is stands inner text work = rw (is, stands, append-nil text) refl
  puts o relation holder (Some n) (Some m) is stands inner text work = rw (is, stands, append-nil text) refl

  -- `now OBJECT is PROPERTY`
  pub makes : (o : Object) (property : ℕ) (value : Bool) (n : Option ℕ) → IsMeant o n → DoesAs (only (NowIs o property value)) (making n property value)
  unfolding do_body do_phrase
  makes o property value None is inner text work = rw (is, append-nil text) refl
  makes o property value (Some n) is inner text work = rw (is, append-nil text) refl

  -- ---- texts

  -- a text that ends with a name and a full stop
  pub tells_name : (front : List ℕ) (naming : Naming) (o : Object) (behind : List ℕ) (n : Option ℕ) → IsMeant o n → IsSaid (with_name front naming o behind) (front ++ (name_in t.setting naming n ++ said behind))
  unfolding said_in
  tells_name front naming o behind n is = rw (is, append-nil (said behind)) refl

  -- one that has two names
  pub tells_names : (front : List ℕ) (a : Object) (between : List ℕ) (b : Object) (behind : List ℕ) (n m : Option ℕ) → IsMeant a n → IsMeant b m
      → IsSaid (Bytes front (Name Definite a (with_name between Definite b behind))) (front ++ (name_in t.setting Definite n ++ (between ++ (name_in t.setting Definite m ++ said behind))))
  unfolding said_in
  tells_names front a between b behind n m is means = rw (is, means, append-nil (said behind)) refl

  pub tells_list : (front : List ℕ) (description : Description) (behind : List ℕ) → IsSaid (with_list front description behind) (front ++ (listed t.setting Indefinite (those t.setting (scope_of now) w description) ++ said behind))
  unfolding said_in
  tells_list front description behind = rw (append-nil (said behind)) refl

  pub tells_two : (front : List ℕ) (o : Object) (between : List ℕ) (description : Description) (n : Option ℕ) → IsMeant o n
      → IsSaid (Bytes front (Name Definite o (with_list between description (codes "."))))
      (front ++ (name_in t.setting Definite n ++ (between ++ (listed t.setting Indefinite (those t.setting (scope_of now) w description) ++ stop))))
  unfolding said_in
  tells_two front o between description n is = rw is refl

  -- `at least one of these`
  pub are_some : (description : Description) → IsTruth (at_least_one description) (are_any (those t.setting (scope_of now) w description))
  unfolding truth_in number_in
  are_some description = ap Ok (one_or_more (those t.setting (scope_of now) w description))

  -- `try ACTION`
  pub tries : (silent : Bool) (action : ℕ) (a b : Object) (n m : Option ℕ) → IsMeant a n → IsMeant b m
      → DoesAs (only (Try silent action a b)) (trying (record { action = action; noun = n; second = m; silent = silent }))
  unfolding do_body do_phrase
  tries silent action a b n m is means inner text work =
      rw (is, means, append-nil text) (tried_on (inner.tries (record { action = action; noun = n; second = m; silent = silent }) (record { world = w; text = text; work = work })))
    where
      tried_on : (a : Attempt Progress) → next a (ended ByItself) ≡ then_do (next a (λ p. Ok (goes_on p))) (do_body t inner End (scope_of now))
      tried_on (Ok p) = refl
      tried_on (Err reason) = refl

  -- `say "[description of OBJECT]"`, where this is what it says
  pub described : (description : Attempt (List ℕ)) (answer : Answer) → IsTold description answer → (inner : Inner) (text : List ℕ) (work : ℕ)
      → effect t.setting inner answer (record { world = w; text = text; work = work })
      ≡ then_do (then_do (next (then_said description (Ok [])) (λ bytes. Ok (goes_on (say bytes (record { world = w; text = text; work = work }))))) (do_body t inner End (scope_of now))) (do_body t inner End (scope_of now))
  unfolding do_body
  described (Ok bytes) answer told inner text work = rw (told, append-nil bytes) refl
  described (Err reason) answer told inner text work = rw (told.0, told.1) refl

  -- `if CONDITION, say "[description of OBJECT]"; otherwise say TEXT`
  pub describes_if : (condition : Condition) (o : Object) (others : Text) (n : Option ℕ) (answer : Answer) → IsTruth condition true → IsMeant o n
      → IsTold (description_in t now w n) answer → DoesAs (only (If condition (only (Say (DescriptionOf o Silence))) (only (Say others)))) answer
  unfolding do_body do_phrase said_in
  describes_if condition o others n answer is means told inner text work = rw (is, means) (described (description_in t now w n) answer told inner text work)

  -- in light, and there are some of these
  pub lit_and_some : (description : Description) → IsTruth (And (Not InDarkness) (at_least_one description)) (not (not (has_light t.setting w)) && are_any (those t.setting (scope_of now) w description))
  unfolding truth_in
  lit_and_some description = ap (λ b. joined (Ok (not (not (has_light t.setting w)))) b (λ x y. x && y)) (are_some description)

-- an answer that is told so has the effect that this has
pub as_told : (id : ℕ) (s : StoryWorld) (now : ActionNow) (answer : HostAnswer) {told : Answer} → answer_of answer ≡ told
    → HasEffectOf id (telling_in s.tables) s.world now told → HasEffect id s now answer
unfolding HasEffect
as_told id s now answer is has = subst (HasEffectOf id (telling_in s.tables) s.world now) (sym is) has
