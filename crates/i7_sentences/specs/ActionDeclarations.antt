-- What a sentence says that declares an action.
use Rattle.std.specs.Prelude.{ℕ, Bool, true, false, List, [], ◌∷◌, Option, Some, None, if◌then◌else◌}
use Rattle.std.specs.List.{filter_map}
use Rattle.world_meaning.specs.declared.needs.Slot.{Slot}
use Rattle.world_meaning.specs.declared.needs.Slot.TheVariants.{Absent, Visible, Touched, Carried}
use Rattle.i7_lexer.specs.declared.token.Token.{Token}
use Rattle.i7_sentences.specs.Keywords.{is_sign}
use Rattle.i7_sentences.specs.Names.{named_in}
use Rattle.i7_sentences.specs.declared.action_declaration.ActionDeclaration.{ActionDeclaration}
use Rattle.i7_sentences.specs.declared.action_form.ActionSort.{ActionSort}
use Rattle.i7_sentences.specs.declared.action_form.ActionSort.TheVariants.{InWorld, InLight, OutOfWorld}
use Rattle.i7_sentences.specs.declared.keyword.Keyword.TheVariants as keyword
use Rattle.i7_sentences.specs.declared.sentence.Assertion.{Assertion}
use Rattle.i7_sentences.specs.declared.sentence.Assertion.TheVariants as assertion
use Rattle.i7_sentences.specs.declared.sentence.Sentence.{Sentence}

-- a `visible thing` is seen, a `carried thing` is held, and a `thing` is touched
abbrev pub asked_of : List Token → Slot
asked_of [] = Touched
asked_of (first ∷ more) = if is_sign keyword.Visible first then Visible else (if is_sign keyword.Carried first then Carried else Touched)

abbrev pub is_in_light : ActionSort → Bool
is_in_light InLight = true
is_in_light InWorld = false
is_in_light OutOfWorld = false

abbrev pub is_out_of_world : ActionSort → Bool
is_out_of_world OutOfWorld = true
is_out_of_world InWorld = false
is_out_of_world InLight = false

abbrev pub declared : List Token → Slot → Slot → ActionSort → Option Assertion
declared name noun second sort = Some (assertion.Action (record {
  name = named_in name;
  needs = record { noun = noun; second = second; light = is_in_light sort; out_of_world = is_out_of_world sort };
}))

-- by its name and what it asks of its nouns, as many as are told
abbrev pub action : ActionSort → List (List Token) → Option Assertion
action sort (name ∷ []) = declared name Absent Absent sort
action sort (name ∷ noun ∷ []) = declared name (asked_of noun) Absent sort
action sort (name ∷ noun ∷ second ∷ []) = declared name (asked_of noun) (asked_of second) sort
action sort _ = None

-- `two things`
abbrev pub action_on_two : ActionSort → List (List Token) → Option Assertion
action_on_two sort (name ∷ []) = declared name Touched Touched sort
action_on_two sort _ = None

-- ---- in a source

-- what a sentence says that declares an action, and its line
pub record ActionAt : Type 0 where
  pub line : ℕ
  pub said : ActionDeclaration

abbrev pub action_at : ℕ → Assertion → Option ActionAt
action_at line (assertion.Action said) = Some (record { line = line; said = said })
action_at line _ = None

-- the actions that sentences declare, in their order
abbrev pub actions_declared : List Sentence → List ActionAt
actions_declared sentences = filter_map (λ sentence. action_at sentence.line sentence.said) sentences
