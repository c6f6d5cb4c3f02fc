-- The heads of rules, in the order of their books, each as it stands alone and with the rule's name.
use Rattle.std.specs.Prelude.{ℕ, List, [], ◌∷◌, ◌++◌, codes}
use Rattle.i7_sentences.specs.declared.form.Form.TheVariants.{Head, NamedHead}
use Rattle.i7_sentences.specs.declared.rule_form.HeadBook.{HeadBook}
use Rattle.i7_sentences.specs.declared.rule_form.HeadBook.TheVariants.{Before, Instead, Check, CarryOut, After, Report, EveryTurn, PlayBegins, SceneBegins, SceneEnds, Own}
use Rattle.i7_sentences.specs.declared.rule_form.HeadParts.{HeadParts}
use Rattle.i7_sentences.specs.declared.rule_form.HeadParts.TheVariants.{Nothing, Pattern, Place, Scene, Condition}
use Rattle.language_tables.specs.WrittenForms.{Line}

abbrev pub with_name : HeadBook → HeadParts → List ℕ → List Line
with_name book parts words =
    (Head book parts, words ++ codes " BODY") ∷ (NamedHead book parts, words ++ codes " ( this is the WORDS rule ) BODY") ∷ []

-- alone, and behind it a place, a scene or a condition
abbrev pub with_parts : HeadBook → List ℕ → List Line
with_parts book words =
    with_name book Nothing words ++ with_name book Place (words ++ codes " in WORDS") ++ with_name book Scene (words ++ codes " during WORDS")
    ++ with_name book Condition (words ++ codes " when WORDS")

abbrev pub written_rules : List (List Line)
written_rules =
    with_name Before Pattern (codes "before WORDS")
    ∷ with_name Instead Pattern (codes "instead of WORDS")
    ∷ with_name Check Pattern (codes "check WORDS")
    ∷ with_name CarryOut Pattern (codes "carry out WORDS")
    ∷ with_name After Pattern (codes "after WORDS")
    ∷ with_name Report Pattern (codes "report WORDS")
    ∷ with_parts EveryTurn (codes "every turn")
    ∷ with_name PlayBegins Nothing (codes "when play begins")
    ∷ with_name SceneBegins Nothing (codes "when NAME begins")
    ∷ with_name SceneEnds Nothing (codes "when NAME ends")
    ∷ with_parts Own (codes "WORDS rule")
    ∷ []
