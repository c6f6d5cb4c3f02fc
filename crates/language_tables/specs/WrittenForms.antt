-- The forms of sentences, the lowest first, each with a word or mark that it can't do without and its variants.
use Rattle.std.specs.Prelude.{ℕ, List, [], ◌∷◌, codes}
use Rattle.world_meaning.specs.declared.place.Rel.TheVariants as rel
use Rattle.i7_sentences.specs.declared.action_form.ActionSort.TheVariants as sort
use Rattle.i7_sentences.specs.declared.form.Form.{Form}
use Rattle.i7_sentences.specs.declared.form.Form.TheVariants as form
use Rattle.i7_sentences.specs.declared.value_form.KindLetter.{KindLetter}
use Rattle.i7_sentences.specs.declared.value_form.KindLetter.TheVariants.{First, FirstPlural, Last}

-- what a form is, and the form as it is printed
abbrev pub Line : Type 0
Line = Form × List ℕ

-- up to what a scene begins or ends on
abbrev pub written_lower : List (List Line)
written_lower =
    ((form.Description, codes "TEXT") ∷ [])
    ∷ ((form.Understand, codes "understand TEXTS as WORDS") ∷ [])
    ∷ ((form.BeforeRule, codes "before HEAD BODY") ∷ [])
    ∷ ((form.InsteadRule, codes "instead of HEAD BODY") ∷ [])
    ∷ ((form.CheckRule, codes "check HEAD BODY") ∷ [])
    ∷ ((form.CarryOutRule, codes "carry out HEAD BODY") ∷ [])
    ∷ ((form.AfterRule, codes "after HEAD BODY") ∷ [])
    ∷ ((form.ReportRule, codes "report HEAD BODY") ∷ [])
    ∷ ((form.EveryTurnRule, codes "every turn BODY") ∷ (form.EveryTurnRule, codes "every turn HEAD BODY") ∷ [])
    ∷ ((form.PlayBeginsRule, codes "when play begins BODY") ∷ (form.PlayBeginsRule, codes "when play begins HEAD BODY") ∷ [])
    ∷ ((form.SceneBeginsRule, codes "when NAME begins BODY") ∷ (form.SceneBeginsRule, codes "when NAME begins HEAD BODY") ∷ [])
    ∷ ((form.SceneEndsRule, codes "when NAME ends BODY") ∷ (form.SceneEndsRule, codes "when NAME ends HEAD BODY") ∷ [])
    ∷ ((form.OwnRule, codes "WORDS rule BODY") ∷ (form.OwnRule, codes "WORDS rule HEAD BODY") ∷ [])
    ∷ ((form.SceneBegins, codes "NAME begins when WORDS") ∷ (form.SceneEnds, codes "NAME ends when WORDS") ∷ [])
    ∷ []

-- what declares an action
abbrev pub written_actions : List Line
written_actions =
    (form.Action sort.InWorld, codes "WORDS is an action applying to nothing")
    ∷ (form.Action sort.InWorld, codes "WORDS is an action applying to one ASKED")
    ∷ (form.Action sort.InWorld, codes "WORDS is an action applying to one ASKED and one ASKED")
    ∷ (form.ActionOnTwo sort.InWorld, codes "WORDS is an action applying to two things")
    ∷ (form.Action sort.InLight, codes "WORDS is an action applying to nothing and requiring light")
    ∷ (form.Action sort.InLight, codes "WORDS is an action applying to one ASKED and requiring light")
    ∷ (form.Action sort.InLight, codes "WORDS is an action applying to one ASKED and one ASKED and requiring light")
    ∷ (form.ActionOnTwo sort.InLight, codes "WORDS is an action applying to two things and requiring light")
    ∷ (form.Action sort.OutOfWorld, codes "WORDS is an action out of world")
    ∷ (form.Action sort.OutOfWorld, codes "WORDS is an action out of world and applying to nothing")
    ∷ (form.Action sort.OutOfWorld, codes "WORDS is an action out of world and applying to one ASKED")
    ∷ (form.Action sort.OutOfWorld, codes "WORDS is an action out of world and applying to one ASKED and one ASKED")
    ∷ (form.ActionOnTwo sort.OutOfWorld, codes "WORDS is an action out of world and applying to two things")
    ∷ []

-- behind these, in front of those that speak of kinds of value
abbrev pub written_middle : List (List Line)
written_middle =
    ((form.ListedFirst, codes "WORDS rule is listed first in WORDS rules")
    ∷ (form.ListedLast, codes "WORDS rule is listed last in WORDS rules")
    ∷ (form.NotListed, codes "WORDS rule is not listed in any rulebook") ∷ [])
    ∷ written_actions
    ∷ ((form.Rulebook, codes "NAME rules is a rulebook") ∷ [])
    ∷ ((form.Scene, codes "NAME is a scene") ∷ (form.RecurringScene, codes "NAME is a recurring scene") ∷ [])
    ∷ []

-- those that speak of kinds of value, each with the letter that must name one
abbrev pub written_values : List (KindLetter × Line)
written_values =
    (First, (form.ValueKind, codes "NAME is a kind of value"))
    ∷ (FirstPlural, (form.Values, codes "NAME is NAMES"))
    ∷ (Last, (form.HasValue, codes "NAME has NAME"))
    ∷ (First, (form.UsuallyValue, codes "NAME of NAME is usually NAME"))
    ∷ (First, (form.ValueOf, codes "NAME of NAME is NAME"))
    ∷ []

-- what says of value itself that it is a kind
abbrev pub written_value_itself : List Line
written_value_itself =
    (form.KindOfKind, codes "value is a kind of NAME") ∷ (form.KindOfKind, codes "ARTICLE value is a kind of NAME") ∷ []

-- behind these
abbrev pub written_higher : List (List Line)
written_higher =
    ((form.KindOfKind, codes "NAME is a kind of NAME") ∷ [])
    ∷ ((form.CanBe, codes "NAME can be NAME") ∷ (form.CanBeEither, codes "NAME can be NAME or NAME") ∷ [])
    ∷ ((form.NumberProperty, codes "NAME has a number called NAME") ∷ [])
    ∷ ((form.Usually, codes "NAME is usually USUAL") ∷ (form.UsuallyNumber, codes "NAME of NAME is usually NUMBER") ∷ [])
    ∷ ((form.Variable, codes "NAME is a number that varies") ∷ [])
    ∷ ((form.DescriptionOf, codes "description of NAME is TEXT") ∷ (form.DescriptionOf, codes "ARTICLE description of NAME is TEXT") ∷ [])
    ∷ ((form.NumberOf, codes "NAME of NAME is NUMBER") ∷ [])
    ∷ ((form.DoorTo, codes "NAME is SIDE NAME and SIDE NAME") ∷ (form.WayTo, codes "NAME is SIDE NAME") ∷ (form.WayFrom, codes "SIDE NAME is NAME") ∷ [])
    ∷ ((form.Holds rel.Carried, codes "NAME carries NAMES") ∷ (form.Holds rel.Worn, codes "NAME wears NAMES")
    ∷ (form.Holds rel.In, codes "in NAME is NAMES") ∷ (form.Holds rel.On, codes "on NAME is NAMES") ∷ [])
    ∷ ((form.VariableIs, codes "NAME is NUMBER")
    ∷ (form.Held rel.In, codes "NAMES is in NAME") ∷ (form.Held rel.On, codes "NAMES is on NAME")
    ∷ (form.Held rel.Carried, codes "NAMES is carried by NAME") ∷ (form.Held rel.Worn, codes "NAMES is worn by NAME")
    ∷ (form.Held rel.Part, codes "NAMES is part of NAME") ∷ [])
    ∷ ((form.WhatHeld rel.In, codes "NAMES is WHAT in NAME") ∷ (form.WhatHeld rel.On, codes "NAMES is WHAT on NAME")
    ∷ (form.WhatHeld rel.Carried, codes "NAMES is WHAT carried by NAME") ∷ (form.WhatHeld rel.Worn, codes "NAMES is WHAT worn by NAME")
    ∷ (form.WhatHeld rel.Part, codes "NAMES is WHAT part of NAME") ∷ [])
    ∷ ((form.Is, codes "NAMES is WHAT") ∷ [])
    ∷ []
