-- The keywords of the language, by the length of their spellings, and the words that only names may not hold.
use Rattle.std.specs.Prelude.{ℕ, List, [], ◌∷◌, codes}
use Rattle.i7_sentences.specs.declared.keyword.Keyword.{Keyword}
use Rattle.i7_sentences.specs.declared.keyword.Keyword.TheVariants as key

-- a keyword and its spelling
abbrev pub Spelled : Type 0
Spelled = List ℕ × Keyword

abbrev pub written_keywords : List (List Spelled)
written_keywords =
    []
    ∷ ((codes "(", key.Open) ∷ (codes ")", key.Close) ∷ (codes ",", key.Comma) ∷ (codes ":", key.Colon) ∷ (codes "a", key.A) ∷ [])
    ∷ ((codes "an", key.An) ∷ (codes "as", key.As) ∷ (codes "be", key.Be) ∷ (codes "by", key.By) ∷ (codes "if", key.If) ∷
    (codes "in", key.In) ∷ (codes "is", key.Is) ∷ (codes "no", key.No) ∷ (codes "of", key.Of) ∷ (codes "on", key.On) ∷
    (codes "or", key.Or) ∷ (codes "to", key.To) ∷ [])
    ∷ ((codes "and", key.And) ∷ (codes "any", key.Any) ∷ (codes "can", key.Can) ∷ (codes "end", key.End) ∷
    (codes "has", key.Has) ∷ (codes "not", key.Not) ∷ (codes "now", key.Now) ∷ (codes "one", key.One) ∷
    (codes "out", key.Out) ∷ (codes "say", key.Say) ∷ (codes "the", key.The) ∷ (codes "try", key.Try) ∷
    (codes "two", key.Two) ∷ [])
    ∷ ((codes "ends", key.Ends) ∷ (codes "from", key.From) ∷ (codes "kind", key.Kind) ∷ (codes "last", key.Last) ∷
    (codes "make", key.Make) ∷ (codes "move", key.Move) ∷ (codes "part", key.Part) ∷ (codes "play", key.Play) ∷
    (codes "rule", key.Rule) ∷ (codes "some", key.Some) ∷ (codes "stop", key.Stop) ∷ (codes "that", key.That) ∷
    (codes "this", key.This) ∷ (codes "turn", key.Turn) ∷ (codes "when", key.When) ∷ (codes "with", key.With) ∷
    (codes "worn", key.Worn) ∷ [])
    ∷ ((codes "above", key.Above) ∷ (codes "after", key.After) ∷ (codes "below", key.Below) ∷ (codes "carry", key.Carry) ∷
    (codes "check", key.Check) ∷ (codes "every", key.Every) ∷ (codes "fails", key.Fails) ∷ (codes "first", key.First) ∷
    (codes "light", key.Light) ∷ (codes "rules", key.Rules) ∷ (codes "scene", key.Scene) ∷ (codes "story", key.Story) ∷
    (codes "thing", key.Thing) ∷ (codes "value", key.Value) ∷ (codes "wears", key.Wears) ∷ (codes "world", key.World) ∷ [])
    ∷ ((codes "action", key.Action) ∷ (codes "before", key.Before) ∷ (codes "begins", key.Begins) ∷
    (codes "called", key.Called) ∷ (codes "during", key.During) ∷ (codes "follow", key.Follow) ∷
    (codes "inside", key.Inside) ∷ (codes "listed", key.Listed) ∷ (codes "number", key.Number) ∷
    (codes "repeat", key.Repeat) ∷ (codes "report", key.Report) ∷ (codes "saying", key.Saying) ∷
    (codes "things", key.Things) ∷ (codes "varies", key.Varies) ∷ [])
    ∷ ((codes "carried", key.Carried) ∷ (codes "carries", key.Carries) ∷ (codes "finally", key.Finally) ∷
    (codes "instead", key.Instead) ∷ (codes "nothing", key.Nothing) ∷ (codes "outside", key.Outside) ∷
    (codes "running", key.Running) ∷ (codes "through", key.Through) ∷ (codes "usually", key.Usually) ∷
    (codes "visible", key.Visible) ∷ [])
    ∷ ((codes "applying", key.Applying) ∷ (codes "continue", key.Continue) ∷ (codes "decision", key.Decision) ∷
    (codes "decrease", key.Decrease) ∷ (codes "increase", key.Increase) ∷ (codes "rulebook", key.Rulebook) ∷
    (codes "silently", key.Silently) ∷ (codes "succeeds", key.Succeeds) ∷ [])
    ∷ ((codes "recurring", key.Recurring) ∷ (codes "requiring", key.Requiring) ∷ (codes "otherwise", key.Otherwise) ∷ [])
    ∷ ((codes "understand", key.Understand) ∷ [])
    ∷ ((codes "description", key.Description) ∷ [])
    ∷ []

-- the articles
abbrev pub written_articles : List Keyword
written_articles = key.A ∷ key.An ∷ key.The ∷ key.Some ∷ []

-- the other words that no name of an object may hold
abbrev pub written_reserved : List Keyword
written_reserved =
    key.Is ∷ key.In ∷ key.On ∷ key.Of ∷ key.By ∷ key.From ∷ key.And ∷ key.Or ∷ key.Not ∷ key.Usually ∷ key.Kind ∷ key.Rule ∷ key.Rules ∷ key.If
    ∷ key.When ∷ key.During ∷ []
