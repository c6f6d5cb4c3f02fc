-- What a text says, in a world, an action and the open repeats.
use Rattle.std.specs.Prelude.{ℕ, Bool, true, false, List, [], ◌∷◌, ◌++◌, Option, None, Some, Ok, codes, if◌then◌else◌}
use Rattle.std.specs.Fmt.{signed_decimal}
use Rattle.world_meaning.specs.declared.article.Article.{Article}
use Rattle.world_meaning.specs.declared.article.Article.TheVariants as article
use Rattle.play_meaning.specs.Attempts.{Attempt, next}
use Rattle.play_meaning.specs.Settings.{Setting}
use Rattle.play_meaning.specs.Trees.{Bytes, CapitalDefinite, CapitalIndefinite, Definite, DescriptionOf, Figure, IfSaid, Indefinite, Listing, Name, Naming, Plain, Silence, Text, ValueName}
use Rattle.play_meaning.specs.Truth.{truth_in}
use Rattle.play_meaning.specs.Values.{Scope, number_in, object_in, those, value_at, value_named}
use Rattle.play_meaning.specs.Worlds.{World}
use Rattle.play_meaning.specs.declared.action.ActionNow.{ActionNow}

-- what words are read against: what never changes, and what is said when an object is described
pub record Telling : Type 0 where
  pub setting : Setting
  pub describes : ℕ → ActionNow → World → Attempt (List ℕ)

-- `a` and `an` give way to `the`; a name without an article has none
abbrev pub article_of : Naming → Article → List ℕ
article_of Plain article = []
article_of naming article.None = []
article_of Definite article = codes "the "
article_of CapitalDefinite article = codes "The "
article_of Indefinite article.A = codes "a "
article_of Indefinite article.An = codes "an "
article_of Indefinite article.Some = codes "some "
article_of CapitalIndefinite article.A = codes "A "
article_of CapitalIndefinite article.An = codes "An "
article_of CapitalIndefinite article.Some = codes "Some "

abbrev pub named : Setting → Naming → ℕ → List ℕ
named s naming o = article_of naming (s.article o) ++ s.name o

abbrev pub nothing_text : List ℕ
nothing_text = codes "nothing"

abbrev pub name_in : Setting → Naming → Option ℕ → List ℕ
name_in s naming None = nothing_text
name_in s naming (Some o) = named s naming o

-- what joins a thing of a list to those in front of it, by those behind it
abbrev pub joint : List ℕ → List ℕ
joint [] = codes " and "
joint (next ∷ more) = codes ", "

-- behind the first of a list
abbrev pub listed_on : Setting → Naming → List ℕ → List ℕ
listed_on s naming [] = []
listed_on s naming (o ∷ more) = joint more ++ named s naming o ++ listed_on s naming more

-- `x, y and z`
abbrev pub listed : Setting → Naming → List ℕ → List ℕ
listed s naming [] = nothing_text
listed s naming (o ∷ objects) = named s naming o ++ listed_on s naming objects

-- an object's description and a line break, where it has one
abbrev pub description_in : Telling → ActionNow → World → Option ℕ → Attempt (List ℕ)
description_in t now w None = Ok []
description_in t now w (Some o) = if t.setting.has_description o then next (t.describes o now w) (λ text. Ok (text ++ 10 ∷ [])) else Ok []

-- nothing where it has none
abbrev pub value_name : Setting → ℕ → Option ℕ → List ℕ
value_name s q None = nothing_text
value_name s q (Some value) = value_named s q value

abbrev pub then_said : Attempt (List ℕ) → Attempt (List ℕ) → Attempt (List ℕ)
then_said first more = next first (λ text. next more (λ others. Ok (text ++ others)))

abbrev pub chosen : {A : Type 0} → Bool → A → A → A
chosen true a b = a
chosen false a b = b

unfoldable pub said_in : Telling → Scope → World → Text → Attempt (List ℕ)
said_in t scope w Silence = Ok []
said_in t scope w (Bytes bytes more) = then_said (Ok bytes) (said_in t scope w more)
said_in t scope w (Figure number more) = then_said (next (number_in t.setting scope w number) (λ n. Ok (signed_decimal n))) (said_in t scope w more)
said_in t scope w (Name naming o more) = then_said (Ok (name_in t.setting naming (object_in t.setting scope w o))) (said_in t scope w more)
said_in t scope w (Listing naming description more) = then_said (Ok (listed t.setting naming (those t.setting scope w description))) (said_in t scope w more)
said_in t scope w (DescriptionOf o more) = then_said (description_in t scope.now w (object_in t.setting scope w o)) (said_in t scope w more)
said_in t scope w (ValueName q o more) = then_said (Ok (value_name t.setting q (value_at t.setting w q (object_in t.setting scope w o)))) (said_in t scope w more)
said_in t scope w (IfSaid condition a b more) = then_said (next (truth_in t.setting scope w condition) (λ x. chosen x (said_in t scope w a) (said_in t scope w b))) (said_in t scope w more)
