-- The words that objects go by besides those of their names.
use Rattle.std.specs.Prelude.{ℕ, ◌==◌, List, [], ◌∷◌, Option, None, Some, fold, if◌then◌else◌}
use Rattle.object_words.specs.Mentions.{mention}
use Rattle.object_words.specs.Words.{words_for}
use Rattle.world_meaning.specs.Tale.{object_at}
use Rattle.world_meaning.specs.declared.tale.Object.{Object}
use Rattle.world_meaning.specs.declared.tale.Tale.{Tale}
use Rattle.command_grammar.specs.declared.synonym.Synonym.{Synonym}

-- the words of an object's synonyms, in order
abbrev pub own_words : ℕ → List Synonym → List (List ℕ)
own_words o [] = []
own_words o (synonym ∷ synonyms) = if synonym.object == o then synonym.word ∷ own_words o synonyms else own_words o synonyms

-- the words of object o: those of its name, and then those of its synonyms, each word once
unfoldable pub words_said : List Synonym → ℕ → List ℕ → List (List ℕ)
words_said synonyms o name = fold mention (words_for o name) (own_words o synonyms)

abbrev pub words_in : List Synonym → ℕ → Option Object → List (List ℕ)
words_in synonyms o None = []
words_in synonyms o (Some object) = words_said synonyms o object.name

-- the words of a tale's object, by its number
abbrev pub words_told : List Synonym → Tale → ℕ → List (List ℕ)
words_told synonyms tale o = words_in synonyms o (object_at tale o)
