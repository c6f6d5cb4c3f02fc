-- The names that a sentence mentions that says what objects are.
use Rattle.std.specs.Prelude.{List, [], ◌∷◌, ◌++◌, Option, Some, None}
use Rattle.i7_sentences.specs.declared.name.Name.{Name}
use Rattle.i7_sentences.specs.declared.sentence.Being.{Being}
use Rattle.i7_sentences.specs.declared.sentence.Holder.{Holder}

-- the name of what holds
abbrev pub holders_in : Option Holder → List Name
holders_in None = []
holders_in (Some holder) = holder.name ∷ []

-- the names that are mentioned, in the order of the words
abbrev pub names_said : Being → List Name
names_said being = being.subjects ++ holders_in being.place
