-- What is known of a story that was loaded: its tables are a story's, and its codes are verified.
use Rattle.std.specs.Prelude.{List}
use Rattle.story_code.specs.Soundness.{Judged}
use Rattle.story_format.specs.Codes.{AreCodesOf}
use Rattle.story_format.specs.Spells.{IsStory}
use Rattle.story_format.specs.declared.tables.Tables.{Tables}

pub record IsLoaded (t : Tables) (judged : List Judged) : Type 0 where
  pub story : IsStory t
  pub codes : AreCodesOf t judged
