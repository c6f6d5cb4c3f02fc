-- What is kept of a token beside it.
use Rattle.std.specs.Prelude.{◌≡◌, Bool, Option}
use Rattle.world_meaning.specs.declared.direction.Direction.{Direction}
use Rattle.i7_lexer.specs.declared.token.Token.{Token}
use Rattle.i7_sentences.specs.Words.{word_of, is_word, direction_named}
use Rattle.i7_sentences.specs.Keywords.{keyword_of}
use Rattle.world_meaning.specs.Literals.{is_literal}
use Rattle.i7_sentences.specs.declared.keyword.Keyword.{Keyword}

pub record IsTagged (token : Token) (keyword : Option Keyword) (direction : Option Direction) (is_number word : Bool) : Type 0 where
  pub keyword_is : keyword ≡ keyword_of token
  pub direction_is : direction ≡ direction_named (word_of token)
  pub number_is : is_number ≡ is_literal (word_of token)
  pub word_is : word ≡ is_word token
