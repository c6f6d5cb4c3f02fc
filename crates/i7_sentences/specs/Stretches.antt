-- The stretches of a source, of each of which one line is told, and literals out of range in them.
use Rattle.std.specs.Prelude.{ℕ, Bool, false, List, [], ◌∷◌, map, Option, Some, None, if◌then◌else◌}
use Rattle.std.specs.List.{list_any}
use Rattle.i7_lexer.specs.declared.token.Token.{Token}
use Rattle.i7_lexer.specs.declared.token.TokenKind.{TokenKind}
use Rattle.i7_lexer.specs.declared.token.TokenKind.TheVariants.{Text, Word, Mark}
use Rattle.i7_sentences.specs.Bodies.{Phrase, body_lines}
use Rattle.i7_sentences.specs.BracketedWords.{has_bad_bracket}
use Rattle.i7_sentences.specs.Cuts.{Piece, line_in}
use Rattle.world_meaning.specs.Literals.{is_out_of_range}
use Rattle.i7_sentences.specs.Lowest.{lowest}
use Rattle.i7_sentences.specs.Matching.{Found}
use Rattle.i7_sentences.specs.Names.{Words}
use Rattle.i7_sentences.specs.RuleHeads.{body_tokens, head_tokens, is_rule_form}
use Rattle.i7_sentences.specs.Understood.{understood_by}
use Rattle.i7_sentences.specs.declared.part.PartKind.{PartKind}
use Rattle.i7_sentences.specs.declared.part.PartKind.TheVariants.{Title, Heading, Sentence}

pub record Stretch : Type 0 where
  pub line : ℕ
  pub tokens : List Token

abbrev pub whole : List Token → Stretch
whole tokens = record { line = line_in tokens; tokens = tokens }

abbrev pub phrase_stretch : Phrase → Stretch
phrase_stretch phrase = record { line = phrase.line; tokens = phrase.tokens }

-- a rule is its head and each phrase of its body, whether they are understood or not
abbrev pub rule_stretches : List Token → List Stretch
rule_stretches tokens =
    record { line = line_in tokens; tokens = head_tokens tokens } ∷ map phrase_stretch (body_lines (body_tokens tokens))

-- another sentence is one stretch
abbrev pub read_stretches : List Token → Option Found → List Stretch
read_stretches tokens None = whole tokens ∷ []
read_stretches tokens (Some found) = if is_rule_form found.variant.form then rule_stretches tokens else whole tokens ∷ []

-- in titles and headings none is told
abbrev pub kind_stretches : List Words → PartKind → List Token → List Stretch
kind_stretches kinds Title tokens = []
kind_stretches kinds Heading tokens = []
kind_stretches kinds Sentence tokens = read_stretches tokens (understood_by kinds tokens)

abbrev pub stretches_of : List Words → Piece → List Stretch
stretches_of kinds part = kind_stretches kinds part.kind part.tokens

-- a literal out of range, or a text with one between its brackets
abbrev pub holds_bad_literal_kind : TokenKind → Bool
holds_bad_literal_kind (Text text) = has_bad_bracket text
holds_bad_literal_kind (Word word) = is_out_of_range word
holds_bad_literal_kind (Mark mark) = false

abbrev pub holds_bad_literal : Token → Bool
holds_bad_literal token = holds_bad_literal_kind token.kind

-- the line of a stretch that holds a literal out of range
abbrev pub bad_literal_in : Stretch → Option ℕ
bad_literal_in stretch = if list_any holds_bad_literal stretch.tokens then Some stretch.line else None

-- the lowest line of such a stretch of a part
unfoldable pub bad_literal_of : List Words → Piece → Option ℕ
bad_literal_of kinds part = lowest bad_literal_in (stretches_of kinds part)
