-- Tokens as they are kept.
use Rattle.std.specs.Prelude.{ℕ, List}
use Rattle.i7_lexer.specs.declared.packed.Sort.{Sort}
use Rattle.i7_lexer.specs.declared.packed.Sort.TheVariants.{Text as TextSort, Word as WordSort}
use Rattle.i7_lexer.specs.declared.packed.NearStart.{NearStart}
use Rattle.i7_lexer.specs.declared.packed.NearStart.TheVariants.{Paragraph as NearParagraph, Line as NearLine, Within as NearWithin, Across as NearAcross}
use Rattle.i7_lexer.specs.declared.packed.Shape.{Shape}
use Rattle.i7_lexer.specs.declared.packed.Shape.TheVariants.{Mark as MarkShape, Short, Long}
use Rattle.i7_lexer.specs.declared.token.Start.{Start}
use Rattle.i7_lexer.specs.declared.token.Start.TheVariants.{Paragraph, Line, Within, Across}
use Rattle.i7_lexer.specs.declared.token.Token.{Token}
use Rattle.i7_lexer.specs.declared.token.TokenKind.{TokenKind}
use Rattle.i7_lexer.specs.declared.token.TokenKind.TheVariants.{Word, Text, Mark}

-- the text or the word of these bytes
abbrev pub kind_with : Sort → List ℕ → TokenKind
kind_with TextSort bytes = Text bytes
kind_with WordSort bytes = Word bytes

-- the start that is kept so
abbrev pub far : NearStart → Start
far NearParagraph = Paragraph
far (NearLine indent) = Line indent
far NearWithin = Within
far NearAcross = Across

-- the token that is kept so
abbrev pub seen : Shape → Token
seen (MarkShape byte line start) = record { kind = Mark byte; line = line; start = start }
seen (Short sort start line bytes) = record { kind = kind_with sort bytes; line = line; start = far start }
seen (Long sort line kept) = record { kind = kind_with sort kept.value.bytes.items; line = line; start = kept.value.start }
