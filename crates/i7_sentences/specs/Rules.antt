-- What rule the tokens of a sentence are, or the line at which it is refused.
use Rattle.std.specs.Prelude.{ℕ, List, Option, Some, None, if◌then◌else◌}
use Rattle.i7_lexer.specs.declared.token.Token.{Token}
use Rattle.i7_sentences.specs.Bodies.{Phrase, body_lines}
use Rattle.i7_sentences.specs.BodyOrder.{reserved_line}
use Rattle.i7_sentences.specs.Cuts.{line_in}
use Rattle.i7_sentences.specs.Lowest.{lower_of}
use Rattle.i7_sentences.specs.RuleBodies.{body_phrases, unread_line}
use Rattle.i7_sentences.specs.RuleHeads.{body_tokens, head_in}
use Rattle.i7_sentences.specs.declared.heard.Heard.{Heard}
use Rattle.i7_sentences.specs.declared.heard.Heard.TheVariants.{Says, Unread, Reserved}
use Rattle.i7_sentences.specs.declared.rule_head.Head.{Head}
use Rattle.i7_sentences.specs.declared.sentence.Assertion.TheVariants.{Rule}

abbrev pub unless_unread : Option ℕ → Heard → Heard
unless_unread None next = next
unless_unread (Some line) next = Unread line

abbrev pub unless_reserved : Option ℕ → Heard → Heard
unless_reserved None next = next
unless_reserved (Some line) next = Reserved line

-- a reserved word in the name of a scene that begins or ends is told at the rule's own line
abbrev pub head_reserved : ℕ → Head → Option ℕ
head_reserved line head = if head.has_reserved_name then Some line else None

-- the rule with a head at this line and a body of these phrases, if nothing in them is refused: what isn't understood is told before
-- a reserved word in a name, either at the lowest line
abbrev pub body_heard : ℕ → Head → List Phrase → Heard
body_heard line head phrases =
    unless_unread (unread_line line head.takes_one phrases)
    (unless_reserved (lower_of (head_reserved line head) (reserved_line phrases))
    (Says (Rule (record {
      book = head.book;
      subject = head.subject;
      scene = head.scene;
      condition = head.condition;
      name = head.name;
      body = body_phrases line phrases;
    }))))

-- a head that isn't understood is told at the rule's own line
abbrev pub head_heard : ℕ → Option Head → List Phrase → Heard
head_heard line None phrases = Unread line
head_heard line (Some head) phrases = body_heard line head phrases

-- what a sentence says as a rule
abbrev pub rule_heard : List Token → Heard
rule_heard tokens = head_heard (line_in tokens) (head_in tokens) (body_lines (body_tokens tokens))
