-- What the phrases of a body so far want of the next.
use Rattle.std.specs.Prelude.{ℕ, ◌==◌, nat_lt, Bool, true, false, not, ◌&&◌, Option, Some, None, if◌then◌else◌}
use Rattle.i7_sentences.specs.declared.due.Due.{Due}
use Rattle.i7_sentences.specs.declared.due.DueKind.{DueKind}
use Rattle.i7_sentences.specs.declared.due.DueKind.TheVariants.{Free, Deeper, Then, Else, AfterThen}

-- a phrase is due that belongs to what stands in front, an `if C,` or an inline `otherwise`
abbrev pub wants_phrase : DueKind → Bool
wants_phrase Then = true
wants_phrase Else = true
wants_phrase _ = false

abbrev pub is_then : DueKind → Bool
is_then Then = true
is_then _ = false

abbrev pub is_after_then : DueKind → Bool
is_after_then AfterThen = true
is_after_then _ = false

abbrev pub is_deeper : DueKind → Bool
is_deeper Deeper = true
is_deeper _ = false

abbrev pub is_done : DueKind → Bool
is_done Free = true
is_done AfterThen = true
is_done _ = false

-- an inline `otherwise` stands behind the phrase of an inline `if`, at the indent of the line at which that ends
abbrev pub is_awaiting : Due → ℕ → Bool
is_awaiting due indent = is_after_then due.kind && (due.indent == indent)

-- a block's deeper line is due and this isn't one
abbrev pub lacks_deeper : Due → ℕ → Bool
lacks_deeper due indent = is_deeper due.kind && not (nat_lt due.indent indent)

abbrev pub line_due : Due → Option ℕ
line_due due = if is_done due.kind then None else Some due.line
