-- The first lexeme that is read is the first lexeme.
use Rattle.std.proofs.Common.{◌≡◌, ◌≢◌, ℕ, Bool, true, List, [], ◌∷◌, ◌++◌, take, Option, Some, None, refl, sym, ap, ◌∙◌, subst, append_assoc, inl, inr, take-append-drop}
use Rattle.std.specs.List.{prefix_len}
use Rattle.i7_lexer.specs.declared.byte_class.ByteClass.{ByteClass}
use Rattle.i7_lexer.specs.declared.byte_class.ByteClass.TheVariants.{Letter, Blank, Quote, Bracket, Other}
use Rattle.i7_lexer.specs.declared.lexeme.Lexeme.{Lexeme}
use Rattle.i7_lexer.specs.declared.lexeme.Lexeme.TheVariants.{Kept, Comment}
use Rattle.i7_lexer.specs.declared.lexeme.Piece.TheVariants.{Text, Mark}
use Rattle.i7_lexer.specs.Bytes.{is_letter, is_blank, class_of}
use Rattle.i7_lexer.specs.Lexemes.{IsNext, IsUnclosed}
use Rattle.i7_lexer.specs.Scans.{next_of, next_by, word_of, space_of, text_from, text_before, comment_from, comment_before, behind_quote, closing, front_of}
use Rattle.i7_lexer.proofs.Runs.{prefix_len-yes, front_passes, behind_stops}
use Rattle.i7_lexer.proofs.Classes.{letter_from_class, blank_from_class, quote_from_class, bracket_from_class}
use Rattle.i7_lexer.proofs.Quotes.{front_of_is, quoted, unquoted}
use Rattle.i7_lexer.proofs.Comments.{commented, closing_at}

front_is_some : (p : ℕ → Bool) (b : ℕ) (bytes : List ℕ) → p b ≡ true → take (prefix_len p (b ∷ bytes)) (b ∷ bytes) ≢ []
front_is_some p b bytes h = rw (prefix_len-yes p b bytes h) (λ e. cc)

word_is : (b : ℕ) (bytes : List ℕ) → is_letter b ≡ true → IsNext (word_of (b ∷ bytes)).0 (b ∷ bytes) (word_of (b ∷ bytes)).1
unfolding word_of
word_is b bytes h = record {
  spells = sym (take-append-drop (prefix_len is_letter (b ∷ bytes)) (b ∷ bytes));
  is_lexeme = (front_is_some is_letter b bytes h, front_passes is_letter (b ∷ bytes));
  stops = behind_stops is_letter (b ∷ bytes);
}

space_is : (b : ℕ) (bytes : List ℕ) → is_blank b ≡ true → IsNext (space_of (b ∷ bytes)).0 (b ∷ bytes) (space_of (b ∷ bytes)).1
unfolding space_of
space_is b bytes h = record {
  spells = sym (take-append-drop (prefix_len is_blank (b ∷ bytes)) (b ∷ bytes));
  is_lexeme = (front_is_some is_blank b bytes h, front_passes is_blank (b ∷ bytes));
  stops = behind_stops is_blank (b ∷ bytes);
}

-- a pair that is read is these two
found : (bytes : List ℕ) (pair : Lexeme × List ℕ) (l : Lexeme) (rest : List ℕ) → IsNext pair.0 bytes pair.1 → Some pair ≡ Some (l, rest) → IsNext l bytes rest
found bytes pair l rest next e =
    let same : pair ≡ (l, rest) = cc in
    let P : Lexeme × List ℕ → Type 0 = λ q. IsNext q.0 bytes q.1 in subst P same next

text_is : (bytes : List ℕ) (l : Lexeme) (rest : List ℕ) (ending : Option (List ℕ)) → behind_quote bytes ≡ ending → text_before bytes ending ≡ Some (l, rest) → IsNext l (34 ∷ bytes) rest
text_is bytes l rest None e h = cc
text_is bytes l rest (Some after) e h =
    let q = quoted bytes after e in
    let front : front_of bytes after ≡ q.inner = ap (λ t. front_of t after) q.parts ∙ front_of_is q.inner 34 after in
    let whole : 34 ∷ bytes ≡ (34 ∷ q.inner ++ 34 ∷ []) ++ after = ap (λ t. 34 ∷ t) (q.parts ∙ sym (append_assoc q.inner (34 ∷ []) after)) in
    found (34 ∷ bytes) (Kept (Text (front_of bytes after)), after) l rest (rw front (record { spells = whole; is_lexeme = q.inside; stops = tt })) h

comment_is : (bytes : List ℕ) (l : Lexeme) (rest : List ℕ) (ending : Option (List ℕ)) → closing 0 bytes ≡ ending → comment_before bytes ending ≡ Some (l, rest) → IsNext l (91 ∷ bytes) rest
comment_is bytes l rest None e h = cc
comment_is bytes l rest (Some after) e h =
    let q = commented bytes after e in
    let front : front_of bytes after ≡ q.inner = ap (λ t. front_of t after) q.parts ∙ front_of_is q.inner 93 after in
    let whole : 91 ∷ bytes ≡ (91 ∷ q.inner ++ 93 ∷ []) ++ after = ap (λ t. 91 ∷ t) (q.parts ∙ sym (append_assoc q.inner (93 ∷ []) after)) in
    found (91 ∷ bytes) (Comment (front_of bytes after), after) l rest (rw front (record { spells = whole; is_lexeme = q.inside; stops = tt })) h

mark_is : (b : ℕ) (bytes : List ℕ) → class_of b ≡ Other → IsNext (Kept (Mark b)) (b ∷ bytes) bytes
mark_is b bytes h = record { spells = refl; is_lexeme = h; stops = tt }

next_is_by : (v : ByteClass) (b : ℕ) (bytes : List ℕ) (l : Lexeme) (rest : List ℕ) → class_of b ≡ v → next_by v b bytes ≡ Some (l, rest) → IsNext l (b ∷ bytes) rest
unfolding text_from comment_from
next_is_by Letter b bytes l rest e h = found (b ∷ bytes) (word_of (b ∷ bytes)) l rest (word_is b bytes (letter_from_class b e)) h
next_is_by Blank b bytes l rest e h = found (b ∷ bytes) (space_of (b ∷ bytes)) l rest (space_is b bytes (blank_from_class b e)) h
next_is_by Quote b bytes l rest e h =
    let P : ℕ → Type 0 = λ c. IsNext l (c ∷ bytes) rest in subst P (sym (quote_from_class b e)) (text_is bytes l rest (behind_quote bytes) refl h)
next_is_by Bracket b bytes l rest e h =
    let P : ℕ → Type 0 = λ c. IsNext l (c ∷ bytes) rest in subst P (sym (bracket_from_class b e)) (comment_is bytes l rest (closing 0 bytes) refl h)
next_is_by Other b bytes l rest e h = found (b ∷ bytes) (Kept (Mark b), bytes) l rest (mark_is b bytes e) h

-- what is read is the first lexeme
pub next_is : (bytes : List ℕ) (l : Lexeme) (rest : List ℕ) → next_of bytes ≡ Some (l, rest) → IsNext l bytes rest
next_is [] l rest h = cc
next_is (b ∷ bytes) l rest h = next_is_by (class_of b) b bytes l rest refl h

text_none : (bytes : List ℕ) (ending : Option (List ℕ)) → behind_quote bytes ≡ ending → text_before bytes ending ≡ None → behind_quote bytes ≡ None
text_none bytes None e h = e
text_none bytes (Some after) e h = cc

comment_none : (bytes : List ℕ) (ending : Option (List ℕ)) → closing 0 bytes ≡ ending → comment_before bytes ending ≡ None → closing 0 bytes ≡ None
comment_none bytes None e h = e
comment_none bytes (Some after) e h = cc

unclosed_by : (v : ByteClass) (b : ℕ) (bytes : List ℕ) → class_of b ≡ v → next_by v b bytes ≡ None → IsUnclosed (b ∷ bytes)
unfolding text_from comment_from
unclosed_by Letter b bytes e h = cc
unclosed_by Blank b bytes e h = cc
unclosed_by Quote b bytes e h = inl (quote_from_class b e, unquoted bytes (text_none bytes (behind_quote bytes) refl h))
unclosed_by Bracket b bytes e h =
    let none : closing 0 bytes ≡ None = comment_none bytes (closing 0 bytes) refl h in
    inr (bracket_from_class b e, λ inner rest inside parts. let found : closing 0 bytes ≡ Some rest = ap (closing 0) parts ∙ closing_at inner rest inside in cc)
unclosed_by Other b bytes e h = cc

-- where nothing is read, a text or a comment has no end
pub unclosed_is : (b : ℕ) (bytes : List ℕ) → next_of (b ∷ bytes) ≡ None → IsUnclosed (b ∷ bytes)
unclosed_is b bytes h = unclosed_by (class_of b) b bytes refl h
