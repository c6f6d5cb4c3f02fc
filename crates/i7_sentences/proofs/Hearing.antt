-- What is heard of a part is what it says.
use Rattle.std.proofs.Common.{◌≡◌, inl, inr, Bool, true, false, ℕ, List, refl, ap, sym, ◌∙◌, subst}
use Rattle.std.specs.Prelude.{Option, Some, None, if◌then◌else◌}
use Rattle.std.specs.List.{list_any}
use Rattle.std.proofs.lemmas.Option.{same_Some}
use Rattle.i7_lexer.specs.declared.token.Token.{Token}
use Rattle.i7_sentences.specs.Cuts.{Piece}
use Rattle.i7_sentences.specs.Matching.{Found}
use Rattle.i7_sentences.specs.Names.{Words}
use Rattle.i7_sentences.specs.Read.{heard_found, heard_in, heard_of, reserved_at, reserved_in, unread_at, unread_in}
use Rattle.i7_sentences.specs.Sources.{HasBadLiteral, HasReservedName, HoldsBadLiteral, IsUnreadAt, Says, SaysInWords}
use Rattle.i7_sentences.specs.Stretches.{Stretch, bad_literal_in, bad_literal_of, holds_bad_literal, stretches_of}
use Rattle.i7_sentences.specs.Understood.{understood_by}
use Rattle.i7_sentences.specs.declared.heard.Heard.{Heard}
use Rattle.i7_sentences.specs.declared.heard.Heard.TheVariants as heard
use Rattle.i7_sentences.specs.declared.part.PartKind.{PartKind}
use Rattle.i7_sentences.specs.declared.part.PartKind.TheVariants.{Title, Heading, Sentence as Said}
use Rattle.i7_sentences.proofs.Lowest.{Tells, lowest_tells, none-some}
use Rattle.i7_sentences.proofs.Understood.{Understood, found_understood, understood_is_found, unread_not_found}

-- what is heard of words is what they say
words_say : (kinds : List Words) (tokens : List Token) → SaysInWords kinds tokens (heard_found kinds tokens (understood_by kinds tokens))
words_say kinds tokens =
    let Goal : Option Found → Type 0 = λ found. Understood kinds tokens found → SaysInWords kinds tokens (heard_found kinds tokens found)
    in (elim (understood_by kinds tokens) as Goal [
      | None ↦ λ unread. inr (unread, refl)
      | Some found ↦ λ read. inl (record { variant = found.variant; letters = found.letters; reading = read; says = refl })
    ]) (found_understood kinds tokens)

words_heard : (kinds : List Words) (tokens : List Token) (said : Heard) → SaysInWords kinds tokens said → said ≡ heard_found kinds tokens (understood_by kinds tokens)
words_heard kinds tokens said (inl reads) = reads.says ∙ sym (ap (heard_found kinds tokens) (understood_is_found kinds tokens reads.variant reads.letters reads.reading))
words_heard kinds tokens said (inr unread) = unread.1 ∙ sym (ap (heard_found kinds tokens) (unread_not_found kinds tokens unread.0))

kind_says : (kinds : List Words) (kind : PartKind) (tokens : List Token) → Says kinds kind tokens (heard_of kinds kind tokens)
kind_says kinds Title tokens = refl
kind_says kinds Heading tokens = refl
kind_says kinds Said tokens = words_say kinds tokens

kind_heard : (kinds : List Words) (kind : PartKind) (tokens : List Token) (said : Heard) → Says kinds kind tokens said → said ≡ heard_of kinds kind tokens
kind_heard kinds Title tokens said says = says
kind_heard kinds Heading tokens said says = says
kind_heard kinds Said tokens said says = words_heard kinds tokens said says

pub is_said : (kinds : List Words) (part : Piece) (said : Heard) → heard_in kinds part ≡ said → Says kinds part.kind part.tokens said
unfolding heard_in
is_said kinds part said is = subst (Says kinds part.kind part.tokens) is (kind_says kinds part.kind part.tokens)

pub is_heard : (kinds : List Words) (part : Piece) (said : Heard) → Says kinds part.kind part.tokens said → heard_in kinds part ≡ said
unfolding heard_in
is_heard kinds part said says = sym (kind_heard kinds part.kind part.tokens said says)

unread_line : (said : Heard) (line : ℕ) → unread_at said ≡ Some line → said ≡ heard.Unread line
unread_line (heard.Says said) line is = absurd (none-some line is)
unread_line (heard.Unread at) line is = ap (λ l. heard.Unread l) (same_Some at line is)
unread_line (heard.Reserved at) line is = absurd (none-some line is)

reserved_line : (said : Heard) (line : ℕ) → reserved_at said ≡ Some line → said ≡ heard.Reserved line
reserved_line (heard.Says said) line is = absurd (none-some line is)
reserved_line (heard.Unread at) line is = absurd (none-some line is)
reserved_line (heard.Reserved at) line is = ap (λ l. heard.Reserved l) (same_Some at line is)

pub tells_unread : (kinds : List Words) (part : Piece) → Tells (unread_in kinds) (IsUnreadAt kinds) part
tells_unread kinds part = record {
  bad = λ line is. is_said kinds part (heard.Unread line) (unread_line (heard_in kinds part) line is);
  told = λ line bad. ap unread_at (is_heard kinds part (heard.Unread line) bad);
}

pub tells_reserved : (kinds : List Words) (part : Piece) → Tells (reserved_in kinds) (HasReservedName kinds) part
tells_reserved kinds part = record {
  bad = λ line is. is_said kinds part (heard.Reserved line) (reserved_line (heard_in kinds part) line is);
  told = λ line bad. ap reserved_at (is_heard kinds part (heard.Reserved line) bad);
}

held : (holds : Bool) (at line : ℕ) → (if holds then Some at else None) ≡ Some line → (holds ≡ true) × (at ≡ line)
held true at line is = (refl, same_Some at line is)
held false at line is = absurd (none-some line is)

tells_stretch : (stretch : Stretch) → Tells bad_literal_in HoldsBadLiteral stretch
tells_stretch stretch = record {
  bad = λ line is. let both = held (list_any holds_bad_literal stretch.tokens) stretch.line line is in record { holds = both.0; line_is = both.1 };
  told = λ line bad. ap (λ holds. if holds then Some stretch.line else None) bad.holds ∙ ap (λ at. Some at) bad.line_is;
}

pub tells_literal : (kinds : List Words) (part : Piece) → Tells (bad_literal_of kinds) (HasBadLiteral kinds) part
unfolding bad_literal_of
tells_literal kinds part = lowest_tells bad_literal_in HoldsBadLiteral tells_stretch (stretches_of kinds) part
