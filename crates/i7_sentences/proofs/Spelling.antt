-- The parts' sentences, where each part is understood and no name holds a reserved word.
use Rattle.std.proofs.Common.{◌≡◌, ℕ, List, [], ◌∷◌, refl, ap, sym, ◌∙◌, subst}
use Rattle.std.specs.Prelude.{Some}
use Rattle.std.specs.List.{AllZip, filter_map}
use Rattle.std.proofs.lemmas.List.Elements.{All-nil, All-cons, All-head, All-tail}
use Rattle.i7_sentences.specs.Cuts.{Piece, line_of}
use Rattle.i7_sentences.specs.Lowest.{IsNowhere}
use Rattle.i7_sentences.specs.Names.{Words}
use Rattle.i7_sentences.specs.Read.{heard_in, reserved_at, sentence_in, unread_at}
use Rattle.i7_sentences.specs.Sources.{HasReservedName, IsSentence, IsUnreadAt}
use Rattle.i7_sentences.specs.declared.heard.Heard.{Heard}
use Rattle.i7_sentences.specs.declared.heard.Heard.TheVariants as heard
use Rattle.i7_sentences.specs.declared.sentence.Assertion.{Assertion}
use Rattle.i7_sentences.specs.declared.sentence.Sentence.{Sentence}
use Rattle.i7_sentences.proofs.Lowest.{none-some}
use Rattle.i7_sentences.proofs.Hearing.{is_heard, is_said, tells_reserved, tells_unread}

abbrev Good : (Piece → ℕ → Type 0) → Piece → Type 0
Good Bad part = (line : ℕ) → Bad part line → ⊥

abbrev sentence_by : Piece → Assertion → Sentence
sentence_by part said = record { said = said; line = line_of part }

said_first : (kinds : List Words) (part : Piece) (parts : List Piece) (said : Assertion) → heard_in kinds part ≡ heard.Says said → filter_map (sentence_in kinds) (part ∷ parts) ≡ sentence_by part said ∷ filter_map (sentence_in kinds) parts
said_first kinds part parts said is = rw is refl

-- a part that says something
pub record SaysIt (kinds : List Words) (part : Piece) : Type 0 where
  pub said : Assertion
  pub is : heard_in kinds part ≡ heard.Says said

says_it : (kinds : List Words) (part : Piece) → Good (IsUnreadAt kinds) part → Good (HasReservedName kinds) part → SaysIt kinds part
says_it kinds part read free =
    let Goal : Heard → Type 0 = λ found. heard_in kinds part ≡ found → SaysIt kinds part
    in (elim (heard_in kinds part) as Goal [
      | heard.Says said ↦ λ is. record { said = said; is = is }
      | heard.Unread line ↦ λ is. absurd (read line ((tells_unread kinds part).bad line (ap unread_at is)))
      | heard.Reserved line ↦ λ is. absurd (free line ((tells_reserved kinds part).bad line (ap reserved_at is)))
    ]) refl

pub spelled : (kinds : List Words) (parts : List Piece) → IsNowhere (IsUnreadAt kinds) parts → IsNowhere (HasReservedName kinds) parts → AllZip (IsSentence kinds) parts (filter_map (sentence_in kinds) parts)
spelled kinds [] read free = tt
spelled kinds (part ∷ parts) read free =
    let first = says_it kinds part (All-head (Good (IsUnreadAt kinds)) part parts read) (All-head (Good (HasReservedName kinds)) part parts free) in
    let whole : AllZip (IsSentence kinds) (part ∷ parts) (sentence_by part first.said ∷ filter_map (sentence_in kinds) parts) =
    (record { says = is_said kinds part (heard.Says first.said) first.is; line_is = refl }, spelled kinds parts (All-tail (Good (IsUnreadAt kinds)) part parts read) (All-tail (Good (HasReservedName kinds)) part parts free)) in
    subst (AllZip (IsSentence kinds) (part ∷ parts)) (sym (said_first kinds part parts first.said first.is)) whole

-- what is found and said of parts that have these sentences
pub record AreSaid (kinds : List Words) (parts : List Piece) (sentences : List Sentence) : Type 0 where
  pub read : IsNowhere (IsUnreadAt kinds) parts
  pub free : IsNowhere (HasReservedName kinds) parts
  pub said : filter_map (sentence_in kinds) parts ≡ sentences

sentence_heard : (kinds : List Words) (part : Piece) (sentence : Sentence) → IsSentence kinds part sentence → heard_in kinds part ≡ heard.Says sentence.said
sentence_heard kinds part sentence is = is_heard kinds part (heard.Says sentence.said) is.says

first_same : (kinds : List Words) (part : Piece) (parts : List Piece) (sentence : Sentence) → IsSentence kinds part sentence → filter_map (sentence_in kinds) (part ∷ parts) ≡ sentence ∷ filter_map (sentence_in kinds) parts
first_same kinds part parts sentence is =
    said_first kinds part parts sentence.said (sentence_heard kinds part sentence is)
    ∙ ap (λ line. record { said = sentence.said; line = line } ∷ filter_map (sentence_in kinds) parts) (sym is.line_is)

read_says : (said : Assertion) (line : ℕ) → unread_at (heard.Says said) ≡ Some line → ⊥
read_says said line is = none-some line is

free_says : (said : Assertion) (line : ℕ) → reserved_at (heard.Says said) ≡ Some line → ⊥
free_says said line is = none-some line is

pub are_said : (kinds : List Words) (parts : List Piece) (sentences : List Sentence) → AllZip (IsSentence kinds) parts sentences → AreSaid kinds parts sentences
are_said kinds [] [] said = record { read = All-nil (Good (IsUnreadAt kinds)); free = All-nil (Good (HasReservedName kinds)); said = refl }
are_said kinds [] (sentence ∷ sentences) said = absurd said
are_said kinds (part ∷ parts) [] said = absurd said
are_said kinds (part ∷ parts) (sentence ∷ sentences) said =
    let more = are_said kinds parts sentences said.1 in
    let is = sentence_heard kinds part sentence said.0 in
    record {
      read = All-cons (Good (IsUnreadAt kinds)) part parts (λ line bad. read_says sentence.said line (sym (ap unread_at is) ∙ (tells_unread kinds part).told line bad)) more.read;
      free = All-cons (Good (HasReservedName kinds)) part parts (λ line bad. free_says sentence.said line (sym (ap reserved_at is) ∙ (tells_reserved kinds part).told line bad)) more.free;
      said = first_same kinds part parts sentence said.0 ∙ ap (λ ss. sentence ∷ ss) more.said;
    }
