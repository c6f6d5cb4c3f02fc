-- What is read of tokens is what they spell, or the refusal that stands.
use Rattle.std.proofs.Common.{◌≡◌, ◌≢◌, ◌⊎◌, inl, inr, ℕ, List, refl, ap, ◌∙◌, subst}
use Rattle.std.specs.Prelude.{Option, Some, None, Result, Ok, Err, IfOk, IfErr, MatchResult}
use Rattle.std.specs.List.{filter_map}
use Rattle.world_meaning.specs.declared.fault.Fault.{Fault}
use Rattle.world_meaning.specs.declared.fault.FaultCode.{FaultCode}
use Rattle.world_meaning.specs.declared.fault.FaultCode.TheVariants.{NumberOutOfRange, NotUnderstood, ReservedWord, Memory}
use Rattle.i7_lexer.specs.declared.token.Token.{Token}
use Rattle.i7_sentences.specs.Cuts.{Piece, parts_of}
use Rattle.i7_sentences.specs.KindsOfValue.{kinds_of_value}
use Rattle.i7_sentences.specs.Lowest.{IsNowhere, lowest}
use Rattle.i7_sentences.specs.Names.{Words}
use Rattle.i7_sentences.specs.Read.{or_refused, read_of, read_parts, reserved_in, sentence_in, unread_in}
use Rattle.i7_sentences.specs.Sources.{HasBadLiteral, HasReservedName, HasSentences, IsRefused, IsUnreadAt, Stands}
use Rattle.i7_sentences.specs.Stretches.{bad_literal_of}
use Rattle.i7_sentences.specs.declared.sentence.Sentence.{Sentence}
use Rattle.i7_sentences.proofs.Lowest.{lowest_found, lowest_line, none_found, nowhere_none}
use Rattle.i7_sentences.proofs.Spelling.{are_said, spelled}
use Rattle.i7_sentences.proofs.Hearing.{tells_literal, tells_reserved, tells_unread}

fault_at : FaultCode → ℕ → Fault
fault_at code line = record { code = code; line = line }

-- the sentences of parts in which nothing but a reserved word is looked for still, and so on
abbrev said_of : List Words → List Piece → Result (List Sentence) Fault
said_of kinds parts = Ok (filter_map (sentence_in kinds) parts)

abbrev named_of : List Words → List Piece → Result (List Sentence) Fault
named_of kinds parts = or_refused ReservedWord (lowest (reserved_in kinds) parts) (said_of kinds parts)

abbrev understood_of : List Words → List Piece → Result (List Sentence) Fault
understood_of kinds parts = or_refused NotUnderstood (lowest (unread_in kinds) parts) (named_of kinds parts)

passed : (code : FaultCode) (line : Option ℕ) (next : Result (List Sentence) Fault) → line ≡ None → or_refused code line next ≡ next
passed code line next none = rw none refl

stopped : (code : FaultCode) (line : Option ℕ) (at : ℕ) (next : Result (List Sentence) Fault) → line ≡ Some at → or_refused code line next ≡ Err (fault_at code at)
unfolding fault_at
stopped code line at next some = rw some refl

past_literals : (kinds : List Words) (parts : List Piece) → IsNowhere (HasBadLiteral kinds) parts → read_parts kinds parts ≡ understood_of kinds parts
past_literals kinds parts nowhere = passed NumberOutOfRange (lowest (bad_literal_of kinds) parts) (understood_of kinds parts) (nowhere_none (bad_literal_of kinds) (HasBadLiteral kinds) (tells_literal kinds) parts nowhere)

past_unread : (kinds : List Words) (parts : List Piece) → IsNowhere (HasBadLiteral kinds) parts → IsNowhere (IsUnreadAt kinds) parts → read_parts kinds parts ≡ named_of kinds parts
past_unread kinds parts nowhere read = past_literals kinds parts nowhere ∙ passed NotUnderstood (lowest (unread_in kinds) parts) (named_of kinds parts) (nowhere_none (unread_in kinds) (IsUnreadAt kinds) (tells_unread kinds) parts read)

past_names : (kinds : List Words) (parts : List Piece) → IsNowhere (HasBadLiteral kinds) parts → IsNowhere (IsUnreadAt kinds) parts → IsNowhere (HasReservedName kinds) parts → read_parts kinds parts ≡ said_of kinds parts
past_names kinds parts nowhere read free = past_unread kinds parts nowhere read ∙ passed ReservedWord (lowest (reserved_in kinds) parts) (said_of kinds parts) (nowhere_none (reserved_in kinds) (HasReservedName kinds) (tells_reserved kinds) parts free)

-- tokens that spell sentences are read as these
pub spelled_read : (tokens : List Token) (sentences : List Sentence) → HasSentences tokens sentences → read_of tokens ≡ Ok sentences
spelled_read tokens sentences spells =
    let said = are_said (kinds_of_value (parts_of tokens)) (parts_of tokens) sentences spells.said in
    past_names (kinds_of_value (parts_of tokens)) (parts_of tokens) spells.in_range said.read said.free ∙ ap (λ ss. Ok ss) said.said

stands_read : (kinds : List Words) (code : FaultCode) (line : ℕ) (parts : List Piece) → code ≢ Memory → Stands kinds code line parts → read_parts kinds parts ≡ Err (fault_at code line)
stands_read kinds NumberOutOfRange line parts not_memory stands =
    stopped NumberOutOfRange (lowest (bad_literal_of kinds) parts) line (understood_of kinds parts) (lowest_line (bad_literal_of kinds) (HasBadLiteral kinds) (tells_literal kinds) parts line stands)
stands_read kinds NotUnderstood line parts not_memory stands =
    past_literals kinds parts stands.0
    ∙ stopped NotUnderstood (lowest (unread_in kinds) parts) line (named_of kinds parts) (lowest_line (unread_in kinds) (IsUnreadAt kinds) (tells_unread kinds) parts line stands.1)
stands_read kinds ReservedWord line parts not_memory stands =
    past_unread kinds parts stands.0 stands.1
    ∙ stopped ReservedWord (lowest (reserved_in kinds) parts) line (said_of kinds parts) (lowest_line (reserved_in kinds) (HasReservedName kinds) (tells_reserved kinds) parts line stands.2)
stands_read kinds Memory line parts not_memory stands = absurd (not_memory refl)
stands_read kinds _ line parts not_memory stands = absurd stands

-- tokens for which a refusal stands are refused so
pub refused_read : (tokens : List Token) (fault : Fault) → fault.code ≢ Memory → IsRefused tokens fault → read_of tokens ≡ Err fault
unfolding fault_at
refused_read tokens fault not_memory stands = stands_read (kinds_of_value (parts_of tokens)) fault.code fault.line (parts_of tokens) not_memory stands

-- the sentences that tokens spell, or the refusal that stands
abbrev pub Verdict : List Token → Type 0
Verdict tokens = ((sentences : List Sentence) × HasSentences tokens sentences) ⊎ ((fault : Fault) × (fault.code ≢ Memory) × IsRefused tokens fault)

refused_as : (tokens : List Token) (code : FaultCode) (line : ℕ) → code ≢ Memory → Stands (kinds_of_value (parts_of tokens)) code line (parts_of tokens) → Verdict tokens
refused_as tokens code line not_memory stands = inr (record { code = code; line = line }, not_memory, stands)

verdict_named : (tokens : List Token) → IsNowhere (HasBadLiteral (kinds_of_value (parts_of tokens))) (parts_of tokens) → IsNowhere (IsUnreadAt (kinds_of_value (parts_of tokens))) (parts_of tokens) → Verdict tokens
verdict_named tokens nowhere read =
    let Goal : Option ℕ → Type 0 = λ found. lowest (reserved_in (kinds_of_value (parts_of tokens))) (parts_of tokens) ≡ found → Verdict tokens
    in elim (lowest (reserved_in (kinds_of_value (parts_of tokens))) (parts_of tokens)) as Goal [
      | None ↦ λ free. inl (filter_map (sentence_in (kinds_of_value (parts_of tokens))) (parts_of tokens), record { in_range = nowhere; said = spelled (kinds_of_value (parts_of tokens)) (parts_of tokens) read (none_found (reserved_in (kinds_of_value (parts_of tokens))) (HasReservedName (kinds_of_value (parts_of tokens))) (tells_reserved (kinds_of_value (parts_of tokens))) (parts_of tokens) free) })
      | Some line ↦ λ found. refused_as tokens ReservedWord line (λ e. cc)
          (nowhere, read, lowest_found (reserved_in (kinds_of_value (parts_of tokens))) (HasReservedName (kinds_of_value (parts_of tokens))) (tells_reserved (kinds_of_value (parts_of tokens))) (parts_of tokens) line found)
    ] refl

verdict_in_range : (tokens : List Token) → IsNowhere (HasBadLiteral (kinds_of_value (parts_of tokens))) (parts_of tokens) → Verdict tokens
verdict_in_range tokens nowhere =
    let Goal : Option ℕ → Type 0 = λ found. lowest (unread_in (kinds_of_value (parts_of tokens))) (parts_of tokens) ≡ found → Verdict tokens
    in elim (lowest (unread_in (kinds_of_value (parts_of tokens))) (parts_of tokens)) as Goal [
      | None ↦ λ read. verdict_named tokens nowhere (none_found (unread_in (kinds_of_value (parts_of tokens))) (IsUnreadAt (kinds_of_value (parts_of tokens))) (tells_unread (kinds_of_value (parts_of tokens))) (parts_of tokens) read)
      | Some line ↦ λ found. refused_as tokens NotUnderstood line (λ e. cc)
          (nowhere, lowest_found (unread_in (kinds_of_value (parts_of tokens))) (IsUnreadAt (kinds_of_value (parts_of tokens))) (tells_unread (kinds_of_value (parts_of tokens))) (parts_of tokens) line found)
    ] refl

pub verdict : (tokens : List Token) → Verdict tokens
verdict tokens =
    let Goal : Option ℕ → Type 0 = λ found. lowest (bad_literal_of (kinds_of_value (parts_of tokens))) (parts_of tokens) ≡ found → Verdict tokens
    in elim (lowest (bad_literal_of (kinds_of_value (parts_of tokens))) (parts_of tokens)) as Goal [
      | None ↦ λ none. verdict_in_range tokens (none_found (bad_literal_of (kinds_of_value (parts_of tokens))) (HasBadLiteral (kinds_of_value (parts_of tokens))) (tells_literal (kinds_of_value (parts_of tokens))) (parts_of tokens) none)
      | Some line ↦ λ found. refused_as tokens NumberOutOfRange line (λ e. cc)
          (lowest_found (bad_literal_of (kinds_of_value (parts_of tokens))) (HasBadLiteral (kinds_of_value (parts_of tokens))) (tells_literal (kinds_of_value (parts_of tokens))) (parts_of tokens) line found)
    ] refl

ok-err : (read : Result (List Sentence) Fault) (sentences : List Sentence) (fault : Fault) → read ≡ Ok sentences → read ≡ Err fault → ⊥
ok-err read sentences fault told refused = cc

same_ok : (read : Result (List Sentence) Fault) (v w : List Sentence) → read ≡ Ok v → read ≡ Ok w → v ≡ w
same_ok read v w told also = cc

same_err : (read : Result (List Sentence) Fault) (f g : Fault) → read ≡ Err f → read ≡ Err g → f ≡ g
same_err read f g refused also = cc

pub sentences_same : (tokens : List Token) (v w : List Sentence) → HasSentences tokens v → HasSentences tokens w → v ≡ w
sentences_same tokens v w p q = same_ok (read_of tokens) v w (spelled_read tokens v p) (spelled_read tokens w q)

pub refusals_same : (tokens : List Token) (f g : Fault) → IsRefused tokens f → IsRefused tokens g → f.code ≢ Memory → g.code ≢ Memory → f ≡ g
refusals_same tokens f g p q m n = same_err (read_of tokens) f g (refused_read tokens f m p) (refused_read tokens g n q)

pub spelled_refused : (tokens : List Token) (sentences : List Sentence) (fault : Fault) → HasSentences tokens sentences → fault.code ≢ Memory → IsRefused tokens fault → ⊥
spelled_refused tokens sentences fault p m q = ok-err (read_of tokens) sentences fault (spelled_read tokens sentences p) (refused_read tokens fault m q)

-- what is read is what the tokens spell
pub read_spelled : (tokens : List Token) (sentences : List Sentence) → read_of tokens ≡ Ok sentences → HasSentences tokens sentences
read_spelled tokens sentences is = by_verdict (verdict tokens)
  where
    by_verdict : Verdict tokens → HasSentences tokens sentences
    by_verdict (inl spells) = subst (λ ss. HasSentences tokens ss) (same_ok (read_of tokens) spells.0 sentences (spelled_read tokens spells.0 spells.1) is) spells.1
    by_verdict (inr refused) = absurd (ok-err (read_of tokens) sentences refused.0 is (refused_read tokens refused.0 refused.1 refused.2))

-- what is refused is refused as it stands
pub read_refused : (tokens : List Token) (fault : Fault) → read_of tokens ≡ Err fault → IsRefused tokens fault
read_refused tokens fault is = by_verdict (verdict tokens)
  where
    by_verdict : Verdict tokens → IsRefused tokens fault
    by_verdict (inl spells) = absurd (ok-err (read_of tokens) spells.0 fault (spelled_read tokens spells.0 spells.1) is)
    by_verdict (inr refused) = subst (λ f. IsRefused tokens f) (same_err (read_of tokens) refused.0 fault (refused_read tokens refused.0 refused.1 refused.2) is) refused.2

refused_or_memory : (kinds : List Words) (code : FaultCode) (line : ℕ) (parts : List Piece) → (code ≡ Memory → line ≡ 1) → (code ≢ Memory → Stands kinds code line parts) → Stands kinds code line parts
refused_or_memory kinds Memory line parts memory others = memory refl
refused_or_memory kinds _ line parts memory others = others (λ e. cc)

-- an answer that reads as the definition does
pub answered : {V : Type 0} (items : V → List Sentence) (tokens : List Token) (r : Result V Fault) → IfOk r (λ v. read_of tokens ≡ Ok (items v)) → IfErr r (λ fault. fault.code ≢ Memory → read_of tokens ≡ Err fault) → IfErr r (λ fault. fault.code ≡ Memory → fault.line ≡ 1) → MatchResult r (λ v. HasSentences tokens (items v)) (IsRefused tokens)
answered items tokens (Ok v) read refused memory = read_spelled tokens (items v) read
answered items tokens (Err fault) read refused memory =
    refused_or_memory (kinds_of_value (parts_of tokens)) fault.code fault.line (parts_of tokens) memory (λ not_memory. read_refused tokens fault (refused not_memory))
