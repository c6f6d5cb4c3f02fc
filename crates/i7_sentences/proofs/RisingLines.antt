-- The lines of sentences rise where those of their tokens do.
use Rattle.std.proofs.Common.{◌≡◌, ℕ, Bool, ◌||◌, List, [], ◌∷◌, ◌++◌, refl, sym, ap, ◌∙◌, subst, append_assoc, append-nil, arith, inl, inr}
use Rattle.std.specs.Prelude.{fold, map}
use Rattle.std.specs.List.{AllZip, onto_first}
use Rattle.std.proofs.lemmas.Bool.{cases_Bool}
use Rattle.i7_lexer.specs.Rising.{LinesRise}
use Rattle.i7_lexer.proofs.Rising.{RiseFrom, left_out, lines_rise, map_append, rise_from}
use Rattle.i7_lexer.specs.declared.token.Token.{Token}
use Rattle.i7_sentences.specs.Cuts.{Piece, cut, cut_from, is_colon, is_heading, is_same_paragraph, is_same_sentence, is_stop_alone, kind_of, line_in, line_of, opens_nothing, parts_of, with_paragraph, with_sentence}
use Rattle.i7_sentences.specs.KindsOfValue.{kinds_of_value}
use Rattle.i7_sentences.specs.Names.{Words}
use Rattle.i7_sentences.specs.Seams.{tokens_in}
use Rattle.i7_sentences.specs.Sources.{HasSentences, IsSentence}
use Rattle.i7_sentences.specs.declared.part.PartKind.TheVariants.{Heading}
use Rattle.i7_sentences.specs.declared.sentence.Sentence.{Sentence}

-- ---- sentences

abbrev token_line : Token → ℕ
token_line t = t.line

abbrev AreSome : List (List Token) → Type 0
AreSome [] = Unit {0}
AreSome ([] ∷ pieces) = ⊥
AreSome ((first ∷ more) ∷ pieces) = AreSome pieces

joined_onto : (token : Token) (pieces : List (List Token)) → AreSome pieces → AreSome (onto_first token pieces) × (tokens_in (onto_first token pieces) ≡ token ∷ tokens_in pieces)
joined_onto token [] some = (tt, refl)
joined_onto token ([] ∷ pieces) some = absurd some
joined_onto token ((first ∷ more) ∷ pieces) some = (some, refl)

cut_whole : (opens : Token → Bool) (same : Bool → Token → Token → Bool) (is_open : Bool) (token : Token) (rest : List Token)
    → AreSome (cut_from opens same is_open token rest) × (tokens_in (cut_from opens same is_open token rest) ≡ token ∷ rest)
cut_whole opens same is_open token [] = (tt, refl)
cut_whole opens same is_open token (next ∷ rest) =
    elim (cases_Bool (same is_open token next)) [
      | inl is ↦
          let later = cut_whole opens same (is_open || opens next) next rest in
          let t = joined_onto token (cut_from opens same (is_open || opens next) next rest) later.0 in
          rw is (t.0, t.1 ∙ ap (λ (ts : List Token). token ∷ ts) later.1)
      | inr isnt ↦
          let later = cut_whole opens same (opens next) next rest in
          rw isnt (later.0, ap (λ (ts : List Token). token ∷ ts) later.1)
    ]

pieces_whole : (opens : Token → Bool) (same : Bool → Token → Token → Bool) (tokens : List Token) → AreSome (cut opens same tokens) × (tokens_in (cut opens same tokens) ≡ tokens)
pieces_whole opens same [] = (tt, refl)
pieces_whole opens same (token ∷ tokens) = cut_whole opens same (opens token) token tokens

token_lines : List (List Token) → List ℕ
token_lines pieces = map token_line (tokens_in pieces)

-- parts so far, and more tokens
abbrev RiseOn : List Piece → List ℕ → Type 0
RiseOn parts lines = RiseFrom 0 (map line_of parts ++ lines)

one_part_more : (parts : List Piece) (part : Piece) (first : Token) (more : List Token) (lines : List ℕ) → part.tokens ≡ first ∷ more → RiseOn parts (map token_line (first ∷ more) ++ lines) → RiseOn (parts ++ part ∷ []) lines
one_part_more parts part first more lines is r =
    let line : line_of part ≡ first.line = ap line_in is in
    let all : map line_of (parts ++ part ∷ []) ++ lines ≡ map line_of parts ++ first.line ∷ lines =
    ap (λ (ns : List ℕ). ns ++ lines) (map_append line_of parts (part ∷ [])) ∙ append_assoc (map line_of parts) (line_of part ∷ []) lines ∙ ap (λ (n : ℕ). map line_of parts ++ n ∷ lines) line in
    subst (λ (ns : List ℕ). RiseFrom 0 ns) (sym all)
    (subst (λ (ns : List ℕ). RiseFrom 0 ns) (append_assoc (map line_of parts) (first.line ∷ []) lines)
    (left_out 0 (map line_of parts ++ first.line ∷ []) (map token_line more) lines
    (subst (λ (ns : List ℕ). RiseFrom 0 ns) (sym (append_assoc (map line_of parts) (first.line ∷ []) (map token_line more ++ lines))) r)))

sentences_rise : (pieces : List (List Token)) (parts : List Piece) (lines : List ℕ) → AreSome pieces → RiseOn parts (token_lines pieces ++ lines) → RiseOn (fold with_sentence parts pieces) lines
unfolding token_lines
sentences_rise [] parts lines some r = r
sentences_rise ([] ∷ pieces) parts lines some r = absurd some
sentences_rise ((first ∷ more) ∷ pieces) parts lines some r =
    let parted : map token_line (tokens_in ((first ∷ more) ∷ pieces)) ++ lines ≡ map token_line (first ∷ more) ++ (token_lines pieces ++ lines) =
    ap (λ (ns : List ℕ). ns ++ lines) (map_append token_line (first ∷ more) (tokens_in pieces)) ∙ append_assoc (map token_line (first ∷ more)) (map token_line (tokens_in pieces)) lines in
    let whole : RiseOn parts (map token_line (first ∷ more) ++ (token_lines pieces ++ lines)) = subst (λ (ns : List ℕ). RiseOn parts ns) parted r in
    elim (cases_Bool (is_stop_alone (first ∷ more))) [
      | inl is ↦
          let same : with_sentence parts (first ∷ more) ≡ parts = rw is refl in
          subst (λ (ps : List Piece). RiseOn (fold with_sentence ps pieces) lines) (sym same)
          (sentences_rise pieces parts lines some (left_out 0 (map line_of parts) (map token_line (first ∷ more)) (token_lines pieces ++ lines) whole))
      | inr isnt ↦
          let part : Piece = record { kind = kind_of parts (first ∷ more); tokens = first ∷ more } in
          let added : with_sentence parts (first ∷ more) ≡ parts ++ part ∷ [] = rw isnt refl in
          subst (λ (ps : List Piece). RiseOn (fold with_sentence ps pieces) lines) (sym added)
          (sentences_rise pieces (parts ++ part ∷ []) lines some (one_part_more parts part first more (token_lines pieces ++ lines) refl whole))
    ]

paragraphs_rise : (pieces : List (List Token)) (parts : List Piece) → AreSome pieces → RiseOn parts (token_lines pieces) → RiseFrom 0 (map line_of (fold with_paragraph parts pieces))
unfolding token_lines
paragraphs_rise [] parts some r = subst (λ (ns : List ℕ). RiseFrom 0 ns) (append-nil (map line_of parts)) r
paragraphs_rise ([] ∷ pieces) parts some r = absurd some
paragraphs_rise ((first ∷ more) ∷ pieces) parts some r =
    let paragraph = first ∷ more in
    let whole : RiseOn parts (map token_line paragraph ++ token_lines pieces) = subst (λ (ns : List ℕ). RiseOn parts ns) (map_append token_line paragraph (tokens_in pieces)) r in
    elim (cases_Bool (is_heading paragraph)) [
      | inl is ↦
          let part : Piece = record { kind = Heading; tokens = paragraph } in
          let added : with_paragraph parts paragraph ≡ parts ++ part ∷ [] = rw is refl in
          subst (λ (ps : List Piece). RiseFrom 0 (map line_of (fold with_paragraph ps pieces))) (sym added)
          (paragraphs_rise pieces (parts ++ part ∷ []) some (one_part_more parts part first more (token_lines pieces) refl whole))
      | inr isnt ↦
          let t = pieces_whole is_colon is_same_sentence paragraph in
          let sentences = cut is_colon is_same_sentence paragraph in
          let added : with_paragraph parts paragraph ≡ fold with_sentence parts sentences = rw isnt refl in
          subst (λ (ps : List Piece). RiseFrom 0 (map line_of (fold with_paragraph ps pieces))) (sym added)
          (paragraphs_rise pieces (fold with_sentence parts sentences) some
          (sentences_rise sentences parts (token_lines pieces) t.0 (subst (λ (ts : List Token). RiseOn parts (map token_line ts ++ token_lines pieces)) (sym t.1) whole)))
    ]

parts_rise : (tokens : List Token) → RiseFrom 0 (map token_line tokens) → RiseFrom 0 (map line_of (parts_of tokens))
unfolding token_lines
parts_rise tokens r =
    let t = pieces_whole opens_nothing is_same_paragraph tokens in
    paragraphs_rise (cut opens_nothing is_same_paragraph tokens) [] t.0 (subst (λ (ts : List Token). RiseFrom 0 (map token_line ts)) (sym t.1) r)

abbrev sentence_line : Sentence → ℕ
sentence_line s = s.line

lines_kept : (kinds : List Words) (parts : List Piece) (sentences : List Sentence) → AllZip (IsSentence kinds) parts sentences → map sentence_line sentences ≡ map line_of parts
lines_kept kinds [] [] said = refl
lines_kept kinds [] (s ∷ sentences) said = absurd said
lines_kept kinds (part ∷ parts) [] said = absurd said
lines_kept kinds (part ∷ parts) (s ∷ sentences) said = λ i. said.0.line_is i ∷ lines_kept kinds parts sentences said.1 i

pub sentence_lines_rise : (tokens : List Token) (sentences : List Sentence) → LinesRise (λ t. t.line) tokens → HasSentences tokens sentences → LinesRise (λ s. s.line) sentences
sentence_lines_rise tokens sentences rise says =
    lines_rise sentence_line sentences
    (subst (λ (ns : List ℕ). RiseFrom 0 ns) (sym (lines_kept (kinds_of_value (parts_of tokens)) (parts_of tokens) sentences says.said)) (parts_rise tokens (rise_from token_line 0 tokens (λ first more split. omega arith) rise)))
