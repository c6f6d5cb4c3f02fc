-- Each source spells tokens or is refused.
use Rattle.std.proofs.Common.{◌≡◌, ◌≢◌, ℕ, ◌<◌, ◌≤◌, zero, suc, min, Bool, true, false, List, [], ◌∷◌, ◌++◌, length, Option, Some, None, refl, sym, subst, append_assoc, arith, ◌⊎◌, inl, inr}
use Rattle.std.specs.Str.Lossy.{utf8_valid_len}
use Rattle.std.proofs.lemmas.Bool.{cases_lt}
use Rattle.std.proofs.lemmas.List.{append-nil}
use Rattle.world_meaning.specs.declared.fault.Fault.{Fault}
use Rattle.world_meaning.specs.declared.fault.FaultCode.TheVariants.{TooLong, NotText, Unclosed, BadIndent, Memory}
use Rattle.i7_lexer.specs.declared.lexeme.Lexeme.{Lexeme}
use Rattle.i7_lexer.specs.declared.placed.Placed.{Placed}
use Rattle.i7_lexer.specs.declared.token.Token.{Token}
use Rattle.i7_lexer.specs.Sources.{text_of, line_at, plain_len}
use Rattle.i7_lexer.specs.Lexemes.{IsNext, IsCut, IsUnclosed}
use Rattle.i7_lexer.specs.Scans.{next_of}
use Rattle.i7_lexer.specs.Places.{at_front, after_all, placed_from}
use Rattle.i7_lexer.specs.Indents.{AreIndented, IsTooDeep, forbids, line_of}
use Rattle.i7_lexer.specs.Tokens.{tokens_of}
use Rattle.i7_lexer.specs.Refusals.{IsReadable, IsRefused, longest}
use Rattle.i7_lexer.specs.Readings.{HasTokens}
use Rattle.i7_lexer.proofs.BadPlaces.{first_bad, all_text}
use Rattle.i7_lexer.proofs.Scanning.{next_is, unclosed_is}
use Rattle.i7_lexer.proofs.Cutting.{next-shorter}
use Rattle.i7_lexer.proofs.Depths.{nothing_indented, indented-push}

record IsClosed (bytes : List ℕ) : Type 0 where
  pub lexemes : List Lexeme
  pub cut : IsCut lexemes bytes []

record IsBroken (bytes : List ℕ) : Type 0 where
  pub lexemes : List Lexeme
  pub rest : List ℕ
  pub cut : IsCut lexemes bytes rest
  pub unclosed : IsUnclosed rest

one_more : (l : Lexeme) (bytes behind : List ℕ) → IsNext l bytes behind → IsClosed behind ⊎ IsBroken behind → IsClosed bytes ⊎ IsBroken bytes
one_more l bytes behind next (inl more) = inl (record { lexemes = l ∷ more.lexemes; cut = (behind, (next, more.cut)) })
one_more l bytes behind next (inr more) = inr (record { lexemes = l ∷ more.lexemes; rest = more.rest; cut = (behind, (next, more.cut)); unclosed = more.unclosed })

cut_by : (b : ℕ) (bytes : List ℕ) (found : Option (Lexeme × List ℕ)) → next_of (b ∷ bytes) ≡ found → ((behind : List ℕ) → length behind < length (b ∷ bytes) → IsClosed behind ⊎ IsBroken behind) → IsClosed (b ∷ bytes) ⊎ IsBroken (b ∷ bytes)
cut_by b bytes None e next = inr (record { lexemes = []; rest = b ∷ bytes; cut = refl; unclosed = unclosed_is b bytes e })
cut_by b bytes (Some (l, behind)) e next =
    let first = next_is (b ∷ bytes) l behind e in
    one_more l (b ∷ bytes) behind first (next behind (next-shorter l (b ∷ bytes) behind first))

cut_within : (n : ℕ) (bytes : List ℕ) → length bytes ≤ n → IsClosed bytes ⊎ IsBroken bytes
cut_within zero [] short = inl (record { lexemes = []; cut = refl })
cut_within zero (b ∷ bytes) short = absurd (omega arith)
cut_within (suc n) [] short = inl (record { lexemes = []; cut = refl })
cut_within (suc n) (b ∷ bytes) short = cut_by b bytes (next_of (b ∷ bytes)) refl (λ behind less. cut_within n behind (omega arith))

record HasDeep (tokens : List Placed) : Type 0 where
  pub line : ℕ
  pub deep : IsTooDeep tokens line

deep_by : (done : List Placed) (token : Placed) (rest : List Placed) (v : Bool) → forbids (line_of done) token.at.start ≡ v → AreIndented done → (AreIndented (done ++ token ∷ []) → AreIndented ((done ++ token ∷ []) ++ rest) ⊎ HasDeep ((done ++ token ∷ []) ++ rest)) → AreIndented (done ++ token ∷ rest) ⊎ HasDeep (done ++ token ∷ rest)
deep_by done token rest true e indented next = inr (record {
  line = token.at.line;
  deep = record { before = done; token = token; rest = rest; parts = refl; indented = indented; deep = e; line_is = refl };
})
deep_by done token rest false e indented next =
    let P : List Placed → Type 0 = λ t. AreIndented t ⊎ HasDeep t in
    subst P (append_assoc done (token ∷ []) rest) (next (indented-push done token indented e))

deep_or_not : (rest done : List Placed) → AreIndented done → AreIndented (done ++ rest) ⊎ HasDeep (done ++ rest)
deep_or_not [] done indented = let P : List Placed → Type 0 = λ t. AreIndented t ⊎ HasDeep t in subst P (sym (append-nil done)) (inl indented)
deep_or_not (token ∷ rest) done indented = deep_by done token rest (forbids (line_of done) token.at.start) refl indented (λ more. deep_or_not rest (done ++ token ∷ []) more)

abbrev pub Spelled : List ℕ → Type 0
Spelled source = (tokens : List Token) × HasTokens source tokens

abbrev pub Refused : List ℕ → Type 0
Refused source = (fault : Fault) × ((fault.code ≢ Memory) × IsRefused source fault)

by_depth : (source : List ℕ) (readable : IsReadable source) (lexemes : List Lexeme) → IsCut lexemes (text_of source) [] → AreIndented (placed_from at_front lexemes) ⊎ HasDeep (placed_from at_front lexemes) → Spelled source ⊎ Refused source
by_depth source readable lexemes cut (inl indented) = inl (
  tokens_of (placed_from at_front lexemes),
  record {
    readable = readable;
    placed = placed_from at_front lexemes;
    parts = record { lexemes = lexemes; cut = cut; placed_is = refl };
    indented = indented;
    tokens_are = refl;
  },
)
by_depth source readable lexemes cut (inr deep) = inr (
  record { code = BadIndent; line = deep.line },
  (
    λ e. cc,
    (
      readable,
      record {
        placed = placed_from at_front lexemes;
        parts = record { lexemes = lexemes; cut = cut; placed_is = refl };
        deep = deep.deep;
      },
    ),
  ),
)

by_cut : (source : List ℕ) → IsReadable source → IsClosed (text_of source) ⊎ IsBroken (text_of source) → Spelled source ⊎ Refused source
by_cut source readable (inl closed) =
    by_depth source readable closed.lexemes closed.cut (deep_or_not (placed_from at_front closed.lexemes) [] nothing_indented)
by_cut source readable (inr broken) = inr (
  record { code = Unclosed; line = (after_all at_front broken.lexemes).line },
  (
    λ e. cc,
    (
      readable,
      record {
        lexemes = broken.lexemes;
        rest = broken.rest;
        cut = broken.cut;
        unclosed = broken.unclosed;
        line_is = refl;
      },
    ),
  ),
)

by_text : (source : List ℕ) (place : ℕ) → length source ≤ longest → place ≡ min (utf8_valid_len (text_of source)) (plain_len (text_of source)) → (place < length (text_of source)) ⊎ (length (text_of source) ≤ place) → Spelled source ⊎ Refused source
by_text source place short e (inl within) = inr (
  record { code = NotText; line = line_at (text_of source) place },
  (
    λ x. cc,
    (
      short,
      record {
        place = place;
        bad = first_bad (text_of source) _ _ place refl refl e within;
        line_is = refl;
      },
    ),
  ),
)
by_text source place short e (inr past) =
    by_cut source (record { short = short; text = all_text (text_of source) _ _ place refl refl e past }) (cut_within (length (text_of source)) (text_of source) (omega arith))

by_length : (source : List ℕ) → (longest < length source) ⊎ (length source ≤ longest) → Spelled source ⊎ Refused source
by_length source (inl long) = inr (record { code = TooLong; line = line_at source longest }, (λ e. cc, (long, refl)))
by_length source (inr short) = by_text source _ short refl (cases_lt _ (length (text_of source)))

pub spelled_or_not : (source : List ℕ) → Spelled source ⊎ Refused source
spelled_or_not source = by_length source (cases_lt longest (length source))
