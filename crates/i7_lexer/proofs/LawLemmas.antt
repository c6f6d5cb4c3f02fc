-- A source is read in one way, or refused in one way.
use Rattle.std.proofs.Common.{◌≡◌, ◌≢◌, ℕ, ◌<◌, ◌≤◌, true, false, List, [], ◌∷◌, ◌++◌, refl, sym, ap, ◌∙◌, subst, arith, ◌⊎◌, inl, inr}
use Rattle.std.proofs.lemmas.Bool.{cases_lt}
use Rattle.world_meaning.specs.declared.fault.FaultCode.{FaultCode}
use Rattle.world_meaning.specs.declared.fault.FaultCode.TheVariants.{TooLong, NotText, Unclosed, BadIndent, Memory}
use Rattle.i7_lexer.specs.declared.placed.Placed.{Placed}
use Rattle.i7_lexer.specs.declared.token.Token.{Token}
use Rattle.i7_lexer.specs.Sources.{text_of, line_at, IsText, IsFirstBad}
use Rattle.i7_lexer.specs.Cuts.{IsPlaced, IsUnclosedIn}
use Rattle.i7_lexer.specs.Indents.{AreIndented, IsTooDeep, forbids, line_of}
use Rattle.i7_lexer.specs.Places.{placed_from, at_front, after_all}
use Rattle.i7_lexer.specs.Tokens.{tokens_of}
use Rattle.i7_lexer.specs.Refusals.{IsNoText, IsDeepIn, Stands}
use Rattle.i7_lexer.specs.Readings.{HasTokens}
use Rattle.i7_lexer.proofs.Readings.{cut-same, cut-closed, unclosed-same}

placed-same : (text : List ℕ) (p q : List Placed) → IsPlaced text p → IsPlaced text q → p ≡ q
placed-same text p q a b =
    a.placed_is ∙ (ap (placed_from at_front) (cut-same a.lexemes b.lexemes text a.cut b.cut) ∙ sym b.placed_is)

pub tokens-same : (source : List ℕ) (v w : List Token) → HasTokens source v → HasTokens source w → v ≡ w
tokens-same source v w a b =
    a.tokens_are ∙ (ap tokens_of (placed-same (text_of source) a.placed b.placed a.parts b.parts) ∙ sym b.tokens_are)

text-bad : (text : List ℕ) (line : ℕ) → IsText text → IsNoText text line → ⊥
text-bad text line all bad = all bad.place bad.bad.within bad.bad.bad

closed-unclosed : (text : List ℕ) (placed : List Placed) (line : ℕ) → IsPlaced text placed → IsUnclosedIn text line → ⊥
closed-unclosed text placed line parts endless = cut-closed parts.lexemes endless.lexemes text endless.rest parts.cut endless.cut endless.unclosed

indented-deep : (placed : List Placed) (line : ℕ) → AreIndented placed → IsTooDeep placed line → ⊥
indented-deep placed line indented deep =
    let shallow : forbids (line_of deep.before) deep.token.at.start ≡ false = indented deep.before deep.rest deep.token deep.parts in
    let is_deep : forbids (line_of deep.before) deep.token.at.start ≡ true = deep.deep in
    cc

-- what a refusal for anything but memory says
abbrev Refusal : FaultCode → ℕ → List ℕ → Type 0
Refusal code line source =
    ((code ≡ TooLong) × Stands TooLong line source) ⊎ (((code ≡ NotText) × Stands NotText line source) ⊎ (((code ≡ Unclosed) × Stands Unclosed line source) ⊎ ((code ≡ BadIndent) × Stands BadIndent line source)))

refusal : (code : FaultCode) (line : ℕ) (source : List ℕ) → Stands code line source → code ≢ Memory → Refusal code line source
refusal TooLong line source stands not_memory = inl (refl, stands)
refusal NotText line source stands not_memory = inr (inl (refl, stands))
refusal Unclosed line source stands not_memory = inr (inr (inl (refl, stands)))
refusal BadIndent line source stands not_memory = inr (inr (inr (refl, stands)))
refusal Memory line source stands not_memory = absurd (not_memory refl)
refusal _ line source stands not_memory = absurd stands

first-same : (text : List ℕ) (p q : ℕ) → IsFirstBad text p → IsFirstBad text q → p ≡ q
first-same text p q a b = by_order (cases_lt p q) (cases_lt q p)
  where
    by_order : (p < q) ⊎ (q ≤ p) → (q < p) ⊎ (p ≤ q) → p ≡ q
    by_order (inl lt) y = absurd (b.first p lt a.bad)
    by_order (inr le) (inl lt) = absurd (a.first q lt b.bad)
    by_order (inr le) (inr le') = omega arith

no_text-same : (text : List ℕ) (line line' : ℕ) → IsNoText text line → IsNoText text line' → line ≡ line'
no_text-same text line line' a b = a.line_is ∙ (ap (line_at text) (first-same text a.place b.place a.bad b.bad) ∙ sym b.line_is)

unclosed_line-same : (text : List ℕ) (line line' : ℕ) → IsUnclosedIn text line → IsUnclosedIn text line' → line ≡ line'
unclosed_line-same text line line' a b =
    a.line_is ∙ (ap (λ ls. (after_all at_front ls).line) (unclosed-same a.lexemes b.lexemes text a.rest b.rest a.cut a.unclosed b.cut b.unclosed) ∙ sym b.line_is)

-- of two places in a list one is before the other, or they are one
abbrev Places : List Placed → Placed → List Placed → Placed → Type 0
Places b t b' t' = ((b ≡ b') × (t ≡ t')) ⊎ (((front : List Placed) × (b' ≡ b ++ t ∷ front)) ⊎ ((front : List Placed) × (b ≡ b' ++ t' ∷ front)))

places-cons : (k k' : Placed) (b b' : List Placed) (t t' : Placed) → k ≡ k' → Places b t b' t' → Places (k ∷ b) t (k' ∷ b') t'
places-cons k k' b b' t t' e (inl (same, last)) = inl (cc, last)
places-cons k k' b b' t t' e (inr (inl (front, parts))) = inr (inl (front, cc))
places-cons k k' b b' t t' e (inr (inr (front, parts))) = inr (inr (front, cc))

places : (b b' r r' : List Placed) (t t' : Placed) → b ++ t ∷ r ≡ b' ++ t' ∷ r' → Places b t b' t'
places [] [] r r' t t' e = inl (refl, cc)
places [] (k ∷ b') r r' t t' e = let same : t ≡ k = cc in inr (inl (b', ap (λ x. x ∷ b') (sym same)))
places (k ∷ b) [] r r' t t' e = let same : k ≡ t' = cc in inr (inr (b, ap (λ x. x ∷ b) same))
places (k ∷ b) (k' ∷ b') r r' t t' e = let same : k ≡ k' = cc in let more : b ++ t ∷ r ≡ b' ++ t' ∷ r' = cc in places-cons k k' b b' t t' same (places b b' r r' t t' more)

-- a token of a list whose lines are all fine is fine
fine : (b b' front : List Placed) (t : Placed) → AreIndented b' → b' ≡ b ++ t ∷ front → forbids (line_of b) t.at.start ≡ true → ⊥
fine b b' front t indented parts deep = let shallow : forbids (line_of b) t.at.start ≡ false = indented b front t parts in cc

deep_line-same : (placed : List Placed) (line line' : ℕ) → IsTooDeep placed line → IsTooDeep placed line' → line ≡ line'
deep_line-same placed line line' a b = by_place (places a.before b.before a.rest b.rest a.token b.token (sym a.parts ∙ b.parts))
  where
    by_place : Places a.before a.token b.before b.token → line ≡ line'
    by_place (inl (same, last)) = a.line_is ∙ (ap (λ t. t.at.line) last ∙ sym b.line_is)
    by_place (inr (inl (front, parts))) = absurd (fine a.before b.before front a.token b.indented parts a.deep)
    by_place (inr (inr (front, parts))) = absurd (fine b.before a.before front b.token a.indented parts b.deep)

deep_in-same : (text : List ℕ) (line line' : ℕ) → IsDeepIn text line → IsDeepIn text line' → line ≡ line'
deep_in-same text line line' a b =
    let P : List Placed → Type 0 = λ t. IsTooDeep t line in
    deep_line-same b.placed line line' (subst P (placed-same text a.placed b.placed a.parts b.parts) a.deep) b.deep

same_by : (code code' : FaultCode) (line line' : ℕ) (source : List ℕ) → Refusal code line source → Refusal code' line' source → (code ≡ code') × (line ≡ line')
same_by code code' line line' source (inl (c, s)) (inl (c', s')) = (c ∙ sym c', s.1 ∙ sym s'.1)
same_by code code' line line' source (inl (c, s)) (inr (inl (c', s'))) = absurd (omega (arith, s.0, s'.0))
same_by code code' line line' source (inl (c, s)) (inr (inr (inl (c', s')))) = absurd (omega (arith, s.0, s'.0.short))
same_by code code' line line' source (inl (c, s)) (inr (inr (inr (c', s')))) = absurd (omega (arith, s.0, s'.0.short))
same_by code code' line line' source (inr (inl (c, s))) (inl (c', s')) = absurd (omega (arith, s.0, s'.0))
same_by code code' line line' source (inr (inl (c, s))) (inr (inl (c', s'))) = (c ∙ sym c', no_text-same (text_of source) line line' s.1 s'.1)
same_by code code' line line' source (inr (inl (c, s))) (inr (inr (inl (c', s')))) = absurd (text-bad (text_of source) line s'.0.text s.1)
same_by code code' line line' source (inr (inl (c, s))) (inr (inr (inr (c', s')))) = absurd (text-bad (text_of source) line s'.0.text s.1)
same_by code code' line line' source (inr (inr (inl (c, s)))) (inl (c', s')) = absurd (omega (arith, s.0.short, s'.0))
same_by code code' line line' source (inr (inr (inl (c, s)))) (inr (inl (c', s'))) = absurd (text-bad (text_of source) line' s.0.text s'.1)
same_by code code' line line' source (inr (inr (inl (c, s)))) (inr (inr (inl (c', s')))) = (c ∙ sym c', unclosed_line-same (text_of source) line line' s.1 s'.1)
same_by code code' line line' source (inr (inr (inl (c, s)))) (inr (inr (inr (c', s')))) = absurd (closed-unclosed (text_of source) s'.1.placed line s'.1.parts s.1)
same_by code code' line line' source (inr (inr (inr (c, s)))) (inl (c', s')) = absurd (omega (arith, s.0.short, s'.0))
same_by code code' line line' source (inr (inr (inr (c, s)))) (inr (inl (c', s'))) = absurd (text-bad (text_of source) line' s.0.text s'.1)
same_by code code' line line' source (inr (inr (inr (c, s)))) (inr (inr (inl (c', s')))) = absurd (closed-unclosed (text_of source) s.1.placed line' s.1.parts s'.1)
same_by code code' line line' source (inr (inr (inr (c, s)))) (inr (inr (inr (c', s')))) = (c ∙ sym c', deep_in-same (text_of source) line line' s.1 s'.1)

pub refused-same : (code code' : FaultCode) (line line' : ℕ) (source : List ℕ) → Stands code line source → Stands code' line' source → code ≢ Memory → code' ≢ Memory → (code ≡ code') × (line ≡ line')
refused-same code code' line line' source s s' m m' = same_by code code' line line' source (refusal code line source s m) (refusal code' line' source s' m')

pub spelled-refused : (code : FaultCode) (line : ℕ) (source : List ℕ) (tokens : List Token) → HasTokens source tokens → Stands code line source → code ≡ Memory
spelled-refused TooLong line source tokens has stands = absurd (omega (arith, has.readable.short, stands.0))
spelled-refused NotText line source tokens has stands = absurd (text-bad (text_of source) line has.readable.text stands.1)
spelled-refused Unclosed line source tokens has stands = absurd (closed-unclosed (text_of source) has.placed line has.parts stands.1)
spelled-refused BadIndent line source tokens has stands =
    let P : List Placed → Type 0 = λ t. IsTooDeep t line in
    absurd (indented-deep has.placed line has.indented (subst P (placed-same (text_of source) stands.1.placed has.placed stands.1.parts has.parts) stands.1.deep))
spelled-refused Memory line source tokens has stands = refl
spelled-refused _ line source tokens has stands = absurd stands
