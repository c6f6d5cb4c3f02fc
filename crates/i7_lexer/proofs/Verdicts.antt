-- What the lexer's steps say of a source, together.
use Rattle.std.proofs.Common.{◌≡◌, ℕ, ◌≤◌, List, length, sym, ap, ◌∙◌, subst}
use Rattle.world_meaning.specs.declared.fault.FaultCode.{FaultCode}
use Rattle.world_meaning.specs.declared.fault.FaultCode.TheVariants.{Unclosed, BadIndent}
use Rattle.i7_lexer.specs.declared.placed.Placed.{Placed}
use Rattle.i7_lexer.specs.declared.token.Token.{Token}
use Rattle.i7_lexer.specs.Sources.{text_of, IsText}
use Rattle.i7_lexer.specs.Cuts.{IsPlaced, IsUnclosedIn}
use Rattle.i7_lexer.specs.Indents.{AreIndented, IsTooDeep}
use Rattle.i7_lexer.specs.Tokens.{tokens_of}
use Rattle.i7_lexer.specs.Refusals.{IsReadable, Stands, longest}
use Rattle.i7_lexer.specs.Readings.{HasTokens}

pub readable : (source checked : List ℕ) → length source ≤ longest → IsText checked → checked ≡ text_of source → IsReadable source
readable source checked short text e = record { short = short; text = let P : List ℕ → Type 0 = λ t. IsText t in subst P e text }

pub unclosed : (code : FaultCode) (line : ℕ) (source checked cut : List ℕ) → checked ≡ text_of source → cut ≡ text_of source → length source ≤ longest → IsText checked → code ≡ Unclosed → IsUnclosedIn cut line → Stands code line source
unclosed code line source checked cut e d short text is_unclosed h =
    let P : List ℕ → Type 0 = λ t. IsUnclosedIn t line in
    let R : FaultCode → Type 0 = λ t. Stands t line source in
    subst R (sym is_unclosed) (readable source checked short text e, subst P d h)

pub deep : (code : FaultCode) (line : ℕ) (source checked cut : List ℕ) (placed asked : List Placed) → checked ≡ text_of source → cut ≡ text_of source → asked ≡ placed → length source ≤ longest → IsText checked → IsPlaced cut placed → code ≡ BadIndent → IsTooDeep asked line → Stands code line source
deep code line source checked cut placed asked e d a short text parts is_bad too_deep =
    let P : List ℕ → Type 0 = λ t. IsPlaced t placed in
    let Q : List Placed → Type 0 = λ t. IsTooDeep t line in
    let R : FaultCode → Type 0 = λ t. Stands t line source in
    subst R (sym is_bad) (readable source checked short text e, record { placed = placed; parts = subst P d parts; deep = subst Q a too_deep })

pub lexed : (source checked cut : List ℕ) (placed asked made : List Placed) (tokens tokens' : List Token) → checked ≡ text_of source → cut ≡ text_of source → asked ≡ placed → made ≡ placed → length source ≤ longest → IsText checked → IsPlaced cut placed → AreIndented asked → tokens ≡ tokens_of made → tokens' ≡ tokens → HasTokens source tokens'
lexed source checked cut placed asked made tokens tokens' e d a m short text parts indented is_tokens same =
    let P : List ℕ → Type 0 = λ t. IsPlaced t placed in
    let Q : List Placed → Type 0 = λ t. AreIndented t in
    record {
      readable = readable source checked short text e;
      placed = placed;
      parts = subst P d parts;
      indented = subst Q a indented;
      tokens_are = same ∙ (is_tokens ∙ ap tokens_of m);
    }
