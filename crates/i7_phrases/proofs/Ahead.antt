-- What is ahead in a text from a place on, by its pieces one by one: the rest of the stretch that is open, and what stands behind it.
use Rattle.std.proofs.Common.{◌≡◌, ◌⊎◌, ℕ, Bool, ◌||◌, List, [], ◌∷◌, ◌++◌, refl, sym, ap, ◌∙◌, subst, inl, inr}
use Rattle.i7_sentences.specs.declared.text_piece.TextPiece.{TextPiece}
use Rattle.i7_sentences.specs.declared.text_piece.TextPiece.TheVariants.{EndIf, If, Otherwise, Printed, Substitution}
use Rattle.play_meaning.specs.Trees as tree
use Rattle.i7_conditions.specs.Conditions.{IsCondition}
use Rattle.i7_conditions.specs.Scopes.{Scope}
use Rattle.i7_conditions.proofs.Listing.{IsOnce, Made, MadeOfTwo, made_once, two_once}
use Rattle.i7_phrases.specs.Substitutions.{Piece, Substitutes}
use Rattle.i7_phrases.specs.Texts.{IsRun, IsText, Says, said_then, text_is_over}
use Rattle.i7_phrases.specs.declared.draft.Place.{Place}
use Rattle.i7_phrases.specs.declared.draft.Place.TheVariants.{Else, Outside, Then}

-- outside ifs the text; behind `[otherwise]` the rest of its branch, and the text behind; behind `[if C]` that branch, the other and the text
pub record Ahead : Type 0 where
  pub now : tree.Text
  pub next : tree.Text
  pub last : tree.Text

abbrev pub alone : tree.Text → Ahead
alone t = record { now = t; next = tree.Silence; last = tree.Silence }

abbrev pub said_ahead : Piece → Ahead → Ahead
said_ahead piece a = record { now = said_then piece a.now; next = a.next; last = a.last }

abbrev pub if_ahead : tree.Condition → Ahead → Ahead
if_ahead c a = alone (tree.IfSaid c a.now a.next a.last)

abbrev pub otherwise_ahead : Ahead → Ahead
otherwise_ahead a = record { now = tree.Silence; next = a.now; last = a.next }

abbrev pub end_then : Ahead → Ahead
end_then a = record { now = tree.Silence; next = tree.Silence; last = a.now }

abbrev pub end_else : Ahead → Ahead
end_else a = record { now = tree.Silence; next = a.now; last = tree.Silence }

abbrev pub ahead_is_over : Place → Ahead → Bool
ahead_is_over Outside a = text_is_over a.now
ahead_is_over Else a = text_is_over a.now || text_is_over a.next
ahead_is_over Then a = text_is_over a.now || (text_is_over a.next || text_is_over a.last)

abbrev pub IsAhead : Scope → Place → List TextPiece → Ahead → Type 0
IsAhead s Outside [] a = a ≡ alone tree.Silence
IsAhead s Then [] a = ⊥
IsAhead s Else [] a = ⊥
IsAhead s place (Printed bytes ∷ pieces) a = MadeOfTwo said_ahead (Says s (Printed bytes)) (IsAhead s place pieces) a
IsAhead s place (Substitution words ∷ pieces) a = MadeOfTwo said_ahead (Says s (Substitution words)) (IsAhead s place pieces) a
IsAhead s Outside (If words ∷ pieces) a = MadeOfTwo if_ahead (IsCondition s words) (IsAhead s Then pieces) a
IsAhead s Then (If words ∷ pieces) a = ⊥
IsAhead s Else (If words ∷ pieces) a = ⊥
IsAhead s Outside (Otherwise ∷ pieces) a = ⊥
IsAhead s Then (Otherwise ∷ pieces) a = Made otherwise_ahead (IsAhead s Else pieces) a
IsAhead s Else (Otherwise ∷ pieces) a = ⊥
IsAhead s Outside (EndIf ∷ pieces) a = ⊥
IsAhead s Then (EndIf ∷ pieces) a = Made end_then (IsAhead s Outside pieces) a
IsAhead s Else (EndIf ∷ pieces) a = Made end_else (IsAhead s Outside pieces) a

-- ---- what a text means is ahead

one_more : (s : Scope) (place : Place) (first : TextPiece) (pieces : List TextPiece) (piece : Piece) (a : Ahead) → Says s first piece → IsAhead s place pieces a → IsAhead s place (first ∷ pieces) (said_ahead piece a)
one_more s place (Printed bytes) pieces piece a says rest = (piece, a, says, rest, refl)
one_more s place (Substitution words) pieces piece a says rest = (piece, a, says, rest, refl)
one_more s place (If words) pieces piece a says rest = absurd says
one_more s place Otherwise pieces piece a says rest = absurd says
one_more s place EndIf pieces piece a says rest = absurd says

run_ahead : (s : Scope) (place : Place) (run pieces : List TextPiece) (t next last : tree.Text) → IsRun s run t → IsAhead s place pieces (record { now = tree.Silence; next = next; last = last })
    → IsAhead s place (run ++ pieces) (record { now = t; next = next; last = last })
run_ahead s place run pieces t next last IsRun.none ahead = ahead
run_ahead s place run pieces t next last (IsRun.and_more {first = first} {pieces = others} {t = u} piece says is_run) ahead =
    one_more s place first (others ++ pieces) piece (record { now = u; next = next; last = last }) says (run_ahead s place others pieces u next last is_run ahead)

pub text_ahead : (s : Scope) (pieces : List TextPiece) (t : tree.Text) → IsText s pieces t → IsAhead s Outside pieces (alone t)
text_ahead s pieces t IsText.none = refl
text_ahead s pieces t (IsText.and_more {first = first} {pieces = others} {t = u} piece says is_text) = one_more s Outside first others piece (alone u) says (text_ahead s others u is_text)
text_ahead s pieces t (IsText.only_if {words = words} {pieces = behind} {run = run} {rest = rest} {c = c} {a = a} {t = u} asks parted is_run is_text) = (
  c,
  record { now = a; next = tree.Silence; last = u },
  asks,
  subst (λ (ps : List TextPiece). IsAhead s Then ps (record { now = a; next = tree.Silence; last = u })) (sym parted)
      (run_ahead s Then run (EndIf ∷ rest) a tree.Silence u is_run (alone u, text_ahead s rest u is_text, refl)),
  refl,
)
text_ahead s pieces t (IsText.if_else {words = words} {pieces = behind} {run = run} {others = others} {rest = rest} {c = c} {a = a} {b = b} {t = u} asks parted is_run is_other is_text) = (
  c,
  record { now = a; next = b; last = u },
  asks,
  subst (λ (ps : List TextPiece). IsAhead s Then ps (record { now = a; next = b; last = u })) (sym parted)
      (run_ahead s Then run (Otherwise ∷ others ++ EndIf ∷ rest) a b u is_run
      (record { now = b; next = u; last = tree.Silence }, run_ahead s Else others (EndIf ∷ rest) b u tree.Silence is_other (alone u, text_ahead s rest u is_text, refl), refl)),
  refl,
)

-- ---- what is ahead is what the text means

abbrev EndsIn : Scope → List TextPiece → tree.Text → tree.Text → Type 0
EndsIn s pieces a t = (run : List TextPiece) × (rest : List TextPiece) × (pieces ≡ run ++ EndIf ∷ rest) × IsRun s run a × IsText s rest t

abbrev TurnsIn : Scope → List TextPiece → tree.Text → tree.Text → tree.Text → Type 0
TurnsIn s pieces a b t = (run : List TextPiece) × (others : List TextPiece) × (rest : List TextPiece) × (pieces ≡ run ++ (Otherwise ∷ others ++ EndIf ∷ rest)) × IsRun s run a × IsRun s others b × IsText s rest t

abbrev Reads : Scope → Place → List TextPiece → Ahead → Type 0
Reads s Outside pieces a = IsText s pieces a.now
Reads s Else pieces a = EndsIn s pieces a.now a.next
Reads s Then pieces a = ((a.next ≡ tree.Silence) × EndsIn s pieces a.now a.last) ⊎ TurnsIn s pieces a.now a.next a.last

abbrev same_tail : TextPiece → List TextPiece → List TextPiece
same_tail first pieces = first ∷ pieces

reads_more : (s : Scope) (place : Place) (first : TextPiece) (pieces : List TextPiece) (a : Ahead) → ((b : Ahead) → IsAhead s place pieces b → Reads s place pieces b)
    → MadeOfTwo said_ahead (Says s first) (IsAhead s place pieces) a → Reads s place (first ∷ pieces) a
reads_more s Outside first pieces a ih made =
    subst (λ (b : Ahead). IsText s (first ∷ pieces) b.now) (sym made.4) (IsText.and_more made.0 made.2 (ih made.1 made.3))
reads_more s Else first pieces a ih made =
    let e = ih made.1 made.3 in
    subst (λ (b : Ahead). EndsIn s (first ∷ pieces) b.now b.next) (sym made.4) (first ∷ e.0, e.1, ap (same_tail first) e.2, IsRun.and_more made.0 made.2 e.3, e.4)
reads_more s Then first pieces a ih made =
    subst (λ (b : Ahead). Reads s Then (first ∷ pieces) b) (sym made.4)
    (elim (ih made.1 made.3) [
      | inl e ↦ inl (e.0, (first ∷ e.1.0, e.1.1, ap (same_tail first) e.1.2, IsRun.and_more made.0 made.2 e.1.3, e.1.4))
      | inr e ↦ inr (first ∷ e.0, e.1, e.2, ap (same_tail first) e.3, IsRun.and_more made.0 made.2 e.4, e.5, e.6)
    ])

reads_if : (s : Scope) (words : List (List ℕ)) (pieces : List TextPiece) (c : tree.Condition) (a : Ahead) → IsCondition s words c → Reads s Then pieces a → IsText s (If words ∷ pieces) (tree.IfSaid c a.now a.next a.last)
reads_if s words pieces c a asks (inl e) =
    subst (λ (b : tree.Text). IsText s (If words ∷ pieces) (tree.IfSaid c a.now b a.last)) (sym e.0) (IsText.only_if asks e.1.2 e.1.3 e.1.4)
reads_if s words pieces c a asks (inr e) = IsText.if_else asks e.3 e.4 e.5 e.6

pub ahead_reads : (s : Scope) (place : Place) (pieces : List TextPiece) (a : Ahead) → IsAhead s place pieces a → Reads s place pieces a
ahead_reads s Outside [] a is = subst (λ (b : Ahead). IsText s [] b.now) (sym is) IsText.none
ahead_reads s Then [] a is = absurd is
ahead_reads s Else [] a is = absurd is
ahead_reads s place (Printed bytes ∷ pieces) a is = reads_more s place (Printed bytes) pieces a (ahead_reads s place pieces) is
ahead_reads s place (Substitution words ∷ pieces) a is = reads_more s place (Substitution words) pieces a (ahead_reads s place pieces) is
ahead_reads s Outside (If words ∷ pieces) a is =
    subst (λ (b : Ahead). IsText s (If words ∷ pieces) b.now) (sym is.4) (reads_if s words pieces is.0 is.1 is.2 (ahead_reads s Then pieces is.1 is.3))
ahead_reads s Then (If words ∷ pieces) a is = absurd is
ahead_reads s Else (If words ∷ pieces) a is = absurd is
ahead_reads s Outside (Otherwise ∷ pieces) a is = absurd is
ahead_reads s Then (Otherwise ∷ pieces) a is =
    let e = ahead_reads s Else pieces is.0 is.1 in
    subst (λ (b : Ahead). Reads s Then (Otherwise ∷ pieces) b) (sym is.2) (inr ([], e.0, e.1, ap (same_tail Otherwise) e.2, IsRun.none, e.3, e.4))
ahead_reads s Else (Otherwise ∷ pieces) a is = absurd is
ahead_reads s Outside (EndIf ∷ pieces) a is = absurd is
ahead_reads s Then (EndIf ∷ pieces) a is =
    subst (λ (b : Ahead). Reads s Then (EndIf ∷ pieces) b) (sym is.2) (inl (refl, ([], pieces, refl, IsRun.none, ahead_reads s Outside pieces is.0 is.1)))
ahead_reads s Else (EndIf ∷ pieces) a is =
    subst (λ (b : Ahead). EndsIn s (EndIf ∷ pieces) b.now b.next) (sym is.2) ([], pieces, refl, IsRun.none, ahead_reads s Outside pieces is.0 is.1)

-- ---- one text

bytes_once : (s : Scope) (bytes : List ℕ) → IsOnce (Says s (Printed bytes))
bytes_once s bytes x y a b = a ∙ sym b

silent_once : IsOnce {A = Ahead} (λ a. a ≡ alone tree.Silence)
silent_once a b e f = e ∙ sym f

never_once : IsOnce {A = Ahead} (λ a. ⊥)
never_once a b e f = absurd e

ahead_once : (s : Scope) → ((words : List (List ℕ)) → IsOnce (Substitutes s words)) → ((words : List (List ℕ)) → IsOnce (IsCondition s words)) → (place : Place) (pieces : List TextPiece) → IsOnce (IsAhead s place pieces)
ahead_once s says asks Outside [] = silent_once
ahead_once s says asks Then [] = never_once
ahead_once s says asks Else [] = never_once
ahead_once s says asks place (Printed bytes ∷ pieces) = two_once said_ahead (Says s (Printed bytes)) (IsAhead s place pieces) (bytes_once s bytes) (ahead_once s says asks place pieces)
ahead_once s says asks place (Substitution words ∷ pieces) = two_once said_ahead (Substitutes s words) (IsAhead s place pieces) (says words) (ahead_once s says asks place pieces)
ahead_once s says asks Outside (If words ∷ pieces) = two_once if_ahead (IsCondition s words) (IsAhead s Then pieces) (asks words) (ahead_once s says asks Then pieces)
ahead_once s says asks Then (If words ∷ pieces) = never_once
ahead_once s says asks Else (If words ∷ pieces) = never_once
ahead_once s says asks Outside (Otherwise ∷ pieces) = never_once
ahead_once s says asks Then (Otherwise ∷ pieces) = made_once otherwise_ahead (IsAhead s Else pieces) (ahead_once s says asks Else pieces)
ahead_once s says asks Else (Otherwise ∷ pieces) = never_once
ahead_once s says asks Outside (EndIf ∷ pieces) = never_once
ahead_once s says asks Then (EndIf ∷ pieces) = made_once end_then (IsAhead s Outside pieces) (ahead_once s says asks Outside pieces)
ahead_once s says asks Else (EndIf ∷ pieces) = made_once end_else (IsAhead s Outside pieces) (ahead_once s says asks Outside pieces)

abbrev now_of : Ahead → tree.Text
now_of a = a.now

pub text_once : (s : Scope) → ((words : List (List ℕ)) → IsOnce (Substitutes s words)) → ((words : List (List ℕ)) → IsOnce (IsCondition s words)) → (pieces : List TextPiece) → IsOnce (IsText s pieces)
text_once s says asks pieces t u a b = ap now_of (ahead_once s says asks Outside pieces (alone t) (alone u) (text_ahead s pieces t a) (text_ahead s pieces u b))
