-- No words have two readings, and none are both read and unread.
use Rattle.std.proofs.Common.{◌≡◌, inl, inr, ◌⊎◌, List, [], ◌∷◌, ◌++◌, length, map, ap, sym, ◌∙◌, subst}
use Rattle.std.specs.Prelude.{Option, Some, None}
use Rattle.std.specs.List.{All}
use Rattle.std.proofs.lemmas.List.Elements.{All-head, All-tail}
use Rattle.std.proofs.lemmas.Bool.{false≢true}
use Rattle.i7_lexer.specs.declared.token.Token.{Token}
use Rattle.i7_sentences.specs.Forms.{Variant, Fits, IsLonger, IsNoShorter, IsShortestFit, AreUnfit, IsReading, IsUnread}
use Rattle.i7_sentences.specs.Matching.{Found, lowest_fit}
use Rattle.i7_sentences.specs.declared.form.Piece.{Piece}
use Rattle.i7_sentences.specs.declared.form.Piece.TheVariants.{Word, Letter}
use Rattle.i7_sentences.proofs.Lists.{same_head, same_tail, before_total}
use Rattle.i7_sentences.proofs.Fitting.{same_front}
use Rattle.i7_sentences.proofs.Choosing.{ReadAs, read_as}

-- equally long letters are the same
pub letters_same : (pieces : List Piece) (tokens : List Token) (a b : List (List Token)) → Fits pieces tokens a → Fits pieces tokens b → map length a ≡ map length b → a ≡ b
letters_same [] tokens a b one other lens = one.1 ∙ sym other.1
letters_same (Word keyword ∷ pieces) tokens a b one other lens =
    let rests : other.rest ≡ one.rest = same_tail other.word one.word other.rest one.rest (sym other.parts ∙ one.parts) in
    letters_same pieces one.rest a b one.behind (subst (λ ts. Fits pieces ts b) rests other.behind) lens
letters_same (Letter class ∷ pieces) tokens a b one other lens =
    let opened : map length (one.words ∷ one.others) ≡ map length (other.words ∷ other.others) = ap (map length) (sym one.keeps) ∙ lens ∙ ap (map length) other.keeps in
    let parts = same_front other.words one.words other.rest one.rest (sym other.parts ∙ one.parts) (sym (same_head (length one.words) (length other.words) (map length one.others) (map length other.others) opened)) in
    let others : one.others ≡ other.others = letters_same pieces one.rest one.others other.others one.behind (subst (λ ts. Fits pieces ts other.others) parts.1 other.behind) (same_tail (length one.words) (length other.words) (map length one.others) (map length other.others) opened) in
    one.keeps ∙ ap (λ words. words ∷ one.others) (sym parts.0) ∙ ap (λ more. other.words ∷ more) others ∙ sym other.keeps

pub all_there : {X : Type 0} (P : X → Type 0) (xs : List X) (x : X) (more : List X) → All P (xs ++ x ∷ more) → P x
all_there P [] x more all = All-head P x more all
all_there P (y ∷ xs) x more all = all_there P xs x more (All-tail P y (xs ++ x ∷ more) all)

-- a variant that is read, with its letters
pub record Read (tokens : List Token) (own : Variant) (letters : List (List Token)) (before after : List Variant) : Type 0 where
  pub fits : Fits own.pieces tokens letters
  pub shortest : IsNoShorter tokens letters own
  pub earlier : All (IsLonger tokens letters) before
  pub later : All (IsNoShorter tokens letters) after

pub record Same (own other : Variant) (a b : List (List Token)) : Type 0 where
  pub variant : own ≡ other
  pub lens : map length a ≡ map length b

less : (tokens : List Token) (own : Variant) (a b : List (List Token)) (before after more : List Variant) (other v : Variant) → own ∷ after ≡ v ∷ (before ++ other ∷ more) → Fits own.pieces tokens a → All (IsNoShorter tokens a) after → Fits other.pieces tokens b → All (IsLonger tokens b) (v ∷ before) → ⊥
less tokens own a b before after more other v places fits later other_fits earlier =
    let here : IsLonger tokens b own = subst (IsLonger tokens b) (sym (same_head own v after (before ++ other ∷ more) places)) (All-head (IsLonger tokens b) v before earlier) in
    let there : IsNoShorter tokens a other = all_there (IsNoShorter tokens a) before other more (subst (All (IsNoShorter tokens a)) (same_tail own v after (before ++ other ∷ more) places) later) in
    false≢true (sym (there b other_fits) ∙ here a fits)

same_variant : (tokens : List Token) (before after before' after' : List Variant) (own other : Variant) (a b : List (List Token)) → before ++ own ∷ after ≡ before' ++ other ∷ after' → Read tokens own a before after → Read tokens other b before' after' → Same own other a b
same_variant tokens [] after [] after' own other a b places one two =
    let same : own ≡ other = same_head own other after after' places in
    record {
      variant = same;
      lens = before_total (map length a) (map length b)
          (two.shortest a (subst (λ v. Fits v.pieces tokens a) same one.fits))
          (one.shortest b (subst (λ v. Fits v.pieces tokens b) (sym same) two.fits));
    }
same_variant tokens [] after (v ∷ before') after' own other a b places one two = absurd (less tokens own a b before' after after' other v places one.fits one.later two.fits two.earlier)
same_variant tokens (u ∷ before) after [] after' own other a b places one two = absurd (less tokens other b a before after' after own u (sym places) two.fits two.later one.fits one.earlier)
same_variant tokens (u ∷ before) after (v ∷ before') after' own other a b places one two =
    same_variant tokens before after before' after' own other a b (same_tail u v (before ++ own ∷ after) (before' ++ other ∷ after') places)
    (record { fits = one.fits; shortest = one.shortest; earlier = All-tail (IsLonger tokens a) u before one.earlier; later = one.later })
    (record { fits = two.fits; shortest = two.shortest; earlier = All-tail (IsLonger tokens b) v before' two.earlier; later = two.later })

pub fit_same : (variants : List Variant) (tokens : List Token) (v w : Variant) (a b : List (List Token)) → IsShortestFit variants tokens v a → IsShortestFit variants tokens w b → (v ≡ w) × (a ≡ b)
fit_same variants tokens v w a b one two =
    let same = same_variant tokens one.before one.after two.before two.after v w a b (sym one.place ∙ two.place)
    (record { fits = one.fits; shortest = one.shortest; earlier = one.earlier; later = one.later })
    (record { fits = two.fits; shortest = two.shortest; earlier = two.earlier; later = two.later }) in
    (same.variant, letters_same v.pieces tokens a b one.fits (subst (λ other. Fits other.pieces tokens b) (sym same.variant) two.fits) same.lens)

-- a form that fits is the first one that does
pub same_split : {X : Type 0} (P : X → Type 0) (l : List X) (x : X) (h l' : List X) (x' : X) (h' : List X) → l ++ x ∷ h ≡ l' ++ x' ∷ h' → All P l → All P l' → (P x → ⊥) → (P x' → ⊥) → x ≡ x'
same_split P [] x h [] x' h' places one two not not' = same_head x x' h h' places
same_split P [] x h (b ∷ l') x' h' places one two not not' = absurd (not (subst P (sym (same_head x b h (l' ++ x' ∷ h') places)) (All-head P b l' two)))
same_split P (a ∷ l) x h [] x' h' places one two not not' = absurd (not' (subst P (same_head a x' (l ++ x ∷ h) h' places) (All-head P a l one)))
same_split P (a ∷ l) x h (b ∷ l') x' h' places one two not not' = same_split P l x h l' x' h' (same_tail a b (l ++ x ∷ h) (l' ++ x' ∷ h') places) (All-tail P a l one) (All-tail P b l' two) not not'

pub not_unfit : (variants : List Variant) (tokens : List Token) (v : Variant) (letters : List (List Token)) → IsShortestFit variants tokens v letters → AreUnfit tokens variants → ⊥
not_unfit variants tokens v letters fit unfit =
    all_there (λ w. (others : List (List Token)) → Fits w.pieces tokens others → ⊥) fit.before v fit.after (subst (AreUnfit tokens) fit.place unfit) letters fit.fits

pub reading_same : (forms : List (List Variant)) (tokens : List Token) (v w : Variant) (a b : List (List Token)) → IsReading forms tokens v a → IsReading forms tokens w b → (v ≡ w) × (a ≡ b)
reading_same forms tokens v w a b one two =
    let same : one.variants ≡ two.variants = same_split (AreUnfit tokens) one.lower one.variants one.higher two.lower two.variants two.higher (sym one.place ∙ two.place) one.lowest two.lowest (not_unfit one.variants tokens v a one.fit) (not_unfit two.variants tokens w b two.fit) in
    fit_same one.variants tokens v w a b one.fit (subst (λ vs. IsShortestFit vs tokens w b) (sym same) two.fit)

pub never_both : (forms : List (List Variant)) (tokens : List Token) (v : Variant) (letters : List (List Token)) → IsReading forms tokens v letters → IsUnread forms tokens → ⊥
never_both forms tokens v letters reading unread =
    not_unfit reading.variants tokens v letters reading.fit (all_there (AreUnfit tokens) reading.lower reading.variants reading.higher (subst (All (AreUnfit tokens)) reading.place unread))

pub read_or_not : (forms : List (List Variant)) (tokens : List Token) → ((v : Variant) × (letters : List (List Token)) × IsReading forms tokens v letters) ⊎ IsUnread forms tokens
read_or_not forms tokens =
    let Goal : Option Found → Type 0 = λ found. ReadAs forms tokens found → ((v : Variant) × (letters : List (List Token)) × IsReading forms tokens v letters) ⊎ IsUnread forms tokens
    in (elim (lowest_fit forms tokens) as Goal [
      | None ↦ λ unread. inr unread
      | Some found ↦ λ reading. inl (found.variant, found.letters, reading)
    ]) (read_as forms tokens)
