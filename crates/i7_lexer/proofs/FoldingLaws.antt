-- A text's white space is folded run by run.
use Rattle.std.proofs.Common.{◌≡◌, ℕ, Bool, true, false, ◌&&◌, List, [], ◌∷◌, ◌++◌, length, refl, sym, ap, ◌∙◌, subst, append_assoc}
use Rattle.std.specs.List.{list_all}
use Rattle.std.proofs.lemmas.List.{append-nil, take_at, drop_at}
use Rattle.i7_lexer.specs.Bytes.{is_blank}
use Rattle.i7_lexer.specs.Lexemes.{begins_with}
use Rattle.i7_lexer.specs.Texts.{IsFolded, folded, folded_behind, folded_run}
use Rattle.i7_lexer.specs.Texts.IsFolded.{nothing, byte, white}
use Rattle.i7_lexer.proofs.Runs.{prefix_len_at}
use Rattle.i7_lexer.proofs.Folding.{folded_run-nil, folded_front, folded_other, folded-nil}

-- the folded text is the one that the relation has
pub folded_from : (bytes text : List ℕ) → IsFolded bytes text → text ≡ folded bytes
folded_from [] [] nothing = sym folded-nil
folded_from (b ∷ bytes) (c ∷ text) (byte other more) = ap (λ t. b ∷ t) (folded_from bytes text more) ∙ sym (folded_other b bytes other)
folded_from whole out (white {blanks} {bytes} {text} some all stops more) =
    let count = prefix_len_at is_blank blanks bytes all stops in
    let front = folded_front [] (blanks ++ bytes) in
    let split = rw (count, take_at blanks bytes (length blanks) refl, drop_at blanks bytes (length blanks) refl) at front in
    ap (λ t. folded_run blanks ++ t) (folded_from bytes text more) ∙ sym split

all-push : (blanks : List ℕ) (b : ℕ) → list_all is_blank blanks ≡ true → is_blank b ≡ true → list_all is_blank (blanks ++ b ∷ []) ≡ true
all-push [] b all e = rw e refl
all-push (c ∷ blanks) b all e = all_by (is_blank c) (list_all is_blank blanks) (list_all is_blank (blanks ++ b ∷ [])) all (λ h. all-push blanks b h e)
  where
    all_by : (v w x : Bool) → v && w ≡ true → (w ≡ true → x ≡ true) → v && x ≡ true
    all_by true w x h next = next h
    all_by false w x h next = h

-- a run before bytes that don't go on with it
run_before : (blanks bytes text : List ℕ) → list_all is_blank blanks ≡ true → begins_with is_blank bytes ≡ false → IsFolded bytes text → IsFolded (blanks ++ bytes) (folded_run blanks ++ text)
run_before [] bytes text all stops more = let P : List ℕ → Type 0 = λ t. IsFolded bytes (t ++ text) in subst P (sym folded_run-nil) more
run_before (b ∷ blanks) bytes text all stops more = white (λ e. cc) all stops more

folded_is_by : (blanks : List ℕ) (b : ℕ) (bytes : List ℕ) (v : Bool) → is_blank b ≡ v → list_all is_blank blanks ≡ true → ((front : List ℕ) → list_all is_blank front ≡ true → IsFolded (front ++ bytes) (folded_behind front bytes)) → IsFolded (blanks ++ b ∷ bytes) (folded_behind blanks (b ∷ bytes))
folded_is_by blanks b bytes true e all next =
    let longer = next (blanks ++ b ∷ []) (all-push blanks b all e) in
    let P : List ℕ → Type 0 = λ t. IsFolded t (folded_behind (blanks ++ b ∷ []) bytes) in
    rw e (subst P (append_assoc blanks (b ∷ []) bytes) longer)
folded_is_by blanks b bytes false e all next = rw e (run_before blanks (b ∷ bytes) (b ∷ folded bytes) all e (byte e (next [] refl)))

folded_is_behind : (bytes blanks : List ℕ) → list_all is_blank blanks ≡ true → IsFolded (blanks ++ bytes) (folded_behind blanks bytes)
folded_is_behind [] blanks all =
    let P : List ℕ → Type 0 = λ t. IsFolded (blanks ++ []) t in
    subst P (append-nil (folded_run blanks)) (run_before blanks [] [] all refl nothing)
folded_is_behind (b ∷ bytes) blanks all = folded_is_by blanks b bytes (is_blank b) refl all (λ front h. folded_is_behind bytes front h)

pub folded_is : (bytes : List ℕ) → IsFolded bytes (folded bytes)
folded_is bytes = folded_is_behind bytes [] refl
