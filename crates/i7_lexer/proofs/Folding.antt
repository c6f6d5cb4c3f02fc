-- A text's white space, run by run.
use Rattle.std.proofs.Common.{◌≡◌, ℕ, ◌+◌, ◌<◌, ◌≤◌, Bool, true, false, not, eqb, List, [], ◌∷◌, ◌++◌, length, get_or, take, drop, refl, sym, ap, ◌∙◌, append_assoc, arith}
use Rattle.std.proofs.lemmas.Bool.{eq-eqb}
use Rattle.std.proofs.lemmas.List.{append-nil}
use Rattle.std.proofs.lemmas.List.Sums.{sum_by-append}
use Rattle.std.specs.List.{prefix_len}
use Rattle.i7_lexer.specs.Bytes.{is_blank, newlines}
use Rattle.i7_lexer.specs.Texts.{folded, folded_behind, folded_run, is_unblank}
use Rattle.i7_lexer.proofs.Runs.{prefix_len-yes, prefix_len-no}

pub folded_run-nil : folded_run [] ≡ []
unfolding folded_run newlines
folded_run-nil = refl

front_by : (run : List ℕ) (b : ℕ) (bytes : List ℕ) (v : Bool) → is_blank b ≡ v → folded_behind (run ++ b ∷ []) bytes ≡ folded_run ((run ++ b ∷ []) ++ take (prefix_len is_blank bytes) bytes) ++ folded (drop (prefix_len is_blank bytes) bytes) → folded_behind run (b ∷ bytes) ≡ folded_run (run ++ take (prefix_len is_blank (b ∷ bytes)) (b ∷ bytes)) ++ folded (drop (prefix_len is_blank (b ∷ bytes)) (b ∷ bytes))
front_by run b bytes true e ih = rw (prefix_len-yes is_blank b bytes e, e) (simp append_assoc at ih)
front_by run b bytes false e ih = rw (prefix_len-no is_blank b bytes e, e, append-nil run, folded_run-nil) refl

pub folded_front : (run bytes : List ℕ) → folded_behind run bytes ≡ folded_run (run ++ take (prefix_len is_blank bytes) bytes) ++ folded (drop (prefix_len is_blank bytes) bytes)
folded_front run [] = simp (append-nil, folded_run-nil)
folded_front run (b ∷ bytes) = front_by run b bytes (is_blank b) refl (folded_front (run ++ b ∷ []) bytes)

pub folded_blank : (b : ℕ) (bytes : List ℕ) → is_blank b ≡ true → folded (b ∷ bytes) ≡ folded_run (take (prefix_len is_blank (b ∷ bytes)) (b ∷ bytes)) ++ folded (drop (prefix_len is_blank (b ∷ bytes)) (b ∷ bytes))
folded_blank b bytes e = folded_front [] (b ∷ bytes)

pub folded_other : (b : ℕ) (bytes : List ℕ) → is_blank b ≡ false → folded (b ∷ bytes) ≡ b ∷ folded bytes
folded_other b bytes e = rw (e, folded_run-nil) refl

pub folded-nil : folded [] ≡ []
folded-nil = folded_run-nil

blank_front : (all out rest : List ℕ) → 1 ≤ length rest → is_blank (get_or rest 0 0) ≡ true → out ++ folded rest ≡ all → (out ++ folded_run (take (prefix_len is_blank rest) rest)) ++ folded (drop (prefix_len is_blank rest) rest) ≡ all
blank_front all out [] l e h = absurd (omega arith)
blank_front all out (b ∷ bytes) l e h = append_assoc out _ _ ∙ (ap (λ t. out ++ t) (sym (folded_blank b bytes e)) ∙ h)

word_by : (b : ℕ) (bytes : List ℕ) (v : Bool) → is_blank b ≡ v → folded bytes ≡ take (prefix_len is_unblank bytes) bytes ++ folded (drop (prefix_len is_unblank bytes) bytes) → folded (b ∷ bytes) ≡ take (prefix_len is_unblank (b ∷ bytes)) (b ∷ bytes) ++ folded (drop (prefix_len is_unblank (b ∷ bytes)) (b ∷ bytes))
word_by b bytes true e ih = rw (prefix_len-no is_unblank b bytes (ap not e)) refl
word_by b bytes false e ih = rw (prefix_len-yes is_unblank b bytes (ap not e)) (folded_other b bytes e ∙ ap (λ t. b ∷ t) ih)

-- a front without white space stays
word_front : (bytes : List ℕ) → folded bytes ≡ take (prefix_len is_unblank bytes) bytes ++ folded (drop (prefix_len is_unblank bytes) bytes)
word_front [] = refl
word_front (b ∷ bytes) = word_by b bytes (is_blank b) refl (word_front bytes)

-- one step of a loop that folds the rest behind what it has written
pub blank_step : (all out rest out' back front run : List ℕ) (n : ℕ) → 1 ≤ length rest → is_blank (get_or rest 0 0) ≡ true → out ++ folded rest ≡ all → n ≡ prefix_len is_blank rest → front ≡ take n rest → back ≡ drop n rest → run ≡ folded_run front → out' ≡ out ++ run → out' ++ folded back ≡ all
blank_step all out rest out' back front run n l e h count is_front is_back is_run is_out =
    let step = blank_front all out rest l e h in
    rw (is_out, is_run, is_front, is_back, count) step

pub word_step : (all out rest out' back front : List ℕ) (n : ℕ) → out ++ folded rest ≡ all → n ≡ prefix_len is_unblank rest → front ≡ take n rest → back ≡ drop n rest → out' ≡ out ++ front → out' ++ folded back ≡ all
word_step all out rest out' back front n h count is_front is_back is_out =
    let step = append_assoc out _ _ ∙ (ap (λ t. out ++ t) (sym (word_front rest)) ∙ h) in
    rw (is_out, is_front, is_back, count) step

pub end_step : (all out rest : List ℕ) → length rest < 1 → out ++ folded rest ≡ all → out ≡ all
end_step all out [] l h = sym (append-nil out) ∙ (ap (λ t. out ++ t) (sym folded-nil) ∙ h)
end_step all out (b ∷ bytes) l h = absurd (omega arith)

pub newlines-append : (xs ys : List ℕ) → newlines (xs ++ ys) ≡ newlines xs + newlines ys
unfolding newlines
newlines-append xs ys = sum_by-append _ xs ys

run-unbroken : (run : List ℕ) → newlines run ≡ 0 → folded_run run ≡ run
unfolding folded_run
run-unbroken run h = let e : eqb (newlines run) 0 ≡ true = eq-eqb (newlines run) 0 h in rw e refl

behind_by : (run : List ℕ) (b : ℕ) (bytes : List ℕ) (v : Bool) → is_blank b ≡ v → newlines run ≡ 0 → folded_behind (run ++ b ∷ []) bytes ≡ (run ++ b ∷ []) ++ bytes → folded_behind [] bytes ≡ bytes → folded_behind run (b ∷ bytes) ≡ run ++ b ∷ bytes
behind_by run b bytes true e h longer fresh = rw e (longer ∙ append_assoc run (b ∷ []) bytes)
behind_by run b bytes false e h longer fresh = rw (e, run-unbroken run h, fresh) refl

pub newlines-nil : newlines [] ≡ 0
unfolding newlines
newlines-nil = refl

behind-unbroken : (bytes run : List ℕ) → newlines run ≡ 0 → newlines bytes ≡ 0 → folded_behind run bytes ≡ run ++ bytes
behind-unbroken [] run h none = run-unbroken run h ∙ sym (append-nil run)
behind-unbroken (b ∷ bytes) run h none =
    let parts : newlines (b ∷ bytes) ≡ newlines (b ∷ []) + newlines bytes = newlines-append (b ∷ []) bytes in
    let longer : newlines (run ++ b ∷ []) ≡ newlines run + newlines (b ∷ []) = newlines-append run (b ∷ []) in
    let rest : newlines bytes ≡ 0 = omega arith in
    behind_by run b bytes (is_blank b) refl h (behind-unbroken bytes (run ++ b ∷ []) (omega arith) rest) (behind-unbroken bytes [] newlines-nil rest)

-- a text without a line break stays
pub folded_unbroken : (bytes : List ℕ) → newlines bytes ≡ 0 → folded bytes ≡ bytes
folded_unbroken bytes h = behind-unbroken bytes [] newlines-nil h
