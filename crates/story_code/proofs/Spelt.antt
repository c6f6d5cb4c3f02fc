-- Codes spelled one behind the other.
use Rattle.std.proofs.Common.{◌≡◌, ℕ, suc, ◌-◌, ◌<◌, ◌≤◌, List, [], ◌∷◌, ◌++◌, length, take, drop, get_or, Bool, true, false, None, Some, refl, sym, ap, ◌∙◌, subst, arith, append_assoc, append-nil}
use Rattle.std.proofs.lemmas.List.{take_all}
use Rattle.play_meaning.specs.declared.instruction.Instruction.{Instruction}
use Rattle.play_meaning.specs.Translation.{Emitted, Part}
use Rattle.story_code.specs.Emits.{AreEmitted, AreSpelled}
use Rattle.story_code.specs.Emitting.{Emitting, can_say_all, emitted, followed, kept_if, nothing_from}
use Rattle.story_code.specs.Spelling.{Spells}

pub spelled_step : (all next : List (List ℕ)) (b : List ℕ) (rest codes : List (List Instruction)) (d : List Instruction) → 1 ≤ length rest → d ≡ get_or rest 0 d → next ≡ all ++ b ∷ [] → Spells b d
    → ((bytes : List (List ℕ)) → AreSpelled bytes rest → AreSpelled (all ++ bytes) codes)
    → (bytes : List (List ℕ)) → AreSpelled bytes (take (length rest - 1) (drop 1 rest)) → AreSpelled (next ++ bytes) codes
spelled_step all next b [] codes d l is added spells so_far bytes h = absurd (omega arith)
spelled_step all next b (code ∷ rest) codes d l is added spells so_far bytes h =
    let whole : take (suc (length rest) - 1) rest ≡ rest = take_all _ rest (omega arith) in
    let spelled : AreSpelled (b ∷ bytes) (code ∷ rest) = (subst (Spells b) is spells, subst (AreSpelled bytes) whole h) in
    subst (λ front. AreSpelled front codes) (sym (ap (λ n. n ++ bytes) added ∙ append_assoc all (b ∷ []) bytes)) (so_far (b ∷ bytes) spelled)

pub spelled_end : (all : List (List ℕ)) (rest codes : List (List Instruction)) → length rest < 1 → ((bytes : List (List ℕ)) → AreSpelled bytes rest → AreSpelled (all ++ bytes) codes) → AreSpelled all codes
spelled_end all [] codes l so_far = subst (λ front. AreSpelled front codes) (append-nil all) (so_far [] tt)
spelled_end all (code ∷ rest) codes l so_far = absurd (omega (arith, l))

-- ---- what is emitted behind nothing

behind_nothing : (first : ℕ) (part : Part) → followed first (record { code = []; tests = [] }) part ≡ part first 0
behind_nothing first part = ap (λ n. part n 0) (omega arith)

kept_behind : (first : ℕ) (part : Part) → (emitted (nothing_from first) part).kept ≡ kept_if (can_say_all (part first 0)) (part first 0)
unfolding emitted
kept_behind first part = ap (λ e. kept_if (can_say_all e) e) (behind_nothing first part)

none_if : (x : Bool) (e : Emitted) → kept_if x e ≡ None → x ≡ false
none_if true e h = let no : ⊥ = cc in absurd no
none_if false e h = refl

some_if_kept : (x : Bool) (e d : Emitted) → kept_if x e ≡ Some d → d ≡ e
some_if_kept true e d h = cc
some_if_kept false e d h = let no : ⊥ = cc in absurd no

pub unsaid : (first : ℕ) (part : Part) (s : Emitting) → s ≡ emitted (nothing_from first) part → s.kept ≡ None → can_say_all (part first 0) ≡ false
unsaid first part s is h = none_if _ (part first 0) (sym (kept_behind first part) ∙ ap (λ s. s.kept) (sym is) ∙ h)

pub said_whole : (first : ℕ) (part : Part) (s : Emitting) (e : Emitted) (bytes : List (List ℕ)) → s ≡ emitted (nothing_from first) part → s.kept ≡ Some e → can_say_all e ≡ true → AreSpelled bytes (e.code ∷ e.tests) → AreEmitted (part first 0) bytes
said_whole first part s e bytes is h said spelled =
    let same = some_if_kept _ (part first 0) e (sym (kept_behind first part) ∙ ap (λ s. s.kept) (sym is) ∙ h) in
    subst (λ d. AreEmitted d bytes) same (record { said = said; spelled = spelled })
