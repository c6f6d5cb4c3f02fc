-- What was written where a run broke off: all but the last line's answer.
use Rattle.std.proofs.Common.{◌≡◌, ◌≢◌, ℕ, ◌≤◌, Bool, true, false, List, [], ◌∷◌, ◌++◌, length, refl, ap, sym, ◌∙◌, subst, arith, append_assoc}
use Rattle.std.specs.Prelude.{◌==◌, Option}
use Rattle.std.specs.Str.Lines.{lines}
use Rattle.std.proofs.lemmas.List.{append-nil}
use Rattle.std.proofs.lemmas.Bool.{eqb-true}
use Rattle.play_meaning.specs.Games.{Game}
use Rattle.play_meaning.specs.Sessions.{State}
use Rattle.play_meaning.specs.Transcripts.{behind_lines, exchanges, told}
use Rattle.world_meaning.specs.Texts.{prompt}
use Rattle.story_player.specs.Runs.{IsFront, IsTimely, asked, has_break}
use Rattle.story_player.specs.declared.fault.RunFault.{RunFault}
use Rattle.story_player.specs.declared.fault.RunFault.TheVariants.{Read, Write, InputTooLong}
use Rattle.story_player.proofs.Fronts.{front-behind, front_first, front_nothing}
use Rattle.story_player.proofs.LineLemmas.{break-append, lines-last, lines-line}
use Rattle.story_player.proofs.Transcripts.{exchanges-append, told-append}

-- ---- at most one line

pub lines-few : (line : List ℕ) → has_break line ≡ false → length (lines line) ≤ 1
lines-few [] unbroken = omega arith
lines-few (b ∷ bs) unbroken = omega (arith, ap length (lines-last (b ∷ bs) unbroken (omega arith)))

pub lines-past : (typed past : List ℕ) → has_break typed ≡ false → length past ≤ 1 → length (lines (typed ++ past)) ≤ 1
lines-past typed [] unbroken few = subst (λ bytes. length (lines bytes) ≤ 1) (sym (append-nil typed)) (lines-few typed unbroken)
lines-past typed (p ∷ q ∷ more) unbroken few = absurd (omega (arith, few))
lines-past typed (p ∷ []) unbroken few =
    let Goal : Bool → Type 0 = λ v. (p == 10) ≡ v → length (lines (typed ++ p ∷ [])) ≤ 1 in
    elim (p == 10) as Goal [
      | true ↦ λ broken. subst (λ b. length (lines (typed ++ b ∷ [])) ≤ 1) (sym (eqb-true p 10 broken)) (omega (arith, ap length (lines-line typed [] unbroken)))
      | false ↦ λ whole. lines-few (typed ++ p ∷ []) (break-append typed (p ∷ []) unbroken (rw whole refl))
    ] refl

pub few_past : (fault : RunFault) (past : List ℕ) (X : Type 0) → (fault ≢ InputTooLong → past ≡ []) → (fault ≡ InputTooLong → (length past ≡ 1) × X) → length past ≤ 1
few_past Read past X within full = omega (arith, ap length (within (λ same. absurd cc)))
few_past Write past X within full = omega (arith, ap length (within (λ same. absurd cc)))
few_past InputTooLong past X within full = omega (arith, (full refl).0)

-- ---- what was written

-- nothing was read
pub nothing_read : (g : Game) (echo : Bool) (opening : List ℕ) (refusals : List (Option ℕ)) (from : State) (written : List ℕ) → IsTimely g echo opening refusals from [] written
nothing_read g echo opening refusals from written = record { first = []; last = []; parts = refl; one = omega arith; told_first = λ some. absurd (omega (arith, some)) }

asked_first : (line : List (List ℕ)) (written : List ℕ) → IsFront (asked line) (prompt ++ written)
asked_first [] written = front_nothing (prompt ++ written)
asked_first (line ∷ more) written = front_first prompt written

-- one line at most was read, behind a prompt
pub one_read : (g : Game) (echo : Bool) (refusals : List (Option ℕ)) (from : State) (read written : List ℕ) → length (lines read) ≤ 1 → IsTimely g echo [] refusals from read (prompt ++ written)
one_read g echo refusals from read written few = record { first = []; last = lines read; parts = refl; one = few; told_first = λ some. asked_first (lines read) written }

-- behind lines that were answered
pub timely_behind : (g : Game) (echo : Bool) (opening : List ℕ) (refusals more : List (Option ℕ)) (from state : State) (answered : List (List ℕ)) (read behind written : List ℕ)
    → length refusals ≡ length answered → state ≡ behind_lines g refusals from answered → lines (read ++ behind) ≡ answered ++ lines behind
    → IsTimely g echo [] more state behind written
    → IsTimely g echo opening (refusals ++ more) from (read ++ behind) ((opening ++ told echo (exchanges g refusals from answered)) ++ written)
timely_behind g echo opening refusals more from state answered read behind written same state_is all rest =
    let xs = exchanges g refusals from answered in
    let ys = exchanges g more state rest.first in
    let front = told echo xs in
    let grown : told echo (exchanges g (refusals ++ more) from (answered ++ rest.first)) ≡ front ++ told echo ys =
    ap (λ them. told echo them) (exchanges-append g refusals more from answered rest.first same ∙ ap (λ s. xs ++ exchanges g more s rest.first) (sym state_is))
    ∙ told-append echo xs ys in
    record {
      first = answered ++ rest.first;
      last = rest.last;
      parts = all ∙ ap (λ ls. answered ++ ls) rest.parts ∙ sym (append_assoc answered rest.first rest.last);
      one = rest.one;
      told_first = λ some. subst (λ bs. IsFront bs ((opening ++ front) ++ written))
          (append_assoc opening front (told echo ys ++ asked rest.last) ∙ ap (λ bs. opening ++ bs) (sym (append_assoc front (told echo ys) (asked rest.last))) ∙ ap (λ bs. opening ++ (bs ++ asked rest.last)) (sym grown))
          (front-behind (opening ++ front) (told echo ys ++ asked rest.last) written (told_of behind rest));
    }
  where
    none_told : (first last : List (List ℕ)) → [] ≡ first ++ last → IsFront (told echo (exchanges g more state first) ++ asked last) written
    none_told [] [] none = front_nothing written
    none_told [] (line ∷ lines) none = absurd cc
    none_told (line ∷ lines) last none = absurd cc

    told_of : (bytes : List ℕ) (rest : IsTimely g echo [] more state bytes written) → IsFront (told echo (exchanges g more state rest.first) ++ asked rest.last) written
    told_of [] rest = none_told rest.first rest.last rest.parts
    told_of (b ∷ bs) rest = rest.told_first (omega arith)
