-- The code of a description, run whole, says its text.
use Rattle.std.proofs.Common.{◌≡◌, ◌∙◌, ap, sym, subst, ℕ, suc, ◌+◌, ◌≤◌, Bool, true, List, [], length, Ok, ◌⊎◌, inl, inr, arith}
use Rattle.std.specs.Prelude.{map}
use Rattle.play_meaning.specs.Codes.{description_said, no_inner, text_said}
use Rattle.play_meaning.specs.Grounds.{Fixed}
use Rattle.play_meaning.specs.Instructions.{sizes}
use Rattle.play_meaning.specs.Machines.{Abandons, Answers, Leaves, Step, run}
use Rattle.play_meaning.specs.Progress.{fresh}
use Rattle.play_meaning.specs.Scripts.{undescribed}
use Rattle.play_meaning.specs.SoundCodes.{IsSound, loops_around}
use Rattle.play_meaning.specs.SoundRuns.{IsAbandoned}
use Rattle.play_meaning.specs.Stands.{is_body}
use Rattle.play_meaning.specs.Worlds.{World}
use Rattle.play_meaning.specs.declared.action.ActionNow.{ActionNow}
use Rattle.play_meaning.specs.declared.operand.Use.TheVariants.{Describing}
use Rattle.play_meaning.specs.declared.outcome.Flow.{Flow}
use Rattle.play_meaning.specs.declared.outcome.Flow.TheVariants.{GoesOn}
use Rattle.play_meaning.specs.Progress.{Progress}
use Rattle.play_meaning.proofs.Unstuck.{sound_descriptions_end}
use Rattle.story_code.specs.Runs.{AreSoundTogether, IsDescription, MayRead, Standing, code_at, code_told, codes_of, frame_in}
use Rattle.story_code.specs.Soundness.{Judged}
use Rattle.story_code.specs.Testing.{EndsSo, begun}
use Rattle.story_code.proofs.Answered.{begins_outside}
use Rattle.story_code.proofs.Carried.{many}
use Rattle.story_code.proofs.Fetched.{told}
use Rattle.story_code.proofs.Served.{told_at}

pub reads_description : (judged : List Judged) (n : ℕ) → AreSoundTogether judged → IsDescription judged n → MayRead judged (begun n [])
reads_description judged n together is = begins_outside judged n 0 is.0 together is.1.0 (ap is_body is.1.1) (ap loops_around is.1.1)

module _ (fixed : Fixed) (judged : List Judged) (now : ActionNow) (w : World) (n : ℕ) where
  abbrev Ends : Step → Type 0
  Ends st = EndsSo fixed judged now w (begun n []) [] st

  deep : length judged ≤ n + suc (length (map code_told judged))
  deep = omega (arith, many judged)

  ends_at : (st : Step) → Ends st → run (frame_in fixed judged now (length (map code_told judged)) (λ o at v. Ok []) no_inner) (code_at judged n) (sizes (code_at judged n)) (record { place = 0; operands = []; loops = []; progress = fresh w }) ≡ st
  ends_at st ends = ends (length (map code_told judged)) (λ o at v. Ok []) deep (sizes (code_at judged n)) (omega arith)

  pub says_so : (st : Step) → Ends st → description_said (codes_of fixed judged) (undescribed fixed.setting) n now w ≡ text_said st
  unfolding description_said
  says_so st ends = ap text_said (ends_at st ends)

  sound_code : AreSoundTogether judged → (is : IsDescription judged n) → IsSound is.0.sizes.counts Describing (code_at judged n)
  sound_code together is =
      let kept = (together n is.0 is.1.0).sound in
      let whole : IsSound is.0.sizes.counts is.0.sizes.role (code_told is.0) = subst (λ code. IsSound is.0.sizes.counts is.0.sizes.role code) (sym (told is.0 kept)) kept.sound in
      subst (λ code. IsSound is.0.sizes.counts Describing code) (sym (told_at judged n is.0 is.1.0)) (subst (λ role. IsSound is.0.sizes.counts role (code_told is.0)) is.1.1 whole)

  -- a description doesn't answer
  pub never_answers : AreSoundTogether judged → IsDescription judged n → (truth : Bool) → Ends (Answers truth) → ⊥
  never_answers together is truth ends =
      by (sound_descriptions_end is.0.sizes.counts (code_at judged n) (sound_code together is) (frame_in fixed judged now (length (map code_told judged)) (λ o at v. Ok []) no_inner) [] (fresh w))
    where
      by : ((flow : Flow) × ((q : Progress) × (run (frame_in fixed judged now (length (map code_told judged)) (λ o at v. Ok []) no_inner) (code_at judged n) (sizes (code_at judged n))
          (record { place = 0; operands = []; loops = []; progress = fresh w }) ≡ Leaves flow q)))
          ⊎ IsAbandoned (run (frame_in fixed judged now (length (map code_told judged)) (λ o at v. Ok []) no_inner) (code_at judged n) (sizes (code_at judged n))
          (record { place = 0; operands = []; loops = []; progress = fresh w })) → ⊥
      by (inl leaves) = let both : Answers truth ≡ Leaves leaves.0 leaves.1.0 = sym (ends_at (Answers truth) ends) ∙ leaves.1.1 in absurd cc
      by (inr abandons) = let both : Answers truth ≡ Abandons abandons.0 = sym (ends_at (Answers truth) ends) ∙ abandons.1 in absurd cc

  moved : (s : Standing) → s ≡ begun n [] → (from : List ℕ) → from ≡ [] → (st : Step) → EndsSo fixed judged now w s from st → Ends st
  moved s there from none st ends = subst (λ text. EndsSo fixed judged now w (begun n []) text st) none (subst (λ (x : Standing). EndsSo fixed judged now w x from st) there ends)

  -- what a run from the beginning, behind no text, comes to
  pub said_as : AreSoundTogether judged → IsDescription judged n → (s : Standing) → s ≡ begun n [] → (from : List ℕ) → from ≡ [] → (truth : Bool) (said : List ℕ) (work : ℕ)
      → (EndsSo fixed judged now w s from (Answers truth) ⊎ ((truth ≡ true) × EndsSo fixed judged now w s from (Leaves GoesOn (record { world = w; text = said; work = work }))))
      → description_said (codes_of fixed judged) (undescribed fixed.setting) n now w ≡ Ok said
  said_as together is s there from none truth said work (inl answers) = absurd (never_answers together is truth (moved s there from none (Answers truth) answers))
  said_as together is s there from none truth said work (inr leaves) =
      let end = Leaves GoesOn (record { world = w; text = said; work = work }) in
      says_so end (moved s there from none end leaves.1)
