use Rattle.std.proofs.Common.{◌≡◌, ℕ, subst, sym}
use Rattle.std.specs.Prelude.{Some}
use Rattle.story_code.specs.Runs.{AreSoundTogether, IsBody, IsDescription, IsTestAt}
use Rattle.story_format.specs.Facts.{body_of_rule, condition_of_rule, description_code_of}
use Rattle.story_format.specs.declared.tables.Tables.{Tables}
use Rattle.story_format.proofs.LoadedCodes.{loaded_described, loaded_sound}
use Rattle.story_format.proofs.LoadedRules.{loaded_asked, loaded_done}
use Rattle.story_format.proofs.story.Story.codes.Goals as goal

pub returns-clause-sound : goal.returns-clause-sound
returns-clause-sound c = subst (λ judged. AreSoundTogether judged) (sym c.as_slice.ensures.value) (loaded_sound _ _ c.self.invariant.codes)

pub returns-clause-described : goal.returns-clause-described
returns-clause-described c =
    subst (λ judged. (o n : ℕ) → description_code_of c.args.self.now o ≡ Some n → IsDescription judged n) (sym c.as_slice.ensures.value)
    (subst (λ (t : Tables). (o n : ℕ) → description_code_of t o ≡ Some n → IsDescription c.self.inside.codes.items n) c.self.view_is (loaded_described _ _ c.self.invariant))

pub returns-clause-asked : goal.returns-clause-asked
returns-clause-asked c =
    subst (λ judged. (r n : ℕ) → condition_of_rule c.args.self.now r ≡ Some n → IsTestAt judged n 0) (sym c.as_slice.ensures.value)
    (subst (λ (t : Tables). (r n : ℕ) → condition_of_rule t r ≡ Some n → IsTestAt c.self.inside.codes.items n 0) c.self.view_is (loaded_asked _ _ c.self.invariant))

pub returns-clause-done : goal.returns-clause-done
returns-clause-done c =
    subst (λ judged. (r n : ℕ) → body_of_rule c.args.self.now r ≡ Some n → IsBody judged n) (sym c.as_slice.ensures.value)
    (subst (λ (t : Tables). (r n : ℕ) → body_of_rule t r ≡ Some n → IsBody c.self.inside.codes.items n) c.self.view_is (loaded_done _ _ c.self.invariant))
