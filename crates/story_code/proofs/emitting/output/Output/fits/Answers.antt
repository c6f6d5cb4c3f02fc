use Rattle.std.proofs.Common.{sym, ap, ◌∙◌, is_some}
use Rattle.play_meaning.specs.Translation.{nothing}
use Rattle.story_code.specs.Emitting.{emitted}
use Rattle.story_code.proofs.Followed.{kept_is, kept_nothing}
use Rattle.story_code.proofs.emitting.output.Output.fits.Goals as goal

pub returns-clause-kept : goal.returns-clause-kept
returns-clause-kept c = kept_is _ _ ∙ ap (λ s. is_some s.kept) c.self.view_is

pub returns-clause-settled : goal.returns-clause-settled
returns-clause-settled c = sym c.self.view_is ∙ kept_nothing _ _ _ _ (λ t. (c.self.invariant t).1) ∙ ap (λ s. emitted s nothing) c.self.view_is
