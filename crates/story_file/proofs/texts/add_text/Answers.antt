use Rattle.std.proofs.Common.{List, ℕ, subst, sym}
use Rattle.std.specs.Prelude.{Option}
use Rattle.i7_resolution.specs.Resolutions.{scope_in}
use Rattle.story_file.specs.Texts.{AddsText}
use Rattle.story_file.proofs.Gathered.{found_says}
use Rattle.story_file.proofs.texts.add_text.Goals as goal

pub returns : goal.returns
returns c =
    let s = scope_in c.args.names.now in
    subst (λ (description : Option (List ℕ)). AddsText s description c.args.texts.now.items c.push.new.self.items) (sym c.in-Some.is)
    (c.in-Read.text, (c.in_ok-push-in-Read.ensures.items, found_says s c.in-Some.bytes c.as_slice.result.now c.in_ok-text.field-0 c.in-Read.text c.as_slice.ensures c.in_ok-text.ensures c.in-Read.is))
