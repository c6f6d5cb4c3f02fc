use Rattle.std.proofs.Common.{ℕ, ◌+◌, ◌*◌, ◌≤◌, List, length, subst, sym}
use Rattle.i7_names.specs.SourceNames.{rulebooks_in}
use Rattle.story_file.proofs.Counted.{countable}
use Rattle.story_file.proofs.meaning.resolution_said.Goals as goal

pub resolution_of-requires : goal.resolution_of-requires
resolution_of-requires c =
    let sentences = c.args.claimed.now in
    let source = c.in_ok-names.ensures in
    record {
      countable =
          subst (λ (books : List (List ℕ)). 8 + 2 * c.in_ok-names.names.scenes + length books ≤ 65535) (sym source.rulebooks)
          (subst (λ (scenes : ℕ). 8 + 2 * scenes + length (rulebooks_in sentences) ≤ 65535) (sym source.scenes) (countable sentences c.args.tale.now c.requires.meant));
    }
