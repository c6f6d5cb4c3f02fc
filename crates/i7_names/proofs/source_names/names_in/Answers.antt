-- What is ensured of the claims and of the objects' names is ensured of those that the sentences have.
use Rattle.std.proofs.Common.{◌∙◌, ap, ℕ, List}
use Rattle.i7_claims.specs.Statements.{Named, named_by}
use Rattle.i7_names.specs.SourceNames.{known_by, rulebooks_by, scenes_by}
use Rattle.i7_names.proofs.source_names.names_in.Goals as goal

pub returns : goal.returns
returns c =
    let claimed = c.claims-claims.ensures in
    record {
      names =
          c.in_ok-names.ensures
          ∙ ap (λ (objects : List (List ℕ)). known_by objects c.claims-claims.result.now) (c.keys.ensures ∙ ap (λ (n : Named). n.keys) c.names.ensures)
          ∙ ap (known_by (named_by c.args.claimed.now).keys) claimed;
      rulebooks = c.in_ok-rulebooks.ensures ∙ ap rulebooks_by claimed;
      scenes = c.in_ok-scenes.ensures ∙ ap scenes_by claimed;
    }
