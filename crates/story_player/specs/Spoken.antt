-- What is said to a line, and what became of it.
use Rattle.std.specs.Prelude.{ℕ, List}
use Rattle.world_meaning.specs.declared.session.ReplyKind.{ReplyKind}

pub record Spoken : Type 0 where
  pub text : List ℕ
  pub kind : ReplyKind
