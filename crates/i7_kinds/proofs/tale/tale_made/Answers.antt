use Rattle.std.proofs.Common.{sym, subst, length, ◌≤◌, List, ℕ}
use Rattle.i7_kinds.specs.KindClaims.{AreSmallKinds, parents_of}
use Rattle.i7_kinds.proofs.tale.tale_made.Goals as goal

pub declared_by-requires-clause-few : goal.declared_by-requires-clause-few
declared_by-requires-clause-few c = subst (λ (names : List (List ℕ)). AreSmallKinds (parents_of names c.args.claims.now)) (sym c.kinds.ensures) c.requires.ready.few_declared

pub declared_by-requires-clause-short : goal.declared_by-requires-clause-short
declared_by-requires-clause-short c = subst (λ (names : List (List ℕ)). length (parents_of names c.args.claims.now) ≤ 100) (sym c.kinds.ensures) c.requires.ready.short
