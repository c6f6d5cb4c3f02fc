use Rattle.i7_conditions.specs.Asking.{found_clause}
use Rattle.i7_conditions.specs.Scopes.{scope_of}
use Rattle.i7_conditions.proofs.Questions.{clauses_found}
use Rattle.i7_conditions.proofs.clause.clause_of.Goals as goal

pub returns : goal.returns
returns c = clauses_found (scope_of c.args.scope.now) c.args.words.now (found_clause c.in_ok-clause_said.field-0) c.in_ok-clause_said.ensures
