use Rattle.std.proofs.Common.{◌∙◌, ◌-◌, ap, subst, arith}
use Rattle.std.specs.Prelude.{IfOk}
use Rattle.standard_rules.specs.Answers.{HasEffect}
use Rattle.standard_rules.specs.StoredRules.{number_of}
use Rattle.standard_rules.proofs.Numbered.{numbered_at}
use Rattle.standard_rules.proofs.hosts.HostTable.call.Goals as goal

pub returns-clause-effect : goal.returns-clause-effect
returns-clause-effect g c =
    let place = c.from.result - 1 in
    let is = numbered_at number_of 1 c.args.self.now.rules.items place c.index.result.now c.args.self.now.numbered (omega (arith, c.from.ensures, c.requires.low, c.requires.there)) in
    subst (λ id. IfOk c.call.result (λ answer. HasEffect id c.args.world.now c.args.now.now answer)) (ap number_of c.index.ensures ∙ is ∙ omega (arith, c.from.ensures, c.requires.low)) c.call.ensures.effect
