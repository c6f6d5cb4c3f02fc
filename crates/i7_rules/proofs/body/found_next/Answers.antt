use Rattle.std.proofs.Common.{List, sym, ap, ◌∙◌, subst}
use Rattle.std.specs.Prelude.{reverse}
use Rattle.std.proofs.lemmas.List.{reverse-reverse}
use Rattle.i7_conditions.specs.Readings.{IsFoundAs}
use Rattle.i7_conditions.specs.Words.{Word}
use Rattle.i7_phrases.specs.Around.{Open, around_of}
use Rattle.i7_rules.specs.Knowns.{known_of}
use Rattle.i7_rules.specs.Lines.{StatesAmong, found_stated, is_over_among}
use Rattle.i7_rules.proofs.ReadOn.{passed_again}
use Rattle.i7_rules.proofs.body.found_next.Goals as goal

pub returns-in-Ok-clause-read : goal.returns-in-Ok-clause-read
returns-in-Ok-clause-read c =
    let names = c.names.result.now in
    let are = sym (reverse-reverse names) ∙ ap reverse (c.names.ensures ∙ ap (λ (o : Open). o.names) c.leave.ensures) in
    subst (λ (ns : List Word). IsFoundAs (StatesAmong (known_of c.args.known.now) ns c.args.phrase.now) (is_over_among ns c.args.phrase.now) (found_stated c.in_ok-found.found)) are c.in_ok-found.ensures

pub returns-in-Ok-clause-around : goal.returns-in-Ok-clause-around
returns-in-Ok-clause-around c = c.in-Ok.ensures ∙ passed_again c.args.phrase.now (around_of c.args.around.now) (around_of c.leave.new.self) c.leave.ensures
