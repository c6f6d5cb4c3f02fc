use Rattle.std.proofs.Common.{◌≡◌, List, refl}
use Rattle.std.specs.Prelude.{option_map, reverse}
use Rattle.std.proofs.lemmas.List.{reverse-reverse}
use Rattle.std.proofs.lemmas.Result.{IfOk-weaker}
use Rattle.i7_sentences.specs.declared.rule.RulePhrase.{RulePhrase}
use Rattle.i7_phrases.specs.Around.{around_of, left, open_behind, passed}
use Rattle.i7_rules.specs.Knowns.{known_of}
use Rattle.i7_rules.specs.ReadSoFar.{IsReadOn, IsSoFar, state_of, with_found}
use Rattle.i7_rules.proofs.ReadOn.{reads_at}
use Rattle.i7_rules.proofs.body.read_on.Goals as goal

pub returns-in-Ok-clause-read : goal.returns-in-Ok-clause-read
returns-in-Ok-clause-read c =
    let k = known_of c.args.known.now in let p = c.args.phrase.now in let around = around_of c.args.around.now in
    let inside = left p.depth around in
    IfOk-weaker c.with_found.result (λ next. option_map state_of next ≡ with_found (state_of c.args.so_far) p c.in-Ok.found)
    (λ next. (before : List RulePhrase) → around ≡ open_behind before → IsSoFar k before (state_of c.args.so_far) → IsReadOn k before p (option_map state_of next))
    (λ next e. reads_at k p around inside (reverse inside.names) (state_of c.args.so_far) c.in-Ok.found (option_map state_of next)
    c.open_repeats_stand_around.ensures refl (reverse-reverse inside.names) c.in-Ok.ensures.read e) c.with_found.ensures

pub returns-in-Ok-clause-around : goal.returns-in-Ok-clause-around
returns-in-Ok-clause-around c =
    IfOk-weaker c.with_found.result (λ next. option_map state_of next ≡ with_found (state_of c.args.so_far) c.args.phrase.now c.in-Ok.found)
    (λ next. around_of c.found_next.new.around ≡ passed c.args.phrase.now (around_of c.args.around.now))
    (λ next e. c.in-Ok.ensures.around) c.with_found.ensures
