use Rattle.std.proofs.Common.{◌+◌, sym, subst, refl, length}
use Rattle.std.proofs.lemmas.Result.{IfErr-weaker, on_ok_weaker}
use Rattle.object_words.specs.Mentions.{number_in}
use Rattle.play_meaning.specs.Meant.{body_meant, condition_meant}
use Rattle.code_table.specs.Coding.{Adds, HasNoCode}
use Rattle.code_table.specs.Origins.{Asks, Does}
use Rattle.code_table.proofs.Stopped.{body_added, both_added, condition_stops, only_stops, second_stops}
use Rattle.code_table.proofs.coding.add_rule.Goals as goal
use Rattle.code_table.proofs.coding.add_rule.Goals.{in-Some+in-Ok, in_default}

pub returns-in-Err-clause-none : goal.returns-in-Err-clause-none
returns-in-Err-clause-none c =
    condition_stops c.args.counts.now (number_in c.args.strings.now) c.args.heads c.args.rule.now _ refl c.args.out.now.codes.items c.args.out.now.tests.items c.in-Some.condition c.in-Err.fault c.in-Some.is
    (c.in-Err.ensures.none (number_in c.args.strings.now))

pub returns-clause-coded : goal.returns-clause-coded
returns-clause-coded c =
    let z = c.args.counts.now in
    let string = number_in c.args.strings.now in
    let heads = c.args.heads in
    let rule = c.args.rule.now in
    let codes = c.args.out.now.codes.items in
    let tests = c.args.out.now.tests.items in
    let mid = c.match-rule.out in
    let new = c.add_body.new.out in
    elim c.match-rule.branch [
      | in-Some+in-Ok w ↦
          let asks = subst (λ o. Adds z string heads (Asks (condition_meant w.in-Some.condition)) codes tests o.codes.items o.tests.items) (sym w.out-is) (w.in-Ok.ensures.coded string) in
          on_ok_weaker c.add_body.result
          (both_added z string heads rule c.as_slice.result.now c.as_slice.ensures.value codes tests w.in-Some.condition mid.codes.items mid.tests.items new.codes.items new.tests.items w.in-Some.is asks) c.add_body.ensures.coded
      | in_default w ↦
          on_ok_weaker c.add_body.result (λ does.
          body_added z string heads rule c.as_slice.result.now c.as_slice.ensures.value codes tests new.codes.items new.tests.items w.in_default.is
          (subst (λ o. Adds z string heads (Does (body_meant c.as_slice.result.now)) o.codes.items o.tests.items new.codes.items new.tests.items) w.out-is does)) c.add_body.ensures.coded
    ]

pub returns-clause-none : goal.returns-clause-none
returns-clause-none c =
    let z = c.args.counts.now in
    let string = number_in c.args.strings.now in
    let heads = c.args.heads in
    let rule = c.args.rule.now in
    let codes = c.args.out.now.codes.items in
    let tests = c.args.out.now.tests.items in
    let mid = c.match-rule.out in
    elim c.match-rule.branch [
      | in-Some+in-Ok w ↦
          let asks = subst (λ o. Adds z string heads (Asks (condition_meant w.in-Some.condition)) codes tests o.codes.items o.tests.items) (sym w.out-is) (w.in-Ok.ensures.coded string) in
          IfErr-weaker c.add_body.result _ _ (λ fault. second_stops z string heads rule c.as_slice.result.now c.as_slice.ensures.value codes tests w.in-Some.condition mid.codes.items mid.tests.items fault w.in-Some.is asks) c.add_body.ensures.none
      | in_default w ↦
          IfErr-weaker c.add_body.result _ _ (λ fault none.
          only_stops z string heads rule c.as_slice.result.now c.as_slice.ensures.value codes tests fault w.in_default.is (subst (λ o. HasNoCode z string (heads + length o.tests.items) (Does (body_meant c.as_slice.result.now)) fault) w.out-is none)) c.add_body.ensures.none
    ]
