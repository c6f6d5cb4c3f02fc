use Rattle.std.proofs.lemmas.Result.{IfOk-weaker}
use Rattle.i7_patterns.specs.Asked.{IsAsked as IsFound}
use Rattle.i7_rules.specs.Heads.{IsBook, IsHead, asked_head, head_is_over, head_is_right}
use Rattle.i7_rules.specs.Knowns.{known_of}
use Rattle.i7_rules.proofs.Headed.{book_known, book_unknown}
use Rattle.i7_rules.proofs.head.head_of.Goals as goal

pub returns-in-None : goal.returns-in-None
returns-in-None c = book_unknown (known_of c.args.known.now) c.args.rule.now c.in_ok-book_of_head.field-0 c.in-None.is c.in_ok-book_of_head.ensures

pub returns-in-Some : goal.returns-in-Some
returns-in-Some c =
    let k = known_of c.args.known.now in
    let rule = c.args.rule.now in
    IfOk-weaker c.headed_by.result (λ found. IsBook k rule.book c.in-Some.book → IsFound (IsHead k rule) (head_is_right k) head_is_over (asked_head found))
    (λ found. IsFound (IsHead k rule) (head_is_right k) head_is_over (asked_head found)) (λ found h. h (book_known k rule c.in_ok-book_of_head.field-0 c.in-Some.book c.in-Some.is c.in_ok-book_of_head.ensures))
    c.headed_by.ensures
