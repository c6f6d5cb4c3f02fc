use Rattle.i7_phrases.specs.ChangeForms.{found_simple}
use Rattle.i7_rules.specs.Knowns.{known_of}
use Rattle.i7_rules.proofs.Told.{follow_told}
use Rattle.i7_rules.proofs.doing.follow_of.Goals as goal

pub returns : goal.returns
returns c = follow_told (known_of c.args.known.now) c.args.words.now c.in_ok-book.book (found_simple c.following.result) c.following.ensures c.in_ok-book.ensures
