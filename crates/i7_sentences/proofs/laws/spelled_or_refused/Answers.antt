use Rattle.i7_sentences.proofs.Verdicts.{spelled_refused, verdict}
use Rattle.i7_sentences.proofs.laws.spelled_or_refused.Goals as goal

pub returns : goal.returns
returns c = record { one = verdict; never_both = spelled_refused }
