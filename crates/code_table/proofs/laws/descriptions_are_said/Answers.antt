use Rattle.code_table.proofs.Said.{text_said}
use Rattle.code_table.proofs.laws.descriptions_are_said.Goals as goal

pub returns : goal.returns
returns c = λ z codes string origins n text t now w fit are at strings. text_said string z codes origins n text t now w fit are at strings
