use Rattle.code_table.proofs.Said.{body_done}
use Rattle.code_table.proofs.laws.bodies_are_done.Goals as goal

pub returns : goal.returns
returns c = λ z codes string origins n body t inner now p fit are at strings. body_done string z codes origins n body t inner now p fit are at strings
