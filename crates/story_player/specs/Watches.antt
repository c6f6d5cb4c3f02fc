-- What contracts see of a watched reader or writer.
use Rattle.std.specs.Prelude.{ℕ, Bool, true, ◌&&◌, ◌==◌, nat_lt, List, length, Result, Ok, Err}
use Rattle.story_player.specs.declared.watched.Watched.{Watched}

abbrev pub watched_inner : {T : Type 0} → Watched T → T
watched_inner w = w.inner

abbrev pub watched_failed : {T : Type 0} → Watched T → Bool
watched_failed w = w.failed

-- whether a write of these bytes failed, or took none of them
abbrev pub fails_to_write : {E : Type 0} → Result ℕ E → List ℕ → Bool
fails_to_write (Ok n) bytes = (n == 0) && nat_lt 0 (length bytes)
fails_to_write (Err e) bytes = true
