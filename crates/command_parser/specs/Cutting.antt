-- A line is cut into commands from left to right.
use Rattle.std.specs.Prelude.{ℕ, suc, length, Bool, false, ◌||◌, List, [], ◌∷◌, ◌++◌, filter, flat_map, if◌then◌else◌}
use Rattle.std.specs.List.{slice_split, position_or_len}
use Rattle.world_meaning.specs.Reading.{is_blank}
use Rattle.play_meaning.specs.CommandLines.{Parts as Told, Blank as BlankSo, Overlong as OverlongSo, Commands as CommandsSo, has_words, is_full_stop, is_then, parted_at_then}
use Rattle.command_parser.specs.declared.cutting.Parts.{Parts}
use Rattle.command_parser.specs.declared.cutting.Parts.TheVariants as parts

abbrev pub told_parts : Parts → Told
told_parts parts.Blank = BlankSo
told_parts parts.Overlong = OverlongSo
told_parts (parts.Commands command commands) = CommandsSo command commands

abbrev pub command_count : Parts → ℕ
command_count parts.Blank = 0
command_count parts.Overlong = 0
command_count (parts.Commands command commands) = suc (length commands)

-- a word goes no further than this byte
abbrev pub ends_word : ℕ → Bool
ends_word b = is_blank b || is_full_stop b

-- the bytes in front of the first full stop
abbrev pub first_piece : List ℕ → List ℕ
first_piece [] = []
first_piece (b ∷ bytes) = if is_full_stop b then [] else b ∷ first_piece bytes

-- the pieces behind it
abbrev pub other_pieces : List ℕ → List (List ℕ)
other_pieces [] = []
other_pieces (b ∷ bytes) = if is_full_stop b then slice_split is_full_stop bytes else other_pieces bytes

-- the words of the command so far, in front of those of the first command
abbrev pub onto_words : List (List ℕ) → List (List (List ℕ)) → List (List (List ℕ))
onto_words words [] = words ∷ []
onto_words words (command ∷ commands) = (words ++ command) ∷ commands

-- the commands of the words of the command so far and the bytes that are left
unfoldable pub commands_from : List (List ℕ) → List ℕ → List (List (List ℕ))
commands_from words bytes = filter has_words (onto_words words (parted_at_then (first_piece bytes)) ++ flat_map parted_at_then (other_pieces bytes))

-- the words of the command so far are a command, if there are any
abbrev pub ended : List (List ℕ) → List (List (List ℕ)) → List (List (List ℕ))
ended [] commands = commands
ended (word ∷ words) commands = (word ∷ words) ∷ commands

-- how many bytes the full stop or the word in front has
abbrev pub mark_len : List ℕ → ℕ
mark_len [] = 0
mark_len (b ∷ bytes) = if is_full_stop b then 1 else position_or_len ends_word (b ∷ bytes)

-- a full stop or the word `then` cuts
abbrev pub is_cut : List ℕ → Bool
is_cut [] = false
is_cut (b ∷ bytes) = is_full_stop b || is_then (b ∷ bytes)
