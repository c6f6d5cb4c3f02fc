-- How many there are of what codes and rules name.
use Rattle.std.specs.Prelude.{ℕ, zero, suc, List, [], ◌∷◌, length, map, min}
use Rattle.play_meaning.specs.declared.operand.Counts.{Counts}
use Rattle.story_format.specs.declared.tables.Tables.{Tables}
use Rattle.story_format.specs.declared.value_tables.ValueEntry.{ValueEntry}

-- as a number of two bytes
abbrev pub small : ℕ → ℕ
small count = min count 65535

-- so many numbers: these, and 0 behind them
unfoldable pub padded : ℕ → List ℕ → List ℕ
padded zero ns = []
padded (suc count) [] = 0 ∷ padded count []
padded (suc count) (n ∷ ns) = n ∷ padded count ns

-- as a number of one byte
abbrev pub name_count : ValueEntry → ℕ
name_count v = min (length v.names) 255

-- of a hundred kinds of value how many values each has; none where there is no such kind
unfoldable pub value_counts : List ValueEntry → List ℕ
value_counts values = padded 100 (map name_count values)

-- how many there are of what codes name
unfoldable pub counts_of : Tables → Counts
counts_of t = record {
  objects = small (length t.objects);
  kinds = small (length t.world.kinds);
  flags = small (length t.world.flags);
  numbers = small (length t.world.numbers);
  variables = small (length t.world.variables);
  scenes = small (length t.rules.scenes);
  strings = small (length t.strings);
  codes = small (length t.codes);
  actions = small (length t.rules.actions);
  books = small (length t.rules.books);
  values = value_counts t.values.kinds;
  own = 0;
}
