-- The world with which a loaded story begins, read from its tables.
use Rattle.std.specs.Prelude.{length, map, None, replicate}
use Rattle.std.specs.List.{range_with_len}
use Rattle.play_meaning.specs.Worlds.{World, not_begun}
use Rattle.story_format.specs.InPlay.{start_flags, start_numbers, start_values, start_variables}
use Rattle.story_format.specs.Placed.{places_in}
use Rattle.story_format.specs.declared.tables.Tables.{Tables}

unfoldable pub start_world : Tables → World
start_world t = record {
  places = places_in t.objects;
  flags = map (start_flags t) (range_with_len 0 (length t.world.flags));
  numbers = map (start_numbers t) (range_with_len 0 (length t.world.numbers));
  values = map (start_values t) (range_with_len 0 (length t.values.kinds));
  variables = start_variables t;
  scenes = replicate (length t.rules.scenes) not_begun;
  turns = 1;
  ended = None;
}
