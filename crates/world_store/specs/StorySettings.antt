-- What of a loaded story never changes while it is played, read from its tables.
use Rattle.std.specs.Prelude.{length, is_some}
use Rattle.play_meaning.specs.Grounds.{Fixed}
use Rattle.play_meaning.specs.Settings.{Setting}
use Rattle.play_meaning.specs.Tales.{depth_of}
use Rattle.story_format.specs.Facts.{description_code_of, name_of, way_of}
use Rattle.story_format.specs.InPlay.{article_of, door_in, exits_of, has_flag, has_number, has_value, is_of, value_names}
use Rattle.story_format.specs.declared.tables.Tables.{Tables}

unfoldable pub setting_of : Tables → Setting
setting_of t = record {
  count = length t.objects;
  name = name_of t;
  article = article_of t;
  is_of = is_of t;
  depth = depth_of t.world.kinds;
  has_flag = has_flag t;
  has_number = has_number t;
  has_value = has_value t;
  value_names = value_names t;
  room_beyond = way_of t;
  door_beyond = λ room direction. door_in (exits_of t room) direction;
  has_description = λ o. is_some (description_code_of t o);
}

-- with its strings, and the codes of descriptions
abbrev pub fixed_of : Tables → Fixed
fixed_of t = record { setting = setting_of t; strings = t.strings; descriptions = description_code_of t }
