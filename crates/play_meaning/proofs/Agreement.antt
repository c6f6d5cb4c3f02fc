-- Games that agree are one game.
use Rattle.std.proofs.Common.{◌≡◌}
use Rattle.play_meaning.specs.Agreement.{Agree, SettingsAgree}
use Rattle.play_meaning.specs.Games.{Game}
use Rattle.play_meaning.specs.Settings.{Setting}

pub one_setting : (a b : Setting) → SettingsAgree a b → a ≡ b
one_setting a b s = λ i. record {
  count = s.count i;
  name = λ o. s.name o i;
  article = λ o. s.article o i;
  is_of = λ o kind. s.is_of o kind i;
  depth = λ kind. s.depth kind i;
  has_flag = λ o property. s.has_flag o property i;
  has_number = λ o property. s.has_number o property i;
  has_value = λ o q. s.has_value o q i;
  value_names = λ q. s.value_names q i;
  room_beyond = λ room direction. s.room_beyond room direction i;
  door_beyond = λ room direction. s.door_beyond room direction i;
  has_description = λ o. s.has_description o i;
}

pub one_game : (g h : Game) → Agree g h → g ≡ h
one_game g h a = λ i. record {
  start = a.start i;
  telling = record { setting = one_setting g.telling.setting h.telling.setting a.setting i; describes = λ o now w. a.describes o now w i };
  books = λ book. a.books book i;
  needs = λ action. a.needs action i;
  is_about = λ rule now w. a.is_about rule now w i;
  holds = λ rule now w. a.holds rule now w i;
  body = λ rule inner now p. a.body rule inner now p i;
  scenes = a.scenes i;
  begins = λ scene w. a.begins scene w i;
  ends = λ scene w. a.ends scene w i;
  reads = λ question sees words. a.reads question sees words i;
}
