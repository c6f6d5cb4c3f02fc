-- What a script gives to play that has no rules, scenes or actions of its own.
use Rattle.std.specs.Prelude.{◌≡◌, []}
use Rattle.play_meaning.specs.PlainStories.{PlainStory}
use Rattle.play_meaning.specs.Scripts.{Script, telling_of}
use Rattle.play_meaning.specs.StandardActions.{needs_of}
use Rattle.play_meaning.specs.StandardRules.{standard_rules}

-- a script without rules, scenes or actions of its own
pub record IsPlain (script : Script) : Type 0 where
  pub rules : script.rules ≡ standard_rules
  pub scenes : script.scenes ≡ []
  pub needs : script.needs ≡ needs_of

-- the story that it tells
unfoldable pub story_of_script : Script → PlainStory
story_of_script script = record { setting = script.setting; start = script.start; describes = (telling_of script).describes; reads = script.reads }
