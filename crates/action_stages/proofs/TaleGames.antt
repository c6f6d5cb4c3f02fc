-- The game that a tale's tables give, whole, is played as the tale's own.
use Rattle.std.proofs.Common.{◌≡◌, ◌∙◌, ap, refl, sym, subst, ℕ, ◌≤◌, List, ◌++◌}
use Rattle.std.specs.Prelude.{slice_get}
use Rattle.play_meaning.specs.Acting.{inner_of}
use Rattle.play_meaning.specs.CodedStories.{game_of_codes, telling_by_codes}
use Rattle.play_meaning.specs.Doing.{Inner}
use Rattle.play_meaning.specs.Games.{Game}
use Rattle.play_meaning.specs.PlainStories.{PlainStory}
use Rattle.play_meaning.specs.PlainTales.{story_of_script}
use Rattle.play_meaning.specs.Progress.{Progress, most_work}
use Rattle.play_meaning.specs.Scripts.{begins_in, condition_holds, ends_in, game_of, rule_body, rule_condition, rule_is_about, telling_of}
use Rattle.play_meaning.specs.StandardActions.{standard_needs}
use Rattle.play_meaning.specs.Tales.{setting_of as told_setting}
use Rattle.play_meaning.specs.Turns.{no_action}
use Rattle.play_meaning.specs.Worlds.{World}
use Rattle.play_meaning.specs.declared.action.ActionNow.{ActionNow}
use Rattle.story_code.specs.Soundness.{Judged}
use Rattle.action_stages.proofs.Asked.{books_listed}
use Rattle.story_format.proofs.Carried.{tale_carried}
use Rattle.story_format.proofs.Stories.{tale_is_story}
use Rattle.story_format.specs.Carrying.{Carries}
use Rattle.story_format.specs.Codes.{codes_told}
use Rattle.story_format.specs.Contents.{Contents}
use Rattle.story_format.specs.Holding.{AreHeld, IsHeld}
use Rattle.story_format.specs.Loaded.{IsLoaded}
use Rattle.story_format.specs.Making.{story_rules, tables_of, tables_with}
use Rattle.story_format.specs.RuleMaking.{rules_of}
use Rattle.story_format.specs.Spells.{IsStory}
use Rattle.story_format.specs.declared.tables.Tables.{Tables}
use Rattle.world_meaning.specs.declared.tale.Tale.{Tale}
use Rattle.world_store.proofs.TaleGames.{tables_game}
use Rattle.world_store.specs.StoryGames.{plain_story}
use Rattle.world_store.specs.StorySettings.{setting_of}
use Rattle.action_stages.specs.Alike.{ArePlayedAlike}
use Rattle.action_stages.proofs.Lowering.{inner_lowers, stories_lower}
use Rattle.action_stages.specs.Measures.{LowersNoWork}
use Rattle.world_store.specs.StoryPlay.{coded_story, game_in_play}
use Rattle.story_format.specs.TaleScripts.{whole_script}
use Rattle.action_stages.proofs.OtherBodies.{bodies_acted, bodies_consulted, doing}
use Rattle.action_stages.proofs.TaleBodies.{bodies_at, sound_bodies}
use Rattle.action_stages.proofs.TaleRules.{about_at, begins_at, conditions_at, ends_at, needs_at, scenes_recur}

module _ (t : Tale) (c : Contents) (held : IsHeld t) (said : AreHeld t c) where
  abbrev tables : Tables
  tables = tables_of t c

  abbrev told : Game
  told = game_in_play tables

  abbrev meant : Game
  meant = game_of (whole_script t c)

  story : IsStory tables
  story = tale_is_story t c held said

  abbrev judged : List Judged
  judged = story.sound.judged

  loaded : IsLoaded tables judged
  loaded = record { story = story; codes = story.sound.table }

  carries : Carries tables t c
  carries = tale_carried t c held said

  plain : plain_story tables ≡ story_of_script (whole_script t c)
  plain = tables_game t c held said

  -- ---- piece by piece

  settings : setting_of tables ≡ told_setting t
  unfolding plain_story story_of_script whole_script
  settings = ap (λ (k : PlainStory). k.setting) plain

  tellings : telling_by_codes (coded_story tables) ≡ telling_of (whole_script t c)
  unfolding plain_story story_of_script coded_story whole_script
  tellings = λ i. record { setting = (plain i).setting; describes = (plain i).describes }

  about : (rule : ℕ) (now : ActionNow) (w : World) → told.is_about rule now w ≡ meant.is_about rule now w
  unfolding game_of_codes coded_story game_of whole_script
  about rule now w =
      about_at (codes_told tables) (setting_of tables) now w tables.rules.rules (story_rules c.listings c.rules) rule carries.rules_are
      ∙ ap (λ s. rule_is_about s now w (slice_get (story_rules c.listings c.rules) rule)) settings

  holding : (rule : ℕ) (now : ActionNow) (w : World) → told.holds rule now w ≡ meant.holds rule now w
  unfolding game_of_codes coded_story game_of whole_script
  holding rule now w =
      conditions_at (codes_told tables) (setting_of tables) now w tables.rules.rules (story_rules c.listings c.rules) rule carries.rules_are
      ∙ ap (λ s. rule_condition s now w (slice_get (story_rules c.listings c.rules) rule)) settings

  bodies : (rule : ℕ) (inner : Inner) (now : ActionNow) (p : Progress) → LowersNoWork inner → p.work ≤ most_work → told.body rule inner now p ≡ meant.body rule inner now p
  unfolding game_of_codes coded_story game_of whole_script
  bodies rule inner now p lowers within =
      bodies_at tables judged loaded (story_rules c.listings c.rules) carries.rules_are (telling_by_codes (coded_story tables)) inner lowers now p within rule
      ∙ ap (λ telling. rule_body telling inner now p (slice_get (story_rules c.listings c.rules) rule)) tellings

  beginning : (scene : ℕ) (w : World) → told.begins scene w ≡ meant.begins scene w
  unfolding game_of_codes coded_story game_of whole_script
  beginning scene w =
      begins_at (codes_told tables) (setting_of tables) no_action w tables.rules.scenes c.scenes scene carries.scenes_are ∙ ap (λ s. condition_holds s no_action w (begins_in (slice_get c.scenes scene))) settings

  ending : (scene : ℕ) (w : World) → told.ends scene w ≡ meant.ends scene w
  unfolding game_of_codes coded_story game_of whole_script
  ending scene w =
      ends_at (codes_told tables) (setting_of tables) no_action w tables.rules.scenes c.scenes scene carries.scenes_are ∙ ap (λ s. condition_holds s no_action w (ends_in (slice_get c.scenes scene))) settings

  -- ---- all but the bodies

  but_bodies : told ≡ doing meant told.body
  unfolding game_of_codes coded_story game_of whole_script plain_story story_of_script tables_with rules_of
  but_bodies = λ i. record {
    start = (plain i).start;
    telling = tellings i;
    books = λ book. (books_listed tables.rules.books book ∙ carries.books book) i;
    needs = λ action. needs_at tables.rules.actions (standard_needs ++ t.declared.actions) action carries.actions i;
    is_about = λ rule now w. about rule now w i;
    holds = λ rule now w. holding rule now w i;
    body = told.body;
    scenes = scenes_recur (codes_told tables) tables.rules.scenes c.scenes carries.scenes_are i;
    begins = λ scene w. beginning scene w i;
    ends = λ scene w. ending scene w i;
    reads = (plain i).reads;
  }

  keeps : (levels : ℕ) → LowersNoWork (inner_of (doing meant told.body) levels)
  keeps levels = subst (λ (g : Game). LowersNoWork (inner_of g levels)) but_bodies (inner_lowers told (stories_lower (coded_story tables) (sound_bodies tables judged loaded)) levels)

  played_so : ArePlayedAlike (doing meant told.body) meant
  played_so = record {
    start = refl;
    telling = refl;
    needs = refl;
    scenes = refl;
    begins = refl;
    ends = refl;
    reads = refl;
    consulted = bodies_consulted meant told.body bodies keeps;
    acted = bodies_acted meant told.body bodies keeps;
  }

  pub played_alike : ArePlayedAlike told meant
  played_alike = subst (λ (g : Game). ArePlayedAlike g meant) (sym but_bodies) played_so
