-- Where one of a story's objects is meant by a command for all things, there are such things.
use Rattle.std.proofs.Common.{◌≡◌, ◌≢◌, ap, sym, ◌∙◌, refl, ℕ, zero, suc, ◌+◌, ◌<◌, ◌≤◌, Bool, true, false, length, arith}
use Rattle.std.specs.Prelude.{filter}
use Rattle.std.specs.List.{range_with_len}
use Rattle.play_meaning.specs.AllThings.{all_things, is_for_all}
use Rattle.play_meaning.specs.Worlds.{World}
use Rattle.story_format.specs.declared.tables.Tables.{Tables}
use Rattle.world_store.specs.StorySettings.{setting_of}
use Rattle.story_player.specs.Meant.{is_there}

some_pass : (passes : ℕ → Bool) (from count k : ℕ) → from ≤ k → k < from + count → passes k ≡ true → is_there (filter passes (range_with_len from count)) ≡ true
some_pass passes from zero k first last is = absurd (omega (arith, first, last))
some_pass passes from (suc count) k first last is =
    let Goal : Bool → Type 0 = λ v. passes from ≡ v → is_there (filter passes (range_with_len from (suc count))) ≡ true in
    elim (passes from) as Goal [
      | true ↦ λ here. rw here refl
      | false ↦ λ other.
          let later : from ≢ k = λ same. absurd (let both : false ≡ true = sym other ∙ ap passes same ∙ is in cc) in
          rw other (some_pass passes (from + 1) count k (omega (arith, first, later)) (omega (arith, last)) is)
    ] refl

pub there_is : (t : Tables) (w : World) (action k : ℕ) → k < length t.objects → is_for_all (setting_of t) w action k ≡ true → is_there (all_things (setting_of t) w action) ≡ true
unfolding all_things setting_of
there_is t w action k within is = some_pass (is_for_all (setting_of t) w action) 0 (length t.objects) k (omega arith) (omega (arith, within)) is
