-- What a standard rule's answer comes to is what the rule's body means.
use Rattle.std.proofs.Common.{◌≡◌, ◌∙◌, ap, sym, ℕ, ◌-◌}
use Rattle.std.specs.Prelude.{List, Result, slice_get}
use Rattle.play_meaning.specs.Attempts.{Attempt, next}
use Rattle.play_meaning.specs.CodedStories.{telling_by_codes}
use Rattle.play_meaning.specs.Doing.{Inner}
use Rattle.play_meaning.specs.Effects.{all_made, ended, tried_if}
use Rattle.play_meaning.specs.Progress.{Done, Progress, change, say}
use Rattle.play_meaning.specs.Scripts.{rule_body}
use Rattle.play_meaning.specs.StandardRules.{standard_rules}
use Rattle.play_meaning.specs.Worlds.{World}
use Rattle.play_meaning.specs.declared.action.ActionNow.{ActionNow}
use Rattle.play_meaning.specs.declared.outcome.Flow.{Flow}
use Rattle.standard_rules.specs.Answers.{HasEffect, ends_of}
use Rattle.standard_rules.specs.declared.answer.HostAnswer.{HostAnswer}
use Rattle.story_format.specs.declared.tables.Tables.{Tables}
use Rattle.world_meaning.specs.declared.session.Abandon.{Abandon}
use Rattle.world_store.specs.StoryGames.{plain_story}
use Rattle.world_store.specs.StorySettings.{setting_of}
use Rattle.action_stages.specs.Answering.{ends_so}
use Rattle.action_stages.specs.Bodies.{rest_of}
use Rattle.world_store.specs.StoryPlay.{coded_story}

pub effect_is : (t : Tables) (past : List World) (p q : Progress) (now : ActionNow) (rule : ℕ) (answer : HostAnswer) (ends : Result Flow Abandon)
    → HasEffect rule (record { tables = t; world = p.world; past = past }) now answer → q ≡ say answer.text (change (all_made (setting_of t) answer.changes.items) p) → ((r : Progress) → ends_so
    ends r ≡ ended (ends_of answer.outcome) r)
    → (inner : Inner) → rule_body (telling_by_codes (coded_story t)) inner now p (slice_get standard_rules (rule - 1)) ≡ rest_of inner (record { tries = answer.tries; ends = ends }) q
unfolding HasEffect coded_story plain_story
effect_is t past p q now rule answer ends does is so inner =
    let alike : ended (ends_of answer.outcome) ≡ ends_so ends = λ i r. sym (so r) i in
    sym (does inner p.text p.work)
    ∙ ap (λ (q : Progress). next (tried_if inner answer.tries q) (ended (ends_of answer.outcome))) (sym is)
    ∙ ap (λ (rest : Progress → Attempt Done). next (tried_if inner answer.tries q) rest) alike
