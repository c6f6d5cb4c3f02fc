use Rattle.std.proofs.Common.{◌∙◌, ap, subst, sym, take, ◌∷◌, List, ℕ}
use Rattle.std.specs.Prelude.{None}
use Rattle.story_format.specs.declared.tables.Tables.{Tables}
use Rattle.story_player.specs.KeptWorlds.{kept_in, world_in}
use Rattle.story_player.specs.Sessions.{game_of, state_of}
use Rattle.story_player.specs.Turns.{ending_told, kept_by, kind_by, kind_told}
use Rattle.story_player.proofs.Answering.{deed_told}
use Rattle.story_player.proofs.Keepings.{IsHome, are_there, home_of, home_pushed, kept_put, kept_same}
use Rattle.story_player.proofs.session.Session.act_out.Goals as goal

pub invariant_of-self : goal.invariant_of-self
invariant_of-self g c =
    let session = c.args.self.now in
    let behind = c.trial.new.self in
    let t = session.story.value in
    let was = home_of t session.world session.kept session.there session.world_story session.marks in
    let is =
    subst (λ (marks : List ℕ). IsHome t behind.world marks) c.in-Ok.ensures.marks
    (subst (λ (t : Tables). IsHome t behind.world behind.kept) c.in-Ok.ensures.story (home_of behind.story.value behind.world behind.kept behind.there behind.world_story behind.marks)) in
    let pushed = c.keep.ensures ∙ ap (λ (marks : List ℕ). take 8 (c.mark-mark.result ∷ marks)) c.in-Ok.ensures.marks in
    record {
      opened = behind.opened;
      whole = behind.whole;
      indexed = behind.indexed;
      there = behind.there;
      world_story = behind.world_story;
      marks =
          are_there t behind.world c.keep.new.self
          (home_pushed t session.world behind.world session.kept was is c.in-Ok.ensures.behind c.here.result.now c.here.ensures 8 c.mark-mark.result
          c.keep.new.self c.mark-mark.ensures pushed);
    }

pub returns-then-is_kept-clause-answer : goal.returns-then-is_kept-clause-answer
returns-then-is_kept-clause-answer g c =
    let session = c.args.self.now in
    let behind = c.trial.new.self in
    let t = session.story.value in
    let s = state_of session in
    let w = world_in behind.world in
    let was = home_of t session.world session.kept session.there session.world_story session.marks in
    let is =
    subst (λ (marks : List ℕ). IsHome t behind.world marks) c.in-Ok.ensures.marks
    (subst (λ (t : Tables). IsHome t behind.world behind.kept) c.in-Ok.ensures.story (home_of behind.story.value behind.world behind.kept behind.there behind.world_story behind.marks)) in
    let pushed = c.keep.ensures ∙ ap (λ (marks : List ℕ). take 8 (c.mark-mark.result ∷ marks)) c.in-Ok.ensures.marks in
    let kept =
    kept_put t session.world behind.world session.kept was is c.in-Ok.ensures.behind c.here.result.now c.here.ensures 8 c.mark-mark.result
    c.keep.new.self c.mark-mark.ensures pushed
    ∙ ap (λ is_kept. kept_by is_kept s) (sym c.if-is_kept.true) in
    deed_told c.args.deed.now (game_of session) s (state_of c.take_up.new.self) c.is_turn-is_kept.result c.take_up.result.kind w c.args.text.now.said c.trial.new.text.said
    c.is_turn-is_kept.ensures c.in-Ok.ensures.told (c.take_up.ensures.kind ∙ ap (λ is_kept. kind_told (kind_by is_kept) w.ended) (sym c.if-is_kept.true))
    (c.take_up.ensures.state ∙ (λ i. record { world = w; kept = kept i; question = None; ending = ending_told w.ended }))

pub returns-else-is_kept-clause-answer : goal.returns-else-is_kept-clause-answer
returns-else-is_kept-clause-answer g c =
    let session = c.args.self.now in
    let behind = c.trial.new.self in
    let t = session.story.value in
    let s = state_of session in
    let w = world_in behind.world in
    let was = home_of t session.world session.kept session.there session.world_story session.marks in
    let is =
    subst (λ (marks : List ℕ). IsHome t behind.world marks) c.in-Ok.ensures.marks
    (subst (λ (t : Tables). IsHome t behind.world behind.kept) c.in-Ok.ensures.story (home_of behind.story.value behind.world behind.kept behind.there behind.world_story behind.marks)) in
    let kept =
    ap (λ (marks : List ℕ). kept_in behind.world marks) c.in-Ok.ensures.marks
    ∙ kept_same t session.world behind.world session.kept was is c.in-Ok.ensures.behind
    ∙ ap (λ is_kept. kept_by is_kept s) (sym c.if-is_kept.false) in
    deed_told c.args.deed.now (game_of session) s (state_of c.take_up-in-Ok.new.self) c.is_turn-is_kept.result c.take_up-in-Ok.result.kind w c.args.text.now.said c.trial.new.text.said
    c.is_turn-is_kept.ensures c.in-Ok.ensures.told (c.take_up-in-Ok.ensures.kind ∙ ap (λ is_kept. kind_told (kind_by is_kept) w.ended) (sym c.if-is_kept.false))
    (c.take_up-in-Ok.ensures.state ∙ (λ i. record { world = w; kept = kept i; question = None; ending = ending_told w.ended }))
