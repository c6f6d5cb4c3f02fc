-- What was played of a game was played of any that is played alike: the same bytes were read and written.
use Rattle.std.proofs.Common.{◌≡◌, ◌∙◌, ◌⊎◌, ap, inl, inr, subst, true, ℕ, Bool, List, ◌++◌, length, Option}
use Rattle.std.specs.Prelude.{is_some}
use Rattle.std.specs.Str.Lines.{lines}
use Rattle.play_meaning.specs.Games.{Game}
use Rattle.play_meaning.specs.Sessions.{Answer, State, opened}
use Rattle.play_meaning.specs.Transcripts.{Exchange, IsPlay, behind, ended_at_end, exchanges, told, told_out}
use Rattle.story_player.specs.Runs.{AreAnswered, AreWholeLines, BrokeOff, IsFront, IsTimely, Played, Streams, asked, most_input}
use Rattle.story_player.specs.declared.fault.RunFault.{RunFault}
use Rattle.world_meaning.specs.declared.session.Ending.{Ending}
use Rattle.action_stages.specs.Alike.{ArePlayedAlike}
use Rattle.action_stages.proofs.AlikeSessions.{one_opening, one_session}
use Rattle.source_player.specs.SourceRuns.{BrokeOffGame, PlayedGame}

module _ (g h : Game) (alike : ArePlayedAlike g h) where
  same_opening : opened g ≡ opened h
  same_opening = one_opening g h alike

  same_session : (refusals : List (Option ℕ)) (s : State) (all : List (List ℕ)) → exchanges g refusals s all ≡ exchanges h refusals s all
  same_session = one_session g h alike

  answered_alike : (refusals : List (Option ℕ)) (s : State) (all : List (List ℕ)) → AreAnswered g refusals s all → AreAnswered h refusals s all
  answered_alike refusals s all answered = subst (λ (them : List Exchange). length them ≡ length all) (same_session refusals s all) answered

  play_alike : (echo : Bool) (s last : State) (commands transcript : List ℕ) → IsPlay g echo s commands transcript last → IsPlay h echo s commands transcript last
  play_alike echo s last commands transcript play = record {
    refusals = play.refusals;
    transcript_is = play.transcript_is ∙ (λ i. (same_opening i).text ++ told_out echo s (same_session play.refusals s (lines commands) i));
    last_is = play.last_is ∙ ap (λ (them : List Exchange). ended_at_end (behind s them)) (same_session play.refusals s (lines commands));
  }

  run_alike : (echo : Bool) (before after : Streams) (s last : State) → Played g echo before after s last → Played h echo before after s last
  unfolding play_alike
  run_alike echo before after s last run = record {
    commands = run.commands;
    are_commands = run.are_commands;
    transcript = run.transcript;
    writes = run.writes;
    play = play_alike echo s last run.commands run.transcript run.play;
    read = run.read;
    reads = run.reads;
    front = run.front;
    few = run.few;
    answered = answered_alike run.play.refusals s (lines run.read) run.answered;
    stops = stopped run.stops;
  }
    where
      stopped : (run.commands ≡ run.read) ⊎ (AreWholeLines run.read × (is_some (behind s (exchanges g run.play.refusals s (lines run.read))).ending ≡ true))
          → (run.commands ≡ run.read) ⊎ (AreWholeLines run.read × (is_some (behind s (exchanges h run.play.refusals s (lines run.read))).ending ≡ true))
      stopped (inl all) = inl all
      stopped (inr ended) = inr (ended.0, subst (λ (them : List Exchange). is_some (behind s them).ending ≡ true) (same_session run.play.refusals s (lines run.read)) ended.1)

  broken_alike : (fault : RunFault) (echo : Bool) (opening : List ℕ) (limit : ℕ) (before after : Streams) (s to : State) → BrokeOff fault g echo opening limit before after s to → BrokeOff fault h echo opening limit before after s to
  broken_alike fault echo opening limit before after s to run = record {
    read = run.read;
    reads = run.reads;
    whole = run.whole;
    typed = run.typed;
    past = run.past;
    bytes = run.bytes;
    parts = run.parts;
    ends = run.ends;
    unbroken = run.unbroken;
    within = run.within;
    few = run.few;
    full = run.full;
    refusals = run.refusals;
    answered = answered_alike run.refusals s (lines run.whole) run.answered;
    state = run.state ∙ ap (behind s) (same_session run.refusals s (lines run.whole));
    written = run.written;
    writes = run.writes;
    front = subst (λ (them : List Exchange). IsFront run.written (opening ++ told_out echo s them)) (same_session run.refusals s (lines run.read)) run.front;
    begins = λ other. subst (λ (them : List Exchange). IsFront (opening ++ told_out echo s them) run.written) (same_session run.refusals s (lines run.whole)) (run.begins other);
    going = run.going;
    typing = run.typing;
    timely = record {
      first = run.timely.first;
      last = run.timely.last;
      parts = run.timely.parts;
      one = run.timely.one;
      told_first = λ some. subst (λ (them : List Exchange). IsFront (opening ++ (told echo them ++ asked run.timely.last)) run.written) (same_session run.refusals s run.timely.first) (run.timely.told_first some);
    };
  }

  pub game_alike : (echo : Bool) (before after : Streams) (ending : Ending) → PlayedGame g echo before after ending → PlayedGame h echo before after ending
  game_alike echo before after ending play = record {
    last = play.last;
    played = subst (λ (a : Answer). Played h echo before after a.state play.last) same_opening (run_alike echo before after (opened g).state play.last play.played);
    ended = play.ended;
  }

  pub broken_game_alike : (fault : RunFault) (echo : Bool) (before after : Streams) → BrokeOffGame fault g echo before after → BrokeOffGame fault h echo before after
  broken_game_alike fault echo before after broken = record {
    last = broken.last;
    broke = subst (λ (a : Answer). BrokeOff fault h echo a.text most_input before after a.state broken.last) same_opening (broken_alike fault echo (opened g).text most_input before after (opened g).state broken.last broken.broke);
  }
