-- A run so far, line by line, and how it ends.
use Rattle.std.proofs.Common.{◌≡◌, ◌⊎◌, ℕ, ◌+◌, Bool, true, false, inl, inr, List, [], ◌∷◌, ◌++◌, length, refl, ap, sym, ◌∙◌, subst, arith, append_assoc}
use Rattle.std.specs.Prelude.{Option, Some, None, is_none, is_some, not}
use Rattle.std.specs.Io.KnownBytes.{Appends, Consumes, IsAtEnd}
use Rattle.std.specs.Str.Lines.{lines, strip_carriage_return}
use Rattle.std.proofs.lemmas.List.{length-append, append-nil}
use Rattle.play_meaning.specs.Sessions.{State, opened}
use Rattle.world_meaning.specs.Texts.{prompt}
use Rattle.play_meaning.specs.Transcripts.{behind, behind_lines, ended_at_end, exchanges, played, told, told_out, while_going}
use Rattle.world_meaning.specs.declared.session.Ending.{Ending}
use Rattle.play_meaning.specs.Games.{Game}
use Rattle.story_player.specs.Runs.{AreAnswered, AreKnown, AreWholeLines, BrokeOff, IsFront, Played, Streams, streams_of, most_input}
use Rattle.story_player.specs.Steps.{PlayedLast, PlayedLine, WroteFront}
use Rattle.story_player.specs.declared.fault.RunFault.{RunFault}
use Rattle.story_player.specs.declared.fault.RunFault.TheVariants.{Write}
use Rattle.story_player.proofs.Fronts.{front-append, front-behind}
use Rattle.story_player.proofs.LineLemmas.{lines-line}
use Rattle.story_player.proofs.Timely.{nothing_read, timely_behind}
use Rattle.story_player.proofs.Transcripts.{behind-append, behind_lines-append, exchange, exchanges-append, exchanges-line, exchanges-over, line_part, played-append, told-append}
use Rattle.story_player.proofs.Writes.{appends-more, consumes-more}

-- The lines that were read are answered, and their parts are written behind the opening.
pub record RunSoFar (g : Game) (echo : Bool) (opening : List ℕ) (limit left : ℕ) (before after : Streams) (from to : State) : Type 0 where
  pub refusals : List (Option ℕ)
  pub answered : List (List ℕ)
  pub told_of : length refusals ≡ length answered
  pub read : List ℕ
  pub reads : Consumes before.unread after.unread read
  pub whole : AreWholeLines read
  pub splits : (ahead : List ℕ) → lines (read ++ ahead) ≡ answered ++ lines ahead
  pub writes : Appends before.held after.held (opening ++ told echo (exchanges g refusals from answered))
  pub answers : AreAnswered g refusals from answered
  pub state : to ≡ behind_lines g refusals from answered
  pub counts : length read + left ≡ limit

pub run_begins : (g : Game) (echo : Bool) (opening : List ℕ) (limit : ℕ) (unread held now : Option (List ℕ)) (from : State) → Consumes unread unread [] → Appends held now opening → RunSoFar g echo opening limit limit (streams_of unread held) (streams_of unread now) from from
run_begins g echo opening limit unread held now from none opened = record {
  refusals = [];
  answered = [];
  told_of = refl;
  read = [];
  reads = none;
  whole = inl refl;
  splits = λ ahead. refl;
  writes = subst (λ bs. Appends held now bs) (sym (append-nil opening)) opened;
  answers = refl;
  state = refl;
  counts = omega arith;
}

-- what the run writes stands behind the opening
pub behind_opening : (g : Game) (echo : Bool) (opening : List ℕ) (limit left : ℕ) (unread rest held a now : Option (List ℕ)) (from to : State) → Appends held a opening → RunSoFar g echo [] limit left (streams_of unread a) (streams_of rest now) from to → RunSoFar g echo opening limit left (streams_of unread held) (streams_of rest now) from to
behind_opening g echo opening limit left unread rest held a now from to opened sofar = record {
  refusals = sofar.refusals;
  answered = sofar.answered;
  told_of = sofar.told_of;
  read = sofar.read;
  reads = sofar.reads;
  whole = sofar.whole;
  splits = sofar.splits;
  writes = appends-more held a now opening (told echo (exchanges g sofar.refusals from sofar.answered)) opened sofar.writes;
  answers = sofar.answers;
  state = sofar.state;
  counts = sofar.counts;
}

-- whole lines behind whole lines
pub whole-append : (a b : List ℕ) → AreWholeLines a → AreWholeLines b → AreWholeLines (a ++ b)
whole-append a b first (inl none) = subst AreWholeLines (sym (append-nil a) ∙ ap (λ bs. a ++ bs) (sym none)) first
whole-append a b first (inr broken) = inr (a ++ broken.0, ap (λ bs. a ++ bs) broken.1 ∙ sym (append_assoc a broken.0 (10 ∷ [])))

-- answered lines behind answered lines
pub answered-append : (g : Game) (refusals more : List (Option ℕ)) (from to : State) (lines others : List (List ℕ)) → length refusals ≡ length lines → to ≡ behind_lines g refusals from lines → AreAnswered g refusals from lines → AreAnswered g more to others → AreAnswered g (refusals ++ more) from (lines ++ others)
answered-append g refusals more from to lines others same behind first second =
    let xs = exchanges g refusals from lines in
    let ys = exchanges g more to others in
    ap length (exchanges-append g refusals more from lines others same) ∙ ap (λ s. length (xs ++ exchanges g more s others)) (sym behind)
    ∙ length-append xs ys ∙ ap (λ n. n + length ys) first ∙ ap (λ n. length lines + n) second ∙ sym (length-append lines others)

-- one more line
pub run_more : (g : Game) (echo : Bool) (opening : List ℕ) (limit mid left : ℕ) (unread a rest held b now : Option (List ℕ)) (from state to : State) → RunSoFar g echo opening limit mid (streams_of unread held) (streams_of a b) from state → state.ending ≡ None → PlayedLine g echo mid left (streams_of a b) (streams_of rest now) state to → RunSoFar g echo opening limit left (streams_of unread held) (streams_of rest now) from to
run_more g echo opening limit mid left unread a rest held b now from state to sofar going line =
    let stripped = strip_carriage_return line.line in
    let bytes = line.line ++ 10 ∷ [] in
    let part = prompt ++ line_part g echo line.refused state stripped in
    let xs = exchanges g sofar.refusals from sofar.answered in
    let one = exchange g line.refused state stripped ∷ [] in
    let before = told echo xs in
    let more : exchanges g (sofar.refusals ++ line.refused ∷ []) from (sofar.answered ++ stripped ∷ []) ≡ xs ++ one =
    exchanges-append g sofar.refusals (line.refused ∷ []) from sofar.answered (stripped ∷ []) sofar.told_of
    ∙ ap (λ s. xs ++ exchanges g (line.refused ∷ []) s (stripped ∷ [])) (sym sofar.state)
    ∙ ap (λ ys. xs ++ ys) (exchanges-line g line.refused state stripped going) in
    let grown : told echo (exchanges g (sofar.refusals ++ line.refused ∷ []) from (sofar.answered ++ stripped ∷ [])) ≡ before ++ part =
    ap (λ ys. told echo ys) more ∙ told-append echo xs one ∙ ap (λ text. before ++ text) (append-nil part) in
    record {
      refusals = sofar.refusals ++ line.refused ∷ [];
      answered = sofar.answered ++ stripped ∷ [];
      told_of = omega (arith, sofar.told_of, length-append sofar.refusals (line.refused ∷ []), length-append sofar.answered (stripped ∷ []));
      read = sofar.read ++ bytes;
      reads = consumes-more unread a rest sofar.read bytes sofar.reads line.reads;
      whole = whole-append sofar.read bytes sofar.whole (inr (line.line, refl));
      splits = λ ahead.
          ap lines (append_assoc sofar.read bytes ahead)
          ∙ sofar.splits (bytes ++ ahead)
          ∙ ap (λ bs. sofar.answered ++ lines bs) (append_assoc line.line (10 ∷ []) ahead)
          ∙ ap (λ ls. sofar.answered ++ ls) (lines-line line.line ahead line.unbroken)
          ∙ sym (append_assoc sofar.answered (stripped ∷ []) (lines ahead));
      writes = subst (λ bs. Appends held now bs) (append_assoc opening before part ∙ ap (λ bs. opening ++ bs) (sym grown))
          (appends-more held b now (opening ++ before) part sofar.writes line.writes);
      answers = answered-append g sofar.refusals (line.refused ∷ []) from state sofar.answered (stripped ∷ []) sofar.told_of sofar.state sofar.answers (ap length (exchanges-line g line.refused state stripped going));
      state = line.behind ∙ sym (ap (λ ys. behind from ys) more ∙ behind-append from xs one ∙ ap (λ s. behind s one) (sym sofar.state));
      counts = omega (arith, sofar.counts, line.counts, length-append sofar.read bytes);
    }

-- the opening couldn't be written whole
pub cut_in_opening : (g : Game) (echo : Bool) (opening : List ℕ) (limit : ℕ) (unread held now : Option (List ℕ)) (from : State) → Consumes unread unread [] → WroteFront held now opening → BrokeOff Write g echo opening limit (streams_of unread held) (streams_of unread now) from from
cut_in_opening g echo opening limit unread held now from none broke = record {
  read = [];
  reads = none;
  whole = [];
  typed = [];
  past = [];
  bytes = refl;
  parts = refl;
  ends = inl (inl refl);
  unbroken = refl;
  within = λ other. refl;
  few = λ other. omega arith;
  refusals = [];
  answered = refl;
  state = refl;
  written = broke.written;
  writes = broke.writes;
  front = front-append broke.written opening (played g echo [] from []) broke.front;
  begins = λ other. absurd (other refl);
  going = λ other. absurd (other refl);
  typing = λ some. absurd (omega (arith, some));
  full = λ wrong. absurd cc;
  timely = nothing_read g echo opening [] from broke.written;
}

-- whole lines, or the last line of an input that has ended, behind whole lines
pub ends-append : (fault : RunFault) (rest : Option (List ℕ)) (a b : List ℕ) → AreWholeLines a → AreWholeLines b ⊎ ((fault ≡ Write) × IsAtEnd rest) → AreWholeLines (a ++ b) ⊎ ((fault ≡ Write) × IsAtEnd rest)
ends-append fault rest a b first (inl whole) = inl (whole-append a b first whole)
ends-append fault rest a b first (inr last) = inr last

-- a line broke off
pub cut_so_far : (fault : RunFault) (g : Game) (echo : Bool) (opening : List ℕ) (limit left : ℕ) (unread a rest held b now : Option (List ℕ)) (from state to : State) → RunSoFar g echo opening limit left (streams_of unread held) (streams_of a b) from state → BrokeOff fault g echo [] left (streams_of a b) (streams_of rest now) state to → BrokeOff fault g echo opening limit (streams_of unread held) (streams_of rest now) from to
cut_so_far fault g echo opening limit left unread a rest held b now from state to sofar broke =
    let before = told echo (exchanges g sofar.refusals from sofar.answered) in
    let all : lines (sofar.read ++ broke.read) ≡ sofar.answered ++ lines broke.read = sofar.splits broke.read in
    let plays : (ls : List (List ℕ)) → opening ++ played g echo (sofar.refusals ++ broke.refusals) from (sofar.answered ++ ls) ≡ (opening ++ before) ++ played g echo broke.refusals state ls =
    λ ls. ap (λ bs. opening ++ bs) (played-append g echo sofar.refusals broke.refusals from sofar.answered ls sofar.told_of)
    ∙ ap (λ s. opening ++ (before ++ played g echo broke.refusals s ls)) (sym sofar.state)
    ∙ sym (append_assoc opening before (played g echo broke.refusals state ls)) in
    record {
      read = sofar.read ++ broke.read;
      reads = consumes-more unread a rest sofar.read broke.read sofar.reads broke.reads;
      whole = sofar.read ++ broke.whole;
      typed = broke.typed;
      past = broke.past;
      bytes = ap (λ bs. sofar.read ++ bs) broke.bytes ∙ sym (append_assoc sofar.read broke.whole (broke.typed ++ broke.past));
      parts = all ∙ ap (λ ls. sofar.answered ++ ls) broke.parts ∙ sym (append_assoc sofar.answered (lines broke.whole) (lines (broke.typed ++ broke.past)))
          ∙ ap (λ ls. ls ++ lines (broke.typed ++ broke.past)) (sym (sofar.splits broke.whole));
      ends = ends-append fault rest sofar.read broke.whole sofar.whole broke.ends;
      unbroken = broke.unbroken;
      within = broke.within;
      few = λ other. omega (arith, broke.few other, sofar.counts, length-append sofar.read broke.read);
      refusals = sofar.refusals ++ broke.refusals;
      answered = subst (λ ls. AreAnswered g (sofar.refusals ++ broke.refusals) from ls) (sym (sofar.splits broke.whole))
          (answered-append g sofar.refusals broke.refusals from state sofar.answered (lines broke.whole) sofar.told_of sofar.state sofar.answers broke.answered);
      state = broke.state ∙ ap (λ s. behind_lines g broke.refusals s (lines broke.whole)) sofar.state ∙ sym (behind_lines-append g sofar.refusals broke.refusals from sofar.answered (lines broke.whole) sofar.told_of)
          ∙ ap (λ ls. behind_lines g (sofar.refusals ++ broke.refusals) from ls) (sym (sofar.splits broke.whole));
      written = (opening ++ before) ++ broke.written;
      writes = appends-more held b now (opening ++ before) broke.written sofar.writes broke.writes;
      front = subst (λ bs. IsFront ((opening ++ before) ++ broke.written) bs)
          (sym (plays (lines broke.read)) ∙ ap (λ ls. opening ++ played g echo (sofar.refusals ++ broke.refusals) from ls) (sym all))
          (front-behind (opening ++ before) broke.written (played g echo broke.refusals state (lines broke.read)) broke.front);
      begins = λ other. subst (λ bs. IsFront bs ((opening ++ before) ++ broke.written)) (sym (plays (lines broke.whole)) ∙ ap (λ ls. opening ++ played g echo (sofar.refusals ++ broke.refusals) from ls) (sym (sofar.splits broke.whole)))
          (front-behind (opening ++ before) (played g echo broke.refusals state (lines broke.whole)) broke.written (broke.begins other));
      going = broke.going;
      typing = broke.typing;
      full = λ same. ((broke.full same).0, omega (arith, (broke.full same).1, sofar.counts, length-append sofar.read broke.read));
      timely = timely_behind g echo opening sofar.refusals broke.refusals from state sofar.answered sofar.read broke.read broke.written sofar.told_of sofar.state all broke.timely;
    }

pub lines_read : (g : Game) (echo : Bool) (opening : List ℕ) (limit left : ℕ) (unread rest held now : Option (List ℕ)) (from to : State) (sofar : RunSoFar g echo opening limit left (streams_of unread held) (streams_of rest now) from to) → lines sofar.read ≡ sofar.answered
lines_read g echo opening limit left unread rest held now from to sofar = ap lines (sym (append-nil sofar.read)) ∙ sofar.splits [] ∙ append-nil sofar.answered

-- the reader's bytes, as far as they are known
pub record Commands (unread rest : Option (List ℕ)) (read : List ℕ) : Type 0 where
  pub ahead : List ℕ
  pub known : AreKnown unread (read ++ ahead)
  pub none_at_end : IsAtEnd rest → ahead ≡ []

pub commands_of : (unread rest : Option (List ℕ)) (read : List ℕ) → Consumes unread rest read → Commands unread rest read
commands_of None rest read reads = record { ahead = []; known = tt; none_at_end = λ ends. refl }
commands_of (Some xs) None read reads = absurd reads
commands_of (Some xs) (Some ys) read reads = record { ahead = ys; known = reads; none_at_end = λ ends. ends }

-- the input has ended, and its last line is answered
pub run_ends : (g : Game) (echo : Bool) (mid left : ℕ) (unread a rest held b now : Option (List ℕ)) (from state to last : State) → RunSoFar g echo (opened g).text most_input mid (streams_of unread held) (streams_of a b) from state → PlayedLast g echo mid left (streams_of a b) (streams_of rest now) state to → last ≡ ended_at_end to → Played g echo (streams_of unread held) (streams_of rest now) from last
run_ends g echo mid left unread a rest held b now from state to last sofar line ended =
    let opening = (opened g).text in
    let before = told echo (exchanges g sofar.refusals from sofar.answered) in
    let refusals = sofar.refusals ++ line.refusals in
    let read = sofar.read ++ line.line in
    let reads = consumes-more unread a rest sofar.read line.line sofar.reads line.reads in
    let commands = commands_of unread rest read reads in
    let whole : read ++ commands.ahead ≡ read = ap (λ bs. read ++ bs) (commands.none_at_end line.ends) ∙ append-nil read in
    let all : lines (read ++ commands.ahead) ≡ sofar.answered ++ lines line.line = ap lines whole ∙ sofar.splits line.line in
    let text : opening ++ played g echo refusals from (lines (read ++ commands.ahead)) ≡ (opening ++ before) ++ played g echo line.refusals state (lines line.line) =
    ap (λ ls. opening ++ played g echo refusals from ls) all
    ∙ ap (λ bs. opening ++ bs) (played-append g echo sofar.refusals line.refusals from sofar.answered (lines line.line) sofar.told_of)
    ∙ ap (λ s. opening ++ (before ++ played g echo line.refusals s (lines line.line))) (sym sofar.state)
    ∙ sym (append_assoc opening before (played g echo line.refusals state (lines line.line))) in
    let last_behind : to ≡ behind_lines g refusals from (lines (read ++ commands.ahead)) =
    line.state_is ∙ ap (λ s. behind_lines g line.refusals s (lines line.line)) sofar.state
    ∙ sym (behind_lines-append g sofar.refusals line.refusals from sofar.answered (lines line.line) sofar.told_of)
    ∙ ap (λ ls. behind_lines g refusals from ls) (sym all) in
    record {
      commands = read ++ commands.ahead;
      are_commands = commands.known;
      transcript = (opening ++ before) ++ played g echo line.refusals state (lines line.line);
      writes = appends-more held b now (opening ++ before) (played g echo line.refusals state (lines line.line)) sofar.writes line.writes;
      play = record {
        refusals = refusals;
        transcript_is = sym text;
        last_is = ended ∙ ap ended_at_end last_behind;
      };
      read = read;
      reads = reads;
      front = (commands.ahead, refl);
      few = omega (arith, sofar.counts, line.counts, length-append sofar.read line.line);
      answered = subst (λ ls. AreAnswered g refusals from ls) (sym (sofar.splits line.line))
          (answered-append g sofar.refusals line.refusals from state sofar.answered (lines line.line) sofar.told_of sofar.state sofar.answers line.answered);
      stops = inl whole;
    }

-- the session is over
pub run_is_over : (g : Game) (echo : Bool) (left : ℕ) (unread rest held now : Option (List ℕ)) (from to last : State) (ending : Ending) → RunSoFar g echo (opened g).text most_input left (streams_of unread held) (streams_of rest now) from to → to.ending ≡ Some ending → last ≡ ended_at_end to → Played g echo (streams_of unread held) (streams_of rest now) from last
run_is_over g echo left unread rest held now from to last ending sofar over ended =
    let opening = (opened g).text in
    let answered = exchanges g sofar.refusals from sofar.answered in
    let before = told echo answered in
    let commands = commands_of unread rest sofar.read sofar.reads in
    let others = lines commands.ahead in
    let all : lines (sofar.read ++ commands.ahead) ≡ sofar.answered ++ others = sofar.splits commands.ahead in
    let no_more : exchanges g sofar.refusals from (sofar.answered ++ others) ≡ answered =
    ap (λ rs. exchanges g rs from (sofar.answered ++ others)) (sym (append-nil sofar.refusals))
    ∙ exchanges-append g sofar.refusals [] from sofar.answered others sofar.told_of
    ∙ ap (λ s. answered ++ exchanges g [] s others) (sym sofar.state)
    ∙ ap (λ xs. answered ++ xs) (exchanges-over g [] to others ending over) ∙ append-nil answered in
    let text : opening ++ played g echo sofar.refusals from (lines (sofar.read ++ commands.ahead)) ≡ opening ++ before =
    ap (λ ls. opening ++ played g echo sofar.refusals from ls) all
    ∙ ap (λ xs. opening ++ told_out echo from xs) no_more
    ∙ ap (λ s. opening ++ (before ++ while_going s.ending prompt)) (sym sofar.state)
    ∙ ap (λ e. opening ++ (before ++ while_going e prompt)) over ∙ ap (λ bs. opening ++ bs) (append-nil before) in
    record {
      commands = sofar.read ++ commands.ahead;
      are_commands = commands.known;
      transcript = opening ++ before;
      writes = sofar.writes;
      play = record {
        refusals = sofar.refusals;
        transcript_is = sym text;
        last_is = ended ∙ ap ended_at_end (sofar.state ∙ ap (λ xs. behind from xs) (sym no_more) ∙ ap (λ ls. behind_lines g sofar.refusals from ls) (sym all));
      };
      read = sofar.read;
      reads = sofar.reads;
      front = (commands.ahead, refl);
      few = omega (arith, sofar.counts);
      answered = subst (λ ls. AreAnswered g sofar.refusals from ls) (sym (lines_read g echo opening most_input left unread rest held now from to sofar)) sofar.answers;
      stops = inr (sofar.whole, ap is_some (ap (λ s. s.ending) (ap (λ ls. behind_lines g sofar.refusals from ls) (lines_read g echo opening most_input left unread rest held now from to sofar) ∙ sym sofar.state) ∙ over));
    }

pub not_some : (ending : Option Ending) (none value : Bool) → is_some ending ≡ not none → none ≡ value → is_none ending ≡ value
not_some None true value e same = same
not_some None false value e same = absurd cc
not_some (Some ending) true value e same = absurd cc
not_some (Some ending) false value e same = same

pub none_from : (ending : Option Ending) → is_none ending ≡ true → ending ≡ None
none_from None none = refl
none_from (Some ending) none = absurd cc

pub some_from : (ending : Option Ending) → is_none ending ≡ false → (e : Ending) × (ending ≡ Some e)
some_from None some = absurd cc
some_from (Some ending) some = (ending, refl)
