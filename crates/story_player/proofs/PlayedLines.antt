-- A line that was played, from what was typed and what was answered.
use Rattle.std.proofs.Common.{◌≡◌, ℕ, ◌<◌, Bool, true, false, inl, inr, List, [], ◌∷◌, ◌++◌, length, refl, ap, sym, ◌∙◌, subst, arith, append_assoc}
use Rattle.std.specs.Prelude.{Option, None, Some, suc, if◌then◌else◌}
use Rattle.std.specs.Io.KnownBytes.{Appends, Consumes, IsAtEnd}
use Rattle.std.specs.Str.Lines.{lines, strip_carriage_return}
use Rattle.std.proofs.lemmas.Bool.{eqb-true}
use Rattle.std.proofs.lemmas.List.{length-append, append-nil}
use Rattle.play_meaning.specs.CommandLines.{parts_of}
use Rattle.play_meaning.specs.Sessions.{State, answer_of, answer_to}
use Rattle.world_meaning.specs.Texts.{prompt}
use Rattle.play_meaning.specs.Transcripts.{behind_lines, echoed, played, while_going}
use Rattle.play_meaning.specs.Games.{Game}
use Rattle.story_player.specs.Runs.{AreAnswered, BrokeOff, IsFront, has_break, streams_of}
use Rattle.story_player.specs.Steps.{Answered, BrokeAnswer, BrokeTyping, IsTyping, PlayedLast, PlayedLine, WroteFront, last_part, last_state, shown, typed_part}
use Rattle.story_player.specs.Typed.{IsGone, Typing, gone_told, is_untyped, parts_told, typed_parts}
use Rattle.story_player.specs.declared.fault.RunFault.{RunFault}
use Rattle.story_player.specs.declared.fault.RunFault.TheVariants.{Write}
use Rattle.command_parser.specs.declared.command_scan.CommandScan.{CommandScan}
use Rattle.story_player.proofs.Fronts.{front-append, front-behind, front_first}
use Rattle.story_player.proofs.LineLemmas.{lines-last, lines-line}
use Rattle.story_player.proofs.LetGo.{parts_typed}
use Rattle.story_player.proofs.Tellings.{part_last, part_told, state_last, state_told}
use Rattle.story_player.proofs.Timely.{few_past, lines-few, lines-past, nothing_read, one_read}
use Rattle.story_player.proofs.Transcripts.{behind-line, exchanges-line, played-line, played-none}
use Rattle.story_player.proofs.TypedLines.{shown_nothing, strip_behind}
use Rattle.story_player.proofs.Writes.{appends-more, front-more}

-- what was shown of a line, and the rest of its echo
pub echo_whole : (echo : Bool) (front kept : List ℕ) → shown echo front ++ shown echo (kept ++ 10 ∷ []) ≡ echoed echo (front ++ kept)
echo_whole true front kept = sym (append_assoc front kept (10 ∷ []))
echo_whole false front kept = refl

-- what is written for a typed line is the line's part, whatever was let go
pub record IsPart (g : Game) (echo : Bool) (refused : Option ℕ) (state : State) (t : Typing) (front line : List ℕ) : Type 0 where
  pub text : shown echo front ++ typed_part g echo refused state t ≡ echoed echo line ++ (answer_of g refused state line).text
  pub next : (answer_to g refused state (typed_parts t)).state ≡ (answer_of g refused state line).state

pub is_part : (g : Game) (echo : Bool) (refused : Option ℕ) (state : State) (gone : Option CommandScan) (kept front : List ℕ) → IsGone gone front → IsPart g echo refused state (record { gone = gone; kept = kept }) front (front ++ kept)
is_part g echo refused state gone kept front is =
    let read : parts_told (gone_told gone kept) ≡ parts_of (front ++ kept) = parts_typed gone front kept is in
    record {
      text = ap (λ r. shown echo front ++ (shown echo (kept ++ 10 ∷ []) ++ (answer_to g refused state r).text)) read
          ∙ sym (append_assoc (shown echo front) (shown echo (kept ++ 10 ∷ [])) (answer_of g refused state (front ++ kept)).text)
          ∙ ap (λ bs. bs ++ (answer_of g refused state (front ++ kept)).text) (echo_whole echo front kept);
      next = ap (λ r. (answer_to g refused state r).state) read;
    }

-- the line in front of its line break
pub is_stripped_part : (g : Game) (echo : Bool) (refused : Option ℕ) (state : State) (gone : Option CommandScan) (kept front : List ℕ) → IsGone gone front → (0 < length front → 0 < length kept) → IsPart g echo refused state (record { gone = gone; kept = strip_carriage_return kept }) front (strip_carriage_return (front ++ kept))
is_stripped_part g echo refused state gone kept front is keeps =
    subst (λ line. IsPart g echo refused state (record { gone = gone; kept = strip_carriage_return kept }) front line) (sym (strip_behind front kept keeps))
    (is_part g echo refused state gone (strip_carriage_return kept) front is)

-- a whole line was answered
pub played_line : (g : Game) (echo : Bool) (limit left : ℕ) (unread rest held a b now : Option (List ℕ)) (state to : State) (gone : Option CommandScan) (kept : List ℕ)
    → Appends held a prompt → IsTyping echo limit left (streams_of unread a) (streams_of rest b) (record { gone = gone; kept = kept }) (10 ∷ [])
    → Answered (part_told g echo state (record { gone = gone; kept = strip_carriage_return kept })) (state_told g state (record { gone = gone; kept = strip_carriage_return kept })) b now to
    → PlayedLine g echo limit left (streams_of unread held) (streams_of rest now) state to
played_line g echo limit left unread rest held a b now state to gone kept prompted typing told =
    let part = is_stripped_part g echo told.refused state gone kept typing.front typing.gone typing.keeps in
    record {
      line = typing.front ++ kept;
      unbroken = typing.unbroken;
      reads = typing.reads;
      refused = told.refused;
      writes = subst (λ bs. Appends held now (prompt ++ bs)) part.text
          (appends-more held a now prompt (shown echo typing.front ++ part_told g echo state (record { gone = gone; kept = strip_carriage_return kept }) told.refused) prompted
          (appends-more a b now (shown echo typing.front) (part_told g echo state (record { gone = gone; kept = strip_carriage_return kept }) told.refused) typing.writes told.writes));
      behind = told.behind ∙ part.next;
      counts = typing.counts;
    }

pub front_empty : (front kept : List ℕ) → front ++ kept ≡ [] → front ≡ []
front_empty [] kept empty = refl
front_empty (b ∷ bs) kept empty = absurd cc

-- nothing was typed
pub untyped_empty : (gone : Option CommandScan) (kept front : List ℕ) → IsGone gone front → is_untyped (record { gone = gone; kept = kept }) ≡ true → front ++ kept ≡ []
untyped_empty None [] front is none = append-nil front ∙ is
untyped_empty None (b ∷ bs) front is none = absurd (omega (arith, eqb-true (length (b ∷ bs)) 0 none))
untyped_empty (Some scan) kept front is none = absurd cc

-- something was
pub typed_some : (gone : Option CommandScan) (kept front : List ℕ) → IsGone gone front → is_untyped (record { gone = gone; kept = kept }) ≡ false → 0 < length (front ++ kept)
typed_some None [] front is some = absurd cc
typed_some None (b ∷ bs) front is some = omega (arith, length-append front (b ∷ bs))
typed_some (Some scan) kept front is some = omega (arith, is.0, length-append front kept)

-- the play of the last line, whatever was let go
pub record IsLast (g : Game) (echo : Bool) (refused : Option ℕ) (state : State) (t : Typing) (front line : List ℕ) : Type 0 where
  pub refusals : List (Option ℕ)
  pub text : prompt ++ (shown echo front ++ last_part g echo refused state t) ≡ played g echo refusals state (lines line)
  pub next : last_state g refused state t ≡ behind_lines g refusals state (lines line)
  pub answered : AreAnswered g refusals state (lines line)

pub is_last_none : (g : Game) (echo : Bool) (refused : Option ℕ) (state : State) (gone : Option CommandScan) (kept front : List ℕ) → state.ending ≡ None → IsGone gone front → is_untyped (record { gone = gone; kept = kept }) ≡ true → IsLast g echo refused state (record { gone = gone; kept = kept }) front (front ++ kept)
is_last_none g echo refused state gone kept front going is none =
    let empty = untyped_empty gone kept front is none in
    let nothing : front ≡ [] = front_empty front kept empty in
    record {
      refusals = [];
      text = ap (λ v. prompt ++ (shown echo front ++ (if v then [] else (typed_part g echo refused state (record { gone = gone; kept = kept }) ++ while_going (answer_to g refused state (typed_parts (record { gone = gone; kept = kept }))).state.ending prompt)))) none
          ∙ ap (λ bs. prompt ++ (shown echo bs ++ [])) nothing ∙ ap (λ bs. prompt ++ (bs ++ [])) (shown_nothing echo) ∙ append-nil prompt
          ∙ sym (played-none g echo [] state going) ∙ ap (λ bs. played g echo [] state (lines bs)) (sym empty);
      next = ap (λ v. if v then state else (answer_to g refused state (typed_parts (record { gone = gone; kept = kept }))).state) none ∙ ap (λ bs. behind_lines g [] state (lines bs)) (sym empty);
      answered = subst (λ bs. AreAnswered g [] state (lines bs)) (sym empty) refl;
    }

pub is_last_some : (g : Game) (echo : Bool) (refused : Option ℕ) (state : State) (gone : Option CommandScan) (kept front : List ℕ) → state.ending ≡ None → IsGone gone front → has_break (front ++ kept) ≡ false → is_untyped (record { gone = gone; kept = kept }) ≡ false → IsLast g echo refused state (record { gone = gone; kept = kept }) front (front ++ kept)
is_last_some g echo refused state gone kept front going is unbroken some =
    let t : Typing = record { gone = gone; kept = kept } in
    let line = front ++ kept in
    let part = is_part g echo refused state gone kept front is in
    let last = while_going (answer_to g refused state (typed_parts t)).state.ending prompt in
    let one = lines-last line unbroken (typed_some gone kept front is some) in
    record {
      refusals = refused ∷ [];
      text = ap (λ v. prompt ++ (shown echo front ++ (if v then [] else (typed_part g echo refused state t ++ last)))) some
          ∙ ap (λ bs. prompt ++ bs) (sym (append_assoc (shown echo front) (typed_part g echo refused state t) last))
          ∙ ap (λ bs. prompt ++ (bs ++ last)) part.text
          ∙ sym (append_assoc prompt (echoed echo line ++ (answer_of g refused state line).text) last)
          ∙ ap (λ s. (prompt ++ (echoed echo line ++ (answer_of g refused state line).text)) ++ while_going s.ending prompt) part.next
          ∙ sym (played-line g echo refused state line going)
          ∙ ap (λ ls. played g echo (refused ∷ []) state ls) (sym one);
      next = ap (λ v. if v then state else (answer_to g refused state (typed_parts t)).state) some ∙ part.next ∙ sym (behind-line g refused state line going) ∙ ap (λ ls. behind_lines g (refused ∷ []) state ls) (sym one);
      answered = subst (λ ls. AreAnswered g (refused ∷ []) state ls) (sym one) (ap length (exchanges-line g refused state line going));
    }

pub is_last : (g : Game) (echo : Bool) (refused : Option ℕ) (state : State) (gone : Option CommandScan) (kept front : List ℕ) → state.ending ≡ None → IsGone gone front → has_break (front ++ kept) ≡ false → IsLast g echo refused state (record { gone = gone; kept = kept }) front (front ++ kept)
is_last g echo refused state gone kept front going is unbroken =
    let t : Typing = record { gone = gone; kept = kept } in
    let Goal : Bool → Type 0 = λ v. is_untyped t ≡ v → IsLast g echo refused state t front (front ++ kept) in
    elim (is_untyped t) as Goal [
      | true ↦ λ none. is_last_none g echo refused state gone kept front going is none
      | false ↦ λ some. is_last_some g echo refused state gone kept front going is unbroken some
    ] refl

-- the last line was answered, if there is one
pub played_last : (g : Game) (echo : Bool) (limit left : ℕ) (unread rest held a b now : Option (List ℕ)) (state to : State) (gone : Option CommandScan) (kept : List ℕ)
    → state.ending ≡ None → Appends held a prompt → IsTyping echo limit left (streams_of unread a) (streams_of rest b) (record { gone = gone; kept = kept }) [] → IsAtEnd rest
    → Answered (part_last g echo state (record { gone = gone; kept = kept })) (state_last g state (record { gone = gone; kept = kept })) b now to
    → PlayedLast g echo limit left (streams_of unread held) (streams_of rest now) state to
played_last g echo limit left unread rest held a b now state to gone kept going prompted typing ends told =
    let t : Typing = record { gone = gone; kept = kept } in
    let line = typing.front ++ kept in
    let last = is_last g echo told.refused state gone kept typing.front going typing.gone typing.unbroken in
    record {
      line = line;
      reads = subst (λ bs. Consumes unread rest bs) (append-nil line) typing.reads;
      ends = ends;
      refusals = last.refusals;
      writes = subst (λ bs. Appends held now bs) last.text
          (appends-more held a now prompt (shown echo typing.front ++ part_last g echo state t told.refused) prompted
          (appends-more a b now (shown echo typing.front) (part_last g echo state t told.refused) typing.writes told.writes));
      answered = last.answered;
      state_is = told.behind ∙ last.next;
      counts = omega (arith, typing.counts, length-append line []);
    }

-- the prompt couldn't be written whole
pub cut_at_prompt : (g : Game) (echo : Bool) (limit : ℕ) (unread held now : Option (List ℕ)) (state : State) → state.ending ≡ None → Consumes unread unread [] → WroteFront held now (while_going state.ending prompt) → BrokeOff Write g echo [] limit (streams_of unread held) (streams_of unread now) state state
cut_at_prompt g echo limit unread held now state going none broke = record {
  read = [];
  reads = none;
  whole = [];
  typed = [];
  past = [];
  bytes = refl;
  parts = refl;
  ends = inl (inl refl);
  unbroken = refl;
  within = λ other. refl;
  few = λ other. omega arith;
  refusals = [];
  answered = refl;
  state = refl;
  written = broke.written;
  writes = broke.writes;
  front = broke.front;
  begins = λ other. absurd (other refl);
  going = λ other. absurd (other refl);
  typing = λ some. going;
  full = λ wrong. absurd cc;
  timely = nothing_read g echo [] [] state broke.written;
}

-- typing the line broke off
pub cut_in_line : (fault : RunFault) (g : Game) (echo : Bool) (limit : ℕ) (unread rest held a now : Option (List ℕ)) (state : State) → state.ending ≡ None → Appends held a prompt → BrokeTyping fault echo limit (streams_of unread a) (streams_of rest now) → BrokeOff fault g echo [] limit (streams_of unread held) (streams_of rest now) state state
cut_in_line fault g echo limit unread rest held a now state going prompted broke = record {
  read = broke.typed ++ broke.past;
  reads = broke.reads;
  whole = [];
  typed = broke.typed;
  past = broke.past;
  bytes = refl;
  parts = refl;
  ends = inl (inl refl);
  unbroken = broke.unbroken;
  within = broke.within;
  few = broke.few;
  refusals = [];
  answered = refl;
  state = refl;
  written = prompt ++ broke.written;
  writes = appends-more held a now prompt broke.written prompted broke.writes;
  front = broke.front g [] state going;
  begins = λ other. subst (λ bs. IsFront bs (prompt ++ broke.written)) (sym (played-none g echo [] state going)) (front_first prompt broke.written);
  going = λ other. going;
  typing = λ some. going;
  full = broke.full;
  timely = one_read g echo [] state (broke.typed ++ broke.past) broke.written
      (lines-past broke.typed broke.past broke.unbroken (few_past fault broke.past (length (broke.typed ++ broke.past) ≡ suc limit) broke.within broke.full));
}

-- what a line gives couldn't be written whole
pub cut_in_answer : (g : Game) (echo : Bool) (limit left : ℕ) (unread rest held a b now : Option (List ℕ)) (state to : State) (gone : Option CommandScan) (kept : List ℕ)
    → state.ending ≡ None → Appends held a prompt → IsTyping echo limit left (streams_of unread a) (streams_of rest b) (record { gone = gone; kept = kept }) (10 ∷ [])
    → BrokeAnswer (part_told g echo state (record { gone = gone; kept = strip_carriage_return kept })) (state_told g state (record { gone = gone; kept = strip_carriage_return kept })) b now to
    → BrokeOff Write g echo [] limit (streams_of unread held) (streams_of rest now) state to
cut_in_answer g echo limit left unread rest held a b now state to gone kept going prompted typing told =
    let line = typing.front ++ kept in
    let t : Typing = record { gone = gone; kept = strip_carriage_return kept } in
    let answered_line = strip_carriage_return line in
    let part = is_stripped_part g echo told.refused state gone kept typing.front typing.gone typing.keeps in
    let one : lines (line ++ 10 ∷ []) ≡ answered_line ∷ [] = lines-line line [] typing.unbroken in
    let wrote = front-more a b now (shown echo typing.front) (part_told g echo state t told.refused) typing.writes told.writes in
    let near : IsFront wrote.written (echoed echo answered_line ++ (answer_of g told.refused state answered_line).text) =
    subst (λ bs. IsFront wrote.written bs) part.text wrote.front in
    record {
      read = line ++ 10 ∷ [];
      reads = typing.reads;
      whole = line ++ 10 ∷ [];
      typed = [];
      past = [];
      bytes = sym (append-nil (line ++ 10 ∷ []));
      parts = sym (append-nil (lines (line ++ 10 ∷ [])));
      ends = inl (inr (line, refl));
      unbroken = refl;
      within = λ other. refl;
      few = λ other. omega (arith, typing.counts);
      refusals = told.refused ∷ [];
      answered = subst (λ ls. AreAnswered g (told.refused ∷ []) state ls) (sym one) (ap length (exchanges-line g told.refused state answered_line going));
      state = told.behind ∙ part.next ∙ sym (behind-line g told.refused state answered_line going) ∙ ap (λ ls. behind_lines g (told.refused ∷ []) state ls) (sym one);
      written = prompt ++ wrote.written;
      writes = appends-more held a now prompt wrote.written prompted wrote.writes;
      front = subst (λ bs. IsFront (prompt ++ wrote.written) bs) (sym (played-line g echo told.refused state answered_line going) ∙ ap (λ ls. played g echo (told.refused ∷ []) state ls) (sym one))
          (front-append (prompt ++ wrote.written) (prompt ++ (echoed echo answered_line ++ (answer_of g told.refused state answered_line).text)) (while_going (answer_of g told.refused state answered_line).state.ending prompt)
          (front-behind prompt wrote.written (echoed echo answered_line ++ (answer_of g told.refused state answered_line).text) near));
      begins = λ other. absurd (other refl);
      going = λ other. absurd (other refl);
      typing = λ some. absurd (omega (arith, some));
      full = λ wrong. absurd cc;
      timely = one_read g echo (told.refused ∷ []) state (line ++ 10 ∷ []) wrote.written (omega (arith, ap length one));
    }

-- what the last line gives couldn't
pub cut_in_last : (g : Game) (echo : Bool) (limit left : ℕ) (unread rest held a b now : Option (List ℕ)) (state to : State) (gone : Option CommandScan) (kept : List ℕ)
    → state.ending ≡ None → Appends held a prompt → IsTyping echo limit left (streams_of unread a) (streams_of rest b) (record { gone = gone; kept = kept }) [] → IsAtEnd rest
    → BrokeAnswer (part_last g echo state (record { gone = gone; kept = kept })) (state_last g state (record { gone = gone; kept = kept })) b now to
    → BrokeOff Write g echo [] limit (streams_of unread held) (streams_of rest now) state to
cut_in_last g echo limit left unread rest held a b now state to gone kept going prompted typing ends told =
    let line = typing.front ++ kept in
    let t : Typing = record { gone = gone; kept = kept } in
    let last = is_last g echo told.refused state gone kept typing.front going typing.gone typing.unbroken in
    let wrote = front-more a b now (shown echo typing.front) (part_last g echo state t told.refused) typing.writes told.writes in
    record {
      read = line;
      reads = subst (λ bs. Consumes unread rest bs) (append-nil line) typing.reads;
      whole = line;
      typed = [];
      past = [];
      bytes = sym (append-nil line);
      parts = sym (append-nil (lines line));
      ends = inr (refl, ends);
      unbroken = refl;
      within = λ other. refl;
      few = λ other. omega (arith, typing.counts, length-append line []);
      refusals = last.refusals;
      answered = last.answered;
      state = told.behind ∙ last.next;
      written = prompt ++ wrote.written;
      writes = appends-more held a now prompt wrote.written prompted wrote.writes;
      front = subst (λ bs. IsFront (prompt ++ wrote.written) bs) last.text (front-behind prompt wrote.written (shown echo typing.front ++ part_last g echo state t told.refused) wrote.front);
      begins = λ other. absurd (other refl);
      going = λ other. absurd (other refl);
      typing = λ some. absurd (omega (arith, some));
      full = λ wrong. absurd cc;
      timely = one_read g echo last.refusals state line wrote.written (lines-few line typing.unbroken);
    }
