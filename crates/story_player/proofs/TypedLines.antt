-- A line that is being typed, byte by byte, and where typing breaks off.
use Rattle.std.proofs.Common.{◌≡◌, ◌≢◌, ℕ, ◌+◌, ◌<◌, Bool, true, false, List, [], ◌∷◌, ◌++◌, length, refl, ap, sym, ◌∙◌, subst, arith, append_assoc}
use Rattle.std.specs.Prelude.{◌==◌, Option, None, if◌then◌else◌}
use Rattle.std.specs.Io.KnownBytes.{Appends, Consumes}
use Rattle.std.specs.Str.Lines.{lines, strip_carriage_return}
use Rattle.std.proofs.lemmas.Bool.{eqb-true, ne_eqb}
use Rattle.std.proofs.lemmas.List.{length-append, append-nil}
use Rattle.play_meaning.specs.Sessions.{State}
use Rattle.world_meaning.specs.Texts.{prompt}
use Rattle.play_meaning.specs.Transcripts.{played}
use Rattle.play_meaning.specs.Games.{Game}
use Rattle.story_player.specs.Runs.{IsFront, has_break, streams_of}
use Rattle.story_player.specs.Steps.{BrokeTyping, IsTyping, WroteFront, shown}
use Rattle.story_player.specs.Typed.{Typing, flushed, gone_with, is_full, typed_with}
use Rattle.story_player.specs.declared.fault.RunFault.TheVariants.{Read, Write, InputTooLong}
use Rattle.story_player.proofs.Fronts.{front-append, front-behind, front_first, front_nothing, front_self, front_trans}
use Rattle.story_player.proofs.LineLemmas.{break-append, lines-last, lines-line, strip-front}
use Rattle.story_player.proofs.LetGo.{gone-more}
use Rattle.story_player.proofs.Tellings.{shown-append}
use Rattle.story_player.proofs.Transcripts.{front_shown, prompt_first}
use Rattle.story_player.proofs.Writes.{appends-more, consumes-more}

-- no part of a line without a break is lost where its carriage return is dropped
pub strip_behind : (front kept : List ℕ) → (0 < length front → 0 < length kept) → strip_carriage_return (front ++ kept) ≡ front ++ strip_carriage_return kept
strip_behind [] kept keeps = refl
strip_behind (b ∷ bs) kept keeps = strip-front (b ∷ bs) kept (keeps (omega arith))

-- the play of a line that goes on so shows its front behind the prompt
pub record ShowsFront (echo : Bool) (front bytes : List ℕ) : Type 0 where
  pub shows : (g : Game) (refusals : List (Option ℕ)) (state : State) → state.ending ≡ None → IsFront (prompt ++ shown echo front) (played g echo refusals state (lines bytes))

pub shows_by : (echo : Bool) (front line bytes : List ℕ) (others : List (List ℕ)) → lines bytes ≡ line ∷ others → IsFront front line → ShowsFront echo front bytes
shows_by echo front line bytes others first begins = record {
  shows = λ g refusals state going. subst (λ ls. IsFront (prompt ++ shown echo front) (played g echo refusals state ls)) (sym first) (front_shown g echo refusals state front line others going begins);
}

pub shown_nothing : (echo : Bool) → shown echo [] ≡ []
shown_nothing true = refl
shown_nothing false = refl

pub shows_nothing : (echo : Bool) (bytes : List ℕ) → ShowsFront echo [] bytes
shows_nothing echo bytes = record {
  shows = λ g refusals state going.
      subst (λ bs. IsFront (prompt ++ bs) (played g echo refusals state (lines bytes))) (sym (shown_nothing echo))
      (subst (λ bs. IsFront bs (played g echo refusals state (lines bytes))) (sym (append-nil prompt)) (prompt_first g echo refusals state (lines bytes) going));
}

-- the line may be the last
pub shows_last : (echo : Bool) (front kept : List ℕ) → (0 < length front → 0 < length kept) → has_break (front ++ kept) ≡ false → ShowsFront echo front (front ++ kept)
shows_last echo [] kept keeps unbroken = shows_nothing echo kept
shows_last echo (b ∷ bs) kept keeps unbroken =
    shows_by echo (b ∷ bs) ((b ∷ bs) ++ kept) ((b ∷ bs) ++ kept) [] (lines-last ((b ∷ bs) ++ kept) unbroken (omega arith)) (front_first (b ∷ bs) kept)

pub one_more : (line : List ℕ) (byte : ℕ) → 0 < length (line ++ byte ∷ [])
one_more line byte = omega (arith, length-append line (byte ∷ []))

pub unbroken_byte : (byte : ℕ) → byte ≢ 10 → has_break (byte ∷ []) ≡ false
unbroken_byte byte other = rw (ne_eqb byte 10 other) refl

-- or end with its break
pub shows_broken : (echo : Bool) (front kept : List ℕ) → (0 < length front → 0 < length kept) → has_break (front ++ kept) ≡ false → ShowsFront echo front ((front ++ kept) ++ 10 ∷ [])
shows_broken echo front kept keeps unbroken =
    shows_by echo front (strip_carriage_return (front ++ kept)) ((front ++ kept) ++ 10 ∷ []) [] (lines-line (front ++ kept) [] unbroken)
    (strip_carriage_return kept, strip_behind front kept keeps)

-- or have one more byte, whatever it is
pub shows_more : (echo : Bool) (front kept : List ℕ) (byte : ℕ) → (0 < length front → 0 < length kept) → has_break (front ++ kept) ≡ false → ShowsFront echo front ((front ++ kept) ++ byte ∷ [])
shows_more echo front kept byte keeps unbroken =
    let Goal : Bool → Type 0 = λ v. (byte == 10) ≡ v → ShowsFront echo front ((front ++ kept) ++ byte ∷ []) in
    elim (byte == 10) as Goal [
      | true ↦ λ break. subst (λ b. ShowsFront echo front ((front ++ kept) ++ b ∷ [])) (sym (eqb-true byte 10 break)) (shows_broken echo front kept keeps unbroken)
      | false ↦ λ other. shows_by echo front ((front ++ kept) ++ byte ∷ []) ((front ++ kept) ++ byte ∷ []) []
          (lines-last ((front ++ kept) ++ byte ∷ []) (break-append (front ++ kept) (byte ∷ []) unbroken (rw other refl)) (one_more (front ++ kept) byte))
          (front-append front (front ++ kept) (byte ∷ []) (front_first front kept))
    ] refl

-- a read failed
pub cut_by_reader : (echo : Bool) (limit left : ℕ) (unread mid rest held now : Option (List ℕ)) (t : Typing) → IsTyping echo limit left (streams_of unread held) (streams_of mid now) t [] → Consumes mid rest [] → BrokeTyping Read echo limit (streams_of unread held) (streams_of rest now)
cut_by_reader echo limit left unread mid rest held now t typing none = record {
  typed = typing.front ++ t.kept;
  past = [];
  reads = subst (λ bs. Consumes unread rest bs) (append-nil ((typing.front ++ t.kept) ++ [])) (consumes-more unread mid rest ((typing.front ++ t.kept) ++ []) [] typing.reads none);
  unbroken = typing.unbroken;
  within = λ other. refl;
  few = λ other. omega (arith, typing.counts, length-append (typing.front ++ t.kept) []);
  full = λ wrong. absurd cc;
  written = shown echo typing.front;
  writes = typing.writes;
  front = λ g refusals state going. subst (λ bs. IsFront (prompt ++ shown echo typing.front) (played g echo refusals state (lines bs))) (sym (append-nil (typing.front ++ t.kept))) ((shows_last echo typing.front t.kept typing.keeps typing.unbroken).shows g refusals state going);
}

-- there is too much input
pub cut_by_limit : (echo : Bool) (limit left byte : ℕ) (unread mid rest held now : Option (List ℕ)) (t : Typing) → IsTyping echo limit left (streams_of unread held) (streams_of mid now) t [] → left ≡ 0 → Consumes mid rest (byte ∷ []) → BrokeTyping InputTooLong echo limit (streams_of unread held) (streams_of rest now)
cut_by_limit echo limit left byte unread mid rest held now t typing full one = record {
  typed = typing.front ++ t.kept;
  past = byte ∷ [];
  reads = subst (λ bs. Consumes unread rest (bs ++ byte ∷ [])) (append-nil (typing.front ++ t.kept)) (consumes-more unread mid rest ((typing.front ++ t.kept) ++ []) (byte ∷ []) typing.reads one);
  unbroken = typing.unbroken;
  within = λ other. absurd (other refl);
  few = λ other. absurd (other refl);
  written = shown echo typing.front;
  writes = typing.writes;
  front = (shows_more echo typing.front t.kept byte typing.keeps typing.unbroken).shows;
  full = λ same. (refl, omega (arith, full, typing.counts, length-append (typing.front ++ t.kept) [], length-append (typing.front ++ t.kept) (byte ∷ [])));
}

-- what is let go is a front of what is kept
pub flushed_front : (echo : Bool) (t : Typing) → IsFront (shown echo (flushed t)) (shown echo t.kept)
flushed_front echo t =
    let Goal : Bool → Type 0 = λ v. is_full t ≡ v → IsFront (shown echo (flushed t)) (shown echo t.kept) in
    elim (is_full t) as Goal [
      | true ↦ λ full. rw full (front_self (shown echo t.kept))
      | false ↦ λ room. rw room (subst (λ bs. IsFront bs (shown echo t.kept)) (sym (shown_nothing echo)) (front_nothing (shown echo t.kept)))
    ] refl

-- the bytes that were let go couldn't be written whole
pub cut_by_writer : (echo : Bool) (limit left byte : ℕ) (unread mid rest held a now : Option (List ℕ)) (t : Typing) → IsTyping echo limit left (streams_of unread held) (streams_of mid a) t [] → left ≢ 0 → byte ≢ 10 → Consumes mid rest (byte ∷ []) → WroteFront a now (shown echo (flushed t)) → BrokeTyping Write echo limit (streams_of unread held) (streams_of rest now)
cut_by_writer echo limit left byte unread mid rest held a now t typing some other one broke =
    let line = typing.front ++ t.kept in
    let shows = shows_by echo line (line ++ byte ∷ []) (line ++ byte ∷ []) [] (lines-last (line ++ byte ∷ []) (break-append line (byte ∷ []) typing.unbroken (unbroken_byte byte other)) (one_more line byte)) (front_first line (byte ∷ [])) in
    let near : IsFront (shown echo typing.front ++ broke.written) (shown echo line) =
    subst (λ bs. IsFront (shown echo typing.front ++ broke.written) bs) (sym (shown-append echo typing.front t.kept))
    (front-behind (shown echo typing.front) broke.written (shown echo t.kept) (front_trans broke.written (shown echo (flushed t)) (shown echo t.kept) broke.front (flushed_front echo t))) in
    record {
      typed = line ++ byte ∷ [];
      past = [];
      reads = subst (λ bs. Consumes unread rest bs) (ap (λ bs. bs ++ byte ∷ []) (append-nil line) ∙ sym (append-nil (line ++ byte ∷ []))) (consumes-more unread mid rest (line ++ []) (byte ∷ []) typing.reads one);
      unbroken = break-append line (byte ∷ []) typing.unbroken (unbroken_byte byte other);
      within = λ same. refl;
      few = λ same. omega (arith, some, typing.counts, length-append line [], length-append line (byte ∷ []), length-append (line ++ byte ∷ []) []);
      written = shown echo typing.front ++ broke.written;
      writes = appends-more held a now (shown echo typing.front) broke.written typing.writes broke.writes;
      front = λ g refusals state going.
          subst (λ bs. IsFront (prompt ++ (shown echo typing.front ++ broke.written)) (played g echo refusals state (lines bs))) (sym (append-nil (line ++ byte ∷ [])))
          (front_trans (prompt ++ (shown echo typing.front ++ broke.written)) (prompt ++ shown echo line) (played g echo refusals state (lines (line ++ byte ∷ [])))
          (front-behind prompt (shown echo typing.front ++ broke.written) (shown echo line) near) (shows.shows g refusals state going));
      full = λ wrong. absurd cc;
    }

-- one more byte, where bytes must be let go
pub typed_full : (echo : Bool) (limit left byte : ℕ) (unread mid rest held a now : Option (List ℕ)) (t : Typing) → is_full t ≡ true → IsTyping echo limit (left + 1) (streams_of unread held) (streams_of mid a) t [] → byte ≢ 10 → Consumes mid rest (byte ∷ []) → Appends a now (shown echo (flushed t)) → IsTyping echo limit left (streams_of unread held) (streams_of rest now) (record { gone = gone_with t.gone t.kept; kept = byte ∷ [] }) []
typed_full echo limit left byte unread mid rest held a now t full typing other one wrote =
    let line = typing.front ++ t.kept in
    let all = eqb-true (length t.kept) 256 full in
    let out : Appends a now (shown echo t.kept) = subst (λ v. Appends a now (shown echo (if v then t.kept else []))) full wrote in
    record {
      front = line;
      gone = gone-more t.gone typing.front t.kept (omega (arith, all)) typing.gone;
      keeps = λ some. omega arith;
      unbroken = break-append line (byte ∷ []) typing.unbroken (unbroken_byte byte other);
      reads = subst (λ bs. Consumes unread rest bs) (ap (λ bs. bs ++ byte ∷ []) (append-nil line) ∙ sym (append-nil (line ++ byte ∷ []))) (consumes-more unread mid rest (line ++ []) (byte ∷ []) typing.reads one);
      writes = subst (λ bs. Appends held now bs) (sym (shown-append echo typing.front t.kept)) (appends-more held a now (shown echo typing.front) (shown echo t.kept) typing.writes out);
      counts = omega (arith, typing.counts, length-append line [], length-append (line ++ byte ∷ []) [], length-append line (byte ∷ []));
    }

-- one more byte, where there is room
pub typed_room : (echo : Bool) (limit left byte : ℕ) (unread mid rest held a now : Option (List ℕ)) (t : Typing) → is_full t ≡ false → IsTyping echo limit (left + 1) (streams_of unread held) (streams_of mid a) t [] → byte ≢ 10 → Consumes mid rest (byte ∷ []) → Appends a now (shown echo (flushed t)) → IsTyping echo limit left (streams_of unread held) (streams_of rest now) (record { gone = t.gone; kept = t.kept ++ byte ∷ [] }) []
typed_room echo limit left byte unread mid rest held a now t room typing other one wrote =
    let line = typing.front ++ t.kept in
    let same : line ++ byte ∷ [] ≡ typing.front ++ (t.kept ++ byte ∷ []) = append_assoc typing.front t.kept (byte ∷ []) in
    let out : Appends a now [] = subst (λ bs. Appends a now bs) (shown_nothing echo) (subst (λ v. Appends a now (shown echo (if v then t.kept else []))) room wrote) in
    record {
      front = typing.front;
      gone = typing.gone;
      keeps = λ some. one_more t.kept byte;
      unbroken = subst (λ bs. has_break bs ≡ false) same (break-append line (byte ∷ []) typing.unbroken (unbroken_byte byte other));
      reads = subst (λ bs. Consumes unread rest bs) (ap (λ bs. bs ++ byte ∷ []) (append-nil line) ∙ same ∙ sym (append-nil (typing.front ++ (t.kept ++ byte ∷ [])))) (consumes-more unread mid rest (line ++ []) (byte ∷ []) typing.reads one);
      writes = subst (λ bs. Appends held now bs) (append-nil (shown echo typing.front)) (appends-more held a now (shown echo typing.front) [] typing.writes out);
      counts = omega (arith, typing.counts, length-append line [], length-append (typing.front ++ (t.kept ++ byte ∷ [])) [], length-append line (byte ∷ []), ap length same);
    }

pub typed_more : (echo : Bool) (limit left byte : ℕ) (unread mid rest held a now : Option (List ℕ)) (t : Typing) → IsTyping echo limit (left + 1) (streams_of unread held) (streams_of mid a) t [] → byte ≢ 10 → Consumes mid rest (byte ∷ []) → Appends a now (shown echo (flushed t)) → IsTyping echo limit left (streams_of unread held) (streams_of rest now) (typed_with t byte) []
typed_more echo limit left byte unread mid rest held a now t typing other one wrote =
    let Goal : Bool → Type 0 = λ v. is_full t ≡ v → IsTyping echo limit left (streams_of unread held) (streams_of rest now) (typed_with t byte) [] in
    let Typed : Bool → Type 0 = λ v. IsTyping echo limit left (streams_of unread held) (streams_of rest now) (if v then record { gone = gone_with t.gone t.kept; kept = byte ∷ [] } else record { gone = t.gone; kept = t.kept ++ byte ∷ [] }) [] in
    elim (is_full t) as Goal [
      | true ↦ λ full. subst Typed (sym full) (typed_full echo limit left byte unread mid rest held a now t full typing other one wrote)
      | false ↦ λ room. subst Typed (sym room) (typed_room echo limit left byte unread mid rest held a now t room typing other one wrote)
    ] refl
