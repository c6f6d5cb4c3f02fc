-- Each instruction of a sound code that leads on takes a run nearer its end, if it lowers no work.
use Rattle.std.proofs.Common.{◌≡◌, ◌∙◌, ap, sym, subst, ℕ, ◌+◌, ◌-◌, ◌*◌, ◌<◌, ◌≤◌, List, [], refl, ◌⊎◌, inl, inr, Some, Ok, Err, arith}
use Rattle.std.proofs.lemmas.Nat.{mul-le, row_fits}
use Rattle.play_meaning.specs.Attempts.{Attempt}
use Rattle.play_meaning.specs.Instructions.{at_place, size_of, sizes}
use Rattle.play_meaning.specs.Machines.{Frame, Goes, State, does, does_at, step}
use Rattle.play_meaning.specs.Progress.{Progress, most_work}
use Rattle.play_meaning.specs.SoundCodes.{IsPlace, IsSound, Labelled, Ways, way_of}
use Rattle.play_meaning.specs.declared.instruction.Instruction.{Instruction}
use Rattle.play_meaning.specs.declared.operand.Counts.{Counts}
use Rattle.play_meaning.specs.declared.operand.Sort.{Sort}
use Rattle.play_meaning.specs.declared.operand.Use.{Use}
use Rattle.play_meaning.specs.declared.way.OpenLoop.{OpenLoop}
use Rattle.play_meaning.specs.declared.way.Way.{Way}
use Rattle.play_meaning.specs.declared.way.Way.TheVariants.{Branch, Ends, Leap, Opens, Straight, Turns}
use Rattle.play_meaning.proofs.Standing.{size_is}
use Rattle.play_meaning.proofs.OperandCounts.{inside}
use Rattle.action_stages.specs.Measures.{Gives, far_at, far_by, far_from, steps_left}
use Rattle.action_stages.proofs.Coming.{Came, Leads, came}
use Rattle.action_stages.proofs.Forward.{ExitBehind, HasTurn, HaveTurns, exits_behind, turns_stand}

-- ---- steps that are left

-- with less far to go and no less work, or with more work
fewer : (work done most size far on : ℕ) → work ≤ done → done ≤ most → on ≤ size → 1 ≤ far → (on < far) ⊎ (work < done) → (most - done) * size + on < (most - work) * size + far
fewer work done most size far on grows within short there (inl nearer) = omega (arith, nearer, mul-le (most - done) size (most - work) size (omega (arith, grows)) (omega arith))
fewer work done most size far on grows within short there (inr more) =
    omega (arith, short, there, row_fits (most - done) size (most - work) size (omega (arith, more, within)) (omega arith))

module _ (z : Counts) (role : Use) (code : List Instruction) (sound : IsSound z role code) where
  abbrev c : Labelled
  c = record { code = code; at = sound.at }

  outside : (sound.at 0).loops ≡ []
  outside = ap (λ l. l.loops) sound.starts.1

  exits : (q : ℕ) (i : Instruction) → at_place code q ≡ Some i → ExitBehind q (sound.at q).loops
  exits = exits_behind z role c sound.fine sound.closed

  turns : (q : ℕ) (i : Instruction) → at_place code q ≡ Some i → HaveTurns code (sound.at q).loops
  turns = turns_stand z role c sound.fine outside

  far_is : (q : ℕ) (i : Instruction) (way : Way) → at_place code q ≡ Some i → way_of i ≡ way → far_from code q ≡ far_by (sizes code) q way
  far_is q i way at is = ap (far_at (sizes code) q) at ∙ ap (far_by (sizes code) q) is

  -- ---- how far a place is from the end

  by_way : (q behind : ℕ) (way : Way) (left : List Sort) (loops : List OpenLoop) → Ways way c q behind left loops → ExitBehind q loops → q < sizes code
      → (1 ≤ far_by (sizes code) q way) × (far_by (sizes code) q way ≤ sizes code - q)
  by_way q behind Straight left loops ways behind_it before = (omega (arith, before), omega arith)
  by_way q behind (Branch to) left loops ways behind_it before = (omega (arith, before), omega arith)
  by_way q behind (Leap to) left loops ways behind_it before = (omega (arith, before), omega arith)
  by_way q behind Opens left loops ways behind_it before = (omega (arith, before), omega arith)
  by_way q behind (Turns exit) left loops ways behind_it before =
      let further = (subst (ExitBehind q) ways.1.1.0 behind_it).0 in
      (omega arith, omega (arith, further, before))
  by_way q behind Ends left loops ways behind_it before = (omega (arith, before), omega arith)

  far_within : (q : ℕ) (i : Instruction) → at_place code q ≡ Some i → (1 ≤ far_from code q) × (far_from code q ≤ sizes code - q)
  far_within q i at =
      let f = sound.fine q i at in
      let far = by_way q (q + size_of i) (way_of i) f.left (sound.at q).loops f.ways (exits q i at) (inside code q i at) in
      let is = far_is q i (way_of i) at refl in
      (omega (arith, far.0, is), omega (arith, far.1, is))

  -- the first place is no loop's, and from none is it further
  pub far_most : (q : ℕ) → IsPlace c q → (1 ≤ far_from code q) × (far_from code q ≤ sizes code)
  far_most q place =
      let far = far_within q place.0 place.1 in
      (far.0, omega (arith, far.1))

  -- ---- ways on

  -- an instruction stands where the run has come to, and it is nearer, or has done more work
  abbrev Nearer : State → State → Type 0
  Nearer s t = IsPlace c t.place × ((far_from code t.place < far_from code s.place) ⊎ (s.progress.work < t.progress.work))

  -- further on, from what is no loop's next turn
  further : (s t : State) (i : Instruction) (r : ℕ) → at_place code s.place ≡ Some i → far_from code s.place ≡ sizes code - s.place → s.place < r → IsPlace c r → t.place ≡ r → Nearer s t
  further s t i r at far less place there =
      let short = (far_within r place.0 place.1).1 in
      let same = ap (far_from code) there in
      (subst (IsPlace c) (sym there) place, inl (omega (arith, short, far, less, same, inside code s.place i at)))

  -- back to the next turn of the loop whose exit stands behind
  back_to : (s t : State) (i : Instruction) (to behind : ℕ) → at_place code s.place ≡ Some i → far_from code s.place ≡ sizes code - s.place → s.place < behind - 1 → behind < sizes code → IsPlace c to
      → HasTurn code (record { head = to; exit = behind }) → t.place ≡ to → Nearer s t
  back_to s t i to behind at far less before place turn there =
      let short = far_is to turn.0 (Turns behind) turn.1.0 turn.1.1 in
      let same = ap (far_from code) there in
      (subst (IsPlace c) (sym there) place, inl (omega (arith, short, far, less, before, same)))

  nearer_by : (s t : State) (i : Instruction) (way : Way) (left : List Sort) → at_place code s.place ≡ Some i → way_of i ≡ way
      → Ways way c s.place (s.place + size_of i) left (sound.at s.place).loops → Leads way s (size_of i) t → Nearer s t
  nearer_by s t i Straight left at is ways leads = further s t i (s.place + size_of i) at (far_is s.place i Straight at is) (omega (arith, size_is i)) ways.0 leads
  nearer_by s t i (Branch to) left at is ways (inl on) = further s t i (s.place + size_of i) at (far_is s.place i (Branch to) at is) (omega (arith, size_is i)) ways.1.1.1.0 on
  nearer_by s t i (Branch to) left at is ways (inr over) = further s t i to at (far_is s.place i (Branch to) at is) ways.1.0 ways.1.1.0.0 over
  nearer_by s t i (Leap to) left at is (none, (leads, inl on)) there = further s t i to at (far_is s.place i (Leap to) at is) on.0 leads.0 there.1
  nearer_by s t i (Leap to) left at is (none, (leads, inr back)) there =
      let loops : HaveTurns code (sound.at s.place).loops = turns s.place i at in
      let turn = (subst (HaveTurns code) back.1.1.0 loops).0 in
      let behind = back.1.1.1.0 in
      back_to s t i to (s.place + size_of i) at (far_is s.place i (Leap to) at is) (omega (arith, there.0)) (inside code (s.place + size_of i) behind.0 behind.1) leads.0 turn there.1
  nearer_by s t i Opens left at is ways leads =
      let opens = ways.1 in
      further s t i (s.place + size_of i) at (far_is s.place i Opens at is) (omega (arith, size_is i)) (opens.0, opens.1.1.0) leads
  nearer_by s t i (Turns exit) left at is ways (inl out) =
      let place = ways.1.1.1.0.0 in
      let short = (far_within exit place.0 place.1).1 in
      let same = ap (far_from code) out in
      (subst (IsPlace c) (sym out) place, inl (omega (arith, short, same, far_is s.place i (Turns exit) at is)))
  nearer_by s t i (Turns exit) left at is ways (inr next) =
      (subst (IsPlace c) (sym next.0) ways.1.1.1.1.0, inr (omega (arith, next.1)))
  nearer_by s t i Ends left at is ways leads = absurd leads

  -- ---- steps

  any : (attempt : Attempt Progress) → Gives (λ p. Unit {0}) attempt
  any (Ok p) = tt
  any (Err reason) = tt

  leads_so : (f : Frame) (s : State) (i : Instruction) → Came f s (λ p. Unit {0}) i (does f s i)
  leads_so f s i = came f s (λ p. Unit {0}) (λ p same. tt) (λ p more few. tt) (λ now. any (f.inner.tries now s.progress)) (λ book. any (f.inner.follows book f.now s.progress)) i

  -- where an instruction leads, one stands, and fewer steps are left there, if the work is no less
  pub falls : (f : Frame) (s t : State) → IsPlace c s.place → step f code s ≡ Goes t → s.progress.work ≤ t.progress.work → t.progress.work ≤ most_work
      → IsPlace c t.place × (steps_left code t < steps_left code s)
  falls f s t place on grows within =
      let fine = sound.fine s.place place.0 place.1 in
      let is = sym (ap (does_at f s) place.1) ∙ on in
      let leads = (subst (Came f s (λ p. Unit {0}) place.0) is (leads_so f s place.0)).0 in
      let nearer = nearer_by s t place.0 (way_of place.0) fine.left place.1 refl fine.ways leads in (
        nearer.0,
        fewer s.progress.work t.progress.work most_work (sizes code) (far_from code s.place) (far_from code t.place) grows within
            (far_most t.place nearer.0).1 (far_most s.place place).0 nearer.1,
      )
