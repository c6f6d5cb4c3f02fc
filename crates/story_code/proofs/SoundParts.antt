-- Codes with what is known at each of their places, and parts of codes whose instructions find what they need.
use Rattle.std.proofs.Common.{◌≡◌, ◌∙◌, ap, sym, subst, refl, inl, inr, ℕ, ◌+◌, ◌-◌, ◌==◌, true, false, nat_lt, List, [], ◌∷◌, ◌++◌, length, Some, if◌then◌else◌, arith}
use Rattle.std.proofs.lemmas.Grind.{common_steps}
use Rattle.play_meaning.specs.Instructions.{at_place, size_of, sizes}
use Rattle.play_meaning.specs.Operands.{may_hold, names_what_is_there, operands_behind}
use Rattle.play_meaning.specs.SoundCodes.{IsFine, Label, Labelled, LeadsTo, Ways, bare, loops_around, way_of}
use Rattle.play_meaning.specs.declared.instruction.Instruction.{Instruction}
use Rattle.play_meaning.specs.declared.operand.Counts.{Counts}
use Rattle.play_meaning.specs.declared.operand.Sort.{Sort}
use Rattle.play_meaning.specs.declared.operand.Use.{Use}
use Rattle.play_meaning.specs.declared.operand.Use.TheVariants as role
use Rattle.play_meaning.specs.declared.way.OpenLoop.{OpenLoop}
use Rattle.play_meaning.specs.declared.way.Way.TheVariants.{Ends, Straight}
use Rattle.story_code.proofs.Followed.{sizes_append}
use Rattle.story_code.proofs.Places.{at_cases, at_past}
use Rattle.story_code.proofs.WalkLemmas.{size_of-positive}

-- ---- codes with their labels

-- an instruction, and what is known at its place
pub record Known : Type 0 where
  pub instruction : Instruction
  pub label : Label

abbrev pub codes_of : List Known → List Instruction
codes_of [] = []
codes_of (r ∷ rs) = r.instruction ∷ codes_of rs

abbrev pub label_at : List Known → ℕ → Label
label_at [] q = bare []
label_at (r ∷ rs) q = if q == 0 then r.label else if nat_lt q (size_of r.instruction) then bare [] else label_at rs (q - size_of r.instruction)

abbrev pub labelled : List Known → Labelled
labelled rs = record { code = codes_of rs; at = label_at rs }

-- these stand in a code one behind the other, from a place on, and so much is known there
abbrev pub KnownAt : Labelled → ℕ → List Known → Type 0
KnownAt c q [] = Unit {0}
KnownAt c q (r ∷ rs) = ((at_place c.code q ≡ Some r.instruction) × (c.at q ≡ r.label)) × KnownAt c (q + size_of r.instruction) rs

pub codes-append : (a b : List Known) → codes_of (a ++ b) ≡ codes_of a ++ codes_of b
codes-append [] b = refl
codes-append (r ∷ a) b = ap (λ is. r.instruction ∷ is) (codes-append a b)

pub known_front : (c : Labelled) (q : ℕ) (a b : List Known) → KnownAt c q (a ++ b) → KnownAt c q a
known_front c q [] b known = tt
known_front c q (r ∷ a) b known = (known.0, known_front c (q + size_of r.instruction) a b known.1)

known_back : (c : Labelled) (q : ℕ) (a b : List Known) → KnownAt c q (a ++ b) → KnownAt c (q + sizes (codes_of a)) b
known_back c q [] b known = let e : q ≡ q + 0 = omega arith in subst (λ n. KnownAt c n b) e known
known_back c q (r ∷ a) b known =
    let e : q + size_of r.instruction + sizes (codes_of a) ≡ q + (size_of r.instruction + sizes (codes_of a)) = omega arith in
    subst (λ n. KnownAt c n b) e (known_back c (q + size_of r.instruction) a b known.1)

-- behind a code that these spell
pub known_behind : (c : Labelled) (q : ℕ) (a b : List Known) (code : List Instruction) → codes_of a ≡ code → KnownAt c q (a ++ b) → KnownAt c (q + sizes code) b
known_behind c q a b code spells known = subst (λ is. KnownAt c (q + sizes is) b) spells (known_back c q a b known)

label_past : (r : Known) (rs : List Known) (p q : ℕ) → p ≡ size_of r.instruction + q → label_at (r ∷ rs) p ≡ label_at rs q
label_past r rs p q e =
    let big = size_of-positive r.instruction in
    let nz : (p == 0) ≡ false = grind (arith, common_steps, e, big) in
    let nl : nat_lt p (size_of r.instruction) ≡ false = grind (arith, common_steps, e) in
    let m : p - size_of r.instruction ≡ q = omega (arith, e) in
    ap (λ b. if b then r.label else if nat_lt p (size_of r.instruction) then bare [] else label_at rs (p - size_of r.instruction)) nz
    ∙ ap (λ b. if b then bare [] else label_at rs (p - size_of r.instruction)) nl ∙ ap (label_at rs) m

past_known : (r : Known) (all : List Known) (p q : ℕ) (rs : List Known) → p ≡ size_of r.instruction + q → KnownAt (labelled all) q rs → KnownAt (labelled (r ∷ all)) p rs
past_known r all p q [] e known = tt
past_known r all p q (x ∷ rs) e known =
    let f : p + size_of x.instruction ≡ size_of r.instruction + (q + size_of x.instruction) = omega (arith, e) in
    ((at_past r.instruction (codes_of all) p q e ∙ known.0.0, label_past r all p q e ∙ known.0.1), past_known r all (p + size_of x.instruction) (q + size_of x.instruction) rs f known.1)

-- all that is known of a code stands in it
pub known_all : (rs : List Known) → KnownAt (labelled rs) 0 rs
known_all [] = tt
known_all (r ∷ rs) = ((refl, refl), past_known r rs (0 + size_of r.instruction) 0 rs (omega arith) (known_all rs))

-- nothing is known behind the end
pub bare_behind : (rs : List Known) → label_at rs (sizes (codes_of rs)) ≡ bare []
bare_behind [] = refl
bare_behind (r ∷ rs) = label_past r rs (size_of r.instruction + sizes (codes_of rs)) (sizes (codes_of rs)) refl ∙ bare_behind rs

-- ---- instructions that are fine where they stand

module _ (z : Counts) (whose : Use) where
  -- it is fine, and is no answer
  pub record IsGood (c : Labelled) (q : ℕ) (i : Instruction) : Type 0 where
    pub fine : IsFine z whose c q i
    pub onward : may_hold role.Body i ≡ true

  abbrev pub AreGood : Labelled → ℕ → List Instruction → Type 0
  AreGood c q [] = Unit {0}
  AreGood c q (i ∷ is) = IsGood c q i × AreGood c (q + size_of i) is

  pub good-append : (c : Labelled) (q : ℕ) (a b : List Instruction) → AreGood c q a → AreGood c (q + sizes a) b → AreGood c q (a ++ b)
  good-append c q [] b good more = let e : q + 0 ≡ q = omega arith in subst (λ n. AreGood c n b) e more
  good-append c q (i ∷ a) b good more =
      let e : q + (size_of i + sizes a) ≡ q + size_of i + sizes a = omega arith in
      (good.0, good-append c (q + size_of i) a b good.1 (subst (λ n. AreGood c n b) e more))

  -- what stands at a place of theirs is good
  pub good_there : (c : Labelled) (is : List Instruction) (q r : ℕ) (i : Instruction) → AreGood c q is → at_place is r ≡ Some i → IsGood c (q + r) i
  good_there c [] q r i good at = let no : ⊥ = cc in absurd no
  good_there c (j ∷ is) q r i good at = elim (at_cases j is r i at) [
    | inl f ↦ let e : q ≡ q + r = omega (arith, f.0) in subst (λ x. IsGood c (q + r) x) f.1 (subst (λ n. IsGood c n j) e good.0)
    | inr f ↦ let e : q + size_of j + (r - size_of j) ≡ q + r = omega (arith, f.0) in subst (λ n. IsGood c n i) e (good_there c is (q + size_of j) (r - size_of j) i good.1 f.1)
  ]

  -- by what is known at its place
  pub fine_by : (c : Labelled) (q : ℕ) (i : Instruction) (l : Label) (left : List Sort) → c.at q ≡ l → may_hold whose i ≡ true
      → names_what_is_there z (loops_around whose + length l.loops) i ≡ true → operands_behind z i l.operands ≡ Some left
      → Ways (way_of i) c q (q + size_of i) left l.loops → IsFine z whose c q i
  fine_by c q i l left at allowed named typed ways = record {
    allowed = allowed;
    named = ap (λ l. names_what_is_there z (loops_around whose + length l.loops) i) at ∙ named;
    left = left;
    typed = ap (λ l. operands_behind z i l.operands) at ∙ typed;
    ways = subst (λ l. Ways (way_of i) c q (q + size_of i) left l.loops) (sym at) ways;
  }

  -- ---- parts of codes

  abbrev pub label : List Sort → List OpenLoop → Label
  label operands loops = record { operands = operands; loops = loops }

  -- a part that stands at a place takes these operands inside these loops, leaves those, and is good
  pub record CarriesAt (loops : List OpenLoop) (operands left : List Sort) (q : ℕ) (code : List Instruction) : Type 0 where
    pub known : List Known
    pub spells : codes_of known ≡ code
    pub carried : (c : Labelled) → KnownAt c q known → LeadsTo c (q + sizes code) (label left loops) → LeadsTo c q (label operands loops) × AreGood c q code

  pub carries_nothing : (loops : List OpenLoop) (operands : List Sort) (q : ℕ) → CarriesAt loops operands operands q []
  carries_nothing loops operands q = record {
    known = [];
    spells = refl;
    carried = λ c known behind. let e : q + 0 ≡ q = omega arith in (subst (λ n. LeadsTo c n (label operands loops)) e behind, tt);
  }

  pub carries_seq : (loops : List OpenLoop) (operands middle left : List Sort) (q : ℕ) (a b : List Instruction)
      → CarriesAt loops operands middle q a → CarriesAt loops middle left (q + sizes a) b → CarriesAt loops operands left q (a ++ b)
  carries_seq loops operands middle left q a b x y = record {
    known = x.known ++ y.known;
    spells = codes-append x.known y.known ∙ ap (λ is. is ++ codes_of y.known) x.spells ∙ ap (λ is. a ++ is) y.spells;
    carried = λ c known behind.
        let e : q + sizes (a ++ b) ≡ q + sizes a + sizes b = omega (arith, sizes_append a b) in
        let last = y.carried c (known_behind c q x.known y.known a x.spells known) (subst (λ n. LeadsTo c n (label left loops)) e behind) in
        let first = x.carried c (known_front c q x.known y.known known) last.0 in
        (first.0, good-append c q a b first.1 last.1);
  }

  -- one that goes straight on
  pub carries_one : (loops : List OpenLoop) (operands left : List Sort) (q : ℕ) (i : Instruction) → may_hold whose i ≡ true → may_hold role.Body i ≡ true
      → names_what_is_there z (loops_around whose + length loops) i ≡ true → operands_behind z i operands ≡ Some left → way_of i ≡ Straight
      → CarriesAt loops operands left q (i ∷ [])
  carries_one loops operands left q i allowed onward named typed way = record {
    known = record { instruction = i; label = label operands loops } ∷ [];
    spells = refl;
    carried = λ c known behind.
        let e : q + (size_of i + 0) ≡ q + size_of i = omega arith in
        let leads = subst (λ n. LeadsTo c n (label left loops)) e behind in (
          ((i, known.0.0), known.0.1),
          (record { fine = fine_by c q i (label operands loops) left known.0.1 allowed named typed (subst (λ w. Ways w c q (q + size_of i) left loops) (sym way) leads); onward = onward }, tt),
        );
  }

  -- one that goes nowhere
  pub carries_end : (loops : List OpenLoop) (operands left : List Sort) (q : ℕ) (i : Instruction) → may_hold whose i ≡ true → may_hold role.Body i ≡ true
      → names_what_is_there z (loops_around whose + length loops) i ≡ true → operands_behind z i operands ≡ Some left → way_of i ≡ Ends
      → CarriesAt loops operands [] q (i ∷ [])
  carries_end loops operands left q i allowed onward named typed way = record {
    known = record { instruction = i; label = label operands loops } ∷ [];
    spells = refl;
    carried = λ c known behind.
        let e : q + (size_of i + 0) ≡ q + size_of i = omega arith in
        let leads = subst (λ n. LeadsTo c n (bare loops)) e behind in (
          ((i, known.0.0), known.0.1),
          (
            record {
              fine = fine_by c q i (label operands loops) left known.0.1 allowed named typed
                  (subst (λ w. Ways w c q (q + size_of i) left loops) (sym way) leads.1);
              onward = onward;
            },
            tt,
          ),
        );
  }
