-- Choices of several branches: the jumps of all are aimed when the choice is whole, those of the last branch first.
use Rattle.std.proofs.Common.{◌≡◌, ℕ, zero, suc, ◌+◌, ◌<◌, List, [], ◌∷◌, ◌++◌, length, drop, get_or, Option, None, Some, refl, sym, ap, ◌∙◌, arith, append_assoc, append-nil, slice_get}
use Rattle.play_meaning.specs.Instructions.{size_of, sizes}
use Rattle.play_meaning.specs.Meant.{body_meant, branches_meant, condition_meant}
use Rattle.play_meaning.specs.Trees as tree
use Rattle.play_meaning.specs.Translation.{Emitted, Part, behind, body_part, condition_part, nothing, one, phrase_part, seq}
use Rattle.play_meaning.specs.declared.instruction.Instruction.{Instruction}
use Rattle.play_meaning.specs.declared.instruction.Instruction.TheVariants.{IfZero, Jump}
use Rattle.play_meaning.specs.declared.tree.phrase.Branch.{Branch}
use Rattle.play_meaning.specs.declared.tree.phrase.Phrase.{Phrase}
use Rattle.story_code.specs.Choosing.{Choosing, asked, branch_emitted, branches_emitted, choosing, done, landed, leap_of, leapt}
use Rattle.story_code.specs.Emitting.{Emitting, aimed, aimed_code, aims, can_say_all, count_in, emitted, followed_if, kept_if, place_in, set_if}
use Rattle.story_code.specs.declared.emitting.phrase.Leap.{Leap}
use Rattle.story_code.proofs.Aimed.{choice_aimed}
use Rattle.story_code.proofs.Followed.{aims_size}

-- ---- aimed jumps leave all places as they are

aimed_more : (i : Instruction) (code : List Instruction) (at : ℕ) (f : Instruction → Instruction) (found : Option Instruction) → set_if (i ∷ code) (suc at) f found ≡ i ∷ set_if code at f found
aimed_more i code at f None = refl
aimed_more i code at f (Some x) = refl

sizes_aimed : (code : List Instruction) (at to : ℕ) → sizes (aimed_code code at to) ≡ sizes code
unfolding aimed_code
sizes_aimed [] at to = refl
sizes_aimed (i ∷ code) zero to = ap (λ n. n + sizes code) (aims_size to i)
sizes_aimed (i ∷ code) (suc at) to = ap sizes (aimed_more i code at (aims to) (slice_get code at)) ∙ ap (λ n. size_of i + n) (sizes_aimed code at to)

kept_aimed : (at to : ℕ) (first : ℕ) (kept : Option Emitted) → place_in (aimed at to (record { first = first; kept = kept })).kept ≡ place_in kept
unfolding aimed
kept_aimed at to first None = refl
kept_aimed at to first (Some e) = sizes_aimed e.code at to

place_landed : (end : ℕ) (leaps : List Leap) (s : Emitting) → place_in (landed end leaps s).kept ≡ place_in s.kept
place_landed end [] s = refl
place_landed end (leap ∷ leaps) s =
    let inner = landed end leaps s in
    let past = aimed leap.past leap.next inner in
    kept_aimed leap.last end past.first past.kept ∙ kept_aimed leap.past leap.next inner.first inner.kept ∙ place_landed end leaps s

-- ---- one more that is aimed

landed_last : (end : ℕ) (leaps : List Leap) (leap : Leap) (s : Emitting) → landed end leaps (aimed leap.last end (aimed leap.past leap.next s)) ≡ landed end (leaps ++ leap ∷ []) s
landed_last end [] leap s = refl
landed_last end (first ∷ leaps) leap s = ap (λ t. aimed first.last end (aimed first.past first.next t)) (landed_last end leaps leap s)

pub land_step : (s t u all : Emitting) (end : ℕ) (rest front : List Leap) (leap : Leap) → rest ≡ front ++ leap ∷ [] → landed end rest s ≡ all → t ≡ aimed leap.past leap.next s → u ≡ aimed leap.last end t → landed end front u ≡ all
land_step s t u all end rest front leap is so_far is_t is_u =
    ap (landed end front) (is_u ∙ ap (aimed leap.last end) is_t) ∙ landed_last end front leap s ∙ ap (λ leaps. landed end leaps s) (sym is) ∙ so_far

-- ---- branches one behind the other

module _ (string : List ℕ → ℕ) (k : ℕ) where
  -- the jumps of branches come behind those that are there
  apart : (c : Choosing) (branches : List Branch) → let rest = branches_emitted string k (choosing c.out []) branches in branches_emitted string k c branches ≡ choosing rest.out (c.leaps ++ rest.leaps)
  unfolding branch_emitted
  apart c [] = ap (choosing c.out) (sym (append-nil c.leaps))
  apart c (branch ∷ branches) =
      let s = leapt string k branch c.out in
      let leap = leap_of string k branch c.out in
      let rest = branches_emitted string k (choosing s []) branches in
      apart (choosing s (c.leaps ++ leap ∷ [])) branches ∙ ap (choosing rest.out) (append_assoc c.leaps (leap ∷ []) rest.leaps)
      ∙ sym (ap (λ r. choosing r.out (c.leaps ++ r.leaps)) (apart (choosing s (leap ∷ [])) branches))

  pub branches_step : (c d all : Choosing) (branches : List Branch) (at : ℕ) (b : Branch) → at < length branches → b ≡ get_or branches at b → branches_emitted string k c (drop at branches) ≡ all → d ≡ branch_emitted string k c b → branches_emitted string k d (drop (at + 1) branches) ≡ all
  branches_step c d all branches at b l is so_far is_d =
      let next : at + 1 ≡ suc at = omega arith in
      ap (λ n. branches_emitted string k d (drop n branches)) next
      ∙ ap (λ d. branches_emitted string k d (drop (suc at) branches)) (is_d ∙ ap (branch_emitted string k c) is) ∙ from c branches at b l ∙ so_far
    where
      from : (c : Choosing) (branches : List Branch) (at : ℕ) (b : Branch) → at < length branches → branches_emitted string k (branch_emitted string k c (get_or branches at b)) (drop (suc at) branches) ≡ branches_emitted string k c (drop at branches)
      from c [] at b l = absurd (omega (arith, l))
      from c (x ∷ branches) zero b l = refl
      from c (x ∷ branches) (suc at) b l = from c branches at b (omega (arith, l))

  -- ---- the choice

  nothing_more : (s : Emitting) (p : Part) → emitted s p ≡ emitted s (seq p nothing)
  unfolding emitted seq
  nothing_more s p = ap (λ kept. record { first = s.first; kept = kept }) (by_kept s.kept)
    where
      by_kept : (kept : Option Emitted) → followed_if s.first p kept ≡ followed_if s.first (seq p nothing) kept
      by_kept None = refl
      by_kept (Some e) =
          let x = p (s.first + length e.tests) (sizes e.code) in
          ap (λ y. let all = behind e y in kept_if (can_say_all all) all)
          (ap (λ code. record { code = code; tests = x.tests }) (sym (append-nil x.code)) ∙ ap (λ tests. record { code = x.code ++ []; tests = tests }) (sym (append-nil x.tests)))

  abbrev chosen : Branch → List Branch → tree.Body → tree.Phrase
  chosen branch branches others = tree.If (condition_meant branch.condition) (body_meant branch.phrases.items) (branches_meant branches others)

  -- what was emitted, with all jumps aimed at its end
  abbrev whole : tree.Body → Choosing → Emitting
  whole others c = let last = emitted c.out (body_part string k others) in landed (place_in last.kept) c.leaps last

  -- a branch in front of branches whose jumps lead where they should
  one_landed : (s : Emitting) (branch : Branch) (branches : List Branch) (others : tree.Body)
      → let s4 = leapt string k branch s in
      whole others (branches_emitted string k (choosing s4 []) branches) ≡ emitted s4 (body_part string k (branches_meant branches others))
      → whole others (branches_emitted string k (choosing s []) (branch ∷ branches)) ≡ emitted s (phrase_part string k (chosen branch branches others))
  unfolding phrase_part branch_emitted
  one_landed s branch branches others inner =
      let s4 = leapt string k branch s in
      let leap = leap_of string k branch s in
      let rest = branches_emitted string k (choosing s4 []) branches in
      let last = emitted rest.out (body_part string k others) in
      let end = place_in last.kept in
      let s5 = emitted s4 (body_part string k (branches_meant branches others)) in
      let end_is : end ≡ place_in s5.kept = sym (place_landed end rest.leaps last) ∙ ap (λ t. place_in t.kept) inner in
      ap (whole others) (apart (choosing s4 (leap ∷ [])) branches)
      ∙ ap (λ t. aimed leap.last end (aimed leap.past leap.next t)) inner
      ∙ ap (λ end. aimed leap.last end (aimed leap.past leap.next s5)) end_is
      ∙ choice_aimed s.first s.kept (condition_part k (condition_meant branch.condition)) (body_part string k (body_meant branch.phrases.items)) (body_part string k (branches_meant branches others))

  rest_landed : (s : Emitting) (branches : List Branch) (others : tree.Body) → whole others (branches_emitted string k (choosing s []) branches) ≡ emitted s (body_part string k (branches_meant branches others))
  unfolding body_part
  rest_landed s [] others = refl
  rest_landed s (branch ∷ branches) others =
      one_landed s branch branches others (rest_landed (leapt string k branch s) branches others) ∙ nothing_more s (phrase_part string k (chosen branch branches others))

  -- ---- the parts of a branch

  pub branch_is : (branch : Branch) (s s1 s2 s3 s4 : Emitting) (phrases : List Phrase) (past next last : ℕ) (ls ls1 : List Leap)
      → s1 ≡ emitted s (condition_part k (condition_meant branch.condition)) → past ≡ count_in s1.kept → s2 ≡ emitted s1 (one (IfZero 0)) → phrases ≡ branch.phrases.items
      → s3 ≡ emitted s2 (body_part string k (body_meant phrases)) → last ≡ count_in s3.kept → s4 ≡ emitted s3 (one (Jump 0)) → next ≡ place_in s4.kept
      → ls1 ≡ ls ++ record { past = past; next = next; last = last } ∷ [] → choosing s4 ls1 ≡ branch_emitted string k (choosing s ls) branch
  unfolding branch_emitted
  branch_is branch s s1 s2 s3 s4 phrases past next last ls ls1 h1 at1 h2 is_phrases h3 at3 h4 to4 h5 =
      let leaps : ℕ → ℕ → ℕ → List Leap = λ past next last. ls ++ record { past = past; next = next; last = last } ∷ [] in
      let i3 : s3 ≡ done string k branch s =
      h3 ∙ ap (λ x. emitted s2 (body_part string k (body_meant x))) is_phrases
      ∙ ap (λ t. emitted t (body_part string k (body_meant branch.phrases.items))) (h2 ∙ ap (λ t. emitted t (one (IfZero 0))) h1) in
      let i4 : s4 ≡ leapt string k branch s = h4 ∙ ap (λ t. emitted t (one (Jump 0))) i3 in
      ap (choosing s4) (h5 ∙ ap (λ n. leaps n next last) (at1 ∙ ap (λ t. count_in t.kept) h1)
      ∙ ap (λ n. leaps (count_in (asked k branch s).kept) n last) (to4 ∙ ap (λ t. place_in t.kept) i4)
      ∙ ap (leaps (count_in (asked k branch s).kept) (place_in (leapt string k branch s).kept)) (at3 ∙ ap (λ t. count_in t.kept) i3))
      ∙ ap (λ t. choosing t (ls ++ leap_of string k branch s ∷ [])) i4

  pub choice_landed : (first : Branch) (branches : List Branch) (others : tree.Body) (s s1 s2 s3 s4 : Emitting) (ls ls1 ls2 : List Leap)
      → ls ≡ [] → choosing s1 ls1 ≡ branch_emitted string k (choosing s ls) first → choosing s2 ls2 ≡ branches_emitted string k (choosing s1 ls1) branches
      → s3 ≡ emitted s2 (body_part string k others) → s4 ≡ landed (place_in s3.kept) ls2 s3 → s4 ≡ emitted s (phrase_part string k (chosen first branches others))
  choice_landed first branches others s s1 s2 s3 s4 ls ls1 ls2 none h1 h2 h3 h4 =
      let all : choosing s2 ls2 ≡ branches_emitted string k (choosing s []) (first ∷ branches) = h2 ∙ ap (λ c. branches_emitted string k c branches) (h1 ∙ ap (λ ls. branch_emitted string k (choosing s ls) first) none) in
      h4 ∙ ap (λ s. landed (place_in s.kept) ls2 s) h3 ∙ ap (whole others) all ∙ one_landed s first branches others (rest_landed (leapt string k first s) branches others)
