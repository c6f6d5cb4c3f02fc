-- Phrases one behind the other.
use Rattle.std.proofs.Common.{◌≡◌, ℕ, zero, suc, ◌+◌, ◌<◌, ◌≤◌, List, [], ◌∷◌, ◌++◌, length, drop, get_or, Option, None, Some, false, is_some, refl, sym, ap, ◌∙◌, arith}
use Rattle.std.proofs.Math.ListN.{drop_of_length-le}
use Rattle.play_meaning.specs.Meant.{body_meant, phrase_meant}
use Rattle.play_meaning.specs.Instructions.{sizes}
use Rattle.play_meaning.specs.Translation.{Emitted, Part, behind, body_part, loop, nothing, one, phrase_part, seq}
use Rattle.play_meaning.specs.declared.instruction.Instruction.{Instruction}
use Rattle.play_meaning.specs.declared.instruction.Instruction.TheVariants.{Begin, Jump, Next}
use Rattle.play_meaning.specs.declared.tree.phrase.Phrase.{Phrase}
use Rattle.story_code.specs.Emitting.{Emitting, can_say_all, emitted, followed_if, kept_if}
use Rattle.story_code.proofs.Followed.{emitted_seq}

-- the phrase at an index, then those behind it
body_from : (string : List ℕ → ℕ) (k : ℕ) (s : Emitting) (body : List Phrase) (at : ℕ) (d : Phrase) → at < length body → emitted (emitted s (phrase_part string k (phrase_meant (get_or body at d)))) (body_part string k (body_meant (drop (suc at) body))) ≡ emitted s (body_part string k (body_meant (drop at body)))
unfolding body_part
body_from string k s [] at d l = absurd (omega (arith, l))
body_from string k s (p ∷ body) zero d l = emitted_seq s (phrase_part string k (phrase_meant p)) (body_part string k (body_meant body))
body_from string k s (p ∷ body) (suc at) d l = body_from string k s body at d (omega (arith, l))

pub body_step : (string : List ℕ → ℕ) (k : ℕ) (s t all : Emitting) (body : List Phrase) (at : ℕ) (p : Phrase) → at < length body → p ≡ get_or body at p → emitted s (body_part string k (body_meant (drop at body))) ≡ all → t ≡ emitted s (phrase_part string k (phrase_meant p)) → emitted t (body_part string k (body_meant (drop (at + 1) body))) ≡ all
body_step string k s t all body at p l is so_far is_t =
    let next : at + 1 ≡ suc at = omega arith in
    ap (λ n. emitted t (body_part string k (body_meant (drop n body)))) next
    ∙ ap (λ u. emitted u (body_part string k (body_meant (drop (suc at) body)))) (is_t ∙ ap (λ q. emitted s (phrase_part string k (phrase_meant q))) is) ∙ body_from string k s body at p l ∙ so_far

pub body_end : (string : List ℕ → ℕ) (k : ℕ) (s all : Emitting) (body : List Phrase) (at : ℕ) → length body ≤ at → s ≡ emitted s nothing → emitted s (body_part string k (body_meant (drop at body))) ≡ all → s ≡ all
unfolding body_part
body_end string k s all body at l settled so_far = settled ∙ ap (λ rest. emitted s (body_part string k (body_meant rest))) (sym (drop_of_length-le body l)) ∙ so_far

-- what is lost stays lost
lost_kept : (first : ℕ) (part : Part) (kept : Option Emitted) → false ≡ is_some kept → kept ≡ followed_if first part kept
lost_kept first part None h = refl
lost_kept first part (Some e) h = let no : ⊥ = cc in absurd no

pub lost_stays : (s : Emitting) (part : Part) → false ≡ is_some s.kept → s ≡ emitted s part
unfolding emitted
lost_stays s part h = ap (λ kept. record { first = s.first; kept = kept }) (lost_kept s.first part s.kept h)

abbrev loop_more : ℕ → List Instruction → Part → Part
loop_more k passes body test place =
    let turn = body (test + 1) (place + 6) in
    record { code = Next k test (place + 6 + sizes turn.code + 3) ∷ (turn.code ++ Jump place ∷ []); tests = passes ∷ turn.tests }

-- a loop is its beginning, and the rest
loop_begins : (k : ℕ) (passes : List Instruction) (body : Part) (test place : ℕ) → seq (one (Begin k)) (loop_more k passes body) test place ≡ loop k passes body test place
unfolding loop seq
loop_begins k passes body test place =
    let at : ℕ → ℕ → ℕ → Emitted = λ t p q. let turn = body (t + 1) p in record { code = Begin k ∷ Next k t (p + sizes turn.code + 3) ∷ (turn.code ++ Jump q ∷ []); tests = passes ∷ turn.tests } in
    ap (λ t. at t (place + 2 + 6) (place + 2)) (omega arith) ∙ ap (λ p. at test p (place + 2)) (omega arith)

-- where the loop's beginning is lost, the loop is
pub loop_lost : (s t : Emitting) (k : ℕ) (passes : List Instruction) (body : Part) → t ≡ emitted s (one (Begin k)) → false ≡ is_some t.kept → t ≡ emitted s (loop k passes body)
unfolding emitted
loop_lost s t k passes body is_t lost =
    lost_stays t (loop_more k passes body) lost ∙ ap (λ t. emitted t (loop_more k passes body)) is_t ∙ emitted_seq s (one (Begin k)) (loop_more k passes body)
    ∙ ap (λ kept. record { first = s.first; kept = kept }) (by_kept s.kept)
  where
    by_kept : (kept : Option Emitted) → followed_if s.first (seq (one (Begin k)) (loop_more k passes body)) kept ≡ followed_if s.first (loop k passes body) kept
    by_kept None = refl
    by_kept (Some e) = ap (λ x. let all = behind e x in kept_if (can_say_all all) all) (loop_begins k passes body (s.first + length e.tests) (sizes e.code))
