-- What is left of a text behind what was taken.
use Rattle.std.proofs.Common.{◌≡◌, ◌∙◌, ℕ, ◌≤◌, ◌-◌, ◌+◌, List, [], ◌++◌, length, take, ap, sym, subst, refl, append_assoc, length-append, arith}
use Rattle.std.proofs.Math.Seq.{take-append_seam}
use Rattle.golden_transcripts.specs.Transcripts.{IsBehind}

pub behind_two : (before mid after front then : List ℕ) → before ≡ front ++ mid → mid ≡ then ++ after → IsBehind before after
behind_two before mid after front then first second = record {
  front = front ++ then;
  parts = first ∙ ap (λ rest. front ++ rest) second ∙ sym (append_assoc front then after);
}

pub behind_on : (before mid after front : List ℕ) → before ≡ front ++ mid → IsBehind mid after → IsBehind before after
behind_on before mid after front first is = behind_two before mid after front is.front first is.parts

pub behind_behind : (before mid after : List ℕ) → IsBehind before mid → IsBehind mid after → IsBehind before after
behind_behind before mid after first second = behind_two before mid after first.front second.front first.parts second.parts

pub is_no_longer : (before after : List ℕ) → IsBehind before after → length after ≤ length before
is_no_longer before after is = omega (arith, ap length is.parts, length-append is.front after)

-- what stands in front, by its length
pub parted : (before after : List ℕ) → IsBehind before after → before ≡ take (length before - length after) before ++ after
parted before after is =
    let count : length before - length after ≡ length is.front = omega (arith, ap length is.parts, length-append is.front after) in
    is.parts ∙ ap (λ front. front ++ after) (sym (ap (λ n. take n before) count ∙ ap (λ bytes. take (length is.front) bytes) is.parts ∙ take-append_seam is.front after))
