-- The counts of kinds of value, as they are put in place one by one.
use Rattle.std.proofs.Common.{◌≡◌, ℕ, zero, suc, ◌+◌, ◌≤◌, ◌<◌, List, [], ◌∷◌, ◌++◌, append_assoc, length, map, refl, sym, ap, ◌∙◌, arith}
use Rattle.std.specs.Prelude.{get_or, replicate}
use Rattle.std.specs.List.{slice_set}
use Rattle.std.proofs.lemmas.List.{append-nil, length-append}
use Rattle.story_format.specs.Counts.{name_count, padded}
use Rattle.story_format.specs.declared.value_tables.ValueEntry.{ValueEntry}

-- each number at its place, from a place on
abbrev pub put_all : List ℕ → ℕ → List ℕ → List ℕ
put_all counts place [] = counts
put_all counts place (n ∷ ns) = put_all (slice_set counts place n) (place + 1) ns

set_past : (counts : List ℕ) (place n : ℕ) → length counts ≤ place → slice_set counts place n ≡ counts
set_past [] place n le = refl
set_past (c ∷ counts) zero n le = absurd (omega (arith, le))
set_past (c ∷ counts) (suc place) n le = ap (λ (cs : List ℕ). c ∷ cs) (set_past counts place n (omega (arith, le)))

set_there : (front back : List ℕ) (m n : ℕ) → slice_set (front ++ m ∷ back) (length front) n ≡ front ++ n ∷ back
set_there [] back m n = refl
set_there (f ∷ front) back m n = ap (λ (cs : List ℕ). f ∷ cs) (set_there front back m n)

past : (counts : List ℕ) (place : ℕ) (ns : List ℕ) → length counts ≤ place → put_all counts place ns ≡ counts
past counts place [] le = refl
past counts place (n ∷ ns) le =
    let same = set_past counts place n le in
    ap (λ (cs : List ℕ). put_all cs (place + 1) ns) same ∙ past counts (place + 1) ns (omega (arith, le))

zeros : (count : ℕ) → replicate count 0 ≡ padded count []
unfolding padded
zeros zero = refl
zeros (suc count) = ap (λ (rest : List ℕ). 0 ∷ rest) (zeros count)

put_on : (count : ℕ) (front ns : List ℕ) → put_all (front ++ replicate count 0) (length front) ns ≡ front ++ padded count ns
unfolding padded
put_on zero front ns =
    let all : front ++ [] ≡ front = append-nil front in
    past (front ++ []) (length front) ns (omega (arith, ap length all))
put_on (suc count) front [] = ap (λ (rest : List ℕ). front ++ 0 ∷ rest) (zeros count)
put_on (suc count) front (n ∷ ns) =
    let next : length front + 1 ≡ length (front ++ n ∷ []) = sym (length-append front (n ∷ [])) in
    ap (λ (cs : List ℕ). put_all cs (length front + 1) ns) (set_there front (replicate count 0) 0 n ∙ sym (append_assoc front (n ∷ []) (replicate count 0)))
    ∙ ap (λ place. put_all ((front ++ n ∷ []) ++ replicate count 0) place ns) next
    ∙ put_on count (front ++ n ∷ []) ns ∙ append_assoc front (n ∷ []) (padded count ns)

pub put_padded : (count : ℕ) (ns : List ℕ) → put_all (replicate count 0) 0 ns ≡ padded count ns
put_padded count ns = put_on count [] ns

-- where all are put
pub all_put : (count : ℕ) (counts : List ℕ) (place : ℕ) (rest values : List ValueEntry) → length rest < 1 → put_all counts place (map name_count rest) ≡ put_all (replicate count 0) 0 (map name_count values) → counts ≡ padded count (map name_count values)
all_put count counts place [] values lt same = same ∙ put_padded count (map name_count values)
all_put count counts place (v ∷ rest) values lt same = absurd (omega (arith, lt))

-- what is padded says the same, as far as it goes
pub padded_there : (count : ℕ) (ns : List ℕ) (i : ℕ) → length ns ≤ count → get_or (padded count ns) i 0 ≡ get_or ns i 0
unfolding padded
padded_there zero [] i le = refl
padded_there zero (n ∷ ns) i le = absurd (omega (arith, le))
padded_there (suc count) [] zero le = refl
padded_there (suc count) [] (suc i) le = padded_there count [] i (omega arith)
padded_there (suc count) (n ∷ ns) zero le = refl
padded_there (suc count) (n ∷ ns) (suc i) le = padded_there count ns i (omega (arith, le))
