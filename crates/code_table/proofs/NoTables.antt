-- What is known of all origins is known of each; and those that have a table of codes aren't among those that have none.
use Rattle.std.proofs.Common.{◌≡◌, subst, refl, ℕ, ◌+◌, true, List, [], ◌∷◌, ◌++◌, length, length-append, arith}
use Rattle.std.specs.List.{AllByRecursion, flat_map}
use Rattle.play_meaning.specs.declared.operand.Counts.{Counts}
use Rattle.story_code.specs.Emitting.{can_say_all}
use Rattle.code_table.specs.Emitted.{AllFit, number_from, origins_from}
use Rattle.code_table.specs.Origins.{Origin, part_of}
use Rattle.code_table.specs.Laws.{NeverTableAndNone}
use Rattle.code_table.specs.declared.fault.TableFault.TheVariants.{TooLong, TooMany, Memory}

pub fits_there : (z : Counts) (string : List ℕ → ℕ) (before behind : List Origin) (origin : Origin) → AllFit z string (before ++ origin ∷ behind) → AllFit z string (origin ∷ behind)
fits_there z string [] behind origin fit = fit
fits_there z string (one ∷ before) behind origin fit = fits_there z string before behind origin fit.1

pub said_there : (string : List ℕ → ℕ) (first : ℕ) (before behind : List Origin) (origin : Origin) → AllByRecursion (λ e. can_say_all e ≡ true) (origins_from string first (before ++ origin ∷ behind))
    → can_say_all (part_of string origin (number_from string first before) 0) ≡ true
said_there string first [] behind origin said = subst (λ n. can_say_all (part_of string origin n 0) ≡ true) (omega arith) said.0
said_there string first (one ∷ before) behind origin said =
    let e = part_of string one first 0 in
    let later = said_there string (first + length e.tests) before behind origin said.1 in
    subst (λ n. can_say_all (part_of string origin n 0) ≡ true) (number_further string first one before) later
  where
    number_further : (string : List ℕ → ℕ) (first : ℕ) (one : Origin) (before : List Origin)
        → number_from string (first + length (part_of string one first 0).tests) before ≡ number_from string first (one ∷ before)
    number_further string first one before =
        let e = part_of string one first 0 in
        omega (arith, length-append e.tests (flat_map (λ e. e.tests) (origins_from string (first + length e.tests) before)))

pub never_both : NeverTableAndNone
never_both z string origins TooLong fits can none = absurd (none fits can.each)
never_both z string origins TooMany fits can many = absurd (omega (arith, many, can.few))
never_both z string origins Memory fits can none = refl
