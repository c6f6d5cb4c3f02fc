-- A map in which the first target that an exit is led to stays.
use Rattle.std.proofs.Common.{◌≡◌, ℕ, Bool, true, false, cond, refl}
use Rattle.std.specs.Prelude.{◌==◌, not, Option, Some, None, is_some, option_copied}
use Rattle.std.specs.Borrow.{Bor}
use Rattle.std.proofs.lemmas.Bool.{eqb-true, and_parts}
use Rattle.i7_claims.specs.Firsts.{first_of}
use Rattle.i7_kinds.specs.Views.{exit_eq, given_exit}
use Rattle.i7_kinds.specs.declared.ways.Exit.{Exit}
use Rattle.i7_kinds.specs.declared.ways.Target.{Target}
use Rattle.i7_claims.proofs.Firsts.{first_put}

pub exit_sound : (a b : Exit) → exit_eq a b ≡ true → a ≡ b
exit_sound a b same =
    let both = and_parts (a.room == b.room) (a.direction == b.direction) same in
    λ i. record { room = eqb-true a.room b.room both.0 i; direction = eqb-true a.direction b.direction both.1 i }

-- an exit that leads nowhere yet is led
pub exit_led : (old new : Exit → Option Target) (exit : Exit) (target : Target) → ((q : Exit) → new q ≡ cond (exit_eq exit q) (Some target) (old q)) → old exit ≡ None → (room direction : ℕ) → new (record { room = room; direction = direction }) ≡ first_of (old (record { room = room; direction = direction })) (given_exit exit target room direction)
exit_led old new exit target put none room direction = first_put exit_eq exit_sound (λ x. x) refl old new exit target target refl put none (record { room = room; direction = direction })

pub copied_none : (found : Option (Bor Target)) (none : Bool) → is_some found ≡ not none → none ≡ true → option_copied found ≡ None
copied_none None none e is = refl
copied_none (Some x) true e is = absurd cc
copied_none (Some x) false e is = absurd cc
