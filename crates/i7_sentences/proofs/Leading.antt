-- Words that begin as no direction's name does name none.
use Rattle.std.proofs.Common.{◌≡◌, ℕ, false, List, [], ◌∷◌, refl}
use Rattle.std.specs.Prelude.{None}
use Rattle.std.specs.Char.{eq_ignore_ascii_case}
use Rattle.std.proofs.lemmas.Bool.{or_parts}
use Rattle.world_meaning.specs.Directions.{direction_name}
use Rattle.i7_sentences.specs.Words.{direction_named, may_lead}

pub not_leading : (word : List ℕ) → may_lead word ≡ false → direction_named word ≡ None
unfolding may_lead direction_name
not_leading [] none = refl
not_leading (letter ∷ more) none =
    let n = or_parts (eq_ignore_ascii_case letter 110) _ none in
    let s = or_parts (eq_ignore_ascii_case letter 115) _ n.1 in
    let e = or_parts (eq_ignore_ascii_case letter 101) _ s.1 in
    let w = or_parts (eq_ignore_ascii_case letter 119) _ e.1 in
    let u = or_parts (eq_ignore_ascii_case letter 117) _ w.1 in
    let d = or_parts (eq_ignore_ascii_case letter 100) _ u.1 in
    let i = or_parts (eq_ignore_ascii_case letter 105) _ d.1 in
    let o = or_parts (eq_ignore_ascii_case letter 111) _ i.1 in
    rw (n.0, s.0, e.0, w.0, u.0, d.0, i.0, o.0) refl
