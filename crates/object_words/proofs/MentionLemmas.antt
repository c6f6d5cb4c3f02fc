-- How many strings are mentioned.
use Rattle.std.proofs.Common.{◌≡◌, ℕ, ◌+◌, ◌≤◌, List, [], ◌∷◌, length, inl, inr, refl, arith}
use Rattle.std.specs.Prelude.{fold}
use Rattle.std.specs.List.{list_any}
use Rattle.std.specs.Str.{bytes_eq}
use Rattle.std.proofs.lemmas.List.{length-append}
use Rattle.std.proofs.lemmas.Bool.{cases_Bool}
use Rattle.object_words.specs.Mentions.{mention}

pub mentioned_few : (xs seen : List (List ℕ)) → length (fold mention seen xs) ≤ length seen + length xs
mentioned_few [] seen = omega arith
mentioned_few (x ∷ xs) seen =
    let later = mentioned_few xs (mention seen x) in
    elim (cases_Bool (list_any (bytes_eq x) seen)) [
      | inl is ↦ let same : length (mention seen x) ≡ length seen = rw is refl in omega (arith, later, same)
      | inr isnt ↦ let one : length (mention seen x) ≡ length seen + 1 = rw isnt (length-append seen (x ∷ [])) in omega (arith, later, one)
    ]
