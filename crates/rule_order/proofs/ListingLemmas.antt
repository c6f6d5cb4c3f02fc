-- Sentence by sentence, each rule is listed as the latest about it says.
use Rattle.std.proofs.Common.{◌≡◌, ◌∙◌, sym, subst, refl, ℕ, zero, suc, ◌+◌, ◌<◌, Bool, true, false, List, [], ◌∷◌, length, arith, replicate}
use Rattle.std.specs.Prelude.{◌==◌, Some, slice_get, slice_set, if◌then◌else◌}
use Rattle.std.proofs.lemmas.List.{length-set, length-replicate}
use Rattle.play_meaning.specs.declared.tree.pattern.Listing.{Listing}
use Rattle.play_meaning.specs.declared.tree.pattern.Listing.TheVariants as listing
use Rattle.rule_order.specs.Listings.{AreListings, latest, listed_after, listing_by, listings_after}
use Rattle.rule_order.specs.declared.listing.ListingSentence.{ListingSentence}

set_get : (ls : List Listing) (i r : ℕ) (v x : Listing) → slice_get ls r ≡ Some x → (test : Bool) → (i == r) ≡ test
    → slice_get (slice_set ls i v) r ≡ Some (if test then v else x)
set_get [] i r v x at test is = absurd cc
set_get (y ∷ ls) zero zero v x at true is = refl
set_get (y ∷ ls) zero zero v x at false is = absurd (grind (arith, is))
set_get (y ∷ ls) zero (suc r) v x at true is = absurd (grind (arith, is))
set_get (y ∷ ls) zero (suc r) v x at false is = at
set_get (y ∷ ls) (suc i) zero v x at true is = absurd (grind (arith, is))
set_get (y ∷ ls) (suc i) zero v x at false is = at
set_get (y ∷ ls) (suc i) (suc r) v x at true is = set_get ls i r v x at true (grind (arith, is))
set_get (y ∷ ls) (suc i) (suc r) v x at false is = set_get ls i r v x at false (grind (arith, is))

latest_got : (ls : List Listing) (n : ℕ) (ss : List ListingSentence) (r : ℕ) (x : Listing) → slice_get ls r ≡ Some x
    → slice_get (listings_after ls n ss) r ≡ Some (latest x r n ss)
latest_got ls n [] r x at = at
latest_got ls n (s ∷ ss) r x at =
    let v : Listing = listing_by n s.at in
    latest_got (listed_after ls n s) (n + 1) ss r (if s.rule == r then v else x) (set_get ls s.rule r v x at (s.rule == r) refl)

as_many : (ls : List Listing) (n : ℕ) (ss : List ListingSentence) → length (listings_after ls n ss) ≡ length ls
as_many ls n [] = refl
as_many ls n (s ∷ ss) = as_many (listed_after ls n s) (n + 1) ss ∙ length-set ls s.rule (listing_by n s.at)

replicate_got : (n r : ℕ) (x : Listing) → r < n → slice_get (replicate n x) r ≡ Some x
replicate_got zero r x in' = absurd (omega (arith, in'))
replicate_got (suc n) zero x in' = refl
replicate_got (suc n) (suc r) x in' = replicate_got n r x (omega (arith, in'))

pub listings_are : (rules : ℕ) (ss : List ListingSentence) → AreListings rules ss (listings_after (replicate rules listing.InOrder) 0 ss)
listings_are rules ss = record {
  count = as_many (replicate rules listing.InOrder) 0 ss ∙ length-replicate rules listing.InOrder;
  each = λ rule in'. latest_got (replicate rules listing.InOrder) 0 ss rule listing.InOrder (replicate_got rules rule listing.InOrder in');
}

-- once no sentence is left
pub listings_so : (rules : ℕ) (ss : List ListingSentence) (ls : List Listing) (n : ℕ) (rest : List ListingSentence) → length rest < 1
    → listings_after ls n rest ≡ listings_after (replicate rules listing.InOrder) 0 ss → AreListings rules ss ls
listings_so rules ss ls n [] done same = subst (AreListings rules ss) (sym same) (listings_are rules ss)
listings_so rules ss ls n (s ∷ rest) done same = absurd (omega (arith, done))
