use Rattle.std.proofs.Common.{List, subst}
use Rattle.std.specs.Prelude.{reverse}
use Rattle.i7_rules.specs.Knowns.{known_of}
use Rattle.i7_rules.specs.RuleList.{rules_lent}
use Rattle.i7_rules.specs.declared.rule_list.RuleAt.{RuleAt as Rule}
use Rattle.i7_resolution.specs.ListingList.{listings_lent}
use Rattle.i7_resolution.specs.ListingScans.{IsSoFar, state_of}
use Rattle.i7_resolution.specs.declared.listing_list.ListingAt.{ListingAt as Lent}
use Rattle.i7_resolution.proofs.ReadListings.{sentences_told}
use Rattle.i7_resolution.proofs.source_listings.listings_of.Goals as goal

pub returns : goal.returns
returns c =
    let k = known_of c.args.known.now in
    let rules = rules_lent c.in_ok-rules.rules.items in
    let so_far = state_of c.in_ok-so_far.so_far in
    sentences_told k c.args.sentences.now rules (listings_lent c.in_ok-listings.listings.items) c.in_ok-so_far.so_far c.told.result c.in_ok-rules.ensures c.in_ok-listings.ensures
    (subst (λ (all : List Rule). IsSoFar k (rules_lent all) (reverse (listings_lent c.in_ok-listings.listings.items)) so_far) c.as_slice-2.ensures.value
    (subst (λ (all : List Lent). IsSoFar k (rules_lent c.as_slice-2.result.now) (reverse (listings_lent all)) so_far) c.as_slice-4.ensures.value c.in_ok-so_far.ensures))
    c.told.ensures
