-- Rules wherever sentences list them: as many, and the same but for where they are listed.
use Rattle.std.proofs.Common.{◌≡◌, ◌∙◌, ap, sym, subst, refl, ℕ, suc, ◌+◌, ◌≤◌, Bool, ◌&&◌, List, [], ◌∷◌, ◌++◌, length, map, arith, length-append}
use Rattle.std.specs.List.{AllZip, list_all}
use Rattle.std.proofs.lemmas.List.{length-map, map-append}
use Rattle.std.proofs.lemmas.Option.{get_or_from_slice_get}
use Rattle.play_meaning.specs.Patterns.{listing_meant}
use Rattle.play_meaning.specs.Rules.{Listed, Rule}
use Rattle.play_meaning.specs.StandardRules.{standard_rules}
use Rattle.play_meaning.specs.declared.tree.pattern.Listing.{Listing}
use Rattle.play_meaning.specs.declared.tree.pattern.Listing.TheVariants.{InOrder}
use Rattle.rule_order.specs.Listings.{AreListings, latest, listed_from}
use Rattle.rule_order.specs.declared.listing.ListingSentence.{ListingSentence}
use Rattle.story_format.specs.Making.{story_rules}
use Rattle.story_format.specs.RuleHeadings.{Headed, headed_as, headed_from, heading_of, listing_at}
use Rattle.story_format.proofs.StandardRuleRows.{standard_count}

pub count_listed : (ss : List ListingSentence) (n : ℕ) (rules : List Rule) → length (listed_from ss n rules) ≡ length rules
count_listed ss n [] = refl
count_listed ss n (rule ∷ rules) = ap suc (count_listed ss (n + 1) rules)

module _ (p : Rule → Bool) (same : (rule : Rule) (l : Listed) → p (record rule { listed = l }) ≡ p rule) where
  pub all_listed : (ss : List ListingSentence) (n : ℕ) (rules : List Rule) → list_all p (listed_from ss n rules) ≡ list_all p rules
  all_listed ss n [] = refl
  all_listed ss n (rule ∷ rules) = λ i. same rule (listing_meant (latest InOrder n 0 ss)) i && all_listed ss (n + 1) rules i

module _ {A : Type 0} (R : A → Rule → Type 0) (keeps : (x : A) (rule : Rule) (l : Listed) → R x rule → R x (record rule { listed = l })) where
  pub zip_listed : (ss : List ListingSentence) (n : ℕ) (xs : List A) (rules : List Rule) → AllZip R xs rules → AllZip R xs (listed_from ss n rules)
  zip_listed ss n [] [] alike = tt
  zip_listed ss n [] (rule ∷ rules) alike = absurd alike
  zip_listed ss n (x ∷ xs) [] alike = absurd alike
  zip_listed ss n (x ∷ xs) (rule ∷ rules) alike = (keeps x rule (listing_meant (latest InOrder n 0 ss)) alike.0, zip_listed ss (n + 1) xs rules alike.1)

-- ---- their headings

headed_append : (ls : List Listing) (n : ℕ) (hs others : List Headed) → headed_from ls n hs ++ headed_from ls (n + length hs) others ≡ headed_from ls n (hs ++ others)
headed_append ls n [] others =
    let here : n + 0 ≡ n = omega arith in
    ap (λ m. headed_from ls m others) here
headed_append ls n (h ∷ hs) others =
    let there : n + suc (length hs) ≡ (n + 1) + length hs = omega arith in
    ap (λ m. headed_from ls n (h ∷ hs) ++ headed_from ls m others) there ∙ ap (λ rest. headed_as (listing_at ls n) h ∷ rest) (headed_append ls (n + 1) hs others)

module _ (ss : List ListingSentence) (ls : List Listing) (count : ℕ) (are : AreListings count ss ls) where
  each_headed : (n : ℕ) (rules : List Rule) → n + length rules ≤ count → headed_from ls n (map heading_of rules) ≡ map heading_of (listed_from ss n rules)
  each_headed n [] le = refl
  each_headed n (rule ∷ rules) le =
      let said : listing_at ls n ≡ latest InOrder n 0 ss = get_or_from_slice_get ls n (latest InOrder n 0 ss) InOrder (are.each n (omega (arith, le))) in
      λ i. headed_as (said i) (heading_of rule) ∷ each_headed (n + 1) rules (omega (arith, le)) i

-- those of all rules of a story
pub all_headed : (ss : List ListingSentence) (ls : List Listing) (rules : List Rule) → AreListings (61 + length rules) ss ls
    → headed_from ls 0 (map heading_of standard_rules) ++ headed_from ls 61 (map heading_of rules) ≡ map heading_of (story_rules ss rules)
all_headed ss ls rules are =
    let first : 61 ≡ 0 + length (map heading_of standard_rules) = omega (arith, length-map standard_rules heading_of, standard_count) in
    let every : List Rule = standard_rules ++ rules in
    ap (λ n. headed_from ls 0 (map heading_of standard_rules) ++ headed_from ls n (map heading_of rules)) first
    ∙ headed_append ls 0 (map heading_of standard_rules) (map heading_of rules) ∙ ap (headed_from ls 0) (sym (map-append heading_of standard_rules rules))
    ∙ each_headed ss ls (61 + length rules) are 0 every (omega (arith, length-append standard_rules rules, standard_count))

-- as they are computed
pub headings_so : (ss : List ListingSentence) (ls lent : List Listing) (rules : List Rule) (count : ℕ) (made : List Headed) → lent ≡ ls → count ≡ 61 + length rules → AreListings count ss ls
    → made ≡ headed_from lent 0 (map heading_of standard_rules) ++ headed_from lent 61 (map heading_of rules) → made ≡ map heading_of (story_rules ss rules)
headings_so ss ls lent rules count made same many are headed =
    headed ∙ ap (λ (l : List Listing). headed_from l 0 (map heading_of standard_rules) ++ headed_from l 61 (map heading_of rules)) same
    ∙ all_headed ss ls rules (subst (λ n. AreListings n ss ls) many are)
