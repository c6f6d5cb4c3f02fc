-- No name, and no phrase of one, is longer than the longest.
use Rattle.std.proofs.Common.{◌≡◌, ℕ, ◌+◌, ◌-◌, ◌<◌, ◌≤◌, Bool, true, false, ltb, true≢false, List, [], ◌∷◌, ◌++◌, length, drop, refl, sym, ap, ◌∙◌, arith, inl, inr}
use Rattle.std.specs.Prelude.{None, bytes_eq, codes, fold}
use Rattle.std.specs.List.{prefix_len}
use Rattle.std.proofs.lemmas.List.{length-append, length-drop, length-map, length-take}
use Rattle.std.proofs.lemmas.List.Folds.{length-prefix_len}
use Rattle.std.proofs.lemmas.Slice.Eq.{bytes_eq-Decides}
use Rattle.std.specs.Char.{to_ascii_lowercase}
use Rattle.std.proofs.lemmas.Bool.{ltb-true, ltb-false, cases_Bool}
use Rattle.world_meaning.specs.Spelling.{is_article, is_spelled}
use Rattle.i7_claims.specs.NameScans.{IsShort, Standings, longer, longer_claim, longer_fact, no_standings, with_claim, with_fact, with_naming}
use Rattle.i7_claims.specs.Phrases.{behind_word, first_word, is_behind_and, is_denied, is_letter, is_name, is_phrase, kind_said, longest_phrase, name_in, without_article, without_blank}
use Rattle.i7_sentences.specs.Plurals.{front_of}
use Rattle.i7_claims.specs.Plurals.{kind_named}
use Rattle.i7_claims.specs.Wording.{may_end, some_name}
use Rattle.i7_claims.specs.declared.claim.Claim.{Claim}
use Rattle.i7_claims.specs.declared.claim.Fact.{Fact}
use Rattle.i7_claims.specs.declared.claim.Fact.TheVariants.{Stands, Rulebook, Lies, CanBe, HasNumber, HasValue, Values, Demands, RoomUnlessDoor, Between, Placed, Has, Usually, Starts, Unread}
use Rattle.i7_claims.specs.declared.claim.Naming.{Naming}

same_length : (a b : List ℕ) → bytes_eq a b ≡ true → length a ≡ length b
same_length a b h = ap length ((bytes_eq-Decides a b).0 h)

other_length : (a b : List ℕ) → length a < length b → bytes_eq a b ≡ false
other_length a b lt =
    elim (cases_Bool (bytes_eq a b)) [
      | inl is ↦ absurd (omega (arith, lt, same_length a b is))
      | inr isnt ↦ isnt
    ]

-- ---- what stands for something

with_short : (most : ℕ) (known : Standings) (n : Naming) → IsShort most known → IsShort (longer most n) (with_naming known n)
with_short most known n h name long =
    let none : known name ≡ None = h name (omega (arith, long)) in
    let other : bytes_eq n.name name ≡ false = other_length n.name name (omega (arith, long)) in
    rw (none, other) refl

fact_short : (most : ℕ) (known : Standings) (fact : Fact) → IsShort most known → IsShort (longer_fact most fact) (with_fact known fact)
fact_short most known (Stands n) h = with_short most known n h
fact_short most known (Rulebook x) h = h
fact_short most known (Lies x) h = h
fact_short most known (CanBe x) h = h
fact_short most known (HasNumber x) h = h
fact_short most known (HasValue x) h = h
fact_short most known (Values x) h = h
fact_short most known (Demands x) h = h
fact_short most known (RoomUnlessDoor x) h = h
fact_short most known (Between x) h = h
fact_short most known (Placed x) h = h
fact_short most known (Has x) h = h
fact_short most known (Usually x) h = h
fact_short most known (Starts x) h = h
fact_short most known (Unread x) h = h

namings_short : (namings : List Naming) (most : ℕ) (known : Standings) → IsShort most known → IsShort (fold longer most namings) (fold with_naming known namings)
namings_short [] most known h = h
namings_short (n ∷ namings) most known h = namings_short namings (longer most n) (with_naming known n) (with_short most known n h)

claims_short : (claims : List Claim) (most : ℕ) (known : Standings) → IsShort most known → IsShort (fold longer_claim most claims) (fold with_claim known claims)
claims_short [] most known h = h
claims_short (c ∷ claims) most known h = claims_short claims (longer_claim most c) (with_claim known c) (fact_short most known c.fact h)

pub names_are_short : (namings : List Naming) (claims : List Claim) → IsShort (fold longer_claim (fold longer 0 namings) claims) (fold with_claim (fold with_naming no_standings namings) claims)
names_are_short namings claims = claims_short claims _ _ (namings_short namings 0 no_standings (λ name long. refl))

-- ---- what stands in front of a name

spelled_length : (word spelling : List ℕ) → is_spelled word spelling ≡ true → length word ≡ length spelling
spelled_length word spelling h =
    sym (length-map word to_ascii_lowercase) ∙ same_length _ _ h ∙ length-map spelling to_ascii_lowercase

spelled_longer : (word spelling : List ℕ) → length spelling < length word → is_spelled word spelling ≡ false
spelled_longer word spelling lt =
    elim (cases_Bool (is_spelled word spelling)) [
      | inl is ↦ absurd (omega (arith, lt, spelled_length word spelling is))
      | inr isnt ↦ isnt
    ]

long_no_article : (word : List ℕ) → 4 < length word → is_article word ≡ false
unfolding is_article
long_no_article word long =
    let a = spelled_longer word (codes "a") (omega (arith, long)) in
    let an = spelled_longer word (codes "an") (omega (arith, long)) in
    let the = spelled_longer word (codes "the") (omega (arith, long)) in
    let some = spelled_longer word (codes "some") long in
    rw (a, an, the, some) refl

blank_length : (words : List ℕ) → length words ≤ length (without_blank words) + 1
blank_length [] = omega arith
blank_length (b ∷ bytes) = omega arith

behind_length : (words : List ℕ) → length words ≤ length (behind_word words) + length (first_word words) + 1
behind_length words =
    let n = prefix_len is_letter words in
    omega (arith, blank_length (drop n words), length-drop n words, length-prefix_len is_letter words)

behind_short : (words : List ℕ) (most : ℕ) → length (first_word words) ≤ most → length words ≤ length (behind_word words) + most + 1
behind_short words most le = omega (arith, le, behind_length words)

article_length : (words : List ℕ) → length words ≤ length (without_article words) + 5
article_length words =
    elim (cases_Bool (is_article (first_word words))) [
      | inl is ↦
          elim (cases_Bool (ltb 4 (length (first_word words)))) [
            | inl long ↦ absurd (true≢false (sym is ∙ long_no_article (first_word words) (ltb-true _ _ long)))
            | inr short ↦ rw is (omega (arith, behind_short words 4 (ltb-false _ _ short)))
          ]
      | inr isnt ↦ rw isnt (omega arith)
    ]

word_length : (words spelling : List ℕ) → is_spelled (first_word words) spelling ≡ true → length words ≤ length (behind_word words) + length spelling + 1
word_length words spelling is = behind_short words (length spelling) (omega (arith, spelled_length (first_word words) spelling is))

name_length : (phrase : List ℕ) → length phrase ≤ length (name_in phrase) + 14
name_length phrase =
    let a = article_length phrase in
    elim (cases_Bool (is_denied phrase)) [
      | inl is ↦
          let n = word_length (without_article phrase) (codes "not") is in
          let b = article_length (behind_word (without_article phrase)) in
          rw is (omega (arith, a, n, b))
      | inr isnt ↦ rw isnt (omega (arith, a))
    ]

no_long_name : (most : ℕ) (known : Standings) (is_joined : Bool) (phrase : List ℕ) → IsShort most known → most + 14 < length phrase → is_name known is_joined phrase ≡ false
no_long_name most known is_joined phrase h long =
    let none : known (name_in phrase) ≡ None = h (name_in phrase) (omega (arith, long, name_length phrase)) in
    rw none refl

no_long_phrase : (most : ℕ) (known : Standings) (is_joined : Bool) (phrase : List ℕ) → IsShort most known → longest_phrase most < length phrase → is_phrase known is_joined phrase ≡ false
unfolding is_phrase
no_long_phrase most known false phrase h long = no_long_name most known false phrase h (omega (arith, long))
no_long_phrase most known true phrase h long =
    elim (cases_Bool (is_behind_and phrase)) [
      | inl is ↦
          let n = word_length phrase (codes "and") is in
          let none = no_long_name most known true (behind_word phrase) h (omega (arith, long, n)) in
          rw (is, none) refl
      | inr isnt ↦ rw isnt refl
    ]

pub no_longer_name : (most : ℕ) (known : Standings) (is_joined : Bool) (column : List Bool) (front bytes : List ℕ) → IsShort most known → longest_phrase most < length front → some_name known is_joined column front bytes ≡ false
no_longer_name most known is_joined column front [] h long = refl
no_longer_name most known is_joined column front (b ∷ bytes) h long =
    let more : longest_phrase most < length (front ++ b ∷ []) = omega (arith, long, length-append front (b ∷ [])) in
    let none = no_long_phrase most known is_joined (front ++ b ∷ []) h more in
    let rest = no_longer_name most known is_joined column (front ++ b ∷ []) bytes h more in
    elim (cases_Bool (may_end column (front ++ b ∷ []) bytes)) [
      | inl is ↦ rw (is, none, rest) refl
      | inr isnt ↦ rw (isnt, rest) refl
    ]

-- ---- what names a kind

front_length : (count : ℕ) (words : List ℕ) → length words ≤ length (front_of count words) + count
front_length count words = omega (arith, length-take (length words - count) words)

no_long_kind_named : (most : ℕ) (known : Standings) (words : List ℕ) → IsShort most known → most + 10 < length words → kind_named known words ≡ None
no_long_kind_named most known words h long =
    let none : known words ≡ None = h words (omega (arith, long)) in
    let men = spelled_longer words (codes "men") (omega (arith, long)) in
    let women = spelled_longer words (codes "women") (omega (arith, long)) in
    let people = spelled_longer words (codes "people") (omega (arith, long)) in
    let one : known (front_of 1 words) ≡ None = h _ (omega (arith, long, front_length 1 words)) in
    let two : known (front_of 2 words) ≡ None = h _ (omega (arith, long, front_length 2 words)) in
    let three : known (front_of 3 words ++ codes "y") ≡ None = h _ (omega (arith, long, front_length 3 words, length-append (front_of 3 words) (codes "y"))) in
    rw (none, men, women, people, one, two, three) refl

pub no_long_kind : (most : ℕ) (known : Standings) (is_joined : Bool) (words : List ℕ) → IsShort most known → longest_phrase most < length words → kind_said known is_joined words ≡ None
unfolding kind_said
no_long_kind most known true words h long = refl
no_long_kind most known false words h long = no_long_kind_named most known (without_article words) h (omega (arith, long, article_length words))
