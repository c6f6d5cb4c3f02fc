-- What is given of words that ask something of an action's nouns is what they ask.
use Rattle.std.proofs.Common.{◌≡◌, ℕ, ◌≤◌, true, false, List, [], ◌∷◌, length, take, drop, refl, sym, ◌∙◌, subst, arith, inl, inr}
use Rattle.std.specs.Prelude.{Option, Some, None}
use Rattle.std.specs.Option.{option_map}
use Rattle.std.proofs.lemmas.Bool.{cases_Bool}
use Rattle.play_meaning.specs.Rules.{Anything, Aspect}
use Rattle.i7_actions.specs.Parts.{behind, first_part, is_name, second_part}
use Rattle.i7_actions.specs.declared.action.Action.{Action}
use Rattle.i7_actions.specs.declared.action.NounCount.{NounCount}
use Rattle.i7_actions.specs.declared.action.NounCount.TheVariants.{Zero, One, Two}
use Rattle.i7_conditions.specs.Scopes.{Scope}
use Rattle.i7_conditions.specs.Words.{Word}
use Rattle.i7_conditions.proofs.Listing.{MadeOfTwo}
use Rattle.i7_patterns.specs.ActionForms.{alone_asked, nouns_around, nouns_asked, nouns_at, nouns_behind, nouns_by, nouns_of, omitted_or_asked, pair, without_second}
use Rattle.i7_patterns.specs.Actions.{AsksAround, AsksBehind, AsksBy, AsksFirst, AsksLast, AsksNouns, IsAlone, IsOmitted, Nouns}
use Rattle.i7_patterns.specs.AspectForms.{noun_asked}
use Rattle.i7_patterns.specs.Aspects.{AsksNoun}
use Rattle.i7_patterns.proofs.Described.{noun_given}
use Rattle.i7_patterns.proofs.Given.{IsGiven, IsSearched, both_given, given_as, lowest_as, searched}

-- ---- one noun

not_omitted : (word : Word) (words : List Word) (x : Aspect) → IsOmitted (word ∷ words) x → ⊥
not_omitted word words x none = let both : false ≡ true = none.0 in absurd cc

not_one : (s : Scope) (word : Word) (words : List Word) (x : Aspect) → AsksFirst s One (word ∷ words) x → AsksNoun s (word ∷ words) x
not_one s word words x (inl none) = absurd (not_omitted word words x none)
not_one s word words x (inr asks) = asks.1

first_given : (s : Scope) (words : List Word) → IsGiven (AsksFirst s One words) (omitted_or_asked s words)
first_given s [] = inl (refl, refl)
first_given s (word ∷ words) =
    given_as (AsksNoun s (word ∷ words)) (AsksFirst s One (word ∷ words)) (λ x asks. inr (not_omitted word words, asks)) (not_one s word words) (noun_asked s (word ∷ words)) (noun_given s (word ∷ words))

-- ---- both, of which the first has n words

abbrev Both : Scope → NounCount → List Word → List Word → Nouns → Type 0
Both s count noun last = MadeOfTwo pair (AsksFirst s count noun) (AsksLast s count last)

alone_of : (s : Scope) (noun : List Word) (found : Option Aspect) → IsGiven (AsksFirst s One noun) found → IsGiven (Both s One noun []) (option_map without_second found)
alone_of s noun (Some x) h = (x, Anything, h, (refl, refl), refl)
alone_of s noun None h = λ nouns made. h made.0 made.2

both_by : (s : Scope) (count : NounCount) (noun last : List Word) → IsGiven (Both s count noun last) (nouns_around s count noun last)
both_by s Zero noun last = λ nouns made. made.2
both_by s One noun [] = alone_of s noun (omitted_or_asked s noun) (first_given s noun)
both_by s One noun (word ∷ last) = λ nouns made. not_omitted word last made.1 made.3
both_by s Two noun last = both_given pair (AsksNoun s noun) (AsksNoun s last) (noun_asked s noun) (noun_asked s last) (noun_given s noun) (noun_given s last)

around_of : (s : Scope) (count : NounCount) (second words last : List Word) (n : ℕ) → n ≤ length words → behind second (drop n words) ≡ Some last → (nouns : Nouns)
    → Both s count (take n words) last nouns → AsksAround s count second words n nouns
around_of s count second words last n le at nouns made =
    subst (AsksAround s count second words n) (sym made.4) (record { last = last; within = le; part = at; noun = made.2; ends = made.3 })

both_of : (s : Scope) (count : NounCount) (second words last : List Word) (n : ℕ) → behind second (drop n words) ≡ Some last → (nouns : Nouns) → AsksAround s count second words n nouns
    → Both s count (take n words) last nouns
both_of s count second words last n at nouns asks =
    let both : Some asks.last ≡ Some last = sym asks.part ∙ at in
    let same : asks.last ≡ last = cc in
    (nouns.0, nouns.1, asks.noun, subst (λ (words : List Word). AsksLast s count words nouns.1) same asks.ends, refl)

by_part : (s : Scope) (count : NounCount) (second words : List Word) (n : ℕ) → n ≤ length words → (found : Option (List Word)) → behind second (drop n words) ≡ found
    → IsGiven (AsksAround s count second words n) (nouns_by s count (take n words) found)
by_part s count second words n le None at = λ nouns asks. let same : None ≡ Some asks.last = sym at ∙ asks.part in absurd cc
by_part s count second words n le (Some last) at =
    given_as (Both s count (take n words) last) (AsksAround s count second words n) (around_of s count second words last n le at) (both_of s count second words last n at)
    (nouns_around s count (take n words) last) (both_by s count (take n words) last)

around_given : (s : Scope) (count : NounCount) (second words : List Word) (n : ℕ) (rest : List Word) → n ≤ length words → drop n words ≡ rest
    → IsGiven (AsksAround s count second words n) (nouns_at s count second words n rest)
around_given s count second words n rest le e =
    subst (λ (rest : List Word). IsGiven (AsksAround s count second words n) (nouns_at s count second words n rest)) e (by_part s count second words n le (behind second (drop n words)) refl)

-- ---- of an action

behind_of : (s : Scope) (count : NounCount) (name words rest : List Word) → behind (first_part name) words ≡ Some rest → (n : ℕ) (nouns : Nouns) → AsksAround s count (second_part name) rest n nouns
    → AsksBehind s count name words n nouns
behind_of s count name words rest e n nouns asks = (rest, e, asks)

around_in : (s : Scope) (count : NounCount) (name words rest : List Word) → behind (first_part name) words ≡ Some rest → (n : ℕ) (nouns : Nouns) → AsksBehind s count name words n nouns
    → AsksAround s count (second_part name) rest n nouns
around_in s count name words rest e n nouns asks =
    let both : Some asks.0 ≡ Some rest = sym asks.1 ∙ e in
    let same : asks.0 ≡ rest = cc in
    subst (λ (rest : List Word). AsksAround s count (second_part name) rest n nouns) same asks.2

by_front : (s : Scope) (count : NounCount) (name words : List Word) (found : Option (List Word)) → behind (first_part name) words ≡ found
    → IsSearched (AsksBehind s count name words) (nouns_behind s count (second_part name) found)
by_front s count name words None e = λ n nouns asks. let same : None ≡ Some asks.0 = sym e ∙ asks.1 in absurd cc
by_front s count name words (Some rest) e =
    lowest_as (AsksAround s count (second_part name) rest) (AsksBehind s count name words) (behind_of s count name words rest e) (around_in s count name words rest e)
    (nouns_behind s count (second_part name) (Some rest))
    (searched (AsksAround s count (second_part name) rest) (nouns_at s count (second_part name) rest) rest (around_given s count (second_part name) rest) (λ n nouns asks. asks.within))

alone_given : (name words : List Word) → IsSearched (IsAlone name words) (alone_asked name words)
alone_given name words =
    elim (cases_Bool (is_name name words)) [
      | inl is ↦ rw is (record { n = 0; stands = (is, refl, refl); lowest = λ m lt nouns alone. absurd (omega (arith, lt)) })
      | inr isnt ↦ rw isnt (λ n nouns alone. let both : false ≡ true = sym isnt ∙ alone.0 in absurd cc)
    ]

by_count : (s : Scope) (count : NounCount) (name words : List Word) → IsSearched (AsksBy s count name words) (nouns_of s count name words)
by_count s Zero name words = alone_given name words
by_count s One name words = by_front s One name words (behind (first_part name) words) refl
by_count s Two name words = by_front s Two name words (behind (first_part name) words) refl

pub nouns_given : (s : Scope) (a : Action) (words : List Word) → IsSearched (AsksNouns s a words) (nouns_asked s a words)
unfolding nouns_asked
nouns_given s a words = by_count s a.nouns a.name words
