-- Commands that mean the same whatever the grammar, and those for all things.
use Rattle.std.proofs.Common.{◌≡◌, ℕ, Bool, true, false, List, [], ◌∷◌, length, refl, ap, sym, ◌∙◌, ◌⊎◌, inl, inr}
use Rattle.std.specs.Prelude.{Option, None, Some, ◌&&◌, ◌==◌, codes, filter}
use Rattle.std.specs.Char.{to_ascii_lowercase}
use Rattle.std.proofs.lemmas.Bool.{and_parts, cases_Bool, eq-eqb}
use Rattle.std.proofs.lemmas.List.{length-map}
use Rattle.std.proofs.lemmas.Slice.Eq.{bytes_eq-Decides}
use Rattle.world_meaning.specs.Spelling.{is_spelled}
use Rattle.world_meaning.specs.Texts.{empty_text}
use Rattle.play_meaning.specs.Commands.{answer, command, first_reading, is_all, is_one_thing, means_all, read, stand_at, takes_all, unread}
use Rattle.play_meaning.specs.Games.{ActsAll, Question, Quit, Reading, Says, Undo}
use Rattle.play_meaning.specs.Grammar.{Direction, Grammar, Line, Something, Token, Word, is_slot}

pub empty_is : (g : Grammar) (question : Option Question) (sees : ℕ → Bool) → read g question sees [] ≡ Says empty_text
unfolding read answer command
empty_is g None sees = refl
empty_is g (Some question) sees = refl

pub undo_is : (g : Grammar) (sees : ℕ → Bool) → read g None sees (codes "undo" ∷ []) ≡ Undo
unfolding read answer command
undo_is g sees = refl

pub quit_is : (g : Grammar) (sees : ℕ → Bool) → read g None sees (codes "quit" ∷ []) ≡ Quit
unfolding read answer command
quit_is g sees = refl

pub quit_letter_is : (g : Grammar) (sees : ℕ → Bool) → read g None sees (codes "q" ∷ []) ≡ Quit
unfolding read answer command
quit_letter_is g sees = refl

-- the first line, of all things
first_of_all : (g : Grammar) (sees : ℕ → Bool) (words : List (List ℕ)) (line : Line) (lines : List Line) (otherwise : Reading) → means_all words line ≡ true
    → first_reading g sees words (line ∷ lines) otherwise ≡ ActsAll line.action
unfolding first_reading
first_of_all g sees words line lines otherwise all = rw all refl

-- ---- one word that means all things is no other command

spelled_length : (word spelling : List ℕ) → is_spelled word spelling ≡ true → length word ≡ length spelling
spelled_length word spelling is =
    sym (length-map word to_ascii_lowercase) ∙ ap length ((bytes_eq-Decides _ _).0 is) ∙ length-map spelling to_ascii_lowercase

all_length : (word : List ℕ) → is_all word ≡ true → (length word ≡ 3) ⊎ (length word ≡ 10)
all_length word all = elim (cases_Bool (is_spelled word (codes "all"))) [
  | inl is ↦ inl (spelled_length word (codes "all") is)
  | inr isnt ↦ inr (spelled_length word (codes "everything") (rw isnt at all))
]

other_word : (word spelling : List ℕ) → is_all word ≡ true → (length spelling == 3) ≡ false → (length spelling == 10) ≡ false → is_spelled word spelling ≡ false
other_word word spelling all three ten = elim (cases_Bool (is_spelled word spelling)) [
  | inl is ↦ elim (all_length word all) [
    | inl short ↦ absurd (let same = eq-eqb (length spelling) 3 (sym (spelled_length word spelling is) ∙ short) in cc)
    | inr long ↦ absurd (let same = eq-eqb (length spelling) 10 (sym (spelled_length word spelling is) ∙ long) in cc)
  ]
  | inr isnt ↦ isnt
]

one_word : (tokens : List Token) (word : List ℕ) → is_one_thing (filter is_slot tokens) ≡ true → stand_at tokens (word ∷ []) ≡ true → is_all word ≡ true
one_word [] word one stand = absurd cc
one_word (Word spelling ∷ []) word one stand = absurd cc
one_word (Word spelling ∷ token ∷ tokens) word one stand = absurd (let never = (and_parts (is_spelled word spelling) false stand).1 in cc)
one_word (Something ∷ []) word one stand = (and_parts (is_all word) true stand).0
one_word (Something ∷ token ∷ tokens) word one stand = absurd (let never = (and_parts (is_all word) false stand).1 in cc)
one_word (Direction ∷ tokens) word one stand = absurd cc

no_word : (tokens : List Token) → is_one_thing (filter is_slot tokens) ≡ true → stand_at tokens [] ≡ true → true ≡ false
no_word [] one stand = sym one
no_word (token ∷ tokens) one stand = sym stand

one_thing : (words : List (List ℕ)) (line : Line) → means_all words line ≡ true → is_one_thing (filter is_slot line.tokens) ≡ true
one_thing words line all =
    (and_parts (takes_all line.action) (is_one_thing (filter is_slot line.tokens))
    (and_parts (takes_all line.action && is_one_thing (filter is_slot line.tokens)) (stand_at line.tokens words) all).0).1

at_tokens : (words : List (List ℕ)) (line : Line) → means_all words line ≡ true → stand_at line.tokens words ≡ true
at_tokens words line all = (and_parts (takes_all line.action && is_one_thing (filter is_slot line.tokens)) (stand_at line.tokens words) all).1

pub all_is : (g : Grammar) (sees : ℕ → Bool) (words : List (List ℕ)) (line : Line) (lines : List Line) → g.lines ≡ line ∷ lines → means_all words line ≡ true
    → read g None sees words ≡ ActsAll line.action
unfolding read answer command
all_is g sees [] line lines first all = absurd (let never = no_word line.tokens (one_thing [] line all) (at_tokens [] line all) in cc)
all_is g sees (word ∷ []) line lines first all =
    let means = one_word line.tokens word (one_thing (word ∷ []) line all) (at_tokens (word ∷ []) line all) in
    rw (other_word word (codes "undo") means refl refl, other_word word (codes "quit") means refl refl, other_word word (codes "q") means refl refl)
    (ap (λ every. first_reading g sees (word ∷ []) every (unread g word [])) first ∙ first_of_all g sees (word ∷ []) line lines (unread g word []) all)
all_is g sees (verb ∷ word ∷ words) line lines first all =
    ap (λ every. first_reading g sees (verb ∷ word ∷ words) every (unread g verb (word ∷ words))) first
    ∙ first_of_all g sees (verb ∷ word ∷ words) line lines (unread g verb (word ∷ words)) all
