-- The objects that a slot's phrase may mean, as one filter, and what they come to.
use Rattle.std.proofs.Common.{◌≡◌, ℕ, Bool, true, false, List, [], ◌∷◌, refl, ap, sym, ◌∙◌, inl, inr}
use Rattle.std.specs.Prelude.{Option, None, Some, ◌&&◌, ◌==◌, filter, find, if◌then◌else◌}
use Rattle.std.specs.Option.{option_map}
use Rattle.std.specs.Char.{to_ascii_lowercase}
use Rattle.std.specs.List.{list_all}
use Rattle.std.proofs.lemmas.Bool.{eq-eqb, cases_Bool, and_from, or_right, or_left}
use Rattle.world_meaning.specs.Reading.{noun_of}
use Rattle.world_meaning.specs.Spelling.{is_spelled}
use Rattle.play_meaning.specs.Commands.{answer, is_settled, narrowed, settle}
use Rattle.play_meaning.specs.Games.{Question, Reading}
use Rattle.play_meaning.specs.Grammar.{Direction, Grammar, Something, Token, Word, are_named_alike, candidates, has_word, may_fill, meant_by}
use Rattle.play_meaning.specs.declared.action.ActionNow.{ActionNow}
use Rattle.play_meaning.specs.Settings.{direction_kind, objects_of, thing_kind}
use Rattle.command_parser.specs.Fillings.{filling_by, filling_of, is_alike_if, is_candidate, is_empty, is_meant}
use Rattle.command_parser.specs.Searching.{in_front}
use Rattle.command_parser.specs.Settling.{asks_unless, outcome_of, settled_by, with_noun}
use Rattle.command_parser.specs.declared.filling.Outcome.{Outcome}
use Rattle.command_parser.specs.declared.filling.Filling.{Filling}
use Rattle.command_parser.specs.declared.filling.Filling.TheVariants.{Empty, Open, Settled}

-- ---- an object is named as itself

spelled_itself : (word : List ℕ) → is_spelled word word ≡ true
spelled_itself [] = refl
spelled_itself (b ∷ bytes) = and_from (to_ascii_lowercase b == to_ascii_lowercase b) (is_spelled bytes bytes) (eq-eqb _ _ refl) (spelled_itself bytes)

-- words each of which is among others
among_all : (all words : List (List ℕ)) → ((word : List ℕ) → has_word words word ≡ true → has_word all word ≡ true) → list_all (has_word all) words ≡ true
among_all all [] among = refl
among_all all (word ∷ words) among =
    and_from (has_word all word) (list_all (has_word all) words)
    (among word (or_left (is_spelled word word) (has_word words word) (spelled_itself word)))
    (among_all all words (λ other is. among other (or_right (is_spelled other word) (has_word words other) is)))

named_as_itself : (g : Grammar) (o : ℕ) → are_named_alike g o o ≡ true
named_as_itself g o =
    let all = among_all (g.words o) (g.words o) (λ word is. is) in
    and_from (list_all (has_word (g.words o)) (g.words o)) (list_all (has_word (g.words o)) (g.words o)) all all

-- ---- what those that pass a test come to

all_alike : (g : Grammar) (p : ℕ → Bool) (first : ℕ) (objects : List ℕ) → list_all (is_alike_if g p first) objects ≡ list_all (are_named_alike g first) (filter p objects)
all_alike g p first [] = refl
all_alike g p first (o ∷ objects) = elim (cases_Bool (p o)) [
  | inl is ↦ rw is (ap (λ rest. are_named_alike g first o && rest) (all_alike g p first objects))
  | inr isnt ↦ rw isnt (all_alike g p first objects)
]

-- the first that passes, and whether all are named as it is
abbrev pub filling_found : Option ℕ → (ℕ → Bool) → Filling
filling_found None alike = Empty
filling_found (Some o) alike = filling_by (alike o) o

settled_first : (g : Grammar) (o : ℕ) (objects : List ℕ) → filling_of g (o ∷ objects) ≡ filling_by (list_all (are_named_alike g o) (o ∷ objects)) o
settled_first g o objects = rw (named_as_itself g o) (one (list_all (are_named_alike g o) objects))
  where
    one : (alike : Bool) → (if alike then Settled o else Open) ≡ filling_by alike o
    one true = refl
    one false = refl

pub filling_is : (g : Grammar) (p : ℕ → Bool) (objects : List ℕ) → filling_of g (filter p objects) ≡ filling_found (find p objects) (λ o. list_all (is_alike_if g p o) objects)
filling_is g p [] = refl
filling_is g p (o ∷ objects) = elim (cases_Bool (p o)) [
  | inl is ↦ rw is (settled_first g o (filter p objects) ∙ ap (λ alike. filling_by (are_named_alike g o o && alike) o) (sym (all_alike g p o objects)))
  | inr isnt ↦ rw isnt (filling_is g p objects)
]

pub none_pass : (g : Grammar) (p : ℕ → Bool) (objects : List ℕ) (found : Option ℕ) → found ≡ find p objects → found ≡ None → Empty ≡ filling_of g (filter p objects)
none_pass g p objects found finds is = sym (filling_is g p objects ∙ ap (λ o. filling_found o (λ x. list_all (is_alike_if g p x) objects)) (sym finds ∙ is))

pub some_pass : (g : Grammar) (p : ℕ → Bool) (objects : List ℕ) (found : Option ℕ) (first : ℕ) (alike : Bool) (filling : Filling) → found ≡ find p objects → found ≡ Some first
    → alike ≡ list_all (is_alike_if g p first) objects → filling ≡ filling_by alike first → filling ≡ filling_of g (filter p objects)
some_pass g p objects found first alike filling finds is alikes by =
    by ∙ ap (λ v. filling_by v first) alikes ∙ sym (filling_is g p objects ∙ ap (λ o. filling_found o (λ x. list_all (is_alike_if g p x) objects)) (sym finds ∙ is))

none_empty : (g : Grammar) (o : ℕ) (objects : List ℕ) → is_empty (filling_of g (o ∷ objects)) ≡ false
none_empty g o objects = one (is_settled g (o ∷ objects))
  where
    one : (settled : Bool) → is_empty (if settled then Settled o else Open) ≡ false
    one true = refl
    one false = refl

-- ---- objects that go by words

filter_none : (objects : List ℕ) → [] ≡ filter (λ o. false) objects
filter_none [] = refl
filter_none (o ∷ objects) = filter_none objects

pub meant_is : (g : Grammar) (noun : List (List ℕ)) (objects : List ℕ) → meant_by g noun objects ≡ filter (is_meant g noun) objects
meant_is g [] objects = filter_none objects
meant_is g (word ∷ words) objects = refl

-- ---- an answer

by_words : (g : Grammar) (q : Question) (noun words : List (List ℕ)) (otherwise : Reading) → noun ≡ noun_of words
    → answer g (Some q) words otherwise ≡ narrowed g q (filter (is_meant g noun) q.candidates) otherwise
unfolding answer
by_words g q noun words otherwise is_noun =
    ap (λ objects. narrowed g q objects otherwise) (meant_is g (noun_of words) q.candidates ∙ ap (λ n. filter (is_meant g n) q.candidates) (sym is_noun))

narrowed_none : (g : Grammar) (q : Question) (objects : List ℕ) (otherwise : Reading) → is_empty (filling_of g objects) ≡ true → narrowed g q objects otherwise ≡ otherwise
narrowed_none g q [] otherwise is = refl
narrowed_none g q (o ∷ objects) otherwise is = absurd (let none = none_empty g o objects in cc)

narrowed_some : (g : Grammar) (q : Question) (objects : List ℕ) (otherwise : Reading) → is_empty (filling_of g objects) ≡ false → narrowed g q objects otherwise ≡ settle g q.action q.chosen (objects ∷ q.others)
narrowed_some g q [] otherwise is = absurd cc
narrowed_some g q (o ∷ objects) otherwise is = refl

module _ (g : Grammar) (q : Question) (noun words : List (List ℕ)) (is_noun : noun ≡ noun_of words) (otherwise : Reading) (filling : Filling) (comes_to : filling ≡ filling_of g (filter (is_meant g noun) q.candidates)) where
  pub new_command : is_empty filling ≡ true → otherwise ≡ answer g (Some q) words otherwise
  new_command is = sym (by_words g q noun words otherwise is_noun ∙ narrowed_none g q (filter (is_meant g noun) q.candidates) otherwise (ap is_empty (sym comes_to) ∙ is))

  pub answered : is_empty filling ≡ false → settle g q.action q.chosen (filter (is_meant g noun) q.candidates ∷ q.others) ≡ answer g (Some q) words otherwise
  answered is = sym (by_words g q noun words otherwise is_noun ∙ narrowed_some g q (filter (is_meant g noun) q.candidates) otherwise (ap is_empty (sym comes_to) ∙ is))

-- ---- candidates as one filter

passes_both : (p : Bool) (o : ℕ) (twice both : List ℕ) → twice ≡ both → (if p then o ∷ twice else twice) ≡ (if p && true then o ∷ both else both)
passes_both true o twice both is = ap (λ xs. o ∷ xs) is
passes_both false o twice both is = is

passes_one : (p : Bool) (o : ℕ) (twice both : List ℕ) → twice ≡ both → twice ≡ (if p && false then o ∷ both else both)
passes_one true o twice both is = is
passes_one false o twice both is = is

filter_filter : (p q : ℕ → Bool) (objects : List ℕ) → filter p (filter q objects) ≡ filter (λ o. p o && q o) objects
filter_filter p q [] = refl
filter_filter p q (o ∷ objects) = elim (cases_Bool (q o)) [
  | inl is ↦ rw is (passes_both (p o) o _ _ (filter_filter p q objects))
  | inr isnt ↦ rw isnt (passes_one (p o) o _ _ (filter_filter p q objects))
]

filter_same : (p q : ℕ → Bool) (objects : List ℕ) → ((o : ℕ) → p o ≡ q o) → filter p objects ≡ filter q objects
filter_same p q [] same = refl
filter_same p q (o ∷ objects) same =
    ap (λ (passes : Bool). if passes then o ∷ filter p objects else filter p objects) (same o)
    ∙ ap (λ xs. if q o then o ∷ xs else xs) (filter_same p q objects same)

kind_first : (meant kind : Bool) → (meant && kind) ≡ (kind && meant)
kind_first true true = refl
kind_first true false = refl
kind_first false true = refl
kind_first false false = refl

seen_last : (meant kind seen : Bool) → (meant && (kind && seen)) ≡ ((kind && meant) && seen)
seen_last true true seen = refl
seen_last true false seen = refl
seen_last false true seen = refl
seen_last false false seen = refl

either_way : (g : Grammar) (sees : ℕ → Bool) (slot : Token) (noun : List (List ℕ)) (o : ℕ) → (is_meant g noun o && may_fill g sees slot o) ≡ is_candidate g sees slot noun o
either_way g sees (Word spelling) noun o = kind_first (is_meant g noun o) false
either_way g sees Something noun o = seen_last (is_meant g noun o) (g.setting.is_of o thing_kind) (sees o)
either_way g sees Direction noun o = kind_first (is_meant g noun o) (g.setting.is_of o direction_kind)

pub candidates_are : (g : Grammar) (sees : ℕ → Bool) (slot : Token) (phrase : List (List ℕ)) → candidates g sees slot phrase ≡ filter (is_candidate g sees slot (noun_of phrase)) (objects_of g.setting)
unfolding candidates
candidates_are g sees slot phrase =
    meant_is g (noun_of phrase) (filter (may_fill g sees slot) (objects_of g.setting))
    ∙ filter_filter (is_meant g (noun_of phrase)) (may_fill g sees slot) (objects_of g.setting)
    ∙ filter_same (λ o. is_meant g (noun_of phrase) o && may_fill g sees slot o) (is_candidate g sees slot (noun_of phrase)) (objects_of g.setting) (λ o. either_way g sees slot (noun_of phrase) o)

-- ---- a slot's phrase, in front of the slots behind it

find_none : (p : ℕ → Bool) (objects : List ℕ) → find p objects ≡ None → filter p objects ≡ []
find_none p [] none = refl
find_none p (o ∷ objects) none = elim (cases_Bool (p o)) [
  | inl is ↦ absurd (let found : Some o ≡ None = rw is at none in cc)
  | inr isnt ↦ rw isnt (find_none p objects (rw isnt at none))
]

-- what is found where each slot has a candidate
found_behind : (g : Grammar) (now : ActionNow) (objects : List ℕ) (found : Option (List (List ℕ))) (first : ℕ) (alike : Bool) (later : Outcome) → filling_of g objects ≡ filling_by alike first
    → Some later ≡ option_map (outcome_of g (with_noun now first)) found → Some (asks_unless alike later) ≡ option_map (outcome_of g now) (in_front objects found)
found_behind g now [] found first true later comes_to finds = absurd cc
found_behind g now [] found first false later comes_to finds = absurd cc
found_behind g now (o ∷ objects) None first alike later comes_to finds = absurd cc
found_behind g now (o ∷ objects) (Some slots) first true later comes_to finds =
    finds ∙ sym (ap (λ f. Some (settled_by f now (λ next. outcome_of g next slots))) comes_to)
found_behind g now (o ∷ objects) (Some slots) first false later comes_to finds =
    sym (ap (λ f. Some (settled_by f now (λ next. outcome_of g next slots))) comes_to)

module _ (g : Grammar) (sees : ℕ → Bool) (now : ActionNow) (slot : Token) (phrase noun : List (List ℕ)) (is_noun : noun ≡ noun_of phrase) (behind : Option (List (List ℕ))) (candidate : Option ℕ)
    (finds : candidate ≡ find (is_candidate g sees slot noun) (objects_of g.setting)) where
  listed : candidates g sees slot phrase ≡ filter (is_candidate g sees slot noun) (objects_of g.setting)
  listed = candidates_are g sees slot phrase ∙ ap (λ words. filter (is_candidate g sees slot words) (objects_of g.setting)) (sym is_noun)

  pub no_candidate : candidate ≡ None → None ≡ option_map (outcome_of g now) (in_front (candidates g sees slot phrase) behind)
  no_candidate none = sym (ap (λ objects. option_map (outcome_of g now) (in_front objects behind)) (listed ∙ find_none (is_candidate g sees slot noun) (objects_of g.setting) (sym finds ∙ none)))

  pub some_later : (first : ℕ) (alike : Bool) (later : Outcome) (result : Option Outcome) → candidate ≡ Some first
      → alike ≡ list_all (is_alike_if g (is_candidate g sees slot noun) first) (objects_of g.setting)
      → result ≡ option_map (outcome_of g (with_noun now first)) behind → result ≡ Some later → Some (asks_unless alike later) ≡ option_map (outcome_of g now) (in_front (candidates g sees slot phrase) behind)
  some_later first alike later result is alikes searched some =
      found_behind g now (candidates g sees slot phrase) behind first alike later
      (ap (filling_of g) listed ∙ sym (some_pass g (is_candidate g sees slot noun) (objects_of g.setting) candidate first alike (filling_by alike first) finds is alikes refl)) (sym some ∙ searched)
