-- A line is cut into commands from left to right.
use Rattle.std.proofs.Common.{◌≡◌, ℕ, zero, suc, ◌+◌, ◌-◌, ◌<◌, ◌≤◌, Bool, true, false, List, [], ◌∷◌, ◌++◌, length, take, drop, get_or, refl, ap, sym, ◌∙◌, subst, arith, inl, inr, append_assoc, append-nil, length-append, one-add, take_all}
use Rattle.std.specs.Prelude.{◌||◌, not, filter, flat_map, if◌then◌else◌}
use Rattle.std.specs.List.{onto_first, slice_split, position_or_len}
use Rattle.std.proofs.lemmas.Bool.{cases_Bool, ne_eqb, or_left, or_right}
use Rattle.std.proofs.lemmas.Grind.{common_steps}
use Rattle.world_meaning.specs.Reading.{is_blank, is_word, words_of}
use Rattle.play_meaning.specs.CommandLines.{commands_of, has_words, is_full_stop, is_then, parted_at_then}
use Rattle.command_parser.specs.Cutting.{commands_from, ended, ends_word, first_piece, is_cut, mark_len, onto_words, other_pieces}
use Rattle.command_parser.proofs.LineWords.{words_of-blank, words_of-word}

-- ---- pieces

pub pieces_are : (bytes : List ℕ) → slice_split is_full_stop bytes ≡ first_piece bytes ∷ other_pieces bytes
pieces_are [] = refl
pieces_are (b ∷ bytes) = elim (cases_Bool (is_full_stop b)) [
  | inl is ↦ rw is refl
  | inr isnt ↦ rw isnt (ap (onto_first b) (pieces_are bytes))
]

-- the commands of pieces
abbrev of_pieces : List (List ℕ) → List (List (List ℕ))
of_pieces pieces = filter has_words (flat_map parted_at_then pieces)

commands_are : (bytes : List ℕ) → commands_of bytes ≡ filter has_words (parted_at_then (first_piece bytes) ++ flat_map parted_at_then (other_pieces bytes))
unfolding commands_of
commands_are bytes = ap of_pieces (pieces_are bytes)

onto_none : (commands : List (List (List ℕ))) (others : List (List (List ℕ))) → filter has_words (onto_words [] commands ++ others) ≡ filter has_words (commands ++ others)
onto_none [] others = refl
onto_none (command ∷ commands) others = refl

pub from_none : (bytes : List ℕ) → commands_from [] bytes ≡ commands_of bytes
unfolding commands_from
from_none bytes = onto_none (parted_at_then (first_piece bytes)) (flat_map parted_at_then (other_pieces bytes)) ∙ sym (commands_are bytes)

ends_so : (words : List (List ℕ)) (others : List (List (List ℕ))) → filter has_words ((words ++ []) ∷ others) ≡ ended words (filter has_words others)
ends_so [] others = refl
ends_so (word ∷ words) others = ap (λ ws. (word ∷ ws) ∷ filter has_words others) (append-nil words)

-- ---- steps

pub from_end : (words : List (List ℕ)) → commands_from words [] ≡ ended words []
unfolding commands_from
from_end words = ends_so words []

pub from_stop : (words : List (List ℕ)) (b : ℕ) (bytes : List ℕ) → is_full_stop b ≡ true → commands_from words (b ∷ bytes) ≡ ended words (commands_of bytes)
unfolding commands_from commands_of
from_stop words b bytes stop = rw stop (ends_so words (flat_map parted_at_then (slice_split is_full_stop bytes)))

stop_no_blank : (b : ℕ) → is_blank b ≡ true → is_full_stop b ≡ false
stop_no_blank b blank = elim (cases_Bool (is_full_stop b)) [
  | inl is ↦ absurd (grind (arith, common_steps))
  | inr isnt ↦ isnt
]

blank_piece : (b : ℕ) (bytes : List ℕ) → is_blank b ≡ true → words_of (first_piece (b ∷ bytes)) ≡ words_of (first_piece bytes)
blank_piece b bytes blank = rw (stop_no_blank b blank) (words_of-blank b (first_piece bytes) blank)

pub from_blank : (words : List (List ℕ)) (b : ℕ) (bytes : List ℕ) → is_blank b ≡ true → commands_from words (b ∷ bytes) ≡ commands_from words bytes
unfolding commands_from
from_blank words b bytes blank =
    ap (λ ws. filter has_words (onto_words words (slice_split is_then ws) ++ flat_map parted_at_then (other_pieces (b ∷ bytes)))) (blank_piece b bytes blank)
    ∙ rw (stop_no_blank b blank) refl

-- the word in front, and the piece behind it
record FrontWord (bytes : List ℕ) : Type 0 where
  place : position_or_len is_blank (first_piece bytes) ≡ position_or_len ends_word bytes
  front : take (position_or_len ends_word bytes) (first_piece bytes) ≡ take (position_or_len ends_word bytes) bytes
  back : drop (position_or_len ends_word bytes) (first_piece bytes) ≡ first_piece (drop (position_or_len ends_word bytes) bytes)
  others : other_pieces bytes ≡ other_pieces (drop (position_or_len ends_word bytes) bytes)

word_at_stop : (b : ℕ) (bytes : List ℕ) → is_full_stop b ≡ true → FrontWord (b ∷ bytes)
word_at_stop b bytes stop =
    let ends : (is_blank b || true) ≡ true = or_right (is_blank b) true refl in
    record { place = rw (stop, ends) refl; front = rw (stop, ends) refl; back = rw (stop, ends) (rw stop refl); others = rw (stop, ends) (rw stop refl) }

word_at_blank : (b : ℕ) (bytes : List ℕ) → is_blank b ≡ true → is_full_stop b ≡ false → FrontWord (b ∷ bytes)
word_at_blank b bytes blank more =
    record { place = rw (more, blank) refl; front = rw (more, blank) refl; back = rw (more, blank) (rw more refl); others = rw (more, blank) (rw more refl) }

pub take_one : (n b : ℕ) (bytes : List ℕ) → take (1 + n) (b ∷ bytes) ≡ b ∷ take n bytes
take_one n b bytes = rw (one-add n) refl

pub drop_one : (n b : ℕ) (bytes : List ℕ) → drop (1 + n) (b ∷ bytes) ≡ drop n bytes
drop_one n b bytes = rw (one-add n) refl

word_goes_on : (b : ℕ) (bytes : List ℕ) → is_blank b ≡ false → is_full_stop b ≡ false → FrontWord bytes → FrontWord (b ∷ bytes)
word_goes_on b bytes blank more h =
    record {
      place = rw (more, blank) (ap (λ n. 1 + n) h.place);
      front = rw (more, blank) (take_one _ b (first_piece bytes) ∙ ap (λ front. b ∷ front) h.front ∙ sym (take_one _ b bytes));
      back = rw (more, blank) (drop_one _ b (first_piece bytes) ∙ h.back ∙ ap first_piece (sym (drop_one _ b bytes)));
      others = rw (more, blank) (h.others ∙ ap other_pieces (sym (drop_one _ b bytes)));
    }

front_word : (bytes : List ℕ) → FrontWord bytes
front_word [] = record { place = refl; front = refl; back = refl; others = refl }
front_word (b ∷ bytes) = elim (cases_Bool (is_full_stop b)) [
  | inl stop ↦ word_at_stop b bytes stop
  | inr more ↦ elim (cases_Bool (is_blank b)) [
    | inl blank ↦ word_at_blank b bytes blank more
    | inr isnt ↦ word_goes_on b bytes isnt more (front_word bytes)
  ]
]

-- the words of a piece that begins with a word
piece_words : (bytes : List ℕ) → 0 < position_or_len ends_word bytes
    → words_of (first_piece bytes) ≡ take (position_or_len ends_word bytes) bytes ∷ words_of (first_piece (drop (position_or_len ends_word bytes) bytes))
piece_words bytes here =
    let h = front_word bytes in
    words_of-word (first_piece bytes) (subst (λ n. 0 < n) (sym h.place) here)
    ∙ ap (λ n. take n (first_piece bytes) ∷ words_of (drop n (first_piece bytes))) h.place
    ∙ ap (λ w. w ∷ words_of (drop (position_or_len ends_word bytes) (first_piece bytes))) h.front
    ∙ ap (λ piece. take (position_or_len ends_word bytes) bytes ∷ words_of piece) h.back

cut_onto : (words : List (List ℕ)) (word : List ℕ) (rest : List (List ℕ)) (others : List (List (List ℕ))) → is_then word ≡ true
    → filter has_words (onto_words words (slice_split is_then (word ∷ rest)) ++ others) ≡ ended words (filter has_words (slice_split is_then rest ++ others))
cut_onto words word rest others cuts = rw cuts (ends_so words (slice_split is_then rest ++ others))

first_onto : (words : List (List ℕ)) (word : List ℕ) (commands : List (List (List ℕ))) → onto_words words (onto_first word commands) ≡ onto_words (words ++ word ∷ []) commands
first_onto words word [] = refl
first_onto words word (command ∷ commands) = ap (λ c. c ∷ commands) (sym (append_assoc words (word ∷ []) command))

more_onto : (words : List (List ℕ)) (word : List ℕ) (rest : List (List ℕ)) (others : List (List (List ℕ))) → is_then word ≡ false
    → filter has_words (onto_words words (slice_split is_then (word ∷ rest)) ++ others) ≡ filter has_words (onto_words (words ++ word ∷ []) (slice_split is_then rest) ++ others)
more_onto words word rest others goes_on = rw goes_on (ap (λ commands. filter has_words (commands ++ others)) (first_onto words word (slice_split is_then rest)))

module _ (words : List (List ℕ)) (bytes : List ℕ) (here : 0 < position_or_len ends_word bytes) where
  abbrev word_here : List ℕ
  word_here = take (position_or_len ends_word bytes) bytes

  abbrev behind_here : List ℕ
  behind_here = drop (position_or_len ends_word bytes) bytes

  from_word : commands_from words bytes ≡ filter has_words (onto_words words (slice_split is_then (word_here ∷ words_of (first_piece behind_here))) ++ flat_map parted_at_then (other_pieces behind_here))
  unfolding commands_from
  from_word =
      ap (λ ws. filter has_words (onto_words words (slice_split is_then ws) ++ flat_map parted_at_then (other_pieces bytes))) (piece_words bytes here)
      ∙ ap (λ pieces. filter has_words (onto_words words (slice_split is_then (word_here ∷ words_of (first_piece behind_here))) ++ flat_map parted_at_then pieces)) (front_word bytes).others

  pub from_then : is_then word_here ≡ true → commands_from words bytes ≡ ended words (commands_of behind_here)
  from_then cuts =
      from_word ∙ cut_onto words word_here (words_of (first_piece behind_here)) (flat_map parted_at_then (other_pieces behind_here)) cuts
      ∙ ap (ended words) (sym (commands_are behind_here))

  pub from_more : is_then word_here ≡ false → commands_from words bytes ≡ commands_from (words ++ word_here ∷ []) behind_here
  unfolding commands_from
  from_more goes_on = from_word ∙ more_onto words word_here (words_of (first_piece behind_here)) (flat_map parted_at_then (other_pieces behind_here)) goes_on

-- ---- how many words

-- the words that begin in bytes, inside of a word or not
abbrev pub begun : Bool → List ℕ → ℕ
begun in_word [] = 0
begun in_word (b ∷ bytes) = if is_blank b then begun false bytes else (if in_word then begun true bytes else suc (begun true bytes))

abbrev behind_part : List (List ℕ) → List (List ℕ)
behind_part [] = []
behind_part (part ∷ parts) = parts

record Begun (bytes : List ℕ) : Type 0 where
  new : length (words_of bytes) ≡ begun false bytes
  more : length (filter is_word (behind_part (slice_split is_blank bytes))) ≡ begun true bytes

word_is : (b : ℕ) (bytes : List ℕ) → is_word (b ∷ bytes) ≡ true
word_is b bytes = ap not (ne_eqb (length (b ∷ bytes)) 0 (λ e. omega (arith, e)))

begun_onto : (b : ℕ) (parts : List (List ℕ)) (n : ℕ) → length (filter is_word (behind_part parts)) ≡ n
    → (length (filter is_word (onto_first b parts)) ≡ suc n) × (length (filter is_word (behind_part (onto_first b parts))) ≡ n)
begun_onto b [] n is = (ap suc is, is)
begun_onto b (part ∷ parts) n is = (rw (word_is b part) (ap suc is), is)

begun_is : (bytes : List ℕ) → Begun bytes
begun_is [] = record { new = refl; more = refl }
begun_is (b ∷ bytes) = elim (cases_Bool (is_blank b)) [
  | inl blank ↦ record { new = rw blank (begun_is bytes).new; more = rw blank (begun_is bytes).new }
  | inr isnt ↦
      let h = begun_onto b (slice_split is_blank bytes) (begun true bytes) (begun_is bytes).more in
      record { new = rw isnt h.0; more = rw isnt h.1 }
]

pub words_begun : (bytes : List ℕ) → length (words_of bytes) ≡ begun false bytes
words_begun bytes = (begun_is bytes).new

inside_fewer : (bytes : List ℕ) → begun false bytes ≤ suc (begun true bytes)
inside_fewer [] = omega arith
inside_fewer (b ∷ bytes) = elim (cases_Bool (is_blank b)) [
  | inl blank ↦ rw blank (omega arith)
  | inr isnt ↦ rw isnt (omega arith)
]

one_behind : (b : ℕ) (bytes : List ℕ) → begun false bytes ≤ begun false (b ∷ bytes)
one_behind b bytes = elim (cases_Bool (is_blank b)) [
  | inl blank ↦ rw blank (omega arith)
  | inr isnt ↦ rw isnt (inside_fewer bytes)
]

begun_behind : (n : ℕ) (bytes : List ℕ) → begun false (drop n bytes) ≤ begun false bytes
begun_behind n [] = grind (arith, common_steps)
begun_behind zero (b ∷ bytes) = omega arith
begun_behind (suc n) (b ∷ bytes) = omega (arith, begun_behind n bytes, one_behind b bytes)

fewer_behind : (n : ℕ) (bytes : List ℕ) → length (words_of (drop n bytes)) ≤ length (words_of bytes)
fewer_behind n bytes = omega (arith, begun_behind n bytes, words_begun bytes, words_begun (drop n bytes))

begun_in_front : (in_word : Bool) (bytes : List ℕ) → begun in_word (first_piece bytes) ≤ begun in_word bytes
begun_in_front in_word [] = omega arith
begun_in_front in_word (b ∷ bytes) = elim (cases_Bool (is_full_stop b)) [
  | inl stop ↦ rw stop (omega arith)
  | inr more ↦ elim (cases_Bool (is_blank b)) [
    | inl blank ↦ rw (more, blank) (begun_in_front false bytes)
    | inr isnt ↦ rw (more, isnt) (one_in_front in_word (begun_in_front true bytes))
  ]
]
  where
    one_in_front : (in_word : Bool) {m n : ℕ} → m ≤ n → (if in_word then m else suc m) ≤ (if in_word then n else suc n)
    one_in_front true within = within
    one_in_front false within = omega (arith, within)

fewer_in_front : (bytes : List ℕ) → length (words_of (first_piece bytes)) ≤ length (words_of bytes)
fewer_in_front bytes = omega (arith, begun_in_front false bytes, words_begun bytes, words_begun (first_piece bytes))

-- ---- marks

pub begins_word : (b : ℕ) (bytes : List ℕ) → is_full_stop b ≡ false → is_blank b ≡ false → 0 < position_or_len ends_word (b ∷ bytes)
begins_word b bytes more isnt = rw (more, isnt) (omega arith)

cut_word : (n b : ℕ) (bytes : List ℕ) → 0 < n → is_full_stop b ≡ false → is_cut (take n (b ∷ bytes)) ≡ is_then (take n (b ∷ bytes))
cut_word zero b bytes here more = absurd (omega (arith, here))
cut_word (suc n) b bytes here more = rw more refl

-- the mark in front cuts, or is one more word
record Marked (words : List (List ℕ)) (rest mark behind : List ℕ) : Type 0 where
  cuts : is_cut mark ≡ true → commands_from words rest ≡ ended words (commands_of behind)
  adds : is_cut mark ≡ false → commands_from words rest ≡ commands_from (words ++ mark ∷ []) behind
  counts : is_cut mark ≡ false → words_of (first_piece rest) ≡ mark ∷ words_of (first_piece behind)

marked_stop : (words : List (List ℕ)) (b : ℕ) (bytes : List ℕ) → is_full_stop b ≡ true → Marked words (b ∷ bytes) (b ∷ []) bytes
marked_stop words b bytes stop =
    let isnt : is_cut (b ∷ []) ≡ false → false ≡ true = λ more. sym more ∙ or_left (is_full_stop b) (is_then (b ∷ [])) stop in
    record { cuts = λ is. from_stop words b bytes stop; adds = λ more. absurd (let no = isnt more in cc); counts = λ more. absurd (let no = isnt more in cc) }

marked_word : (words : List (List ℕ)) (b : ℕ) (bytes : List ℕ) → is_full_stop b ≡ false → is_blank b ≡ false
    → Marked words (b ∷ bytes) (take (position_or_len ends_word (b ∷ bytes)) (b ∷ bytes)) (drop (position_or_len ends_word (b ∷ bytes)) (b ∷ bytes))
marked_word words b bytes more isnt =
    let here = begins_word b bytes more isnt in
    let cuts_as = cut_word (position_or_len ends_word (b ∷ bytes)) b bytes here more in
    record {
      cuts = λ is. from_then words (b ∷ bytes) here (sym cuts_as ∙ is);
      adds = λ goes_on. from_more words (b ∷ bytes) here (sym cuts_as ∙ goes_on);
      counts = λ _. piece_words (b ∷ bytes) here;
    }

marked : (words : List (List ℕ)) (b : ℕ) (bytes : List ℕ) → is_blank b ≡ false → Marked words (b ∷ bytes) (take (mark_len (b ∷ bytes)) (b ∷ bytes)) (drop (mark_len (b ∷ bytes)) (b ∷ bytes))
marked words b bytes isnt = elim (cases_Bool (is_full_stop b)) [
  | inl stop ↦ rw stop (marked_stop words b bytes stop)
  | inr more ↦ subst (λ n. Marked words (b ∷ bytes) (take n (b ∷ bytes)) (drop n (b ∷ bytes))) (sym (ap (λ (stop : Bool). if stop then 1 else position_or_len ends_word (b ∷ bytes)) more)) (marked_word words b bytes more isnt)
]

marked_there : (words : List (List ℕ)) (rest : List ℕ) → 1 ≤ length rest → is_blank (get_or rest 0 0) ≡ false → Marked words rest (take (mark_len rest) rest) (drop (mark_len rest) rest)
marked_there words [] some isnt = absurd (omega (arith, some))
marked_there words (b ∷ bytes) some isnt = marked words b bytes isnt

no_words : (words : List (List ℕ)) → has_words words ≡ false → words ≡ []
no_words [] none = refl
no_words (word ∷ words) none = absurd cc

ended_some : (words : List (List ℕ)) (commands : List (List (List ℕ))) → has_words words ≡ true → ended words commands ≡ words ∷ commands
ended_some [] commands some = absurd cc
ended_some (word ∷ words) commands some = refl

-- what a loop over the marks of a line knows
pub record Stands (words : List (List ℕ)) (rest line : List ℕ) : Type 0 where
  pub same : commands_from words rest ≡ commands_of line
  pub few : length (words_of rest) ≤ 32
  pub room : length words + length (words_of (first_piece rest)) ≤ 32

pub stands_first : (line : List ℕ) → length (words_of line) ≤ 32 → Stands [] line line
stands_first line few = record { same = from_none line; few = few; room = omega (arith, few, fewer_in_front line) }

stands_blank : (words : List (List ℕ)) (b : ℕ) (rest line : List ℕ) → is_blank b ≡ true → Stands words (b ∷ rest) line → Stands words rest line
stands_blank words b rest line blank h = record {
  same = sym (from_blank words b rest blank) ∙ h.same;
  few = subst (λ ws. length ws ≤ 32) (words_of-blank b rest blank) h.few;
  room = subst (λ ws. length words + length ws ≤ 32) (blank_piece b rest blank) h.room;
}

pub stands_behind : (words : List (List ℕ)) (rest line : List ℕ) → 1 ≤ length rest → is_blank (get_or rest 0 0) ≡ true → Stands words rest line → Stands words (take (length rest - 1) (drop 1 rest)) line
stands_behind words [] line some blank h = absurd (omega (arith, some))
stands_behind words (b ∷ rest) line some blank h = subst (λ after. Stands words after line) (sym (take_all (length (b ∷ rest) - 1) rest (omega arith))) (stands_blank words b rest line blank h)

at_end : (words : List (List ℕ)) (rest line : List ℕ) → length rest < 1 → Stands words rest line → commands_of line ≡ ended words []
at_end words [] line none h = sym h.same ∙ from_end words
at_end words (b ∷ rest) line none h = absurd (omega (arith, none))

pub no_command : (words : List (List ℕ)) (rest line : List ℕ) → length rest < 1 → has_words words ≡ false → Stands words rest line → commands_of line ≡ []
no_command words rest line none without h = at_end words rest line none h ∙ ap (λ ws. ended ws []) (no_words words without)

nothing_left : (rest : List ℕ) → length rest < 1 → commands_of rest ≡ []
unfolding commands_of
nothing_left [] none = refl
nothing_left (b ∷ rest) none = absurd (omega (arith, none))

pub last_command : (words : List (List ℕ)) (rest line : List ℕ) → length rest < 1 → has_words words ≡ true → Stands words rest line
    → (commands_of line ≡ words ∷ commands_of rest) × (length (words_of rest) ≤ 32)
last_command words rest line none some h =
    (at_end words rest line none h ∙ ended_some words [] some ∙ ap (λ commands. words ∷ commands) (sym (nothing_left rest none)), h.few)

module _ (words : List (List ℕ)) (rest line mark behind : List ℕ) (n : ℕ) (some : 1 ≤ length rest) (isnt : is_blank (get_or rest 0 0) ≡ false) (place : n ≡ mark_len rest) (front : mark ≡ take n rest) (back : behind ≡ drop n rest) (h : Stands words rest line) where
  here_marked : Marked words rest mark behind
  here_marked = rw (front, back, place) (marked_there words rest some isnt)

  few_behind : length (words_of behind) ≤ 32
  few_behind = rw back (omega (arith, fewer_behind n rest, h.few))

  pub stands_word : is_cut mark ≡ false → Stands (words ++ mark ∷ []) behind line
  stands_word goes_on =
      let counts : length (words_of (first_piece rest)) ≡ suc (length (words_of (first_piece behind))) = ap length (here_marked.counts goes_on) in
      record {
        same = sym (here_marked.adds goes_on) ∙ h.same;
        few = few_behind;
        room = omega (arith, h.room, counts, length-append words (mark ∷ []));
      }

  cut_so : is_cut mark ≡ true → commands_of line ≡ ended words (commands_of behind)
  cut_so is = sym h.same ∙ here_marked.cuts is

  pub stands_cut : is_cut mark ≡ true → has_words words ≡ false → Stands words behind line
  stands_cut is none =
      let empty = no_words words none in
      record {
        same = rw empty (from_none behind ∙ sym (cut_so is ∙ ap (λ ws. ended ws (commands_of behind)) empty));
        few = few_behind;
        room = rw empty (omega (arith, few_behind, fewer_in_front behind));
      }

  pub command_cut : is_cut mark ≡ true → has_words words ≡ true → (commands_of line ≡ words ∷ commands_of behind) × (length (words_of behind) ≤ 32)
  command_cut is some_words = (cut_so is ∙ ended_some words (commands_of behind) some_words, few_behind)
