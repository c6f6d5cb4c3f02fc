-- The lines of a tale's grammar: their entries are right, have room in their bytes, and say what the lines say.
use Rattle.std.proofs.Common.{◌≡◌, ℕ, zero, suc, ◌+◌, ◌<◌, ◌≤◌, Bool, true, false, not, ltb, leb, eqb, List, [], ◌∷◌, ◌++◌, length, map, Option, Some, None, refl, sym, ap, ◌∙◌, arith, inl, inr}
use Rattle.std.specs.Prelude.{count_by, filter, slice_get, slice_index_or}
use Rattle.std.specs.List.{flat_map, list_all}
use Rattle.std.specs.Option.{option_map}
use Rattle.std.proofs.lemmas.Bool.{and_from, and_parts, cases_Bool, eq-eqb, eqb-true, le-leb, leb-true, lt-ltb, ne_eqb}
use Rattle.std.proofs.lemmas.List.{length-append, map-append}
use Rattle.std.proofs.lemmas.List.Folds.{list_all-append}
use Rattle.std.proofs.lemmas.Option.{get_or_from_slice_get, slice_get-map}
use Rattle.world_meaning.specs.declared.needs.Needs.{Needs}
use Rattle.command_grammar.specs.Lines.{no_line}
use Rattle.object_words.specs.Mentions.{number_in}
use Rattle.object_words.proofs.StringLemmas.{length_mapped}
use Rattle.play_meaning.specs.Grammar.{Direction, Line, Something, Token, Word, is_slot}
use Rattle.play_meaning.specs.StandardActions.{standard_needs}
use Rattle.play_meaning.specs.StandardGrammar.{standard_lines}
use Rattle.play_meaning.specs.declared.operand.Counts.{Counts}
use Rattle.story_format.specs.Facts.{line_in, text_at, token_in}
use Rattle.story_format.specs.Holding.{is_line_of, is_number, is_short, nouns_needed}
use Rattle.story_format.specs.Layout.{line_layout}
use Rattle.story_format.specs.Making.{Worded, entry_strings, line_entry, line_strings, story_lines, strings_of, texts_named, token_number, token_strings}
use Rattle.story_format.specs.RuleChecks.{are_right_lines, has_nouns, is_right_line, is_right_token, is_slot_number, strings_in_line}
use Rattle.story_format.specs.RuleMaking.{action_entries, action_entry, noun_count}
use Rattle.story_format.specs.declared.rule_tables.LineEntry.{LineEntry}
use Rattle.story_format.proofs.EntryLemmas.{counted_more, counted_same}
use Rattle.story_format.proofs.Known.{found_by_number, is_known, named_known, named_small, passes_at}
use Rattle.story_format.proofs.OrderLemmas.{number_is_place}

-- ---- the strings of lines are known

pub lines_known : (ws : List Worded) (lines : List Line) (behind : List (List ℕ)) → list_all (is_known (strings_of (texts_named ws lines) behind)) (flat_map line_strings lines) ≡ true
unfolding texts_named
lines_known ws lines behind =
    let known = is_known (strings_of (texts_named ws lines) behind) in
    (and_parts (list_all known (flat_map entry_strings ws)) (list_all known (flat_map line_strings lines))
    (sym (list_all-append known (flat_map entry_strings ws) (flat_map line_strings lines)) ∙ named_known (texts_named ws lines) behind)).1

-- a known text has the number of a string
pub within : (strings : List (List ℕ)) (text : List ℕ) → is_known strings text ≡ true → length strings < 65535 → number_in strings text < length strings
within strings text known few =
    let t = passes_at strings text known in
    let number = number_is_place strings text t.0 few in
    omega (arith, number, t.0)

-- ---- a token

module _ (strings : List (List ℕ)) (few : length strings < 65535) where
  abbrev knows : Token → Bool
  knows token = list_all (is_known strings) (token_strings token)

  word_within : (text : List ℕ) → knows (Word text) ≡ true → number_in strings text < length strings
  word_within text known = within strings text (and_parts (is_known strings text) true known).0 few

  -- 65,534 and 65,535 are no word's numbers
  no_thing : (text : List ℕ) → knows (Word text) ≡ true → eqb (number_in strings text) 65534 ≡ false
  no_thing text known = let lt = word_within text known in ne_eqb _ _ (λ k. omega (arith, k, lt, few))

  no_way : (text : List ℕ) → knows (Word text) ≡ true → eqb (number_in strings text) 65535 ≡ false
  no_way text known = let lt = word_within text known in ne_eqb _ _ (λ k. omega (arith, k, lt, few))

  no_slot : (text : List ℕ) → knows (Word text) ≡ true → is_slot_number (number_in strings text) ≡ false
  no_slot text known = rw (no_thing text known, no_way text known) refl

  slot_told : (token : Token) → knows token ≡ true → is_slot_number (token_number strings token) ≡ is_slot token
  slot_told (Word text) known = no_slot text known
  slot_told Something known = refl
  slot_told Direction known = refl

  token_right : (token : Token) → knows token ≡ true → is_right_token (length strings) (token_number strings token) ≡ true
  token_right (Word text) known = let lt = word_within text known in rw (no_slot text known) (lt-ltb _ _ lt)
  token_right Something known = refl
  token_right Direction known = refl

  token_back : (token : Token) → knows token ≡ true → token_in strings (token_number strings token) ≡ token
  token_back (Word text) known =
      let back : text_at strings (number_in strings text) ≡ text =
      get_or_from_slice_get strings (number_in strings text) text [] (found_by_number strings text (and_parts (is_known strings text) true known).0 few).1 in
      rw (no_thing text known, no_way text known) (ap Word back)
  token_back Something known = refl
  token_back Direction known = refl

  token_named : (token : Token) (more : List ℕ) → knows token ≡ true
      → filter (λ n. not (is_slot_number n)) (token_number strings token ∷ more) ≡ map (number_in strings) (token_strings token) ++ filter (λ n. not (is_slot_number n)) more
  token_named (Word text) more known =
      rw (no_thing text known, no_way text known) refl
  token_named Something more known = refl
  token_named Direction more known = refl

  -- ---- tokens

  abbrev know_all : List Token → Bool
  know_all tokens = list_all (is_known strings) (flat_map token_strings tokens)

  known_parts : (token : Token) (tokens : List Token) → know_all (token ∷ tokens) ≡ true → (knows token ≡ true) × (know_all tokens ≡ true)
  known_parts token tokens known =
      let all = is_known strings in
      and_parts (knows token) (know_all tokens) (sym (list_all-append all (token_strings token) (flat_map token_strings tokens)) ∙ known)

  slots_counted : (tokens : List Token) → know_all tokens ≡ true → count_by is_slot_number (map (token_number strings) tokens) ≡ count_by is_slot tokens
  slots_counted [] known = refl
  slots_counted (token ∷ tokens) known =
      let parts = known_parts token tokens known in
      let same = slot_told token parts.0 in
      let rest = slots_counted tokens parts.1 in
      let numbers = map (token_number strings) tokens in
      elim (cases_Bool (is_slot token)) [
        | inl is ↦ counted_more is_slot_number (token_number strings token) numbers (same ∙ is) ∙ ap suc rest ∙ sym (counted_more is_slot token tokens is)
        | inr isnt ↦ counted_same is_slot_number (token_number strings token) numbers (same ∙ isnt) ∙ rest ∙ sym (counted_same is_slot token tokens isnt)
      ]

  tokens_right : (tokens : List Token) → know_all tokens ≡ true → list_all (is_right_token (length strings)) (map (token_number strings) tokens) ≡ true
  tokens_right [] known = refl
  tokens_right (token ∷ tokens) known =
      let parts = known_parts token tokens known in
      and_from (is_right_token (length strings) (token_number strings token)) (list_all (is_right_token (length strings)) (map (token_number strings) tokens)) (token_right token parts.0) (tokens_right tokens parts.1)

  tokens_back : (tokens : List Token) → know_all tokens ≡ true → map (token_in strings) (map (token_number strings) tokens) ≡ tokens
  tokens_back [] known = refl
  tokens_back (token ∷ tokens) known =
      let parts = known_parts token tokens known in
      λ i. token_back token parts.0 i ∷ tokens_back tokens parts.1 i

  tokens_named : (tokens : List Token) → know_all tokens ≡ true → filter (λ n. not (is_slot_number n)) (map (token_number strings) tokens) ≡ map (number_in strings) (flat_map token_strings tokens)
  tokens_named [] known = refl
  tokens_named (token ∷ tokens) known =
      let parts = known_parts token tokens known in
      token_named token (map (token_number strings) tokens) parts.0
      ∙ ap (λ ns. map (number_in strings) (token_strings token) ++ ns) (tokens_named tokens parts.1)
      ∙ sym (map-append (number_in strings) (token_strings token) (flat_map token_strings tokens))

  -- ---- lines

  line_parts : (line : Line) (lines : List Line) → list_all (is_known strings) (flat_map line_strings (line ∷ lines)) ≡ true
      → (know_all line.tokens ≡ true) × (list_all (is_known strings) (flat_map line_strings lines) ≡ true)
  line_parts line lines known =
      let all = is_known strings in
      and_parts (know_all line.tokens) (list_all all (flat_map line_strings lines)) (sym (list_all-append all (line_strings line) (flat_map line_strings lines)) ∙ known)

  needed_so : (needs : List Needs) (action count : ℕ) → is_number count (nouns_needed (slice_get needs action)) ≡ true → has_nouns count (slice_get (map action_entry needs) action) ≡ true
  needed_so needs action count h = ap (has_nouns count) (slice_get-map action_entry needs action) ∙ by (slice_get needs action) h
    where
      by : (found : Option Needs) → is_number count (nouns_needed found) ≡ true → has_nouns count (option_map action_entry found) ≡ true
      by None h = absurd cc
      by (Some needs) h = let same : count ≡ noun_count needs.noun + noun_count needs.second = eqb-true _ _ h in eq-eqb _ _ (sym same)

  line_right : (z : Counts) (needs : List Needs) (line : Line) → z.strings ≡ length strings → know_all line.tokens ≡ true → is_line_of needs line ≡ true
      → is_right_line z (map action_entry needs) (line_entry strings line) ≡ true
  unfolding is_right_line
  line_right z needs line count known is =
      let t = and_parts (is_number (count_by is_slot line.tokens) (nouns_needed (slice_get needs line.action))) (leb (length line.tokens) 32) is in
      let slots = slots_counted line.tokens known in
      let nouns : has_nouns (count_by is_slot_number (map (token_number strings) line.tokens)) (slice_get (map action_entry needs) line.action) ≡ true =
      ap (λ n. has_nouns n (slice_get (map action_entry needs) line.action)) slots ∙ needed_so needs line.action (count_by is_slot line.tokens) t.0 in
      let long : leb (length (map (token_number strings) line.tokens)) 32 ≡ true = ap (λ n. leb n 32) (length_mapped (token_number strings) line.tokens) ∙ t.1 in
      rw (nouns, long) (ap (λ n. list_all (is_right_token n) (map (token_number strings) line.tokens)) count ∙ tokens_right line.tokens known)

  each_right : (z : Counts) (needs : List Needs) (lines : List Line) → z.strings ≡ length strings → list_all (is_known strings) (flat_map line_strings lines) ≡ true → list_all (is_line_of needs) lines ≡ true
      → list_all (is_right_line z (map action_entry needs)) (map (line_entry strings) lines) ≡ true
  each_right z needs [] count known is = refl
  each_right z needs (line ∷ lines) count known is =
      let parts = line_parts line lines known in
      let t = and_parts (is_line_of needs line) (list_all (is_line_of needs) lines) is in
      let right = is_right_line z (map action_entry needs) in
      and_from (right (line_entry strings line)) (list_all right (map (line_entry strings) lines)) (line_right z needs line count parts.0 t.0) (each_right z needs lines count parts.1 t.1)

  pub lines_back : (lines : List Line) → list_all (is_known strings) (flat_map line_strings lines) ≡ true → map (line_in strings) (map (line_entry strings) lines) ≡ lines
  lines_back [] known = refl
  lines_back (line ∷ lines) known =
      let parts = line_parts line lines known in
      λ i. record { action = line.action; tokens = tokens_back line.tokens parts.0 i } ∷ lines_back lines parts.1 i

  all_named : (lines : List Line) → list_all (is_known strings) (flat_map line_strings lines) ≡ true → flat_map strings_in_line (map (line_entry strings) lines) ≡ map (number_in strings) (flat_map line_strings lines)
  all_named [] known = refl
  all_named (line ∷ lines) known =
      let parts = line_parts line lines known in
      (λ i. tokens_named line.tokens parts.0 i ++ all_named lines parts.1 i) ∙ sym (map-append (number_in strings) (line_strings line) (flat_map line_strings lines))

pub lines_named : (strings : List (List ℕ)) (lines : List Line) → list_all (is_known strings) (flat_map line_strings lines) ≡ true → length strings < 65535
    → flat_map strings_in_line (map (line_entry strings) lines) ≡ map (number_in strings) (flat_map line_strings lines)
lines_named strings lines known few = all_named strings few lines known

pub lines_right : (z : Counts) (strings : List (List ℕ)) (actions : List Needs) (lines : List Line) → z.strings ≡ length strings → length strings < 65535 → length lines ≤ 65535
    → list_all (is_known strings) (flat_map line_strings lines) ≡ true → list_all (is_line_of (standard_needs ++ actions)) lines ≡ true → are_right_lines z (action_entries actions) (map (line_entry strings) lines) ≡ true
unfolding action_entries
lines_right z strings actions lines count few few_lines known is =
    let many : leb (length (map (line_entry strings) lines)) 65535 ≡ true = le-leb _ _ (omega (arith, few_lines, length_mapped (line_entry strings) lines)) in
    rw many (each_right strings few z (standard_needs ++ actions) lines count known is)

-- ---- there is room for each in its bytes

get_below : {A : Type 0} (xs : List A) (n : ℕ) (x : A) → slice_get xs n ≡ Some x → n < length xs
get_below [] n x at = absurd cc
get_below (y ∷ xs) zero x at = omega arith
get_below (y ∷ xs) (suc n) x at = omega (arith, get_below xs n x at)

number_fits : (strings : List (List ℕ)) (token : Token) → ltb (token_number strings token) 65536 ≡ true
number_fits strings (Word text) = named_small strings text
number_fits strings Something = refl
number_fits strings Direction = refl

numbers_fit : (strings : List (List ℕ)) (tokens : List Token) → list_all (λ n. ltb n 65536) (map (token_number strings) tokens) ≡ true
numbers_fit strings [] = refl
numbers_fit strings (token ∷ tokens) =
    and_from (ltb (token_number strings token) 65536) (list_all (λ n. ltb n 65536) (map (token_number strings) tokens)) (number_fits strings token) (numbers_fit strings tokens)

-- an action of so few that one byte numbers them
action_fits : (needs : List Needs) (action count : ℕ) → length needs ≤ 256 → is_number count (nouns_needed (slice_get needs action)) ≡ true → ltb action 256 ≡ true
action_fits needs action count few h = lt-ltb _ _ (below needs action few (slice_get needs action) refl h)
  where
    below : (needs : List Needs) (action : ℕ) → length needs ≤ 256 → (found : Option Needs) → slice_get needs action ≡ found → is_number count (nouns_needed found) ≡ true → action < 256
    below needs action few None at h = absurd cc
    below needs action few (Some one) at h = let lt = get_below needs action one at in omega (arith, lt, few)

line_fits : (strings : List (List ℕ)) (needs : List Needs) (line : Line) → length needs ≤ 256 → is_line_of needs line ≡ true → line_layout.format.fits (line_entry strings line) ≡ true
unfolding line_layout
line_fits strings needs line few is =
    let t = and_parts (is_number (count_by is_slot line.tokens) (nouns_needed (slice_get needs line.action))) (leb (length line.tokens) 32) is in
    let le : length line.tokens ≤ 32 = leb-true _ _ t.1 in
    let long : ltb (length (map (token_number strings) line.tokens)) 256 ≡ true = lt-ltb _ _ (omega (arith, le, length_mapped (token_number strings) line.tokens)) in
    rw (action_fits needs line.action (count_by is_slot line.tokens) few t.0, long) (numbers_fit strings line.tokens)

pub lines_fit : (strings : List (List ℕ)) (needs : List Needs) (lines : List Line) → length needs ≤ 256 → list_all (is_line_of needs) lines ≡ true → list_all line_layout.format.fits (map (line_entry strings) lines) ≡ true
lines_fit strings needs [] few is = refl
lines_fit strings needs (line ∷ lines) few is =
    let t = and_parts (is_line_of needs line) (list_all (is_line_of needs) lines) is in
    and_from (line_layout.format.fits (line_entry strings line)) (list_all line_layout.format.fits (map (line_entry strings) lines)) (line_fits strings needs line few t.0) (lines_fit strings needs lines few t.1)

-- ---- the lines that every story understands

pub standard_count : length standard_lines ≡ 33
unfolding standard_lines
standard_count = refl

standard_are : (more : List Needs) → list_all (is_line_of (standard_needs ++ more)) standard_lines ≡ true
unfolding standard_lines standard_needs
standard_are more = refl

pub story_lines_are : (more : List Needs) (lines : List Line) → list_all (is_line_of (standard_needs ++ more)) lines ≡ true → list_all (is_line_of (standard_needs ++ more)) (story_lines lines) ≡ true
story_lines_are more lines is =
    let one = is_line_of (standard_needs ++ more) in
    list_all-append one lines standard_lines ∙ and_from (list_all one lines) (list_all one standard_lines) is (standard_are more)

pub story_lines_few : (lines : List Line) → length lines ≤ 65502 → length (story_lines lines) ≤ 65535
story_lines_few lines few = omega (arith, few, standard_count, length-append lines standard_lines)

-- what a story names whose author has no line
pub standard_words : length (flat_map line_strings standard_lines) ≤ 100
unfolding standard_lines
standard_words = omega arith

pub standard_short : list_all is_short (flat_map line_strings standard_lines) ≡ true
unfolding standard_lines
standard_short = refl

-- ---- a line by its number

pub line_there : (strings : List (List ℕ)) (entries : List LineEntry) (n : ℕ) (entry : LineEntry) → slice_get entries n ≡ Some entry → slice_index_or (map (line_in strings) entries) n no_line ≡ line_in strings entry
line_there strings entries n entry there =
    get_or_from_slice_get (map (line_in strings) entries) n (line_in strings entry) no_line (slice_get-map (line_in strings) entries n ∙ ap (option_map (line_in strings)) there)
