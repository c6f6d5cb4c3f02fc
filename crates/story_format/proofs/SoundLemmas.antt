-- The codes of texts, rules and scenes that bytes can say are sound, and each string is named.
use Rattle.std.proofs.Common.{◌≡◌, ℕ, suc, ◌+◌, ◌<◌, ◌≤◌, true, ◌&&◌, nat_lt, List, [], ◌∷◌, ◌++◌, length, map, refl, sym, subst, ap, ◌∙◌, arith, append_assoc, length-append}
use Rattle.std.specs.Prelude.{replicate}
use Rattle.std.specs.List.{AllByRecursion, flat_map, list_all}
use Rattle.std.proofs.lemmas.Bool.{and_parts, lt-ltb, ltb-true, and_from}
use Rattle.std.proofs.lemmas.List.{length-map, map-append}
use Rattle.std.proofs.lemmas.List.Folds.{list_all-append}
use Rattle.world_meaning.specs.declared.declared.Declared.{Declared}
use Rattle.object_words.specs.Mentions.{number_in}
use Rattle.play_meaning.specs.Instructions.{sizes}
use Rattle.play_meaning.specs.TranslatedScripts.{emitted_in_turn}
use Rattle.play_meaning.specs.Translation.{Emitted}
use Rattle.play_meaning.specs.Grammar.{Line}
use Rattle.play_meaning.specs.Rules.{Rule}
use Rattle.play_meaning.specs.Scripts.{Scene}
use Rattle.play_meaning.specs.Trees.{Text}
use Rattle.code_table.specs.Origins.{Describes, Origin, origins_of, part_of, use_for}
use Rattle.play_meaning.specs.declared.instruction.Instruction.{Instruction}
use Rattle.play_meaning.specs.declared.operand.Use.TheVariants.{Describing}
use Rattle.code_table.specs.Emitted.{AllFit, CanBeSaid, codes_of_origins, origins_emitted}
use Rattle.code_table.specs.Strings.{counted_on, strings_of as strings_in_codes}
use Rattle.code_table.specs.Tables.{IsTableOf}
use Rattle.code_table.proofs.SaidStrings.{strings_in_order as said_in_order}
use Rattle.code_table.proofs.Spoken.{codes_spelled, origins_table}
use Rattle.story_code.specs.Emits.{AreSpelled}
use Rattle.story_code.specs.Emitting.{can_say_all, can_say_code, opens_few}
use Rattle.story_code.specs.Runs.{code_or_none}
use Rattle.story_code.specs.Spelling.{can_spell, spelling}
use Rattle.story_code.proofs.Exact.{spelling_size, spells_in}
use Rattle.story_format.specs.Checks.{codes_named, strings_in_tables}
use Rattle.story_format.specs.Codes.{code_spelled, counts_of, small}
use Rattle.story_format.specs.Holding.{is_short}
use Rattle.story_format.specs.Making.{Worded, code_bytes, described_in, entries_of, line_entry, names_of_values, strings_behind, strings_of, strings_said, tables_with, texts_named, value_entry, values_of}
use Rattle.story_format.specs.Soundness.{AreSound, are_in_turn, strings_read}
use Rattle.story_format.specs.RuleChecks.{uses_in_tables}
use Rattle.story_format.specs.ValueChecks.{strings_in_values}
use Rattle.story_format.specs.RuleMaking.{rules_of}
use Rattle.story_format.specs.declared.rule_tables.Book.{Book}
use Rattle.story_format.proofs.OrderLemmas.{codes_counted, strings_all_named}
use Rattle.story_format.proofs.RuleLemmas.{codes_in_made, heads_in_turn, origins_in, uses_in_made}
use Rattle.story_format.proofs.SceneLemmas.{origins_in_scenes}
use Rattle.story_format.proofs.TableLemmas.{texts_told}
use Rattle.story_format.proofs.MadeValues.{values_named}

-- ---- bytes can say each code

codes_say : (es : List Emitted) → AllByRecursion (λ e. can_say_all e ≡ true) es → list_all can_say_code (map (λ e. e.code) es) ≡ true
unfolding can_say_all
codes_say [] said = refl
codes_say (e ∷ es) said = and_from (can_say_code e.code) (list_all can_say_code (map (λ e. e.code) es)) (and_parts (can_say_code e.code) (list_all can_say_code e.tests) said.0).0 (codes_say es said.1)

tests_say : (es : List Emitted) → AllByRecursion (λ e. can_say_all e ≡ true) es → list_all can_say_code (flat_map (λ e. e.tests) es) ≡ true
unfolding can_say_all
tests_say [] said = refl
tests_say (e ∷ es) said =
    list_all-append can_say_code e.tests (flat_map (λ e. e.tests) es)
    ∙ and_from (list_all can_say_code e.tests) (list_all can_say_code (flat_map (λ e. e.tests) es)) (and_parts (can_say_code e.code) (list_all can_say_code e.tests) said.0).1 (tests_say es said.1)

pub all_say : (string : List ℕ → ℕ) (origins : List Origin) → CanBeSaid string origins → list_all can_say_code (codes_of_origins string origins) ≡ true
all_say string origins said =
    let es = origins_emitted string origins in
    list_all-append can_say_code (map (λ e. e.code) es) (flat_map (λ e. e.tests) es)
    ∙ and_from (list_all can_say_code (map (λ e. e.code) es)) (list_all can_say_code (flat_map (λ e. e.tests) es)) (codes_say es said.each) (tests_say es said.each)

all_short : (codes : List (List Instruction)) → list_all can_say_code codes ≡ true → list_all is_short (map spelling codes) ≡ true
all_short [] say = refl
all_short (code ∷ codes) say =
    let both_say = and_parts (can_say_code code) (list_all can_say_code codes) say in
    let size = ltb-true (sizes code) 65536 (and_parts (nat_lt (sizes code) 65536) (list_all can_spell code && list_all opens_few code) both_say.0).0 in
    and_from (is_short (spelling code)) (list_all is_short (map spelling codes)) (lt-ltb (length (spelling code)) 65536 (omega (arith, size, spelling_size code))) (all_short codes both_say.1)

-- the bytes are short
pub bytes_short : (strings : List (List ℕ)) (origins : List Origin) → CanBeSaid (number_in strings) origins → list_all is_short (code_bytes strings origins) ≡ true
bytes_short strings origins said = all_short (codes_of_origins (number_in strings) origins) (all_say (number_in strings) origins said)

-- and few
pub bytes_few : (strings : List (List ℕ)) (origins : List Origin) → CanBeSaid (number_in strings) origins → length (code_bytes strings origins) < 65536
bytes_few strings origins said = omega (arith, said.few, length-map (codes_of_origins (number_in strings) origins) spelling)

emitted_long : (string : List ℕ → ℕ) (first : ℕ) (origins : List Origin) → length (map (λ e. e.code) (emitted_in_turn first (map (part_of string) origins))) ≡ length origins
emitted_long string first [] = refl
emitted_long string first (text ∷ origins) = ap suc (emitted_long string (first + length (part_of string text first 0).tests) origins)

-- there is one at least for each text
pub bytes_enough : (strings : List (List ℕ)) (origins : List Origin) → length origins ≤ length (code_bytes strings origins)
bytes_enough strings origins =
    let string = number_in strings in
    let es = origins_emitted string origins in
    omega (arith, emitted_long string (length origins) origins, length-append (map (λ e. e.code) es) (flat_map (λ e. e.tests) es), length-map (codes_of_origins string origins) spelling)

-- ---- they tell what they spell

told_again : (bytes : List (List ℕ)) (codes : List (List Instruction)) → AreSpelled bytes codes → map code_spelled bytes ≡ codes
told_again [] [] spelled = refl
told_again [] (code ∷ codes) spelled = absurd spelled
told_again (b ∷ bytes) [] spelled = absurd spelled
told_again (b ∷ bytes) (code ∷ codes) spelled = λ i. code_or_none (spells_in b code spelled.0 i) ∷ told_again bytes codes spelled.1 i

pub bytes_told : (strings : List (List ℕ)) (origins : List Origin) → CanBeSaid (number_in strings) origins → map code_spelled (code_bytes strings origins) ≡ codes_of_origins (number_in strings) origins
bytes_told strings origins said =
    let codes = codes_of_origins (number_in strings) origins in
    told_again (map spelling codes) codes (codes_spelled codes (all_say (number_in strings) origins said))

-- ---- what they are for

described_used : (texts : List Text) → map use_for (map Describes texts) ≡ replicate (length texts) Describing
described_used [] = refl
described_used (text ∷ texts) = ap (λ uses. Describing ∷ uses) (described_used texts)

origins_used : (texts : List Text) (rules : List Rule) (scenes : List Scene)
    → map use_for (origins_of texts rules scenes) ≡ replicate (length texts) Describing ++ (map use_for (origins_in rules) ++ map use_for (origins_in_scenes scenes))
origins_used texts rules scenes =
    map-append use_for (map Describes texts) (origins_in rules ++ origins_in_scenes scenes)
    ∙ (λ i. described_used texts i ++ map-append use_for (origins_in rules) (origins_in_scenes scenes) i)

pub origins_counted : (texts : List Text) (rules : List Rule) (scenes : List Scene) → length (origins_of texts rules scenes) ≡ length texts + (length (origins_in rules) + length (origins_in_scenes scenes))
origins_counted texts rules scenes =
    length-append (map Describes texts) (origins_in rules ++ origins_in_scenes scenes)
    ∙ (λ i. length-map texts Describes i + length-append (origins_in rules) (origins_in_scenes scenes) i)

-- ---- the codes of a tale

module _ (d : Declared) (books : List Book) (ws : List Worded) (lines : List Line) (texts : List Text) (rules : List Rule) (scenes : List Scene) where
  abbrev os : List Origin
  os = origins_of texts rules scenes

  abbrev strings : List (List ℕ)
  strings = strings_of (texts_named ws lines) (strings_behind d os)

  pub tables_sound : length strings < 65535 → length ws ≤ 1000 → length texts ≡ described_in ws
      → AllFit (counts_of (tables_with d books ws lines rules scenes os)) (number_in strings) os → CanBeSaid (number_in strings) os
      → AreSound (tables_with d books ws lines rules scenes os)
  unfolding strings_read tables_with counts_of values_of
  tables_sound few short many fit said =
      let bytes = code_bytes strings os in
      let z = counts_of (tables_with d books ws lines rules scenes os) in
      let found = origins_table z (number_in strings) os fit said in
      let count : length bytes ≡ small (length bytes) = omega (arith, bytes_few strings os said) in
      let all = origins_counted texts rules scenes in
      let room : described_in ws + (length (origins_in rules) + length (origins_in_scenes scenes)) ≤ 65535 = omega (arith, all, many, bytes_enough strings os, bytes_few strings os said) in
      let described : length texts ≡ length (codes_named (entries_of strings 0 ws)) = many ∙ sym (codes_counted strings ws 0 (omega (arith, short))) in
      let uses : map use_for os ≡ replicate (length (codes_named (entries_of strings 0 ws))) Describing ++ uses_in_tables (rules_of d (map (line_entry strings) lines) books (described_in ws) rules scenes) =
      origins_used texts rules scenes ∙ (λ i. replicate (described i) Describing ++ sym (uses_in_made d (map (line_entry strings) lines) books rules scenes (described_in ws) room) i) in
      record {
        judged = found.0;
        table = subst (λ us. IsTableOf (record z { codes = small (length bytes) }) us bytes found.0) uses (subst (λ n. IsTableOf (record z { codes = n }) (map use_for os) bytes found.0) count found.1);
        in_turn = ap (λ codes. are_in_turn 0 (codes_named (entries_of strings 0 ws) ++ codes)) (codes_in_made d (map (line_entry strings) lines) books rules scenes (described_in ws)) ∙ heads_in_turn strings ws rules scenes short room;
        named =
            ap (λ codes. counted_on 0 ((strings_in_tables (tables_with d books ws lines rules scenes os) ++ strings_in_codes codes) ++ strings_in_values (map (value_entry strings) d.values))) (bytes_told strings os said)
            ∙ ap (counted_on 0) (
            (λ i. (texts_told d books ws lines rules scenes os few i ++ said_in_order (number_in strings) os i) ++ values_named strings d.values i)
            ∙ append_assoc (map (number_in strings) (texts_named ws lines)) (map (number_in strings) (strings_said os)) (map (number_in strings) (names_of_values d.values))
            ∙ ap (λ rest. map (number_in strings) (texts_named ws lines) ++ rest) (sym (map-append (number_in strings) (strings_said os) (names_of_values d.values)))
            ∙ sym (map-append (number_in strings) (texts_named ws lines) (strings_behind d os)))
            ∙ strings_all_named (texts_named ws lines) (strings_behind d os) few;
      }
