-- The tales that a story file holds, and what it says of them.
use Rattle.std.specs.Prelude.{◌≡◌, ◌<◌, ◌≤◌, ℕ, ◌+◌, Bool, true, false, ◌&&◌, ◌==◌, nat_lt, nat_le, List, [], ◌++◌, count_by, length, map, slice_get, Option, Some, None}
use Rattle.std.specs.List.{list_all}
use Rattle.world_meaning.specs.WellMade.{IsWellMade}
use Rattle.world_meaning.specs.declared.declared.Declared.{Declared}
use Rattle.world_meaning.specs.declared.needs.Needs.{Needs}
use Rattle.world_meaning.specs.declared.tale.Object.{Object}
use Rattle.world_meaning.specs.declared.tale.Tale.{Tale}
use Rattle.object_words.specs.Mentions.{number_in}
use Rattle.play_meaning.specs.Grammar.{Line, is_slot}
use Rattle.play_meaning.specs.Rules.{Anything, Aspect, Exactly, OfKind, Rule}
use Rattle.play_meaning.specs.Scripts.{Scene}
use Rattle.play_meaning.specs.Trees.{Adjective, NotSo, Quality}
use Rattle.play_meaning.specs.StandardActions.{standard_needs}
use Rattle.play_meaning.specs.StandardRules.{plain}
use Rattle.play_meaning.specs.declared.operand.Counts.{Counts}
use Rattle.story_code.specs.SoundlyEmitted.{among}
use Rattle.code_table.specs.Emitted.{AllFit, CanBeSaid, HaveNoTable, codes_of_origins}
use Rattle.code_table.specs.declared.fault.TableFault.{TableFault}
use Rattle.code_table.specs.declared.fault.TableFault.TheVariants.{TooLong, TooMany, Memory}
use Rattle.story_format.specs.Checks.{is_small}
use Rattle.story_format.specs.Codes.{counts_of}
use Rattle.story_format.specs.Contents.{Contents, origins_said}
use Rattle.story_format.specs.Making.{Worded, codes_in, names_of_values, strings_with, tables_of, worded}
use Rattle.story_format.specs.RuleMaking.{book_count, noun_count}

abbrev pub is_short : List ℕ → Bool
is_short text = nat_lt (length text) 65536

abbrev pub is_short_or_none : Option (List ℕ) → Bool
is_short_or_none None = true
is_short_or_none (Some text) = is_short text

-- a name and a description of 65,535 bytes at most
abbrev pub has_short_texts : Object → Bool
has_short_texts o = is_short o.name && is_short_or_none o.description

-- 32 words at most
abbrev pub has_few_words : Worded → Bool
has_few_words w = nat_le (length w.words) 32

-- A tale that a story file holds, its actions and the words of its objects aside, of which `AreOf` speaks.
pub record IsHeld (t : Tale) : Type 0 where
  pub made : IsWellMade t
  pub texts : list_all has_short_texts t.objects ≡ true

-- why what is said of a story has no codes, whose strings have these numbers
abbrev pub HasNoCodes : Counts → (List ℕ → ℕ) → Contents → TableFault → Type 0
HasNoCodes z string c = HaveNoTable z string (origins_said c)

-- how many there are of what rules are about
pub record Named : Type 0 where
  pub books : ℕ
  pub objects : ℕ
  pub kinds : ℕ
  pub flags : ℕ
  pub scenes : ℕ
  pub actions : ℕ

abbrev pub named_by : Declared → ℕ → Named
named_by d objects = record { books = book_count d; objects = objects; kinds = length d.kinds; flags = length d.flags; scenes = length d.scenes; actions = 16 + length d.actions }

abbrev pub named_in : Tale → Named
named_in t = named_by t.declared (length t.objects)

-- one of so many, if there is one
abbrev pub is_there : ℕ → Option ℕ → Bool
is_there count None = true
is_there count (Some n) = nat_lt n count

-- an either-or property, perhaps denied
abbrev pub is_property : ℕ → Adjective → Bool
is_property flags (Quality p side) = nat_lt p flags
is_property flags (NotSo (Quality p side)) = nat_lt p flags
is_property flags _ = false

-- no more than nine adjectives
abbrev pub is_asked : Named → Aspect → Bool
is_asked z Anything = true
is_asked z (Exactly o) = nat_lt o z.objects
is_asked z (OfKind kind adjectives) = nat_lt kind z.kinds && (nat_le (length adjectives) 9 && list_all (is_property z.flags) adjectives)

-- a rule of a book that there is, about what is there
unfoldable pub is_of : Named → Rule → Bool
is_of z rule =
    nat_lt rule.book z.books && is_there z.actions rule.action && is_asked z rule.noun && is_asked z rule.second && is_asked z rule.place && is_there z.scenes rule.scene

-- so many nouns does the action need, if it is there
abbrev pub nouns_needed : Option Needs → Option ℕ
nouns_needed None = None
nouns_needed (Some needs) = Some (noun_count needs.noun + noun_count needs.second)

abbrev pub is_number : ℕ → Option ℕ → Bool
is_number n None = false
is_number n (Some m) = n == m

-- a line of 32 tokens at most, with as many slots as its action, one of these, has nouns
abbrev pub is_line_of : List Needs → Line → Bool
is_line_of actions line = is_number (count_by is_slot line.tokens) (nouns_needed (slice_get actions line.action)) && nat_le (length line.tokens) 32

-- no second noun without a first
abbrev pub has_first_noun : Needs → Bool
has_first_noun needs = nat_le (noun_count needs.second) (noun_count needs.noun)

-- What may be said of a tale: a text of each description, rules, with the sixty-one 2,000 at most, the tale's scenes, lines of its
-- actions, with the standard ones 65,535 at most, and words in small letters. No object has more than 32 words, and the actions are
-- 200 at most with the sixteen.
pub record AreOf (t : Tale) (c : Contents) : Type 0 where
  pub many : length c.texts ≡ codes_in t.objects
  pub few : length c.rules ≤ 1939
  pub named : list_all (is_of (named_in t)) c.rules ≡ true
  pub scenes : map (λ scene. scene.recurs) c.scenes ≡ t.declared.scenes
  pub few_actions : length t.declared.actions ≤ 184
  pub first_nouns : list_all has_first_noun t.declared.actions ≡ true
  pub few_lines : length c.lines ≤ 65502
  pub lines : list_all (is_line_of (standard_needs ++ t.declared.actions)) c.lines ≡ true
  pub small : list_all (λ synonym. is_small synonym.word) c.synonyms ≡ true
  pub few_words : list_all has_few_words (worded c.synonyms t.objects) ≡ true

-- how many there are of what codes name
abbrev pub counts_in : Tale → Contents → Counts
counts_in t c = counts_of (tables_of t c)

-- these are as many, whatever number a code has, and however many codes there are
abbrev pub AreCountsOf : Tale → Contents → Counts → Type 0
AreCountsOf t c z = (own codes : ℕ) → among z own codes ≡ among (counts_in t c) own codes

-- What a story file says of a tale: strings of 65,535 bytes at most, no more than two bytes number, of texts, rules and scenes that fit
-- what is there and whose codes bytes can say.
pub record AreHeld (t : Tale) (c : Contents) : Type 0 where
  pub are_of : AreOf t c
  pub short : list_all is_short (strings_with t c) ≡ true
  pub few : length (strings_with t c) < 65535
  pub fit : AllFit (counts_in t c) (number_in (strings_with t c)) (origins_said c)
  pub said : CanBeSaid (number_in (strings_with t c)) (origins_said c)

-- unless there are too many strings, or one is too long, there are too many codes
abbrev pub AreTooMany : Tale → Contents → Type 0
AreTooMany t c = length (strings_with t c) < 65535 → list_all is_short (strings_with t c) ≡ true → 65535 < length (codes_of_origins (number_in (strings_with t c)) (origins_said c))

-- why a story file doesn't say it: not all codes fit, each said by bytes, or there is too much
abbrev pub AreNotHeld : Tale → Contents → TableFault → Type 0
AreNotHeld t c TooLong = HasNoCodes (counts_in t c) (number_in (strings_with t c)) c TooLong
AreNotHeld t c TooMany = AreTooMany t c
AreNotHeld t c Memory = Unit {0}

-- what a story file says of a tale isn't among what it doesn't, memory aside
abbrev pub NeverHeldAndNot : Type 0
NeverHeldAndNot = (t : Tale) (c : Contents) (fault : TableFault) → AreHeld t c → AreNotHeld t c fault → fault ≡ Memory

-- a scene that nothing begins or ends
abbrev pub idle_scene : Bool → Scene
idle_scene recurs = record { recurs = recurs; begins = None; ends = None }

-- texts of bytes alone, where there is no rule and nothing begins or ends a scene
abbrev pub plain_contents : Tale → List (List ℕ) → Contents
plain_contents t bytes = record { texts = map plain bytes; rules = []; listings = []; scenes = map idle_scene t.declared.scenes; lines = []; synonyms = [] }

-- they are said where each is at most 65,535 bytes, as each name of a value is, and the actions may be said
abbrev pub PlainTextsAreHeld : Type 0
PlainTextsAreHeld =
    (t : Tale) (bytes : List (List ℕ)) → IsHeld t → list_all has_few_words (worded [] t.objects) ≡ true → length t.declared.actions ≤ 184
    → list_all has_first_noun t.declared.actions ≡ true → list_all is_short (names_of_values t.declared.values) ≡ true
    → length bytes ≡ codes_in t.objects → list_all is_short bytes ≡ true
    → AreHeld t (plain_contents t bytes)
