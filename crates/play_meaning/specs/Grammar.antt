-- The grammar of commands: lines of words and slots, and the words that objects go by (*Writing with Inform*,
-- chapter 17).
use Rattle.std.specs.Prelude.{ℕ, Bool, true, false, ◌&&◌, List, [], ◌∷◌, ◌++◌, filter, map, if◌then◌else◌}
use Rattle.std.specs.List.{list_all, list_any}
use Rattle.world_meaning.specs.Reading.{noun_of}
use Rattle.world_meaning.specs.Spelling.{is_spelled}
use Rattle.play_meaning.specs.Settings.{Setting, direction_kind, objects_of, thing_kind}

-- a word, or a slot for a thing or for a direction
pub data Token : Type 0 where
  Word : List ℕ → Token
  Something : Token
  Direction : Token

pub record Line : Type 0 where
  pub action : ℕ
  pub tokens : List Token

pub record Grammar : Type 0 where
  pub setting : Setting
  -- the words that an object goes by
  pub words : ℕ → List (List ℕ)
  -- the author's, in the order of the source, then the standard ones
  pub lines : List Line

-- ---- splits

-- a slot takes one word or more: the fewest first
abbrev pub slot_splits : (List (List ℕ) → List (List (List (List ℕ)))) → List (List ℕ) → List (List ℕ) → List (List (List (List ℕ)))
slot_splits rest front [] = []
slot_splits rest front (word ∷ words) = map (λ phrases. (front ++ word ∷ []) ∷ phrases) (rest words) ++ slot_splits rest (front ++ word ∷ []) words

-- the ways to part words among the tokens of a line: of each way the phrases of its slots
unfoldable pub splits : List Token → List (List ℕ) → List (List (List (List ℕ)))
splits [] [] = [] ∷ []
splits [] (word ∷ words) = []
splits (Word spelling ∷ tokens) [] = []
splits (Word spelling ∷ tokens) (word ∷ words) = if is_spelled word spelling then splits tokens words else []
splits (Something ∷ tokens) words = slot_splits (splits tokens) [] words
splits (Direction ∷ tokens) words = slot_splits (splits tokens) [] words

-- ---- candidates

abbrev pub has_word : List (List ℕ) → List ℕ → Bool
has_word words word = list_any (is_spelled word) words

-- the object goes by each of these words
abbrev pub goes_by : Grammar → List (List ℕ) → ℕ → Bool
goes_by g phrase o = list_all (has_word (g.words o)) phrase

abbrev pub may_fill : Grammar → (ℕ → Bool) → Token → ℕ → Bool
may_fill g sees (Word spelling) o = false
may_fill g sees Something o = g.setting.is_of o thing_kind && sees o
may_fill g sees Direction o = g.setting.is_of o direction_kind

-- what a phrase behind its article may mean; without a word, nothing
abbrev pub meant_by : Grammar → List (List ℕ) → List ℕ → List ℕ
meant_by g [] objects = []
meant_by g (word ∷ words) objects = filter (goes_by g (word ∷ words)) objects

-- the objects that a slot's phrase may mean, by rising number
unfoldable pub candidates : Grammar → (ℕ → Bool) → Token → List (List ℕ) → List ℕ
candidates g sees slot phrase = meant_by g (noun_of phrase) (filter (may_fill g sees slot) (objects_of g.setting))

abbrev pub is_slot : Token → Bool
is_slot (Word spelling) = false
is_slot Something = true
is_slot Direction = true

-- the candidates of each slot
abbrev pub candidates_by : Grammar → (ℕ → Bool) → List Token → List (List (List ℕ)) → List (List ℕ)
candidates_by g sees [] phrases = []
candidates_by g sees (slot ∷ slots) [] = []
candidates_by g sees (slot ∷ slots) (phrase ∷ phrases) = candidates g sees slot phrase ∷ candidates_by g sees slots phrases

-- the same words, whatever their order
abbrev pub are_named_alike : Grammar → ℕ → ℕ → Bool
are_named_alike g a b = list_all (has_word (g.words b)) (g.words a) && list_all (has_word (g.words a)) (g.words b)
