-- The texts that the player prints of itself.
use Rattle.std.specs.Prelude.{ℕ, List, [], ◌∷◌, ◌++◌, codes}

abbrev pub said : List ℕ → List ℕ
said text = text ++ 10 ∷ []

abbrev pub empty_text : List ℕ
empty_text = said (codes "I beg your pardon?")

abbrev pub too_long_text : List ℕ
too_long_text = said (codes "That line is too long.")

abbrev pub no_verb_text : List ℕ
no_verb_text = said (codes "I don't know that verb.")

abbrev pub not_seen_text : List ℕ
not_seen_text = said (codes "You can't see any such thing.")

abbrev pub not_understood_text : List ℕ
not_understood_text = said (codes "I didn't understand that sentence.")

-- to a command for all things, where there are none
abbrev pub none_of_all_text : List ℕ
none_of_all_text = said (codes "There is nothing to do that to.")

abbrev pub no_way_text : List ℕ
no_way_text = said (codes "You can't go that way.")

abbrev pub memory_text : List ℕ
memory_text = said (codes "[The turn was abandoned: out of memory.]")

abbrev pub out_of_range_text : List ℕ
out_of_range_text = said (codes "[The turn was abandoned: number out of range.]")

abbrev pub too_deep_text : List ℕ
too_deep_text = said (codes "[The turn was abandoned: nested too deep.]")

abbrev pub too_much_work_text : List ℕ
too_much_work_text = said (codes "[The turn was abandoned: too much work.]")

-- the line with which a story ends
abbrev pub closing_text : List ℕ → List ℕ
closing_text ending = 10 ∷ codes "*** " ++ said (ending ++ codes " ***")

-- what stands before each line that is typed
abbrev pub prompt : List ℕ
prompt = 10 ∷ 62 ∷ []
