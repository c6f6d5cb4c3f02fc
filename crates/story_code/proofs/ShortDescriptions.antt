-- Bytes can say the codes of objects and descriptions, which take few bytes for each word.
use Rattle.std.proofs.Common.{◌≡◌, refl, ℕ, ◌+◌, ◌*◌, ◌≤◌, ◌&&◌, nat_lt, true, List, [], ◌∷◌, ◌++◌, length, Option, None, Some, arith, ℤ, negsuc, pos}
use Rattle.std.specs.List.{list_all}
use Rattle.std.proofs.lemmas.Bool.{and_from, lt-ltb}
use Rattle.std.proofs.lemmas.Nat.{mul-le}
use Rattle.play_meaning.specs.Instructions.{sizes}
use Rattle.play_meaning.specs.Translation.{adjective_code, adjectives_code, asked_of, description_code, is_there_code, kind_code, object_code, test_code}
use Rattle.play_meaning.specs.Trees as tree
use Rattle.play_meaning.specs.Trees.{Adjective, Description, Object}
use Rattle.play_meaning.specs.declared.instruction.Instruction.{Instruction}
use Rattle.play_meaning.specs.declared.instruction.Instruction.TheVariants as i
use Rattle.play_meaning.specs.declared.operand.Counts.{Counts}
use Rattle.story_code.specs.Emitting.{can_say_code, opens_few}
use Rattle.story_code.specs.Sayable.{AdjectiveIsPlain, AdjectiveIsSayable, AdjectivesAreSayable, DescriptionIsSayable, ObjectIsThere, ThoseAreSayable}
use Rattle.story_code.specs.Shortness.{words_of_adjective, words_of_adjectives, words_of_description, words_of_noun, words_of_object, words_of_those}
use Rattle.story_code.specs.Spelling.{can_spell, is_integer}
use Rattle.story_code.proofs.Followed.{sizes_append}
use Rattle.story_code.proofs.ShortParts.{CanSpell, spell_both}

-- a code, another behind it, and an instruction
pub size_of_three : (a b : List Instruction) (x : Instruction) → sizes (a ++ b ++ x ∷ []) ≡ sizes a + sizes b + sizes (x ∷ [])
size_of_three a b x = omega (arith, sizes_append (a ++ b) (x ∷ []), sizes_append a b)

pub spell_three : (a b : List Instruction) (x : Instruction) → CanSpell a → CanSpell b → CanSpell (x ∷ []) → CanSpell (a ++ b ++ x ∷ [])
spell_three a b x r s u = spell_both (a ++ b) (x ∷ []) (spell_both a b r s) u

-- ---- objects

pub object_size : (o : Object) → sizes (object_code o) ≤ 5 * words_of_object o
object_size (tree.The o) = omega arith
object_size tree.Noun = omega arith
object_size tree.SecondNoun = omega arith
object_size tree.Location = omega arith
object_size tree.Nothing = omega arith
object_size (tree.Turning k) = omega arith
object_size (tree.RoomFrom d room) = omega (arith, size_of_three (object_code d) (object_code room) i.Room, object_size d, object_size room)
object_size (tree.DoorFrom d room) = omega (arith, size_of_three (object_code d) (object_code room) i.Door, object_size d, object_size room)

pub noun_size : (o : Object) → sizes (object_code o) ≤ 5 * words_of_noun o + 5
noun_size (tree.The o) = omega arith
noun_size tree.Noun = omega arith
noun_size tree.SecondNoun = omega arith
noun_size tree.Location = omega arith
noun_size tree.Nothing = omega arith
noun_size (tree.Turning k) = omega arith
noun_size (tree.RoomFrom d room) = omega (arith, object_size (tree.RoomFrom d room))
noun_size (tree.DoorFrom d room) = omega (arith, object_size (tree.DoorFrom d room))

pub one_word : (o : Object) → 1 ≤ words_of_object o
one_word (tree.The o) = omega arith
one_word tree.Noun = omega arith
one_word tree.SecondNoun = omega arith
one_word tree.Location = omega arith
one_word tree.Nothing = omega arith
one_word (tree.Turning k) = omega arith
one_word (tree.RoomFrom d room) = omega arith
one_word (tree.DoorFrom d room) = omega arith

-- a literal number that four bytes can say
pub literal_spelled : (a : ℤ) → is_integer a ≡ true → CanSpell (i.Num a ∷ [])
literal_spelled a is = (and_from (is_integer a && true) true (and_from (is_integer a) true is refl) refl, refl)

pub object_spelled : (z : Counts) (k : ℕ) (o : Object) → z.objects ≤ 65536 → ObjectIsThere z k o → CanSpell (object_code o)
object_spelled z k (tree.The o) few there = literal_spelled (pos o) (lt-ltb o 2147483648 (omega (arith, few, there)))
object_spelled z k tree.Noun few there = (refl, refl)
object_spelled z k tree.SecondNoun few there = (refl, refl)
object_spelled z k tree.Location few there = (refl, refl)
object_spelled z k tree.Nothing few there = literal_spelled (negsuc 0) refl
object_spelled z k (tree.Turning j) few there = (refl, refl)
object_spelled z k (tree.RoomFrom d room) few there =
    spell_three (object_code d) (object_code room) i.Room (object_spelled z k d few there.0) (object_spelled z k room few there.1) (refl, refl)
object_spelled z k (tree.DoorFrom d room) few there =
    spell_three (object_code d) (object_code room) i.Door (object_spelled z k d few there.0) (object_spelled z k room few there.1) (refl, refl)

-- ---- what is asked of an object that this code gives

module _ (o : List Instruction) (is : CanSpell o) where
  there_spelled : CanSpell (is_there_code o)
  there_spelled = spell_both o (i.Num (negsuc 0) ∷ i.Eq ∷ i.Not ∷ []) is (refl, refl)

  pub adjective_spelled : (a : Adjective) → CanSpell (adjective_code o a)
  unfolding adjective_code
  adjective_spelled (tree.Quality p side) = spell_both o (i.Flag p (asked_of side) ∷ []) is (refl, refl)
  adjective_spelled (tree.Valued q value) = spell_both o (i.Valued q value ∷ []) is (refl, refl)
  adjective_spelled tree.Visible = spell_both o (i.Visible ∷ []) is (refl, refl)
  adjective_spelled tree.Touchable = spell_both o (i.Touchable ∷ []) is (refl, refl)
  adjective_spelled (tree.NotSo a) =
      spell_three (is_there_code o) (adjective_code o a ++ i.Not ∷ []) i.And there_spelled (spell_both (adjective_code o a) (i.Not ∷ []) (adjective_spelled a) (refl, refl)) (refl, refl)

  adjectives_spelled : (list : List Adjective) → CanSpell (adjectives_code o list)
  adjectives_spelled [] = there_spelled
  adjectives_spelled (a ∷ list) = spell_three (adjective_code o a) (adjectives_code o list) i.And (adjective_spelled a) (adjectives_spelled list) (refl, refl)

  those_spelled : (list : List Adjective) (kind : Option ℕ) → CanSpell (kind_code o kind (adjectives_code o list))
  those_spelled list None = adjectives_spelled list
  those_spelled list (Some kind) = spell_three (o ++ i.Kind kind ∷ []) (adjectives_code o list) i.And (spell_both o (i.Kind kind ∷ []) is (refl, refl)) (adjectives_spelled list) (refl, refl)

  pub description_spelled : (z : Counts) (k : ℕ) (d : Description) → z.objects ≤ 65536 → DescriptionIsSayable z k d → CanSpell (description_code o d)
  unfolding description_code
  description_spelled z k (tree.Those list kind) few are = those_spelled list kind
  description_spelled z k (tree.ThoseHeld list kind r holder) few are =
      spell_three (kind_code o kind (adjectives_code o list)) (o ++ object_code holder ++ i.Held r ∷ []) i.And (those_spelled list kind)
      (spell_three o (object_code holder) (i.Held r) is (object_spelled z k holder few are.1.0) (refl, refl)) (refl, refl)

-- each asks for the object anew
module _ (z : Counts) (o : List Instruction) where
  there_size : sizes (is_there_code o) ≡ sizes o + 7
  there_size = omega (arith, sizes_append o (i.Num (negsuc 0) ∷ i.Eq ∷ i.Not ∷ []))

  plain_size : (a : Adjective) → AdjectiveIsPlain z a → sizes (adjective_code o a) ≤ sizes o + 3
  unfolding adjective_code
  plain_size (tree.Quality p side) plain = omega (arith, sizes_append o (i.Flag p (asked_of side) ∷ []))
  plain_size (tree.Valued q value) plain = omega (arith, sizes_append o (i.Valued q value ∷ []))
  plain_size tree.Visible plain = omega (arith, sizes_append o (i.Visible ∷ []))
  plain_size tree.Touchable plain = omega (arith, sizes_append o (i.Touchable ∷ []))
  plain_size (tree.NotSo a) plain = absurd plain

  pub adjective_size : (a : Adjective) → AdjectiveIsSayable z a → sizes (adjective_code o a) ≤ 2 * sizes o + 12 * words_of_adjective a
  unfolding adjective_code
  adjective_size (tree.Quality p side) plain = omega (arith, sizes_append o (i.Flag p (asked_of side) ∷ []))
  adjective_size (tree.Valued q value) plain = omega (arith, sizes_append o (i.Valued q value ∷ []))
  adjective_size tree.Visible plain = omega (arith, sizes_append o (i.Visible ∷ []))
  adjective_size tree.Touchable plain = omega (arith, sizes_append o (i.Touchable ∷ []))
  adjective_size (tree.NotSo a) plain =
      omega (arith, size_of_three (is_there_code o) (adjective_code o a ++ i.Not ∷ []) i.And, there_size, sizes_append (adjective_code o a) (i.Not ∷ []), plain_size a plain)

  adjectives_size : (list : List Adjective) → AdjectivesAreSayable z list → sizes (adjectives_code o list) ≤ length list * (2 * sizes o) + 13 * words_of_adjectives list + sizes o + 7
  adjectives_size [] are = omega (arith, there_size)
  adjectives_size (a ∷ list) are =
      omega (arith, size_of_three (adjective_code o a) (adjectives_code o list) i.And, adjective_size a are.0, adjectives_size list are.1, some_word a)
    where
      some_word : (a : Adjective) → 1 ≤ words_of_adjective a
      some_word (tree.Quality p side) = omega arith
      some_word (tree.Valued q value) = omega arith
      some_word tree.Visible = omega arith
      some_word tree.Touchable = omega arith
      some_word (tree.NotSo a) = omega arith

  few_size : (list : List Adjective) → AdjectivesAreSayable z list → length list ≤ 9 → sizes (adjectives_code o list) ≤ 19 * sizes o + 13 * words_of_adjectives list + 7
  few_size list are few =
      let times : length list * (2 * sizes o) ≤ 9 * (2 * sizes o) = mul-le (length list) (2 * sizes o) 9 (2 * sizes o) few (omega arith) in
      omega (arith, adjectives_size list are, times)

  those_size : (list : List Adjective) (kind : Option ℕ) → ThoseAreSayable z list kind → sizes (kind_code o kind (adjectives_code o list)) ≤ 20 * sizes o + 13 * words_of_those list kind + 7
  those_size list None are = omega (arith, few_size list are.1.0 are.0)
  those_size list (Some kind) are =
      omega (arith, size_of_three (o ++ i.Kind kind ∷ []) (adjectives_code o list) i.And, sizes_append o (i.Kind kind ∷ []), few_size list are.1.0 are.0)

  pub description_size : (k : ℕ) (d : Description) → DescriptionIsSayable z k d → sizes (description_code o d) ≤ 21 * sizes o + 13 * words_of_description d + 7
  unfolding description_code
  description_size k (tree.Those list kind) are = omega (arith, those_size list kind are)
  description_size k (tree.ThoseHeld list kind r holder) are =
      omega (
        arith,
        size_of_three (kind_code o kind (adjectives_code o list)) (o ++ object_code holder ++ i.Held r ∷ []) i.And,
        size_of_three o (object_code holder) (i.Held r),
        those_size list kind are.0,
        object_size holder,
      )

-- ---- tests

pub test_said : (z : Counts) (k : ℕ) (d : Description) → z.objects ≤ 65536 → DescriptionIsSayable z k d → words_of_description d ≤ 500 → can_say_code (test_code k d) ≡ true
test_said z k d few are short =
    let o = i.Loop k ∷ [] in
    let is = spell_both (description_code o d) (i.Answer ∷ []) (description_spelled o (refl, refl) z k d few are) (refl, refl) in
    and_from (nat_lt (sizes (test_code k d)) 65536) (list_all can_spell (test_code k d) && list_all opens_few (test_code k d))
    (lt-ltb (sizes (test_code k d)) 65536 (omega (arith, sizes_append (description_code o d) (i.Answer ∷ []), description_size z o k d are, short)))
    (and_from (list_all can_spell (test_code k d)) (list_all opens_few (test_code k d)) is.0 is.1)
