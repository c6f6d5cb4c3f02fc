-- The instruction that is read at the front of bytes is one that they spell.
use Rattle.std.proofs.Common.{◌≡◌, ◌⊎◌, FitsSigned, inl, inr, ℕ, zero, suc, ◌<◌, ◌≤◌, ◌^◌, ◌==◌, ◌&&◌, ℤ, pos, negsuc, nat_lt, Bool, true, false, if◌then◌else◌, List, [], ◌∷◌, ◌++◌, length, slice_index, get_or, Option, Some, None, refl, sym, ap, ◌∙◌, subst, arith, length-append}
use Rattle.std.proofs.lemmas.Grind.{common_steps}
use Rattle.std.proofs.lemmas.Nat.{be_bytes_2, be_bytes_4, from_be_bytes-to_be_bytes_4}
use Rattle.std.specs.Int.{w16, w32, cast_signed, cast_unsigned, from_be_bytes, to_be_bytes}
use Rattle.std.specs.Option.{option_map}
use Rattle.world_meaning.specs.declared.place.Rel.{Rel}
use Rattle.play_meaning.specs.Instructions.{Argument, Integer, opcode, row_of, size_of, widths}
use Rattle.world_meaning.specs.Relations.{relation_number}
use Rattle.play_meaning.specs.declared.instruction.Asked.{Asked}
use Rattle.play_meaning.specs.declared.instruction.Instruction.{Instruction}
use Rattle.play_meaning.specs.declared.instruction.Instruction.TheVariants.{Count, Flag, Name, Names, Next, Num, SetFlag, Try}
use Rattle.play_meaning.specs.declared.naming.Naming.{Naming}
use Rattle.std.specs.List.{list_all}
use borrow.Author.Differences.{fits_in}
use mir.Val.{Fits}
use mir.ValLaws.{of_z_fits, to_z-Fits, to_z-of_z}
use Rattle.std.proofs.lemmas.Int.{of_z-to_z}
use Rattle.std.proofs.lemmas.Bool.{and_parts}
use Rattle.story_code.specs.Spelling.{arguments_bytes, is_integer, can_say, can_spell, choice_number, form_number, side_number}
use Rattle.story_code.specs.Passes.{is_nil}
use Rattle.story_code.specs.Fronts.{by_byte, by_pair, by_relation, by_word, choice_of, common_in, count_in, first_related, first_with, flag_in, form_of, front, front_by, has_byte, has_pair, has_relation, has_word, integer_in, name_in, names_in, next_in, plain_ones, relation_of, set_flag_in, side_of, try_in, with_byte, with_pair, with_relation, with_word, word_of}

-- each is a byte
abbrev pub Small : List ℕ → Type 0
Small bytes = (k : ℕ) → slice_index bytes k < 256

-- these are the bytes of an instruction's arguments
pub record Says (i : Instruction) (args : List ℕ) : Type 0 where
  pub many : length args ≡ widths (row_of i).arguments
  pub said : Small args → (args ≡ arguments_bytes (row_of i).arguments) × (can_spell i ≡ true)

-- an instruction, cut from the front
pub record IsRead (i : Instruction) (bytes : List ℕ) : Type 0 where
  pub args : List ℕ
  pub rest : List ℕ
  pub cut : bytes ≡ opcode i ∷ (args ++ rest)
  pub says : Says i args

says : (i : Instruction) (args : List ℕ) → length args ≡ widths (row_of i).arguments → args ≡ arguments_bytes (row_of i).arguments → can_spell i ≡ true → Says i args
says i args m b c = record { many = m; said = λ small. (b, c) }

-- ---- words and integers

small_word : (high low : ℕ) → high < 256 → low < 256 → nat_lt (word_of high low) 65536 ≡ true
small_word high low h l =
    let lt : word_of high low < 65536 = omega (arith, h, l) in
    grind (arith, common_steps, lt)

word_bytes : (high low : ℕ) → high < 256 → low < 256 → high ∷ low ∷ [] ≡ to_be_bytes w16 (word_of high low)
word_bytes high low h l = sym (be_bytes_2 (high ∷ low ∷ []) (word_of high low) refl small refl)
  where
    small : (k : ℕ) → get_or (high ∷ low ∷ []) k 0 < 256
    small zero = h
    small (suc zero) = l
    small (suc (suc k)) = omega arith

-- ---- lists of instructions that are read alike

abbrev AllAre : (Instruction → Type 0) → List Instruction → Type 0
AllAre P [] = Unit {0}
AllAre P (i ∷ is) = P i × AllAre P is

found : (P : Instruction → Type 0) (b : ℕ) (is : List Instruction) (i : Instruction) → AllAre P is → first_with b is ≡ Some i → (opcode i ≡ b) × P i
found P b [] i all h = let no : ⊥ = cc in absurd no
found P b (j ∷ js) i all h = by (opcode j == b) refl h (found P b js i all.1)
  where
    by : (c : Bool) → (opcode j == b) ≡ c → (if c then Some j else first_with b js) ≡ Some i → (first_with b js ≡ Some i → (opcode i ≡ b) × P i) → (opcode i ≡ b) × P i
    by true e h later =
        let same : j ≡ i = cc in
        let n : opcode j ≡ b = grind (arith, common_steps, e) in
        (subst (λ k. opcode k ≡ b) same n, subst P same all.0)
    by false e h later = later h

read_by : (b : ℕ) (i : Instruction) (args rest : List ℕ) → (opcode i ≡ b) × Says i args → IsRead i (b ∷ (args ++ rest))
read_by b i args rest h = record { args = args; rest = rest; cut = ap (λ n. n ∷ (args ++ rest)) (sym h.0); says = h.1 }

-- those that have no arguments
bare_ones : (is : List Instruction) → list_all (λ i. is_nil (row_of i).arguments) is ≡ true → AllAre (λ i. Says i []) is
bare_ones [] h = tt
bare_ones (i ∷ is) h = (no_arguments (row_of i).arguments refl (and_parts (is_nil (row_of i).arguments) _ h).0, bare_ones is (and_parts (is_nil (row_of i).arguments) _ h).1)
  where
    no_arguments : (args : List Argument) → (row_of i).arguments ≡ args → is_nil args ≡ true → Says i []
    no_arguments [] e h = says i [] (ap widths (sym e)) (ap arguments_bytes (sym e)) (ap (list_all can_say) e)
    no_arguments (a ∷ args) e h = let no : ⊥ = cc in absurd no

plain_says : AllAre (λ i. Says i []) plain_ones
plain_says = bare_ones plain_ones refl

byte_says : (n : ℕ) → AllAre (λ i. Says i (n ∷ [])) (with_byte n)
byte_says n = (says _ (n ∷ []) refl refl refl, (says _ (n ∷ []) refl refl refl, (says _ (n ∷ []) refl refl refl, (says _ (n ∷ []) refl refl refl, (says _ (n ∷ []) refl refl refl, (says _ (n ∷ []) refl refl refl, (says _ (n ∷ []) refl refl refl, (says _ (n ∷ []) refl refl refl, (says _ (n ∷ []) refl refl refl, tt)))))))))

pair_says : (q value : ℕ) → AllAre (λ i. Says i (q ∷ value ∷ [])) (with_pair q value)
pair_says q value = (says _ (q ∷ value ∷ []) refl refl refl, (says _ (q ∷ value ∷ []) refl refl refl, tt))

relation_says : (b : ℕ) (r : Rel) → b ≡ relation_number r → AllAre (λ i. Says i (b ∷ [])) (with_relation r)
relation_says b r e = (says _ (b ∷ []) refl here refl, (says _ (b ∷ []) refl here refl, (says _ (b ∷ []) refl here refl, tt)))
  where
    here : b ∷ [] ≡ relation_number r ∷ []
    here = ap (λ n. n ∷ []) e

word_said : (i : Instruction) (high low : ℕ) → 2 ≡ widths (row_of i).arguments → arguments_bytes (row_of i).arguments ≡ to_be_bytes w16 (word_of high low)
    → can_spell i ≡ (nat_lt (word_of high low) 65536 && true) → Says i (high ∷ low ∷ [])
word_said i high low m b c = record {
  many = m;
  said = λ small. (word_bytes high low (small 0) (small 1) ∙ sym b, c ∙ ap (λ t. t && true) (small_word high low (small 0) (small 1)));
}

word_says : (high low : ℕ) → AllAre (λ i. Says i (high ∷ low ∷ [])) (with_word (word_of high low))
word_says high low = (word_said _ high low refl refl refl, (word_said _ high low refl refl refl, (word_said _ high low refl refl refl, (word_said _ high low refl refl refl, (word_said _ high low refl refl refl, tt)))))

-- ---- arguments of one byte

relation_is : (b : ℕ) (r : Rel) → relation_of b ≡ Some r → b ≡ relation_number r
relation_is b r h = grind (arith, common_steps, h)

side_is : (b : ℕ) (asked : Asked) → side_of b ≡ Some asked → b ≡ side_number asked
side_is b asked h = grind (arith, common_steps, h)

form_is : (b : ℕ) (naming : Naming) → form_of b ≡ Some naming → b ≡ form_number naming
form_is b naming h = grind (arith, common_steps, h)

choice_is : (b : ℕ) (value : Bool) → choice_of b ≡ Some value → b ≡ choice_number value
choice_is b value h = grind (arith, common_steps, h)

mapped_is : {A B : Type 0} (f : A → B) (o : Option A) (b : B) → option_map f o ≡ Some b → (a : A) × ((o ≡ Some a) × (f a ≡ b))
mapped_is f None b h = let no : ⊥ = cc in absurd no
mapped_is f (Some a) b h = let e : f a ≡ b = cc in (a, (refl, e))

-- ---- instructions with arguments of their own

-- what reads those of a byte
abbrev Reads : ℕ → (List ℕ → Option Instruction) → Type 0
Reads b reads = (bytes : List ℕ) (i : Instruction) → reads bytes ≡ Some i → IsRead i (b ∷ bytes)

integer_is : (z : ℤ) → FitsSigned w32 z → is_integer z ≡ true
integer_is (pos n) f = let lt : n < 2147483648 = omega (arith, fits_in, f) in grind (arith, common_steps, lt)
integer_is (negsuc n) f = let lt : n < 2147483648 = omega (arith, fits_in, f) in grind (arith, common_steps, lt)

integer_has : (z : ℤ) → is_integer z ≡ true → FitsSigned w32 z
integer_has (pos n) h = let lt : n < 2147483648 = grind (arith, common_steps, h) in omega (arith, fits_in, lt)
integer_has (negsuc n) h = let lt : n < 2147483648 = grind (arith, common_steps, h) in omega (arith, fits_in, lt)

pub integer_back : (z : ℤ) → is_integer z ≡ true → cast_signed w32 (from_be_bytes w32 (to_be_bytes w32 (cast_unsigned w32 z))) ≡ z
integer_back z h =
    let f = integer_has z h in
    let small : cast_unsigned w32 z < 2 ^ 32 = omega (arith, fits_in, of_z_fits w32 z f) in
    ap (cast_signed w32) (from_be_bytes-to_be_bytes_4 (cast_unsigned w32 z) small) ∙ to_z-of_z w32 z f

four_small : (a b c d : ℕ) → a < 256 → b < 256 → c < 256 → d < 256 → (k : ℕ) → get_or (a ∷ b ∷ c ∷ d ∷ []) k 0 < 256
four_small a b c d ha hb hc hd zero = ha
four_small a b c d ha hb hc hd (suc zero) = hb
four_small a b c d ha hb hc hd (suc (suc zero)) = hc
four_small a b c d ha hb hc hd (suc (suc (suc zero))) = hd
four_small a b c d ha hb hc hd (suc (suc (suc (suc k)))) = omega arith

integer_bytes : (a b c d n : ℕ) → n ≡ from_be_bytes w32 (a ∷ b ∷ c ∷ d ∷ []) → a < 256 → b < 256 → c < 256 → d < 256
    → (a ∷ b ∷ c ∷ d ∷ [] ≡ to_be_bytes w32 (cast_unsigned w32 (cast_signed w32 n))) × (is_integer (cast_signed w32 n) ≡ true)
integer_bytes a b c d n e ha hb hc hd =
    let lt : n < 2 ^ 32 = omega (arith, e, ha, hb, hc, hd) in
    let fit : Fits w32 n = record { fits = lt } in
    (sym (ap (to_be_bytes w32) (of_z-to_z w32 n lt) ∙ be_bytes_4 (a ∷ b ∷ c ∷ d ∷ []) n refl (four_small a b c d ha hb hc hd) e), integer_is (cast_signed w32 n) (to_z-Fits w32 n fit))

integer_said : (a b c d : ℕ) → Says (Num (cast_signed w32 (from_be_bytes w32 (a ∷ b ∷ c ∷ d ∷ [])))) (a ∷ b ∷ c ∷ d ∷ [])
integer_said a b c d = record { many = refl; said = λ small. by (integer_bytes a b c d (from_be_bytes w32 (a ∷ b ∷ c ∷ d ∷ [])) refl (small 0) (small 1) (small 2) (small 3)) }
  where
    by : (a ∷ b ∷ c ∷ d ∷ [] ≡ to_be_bytes w32 (cast_unsigned w32 (cast_signed w32 (from_be_bytes w32 (a ∷ b ∷ c ∷ d ∷ []))))) × (is_integer (cast_signed w32 (from_be_bytes w32 (a ∷ b ∷ c ∷ d ∷ []))) ≡ true)
        → (a ∷ b ∷ c ∷ d ∷ [] ≡ arguments_bytes (Integer (cast_signed w32 (from_be_bytes w32 (a ∷ b ∷ c ∷ d ∷ []))) ∷ [])) × (can_spell (Num (cast_signed w32 (from_be_bytes w32 (a ∷ b ∷ c ∷ d ∷ [])))) ≡ true)
    by p = (p.0, ap (λ t. t && true) p.1)

reads_integer : Reads 0x01 integer_in
reads_integer (a ∷ b ∷ c ∷ d ∷ rest) i h =
    let same : Num (cast_signed w32 (from_be_bytes w32 (a ∷ b ∷ c ∷ d ∷ []))) ≡ i = cc in
    read_by 0x01 i (a ∷ b ∷ c ∷ d ∷ []) rest (ap opcode (sym same), subst (λ j. Says j (a ∷ b ∷ c ∷ d ∷ [])) same (integer_said a b c d))
reads_integer _ i h = let no : ⊥ = cc in absurd no

reads_flag : Reads 0x12 flag_in
reads_flag [] i h = let no : ⊥ = cc in absurd no
reads_flag (p ∷ []) i h = let no : ⊥ = cc in absurd no
reads_flag (p ∷ b ∷ rest) i h =
    let m = mapped_is (Flag p) (side_of b) i h in
    read_by 0x12 i (p ∷ b ∷ []) rest (ap opcode (sym m.1.1), subst (λ j. Says j (p ∷ b ∷ [])) m.1.1 (says (Flag p m.0) (p ∷ b ∷ []) refl (ap (λ n. p ∷ n ∷ []) (side_is b m.0 m.1.0)) refl))

reads_set_flag : Reads 0x26 set_flag_in
reads_set_flag [] i h = let no : ⊥ = cc in absurd no
reads_set_flag (p ∷ []) i h = let no : ⊥ = cc in absurd no
reads_set_flag (p ∷ b ∷ rest) i h =
    let m = mapped_is (SetFlag p) (choice_of b) i h in
    read_by 0x26 i (p ∷ b ∷ []) rest (ap opcode (sym m.1.1), subst (λ j. Says j (p ∷ b ∷ [])) m.1.1 (says (SetFlag p m.0) (p ∷ b ∷ []) refl (ap (λ n. p ∷ n ∷ []) (choice_is b m.0 m.1.0)) refl))

reads_name : Reads 0x23 name_in
reads_name [] i h = let no : ⊥ = cc in absurd no
reads_name (b ∷ rest) i h =
    let m = mapped_is Name (form_of b) i h in
    read_by 0x23 i (b ∷ []) rest (ap opcode (sym m.1.1), subst (λ j. Says j (b ∷ [])) m.1.1 (says (Name m.0) (b ∷ []) refl (ap (λ n. n ∷ []) (form_is b m.0 m.1.0)) refl))

reads_try : Reads 0x30 try_in
reads_try [] i h = let no : ⊥ = cc in absurd no
reads_try (b ∷ []) i h = let no : ⊥ = cc in absurd no
reads_try (b ∷ action ∷ rest) i h =
    let m = mapped_is (λ silently. Try silently action) (choice_of b) i h in
    read_by 0x30 i (b ∷ action ∷ []) rest (ap opcode (sym m.1.1), subst (λ j. Says j (b ∷ action ∷ [])) m.1.1 (says (Try m.0 action) (b ∷ action ∷ []) refl (ap (λ n. n ∷ action ∷ []) (choice_is b m.0 m.1.0)) refl))

count_says : (k high low : ℕ) → Says (Count k (word_of high low)) (k ∷ high ∷ low ∷ [])
count_says k high low = record {
  many = refl;
  said = λ small. (ap (λ ws. k ∷ ws) (word_bytes high low (small 1) (small 2)), ap (λ t. t && true) (small_word high low (small 1) (small 2)));
}

reads_count : Reads 0x20 count_in
reads_count (k ∷ high ∷ low ∷ rest) i h =
    let same : Count k (word_of high low) ≡ i = cc in
    read_by 0x20 i (k ∷ high ∷ low ∷ []) rest (ap opcode (sym same), subst (λ j. Says j (k ∷ high ∷ low ∷ [])) same (count_says k high low))
reads_count _ i h = let no : ⊥ = cc in absurd no

names_say : (naming : Naming) (form k high low : ℕ) → form ≡ form_number naming → Says (Names naming k (word_of high low)) (form ∷ k ∷ high ∷ low ∷ [])
names_say naming form k high low e = record {
  many = refl;
  said = λ small. (ap (λ n. n ∷ k ∷ high ∷ low ∷ []) e ∙ ap (λ ws. form_number naming ∷ k ∷ ws) (word_bytes high low (small 2) (small 3)), ap (λ t. t && true) (small_word high low (small 2) (small 3)));
}

reads_names : Reads 0x21 names_in
reads_names (form ∷ k ∷ high ∷ low ∷ rest) i h =
    let m = mapped_is (λ naming. Names naming k (word_of high low)) (form_of form) i h in
    read_by 0x21 i (form ∷ k ∷ high ∷ low ∷ []) rest (ap opcode (sym m.1.1), subst (λ j. Says j (form ∷ k ∷ high ∷ low ∷ [])) m.1.1 (names_say m.0 form k high low (form_is form m.0 m.1.0)))
reads_names _ i h = let no : ⊥ = cc in absurd no

next_says : (k high low eh el : ℕ) → Says (Next k (word_of high low) (word_of eh el)) (k ∷ high ∷ low ∷ eh ∷ el ∷ [])
next_says k high low eh el = record {
  many = refl;
  said = λ small. (
    ap (λ ws. k ∷ (ws ++ eh ∷ el ∷ [])) (word_bytes high low (small 1) (small 2)) ∙ ap (λ ws. k ∷ (to_be_bytes w16 (word_of high low) ++ ws)) (word_bytes eh el (small 3) (small 4)),
    ap (λ t. t && (nat_lt (word_of eh el) 65536 && true)) (small_word high low (small 1) (small 2)) ∙ ap (λ t. t && true) (small_word eh el (small 3) (small 4)),
  );
}

reads_next : Reads 0x35 next_in
reads_next (k ∷ high ∷ low ∷ eh ∷ el ∷ rest) i h =
    let same : Next k (word_of high low) (word_of eh el) ≡ i = cc in
    read_by 0x35 i (k ∷ high ∷ low ∷ eh ∷ el ∷ []) rest (ap opcode (sym same), subst (λ j. Says j (k ∷ high ∷ low ∷ eh ∷ el ∷ [])) same (next_says k high low eh el))
reads_next _ i h = let no : ⊥ = cc in absurd no

-- ---- any instruction

reads_byte : (b : ℕ) → Reads b (by_byte b)
reads_byte b [] i h = let no : ⊥ = cc in absurd no
reads_byte b (n ∷ rest) i h = read_by b i (n ∷ []) rest (found (λ j. Says j (n ∷ [])) b (with_byte n) i (byte_says n) h)

reads_pair : (b : ℕ) → Reads b (by_pair b)
reads_pair b [] i h = let no : ⊥ = cc in absurd no
reads_pair b (q ∷ []) i h = let no : ⊥ = cc in absurd no
reads_pair b (q ∷ value ∷ rest) i h = read_by b i (q ∷ value ∷ []) rest (found (λ j. Says j (q ∷ value ∷ [])) b (with_pair q value) i (pair_says q value) h)

reads_word : (b : ℕ) → Reads b (by_word b)
reads_word b [] i h = let no : ⊥ = cc in absurd no
reads_word b (high ∷ []) i h = let no : ⊥ = cc in absurd no
reads_word b (high ∷ low ∷ rest) i h = read_by b i (high ∷ low ∷ []) rest (found (λ j. Says j (high ∷ low ∷ [])) b (with_word (word_of high low)) i (word_says high low) h)

reads_relation : (b : ℕ) → Reads b (by_relation b)
reads_relation b [] i h = let no : ⊥ = cc in absurd no
reads_relation b (n ∷ rest) i h = by (relation_of n) refl h
  where
    by : (o : Option Rel) → relation_of n ≡ o → first_related b o ≡ Some i → IsRead i (b ∷ n ∷ rest)
    by None e h = let no : ⊥ = cc in absurd no
    by (Some r) e h = read_by b i (n ∷ []) rest (found (λ j. Says j (n ∷ [])) b (with_relation r) i (relation_says n r (relation_is n r e)) h)

reads_plain : (b : ℕ) → Reads b (λ rest. first_with b plain_ones)
reads_plain b rest i h = read_by b i [] rest (found (λ j. Says j []) b plain_ones i plain_says h)

either : {A : Type 0} (c : Bool) (x y : Option A) (a : A) → (if c then x else y) ≡ Some a → ((c ≡ true) × (x ≡ Some a)) ⊎ (y ≡ Some a)
either true x y a h = inl (refl, h)
either false x y a h = inr h

reads_common : (b : ℕ) → Reads b (common_in b)
unfolding common_in
reads_common b rest i h = elim (either (has_relation b) _ _ i h) [
  | inl p ↦ reads_relation b rest i p.1
  | inr h ↦ elim (either (has_word b) _ _ i h) [
    | inl p ↦ reads_word b rest i p.1
    | inr h ↦ elim (either (has_byte b) _ _ i h) [
      | inl p ↦ reads_byte b rest i p.1
      | inr h ↦ elim (either (has_pair b) _ _ i h) [
        | inl p ↦ reads_pair b rest i p.1
        | inr h ↦ reads_plain b rest i h
      ]
    ]
  ]
]

-- that of a byte of its own, or a later one
own : (b k : ℕ) (reads : List ℕ → Option Instruction) (later : Option Instruction) (rest : List ℕ) (i : Instruction) → Reads k reads → (if b == k then reads rest else later) ≡ Some i → (later ≡ Some i → IsRead i (b ∷ rest)) → IsRead i (b ∷ rest)
own b k reads later rest i is h go = by (b == k) refl h
  where
    by : (c : Bool) → (b == k) ≡ c → (if c then reads rest else later) ≡ Some i → IsRead i (b ∷ rest)
    by true e h = let same : k ≡ b = grind (arith, common_steps, e) in subst (λ n. IsRead i (n ∷ rest)) same (is rest i h)
    by false e h = go h

reads_front : (b : ℕ) → Reads b (front_by b)
unfolding front_by
reads_front b rest i h =
    own b 0x01 integer_in _ rest i reads_integer h (λ h.
    own b 0x12 flag_in _ rest i reads_flag h (λ h.
    own b 0x20 count_in _ rest i reads_count h (λ h.
    own b 0x21 names_in _ rest i reads_names h (λ h.
    own b 0x23 name_in _ rest i reads_name h (λ h.
    own b 0x26 set_flag_in _ rest i reads_set_flag h (λ h.
    own b 0x30 try_in _ rest i reads_try h (λ h.
    own b 0x35 next_in _ rest i reads_next h (λ h. reads_common b rest i h))))))))

pub front_read : (bytes : List ℕ) (i : Instruction) → front bytes ≡ Some i → IsRead i bytes
front_read [] i h = let no : ⊥ = cc in absurd no
front_read (b ∷ rest) i h = reads_front b rest i h

pub front_fits : (bytes : List ℕ) (i : Instruction) → front bytes ≡ Some i → size_of i ≤ length bytes
front_fits bytes i h =
    let r = front_read bytes i h in
    omega (arith, ap length r.cut, length-append r.args r.rest, r.says.many)
