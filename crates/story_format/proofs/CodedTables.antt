-- The tables of a tale are those without codes, with the bytes of what its texts say, of its rules and of its scenes.
use Rattle.std.proofs.Common.{◌≡◌, ◌∙◌, ◌<◌, ap, refl, sym, subst, ℕ, Bool, true, false, ◌&&◌, nat_lt, List, [], ◌∷◌, length, arith}
use Rattle.std.specs.Prelude.{OnOk, Result, Ok, Err, map}
use Rattle.std.specs.List.{list_all}
use Rattle.std.proofs.lemmas.Bool.{and_parts, lt-ltb, ltb-true, and_from}
use Rattle.world_meaning.specs.declared.tale.Tale.{Tale}
use Rattle.object_words.specs.Mentions.{number_in}
use Rattle.play_meaning.specs.declared.instruction.Instruction.{Instruction}
use Rattle.code_table.specs.Emitted.{AllFit, CanBeSaid, HaveNoTable, codes_of_origins}
use Rattle.code_table.specs.Laws.{NeverTableAndNone}
use Rattle.code_table.specs.Origins.{Origin}
use Rattle.code_table.specs.declared.fault.TableFault.{TableFault}
use Rattle.code_table.specs.declared.fault.TableFault.TheVariants.{TooLong, TooMany, Memory}
use Rattle.play_meaning.specs.declared.operand.Counts.{Counts}
use Rattle.story_code.specs.Emits.{AreSpelled}
use Rattle.story_code.specs.SoundlyEmitted.{among}
use Rattle.story_code.specs.Spelling.{spelling}
use Rattle.story_format.specs.Codes.{counts_of}
use Rattle.story_format.specs.Contents.{Contents, origins_said}
use Rattle.story_format.specs.Holding.{AreCountsOf, AreHeld, AreNotHeld, AreOf, AreTooMany, NeverHeldAndNot, counts_in, is_short}
use Rattle.story_format.specs.Making.{code_bytes, strings_with, tables_of, tables_uncoded, tables_with}
use Rattle.story_format.specs.declared.tables.Tables.{Tables}

pub spelled_is : (bytes : List (List ℕ)) (codes : List (List Instruction)) → AreSpelled bytes codes → bytes ≡ map spelling codes
spelled_is [] [] spelled = λ i. []
spelled_is [] (code ∷ codes) spelled = absurd spelled
spelled_is (b ∷ bytes) [] spelled = absurd spelled
spelled_is (b ∷ bytes) (code ∷ codes) spelled = λ i. spelled.0.whole i ∷ spelled_is bytes codes spelled.1 i

pub on_both : {T E P Q R : Type 0} (r : Result T E) → OnOk r P → OnOk r Q → (P → Q → R) → OnOk r R
on_both (Ok x) p q f = f p q
on_both (Err e) p q f = tt

module _ (t : Tale) (c : Contents) (strings : List (List ℕ)) (tables : Tables) (strings_are : strings ≡ strings_with t c)
    (tables_are : tables ≡ tables_uncoded t c) where
  abbrev os : List Origin
  os = origins_said c

  pub coded_is : (coded : Tables) → coded ≡ record tables { codes = code_bytes strings os } → coded ≡ tables_of t c
  unfolding tables_with
  coded_is coded is = is ∙ (λ i. record (tables_are i) { codes = code_bytes (strings_are i) os })

  -- ---- strings that are few and short

  module _ (lent : List (List ℕ)) (lent_are : lent ≡ tables.strings) (b : Bool) (told : b ≡ (nat_lt (length lent) 65535 && list_all is_short lent)) where
    all_are : lent ≡ strings_with t c
    all_are = lent_are ∙ ap (λ (x : Tables). x.strings) tables_are

    pub too_many : b ≡ false → AreTooMany t c
    too_many no_room few short =
        let strings = strings_with t c in
        let room : (nat_lt (length strings) 65535 && list_all is_short strings) ≡ true = and_from (nat_lt (length strings) 65535) (list_all is_short strings) (lt-ltb (length strings) 65535 few) short in
        let never : true ≡ false = sym room ∙ ap (λ l. nat_lt (length l) 65535 && list_all is_short l) (sym all_are) ∙ sym told ∙ no_room in
        absurd cc

    pub are_held : AreOf t c → b ≡ true → AllFit (counts_of tables) (number_in strings) os → CanBeSaid (number_in strings) os → AreHeld t c
    unfolding counts_of tables_with
    are_held are_of room fit said =
        let every = strings_with t c in
        let parts = and_parts (nat_lt (length every) 65535) (list_all is_short every) (ap (λ l. nat_lt (length l) 65535 && list_all is_short l) (sym all_are) ∙ sym told ∙ room) in
        record {
          are_of = are_of;
          short = parts.1;
          few = ltb-true (length every) 65535 parts.0;
          fit = subst (λ (z : Counts). AllFit z (number_in every) os) (ap counts_of tables_are) (subst (λ l. AllFit (counts_of tables) (number_in l) os) strings_are fit);
          said = subst (λ l. CanBeSaid (number_in l) os) strings_are said;
        }

  -- ---- what isn't said

  abbrev Long : TableFault → Counts → List (List ℕ) → Type 0
  Long fault z l = HaveNoTable z (number_in l) os fault

  -- the codes aren't counted there, but whatever is said of them goes by a number that is told with them
  pub counted : AreCountsOf t c (counts_of tables)
  unfolding counts_of tables_with
  counted own codes = ap (λ (all : Tables). among (counts_of all) own codes) tables_are

  pub none_so : (fault : TableFault) → Long fault (counts_of tables) strings → AreNotHeld t c fault
  unfolding counts_of tables_with
  none_so TooLong long = λ fits said.
      let there = subst (λ (z : Counts). Long TooLong z (strings_with t c)) (ap counts_of tables_are) (subst (Long TooLong (counts_of tables)) strings_are long) in
      there fits said
  none_so TooMany many = λ few short. subst (λ l. 65535 < length (codes_of_origins (number_in l) os)) strings_are many
  none_so Memory none = tt

pub never_both : NeverTableAndNone → NeverHeldAndNot
never_both law t c TooLong are long = law (counts_in t c) (number_in (strings_with t c)) (origins_said c) TooLong are.fit are.said long
never_both law t c TooMany are none = absurd (omega (arith, none are.few are.short, are.said.few))
never_both law t c Memory are none = refl
