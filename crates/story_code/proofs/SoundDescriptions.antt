-- The codes of objects, descriptions, numbers and conditions that fit find what they need, and give one operand.
use Rattle.std.proofs.Common.{◌≡◌, ◌∙◌, ap, sym, subst, refl, ℕ, ◌+◌, ◌<◌, ◌≤◌, ◌&&◌, ◌||◌, nat_lt, nat_le, Bool, true, false, List, [], ◌∷◌, ◌++◌, append_assoc, length, Option, None, Some, if◌then◌else◌, ℤ, pos, negsuc, arith}
use Rattle.std.specs.Prelude.{slice_index_or}
use Rattle.std.proofs.lemmas.Bool.{and_from, le-leb, leb-true, lt-ltb, or_left, or_right}
use Rattle.play_meaning.specs.Instructions.{opcode, sizes}
use Rattle.play_meaning.specs.Operands.{behind_eq, below, is_from_to, is_object, may_hold, names_what_is_there, operands_behind, serves, with_given}
use Rattle.play_meaning.specs.SoundCodes.{loops_around, way_of}
use Rattle.play_meaning.specs.Translation.{Emitted, Part, adjective_code, adjectives_code, and_code, description_code, is_there_code, kind_code, object_code, one, seq, these}
use Rattle.play_meaning.specs.Trees as tree
use Rattle.play_meaning.specs.Trees.{Adjective, Description}
use Rattle.play_meaning.specs.declared.instruction.Instruction.{Instruction}
use Rattle.play_meaning.specs.declared.instruction.Instruction.TheVariants as i
use Rattle.play_meaning.specs.declared.operand.Counts.{Counts}
use Rattle.play_meaning.specs.declared.operand.Sort.{Sort}
use Rattle.play_meaning.specs.declared.operand.Sort.TheVariants.{Number, NumberOrObject, Object, Truth}
use Rattle.play_meaning.specs.declared.operand.Use.{Use}
use Rattle.play_meaning.specs.declared.operand.Use.TheVariants.{Body, Describing, Test}
use Rattle.play_meaning.specs.declared.way.OpenLoop.{OpenLoop}
use Rattle.play_meaning.specs.declared.way.Way.TheVariants.{Straight}
use Rattle.story_code.specs.Fitting.{AdjectiveFits, AdjectivesFit, DescriptionFits, HasRoom, IsThereFits, ObjectFits, ThoseFit}
use Rattle.story_code.specs.Runs.{test_named}
use Rattle.story_code.specs.SoundlyEmitted.{AreNumbered, IsSoundTest, NameInTurn}
use Rattle.story_code.proofs.SoundParts.{CarriesAt, carries_one, carries_seq}
use Rattle.story_code.proofs.InTurn.{names-append, names_none, numbered_first, numbered_later}

-- ---- what asks may stand in every code

up_to : (x : ℕ) (m n : ℕ) → m ≤ n → (nat_le 1 x && nat_le x m) ≡ true → (nat_le 1 x && nat_le x n) ≡ true
up_to x m n le h = both (nat_le 1 x) (nat_le x m) h (λ low. le-leb x n (omega (arith, le, leb-true x m low)))
  where
    both : (a b : Bool) → (a && b) ≡ true → (b ≡ true → nat_le x n ≡ true) → (a && nat_le x n) ≡ true
    both true b h more = more h
    both false b h more = h

pub asks : (whose : Use) (x : Instruction) → is_from_to 0x01 0x20 x ≡ true → may_hold whose x ≡ true
unfolding may_hold
asks (Test loops) x h = or_left (is_from_to 0x01 0x20 x) (is_from_to 0x3B 0x3B x) h
asks Describing x h =
    or_left (is_from_to 0x01 0x24 x || is_from_to 0x2C 0x2C x || is_from_to 0x32 0x33 x) (is_from_to 0x37 0x37 x)
    (or_left (is_from_to 0x01 0x24 x || is_from_to 0x2C 0x2C x) (is_from_to 0x32 0x33 x)
    (or_left (is_from_to 0x01 0x24 x) (is_from_to 0x2C 0x2C x) (up_to (opcode x) 0x20 0x24 (omega arith) h)))
asks Body x h = up_to (opcode x) 0x20 0x3A (omega arith) h

-- ---- what instructions leave

pub pushed : (sort : Sort) (sorts : List Sort) → length sorts < 64 → with_given (Some sort) (Some sorts) ≡ Some (sort ∷ sorts)
pushed sort sorts few = ap (λ b. if b then Some (sort ∷ sorts) else None) (lt-ltb (length sorts) 64 few)

pub one_below : (a wanted : Sort) (sorts : List Sort) → serves a wanted ≡ true → below (wanted ∷ []) (a ∷ sorts) ≡ Some sorts
one_below a wanted sorts is = ap (λ b. if b then Some sorts else None) is

pub two_below : (a b wanted more : Sort) (sorts : List Sort) → serves a more ≡ true → serves b wanted ≡ true → below (wanted ∷ more ∷ []) (b ∷ a ∷ sorts) ≡ Some sorts
two_below a b wanted more sorts is last = ap (λ x. if x then below (more ∷ []) (a ∷ sorts) else None) last ∙ one_below a more sorts is

pub alike_numbers : (a b : Sort) (sorts : List Sort) → serves a Number ≡ true → serves b Number ≡ true → behind_eq (b ∷ a ∷ sorts) ≡ Some sorts
alike_numbers a b sorts is last =
    let numbers = serves a Number && serves b Number in
    let truths = serves a Truth && serves b Truth in
    ap (λ x. if x then Some sorts else None) (or_left (numbers || truths) (serves a Object && serves b Object) (or_left numbers truths (ap (λ x. x && serves b Number) is ∙ last)))

pub alike_objects : (a b : Sort) (sorts : List Sort) → serves a Object ≡ true → serves b Object ≡ true → behind_eq (b ∷ a ∷ sorts) ≡ Some sorts
alike_objects a b sorts is last =
    ap (λ x. if x then Some sorts else None)
    (or_right ((serves a Number && serves b Number) || (serves a Truth && serves b Truth)) (serves a Object && serves b Object) (ap (λ x. x && serves b Object) is ∙ last))

abbrev pub two_parts : Part → Part → Instruction → Part
two_parts a b x = seq a (seq b (one x))

-- a number of something that is there
pub is_below : (a n : ℕ) → a < n → (nat_lt a n && true) ≡ true
is_below a n low = and_from (nat_lt a n) true (lt-ltb a n low) refl

module _ (z : Counts) (own : ℕ) (whose : Use) (loops : List OpenLoop) (k : ℕ) (deep : loops_around whose + length loops ≡ k) where
  -- judged as the code of this number
  abbrev pub judged : Counts
  judged = record z { own = own }

  -- what is emitted takes these operands and leaves those, and names its tests in turn
  abbrev pub Carries : List Sort → List Sort → ℕ → ℕ → Emitted → Type 0
  Carries operands left t q e = CarriesAt judged whose loops operands left q e.code × NameInTurn (IsSoundTest judged) e.code t e.tests

  pub carries_then : (a b : Part) (operands middle left : List Sort) (t q : ℕ) → Carries operands middle t q (a t q)
      → Carries middle left (t + length (a t q).tests) (q + sizes (a t q).code) (b (t + length (a t q).tests) (q + sizes (a t q).code)) → Carries operands left t q (seq a b t q)
  unfolding seq
  carries_then a b operands middle left t q x y =
      let first = a t q in
      let later = b (t + length first.tests) (q + sizes first.code) in
      (carries_seq judged whose loops operands middle left q first.code later.code x.0 y.0, names-append judged first.code later.code t first.tests later.tests x.1 y.1)

  -- it names what is there
  abbrev pub Names : Instruction → Type 0
  Names x = names_what_is_there judged k x ≡ true

  pub named_here : (x : Instruction) → Names x → names_what_is_there judged (loops_around whose + length loops) x ≡ true
  named_here x names = ap (λ d. names_what_is_there judged d x) deep ∙ names

  -- a part that gives one operand over so many
  pub record Gives (wanted : Sort) (n : ℕ) (p : Part) : Type 0 where
    pub low : HasRoom n
    pub gives : (operands : List Sort) → length operands ≡ n → (t q : ℕ) → AreNumbered judged t (p t q).tests
        → (sort : Sort) × ((serves sort wanted ≡ true) × Carries operands (sort ∷ operands) t q (p t q))

  -- an instruction that asks, straight on, names no test and what is there
  abbrev pub IsAsking : Instruction → Type 0
  IsAsking x = (is_from_to 0x01 0x20 x ≡ true) × (test_named x ≡ None) × (way_of x ≡ Straight) × Names x

  asked_one : (x : Instruction) (operands left : List Sort) (t q : ℕ) → IsAsking x → operands_behind judged x operands ≡ Some left → Carries operands left t q (one x t q)
  asked_one x operands left t q is typed =
      (carries_one judged whose loops operands left q x (asks whose x is.0) (asks Body x is.0) (named_here x is.3) typed is.2, names_none judged x t is.1)

  pub gives_one : (wanted : Sort) (n : ℕ) (x : Instruction) (sort : Sort) → IsAsking x → serves sort wanted ≡ true
      → ((sorts : List Sort) → length sorts < 64 → operands_behind judged x sorts ≡ Some (sort ∷ sorts)) → HasRoom n → Gives wanted n (one x)
  gives_one wanted n x sort is serving typed low = record {
    low = low;
    gives = λ operands many t q numbers.
        (sort, (serving, asked_one x operands (sort ∷ operands) t q is (typed operands (omega (arith, many, low)))));
  }

  pub gives_of_one : (wanted first : Sort) (n : ℕ) (p : Part) (x : Instruction) (sort : Sort) → IsAsking x → serves sort wanted ≡ true
      → ((a : Sort) (sorts : List Sort) → serves a first ≡ true → length sorts < 64 → operands_behind judged x (a ∷ sorts) ≡ Some (sort ∷ sorts))
      → Gives first n p → Gives wanted n (seq p (one x))
  unfolding seq
  gives_of_one wanted first n p x sort is serving typed g = record {
    low = g.low;
    gives = λ operands many t q numbers.
        let e = p t q in
        let r = g.gives operands many t q (numbered_first judged t e.tests [] numbers) in (
          sort,
          (
            serving,
            carries_then p (one x) operands (r.0 ∷ operands) (sort ∷ operands) t q r.1.1
                (asked_one x (r.0 ∷ operands) (sort ∷ operands) (t + length e.tests) (q + sizes e.code) is (typed r.0 operands r.1.0 (omega (arith, many, g.low)))),
          ),
        );
  }

  pub gives_of_two : (wanted first second : Sort) (n : ℕ) (a b : Part) (x : Instruction) (sort : Sort) → IsAsking x → serves sort wanted ≡ true
      → ((a b : Sort) (sorts : List Sort) → serves a first ≡ true → serves b second ≡ true → length sorts < 64 → operands_behind judged x (b ∷ a ∷ sorts) ≡ Some (sort ∷ sorts))
      → Gives first n a → Gives second (n + 1) b → Gives wanted n (seq a (seq b (one x)))
  unfolding seq
  gives_of_two wanted first second n a b x sort is serving typed g h = record {
    low = g.low;
    gives = λ operands many t q numbers.
        let e = a t q in
        let t' = t + length e.tests in
        let q' = q + sizes e.code in
        let f = b t' q' in
        let r = g.gives operands many t q (numbered_first judged t e.tests (f.tests ++ []) numbers) in
        let later = numbered_later judged t e.tests (f.tests ++ []) numbers in
        let s = h.gives (r.0 ∷ operands) (omega (arith, many)) t' q' (numbered_first judged t' f.tests [] later) in (
          sort,
          (
            serving,
            carries_then a (seq b (one x)) operands (r.0 ∷ operands) (sort ∷ operands) t q r.1.1
                (carries_then b (one x) (r.0 ∷ operands) (s.0 ∷ r.0 ∷ operands) (sort ∷ operands) t' q' s.1.1
                (asked_one x (s.0 ∷ r.0 ∷ operands) (sort ∷ operands) (t' + length f.tests) (q' + sizes f.code) is
                (typed r.0 s.0 operands r.1.0 s.1.0 (omega (arith, many, g.low))))),
          ),
        );
  }

  -- ---- objects

  abbrev pub GivesCode : Sort → ℕ → List Instruction → Type 0
  GivesCode wanted n is = Gives wanted n (these is)

  -- the codes of two operands, and an instruction that takes both
  pub gives_of_codes : (wanted first second : Sort) (n : ℕ) (a b : List Instruction) (x : Instruction) (sort : Sort) → IsAsking x → serves sort wanted ≡ true
      → ((a b : Sort) (sorts : List Sort) → serves a first ≡ true → serves b second ≡ true → length sorts < 64 → operands_behind judged x (b ∷ a ∷ sorts) ≡ Some (sort ∷ sorts))
      → GivesCode first n a → GivesCode second (n + 1) b → GivesCode wanted n (a ++ b ++ x ∷ [])
  unfolding seq
  gives_of_codes wanted first second n a b x sort is serving typed g h =
      subst (GivesCode wanted n) (sym (append_assoc a b (x ∷ []))) (gives_of_two wanted first second n (these a) (these b) x sort is serving typed g h)

  -- a number of an object, or that of nothing
  object_number : (n : ℕ) (a : ℤ) → is_object judged a ≡ true → HasRoom n → GivesCode Object n (i.Num a ∷ [])
  unfolding names_what_is_there operands_behind
  object_number n a is low =
      gives_one Object n (i.Num a) NumberOrObject (refl, refl, refl, refl) refl
      (λ sorts few. ap (λ b. with_given (if b then Some NumberOrObject else Some Number) (Some sorts)) is ∙ pushed NumberOrObject sorts few) low

  pub object_gives : (o : tree.Object) (n : ℕ) → ObjectFits z k n o → GivesCode Object n (object_code o)
  unfolding seq names_what_is_there operands_behind
  object_gives (tree.The o) n fits = object_number n (pos o) (lt-ltb o z.objects fits.0) fits.1
  object_gives tree.Noun n fits = gives_one Object n i.Noun Object (refl, refl, refl, refl) refl (pushed Object) fits
  object_gives tree.SecondNoun n fits = gives_one Object n i.Second Object (refl, refl, refl, refl) refl (pushed Object) fits
  object_gives tree.Location n fits = gives_one Object n i.Location Object (refl, refl, refl, refl) refl (pushed Object) fits
  object_gives tree.Nothing n fits = object_number n (negsuc 0) refl fits
  object_gives (tree.Turning j) n fits =
      gives_one Object n (i.Loop j) Object (refl, refl, refl, is_below j k fits.0) refl (pushed Object) fits.1
  object_gives (tree.RoomFrom d room) n fits =
      gives_of_codes Object Object Object n (object_code d) (object_code room) i.Room Object (refl, refl, refl, refl) refl
      (λ a b sorts x y few. ap (with_given (Some Object)) (two_below a b Object Object sorts x y) ∙ pushed Object sorts few) (object_gives d n fits.0) (object_gives room (n + 1) fits.1)
  object_gives (tree.DoorFrom d room) n fits =
      gives_of_codes Object Object Object n (object_code d) (object_code room) i.Door Object (refl, refl, refl, refl) refl
      (λ a b sorts x y few. ap (with_given (Some Object)) (two_below a b Object Object sorts x y) ∙ pushed Object sorts few) (object_gives d n fits.0) (object_gives room (n + 1) fits.1)

  -- ---- adjectives and descriptions

  -- two truths, of which both are so
  both_so : (n : ℕ) (a b : List Instruction) → GivesCode Truth n a → GivesCode Truth (n + 1) b → GivesCode Truth n (and_code a b)
  unfolding names_what_is_there operands_behind
  both_so n a b = gives_of_codes Truth Truth Truth n a b i.And Truth (refl, refl, refl, refl) refl
      (λ a b sorts x y few. ap (with_given (Some Truth)) (two_below a b Truth Truth sorts x y) ∙ pushed Truth sorts few)

  pub not_so : (n : ℕ) (p : Part) → Gives Truth n p → Gives Truth n (seq p (one i.Not))
  unfolding names_what_is_there operands_behind
  not_so n p = gives_of_one Truth Truth n p i.Not Truth (refl, refl, refl, refl) refl
      (λ a sorts x few. ap (with_given (Some Truth)) (one_below a Truth sorts x) ∙ pushed Truth sorts few)

  -- two objects that an instruction asks about
  pub asked_of_two : (n : ℕ) (a b : List Instruction) (x : Instruction) → IsAsking x
      → ((a b : Sort) (sorts : List Sort) → operands_behind judged x (b ∷ a ∷ sorts) ≡ with_given (Some Truth) (below (Object ∷ Object ∷ []) (b ∷ a ∷ sorts)))
      → GivesCode Object n a → GivesCode Object (n + 1) b → GivesCode Truth n (a ++ b ++ x ∷ [])
  asked_of_two n a b x is takes = gives_of_codes Truth Object Object n a b x Truth is refl
      (λ a b sorts y w few. takes a b sorts ∙ ap (with_given (Some Truth)) (two_below a b Object Object sorts y w) ∙ pushed Truth sorts few)

  -- one that gives a truth or an object
  pub asked_of_one : (wanted : Sort) (n : ℕ) (o : List Instruction) (x : Instruction) (sort : Sort) → IsAsking x → serves sort wanted ≡ true
      → ((a : Sort) (sorts : List Sort) → operands_behind judged x (a ∷ sorts) ≡ with_given (Some sort) (below (Object ∷ []) (a ∷ sorts)))
      → GivesCode Object n o → GivesCode wanted n (o ++ x ∷ [])
  unfolding seq
  asked_of_one wanted n o x sort is serving takes = gives_of_one wanted Object n (these o) x sort is serving
      (λ a sorts y few. takes a sorts ∙ ap (with_given (Some sort)) (one_below a Object sorts y) ∙ pushed sort sorts few)

  module _ (o : List Instruction) (fits_over : ℕ → Type 0) (asked : (n : ℕ) → fits_over n → GivesCode Object n o) where
    there_gives : (n : ℕ) → IsThereFits fits_over n → GivesCode Truth n (is_there_code o)
    unfolding seq names_what_is_there operands_behind
    there_gives n fits =
        subst (GivesCode Truth n) (append_assoc o (i.Num (negsuc 0) ∷ i.Eq ∷ []) (i.Not ∷ [])) (not_so n (these (o ++ i.Num (negsuc 0) ∷ i.Eq ∷ []))
        (gives_of_two Truth Object Object n (these o) (these (i.Num (negsuc 0) ∷ [])) i.Eq Truth (refl, refl, refl, refl) refl
        (λ a b sorts x y few. ap (with_given (Some Truth)) (alike_objects a b sorts x y) ∙ pushed Truth sorts few) (asked n fits.0) (object_number (n + 1) (negsuc 0) refl fits.1)))

    pub adjective_gives : (a : Adjective) (n : ℕ) → AdjectiveFits z fits_over n a → GivesCode Truth n (adjective_code o a)
    unfolding adjective_code seq names_what_is_there operands_behind
    adjective_gives (tree.Quality p side) n fits =
        asked_of_one Truth n o (i.Flag p _) Truth (refl, refl, refl, is_below p z.flags fits.0) refl (λ a sorts. refl) (asked n fits.1)
    adjective_gives (tree.Valued q value) n fits =
        asked_of_one Truth n o (i.Valued q value) Truth (refl, refl, refl, is_below value (slice_index_or z.values q 0) fits.0) refl (λ a sorts. refl) (asked n fits.1)
    adjective_gives tree.Visible n fits = asked_of_one Truth n o i.Visible Truth (refl, refl, refl, refl) refl (λ a sorts. refl) (asked n fits)
    adjective_gives tree.Touchable n fits = asked_of_one Truth n o i.Touchable Truth (refl, refl, refl, refl) refl (λ a sorts. refl) (asked n fits)
    adjective_gives (tree.NotSo a) n fits =
        both_so n (is_there_code o) (adjective_code o a ++ i.Not ∷ []) (there_gives n fits.0) (not_so (n + 1) (these (adjective_code o a)) (adjective_gives a (n + 1) fits.1))

    adjectives_give : (all : List Adjective) (n : ℕ) → AdjectivesFit z fits_over n all → GivesCode Truth n (adjectives_code o all)
    adjectives_give [] n fits = there_gives n fits
    adjectives_give (a ∷ all) n fits = both_so n (adjective_code o a) (adjectives_code o all) (adjective_gives a n fits.0) (adjectives_give all (n + 1) fits.1)

    those_give : (n : ℕ) (all : List Adjective) (kind : Option ℕ) → ThoseFit z fits_over n all kind → GivesCode Truth n (kind_code o kind (adjectives_code o all))
    unfolding names_what_is_there operands_behind
    those_give n all None fits = adjectives_give all n fits
    those_give n all (Some kind) fits =
        both_so n (o ++ i.Kind kind ∷ []) (adjectives_code o all)
        (asked_of_one Truth n o (i.Kind kind) Truth (refl, refl, refl, is_below kind z.kinds fits.0.0) refl (λ a sorts. refl) (asked n fits.0.1))
        (adjectives_give all (n + 1) fits.1)

    pub description_gives : (d : Description) (n : ℕ) → DescriptionFits z k fits_over n d → GivesCode Truth n (description_code o d)
    unfolding description_code names_what_is_there operands_behind
    description_gives (tree.Those all kind) n fits = those_give n all kind fits
    description_gives (tree.ThoseHeld all kind r holder) n fits =
        both_so n (kind_code o kind (adjectives_code o all)) (o ++ object_code holder ++ i.Held r ∷ []) (those_give n all kind fits.0)
        (asked_of_two (n + 1) o (object_code holder) (i.Held r) (refl, refl, refl, refl) (λ a b sorts. refl) (asked (n + 1) fits.1.0) (object_gives holder (n + 1 + 1) fits.1.1))
