-- The lowest line at which something is too long is found one by one, and there is one such line.
use Rattle.std.proofs.Common.{◌≡◌, ◌∙◌, ap, sym, subst, refl, ℕ, ◌-◌, ◌<◌, ◌≤◌, nat_lt, Bool, true, false, List, [], ◌∷◌, ◌++◌, length, drop, take, get_or, append_assoc, append-nil, Option, Some, None, inl, inr, arith, if◌then◌else◌}
use Rattle.std.specs.Prelude.{map}
use Rattle.std.specs.List.{AllByRecursion, AllZip, zip}
use Rattle.std.specs.Option.{unwrap_or}
use Rattle.std.proofs.lemmas.Bool.{ltb-false, ltb-true}
use Rattle.play_meaning.specs.declared.operand.Counts.{Counts}
use Rattle.code_table.specs.Emitted.{AllShort, IsShort, IsToldLong}
use Rattle.code_table.specs.Origins.{Fits, Origin}
use Rattle.code_table.proofs.Stopped.{front_of, nothing_left}
use Rattle.story_file.specs.LongOnes.{AreShort, IsFound, IsLineTold, IsLowest, Lined, lower, lowest}

-- ---- lists

module _ {A : Type 0} (P : A → Type 0) where
  both : (xs ys : List A) → AllByRecursion P xs → AllByRecursion P ys → AllByRecursion P (xs ++ ys)
  both [] ys first second = second
  both (x ∷ xs) ys first second = (first.0, both xs ys first.1 second)

  first_of : (xs ys : List A) → AllByRecursion P (xs ++ ys) → AllByRecursion P xs
  first_of [] ys all = tt
  first_of (x ∷ xs) ys all = (all.0, first_of xs ys all.1)

  last_of : (xs : List A) (x : A) → AllByRecursion P (xs ++ x ∷ []) → P x
  last_of [] x all = all.0
  last_of (y ∷ xs) x all = last_of xs x all.1

more : {A : Type 0} (P Q : A → Type 0) → ((x : A) → P x → Q x) → (xs : List A) → AllByRecursion P xs → AllByRecursion Q xs
more P Q f [] all = tt
more P Q f (x ∷ xs) all = (f x all.0, more P Q f xs all.1)

module _ (z : Counts) (string : List ℕ → ℕ) where
  abbrev Short : Lined → Type 0
  Short one = AllShort z string one.1

  abbrev Below : ℕ → Lined → Type 0
  Below line one = one.0 < line → AllShort z string one.1

  abbrev At : ℕ → Lined → Type 0
  At line one = one.0 ≡ line → AllShort z string one.1

  -- ---- one by one

  short_behind : (before : List Lined) (one : Lined) (found : Option ℕ) → AllShort z string one.1 → IsFound z string before found → IsFound z string (before ++ one ∷ []) found
  short_behind before one None short all = both Short before (one ∷ []) all (short, tt)
  short_behind before one (Some line) short is = record {
    below = both (Below line) before (one ∷ []) is.below ((λ less. short), tt);
    there = λ all. is.there (first_of (At line) before (one ∷ []) all);
  }

  long_behind : (before : List Lined) (line : ℕ) (origins : List Origin) (found : Option ℕ) → (AllShort z string origins → ⊥) → IsFound z string before found → IsFound z string (before ++ (line, origins) ∷ []) (Some (lower found line))
  long_behind before line origins None long all = record {
    below = both (Below line) before ((line, origins) ∷ []) (more Short (Below line) (λ one short less. short) before all) ((λ less. absurd (omega (arith, less))), tt);
    there = λ short. long (last_of (At line) before (line, origins) short refl);
  }
  long_behind before line origins (Some other) long is = by (nat_lt line other) refl
    where
      by : (b : Bool) → nat_lt line other ≡ b → IsLowest z string (before ++ (line, origins) ∷ []) (if b then line else other)
      by true less =
          let lower : line < other = ltb-true line other less in
          record {
            below = both (Below line) before ((line, origins) ∷ []) (more (Below other) (Below line) (λ one short less. short (omega (arith, less, lower))) before is.below) ((λ less. absurd (omega (arith, less))), tt);
            there = λ short. long (last_of (At line) before (line, origins) short refl);
          }
      by false less =
          let higher : other ≤ line = ltb-false line other less in
          record {
            below = both (Below other) before ((line, origins) ∷ []) is.below ((λ less. absurd (omega (arith, less, higher))), tt);
            there = λ short. is.there (first_of (At other) before ((line, origins) ∷ []) short);
          }

  pub found_behind : (before : List Lined) (found : Option ℕ) (lines : List ℕ) (all : List (List Origin)) (longs : List Bool) → AllZip (IsToldLong z string) all longs → IsFound z string before found
      → IsFound z string (before ++ zip lines all) (lowest found lines longs)
  found_behind before found [] all longs told is = subst (λ l. IsFound z string l found) (sym (append-nil before)) is
  found_behind before found (line ∷ lines) [] [] told is = subst (λ l. IsFound z string l found) (sym (append-nil before)) is
  found_behind before found (line ∷ lines) [] (long ∷ longs) told is = absurd told
  found_behind before found (line ∷ lines) (origins ∷ all) [] told is = absurd told
  found_behind before found (line ∷ lines) (origins ∷ all) (true ∷ longs) told is =
      let first = long_behind before line origins found told.0 is in
      subst (λ l. IsFound z string l (lowest (Some (lower found line)) lines longs)) (append_assoc before ((line, origins) ∷ []) (zip lines all))
      (found_behind (before ++ (line, origins) ∷ []) (Some (lower found line)) lines all longs told.1 first)
  found_behind before found (line ∷ lines) (origins ∷ all) (false ∷ longs) told is =
      let first = short_behind before (line, origins) found told.0 is in
      subst (λ l. IsFound z string l (lowest found lines longs)) (append_assoc before ((line, origins) ∷ []) (zip lines all))
      (found_behind (before ++ (line, origins) ∷ []) found lines all longs told.1 first)

  -- ---- there is one

  lowest_once : (all : List Lined) (line other : ℕ) → IsLowest z string all line → IsLowest z string all other → line < other → ⊥
  lowest_once all line other one second less = one.there (more (Below other) (At line) (λ part short at. short (subst (λ n. n < other) (sym at) less)) all second.below)

  short_or_lowest : (all : List Lined) (line : ℕ) → AreShort z string all → IsLowest z string all line → ⊥
  short_or_lowest all line short is = is.there (more Short (At line) (λ part whole at. whole) all short)

  pub line_once : (all : List Lined) (line other : ℕ) → IsLineTold z string all line → IsLineTold z string all other → line ≡ other
  line_once all line other (inl one) (inl second) = omega (arith, λ (less : line < other). lowest_once all line other one second less, λ (less : other < line). lowest_once all other line second one less)
  line_once all line other (inl one) (inr second) = absurd (short_or_lowest all line second.0 one)
  line_once all line other (inr one) (inl second) = absurd (short_or_lowest all other one.0 second)
  line_once all line other (inr one) (inr second) = one.1 ∙ sym second.1

-- ---- by the counts of the tables without codes

abbrev with_counts : Counts → ℕ → ℕ → Counts
with_counts z own codes = record z { own = own; codes = codes }

module _ (z y : Counts) (string : List ℕ → ℕ) (are : (own codes : ℕ) → with_counts z own codes ≡ with_counts y own codes) where
  short_so : (origins : List Origin) → AllShort z string origins → AllShort y string origins
  short_so [] all = tt
  short_so (origin ∷ origins) all =
      let first : IsShort y string origin = record { fits = λ own codes. subst (λ (x : Counts). Fits x string origin) (are own codes) (all.0.fits own codes); said = all.0.said } in
      (first, short_so origins all.1)

told_so : (z y : Counts) (string : List ℕ → ℕ) → ((own codes : ℕ) → with_counts z own codes ≡ with_counts y own codes) → (origins : List Origin) (long : Bool) → IsToldLong z string origins long → IsToldLong y string origins long
told_so z y string are origins true long = λ short. long (short_so y z string (λ own codes. sym (are own codes)) origins short)
told_so z y string are origins false short = short_so z y string are origins short

pub all_told_so : (z y : Counts) (string : List ℕ → ℕ) → ((own codes : ℕ) → with_counts z own codes ≡ with_counts y own codes) → (all : List (List Origin)) (longs : List Bool) → AllZip (IsToldLong z string) all longs
    → AllZip (IsToldLong y string) all longs
all_told_so z y string are [] [] told = tt
all_told_so z y string are [] (long ∷ longs) told = absurd told
all_told_so z y string are (origins ∷ all) [] told = absurd told
all_told_so z y string are (origins ∷ all) (long ∷ longs) told = (told_so z y string are origins long told.0, all_told_so z y string are all longs told.1)

-- ---- as a loop tells it of one thing after the other

module _ {X : Type 0} (R : X → Bool → Type 0) (all : List X) where
  abbrev pub IsOnWay : List X → List Bool → Type 0
  IsOnWay rest longs = (behind : List Bool) → AllZip R rest behind → AllZip R all (longs ++ behind)

  grown : (x : X) (rest : List X) (longs : List Bool) (long : Bool) → R x long → IsOnWay (x ∷ rest) longs → IsOnWay rest (longs ++ long ∷ [])
  grown x rest longs long told way behind others = subst (AllZip R all) (sym (append_assoc longs (long ∷ []) behind)) (way (long ∷ behind) (told, others))

  -- of things that mean them
  module _ {Y : Type 0} (m : Y → X) where
    pub grows : (rest : List Y) (y : Y) (longs more : List Bool) (long : Bool) → 1 ≤ length rest → y ≡ get_or rest 0 y → R (m y) long → more ≡ longs ++ long ∷ [] → IsOnWay (map m rest) longs
        → IsOnWay (map m (take (length rest - 1) (drop 1 rest))) more
    grows rest y longs more long some at told is way =
        let later = map m (take (length rest - 1) (drop 1 rest)) in
        subst (IsOnWay later) (sym is) (grown (m y) later longs long told (subst (λ l. IsOnWay (map m l) longs) (front_of rest y some at) way))

    pub ends : (rest : List Y) (longs : List Bool) → length rest < 1 → IsOnWay (map m rest) longs → AllZip R all longs
    ends rest longs none way = subst (AllZip R all) (append-nil longs) (subst (λ l. IsOnWay (map m l) longs) (nothing_left rest none) way [] tt)

-- ---- as it is told

pub found_told : (z : Counts) (string : List ℕ → ℕ) (all : List Lined) (found : Option ℕ) (line : ℕ) → IsFound z string all found → line ≡ unwrap_or found 1 → IsLineTold z string all line
found_told z string all None line short is = inr (short, is)
found_told z string all (Some low) line lowest is = inl (subst (IsLowest z string all) (sym is) lowest)

-- of descriptions, rules and scenes, each by its line
pub line_found : (z : Counts) (string : List ℕ → ℕ) (text_at rule_at scene_at : List ℕ) (texts rules scenes : List (List Origin)) (long_texts long_rules long_scenes : List Bool) (line : ℕ)
    → AllZip (IsToldLong z string) texts long_texts → AllZip (IsToldLong z string) rules long_rules → AllZip (IsToldLong z string) scenes long_scenes
    → line ≡ unwrap_or (lowest (lowest (lowest None text_at long_texts) rule_at long_rules) scene_at long_scenes) 1
    → IsLineTold z string (zip text_at texts ++ (zip rule_at rules ++ zip scene_at scenes)) line
line_found z string text_at rule_at scene_at texts rules scenes long_texts long_rules long_scenes line texts_told rules_told scenes_told is =
    let first = found_behind z string [] None text_at texts long_texts texts_told tt in
    let second = found_behind z string (zip text_at texts) (lowest None text_at long_texts) rule_at rules long_rules rules_told first in
    let third = found_behind z string (zip text_at texts ++ zip rule_at rules) (lowest (lowest None text_at long_texts) rule_at long_rules) scene_at scenes long_scenes scenes_told second in
    let all = subst (λ l. IsFound z string l (lowest (lowest (lowest None text_at long_texts) rule_at long_rules) scene_at long_scenes)) (append_assoc (zip text_at texts) (zip rule_at rules) (zip scene_at scenes)) third in
    found_told z string (zip text_at texts ++ (zip rule_at rules ++ zip scene_at scenes)) (lowest (lowest (lowest None text_at long_texts) rule_at long_rules) scene_at long_scenes) line all is

pub map_twice : {X Y Z : Type 0} (f : Y → Z) (g : X → Y) (xs : List X) → map (λ x. f (g x)) xs ≡ map f (map g xs)
map_twice f g [] = refl
map_twice f g (x ∷ xs) = ap (λ l. f (g x) ∷ l) (map_twice f g xs)

-- of things that mean them, by the tables without codes and as they are lent
pub moved : {X Y : Type 0} (f : Y → List Origin) (g : X → Y) (z y : Counts) (string other : List ℕ → ℕ) → string ≡ other → ((own codes : ℕ) → with_counts z own codes ≡ with_counts y own codes)
    → (xs ys : List X) → xs ≡ ys → (longs : List Bool) → AllZip (IsToldLong z string) (map (λ x. f (g x)) xs) longs → AllZip (IsToldLong y other) (map f (map g ys)) longs
moved f g z y string other same are xs ys alike longs told =
    let named = subst (λ (s : List ℕ → ℕ). AllZip (IsToldLong z s) (map (λ x. f (g x)) xs) longs) same told in
    let counted = all_told_so z y other are (map (λ x. f (g x)) xs) longs named in
    subst (λ l. AllZip (IsToldLong y other) l longs) (map_twice f g xs ∙ ap (λ l. map f (map g l)) alike) counted

-- where the longs stop no line is looked at
pub lowest_over : (found : Option ℕ) (lines : List ℕ) (longs : List Bool) → length longs < 1 → found ≡ lowest found lines longs
lowest_over found [] longs none = refl
lowest_over found (line ∷ lines) [] none = refl
lowest_over found (line ∷ lines) (long ∷ longs) none = absurd (omega (arith, none))
