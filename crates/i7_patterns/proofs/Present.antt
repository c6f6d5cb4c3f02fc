-- What words ask for is there where what names stand for is.
use Rattle.std.proofs.Common.{◌≡◌, ℕ, ◌+◌, ◌<◌, Bool, true, false, List, [], ◌∷◌, length, take, drop, map, refl, sym, ap, ◌∙◌, subst, arith, inl, inr}
use Rattle.std.specs.Prelude.{◌&&◌, ◌||◌, Option, Some, None, codes, if◌then◌else◌, nat_le, nat_lt}
use Rattle.std.specs.List.{list_all, list_any}
use Rattle.std.specs.Option.{option_or}
use Rattle.std.proofs.lemmas.Bool.{lt-ltb, and_from, and_parts, or_parts}
use Rattle.std.proofs.lemmas.Grind.{common_steps}
use Rattle.std.proofs.lemmas.Option.{slice_get_within}
use Rattle.world_meaning.specs.Spelling.{is_spelled}
use Rattle.play_meaning.specs.Meant.{adjective_meant, denied_if, quality_meant}
use Rattle.play_meaning.specs.Patterns.{Pattern}
use Rattle.play_meaning.specs.Rules.{Anything, Aspect, OfKind}
use Rattle.play_meaning.specs.Trees.{The}
use Rattle.play_meaning.specs.declared.tree.object.Adjective.{Adjective}
use Rattle.play_meaning.specs.declared.tree.object.Quality.{Quality}
use Rattle.play_meaning.specs.declared.tree.object.Quality.TheVariants as quality
use Rattle.i7_actions.specs.declared.action.Action.{Action}
use Rattle.i7_actions.specs.declared.action.NounCount.{NounCount}
use Rattle.i7_actions.specs.declared.action.NounCount.TheVariants.{Zero, One, Two}
use Rattle.i7_conditions.specs.Adjectives.{adjective_by, adjective_named, fixed_quality, in_kind, in_kinds, in_qualities, in_quality, kind_known, kind_named, quality_known, quality_named, something}
use Rattle.i7_conditions.specs.Cuts.{IsMeant}
use Rattle.i7_conditions.specs.Marks.{has_from, mark_named, marks_behind, marks_beyond, opening_and_rest, opens_with}
use Rattle.i7_conditions.specs.Objects.{Means}
use Rattle.i7_conditions.specs.Plain.{fixed, in_meaning, in_meanings, known_as, plainly_named, turning}
use Rattle.i7_conditions.specs.Scopes.{Scope}
use Rattle.i7_conditions.specs.There.{AreThere, Counts, IsThere}
use Rattle.i7_conditions.specs.Words.{Word, beyond_of, is_not, key_of, without_article}
use Rattle.i7_conditions.specs.declared.mark.Mark.{Mark}
use Rattle.i7_conditions.specs.declared.mark.Mark.TheVariants as mark
use Rattle.i7_conditions.specs.declared.meaning.Meaning.{Meaning}
use Rattle.i7_conditions.specs.declared.meaning.Meaning.TheVariants as meaning
use Rattle.i7_patterns.specs.Actions.{Aspects, AsksBy, AsksFirst, AsksLast, AsksPlace, Nouns}
use Rattle.i7_patterns.specs.Aspects.{AsksKind, AsksNoun, AsksObject, AsksOne, is_own, is_own_quality}
use Rattle.i7_patterns.specs.Patterns.{IsPattern, pattern_asks_value, pattern_is_over, pattern_of}
use Rattle.i7_patterns.specs.Places.{asks_value, is_long, is_value}
use Rattle.i7_patterns.specs.There.{AsksWhatIs, is_aspect_of, is_one_of, is_quality_of}

-- ---- what is so of what is given, if something is

abbrev Holds : {A : Type 0} → (A → Type 0) → Option A → Type 0
Holds {A} So given = (x : A) → given ≡ Some x → So x

of_none : {A : Type 0} (So : A → Type 0) → Holds So None
of_none So x e = absurd cc

of_some : {A : Type 0} (So : A → Type 0) (y : A) → So y → Holds So (Some y)
of_some So y so x e = let same : y ≡ x = cc in subst So same so

of_if : {A : Type 0} (So : A → Type 0) (b : Bool) (one other : Option A) → Holds So one → Holds So other → Holds So (if b then one else other)
of_if So true one other h k = h
of_if So false one other h k = k

of_or : {A : Type 0} (So : A → Type 0) (one other : Option A) → Holds So one → Holds So other → Holds So (option_or one other)
of_or So None other h k = k
of_or So (Some x) other h k = h

module _ (z : Counts) (s : Scope) (there : AreThere z s.meanings s.plurals) where
  -- ---- adjectives

  abbrev IsQuality : Quality → Type 0
  IsQuality (quality.Is p side) = p < z.qualities
  IsQuality (quality.Valued q value) = Unit {0}
  IsQuality quality.Visible = Unit {0}
  IsQuality quality.Touchable = Unit {0}

  quality_there : (m : Meaning) → IsThere z m → Holds IsQuality (in_quality m)
  quality_there (meaning.Quality p side) is = of_some IsQuality (quality.Is p side) is
  quality_there (meaning.Object o) is = of_none IsQuality
  quality_there (meaning.Kind kind) is = of_none IsQuality
  quality_there (meaning.Number p) is = of_none IsQuality
  quality_there (meaning.Variable v) is = of_none IsQuality
  quality_there (meaning.Scene scene) is = of_none IsQuality
  quality_there (meaning.ValueKind kind) is = of_none IsQuality
  quality_there (meaning.Value kind value) is = of_some IsQuality (quality.Valued kind value) tt

  qualities_there : (found : Option Meaning) → Holds (IsThere z) found → Holds IsQuality (in_qualities found)
  qualities_there None h = of_none IsQuality
  qualities_there (Some m) h = quality_there m (h m refl)

  fixed_there : (key : List ℕ) → Holds IsQuality (fixed_quality key)
  fixed_there key =
      of_if IsQuality (is_spelled key (codes "visible")) (Some quality.Visible) (if is_spelled key (codes "touchable") then Some quality.Touchable else None) (of_some IsQuality quality.Visible tt)
      (of_if IsQuality (is_spelled key (codes "touchable")) (Some quality.Touchable) None (of_some IsQuality quality.Touchable tt) (of_none IsQuality))

  named_there : (words : List Word) → Holds IsQuality (quality_named s words)
  named_there words =
      of_if IsQuality (nat_lt 32 (length words)) None (quality_known s (key_of words)) (of_none IsQuality)
      (of_or IsQuality (in_qualities (s.meanings (key_of words))) (fixed_quality (key_of words)) (qualities_there (s.meanings (key_of words)) (there.names (key_of words))) (fixed_there (key_of words)))

  abbrev IsAdjective : Adjective → Type 0
  IsAdjective a = IsQuality a.quality

  by_there : (denied : Bool) (found : Option Quality) → Holds IsQuality found → Holds IsAdjective (adjective_by denied found)
  by_there denied None h = of_none IsAdjective
  by_there denied (Some q) h = of_some IsAdjective (record { quality = q; denied = denied }) (h q refl)

  adjective_there : (words : List Word) → Holds IsAdjective (adjective_named s words)
  unfolding adjective_named
  adjective_there [] = of_none IsAdjective
  adjective_there (first ∷ rest) =
      of_if IsAdjective (is_not first) (adjective_by true (quality_named s rest)) (adjective_by false (quality_named s (first ∷ rest))) (by_there true (quality_named s rest) (named_there rest))
      (by_there false (quality_named s (first ∷ rest)) (named_there (first ∷ rest)))

  quality_asked : (q : Quality) (denied : Bool) → IsQuality q → is_own_quality q ≡ true → is_value (denied_if denied (quality_meant q)) ≡ false → is_quality_of z (denied_if denied (quality_meant q)) ≡ true
  quality_asked (quality.Is p side) true is own plain = lt-ltb p z.qualities is
  quality_asked (quality.Is p side) false is own plain = lt-ltb p z.qualities is
  quality_asked (quality.Valued q value) true is own plain = absurd cc
  quality_asked (quality.Valued q value) false is own plain = absurd cc
  quality_asked quality.Visible denied is own plain = absurd cc
  quality_asked quality.Touchable denied is own plain = absurd cc

  -- ---- kinds

  abbrev IsKind : ℕ → Type 0
  IsKind kind = kind < z.kinds

  in_kind_there : (m : Meaning) → IsThere z m → Holds IsKind (in_kind m)
  in_kind_there (meaning.Kind kind) is = of_some IsKind kind is
  in_kind_there (meaning.Object o) is = of_none IsKind
  in_kind_there (meaning.Quality p side) is = of_none IsKind
  in_kind_there (meaning.Number p) is = of_none IsKind
  in_kind_there (meaning.Variable v) is = of_none IsKind
  in_kind_there (meaning.Scene scene) is = of_none IsKind
  in_kind_there (meaning.ValueKind kind) is = of_none IsKind
  in_kind_there (meaning.Value kind value) is = of_none IsKind

  in_kinds_there : (found : Option Meaning) → Holds (IsThere z) found → Holds IsKind (in_kinds found)
  in_kinds_there None h = of_none IsKind
  in_kinds_there (Some m) h = in_kind_there m (h m refl)

  kind_known_there : (key : List ℕ) → Holds IsKind (kind_known s key)
  kind_known_there key =
      of_or IsKind (in_kinds (s.meanings key)) (option_or (s.plurals key) (something key)) (in_kinds_there (s.meanings key) (there.names key))
      (of_or IsKind (s.plurals key) (something key) (there.plural_kinds key)
      (of_if IsKind (is_spelled key (codes "something")) (Some 0) None (of_some IsKind 0 there.things) (of_none IsKind)))

  kind_there : (words : List Word) → Holds IsKind (kind_named s words)
  unfolding kind_named
  kind_there [] = of_none IsKind
  kind_there (word ∷ words) =
      of_if IsKind (nat_lt 32 (length (word ∷ words))) None (kind_known s (key_of (word ∷ words))) (of_none IsKind) (kind_known_there (key_of (word ∷ words)))

  -- ---- descriptions

  record IsCutThere (adjectives : List Adjective) (kind : ℕ) : Type 0 where
    kind_is : kind < z.kinds
    all_are : list_all (is_quality_of z) (map adjective_meant adjectives) ≡ true

  cut_there : (words : List Word) (adjectives : List Adjective) (kind : ℕ) → IsMeant s words adjectives kind → list_all is_own adjectives ≡ true → list_any is_value (map adjective_meant adjectives) ≡ false
      → IsCutThere adjectives kind
  cut_there words [] kind (IsMeant.kind named) all plain = record { kind_is = kind_there words kind named; all_are = refl }
  cut_there words (a ∷ others) kind (IsMeant.more n none named shortest rest) all plain =
      let parts = and_parts (is_own a) (list_all is_own others) all in
      let none_valued = or_parts (is_value (adjective_meant a)) (list_any is_value (map adjective_meant others)) plain in
      let behind = cut_there (drop n words) others kind rest parts.1 none_valued.1 in
      record {
        kind_is = behind.kind_is;
        all_are = and_from (is_quality_of z (adjective_meant a)) (list_all (is_quality_of z) (map adjective_meant others)) (quality_asked a.quality a.denied (adjective_there (take n words) a named) parts.0 none_valued.0) behind.all_are;
      }

  few : (n : ℕ) → nat_lt 9 n ≡ false → nat_le n 9 ≡ true
  few n short = grind (arith, common_steps)

  kind_asked : (words : List Word) (x : Aspect) → AsksKind s words x → is_long x ≡ false → asks_value x ≡ false → is_aspect_of z x ≡ true
  kind_asked words x asks short plain =
      let no_value : list_any is_value (map adjective_meant asks.adjectives) ≡ false = ap asks_value (sym asks.asked) ∙ plain in
      let cut = cut_there (without_article words) asks.adjectives asks.kind asks.meant asks.own no_value in
      let all = map adjective_meant asks.adjectives in
      let within : is_long (OfKind asks.kind all) ≡ false = ap is_long (sym asks.asked) ∙ short in
      ap (is_aspect_of z) asks.asked
      ∙ and_from (nat_lt asks.kind z.kinds) (nat_le (length all) 9 && list_all (is_quality_of z) all) (lt-ltb asks.kind z.kinds cut.kind_is)
      (and_from (nat_le (length all) 9) (list_all (is_quality_of z) all) (few (length all) within) cut.all_are)

  -- ---- objects

  abbrev IsMark : Mark → Type 0
  IsMark (mark.The o) = o < z.objects
  IsMark _ = Unit {0}

  in_meaning_there : (m : Meaning) → IsThere z m → Holds IsMark (in_meaning m)
  in_meaning_there (meaning.Object o) is = of_some IsMark (mark.The o) is
  in_meaning_there (meaning.Kind kind) is = of_none IsMark
  in_meaning_there (meaning.Quality p side) is = of_none IsMark
  in_meaning_there (meaning.Number p) is = of_none IsMark
  in_meaning_there (meaning.Variable v) is = of_none IsMark
  in_meaning_there (meaning.Scene scene) is = of_none IsMark
  in_meaning_there (meaning.ValueKind kind) is = of_none IsMark
  in_meaning_there (meaning.Value kind value) is = of_none IsMark

  in_meanings_there : (found : Option Meaning) → Holds (IsThere z) found → Holds IsMark (in_meanings found)
  in_meanings_there None h = of_none IsMark
  in_meanings_there (Some m) h = in_meaning_there m (h m refl)

  fixed_mark_there : (key : List ℕ) → Holds IsMark (fixed key)
  fixed_mark_there key =
      of_if IsMark (is_spelled key (codes "player")) (Some (mark.The 0)) _ (of_some IsMark (mark.The 0) there.player)
      (of_if IsMark (is_spelled key (codes "noun")) (Some mark.Noun) _ (of_some IsMark mark.Noun tt)
      (of_if IsMark (is_spelled key (codes "second noun")) (Some mark.SecondNoun) _ (of_some IsMark mark.SecondNoun tt)
      (of_if IsMark (is_spelled key (codes "location")) (Some mark.Location) _ (of_some IsMark mark.Location tt)
      (of_if IsMark (is_spelled key (codes "nothing")) (Some mark.Nothing) None (of_some IsMark mark.Nothing tt) (of_none IsMark)))))

  turning_there : (number : ℕ) (names : List (List ℕ)) (key : List ℕ) → Holds IsMark (turning number names key)
  turning_there number [] key = of_none IsMark
  turning_there number (name ∷ names) key =
      of_or IsMark (turning (number + 1) names key) (if is_spelled name key then Some (mark.Turning number) else None) (turning_there (number + 1) names key)
      (of_if IsMark (is_spelled name key) (Some (mark.Turning number)) None (of_some IsMark (mark.Turning number) tt) (of_none IsMark))

  known_there : (key : List ℕ) → Holds IsMark (known_as s key)
  known_there key =
      of_or IsMark (in_meanings (s.meanings key)) (option_or (fixed key) (turning 0 s.repeats key)) (in_meanings_there (s.meanings key) (there.names key))
      (of_or IsMark (fixed key) (turning 0 s.repeats key) (fixed_mark_there key) (turning_there 0 s.repeats key))

  plainly_there : (words : List Word) → Holds IsMark (plainly_named s words)
  unfolding plainly_named
  plainly_there words =
      of_if IsMark (nat_lt 32 (length (without_article words))) None (known_as s (key_of (without_article words))) (of_none IsMark) (known_there (key_of (without_article words)))

  -- words that hold a `from` begin with `room` or `door`
  abbrev IsWay : Mark → Type 0
  IsWay (mark.The o) = ⊥
  IsWay _ = Unit {0}

  way_opens : (word : Word) → Holds IsWay (beyond_of word)
  unfolding beyond_of
  way_opens word =
      of_if IsWay (is_spelled word (codes "room")) (Some mark.Room) (if is_spelled word (codes "door") then Some mark.Door else None) (of_some IsWay mark.Room tt)
      (of_if IsWay (is_spelled word (codes "door")) (Some mark.Door) None (of_some IsWay mark.Door tt) (of_none IsWay))

  never_the : (m : Mark) (ms : List Mark) (o : ℕ) → IsWay m → m ∷ ms ≡ mark.The o ∷ [] → ⊥
  never_the m ms o way e = let same : m ≡ mark.The o = cc in subst IsWay same way

  with_opening : (way : Option Mark) (rest : List Word) (o : ℕ) → Holds IsWay way → marks_behind s (opens_with way rest) ≡ mark.The o ∷ [] → ⊥
  with_opening None rest o h e = cc
  with_opening (Some way) rest o h e = never_the way _ o (h way refl) e

  beyond_never : (words : List Word) (o : ℕ) → marks_behind s (opening_and_rest words) ≡ mark.The o ∷ [] → ⊥
  beyond_never [] o e = cc
  beyond_never (word ∷ rest) o e = with_opening (beyond_of word) rest o (way_opens word) e

  by_name : (found : Option Mark) (o : ℕ) → Holds IsMark found → mark_named found ∷ [] ≡ mark.The o ∷ [] → o < z.objects
  by_name None o h e = absurd cc
  by_name (Some m) o h e = let same : m ≡ mark.The o = cc in subst IsMark same (h m refl)

  by_from : (words : List Word) (from : Bool) (o : ℕ) → (if from then marks_beyond s words else mark_named (plainly_named s words) ∷ []) ≡ mark.The o ∷ [] → o < z.objects
  by_from words true o e = absurd (beyond_never (without_article words) o e)
  by_from words false o e = by_name (plainly_named s words) o (plainly_there words) e

  object_there : (words : List Word) (o : ℕ) → Means s words (The o) → o < z.objects
  unfolding Means
  object_there words o means = by_from words (has_from words) o means

  -- ---- nouns and places

  abbrev IsAspect : Aspect → Type 0
  IsAspect x = is_long x ≡ false → asks_value x ≡ false → is_aspect_of z x ≡ true

  anything_is : (x : Aspect) → x ≡ Anything → IsAspect x
  anything_is x e short plain = ap (is_aspect_of z) e

  object_asked : (words : List Word) (x : Aspect) → AsksObject s words x → IsAspect x
  object_asked words x asks short plain = ap (is_aspect_of z) asks.2 ∙ lt-ltb asks.0 z.objects (object_there words asks.0 asks.1.1)

  one_is : (words : List Word) (x : Aspect) → AsksOne s words x → IsAspect x
  one_is words x (inl object) short plain = object_asked words x object short plain
  one_is words x (inr described) short plain = kind_asked words x described.1 short plain

  noun_is : (words : List Word) (x : Aspect) → AsksNoun s words x → IsAspect x
  noun_is words x (inl nothing) short plain = anything_is x nothing.1 short plain
  noun_is words x (inr asks) short plain = one_is words x asks.1 short plain

  place_is : (words : List Word) (x : Aspect) → AsksPlace s words x → IsAspect x
  place_is [] x e short plain = anything_is x e short plain
  place_is (word ∷ words) x asks short plain = one_is words x asks.1 short plain

  first_is : (count : NounCount) (words : List Word) (x : Aspect) → AsksFirst s count words x → IsAspect x
  first_is Zero words x asks short plain = absurd asks
  first_is One words x (inl omitted) short plain = anything_is x omitted.1 short plain
  first_is One words x (inr asks) short plain = noun_is words x asks.1 short plain
  first_is Two words x asks short plain = noun_is words x asks short plain

  last_is : (count : NounCount) (words : List Word) (x : Aspect) → AsksLast s count words x → IsAspect x
  last_is Zero words x asks short plain = absurd asks
  last_is One words x asks short plain = anything_is x asks.1 short plain
  last_is Two words x asks short plain = noun_is words x asks short plain

  -- ---- patterns

  record AreNouns (nouns : Nouns) : Type 0 where
    noun : IsAspect nouns.0
    second : IsAspect nouns.1

  nouns_by : (count : NounCount) (name words : List Word) (n : ℕ) (nouns : Nouns) → AsksBy s count name words n nouns → AreNouns nouns
  nouns_by Zero name words n nouns asks =
      let none = asks.2 in
      record { noun = anything_is nouns.0 (ap (λ (all : Nouns). all.0) none); second = anything_is nouns.1 (ap (λ (all : Nouns). all.1) none) }
  nouns_by One name words n nouns asks =
      let around = asks.2 in
      record { noun = first_is One (take n asks.0) nouns.0 around.noun; second = last_is One around.last nouns.1 around.ends }
  nouns_by Two name words n nouns asks =
      let around = asks.2 in
      record { noun = first_is Two (take n asks.0) nouns.0 around.noun; second = last_is Two around.last nouns.1 around.ends }

  abbrev IsAsking : ℕ → Pattern → Type 0
  IsAsking actions p = pattern_is_over p ≡ false → pattern_asks_value p ≡ false → AsksWhatIs z actions p

  asking_what_is : (actions : ℕ) (action : Option ℕ) (x : Aspects) → is_one_of actions action ≡ true → AreNouns x.nouns → IsAspect x.place → IsAsking actions (pattern_of action x)
  asking_what_is actions action x one nouns place within plain =
      let parts = or_parts (is_long x.nouns.0 || is_long x.nouns.1) (is_long x.place) within in
      let both_nouns = or_parts (is_long x.nouns.0) (is_long x.nouns.1) parts.0 in
      let values = or_parts (asks_value x.nouns.0 || asks_value x.nouns.1) (asks_value x.place) plain in
      let both_values = or_parts (asks_value x.nouns.0) (asks_value x.nouns.1) values.0 in
      record { action = one; noun = nouns.noun both_nouns.0 both_values.0; second = nouns.second both_nouns.1 both_values.1; place = place parts.1 values.1; scene = refl }

  pattern_is : (actions : List Action) (words : List Word) (p : Pattern) → IsPattern actions s words p → IsAsking (length actions) p
  pattern_is actions words p (inl anything) =
      let asks = anything.2 in
      subst (IsAsking (length actions)) (sym asks.2)
      (asking_what_is (length actions) None _ refl (record { noun = anything_is Anything refl; second = anything_is Anything refl }) (place_is anything.0 asks.0 asks.1))
  pattern_is actions words p (inr otherwise) =
      let asks = otherwise.1 in
      let at = asks.asks.stands in
      subst (IsAsking (length actions)) (sym asks.asked)
      (asking_what_is (length actions) (Some asks.number) asks.aspects (lt-ltb asks.number (length actions) (slice_get_within actions asks.number asks.action asks.at))
      (nouns_by asks.action.nouns asks.action.name (take asks.asks.n words) at.nouns.n asks.aspects.nouns at.nouns.stands) (place_is (drop asks.asks.n words) asks.aspects.place at.place))

pub patterns_there : (z : Counts) (actions : List Action) (s : Scope) (words : List Word) (p : Pattern) → AreThere z s.meanings s.plurals → IsPattern actions s words p → pattern_is_over p ≡ false
    → pattern_asks_value p ≡ false → AsksWhatIs z (length actions) p
patterns_there z actions s words p there is within plain = pattern_is z s there actions words p is within plain

pub one_there : (z : Counts) (s : Scope) (words : List Word) (x : Aspect) → AreThere z s.meanings s.plurals → AsksOne s words x → is_long x ≡ false → asks_value x ≡ false → is_aspect_of z x ≡ true
one_there z s words x there asks short plain = one_is z s there words x asks short plain
