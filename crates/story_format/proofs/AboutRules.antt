-- What rules are about stands in their entries, rightly, and there is room for it.
use Rattle.std.proofs.Common.{◌≡◌, ◌∙◌, ap, refl, ℕ, ◌<◌, ◌≤◌, true, false, ◌&&◌, ltb, leb, eqb, List, [], ◌∷◌, length, map, Option, Some, None, arith}
use Rattle.std.specs.List.{list_all}
use Rattle.std.proofs.lemmas.Bool.{lt-ltb, ltb-true, leb-true, ne_eqb, or_right, and_from, and_parts}
use Rattle.std.proofs.lemmas.List.{length-map}
use Rattle.world_meaning.specs.Declarations.{is_well_declared}
use Rattle.world_meaning.specs.declared.declared.Declared.{Declared}
use Rattle.play_meaning.specs.Rules.{Anything, Aspect, Exactly, OfKind, Rule}
use Rattle.play_meaning.specs.Trees.{Adjective, First, NotSo, Quality, Second, Touchable, Valued, Visible}
use Rattle.play_meaning.specs.declared.operand.Counts.{Counts}
use Rattle.story_format.specs.Carrying.{AsksSo, IsAbout, asked_by, number_if_some}
use Rattle.story_format.specs.Holding.{Named, named_by, is_asked, is_of, is_property, is_there}
use Rattle.story_format.specs.Layout.{aspect_layout, kind_aspect_layout, side_layout}
use Rattle.story_format.specs.RuleChecks.{is_number_or_none, is_right_aspect, is_right_side}
use Rattle.story_format.specs.RuleMaking.{aspect_entry, entry_with, number_or_none, side_of}
use Rattle.story_format.specs.declared.rule_entry.RuleBody.{RuleBody}
use Rattle.story_format.proofs.DeclaredLemmas.{declared_parts, few_grants, few_kinds}

-- ---- the parts of what a rule is about

pub record AreThere (z : Named) (rule : Rule) : Type 0 where
  pub book : rule.book < z.books
  pub action : is_there z.actions rule.action ≡ true
  pub noun : is_asked z rule.noun ≡ true
  pub second : is_asked z rule.second ≡ true
  pub place : is_asked z rule.place ≡ true
  pub scene : is_there z.scenes rule.scene ≡ true

pub named_parts : (z : Named) (rule : Rule) → is_of z rule ≡ true → AreThere z rule
unfolding is_of
named_parts z rule h =
    let book = ltb rule.book z.books in
    let action = is_there z.actions rule.action in
    let noun = is_asked z rule.noun in
    let second = is_asked z rule.second in
    let place = is_asked z rule.place in
    let a = and_parts (book && action && noun && second && place) (is_there z.scenes rule.scene) h in
    let b = and_parts (book && action && noun && second) place a.0 in
    let c = and_parts (book && action && noun) second b.0 in
    let d = and_parts (book && action) noun c.0 in
    let e = and_parts book action d.0 in
    record { book = ltb-true _ _ e.0; action = e.1; noun = d.1; second = c.1; place = b.1; scene = a.1 }

-- ---- they are right

-- as many of what rules are about as of what codes name
abbrev pub named_of : Counts → Named
named_of z = record { books = z.books; objects = z.objects; kinds = z.kinds; flags = z.flags; scenes = z.scenes; actions = z.actions }

pub number_right : (count : ℕ) (o : Option ℕ) → is_there count o ≡ true → is_number_or_none 255 count (number_or_none o) ≡ true
number_right count None h = refl
number_right count (Some n) h = or_right (eqb n 255) (ltb n count) h

side_right : (flags : ℕ) (a : Adjective) → is_property flags a ≡ true → is_right_side flags (side_of a) ≡ true
side_right flags (Quality p First) h = rw h refl
side_right flags (Quality p Second) h = rw h refl
side_right flags (NotSo (Quality p First)) h = rw h refl
side_right flags (NotSo (Quality p Second)) h = rw h refl
side_right flags (NotSo (NotSo a)) h = absurd cc
side_right flags (NotSo (Valued q value)) h = absurd cc
side_right flags (NotSo Visible) h = absurd cc
side_right flags (NotSo Touchable) h = absurd cc
side_right flags (Valued q value) h = absurd cc
side_right flags Visible h = absurd cc
side_right flags Touchable h = absurd cc

sides_right : (flags : ℕ) (qs : List Adjective) → list_all (is_property flags) qs ≡ true → list_all (is_right_side flags) (map side_of qs) ≡ true
sides_right flags [] h = refl
sides_right flags (a ∷ qs) h =
    let t = and_parts (is_property flags a) (list_all (is_property flags) qs) h in
    and_from (is_right_side flags (side_of a)) (list_all (is_right_side flags) (map side_of qs)) (side_right flags a t.0) (sides_right flags qs t.1)

pub aspect_right : (z : Counts) (a : Aspect) → is_asked (named_of z) a ≡ true → is_right_aspect z (aspect_entry a) ≡ true
unfolding is_right_aspect
aspect_right z Anything h = refl
aspect_right z (Exactly o) h = h
aspect_right z (OfKind kind qs) h =
    let t = and_parts (ltb kind z.kinds) (leb (length qs) 9 && list_all (is_property z.flags) qs) h in
    let u = and_parts (leb (length qs) 9) (list_all (is_property z.flags) qs) t.1 in
    let few : leb (length (map side_of qs)) 9 ≡ true = ap (λ n. leb n 9) (length-map qs side_of) ∙ u.0 in
    and_from (ltb kind z.kinds) (leb (length (map side_of qs)) 9 && list_all (is_right_side z.flags) (map side_of qs)) t.0
    (and_from (leb (length (map side_of qs)) 9) (list_all (is_right_side z.flags) (map side_of qs)) few (sides_right z.flags qs u.1))

-- ---- there is room for them

-- a byte tells a kind, a property, a scene and an action, two bytes an object and a book
pub record IsSmall (z : Named) : Type 0 where
  pub books : z.books ≤ 65536
  pub objects : z.objects ≤ 65536
  pub kinds : z.kinds ≤ 256
  pub flags : z.flags ≤ 256
  pub scenes : z.scenes ≤ 255
  pub actions : z.actions ≤ 255

pub small_names : (d : Declared) (objects : ℕ) → objects ≤ 1000 → length d.actions ≤ 184 → is_well_declared d ≡ true → IsSmall (named_by d objects)
small_names d objects few few_actions h =
    let p = declared_parts d h in
    let kinds = few_kinds d.kinds p.kinds in
    let flags = few_grants (length d.kinds) d.flags p.flags in
    record { books = omega (arith, p.scenes, p.rulebooks); objects = omega (arith, few); kinds = omega (arith, kinds); flags = omega (arith, flags); scenes = omega (arith, p.scenes); actions = omega (arith, few_actions) }

pub number_fits : (count : ℕ) (o : Option ℕ) → count ≤ 255 → is_there count o ≡ true → ltb (number_or_none o) 256 ≡ true
number_fits count None le h = refl
number_fits count (Some n) le h = let low : n < count = ltb-true _ _ h in lt-ltb _ _ (omega (arith, low, le))

side_fits : (flags : ℕ) (a : Adjective) → flags ≤ 256 → is_property flags a ≡ true → side_layout.format.fits (side_of a) ≡ true
unfolding side_layout
side_fits flags (Quality p First) le h = let low : p < flags = ltb-true _ _ h in rw (lt-ltb p 256 (omega (arith, low, le))) refl
side_fits flags (Quality p Second) le h = let low : p < flags = ltb-true _ _ h in rw (lt-ltb p 256 (omega (arith, low, le))) refl
side_fits flags (NotSo (Quality p First)) le h = let low : p < flags = ltb-true _ _ h in rw (lt-ltb p 256 (omega (arith, low, le))) refl
side_fits flags (NotSo (Quality p Second)) le h = let low : p < flags = ltb-true _ _ h in rw (lt-ltb p 256 (omega (arith, low, le))) refl
side_fits flags (NotSo (NotSo a)) le h = absurd cc
side_fits flags (NotSo (Valued q value)) le h = absurd cc
side_fits flags (NotSo Visible) le h = absurd cc
side_fits flags (NotSo Touchable) le h = absurd cc
side_fits flags (Valued q value) le h = absurd cc
side_fits flags Visible le h = absurd cc
side_fits flags Touchable le h = absurd cc

sides_fit : (flags : ℕ) (qs : List Adjective) → flags ≤ 256 → list_all (is_property flags) qs ≡ true → list_all side_layout.format.fits (map side_of qs) ≡ true
sides_fit flags [] le h = refl
sides_fit flags (a ∷ qs) le h =
    let t = and_parts (is_property flags a) (list_all (is_property flags) qs) h in
    and_from (side_layout.format.fits (side_of a)) (list_all side_layout.format.fits (map side_of qs)) (side_fits flags a le t.0) (sides_fit flags qs le t.1)

pub aspect_fits : (z : Named) (a : Aspect) → IsSmall z → is_asked z a ≡ true → aspect_layout.format.fits (aspect_entry a) ≡ true
unfolding aspect_layout kind_aspect_layout
aspect_fits z Anything small h = refl
aspect_fits z (Exactly o) small h = let low : o < z.objects = ltb-true _ _ h in lt-ltb _ _ (omega (arith, low, small.objects))
aspect_fits z (OfKind kind qs) small h =
    let t = and_parts (ltb kind z.kinds) (leb (length qs) 9 && list_all (is_property z.flags) qs) h in
    let u = and_parts (leb (length qs) 9) (list_all (is_property z.flags) qs) t.1 in
    let low : kind < z.kinds = ltb-true _ _ t.0 in
    let few : length qs ≤ 9 = leb-true _ _ u.0 in
    let count : ltb (length (map side_of qs)) 256 ≡ true = lt-ltb _ _ (omega (arith, length-map qs side_of, few)) in
    rw (lt-ltb kind 256 (omega (arith, low, small.kinds)), count) (sides_fit z.flags qs small.flags u.1)

-- ---- they are told

pub number_told : (count : ℕ) (o : Option ℕ) → count ≤ 255 → is_there count o ≡ true → number_if_some (number_or_none o) ≡ o
number_told count None le h = refl
number_told count (Some n) le h =
    let low : n < count = ltb-true _ _ h in
    let none : eqb n 255 ≡ false = ne_eqb _ _ (λ k. omega (arith, k, low, le)) in
    rw none refl

side_told : (flags : ℕ) (a : Adjective) → is_property flags a ≡ true → asked_by (side_of a) ≡ Some a
side_told flags (Quality p First) h = refl
side_told flags (Quality p Second) h = refl
side_told flags (NotSo (Quality p First)) h = refl
side_told flags (NotSo (Quality p Second)) h = refl
side_told flags (NotSo (NotSo a)) h = absurd cc
side_told flags (NotSo (Valued q value)) h = absurd cc
side_told flags (NotSo Visible) h = absurd cc
side_told flags (NotSo Touchable) h = absurd cc
side_told flags (Valued q value) h = absurd cc
side_told flags Visible h = absurd cc
side_told flags Touchable h = absurd cc

sides_told : (flags : ℕ) (qs : List Adjective) → list_all (is_property flags) qs ≡ true → map asked_by (map side_of qs) ≡ map Some qs
sides_told flags [] h = refl
sides_told flags (a ∷ qs) h =
    let t = and_parts (is_property flags a) (list_all (is_property flags) qs) h in
    λ i. side_told flags a t.0 i ∷ sides_told flags qs t.1 i

aspect_told : (z : Named) (a : Aspect) → is_asked z a ≡ true → AsksSo (aspect_entry a) a
aspect_told z Anything h = tt
aspect_told z (Exactly o) h = refl
aspect_told z (OfKind kind qs) h =
    let t = and_parts (ltb kind z.kinds) (leb (length qs) 9 && list_all (is_property z.flags) qs) h in
    let u = and_parts (leb (length qs) 9) (list_all (is_property z.flags) qs) t.1 in
    (refl, sides_told z.flags qs u.1)

pub entry_about : (z : Named) (rule : Rule) (condition : ℕ) (body : RuleBody) → IsSmall z → is_of z rule ≡ true → IsAbout (entry_with rule condition body) rule
entry_about z rule condition body small h =
    let p = named_parts z rule h in
    record {
      action = number_told z.actions rule.action small.actions p.action;
      noun = aspect_told z rule.noun p.noun;
      second = aspect_told z rule.second p.second;
      place = aspect_told z rule.place p.place;
      scene = number_told z.scenes rule.scene small.scenes p.scene;
    }
