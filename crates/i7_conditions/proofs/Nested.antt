-- Lines put together from the last to the first are the one body that they nest to.
use Rattle.std.proofs.Common.{◌≡◌, ℕ, zero, suc, ◌+◌, ◌≤◌, ◌<◌, Bool, true, false, List, [], ◌∷◌, ◌++◌, length, Option, None, Some, option_map, if◌then◌else◌, refl, sym, ap, ◌∙◌, subst, arith, append_assoc, length-append, inl, inr, ◌⊎◌}
use Rattle.play_meaning.specs.Meant.{condition_meant, description_meant, simple_meant}
use Rattle.play_meaning.specs.Trees.{Body, End, If, Instead, Phrase, Repeat, Then}
use Rattle.i7_conditions.specs.Levels.{Level, alone, behind, levels_on, nested, no_level, only, placed, placed_on, whole, whole_if, with_inner, with_otherwise, with_phrase}
use Rattle.i7_conditions.specs.Nesting.{IsBody, IsNested, IsOtherwise, at}
use Rattle.i7_conditions.specs.declared.line.Line.{Line}
use Rattle.i7_conditions.specs.declared.line.Step.{Step}
use Rattle.i7_conditions.specs.declared.line.Step.TheVariants as step

-- ---- levels

map_nothing : (found : Option (List Level)) → option_map (λ levels. [] ++ levels) found ≡ found
map_nothing None = refl
map_nothing (Some levels) = refl

map_front : (level : Level) (front : List Level) (found : Option (List Level)) → option_map (λ levels. level ∷ levels) (option_map (λ levels. front ++ levels) found) ≡ option_map (λ levels. (level ∷ front) ++ levels) found
map_front level front None = refl
map_front level front (Some levels) = refl

-- a level that isn't there is an empty one
pub one_more : (depth : ℕ) (step : Step) (levels : List Level) → length levels ≤ depth → placed depth step (levels ++ no_level ∷ []) ≡ placed depth step levels
one_more zero step [] few = refl
one_more zero step (level ∷ levels) few = absurd (omega (arith, few))
one_more (suc depth) step [] few = refl
one_more (suc depth) step (level ∷ levels) few = ap (option_map (λ levels. level ∷ levels)) (one_more depth step levels (omega (arith, few)))

-- the levels in front stay as they are
pub in_front : (depth : ℕ) (front : List Level) (step : Step) (levels : List Level) → length front ≡ depth → placed depth step (front ++ levels) ≡ option_map (λ more. front ++ more) (placed 0 step levels)
in_front zero [] step levels h = sym (map_nothing (placed 0 step levels))
in_front zero (level ∷ front) step levels h = absurd (omega (arith, h))
in_front (suc depth) [] step levels h = absurd (omega (arith, h))
in_front (suc depth) (level ∷ front) step levels h =
    ap (option_map (λ levels. level ∷ levels)) (in_front depth front step levels (omega (arith, h))) ∙ map_front level front (placed 0 step levels)

pub too_deep : (depth : ℕ) (step : Step) (front : List Level) (inner : Level) → depth + 1 < length front → placed depth step (front ++ inner ∷ []) ≡ None
too_deep zero step [] inner h = absurd (omega (arith, h))
too_deep zero step (a ∷ []) inner h = absurd (omega (arith, h))
too_deep zero step (a ∷ b ∷ []) inner h = refl
too_deep zero step (a ∷ b ∷ c ∷ front) inner h = refl
too_deep (suc depth) step [] inner h = absurd (omega (arith, h))
too_deep (suc depth) step (a ∷ front) inner h = ap (option_map (λ levels. a ∷ levels)) (too_deep depth step front inner (omega (arith, h)))

-- ---- what was put together is what the lines nest to

record IsLevel (d : ℕ) (x : Level) (lines : List Line) : Type 0 where
  others : List Line
  body : List Line
  parted : lines ≡ others ++ body
  is_otherwise : IsOtherwise d others x.others
  is_body : IsBody d body x.body
  is_free : x.waits ≡ false → others ≡ []

data Held : ℕ → List Level → List Line → Type 0 where
  none : {d : ℕ} → Held d [] []
  level : {d : ℕ} {x : Level} {levels : List Level} {deep lines : List Line} → IsLevel d x lines → Held (d + 1) levels deep → Held d (x ∷ levels) (deep ++ lines)

empty_level : (d : ℕ) → IsLevel d no_level []
empty_level d = record { others = []; body = []; parted = refl; is_otherwise = IsOtherwise.nothing_else; is_body = IsBody.nothing; is_free = λ free. refl }

-- a level in which nothing waits is a body
all_body : (d : ℕ) (x : Level) (lines : List Line) → IsLevel d x lines → x.waits ≡ false → IsBody d lines x.body
all_body d x lines l free = subst (λ (b : List Line). IsBody d b x.body) (sym (l.parted ∙ ap (λ o. o ++ l.body) (l.is_free free))) l.is_body

phrase_level : (d : ℕ) (lines more : List Line) (x y : Level) (phrase : Phrase) → IsLevel d x lines → (IsBody d lines x.body → IsBody d (more ++ lines) (Then phrase x.body)) → with_phrase phrase x ≡ Some y → IsLevel d y (more ++ lines)
phrase_level d lines more x y phrase l put h = by_waits x.waits refl h
  where
    by_waits : (w : Bool) → x.waits ≡ w → (if w then None else Some (record x { body = Then phrase x.body })) ≡ Some y → IsLevel d y (more ++ lines)
    by_waits true is h = let no : ⊥ = cc in absurd no
    by_waits false is h =
        let same : record x { body = Then phrase x.body } ≡ y = cc in
        subst (λ (y : Level). IsLevel d y (more ++ lines)) same (record {
          others = [];
          body = more ++ lines;
          parted = refl;
          is_otherwise = subst (λ (o : List Line). IsOtherwise d o x.others) (l.is_free is) l.is_otherwise;
          is_body = put (all_body d x lines l is);
          is_free = λ free. refl;
        })

otherwise_level : (d : ℕ) (inner lines : List Line) (a : Body) (x y : Level) → IsBody (d + 1) inner a → IsLevel d x lines → with_otherwise a x ≡ Some y → IsLevel d y (at d step.Otherwise ∷ (inner ++ lines))
otherwise_level d inner lines a x y i l h = by_waits x.waits refl h
  where
    by_waits : (w : Bool) → x.waits ≡ w → (if w then None else Some (record x { waits = true; others = a })) ≡ Some y → IsLevel d y (at d step.Otherwise ∷ (inner ++ lines))
    by_waits true is h = let no : ⊥ = cc in absurd no
    by_waits false is h =
        let same : record x { waits = true; others = a } ≡ y = cc in
        subst (λ (y : Level). IsLevel d y (at d step.Otherwise ∷ (inner ++ lines))) same (record {
          others = at d step.Otherwise ∷ inner;
          body = lines;
          parted = refl;
          is_otherwise = IsOtherwise.otherwise i;
          is_body = all_body d x lines l is;
          is_free = λ free. let no : ⊥ = cc in absurd no;
        })

-- a line with those that belong to it in front of a level
inner_level : (d : ℕ) (step : Step) (inner lines : List Line) (a : Body) (x y : Level) → IsBody (d + 1) inner a → IsLevel d x lines → with_inner step a x ≡ Some y → IsLevel d y (at d step ∷ (inner ++ lines))
inner_level d (step.Does simple) inner lines a x y i l h = let no : ⊥ = cc in absurd no
inner_level d (step.Instead simple) inner lines a x y i l h = let no : ⊥ = cc in absurd no
inner_level d (step.If condition) inner lines a x y i l h =
    let all : Level = record { waits = false; others = End; body = Then (If (condition_meant condition) a x.others) x.body } in
    let same : all ≡ y = cc in
    subst (λ (y : Level). IsLevel d y (at d (step.If condition) ∷ (inner ++ lines))) same (record {
      others = [];
      body = at d (step.If condition) ∷ (inner ++ lines);
      parted = refl;
      is_otherwise = IsOtherwise.nothing_else;
      is_body = subst (λ (ls : List Line). IsBody d (at d (step.If condition) ∷ (inner ++ ls)) all.body) (sym l.parted) (IsBody.chooses condition i l.is_otherwise l.is_body);
      is_free = λ free. refl;
    })
inner_level d (step.OtherwiseIf condition) inner lines a x y i l h =
    let line = at d (step.OtherwiseIf condition) in
    let same : record x { waits = true; others = Then (If (condition_meant condition) a x.others) End } ≡ y = cc in
    subst (λ (y : Level). IsLevel d y (line ∷ (inner ++ lines))) same (record {
      others = line ∷ (inner ++ l.others);
      body = l.body;
      parted = ap (λ ls. line ∷ (inner ++ ls)) l.parted ∙ ap (λ ls. line ∷ ls) (sym (append_assoc inner l.others l.body));
      is_otherwise = IsOtherwise.otherwise_if condition i l.is_otherwise;
      is_body = l.is_body;
      is_free = λ free. let no : ⊥ = cc in absurd no;
    })
inner_level d step.Otherwise inner lines a x y i l h = otherwise_level d inner lines a x y i l h
inner_level d (step.Repeat description) inner lines a x y i l h =
    phrase_level d lines (at d (step.Repeat description) ∷ inner) x y (Repeat (description_meant description) a) l (λ is. IsBody.repeats description i is) h

alone_level : (d : ℕ) (step : Step) (lines : List Line) (x y : Level) → IsLevel d x lines → alone step x ≡ Some y → IsLevel d y (at d step ∷ lines)
alone_level d (step.Does simple) lines x y l h = phrase_level d lines (at d (step.Does simple) ∷ []) x y (simple_meant simple) l (λ is. IsBody.does simple is) h
alone_level d (step.Instead simple) lines x y l h = phrase_level d lines (at d (step.Instead simple) ∷ []) x y (Instead (simple_meant simple)) l (λ is. IsBody.instead simple is) h
alone_level d (step.If condition) lines x y l h = inner_level d (step.If condition) [] lines End x y IsBody.nothing l h
alone_level d (step.OtherwiseIf condition) lines x y l h = inner_level d (step.OtherwiseIf condition) [] lines End x y IsBody.nothing l h
alone_level d step.Otherwise lines x y l h = inner_level d step.Otherwise [] lines End x y IsBody.nothing l h
alone_level d (step.Repeat description) lines x y l h = inner_level d (step.Repeat description) [] lines End x y IsBody.nothing l h

behind_level : (d : ℕ) (step : Step) (deep lines : List Line) (inner x y : Level) → IsLevel (d + 1) inner deep → IsLevel d x lines → behind step inner x ≡ Some y → IsLevel d y (at d step ∷ (deep ++ lines))
behind_level d step deep lines inner x y i l h = by_waits inner.waits refl h
  where
    by_waits : (w : Bool) → inner.waits ≡ w → (if w then None else with_inner step inner.body x) ≡ Some y → IsLevel d y (at d step ∷ (deep ++ lines))
    by_waits true is h = let no : ⊥ = cc in absurd no
    by_waits false is h = inner_level d step deep lines inner.body x y (all_body (d + 1) inner deep i is) l h

-- one level alone is what was found
one_held : (d : ℕ) (found : Option Level) (levels : List Level) (lines : List Line) → ((y : Level) → found ≡ Some y → IsLevel d y lines) → option_map only found ≡ Some levels → Held d levels lines
one_held d None levels lines is h = let no : ⊥ = cc in absurd no
one_held d (Some y) levels lines is h = let same : y ∷ [] ≡ levels = cc in subst (λ (levels : List Level). Held d levels lines) same (Held.level (is y refl) Held.none)

-- a level in front of deeper ones
deeper_held : (d : ℕ) (x : Level) (found : Option (List Level)) (more : List Level) (deep lines : List Line) → IsLevel d x lines → option_map (λ levels. x ∷ levels) found ≡ Some more
    → ((rest : List Level) → found ≡ Some rest → Held (d + 1) rest deep) → Held d more (deep ++ lines)
deeper_held d x None more deep lines l h held = let no : ⊥ = cc in absurd no
deeper_held d x (Some rest) more deep lines l h held = let same : x ∷ rest ≡ more = cc in subst (λ (more : List Level). Held d more (deep ++ lines)) same (Held.level l (held rest refl))

held_on : (n d e : ℕ) (step : Step) (levels more : List Level) (lines : List Line) → e ≡ d + n → Held d levels lines → placed n step levels ≡ Some more → Held d more (at e step ∷ lines)
held_on zero d e step [] more lines is Held.none h =
    let e_is : d ≡ e = omega (arith, is) in
    subst (λ (e : ℕ). Held d more (at e step ∷ [])) e_is (one_held d (alone step no_level) more (at d step ∷ []) (λ y f. alone_level d step [] no_level y (empty_level d) f) h)
held_on zero d e step (x ∷ []) more lines is (Held.level {lines = lines0} l Held.none) h =
    let e_is : d ≡ e = omega (arith, is) in
    subst (λ (e : ℕ). Held d more (at e step ∷ lines0)) e_is (one_held d (alone step x) more (at d step ∷ lines0) (λ y f. alone_level d step lines0 x y l f) h)
held_on zero d e step (x ∷ inner ∷ []) more lines is (Held.level {lines = lines0} l (Held.level {lines = deep} i Held.none)) h =
    let e_is : d ≡ e = omega (arith, is) in
    subst (λ (e : ℕ). Held d more (at e step ∷ (deep ++ lines0))) e_is (one_held d (behind step inner x) more (at d step ∷ (deep ++ lines0)) (λ y f. behind_level d step deep lines0 inner x y i l f) h)
held_on zero d e step (x ∷ inner ∷ other ∷ levels) more lines is held h = let no : ⊥ = cc in absurd no
held_on (suc n) d e step [] more lines is Held.none h = deeper_held d no_level (placed n step []) more (at e step ∷ []) [] (empty_level d) h (λ rest f. held_on n (d + 1) e step [] rest [] (omega (arith, is)) Held.none f)
held_on (suc n) d e step (x ∷ levels) more lines is (Held.level {deep = deep} {lines = lines0} l held) h =
    deeper_held d x (placed n step levels) more (at e step ∷ deep) lines0 l h (λ rest f. held_on n (d + 1) e step levels rest deep (omega (arith, is)) held f)

all_held : (lines : List Line) (levels : List Level) → levels_on [] lines ≡ Some levels → Held 0 levels lines
all_held [] levels h = let same : [] ≡ levels = cc in subst (λ (levels : List Level). Held 0 levels []) same Held.none
all_held (line ∷ lines) levels h = by_found (levels_on [] lines) h (λ so_far f. all_held lines so_far f)
  where
    by_found : (found : Option (List Level)) → placed_on line found ≡ Some levels → ((so_far : List Level) → found ≡ Some so_far → Held 0 so_far lines) → Held 0 levels (line ∷ lines)
    by_found None h held = let no : ⊥ = cc in absurd no
    by_found (Some so_far) h held = held_on line.depth 0 line.depth line.step so_far levels lines (omega arith) (held so_far refl) h

whole_body : (levels : List Level) (lines : List Line) (body : Body) → Held 0 levels lines → whole levels ≡ Some body → IsBody 0 lines body
whole_body [] lines body Held.none h = let same : End ≡ body = cc in subst (λ (body : Body). IsBody 0 [] body) same IsBody.nothing
whole_body (x ∷ []) lines body (Held.level {lines = lines0} l Held.none) h = by_waits x.waits refl h
  where
    by_waits : (w : Bool) → x.waits ≡ w → (if w then None else Some x.body) ≡ Some body → IsBody 0 lines0 body
    by_waits true is h = let no : ⊥ = cc in absurd no
    by_waits false is h = let same : x.body ≡ body = cc in subst (λ (body : Body). IsBody 0 lines0 body) same (all_body 0 x lines0 l is)
whole_body (x ∷ inner ∷ levels) lines body held h = let no : ⊥ = cc in absurd no

-- ---- what the lines nest to is put together

-- with empty levels up to this depth
abbrev raised : ℕ → List Level → List Level
raised zero levels = levels
raised (suc d) [] = no_level ∷ raised d []
raised (suc d) (x ∷ levels) = x ∷ raised d levels

raised_len : (d : ℕ) (levels : List Level) → length levels ≤ d → length (raised d levels) ≡ d
raised_len zero [] few = refl
raised_len zero (x ∷ levels) few = absurd (omega (arith, few))
raised_len (suc d) [] few = omega (arith, raised_len d [] (omega arith))
raised_len (suc d) (x ∷ levels) few = omega (arith, raised_len d levels (omega (arith, few)))

raised_suc : (d : ℕ) (levels : List Level) → length levels ≤ d → raised (suc d) levels ≡ raised d levels ++ no_level ∷ []
raised_suc zero [] few = refl
raised_suc zero (x ∷ levels) few = absurd (omega (arith, few))
raised_suc (suc d) [] few = ap (λ levels. no_level ∷ levels) (raised_suc d [] (omega arith))
raised_suc (suc d) (x ∷ levels) few = ap (λ levels. x ∷ levels) (raised_suc d levels (omega (arith, few)))

raised_full : (d : ℕ) (levels : List Level) → length levels ≡ d → raised d levels ≡ levels
raised_full zero levels is = refl
raised_full (suc d) [] is = absurd (omega (arith, is))
raised_full (suc d) (x ∷ levels) is = ap (λ levels. x ∷ levels) (raised_full d levels (omega (arith, is)))

placed_raised : (d : ℕ) (step : Step) (levels : List Level) → placed d step (raised d levels) ≡ placed d step levels
placed_raised zero step levels = refl
placed_raised (suc d) step [] = ap (option_map (λ levels. no_level ∷ levels)) (placed_raised d step [])
placed_raised (suc d) step (x ∷ levels) = ap (option_map (λ levels. x ∷ levels)) (placed_raised d step levels)

pub map_only : (front : List Level) (found : Option Level) → option_map (λ levels. front ++ levels) (option_map only found) ≡ option_map (λ x. front ++ x ∷ []) found
map_only front None = refl
map_only front (Some x) = refl

-- lines of a depth in front of levels: none and no level, or one level behind those in front
abbrev IsOn : ℕ → List Level → Level → List Line → Type 0
IsOn d levels x lines = ((levels_on levels lines ≡ Some levels) × (x ≡ no_level)) ⊎ (levels_on levels lines ≡ Some (raised d levels ++ x ∷ []))

place_alone : (d : ℕ) (levels : List Level) (x : Level) (step : Step) → length levels ≤ d → placed d step (raised d levels ++ x ∷ []) ≡ option_map (λ y. raised d levels ++ y ∷ []) (alone step x)
place_alone d levels x step few = in_front d (raised d levels) step (x ∷ []) (raised_len d levels few) ∙ map_only (raised d levels) (alone step x)

place_none : (d : ℕ) (levels : List Level) (x : Level) (step : Step) → length levels ≤ d → x ≡ no_level → placed d step levels ≡ option_map (λ y. raised d levels ++ y ∷ []) (alone step x)
place_none d levels x step few is =
    sym (one_more d step (raised d levels) (omega (arith, raised_len d levels few)) ∙ placed_raised d step levels)
    ∙ ap (λ x. placed d step (raised d levels ++ x ∷ [])) (sym is) ∙ place_alone d levels x step few

alone_on : (d : ℕ) (levels : List Level) (x y : Level) (step : Step) (lines : List Line) → length levels ≤ d → IsOn d levels x lines → alone step x ≡ Some y → IsOn d levels y (at d step ∷ lines)
alone_on d levels x y step lines few (inl on) is = inr (ap (placed_on (at d step)) on.0 ∙ place_none d levels x step few on.1 ∙ ap (option_map (λ y. raised d levels ++ y ∷ [])) is)
alone_on d levels x y step lines few (inr on) is = inr (ap (placed_on (at d step)) on ∙ place_alone d levels x step few ∙ ap (option_map (λ y. raised d levels ++ y ∷ [])) is)

pub on_append : (levels more : List Level) (a b : List Line) → levels_on levels b ≡ Some more → levels_on levels (a ++ b) ≡ levels_on more a
on_append levels more [] b is = is
on_append levels more (line ∷ a) b is = ap (placed_on line) (on_append levels more a b is)

abbrev plain : Body → Level
plain body = record { waits = false; others = End; body = body }

alone_is : (step : Step) (a : Body) (x y : Level) → a ≡ End → with_inner step a x ≡ Some y → alone step x ≡ Some y
alone_is (step.Does simple) a x y is h = let no : ⊥ = cc in absurd no
alone_is (step.Instead simple) a x y is h = let no : ⊥ = cc in absurd no
alone_is (step.If condition) a x y is h = ap (λ a. with_inner (step.If condition) a x) (sym is) ∙ h
alone_is (step.OtherwiseIf condition) a x y is h = ap (λ a. with_inner (step.OtherwiseIf condition) a x) (sym is) ∙ h
alone_is step.Otherwise a x y is h = ap (λ a. with_inner step.Otherwise a x) (sym is) ∙ h
alone_is (step.Repeat description) a x y is h = ap (λ a. with_inner (step.Repeat description) a x) (sym is) ∙ h

module _ (d : ℕ) (levels : List Level) (few : length levels ≤ d) (step : Step) (inner lines : List Line) (a : Body) (x y : Level) (put : with_inner step a x ≡ Some y) where
  abbrev front : List Level
  front = raised d levels

  -- where the levels are so, with the deeper lines or without
  behind_on : (so_far : List Level) → levels_on levels lines ≡ Some so_far → ((step : Step) → placed d step so_far ≡ option_map (λ y. front ++ y ∷ []) (alone step x)) → raised (d + 1) so_far ≡ front ++ x ∷ []
      → IsOn (d + 1) so_far (plain a) inner → IsOn d levels y (at d step ∷ (inner ++ lines))
  behind_on so_far is one raised_is (inl on) =
      inr (ap (placed_on (at d step)) (on_append levels so_far inner lines is ∙ on.0) ∙ one step
      ∙ ap (option_map (λ y. front ++ y ∷ [])) (alone_is step a x y (ap (λ (l : Level). l.body) on.1) put))
  behind_on so_far is one raised_is (inr on) =
      inr (ap (placed_on (at d step)) (on_append levels so_far inner lines is ∙ on)
      ∙ ap (placed d step) (ap (λ levels. levels ++ plain a ∷ []) raised_is ∙ append_assoc front (x ∷ []) (plain a ∷ []))
      ∙ in_front d front step (x ∷ plain a ∷ []) (raised_len d levels few) ∙ map_only front (with_inner step a x) ∙ ap (option_map (λ y. front ++ y ∷ [])) put)

  inner_on : IsOn d levels x lines → ((more : List Level) → length more ≤ d + 1 → IsOn (d + 1) more (plain a) inner) → IsOn d levels y (at d step ∷ (inner ++ lines))
  inner_on (inl on) deep =
      let next : d + 1 ≡ suc d = omega arith in
      behind_on levels on.0 (λ step. place_none d levels x step few on.1)
      (ap (λ n. raised n levels) next ∙ raised_suc d levels few ∙ ap (λ x. front ++ x ∷ []) (sym on.1)) (deep levels (omega (arith, few)))
  inner_on (inr on) deep =
      let len : length (front ++ x ∷ []) ≡ d + 1 = omega (arith, length-append front (x ∷ []), raised_len d levels few) in
      behind_on (front ++ x ∷ []) on (λ step. place_alone d levels x step few) (raised_full (d + 1) (front ++ x ∷ []) len) (deep (front ++ x ∷ []) (omega (arith, len)))

mutual
  bodies_on : {d : ℕ} {lines : List Line} {body : Body} → IsBody d lines body → (levels : List Level) → length levels ≤ d → IsOn d levels (plain body) lines
  bodies_on IsBody.nothing levels few = inl (refl, refl)
  bodies_on (IsBody.does {d = d} {lines = lines} {body = body} simple is) levels few = alone_on d levels (plain body) _ (step.Does simple) lines few (bodies_on is levels few) refl
  bodies_on (IsBody.instead {d = d} {lines = lines} {body = body} simple is) levels few = alone_on d levels (plain body) _ (step.Instead simple) lines few (bodies_on is levels few) refl
  bodies_on (IsBody.repeats {d = d} {inner = inner} {lines = lines} {a = a} {body = body} description deep is) levels few =
      inner_on d levels few (step.Repeat description) inner lines a (plain body) _ refl (bodies_on is levels few) (λ more m. bodies_on deep more m)
  bodies_on (IsBody.chooses {d = d} {inner = inner} {others = others} {lines = lines} {a = a} {b = b} {body = body} condition deep other is) levels few =
      let sides = others_on other lines body levels few (bodies_on is levels few) in
      inner_on d levels few (step.If condition) inner (others ++ lines) a (record { waits = sides.0; others = b; body = body }) _ refl sides.1 (λ more m. bodies_on deep more m)

  others_on : {d : ℕ} {others : List Line} {b : Body} → IsOtherwise d others b → (lines : List Line) (body : Body) (levels : List Level) → length levels ≤ d → IsOn d levels (plain body) lines
      → (w : Bool) × IsOn d levels (record { waits = w; others = b; body = body }) (others ++ lines)
  others_on IsOtherwise.nothing_else lines body levels few on = (false, on)
  others_on (IsOtherwise.otherwise {d = d} {inner = inner} {a = a} deep) lines body levels few on =
      (true, inner_on d levels few step.Otherwise inner lines a (plain body) _ refl on (λ more m. bodies_on deep more m))
  others_on (IsOtherwise.otherwise_if {d = d} {inner = inner} {others = others} {a = a} {b = b} condition deep other) lines body levels few on =
      let sides = others_on other lines body levels few on in
      let line = at d (step.OtherwiseIf condition) in
      let all : Level = record { waits = true; others = Then (If (condition_meant condition) a b) End; body = body } in (
        true,
        subst (λ (ls : List Line). IsOn d levels all (line ∷ ls)) (sym (append_assoc inner others lines))
            (inner_on d levels few (step.OtherwiseIf condition) inner (others ++ lines) a (record { waits = sides.0; others = b; body = body }) _ refl sides.1 (λ more m. bodies_on deep more m)),
      )

put_together : (lines : List Line) (body : Body) → IsOn 0 [] (plain body) lines → nested lines ≡ Some body
unfolding nested
put_together lines body (inl on) = ap whole_if on.0 ∙ ap (λ (l : Level). Some l.body) (sym on.1)
put_together lines body (inr on) = ap whole_if on

pub body_is_nested : (lines : List Line) (body : Body) → IsBody 0 lines body → nested lines ≡ Some body
body_is_nested lines body is = put_together lines body (bodies_on is [] (omega arith))

pub nested_is : (lines : List Line) → IsNested lines (nested lines)
unfolding nested
nested_is lines = by_levels (levels_on [] lines) refl
  where
    by_body : (levels : List Level) → levels_on [] lines ≡ Some levels → (found : Option Body) → whole levels ≡ found → IsNested lines found
    by_body levels on (Some body) is = whole_body levels lines body (all_held lines levels on) is
    by_body levels on None is = λ body b. let all = body_is_nested lines body b in let no : ⊥ = cc in no

    by_levels : (found : Option (List Level)) → levels_on [] lines ≡ found → IsNested lines (whole_if found)
    by_levels None on = λ body b. let all = body_is_nested lines body b in let no : ⊥ = cc in no
    by_levels (Some levels) on = by_body levels on (whole levels) refl
