-- Lines that state the same at the same depths are the same body.
use Rattle.std.proofs.Common.{◌≡◌, ℕ, ◌+◌, List, [], ◌∷◌, ◌++◌, refl, ap, ◌∙◌, subst}
use Rattle.std.specs.List.{AllZip}
use Rattle.play_meaning.specs.Meant.{condition_meant, description_meant, simple_meant}
use Rattle.play_meaning.specs.Trees as tree
use Rattle.play_meaning.specs.Trees.{Body, End, If, Instead, Repeat, Then}
use Rattle.play_meaning.specs.declared.tree.condition.Condition.{Condition}
use Rattle.play_meaning.specs.declared.tree.object.Description.{Description}
use Rattle.play_meaning.specs.declared.tree.phrase.Simple.{Simple}
use Rattle.i7_conditions.specs.Nesting.{IsBody, IsOtherwise, at}
use Rattle.i7_conditions.specs.declared.line.Line.{Line}
use Rattle.i7_conditions.specs.declared.line.Step.{Step}
use Rattle.i7_conditions.specs.declared.line.Step.TheVariants as step
use Rattle.i7_rules.specs.Lines.{stated_in}

-- ---- steps that state the same

record AsDoes (a : Simple) (s : Step) : Type 0 where
  kept : Simple
  is : step.Does kept ≡ s
  same : simple_meant kept ≡ simple_meant a

as_does : (a : Simple) (s : Step) → stated_in (step.Does a) ≡ stated_in s → AsDoes a s
as_does a (step.Does b) e = record { kept = b; is = refl; same = (let e : simple_meant b ≡ simple_meant a = cc in e) }
as_does a (step.Instead b) e = let no : ⊥ = cc in absurd no
as_does a (step.If b) e = let no : ⊥ = cc in absurd no
as_does a (step.OtherwiseIf b) e = let no : ⊥ = cc in absurd no
as_does a step.Otherwise e = let no : ⊥ = cc in absurd no
as_does a (step.Repeat b) e = let no : ⊥ = cc in absurd no

record AsInstead (a : Simple) (s : Step) : Type 0 where
  kept : Simple
  is : step.Instead kept ≡ s
  same : simple_meant kept ≡ simple_meant a

as_instead : (a : Simple) (s : Step) → stated_in (step.Instead a) ≡ stated_in s → AsInstead a s
as_instead a (step.Does b) e = let no : ⊥ = cc in absurd no
as_instead a (step.Instead b) e = record { kept = b; is = refl; same = (let e : simple_meant b ≡ simple_meant a = cc in e) }
as_instead a (step.If b) e = let no : ⊥ = cc in absurd no
as_instead a (step.OtherwiseIf b) e = let no : ⊥ = cc in absurd no
as_instead a step.Otherwise e = let no : ⊥ = cc in absurd no
as_instead a (step.Repeat b) e = let no : ⊥ = cc in absurd no

record AsIf (a : Condition) (s : Step) : Type 0 where
  kept : Condition
  is : step.If kept ≡ s
  same : condition_meant kept ≡ condition_meant a

as_asks : (a : Condition) (s : Step) → stated_in (step.If a) ≡ stated_in s → AsIf a s
as_asks a (step.Does b) e = let no : ⊥ = cc in absurd no
as_asks a (step.Instead b) e = let no : ⊥ = cc in absurd no
as_asks a (step.If b) e = record { kept = b; is = refl; same = (let e : condition_meant b ≡ condition_meant a = cc in e) }
as_asks a (step.OtherwiseIf b) e = let no : ⊥ = cc in absurd no
as_asks a step.Otherwise e = let no : ⊥ = cc in absurd no
as_asks a (step.Repeat b) e = let no : ⊥ = cc in absurd no

record AsOtherwiseIf (a : Condition) (s : Step) : Type 0 where
  kept : Condition
  is : step.OtherwiseIf kept ≡ s
  same : condition_meant kept ≡ condition_meant a

as_asks_else : (a : Condition) (s : Step) → stated_in (step.OtherwiseIf a) ≡ stated_in s → AsOtherwiseIf a s
as_asks_else a (step.Does b) e = let no : ⊥ = cc in absurd no
as_asks_else a (step.Instead b) e = let no : ⊥ = cc in absurd no
as_asks_else a (step.If b) e = let no : ⊥ = cc in absurd no
as_asks_else a (step.OtherwiseIf b) e = record { kept = b; is = refl; same = (let e : condition_meant b ≡ condition_meant a = cc in e) }
as_asks_else a step.Otherwise e = let no : ⊥ = cc in absurd no
as_asks_else a (step.Repeat b) e = let no : ⊥ = cc in absurd no

as_otherwise : (s : Step) → stated_in step.Otherwise ≡ stated_in s → step.Otherwise ≡ s
as_otherwise (step.Does b) e = let no : ⊥ = cc in absurd no
as_otherwise (step.Instead b) e = let no : ⊥ = cc in absurd no
as_otherwise (step.If b) e = let no : ⊥ = cc in absurd no
as_otherwise (step.OtherwiseIf b) e = let no : ⊥ = cc in absurd no
as_otherwise step.Otherwise e = refl
as_otherwise (step.Repeat b) e = let no : ⊥ = cc in absurd no

record AsRepeat (a : Description) (s : Step) : Type 0 where
  kept : Description
  is : step.Repeat kept ≡ s
  same : description_meant kept ≡ description_meant a

as_repeats : (a : Description) (s : Step) → stated_in (step.Repeat a) ≡ stated_in s → AsRepeat a s
as_repeats a (step.Does b) e = let no : ⊥ = cc in absurd no
as_repeats a (step.Instead b) e = let no : ⊥ = cc in absurd no
as_repeats a (step.If b) e = let no : ⊥ = cc in absurd no
as_repeats a (step.OtherwiseIf b) e = let no : ⊥ = cc in absurd no
as_repeats a step.Otherwise e = let no : ⊥ = cc in absurd no
as_repeats a (step.Repeat b) e = record { kept = b; is = refl; same = (let e : description_meant b ≡ description_meant a = cc in e) }

-- ---- lines

pub record IsSame (a b : Line) : Type 0 where
  pub depth : a.depth ≡ b.depth
  pub states : stated_in a.step ≡ stated_in b.step

line_is : (d : ℕ) (s : Step) (line : Line) → d ≡ line.depth → s ≡ line.step → at d s ≡ line
line_is d s line deep is = ap (λ (e : ℕ). at e s) deep ∙ ap (at line.depth) is

-- the lines that stand for the front of others, and those that stand for the rest
record Parted (front rest others : List Line) : Type 0 where
  one : List Line
  two : List Line
  parted : one ++ two ≡ others
  is_one : AllZip IsSame front one
  is_two : AllZip IsSame rest two

parts : (front rest others : List Line) → AllZip IsSame (front ++ rest) others → Parted front rest others
parts [] rest others same = record { one = []; two = others; parted = refl; is_one = tt; is_two = same }
parts (line ∷ front) rest [] same = absurd same
parts (line ∷ front) rest (other ∷ others) same =
    let behind = parts front rest others same.1 in
    record { one = other ∷ behind.one; two = behind.two; parted = ap (λ (ls : List Line). other ∷ ls) behind.parted; is_one = (same.0, behind.is_one); is_two = behind.is_two }

does_line : (d : ℕ) (a : Simple) (line : Line) (lines : List Line) (body : Body) → IsSame (at d (step.Does a)) line → IsBody d lines body → IsBody d (line ∷ lines) (Then (simple_meant a) body)
does_line d a line lines body same is =
    let told = as_does a line.step same.states in
    subst (λ (l : Line). IsBody d (l ∷ lines) (Then (simple_meant a) body)) (line_is d (step.Does told.kept) line same.depth told.is)
    (subst (λ (p : tree.Phrase). IsBody d (at d (step.Does told.kept) ∷ lines) (Then p body)) told.same (IsBody.does told.kept is))

instead_line : (d : ℕ) (a : Simple) (line : Line) (lines : List Line) (body : Body) → IsSame (at d (step.Instead a)) line → IsBody d lines body → IsBody d (line ∷ lines) (Then (Instead (simple_meant a)) body)
instead_line d a line lines body same is =
    let told = as_instead a line.step same.states in
    subst (λ (l : Line). IsBody d (l ∷ lines) (Then (Instead (simple_meant a)) body)) (line_is d (step.Instead told.kept) line same.depth told.is)
    (subst (λ (p : tree.Phrase). IsBody d (at d (step.Instead told.kept) ∷ lines) (Then (Instead p) body)) told.same (IsBody.instead told.kept is))

repeats_line : (d : ℕ) (a : Description) (line : Line) (one two : List Line) (inner body : Body) → IsSame (at d (step.Repeat a)) line → IsBody (d + 1) one inner → IsBody d two body
    → IsBody d (line ∷ (one ++ two)) (Then (Repeat (description_meant a) inner) body)
repeats_line d a line one two inner body same deep is =
    let told = as_repeats a line.step same.states in
    subst (λ (l : Line). IsBody d (l ∷ (one ++ two)) (Then (Repeat (description_meant a) inner) body)) (line_is d (step.Repeat told.kept) line same.depth told.is)
    (subst (λ (m : tree.Description). IsBody d (at d (step.Repeat told.kept) ∷ (one ++ two)) (Then (Repeat m inner) body)) told.same (IsBody.repeats told.kept deep is))

chooses_line : (d : ℕ) (a : Condition) (line : Line) (one two three : List Line) (inner other body : Body) → IsSame (at d (step.If a)) line → IsBody (d + 1) one inner → IsOtherwise d two other → IsBody d three body
    → IsBody d (line ∷ (one ++ (two ++ three))) (Then (If (condition_meant a) inner other) body)
chooses_line d a line one two three inner other body same deep behind is =
    let told = as_asks a line.step same.states in
    subst (λ (l : Line). IsBody d (l ∷ (one ++ (two ++ three))) (Then (If (condition_meant a) inner other) body)) (line_is d (step.If told.kept) line same.depth told.is)
    (subst (λ (c : tree.Condition). IsBody d (at d (step.If told.kept) ∷ (one ++ (two ++ three))) (Then (If c inner other) body)) told.same (IsBody.chooses told.kept deep behind is))

otherwise_line : (d : ℕ) (line : Line) (one : List Line) (inner : Body) → IsSame (at d step.Otherwise) line → IsBody (d + 1) one inner → IsOtherwise d (line ∷ one) inner
otherwise_line d line one inner same deep =
    subst (λ (l : Line). IsOtherwise d (l ∷ one) inner) (line_is d step.Otherwise line same.depth (as_otherwise line.step same.states)) (IsOtherwise.otherwise deep)

asks_line : (d : ℕ) (a : Condition) (line : Line) (one two : List Line) (inner other : Body) → IsSame (at d (step.OtherwiseIf a)) line → IsBody (d + 1) one inner → IsOtherwise d two other
    → IsOtherwise d (line ∷ (one ++ two)) (Then (If (condition_meant a) inner other) End)
asks_line d a line one two inner other same deep behind =
    let told = as_asks_else a line.step same.states in
    subst (λ (l : Line). IsOtherwise d (l ∷ (one ++ two)) (Then (If (condition_meant a) inner other) End)) (line_is d (step.OtherwiseIf told.kept) line same.depth told.is)
    (subst (λ (c : tree.Condition). IsOtherwise d (at d (step.OtherwiseIf told.kept) ∷ (one ++ two)) (Then (If c inner other) End)) told.same (IsOtherwise.otherwise_if told.kept deep behind))

-- ---- bodies

mutual
  pub body_again : {d : ℕ} {lines : List Line} {body : Body} → IsBody d lines body → (others : List Line) → AllZip IsSame lines others → IsBody d others body
  body_again IsBody.nothing [] same = IsBody.nothing
  body_again IsBody.nothing (o ∷ os) same = absurd same
  body_again (IsBody.does simple is) [] same = absurd same
  body_again (IsBody.does {d = d} {body = body} simple is) (o ∷ os) same = does_line d simple o os body same.0 (body_again is os same.1)
  body_again (IsBody.instead simple is) [] same = absurd same
  body_again (IsBody.instead {d = d} {body = body} simple is) (o ∷ os) same = instead_line d simple o os body same.0 (body_again is os same.1)
  body_again (IsBody.repeats description deep is) [] same = absurd same
  body_again (IsBody.repeats {d = d} {inner = inner} {lines = lines} {a = a} {body = body} description deep is) (o ∷ os) same =
      let p = parts inner lines os same.1 in
      subst (λ (ls : List Line). IsBody d (o ∷ ls) (Then (Repeat (description_meant description) a) body)) p.parted
      (repeats_line d description o p.one p.two a body same.0 (body_again deep p.one p.is_one) (body_again is p.two p.is_two))
  body_again (IsBody.chooses condition deep behind is) [] same = absurd same
  body_again (IsBody.chooses {d = d} {inner = inner} {others = others} {lines = lines} {a = a} {b = b} {body = body} condition deep behind is) (o ∷ os) same =
      let p = parts inner (others ++ lines) os same.1 in
      let q = parts others lines p.two p.is_two in
      subst (λ (ls : List Line). IsBody d (o ∷ ls) (Then (If (condition_meant condition) a b) body)) (ap (λ (ls : List Line). p.one ++ ls) q.parted ∙ p.parted)
      (chooses_line d condition o p.one q.one q.two a b body same.0 (body_again deep p.one p.is_one) (others_again behind q.one q.is_one) (body_again is q.two q.is_two))

  others_again : {d : ℕ} {lines : List Line} {body : Body} → IsOtherwise d lines body → (others : List Line) → AllZip IsSame lines others → IsOtherwise d others body
  others_again IsOtherwise.nothing_else [] same = IsOtherwise.nothing_else
  others_again IsOtherwise.nothing_else (o ∷ os) same = absurd same
  others_again (IsOtherwise.otherwise deep) [] same = absurd same
  others_again (IsOtherwise.otherwise {d = d} {a = a} deep) (o ∷ os) same = otherwise_line d o os a same.0 (body_again deep os same.1)
  others_again (IsOtherwise.otherwise_if condition deep behind) [] same = absurd same
  others_again (IsOtherwise.otherwise_if {d = d} {inner = inner} {others = others} {a = a} {b = b} condition deep behind) (o ∷ os) same =
      let p = parts inner others os same.1 in
      subst (λ (ls : List Line). IsOtherwise d (o ∷ ls) (Then (If (condition_meant condition) a b) End)) p.parted
      (asks_line d condition o p.one p.two a b same.0 (body_again deep p.one p.is_one) (others_again behind p.two p.is_two))
