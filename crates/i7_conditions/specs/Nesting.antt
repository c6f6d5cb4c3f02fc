-- Which body the lines of a rule are: each stands so deep, and what stands one deeper behind it belongs to it.
use Rattle.std.specs.Prelude.{ℕ, ◌+◌, List, [], ◌∷◌, ◌++◌, Option, Some, None}
use Rattle.play_meaning.specs.Meant.{condition_meant, description_meant, simple_meant}
use Rattle.play_meaning.specs.Trees.{Body, End, If, Instead, Repeat, Then}
use Rattle.play_meaning.specs.declared.tree.condition.Condition.{Condition}
use Rattle.play_meaning.specs.declared.tree.object.Description.{Description}
use Rattle.play_meaning.specs.declared.tree.phrase.Simple.{Simple}
use Rattle.i7_conditions.specs.declared.line.Line.{Line}
use Rattle.i7_conditions.specs.declared.line.Step.{Step}
use Rattle.i7_conditions.specs.declared.line.Step.TheVariants as step

abbrev pub at : ℕ → Step → Line
at depth step = record { depth = depth; step = step }

mutual
  -- lines of this depth, with the deeper ones that belong to them, are this body
  pub data IsBody : ℕ → List Line → Body → Type 0 where
    nothing : {d : ℕ} → IsBody d [] End
    does : {d : ℕ} {lines : List Line} {body : Body} → (simple : Simple) → IsBody d lines body → IsBody d (at d (step.Does simple) ∷ lines) (Then (simple_meant simple) body)
    instead : {d : ℕ} {lines : List Line} {body : Body} → (simple : Simple) → IsBody d lines body → IsBody d (at d (step.Instead simple) ∷ lines) (Then (Instead (simple_meant simple)) body)
    repeats : {d : ℕ} {inner lines : List Line} {a body : Body} → (description : Description) → IsBody (d + 1) inner a → IsBody d lines body
        → IsBody d (at d (step.Repeat description) ∷ (inner ++ lines)) (Then (Repeat (description_meant description) a) body)
    chooses : {d : ℕ} {inner others lines : List Line} {a b body : Body} → (condition : Condition) → IsBody (d + 1) inner a → IsOtherwise d others b → IsBody d lines body
        → IsBody d (at d (step.If condition) ∷ (inner ++ (others ++ lines))) (Then (If (condition_meant condition) a b) body)

  -- what is done otherwise: nothing, or what belongs to `otherwise` or `otherwise if`
  pub data IsOtherwise : ℕ → List Line → Body → Type 0 where
    nothing_else : {d : ℕ} → IsOtherwise d [] End
    otherwise : {d : ℕ} {inner : List Line} {a : Body} → IsBody (d + 1) inner a → IsOtherwise d (at d step.Otherwise ∷ inner) a
    otherwise_if : {d : ℕ} {inner others : List Line} {a b : Body} → (condition : Condition) → IsBody (d + 1) inner a → IsOtherwise d others b
        → IsOtherwise d (at d (step.OtherwiseIf condition) ∷ (inner ++ others)) (Then (If (condition_meant condition) a b) End)

abbrev pub IsNested : List Line → Option Body → Type 0
IsNested lines (Some body) = IsBody 0 lines body
IsNested lines None = (body : Body) → IsBody 0 lines body → ⊥
