-- The sentences of a source that tell what texts mean, in order.
use Rattle.std.specs.Prelude.{ℕ, List, [], ◌∷◌, flat_map, map, Option}
use Rattle.i7_sentences.specs.declared.sentence.Assertion.{Assertion}
use Rattle.i7_sentences.specs.declared.sentence.Assertion.TheVariants as asserts
use Rattle.i7_sentences.specs.declared.sentence.Sentence.{Sentence}
use Rattle.i7_grammar.specs.Targets.{Known, target_of}
use Rattle.i7_grammar.specs.declared.target.Target.{Target}
use Rattle.i7_grammar.specs.declared.understood.Understood.{Understood as Lent}

-- its line, its texts, and what they mean, if its words mean anything
pub record Understood : Type 0 where
  pub line : ℕ
  pub texts : List (List ℕ)
  pub target : Option Target

abbrev pub understood_as : Known → ℕ → Assertion → List Understood
understood_as k line (asserts.Understand said) = record { line = line; texts = said.texts; target = target_of k said.meaning } ∷ []
understood_as k line _ = []

abbrev pub understood_by : Known → Sentence → List Understood
understood_by k sentence = understood_as k sentence.line sentence.said

abbrev pub understood_in : Known → List Sentence → List Understood
understood_in k sentences = flat_map (understood_by k) sentences

-- ---- as they are lent

abbrev pub understood_lent : Lent → Understood
understood_lent l = record { line = l.line; texts = l.texts.now; target = l.target }

abbrev pub all_lent : List Lent → List Understood
all_lent us = map understood_lent us
