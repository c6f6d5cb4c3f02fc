-- How many there are of what the names of a source stand for.
use Rattle.std.specs.Prelude.{List, length}
use Rattle.i7_conditions.specs.There.{Counts}
use Rattle.i7_sentences.specs.declared.sentence.Sentence.{Sentence}
use Rattle.i7_names.specs.Meant.{value_count}
use Rattle.i7_names.specs.Numbering.{Numbering, numbering_of}

abbrev pub counts_by : Numbering → Counts
counts_by n = record {
  objects = length n.objects;
  kinds = length n.kinds;
  qualities = length n.qualities;
  numbers = length n.numbers;
  variables = length n.variables;
  scenes = length n.scenes;
  values = λ q. value_count n q;
}

abbrev pub counts_in : List Sentence → Counts
counts_in sentences = counts_by (numbering_of sentences)
