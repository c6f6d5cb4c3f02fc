-- The rows of the table of keywords.
use Rattle.std.proofs.Common.{◌≡◌, ℕ, List, length, map, ap}
use Rattle.std.specs.Prelude.{option_map}
use Rattle.std.specs.List.{slice_get}
use Rattle.std.proofs.lemmas.Option.{slice_get-map}
use Rattle.i7_sentences.specs.Keywords.{Row, keyword_among}

pub rows_there : {R : Type 0} (rows_of : R → List Row) (table : List R) (word : List ℕ) → keyword_among word (slice_get (map rows_of table) (length word)) ≡ keyword_among word (option_map rows_of (slice_get table (length word)))
rows_there rows_of table word = ap (keyword_among word) (slice_get-map rows_of table (length word))
