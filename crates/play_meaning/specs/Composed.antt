-- What phrases that hold others mean, told by the lists of these.
use Rattle.std.proofs.Common.{◌≡◌, Global, Vec, List, refl, sym, ap, ◌∙◌}
use mathlib.Core.Former.{Count}
use Rattle.play_meaning.specs.Meant.{body_meant, branch_row_meant, branches_meant, condition_meant, description_meant, phrase_meant, row_meant}
use Rattle.play_meaning.specs.Trees as tree
use Rattle.play_meaning.specs.declared.tree.object.Description.{Description}
use Rattle.play_meaning.specs.declared.tree.phrase.Branch.{Branch}
use Rattle.play_meaning.specs.declared.tree.phrase.Phrase.{Phrase, Row_of-Branch, Row_of-Phrase, end_of-Branch, end_of-Phrase, more_of-Branch, more_of-Phrase, items-the_row-Branch, items-the_row-Phrase, items_hidden-the_row-Branch-1, items_hidden-the_row-Phrase-0, items_shown-the_row-Phrase-0}
use Rattle.play_meaning.specs.declared.tree.phrase.Phrase.TheVariants as phrase

-- the phrases of a row are those of its list
row_is_body : (n : _) (row : Row_of-Phrase n) → row_meant row ≡ body_meant (items-the_row-Phrase n row)
row_is_body n end_of-Phrase = refl
row_is_body n (more_of-Phrase phrase rest) = ap (tree.Then (phrase_meant phrase)) (row_is_body _ rest)

-- the branches of a row are those of its list
branch_rows : (n : _) (row : Row_of-Branch n) (others : tree.Body) → branch_row_meant row others ≡ branches_meant (items-the_row-Branch n row) others
branch_rows n end_of-Branch others = refl
branch_rows n (more_of-Branch condition m phrases rest) others =
    ap (λ x. tree.Then (tree.If (condition_meant condition) (row_meant phrases) x) tree.End) (branch_rows _ rest others)
    ∙ ap (λ x. tree.Then (tree.If (condition_meant condition) x (branches_meant (items-the_row-Branch _ rest) others)) tree.End)
    (row_is_body _ phrases ∙ sym (ap body_meant (items_shown-the_row-Phrase-0 m phrases)))

abbrev first_row : Phrase → (n : Count) × Row_of-Phrase n
first_row (phrase.If' condition _ phrases _ branches _ others) = (_, phrases)
first_row (phrase.Repeat' description _ phrases) = (_, phrases)
first_row _ = (_, end_of-Phrase)

abbrev other_row : Phrase → (n : Count) × Row_of-Phrase n
other_row (phrase.If' condition _ phrases _ branches _ others) = (_, others)
other_row _ = (_, end_of-Phrase)

abbrev branch_row : Phrase → (n : Count) × Row_of-Branch n
branch_row (phrase.If' condition _ phrases _ branches _ others) = (_, branches)
branch_row _ = (_, end_of-Branch)

pub if_meant : (p : Phrase) (first : Branch) (v : Vec Branch Global) (w : Vec Phrase Global) (a : List Branch) (b : List Phrase) → p ≡ phrase.If first v w → a ≡ v.items → b ≡ w.items
    → tree.If (condition_meant first.condition) (body_meant first.phrases.items) (branches_meant a (body_meant b)) ≡ phrase_meant p
if_meant p first v w a b is is_a is_b =
    let done = first_row (phrase.If first v w) in
    let other = other_row (phrase.If first v w) in
    let branches = branch_row (phrase.If first v w) in
    ap (λ a. tree.If (condition_meant first.condition) (body_meant first.phrases.items) (branches_meant a (body_meant b))) (is_a ∙ sym (items_hidden-the_row-Branch-1 v))
    ∙ ap (λ b. tree.If (condition_meant first.condition) (body_meant first.phrases.items) (branches_meant (items-the_row-Branch branches.0 branches.1) (body_meant b)))
    (is_b ∙ sym (items_hidden-the_row-Phrase-0 w))
    ∙ ap (λ c. tree.If (condition_meant first.condition) (body_meant c) (branches_meant (items-the_row-Branch branches.0 branches.1) (body_meant (items-the_row-Phrase other.0 other.1))))
    (sym (items_hidden-the_row-Phrase-0 first.phrases))
    ∙ ap (λ x. tree.If (condition_meant first.condition) x (branches_meant (items-the_row-Branch branches.0 branches.1) (body_meant (items-the_row-Phrase other.0 other.1))))
    (sym (row_is_body done.0 done.1))
    ∙ ap (λ x. tree.If (condition_meant first.condition) (row_meant done.1) (branches_meant (items-the_row-Branch branches.0 branches.1) x))
    (sym (row_is_body other.0 other.1))
    ∙ ap (λ x. tree.If (condition_meant first.condition) (row_meant done.1) x) (sym (branch_rows branches.0 branches.1 (row_meant other.1)))
    ∙ ap phrase_meant (sym is)

pub repeat_meant : (p : Phrase) (description : Description) (v : Vec Phrase Global) (a : List Phrase) → p ≡ phrase.Repeat description v → a ≡ v.items
    → tree.Repeat (description_meant description) (body_meant a) ≡ phrase_meant p
repeat_meant p description v a is is_a =
    let first = first_row (phrase.Repeat description v) in
    ap (λ a. tree.Repeat (description_meant description) (body_meant a)) (is_a ∙ sym (items_hidden-the_row-Phrase-0 v))
    ∙ ap (tree.Repeat (description_meant description)) (sym (row_is_body first.0 first.1))
    ∙ ap phrase_meant (sym is)
