use Rattle.std.proofs.Common.{◌≡◌, ◌∙◌, ap, subst, sym, ℕ, ◌≤◌, true, false, length, drop, ltb, rules}
use Rattle.std.specs.List.Sorted.{IsPartitionPoint, IsPartitionedBy}
use Rattle.std.proofs.lemmas.List.Sorted.{IsPartitionPoint-from_clause, IsPartitionedBy-ltb}
use Rattle.rule_index.specs.Classes.{places_where}
use Rattle.rule_index.proofs.WalkLemmas.{class_behind, rising_places}
use Rattle.rule_index.proofs.walks.behind.Goals as goal

pub returns : goal.returns
returns c = λ passes listed is.
    let from = c.args.from in
    let start = c.partition_point-start.result in
    let parted = subst (IsPartitionedBy (λ y. ltb y from)) (sym is) (IsPartitionedBy-ltb (λ (n : ℕ). n) (places_where passes 0 listed) from (rising_places passes 0 listed)) in
    let point = IsPartitionPoint-from_clause (λ y. ltb y from) _ _ c.partition_point-start.ensures.partitioned parted (λ a r q k. search rules) in
    c.split_at.ensures.back
    ∙ ap (drop start) is
    ∙ class_behind passes listed from start (subst (λ xs. start ≤ length xs) is c.partition_point-start.ensures.bound)
    (subst (λ xs. IsPartitionPoint (λ y. ltb y from ≡ true) (λ y. ltb y from ≡ false) xs start) is point)
