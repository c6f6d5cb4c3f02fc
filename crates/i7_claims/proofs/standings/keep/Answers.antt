use Rattle.std.proofs.Common.{◌∙◌, ap, refl, sym}
use Rattle.std.specs.Prelude.{bytes_eq, option_copied}
use Rattle.std.proofs.lemmas.Slice.Eq.{bytes_eq-Decides}
use Rattle.indexmap.specs.IndexMap.{get_by}
use Rattle.i7_claims.specs.Firsts.{first_of, given}
use Rattle.i7_claims.specs.NameScans.{standing_at}
use Rattle.i7_claims.proofs.Firsts.{first_put}
use Rattle.i7_claims.proofs.Kept.{copied_none}
use Rattle.i7_claims.proofs.standings.keep.Goals as goal

pub returns-in_ok-insert : goal.returns-in_ok-insert
returns-in_ok-insert c =
    let name = c.as_slice-name.result in
    let said = c.args.naming.now in
    let none = sym c.get.ensures.value ∙ copied_none c.get.result c.is_none.result c.is_none.ensures c.if-is_none.true in
    λ i q. (first_put bytes_eq (λ a b. (bytes_eq-Decides a b).0) option_copied refl
    (λ k. get_by (λ key. bytes_eq k key.now) c.args.known.now) (λ k. get_by (λ key. bytes_eq k key.now) c.insert.new.self) name.now _ said.standing refl
    (λ k. c.in_ok-insert.ensures.updates.0 (record name { now = k })) none q
    ∙ ap (λ k. first_of (standing_at c.args.known.now q) (given bytes_eq k said.standing q)) c.as_slice-name.ensures) i
