use Rattle.std.proofs.Common.{◌+◌, sym, ◌∙◌, subst, ap, length, List, Option, ℕ}
use Rattle.i7_kinds.specs.Bounds.{AreWithin}
use Rattle.i7_kinds.specs.Knowns.{Scope}
use Rattle.i7_kinds.specs.Tales.{HasLine, judged, long_of}
use Rattle.i7_claims.specs.Statements.{NameAt}
use Rattle.i7_claims.specs.Views.{mentions_of, names_of}
use Rattle.i7_claims.specs.declared.statements.NumberedSentence.{NumberedSentence}
use Rattle.i7_kinds.proofs.Readiness.{named_counted, named_within, said_same, scope_meant, scope_same}
use Rattle.i7_kinds.proofs.tale.said_in.Goals as goal

pub judged-requires-clause-within : goal.judged-requires-clause-within
judged-requires-clause-within c =
    let objects = ap (λ (s : Scope). s.objects) c.new-scope.ensures ∙ c.keys-keys.ensures in
    let statements = c.as_slice.ensures.value ∙ c.in_ok-statements.ensures in
    subst (λ (os : List (List ℕ)). AreWithin (length os) c.as_slice.result.now) (sym objects)
    (subst (λ (ss : List NumberedSentence). AreWithin (length (names_of c.args.names.now).keys) ss) (sym statements) (named_within c.args.sentences.now (names_of c.args.names.now) c.requires.objects))

pub judged-requires-clause-counted : goal.judged-requires-clause-counted
judged-requires-clause-counted c =
    ap (λ (s : Scope). length s.objects) c.new-scope.ensures ∙ ap (λ (os : List (List ℕ)). length os) c.keys-keys.ensures
    ∙ named_counted c.args.sentences.now (names_of c.args.names.now) c.requires.objects
    ∙ ap (λ (ms : List NameAt). 13 + length ms) (sym c.mentions-mentions.ensures)

pub judged-requires-clause-scope : goal.judged-requires-clause-scope
judged-requires-clause-scope c =
    scope_meant c.new-scope.result c.args.kinds.now c.args.parents.now c.args.claims.now (names_of c.args.names.now).keys
    (scope_same c.new-scope.result c.args.kinds.now c.args.parents.now c.args.claims.now c.keys-keys.result.now (names_of c.args.names.now).keys c.in_ok-properties.properties c.as_slice-given.result.now c.in_ok-doors.doors c.in_ok-variables.variables
    c.new-scope.ensures c.keys-keys.ensures c.in_ok-properties.ensures (c.as_slice-given.ensures.value ∙ c.in_ok-givens.ensures) c.in_ok-doors.ensures c.in_ok-variables.ensures)
    c.requires.named c.requires.above

pub returns : goal.returns
returns c =
    let claims = c.args.claims.now in
    let named = names_of c.args.names.now in
    let scope = c.new-scope.result in
    let scoped = scope_same scope c.args.kinds.now c.args.parents.now claims c.keys-keys.result.now named.keys c.in_ok-properties.properties c.as_slice-given.result.now c.in_ok-doors.doors c.in_ok-variables.variables
    c.new-scope.ensures c.keys-keys.ensures c.in_ok-properties.ensures (c.as_slice-given.ensures.value ∙ c.in_ok-givens.ensures) c.in_ok-doors.ensures c.in_ok-variables.ensures in
    let stated = c.as_slice.ensures.value ∙ c.in_ok-statements.ensures in
    let mentions = mentions_of c.mentions-mentions.result.now in
    record {
      tale =
          c.in_ok-said.ensures.tale
          ∙ said_same (λ s statements mentioned. judged s claims statements mentioned) c.args.kinds.now c.args.parents.now claims c.args.sentences.now scope c.as_slice.result.now mentions named c.requires.objects scoped stated c.mentions-mentions.ensures;
      line =
          subst (λ (line : Option ℕ). HasLine line c.in_ok-said.said)
          (said_same (λ s statements mentioned. long_of s claims statements mentioned) c.args.kinds.now c.args.parents.now claims c.args.sentences.now scope c.as_slice.result.now mentions named c.requires.objects scoped stated c.mentions-mentions.ensures)
          c.in_ok-said.ensures.line;
    }
