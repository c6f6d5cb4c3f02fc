use Rattle.std.proofs.Common.{◌≡◌, IfOk, option_map, sym, refl, subst}
use Rattle.play_meaning.specs.Composed.{repeat_meant}
use Rattle.play_meaning.specs.Meant.{body_meant}
use Rattle.play_meaning.specs.Trees as tree
use Rattle.play_meaning.specs.declared.tree.phrase.Phrase.TheVariants as phrase
use Rattle.i7_conditions.specs.Levels.{level_of, with_inner, with_phrase}
use Rattle.i7_conditions.specs.declared.line.Step.{Step}
use Rattle.i7_conditions.proofs.nesting.with_inner.Goals as goal

pub returns-in-Repeat : goal.returns-in-Repeat
returns-in-Repeat c =
    let found : tree.Phrase → Type 0 = λ p. IfOk c.with_phrase.result (λ found. option_map level_of found ≡ with_phrase p (level_of c.args.level)) in
    subst (λ (s : Step). IfOk c.with_phrase.result (λ found. option_map level_of found ≡ with_inner s (body_meant c.args.inner.items) (level_of c.args.level))) (sym c.in-Repeat.is)
    (subst found (sym (repeat_meant (phrase.Repeat c.in-Repeat.description c.args.inner) c.in-Repeat.description c.args.inner c.args.inner.items refl refl)) c.with_phrase.ensures)
