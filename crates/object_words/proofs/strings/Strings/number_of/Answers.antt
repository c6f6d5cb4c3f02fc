use Rattle.std.proofs.Common.{◌≡◌, refl, Some, None}
use Rattle.object_words.specs.Mentions.{number_in, number_or_none}
use Rattle.object_words.proofs.StringLemmas.{numbered, items_of}
use Rattle.object_words.proofs.strings.Strings.number_of.Goals as goal

pub returns-in-Some : goal.returns-in-Some
returns-in-Some c =
    let h : number_in (items_of c.self.inside.set.keys) c.args.string.now ≡ number_or_none (Some c.in-Some.place) = numbered (Some c.in-Some.place) c.self.inside.set.keys c.args.string.now c.in-Some.ensures.index in
    rw (← c.self.view_is, h) c.min.ensures

pub returns-in-None : goal.returns-in-None
returns-in-None c =
    let h : number_in (items_of c.self.inside.set.keys) c.args.string.now ≡ number_or_none None = numbered None c.self.inside.set.keys c.args.string.now c.in-None.ensures.index in
    rw (← c.self.view_is, h) refl
