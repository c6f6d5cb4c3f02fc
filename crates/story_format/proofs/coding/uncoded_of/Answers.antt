use Rattle.std.proofs.Common.{arith}
use Rattle.std.proofs.lemmas.List.{length-map}
use Rattle.play_meaning.specs.Patterns.{rule_meant}
use Rattle.play_meaning.specs.ScenesMeant.{scene_meant}
use Rattle.story_format.specs.Contents.{contents_meant}
use Rattle.story_format.specs.Making.{worded}
use Rattle.story_format.proofs.DeclaredLemmas.{declared_parts, few_kinds}
use Rattle.story_format.proofs.OrderLemmas.{codes_few}
use Rattle.story_format.proofs.Stories.{as_many_scenes, few_objects}
use Rattle.story_format.proofs.coding.uncoded_of.Goals as goal

pub uncoded-requires-clause-few : goal.uncoded-requires-clause-few
uncoded-requires-clause-few c = omega (arith, codes_few (worded c.args.contents.now.synonyms.items c.args.tale.now.objects), few_objects c.args.contents.now.synonyms.items c.args.tale.now c.requires.held)

pub uncoded-requires-clause-few_kinds : goal.uncoded-requires-clause-few_kinds
uncoded-requires-clause-few_kinds c =
    let d = c.args.tale.now.declared in
    omega (arith, few_kinds d.kinds (declared_parts d c.requires.held.made.declared).kinds)

pub uncoded-requires-clause-few_scenes : goal.uncoded-requires-clause-few_scenes
uncoded-requires-clause-few_scenes c = (declared_parts c.args.tale.now.declared c.requires.held.made.declared).scenes

pub uncoded-requires-clause-few_books : goal.uncoded-requires-clause-few_books
uncoded-requires-clause-few_books c = (declared_parts c.args.tale.now.declared c.requires.held.made.declared).rulebooks

pub uncoded-requires-clause-few_told : goal.uncoded-requires-clause-few_told
uncoded-requires-clause-few_told c =
    let said = c.args.contents.now in
    omega (arith, (declared_parts c.args.tale.now.declared c.requires.held.made.declared).scenes, as_many_scenes c.args.tale.now (contents_meant said) c.requires.are_of, length-map said.scenes.items scene_meant)

pub uncoded-requires-clause-few_rules : goal.uncoded-requires-clause-few_rules
uncoded-requires-clause-few_rules c = let said = c.args.contents.now in omega (arith, c.requires.are_of.few, length-map said.rules.items rule_meant)
