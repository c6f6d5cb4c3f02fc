-- The strings that are mentioned of texts and rules are those that these and scenes say.
use Rattle.std.proofs.Common.{◌≡◌, ◌∙◌, ap, sym, refl, ℕ, List, [], ◌∷◌, ◌++◌, Option, None, Some, append_assoc}
use Rattle.std.proofs.lemmas.Grind.{flat_map-append}
use Rattle.std.proofs.lemmas.List.{append-nil}
use Rattle.std.specs.List.{flat_map}
use Rattle.std.specs.Prelude.{fold, map}
use Rattle.world_meaning.specs.declared.declared.ValueKind.{ValueKind}
use Rattle.object_words.specs.Mentions.{mention}
use Rattle.object_words.proofs.Folds.{fold_both}
use Rattle.play_meaning.specs.Meant.{parts_meant, piece_meant, pieces_meant, said_meant, text_meant}
use Rattle.play_meaning.specs.Patterns.{rule_meant}
use Rattle.play_meaning.specs.Rules.{Rule}
use Rattle.play_meaning.specs.ScenesMeant.{scene_meant}
use Rattle.play_meaning.specs.Scripts.{Scene}
use Rattle.play_meaning.specs.TranslatedScripts.{in_list}
use Rattle.play_meaning.specs.Translation.{strings_of_body, strings_of_text}
use Rattle.play_meaning.specs.Trees as tree
use Rattle.play_meaning.specs.Trees.{Condition}
use Rattle.play_meaning.specs.declared.tree.said.Piece.{Piece}
use Rattle.play_meaning.specs.declared.tree.said.Piece.TheVariants as piece
use Rattle.play_meaning.specs.declared.tree.said.Said.{Said}
use Rattle.play_meaning.specs.declared.tree.said.Said.TheVariants as said
use Rattle.play_meaning.specs.declared.tree.rule.MeantRule.{MeantRule}
use Rattle.play_meaning.specs.declared.tree.scene.MeantScene.{MeantScene}
use Rattle.play_meaning.specs.declared.tree.said.Text.{Text}
use Rattle.code_table.specs.Origins.{Asks, Describes, origins_meant, origins_of_rule, origins_of_scene, strings_of_origin}
use Rattle.story_format.specs.Making.{names_of_values, strings_said}
use Rattle.story_format.specs.Mentioning.{part_strings, piece_strings, rule_strings, text_strings}

piece_mentioned : (p : Piece) (more : tree.Text) → strings_of_text (piece_meant p more) ≡ piece_strings p ++ strings_of_text more
piece_mentioned (piece.Bytes bytes) more = refl
piece_mentioned (piece.Figure number) more = refl
piece_mentioned (piece.Name naming o) more = refl
piece_mentioned (piece.Listing naming description) more = refl
piece_mentioned (piece.DescriptionOf o) more = refl
piece_mentioned (piece.ValueName q o) more = refl

pieces_mentioned : (ps : List Piece) → strings_of_text (pieces_meant ps) ≡ flat_map piece_strings ps
pieces_mentioned [] = refl
pieces_mentioned (p ∷ ps) = piece_mentioned p (pieces_meant ps) ∙ ap (λ l. piece_strings p ++ l) (pieces_mentioned ps)

part_mentioned : (s : Said) (more : tree.Text) → strings_of_text (said_meant s more) ≡ part_strings s ++ strings_of_text more
part_mentioned (said.Plain p) more = piece_mentioned p more
part_mentioned (said.If condition pieces others) more = λ i. (pieces_mentioned pieces.items i ++ pieces_mentioned others.items i) ++ strings_of_text more

parts_mentioned : (parts : List Said) → strings_of_text (parts_meant parts) ≡ flat_map part_strings parts
parts_mentioned [] = refl
parts_mentioned (s ∷ parts) = part_mentioned s (parts_meant parts) ∙ ap (λ l. part_strings s ++ l) (parts_mentioned parts)

pub text_mentioned : (text : Text) → strings_of_text (text_meant text) ≡ text_strings text
text_mentioned text = parts_mentioned text.parts.items

texts_mentioned : (texts : List Text) → flat_map strings_of_origin (map Describes (map text_meant texts)) ≡ flat_map text_strings texts
texts_mentioned [] = refl
texts_mentioned (text ∷ texts) = λ i. text_mentioned text i ++ texts_mentioned texts i

rule_mentioned : (rule : Rule) (c : Option Condition) → rule.condition ≡ c → flat_map strings_of_origin (origins_of_rule rule) ≡ strings_of_body rule.body
rule_mentioned rule None is = rw is (append-nil (strings_of_body rule.body))
rule_mentioned rule (Some condition) is = rw is (append-nil (strings_of_body rule.body))

rules_mentioned : (rules : List MeantRule) → flat_map strings_of_origin (flat_map origins_of_rule (map rule_meant rules)) ≡ flat_map rule_strings rules
rules_mentioned [] = refl
rules_mentioned (rule ∷ rules) =
    flat_map-append strings_of_origin (origins_of_rule (rule_meant rule)) (flat_map origins_of_rule (map rule_meant rules))
    ∙ (λ i. rule_mentioned (rule_meant rule) (rule_meant rule).condition refl i ++ rules_mentioned rules i)

-- mentioned one behind the other
pub mentioned_on : (all a b c s t u v : List (List ℕ)) → s ≡ [] → t ≡ fold mention s a → u ≡ fold mention t b → v ≡ fold mention u c → all ≡ b ++ c → v ≡ fold mention [] (a ++ all)
mentioned_on all a b c s t u v none one two three is =
    three ∙ ap (λ x. fold mention x c) two ∙ sym (fold_both mention t b c) ∙ ap (fold mention t) (sym is) ∙ ap (λ x. fold mention x all) (one ∙ ap (λ x. fold mention x a) none) ∙ sym (fold_both mention [] a all)

-- and then the names of values
pub names_on : (named texts : List (List ℕ)) (values lent : List ValueKind) (u v : List (List ℕ)) → u ≡ fold mention [] (named ++ texts) → lent ≡ values → v ≡ fold mention u (names_of_values lent) → v ≡ fold mention [] (named ++ (texts ++ names_of_values values))
names_on named texts values lent u v one same two =
    let names = names_of_values values in
    two ∙ (λ i. fold mention (one i) (names_of_values (same i))) ∙ sym (fold_both mention [] (named ++ texts) names) ∙ ap (fold mention []) (append_assoc named texts names)

-- scenes say none
asked_silent : (conditions : List Condition) → flat_map strings_of_origin (map Asks conditions) ≡ []
asked_silent [] = refl
asked_silent (condition ∷ conditions) = asked_silent conditions

scenes_silent : (scenes : List Scene) → flat_map strings_of_origin (flat_map origins_of_scene scenes) ≡ []
scenes_silent [] = refl
scenes_silent (scene ∷ scenes) =
    flat_map-append strings_of_origin (origins_of_scene scene) (flat_map origins_of_scene scenes) ∙ (λ i. asked_silent (in_list scene.begins ++ in_list scene.ends) i ++ scenes_silent scenes i)

pub all_mentioned : (texts : List Text) (rules : List MeantRule) (scenes : List MeantScene) → strings_said (origins_meant texts rules scenes) ≡ flat_map text_strings texts ++ flat_map rule_strings rules
all_mentioned texts rules scenes =
    let asked = flat_map origins_of_scene (map scene_meant scenes) in
    let told = flat_map origins_of_rule (map rule_meant rules) in
    flat_map-append strings_of_origin (map Describes (map text_meant texts)) (told ++ asked)
    ∙ (λ i. texts_mentioned texts i ++ (flat_map-append strings_of_origin told asked ∙ (λ j. rules_mentioned rules j ++ scenes_silent (map scene_meant scenes) j) ∙ append-nil (flat_map rule_strings rules)) i)
