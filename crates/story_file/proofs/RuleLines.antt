-- The rules of a source stand at the lines of their sentences.
use Rattle.std.proofs.Common.{◌≡◌, ◌∙◌, ap, refl, sym, ℕ, Bool, true, false, List, [], ◌∷◌, ◌++◌, map, if◌then◌else◌}
use Rattle.std.specs.Prelude.{filter, reverse}
use Rattle.std.specs.List.{AllZip}
use Rattle.std.proofs.lemmas.Grind.{reverse_onto}
use Rattle.std.proofs.lemmas.List.{map-append, reverse-reverse}
use Rattle.world_meaning.specs.declared.tale.Tale.{Tale}
use Rattle.i7_rules.specs.Knowns.{Known}
use Rattle.i7_rules.specs.RuleList.{RuleAt, rules_asserted, rules_in, rules_said}
use Rattle.i7_rules.specs.SourceRules.{IsTold}
use Rattle.i7_rules.specs.declared.source_rules.SourceRule.{SourceRule}
use Rattle.i7_sentences.specs.declared.sentence.Assertion.{Assertion}
use Rattle.i7_sentences.specs.declared.sentence.Assertion.TheVariants as asserts
use Rattle.i7_sentences.specs.declared.sentence.Sentence.{Sentence}
use Rattle.story_format.specs.Contents.{Contents}
use Rattle.story_file.specs.Lines.{is_rule, rule_lines}
use Rattle.story_file.specs.Meanings.{AreMeant, known_said}
use Rattle.story_file.proofs.RulesOf.{told_all}

abbrev lines_at : List RuleAt → List ℕ
lines_at rules = map (λ rule. rule.line) rules

abbrev lines_told : List SourceRule → List ℕ
lines_told rules = map (λ rule. rule.line) rules

told_there : (k : Known) (rules : List RuleAt) (told : List SourceRule) → AllZip (IsTold k) rules told → lines_told told ≡ lines_at rules
told_there k [] [] told = refl
told_there k [] (one ∷ more) told = absurd told
told_there k (rule ∷ rules) [] told = absurd told
told_there k (rule ∷ rules) (one ∷ more) told = λ i. told.0.line i ∷ told_there k rules more told.1 i

map_back : {A B : Type 0} (f : A → B) (xs : List A) → map f (reverse xs) ≡ reverse (map f xs)
map_back f [] = refl
map_back f (x ∷ xs) =
    ap (map f) (reverse_onto xs x []) ∙ map-append f (reverse xs) (x ∷ []) ∙ ap (λ l. l ++ f x ∷ []) (map_back f xs) ∙ sym (reverse_onto (map f xs) (f x) [])

-- ---- the rules that sentences say

asserted_at : (line : ℕ) (said : Assertion) → lines_at (rules_asserted line said) ≡ (if is_rule said then line ∷ [] else [])
asserted_at line (asserts.Rule rule) = refl
asserted_at line _ = refl

-- with those of a sentence in front, by whether it says one
one_more : (sentence : Sentence) (sentences : List Sentence) (b : Bool) → lines_at (rules_in sentences) ≡ rule_lines sentences → (if b then sentence.line ∷ [] else []) ++ lines_at (rules_in sentences)
    ≡ map (λ (one : Sentence). one.line) (if b then sentence ∷ filter (λ (one : Sentence). is_rule one.said) sentences else filter (λ (one : Sentence). is_rule one.said) sentences)
one_more sentence sentences true rest = ap (λ l. sentence.line ∷ l) rest
one_more sentence sentences false rest = rest

said_at : (sentences : List Sentence) → lines_at (rules_in sentences) ≡ rule_lines sentences
said_at [] = refl
said_at (sentence ∷ sentences) =
    map-append (λ (rule : RuleAt). rule.line) (rules_said sentence) (rules_in sentences) ∙ ap (λ l. l ++ lines_at (rules_in sentences)) (asserted_at sentence.line sentence.said)
    ∙ one_more sentence sentences (is_rule sentence.said) (said_at sentences)

pub rules_at : (sentences : List Sentence) (tale : Tale) (said : Contents) (meant : AreMeant sentences tale said) → map (λ rule. rule.line) meant.resolved.rules.items ≡ rule_lines sentences
rules_at sentences tale said meant =
    let told = meant.resolved.rules.items in
    let all = told_all (known_said sentences tale) tale.declared.scenes sentences meant.resolved meant.resolved_is in
    let back = told_there (known_said sentences tale) (reverse (rules_in sentences)) (reverse told) all.each in
    sym (reverse-reverse (lines_told told)) ∙ ap reverse (sym (map_back (λ (rule : SourceRule). rule.line) told) ∙ back ∙ map_back (λ (rule : RuleAt). rule.line) (rules_in sentences))
    ∙ reverse-reverse (lines_at (rules_in sentences)) ∙ said_at sentences
