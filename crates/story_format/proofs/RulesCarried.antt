-- A tale's rules are about what their entries say, their codes answer their conditions and do their bodies, and those of its scenes
-- answer when they begin and end.
use Rattle.std.proofs.Common.{◌≡◌, ◌∙◌, ap, subst, sym, refl, ℕ, suc, ◌+◌, ◌<◌, ◌≤◌, Bool, true, false, eqb, List, [], ◌∷◌, ◌++◌, length, Option, Some, None, append_assoc, length-append, arith}
use Rattle.std.specs.Prelude.{map, min, slice_get}
use Rattle.std.specs.List.{AllByRecursion, AllZip, list_all}
use Rattle.std.specs.Option.{option_map}
use Rattle.std.proofs.lemmas.Bool.{ne_eqb, and_parts}
use Rattle.play_meaning.specs.Codes.{Codes, RunsTo, test_of}
use Rattle.play_meaning.specs.Doing.{Inner, do_body}
use Rattle.play_meaning.specs.Progress.{Progress}
use Rattle.play_meaning.specs.Rules.{Listed, Rule}
use Rattle.play_meaning.specs.Saying.{Telling}
use Rattle.play_meaning.specs.Scripts.{Scene, scope_of}
use Rattle.play_meaning.specs.StandardRules.{standard_rules}
use Rattle.play_meaning.specs.TranslatedScripts.{in_list}
use Rattle.play_meaning.specs.Trees.{Body, Condition}
use Rattle.play_meaning.specs.Truth.{truth_in}
use Rattle.play_meaning.specs.Worlds.{World}
use Rattle.play_meaning.specs.declared.action.ActionNow.{ActionNow}
use Rattle.play_meaning.specs.declared.operand.Counts.{Counts}
use Rattle.code_table.specs.Emitted.{AllFit, codes_of_origins}
use Rattle.code_table.specs.Origins.{Asks, Does, Origin, origins_of_rule, origins_of_scene, strings_of_origin}
use Rattle.code_table.proofs.Said.{body_done, condition_answered}
use Rattle.story_format.specs.Carrying.{CarriesRule, CarriesScene, IsAnsweredBy, IsDoneBy, code_if_some, standard_body}
use Rattle.story_format.specs.Facts.{text_at}
use Rattle.story_format.specs.Holding.{Named, is_of}
use Rattle.story_format.specs.RuleMaking.{condition_count, condition_number, mark_if, rule_count, rule_entries, rule_entry, scene_count, scene_entries, scene_entry, standard_entries, standard_from}
use Rattle.story_format.specs.declared.rule_entry.RuleBody.TheVariants.{Code, Standard}
use Rattle.story_format.specs.declared.rule_entry.RuleEntry.{RuleEntry}
use Rattle.story_format.proofs.AboutRules.{IsSmall, entry_about}
use Rattle.story_format.proofs.RuleLemmas.{counted, counted_more, origins_in}
use Rattle.story_format.proofs.SceneLemmas.{asked_count, asked_parts, origins_in_scenes, scene_asked, scenes_counted}
use Rattle.story_format.proofs.StandardRuleRows.{all_bare, bare_is, each_of, is_bare}
use Rattle.story_format.proofs.StoryLemmas.{behind_there}

-- ---- places in lists

-- a rule's condition, if there is one, stands first, and then its body
condition_first : (rule : Rule) (more : List Origin) (condition : Condition) → rule.condition ≡ Some condition → slice_get (origins_of_rule rule ++ more) 0 ≡ Some (Asks condition)
condition_first rule more condition is = rw is refl

body_behind : (rule : Rule) (more : List Origin) (c : Option Condition) → rule.condition ≡ c → slice_get (origins_of_rule rule ++ more) (condition_count c) ≡ Some (Does rule.body)
body_behind rule more None is = rw is refl
body_behind rule more (Some condition) is = rw is refl

-- ---- one rule

answered_so : (c : Codes) (next : ℕ) (asked : Option Condition) → next + condition_count asked ≤ 65535
    → ((condition : Condition) → asked ≡ Some condition → (t : Telling) (now : ActionNow) (w : World) → test_of c t now next [] w ≡ truth_in t.setting (scope_of now) w condition)
    → IsAnsweredBy c (code_if_some (condition_number next asked)) asked
answered_so c next None lt f = tt
answered_so c next (Some condition) lt f =
    let first : min next 65535 ≡ next = omega (arith, lt) in
    let told : eqb next 65535 ≡ false = ne_eqb _ _ (λ k. omega (arith, k, lt)) in
    rw (first, told) (f condition refl)

done_so : (c : Codes) (n : ℕ) (body : Body) → n < 65535 → ((t : Telling) (inner : Inner) (now : ActionNow) (p : Progress) → RunsTo c t inner n now p (do_body t inner body (scope_of now) p)) → IsDoneBy c (Code (min n 65535)) body
done_so c n body lt f = let own : min n 65535 ≡ n = omega (arith, lt) in rw own f

-- ---- the rules that every story has

standard_there : (front : List Rule) (rule : Rule) (rules : List Rule) → standard_rules ≡ front ++ rule ∷ rules → standard_body (suc (length front)) ≡ Some rule.body
standard_there front rule rules parts =
    let place : length front ≡ length front + 0 = omega arith in
    ap (option_map (λ (r : Rule). r.body)) (ap (λ all. slice_get all (length front)) parts ∙ ap (slice_get (front ++ rule ∷ rules)) place ∙ behind_there front (rule ∷ rules) 0 rule refl)

standard_carried : (c : Codes) (z : Named) (front rules : List Rule) (number : ℕ) → standard_rules ≡ front ++ rules → number ≡ suc (length front) → IsSmall z → list_all (is_of z) rules ≡ true → list_all is_bare rules ≡ true
    → AllZip (CarriesRule c) (standard_from number rules) rules
standard_carried c z front [] number parts is small named bare = tt
standard_carried c z front (rule ∷ rules) number parts is small named bare =
    let t = and_parts (is_of z rule) (list_all (is_of z) rules) named in
    let u = and_parts (is_bare rule) (list_all is_bare rules) bare in
    let none : rule.condition ≡ None = (bare_is rule u.0).condition in
    let later : number + 1 ≡ suc (length (front ++ rule ∷ [])) = omega (arith, is, length-append front (rule ∷ [])) in (
      record {
        book = refl;
        about = entry_about z rule 65535 (Standard number) small t.0;
        condition = subst (IsAnsweredBy c None) (sym none) tt;
        body = ap standard_body is ∙ standard_there front rule rules parts;
      },
      standard_carried c z (front ++ rule ∷ []) rules (number + 1) (parts ∙ sym (append_assoc front (rule ∷ []) rules)) later small t.1 u.1,
    )

pub all_standard_carried : (c : Codes) (z : Named) → IsSmall z → 8 ≤ z.books → 16 ≤ z.actions → AllZip (CarriesRule c) standard_entries standard_rules
unfolding standard_entries
all_standard_carried c z small books actions = standard_carried c z [] standard_rules 1 refl refl small (each_of z standard_rules books actions all_bare) all_bare

-- ---- wherever a rule is listed

pub carried_so : (c : Codes) (r : RuleEntry) (rule : Rule) (l : Listed) → CarriesRule c r rule → CarriesRule c r (record rule { listed = l })
carried_so c r rule l h = record {
  book = h.book;
  about = record { action = h.about.action; noun = h.about.noun; second = h.about.second; place = h.about.place; scene = h.about.scene };
  condition = h.condition;
  body = h.body;
}

-- ---- all of them

module _ (z : Counts) (c : Codes) (string : List ℕ → ℕ) (origins : List Origin) (fit : AllFit z string origins) (codes : c.codes ≡ codes_of_origins string origins)
    (strings : (n : ℕ) (origin : Origin) → slice_get origins n ≡ Some origin → AllByRecursion (λ bytes. text_at c.strings (string bytes) ≡ bytes) (strings_of_origin origin))
    (named : Named) (small : IsSmall named) where
  one_carried : (front : List Origin) (rule : Rule) (more : List Origin) → is_of named rule ≡ true → origins ≡ front ++ (origins_of_rule rule ++ more) → length front + condition_count rule.condition < 65535 → CarriesRule c (rule_entry (length front) rule) rule
  one_carried front rule more is parts lt = record {
    book = refl;
    about = entry_about named rule (condition_number (length front) rule.condition) (Code (min (length front + condition_count rule.condition) 65535)) small is;
    condition = answered_so c (length front) rule.condition (omega (arith, lt)) (λ condition asked t now w. condition_answered string z c origins (length front) condition t now w fit codes (first condition asked));
    body =
        let n = length front + condition_count rule.condition in
        done_so c n rule.body lt (λ t inner now p. body_done string z c origins n rule.body t inner now p fit codes own (strings n (Does rule.body) own));
  }
    where
      own : slice_get origins (length front + condition_count rule.condition) ≡ Some (Does rule.body)
      own = ap (λ os. slice_get os (length front + condition_count rule.condition)) parts ∙ behind_there front (origins_of_rule rule ++ more) (condition_count rule.condition) (Does rule.body) (body_behind rule more rule.condition refl)

      first : (condition : Condition) → rule.condition ≡ Some condition → slice_get origins (length front) ≡ Some (Asks condition)
      first condition is =
          let place : length front ≡ length front + 0 = omega arith in
          ap (λ os. slice_get os (length front)) parts ∙ ap (slice_get (front ++ (origins_of_rule rule ++ more))) place
          ∙ behind_there front (origins_of_rule rule ++ more) 0 (Asks condition) (condition_first rule more condition is)

  pub rules_carried : (rules : List Rule) (front back : List Origin) (next : ℕ) → list_all (is_of named) rules ≡ true → next ≡ length front → origins ≡ front ++ (origins_in rules ++ back) → next + length (origins_in rules) ≤ 65535 → AllZip (CarriesRule c) (rule_entries next rules) rules
  unfolding rule_entries
  rules_carried [] front back next all is parts le = tt
  rules_carried (rule ∷ rules) front back next all is parts le =
      let named_here = and_parts (is_of named rule) (list_all (is_of named) rules) all in
      let more = counted_more rule rules in
      let later : next + rule_count rule ≡ length (front ++ origins_of_rule rule) = omega (arith, is, length-append front (origins_of_rule rule), counted rule) in
      let whole : origins ≡ front ++ (origins_of_rule rule ++ (origins_in rules ++ back)) = parts ∙ ap (λ os. front ++ os) (append_assoc (origins_of_rule rule) (origins_in rules) back) in
      let here = one_carried front rule (origins_in rules ++ back) named_here.0 whole (omega (arith, is, le, more)) in (
        ap_rule here,
        rules_carried rules (front ++ origins_of_rule rule) back (next + rule_count rule) named_here.1 later (whole ∙ sym (append_assoc front (origins_of_rule rule) (origins_in rules ++ back))) (omega (arith, le, more)),
      )
    where
      ap_rule : CarriesRule c (rule_entry (length front) rule) rule → CarriesRule c (rule_entry next rule) rule
      ap_rule h = rw is h

-- ---- scenes

module _ (z : Counts) (c : Codes) (string : List ℕ → ℕ) (origins : List Origin) (fit : AllFit z string origins) (codes : c.codes ≡ codes_of_origins string origins) where
  asked_first : (asked : Option Condition) (more : List Origin) (condition : Condition) → asked ≡ Some condition → slice_get (map Asks (in_list asked) ++ more) 0 ≡ Some (Asks condition)
  asked_first asked more condition is = rw is refl

  -- the code behind those in front answers a condition, if there is one
  asked_so : (front : List Origin) (asked : Option Condition) (more : List Origin) (n : ℕ) → n ≡ length front → origins ≡ front ++ (map Asks (in_list asked) ++ more) → n + condition_count asked ≤ 65535
      → IsAnsweredBy c (code_if_some (condition_number n asked)) asked
  asked_so front asked more n is parts le =
      answered_so c n asked le (λ condition told t now w. condition_answered string z c origins n condition t now w fit codes (there condition told))
    where
      there : (condition : Condition) → asked ≡ Some condition → slice_get origins n ≡ Some (Asks condition)
      there condition told =
          let place : n ≡ length front + 0 = omega (arith, is) in
          ap (λ os. slice_get os n) parts ∙ ap (slice_get (front ++ (map Asks (in_list asked) ++ more))) place
          ∙ behind_there front (map Asks (in_list asked) ++ more) 0 (Asks condition) (asked_first asked more condition told)

  mark_told : (recurs : Bool) → eqb (mark_if 1 recurs) 1 ≡ recurs
  mark_told true = refl
  mark_told false = refl

  one_scene : (front : List Origin) (scene : Scene) (more : List Origin) (n : ℕ) → n ≡ length front → origins ≡ front ++ (origins_of_scene scene ++ more) → n + scene_count scene ≤ 65535
      → CarriesScene c (scene_entry n scene) scene
  one_scene front scene more n is parts le =
      let first = map Asks (in_list scene.begins) in
      let second = map Asks (in_list scene.ends) in
      let whole : origins ≡ front ++ (first ++ (second ++ more)) = parts ∙ ap (λ os. front ++ os) (ap (λ os. os ++ more) (asked_parts scene) ∙ append_assoc first second more) in
      let behind : origins ≡ (front ++ first) ++ (second ++ more) = whole ∙ sym (append_assoc front first (second ++ more)) in
      let later : n + condition_count scene.begins ≡ length (front ++ first) = omega (arith, is, length-append front first, asked_count scene.begins) in
      record {
        recurs = mark_told scene.recurs;
        begins = asked_so front scene.begins (second ++ more) n is whole (omega (arith, le));
        ends = asked_so (front ++ first) scene.ends more (n + condition_count scene.begins) later behind (omega (arith, le));
      }

  pub scenes_carried : (scenes : List Scene) (front : List Origin) (next : ℕ) → next ≡ length front → origins ≡ front ++ origins_in_scenes scenes → next + length (origins_in_scenes scenes) ≤ 65535
      → AllZip (CarriesScene c) (scene_entries next scenes) scenes
  unfolding scene_entries
  scenes_carried [] front next is parts le = tt
  scenes_carried (scene ∷ scenes) front next is parts le =
      let more = scenes_counted scene scenes in
      let later : next + scene_count scene ≡ length (front ++ origins_of_scene scene) = omega (arith, is, length-append front (origins_of_scene scene), scene_asked scene) in (
        one_scene front scene (origins_in_scenes scenes) next is parts (omega (arith, le, more)),
        scenes_carried scenes (front ++ origins_of_scene scene) (next + scene_count scene) later (parts ∙ sym (append_assoc front (origins_of_scene scene) (origins_in_scenes scenes))) (omega (arith, le, more)),
      )
