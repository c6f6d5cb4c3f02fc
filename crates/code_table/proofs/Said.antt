-- The code of an origin's number does what the origin means.
use Rattle.std.proofs.Common.{◌≡◌, ◌∙◌, ap, sym, ℕ, zero, suc, ◌+◌, ◌<◌, List, [], ◌∷◌, ◌++◌, length, append_assoc, Some, arith, length-append}
use Rattle.std.specs.List.{AllByRecursion, flat_map}
use Rattle.std.specs.Prelude.{map, slice_get, slice_index_or}
use Rattle.std.proofs.lemmas.List.{get_or_append_left}
use Rattle.play_meaning.specs.Codes.{Codes, RunsTo, code_of, description_said, test_of}
use Rattle.play_meaning.specs.Doing.{Inner, do_body}
use Rattle.play_meaning.specs.Progress.{Progress}
use Rattle.play_meaning.specs.Saying.{Telling, said_in}
use Rattle.play_meaning.specs.Scripts.{scope_of}
use Rattle.play_meaning.specs.Translation.{strings_of_body, strings_of_text}
use Rattle.play_meaning.specs.Trees.{Body, Condition, Text}
use Rattle.play_meaning.specs.Truth.{truth_in}
use Rattle.play_meaning.specs.Worlds.{World}
use Rattle.play_meaning.specs.declared.action.ActionNow.{ActionNow}
use Rattle.play_meaning.specs.declared.instruction.Instruction.{Instruction}
use Rattle.play_meaning.specs.declared.operand.Counts.{Counts}
use Rattle.play_meaning.proofs.Translated.{body_among, test_among}
use Rattle.story_code.specs.SoundlyEmitted.{AreNumbered, among}
use Rattle.story_code.proofs.SaidTexts.{texts_said}
use Rattle.code_table.specs.Emitted.{AllFit, codes_of_origins, origins_emitted, origins_from}
use Rattle.code_table.specs.Origins.{Asks, Describes, Does, Origin, part_of}
use Rattle.code_table.proofs.Coded.{codes_long}
use Rattle.code_table.proofs.Lists.{all_at}
use Rattle.code_table.proofs.Within.{body_within, condition_within}

module _ (string : List ℕ → ℕ) where
  -- where an origin's code and its tests stand among those of others, the first test of all having this number
  record IsAt (first : ℕ) (origins : List Origin) (n : ℕ) (origin : Origin) : Type 0 where
    pub number : ℕ
    pub front : List (List Instruction)
    pub back : List (List Instruction)
    pub code : slice_index_or (map (λ e. e.code) (origins_from string first origins)) n [] ≡ (part_of string origin number 0).code
    pub tests : flat_map (λ e. e.tests) (origins_from string first origins) ≡ front ++ ((part_of string origin number 0).tests ++ back)
    pub place : number ≡ first + length front
    pub there : n < length origins

  is_at : (first : ℕ) (origins : List Origin) (n : ℕ) (origin : Origin) → slice_get origins n ≡ Some origin → IsAt first origins n origin
  is_at first [] n origin at = absurd cc
  is_at first (one ∷ origins) zero origin at =
      let same : one ≡ origin = cc in
      let e = part_of string one first 0 in
      record {
        number = first;
        front = [];
        back = flat_map (λ e. e.tests) (origins_from string (first + length e.tests) origins);
        code = ap (λ t. (part_of string t first 0).code) same;
        tests = ap (λ t. (part_of string t first 0).tests ++ flat_map (λ e. e.tests) (origins_from string (first + length e.tests) origins)) same;
        place = omega arith;
        there = omega arith;
      }
  is_at first (one ∷ origins) (suc n) origin at =
      let e = part_of string one first 0 in
      let later = is_at (first + length e.tests) origins n origin at in
      record {
        number = later.number;
        front = e.tests ++ later.front;
        back = later.back;
        code = later.code;
        tests = ap (λ l. e.tests ++ l) later.tests ∙ sym (append_assoc e.tests later.front ((part_of string origin later.number 0).tests ++ later.back));
        place = omega (arith, later.place, length-append e.tests later.front);
        there = omega (arith, later.there);
      }

  -- where they stand among a story's codes
  record StandsAmong (c : Codes) (n : ℕ) (origin : Origin) : Type 0 where
    pub number : ℕ
    pub code : code_of c n ≡ (part_of string origin number 0).code
    pub front : List (List Instruction)
    pub back : List (List Instruction)
    pub tests : c.codes ≡ front ++ ((part_of string origin number 0).tests ++ back)
    pub place : length front ≡ number
    pub behind : n < number

  stands_among : (c : Codes) (origins : List Origin) (n : ℕ) (origin : Origin) → c.codes ≡ codes_of_origins string origins → slice_get origins n ≡ Some origin → StandsAmong c n origin
  stands_among c origins n origin codes at =
      let is = is_at (length origins) origins n origin at in
      let es = origins_emitted string origins in
      let own = map (λ e. e.code) es in
      let long = codes_long string (length origins) origins in
      record {
        number = is.number;
        code = ap (λ l. slice_index_or l n []) codes ∙ get_or_append_left own (flat_map (λ e. e.tests) es) [] n (omega (arith, long, is.there)) ∙ is.code;
        front = own ++ is.front;
        back = is.back;
        tests = codes ∙ ap (λ l. own ++ l) is.tests ∙ sym (append_assoc own is.front ((part_of string origin is.number 0).tests ++ is.back));
        place = omega (arith, length-append own is.front, long, is.place);
        behind = omega (arith, is.place, is.there);
      }

  module _ (z : Counts) (c : Codes) (origins : List Origin) (n : ℕ) where
    pub text_said : (text : Text) (t : Telling) (now : ActionNow) (w : World) → AllFit z string origins → c.codes ≡ codes_of_origins string origins → slice_get origins n ≡ Some (Describes text)
        → AllByRecursion (λ bytes. slice_index_or c.strings (string bytes) [] ≡ bytes) (strings_of_text text) → description_said c t n now w ≡ said_in t (scope_of now) w text
    text_said text t now w fit codes at strings =
        let is = stands_among c origins n (Describes text) codes at in
        let tests = (part_of string (Describes text) is.number 0).tests in
        let numbers : AreNumbered (among z 0 (length c.codes)) is.number tests = record {
          behind = omega (arith, is.behind);
          there = omega (arith, ap length is.tests, length-append is.front (tests ++ is.back), length-append tests is.back, is.place);
        } in
        texts_said (among z 0 (length c.codes)) c string n is.number text t now w (all_at _ origins n (Describes text) fit at 0 (length c.codes)) numbers
        (record { code = is.code; front = is.front; back = is.back; tests = is.tests; place = is.place; strings = strings })

    pub condition_answered : (condition : Condition) (t : Telling) (now : ActionNow) (w : World) → AllFit z string origins → c.codes ≡ codes_of_origins string origins → slice_get origins n ≡ Some (Asks condition)
        → test_of c t now n [] w ≡ truth_in t.setting (scope_of now) w condition
    condition_answered condition t now w fit codes at =
        let is = stands_among c origins n (Asks condition) codes at in
        test_among condition c n is.number t now w (condition_within (among z 0 0) string 0 condition (all_at _ origins n (Asks condition) fit at 0 0))
        (record { code = is.code; front = is.front; back = is.back; tests = is.tests; place = is.place; behind = is.behind })

    pub body_done : (body : Body) (t : Telling) (inner : Inner) (now : ActionNow) (p : Progress) → AllFit z string origins → c.codes ≡ codes_of_origins string origins → slice_get origins n ≡ Some (Does body)
        → AllByRecursion (λ bytes. slice_index_or c.strings (string bytes) [] ≡ bytes) (strings_of_body body) → RunsTo c t inner n now p (do_body t inner body (scope_of now) p)
    body_done body t inner now p fit codes at strings =
        let is = stands_among c origins n (Does body) codes at in
        body_among body c string n is.number t inner now p (body_within (among z 0 0) string 0 body (all_at _ origins n (Does body) fit at 0 0))
        (record { code = is.code; front = is.front; back = is.back; tests = is.tests; place = is.place; strings = strings })
