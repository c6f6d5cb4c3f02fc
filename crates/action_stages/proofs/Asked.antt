-- What is read off a story's tables, as its game has it.
use Rattle.std.proofs.Common.{◌≡◌, ◌∙◌, ap, sym, refl, subst, ℕ, zero, suc, ◌≤◌, Bool, false, List, [], ◌∷◌, length, map, Option, Some, None}
use Rattle.std.specs.Prelude.{Result, Ok, ◌&&◌, if◌then◌else◌, option_map, slice_get, slice_index_or}
use Rattle.std.specs.List.{list_all}
use Rattle.std.proofs.lemmas.Option.{slice_get-map, slice_get_past}
use Rattle.play_meaning.specs.Attempts.{Attempt}
use Rattle.play_meaning.specs.CodedStories.{Coded, RuleBody as Does, coded_condition, coded_is_about, game_of_codes}
use Rattle.play_meaning.specs.Consulting.{applies}
use Rattle.play_meaning.specs.Worlds.{World}
use Rattle.play_meaning.specs.declared.action.ActionNow.{ActionNow}
use Rattle.story_code.specs.Runs.{AreSoundTogether, IsBody, IsDescription, IsTestAt, code_told}
use Rattle.story_code.specs.Soundness.{Judged}
use Rattle.story_format.specs.Codes.{AreCodesOf, code_spelled, codes_told}
use Rattle.story_format.specs.Facts.{body_in as body_read, body_of_rule, code_in_body, condition_in as condition_read, condition_of_rule, description_code_of, rules_in}
use Rattle.story_format.specs.declared.rule_entry.RuleBody.{RuleBody}
use Rattle.story_format.specs.declared.rule_entry.RuleBody.TheVariants as bodies
use Rattle.story_format.specs.declared.rule_entry.RuleEntry.{RuleEntry}
use Rattle.story_format.specs.declared.rule_tables.Book.{Book}
use Rattle.story_format.specs.declared.tables.Tables.{Tables}
use Rattle.world_store.specs.StorySettings.{setting_of}
use Rattle.world_meaning.specs.declared.session.Abandon.{Abandon}
use Rattle.story_format.specs.Carrying.{code_if_some}
use Rattle.action_stages.specs.Answering.{Answers}
use Rattle.action_stages.specs.Applying.{rule_applies}
use Rattle.action_stages.specs.Bodies.{AreCodesIn, body_in, condition_in}
use Rattle.world_store.specs.StoryPlay.{body_told, coded_story, rule_told}

pub all_mapped : {A B : Type 0} (p : B → Bool) (f : A → B) (xs : List A) → list_all p (map f xs) ≡ list_all (λ x. p (f x)) xs
all_mapped p f [] = refl
all_mapped p f (x ∷ xs) = ap (λ all. p (f x) && all) (all_mapped p f xs)

pub books_listed : (books : List Book) (n : ℕ) → slice_index_or (map (λ book. book.rules) books) n [] ≡ rules_in (slice_get books n)
books_listed [] n = refl
books_listed (book ∷ books) zero = refl
books_listed (book ∷ books) (suc n) = books_listed books n

pub past_none : (xs : List ℕ) (i : ℕ) → length xs ≤ i → slice_get xs i ≡ None
past_none = slice_get_past

pub ruleset asked_rules = (all_mapped, books_listed, past_none)

-- ---- rules

pub rule_there : (t : Tables) (n : ℕ) → slice_get (map rule_told t.rules.rules) n ≡ option_map rule_told (slice_get t.rules.rules n)
rule_there t n = slice_get-map rule_told t.rules.rules n

-- whether a rule applies, by its entry
abbrev pub entry_applies : Tables → ActionNow → World → Option RuleEntry → Attempt Bool
entry_applies t now w None = Ok false
entry_applies t now w (Some entry) = rule_applies t (rule_told entry) now w

pub applies_is : (t : Tables) (rule : ℕ) (now : ActionNow) (w : World) → applies (game_of_codes (coded_story t)) rule now w ≡ entry_applies t now w (slice_get t.rules.rules rule)
unfolding applies game_of_codes coded_story
applies_is t rule now w = by (slice_get t.rules.rules rule) (rule_there t rule)
  where
    by : (entry : Option RuleEntry) → slice_get (map rule_told t.rules.rules) rule ≡ option_map rule_told entry
        → (if coded_is_about (setting_of t) now w (slice_get (map rule_told t.rules.rules) rule) then coded_condition (codes_told t) (setting_of t) now w (slice_get (map rule_told
        t.rules.rules) rule) else Ok false)
        ≡ entry_applies t now w entry
    by None is = ap (λ r. if coded_is_about (setting_of t) now w r then coded_condition (codes_told t) (setting_of t) now w r else Ok false) is
    by (Some entry) is = ap (λ r. if coded_is_about (setting_of t) now w r then coded_condition (codes_told t) (setting_of t) now w r else Ok false) is

-- ---- codes

mapped_twice : (judged : List Judged) → map code_told judged ≡ map code_spelled (map (λ j. j.bytes) judged)
mapped_twice [] = refl
mapped_twice (j ∷ judged) = ap (λ codes. code_told j ∷ codes) (mapped_twice judged)

condition_there : (entry : Option RuleEntry) (n : ℕ) → condition_in (option_map rule_told entry) ≡ Some n → condition_read entry ≡ Some n
condition_there None n is = is
condition_there (Some entry) n is = is

body_there : (entry : Option RuleEntry) (n : ℕ) → body_in (option_map rule_told entry) ≡ Some (Coded n) → body_read entry ≡ Some n
body_there None n is = absurd cc
body_there (Some entry) n is = by entry.body is
  where
    by : (body : RuleBody) → ◌≡◌ {A = Option Does} (Some (body_told body)) (Some (Coded n)) → code_in_body body ≡ Some n
    by (bodies.Code m) is = let same : m ≡ n = cc in ap Some same
    by (bodies.Standard m) is = absurd cc
    by (bodies.Unknown m) is = absurd cc

pub told_codes : (t : Tables) (judged : List Judged) → AreCodesOf t judged → AreSoundTogether judged
    → ((o n : ℕ) → description_code_of t o ≡ Some n → IsDescription judged n)
    → ((r n : ℕ) → condition_of_rule t r ≡ Some n → IsTestAt judged n 0)
    → ((r n : ℕ) → body_of_rule t r ≡ Some n → IsBody judged n)
    → AreCodesIn judged (coded_story t)
unfolding coded_story
told_codes t judged codes sound described asked does = record {
  codes = mapped_twice judged ∙ ap (map code_spelled) codes.bytes;
  sound = sound;
  described = described;
  asked = λ rule n is. asked rule n (condition_there (slice_get t.rules.rules rule) n (ap condition_in (sym (rule_there t rule)) ∙ is));
  does = λ rule n is. does rule n (body_there (slice_get t.rules.rules rule) n (ap body_in (sym (rule_there t rule)) ∙ is));
}

-- ---- a rule by its entry

module _ (t : Tables) (rule : ℕ) (now : ActionNow) (w : World) where
  pub applies_none : None ≡ slice_get t.rules.rules rule → applies (game_of_codes (coded_story t)) rule now w ≡ Ok false
  applies_none is = applies_is t rule now w ∙ ap (entry_applies t now w) (sym is)

  pub applies_some : (entry : RuleEntry) (result : Result Bool Abandon) → Some entry ≡ slice_get t.rules.rules rule → Answers result (λ is. is) (rule_applies t (rule_told entry) now w)
      → Answers result (λ is. is) (applies (game_of_codes (coded_story t)) rule now w)
  applies_some entry result is answers = subst (Answers result (λ is. is)) (sym (applies_is t rule now w ∙ ap (entry_applies t now w) (sym is))) answers

  pub asked_of : (judged : List Judged) → AreCodesIn judged (coded_story t) → (entry : RuleEntry) → Some entry ≡ slice_get t.rules.rules rule → (n : ℕ) → code_if_some entry.condition ≡
      Some n → IsTestAt judged n 0
  unfolding coded_story
  asked_of judged told entry there n is = told.asked rule n (ap condition_in (rule_there t rule ∙ ap (option_map rule_told) (sym there)) ∙ is)
