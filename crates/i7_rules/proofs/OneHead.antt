-- A head says one thing at most.
use Rattle.std.proofs.Common.{◌≡◌, ℕ, ◌+◌, ◌<◌, List, [], true, false, sym, ap, ◌∙◌, true≢false, inl, inr}
use Rattle.std.specs.Prelude.{Option, None, Some}
use Rattle.std.proofs.lemmas.Bool.{cases_lt}
use Rattle.i7_sentences.specs.declared.rule.Rule.{Rule}
use Rattle.i7_sentences.specs.declared.rule.RuleBook.{RuleBook}
use Rattle.i7_sentences.specs.declared.rule.RuleBook.TheVariants as book
use Rattle.i7_sentences.specs.declared.rule.RuleSubject.{RuleSubject}
use Rattle.i7_sentences.specs.declared.rule.RuleSubject.TheVariants as subject
use Rattle.play_meaning.specs.Turns.{begins_book, ends_book}
use Rattle.i7_actions.specs.Books.{IsOwn, first_own}
use Rattle.i7_conditions.specs.Conditions.{IsCondition}
use Rattle.i7_conditions.specs.Words.{Word}
use Rattle.i7_conditions.proofs.Listing.{IsOnce, made_once, two_once}
use Rattle.i7_conditions.proofs.Once.{condition_once}
use Rattle.i7_patterns.specs.Aspects.{AsksOne}
use Rattle.i7_rules.specs.Abouts.{Happens, IsAbout, IsScene, IsSubject, during, in_place}
use Rattle.i7_rules.specs.Heads.{Head, IsAsked, IsBook, IsHead, IsMisplaced, head_is_over, head_is_right}
use Rattle.i7_rules.specs.Knowns.{Known, scope_among}
use Rattle.i7_rules.proofs.Once.{AreOnce}
use Rattle.i7_sentences.proofs.Lowest.{both_ways}

-- ---- rulebooks

no_lower : (rulebooks : List (List ℕ)) (scenes : ℕ) (words : List Word) (a b : ℕ) (one : IsOwn rulebooks scenes words a) (other : IsOwn rulebooks scenes words b) → one.k < other.k → ⊥
no_lower rulebooks scenes words a b one other lower = other.first one.k one.name lower one.at one.named

own_once : (rulebooks : List (List ℕ)) (scenes : ℕ) (words : List Word) (a b : ℕ) → IsOwn rulebooks scenes words a → IsOwn rulebooks scenes words b → a ≡ b
own_once rulebooks scenes words a b one other = elim (cases_lt one.k other.k) [
  | inl lower ↦ absurd (no_lower rulebooks scenes words a b one other lower)
  | inr le ↦ elim (cases_lt other.k one.k) [
    | inl higher ↦ absurd (no_lower rulebooks scenes words b a other one higher)
    | inr ge ↦ one.numbered ∙ ap (λ n. first_own scenes + n) (both_ways one.k other.k ge le) ∙ sym other.numbered
  ]
]

scene_once : (k : Known) (words : List Word) → IsOnce (IsScene k words)
scene_once k words m n one other = let both : Some m ≡ Some n = sym one ∙ other in cc

pub book_once : (k : Known) (said : RuleBook) → IsOnce (IsBook k said)
book_once k book.Before a b one other = one ∙ sym other
book_once k book.Instead a b one other = one ∙ sym other
book_once k book.Check a b one other = one ∙ sym other
book_once k book.CarryOut a b one other = one ∙ sym other
book_once k book.After a b one other = one ∙ sym other
book_once k book.Report a b one other = one ∙ sym other
book_once k book.EveryTurn a b one other = one ∙ sym other
book_once k book.PlayBegins a b one other = one ∙ sym other
book_once k (book.SceneBegins words) a b one other = made_once begins_book (IsScene k words) (scene_once k words) a b one other
book_once k (book.SceneEnds words) a b one other = made_once ends_book (IsScene k words) (scene_once k words) a b one other
book_once k (book.Own words) a b one other = own_once k.rulebooks k.scenes words a b one other

-- ---- the whole head

happens_once : (k : Known) (words : Option (List Word)) → IsOnce (Happens k words)
happens_once k None a b one other = one ∙ sym other
happens_once k (Some words) a b one other = made_once Some (IsScene k words) (scene_once k words) a b one other

head_same : (a b : Head) → a.book ≡ b.book → a.about ≡ b.about → a.condition ≡ b.condition → a.listed ≡ b.listed → a ≡ b
head_same a b books patterns conditions places = λ i. record { book = books i; about = patterns i; condition = conditions i; listed = places i }

asked_once : (k : Known) (words : Option (List Word)) → IsOnce (IsAsked k words)
asked_once k None a b one other = one ∙ sym other
asked_once k (Some words) a b one other = made_once Some (IsCondition (scope_among k []) words) (condition_once (scope_among k []) words) a b one other

module _ (laws : AreOnce) (k : Known) where
  subject_once : (said : RuleSubject) → IsOnce (IsSubject k said)
  subject_once subject.Anything p q one other = one ∙ sym other
  subject_once (subject.Pattern words) p q one other = laws.pattern k.actions (scope_among k []) words p q one other
  subject_once (subject.Place words) p q one other = made_once in_place (AsksOne (scope_among k []) words) (laws.place (scope_among k []) words) p q one other

  about_once : (rule : Rule) → IsOnce (IsAbout k rule)
  about_once rule = two_once during (IsSubject k rule.subject) (Happens k rule.scene) (subject_once rule.subject) (happens_once k rule.scene)

  pub head_once : (rule : Rule) → IsOnce (IsHead k rule)
  head_once rule a b one other =
      head_same a b (book_once k rule.book a.book b.book one.book other.book) (about_once rule a.about b.about one.about other.about)
      (asked_once k rule.condition a.condition b.condition one.condition other.condition) (one.listed ∙ sym other.listed)

  -- ---- of a head one thing is told

  pub not_over_within : (rule : Rule) (a b : Head) → IsHead k rule a → head_is_over a ≡ true → IsHead k rule b → head_is_over b ≡ false → ⊥
  not_over_within rule a b one over other within = true≢false (sym over ∙ ap head_is_over (head_once rule a b one other) ∙ within)

  pub not_misplaced : (rule : Rule) (head : Head) → IsHead k rule head → head_is_right k head ≡ true → IsMisplaced k rule → ⊥
  not_misplaced rule head is right wrong = true≢false (sym right ∙ ap (head_is_right k) (head_once rule head wrong.0 is wrong.1) ∙ wrong.2)
