-- What the head of a rule says (*Writing with Inform*, chapters 7, 10 and 19): its rulebook, what it is about, and its condition.
use Rattle.std.specs.Prelude.{◌≡◌, ◌+◌, ◌*◌, ℕ, Bool, false, true, ◌||◌, List, [], Option, None, Some, option_map}
use Rattle.i7_sentences.specs.declared.rule.Rule.{Rule}
use Rattle.i7_sentences.specs.declared.rule.RuleBook.{RuleBook}
use Rattle.i7_sentences.specs.declared.rule.RuleBook.TheVariants as book
use Rattle.play_meaning.specs.Consulting.{after_book, before_book, carry_out_book, check_book, every_turn_book, instead_book, play_begins_book, report_book}
use Rattle.play_meaning.specs.Meant.{condition_meant}
use Rattle.play_meaning.specs.Patterns.{Pattern, listing_meant, pattern_meant}
use Rattle.play_meaning.specs.Rules.{InOrder, Listed}
use Rattle.play_meaning.specs.Trees.{Condition}
use Rattle.play_meaning.specs.Turns.{begins_book, ends_book}
use Rattle.play_meaning.specs.declared.tree.condition.Condition.{Condition as Kept}
use Rattle.play_meaning.specs.declared.tree.rule.RuleHead.{RuleHead}
use Rattle.i7_actions.specs.Books.{IsOwn}
use Rattle.i7_conditions.specs.Clauses.{asks_over}
use Rattle.i7_conditions.specs.Conditions.{IsCondition}
use Rattle.i7_conditions.specs.Readings.{one}
use Rattle.i7_conditions.specs.Words.{Word}
use Rattle.i7_conditions.specs.declared.found.Found.{Found}
use Rattle.i7_conditions.specs.declared.found.Found.TheVariants as sought
use Rattle.i7_patterns.specs.Asked.{IsAsked as IsFound}
use Rattle.i7_patterns.specs.PatternForms.{with_meaning}
use Rattle.i7_patterns.specs.Patterns.{pattern_is_over}
use Rattle.i7_patterns.specs.declared.asked.Asked.{Asked}
use Rattle.i7_patterns.specs.declared.asked.Asked.TheVariants.{Read, TooMany, Unread, WrongKind}
use Rattle.i7_rules.specs.Abouts.{IsAbout, IsScene, is_right_for}
use Rattle.i7_rules.specs.Knowns.{Known, scope_among}

-- ---- the rulebook

-- one of a scene's rulebooks
abbrev pub IsOfScene : Known → (ℕ → ℕ) → List Word → ℕ → Type 0
IsOfScene k number_of words number = (scene : ℕ) × IsScene k words scene × (number ≡ number_of scene)

-- the rulebook, by its number: an author's rulebook is one that the source declares
abbrev pub IsBook : Known → RuleBook → ℕ → Type 0
IsBook k book.Before number = number ≡ before_book
IsBook k book.Instead number = number ≡ instead_book
IsBook k book.Check number = number ≡ check_book
IsBook k book.CarryOut number = number ≡ carry_out_book
IsBook k book.After number = number ≡ after_book
IsBook k book.Report number = number ≡ report_book
IsBook k book.EveryTurn number = number ≡ every_turn_book
IsBook k book.PlayBegins number = number ≡ play_begins_book
IsBook k (book.SceneBegins words) number = IsOfScene k begins_book words number
IsBook k (book.SceneEnds words) number = IsOfScene k ends_book words number
IsBook k (book.Own words) number = IsOwn k.rulebooks k.scenes words number

-- a scene's, if the scene is there, where the first scene's has this number
abbrev pub numbered : ℕ → Option ℕ → Option ℕ
numbered first scene = option_map (λ n. first + 2 * n) scene

-- ---- the condition

-- the condition of these words; no repeat stands around it
abbrev pub AsksSo : Known → List Word → Option Condition → Type 0
AsksSo k words condition = (c : Condition) × IsCondition (scope_among k []) words c × (condition ≡ Some c)

-- the condition, if there is one
abbrev pub IsAsked : Known → Option (List Word) → Option Condition → Type 0
IsAsked k None condition = condition ≡ None
IsAsked k (Some words) condition = AsksSo k words condition

abbrev pub is_asked_over : Option Condition → Bool
is_asked_over None = false
is_asked_over (Some condition) = asks_over condition

-- ---- the whole head

pub record Head : Type 0 where
  pub book : ℕ
  pub about : Pattern
  pub condition : Option Condition
  pub listed : Listed

-- listed by no sentence
abbrev pub head_of : ℕ → Pattern → Option Condition → Head
head_of book about condition = record { book = book; about = about; condition = condition; listed = InOrder }

pub record IsHead (k : Known) (rule : Rule) (head : Head) : Type 0 where
  pub book : IsBook k rule.book head.book
  pub about : IsAbout k rule head.about
  pub condition : IsAsked k rule.condition head.condition
  pub listed : head.listed ≡ InOrder

abbrev pub HasHead : Known → Rule → Type 0
HasHead k rule = (head : Head) × IsHead k rule head

abbrev pub HasNoHead : Known → Rule → Type 0
HasNoHead k rule = (head : Head) → IsHead k rule head → ⊥

abbrev pub head_is_right : Known → Head → Bool
head_is_right k head = is_right_for k head.about

-- its place is no room, or it asks for a value
abbrev pub IsMisplaced : Known → Rule → Type 0
IsMisplaced k rule = (head : Head) × IsHead k rule head × (head_is_right k head ≡ false)

abbrev pub head_is_over : Head → Bool
head_is_over head = pattern_is_over head.about || is_asked_over head.condition

abbrev pub IsOver : Known → Rule → Type 0
IsOver k rule = (head : Head) × IsHead k rule head × (head_is_right k head ≡ true) × (head_is_over head ≡ true)

abbrev pub IsWithin : Known → Rule → Head → Type 0
IsWithin k rule head = IsHead k rule head × (head_is_right k head ≡ true) × (head_is_over head ≡ false)

abbrev pub HasHeadWithin : Known → Rule → Type 0
HasHeadWithin k rule = (head : Head) × IsWithin k rule head

-- ---- as it is kept

abbrev pub found_asked : Found (Option Kept) → Found (Option Condition)
found_asked = one (option_map condition_meant)

abbrev pub heading : RuleHead → Head
heading head = record { book = head.book; about = pattern_meant head.pattern; condition = option_map condition_meant head.condition; listed = listing_meant head.listing }

abbrev pub IsHeadFound : Known → Rule → Asked Head → Type 0
IsHeadFound k rule found = IsFound (IsHead k rule) (head_is_right k) head_is_over found

abbrev pub asked_head : Asked RuleHead → Asked Head
asked_head found = with_meaning heading found

-- a head of this rulebook, by what is found of what it is about and of its condition
abbrev pub headed : ℕ → Asked Pattern → Found (Option Condition) → Asked Head
headed book (Read about) (sought.Read condition) = Read (head_of book about condition)
headed book WrongKind (sought.Read condition) = WrongKind
headed book TooMany (sought.Read condition) = TooMany
headed book Unread (sought.Read condition) = Unread
headed book (Read about) sought.TooMany = TooMany
headed book WrongKind sought.TooMany = WrongKind
headed book TooMany sought.TooMany = TooMany
headed book Unread sought.TooMany = Unread
headed book about sought.Unread = Unread
