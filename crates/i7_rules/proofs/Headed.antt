-- What is found of rules is what they are, by what is found of their heads and of their bodies.
use Rattle.std.proofs.Common.{◌≡◌, ◌+◌, ◌*◌, ℕ, List, [], refl, sym, subst, ◌∙◌, inl, inr}
use Rattle.std.specs.Prelude.{Option, None, Some, reverse}
use Rattle.std.proofs.lemmas.Bool.{or_from, or_left, or_right}
use Rattle.i7_sentences.specs.declared.rule.Rule.{Rule}
use Rattle.i7_sentences.specs.declared.rule.RuleBook.{RuleBook}
use Rattle.i7_sentences.specs.declared.rule.RuleBook.TheVariants as named
use Rattle.i7_sentences.specs.declared.rule.RulePhrase.{RulePhrase}
use Rattle.play_meaning.specs.Patterns.{Pattern}
use Rattle.play_meaning.specs.Trees.{Condition}
use Rattle.play_meaning.specs.Turns.{begins_book, ends_book}
use Rattle.play_meaning.specs.declared.tree.rule.RuleHead.{RuleHead as Kept}
use Rattle.i7_actions.specs.Books.{IsOwnFound}
use Rattle.i7_conditions.specs.Clauses.{asks_over, scene_named}
use Rattle.i7_conditions.specs.Conditions.{IsCondition}
use Rattle.i7_conditions.specs.Readings.{IsFoundAs, one}
use Rattle.i7_conditions.specs.Words.{Word}
use Rattle.i7_conditions.specs.declared.found.Found.{Found}
use Rattle.i7_conditions.specs.declared.found.Found.TheVariants as sought
use Rattle.i7_conditions.proofs.Listing.{one_found}
use Rattle.i7_patterns.specs.Asked.{IsAsked as IsFound}
use Rattle.i7_patterns.specs.Patterns.{pattern_is_over}
use Rattle.i7_patterns.specs.declared.asked.Asked.{Asked}
use Rattle.i7_patterns.specs.declared.asked.Asked.TheVariants.{Read, TooMany, Unread, WrongKind}
use Rattle.i7_rules.specs.Abouts.{IsAbout, IsGiven, is_right_for}
use Rattle.i7_rules.specs.Bodies.{AreUnderstood, IsBodyRead}
use Rattle.i7_rules.specs.Heads.{AsksSo, Head, IsAsked, IsBook, IsHead, IsOfScene, asked_head, head_is_over, head_is_right, head_of, headed, is_asked_over, numbered}
use Rattle.i7_rules.specs.Knowns.{Known, scope_among}
use Rattle.i7_rules.specs.Rules.{IsRuleFound, joined}
use Rattle.i7_rules.specs.declared.body.BodyRead.{BodyRead}
use Rattle.i7_rules.specs.declared.body.BodyRead.TheVariants as body
use Rattle.i7_rules.specs.declared.rule.RuleFound.{RuleFound}
use Rattle.i7_rules.proofs.ReadOn.{all_understood}

-- ---- conditions

pub condition_asked : (k : Known) (words : List Word) (condition : Found Condition) (found : Found (Option Condition)) → found ≡ one Some condition
    → IsFoundAs (IsCondition (scope_among k []) words) asks_over condition → IsFoundAs (AsksSo k words) is_asked_over found
condition_asked k words condition found e h =
    subst (IsFoundAs (AsksSo k words) is_asked_over) (sym e) (one_found Some (IsCondition (scope_among k []) words) asks_over is_asked_over (λ c. refl) condition h)

pub not_asked : (k : Known) (words : Option (List Word)) → words ≡ None → IsFoundAs (IsAsked k words) is_asked_over (sought.Read None)
not_asked k words e = subst (λ (w : Option (List Word)). IsFoundAs (IsAsked k w) is_asked_over (sought.Read None)) (sym e) (refl, refl)

pub asked_at : (k : Known) (words lent : List Word) (said : Option (List Word)) (found : Found (Option Condition)) → said ≡ Some words → lent ≡ words → IsFoundAs (AsksSo k lent) is_asked_over found
    → IsFoundAs (IsAsked k said) is_asked_over found
asked_at k words lent said found e lends h =
    subst (λ (w : Option (List Word)). IsFoundAs (IsAsked k w) is_asked_over found) (sym e) (subst (λ (w : List Word). IsFoundAs (AsksSo k w) is_asked_over found) lends h)

-- ---- rulebooks

numbered_so : (k : Known) (first : ℕ) (words : List Word) (scene : Option ℕ) → scene ≡ scene_named (scope_among k []) words → IsGiven (IsOfScene k (λ n. first + 2 * n) words) (numbered first scene)
numbered_so k first words None e = λ number is. let never : None ≡ Some is.0 = e ∙ is.1 in cc
numbered_so k first words (Some n) e = (n, sym e, refl)

pub scene_numbered : (k : Known) (first : ℕ) (words : List Word) (scene number : Option ℕ) → scene ≡ scene_named (scope_among k []) words → number ≡ numbered first scene
    → IsGiven (IsOfScene k (λ n. first + 2 * n) words) number
scene_numbered k first words scene number e f = subst (IsGiven (IsOfScene k (λ n. first + 2 * n) words)) (sym f) (numbered_so k first words scene e)

begins_told : (k : Known) (words : List Word) (number : Option ℕ) → IsGiven (IsOfScene k begins_book words) number → IsGiven (IsBook k (named.SceneBegins words)) number
begins_told k words None h = h
begins_told k words (Some number) h = h

pub begins_at : (k : Known) (words lent : List Word) (said : RuleBook) (number : Option ℕ) → said ≡ named.SceneBegins words → lent ≡ words → IsGiven (IsOfScene k begins_book lent) number
    → IsGiven (IsBook k said) number
begins_at k words lent said number e lends h =
    subst (λ (b : RuleBook). IsGiven (IsBook k b) number) (sym e) (begins_told k words number (subst (λ (w : List Word). IsGiven (IsOfScene k begins_book w) number) lends h))

ends_told : (k : Known) (words : List Word) (number : Option ℕ) → IsGiven (IsOfScene k ends_book words) number → IsGiven (IsBook k (named.SceneEnds words)) number
ends_told k words None h = h
ends_told k words (Some number) h = h

pub ends_at : (k : Known) (words lent : List Word) (said : RuleBook) (number : Option ℕ) → said ≡ named.SceneEnds words → lent ≡ words → IsGiven (IsOfScene k ends_book lent) number
    → IsGiven (IsBook k said) number
ends_at k words lent said number e lends h =
    subst (λ (b : RuleBook). IsGiven (IsBook k b) number) (sym e) (ends_told k words number (subst (λ (w : List Word). IsGiven (IsOfScene k ends_book w) number) lends h))

own_told : (k : Known) (words : List Word) (number : Option ℕ) → IsOwnFound k.rulebooks k.scenes words number → IsGiven (IsBook k (named.Own words)) number
own_told k words None h = h
own_told k words (Some number) h = h

pub own_at : (k : Known) (words lent : List Word) (said : RuleBook) (number : Option ℕ) → said ≡ named.Own words → lent ≡ words → IsOwnFound k.rulebooks k.scenes lent number → IsGiven (IsBook k said) number
own_at k words lent said number e lends h =
    subst (λ (b : RuleBook). IsGiven (IsBook k b) number) (sym e) (own_told k words number (subst (λ (w : List Word). IsOwnFound k.rulebooks k.scenes w number) lends h))

no_book : (k : Known) (rule : Rule) → IsGiven (IsBook k rule.book) None → (head : Head) → IsHead k rule head → ⊥
no_book k rule none head is = none head.book is.book

pub book_unknown : (k : Known) (rule : Rule) (book : Option ℕ) → book ≡ None → IsGiven (IsBook k rule.book) book → (head : Head) → IsHead k rule head → ⊥
book_unknown k rule book e h = no_book k rule (subst (IsGiven (IsBook k rule.book)) e h)

pub book_known : (k : Known) (rule : Rule) (book : Option ℕ) (number : ℕ) → book ≡ Some number → IsGiven (IsBook k rule.book) book → IsBook k rule.book number
book_known k rule book number e h = subst (IsGiven (IsBook k rule.book)) e h

-- ---- heads

module _ (k : Known) (rule : Rule) (book : ℕ) (is : IsBook k rule.book book) where
  heads : (about : Pattern) (condition : Option Condition) → IsAbout k rule about → IsAsked k rule.condition condition → IsHead k rule (head_of book about condition)
  heads about condition a c = record { book = is; about = a; condition = c; listed = refl }

  headed_so : (about : Asked Pattern) (asked : Found (Option Condition)) → IsFound (IsAbout k rule) (is_right_for k) pattern_is_over about → IsFoundAs (IsAsked k rule.condition) is_asked_over asked
      → IsFound (IsHead k rule) (head_is_right k) head_is_over (headed book about asked)
  headed_so (Read p) (sought.Read c) a h = (heads p c a.0 h.0, a.1, or_from (pattern_is_over p) (is_asked_over c) a.2 h.1)
  headed_so WrongKind (sought.Read c) a h = (head_of book a.0 c, heads a.0 c a.1 h.0, a.2)
  headed_so TooMany (sought.Read c) a h = (head_of book a.0 c, heads a.0 c a.1 h.0, a.2, or_left (pattern_is_over a.0) (is_asked_over c) a.3)
  headed_so Unread (sought.Read c) a h = λ head heads. a head.about heads.about
  headed_so (Read p) sought.TooMany a h = (head_of book p h.0, heads p h.0 a.0 h.1, a.1, or_right (pattern_is_over p) (is_asked_over h.0) h.2)
  headed_so WrongKind sought.TooMany a h = (head_of book a.0 h.0, heads a.0 h.0 a.1 h.1, a.2)
  headed_so TooMany sought.TooMany a h = (head_of book a.0 h.0, heads a.0 h.0 a.1 h.1, a.2, or_right (pattern_is_over a.0) (is_asked_over h.0) h.2)
  headed_so Unread sought.TooMany a h = λ head heads. a head.about heads.about
  headed_so (Read p) sought.Unread a h = λ head heads. h head.condition heads.condition
  headed_so WrongKind sought.Unread a h = λ head heads. h head.condition heads.condition
  headed_so TooMany sought.Unread a h = λ head heads. h head.condition heads.condition
  headed_so Unread sought.Unread a h = λ head heads. h head.condition heads.condition

pub head_found : (k : Known) (rule : Rule) (book : ℕ) (about : Asked Pattern) (asked : Found (Option Condition)) (head : Asked Head) → IsFound (IsAbout k rule) (is_right_for k) pattern_is_over about
    → IsFoundAs (IsAsked k rule.condition) is_asked_over asked → head ≡ headed book about asked → IsBook k rule.book book → IsFound (IsHead k rule) (head_is_right k) head_is_over head
head_found k rule book about asked head a h e is = subst (IsFound (IsHead k rule) (head_is_right k) head_is_over) (sym e) (headed_so k rule book is about asked a h)

-- ---- rules

all_said : (k : Known) (rule : Rule) (read : BodyRead) → IsBodyRead k rule.body read → ((line : ℕ) → read ≡ body.Unknown line → ⊥) → AreUnderstood k (reverse rule.body)
all_said k rule (body.Says phrases) h known = all_understood k (reverse rule.body) (reverse h.0) h.1
all_said k rule (body.Unknown line) h known = absurd (known line refl)
all_said k rule (body.TooMany line) h known = h.0
all_said k rule body.Unnested h known = all_understood k (reverse rule.body) (reverse h.0) h.1

joins : (k : Known) (line : ℕ) (rule : Rule) (head : Asked Kept) (read : BodyRead) → IsFound (IsHead k rule) (head_is_right k) head_is_over (asked_head head) → IsBodyRead k rule.body read
    → IsRuleFound k line rule (joined line head read)
joins k line rule Unread read h b = inl (h, refl)
joins k line rule WrongKind (body.Says phrases) h b = (all_said k rule (body.Says phrases) b (λ l e. cc), h)
joins k line rule WrongKind (body.Unknown at) h b = inr ((h.0, h.1), b)
joins k line rule WrongKind (body.TooMany at) h b = (b.0, h)
joins k line rule WrongKind body.Unnested h b = (all_said k rule body.Unnested b (λ l e. cc), h)
joins k line rule TooMany (body.Says phrases) h b = (all_said k rule (body.Says phrases) b (λ l e. cc), inl (h, refl))
joins k line rule TooMany (body.Unknown at) h b = inr ((h.0, h.1), b)
joins k line rule TooMany (body.TooMany at) h b = (b.0, inl (h, refl))
joins k line rule TooMany body.Unnested h b = (all_said k rule body.Unnested b (λ l e. cc), inl (h, refl))
joins k line rule (Read head) (body.Says phrases) h b = (h, b)
joins k line rule (Read head) (body.Unknown at) h b = inr ((_, h.0), b)
joins k line rule (Read head) (body.TooMany at) h b = (b.0, inr ((_, h), b.1))
joins k line rule (Read head) body.Unnested h b = ((_, h), b)

pub rule_found : (k : Known) (line : ℕ) (rule : Rule) (phrases : List RulePhrase) (head : Asked Kept) (read : BodyRead) (found : RuleFound) → phrases ≡ rule.body
    → IsFound (IsHead k rule) (head_is_right k) head_is_over (asked_head head)
    → IsBodyRead k phrases read → found ≡ joined line head read → IsRuleFound k line rule found
rule_found k line rule phrases head read found lends h b e =
    subst (IsRuleFound k line rule) (sym e) (joins k line rule head read h (subst (λ (all : List RulePhrase). IsBodyRead k all read) lends b))
