-- The heads of rules: the book, what is told behind its words, perhaps the rule's name, and behind them the body.
use Rattle.std.specs.Prelude.{ℕ, Bool, true, false, ◌&&◌, List, [], ◌∷◌, map, Option, Some, None, if◌then◌else◌}
use Rattle.std.specs.List.{after_first, before_first}
use Rattle.i7_lexer.specs.declared.token.Token.{Token}
use Rattle.i7_sentences.specs.Classes.{is_body_mark}
use Rattle.i7_sentences.specs.Conditions.{is_condition}
use Rattle.i7_sentences.specs.Forms.{Variant}
use Rattle.i7_sentences.specs.HeadWords.{condition_in, scene_in, subject_of, words_if}
use Rattle.i7_sentences.specs.Keywords.{is_sign}
use Rattle.i7_sentences.specs.Matching.{Found, lowest_fit}
use Rattle.i7_sentences.specs.Names.{named_in, words_in}
use Rattle.i7_sentences.specs.Reserved.{has_reserved_among}
use Rattle.i7_sentences.specs.declared.form.Form.{Form}
use Rattle.i7_sentences.specs.declared.form.Form.TheVariants as form
use Rattle.i7_sentences.specs.declared.keyword.Keyword.TheVariants as keyword
use Rattle.i7_sentences.specs.declared.rule.RuleBook.{RuleBook}
use Rattle.i7_sentences.specs.declared.rule.RuleBook.TheVariants as book
use Rattle.i7_sentences.specs.declared.rule.RuleSubject.{RuleSubject}
use Rattle.i7_sentences.specs.declared.rule.RuleSubject.TheVariants as subject
use Rattle.i7_sentences.specs.declared.rule_form.HeadBook.{HeadBook}
use Rattle.i7_sentences.specs.declared.rule_form.HeadBook.TheVariants as named
use Rattle.i7_sentences.specs.declared.rule_form.HeadForm.{HeadForm}
use Rattle.i7_sentences.specs.declared.rule_form.HeadParts.{HeadParts}
use Rattle.i7_sentences.specs.declared.rule_form.HeadParts.TheVariants as parts
use Rattle.i7_sentences.specs.declared.rule_form.TheConstants.{RULE_FORMS}
use Rattle.i7_sentences.specs.declared.rule_head.Head.{Head}

-- the forms of rules, with what may stand in their heads
unfoldable pub rule_forms : List (List Variant)
rule_forms = map (λ form. map (λ variant. record { form = variant.0; pieces = variant.1.now }) form.1.now) RULE_FORMS

-- the forms of sentences that are rules, whatever stands behind the words with which their heads begin
abbrev pub is_rule_form : Form → Bool
is_rule_form form.BeforeRule = true
is_rule_form form.InsteadRule = true
is_rule_form form.CheckRule = true
is_rule_form form.CarryOutRule = true
is_rule_form form.AfterRule = true
is_rule_form form.ReportRule = true
is_rule_form form.EveryTurnRule = true
is_rule_form form.PlayBeginsRule = true
is_rule_form form.SceneBeginsRule = true
is_rule_form form.SceneEndsRule = true
is_rule_form form.OwnRule = true
is_rule_form _ = false

abbrev pub is_head_form : Form → Option HeadForm
is_head_form (form.Head book parts) = Some (record { book = book; parts = parts; is_named = false })
is_head_form (form.NamedHead book parts) = Some (record { book = book; parts = parts; is_named = true })
is_head_form _ = None

-- a letter names the scene or the author's book
abbrev pub has_own_name : HeadBook → Bool
has_own_name named.SceneBegins = true
has_own_name named.SceneEnds = true
has_own_name named.Own = true
has_own_name _ = false

-- a letter tells what stands behind the words of the book
abbrev pub has_parts : HeadParts → Bool
has_parts parts.Nothing = false
has_parts _ = true

-- the first letter, if the form has it, and the letters behind it
abbrev pub letter_if : Bool → List (List Token) → List Token
letter_if false letters = []
letter_if true [] = []
letter_if true (letter ∷ letters) = letter

abbrev pub behind_if : Bool → List (List Token) → List (List Token)
behind_if false letters = letters
behind_if true [] = []
behind_if true (letter ∷ letters) = letters

-- the book, by the letter that names it: the free article isn't part of a rulebook's name, and is of what is said of a scene
abbrev pub book_of : HeadBook → List Token → RuleBook
book_of named.Before letter = book.Before
book_of named.Instead letter = book.Instead
book_of named.Check letter = book.Check
book_of named.CarryOut letter = book.CarryOut
book_of named.After letter = book.After
book_of named.Report letter = book.Report
book_of named.EveryTurn letter = book.EveryTurn
book_of named.PlayBegins letter = book.PlayBegins
book_of named.SceneBegins letter = book.SceneBegins (words_in letter)
book_of named.SceneEnds letter = book.SceneEnds (words_in letter)
book_of named.Own letter = book.Own (named_in letter)

-- the rule's name
abbrev pub name_if : Bool → List Token → Option (List (List ℕ))
name_if is_named letter = if is_named then Some (words_in letter) else None

-- a body behind a comma, which is one phrase
abbrev pub is_one_phrase : List Token → Bool
is_one_phrase [] = false
is_one_phrase (mark ∷ body) = is_sign keyword.Comma mark

-- the letters in order: the name of the scene or the author's book, what is told behind it, the rule's name, the body
abbrev pub head_with : HeadForm → Bool → List Token → List Token → List Token → List Token → Head
head_with head is_reserved own told name body = record {
  book = book_of head.book own;
  subject = subject_of head.parts told;
  scene = words_if (scene_in head.parts told);
  condition = words_if (condition_in head.parts told);
  name = name_if head.is_named name;
  has_reserved_name = is_reserved;
  takes_one = is_one_phrase body;
}

abbrev pub head_behind : HeadForm → Bool → List Token → List Token → List (List Token) → Head
head_behind head is_reserved own told letters =
    head_with head is_reserved own told (letter_if head.is_named letters) (letter_if true (behind_if head.is_named letters))

abbrev pub head_from : HeadForm → Bool → List Token → List (List Token) → Head
head_from head is_reserved own letters =
    head_behind head is_reserved own (letter_if (has_parts head.parts) letters) (behind_if (has_parts head.parts) letters)

abbrev pub head_of : HeadForm → Bool → List (List Token) → Head
head_of head is_reserved letters =
    head_from head is_reserved (letter_if (has_own_name head.book) letters) (behind_if (has_own_name head.book) letters)

abbrev pub is_there : List (List ℕ) → Bool
is_there [] = false
is_there (word ∷ words) = true

abbrev pub has_subject : RuleSubject → Bool
has_subject subject.Anything = true
has_subject (subject.Pattern words) = is_there words
has_subject (subject.Place words) = is_there words

abbrev pub has_scene : Option (List (List ℕ)) → Bool
has_scene None = true
has_scene (Some words) = is_there words

abbrev pub has_shape : Option (List (List ℕ)) → Bool
has_shape None = true
has_shape (Some condition) = is_condition condition

-- words stand wherever some are wanted, and a condition has a condition's shape
abbrev pub is_understood : Head → Bool
is_understood head = has_subject head.subject && has_scene head.scene && has_shape head.condition

abbrev pub if_understood : Head → Option Head
if_understood head = if is_understood head then Some head else None

abbrev pub head_as : Option HeadForm → Bool → List (List Token) → Option Head
head_as None is_reserved letters = None
head_as (Some head) is_reserved letters = if_understood (head_of head is_reserved letters)

abbrev pub head_found : Option Found → Option Head
head_found None = None
head_found (Some found) =
    head_as (is_head_form found.variant.form) (has_reserved_among found.variant.pieces found.letters) found.letters

-- the head of a rule, by the first form that fits it, with the shortest letters; none where it isn't understood
unfoldable pub head_in : List Token → Option Head
head_in tokens = head_found (lowest_fit rule_forms tokens)

-- no head has such a mark in it: its body stands behind the first
abbrev pub head_tokens : List Token → List Token
head_tokens tokens = before_first is_body_mark tokens

abbrev pub body_tokens : List Token → List Token
body_tokens tokens = after_first is_body_mark tokens
