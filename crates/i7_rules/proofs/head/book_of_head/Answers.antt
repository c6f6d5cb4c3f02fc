use Rattle.std.proofs.Common.{refl, sym, subst}
use Rattle.std.specs.Prelude.{Some}
use Rattle.std.proofs.lemmas.Result.{IfOk-weaker}
use Rattle.i7_sentences.specs.declared.rule.RuleBook.{RuleBook}
use Rattle.play_meaning.specs.Consulting.{after_book, before_book, carry_out_book, check_book, every_turn_book, instead_book, play_begins_book, report_book}
use Rattle.play_meaning.specs.Turns.{begins_book, ends_book}
use Rattle.i7_actions.specs.Books.{IsOwnFound}
use Rattle.i7_rules.specs.Abouts.{IsGiven}
use Rattle.i7_rules.specs.Heads.{IsBook, IsOfScene}
use Rattle.i7_rules.specs.Knowns.{known_of}
use Rattle.i7_rules.proofs.Headed.{begins_at, ends_at, own_at}
use Rattle.i7_rules.proofs.head.book_of_head.Goals as goal

pub returns-in-Before : goal.returns-in-Before
returns-in-Before c = subst (λ (book : RuleBook). IsGiven (IsBook (known_of c.args.known.now) book) (Some before_book)) (sym c.in-Before.is) refl

pub returns-in-Instead : goal.returns-in-Instead
returns-in-Instead c = subst (λ (book : RuleBook). IsGiven (IsBook (known_of c.args.known.now) book) (Some instead_book)) (sym c.in-Instead.is) refl

pub returns-in-Check : goal.returns-in-Check
returns-in-Check c = subst (λ (book : RuleBook). IsGiven (IsBook (known_of c.args.known.now) book) (Some check_book)) (sym c.in-Check.is) refl

pub returns-in-CarryOut : goal.returns-in-CarryOut
returns-in-CarryOut c = subst (λ (book : RuleBook). IsGiven (IsBook (known_of c.args.known.now) book) (Some carry_out_book)) (sym c.in-CarryOut.is) refl

pub returns-in-After : goal.returns-in-After
returns-in-After c = subst (λ (book : RuleBook). IsGiven (IsBook (known_of c.args.known.now) book) (Some after_book)) (sym c.in-After.is) refl

pub returns-in-Report : goal.returns-in-Report
returns-in-Report c = subst (λ (book : RuleBook). IsGiven (IsBook (known_of c.args.known.now) book) (Some report_book)) (sym c.in-Report.is) refl

pub returns-in-EveryTurn : goal.returns-in-EveryTurn
returns-in-EveryTurn c = subst (λ (book : RuleBook). IsGiven (IsBook (known_of c.args.known.now) book) (Some every_turn_book)) (sym c.in-EveryTurn.is) refl

pub returns-in-PlayBegins : goal.returns-in-PlayBegins
returns-in-PlayBegins c = subst (λ (book : RuleBook). IsGiven (IsBook (known_of c.args.known.now) book) (Some play_begins_book)) (sym c.in-PlayBegins.is) refl

pub returns-in-SceneBegins : goal.returns-in-SceneBegins
returns-in-SceneBegins c =
    IfOk-weaker c.book_of_scene.result (λ number. IsGiven (IsOfScene (known_of c.args.known.now) begins_book c.as_slice.result.now) number) (λ number. IsGiven (IsBook (known_of c.args.known.now) c.args.book.now) number)
    (λ number h. begins_at (known_of c.args.known.now) c.in-SceneBegins.words c.as_slice.result.now c.args.book.now number c.in-SceneBegins.is c.as_slice.ensures h) c.book_of_scene.ensures

pub returns-in-SceneEnds : goal.returns-in-SceneEnds
returns-in-SceneEnds c =
    IfOk-weaker c.book_of_scene-in-SceneEnds.result (λ number. IsGiven (IsOfScene (known_of c.args.known.now) ends_book c.as_slice-in-SceneEnds.result.now) number) (λ number. IsGiven (IsBook (known_of c.args.known.now) c.args.book.now) number)
    (λ number h. ends_at (known_of c.args.known.now) c.in-SceneEnds.words c.as_slice-in-SceneEnds.result.now c.args.book.now number c.in-SceneEnds.is c.as_slice-in-SceneEnds.ensures h) c.book_of_scene-in-SceneEnds.ensures

pub returns-in-Own : goal.returns-in-Own
returns-in-Own c =
    IfOk-weaker c.own_book_of.result (λ number. IsOwnFound (known_of c.args.known.now).rulebooks (known_of c.args.known.now).scenes c.as_slice-in-Own.result.now number)
    (λ number. IsGiven (IsBook (known_of c.args.known.now) c.args.book.now) number)
    (λ number h. own_at (known_of c.args.known.now) c.in-Own.words c.as_slice-in-Own.result.now c.args.book.now number c.in-Own.is c.as_slice-in-Own.ensures h) c.own_book_of.ensures
