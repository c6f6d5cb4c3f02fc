-- Each automaton takes the words of its class, and no others.
use Rattle.std.proofs.Common.{◌≡◌, Bool, true, false, List, [], ◌∷◌, ◌++◌, refl, ap, sym, ◌∙◌, subst, append_assoc}
use Rattle.std.specs.Prelude.{not, ◌&&◌, ◌||◌, Option, Some, None, if◌then◌else◌}
use Rattle.std.specs.List.{list_all}
use Rattle.std.proofs.lemmas.Bool.{false≢true, and_from}
use Rattle.std.proofs.Math.Bool.{and-true, and-false}
use denote.Enum.Bare.{same_true}
use Rattle.i7_lexer.specs.declared.token.Token.{Token}
use Rattle.i7_sentences.specs.contracts.keyword.Keyword.{the_type}
use Rattle.i7_sentences.specs.Words.{is_word, is_text}
use Rattle.i7_sentences.specs.Keywords.{is_article, is_same, is_sign, keyword_of}
use Rattle.i7_sentences.specs.Classes.{is_asked, is_degree, IsRun, IsAlone, IsListed, IsNames, IsOf, is_comma, is_listed_word, is_vertical, is_direction, is_inner, is_behind, is_side, is_number, is_choice, is_head_token, is_body, is_body_mark}
use Rattle.i7_sentences.specs.Classes.IsNames.{one_item, more_items}
use Rattle.i7_sentences.specs.Automata.{accepts, alone_step, asked_step, body_step, is_of, names_step, run_step, runs, side_start, side_step, step, then_runs}
use Rattle.i7_sentences.specs.declared.keyword.Keyword.{Keyword}
use Rattle.i7_sentences.specs.declared.keyword.Keyword.TheVariants as keyword
use Rattle.i7_sentences.specs.declared.class.Class.{Class}
use Rattle.i7_sentences.specs.declared.class.Class.TheVariants as class
use Rattle.i7_sentences.specs.declared.class.State.{State}
use Rattle.i7_sentences.specs.declared.class.State.TheVariants.{Start, Inside, Between, Beside}
use Rattle.i7_sentences.proofs.Lists.{nil-cons}
use Rattle.i7_sentences.proofs.Ends.{and_left, and_right}

-- a class whose letters are one or more such tokens
abbrev RunsOn : Class → (Token → Bool) → Type 0
RunsOn class test = (state : State) (token : Token) → step class state token ≡ run_step (test token)

runs_first : (class : Class) (test : Token → Bool) → RunsOn class test → (state : State) (token : Token) (tokens : List Token) → runs class state (token ∷ tokens) ≡ (test token && runs class Inside tokens)
runs_first class test is state token tokens =
    let Goal : Bool → Type 0 = λ here. then_runs (run_step here) (λ after. runs class after tokens) ≡ (here && runs class Inside tokens) in
    let done : Goal (test token) = elim (test token) as Goal [ true ↦ refl | false ↦ refl ] in
    ap (λ next. then_runs next (λ after. runs class after tokens)) (is state token) ∙ done

runs_inside : (class : Class) (test : Token → Bool) → RunsOn class test → (tokens : List Token) → runs class Inside tokens ≡ list_all test tokens
runs_inside class test is [] = refl
runs_inside class test is (token ∷ tokens) = runs_first class test is Inside token tokens ∙ ap (λ more. test token && more) (runs_inside class test is tokens)

run_of : (class : Class) (test : Token → Bool) → RunsOn class test → (tokens : List Token) → is_of class tokens ≡ true → IsRun test tokens
run_of class test is [] taken = absurd (false≢true taken)
run_of class test is (token ∷ tokens) taken = (λ none. nil-cons token tokens (sym none), ap (λ more. test token && more) (sym (runs_inside class test is tokens)) ∙ sym (runs_first class test is Start token tokens) ∙ taken)

of_run : (class : Class) (test : Token → Bool) → RunsOn class test → (tokens : List Token) → IsRun test tokens → is_of class tokens ≡ true
of_run class test is [] run = absurd (run.0 refl)
of_run class test is (token ∷ tokens) run = runs_first class test is Start token tokens ∙ ap (λ more. test token && more) (runs_inside class test is tokens) ∙ run.1

-- a class whose letters are one such token
abbrev RunsAlone : Class → (Token → Bool) → Type 0
RunsAlone class test = (state : State) (token : Token) → step class state token ≡ alone_step state (test token)

alone_more : (class : Class) (test : Token → Bool) → RunsAlone class test → (tokens : List Token) → runs class Inside tokens ≡ true → tokens ≡ []
alone_more class test is [] taken = refl
alone_more class test is (token ∷ tokens) taken = absurd (false≢true (ap (λ next. then_runs next (λ after. runs class after tokens)) (sym (is Inside token)) ∙ taken))

alone_of : (class : Class) (test : Token → Bool) → RunsAlone class test → (tokens : List Token) → is_of class tokens ≡ true → IsAlone test tokens
alone_of class test is [] taken = absurd (false≢true taken)
alone_of class test is (token ∷ tokens) taken =
    let Goal : Bool → Type 0 = λ here. test token ≡ here → then_runs (alone_step Start here) (λ after. runs class after tokens) ≡ true → IsAlone test (token ∷ tokens)
    in (elim (test token) as Goal [
      | true ↦ λ here more. record { token = token; alone = ap (λ ts. token ∷ ts) (alone_more class test is tokens more); passes = here }
      | false ↦ λ here more. absurd (false≢true more)
    ]) refl (ap (λ next. then_runs next (λ after. runs class after tokens)) (sym (is Start token)) ∙ taken)

of_alone : (class : Class) (test : Token → Bool) → RunsAlone class test → (tokens : List Token) → IsAlone test tokens → is_of class tokens ≡ true
of_alone class test is tokens alone =
    ap (is_of class) alone.alone
    ∙ ap (λ next. then_runs next (λ after. runs class after [])) (is Start alone.token)
    ∙ ap (λ here. then_runs (alone_step Start here) (λ after. runs class after [])) alone.passes

-- names: how a list goes on behind a name that is read so far
not_comma : (token : Token) → is_listed_word token ≡ true → is_comma token ≡ false
unfolding is_listed_word
not_comma token is =
    let Goal : Bool → Type 0 = λ joint. (is_word token && not joint) ≡ true → joint ≡ false
    in (elim (is_comma token) as Goal [
      | true ↦ λ none. absurd (false≢true (and_right (is_word token) false none))
      | false ↦ λ none. refl
    ]) is

names_first : (token : Token) (tokens : List Token) → runs class.Names Start (token ∷ tokens) ≡ (is_word token && runs class.Names Inside tokens)
unfolding names_step
names_first token tokens =
    let Goal : Bool → Type 0 = λ here. then_runs (if here then Some Inside else None) (λ after. runs class.Names after tokens) ≡ (here && runs class.Names Inside tokens)
    in elim (is_word token) as Goal [ true ↦ refl | false ↦ refl ]

names_next : (token : Token) (tokens : List Token) → runs class.Names Between (token ∷ tokens) ≡ runs class.Names Start (token ∷ tokens)
unfolding names_step
names_next token tokens = refl

names_between : (tokens : List Token) → runs class.Names Between tokens ≡ runs class.Names Start tokens
names_between [] = refl
names_between (token ∷ tokens) = names_next token tokens

names_comma : (token : Token) (tokens : List Token) → is_comma token ≡ true → runs class.Names Inside (token ∷ tokens) ≡ runs class.Names Start tokens
unfolding names_step
names_comma token tokens is = ap (λ joint. then_runs (if joint then Some Between else (if is_listed_word token then Some Inside else None)) (λ after. runs class.Names after tokens)) is ∙ names_between tokens

names_word : (token : Token) (tokens : List Token) → is_comma token ≡ false → runs class.Names Inside (token ∷ tokens) ≡ (is_listed_word token && runs class.Names Inside tokens)
unfolding names_step
names_word token tokens is =
    let Goal : Bool → Type 0 = λ here. then_runs (if here then Some Inside else None) (λ after. runs class.Names after tokens) ≡ (here && runs class.Names Inside tokens)
    in ap (λ joint. then_runs (if joint then Some Between else (if is_listed_word token then Some Inside else None)) (λ after. runs class.Names after tokens)) is
    ∙ (elim (is_listed_word token) as Goal [ true ↦ refl | false ↦ refl ])

all_more : (test : Token → Bool) (front : List Token) (token : Token) → list_all test front ≡ true → test token ≡ true → list_all test (front ++ token ∷ []) ≡ true
all_more test [] token all is = and_from (test token) true is refl
all_more test (first ∷ front) token all is = and_from (test first) (list_all test (front ++ token ∷ [])) (and_left (test first) (list_all test front) all) (all_more test front token (and_right (test first) (list_all test front) all) is)

listed_more : (name : List Token) (token : Token) → IsListed name → is_listed_word token ≡ true → IsListed (name ++ token ∷ [])
listed_more [] token listed is = absurd listed
listed_more (first ∷ more) token listed is = (listed.0, all_more is_listed_word more token listed.1 is)

append_nil : (name : List Token) → name ≡ name ++ []
append_nil [] = refl
append_nil (first ∷ more) = ap (λ ts. first ∷ ts) (append_nil more)

names_behind : (name tokens : List Token) → IsListed name → runs class.Names Inside tokens ≡ true → IsNames (name ++ tokens)
names_behind name [] listed taken = subst IsNames (append_nil name) (one_item name listed)
names_behind name (token ∷ []) listed taken =
    let Goal : Bool → Type 0 = λ joint. is_comma token ≡ joint → IsNames (name ++ token ∷ [])
    in (elim (is_comma token) as Goal [
      | true ↦ λ joint. absurd (false≢true (sym (names_comma token [] joint) ∙ taken))
      | false ↦ λ joint.
          let parts : (is_listed_word token && true) ≡ true = sym (names_word token [] joint) ∙ taken in
          one_item (name ++ token ∷ []) (listed_more name token listed (and_left (is_listed_word token) true parts))
    ]) refl
names_behind name (token ∷ next ∷ tokens) listed taken =
    let Goal : Bool → Type 0 = λ joint. is_comma token ≡ joint → IsNames (name ++ token ∷ next ∷ tokens)
    in (elim (is_comma token) as Goal [
      | true ↦ λ joint.
          let first : (is_word next && runs class.Names Inside tokens) ≡ true = sym (names_first next tokens) ∙ sym (names_comma token (next ∷ tokens) joint) ∙ taken in
          more_items name (next ∷ tokens) token listed joint (names_behind (next ∷ []) tokens (and_left (is_word next) (runs class.Names Inside tokens) first, refl) (and_right (is_word next) (runs class.Names Inside tokens) first))
      | false ↦ λ joint.
          let parts : (is_listed_word token && runs class.Names Inside (next ∷ tokens)) ≡ true = sym (names_word token (next ∷ tokens) joint) ∙ taken in
          subst IsNames (append_assoc name (token ∷ []) (next ∷ tokens)) (names_behind (name ++ token ∷ []) (next ∷ tokens) (listed_more name token listed (and_left (is_listed_word token) (runs class.Names Inside (next ∷ tokens)) parts)) (and_right (is_listed_word token) (runs class.Names Inside (next ∷ tokens)) parts))
    ]) refl

names_of : (tokens : List Token) → runs class.Names Start tokens ≡ true → IsNames tokens
names_of [] taken = absurd (false≢true taken)
names_of (token ∷ tokens) taken =
    let parts : (is_word token && runs class.Names Inside tokens) ≡ true = sym (names_first token tokens) ∙ taken in
    names_behind (token ∷ []) tokens (and_left (is_word token) (runs class.Names Inside tokens) parts, refl) (and_right (is_word token) (runs class.Names Inside tokens) parts)

names_over : (front rest : List Token) → list_all is_listed_word front ≡ true → runs class.Names Inside (front ++ rest) ≡ runs class.Names Inside rest
names_over [] rest all = refl
names_over (token ∷ front) rest all =
    let here = and_left (is_listed_word token) (list_all is_listed_word front) all in
    names_word token (front ++ rest) (not_comma token here)
    ∙ ap (λ is. is && runs class.Names Inside (front ++ rest)) here
    ∙ names_over front rest (and_right (is_listed_word token) (list_all is_listed_word front) all)

listed_over : (name rest : List Token) → IsListed name → runs class.Names Start (name ++ rest) ≡ runs class.Names Inside rest
listed_over [] rest listed = absurd listed
listed_over (first ∷ more) rest listed = names_first first (more ++ rest) ∙ ap (λ is. is && runs class.Names Inside (more ++ rest)) listed.0 ∙ names_over more rest listed.1

of_names : (tokens : List Token) → IsNames tokens → runs class.Names Start tokens ≡ true
of_names tokens (one_item name listed) = ap (runs class.Names Start) (append_nil name) ∙ listed_over name [] listed
of_names tokens (more_items name names joint listed is rest) = listed_over name (joint ∷ names) listed ∙ names_comma joint names is ∙ of_names names rest

-- the first two words of a side, by what each of them is
abbrev side_start_by : Bool → Bool → Bool → Option State
side_start_by vertical direction inner = if vertical then Some Inside else (if direction then (if inner then Some Beside else Some Between) else None)

abbrev side_next_by : Option State → Bool → Bool → State → Option State
side_next_by start is_of' is_from Start = start
side_next_by start is_of' is_from Inside = None
side_next_by start is_of' is_from Between = if is_of' then Some Inside else None
side_next_by start is_of' is_from Beside = if is_of' then Some Inside else (if is_from then Some Inside else None)

side_one : (vertical direction inner : Bool) → then_runs (side_start_by vertical direction inner) accepts ≡ vertical
side_one true direction inner = refl
side_one false true true = refl
side_one false true false = refl
side_one false false inner = refl

side_two : (vertical direction inner is_of' is_from : Bool) (start : Option State) (ends : State → Bool) → then_runs (side_start_by vertical direction inner) (λ after. then_runs (side_next_by start is_of' is_from after) ends) ≡ ((not vertical && direction && (is_of' || (inner && is_from))) && ends Inside)
side_two true direction inner is_of' is_from start ends = refl
side_two false true true true is_from start ends = refl
side_two false true true false true start ends = refl
side_two false true true false false start ends = refl
side_two false true false true is_from start ends = refl
side_two false true false false is_from start ends = refl
side_two false false inner is_of' is_from start ends = refl

side_next_same : (token : Token) (ends : State → Bool) (after : State) → then_runs (side_step after token) ends ≡ then_runs (side_next_by (side_start token) (is_sign keyword.Of token) (is_sign keyword.From token) after) ends
unfolding side_step
side_next_same token ends Start = refl
side_next_same token ends Inside = refl
side_next_same token ends Between = refl
side_next_same token ends Beside = refl

side_opens : (token next : Token) (tokens : List Token) → runs class.Side Start (token ∷ next ∷ tokens) ≡ ((not (is_vertical token) && is_direction token && is_behind token next) && runs class.Side Inside tokens)
unfolding side_step is_behind
side_opens token next tokens =
    (λ i. then_runs (side_start token) (λ after. side_next_same next (λ last. runs class.Side last tokens) after i))
    ∙ side_two (is_vertical token) (is_direction token) (is_inner token) (is_sign keyword.Of next) (is_sign keyword.From next) (side_start next) (λ last. runs class.Side last tokens)

side_alone : (token : Token) → runs class.Side Start (token ∷ []) ≡ is_vertical token
unfolding side_step
side_alone token = side_one (is_vertical token) (is_direction token) (is_inner token)

side_ends : (token : Token) (tokens : List Token) → runs class.Side Inside (token ∷ tokens) ≡ false
unfolding side_step
side_ends token tokens = refl

side_same : (tokens : List Token) → is_of class.Side tokens ≡ is_side tokens
side_same [] = refl
side_same (token ∷ []) = side_alone token
side_same (token ∷ next ∷ []) = side_opens token next [] ∙ and-true (not (is_vertical token) && is_direction token && is_behind token next)
side_same (token ∷ next ∷ third ∷ tokens) =
    side_opens token next (third ∷ tokens)
    ∙ ap (λ ends. (not (is_vertical token) && is_direction token && is_behind token next) && ends) (side_ends third tokens)
    ∙ and-false (not (is_vertical token) && is_direction token && is_behind token next)

-- the mark that ends a rule's head, and what stands behind it
body_inside : (tokens : List Token) → runs class.Body Inside tokens ≡ true
unfolding body_step
body_inside [] = refl
body_inside (token ∷ tokens) = body_inside tokens

body_by : (marks : Bool) (tokens : List Token) → then_runs (if marks then Some Between else None) (λ after. runs class.Body after tokens) ≡ (marks && runs class.Body Between tokens)
body_by true tokens = refl
body_by false tokens = refl

body_opens : (mark : Token) (tokens : List Token) → is_of class.Body (mark ∷ tokens) ≡ (is_body_mark mark && runs class.Body Between tokens)
unfolding body_step
body_opens mark tokens = body_by (is_body_mark mark) tokens

body_between : (token : Token) (tokens : List Token) → runs class.Body Between (token ∷ tokens) ≡ true
unfolding body_step
body_between token tokens = body_inside tokens

pub and_false : (marks : Bool) → (marks && false) ≡ false
and_false true = refl
and_false false = refl

and_true : (marks : Bool) → (marks && true) ≡ marks
and_true true = refl
and_true false = refl

body_same : (tokens : List Token) → is_of class.Body tokens ≡ is_body tokens
body_same [] = refl
body_same (mark ∷ []) = body_opens mark [] ∙ and_false (is_body_mark mark)
body_same (mark ∷ token ∷ tokens) =
    body_opens mark (token ∷ tokens)
    ∙ ap (λ (b : Bool). is_body_mark mark && b) (body_between token tokens)
    ∙ and_true (is_body_mark mark)

-- `thing` tells nothing of how near it must be
thing_signs : (found : Option Keyword) → is_same found keyword.Thing ≡ true → (is_same found keyword.Visible || is_same found keyword.Carried) ≡ false
thing_signs None is = absurd (false≢true is)
thing_signs (Some sign) is = ap (λ s. is_same (Some s) keyword.Visible || is_same (Some s) keyword.Carried) (same_true the_type tt sign keyword.Thing is)

thing_is_no_degree : (token : Token) → is_sign keyword.Thing token ≡ true → is_degree token ≡ false
unfolding is_degree is_sign
thing_is_no_degree token is = thing_signs (keyword_of token) is

asked_alone : (degree thing : Bool) → (thing ≡ true → degree ≡ false) → then_runs (if degree then Some Between else run_step thing) accepts ≡ thing
asked_alone true true apart = sym (apart refl)
asked_alone true false apart = refl
asked_alone false true apart = refl
asked_alone false false apart = refl

run_then : (passes : Bool) (ends : State → Bool) → then_runs (run_step passes) ends ≡ (passes && ends Inside)
run_then true ends = refl
run_then false ends = refl

asked_by : (degree thing : Bool) (ends : State → Bool) → ends Inside ≡ false → then_runs (if degree then Some Between else run_step thing) ends ≡ (degree && ends Between)
asked_by true thing ends none = refl
asked_by false true ends none = none
asked_by false false ends none = refl

asked_same : (tokens : List Token) → is_of class.Asked tokens ≡ is_asked tokens
unfolding asked_step
asked_same [] = refl
asked_same (thing ∷ []) = asked_alone (is_degree thing) (is_sign keyword.Thing thing) (thing_is_no_degree thing)
asked_same (degree ∷ thing ∷ []) =
    asked_by (is_degree degree) (is_sign keyword.Thing degree) (λ after. runs class.Asked after (thing ∷ [])) refl
    ∙ ap (λ behind. is_degree degree && behind) (run_then (is_sign keyword.Thing thing) accepts ∙ and-true (is_sign keyword.Thing thing))
asked_same (degree ∷ thing ∷ third ∷ tokens) =
    asked_by (is_degree degree) (is_sign keyword.Thing degree) (λ after. runs class.Asked after (thing ∷ third ∷ tokens)) refl
    ∙ ap (λ behind. is_degree degree && behind) (run_then (is_sign keyword.Thing thing) (λ after. runs class.Asked after (third ∷ tokens)) ∙ and-false (is_sign keyword.Thing thing))
    ∙ and-false (is_degree degree)

-- what an automaton takes is of its class
pub of_runs : (class : Class) (tokens : List Token) → is_of class tokens ≡ true → IsOf class tokens
of_runs class.Words tokens taken = run_of class.Words is_word (λ state token. refl) tokens taken
of_runs class.Name tokens taken = run_of class.Name is_word (λ state token. refl) tokens taken
of_runs class.What tokens taken = run_of class.What is_word (λ state token. refl) tokens taken
of_runs class.Usual tokens taken = run_of class.Usual is_word (λ state token. refl) tokens taken
of_runs class.Article tokens taken = alone_of class.Article is_article (λ state token. refl) tokens taken
of_runs class.Texts tokens taken = run_of class.Texts is_choice (λ state token. refl) tokens taken
of_runs class.Names tokens taken = names_of tokens taken
of_runs class.Side tokens taken = sym (side_same tokens) ∙ taken
of_runs class.Number tokens taken = alone_of class.Number is_number (λ state token. refl) tokens taken
of_runs class.Text tokens taken = alone_of class.Text is_text (λ state token. refl) tokens taken
of_runs class.Head tokens taken = run_of class.Head is_head_token (λ state token. refl) tokens taken
of_runs class.Body tokens taken = sym (body_same tokens) ∙ taken
of_runs class.Asked tokens taken = sym (asked_same tokens) ∙ taken

-- what is of a class its automaton takes
pub runs_of : (class : Class) (tokens : List Token) → IsOf class tokens → is_of class tokens ≡ true
runs_of class.Words tokens is = of_run class.Words is_word (λ state token. refl) tokens is
runs_of class.Name tokens is = of_run class.Name is_word (λ state token. refl) tokens is
runs_of class.What tokens is = of_run class.What is_word (λ state token. refl) tokens is
runs_of class.Usual tokens is = of_run class.Usual is_word (λ state token. refl) tokens is
runs_of class.Article tokens is = of_alone class.Article is_article (λ state token. refl) tokens is
runs_of class.Texts tokens is = of_run class.Texts is_choice (λ state token. refl) tokens is
runs_of class.Names tokens is = of_names tokens is
runs_of class.Side tokens is = side_same tokens ∙ is
runs_of class.Number tokens is = of_alone class.Number is_number (λ state token. refl) tokens is
runs_of class.Text tokens is = of_alone class.Text is_text (λ state token. refl) tokens is
runs_of class.Head tokens is = of_run class.Head is_head_token (λ state token. refl) tokens is
runs_of class.Body tokens is = body_same tokens ∙ is
runs_of class.Asked tokens is = asked_same tokens ∙ is
