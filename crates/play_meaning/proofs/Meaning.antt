-- The codes of texts and phrases come to what these mean.
use Rattle.std.proofs.Common.{◌≡◌, ◌∙◌, ap, sym, subst, ℕ, ◌+◌, Bool, true, false, List, [], ◌∷◌, ◌++◌, length, append_assoc, length-append, refl, Option, Ok, Err, ℤ, arith}
use Rattle.std.specs.Fmt.{signed_decimal}
use Rattle.std.proofs.lemmas.List.{append-nil}
use Rattle.play_meaning.specs.Attempts.{Attempt, next}
use Rattle.play_meaning.specs.Changes.{make_number, make_so, make_value, move, put, take_away}
use Rattle.play_meaning.specs.Doing.{changed, do_body, do_phrase, repeat, said_then}
use Rattle.play_meaning.specs.Instructions as code
use Rattle.play_meaning.specs.Instructions.{Instruction, size_of, sizes}
use Rattle.play_meaning.specs.Machines.{Frame, Goes, does, object_at, object_number, unless_abandoned}
use Rattle.play_meaning.specs.Progress.{Done, Progress, change, goes_on, leaves, say, then_do}
use Rattle.play_meaning.specs.Saying.{chosen, description_in, listed, name_in, said_in, then_said, value_name}
use Rattle.play_meaning.specs.Scoping.{BodyIsWithin, ConditionIsWithin, DescriptionIsWithin, NumberIsWithin, PhraseIsWithin, TextIsWithin}
use Rattle.play_meaning.specs.Settings.{objects_of}
use Rattle.play_meaning.specs.Translation.{Part, body_part, choice, condition_part, leave_part, loop, number_part, object_code, one, phrase_part, seq, strings_of_body, strings_of_phrase, strings_of_text, test_code, testing, text_part, these}
use Rattle.play_meaning.specs.Trees as tree
use Rattle.play_meaning.specs.Trees.{Body, Condition, Phrase, Text}
use Rattle.play_meaning.specs.Truth.{truth_in}
use Rattle.play_meaning.specs.Values.{is_one, number_in, those, value_at}
use Rattle.play_meaning.specs.Worlds.{end_with, set_variable}
use Rattle.play_meaning.specs.declared.outcome.Flow.{Flow}
use Rattle.play_meaning.specs.declared.outcome.Flow.TheVariants.{GoesOn, NoDecision, Decides}
use Rattle.play_meaning.specs.declared.outcome.Outcome.TheVariants.{Failure, Success}
use Rattle.play_meaning.proofs.Asking.{HasTests, tests_back, test_says, tests_front, those_pass}
use Rattle.play_meaning.proofs.Coming.{Comes, alike_comes, choice_comes, jumps, loops, stays, stops_at, taken, then_comes}
use Rattle.play_meaning.proofs.Reckoning.{condition_gives, number_gives}
use Rattle.play_meaning.proofs.Standing.{HasAt, has_back, has_front, sizes-append}
use Rattle.play_meaning.proofs.Straight.{Gives, St, none_gives, then_also, object_back, object_gives, object_here, open_loops, scope_in, step_of}

-- nothing behind a phrase changes nothing
then_nothing : (a : Attempt Done) → then_do a (λ p. Ok (goes_on p)) ≡ a
then_nothing (Err reason) = refl
then_nothing (Ok done) = by_flow done.flow done.progress
  where
    by_flow : (flow : Flow) (p : Progress) → then_do (Ok (record { progress = p; flow = flow })) (λ p. Ok (goes_on p)) ≡ Ok (record { progress = p; flow = flow })
    by_flow GoesOn p = refl
    by_flow NoDecision p = refl
    by_flow (Decides outcome) p = refl

module _ (f : Frame) (c : List Instruction) (string : List ℕ → ℕ) where
  -- each of these strings stands at its number
  abbrev pub AllStand : List (List ℕ) → Type 0
  AllStand [] = Unit {0}
  AllStand (bytes ∷ more) = (f.strings (string bytes) ≡ bytes) × AllStand more

  stand_front : (a b : List (List ℕ)) → AllStand (a ++ b) → AllStand a
  stand_front [] b all = tt
  stand_front (bytes ∷ more) b all = (all.0, stand_front more b all.1)

  stand_back : (a b : List (List ℕ)) → AllStand (a ++ b) → AllStand b
  stand_back [] b all = all
  stand_back (bytes ∷ more) b all = stand_back more b all.1

  module _ (turning : List ℕ) where
    abbrev k : ℕ
    k = length turning

    -- ---- texts

    abbrev said : Text → Progress → Attempt Done
    said text p = said_then f.telling (scope_in f turning) text p

    abbrev piece_said : Attempt (List ℕ) → Progress → Attempt Done
    piece_said piece p = next piece (λ bytes. Ok (goes_on (say bytes p)))

    said_behind : (piece more : Attempt (List ℕ)) (p : Progress)
        → then_do (piece_said piece p) (λ p'. next more (λ bytes. Ok (goes_on (say bytes p')))) ≡ piece_said (then_said piece more) p
    said_behind (Err reason) more p = refl
    said_behind (Ok bytes) (Err reason) p = refl
    said_behind (Ok bytes) (Ok others) p = ap (λ t. Ok (goes_on (record p { text = t }))) (append_assoc p.text bytes others)

    -- a piece of a text, and then the rest of it
    piece_then : (q r s : ℕ) (p : Progress) (piece : Attempt (List ℕ)) (more : Text) → Comes f c turning q p (piece_said piece p) r
        → ((p' : Progress) → Comes f c turning r p' (said more p') s)
        → Comes f c turning q p (piece_said (then_said piece (said_in f.telling (scope_in f turning) p.world more)) p) s
    piece_then q r s p (Err reason) more first second = λ n. first 0
    piece_then q r s p (Ok bytes) more first second =
        alike_comes f c turning q p (then_do (piece_said (Ok bytes) p) (said more)) _ s s (said_behind (Ok bytes) (said_in f.telling (scope_in f turning) p.world more) p) refl
        (then_comes f c turning q r s p (piece_said (Ok bytes) p) (said more) first second)

    -- what the code of a text comes to, wherever it stands
    abbrev TextComes : Text → Type 0
    TextComes text = (t q : ℕ) (p : Progress) → TextIsWithin k text → AllStand (strings_of_text text)
        → HasTests f t (text_part string k text t q).tests → HasAt c q (text_part string k text t q).code
        → Comes f c turning q p (said text p) (q + sizes (text_part string k text t q).code)

    -- values, and an instruction that says a piece by them
    value_said : {A : Type 0} (q : ℕ) (is : List Instruction) (i : Instruction) (p : Progress) (shown : A → List ℤ) (a : Attempt A) (piece : A → Attempt (List ℕ))
        → HasAt c (q + sizes is) (i ∷ [])
        → Gives f c turning p q is [] (next a (λ v. Ok (shown v)))
        → ((r : ℕ) (v : A) → does f (St r (shown v) (open_loops turning) p) i ≡ unless_abandoned (piece v) (λ bytes. Goes (St (r + size_of i) [] (open_loops turning) (say bytes p))))
        → Comes f c turning q p (piece_said (next a piece) p) (q + sizes (is ++ i ∷ []))
    value_said {A = A} q is i p shown a piece has gives says =
        alike_comes f c turning q p _ _ _ _ (nested a) refl
        (taken f c turning q is i p shown a (λ v. next (piece v) (λ bytes. Ok (say bytes p))) has gives (λ r v. says r v ∙ stepped r (piece v)))
      where
        stepped : (r : ℕ) (b : Attempt (List ℕ)) → unless_abandoned b (λ bytes. Goes (St (r + size_of i) [] (open_loops turning) (say bytes p)))
            ≡ step_of (next (next b (λ bytes. Ok (say bytes p))) (λ p'. Ok (St (r + size_of i) [] (open_loops turning) p')))
        stepped r (Ok bytes) = refl
        stepped r (Err reason) = refl

        inner : (b : Attempt (List ℕ)) → next (next b (λ bytes. Ok (say bytes p))) (λ p'. Ok (goes_on p')) ≡ piece_said b p
        inner (Ok bytes) = refl
        inner (Err reason) = refl

        nested : (a : Attempt A) → next a (λ v. next (next (piece v) (λ bytes. Ok (say bytes p))) (λ p'. Ok (goes_on p'))) ≡ piece_said (next a piece) p
        nested (Ok v) = inner (piece v)
        nested (Err reason) = refl

    -- an instruction alone that says a piece
    one_says : (q : ℕ) (i : Instruction) (p : Progress) (piece : Attempt (List ℕ)) → HasAt c q (i ∷ [])
        → ((r : ℕ) → does f (St r [] (open_loops turning) p) i ≡ unless_abandoned piece (λ bytes. Goes (St (r + size_of i) [] (open_loops turning) (say bytes p))))
        → Comes f c turning q p (piece_said piece p) (q + sizes (i ∷ []))
    one_says q i p piece has says =
        value_said {A = ℕ} q [] i p (λ v. []) (Ok 0) (λ v. piece) (subst (λ n. HasAt c n (i ∷ [])) (omega arith) has) (none_gives f c turning p q []) (λ r v. says r)

    -- what a part comes to, wherever it stands
    abbrev PartComes : Part → Progress → Attempt Done → Type 0
    PartComes a p done = (t q : ℕ) → HasTests f t (a t q).tests → HasAt c q (a t q).code → Comes f c turning q p done (q + sizes (a t q).code)

    -- a condition, and one of two parts
    pub either_comes : (condition : Condition) (a b : Part) (done other : Attempt Done) (t q : ℕ) (p : Progress) → ConditionIsWithin k condition
        → HasTests f t (choice (condition_part k condition) a b t q).tests → HasAt c q (choice (condition_part k condition) a b t q).code → PartComes a p done → PartComes b p other
        → Comes f c turning q p (next (truth_in f.telling.setting (scope_in f turning) p.world condition) (λ x. chosen x done other))
        (q + sizes (choice (condition_part k condition) a b t q).code)
    unfolding choice
    either_comes condition a b done other t q p within tests has a_comes b_comes =
        let asked = condition_part k condition t q in
        let q1 : ℕ = q + sizes asked.code + 3 in
        let t1 : ℕ = t + length asked.tests in
        let first = a t1 q1 in
        let q2 : ℕ = q1 + sizes first.code + 3 in
        let second = b (t1 + length first.tests) q2 in
        let end : ℕ = q2 + sizes second.code in
        let later = first.code ++ code.Jump end ∷ second.code in
        let test = has_back c q asked.code (code.IfZero q2 ∷ later) has in
        let jump = has_back c q1 first.code (code.Jump end ∷ second.code) test.1 in
        let behind = tests_back f t asked.tests (first.tests ++ second.tests) tests in
        let place : end ≡ q + sizes (asked.code ++ code.IfZero q2 ∷ later) = omega
        (arith, sizes-append asked.code (code.IfZero q2 ∷ later), sizes-append first.code (code.Jump end ∷ second.code)) in
        let way = alike_comes f c turning q1 p _ done end end (then_nothing done) refl
        (then_comes f c turning q1 (q1 + sizes first.code) end p done (λ p'. Ok (goes_on p')) (a_comes t1 q1 (tests_front f t1 first.tests second.tests behind) (has_front c q1 first.code (code.Jump end ∷ second.code) test.1))
        (λ p'. jumps f c turning (q1 + sizes first.code) end p' (jump.0, tt))) in
        let other_way = b_comes (t1 + length first.tests) q2 (tests_back f t1 first.tests second.tests behind) jump.1 in
        alike_comes f c turning q p _ _ end _ refl place
        (choice_comes f c turning q asked.code q2 end p (truth_in f.telling.setting (scope_in f turning) p.world condition) done other (test.0, tt)
        (condition_gives f c turning p condition t q [] within (tests_front f t asked.tests (first.tests ++ second.tests) tests) (has_front c q asked.code (code.IfZero q2 ∷ later) has)) way other_way)

    chosen_said : (p : Progress) (truth : Attempt Bool) (a b : Attempt (List ℕ))
        → next truth (λ x. chosen x (piece_said a p) (piece_said b p)) ≡ piece_said (next truth (λ x. chosen x a b)) p
    chosen_said p (Ok true) a b = refl
    chosen_said p (Ok false) a b = refl
    chosen_said p (Err reason) a b = refl

    figure_comes : (number : tree.Number) (t q : ℕ) (p : Progress) → NumberIsWithin k number
        → HasTests f t (seq (number_part k number) (one code.Figure) t q).tests → HasAt c q (seq (number_part k number) (one code.Figure) t q).code
        → Comes f c turning q p (piece_said (next (number_in f.telling.setting (scope_in f turning) p.world number) (λ n. Ok (signed_decimal n))) p)
        (q + sizes (seq (number_part k number) (one code.Figure) t q).code)
    unfolding seq does
    figure_comes number t q p within tests has =
        let cn = (number_part k number t q).code in
        value_said q cn code.Figure p (λ n. n ∷ []) (number_in f.telling.setting (scope_in f turning) p.world number) (λ n. Ok (signed_decimal n))
        (has_back c q cn (code.Figure ∷ []) has)
        (number_gives f c turning p number t q [] within (tests_front f t (number_part k number t q).tests [] tests) (has_front c q cn (code.Figure ∷ []) has)) (λ r n. refl)

    -- a part that says a piece, and then the rest of a text
    text_behind : (a : Part) (piece : Progress → Attempt (List ℕ)) (more : Text) → TextComes more → (t q : ℕ) (p : Progress) → TextIsWithin k more → AllStand (strings_of_text more)
        → HasTests f t (seq a (text_part string k more) t q).tests → HasAt c q (seq a (text_part string k more) t q).code
        → Comes f c turning q p (piece_said (piece p) p) (q + sizes (a t q).code)
        → Comes f c turning q p (piece_said (then_said (piece p) (said_in f.telling (scope_in f turning) p.world more)) p) (q + sizes (seq a (text_part string k more) t q).code)
    unfolding seq
    text_behind a piece more comes t q p within strings tests has first =
        let ca = (a t q).code in
        let ta = (a t q).tests in
        let rest = text_part string k more (t + length ta) (q + sizes ca) in
        let place : q + sizes ca + sizes rest.code ≡ q + sizes (ca ++ rest.code) = omega (arith, sizes-append ca rest.code) in
        alike_comes f c turning q p _ _ (q + sizes ca + sizes rest.code) _ refl place
        (piece_then q (q + sizes ca) (q + sizes ca + sizes rest.code) p (piece p) more first
        (λ p'. comes (t + length ta) (q + sizes ca) p' within strings (tests_back f t ta rest.tests tests) (has_back c q ca rest.code has)))

    front_of : (a : Part) (b : Part) (t q : ℕ) → HasAt c q (seq a b t q).code → HasAt c q (a t q).code
    unfolding seq
    front_of a b t q has = has_front c q (a t q).code _ has

    first_tests : (a : Part) (b : Part) (t q : ℕ) → HasTests f t (seq a b t q).tests → HasTests f t (a t q).tests
    unfolding seq
    first_tests a b t q tests = tests_front f t (a t q).tests _ tests

    pub text_comes : (text : Text) → TextComes text
    unfolding text_part said_in does
    text_comes tree.Silence t q p within strings tests has =
        alike_comes f c turning q p (Ok (goes_on p)) _ q (q + 0) (ap (λ text. Ok (goes_on (record p { text = text }))) (sym (append-nil p.text)))
        (omega arith) (stays f c turning q q p refl)
    text_comes (tree.Bytes bytes more) t q p within strings tests has =
        text_behind (one (code.Say (string bytes))) (λ p. Ok bytes) more (text_comes more) t q p within strings.1 tests has
        (one_says q (code.Say (string bytes)) p (Ok bytes) (front_of (one (code.Say (string bytes))) (text_part string k more) t q has)
        (λ r. ap (λ b. Goes (St (r + 3) [] (open_loops turning) (say b p))) strings.0))
    text_comes (tree.Figure number more) t q p within strings tests has =
        let figure = seq (number_part k number) (one code.Figure) in
        text_behind figure (λ p. next (number_in f.telling.setting (scope_in f turning) p.world number) (λ n. Ok (signed_decimal n))) more
        (text_comes more) t q p within.1 strings tests has
        (figure_comes number t q p within.0 (first_tests figure (text_part string k more) t q tests) (front_of figure (text_part string k more) t q has))
    text_comes (tree.Name naming o more) t q p within strings tests has =
        let name = these (object_code o ++ code.Name naming ∷ []) in
        let at = front_of name (text_part string k more) t q has in
        text_behind name (λ p. Ok (name_in f.telling.setting naming (object_here f turning p o))) more (text_comes more) t q p within.1 strings tests has
        (value_said {A = ℕ} q (object_code o) (code.Name naming) p (λ v. object_number (object_here f turning p o) ∷ []) (Ok 0) (λ v. Ok (name_in f.telling.setting naming (object_here f turning p o)))
        (has_back c q (object_code o) (code.Name naming ∷ []) at) (object_gives f c turning p o q [] (has_front c q (object_code o) (code.Name naming ∷ []) at))
        (λ r v. ap (λ n. Goes (St (r + 2) [] (open_loops turning) (say (name_in f.telling.setting naming n) p))) (object_back (object_here f turning p o))))
    text_comes (tree.Listing naming d more) t q p within strings tests has =
        let listing = testing (code.Names naming k) (test_code k d) in
        text_behind listing (λ p. Ok (listed f.telling.setting naming (those f.telling.setting (scope_in f turning) p.world d))) more
        (text_comes more) t q p within.1 strings tests has
        (one_says q (code.Names naming k t) p (Ok (listed f.telling.setting naming (those f.telling.setting (scope_in f turning) p.world d))) (front_of listing (text_part string k more) t q has)
        (λ r. ap (λ objects. unless_abandoned objects (λ os. Goes (St (r + 5) [] (open_loops turning) (say (listed f.telling.setting naming os) p))))
        (those_pass f t d turning r [] p within.0 (first_tests listing (text_part string k more) t q tests).0)))
    text_comes (tree.DescriptionOf o more) t q p within strings tests has =
        let described = these (object_code o ++ code.Description ∷ []) in
        let at = front_of described (text_part string k more) t q has in
        text_behind described (λ p. description_in f.telling f.now p.world (object_here f turning p o)) more (text_comes more) t q p within.1 strings tests has
        (value_said {A = ℕ} q (object_code o) code.Description p (λ v. object_number (object_here f turning p o) ∷ []) (Ok 0) (λ v. description_in f.telling f.now p.world (object_here f turning p o))
        (has_back c q (object_code o) (code.Description ∷ []) at) (object_gives f c turning p o q [] (has_front c q (object_code o) (code.Description ∷ []) at))
        (λ r v. ap (λ n. unless_abandoned (description_in f.telling f.now p.world n) (λ bytes. Goes (St (r + 1) [] (open_loops turning) (say bytes p)))) (object_back (object_here f turning p o))))
    text_comes (tree.ValueName n o more) t q p within strings tests has =
        let name = these (object_code o ++ code.ValueName n ∷ []) in
        let at = front_of name (text_part string k more) t q has in
        let said = λ (v : Option ℕ). value_name f.telling.setting n (value_at f.telling.setting p.world n v) in
        text_behind name (λ p. Ok (value_name f.telling.setting n (value_at f.telling.setting p.world n (object_here f turning p o)))) more (text_comes more) t q p within.1 strings tests has
        (value_said {A = ℕ} q (object_code o) (code.ValueName n) p (λ v. object_number (object_here f turning p o) ∷ []) (Ok 0) (λ v. Ok (said (object_here f turning p o)))
        (has_back c q (object_code o) (code.ValueName n ∷ []) at) (object_gives f c turning p o q [] (has_front c q (object_code o) (code.ValueName n ∷ []) at))
        (λ r v. ap (λ m. Goes (St (r + 2) [] (open_loops turning) (say (said m) p))) (object_back (object_here f turning p o))))
    text_comes (tree.IfSaid condition a b more) t q p within strings tests has =
        let either = choice (condition_part k condition) (text_part string k a) (text_part string k b) in
        let both = stand_front (strings_of_text a ++ strings_of_text b) (strings_of_text more) strings in
        text_behind either (λ p. next (truth_in f.telling.setting (scope_in f turning) p.world condition) (λ x. chosen x (said_in f.telling (scope_in f turning) p.world a) (said_in f.telling (scope_in f turning) p.world b)))
        more (text_comes more) t q p within.1.1.1 (stand_back (strings_of_text a ++ strings_of_text b) (strings_of_text more) strings) tests has
        (alike_comes f c turning q p _ _ _ _ (chosen_said p (truth_in f.telling.setting (scope_in f turning) p.world condition) (said_in f.telling (scope_in f turning) p.world a) (said_in f.telling (scope_in f turning) p.world b)) refl
        (either_comes condition (text_part string k a) (text_part string k b) (said a p) (said b p) t q p within.0 (first_tests either (text_part string k more) t q tests) (front_of either (text_part string k more) t q has)
        (λ t' q' ts h. text_comes a t' q' p within.1.0 (stand_front (strings_of_text a) (strings_of_text b) both) ts h)
        (λ t' q' ts h. text_comes b t' q' p within.1.1.0 (stand_back (strings_of_text a) (strings_of_text b) both) ts h)))

    -- ---- phrases that are one instruction behind values

    abbrev now_done : Attempt Progress → Attempt Done
    now_done a = next a (λ p. Ok (goes_on p))

    -- an instruction alone
    pub one_done : (q : ℕ) (i : Instruction) (p : Progress) (h : Attempt Progress) → HasAt c q (i ∷ [])
        → ((r : ℕ) → does f (St r [] (open_loops turning) p) i ≡ unless_abandoned h (λ p'. Goes (St (r + size_of i) [] (open_loops turning) p')))
        → Comes f c turning q p (now_done h) (q + sizes (i ∷ []))
    one_done q i p h has is = taken f c {A = ℕ} turning q [] i p (λ v. []) (Ok 0) (λ v. h) (subst (λ n. HasAt c n (i ∷ [])) (omega arith) has)
        (none_gives f c turning p q []) (λ r v. is r ∙ stepped r h)
      where
        stepped : (r : ℕ) (h : Attempt Progress)
            → unless_abandoned h (λ p'. Goes (St (r + size_of i) [] (open_loops turning) p'))
            ≡ step_of (next h (λ p'. Ok (St (r + size_of i) [] (open_loops turning) p')))
        stepped r (Ok p') = refl
        stepped r (Err reason) = refl

    -- behind one object
    pub object_done : (o : tree.Object) (q : ℕ) (i : Instruction) (p : Progress) (h : Option ℕ → Progress) → HasAt c q (object_code o ++ i ∷ [])
        → ((r : ℕ) (n : ℤ) → does f (St r (n ∷ []) (open_loops turning) p) i ≡ Goes (St (r + size_of i) [] (open_loops turning) (h (object_at n))))
        → Comes f c turning q p (Ok (goes_on (h (object_here f turning p o)))) (q + sizes (object_code o ++ i ∷ []))
    object_done o q i p h has is =
        taken f c {A = ℕ} turning q (object_code o) i p (λ v. object_number (object_here f turning p o) ∷ []) (Ok 0)
        (λ v. Ok (h (object_here f turning p o))) (has_back c q (object_code o) (i ∷ []) has)
        (object_gives f c turning p o q [] (has_front c q (object_code o) (i ∷ []) has))
        (λ r v. is r (object_number (object_here f turning p o)) ∙ ap (λ n. Goes (St (r + size_of i) [] (open_loops turning) (h n))) (object_back (object_here f turning p o)))

    -- behind two objects
    objects_give : (a b : tree.Object) (q : ℕ) (p : Progress) → HasAt c q (object_code a ++ object_code b)
        → Gives f c turning p q (object_code a ++ object_code b) [] (Ok (object_number (object_here f turning p b) ∷ object_number (object_here f turning p a) ∷ []))
    objects_give a b q p has =
        then_also f c (open_loops turning) p q (object_code a) (object_code b) [] (object_number (object_here f turning p a) ∷ [])
        (Ok (object_number (object_here f turning p b) ∷ object_number (object_here f turning p a) ∷ []))
        (object_gives f c turning p a q [] (has_front c q (object_code a) (object_code b) has))
        (object_gives f c turning p b (q + sizes (object_code a)) (object_number (object_here f turning p a) ∷ []) (has_back c q (object_code a) (object_code b) has))

    pub objects_done : (a b : tree.Object) (q : ℕ) (i : Instruction) (p : Progress) (h : Option ℕ → Option ℕ → Attempt Progress)
        → HasAt c q (object_code a ++ object_code b ++ i ∷ [])
        → ((r : ℕ) (m n : ℤ) → does f (St r (n ∷ m ∷ []) (open_loops turning) p) i ≡ unless_abandoned (h (object_at m) (object_at n)) (λ p'. Goes (St (r + size_of i) [] (open_loops turning) p')))
        → Comes f c turning q p (now_done (h (object_here f turning p a) (object_here f turning p b))) (q + sizes (object_code a ++ object_code b ++ i ∷ []))
    objects_done a b q i p h has is =
        taken f c {A = ℕ} turning q (object_code a ++ object_code b) i p
        (λ v. object_number (object_here f turning p b) ∷ object_number (object_here f turning p a) ∷ []) (Ok 0)
        (λ v. h (object_here f turning p a) (object_here f turning p b))
        (has_back c q (object_code a ++ object_code b) (i ∷ []) has) (objects_give a b q p (has_front c q (object_code a ++ object_code b) (i ∷ []) has))
        (λ r v. is r (object_number (object_here f turning p a)) (object_number (object_here f turning p b))
        ∙ (ap (λ m. unless_abandoned (h m (object_at (object_number (object_here f turning p b)))) (λ p'. Goes (St (r + size_of i) [] (open_loops turning) p'))) (object_back (object_here f turning p a))
        ∙ (ap (λ n. unless_abandoned (h (object_here f turning p a) n) (λ p'. Goes (St (r + size_of i) [] (open_loops turning) p'))) (object_back (object_here f turning p b))
        ∙ stepped r (h (object_here f turning p a) (object_here f turning p b)))))
      where
        stepped : (r : ℕ) (h : Attempt Progress)
            → unless_abandoned h (λ p'. Goes (St (r + size_of i) [] (open_loops turning) p'))
            ≡ step_of (next h (λ p'. Ok (St (r + size_of i) [] (open_loops turning) p')))
        stepped r (Ok p') = refl
        stepped r (Err reason) = refl

  -- ---- phrases and bodies

  abbrev done_of : List ℕ → Phrase → Progress → Attempt Done
  done_of turning phrase p = do_phrase f.telling f.inner phrase (scope_in f turning) p

  abbrev body_done_of : List ℕ → Body → Progress → Attempt Done
  body_done_of turning body p = do_body f.telling f.inner body (scope_in f turning) p

  -- what the code of a phrase, of a body comes to, wherever it stands, inside so many loops
  abbrev PhraseComes : List ℕ → ℕ → Phrase → Type 0
  PhraseComes turning n phrase = (t q : ℕ) (p : Progress) → PhraseIsWithin n phrase → AllStand (strings_of_phrase phrase)
      → HasTests f t (phrase_part string n phrase t q).tests → HasAt c q (phrase_part string n phrase t q).code
      → Comes f c turning q p (done_of turning phrase p) (q + sizes (phrase_part string n phrase t q).code)

  abbrev BodyComes : List ℕ → ℕ → Body → Type 0
  BodyComes turning n body = (t q : ℕ) (p : Progress) → BodyIsWithin n body → AllStand (strings_of_body body)
      → HasTests f t (body_part string n body t q).tests → HasAt c q (body_part string n body t q).code
      → Comes f c turning q p (body_done_of turning body p) (q + sizes (body_part string n body t q).code)

  leave_comes : (turning : List ℕ) (flow : Flow) (t q : ℕ) (p : Progress) → HasAt c q (leave_part flow t q).code
      → Comes f c turning q p (leaves flow p) (q + sizes (leave_part flow t q).code)
  unfolding does
  leave_comes turning GoesOn t q p has = stays f c turning q (q + 0) p (omega arith)
  leave_comes turning NoDecision t q p has = λ n. (1, stops_at f c (St q [] (open_loops turning) p) code.NoDecision NoDecision p 0 has.0 refl)
  leave_comes turning (Decides Success) t q p has = λ n. (1, stops_at f c (St q [] (open_loops turning) p) code.Success (Decides Success) p 0 has.0 refl)
  leave_comes turning (Decides Failure) t q p has = λ n. (1, stops_at f c (St q [] (open_loops turning) p) code.Failure (Decides Failure) p 0 has.0 refl)

  -- a number, and an instruction that takes it and what lies below
  number_done : (turning : List ℕ) (n : tree.Number) (v t q : ℕ) (p : Progress) → NumberIsWithin (length turning) n
      → HasTests f t (seq (number_part (length turning) n) (one (code.SetVar v)) t q).tests
      → HasAt c q (seq (number_part (length turning) n) (one (code.SetVar v)) t q).code
      → Comes f c turning q p (next (number_in f.telling.setting (scope_in f turning) p.world n) (λ m. changed (set_variable v m) p))
      (q + sizes (seq (number_part (length turning) n) (one (code.SetVar v)) t q).code)
  unfolding seq does
  number_done turning n v t q p within tests has =
      let cn = (number_part (length turning) n t q).code in
      taken f c turning q cn (code.SetVar v) p (λ m. m ∷ []) (number_in f.telling.setting (scope_in f turning) p.world n)
      (λ m. Ok (change (set_variable v m) p)) (has_back c q cn (code.SetVar v ∷ []) has)
      (number_gives f c turning p n t q [] within (tests_front f t (number_part (length turning) n t q).tests [] tests) (has_front c q cn (code.SetVar v ∷ []) has)) (λ r m. refl)

  property_done : (turning : List ℕ) (o : tree.Object) (n : tree.Number) (m t q : ℕ) (p : Progress) → NumberIsWithin (length turning) n
      → HasTests f t (seq (seq (these (object_code o)) (number_part (length turning) n)) (one (code.SetProp m)) t q).tests
      → HasAt c q (seq (seq (these (object_code o)) (number_part (length turning) n)) (one (code.SetProp m)) t q).code
      → Comes f c turning q p (next (number_in f.telling.setting (scope_in f turning) p.world n) (λ v. changed (make_number f.telling.setting (object_here f turning p o) m v) p))
      (q + sizes (seq (seq (these (object_code o)) (number_part (length turning) n)) (one (code.SetProp m)) t q).code)
  unfolding seq does
  property_done turning o n m t q p within tests has =
      let co = object_code o in
      let number = number_part (length turning) n (t + length {A = List Instruction} []) (q + sizes co) in
      let both = has_front c q (co ++ number.code) (code.SetProp m ∷ []) has in
      let own = tests_back f t [] number.tests (tests_front f t number.tests [] tests) in
      taken f c turning q (co ++ number.code) (code.SetProp m) p (λ v. v ∷ object_number (object_here f turning p o) ∷ [])
      (number_in f.telling.setting (scope_in f turning) p.world n)
      (λ v. Ok (change (make_number f.telling.setting (object_here f turning p o) m v) p)) (has_back c q (co ++ number.code) (code.SetProp m ∷ []) has)
      (then_also f c (open_loops turning) p q co number.code [] (object_number (object_here f turning p o) ∷ []) _ (object_gives f c turning p o q [] (has_front c q co number.code both))
      (number_gives f c turning p n (t + length {A = List Instruction} []) (q + sizes co) (object_number (object_here f turning p o) ∷ []) within own (has_back c q co number.code both)))
      (λ r v. ap (λ w. Goes (St (r + 2) [] (open_loops turning) (change (make_number f.telling.setting w m v) p))) (object_back (object_here f turning p o)))

  then_ends : (turning : List ℕ) (q r : ℕ) (p : Progress) → HasAt c q (code.Failure ∷ []) → Comes f c turning q p (leaves (Decides Failure) p) r
  unfolding does
  then_ends turning q r p has = λ n. (1, stops_at f c (St q [] (open_loops turning) p) code.Failure (Decides Failure) p 0 has.0 refl)

  -- a loop over the objects that a description means
  repeat_comes : (turning : List ℕ) (d : tree.Description) (body : Body) (t q : ℕ) (p : Progress) → DescriptionIsWithin (length turning) d
      → HasTests f t (loop (length turning) (test_code (length turning) d) (body_part string (length turning + 1) body) t q).tests
      → HasAt c q (loop (length turning) (test_code (length turning) d) (body_part string (length turning + 1) body) t q).code
      → ((o : ℕ) (p' : Progress) → Comes f c (turning ++ o ∷ []) (q + 8) p' (body_done_of (turning ++ o ∷ []) body p') (q + 8 + sizes (body_part string (length turning + 1) body (t + 1) (q + 8)).code))
      → Comes f c turning q p
      (repeat (λ o w. is_one f.telling.setting (scope_in f turning) w d o) (λ o p'. body_done_of (turning ++ o ∷ []) body p') (objects_of f.telling.setting) p)
      (q + sizes (loop (length turning) (test_code (length turning) d) (body_part string (length turning + 1) body) t q).code)
  unfolding loop
  repeat_comes turning d body t q p within tests has bodies =
      let turn = (body_part string (length turning + 1) body (t + 1) (q + 8)).code in
      let exit : ℕ = q + 8 + sizes turn + 3 in
      let eight : q + 2 + 6 ≡ q + 8 = omega arith in
      let inside = subst (λ n. HasAt c n (turn ++ code.Jump (q + 2) ∷ [])) eight has.1.1 in
      let place : exit ≡ q + (2 + (6 + sizes (turn ++ code.Jump (q + 2) ∷ []))) = omega (arith, sizes-append turn (code.Jump (q + 2) ∷ [])) in
      alike_comes f c turning q p _ _ exit _ refl place
      (loops f c turning t (q + 2) exit (λ o w. is_one f.telling.setting (scope_in f turning) w d o) (λ o p'. body_done_of (turning ++ o ∷ []) body p') (λ o w. test_says f t d turning o w within tests.0) (has.1.0, tt)
      (q + 8 + sizes turn) (has_back c (q + 8) turn (code.Jump (q + 2) ∷ []) inside)
      (λ o p'. subst (λ n. Comes f c (turning ++ o ∷ []) n p' (body_done_of (turning ++ o ∷ []) body p') (q + 8 + sizes turn)) (sym eight) (bodies o p')) p q (has.0, tt) refl)

  one_deeper : (turning : List ℕ) (o : ℕ) → length (turning ++ o ∷ []) ≡ length turning + 1
  one_deeper turning o = omega (arith, length-append turning (o ∷ []))

  -- two parts one behind the other
  seq_comes : (turning : List ℕ) (a b : Part) (done : Attempt Done) (more : Progress → Attempt Done) (t q : ℕ) (p : Progress)
      → HasTests f t (seq a b t q).tests → HasAt c q (seq a b t q).code
      → (HasTests f t (a t q).tests → HasAt c q (a t q).code → Comes f c turning q p done (q + sizes (a t q).code))
      → ((t' q' : ℕ) (p' : Progress) → HasTests f t' (b t' q').tests → HasAt c q' (b t' q').code → Comes f c turning q' p' (more p') (q' + sizes (b t' q').code))
      → Comes f c turning q p (then_do done more) (q + sizes (seq a b t q).code)
  unfolding seq
  seq_comes turning a b done more t q p tests has first second =
      let early = a t q in
      let later = b (t + length early.tests) (q + sizes early.code) in
      let place : q + sizes early.code + sizes later.code ≡ q + sizes (early.code ++ later.code) = omega (arith, sizes-append early.code later.code) in
      alike_comes f c turning q p _ _ (q + sizes early.code + sizes later.code) _ refl place
      (then_comes f c turning q (q + sizes early.code) (q + sizes early.code + sizes later.code) p done more (first (tests_front f t early.tests later.tests tests) (has_front c q early.code later.code has))
      (λ p'. second (t + length early.tests) (q + sizes early.code) p' (tests_back f t early.tests later.tests tests) (has_back c q early.code later.code has)))

  -- the body of a loop, as it stands in the loop's code
  inner_body : (body : Body) (turning : List ℕ) (o : ℕ) → BodyComes (turning ++ o ∷ []) (length (turning ++ o ∷ [])) body → BodyComes (turning ++ o ∷ []) (length turning + 1) body
  inner_body body turning o comes = subst (λ n. BodyComes (turning ++ o ∷ []) n body) (one_deeper turning o) comes

  loop_tests : (turning : List ℕ) (d : tree.Description) (body : Body) (t q : ℕ)
      → HasTests f t (loop (length turning) (test_code (length turning) d) (body_part string (length turning + 1) body) t q).tests
      → HasTests f (t + 1) (body_part string (length turning + 1) body (t + 1) (q + 8)).tests
  unfolding loop
  loop_tests turning d body t q tests = tests.1

  loop_body : (turning : List ℕ) (d : tree.Description) (body : Body) (t q : ℕ)
      → HasAt c q (loop (length turning) (test_code (length turning) d) (body_part string (length turning + 1) body) t q).code
      → HasAt c (q + 8) (body_part string (length turning + 1) body (t + 1) (q + 8)).code
  unfolding loop
  loop_body turning d body t q has =
      let turn = (body_part string (length turning + 1) body (t + 1) (q + 8)).code in
      let eight : q + 2 + 6 ≡ q + 8 = omega arith in
      has_front c (q + 8) turn (code.Jump (q + 2) ∷ []) (subst (λ n. HasAt c n (turn ++ code.Jump (q + 2) ∷ [])) eight has.1.1)

  mutual
    unfolding phrase_part do_phrase body_part do_body does strings_of_phrase strings_of_body

    phrase_comes : (phrase : Phrase) (turning : List ℕ) → PhraseComes turning (length turning) phrase
    phrase_comes (tree.Say text) turning t q p within strings tests has = text_comes turning text t q p within strings tests has
    phrase_comes (tree.NowIs o n value) turning t q p within strings tests has =
        object_done turning o q (code.SetFlag n value) p (λ v. change (make_so f.telling.setting v n value) p) has (λ r v. refl)
    phrase_comes (tree.NowHeld o r holder) turning t q p within strings tests has =
        objects_done turning o holder q (code.PutAt r) p (λ a b. Ok (change (put f.telling.setting a r b) p)) has (λ s a b. refl)
    phrase_comes (tree.NowNowhere o) turning t q p within strings tests has =
        object_done turning o q code.Away p (λ v. change (take_away f.telling.setting v) p) has (λ r v. refl)
    phrase_comes (tree.Move o holder) turning t q p within strings tests has =
        objects_done turning o holder q code.Move p (λ a b. Ok (change (move f.telling.setting a b) p)) has (λ s a b. refl)
    phrase_comes (tree.NowNumber n o number) turning t q p within strings tests has = property_done turning o number n t q p within.1 tests has
    phrase_comes (tree.NowVariable v number) turning t q p within strings tests has = number_done turning number v t q p within tests has
    phrase_comes (tree.NowValued o n value) turning t q p within strings tests has =
        object_done turning o q (code.SetValue n value) p (λ v. change (make_value f.telling.setting v n value) p) has (λ r v. refl)
    phrase_comes (tree.Try silent action noun second) turning t q p within strings tests has =
        objects_done turning noun second q (code.Try silent action) p
        (λ a b. f.inner.tries (record { action = action; noun = a; second = b; silent = silent }) p) has (λ s a b. refl)
    phrase_comes (tree.Follow book) turning t q p within strings tests has = one_done turning q (code.Follow book) p (f.inner.follows book f.now p) has (λ r. refl)
    phrase_comes (tree.Leave flow) turning t q p within strings tests has = leave_comes turning flow t q p has
    phrase_comes (tree.EndStory text) turning t q p within strings tests has =
        one_done turning q (code.EndStory (string text)) p (Ok (change (end_with text) p)) has
        (λ r. ap (λ b. Goes (St (r + 3) [] (open_loops turning) (change (end_with b) p))) strings.0)
    phrase_comes (tree.If condition a b) turning t q p within strings tests has =
        either_comes turning condition (body_part string (length turning) a) (body_part string (length turning) b) (body_done_of turning a p)
        (body_done_of turning b p) t q p within.0 tests has
        (λ t' q' ts h. body_comes a turning t' q' p within.1.0 (stand_front (strings_of_body a) (strings_of_body b) strings) ts h)
        (λ t' q' ts h. body_comes b turning t' q' p within.1.1 (stand_back (strings_of_body a) (strings_of_body b) strings) ts h)
    phrase_comes (tree.Repeat d body) turning t q p within strings tests has =
        repeat_comes turning d body t q p within.0 tests has
        (λ o p'. inner_body body turning o (body_comes body (turning ++ o ∷ [])) (t + 1) (q + 8) p' within.1 strings (loop_tests turning d body t q tests) (loop_body turning d body t q has))
    phrase_comes (tree.Instead phrase) turning t q p within strings tests has =
        seq_comes turning (phrase_part string (length turning) phrase) (one code.Failure) (done_of turning phrase p) (leaves (Decides Failure)) t q p tests has
        (λ ts h. phrase_comes phrase turning t q p within strings ts h) (λ t' q' p' ts h. then_ends turning q' (q' + 1) p' h)

    pub body_comes : (body : Body) (turning : List ℕ) → BodyComes turning (length turning) body
    body_comes tree.End turning t q p within strings tests has = stays f c turning q (q + 0) p (omega arith)
    body_comes (tree.Then phrase body) turning t q p within strings tests has =
        seq_comes turning (phrase_part string (length turning) phrase) (body_part string (length turning) body) (done_of turning phrase p)
        (body_done_of turning body) t q p tests has
        (λ ts h. phrase_comes phrase turning t q p within.0 (stand_front (strings_of_phrase phrase) (strings_of_body body) strings) ts h)
        (λ t' q' p' ts h. body_comes body turning t' q' p' within.1 (stand_back (strings_of_phrase phrase) (strings_of_body body) strings) ts h)
