-- The codes of phrases that fit find what they need, and leave nothing.
use Rattle.std.proofs.Common.{◌≡◌, subst, refl, ℕ, ◌+◌, ◌==◌, ◌&&◌, nat_lt, true, List, [], ◌∷◌, ◌++◌, append-nil, length, None, Some, arith}
use Rattle.std.specs.Prelude.{slice_index_or}
use Rattle.std.proofs.lemmas.Bool.{and_from, and_parts, eq-eqb}
use Rattle.play_meaning.specs.Instructions.{sizes}
use Rattle.play_meaning.specs.Operands.{below, may_hold, names_what_is_there, operands_behind, with_given}
use Rattle.play_meaning.specs.SoundCodes.{loops_around, way_of}
use Rattle.play_meaning.specs.Translation.{Part, body_part, condition_part, leave_part, loop, number_part, object_code, one, phrase_part, seq, test_code, these}
use Rattle.play_meaning.specs.Trees as tree
use Rattle.play_meaning.specs.Trees.{Description, Phrase}
use Rattle.play_meaning.specs.declared.instruction.Instruction.{Instruction}
use Rattle.play_meaning.specs.declared.instruction.Instruction.TheVariants as i
use Rattle.play_meaning.specs.declared.operand.Counts.{Counts}
use Rattle.play_meaning.specs.declared.operand.Sort.{Sort}
use Rattle.play_meaning.specs.declared.operand.Sort.TheVariants.{Number, Object}
use Rattle.play_meaning.specs.declared.operand.Use.TheVariants.{Body}
use Rattle.play_meaning.specs.declared.outcome.Flow.{Flow}
use Rattle.play_meaning.specs.declared.outcome.Flow.TheVariants.{Decides, GoesOn, NoDecision}
use Rattle.play_meaning.specs.declared.outcome.Outcome.TheVariants.{Failure, Success}
use Rattle.play_meaning.specs.declared.way.OpenLoop.{OpenLoop}
use Rattle.play_meaning.specs.declared.way.Way.TheVariants.{Ends}
use Rattle.story_code.specs.Fitting.{BodyFits, HeldFits, ObjectFits, PhraseFits, TestFits}
use Rattle.story_code.specs.Runs.{test_named}
use Rattle.story_code.specs.SoundlyEmitted.{IsSoundTest, NameInTurn}
use Rattle.story_code.proofs.SoundWays.{carries_loop}
use Rattle.story_code.proofs.SoundParts.{carries_end}
use Rattle.story_code.proofs.SoundDescriptions.{Names, named_here, object_gives, is_below}
use Rattle.story_code.proofs.SoundConditions.{condition_gives, number_gives, opens_test, test_sound}
use Rattle.story_code.proofs.InTurn.{names-append, names_none}
use Rattle.story_code.proofs.SoundTexts.{Does, IsPlain, bodies_say, does_choice, does_nothing, does_one, does_seq, takes_one, takes_two, text_does}

module _ (z : Counts) (own : ℕ) (string : List ℕ → ℕ) where
  module _ (loops : List OpenLoop) (k : ℕ) (deep : loops_around Body + length loops ≡ k) where
    abbrev BodyDoes : Part → Type 0
    BodyDoes = Does z own Body loops k deep

    ends : (x : Instruction) → may_hold Body x ≡ true → test_named x ≡ None → way_of x ≡ Ends → Names z own Body loops k deep x → operands_behind (record z { own = own }) x [] ≡ Some []
        → BodyDoes (one x)
    ends x allowed none way names typed t q numbers =
        (carries_end (record z { own = own }) Body loops [] [] q x allowed allowed (named_here z own Body loops k deep x names) typed way, names_none (record z { own = own }) x t none)

    leaves : (flow : Flow) → BodyDoes (leave_part flow)
    unfolding may_hold names_what_is_there operands_behind
    leaves GoesOn = does_nothing z own Body loops k deep
    leaves NoDecision = ends i.NoDecision refl refl refl refl refl
    leaves (Decides Success) = ends i.Success refl refl refl refl refl
    leaves (Decides Failure) = ends i.Failure refl refl refl refl refl

    -- what a phrase does with the object that it names, or with two
    with_one : (o : tree.Object) (x : Instruction) → IsPlain z own Body loops k deep x
        → ((a : Sort) → operands_behind (record z { own = own }) x (a ∷ []) ≡ with_given None (below (Object ∷ []) (a ∷ []))) → ObjectFits z k 0 o
        → BodyDoes (these (object_code o ++ x ∷ []))
    unfolding seq
    with_one o x is takes fits = takes_one z own Body loops k deep Object (these (object_code o)) x is takes (object_gives z own Body loops k deep o 0 fits)

    with_two : (o holder : tree.Object) (x : Instruction) → IsPlain z own Body loops k deep x
        → ((a b : Sort) → operands_behind (record z { own = own }) x (b ∷ a ∷ []) ≡ with_given None (below (Object ∷ Object ∷ []) (b ∷ a ∷ []))) → HeldFits z k 0 o holder
        → BodyDoes (these (object_code o ++ object_code holder ++ x ∷ []))
    unfolding seq
    with_two o holder x is takes fits =
        takes_two z own Body loops k deep Object Object (these (object_code o)) (these (object_code holder)) x is takes
        (object_gives z own Body loops k deep o 0 fits.0) (object_gives z own Body loops k deep holder 1 fits.1)

    -- a loop over what passes a test
    repeats : (d : Description) (body : Part) → TestFits z k d
        → ((inside : OpenLoop) (deeper : loops_around Body + length (inside ∷ loops) ≡ k + 1) → Does z own Body (inside ∷ loops) (k + 1) deeper body)
        → BodyDoes (loop k (test_code k d) body)
    unfolding loop may_hold names_what_is_there operands_behind
    repeats d body fits does t q numbers =
        let turn = body (t + 1) (q + 8) in
        let exit = q + 8 + sizes turn.code + 3 in
        let inside : OpenLoop = record { head = q + 2; exit = exit } in
        let deeper : 0 + length (inside ∷ loops) ≡ k + 1 = omega (arith, deep) in
        let turned = does inside deeper (t + 1) (q + 8) (record { behind = omega (arith, numbers.behind); there = omega (arith, numbers.there) }) in
        let may = opens_test z own Body loops k deep t fits.0 numbers.behind (omega (arith, numbers.there)) in
        let opens : ((k == k) && nat_lt k 9) && true ≡ true = and_from ((k == k) && nat_lt k 9) true (and_parts ((k == k) && nat_lt k 9) _ may).0 refl in
        let turns : ((k + 1 == k + 1) && ((nat_lt own t && nat_lt t z.codes) && true)) ≡ true =
        and_from (k + 1 == k + 1) ((nat_lt own t && nat_lt t z.codes) && true) (eq-eqb (k + 1) (k + 1) refl) (and_parts ((k == k) && nat_lt k 9) _ may).1 in
        let code = turn.code ++ i.Jump (q + 2) ∷ [] in (
          carries_loop (record z { own = own }) Body loops q k t turn.code refl refl refl (named_here z own Body loops k deep (i.Begin k) opens)
              (named_here z own Body (inside ∷ loops) (k + 1) deeper (i.Next k t exit) turns) turned.0,
          (
            refl,
            (
              test_sound z k d t fits.1 (omega (arith, numbers.there)),
              subst (NameInTurn (IsSoundTest (record z { own = own })) code (t + 1)) (append-nil turn.tests)
                  (names-append (record z { own = own }) turn.code (i.Jump (q + 2) ∷ []) (t + 1) turn.tests [] turned.1 refl),
            ),
          ),
        )

  mutual
    unfolding may_hold phrase_part seq names_what_is_there operands_behind

    pub phrase_does : (phrase : Phrase) (loops : List OpenLoop) (k : ℕ) (deep : loops_around Body + length loops ≡ k) → PhraseFits z string k phrase
        → Does z own Body loops k deep (phrase_part string k phrase)
    phrase_does (tree.Say text) loops k deep fits = text_does z own Body loops k deep bodies_say string text fits
    phrase_does (tree.NowIs o p value) loops k deep fits =
        with_one loops k deep o (i.SetFlag p value) (refl, refl, refl, refl, is_below p z.flags fits.0) (λ a. refl) fits.1
    phrase_does (tree.NowHeld o r holder) loops k deep fits =
        with_two loops k deep o holder (i.PutAt r) (refl, refl, refl, refl, refl) (λ a b. refl) fits
    phrase_does (tree.NowNowhere o) loops k deep fits = with_one loops k deep o i.Away (refl, refl, refl, refl, refl) (λ a. refl) fits
    phrase_does (tree.Move o holder) loops k deep fits =
        with_two loops k deep o holder i.Move (refl, refl, refl, refl, refl) (λ a b. refl) fits
    phrase_does (tree.NowNumber p o number) loops k deep fits =
        takes_two z own Body loops k deep Object Number (these (object_code o)) (number_part k number) (i.SetProp p)
        (refl, refl, refl, refl, is_below p z.numbers fits.0) (λ a b. refl)
        (object_gives z own Body loops k deep o 0 fits.1.0) (number_gives z own Body loops k deep number 1 fits.1.1)
    phrase_does (tree.NowVariable v number) loops k deep fits =
        takes_one z own Body loops k deep Number (number_part k number) (i.SetVar v)
        (refl, refl, refl, refl, is_below v z.variables fits.0) (λ a. refl)
        (number_gives z own Body loops k deep number 0 fits.1)
    phrase_does (tree.NowValued o q value) loops k deep fits =
        with_one loops k deep o (i.SetValue q value) (refl, refl, refl, refl, is_below value (slice_index_or z.values q 0) fits.0) (λ a. refl) fits.1
    phrase_does (tree.Try silent action noun second) loops k deep fits =
        with_two loops k deep noun second (i.Try silent action)
        (refl, refl, refl, refl, is_below action z.actions fits.0) (λ a b. refl) fits.1
    phrase_does (tree.Follow book) loops k deep fits =
        does_one z own Body loops k deep (i.Follow book) (refl, refl, refl, refl, is_below book z.books fits) refl
    phrase_does (tree.Leave flow) loops k deep fits = leaves loops k deep flow
    phrase_does (tree.EndStory text) loops k deep fits =
        does_one z own Body loops k deep (i.EndStory (string text))
        (refl, refl, refl, refl, is_below (string text) z.strings fits) refl
    phrase_does (tree.If condition a b) loops k deep fits =
        does_choice z own Body loops k deep bodies_say (condition_part k condition) (body_part string k a) (body_part string k b)
        (condition_gives z own Body loops k deep condition 0 fits.0) (body_does a loops k deep fits.1.0) (body_does b loops k deep fits.1.1)
    phrase_does (tree.Repeat d body) loops k deep fits =
        repeats loops k deep d (body_part string (k + 1) body) fits.0 (λ inside deeper. body_does body (inside ∷ loops) (k + 1) deeper fits.1)
    phrase_does (tree.Instead phrase) loops k deep fits =
        does_seq z own Body loops k deep (phrase_part string k phrase) (one i.Failure) (phrase_does phrase loops k deep fits) (ends loops k deep i.Failure refl refl refl refl refl)

    pub body_does : (body : tree.Body) (loops : List OpenLoop) (k : ℕ) (deep : loops_around Body + length loops ≡ k) → BodyFits z string k body
        → Does z own Body loops k deep (body_part string k body)
    body_does tree.End loops k deep fits = does_nothing z own Body loops k deep
    body_does (tree.Then phrase body) loops k deep fits =
        does_seq z own Body loops k deep (phrase_part string k phrase) (body_part string k body) (phrase_does phrase loops k deep fits.0) (body_does body loops k deep fits.1)
