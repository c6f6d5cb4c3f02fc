-- What the transcript begins with, and how it grows line by line.
use Rattle.std.proofs.Common.{◌≡◌, ℕ, Bool, true, false, List, [], ◌∷◌, ◌++◌, length, Some, None, refl, ap, sym, ◌∙◌, subst, append_assoc}
use Rattle.std.specs.Prelude.{Option}
use Rattle.std.proofs.lemmas.List.{append-nil}
use Rattle.play_meaning.specs.Games.{Game}
use Rattle.play_meaning.specs.Sessions.{State, answer_of}
use Rattle.world_meaning.specs.Texts.{prompt}
use Rattle.play_meaning.specs.Transcripts.{Exchange, behind, behind_lines, echoed, exchanges, first_refusal, later_refusals, played, told, told_out, while_going}
use Rattle.world_meaning.specs.declared.session.Ending.{Ending}
use Rattle.story_player.specs.Runs.{IsFront}
use Rattle.story_player.specs.Steps.{shown}
use Rattle.story_player.proofs.Fronts.{front-append, front-behind, front_self, front_nothing, front_first}

-- a line and its answer
abbrev pub exchange : Game → Option ℕ → State → List ℕ → Exchange
exchange g refused state line = record { line = line; answer = answer_of g refused state line }

-- what is written for a line behind the prompt
abbrev pub line_part : Game → Bool → Option ℕ → State → List ℕ → List ℕ
line_part g echo refused state line = echoed echo line ++ (answer_of g refused state line).text

-- while nothing has ended the next line is answered, and after the end none is
pub exchanges-going : (g : Game) (refusals : List (Option ℕ)) (state : State) (line : List ℕ) (lines : List (List ℕ)) → state.ending ≡ None → exchanges g refusals state (line ∷ lines) ≡ exchange g (first_refusal refusals) state line ∷ exchanges g (later_refusals refusals) (answer_of g (first_refusal refusals) state line).state lines
exchanges-going g refusals state line lines going =
    ap (λ e. while_going e (exchange g (first_refusal refusals) state line ∷ exchanges g (later_refusals refusals) (answer_of g (first_refusal refusals) state line).state lines)) going

pub exchanges-over : (g : Game) (refusals : List (Option ℕ)) (state : State) (lines : List (List ℕ)) (ending : Ending) → state.ending ≡ Some ending → exchanges g refusals state lines ≡ []
exchanges-over g refusals state [] ending over = refl
exchanges-over g refusals state (line ∷ lines) ending over =
    ap (λ e. while_going e (exchange g (first_refusal refusals) state line ∷ exchanges g (later_refusals refusals) (answer_of g (first_refusal refusals) state line).state lines)) over

pub told-append : (echo : Bool) (xs ys : List Exchange) → told echo (xs ++ ys) ≡ told echo xs ++ told echo ys
told-append echo [] ys = refl
told-append echo (x ∷ xs) ys =
    let here = prompt ++ echoed echo x.line ++ x.answer.text in
    ap (λ text. here ++ text) (told-append echo xs ys) ∙ sym (append_assoc here (told echo xs) (told echo ys))

pub behind-append : (state : State) (xs ys : List Exchange) → behind state (xs ++ ys) ≡ behind (behind state xs) ys
behind-append state [] ys = refl
behind-append state (x ∷ xs) ys = behind-append x.answer.state xs ys

-- lines behind others
pub exchanges-append : (g : Game) (refusals more : List (Option ℕ)) (state : State) (lines others : List (List ℕ)) → length refusals ≡ length lines → exchanges g (refusals ++ more) state (lines ++ others) ≡ exchanges g refusals state lines ++ exchanges g more (behind_lines g refusals state lines) others
exchanges-append g [] more state [] others same = refl
exchanges-append g (refused ∷ refusals) more state [] others same = absurd cc
exchanges-append g [] more state (line ∷ lines) others same = absurd cc
exchanges-append g (refused ∷ refusals) more state (line ∷ lines) others same =
    let Goal : Option Ending → Type 0 = λ e. state.ending ≡ e → exchanges g (refused ∷ (refusals ++ more)) state (line ∷ (lines ++ others)) ≡ exchanges g (refused ∷ refusals) state (line ∷ lines) ++ exchanges g more (behind_lines g (refused ∷ refusals) state (line ∷ lines)) others in
    elim state.ending as Goal [
      | None ↦ λ going. appended_going g refused refusals more state line lines others going (exchanges-append g refusals more (answer_of g refused state line).state lines others cc)
      | Some ending ↦ λ over. appended_over g refused refusals more state line lines others ending over
    ] refl
  where
    appended_going : (g : Game) (refused : Option ℕ) (refusals more : List (Option ℕ)) (state : State) (line : List ℕ) (lines others : List (List ℕ)) → state.ending ≡ None → exchanges g (refusals ++ more) (answer_of g refused state line).state (lines ++ others) ≡ exchanges g refusals (answer_of g refused state line).state lines ++ exchanges g more (behind_lines g refusals (answer_of g refused state line).state lines) others → exchanges g (refused ∷ (refusals ++ more)) state (line ∷ (lines ++ others)) ≡ exchanges g (refused ∷ refusals) state (line ∷ lines) ++ exchanges g more (behind_lines g (refused ∷ refusals) state (line ∷ lines)) others
    appended_going g refused refusals more state line lines others going rest =
        let first = exchanges-going g (refused ∷ refusals) state line lines going in
        exchanges-going g (refused ∷ (refusals ++ more)) state line (lines ++ others) going
        ∙ ap (λ xs. exchange g refused state line ∷ xs) rest
        ∙ ap (λ xs. xs ++ exchanges g more (behind state xs) others) (sym first)

    appended_over : (g : Game) (refused : Option ℕ) (refusals more : List (Option ℕ)) (state : State) (line : List ℕ) (lines others : List (List ℕ)) (ending : Ending) → state.ending ≡ Some ending → exchanges g (refused ∷ (refusals ++ more)) state (line ∷ (lines ++ others)) ≡ exchanges g (refused ∷ refusals) state (line ∷ lines) ++ exchanges g more (behind_lines g (refused ∷ refusals) state (line ∷ lines)) others
    appended_over g refused refusals more state line lines others ending over =
        let none = exchanges-over g (refused ∷ refusals) state (line ∷ lines) ending over in
        exchanges-over g (refused ∷ (refusals ++ more)) state (line ∷ (lines ++ others)) ending over
        ∙ sym (exchanges-over g more state others ending over)
        ∙ ap (λ xs. xs ++ exchanges g more (behind state xs) others) (sym none)

-- the state behind the lines and the others
pub behind_lines-append : (g : Game) (refusals more : List (Option ℕ)) (state : State) (lines others : List (List ℕ)) → length refusals ≡ length lines → behind_lines g (refusals ++ more) state (lines ++ others) ≡ behind_lines g more (behind_lines g refusals state lines) others
behind_lines-append g refusals more state lines others same =
    ap (λ xs. behind state xs) (exchanges-append g refusals more state lines others same)
    ∙ behind-append state (exchanges g refusals state lines) (exchanges g more (behind_lines g refusals state lines) others)

-- what is written for the lines, and for the others where none follows them
pub played-append : (g : Game) (echo : Bool) (refusals more : List (Option ℕ)) (state : State) (lines others : List (List ℕ)) → length refusals ≡ length lines → played g echo (refusals ++ more) state (lines ++ others) ≡ told echo (exchanges g refusals state lines) ++ played g echo more (behind_lines g refusals state lines) others
played-append g echo refusals more state lines others same =
    let first = exchanges g refusals state lines in
    let last = behind_lines g refusals state lines in
    let second = exchanges g more last others in
    ap (λ xs. told_out echo state xs) (exchanges-append g refusals more state lines others same)
    ∙ ap (λ text. text ++ while_going (behind state (first ++ second)).ending prompt) (told-append echo first second)
    ∙ ap (λ s. (told echo first ++ told echo second) ++ while_going s.ending prompt) (behind-append state first second)
    ∙ append_assoc (told echo first) (told echo second) (while_going (behind last second).ending prompt)

-- one line is answered
pub exchanges-line : (g : Game) (refused : Option ℕ) (state : State) (line : List ℕ) → state.ending ≡ None → exchanges g (refused ∷ []) state (line ∷ []) ≡ exchange g refused state line ∷ []
exchanges-line g refused state line going = exchanges-going g (refused ∷ []) state line [] going

-- the play of one line
pub played-line : (g : Game) (echo : Bool) (refused : Option ℕ) (state : State) (line : List ℕ) → state.ending ≡ None → played g echo (refused ∷ []) state (line ∷ []) ≡ (prompt ++ line_part g echo refused state line) ++ while_going (answer_of g refused state line).state.ending prompt
played-line g echo refused state line going =
    ap (λ xs. told_out echo state xs) (exchanges-line g refused state line going)
    ∙ ap (λ bs. bs ++ while_going (answer_of g refused state line).state.ending prompt) (append-nil (prompt ++ line_part g echo refused state line))

pub behind-line : (g : Game) (refused : Option ℕ) (state : State) (line : List ℕ) → state.ending ≡ None → behind_lines g (refused ∷ []) state (line ∷ []) ≡ (answer_of g refused state line).state
behind-line g refused state line going = ap (λ xs. behind state xs) (exchanges-line g refused state line going)

pub played-none : (g : Game) (echo : Bool) (refusals : List (Option ℕ)) (state : State) → state.ending ≡ None → played g echo refusals state [] ≡ prompt
played-none g echo refusals state going = ap (λ e. while_going e prompt) going

-- the prompt comes first, and then what is shown of the front of the first line
pub shown_in_echo : (echo : Bool) (front line : List ℕ) → IsFront front line → IsFront (shown echo front) (echoed echo line)
shown_in_echo true front line begins = front-append front line (10 ∷ []) begins
shown_in_echo false front line begins = front_nothing []

pub front_shown : (g : Game) (echo : Bool) (refusals : List (Option ℕ)) (state : State) (front line : List ℕ) (lines : List (List ℕ)) → state.ending ≡ None → IsFront front line → IsFront (prompt ++ shown echo front) (played g echo refusals state (line ∷ lines))
front_shown g echo refusals state front line lines going begins =
    let refused = first_refusal refusals in
    let text = (answer_of g refused state line).text in
    let others = exchanges g (later_refusals refusals) (answer_of g refused state line).state lines in
    let showing = prompt ++ shown echo front in
    subst (λ xs. IsFront showing (told_out echo state xs)) (sym (exchanges-going g refusals state line lines going))
    (front-append showing (told echo (exchange g refused state line ∷ others)) (while_going (behind state (exchange g refused state line ∷ others)).ending prompt)
    (front-append showing (prompt ++ line_part g echo refused state line) (told echo others)
    (front-behind prompt (shown echo front) (line_part g echo refused state line)
    (front-append (shown echo front) (echoed echo line) text (shown_in_echo echo front line begins)))))

pub prompt_first : (g : Game) (echo : Bool) (refusals : List (Option ℕ)) (state : State) (lines : List (List ℕ)) → state.ending ≡ None → IsFront prompt (played g echo refusals state lines)
prompt_first g echo refusals state [] going = subst (λ bs. IsFront prompt bs) (sym (played-none g echo refusals state going)) (front_self prompt)
prompt_first g echo refusals state (line ∷ lines) going =
    let refused = first_refusal refusals in
    let others = exchanges g (later_refusals refusals) (answer_of g refused state line).state lines in
    subst (λ xs. IsFront prompt (told_out echo state xs)) (sym (exchanges-going g refusals state line lines going))
    (front-append prompt (told echo (exchange g refused state line ∷ others)) (while_going (behind state (exchange g refused state line ∷ others)).ending prompt)
    (front-append prompt (prompt ++ line_part g echo refused state line) (told echo others)
    (front_first prompt (line_part g echo refused state line))))
