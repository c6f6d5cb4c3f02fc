-- Small stories about lines of several commands, and about commands for all things.
use Rattle.std.specs.Prelude.{List, [], codes, None, Some, ℕ, ◌∷◌}
use Rattle.world_meaning.specs.declared.article.Article.TheVariants as article
use Rattle.world_meaning.specs.declared.place.Rel.TheVariants.{In, Carried, Part, Worn}
use Rattle.play_meaning.specs.Consulting.{after_book}
use Rattle.play_meaning.specs.Rows.{at, blank, here, in_hall, item, rule_of}
use Rattle.play_meaning.specs.Rules.{Anything, Exactly, Rule}
use Rattle.play_meaning.specs.Settings.{container_kind, described_flag, fixed_in_place_flag, open_flag, person_kind, scenery_flag, supporter_kind, thing_kind, wearable_flag}
use Rattle.play_meaning.specs.Sketches.{Sketch}
use Rattle.play_meaning.specs.StandardActions.{taking}
use Rattle.play_meaning.specs.StandardRules.{only}
use Rattle.play_meaning.specs.Trees.{EndStory}

abbrev pub ball_and_lamp_with : List Rule → Sketch
ball_and_lamp_with rules = in_hall (here thing_kind (codes "ball") [] ∷ here thing_kind (codes "lamp") [] ∷ []) rules

unfoldable pub ball_and_lamp : Sketch
ball_and_lamp = ball_and_lamp_with []

-- who has taken the ball has won
unfoldable pub ball_wins : Sketch
ball_wins = ball_and_lamp_with (rule_of after_book (Some taking) (Exactly 14) Anything None (only (EndStory (codes "You have won"))) ∷ [])

-- a coin in an open box that a knob is part of, Bob, a statue, a table that stays where it is, and a pen and a hat that the
-- player has
unfoldable pub much_about : Sketch
much_about = in_hall
    (here container_kind (codes "box") (open_flag ∷ []) ∷ item thing_kind (codes "coin") article.A (at In 14) (described_flag ∷ [])
    ∷ item person_kind (codes "Bob") article.None (at In 13) (described_flag ∷ []) ∷ here thing_kind (codes "statue") (scenery_flag ∷ [])
    ∷ here supporter_kind (codes "table") (fixed_in_place_flag ∷ []) ∷ item thing_kind (codes "knob") article.A (at Part 14) (described_flag ∷ [])
    ∷ item thing_kind (codes "pen") article.A (at Carried 0) (described_flag ∷ [])
    ∷ item thing_kind (codes "hat") article.A (at Worn 0) (described_flag ∷ wearable_flag ∷ []) ∷ [])
    []

-- ---- what is shown

unfoldable pub ball_and_lamp_shown : List (List ℕ)
ball_and_lamp_shown =
    codes "Hall" ∷ codes "You can see a ball and a lamp here." ∷ blank
    ∷ codes ">take all" ∷ codes "ball: Taken." ∷ codes "lamp: Taken." ∷ blank
    ∷ codes ">drop all. look" ∷ codes "ball: Dropped." ∷ codes "lamp: Dropped." ∷ blank ∷ codes "Hall" ∷ codes "You can see a ball and a lamp here." ∷ blank
    ∷ codes ">take all then take everything" ∷ codes "ball: Taken." ∷ codes "lamp: Taken." ∷ blank ∷ codes "There is nothing to do that to." ∷ blank
    ∷ codes ">undo. undo. i" ∷ codes "Previous turn undone." ∷ blank ∷ codes "Previous turn undone." ∷ blank ∷ codes "You are carrying nothing." ∷ blank
    ∷ codes ">z. frob. z" ∷ codes "Time passes." ∷ blank ∷ codes "I don't know that verb." ∷ blank
    ∷ codes ">. then ." ∷ codes "I beg your pardon?" ∷ blank ∷ codes ">" ∷ []

-- memory is refused in the second command of the first line
unfoldable pub second_refused_shown : List (List ℕ)
second_refused_shown =
    codes "Hall" ∷ codes "You can see a ball and a lamp here." ∷ blank
    ∷ codes ">take ball.take lamp THEN look" ∷ codes "Taken." ∷ blank ∷ codes "[The turn was abandoned: out of memory.]" ∷ blank
    ∷ codes ">i" ∷ codes "You are carrying a ball." ∷ blank ∷ codes ">" ∷ []

unfoldable pub ball_wins_shown : List (List ℕ)
ball_wins_shown =
    codes "Hall" ∷ codes "You can see a ball and a lamp here." ∷ blank
    ∷ codes ">z. get all. look" ∷ codes "Time passes." ∷ blank ∷ codes "ball: " ∷ blank ∷ codes "*** You have won ***" ∷ blank ∷ []

unfoldable pub much_about_shown : List (List ℕ)
much_about_shown =
    codes "Hall" ∷ codes "You can see a box, Bob and a table here." ∷ blank
    ∷ codes ">get everything" ∷ codes "box: Taken." ∷ codes "coin: Taken." ∷ blank
    ∷ codes ">drop the all" ∷ codes "You can't see any such thing." ∷ blank
    ∷ codes ">put down ALL.undo.undo" ∷ codes "box: Dropped." ∷ codes "coin: Dropped." ∷ codes "pen: Dropped." ∷ blank
    ∷ codes "Previous turn undone." ∷ blank ∷ codes "Previous turn undone." ∷ blank
    ∷ codes ">i" ∷ codes "You are carrying a pen." ∷ codes "You are wearing a hat." ∷ blank ∷ codes ">" ∷ []

-- of two boxes
unfoldable pub asked_in_a_line_shown : List (List ℕ)
asked_in_a_line_shown =
    codes "Hall" ∷ codes "You can see a red box and a blue box here." ∷ blank
    ∷ codes ">open box. look" ∷ codes "Which do you mean, the red box or the blue box?" ∷ blank
    ∷ codes ">red. i" ∷ codes "You open the red box." ∷ blank ∷ codes "You are carrying nothing." ∷ blank ∷ codes ">" ∷ []
