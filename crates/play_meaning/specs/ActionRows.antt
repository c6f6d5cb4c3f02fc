-- Small stories about what an action passes, and about commands.
use Rattle.std.specs.Prelude.{ℕ, pos, false, List, [], ◌∷◌, None, Some, codes}
use Rattle.world_meaning.specs.declared.article.Article.TheVariants as article
use Rattle.world_meaning.specs.declared.place.Rel.TheVariants.{In, On, Carried}
use Rattle.play_meaning.specs.Consulting.{instead_book, report_book}
use Rattle.play_meaning.specs.Grammar.{Something, Word}
use Rattle.play_meaning.specs.Rows.{at, blank, here, in_hall, item, rule_of, says, with_rules}
use Rattle.play_meaning.specs.Rules.{Anything, Exactly}
use Rattle.play_meaning.specs.Settings.{container_kind, described_flag, lit_flag, open_flag, openable_flag, room_kind, supporter_kind, thing_kind, transparent_flag}
use Rattle.play_meaning.specs.Sketches.{Item, Sketch}
use Rattle.play_meaning.specs.StandardActions.{asking, jumping, taking, waiting}
use Rattle.play_meaning.specs.StandardRules.{line, only, plain, standard_rules}
use Rattle.play_meaning.specs.Trees.{Body, Bytes, Definite, Figure, Follow, IsAtMost, IsLess, Literal, Name, Nothing, Noun, NowVariable, Plus, Say, The, Then, Try, Variable}
use Rattle.world_meaning.specs.declared.needs.Slot.TheVariants.{Carried as Held, Touched}

-- a ball, scales, and a coin in a closed box of glass; weighing wants its first noun carried and its second touched
unfoldable pub weighing : Sketch
weighing = record (in_hall
    (here thing_kind (codes "ball") [] ∷ here thing_kind (codes "scales") []
    ∷ item thing_kind (codes "coin") article.A (at In 17) (described_flag ∷ []) ∷ here container_kind (codes "box") (transparent_flag ∷ []) ∷ [])
    (rule_of report_book (Some 16) Anything Anything None (says (codes "Weighed.")) ∷ [])) {
      actions = asking Held Touched false ∷ [];
      lines = record { action = 16; tokens = Word (codes "weigh") ∷ Something ∷ Word (codes "with") ∷ Something ∷ [] } ∷ [];
    }

-- a dark cave, and a lit lamp in a closed bag that the player carries
unfoldable pub lamp_in_bag : Sketch
lamp_in_bag = with_rules
    (item room_kind (codes "Cave") article.A None [] ∷ item container_kind (codes "bag") article.A (at Carried 0) (openable_flag ∷ described_flag ∷ [])
    ∷ item thing_kind (codes "lamp") article.A (at In 14) (lit_flag ∷ described_flag ∷ []) ∷ [])
    standard_rules

-- a ball on a table
unfoldable pub ball_on_table : Sketch
ball_on_table = in_hall (item thing_kind (codes "ball") article.A (at On 15) (described_flag ∷ []) ∷ here supporter_kind (codes "table") [] ∷ []) []

-- a ball in a box
unfoldable pub ball_in_box : Sketch
ball_in_box = in_hall (item thing_kind (codes "ball") article.A (at In 15) (described_flag ∷ []) ∷ here container_kind (codes "box") (open_flag ∷ []) ∷ []) []

-- two closed boxes that can be opened
unfoldable pub two_boxes : Sketch
two_boxes = in_hall (here container_kind (codes "red box") (openable_flag ∷ []) ∷ here container_kind (codes "blue box") (openable_flag ∷ []) ∷ []) []

abbrev pub try_jumping : Body
try_jumping = only (Try false jumping Nothing Nothing)

unfoldable pub endless_jumping : Sketch
endless_jumping = in_hall [] (rule_of instead_book (Some jumping) Anything Anything None try_jumping ∷ [])

abbrev pub one_more : ℕ → Body → Body
one_more v body = Then (NowVariable v (Plus (Variable v) (Literal (pos 1)))) body

-- jumping is tried anew while the level is below a number; waiting says the level
abbrev pub jumping_up_to : ℕ → Sketch
jumping_up_to most = record (in_hall []
    (rule_of instead_book (Some jumping) Anything Anything (Some (IsLess (Variable 0) (Literal (pos most)))) (one_more 0 try_jumping)
    ∷ rule_of instead_book (Some waiting) Anything Anything None (only (Say (Figure (Variable 0) (line (codes "."))))) ∷ [])) {
      variables = pos 0 ∷ [];
    }

unfoldable pub sixteen_deep : Sketch
sixteen_deep = jumping_up_to 16

unfoldable pub seventeen_deep : Sketch
seventeen_deep = jumping_up_to 17

-- a rule of the author's rulebook follows that rulebook
unfoldable pub endless_following : Sketch
endless_following = in_hall [] (rule_of 8 None Anything Anything None (only (Follow 8)) ∷ rule_of instead_book (Some jumping) Anything Anything None (only (Follow 8)) ∷ [])

-- two variables and what is said of them
abbrev pub say_both : Body
say_both = only (Say (Figure (Variable 0) (Bytes (codes ", ") (Figure (Variable 1) (line (codes "."))))))

unfoldable pub score_at_its_top : Sketch
score_at_its_top = record (in_hall []
    (rule_of instead_book (Some jumping) Anything Anything None (one_more 0 (one_more 1 say_both))
    ∷ rule_of instead_book (Some waiting) Anything Anything None say_both ∷ [])) {
      variables = pos 0 ∷ pos 2147483646 ∷ [];
    }

-- a condition out of range, of a rule about the ball
unfoldable pub ball_out_of_range : Sketch
ball_out_of_range = record (in_hall (here thing_kind (codes "ball") [] ∷ here thing_kind (codes "lamp") [] ∷ [])
    (rule_of instead_book (Some taking) (Exactly 14) Anything (Some (IsAtMost (Literal (pos 1)) (Plus (Variable 0) (Literal (pos 1))))) (says (codes "No.")) ∷ [])) {
      variables = pos 2147483647 ∷ [];
    }

-- jumping tries to take a coin in a closed box, which isn't seen
unfoldable pub coin_out_of_sight : Sketch
coin_out_of_sight = in_hall (item thing_kind (codes "coin") article.A (at In 15) (described_flag ∷ []) ∷ here container_kind (codes "box") [] ∷ [])
    (rule_of instead_book (Some jumping) Anything Anything None (only (Try false taking (The 14) Nothing)) ∷ [])

-- a ball, and two open boxes to put it into
unfoldable pub two_open_boxes : Sketch
two_open_boxes = in_hall (here thing_kind (codes "ball") [] ∷ here container_kind (codes "red box") (open_flag ∷ []) ∷ here container_kind (codes "blue box") (open_flag ∷ []) ∷ []) []

abbrev pub known_as : List (List ℕ) → Item → Item
known_as words thing = record thing { words = words }

-- things whose words leave several ways to part `put apple on bread on cheese`
unfoldable pub parted_words : Sketch
parted_words = in_hall
    (record (here thing_kind (codes "apple") []) { article = article.An } ∷ known_as (codes "apple" ∷ codes "on" ∷ codes "bread" ∷ []) (here thing_kind (codes "pie") [])
    ∷ known_as (codes "on" ∷ codes "cheese" ∷ []) (here thing_kind (codes "bread") []) ∷ here thing_kind (codes "cheese") [] ∷ [])
    []

-- a ball whose description names what is looked at
unfoldable pub ball_looked_at : Sketch
ball_looked_at = in_hall (record (here thing_kind (codes "ball") []) { description = Some (Bytes (codes "You look at ") (Name Definite Noun (plain (codes ".")))) } ∷ []) []

-- ---- what is shown

unfoldable pub weighing_shown : List (List ℕ)
weighing_shown =
    codes "Hall" ∷ codes "You can see a ball, a scales and a box here." ∷ blank
    ∷ codes ">weigh ball with scales" ∷ codes "(first taking the ball)" ∷ codes "Weighed." ∷ blank
    ∷ codes ">weigh coin with scales" ∷ codes "You can't reach the coin." ∷ blank
    ∷ codes ">take coin" ∷ codes "You can't reach the coin." ∷ blank ∷ codes ">" ∷ []

unfoldable pub lamp_in_bag_shown : List (List ℕ)
lamp_in_bag_shown =
    codes "Darkness" ∷ codes "It is pitch dark, and you can't see a thing." ∷ blank
    ∷ codes ">x lamp" ∷ codes "You can't see any such thing." ∷ blank
    ∷ codes ">open bag" ∷ codes "You open the bag." ∷ blank
    ∷ codes ">look" ∷ codes "Cave" ∷ blank ∷ codes ">" ∷ []

unfoldable pub coin_out_of_sight_shown : List (List ℕ)
coin_out_of_sight_shown =
    codes "Hall" ∷ codes "You can see a box here." ∷ blank
    ∷ codes ">jump" ∷ codes "You can't see any such thing." ∷ blank ∷ codes ">" ∷ []

unfoldable pub endless_jumping_shown : List (List ℕ)
endless_jumping_shown =
    codes "Hall" ∷ blank
    ∷ codes ">jump" ∷ codes "[The turn was abandoned: nested too deep.]" ∷ blank ∷ codes ">" ∷ []

unfoldable pub sixteen_deep_shown : List (List ℕ)
sixteen_deep_shown =
    codes "Hall" ∷ blank
    ∷ codes ">jump" ∷ codes "You jump on the spot." ∷ blank
    ∷ codes ">z" ∷ codes "16." ∷ blank ∷ codes ">" ∷ []

unfoldable pub seventeen_deep_shown : List (List ℕ)
seventeen_deep_shown =
    codes "Hall" ∷ blank
    ∷ codes ">jump" ∷ codes "[The turn was abandoned: nested too deep.]" ∷ blank
    ∷ codes ">z" ∷ codes "0." ∷ blank ∷ codes ">" ∷ []

unfoldable pub endless_following_shown : List (List ℕ)
endless_following_shown =
    codes "Hall" ∷ blank
    ∷ codes ">jump" ∷ codes "[The turn was abandoned: nested too deep.]" ∷ blank ∷ codes ">" ∷ []

unfoldable pub score_at_its_top_shown : List (List ℕ)
score_at_its_top_shown =
    codes "Hall" ∷ blank
    ∷ codes ">jump" ∷ codes "1, 2147483647." ∷ blank
    ∷ codes ">jump" ∷ codes "[The turn was abandoned: number out of range.]" ∷ blank
    ∷ codes ">z" ∷ codes "1, 2147483647." ∷ blank ∷ codes ">" ∷ []

unfoldable pub ball_out_of_range_shown : List (List ℕ)
ball_out_of_range_shown =
    codes "Hall" ∷ codes "You can see a ball and a lamp here." ∷ blank
    ∷ codes ">take lamp" ∷ codes "Taken." ∷ blank
    ∷ codes ">take ball" ∷ codes "[The turn was abandoned: number out of range.]" ∷ blank ∷ codes ">" ∷ []

unfoldable pub ball_on_table_shown : List (List ℕ)
ball_on_table_shown =
    codes "Hall" ∷ codes "You can see a table here." ∷ blank
    ∷ codes ">x table" ∷ codes "You see nothing special about the table." ∷ codes "On the table is a ball." ∷ blank
    ∷ codes ">take ball" ∷ codes "Taken." ∷ blank
    ∷ codes ">i" ∷ codes "You are carrying a ball." ∷ blank
    ∷ codes ">" ∷ codes "I beg your pardon?" ∷ blank
    ∷ codes ">xyzzy" ∷ codes "I don't know that verb." ∷ blank
    ∷ codes ">take" ∷ codes "I didn't understand that sentence." ∷ blank
    ∷ codes ">take lamp" ∷ codes "You can't see any such thing." ∷ blank ∷ codes ">" ∷ []

unfoldable pub ball_in_box_shown : List (List ℕ)
ball_in_box_shown =
    codes "Hall" ∷ codes "You can see a box here." ∷ blank
    ∷ codes ">x box" ∷ codes "You see nothing special about the box." ∷ codes "In the box is a ball." ∷ blank
    ∷ codes ">put box in ball" ∷ codes "(first taking the box)" ∷ codes "You can't put things into the ball." ∷ blank ∷ codes ">" ∷ []

unfoldable pub ball_in_box_not_things_shown : List (List ℕ)
ball_in_box_not_things_shown =
    codes "Hall" ∷ codes "You can see a box here." ∷ blank
    ∷ codes ">x hall" ∷ codes "You can't see any such thing." ∷ blank
    ∷ codes ">x north" ∷ codes "You can't see any such thing." ∷ blank ∷ codes ">" ∷ []

unfoldable pub ball_looked_at_shown : List (List ℕ)
ball_looked_at_shown =
    codes "Hall" ∷ codes "You can see a ball here." ∷ blank
    ∷ codes ">x ball" ∷ codes "You look at the ball." ∷ blank ∷ codes ">" ∷ []

unfoldable pub parted_words_shown : List (List ℕ)
parted_words_shown =
    codes "Hall" ∷ codes "You can see an apple, a pie, a bread and a cheese here." ∷ blank
    ∷ codes ">put apple on bread on cheese" ∷ codes "Which do you mean, the apple or the pie?" ∷ blank ∷ codes ">" ∷ []

unfoldable pub two_open_boxes_shown : List (List ℕ)
two_open_boxes_shown =
    codes "Hall" ∷ codes "You can see a ball, a red box and a blue box here." ∷ blank
    ∷ codes ">put ball in box" ∷ codes "Which do you mean, the red box or the blue box?" ∷ blank
    ∷ codes ">the red" ∷ codes "(first taking the ball)" ∷ codes "You put the ball into the red box." ∷ blank ∷ codes ">" ∷ []

unfoldable pub two_boxes_shown : List (List ℕ)
two_boxes_shown =
    codes "Hall" ∷ codes "You can see a red box and a blue box here." ∷ blank
    ∷ codes ">open box" ∷ codes "Which do you mean, the red box or the blue box?" ∷ blank
    ∷ codes ">red" ∷ codes "You open the red box." ∷ blank
    ∷ codes ">open box" ∷ codes "Which do you mean, the red box or the blue box?" ∷ blank
    ∷ codes ">look" ∷ codes "Hall" ∷ codes "You can see a red box and a blue box here." ∷ blank ∷ codes ">" ∷ []

unfoldable pub endless_jumping_abandoned_shown : List (List ℕ)
endless_jumping_abandoned_shown =
    codes "Hall" ∷ blank
    ∷ codes ">z" ∷ codes "Time passes." ∷ blank
    ∷ codes ">z" ∷ codes "Time passes." ∷ blank
    ∷ codes ">jump" ∷ codes "[The turn was abandoned: nested too deep.]" ∷ blank
    ∷ codes ">undo" ∷ codes "Previous turn undone." ∷ blank
    ∷ codes ">undo" ∷ codes "Previous turn undone." ∷ blank
    ∷ codes ">undo" ∷ codes "You can't undo any further." ∷ blank ∷ codes ">" ∷ []

unfoldable pub question_refused_shown : List (List ℕ)
question_refused_shown =
    codes "Hall" ∷ codes "You can see a red box and a blue box here." ∷ blank
    ∷ codes ">open box" ∷ codes "[The turn was abandoned: out of memory.]" ∷ blank
    ∷ codes ">red" ∷ codes "I don't know that verb." ∷ blank ∷ codes ">" ∷ []
