-- Words and names that mean something before any sentence: of conditions, texts and headings, of rulebooks, actions and standard rules.
use Rattle.std.specs.Prelude.{ℕ, List, [], ◌∷◌, codes}
use Rattle.i7_actions.specs.declared.action.Action.{Action}
use Rattle.i7_actions.specs.declared.action.NounCount.{NounCount}
use Rattle.i7_actions.specs.declared.action.NounCount.TheVariants.{Zero, One, Two}

-- ---- conditions

abbrev pub written_joints : List (List ℕ)
written_joints = codes "or" ∷ codes "and" ∷ []

abbrev pub written_verbs : List (List ℕ)
written_verbs = codes "is" ∷ codes "has" ∷ codes "carries" ∷ codes "wears" ∷ codes "encloses" ∷ []

-- `in darkness` and `not in darkness`
abbrev pub written_darkness : List (List (List ℕ))
written_darkness = (codes "in" ∷ codes "darkness" ∷ []) ∷ (codes "not" ∷ codes "in" ∷ codes "darkness" ∷ []) ∷ []

-- ---- texts, between their brackets

-- an apostrophe, the two breaks, `otherwise` and `end if`
abbrev pub written_pieces : List (List (List ℕ))
written_pieces =
    (codes "'" ∷ []) ∷ (codes "line" ∷ codes "break" ∷ []) ∷ (codes "paragraph" ∷ codes "break" ∷ []) ∷ (codes "otherwise" ∷ [])
    ∷ (codes "end" ∷ codes "if" ∷ []) ∷ []

abbrev pub written_if : List ℕ
written_if = codes "if"

-- ---- headings

abbrev pub written_headings : List (List ℕ)
written_headings = codes "volume" ∷ codes "book" ∷ codes "part" ∷ codes "chapter" ∷ codes "section" ∷ []

-- ---- names that no sentence gives

abbrev pub written_reserved_names : List (List ℕ)
written_reserved_names = codes "noun" ∷ codes "second noun" ∷ codes "location" ∷ codes "nothing" ∷ codes "something" ∷ codes "turn count" ∷ []

abbrev pub written_books : List (List ℕ)
written_books = codes "before" ∷ codes "instead" ∷ codes "after" ∷ codes "every turn" ∷ codes "player" ∷ []

-- ---- the standard actions, by number

abbrev pub written_action : List (List ℕ) → NounCount → Action
written_action name nouns = record { name = name; nouns = nouns }

abbrev pub written_actions : List Action
written_actions =
    written_action (codes "looking" ∷ []) Zero
    ∷ written_action (codes "examining" ∷ []) One
    ∷ written_action (codes "taking" ∷ []) One
    ∷ written_action (codes "dropping" ∷ []) One
    ∷ written_action (codes "putting" ∷ codes "it" ∷ codes "on" ∷ []) Two
    ∷ written_action (codes "inserting" ∷ codes "it" ∷ codes "into" ∷ []) Two
    ∷ written_action (codes "opening" ∷ []) One
    ∷ written_action (codes "closing" ∷ []) One
    ∷ written_action (codes "going" ∷ []) One
    ∷ written_action (codes "wearing" ∷ []) One
    ∷ written_action (codes "taking" ∷ codes "off" ∷ []) One
    ∷ written_action (codes "taking" ∷ codes "inventory" ∷ []) Zero
    ∷ written_action (codes "waiting" ∷ []) Zero
    ∷ written_action (codes "jumping" ∷ []) Zero
    ∷ written_action (codes "switching" ∷ codes "on" ∷ []) One
    ∷ written_action (codes "switching" ∷ codes "off" ∷ []) One
    ∷ []

-- ---- the standard rules, by number

abbrev pub written_rules : List (List ℕ)
written_rules =
    codes "room heading" ∷ codes "room body text" ∷ codes "room contents" ∷ codes "mark visited"
    ∷ codes "examine description" ∷ codes "examine containers" ∷ codes "examine supporters" ∷ codes "examine devices"
    ∷ codes "can't take yourself" ∷ codes "can't take people" ∷ codes "can't take parts" ∷ codes "can't take what's held"
    ∷ codes "can't take scenery" ∷ codes "can't take what's fixed" ∷ codes "standard carry out taking" ∷ codes "standard report taking"
    ∷ codes "can't drop what's not held" ∷ codes "standard carry out dropping" ∷ codes "standard report dropping"
    ∷ codes "can't put on itself" ∷ codes "can't put on non-supporters" ∷ codes "can't put on its contents"
    ∷ codes "standard carry out putting it on" ∷ codes "standard report putting it on"
    ∷ codes "can't insert into itself" ∷ codes "can't insert into non-containers" ∷ codes "can't insert into its contents"
    ∷ codes "can't insert into closed containers" ∷ codes "standard carry out inserting it into" ∷ codes "standard report inserting it into"
    ∷ codes "can't open unopenable" ∷ codes "can't open open" ∷ codes "standard carry out opening" ∷ codes "standard report opening"
    ∷ codes "can't close unopenable" ∷ codes "can't close closed" ∷ codes "standard carry out closing" ∷ codes "standard report closing"
    ∷ codes "can't go through closed doors" ∷ codes "can't go that way" ∷ codes "standard carry out going" ∷ codes "standard report going"
    ∷ codes "can't wear what's not wearable" ∷ codes "can't wear what's worn" ∷ codes "standard carry out wearing"
    ∷ codes "standard report wearing"
    ∷ codes "can't take off what's not worn" ∷ codes "standard carry out taking off" ∷ codes "standard report taking off"
    ∷ codes "list carried" ∷ codes "list worn" ∷ codes "standard report waiting" ∷ codes "standard report jumping"
    ∷ codes "can't switch on non-devices" ∷ codes "can't switch on what's on" ∷ codes "standard carry out switching on"
    ∷ codes "standard report switching on"
    ∷ codes "can't switch off non-devices" ∷ codes "can't switch off what's off" ∷ codes "standard carry out switching off"
    ∷ codes "standard report switching off" ∷ []
