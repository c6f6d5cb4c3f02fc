-- What small stories written by hand are made of, and what is written of them.
use Rattle.std.specs.Prelude.{◌≡◌, ◌==◌, if◌then◌else◌, ℕ, true, List, [], ◌∷◌, ◌++◌, Option, None, Some, codes, map}
use Rattle.world_meaning.specs.Directions.{all_directions, direction_name, short_word}
use Rattle.world_meaning.specs.declared.article.Article.{Article}
use Rattle.world_meaning.specs.declared.article.Article.TheVariants as article
use Rattle.world_meaning.specs.declared.place.Place.{Place}
use Rattle.world_meaning.specs.declared.place.Rel.{Rel}
use Rattle.world_meaning.specs.declared.session.Ending.{Ending}
use Rattle.world_meaning.specs.declared.place.Rel.TheVariants.{In}
use Rattle.play_meaning.specs.CodedStories.{game_of_codes}
use Rattle.play_meaning.specs.Rules.{Anything, Aspect, InOrder, Listed, Rule}
use Rattle.play_meaning.specs.Sketches.{Item, Sketch, game_of_sketch, script_of}
use Rattle.play_meaning.specs.StandardRules.{line, only, standard_rules}
use Rattle.play_meaning.specs.TranslatedScripts.{coded}
use Rattle.play_meaning.specs.Trees.{Body, Condition, Leave, Say, Then}
use Rattle.play_meaning.specs.Sessions.{opened}
use Rattle.play_meaning.specs.Transcripts.{last_state, transcript}
use Rattle.play_meaning.specs.declared.outcome.Flow.TheVariants.{NoDecision}

-- ---- objects

abbrev pub item : ℕ → List ℕ → Article → Option Place → List ℕ → Item
item kind name article place flags = record { kind = kind; name = name; article = article; place = place; flags = flags; description = None; words = [] }

abbrev pub at : Rel → ℕ → Option Place
at relation holder = Some (record { relation = relation; holder = holder })

abbrev pub player : Item
player = record { kind = 6; name = codes "yourself"; article = article.None; place = at In 13; flags = []; description = None; words = codes "me" ∷ codes "myself" ∷ codes "self" ∷ [] }

-- the player, who is in number 13, the directions, and these
abbrev pub among_directions : List Item → List Item
among_directions items =
    player ∷ map (λ d. record { kind = 2; name = direction_name d; article = article.None; place = None; flags = []; description = None; words = short_word d ∷ [] }) all_directions ++ items

-- a room that is lighted
abbrev pub bright : List ℕ → Item
bright name = item 1 name article.A None (4 ∷ [])

-- a thing in the first room that is described, of a kind
abbrev pub here : ℕ → List ℕ → List ℕ → Item
here kind name flags = item kind name article.A (at In 13) (8 ∷ flags)

-- ---- stories

abbrev pub with_rules : List Item → List Rule → Sketch
with_rules items rules = record { kinds = []; items = among_directions items; exits = []; variables = []; numbers = []; actions = []; lines = []; rules = rules; scenes = [] }

abbrev pub in_hall : List Item → List Rule → Sketch
in_hall items rules = with_rules (bright (codes "Hall") ∷ items) (standard_rules ++ rules)

abbrev pub rule_of : ℕ → Option ℕ → Aspect → Aspect → Option Condition → Body → Rule
rule_of book action noun place condition body =
    record { book = book; action = action; noun = noun; second = Anything; place = place; scene = None; condition = condition; body = body; listed = InOrder }

abbrev pub say_and_go_on : List ℕ → Body
say_and_go_on text = Then (Say (line text)) (only (Leave NoDecision))

abbrev pub says : List ℕ → Body
says text = only (Say (line text))

-- the same rule, where sentences list it otherwise
abbrev pub listing : Listed → Rule → Rule
listing listed rule = record rule { listed = listed }

-- ---- what is shown

abbrev pub blank : List ℕ
blank = []

-- lines one behind the other, with a line break between two
abbrev pub on_lines : List (List ℕ) → List ℕ
on_lines [] = []
on_lines (line ∷ []) = line
on_lines (line ∷ next ∷ more) = line ++ 10 ∷ on_lines (next ∷ more)

abbrev pub typed_in : List ℕ → List (List ℕ) → List (List ℕ)
typed_in [] more = more
typed_in (byte ∷ bytes) more = if byte == 62 then bytes ∷ more else more

-- what is typed: what stands behind the prompts, but for the last line's
abbrev pub typed : List (List ℕ) → List (List ℕ)
typed [] = []
typed (line ∷ []) = []
typed (line ∷ next ∷ more) = typed_in line (typed (next ∷ more))

-- sessions of the story's two games, of its trees and of their codes, show this
abbrev pub AreBoth : List (List ℕ) → List ℕ → Sketch → Type 0
AreBoth commands text sketch =
    (transcript (game_of_sketch sketch) true [] commands ≡ text) × (transcript (game_of_codes (coded (script_of sketch))) true [] commands ≡ text)

-- a session of the story shows these lines, the prompts and what is typed among them
abbrev pub shows : List (List ℕ) → Sketch → Type 0
shows lines sketch = AreBoth (typed lines) (on_lines lines) sketch

-- told by its trees alone: of ten thousand turns the run of the code is too long to compute
abbrev pub shows_by_trees : List (List ℕ) → Sketch → Type 0
shows_by_trees lines sketch = transcript (game_of_sketch sketch) true [] (typed lines) ≡ on_lines lines

-- and nothing of what is typed behind its end
abbrev pub shows_to_end : List (List ℕ) → List (List ℕ) → Sketch → Type 0
shows_to_end lines unheard sketch = AreBoth (typed lines ++ unheard) (on_lines lines) sketch

-- where memory is refused in lines
abbrev pub refused_in : List (Option ℕ) → List (List ℕ) → Sketch → Type 0
refused_in refusals lines sketch = transcript (game_of_sketch sketch) true refusals (typed lines) ≡ on_lines lines

-- how a session ends behind these lines
abbrev pub ends_by : List (List ℕ) → Ending → Sketch → Type 0
ends_by lines ending sketch = (last_state (game_of_sketch sketch) [] (opened (game_of_sketch sketch)).state lines).ending ≡ Some ending
