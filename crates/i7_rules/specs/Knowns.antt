-- What phrases may name, and where.
use Rattle.std.specs.Prelude.{ℕ, ◌-◌, Bool, ◌||◌, List, drop, length, Option, reverse}
use Rattle.std.specs.List.{list_any}
use Rattle.world_meaning.specs.declared.tale.Object.{Object}
use Rattle.i7_sentences.specs.declared.rule.RulePhrase.{RulePhrase}
use Rattle.i7_actions.specs.declared.action.Action.{Action}
use Rattle.i7_conditions.specs.Meanings.{Meanings, Plurals}
use Rattle.i7_conditions.specs.NamesOf.{has_operators, meanings_of, plurals_of}
use Rattle.i7_conditions.specs.Operators.{holds_operator}
use Rattle.i7_conditions.specs.Scopes.{Scope}
use Rattle.i7_conditions.specs.Words.{Word}
use Rattle.i7_phrases.specs.Around.{names_around}
use Rattle.i7_rules.specs.declared.known.Known.{Known as Lent}

-- what phrases may name, whatever repeats stand around them
pub record Known : Type 0 where
  pub meanings : Meanings
  pub plurals : Plurals
  -- `plus`, `minus` or `times` is a word of a name
  pub has_operators : Bool
  -- by number
  pub actions : List Action
  pub rulebooks : List (List ℕ)
  pub scenes : ℕ
  -- the kind above each kind, and the objects
  pub parents : List (Option ℕ)
  pub objects : List Object

abbrev pub known_of : Lent → Known
known_of k = record {
  meanings = meanings_of k.names.now;
  plurals = plurals_of k.names.now;
  has_operators = has_operators k.names.now;
  actions = k.actions.now;
  rulebooks = k.rulebooks.now;
  scenes = k.scenes;
  parents = k.parents.now;
  objects = k.objects.now;
}

-- of names of repeats, the outermost first, the innermost 255 are known
abbrev pub nearest : List Word → List Word
nearest names = drop (length names - 255) names

-- where these repeats are open, the outermost first
abbrev pub scope_near : Known → List Word → Scope
scope_near k near = record { meanings = k.meanings; plurals = k.plurals; repeats = near; has_operators = k.has_operators || list_any holds_operator near }

-- of many the innermost are known
abbrev pub scope_among : Known → List Word → Scope
scope_among k names = scope_near k (nearest names)

-- the names of the repeats around a phrase, the outermost first; of the phrases before it the last is first here
abbrev pub repeats_around : List RulePhrase → RulePhrase → List Word
repeats_around before p = reverse (names_around p.depth before)
