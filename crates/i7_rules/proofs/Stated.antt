-- What phrases are found to be as lines of a body is what they are.
use Rattle.std.proofs.Common.{◌≡◌, Bool, true, false, ◌||◌, List, refl, sym, ◌∙◌, subst, inl, inr}
use Rattle.std.specs.Prelude.{Option, None, Some, option_map}
use Rattle.std.proofs.Math.Bool.{or-false, or-true}
use Rattle.std.proofs.lemmas.Bool.{or_left}
use Rattle.i7_sentences.specs.declared.rule.RulePhrase.{RulePhrase}
use Rattle.i7_sentences.specs.declared.spoken.Spoken.{Spoken}
use Rattle.i7_sentences.specs.declared.spoken.Spoken.TheVariants as spoken
use Rattle.play_meaning.specs.Trees as tree
use Rattle.i7_conditions.specs.Readings.{IsFoundAs}
use Rattle.i7_conditions.specs.Scopes.{Scope}
use Rattle.i7_conditions.specs.Words.{Word}
use Rattle.i7_conditions.specs.declared.found.Found.{Found}
use Rattle.i7_conditions.specs.declared.found.Found.TheVariants.{Read, TooMany, Unread}
use Rattle.i7_conditions.specs.declared.line.Step.{Step}
use Rattle.i7_conditions.specs.declared.line.Step.TheVariants as step
use Rattle.i7_phrases.specs.BlockForms.{found_block}
use Rattle.i7_phrases.specs.Blocks.{Block, NoBlock, Opens, block_is_over, is_block}
use Rattle.i7_phrases.specs.Limits.{phrase_is_over}
use Rattle.i7_phrases.specs.Told.{IsToldOf}
use Rattle.i7_rules.specs.Doings.{Does}
use Rattle.i7_rules.specs.Knowns.{Known, nearest, scope_near}
use Rattle.i7_rules.specs.Lines.{Begun, Done, IsDone, Stated, States, StatesAmong, done_by, found_stated, is_beyond, is_over, is_over_among, limited}

-- ---- blocks do nothing, and what does something is no block

nothing_opens : (s : Scope) (said : Spoken) → Opens s said NoBlock → ⊥
nothing_opens s (spoken.If words) opens = let e = opens.2 in absurd cc
nothing_opens s (spoken.OtherwiseIf words) opens = let e = opens.2 in absurd cc
nothing_opens s spoken.Otherwise opens = absurd cc
nothing_opens s (spoken.Repeat name through) opens = let e = opens.2 in absurd cc
nothing_opens s (spoken.Say text bytes) opens = opens
nothing_opens s (spoken.Now words) opens = opens
nothing_opens s (spoken.Move words) opens = opens
nothing_opens s (spoken.Increase value amount) opens = opens
nothing_opens s (spoken.Decrease value amount) opens = opens
nothing_opens s (spoken.Try silently action) opens = opens
nothing_opens s (spoken.Follow book) opens = opens
nothing_opens s spoken.RuleSucceeds opens = opens
nothing_opens s spoken.RuleFails opens = opens
nothing_opens s spoken.MakeNoDecision opens = opens
nothing_opens s spoken.ContinueAction opens = opens
nothing_opens s spoken.StopAction opens = opens
nothing_opens s (spoken.EndStory text) opens = opens

no_other_opens : (s : Scope) (said : Spoken) (b : Block) → is_block said ≡ false → Opens s said b → ⊥
no_other_opens s (spoken.If words) b is opens = absurd cc
no_other_opens s (spoken.OtherwiseIf words) b is opens = absurd cc
no_other_opens s spoken.Otherwise b is opens = absurd cc
no_other_opens s (spoken.Repeat name through) b is opens = absurd cc
no_other_opens s (spoken.Say text bytes) b is opens = opens
no_other_opens s (spoken.Now words) b is opens = opens
no_other_opens s (spoken.Move words) b is opens = opens
no_other_opens s (spoken.Increase value amount) b is opens = opens
no_other_opens s (spoken.Decrease value amount) b is opens = opens
no_other_opens s (spoken.Try silently action) b is opens = opens
no_other_opens s (spoken.Follow book) b is opens = opens
no_other_opens s spoken.RuleSucceeds b is opens = opens
no_other_opens s spoken.RuleFails b is opens = opens
no_other_opens s spoken.MakeNoDecision b is opens = opens
no_other_opens s spoken.ContinueAction b is opens = opens
no_other_opens s spoken.StopAction b is opens = opens
no_other_opens s (spoken.EndStory text) b is opens = opens

none_is : (p : tree.Phrase) → None ≡ Some p → ⊥
none_is p e = absurd cc

blocks_do_nothing : (k : Known) (s : Scope) (said : Spoken) (p : tree.Phrase) → is_block said ≡ true → Does k s said p → ⊥
blocks_do_nothing k s (spoken.If words) p is does = elim does [ inl changes ↦ changes | inr ends ↦ none_is p ends ]
blocks_do_nothing k s (spoken.OtherwiseIf words) p is does = elim does [ inl changes ↦ changes | inr ends ↦ none_is p ends ]
blocks_do_nothing k s spoken.Otherwise p is does = elim does [ inl changes ↦ changes | inr ends ↦ none_is p ends ]
blocks_do_nothing k s (spoken.Repeat name through) p is does = elim does [ inl changes ↦ changes | inr ends ↦ none_is p ends ]
blocks_do_nothing k s (spoken.Say text bytes) p is does = absurd cc
blocks_do_nothing k s (spoken.Now words) p is does = absurd cc
blocks_do_nothing k s (spoken.Move words) p is does = absurd cc
blocks_do_nothing k s (spoken.Increase value amount) p is does = absurd cc
blocks_do_nothing k s (spoken.Decrease value amount) p is does = absurd cc
blocks_do_nothing k s (spoken.Try silently action) p is does = absurd cc
blocks_do_nothing k s (spoken.Follow book) p is does = absurd cc
blocks_do_nothing k s spoken.RuleSucceeds p is does = absurd cc
blocks_do_nothing k s spoken.RuleFails p is does = absurd cc
blocks_do_nothing k s spoken.MakeNoDecision p is does = absurd cc
blocks_do_nothing k s spoken.ContinueAction p is does = absurd cc
blocks_do_nothing k s spoken.StopAction p is does = absurd cc
blocks_do_nothing k s (spoken.EndStory text) p is does = absurd cc

-- ---- what is found of a block

block_step : (k : Known) (s : Scope) (p : RulePhrase) (line : Step) → IsFoundAs (Opens s p.said) block_is_over (found_block (Read line)) → IsFoundAs (States k s p) is_over (found_stated (Read line))
block_step k s p (step.Does simple) h = absurd (nothing_opens s p.said h.0)
block_step k s p (step.Instead simple) h = absurd (nothing_opens s p.said h.0)
block_step k s p (step.If condition) h = h
block_step k s p (step.OtherwiseIf condition) h = h
block_step k s p step.Otherwise h = h
block_step k s p (step.Repeat description) h = h

unopened : (k : Known) (s : Scope) (p : RulePhrase) → is_block p.said ≡ true → ((b : Block) → Opens s p.said b → ⊥) → (stated : Stated) → States k s p stated → ⊥
unopened k s p is none (Done is_instead q) states = blocks_do_nothing k s p.said q is states.1
unopened k s p is none (Begun block) states = none block states

pub block_stated : (k : Known) (s : Scope) (p : RulePhrase) (found : Found Step) → IsToldOf (is_block p.said) (Opens s p.said) block_is_over (Some (found_block found)) → IsFoundAs (States k s p) is_over (found_stated found)
block_stated k s p (Read line) h = block_step k s p line h.1
block_stated k s p TooMany h = (Begun h.1.0, h.1.1, h.1.2)
block_stated k s p Unread h = unopened k s p h.0 h.1

-- ---- what is found of what is done

undone : (k : Known) (s : Scope) (p : RulePhrase) → is_block p.said ≡ false → ((q : tree.Phrase) → Does k s p.said q → ⊥) → (stated : Stated) → States k s p stated → ⊥
undone k s p is none (Done is_instead q) states = none q states.1
undone k s p is none (Begun block) states = no_other_opens s p.said block is states

pub doing_stated : (k : Known) (s : Scope) (p : RulePhrase) (doing : Found tree.Phrase) (found : Found Stated) → is_block p.said ≡ false → found ≡ done_by p.is_instead doing → IsFoundAs (Does k s p.said) phrase_is_over doing
    → IsFoundAs (States k s p) is_over found
doing_stated k s p (Read q) found is e h = subst (IsFoundAs (States k s p) is_over) (sym e) ((refl, h.0), h.1)
doing_stated k s p TooMany found is e h = subst (IsFoundAs (States k s p) is_over) (sym e) (Done p.is_instead h.0, (refl, h.1), h.2)
doing_stated k s p Unread found is e h = subst (IsFoundAs (States k s p) is_over) (sym e) (undone k s p is h)

-- ---- limits

pub limited_found : (Means : Stated → Type 0) (over : Stated → Bool) (beyond : Bool) (found : Found Stated) → IsFoundAs Means over found → IsFoundAs Means (λ stated. over stated || beyond) (limited beyond found)
limited_found Means over true (Read stated) h = (stated, h.0, or-true (over stated))
limited_found Means over true TooMany h = (h.0, h.1, or-true (over h.0))
limited_found Means over true Unread h = h
limited_found Means over false (Read stated) h = (h.0, or-false (over stated) ∙ h.1)
limited_found Means over false TooMany h = (h.0, h.1, or_left (over h.0) false h.2)
limited_found Means over false Unread h = h

-- ---- as they are kept

abbrev IsBlockTold : Scope → RulePhrase → Option (Found Step) → Type 0
IsBlockTold s p told = IsToldOf (is_block p.said) (Opens s p.said) block_is_over (option_map found_block told)

pub block_at : (k : Known) (s : Scope) (p : RulePhrase) (told : Option (Found Step)) (found : Found Step) → IsBlockTold s p told → told ≡ Some found → IsFoundAs (States k s p) is_over (found_stated found)
block_at k s p told found h e = block_stated k s p found (subst (IsBlockTold s p) e h)

pub done_at : (k : Known) (s : Scope) (p : RulePhrase) (doing : Found tree.Phrase) (found : Found Stated) → found ≡ done_by p.is_instead doing → IsFoundAs (Does k s p.said) phrase_is_over doing → IsDone k s p found
done_at k s p doing found e is = λ none. doing_stated k s p doing found none e is

pub doing_at : (k : Known) (s : Scope) (p : RulePhrase) (told : Option (Found Step)) (found : Found Stated) → IsBlockTold s p told → told ≡ None → IsDone k s p found → IsFoundAs (States k s p) is_over found
doing_at k s p told found h none done = done (subst (IsBlockTold s p) none h)

pub step_at : (k : Known) (names near : List Word) (p : RulePhrase) (beyond : Bool) (inner outer : Found Stated) → near ≡ nearest names → beyond ≡ is_beyond names p → outer ≡ limited beyond inner
    → IsFoundAs (States k (scope_near k near) p) is_over inner → IsFoundAs (StatesAmong k names p) (is_over_among names p) outer
step_at k names near p beyond inner outer at e is h =
    subst (IsFoundAs (StatesAmong k names p) (is_over_among names p)) (sym is)
    (subst (λ (b : Bool). IsFoundAs (StatesAmong k names p) (is_over_among names p) (limited b inner)) (sym e)
    (limited_found (StatesAmong k names p) is_over (is_beyond names p) inner (subst (λ (ns : List Word). IsFoundAs (States k (scope_near k ns) p) is_over inner) at h)))
