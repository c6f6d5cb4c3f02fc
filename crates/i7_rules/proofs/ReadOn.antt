-- Each phrase of a body that is read leaves what the others are.
use Rattle.std.proofs.Common.{◌≡◌, ℕ, ◌-◌, ◌<◌, ◌≤◌, false, List, [], ◌∷◌, ◌++◌, length, take, drop, get_or, refl, sym, ap, ◌∙◌, subst, arith}
use Rattle.std.specs.Prelude.{Option, None, Some, option_map, reverse}
use Rattle.std.proofs.lemmas.Grind.{common_steps, reverse_onto}
use Rattle.std.proofs.Common.{append_assoc}
use Rattle.std.proofs.lemmas.List.{append-nil, reverse-reverse}
use Rattle.i7_sentences.specs.declared.rule.RulePhrase.{RulePhrase}
use Rattle.i7_conditions.specs.Nesting.{at}
use Rattle.i7_conditions.specs.Readings.{IsFoundAs}
use Rattle.i7_conditions.specs.Words.{Word}
use Rattle.i7_conditions.specs.declared.found.Found.{Found}
use Rattle.i7_conditions.specs.declared.found.Found.TheVariants.{Read, TooMany, Unread}
use Rattle.i7_conditions.specs.declared.line.Line.{Line}
use Rattle.i7_conditions.specs.declared.line.Step.{Step}
use Rattle.i7_phrases.specs.Around.{Open, entered_if, left, name_given, names_around, none_open, open_behind, passed}
use Rattle.i7_phrases.proofs.Open.{left_again}
use Rattle.i7_rules.specs.Bodies.{AreLines, AreUnderstood, IsBodyRead, IsOver, IsOverAt, IsUnknownAt}
use Rattle.i7_rules.specs.Knowns.{Known}
use Rattle.i7_rules.specs.Lines.{StatesAmong, StatesBehind, found_stated, is_over_among, is_over_behind, stated_in}
use Rattle.i7_rules.specs.ReadSoFar.{IsEnded, IsReadOn, IsSoFar, Lines, Over, State, over_at, state_of, with_found, with_line}
use Rattle.i7_rules.specs.declared.body.BodyRead.{BodyRead}
use Rattle.i7_rules.specs.declared.body.BodyRead.TheVariants as read
use Rattle.i7_rules.specs.declared.body.SoFar.{SoFar}
use Rattle.i7_rules.specs.declared.body.SoFar.TheVariants as kept

-- ---- one phrase more

-- lines say that their phrases are understood
pub all_understood : (k : Known) (before : List RulePhrase) (ls : List Line) → AreLines k before ls → AreUnderstood k before
all_understood k before ls AreLines.none = AreUnderstood.none
all_understood k before ls (AreLines.and_one {before = b} {p = p} {lines = l} {line = line} all one) = AreUnderstood.and_one (all_understood k b l all) (stated_in line.step, one.states)

understood_so_far : (k : Known) (before : List RulePhrase) (state : State) → IsSoFar k before state → AreUnderstood k before
understood_so_far k before (Lines ls) so_far = all_understood k before ls so_far
understood_so_far k before (Over line) so_far = so_far.0

line_further : (k : Known) (before : List RulePhrase) (p : RulePhrase) (state : State) (step : Step) → IsSoFar k before state → StatesBehind k before p (stated_in step)
    → is_over_behind before p (stated_in step) ≡ false → IsSoFar k (p ∷ before) (with_line state (at p.depth step))
line_further k before p (Lines ls) step so_far states within = AreLines.and_one so_far (record { depth = refl; states = states; within = within })
line_further k before p (Over line) step so_far states within = (AreUnderstood.and_one so_far.0 (stated_in step, states), IsOverAt.one_before so_far.1)

over_further : (k : Known) (before : List RulePhrase) (p : RulePhrase) (state : State) → IsSoFar k before state → IsOver k before p → IsSoFar k (p ∷ before) (over_at state p.line)
over_further k before p (Lines ls) so_far is = (AreUnderstood.and_one (all_understood k before ls so_far) (is.0, is.1), IsOverAt.this so_far is)
over_further k before p (Over line) so_far is = (AreUnderstood.and_one so_far.0 (is.0, is.1), IsOverAt.one_before so_far.1)

-- what a phrase is found to be where it stands
abbrev pub IsFoundBehind : Known → List RulePhrase → RulePhrase → Found Step → Type 0
IsFoundBehind k before p found = IsFoundAs (StatesBehind k before p) (is_over_behind before p) (found_stated found)

found_further : (k : Known) (before : List RulePhrase) (p : RulePhrase) (state : State) (found : Found Step) → IsSoFar k before state → IsFoundBehind k before p found → IsReadOn k before p (with_found state p found)
found_further k before p state (Read step) so_far h = line_further k before p state step so_far h.0 h.1
found_further k before p state TooMany so_far h = over_further k before p state so_far h
found_further k before p state Unread so_far h = (understood_so_far k before state so_far, h)

pub reads_on : (k : Known) (before : List RulePhrase) (p : RulePhrase) (state : State) (found : Found Step) (next : Option State) → IsSoFar k before state → IsFoundBehind k before p found
    → next ≡ with_found state p found → IsReadOn k before p next
reads_on k before p state found next so_far h e = subst (IsReadOn k before p) (sym e) (found_further k before p state found so_far h)

abbrev pub IsLawful : Type 0
IsLawful = (depth : ℕ) (before : List RulePhrase) → (left depth (open_behind before)).names ≡ names_around depth before

pub reads_at : (k : Known) (p : RulePhrase) (opened behind : Open) (names : List Word) (state : State) (found : Found Step) (next : Option State) → IsLawful → behind ≡ left p.depth opened → reverse names ≡ behind.names
    → IsFoundAs (StatesAmong k names p) (is_over_among names p) (found_stated found) → next ≡ with_found state p found
    → (before : List RulePhrase) → opened ≡ open_behind before → IsSoFar k before state → IsReadOn k before p next
reads_at k p opened behind names state found next law leaves lent h e before is so_far =
    let all : reverse names ≡ names_around p.depth before = lent ∙ ap (λ (o : Open). o.names) (leaves ∙ ap (left p.depth) is) ∙ law p.depth before in
    let around : names ≡ reverse (names_around p.depth before) = sym (reverse-reverse names) ∙ ap reverse all in
    reads_on k before p state found next so_far (subst (λ (ns : List Word). IsFoundAs (StatesAmong k ns p) (is_over_among ns p) (found_stated found)) around h) e

pub passed_again : (p : RulePhrase) (opened behind : Open) → behind ≡ left p.depth opened → passed p behind ≡ passed p opened
passed_again p opened behind e = ap (passed p) e ∙ ap (entered_if p.depth (name_given p.said)) (left_again p.depth opened)

-- ---- all phrases

-- the phrases that were read, the last first, and what is known of them
pub record IsReadTo (k : Known) (phrases rest : List RulePhrase) (opened : Open) (state : State) : Type 0 where
  pub before : List RulePhrase
  pub parted : reverse phrases ≡ reverse rest ++ before
  pub around : opened ≡ open_behind before
  pub so_far : IsSoFar k before state

pub starts : (k : Known) (phrases : List RulePhrase) (opened : Open) (state : State) → opened ≡ none_open → state ≡ Lines [] → IsReadTo k phrases phrases opened state
unfolding open_behind
starts k phrases opened state shut none = record {
  before = [];
  parted = sym (append-nil (reverse phrases));
  around = shut;
  so_far = subst (IsSoFar k []) (sym none) AreLines.none;
}

reverse_behind : (p : RulePhrase) (rest before : List RulePhrase) → reverse (p ∷ rest) ++ before ≡ reverse rest ++ (p ∷ before)
reverse_behind p rest before = ap (λ (l : List RulePhrase). l ++ before) (reverse_onto rest p []) ∙ append_assoc (reverse rest) (p ∷ []) before

-- one phrase more is read
further : (k : Known) (phrases rest : List RulePhrase) (p : RulePhrase) (opened after : Open) (state next : State) → IsReadTo k phrases (p ∷ rest) opened state → after ≡ passed p opened
    → ((before : List RulePhrase) → opened ≡ open_behind before → IsSoFar k before state → IsReadOn k before p (Some next)) → IsReadTo k phrases rest after next
unfolding open_behind
further k phrases rest p opened after state next h passes reads = record {
  before = p ∷ h.before;
  parted = h.parted ∙ reverse_behind p rest h.before;
  around = passes ∙ ap (passed p) h.around;
  so_far = reads h.before h.around h.so_far;
}

unknown_further : (k : Known) (later before : List RulePhrase) (line : ℕ) → IsUnknownAt k before line → IsUnknownAt k (later ++ before) line
unknown_further k [] before line is = is
unknown_further k (p ∷ later) before line is = IsUnknownAt.one_before (unknown_further k later before line is)

-- the next phrase isn't understood
stops : (k : Known) (phrases rest : List RulePhrase) (p : RulePhrase) (opened : Open) (state : State) → IsReadTo k phrases (p ∷ rest) opened state
    → ((before : List RulePhrase) → opened ≡ open_behind before → IsSoFar k before state → IsReadOn k before p None) → IsBodyRead k phrases (read.Unknown p.line)
stops k phrases rest p opened state h reads =
    let is = reads h.before h.around h.so_far in
    subst (λ (all : List RulePhrase). IsUnknownAt k all p.line) (sym (h.parted ∙ reverse_behind p rest h.before))
    (unknown_further k (reverse rest) (p ∷ h.before) p.line (IsUnknownAt.this is.0 is.1))

-- ---- as the loop keeps them

abbrev behind_one : List RulePhrase → List RulePhrase
behind_one list = take (length list - 1) (drop 1 list)

behind_one_is : (first : RulePhrase) (rest : List RulePhrase) → behind_one (first ∷ rest) ≡ rest
behind_one_is first rest = grind (arith, common_steps)

abbrev Reads : Known → Open → State → RulePhrase → Option State → Type 0
Reads k opened state p next = (before : List RulePhrase) → opened ≡ open_behind before → IsSoFar k before state → IsReadOn k before p next

pub goes_on : (k : Known) (phrases list : List RulePhrase) (first : RulePhrase) (opened after : Open) (so_far next : SoFar) (found : Option SoFar) → 1 ≤ length list → first ≡ get_or list 0 first
    → IsReadTo k phrases list opened (state_of so_far) → after ≡ passed first opened → Reads k opened (state_of so_far) first (option_map state_of found) → found ≡ Some next
    → IsReadTo k phrases (behind_one list) after (state_of next)
goes_on k phrases [] first opened after so_far next found some is_first h passes reads e = absurd (omega arith)
goes_on k phrases (p ∷ rest) first opened after so_far next found some is_first h passes reads e =
    subst (λ (r : List RulePhrase). IsReadTo k phrases r after (state_of next)) (sym (behind_one_is p rest))
    (further k phrases rest p opened after (state_of so_far) (state_of next) h (subst (λ (q : RulePhrase). after ≡ passed q opened) is_first passes)
    (subst (λ (f : Option SoFar). Reads k opened (state_of so_far) p (option_map state_of f)) e (subst (λ (q : RulePhrase). Reads k opened (state_of so_far) q (option_map state_of found)) is_first reads)))

pub goes_nowhere : (k : Known) (phrases list : List RulePhrase) (first : RulePhrase) (opened : Open) (so_far : SoFar) (found : Option SoFar) → 1 ≤ length list → first ≡ get_or list 0 first
    → IsReadTo k phrases list opened (state_of so_far) → Reads k opened (state_of so_far) first (option_map state_of found) → found ≡ None → IsBodyRead k phrases (read.Unknown first.line)
goes_nowhere k phrases [] first opened so_far found some is_first h reads e = absurd (omega arith)
goes_nowhere k phrases (p ∷ rest) first opened so_far found some is_first h reads e =
    subst (λ (q : RulePhrase). IsBodyRead k phrases (read.Unknown q.line)) (sym is_first)
    (stops k phrases rest p opened (state_of so_far) h
    (subst (λ (f : Option SoFar). Reads k opened (state_of so_far) p (option_map state_of f)) e (subst (λ (q : RulePhrase). Reads k opened (state_of so_far) q (option_map state_of found)) is_first reads)))

-- ---- the end

all_read : (k : Known) (phrases : List RulePhrase) (opened : Open) (state : State) → IsReadTo k phrases [] opened state → IsSoFar k (reverse phrases) state
all_read k phrases opened state h = subst (λ (all : List RulePhrase). IsSoFar k all state) (sym h.parted) h.so_far

ends : (k : Known) (phrases : List RulePhrase) (so_far : SoFar) (found : BodyRead) → IsSoFar k (reverse phrases) (state_of so_far) → IsEnded so_far found → IsBodyRead k phrases found
ends k phrases (kept.Lines lines) (read.Says body) is ended = (lines.items, is, ended)
ends k phrases (kept.Lines lines) read.Unnested is ended = (lines.items, is, ended)
ends k phrases (kept.Lines lines) (read.Unknown line) is ended = absurd ended
ends k phrases (kept.Lines lines) (read.TooMany line) is ended = absurd ended
ends k phrases (kept.TooMany line) (read.Says body) is ended = absurd ended
ends k phrases (kept.TooMany line) read.Unnested is ended = absurd ended
ends k phrases (kept.TooMany line) (read.Unknown told) is ended = absurd ended
ends k phrases (kept.TooMany line) (read.TooMany told) is ended = (is.0, subst (IsOverAt k (reverse phrases)) (sym ended) is.1)

pub goes_to_end : (k : Known) (phrases list : List RulePhrase) (opened : Open) (so_far : SoFar) (found : BodyRead) → length list < 1 → IsReadTo k phrases list opened (state_of so_far) → IsEnded so_far found
    → IsBodyRead k phrases found
goes_to_end k phrases [] opened so_far found few h ended = ends k phrases so_far found (all_read k phrases opened (state_of so_far) h) ended
goes_to_end k phrases (p ∷ rest) opened so_far found few h ended = absurd (omega arith)
