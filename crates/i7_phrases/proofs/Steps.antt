-- Each piece of a text that is read leaves ahead what its other pieces say.
use Rattle.std.proofs.Common.{◌≡◌, ℕ, ◌-◌, ◌<◌, ◌≤◌, Bool, ◌||◌, List, [], ◌∷◌, ◌++◌, length, take, drop, get_or, refl, sym, ap, ◌∙◌, subst, arith}
use Rattle.std.specs.Prelude.{Option, None, Some}
use Rattle.std.proofs.lemmas.Grind.{common_steps}
use Rattle.std.proofs.Math.Bool.{or_assoc}
use Rattle.i7_sentences.specs.declared.text_piece.TextPiece.{TextPiece}
use Rattle.i7_sentences.specs.declared.text_piece.TextPiece.TheVariants as text
use Rattle.play_meaning.specs.Trees as tree
use Rattle.i7_conditions.specs.Clauses.{asks_over}
use Rattle.i7_conditions.specs.Conditions.{IsCondition}
use Rattle.i7_conditions.specs.Readings.{IsFoundAs, one, two}
use Rattle.i7_conditions.specs.Scopes.{Scope}
use Rattle.i7_conditions.specs.declared.found.Found.{Found}
use Rattle.i7_conditions.specs.declared.found.Found.TheVariants.{Read, TooMany, Unread}
use Rattle.i7_conditions.proofs.Listing.{Made, MadeOfTwo, one_found, two_found}
use Rattle.i7_phrases.specs.Drafts.{Chosen, Draft, Else, EndIf, If, IsReadOn, IsSense, Otherwise, Outside, Over, Part, Plain, Said, Sense, Then, after, draft_of, ended, next_of, part_then, parts_then, place_of, run_then, with_end, with_found, with_if, with_otherwise, with_piece}
use Rattle.i7_phrases.specs.Substitutions.{Bytes, DescriptionOf, Figure, Listing, Name, Piece, ValueName, piece_is_over}
use Rattle.i7_phrases.specs.Texts.{IsText, Says, said_then, text_is_over}
use Rattle.i7_phrases.specs.declared.draft.Draft.{Draft as Kept}
use Rattle.i7_phrases.specs.declared.draft.Place.{Place}
use Rattle.i7_phrases.specs.declared.draft.Place.TheVariants as place
use Rattle.i7_phrases.proofs.Ahead.{Ahead, IsAhead, ahead_is_over, ahead_reads, alone, end_else, end_then, if_ahead, otherwise_ahead, said_ahead, text_ahead}

-- ---- what is said so far, and one more piece

run_further : (ps : List Piece) (p : Piece) (t : tree.Text) → run_then (ps ++ p ∷ []) t ≡ run_then ps (said_then p t)
run_further [] p t = refl
run_further (q ∷ ps) p t = ap (said_then q) (run_further ps p t)

parts_further : (ps : List Part) (p : Part) (t : tree.Text) → parts_then (ps ++ p ∷ []) t ≡ parts_then ps (part_then p t)
parts_further [] p t = refl
parts_further (q ∷ ps) p t = ap (part_then q) (parts_further ps p t)

-- ---- limits

over_said : (p : Piece) (t : tree.Text) → text_is_over (said_then p t) ≡ (piece_is_over p || text_is_over t)
over_said (Bytes bytes) t = refl
over_said (Figure number) t = refl
over_said (Name naming o) t = refl
over_said (Listing naming description) t = refl
over_said (DescriptionOf o) t = refl
over_said (ValueName q o) t = refl

over_ahead : (where_is : Place) (p : Piece) (a : Ahead) → ahead_is_over where_is (said_ahead p a) ≡ (piece_is_over p || ahead_is_over where_is a)
over_ahead place.Outside p a = over_said p a.now
over_ahead place.Else p a = ap (λ (b : Bool). b || text_is_over a.next) (over_said p a.now) ∙ or_assoc (piece_is_over p) (text_is_over a.now) (text_is_over a.next)
over_ahead place.Then p a =
    ap (λ (b : Bool). b || (text_is_over a.next || text_is_over a.last)) (over_said p a.now) ∙ or_assoc (piece_is_over p) (text_is_over a.now) (text_is_over a.next || text_is_over a.last)

-- ---- the text, from what is ahead

abbrev pub finish : Draft → Found Ahead → Found tree.Text
finish draft TooMany = TooMany
finish draft Unread = Unread
finish (Outside parts) (Read a) = Read (parts_then parts a.now)
finish (Then parts c run) (Read a) = Read (parts_then parts (tree.IfSaid c (run_then run a.now) a.next a.last))
finish (Else parts c run others) (Read a) = Read (parts_then parts (tree.IfSaid c (run_then run tree.Silence) (run_then others a.now) a.next))
finish (Over where_is) (Read a) = TooMany

abbrev IsWhole : Scope → List TextPiece → Found tree.Text → Type 0
IsWhole s pieces found = IsFoundAs (IsText s pieces) text_is_over found

abbrev IsAheadFound : Scope → Draft → List TextPiece → Found Ahead → Type 0
IsAheadFound s draft rest found = IsFoundAs (IsAhead s (place_of draft) rest) (ahead_is_over (place_of draft)) found

-- whatever is found ahead, the text that it makes with the draft is the whole
unfoldable pub Leads : Scope → List TextPiece → Draft → List TextPiece → Type 0
Leads s pieces draft rest = (found : Found Ahead) → IsAheadFound s draft rest found → IsWhole s pieces (finish draft found)

unfoldable pub Goes : Scope → List TextPiece → Option Draft → List TextPiece → Type 0
Goes s pieces None rest = IsWhole s pieces Unread
Goes s pieces (Some draft) rest = Leads s pieces draft rest

-- ---- a piece that is said

finish_piece : (d : Draft) (p : Piece) (found : Found Ahead) → finish d (two said_ahead (Read p) found) ≡ finish (with_piece d p) found
finish_piece d p TooMany = refl
finish_piece d p Unread = refl
finish_piece (Outside parts) p (Read a) = ap Read (sym (parts_further parts (Plain p) a.now))
finish_piece (Then parts c run) p (Read a) = ap (λ (t : tree.Text). Read (parts_then parts (tree.IfSaid c t a.next a.last))) (sym (run_further run p a.now))
finish_piece (Else parts c run others) p (Read a) = ap (λ (t : tree.Text). Read (parts_then parts (tree.IfSaid c (run_then run tree.Silence) t a.next))) (sym (run_further others p a.now))
finish_piece (Over where_is) p (Read a) = refl

same_place : (d : Draft) (p : Piece) → place_of (with_piece d p) ≡ place_of d
same_place (Outside parts) p = refl
same_place (Then parts c run) p = refl
same_place (Else parts c run others) p = refl
same_place (Over where_is) p = refl

finish_over : (d : Draft) (where_is : Place) (found : Found Ahead) → finish d (two said_ahead TooMany found) ≡ finish (Over where_is) found
finish_over d where_is (Read a) = refl
finish_over d where_is TooMany = refl
finish_over d where_is Unread = refl

said_goes : (s : Scope) (pieces rest : List TextPiece) (d : Draft) (Means : Piece → Type 0) (found : Found Piece) → IsFoundAs Means piece_is_over found
    → ((ahead : Found Ahead) → IsFoundAs (MadeOfTwo said_ahead Means (IsAhead s (place_of d) rest)) (ahead_is_over (place_of d)) ahead → IsWhole s pieces (finish d ahead)) → Goes s pieces (with_found d found) rest
unfolding Leads Goes
said_goes s pieces rest d Means (Read p) means leads = λ ahead is.
    subst (IsWhole s pieces) (finish_piece d p ahead)
    (leads (two said_ahead (Read p) ahead)
    (two_found said_ahead Means (IsAhead s (place_of d) rest) piece_is_over (ahead_is_over (place_of d)) (ahead_is_over (place_of d)) (over_ahead (place_of d)) (Read p) ahead means
    (subst (λ (at : Place). IsFoundAs (IsAhead s at rest) (ahead_is_over at) ahead) (same_place d p) is)))
said_goes s pieces rest d Means TooMany means leads = λ ahead is.
    subst (IsWhole s pieces) (finish_over d (place_of d) ahead)
    (leads (two said_ahead TooMany ahead)
    (two_found said_ahead Means (IsAhead s (place_of d) rest) piece_is_over (ahead_is_over (place_of d)) (ahead_is_over (place_of d)) (over_ahead (place_of d)) TooMany ahead means is))
said_goes s pieces rest d Means Unread means leads = leads Unread (λ a made. means made.0 made.2)

-- ---- the marks of an if

finish_opened : (parts : List Part) (c : tree.Condition) (found : Found Ahead) → finish (Outside parts) (two if_ahead (Read c) found) ≡ finish (Then parts c []) found
finish_opened parts c (Read a) = refl
finish_opened parts c TooMany = refl
finish_opened parts c Unread = refl

finish_opened_over : (d : Draft) (found : Found Ahead) → finish d (two if_ahead TooMany found) ≡ finish (Over place.Then) found
finish_opened_over d (Read a) = refl
finish_opened_over d TooMany = refl
finish_opened_over d Unread = refl

finish_over_opened : (c : tree.Condition) (found : Found Ahead) → finish (Over place.Outside) (two if_ahead (Read c) found) ≡ finish (Over place.Then) found
finish_over_opened c (Read a) = refl
finish_over_opened c TooMany = refl
finish_over_opened c Unread = refl

abbrev IfAhead : Scope → List (List ℕ) → List TextPiece → Ahead → Type 0
IfAhead s words rest = MadeOfTwo if_ahead (IsCondition s words) (IsAhead s place.Then rest)

if_is_ahead : (s : Scope) (words : List (List ℕ)) (rest : List TextPiece) (found : Found tree.Condition) (ahead : Found Ahead) → IsFoundAs (IsCondition s words) asks_over found
    → IsFoundAs (IsAhead s place.Then rest) (ahead_is_over place.Then) ahead → IsFoundAs (IfAhead s words rest) (ahead_is_over place.Outside) (two if_ahead found ahead)
if_is_ahead s words rest found ahead =
    two_found if_ahead (IsCondition s words) (IsAhead s place.Then rest) asks_over (ahead_is_over place.Then) (ahead_is_over place.Outside) (λ c a. refl) found ahead

if_goes : (s : Scope) (pieces rest : List TextPiece) (words : List (List ℕ)) (d : Draft) (found : Found tree.Condition) → IsFoundAs (IsCondition s words) asks_over found → Leads s pieces d (text.If words ∷ rest)
    → Goes s pieces (with_if d found) rest
unfolding Leads Goes
if_goes s pieces rest words (Outside parts) (Read c) asks leads = λ ahead is.
    subst (IsWhole s pieces) (finish_opened parts c ahead) (leads (two if_ahead (Read c) ahead) (if_is_ahead s words rest (Read c) ahead asks is))
if_goes s pieces rest words (Outside parts) TooMany asks leads = λ ahead is.
    subst (IsWhole s pieces) (finish_opened_over (Outside parts) ahead) (leads (two if_ahead TooMany ahead) (if_is_ahead s words rest TooMany ahead asks is))
if_goes s pieces rest words (Outside parts) Unread asks leads = leads Unread (λ a made. asks made.0 made.2)
if_goes s pieces rest words (Over place.Outside) (Read c) asks leads = λ ahead is.
    subst (IsWhole s pieces) (finish_over_opened c ahead) (leads (two if_ahead (Read c) ahead) (if_is_ahead s words rest (Read c) ahead asks is))
if_goes s pieces rest words (Over place.Outside) TooMany asks leads = λ ahead is.
    subst (IsWhole s pieces) (finish_opened_over (Over place.Outside) ahead) (leads (two if_ahead TooMany ahead) (if_is_ahead s words rest TooMany ahead asks is))
if_goes s pieces rest words (Over place.Outside) Unread asks leads = leads Unread (λ a made. asks made.0 made.2)
if_goes s pieces rest words (Over place.Then) found asks leads = leads Unread (λ a made. made)
if_goes s pieces rest words (Over place.Else) found asks leads = leads Unread (λ a made. made)
if_goes s pieces rest words (Then parts c run) found asks leads = leads Unread (λ a made. made)
if_goes s pieces rest words (Else parts c run others) found asks leads = leads Unread (λ a made. made)

finish_turned : (parts : List Part) (c : tree.Condition) (run : List Piece) (found : Found Ahead) → finish (Then parts c run) (one otherwise_ahead found) ≡ finish (Else parts c run []) found
finish_turned parts c run (Read a) = refl
finish_turned parts c run TooMany = refl
finish_turned parts c run Unread = refl

stays_over : (here there : Place) (make : Ahead → Ahead) (found : Found Ahead) → finish (Over here) (one make found) ≡ finish (Over there) found
stays_over here there make (Read a) = refl
stays_over here there make TooMany = refl
stays_over here there make Unread = refl

otherwise_is_ahead : (s : Scope) (rest : List TextPiece) (ahead : Found Ahead) → IsFoundAs (IsAhead s place.Else rest) (ahead_is_over place.Else) ahead
    → IsFoundAs (Made otherwise_ahead (IsAhead s place.Else rest)) (ahead_is_over place.Then) (one otherwise_ahead ahead)
otherwise_is_ahead s rest ahead = one_found otherwise_ahead (IsAhead s place.Else rest) (ahead_is_over place.Else) (ahead_is_over place.Then) (λ a. refl) ahead

otherwise_goes : (s : Scope) (pieces rest : List TextPiece) (d : Draft) → Leads s pieces d (text.Otherwise ∷ rest) → Goes s pieces (with_otherwise d) rest
unfolding Leads Goes
otherwise_goes s pieces rest (Then parts c run) leads = λ ahead is.
    subst (IsWhole s pieces) (finish_turned parts c run ahead) (leads (one otherwise_ahead ahead) (otherwise_is_ahead s rest ahead is))
otherwise_goes s pieces rest (Over place.Then) leads = λ ahead is.
    subst (IsWhole s pieces) (stays_over place.Then place.Else otherwise_ahead ahead) (leads (one otherwise_ahead ahead) (otherwise_is_ahead s rest ahead is))
otherwise_goes s pieces rest (Over place.Outside) leads = leads Unread (λ a made. made)
otherwise_goes s pieces rest (Over place.Else) leads = leads Unread (λ a made. made)
otherwise_goes s pieces rest (Outside parts) leads = leads Unread (λ a made. made)
otherwise_goes s pieces rest (Else parts c run others) leads = leads Unread (λ a made. made)

finish_then : (parts : List Part) (c : tree.Condition) (run : List Piece) (found : Found Ahead) → finish (Then parts c run) (one end_then found) ≡ finish (Outside (parts ++ Chosen c run [] ∷ [])) found
finish_then parts c run (Read a) = ap Read (sym (parts_further parts (Chosen c run []) a.now))
finish_then parts c run TooMany = refl
finish_then parts c run Unread = refl

finish_else : (parts : List Part) (c : tree.Condition) (run others : List Piece) (found : Found Ahead) → finish (Else parts c run others) (one end_else found) ≡ finish (Outside (parts ++ Chosen c run others ∷ [])) found
finish_else parts c run others (Read a) = ap Read (sym (parts_further parts (Chosen c run others) a.now))
finish_else parts c run others TooMany = refl
finish_else parts c run others Unread = refl

then_is_ahead : (s : Scope) (rest : List TextPiece) (ahead : Found Ahead) → IsFoundAs (IsAhead s place.Outside rest) (ahead_is_over place.Outside) ahead
    → IsFoundAs (Made end_then (IsAhead s place.Outside rest)) (ahead_is_over place.Then) (one end_then ahead)
then_is_ahead s rest ahead = one_found end_then (IsAhead s place.Outside rest) (ahead_is_over place.Outside) (ahead_is_over place.Then) (λ a. refl) ahead

else_is_ahead : (s : Scope) (rest : List TextPiece) (ahead : Found Ahead) → IsFoundAs (IsAhead s place.Outside rest) (ahead_is_over place.Outside) ahead
    → IsFoundAs (Made end_else (IsAhead s place.Outside rest)) (ahead_is_over place.Else) (one end_else ahead)
else_is_ahead s rest ahead = one_found end_else (IsAhead s place.Outside rest) (ahead_is_over place.Outside) (ahead_is_over place.Else) (λ a. refl) ahead

end_goes : (s : Scope) (pieces rest : List TextPiece) (d : Draft) → Leads s pieces d (text.EndIf ∷ rest) → Goes s pieces (with_end d) rest
unfolding Leads Goes
end_goes s pieces rest (Then parts c run) leads = λ ahead is. subst (IsWhole s pieces) (finish_then parts c run ahead) (leads (one end_then ahead) (then_is_ahead s rest ahead is))
end_goes s pieces rest (Else parts c run others) leads = λ ahead is. subst (IsWhole s pieces) (finish_else parts c run others ahead) (leads (one end_else ahead) (else_is_ahead s rest ahead is))
end_goes s pieces rest (Over place.Then) leads = λ ahead is. subst (IsWhole s pieces) (stays_over place.Then place.Outside end_then ahead) (leads (one end_then ahead) (then_is_ahead s rest ahead is))
end_goes s pieces rest (Over place.Else) leads = λ ahead is. subst (IsWhole s pieces) (stays_over place.Else place.Outside end_else ahead) (leads (one end_else ahead) (else_is_ahead s rest ahead is))
end_goes s pieces rest (Over place.Outside) leads = leads Unread (λ a made. made)
end_goes s pieces rest (Outside parts) leads = leads Unread (λ a made. made)

-- ---- all of them

sense_goes : (s : Scope) (pieces rest : List TextPiece) (first : TextPiece) (d : Draft) (sense : Sense) → IsSense s first sense → Leads s pieces d (first ∷ rest) → Goes s pieces (after d sense) rest
unfolding Leads Goes
sense_goes s pieces rest (text.Printed bytes) d (Said found) is leads = said_goes s pieces rest d (Says s (text.Printed bytes)) found is leads
sense_goes s pieces rest (text.Substitution words) d (Said found) is leads = said_goes s pieces rest d (Says s (text.Substitution words)) found is leads
sense_goes s pieces rest (text.If words) d (If found) is leads = if_goes s pieces rest words d found is leads
sense_goes s pieces rest text.Otherwise d Otherwise is leads = otherwise_goes s pieces rest d leads
sense_goes s pieces rest text.EndIf d EndIf is leads = end_goes s pieces rest d leads
sense_goes s pieces rest (text.Printed bytes) d (If found) is leads = absurd is
sense_goes s pieces rest (text.Printed bytes) d Otherwise is leads = absurd is
sense_goes s pieces rest (text.Printed bytes) d EndIf is leads = absurd is
sense_goes s pieces rest (text.Substitution words) d (If found) is leads = absurd is
sense_goes s pieces rest (text.Substitution words) d Otherwise is leads = absurd is
sense_goes s pieces rest (text.Substitution words) d EndIf is leads = absurd is
sense_goes s pieces rest (text.If words) d (Said found) is leads = absurd is
sense_goes s pieces rest (text.If words) d Otherwise is leads = absurd is
sense_goes s pieces rest (text.If words) d EndIf is leads = absurd is
sense_goes s pieces rest text.Otherwise d (Said found) is leads = absurd is
sense_goes s pieces rest text.Otherwise d (If found) is leads = absurd is
sense_goes s pieces rest text.Otherwise d EndIf is leads = absurd is
sense_goes s pieces rest text.EndIf d (Said found) is leads = absurd is
sense_goes s pieces rest text.EndIf d (If found) is leads = absurd is
sense_goes s pieces rest text.EndIf d Otherwise is leads = absurd is

pub read_on_goes : (s : Scope) (pieces rest : List TextPiece) (first : TextPiece) (d : Draft) (next : Option Draft) → Leads s pieces d (first ∷ rest) → IsReadOn s first d next → Goes s pieces next rest
unfolding Leads Goes
read_on_goes s pieces rest first d next leads is =
    subst (λ (found : Option Draft). Goes s pieces found rest) (sym is.2) (sense_goes s pieces rest first d is.0 is.1 leads)

-- ---- the first piece, and the last

pub start_leads : (s : Scope) (pieces : List TextPiece) → Leads s pieces (Outside []) pieces
unfolding Leads Goes
start_leads s pieces (Read a) is = (ahead_reads s place.Outside pieces a is.0, is.1)
start_leads s pieces TooMany is = (is.0.now, ahead_reads s place.Outside pieces is.0 is.1, is.2)
start_leads s pieces Unread is = λ t reads. is (alone t) (text_ahead s pieces t reads)

pub end_leads : (s : Scope) (pieces : List TextPiece) (d : Draft) → Leads s pieces d [] → IsWhole s pieces (ended d)
unfolding Leads Goes
end_leads s pieces (Outside parts) leads = leads (Read (alone tree.Silence)) (refl, refl)
end_leads s pieces (Over place.Outside) leads = leads (Read (alone tree.Silence)) (refl, refl)
end_leads s pieces (Over place.Then) leads = leads Unread (λ a is. is)
end_leads s pieces (Over place.Else) leads = leads Unread (λ a is. is)
end_leads s pieces (Then parts c run) leads = leads Unread (λ a is. is)
end_leads s pieces (Else parts c run others) leads = leads Unread (λ a is. is)

-- ---- as the loop keeps them

abbrev behind_one : List TextPiece → List TextPiece
behind_one list = take (length list - 1) (drop 1 list)

behind_one_is : (first : TextPiece) (rest : List TextPiece) → behind_one (first ∷ rest) ≡ rest
behind_one_is first rest = grind (arith, common_steps)

one_goes : (s : Scope) (pieces list : List TextPiece) (first : TextPiece) (d : Draft) (next : Option Draft) → 1 ≤ length list → first ≡ get_or list 0 first → Leads s pieces d list → IsReadOn s first d next
    → Goes s pieces next (behind_one list)
one_goes s pieces [] first d next some at leads is = absurd (omega arith)
one_goes s pieces (p ∷ rest) first d next some at leads is =
    subst (Goes s pieces next) (sym (behind_one_is p rest)) (read_on_goes s pieces rest p d next leads (subst (λ (q : TextPiece). IsReadOn s q d next) at is))

some_leads : (s : Scope) (pieces rest : List TextPiece) (d : Draft) → Goes s pieces (Some d) rest → Leads s pieces d rest
unfolding Leads Goes
some_leads s pieces rest d goes = goes

none_is_whole : (s : Scope) (pieces rest : List TextPiece) → Goes s pieces None rest → IsWhole s pieces Unread
unfolding Leads Goes
none_is_whole s pieces rest goes = goes

pub goes_on : (s : Scope) (pieces list : List TextPiece) (first : TextPiece) (draft next : Kept) (found : Option Kept) → 1 ≤ length list → first ≡ get_or list 0 first → Leads s pieces (draft_of draft) list
    → IsReadOn s first (draft_of draft) (next_of found) → found ≡ Some next → Leads s pieces (draft_of next) (behind_one list)
goes_on s pieces list first draft next found some at leads is e =
    some_leads s pieces (behind_one list) (draft_of next)
    (subst (λ (f : Option Kept). Goes s pieces (next_of f) (behind_one list)) e (one_goes s pieces list first (draft_of draft) (next_of found) some at leads is))

pub goes_nowhere : (s : Scope) (pieces list : List TextPiece) (first : TextPiece) (draft : Kept) (found : Option Kept) → 1 ≤ length list → first ≡ get_or list 0 first → Leads s pieces (draft_of draft) list
    → IsReadOn s first (draft_of draft) (next_of found) → found ≡ None → IsWhole s pieces Unread
goes_nowhere s pieces list first draft found some at leads is e =
    none_is_whole s pieces (behind_one list)
    (subst (λ (f : Option Kept). Goes s pieces (next_of f) (behind_one list)) e (one_goes s pieces list first (draft_of draft) (next_of found) some at leads is))

pub goes_to_end : (s : Scope) (pieces list : List TextPiece) (draft : Kept) (found : Found tree.Text) → length list < 1 → Leads s pieces (draft_of draft) list → found ≡ ended (draft_of draft) → IsWhole s pieces found
goes_to_end s pieces [] draft found few leads e = subst (IsWhole s pieces) (sym e) (end_leads s pieces (draft_of draft) leads)
goes_to_end s pieces (p ∷ rest) draft found few leads e = absurd (omega arith)
