-- The kinds of value that are found in parts are those that they declare.
use Rattle.std.proofs.Common.{◌≡◌, inl, inr, Bool, true, false, List, [], ◌∷◌, refl, ap, ◌∙◌, subst}
use Rattle.std.specs.Prelude.{◌||◌, Option, Some, None, is_some, if◌then◌else◌}
use Rattle.std.specs.List.{All, cons_option, filter_map, list_any}
use Rattle.std.proofs.lemmas.List.Elements.{All-nil, All-cons}
use Rattle.i7_lexer.specs.declared.token.Token.{Token}
use Rattle.i7_sentences.specs.Cuts.{Piece}
use Rattle.i7_sentences.specs.DeclaredKinds.{AreDeclared, AreKinds, DeclaresKind, DeclaresNone, IsSaidItself, SaysItself, SaysNot, nothing, one_more, no_more}
use Rattle.i7_sentences.specs.Forms.{AreUnfit, Fits, IsUnfit, IsUnread, Variant, lower_forms, middle_forms}
use Rattle.i7_sentences.specs.KindsOfValue.{declared_by, declared_in, first_name, is_value_itself, kinds_of_value, speaks_of_value, value_itself}
use Rattle.i7_sentences.specs.Matching.{Found, best_fit, first_fit, lowest_fit}
use Rattle.i7_sentences.specs.Names.{Words}
use Rattle.i7_sentences.specs.declared.part.PartKind.{PartKind}
use Rattle.i7_sentences.specs.declared.part.PartKind.TheVariants.{Title, Heading, Sentence}
use Rattle.i7_sentences.specs.declared.value_form.TheConstants.{KIND_OF_VALUE}
use Rattle.i7_sentences.proofs.Choosing.{BestOf, ReadAs, best_is, read_as}
use Rattle.i7_sentences.proofs.Fitting.{Fitted, fitted}
use Rattle.i7_sentences.proofs.Lists.{nil-cons, same_tail}
use Rattle.i7_sentences.proofs.Sameness.{all_there, never_both}

no_title : {A : Type 0} → Title ≡ Sentence → A
no_title e = absurd (let f = e in cc)

no_heading : {A : Type 0} → Heading ≡ Sentence → A
no_heading e = absurd (let f = e in cc)

-- ---- what says of value itself

-- whether a part says so
abbrev Itself : Piece → Bool → Type 0
Itself part true = SaysItself part
Itself part false = SaysNot part

itself_found : (tokens : List Token) (found : Option Found) → BestOf value_itself tokens found → Itself (record { kind = Sentence; tokens = tokens }) (is_some found)
itself_found tokens None unfit = λ says.
    all_there (IsUnfit tokens) says.before says.variant says.after (subst (λ (vs : List Variant). AreUnfit tokens vs) says.place unfit) says.letters says.fits
itself_found tokens (Some found) best = record {
  is_sentence = refl;
  before = best.before;
  variant = found.variant;
  after = best.after;
  place = best.place;
  letters = found.letters;
  fits = best.fits;
}

itself : (kind : PartKind) (tokens : List Token) → Itself (record { kind = kind; tokens = tokens }) (speaks_of_value kind tokens)
itself Title tokens = λ says. no_title says.is_sentence
itself Heading tokens = λ says. no_heading says.is_sentence
itself Sentence tokens = itself_found tokens (best_fit value_itself tokens) (best_is value_itself tokens)

abbrev SomeItself : List Piece → Bool → Type 0
SomeItself parts true = IsSaidItself parts
SomeItself parts false = All SaysNot parts

later_itself : (part : Piece) (parts : List Piece) → IsSaidItself parts → IsSaidItself (part ∷ parts)
later_itself part parts said = record {
  before = part ∷ said.before;
  part = said.part;
  after = said.after;
  place = ap (λ (ps : List Piece). part ∷ ps) said.place;
  says = said.says;
}

more_itself : (part : Piece) (parts : List Piece) (here later : Bool) → Itself part here → SomeItself parts later → SomeItself (part ∷ parts) (here || later)
more_itself part parts true later says more = record { before = []; part = part; after = parts; place = refl; says = says }
more_itself part parts false true not more = later_itself part parts more
more_itself part parts false false not more = All-cons SaysNot part parts not more

some_itself : (parts : List Piece) → SomeItself parts (list_any is_value_itself parts)
some_itself [] = All-nil SaysNot
some_itself (part ∷ parts) = more_itself part parts (is_value_itself part) (list_any is_value_itself parts) (itself part.kind part.tokens) (some_itself parts)

-- ---- what declares a kind of value

abbrev Declared : Piece → Option Words → Type 0
Declared part None = DeclaresNone part
Declared part (Some kind) = DeclaresKind part kind

-- what declares a kind has one letter
one_letter : (tokens : List Token) (name : List Token) (more : List (List Token)) → Fits KIND_OF_VALUE.now tokens (name ∷ more) → more ≡ []
one_letter tokens name more fits =
    let last = fits.behind.behind.behind.behind.behind.behind in
    same_tail name fits.words more fits.others fits.keeps ∙ last.1

named_found : (tokens : List Token) (found : Option (List (List Token))) → IsUnread lower_forms tokens × IsUnread middle_forms tokens → Fitted KIND_OF_VALUE.now tokens found → Declared (record { kind = Sentence; tokens = tokens }) (first_name found)
named_found tokens None unread unfit = λ kind declares. unfit (declares.name ∷ []) declares.fits
named_found tokens (Some []) unread found = absurd (nil-cons (found.fits).words (found.fits).others (found.fits).keeps)
named_found tokens (Some (name ∷ more)) unread found = record {
  is_sentence = refl;
  unread = unread;
  name = name;
  fits = subst (λ (ls : List (List Token)). Fits KIND_OF_VALUE.now tokens (name ∷ ls)) (one_letter tokens name more found.fits) found.fits;
  kind_is = refl;
}

unless_read : (tokens : List Token) (lower middle : Option Found) → ReadAs lower_forms tokens lower → ReadAs middle_forms tokens middle
    → Declared (record { kind = Sentence; tokens = tokens }) (if is_some lower || is_some middle then None else first_name (first_fit KIND_OF_VALUE.now tokens))
unless_read tokens (Some found) middle reading other = λ kind declares. never_both lower_forms tokens found.variant found.letters reading declares.unread.0
unless_read tokens None (Some found) unread reading = λ kind declares. never_both middle_forms tokens found.variant found.letters reading declares.unread.1
unless_read tokens None None lower middle = named_found tokens (first_fit KIND_OF_VALUE.now tokens) (lower, middle) (fitted KIND_OF_VALUE.now tokens)

declared : (kind : PartKind) (tokens : List Token) → Declared (record { kind = kind; tokens = tokens }) (declared_by kind tokens)
declared Title tokens = λ kind declares. no_title declares.is_sentence
declared Heading tokens = λ kind declares. no_heading declares.is_sentence
declared Sentence tokens = unless_read tokens (lowest_fit lower_forms tokens) (lowest_fit middle_forms tokens) (read_as lower_forms tokens) (read_as middle_forms tokens)

with_declared : (part : Piece) (parts : List Piece) (kind : Option Words) (kinds : List Words) → Declared part kind → AreDeclared parts kinds → AreDeclared (part ∷ parts) (cons_option kind kinds)
with_declared part parts None kinds none more = no_more part parts kinds none more
with_declared part parts (Some kind) kinds declares more = one_more part parts kind kinds declares more

all_declared : (parts : List Piece) → AreDeclared parts (filter_map declared_in parts)
all_declared [] = nothing
all_declared (part ∷ parts) = with_declared part parts (declared_in part) (filter_map declared_in parts) (declared part.kind part.tokens) (all_declared parts)

kinds_by : (parts : List Piece) (said : Bool) → SomeItself parts said → AreKinds parts (if said then [] else filter_map declared_in parts)
kinds_by parts true says = inl (says, refl)
kinds_by parts false not = inr (not, all_declared parts)

pub are_kinds : (parts : List Piece) → AreKinds parts (kinds_of_value parts)
unfolding kinds_of_value
are_kinds parts = kinds_by parts (list_any is_value_itself parts) (some_itself parts)
