-- The lowest line at which a sentence is over the limits, as it is found by the words and lines told up to each sentence.
use Rattle.std.proofs.Common.{◌≡◌, ℕ, zero, suc, ◌+◌, ◌<◌, Bool, true, false, List, [], ◌∷◌, ◌++◌, length, map, refl, ap, ◌∙◌, sym, subst, arith, append-nil}
use Rattle.std.specs.Prelude.{◌==◌, ◌||◌, not, nat_lt, fold, slice_get, Option, Some, None, if◌then◌else◌}
use Rattle.std.specs.List.{flat_map, list_any}
use Rattle.std.specs.Option.{option_map}
use Rattle.std.proofs.lemmas.Bool.{eq-eqb, ne_eqb}
use Rattle.std.proofs.lemmas.Grind.{flat_map-append}
use Rattle.std.proofs.lemmas.List.{length-append, map-append}
use Rattle.std.proofs.lemmas.List.Sums.{fold-append}
use Rattle.world_meaning.specs.Spelling.{lowered}
use Rattle.world_meaning.specs.declared.fault.FaultCode.TheVariants.{TooMany, UnknownName, WrongKind}
use Rattle.world_meaning.specs.declared.tale.Object.{Object}
use Rattle.object_words.specs.Mentions.{mention}
use Rattle.object_words.specs.Words.{words_for}
use Rattle.command_grammar.specs.Synonyms.{own_words, words_in, words_said}
use Rattle.command_grammar.specs.declared.synonym.Synonym.{Synonym}
use Rattle.i7_sentences.specs.Lowest.{lower_of, lowest}
use Rattle.i7_grammar.specs.GrammarFacts.{worded}
use Rattle.i7_grammar.specs.GrammarScans.{are_many, has_many, is_over_by, named_from, over_by, over_from, set_words, told_within, with_text, with_texts, with_words}
use Rattle.i7_grammar.specs.Grammars.{All, grammar_by, is_full, is_long, is_over, is_wordy, line_unless, lines_in, lines_told, most_lines, over_at, placed, refused_or, synonym_by, synonyms_by, synonyms_in, synonyms_told, unknown_at, unsuited_at}
use Rattle.i7_grammar.specs.Targets.{Known}
use Rattle.i7_grammar.specs.TextTokens.{words_among}
use Rattle.i7_grammar.specs.Understood.{Understood}
use Rattle.i7_grammar.specs.declared.target.Target.{Target}
use Rattle.i7_grammar.specs.declared.target.Target.TheVariants.{Action, Object as Names}

-- ---- the words of synonyms

own_both : (o : ℕ) (xs ys : List Synonym) → own_words o (xs ++ ys) ≡ own_words o xs ++ own_words o ys
own_both o [] ys = refl
own_both o (x ∷ xs) ys =
    let Goal : Bool → Type 0 = λ is. (if is then x.word ∷ own_words o (xs ++ ys) else own_words o (xs ++ ys)) ≡ (if is then x.word ∷ own_words o xs else own_words o xs) ++ own_words o ys
    in elim (x.object == o) as Goal [
      | true ↦ ap (λ l. x.word ∷ l) (own_both o xs ys)
      | false ↦ own_both o xs ys
    ]

own_of : (o : ℕ) (words : List (List ℕ)) → own_words o (map (synonym_by o) words) ≡ map lowered words
own_of o [] = refl
own_of o (word ∷ words) = rw (eq-eqb o o refl) (ap (λ l. lowered word ∷ l) (own_of o words))

own_none : (o p : ℕ) → (o ≡ p → ⊥) → (words : List (List ℕ)) → own_words p (map (synonym_by o) words) ≡ []
own_none o p other [] = refl
own_none o p other (word ∷ words) = rw (ne_eqb o p other) (own_none o p other words)

said_more : (synonyms more : List Synonym) (o : ℕ) (name : List ℕ) → words_said (synonyms ++ more) o name ≡ fold mention (words_said synonyms o name) (own_words o more)
unfolding words_said
said_more synonyms more o name =
    ap (fold mention (words_for o name)) (own_both o synonyms more) ∙ fold-append mention (words_for o name) (own_words o synonyms) (own_words o more)

said_same : (synonyms more : List Synonym) (o : ℕ) (name : List ℕ) → own_words o more ≡ [] → words_said (synonyms ++ more) o name ≡ words_said synonyms o name
said_same synonyms more o name none = said_more synonyms more o name ∙ ap (fold mention (words_said synonyms o name)) none

texts_mentioned : (words texts : List (List ℕ)) → fold mention words (map lowered (flat_map words_among texts)) ≡ with_texts words texts
texts_mentioned words [] = refl
texts_mentioned words (text ∷ texts) =
    ap (fold mention words) (map-append lowered (words_among text) (flat_map words_among texts))
    ∙ fold-append mention words (map lowered (words_among text)) (map lowered (flat_map words_among texts))
    ∙ texts_mentioned (with_text words text) texts

abbrev told_by : ℕ → List (List ℕ) → List Synonym
told_by o texts = map (synonym_by o) (flat_map words_among texts)

said_here : (synonyms : List Synonym) (o : ℕ) (name : List ℕ) (texts : List (List ℕ)) → words_said (synonyms ++ told_by o texts) o name ≡ with_texts (words_said synonyms o name) texts
said_here synonyms o name texts =
    said_more synonyms (told_by o texts) o name
    ∙ ap (fold mention (words_said synonyms o name)) (own_of o (flat_map words_among texts))
    ∙ texts_mentioned (words_said synonyms o name) texts

-- ---- the words of all objects

named_worded : (o : ℕ) (objects : List Object) → worded [] o objects ≡ named_from o objects
unfolding words_said
named_worded o [] = refl
named_worded o (object ∷ objects) = ap (λ words. words_for o object.name ∷ words) (named_worded (o + 1) objects)

both : (w v : List (List ℕ)) (ws vs : List (List (List ℕ))) → w ≡ v → ws ≡ vs → w ∷ ws ≡ v ∷ vs
both w v ws vs first rest = ap (λ x. x ∷ ws) first ∙ ap (λ xs. v ∷ xs) rest

worded_same : (synonyms : List Synonym) (o m : ℕ) (texts : List (List ℕ)) (objects : List Object) → o < m → worded (synonyms ++ told_by o texts) m objects ≡ worded synonyms m objects
worded_same synonyms o m texts [] lt = refl
worded_same synonyms o m texts (object ∷ objects) lt =
    both (words_said (synonyms ++ told_by o texts) m object.name) (words_said synonyms m object.name) (worded (synonyms ++ told_by o texts) (m + 1) objects) (worded synonyms (m + 1) objects)
    (said_same synonyms (told_by o texts) m object.name (own_none o m (λ e. omega (arith, e, lt)) (flat_map words_among texts)))
    (worded_same synonyms o (m + 1) texts objects (omega (arith, lt)))

pub set_behind : (w : List (List ℕ)) (ws : List (List (List ℕ))) (i : ℕ) (texts : List (List ℕ)) → set_words (w ∷ ws) (suc i) texts (slice_get ws i) ≡ w ∷ set_words ws i texts (slice_get ws i)
set_behind w ws i texts = by_found (slice_get ws i)
  where
    by_found : (found : Option (List (List ℕ))) → set_words (w ∷ ws) (suc i) texts found ≡ w ∷ set_words ws i texts found
    by_found None = refl
    by_found (Some words) = refl

said_at : (synonyms : List Synonym) (o m : ℕ) (name : List ℕ) (texts : List (List ℕ)) → o ≡ m → words_said (synonyms ++ told_by o texts) m name ≡ with_texts (words_said synonyms m name) texts
said_at synonyms o m name texts is = subst (λ n. words_said (synonyms ++ told_by o texts) n name ≡ with_texts (words_said synonyms n name) texts) is (said_here synonyms o name texts)

worded_set : (synonyms : List Synonym) (n i o : ℕ) (texts : List (List ℕ)) (objects : List Object) → o ≡ n + i
    → worded (synonyms ++ told_by o texts) n objects ≡ set_words (worded synonyms n objects) i texts (slice_get (worded synonyms n objects) i)
worded_set synonyms n i o texts [] is = refl
worded_set synonyms n zero o texts (object ∷ objects) is =
    both (words_said (synonyms ++ told_by o texts) n object.name) (with_texts (words_said synonyms n object.name) texts) (worded (synonyms ++ told_by o texts) (n + 1) objects) (worded synonyms (n + 1) objects)
    (said_at synonyms o n object.name texts (omega (arith, is)))
    (worded_same synonyms o (n + 1) texts objects (omega (arith, is)))
worded_set synonyms n (suc i) o texts (object ∷ objects) is =
    both (words_said (synonyms ++ told_by o texts) n object.name) (words_said synonyms n object.name) (worded (synonyms ++ told_by o texts) (n + 1) objects) (set_words (worded synonyms (n + 1) objects) i texts (slice_get (worded synonyms (n + 1) objects) i))
    (said_same synonyms (told_by o texts) n object.name (own_none o n (λ e. omega (arith, e, is)) (flat_map words_among texts)))
    (worded_set synonyms (n + 1) i o texts objects (omega (arith, is)))
    ∙ sym (set_behind (words_said synonyms n object.name) (worded synonyms (n + 1) objects) i texts)

worded_by : (synonyms : List Synonym) (target : Option Target) (texts : List (List ℕ)) (objects : List Object) → worded (synonyms ++ synonyms_by target texts) 0 objects ≡ with_words (worded synonyms 0 objects) target texts
worded_by synonyms None texts objects = ap (λ all. worded all 0 objects) (append-nil synonyms)
worded_by synonyms (Some (Action action nouns)) texts objects = ap (λ all. worded all 0 objects) (append-nil synonyms)
worded_by synonyms (Some (Names o)) texts objects = worded_set synonyms 0 o o texts objects (omega arith)

worded_at : (synonyms : List Synonym) (n i : ℕ) (objects : List Object) → slice_get (worded synonyms n objects) i ≡ option_map (λ object. words_said synonyms (n + i) object.name) (slice_get objects i)
worded_at synonyms n i [] = refl
worded_at synonyms n zero (object ∷ objects) = let same : n ≡ n + 0 = omega arith in ap (λ m. Some (words_said synonyms m object.name)) same
worded_at synonyms n (suc i) (object ∷ objects) =
    let same : (n + 1) + i ≡ n + suc i = omega arith in
    worded_at synonyms (n + 1) i objects ∙ ap (λ m. option_map (λ other. words_said synonyms m other.name) (slice_get objects i)) same

many_of : (synonyms : List Synonym) (o p : ℕ) (found : Option Object) → p ≡ o → are_many (option_map (λ object. words_said synonyms p object.name) found) ≡ nat_lt 32 (length (words_in synonyms o found))
many_of synonyms o p None same = refl
many_of synonyms o p (Some object) same = ap (λ n. nat_lt 32 (length (words_said synonyms n object.name))) same

pub many_wordy : (k : Known) (us : List Understood) (target : Option Target) → has_many (worded (synonyms_in us) 0 k.objects) target ≡ is_wordy k us target
many_wordy k us None = refl
many_wordy k us (Some (Action action nouns)) = refl
many_wordy k us (Some (Names o)) = ap are_many (worded_at (synonyms_in us) 0 o k.objects) ∙ many_of (synonyms_in us) o (0 + o) (slice_get k.objects o) (omega arith)

-- ---- one more sentence

pub lines_more : (before : List Understood) (u : Understood) → lines_in (before ++ u ∷ []) ≡ lines_in before ++ lines_told u
lines_more before u = flat_map-append lines_told before (u ∷ []) ∙ ap (λ l. lines_in before ++ l) (append-nil (lines_told u))

pub count_more : (before : List Understood) (u : Understood) → length (lines_in (before ++ u ∷ [])) ≡ length (lines_in before) + length (lines_told u)
count_more before u = ap length (lines_more before u) ∙ length-append (lines_in before) (lines_told u)

pub synonyms_more : (before : List Understood) (u : Understood) → synonyms_in (before ++ u ∷ []) ≡ synonyms_in before ++ synonyms_told u
synonyms_more before u = flat_map-append synonyms_told before (u ∷ []) ∙ ap (λ l. synonyms_in before ++ l) (append-nil (synonyms_told u))

abbrev pub words_before : Known → List Understood → List (List (List ℕ))
words_before k before = worded (synonyms_in before) 0 k.objects

pub words_more : (k : Known) (before : List Understood) (u : Understood) → words_before k (before ++ u ∷ []) ≡ with_words (words_before k before) u.target u.texts
words_more k before u = ap (λ all. worded all 0 k.objects) (synonyms_more before u) ∙ worded_by (synonyms_in before) u.target u.texts k.objects

abbrev limits : Understood → Bool → ℕ → Bool
limits u many count = list_any is_long u.texts || (list_any is_full (lines_told u) || (many || nat_lt most_lines count))

over_now : (k : Known) (before : List Understood) (u : Understood)
    → over_at k (record { before = before; here = u }) ≡ over_by (length (lines_in before) + length (lines_told u)) (with_words (words_before k before) u.target u.texts) u
unfolding is_over is_over_by
over_now k before u =
    let many : is_wordy k (before ++ u ∷ []) u.target ≡ has_many (with_words (words_before k before) u.target u.texts) u.target =
    sym (many_wordy k (before ++ u ∷ []) u.target) ∙ ap (λ all. has_many all u.target) (words_more k before u) in
    ap (λ is. line_unless (not (limits u is (length (lines_in (before ++ u ∷ []))))) u.line) many
    ∙ ap (λ count. line_unless (not (limits u (has_many (with_words (words_before k before) u.target u.texts) u.target) count)) u.line) (count_more before u)

-- ---- all of them

over_is : (k : Known) (before us : List Understood) → lowest (over_at k) (placed before us) ≡ over_from (length (lines_in before)) (words_before k before) us
over_is k before [] = refl
over_is k before (u ∷ us) =
    let count = length (lines_in before) + length (lines_told u) in
    let words = with_words (words_before k before) u.target u.texts in
    ap (λ low. lower_of low (lowest (over_at k) (placed (before ++ u ∷ []) us))) (over_now k before u)
    ∙ ap (lower_of (over_by count words u))
    (over_is k (before ++ u ∷ []) us ∙ ap (λ n. over_from n (words_before k (before ++ u ∷ [])) us) (count_more before u) ∙ ap (λ all. over_from count all us) (words_more k before u))

over_found : (k : Known) (us : List Understood) → lowest (over_at k) (placed [] us) ≡ over_from 0 (named_from 0 k.objects) us
over_found k us = over_is k [] us ∙ ap (λ all. over_from 0 all us) (named_worded 0 k.objects)

pub told_is : (k : Known) (us : List Understood) → refused_or UnknownName (lowest unknown_at us) (refused_or WrongKind (lowest unsuited_at us) (told_within k.objects us)) ≡ grammar_by k us
unfolding grammar_by
told_is k us = ap (λ over. refused_or UnknownName (lowest unknown_at us) (refused_or WrongKind (lowest unsuited_at us) (refused_or TooMany over (All (lines_in us) (synonyms_in us))))) (sym (over_found k us))
