-- Where the lines of sentences rise, so do those of what they state and of the objects that they mention.
use Rattle.std.proofs.Common.{◌≡◌, ℕ, ◌≤◌, List, [], ◌∷◌, ◌++◌, refl, sym, ap, ◌∙◌, subst, append_assoc, append-nil, arith, inl, inr}
use Rattle.std.specs.Prelude.{flat_map, fold, map}
use Rattle.std.proofs.lemmas.Bool.{cases_Bool}
use Rattle.i7_sentences.specs.declared.name.Name.{Name}
use Rattle.i7_sentences.specs.declared.sentence.Sentence.{Sentence}
use Rattle.i7_claims.specs.Statements.{NameAt, Named, built_in_keys, has_key, key_of, named_by, names_at, names_in, stated_by, statement_in, with_name, with_names_of}
use Rattle.i7_kinds.specs.Demands.{line_at, line_of_statement}
use Rattle.i7_lexer.specs.Rising.{LinesRise}
use Rattle.i7_lexer.proofs.Rising.{RiseFrom, left_out, lines_rise, lower, map_append, rise_from}

abbrev sentence_line : Sentence → ℕ
sentence_line s = s.line

-- ---- what sentences state and mention

stated_lines : (named : Named) (sentences : List Sentence) → map line_of_statement (map (statement_in named) sentences) ≡ map sentence_line sentences
stated_lines named [] = refl
stated_lines named (s ∷ sentences) = ap (λ (ns : List ℕ). s.line ∷ ns) (stated_lines named sentences)

abbrev all_mentions : List Sentence → List NameAt
all_mentions sentences = flat_map names_at sentences

named_lines : (least line : ℕ) (names : List Name) (lines : List ℕ) → least ≤ line → RiseFrom line lines
    → RiseFrom least (map line_at (map (λ name. record { name = name; line = line }) names) ++ lines)
named_lines least line [] lines le r = lower least line lines le r
named_lines least line (name ∷ names) lines le r = (le, named_lines line line names lines (omega arith) r)

mentions_rise : (least : ℕ) (sentences : List Sentence) → RiseFrom least (map sentence_line sentences) → RiseFrom least (map line_at (all_mentions sentences))
mentions_rise least [] r = tt
mentions_rise least (s ∷ sentences) r =
    subst (λ (ns : List ℕ). RiseFrom least ns) (sym (map_append line_at (names_at s) (all_mentions sentences)))
    (named_lines least s.line (names_in s.said) (map line_at (all_mentions sentences)) r.0 (mentions_rise s.line sentences r.1))

abbrev MentionsRise : Named → List ℕ → Type 0
MentionsRise named lines = RiseFrom 0 (map line_at named.mentions ++ lines)

name_step : (named : Named) (at : NameAt) (lines : List ℕ) → MentionsRise named (at.line ∷ lines) → MentionsRise (with_name named at) lines
name_step named at lines r =
    elim (cases_Bool (has_key named.keys (key_of at.name.text))) [
      | inl is ↦ rw is (left_out 0 (map line_at named.mentions) (at.line ∷ []) lines r)
      | inr isnt ↦ rw isnt (subst (λ (ns : List ℕ). RiseFrom 0 ns)
          (sym (ap (λ (ns : List ℕ). ns ++ lines) (map_append line_at named.mentions (at ∷ [])) ∙ append_assoc (map line_at named.mentions) (at.line ∷ []) lines)) r)
    ]

names_step : (ats : List NameAt) (named : Named) (lines : List ℕ) → MentionsRise named (map line_at ats ++ lines) → MentionsRise (fold with_name named ats) lines
names_step [] named lines r = r
names_step (at ∷ ats) named lines r = names_step ats (with_name named at) lines (name_step named at (map line_at ats ++ lines) r)

sentences_step : (sentences : List Sentence) (named : Named) → MentionsRise named (map line_at (all_mentions sentences)) → RiseFrom 0 (map line_at (fold with_names_of named sentences).mentions)
sentences_step [] named r = subst (λ (ns : List ℕ). RiseFrom 0 ns) (append-nil (map line_at named.mentions)) r
sentences_step (s ∷ sentences) named r =
    sentences_step sentences (with_names_of named s)
    (names_step (names_at s) named (map line_at (all_mentions sentences)) (subst (λ (ns : List ℕ). MentionsRise named ns) (map_append line_at (names_at s) (all_mentions sentences)) r))

pub statements_rise : (sentences : List Sentence) → LinesRise (λ s. s.line) sentences → LinesRise line_of_statement (stated_by sentences) × LinesRise line_at (named_by sentences).mentions
statements_rise sentences rise =
    let r : RiseFrom 0 (map sentence_line sentences) = rise_from sentence_line 0 sentences (λ first more split. omega arith) rise in (
      lines_rise line_of_statement (stated_by sentences) (subst (λ (ns : List ℕ). RiseFrom 0 ns) (sym (stated_lines (named_by sentences) sentences)) r),
      lines_rise line_at (named_by sentences).mentions (sentences_step sentences (record { keys = built_in_keys; mentions = [] }) (mentions_rise 0 sentences r)),
    )
