-- The strings that are mentioned of phrases, one behind the other, are those that they say.
use Rattle.std.proofs.Common.{◌≡◌, ◌∙◌, ap, sym, refl, ℕ, zero, suc, ◌+◌, ◌<◌, ◌≤◌, List, [], ◌∷◌, ◌++◌, length, drop, get_or, Global, Vec, append_assoc, arith}
use Rattle.std.specs.Prelude.{OnOk, Result, Ok, Err, fold}
use Rattle.std.specs.List.{flat_map}
use Rattle.std.proofs.Math.ListN.{drop_of_length-le}
use Rattle.std.proofs.lemmas.List.{append-nil}
use Rattle.object_words.specs.Mentions.{mention}
use Rattle.object_words.proofs.Folds.{fold_both}
use Rattle.play_meaning.specs.Composed.{if_meant, repeat_meant}
use Rattle.play_meaning.specs.Meant.{body_meant, branches_meant, phrase_meant}
use Rattle.play_meaning.specs.Translation.{strings_of_body, strings_of_phrase}
use Rattle.play_meaning.specs.Trees as tree
use Rattle.play_meaning.specs.declared.tree.object.Description.{Description}
use Rattle.play_meaning.specs.declared.tree.phrase.Branch.{Branch}
use Rattle.play_meaning.specs.declared.tree.phrase.Phrase.{Phrase}
use Rattle.play_meaning.specs.declared.tree.phrase.Phrase.TheVariants as phrase
use Rattle.story_format.specs.Mentioning.{branch_strings}

pub on_ok : {T E P Q : Type 0} (r : Result T E) → (P → Q) → OnOk r P → OnOk r Q
on_ok (Ok x) f p = f p
on_ok (Err e) f p = tt

-- ---- what stands at an index, then what stands behind it

body_from : (s : List (List ℕ)) (body : List Phrase) (at : ℕ) (d : Phrase) → at < length body
    → fold mention (fold mention s (strings_of_phrase (phrase_meant (get_or body at d)))) (strings_of_body (body_meant (drop (suc at) body))) ≡ fold mention s (strings_of_body (body_meant (drop at body)))
unfolding strings_of_body
body_from s [] at d l = absurd (omega (arith, l))
body_from s (p ∷ body) zero d l = sym (fold_both mention s (strings_of_phrase (phrase_meant p)) (strings_of_body (body_meant body)))
body_from s (p ∷ body) (suc at) d l = body_from s body at d (omega (arith, l))

pub body_step : (s t all : List (List ℕ)) (body : List Phrase) (at : ℕ) (p : Phrase) → at < length body → p ≡ get_or body at p → fold mention s (strings_of_body (body_meant (drop at body))) ≡ all
    → t ≡ fold mention s (strings_of_phrase (phrase_meant p)) → fold mention t (strings_of_body (body_meant (drop (at + 1) body))) ≡ all
body_step s t all body at p l is so_far is_t =
    let next : at + 1 ≡ suc at = omega arith in
    ap (λ n. fold mention t (strings_of_body (body_meant (drop n body)))) next
    ∙ ap (λ u. fold mention u (strings_of_body (body_meant (drop (suc at) body)))) (is_t ∙ ap (λ q. fold mention s (strings_of_phrase (phrase_meant q))) is) ∙ body_from s body at p l ∙ so_far

pub body_end : (s all : List (List ℕ)) (body : List Phrase) (at : ℕ) → length body ≤ at → fold mention s (strings_of_body (body_meant (drop at body))) ≡ all → s ≡ all
unfolding strings_of_body
body_end s all body at l so_far = ap (λ rest. fold mention s (strings_of_body (body_meant rest))) (sym (drop_of_length-le body l)) ∙ so_far

branches_from : (s : List (List ℕ)) (branches : List Branch) (at : ℕ) (d : Branch) → at < length branches
    → fold mention (fold mention s (branch_strings (get_or branches at d))) (flat_map branch_strings (drop (suc at) branches)) ≡ fold mention s (flat_map branch_strings (drop at branches))
branches_from s [] at d l = absurd (omega (arith, l))
branches_from s (b ∷ branches) zero d l = sym (fold_both mention s (branch_strings b) (flat_map branch_strings branches))
branches_from s (b ∷ branches) (suc at) d l = branches_from s branches at d (omega (arith, l))

pub branches_step : (s t all : List (List ℕ)) (branches : List Branch) (at : ℕ) (b : Branch) → at < length branches → b ≡ get_or branches at b → fold mention s (flat_map branch_strings (drop at branches)) ≡ all
    → t ≡ fold mention s (branch_strings b) → fold mention t (flat_map branch_strings (drop (at + 1) branches)) ≡ all
branches_step s t all branches at b l is so_far is_t =
    let next : at + 1 ≡ suc at = omega arith in
    ap (λ n. fold mention t (flat_map branch_strings (drop n branches))) next
    ∙ ap (λ u. fold mention u (flat_map branch_strings (drop (suc at) branches))) (is_t ∙ ap (λ c. fold mention s (branch_strings c)) is) ∙ branches_from s branches at b l ∙ so_far

pub branches_end : (s all : List (List ℕ)) (branches : List Branch) (at : ℕ) → length branches ≤ at → fold mention s (flat_map branch_strings (drop at branches)) ≡ all → s ≡ all
branches_end s all branches at l so_far = ap (λ rest. fold mention s (flat_map branch_strings rest)) (sym (drop_of_length-le branches l)) ∙ so_far

-- ---- phrases that hold others

branches_say : (branches : List Branch) (others : tree.Body) → strings_of_body (branches_meant branches others) ≡ flat_map branch_strings branches ++ strings_of_body others
unfolding strings_of_body strings_of_phrase
branches_say [] others = refl
branches_say (b ∷ branches) others =
    append-nil (branch_strings b ++ strings_of_body (branches_meant branches others)) ∙ ap (λ l. branch_strings b ++ l) (branches_say branches others)
    ∙ sym (append_assoc (branch_strings b) (flat_map branch_strings branches) (strings_of_body others))

choice_says : (p : Phrase) (first : Branch) (v : Vec Branch Global) (w : Vec Phrase Global) (a : List Branch) (b : List Phrase) → p ≡ phrase.If first v w → a ≡ v.items → b ≡ w.items
    → strings_of_phrase (phrase_meant p) ≡ branch_strings first ++ (flat_map branch_strings a ++ strings_of_body (body_meant b))
unfolding strings_of_phrase
choice_says p first v w a b is is_a is_b = ap strings_of_phrase (sym (if_meant p first v w a b is is_a is_b)) ∙ ap (λ l. branch_strings first ++ l) (branches_say a (body_meant b))

pub choice_mentioned : (s t u all : List (List ℕ)) (p : Phrase) (first : Branch) (v : Vec Branch Global) (w : Vec Phrase Global) (a : List Branch) (b : List Phrase) → p ≡ phrase.If first v w → a ≡ v.items → b ≡ w.items
    → t ≡ fold mention s (branch_strings first) → u ≡ fold mention t (flat_map branch_strings a) → all ≡ fold mention u (strings_of_body (body_meant b)) → all ≡ fold mention s (strings_of_phrase (phrase_meant p))
choice_mentioned s t u all p first v w a b is is_a is_b one two three =
    let rest = flat_map branch_strings a ++ strings_of_body (body_meant b) in
    three ∙ ap (λ x. fold mention x (strings_of_body (body_meant b))) two ∙ sym (fold_both mention t (flat_map branch_strings a) (strings_of_body (body_meant b)))
    ∙ ap (λ x. fold mention x rest) one ∙ sym (fold_both mention s (branch_strings first) rest) ∙ ap (fold mention s) (sym (choice_says p first v w a b is is_a is_b))

pub loop_says : (p : Phrase) (description : Description) (v : Vec Phrase Global) (a : List Phrase) → p ≡ phrase.Repeat description v → a ≡ v.items → strings_of_body (body_meant a) ≡ strings_of_phrase (phrase_meant p)
unfolding strings_of_phrase
loop_says p description v a is is_a = ap strings_of_phrase (repeat_meant p description v a is is_a)
