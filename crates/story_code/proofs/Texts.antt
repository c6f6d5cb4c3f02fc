-- The pieces of texts one behind the other.
use Rattle.std.proofs.Common.{◌≡◌, ℕ, suc, ◌-◌, ◌<◌, ◌≤◌, List, [], ◌∷◌, length, take, drop, get_or, ap, ◌∙◌, arith}
use Rattle.std.proofs.lemmas.List.{take_all}
use Rattle.play_meaning.specs.Meant.{parts_meant, piece_meant, pieces_meant, said_meant}
use Rattle.play_meaning.specs.Translation.{nothing, text_part}
use Rattle.play_meaning.specs.Trees as tree
use Rattle.play_meaning.specs.declared.tree.said.Piece.{Piece}
use Rattle.play_meaning.specs.declared.tree.said.Piece.TheVariants as piece
use Rattle.play_meaning.specs.declared.tree.said.Said.{Said}
use Rattle.play_meaning.specs.declared.tree.said.Said.TheVariants as said
use Rattle.story_code.specs.Emitting.{Emitting, emitted, piece_part, said_part}
use Rattle.story_code.proofs.Followed.{emitted_seq}

piece_first : (string : List ℕ → ℕ) (k : ℕ) (s : Emitting) (p : Piece) (more : tree.Text) → emitted (emitted s (piece_part string k p)) (text_part string k more) ≡ emitted s (text_part string k (piece_meant p more))
unfolding text_part
piece_first string k s (piece.Bytes bytes) more = emitted_seq s (piece_part string k (piece.Bytes bytes)) (text_part string k more)
piece_first string k s (piece.Figure number) more = emitted_seq s (piece_part string k (piece.Figure number)) (text_part string k more)
piece_first string k s (piece.Name naming o) more = emitted_seq s (piece_part string k (piece.Name naming o)) (text_part string k more)
piece_first string k s (piece.Listing naming description) more = emitted_seq s (piece_part string k (piece.Listing naming description)) (text_part string k more)
piece_first string k s (piece.DescriptionOf o) more = emitted_seq s (piece_part string k (piece.DescriptionOf o)) (text_part string k more)
piece_first string k s (piece.ValueName q o) more = emitted_seq s (piece_part string k (piece.ValueName q o)) (text_part string k more)

said_first : (string : List ℕ → ℕ) (k : ℕ) (s : Emitting) (p : Said) (more : tree.Text) → emitted (emitted s (said_part string k p)) (text_part string k more) ≡ emitted s (text_part string k (said_meant p more))
unfolding text_part
said_first string k s (said.Plain piece) more = piece_first string k s piece more
said_first string k s (said.If condition pieces others) more = emitted_seq s (said_part string k (said.If condition pieces others)) (text_part string k more)

pub pieces_step : (string : List ℕ → ℕ) (k : ℕ) (s t all : Emitting) (rest : List Piece) (d : Piece) → 1 ≤ length rest → d ≡ get_or rest 0 d → emitted s (text_part string k (pieces_meant rest)) ≡ all → t ≡ emitted s (piece_part string k d) → emitted t (text_part string k (pieces_meant (take (length rest - 1) (drop 1 rest)))) ≡ all
pieces_step string k s t all [] d l is so_far is_t = absurd (omega arith)
pieces_step string k s t all (p ∷ rest) d l is so_far is_t =
    let whole : take (suc (length rest) - 1) rest ≡ rest = take_all _ rest (omega arith) in
    rw whole (ap (λ u. emitted u (text_part string k (pieces_meant rest))) (is_t ∙ ap (λ q. emitted s (piece_part string k q)) is) ∙ piece_first string k s p (pieces_meant rest) ∙ so_far)

pub parts_step : (string : List ℕ → ℕ) (k : ℕ) (s t all : Emitting) (rest : List Said) (d : Said) → 1 ≤ length rest → d ≡ get_or rest 0 d → emitted s (text_part string k (parts_meant rest)) ≡ all → t ≡ emitted s (said_part string k d) → emitted t (text_part string k (parts_meant (take (length rest - 1) (drop 1 rest)))) ≡ all
parts_step string k s t all [] d l is so_far is_t = absurd (omega arith)
parts_step string k s t all (p ∷ rest) d l is so_far is_t =
    let whole : take (suc (length rest) - 1) rest ≡ rest = take_all _ rest (omega arith) in
    rw whole (ap (λ u. emitted u (text_part string k (parts_meant rest))) (is_t ∙ ap (λ q. emitted s (said_part string k q)) is) ∙ said_first string k s p (parts_meant rest) ∙ so_far)

pub pieces_end : (string : List ℕ → ℕ) (k : ℕ) (s all : Emitting) (rest : List Piece) → length rest < 1 → s ≡ emitted s nothing → emitted s (text_part string k (pieces_meant rest)) ≡ all → s ≡ all
unfolding text_part
pieces_end string k s all [] l settled so_far = settled ∙ so_far
pieces_end string k s all (p ∷ rest) l settled so_far = absurd (omega (arith, l))

pub parts_end : (string : List ℕ → ℕ) (k : ℕ) (s all : Emitting) (rest : List Said) → length rest < 1 → s ≡ emitted s nothing → emitted s (text_part string k (parts_meant rest)) ≡ all → s ≡ all
unfolding text_part
parts_end string k s all [] l settled so_far = settled ∙ so_far
parts_end string k s all (p ∷ rest) l settled so_far = absurd (omega (arith, l))
