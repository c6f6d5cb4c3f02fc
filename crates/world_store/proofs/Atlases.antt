-- Ways that stand in a list by number are those of the tables.
use Rattle.std.proofs.Common.{◌≡◌, ◌∙◌, sym, ap, refl, ℕ, zero, suc, ◌+◌, ◌<◌, ◌≤◌, Bool, false, inl, inr, List, [], ◌∷◌, length, map, arith}
use Rattle.std.specs.Prelude.{Option, None, nat_lt, slice_get, slice_index_or, if◌then◌else◌}
use Rattle.std.specs.List.{range_with_len}
use Rattle.std.proofs.lemmas.Bool.{ltb-false, ltb-true, cases_Bool}
use Rattle.story_format.specs.Facts.{is_room_in, rooms_before}
use Rattle.story_format.specs.InPlay.{exits_of}
use Rattle.story_format.specs.declared.tables.Entry.{Entry}
use Rattle.story_format.specs.declared.tables.Tables.{Tables}

at_number : {A : Type 0} (f : ℕ → Option A) (a n i : ℕ) → i < n → slice_index_or (map f (range_with_len a n)) i None ≡ f (a + i)
at_number f a zero i below = absurd (omega (arith, below))
at_number f a (suc n) zero below = let same : a + 0 ≡ a = omega arith in ap f (sym same)
at_number f a (suc n) (suc i) below = let same : (a + 1) + i ≡ a + suc i = omega arith in at_number f (a + 1) n i (omega (arith, below)) ∙ ap f same

behind : {A : Type 0} (f : ℕ → Option A) (a n i : ℕ) → n ≤ i → slice_index_or (map f (range_with_len a n)) i None ≡ None
behind f a zero i past = refl
behind f a (suc n) zero past = absurd (omega (arith, past))
behind f a (suc n) (suc i) past = behind f (a + 1) n i (omega (arith, past))

no_room : (parents : List (Option ℕ)) (entries : List Entry) (o : ℕ) → length entries ≤ o → is_room_in parents (slice_get entries o) ≡ false
no_room parents [] o past = refl
no_room parents (e ∷ entries) zero past = absurd (omega (arith, past))
no_room parents (e ∷ entries) (suc o) past = no_room parents entries o (omega (arith, past))

no_ways : (t : Tables) (room : ℕ) → length t.objects ≤ room → exits_of t room ≡ None
no_ways t room past =
    ap (λ (b : Bool). if b then slice_get t.ways (rooms_before t.world.kinds t.objects room) else None) (no_room t.world.kinds t.objects room past)

pub found_at : (t : Tables) (room : ℕ) → slice_index_or (map (exits_of t) (range_with_len 0 (length t.objects))) room None ≡ exits_of t room
found_at t room =
    let front : exits_of t (0 + room) ≡ exits_of t room = let same : 0 + room ≡ room = omega arith in ap (exits_of t) same in
    elim (cases_Bool (nat_lt room (length t.objects))) [
      | inl inside ↦ at_number (exits_of t) 0 (length t.objects) room (ltb-true room (length t.objects) inside) ∙ front
      | inr past ↦
          let there : length t.objects ≤ room = ltb-false room (length t.objects) past in
          behind (exits_of t) 0 (length t.objects) room there ∙ sym (no_ways t room there)
    ]
