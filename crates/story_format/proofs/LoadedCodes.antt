-- The codes of a story that was loaded: they are sound together, and describe its objects.
use Rattle.std.proofs.Common.{◌≡◌, ◌∙◌, ap, sym, ℕ, zero, suc, ◌<◌, Bool, true, false, ◌&&◌, eqb, leb, ltb, List, length, map, refl, arith}
use Rattle.std.specs.Prelude.{Some, ◌||◌, replicate, slice_get}
use Rattle.std.specs.List.{list_all}
use Rattle.std.proofs.lemmas.Bool.{ltb-true, and_parts}
use Rattle.std.proofs.lemmas.Simd.{map-map}
use Rattle.world_meaning.proofs.Options.{get_front}
use Rattle.play_meaning.specs.Codes.{Codes}
use Rattle.play_meaning.specs.declared.operand.Use.TheVariants.{Describing}
use Rattle.code_table.proofs.Together.{head_there, sound_together}
use Rattle.story_code.specs.Runs.{AreSoundTogether, IsDescription, code_told}
use Rattle.story_code.specs.Soundness.{Judged}
use Rattle.story_format.specs.Checks.{are_in_place, are_named_in_order, are_right, are_right_objects, codes_named, heads_named, has_small_words, have_words, is_small, strings_in_tables}
use Rattle.story_format.specs.Codes.{AreCodesOf, code_spelled, codes_told, counts_of, uses_of}
use Rattle.story_format.specs.Facts.{description_code_of}
use Rattle.story_format.specs.Loaded.{IsLoaded}
use Rattle.story_format.specs.RuleChecks.{codes_in_tables, uses_in_tables}
use Rattle.story_format.specs.Sizes.{are_different, is_right_entry, sizes_of}
use Rattle.story_format.specs.Placed.{is_place, sorts_in}
use Rattle.story_format.specs.WorldChecks.{suits_kind}
use Rattle.story_format.specs.declared.row.Sizes.{Sizes}
use Rattle.story_format.specs.declared.tables.Entry.{Entry}
use Rattle.story_format.specs.declared.tables.Tables.{Tables}
use Rattle.story_format.proofs.Naming.{named_within}
use Rattle.story_format.proofs.RoomLemmas.{right_parts}
use Rattle.story_format.proofs.Turns.{turn_parted}
use Rattle.story_format.proofs.StoryLemmas.{last_of_five, three}

pub loaded_sound : (t : Tables) (judged : List Judged) → AreCodesOf t judged → AreSoundTogether judged
unfolding counts_of
loaded_sound t judged codes = sound_together (counts_of t) (uses_of t) t.codes judged codes (omega arith)

-- ---- descriptions

other_is : (a b : Bool) → (a || b) ≡ true → a ≡ false → b ≡ true
other_is true b h isnt = absurd cc
other_is false b h isnt = h

entry_within : (sizes : Sizes) (e : Entry) → is_right_entry sizes e ≡ true → eqb e.description 65535 ≡ false → e.description < sizes.codes
unfolding is_right_entry
entry_within sizes e h isnt =
    let kind = ltb e.kind sizes.kinds in
    let article = leb e.article 3 in
    let code = eqb e.description 65535 || ltb e.description sizes.codes in
    let few = leb (length e.words) 32 in
    let t = and_parts (kind && article && code && few && are_different e.words) (is_place e) h in
    ltb-true _ _ (other_is (eqb e.description 65535) (ltb e.description sizes.codes) (last_of_five kind article code few (are_different e.words) t.0).2 isnt)

entries_right : (t : Tables) → are_right t ≡ true → list_all (is_right_entry (sizes_of t)) t.objects ≡ true
unfolding are_right_objects
entries_right t right =
    let entries = list_all (is_right_entry (sizes_of t)) t.objects in
    let placed = are_in_place t.strings t.world.kinds (sorts_in t).rooms t.objects in
    let worded = have_words t.strings 0 t.objects in
    let p =
    last_of_five (entries && placed && worded) (list_all (has_small_words (map is_small t.strings)) t.objects) (are_named_in_order 0 (strings_in_tables t)) (are_named_in_order 0 (heads_named t))
    (list_all (suits_kind t.world) t.objects) (right_parts t right).0 in
    (three entries placed worded p.0).0

all_described : (count n : ℕ) → n < count → slice_get (replicate count Describing) n ≡ Some Describing
all_described zero n lt = absurd (omega (arith, lt))
all_described (suc count) zero lt = refl
all_described (suc count) (suc n) lt = all_described count n (omega (arith, lt))

pub loaded_described : (t : Tables) (judged : List Judged) → IsLoaded t judged → (o n : ℕ) → description_code_of t o ≡ Some n → IsDescription judged n
loaded_described t judged loaded o n is =
    let named = codes_named t.objects in
    let turn = (turn_parted named (codes_in_tables t.rules) 0 loaded.story.sound.in_turn).0 in
    head_there (counts_of t) (uses_of t) t.codes judged loaded.codes n Describing
    (get_front (replicate (length named) Describing) (uses_in_tables t.rules) n Describing (all_described (length named) n (omega (arith, named_within 0 t.objects o n turn is))))

-- ---- what they are

pub loaded_told : (t : Tables) (judged : List Judged) → AreCodesOf t judged → ◌≡◌ {A = Codes} (record { strings = t.strings; codes = map code_told judged }) (codes_told t)
loaded_told t judged codes = ap (λ all. record { strings = t.strings; codes = all }) (sym (map-map code_spelled (λ (j : Judged). j.bytes) judged) ∙ ap (map code_spelled) codes.bytes)
