-- The definitions computed on the two-room source.
use Rattle.std.specs.Prelude.{◌≡◌, ℕ, true, false, List, [], ◌∷◌, codes, None, Result, Ok, Err}
use Rattle.world_meaning.specs.declared.direction.Direction.TheVariants.{North}
use Rattle.world_meaning.specs.declared.fault.Fault.{Fault}
use Rattle.world_meaning.specs.declared.fault.FaultCode.TheVariants.{NoRoom}
use Rattle.world_meaning.specs.declared.tale.Tale.{Tale}
use Rattle.play_meaning.specs.Rows.{blank, on_lines, typed}
use Rattle.play_meaning.specs.StandardRules.{plain as plain_text}
use Rattle.play_meaning.specs.Transcripts.{transcript}
use Rattle.play_meaning.specs.Trees.{Text}
use Rattle.i7_sentences.specs.declared.name.Name.{Name}
use Rattle.i7_sentences.specs.declared.name.NameArticle.TheVariants.{Plain}
use Rattle.i7_sentences.specs.declared.sentence.Assertion.TheVariants.{Description, Way, Are}
use Rattle.i7_sentences.specs.declared.sentence.Sentence.{Sentence}
use Rattle.i7_kinds.specs.Tales.{tale_said}
use Rattle.story_file.specs.Compilations.{game_meant}

abbrev pub plain : List ℕ → Name
plain text = record { text = text; article = Plain }

-- `The Hall is a room. "A bare hall."`, a blank line, `The Garden is north of the Hall.`
abbrev pub two_rooms : List Sentence
two_rooms =
    record { said = Are (record { subjects = plain (codes "Hall") ∷ []; what = codes "a room"; place = None }); line = 1 }
    ∷ record { said = Description (codes "A bare hall."); line = 1 }
    ∷ record { said = Way (record { subject = plain (codes "Garden"); direction = North; room = plain (codes "Hall"); is_room_first = false }); line = 3 }
    ∷ []

-- what its one description says
abbrev pub two_rooms_texts : List Text
two_rooms_texts = plain_text (codes "A bare hall.") ∷ []

-- what is written while a tale whose descriptions say these texts, and that has no rules of its own, is played over these lines, each
-- being echoed
abbrev pub transcript_by : Result Tale Fault → List Text → List (List ℕ) → List ℕ
transcript_by (Err fault) texts lines = []
transcript_by (Ok tale) texts lines = transcript (game_meant tale (record { texts = texts; rules = []; listings = []; scenes = []; lines = []; synonyms = [] })) true [] lines

abbrev pub two_rooms_shown : List (List ℕ)
two_rooms_shown =
    codes "Hall" ∷ codes "A bare hall." ∷ blank
    ∷ codes ">n" ∷ codes "Garden" ∷ blank
    ∷ codes ">look" ∷ codes "Garden" ∷ blank
    ∷ codes ">s" ∷ codes "Hall" ∷ codes "A bare hall." ∷ blank ∷ codes ">" ∷ []

-- The two-room source gives its transcript.
abbrev pub GivesTranscript : Type 0
GivesTranscript = transcript_by (tale_said two_rooms) two_rooms_texts (typed two_rooms_shown) ≡ on_lines two_rooms_shown

-- The empty source has no room, at line 1.
abbrev pub IsRefusedEmpty : Type 0
IsRefusedEmpty = tale_said [] ≡ Err (record { code = NoRoom; line = 1 })
