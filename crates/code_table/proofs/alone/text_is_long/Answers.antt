use Rattle.std.proofs.Common.{◌≡◌, ◌∙◌, sym, subst, true, false, [], ◌∷◌}
use Rattle.std.specs.Prelude.{IfOk}
use Rattle.object_words.specs.Mentions.{number_in}
use Rattle.play_meaning.specs.Meant.{text_meant}
use Rattle.code_table.specs.Emitted.{IsShort, IsToldLong}
use Rattle.code_table.specs.Origins.{Describes}
use Rattle.code_table.proofs.alone.text_is_long.Goals as goal
use Rattle.code_table.proofs.alone.text_is_long.Goals.{in-Ok, in-Err-TooLong, in-Err-Memory}

pub returns : goal.returns
returns c =
    let z = c.args.counts.now in
    let string = number_in c.args.strings.now in
    let origin = Describes (text_meant c.args.text.now) in
    elim c.match-description_codes.branch [
      | in-Ok w ↦
          let short : IsShort z string origin = record { fits = w.in-Ok.ensures.fits; said = w.in-Ok.ensures.codes.said } in
          subst (λ r. IfOk r (IsToldLong z string (origin ∷ []))) (sym w.result-is) (short, tt)
      | in-Err-TooLong w ↦
          subst (λ r. IfOk r (IsToldLong z string (origin ∷ []))) (sym w.result-is)
          (λ short.
          let never : true ≡ false = sym short.0.said ∙ w.in-Err-TooLong.ensures.too_long w.in-Err-TooLong.field-0-is (short.0.fits z.own z.codes) in
          absurd cc)
      | in-Err-Memory w ↦ subst (λ r. IfOk r (IsToldLong z string (origin ∷ []))) (sym w.result-is) tt
    ]
