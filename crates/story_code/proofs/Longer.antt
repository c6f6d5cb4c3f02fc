-- Texts to which something is added, step by step.
use Rattle.std.proofs.Common.{◌≡◌, ◌∙◌, ℕ, List, [], ◌++◌, append_assoc, append-nil, ap, sym}
use Rattle.story_code.specs.Longer.{IsLonger}

pub longer_here : (text : List ℕ) → IsLonger text text
longer_here text = record { more = []; is = sym (append-nil text) }

pub longer_same : (before after : List ℕ) → after ≡ before → IsLonger before after
longer_same before after same = record { more = []; is = same ∙ sym (append-nil before) }

pub longer_by : (before after more : List ℕ) → after ≡ before ++ more → IsLonger before after
longer_by before after more is = record { more = more; is = is }

pub longer_on : (before between after : List ℕ) → IsLonger before between → IsLonger between after → IsLonger before after
longer_on before between after first second =
    record { more = first.more ++ second.more; is = second.is ∙ ap (λ text. text ++ second.more) first.is ∙ append_assoc before first.more second.more }

pub ruleset longer_rules = (longer_here, longer_same, longer_by, longer_on)
