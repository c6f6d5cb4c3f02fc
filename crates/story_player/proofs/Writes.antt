-- What is known of a reader's and a writer's bytes, one call after another.
use Rattle.std.proofs.Common.{◌≡◌, ℕ, List, [], ◌++◌, take, drop, refl, ap, sym, ◌∙◌, subst, append_assoc}
use Rattle.std.specs.Prelude.{Option, Some, None}
use Rattle.std.specs.Io.KnownBytes.{Appends, Consumes, Keeps}
use Rattle.std.proofs.lemmas.List.{take-append-drop, append-nil}
use Rattle.story_player.specs.Steps.{WroteFront}

-- of these bytes those in front of the rest were written
pub record WroteSome (held now : Option (List ℕ)) (bytes rest : List ℕ) : Type 0 where
  pub written : List ℕ
  pub parts : bytes ≡ written ++ rest
  pub writes : Appends held now written

pub appends-nothing : (held : Option (List ℕ)) → Appends held held []
appends-nothing None = tt
appends-nothing (Some xs) = sym (append-nil xs)

pub keeps_appends : (a b : Option (List ℕ)) → Keeps a b → Appends a b []
keeps_appends None b keeps = tt
keeps_appends (Some xs) None keeps = keeps
keeps_appends (Some xs) (Some ys) keeps = keeps ∙ sym (append-nil xs)

pub appends-more : (a b c : Option (List ℕ)) (x y : List ℕ) → Appends a b x → Appends b c y → Appends a c (x ++ y)
appends-more None b c x y first second = tt
appends-more (Some xs) None c x y first second = absurd first
appends-more (Some xs) (Some ys) None x y first second = second
appends-more (Some xs) (Some ys) (Some zs) x y first second = second ∙ ap (λ bs. bs ++ y) first ∙ append_assoc xs x y

pub consumes-nothing : (unread : Option (List ℕ)) → Consumes unread unread []
consumes-nothing None = tt
consumes-nothing (Some xs) = refl

pub consumes-more : (a b c : Option (List ℕ)) (x y : List ℕ) → Consumes a b x → Consumes b c y → Consumes a c (x ++ y)
consumes-more None b c x y first second = tt
consumes-more (Some xs) None c x y first second = absurd first
consumes-more (Some xs) (Some ys) None x y first second = second
consumes-more (Some xs) (Some ys) (Some zs) x y first second = first ∙ ap (λ bs. x ++ bs) second ∙ sym (append_assoc x y zs)

-- nothing was written so far
pub wrote_none : (held : Option (List ℕ)) (bytes : List ℕ) → WroteSome held held bytes bytes
wrote_none held bytes = record { written = []; parts = refl; writes = appends-nothing held }

pub wrote_more : (held now after : Option (List ℕ)) (bytes rest : List ℕ) (n : ℕ) → WroteSome held now bytes rest → Appends now after (take n rest) → WroteSome held after bytes (drop n rest)
wrote_more held now after bytes rest n some more = record {
  written = some.written ++ take n rest;
  parts = some.parts ∙ ap (λ bs. some.written ++ bs) (sym (take-append-drop n rest)) ∙ sym (append_assoc some.written (take n rest) (drop n rest));
  writes = appends-more held now after some.written (take n rest) some.writes more;
}

pub wrote_all : (held now : Option (List ℕ)) (bytes : List ℕ) → WroteSome held now bytes [] → Appends held now bytes
wrote_all held now bytes some = subst (λ bs. Appends held now bs) (sym (some.parts ∙ append-nil some.written)) some.writes

-- a call that failed wrote nothing more
pub wrote_front : (held now after : Option (List ℕ)) (bytes rest : List ℕ) → WroteSome held now bytes rest → Appends now after [] → WroteFront held after bytes
wrote_front held now after bytes rest some none = record {
  written = some.written;
  writes = subst (λ bs. Appends held after bs) (append-nil some.written) (appends-more held now after some.written [] some.writes none);
  front = (rest, some.parts);
}

-- of more bytes a front was written where all of the first are
pub front-more : (held now after : Option (List ℕ)) (first second : List ℕ) → Appends held now first → WroteFront now after second → WroteFront held after (first ++ second)
front-more held now after first second all some = record {
  written = first ++ some.written;
  writes = appends-more held now after first some.written all some.writes;
  front = (some.front.0, ap (λ bs. first ++ bs) some.front.1 ∙ sym (append_assoc first some.written some.front.0));
}

pub front-of_first : (held now : Option (List ℕ)) (first second : List ℕ) → WroteFront held now first → WroteFront held now (first ++ second)
front-of_first held now first second some = record {
  written = some.written;
  writes = some.writes;
  front = (some.front.0 ++ second, ap (λ bs. bs ++ second) some.front.1 ∙ append_assoc some.written some.front.0 second);
}

pub ruleset write_steps = (appends-nothing, keeps_appends, appends-more, wrote_none, wrote_more, wrote_all, wrote_front, front-more, front-of_first)
