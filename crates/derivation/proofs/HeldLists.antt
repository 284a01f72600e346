use Rattle.std.proofs.Common.{◌≡◌, ◌+◌, List, [], ◌∷◌, ◌++◌, length, length-append, refl, ap, sym, ◌∙◌, arith}
use Rattle.std.proofs.lemmas.List.{append-nil}
use Rattle.rhythm_base.specs.declared.sound.Sound.{Sound}
use Rattle.derivation.specs.declared.held.HeldSound.{HeldSound}
use Rattle.derivation.specs.declared.held.HeldSound.TheVariants.{Alike, Whole}
use Rattle.derivation.specs.declared.held.Latest.{Latest}
use Rattle.derivation.specs.HeldSounds.{AreHeld, alike, first_latest, latest_after, latest_of, sounds_held, whole_count}

-- what is held after others begins with the latest of them
pub held_more : (l : Latest) (held more : List HeldSound) (wholes others : List Sound) → whole_count held ≡ length wholes
    → sounds_held l (held ++ more) (wholes ++ others) ≡ sounds_held l held wholes ++ sounds_held (latest_after l (sounds_held l held wholes)) more others
held_more l [] more [] others count = refl
held_more l [] more (s ∷ wholes) others count = absurd (omega (arith, count))
held_more l (Alike place width kind ∷ held) more wholes others count =
    ap (λ xs. alike l place width kind ∷ xs) (held_more (latest_of (alike l place width kind)) held more wholes others count)
held_more l (Whole ∷ held) more [] others count = absurd (omega (arith, count))
held_more l (Whole ∷ held) more (s ∷ wholes) others count =
    ap (λ xs. s ∷ xs) (held_more (latest_of s) held more wholes others (omega (arith, count)))

pub count_more : (held more : List HeldSound) → whole_count (held ++ more) ≡ whole_count held + whole_count more
count_more [] more = omega arith
count_more (Alike place width kind ∷ held) more = count_more held more
count_more (Whole ∷ held) more = omega (arith, count_more held more)

pub latest_more : (l : Latest) (sounds : List Sound) (s : Sound) → latest_after l (sounds ++ s ∷ []) ≡ latest_of s
latest_more l [] s = refl
latest_more l (x ∷ sounds) s = latest_more (latest_of x) sounds s

-- a sound that is alike is held by what it differs in
pub alike_is : (held : List HeldSound) (wholes : List Sound) (latest : Latest) (s : Sound) → AreHeld held wholes latest
    → s ≡ alike (latest_after first_latest (sounds_held first_latest held wholes)) s.place s.width s.kind
    → sounds_held first_latest (held ++ Alike s.place s.width s.kind ∷ []) wholes ≡ sounds_held first_latest held wholes ++ s ∷ []
alike_is held wholes latest s are same =
    ap (λ ws. sounds_held first_latest (held ++ Alike s.place s.width s.kind ∷ []) ws) (sym (append-nil wholes))
    ∙ held_more first_latest held (Alike s.place s.width s.kind ∷ []) wholes [] are.wholes
    ∙ ap (λ x. sounds_held first_latest held wholes ++ x ∷ []) (sym same)

pub alike_held : (held : List HeldSound) (wholes : List Sound) (latest : Latest) (s : Sound) → AreHeld held wholes latest
    → s ≡ alike (latest_after first_latest (sounds_held first_latest held wholes)) s.place s.width s.kind
    → AreHeld (held ++ Alike s.place s.width s.kind ∷ []) wholes (latest_of s)
alike_held held wholes latest s are same = record {
  wholes = omega (arith, count_more held (Alike s.place s.width s.kind ∷ []), are.wholes);
  latest = sym (ap (latest_after first_latest) (alike_is held wholes latest s are same) ∙ latest_more first_latest (sounds_held first_latest held wholes) s);
}

-- any sound may be held whole
pub whole_is : (held : List HeldSound) (wholes : List Sound) (latest : Latest) (s : Sound) → AreHeld held wholes latest
    → sounds_held first_latest (held ++ Whole ∷ []) (wholes ++ s ∷ []) ≡ sounds_held first_latest held wholes ++ s ∷ []
whole_is held wholes latest s are = held_more first_latest held (Whole ∷ []) wholes (s ∷ []) are.wholes

pub whole_held : (held : List HeldSound) (wholes : List Sound) (latest : Latest) (s : Sound) → AreHeld held wholes latest
    → AreHeld (held ++ Whole ∷ []) (wholes ++ s ∷ []) (latest_of s)
whole_held held wholes latest s are = record {
  wholes = omega (arith, count_more held (Whole ∷ []), length-append wholes (s ∷ []), are.wholes);
  latest = sym (ap (latest_after first_latest) (whole_is held wholes latest s are) ∙ latest_more first_latest (sounds_held first_latest held wholes) s);
}
