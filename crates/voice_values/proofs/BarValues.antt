-- The values that are written for the sounds of a bar.
use Rattle.std.proofs.Common.{◌≡◌, ℕ, ◌+◌, ◌<◌, Bool, List, [], ◌∷◌, ◌++◌, Option, Some, None, length, get_or, drop, refl, ap, ◌∙◌, subst, arith}
use Rattle.std.specs.Prelude.{All, slice_get}
use Rattle.std.proofs.lemmas.List.{at_drop_more}
use Rattle.std.proofs.lemmas.List.Elements.{All-append, All-cons}
use Rattle.std.proofs.lemmas.Option.{get_or_from_slice_get, slice_get_within}
use Rattle.rhythm_base.specs.declared.sound.Sound.{Sound}
use Rattle.durations.specs.declared.joined.Written.{Written}
use Rattle.voice_values.specs.Values.{VoiceValue, is_first, value_of_sound, values_of_sounds}

abbrev pub first_value_of : Sound → Bool → Written → VoiceValue
first_value_of s first w = record { place = w.from; value = w.value; sound = s; first = first }

pub values_more :
    (sounds : List Sound) (before : Option ℕ) (ws : List Written) (i : ℕ) (d : Written) (s : Sound)
    → i < length ws → slice_get sounds (get_or ws i d).leaf ≡ Some s
    → values_of_sounds sounds before (drop i ws)
    ≡ first_value_of s (is_first before (get_or ws i d).leaf) (get_or ws i d) ∷ values_of_sounds sounds (Some (get_or ws i d).leaf) (drop (i + 1) ws)
values_more sounds before ws i d s lt is =
    let w = get_or ws i d in
    at_drop_more (values_of_sounds sounds before) ws i d lt
    ∙ ap (λ o. value_of_sound o (is_first before w.leaf) w ++ values_of_sounds sounds (Some w.leaf) (drop (i + 1) ws)) is

-- ---- each value is one of a sound of the bar

of_sound : (P : Sound → Type 0) (sounds : List Sound) (o : Option Sound) (k : ℕ) (first : Bool) (w : Written) → slice_get sounds k ≡ o → All P sounds → All (λ v. P v.sound) (value_of_sound o first w)
of_sound P sounds None k first w e all = λ i d lt. absurd (omega arith)
of_sound P sounds (Some s) k first w e all =
    let here : P s = subst P (get_or_from_slice_get sounds k s s e) (all k s (slice_get_within sounds k s e)) in
    All-cons (λ v. P v.sound) (first_value_of s first w) [] here (λ i d lt. absurd (omega arith))

pub sounds_of_values : (P : Sound → Type 0) (sounds : List Sound) (before : Option ℕ) (ws : List Written) → All P sounds → All (λ v. P v.sound) (values_of_sounds sounds before ws)
sounds_of_values P sounds before [] all = λ i d lt. absurd (omega arith)
sounds_of_values P sounds before (w ∷ ws) all =
    All-append (λ v. P v.sound) (value_of_sound (slice_get sounds w.leaf) (is_first before w.leaf) w) (values_of_sounds sounds (Some w.leaf) ws)
    (of_sound P sounds (slice_get sounds w.leaf) w.leaf (is_first before w.leaf) w refl all)
    (sounds_of_values P sounds (Some w.leaf) ws all)
