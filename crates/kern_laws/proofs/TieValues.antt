-- Each value that goes on does so from a value of the same keys.
use Rattle.std.proofs.Common.{◌≡◌, ℕ, zero, suc, ◌+◌, ◌*◌, true, false, not, ◌&&◌, ◌||◌, List, [], ◌∷◌, ◌++◌, refl, sym, ap, ◌∙◌, subst, Option, Some, None, append_assoc}
use Rattle.std.specs.Prelude.{⊤}
use Rattle.std.specs.List.{flat_map}
use Rattle.std.proofs.lemmas.Bool.{false≢true}
use Rattle.rhythm_base.specs.declared.sound.Sound.{Sound}
use Rattle.rhythm_base.specs.declared.sound.SoundKind.{SoundKind}
use Rattle.rhythm_base.specs.declared.sound.SoundKind.TheVariants.{Begin, Short, Tie, Rest}
use Rattle.rhythm_base.specs.SoundKinds.{is_rest, is_tie}
use Rattle.derivation.specs.WellSounded.{TiesGoOn}
use Rattle.derivation.specs.WellSounded as sounded
use Rattle.durations.specs.declared.value.Value.{Value}
use Rattle.durations.specs.Value.{width}
use Rattle.derivation.specs.declared.score.ScoreBar.{ScoreBar}
use Rattle.voice_values.specs.GoesOn.{goes_on}
use Rattle.voice_values.specs.Values.{VoiceValue}
use Rattle.voice_values.proofs.BarSounded.{AreSounded, leaf_values, sound_len}
use Rattle.kern_laws.proofs.BarVoice.{AreVoice}
use Rattle.derivation.proofs.WellSounding.{tie_no_rest}

-- the sound of the value before, and that of one that goes on
abbrev pub Links : Option Sound → Sound → Type 0
Links None s = ⊥
Links (Some before) s = (is_rest before.kind ≡ false) × (before.keys ≡ s.keys)

abbrev pub Linked : Option Sound → List VoiceValue → Type 0
Linked before [] = ⊤
Linked before (v ∷ vs) = (goes_on v ≡ true → Links before v.sound) × Linked (Some v.sound) vs

-- the sound right before, and that of the last value: both sound, with the same keys, or none does
abbrev pub Alike : Option Sound → Option Sound → Type 0
Alike None before = ⊤
Alike (Some last) None = ⊥
Alike (Some last) (Some before) = (is_rest before.kind ≡ is_rest last.kind) × (before.keys ≡ last.keys)

first_goes : (k : SoundKind) → (not (is_rest k) && (is_tie k || not true)) ≡ true → is_tie k ≡ true
first_goes Begin e = absurd (false≢true e)
first_goes Short e = absurd (false≢true e)
first_goes Tie e = refl
first_goes Rest e = absurd (false≢true e)

other_goes : (k : SoundKind) → (not (is_rest k) && (is_tie k || not false)) ≡ true → is_rest k ≡ false
other_goes Begin e = refl
other_goes Short e = refl
other_goes Tie e = refl
other_goes Rest e = absurd (false≢true e)

links_alike : (last before : Option Sound) (s : Sound) → Alike last before → sounded.GoesOn last s → Links before s
links_alike None before s alike goes = absurd goes
links_alike (Some last) None s alike goes = absurd alike
links_alike (Some last) (Some before) s (rest, keys) (sounds, long, same) = (rest ∙ sounds, keys ∙ same)

alike_next : (last before : Option Sound) (s : Sound) → Alike last before → is_tie s.kind ≡ true → sounded.GoesOn last s → Alike (Some s) before
alike_next None before s alike tie goes = absurd goes
alike_next (Some last) None s alike tie goes = absurd alike
alike_next (Some last) (Some before) s (rest, keys) tie (sounds, long, same) = (rest ∙ sounds ∙ sym (tie_no_rest s.kind tie), keys ∙ same)

-- the values of a leaf after its first one
leaf_linked : (whole place : ℕ) (s : Sound) (vs : List Value) (more : List VoiceValue) → Linked (Some s) more → Linked (Some s) (leaf_values whole place s false vs ++ more)
leaf_linked whole place s [] more rest = rest
leaf_linked whole place s (v ∷ vs) more rest = ((λ goes. (other_goes s.kind goes, refl)), leaf_linked whole (place + width whole v) s vs more rest)

bar_linked : (r whole num joined place : ℕ) (last before : Option Sound) (own after : List Sound) (vs more : List VoiceValue) → Alike last before → TiesGoOn last (own ++ after)
    → AreSounded r whole num joined place own vs → ((last before : Option Sound) → Alike last before → TiesGoOn last after → Linked before more) → Linked before (vs ++ more)
bar_linked r whole num zero place last before [] after vs more alike ties is rest = subst (λ us. Linked before (us ++ more)) (sym is) (rest last before alike ties)
bar_linked r whole num (suc joined) place last before [] after vs more alike ties is rest = subst (λ us. Linked before (us ++ more)) (sym is) (rest last before alike ties)
bar_linked r whole num zero place last before (s ∷ own) after vs more alike (tie, ties) (d, v, values, others, group, are_ties, same, next) rest =
    let later = bar_linked r whole num d (place + sound_len num s) (Some s) (Some s) own after others more (refl, refl) ties next rest in
    let leaf = leaf_linked whole (place + width whole v) s values (others ++ more) later in
    let all : leaf_values whole place s true (v ∷ values) ++ (others ++ more) ≡ vs ++ more = sym (append_assoc (leaf_values whole place s true (v ∷ values)) others more) ∙ ap (λ us. us ++ more) (sym same) in
    let whole_list : Linked before (leaf_values whole place s true (v ∷ values) ++ (others ++ more)) = ((λ goes. links_alike last before s alike (tie (first_goes s.kind goes))), leaf) in
    subst (Linked before) all whole_list
bar_linked r whole num (suc joined) place last before (s ∷ own) after vs more alike (tie, ties) (is_tied, next) rest =
    bar_linked r whole num joined (place + sound_len num s) (Some s) before own after vs more (alike_next last before s alike is_tied (tie is_tied)) ties next rest

pub voice_linked : (r n : ℕ) (bars : List ScoreBar) (last before : Option Sound) (sounds : List Sound) (vss : List (List VoiceValue)) → Alike last before → TiesGoOn last sounds
    → AreVoice r n bars sounds vss → Linked before (flat_map (λ vs. vs) vss)
voice_linked r n [] last before sounds vss alike ties (none, empty) = subst (λ us. Linked before (flat_map (λ vs. vs) us)) (sym empty) tt
voice_linked r n (bar ∷ bars) last before sounds [] alike ties voice = absurd voice
voice_linked r n (bar ∷ bars) last before sounds (vs ∷ vss) alike ties (own, after, all, is, rest) =
    bar_linked r (r * bar.den) bar.num 0 0 last before own after vs (flat_map (λ vs. vs) vss) alike (subst (TiesGoOn last) all ties) is.sounded
    (λ last before alike ties. voice_linked r (suc n) bars last before after vss alike ties rest)
