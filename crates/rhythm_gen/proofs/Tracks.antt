-- The bytes of a track, note after note.
use Rattle.std.proofs.Common.{◌≡◌, ℕ, ◌+◌, ◌-◌, ◌*◌, ◌≤◌, List, [], ◌∷◌, ◌++◌, length, refl, ap, ◌∙◌, append_assoc, append-nil, length-append, arith}
use Rattle.std.specs.List.{flat_map}
use Rattle.std.proofs.lemmas.Grind.{flat_map-append}
use Rattle.rhythm_base.specs.declared.note.Note.{Note}
use Rattle.smf_bytes.specs.Quantity.{quantity_bytes}
use Rattle.rhythm_gen.specs.Track.{events_of, track_bytes}
use Rattle.smf_bytes.specs.Track.{bytes_from, end_of_track_bytes}
use Rattle.smf_bytes.proofs.ShortForms.{quantity_short}

-- the tick at which the last note ends, or t where there is none
abbrev pub last_end : ℕ → List Note → ℕ
last_end t [] = t
last_end t (n ∷ ns) = last_end n.end ns

pub last_end_push : (t : ℕ) (ns : List Note) (n : Note) → last_end t (ns ++ n ∷ []) ≡ n.end
last_end_push t [] n = refl
last_end_push t (m ∷ ns) n = last_end_push m.end ns n

-- the two events of a note
pub bytes_of_note : (old : List ℕ) (t : ℕ) (n : Note)
    → (old ++ (quantity_bytes (n.onset - t) ++ ((144 + n.channel) ∷ n.key ∷ 64 ∷ []))) ++ (quantity_bytes (n.end - n.onset) ++ ((128 + n.channel) ∷ n.key ∷ 0 ∷ [])) ≡ old ++ bytes_from t (events_of n)
unfolding bytes_from
bytes_of_note old t n = simp (append_assoc, append-nil)

-- events after those of notes
pub bytes_after : (t : ℕ) (ns : List Note) (more : List (ℕ × List ℕ)) → bytes_from t (flat_map events_of ns ++ more) ≡ bytes_from t (flat_map events_of ns) ++ bytes_from (last_end t ns) more
unfolding bytes_from
bytes_after t [] more = refl
bytes_after t (n ∷ ns) more =
    ap (λ (bytes : List ℕ). quantity_bytes (n.onset - t) ++ (((144 + n.channel) ∷ n.key ∷ 64 ∷ []) ++ (quantity_bytes (n.end - n.onset) ++ (((128 + n.channel) ∷ n.key ∷ 0 ∷ []) ++ bytes)))) (bytes_after n.end ns more)
    ∙ simp append_assoc

-- one note more
pub bytes_push : (t : ℕ) (ns : List Note) (n : Note) → bytes_from t (flat_map events_of (ns ++ n ∷ [])) ≡ bytes_from t (flat_map events_of ns) ++ bytes_from (last_end t ns) (events_of n)
bytes_push t ns n = ap (bytes_from t) (flat_map-append events_of ns (n ∷ [])) ∙ bytes_after t ns (events_of n)

-- the end of the track
pub bytes_end : (ns : List Note) (end : ℕ) → track_bytes ns end ≡ bytes_from 0 (flat_map events_of ns) ++ (quantity_bytes (end - last_end 0 ns) ++ end_of_track_bytes)
unfolding bytes_from
bytes_end ns end = bytes_after 0 ns ((end, end_of_track_bytes) ∷ []) ∙ simp append-nil

-- seven bytes an event at most
few_bytes : (t : ℕ) (ns : List Note) → length (bytes_from t (flat_map events_of ns)) ≤ 14 * length ns
unfolding bytes_from
few_bytes t [] = omega arith
few_bytes t (n ∷ ns) =
    let rest = few_bytes n.end ns in
    let tail : List ℕ = bytes_from n.end (flat_map events_of ns) in
    let off : List ℕ = quantity_bytes (n.end - n.onset) in
    let on : List ℕ = quantity_bytes (n.onset - t) in
    omega (
      arith,
      quantity_short (n.onset - t),
      quantity_short (n.end - n.onset),
      rest,
      length-append on (((144 + n.channel) ∷ n.key ∷ 64 ∷ []) ++ (off ++ (((128 + n.channel) ∷ n.key ∷ 0 ∷ []) ++ tail))),
      length-append off (((128 + n.channel) ∷ n.key ∷ 0 ∷ []) ++ tail),
    )

pub track_short : (ns : List Note) (end : ℕ) → length (track_bytes ns end) ≤ 14 * length ns + 7
track_short ns end =
    let last : List ℕ = quantity_bytes (end - last_end 0 ns) in
    omega (
      arith,
      ap length (bytes_end ns end),
      few_bytes 0 ns,
      quantity_short (end - last_end 0 ns),
      length-append (bytes_from 0 (flat_map events_of ns)) (last ++ end_of_track_bytes),
      length-append last end_of_track_bytes,
    )
