-- The header and the first track of a file.
use Rattle.std.proofs.Common.{◌≡◌, ℕ, List, [], ◌∷◌, ◌++◌, refl, ap, ◌∙◌, append_assoc}
use Rattle.rhythm_gen.specs.MidiFile.{piece_conductor}
use Rattle.smf_bytes.specs.Chunk.{header_bytes, track_chunk_bytes}
use Rattle.smf_bytes.specs.Track.{bytes_from}

abbrev pub opening : List ℕ
opening = 77 ∷ 84 ∷ 104 ∷ 100 ∷ 0 ∷ 0 ∷ 0 ∷ 6 ∷ 0 ∷ 1 ∷ 0 ∷ 3 ∷ 1 ∷ 224 ∷ 77 ∷ 84 ∷ 114 ∷ 107 ∷ 0 ∷ 0 ∷ 0 ∷ 19 ∷ 0 ∷ 255 ∷ 81 ∷ 3 ∷ 7 ∷ 161 ∷ 32 ∷ 0 ∷ 255 ∷ 88 ∷ 4 ∷ 4 ∷ 2 ∷ 24 ∷ 8 ∷ 0 ∷ 255 ∷ 47 ∷ 0 ∷ []

opening_is : opening ≡ header_bytes 3 480 ++ track_chunk_bytes piece_conductor
unfolding bytes_from
opening_is = refl

regroup : (xs ys zs : List ℕ) → (xs ++ ys) ++ zs ≡ xs ++ (ys ++ zs)
regroup xs ys zs = simp append_assoc

-- two tracks after them make a file
pub whole_file : (bytes upper lower : List ℕ) → bytes ≡ (opening ++ upper) ++ lower → bytes ≡ header_bytes 3 480 ++ (track_chunk_bytes piece_conductor ++ (upper ++ lower))
whole_file bytes upper lower made =
    made
    ∙ regroup opening upper lower
    ∙ ap (λ (xs : List ℕ). xs ++ (upper ++ lower)) opening_is
    ∙ regroup (header_bytes 3 480) (track_chunk_bytes piece_conductor) (upper ++ lower)
