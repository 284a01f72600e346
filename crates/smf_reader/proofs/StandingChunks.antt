-- Chunks at a place of a file: the header and the tracks that stand there are read.
use Rattle.std.proofs.Common.{◌≡◌, ℕ, suc, ◌+◌, ◌*◌, ◌≤◌, true, false, List, [], ◌∷◌, ◌++◌, length, length-append, take, drop, refl, ap, ◌∙◌, Ok, arith}
use Rattle.std.specs.Prelude.{nat_lt}
use Rattle.std.proofs.lemmas.Bool.Decides.{nat_tests}
use Rattle.std.proofs.lemmas.List.{drop-take}
use Rattle.std.proofs.Math.Seq.{take-append_seam}
use Rattle.smf_reader.specs.Chunk.{chunk, number, tracks}
use Rattle.smf_reader.specs.Header.{header, header_size}
use Rattle.smf_reader.specs.Outcome.{◌>>=◌}
use Rattle.smf_reader.specs.SmfFile.{smf}
use Rattle.smf_reader.specs.Track.{track}
use Rattle.smf_reader.proofs.ReadToTheLastTrack.{is_read_to_its_last_track}
use Rattle.smf_reader.proofs.StandingBytes.{stands_after, bytes_are_at}

abbrev three_tracks : List ℕ → List ℕ
three_tracks rest = 77 ∷ 84 ∷ 104 ∷ 100 ∷ 0 ∷ 0 ∷ 0 ∷ 6 ∷ 0 ∷ 1 ∷ 0 ∷ 3 ∷ 1 ∷ 224 ∷ rest

-- a header of format 1 for three tracks and 480 ticks to a quarter note
pub header_read : (bytes rest : List ℕ) → bytes ≡ 77 ∷ 84 ∷ 104 ∷ 100 ∷ 0 ∷ 0 ∷ 0 ∷ 6 ∷ 0 ∷ 1 ∷ 0 ∷ 3 ∷ 1 ∷ 224 ∷ rest
    → smf bytes ≡ (tracks (length bytes) 3 bytes 14 >>= λ played. Ok (record { division = 480; tracks = played }))
unfolding smf header header_size
header_read bytes rest is =
    let head : nat_lt (length (three_tracks rest)) 8 ≡ false = grind (arith, nat_tests) in
    let whole : nat_lt (length (three_tracks rest)) 14 ≡ false = grind (arith, nat_tests) in
    rw (is, head, whole) refl

module _ (bytes : List ℕ) (p a b c d : ℕ) (content rest : List ℕ) (at : drop p bytes ≡ 77 ∷ 84 ∷ 114 ∷ 107 ∷ a ∷ b ∷ c ∷ d ∷ (content ++ rest)) (size : a * 16777216 + b * 65536 + c * 256 + d ≡ length content) where
  number_read : number 4 bytes (p + 4) ≡ length content
  number_read =
      let here : drop (p + 4) bytes ≡ a ∷ b ∷ c ∷ d ∷ (content ++ rest) = stands_after bytes p (77 ∷ 84 ∷ 114 ∷ 107 ∷ []) (a ∷ b ∷ c ∷ d ∷ (content ++ rest)) at in
      rw here (omega arith)

  pub room : p + 8 + length content ≤ length bytes
  room = omega (arith, bytes_are_at bytes p 77 (84 ∷ 114 ∷ 107 ∷ a ∷ b ∷ c ∷ d ∷ (content ++ rest)) at, length-append content rest)

  chunk_read : chunk bytes p ≡ Ok (record { is_track = true; begin = p + 8; end = p + 8 + length content })
  unfolding chunk
  chunk_read =
      let r = room in
      let head : nat_lt (length bytes) (p + 8) ≡ false = grind (arith, nat_tests) in
      let whole : nat_lt (length bytes) (p + 8 + length content) ≡ false = grind (arith, nat_tests) in
      rw (head, number_read, whole, at) refl

  -- a track's chunk is read as a track, and the tracks go on after it
  pub track_read : (count : ℕ) → tracks (length bytes) (suc count) bytes p
      ≡ (track (take (p + 8 + length content) bytes) (p + 8) >>= λ first. tracks (length bytes) count bytes (p + 8 + length content) >>= λ others. Ok (first ∷ others))
  track_read count =
      (is_read_to_its_last_track bytes).on count p ∙ rw chunk_read refl

  -- its content ends with the bytes up to its end
  pub content_stands : drop (p + 8) (take (p + 8 + length content) bytes) ≡ content
  content_stands =
      drop-take (p + 8) (length content) bytes
      ∙ ap (take (length content)) (stands_after bytes p (77 ∷ 84 ∷ 114 ∷ 107 ∷ a ∷ b ∷ c ∷ d ∷ []) (content ++ rest) at)
      ∙ take-append_seam content rest

  pub rest_stands : drop (p + 8 + length content) bytes ≡ rest
  rest_stands = stands_after bytes (p + 8) content rest (stands_after bytes p (77 ∷ 84 ∷ 114 ∷ 107 ∷ a ∷ b ∷ c ∷ d ∷ []) (content ++ rest) at)
