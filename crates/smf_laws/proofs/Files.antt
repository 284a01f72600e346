-- Files are read back, chunk after chunk.
use Rattle.std.proofs.Common.{◌≡◌, ℕ, suc, ◌+◌, ◌*◌, ◌/◌, ◌%◌, ◌<◌, ◌≤◌, ◌==◌, false, List, [], ◌∷◌, ◌++◌, length, drop, map, refl, ap, ◌∙◌, Ok, Result, arith}
use Rattle.std.specs.Prelude.{All, nat_le, nat_lt}
use Rattle.std.specs.List.{flat_map}
use Rattle.std.proofs.lemmas.Bool.Decides.{nat_tests}
use Rattle.std.proofs.lemmas.List.{length-map}
use Rattle.std.proofs.lemmas.List.Elements.{All-head, All-tail}
use Rattle.rhythm_base.specs.declared.limits.TheConstants.{MOST_DIVISION}
use Rattle.smf_bytes.specs.Chunk.{header_bytes, track_chunk_bytes}
use Rattle.smf_reader.specs.Chunk.{number, tracks}
use Rattle.smf_reader.specs.Header.{header, header_size}
use Rattle.smf_reader.specs.Outcome.{◌>>=◌}
use Rattle.smf_reader.specs.Played.{Track}
use Rattle.smf_reader.specs.SmfFile.{smf}
use Rattle.smf_reader.proofs.ReadToTheLastTrack.{is_read_to_its_last_track}
use Rattle.smf_reader.proofs.StandingChunks.{content_stands, rest_stands, track_read}
use Rattle.smf_laws.specs.Laws.{FilesReadBack}
use Rattle.smf_laws.specs.Written.{IsWritableTrack, written_track}
use Rattle.smf_laws.proofs.Tracks.{tracks_read}

-- the header
header_read : (bytes rest : List ℕ) (count division : ℕ) → count < 65536 → 1 ≤ division → division ≤ MOST_DIVISION → bytes ≡ header_bytes count division ++ rest
    → smf bytes ≡ (tracks (length bytes) count bytes 14 >>= λ played. Ok (record { division = division; tracks = played }))
unfolding smf header header_size
header_read bytes rest count division few some low is =
    let all : List ℕ = 77 ∷ 84 ∷ 104 ∷ 100 ∷ 0 ∷ 0 ∷ 0 ∷ 6 ∷ 0 ∷ 1 ∷ (count / 256 % 256) ∷ (count % 256) ∷ (division / 256 % 256) ∷ (division % 256) ∷ rest in
    let head : nat_lt (length all) 8 ≡ false = grind (arith, nat_tests) in
    let whole : nat_lt (length all) 14 ≡ false = grind (arith, nat_tests) in
    let counted : number 2 all 10 ≡ count = omega arith in
    let divided : number 2 all 12 ≡ division = omega arith in
    let frames : nat_le 32768 division ≡ false = grind (arith, nat_tests) in
    let nothing : (division == 0) ≡ false = grind (arith, nat_tests) in
    rw (is, head, whole, counted, divided, frames, nothing) refl

-- a track's chunk, and the tracks after it
one_track : (bytes : List ℕ) (p count : ℕ) (rest : List ℕ) (t : Track) (others : List Track) → IsWritableTrack t → drop p bytes ≡ track_chunk_bytes (written_track t) ++ rest
    → ((q : ℕ) → drop q bytes ≡ rest → tracks (length bytes) count bytes q ≡ Ok others) → tracks (length bytes) (suc count) bytes p ≡ Ok (t ∷ others)
one_track bytes p count rest t others can at more =
    let content : List ℕ = written_track t in
    let short = can.short in
    let a = length content / 16777216 % 256 in
    let b = length content / 65536 % 256 in
    let c = length content / 256 % 256 in
    let d = length content % 256 in
    let size : a * 16777216 + b * 65536 + c * 256 + d ≡ length content = omega arith in
    track_read bytes p a b c d content rest at size count
    ∙ ap (λ (r : Result Track _). r >>= λ first. tracks (length bytes) count bytes (p + 8 + length content) >>= λ later. Ok (first ∷ later)) (tracks_read t _ _ can (content_stands bytes p a b c d content rest at size))
    ∙ ap (λ (r : Result (List Track) _). r >>= λ later. Ok (t ∷ later)) (more _ (rest_stands bytes p a b c d content rest at size))

all_tracks : (bytes : List ℕ) (p : ℕ) (ts : List Track) → All IsWritableTrack ts → drop p bytes ≡ flat_map track_chunk_bytes (map written_track ts) → tracks (length bytes) (length ts) bytes p ≡ Ok ts
all_tracks bytes p [] can at = (is_read_to_its_last_track bytes).over p
all_tracks bytes p (t ∷ ts) can at =
    one_track bytes p (length ts) (flat_map track_chunk_bytes (map written_track ts)) t ts (All-head IsWritableTrack t ts can) at (λ q here. all_tracks bytes q ts (All-tail IsWritableTrack t ts can) here)

pub files_read : FilesReadBack
files_read f can =
    let chunks : List ℕ = flat_map track_chunk_bytes (map written_track f.tracks) in
    let count = length (map written_track f.tracks) in
    let bytes : List ℕ = header_bytes count f.division ++ chunks in
    let same : count ≡ length f.tracks = length-map f.tracks written_track in
    let few = can.few_tracks in
    header_read bytes chunks count f.division (omega arith) can.some_tick can.few_ticks refl
    ∙ ap (λ n. tracks (length bytes) n bytes 14 >>= λ played. Ok (record { division = f.division; tracks = played })) same
    ∙ ap (λ (r : Result (List Track) _). r >>= λ played. Ok (record { division = f.division; tracks = played })) (all_tracks bytes 14 f.tracks can.tracks refl)
