-- The file of a piece says what the piece was made of: it is written of that.
use Rattle.std.proofs.Common.{◌≡◌, ℕ, ◌+◌, ◌*◌, ◌<◌, ◌≤◌, List, [], ◌∷◌, ◌++◌, length, map, refl, sym, ap, ◌∙◌, subst, arith, append-nil}
use Rattle.std.specs.List.{flat_map}
use Rattle.std.proofs.lemmas.List.Elements.{All-from_recursion}
use Rattle.rhythm_base.specs.declared.note.Note.{Note}
use Rattle.rhythm_gen.specs.Draws.{draw}
use Rattle.rhythm_gen.specs.MidiFile.{piece_conductor, generated}
use Rattle.rhythm_gen.specs.Track.{events_of, track_bytes}
use Rattle.rhythm_gen.specs.Voice.{voice_notes}
use Rattle.rhythm_gen.proofs.Sung.{AreSung, voice_sung}
use Rattle.rhythm_gen.proofs.Tracks.{track_short}
use Rattle.rhythm_gen.proofs.Voices.{beats_few}
use Rattle.smf_bytes.specs.Chunk.{header_bytes, track_chunk_bytes}
use Rattle.smf_bytes.specs.Track.{bytes_from, end_of_track_bytes, timed_message}
use Rattle.smf_reader.specs.Outcomes.{SaysFile}
use Rattle.smf_laws.specs.Written.{AreLater, IsWritableTrack, IsWritableFile, written_file, written_track}
use Rattle.smf_laws.proofs.Files.{files_read}
use Rattle.piece_laws.specs.Events.{meant_file, played_conductor, played_note, played_voice}
use Rattle.piece_laws.specs.Laws.{PiecesAreRead}

-- ---- what the tracks are written of

voice_messages : (notes : List Note) → flat_map events_of notes ≡ map timed_message (flat_map played_note notes)
voice_messages [] = refl
voice_messages (n ∷ ns) =
    ap (λ (messages : List (ℕ × List ℕ)). (n.onset, (144 + n.channel) ∷ n.key ∷ 64 ∷ []) ∷ (n.end, (128 + n.channel) ∷ n.key ∷ 0 ∷ []) ∷ messages) (voice_messages ns)

voice_written : (notes : List Note) (end : ℕ) → track_bytes notes end ≡ written_track (played_voice notes end)
voice_written notes end = ap (λ (messages : List (ℕ × List ℕ)). bytes_from 0 (messages ++ (end, end_of_track_bytes) ∷ [])) (voice_messages notes)

conductor_written : piece_conductor ≡ written_track played_conductor
unfolding bytes_from
conductor_written = refl

-- ---- they can be written

voice_later : (voice t : ℕ) (notes : List Note) (end : ℕ) → voice < 16 → AreSung voice t notes end → AreLater t (flat_map played_note notes) end
voice_later voice t [] end few sung = sung
voice_later voice t (n ∷ ns) end few sung =
    let channel : n.channel < 16 = omega (arith, sung.0.of_voice) in
    (sung.0.after, (channel, sung.0.key), (omega (arith, sung.0.order), (channel, sung.0.key), voice_later voice n.end ns end few sung.1))

voice_writable : (start bars channel : ℕ) → bars ≤ 2000 → channel < 16 → IsWritableTrack (played_voice (voice_notes start bars channel) (1920 * bars))
voice_writable start bars channel few small =
    let notes = voice_notes start bars channel in
    record {
      later = voice_later channel 0 notes (1920 * bars) small (voice_sung start bars channel);
      early = omega arith;
      short = omega (arith, ap length (voice_written notes (1920 * bars)), track_short notes (1920 * bars), beats_few start channel (4 * bars));
    }

conductor_writable : IsWritableTrack played_conductor
unfolding bytes_from
conductor_writable = record { later = (omega arith, (omega arith, omega arith), (omega arith, tt, omega arith)); early = omega arith; short = omega arith }

-- ---- the file

file_written : (number bars : ℕ) → generated number bars ≡ written_file (meant_file number bars)
file_written number bars =
    let start = draw number (4 * bars) in
    let end = 1920 * bars in
    let upper = voice_notes number bars 0 in
    let lower = voice_notes start bars 1 in
    ap (λ (c : List ℕ). header_bytes 3 480 ++ (track_chunk_bytes c ++ (track_chunk_bytes (track_bytes upper end) ++ track_chunk_bytes (track_bytes lower end)))) conductor_written
    ∙ ap (λ (c : List ℕ). header_bytes 3 480 ++ (track_chunk_bytes (written_track played_conductor) ++ (track_chunk_bytes c ++ track_chunk_bytes (track_bytes lower end)))) (voice_written upper end)
    ∙ ap (λ (c : List ℕ). header_bytes 3 480 ++ (track_chunk_bytes (written_track played_conductor) ++ (track_chunk_bytes (written_track (played_voice upper end)) ++ track_chunk_bytes c))) (voice_written lower end)
    ∙ ap (λ (c : List ℕ). header_bytes 3 480 ++ (track_chunk_bytes (written_track played_conductor) ++ (track_chunk_bytes (written_track (played_voice upper end)) ++ c)))
    (sym (append-nil (track_chunk_bytes (written_track (played_voice lower end)))))

pub piece_writable : (number bars : ℕ) → bars ≤ 2000 → IsWritableFile (meant_file number bars)
piece_writable number bars few =
    let start = draw number (4 * bars) in
    record {
      some_tick = omega arith;
      few_ticks = omega arith;
      few_tracks = omega arith;
      tracks = All-from_recursion IsWritableTrack (meant_file number bars).tracks (conductor_writable, (voice_writable number bars 0 few (omega arith), (voice_writable start bars 1 few (omega arith), tt)));
    }

pub pieces_read : PiecesAreRead
pieces_read number bars few =
    let P : List ℕ → Type 0 = λ bytes. SaysFile bytes (meant_file number bars) in
    subst P (sym (file_written number bars)) (files_read (meant_file number bars) (piece_writable number bars few))
