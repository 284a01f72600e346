use Rattle.std.proofs.Common.{rules, ◌≡◌, ◌++◌, ◌*◌, List, ℕ, sym, ap, subst, ◌∙◌, arith}
use Rattle.std.specs.Prelude.{All}
use Rattle.std.proofs.lemmas.Result.{IfOk-equal}
use Rattle.rhythm_base.specs.declared.note.Note.{Note}
use Rattle.smf_bytes.specs.Chunk.{track_chunk_bytes}
use Rattle.rhythm_gen.specs.Track.{track_bytes}
use Rattle.rhythm_gen.specs.Voice.{CanBeWritten, first_beats}
use Rattle.rhythm_gen.proofs.Voices.{beats_written}
use Rattle.rhythm_gen.proofs.file.push_voice.Goals as goal

pub track_content-requires : goal.track_content-requires
track_content-requires c =
    let beats = 4 * c.args.bars in
    let notes : c.as_slice.result.now ≡ first_beats c.args.draws.now c.args.channel beats = search rules in
    let P : List Note → Type 0 = All CanBeWritten in
    subst P (sym notes) (beats_written c.args.draws.now c.args.channel beats (omega arith) (omega arith))

pub returns-clause-track : goal.returns-clause-track
returns-clause-track c =
    let notes : c.as_slice.result.now ≡ first_beats c.args.draws.now c.args.channel (4 * c.args.bars) = search rules in
    let content : c.as_slice-2.result.now ≡ track_bytes c.as_slice.result.now (1920 * c.args.bars) = search rules in
    let all = content ∙ ap (λ (xs : List Note). track_bytes xs (1920 * c.args.bars)) notes in
    IfOk-equal c.push_track.result _ _ _ c.push_track.ensures.bytes (ap (λ (xs : List ℕ). c.args.bytes.now.items ++ track_chunk_bytes xs) all)
