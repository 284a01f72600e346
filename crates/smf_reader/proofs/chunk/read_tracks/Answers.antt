use Rattle.std.proofs.Common.{ℕ, ◌-◌, List, length, refl, sym, ap, subst, arith, ◌∙◌}
use Rattle.std.proofs.lemmas.Result.{err_from_is_err_and}
use Rattle.smf_reader.specs.Played.{Track}
use Rattle.smf_reader.specs.Track.{track}
use Rattle.smf_reader.specs.Chunk.{tracks}
use Rattle.smf_reader.proofs.ChunkSteps.{ComesTo, starts, is_done, fails, goes_on, skips, track_fails}
use Rattle.smf_reader.proofs.chunk.read_tracks.Goals as goal

pub chunks-init : goal.chunks-init
chunks-init c =
    let whole = tracks (length c.args.bytes.now) c.args.count c.args.bytes.now c.args.at in
    let P : List Track → Type 0 = λ ts. ComesTo c.args.bytes.now ts c.args.count c.args.at whole in
    record {
      so_far = subst P (sym c.new-tracks.ensures.items) (starts c.args.bytes.now c.args.count c.args.at whole refl);
      within = c.requires;
    }

pub returns-in_err-chunk : goal.returns-in_err-chunk
returns-in_err-chunk c =
    let s = c.chunks in
    let whole = tracks (length c.args.bytes.now) c.args.count c.args.bytes.now c.args.at in
    let p = err_from_is_err_and c.from_residual.result c.from_residual.ensures.1 in
    rw (p.1, p.2) (λ _. fails c.args.bytes.now s.tracks.items s.left s.place c.in_err-chunk.field-0.0 whole c.chunks-test.true (sym c.in_err-chunk.ensures.value) s.invariant.so_far)

pub returns-in_err-read_track : goal.returns-in_err-read_track
returns-in_err-read_track c =
    let s = c.chunks in
    let chunk = c.in_ok-chunk in
    let whole = tracks (length c.args.bytes.now) c.args.count c.args.bytes.now c.args.at in
    let p = err_from_is_err_and c.from_residual-in_err-read_track.result c.from_residual-in_err-read_track.ensures.1 in
    let here = ap (λ (bs : List ℕ). track bs chunk.chunk.begin) (sym c.split_at.ensures.front) in
    rw (p.1, p.2) (λ ne. track_fails c.args.bytes.now s.tracks.items s.left (s.left - 1) s.place chunk.chunk c.in_err-read_track.field-0.0 whole (omega (arith, chunk.ensures)) (omega arith)
    (sym chunk.ensures.value) c.if-chunk.true (here ∙ c.in_err-read_track.ensures ne) s.invariant.so_far)

pub chunks-preserved-then-chunk : goal.chunks-preserved-then-chunk
chunks-preserved-then-chunk c =
    let s = c.chunks in
    let chunk = c.in_ok-chunk in
    let whole = tracks (length c.args.bytes.now) c.args.count c.args.bytes.now c.args.at in
    let here = ap (λ (bs : List ℕ). track bs chunk.chunk.begin) (sym c.split_at.ensures.front) in
    record {
      so_far = goes_on c.args.bytes.now s.tracks.items _ s.left (s.left - 1) s.place chunk.chunk _ whole (omega (arith, chunk.ensures)) (omega (arith, chunk.ensures)) (omega arith)
          (sym chunk.ensures.value) c.if-chunk.true (here ∙ c.in_ok-read_track.ensures) c.in_ok-push.ensures.items s.invariant.so_far;
      within = chunk.ensures.within;
    }

pub chunks-preserved : goal.chunks-preserved
chunks-preserved c =
    let s = c.chunks in
    let chunk = c.in_ok-chunk in
    let whole = tracks (length c.args.bytes.now) c.args.count c.args.bytes.now c.args.at in
    record {
      so_far = skips c.args.bytes.now s.tracks.items s.left (s.left - 1) s.place chunk.chunk whole (omega (arith, chunk.ensures)) (omega (arith, chunk.ensures)) (omega arith)
          (sym chunk.ensures.value) c.if-chunk.false s.invariant.so_far;
      within = chunk.ensures.within;
    }

pub returns : goal.returns
returns c =
    let s = c.chunks in
    is_done c.args.bytes.now s.tracks.items s.left s.place (tracks (length c.args.bytes.now) c.args.count c.args.bytes.now c.args.at) (omega arith) s.invariant.so_far
