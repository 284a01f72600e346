use Rattle.std.proofs.Common.{rules, ◌≡◌, ◌++◌, ◌+◌, ◌-◌, ◌*◌, ◌<◌, ℕ, List, [], ◌∷◌, get_or, take, length, refl, sym, ap, ◌∙◌}
use Rattle.std.specs.List.{flat_map}
use Rattle.std.proofs.Math.Numerals.{add-one}
use Rattle.std.proofs.Math.Seq.{take-suc}
use Rattle.std.proofs.lemmas.List.{take_all}
use Rattle.rhythm_base.specs.declared.note.Note.{Note}
use Rattle.smf_bytes.specs.Quantity.{quantity_bytes}
use Rattle.rhythm_gen.specs.Track.{events_of, track_bytes}
use Rattle.smf_bytes.specs.Track.{bytes_from, end_of_track_bytes}
use Rattle.rhythm_gen.proofs.Tracks.{bytes_end, bytes_push, last_end, last_end_push}
use Rattle.rhythm_gen.proofs.track.track_content.Goals as goal
use Rattle.smf_bytes.proofs.Messages.{no_bytes}

pub loop-note-init : goal.loop-note-init
loop-note-init c =
    let empty : c.new-content.result.items ≡ [] = search rules in
    record { so_far = empty ∙ sym (no_bytes 0); tick = refl }

pub loop-note-preserved : goal.loop-note-preserved
loop-note-preserved c =
    let notes = c.args.notes.now in
    let i = c.loop-note.note-index in
    let nothing : Note = record { channel = 0; key = 0; onset = 0; end = 0 } in
    let within : i < length notes = search rules in
    let before : List Note = take i notes in
    let n : Note = get_or notes i nothing in
    let one : take (i + 1) notes ≡ before ++ n ∷ [] = ap (λ k. take k notes) (add-one i) ∙ take-suc notes i nothing within in
    record {
      so_far = c.in_ok-push_note.ensures
          ∙ ap (λ (xs : List ℕ). xs ++ bytes_from c.loop-note.tick (events_of n)) c.loop-note.invariant.so_far
          ∙ ap (λ t. bytes_from 0 (flat_map events_of before) ++ bytes_from t (events_of n)) c.loop-note.invariant.tick
          ∙ sym (bytes_push 0 before n)
          ∙ ap (λ (xs : List Note). bytes_from 0 (flat_map events_of xs)) (sym one);
      tick = sym (last_end_push 0 before n) ∙ ap (last_end 0) (sym one);
    }

pub returns : goal.returns
returns c =
    let notes = c.args.notes.now in
    let i = c.loop-note.note-index in
    let all : take i notes ≡ notes = take_all i notes (search rules) in
    let ended : c.push_end.new.content.items ≡ c.loop-note.content.items ++ (quantity_bytes ((1920 * c.args.bars) - c.loop-note.tick) ++ end_of_track_bytes) = search rules in
    ended
    ∙ ap (λ (xs : List ℕ). xs ++ (quantity_bytes ((1920 * c.args.bars) - c.loop-note.tick) ++ end_of_track_bytes)) c.loop-note.invariant.so_far
    ∙ ap (λ t. bytes_from 0 (flat_map events_of (take i notes)) ++ (quantity_bytes ((1920 * c.args.bars) - t) ++ end_of_track_bytes)) c.loop-note.invariant.tick
    ∙ sym (bytes_end (take i notes) (1920 * c.args.bars))
    ∙ ap (λ (xs : List Note). track_bytes xs (1920 * c.args.bars)) all
