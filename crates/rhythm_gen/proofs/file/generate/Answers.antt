use Rattle.std.proofs.Common.{rules, ◌≡◌, ◌++◌, ◌*◌, List, ℕ, ap, ◌∙◌}
use Rattle.rhythm_gen.specs.Draws.{draw}
use Rattle.rhythm_gen.specs.MidiFile.{voice_track}
use Rattle.rhythm_gen.proofs.Opening.{opening, whole_file}
use Rattle.rhythm_gen.proofs.file.generate.Goals as goal

pub returns : goal.returns
returns c =
    let bars = c.args.bars in
    let start = c.args.number in
    let opened : c.extend_from_slice.new.self.items ≡ opening = search rules in
    let upper : c.push_voice.new.bytes.items ≡ c.extend_from_slice.new.self.items ++ voice_track start bars 0 = search rules in
    let next : c.push_voice.new.draws ≡ draw start (4 * bars) = search rules in
    let lower : c.push_voice-2.new.bytes.items ≡ c.push_voice.new.bytes.items ++ voice_track c.push_voice.new.draws bars 1 = search rules in
    whole_file c.push_voice-2.new.bytes.items (voice_track start bars 0) (voice_track (draw start (4 * bars)) bars 1)
    (lower ∙ ap (λ (xs : List ℕ). xs ++ voice_track c.push_voice.new.draws bars 1) (upper ∙ ap (λ (xs : List ℕ). xs ++ voice_track start bars 0) opened)
    ∙ ap (λ s. (opening ++ voice_track start bars 0) ++ voice_track s bars 1) next)
