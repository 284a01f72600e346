use Rattle.std.proofs.Common.{ℕ, List, ap, sym, ◌∙◌, subst}
use Rattle.rhythm_base.specs.declared.sound.Sound.{Sound}
use Rattle.derivation.specs.Score.{Score}
use Rattle.derivation.specs.declared.score.ScoreBar.{ScoreBar}
use Rattle.musicxml_writer.specs.Text.{IsMusicXml}
use Rattle.musicxml_writer.proofs.PartsWritten.{text_written}
use Rattle.musicxml_writer.proofs.text.write_musicxml.Goals as goal

pub returns : goal.returns
returns c =
    let s = c.score.inside in
    let channels = c.args.channels.now in
    let new = c.close_line.new.text.items in
    let own = text_written c.units.result c.deref.result.now c.deref-2.result.now channels c.new-text.result.items c.push_head.new.text.items
    c.push_list.new.text.items c.push_parts.new.text.items new c.new-text.ensures.items c.in_ok-push_head.ensures c.in_ok-push_list.ensures
    c.in_ok-push_parts.ensures c.in_ok-close_line.ensures in
    let units = subst (λ (r : ℕ). IsMusicXml (record { resolution = r; bars = c.deref.result.now; voices = c.deref-2.result.now }) channels new)
    (c.units.ensures ∙ sym (ap (λ (x : Score). x.resolution) c.score.view_is)) own in
    let bars = subst (λ (bs : List ScoreBar). IsMusicXml (record { resolution = s.resolution; bars = bs; voices = c.deref-2.result.now }) channels new)
    c.deref.ensures.value units in
    let voices = subst (λ (vs : List (List Sound)). IsMusicXml (record { resolution = s.resolution; bars = s.bars.items; voices = vs }) channels new)
    c.deref-2.ensures.value bars in
    subst (λ (x : Score). IsMusicXml x channels new) c.score.view_is voices
