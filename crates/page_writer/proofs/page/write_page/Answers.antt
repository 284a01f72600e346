use Rattle.std.proofs.Common.{◌≡◌, ℕ, List, length, sym, ap, ◌∙◌, subst}
use Rattle.rhythm_base.specs.declared.sound.Sound.{Sound}
use Rattle.derivation.specs.declared.score.ScoreBar.{ScoreBar}
use Rattle.derivation.specs.Score.{Score}
use Rattle.page_writer.proofs.PageWritten.{HasStaves, page_written}
use Rattle.page_writer.proofs.page.write_page.Goals as goal

same_score : (r r' : ℕ) (bars bars' : List ScoreBar) (voices voices' : List (List Sound)) → r ≡ r' → bars ≡ bars' → voices ≡ voices'
    → ◌≡◌ {A = Score} (record { resolution = r; bars = bars; voices = voices }) (record { resolution = r'; bars = bars'; voices = voices' })
same_score r r' bars bars' voices voices' d e f = λ i. record { resolution = d i; bars = e i; voices = f i }

pub returns : goal.returns
returns c =
    let same = same_score c.units.result c.score.inside.resolution c.deref.result.now c.score.inside.bars.items c.deref-2.result.now c.score.inside.voices.items
    (c.units.ensures ∙ sym (ap (λ (s : Score). s.resolution) c.score.view_is)) c.deref.ensures.value c.deref-2.ensures.value ∙ c.score.view_is in
    let count = c.len-staves.ensures ∙ sym c.deref-2.ensures.len ∙ ap (λ (s : Score). length s.voices) same in
    page_written c.args.score.now c.args.channels.now c.len-staves.result c.new-text.result.items c.write_head.new.text.items c.write_opening.new.text.items
    c.write_staves.new.text.items c.write_closing.new.text.items c.write_tail.new.text.items count c.new-text.ensures.items c.in_ok-write_head.ensures
    c.in_ok-write_opening.ensures
    (subst (λ (s : Score). HasStaves s c.args.channels.now c.write_opening.new.text.items c.write_staves.new.text.items) same c.in_ok-write_staves.ensures)
    c.in_ok-write_closing.ensures c.in_ok-write_tail.ensures
