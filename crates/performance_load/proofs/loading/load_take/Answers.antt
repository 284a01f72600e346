use Rattle.std.proofs.Common.{rules, arith, subst, sym, ap, ◌∙◌, ◌≡◌, []}
use Rattle.rhythm_base.specs.Bars.{AreEnough, IsLaying}
use Rattle.rhythm_base.specs.Performance.{IsWellFormed}
use Rattle.std.specs.Prelude.{Ok}
use Rattle.tempo_map.specs.Laying.{AreBars}
use Rattle.performance_load.specs.Loading.{AreVoicesOf, greatest_end, greatest_onset}
use Rattle.performance_load.specs.Take.{Take}
use Rattle.performance_load.specs.Taking.{IsLoadedOf}
use Rattle.performance_load.proofs.FormedTakes.{ends_near, laid_take, onsets_early, well_formed}
use Rattle.performance_load.proofs.loading.load_take.Goals as goal

pub lay_bars-requires-clause-onset : goal.lay_bars-requires-clause-onset
lay_bars-requires-clause-onset c =
    let t : Take = c.args.take in
    let onsets : c.deref-2.result.now ≡ t.notes = search rules in
    let ends : c.deref-3.result.now ≡ t.notes = search rules in
    omega (arith, onsets_early t c.requires, c.last_onset.ensures ∙ ap greatest_onset onsets, c.last_end.ensures ∙ ap greatest_end ends)

pub lay_bars-requires-clause-end : goal.lay_bars-requires-clause-end
lay_bars-requires-clause-end c =
    let t : Take = c.args.take in
    let ends : c.deref-3.result.now ≡ t.notes = search rules in
    omega (arith, ends_near t c.requires, c.last_end.ensures ∙ ap greatest_end ends)

pub make-requires : goal.make-requires
make-requires c =
    let t : Take = c.args.take in
    let onsets : c.deref-2.result.now ≡ t.notes = search rules in
    let ends : c.deref-3.result.now ≡ t.notes = search rules in
    let onset : c.last_onset.result ≡ greatest_onset t.notes = c.last_onset.ensures ∙ ap greatest_onset onsets in
    let end : c.last_end.result ≡ greatest_end t.notes = c.last_end.ensures ∙ ap greatest_end ends in
    let division : c.take.inside.division ≡ t.division = search rules in
    let tempos : c.take.inside.tempos.items ≡ t.tempos = search rules in
    let key_marks : c.take.inside.key_marks.items ≡ t.key_marks = search rules in
    let listed : c.deref-5.result.now ≡ t.notes = search rules in
    let notes : c.in_ok-notes.notes ≡ t.notes = c.in_ok-notes.ensures ∙ listed in
    let bars : c.laid.inside.bars.items ≡ c.in_ok-laid.laid.bars = search rules in
    let last : c.laid.inside.last ≡ c.in_ok-laid.laid.last = search rules in
    let pins : c.new-2.result.items ≡ [] = c.new-2.ensures.items in
    let enough : AreEnough (greatest_onset t.notes) (greatest_end t.notes) c.in_ok-laid.laid.bars c.in_ok-laid.laid.last =
    subst (λ o. AreEnough o (greatest_end t.notes) c.in_ok-laid.laid.bars c.in_ok-laid.laid.last) onset
    (subst (λ e. AreEnough c.last_onset.result e c.in_ok-laid.laid.bars c.in_ok-laid.laid.last) end c.in_ok-laid.ensures.laid.1) in
    let laid : AreBars t.division c.in_ok-laid.laid.bars c.in_ok-laid.laid.last = subst (λ d. AreBars d c.in_ok-laid.laid.bars c.in_ok-laid.laid.last) division c.in_ok-laid.ensures.formed in
    let among : c.deref-4.result.now ≡ t.notes = search rules in
    let voices : AreVoicesOf t.notes c.in_ok-channels.channels.items = subst (λ ns. AreVoicesOf ns c.in_ok-channels.channels.items) among c.in_ok-channels.ensures in
    let well = well_formed t c.requires c.in_ok-laid.laid.bars c.in_ok-laid.laid.last c.in_ok-channels.channels.items laid enough voices in
    let same : laid_take t c.in_ok-laid.laid.bars c.in_ok-laid.laid.last c.in_ok-channels.channels.items ≡ record {
      division = c.take.inside.division;
      tempos = c.take.inside.tempos.items;
      key_marks = c.take.inside.key_marks.items;
      bars = c.laid.inside.bars.items;
      last = c.laid.inside.last;
      channels = c.in_ok-channels.channels.items;
      notes = c.in_ok-notes.notes;
      pins = c.new-2.result.items;
    } = λ i. record {
      division = sym division i;
      tempos = sym tempos i;
      key_marks = sym key_marks i;
      bars = sym bars i;
      last = sym last i;
      channels = c.in_ok-channels.channels.items;
      notes = sym notes i;
      pins = sym pins i;
    } in
    subst IsWellFormed same well

pub returns : goal.returns
returns c =
    let t : Take = c.args.take in
    let onsets : c.deref-2.result.now ≡ t.notes = search rules in
    let ends : c.deref-3.result.now ≡ t.notes = search rules in
    let among : c.deref-4.result.now ≡ t.notes = search rules in
    let listed : c.deref-5.result.now ≡ t.notes = search rules in
    let onset : c.last_onset.result ≡ greatest_onset t.notes = c.last_onset.ensures ∙ ap greatest_onset onsets in
    let end : c.last_end.result ≡ greatest_end t.notes = c.last_end.ensures ∙ ap greatest_end ends in
    let division : c.take.inside.division ≡ t.division = search rules in
    let tempos : c.take.inside.tempos.items ≡ t.tempos = search rules in
    let key_marks : c.take.inside.key_marks.items ≡ t.key_marks = search rules in
    let bars : c.laid.inside.bars.items ≡ c.in_ok-laid.laid.bars = search rules in
    let last : c.laid.inside.last ≡ c.in_ok-laid.laid.last = search rules in
    let signatures : c.deref.result.now ≡ t.signatures = search rules in
    subst (IsLoadedOf t) (sym c.in_ok-performance.ensures)
    record {
      division = division;
      tempos = tempos;
      key_marks = key_marks;
      notes = c.in_ok-notes.ensures ∙ listed;
      bars =
          subst (λ bs. IsLaying t.division t.signatures (greatest_onset t.notes) (greatest_end t.notes) (Ok (bs, c.laid.inside.last))) (sym bars)
          (subst (λ l. IsLaying t.division t.signatures (greatest_onset t.notes) (greatest_end t.notes) (Ok (c.in_ok-laid.laid.bars, l))) (sym last)
          (subst (λ d. IsLaying d t.signatures (greatest_onset t.notes) (greatest_end t.notes) (Ok (c.in_ok-laid.laid.bars, c.in_ok-laid.laid.last))) division
          (subst (λ ss. IsLaying c.take.inside.division ss (greatest_onset t.notes) (greatest_end t.notes) (Ok (c.in_ok-laid.laid.bars, c.in_ok-laid.laid.last))) signatures
          (subst (λ o. IsLaying c.take.inside.division c.deref.result.now o (greatest_end t.notes) (Ok (c.in_ok-laid.laid.bars, c.in_ok-laid.laid.last))) onset
          (subst (λ e. IsLaying c.take.inside.division c.deref.result.now c.last_onset.result e (Ok (c.in_ok-laid.laid.bars, c.in_ok-laid.laid.last))) end c.in_ok-laid.ensures.laid)))));
      voices = subst (λ ns. AreVoicesOf ns c.in_ok-channels.channels.items) among c.in_ok-channels.ensures;
      pins = c.new-2.ensures.items;
    }
