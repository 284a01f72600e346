use Rattle.std.proofs.Common.{◌≡◌, ℕ, get_or, length, max, sym, ap, ap₂, ◌∙◌, subst, arith}
use Rattle.std.proofs.lemmas.List.{with_items_is}
use Rattle.std.proofs.lemmas.List.Elements.{All-get_or}
use Rattle.derivation.specs.WellSounded.{AreWellSounded}
use Rattle.page_writer.specs.Graces.{begun_graces}
use Rattle.page_writer.specs.Writing.{start_graces}
use Rattle.page_writer.proofs.BegunGraces.{starts_begin}
use Rattle.page_writer.proofs.MostGraces.{most_all, most_more}
use Rattle.page_writer.proofs.graces.most_graces.Goals as goal

pub voices-preserved : goal.voices-preserved
voices-preserved c =
    let voices = c.args.voices.now in
    let i = c.voices.voice-index in
    let sounds = c.voice-item.result in
    let Are = AreWellSounded c.args.resolution c.args.bars in
    let are : AreWellSounded c.args.resolution c.args.bars sounds = subst Are (sym c.voice-item.is) (All-get_or Are voices i sounds c.voices-test.true c.requires) in
    let items : length c.deref_mut.result.now ≡ length c.voices.most.items = ap length c.deref_mut.ensures.value in
    let room : length c.raise.new.most ≡ c.voices.most.len = omega (arith, c.raise.auto.most, c.deref_mut.ensures.len) in
    let whole = with_items_is c.voices.most c.raise.new.most room in
    let own : (k : ℕ) → get_or c.deref.result.now k 0 ≡ begun_graces k sounds =
    λ k. ap (λ xs. get_or xs k 0) (c.deref.ensures.value ∙ c.in_ok-own.ensures ∙ ap start_graces (c.as_slice.ensures ∙ c.in_ok-sounds.ensures))
    ∙ starts_begin c.args.resolution c.args.bars sounds k are in
    record {
      count = ap length whole ∙ omega (arith, c.raise.auto.most, items, c.voices.invariant.count);
      each = λ k within.
          ap (λ xs. get_or xs k 0) whole ∙ c.raise.ensures k (omega (arith, within, items, c.voices.invariant.count))
          ∙ ap₂ (λ m n. max m n) (ap (λ xs. get_or xs k 0) c.deref_mut.ensures.value ∙ c.voices.invariant.each k within) (own k)
          ∙ sym (most_more voices i k sounds c.voices-test.true c.voice-item.is);
    }

pub returns : goal.returns
returns c =
    most_all c.args.voices.now c.voices.voice-index c.args.bars c.voices.most.items (omega (arith, c.voices-test.false)) c.voices.invariant.count
    c.voices.invariant.each
