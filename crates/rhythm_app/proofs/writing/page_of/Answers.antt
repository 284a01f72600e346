use Rattle.std.proofs.Common.{◌≡◌, ◌∙◌, ℕ, List, ap, inl, subst}
use Rattle.page_writer.specs.Page.{IsPage}
use Rattle.rhythm_base.specs.Performance.{Performance}
use Rattle.rhythm_app.proofs.Notating.{as_many}
use Rattle.rhythm_app.proofs.writing.page_of.Goals as goal

pub write_page-requires-clause-channels : goal.write_page-requires-clause-channels
write_page-requires-clause-channels c =
    as_many c.args.session.now.grammar c.args.session.now.performance c.performance-performance.result.now c.in_ok-score.score c.channels.result.now c.in_ok-score.ensures.score
    c.performance-performance.ensures.value c.channels.ensures

pub returns-in-Ok-clause-tests : goal.returns-in-Ok-clause-tests
returns-in-Ok-clause-tests c =
    let of = c.in_ok-score.ensures in
    let own : c.channels.result.now ≡ c.args.session.now.performance.channels = c.channels.ensures ∙ ap (λ (q : Performance). q.channels) c.performance-performance.ensures.value in
    let page = subst (λ (channels : List ℕ). IsPage c.in_ok-score.score channels c.in-Ok.text.items) own c.in-Ok.ensures in
    inl (c.requires.can, (c.in_ok-score.score, of.short.0, of.score, of.short.1, page))
