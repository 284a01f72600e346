use Rattle.std.proofs.Common.{subst, sym, ap, ◌∙◌, ◌≡◌, map, arith}
use Rattle.std.proofs.lemmas.List.{take_all}
use Rattle.std.proofs.lemmas.List.Filters.{dedup_is}
use Rattle.std.specs.Prelude.{eqb}
use Rattle.std.specs.List.{dedup}
use Rattle.performance_load.specs.Loading.{AreVoicesOf}
use Rattle.performance_load.proofs.VoiceLemmas.{voices_are}
use Rattle.performance_load.proofs.channels.channels_of.Goals as goal

pub returns : goal.returns
returns c =
    let all : c.loop-note.channels.items ≡ map (λ n. n.channel) c.args.notes.now =
    c.loop-note.invariant ∙ ap (map (λ n. n.channel)) (take_all c.loop-note.note-index c.args.notes.now (omega (arith, c.loop-note-test.false))) in
    let items : c.dedup.new.self.items ≡ dedup eqb (map (λ n. n.channel) c.args.notes.now) = dedup_is eqb c.loop-note.channels.items c.dedup.new.self.items c.dedup.ensures.filtered ∙ ap (dedup eqb) all in
    subst (AreVoicesOf c.args.notes.now) (sym items) (voices_are c.args.notes.now c.requires)
