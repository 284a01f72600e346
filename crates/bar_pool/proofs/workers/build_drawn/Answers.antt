use Rattle.std.proofs.Common.{rules, arith, ◌≡◌, ◌<◌, ◌++◌, ◌∷◌, [], All, ap, get_or, length, subst, sym, ◌∙◌}
use Rattle.std.specs.Prelude.{Some, slice_get}
use Rattle.std.proofs.lemmas.Option.{slice_get-get_or}
use Rattle.bar_pool.specs.Workers.{IsNumbered, numbers}
use Rattle.bar_pool.proofs.Counting.{above, above-least, above-nil}
use Rattle.bar_pool.proofs.Numbered.{above_after, length_after, numbers_after, past_after, share_after, things_after}
use Rattle.bar_pool.proofs.workers.build_drawn.Goals as goal

pub draws-init : goal.draws-init
draws-init g c =
    let none = c.new-things.ensures.items in
    record {
      table = search rules;
      id = search rules;
      share = record { share = c.requires.fresh.share; inputs = c.requires.fresh.inputs; slots = c.requires.fresh.slots };
      past = c.requires.fresh.past;
      numbers = ap (λ l. numbers l) none ∙ sym c.requires.fresh.drawn;
      things = subst (All (IsNumbered (g.J.Job.built c.args.job.now) c.args.searched.now)) (sym none) (λ k d l. absurd (omega arith));
      within = omega (arith, ap above c.requires.fresh.drawn, above-nil);
      builds = omega (arith, ap length c.requires.fresh.drawn);
    }

pub draws-smaller : goal.draws-smaller
draws-smaller g c =
    let low : c.draw-drawn.result < length c.args.searched.now = search rules in
    let more = above_after c.draws.seat.me c.draw-drawn.new.seat.me c.draw-drawn.result (length c.args.searched.now) c.draw-drawn.ensures.view c.draws.invariant.share low in
    let least = above-least c.draws.seat.me.0.drawn c.draw-drawn.result c.draw-drawn.ensures.above in
    omega (arith, more, least, low)

pub draws-preserved : goal.draws-preserved
draws-preserved g c =
    let me = c.draws.seat.me in
    let after = c.draw-drawn.new.seat.me in
    let n = c.draw-drawn.result in
    let searched = c.args.searched.now in
    let low : n < length searched = search rules in
    let drew = c.draw-drawn.ensures.view in
    let has = c.draws.invariant.share in
    let pushed : c.push.new.self.items ≡ c.draws.things.items ++ (n, c.in_ok-thing.thing) ∷ [] = search rules in
    let number = get_or searched n 0 in
    let at : slice_get searched n ≡ Some number = slice_get-get_or searched n 0 low in
    record {
      table = search rules;
      id = search rules;
      share = share_after me after n (length searched) drew has low;
      past = past_after me after n (length searched) drew has low ∙ c.draws.invariant.past;
      numbers = numbers_after me after n (length searched) drew has low c.draws.things.items c.push.new.self.items c.in_ok-thing.thing pushed c.draws.invariant.numbers;
      things = things_after (g.J.Job.built c.args.job.now) searched c.draws.things.items c.push.new.self.items n number c.in_ok-thing.thing pushed c.draws.invariant.things at c.in_ok-thing.ensures.built;
      within = omega (arith, above_after me after n (length searched) drew has low, c.draws.invariant.within, low);
      builds = omega (arith, length_after me after n (length searched) drew has low, c.draws.invariant.builds, c.build_searched.ensures.builds);
    }

pub returns-in_err-push-clause-builds : goal.returns-in_err-push-clause-builds
returns-in_err-push-clause-builds g c =
    let low : c.draw-drawn.result < length c.args.searched.now = search rules in
    let longer = length_after c.draws.seat.me c.draw-drawn.new.seat.me c.draw-drawn.result (length c.args.searched.now) c.draw-drawn.ensures.view c.draws.invariant.share low in
    omega (arith, longer, c.draws.invariant.builds, c.build_searched.ensures.builds)
