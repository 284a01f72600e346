use Rattle.std.proofs.Common.{rules, arith, ◌≡◌, ◌<◌, ◌++◌, ap, get_or, length, sym, subst, ◌∙◌}
use Rattle.std.specs.Prelude.{◌==◌, All}
use Rattle.std.proofs.lemmas.List.Elements.{All-filter}
use Rattle.note_list.specs.Pairing.{IsPlayed}
use Rattle.rhythm_base.proofs.ListParts.{filter_few}
use Rattle.rhythm_base.specs.declared.note.Note.{Note}
use Rattle.performance_load.specs.Take.{Take}
use Rattle.performance_prepare.specs.Groups.{groups}
use Rattle.performance_prepare.specs.Hands.{borders_of, handed_notes, notes_of, other_notes}
use Rattle.performance_prepare.specs.Split.{free_channels}
use Rattle.performance_prepare.proofs.Handed.{distinct_hands, has_some}
use Rattle.performance_prepare.proofs.hands.with_hands.Goals as goal

pub borders_of-requires-clause-few : goal.borders_of-requires-clause-few
borders_of-requires-clause-few c =
    let t : Take = c.args.take in
    let own : c.in_ok-own.own.items ≡ notes_of c.args.channel t.notes = search rules in
    let here : c.deref-4.result.now ≡ notes_of c.args.channel t.notes = c.deref-4.ensures.value ∙ own in
    let few = filter_few (λ (n : Note). n.channel == c.args.channel) t.notes in
    omega (arith, ap length here, few, c.requires.few_notes)

pub borders_of-requires-clause-notes : goal.borders_of-requires-clause-notes
borders_of-requires-clause-notes c =
    let t : Take = c.args.take in
    let own : c.in_ok-own.own.items ≡ notes_of c.args.channel t.notes = search rules in
    subst (All (IsPlayed 1000000000)) (sym (c.deref-4.ensures.value ∙ own))
    (All-filter (λ (n : Note). n.channel == c.args.channel) (IsPlayed 1000000000) t.notes c.requires.notes)

pub left_count-count-requires : goal.left_count-count-requires
left_count-count-requires c =
    let t : Take = c.args.take in
    let own : c.in_ok-own.own.items ≡ notes_of c.args.channel t.notes = search rules in
    record {
      notes = subst (All (IsPlayed 1000000000)) (sym (c.deref-5.ensures.value
          ∙ own)) (All-filter (λ (n : Note). n.channel == c.args.channel) (IsPlayed 1000000000) t.notes c.requires.notes);
    }

pub push_hands-requires : goal.push_hands-requires
push_hands-requires c =
    let t : Take = c.args.take in
    let own : c.in_ok-own.own.items ≡ notes_of c.args.channel t.notes = search rules in
    record {
      notes = subst (All (IsPlayed 1000000000)) (sym (c.deref-9.ensures.value
          ∙ own)) (All-filter (λ (n : Note). n.channel == c.args.channel) (IsPlayed 1000000000) t.notes c.requires.notes);
    }

pub in_order_with-requires : goal.in_order_with-requires
in_order_with-requires c =
    let first : c.index.result.now ≡ get_or c.in_ok-free.free.items 0 0 = search rules in
    let long : c.in_ok-free.free.len ≡ length c.in_ok-free.free.items = search rules in
    let some : 0 < c.in_ok-free.free.len = has_some c.in_ok-free.free.len c.if-is_empty.ensures in
    let more : 0 < length c.in_ok-free.free.items = omega (arith, long, some) in
    let third : c.deref-3.result.now ≡ c.args.take.notes = search rules in
    let seventh : c.deref-7.result.now ≡ c.args.take.notes = search rules in
    let eighth : c.deref-8.result.now ≡ c.args.take.notes = search rules in
    let tempos : c.in_ok-map.map.tempos ≡ c.args.take.tempos = search rules in
    let division : c.take.inside.division ≡ c.args.take.division = search rules in
    distinct_hands c.args.channel c.args.within c.args.take c.requires c.in_ok-free.free.items c.in_ok-own.own.items
    c.in_ok-handed.handed.items c.deref-11.result.now c.in_ok-borders.borders.items c.index.result.now
    more (c.in_ok-free.ensures ∙ ap free_channels seventh) first (c.in_ok-own.ensures
    ∙ ap (notes_of c.args.channel) third) (c.in_ok-handed.ensures ∙ ap (other_notes c.args.channel) eighth)
    (c.in_ok-borders.ensures ∙ (λ i. borders_of (tempos i) (division i) c.args.within (c.deref-4.ensures.value i)))
    (c.deref-11.ensures.value ∙ c.in_ok-push_hands.ensures
    ∙ (λ i. c.in_ok-handed.handed.items ++ handed_notes c.index.result.now
    (groups (tempos i) (division i) c.args.within (c.deref-9.ensures.value i)) (c.deref-10.ensures.value i)))
