use Rattle.std.proofs.Common.{rules, arith, ◌≡◌, ◌≤◌, ◌<◌, ◌+◌, length, map, ap, sym, ◌∙◌, subst, Ok}
use Rattle.std.specs.List.{IsDistinct}
use Rattle.note_list.specs.Kept.{same_place}
use Rattle.performance_load.specs.Take.{Take}
use Rattle.performance_prepare.specs.Split.{free_channels, in_order, parted_note, parted_notes, split_channels, voice_channels}
use Rattle.performance_prepare.proofs.Parting.{parted_distinct, split_done, split_fault}
use Rattle.performance_prepare.proofs.split.with_split.Goals as goal

pub returns-then-len : goal.returns-then-len
returns-then-len c =
    let t : Take = c.args.take in
    let first : c.deref.result.now ≡ t.notes = search rules in
    let second : c.deref-2.result.now ≡ t.notes = search rules in
    let third : c.deref-then-len.result.now ≡ t.notes = search rules in
    let split : c.in_ok-split.split.items ≡ split_channels c.args.key t.notes = c.in_ok-split.ensures
    ∙ ap (split_channels c.args.key) first in
    let free : c.in_ok-free.free.items ≡ free_channels t.notes = c.in_ok-free.ensures ∙ ap free_channels second in
    let voices : c.in_ok-voices.voices.items ≡ voice_channels t.notes = c.in_ok-voices.ensures ∙ ap voice_channels third in
    let len : c.len.result ≡ length c.in_ok-split.split.items = search rules in
    let few : c.len-2.result ≡ length c.in_ok-free.free.items = search rules in
    let sounding : c.len-then-len.result ≡ length c.in_ok-voices.voices.items = search rules in
    let again : c.len-then-len-2.result ≡ length c.in_ok-split.split.items = search rules in
    let more : length (free_channels t.notes) < length (split_channels c.args.key t.notes) =
    omega (arith, c.if-len.true, len, few, ap length split, ap length free) in
    split_fault c.args.key t (c.len-then-len.result + c.len-then-len-2.result) more
    (omega (arith, sounding, again, ap length voices, ap length split))

pub in_order-requires : goal.in_order-requires
in_order-requires c =
    let t : Take = c.args.take in
    let first : c.deref.result.now ≡ t.notes = search rules in
    let second : c.deref-2.result.now ≡ t.notes = search rules in
    let split : c.in_ok-split.split.items ≡ split_channels c.args.key t.notes = c.in_ok-split.ensures
    ∙ ap (split_channels c.args.key) first in
    let free : c.in_ok-free.free.items ≡ free_channels t.notes = c.in_ok-free.ensures ∙ ap free_channels second in
    let splits : c.deref-3.result.now ≡ split_channels c.args.key t.notes = c.deref-3.ensures.value ∙ split in
    let frees : c.deref-4.result.now ≡ free_channels t.notes = c.deref-4.ensures.value ∙ free in
    let notes : c.deref-5.result.now ≡ t.notes = search rules in
    let parted : c.in_ok-parted.parted.items ≡ parted_notes c.args.key t.notes = c.in_ok-parted.ensures
    ∙ (λ i. map (parted_note c.args.key (splits i) (frees i)) (notes i)) in
    subst (IsDistinct same_place) (sym parted) (parted_distinct c.args.key t.notes c.requires.notes_in_order)

pub returns : goal.returns
returns c =
    let t : Take = c.args.take in
    let first : c.deref.result.now ≡ t.notes = search rules in
    let second : c.deref-2.result.now ≡ t.notes = search rules in
    let split : c.in_ok-split.split.items ≡ split_channels c.args.key t.notes = c.in_ok-split.ensures
    ∙ ap (split_channels c.args.key) first in
    let free : c.in_ok-free.free.items ≡ free_channels t.notes = c.in_ok-free.ensures ∙ ap free_channels second in
    let splits : c.deref-3.result.now ≡ split_channels c.args.key t.notes = c.deref-3.ensures.value ∙ split in
    let frees : c.deref-4.result.now ≡ free_channels t.notes = c.deref-4.ensures.value ∙ free in
    let notes : c.deref-5.result.now ≡ t.notes = search rules in
    let parted : c.in_ok-parted.parted.items ≡ parted_notes c.args.key t.notes = c.in_ok-parted.ensures
    ∙ (λ i. map (parted_note c.args.key (splits i) (frees i)) (notes i)) in
    let sorted : c.in_ok-notes.notes.items ≡ in_order (parted_notes c.args.key t.notes) = c.in_ok-notes.ensures ∙ ap in_order parted in
    let len : c.len.result ≡ length c.in_ok-split.split.items = search rules in
    let few : c.len-2.result ≡ length c.in_ok-free.free.items = search rules in
    let enough : length (split_channels c.args.key t.notes) ≤ length (free_channels t.notes) =
    omega (arith, c.if-len.false, len, few, ap length split, ap length free) in
    let division : c.take.inside.division ≡ t.division = search rules in
    let tempos : c.take.inside.tempos.items ≡ t.tempos = search rules in
    let key_marks : c.take.inside.key_marks.items ≡ t.key_marks = search rules in
    let signatures : c.take.inside.signatures.items ≡ t.signatures = search rules in
    let same : record t { notes = c.in_ok-notes.notes.items } ≡ record {
      division = c.take.inside.division;
      notes = c.in_ok-notes.notes.items;
      tempos = c.take.inside.tempos.items;
      key_marks = c.take.inside.key_marks.items;
      signatures = c.take.inside.signatures.items;
    } = λ i. record {
      division = sym division i;
      notes = c.in_ok-notes.notes.items;
      tempos = sym tempos i;
      key_marks = sym key_marks i;
      signatures = sym signatures i;
    } in
    split_done c.args.key t c.in_ok-notes.notes.items enough sorted ∙ ap (λ u. Ok u) same
