use Rattle.std.proofs.Common.{◌-◌, arith}
use Rattle.std.proofs.lemmas.List.Sorted.{IsPermutation-put_mid, IsPermutation-trans, length_permutation}
use Rattle.note_list.proofs.pairing.order_chords.Goals as goal

pub chords-preserved-in_ok-sort_by_key : goal.chords-preserved-in_ok-sort_by_key
chords-preserved-in_ok-sort_by_key c =
    let moved = IsPermutation-put_mid c.chords.start (c.end_of_chord-end.result - c.chords.start) c.chords.notes c.sort_by_key.new.self c.sort_by_key.ensures.permutation in
    (omega (arith, c.end_of_chord-end.ensures.within, length_permutation _ _ moved), IsPermutation-trans _ _ _ c.chords.invariant.1 moved)
