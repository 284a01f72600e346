-- Every chord of a voice has some keys of 0 to 127.
use Rattle.std.proofs.Common.{ℕ, ◌^◌, ◌<◌, List, [], ◌∷◌, ◌++◌, length, sym, ap, subst, arith}
use Rattle.std.specs.Prelude.{All, bit_or, fold}
use Rattle.std.proofs.Math.Nat.{one-le-pow}
use Rattle.std.proofs.Math.Pow.{pow-lt}
use Rattle.std.proofs.Math.Seq.{drop-append_seam, take-append_seam}
use Rattle.std.proofs.lemmas.List.Elements.{All-drop, All-filter, All-nil, All-take}
use Rattle.std.proofs.lemmas.Nat.{le_or_l, or_lt}
use Rattle.rhythm_base.specs.declared.chord.Chord.{Chord}
use Rattle.rhythm_base.specs.declared.event.Tempo.{Tempo}
use Rattle.rhythm_base.specs.declared.note.Note.{Note}
use Rattle.rhythm_base.specs.Chords.{AreChords}
use Rattle.rhythm_base.specs.Performance.{IsNoteOf}
use Rattle.rhythm_base.proofs.OrderedLists.{all_cons, all_head, all_tail}
use Rattle.derivation.specs.Laws.{ChordsHaveKeys}
use Rattle.derivation.specs.WellSounded.{AreKeys}

one_key : (key : ℕ) → key < 128 → AreKeys (2 ^ key)
one_key key small = (one-le-pow key 2 (omega arith), pow-lt small)

more_keys : (keys : ℕ) (ns : List Note) → AreKeys keys → All (λ n. n.key < 128) ns → AreKeys (fold (λ k n. bit_or k (2 ^ n.key)) keys ns)
more_keys keys [] are small = are
more_keys keys (n ∷ ns) are small =
    let one = one_key n.key (all_head (λ (n : Note). n.key < 128) n ns small) in
    let low = le_or_l keys (2 ^ n.key) in
    more_keys (bit_or keys (2 ^ n.key)) ns (omega (arith, low, are.0), or_lt 128 keys (2 ^ n.key) are.1 one.1) (all_tail (λ (n : Note). n.key < 128) n ns small)

keys_of_chords : (tempos : List Tempo) (division window : ℕ) (notes : List Note) (cs : List Chord) → AreChords tempos division window notes cs
    → All (λ n. n.key < 128) notes → All (λ c. AreKeys c.keys) cs
keys_of_chords tempos division window notes [] h small = All-nil (λ (c : Chord). AreKeys c.keys)
keys_of_chords tempos division window notes (c ∷ cs) (first, others, rest, parts, near, apart, is, h) small =
    let IsSmall : Note → Type 0 = λ n. n.key < 128 in
    let all : All IsSmall (first ∷ (others ++ rest)) = subst (All IsSmall) parts small in
    let later = all_tail IsSmall first (others ++ rest) all in
    let own : All IsSmall others = subst (All IsSmall) (take-append_seam others rest) (All-take IsSmall (length others) (others ++ rest) later) in
    let next : All IsSmall rest = subst (All IsSmall) (drop-append_seam others rest) (All-drop IsSmall (length others) (others ++ rest) later) in
    let keys : AreKeys c.keys = subst AreKeys (sym (ap (λ (c : Chord). c.keys) is)) (more_keys (2 ^ first.key) others (one_key first.key (all_head IsSmall first (others ++ rest) all)) own) in
    all_cons (λ (c : Chord). AreKeys c.keys) c cs keys (keys_of_chords tempos division window rest cs h next)

pub chords_keys : ChordsHaveKeys
chords_keys g p channel cs formed are =
    let notes = All-filter _ (IsNoteOf p.channels p.last) p.notes formed.notes in
    keys_of_chords p.tempos p.division g.window _ cs are (λ k d lt. (notes k d lt).key)
