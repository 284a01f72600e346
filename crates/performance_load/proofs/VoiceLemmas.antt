-- The channels of notes in order do not fall, and each is one of a note.
use Rattle.std.proofs.Common.{◌≡◌, ℕ, zero, suc, ◌+◌, ◌<◌, ◌≤◌, inl, inr, List, [], ◌∷◌, length, map, get_or, refl, sym, ap, ◌∙◌, arith}
use Rattle.std.specs.Prelude.{Any, Contains, eqb, false}
use Rattle.std.specs.List.{dedup}
use Rattle.std.specs.List.Sorted.{IsSorted}
use Rattle.std.specs.Ordering.{is_lt, nat_cmp}
use Rattle.std.specs.Cmp.{nat_cmp_is}
use Rattle.std.specs.declared.cmp.Ordering.TheVariants.{Equal, Greater}
use Rattle.std.proofs.lemmas.Bool.{cases_order}
use Rattle.std.proofs.lemmas.List.{length-map}
use Rattle.std.proofs.lemmas.Map.Keys.{IsStrictlyIncreasing-dedup}
use Rattle.std.proofs.lemmas.List.Kept.{Contains-dedup_nat, Contains-from_dedup}
use Rattle.rhythm_base.specs.declared.note.Note.{Note}
use Rattle.rhythm_base.specs.Lists.{AreInOrder}
use Rattle.rhythm_base.specs.Performance.{place_of_note}
use Rattle.performance_load.specs.Loading.{AreVoicesOf}
use Rattle.rhythm_base.proofs.OrderedLists.{channel_low}

not_before : (a b : ℕ) → a ≤ b → is_lt (nat_cmp b a) ≡ false
not_before a b le =
    elim (cases_order b a) [
      | inl same ↦ ap is_lt (sym (nat_cmp_is b a Equal same))
      | inr other ↦ elim other [
        | inl less ↦ absurd (omega (arith, le, less))
        | inr back ↦ ap is_lt (sym (nat_cmp_is b a Greater back))
      ]
    ]

channel_at : (notes : List Note) (k d : ℕ) (n : Note) → k < length notes → get_or (map (λ n. n.channel) notes) k d ≡ (get_or notes k n).channel
channel_at [] k d n lt = absurd (omega (arith, lt))
channel_at (m ∷ notes) zero d n lt = refl
channel_at (m ∷ notes) (suc k) d n lt = channel_at notes k d n (omega (arith, lt))

abbrev no_note : Note
no_note = record { channel = 0; key = 0; onset = 0; end = 0 }

channels_sorted : (notes : List Note) → AreInOrder place_of_note notes → IsSorted nat_cmp (map (λ n. n.channel) notes)
channels_sorted notes h k d low within =
    let few : k + 1 < length notes = omega (arith, within, length-map notes (λ n. n.channel)) in
    let here = channel_at notes k d no_note (omega (arith, few)) in
    let next = channel_at notes (k + 1) d no_note few in
    let le = channel_low (get_or notes k no_note) (get_or notes (k + 1) no_note) (h k (k + 1) no_note (omega arith) few) in
    ap is_lt (λ i. nat_cmp (next i) (here i)) ∙ not_before (get_or notes k no_note).channel (get_or notes (k + 1) no_note).channel le

get_or_same : (notes : List Note) (k : ℕ) (d : Note) → k < length notes → get_or notes k (get_or notes k d) ≡ get_or notes k d
get_or_same [] k d lt = absurd (omega (arith, lt))
get_or_same (m ∷ notes) zero d lt = refl
get_or_same (m ∷ notes) (suc k) d lt = get_or_same notes k d (omega (arith, lt))

has_channel : (c : ℕ) (notes : List Note) → Contains (map (λ n. n.channel) notes) c → Any (λ n. n.channel ≡ c) notes
has_channel c notes h =
    let few : h.0 < length notes = omega (arith, h.1, length-map notes (λ n. n.channel)) in
    (h.0, get_or notes h.0 no_note, few, get_or_same notes h.0 no_note few, sym (channel_at notes h.0 c no_note few) ∙ h.2)

is_channel : (c : ℕ) (notes : List Note) → Any (λ n. n.channel ≡ c) notes → Contains (map (λ n. n.channel) notes) c
is_channel c notes h =
    let few : h.0 < length (map (λ n. n.channel) notes) = omega (arith, h.2, length-map notes (λ n. n.channel)) in
    (h.0, few, channel_at notes h.0 c h.1 h.2 ∙ ap (λ n. n.channel) h.3 ∙ h.4)

-- the channels without their repetitions are the voices
pub voices_are : (notes : List Note) → AreInOrder place_of_note notes → AreVoicesOf notes (dedup eqb (map (λ n. n.channel) notes))
voices_are notes order = record {
  rise = IsStrictlyIncreasing-dedup (map (λ n. n.channel) notes) (channels_sorted notes order);
  exactly = λ c. (λ h. has_channel c notes (Contains-from_dedup eqb (map (λ n. n.channel) notes) c h), λ h. Contains-dedup_nat (map (λ n. n.channel) notes) c (is_channel c notes h));
}
