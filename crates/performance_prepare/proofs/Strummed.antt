-- A take stays well formed where its strums begin together.
use Rattle.std.proofs.Common.{◌≡◌, ◌⊎◌, ℕ, ◌<◌, ◌≤◌, Bool, true, false, cond, List, [], ◌∷◌, ◌++◌, length, map, refl, sym, ap, subst, inl, inr, arith, append_assoc}
use Rattle.std.specs.Prelude.{All}
use Rattle.std.proofs.lemmas.List.Elements.{All-cons, All-nil}
use Rattle.std.proofs.lemmas.List.Sorted.{All-permutation, length_permutation}
use Rattle.note_list.proofs.OneList.{placed_in_order}
use Rattle.note_list.specs.Pairing.{IsPlayed}
use Rattle.rhythm_base.proofs.Members.{Among, Pairwise, pairs_from, pairs_weaken}
use Rattle.rhythm_base.proofs.OrderedLists.{all_head, all_tail}
use Rattle.rhythm_base.proofs.PairedLists.{each_append, each_length}
use Rattle.rhythm_base.specs.Lists.{AreInOrder, Each}
use Rattle.rhythm_base.specs.Performance.{place_of_note}
use Rattle.rhythm_base.specs.declared.event.Tempo.{Tempo}
use Rattle.rhythm_base.specs.declared.note.Note.{Note}
use Rattle.performance_load.specs.Take.{Take}
use Rattle.performance_load.specs.Taking.{IsTakeFormed}
use Rattle.performance_prepare.specs.Parts.{parts_from}
use Rattle.performance_prepare.specs.Ready.{IsReady}
use Rattle.performance_prepare.specs.Split.{in_order}
use Rattle.performance_prepare.specs.Strum.{begun_at, midway, strummed_notes, strums, together, with_strum}
use Rattle.performance_prepare.specs.StrumLaws as laws
use Rattle.performance_prepare.specs.StrumLaws.{IsBetween, IsStruck}
use Rattle.performance_prepare.proofs.Parting.{order_permuted, same_order}
use Rattle.performance_prepare.proofs.Strumming.{AreApart, Before, IsRun, J, Next, Placed, all_apart, joined, notes_before, run_high, run_low, run_more, run_one, strummed_distinct}

pub each_mapped : {X Y : Type 0} (R : X → Y → Type 0) (f : X → Y) (xs : List X) → ((x : X) → Among x xs → R x (f x)) → Each R xs (map f xs)
each_mapped R f [] h = refl
each_mapped R f (x ∷ xs) h = (h x (inl refl), each_mapped R f xs (λ y am. h y (inr am)))

pub all_each : {X Y : Type 0} (R : X → Y → Type 0) (P : X → Type 0) (Q : Y → Type 0) (xs : List X) (ys : List Y)
    → ((x : X) (y : Y) → P x → R x y → Q y) → Each R xs ys → All P xs → All Q ys
all_each R P Q [] ys to h all = subst (All Q) (sym h) (All-nil Q)
all_each R P Q (x ∷ xs) [] to h all = absurd h
all_each R P Q (x ∷ xs) (y ∷ ys) to h all =
    All-cons Q y ys (to x y (all_head P x xs all) h.0) (all_each R P Q xs ys to h.1 (all_tail P x xs all))

module _ (tempos : List Tempo) (division within : ℕ) where
  together_each : (first y : Note) (part : List Note) → IsRun first y part → Each IsStruck part (together part)
  together_each first y part run =
      each_mapped IsStruck (begun_at (midway part)) part (λ n am. struck n (run.sounding n am) (run_high first y part run))
    where
      struck : (n : Note) → (n.onset ≡ y.onset) ⊎ (y.onset < n.end) → midway part ≤ y.onset → IsStruck n (begun_at (midway part) n)
      struck n (inl same) high = record {
        channel = refl;
        key = refl;
        end = refl;
        after = λ le. omega (arith, same, high, le);
        long = λ lt. omega (arith, same, high, lt);
      }
      struck n (inr past) high = record {
        channel = refl;
        key = refl;
        end = refl;
        after = λ le. omega (arith, past, high);
        long = λ lt. omega (arith, past, high);
      }

  placed_each : (xs : List Note) (first y : Note) (part : List Note) → IsRun first y part → Pairwise Before (y ∷ xs)
      → Each IsStruck (part ++ xs) (Placed tempos division within part y xs)
  placed_each [] first y part run order = each_append IsStruck part [] (together part) [] (together_each first y part run) refl
  placed_each (x ∷ xs) first y part run order =
      go (J tempos division within part y x) refl (placed_each xs first x (part ++ x ∷ []))
      (placed_each xs x x (x ∷ []) (run_one x) order.1)
    where
      go : (b : Bool) → J tempos division within part y x ≡ b
          → (IsRun first x (part ++ x ∷ []) → Pairwise Before (x ∷ xs)
          → Each IsStruck ((part ++ x ∷ []) ++ xs) (Placed tempos division within (part ++ x ∷ []) x xs))
          → Each IsStruck (x ∷ xs) (Placed tempos division within (x ∷ []) x xs)
          → Each IsStruck (part ++ x ∷ xs) (Next tempos division within b part x xs)
      go true e on next = subst (λ ns. Each IsStruck ns (Placed tempos division within (part ++ x ∷ []) x xs))
          (append_assoc part (x ∷ []) xs)
          (on (run_more tempos division within first y part x run (order.0 x (inl refl)) (joined tempos division within part y x e))
          order.1)
      go false e on next =
          each_append IsStruck part (x ∷ xs) (together part) (Placed tempos division within (x ∷ []) x xs) (together_each first y part run)
          next

  pub strummed_each : (notes : List Note) → Pairwise Before notes → Each IsStruck notes (strummed_notes tempos division within notes)
  strummed_each [] order = refl
  strummed_each (n ∷ notes) order = placed_each notes n n (n ∷ []) (run_one n) order

struck_played : (latest : ℕ) (n z : Note) → IsPlayed latest n → IsStruck n z → IsPlayed latest z
struck_played latest n z played h = record {
  channel = (let e = h.channel in omega (arith, e, played.channel));
  key = (let e = h.key in omega (arith, e, played.key));
  after = h.after played.after;
  within = (let e = h.end in omega (arith, e, played.within));
}

module _ (within : ℕ) (t : Take) (formed : IsTakeFormed t) where
  abbrev Struck : List Note
  Struck = strummed_notes t.tempos t.division within t.notes

  pub take_each : Each IsStruck t.notes Struck
  take_each = strummed_each t.tempos t.division within t.notes (notes_before 1000000000 t.notes formed.notes formed.notes_in_order)

  pub strum_formed : IsTakeFormed (with_strum within t)
  strum_formed =
      let moved = order_permuted Struck in
      let long = length_permutation Struck (in_order Struck) moved in
      let many = each_length IsStruck t.notes Struck take_each in
      record {
        division_low = formed.division_low;
        division_high = formed.division_high;
        some_note = omega (arith, formed.some_note, long, many);
        few_notes = omega (arith, formed.few_notes, long, many);
        notes = All-permutation (IsPlayed 1000000000) Struck (in_order Struck) moved
            (all_each IsStruck (IsPlayed 1000000000) (IsPlayed 1000000000) t.notes Struck (λ n z p h. struck_played 1000000000 n z p h)
            take_each formed.notes);
        notes_in_order = subst (AreInOrder place_of_note) (sym (same_order Struck))
            (placed_in_order Struck (strummed_distinct t.tempos t.division within 1000000000 t.notes formed.notes formed.notes_in_order));
        tempos = formed.tempos;
        tempos_in_order = formed.tempos_in_order;
        key_marks = formed.key_marks;
        key_marks_in_order = formed.key_marks_in_order;
        signatures_in_order = formed.signatures_in_order;
      }

pub strum_ready : (latest within : ℕ) (t : Take) → IsReady latest t → IsReady latest (with_strum within t)
strum_ready latest within t ready = record {
  formed = strum_formed within t ready.formed;
  marks = record { tempos = ready.marks.tempos; key_marks = ready.marks.key_marks; signatures = ready.marks.signatures };
}

pub strum_kept : (latest within : ℕ) (t u : Take) → u ≡ with_strum within t → IsReady latest t → IsReady latest u
strum_kept latest within t u is ready = subst (IsReady latest) (sym is) (strum_ready latest within t ready)

-- ---- the laws

pub notes_kept : laws.StrumsKeepNotes
notes_kept within t formed =
    let notes = strummed_notes t.tempos t.division within t.notes in
    let before = notes_before 1000000000 t.notes formed.notes formed.notes_in_order in
    record {
      others = notes;
      each = take_each within t formed;
      order = pairs_from (λ m n. m.channel ≡ n.channel → m.onset ≤ n.onset) notes
          (pairs_weaken (AreApart t.tempos t.division within) (λ m n. m.channel ≡ n.channel
          → m.onset ≤ n.onset) notes (λ m n h. h.order) (all_apart t.tempos t.division within t.notes before));
      same = order_permuted notes;
      apart = (strum_formed within t formed).notes_in_order;
    }

module _ (tempos : List Tempo) (division within : ℕ) where
  run_between : (first y : Note) (part : List Note) → IsRun first y part → IsBetween part
  run_between first y part run = record {
    first = (let low = run_low first y part run in let e = run.begin in omega (arith, low, e));
    last = (let high = run_high first y part run in let e = run.end in omega (arith, high, e));
  }

  parts_between : (xs : List Note) (first y : Note) (part : List Note) → IsRun first y part → Pairwise Before (y ∷ xs)
      → All IsBetween (parts_from (J tempos division within) part y xs)
  parts_between [] first y part run order = All-cons IsBetween part [] (run_between first y part run) (All-nil IsBetween)
  parts_between (x ∷ xs) first y part run order =
      go (J tempos division within part y x) refl (parts_between xs first x (part ++ x ∷ []))
      (parts_between xs x x (x ∷ []) (run_one x) order.1)
    where
      go : (b : Bool) → J tempos division within part y x ≡ b
          → (IsRun first x (part ++ x ∷ []) → Pairwise Before (x ∷ xs)
          → All IsBetween (parts_from (J tempos division within) (part ++ x ∷ []) x xs))
          → All IsBetween (parts_from (J tempos division within) (x ∷ []) x xs)
          → All IsBetween (cond b (parts_from (J tempos division within) (part ++ x ∷ []) x xs)
          (part ∷ parts_from (J tempos division within) (x ∷ []) x xs))
      go true e on next = on (run_more tempos division within first y part x run (order.0 x (inl refl))
          (joined tempos division within part y x e)) order.1
      go false e on next = All-cons IsBetween part (parts_from (J tempos division within) (x ∷ []) x xs) (run_between first y part run) next

  all_between : (notes : List Note) → Pairwise Before notes → All IsBetween (strums tempos division within notes)
  all_between [] order = All-nil IsBetween
  all_between (n ∷ notes) order = parts_between notes n n (n ∷ []) (run_one n) order

pub stay_between : laws.StrumsStayBetween
stay_between within t formed =
    all_between t.tempos t.division within t.notes (notes_before 1000000000 t.notes formed.notes formed.notes_in_order)
