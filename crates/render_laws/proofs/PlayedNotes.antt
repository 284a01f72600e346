-- The notes of events are found key by key.
use Rattle.std.proofs.Common.{◌≡◌, ℕ, Bool, true, false, ◌==◌, List, [], ◌∷◌, ◌++◌, map, refl, sym, ap, ◌∙◌, subst, append-nil, arith, Some}
use Rattle.std.specs.Prelude.{filter, find, ◌&&◌, if◌then◌else◌}
use Rattle.std.specs.List.{flat_map}
use Rattle.std.proofs.lemmas.Bool.Decides.{nat_tests}
use Rattle.performance_load.proofs.EventLemmas.{Up, up_to, filter_order}
use Rattle.performance_laws.proofs.OneEvents.{one_merged}
use Rattle.rhythm_base.specs.Events.{IsMerged, at_tick}
use Rattle.rhythm_base.specs.Notes.{begun, begun_at, end_of_note, tick_or, touches}
use Rattle.rhythm_base.specs.declared.event.Event.{Event}
use Rattle.rhythm_base.specs.declared.event.What.{What}
use Rattle.rhythm_base.specs.declared.event.What.TheVariants.{On, Off}
use Rattle.rhythm_base.specs.declared.note.Note.{Note}
use Rattle.rhythm_base.proofs.ListParts.{filter_swap}

-- ---- of merged events those of one kind, where only one track has some

-- those that pass, of the tracks one after another, are those that pass of the merged events, where their ticks go up
pub merged_passing : (p : Event → Bool) (tracks : List (List Event)) (merged passing : List Event) → IsMerged tracks merged → filter p (flat_map (λ track. track) tracks) ≡ passing
    → Up 0 (map (λ e. e.tick) passing) → filter p merged ≡ passing
merged_passing p tracks merged passing h only up =
    one_merged (passing ∷ []) (filter p merged) passing
    (record { in_order = filter_order p merged h.in_order; same = same })
    (record { in_order = up_to 0 (map (λ e. e.tick) passing) up; same = λ t. ap (at_tick t) (sym (append-nil passing)) })
  where
    same : (t : ℕ) → at_tick t (filter p merged) ≡ at_tick t (passing ++ [])
    same t =
        filter_swap (λ e. e.tick == t) p merged
        ∙ ap (filter p) (h.same t)
        ∙ filter_swap p (λ e. e.tick == t) (flat_map (λ track. track) tracks)
        ∙ ap (at_tick t) (only ∙ sym (append-nil passing))

-- ---- the notes of one channel and key

find_kept : {X : Type 0} (p : X → Bool) (xs : List X) → find p xs ≡ find p (filter p xs)
find_kept p [] = refl
find_kept {X} p (x ∷ xs) = go (p x) refl (find_kept p xs)
  where
    go : (b : Bool) → p x ≡ b → find p xs ≡ find p (filter p xs) → (if b then Some x else find p xs) ≡ find p (if b then x ∷ filter p xs else filter p xs)
    go true is rest = rw is refl
    go false is rest = rest

module _ (channel key : ℕ) where
  abbrev pub at_key : Note → Bool
  at_key n = (n.channel == channel) && (n.key == key)

  abbrev pub touching : Event → Bool
  touching e = touches channel key e.what

  alike : (c k : ℕ) → ((c == channel) && (k == key)) ≡ true → (c ≡ channel) × (k ≡ key)
  alike c k is = (grind (arith, nat_tests, is), grind (arith, nat_tests, is))

  abbrev SameNotes : ℕ → List Event → Type 0
  SameNotes last events = filter at_key (begun last events) ≡ begun last (filter touching events)

  -- the notes of a channel and key are those of the events that touch them
  pub key_begun : (last : ℕ) (events : List Event) → SameNotes last events
  key_begun last [] = refl
  key_begun last (e ∷ es) = by e.what refl (key_begun last es)
    where
      on : (c k : ℕ) (b : Bool) → ((c == channel) && (k == key)) ≡ b → e.what ≡ On c k → SameNotes last es
          → (if b then record { channel = c; key = k; onset = e.tick; end = end_of_note last c k es } ∷ filter at_key (begun last es) else filter at_key (begun last es))
          ≡ begun last (if b then e ∷ filter touching es else filter touching es)
      on c k true is what rest =
          let same = alike c k is in
          let ends : end_of_note last channel key es ≡ end_of_note last channel key (filter touching es) = ap (tick_or last) (find_kept touching es) in
          let own : end_of_note last c k es ≡ end_of_note last c k (filter touching es) = subst (λ d. end_of_note last d k es ≡ end_of_note last d k (filter touching es)) (sym same.0)
          (subst (λ j. end_of_note last channel j es ≡ end_of_note last channel j (filter touching es)) (sym same.1) ends) in
          let first : begun last (e ∷ filter touching es) ≡ record { channel = c; key = k; onset = e.tick; end = end_of_note last c k (filter touching es) } ∷ begun last (filter touching es) =
          ap (λ (w : What). begun_at last e.tick w (filter touching es) ++ begun last (filter touching es)) what in
          ap (λ (t : ℕ). record { channel = c; key = k; onset = e.tick; end = t } ∷ filter at_key (begun last es)) own
          ∙ ap (λ (ns : List Note). record { channel = c; key = k; onset = e.tick; end = end_of_note last c k (filter touching es) } ∷ ns) rest
          ∙ sym first
      on c k false is what rest = rest

      off : (c k : ℕ) (b : Bool) → e.what ≡ Off c k → SameNotes last es → filter at_key (begun last es) ≡ begun last (if b then e ∷ filter touching es else filter touching es)
      off c k true what rest = rest ∙ sym (ap (λ (w : What). begun_at last e.tick w (filter touching es) ++ begun last (filter touching es)) what)
      off c k false what rest = rest

      by : (w : What) → e.what ≡ w → SameNotes last es → filter at_key (begun_at last e.tick w es ++ begun last es) ≡ begun last (if touches channel key w then e ∷ filter touching es else filter touching es)
      by (On c k) is rest = on c k ((c == channel) && (k == key)) refl is rest
      by (Off c k) is rest = off c k ((c == channel) && (k == key)) is rest
      by _ is rest = rest
