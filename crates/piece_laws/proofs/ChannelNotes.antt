-- The notes of merged events, channel by channel: each channel's are those of its voice.
use Rattle.std.proofs.Common.{◌≡◌, ℕ, Bool, true, false, cond, ◌==◌, List, [], ◌∷◌, ◌++◌, map, refl, sym, ap, ◌∙◌, subst, append-nil, arith, Some}
use Rattle.std.specs.Prelude.{filter, find, ◌&&◌, Option}
use Rattle.std.specs.List.{flat_map}
use Rattle.std.proofs.lemmas.Bool.Decides.{nat_tests}
use Rattle.performance_load.proofs.EventLemmas.{Up, up_to, filter_order}
use Rattle.rhythm_base.specs.Events.{IsMerged, at_tick}
use Rattle.rhythm_base.specs.Notes.{begun, begun_at, end_of_note, tick_or, touches}
use Rattle.rhythm_base.specs.declared.event.Event.{Event}
use Rattle.rhythm_base.specs.declared.event.What.{What}
use Rattle.rhythm_base.specs.declared.event.What.TheVariants.{On, Off}
use Rattle.rhythm_base.specs.declared.note.Note.{Note}
use Rattle.rhythm_gen.proofs.Sung.{AreSung}
use Rattle.performance_laws.proofs.OneEvents.{one_merged}
use Rattle.piece_laws.specs.Events.{played_note}
use Rattle.rhythm_base.proofs.ListParts.{filter_swap}

-- ---- one channel

abbrev pub of_channel : ℕ → What → Bool
of_channel channel (On c k) = c == channel
of_channel channel (Off c k) = c == channel
of_channel channel _ = false

abbrev pub channel_events : ℕ → List Event → List Event
channel_events channel events = filter (λ e. of_channel channel e.what) events

self : (n : ℕ) → (n == n) ≡ true
self n = grind (arith, nat_tests)

abbrev SameFind : ℕ → ℕ → List Event → Type 0
SameFind channel key events = find (λ e. touches channel key e.what) events ≡ find (λ e. touches channel key e.what) (channel_events channel events)

-- the end of a note is looked for in its channel alone
same_find : (channel key : ℕ) (events : List Event) → SameFind channel key events
same_find channel key [] = refl
same_find channel key (e ∷ es) = by e.what refl (same_find channel key es)
  where
    first : (c k : ℕ) (b : Bool) → (c == channel) ≡ b → touches channel key e.what ≡ ((c == channel) && (k == key)) → SameFind channel key es
        → cond ((c == channel) && (k == key)) (Some e) (find (λ x. touches channel key x.what) es) ≡ find (λ x. touches channel key x.what) (cond b (e ∷ channel_events channel es) (channel_events channel es))
    first c k true is test rest =
        ap (λ (b : Bool). cond b (Some e) (find (λ x. touches channel key x.what) es)) (sym test)
        ∙ ap (λ (o : Option Event). cond (touches channel key e.what) (Some e) o) rest
    first c k false is test rest = rw is rest

    by : (w : What) → e.what ≡ w → SameFind channel key es
        → cond (touches channel key w) (Some e) (find (λ x. touches channel key x.what) es) ≡ find (λ x. touches channel key x.what) (cond (of_channel channel w) (e ∷ channel_events channel es) (channel_events channel es))
    by (On c k) is rest = first c k (c == channel) refl (ap (λ (w : What). touches channel key w) is) rest
    by (Off c k) is rest = first c k (c == channel) refl (ap (λ (w : What). touches channel key w) is) rest
    by _ is rest = rest

abbrev SameNotes : ℕ → ℕ → List Event → Type 0
SameNotes last channel events = filter (λ n. n.channel == channel) (begun last events) ≡ begun last (channel_events channel events)

-- the notes of a channel are those of its events
pub channel_begun : (last channel : ℕ) (events : List Event) → SameNotes last channel events
channel_begun last channel [] = refl
channel_begun last channel (e ∷ es) = by e.what refl (channel_begun last channel es)
  where
    on : (c k : ℕ) (b : Bool) → (c == channel) ≡ b → e.what ≡ On c k → SameNotes last channel es
        → filter (λ n. n.channel == channel) (record { channel = c; key = k; onset = e.tick; end = end_of_note last c k es } ∷ begun last es) ≡ begun last (cond b (e ∷ channel_events channel es) (channel_events channel es))
    on c k true is what rest =
        let same : c ≡ channel = grind (arith, nat_tests) in
        let ends : end_of_note last c k es ≡ end_of_note last c k (channel_events channel es) = ap (tick_or last) (subst (λ d. find (λ x. touches c k x.what) es ≡ find (λ x. touches c k x.what) (channel_events d es)) same (same_find c k es)) in
        rw (is, what) (ap (λ (t : ℕ). record { channel = c; key = k; onset = e.tick; end = t } ∷ filter (λ n. n.channel == channel) (begun last es)) ends ∙ ap (λ (ns : List Note). record { channel = c; key = k; onset = e.tick; end = end_of_note last c k (channel_events channel es) } ∷ ns) rest)
    on c k false is what rest = rw is rest

    off : (c k : ℕ) (b : Bool) → e.what ≡ Off c k → SameNotes last channel es → filter (λ n. n.channel == channel) (begun last es) ≡ begun last (cond b (e ∷ channel_events channel es) (channel_events channel es))
    off c k true what rest = rw what rest
    off c k false what rest = rest

    by : (w : What) → e.what ≡ w → SameNotes last channel es → filter (λ n. n.channel == channel) (begun_at last e.tick w es ++ begun last es) ≡ begun last (cond (of_channel channel w) (e ∷ channel_events channel es) (channel_events channel es))
    by (On c k) is rest = on c k (c == channel) refl is rest
    by (Off c k) is rest = off c k (c == channel) is rest
    by _ is rest = rest

-- ---- one voice

voice_up : (voice low end : ℕ) (notes : List Note) → AreSung voice low notes end → Up low (map (λ e. e.tick) (flat_map played_note notes))
voice_up voice low end [] sung = tt
voice_up voice low end (n ∷ ns) sung = (sung.0.after, (omega (arith, sung.0.order), voice_up voice n.end end ns sung.1))

-- a voice's events are of its channel
pub own_events : (voice low end : ℕ) (notes : List Note) → AreSung voice low notes end → channel_events voice (flat_map played_note notes) ≡ flat_map played_note notes
own_events voice low end [] sung = refl
own_events voice low end (n ∷ ns) sung =
    let t : (n.channel == voice) ≡ true = rw sung.0.of_voice (self voice) in
    rw t (ap (λ (l : List Event). record { tick = n.onset; what = On n.channel n.key } ∷ record { tick = n.end; what = Off n.channel n.key } ∷ l) (own_events voice n.end end ns sung.1))

-- and of no other
pub no_events : (voice other low end : ℕ) (notes : List Note) → (voice == other) ≡ false → AreSung voice low notes end → channel_events other (flat_map played_note notes) ≡ []
no_events voice other low end [] apart sung = refl
no_events voice other low end (n ∷ ns) apart sung =
    let t : (n.channel == other) ≡ false = rw sung.0.of_voice apart in
    rw t (no_events voice other n.end end ns apart sung.1)

-- The events of a channel, of merged events, are its voice's.
pub channel_is : (voice end : ℕ) (notes : List Note) (tracks : List (List Event)) (merged : List Event) → AreSung voice 0 notes end → IsMerged tracks merged
    → channel_events voice (flat_map (λ track. track) tracks) ≡ flat_map played_note notes → channel_events voice merged ≡ flat_map played_note notes
channel_is voice end notes tracks merged sung h only =
    one_merged (flat_map played_note notes ∷ []) (channel_events voice merged) (flat_map played_note notes)
    (record { in_order = filter_order (λ e. of_channel voice e.what) merged h.in_order; same = same })
    (record { in_order = up_to 0 (map (λ e. e.tick) (flat_map played_note notes)) (voice_up voice 0 end notes sung); same = λ t. ap (at_tick t) (sym (append-nil (flat_map played_note notes))) })
  where
    same : (t : ℕ) → at_tick t (channel_events voice merged) ≡ at_tick t (flat_map played_note notes ++ [])
    same t =
        filter_swap (λ e. e.tick == t) (λ e. of_channel voice e.what) merged
        ∙ ap (channel_events voice) (h.same t)
        ∙ filter_swap (λ e. of_channel voice e.what) (λ e. e.tick == t) (flat_map (λ track. track) tracks)
        ∙ ap (at_tick t) (only ∙ sym (append-nil (flat_map played_note notes)))
