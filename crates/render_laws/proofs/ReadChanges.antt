-- The changes at the barlines are read as they are.
use Rattle.std.proofs.Common.{◌≡◌, ℕ, ℤ, ◌+◌, ◌≤◌, Bool, true, false, List, [], ◌∷◌, ◌++◌, get_or, map, refl, ap, ◌∙◌, Some, None}
use Rattle.std.specs.Prelude.{All, Option, IfSome, filter, if◌then◌else◌}
use Rattle.std.specs.Int.{trailing_zeros, w8}
use Rattle.std.proofs.lemmas.List.Elements.{All-append, All-cons, All-nil, All-weaker}
use Rattle.rhythm_base.proofs.OrderedLists.{all_head, all_tail}
use Rattle.performance_load.proofs.EventLemmas.{Up}
use Rattle.rhythm_base.specs.declared.event.Event.{Event}
use Rattle.rhythm_base.specs.declared.event.What.{What}
use Rattle.rhythm_base.specs.declared.event.What.TheVariants.{On, Off, Tempo, Signature, KeySig}
use Rattle.rhythm_base.specs.Notes.{touches}
use Rattle.derivation.specs.Score.{IsKeySignature, IsScoreBar}
use Rattle.derivation.specs.declared.score.ScoreBar.{ScoreBar}
use Rattle.smf_bytes.specs.Track.{AreTimed}
use Rattle.smf_laws.specs.Written.{AreLater}
use Rattle.smf_reader.specs.Ranges.{IsSaid}
use Rattle.voice_events.specs.Parts.{score_bar_parts, score_parts}
use Rattle.score_words.specs.Changes.{key_before, same_key, same_signature}
use Rattle.smf_writer.specs.Changes.{change_at, changes_at, changes_from, conductor, key_event, same_midi_tempo, signature_event, tempo_event}
use Rattle.smf_writer.proofs.ConductorEvents.{conductor_timed}
use Rattle.render_laws.specs.ReadBack.{is_change}
use Rattle.render_laws.proofs.PlayedNotes.{touching}

-- it is a change that can be read
pub record IsSaidChange (what : What) : Type 0 where
  pub said : IsSaid what
  pub change : is_change what ≡ true

abbrev WouldSay : Option What → Type 0
WouldSay o = IfSome o IsSaidChange

maybe_said : (b : Bool) (what : What) → IsSaidChange what → WouldSay (if b then None else Some what)
maybe_said true what is = tt
maybe_said false what is = is

tempo_said : (before : Option ScoreBar) (bar : ScoreBar) → IsScoreBar bar → WouldSay (tempo_event before bar)
tempo_said before bar is = maybe_said (same_midi_tempo before bar) (Tempo bar.tempo) (record { said = (is.some_tempo, is.few_tempo); change = refl })

signature_said : (before : Option ScoreBar) (bar : ScoreBar) → WouldSay (signature_event before bar)
signature_said before bar = maybe_said (same_signature before bar) (Signature bar.num (trailing_zeros w8 bar.den)) (record { said = tt; change = refl })

key_said : (before : Option ℤ) (bar : ScoreBar) → IsScoreBar bar → WouldSay (key_event before bar.sf)
key_said before bar is = go bar.sf is.key
  where
    go : (sf : Option ℤ) → IfSome sf IsKeySignature → WouldSay (key_event before sf)
    go None h = tt
    go (Some sf) h = maybe_said (same_key before sf) (KeySig sf) (record { said = (h.low, h.high); change = refl })

-- ---- all are changes that can be read

abbrev IsChangeEvent : Event → Type 0
IsChangeEvent e = IsSaidChange e.what

one_change : (tick : ℕ) (o : Option What) → WouldSay o → All IsChangeEvent (change_at tick o)
one_change tick None is = All-nil IsChangeEvent
one_change tick (Some what) is = All-cons IsChangeEvent (record { tick = tick; what = what }) [] is (All-nil IsChangeEvent)

all_changes : (resolution tick : ℕ) (before : Option ScoreBar) (bars : List ScoreBar) → All IsScoreBar bars → All IsChangeEvent (changes_from resolution before tick bars)
all_changes resolution tick before [] each = All-nil IsChangeEvent
all_changes resolution tick before (bar ∷ bars) each =
    let is = all_head IsScoreBar bar bars each in
    let keys : List Event = change_at tick (key_event (key_before before) bar.sf) in
    All-append IsChangeEvent (changes_at tick before bar) (changes_from resolution (Some bar) (tick + score_bar_parts resolution bar) bars)
    (All-append IsChangeEvent (change_at tick (tempo_event before bar)) (change_at tick (signature_event before bar) ++ (keys ++ [])) (one_change tick (tempo_event before bar) (tempo_said before bar is))
    (All-append IsChangeEvent (change_at tick (signature_event before bar)) (keys ++ []) (one_change tick (signature_event before bar) (signature_said before bar))
    (All-append IsChangeEvent keys [] (one_change tick (key_event (key_before before) bar.sf) (key_said (key_before before) bar is)) (All-nil IsChangeEvent))))
    (all_changes resolution (tick + score_bar_parts resolution bar) (Some bar) bars (all_tail IsScoreBar bar bars each))

-- ---- in their order

pub later_said : (low last : ℕ) (es : List Event) → AreTimed low es last → All IsChangeEvent es → AreLater low es last
later_said low last [] timed each = timed
later_said low last (e ∷ es) timed each =
    (timed.0, (all_head IsChangeEvent e es each).said, later_said e.tick last es timed.1 (all_tail IsChangeEvent e es each))

pub conductor_later : (resolution last : ℕ) (bars : List ScoreBar) → score_parts resolution bars ≤ last → All IsScoreBar bars → AreLater 0 (conductor resolution bars) last
conductor_later resolution last bars le each =
    later_said 0 last (conductor resolution bars) (conductor_timed last resolution bars le) (all_changes resolution 0 None bars each)

pub later_up : (low last : ℕ) (es : List Event) → AreLater low es last → Up low (map (λ e. e.tick) es)
later_up low last [] h = tt
later_up low last (e ∷ es) h = (h.0, later_up e.tick last es h.2)

touches_none : (c k : ℕ) (what : What) → is_change what ≡ true → touches c k what ≡ false
touches_none c k (On a b) is = absurd (cc)
touches_none c k (Off a b) is = absurd (cc)
touches_none c k _ is = refl

filter_every : (p : Event → Bool) (es : List Event) → All (λ e. p e ≡ true) es → filter p es ≡ es
filter_every p [] h = refl
filter_every p (e ∷ es) h =
    ap (λ b. if b then e ∷ filter p es else filter p es) (all_head (λ x. p x ≡ true) e es h) ∙ ap (λ (xs : List Event). e ∷ xs) (filter_every p es (all_tail (λ x. p x ≡ true) e es h))

filter_not : (p : Event → Bool) (es : List Event) → All (λ e. p e ≡ false) es → filter p es ≡ []
filter_not p [] h = refl
filter_not p (e ∷ es) h = ap (λ b. if b then e ∷ filter p es else filter p es) (all_head (λ x. p x ≡ false) e es h) ∙ filter_not p es (all_tail (λ x. p x ≡ false) e es h)

pub conductor_changes : (resolution : ℕ) (bars : List ScoreBar) → All IsScoreBar bars → filter (λ e. is_change e.what) (conductor resolution bars) ≡ conductor resolution bars
conductor_changes resolution bars each = filter_every (λ e. is_change e.what) (conductor resolution bars) (All-weaker IsChangeEvent (λ e. is_change e.what ≡ true) (λ e is. is.change) (conductor resolution bars) (all_changes resolution 0 None bars each))

pub conductor_silent : (c k resolution : ℕ) (bars : List ScoreBar) → All IsScoreBar bars → filter (touching c k) (conductor resolution bars) ≡ []
conductor_silent c k resolution bars each =
    let all = all_changes resolution 0 None bars each in
    filter_not (touching c k) (conductor resolution bars) (λ i d lt. touches_none c k (get_or (conductor resolution bars) i d).what (all i d lt).change)
