-- The events of a piece: their ticks, keys and signatures, and the note-ons of its notes.
use Rattle.std.proofs.Common.{◌≡◌, ℕ, ◌+◌, ◌<◌, ◌≤◌, List, [], ◌∷◌, refl, subst, arith, Some}
use Rattle.std.specs.Prelude.{All, ⊤}
use Rattle.std.specs.List.{flat_map}
use Rattle.std.proofs.lemmas.List.Elements.{All-cons, All-nil}
use Rattle.note_list.specs.Pairing.{IsEventOf, IsPlayable}
use Rattle.rhythm_base.specs.Time.{signature_in}
use Rattle.rhythm_base.specs.declared.event.Event.{Event}
use Rattle.rhythm_base.specs.declared.event.Signature.{Signature}
use Rattle.rhythm_base.specs.declared.event.What.{What}
use Rattle.rhythm_base.specs.declared.event.What.TheVariants as what
use Rattle.rhythm_base.specs.declared.note.Note.{Note}
use Rattle.rhythm_gen.proofs.Sung.{AreSung, sung_within}
use Rattle.piece_laws.specs.Events.{played_conductor, played_note}
use Rattle.piece_laws.proofs.EvenBars.{IsFourFour}

-- a note of one of two channels begins not near to the end, and a signature is 4/4
abbrev pub FitsPiece : ℕ → ℕ → What → Type 0
FitsPiece end tick (what.On c k) = (tick + 220 ≤ end) × (c < 2)
FitsPiece end tick (what.Signature num dd) = (num ≡ 4) × (dd ≡ 2)
FitsPiece end tick _ = ⊤

-- an event of a piece with its last barline at a tick
pub record IsOfPiece (end : ℕ) (e : Event) : Type 0 where
  pub event : IsEventOf end e
  pub calm : FitsPiece end e.tick e.what

-- the events of a voice are
pub voice_events : (voice low end : ℕ) (notes : List Note) → voice < 2 → AreSung voice low notes end → All (IsOfPiece end) (flat_map played_note notes)
voice_events voice low end [] few sung = All-nil (IsOfPiece end)
voice_events voice low end (n ∷ ns) few sung =
    let P : Event → Type 0 = IsOfPiece end in
    let on : Event = record { tick = n.onset; what = what.On n.channel n.key } in
    let off : Event = record { tick = n.end; what = what.Off n.channel n.key } in
    let keyed : IsPlayable (what.On n.channel n.key) = (omega (arith, sung.0.of_voice), sung.0.key) in
    let begins : P on = record { event = record { tick = omega (arith, sung.0.early); keyed = keyed }; calm = (sung.0.early, omega (arith, sung.0.of_voice)) } in
    let ends : P off = record { event = record { tick = sung_within voice n.end end ns sung.1; keyed = keyed }; calm = tt } in
    All-cons P on (off ∷ flat_map played_note ns) begins (All-cons P off (flat_map played_note ns) ends (voice_events voice n.end end ns few sung.1))

-- and those of the first track
pub conductor_events : (end : ℕ) → All (IsOfPiece end) played_conductor.events
conductor_events end =
    let P : Event → Type 0 = IsOfPiece end in
    let tempo : Event = record { tick = 0; what = what.Tempo 500000 } in
    let signature : Event = record { tick = 0; what = what.Signature 4 2 } in
    All-cons P tempo (signature ∷ []) (record { event = record { tick = omega arith; keyed = tt }; calm = tt })
    (All-cons P signature [] (record { event = record { tick = omega arith; keyed = tt }; calm = (refl, refl) }) (All-nil P))

-- a change of signature is to 4/4
pub calm_signature : (end : ℕ) (e : Event) (s : Signature) → IsOfPiece end e → signature_in e.tick e.what ≡ Some s → IsFourFour s
calm_signature end e s h is = by e.what h.calm is
  where
    by : (w : What) → FitsPiece end e.tick w → signature_in e.tick w ≡ Some s → IsFourFour s
    by (what.Signature num dd) calm at =
        let here : Signature = record { tick = e.tick; num = num; dd = dd } in
        let same : here ≡ s = cc in
        subst IsFourFour same calm
    by _ calm at = absurd (cc)
