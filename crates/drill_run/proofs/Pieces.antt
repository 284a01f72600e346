-- What is known of the performance of a piece.
use Rattle.std.proofs.Common.{◌≡◌, ℕ, zero, suc, ◌*◌, ◌<◌, ◌≤◌, ◌⊎◌, inl, inr, List, [], ◌∷◌, ◌++◌, length, refl, sym, ap, subst, ◌∙◌, arith, Result, Ok, Err, IfOk}
use Rattle.std.specs.List.Sorted.{IsStrictlyIncreasing}
use Rattle.std.specs.Prelude.{Any, Contains, slice_index_or}
use Rattle.std.proofs.lemmas.List.Elements.{Contains-append_left, Contains-append_right}
use Rattle.performance_load.specs.Loading.{AreVoicesOf, Loads}
use Rattle.performance_load.specs.declared.load_fault.LoadFault.{LoadFault}
use Rattle.performance_load.specs.declared.load_fault.LoadFault.TheVariants.{Memory}
use Rattle.piece_laws.specs.Events.{meant_notes}
use Rattle.piece_laws.specs.Laws.{IsLoadingOf}
use Rattle.piece_laws.proofs.Files.{pieces_read}
use Rattle.piece_laws.proofs.PieceBars.{pieces_loaded, pieces_notes}
use Rattle.piece_laws.proofs.PieceNotes.{lower_notes, lower_sung, upper_notes, upper_sung}
use Rattle.rhythm_base.specs.declared.note.Note.{Note}
use Rattle.rhythm_base.specs.Performance.{Performance}
use Rattle.rhythm_gen.specs.Draws.{draw}
use Rattle.rhythm_gen.specs.MidiFile.{generated}
use Rattle.rhythm_gen.proofs.FirstBeats.{first_beat}
use Rattle.rhythm_gen.proofs.Sung.{AreSung}
use Rattle.smf_reader.specs.Outcome.{GivesFile}
use Rattle.smf_reader.specs.Outcomes.{FaultStands, SaysFile}
use Rattle.smf_reader.specs.Played.{Smf}
use Rattle.smf_reader.specs.Ranges.{IsPlayedFile}
use Rattle.smf_reader.specs.SmfFile.{smf}
use Rattle.smf_reader.specs.declared.fault.SmfFault.{SmfFault}
use Rattle.smf_reader.proofs.OneOutcome.{one_outcome}
use Rattle.smf_reader.proofs.ReadInRange.{AreBytes, in_range}

-- ---- no fault

-- no fault stands in the file of a piece
pub read_without_fault : (number bars : ℕ) (fault : SmfFault) → bars ≤ 2000 → FaultStands (generated number bars) fault → ⊥
read_without_fault number bars fault few stands =
    (one_outcome (generated number bars)).never_both _ fault (pieces_read number bars few) stands

pub loading_of : (number bars : ℕ) (f : Smf) (p : Performance) → 1 ≤ bars → bars ≤ 2000 → SaysFile (generated number bars) f → Loads f (Ok p) → IsLoadingOf number bars (Ok p)
loading_of number bars f p some few says loads = record { some_bar = some; few_bars = few; file = f; says = says; loads = loads }

pub load_without_fault : (number bars : ℕ) (f : Smf) (fault : LoadFault) → 1 ≤ bars → bars ≤ 2000 → SaysFile (generated number bars) f → Loads f (Err fault) → fault ≡ Memory
load_without_fault number bars f fault some few says loads = pieces_loaded number bars fault (record { some_bar = some; few_bars = few; file = f; says = says; loads = loads })

-- ---- two voices

-- a list that rises and has 0 and 1 alone
two_alone : (xs : List ℕ) → IsStrictlyIncreasing xs → ((c : ℕ) → Contains xs c → (c ≡ 0) ⊎ (c ≡ 1)) → Contains xs 0 → Contains xs 1 → xs ≡ 0 ∷ 1 ∷ []
two_alone [] rise only (k, lt, at) one = absurd (omega (arith, lt))
two_alone (a ∷ []) rise only (zero, lt, at) (zero, less, same) = absurd (omega (arith, at, same))
two_alone (a ∷ []) rise only (zero, lt, at) (suc k, less, same) = absurd (omega (arith, less))
two_alone (a ∷ []) rise only (suc j, lt, at) one = absurd (omega (arith, lt))
two_alone (a ∷ b ∷ []) rise only zero_there one = by (only a (0, omega arith, refl)) (only b (1, omega arith, refl))
  where
    up : a < b
    up = rise 0 (omega arith)

    by : (a ≡ 0) ⊎ (a ≡ 1) → (b ≡ 0) ⊎ (b ≡ 1) → a ∷ b ∷ [] ≡ 0 ∷ 1 ∷ []
    by (inl first) (inr second) = λ i. first i ∷ second i ∷ []
    by (inl first) (inl second) = absurd (omega (arith, up, first, second))
    by (inr first) (inl second) = absurd (omega (arith, up, first, second))
    by (inr first) (inr second) = absurd (omega (arith, up, first, second))
two_alone (a ∷ b ∷ c ∷ more) rise only zero_there one = by (only c (2, omega arith, refl))
  where
    up : a < b
    up = rise 0 (omega arith)

    higher : b < c
    higher = rise 1 (omega arith)

    by : (c ≡ 0) ⊎ (c ≡ 1) → a ∷ b ∷ c ∷ more ≡ 0 ∷ 1 ∷ []
    by (inl is) = absurd (omega (arith, up, higher, is))
    by (inr is) = absurd (omega (arith, up, higher, is))

-- the notes of a voice are of its channel
of_voice : (voice low end : ℕ) (notes : List Note) → AreSung voice low notes end → (k : ℕ) (n : Note) → k < length notes → slice_index_or notes k n ≡ n → n.channel ≡ voice
of_voice voice low end [] sung k n lt at = absurd (omega (arith, lt))
of_voice voice low end (m ∷ notes) sung zero n lt at = ap (λ (x : Note). x.channel) (sym at) ∙ sung.0.of_voice
of_voice voice low end (m ∷ notes) sung (suc k) n lt at = of_voice voice m.end end notes sung.1 k n (omega (arith, lt)) at

of_two : (uppers lowers : List Note) (n : Note) → ((k : ℕ) → k < length uppers → slice_index_or uppers k n ≡ n → n.channel ≡ 0)
    → ((k : ℕ) → k < length lowers → slice_index_or lowers k n ≡ n → n.channel ≡ 1)
    → (k : ℕ) → k < length (uppers ++ lowers) → slice_index_or (uppers ++ lowers) k n ≡ n → (n.channel ≡ 0) ⊎ (n.channel ≡ 1)
of_two [] lowers n upper lower k lt at = inr (lower k lt at)
of_two (m ∷ uppers) lowers n upper lower zero lt at = inl (upper zero (omega arith) at)
of_two (m ∷ uppers) lowers n upper lower (suc k) lt at =
    of_two uppers lowers n (λ j less is. upper (suc j) (omega (arith, less)) is) lower k (omega (arith, lt)) at

pub two_voices : (number bars : ℕ) (p : Performance) → IsLoadingOf number bars (Ok p) → p.channels ≡ 0 ∷ 1 ∷ []
two_voices number bars p h =
    two_alone p.channels voices.rise (λ c there. only c ((voices.exactly c).0 there)) ((voices.exactly 0).1 upper) ((voices.exactly 1).1 lower)
  where
    voices : AreVoicesOf p.notes p.channels
    voices = h.loads.voices

    notes : p.notes ≡ meant_notes number bars
    notes = pieces_notes.notes number bars p h

    uppers : List Note
    uppers = upper_notes number bars

    lowers : List Note
    lowers = lower_notes number bars

    some : 1 ≤ bars
    some = h.some_bar

    among : (c : ℕ) (n : Note) → Contains (meant_notes number bars) n → n.channel ≡ c → Any (λ (m : Note). m.channel ≡ c) p.notes
    among c n there is = subst (λ (l : List Note). Any (λ (m : Note). m.channel ≡ c) l) (sym notes) (there.0, n, there.1, there.2, is)

    only : (c : ℕ) → Any (λ (n : Note). n.channel ≡ c) p.notes → (c ≡ 0) ⊎ (c ≡ 1)
    only c any =
        let (k, n, lt, at, is) = subst (λ (l : List Note). Any (λ (m : Note). m.channel ≡ c) l) notes any in
        elim (of_two uppers lowers n (λ j. of_voice 0 0 (1920 * bars) uppers (upper_sung number bars) j n) (λ j. of_voice 1 0 (1920 * bars) lowers (lower_sung number bars) j n) k lt at) [
          | inl first ↦ inl (sym is ∙ first)
          | inr second ↦ inr (sym is ∙ second)
        ]

    upper : Any (λ (n : Note). n.channel ≡ 0) p.notes
    upper =
        let one = first_beat number bars 0 0 some in
        among 0 one.0 (Contains-append_left uppers lowers one.0 one.1) one.2.voice

    lower : Any (λ (n : Note). n.channel ≡ 1) p.notes
    lower =
        let one = first_beat (draw number (4 * bars)) bars 1 0 some in
        among 1 one.0 (Contains-append_right uppers lowers one.0 one.1) one.2.voice
