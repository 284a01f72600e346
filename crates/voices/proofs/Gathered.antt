-- The chords of a voice as they are gathered.
use Rattle.std.proofs.Common.{◌≡◌, ℕ, suc, ◌+◌, ◌-◌, ◌*◌, ◌^◌, ◌<◌, ◌≤◌, List, [], ◌∷◌, ◌++◌, length, get_or, drop, append_assoc, refl, sym, ap, ◌∙◌, subst, arith}
use Rattle.std.specs.Prelude.{All, max, bit_or}
use Rattle.std.proofs.lemmas.List.Elements.{All-cons, All-nil, All-append}
use Rattle.std.proofs.Math.Seq.{drop-cons}
use Rattle.std.proofs.lemmas.Grind.{fold-append}
use Rattle.std.proofs.lemmas.List.{get_or-drop, get_or_default, length-drop}
use Rattle.std.proofs.lemmas.Bool.Decides.{nat_tests}
use Rattle.std.specs.Ordering.{nat_cmp}
use Rattle.std.specs.declared.cmp.Ordering.TheVariants.{Less}
use Rattle.std.specs.Cmp.Lexicographic.{slice_cmp}
use Rattle.rhythm_base.specs.Performance.{place_of_note}
use Rattle.performance_laws.proofs.ChordLemmas.{time_rises}
use Rattle.voices.specs.Voice.{AreNotesOfVoice}
use Rattle.rhythm_base.specs.declared.chord.Chord.{Chord}
use Rattle.rhythm_base.specs.declared.event.Tempo.{Tempo}
use Rattle.rhythm_base.specs.declared.note.Note.{Note}
use Rattle.rhythm_base.specs.Chords.{AreChords, Joins, chord_of}
use Rattle.rhythm_base.specs.Time.{time}

-- ---- the chords so far

-- The chord in the making has a first note and others that join it. Where its notes and those that follow are some chords,
-- all notes are the chords so far and then those.
pub record Gathering (tempos : List Tempo) (division window : ℕ) (notes : List Note) (done : List Chord) (chord : Chord) (begin : ℕ) (later : List Note) : Type 0 where
  pub first : Note
  pub others : List Note
  pub is : chord ≡ chord_of first others
  pub started : begin ≡ time tempos first.onset
  pub joins : All (Joins tempos division window first) others
  pub before : All (λ n. first.onset ≤ n.onset) later
  pub whole : (more : List Chord) → AreChords tempos division window (first ∷ (others ++ later)) more → AreChords tempos division window notes (done ++ more)

pub gathering_first : (tempos : List Tempo) (division window : ℕ) (first : Note) (later : List Note) (begin : ℕ) → begin ≡ time tempos first.onset → All (λ n. first.onset ≤ n.onset) later → Gathering tempos division window (first ∷ later) [] (chord_of first []) begin later
gathering_first tempos division window first later begin e b = record { first = first; others = []; is = refl; started = e; before = b; joins = All-nil (Joins tempos division window first); whole = λ more h. h }

pub gathering_join : (tempos : List Tempo) (division window : ℕ) (notes : List Note) (done : List Chord) (chord : Chord) (begin : ℕ) (n : Note) (later : List Note) (next : Chord)
    → Gathering tempos division window notes done chord begin (n ∷ later) → time tempos n.onset - begin ≤ window * division
    → next ≡ record { onset = chord.onset; end = max chord.end n.end; keys = bit_or chord.keys (2 ^ n.key) } → Gathering tempos division window notes done next begin later
gathering_join tempos division window notes done chord begin n later next g near e = record {
  first = g.first;
  others = g.others ++ n ∷ [];
  is = e ∙ ap (λ (c : Chord). record { onset = c.onset; end = max c.end n.end; keys = bit_or c.keys (2 ^ n.key) }) g.is ∙ longer;
  started = g.started;
  before = λ k d h. g.before (suc k) d (omega arith);
  joins = All-append (Joins tempos division window g.first) g.others (n ∷ []) g.joins (All-cons (Joins tempos division window g.first) n [] (omega (arith, near, g.started)) (All-nil (Joins tempos division window g.first)));
  whole = λ more h. g.whole more (subst (λ l. AreChords tempos division window (g.first ∷ l) more) (append_assoc g.others (n ∷ []) later) h);
}
  where
    longer : ◌≡◌ {A = Chord} (record { onset = (chord_of g.first g.others).onset; end = max (chord_of g.first g.others).end n.end; keys = bit_or (chord_of g.first g.others).keys (2 ^ n.key) }) (chord_of g.first (g.others ++ n ∷ []))
    longer = λ i. record {
      onset = g.first.onset;
      end = sym (fold-append (λ k m. max k m.end) g.first.end g.others (n ∷ [])) i;
      keys = sym (fold-append (λ k m. bit_or k (2 ^ m.key)) (2 ^ g.first.key) g.others (n ∷ [])) i;
    }

pub gathering_apart : (tempos : List Tempo) (division window : ℕ) (notes : List Note) (done next : List Chord) (chord : Chord) (begin : ℕ) (n : Note) (later : List Note) (start : ℕ)
    → Gathering tempos division window notes done chord begin (n ∷ later) → window * division < time tempos n.onset - begin → next ≡ done ++ chord ∷ [] → start ≡ time tempos n.onset → All (λ m. n.onset ≤ m.onset) later → Gathering tempos division window notes next (chord_of n []) start later
gathering_apart tempos division window notes done next chord begin n later start g far e s b = record {
  first = n;
  others = [];
  is = refl;
  started = s;
  before = b;
  joins = All-nil (Joins tempos division window n);
  whole = λ more h. subst (λ l. AreChords tempos division window notes l) (sym (append_assoc done (chord ∷ []) more) ∙ ap (λ l. l ++ more) (sym e))
      (g.whole (chord ∷ more) (g.first, g.others, n ∷ later, refl, g.joins, (omega (arith, far, g.started)), g.is, h));
}

pub gathering_last : (tempos : List Tempo) (division window : ℕ) (notes : List Note) (done : List Chord) (chord : Chord) (begin : ℕ) → Gathering tempos division window notes done chord begin [] → AreChords tempos division window notes (done ++ chord ∷ [])
gathering_last tempos division window notes done chord begin g = g.whole (chord ∷ []) (g.first, g.others, [], refl, g.joins, tt, g.is, refl)

-- ---- the notes of a voice come one after another

pub comes : (m n : Note) → m.channel ≡ n.channel → slice_cmp nat_cmp (place_of_note m) (place_of_note n) ≡ Less → m.onset ≤ n.onset
comes m n e h = grind (arith, nat_tests)

pub voice_rises : (notes : List Note) (i : ℕ) (d : Note) → AreNotesOfVoice notes → i < length notes → All (λ m. (get_or notes i d).onset ≤ m.onset) (drop (suc i) notes)
voice_rises notes i d v within k e lt =
    let there : suc i + k < length notes = omega (arith, lt, length-drop (suc i) notes) in
    let same : get_or (drop (suc i) notes) k e ≡ get_or notes (suc i + k) e = get_or-drop (suc i) notes k e in
    let one : get_or notes i d ≡ get_or notes i e = get_or_default notes i d e within in
    let le = comes (get_or notes i e) (get_or notes (suc i + k) e) (v.channel i (suc i + k) e (omega arith) there) (v.in_order i (suc i + k) e (omega arith) there) in
    omega (arith, le, ap (λ (x : Note). x.onset) same, ap (λ (x : Note). x.onset) one)

-- ---- one note of the list

pub at_note : (tempos : List Tempo) (division window : ℕ) (notes others : List Note) (done : List Chord) (chord : Chord) (begin i : ℕ) (d : Note) → i < length others → Gathering tempos division window notes done chord begin (drop i others) → Gathering tempos division window notes done chord begin (get_or others i d ∷ drop (i + 1) others)
at_note tempos division window notes others done chord begin i d within g =
    let one : suc i ≡ i + 1 = omega arith in
    subst (Gathering tempos division window notes done chord begin) (drop-cons others i d within ∙ ap (λ n. get_or others i d ∷ drop n others) one) g

pub in_time : (tempos : List Tempo) (division window : ℕ) (notes : List Note) (done : List Chord) (chord : Chord) (begin : ℕ) (n : Note) (rest : List Note) → Gathering tempos division window notes done chord begin (n ∷ rest) → begin ≤ time tempos n.onset
in_time tempos division window notes done chord begin n rest g =
    let le = time_rises tempos g.first.onset n.onset (g.before 0 n (omega arith)) in
    omega (arith, le, g.started)

pub rises_after : (first : Note) (others : List Note) (i : ℕ) (d : Note) → AreNotesOfVoice (first ∷ others) → i < length others → All (λ m. (get_or others i d).onset ≤ m.onset) (drop (i + 1) others)
rises_after first others i d v within =
    let one : suc i ≡ i + 1 = omega arith in
    subst (λ n. All (λ m. (get_or others i d).onset ≤ m.onset) (drop n others)) one (voice_rises (first ∷ others) (suc i) d v (omega arith))
