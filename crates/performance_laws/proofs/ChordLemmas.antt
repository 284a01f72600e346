-- The chords of a voice: their onsets rise, they begin where notes do, and none ends before its onset.
use Rattle.std.proofs.Common.{◌≡◌, ℕ, zero, suc, ◌+◌, ◌-◌, ◌*◌, ◌<◌, ◌≤◌, List, [], ◌∷◌, ◌++◌, length, map, refl, sym, ap, subst, inl, inr, arith}
use Rattle.std.specs.Prelude.{All, max, fold, slice_index}
use Rattle.std.specs.List.Sorted.{IsStrictlyIncreasing}
use Rattle.std.proofs.lemmas.Bool.{cases_lt}
use Rattle.std.proofs.lemmas.List.Elements.{All-nil}
use Rattle.rhythm_base.specs.declared.chord.Chord.{Chord}
use Rattle.rhythm_base.specs.declared.event.Tempo.{Tempo}
use Rattle.rhythm_base.specs.declared.note.Note.{Note}
use Rattle.rhythm_base.specs.Chords.{AreChords, StandsApart}
use Rattle.rhythm_base.specs.Leaves.{soundings}
use Rattle.rhythm_base.specs.Line.{Rising}
use Rattle.rhythm_base.specs.Time.{time, tempo_at}
use Rattle.rhythm_base.proofs.OrderedLists.{all_cons, all_head, all_tail, rise_later}

-- ---- time does not fall

more_time : (tempos : List Tempo) (t d : ℕ) → time tempos t ≤ time tempos (t + d)
unfolding time
more_time tempos t zero = let e : t + 0 ≡ t = omega arith in subst (λ n. time tempos t ≤ time tempos n) (sym e) (omega arith)
more_time tempos t (suc d) =
    let e : t + suc d ≡ suc (t + d) = omega arith in
    let h = more_time tempos t d in
    let step : time tempos (suc (t + d)) ≡ time tempos (t + d) + tempo_at tempos (t + d) = refl in
    subst (λ n. time tempos t ≤ time tempos n) (sym e) (omega (arith, h, step))

pub time_rises : (tempos : List Tempo) (t u : ℕ) → t ≤ u → time tempos t ≤ time tempos u
time_rises tempos t u le = let e : t + (u - t) ≡ u = omega arith in subst (λ n. time tempos t ≤ time tempos n) e (more_time tempos t (u - t))

after_window : (tempos : List Tempo) (t u w : ℕ) → time tempos t + w < time tempos u → t < u
after_window tempos t u w h = elim (cases_lt t u) [ inl l ↦ l | inr ge ↦ absurd (let r = time_rises tempos u t ge in omega (arith, r, h)) ]

-- ---- onsets

pub onsets_rise : (tempos : List Tempo) (division window : ℕ) (notes : List Note) (cs : List Chord) → AreChords tempos division window notes cs → IsStrictlyIncreasing (map (λ c. c.onset) cs)
onsets_rise tempos division window notes [] h = λ k l. absurd (omega arith)
onsets_rise tempos division window notes (c ∷ []) h = λ k l. absurd (omega arith)
onsets_rise tempos division window notes (c ∷ d ∷ cs) (f, xs, us, e, p, a, m, (g, ys, vs, i, q, b, n, h)) = go (onsets_rise tempos division window us (d ∷ cs) (g, ys, vs, i, q, b, n, h))
  where
    rises : c.onset < d.onset
    rises =
        let apart : StandsApart tempos division window f (g ∷ (ys ++ vs)) = subst (StandsApart tempos division window f) i a in
        let low : c.onset ≡ f.onset = ap (λ (x : Chord). x.onset) m in
        let high : d.onset ≡ g.onset = ap (λ (x : Chord). x.onset) n in
        let less = after_window tempos f.onset g.onset (window * division) apart in
        omega (arith, low, high, less)

    go : IsStrictlyIncreasing (map (λ x. x.onset) (d ∷ cs)) → (k : ℕ) → k + 1 < length (map (λ x. x.onset) (c ∷ d ∷ cs)) → slice_index (map (λ x. x.onset) (c ∷ d ∷ cs)) k < slice_index (map (λ x. x.onset) (c ∷ d ∷ cs)) (k + 1)
    go rest zero l = rises
    go rest (suc k) l =
        let moved : suc k + 1 ≡ suc (k + 1) = omega arith in
        subst (λ n. slice_index (map (λ (x : Chord). x.onset) (d ∷ cs)) k < slice_index (map (λ (x : Chord). x.onset) (c ∷ d ∷ cs)) n) (sym moved) (rest k (omega arith))

rising_after : (low : ℕ) (c : Chord) (cs : List Chord) → low ≤ c.onset → IsStrictlyIncreasing (map (λ x. x.onset) (c ∷ cs)) → Rising low (soundings (c ∷ cs))
rising_after low c [] le up = (le, tt)
rising_after low c (d ∷ cs) le up =
    let next : c.onset < d.onset = up 0 (omega arith) in
    (le, rising_after (c.onset + 1) d cs (omega (arith, next)) (rise_later c.onset (map (λ x. x.onset) (d ∷ cs)) up))

-- onsets that rise, as a line of leaves reads them
pub soundings_rise : (cs : List Chord) → IsStrictlyIncreasing (map (λ c. c.onset) cs) → Rising 0 (soundings cs)
soundings_rise [] up = tt
soundings_rise (c ∷ cs) up = rising_after 0 c cs (omega arith) up

-- ---- what holds of all notes

all_left : {X : Type 0} (P : X → Type 0) (xs ys : List X) → All P (xs ++ ys) → All P xs
all_left P [] ys h = All-nil P
all_left P (x ∷ xs) ys h = all_cons P x xs (all_head P x (xs ++ ys) h) (all_left P xs ys (all_tail P x (xs ++ ys) h))

pub all_right : {X : Type 0} (P : X → Type 0) (xs ys : List X) → All P (xs ++ ys) → All P ys
all_right P [] ys h = h
all_right P (x ∷ xs) ys h = all_right P xs ys (all_tail P x (xs ++ ys) h)

-- a chord begins where its first note does
pub onsets_keep : (P : ℕ → Type 0) (tempos : List Tempo) (division window : ℕ) (notes : List Note) (cs : List Chord) → AreChords tempos division window notes cs
    → All (λ n. P n.onset) notes → All (λ c. P c.onset) cs
onsets_keep P tempos division window notes [] h all = All-nil (λ (c : Chord). P c.onset)
onsets_keep P tempos division window notes (c ∷ cs) (f, xs, us, e, p, a, m, h) all =
    let Q : Note → Type 0 = λ n. P n.onset in
    let parts : All Q (f ∷ (xs ++ us)) = subst (All Q) e all in
    let same : c.onset ≡ f.onset = ap (λ (x : Chord). x.onset) m in
    all_cons (λ (c : Chord). P c.onset) c cs (subst P (sym same) (all_head Q f (xs ++ us) parts))
    (onsets_keep P tempos division window us cs h (all_right Q xs us (all_tail Q f (xs ++ us) parts)))

end_low : (e : ℕ) (ns : List Note) → e ≤ fold (λ k m. max k m.end) e ns
end_low e [] = omega arith
end_low e (n ∷ ns) = let h = end_low (max e n.end) ns in omega (arith, h)

end_high : (e high : ℕ) (ns : List Note) → e ≤ high → All (λ m. m.end ≤ high) ns → fold (λ k m. max k m.end) e ns ≤ high
end_high e high [] le h = le
end_high e high (n ∷ ns) le h =
    let one : n.end ≤ high = all_head (λ m. m.end ≤ high) n ns h in
    end_high (max e n.end) high ns (omega (arith, le, one)) (all_tail (λ m. m.end ≤ high) n ns h)

pub chords_end_after : (tempos : List Tempo) (division window high : ℕ) (notes : List Note) (cs : List Chord) → AreChords tempos division window notes cs
    → All (λ n. (n.onset ≤ n.end) × (n.end ≤ high)) notes → All (λ c. (c.onset ≤ c.end) × (c.end ≤ high)) cs
chords_end_after tempos division window high notes [] h all = All-nil (λ (c : Chord). (c.onset ≤ c.end) × (c.end ≤ high))
chords_end_after tempos division window high notes (c ∷ cs) (f, xs, us, e, p, a, m, h) all =
    let P : Note → Type 0 = λ n. (n.onset ≤ n.end) × (n.end ≤ high) in
    let parts : All P (f ∷ (xs ++ us)) = subst (All P) e all in
    let first : P f = all_head P f (xs ++ us) parts in
    let rest : All P (xs ++ us) = all_tail P f (xs ++ us) parts in
    let low = end_low f.end xs in
    let top = end_high f.end high xs first.1 (λ k d l. (all_left P xs us rest k d l).1) in
    let onset : c.onset ≡ f.onset = ap (λ (x : Chord). x.onset) m in
    let end : c.end ≡ fold (λ k m. max k m.end) f.end xs = ap (λ (x : Chord). x.end) m in
    all_cons (λ (x : Chord). (x.onset ≤ x.end) × (x.end ≤ high)) c cs (omega (arith, first.0, low, onset, end), omega (arith, top, end))
    (chords_end_after tempos division window high us cs h (all_right P xs us rest))
