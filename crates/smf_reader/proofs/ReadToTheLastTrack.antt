-- A file has more bytes than chunks, so that its reading ends by the last of its tracks or by a fault alone.
use Rattle.std.proofs.Common.{◌≡◌, ◌+◌, ◌<◌, ◌≤◌, ℕ, zero, suc, cond, List, [], ◌∷◌, length, take, drop, codes, Result, Ok, Err, refl, sym, ap, ◌∙◌, arith}
use Rattle.std.specs.List.{starts_with}
use Rattle.std.specs.Prelude.{nat_eq, nat_lt}
use Rattle.smf_reader.specs.declared.fault.SmfFault.{SmfFault}
use Rattle.smf_reader.specs.declared.fault.SmfFault.TheVariants.{Truncated}
use Rattle.smf_reader.specs.declared.chunk.Chunk.{Chunk}
use Rattle.smf_reader.specs.Outcome.{◌>>=◌}
use Rattle.smf_reader.specs.Outcomes.{IsReadToItsLastTrack}
use Rattle.smf_reader.specs.Played.{Track}
use Rattle.smf_reader.specs.Track.{track}
use Rattle.smf_reader.specs.Chunk.{chunk, number, tracks}
use Rattle.smf_reader.proofs.ChunkSteps.{at_end}
use Rattle.smf_reader.proofs.ReadToTheEnd.{Finds, chosen, no_value, value}

later_chunk : (bytes : List ℕ) (p : ℕ) → Finds (λ c. p < c.end) (chunk bytes p)
unfolding chunk
later_chunk bytes p =
    let c : Chunk = record { is_track = starts_with nat_eq (drop p bytes) (codes "MTrk"); begin = p + 8; end = p + 8 + number 4 bytes (p + 4) } in
    let past : Result Chunk SmfFault = Err (Truncated (length bytes)) in
    chosen (nat_lt (length bytes) (p + 8)) past _ no_value
    (chosen (nat_lt (length bytes) (p + 8 + number 4 bytes (p + 4))) past (Ok c) no_value (value {x = c} (omega arith)))

-- what a chunk leads to, by what is read after it after a track, and after another chunk
abbrev after : List ℕ → Result Chunk SmfFault → (ℕ → Result (List Track) SmfFault) → (ℕ → Result (List Track) SmfFault) → Result (List Track) SmfFault
after bytes r fewer same =
    r >>= λ c. cond c.is_track (track (take c.end bytes) c.begin >>= λ first. fewer c.end >>= λ others. Ok (first ∷ others)) (same c.end)

-- it is the same where what is read from each later place is
same_after : (bytes : List ℕ) (p : ℕ) (r : Result Chunk SmfFault) (fewer fewer' same same' : ℕ → Result (List Track) SmfFault) → Finds (λ c. p < c.end) r
    → ((q : ℕ) → p < q → fewer q ≡ fewer' q) → ((q : ℕ) → p < q → same q ≡ same' q) → after bytes r fewer same ≡ after bytes r fewer' same'
same_after bytes p (Err fault) fewer fewer' same same' later alike alike' = refl
same_after bytes p (Ok c) fewer fewer' same same' later alike alike' =
    let read : Result Track SmfFault = track (take c.end bytes) c.begin in
    ap (λ rest. cond c.is_track (read >>= λ first. rest >>= λ others. Ok (first ∷ others)) (same c.end)) (alike c.end (later.at c refl))
    ∙ ap (λ rest. cond c.is_track (read >>= λ first. fewer' c.end >>= λ others. Ok (first ∷ others)) rest) (alike' c.end (later.at c refl))

-- no track after the bytes
over : (n count : ℕ) (bytes : List ℕ) (p : ℕ) → length bytes ≤ p → tracks n (suc count) bytes p ≡ Err (Truncated (length bytes))
unfolding tracks
over zero count bytes p le = refl
over (suc n) count bytes p le = rw (at_end bytes p le) refl

none_left : (n : ℕ) (bytes : List ℕ) (p : ℕ) → tracks n 0 bytes p ≡ Ok []
unfolding tracks
none_left zero bytes p = refl
none_left (suc n) bytes p = refl

-- any two bounds that are enough do the same
enough : (n m count : ℕ) (bytes : List ℕ) (p : ℕ) → length bytes ≤ p + n → length bytes ≤ p + m → tracks n count bytes p ≡ tracks m count bytes p
unfolding tracks
enough n m zero bytes p le1 le2 = none_left n bytes p ∙ sym (none_left m bytes p)
enough zero m (suc count) bytes p le1 le2 = sym (over m count bytes p (omega arith))
enough (suc n) zero (suc count) bytes p le1 le2 = over (suc n) count bytes p (omega arith)
enough (suc n) (suc m) (suc count) bytes p le1 le2 =
    same_after bytes p (chunk bytes p) (tracks n count bytes) (tracks m count bytes) (tracks n (suc count) bytes) (tracks m (suc count) bytes) (later_chunk bytes p)
    (λ q lt. enough n m count bytes q (omega arith) (omega arith)) (λ q lt. enough n m (suc count) bytes q (omega arith) (omega arith))

on : (n count : ℕ) (bytes : List ℕ) (p : ℕ) → length bytes ≤ n → tracks n (suc count) bytes p ≡ after bytes (chunk bytes p) (tracks n count bytes) (tracks n (suc count) bytes)
unfolding tracks
on zero count bytes p le = rw (at_end bytes p (omega arith)) refl
on (suc n) count bytes p le =
    same_after bytes p (chunk bytes p) (tracks n count bytes) (tracks (suc n) count bytes) (tracks n (suc count) bytes) (tracks (suc n) (suc count) bytes) (later_chunk bytes p)
    (λ q lt. enough n (suc n) count bytes q (omega arith) (omega arith)) (λ q lt. enough n (suc n) (suc count) bytes q (omega arith) (omega arith))

pub is_read_to_its_last_track : (bytes : List ℕ) → IsReadToItsLastTrack bytes
is_read_to_its_last_track bytes = record {
  over = none_left (length bytes) bytes;
  on = λ count p. on (length bytes) count bytes p (omega arith);
}
