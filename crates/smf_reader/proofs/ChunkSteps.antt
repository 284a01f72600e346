-- The tracks of a file, read one after another.
use Rattle.std.proofs.Common.{◌≡◌, ℕ, zero, suc, ◌+◌, ◌<◌, ◌≤◌, true, false, Bool, cond, List, [], ◌∷◌, ◌++◌, length, take, nat_lt, Result, Ok, Err, refl, sym, ap, ◌∙◌, append_assoc, append-nil, arith}
use Rattle.smf_reader.specs.declared.fault.SmfFault.{SmfFault}
use Rattle.smf_reader.specs.declared.fault.SmfFault.TheVariants.{Truncated}
use Rattle.smf_reader.specs.declared.chunk.Chunk.{Chunk}
use Rattle.smf_reader.specs.Outcome.{◌>>=◌}
use Rattle.smf_reader.specs.Played.{Track}
use Rattle.smf_reader.specs.Track.{track}
use Rattle.smf_reader.specs.Chunk.{chunk, tracks}

-- what is read, with the tracks in front
abbrev pub with_front : List Track → Result (List Track) SmfFault → Result (List Track) SmfFault
with_front front outcome = outcome >>= λ played. Ok (front ++ played)

-- with these tracks in front, the file comes to the outcome by the chunks from this place on, which the fuel is enough for
pub record ComesTo (bytes : List ℕ) (front : List Track) (left : ℕ) (p : ℕ) (outcome : Result (List Track) SmfFault) : Type 0 where
  pub fuel : ℕ
  pub enough : length bytes ≤ p + fuel
  pub whole : with_front front (tracks fuel left bytes p) ≡ outcome

-- no chunk after the bytes
pub at_end : (bytes : List ℕ) (p : ℕ) → length bytes ≤ p → chunk bytes p ≡ Err (Truncated (length bytes))
unfolding chunk
at_end bytes p le = let short : nat_lt (length bytes) (p + 8) ≡ true = grind arith in rw short refl

-- what a chunk that is no track, or a track, leads to, by the fuel that is left
abbrev pub next_chunk : Bool → Result Track SmfFault → ℕ → ℕ → List ℕ → ℕ → Result (List Track) SmfFault
next_chunk is_track read n count bytes p =
    cond is_track (read >>= λ first. tracks n count bytes p >>= λ others. Ok (first ∷ others)) (tracks n (suc count) bytes p)

one_more : (n count : ℕ) (bytes : List ℕ) (p : ℕ) (c : Chunk) → chunk bytes p ≡ Ok c → tracks (suc n) (suc count) bytes p ≡ next_chunk c.is_track (track (take c.end bytes) c.begin) n count bytes c.end
unfolding tracks
one_more n count bytes p c read = rw read refl

-- what is read after a chunk, by the fuel that is left
record Follows (bytes : List ℕ) (front : List Track) (count p : ℕ) (c : Chunk) (outcome : Result (List Track) SmfFault) : Type 0 where
  pub fuel : ℕ
  pub enough : length bytes ≤ suc (p + fuel)
  pub whole : with_front front (next_chunk c.is_track (track (take c.end bytes) c.begin) fuel count bytes c.end) ≡ outcome

one_step : (n : ℕ) (bytes : List ℕ) (front : List Track) (count p : ℕ) (c : Chunk) (outcome : Result (List Track) SmfFault) → p < length bytes → length bytes ≤ p + n → chunk bytes p ≡ Ok c
    → with_front front (tracks n (suc count) bytes p) ≡ outcome → Follows bytes front count p c outcome
one_step zero bytes front count p c outcome lt enough read so_far = absurd (omega arith)
one_step (suc n) bytes front count p c outcome lt enough read so_far =
    record { fuel = n; enough = omega arith; whole = ap (with_front front) (sym (one_more n count bytes p c read)) ∙ so_far }

regroup : (front : List Track) (first : Track) (read : Result (List Track) SmfFault) → with_front front (read >>= λ others. Ok (first ∷ others)) ≡ with_front (front ++ first ∷ []) read
regroup front first (Ok others) = ap (λ (ts : List Track). Ok ts) (simp append_assoc)
regroup front first (Err fault) = refl

-- a track goes to those in front
pub goes_on : (bytes : List ℕ) (front longer : List Track) (left less p : ℕ) (c : Chunk) (first : Track) (outcome : Result (List Track) SmfFault) → p < length bytes → p < c.end → left ≡ suc less
    → chunk bytes p ≡ Ok c → c.is_track ≡ true → track (take c.end bytes) c.begin ≡ Ok first → longer ≡ front ++ first ∷ [] → ComesTo bytes front left p outcome → ComesTo bytes longer less c.end outcome
goes_on bytes front longer left less p c first outcome lt later more read is played grown so_far =
    let f = one_step so_far.fuel bytes front less p c outcome lt so_far.enough read (ap (λ k. with_front front (tracks so_far.fuel k bytes p)) (sym more) ∙ so_far.whole) in
    let rest = tracks f.fuel less bytes c.end in
    record {
      fuel = f.fuel;
      enough = omega (arith, f.enough);
      whole = ap (λ (ts : List Track). with_front ts rest) grown
          ∙ sym (regroup front first rest)
          ∙ ap (λ (r : Result Track SmfFault). with_front front (next_chunk true r f.fuel less bytes c.end)) (sym played)
          ∙ ap (λ (b : Bool). with_front front (next_chunk b (track (take c.end bytes) c.begin) f.fuel less bytes c.end)) (sym is)
          ∙ f.whole;
    }

-- a chunk of another type is skipped
pub skips : (bytes : List ℕ) (front : List Track) (left less p : ℕ) (c : Chunk) (outcome : Result (List Track) SmfFault) → p < length bytes → p < c.end → left ≡ suc less
    → chunk bytes p ≡ Ok c → c.is_track ≡ false → ComesTo bytes front left p outcome → ComesTo bytes front left c.end outcome
skips bytes front left less p c outcome lt later more read is so_far =
    let f = one_step so_far.fuel bytes front less p c outcome lt so_far.enough read (ap (λ k. with_front front (tracks so_far.fuel k bytes p)) (sym more) ∙ so_far.whole) in
    record {
      fuel = f.fuel;
      enough = omega (arith, f.enough);
      whole = ap (λ k. with_front front (tracks f.fuel k bytes c.end)) more
          ∙ ap (λ (b : Bool). with_front front (next_chunk b (track (take c.end bytes) c.begin) f.fuel less bytes c.end)) (sym is)
          ∙ f.whole;
    }

-- a fault of a track is the file's
pub track_fails : (bytes : List ℕ) (front : List Track) (left less p : ℕ) (c : Chunk) (fault : SmfFault) (outcome : Result (List Track) SmfFault) → p < length bytes → left ≡ suc less
    → chunk bytes p ≡ Ok c → c.is_track ≡ true → track (take c.end bytes) c.begin ≡ Err fault → ComesTo bytes front left p outcome → outcome ≡ Err fault
track_fails bytes front left less p c fault outcome lt more read is fails so_far =
    let f = one_step so_far.fuel bytes front less p c outcome lt so_far.enough read (ap (λ k. with_front front (tracks so_far.fuel k bytes p)) (sym more) ∙ so_far.whole) in
    sym f.whole
    ∙ ap (λ (b : Bool). with_front front (next_chunk b (track (take c.end bytes) c.begin) f.fuel less bytes c.end)) is
    ∙ ap (λ (r : Result Track SmfFault). with_front front (next_chunk true r f.fuel less bytes c.end)) fails

-- the chunks begin
pub starts : (bytes : List ℕ) (count p : ℕ) (outcome : Result (List Track) SmfFault) → tracks (length bytes) count bytes p ≡ outcome → ComesTo bytes [] count p outcome
starts bytes count p outcome h = record { fuel = length bytes; enough = omega arith; whole = go (tracks (length bytes) count bytes p) h } where
  go : (read : Result (List Track) SmfFault) → read ≡ outcome → with_front [] read ≡ outcome
  go (Ok played) e = e
  go (Err fault) e = e

-- all tracks are read
pub is_done : (bytes : List ℕ) (front : List Track) (left p : ℕ) (outcome : Result (List Track) SmfFault) → left ≡ 0 → ComesTo bytes front left p outcome → outcome ≡ Ok front
unfolding tracks
is_done bytes front left p outcome none so_far = go so_far.fuel so_far.whole where
  go : (n : ℕ) → with_front front (tracks n left bytes p) ≡ outcome → outcome ≡ Ok front
  go zero whole = sym whole ∙ rw none (ap (λ (ts : List Track). Ok ts) (append-nil front))
  go (suc n) whole = sym whole ∙ rw none (ap (λ (ts : List Track). Ok ts) (append-nil front))

same_fault : (e f : SmfFault) → ◌≡◌ {A = Result Chunk SmfFault} (Err e) (Err f) → e ≡ f
same_fault e f h = cc

-- a fault of a chunk is the file's
pub fails : (bytes : List ℕ) (front : List Track) (left p : ℕ) (fault : SmfFault) (outcome : Result (List Track) SmfFault) → 0 < left → chunk bytes p ≡ Err fault
    → ComesTo bytes front left p outcome → outcome ≡ Err fault
unfolding tracks
fails bytes front zero p fault outcome lt read so_far = absurd (omega arith)
fails bytes front (suc count) p fault outcome lt read so_far = go so_far.fuel so_far.enough so_far.whole where
  go : (n : ℕ) → length bytes ≤ p + n → with_front front (tracks n (suc count) bytes p) ≡ outcome → outcome ≡ Err fault
  go zero enough whole = sym whole ∙ ap (λ (f : SmfFault). Err f) (same_fault (Truncated (length bytes)) fault (sym (at_end bytes p (omega arith)) ∙ read))
  go (suc n) enough whole = sym whole ∙ rw read refl
