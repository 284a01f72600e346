-- A message that stands after its delta time is read as what it says.
use Rattle.std.proofs.Common.{◌≡◌, ℕ, ◌+◌, ◌*◌, ◌/◌, ◌%◌, ◌<◌, ◌≤◌, ◌==◌, suc, zero, false, List, [], ◌∷◌, ◌++◌, length, drop, refl, Some, Ok, ℤ, pos, negsuc, ◌≤ℤ◌, arith}
use Rattle.std.specs.Prelude.{Option}
use Rattle.std.specs.Int.{cast_unsigned, w8}
use Rattle.std.proofs.lemmas.Bool.Decides.{nat_tests}
use Rattle.rhythm_base.specs.declared.event.What.{What}
use Rattle.rhythm_base.specs.declared.event.What.TheVariants.{On, Off, Tempo, Signature, KeySig}
use Rattle.rhythm_base.specs.declared.limits.TheConstants.{LATEST_EVENT}
use Rattle.smf_bytes.specs.Message.{message_bytes}
use Rattle.smf_reader.specs.Outcome.{◌>>=◌}
use Rattle.smf_reader.specs.Quantity.{quantity}
use Rattle.smf_reader.specs.Ranges.{IsSaid}
use Rattle.smf_reader.specs.Track.{begun_by, events}
use Rattle.smf_reader.proofs.StandingBytes.{stands_after, stands_after_one}
use Rattle.smf_reader.proofs.StandingEvents.{meta_event_read, note_off_read, note_on_read}

-- after tick t an event at tick u is read, and what stands after it is read next
pub record IsReadFirst (bytes : List ℕ) (t p u : ℕ) (running : Option ℕ) (what : What) (rest : List ℕ) : Type 0 where
  pub status : Option ℕ
  pub next : ℕ
  pub at : drop next bytes ≡ rest
  pub read : events (length bytes) bytes t running p ≡ (events (length bytes) bytes u status next >>= λ later. Ok (begun_by u what later))

module _ (bytes : List ℕ) (t p d q : ℕ) (running : Option ℕ) (delta : quantity bytes p ≡ Ok (d, q)) (lt : p < length bytes) (early : t + d ≤ LATEST_EVENT) (rest : List ℕ) where
  after_meta : (type : ℕ) (said : List ℕ) → drop q bytes ≡ 255 ∷ type ∷ length said ∷ (said ++ rest) → drop (q + 2 + 1 + length said) bytes ≡ rest
  after_meta type said at = stands_after bytes (q + 2 + 1) said rest (stands_after_one bytes (q + 2) (length said) (said ++ rest) (stands_after bytes q (255 ∷ type ∷ []) (length said ∷ (said ++ rest)) at))

  after_note : (s key velocity : ℕ) → drop q bytes ≡ s ∷ key ∷ velocity ∷ rest → drop (q + 1 + 2) bytes ≡ rest
  after_note s key velocity at = stands_after bytes (q + 1) (key ∷ velocity ∷ []) rest (stands_after_one bytes q s (key ∷ velocity ∷ rest) at)

  key_read : (sf : ℤ) → negsuc 6 ≤ℤ sf → sf ≤ℤ pos 7 → drop q bytes ≡ message_bytes (KeySig sf) ++ rest
      → events (length bytes) bytes t running p ≡ (events (length bytes) bytes (t + d) running (q + 2 + 1 + 2) >>= λ later. Ok (begun_by (t + d) (KeySig sf) later))
  key_read (pos zero) low high at = meta_event_read bytes t p d q running delta lt early 89 (0 ∷ 0 ∷ []) rest (KeySig (pos zero)) (omega arith) refl at
  key_read (pos (suc zero)) low high at = meta_event_read bytes t p d q running delta lt early 89 (1 ∷ 0 ∷ []) rest (KeySig (pos (suc zero))) (omega arith) refl at
  key_read (pos (suc (suc zero))) low high at = meta_event_read bytes t p d q running delta lt early 89 (2 ∷ 0 ∷ []) rest (KeySig (pos (suc (suc zero)))) (omega arith) refl at
  key_read (pos (suc (suc (suc zero)))) low high at = meta_event_read bytes t p d q running delta lt early 89 (3 ∷ 0 ∷ []) rest (KeySig (pos (suc (suc (suc zero))))) (omega arith) refl at
  key_read (pos (suc (suc (suc (suc zero))))) low high at = meta_event_read bytes t p d q running delta lt early 89 (4 ∷ 0 ∷ []) rest (KeySig (pos (suc (suc (suc (suc zero)))))) (omega arith) refl at
  key_read (pos (suc (suc (suc (suc (suc zero)))))) low high at = meta_event_read bytes t p d q running delta lt early 89 (5 ∷ 0 ∷ []) rest (KeySig (pos (suc (suc (suc (suc (suc zero))))))) (omega arith) refl at
  key_read (pos (suc (suc (suc (suc (suc (suc zero))))))) low high at = meta_event_read bytes t p d q running delta lt early 89 (6 ∷ 0 ∷ []) rest (KeySig (pos (suc (suc (suc (suc (suc (suc zero)))))))) (omega arith) refl at
  key_read (pos (suc (suc (suc (suc (suc (suc (suc zero)))))))) low high at = meta_event_read bytes t p d q running delta lt early 89 (7 ∷ 0 ∷ []) rest (KeySig (pos (suc (suc (suc (suc (suc (suc (suc zero))))))))) (omega arith) refl at
  key_read (pos (suc (suc (suc (suc (suc (suc (suc (suc n))))))))) low high at = absurd (grind (arith, nat_tests, high))
  key_read (negsuc zero) low high at = meta_event_read bytes t p d q running delta lt early 89 (255 ∷ 0 ∷ []) rest (KeySig (negsuc zero)) (omega arith) refl at
  key_read (negsuc (suc zero)) low high at = meta_event_read bytes t p d q running delta lt early 89 (254 ∷ 0 ∷ []) rest (KeySig (negsuc (suc zero))) (omega arith) refl at
  key_read (negsuc (suc (suc zero))) low high at = meta_event_read bytes t p d q running delta lt early 89 (253 ∷ 0 ∷ []) rest (KeySig (negsuc (suc (suc zero)))) (omega arith) refl at
  key_read (negsuc (suc (suc (suc zero)))) low high at = meta_event_read bytes t p d q running delta lt early 89 (252 ∷ 0 ∷ []) rest (KeySig (negsuc (suc (suc (suc zero))))) (omega arith) refl at
  key_read (negsuc (suc (suc (suc (suc zero))))) low high at = meta_event_read bytes t p d q running delta lt early 89 (251 ∷ 0 ∷ []) rest (KeySig (negsuc (suc (suc (suc (suc zero)))))) (omega arith) refl at
  key_read (negsuc (suc (suc (suc (suc (suc zero)))))) low high at = meta_event_read bytes t p d q running delta lt early 89 (250 ∷ 0 ∷ []) rest (KeySig (negsuc (suc (suc (suc (suc (suc zero))))))) (omega arith) refl at
  key_read (negsuc (suc (suc (suc (suc (suc (suc zero))))))) low high at = meta_event_read bytes t p d q running delta lt early 89 (249 ∷ 0 ∷ []) rest (KeySig (negsuc (suc (suc (suc (suc (suc (suc zero)))))))) (omega arith) refl at
  key_read (negsuc (suc (suc (suc (suc (suc (suc (suc n)))))))) low high at = absurd (grind (arith, nat_tests, low))

  pub message_first : (what : What) → IsSaid what → drop q bytes ≡ message_bytes what ++ rest → IsReadFirst bytes t p (t + d) running what rest
  message_first (On channel key) said at = record {
    status = Some (144 + channel);
    next = q + 1 + 2;
    at = after_note (144 + channel) key 64 at;
    read = note_on_read bytes t p d q running delta lt early channel key 64 rest said.0 said.1 (omega arith) (omega arith) at;
  }
  message_first (Off channel key) said at = record {
    status = Some (128 + channel);
    next = q + 1 + 2;
    at = after_note (128 + channel) key 0 at;
    read = note_off_read bytes t p d q running delta lt early channel key 0 rest said.0 said.1 (omega arith) at;
  }
  message_first (Tempo micros) said at =
      let some = said.0 in
      let few = said.1 in
      let same : (micros / 65536 % 256) * 65536 + (micros / 256 % 256) * 256 + micros % 256 ≡ micros = omega arith in
      let no : (micros == 0) ≡ false = grind (arith, nat_tests) in
      let three : List ℕ = (micros / 65536 % 256) ∷ (micros / 256 % 256) ∷ (micros % 256) ∷ [] in
      record {
        status = running;
        next = q + 2 + 1 + 3;
        at = after_meta 81 three at;
        read = meta_event_read bytes t p d q running delta lt early 81 three rest (Tempo micros) (omega arith) (rw (same, no) refl) at;
      }
  message_first (Signature num dd) said at = record {
    status = running;
    next = q + 2 + 1 + 4;
    at = after_meta 88 (num ∷ dd ∷ 24 ∷ 8 ∷ []) at;
    read = meta_event_read bytes t p d q running delta lt early 88 (num ∷ dd ∷ 24 ∷ 8 ∷ []) rest (Signature num dd) (omega arith) refl at;
  }
  message_first (KeySig sf) said at = record {
    status = running;
    next = q + 2 + 1 + 2;
    at = after_meta 89 (cast_unsigned w8 sf ∷ 0 ∷ []) at;
    read = key_read sf said.0 said.1 at;
  }
