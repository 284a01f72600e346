-- No fault that stands in a file is want of memory.
use Rattle.std.proofs.Common.{◌≡◌, ◌≢◌, ◌+◌, ℕ, zero, suc, Bool, true, false, cond, List, length, take, drop, Option, Some, None, Result, Ok, Err, ap}
use Rattle.std.specs.Prelude.{slice_get, not, nat_eq, nat_lt, codes, if◌then◌else◌}
use Rattle.std.specs.List.{starts_with}
use Rattle.smf_reader.specs.declared.fault.SmfFault.{SmfFault}
use Rattle.smf_reader.specs.declared.fault.SmfFault.TheVariants.{NotSmf, Format, Smpte, ZeroDivision, Truncated, BadQuantity, NoStatus, BadMeta, Memory}
use Rattle.smf_reader.specs.declared.meaning.Meaning.{Meaning}
use Rattle.smf_reader.specs.declared.meaning.Meaning.TheVariants as meanings
use Rattle.smf_reader.specs.Outcome.{◌>>=◌, or_smf_fault}
use Rattle.smf_reader.specs.Played.{Track}
use Rattle.smf_reader.specs.Bytes.{byte, data_byte, content}
use Rattle.smf_reader.specs.Quantity.{last_place, endless, quantity}
use Rattle.smf_reader.specs.Meta.{meta_meaning, meta_event}
use Rattle.smf_reader.specs.Message.{status, channel_message, system_exclusive, message}
use Rattle.smf_reader.specs.Event.{tick_after, event}
use Rattle.smf_reader.specs.Track.{followed, events}
use Rattle.smf_reader.specs.Chunk.{number, chunk, tracks}
use Rattle.smf_reader.specs.Header.{header_size, header}
use Rattle.smf_reader.specs.SmfFile.{smf}

-- a value, or a fault of the bytes
record IsOfBytes {A : Type 0} (r : Result A SmfFault) : Type 0 where
  pub never : r ≢ Err Memory

value : {A : Type 0} {x : A} → IsOfBytes (Ok x)
value = record { never = λ h. cc }

same_fault : {A : Type 0} (e f : SmfFault) → ◌≡◌ {A = Result A SmfFault} (Err e) (Err f) → e ≡ f
same_fault e f h = cc

fault_of : {A : Type 0} (fault : SmfFault) → fault ≢ Memory → IsOfBytes {A = A} (Err fault)
fault_of {A} fault ne = record { never = λ h. ne (same_fault {A = A} fault Memory h) }

chained : {A B : Type 0} {r : Result A SmfFault} {next : A → Result B SmfFault} → IsOfBytes r → ((x : A) → IsOfBytes (next x)) → IsOfBytes (r >>= next)
chained {A} {B} {r} {next} first others = go r first where
  go : (r : Result A SmfFault) → IsOfBytes r → IsOfBytes (r >>= next)
  go (Ok x) h = others x
  go (Err fault) h = fault_of fault (λ e. h.never (ap (λ (f : SmfFault). Err f) e))

found : {A : Type 0} (o : Option A) (fault : SmfFault) → fault ≢ Memory → IsOfBytes (or_smf_fault o fault)
found None fault ne = fault_of fault ne
found (Some x) fault ne = value

chosen : {A : Type 0} (b : Bool) (x y : Result A SmfFault) → IsOfBytes x → IsOfBytes y → IsOfBytes (if b then x else y)
chosen true x y first second = first
chosen false x y first second = second

format : (n : ℕ) → Format n ≢ Memory
format n h = cc

truncated : (n : ℕ) → Truncated n ≢ Memory
truncated n h = cc

bytes_byte : (bytes : List ℕ) (p : ℕ) → IsOfBytes (byte bytes p)
bytes_byte bytes p = found (slice_get bytes p) (Truncated (length bytes)) (truncated (length bytes))

bytes_data_byte : (bytes : List ℕ) (p : ℕ) → IsOfBytes (data_byte bytes p)
unfolding data_byte
bytes_data_byte bytes p = chained (bytes_byte bytes p) (λ b. chosen _ _ _ value (fault_of _ (λ h. cc)))

bytes_content : (bytes : List ℕ) (p size : ℕ) → IsOfBytes (content bytes p size)
bytes_content bytes p size = chosen _ _ _ (fault_of _ (truncated (length bytes))) value

bytes_endless : (b : Bool) (n m : ℕ) → cond b (Truncated n) (BadQuantity m) ≢ Memory
bytes_endless true n m h = cc
bytes_endless false n m h = cc

bytes_quantity : (bytes : List ℕ) (p : ℕ) → IsOfBytes (quantity bytes p)
unfolding quantity
bytes_quantity bytes p = chained (found (last_place (drop p bytes)) (endless bytes p) (bytes_endless _ _ _)) (λ last. value)

bytes_meta : (bytes : List ℕ) (p : ℕ) → IsOfBytes (meta_event bytes p)
unfolding meta_event
bytes_meta bytes p =
    chained (bytes_byte bytes (p + 1))
    (λ type. chained (bytes_quantity bytes (p + 2))
    (λ size. chained (bytes_content bytes size.1 size.0)
    (λ said. chained (found (meta_meaning type said) (BadMeta p) (λ h. cc)) (λ meaning. value))))

bytes_status : (bytes : List ℕ) (running : Option ℕ) (p : ℕ) → IsOfBytes (status bytes running p)
unfolding status
bytes_status bytes running p =
    chained (bytes_byte bytes p) (λ b. chosen _ _ _ (chained (found running (NoStatus p) (λ h. cc)) (λ last. value)) value)

bytes_channel : (bytes : List ℕ) (s p : ℕ) → IsOfBytes (channel_message bytes s p)
unfolding channel_message
bytes_channel bytes s p =
    chained (bytes_data_byte bytes p) (λ first. chosen _ _ _ value (chained (bytes_data_byte bytes (p + 1)) (λ second. value)))

bytes_exclusive : (bytes : List ℕ) (p : ℕ) → IsOfBytes (system_exclusive bytes p)
unfolding system_exclusive
bytes_exclusive bytes p = chained (bytes_quantity bytes p) (λ size. chained (bytes_content bytes size.1 size.0) (λ said. value))

bytes_message : (bytes : List ℕ) (p s after : ℕ) → IsOfBytes (message bytes p s after)
unfolding message
bytes_message bytes p s after =
    chosen _ _ _ (bytes_channel bytes s after) (chosen _ _ _ (bytes_meta bytes p) (chosen _ _ _ (bytes_exclusive bytes after) (fault_of _ (λ h. cc))))

bytes_tick : (bytes : List ℕ) (tick p : ℕ) → IsOfBytes (tick_after bytes tick p)
unfolding tick_after
bytes_tick bytes tick p = chained (bytes_quantity bytes p) (λ delta. chosen _ _ _ value (fault_of _ (λ h. cc)))

bytes_event : (bytes : List ℕ) (tick : ℕ) (running : Option ℕ) (p : ℕ) → IsOfBytes (event bytes tick running p)
unfolding event
bytes_event bytes tick running p =
    chained (bytes_tick bytes tick p)
    (λ at. chained (bytes_status bytes running at.1)
    (λ head. chained (bytes_message bytes at.1 head.0 head.1) (λ said. value)))

bytes_followed : (m : Meaning) (tick : ℕ) (after : Result Track SmfFault) → IsOfBytes after → IsOfBytes (followed m tick after)
bytes_followed (meanings.Event what) tick after sure = chained sure (λ later. value)
bytes_followed meanings.Skipped tick after sure = sure
bytes_followed meanings.EndOfTrack tick after sure = value

bytes_events : (n : ℕ) (bytes : List ℕ) (tick : ℕ) (running : Option ℕ) (p : ℕ) → IsOfBytes (events n bytes tick running p)
unfolding events
bytes_events zero bytes tick running p = value
bytes_events (suc n) bytes tick running p =
    chosen _ _ _ value (chained (bytes_event bytes tick running p) (λ step. bytes_followed step.meaning step.tick _ (bytes_events n bytes step.tick step.running step.next)))

bytes_chunk : (bytes : List ℕ) (p : ℕ) → IsOfBytes (chunk bytes p)
unfolding chunk
bytes_chunk bytes p = chosen _ _ _ (fault_of _ (truncated (length bytes))) (chosen _ _ _ (fault_of _ (truncated (length bytes))) value)

bytes_tracks : (n count : ℕ) (bytes : List ℕ) (p : ℕ) → IsOfBytes (tracks n count bytes p)
unfolding tracks
bytes_tracks zero zero bytes p = value
bytes_tracks (suc n) zero bytes p = value
bytes_tracks zero (suc count) bytes p = fault_of _ (truncated (length bytes))
bytes_tracks (suc n) (suc count) bytes p =
    chained (bytes_chunk bytes p)
    (λ c. chosen _ _ _
    (chained (bytes_events (length (take c.end bytes)) (take c.end bytes) 0 None c.begin) (λ first. chained (bytes_tracks n count bytes c.end) (λ others. value)))
    (bytes_tracks n (suc count) bytes c.end))

bytes_size : (bytes : List ℕ) → IsOfBytes (header_size bytes)
unfolding header_size
bytes_size bytes =
    chosen (not (starts_with nat_eq bytes (codes "MThd"))) _ _ (fault_of NotSmf (λ h. cc))
    (chosen (nat_lt (length bytes) 8) _ _ (fault_of _ (truncated (length bytes)))
    (chosen (nat_lt (number 4 bytes 4) 6) _ _ (fault_of NotSmf (λ h. cc))
    (chosen (nat_lt (length bytes) (8 + number 4 bytes 4)) _ _ (fault_of _ (truncated (length bytes))) (value {x = number 4 bytes 4}))))

bytes_header : (bytes : List ℕ) → IsOfBytes (header bytes)
unfolding header
bytes_header bytes =
    chained (bytes_size bytes) (λ size. chosen _ _ _ (fault_of _ (format _)) (chosen _ _ _ (fault_of Smpte (λ h. cc)) (chosen _ _ _ (fault_of ZeroDivision (λ h. cc)) value)))

bytes_smf : (bytes : List ℕ) → IsOfBytes (smf bytes)
unfolding smf
bytes_smf bytes = chained (bytes_header bytes) (λ head. chained (bytes_tracks (length bytes) head.tracks bytes head.end) (λ played. value))

pub never_memory : (bytes : List ℕ) → smf bytes ≢ Err Memory
never_memory bytes = (bytes_smf bytes).never
