-- How much of a text a sink took, how much of it waits, and the count of the bytes.
use Rattle.std.specs.Prelude.{◌≡◌, ℕ, ◌+◌, ◌-◌, ◌^◌, ◌<◌, ◌≤◌, min, List, [], ◌++◌, length, take, MatchResult, Option, Result}
use Rattle.std.specs.Io.KnownBytes.{Appends}
use Rattle.rhythm_ports.specs.declared.sink.Partial.{Partial}
use Rattle.edit_script.specs.Gathered.{Gathered}
use Rattle.edit_script.specs.declared.gathered.TheConstants.{MOST_GATHERED}

-- a count of bytes, which stands still at its last value
abbrev pub counted : ℕ → ℕ → ℕ
counted before n = before + min n (2 ^ 64 - 1 - before)

-- there is room for bytes beside those that wait, or there is not
abbrev pub HasRoom : Gathered → List ℕ → Type 0
HasRoom held bytes = length held.bytes + length bytes ≤ MOST_GATHERED

abbrev pub LacksRoom : Gathered → List ℕ → Type 0
LacksRoom held bytes = MOST_GATHERED < length held.bytes + length bytes

-- bytes wait after those that did
abbrev pub joined : Gathered → List ℕ → Gathered
joined held bytes = record held { bytes = held.bytes ++ bytes }

-- The text was written: of the bytes that waited and the text, the sink took a first part, and the others wait. It is asked to take
-- bytes only where they would be too many to wait.
pub record Sent (old new : Option (List ℕ)) (before after : Gathered) (text : List ℕ) : Type 0 where
  pub handed : List ℕ
  pub taken : Appends old new handed
  pub parts : before.bytes ++ text ≡ handed ++ after.bytes
  pub count : after.sent ≡ counted before.sent (length handed)
  pub waits : HasRoom before text → handed ≡ []

-- the sink took a first part of the bytes that waited and the text, and not all of them, since they were too many to wait
pub record SentPart (old new : Option (List ℕ)) (before : Gathered) (sent : ℕ) (text : List ℕ) : Type 0 where
  pub handed : List ℕ
  pub lost : List ℕ
  pub taken : Appends old new handed
  pub parts : before.bytes ++ text ≡ handed ++ lost
  pub some : 0 < length lost
  pub count : sent ≡ counted before.sent (length handed)
  pub many : LacksRoom before text

-- the text was written to a sink that tells what it took, or the sink failed
abbrev pub Writes : {K T : Type 0} → (K → Option (List ℕ)) → K → K → Gathered → Gathered → List ℕ → Result T Partial → Type 0
Writes taken old new before after text result =
    MatchResult result (λ _. Sent (taken old) (taken new) before after text) (λ e. SentPart (taken old) (taken new) before e.sent text)

-- after so many bytes the sink took a first part of the text, and not all of it
abbrev pub TakesPartAfter : Option (List ℕ) → Option (List ℕ) → ℕ → ℕ → List ℕ → Type 0
TakesPartAfter old new before sent text = (n : ℕ) × (n < length text) × (sent ≡ counted before n) × Appends old new (take n text)

-- the sink took the bytes, and this is their count with those before them, or it took a part of them
abbrev pub Sends : {K : Type 0} → (K → Option (List ℕ)) → K → K → ℕ → List ℕ → Result ℕ Partial → Type 0
Sends taken old new sent bytes result =
    MatchResult result (λ count. Appends (taken old) (taken new) bytes × (count ≡ counted sent (length bytes)))
    (λ e. TakesPartAfter (taken old) (taken new) sent e.sent bytes)

-- the sink took all bytes that waited, and none waits, or it took a part of them
abbrev pub HandsOn : {K T : Type 0} → (K → Option (List ℕ)) → K → K → Gathered → Gathered → Result T Partial → Type 0
HandsOn taken old new before after result =
    MatchResult result (λ _. Appends (taken old) (taken new) before.bytes × (after ≡ record { bytes = []; sent = counted before.sent (length before.bytes) }))
    (λ e. TakesPartAfter (taken old) (taken new) before.sent e.sent before.bytes)

-- the sink took a first part of the text, and not all of it, and this is its length, up to the last value of a `usize`
abbrev pub TakesPart : Option (List ℕ) → Option (List ℕ) → ℕ → List ℕ → Type 0
TakesPart old new sent text = TakesPartAfter old new 0 sent text
