-- Messages: channel messages (MIDI 1.0, "Channel Voice Messages"), system exclusive events (Standard MIDI Files 1.0, "MTrk
-- event") and meta events. A track takes no other message.
use Rattle.std.specs.Prelude.{ℕ, ◌+◌, ◌/◌, ◌%◌, ◌==◌, ◌&&◌, ◌||◌, nat_lt, if◌then◌else◌, List, Option, Some, Result, Ok, Err}
use Rattle.rhythm_base.specs.declared.event.What.TheVariants.{On, Off}
use Rattle.smf_reader.specs.declared.fault.SmfFault.{SmfFault}
use Rattle.smf_reader.specs.declared.fault.SmfFault.TheVariants.{NoStatus, BadStatus}
use Rattle.smf_reader.specs.declared.meaning.Meaning.{Meaning}
use Rattle.smf_reader.specs.declared.meaning.Meaning.TheVariants.{Event, Skipped}
use Rattle.smf_reader.specs.Outcome.{◌>>=◌, or_smf_fault}
use Rattle.smf_reader.specs.Bytes.{byte, data_byte, content}
use Rattle.smf_reader.specs.Quantity.{quantity}
use Rattle.smf_reader.specs.Meta.{meta_event}

-- the status of the message at the place p, and the place after it. A data byte stands there where the last channel
-- status of the track is left out ("running status"): then nothing of the message is read yet
unfoldable pub status : List ℕ → Option ℕ → ℕ → Result (ℕ × ℕ) SmfFault
status bytes running p = do
  b ← byte bytes p
  if nat_lt b 128 then (do
    last ← or_smf_fault running (NoStatus p)
    Ok (last, p)) else Ok (b, p + 1)

-- the last channel status after a message of this status: other messages leave it as it was
abbrev pub running_after : ℕ → Option ℕ → Option ℕ
running_after status running = if nat_lt status 0xf0 then Some status else running

-- a note-on of velocity 0 is a note-off; messages other than note-ons and note-offs are skipped
abbrev pub note_meaning : ℕ → ℕ → ℕ → Meaning
note_meaning status key velocity =
    if (status / 16 == 9) && nat_lt 0 velocity then Event (On (status % 16) key)
    else (if (status / 16 == 9) || (status / 16 == 8) then Event (Off (status % 16) key)
    else Skipped)

-- the data of a channel message: one byte for a program change and a channel pressure, else two
unfoldable pub channel_message : List ℕ → ℕ → ℕ → Result (Meaning × ℕ) SmfFault
channel_message bytes status p = do
  first ← data_byte bytes p
  if (status / 16 == 0xc) || (status / 16 == 0xd) then Ok (Skipped, p + 1) else (do
    second ← data_byte bytes (p + 1)
    Ok (note_meaning status first second, p + 2))

-- the bytes of a system exclusive event after its f0 or f7: their number and they, which are skipped
unfoldable pub system_exclusive : List ℕ → ℕ → Result (Meaning × ℕ) SmfFault
system_exclusive bytes p = do
  size ← quantity bytes p
  said ← content bytes size.1 size.0
  Ok (Skipped, size.1 + size.0)

-- what the message at the place p says, of this status with the place `after` after it; and the place after the message
unfoldable pub message : List ℕ → ℕ → ℕ → ℕ → Result (Meaning × ℕ) SmfFault
message bytes p status after =
    if nat_lt status 0xf0 then channel_message bytes status after
    else (if status == 0xff then meta_event bytes p
    else (if (status == 0xf0) || (status == 0xf7) then system_exclusive bytes after
    else Err (BadStatus p)))
