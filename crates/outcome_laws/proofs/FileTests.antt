-- What the tests of files say: what is read of a MIDI file is in its ranges, and what stands under a name is bytes.
use Rattle.std.proofs.Common.{◌≡◌, ◌∙◌, ◌+◌, ◌<◌, ◌≤◌, ℕ, Bool, true, false, List, [], ◌∷◌, length, ap, refl, Some, Result, Ok, Err}
use Rattle.std.specs.Prelude.{if◌then◌else◌, nat_le, unwrap_or}
use Rattle.std.proofs.lemmas.Bool.{leb-true}
use Rattle.std.proofs.lemmas.List.Elements.{All-nil}
use Rattle.rhythm_app.specs.Inputs.{file_content}
use Rattle.rhythm_app.specs.Outcome.{IsRead, limit_of, midi_tests, passed, sized, stopped}
use Rattle.rhythm_app.specs.declared.stop.Kind.{Kind}
use Rattle.rhythm_app.specs.declared.stop.Kind.TheVariants as kind
use Rattle.rhythm_app.specs.declared.stop.Stop.{Stop}
use Rattle.rhythm_app.specs.declared.stop.Stop.TheVariants as stop
use Rattle.rhythm_base.proofs.OrderedLists.{all_head, all_tail}
use Rattle.rhythm_ports.specs.Files.{File, file_of, has_name}
use Rattle.smf_reader.proofs.ReadInRange.{in_range}
use Rattle.smf_reader.specs.Played.{Smf}
use Rattle.smf_reader.specs.Ranges.{IsPlayedFile}
use Rattle.smf_reader.specs.SmfFile.{smf}
use Rattle.outcome_laws.specs.Laws.{AreBytes, HoldBytes}

-- ---- a test that passes

record IsPassed {T E : Type 0} (k : Kind) (test : List ℕ → Result T E) (bytes : List ℕ) (x : T) : Type 0 where
  short : length bytes ≤ limit_of k
  is : test bytes ≡ Ok x

sized_passed : {T E : Type 0} (k : Kind) (as_stop : E → Stop) (test : List ℕ → Result T E) (bytes : List ℕ) (x : T)
    → passed (sized k bytes) (λ b. stopped as_stop (test b)) ≡ Ok x → IsPassed k test bytes x
sized_passed {T} {E} k as_stop test bytes x = go (nat_le (length bytes) (limit_of k)) refl
  where
    said : (r : Result T E) → test bytes ≡ r → ◌≡◌ {A = Result T Stop} (stopped as_stop r) (Ok x) → test bytes ≡ Ok x
    said (Ok y) is e = let same : y ≡ x = cc in is ∙ ap (λ z. Ok z) same
    said (Err fault) is e = absurd (cc)

    go : (b : Bool) → nat_le (length bytes) (limit_of k) ≡ b
        → ◌≡◌ {A = Result T Stop} (passed (if b then Ok bytes else Err (stop.FileTooLong k (limit_of k + 1))) (λ b. stopped as_stop (test b))) (Ok x) → IsPassed k test bytes x
    go true short e = record { short = leb-true (length bytes) (limit_of k) short; is = said (test bytes) refl e }
    go false short e = absurd (cc)

pub read_in_range : (bytes : List ℕ) → AreBytes bytes → (f : Smf) → IsRead bytes (Ok f) → IsPlayedFile f
unfolding midi_tests
read_in_range bytes are f e = in_range bytes are f (sized_passed kind.Midi stop.Smf smf bytes f e).is

-- what stands under a name is bytes
pub content_bytes : (files : List File) (name : List ℕ) → HoldBytes files → AreBytes (file_content files name)
content_bytes [] name all = All-nil (λ b. b < 256)
content_bytes (f ∷ files) name all =
    go (has_name name f) (content_bytes files name (all_tail (λ (file : File). AreBytes file.bytes) f files all))
  where
    go : (b : Bool) → AreBytes (file_content files name) → AreBytes (unwrap_or (if b then Some f.bytes else file_of files name) [])
    go true others = all_head (λ (file : File). AreBytes file.bytes) f files all
    go false others = others
