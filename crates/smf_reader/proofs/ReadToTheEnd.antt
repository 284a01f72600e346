-- A track has more bytes than events, so that its reading ends by an end of track, by the chunk's end or by a fault alone.
use Rattle.std.proofs.Common.{◌≡◌, ◌+◌, ◌<◌, ◌≤◌, ℕ, zero, suc, Bool, true, false, cond, leb, List, length, take, drop, Option, Result, Ok, Err, refl, ap, subst, arith}
use Rattle.std.specs.Prelude.{⊤, if◌then◌else◌}
use Rattle.smf_reader.specs.declared.fault.SmfFault.{SmfFault}
use Rattle.smf_reader.specs.declared.fault.SmfFault.TheVariants.{BadMeta, NoStatus}
use Rattle.smf_reader.specs.declared.meaning.Meaning.{Meaning}
use Rattle.smf_reader.specs.declared.meaning.Meaning.TheVariants as meanings
use Rattle.smf_reader.specs.declared.event.Step.{Step}
use Rattle.smf_reader.specs.Outcome.{◌>>=◌, or_smf_fault}
use Rattle.smf_reader.specs.Played.{Track}
use Rattle.smf_reader.specs.Bytes.{byte, data_byte, content}
use Rattle.smf_reader.specs.Quantity.{last_place, endless, seven_bits, quantity}
use Rattle.smf_reader.specs.Meta.{meta_meaning, meta_event}
use Rattle.smf_reader.specs.Message.{running_after, note_meaning, status, channel_message, system_exclusive, message}
use Rattle.smf_reader.specs.Event.{tick_after, event}
use Rattle.smf_reader.specs.Track.{followed, silence, events}
use Rattle.smf_reader.specs.Outcomes.{IsReadToItsEnd}
use Rattle.smf_reader.proofs.TrackSteps.{at_end}

-- what is read has this property
pub record Finds {A : Type 0} (P : A → Type 0) (r : Result A SmfFault) : Type 0 where
  pub at : (x : A) → r ≡ Ok x → P x

same_value : {A : Type 0} (x y : A) → ◌≡◌ {A = Result A SmfFault} (Ok x) (Ok y) → x ≡ y
same_value x y h = cc

pub value : {A : Type 0} {P : A → Type 0} {x : A} → P x → Finds P (Ok x)
value {A} {P} {x} h = record { at = λ y e. subst P (same_value x y e) h }

pub no_value : {A : Type 0} {P : A → Type 0} {fault : SmfFault} → Finds P (Err fault)
no_value = record { at = λ x h. absurd cc }

pub any : {A : Type 0} (r : Result A SmfFault) → Finds (λ _. ⊤) r
any r = record { at = λ x h. tt }

pub chained : {A B : Type 0} {P : A → Type 0} {Q : B → Type 0} {r : Result A SmfFault} {next : A → Result B SmfFault} → Finds P r → ((x : A) → P x → Finds Q (next x)) → Finds Q (r >>= next)
chained {A} {B} {P} {Q} {r} {next} first others = go r first where
  go : (r : Result A SmfFault) → Finds P r → Finds Q (r >>= next)
  go (Ok x) h = others x (h.at x refl)
  go (Err fault) h = no_value

pub chosen : {A : Type 0} {P : A → Type 0} (b : Bool) (x y : Result A SmfFault) → Finds P x → Finds P y → Finds P (if b then x else y)
chosen true x y first second = first
chosen false x y first second = second

later_quantity : (bytes : List ℕ) (p : ℕ) → Finds (λ q. p < q.1) (quantity bytes p)
unfolding quantity
later_quantity bytes p = chained (any (or_smf_fault (last_place (drop p bytes)) (endless bytes p))) (λ last _. value {x = (seven_bits (take (last + 1) (drop p bytes)), p + last + 1)} (omega arith))

later_meta : (bytes : List ℕ) (p : ℕ) → Finds (λ m. p < m.1) (meta_event bytes p)
unfolding meta_event
later_meta bytes p =
    chained (any (byte bytes (p + 1)))
    (λ type _. chained (later_quantity bytes (p + 2))
    (λ size more. chained (any (content bytes size.1 size.0))
    (λ said _. chained (any (or_smf_fault (meta_meaning type said) (BadMeta p))) (λ meaning _. value {x = (meaning, size.1 + size.0)} (omega arith)))))

later_status : (bytes : List ℕ) (running : Option ℕ) (p : ℕ) → Finds (λ s. p ≤ s.1) (status bytes running p)
unfolding status
later_status bytes running p =
    chained (any (byte bytes p))
    (λ b _. chosen _ _ _ (chained (any (or_smf_fault running (NoStatus p))) (λ last _. value {x = (last, p)} (omega arith))) (value {x = (b, p + 1)} (omega arith)))

later_channel : (bytes : List ℕ) (s p : ℕ) → Finds (λ m. p < m.1) (channel_message bytes s p)
unfolding channel_message
later_channel bytes s p =
    chained (any (data_byte bytes p))
    (λ first _. chosen _ _ _ (value {x = (meanings.Skipped, p + 1)} (omega arith)) (chained (any (data_byte bytes (p + 1))) (λ second _. value {x = (note_meaning s first second, p + 2)} (omega arith))))

later_exclusive : (bytes : List ℕ) (p : ℕ) → Finds (λ m. p < m.1) (system_exclusive bytes p)
unfolding system_exclusive
later_exclusive bytes p =
    chained (later_quantity bytes p)
    (λ size more. chained (any (content bytes size.1 size.0)) (λ said _. value {x = (meanings.Skipped, size.1 + size.0)} (omega arith)))

weaker : {r : Result (Meaning × ℕ) SmfFault} (p further : ℕ) → p ≤ further → Finds (λ m. further < m.1) r → Finds (λ m. p < m.1) r
weaker p further le h = record { at = λ m e. let more = h.at m e in omega arith }

later_message : (bytes : List ℕ) (p s further : ℕ) → p ≤ further → Finds (λ m. p < m.1) (message bytes p s further)
unfolding message
later_message bytes p s further le =
    chosen _ _ _ (weaker p further le (later_channel bytes s further))
    (chosen _ _ _ (later_meta bytes p) (chosen _ _ _ (weaker p further le (later_exclusive bytes further)) no_value))

later_tick : (bytes : List ℕ) (tick p : ℕ) → Finds (λ d. p < d.1) (tick_after bytes tick p)
unfolding tick_after
later_tick bytes tick p =
    chained (later_quantity bytes p) (λ delta more. chosen _ _ _ (value more) no_value)

later_event : (bytes : List ℕ) (tick : ℕ) (running : Option ℕ) (p : ℕ) → Finds (λ step. p < step.next) (event bytes tick running p)
unfolding event
later_event bytes tick running p =
    chained (later_tick bytes tick p)
    (λ at after. chained (later_status bytes running at.1)
    (λ head here. chained (later_message bytes at.1 head.0 head.1 here)
    (λ said more. value {x = record { tick = at.0; meaning = said.0; running = running_after head.0 running; next = said.1 }} (omega arith))))

-- what is read after an event is the same where what is read from each later place is
same_after : (p tick : ℕ) (b : Bool) (r : Result Step SmfFault) (one two : Step → Result Track SmfFault) → Finds (λ step. p < step.next) r → ((step : Step) → p < step.next → one step ≡ two step)
    → cond b (Ok (silence tick)) (r >>= λ step. followed step.meaning step.tick (one step)) ≡ cond b (Ok (silence tick)) (r >>= λ step. followed step.meaning step.tick (two step))
same_after p tick true r one two later alike = refl
same_after p tick false (Err fault) one two later alike = refl
same_after p tick false (Ok step) one two later alike = ap (followed step.meaning step.tick) (alike step (later.at step refl))

-- any two bounds that are enough do the same
enough : (n m : ℕ) (bytes : List ℕ) (tick : ℕ) (running : Option ℕ) (p : ℕ) → length bytes ≤ p + n → length bytes ≤ p + m → events n bytes tick running p ≡ events m bytes tick running p
unfolding events
enough zero zero bytes tick running p le1 le2 = refl
enough zero (suc m) bytes tick running p le1 le2 = let e : leb (length bytes) p ≡ true = grind arith in rw e refl
enough (suc n) zero bytes tick running p le1 le2 = let e : leb (length bytes) p ≡ true = grind arith in rw e refl
enough (suc n) (suc m) bytes tick running p le1 le2 =
    same_after p tick (leb (length bytes) p) (event bytes tick running p) (λ step. events n bytes step.tick step.running step.next) (λ step. events m bytes step.tick step.running step.next) (later_event bytes tick running p)
    (λ step later. enough n m bytes step.tick step.running step.next (omega arith) (omega arith))

on : (n : ℕ) (bytes : List ℕ) (tick : ℕ) (running : Option ℕ) (p : ℕ) → p < length bytes → length bytes ≤ n
    → events n bytes tick running p ≡ (event bytes tick running p >>= λ step. followed step.meaning step.tick (events n bytes step.tick step.running step.next))
unfolding events
on zero bytes tick running p lt le = absurd (omega arith)
on (suc n) bytes tick running p lt le =
    let e : leb (length bytes) p ≡ false = grind arith in
    rw e
    (same_after p tick false (event bytes tick running p) (λ step. events n bytes step.tick step.running step.next) (λ step. events (suc n) bytes step.tick step.running step.next) (later_event bytes tick running p)
    (λ step later. enough n (suc n) bytes step.tick step.running step.next (omega arith) (omega arith)))

pub is_read_to_its_end : (bytes : List ℕ) → IsReadToItsEnd bytes
is_read_to_its_end bytes = record {
  over = at_end (length bytes) bytes;
  on = λ tick running p lt. on (length bytes) bytes tick running p lt (omega arith);
}
