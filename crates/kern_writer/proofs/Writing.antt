-- Records that are written after a text, one after another.
use Rattle.rhythm_base.specs.declared.limits.TheConstants.{LONGEST_SCORE}
use Rattle.std.proofs.Common.{◌≡◌, ℕ, suc, ◌+◌, ◌-◌, ◌<◌, ◌≤◌, List, [], ◌∷◌, ◌++◌, Result, Ok, Err, IsErr, IsErrAnd, MatchResult, length, take, sym, ap, ◌∙◌, subst, arith, length-append}
use Rattle.std.specs.List.{join_with_byte}
use Rattle.std.proofs.lemmas.Bool.{false≢true}
use Rattle.std.proofs.lemmas.List.{append-nil, append_assoc, take-append-le}
use Rattle.std.proofs.lemmas.List.Concat.{flat_map-append}
use Rattle.kern_writer.specs.declared.fault.ScoreFault.{ScoreFault}
use Rattle.kern_writer.specs.declared.fault.ScoreFault.TheVariants.{TooLong, Memory}
use Rattle.kern_writer.specs.declared.kern_text.KernText.{KernText}
use Rattle.kern_writer.specs.Records.{AreRecords, Record}
use Rattle.derivation.specs.Score.{Score}
use Rattle.kern_writer.specs.Text.{IsTooLong, record_text, records_text}
use Rattle.kern_writer.specs.Writing.{EndsPast, HasEnded, HasWritten, IfTooLong, IsBounded, IsPastLongest, WritesRecords}

pub nothing_written : (t : KernText) → IsBounded t → HasWritten t t []
nothing_written t bounded = record { bytes = sym (append-nil t.bytes.items); lines = omega arith; bounded = bounded }

pub written_after : (a b c : KernText) (rs ss : List Record) → HasWritten a b rs → HasWritten b c ss → HasWritten a c (rs ++ ss)
written_after a b c rs ss first second = record {
  bytes = second.bytes ∙ ap (λ t. t ++ records_text ss) first.bytes ∙ append_assoc a.bytes.items (records_text rs) (records_text ss) ∙ ap (λ t. a.bytes.items ++ t) (sym (flat_map-append record_text rs ss));
  lines = omega (arith, first.lines, second.lines, length-append rs ss);
  bounded = second.bounded;
}

-- what ends past the limit does so whatever follows it
pub past_before : (a : KernText) (rs ss : List Record) (line : ℕ) → EndsPast a rs line → EndsPast a (rs ++ ss) line
past_before a rs ss line h =
    let one = take-append-le h.count rs ss (omega (arith, h.there)) in
    let two = take-append-le (suc h.count) rs ss h.there in
    record {
      count = h.count;
      number = h.number;
      there = omega (arith, h.there, length-append rs ss);
      short = subst (λ t. length (a.bytes.items ++ records_text t) ≤ LONGEST_SCORE) (sym one) h.short;
      past = subst (λ t. LONGEST_SCORE < length (a.bytes.items ++ records_text t)) (sym two) h.past;
    }

take_after : (rs ss : List Record) (n : ℕ) → take (length rs + n) (rs ++ ss) ≡ rs ++ take n ss
take_after [] ss n = ap (λ k. take k ss) (omega arith)
take_after (r ∷ rs) ss n = let e : length (r ∷ rs) + n ≡ suc (length rs + n) = omega arith in ap (λ k. take k (r ∷ rs ++ ss)) e ∙ ap (λ t. r ∷ t) (take_after rs ss n)

text_after : (a b : KernText) (rs ss : List Record) (n : ℕ) → HasWritten a b rs → b.bytes.items ++ records_text (take n ss) ≡ a.bytes.items ++ records_text (take (length rs + n) (rs ++ ss))
text_after a b rs ss n h =
    ap (λ t. t ++ records_text (take n ss)) h.bytes ∙ append_assoc a.bytes.items (records_text rs) (records_text (take n ss))
    ∙ ap (λ t. a.bytes.items ++ t) (sym (flat_map-append record_text rs (take n ss)) ∙ ap records_text (sym (take_after rs ss n)))

pub past_after : (a b : KernText) (rs ss : List Record) (line : ℕ) → HasWritten a b rs → EndsPast b ss line → EndsPast a (rs ++ ss) line
past_after a b rs ss line first h =
    let same : length rs + suc h.count ≡ suc (length rs + h.count) = omega arith in
    let two : b.bytes.items ++ records_text (take (suc h.count) ss) ≡ a.bytes.items ++ records_text (take (suc (length rs + h.count)) (rs ++ ss)) =
    text_after a b rs ss (suc h.count) first ∙ ap (λ k. a.bytes.items ++ records_text (take k (rs ++ ss))) same in
    record {
      count = length rs + h.count;
      number = omega (arith, h.number, first.lines);
      there = omega (arith, h.there, length-append rs ss);
      short = subst (λ t. length t ≤ LONGEST_SCORE) (text_after a b rs ss h.count first) h.short;
      past = subst (λ t. LONGEST_SCORE < length t) two h.past;
    }

if_too_long : (e : ScoreFault) (P Q : ℕ → Type 0) → ((line : ℕ) → P line → Q line) → IfTooLong e P → IfTooLong e Q
if_too_long (TooLong line) P Q f h = f line h
if_too_long Memory P Q f h = h

pub writes_after : {X : Type 0} (a b c : KernText) (rs ss : List Record) (result : Result X ScoreFault) → HasWritten a b rs → WritesRecords ss b result c → WritesRecords (rs ++ ss) a result c
writes_after a b c rs ss (Ok x) first h = written_after a b c rs ss first h
writes_after a b c rs ss (Err e) first h = if_too_long e (EndsPast b ss) (EndsPast a (rs ++ ss)) (λ line. past_after a b rs ss line first) h

-- a record of one
one_text : (row : Record) → records_text (row ∷ []) ≡ join_with_byte 9 row ++ 10 ∷ []
one_text row = append-nil (join_with_byte 9 row ++ 10 ∷ [])

pub record_written :
    {X : Type 0} (a b c : KernText) (row : Record) (result : Result X ScoreFault)
    → IsBounded a → b.lines ≡ a.lines → b.bytes.items ≡ a.bytes.items ++ join_with_byte 9 row
    → MatchResult result (λ _. HasEnded b c) (λ e. IfTooLong e (IsPastLongest b)) → WritesRecords (row ∷ []) a result c
record_written {X} a b c row result bounded lines bytes h = go result h
  where
    longer : a.bytes.items ++ records_text (row ∷ []) ≡ b.bytes.items ++ 10 ∷ []
    longer = ap (λ t. a.bytes.items ++ t) (one_text row) ∙ sym (append_assoc a.bytes.items (join_with_byte 9 row) (10 ∷ [])) ∙ ap (λ t. t ++ 10 ∷ []) (sym bytes)

    past : (line : ℕ) → IsPastLongest b line → EndsPast a (row ∷ []) line
    past line k = record {
      count = 0;
      number = omega (arith, k.number, lines);
      there = omega arith;
      short = subst (λ t. length t ≤ LONGEST_SCORE) (sym (append-nil a.bytes.items)) bounded.short;
      past = subst (λ t. LONGEST_SCORE < length t) (sym longer) (omega (arith, k.past, length-append b.bytes.items (10 ∷ [])));
    }

    go : (r : Result X ScoreFault) → MatchResult r (λ _. HasEnded b c) (λ e. IfTooLong e (IsPastLongest b)) → WritesRecords (row ∷ []) a r c
    go (Ok x) k = record {
      bytes = k.bytes ∙ sym longer;
      lines = omega (arith, k.lines, lines);
      bounded = record { lines = omega (arith, k.lines, lines, bounded.lines, ap length bytes, ap length k.bytes, length-append b.bytes.items (10 ∷ []), length-append a.bytes.items (join_with_byte 9 row)); short = k.short };
    }
    go (Err e) k = if_too_long e (IsPastLongest b) (EndsPast a (row ∷ [])) past k

-- ---- records of which some are done

-- what ends past the limit among the next records does so among all
pub past_among : (a b : KernText) (done next rest all : List Record) (e : ScoreFault) → HasWritten a b done → done ++ (next ++ rest) ≡ all → IfTooLong e (EndsPast b next) → IfTooLong e (EndsPast a all)
past_among a b done next rest all e first same h =
    subst (λ rs. IfTooLong e (EndsPast a rs)) same
    (if_too_long e (EndsPast b next) (EndsPast a (done ++ (next ++ rest))) (λ line k. past_after a b done (next ++ rest) line first (past_before b next rest line k)) h)

-- a fault that a call handed on
pub fault_handed : {X : Type 0} (a b : KernText) (rs : List Record) (result : Result X ScoreFault) (e : ScoreFault) → IsErr result × IsErrAnd result (λ y. y ≡ e) → IfTooLong e (EndsPast a rs) → WritesRecords rs a result b
fault_handed a b rs (Ok x) e is h = absurd (false≢true is.0)
fault_handed a b rs (Err y) e is h = subst (λ z. IfTooLong z (EndsPast a rs)) (sym is.1) h

-- the same where the call was for other work, and so its fault is want of memory
pub memory_handed : {X : Type 0} (a b : KernText) (rs : List Record) (result : Result X ScoreFault) → IsErr result × IsErrAnd result (λ y. y ≡ Memory) → WritesRecords rs a result b
memory_handed a b rs result is = fault_handed a b rs result Memory is tt

pub fault_is : {X : Type 0} (P : ℕ → Type 0) (result : Result X ScoreFault) (e : ScoreFault) (line : ℕ) → IsErr result × IsErrAnd result (λ y. y ≡ e) → result ≡ Err (TooLong line) → IfTooLong e P → P line
fault_is P (Ok x) e line is same h = absurd (false≢true is.0)
fault_is P (Err y) e line is same h = let fault : e ≡ TooLong line = sym is.1 ∙ (cc) in subst (λ z. IfTooLong z P) fault h

-- ---- a whole text

pub too_long : (s : Score) (t : KernText) (records : List Record) (line : ℕ) → t.bytes.items ≡ [] → t.lines ≡ 0 → AreRecords s records → EndsPast t records line → IsTooLong s line
too_long s t records line empty none are h =
    let count : h.count ≡ line - 1 = omega (arith, h.number, none) in
    let next : suc h.count ≡ line = omega (arith, h.number, none) in
    record {
      records = records;
      are_records = are;
      some = omega (arith, next);
      there = omega (arith, next, h.there);
      before = subst (λ k. length (records_text (take k records)) ≤ LONGEST_SCORE) count (subst (λ b. length (b ++ records_text (take h.count records)) ≤ LONGEST_SCORE) empty h.short);
      past = subst (λ k. LONGEST_SCORE < length (records_text (take k records))) next (subst (λ b. LONGEST_SCORE < length (b ++ records_text (take (suc h.count) records))) empty h.past);
    }
