-- The bytes of a script decide how its answering ends.
use Rattle.std.proofs.Common.{◌≡◌, ◌≢◌, ℕ, suc, ◌+◌, ◌-◌, ◌<◌, ◌≤◌, arith, inl, inr, List, [], ◌∷◌, ◌++◌, length, take, false, refl, sym, ap, ap₂, subst, ◌∙◌, append_assoc, length-append, Some, None, Result, Ok, Err}
use Rattle.std.specs.Prelude.{◌==◌, All, Option}
use Rattle.std.specs.Io.KnownBytes.{Appends, Consumes, IsAtEnd}
use Rattle.std.proofs.Math.Seq.{get_or-append_seam, take-append-add}
use Rattle.std.proofs.lemmas.Bool.{cases_order}
use Rattle.std.proofs.lemmas.Bool.Decides.{nat_tests}
use Rattle.edit_script.specs.ScriptLines.{between_newlines, script_lines}
use Rattle.rhythm_base.specs.declared.limits.TheConstants.{LONGEST_SCRIPT, LONGEST_SCRIPT_LINE}
use Rattle.script_run.specs.Answers.{Quits}
use Rattle.script_run.specs.Desk.{Desk, IsSound}
use Rattle.script_run.specs.Editing.{Editing, begun_on}
use Rattle.script_run.specs.Bytes.{IsWithinLimits, begun_line, whole_lines}
use Rattle.script_run.specs.Laws.{EndsAmply, IsAmpleAnswer, IsByBytes}
use Rattle.script_run.specs.Machine.{IsOverLimit, IsOverLine, IsOverScript, IsQuit, IsReadOut}
use Rattle.script_run.specs.declared.script_stop.ScriptStop.{ScriptStop}
use Rattle.script_run.specs.declared.script_stop.ScriptStop.TheVariants as stop
use Rattle.script_run.proofs.Newlines.{goes_on, lines_split, newline_more, byte_more}
use Rattle.script_run.proofs.OneDesks.{AmpleRun, on_desks, one_desk_run}
use Rattle.script_run.proofs.Runs.{run_append, run_end}

-- ---- how the bytes end

-- where reading stops: at the end of the script, after a line that ends it, or before a byte that is one too many
data End : Type 0 where
  at_end : End
  at_quit : End
  over_script : End
  over_line : End

-- what stands after the bytes that are answered
abbrev StopsAt : End → List ℕ → List ℕ → Type 0
StopsAt at_end bytes rest = rest ≡ []
StopsAt at_quit bytes rest = (more : List ℕ) × (rest ≡ 10 ∷ more) × (length bytes < LONGEST_SCRIPT) × Quits (begun_line bytes)
StopsAt over_script bytes rest = (byte : ℕ) × (more : List ℕ) × (rest ≡ byte ∷ more) × IsOverScript bytes byte
StopsAt over_line bytes rest = (byte : ℕ) × (more : List ℕ) × (rest ≡ byte ∷ more) × IsOverLine bytes byte

-- bytes that may be answered further
record GoesFurther (bytes : List ℕ) : Type 0 where
  within : IsWithinLimits bytes
  unended : All (λ line. Quits line → ⊥) (whole_lines bytes)

all_in : {X : Type 0} (P : X → Type 0) (xs ys : List X) (x : X) → All P (xs ++ x ∷ ys) → P x
all_in P xs ys x all =
    let size = length-append xs (x ∷ ys) in
    subst P (get_or-append_seam xs x ys x) (all (length xs) x (omega (arith, size)))

take_more : {X : Type 0} (xs ys : List X) (x y : X) → take (length (xs ++ x ∷ (y ∷ ys)) - 1) (xs ++ x ∷ (y ∷ ys)) ≡ xs ++ x ∷ take (length ys) (y ∷ ys)
take_more xs ys x y =
    let size = length-append xs (x ∷ (y ∷ ys)) in
    let count : length (xs ++ x ∷ (y ∷ ys)) - 1 ≡ length xs + suc (length ys) = omega (arith, size) in
    ap (λ n. take n (xs ++ x ∷ (y ∷ ys))) count ∙ take-append-add xs (x ∷ (y ∷ ys)) (suc (length ys))

-- nothing is answered after a stop
blocked : (end : End) (bytes rest front : List ℕ) (byte : ℕ) (more : List ℕ) → StopsAt end bytes rest → rest ≡ byte ∷ more → GoesFurther (bytes ++ byte ∷ front) → ⊥
blocked at_end bytes rest front byte more none is further = let both : byte ∷ more ≡ [] = sym is ∙ none in absurd (cc)
blocked at_quit bytes rest front byte more (others, newline, room, quits) is further =
    let both : byte ∷ more ≡ 10 ∷ others = sym is ∙ newline in
    let same : byte ≡ 10 = cc in
    let lines = whole_lines bytes in
    let split = ap (λ b. between_newlines (bytes ++ b ∷ [])) same ∙ newline_more bytes lines (begun_line bytes) (lines_split bytes) in
    let next = goes_on (bytes ++ byte ∷ []) (lines ++ begun_line bytes ∷ []) [] front split in
    let all : between_newlines (bytes ++ byte ∷ front) ≡ lines ++ begun_line bytes ∷ (next.joined ∷ next.later) =
    ap between_newlines (sym (append_assoc bytes (byte ∷ []) front)) ∙ next.split ∙ append_assoc lines (begun_line bytes ∷ []) (next.joined ∷ next.later) in
    let whole : whole_lines (bytes ++ byte ∷ front) ≡ lines ++ begun_line bytes ∷ take (length next.later) (next.joined ∷ next.later) =
    ap (λ l. take (length l - 1) l) all ∙ take_more lines next.later (begun_line bytes) next.joined in
    all_in (λ line. Quits line → ⊥) lines (take (length next.later) (next.joined ∷ next.later)) (begun_line bytes)
    (subst (All (λ line. Quits line → ⊥)) whole further.unended) quits
blocked over_script bytes rest front byte more (other, others, is', over) is further =
    let within = further.within.script in let size = length-append bytes (byte ∷ front) in absurd (omega (arith, over, within, size))
blocked over_line bytes rest front byte more (other, others, is', (room, long, no_newline)) is further =
    let both : byte ∷ more ≡ other ∷ others = sym is ∙ is' in
    let same : byte ≡ other = cc in
    let lines = whole_lines bytes in
    let split = byte_more bytes lines (begun_line bytes) byte (is_other byte (λ e. no_newline (sym same ∙ e))) (lines_split bytes) in
    let next = goes_on (bytes ++ byte ∷ []) lines (begun_line bytes ++ byte ∷ []) front split in
    let all : between_newlines (bytes ++ byte ∷ front) ≡ lines ++ ((begun_line bytes ++ byte ∷ []) ++ next.joined) ∷ next.later =
    ap between_newlines (sym (append_assoc bytes (byte ∷ []) front)) ∙ next.split in
    let short = all_in (λ line. length line ≤ LONGEST_SCRIPT_LINE) lines next.later ((begun_line bytes ++ byte ∷ []) ++ next.joined)
    (subst (All (λ line. length line ≤ LONGEST_SCRIPT_LINE)) all further.within.lines) in
    let first = length-append (begun_line bytes) (byte ∷ []) in
    let size = length-append (begun_line bytes ++ byte ∷ []) next.joined in
    absurd (omega (arith, short, first, size, long))
  where
    is_other : (b : ℕ) → b ≢ 10 → (b == 10) ≡ false
    is_other b ne = grind (arith, nat_tests)

-- ---- two ends of one script

-- two cuts of one list
record ApartBy (b b' r : List ℕ) : Type 0 where
  byte : ℕ
  front : List ℕ
  more : List ℕ
  longer : b' ≡ b ++ byte ∷ front
  rest : r ≡ byte ∷ more

apart : (b r b' r' : List ℕ) → b ++ r ≡ b' ++ r' → length b < length b' → ApartBy b b' r
apart [] r [] r' e less = absurd (omega (arith, less))
apart [] r (x ∷ b') r' e less = record { byte = x; front = b'; more = b' ++ r'; longer = refl; rest = e }
apart (y ∷ b) r [] r' e less = absurd (omega (arith, less))
apart (y ∷ b) r (x ∷ b') r' e less =
    let first : y ≡ x = cc in
    let others : b ++ r ≡ b' ++ r' = cc in
    let next = apart b r b' r' others (omega (arith, less)) in
    record { byte = next.byte; front = next.front; more = next.more; longer = ap₂ ◌∷◌ (sym first) next.longer; rest = next.rest }

level : (b r b' r' : List ℕ) → b ++ r ≡ b' ++ r' → length b ≡ length b' → (b ≡ b') × (r ≡ r')
level [] r [] r' e same = (refl, e)
level [] r (x ∷ b') r' e same = absurd (omega (arith, same))
level (y ∷ b) r [] r' e same = absurd (omega (arith, same))
level (y ∷ b) r (x ∷ b') r' e same =
    let first : y ≡ x = cc in
    let others : b ++ r ≡ b' ++ r' = cc in
    let next = level b r b' r' others (omega (arith, same)) in
    (ap₂ ◌∷◌ first next.0, next.1)

-- after the same bytes there is one end
one_end : (end end' : End) (bytes rest : List ℕ) → StopsAt end bytes rest → StopsAt end' bytes rest → end ≡ end'
one_end at_end at_end bytes rest stops stops' = refl
one_end at_end at_quit bytes rest none (more, is, room, quits) = let both : [] ≡ 10 ∷ more = sym none ∙ is in absurd (cc)
one_end at_end over_script bytes rest none (byte, more, is, over) = let both : [] ≡ byte ∷ more = sym none ∙ is in absurd (cc)
one_end at_end over_line bytes rest none (byte, more, is, over) = let both : [] ≡ byte ∷ more = sym none ∙ is in absurd (cc)
one_end at_quit at_end bytes rest (more, is, room, quits) none = let both : [] ≡ 10 ∷ more = sym none ∙ is in absurd (cc)
one_end at_quit at_quit bytes rest stops stops' = refl
one_end at_quit over_script bytes rest (more, is, room, quits) (byte, others, is', over) = absurd (omega (arith, room, over))
one_end at_quit over_line bytes rest (more, is, room, quits) (byte, others, is', (room', long, other)) =
    let both : byte ∷ others ≡ 10 ∷ more = sym is' ∙ is in let same : byte ≡ 10 = cc in absurd (other same)
one_end over_script at_end bytes rest (byte, more, is, over) none = let both : [] ≡ byte ∷ more = sym none ∙ is in absurd (cc)
one_end over_script at_quit bytes rest (byte, others, is', over) (more, is, room, quits) = absurd (omega (arith, room, over))
one_end over_script over_script bytes rest stops stops' = refl
one_end over_script over_line bytes rest (byte, more, is, over) (byte', more', is', (room, long, other)) = absurd (omega (arith, room, over))
one_end over_line at_end bytes rest (byte, more, is, over) none = let both : [] ≡ byte ∷ more = sym none ∙ is in absurd (cc)
one_end over_line at_quit bytes rest (byte, others, is', (room', long, other)) (more, is, room, quits) =
    let both : byte ∷ others ≡ 10 ∷ more = sym is' ∙ is in let same : byte ≡ 10 = cc in absurd (other same)
one_end over_line over_script bytes rest (byte', more', is', (room, long, other)) (byte, more, is, over) = absurd (omega (arith, room, over))
one_end over_line over_line bytes rest stops stops' = refl

record EndsAt (script : List ℕ) (end : End) (bytes : List ℕ) : Type 0 where
  rest : List ℕ
  are : script ≡ bytes ++ rest
  stops : StopsAt end bytes rest
  further : GoesFurther bytes

shorter : (script : List ℕ) (end end' : End) (bytes bytes' : List ℕ) → EndsAt script end bytes → EndsAt script end' bytes' → length bytes < length bytes' → ⊥
shorter script end end' bytes bytes' at at' less =
    let cut = apart bytes at.rest bytes' at'.rest (sym at.are ∙ at'.are) less in
    blocked end bytes at.rest cut.front cut.byte cut.more at.stops cut.rest (subst GoesFurther cut.longer at'.further)

one_place : (script : List ℕ) (end end' : End) (bytes bytes' : List ℕ) → EndsAt script end bytes → EndsAt script end' bytes' → (end ≡ end') × (bytes ≡ bytes')
one_place script end end' bytes bytes' at at' =
    elim (cases_order (length bytes) (length bytes')) [
      | inl same ↦ equal same
      | inr more ↦ elim more [ inl less ↦ absurd (shorter script end end' bytes bytes' at at' less) | inr back ↦ absurd (shorter script end' end bytes' bytes at' at back) ]
    ]
  where
    equal : length bytes ≡ length bytes' → (end ≡ end') × (bytes ≡ bytes')
    equal same =
        let both = level bytes at.rest bytes' at'.rest (sym at.are ∙ at'.are) same in
        let here : StopsAt end' bytes at.rest =
        subst (λ (b : List ℕ). StopsAt end' b at.rest) (sym both.0) (subst (λ (r : List ℕ). StopsAt end' bytes' r) (sym both.1) at'.stops) in
        (one_end end end' bytes at.rest at.stops here, both.0)

-- ---- one output

-- the lines that are answered
abbrev lines_to : End → List ℕ → List (List ℕ)
lines_to at_end bytes = script_lines bytes
lines_to at_quit bytes = whole_lines bytes ++ begun_line bytes ∷ []
lines_to over_script bytes = whole_lines bytes
lines_to over_line bytes = whole_lines bytes

abbrev result_of : End → Result (Unit {0}) ScriptStop
result_of at_end = Ok tt
result_of at_quit = Ok tt
result_of over_script = Err (stop.TooLong (LONGEST_SCRIPT + 1))
result_of over_line = Err (stop.LineTooLong (LONGEST_SCRIPT_LINE + 1))

record IsDecided (desk : Desk) (script written : List ℕ) (result : Result (Unit {0}) ScriptStop) (out : Option (List ℕ)) (last : Desk) : Type 0 where
  end : End
  bytes : List ℕ
  at : EndsAt script end bytes
  replies : List ℕ
  run : AmpleRun desk (lines_to end bytes) replies last
  took : out ≡ Some (written ++ replies)
  is : result ≡ result_of end

pub consumed : (script bytes : List ℕ) (rest : Option (List ℕ)) → Consumes (Some script) rest bytes → (left : List ℕ) × (rest ≡ Some left) × (script ≡ bytes ++ left)
consumed script bytes None read = absurd read
consumed script bytes (Some left) read = (left, refl, read)

appended : (written replies : List ℕ) (out : Option (List ℕ)) → Appends (Some written) out replies → out ≡ Some (written ++ replies)
appended written replies None took = absurd took
appended written replies (Some all) took = ap (λ (l : List ℕ). Some l) took

module _ (desk : Desk) (script written : List ℕ) (rest out : Option (List ℕ)) (last : Editing) where
  read_out : IsReadOut IsAmpleAnswer Quits (begun_on desk) (Some script) rest (Some written) out last → IsDecided desk script written (Ok tt) out last.desk
  read_out r =
      let read = consumed script r.bytes rest r.read in
      record {
        end = at_end;
        bytes = r.bytes;
        at = record { rest = read.0; are = read.2; stops = subst IsAtEnd read.1 r.end; further = record { within = r.within; unended = r.unended } };
        replies = r.replies;
        run = on_desks (begun_on desk) last (script_lines r.bytes) r.replies r.answers;
        took = appended written r.replies out r.written;
        is = refl;
      }

  quit : IsQuit IsAmpleAnswer Quits (begun_on desk) (Some script) rest (Some written) out last → IsDecided desk script written (Ok tt) out last.desk
  quit q =
      let read = consumed script (q.bytes ++ 10 ∷ q.more) rest q.read in
      let all = run_append IsAmpleAnswer Quits (begun_on desk) q.state last (whole_lines q.bytes) (begun_line q.bytes ∷ []) q.before q.reply q.answered.unended q.answered.answers
      (run_end IsAmpleAnswer Quits q.state last (begun_line q.bytes) q.reply q.answer q.quits) in
      record {
        end = at_quit;
        bytes = q.bytes;
        at = record {
          rest = 10 ∷ (q.more ++ read.0);
          are = read.2 ∙ append_assoc q.bytes (10 ∷ q.more) read.0;
          stops = (q.more ++ read.0, refl, q.room, q.quits);
          further = record { within = q.answered.within; unended = q.answered.unended };
        };
        replies = q.before ++ q.reply;
        run = on_desks (begun_on desk) last (whole_lines q.bytes ++ begun_line q.bytes ∷ []) (q.before ++ q.reply) all;
        took = appended written (q.before ++ q.reply) out q.written;
        is = refl;
      }

  too_long : (read : ℕ) → read ≡ LONGEST_SCRIPT + 1 → IsOverLimit IsAmpleAnswer Quits (begun_on desk) (Some script) rest (Some written) out last IsOverScript
      → IsDecided desk script written (Err (stop.TooLong read)) out last.desk
  too_long read count o =
      let left = consumed script (o.bytes ++ o.byte ∷ o.more) rest o.read in
      record {
        end = over_script;
        bytes = o.bytes;
        at = record {
          rest = o.byte ∷ (o.more ++ left.0);
          are = left.2 ∙ append_assoc o.bytes (o.byte ∷ o.more) left.0;
          stops = (o.byte, o.more ++ left.0, refl, o.over);
          further = record { within = o.answered.within; unended = o.answered.unended };
        };
        replies = o.replies;
        run = on_desks (begun_on desk) last (whole_lines o.bytes) o.replies o.answered.answers;
        took = appended written o.replies out o.written;
        is = ap (λ (n : ℕ). Err (stop.TooLong n)) count;
      }

  line_too_long : (read : ℕ) → read ≡ LONGEST_SCRIPT_LINE + 1 → IsOverLimit IsAmpleAnswer Quits (begun_on desk) (Some script) rest (Some written) out last IsOverLine
      → IsDecided desk script written (Err (stop.LineTooLong read)) out last.desk
  line_too_long read count o =
      let left = consumed script (o.bytes ++ o.byte ∷ o.more) rest o.read in
      record {
        end = over_line;
        bytes = o.bytes;
        at = record {
          rest = o.byte ∷ (o.more ++ left.0);
          are = left.2 ∙ append_assoc o.bytes (o.byte ∷ o.more) left.0;
          stops = (o.byte, o.more ++ left.0, refl, o.over);
          further = record { within = o.answered.within; unended = o.answered.unended };
        };
        replies = o.replies;
        run = on_desks (begun_on desk) last (whole_lines o.bytes) o.replies o.answered.answers;
        took = appended written o.replies out o.written;
        is = ap (λ (n : ℕ). Err (stop.LineTooLong n)) count;
      }

  decided : (result : Result (Unit {0}) ScriptStop) → IsByBytes result → EndsAmply result desk (Some script) rest (Some written) out last
      → IsDecided desk script written result out last.desk
  decided (Ok done) by (inl r) = read_out r
  decided (Ok done) by (inr q) = quit q
  decided (Err stop.Read) by ends = absurd (by.0 refl)
  decided (Err (stop.TooLong read)) by (count, over) = too_long read count over
  decided (Err (stop.LineTooLong read)) by (count, over) = line_too_long read count over
  decided (Err stop.Write) by ends = absurd (by.1 refl)
  decided (Err stop.Memory) by ends = absurd (by.2 refl)

pub one_output : (desk : Desk) (script written : List ℕ) (end end' : Result (Unit {0}) ScriptStop) (rest rest' out out' : Option (List ℕ)) (last last' : Editing)
    → IsSound desk → IsByBytes end → IsByBytes end' → EndsAmply end desk (Some script) rest (Some written) out last
    → EndsAmply end' desk (Some script) rest' (Some written) out' last' → (end ≡ end') × (out ≡ out') × (last.desk ≡ last'.desk)
one_output desk script written end end' rest rest' out out' last last' sound by by' ends ends' =
    let d = decided desk script written rest out last end by ends in
    let d' = decided desk script written rest' out' last' end' by' ends' in
    let place = one_place script d.end d'.end d.bytes d'.bytes d.at d'.at in
    let other : AmpleRun desk (lines_to d.end d.bytes) d'.replies last'.desk =
    subst (λ (e : End). AmpleRun desk (lines_to e d.bytes) d'.replies last'.desk) (sym place.0)
    (subst (λ (b : List ℕ). AmpleRun desk (lines_to d'.end b) d'.replies last'.desk) (sym place.1) d'.run) in
    let one = one_desk_run desk last.desk last'.desk (lines_to d.end d.bytes) d.replies d'.replies sound d.run other in
    (d.is ∙ ap result_of place.0 ∙ sym d'.is, d.took ∙ ap (λ (l : List ℕ). Some (written ++ l)) one.0 ∙ sym d'.took, one.1)
