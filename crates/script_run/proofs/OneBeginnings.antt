-- However the answering of a script ends, what out took begins as the replies to all its lines do.
use Rattle.std.proofs.Common.{◌≡◌, ◌≢◌, ℕ, ◌+◌, ◌-◌, arith, ◌⊎◌, inl, inr, List, [], ◌∷◌, ◌++◌, length, take, drop, codes, refl, sym, ap, ap₂, subst, ◌∙◌, append_assoc, append-nil, length-append, take-append-drop, Some, Result, Ok, Err}
use Rattle.std.specs.Prelude.{Option}
use Rattle.std.specs.Io.KnownBytes.{IsAtEnd}
use Rattle.std.specs.Str.{bytes_eq}
use Rattle.std.proofs.Math.Seq.{take-append-add}
use Rattle.std.proofs.lemmas.Slice.Eq.{bytes_eq-Decides}
use Rattle.rhythm_base.specs.Lists.{last_of}
use Rattle.script_laws.specs.Script.{Run}
use Rattle.edit_script.specs.ScriptLines.{Are, Is, between_newlines, open_line, script_lines, script_words}
use Rattle.script_run.specs.Answers.{Quits}
use Rattle.script_run.specs.Desk.{Desk, IsSound}
use Rattle.script_run.specs.Editing.{Editing, begun_on}
use Rattle.script_run.specs.Bytes.{begun_line, whole_lines}
use Rattle.script_run.specs.Laws.{BeginsWith, EndsAmply, IsAmpleAnswer}
use Rattle.script_run.specs.Machine.{AreAnswered, EndsLine, IsCut, IsOverLimit, IsQuit, IsReadOut}
use Rattle.script_run.specs.declared.script_stop.ScriptStop.{ScriptStop}
use Rattle.script_run.specs.declared.script_stop.ScriptStop.TheVariants as stop
use Rattle.script_run.proofs.Hearings.{decided}
use Rattle.script_run.proofs.Newlines.{goes_on, lines_are, lines_split, newline_more}
use Rattle.script_run.proofs.OneDesks.{AmpleRun, on_desks, one_desk_run}
use Rattle.script_run.proofs.OneOutputs.{consumed}
use Rattle.script_run.proofs.Runs.{run_append, run_end, run_one}

-- ---- lists that begin alike

-- two beginnings of one list
either_longer : {X : Type 0} (a b c d : List X) → a ++ b ≡ c ++ d → ((more : List X) × (c ≡ a ++ more)) ⊎ ((more : List X) × (a ≡ c ++ more))
either_longer [] b c d e = inl (c, refl)
either_longer (x ∷ a) b [] d e = inr (x ∷ a, refl)
either_longer (x ∷ a) b (y ∷ c) d e =
    let first : x ≡ y = cc in
    let others : a ++ b ≡ c ++ d = cc in
    elim (either_longer a b c d others) [
      | inl longer ↦ inl (longer.0, ap₂ ◌∷◌ (sym first) longer.1)
      | inr longer ↦ inr (longer.0, ap₂ ◌∷◌ first longer.1)
    ]

-- a run over more lines begins as that over the first of them
run_front : {State : Type 0} (Steps : State → List ℕ → List ℕ → State → Type 0) (Ends : List ℕ → Type 0) (s last : State) (lines tail : List (List ℕ)) (replies : List ℕ)
    → Run Steps Ends s (lines ++ tail) replies last → (mid : State) × (front more : List ℕ) × Run Steps Ends s lines front mid × (replies ≡ front ++ more)
run_front Steps Ends s last [] tail replies run = (s, [], replies, (refl, refl), refl)
run_front Steps Ends s last (line ∷ lines) tail replies (reply, next, step, inl (ends, all, stays)) =
    (next, reply, [], (reply, next, step, inl (ends, refl, refl)), all ∙ sym (append-nil reply))
run_front Steps Ends s last (line ∷ lines) tail replies (reply, next, step, inr (goes, (others, run, all))) =
    let later = run_front Steps Ends next last lines tail others run in (
      later.0,
      reply ++ later.1,
      later.2,
      (reply, next, step, inr (goes, (later.1, later.3, refl))),
      all ∙ ap (λ l. reply ++ l) later.4 ∙ sym (append_assoc reply later.1 later.2),
    )

-- ---- the first lines of a script

lines_front : (script : List ℕ) (lines : List (List ℕ)) (next : List ℕ) (later : List (List ℕ)) → between_newlines script ≡ lines ++ next ∷ later
    → (tail : List (List ℕ)) × (script_lines script ≡ lines ++ tail)
lines_front script lines next later split =
    let size = length-append lines (next ∷ later) in
    let count : length (lines ++ next ∷ later) - 1 ≡ length lines + length later = omega (arith, size) in
    let end : List (List ℕ) = open_line (last_of (lines ++ next ∷ later)) in (
      take (length later) (next ∷ later) ++ end,
      ap (λ l. take (length l - 1) l ++ open_line (last_of l)) split
          ∙ ap (λ l. l ++ end) (ap (λ n. take n (lines ++ next ∷ later)) count ∙ take-append-add lines (next ∷ later) (length later))
          ∙ append_assoc lines (take (length later) (next ∷ later)) end,
    )

-- the lines that whole newlines end
whole_front : (script bytes rest : List ℕ) → script ≡ bytes ++ rest → (tail : List (List ℕ)) × (script_lines script ≡ whole_lines bytes ++ tail)
whole_front script bytes rest are =
    let next = goes_on bytes (whole_lines bytes) (begun_line bytes) rest (lines_split bytes) in
    lines_front script (whole_lines bytes) (begun_line bytes ++ next.joined) next.later (ap between_newlines are ∙ next.split)

abbrev next_lines : List ℕ → List (List ℕ)
next_lines bytes = whole_lines bytes ++ begun_line bytes ∷ []

-- those, and the line that a newline ends after them
newline_front : (script bytes rest : List ℕ) → script ≡ bytes ++ 10 ∷ rest → (tail : List (List ℕ)) × (script_lines script ≡ next_lines bytes ++ tail)
newline_front script bytes rest are =
    let next = goes_on (bytes ++ 10 ∷ []) (next_lines bytes) [] rest (newline_more bytes (whole_lines bytes) (begun_line bytes) (lines_split bytes)) in
    lines_front script (next_lines bytes) next.joined next.later (ap between_newlines (are ∙ sym (append_assoc bytes (10 ∷ []) rest)) ∙ next.split)

-- those, and the line that is begun at the end of the script
end_front : (script bytes : List ℕ) → script ≡ bytes → begun_line bytes ≢ [] → (tail : List (List ℕ)) × (script_lines script ≡ next_lines bytes ++ tail)
end_front script bytes are some =
    ([], ap script_lines are ∙ lines_are bytes (whole_lines bytes) (begun_line bytes) (lines_split bytes) ∙ ap (λ l. whole_lines bytes ++ l) (left_open (begun_line bytes) some) ∙ sym (append-nil (next_lines bytes)))
  where
    left_open : (line : List ℕ) → line ≢ [] → open_line (Some line) ≡ line ∷ []
    left_open [] some = absurd (some refl)
    left_open (b ∷ line) some = refl

quits_or_not : (line : List ℕ) → Quits line ⊎ (Quits line → ⊥)
quits_or_not line = go (script_words line)
  where
    go : (words : List (List ℕ)) → Are (Is (codes "quit") ∷ []) words ⊎ (Are (Is (codes "quit") ∷ []) words → ⊥)
    go [] = inr (λ are. are)
    go (word ∷ next ∷ words) = inr (λ are. are.1)
    go (word ∷ []) =
        elim (decided (bytes_eq word (codes "quit")) (word ≡ codes "quit") (bytes_eq-Decides word (codes "quit"))) [ inl same ↦ inl (same, tt) | inr other ↦ inr (λ are. other are.0) ]

-- ---- what out took

record HasBegun (desk : Desk) (script written out : List ℕ) : Type 0 where
  lines : List (List ℕ)
  later : List (List ℕ)
  first : script_lines script ≡ lines ++ later
  replies : List ℕ
  last : Desk
  run : AmpleRun desk lines replies last
  text : List ℕ
  lost : List ℕ
  part : replies ≡ text ++ lost
  took : out ≡ written ++ text

module _ (desk : Desk) (script written : List ℕ) (rest : Option (List ℕ)) (out : List ℕ) (last : Editing) where
  whole_begun : (bytes replies left : List ℕ) → script ≡ bytes ++ left → AreAnswered IsAmpleAnswer Quits (begun_on desk) bytes replies last → out ≡ written ++ replies
      → HasBegun desk script written out
  whole_begun bytes replies left are answered took =
      let front = whole_front script bytes left are in
      record {
        lines = whole_lines bytes;
        later = front.0;
        first = front.1;
        replies = replies;
        last = last.desk;
        run = on_desks (begun_on desk) last (whole_lines bytes) replies answered.answers;
        text = replies;
        lost = [];
        part = sym (append-nil replies);
        took = took;
      }

  -- and of the reply to the next line a first part
  next_begun : (bytes before reply : List ℕ) (sent : ℕ) (state : Editing) → (tail : List (List ℕ)) × (script_lines script ≡ next_lines bytes ++ tail)
      → AreAnswered IsAmpleAnswer Quits (begun_on desk) bytes before state → IsAmpleAnswer state (begun_line bytes) reply last → out ≡ written ++ (before ++ take sent reply)
      → HasBegun desk script written out
  next_begun bytes before reply sent state front answered answer took = record {
    lines = next_lines bytes;
    later = front.0;
    first = front.1;
    replies = before ++ reply;
    last = last.desk;
    run = on_desks (begun_on desk) last (next_lines bytes) (before ++ reply)
        (run_append IsAmpleAnswer Quits (begun_on desk) state last (whole_lines bytes) (begun_line bytes ∷ []) before reply answered.unended answered.answers (one_line (quits_or_not (begun_line bytes))));
    text = before ++ take sent reply;
    lost = drop sent reply;
    part = ap (λ l. before ++ l) (sym (take-append-drop sent reply)) ∙ sym (append_assoc before (take sent reply) (drop sent reply));
    took = took;
  }
    where
      one_line : Quits (begun_line bytes) ⊎ (Quits (begun_line bytes) → ⊥) → Run IsAmpleAnswer Quits state (begun_line bytes ∷ []) reply last
      one_line (inl quits) = run_end IsAmpleAnswer Quits state last (begun_line bytes) reply answer quits
      one_line (inr goes) = run_one IsAmpleAnswer Quits state last (begun_line bytes) reply answer goes

  read_out_begun : IsReadOut IsAmpleAnswer Quits (begun_on desk) (Some script) rest (Some written) (Some out) last → HasBegun desk script written out
  read_out_begun r =
      let read = consumed script r.bytes rest r.read in
      let none : read.0 ≡ [] = subst IsAtEnd read.1 r.end in
      let same : script ≡ r.bytes = read.2 ∙ ap (λ l. r.bytes ++ l) none ∙ append-nil r.bytes in
      record {
        lines = script_lines r.bytes;
        later = [];
        first = ap script_lines same ∙ sym (append-nil (script_lines r.bytes));
        replies = r.replies;
        last = last.desk;
        run = on_desks (begun_on desk) last (script_lines r.bytes) r.replies r.answers;
        text = r.replies;
        lost = [];
        part = sym (append-nil r.replies);
        took = r.written;
      }

  quit_begun : IsQuit IsAmpleAnswer Quits (begun_on desk) (Some script) rest (Some written) (Some out) last → HasBegun desk script written out
  quit_begun q =
      let read = consumed script (q.bytes ++ 10 ∷ q.more) rest q.read in
      let are : script ≡ q.bytes ++ 10 ∷ (q.more ++ read.0) = read.2 ∙ append_assoc q.bytes (10 ∷ q.more) read.0 in
      next_begun q.bytes q.before q.reply (length q.reply) q.state (newline_front script q.bytes (q.more ++ read.0) are) q.answered q.answer
      (q.written ∙ ap (λ l. written ++ (q.before ++ l)) (sym (take_whole q.reply)))
    where
      take_whole : (xs : List ℕ) → take (length xs) xs ≡ xs
      take_whole [] = refl
      take_whole (x ∷ xs) = ap (λ l. x ∷ l) (take_whole xs)

  cut_begun : IsCut IsAmpleAnswer Quits (begun_on desk) (Some script) rest (Some written) (Some out) last → HasBegun desk script written out
  cut_begun c =
      let read = consumed script (c.bytes ++ c.more) rest c.read in
      next_begun c.bytes c.before c.reply c.sent c.state (front c.more c.ends read.0 read.1 read.2) c.answered c.answer c.written
    where
      front : (more : List ℕ) → EndsLine c.bytes rest more → (left : List ℕ) → rest ≡ Some left → script ≡ (c.bytes ++ more) ++ left
          → (tail : List (List ℕ)) × (script_lines script ≡ next_lines c.bytes ++ tail)
      front [] (end, some) left is are =
          let none : left ≡ [] = subst IsAtEnd is end in
          end_front script c.bytes (are ∙ ap₂ (λ l m. l ++ m) (append-nil c.bytes) none ∙ append-nil c.bytes) some
      front (byte ∷ more) (newline, few, room) left is are =
          newline_front script c.bytes (more ++ left) (are ∙ append_assoc c.bytes (byte ∷ more) left ∙ ap (λ b. c.bytes ++ b ∷ (more ++ left)) newline)

  over_begun : (IsOver : List ℕ → ℕ → Type 0) → IsOverLimit IsAmpleAnswer Quits (begun_on desk) (Some script) rest (Some written) (Some out) last IsOver → HasBegun desk script written out
  over_begun IsOver o =
      let read = consumed script (o.bytes ++ o.byte ∷ o.more) rest o.read in
      whole_begun o.bytes o.replies ((o.byte ∷ o.more) ++ read.0) (read.2 ∙ append_assoc o.bytes (o.byte ∷ o.more) read.0) o.answered o.written

  has_begun : (end : Result (Unit {0}) ScriptStop) → EndsAmply end desk (Some script) rest (Some written) (Some out) last → HasBegun desk script written out
  has_begun (Ok done) (inl r) = read_out_begun r
  has_begun (Ok done) (inr q) = quit_begun q
  has_begun (Err stop.Read) b = let read = consumed script b.bytes rest b.read in whole_begun b.bytes b.replies read.0 read.2 b.answered b.written
  has_begun (Err (stop.TooLong read)) (count, over) = over_begun _ over
  has_begun (Err (stop.LineTooLong read)) (count, over) = over_begun _ over
  has_begun (Err stop.Write) c = cut_begun c
  has_begun (Err stop.Memory) (stays, read, took) = record {
    lines = [];
    later = script_lines script;
    first = refl;
    replies = [];
    last = desk;
    run = (refl, refl);
    text = [];
    lost = [];
    part = refl;
    took = (let same : out ≡ written = cc in same) ∙ sym (append-nil written);
  }

-- of two beginnings one begins with the other
longer_begins : (desk : Desk) (script written out out' : List ℕ) → IsSound desk → (b : HasBegun desk script written out) (b' : HasBegun desk script written out')
    → (more : List (List ℕ)) → b'.lines ≡ b.lines ++ more → BeginsWith out out' ⊎ BeginsWith out' out
longer_begins desk script written out out' sound b b' more longer =
    let run = subst (λ (l : List (List ℕ)). AmpleRun desk l b'.replies b'.last) longer b'.run in
    let front = run_front _ Quits desk b'.last b.lines more b'.replies run in
    let one = one_desk_run desk b.last front.0 b.lines b.replies front.1 sound b.run front.3 in
    let all : b.text ++ (b.lost ++ front.2) ≡ b'.text ++ b'.lost =
    sym (append_assoc b.text b.lost front.2) ∙ ap (λ l. l ++ front.2) (sym b.part ∙ one.0) ∙ sym front.4 ∙ b'.part in
    elim (either_longer b.text (b.lost ++ front.2) b'.text b'.lost all) [
      | inl after ↦ inr (after.0, b'.took ∙ ap (λ l. written ++ l) after.1 ∙ sym (append_assoc written b.text after.0) ∙ ap (λ l. l ++ after.0) (sym b.took))
      | inr after ↦ inl (after.0, b.took ∙ ap (λ l. written ++ l) after.1 ∙ sym (append_assoc written b'.text after.0) ∙ ap (λ l. l ++ after.0) (sym b'.took))
    ]

other_way : {P Q : Type 0} → P ⊎ Q → Q ⊎ P
other_way (inl p) = inr p
other_way (inr q) = inl q

pub one_beginning : (desk : Desk) (script written out out' : List ℕ) (end end' : Result (Unit {0}) ScriptStop) (rest rest' : Option (List ℕ)) (last last' : Editing)
    → IsSound desk → EndsAmply end desk (Some script) rest (Some written) (Some out) last → EndsAmply end' desk (Some script) rest' (Some written) (Some out') last'
    → BeginsWith out out' ⊎ BeginsWith out' out
one_beginning desk script written out out' end end' rest rest' last last' sound ends ends' =
    let b = has_begun desk script written rest out last end ends in
    let b' = has_begun desk script written rest' out' last' end' ends' in
    elim (either_longer b.lines b.later b'.lines b'.later (sym b.first ∙ b'.first)) [
      | inl longer ↦ longer_begins desk script written out out' sound b b' longer.0 longer.1
      | inr longer ↦ other_way (longer_begins desk script written out' out sound b' b longer.0 longer.1)
    ]
