-- From bytes that are heard one after another to the lines that they are.
use Rattle.std.proofs.Common.{◌≡◌, ◌≢◌, ℕ, zero, suc, ◌+◌, ◌≤◌, ◌<◌, arith, inl, inr, List, [], ◌∷◌, ◌++◌, length, take, refl, sym, ap, subst, ◌∙◌, false, append_assoc, append-nil, length-append, Some}
use Rattle.std.specs.Prelude.{◌==◌, All, Option}
use Rattle.std.specs.Io.KnownBytes.{Appends, Consumes, IsAtEnd}
use Rattle.std.proofs.KnownBytes.{Appends-trans, Consumes-trans}
use Rattle.std.proofs.lemmas.Bool.Decides.{nat_tests}
use Rattle.std.proofs.lemmas.List.Elements.{All-append}
use Rattle.edit_script.specs.ScriptLines.{between_newlines, open_line, script_lines}
use Rattle.rhythm_base.specs.declared.limits.TheConstants.{LONGEST_SCRIPT, LONGEST_SCRIPT_LINE}
use Rattle.script_run.specs.Answers.{Quits}
use Rattle.script_run.specs.Desk.{Desk}
use Rattle.script_run.specs.Bytes.{IsWithinLimits, begun_line, whole_lines}
use Rattle.script_run.specs.Editing.{AreAnswers, Editing, IsLineAnswer, begun_on}
use Rattle.script_run.specs.Ends.{IsScriptStopped}
use Rattle.script_run.specs.Machine.{AreAnswered, IsBroken, IsCut, IsOverLimit, IsOverLine, IsOverScript, IsQuit, IsReadOut}
use Rattle.script_run.specs.Hearing.{Closes, Heard, Hears, HearsAll, HearsUpTo, IsCutThere, IsLineTooLongThere, IsTooLongThere, QuitsThere, Replies, StopsThere}
use Rattle.script_run.specs.declared.script.TheConstants.{ONE_READ}
use Rattle.script_run.specs.declared.script_stop.ScriptStop.{ScriptStop}
use Rattle.script_run.specs.declared.script_stop.ScriptStop.TheVariants as stop
use Rattle.script_run.proofs.Newlines.{newline_more, byte_more, whole_are, begun_is, lines_are}
use Rattle.script_run.proofs.Runs.{run_append, run_one, run_end}

abbrev pub edited_to : Desk → ℕ → Editing
edited_to desk n = record { desk = desk; built = n }

abbrev pub hearing_start : Desk → Heard
hearing_start opening = record { desk = opening; begun = []; read = 0 }

IsShort : List ℕ → Type 0
IsShort line = length line ≤ LONGEST_SCRIPT_LINE

-- the bytes that were heard, as lines
pub record IsAt (opening : Desk) (bytes replies : List ℕ) (n : ℕ) (h : Heard) : Type 0 where
  pub lines : List (List ℕ)
  pub split : between_newlines bytes ≡ lines ++ h.begun ∷ []
  pub read : h.read ≡ length bytes
  pub few : length bytes ≤ LONGEST_SCRIPT
  pub short : All (λ line. length line ≤ LONGEST_SCRIPT_LINE) lines
  pub begun : length h.begun ≤ LONGEST_SCRIPT_LINE
  pub unended : All (λ line. Quits line → ⊥) lines
  pub answers : AreAnswers (begun_on opening) lines replies (edited_to h.desk n)

module _ (opening : Desk) where
  pub at_start : IsAt opening [] [] 0 (hearing_start opening)
  at_start = record {
    lines = [];
    split = refl;
    read = refl;
    few = omega arith;
    short = λ k d l. absurd (omega (arith, l));
    begun = omega arith;
    unended = λ k d l. absurd (omega (arith, l));
    answers = (refl, refl);
  }

  -- an answer to the line that was begun
  answer_of : (bytes replies : List ℕ) (n : ℕ) (h : Heard) → IsAt opening bytes replies n h → (reply : List ℕ) (k : ℕ) (next : Desk) → Replies h reply k next
      → IsLineAnswer (edited_to h.desk n) h.begun reply (edited_to next (n + k))
  answer_of bytes replies n h at reply k next said =
      (k, said, refl)

  all_one : (P : List ℕ → Type 0) (line : List ℕ) → P line → All P (line ∷ [])
  all_one P line h zero d l = h
  all_one P line h (suc k) d l = absurd (omega (arith, l))

  pub at_more : (bytes replies : List ℕ) (n : ℕ) (old : Heard) (byte : ℕ) (reply : List ℕ) (k : ℕ) (new : Heard) → IsAt opening bytes replies n old
      → Hears old byte reply k new → IsAt opening (bytes ++ byte ∷ []) (replies ++ reply) (n + k) new
  at_more bytes replies n old byte reply k new at (room, read, inl (newline, said, goes, none)) =
      let lines = at.lines in
      let more : between_newlines (bytes ++ 10 ∷ []) ≡ (lines ++ old.begun ∷ []) ++ [] ∷ [] = newline_more bytes lines old.begun at.split in
      let count = length-append bytes (byte ∷ []) in
      let read_before = at.read in
      let one = run_one IsLineAnswer Quits (edited_to old.desk n) (edited_to new.desk (n + k)) old.begun reply
      (answer_of bytes replies n old at reply k new.desk said) goes in
      record {
        lines = lines ++ old.begun ∷ [];
        split = ap (λ b. between_newlines (bytes ++ b ∷ [])) newline ∙ more ∙ ap (λ b. (lines ++ old.begun ∷ []) ++ b ∷ []) (sym none);
        read = omega (arith, read, read_before, count);
        few = omega (arith, room, read_before, count);
        short = All-append (λ line. length line ≤ LONGEST_SCRIPT_LINE) lines (old.begun ∷ []) at.short (all_one (λ line. length line ≤ LONGEST_SCRIPT_LINE) old.begun at.begun);
        begun = subst (λ (b : List ℕ). length b ≤ LONGEST_SCRIPT_LINE) (sym none) (omega arith);
        unended = All-append (λ line. Quits line → ⊥) lines (old.begun ∷ []) at.unended (all_one (λ line. Quits line → ⊥) old.begun goes);
        answers = run_append IsLineAnswer Quits (begun_on opening) (edited_to old.desk n) (edited_to new.desk (n + k)) lines (old.begun ∷ []) replies reply at.unended at.answers one;
      }
  at_more bytes replies n old byte reply k new at (room, read, inr (other, quiet, nothing, stays, short, joins)) =
      let lines = at.lines in
      let count = length-append bytes (byte ∷ []) in
      let read_before = at.read in
      let longer = length-append old.begun (byte ∷ []) in
      record {
        lines = lines;
        split = byte_more bytes lines old.begun byte (is_other byte other) at.split ∙ ap (λ b. lines ++ b ∷ []) (sym joins);
        read = omega (arith, read, read_before, count);
        few = omega (arith, room, read_before, count);
        short = at.short;
        begun = subst (λ (b : List ℕ). length b ≤ LONGEST_SCRIPT_LINE) (sym joins) (omega (arith, longer, short));
        unended = at.unended;
        answers = same_answers;
      }
    where
      is_other : (b : ℕ) → b ≢ 10 → (b == 10) ≡ false
      is_other b ne = grind (arith, nat_tests)

      state : edited_to old.desk n ≡ edited_to new.desk (n + k)
      state = ap (λ (q : Desk). edited_to q n) (sym stays) ∙ ap (λ m. edited_to new.desk m) (omega (arith, nothing))

      same_answers : AreAnswers (begun_on opening) at.lines (replies ++ reply) (edited_to new.desk (n + k))
      same_answers =
          let text : replies ≡ replies ++ reply = sym (ap (λ l. replies ++ l) quiet ∙ append-nil replies) in
          let P : List ℕ → Type 0 = λ l. AreAnswers (begun_on opening) at.lines l (edited_to old.desk n) in
          subst (AreAnswers (begun_on opening) at.lines (replies ++ reply)) state (subst P text at.answers)

  pub at_all : (bytes replies : List ℕ) (n : ℕ) (old : Heard) (more out : List ℕ) (k : ℕ) (new : Heard) → IsAt opening bytes replies n old
      → HearsAll old more out k new → IsAt opening (bytes ++ more) (replies ++ out) (n + k) new
  at_all bytes replies n old [] out k new at (quiet, nothing, same) =
      let P : List ℕ → ℕ → Heard → Type 0 = λ l m h. IsAt opening (bytes ++ []) l m h in
      let start : IsAt opening (bytes ++ []) replies n old = subst (λ (b : List ℕ). IsAt opening b replies n old) (sym (append-nil bytes)) at in
      let told : IsAt opening (bytes ++ []) (replies ++ out) n old = subst (λ (l : List ℕ). IsAt opening (bytes ++ []) l n old) (sym (ap (λ l. replies ++ l) quiet ∙ append-nil replies)) start in
      let counted : IsAt opening (bytes ++ []) (replies ++ out) (n + k) old = subst (λ (m : ℕ). IsAt opening (bytes ++ []) (replies ++ out) m old) (omega (arith, nothing)) told in
      subst (IsAt opening (bytes ++ []) (replies ++ out) (n + k)) (sym same) counted
  at_all bytes replies n old (byte ∷ more) out k new at (mid, reply, others, j, m, text, sum, first, rest) =
      let one = at_more bytes replies n old byte reply j mid at first in
      let all = at_all (bytes ++ byte ∷ []) (replies ++ reply) (n + j) mid more others m new one rest in
      let b : (bytes ++ byte ∷ []) ++ more ≡ bytes ++ byte ∷ more = append_assoc bytes (byte ∷ []) more in
      let r : (replies ++ reply) ++ others ≡ replies ++ out = append_assoc replies reply others ∙ ap (λ l. replies ++ l) (sym text) in
      let c : n + j + m ≡ n + k = omega (arith, sum) in
      let first : IsAt opening (bytes ++ byte ∷ more) ((replies ++ reply) ++ others) (n + j + m) new = subst (λ (x : List ℕ). IsAt opening x ((replies ++ reply) ++ others) (n + j + m) new) b all in
      let second : IsAt opening (bytes ++ byte ∷ more) (replies ++ out) (n + j + m) new = subst (λ (x : List ℕ). IsAt opening (bytes ++ byte ∷ more) x (n + j + m) new) r first in
      subst (λ (x : ℕ). IsAt opening (bytes ++ byte ∷ more) (replies ++ out) x new) c second

  within_of : (bytes replies : List ℕ) (n : ℕ) (h : Heard) → IsAt opening bytes replies n h → IsWithinLimits bytes
  within_of bytes replies n h at =
      let all = All-append (λ line. length line ≤ LONGEST_SCRIPT_LINE) at.lines (h.begun ∷ []) at.short (all_one (λ line. length line ≤ LONGEST_SCRIPT_LINE) h.begun at.begun) in
      record { lines = subst (All (λ line. length line ≤ LONGEST_SCRIPT_LINE)) (sym at.split) all; script = at.few }

  -- the whole lines are answered
  pub answered_at : (bytes replies : List ℕ) (n : ℕ) (h : Heard) → IsAt opening bytes replies n h → AreAnswered IsLineAnswer Quits (begun_on opening) bytes replies (edited_to h.desk n)
  answered_at bytes replies n h at =
      let e : whole_lines bytes ≡ at.lines = whole_are bytes at.lines h.begun at.split in
      record {
        within = within_of bytes replies n h at;
        unended = subst (All (λ line. Quits line → ⊥)) (sym e) at.unended;
        answers = subst (λ (l : List (List ℕ)). AreAnswers (begun_on opening) l replies (edited_to h.desk n)) (sym e) at.answers;
      }

  begun_at : (bytes replies : List ℕ) (n : ℕ) (h : Heard) → IsAt opening bytes replies n h → begun_line bytes ≡ h.begun
  begun_at bytes replies n h at = begun_is bytes at.lines h.begun at.split

  answer_at : (bytes replies : List ℕ) (n : ℕ) (h : Heard) → IsAt opening bytes replies n h → (reply : List ℕ) (k : ℕ) (next : Desk) → Replies h reply k next
      → IsLineAnswer (edited_to h.desk n) (begun_line bytes) reply (edited_to next (n + k))
  answer_at bytes replies n h at reply k next said =
      subst (λ (line : List ℕ). IsLineAnswer (edited_to h.desk n) line reply (edited_to next (n + k))) (sym (begun_at bytes replies n h at)) (answer_of bytes replies n h at reply k next said)

  -- the script is read to its end
  pub read_out : (bytes replies : List ℕ) (n : ℕ) (h : Heard) (reply : List ℕ) (k : ℕ) (next : Desk) (rest rest' taken mid taken' : Option (List ℕ))
      → IsAt opening bytes replies n h → Closes h reply k next → Consumes rest rest' bytes → IsAtEnd rest' → Appends taken mid replies → Appends mid taken' reply
      → IsReadOut IsLineAnswer Quits (begun_on opening) rest rest' taken taken' (edited_to next (n + k))
  read_out bytes replies n h reply k next rest rest' taken mid taken' at closes read end before after =
      let e : script_lines bytes ≡ at.lines ++ open_line (Some h.begun) = lines_are bytes at.lines h.begun at.split in
      let told = answered_at bytes replies n h at in
      record {
        bytes = bytes;
        read = read;
        end = end;
        within = told.within;
        unended = told.unended;
        replies = replies ++ reply;
        answers = subst (λ (l : List (List ℕ)). AreAnswers (begun_on opening) l (replies ++ reply) (edited_to next (n + k))) (sym e) all;
        written = Appends-trans taken mid taken' replies reply before after;
      }
    where
      last : (line : List ℕ) → h.begun ≡ line → AreAnswers (edited_to h.desk n) (open_line (Some line)) reply (edited_to next (n + k))
      last [] e = go closes
        where
          go : Closes h reply k next → AreAnswers (edited_to h.desk n) [] reply (edited_to next (n + k))
          go (inl (empty, quiet, nothing, stays)) = (quiet, ap (λ (q : Desk). edited_to q (n + k)) stays ∙ ap (λ m. edited_to h.desk m) (omega (arith, nothing)))
          go (inr (some, said, ends)) = absurd (some e)
      last (b ∷ line) e = go closes
        where
          go : Closes h reply k next → AreAnswers (edited_to h.desk n) ((b ∷ line) ∷ []) reply (edited_to next (n + k))
          go (inl (empty, quiet, nothing, stays)) = let both : b ∷ line ≡ [] = sym e ∙ empty in absurd (cc)
          go (inr (some, said, inl ends)) =
              run_end IsLineAnswer Quits (edited_to h.desk n) (edited_to next (n + k)) (b ∷ line) reply
              (subst (λ (l : List ℕ). IsLineAnswer (edited_to h.desk n) l reply (edited_to next (n + k))) e (answer_of bytes replies n h at reply k next said)) (subst Quits e ends)
          go (inr (some, said, inr goes)) =
              run_one IsLineAnswer Quits (edited_to h.desk n) (edited_to next (n + k)) (b ∷ line) reply
              (subst (λ (l : List ℕ). IsLineAnswer (edited_to h.desk n) l reply (edited_to next (n + k))) e (answer_of bytes replies n h at reply k next said)) (λ q. goes (subst Quits (sym e) q))

      all : AreAnswers (begun_on opening) (at.lines ++ open_line (Some h.begun)) (replies ++ reply) (edited_to next (n + k))
      all = run_append IsLineAnswer Quits (begun_on opening) (edited_to h.desk n) (edited_to next (n + k)) at.lines (open_line (Some h.begun)) replies reply at.unended at.answers (last h.begun refl)

  -- the reply at the end of the script is cut
  pub cut_at_end : (bytes replies : List ℕ) (n : ℕ) (h : Heard) (reply : List ℕ) (k sent : ℕ) (next : Desk) (rest rest' taken mid taken' : Option (List ℕ))
      → IsAt opening bytes replies n h → h.begun ≢ [] → Replies h reply k next → sent < length reply → Consumes rest rest' bytes → IsAtEnd rest' → Appends taken mid replies
      → Appends mid taken' (take sent reply) → IsCut IsLineAnswer Quits (begun_on opening) rest rest' taken taken' (edited_to next (n + k))
  cut_at_end bytes replies n h reply k sent next rest rest' taken mid taken' at some said part read end before after =
      record {
        bytes = bytes;
        more = [];
        read = subst (Consumes rest rest') (sym (append-nil bytes)) read;
        ends = (end, λ e. some (sym (begun_at bytes replies n h at) ∙ e));
        before = replies;
        state = edited_to h.desk n;
        answered = answered_at bytes replies n h at;
        reply = reply;
        answer = answer_at bytes replies n h at reply k next said;
        sent = sent;
        part = part;
        written = Appends-trans taken mid taken' replies (take sent reply) before after;
      }

  -- a read fails
  pub broken_at : (bytes replies : List ℕ) (n : ℕ) (h : Heard) (rest rest' taken taken' : Option (List ℕ))
      → IsAt opening bytes replies n h → Consumes rest rest' bytes → Appends taken taken' replies → IsBroken IsLineAnswer Quits (begun_on opening) rest rest' taken taken' (edited_to h.desk n)
  broken_at bytes replies n h rest rest' taken taken' at read written =
      record { bytes = bytes; read = read; replies = replies; answered = answered_at bytes replies n h at; written = written }

  module _ (bytes replies : List ℕ) (n : ℕ) (h : Heard) (start : IsAt opening bytes replies n h) (piece : List ℕ) (m : ℕ)
      (a b c taken mid_taken taken' : Option (List ℕ)) (read : Consumes a b bytes) (then : Consumes b c piece) (few : length piece ≤ ONE_READ)
      (before : Appends taken mid_taken replies) where
    module _ (Q : Heard → ℕ → List ℕ → ℕ → Type 0) (up : HearsUpTo h piece mid_taken taken' m Q) where
      at_mid : IsAt opening (bytes ++ up.front) (replies ++ up.before) (n + up.k) up.mid
      at_mid = at_all bytes replies n h up.front up.before up.k up.mid start up.heard

      few_after : length up.back < ONE_READ
      few_after =
          let size : length piece ≡ length up.front + suc (length up.back) = ap length up.are ∙ length-append up.front (up.byte ∷ up.back) in
          omega (arith, few, size)

      read_mid : Consumes a c ((bytes ++ up.front) ++ up.byte ∷ up.back)
      read_mid =
          let e : bytes ++ piece ≡ (bytes ++ up.front) ++ up.byte ∷ up.back = ap (λ l. bytes ++ l) up.are ∙ sym (append_assoc bytes up.front (up.byte ∷ up.back)) in
          subst (Consumes a c) e (Consumes-trans a b c bytes piece read then)

      written_mid : Appends taken taken' ((replies ++ up.before) ++ up.after)
      written_mid = subst (Appends taken taken') (sym (append_assoc replies up.before up.after)) (Appends-trans taken mid_taken taken' replies (up.before ++ up.after) before up.written)

      count : (q : Desk) → edited_to q (n + up.k + up.m) ≡ edited_to q (n + m)
      count q = let sum = up.sum in ap (λ x. edited_to q x) (omega (arith, sum))

    pub quit_of : (next : Desk) → HearsUpTo h piece mid_taken taken' m (QuitsThere next) → IsQuit IsLineAnswer Quits (begun_on opening) a c taken taken' (edited_to next (n + m))
    quit_of next up =
        let at = at_mid (QuitsThere next) up in
        let said = up.at in
        let read_before = at.read in
        let room = said.1 in
        let more = ap (λ x. (bytes ++ up.front) ++ x ∷ up.back) said.0 in
        record {
          bytes = bytes ++ up.front;
          more = up.back;
          read = subst (Consumes a c) more (read_mid (QuitsThere next) up);
          few = few_after (QuitsThere next) up;
          room = omega (arith, read_before, room);
          before = replies ++ up.before;
          state = edited_to up.mid.desk (n + up.k);
          answered = answered_at (bytes ++ up.front) (replies ++ up.before) (n + up.k) up.mid at;
          reply = up.after;
          answer = subst (IsLineAnswer (edited_to up.mid.desk (n + up.k)) (begun_line (bytes ++ up.front)) up.after) (count (QuitsThere next) up next)
              (answer_at (bytes ++ up.front) (replies ++ up.before) (n + up.k) up.mid at up.after up.m next said.3);
          quits = subst Quits (sym (begun_at (bytes ++ up.front) (replies ++ up.before) (n + up.k) up.mid at)) said.2;
          written = written_mid (QuitsThere next) up;
        }

    cut_of : (next : Desk) → HearsUpTo h piece mid_taken taken' m (IsCutThere next) → IsCut IsLineAnswer Quits (begun_on opening) a c taken taken' (edited_to next (n + m))
    cut_of next up =
        let at = at_mid (IsCutThere next) up in
        let said = up.at in
        let read_before = at.read in
        let room = said.1 in
        let cut = said.2 in
        record {
          bytes = bytes ++ up.front;
          more = up.byte ∷ up.back;
          read = read_mid (IsCutThere next) up;
          ends = (said.0, few_after (IsCutThere next) up, omega (arith, read_before, room));
          before = replies ++ up.before;
          state = edited_to up.mid.desk (n + up.k);
          answered = answered_at (bytes ++ up.front) (replies ++ up.before) (n + up.k) up.mid at;
          reply = cut.0;
          answer = subst (IsLineAnswer (edited_to up.mid.desk (n + up.k)) (begun_line (bytes ++ up.front)) cut.0) (count (IsCutThere next) up next)
              (answer_at (bytes ++ up.front) (replies ++ up.before) (n + up.k) up.mid at cut.0 up.m next cut.2);
          sent = cut.1;
          part = cut.3;
          written = subst (λ (l : List ℕ). Appends taken taken' ((replies ++ up.before) ++ l)) cut.4 (written_mid (IsCutThere next) up);
        }

    -- nothing comes of the byte that is one too many
    over_of : (next : Desk) (Q : Heard → ℕ → List ℕ → ℕ → Type 0) (IsOver : List ℕ → ℕ → Type 0) (up : HearsUpTo h piece mid_taken taken' m Q)
        → up.after ≡ [] → up.m ≡ 0 → next ≡ up.mid.desk → IsOver (bytes ++ up.front) up.byte → IsOverLimit IsLineAnswer Quits (begun_on opening) a c taken taken' (edited_to next (n + m)) IsOver
    over_of next Q IsOver up quiet nothing stays over =
        let at = at_mid Q up in
        let sum = up.sum in
        let state : edited_to up.mid.desk (n + up.k) ≡ edited_to next (n + m) =
        ap (λ (q : Desk). edited_to q (n + up.k)) (sym stays) ∙ ap (λ x. edited_to next x) (omega (arith, sum, nothing)) in
        let written = subst (λ (l : List ℕ). Appends taken taken' ((replies ++ up.before) ++ l)) quiet (written_mid Q up) in
        record {
          bytes = bytes ++ up.front;
          byte = up.byte;
          more = up.back;
          read = read_mid Q up;
          few = few_after Q up;
          replies = replies ++ up.before;
          answered = subst (AreAnswered IsLineAnswer Quits (begun_on opening) (bytes ++ up.front) (replies ++ up.before)) state (answered_at (bytes ++ up.front) (replies ++ up.before) (n + up.k) up.mid at);
          over = over;
          written = subst (Appends taken taken') (append-nil (replies ++ up.before)) written;
        }

    too_long_of : (next : Desk) → HearsUpTo h piece mid_taken taken' m (IsTooLongThere next) → IsOverLimit IsLineAnswer Quits (begun_on opening) a c taken taken' (edited_to next (n + m)) IsOverScript
    too_long_of next up =
        let at = at_mid (IsTooLongThere next) up in
        let said = up.at in
        over_of next (IsTooLongThere next) IsOverScript up said.1 said.2 said.3 (sym at.read ∙ said.0)

    line_too_long_of : (next : Desk) → HearsUpTo h piece mid_taken taken' m (IsLineTooLongThere next) → IsOverLimit IsLineAnswer Quits (begun_on opening) a c taken taken' (edited_to next (n + m)) IsOverLine
    line_too_long_of next up =
        let at = at_mid (IsLineTooLongThere next) up in
        let said = up.at in
        let room = said.0 in
        let read_before = at.read in
        let long : length (begun_line (bytes ++ up.front)) ≡ LONGEST_SCRIPT_LINE = ap length (begun_at (bytes ++ up.front) (replies ++ up.before) (n + up.k) up.mid at) ∙ said.2 in
        over_of next (IsLineTooLongThere next) IsOverLine up said.3 said.4 said.5 (omega (arith, room, read_before), long, said.1)

    -- what is known of one byte, with more said of it
    with_at : (Q P : Heard → ℕ → List ℕ → ℕ → Type 0) → ((mid : Heard) (byte : ℕ) (after : List ℕ) (k : ℕ) → Q mid byte after k → P mid byte after k)
        → HearsUpTo h piece mid_taken taken' m Q → HearsUpTo h piece mid_taken taken' m P
    with_at Q P f up = record {
      front = up.front;
      byte = up.byte;
      back = up.back;
      are = up.are;
      mid = up.mid;
      before = up.before;
      k = up.k;
      heard = up.heard;
      after = up.after;
      m = up.m;
      sum = up.sum;
      at = f up.mid up.byte up.after up.m up.at;
      written = up.written;
    }

    -- the answering stops among the bytes of a piece
    pub stopped_of : (next : Desk) (s : ScriptStop) → HearsUpTo h piece mid_taken taken' m (StopsThere s next) → IsScriptStopped s opening a c taken taken' (edited_to next (n + m))
    stopped_of next stop.Read up = absurd up.at
    stopped_of next (stop.TooLong read) up =
        (up.at.0, too_long_of next (with_at (StopsThere (stop.TooLong read) next) (IsTooLongThere next) (λ mid byte after k q. q.1) up))
    stopped_of next (stop.LineTooLong read) up =
        (up.at.0, line_too_long_of next (with_at (StopsThere (stop.LineTooLong read) next) (IsLineTooLongThere next) (λ mid byte after k q. q.1) up))
    stopped_of next stop.Write up = cut_of next up
    stopped_of next stop.Memory up = absurd up.at
