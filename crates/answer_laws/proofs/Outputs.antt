-- The bytes of a script have an end, and what out takes: they are heard one after another, up to the end of the script, to a line that
-- says `quit`, or to a byte that is one too many.
use Rattle.rhythm_base.specs.declared.limits.TheConstants.{LONGEST_SCRIPT, LONGEST_SCRIPT_LINE}
use Rattle.std.proofs.Common.{◌≡◌, ◌≢◌, ℕ, ◌+◌, ◌≤◌, ◌<◌, ◌==◌, ◌⊎◌, inl, inr, false, List, [], ◌∷◌, ◌++◌, length, length-append, append_assoc, append-nil, refl, sym, ap, ◌∙◌, subst, arith, Some, Option, Result, Ok, Err}
use Rattle.std.specs.Prelude.{All}
use Rattle.std.proofs.lemmas.Bool.{cases_eq, cases_lt}
use Rattle.std.proofs.lemmas.Bool.Decides.{nat_tests}
use Rattle.std.proofs.lemmas.List.Elements.{All-append, All-nil}
use Rattle.edit_script.specs.ScriptLines.{between_newlines, open_line, script_lines}
use Rattle.rhythm_base.proofs.OrderedLists.{all_cons}
use Rattle.script_laws.specs.Script.{Run}
use Rattle.script_run.specs.Answers.{Quits}
use Rattle.script_run.specs.Bytes.{IsWithinLimits, begun_line, whole_lines}
use Rattle.script_run.specs.Desk.{Desk}
use Rattle.script_run.specs.Editing.{Editing, begun_on}
use Rattle.script_run.specs.Laws.{EndsAmply, IsAmpleAnswer, IsByBytes}
use Rattle.script_run.specs.Machine.{AreAnswered, IsOverLimit, IsOverLine, IsOverScript}
use Rattle.script_run.specs.declared.script_stop.ScriptStop.{ScriptStop}
use Rattle.script_run.specs.declared.script_stop.ScriptStop.TheVariants as stop
use Rattle.script_run.proofs.Newlines.{begun_is, byte_more, lines_are, lines_split, newline_more, whole_are}
use Rattle.script_run.proofs.Runs.{run_append, run_end, run_one}
use Rattle.answer_laws.specs.Editable.{IsOpen}
use Rattle.answer_laws.proofs.Decisions.{Decided}
use Rattle.answer_laws.proofs.Commands.{quits_or_not}
use Rattle.answer_laws.proofs.Desks.{some_step}

abbrev IsShort : List ℕ → Type 0
IsShort line = length line ≤ LONGEST_SCRIPT_LINE

abbrev IsNoEnd : List ℕ → Type 0
IsNoEnd line = Quits line → ⊥

module _ (desk : Desk) (script written : List ℕ) where
  abbrev Answered : List (List ℕ) → List ℕ → Editing → Type 0
  Answered lines replies state = Run IsAmpleAnswer Quits (begun_on desk) lines replies state

  -- bytes of which the whole lines are answered, and none of them ends the script
  record IsHeard (bytes replies : List ℕ) (state : Editing) : Type 0 where
    few : length bytes ≤ LONGEST_SCRIPT
    short : All IsShort (whole_lines bytes)
    begun : IsShort (begun_line bytes)
    unended : All IsNoEnd (whole_lines bytes)
    answers : Answered (whole_lines bytes) replies state
    ready : IsOpen state.desk

  abbrev HasOutput : Type 0
  HasOutput =
      (end : Result (Unit {0}) ScriptStop) × (rest : Option (List ℕ)) × (out : List ℕ) × (last : Editing) × IsByBytes end
      × EndsAmply end desk (Some script) rest (Some written) (Some out) last

  module _ (bytes replies : List ℕ) (state : Editing) (heard : IsHeard bytes replies state) where
    within : IsWithinLimits bytes
    within = record {
      lines = subst (All IsShort) (sym (lines_split bytes))
          (All-append IsShort (whole_lines bytes) (begun_line bytes ∷ []) heard.short (all_cons IsShort (begun_line bytes) [] heard.begun (All-nil IsShort)));
      script = heard.few;
    }

    answered : AreAnswered IsAmpleAnswer Quits (begun_on desk) bytes replies state
    answered = record { within = within; unended = heard.unended; answers = heard.answers }

    -- ---- at the end of the script

    read_out : (more : List ℕ) (last : Editing) → script ≡ bytes → Answered (script_lines bytes) more last → HasOutput
    read_out more last is answers = (
      Ok tt,
      Some [],
      written ++ more,
      last,
      (λ e. cc, λ e. cc, λ e. cc),
      inl record {
        bytes = bytes;
        read = is ∙ sym (append-nil bytes);
        end = refl;
        within = within;
        unended = heard.unended;
        replies = more;
        answers = answers;
        written = refl;
      },
    )

    lines_there : script_lines bytes ≡ whole_lines bytes ++ open_line (Some (begun_line bytes))
    lines_there = lines_are bytes (whole_lines bytes) (begun_line bytes) (lines_split bytes)

    at_end : script ≡ bytes → HasOutput
    at_end is = go (begun_line bytes) refl
      where
        go : (begun : List ℕ) → begun_line bytes ≡ begun → HasOutput
        go [] none =
            let lines : script_lines bytes ≡ whole_lines bytes = lines_there ∙ ap (λ b. whole_lines bytes ++ open_line (Some b)) none ∙ append-nil (whole_lines bytes) in
            read_out replies state is (subst (λ l. Answered l replies state) (sym lines) heard.answers)
        go (byte ∷ more) some =
            let line : List ℕ = byte ∷ more in
            let lines : script_lines bytes ≡ whole_lines bytes ++ line ∷ [] = lines_there ∙ ap (λ b. whole_lines bytes ++ open_line (Some b)) some in
            let a = some_step state line heard.ready in
            let last : Run IsAmpleAnswer Quits state (line ∷ []) a.0 a.1 = elim (quits_or_not line) [
              | inl quits ↦ run_end IsAmpleAnswer Quits state a.1 line a.0 a.2 quits
              | inr goes ↦ run_one IsAmpleAnswer Quits state a.1 line a.0 a.2 goes
            ] in
            read_out (replies ++ a.0) a.1 is
            (subst (λ l. Answered l (replies ++ a.0) a.1) (sym lines)
            (run_append IsAmpleAnswer Quits (begun_on desk) state a.1 (whole_lines bytes) (line ∷ []) replies a.0 heard.unended heard.answers last))

    -- ---- at a byte

    module _ (byte : ℕ) (rest : List ℕ) (is : script ≡ bytes ++ byte ∷ rest)
        (on : (more : List ℕ) (next : Editing) → IsHeard (bytes ++ byte ∷ []) more next → HasOutput) where
      read : script ≡ (bytes ++ byte ∷ []) ++ rest
      read = is ∙ sym (append_assoc bytes (byte ∷ []) rest)

      over : (IsOver : List ℕ → ℕ → Type 0) → IsOver bytes byte
          → IsOverLimit IsAmpleAnswer Quits (begun_on desk) (Some script) (Some rest) (Some written) (Some (written ++ replies)) state IsOver
      over IsOver is_over = record {
        bytes = bytes;
        byte = byte;
        more = [];
        read = read;
        few = omega arith;
        replies = replies;
        answered = answered;
        over = is_over;
        written = refl;
      }

      longer : length bytes < LONGEST_SCRIPT → length (bytes ++ byte ∷ []) ≤ LONGEST_SCRIPT
      longer room = let size = length-append bytes (byte ∷ []) in omega (arith, size, room)

      at_quit : byte ≡ 10 → length bytes < LONGEST_SCRIPT → Quits (begun_line bytes) → HasOutput
      at_quit newline room quits =
          let a = some_step state (begun_line bytes) heard.ready in (
            Ok tt,
            Some rest,
            written ++ (replies ++ a.0),
            a.1,
            (λ e. cc, λ e. cc, λ e. cc),
            inr record {
              bytes = bytes;
              more = [];
              read = subst (λ b. script ≡ (bytes ++ b ∷ []) ++ rest) newline read;
              few = omega arith;
              room = room;
              before = replies;
              state = state;
              answered = answered;
              reply = a.0;
              answer = a.2;
              quits = quits;
              written = refl;
            },
          )

      at_newline : byte ≡ 10 → length bytes < LONGEST_SCRIPT → IsNoEnd (begun_line bytes) → HasOutput
      at_newline newline room goes =
          let lines : List (List ℕ) = whole_lines bytes ++ begun_line bytes ∷ [] in
          let split : between_newlines (bytes ++ byte ∷ []) ≡ lines ++ [] ∷ [] =
          ap (λ b. between_newlines (bytes ++ b ∷ [])) newline ∙ newline_more bytes (whole_lines bytes) (begun_line bytes) (lines_split bytes) in
          let whole : lines ≡ whole_lines (bytes ++ byte ∷ []) = sym (whole_are (bytes ++ byte ∷ []) lines [] split) in
          let a = some_step state (begun_line bytes) heard.ready in
          on (replies ++ a.0) a.1 record {
            few = longer room;
            short = subst (All IsShort) whole (All-append IsShort (whole_lines bytes) (begun_line bytes ∷ []) heard.short (all_cons IsShort (begun_line bytes) [] heard.begun (All-nil IsShort)));
            begun = subst IsShort (sym (begun_is (bytes ++ byte ∷ []) lines [] split)) (omega arith);
            unended = subst (All IsNoEnd) whole (All-append IsNoEnd (whole_lines bytes) (begun_line bytes ∷ []) heard.unended (all_cons IsNoEnd (begun_line bytes) [] goes (All-nil IsNoEnd)));
            answers = subst (λ l. Answered l (replies ++ a.0) a.1) whole
                (run_append IsAmpleAnswer Quits (begun_on desk) state a.1 (whole_lines bytes) (begun_line bytes ∷ []) replies a.0 heard.unended heard.answers
                (run_one IsAmpleAnswer Quits state a.1 (begun_line bytes) a.0 a.2 goes));
            ready = a.3;
          }

      joins : byte ≢ 10 → length bytes < LONGEST_SCRIPT → length (begun_line bytes) < LONGEST_SCRIPT_LINE → HasOutput
      joins other room short =
          let apart : (byte == 10) ≡ false = is_other byte other in
          let split = byte_more bytes (whole_lines bytes) (begun_line bytes) byte apart (lines_split bytes) in
          let whole : whole_lines bytes ≡ whole_lines (bytes ++ byte ∷ []) = sym (whole_are (bytes ++ byte ∷ []) (whole_lines bytes) (begun_line bytes ++ byte ∷ []) split) in
          let size = length-append (begun_line bytes) (byte ∷ []) in
          on replies state record {
            few = longer room;
            short = subst (All IsShort) whole heard.short;
            begun = subst IsShort (sym (begun_is (bytes ++ byte ∷ []) (whole_lines bytes) (begun_line bytes ++ byte ∷ []) split)) (omega (arith, size, short));
            unended = subst (All IsNoEnd) whole heard.unended;
            answers = subst (λ l. Answered l replies state) whole heard.answers;
            ready = heard.ready;
          }
        where
          is_other : (b : ℕ) → b ≢ 10 → (b == 10) ≡ false
          is_other b ne = grind (arith, nat_tests)

      at_byte : HasOutput
      at_byte = go (cases_lt (length bytes) LONGEST_SCRIPT) (cases_eq byte 10) (quits_or_not (begun_line bytes)) (cases_lt (length (begun_line bytes)) LONGEST_SCRIPT_LINE)
        where
          go : (length bytes < LONGEST_SCRIPT) ⊎ (LONGEST_SCRIPT ≤ length bytes) → Decided (byte ≡ 10) → Decided (Quits (begun_line bytes))
              → (length (begun_line bytes) < LONGEST_SCRIPT_LINE) ⊎ (LONGEST_SCRIPT_LINE ≤ length (begun_line bytes)) → HasOutput
          go (inr full) newline quits short =
              let few = heard.few in (
                Err (stop.TooLong (LONGEST_SCRIPT + 1)),
                Some rest,
                written ++ replies,
                state,
                (λ e. cc, λ e. cc, λ e. cc),
                (refl, over IsOverScript (omega (arith, full, few))),
              )
          go (inl room) (inl newline) (inl quits) short = at_quit newline room quits
          go (inl room) (inl newline) (inr goes) short = at_newline newline room goes
          go (inl room) (inr other) quits (inl short) = joins other room short
          go (inl room) (inr other) quits (inr long) =
              let begun = heard.begun in (
                Err (stop.LineTooLong (LONGEST_SCRIPT_LINE + 1)),
                Some rest,
                written ++ replies,
                state,
                (λ e. cc, λ e. cc, λ e. cc),
                (refl, over IsOverLine (room, omega (arith, long, begun), other)),
              )

  hears_on : (rest bytes replies : List ℕ) (state : Editing) → IsHeard bytes replies state → script ≡ bytes ++ rest → HasOutput
  hears_on [] bytes replies state heard is = at_end bytes replies state heard (is ∙ append-nil bytes)
  hears_on (byte ∷ rest) bytes replies state heard is =
      at_byte bytes replies state heard byte rest is
      (λ more next later. hears_on rest (bytes ++ byte ∷ []) more next later (is ∙ sym (append_assoc bytes (byte ∷ []) rest)))

  pub some_output : IsOpen desk → HasOutput
  some_output ready = hears_on script [] [] (begun_on desk) record {
    few = omega arith;
    short = All-nil IsShort;
    begun = omega arith;
    unended = All-nil IsNoEnd;
    answers = (refl, refl);
    ready = ready;
  } refl
