-- How the answering of a script ends, by what was heard of it from the start on.
use Rattle.std.proofs.Common.{◌≡◌, ◌≢◌, ℕ, zero, suc, ◌+◌, ◌-◌, ◌<◌, ◌≤◌, arith, inl, inr, List, [], length, take, refl, sym, ap, subst, ◌∙◌, append-nil, Bool, OnOk, IfErr, Result, Ok, Err}
use Rattle.std.specs.Prelude.{Option}
use Rattle.std.specs.Io.KnownBytes.{Consumes, IsAtEnd, Keeps}
use Rattle.std.proofs.KnownBytes.{Consumes-kept, Consumes-trans}
use Rattle.std.proofs.lemmas.List.{length-take}
use Rattle.rhythm_base.specs.Counter.{risen}
use Rattle.rhythm_ports.specs.Causes.{Rose}
use Rattle.rhythm_base.specs.declared.limits.TheConstants.{LONGEST_SCRIPT}
use Rattle.script_run.specs.Answers.{Quits}
use Rattle.script_run.specs.Desk.{Desk}
use Rattle.script_run.specs.Editing.{Editing, IsLineAnswer, begun_on}
use Rattle.script_run.specs.Ends.{IsDone, IsScriptStopped}
use Rattle.script_run.specs.Machine.{IsBroken}
use Rattle.script_run.specs.Hearing.{Closes, Heard, HearsAll, HearsUpTo, QuitsThere, Replies, StopsThere, Took}
use Rattle.script_run.specs.declared.script.TheConstants.{ONE_READ}
use Rattle.script_run.specs.declared.script_stop.ScriptStop.{ScriptStop}
use Rattle.script_run.specs.declared.script_stop.ScriptStop.TheVariants as stop
use Rattle.script_run.proofs.Answering.{IsAt, at_all, at_start, broken_at, cut_at_end, edited_to, hearing_start, quit_of, read_out, stopped_of}
use Rattle.script_run.proofs.Hearings.{read_after, risen_more}

-- what the script was read to, and what was written of it: the last state, with the count of builds
abbrev pub Ends : (Editing → Type 0) → ℕ → ℕ → Type 0
Ends P old new = (last : Editing) × P last × (new ≡ risen old last.built)

module _ (opening : Desk) (start h : Heard) (is : start ≡ hearing_start opening) (bytes replies : List ℕ) (n : ℕ) (heard : HearsAll start bytes replies n h)
    (a b taken mid : Option (List ℕ)) (old built : ℕ) (read : Consumes a b bytes) (took : Took taken mid old built replies n) where
  now : IsAt opening bytes replies n h
  now =
      let from : HearsAll (hearing_start opening) bytes replies n h = subst (λ (x : Heard). HearsAll x bytes replies n h) is heard in
      let all : IsAt opening bytes replies (0 + n) h = at_all opening [] [] 0 (hearing_start opening) bytes replies n h (at_start opening) from in
      subst (λ (m : ℕ). IsAt opening bytes replies m h) (omega arith) all

  counted : (k new : ℕ) → new ≡ risen built k → new ≡ risen old (n + k)
  counted k new e = e ∙ ap (λ m. risen m k) took.1 ∙ risen_more old n k

  nothing_more : (d : Option (List ℕ)) (buffer : List ℕ) (count : ℕ) → count ≡ 0 → Consumes b d (take count buffer) → Consumes a d bytes
  nothing_more d buffer count none more =
      let last : Consumes b d [] = subst (λ (m : ℕ). Consumes b d (take m buffer)) none more in
      subst (Consumes a d) (append-nil bytes) (Consumes-trans a b d bytes [] read last)

  -- the script is at its end
  pub done_at_end : (reply : List ℕ) (k : ℕ) (next : Desk) (d taken' : Option (List ℕ)) (new count : ℕ) (buffer : List ℕ) → Closes h reply k next → count ≡ 0
      → Consumes b d (take count buffer) → IsAtEnd d → Took mid taken' built new reply k → Ends (λ last. IsDone opening a d taken taken' last) old new
  done_at_end reply k next d taken' new count buffer closes none more end (after, rises) = (
    edited_to next (n + k),
    inl (read_out opening bytes replies n h reply k next a d taken mid taken' now closes (nothing_more d buffer count none more) end took.0 after),
    counted k new rises,
  )

  pub cut_at_the_end : (reply : List ℕ) (k sent : ℕ) (next : Desk) (d taken' : Option (List ℕ)) (new count : ℕ) (buffer : List ℕ) → h.begun ≢ [] → Replies h reply k next
      → sent < length reply → count ≡ 0 → Consumes b d (take count buffer) → IsAtEnd d → Took mid taken' built new (take sent reply) k
      → Ends (λ last. IsScriptStopped stop.Write opening a d taken taken' last) old new
  cut_at_the_end reply k sent next d taken' new count buffer some said part none more end (after, rises) = (
    edited_to next (n + k),
    cut_at_end opening bytes replies n h reply k sent next a d taken mid taken' now some said part (nothing_more d buffer count none more) end took.0 after,
    counted k new rises,
  )

  broken : Ends (λ last. IsBroken IsLineAnswer Quits (begun_on opening) a b taken mid last) old built
  broken = (edited_to h.desk n, broken_at opening bytes replies n h a b taken mid now read took.0, took.1)

  -- a read fails
  pub broken_off : (d : Option (List ℕ)) → Keeps b d → Ends (λ last. IsBroken IsLineAnswer Quits (begun_on opening) a d taken mid last) old built
  broken_off d kept =
      (edited_to h.desk n, broken_at opening bytes replies n h a d taken mid now (Consumes-kept a b d bytes read kept) took.0, took.1)

  -- the line that was begun is answered at the end
  pub closed : (d : Option (List ℕ)) (count : ℕ) (buffer : List ℕ) → count ≡ 0 → Consumes b d (take count buffer) → IsAtEnd d → {E : Type 0} (r : Result (Unit {0}) E)
      (taken' : Option (List ℕ)) (new : ℕ) (next : Desk) → OnOk r ((reply : List ℕ) × (k : ℕ) × Closes h reply k next × Took mid taken' built new reply k)
      → OnOk r (Ends (λ last. IsDone opening a d taken taken' last) old new)
  closed d count buffer none more end (Ok x) taken' new next (reply, k, closes, took') = done_at_end reply k next d taken' new count buffer closes none more end took'
  closed d count buffer none more end (Err e) taken' new next h = tt

  pub write_closed : (d : Option (List ℕ)) (count : ℕ) (buffer : List ℕ) → count ≡ 0 → Consumes b d (take count buffer) → IsAtEnd d → (r : Result (Unit {0}) ScriptStop)
      (taken' : Option (List ℕ)) (new : ℕ) (next : Desk) (R : Type 0)
      → IfErr r (λ end. (end ≡ stop.Write) × R × ((reply : List ℕ) × (k sent : ℕ) × (h.begun ≢ []) × Replies h reply k next × (sent < length reply) × Took mid taken' built new (take sent reply) k))
      → IfErr r (λ end. Ends (λ last. IsScriptStopped end opening a d taken taken' last) old new)
  write_closed d count buffer none more end (Ok x) taken' new next R h = tt
  write_closed d count buffer none more end (Err s) taken' new next R (is, rose, (reply, k, sent, some, said, part, took')) =
      subst (λ (x : ScriptStop). Ends (λ last. IsScriptStopped x opening a d taken taken' last) old new) (sym is)
      (cut_at_the_end reply k sent next d taken' new count buffer some said part none more end took')

  module _ (buffer : List ℕ) (count : ℕ) (d taken' : Option (List ℕ)) (new m : ℕ) (more : Consumes b d (take count buffer)) (few : length buffer ≤ ONE_READ) (rises : new ≡ risen built m) where
    few_taken : length (take count buffer) ≤ ONE_READ
    few_taken = let e = length-take count buffer in omega (arith, e, few)

    pub quit_among : (next : Desk) → HearsUpTo h (take count buffer) mid taken' m (QuitsThere next) → Ends (λ last. IsDone opening a d taken taken' last) old new
    quit_among next up =
        (edited_to next (n + m), inr (quit_of opening bytes replies n h now (take count buffer) m a b d taken mid taken' read more few_taken took.0 next up), counted m new rises)

    pub stopped_among : (next : Desk) (s : ScriptStop) → HearsUpTo h (take count buffer) mid taken' m (StopsThere s next) → Ends (λ last. IsScriptStopped s opening a d taken taken' last) old new
    stopped_among next s up =
        (edited_to next (n + m), stopped_of opening bytes replies n h now (take count buffer) m a b d taken mid taken' read more few_taken took.0 next s up, counted m new rises)

-- each turn reads on
pub reads_on : (start h new : Heard) (bytes replies more out : List ℕ) (n k : ℕ) → start.read ≤ LONGEST_SCRIPT → HearsAll start bytes replies n h → HearsAll h more out k new → 1 ≤ length more
    → LONGEST_SCRIPT - new.read < LONGEST_SCRIPT - h.read
reads_on start h new bytes replies more out n k within before after some =
    let first = read_after start h bytes replies n before within in
    let next = read_after h new more out k after first.1 in
    let grown = next.0 in
    let few = next.1 in
    omega (arith, grown, few, some)

-- a count that rose at last
pub rose_more : (x y z : ℕ) → x ≤ y → Rose y z → Rose x z
rose_more x y z low rose = omega (arith, low, rose)

pub written : (s : ScriptStop) → ◌≡◌ {A = Result (Unit {0}) ScriptStop} (Err s) (Err stop.Write) → ◌≡◌ {A = Result Bool ScriptStop} (Err s) (Err stop.Write)
written s e = let same : s ≡ stop.Write = cc in ap (λ x. Err x) same

pub closed_rose : (r : Result (Unit {0}) ScriptStop) (R X : Type 0) → IfErr r (λ end. (end ≡ stop.Write) × R × X) → r ≡ Err stop.Write → R
closed_rose (Ok x) R X h e = absurd (cc)
closed_rose (Err s) R X h e = h.1

pub some_taken : (count : ℕ) (buffer : List ℕ) → (count ≡ 0 → ⊥) → count ≤ length buffer → 1 ≤ length (take count buffer)
some_taken zero buffer some within = absurd (some refl)
some_taken (suc count) buffer some within = let e = length-take (suc count) buffer in omega (arith, e, within)
