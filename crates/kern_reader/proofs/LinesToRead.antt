-- The line that is being read: no line before it has a fault.
use Rattle.std.proofs.Common.{◌≡◌, ℕ, suc, ◌+◌, ◌-◌, ◌≤◌, Bool, true, false, List, [], ◌∷◌, drop, get_or, length, refl, sym, ap, ◌∙◌, subst, arith, Option, Some, None, Result, Ok, Err, IsErr, IsErrAnd}
use Rattle.std.specs.Prelude.{◌≢◌, IfErr, if◌then◌else◌}
use Rattle.std.proofs.lemmas.Bool.{false≢true}
use Rattle.std.proofs.lemmas.List.{drop-drop, get_or-drop, length-drop}
use Rattle.kern_reader.specs.declared.fault.KernFault.{KernFault}
use Rattle.kern_reader.specs.declared.fault.KernWhat.{KernWhat}
use Rattle.kern_reader.specs.declared.line.KernLine.{KernLine}
use Rattle.kern_reader.specs.declared.line.KernLine.TheVariants.{Heading, Signature, Other, Ending, Barline, LastBarline, Data, Unread}
use Rattle.kern_reader.specs.declared.line.Stage.{Stage}
use Rattle.kern_reader.specs.declared.line.Stage.TheVariants as stage
use Rattle.kern_reader.specs.Columns.{stage_after}
use Rattle.kern_reader.specs.Faults.{line_fault}
use Rattle.kern_reader.specs.declared.token.Token.{Token}
use Rattle.kern_reader.specs.Lines.{data_line, line_of, takes_memory}
use Rattle.kern_reader.specs.Outcome.{IsLineToRead, at_end, or_fault, read_from, read_text}
use Rattle.kern_reader.specs.Text.{is_skipped}
use Rattle.text_words.specs.Lines.{text_lines}

-- ---- memory

-- a data line takes it, also where it is none
pub data_takes : (tokens : Option (List Token)) → takes_memory (data_line tokens) ≡ true
data_takes None = refl
data_takes (Some tokens) = refl

-- ---- a fault is of a line from number n on, where some line was read before

past_head : (line : KernLine) → stage_after line ≢ stage.Head
past_head (Heading n) e = cc
past_head (Signature signature) e = cc
past_head Other e = cc
past_head Ending e = cc
past_head Barline e = cc
past_head LastBarline e = cc
past_head (Data tokens) e = cc
past_head Unread e = cc

end_later : (at : Stage) (n : ℕ) (before : List KernLine) (fault : KernFault) → at ≢ stage.Head → at_end at n before ≡ Err fault → n ≤ fault.line
end_later stage.Head n before fault past e = absurd (past refl)
end_later stage.Body n before fault past e = let same : n ≡ fault.line = cc in omega (arith, same)
end_later stage.Last n before fault past e = let same : n ≡ fault.line = cc in omega (arith, same)
end_later stage.Over n before fault past e = absurd (cc)

-- a line stops the reading with a fault of its number, or it is read on
stops_or_goes : (what : Option KernWhat) (n : ℕ) (more : Result (List KernLine) KernFault) (fault : KernFault) → or_fault n what more ≡ Err fault
    → (more ≡ Err fault → n ≤ fault.line) → n ≤ fault.line
stops_or_goes None n more fault e next = next e
stops_or_goes (Some what) n more fault e next = let same : n ≡ fault.line = cc in omega (arith, same)

fault_later : (line : KernLine) (before : List KernLine) (n : ℕ) (texts : List (List ℕ)) (fault : KernFault) → read_from (line ∷ before) n texts ≡ Err fault → n ≤ fault.line
fault_later line before n [] fault e = end_later (stage_after line) n (line ∷ before) fault (past_head line) e
fault_later line before n (text ∷ texts) fault e =
    go (is_skipped text) e (λ is. let later = fault_later line before (suc n) texts fault is in omega (arith, later))
    (λ is. let later = fault_later (line_of text) (line ∷ before) (suc n) texts fault is in omega (arith, later))
  where
    go : (b : Bool)
        → (if b then read_from (line ∷ before) (suc n) texts
        else or_fault n (line_fault (line ∷ before) text) (read_from (line_of text ∷ line ∷ before) (suc n) texts)) ≡ Err fault
        → (read_from (line ∷ before) (suc n) texts ≡ Err fault → n ≤ fault.line)
        → (read_from (line_of text ∷ line ∷ before) (suc n) texts ≡ Err fault → n ≤ fault.line) → n ≤ fault.line
    go true e past next = past e
    go false e past next = stops_or_goes (line_fault (line ∷ before) text) n _ fault e next

-- ---- the line that is being read

-- the lines that are left after the first of them
pub rest_next : (lines rest after : List (List ℕ)) (line : List ℕ) (n : ℕ) → 1 ≤ n → rest ≡ drop (n - 1) lines → rest ≡ line ∷ after → after ≡ drop (n + 1 - 1) lines
rest_next lines rest after line n some here first =
    let next : n - 1 + 1 ≡ n + 1 - 1 = omega (arith, some) in
    ap (drop 1) (sym first ∙ here) ∙ drop-drop 1 (n - 1) lines ∙ ap (λ k. drop k lines) next

pub line_to_read : (text : List ℕ) (before : List KernLine) (n : ℕ) (line : List ℕ) (after : List (List ℕ)) → 1 ≤ n → is_skipped line ≡ false → takes_memory (line_of line) ≡ true
    → read_from before n (line ∷ after) ≡ read_text text → line ∷ after ≡ drop (n - 1) (text_lines text) → IsLineToRead text n
line_to_read text before n line after some said takes same here = record {
  some = some;
  there =
      let count = ap length here in
      let left = length-drop (n - 1) (text_lines text) in
      omega (arith, some, count, left);
  said = subst (λ own. is_skipped own ≡ false) own said;
  takes = subst (λ own. takes_memory (line_of own) ≡ true) own takes;
  first = λ fault e. first fault (same ∙ e);
}
  where
    own : line ≡ get_or (text_lines text) (n - 1) []
    own =
        let end : n - 1 + 0 ≡ n - 1 = omega arith in
        ap (λ ls. get_or ls 0 []) here ∙ get_or-drop (n - 1) (text_lines text) 0 [] ∙ ap (λ k. get_or (text_lines text) k []) end

    first : (fault : KernFault) → read_from before n (line ∷ after) ≡ Err fault → n ≤ fault.line
    first fault e = go (is_skipped line) said e
      where
        go : (b : Bool) → b ≡ false
            → (if b then read_from before (suc n) after else or_fault n (line_fault before line) (read_from (line_of line ∷ before) (suc n) after)) ≡ Err fault
            → n ≤ fault.line
        go true shown e = absurd (cc)
        go false shown e = stops_or_goes (line_fault before line) n _ fault e (λ is. let later = fault_later (line_of line) before (suc n) after fault is in omega (arith, later))

-- a fault that a call handed on
pub fault_handed : {X : Type 0} (P : KernFault → Type 0) (result : Result X KernFault) (e : KernFault) → IsErr result × IsErrAnd result (λ y. y ≡ e) → P e → IfErr result P
fault_handed P (Ok x) e is h = absurd (false≢true is.0)
fault_handed P (Err y) e is h = subst P (sym is.1) h
