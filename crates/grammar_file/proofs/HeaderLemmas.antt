-- The header, line by line.
use Rattle.std.proofs.Common.{◌≡◌, ℕ, ◌+◌, List, [], ◌∷◌, drop, slice_get, zero, suc, Result, Ok, Err, refl, ap, ◌∙◌}
use Rattle.std.proofs.lemmas.List.{drop-drop}
use Rattle.std.specs.Prelude.{codes}
use Rattle.grammar_file.specs.Content.{Content, content_after_first}
use Rattle.grammar_file.specs.Header.{header_of, line_says, most_units, said_number, version_of, weights_of}
use Rattle.grammar_file.specs.declared.fault.GrammarFault.{GrammarFault}
use Rattle.grammar_file.specs.declared.fault.GrammarWhat.{GrammarWhat}

-- the first line after n others
pub get_after : {X : Type 0} (xs : List X) (n : ℕ) → slice_get (drop n xs) 0 ≡ slice_get xs n
get_after [] zero = refl
get_after [] (suc n) = refl
get_after (x ∷ xs) zero = refl
get_after (x ∷ xs) (suc n) = get_after xs n

-- what stands n lines further on
pub record IsLaterContent (n : ℕ) (content further : Content) : Type 0 where
  lines : further.lines ≡ drop n content.lines
  end : further.end ≡ content.end

pub one_after : (content further : Content) → further ≡ content_after_first content → IsLaterContent 1 content further
one_after content further is = record { lines = ap (λ c. c.lines) is; end = ap (λ c. c.end) is }

pub one_more_after : (n : ℕ) (content further last : Content) → IsLaterContent n content further → last ≡ content_after_first further → IsLaterContent (n + 1) content last
one_more_after n content further last there is = record { lines = ap (λ c. c.lines) is ∙ ap (drop 1) there.lines ∙ drop-drop 1 n content.lines; end = ap (λ c. c.end) is ∙ there.end }

-- the first line there is the n-th line here
pub line_after : {A : Type 0} (n : ℕ) (content further : Content) (say : List (List ℕ) → Result A GrammarWhat) → IsLaterContent n content further
    → line_says further.end say (slice_get further.lines 0) ≡ line_says content.end say (slice_get content.lines n)
line_after n content further say there = rw (there.lines, there.end, get_after content.lines n) refl

-- the outcome of a line, as it stands in the header
abbrev pub version_line : Content → Result ℕ GrammarFault
version_line content = line_says content.end version_of (slice_get content.lines 0)

abbrev pub resolution_line : Content → ℕ → Result ℕ GrammarFault
resolution_line content version = line_says content.end (said_number (codes "resolution") 1 (most_units version)) (slice_get content.lines 1)

abbrev pub window_line : Content → Result ℕ GrammarFault
window_line content = line_says content.end (said_number (codes "window") 0 1000000) (slice_get content.lines 2)

abbrev pub weights_line : Content → ℕ → Result (ℕ × ℕ) GrammarFault
weights_line content version = line_says content.end (weights_of version) (slice_get content.lines 3)

module _ (content : Content) (fault : GrammarFault) where
  pub header_1 : version_line content ≡ Err fault → header_of content ≡ Err fault
  unfolding header_of
  header_1 e = rw e refl

  pub header_2 : (version : ℕ) → version_line content ≡ Ok version → resolution_line content version ≡ Err fault → header_of content ≡ Err fault
  unfolding header_of
  header_2 version v e = rw (v, e) refl

  pub header_3 : (version resolution : ℕ) → version_line content ≡ Ok version → resolution_line content version ≡ Ok resolution
      → window_line content ≡ Err fault → header_of content ≡ Err fault
  unfolding header_of
  header_3 version resolution v r e = rw (v, r, e) refl

  pub header_4 : (version resolution window : ℕ) → version_line content ≡ Ok version → resolution_line content version ≡ Ok resolution
      → window_line content ≡ Ok window → weights_line content version ≡ Err fault → header_of content ≡ Err fault
  unfolding header_of
  header_4 version resolution window v r w e = rw (v, r, w, e) refl

pub header_5 : (content : Content) (version resolution window : ℕ) (weights : ℕ × ℕ) → version_line content ≡ Ok version
    → resolution_line content version ≡ Ok resolution → window_line content ≡ Ok window → weights_line content version ≡ Ok weights
    → header_of content ≡ Ok (record { version = version; resolution = resolution; window = window; early = weights.0; late = weights.1 })
unfolding header_of
header_5 content version resolution window weights v r w e = rw (v, r, w, e) refl
