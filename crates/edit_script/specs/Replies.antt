-- The texts of the replies to the lines of an edit script. Each line of a reply ends with a newline.
use Rattle.std.specs.Prelude.{ℕ, List, [], ◌∷◌, ◌++◌, length, map, codes, decimal}
use Rattle.std.specs.List.{flat_map, join_with_byte}
use Rattle.rhythm_base.specs.declared.edit_fault.EditFault.{EditFault}
use Rattle.rhythm_base.specs.declared.edit_fault.EditFault.TheVariants.{NoVoice, NoBar, BadSpan, NoNote, SameNote, PastEnd, BarlineOrder, NoteOutside, NotEmpty, OneBar, Limit, NoDerivation, Memory}
use Rattle.rhythm_base.specs.declared.edit_fault.LimitKind.{LimitKind}
use Rattle.rhythm_base.specs.declared.edit_fault.LimitKind.TheVariants.{Notes, Bars, Cells, Line}

-- words with a space between two, and a newline after the last
abbrev pub reply_line : List (List ℕ) → List ℕ
reply_line words = join_with_byte 32 words ++ codes "\n"

-- an edit was made: how many cells it reached, and the cost of the performance after it
abbrev pub done_text : ℕ → ℕ → List ℕ
done_text built cost = reply_line (codes "ok" ∷ decimal built ∷ decimal cost ∷ [])

abbrev pub limit_word : LimitKind → List ℕ
limit_word Notes = codes "notes"
limit_word Bars = codes "bars"
limit_word Cells = codes "cells"
limit_word Line = codes "line"

-- the name of a refusal and its numbers
abbrev pub fault_words : EditFault → List (List ℕ)
fault_words (NoVoice channel) = codes "NoVoice" ∷ decimal channel ∷ []
fault_words (NoBar bar) = codes "NoBar" ∷ decimal bar ∷ []
fault_words BadSpan = codes "BadSpan" ∷ []
fault_words NoNote = codes "NoNote" ∷ []
fault_words SameNote = codes "SameNote" ∷ []
fault_words (PastEnd last) = codes "PastEnd" ∷ decimal last ∷ []
fault_words (BarlineOrder low high) = codes "BarlineOrder" ∷ decimal low ∷ decimal high ∷ []
fault_words (NoteOutside onset) = codes "NoteOutside" ∷ decimal onset ∷ []
fault_words (NotEmpty onset) = codes "NotEmpty" ∷ decimal onset ∷ []
fault_words OneBar = codes "OneBar" ∷ []
fault_words (Limit what count) = codes "Limit" ∷ limit_word what ∷ decimal count ∷ []
fault_words (NoDerivation channel bar) = codes "NoDerivation" ∷ decimal channel ∷ decimal bar ∷ []
fault_words Memory = codes "Memory" ∷ []

abbrev pub refused_text : EditFault → List ℕ
refused_text fault = reply_line (codes "refused" ∷ fault_words fault)

-- the line says no command
abbrev pub bad_line_text : List ℕ
bad_line_text = reply_line (codes "refused" ∷ codes "Line" ∷ [])

-- the score would be longer than its limit, which its record of that number from 1 passes
abbrev pub long_score_text : ℕ → List ℕ
long_score_text record_number = reply_line (codes "refused" ∷ codes "Limit" ∷ codes "score" ∷ decimal record_number ∷ [])

-- the length of a score and the score
abbrev pub score_text : List ℕ → List ℕ
score_text score = reply_line (codes "score" ∷ decimal (length score) ∷ []) ++ score

-- one alternative as a reply shows it: its total, the text of its shape, and its rule numbers in preorder
pub record Shown : Type 0 where
  pub total : ℕ
  pub shape : List ℕ
  pub rules : List ℕ

-- numbers with a comma between two
abbrev pub numbers_text : List ℕ → List ℕ
numbers_text numbers = join_with_byte 44 (map decimal numbers)

abbrev pub shown_text : Shown → List ℕ
shown_text a = reply_line (codes "alt" ∷ decimal a.total ∷ a.shape ∷ numbers_text a.rules ∷ [])

-- their number, and a line for each
abbrev pub alternatives_text : List Shown → List ℕ
alternatives_text shown = reply_line (codes "alternatives" ∷ decimal (length shown) ∷ []) ++ flat_map shown_text shown

abbrev pub bye_text : List ℕ
bye_text = reply_line (codes "bye" ∷ [])
