-- Texts, read by the definitions.
use Rattle.std.specs.Prelude.{◌≡◌, ℕ, Bool, true, false, List, [], ◌∷◌, ◌++◌, codes, refl, Result, Ok, Err}
use Rattle.std.specs.List.{flat_map}
use Rattle.kern_reader.specs.declared.fault.KernFault.{KernFault}
use Rattle.kern_reader.specs.declared.fault.KernWhat.{KernWhat}
use Rattle.kern_reader.specs.declared.fault.KernWhat.TheVariants as what
use Rattle.kern_reader.specs.declared.line.KernLine.{KernLine}
use Rattle.text_words.specs.Divisors.{gcd}
use Rattle.kern_reader.specs.Faults.{has_no_grid, has_no_head, has_wrong_grace, has_wrong_tie, has_wrong_width, is_misplaced, is_out_of_turn, is_unread, is_wrong_bar, line_fault}
use Rattle.kern_reader.specs.Lines.{line_of, other_line, signature_of}
use Rattle.kern_reader.specs.Outcome.{read_text}
use Rattle.kern_reader.specs.Tokens.{token_chord, pitch_key, marks_of, note_of, recip_of, token_of, value_of, valued_note, white_key}
use Rattle.text_words.specs.Numbers.{number_of}

abbrev text_of : List (List ℕ) → List ℕ
text_of lines = flat_map (λ l. l ++ (10 ∷ [])) lines

abbrev fault : ℕ → KernWhat → Result (List KernLine) KernFault
fault line what = Err (record { line = line; what = what })

abbrev is_read : Result (List KernLine) KernFault → Bool
is_read (Ok lines) = true
is_read (Err fault) = false

empty : read_text [] ≡ fault 1 what.Head
empty = refl

width : read_text (text_of ((codes "**kern" ++ (9 ∷ []) ++ codes "**kern") ∷ codes "*M4/4" ∷ [])) ≡ fault 2 what.Width
unfolding has_no_head is_out_of_turn has_wrong_width is_unread has_no_grid is_misplaced has_wrong_grace is_wrong_bar has_wrong_tie line_fault line_of other_line signature_of number_of token_of token_chord note_of valued_note value_of recip_of marks_of pitch_key white_key gcd
width = refl

no_head : read_text (text_of (codes "4c" ∷ [])) ≡ fault 1 what.Head
unfolding has_no_head is_out_of_turn has_wrong_width is_unread has_no_grid is_misplaced has_wrong_grace is_wrong_bar has_wrong_tie line_fault line_of other_line signature_of number_of token_of token_chord note_of valued_note value_of recip_of marks_of pitch_key white_key gcd
no_head = refl

skipped_then_no_head : read_text (text_of (codes "!a" ∷ codes "!b" ∷ [])) ≡ fault 1 what.Head
unfolding has_no_head is_out_of_turn has_wrong_width is_unread has_no_grid is_misplaced has_wrong_grace is_wrong_bar has_wrong_tie line_fault line_of other_line signature_of number_of token_of token_chord note_of valued_note value_of recip_of marks_of pitch_key white_key gcd
skipped_then_no_head = refl

skipped_then_wrong_head : read_text (text_of (codes "!a" ∷ codes "*M4/4" ∷ [])) ≡ fault 2 what.Head
unfolding has_no_head is_out_of_turn has_wrong_width is_unread has_no_grid is_misplaced has_wrong_grace is_wrong_bar has_wrong_tie line_fault line_of other_line signature_of number_of token_of token_chord note_of valued_note value_of recip_of marks_of pitch_key white_key gcd
skipped_then_wrong_head = refl

two_values : read_text (text_of (codes "**kern" ∷ codes "*M4/4" ∷ codes "=1" ∷ codes "4c 8e" ∷ [])) ≡ fault 4 what.Token
unfolding has_no_head is_out_of_turn has_wrong_width is_unread has_no_grid is_misplaced has_wrong_grace is_wrong_bar has_wrong_tie line_fault line_of other_line signature_of number_of token_of token_chord note_of valued_note value_of recip_of marks_of pitch_key white_key gcd
two_values = refl

untied : read_text (text_of (codes "**kern" ∷ codes "*M4/4" ∷ codes "=1" ∷ codes "[2c" ∷ codes "2c" ∷ [])) ≡ fault 5 what.Tie
unfolding has_no_head is_out_of_turn has_wrong_width is_unread has_no_grid is_misplaced has_wrong_grace is_wrong_bar has_wrong_tie line_fault line_of other_line signature_of number_of token_of token_chord note_of valued_note value_of recip_of marks_of pitch_key white_key gcd
untied = refl

primes : read_text (text_of (codes "**kern" ∷ codes "*M4/4" ∷ codes "=1" ∷ codes "4c" ∷ codes "7c" ∷ codes "11c" ∷ codes "13c" ∷ codes "17c" ∷ [])) ≡ fault 8 what.Grid
unfolding has_no_head is_out_of_turn has_wrong_width is_unread has_no_grid is_misplaced has_wrong_grace is_wrong_bar has_wrong_tie line_fault line_of other_line signature_of number_of token_of token_chord note_of valued_note value_of recip_of marks_of pitch_key white_key gcd
primes = refl

no_end : read_text (text_of (codes "**kern" ∷ codes "*M4/4" ∷ codes "=1" ∷ [])) ≡ fault 4 what.End
unfolding has_no_head is_out_of_turn has_wrong_width is_unread has_no_grid is_misplaced has_wrong_grace is_wrong_bar has_wrong_tie line_fault line_of other_line signature_of number_of token_of token_chord note_of valued_note value_of recip_of marks_of pitch_key white_key gcd
no_end = refl

graces_at_the_end : read_text (text_of (codes "**kern" ∷ codes "*M4/4" ∷ codes "=1" ∷ codes "1c" ∷ codes "qd" ∷ codes "==" ∷ [])) ≡ fault 6 what.Grace
unfolding has_no_head is_out_of_turn has_wrong_width is_unread has_no_grid is_misplaced has_wrong_grace is_wrong_bar has_wrong_tie line_fault line_of other_line signature_of number_of token_of token_chord note_of valued_note value_of recip_of marks_of pitch_key white_key gcd
graces_at_the_end = refl

out_of_place : read_text (text_of ((codes "**kern" ++ (9 ∷ []) ++ codes "**kern") ∷ (codes "*M4/4" ++ (9 ∷ []) ++ codes "*M4/4") ∷ (codes "=1" ++ (9 ∷ []) ++ codes "=1") ∷ (codes "4c" ++ (9 ∷ []) ++ codes "2c") ∷ (codes "." ++ (9 ∷ []) ++ codes "4d") ∷ [])) ≡ fault 5 what.Place
unfolding has_no_head is_out_of_turn has_wrong_width is_unread has_no_grid is_misplaced has_wrong_grace is_wrong_bar has_wrong_tie line_fault line_of other_line signature_of number_of token_of token_chord note_of valued_note value_of recip_of marks_of pitch_key white_key gcd
out_of_place = refl

half_a_bar : read_text (text_of (codes "**kern" ∷ codes "*M4/4" ∷ codes "=1" ∷ codes "2c" ∷ codes "==" ∷ codes "*-" ∷ [])) ≡ fault 5 what.Bar
unfolding has_no_head is_out_of_turn has_wrong_width is_unread has_no_grid is_misplaced has_wrong_grace is_wrong_bar has_wrong_tie line_fault line_of other_line signature_of number_of token_of token_chord note_of valued_note value_of recip_of marks_of pitch_key white_key gcd
half_a_bar = refl

empty_line_of_two_spines : read_text (text_of ((codes "**kern" ++ (9 ∷ []) ++ codes "**kern") ∷ (codes "*M4/4" ++ (9 ∷ []) ++ codes "*M4/4") ∷ [] ∷ [])) ≡ fault 3 what.Token
unfolding has_no_head is_out_of_turn has_wrong_width is_unread has_no_grid is_misplaced has_wrong_grace is_wrong_bar has_wrong_tie line_fault line_of other_line signature_of number_of token_of token_chord note_of valued_note value_of recip_of marks_of pitch_key white_key gcd
empty_line_of_two_spines = refl

empty_line_after_the_last_barline : read_text (text_of (codes "**kern" ∷ codes "==" ∷ [] ∷ [])) ≡ fault 3 what.End
unfolding has_no_head is_out_of_turn has_wrong_width is_unread has_no_grid is_misplaced has_wrong_grace is_wrong_bar has_wrong_tie line_fault line_of other_line signature_of number_of token_of token_chord note_of valued_note value_of recip_of marks_of pitch_key white_key gcd
empty_line_after_the_last_barline = refl

empty_line_before_the_head : read_text (text_of ([] ∷ codes "**kern" ∷ [])) ≡ fault 1 what.Head
unfolding has_no_head is_out_of_turn has_wrong_width is_unread has_no_grid is_misplaced has_wrong_grace is_wrong_bar has_wrong_tie line_fault line_of other_line signature_of number_of token_of token_chord note_of valued_note value_of recip_of marks_of pitch_key white_key gcd
empty_line_before_the_head = refl

opens_and_ends : read_text (text_of (codes "**kern" ∷ codes "*M4/4" ∷ codes "=1" ∷ codes "[1c]" ∷ [])) ≡ fault 4 what.Tie
unfolding has_no_head is_out_of_turn has_wrong_width is_unread has_no_grid is_misplaced has_wrong_grace is_wrong_bar has_wrong_tie line_fault line_of other_line signature_of number_of token_of token_chord note_of valued_note value_of recip_of marks_of pitch_key white_key gcd
opens_and_ends = refl

opens_and_goes_on : read_text (text_of (codes "**kern" ∷ codes "*M4/4" ∷ codes "=1" ∷ codes "[1c_" ∷ [])) ≡ fault 4 what.Tie
unfolding has_no_head is_out_of_turn has_wrong_width is_unread has_no_grid is_misplaced has_wrong_grace is_wrong_bar has_wrong_tie line_fault line_of other_line signature_of number_of token_of token_chord note_of valued_note value_of recip_of marks_of pitch_key white_key gcd
opens_and_goes_on = refl

leading_zero_of_a_value : read_text (text_of (codes "**kern" ∷ codes "*M4/4" ∷ codes "=1" ∷ codes "04c" ∷ [])) ≡ fault 4 what.Token
unfolding has_no_head is_out_of_turn has_wrong_width is_unread has_no_grid is_misplaced has_wrong_grace is_wrong_bar has_wrong_tie line_fault line_of other_line signature_of number_of token_of token_chord note_of valued_note value_of recip_of marks_of pitch_key white_key gcd
leading_zero_of_a_value = refl

leading_zero_of_a_signature : read_text (text_of (codes "**kern" ∷ codes "*M04/4" ∷ [])) ≡ fault 2 what.Token
unfolding has_no_head is_out_of_turn has_wrong_width is_unread has_no_grid is_misplaced has_wrong_grace is_wrong_bar has_wrong_tie line_fault line_of other_line signature_of number_of token_of token_chord note_of valued_note value_of recip_of marks_of pitch_key white_key gcd
leading_zero_of_a_signature = refl

another_word_with_v : read_text (text_of (codes "**kern" ∷ codes "*vox" ∷ codes "*-x" ∷ codes "*v" ∷ [])) ≡ fault 4 what.Token
unfolding has_no_head is_out_of_turn has_wrong_width is_unread has_no_grid is_misplaced has_wrong_grace is_wrong_bar has_wrong_tie line_fault line_of other_line signature_of number_of token_of token_chord note_of valued_note value_of recip_of marks_of pitch_key white_key gcd
another_word_with_v = refl

signature_in_one_column : read_text (text_of ((codes "**kern" ++ (9 ∷ []) ++ codes "**kern") ∷ (codes "*MM90" ++ (9 ∷ []) ++ codes "*M4/4") ∷ [])) ≡ fault 2 what.Token
unfolding has_no_head is_out_of_turn has_wrong_width is_unread has_no_grid is_misplaced has_wrong_grace is_wrong_bar has_wrong_tie line_fault line_of other_line signature_of number_of token_of token_chord note_of valued_note value_of recip_of marks_of pitch_key white_key gcd
signature_in_one_column = refl

end_of_another_width : read_text (text_of ((codes "**kern" ++ (9 ∷ []) ++ codes "**kern") ∷ (codes "==" ++ (9 ∷ []) ++ codes "==") ∷ codes "*-" ∷ [])) ≡ fault 3 what.Width
unfolding has_no_head is_out_of_turn has_wrong_width is_unread has_no_grid is_misplaced has_wrong_grace is_wrong_bar has_wrong_tie line_fault line_of other_line signature_of number_of token_of token_chord note_of valued_note value_of recip_of marks_of pitch_key white_key gcd
end_of_another_width = refl

end_in_some_columns : read_text (text_of ((codes "**kern" ++ (9 ∷ []) ++ codes "**kern") ∷ (codes "==" ++ (9 ∷ []) ++ codes "==") ∷ (codes "*-" ++ (9 ∷ []) ++ codes "*x") ∷ [])) ≡ fault 3 what.End
unfolding has_no_head is_out_of_turn has_wrong_width is_unread has_no_grid is_misplaced has_wrong_grace is_wrong_bar has_wrong_tie line_fault line_of other_line signature_of number_of token_of token_chord note_of valued_note value_of recip_of marks_of pitch_key white_key gcd
end_in_some_columns = refl

end_without_a_last_barline : read_text (text_of ((codes "**kern" ++ (9 ∷ []) ++ codes "**kern") ∷ codes "*-" ∷ [])) ≡ fault 2 what.End
unfolding has_no_head is_out_of_turn has_wrong_width is_unread has_no_grid is_misplaced has_wrong_grace is_wrong_bar has_wrong_tie line_fault line_of other_line signature_of number_of token_of token_chord note_of valued_note value_of recip_of marks_of pitch_key white_key gcd
end_without_a_last_barline = refl

too_high : read_text (text_of (codes "**kern" ∷ codes "*M4/4" ∷ codes "=1" ∷ codes "cccccccc" ∷ [])) ≡ fault 4 what.Token
unfolding has_no_head is_out_of_turn has_wrong_width is_unread has_no_grid is_misplaced has_wrong_grace is_wrong_bar has_wrong_tie line_fault line_of other_line signature_of number_of token_of token_chord note_of valued_note value_of recip_of marks_of pitch_key white_key gcd
too_high = refl

too_low : read_text (text_of (codes "**kern" ∷ codes "*M4/4" ∷ codes "=1" ∷ codes "CCCCCC" ∷ [])) ≡ fault 4 what.Token
unfolding has_no_head is_out_of_turn has_wrong_width is_unread has_no_grid is_misplaced has_wrong_grace is_wrong_bar has_wrong_tie line_fault line_of other_line signature_of number_of token_of token_chord note_of valued_note value_of recip_of marks_of pitch_key white_key gcd
too_low = refl

past_the_highest : read_text (text_of (codes "**kern" ∷ codes "*M4/4" ∷ codes "=1" ∷ codes "gggggg#" ∷ [])) ≡ fault 4 what.Token
unfolding has_no_head is_out_of_turn has_wrong_width is_unread has_no_grid is_misplaced has_wrong_grace is_wrong_bar has_wrong_tie line_fault line_of other_line signature_of number_of token_of token_chord note_of valued_note value_of recip_of marks_of pitch_key white_key gcd
past_the_highest = refl

overfull : read_text (text_of (codes "**kern" ∷ codes "*M4/4" ∷ codes "=1" ∷ codes "1c" ∷ codes "4c" ∷ codes "=2" ∷ [])) ≡ fault 6 what.Bar
unfolding has_no_head is_out_of_turn has_wrong_width is_unread has_no_grid is_misplaced has_wrong_grace is_wrong_bar has_wrong_tie line_fault line_of other_line signature_of number_of token_of token_chord note_of valued_note value_of recip_of marks_of pitch_key white_key gcd
overfull = refl

grace_in_an_open_tie : read_text (text_of (codes "**kern" ∷ codes "*M4/4" ∷ codes "=1" ∷ codes "[2c" ∷ codes "qd" ∷ codes "2c]" ∷ [])) ≡ fault 6 what.Grace
unfolding has_no_head is_out_of_turn has_wrong_width is_unread has_no_grid is_misplaced has_wrong_grace is_wrong_bar has_wrong_tie line_fault line_of other_line signature_of number_of token_of token_chord note_of valued_note value_of recip_of marks_of pitch_key white_key gcd
grace_in_an_open_tie = refl

fourth_grace : read_text (text_of (codes "**kern" ∷ codes "*M4/4" ∷ codes "=1" ∷ codes "qc" ∷ codes "qd" ∷ codes "qe" ∷ codes "qf" ∷ [])) ≡ fault 7 what.Grace
unfolding has_no_head is_out_of_turn has_wrong_width is_unread has_no_grid is_misplaced has_wrong_grace is_wrong_bar has_wrong_tie line_fault line_of other_line signature_of number_of token_of token_chord note_of valued_note value_of recip_of marks_of pitch_key white_key gcd
fourth_grace = refl

grace_before_a_rest : read_text (text_of (codes "**kern" ∷ codes "*M4/4" ∷ codes "=1" ∷ codes "qc" ∷ codes "1r" ∷ [])) ≡ fault 5 what.Grace
unfolding has_no_head is_out_of_turn has_wrong_width is_unread has_no_grid is_misplaced has_wrong_grace is_wrong_bar has_wrong_tie line_fault line_of other_line signature_of number_of token_of token_chord note_of valued_note value_of recip_of marks_of pitch_key white_key gcd
grace_before_a_rest = refl

tie_of_other_keys : read_text (text_of (codes "**kern" ∷ codes "*M4/4" ∷ codes "=1" ∷ codes "[2c" ∷ codes "2d]" ∷ [])) ≡ fault 5 what.Tie
unfolding has_no_head is_out_of_turn has_wrong_width is_unread has_no_grid is_misplaced has_wrong_grace is_wrong_bar has_wrong_tie line_fault line_of other_line signature_of number_of token_of token_chord note_of valued_note value_of recip_of marks_of pitch_key white_key gcd
tie_of_other_keys = refl

tie_open_at_the_end : read_text (text_of (codes "**kern" ∷ codes "*M4/4" ∷ codes "=1" ∷ codes "[1c" ∷ codes "==" ∷ [])) ≡ fault 5 what.Tie
unfolding has_no_head is_out_of_turn has_wrong_width is_unread has_no_grid is_misplaced has_wrong_grace is_wrong_bar has_wrong_tie line_fault line_of other_line signature_of number_of token_of token_chord note_of valued_note value_of recip_of marks_of pitch_key white_key gcd
tie_open_at_the_end = refl

signature_counts_later : read_text (text_of (codes "**kern" ∷ codes "*M4/4" ∷ codes "=1" ∷ codes "*M2/4" ∷ codes "2c" ∷ codes "=2" ∷ [])) ≡ fault 6 what.Bar
unfolding has_no_head is_out_of_turn has_wrong_width is_unread has_no_grid is_misplaced has_wrong_grace is_wrong_bar has_wrong_tie line_fault line_of other_line signature_of number_of token_of token_chord note_of valued_note value_of recip_of marks_of pitch_key white_key gcd
signature_counts_later = refl

bar_without_signature : read_text (text_of (codes "**kern" ∷ codes "=1" ∷ [])) ≡ fault 2 what.Bar
unfolding has_no_head is_out_of_turn has_wrong_width is_unread has_no_grid is_misplaced has_wrong_grace is_wrong_bar has_wrong_tie line_fault line_of other_line signature_of number_of token_of token_chord note_of valued_note value_of recip_of marks_of pitch_key white_key gcd
bar_without_signature = refl

data_before_a_bar : read_text (text_of (codes "**kern" ∷ codes "*M4/4" ∷ codes "4c" ∷ [])) ≡ fault 3 what.Place
unfolding has_no_head is_out_of_turn has_wrong_width is_unread has_no_grid is_misplaced has_wrong_grace is_wrong_bar has_wrong_tie line_fault line_of other_line signature_of number_of token_of token_chord note_of valued_note value_of recip_of marks_of pitch_key white_key gcd
data_before_a_bar = refl

after_the_end : read_text (text_of (codes "**kern" ∷ codes "==" ∷ codes "*-" ∷ codes "!" ∷ codes "*-" ∷ [])) ≡ fault 5 what.End
unfolding has_no_head is_out_of_turn has_wrong_width is_unread has_no_grid is_misplaced has_wrong_grace is_wrong_bar has_wrong_tie line_fault line_of other_line signature_of number_of token_of token_chord note_of valued_note value_of recip_of marks_of pitch_key white_key gcd
after_the_end = refl

no_bar : is_read (read_text (text_of (codes "**kern" ∷ codes "==" ∷ codes "*-" ∷ []))) ≡ true
unfolding has_no_head is_out_of_turn has_wrong_width is_unread has_no_grid is_misplaced has_wrong_grace is_wrong_bar has_wrong_tie line_fault line_of other_line signature_of number_of token_of token_chord note_of valued_note value_of recip_of marks_of pitch_key white_key gcd
no_bar = refl

longs : is_read (read_text (text_of (codes "**kern" ∷ codes "*M28/4" ∷ codes "=1" ∷ codes "00..r" ∷ codes "==" ∷ codes "*-" ∷ []))) ≡ true
unfolding has_no_head is_out_of_turn has_wrong_width is_unread has_no_grid is_misplaced has_wrong_grace is_wrong_bar has_wrong_tie line_fault line_of other_line signature_of number_of token_of token_chord note_of valued_note value_of recip_of marks_of pitch_key white_key gcd
longs = refl

one_bar : is_read (read_text (text_of (codes "**kern" ∷ codes "*M4/4" ∷ codes "=1" ∷ codes "4c" ∷ codes "2.d-" ∷ codes "==" ∷ codes "*-" ∷ codes "!!!" ∷ []))) ≡ true
unfolding has_no_head is_out_of_turn has_wrong_width is_unread has_no_grid is_misplaced has_wrong_grace is_wrong_bar has_wrong_tie line_fault line_of other_line signature_of number_of token_of token_chord note_of valued_note value_of recip_of marks_of pitch_key white_key gcd
one_bar = refl
