-- Takes prepared by options, worked out.
use Rattle.std.proofs.Common.{◌≡◌, ℕ, true, List, [], ◌∷◌, refl, Some, Ok, Err}
use Rattle.std.specs.Prelude.{pos, negsuc}
use Rattle.rhythm_base.specs.declared.note.Note.{Note}
use Rattle.performance_load.specs.Take.{Take}
use Rattle.performance_prepare.specs.Drums.{without_drums}
use Rattle.performance_prepare.specs.Laws.{no_options}
use Rattle.performance_prepare.specs.Prepared.{prepared}
use Rattle.performance_prepare.specs.Split.{with_split}
use Rattle.performance_prepare.specs.Tempo.{finer, fineness, with_tempo}
use Rattle.performance_prepare.specs.Upbeat.{with_upbeat}
use Rattle.performance_prepare.specs.declared.options.Fraction.{Fraction}
use Rattle.performance_prepare.specs.declared.prepare_fault.PrepareFault.TheVariants.{BadUpbeat, NoNotes, TooLate, TooManyVoices, WrongDivision}

abbrev note : ℕ → ℕ → ℕ → ℕ → Note
note channel key onset end = record { channel = channel; key = key; onset = onset; end = end }

abbrev part : ℕ → ℕ → Fraction
part num den = record { num = num; den = den }

-- notes in 4/4 at the usual tempo
abbrev take_of : ℕ → List Note → Take
take_of division notes = record { division = division; notes = notes; tempos = []; key_marks = []; signatures = [] }

abbrev four_notes : List Note
four_notes = note 0 60 0 480 ∷ note 0 62 480 960 ∷ note 0 64 960 1440 ∷ note 0 65 1440 1920 ∷ []

-- the lower two of four notes
split_at_the_third : with_split 64 (take_of 480 four_notes) ≡ Ok (take_of 480 (note 0 64 960 1440 ∷ note 0 65 1440 1920 ∷ note 1 60 0 480 ∷
    note 1 62 480 960 ∷ []))
split_at_the_third = refl

-- a channel that lies on one side and that of drums stay
three_voices :
    with_split 60 (take_of 480
    (note 0 40 0 960 ∷ note 0 60 0 480 ∷ note 1 30 960 1920 ∷ note 3 50 480 960 ∷ note 3 64 480 960 ∷ note 9 35 0 480 ∷ note 9 70 0 480 ∷
    []))
    ≡ Ok (take_of 480
    (note 0 60 0 480 ∷ note 1 30 960 1920 ∷ note 2 40 0 960 ∷ note 3 64 480 960 ∷ note 4 50 480 960 ∷ note 9 35 0 480 ∷ note 9 70 0 480 ∷
    []))
three_voices = refl

-- nine channels on both sides want two more than there are
too_many_voices : with_split 60 (take_of 480
    (note 0 50 0 480 ∷ note 0 70 0 480 ∷ note 1 50 0 480 ∷ note 1 70 0 480 ∷ note 2 50 0 480 ∷ note 2 70 0 480 ∷ note 3 50 0 480 ∷
    note 3 70 0 480 ∷ note 4 50 0 480 ∷ note 4 70 0 480 ∷ note 5 50 0 480 ∷ note 5 70 0 480 ∷ note 6 50 0 480 ∷ note 6 70 0 480 ∷
    note 7 50 0 480 ∷ note 7 70 0 480 ∷ note 8 50 0 480 ∷ note 8 70 0 480 ∷ [])) ≡ Err (TooManyVoices 18)
too_many_voices = refl

-- the channel of drums is given away last of all
after_the_drums : with_split 60 (take_of 480
    (note 0 50 0 480 ∷ note 0 70 0 480 ∷ note 1 70 0 480 ∷ note 2 70 0 480 ∷ note 3 70 0 480 ∷ note 4 70 0 480 ∷ note 5 70 0 480 ∷
    note 6 70 0 480 ∷ note 7 70 0 480 ∷ note 8 70 0 480 ∷ []))
    ≡ Ok (take_of 480
    (note 0 70 0 480 ∷ note 1 70 0 480 ∷ note 2 70 0 480 ∷ note 3 70 0 480 ∷ note 4 70 0 480 ∷ note 5 70 0 480 ∷ note 6 70 0 480 ∷
    note 7 70 0 480 ∷ note 8 70 0 480 ∷ note 10 50 0 480 ∷ []))
after_the_drums = refl

-- 100 quarters a minute in place of 120: ticks are 16 times as fine, and a quarter has 9,216 of them
slower : with_tempo 100 (take_of 480 four_notes) ≡ Ok (record {
  division = 9216;
  notes = note 0 60 0 7680 ∷ note 0 62 7680 15360 ∷ note 0 64 15360 23040 ∷ note 0 65 23040 30720 ∷ [];
  tempos = record { tick = 0; micros = 600000 } ∷ [];
  key_marks = [];
  signatures = [];
})
unfolding finer fineness
slower = refl

-- a later tempo goes along, and a bar of 7/8 has a whole number of ticks
seven_eighths : with_tempo 92 (record {
  division = 480;
  notes = note 0 60 0 480 ∷ note 0 62 480 1680 ∷ [];
  tempos = record { tick = 0; micros = 500000 } ∷ record { tick = 480; micros = 400000 } ∷ [];
  key_marks = [];
  signatures = record { tick = 0; num = 7; dd = 3 } ∷ [];
}) ≡ Ok (record {
  division = 10018;
  notes = note 0 60 0 7680 ∷ note 0 62 7680 26880 ∷ [];
  tempos = record { tick = 0; micros = 652214 } ∷ record { tick = 7680; micros = 521771 } ∷ [];
  key_marks = [];
  signatures = record { tick = 0; num = 7; dd = 3 } ∷ [];
})
unfolding finer fineness
seven_eighths = refl

much_slower : with_tempo 1 (take_of 480 four_notes) ≡ Err (WrongDivision 921600)
unfolding finer fineness
much_slower = refl

-- the first note a quarter before a barline
a_quarter_before : with_upbeat (part 1 4) (take_of 480 four_notes) ≡ Ok (take_of 480 (note 0 60 1440 1920 ∷ note 0 62 1920 2400 ∷
    note 0 64 2400 2880 ∷ note 0 65 2880 3360 ∷ []))
a_quarter_before = refl

-- an upbeat of a whole bar is as one of none
whole_bar : with_upbeat (part 4 4) (take_of 480 four_notes) ≡ Ok (take_of 480 four_notes)
whole_bar = refl

longer_than_the_bar : with_upbeat (part 5 4) (take_of 480 four_notes) ≡ Err (BadUpbeat 5 4)
longer_than_the_bar = refl

no_whole_ticks : with_upbeat (part 1 64) (take_of 8 (note 0 60 3 20 ∷ note 0 62 20 32 ∷ [])) ≡ Err (BadUpbeat 1 64)
no_whole_ticks = refl

-- a take that begins late, with changes before its first note
abbrev late_take : Take
late_take = record {
  division = 480;
  notes = note 0 60 700 1180 ∷ note 0 62 1180 1660 ∷ note 0 64 1660 2140 ∷ [];
  tempos = record { tick = 0; micros = 400000 } ∷ record { tick = 650; micros = 600000 } ∷ [];
  key_marks = record { tick = 30; sf = negsuc 1 } ∷ [];
  signatures = [];
}

-- it begins a bar: what was at tick 0 stays there, and no change comes before it
begins_a_bar : with_upbeat (part 0 4) late_take ≡ Ok (record {
  division = 480;
  notes = note 0 60 0 480 ∷ note 0 62 480 960 ∷ note 0 64 960 1440 ∷ [];
  tempos = record { tick = 0; micros = 400000 } ∷ record { tick = 0; micros = 600000 } ∷ [];
  key_marks = record { tick = 0; sf = negsuc 1 } ∷ [];
  signatures = [];
})
begins_a_bar = refl

-- it begins a quarter before one: later changes move with the notes
begins_before_a_bar : with_upbeat (part 1 4) late_take ≡ Ok (record {
  division = 480;
  notes = note 0 60 1440 1920 ∷ note 0 62 1920 2400 ∷ note 0 64 2400 2880 ∷ [];
  tempos = record { tick = 0; micros = 400000 } ∷ record { tick = 1390; micros = 600000 } ∷ [];
  key_marks = record { tick = 770; sf = negsuc 1 } ∷ [];
  signatures = [];
})
begins_before_a_bar = refl

-- where the first bar cannot be laid the take stays
no_such_bar : with_upbeat (part 1 4) (record late_take {
  signatures = record { tick = 0; num = 0; dd = 2 } ∷
      [];
}) ≡ Ok (record late_take { signatures = record { tick = 0; num = 0; dd = 2 } ∷ [] })
no_such_bar = refl

-- a note that would end too late
too_late : with_upbeat (part 1 4) (take_of 480 (note 0 60 0 1000000000 ∷ [])) ≡ Err (TooLate 1000001440)
too_late = refl

too_late_where_fine : with_tempo 100 (take_of 480 (note 0 60 0 1000000000 ∷ [])) ≡ Err (TooLate 16000000000)
unfolding finer fineness
too_late_where_fine = refl

-- an upbeat of a quarter in 3/4: the meter and the tempo come before the upbeat
four_options :
    prepared (record no_options {
      split = Some 64;
      meter = Some (part 3 4);
      tempo = Some 100;
      upbeat = Some (part 1 4);
    }) (take_of 480 four_notes) ≡ Ok (record {
      division = 9216;
      notes = note 0 64 33792 41472 ∷ note 0 65 41472 49152 ∷ note 1 60 18432 26112 ∷ note 1 62 26112 33792 ∷ [];
      tempos = record { tick = 0; micros = 600000 } ∷ [];
      key_marks = [];
      signatures = record { tick = 0; num = 3; dd = 2 } ∷ [];
    })
unfolding finer fineness
four_options = refl

-- the key stands at tick 0 whatever the upbeat
a_key_and_an_upbeat : prepared (record no_options { upbeat = Some (part 1 4); key = Some (pos 2) }) late_take ≡ Ok (record {
  division = 480;
  notes = note 0 60 1440 1920 ∷ note 0 62 1920 2400 ∷ note 0 64 2400 2880 ∷ [];
  tempos = record { tick = 0; micros = 400000 } ∷ record { tick = 1390; micros = 600000 } ∷ [];
  key_marks = record { tick = 0; sf = pos 2 } ∷ [];
  signatures = [];
})
a_key_and_an_upbeat = refl

abbrev with_a_drum : Take
with_a_drum = take_of 480 (note 0 60 480 960 ∷ note 9 36 0 240 ∷ note 9 38 960 7680 ∷ [])

-- drums do not begin the upbeat
no_drums_before : prepared (record no_options { no_drums = true; upbeat = Some (part 0 4) }) with_a_drum
    ≡ Ok (take_of 480 (note 0 60 0 480 ∷ []))
no_drums_before = refl

only_drums : without_drums (take_of 480 (note 9 36 0 480 ∷ [])) ≡ Err NoNotes
only_drums = refl

-- the channel of drums is free for a split only where they go
abbrev sixteen_voices : List Note
sixteen_voices =
    note 0 50 0 480 ∷ note 0 60 0 480 ∷ note 1 50 0 480 ∷ note 1 60 0 480 ∷ note 2 50 0 480 ∷ note 2 60 0 480 ∷ note 3 50 0 480 ∷
    note 3 60 0 480 ∷ note 4 50 0 480 ∷ note 4 60 0 480 ∷ note 5 50 0 480 ∷ note 5 60 0 480 ∷ note 6 50 0 480 ∷ note 6 60 0 480 ∷
    note 7 50 0 480 ∷ note 7 60 0 480 ∷ note 8 60 0 480 ∷ note 9 60 0 480 ∷ note 10 60 0 480 ∷ note 11 60 0 480 ∷ note 12 60 0 480 ∷
    note 13 60 0 480 ∷ note 14 60 0 480 ∷ note 15 60 0 480 ∷ []

all_channels_taken : with_split 60 (take_of 480 sixteen_voices) ≡ Err (TooManyVoices 24)
all_channels_taken = refl

one_channel_free : prepared (record no_options { no_drums = true; split = Some 60 }) (take_of 480 sixteen_voices) ≡ Err (TooManyVoices 23)
one_channel_free = refl
