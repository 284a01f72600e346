-- The definitions at the number 7.
use Rattle.std.proofs.Common.{◌≡◌, [], ◌∷◌, map, refl}
use Rattle.rhythm_gen.specs.Draws.{draw}
use Rattle.rhythm_gen.specs.MidiFile.{generated}
use Rattle.smf_bytes.specs.Track.{bytes_from}

draws_of_seven : map (draw 7) (1 ∷ 2 ∷ 3 ∷ 4 ∷ 5 ∷ 6 ∷ 7 ∷ 8 ∷ []) ≡ 599 ∷ 44999 ∷ 32612 ∷ 21105 ∷ 10061 ∷ 33742 ∷ 40318 ∷ 9222 ∷ []
unfolding draw
draws_of_seven = refl

file_of_seven : generated 7 1 ≡ 77 ∷ 84 ∷ 104 ∷ 100 ∷ 0 ∷ 0 ∷ 0 ∷ 6 ∷ 0 ∷ 1 ∷ 0 ∷ 3 ∷ 1 ∷ 224 ∷ 77 ∷ 84 ∷ 114 ∷ 107 ∷ 0 ∷ 0 ∷ 0 ∷ 19 ∷ 0 ∷ 255 ∷ 81 ∷ 3 ∷ 7 ∷ 161 ∷ 32 ∷ 0 ∷ 255 ∷ 88 ∷ 4 ∷ 4 ∷ 2 ∷ 24 ∷ 8 ∷ 0 ∷ 255 ∷ 47 ∷ 0 ∷ 77 ∷ 84 ∷ 114 ∷ 107 ∷ 0 ∷ 0 ∷ 0 ∷ 50 ∷ 2 ∷ 144 ∷ 67 ∷ 64 ∷ 129 ∷ 52 ∷ 128 ∷ 67 ∷ 0 ∷ 60 ∷ 144 ∷ 67 ∷ 64 ∷ 129 ∷ 52 ∷ 128 ∷ 67 ∷ 0 ∷ 72 ∷ 144 ∷ 67 ∷ 64 ∷ 129 ∷ 52 ∷ 128 ∷ 67 ∷ 0 ∷ 60 ∷ 144 ∷ 67 ∷ 64 ∷ 129 ∷ 52 ∷ 128 ∷ 67 ∷ 0 ∷ 132 ∷ 19 ∷ 144 ∷ 71 ∷ 64 ∷ 131 ∷ 16 ∷ 128 ∷ 71 ∷ 0 ∷ 75 ∷ 255 ∷ 47 ∷ 0 ∷ 77 ∷ 84 ∷ 114 ∷ 107 ∷ 0 ∷ 0 ∷ 0 ∷ 40 ∷ 16 ∷ 145 ∷ 59 ∷ 64 ∷ 131 ∷ 16 ∷ 129 ∷ 59 ∷ 0 ∷ 78 ∷ 145 ∷ 53 ∷ 64 ∷ 131 ∷ 16 ∷ 129 ∷ 53 ∷ 0 ∷ 86 ∷ 145 ∷ 59 ∷ 64 ∷ 131 ∷ 16 ∷ 129 ∷ 59 ∷ 0 ∷ 76 ∷ 145 ∷ 49 ∷ 64 ∷ 131 ∷ 16 ∷ 129 ∷ 49 ∷ 0 ∷ 64 ∷ 255 ∷ 47 ∷ 0 ∷ []
unfolding draw bytes_from
file_of_seven = refl
