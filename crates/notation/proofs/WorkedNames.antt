-- Worked names, by the definitions.
use Rattle.std.specs.Prelude.{◌≡◌, pos, negsuc, refl, Some, None}
use Rattle.notation.specs.declared.names.Alteration.TheVariants.{Flat, Sharp}
use Rattle.notation.specs.declared.names.Letter.TheVariants.{C, D, E, B}
use Rattle.notation.specs.Names.{first_place, pitch_name}

-- in C sharp major middle C is the B sharp of the octave below
b_sharp : pitch_name (Some (pos 7)) 60 ≡ record { letter = B; alteration = Sharp; octave = pos 3 }
unfolding first_place
b_sharp = refl

lowest_key : pitch_name (Some (pos 7)) 0 ≡ record { letter = B; alteration = Sharp; octave = negsuc 1 }
unfolding first_place
lowest_key = refl

-- in C flat major the key below middle C is a C flat of its octave
c_flat : pitch_name (Some (negsuc 6)) 59 ≡ record { letter = C; alteration = Flat; octave = pos 4 }
unfolding first_place
c_flat = refl

-- in G major
b_flat : pitch_name (Some (pos 1)) 58 ≡ record { letter = B; alteration = Flat; octave = pos 3 }
unfolding first_place
b_flat = refl

d_sharp : pitch_name (Some (pos 1)) 63 ≡ record { letter = D; alteration = Sharp; octave = pos 4 }
unfolding first_place
d_sharp = refl

-- without a key signature as in C major
e_flat : pitch_name None 63 ≡ record { letter = E; alteration = Flat; octave = pos 4 }
unfolding first_place
e_flat = refl
