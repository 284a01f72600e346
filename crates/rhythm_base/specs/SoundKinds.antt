-- The kinds of sounds.
use Rattle.std.specs.Prelude.{Bool, true, false}
use Rattle.rhythm_base.specs.declared.sound.SoundKind.{SoundKind}
use Rattle.rhythm_base.specs.declared.sound.SoundKind.TheVariants.{Begin, Short, Tie, Rest}

abbrev pub begins_chord : SoundKind → Bool
begins_chord Begin = true
begins_chord Short = true
begins_chord Tie = false
begins_chord Rest = false

abbrev pub is_short : SoundKind → Bool
is_short Begin = false
is_short Short = true
is_short Tie = false
is_short Rest = false

abbrev pub is_tie : SoundKind → Bool
is_tie Begin = false
is_tie Short = false
is_tie Tie = true
is_tie Rest = false

abbrev pub is_rest : SoundKind → Bool
is_rest Begin = false
is_rest Short = false
is_rest Tie = false
is_rest Rest = true
