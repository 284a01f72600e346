-- The kinds of lines of a text: each begins with a byte of its own, and says what it is of.
use Rattle.std.proofs.Common.{◌≡◌, ℕ, ◌<◌, ◌^◌, [], ◌∷◌, refl}
use Rattle.std.specs.Prelude.{codes, decimal}
use Rattle.std.specs.Fmt.{signed_decimal}
use Rattle.std.specs.Int.Signed.{mag}
use Rattle.std.proofs.lemmas.Fmt.{decimal_injective, signed_decimal_injective}
use Rattle.rhythm_base.specs.declared.event.KeyMark.{KeyMark}
use Rattle.rhythm_base.specs.declared.event.Tempo.{Tempo}
use Rattle.rhythm_base.specs.declared.note.Bar.{Bar}
use Rattle.rhythm_base.specs.declared.note.Note.{Note}
use Rattle.notes_writer.specs.Line.{record_signature}
use Rattle.notes_writer.specs.NotesText.{bar_record, end_line, key_record, note_line, tempo_record}
use Rattle.notes_writer.proofs.Graphic.{number_graphic, sharps_graphic, signature_graphic, signature_one}
use Rattle.notes_writer.proofs.RunsApart.{IsKind}
use Rattle.notes_writer.proofs.WordsApart.{AreGraphic}

-- the first bytes of the names: of b, t, k, n and e
abbrev pub bar_byte : ℕ
bar_byte = 98

abbrev pub tempo_byte : ℕ
tempo_byte = 116

abbrev pub key_byte : ℕ
key_byte = 107

abbrev pub note_byte : ℕ
note_byte = 110

abbrev pub end_byte : ℕ
end_byte = 101

-- numbers of 64 bits
pub record IsSmallBar (x : ℕ × Bar) : Type 0 where
  pub number : x.0 < 2 ^ 64
  pub start : x.1.start < 2 ^ 64
  pub num : x.1.num < 2 ^ 64
  pub den : x.1.den < 2 ^ 64

pub record IsSmallTempo (t : Tempo) : Type 0 where
  pub tick : t.tick < 2 ^ 64
  pub micros : t.micros < 2 ^ 64

pub record IsSmallKey (k : KeyMark) : Type 0 where
  pub tick : k.tick < 2 ^ 64
  pub sf : mag k.sf < 2 ^ 63

pub record IsSmallNote (n : Note) : Type 0 where
  pub channel : n.channel < 2 ^ 64
  pub key : n.key < 2 ^ 64
  pub onset : n.onset < 2 ^ 64
  pub end : n.end < 2 ^ 64

pub bars : IsKind bar_byte IsSmallBar bar_record
bars = record {
  name = codes "ar";
  words = λ x. decimal x.0 ∷ decimal x.1.start ∷ record_signature x.1.num x.1.den ∷ [];
  is = λ x. refl;
  graphic = λ x h. (refl, (number_graphic x.0 h.number, (number_graphic x.1.start h.start, (signature_graphic x.1.num x.1.den h.num h.den, tt))));
  one = λ x y h k e.
      let first : decimal x.0 ≡ decimal y.0 = cc in
      let second : decimal x.1.start ≡ decimal y.1.start = cc in
      let third : record_signature x.1.num x.1.den ≡ record_signature y.1.num y.1.den = cc in
      let number = decimal_injective x.0 y.0 h.number k.number first in
      let start = decimal_injective x.1.start y.1.start h.start k.start second in
      let signature = signature_one x.1.num x.1.den y.1.num y.1.den h.num h.den k.num k.den third in
      λ i. (number i, record { start = start i; num = signature.0 i; den = signature.1 i });
}

pub tempos : IsKind tempo_byte IsSmallTempo tempo_record
tempos = record {
  name = codes "empo";
  words = λ t. decimal t.tick ∷ decimal t.micros ∷ [];
  is = λ t. refl;
  graphic = λ t h. (refl, (number_graphic t.tick h.tick, (number_graphic t.micros h.micros, tt)));
  one = λ t u h k e.
      let first : decimal t.tick ≡ decimal u.tick = cc in
      let second : decimal t.micros ≡ decimal u.micros = cc in
      let tick = decimal_injective t.tick u.tick h.tick k.tick first in
      let micros = decimal_injective t.micros u.micros h.micros k.micros second in
      λ i. record { tick = tick i; micros = micros i };
}

pub keys : IsKind key_byte IsSmallKey key_record
keys = record {
  name = codes "ey";
  words = λ t. decimal t.tick ∷ signed_decimal t.sf ∷ [];
  is = λ t. refl;
  graphic = λ t h. (refl, (number_graphic t.tick h.tick, (sharps_graphic t.sf h.sf, tt)));
  one = λ t u h k e.
      let first : decimal t.tick ≡ decimal u.tick = cc in
      let second : signed_decimal t.sf ≡ signed_decimal u.sf = cc in
      let tick = decimal_injective t.tick u.tick h.tick k.tick first in
      let sf = signed_decimal_injective t.sf u.sf h.sf k.sf second in
      λ i. record { tick = tick i; sf = sf i };
}

pub notes : IsKind note_byte IsSmallNote note_line
notes = record {
  name = codes "ote";
  words = λ n. decimal n.channel ∷ decimal n.key ∷ decimal n.onset ∷ decimal n.end ∷ [];
  is = λ n. refl;
  graphic = λ n h.
      let later : AreGraphic (decimal n.onset ∷ decimal n.end ∷ []) = (number_graphic n.onset h.onset, (number_graphic n.end h.end, tt)) in
      (refl, (number_graphic n.channel h.channel, (number_graphic n.key h.key, later)));
  one = λ m n h k e.
      let first : decimal m.channel ≡ decimal n.channel = cc in
      let second : decimal m.key ≡ decimal n.key = cc in
      let third : decimal m.onset ≡ decimal n.onset = cc in
      let fourth : decimal m.end ≡ decimal n.end = cc in
      let channel = decimal_injective m.channel n.channel h.channel k.channel first in
      let key = decimal_injective m.key n.key h.key k.key second in
      let onset = decimal_injective m.onset n.onset h.onset k.onset third in
      let end = decimal_injective m.end n.end h.end k.end fourth in
      λ i. record { channel = channel i; key = key i; onset = onset i; end = end i };
}

pub ends : IsKind end_byte (λ n. n < 2 ^ 64) end_line
ends = record {
  name = codes "nd";
  words = λ n. decimal n ∷ [];
  is = λ n. refl;
  graphic = λ n h. (refl, (number_graphic n h, tt));
  one = λ m n h k e. let first : decimal m ≡ decimal n = cc in decimal_injective m n h k first;
}
