-- The parts of a performance as plain values and back.
use Rattle.std.specs.Prelude.{ℕ, ℤ, List, refl}
use Rattle.std.specs.Coded.{Coded, code_by, coded×, coded_ℕ, coded_ℤ, coded_list}
use Rattle.rhythm_base.specs.declared.event.Tempo.{Tempo}
use Rattle.rhythm_base.specs.declared.event.KeyMark.{KeyMark}
use Rattle.rhythm_base.specs.declared.note.Bar.{Bar}
use Rattle.rhythm_base.specs.declared.note.Note.{Note}
use Rattle.rhythm_base.specs.declared.pin.Pin.{Pin}
use Rattle.rhythm_base.specs.ShapeCode.{shape_code}
use Rattle.rhythm_base.specs.Shape.{Shape}
use Rattle.rhythm_base.specs.Performance.{Performance}

abbrev pub tempo_code : Coded Tempo
tempo_code = code_by (ℕ × ℕ) (coded× coded_ℕ coded_ℕ) (λ t. (t.tick, t.micros)) (λ q. record { tick = q.0; micros = q.1 }) (λ _. refl)

abbrev pub key_mark_code : Coded KeyMark
key_mark_code = code_by (ℕ × ℤ) (coded× coded_ℕ coded_ℤ) (λ k. (k.tick, k.sf)) (λ q. record { tick = q.0; sf = q.1 }) (λ _. refl)

abbrev pub bar_code : Coded Bar
bar_code =
    code_by (ℕ × (ℕ × ℕ)) (coded× coded_ℕ (coded× coded_ℕ coded_ℕ)) (λ b. (b.start, (b.num, b.den)))
    (λ q. record { start = q.0; num = q.1.0; den = q.1.1 }) (λ _. refl)

abbrev pub note_code : Coded Note
note_code =
    code_by (ℕ × (ℕ × (ℕ × ℕ))) (coded× coded_ℕ (coded× coded_ℕ (coded× coded_ℕ coded_ℕ))) (λ n. (n.channel, (n.key, (n.onset, n.end))))
    (λ q. record { channel = q.0; key = q.1.0; onset = q.1.1.0; end = q.1.1.1 }) (λ _. refl)

abbrev pub pin_code : Coded Pin
pin_code =
    code_by (ℕ × (ℕ × Shape)) (coded× coded_ℕ (coded× coded_ℕ shape_code)) (λ p. (p.channel, (p.bar, p.shape)))
    (λ q. record { channel = q.0; bar = q.1.0; shape = q.1.1 }) (λ _. refl)

abbrev pub performance_code : Coded Performance
performance_code =
    code_by
    (ℕ × (List Tempo × (List KeyMark × (List Bar × (ℕ × (List ℕ × (List Note × List Pin)))))))
    (coded× coded_ℕ (coded× (coded_list tempo_code) (coded× (coded_list key_mark_code) (coded× (coded_list bar_code)
    (coded× coded_ℕ (coded× (coded_list coded_ℕ) (coded× (coded_list note_code) (coded_list pin_code))))))))
    (λ p. (p.division, (p.tempos, (p.key_marks, (p.bars, (p.last, (p.channels, (p.notes, p.pins))))))))
    (λ q. record { division = q.0; tempos = q.1.0; key_marks = q.1.1.0; bars = q.1.1.1.0; last = q.1.1.1.1.0; channels = q.1.1.1.1.1.0; notes = q.1.1.1.1.1.1.0; pins = q.1.1.1.1.1.1.1 })
    (λ _. refl)
