-- A take as contracts see it: what was played, before bars are laid.
use Rattle.std.specs.Prelude.{ℕ, List, refl}
use Rattle.std.specs.Coded.{Coded, code_by, coded×, coded_ℕ, coded_list}
use Rattle.rhythm_base.specs.declared.event.KeyMark.{KeyMark}
use Rattle.rhythm_base.specs.declared.event.Signature.{Signature}
use Rattle.rhythm_base.specs.declared.event.Tempo.{Tempo}
use Rattle.rhythm_base.specs.declared.note.Note.{Note}
use Rattle.rhythm_base.specs.PerformanceCode.{key_mark_code, note_code, tempo_code}

pub record Take : Type 0 where
  pub division : ℕ
  pub notes : List Note
  pub tempos : List Tempo
  pub key_marks : List KeyMark
  pub signatures : List Signature

abbrev pub signature_code : Coded Signature
signature_code =
    code_by (ℕ × (ℕ × ℕ)) (coded× coded_ℕ (coded× coded_ℕ coded_ℕ)) (λ s. (s.tick, (s.num, s.dd)))
    (λ q. record { tick = q.0; num = q.1.0; dd = q.1.1 }) (λ _. refl)

abbrev pub take_code : Coded Take
take_code =
    code_by
    (ℕ × (List Note × (List Tempo × (List KeyMark × List Signature))))
    (coded× coded_ℕ (coded× (coded_list note_code) (coded× (coded_list tempo_code) (coded× (coded_list key_mark_code) (coded_list signature_code)))))
    (λ t. (t.division, (t.notes, (t.tempos, (t.key_marks, t.signatures)))))
    (λ q. record { division = q.0; notes = q.1.0; tempos = q.1.1.0; key_marks = q.1.1.1.0; signatures = q.1.1.1.1 })
    (λ _. refl)
