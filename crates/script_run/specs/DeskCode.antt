-- A desk, and what is heard on it, as plain values and back.
use Rattle.std.specs.Prelude.{◌≡◌, ◌⊎◌, ℕ, List, refl}
use Rattle.std.proofs.Common.{inl, inr}
use Rattle.std.specs.Coded.{Coded, code_by, coded×, coded⊎, coded_list, coded_ℕ}
use Rattle.rhythm_base.specs.Grammar.{Grammar}
use Rattle.rhythm_base.specs.Performance.{Performance}
use Rattle.session_history.specs.History.{History}
use Rattle.script_run.specs.Desk.{Desk, editor, studio}
use Rattle.script_run.specs.Hearing.{Heard}

abbrev pub desk_parts : Desk → (Grammar × Performance) ⊎ History
desk_parts (editor g p) = inl (g, p)
desk_parts (studio h) = inr h

abbrev pub coded_desk : (Grammar × Performance) ⊎ History → Desk
coded_desk (inl (g, p)) = editor g p
coded_desk (inr h) = studio h

pub parts_are : (desk : Desk) → coded_desk (desk_parts desk) ≡ desk
parts_are (editor g p) = refl
parts_are (studio h) = refl

abbrev pub desk_code : Coded Grammar → Coded Performance → Coded History → Coded Desk
desk_code grammar performance history = code_by ((Grammar × Performance) ⊎ History) (coded⊎ (coded× grammar performance) history) desk_parts coded_desk parts_are

abbrev pub heard_code : Coded Grammar → Coded Performance → Coded History → Coded Heard
heard_code grammar performance history =
    code_by (Desk × (List ℕ × ℕ)) (coded× (desk_code grammar performance history) (coded× (coded_list coded_ℕ) coded_ℕ)) (λ h. (h.desk, (h.begun, h.read)))
    (λ q. record { desk = q.0; begun = q.1.0; read = q.1.1 }) (λ _. refl)
