use Rattle.std.proofs.Common.{◌≡◌, ◌==◌, ◌++◌, ◌<◌, ℕ, ap, sym, ◌∙◌, drop, length, subst}
use Rattle.std.specs.Prelude.{None, Some, is_some}
use Rattle.std.specs.List.{prefix_len, take_while}
use Rattle.std.proofs.lemmas.List.{append-nil, append_assoc, take-append-drop}
use Rattle.rhythm_base.specs.declared.sound.Sound.{Sound}
use Rattle.derivation.proofs.NextSounds.{fewer_left, first_bar, over}
use Rattle.derivation.proofs.ahead.SoundsAhead.push_all.Goals as goal

pub bars-preserved : goal.bars-preserved
bars-preserved c =
    let n : ℕ = c.in-Some.bar in
    let before = c.bars.sounds.items in
    let k = prefix_len (λ (s : Sound). s.bar == n) c.bars.self in
    ap (λ xs. xs ++ c.push_bar.new.self) c.in_ok-push_bar.ensures.own
    ∙ ap (λ xs. (before ++ take_while (λ s. s.bar == n) c.bars.self) ++ xs) c.in_ok-push_bar.ensures.rest
    ∙ append_assoc before (take_while (λ s. s.bar == n) c.bars.self) (drop k c.bars.self)
    ∙ ap (λ xs. before ++ xs) (take-append-drop k c.bars.self)
    ∙ c.bars.invariant

pub bars-smaller : goal.bars-smaller
bars-smaller c =
    let n : ℕ = c.in-Some.bar in
    let next : first_bar c.bars.self ≡ Some n = sym c.next_number.ensures ∙ c.in-Some.is in
    subst (λ xs. length xs < length c.bars.self) (sym c.in_ok-push_bar.ensures.rest) (fewer_left n c.bars.self next)

pub returns : goal.returns
returns c =
    let none : first_bar c.bars.self ≡ None = sym c.next_number.ensures ∙ c.in_default.is in
    sym (append-nil c.bars.sounds.items) ∙ ap (λ xs. c.bars.sounds.items ++ xs) (sym (over c.bars.self (ap is_some none))) ∙ c.bars.invariant
