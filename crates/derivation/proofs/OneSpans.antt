-- The sounds of a voice have one list of spans.
use Rattle.std.proofs.Common.{◌≡◌, ℕ, ◌≤◌, List, [], ◌∷◌, sym, ap₂, ◌∙◌, arith}
use Rattle.rhythm_base.specs.declared.note.Bar.{Bar}
use Rattle.rhythm_base.specs.declared.sound.Sound.{Sound}
use Rattle.rhythm_base.specs.declared.span.Span.{Span}
use Rattle.rhythm_base.specs.Lists.{Each}
use Rattle.durations.specs.Spans.{IsSpan, chord_runs}
use Rattle.derivation.proofs.Fractions.{frac_one}
use Rattle.derivation.specs.Laws.{SpansAreOne}

span_one : (resolution : ℕ) (bars : List Bar) (run : Sound × List Sound) (x y : Span) → 1 ≤ resolution → IsSpan resolution bars run x → IsSpan resolution bars run y → x ≡ y
span_one resolution bars run x y some h k =
    let start = frac_one _ _ x.start y.start (omega (arith, some)) h.start k.start in
    let len = frac_one _ _ x.len y.len (omega (arith, some)) h.len k.len in
    λ i. record {
      start = start i;
      len = len i;
      keys = (h.keys ∙ sym k.keys) i;
      graces = (h.graces ∙ sym k.graces) i;
      short = (h.short ∙ sym k.short) i;
    }

each_one : (resolution : ℕ) (bars : List Bar) (runs : List (Sound × List Sound)) (xs ys : List Span) → 1 ≤ resolution
    → Each (IsSpan resolution bars) runs xs → Each (IsSpan resolution bars) runs ys → xs ≡ ys
each_one resolution bars [] xs ys some h k = h ∙ sym k
each_one resolution bars (run ∷ runs) [] ys some h k = absurd h
each_one resolution bars (run ∷ runs) (x ∷ xs) [] some h k = absurd k
each_one resolution bars (run ∷ runs) (x ∷ xs) (y ∷ ys) some h k =
    ap₂ ◌∷◌ (span_one resolution bars run x y some h.0 k.0) (each_one resolution bars runs xs ys some h.1 k.1)

pub one_list : SpansAreOne
one_list resolution bars sounds xs ys some h k = each_one resolution bars (chord_runs sounds) xs ys some h k
