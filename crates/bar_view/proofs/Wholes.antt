-- No units are quiet past the unit in which the next chord begins.
use Rattle.std.proofs.Common.{◌≡◌, ℕ, zero, suc, ◌<◌, ◌≤◌, ◌+◌, ◌*◌, ◌&&◌, Bool, true, false, not, List, [], ◌∷◌, length, get_or, refl, sym, ap, ◌∙◌, subst, arith, inl, inr}
use Rattle.std.specs.List.{list_all}
use Rattle.std.proofs.Math.Nat.{mul-le-mul_right}
use Rattle.std.proofs.lemmas.Bool.{cases_lt}
use Rattle.rhythm_base.proofs.Booleans.{and_left, and_right}
use Rattle.rhythm_base.specs.declared.inner.Inner.{Inner}
use Rattle.rhythm_base.specs.BarInput.{BarInput}
use Rattle.rhythm_base.specs.Cells.{bar_of}
use Rattle.rhythm_base.specs.Grammar.{Grammar}
use Rattle.tree_laws.specs.Places.{end_before, reach}
use Rattle.tree_laws.specs.Quiet.{end_at, is_quiet}
use Rattle.row_laws.specs.Grounds.{ground_of}
use Rattle.row_laws.specs.QuietTrees.{IsQuiet}
use Rattle.row_laws.specs.declared.quiet.Quiet.{Quiet}
use Rattle.row_laws.specs.declared.quiet.Quiet.TheVariants.{Sounding, Silent}
use Rattle.bar_view.specs.Units.{BeginsIn, IsUnitWhole, IsWhole, SoundsSo, SplitsAt, end_of_earlier}
use Rattle.bar_view.specs.declared.stretch.Stretch.{Stretch}
use Rattle.bar_view.proofs.Quiets.{end-at-split, reach-off, reach-on}

each-of : (t : Inner → Bool) (xs : List Inner) → list_all t xs ≡ true → (i : ℕ) (d : Inner) → i < length xs → t (get_or xs i d) ≡ true
each-of t [] h i d low = absurd (omega (arith, low))
each-of t (x ∷ xs) h zero d low = and_left (t x) _ h
each-of t (x ∷ xs) h (suc i) d low = each-of t xs (and_right (t x) _ h) i d (omega (arith, low))

begins-in : (a b : Bool) → a ≡ true → b ≡ false → not (a && not b) ≡ true → ⊥
begins-in true false on off h = absurd (cc)
begins-in true true on off h = absurd (cc)
begins-in false b on off h = absurd (cc)

module _ (k : BarInput) (u n : ℕ) (first : SplitsAt k u n) (g : Grammar) (units : g.resolution ≡ k.resolution) where
  quiet-of : (q : Quiet) (w : ℕ) → IsQuiet q (ground_of g k) u w → is_quiet (ground_of g k) u w ≡ true
  quiet-of Sounding w h = h.quiet
  quiet-of Silent w h = h.quiet

  -- the next chord begins after them
  pub quiet-near : (next : ℕ) → BeginsIn k n next → (q : Quiet) (w : ℕ) → u + w ≤ k.resolution → IsQuiet q (ground_of g k) u w → u + w ≤ next
  quiet-near next (inl last) q w within h = omega (arith, last, within)
  quiet-near next (inr (low, near)) q w within h = elim (cases_lt next (u + w)) [
    | inr le ↦ le
    | inl less ↦
        let d : Inner = record { onset = 0; end = 0 } in
        let c : Inner = get_or k.chords n d in
        let t : Inner → Bool = λ c. not (reach g.resolution (bar_of k) u c.onset && not (reach g.resolution (bar_of k) (u + w) c.onset)) in
        let here : t c ≡ true = each-of t k.chords (quiet-of q w h) n d low in
        let wider : (next + 1) * k.length ≤ (u + w) * k.length = mul-le-mul_right k.length (omega (arith, less)) in
        let before : c.onset * k.resolution < (u + w) * k.length = let far = near d in omega (arith, far, wider) in
        let on : reach g.resolution (bar_of k) u c.onset ≡ true = ap (λ r. reach r (bar_of k) u c.onset) units ∙ reach-on k u c.onset (first.high n d (omega arith) low) in
        let off : reach g.resolution (bar_of k) (u + w) c.onset ≡ false = ap (λ r. reach r (bar_of k) (u + w) c.onset) units ∙ reach-off k (u + w) c.onset before in
        absurd (begins-in _ _ on off here)
  ]

  end-there : (d : Inner) → end_at (ground_of g k) u * g.resolution ≡ end_of_earlier k n d * k.resolution
  end-there d = ap (λ r. end_before r (bar_of k) k.chords k.before u * r) units ∙ ap (λ m. m * k.resolution) (end-at-split k u n d first)

  from-start : (m : ℕ) → 0 * g.resolution + m ≡ m
  from-start m = grind arith

  -- they sound so by the end of the chord before
  pub sounds-so : (q : Quiet) (w at : ℕ) (d : Inner) → end_of_earlier k n d * k.resolution ≡ at → IsQuiet q (ground_of g k) u w → SoundsSo q k.length at u (u + w)
  sounds-so Sounding w at d is h = let a = end-there d in let b = from-start ((u + w) * k.length) in omega (arith, a, b, h.through, is)
  sounds-so Silent w at d is h = let a = end-there d in let b = from-start (u * k.length) in omega (arith, a, b, h.over, is)

pub part-whole : (k : BarInput) (u next n at : ℕ) (d : Inner) → SplitsAt k u n → BeginsIn k n next → end_of_earlier k n d * k.resolution ≡ at → (s : Stretch) → IsUnitWhole k.length at next u s → IsWhole k u s
part-whole k u next n at d first begins is s h g q w units wide within quiet = h q w wide (quiet-near k u n first g units next begins q w within quiet) (sounds-so k u n first g units q w at d is quiet)

-- none begin where the chord does
pub none-whole : (k : BarInput) (u n : ℕ) → SplitsAt k u n → BeginsIn k n u → (s : Stretch) → IsWhole k u s
none-whole k u n first begins s g q w units wide within quiet = let near = quiet-near k u n first g units u begins q w within quiet in absurd (omega (arith, near, wide))
