-- The candidates for a barline that are tried, and those that are too many.
use Rattle.barline_fit.specs.declared.candidates.TheConstants.{MOST_CANDIDATES}
use Rattle.rhythm_base.specs.declared.limits.TheConstants.{LATEST_TICK}
use Rattle.std.proofs.Common.{◌≡◌, ◌≤◌, ◌<◌, ◌∙◌, ℕ, arith, ap, sym, Bool, true, false}
use Rattle.std.specs.Prelude.{if◌then◌else◌, nat_le}
use Rattle.std.proofs.lemmas.Bool.{le-leb}
use Rattle.std.proofs.lemmas.Bool.Decides.{nat_tests}
use Rattle.barline_fit.specs.declared.candidates.Candidates.{Candidates}
use Rattle.rhythm_app.specs.Asked.{AreCandidates, candidate_count, fit, fit_of, too_many_candidates}
use Rattle.rhythm_app.specs.Inputs.{Inputs}

module _ (i : Inputs) (c : Candidates) (count : ℕ) (counts : count ≡ candidate_count c) where
  chosen : (b : Bool) → nat_le (candidate_count c) MOST_CANDIDATES ≡ b → fit_of i c ≡ (if b then fit i c else too_many_candidates (candidate_count c))
  chosen b e = ap (λ b. if b then fit i c else too_many_candidates (candidate_count c)) e

  pub few_asked : count ≤ MOST_CANDIDATES → fit i c ≡ fit_of i c
  few_asked few = sym (chosen true (le-leb (candidate_count c) MOST_CANDIDATES (omega (arith, counts, few))))

  pub many_asked : MOST_CANDIDATES < count → too_many_candidates count ≡ fit_of i c
  many_asked many = ap too_many_candidates counts ∙ sym (chosen false (is_more (candidate_count c) (omega (arith, counts, many))))
    where
      is_more : (n : ℕ) → MOST_CANDIDATES < n → nat_le n MOST_CANDIDATES ≡ false
      is_more n more = grind (arith, nat_tests)

  pub few_tried : count ≤ MOST_CANDIDATES → c.low ≤ c.high → c.high ≤ LATEST_TICK → 1 ≤ c.step → AreCandidates c
  few_tried few order high step = record { order = order; high = high; step = step; few = omega (arith, counts, few) }
