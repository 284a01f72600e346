-- Of the candidates for a barline one is fitted, or none, or the performance has no such barline; and a fitted one has a score.
use Rattle.std.proofs.Common.{◌≡◌, ◌<◌, ◌≤◌, ◌⊎◌, ◌∙◌, ℕ, inl, inr, false, List, [], ◌∷◌, length, refl, sym, subst, arith, Result, Ok, Err}
use Rattle.std.specs.Cmp.Lexicographic.{slice_cmp}
use Rattle.std.specs.Ordering.{is_lt, nat_cmp}
use Rattle.std.specs.Prelude.{All, Contains}
use Rattle.std.proofs.lemmas.Bool.{cases_order}
use Rattle.std.proofs.lemmas.Bool.Decides.{nat_tests}
use Rattle.std.proofs.lemmas.Cmp.{nat_list_cmp_total}
use Rattle.std.proofs.lemmas.List.Elements.{All-contains_itself, All-nil, All-weaker}
use Rattle.answer_laws.proofs.Decisions.{Decided, decided_both, decided_most}
use Rattle.answer_laws.proofs.FiniteSets.{IsFinite, member_first, member_later, no_member}
use Rattle.answer_laws.proofs.LeastMembers.{least_of}
use Rattle.answer_laws.proofs.Openings.{opening_or_fault}
use Rattle.answer_laws.proofs.Scores.{some_written_score}
use Rattle.barline_fit.specs.Candidates.{ticks_of}
use Rattle.barline_fit.specs.Fitted.{HasBarline, IsAcceptedAt, IsFitted, IsRefusedAt}
use Rattle.barline_fit.specs.declared.candidates.Candidates.{Candidates}
use Rattle.barline_fit.specs.declared.fit_fault.FitFault.TheVariants as fitting
use Rattle.barline_fit.specs.declared.fitted.Fitted.{Fitted}
use Rattle.barline_fit.proofs.OneFit.{not_both, set_formed}
use Rattle.edit_laws.specs.Edits.{edited}
use Rattle.edit_laws.proofs.EditedCounts.{edited_starts}
use Rattle.edit_session.specs.Opening.{CanOpen}
use Rattle.performance_laws.proofs.OneVoices.{one_cost_of}
use Rattle.rhythm_app.specs.Outcome.{FitsScore, IsFitting, Ready, fit_stop, fit_text, open_stop, say}
use Rattle.rhythm_app.specs.declared.stop.Stop.{Stop}
use Rattle.rhythm_app.specs.declared.stop.Stop.TheVariants as stop
use Rattle.rhythm_base.specs.declared.edit.Edit.TheVariants.{Barline}
use Rattle.rhythm_base.specs.declared.edit_fault.EditFault.{EditFault}
use Rattle.rhythm_base.specs.declared.edit_fault.EditFault.TheVariants.{NoDerivation}
use Rattle.rhythm_base.specs.Grammar.{Grammar}
use Rattle.rhythm_base.specs.Performance.{IsWellFormed, Performance}
use Rattle.rhythm_base.specs.Readable.{IsReadable}
use Rattle.rhythm_base.specs.Voices.{HasDerivation, HasStarts, IsCostOf, IsDeadVoice}
use Rattle.rhythm_base.proofs.FirstLists.{contains_split}
use Rattle.rhythm_base.proofs.OrderedLists.{all_cons}
use Rattle.table_laws.proofs.Performances.{all_or_dead, some_cost}

module _ (g : Grammar) (p : Performance) (bar : ℕ) (readable : IsReadable g) (formed : IsWellFormed p) (starts : HasStarts g p.bars) where
  -- ---- one tick

  abbrev IsTried : ℕ → Type 0
  IsTried tick = ((cost : ℕ) × IsAcceptedAt g p bar tick cost) ⊎ IsRefusedAt g p bar tick

  -- the barline can be set to a tick, or it is refused there
  tried : (tick : ℕ) → IsTried tick
  tried tick = go (edited p (Barline bar tick)) refl
    where
      by_voices : (q : Performance) → edited p (Barline bar tick) ≡ Ok q → IsWellFormed q → HasStarts g q.bars
          → All (HasDerivation g q) q.channels ⊎ ((channel : ℕ) × (dead : ℕ) × IsDeadVoice g q channel dead) → IsTried tick
      by_voices q is well begins (inl all) =
          let cost = some_cost g q readable well begins q.channels all in
          inl (cost.0, record { next = q; made = is; derivations = all; costs = cost.1 })
      by_voices q is well begins (inr (channel, number, dead)) =
          inr (record { fault = NoDerivation channel number; refused = inr (q, channel, number, is, dead, refl) })

      go : (r : Result Performance EditFault) → edited p (Barline bar tick) ≡ r → IsTried tick
      go (Err fault) is = inr (record { fault = fault; refused = inl is })
      go (Ok q) is =
          let well = set_formed g p bar tick readable.ranges.some_unit formed q is in
          let begins = edited_starts g p q (Barline bar tick) is starts in
          by_voices q is well begins (all_or_dead g q readable well begins)

  one_next : (q r : Performance) → ◌≡◌ {A = Result Performance EditFault} (Ok q) (Ok r) → q ≡ r
  one_next q r e = cc

  one_cost : (tick a b : ℕ) → IsAcceptedAt g p bar tick a → IsAcceptedAt g p bar tick b → a ≡ b
  one_cost tick a b h k =
      let same = one_next h.next k.next (sym h.made ∙ k.made) in
      one_cost_of g k.next a b (subst (λ (q : Performance). IsCostOf g q a) same h.costs) k.costs

  -- ---- all ticks

  abbrev CanBeSet : List ℕ → Fitted → Type 0
  CanBeSet ticks x = Contains ticks x.tick × IsAcceptedAt g p bar x.tick x.cost

  -- of some ticks those that are accepted, each with its cost
  accepted : (ticks : List ℕ) → IsFinite (CanBeSet ticks)
  accepted [] = record { list = []; are = All-nil (CanBeSet []); each = λ x s. absurd (no_member x.tick s.0) }
  accepted (tick ∷ ticks) = go (tried tick) (accepted ticks)
    where
      later : (x : Fitted) → CanBeSet ticks x → CanBeSet (tick ∷ ticks) x
      later x s = (member_later x.tick tick ticks s.0, s.1)

      go : IsTried tick → IsFinite (CanBeSet ticks) → IsFinite (CanBeSet (tick ∷ ticks))
      go (inr refused) rest = record {
        list = rest.list;
        are = All-weaker (CanBeSet ticks) (CanBeSet (tick ∷ ticks)) later rest.list rest.are;
        each = λ x s. elim (contains_split x.tick tick ticks s.0) [
          | inl same ↦
              let here = subst (λ t. IsAcceptedAt g p bar t x.cost) (sym same) s.1 in
              absurd (not_both g p bar tick readable.ranges.some_unit formed x.cost refused.fault here refused.refused)
          | inr there ↦ rest.each x (there, s.1)
        ];
      }
      go (inl (cost, here)) rest =
          let own : Fitted = record { tick = tick; cost = cost } in
          record {
            list = own ∷ rest.list;
            are = all_cons (CanBeSet (tick ∷ ticks)) own rest.list (member_first tick ticks, here) (All-weaker (CanBeSet ticks) (CanBeSet (tick ∷ ticks)) later rest.list rest.are);
            each = λ x s. elim (contains_split x.tick tick ticks s.0) [
              | inl same ↦
                  let level = one_cost tick cost x.cost here (subst (λ t. IsAcceptedAt g p bar t x.cost) (sym same) s.1) in
                  subst (Contains (own ∷ rest.list)) (λ i. record { tick = same i; cost = level i }) (member_first own rest.list)
              | inr there ↦ member_later x own rest.list (rest.each x (there, s.1))
            ];
          }

  no_lower : (a b c d : ℕ) → is_lt (slice_cmp nat_cmp (c ∷ d ∷ []) (a ∷ b ∷ [])) ≡ false → (a < c) ⊎ ((a ≡ c) × (b ≤ d))
  no_lower a b c d h = elim (cases_order a c) [
    | inl same ↦ inr (same, grind (arith, nat_tests, h, same))
    | inr other ↦ elim other [
      | inl less ↦ inl less
      | inr more ↦ absurd (grind (arith, nat_tests, h, more))
    ]
  ]

  abbrev rank_of_fit : Fitted → List ℕ
  rank_of_fit x = x.cost ∷ x.tick ∷ []

  -- one of the ticks is fitted, or the barline is refused at each
  fitted_or_none : (ticks : List ℕ) → ((x : Fitted) × IsFitted g p bar ticks x) ⊎ All (IsRefusedAt g p bar) ticks
  fitted_or_none ticks = elim (least_of nat_list_cmp_total rank_of_fit (CanBeSet ticks) (accepted ticks)) [
    | inl best ↦
        let x : Fitted = best.0 in
        inl (
          x,
          record {
            candidate = best.1.0;
            accepted = best.1.1;
            least = λ tick cost there own. no_lower x.cost x.tick cost tick (best.2 (record { tick = tick; cost = cost }) (there, own));
          },
        )
    | inr none ↦ inr (λ k d less. refused none _ (All-contains_itself ticks k d less))
  ]
    where
      refused : ((x : Fitted) → CanBeSet ticks x → ⊥) → (tick : ℕ) → Contains ticks tick → IsRefusedAt g p bar tick
      refused none tick there = elim (tried tick) [ inl own ↦ absurd (none (record { tick = tick; cost = own.0 }) (there, own.1)) | inr never ↦ never ]

module _ (c : Candidates) (g : Grammar) (p : Performance) (readable : IsReadable g) (formed : IsWellFormed p) where
  abbrev HasFitting : Type 0
  HasFitting = (r : Result Ready Stop) × IsFitting c g p r

  by_score : CanOpen g p → (x : Fitted) → IsFitted g p c.bar (ticks_of c) x → HasFitting
  by_score can x fitted =
      let next : Performance = fitted.accepted.next in
      let well = set_formed g p c.bar x.tick readable.ranges.some_unit formed next fitted.accepted.made in
      let score = some_written_score g next readable well fitted.accepted.derivations in
      go score.0 record { can = can; fitted = fitted; scored = (next, fitted.accepted.made, score.1) }
    where
      go : (r : Result (List ℕ) ℕ) → FitsScore c g p x r → HasFitting
      go (Ok text) fits = (Ok (say (fit_text x text)), (x, text, fits, refl))
      go (Err line) fits = (Err (stop.ScoreTooLong line), inr (inr (x, line, fits, refl)))

  by_barline : CanOpen g p → Decided (HasBarline p c.bar) → HasFitting
  by_barline can (inr never) = (Err (fit_stop (fitting.NoBar c.bar)), inr (inl (fitting.NoBar c.bar, can, (refl, never), (λ e. cc), refl)))
  by_barline can (inl has) = elim (fitted_or_none g p c.bar readable formed can.starts (ticks_of c)) [
    | inl best ↦ by_score can best.0 best.1
    | inr refused ↦ (Err (fit_stop fitting.NoCandidate), inr (inl (fitting.NoCandidate, can, (has, refused), (λ e. cc), refl)))
  ]

  pub some_fitting : HasFitting
  some_fitting = elim (opening_or_fault g p readable formed) [
    | inl can ↦ by_barline can (decided_both (decided_most 1 c.bar) (decided_most c.bar (length p.bars)))
    | inr fault ↦ (Err (open_stop fault.0), inl (fault.0, fault.2, fault.1, refl))
  ]
