-- What a map of inputs knows after one more.
use Rattle.std.proofs.Common.{◌≡◌, ℕ, ◌+◌, ◌<◌, Bool, true, false, List, inl, inr, refl, sym, ap, subst, ◌∙◌, arith}
use Rattle.std.specs.Prelude.{Option, Some, None, slice_get, if◌then◌else◌}
use Rattle.std.specs.HashMap.{HashMap}
use Rattle.std.proofs.lemmas.Bool.{cases_lt}
use Rattle.bar_pool.specs.Equal.{same_input}
use Rattle.bar_pool.specs.EqualLaws.{input_decides}
use Rattle.bar_pool.specs.Known.{KnowsInputs, number_of}
use Rattle.bar_pool.specs.Sources.{IsBare, IsSource}
use Rattle.bar_pool.specs.declared.input_key.InputKey.{InputKey}
use Rattle.rhythm_base.specs.BarInput.{BarInput}

module _ {S : Type 0} (inputs : List BarInput) (n : ℕ) (old : HashMap InputKey ℕ S) (known : KnowsInputs inputs n old) where
  -- a bare one is not entered
  pub knows_bare : (k : BarInput) → slice_get inputs n ≡ Some k → IsBare k → KnowsInputs inputs (n + 1) old
  knows_bare k at bare = record {
    equal = λ key number e. let p = known.equal key number e in (omega (arith, p.0), p.1);
    each = λ key number low there full none. elim (cases_lt number n) [
      | inl below ↦ known.each key number below there full none
      | inr above ↦
          let same : number ≡ n = omega (arith, low, above) in
          let there' : slice_get inputs n ≡ Some key.input.now = subst (λ m. slice_get inputs m ≡ Some key.input.now) same there in
          let one : k ≡ key.input.now = cc in
          full (subst IsBare one bare)
    ];
  }

  module _ (key : InputKey) (at : slice_get inputs n ≡ Some key.input.now) where
    -- another one has the number of the last that is equal
    pub source_is : (IsBare key.input.now → ⊥) → (o : Option ℕ) → o ≡ number_of old key → IsSource inputs n o
    source_is full None is = λ k there. inr (λ earlier low e.
        let one : k ≡ key.input.now = cc in
        let there : slice_get inputs earlier ≡ Some key.input.now = e ∙ ap Some one in
        known.each key earlier low there full (sym is))
    source_is full (Some earlier) is = let p = known.equal key earlier (sym is) in (p.0, p.1 ∙ sym at)

    -- and is entered
    pub knows_more : (new : HashMap InputKey ℕ S)
        → ((q : InputKey) → number_of new q ≡ (if same_input key.input.now q.input.now then Some n else number_of old q)) → KnowsInputs inputs (n + 1) new
    knows_more new updates = record {
      equal = λ q number e. equal q number (same_input key.input.now q.input.now) refl (sym (updates q) ∙ e);
      each = λ q number low there full none. each q number low there full (same_input key.input.now q.input.now) refl (sym (updates q) ∙ none);
    }
      where
        equal : (q : InputKey) (number : ℕ) (b : Bool) → same_input key.input.now q.input.now ≡ b → (if b then Some n else number_of old q) ≡ Some number
            → (number < n + 1) × (slice_get inputs number ≡ Some q.input.now)
        equal q number true same e =
            let one : n ≡ number = cc in
            let alike : key.input.now ≡ q.input.now = (input_decides key.input.now q.input.now).0 same in
            (omega (arith, one), subst (λ m. slice_get inputs m ≡ Some q.input.now) one (at ∙ ap Some alike))
        equal q number false same e = let p = known.equal q number e in (omega (arith, p.0), p.1)

        each : (q : InputKey) (number : ℕ) → number < n + 1 → slice_get inputs number ≡ Some q.input.now → (IsBare q.input.now → ⊥)
            → (b : Bool) → same_input key.input.now q.input.now ≡ b → (if b then Some n else number_of old q) ≡ None → ⊥
        each q number low there full true same none = absurd (cc)
        each q number low there full false same none = elim (cases_lt number n) [
          | inl below ↦ known.each q number below there full none
          | inr above ↦
              let this : number ≡ n = omega (arith, low, above) in
              let there' : slice_get inputs n ≡ Some q.input.now = subst (λ m. slice_get inputs m ≡ Some q.input.now) this there in
              let one : key.input.now ≡ q.input.now = cc in
              let yes : same_input key.input.now q.input.now ≡ true = (input_decides key.input.now q.input.now).1 one in
              absurd (cc)
        ]
