-- How many cells edits reach in turn.
use Rattle.std.proofs.Common.{◌≡◌, inl, inr, ℕ, ◌+◌, ◌≤◌, List, [], ◌∷◌, ◌++◌, length, map, refl, sym, ap, ◌∙◌, subst, arith, Result, Ok, Err}
use Rattle.std.specs.Prelude.{All, MatchResult}
use Rattle.std.proofs.lemmas.List.{length-map}
use Rattle.edit_session.specs.Prepared.{Prepared, RisesBy, Suits, cell_of}
use Rattle.rhythm_base.specs.Counter.{risen}
use Rattle.rhythm_base.specs.Voices.{HasDerivation}
use Rattle.rhythm_base.specs.declared.edit.Edit.{Edit}
use Rattle.rhythm_base.specs.declared.edit_fault.EditFault.{EditFault}
use Rattle.rhythm_base.specs.EditRanges.{IsEditInRange}
use Rattle.rhythm_base.specs.Grammar.{Grammar}
use Rattle.rhythm_base.specs.Performance.{Performance}
use Rattle.edit_laws.specs.Edits.{edited}
use Rattle.edit_laws.specs.Reached.{AreReached, WouldReach}
use Rattle.edit_laws.proofs.OneReached.{one_reached}
use Rattle.barline_follow.specs.Builds.{AreReachedBy, AreReachedInTurn, AreWithinReachInTurn}
use Rattle.barline_follow.specs.Script.{Accepts, Leads}
use Rattle.barline_follow.proofs.OneAnswers.{same_next}

-- ---- one edit

module _ (g : Grammar) (p : Performance) where
  abbrev reached_by : Result Performance EditFault → List (ℕ × ℕ) → Type 0
  reached_by r cells = MatchResult r (λ q. AreReached g p q cells) (λ fault. cells ≡ [])

  one_by : (r : Result Performance EditFault) (xs ys : List (ℕ × ℕ)) → reached_by r xs → reached_by r ys → xs ≡ ys
  one_by (Ok q) xs ys h k = one_reached g p q xs ys h k
  one_by (Err fault) xs ys h k = h ∙ sym k

  pub would_reach : (edit : Edit) (q : Performance) (cells : List (ℕ × ℕ)) → edited p edit ≡ Ok q → AreReached g p q cells → WouldReach g p edit cells
  would_reach edit q cells is h = subst (λ r. reached_by r cells) (sym is) h

  pub would_reach_none : (edit : Edit) (fault : EditFault) → edited p edit ≡ Err fault → WouldReach g p edit []
  would_reach_none edit fault is = subst (λ r. reached_by r []) (sym is) refl

  -- an edit reaches one list of cells
  pub one_by_edit : (edit : Edit) (xs ys : List (ℕ × ℕ)) → AreReachedBy g p edit xs → AreReachedBy g p edit ys → xs ≡ ys
  one_by_edit edit xs ys (inl h) (inl k) = one_by (edited p edit) xs ys h.1 k.1
  one_by_edit edit xs ys (inl h) (inr k) = absurd (k.0 h.0)
  one_by_edit edit xs ys (inr h) (inl k) = absurd (h.0 k.0)
  one_by_edit edit xs ys (inr h) (inr k) = h.1 ∙ sym k.1

  pub refused_alone : (edit : Edit) (fault : EditFault) → edited p edit ≡ Err fault → (next : Performance) → Accepts g p edit next → ⊥
  refused_alone edit fault is next accepts =
      let both : Err fault ≡ Ok next = sym is ∙ accepts.1 in
      absurd (cc)

  -- it is accepted
  pub reached_once : (edit : Edit) (next : Performance) (cells : List (ℕ × ℕ)) → Accepts g p edit next → WouldReach g p edit cells
      → AreReachedInTurn g p (edit ∷ []) (length cells)
  unfolding AreReachedInTurn
  reached_once edit next cells accepts would = (cells, 0, inl (accepts.0, would), omega arith, inl (next, accepts, refl))

  -- it is refused
  pub reached_last : (edit : Edit) (edits : List Edit) (cells : List (ℕ × ℕ)) → AreReachedBy g p edit cells → ((next : Performance) → Accepts g p edit next → ⊥)
      → AreReachedInTurn g p (edit ∷ edits) (length cells)
  unfolding AreReachedInTurn
  reached_last edit edits cells reached never = (cells, 0, reached, omega arith, inr (never, refl))

  -- a refused edit is the last, whatever others there are
  pub reached_before : (edit : Edit) (edits : List Edit) (n : ℕ) → ((next : Performance) → Accepts g p edit next → ⊥)
      → AreReachedInTurn g p (edit ∷ []) n → AreReachedInTurn g p (edit ∷ edits) n
  unfolding AreReachedInTurn
  reached_before edit edits n never (cells, others, reached, is, inl accepted) = absurd (never accepted.0 accepted.1)
  reached_before edit edits n never (cells, others, reached, is, inr refused) = (cells, others, reached, is, inr refused)

  -- what is within the reach of one edit
  pub within_once : (edit : Edit) (n : ℕ) → IsEditInRange edit → ((cells : List (ℕ × ℕ)) → WouldReach g p edit cells → n ≤ length cells)
      → AreWithinReachInTurn g p (edit ∷ []) n
  unfolding AreReachedInTurn
  within_once edit n range within sum (cells, others, inl would, is, after) = let few = within cells would.1 in omega (arith, few, is)
  within_once edit n range within sum (cells, others, inr out, is, after) = absurd (out.0 range)

  -- the cells of the first of several edits
  first_reached : (edit : Edit) (edits : List Edit) (sum : ℕ) → AreReachedInTurn g p (edit ∷ edits) sum
      → (n : ℕ) × AreReachedInTurn g p (edit ∷ []) n × (n ≤ sum)
  unfolding AreReachedInTurn
  first_reached edit edits sum (cells, others, reached, is, inl accepted) =
      (length cells, (cells, 0, reached, omega arith, inl (accepted.0, accepted.1, refl)), omega (arith, is))
  first_reached edit edits sum (cells, others, reached, is, inr refused) =
      (length cells, (cells, 0, reached, omega arith, inr (refused.0, refl)), omega (arith, is))

-- ---- several edits

module _ (g : Grammar) where
  pub reached_none : (p : Performance) → AreReachedInTurn g p [] 0
  unfolding AreReachedInTurn
  reached_none p = refl

  pub one_in_turn : (p : Performance) (edits : List Edit) (m n : ℕ) → AreReachedInTurn g p edits m → AreReachedInTurn g p edits n → m ≡ n
  unfolding AreReachedInTurn
  one_in_turn p [] m n h k = h ∙ sym k
  one_in_turn p (edit ∷ edits) m n (cells, others, reached, is, inl accepted) (cells', others', reached', is', inl accepted') =
      let same = ap length (one_by_edit g p edit cells cells' reached reached') in
      let next : accepted'.0 ≡ accepted.0 = same_next (edited p edit) accepted'.0 accepted.0 accepted'.1.1 accepted.1.1 in
      let rest = one_in_turn accepted.0 edits others others' accepted.2 (subst (λ (q : Performance). AreReachedInTurn g q edits others') next accepted'.2) in
      omega (arith, is, is', same, rest)
  one_in_turn p (edit ∷ edits) m n (cells, others, reached, is, inl accepted) (cells', others', reached', is', inr refused) =
      absurd (refused.0 accepted.0 accepted.1)
  one_in_turn p (edit ∷ edits) m n (cells, others, reached, is, inr refused) (cells', others', reached', is', inl accepted) =
      absurd (refused.0 accepted.0 accepted.1)
  one_in_turn p (edit ∷ edits) m n (cells, others, reached, is, inr refused) (cells', others', reached', is', inr refused') =
      let same = ap length (one_by_edit g p edit cells cells' reached reached') in
      omega (arith, is, is', same, refused.1, refused'.1)

  -- edits that are accepted, and others on the performance after them
  pub reached_append : (p q : Performance) (xs ys : List Edit) (m n : ℕ) → Leads g p xs q → AreReachedInTurn g p xs m → AreReachedInTurn g q ys n
      → AreReachedInTurn g p (xs ++ ys) (m + n)
  unfolding AreReachedInTurn
  reached_append p q [] ys m n leads h k =
      subst (λ (r : Performance). AreReachedInTurn g r ys (m + n)) leads (subst (AreReachedInTurn g q ys) (omega (arith, h)) k)
  reached_append p q (edit ∷ xs) ys m n leads (cells, others, reached, is, inl accepted) k =
      let next : leads.0 ≡ accepted.0 = same_next (edited p edit) leads.0 accepted.0 leads.1.1 accepted.1.1 in
      let rest = reached_append accepted.0 q xs ys others n (subst (λ (r : Performance). Leads g r xs q) next leads.2) accepted.2 k in
      (cells, others + n, reached, omega (arith, is), inl (accepted.0, accepted.1, rest))
  reached_append p q (edit ∷ xs) ys m n leads (cells, others, reached, is, inr refused) k = absurd (refused.0 leads.0 leads.1)

  reached_parts : (p q : Performance) (xs ys : List Edit) (sum : ℕ) → Leads g p xs q → AreReachedInTurn g p (xs ++ ys) sum
      → (m : ℕ) × (n : ℕ) × AreReachedInTurn g p xs m × AreReachedInTurn g q ys n × (sum ≡ m + n)
  unfolding AreReachedInTurn
  reached_parts p q [] ys sum leads h = (0, sum, refl, subst (λ (r : Performance). AreReachedInTurn g r ys sum) (sym leads) h, omega arith)
  reached_parts p q (edit ∷ xs) ys sum leads (cells, others, reached, is, inl accepted) =
      let next : leads.0 ≡ accepted.0 = same_next (edited p edit) leads.0 accepted.0 leads.1.1 accepted.1.1 in
      let parts = reached_parts accepted.0 q xs ys others (subst (λ (r : Performance). Leads g r xs q) next leads.2) accepted.2 in (
        length cells + parts.0,
        parts.1,
        (cells, parts.0, reached, refl, inl (accepted.0, accepted.1, parts.2)),
        parts.3,
        omega (arith, is, parts.4),
      )
  reached_parts p q (edit ∷ xs) ys sum leads (cells, others, reached, is, inr refused) = absurd (refused.0 leads.0 leads.1)

  -- the first edits are made, and at one more no more cells are built than it reaches there
  pub within_more : (p q : Performance) (xs : List Edit) (edit : Edit) (ys : List Edit) (m n : ℕ) → Leads g p xs q → AreReachedInTurn g p xs m
      → AreWithinReachInTurn g q (edit ∷ []) n → AreWithinReachInTurn g p (xs ++ (edit ∷ ys)) (m + n)
  within_more p q xs edit ys m n leads h within sum all =
      let parts = reached_parts p q xs (edit ∷ ys) sum leads all in
      let there = first_reached g q edit ys parts.1 parts.3 in
      let first = one_in_turn p xs m parts.0 h parts.2 in
      let least = within there.0 there.1 in
      omega (arith, parts.4, there.2, first, least)

  -- the first edits are made, and no more
  pub within_first : (p q : Performance) (xs ys : List Edit) (m : ℕ) → Leads g p xs q → AreReachedInTurn g p xs m → AreWithinReachInTurn g p (xs ++ ys) m
  within_first p q xs ys m leads h sum all =
      let parts = reached_parts p q xs ys sum leads all in
      omega (arith, parts.4, one_in_turn p xs m parts.0 h parts.2)

  -- all of them are tried
  pub within_all : (p : Performance) (edits : List Edit) (m : ℕ) → AreReachedInTurn g p edits m → AreWithinReachInTurn g p edits m
  within_all p edits m h sum all = omega (arith, one_in_turn p edits m sum h all)

-- ---- what the counter of builds shows after one edit is tried

module _ (g : Grammar) (p : Performance) (edit : Edit) where
  -- it is out of range
  pub built_out : (old : ℕ) → (IsEditInRange edit → ⊥) → RisesBy old old (AreReachedInTurn g p (edit ∷ []))
  built_out old out = (0, omega arith, reached_last g p edit [] [] (inr (out, refl)) (λ next accepts. out accepts.0))

  -- the performance alone refuses it
  pub built_alone : (fault : EditFault) (old new : ℕ) → IsEditInRange edit → edited p edit ≡ Err fault → new ≡ old → RisesBy old new (AreReachedInTurn g p (edit ∷ []))
  built_alone fault old new range is same =
      (0, omega (arith, same), reached_last g p edit [] [] (inl (range, would_reach_none g p edit fault is)) (refused_alone g p edit fault is))

  module _ (x : Prepared) (old new : ℕ) (range : IsEditInRange edit) (is : edited p edit ≡ Ok x.next) (suits : Suits g p x) (rises : new ≡ risen old (length x.tables)) where
    would : WouldReach g p edit (map cell_of x.tables)
    would = would_reach g p edit x.next (map cell_of x.tables) is suits.reached

    size : length (map cell_of x.tables) ≡ length x.tables
    size = length-map x.tables cell_of

    -- each voice has a derivation, and it is made
    pub built_made : All (HasDerivation g x.next) x.next.channels → RisesBy old new (AreReachedInTurn g p (edit ∷ []))
    built_made derivations =
        (length x.tables, rises, subst (AreReachedInTurn g p (edit ∷ [])) size (reached_once g p edit x.next (map cell_of x.tables) (range, is, derivations) would))

    -- a voice has none
    pub built_dead : (All (HasDerivation g x.next) x.next.channels → ⊥) → RisesBy old new (AreReachedInTurn g p (edit ∷ []))
    built_dead dead =
        let never : (next : Performance) → Accepts g p edit next → ⊥ =
        λ next accepts. dead (subst (λ (q : Performance). All (HasDerivation g q) q.channels) (same_next (edited p edit) next x.next accepts.1 is) accepts.2) in
        (length x.tables, rises, subst (AreReachedInTurn g p (edit ∷ [])) size (reached_last g p edit [] (map cell_of x.tables) (inl (range, would)) never))

    -- whether each has one is not asked
    pub built_ready : RisesBy old new (AreWithinReachInTurn g p (edit ∷ []))
    built_ready = (
      length x.tables,
      rises,
      within_once g p edit (length x.tables) range
          (λ cells reached. let same = ap length (one_by g p (edited p edit) cells (map cell_of x.tables) reached would) in omega (arith, same, size)),
    )

  pub built_some : (old new : ℕ) → IsEditInRange edit → RisesBy old new (λ n. (cells : List (ℕ × ℕ)) → WouldReach g p edit cells → n ≤ length cells)
      → RisesBy old new (AreWithinReachInTurn g p (edit ∷ []))
  built_some old new range (n, rises, within) = (n, rises, within_once g p edit n range within)

-- ---- after several

module _ (g : Grammar) (p : Performance) where
  pub built_none : (old : ℕ) → RisesBy old old (AreReachedInTurn g p [])
  built_none old = (0, omega arith, reached_none g p)

  pub built_within : (edits : List Edit) (old new : ℕ) → RisesBy old new (AreReachedInTurn g p edits) → RisesBy old new (AreWithinReachInTurn g p edits)
  built_within edits old new (n, rises, all) = (n, rises, within_all g p edits n all)

  module _ (q : Performance) (xs : List Edit) (old mid : ℕ) (leads : Leads g p xs q) (rose : RisesBy old mid (AreReachedInTurn g p xs)) where
    pub built_first : (ys : List Edit) → RisesBy old mid (AreWithinReachInTurn g p (xs ++ ys))
    built_first ys = (rose.0, rose.1, within_first g p q xs ys rose.0 leads rose.2)

    pub built_more : (edit : Edit) (new : ℕ) → RisesBy mid new (AreReachedInTurn g q (edit ∷ [])) → RisesBy old new (AreReachedInTurn g p (xs ++ (edit ∷ [])))
    built_more edit new (n, rises, reached) =
        let before = rose.1 in
        (rose.0 + n, omega (arith, before, rises), reached_append g p q xs (edit ∷ []) rose.0 n leads rose.2 reached)

    pub built_to : (edit : Edit) (ys : List Edit) (new : ℕ) → ((next : Performance) → Accepts g q edit next → ⊥) → RisesBy mid new (AreReachedInTurn g q (edit ∷ []))
        → RisesBy old new (AreReachedInTurn g p (xs ++ (edit ∷ ys)))
    built_to edit ys new never (n, rises, reached) =
        let before = rose.1 in
        (rose.0 + n, omega (arith, before, rises), reached_append g p q xs (edit ∷ ys) rose.0 n leads rose.2 (reached_before g q edit ys n never reached))

    pub built_some_more : (edit : Edit) (ys : List Edit) (new : ℕ) → RisesBy mid new (AreWithinReachInTurn g q (edit ∷ []))
        → RisesBy old new (AreWithinReachInTurn g p (xs ++ (edit ∷ ys)))
    built_some_more edit ys new (n, rises, within) =
        let before = rose.1 in
        (rose.0 + n, omega (arith, before, rises), within_more g p q xs edit ys rose.0 n leads rose.2 within)
