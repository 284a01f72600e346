-- What a list costs, what it comes to, the best of all rounds and the answer are one each.
use Rattle.std.proofs.Common.{◌≡◌, ◌⊎◌, inl, inr, ℕ, zero, suc, ◌+◌, ◌≤◌, List, [], ◌∷◌, refl, ap, ap₂, sym, ◌∙◌, subst, arith}
use Rattle.std.specs.Prelude.{Option, None}
use Rattle.std.specs.List.{filter_map}
use Rattle.std.proofs.lemmas.Bool.{false≢true}
use Rattle.rhythm_base.specs.declared.chord.Chord.{Chord}
use Rattle.rhythm_base.specs.declared.edit.Edit.{Edit}
use Rattle.rhythm_base.specs.Grammar.{Grammar}
use Rattle.rhythm_base.specs.Leaves.{soundings}
use Rattle.rhythm_base.specs.Lists.{Each}
use Rattle.rhythm_base.specs.Performance.{Performance}
use Rattle.rhythm_base.specs.Voices.{notes_of_voice, voice_bars}
use Rattle.performance_laws.proofs.OneVoices.{one_cost_of}
use Rattle.performance_laws.proofs.OneChords.{one_chords}
use Rattle.barline_follow.specs.declared.offers.Offer.{Offer}
use Rattle.barline_follow.specs.Answer.{AreChosen, IsAnswer, chosen}
use Rattle.barline_follow.specs.Bars.{with_barlines}
use Rattle.barline_follow.specs.Barring.{Barring, best_of, last_length}
use Rattle.barline_follow.specs.HeadCost.{IsHeadCost, IsHeadOfVoice, IsHeadRun, IsSum, run_cost}
use Rattle.barline_follow.specs.Offers.{AreOffers}
use Rattle.barline_follow.specs.Rounds.{ComeTo, Draft, Found, IsBest, IsFound, IsNextFront, IsRound, at_cost, going, going_on, lost, no_bars, rows, whole, whole_one}
use Rattle.barline_follow.specs.Script.{Leads, script}
use Rattle.barline_follow.proofs.OneAnswers.{one_front, one_offers}

-- ---- head costs

one_sum : (Costs : ℕ → ℕ → Type 0) → ((channel a b : ℕ) → Costs channel a → Costs channel b → a ≡ b) → (channels : List ℕ) (a b : ℕ)
    → IsSum Costs channels a → IsSum Costs channels b → a ≡ b
one_sum Costs one [] a b h k = h ∙ sym k
one_sum Costs one (n ∷ channels) a b h k =
    h.4 ∙ (λ i. one n h.0 k.0 h.2 k.2 i + one_sum Costs one channels h.1 k.1 h.3 k.3 i) ∙ sym k.4

module _ (g : Grammar) (p : Performance) where
  no_less : (ticks : List ℕ) (channel a b : ℕ) → IsHeadOfVoice g p ticks channel a → IsHeadOfVoice g p ticks channel b → a ≤ b
  no_less ticks channel a b h k =
      let same : k.chords ≡ h.chords = one_chords p.tempos p.division g.window (notes_of_voice p channel) k.chords h.chords k.are_chords h.are_chords in
      let there = subst (λ (cs : List Chord). IsHeadRun g (voice_bars g (with_barlines p ticks) channel) (soundings cs) k.trees
      × (b ≡ run_cost g (voice_bars g (with_barlines p ticks) channel) (soundings cs) k.trees)) same (k.run, k.is) in
      let low = h.least k.trees there.0 in
      omega (arith, low, there.1)

  one_head : (ticks : List ℕ) (channel a b : ℕ) → IsHeadOfVoice g p ticks channel a → IsHeadOfVoice g p ticks channel b → a ≡ b
  one_head ticks channel a b h k =
      let up = no_less ticks channel a b h k in
      let down = no_less ticks channel b a k h in
      omega (arith, up, down)

  pub one_head_cost : (ticks : List ℕ) (a b : ℕ) → IsHeadCost g p ticks a → IsHeadCost g p ticks b → a ≡ b
  one_head_cost ticks a b h k = one_sum (IsHeadOfVoice g p ticks) (one_head ticks) p.channels a b h k

  -- ---- what a list comes to

  pub one_found : (d : Draft) (a b : Found) → IsFound g p d a → IsFound g p d b → a ≡ b
  one_found d lost lost h k = refl
  one_found d lost (going y) h k = absurd ((h k.0).0 k.1)
  one_found d lost (whole y) h k = absurd ((h k.0).1 k.1)
  one_found d (going x) lost h k = absurd ((k h.0).0 h.1)
  one_found d (whole x) lost h k = absurd ((k h.0).1 h.1)
  one_found d (going x) (whole y) h k = absurd (false≢true (sym h.1.open_end ∙ k.1.closed_end))
  one_found d (whole x) (going y) h k = absurd (false≢true (sym k.1.open_end ∙ h.1.closed_end))
  one_found d (going x) (going y) h k =
      ap going (h.2 ∙ ap (at_cost d) (one_head_cost d.ticks h.0 k.0 h.1.cost k.1.cost) ∙ sym k.2)
  one_found d (whole x) (whole y) h k =
      ap whole (h.2 ∙ ap (at_cost d) (one_cost_of g (with_barlines p d.ticks) h.0 k.0 h.1.cost k.1.cost) ∙ sym k.2)

  -- ---- rounds

  pub each_one : {X Y : Type 0} (R : X → Y → Type 0) → ((x : X) (a b : Y) → R x a → R x b → a ≡ b) → (xs : List X) (us vs : List Y)
      → Each R xs us → Each R xs vs → us ≡ vs
  each_one R one [] us vs h k = h ∙ sym k
  each_one R one (x ∷ xs) [] vs h k = absurd h
  each_one R one (x ∷ xs) (a ∷ us) [] h k = absurd k
  each_one R one (x ∷ xs) (a ∷ us) (b ∷ vs) h k = ap₂ ◌∷◌ (one x a b h.0 k.0) (each_one R one xs us vs h.1 k.1)

  pub one_round : (i : ℕ) (front : List Barring) (best : Option Barring) (a b : List Barring) (x y : Option Barring)
      → IsRound g p i front best a x → IsRound g p i front best b y → (a ≡ b) × (x ≡ y)
  one_round i front best a b x y h k =
      let offers : h.longer.offers ≡ k.longer.offers =
      each_one (λ (c : Barring) (own : List Offer). AreOffers g p i (last_length c.ticks) own)
      (λ c own others. one_offers g p i (last_length c.ticks) own others) front h.longer.offers k.longer.offers h.longer.are_offers k.longer.are_offers in
      let drafts : h.drafts ≡ k.drafts = h.longer.are ∙ ap (rows front) offers ∙ sym k.longer.are in
      let found : h.found ≡ k.found =
      each_one (IsFound g p) one_found k.drafts h.found k.found (subst (λ (l : List Draft). Each (IsFound g p) l h.found) drafts h.each) k.each in
      let bests : x ≡ y = h.best_is ∙ ap (λ (l : List Found). best_of best (filter_map whole_one l)) found ∙ sym k.best_is in
      let next = subst (λ (l : List Found). IsNextFront x (filter_map going_on l) a) found h.next_is in
      (one_front y (filter_map going_on k.found) a b (subst (λ (o : Option Barring). IsNextFront o (filter_map going_on k.found) a) bests next) k.next_is, bests)

  one_end_of_rounds : (n i : ℕ) (front : List Barring) (best a b : Option Barring) → ComeTo g p n i front best a → ComeTo g p n i front best b → a ≡ b
  one_end_of_rounds zero i front best a b h k = h ∙ sym k
  one_end_of_rounds (suc n) i [] best a b h k = h ∙ sym k
  one_end_of_rounds (suc n) i (c ∷ front) best a b h k =
      let same = one_round i (c ∷ front) best h.0 k.0 h.1 k.1 h.2 k.2 in
      one_end_of_rounds n (suc i) k.0 k.1 a b
      (subst (λ (o : Option Barring). ComeTo g p n (suc i) k.0 o a) same.1 (subst (λ (l : List Barring). ComeTo g p n (suc i) l h.1 a) same.0 h.3)) k.3

-- ---- the best, and the answer

pub one_best : (g : Grammar) (p : Performance) (a b : Option Barring) → IsBest g p a → IsBest g p b → a ≡ b
one_best g p a b h k = one_end_of_rounds g p _ 0 (no_bars ∷ []) None a b h k

pub one_chosen : (g : Grammar) (p : Performance) (ticks others : List ℕ) → AreChosen g p ticks → AreChosen g p others → ticks ≡ others
one_chosen g p ticks others (best, cost, is_best, is_cost, is) (best', cost', is_best', is_cost', is') =
    is ∙ (λ i. chosen p (one_cost_of g p cost cost' is_cost is_cost' i) (one_best g p best best' is_best is_best' i)) ∙ sym is'

pub one_answer : (g : Grammar) (p : Performance) (a b : List Edit) → IsAnswer g p a → IsAnswer g p b → a ≡ b
one_answer g p a b (ticks, are_chosen, given) (others, are_chosen', given') = by given given'
  where
    scripts : script p ticks ≡ script p others
    scripts = ap (script p) (one_chosen g p ticks others are_chosen are_chosen')

    by : (((q : Performance) × Leads g p (script p ticks) q × (a ≡ script p ticks)) ⊎ (((q : Performance) → Leads g p (script p ticks) q → ⊥) × (a ≡ [])))
        → (((q : Performance) × Leads g p (script p others) q × (b ≡ script p others)) ⊎ (((q : Performance) → Leads g p (script p others) q → ⊥) × (b ≡ [])))
        → a ≡ b
    by (inl h) (inl k) = h.2 ∙ scripts ∙ sym k.2
    by (inl h) (inr k) = absurd (k.0 h.0 (subst (λ (l : List Edit). Leads g p l h.0) scripts h.1))
    by (inr h) (inl k) = absurd (h.0 k.0 (subst (λ (l : List Edit). Leads g p l k.0) (sym scripts) k.1))
    by (inr h) (inr k) = h.1 ∙ sym k.1
