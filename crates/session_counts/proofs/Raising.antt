-- Counts that are raised by lists, one after another.
use Rattle.std.proofs.Common.{◌≡◌, ◌∙◌, ℕ, ◌+◌, ◌<◌, List, [], ◌∷◌, ◌++◌, append_assoc, append-nil, ap, get_or, length, refl, subst, sym, take}
use Rattle.std.specs.Prelude.{flat_map}
use Rattle.std.proofs.lemmas.Grind.{flat_map-append}
use Rattle.std.proofs.lemmas.List.{take_more}
use Rattle.bar_pool.proofs.EachLemmas.{Each-more}
use Rattle.edit_session.specs.RuleLists.{AreLeastLists}
use Rattle.rhythm_base.specs.Grammar.{Grammar}
use Rattle.rhythm_base.specs.Lists.{Each}
use Rattle.rhythm_base.specs.Performance.{Performance}
use Rattle.rule_counts.specs.Counts.{AreRaised, AreRuleCounts}
use Rattle.rule_counts.proofs.Adding.{add_up}
use Rattle.session_counts.specs.Counting.{AreRaisedBy}

-- nothing is counted
pub by_none : (rules : ℕ) (counts : List ℕ) → AreRaisedBy rules [] counts counts
by_none rules counts lists are = subst (λ ls. AreRuleCounts rules ls counts) (sym (append-nil lists)) are

-- these lists, and then those
pub by_both : (rules : ℕ) (own more : List (List ℕ)) (old mid new : List ℕ) → AreRaisedBy rules own old mid → AreRaisedBy rules more mid new → AreRaisedBy rules (own ++ more) old new
by_both rules own more old mid new h k lists are = subst (λ ls. AreRuleCounts rules ls new) (append_assoc lists own more) (k (lists ++ own) (h lists are))

-- one list
pub by_one : (rules : ℕ) (list old new : List ℕ) → AreRaised old list new → AreRaisedBy rules (list ∷ []) old new
by_one rules list old new raised lists are = add_up rules lists list old new are raised

-- one more of some lists, in a loop over them
pub by_more : (rules : ℕ) (all : List (List ℕ)) (i : ℕ) (old mid new : List ℕ) → i < length all → AreRaisedBy rules (take i all) old mid → AreRaised mid (get_or all i []) new
    → AreRaisedBy rules (take (i + 1) all) old new
by_more rules all i old mid new lt h raised =
    subst (λ ls. AreRaisedBy rules ls old new) (sym (take_more all i [] lt))
    (by_both rules (take i all) (get_or all i [] ∷ []) old mid new h (by_one rules (get_or all i []) mid new raised))

-- the voices that are counted so far
pub record AreVoicesCounted (g : Grammar) (p : Performance) (count : ℕ) (channels old new : List ℕ) : Type 0 where
  pub voices : List (List (List ℕ))
  pub each : Each (AreLeastLists g p) (take count channels) voices
  pub raised : AreRaisedBy (length g.rules) (flat_map (λ voice. voice) voices) old new

-- and one more
pub one_more : (g : Grammar) (p : Performance) (n d : ℕ) (channels old mid new : List ℕ) (own : List (List ℕ)) → n < length channels → AreVoicesCounted g p n channels old mid
    → AreLeastLists g p (get_or channels n d) own → AreRaisedBy (length g.rules) own mid new → AreVoicesCounted g p (n + 1) channels old new
one_more g p n d channels old mid new own lt h lists raised =
    let all : flat_map (λ (voice : List (List ℕ)). voice) (h.voices ++ own ∷ []) ≡ flat_map (λ voice. voice) h.voices ++ own =
    flat_map-append (λ (voice : List (List ℕ)). voice) h.voices (own ∷ []) ∙ ap (λ ls. flat_map (λ (voice : List (List ℕ)). voice) h.voices ++ ls) (append-nil own) in
    record {
      voices = h.voices ++ own ∷ [];
      each = Each-more (AreLeastLists g p) channels h.voices n d own lt h.each lists;
      raised = subst (λ ls. AreRaisedBy (length g.rules) ls old new) (sym all) (by_both (length g.rules) _ own old mid new h.raised raised);
    }

-- before the first
pub none_counted : (g : Grammar) (p : Performance) (channels counts : List ℕ) → AreVoicesCounted g p 0 channels counts counts
none_counted g p channels counts = record { voices = []; each = refl; raised = by_none (length g.rules) counts }
