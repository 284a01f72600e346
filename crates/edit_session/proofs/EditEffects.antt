-- What an edit comes to, of what its parts come to.
use Rattle.std.proofs.Common.{◌≡◌, ◌≢◌, ℕ, ◌≤◌, List, [], Ok, inl, inr, length, map, refl, sym, ap, ◌∙◌, subst, arith}
use Rattle.std.specs.Prelude.{Err, IsOk, MatchResult, Result, max}
use Rattle.std.proofs.lemmas.List.{length-map}
use Rattle.edit_laws.specs.Edits.{edited}
use Rattle.edit_laws.specs.EditOutcomes.{IsOutcome, made}
use Rattle.edit_laws.specs.Reached.{AreReached, WouldReach}
use Rattle.edit_laws.proofs.OneReached.{one_reached}
use Rattle.edit_session.specs.Effects.{AllLive, AreBuiltInVain, IsApplied, IsCommitted, IsGivenUp, IsRejected, IsStill, IsUnprepared, IsWayBack}
use Rattle.edit_session.specs.Prepared.{Prepared, Suits, cell_of}
use Rattle.edit_session.specs.Session.{Session}
use Rattle.edit_session.specs.declared.committed.Committed.{Committed}
use Rattle.edit_session.specs.declared.committed.Dead.{Dead}
use Rattle.rhythm_base.specs.Grammar.{Grammar}
use Rattle.rhythm_base.specs.Performance.{Performance}
use Rattle.rhythm_base.specs.Voices.{IsCostOf, IsDeadVoice}
use Rattle.rhythm_base.specs.declared.edit.Edit.{Edit}
use Rattle.rhythm_base.specs.declared.edit_fault.EditFault.{EditFault}
use Rattle.rhythm_base.specs.declared.edit_fault.EditFault.TheVariants.{Memory, NoDerivation}

-- ---- how many tables are built in vain

module _ (g : Grammar) (p : Performance) (edit : Edit) where
  abbrev reached_by : Result Performance EditFault → List (ℕ × ℕ) → Type 0
  reached_by r cells = MatchResult r (λ q. AreReached g p q cells) (λ fault. cells ≡ [])

  one_by : (r : Result Performance EditFault) (xs ys : List (ℕ × ℕ)) → reached_by r xs → reached_by r ys → xs ≡ ys
  one_by (Ok q) xs ys h k = one_reached g p q xs ys h k
  one_by (Err fault) xs ys h k = h ∙ sym k

  would_reach : (q : Performance) (cells : List (ℕ × ℕ)) → edited p edit ≡ Ok q → AreReached g p q cells → WouldReach g p edit cells
  would_reach q cells is h = subst (λ r. reached_by r cells) (sym is) h

  would_reach_none : (fault : EditFault) → edited p edit ≡ Err fault → WouldReach g p edit []
  would_reach_none fault is = subst (λ r. reached_by r []) (sym is) refl

  -- none where the performance alone refuses the edit
  pub vain_none : (fault : EditFault) → (fault ≢ Memory → edited p edit ≡ Err fault) → AreBuiltInVain g p edit fault 0
  vain_none fault refused = record {
    most = λ cells would. omega arith;
    all = λ other. ([], would_reach_none fault (refused other), refl);
  }

  -- where memory is wanting no more than those of the cells that would be reached
  pub vain_memory : (q : Performance) (n : ℕ) → edited p edit ≡ Ok q → ((cells : List (ℕ × ℕ)) → AreReached g p q cells → n ≤ length cells) → AreBuiltInVain g p edit Memory n
  vain_memory q n is within = record {
    most = λ cells would. within cells (subst (λ r. reached_by r cells) is would);
    all = λ other. absurd (other refl);
  }

  -- those that were made ready
  pub vain_ready : (x : Prepared) (fault : EditFault) → edited p edit ≡ Ok x.next → Suits g p x → AreBuiltInVain g p edit fault (length x.tables)
  vain_ready x fault is suits =
      let own : WouldReach g p edit (map cell_of x.tables) = would_reach x.next (map cell_of x.tables) is suits.reached in
      let size : length (map cell_of x.tables) ≡ length x.tables = length-map x.tables cell_of in
      record {
        most = λ cells would. (let same = ap length (one_by (edited p edit) cells (map cell_of x.tables) would own) in omega (arith, same, size));
        all = λ other. (map cell_of x.tables, own, sym size);
      }

-- ---- want of memory

pub unprepared_memory : (p q : Performance) (edit : Edit) → edited p edit ≡ Ok q → IsUnprepared p edit Memory
unprepared_memory p q edit is = record {
  refused = λ other. absurd (other refl);
  memory = λ e. subst IsOk (sym is) refl;
}

-- ---- a session, one that has taken memory for an edit, and one that is then put on what is prepared

-- it is as before
pub still_same : (old new : Session) (edit : Edit) → new.grammar ≡ old.grammar → new.workers ≡ old.workers → new.room ≡ old.room → IsStill old edit new
still_same old new edit grammar workers room = record { grammar = grammar; workers = workers; room = omega (arith, room); enough = λ has. room }

module _ (old mid new : Session) (edit : Edit) (x : Prepared) (is : edited old.performance edit ≡ Ok x.next) (grammar : mid.grammar ≡ old.grammar)
    (workers : mid.workers ≡ old.workers) (performance : mid.performance ≡ old.performance) (raised : mid.room ≡ max old.room (length x.next.bars)) where
  still : new.grammar ≡ mid.grammar → new.workers ≡ mid.workers → new.room ≡ mid.room → IsStill old edit new
  still by crew room = record {
    grammar = by ∙ grammar;
    workers = crew ∙ workers;
    room = omega (arith, room, raised);
    enough = λ has. (let few = has x.next is in omega (arith, room, raised, few));
  }

  pub applied : (c : Committed) → Suits old.grammar old.performance x → IsCommitted mid x new c → IsApplied old edit new c.applied
  applied c suits done = record {
    still = still done.grammar done.workers done.room;
    made = subst (IsOutcome old.grammar old.performance edit (made c.applied.built c.applied.cost)) (sym done.performance) (
      map cell_of x.tables,
      record { made = is; reaches = suits.reached; costs = subst (λ (g : Grammar). IsCostOf g x.next c.applied.cost) grammar done.cost },
      done.built ∙ sym (length-map x.tables cell_of),
    );
    derivations = subst (λ (g : Grammar). AllLive g new.performance) (sym done.grammar) (subst (AllLive mid.grammar) (sym done.performance) done.derivations);
    room = (let long = ap (λ (p : Performance). length p.bars) done.performance in let room = done.room in omega (arith, long, room, raised));
  }

  pub way_back : (c : Committed) → IsCommitted mid x new c → IsWayBack old new c.back
  way_back c done = record { next = done.way_back.next ∙ performance; suits = done.way_back.suits; room = done.way_back.room }

  -- some voice would have no derivation
  pub dead : (d : Dead) → new ≡ mid → IsGivenUp mid x d → IsRejected old edit new (NoDerivation d.channel d.bar)
  dead d same given = record {
    still = still (ap (λ (s : Session). s.grammar) same) (ap (λ (s : Session). s.workers) same) (ap (λ (s : Session). s.room) same);
    performance = ap (λ (s : Session). s.performance) same ∙ performance;
    refused = λ other. inr (x.next, d.channel, d.bar, is, subst (λ (g : Grammar). IsDeadVoice g x.next d.channel d.bar) grammar given.dead, refl);
    never = λ other next is_next live. given.lives (subst (λ (g : Grammar). AllLive g x.next) (sym grammar) (subst (AllLive old.grammar) (same_next next is_next) live));
    memory = λ e. absurd (cc);
  }
    where
      same_next : (next : Performance) → edited old.performance edit ≡ Ok next → next ≡ x.next
      same_next next is_next =
          let both : Ok next ≡ Ok x.next = sym is_next ∙ is in
          cc

-- it is not made ready
pub rejected : (old : Session) (edit : Edit) (fault : EditFault) → IsUnprepared old.performance edit fault → IsRejected old edit old fault
rejected old edit fault h = record {
  still = still_same old old edit refl refl refl;
  performance = refl;
  refused = λ other. inl (h.refused other);
  never = λ other next is live. (let both = sym (h.refused other) ∙ is in absurd (none fault next both));
  memory = h.memory;
}
  where
    none : (f : EditFault) (q : Performance) → Err f ≡ Ok q → ⊥
    none f q e = absurd (cc)

-- memory is wanting for its bars
pub rejected_memory : (old new : Session) (edit : Edit) (q : Performance) → edited old.performance edit ≡ Ok q → new.grammar ≡ old.grammar → new.workers ≡ old.workers
    → new.performance ≡ old.performance → new.room ≡ old.room → IsRejected old edit new Memory
rejected_memory old new edit q is grammar workers performance room = record {
  still = still_same old new edit grammar workers room;
  performance = performance;
  refused = λ other. absurd (other refl);
  never = λ other. absurd (other refl);
  memory = λ e. subst IsOk (sym is) refl;
}
