-- Whatever is told, the take stays well formed.
use Rattle.std.proofs.Common.{◌≡◌, ℕ, ℤ, Bool, true, false, arith, subst, Option, Some, None, Ok, Err}
use Rattle.std.specs.Prelude.{IfOk, Result}
use Rattle.rhythm_base.specs.declared.limits.TheConstants.{LATEST_EVENT}
use Rattle.performance_load.specs.Take.{Take}
use Rattle.performance_load.specs.Taking.{IsTakeFormed}
use Rattle.performance_prepare.specs.Outcome.{◌>>=◌}
use Rattle.performance_prepare.specs.Prepared.{changed, given, if_told, prepared}
use Rattle.performance_prepare.specs.Ranges.{AreInRange, IfGiven, IsKey}
use Rattle.performance_prepare.specs.Ready.{IsReady}
use Rattle.performance_prepare.specs.Shift.{latest_mark}
use Rattle.performance_prepare.specs.Keying.{with_key}
use Rattle.performance_prepare.specs.Tempo.{with_tempo}
use Rattle.performance_prepare.specs.Upbeat.{with_upbeat}
use Rattle.performance_prepare.specs.declared.options.Fraction.{Fraction}
use Rattle.performance_prepare.specs.declared.options.Options.{Options}
use Rattle.performance_prepare.specs.declared.prepare_fault.PrepareFault.{PrepareFault}
use Rattle.performance_prepare.proofs.Kept.{kept, key_formed, tempo_kept, upbeat_kept}

-- the take that it gives is well formed
record GivesFormed (m : Result Take PrepareFault) : Type 0 where
  pub has : (u : Take) → m ≡ Ok u → IsTakeFormed u

-- after a map that gives what the next ones need
lead_on : (P : Take → Type 0) (m : Result Take PrepareFault) (next : Take → Result Take PrepareFault) → IfOk m P
    → ((u : Take) → P u → GivesFormed (next u)) → GivesFormed (m >>= next)
lead_on P (Ok t) next is each = each t is
lead_on P (Err fault) next is each = record { has = λ u e. absurd (cc) }

-- ---- each map that keeps a take ready

if_told_then : (latest : ℕ) (map : Take → Result Take PrepareFault) (b : Bool) (t : Take)
    (next : Take → Result Take PrepareFault) → IsReady latest t
    → ((t : Take) → IsReady latest t → IfOk (map t) (IsReady latest))
    → ((u : Take) → IsReady latest u → GivesFormed (next u)) → GivesFormed (if_told map b t >>= next)
if_told_then latest map false t next ready kept each = each t ready
if_told_then latest map true t next ready kept each = lead_on (IsReady latest) (map t) next (kept t ready) each

given_then : {X : Type 0} (latest : ℕ) (map : X → Take → Result Take PrepareFault) (o : Option X) (t : Take)
    (next : Take → Result Take PrepareFault) → IsReady latest t
    → ((x : X) (t : Take) → IsReady latest t → IfOk (map x t) (IsReady latest))
    → ((u : Take) → IsReady latest u → GivesFormed (next u)) → GivesFormed (given map o t >>= next)
given_then latest map None t next ready kept each = each t ready
given_then latest map (Some x) t next ready kept each = lead_on (IsReady latest) (map x t) next (kept x t ready) each

changed_then : {X : Type 0} (latest : ℕ) (map : X → Take → Take) (o : Option X) (t : Take)
    (next : Take → Result Take PrepareFault) → IsReady latest t
    → ((x : X) (t : Take) → IsReady latest t → IsReady latest (map x t))
    → ((u : Take) → IsReady latest u → GivesFormed (next u)) → GivesFormed (changed map o t >>= next)
changed_then latest map None t next ready kept each = each t ready
changed_then latest map (Some x) t next ready kept each = each (map x t) (kept x t ready)

-- ---- the others

later : (t : Take) → IsReady LATEST_EVENT t → IsReady latest_mark t
later t ready = record {
  formed = ready.formed;
  marks = record {
    tempos = λ k d lt. let low = ready.marks.tempos k d lt in omega (arith, low);
    key_marks = λ k d lt. let low = ready.marks.key_marks k d lt in omega (arith, low);
    signatures = λ k d lt. let low = ready.marks.signatures k d lt in omega (arith, low);
  };
}

tempo_then : (o : Option ℕ) (t : Take) (next : Take → Result Take PrepareFault) → IsReady LATEST_EVENT t
    → ((u : Take) → IsReady latest_mark u → GivesFormed (next u)) → GivesFormed (given with_tempo o t >>= next)
tempo_then None t next ready each = each t (later t ready)
tempo_then (Some q) t next ready each = lead_on (IsReady latest_mark) (with_tempo q t) next (tempo_kept q t ready) each

upbeat_then : (o : Option Fraction) (t : Take) (next : Take → Result Take PrepareFault) → IsReady latest_mark t
    → ((u : Take) → IsTakeFormed u → GivesFormed (next u)) → GivesFormed (given with_upbeat o t >>= next)
upbeat_then None t next ready each = each t ready.formed
upbeat_then (Some f) t next ready each = lead_on IsTakeFormed (with_upbeat f t) next (upbeat_kept f t ready) each

key_last : (o : Option ℤ) (t : Take) → IfGiven o IsKey → IsTakeFormed t → GivesFormed (changed with_key o t)
key_last None t key formed = record { has = λ u e. let same : t ≡ u = cc in subst IsTakeFormed same formed }
key_last (Some sf) t key formed =
    record { has = λ u e. let same : with_key sf t ≡ u = cc in subst IsTakeFormed same (key_formed sf t key formed) }

-- ---- all of them: each map is a step of the search

all_formed : (o : Options) (t : Take) → AreInRange o → IsReady LATEST_EVENT t → GivesFormed (prepared o t)
all_formed o t range ready =
    search (if_told_then, given_then, changed_then, kept, tempo_then, upbeat_then, key_last) depth 30 fits 8000

pub prepared_formed : (o : Options) (t u : Take) → AreInRange o → IsReady LATEST_EVENT t → prepared o t ≡ Ok u
    → IsTakeFormed u
prepared_formed o t u range ready = (all_formed o t range ready).has u
