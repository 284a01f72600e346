-- What is kept beside a session is still kept when it has moved to another performance: by an undo, a redo or an edit.
use Rattle.std.proofs.Common.{◌≡◌, ◌≤◌, ℕ, ◌+◌, List, [], ◌∷◌, ◌++◌, length, length-append, refl, sym, subst, arith, drop, drop_at}
use Rattle.std.specs.Prelude.{All}
use Rattle.std.proofs.lemmas.List.Elements.{All-append, All-cons, All-drop, All-head, All-nil, All-take, All-weaker}
use Rattle.std.proofs.Math.Seq.{take-append_seam}
use Rattle.edit_laws.proofs.Edited.{edited_formed}
use Rattle.edit_session.specs.Effects.{AllLive, IsApplied, IsWayBack}
use Rattle.edit_session.specs.Prepared.{Prepared, Suits}
use Rattle.edit_session.specs.Session.{Session}
use Rattle.edit_session.specs.declared.committed.Applied.{Applied}
use Rattle.rhythm_base.specs.EditRanges.{IsEditInRange}
use Rattle.rhythm_base.specs.Grammar.{Grammar}
use Rattle.rhythm_base.specs.Performance.{IsWellFormed, Performance}
use Rattle.rhythm_base.specs.Voices.{HasDerivation}
use Rattle.rhythm_base.specs.declared.edit.Edit.{Edit}
use Rattle.session_history.specs.Ways.{CanBeHeld, KeepsWays, LeadsBack, LeadsOn, Lives}
use Rattle.session_history.specs.declared.steps.TheConstants.{MOST_STEPS}
use Rattle.session_history.proofs.Leads.{before_last, from_rest, with_last}

pub living : (g : Grammar) (p : Performance) → IsWellFormed p → All (HasDerivation g p) p.channels → Lives g p
unfolding Lives
living g p formed derivations = (formed, derivations)

pub lives_formed : (g : Grammar) (p : Performance) → Lives g p → IsWellFormed p
unfolding Lives
lives_formed g p lives = lives.0

pub lives_derived : (g : Grammar) (p : Performance) → Lives g p → All (HasDerivation g p) p.channels
unfolding Lives
lives_derived g p lives = lives.1

-- a session moved to the performance that x leads to, and the way back from there
pub record IsMoved (old new : Session) (x back : Prepared) : Type 0 where
  pub grammar : new.grammar ≡ old.grammar
  pub performance : new.performance ≡ x.next
  pub lives : Lives old.grammar x.next
  pub short : length x.next.bars ≤ new.room
  pub room : old.room ≤ new.room
  pub way_back : back.next ≡ old.performance
  pub suits : Suits new.grammar new.performance back

abbrev pub KeptAt : Session → Prepared → Type 0
KeptAt session x = CanBeHeld session.grammar session.room x.next

-- ---- the steps at the ends

last_of_all : (P : Prepared → Type 0) (xs : List Prepared) (x : Prepared) → All P (xs ++ x ∷ []) → P x
last_of_all P xs x all = All-head P x [] (subst (All P) (drop_at xs (x ∷ []) (length xs) refl) (All-drop P (length xs) (xs ++ x ∷ []) all))

front_of_all : (P : Prepared → Type 0) (xs ys : List Prepared) → All P (xs ++ ys) → All P xs
front_of_all P xs ys all = subst (All P) (take-append_seam xs ys) (All-take P (length xs) (xs ++ ys) all)

module _ (session : Session) (past future : List Prepared) (keeps : KeepsWays session past future) where
  -- the last way back suits the session, and a session can be put there
  pub last_way : (xs : List Prepared) (x : Prepared) → past ≡ xs ++ x ∷ [] → Suits session.grammar session.performance x × KeptAt session x
  last_way xs x is = (
    (before_last session.grammar xs x session.performance (subst (λ ys. LeadsBack session.grammar ys session.performance) is keeps.leads_back)).1,
    last_of_all (KeptAt session) xs x (subst (All (KeptAt session)) is keeps.past),
  )

  -- and so the next way on
  pub next_way : (xs : List Prepared) (x : Prepared) → future ≡ x ∷ xs → Suits session.grammar session.performance x × KeptAt session x
  next_way xs x is = (
    (subst (LeadsOn session.grammar session.performance) is keeps.leads_on).0,
    All-head (KeptAt session) x xs (subst (All (KeptAt session)) is keeps.future),
  )

-- ---- a session that stays

-- nothing is kept beside a session at first
pub begun_keeps : (session : Session) (back on : List Prepared) → back ≡ [] → on ≡ [] → IsWellFormed session.performance
    → All (HasDerivation session.grammar session.performance) session.performance.channels → length session.performance.bars ≤ session.room
    → KeepsWays session back on
begun_keeps session back on no_back no_on formed derivations short =
    subst (λ xs. KeepsWays session xs on) (sym no_back) (subst (KeepsWays session []) (sym no_on) (record {
      few = omega arith;
      leads_back = tt;
      leads_on = tt;
      past = All-nil (KeptAt session);
      present = record { lives = living session.grammar session.performance formed derivations; short = short };
      future = All-nil (KeptAt session);
    }))

more_room : (g : Grammar) (room more : ℕ) → room ≤ more → (xs : List Prepared) → All (λ x. CanBeHeld g room x.next) xs → All (λ x. CanBeHeld g more x.next) xs
more_room g room more few xs kept =
    All-weaker (λ x. CanBeHeld g room x.next) (λ x. CanBeHeld g more x.next) (λ x is. record { lives = is.lives; short = omega (arith, is.short, few) }) xs kept

-- what is kept beside a session is kept beside one on the same performance that has more room
pub rested_keeps : (old new : Session) (back on : List Prepared) → KeepsWays old back on → new.grammar ≡ old.grammar → new.performance ≡ old.performance → old.room ≤ new.room
    → KeepsWays new back on
rested_keeps old new back on keeps grammar performance room =
    let stays : KeepsWays (record { grammar = old.grammar; performance = old.performance; workers = new.workers; room = new.room }) back on = record {
      few = keeps.few;
      leads_back = keeps.leads_back;
      leads_on = keeps.leads_on;
      past = more_room old.grammar old.room new.room room back keeps.past;
      present = record { lives = keeps.present.lives; short = omega (arith, keeps.present.short, room) };
      future = more_room old.grammar old.room new.room room on keeps.future;
    } in
    subst (λ g. KeepsWays (record { grammar = g; performance = new.performance; workers = new.workers; room = new.room }) back on) (sym grammar)
    (subst (λ p. KeepsWays (record { grammar = old.grammar; performance = p; workers = new.workers; room = new.room }) back on) (sym performance) stays)

-- ---- a session that moved

-- an undo and a redo move it to what is kept
pub gone_there : (old new : Session) (x back : Prepared) → KeptAt old x → new.grammar ≡ old.grammar → new.performance ≡ x.next → new.room ≡ old.room
    → back.next ≡ old.performance → Suits new.grammar new.performance back → IsMoved old new x back
gone_there old new x back kept grammar performance room way_back suits = record {
  grammar = grammar;
  performance = performance;
  lives = kept.lives;
  short = omega (arith, kept.short, room);
  room = omega (arith, room);
  way_back = way_back;
  suits = suits;
}

-- what leads to where a session stands
abbrev pub there : Session → Prepared → Prepared
there session x = record x { next = session.performance }

-- and so does an edit that is made
pub moved_by : (old new : Session) (edit : Edit) (a : Applied) (back : Prepared) → IsWellFormed old.performance → IsEditInRange edit → IsApplied old edit new a → IsWayBack old new back
    → IsMoved old new (there new back) back
moved_by old new edit a back formed range is way = record {
  grammar = is.still.grammar;
  performance = refl;
  lives = living old.grammar new.performance (edited_formed old.performance new.performance edit formed range is.made.1.made)
      (subst (λ (g : Grammar). AllLive g new.performance) is.still.grammar is.derivations);
  short = is.room;
  room = is.still.room;
  way_back = way.next;
  suits = way.suits;
}

module _ (old new : Session) (past future : List Prepared) (x back : Prepared) (keeps : KeepsWays old past future) (moved : IsMoved old new x back) where
  still_kept : (xs : List Prepared) → All (KeptAt old) xs → All (KeptAt new) xs
  still_kept xs kept =
      All-weaker (KeptAt old) (KeptAt new)
      (λ x is. record { lives = subst (λ g. Lives g x.next) (sym moved.grammar) is.lives; short = omega (arith, is.short, moved.room) }) xs kept

  back_kept : KeptAt new back
  back_kept = record {
    lives = subst (λ g. Lives g back.next) (sym moved.grammar) (subst (Lives old.grammar) (sym moved.way_back) keeps.present.lives);
    short = subst (λ (p : Performance). length p.bars ≤ new.room) (sym moved.way_back) (omega (arith, keeps.present.short, moved.room));
  }

  present_kept : CanBeHeld new.grammar new.room new.performance
  present_kept = record {
    lives = subst (λ g. Lives g new.performance) (sym moved.grammar) (subst (Lives old.grammar) (sym moved.performance) moved.lives);
    short = subst (λ (p : Performance). length p.bars ≤ new.room) (sym moved.performance) moved.short;
  }

  -- all ways back, with the way back from where the session is now
  longer_back : LeadsBack new.grammar (past ++ back ∷ []) new.performance
  longer_back =
      with_last new.grammar past back new.performance
      (subst (λ g. LeadsBack g past back.next) (sym moved.grammar) (subst (LeadsBack old.grammar past) (sym moved.way_back) keeps.leads_back)) moved.suits

  longer_kept : All (KeptAt new) (past ++ back ∷ [])
  longer_kept = All-append (KeptAt new) past (back ∷ []) (still_kept past keeps.past) (All-cons (KeptAt new) back [] back_kept (All-nil (KeptAt new)))

  pub undone_keeps : (xs : List Prepared) → past ≡ xs ++ x ∷ [] → KeepsWays new xs (back ∷ future)
  undone_keeps xs is =
      let leads = before_last old.grammar xs x old.performance (subst (λ ys. LeadsBack old.grammar ys old.performance) is keeps.leads_back) in
      let long : length past ≡ length xs + 1 = subst (λ ys. length ys ≡ length xs + 1) (sym is) (length-append xs (x ∷ [])) in
      record {
        few = omega (arith, keeps.few, long);
        present = present_kept;
        leads_back = subst (λ g. LeadsBack g xs new.performance) (sym moved.grammar) (subst (LeadsBack old.grammar xs) (sym moved.performance) leads.0);
        leads_on = (moved.suits, subst (λ g. LeadsOn g back.next future) (sym moved.grammar) (subst (λ p. LeadsOn old.grammar p future) (sym moved.way_back) keeps.leads_on));
        past = still_kept xs (front_of_all (KeptAt old) xs (x ∷ []) (subst (All (KeptAt old)) is keeps.past));
        future = All-cons (KeptAt new) back future back_kept (still_kept future keeps.future);
      }

  pub redone_keeps : (rest : List Prepared) → future ≡ x ∷ rest → KeepsWays new (past ++ back ∷ []) rest
  redone_keeps rest is =
      let on : LeadsOn old.grammar old.performance (x ∷ rest) = subst (LeadsOn old.grammar old.performance) is keeps.leads_on in
      let kept : All (KeptAt old) (x ∷ rest) = subst (All (KeptAt old)) is keeps.future in
      let long : length future ≡ length rest + 1 = subst (λ ys. length ys ≡ length rest + 1) (sym is) (omega arith) in
      record {
        few = omega (arith, keeps.few, long, length-append past (back ∷ []));
        present = present_kept;
        leads_back = longer_back;
        leads_on = subst (λ g. LeadsOn g new.performance rest) (sym moved.grammar) (subst (λ p. LeadsOn old.grammar p rest) (sym moved.performance) on.1);
        past = longer_kept;
        future = still_kept rest (All-drop (KeptAt old) 1 (x ∷ rest) kept);
      }

  pub edited_keeps : (kept : List Prepared) → (n : ℕ) × (kept ≡ drop n (past ++ back ∷ [])) → length kept ≤ MOST_STEPS → KeepsWays new kept []
  edited_keeps kept rest few = record {
    few = omega (arith, few);
    present = present_kept;
    leads_back = subst (λ ys. LeadsBack new.grammar ys new.performance) (sym rest.1) (from_rest new.grammar rest.0 (past ++ back ∷ []) new.performance longer_back);
    leads_on = tt;
    past = subst (All (KeptAt new)) (sym rest.1) (All-drop (KeptAt new) rest.0 (past ++ back ∷ []) longer_kept);
    future = All-nil (KeptAt new);
  }
