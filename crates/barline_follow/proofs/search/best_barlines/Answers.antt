use Rattle.std.proofs.Common.{rules, ◌≡◌, ℕ, zero, suc, true, false, nat_eq, ◌+◌, ◌-◌, ◌*◌, ◌<◌, ◌≤◌, ◌^◌, ◌∷◌, [], List, length, map, ap, sym, subst, ◌∙◌, refl, arith}
use Rattle.std.specs.Prelude.{All, None}
use Rattle.std.proofs.lemmas.Bool.{eqb-false, eqb-true}
use Rattle.std.proofs.lemmas.List.{length-map, nil_from_length}
use Rattle.std.proofs.lemmas.List.Elements.{All-nil}
use Rattle.rhythm_base.specs.declared.chord.Chord.{Chord}
use Rattle.rhythm_base.specs.declared.note.Note.{Note}
use Rattle.rhythm_base.specs.Lists.{Each}
use Rattle.rhythm_base.specs.Performance.{IsWellFormed}
use Rattle.rhythm_base.specs.Voices.{AreChordsOf}
use Rattle.rhythm_base.proofs.OrderedLists.{all_cons}
use Rattle.edit_session.proofs.Risen.{risen_more, risen_upto}
use Rattle.rhythm_base.specs.Counter.{risen}
use Rattle.bar_pool.specs.Pool.{RisesWithin}
use Rattle.barline_follow.specs.Builds.{most_lists}
use Rattle.barline_follow.specs.Barring.{Barring, Course}
use Rattle.barline_follow.specs.Gathered.{barring_of}
use Rattle.barline_follow.specs.Rounds.{ComeTo, IsRound, no_bars}
use Rattle.barline_follow.specs.Searched.{AreBuiltInRound, AreBuiltInRounds, AreBuiltInSearch}
use Rattle.barline_follow.specs.Courses.{IsCourse, first_course}
use Rattle.barline_follow.proofs.NextBarLemmas.{closed_from, rooted_is}
use Rattle.barline_follow.proofs.RoundTables.{more_built, none_built}
use Rattle.barline_follow.proofs.Searching.{come_more, come_none, each_long}
use Rattle.barline_follow.proofs.WholeRounds.{is_first}
use Rattle.barline_follow.proofs.search.best_barlines.Goals as goal

above_none : (n : ℕ) → (n ≡ 0 → ⊥) → 1 ≤ n
above_none zero h = absurd (h refl)
above_none (suc n) h = omega arith

pub rounds-init : goal.rounds-init
rounds-init g c =
    let p = c.args.performance.now in
    let voices : List (List Chord) = c.in_ok-voices.voices.items in
    let total : ℕ = 2 * length p.bars in
    let all : total - 0 ≡ total = omega arith in
    let long : c.len.result ≡ length voices = search rules in
    let front : c.in_ok-front.front.items ≡ first_course (length voices) ∷ [] = c.in_ok-front.ensures ∙ ap (λ (n : ℕ). first_course n ∷ []) long in
    let Is : Course → Type 0 = IsCourse c.args.grammar.now p voices 0 in (
      subst (λ (l : List Course). All Is l) (sym front) (all_cons Is (first_course (length voices)) [] (is_first c.args.grammar.now p voices) (All-nil Is)),
      λ last come. subst (λ (k : ℕ). ComeTo c.args.grammar.now p k 0 (no_bars ∷ []) None last) all
          (subst (λ (f : List Course). ComeTo c.args.grammar.now p (total - 0) 0 (map barring_of f) None last) front come),
      (let one : length c.in_ok-front.front.items ≡ 1 = ap length front in omega (arith, one)),
      (omega arith, omega arith),
      (
        0,
        omega arith,
        λ others built.
            (let here = subst (λ (k : ℕ). AreBuiltInRounds c.args.grammar.now p k 0 (no_bars ∷ []) None others) all
            (subst (λ (f : List Course). AreBuiltInRounds c.args.grammar.now p (total - 0) 0 (map barring_of f) None others) front built) in
            let none : 0 + others ≡ others = omega arith in
            subst (AreBuiltInSearch c.args.grammar.now p) (sym none) here),
      ),
    )

-- after so many rounds no more tables are built than in all of them
upto_all : (start v channels bars m now : ℕ) → v ≡ channels → m ≤ 2 * bars → RisesWithin start now (m * (24 * 14 * v)) → RisesWithin start now ((2 * bars) * (24 * 14 * channels))
upto_all start v channels bars m now voices few built =
    (built.0, subst (λ (n : ℕ). now ≤ risen start ((2 * bars) * (24 * 14 * n))) voices (risen_upto start m (2 * bars) (24 * 14 * v) now few built.1))

-- and one round more
within_more : (start m d now later : ℕ) → RisesWithin start now (m * d) → RisesWithin now later d → RisesWithin start later ((m + 1) * d)
within_more start m d now later h k = (omega (arith, h.0, k.0), risen_more start m d now later h.1 k.1)

pub closing_tick-closing-requires : goal.closing_tick-closing-requires
closing_tick-closing-requires g c =
    let formed : IsWellFormed c.args.performance.now = c.notes.ensures.formed in
    subst (λ (l : List Note). All (λ (n : Note). n.onset < 2 ^ 63) l) (sym c.notes.ensures.value)
    (λ k d lt. omega (arith, (formed.notes k d lt).onset, formed.last_barline))

pub next_round-requires-clause-next : goal.next_round-requires-clause-next
next_round-requires-clause-next g c κs within =
    let p = c.args.performance.now in
    let formed : IsWellFormed p = c.notes.ensures.formed in
    let bars : length c.bars.result.now ≡ length p.bars = ap length c.bars.ensures.value in
    let rooted = rooted_is c.args.grammar.now c.bar_like-like.result c.check_starts.result c.check_starts.ensures.starts c.check_starts.ensures.no_start c.check_starts.ensures.no_memory in
    record {
      readable = c.requires.readable;
      formed = formed;
      chords = subst (λ (l : List (List Chord)). Each (AreChordsOf c.args.grammar.now p) p.channels l) (sym c.as_slice.ensures.value) c.in_ok-voices.ensures;
      few = omega (arith, bars, c.rounds-test.true, formed.few_bars);
      like = c.bar_like-like.ensures.like;
      rooted = λ is. rooted.0 (sym c.is_ok.ensures.value ∙ is);
      rootless = λ is. rooted.1 (sym c.is_ok.ensures.value ∙ is);
      closing = λ end. closed_from end c.closing_tick-closing.result c.notes.result.now p.notes c.notes.ensures.value (c.closing_tick-closing.ensures end);
    }

pub next_round-requires-clause-front : goal.next_round-requires-clause-front
next_round-requires-clause-front g c κs within =
    let p = c.args.performance.now in
    subst (λ (vs : List (List Chord)). All (IsCourse c.args.grammar.now p vs c.rounds.number) c.as_slice-lists.result.now) (sym c.as_slice.ensures.value)
    (subst (λ (l : List Course). All (IsCourse c.args.grammar.now p c.in_ok-voices.voices.items c.rounds.number) l) (sym c.as_slice-lists.ensures.value) c.rounds.invariant.0)

pub next_round-requires-clause-few_lists : goal.next_round-requires-clause-few_lists
next_round-requires-clause-few_lists g c κs within =
    subst (λ (l : List Course). length l ≤ most_lists c.rounds.number) (sym c.as_slice-lists.ensures.value) c.rounds.invariant.2

pub rounds-preserved : goal.rounds-preserved
rounds-preserved g c =
    let p = c.args.performance.now in
    let total : ℕ = 2 * length p.bars in
    let n : ℕ = c.rounds.number in
    let bars : length c.bars.result.now ≡ length p.bars = ap length c.bars.ensures.value in
    let left : total - n ≡ suc (total - (n + 1)) = omega (arith, bars, c.rounds-test.true) in
    let next : n + 1 ≡ suc n = omega arith in
    let front : List Course = c.rounds.front.items in
    let tested : nat_eq (length front) 0 ≡ false = search rules in
    let empty : length front ≡ 0 → ⊥ = eqb-false (length front) 0 tested in
    let some : 1 ≤ length front = above_none (length front) empty in
    let round : IsRound c.args.grammar.now p n (map barring_of front) c.rounds.best (map barring_of c.in_ok-longer.longer.items) c.in_ok-longer.longer_best =
    subst (λ (l : List Course). IsRound c.args.grammar.now p n (map barring_of l) c.rounds.best (map barring_of c.in_ok-longer.longer.items) c.in_ok-longer.longer_best)
    c.as_slice-lists.ensures.value c.in_ok-longer.ensures.round in (
      subst (λ (vs : List (List Chord)). All (IsCourse c.args.grammar.now p vs (n + 1)) c.in_ok-longer.longer.items) c.as_slice.ensures.value c.in_ok-longer.ensures.courses,
      λ last come. c.rounds.invariant.1 last
          (subst (λ (k : ℕ). ComeTo c.args.grammar.now p k n (map barring_of front) c.rounds.best last) (sym left)
          (come_more c.args.grammar.now p (total - (n + 1)) n (map barring_of front) c.rounds.best (map barring_of c.in_ok-longer.longer.items) c.in_ok-longer.longer_best last
          (omega (arith, some, length-map front barring_of)) round
          (subst (λ (i : ℕ). ComeTo c.args.grammar.now p (total - (n + 1)) i (map barring_of c.in_ok-longer.longer.items) c.in_ok-longer.longer_best last) next come))),
      subst (λ (k : ℕ). length c.in_ok-longer.longer.items ≤ most_lists k) (sym next) c.in_ok-longer.ensures.lists,
      within_more c.args.builds.now n (24 * 14 * length c.in_ok-voices.voices.items) c.rounds.builds c.next_round.new.builds c.rounds.invariant.3
          (subst (λ (vs : List (List Chord)). RisesWithin c.rounds.builds c.next_round.new.builds (24 * 14 * length vs)) c.as_slice.ensures.value c.next_round.ensures.most),
      (let before = c.rounds.invariant.4 in
          let here = c.in_ok-longer.ensures.builds in
          let rose = before.1 in
          let rises = here.1 in
          let m : ℕ = before.0 in
          let own : ℕ = here.0 in
          let built_is : AreBuiltInRound c.args.grammar.now p n (map barring_of front) own =
          subst (λ (l : List Course). AreBuiltInRound c.args.grammar.now p n (map barring_of l) own) c.as_slice-lists.ensures.value here.2 in (
            m + own,
            omega (arith, rose, rises),
            λ others rest.
                (let more = more_built c.args.grammar.now p (total - (n + 1)) n (map barring_of front) c.rounds.best (map barring_of c.in_ok-longer.longer.items) c.in_ok-longer.longer_best own others
                (omega (arith, some, length-map front barring_of)) round built_is
                (subst (λ (i : ℕ). AreBuiltInRounds c.args.grammar.now p (total - (n + 1)) i (map barring_of c.in_ok-longer.longer.items) c.in_ok-longer.longer_best others) next rest) in
                let all = before.2 (own + others) (subst (λ (k : ℕ). AreBuiltInRounds c.args.grammar.now p k n (map barring_of front) c.rounds.best (own + others)) (sym left) more) in
                let sum : m + (own + others) ≡ m + own + others = omega arith in
                subst (AreBuiltInSearch c.args.grammar.now p) sum all),
          )),
    )

pub returns-then-is_empty-clause-best : goal.returns-then-is_empty-clause-best
returns-then-is_empty-clause-best g c =
    let p = c.args.performance.now in
    let front : List Course = c.rounds.front.items in
    let tested : nat_eq (length front) 0 ≡ true = search rules in
    let none : map barring_of front ≡ [] = ap (map barring_of) (nil_from_length front (eqb-true (length front) 0 tested)) in
    c.rounds.invariant.1 c.rounds.best
    (subst (λ (f : List Barring). ComeTo c.args.grammar.now p (2 * length p.bars - c.rounds.number) c.rounds.number f c.rounds.best c.rounds.best)
    (sym none) (come_none c.args.grammar.now p (2 * length p.bars - c.rounds.number) c.rounds.number c.rounds.best))

pub returns-clause-best : goal.returns-clause-best
returns-clause-best g c =
    let p = c.args.performance.now in
    let total : ℕ = 2 * length p.bars in
    let n : ℕ = c.rounds.number in
    let bars : length c.bars.result.now ≡ length p.bars = ap length c.bars.ensures.value in
    let none : total - n ≡ 0 = omega (arith, bars, c.rounds-test.false) in
    c.rounds.invariant.1 c.rounds.best
    (subst (λ (k : ℕ). ComeTo c.args.grammar.now p k n (map barring_of c.rounds.front.items) c.rounds.best c.rounds.best) (sym none) refl)

pub returns-then-is_empty-clause-most : goal.returns-then-is_empty-clause-most
returns-then-is_empty-clause-most g c =
    let p = c.args.performance.now in
    let bars : length c.bars.result.now ≡ length p.bars = ap length c.bars.ensures.value in
    let many = sym (each_long (AreChordsOf c.args.grammar.now p) p.channels c.in_ok-voices.voices.items c.in_ok-voices.ensures) in
    upto_all c.args.builds.now (length c.in_ok-voices.voices.items) (length p.channels) (length p.bars) c.rounds.number c.rounds.builds many
    (omega (arith, bars, c.rounds-test.true)) c.rounds.invariant.3

pub returns-in_err-longer-clause-most : goal.returns-in_err-longer-clause-most
returns-in_err-longer-clause-most g c =
    let p = c.args.performance.now in
    let bars : length c.bars.result.now ≡ length p.bars = ap length c.bars.ensures.value in
    let many = sym (each_long (AreChordsOf c.args.grammar.now p) p.channels c.in_ok-voices.voices.items c.in_ok-voices.ensures) in
    upto_all c.args.builds.now (length c.in_ok-voices.voices.items) (length p.channels) (length p.bars) (c.rounds.number + 1) c.next_round.new.builds many
    (omega (arith, bars, c.rounds-test.true))
    (within_more c.args.builds.now c.rounds.number (24 * 14 * length c.in_ok-voices.voices.items) c.rounds.builds c.next_round.new.builds c.rounds.invariant.3
    (subst (λ (vs : List (List Chord)). RisesWithin c.rounds.builds c.next_round.new.builds (24 * 14 * length vs)) c.as_slice.ensures.value c.next_round.ensures.most))

pub returns-clause-most : goal.returns-clause-most
returns-clause-most g c =
    let p = c.args.performance.now in
    let bars : length c.bars.result.now ≡ length p.bars = ap length c.bars.ensures.value in
    let many = sym (each_long (AreChordsOf c.args.grammar.now p) p.channels c.in_ok-voices.voices.items c.in_ok-voices.ensures) in
    upto_all c.args.builds.now (length c.in_ok-voices.voices.items) (length p.channels) (length p.bars) c.rounds.number c.rounds.builds many
    (omega (arith, bars, c.rounds.auto.number-end)) c.rounds.invariant.3

-- ---- how many tables are built

-- where no list is left, or no round, no more are built
pub returns-then-is_empty-clause-builds : goal.returns-then-is_empty-clause-builds
returns-then-is_empty-clause-builds g c =
    let p = c.args.performance.now in
    let front : List Course = c.rounds.front.items in
    let tested : nat_eq (length front) 0 ≡ true = search rules in
    let none : map barring_of front ≡ [] = ap (map barring_of) (nil_from_length front (eqb-true (length front) 0 tested)) in
    let before = c.rounds.invariant.4 in
    let m : ℕ = before.0 in
    let k : ℕ = 2 * length p.bars - c.rounds.number in
    let all = before.2 0 (subst (λ (f : List Barring). AreBuiltInRounds c.args.grammar.now p k c.rounds.number f c.rounds.best 0) (sym none) (none_built c.args.grammar.now p k c.rounds.number c.rounds.best)) in
    let sum : m + 0 ≡ m = omega arith in
    (m, before.1, subst (AreBuiltInSearch c.args.grammar.now p) sum all)

pub returns-clause-builds : goal.returns-clause-builds
returns-clause-builds g c =
    let p = c.args.performance.now in
    let total : ℕ = 2 * length p.bars in
    let n : ℕ = c.rounds.number in
    let bars : length c.bars.result.now ≡ length p.bars = ap length c.bars.ensures.value in
    let none : total - n ≡ 0 = omega (arith, bars, c.rounds-test.false) in
    let before = c.rounds.invariant.4 in
    let m : ℕ = before.0 in
    let all = before.2 0 (subst (λ (k : ℕ). AreBuiltInRounds c.args.grammar.now p k n (map barring_of c.rounds.front.items) c.rounds.best 0) (sym none) refl) in
    let sum : m + 0 ≡ m = omega arith in
    (m, before.1, subst (AreBuiltInSearch c.args.grammar.now p) sum all)
