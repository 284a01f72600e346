use Rattle.std.proofs.Common.{rules, ◌≡◌, ◌-◌, ◌<◌, ℕ, ltb, List, get_or, sym, subst, arith}
use Rattle.std.proofs.lemmas.Bool.Decides.{nat_tests}
use Rattle.std.proofs.lemmas.List.Sorted.{IsPartitionedBy-ltb, IsPartitionPoint-from_clause}
use Rattle.rhythm_base.specs.declared.chord.Chord.{Chord}
use Rattle.rhythm_base.specs.Cells.{input}
use Rattle.rhythm_base.specs.Leaves.{soundings}
use Rattle.barline_follow.specs.Sounded.{AreSounded}
use Rattle.barline_follow.proofs.NearChords.{near_point, onsets_rise, sounded_drop}
use Rattle.barline_follow.proofs.cells.chords_near.Goals as goal

pub returns-clause-sounded : goal.returns-clause-sounded
returns-clause-sounded c =
    subst AreSounded (sym c.split_at.ensures.back) (sounded_drop c.saturating_sub.result c.args.voice.now c.requires)

pub returns-clause-near : goal.returns-clause-near
returns-clause-near c grammar bar at =
    let voice = c.args.voice.now in
    let count = c.partition_point-before.result in
    let less : c.saturating_sub.result ≡ count - 1 = search rules in
    let point = IsPartitionPoint-from_clause (λ (x : Chord). ltb x.onset c.args.start) voice count c.partition_point-before.ensures.partitioned
    (IsPartitionedBy-ltb (λ (x : Chord). x.onset) voice c.args.start (onsets_rise 0 voice c.requires.rise)) (λ a r f k. search rules) in
    let early : (k : ℕ) (d : Chord) → k < count → (get_or voice k d).onset < c.args.start =
    λ k d lt. grind (arith, nat_tests, point.0 k d (omega arith) lt) in
    subst (λ (l : List Chord). input grammar bar (soundings l) ≡ input grammar bar (soundings voice)) (sym c.split_at.ensures.back)
    (near_point grammar bar count c.saturating_sub.result voice less c.partition_point-before.ensures.bound
    (λ k d lt. subst (λ (n : ℕ). (get_or voice k d).onset < n) (sym at) (early k d lt)))
