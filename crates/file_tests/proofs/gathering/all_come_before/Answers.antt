use Rattle.std.proofs.Common.{◌≡◌, List, subst}
use Rattle.std.specs.Prelude.{All}
use Rattle.std.specs.Cmp.Lexicographic.{slice_cmp}
use Rattle.std.specs.Ordering.{nat_cmp}
use Rattle.std.specs.declared.cmp.Ordering.TheVariants.{Less}
use Rattle.std.proofs.lemmas.List.{take_all}
use Rattle.std.proofs.lemmas.List.Elements.{All-more}
use Rattle.rhythm_base.specs.declared.note.Note.{Note}
use Rattle.rhythm_base.specs.Performance.{place_of_note}
use Rattle.file_tests.proofs.gathering.all_come_before.Goals as goal

pub earlier-preserved : goal.earlier-preserved
earlier-preserved c =
    let s = c.earlier in
    record {
      channel = All-more (λ m. m.channel ≡ c.args.n.channel) c.args.notes.now s.m-index _ c.earlier-test.true s.invariant.channel (c.comes_before.ensures.channel c.if-not-comes_before.false);
      place = All-more (λ m. slice_cmp nat_cmp (place_of_note m) (place_of_note c.args.n) ≡ Less) c.args.notes.now s.m-index _ c.earlier-test.true s.invariant.place (c.comes_before.ensures.place c.if-not-comes_before.false);
    }

pub returns-clause-channel : goal.returns-clause-channel
returns-clause-channel c = λ _.
    let P : List Note → Type 0 = All (λ m. m.channel ≡ c.args.n.channel) in
    subst P (take_all c.earlier.m-index c.args.notes.now c.earlier-test.false) c.earlier.invariant.channel

pub returns-clause-place : goal.returns-clause-place
returns-clause-place c = λ _.
    let P : List Note → Type 0 = All (λ m. slice_cmp nat_cmp (place_of_note m) (place_of_note c.args.n) ≡ Less) in
    subst P (take_all c.earlier.m-index c.args.notes.now c.earlier-test.false) c.earlier.invariant.place
