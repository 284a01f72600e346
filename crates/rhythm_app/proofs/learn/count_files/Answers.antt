use Rattle.std.proofs.Common.{rules, ◌≡◌, ◌∙◌, ◌<◌, ◌+◌, ◌-◌, ℕ, List, [], ap, arith, drop, get_or, length, subst, sym, Ok, Err}
use Rattle.std.proofs.lemmas.List.{length-drop}
use Rattle.rhythm_app.proofs.CountedFiles.{AreCountedUpTo, all_counted, named_word, none_counted, one_more, one_stopped, some_word}
use Rattle.rhythm_app.specs.Counting.{CountsAll, CountsFile}
use Rattle.rhythm_app.specs.Learning.{in_file}
use Rattle.rhythm_app.proofs.learn.count_files.Goals as goal

pub files-init : goal.files-init
files-init g c = record { files = none_counted c.args.grammar.now (drop 3 c.args.words.now) c.args.counts.now c.args.lent.now; from = omega arith }

pub unwrap-midi-requires : goal.unwrap-midi-requires
unwrap-midi-requires g c = some_word c.get.result (λ s. s.now) c.args.words.now c.files.place c.get.ensures (omega (arith, c.files-test.true, c.count-place-end.ensures))

pub returns-in-Err : goal.returns-in-Err
returns-in-Err g c =
    let ws = c.args.words.now in
    let n : ℕ = c.files.place - 3 in
    let long = length-drop 3 ws in
    let lt : n < length (drop 3 ws) = omega (arith, long, c.files-test.true, c.files.invariant.from, c.count-place-end.ensures) in
    let name : get_or (drop 3 ws) n [] ≡ c.unwrap-midi.result.now = named_word ws c.files.place c.unwrap-midi.result.now c.files.invariant.from (search rules) in
    let file = subst (λ (m : List ℕ). CountsFile c.args.grammar.now m c.files.counts c.count_file.new.counts c.files.lent c.count_file.new.lent (Err c.in-Err.stop)) (sym name) c.in-Err.ensures in
    let stopped = one_stopped c.args.grammar.now (drop 3 ws) n lt c.args.counts.now c.files.counts c.count_file.new.counts c.args.lent.now c.files.lent c.count_file.new.lent c.files.invariant.files c.in-Err.stop file in
    let same : c.in_file.result ≡ in_file (n + 1) c.in-Err.stop = c.in_file.ensures ∙ ap (λ k. in_file k c.in-Err.stop) (omega (arith, c.files.invariant.from, c.files-test.true, c.count-place-end.ensures, c.requires.few_words)) in
    subst (λ s. CountsAll c.args.grammar.now (drop 3 ws) c.args.counts.now c.count_file.new.counts c.args.lent.now c.count_file.new.lent (Err s)) (sym same) stopped

pub files-preserved : goal.files-preserved
files-preserved g c =
    let ws = c.args.words.now in
    let n : ℕ = c.files.place - 3 in
    let long = length-drop 3 ws in
    let lt : n < length (drop 3 ws) = omega (arith, long, c.files-test.true, c.files.invariant.from, c.count-place-end.ensures) in
    let name : get_or (drop 3 ws) n [] ≡ c.unwrap-midi.result.now = named_word ws c.files.place c.unwrap-midi.result.now c.files.invariant.from (search rules) in
    let file = subst (λ (m : List ℕ). CountsFile c.args.grammar.now m c.files.counts c.count_file.new.counts c.files.lent c.count_file.new.lent (Ok c.in_default.field-0)) (sym name) c.in_default.ensures in
    let next : n + 1 ≡ c.files.place + 1 - 3 = omega (arith, c.files.invariant.from) in
    record {
      files = subst (λ k. AreCountedUpTo c.args.grammar.now (drop 3 ws) k c.args.counts.now c.count_file.new.counts c.args.lent.now c.count_file.new.lent) next
          (one_more c.args.grammar.now (drop 3 ws) n lt c.args.counts.now c.files.counts c.count_file.new.counts c.args.lent.now c.files.lent c.count_file.new.lent c.files.invariant.files
          c.in_default.field-0 file);
      from = omega (arith, c.files.invariant.from);
    }

pub returns : goal.returns
returns g c =
    let ws = c.args.words.now in
    all_counted c.args.grammar.now (drop 3 ws) (c.files.place - 3) c.args.counts.now c.files.counts c.args.lent.now c.files.lent _
    (omega (arith, length-drop 3 ws, c.files-test.false, c.count-place-end.ensures)) c.files.invariant.files
