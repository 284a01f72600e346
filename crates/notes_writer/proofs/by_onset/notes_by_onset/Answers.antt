use Rattle.std.proofs.Common.{rules, subst}
use Rattle.std.specs.List.Sorted.{IsPermutation}
use Rattle.std.proofs.lemmas.List.Sorted.{answers_always}
use Rattle.notes_writer.specs.ByOnset.{place_in_text}
use Rattle.notes_writer.proofs.OnsetOrder.{by_onset}
use Rattle.notes_writer.proofs.by_onset.notes_by_onset.Goals as goal

pub returns : goal.returns
returns c =
    by_onset c.args.notes.now c.sort_by_key.new.self.items c.requires
    (subst (λ l. IsPermutation l c.sort_by_key.new.self.items) c.in_ok-sorted.ensures.items c.sort_by_key.ensures.permutation)
    (c.in_ok-sort_by_key.ensures.sorted place_in_text (answers_always _ _ _ (λ f a r g h. search rules)))
