use Rattle.std.proofs.Common.{◌∙◌, ◌++◌, ◌∷◌, [], slice_set, List, ℕ, ap, sym}
use Rattle.rhythm_ports.specs.Files.{File}
use Rattle.rhythm_ports.proofs.FileLemmas.{PutsFile-put_file, put_file-absent, put_file-at}
use Rattle.rhythm_ports.proofs.stock.put_in.Goals as goal

pub returns-in_err-name-in-None-clause-in_place : goal.returns-in_err-name-in-None-clause-in_place
returns-in_err-name-in-None-clause-in_place c =
    let h = put_file-absent c.args.name.now c.args.files.now.items c.args.bytes.items _ _ c.as_slice.ensures.value c.place_of.ensures
    c.in-None.is in
    λ there. absurd (there h.0)

pub returns-in_err-push-in-None-clause-in_place : goal.returns-in_err-push-in-None-clause-in_place
returns-in_err-push-in-None-clause-in_place c =
    let h = put_file-absent c.args.name.now c.args.files.now.items c.args.bytes.items _ _ c.as_slice.ensures.value c.place_of.ensures
    c.in-None.is in
    λ there. absurd (there h.0)

pub returns-in_ok-push-in-None-clause-puts : goal.returns-in_ok-push-in-None-clause-puts
returns-in_ok-push-in-None-clause-puts c =
    let h = put_file-absent c.args.name.now c.args.files.now.items c.args.bytes.items _ _ c.as_slice.ensures.value c.place_of.ensures
    c.in-None.is in
    let named = λ (name : List ℕ). let f : File = record { name = name; bytes = c.args.bytes.items } in c.args.files.now.items ++ f ∷ [] in
    PutsFile-put_file _ _ _ _ (c.in_ok-push-in-None.ensures.items ∙ ap named c.in_ok-name-in-None.ensures.ok ∙ sym h.1)

pub returns-in-Some-clause-puts : goal.returns-in-Some-clause-puts
returns-in-Some-clause-puts c =
    let h = put_file-at c.args.name.now c.args.files.now.items c.args.bytes.items _ _ c.in-Some.index _ c.as_slice.ensures.value
    c.place_of.ensures c.in-Some.is c.index_mut.ensures.value in
    let held = λ (f : File). slice_set c.args.files.now.items c.in-Some.index (record f { bytes = c.args.bytes.items }) in
    PutsFile-put_file _ _ _ _ (ap held c.behind-files.view_is ∙ sym h)
