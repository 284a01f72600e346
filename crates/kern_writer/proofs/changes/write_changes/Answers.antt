use Rattle.std.proofs.Common.{◌≡◌, List, ◌++◌, map, sym, ap, ◌∙◌, subst}
use Rattle.std.proofs.lemmas.List.{append_assoc, map-append}
use Rattle.kern_writer.specs.Changes.{changes, key_change, signature_change, tempo_change}
use Rattle.score_words.specs.Changes.{key_before}
use Rattle.kern_writer.specs.Records.{alike}
use Rattle.kern_writer.specs.Writing.{HasWritten, WritesRecords}
use Rattle.kern_writer.proofs.Writing.{fault_handed, past_among, writes_after, written_after}
use Rattle.kern_writer.proofs.changes.write_changes.Goals as goal

three : {X Y : Type 0} (f : X → Y) (xs ys zs : List X) → map f xs ++ (map f ys ++ map f zs) ≡ map f (xs ++ ys ++ zs)
three f xs ys zs = sym (append_assoc (map f xs) (map f ys) (map f zs)) ∙ ap (λ t. t ++ map f zs) (sym (map-append f xs ys)) ∙ sym (map-append f (xs ++ ys) zs)

pub returns-in_err-write_signature : goal.returns-in_err-write_signature
returns-in_err-write_signature c =
    let line = alike c.args.voices in
    let bar = c.args.bar.now in
    let keys = key_change (key_before c.args.before) bar.sf in
    let signatures = signature_change c.args.before bar in
    let tempos = tempo_change c.args.before bar in
    let first = subst (λ k. HasWritten c.args.text.now c.write_key.new.text (map line (key_change k bar.sf))) c.key_before.ensures c.in_ok-write_key.ensures in
    let e = c.in_err-write_signature.field-0.0 in
    fault_handed c.args.text.now c.write_signature.new.text (map line (changes c.args.before bar)) c.from_residual-in_err-write_signature.result e c.from_residual-in_err-write_signature.ensures
    (past_among c.args.text.now c.write_key.new.text (map line keys) (map line signatures) (map line tempos) (map line (changes c.args.before bar)) e first (three line keys signatures tempos) c.in_err-write_signature.ensures)

pub returns : goal.returns
returns c =
    let line = alike c.args.voices in
    let bar = c.args.bar.now in
    let keys = key_change (key_before c.args.before) bar.sf in
    let signatures = signature_change c.args.before bar in
    let tempos = tempo_change c.args.before bar in
    let first = subst (λ k. HasWritten c.args.text.now c.write_key.new.text (map line (key_change k bar.sf))) c.key_before.ensures c.in_ok-write_key.ensures in
    let two = written_after c.args.text.now c.write_key.new.text c.write_signature.new.text (map line keys) (map line signatures) first c.in_ok-write_signature.ensures in
    let all = writes_after c.args.text.now c.write_signature.new.text c.write_tempo.new.text (map line keys ++ map line signatures) (map line tempos) c.write_tempo.result two c.write_tempo.ensures in
    subst (λ rs. WritesRecords rs c.args.text.now c.write_tempo.result c.write_tempo.new.text) (append_assoc (map line keys) (map line signatures) (map line tempos) ∙ three line keys signatures tempos) all
