use Rattle.std.proofs.Common.{rules, ◌≡◌, ◌++◌, ◌+◌, ◌-◌, IfOk, ℕ, List, [], ◌∷◌, ap, ◌∙◌}
use Rattle.std.proofs.lemmas.Result.{IfOk-equal}
use Rattle.smf_bytes.specs.Quantity.{quantity_bytes}
use Rattle.rhythm_gen.proofs.Tracks.{bytes_of_note}
use Rattle.rhythm_gen.proofs.track.push_note.Goals as goal

pub returns : goal.returns
returns c =
    let n = c.args.note.now in
    let off : List ℕ = (128 + n.channel) ∷ n.key ∷ 0 ∷ [] in
    let begun : c.push_event.new.content.items ≡ c.args.content.now.items ++ (quantity_bytes (n.onset - c.args.tick) ++ ((144 + n.channel) ∷ n.key ∷ 64 ∷ [])) = search rules in
    let ended : IfOk c.push_event-2.result (λ _. c.push_event-2.new.content.items ≡ c.push_event.new.content.items ++ (quantity_bytes (n.end - n.onset) ++ off)) = search rules in
    IfOk-equal c.push_event-2.result _ _ _ ended
    (ap (λ (xs : List ℕ). xs ++ (quantity_bytes (n.end - n.onset) ++ off)) begun ∙ bytes_of_note c.args.content.now.items c.args.tick n)
