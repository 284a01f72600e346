use Rattle.std.proofs.Common.{◌≡◌, ◌==◌, ℕ, Bool, sym, ap, ◌∙◌}
use Rattle.std.specs.Prelude.{if◌then◌else◌}
use Rattle.std.specs.Int.{bit_at}
use Rattle.score_words.proofs.KeyBits.{has_is}
use Rattle.smf_writer.proofs.stroke.Stroke.note.Goals as goal
use Rattle.smf_writer.proofs.stroke.Stroke.note.Goals.{then-has, else-has}

pub returns : goal.returns
returns c =
    let s = c.args.self.now in
    let ends : Bool → ℕ = λ b. if b then s.end else s.onset in
    let is : c.has.result ≡ (bit_at s.held c.args.key == 1) = has_is c.has.result s.held c.args.key c.has.ensures in
    let end : c.if-has.end ≡ ends (bit_at s.held c.args.key == 1) = elim c.if-has.branch [
      | then-has w ↦ w.end-is ∙ ap ends (sym w.if-has.true ∙ is)
      | else-has w ↦ w.end-is ∙ ap ends (sym w.if-has.false ∙ is)
    ] in
    ap (λ (e : ℕ). record { channel = c.args.channel; key = c.args.key; onset = s.onset; end = e }) end
