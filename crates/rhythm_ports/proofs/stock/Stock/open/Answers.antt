use Rattle.std.proofs.Common.{◌∙◌, ap}
use Rattle.rhythm_ports.proofs.FileLemmas.{stock_opened}
use Rattle.rhythm_ports.proofs.stock.Stock.open.Goals as goal

pub returns : goal.returns
returns c =
    let held = ap (λ s. s.files) c.self.view_is in
    let h = stock_opened c.args.name.now c.args.self.now c.self.inside.files.items _ _ held c.as_slice.ensures.value
    c.place_of-self-inside.ensures in
    record { found = c.is_some.ensures ∙ h.0; chosen = h.1 }
