use Rattle.std.proofs.Common.{refl}
use Rattle.rhythm_app.proofs.Performing.{wrote}
use Rattle.rhythm_app.proofs.top.write_text.Goals as goal

pub returns : goal.returns
returns g c = wrote c.args.text.now _ c.args.lent.now _ c.put.result c.lent.view_is refl c.put.ensures.all c.put.ensures.part
