use Rattle.edit_script.proofs.SaidLemmas.{reads_found, reads_pin}
use Rattle.edit_script.specs.declared.keyword.Keyword.TheVariants as keyword
use Rattle.edit_script.proofs.read.command.Goals as goal

pub returns-in-Add : goal.returns-in-Add
returns-in-Add c = reads_found c.args.keyword c.args.words.now _ keyword.Add c.add_note.result c.ok_or.result c.in-Add.is c.add_note.ensures c.ok_or.ensures.value

pub returns-in-Drop : goal.returns-in-Drop
returns-in-Drop c = reads_found c.args.keyword c.args.words.now _ keyword.Drop c.drop_note.result c.ok_or-in-Drop.result c.in-Drop.is c.drop_note.ensures c.ok_or-in-Drop.ensures.value

pub returns-in-Move : goal.returns-in-Move
returns-in-Move c = reads_found c.args.keyword c.args.words.now _ keyword.Move c.move_note.result c.ok_or-in-Move.result c.in-Move.is c.move_note.ensures c.ok_or-in-Move.ensures.value

pub returns-in-Barline : goal.returns-in-Barline
returns-in-Barline c = reads_found c.args.keyword c.args.words.now _ keyword.Barline c.barline.result c.ok_or-in-Barline.result c.in-Barline.is c.barline.ensures c.ok_or-in-Barline.ensures.value

pub returns-in-Unpin : goal.returns-in-Unpin
returns-in-Unpin c = reads_found c.args.keyword c.args.words.now _ keyword.Unpin c.unpin.result c.ok_or-in-Unpin.result c.in-Unpin.is c.unpin.ensures c.ok_or-in-Unpin.ensures.value

pub returns-in-Alt : goal.returns-in-Alt
returns-in-Alt c = reads_found c.args.keyword c.args.words.now _ keyword.Alt c.alternatives.result c.ok_or-in-Alt.result c.in-Alt.is c.alternatives.ensures c.ok_or-in-Alt.ensures.value

pub returns-in-Pin : goal.returns-in-Pin
returns-in-Pin c = reads_pin c.args.keyword c.args.words.now c.pin.result c.in-Pin.is c.pin.ensures
