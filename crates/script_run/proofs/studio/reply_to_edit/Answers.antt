use Rattle.script_run.proofs.Replies.{edit_builds, edit_lacks_memory}
use Rattle.script_run.proofs.Studios.{edit_in_studio, studio_memory}
use Rattle.script_run.proofs.studio.reply_to_edit.Goals as goal

pub returns-clause-answer : goal.returns-clause-answer
returns-clause-answer g c =
    edit_in_studio c.args.history.now c.args.edit.now c.apply.result c.edit_reply.result c.apply.new.self c.edit_reply.ensures c.apply.ensures.made c.apply.ensures.refused

pub returns-clause-memory : goal.returns-clause-memory
returns-clause-memory g c =
    edit_lacks_memory c.args.history.now.grammar c.args.history.now.present c.args.edit.now c.apply.result c.edit_reply.result c.edit_reply.ensures
    (studio_memory c.args.history.now c.args.edit.now c.apply.result c.apply.new.self c.apply.ensures.refused)

pub returns-clause-built : goal.returns-clause-built
returns-clause-built g c =
    edit_builds c.args.history.now.grammar c.args.history.now.present c.args.edit.now c.apply.result c.edit_reply.result c.args.builds.now c.apply.new.builds c.edit_reply.ensures
    c.apply.ensures.builds c.apply.ensures.built

pub returns-clause-products : goal.returns-clause-products
returns-clause-products g c = c.apply.ensures.products.rises
