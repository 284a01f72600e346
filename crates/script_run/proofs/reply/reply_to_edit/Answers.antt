use Rattle.script_run.proofs.Replies.{edit_builds, edit_lacks_memory, same_grammar, session_answers, session_memory}
use Rattle.script_run.proofs.reply.reply_to_edit.Goals as goal

pub returns-clause-answer : goal.returns-clause-answer
returns-clause-answer g c =
    session_answers c.args.session.now c.apply.new.self c.args.edit.now c.apply.result c.edit_reply.result c.edit_reply.ensures c.apply.ensures.made c.apply.ensures.rejected

pub returns-clause-memory : goal.returns-clause-memory
returns-clause-memory g c =
    edit_lacks_memory c.args.session.now.grammar c.args.session.now.performance c.args.edit.now c.apply.result c.edit_reply.result c.edit_reply.ensures
    (session_memory c.args.session.now c.apply.new.self c.args.edit.now c.apply.result c.apply.ensures.rejected)

pub returns-clause-built : goal.returns-clause-built
returns-clause-built g c =
    edit_builds c.args.session.now.grammar c.args.session.now.performance c.args.edit.now c.apply.result c.edit_reply.result c.args.builds.now c.apply.new.builds c.edit_reply.ensures
    c.apply.ensures.builds c.apply.ensures.built

pub returns-clause-grammar : goal.returns-clause-grammar
returns-clause-grammar g c = same_grammar c.args.session.now c.apply.new.self c.args.edit.now c.apply.result c.apply.ensures.made c.apply.ensures.rejected

pub returns-clause-products : goal.returns-clause-products
returns-clause-products g c = c.apply.ensures.products.rises
