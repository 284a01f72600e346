use Rattle.std.proofs.Common.{refl, subst, sym}
use Rattle.rhythm_app.specs.Asked.{asked_by}
use Rattle.rhythm_app.specs.Ends.{HasStatus}
use Rattle.rhythm_app.specs.Lent.{Lent}
use Rattle.rhythm_app.proofs.Statuses.{answered_status, ready_complete, stop_completes, stop_status}
use Rattle.rhythm_app.proofs.Telling.{stop_told, told_of}
use Rattle.rhythm_app.proofs.top.run.Goals as goal

pub returns-in-Ok-clause-status : goal.returns-in-Ok-clause-status
returns-in-Ok-clause-status g c = λ files are.
    answered_status c.args.words.now files c.args.lent.now c.perform_words.new.lent (c.in-Ok.ensures.performed.done files are)

pub returns-in-Ok-clause-complete : goal.returns-in-Ok-clause-complete
returns-in-Ok-clause-complete g c = λ files are. ready_complete c.args.words.now files c.args.lent.now c.perform_words.new.lent

pub returns-in-Err-clause-status : goal.returns-in-Err-clause-status
returns-in-Err-clause-status g c = λ files are.
    subst (HasStatus c.args.words.now files) (sym c.status.ensures) (stop_status c.args.words.now files c.in-Err.stop (c.in-Err.ensures.performed.stopped.cause files are))

pub returns-in-Err-clause-stop : goal.returns-in-Err-clause-stop
returns-in-Err-clause-stop g c = λ _.
    let inside = c.lent.inside in
    let seen : Lent g.row.W-Script.Denot g.row.W-Out.Denot g.row.W-Err.Denot = record {
      files = g.W.Shelf.Shelf.files inside.shelf;
      strays = g.W.Shelf.Shelf.strays inside.shelf;
      shelf_faults = g.W.Shelf.Shelf.faults inside.shelf;
      script = inside.script;
      rest = g.W.Script.Source.rest inside.script;
      script_faults = g.W.Script.Source.faults inside.script;
      out = inside.out;
      taken = g.W.Out.Sink.taken inside.out;
      out_faults = g.W.Out.Sink.faults inside.out;
      err = inside.err;
      told = g.W.Err.Sink.taken inside.err;
      err_faults = g.W.Err.Sink.faults inside.err;
      built = inside.builds;
      multiplied = inside.products;
    } in
    let now = record seen { err = c.tell.new.sink; told = g.W.Err.Sink.taken c.tell.new.sink; err_faults = g.W.Err.Sink.faults c.tell.new.sink } in
    let performed = c.in-Err.ensures.performed in (
      c.in-Err.stop,
      sym c.status.ensures,
      stop_told (asked_by c.args.words.now) c.args.lent.now seen c.perform_words.new.lent now c.lent.view_is refl c.in-Err.stop performed.stopped,
      told_of c.args.lent.now c.perform_words.new.lent seen now c.in-Err.stop c.lent.view_is performed.err c.tell.ensures,
    )

pub returns-in-Err-clause-complete : goal.returns-in-Err-clause-complete
returns-in-Err-clause-complete g c =
    let inside = c.lent.inside in
    let seen : Lent g.row.W-Script.Denot g.row.W-Out.Denot g.row.W-Err.Denot = record {
      files = g.W.Shelf.Shelf.files inside.shelf;
      strays = g.W.Shelf.Shelf.strays inside.shelf;
      shelf_faults = g.W.Shelf.Shelf.faults inside.shelf;
      script = inside.script;
      rest = g.W.Script.Source.rest inside.script;
      script_faults = g.W.Script.Source.faults inside.script;
      out = inside.out;
      taken = g.W.Out.Sink.taken inside.out;
      out_faults = g.W.Out.Sink.faults inside.out;
      err = inside.err;
      told = g.W.Err.Sink.taken inside.err;
      err_faults = g.W.Err.Sink.faults inside.err;
      built = inside.builds;
      multiplied = inside.products;
    } in
    let now = record seen { err = c.tell.new.sink; told = g.W.Err.Sink.taken c.tell.new.sink; err_faults = g.W.Err.Sink.faults c.tell.new.sink } in
    let stopped = stop_told (asked_by c.args.words.now) c.args.lent.now seen c.perform_words.new.lent now c.lent.view_is refl c.in-Err.stop c.in-Err.ensures.performed.stopped in
    stop_completes c.args.words.now c.args.lent.now now c.in-Err.stop c.status.result c.status.ensures stopped
