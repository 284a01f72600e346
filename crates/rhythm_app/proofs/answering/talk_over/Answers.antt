use Rattle.rhythm_app.specs.Lent.{Lent}
use Rattle.script_run.specs.Desk.{shown}
use Rattle.rhythm_app.proofs.Talking.{broken_seen, done_seen, no_desk}
use Rattle.rhythm_app.proofs.answering.talk_over.Goals as goal

pub returns-in-Ok-clause-done : goal.returns-in-Ok-clause-done
returns-in-Ok-clause-done g c =
    let inside = c.lent.inside in
    let made = c.run_script.new in
    let seen : Lent g.row.W-Script.Denot g.row.W-Out.Denot g.row.W-Err.Denot = record {
      files = g.W.Shelf.Shelf.files inside.shelf;
      strays = g.W.Shelf.Shelf.strays inside.shelf;
      shelf_faults = g.W.Shelf.Shelf.faults inside.shelf;
      script = inside.script;
      rest = g.W.Script.Source.rest inside.script;
      script_faults = g.W.Script.Source.faults inside.script;
      out = inside.out;
      taken = g.W.Out.Sink.taken inside.out;
      out_faults = g.W.Out.Sink.faults inside.out;
      err = inside.err;
      told = g.W.Err.Sink.taken inside.err;
      err_faults = g.W.Err.Sink.faults inside.err;
      built = inside.builds;
      multiplied = inside.products;
    } in
    let now = record seen {
      script = made.script;
      rest = g.W.Script.Source.rest made.script;
      script_faults = g.W.Script.Source.faults made.script;
      out = made.out;
      taken = g.W.Out.Sink.taken made.out;
      out_faults = g.W.Out.Sink.faults made.out;
      built = made.builds;
      multiplied = made.products;
    } in
    done_seen seen c.args.lent.now now c.args.talk c.args.session.grammar c.args.session.performance (shown c.in-Ok.desk) c.lent.view_is c.in-Ok.ensures.desk c.run_script.result c.run_script.ensures.done

pub returns-in-Ok-clause-broken : goal.returns-in-Ok-clause-broken
returns-in-Ok-clause-broken g c =
    let inside = c.lent.inside in
    let made = c.run_script.new in
    let seen : Lent g.row.W-Script.Denot g.row.W-Out.Denot g.row.W-Err.Denot = record {
      files = g.W.Shelf.Shelf.files inside.shelf;
      strays = g.W.Shelf.Shelf.strays inside.shelf;
      shelf_faults = g.W.Shelf.Shelf.faults inside.shelf;
      script = inside.script;
      rest = g.W.Script.Source.rest inside.script;
      script_faults = g.W.Script.Source.faults inside.script;
      out = inside.out;
      taken = g.W.Out.Sink.taken inside.out;
      out_faults = g.W.Out.Sink.faults inside.out;
      err = inside.err;
      told = g.W.Err.Sink.taken inside.err;
      err_faults = g.W.Err.Sink.faults inside.err;
      built = inside.builds;
      multiplied = inside.products;
    } in
    let now = record seen {
      script = made.script;
      rest = g.W.Script.Source.rest made.script;
      script_faults = g.W.Script.Source.faults made.script;
      out = made.out;
      taken = g.W.Out.Sink.taken made.out;
      out_faults = g.W.Out.Sink.faults made.out;
      built = made.builds;
      multiplied = made.products;
    } in
    broken_seen seen c.args.lent.now now c.args.talk c.args.session.grammar c.args.session.performance (shown c.in-Ok.desk) c.lent.view_is c.in-Ok.ensures.desk c.run_script.result c.run_script.ensures.stopped

pub returns-in-Err-clause-broken : goal.returns-in-Err-clause-broken
returns-in-Err-clause-broken g c = no_desk c.args.lent.now c.args.talk c.args.session.grammar c.args.session.performance c.in-Err.stop c.in-Err.ensures.memory
