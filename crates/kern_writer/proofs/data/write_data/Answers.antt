use Rattle.std.proofs.Common.{◌<◌, ◌++◌, List, [], map, sym, subst, refl}
use Rattle.std.specs.Prelude.{All}
use Rattle.std.proofs.lemmas.List.{append-nil, append_assoc}
use Rattle.kern_writer.specs.Columns.{AreDataRecords, RiseFrom, tokens_after}
use Rattle.kern_writer.specs.Records.{Record, records_at}
use Rattle.kern_writer.proofs.Merging.{after_zero, data_exist, data_next, data_none, next_fewer, next_first, tokens_left}
use Rattle.kern_writer.proofs.Writing.{fault_handed, nothing_written, past_among, written_after}
use Rattle.kern_writer.proofs.data.write_data.Goals as goal

pub places-init : goal.places-init
places-init c = record {
  rise = c.requires.place;
  so_far = ([], nothing_written c.args.text.now c.requires.text, λ rest h. h);
}

pub write_place-requires-clause-place : goal.write_place-requires-clause-place
write_place-requires-clause-place c = next_first c.places.columns c.in-Some.place (sym c.in-Some.ensures) c.places.invariant.rise

pub returns-in_err-write_place : goal.returns-in_err-write_place
returns-in_err-write_place c =
    let columns = c.places.columns in
    let p = c.in-Some.place in
    let h = c.places.invariant in
    let is = sym c.in-Some.ensures in
    let rest = data_exist (map (tokens_after p) columns) (after_zero p columns (next_first columns p is h.rise)) in
    let now = records_at columns p in
    let all = h.so_far.0 ++ (now ++ rest.0) in (
      all,
      h.so_far.2 (now ++ rest.0) (data_next columns p rest.0 is h.rise rest.1),
      fault_handed c.args.text.now c.write_place.new.text all c.from_residual.result c.in_err-write_place.field-0.0 c.from_residual.ensures
          (past_among c.args.text.now c.places.text h.so_far.0 now rest.0 all c.in_err-write_place.field-0.0 h.so_far.1 refl c.in_err-write_place.ensures),
    )

pub pass-requires : goal.pass-requires
pass-requires c = next_first c.places.columns c.in-Some.place (sym c.in-Some.ensures) c.places.invariant.rise

pub places-smaller : goal.places-smaller
places-smaller c =
    let less = next_fewer c.places.columns c.in-Some.place (sym c.in-Some.ensures) c.places.invariant.rise in
    subst (λ columns. tokens_left columns < tokens_left c.places.columns) (sym c.pass.ensures) less

pub places-preserved : goal.places-preserved
places-preserved c =
    let columns = c.places.columns in
    let p = c.in-Some.place in
    let h = c.places.invariant in
    let is = sym c.in-Some.ensures in
    let now = records_at columns p in
    record {
      rise = subst (All (RiseFrom 0)) (sym c.pass.ensures) (after_zero p columns (next_first columns p is h.rise));
      so_far = (
        h.so_far.0 ++ now,
        written_after c.args.text.now c.places.text c.write_place.new.text h.so_far.0 now h.so_far.1 c.in_ok-write_place.ensures,
        λ (rest : List Record) k.
            let left = subst (λ columns. AreDataRecords columns rest) c.pass.ensures k in
            subst (AreDataRecords c.args.columns.now) (sym (append_assoc h.so_far.0 now rest)) (h.so_far.2 (now ++ rest) (data_next columns p rest is h.rise left)),
      );
    }

pub returns : goal.returns
returns c =
    let h = c.places.invariant.so_far in
    let all = subst (AreDataRecords c.args.columns.now) (append-nil h.0) (h.2 [] (data_none c.places.columns (sym c.in_default.ensures))) in
    (h.0, all, h.1)
