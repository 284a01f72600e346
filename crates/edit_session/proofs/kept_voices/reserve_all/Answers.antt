use Rattle.std.proofs.Common.{rules, ◌≤◌, ◌<◌, length, take, sym, subst}
use Rattle.std.specs.Prelude.{All}
use Rattle.std.proofs.lemmas.List.{take_all, take_more_set}
use Rattle.std.proofs.lemmas.List.Elements.{All-nil, All-push}
use Rattle.edit_session.specs.VoiceTables.{VoiceTables}
use Rattle.edit_session.proofs.GrownVoices.{grown_same, grown_set}
use Rattle.edit_session.proofs.kept_voices.reserve_all.Goals as goal

pub voices-init : goal.voices-init
voices-init c = record { grown = grown_same c.args.voices.now; room = All-nil (λ (v : VoiceTables). c.args.bars ≤ v.room) }

pub returns-in_err-reserve-clause-grown : goal.returns-in_err-reserve-clause-grown
returns-in_err-reserve-clause-grown c =
    let v : VoiceTables = c.index-voices-number.result in
    let lt : c.voices.number < length c.voices.voices = search rules in
    grown_set c.args.voices.now c.voices.voices c.voices.number c.reserve.new.self v lt c.voices.invariant.grown c.reserve.ensures.grown

pub voices-preserved : goal.voices-preserved
voices-preserved c =
    let v : VoiceTables = c.index-voices-number.result in
    let lt : c.voices.number < length c.voices.voices = search rules in
    record {
      grown = grown_set c.args.voices.now c.voices.voices c.voices.number c.reserve.new.self v lt c.voices.invariant.grown
          c.reserve.ensures.grown;
      room = subst (All (λ (u : VoiceTables). c.args.bars ≤ u.room)) (sym (take_more_set c.voices.voices c.voices.number c.reserve.new.self lt))
          (All-push (λ (u : VoiceTables). c.args.bars ≤ u.room) (take c.voices.number c.voices.voices) c.reserve.new.self c.voices.invariant.room c.in_ok-reserve.ensures.ok);
    }

pub returns-clause-ok : goal.returns-clause-ok
returns-clause-ok c =
    let all : length c.voices.voices ≤ c.voices.number = search rules in
    subst (All (λ (u : VoiceTables). c.args.bars ≤ u.room)) (take_all c.voices.number c.voices.voices all) c.voices.invariant.room
