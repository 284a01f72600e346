use Rattle.rhythm_app.specs.declared.stop.Kind.TheVariants as kind
use Rattle.rhythm_app.proofs.Reading.{early_ends, midi_read}
use Rattle.rhythm_app.proofs.files.midi_of.Goals as goal

pub returns-clause-tests : goal.returns-clause-tests
returns-clause-tests g c = λ files are.
    midi_read _ c.in_ok-bytes.bytes.items c.as_slice.result.now c.smf_in.result (c.in_ok-bytes.ensures.tests files are) c.as_slice.ensures.value c.smf_in.ensures.tests

pub returns-clause-end : goal.returns-clause-end
returns-clause-end g c = early_ends kind.Midi _ _ c.smf_in.result c.smf_in.ensures.early c.smf_in.ensures.content
