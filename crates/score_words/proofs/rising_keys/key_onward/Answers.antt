use Rattle.std.proofs.Common.{ℕ, ◌<◌, sym, ◌∙◌, arith}
use Rattle.score_words.proofs.KeyBits.{has_is, key_absent, key_there, none_onward}
use Rattle.score_words.proofs.rising_keys.key_onward.Goals as goal

pub returns-then-has : goal.returns-then-has
returns-then-has c =
    let k : ℕ = c.keys.key in
    let within : k < 128 = omega (arith, c.keys-test.true, c.requires.few) in
    let there = sym (has_is c.has.result c.args.keys k c.has.ensures) ∙ c.if-has.true in
    (within, sym c.keys.invariant ∙ key_there c.args.keys k within there)

pub keys-preserved : goal.keys-preserved
keys-preserved c =
    let k : ℕ = c.keys.key in
    let within : k < 128 = omega (arith, c.keys-test.true, c.requires.few) in
    let absent = sym (has_is c.has.result c.args.keys k c.has.ensures) ∙ c.if-has.false in
    sym (key_absent c.args.keys k within absent) ∙ c.keys.invariant

pub returns : goal.returns
returns c = sym c.keys.invariant ∙ none_onward c.args.keys c.keys.key (λ j le. c.requires.above j (omega (arith, c.keys-test.false, le)))
