use Rattle.std.proofs.Common.{◌≡◌, ◌∷◌, [], ℕ, List, refl, arith}
use Rattle.edit_script.proofs.CommandLemmas.{asked_count, counted, same_numbers}
use Rattle.edit_script.proofs.WordLemmas.{finds_none}
use Rattle.edit_script.proofs.command_words.alternatives.Goals as goal

pub returns-in_err-channel : goal.returns-in_err-channel
returns-in_err-channel c = finds_none _ c.from_residual.result c.from_residual.ensures (λ command says. c.in_err-channel.ensures.words says.0 (counted says.0.0 says.0.1 says.0.2 c.args.words.now says.2).0)

pub returns-then-count-eq0 : goal.returns-then-count-eq0
returns-then-count-eq0 c = λ command says.
    let words : List (List ℕ) = c.args.words.now in
    let some = counted says.0.0 says.0.1 says.0.2 words says.2 in
    let same : c.in_ok-channel.channel ∷ c.in_ok-channel.bar ∷ c.in_ok-channel.count ∷ [] ≡ says.0.0 ∷ says.0.1 ∷ says.0.2 ∷ [] =
    same_numbers (15 ∷ 4096 ∷ 16 ∷ []) _ _ words refl refl c.in_ok-channel.ensures.words some.0 in
    let count : c.in_ok-channel.count ≡ says.0.2 = cc in
    omega (arith, some.1, count, c.if-count-eq0.true)

pub returns : goal.returns
returns c = (
  (c.in_ok-channel.channel, c.in_ok-channel.bar, c.in_ok-channel.count),
  refl,
  asked_count c.in_ok-channel.channel c.in_ok-channel.bar c.in_ok-channel.count c.args.words.now c.in_ok-channel.ensures.words (omega (arith, c.if-count-eq0.false)),
)
