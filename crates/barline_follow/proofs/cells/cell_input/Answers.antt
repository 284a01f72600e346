use Rattle.std.proofs.Common.{◌≡◌, ◌++◌, ◌∷◌, [], List, Result, Ok, Err, refl, sym, ◌∙◌}
use Rattle.std.specs.Prelude.{IfOk}
use Rattle.rhythm_base.specs.BarInput.{BarInput}
use Rattle.rhythm_base.specs.Cells.{input}
use Rattle.edit_laws.specs.Edits.{with_start}
use Rattle.rhythm_base.specs.Leaves.{soundings}
use Rattle.rhythm_base.specs.Voices.{voice_bar}
use Rattle.barline_follow.proofs.cells.cell_input.Goals as goal

one_is : (x k : BarInput) (others : List BarInput) → x ∷ [] ≡ others ++ (k ∷ []) → k ≡ x
one_is x k [] is = let same : x ≡ k = cc in sym same
one_is x k (o ∷ []) is = absurd (cc)
one_is x k (o ∷ p ∷ others) is = absurd (cc)

second_is : (x y k : BarInput) (others : List BarInput) → x ∷ y ∷ [] ≡ others ++ (k ∷ []) → k ≡ y
second_is x y k [] is = absurd (cc)
second_is x y k (o ∷ others) is = let rest : y ∷ [] ≡ others ++ (k ∷ []) = cc in one_is y k others rest

if_ok : {A E : Type 0} (r : Result A E) (P Q : A → Type 0) → ((a : A) → P a → Q a) → IfOk r P → IfOk r Q
if_ok (Ok a) P Q f h = f a h
if_ok (Err e) P Q f h = h

pub returns-then-bar-eq0 : goal.returns-then-bar-eq0
returns-then-bar-eq0 c = if_ok _ _ _ (λ k h. one_is (input c.args.grammar.now (voice_bar c.args.grammar.now [] 0 0 c.args.bar c.args.end) (soundings c.args.voice.now)) k h.0 h.1) c.last_input.ensures

pub returns-else-bar-eq0 : goal.returns-else-bar-eq0
returns-else-bar-eq0 c =
    let g = c.args.grammar.now in
    let near = c.chords_near-near.result.now in
    let own = voice_bar g [] 0 0 c.args.bar c.args.end in
    if_ok _ _ _
    (λ k h. second_is (input g (voice_bar g [] 0 0 (with_start 0 c.args.bar) c.args.bar.start) (soundings near)) (input g own (soundings near)) k h.0 h.1
    ∙ c.chords_near-near.ensures.near g own refl) c.last_input-else-bar-eq0.ensures
