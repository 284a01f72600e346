use Rattle.std.proofs.Common.{◌≡◌, ◌*◌, ◌/◌, ℕ, ap, ap₂, sym, ◌∙◌, max, length, get_or, arith, rules}
use Rattle.std.proofs.lemmas.List.{get_or-map, length-map}
use Rattle.rhythm_base.specs.Bodies.{children, sizes}
use Rattle.rhythm_base.specs.declared.rule.Body.{Body}
use Rattle.rhythm_base.proofs.Sizes.{part_le}
use Rattle.derivation.proofs.walk.part_width.Goals as goal

pub overflow_mul-result : goal.overflow_mul-result
overflow_mul-result c =
    let share : c.max-in-Parts.result ≡ max 1 (sizes c.in-Parts.parts) = search rules in
    let width : c.from-in-Parts.result ≡ c.args.width = search rules in
    let size : c.from-in-Parts-2.result ≡ (get_or c.in-Parts.parts c.args.number (0, 0)).0 = search rules in
    let count : length (children c.args.body.now c.args.width) ≡ length c.in-Parts.parts = ap (λ b. length (children b c.args.width)) c.in-Parts.is ∙ length-map {B = ℕ × ℕ} c.in-Parts.parts (λ q. (q.0 * (c.args.width / max 1 (sizes c.in-Parts.parts)), q.1)) in
    let fits = part_le c.in-Parts.parts c.args.number c.args.width (0, 0) (omega (arith, c.requires, count)) in
    rw (share, width, size) (omega (arith, fits, c.ranges.width))

pub returns-in-Split : goal.returns-in-Split
returns-in-Split c = λ d.
    let share : c.max.result ≡ max 1 (length c.in-Split.symbols) = search rules in
    let count : length (children c.args.body.now c.args.width) ≡ length c.in-Split.symbols = ap (λ b. length (children b c.args.width)) c.in-Split.is ∙ length-map {B = ℕ × ℕ} c.in-Split.symbols (λ s. (c.args.width / max 1 (length c.in-Split.symbols), s)) in
    let own = get_or-map {Y = ℕ × ℕ} (λ s. (c.args.width / max 1 (length c.in-Split.symbols), s)) c.in-Split.symbols c.args.number 0 d (omega (arith, c.requires, count)) in
    ap₂ (λ w m. w / m) c.from.ensures share ∙ sym (ap (λ (b : Body). (get_or (children b c.args.width) c.args.number d).0) c.in-Split.is ∙ ap (λ (q : ℕ × ℕ). q.0) own)

pub returns-in-Parts : goal.returns-in-Parts
returns-in-Parts c = λ d.
    let share : c.max-in-Parts.result ≡ max 1 (sizes c.in-Parts.parts) = search rules in
    let width : c.from-in-Parts.result ≡ c.args.width = search rules in
    let size : c.from-in-Parts-2.result ≡ (get_or c.in-Parts.parts c.args.number (0, 0)).0 = search rules in
    let count : length (children c.args.body.now c.args.width) ≡ length c.in-Parts.parts = ap (λ b. length (children b c.args.width)) c.in-Parts.is ∙ length-map {B = ℕ × ℕ} c.in-Parts.parts (λ q. (q.0 * (c.args.width / max 1 (sizes c.in-Parts.parts)), q.1)) in
    let own = get_or-map {Y = ℕ × ℕ} (λ (q : ℕ × ℕ). (q.0 * (c.args.width / max 1 (sizes c.in-Parts.parts)), q.1)) c.in-Parts.parts c.args.number (0, 0) d (omega (arith, c.requires, count)) in
    (λ i. size i * (width i / share i)) ∙ sym (ap (λ (b : Body). (get_or (children b c.args.width) c.args.number d).0) c.in-Parts.is ∙ ap (λ (q : ℕ × ℕ). q.0) own)
