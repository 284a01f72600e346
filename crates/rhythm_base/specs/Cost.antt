-- What a derivation costs: the weights of its rules, and for each onset its displacement times a weight by its side.
use Rattle.std.specs.Prelude.{ℕ, ◌+◌, ◌-◌, ◌*◌, ◌/◌, Bool, nat_lt, if◌then◌else◌, List, [], ◌∷◌, sum_by, slice_get, Option, Some, None}
use Rattle.std.specs.List.{flat_map}
use Rattle.rhythm_base.specs.declared.rule.Rule.{Rule}
use Rattle.rhythm_base.specs.Forest.{Tree, preorder_of}
use Rattle.rhythm_base.specs.declared.inner.Inner.{Inner}
use Rattle.rhythm_base.specs.Leaves.{Leaf, VoiceBar, lies_in, goes_left, voice_leaves}
use Rattle.rhythm_base.specs.Grammar.{Grammar}
use Rattle.rhythm_base.specs.Lists.{gap}

-- the unit of its bar that an onset in the leaf is attached at: the leaf's start, or its end where it goes to the next leaf
abbrev pub attached_unit : ℕ → Leaf → ℕ → ℕ
attached_unit r x t = if goes_left r x t then x.part.place else x.part.place + x.part.width

-- The displacement of an onset at tick t of a bar that is attached at the unit q, in 960ths of a notated quarter of that
-- bar, the whole part: (3840 * num / den) * |t * R - q * L| / (R * L)
abbrev pub displacement_of : ℕ → ℕ → ℕ → ℕ → ℕ → ℕ → ℕ
displacement_of num den length r q t = (3840 * num * gap (t * r) (q * length)) / (den * (r * length))

-- the onset was played after the unit that it is attached at
abbrev pub is_after : ℕ → ℕ → ℕ → ℕ → Bool
is_after length r q t = nat_lt (q * length) (t * r)

abbrev pub displacement_in : ℕ → Leaf → ℕ → ℕ
displacement_in r x t = displacement_of x.bar.num x.bar.den x.bar.length r (attached_unit r x t) (t - x.bar.start)

abbrev pub is_late : ℕ → Leaf → ℕ → Bool
is_late r x t = is_after x.bar.length r (attached_unit r x t) (t - x.bar.start)

-- what an onset in the leaf costs
abbrev pub charge_in : Grammar → Leaf → ℕ → ℕ
charge_in g x t = (if is_late g.resolution x t then g.late else g.early) * displacement_in g.resolution x t

-- what an onset costs, by the leaf that it lies in
abbrev pub charge : Grammar → List Leaf → ℕ → ℕ
charge g [] t = 0
charge g (x ∷ xs) t = if lies_in g.resolution x t then charge_in g x t else charge g xs t

-- what all onsets cost
abbrev pub charges : Grammar → List Leaf → List Inner → ℕ
charges g xs cs = sum_by (λ c. charge g xs c.onset) cs

abbrev pub weight_of : Option Rule → ℕ
weight_of None = 0
weight_of (Some rule) = rule.weight

-- the rule numbers of a derivation: in preorder in a tree, and bar after bar
abbrev pub sequence_of : List Tree → List ℕ
sequence_of ts = flat_map preorder_of ts

-- the weights of rules, by their numbers
abbrev pub weights : Grammar → List ℕ → ℕ
weights g rs = sum_by (λ r. weight_of (slice_get g.rules r)) rs

abbrev pub cost : Grammar → List VoiceBar → List Inner → List Tree → ℕ
cost g bars cs ts = weights g (sequence_of ts) + charges g (voice_leaves g bars ts) cs
