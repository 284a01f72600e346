use Rattle.std.proofs.Common.{rules, ◌≡◌, ◌++◌, IfOk, ℕ, List, [], ◌∷◌, ap, ◌∙◌, append_assoc}
use Rattle.std.specs.Int.{to_be_bytes, w16}
use Rattle.std.proofs.lemmas.Result.{IfOk-equal}
use Rattle.smf_bytes.proofs.chunk.push_header.Goals as goal

pub returns : goal.returns
returns c =
    let old = c.args.bytes.now.items in
    let opening : List ℕ = 77 ∷ 84 ∷ 104 ∷ 100 ∷ 0 ∷ 0 ∷ 0 ∷ 6 ∷ 0 ∷ 1 ∷ [] in
    let tracks : List ℕ = to_be_bytes w16 c.args.tracks in
    let division : List ℕ = to_be_bytes w16 c.args.division in
    let opened : c.extend_from_slice.new.self.items ≡ old ++ opening = search rules in
    let counted : c.extend_from_slice-2.new.self.items ≡ c.extend_from_slice.new.self.items ++ tracks = search rules in
    let last : IfOk c.extend_from_slice-3.result (λ _. c.extend_from_slice-3.new.self.items ≡ c.extend_from_slice-2.new.self.items ++ division) = search rules in
    IfOk-equal c.extend_from_slice-3.result _ _ _ last
    (ap (λ (xs : List ℕ). xs ++ division) (counted ∙ ap (λ (xs : List ℕ). xs ++ tracks) opened) ∙ simp append_assoc)
