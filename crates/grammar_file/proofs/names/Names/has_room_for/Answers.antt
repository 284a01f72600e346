use Rattle.std.proofs.Common.{◌≡◌, length, nat_lt, refl, sym, ap, ◌∙◌}
use Rattle.std.proofs.lemmas.List.{length-map}
use Rattle.std.specs.Str.{bytes_eq}
use Rattle.rhythm_base.proofs.Positions.{list_any-map}
use Rattle.grammar_file.specs.Names.{is_known}
use Rattle.grammar_file.proofs.names.Names.has_room_for.Goals as goal

pub returns-then-contains : goal.returns-then-contains
returns-then-contains c =
    let known : c.contains.result ≡ is_known c.args.self.now c.args.name.now =
    c.contains.ensures ∙ sym (list_any-map (bytes_eq c.args.name.now) (λ x. x.now) c.self.inside.set.keys)
    ∙ ap (λ names. is_known names c.args.name.now) c.self.view_is in
    rw (← known) (rw c.if-contains.true refl)

pub returns-else-contains : goal.returns-else-contains
returns-else-contains c =
    let known : c.contains.result ≡ is_known c.args.self.now c.args.name.now =
    c.contains.ensures ∙ sym (list_any-map (bytes_eq c.args.name.now) (λ x. x.now) c.self.inside.set.keys)
    ∙ ap (λ names. is_known names c.args.name.now) c.self.view_is in
    rw (← known) (rw c.if-contains.false (ap (λ n. nat_lt n 64) (c.len.ensures.len ∙ sym (length-map c.self.inside.set.keys (λ x. x.now)) ∙ ap length c.self.view_is)))
