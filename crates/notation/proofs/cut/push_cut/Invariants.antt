use Rattle.std.proofs.Common.{◌≡◌, ◌+◌, ◌-◌, ◌*◌, ◌≤◌, ◌++◌}
use Rattle.std.specs.Prelude.{filter}
use Rattle.notation.specs.Places.{is_plain}
use Rattle.notation.specs.Tokens.{cut_token, cuts, part_ends}
use Rattle.notation.proofs.cut.push_cut.Given as goal

abbrev pub invariant-parts : goal.invariant-parts
invariant-parts l = record {
  small : l.part ≤ 245760;
  place : l.place ≤ l.fn.token.start + l._dot * 245760;
  cut : l.list.items ++ cut_token (filter (is_plain l.odd) (part_ends (l.dots - l._dot) l.place l.part)) l.rest
      ≡ l.initial.list.items ++ cut_token (cuts l.fn.resolution l.odd l.fn.value l.fn.token) l.fn.token;
}
