use Rattle.std.proofs.Common.{rules, ◌≡◌, ◌==◌, ◌+◌, ◌-◌, ◌*◌, ◌/◌, ◌^◌, ◌%◌, ◌<◌, ◌≤◌, ◌++◌, [], ◌∷◌, ℕ, suc, length, position, slice_get, take, arith, refl, sym, ap, ◌∙◌, subst, get_or, drop, append_assoc, append-nil, List}
use Rattle.std.specs.Prelude.{Some, None, vec_len}
use Rattle.std.proofs.lemmas.List.{length-take}
use Rattle.std.proofs.lemmas.Option.{get_or_from_slice_get, slice_get_within, slice_get_read}
use Rattle.rhythm_base.specs.Bodies.{children, sizes}
use Rattle.tree_laws.specs.Forests.{Ground, IsForestKey}
use Rattle.path_laws.specs.Tables.{IsLeastKey}
use Rattle.row_laws.specs.Grounds.{ground_of}
use Rattle.grammar_plan.specs.Plans.{HasSeat, between, pair_of}
use Rattle.grammar_plan.specs.declared.seat.Seat.{Seat}
use Rattle.least_rows.specs.Searches.{ground_in}
use Rattle.least_rows.specs.Entries.{IsRow}
use Rattle.least_rows.specs.States.{IsRowAt}
use Rattle.least_rows.specs.Steps.{IsRowOf}
use Rattle.least_rows.specs.declared.entry.Entry.{Entry}
use Rattle.rhythm_base.specs.Grammar.{Grammar}
use Rattle.rhythm_base.proofs.Positions.{position-within}
use Rattle.row_laws.specs.QuietTrees.{IsQuiet, IsQuietLeast}
use Rattle.grammar_plan.specs.declared.plan.Plan.{Plan}
use Rattle.least_rows.proofs.PlanSeats.{has_seat-pair, has_seat-within, on_ok, one_at, parts_lower, place-there, place-within, seat_lower, seat_of, sizes-more}
use Rattle.least_rows.proofs.WayLists.{cut_along, cut_leg, cut_parts, entry_list, entry_made, cut_count, entry_there, made_cut, made_leaf, made_there, part_narrow, part_seat, part_there, quiet-key, sizes_upto, way_first, way_less, way_step}
use Rattle.least_rows.proofs.Cutting.{cut-few}
use Rattle.least_rows.specs.Parts.{AreSeatsOf, carried_after}
use Rattle.grammar_plan.specs.Drafts.{IsLonger}
use Rattle.row_laws.specs.Ways.{IsWayList}
use Rattle.least_rows.proofs.ListCopies.{longer-later, longer-same, on_appended, text-list, texts-kept, texts-longer}
use Rattle.least_rows.proofs.write.+lists.Goals as goal
use Rattle.rhythm_base.proofs.Conjunctions.{and_then}

pub write-returns-in-Some-clause-list : goal.write-returns-in-Some-clause-list
write-returns-in-Some-clause-list t c =
    let bar = c.args.search.now in
    let at : slice_get bar.plan.now.seats.items c.args.tree.seat ≡ Some c.index.result.now = slice_get_read bar.plan.now.seats.items (length bar.plan.now.seats.items) c.args.tree.seat c.index.result.now refl (place-there c.args.search.now c.args.tree.seat c.args.tree.place c.requires.tree.place) c.index.ensures in
    let calm : (g : Grammar) → g.resolution ≡ bar.input.now.resolution → IsQuiet c.in-Some.quiet (ground_of g bar.input.now) c.args.tree.place c.index.result.now.width = c.in-Some.ensures in
    on_ok c.write_quiet.result
    (λ h s key at_s least.
    let same : c.index.result.now ≡ s = one_at bar.plan.now.seats.items c.args.tree.seat c.index.result.now s at at_s in
    let here : IsQuiet c.in-Some.quiet (ground_in bar) c.args.tree.place s.width = subst (λ (s : Seat). IsQuiet c.in-Some.quiet (ground_in bar) c.args.tree.place s.width) same (calm bar.grammar.now c.requires.search.ready.units) in
    h s key at_s (subst (λ a. IsQuietLeast bar.grammar.now c.in-Some.quiet (pair_of s) a (Some key)) (sym c.of.ensures) (quiet-key bar.grammar.now bar.input.now bar.plan.now c.requires.search.ready c.requires.search.plan_of c.in-Some.quiet c.args.tree.seat s at_s (place-there c.args.search.now c.args.tree.seat c.args.tree.place c.requires.tree.place) c.args.tree.place c.args.tree.from c.args.tree.to c.requires.tree.from here key least)))
    c.write_quiet.ensures.list

pub write-returns-in-Some-clause-texts : goal.write-returns-in-Some-clause-texts
write-returns-in-Some-clause-texts t c =
    on_ok c.write_quiet.result (texts-longer c.args.search.now c.args.list.now.items c.write_quiet.new.list.items c.args.texts.now c.requires.texts) c.write_quiet.ensures.grows

pub write-entries_of-requires : goal.write-entries_of-requires
write-entries_of-requires t c =
    let bar = c.args.search.now in
    let at : slice_get bar.plan.now.seats.items c.args.tree.seat ≡ Some c.index.result.now = slice_get_read bar.plan.now.seats.items (length bar.plan.now.seats.items) c.args.tree.seat c.index.result.now refl (place-there c.args.search.now c.args.tree.seat c.args.tree.place c.requires.tree.place) c.index.ensures in
    let row : (s : Seat) → slice_get bar.plan.now.seats.items c.args.tree.seat ≡ Some s → IsRowAt bar c.row.new.self.entries.items c.args.tree.place (pair_of s) c.args.tree.from c.in_ok-span.span = subst (λ a. IsRowOf bar c.row.new.self c.args.tree.seat c.args.tree.place a c.in_ok-span.span) c.of-from.ensures c.in_ok-span.ensures.row in
    (row c.index.result.now at).within

pub write-returns-in_default-entry_in-clause-list : goal.write-returns-in_default-entry_in-clause-list
write-returns-in_default-entry_in-clause-list t c s key at least =
    let bar = c.args.search.now in
    let row : (s : Seat) → slice_get bar.plan.now.seats.items c.args.tree.seat ≡ Some s → IsRowAt bar c.row.new.self.entries.items c.args.tree.place (pair_of s) c.args.tree.from c.in_ok-span.span = subst (λ a. IsRowOf bar c.row.new.self c.args.tree.seat c.args.tree.place a c.in_ok-span.span) c.of-from.ensures c.in_ok-span.ensures.row in
    let own = subst (IsRow (ground_in bar) bar.plan.now c.args.tree.place (pair_of s) c.args.tree.from) (sym c.entries_of.ensures) (row s at).row in
    let none : position (λ (e : Entry). e.to == c.args.tree.to) c.entries_of.result.now ≡ None = c.in_default-entry_in.ensures in
    absurd (entry_there (ground_in bar) bar.plan.now c.args.tree.place (pair_of s) c.args.tree.from c.entries_of.result.now own c.args.tree.to key least none)

pub write-returns-in_default-entry_in-clause-grows : goal.write-returns-in_default-entry_in-clause-grows
write-returns-in_default-entry_in-clause-grows t c = longer-same c.args.list.now.items

pub write-returns-in_default-cut-clause-texts : goal.write-returns-in_default-cut-clause-texts
write-returns-in_default-cut-clause-texts t c =
    let pushed : c.push.new.self.items ≡ c.args.list.now.items ++ c.in-Some-entry_in.found.entry.rule ∷ [] = search rules in
    texts-longer c.args.search.now c.args.list.now.items c.push.new.self.items c.args.texts.now c.requires.texts (c.in-Some-entry_in.found.entry.rule ∷ [], pushed)

pub write-returns-in_default-cut-clause-grows : goal.write-returns-in_default-cut-clause-grows
write-returns-in_default-cut-clause-grows t c =
    let pushed : c.push.new.self.items ≡ c.args.list.now.items ++ c.in-Some-entry_in.found.entry.rule ∷ [] = search rules in
    (c.in-Some-entry_in.found.entry.rule ∷ [], pushed)

pub write-returns-in_default-cut-clause-list : goal.write-returns-in_default-cut-clause-list
write-returns-in_default-cut-clause-list t c s key at least =
    let bar = c.args.search.now in
    let e = c.in-Some-entry_in.found.entry in
    let row : (s : Seat) → slice_get bar.plan.now.seats.items c.args.tree.seat ≡ Some s → IsRowAt bar c.row.new.self.entries.items c.args.tree.place (pair_of s) c.args.tree.from c.in_ok-span.span = subst (λ a. IsRowOf bar c.row.new.self c.args.tree.seat c.args.tree.place a c.in_ok-span.span) c.of-from.ensures c.in_ok-span.ensures.row in
    let own = subst (IsRow (ground_in bar) bar.plan.now c.args.tree.place (pair_of s) c.args.tree.from) (sym c.entries_of.ensures) (row s at).row in
    let found : (i : ℕ) × (position (λ (e : Entry). e.to == c.args.tree.to) c.entries_of.result.now ≡ Some i) × (e ≡ get_or c.entries_of.result.now i e) = (c.in-Some-entry_in.found.place, c.in-Some-entry_in.ensures.0, c.in-Some-entry_in.ensures.1) in
    let made = entry_made (ground_in bar) bar.plan.now c.args.tree.place (pair_of s) c.args.tree.from c.entries_of.result.now own c.args.tree.to key least found.0 e found.1 found.2 in
    let pushed : c.push.new.self.items ≡ c.args.list.now.items ++ e.rule ∷ [] = search rules in
    pushed ∙ ap (λ l. c.args.list.now.items ++ l) (sym (made_leaf (ground_in bar) bar.plan.now c.args.tree.place (pair_of s) c.args.tree.from e.rule e.cut e.way e.to key.1 made c.in_default-cut.is))

pub write-overflow_add-slot : goal.write-overflow_add-slot
write-overflow_add-slot t c =
    let bar = c.args.search.now in
    let at : slice_get bar.plan.now.seats.items c.args.tree.seat ≡ Some c.index.result.now = slice_get_read bar.plan.now.seats.items (length bar.plan.now.seats.items) c.args.tree.seat c.index.result.now refl (place-there c.args.search.now c.args.tree.seat c.args.tree.place c.requires.tree.place) c.index.ensures in
    let row : (s : Seat) → slice_get bar.plan.now.seats.items c.args.tree.seat ≡ Some s → IsRowAt bar c.row.new.self.entries.items c.args.tree.place (pair_of s) c.args.tree.from c.in_ok-span.span = subst (λ a. IsRowOf bar c.row.new.self c.args.tree.seat c.args.tree.place a c.in_ok-span.span) c.of-from.ensures c.in_ok-span.ensures.row in
    let few = (row c.index.result.now at).few in
    let low = position-within (λ (e : Entry). e.to == c.args.tree.to) c.entries_of.result.now c.in-Some-entry_in.found.place c.in-Some-entry_in.ensures.0 in
    let long : length c.entries_of.result.now ≡ length (between c.row.new.self.entries.items c.in_ok-span.span.first (c.in_ok-span.span.first + c.in_ok-span.span.count)) = ap length c.entries_of.ensures in
    let short = length-take (c.in_ok-span.span.first + c.in_ok-span.span.count - c.in_ok-span.span.first) (drop c.in_ok-span.span.first c.row.new.self.entries.items) in
    omega (arith, few, low, long, short)

pub write-extend_from_within-requires : goal.write-extend_from_within-requires
write-extend_from_within-requires t c =
    let own = c.requires.texts c.in-Some-find.text c.in-Some-find.ensures.0 in
    let order = own.order in
    let within = own.within in
    let long : vec_len c.args.list.now ≡ length c.args.list.now.items = search rules in
    record { start_le_end = order; in_bounds = omega (arith, within, long); not_exhausted = tt }

pub write-returns-in-Some-find-clause-texts : goal.write-returns-in-Some-find-clause-texts
write-returns-in-Some-find-clause-texts t c =
    let old = c.args.list.now.items in
    let more = between old c.in-Some-find.text.first c.in-Some-find.text.end in
    on_ok c.extend_from_within.result
    (λ h. texts-longer c.args.search.now old c.extend_from_within.new.self.items c.args.texts.now c.requires.texts (more, h))
    (on_appended c.extend_from_within.result old c.extend_from_within.new.self.items more c.extend_from_within.ensures.items)

pub write-returns-in-Some-find-clause-grows : goal.write-returns-in-Some-find-clause-grows
write-returns-in-Some-find-clause-grows t c =
    let old = c.args.list.now.items in
    let more = between old c.in-Some-find.text.first c.in-Some-find.text.end in
    on_ok c.extend_from_within.result (λ h. (more, h)) (on_appended c.extend_from_within.result old c.extend_from_within.new.self.items more c.extend_from_within.ensures.items)

pub write-returns-in-Some-find-clause-list : goal.write-returns-in-Some-find-clause-list
write-returns-in-Some-find-clause-list t c =
    let old = c.args.list.now.items in
    let text = c.in-Some-find.text in
    let more = between old text.first text.end in
    let is = text-list c.args.search.now old c.args.texts.now c.args.tree text c.requires.texts c.in-Some-find.ensures.0 c.in-Some-find.ensures.1 in
    on_ok c.extend_from_within.result (λ h s key at least. h ∙ ap (λ l. old ++ l) (is s key at least)) (on_appended c.extend_from_within.result old c.extend_from_within.new.self.items more c.extend_from_within.ensures.items)

pub write-index-cut-requires : goal.write-index-cut-requires
write-index-cut-requires t c =
    let bar = c.args.search.now in
    let e = c.in-Some-entry_in.found.entry in
    let s = c.index.result.now in
    let at : slice_get bar.plan.now.seats.items c.args.tree.seat ≡ Some s = slice_get_read bar.plan.now.seats.items (length bar.plan.now.seats.items) c.args.tree.seat s refl (place-there c.args.search.now c.args.tree.seat c.args.tree.place c.requires.tree.place) c.index.ensures in
    let row : (s : Seat) → slice_get bar.plan.now.seats.items c.args.tree.seat ≡ Some s → IsRowAt bar c.row.new.self.entries.items c.args.tree.place (pair_of s) c.args.tree.from c.in_ok-span.span = subst (λ a. IsRowOf bar c.row.new.self c.args.tree.seat c.args.tree.place a c.in_ok-span.span) c.of-from.ensures c.in_ok-span.ensures.row in
    let own = subst (IsRow (ground_in bar) bar.plan.now c.args.tree.place (pair_of s) c.args.tree.from) (sym c.entries_of.ensures) (row s at).row in
    let found : (i : ℕ) × (position (λ (e : Entry). e.to == c.args.tree.to) c.entries_of.result.now ≡ Some i) × (e ≡ get_or c.entries_of.result.now i e) = (c.in-Some-entry_in.found.place, c.in-Some-entry_in.ensures.0, c.in-Some-entry_in.ensures.1) in
    let low = position-within (λ (e : Entry). e.to == c.args.tree.to) c.entries_of.result.now found.0 found.1 in
    let made = entry_list (ground_in bar) bar.plan.now c.args.tree.place (pair_of s) c.args.tree.from c.entries_of.result.now own found.0 e low found.2 in
    let cut = made_there (ground_in bar) bar.plan.now c.args.tree.place (pair_of s) c.args.tree.from e.rule e.cut c.in-Some-cut.number e.way e.to made.0 made.1 c.in-Some-cut.is in
    let there = slice_get_within bar.plan.now.cuts.items c.in-Some-cut.number cut.0 cut.1 in
    omega (arith, there)

pub write-write_parts-requires : goal.write-write_parts-requires
write-write_parts-requires t c =
    let bar = c.args.search.now in
    let e = c.in-Some-entry_in.found.entry in
    let s = c.index.result.now in
    let at : slice_get bar.plan.now.seats.items c.args.tree.seat ≡ Some s = slice_get_read bar.plan.now.seats.items (length bar.plan.now.seats.items) c.args.tree.seat s refl (place-there c.args.search.now c.args.tree.seat c.args.tree.place c.requires.tree.place) c.index.ensures in
    let row : (s : Seat) → slice_get bar.plan.now.seats.items c.args.tree.seat ≡ Some s → IsRowAt bar c.row.new.self.entries.items c.args.tree.place (pair_of s) c.args.tree.from c.in_ok-span.span = subst (λ a. IsRowOf bar c.row.new.self c.args.tree.seat c.args.tree.place a c.in_ok-span.span) c.of-from.ensures c.in_ok-span.ensures.row in
    let own = subst (IsRow (ground_in bar) bar.plan.now c.args.tree.place (pair_of s) c.args.tree.from) (sym c.entries_of.ensures) (row s at).row in
    let found : (i : ℕ) × (position (λ (e : Entry). e.to == c.args.tree.to) c.entries_of.result.now ≡ Some i) × (e ≡ get_or c.entries_of.result.now i e) = (c.in-Some-entry_in.found.place, c.in-Some-entry_in.ensures.0, c.in-Some-entry_in.ensures.1) in
    let low = position-within (λ (e : Entry). e.to == c.args.tree.to) c.entries_of.result.now found.0 found.1 in
    let list = entry_list (ground_in bar) bar.plan.now c.args.tree.place (pair_of s) c.args.tree.from c.entries_of.result.now own found.0 e low found.2 in
    let there = made_there (ground_in bar) bar.plan.now c.args.tree.place (pair_of s) c.args.tree.from e.rule e.cut c.in-Some-cut.number e.way e.to list.0 list.1 c.in-Some-cut.is in
    let cut_at : slice_get bar.plan.now.cuts.items c.in-Some-cut.number ≡ Some c.index-cut.result.now = there.1 ∙ ap Some (sym (get_or_from_slice_get bar.plan.now.cuts.items c.in-Some-cut.number there.0 c.index-cut.result.now there.1) ∙ sym c.index-cut.ensures) in
    let made = made_cut (ground_in bar) bar.plan.now c.args.tree.place (pair_of s) c.args.tree.from e.rule e.cut c.in-Some-cut.number e.way e.to list.0 c.index-cut.result.now list.1 c.in-Some-cut.is cut_at in
    let wide = (seat_of bar.grammar.now bar.plan.now c.requires.search.plan_of c.args.tree.seat s at).wide in
    let within = place-within c.args.search.now c.args.tree.seat c.args.tree.place c.requires.tree.place s at in
    let few : c.index-cut.result.now.end ≤ length bar.plan.now.parts.items = made.cut.within in
    let lower = parts_lower bar.plan.now c.args.tree.seat s.width (c.index-cut.result.now.end - c.index-cut.result.now.first) s at refl (omega (arith, few)) in
    let pushed : c.push-2.new.self.items ≡ c.args.list.now.items ++ e.rule ∷ [] = search rules in
    let count = cut_count bar s c.args.tree.place c.args.tree.from e.rule e.way e.to list.0 c.index-cut.result.now wide within made in
    let most = cut-few bar.grammar.now bar.input.now bar.plan.now c.requires.search.ready s (seat_of bar.grammar.now bar.plan.now c.requires.search.plan_of c.args.tree.seat s at) c.index-cut.result.now made.cut in
    and_then (omega (arith, lower, c.decreases))
    (and_then c.requires.search
    (and_then (cut_parts bar s c.args.tree.place c.args.tree.from e.rule e.way e.to list.0 c.index-cut.result.now wide within made)
    (and_then (omega (arith, count, most))
    (and_then (cut_leg bar s c.args.tree.place c.args.tree.from e.rule e.way e.to list.0 c.index-cut.result.now wide within made)
    (and_then c.in_ok-span.ensures.known (texts-longer bar c.args.list.now.items c.push-2.new.self.items c.args.texts.now c.requires.texts (e.rule ∷ [], pushed)))))))

longer : (old mid new : List ℕ) (rule : ℕ) → mid ≡ old ++ rule ∷ [] → IsLonger mid new → IsLonger old new
longer old mid new rule pushed later = longer-later old mid new (rule ∷ [], pushed) later

pub write-returns-clause-list : goal.write-returns-clause-list
write-returns-clause-list t c s key at least =
    let bar = c.args.search.now in
    let e = c.in-Some-entry_in.found.entry in
    let cut = c.index-cut.result.now in
    let row : (s : Seat) → slice_get bar.plan.now.seats.items c.args.tree.seat ≡ Some s → IsRowAt bar c.row.new.self.entries.items c.args.tree.place (pair_of s) c.args.tree.from c.in_ok-span.span = subst (λ a. IsRowOf bar c.row.new.self c.args.tree.seat c.args.tree.place a c.in_ok-span.span) c.of-from.ensures c.in_ok-span.ensures.row in
    let own = subst (IsRow (ground_in bar) bar.plan.now c.args.tree.place (pair_of s) c.args.tree.from) (sym c.entries_of.ensures) (row s at).row in
    let found : (i : ℕ) × (position (λ (e : Entry). e.to == c.args.tree.to) c.entries_of.result.now ≡ Some i) × (e ≡ get_or c.entries_of.result.now i e) = (c.in-Some-entry_in.found.place, c.in-Some-entry_in.ensures.0, c.in-Some-entry_in.ensures.1) in
    let made = entry_made (ground_in bar) bar.plan.now c.args.tree.place (pair_of s) c.args.tree.from c.entries_of.result.now own c.args.tree.to key least found.0 e found.1 found.2 in
    let there = made_there (ground_in bar) bar.plan.now c.args.tree.place (pair_of s) c.args.tree.from e.rule e.cut c.in-Some-cut.number e.way e.to key.1 made c.in-Some-cut.is in
    let cut_at : slice_get bar.plan.now.cuts.items c.in-Some-cut.number ≡ Some cut = there.1 ∙ ap Some (sym (get_or_from_slice_get bar.plan.now.cuts.items c.in-Some-cut.number there.0 cut there.1) ∙ sym c.index-cut.ensures) in
    let made_so = made_cut (ground_in bar) bar.plan.now c.args.tree.place (pair_of s) c.args.tree.from e.rule e.cut c.in-Some-cut.number e.way e.to key.1 cut made c.in-Some-cut.is cut_at in
    let wide = (seat_of bar.grammar.now bar.plan.now c.requires.search.plan_of c.args.tree.seat s at).wide in
    let along = cut_along bar s c.args.tree.place c.args.tree.from e.rule e.way e.to key.1 cut wide (place-within c.args.search.now c.args.tree.seat c.args.tree.place c.requires.tree.place s at) made_so in
    let pushed : c.push-2.new.self.items ≡ c.args.list.now.items ++ e.rule ∷ [] = search rules in
    let below : c.write_parts.new.list.items ≡ c.push-2.new.self.items ++ made_so.below = c.in_ok-write_parts.ensures.list (children made_so.cut.rule.body s.width) made_so.below made_so.cut.parts along in
    below ∙ ap (λ l. l ++ made_so.below) pushed ∙ append_assoc c.args.list.now.items (e.rule ∷ []) made_so.below ∙ ap (λ l. c.args.list.now.items ++ l) (sym made_so.whole)

pub write-returns-clause-texts : goal.write-returns-clause-texts
write-returns-clause-texts t c =
    let before = c.args.list.now.items in
    let rules = c.write_parts.new.list.items in
    let pushed : c.push-2.new.self.items ≡ before ++ c.in-Some-entry_in.found.entry.rule ∷ [] = c.in_ok-push-2.ensures.items in
    let grown = longer before c.push-2.new.self.items rules c.in-Some-entry_in.found.entry.rule pushed c.in_ok-write_parts.ensures.grows in
    texts-kept c.args.search.now before rules (length c.as_slice-first.result.now) (length c.as_slice-end.result.now) c.args.tree c.write_parts.new.texts c.keep.new.self (ap length c.as_slice-first.ensures.value) (ap length c.as_slice-end.ensures.value) grown (write-returns-clause-list t c) c.in_ok-write_parts.ensures.texts c.in_ok-keep.ensures

pub write-returns-clause-grows : goal.write-returns-clause-grows
write-returns-clause-grows t c =
    let pushed : c.push-2.new.self.items ≡ c.args.list.now.items ++ c.in-Some-entry_in.found.entry.rule ∷ [] = c.in_ok-push-2.ensures.items in
    longer c.args.list.now.items c.push-2.new.self.items c.write_parts.new.list.items c.in-Some-entry_in.found.entry.rule pushed c.in_ok-write_parts.ensures.grows

-- no part is written before the first
write_parts_none : (d : Ground) (p : ℕ) (qs : List (ℕ × ℕ)) (a n way m : ℕ) (list xs : List ℕ) → n ≡ 0 → IsWayList d p qs a n way m xs → list ≡ list ++ xs
write_parts_none d p qs a n way m list xs none h =
    let empty : IsWayList d p qs a 0 way m xs = subst (λ n. IsWayList d p qs a n way m xs) none h in
    sym (ap (λ l. list ++ l) empty.2 ∙ append-nil list)

pub write_parts-parts-init : goal.write_parts-parts-init
write_parts-parts-init t c =
    let bar = c.args.search.now in
    let d = ground_in bar in
    let leg = c.requires.leg in
    let order : c.args.parts.first ≤ c.args.parts.end = c.requires.parts.order in
    let none : c.args.parts.first - c.args.parts.first ≡ 0 = omega arith in
    let first = way_first d c.args.leg.place leg.seats c.args.leg.from 0 (c.args.parts.end - c.args.parts.first) (c.args.parts.end - c.args.parts.first) c.args.leg.way c.args.leg.to leg.list (omega arith) leg.way in
    record {
      low = let same : c.args.parts.first ≤ c.args.parts.first = omega arith in same;
      high = order;
      known = c.requires.known;
      texts = c.requires.texts;
      grows = longer-same c.args.list.now.items;
      place = λ qs are. let start : c.args.leg.place ≡ c.args.leg.place + sizes (take 0 qs) = omega arith in start ∙ ap (λ n. c.args.leg.place + sizes (take n qs)) (sym none);
      from = sym first.1.1;
      written = λ qs xs are way. write_parts_none d c.args.leg.place qs c.args.leg.from (c.args.parts.first - c.args.parts.first) (c.args.leg.way / 2 ^ (3 * (c.args.parts.end - c.args.parts.first))) c.args.leg.from c.args.list.now.items xs none way;
    }

pub write_parts-write-requires : goal.write_parts-write-requires
write_parts-write-requires t c =
    let bar = c.args.search.now in
    let d = ground_in bar in
    let leg = c.requires.leg in
    let old = c.parts.invariant in
    let low : c.args.parts.first ≤ c.parts.part = old.low in
    let high : c.parts.part < c.args.parts.end = c.parts-test.true in
    let n = c.index-seat.result.now in
    let q = get_or leg.seats (c.parts.part - c.args.parts.first) (0, 0) in
    let first = part_seat bar.plan.now c.args.parts c.requires.parts c.parts.part n low high leg.seats leg.are in
    let seat : HasSeat bar.plan.now n q = subst (λ n. HasSeat bar.plan.now n q) (sym c.index-seat.ensures) first in
    let narrow = part_narrow bar.plan.now c.args.parts c.requires.parts c.parts.part n low high q first in
    let upto = sizes_upto leg.seats (c.parts.part - c.args.parts.first) (part_there bar.plan.now c.args.parts c.requires.parts c.parts.part n low high leg.seats leg.are) in
    let within : c.args.leg.place + sizes leg.seats ≤ bar.input.now.resolution = leg.within in
    let place : c.parts.place ≡ c.args.leg.place + sizes (take (c.parts.part - c.args.parts.first) leg.seats) = old.place leg.seats leg.are in
    let lower = seat_lower bar.plan.now n c.args.parts.width (c.args.parts.end - c.args.parts.first) q seat narrow in
    let count : c.args.parts.end - c.args.parts.first ≡ suc (c.parts.part - c.args.parts.first) + (c.args.parts.end - 1 - c.parts.part) = omega (arith, low, high) in
    let some = way_first d c.args.leg.place leg.seats c.args.leg.from (suc (c.parts.part - c.args.parts.first)) (c.args.parts.end - 1 - c.parts.part) (c.args.parts.end - c.args.parts.first) c.args.leg.way c.args.leg.to leg.list count leg.way in
    let step = way_step d c.args.leg.place leg.seats c.args.leg.from (c.parts.part - c.args.parts.first) (suc (c.parts.part - c.args.parts.first)) (c.args.leg.way / 2 ^ (3 * (c.args.parts.end - 1 - c.parts.part))) (carried_after c.args.leg.way c.args.leg.to (c.args.parts.end - 1 - c.parts.part)) some.0 refl some.1 in
    let left : c.args.parts.end - c.parts.part ≡ suc (c.args.parts.end - 1 - c.parts.part) = omega (arith, high) in
    let carried : c.parts.from ≡ c.args.leg.way / 2 ^ (3 * (c.args.parts.end - 1 - c.parts.part)) % 8 = old.from ∙ ap (λ r. carried_after c.args.leg.way c.args.leg.to r) left in
    let few : c.parts.from < 5 = subst (λ m. m < 5) (sym carried) step.digit in
    let wide : seat.0.width ≡ q.0 = ap (λ (q : ℕ × ℕ). q.0) seat.2 in
    and_then (omega (arith, lower, c.decreases)) (and_then c.requires.search (and_then (record { place = (seat.0, seat.1, omega (arith, wide, place, within, upto)); from = few })
    (and_then old.known old.texts)))

pub write_parts-index-requires : goal.write_parts-index-requires
write_parts-index-requires t c =
    let bar = c.args.search.now in
    let leg = c.requires.leg in
    let n = c.index-seat.result.now in
    let q = get_or leg.seats (c.parts.part - c.args.parts.first) (0, 0) in
    let first = part_seat bar.plan.now c.args.parts c.requires.parts c.parts.part n c.parts.invariant.low c.parts-test.true leg.seats leg.are in
    let seat : HasSeat bar.plan.now n q = subst (λ n. HasSeat bar.plan.now n q) (sym c.index-seat.ensures) first in
    let there = has_seat-within bar.plan.now n q seat in
    omega (arith, there)

-- the seat of a part, as it is read
part_read : (plan : Plan) (n : ℕ) (q : ℕ × ℕ) (s : Seat) → HasSeat plan n q → s ≡ get_or plan.seats.items n s → slice_get plan.seats.items n ≡ Some s
part_read plan n q s seat is = slice_get_read plan.seats.items (length plan.seats.items) n s refl (has_seat-within plan n q seat) is

pub write_parts-overflow_add-place : goal.write_parts-overflow_add-place
write_parts-overflow_add-place t c =
    let bar = c.args.search.now in
    let leg = c.requires.leg in
    let old = c.parts.invariant in
    let low : c.args.parts.first ≤ c.parts.part = old.low in
    let high : c.parts.part < c.args.parts.end = c.parts-test.true in
    let n = c.index-seat.result.now in
    let q = get_or leg.seats (c.parts.part - c.args.parts.first) (0, 0) in
    let first = part_seat bar.plan.now c.args.parts c.requires.parts c.parts.part n low high leg.seats leg.are in
    let seat : HasSeat bar.plan.now n q = subst (λ n. HasSeat bar.plan.now n q) (sym c.index-seat.ensures) first in
    let at = part_read bar.plan.now n q c.index.result.now seat c.index.ensures in
    let wide : c.index.result.now.width ≡ q.0 = ap (λ (q : ℕ × ℕ). q.0) (has_seat-pair bar.plan.now n q c.index.result.now seat at) in
    let upto = sizes_upto leg.seats (c.parts.part - c.args.parts.first) (part_there bar.plan.now c.args.parts c.requires.parts c.parts.part n low high leg.seats leg.are) in
    let within : c.args.leg.place + sizes leg.seats ≤ bar.input.now.resolution = leg.within in
    let place : c.parts.place ≡ c.args.leg.place + sizes (take (c.parts.part - c.args.parts.first) leg.seats) = old.place leg.seats leg.are in
    let few : bar.input.now.resolution ≤ 960 = c.requires.search.ready.cell.few_units in
    omega (arith, wide, upto, within, place, few)

pub write_parts-parts-preserved : goal.write_parts-parts-preserved
write_parts-parts-preserved t c =
    let bar = c.args.search.now in
    let d = ground_in bar in
    let old = c.parts.invariant in
    let low : c.args.parts.first ≤ c.parts.part = old.low in
    let high : c.parts.part < c.args.parts.end = c.parts-test.true in
    let n = c.index-seat.result.now in
    let s = c.index.result.now in
    let count : c.parts.part + 1 - c.args.parts.first ≡ suc (c.parts.part - c.args.parts.first) = omega (arith, low) in
    let left : c.args.parts.end - c.parts.part ≡ suc (c.args.parts.end - (c.parts.part + 1)) = omega (arith, high) in
    let rest : c.args.parts.end - 1 - c.parts.part ≡ c.args.parts.end - (c.parts.part + 1) = omega arith in
    let seat : (qs : List (ℕ × ℕ)) → AreSeatsOf bar.plan.now c.args.parts qs → HasSeat bar.plan.now n (get_or qs (c.parts.part - c.args.parts.first) (0, 0))
    = λ qs are. subst (λ n. HasSeat bar.plan.now n (get_or qs (c.parts.part - c.args.parts.first) (0, 0))) (sym c.index-seat.ensures) (part_seat bar.plan.now c.args.parts c.requires.parts c.parts.part n low high qs are) in
    let at = part_read bar.plan.now n (get_or c.requires.parts.seats (c.parts.part - c.args.parts.first) (0, 0)) s (seat c.requires.parts.seats c.requires.parts.are) c.index.ensures in
    let pair : (qs : List (ℕ × ℕ)) → AreSeatsOf bar.plan.now c.args.parts qs → pair_of s ≡ get_or qs (c.parts.part - c.args.parts.first) (0, 0)
    = λ qs are. has_seat-pair bar.plan.now n (get_or qs (c.parts.part - c.args.parts.first) (0, 0)) s (seat qs are) at in
    record {
      low = omega (arith, low);
      high = omega (arith, high);
      known = c.in_ok-write.ensures.known;
      texts = c.in_ok-write.ensures.texts;
      grows = longer-later c.args.list.now.items c.parts.list.items c.write.new.list.items old.grows c.in_ok-write.ensures.grows;
      place = λ qs are.
          let before = old.place qs are in
          let wide : s.width ≡ (get_or qs (c.parts.part - c.args.parts.first) (0, 0)).0 = ap (λ (q : ℕ × ℕ). q.0) (pair qs are) in
          let more : sizes (take (c.parts.part + 1 - c.args.parts.first) qs) ≡ sizes (take (c.parts.part - c.args.parts.first) qs) + (get_or qs (c.parts.part - c.args.parts.first) (0, 0)).0
          = ap (λ n. sizes (take n qs)) count ∙ sizes-more qs (c.parts.part - c.args.parts.first) (part_there bar.plan.now c.args.parts c.requires.parts c.parts.part n low high qs are) in
          omega (arith, before, wide, more);
      from = c.carried_after-to.ensures ∙ ap (λ r. carried_after c.args.leg.way c.args.leg.to r) rest;
      written = λ qs xs are way.
          let p = c.args.leg.place in
          let a = c.args.leg.from in
          let i : ℕ = c.parts.part - c.args.parts.first in
          let w : ℕ = c.args.leg.way / 2 ^ (3 * (c.args.parts.end - (c.parts.part + 1))) in
          let step = way_step d p qs a (c.parts.part - c.args.parts.first) (c.parts.part + 1 - c.args.parts.first) (c.args.leg.way / 2 ^ (3 * (c.args.parts.end - (c.parts.part + 1)))) c.carried_after-to.result xs count way in
          let less : w / 8 ≡ c.args.leg.way / 2 ^ (3 * (c.args.parts.end - c.parts.part)) = way_less c.args.leg.way (c.args.parts.end - (c.parts.part + 1)) ∙ ap (λ r. c.args.leg.way / 2 ^ (3 * r)) (sym left) in
          let carried : w % 8 ≡ c.parts.from = sym (old.from ∙ ap (λ r. carried_after c.args.leg.way c.args.leg.to r) left) in
          let before : IsWayList d p qs a i (c.args.leg.way / 2 ^ (3 * (c.args.parts.end - c.parts.part))) c.parts.from step.earlier
          = subst (λ v. IsWayList d p qs a i v c.parts.from step.earlier) less (subst (λ m. IsWayList d p qs a i (w / 8) m step.earlier) carried step.before) in
          let earlier : c.parts.list.items ≡ c.args.list.now.items ++ step.earlier = old.written qs step.earlier are before in
          let least : IsLeastKey (IsForestKey d None c.parts.place (pair_of s ∷ []) c.parts.from c.carried_after-to.result) (Some step.key)
          = subst (λ v. IsLeastKey (IsForestKey d None v (pair_of s ∷ []) c.parts.from c.carried_after-to.result) (Some step.key)) (sym (old.place qs are))
          (subst (λ q. IsLeastKey (IsForestKey d None (p + sizes (take i qs)) (q ∷ []) c.parts.from c.carried_after-to.result) (Some step.key)) (sym (pair qs are))
          (subst (λ m. IsLeastKey (IsForestKey d None (p + sizes (take i qs)) (get_or qs i (0, 0) ∷ []) m c.carried_after-to.result) (Some step.key)) carried step.least)) in
          let last : c.write.new.list.items ≡ c.parts.list.items ++ step.key.1 = c.in_ok-write.ensures.list s step.key at least in
          last ∙ ap (λ l. l ++ step.key.1) earlier ∙ append_assoc c.args.list.now.items step.earlier step.key.1 ∙ ap (λ l. c.args.list.now.items ++ l) (sym step.whole);
    }

pub write_parts-returns-clause-list : goal.write_parts-returns-clause-list
write_parts-returns-clause-list t c = λ qs xs are way.
    let d = ground_in c.args.search.now in
    let old = c.parts.invariant in
    let high : c.parts.part ≤ c.args.parts.end = old.high in
    let over : c.args.parts.end ≤ c.parts.part = c.parts-test.false in
    let none : c.args.parts.end - c.parts.part ≡ 0 = omega (arith, over) in
    let all : c.args.parts.end - c.args.parts.first ≡ c.parts.part - c.args.parts.first = omega (arith, high, over) in
    let base : c.args.leg.way ≡ c.args.leg.way / 2 ^ (3 * 0) = omega arith in
    let whole : c.args.leg.way ≡ c.args.leg.way / 2 ^ (3 * (c.args.parts.end - c.parts.part)) = base ∙ ap (λ r. c.args.leg.way / 2 ^ (3 * r)) (sym none) in
    let carried : c.args.leg.to ≡ c.parts.from = sym (old.from ∙ ap (λ r. carried_after c.args.leg.way c.args.leg.to r) none) in
    old.written qs xs are (subst (λ n. IsWayList d c.args.leg.place qs c.args.leg.from n (c.args.leg.way / 2 ^ (3 * (c.args.parts.end - c.parts.part))) c.parts.from xs) all
    (subst (λ w. IsWayList d c.args.leg.place qs c.args.leg.from (c.args.parts.end - c.args.parts.first) w c.parts.from xs) whole
    (subst (λ m. IsWayList d c.args.leg.place qs c.args.leg.from (c.args.parts.end - c.args.parts.first) c.args.leg.way m xs) carried way)))
