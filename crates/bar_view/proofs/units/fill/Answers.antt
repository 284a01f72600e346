use Rattle.std.proofs.Common.{rules, ◌≡◌, ◌≤◌, ◌<◌, ℕ, length, max, min, ◌∙◌, arith}
use Rattle.bar_view.proofs.Parts.{parted, parted-whole}
use Rattle.bar_view.proofs.units.fill.Goals as goal

pub returns : goal.returns
returns c =
    let full = c.min-full.result in
    let over = c.min-over.result in
    let one : full ≤ c.args.end.unit = search rules in
    let two : full ≤ c.args.next = search rules in
    let three : over ≤ c.args.next = search rules in
    let four : (u : ℕ) → over ≤ u → u < c.args.next → c.after.result ≤ u
    = λ u past less. let is : over ≡ min c.after.result c.args.next = search rules in omega (arith, is) in
    let first = c.in_ok-extend.ensures in
    let second = c.in_ok-extend-2.ensures in
    let third = c.in_ok-extend-3.ensures in
    let long : length c.extend.new.quiet.items ≡ max (length c.args.quiet.now.items) full = first.long in
    let longer : length c.extend-2.new.quiet.items ≡ max (length c.extend.new.quiet.items) over = second.long in
    let longest : length c.extend-3.new.quiet.items ≡ max (length c.extend-2.new.quiet.items) c.args.next = third.long in
    record {
      long = omega (arith, long, longer, longest, two, three);
      same = λ u d low. third.same u d (omega (arith, low, long, longer)) ∙ second.same u d (omega (arith, low, long)) ∙ first.same u d low;
      whole = λ ticks at u d some point low high.
          parted-whole ticks at c.args.next full over c.args.end c.args.quiet.now.items c.extend.new.quiet.items c.extend-2.new.quiet.items c.extend-3.new.quiet.items c.none.result some point one
          (λ m less near. let is : full ≡ min c.args.end.unit c.args.next = search rules in omega (arith, is, less, near))
          (λ u past. let first_unit = (c.after.ensures ticks at point u).1 past in let is : over ≡ min c.after.result c.args.next = search rules in omega (arith, is, first_unit))
          first second third u d low high;
      parts = λ ticks at u d point low high.
          parted ticks at c.args.next full over c.args.end c.args.quiet.now.items c.extend.new.quiet.items c.extend-2.new.quiet.items c.extend-3.new.quiet.items c.none.result c.none.ensures point one two three
          (λ u past less. (c.after.ensures ticks at point u).0 (four u past less)) first second third u d low high;
    }
