use Rattle.std.proofs.Common.{rules, arith, ◌≡◌, ◌+◌, ◌<◌, ◌++◌, ◌∷◌, [], get_or, length, sym, ap, subst, ◌∙◌}
use Rattle.std.specs.Prelude.{Some, None}
use Rattle.std.proofs.lemmas.Option.{slice_get-get_or}
use Rattle.bar_pool.specs.Sources.{IsSource, IsTableAt}
use Rattle.bar_pool.proofs.Spreading.{IsRest, as_many, equal_one, next_found, one_more, rest_less, rest_most, rest_same}
use Rattle.rhythm_base.specs.Counter.{risen}
use Rattle.bar_pool.proofs.spread.spread.Goals.{in-Some+in_ok-table-in-Some, in-None+in-Some-next}
use Rattle.bar_pool.proofs.spread.spread.Goals as goal

pub index-requires : goal.index-requires
index-requires g c =
    let inputs = c.args.order.now.inputs.now in
    let equals = c.args.equals.now in
    let n = c.inputs.number in
    let low : n < length equals = omega (arith, c.inputs-test.true, c.requires.sources.long) in
    let source = subst (IsSource inputs n) c.in-Some.is (c.requires.sources.each n _ (slice_get-get_or equals n None low)) in
    let many = as_many c.args.order.now.grammar.now inputs equals n c.inputs-test.true c.inputs.tables.items c.inputs.invariant.tables in
    let before : c.in-Some.earlier < length c.inputs.tables.items = omega (arith, many, source.0) in
    search (rules, before)

pub returns-in_err-table-in-Some-clause-most : goal.returns-in_err-table-in-Some-clause-most
returns-in_err-table-in-Some-clause-most g c =
    let grammar = c.args.order.now.grammar.now in
    let inputs = c.args.order.now.inputs.now in
    let equals = c.args.equals.now in
    let n = c.inputs.number in
    let long = c.requires.sources.long in
    let low : n < length equals = omega (arith, c.inputs-test.true, long) in
    let more = rest_same grammar inputs equals n (length c.args.found.items) c.args.builds.now c.inputs.found.rest.items c.inputs.builds c.inputs.invariant.rest low c.in-Some.earlier c.in-Some.is c.for_equal_input.new.builds c.for_equal_input.ensures.builds in
    let most = rest_most grammar inputs equals (n + 1) (length c.args.found.items) c.args.builds.now c.inputs.found.rest.items c.for_equal_input.new.builds more (omega (arith, low)) in
    (most.0, omega (arith, most.1, long))

pub returns-in_err-push-clause-most : goal.returns-in_err-push-clause-most
returns-in_err-push-clause-most g c =
    let grammar = c.args.order.now.grammar.now in
    let inputs = c.args.order.now.inputs.now in
    let equals = c.args.equals.now in
    let all = length c.args.found.items in
    let first = c.args.builds.now in
    let n = c.inputs.number in
    let long = c.requires.sources.long in
    let low : n < length equals = omega (arith, c.inputs-test.true, long) in
    let before = c.inputs.found.rest.items in
    let count = c.inputs.builds in
    let after = c.match-equals-number.found.rest.items in
    let risen_to = c.match-equals-number.builds in
    let rest : IsRest grammar inputs equals all first (n + 1) after risen_to = elim c.match-equals-number.branch [
      | in-Some+in_ok-table-in-Some w ↦
          let same : after ≡ before = search rules in
          let one : risen_to ≡ risen count 1 = search rules in
          subst (λ ts. IsRest grammar inputs equals all first (n + 1) ts risen_to) (sym same) (rest_same grammar inputs equals n all first before count c.inputs.invariant.rest low w.in-Some.earlier w.in-Some.is risen_to one)
      | in-None+in-Some-next w ↦
          let next : before ≡ c.match-equals-number.table ∷ after = search rules in
          let same : count ≡ risen_to = search rules in
          subst (IsRest grammar inputs equals all first (n + 1) after) same (rest_less grammar inputs equals n all first before count c.inputs.invariant.rest low w.in-None.is c.match-equals-number.table after next)
    ] in
    let most = rest_most grammar inputs equals (n + 1) all first after risen_to rest (omega (arith, low)) in
    (most.0, omega (arith, most.1, long))

pub inputs-preserved : goal.inputs-preserved
inputs-preserved g c =
    let grammar = c.args.order.now.grammar.now in
    let inputs = c.args.order.now.inputs.now in
    let equals = c.args.equals.now in
    let all = length c.args.found.items in
    let first = c.args.builds.now in
    let n = c.inputs.number in
    let long = c.requires.sources.long in
    let low : n < length equals = omega (arith, c.inputs-test.true, long) in
    let before = c.inputs.found.rest.items in
    let count = c.inputs.builds in
    let after = c.match-equals-number.found.rest.items in
    let risen_to = c.match-equals-number.builds in
    let rest : IsRest grammar inputs equals all first (n + 1) after risen_to = elim c.match-equals-number.branch [
      | in-Some+in_ok-table-in-Some w ↦
          let same : after ≡ before = search rules in
          let one : risen_to ≡ risen count 1 = search rules in
          subst (λ ts. IsRest grammar inputs equals all first (n + 1) ts risen_to) (sym same) (rest_same grammar inputs equals n all first before count c.inputs.invariant.rest low w.in-Some.earlier w.in-Some.is risen_to one)
      | in-None+in-Some-next w ↦
          let next : before ≡ c.match-equals-number.table ∷ after = search rules in
          let same : count ≡ risen_to = search rules in
          subst (IsRest grammar inputs equals all first (n + 1) after) same (rest_less grammar inputs equals n all first before count c.inputs.invariant.rest low w.in-None.is c.match-equals-number.table after next)
    ] in
    let table = c.match-equals-number.table in
    let tables = c.inputs.tables.items in
    let done = c.inputs.invariant.tables in
    let of : IsTableAt grammar inputs n table = elim c.match-equals-number.branch [
      | in-Some+in_ok-table-in-Some w ↦
          let source = subst (IsSource inputs n) w.in-Some.is (c.requires.sources.each n _ (slice_get-get_or equals n None low)) in
          let many = as_many grammar inputs equals n c.inputs-test.true tables done in
          let within : w.in-Some.earlier < length tables = omega (arith, many, source.0) in
          let read : get_or tables w.in-Some.earlier table ≡ table = search rules in
          equal_one grammar inputs equals n c.inputs-test.true tables done w.in-Some.earlier table source (slice_get-get_or tables w.in-Some.earlier table within ∙ ap (λ t. Some t) read)
      | in-None+in-Some-next w ↦
          let next : before ≡ table ∷ after = search rules in
          (next_found grammar inputs equals n low before c.inputs.invariant.rest.tables w.in-None.is table after next).0
    ] in
    let pushed : c.push.new.self.items ≡ tables ++ table ∷ [] = c.in_ok-push.ensures.items in
    record { tables = one_more grammar inputs equals n c.inputs-test.true tables done c.push.new.self.items table of pushed; rest = rest }
