use Rattle.std.proofs.Common.{length, slice_index_or, sym, ap, subst, ◌∙◌, arith}
use Rattle.std.specs.List.{Contains}
use Rattle.std.proofs.lemmas.List.Elements.{Contains-get_or}
use Rattle.query_terms.specs.View.{query_value}
use Rattle.rpq_meaning.specs.Joins.{rows_of}
use Rattle.rpq_meaning.proofs.QueryLemmas.{inside_all, rows_say}
use Rattle.rpq_meaning.proofs.RowLemmas.{rules_fit, row_long}
use Rattle.rpq_meaning.proofs.queries.query_rows.Goals as goal

pub rows_of-requires-clause-terms : goal.rows_of-requires-clause-terms
rows_of-requires-clause-terms c k d within =
    let q = c.args.query.now in
    let inside = inside_all (length q.terms) q.conjuncts.now q.terms_lie _ (Contains-get_or q.conjuncts.now k d within) in
    omega (arith, inside, ap length c.as_slice-2.ensures.value, c.in_ok-tables.ensures.many)

pub rows_of-requires-clause-rules : goal.rows_of-requires-clause-rules
rows_of-requires-clause-rules c =
    let q = c.args.query.now in
    rw c.arity.ensures (rules_fit (length q.labels.now) q.symbols.now q.words.now q.conjuncts.now q.rules.now q.rules_lie q.heads_are q.rules_are)

pub returns-clause-rows : goal.returns-clause-rows
returns-clause-rows c row =
    let q = c.args.query.now in
    let tables = c.in_ok-tables.tables.items in
    let sorted = c.sorted.ensures.rows row in
    let same = c.in_ok-rows.ensures.values ∙ ap (λ ts. rows_of ts q.conjuncts.now q.rules.now) c.as_slice-2.ensures.value in
    let say = rows_say q.labels.now q.symbols.now q.words.now q.conjuncts.now q.rules.now q.terms q.rules_cover q.rules_are q.terms_are q.numbers_are
    c.args.graph.now tables (rw (← c.as_slice.ensures) c.in_ok-tables.ensures) (inside_all (length q.terms) q.conjuncts.now q.terms_lie) row in
    (λ has. say.0 (subst (λ rows. Contains rows row) same (sorted.0 has)), λ is. sorted.1 (subst (λ rows. Contains rows row) (sym same) (say.1 is)))

pub returns-clause-heads : goal.returns-clause-heads
returns-clause-heads c k d within =
    let q = c.args.query.now in
    row_long (length q.labels.now) q.labels.now c.args.graph.now (query_value q).rules q.rules_are _
    ((returns-clause-rows c (slice_index_or c.sorted.result k d)).0 (Contains-get_or c.sorted.result k d within))
