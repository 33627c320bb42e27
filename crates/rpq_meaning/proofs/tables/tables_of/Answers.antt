use Rattle.std.proofs.Common.{sym, ap, subst, ◌∙◌}
use Rattle.std.proofs.lemmas.Result.{IfOk-weaker}
use Rattle.rpq_meaning.specs.Tables.{tables_of, AreTables}
use Rattle.rpq_meaning.proofs.TableLemmas.{tables_are}
use Rattle.rpq_meaning.proofs.tables.tables_of.Goals as goal

pub returns : goal.returns
returns c =
    let graph = c.args.graph.now in
    let terms = c.args.terms.now in
    IfOk-weaker c.put_tables.result _ _
    (λ tables is. subst (AreTables graph terms) (sym (is ∙ ap (λ nodes. tables_of graph nodes terms) c.deref.ensures.value))
    (tables_are graph c.in_ok-nodes.nodes.items c.in_ok-nodes.ensures terms c.put_tables.ensures.store))
    c.put_tables.ensures.tables
