use Rattle.std.proofs.Common.{is_some, ap, sym, ◌∙◌, arith}
use Rattle.sql_read.specs.Scope.{found_in}
use Rattle.sql_read.proofs.ScopeLemmas.{table_there, table_new, table_added, column_below}
use Rattle.sql_read.proofs.scope.add_table.Goals as goal

pub returns-then-is_some-clause-is : goal.returns-then-is_some-clause-is
returns-then-is_some-clause-is c headers knows =
    table_there c.args.scope.now headers c.args.name _ knows (ap is_some (sym c.in_ok-insert.ensures.old) ∙ sym c.if-is_some.ensures)

pub add_columns-requires : goal.add_columns-requires
add_columns-requires c name =
    c.requires.knows.columns c.args.number name ∙ column_below c.requires.headers c.args.number name.now (omega (arith, c.requires.many))

pub returns-clause-is : goal.returns-clause-is
returns-clause-is c headers knows =
    table_new c.args.scope.now headers c.args.name _ _ knows (ap is_some (sym c.in_ok-insert.ensures.old) ∙ sym c.if-is_some.ensures)
    c.in_ok-differ.ensures.differ

pub returns-clause-added : goal.returns-clause-added
returns-clause-added c here headers knows many =
    table_added c.args.scope.now _ c.args.number c.args.name c.args.names.now headers knows many
    (λ q. ap (λ m. found_in m q) c.in_ok-differ.ensures.tables ∙ c.in_ok-insert.ensures.updates.0 q) (c.in_ok-differ.ensures.added here)
