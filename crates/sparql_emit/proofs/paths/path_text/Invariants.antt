use Rattle.std.proofs.Common.{◌++◌}
use Rattle.query_terms.specs.Trees.{trees_of, tree_at}
use Rattle.sparql_emit.specs.PathText.{path_text_of}
use Rattle.sparql_emit.specs.Laws.{has_names}
use Rattle.sparql_emit.specs.Todo.{todo_weight}
use Rattle.sparql_emit.proofs.TodoLemmas.{Writing}
use Rattle.sparql_emit.proofs.paths.path_text.Given as goal

abbrev pub invariant-loop-next : goal.invariant-loop-next
invariant-loop-next l =
    Writing l.labels l.terms (l.fn.out.items ++ path_text_of l.labels (tree_at l.terms l.fn.id)) (has_names l.labels (tree_at l.terms l.fn.id)) l.out.items l.todo.items

abbrev pub decreases-loop-next : goal.decreases-loop-next
decreases-loop-next l = todo_weight (trees_of l.terms) l.todo.items
