use Rattle.std.proofs.Common.{sym, ap, ◌++◌, ◌∙◌, codes, decimal, List, ℕ}
use Rattle.std.proofs.lemmas.List.{append_assoc}
use Rattle.sparql_emit.proofs.LineLemmas.{variable_there, variable_elsewhere, marked_name}
use Rattle.sparql_emit.proofs.queries.write_variable.Goals as goal

pub returns-in_ok-write_head-in-Some : goal.returns-in_ok-write_head-in-Some
returns-in_ok-write_head-in-Some c =
    marked_name _ _ _ _ _ c.in_ok-extend_from_slice.ensures.items c.in_ok-write_head-in-Some.ensures
    (variable_there c.args.heads.now c.args.variable _ (sym c.in-Some.ensures))

pub returns-in_ok-write_decimal-in-None : goal.returns-in_ok-write_decimal-in-None
returns-in_ok-write_decimal-in-None c =
    let name = c.in_ok-write_decimal-in-None.ensures.ok
    ∙ (ap (λ (bs : List ℕ). bs ++ decimal c.args.variable) c.in_ok-push-in-None.ensures.items ∙ append_assoc _ (codes "x") (decimal c.args.variable)) in
    marked_name _ _ _ _ _ c.in_ok-extend_from_slice.ensures.items name (variable_elsewhere c.args.heads.now c.args.variable (sym c.in-None.ensures))
