use Rattle.std.proofs.Common.{◌∙◌, [], length, ap, sym, refl, arith}
use Rattle.graph_text.specs.EdgesText.{edges_text}
use Rattle.edge_match.proofs.EdgeLemmas.{AreEdgesOf-some}
use Rattle.summary_text.specs.Summary.{with_constraint}
use Rattle.summary_text.proofs.CountLemmas.{constraint-counted}
use Rattle.gm_top.proofs.GraphLemmas.{OnErr-all}
use Rattle.gm_top.proofs.PutLemmas.{PutsPart-none}
use Rattle.gm_top.proofs.graph_file.put_edges.Goals as goal

pub returns-in_err-edges-clause-part : goal.returns-in_err-edges-clause-part
returns-in_err-edges-clause-part g c =
    let own = AreEdgesOf-some c.args.config.now c.args.seed c.requires.config c.args.c c.requires.known c.requires.within in
    OnErr-all c.from_residual.result _ (edges_text own.0, (own.0, own.1, (own.2, refl)), PutsPart-none _ _, omega arith)

pub returns-in_err-add_constraint-clause-part : goal.returns-in_err-add_constraint-clause-part
returns-in_err-add_constraint-clause-part g c =
    let own = AreEdgesOf-some c.args.config.now c.args.seed c.requires.config c.args.c c.requires.known c.requires.within in
    OnErr-all c.from_residual-in_err-add_constraint.result _ (edges_text own.0, (own.0, own.1, (own.2, refl)), PutsPart-none _ _, omega arith)

pub returns-clause-counted : goal.returns-clause-counted
returns-clause-counted g c =
    c.in_ok-add_constraint.ensures.ok
    ∙ ap (λ n. with_constraint n c.args.counted.now) c.len.ensures
    ∙ ap (with_constraint _) c.requires.counted
    ∙ sym (constraint-counted c.args.config.now c.args.seed c.args.c c.in_ok-edges.edges [] c.in_ok-edges.ensures.edges)
