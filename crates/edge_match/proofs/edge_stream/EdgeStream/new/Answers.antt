use Rattle.std.proofs.Common.{ap, length, sum, sym, ◌∙◌}
use Rattle.edge_match.specs.declared.config_sides.Side.TheVariants.{Out, In}
use Rattle.edge_match.specs.ConfigSides.{side_first}
use Rattle.edge_match.specs.DrawnDegrees.{side_degrees}
use Rattle.edge_match.specs.Matching.{edges_between}
use Rattle.edge_match.specs.AllEdges.{AreEdgesOf}
use Rattle.edge_match.proofs.SideLemmas.{length-side_degrees}
use Rattle.edge_match.proofs.StubLemmas.{length-stub_nodes}
use Rattle.edge_match.proofs.MatchingLemmas.{IsMatching-from_nodes}
use Rattle.edge_match.proofs.RangeLemmas.{IsInRange-AreEdgesOf}
use Rattle.edge_match.proofs.edge_stream.EdgeStream.new.Goals as goal

pub stubs_at-outs-requires-clause-length : goal.stubs_at-outs-requires-clause-length
stubs_at-outs-requires-clause-length c = ap length c.in_ok-out_degrees.ensures.outs ∙ length-side_degrees c.args.config.now c.args.seed c.args.c Out

pub stubs_at-ins-requires-clause-length : goal.stubs_at-ins-requires-clause-length
stubs_at-ins-requires-clause-length c = ap length c.in_ok-out_degrees.ensures.ins ∙ length-side_degrees c.args.config.now c.args.seed c.args.c In

-- the nodes of the first stubs of both sides make the edges of the constraint
edges : (c : goal.After-drop-outs-2) → AreEdgesOf c.args.config.now c.args.seed c.args.c (edges_between c.from.result c.in_ok-sources.sources.items c.in_ok-targets.targets.items)
edges c =
    let config = c.args.config.now in
    let out_degrees = c.stubs_at-outs.ensures.degrees ∙ c.in_ok-out_degrees.ensures.outs in
    let in_degrees = c.stubs_at-ins.ensures.degrees ∙ c.in_ok-out_degrees.ensures.ins in
    let outs = rw (c.stubs_at-outs.ensures.first, out_degrees, c.stubs_at-outs.ensures.stream) at c.in_ok-sources.ensures in
    let ins = rw (c.stubs_at-ins.ensures.first, in_degrees, c.stubs_at-ins.ensures.stream) at c.in_ok-targets.ensures in
    let out_total = c.total_of.ensures ∙ ap sum (c.deref.ensures.value ∙ out_degrees) ∙ sym (length-stub_nodes (side_first config c.args.c Out) (side_degrees config c.args.seed c.args.c Out)) in
    let in_total = c.total_of-2.ensures ∙ ap sum (c.deref-2.ensures.value ∙ in_degrees) ∙ sym (length-stub_nodes (side_first config c.args.c In) (side_degrees config c.args.seed c.args.c In)) in
    IsMatching-from_nodes _ _ _ _ _ _ _ (c.from.ensures ∙ c.label_of.ensures.label) (rw (out_total, in_total) at c.min-wanted.ensures) outs ins

pub returns-clause-edges : goal.returns-clause-edges
returns-clause-edges c = edges c

pub returns-clause-in_range : goal.returns-clause-in_range
returns-clause-in_range c = IsInRange-AreEdgesOf c.args.config.now c.args.seed c.args.c _ c.label_of.ensures.config c.requires (edges c)
