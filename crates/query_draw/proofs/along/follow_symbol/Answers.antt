use Rattle.std.proofs.Common.{◌≡◌, ◌<◌, length, slice_index_or, sym, subst, arith}
use Rattle.schema_graph.specs.Edge.{label_of}
use Rattle.query_draw.specs.Columns.{no_entry, AreColumns}
use Rattle.query_draw.proofs.AlongLemmas.{labelled-edge, Follows, Follows-none, Follows-more, Follows-all}
use Rattle.query_draw.proofs.along.follow_symbol.Goals as goal

pub loop-edge-init : goal.loop-edge-init
loop-edge-init c =
    let g = c.args.schema.now in
    let cleared = subst (λ n. AreColumns n c.clear.new.self no_entry) c.requires.product c.clear.ensures in
    record {
      whole = cleared.whole;
      follows = Follows-none g c.args.symbol.back c.args.edges.now c.args.matrix.now c.clear.new.self cleared;
    }

pub follow_edge-requires-clause-next : goal.follow_edge-requires-clause-next
follow_edge-requires-clause-next c =
    let g = c.args.schema.now in
    subst (λ es. slice_index_or es c.loop-edge.edge-index 0 < length g.edges) (sym c.requires.edges)
    (labelled-edge g.edges (label_of g.edges c.args.symbol) c.loop-edge.edge-index 0 (subst (λ es. c.loop-edge.edge-index < length es) c.requires.edges c.loop-edge-test.true))

pub loop-edge-preserved : goal.loop-edge-preserved
loop-edge-preserved c =
    let g = c.args.schema.now in
    let known =
    subst (λ es. slice_index_or es c.loop-edge.edge-index 0 < length g.edges) (sym c.requires.edges)
    (labelled-edge g.edges (label_of g.edges c.args.symbol) c.loop-edge.edge-index 0 (subst (λ es. c.loop-edge.edge-index < length es) c.requires.edges c.loop-edge-test.true)) in
    record {
      whole = c.follow_edge.ensures.whole;
      follows =
          Follows-more g c.args.growing c.args.symbol.back c.args.edges.now c.args.matrix.now c.loop-edge.product c.follow_edge.new.product c.loop-edge.edge-index
          c.requires.schema c.ranges.growing.fits c.requires.growing known c.loop-edge.invariant.follows c.follow_edge.ensures.joins;
    }

pub returns-clause-product : goal.returns-clause-product
returns-clause-product c =
    let g = c.args.schema.now in
    let edges = c.args.edges.now in
    let all : c.loop-edge.edge-index ≡ length edges = omega (arith, c.loop-edge-test.false, c.loop-edge.auto.edge-index-end) in
    Follows-all g c.requires.schema c.args.symbol edges c.args.matrix.now c.loop-edge.product c.requires.edges
    (subst (Follows g c.args.symbol.back edges c.args.matrix.now c.loop-edge.product) all c.loop-edge.invariant.follows)
