use Rattle.std.proofs.Common.{refl}
use Rattle.sql_emit.specs.Laws.{label_fits}
use Rattle.sql_emit.proofs.WriteLemmas.{lines_start, lines_next, all_more}
use Rattle.sql_emit.proofs.tables.put_tables.Goals as goal

pub loop-n-init : goal.loop-n-init
loop-n-init c = record { text = lines_start c.args.terms.now _ _ c.in_ok-extend_from_slice.ensures.items; labels = refl }

pub loop-n-preserved : goal.loop-n-preserved
loop-n-preserved c =
    let at = rw c.id-id.ensures at c.get.ensures in
    let written = rw c.id-id.ensures at c.in_ok-put_line.ensures.text in
    record {
      text = lines_next c.args.terms.now c.loop-n.n c.get.result _ _ _ at c.loop-n.invariant.text written;
      labels = all_more label_fits c.args.terms.now c.loop-n.n c.get.result at c.loop-n.invariant.labels c.in_ok-put_line.ensures.label;
    }
