use Rattle.std.proofs.Common.{slice_set, ap, ◌∙◌, arith}
use Rattle.query_draw.proofs.ColumnLemmas.{shown-within, shown-put}
use Rattle.query_draw.proofs.column_list.Columns.put.Goals as goal

pub index_mut-requires : goal.index_mut-requires
index_mut-requires c =
    let within = shown-within c.self.inside.filled c.self.inside.stored.items c.args.self.now c.args.t c.self.view_is c.requires in
    omega (arith, within, c.self.inside.stored.ok.0)

pub overflow_shl-self : goal.overflow_shl-self
overflow_shl-self c =
    let within = shown-within c.self.inside.filled c.self.inside.stored.items c.args.self.now c.args.t c.self.view_is c.requires in
    omega (arith, within, c.self.invariant)

pub returns : goal.returns
returns c =
    let cs = c.self.inside.stored.items in
    let within = shown-within c.self.inside.filled cs c.args.self.now c.args.t c.self.view_is c.requires in
    shown-put c.self.inside.filled cs c.args.t c.args.column within c.self.invariant ∙ ap (λ xs. slice_set xs c.args.t c.args.column) c.self.view_is
