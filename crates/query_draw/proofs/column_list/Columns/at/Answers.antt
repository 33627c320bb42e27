use Rattle.std.proofs.Common.{true, false, ◌∙◌, sym, arith}
use Rattle.std.proofs.lemmas.List.{get_or_default}
use Rattle.query_draw.specs.Columns.{no_column}
use Rattle.query_draw.proofs.ColumnLemmas.{shown-within, shown-is}
use Rattle.query_draw.proofs.column_list.Columns.at.Goals as goal

pub overflow_cast-t : goal.overflow_cast-t
overflow_cast-t c =
    let within = shown-within c.self.inside.filled c.self.inside.stored.items c.args.self.now c.args.t c.self.view_is c.requires in
    omega (arith, within, c.self.invariant)

pub has-requires : goal.has-requires
has-requires c =
    let within = shown-within c.self.inside.filled c.self.inside.stored.items c.args.self.now c.args.t c.self.view_is c.requires in
    omega (arith, within, c.self.invariant)

pub index-requires : goal.index-requires
index-requires c =
    let within = shown-within c.self.inside.filled c.self.inside.stored.items c.args.self.now c.args.t c.self.view_is c.requires in
    omega (arith, within, c.self.inside.stored.ok.0)

pub returns-then-has : goal.returns-then-has
returns-then-has c =
    let cs = c.self.inside.stored.items in
    let within = shown-within c.self.inside.filled cs c.args.self.now c.args.t c.self.view_is c.requires in
    shown-is c.self.inside.filled cs c.args.self.now c.args.t c.index.result.now true c.self.view_is within (sym c.has.ensures ∙ c.if-has.true)
    (get_or_default cs c.args.t no_column c.index.result.now within ∙ sym c.index.ensures)

pub returns-else-has : goal.returns-else-has
returns-else-has c =
    let cs = c.self.inside.stored.items in
    let within = shown-within c.self.inside.filled cs c.args.self.now c.args.t c.self.view_is c.requires in
    shown-is c.self.inside.filled cs c.args.self.now c.args.t c.no_column.result false c.self.view_is within (sym c.has.ensures ∙ c.if-has.false) (sym c.no_column.ensures)
