use Rattle.std.proofs.Common.{Some, sym, ap, ◌∙◌}
use Rattle.workload_text.specs.Forms.{sort_of}
use Rattle.workload_text.specs.Rules.{TextLine}
use Rattle.workload_text.specs.State.{sofar_of}
use Rattle.workload_text.specs.View.{line_view}
use Rattle.workload_text.proofs.ReaderLemmas.{stands, closes, said_is, taken_result}
use Rattle.workload_text.proofs.reader.take.Goals as goal

pub accept-requires-clause-stands : goal.accept-requires-clause-stands
accept-requires-clause-stands c =
    let sort = ap sort_of (sym c.first_word.ensures) ∙ sym c.sort_of.ensures ∙ c.in-Some-sort_of.is in
    rw c.in-Some-read_line.ensures.form.sort
    (stands (sofar_of c.args.reading.now) (c.args.line.now.bytes.now, c.args.line.now.ended) (sym c.early.ensures ∙ c.in_default.is) c.in-Some-sort_of.sort sort)

pub accept-requires-clause-closes : goal.accept-requires-clause-closes
accept-requires-clause-closes c =
    let sort = ap sort_of (sym c.first_word.ensures) ∙ sym c.sort_of.ensures ∙ c.in-Some-sort_of.is in
    rw c.in-Some-read_line.ensures.form.sort
    (closes (sofar_of c.args.reading.now) (c.args.line.now.bytes.now, c.args.line.now.ended) (sym c.early.ensures ∙ c.in_default.is) c.in-Some-sort_of.sort sort)

pub returns : goal.returns
returns c =
    let s = sofar_of c.args.reading.now in
    let line : TextLine = (c.args.line.now.bytes.now, c.args.line.now.ended) in
    let sort = ap sort_of (sym c.first_word.ensures) ∙ sym c.sort_of.ensures ∙ c.in-Some-sort_of.is in
    let view = line_view c.in-Some-read_line.written in
    let says = said_is s line c.in-Some-sort_of.sort (Some view) sort c.in-Some-read_line.ensures.line in
    taken_result s line (sym c.early.ensures ∙ c.in_default.is) c.accept.result view c.accept.new.reading says c.accept.ensures
