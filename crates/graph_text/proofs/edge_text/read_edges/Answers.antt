use Rattle.std.proofs.Common.{◌≡◌, ◌++◌, ◌+◌, ap, subst, sym, ◌∙◌, map, length, Err, inl}
use Rattle.graph_text.specs.EdgesText.{IsFirstBadLine, IsReading}
use Rattle.graph_text.specs.declared.edge_text.GraphError.TheVariants.{BadLine}
use Rattle.graph_text.proofs.BadLineLemmas.{IsFirstBadLine-after, IsFirstBadLine-unique, no_bad_line}
use Rattle.graph_text.proofs.EdgesTextLemmas.{IsReading-from_lines, IsReading-unique, text_line}
use Rattle.graph_text.proofs.edge_text.read_edges.Goals as goal

-- the line that was just taken is the first bad one
bad_line : (c : goal.After-drop-triples) → IsFirstBadLine c.args.bytes.now (c.len.result + 1)
bad_line c =
    let count : length c.loop-line.triples.items ≡ c.len.result = sym (c.len.ensures ∙ c.loop-line.triples.ok.0) in
    subst (λ n. IsFirstBadLine c.args.bytes.now (n + 1)) count
    (IsFirstBadLine-after c.args.bytes.now c.loop-line.triples.items _ _ c.loop-line.invariant.within
    (c.loop-line.invariant.lines ∙ ap (λ lines. map text_line c.loop-line.triples.items ++ lines) c.in-Some.ensures.line)
    c.in_default-read_line.ensures)

pub returns-in_default-read_line-clause-every_graph : goal.returns-in_default-read_line-clause-every_graph
returns-in_default-read_line-clause-every_graph c triples reading = absurd (no_bad_line c.args.bytes.now triples _ reading (bad_line c))

pub returns-in_default-read_line-clause-bad_line : goal.returns-in_default-read_line-clause-bad_line
returns-in_default-read_line-clause-bad_line c n same =
    let is : c.len.result + 1 ≡ n = cc same in
    subst (IsFirstBadLine c.args.bytes.now) is (bad_line c)

pub returns-in_default-read_line-clause-every_bad_line : goal.returns-in_default-read_line-clause-every_bad_line
returns-in_default-read_line-clause-every_bad_line c n first =
    inl (ap (λ line. Err (BadLine line)) (IsFirstBadLine-unique c.args.bytes.now (c.len.result + 1) n (bad_line c) first))

-- the triples are what the text is read as
reading : (c : goal.After-new) → IsReading c.args.bytes.now c.new.result
reading c =
    rw c.new.ensures
    (IsReading-from_lines c.args.bytes.now c.loop-line.triples.items _ c.loop-line.invariant.within c.loop-line.invariant.lines c.in_default.ensures.line)

pub returns-clause-graph : goal.returns-clause-graph
returns-clause-graph = reading

pub returns-clause-every_graph : goal.returns-clause-every_graph
returns-clause-every_graph c triples other = IsReading-unique c.args.bytes.now c.new.result triples (reading c) other

pub returns-clause-every_bad_line : goal.returns-clause-every_bad_line
returns-clause-every_bad_line c n first = absurd (no_bad_line c.args.bytes.now c.new.result n (reading c) first)
