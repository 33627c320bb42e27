use Rattle.std.proofs.Common.{◌≤◌, ℕ, length, decimal, ap, arith}
use Rattle.std.proofs.lemmas.Fmt.{length-decimal-le}
use Rattle.std.proofs.lemmas.List.{length-append}
use Rattle.graph_text.proofs.edge_line.line_of.Goals as goal

-- a node's number has at most six digits, and a label's two
node_digits : (n : ℕ) → n ≤ 999999 → length (decimal n) ≤ 6
node_digits n small = length-decimal-le 6 n (omega arith) (omega arith) (omega arith)

label_digits : (n : ℕ) → n ≤ 63 → length (decimal n) ≤ 2
label_digits n small = length-decimal-le 2 n (omega arith) (omega arith) (omega arith)

pub invariant_of-result : goal.invariant_of-result
invariant_of-result c =
    let line = c.end_with.new.self in
    let with_trg = c.put.new.self in
    let with_label = c.put-2.new.self in
    let src = node_digits c.args.t.src c.requires.src in
    let label = label_digits c.args.t.label c.requires.label in
    let trg = node_digits c.args.t.trg c.requires.trg in
    rw (
      c.put_number-3.ensures.put,
      length-append (decimal c.args.t.src) with_label,
      c.put-2.ensures,
      c.put_number-2.ensures.put,
      length-append (decimal c.args.t.label) with_trg,
      c.put.ensures,
      c.put_number.ensures.put,
      length-append (decimal c.args.t.trg) line,
      c.end_with.ensures,
    ) (omega (arith, src, label, trg))
