use Rattle.std.proofs.Common.{length, ap, subst, sym, ◌∙◌, ◌++◌, codes, List, ℕ}
use Rattle.query_terms.specs.View.{query_value}
use Rattle.sparql_read.specs.Text.{IsSparql}
use Rattle.sparql_emit.specs.QueryText.{heads_line}
use Rattle.sparql_emit.specs.Printed.{printed_of}
use Rattle.sparql_emit.specs.Laws.{IsPrintable}
use Rattle.sparql_emit.proofs.ReadingLemmas.{text_has_reading}
use Rattle.sparql_emit.proofs.QueryLemmas.{three_written, rules_within, lines_same, labels_named, variables_few}
use Rattle.sparql_emit.proofs.FitLemmas.{conjuncts_fit}
use Rattle.sparql_emit.proofs.RowLemmas.{text_keeps_rows}
use Rattle.sparql_emit.proofs.queries.sparql_text.Goals as goal

pub write_rules-requires-clause-conjuncts : goal.write_rules-requires-clause-conjuncts
write_rules-requires-clause-conjuncts c = conjuncts_fit (length c.args.labels.now) c.args.query.now c.len.ensures.store c.requires.labels

pub write_rules-requires-clause-rules : goal.write_rules-requires-clause-rules
write_rules-requires-clause-rules c =
    let q = c.args.query.now in
    rules_within (length q.labels.now) q.symbols.now q.words.now q.conjuncts.now q.rules.now q.rules_lie q.heads_are q.rules_are

pub returns-clause-text : goal.returns-clause-text
returns-clause-text c =
    three_written _ _ _ _ _ _ _
    (c.in_ok-extend_from_slice.ensures.items ∙ ap (λ (bs : List ℕ). bs ++ codes "PREFIX : <http://gmark.example/>\n") c.in_ok-out.ensures.items)
    (c.in_ok-write_heads.ensures ∙ ap (λ n. c.extend_from_slice.new.self.items ++ heads_line n) c.arity.ensures)
    (c.in_ok-write_rules.ensures.text ∙ ap (λ (bs : List ℕ). c.write_heads.new.out.items ++ bs) (lines_same c.args.labels.now c.args.query.now))
    c.in_ok-extend_from_slice-2.ensures.items

-- the query can be printed
printable : (c : goal.In_ok-extend_from_slice-2) → IsPrintable c.args.labels.now (query_value c.args.query.now)
printable c = record {
  rules_are = c.args.query.now.rules_are;
  labels_have_names = labels_named c.args.labels.now c.args.query.now c.in_ok-write_rules.ensures.plain;
}

pub returns-clause-reading : goal.returns-clause-reading
returns-clause-reading c =
    let value = query_value c.args.query.now in
    subst (λ bytes. IsSparql bytes (printed_of c.args.labels.now value)) (sym (returns-clause-text c)) (text_has_reading c.args.labels.now value (printable c))

pub returns-clause-rows : goal.returns-clause-rows
returns-clause-rows c =
    let few = variables_few c.args.labels.now c.args.query.now c.in_ok-write_rules.ensures.plain in
    text_keeps_rows c.args.labels.now (query_value c.args.query.now) (printable c) c.requires.names few
