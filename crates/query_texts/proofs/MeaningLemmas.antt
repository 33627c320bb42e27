-- The texts of a query mean the query.
use Rattle.std.proofs.Common.{◌≡◌, ℕ, ◌*◌, ◌^◌, true, ◌&&◌, nat_lt, List, length, refl, sym, ap, subst, ◌∙◌, arith}
use Rattle.std.specs.List.{list_all}
use Rattle.std.proofs.lemmas.Bool.{and_parts}
use Rattle.std.proofs.lemmas.List.{length-map}
use Rattle.gm_files.specs.declared.texts.QueryFile.TheVariants.{Sparql, Sql}
use Rattle.query_terms.specs.declared.terms.Term.{Term}
use Rattle.query_terms.specs.declared.terms.Term.TheVariants.{Step, Seq, Alt, Star, Opt}
use Rattle.query_terms.specs.Values.{QueryValue, conjuncts_of, is_rule, have_heads, arity_of}
use Rattle.query_terms.specs.Laws.{tree_of_conjunct}
use Rattle.query_terms.specs.Trees.{tree_at}
use Rattle.query_terms.specs.Numbering.{numbering}
use Rattle.query_terms.proofs.SpanLemmas.{list_all_more}
use Rattle.query_terms.proofs.TreeLemmas.{are_numbered}
use Rattle.sparql_emit.specs.Laws.{IsPrintable, has_label, conjunct_has_names}
use Rattle.sparql_emit.specs.RowLaws.{has_few_variables}
use Rattle.sparql_emit.specs.Printed.{printed_of}
use Rattle.sparql_emit.specs.QueryText.{sparql_text_of}
use Rattle.sparql_emit.proofs.ReadingLemmas.{text_has_reading}
use Rattle.sparql_emit.proofs.RowLemmas.{text_keeps_rows}
use Rattle.sql_emit.specs.Laws as sql
use Rattle.sql_emit.specs.Reading as sql_reading
use Rattle.sql_emit.specs.Text.{query_links, sql_text_of}
use Rattle.sql_emit.proofs.ReadingLemmas as sql_lemmas
use Rattle.sql_emit.proofs.RuleLemmas.{rows_are_links}
use Rattle.sql_emit.proofs.LinkLemmas.{links_are_queries}
use Rattle.workload_text.specs.Values.{HeadValue, IsHead, IsQuery}
use Rattle.query_texts.specs.Texts.{MeansInSparql, MeansInSql, TextsMeanTheirQuery}
use Rattle.query_texts.proofs.RuleLemmas.{both, below, from-below, conjuncts-tested, conjuncts-few, labels-long, rules-are, conjuncts-are}
use Rattle.query_texts.proofs.TermLemmas.{is_short, AreFew, terms-are_few}
use Rattle.query_texts.proofs.NameLemmas.{names-different, labels-known, conjunct-named}
use Rattle.query_texts.proofs.LinkLemmas.{are-linked, links-are_few}

module _ (h : HeadValue) (q : QueryValue) (head : IsHead h) (is : IsQuery h q) where
  -- the labels of the query are those of the edges
  pub known : list_all (λ l. nat_lt l (length h.labels)) q.labels ≡ true
  known = subst (λ labels. list_all (λ l. nat_lt l (length h.labels)) labels ≡ true) (sym is.labels) (labels-known h head)

  -- its conjuncts are short
  short : list_all (is_short (length q.labels)) (conjuncts_of q.rules) ≡ true
  short =
      conjuncts-tested h.schema.edges (is_short (length q.labels)) (λ c rules. subst (λ n. is_short n c ≡ true) (sym (labels-long h q is)) rules.short) q.rules is.each

  -- so its terms are few, and have labels with a name
  pub terms-few : AreFew q.labels (length h.labels) known (521 * length (conjuncts_of q.rules)) (numbering q.labels q.rules).terms
  terms-few = terms-are_few q.labels (length h.labels) known (conjuncts_of q.rules) short

  -- ---- in SPARQL

  pub printable : IsPrintable h.labels q
  printable = record {
    rules_are = rules-are h q is;
    labels_have_names =
        list_all_more (is_short (length q.labels)) (conjunct_has_names h.labels q.labels) (conjuncts_of q.rules)
        (λ c test. conjunct-named h.labels head.labels q.labels known c test) short;
  }

  few-variables : list_all has_few_variables (conjuncts_of q.rules) ≡ true
  few-variables =
      conjuncts-tested h.schema.edges has_few_variables
      (λ c rules. both (nat_lt c.src 256) (nat_lt c.trg 256) (below c.src 256 (omega (arith, rules.src))) (below c.trg 256 (omega (arith, rules.trg)))) q.rules is.each

  means-in_sparql : MeansInSparql h.labels q (sparql_text_of h.labels q)
  means-in_sparql = record {
    reading = printed_of h.labels q;
    is_read = text_has_reading h.labels q printable;
    rows = text_keeps_rows h.labels q printable (names-different h.labels head.labels.differ) few-variables;
  }

  -- ---- in SQL

  abbrev terms : List Term
  terms = (numbering q.labels q.rules).terms

  abbrev numbers : List ℕ
  numbers = (numbering q.labels q.rules).numbers

  label-fits : (term : Term) → has_label (length h.labels) term ≡ true → sql.label_fits term ≡ true
  label-fits (Step label back) test = below label (2 ^ 32) (omega (arith, from-below label (length h.labels) test, head.labels.few))
  label-fits (Seq first second) test = refl
  label-fits (Alt left right) test = refl
  label-fits (Star child) test = refl
  label-fits (Opt child) test = refl

  sql-printable : sql.ArePrintable terms (query_links q)
  sql-printable =
      let cs = conjuncts_of q.rules in
      let are = rules-are h q is in
      let each = (and_parts (nat_lt 0 (length q.rules)) (list_all (is_rule (length q.labels)) q.rules)
      (and_parts (nat_lt 0 (length q.rules) && list_all (is_rule (length q.labels)) q.rules) (have_heads (arity_of q.rules) q.rules) are).0).1 in
      let numbered = are_numbered q.labels cs (conjuncts-are (length q.labels) q.rules each) in
      let long : length numbers ≡ length cs =
      sym (length-map numbers (tree_at terms)) ∙ ap length numbered.are ∙ length-map cs (tree_of_conjunct q.labels) in
      let few = conjuncts-few h.schema.edges q.rules is.each in
      record {
        store = numbered.store;
        few_terms = omega (arith, terms-few.few, few, is.few);
        labels_fit = list_all_more (has_label (length h.labels)) sql.label_fits terms label-fits terms-few.labelled;
        rules_are = are-linked (length terms) (length q.labels) q.rules numbers are (omega (arith, long)) numbered.inside;
        few_links = links-are_few h.schema.edges q.rules numbers is.each;
      }

  means-in_sql : MeansInSql q (sql_text_of q)
  means-in_sql =
      let read = sql_lemmas.text_has_reading terms (query_links q) sql-printable in
      record {
        reading = sql_reading.printed_of terms (query_links q);
        is_read = read.reading;
        tables = read.count;
        rows = λ graph row.
            let links = rows_are_links terms (query_links q) sql-printable graph row in
            let query = links_are_queries q (rules-are h q is) graph row in
            (λ r. query.0 (links.0 r), λ r. links.1 (query.1 r));
      }

pub texts_mean_their_query : TextsMeanTheirQuery
texts_mean_their_query h q head is Sparql = means-in_sparql h q head is
texts_mean_their_query h q head is Sql = means-in_sql h q head is
