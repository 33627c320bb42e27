use Rattle.std.proofs.Common.{◌≡◌, sym, subst, length, [], codes}
use Rattle.sql_emit.specs.Text.{links_text_of}
use Rattle.sql_emit.specs.Laws.{ArePrintable, HasReading}
use Rattle.sql_emit.proofs.ReadingLemmas.{text_has_reading}
use Rattle.sql_emit.proofs.WriteLemmas.{rules_have_heads, five_written}
use Rattle.sql_emit.proofs.MeaningLemmas.{text_has_tables, text_has_rows}
use Rattle.sql_emit.proofs.text.links_text.Goals as goal

pub put_rules-requires : goal.put_rules-requires
put_rules-requires c = record { heads = rules_have_heads (length c.args.terms.now) c.args.rules.now c.requires }

printable : (c : goal.In_ok-extend_from_slice-3) → ArePrintable c.args.terms.now c.args.rules.now
printable c = record {
  store = c.in_ok-put_tables.ensures.store;
  few_terms = c.in_ok-put_tables.ensures.few;
  labels_fit = c.in_ok-put_tables.ensures.labels;
  rules_are = c.requires;
  few_links = c.in_ok-put_rules.ensures.few;
}

written : (c : goal.In_ok-extend_from_slice-3) → c.extend_from_slice-3.new.self.items ≡ links_text_of c.args.terms.now c.args.rules.now
written c =
    five_written [] _ _ _ _ _ (codes "WITH RECURSIVE\n") _ _ _ _ (rw c.in_ok-out.ensures.items at c.in_ok-extend_from_slice.ensures.items)
    c.in_ok-put_tables.ensures.text c.in_ok-extend_from_slice-2.ensures.items c.in_ok-put_rules.ensures.text c.in_ok-extend_from_slice-3.ensures.items

pub returns-clause-reading : goal.returns-clause-reading
returns-clause-reading c =
    subst (λ text. HasReading text c.args.terms.now c.args.rules.now) (sym (written c)) (text_has_reading c.args.terms.now c.args.rules.now (printable c))

pub returns-clause-tables : goal.returns-clause-tables
returns-clause-tables c = text_has_tables _ c.args.terms.now c.args.rules.now (printable c) (returns-clause-reading c)

pub returns-clause-rows : goal.returns-clause-rows
returns-clause-rows c = text_has_rows _ c.args.terms.now c.args.rules.now (printable c) (returns-clause-reading c)
