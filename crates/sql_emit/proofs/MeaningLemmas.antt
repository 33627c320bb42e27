-- What each reading of a text has: its one reading is the one that is known.
use Rattle.std.proofs.Common.{◌≡◌, ◌↔◌, ℕ, ◌+◌, true, List, length, sym, ap, subst, ◌∙◌, Result, Ok, Err}
use Rattle.std.specs.Prelude.{IfOk}
use Rattle.path_pairs.specs.Pairs.{Pairs}
use Rattle.token_text.proofs.TokenLemmas.{tokens_are_one}
use Rattle.query_terms.specs.declared.terms.Term.{Term}
use Rattle.query_terms.specs.Trees.{tree_at}
use Rattle.query_terms.specs.Values.{QueryValue, are_rules}
use Rattle.query_terms.specs.Numbering.{numbering}
use Rattle.rpq_meaning.specs.QueryRows.{IsQueryRow}
use Rattle.sql_read.specs.Tokens.{first}
use Rattle.sql_read.specs.Grammar.{Reading, said}
use Rattle.sql_read.specs.Text.{IsSql}
use Rattle.sql_read.proofs.GrammarLemmas.{readings_are_one}
use Rattle.sql_mean.specs.Rows.{TableRows, IsSqlRow}
use Rattle.sql_emit.specs.declared.links.LinkRule.{LinkRule}
use Rattle.sql_emit.specs.Reading.{printed_of}
use Rattle.sql_emit.specs.Text.{query_links}
use Rattle.sql_emit.specs.Laws.{ArePrintable, HasReading}
use Rattle.sql_emit.specs.Rows.{IsPairRow, IsLinksRow, HasTables, HasRows}
use Rattle.sql_emit.proofs.TableLemmas.{tables_are_terms}
use Rattle.sql_emit.proofs.RuleLemmas.{rows_are_links}
use Rattle.sql_emit.proofs.LinkLemmas.{links_are_queries}

one_reading : (bytes : List ℕ) (x y : Reading) → IsSql bytes x → IsSql bytes y → x ≡ y
one_reading bytes x y a b =
    readings_are_one x y a.full b.full (sym a.says ∙ ap said (tokens_are_one first bytes a.tokens b.tokens a.cut b.cut) ∙ b.says)

pub text_has_tables : (text : List ℕ) (terms : List Term) (rules : List LinkRule) → ArePrintable terms rules → HasReading text terms rules → HasTables text terms
text_has_tables text terms rules printable has reading is graph k below row =
    subst (λ r. TableRows r graph (k + 1) row ↔ IsPairRow (Pairs (tree_at terms k) graph) row) (one_reading text (printed_of terms rules) reading has.reading is)
    (tables_are_terms terms rules printable graph k below row)

pub text_has_rows : (text : List ℕ) (terms : List Term) (rules : List LinkRule) → ArePrintable terms rules → HasReading text terms rules
    → HasRows text (λ graph row. IsLinksRow graph terms rules row)
text_has_rows text terms rules printable has reading is graph row =
    subst (λ r. IsSqlRow r graph row ↔ IsLinksRow graph terms rules row) (one_reading text (printed_of terms rules) reading has.reading is)
    (rows_are_links terms rules printable graph row)

-- the rows of a query's rules as links are the query's
pub query_has_rows : (text : List ℕ) (q : QueryValue) → are_rules (length q.labels) q.rules ≡ true
    → HasRows text (λ graph row. IsLinksRow graph (numbering q.labels q.rules).terms (query_links q) row) → HasRows text (IsQueryRow q)
query_has_rows text q are has reading is graph row =
    let rows = has reading is graph row in
    let query = links_are_queries q are graph row in
    (λ r. query.0 (rows.0 r), λ r. rows.1 (query.1 r))

pub if_ok : {T E : Type 0} → (r : Result T E) (P Q : T → Type 0) → ((x : T) → P x → Q x) → IfOk r P → IfOk r Q
if_ok (Ok x) P Q f p = f x p
if_ok (Err e) P Q f p = p
