-- The text of terms and rules is spelled of the pieces of what it says.
use Rattle.std.proofs.Common.{◌≡◌, ℕ, true, false, List, [], ◌∷◌, ◌++◌, codes, refl, sym, ap, ◌∙◌, map, arith}
use Rattle.std.specs.List.{join_by, flat_map}
use Rattle.std.proofs.lemmas.List.{append_assoc, map-id}
use Rattle.std.proofs.lemmas.Fmt.{decimal_digit}
use Rattle.token_text.specs.Spelled.{Gap, Lexeme}
use Rattle.query_terms.specs.declared.terms.Term.{Term}
use Rattle.query_terms.specs.declared.terms.Term.TheVariants.{Step, Seq, Alt, Star, Opt}
use Rattle.sql_emit.specs.Numbered.{with_numbers}
use Rattle.sql_read.specs.declared.tokens.Mark.TheVariants.{And, Close, Equals}
use Rattle.sql_read.specs.Tokens.{Fixed}
use Rattle.sql_read.specs.Grammar.{Column, Value}
use Rattle.sql_emit.specs.declared.links.LinkRule.{LinkRule}
use Rattle.sql_emit.specs.Reading.{table_name, body_of, term_table, rule_query, printed_of}
use Rattle.sql_emit.specs.Text.{nodes_line, body_text, term_line, tables_text, col_text, source_text, right_text, equation_text, columns_text, where_text, query_text, rule_text, links_text_of}
use Rattle.sql_emit.proofs.Spelling.{Pieces, text}
use Rattle.sql_emit.proofs.Pieces.{spaced, comma_space, comma_line, union_line, repeated_pieces, listed_pieces, col_pieces, source_pieces, right_pieces, equation_pieces, columns_pieces}
use Rattle.sql_emit.proofs.Pieces.{where_pieces, from_pieces, query_pieces, body_pieces, table_pieces, last_pieces, pieces_of}

abbrev Spells : {A : Type 0} → (A → List ℕ) → (A → Pieces → Pieces) → Type 0
Spells {A = A} write pieces = (x : A) (rest : Pieces) → write x ++ text rest ≡ text (pieces x rest)

-- parts in a row, with what follows them behind the last
three : (a b c r : List ℕ) → (a ++ (b ++ c)) ++ r ≡ a ++ (b ++ (c ++ r))
three a b c r = append_assoc a (b ++ c) r ∙ ap (λ (bs : List ℕ). a ++ bs) (append_assoc b c r)

four : (a b c d r : List ℕ) → (a ++ (b ++ (c ++ d))) ++ r ≡ a ++ (b ++ (c ++ (d ++ r)))
four a b c d r = append_assoc a (b ++ (c ++ d)) r ∙ ap (λ (bs : List ℕ). a ++ bs) (three b c d r)

pub five : (a b c d e r : List ℕ) → (a ++ (b ++ (c ++ (d ++ e)))) ++ r ≡ a ++ (b ++ (c ++ (d ++ (e ++ r))))
five a b c d e r = append_assoc a (b ++ (c ++ (d ++ e))) r ∙ ap (λ (bs : List ℕ). a ++ bs) (four b c d e r)

module _ {A B : Type 0} (write : A → List ℕ) (view : A → B) (pieces : B → Pieces → Pieces)
    (spells : (x : A) (rest : Pieces) → write x ++ text rest ≡ text (pieces (view x) rest))
    (separator : List ℕ) (between : Pieces → Pieces) (separates : (rest : Pieces) → separator ++ text rest ≡ text (between rest)) where
  spells_repeated : (xs : List A) (rest : Pieces) → flat_map (λ x. separator ++ write x) xs ++ text rest ≡ text (repeated_pieces pieces between (map view xs) rest)
  spells_repeated [] rest = refl
  spells_repeated (x ∷ xs) rest =
      append_assoc (separator ++ write x) _ (text rest) ∙ append_assoc separator (write x) _
      ∙ ap (λ (bs : List ℕ). separator ++ (write x ++ bs)) (spells_repeated xs rest)
      ∙ ap (λ (bs : List ℕ). separator ++ bs) (spells x _) ∙ separates _

  pub spells_joined : (xs : List A) (rest : Pieces) → join_by write separator xs ++ text rest ≡ text (listed_pieces pieces between (map view xs) rest)
  spells_joined [] rest = refl
  spells_joined (x ∷ xs) rest =
      append_assoc (write x) _ (text rest) ∙ ap (λ (bs : List ℕ). write x ++ bs) (spells_repeated xs rest) ∙ spells x _

spells_col : Spells col_text col_pieces
spells_col c rest = three c.alias (codes ".") c.column (text rest)

spells_source : Spells source_text source_pieces
spells_source s rest = three s.table (codes " AS ") s.alias (text rest)

spells_right : Spells right_text right_pieces
spells_right (Column c) rest = spells_col c rest
spells_right (Value n) rest = refl

spells_equation : Spells equation_text equation_pieces
spells_equation e rest =
    three (col_text e.left) (codes " = ") (right_text e.right) (text rest)
    ∙ ap (λ (bs : List ℕ). col_text e.left ++ (codes " = " ++ bs)) (spells_right e.right rest)
    ∙ spells_col e.left (spaced Equals (right_pieces e.right rest))

spells_list : {A : Type 0} → (write : A → List ℕ) (pieces : A → Pieces → Pieces) → Spells write pieces → (separator : List ℕ) (between : Pieces → Pieces)
    → ((rest : Pieces) → separator ++ text rest ≡ text (between rest)) → (xs : List A) (rest : Pieces)
    → join_by write separator xs ++ text rest ≡ text (listed_pieces pieces between xs rest)
spells_list write pieces spells separator between separates xs rest =
    spells_joined write (λ x. x) pieces spells separator between separates xs rest
    ∙ ap (λ ys. text (listed_pieces pieces between ys rest)) (map-id xs)

spells_columns : Spells columns_text columns_pieces
spells_columns [] rest = ap (λ (bs : List ℕ). bs ++ text rest) (sym (decimal_digit 1 (omega arith)))
spells_columns (c ∷ columns) rest = spells_list col_text col_pieces spells_col (codes ", ") comma_space (λ r. refl) (c ∷ columns) rest

spells_where : Spells where_text where_pieces
spells_where [] rest = refl
spells_where (e ∷ equations) rest =
    append_assoc (codes " WHERE ") _ (text rest)
    ∙ ap (λ (bs : List ℕ). codes " WHERE " ++ bs) (spells_list equation_text equation_pieces spells_equation (codes " AND ") (spaced And) (λ r. refl) (e ∷ equations) rest)

spells_query : Spells query_text (query_pieces true)
spells_query q rest =
    five (codes "SELECT DISTINCT ") (columns_text q.columns) (codes " FROM ") (join_by source_text (codes ", ") q.sources) (where_text q.equations) (text rest)
    ∙ ap (λ (bs : List ℕ). codes "SELECT DISTINCT " ++ (columns_text q.columns ++ (codes " FROM " ++ (join_by source_text (codes ", ") q.sources ++ bs))))
    (spells_where q.equations rest)
    ∙ ap (λ (bs : List ℕ). codes "SELECT DISTINCT " ++ (columns_text q.columns ++ (codes " FROM " ++ bs)))
    (spells_list source_text source_pieces spells_source (codes ", ") comma_space (λ r. refl) q.sources (where_pieces q.equations rest))
    ∙ ap (λ (bs : List ℕ). codes "SELECT DISTINCT " ++ bs) (spells_columns q.columns (from_pieces q rest))

spells_rule : (r : LinkRule) (rest : Pieces) → rule_text r ++ text rest ≡ text (query_pieces true (rule_query r) rest)
spells_rule r rest = spells_query (rule_query r) rest

spells_body : (k : ℕ) (t : Term) (rest : Pieces) → body_text k t ++ text rest ≡ text (body_pieces (body_of k t) rest)
spells_body k (Step l false) rest = refl
spells_body k (Step l true) rest = refl
spells_body k (Seq i j) rest =
    five (codes "SELECT a.src, b.trg FROM ") (table_name i) (codes " AS a, ") (table_name j) (codes " AS b WHERE a.trg = b.src") (text rest)
spells_body k (Alt i j) rest =
    five (codes "SELECT a.src, a.trg FROM ") (table_name i) (codes " AS a UNION SELECT b.src, b.trg FROM ") (table_name j) (codes " AS b") (text rest)
spells_body k (Star i) rest =
    five (codes "SELECT n.v, n.v FROM nodes AS n UNION SELECT r.src, s.trg FROM ") (table_name k) (codes " AS r, ") (table_name i)
    (codes " AS s WHERE r.trg = s.src") (text rest)
spells_body k (Opt i) rest =
    three (codes "SELECT n.v, n.v FROM nodes AS n UNION SELECT a.src, a.trg FROM ") (table_name i) (codes " AS a") (text rest)

spells_line : (t : Term × ℕ) (rest : Pieces) → term_line t ++ text rest ≡ text (table_pieces (term_table t) rest)
spells_line t rest =
    four (table_name t.1) (codes "(src, trg) AS (") (body_text t.1 t.0) (codes ")") (text rest)
    ∙ ap (λ (bs : List ℕ). table_name t.1 ++ (codes "(src, trg) AS (" ++ bs)) (spells_body t.1 t.0 (Lexeme (Fixed Close) ∷ rest))

flat_map-map : {A B : Type 0} → (write : B → List ℕ) (view : A → B) (xs : List A) (rest : List ℕ)
    → flat_map write (map view xs) ++ rest ≡ flat_map (λ x. write (view x)) xs ++ rest
flat_map-map write view [] rest = refl
flat_map-map write view (x ∷ xs) rest =
    append_assoc (write (view x)) _ rest ∙ ap (λ (bs : List ℕ). write (view x) ++ bs) (flat_map-map write view xs rest) ∙ sym (append_assoc (write (view x)) _ rest)

-- the first line, and then the others
spells_tables : (terms : List Term) (rest : Pieces) → tables_text terms ++ text rest ≡ text (listed_pieces table_pieces comma_line (printed_of terms []).tables rest)
spells_tables terms rest =
    append_assoc nodes_line _ (text rest)
    ∙ ap (λ (bs : List ℕ). nodes_line ++ bs)
    (flat_map-map (λ line. codes ",\n" ++ line) term_line (with_numbers 0 terms) (text rest)
    ∙ spells_repeated term_line term_table table_pieces spells_line (codes ",\n") comma_line (λ r. refl) (with_numbers 0 terms) rest)

pub text_is_spelled : (terms : List Term) (rules : List LinkRule) → links_text_of terms rules ≡ text (pieces_of (printed_of terms rules))
text_is_spelled terms rules =
    let last : join_by rule_text (codes "\nUNION\n") rules ++ codes "\n" ≡ text (listed_pieces (query_pieces true) union_line (map rule_query rules) (Gap 10 ∷ []))
    = spells_joined rule_text rule_query (query_pieces true) spells_rule (codes "\nUNION\n") union_line (λ r. refl) rules (Gap 10 ∷ []) in
    ap (λ (bs : List ℕ). codes "WITH RECURSIVE\n" ++ (tables_text terms ++ (codes "\n" ++ bs))) last
    ∙ ap (λ (bs : List ℕ). codes "WITH RECURSIVE\n" ++ bs) (spells_tables terms (last_pieces (map rule_query rules)))
