-- The text of a query is spelled of its pieces, whose tokens are read as what the query asks.
use Rattle.std.proofs.Common.{◌≡◌, ℕ, zero, suc, true, List, [], ◌∷◌, ◌++◌, codes, map, refl, ap, ◌∙◌, length, nat_lt, arith}
use Rattle.std.specs.List.{flat_map, join_by, list_all}
use Rattle.std.proofs.lemmas.Bool.{and_parts, ltb-true}
use Rattle.std.proofs.lemmas.List.{append_assoc}
use Rattle.query_terms.specs.Values.{ConjunctValue, RuleValue, QueryValue, arity_of, is_conjunct, has_heads, is_rule, have_heads, are_rules}
use Rattle.query_terms.specs.Laws.{tree_of_conjunct}
use Rattle.token_text.specs.Spelled.{lexemes, Gap, Lexeme}
use Rattle.sparql_read.specs.Tokens.{Token, Word, Mark, IriRef, Variable, LeftBrace, RightBrace, Dot, Prefix, Select, Distinct, Where}
use Rattle.sparql_read.specs.Grammar.{IsTriple, triple, IsTriples, dotted, more_triples, IsGroup, group, IsGroups, one_group, more_groups, IsBody, groups, variables_then, heads_then, IsText}
use Rattle.sparql_emit.specs.PathText.{path_text_of}
use Rattle.sparql_emit.specs.QueryText.{variable_of, head_names, with_mark, heads_line, conjunct_text, rule_line, sparql_text_of}
use Rattle.sparql_emit.specs.Printed.{pattern_of, group_of, printed_of}
use Rattle.sparql_emit.proofs.Spelling.{Pieces}
use Rattle.sparql_emit.proofs.Pieces.{variable_pieces, conjunct_pieces, conjuncts_pieces, rule_pieces, more_pieces, rules_pieces, variables_pieces, where_pieces, heads_pieces, end_pieces, text_pieces}
use Rattle.sparql_emit.proofs.PathLemmas.{text, spells_path, reads_path}

-- ---- spelled

module _ (names : List (List ℕ)) (labels : List ℕ) where
  spells_conjunct : (heads : List ℕ) (c : ConjunctValue) (rest : Pieces)
      → conjunct_text names labels heads c ++ text rest ≡ text (conjunct_pieces names labels heads c rest)
  spells_conjunct heads c rest =
      let one = variable_of heads c.src in
      let two = variable_of heads c.trg in
      let path = path_text_of names (tree_of_conjunct labels c) in
      ap (λ (bs : List ℕ). 32 ∷ 63 ∷ bs)
      (append_assoc one (32 ∷ (path ++ (32 ∷ 63 ∷ (two ++ (32 ∷ 46 ∷ []))))) (text rest)
      ∙ ap (λ (bs : List ℕ). one ++ (32 ∷ bs))
      (append_assoc path (32 ∷ 63 ∷ (two ++ (32 ∷ 46 ∷ []))) (text rest)
      ∙ (ap (λ (bs : List ℕ). path ++ (32 ∷ 63 ∷ bs)) (append_assoc two (32 ∷ 46 ∷ []) (text rest))
      ∙ spells_path names (tree_of_conjunct labels c) (variable_pieces two (Gap 32 ∷ Lexeme Dot ∷ rest)))))

  spells_conjuncts : (heads : List ℕ) (cs : List ConjunctValue) (rest : Pieces)
      → flat_map (conjunct_text names labels heads) cs ++ text rest ≡ text (conjuncts_pieces names labels heads cs rest)
  spells_conjuncts heads [] rest = refl
  spells_conjuncts heads (c ∷ cs) rest =
      append_assoc (conjunct_text names labels heads c) (flat_map (conjunct_text names labels heads) cs) (text rest)
      ∙ (ap (λ (bs : List ℕ). conjunct_text names labels heads c ++ bs) (spells_conjuncts heads cs rest)
      ∙ spells_conjunct heads c (conjuncts_pieces names labels heads cs rest))

  spells_rule : (r : RuleValue) (rest : Pieces) → rule_line names labels r ++ text rest ≡ text (rule_pieces names labels r rest)
  spells_rule r rest =
      ap (λ (bs : List ℕ). 123 ∷ bs)
      (append_assoc (flat_map (conjunct_text names labels r.heads) r.conjuncts) (codes " }\n") (text rest)
      ∙ spells_conjuncts r.heads r.conjuncts (Gap 32 ∷ Lexeme RightBrace ∷ Gap 10 ∷ rest))

  spells_more : (rs : List RuleValue) (rest : Pieces)
      → flat_map (λ r. codes "UNION\n" ++ rule_line names labels r) rs ++ text rest ≡ text (more_pieces names labels rs rest)
  spells_more [] rest = refl
  spells_more (r ∷ rs) rest =
      append_assoc (codes "UNION\n" ++ rule_line names labels r) (flat_map (λ r. codes "UNION\n" ++ rule_line names labels r) rs) (text rest)
      ∙ ap (λ (bs : List ℕ). codes "UNION\n" ++ bs)
      (ap (λ (bs : List ℕ). rule_line names labels r ++ bs) (spells_more rs rest) ∙ spells_rule r (more_pieces names labels rs rest))

  spells_rules : (rs : List RuleValue) (rest : Pieces) → join_by (rule_line names labels) (codes "UNION\n") rs ++ text rest ≡ text (rules_pieces names labels rs rest)
  spells_rules [] rest = refl
  spells_rules (r ∷ rs) rest =
      append_assoc (rule_line names labels r) (flat_map (λ r. codes "UNION\n" ++ rule_line names labels r) rs) (text rest)
      ∙ (ap (λ (bs : List ℕ). rule_line names labels r ++ bs) (spells_more rs rest) ∙ spells_rule r (more_pieces names labels rs rest))

spells_variables : (xs : List (List ℕ)) (rest : Pieces) → flat_map with_mark xs ++ text rest ≡ text (variables_pieces xs rest)
spells_variables [] rest = refl
spells_variables (x ∷ xs) rest =
    append_assoc (with_mark x) (flat_map with_mark xs) (text rest) ∙ ap (λ (bs : List ℕ). with_mark x ++ bs) (spells_variables xs rest)

spells_heads : (n : ℕ) (rest : Pieces) → heads_line n ++ text rest ≡ text (heads_pieces n rest)
spells_heads zero rest = refl
spells_heads (suc n) rest =
    ap (λ (bs : List ℕ). codes "SELECT DISTINCT" ++ bs)
    (append_assoc (flat_map with_mark (head_names (suc n))) (codes " WHERE {\n") (text rest) ∙ spells_variables (head_names (suc n)) (where_pieces rest))

pub text_is_spelled : (names : List (List ℕ)) (q : QueryValue) → sparql_text_of names q ≡ text (text_pieces names q)
text_is_spelled names q =
    ap (λ (bs : List ℕ). codes "PREFIX : <http://gmark.example/>\n" ++ bs)
    (ap (λ (bs : List ℕ). heads_line (arity_of q.rules) ++ bs) (spells_rules names q.labels q.rules end_pieces)
    ∙ spells_heads (arity_of q.rules) (rules_pieces names q.labels q.rules end_pieces))

-- ---- read

none_there : nat_lt 0 0 ≡ true → ⊥
none_there e = absurd (omega (arith, ltb-true 0 0 e))

module _ (names : List (List ℕ)) (labels : List ℕ) where
  reads_triple : (heads : List ℕ) (c : ConjunctValue) (rest : Pieces)
      → IsTriple (lexemes (conjunct_pieces names labels heads c rest)) (pattern_of names labels heads c) (Dot ∷ lexemes rest)
  reads_triple heads c rest =
      triple (reads_path names (tree_of_conjunct labels c) (variable_pieces (variable_of heads c.trg) (Gap 32 ∷ Lexeme Dot ∷ rest)))

  reads_triples : (heads : List ℕ) (c : ConjunctValue) (cs : List ConjunctValue) (rest : Pieces)
      → IsTriples (lexemes (conjuncts_pieces names labels heads (c ∷ cs) rest)) (map (pattern_of names labels heads) (c ∷ cs)) (lexemes rest)
  reads_triples heads c [] rest = dotted (reads_triple heads c rest)
  reads_triples heads c (d ∷ cs) rest =
      more_triples (reads_triple heads c (conjuncts_pieces names labels heads (d ∷ cs) rest)) (reads_triples heads d cs rest)

  reads_group : (heads : List ℕ) (cs : List ConjunctValue) (rest : Pieces) → nat_lt 0 (length cs) ≡ true
      → IsGroup (LeftBrace ∷ lexemes (conjuncts_pieces names labels heads cs (Gap 32 ∷ Lexeme RightBrace ∷ Gap 10 ∷ rest)))
      (map (pattern_of names labels heads) cs) (lexemes rest)
  reads_group heads [] rest some = absurd (none_there some)
  reads_group heads (c ∷ cs) rest some = group (reads_triples heads c cs (Gap 32 ∷ Lexeme RightBrace ∷ Gap 10 ∷ rest))

  has_conjunct : (edges : ℕ) (r : RuleValue) → is_rule edges r ≡ true → nat_lt 0 (length r.conjuncts) ≡ true
  has_conjunct edges r is = (and_parts _ (list_all (is_conjunct edges) r.conjuncts) (and_parts _ (has_heads r) is).0).0

  reads_groups : (edges : ℕ) (r : RuleValue) (rs : List RuleValue) (rest : Pieces) → list_all (is_rule edges) (r ∷ rs) ≡ true
      → IsGroups (lexemes (rules_pieces names labels (r ∷ rs) rest)) (map (group_of names labels) (r ∷ rs)) (lexemes rest)
  reads_groups edges r [] rest all =
      one_group (reads_group r.heads r.conjuncts rest (has_conjunct edges r (and_parts (is_rule edges r) _ all).0))
  reads_groups edges r (s ∷ rs) rest all =
      let parts = and_parts (is_rule edges r) (list_all (is_rule edges) (s ∷ rs)) all in
      more_groups (reads_group r.heads r.conjuncts (more_pieces names labels (s ∷ rs) rest) (has_conjunct edges r parts.0)) (reads_groups edges s rs rest parts.1)

  reads_body : (edges : ℕ) (rs : List RuleValue) (rest : Pieces) → are_rules edges rs ≡ true
      → IsBody (lexemes (rules_pieces names labels rs rest)) (map (group_of names labels) rs) (lexemes rest)
  reads_body edges [] rest are = absurd (none_there (and_parts _ true (and_parts _ (have_heads 0 []) are).0).0)
  reads_body edges (r ∷ rs) rest are =
      groups (reads_groups edges r rs rest (and_parts _ (list_all (is_rule edges) (r ∷ rs)) (and_parts _ (have_heads (arity_of (r ∷ rs)) (r ∷ rs)) are).0).1)

variables_are : (xs : List (List ℕ)) (rest : Pieces) → lexemes (variables_pieces xs rest) ≡ variables_then xs (lexemes rest)
variables_are [] rest = refl
variables_are (x ∷ xs) rest = ap (λ (ts : List Token). Variable x ∷ ts) (variables_are xs rest)

heads_are : (n : ℕ) (rest : Pieces) → lexemes (heads_pieces n rest) ≡ heads_then (head_names n) (Word Where ∷ LeftBrace ∷ lexemes rest)
heads_are zero rest = refl
heads_are (suc n) rest = ap (λ (ts : List Token). Word Select ∷ Word Distinct ∷ ts) (variables_are (head_names (suc n)) (where_pieces rest))

pub reads_text : (names : List (List ℕ)) (q : QueryValue) → are_rules (length q.labels) q.rules ≡ true → IsText (lexemes (text_pieces names q)) [] (printed_of names q)
reads_text names q are = record {
  iri = codes "http://gmark.example/";
  has_where = true;
  body = lexemes (rules_pieces names q.labels q.rules end_pieces);
  is = ap (λ (ts : List Token). Word Prefix ∷ Mark [] ∷ IriRef (codes "http://gmark.example/") ∷ ts)
      (heads_are (arity_of q.rules) (rules_pieces names q.labels q.rules end_pieces));
  body_is = reads_body names q.labels (length q.labels) q.rules end_pieces are;
}
