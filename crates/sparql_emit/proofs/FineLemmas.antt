-- The pieces of a printed text are apart, and its predicates have the empty mark.
use Rattle.std.proofs.Common.{◌≡◌, ℕ, zero, suc, Bool, true, false, ◌||◌, List, [], ◌∷◌, ◌++◌, codes, map, refl, sym, ◌∙◌}
use Rattle.std.specs.Prelude.{not}
use Rattle.std.specs.List.{list_all, range_with_len}
use Rattle.std.proofs.lemmas.Bool.{and_parts}
use Rattle.std.proofs.lemmas.List.Folds.{list_all-append}
use Rattle.gm_text.specs.Name.{is_name, is_name_byte}
use Rattle.path_pairs.specs.Trees.{Tree}
use Rattle.path_pairs.specs.Trees.Tree.{Step, Seq, Alt, Star, Opt}
use Rattle.query_terms.specs.Values.{ConjunctValue, RuleValue, QueryValue, conjuncts_of, arity_of}
use Rattle.query_terms.specs.Laws.{tree_of_conjunct}
use Rattle.query_terms.proofs.SpanLemmas.{and_true}
use Rattle.token_text.specs.Spelled.{Apart, lexemes, Gap, Lexeme}
use Rattle.sparql_read.specs.Tokens.{Prefix, Select, Distinct, Ask, Where, Union}
use Rattle.sparql_read.specs.Tokens.{Token, Word, Mark, IriRef, Predicate, Variable, LeftBrace, RightBrace, Open, Close, Dot, Slash, Bar, Caret, Asterisk, Question, is_white}
use Rattle.sparql_read.specs.Text.{has_mark}
use Rattle.sparql_emit.specs.PathText.{name_of, is_alt, is_seq}
use Rattle.sparql_emit.specs.QueryText.{head_name, head_names, variable_of}
use Rattle.sparql_emit.specs.Laws.{has_names, conjunct_has_names}
use Rattle.sparql_emit.proofs.Spelling.{spell, may_precede, stops, is_variable, Pieces}
use Rattle.sparql_emit.proofs.Pieces.{nested_pieces, path_pieces, variable_pieces, conjunct_pieces, conjuncts_pieces, rule_pieces, more_pieces}
use Rattle.sparql_emit.proofs.Pieces.{rules_pieces, variables_pieces, where_pieces, heads_pieces, end_pieces, text_pieces}
use Rattle.sparql_emit.proofs.PathLemmas.{text}
use Rattle.sparql_emit.proofs.NameLemmas.{head_is_variable, variable_is_variable}

-- pieces that are apart, whose predicates have the empty mark
pub record Kept (ps : Pieces) : Type 0 where
  pub apart : Apart spell is_white may_precede ps
  pub marked : list_all (has_mark []) (lexemes ps) ≡ true

-- and that begin with no letter, digit or `_`
pub record Fine (ps : Pieces) : Type 0 where
  pub kept : Kept ps
  pub ends : stops is_name_byte (text ps) ≡ true

kept_token : (t : Token) (rest : Pieces) → may_precede t (text rest) ≡ true → has_mark [] t ≡ true → Kept rest → Kept (Lexeme t ∷ rest)
kept_token t rest may has k = record { apart = (may, k.apart); marked = and_true has k.marked }

fine_sign : (t : Token) (rest : Pieces) → may_precede t (text rest) ≡ true → stops is_name_byte (spell t ++ text rest) ≡ true → has_mark [] t ≡ true → Fine rest
    → Fine (Lexeme t ∷ rest)
fine_sign t rest may ends has f = record { kept = kept_token t rest may has f.kept; ends = ends }

fine_gap : (b : ℕ) (rest : Pieces) → is_white b ≡ true → not (is_name_byte b) ≡ true → Kept rest → Fine (Gap b ∷ rest)
fine_gap b rest white ends k = record { kept = record { apart = (white, k.apart); marked = k.marked }; ends = ends }

fine_nested : (b : Bool) (part : Pieces → Pieces) → ((rest : Pieces) → Fine rest → Fine (part rest)) → (rest : Pieces) → Fine rest → Fine (nested_pieces b part rest)
fine_nested false part fine rest f = fine rest f
fine_nested true part fine rest f = fine_sign Open (part (Lexeme Close ∷ rest)) refl refl refl (fine (Lexeme Close ∷ rest) (fine_sign Close rest refl refl refl f))

fine_predicate : (name : List ℕ) (rest : Pieces) → is_name name ≡ true → Fine rest → Fine (Lexeme (Predicate [] name) ∷ rest)
fine_predicate name rest named f = fine_sign (Predicate [] name) rest (and_true named f.ends) refl refl f

fine_path : (names : List (List ℕ)) (t : Tree) → has_names names t ≡ true → (rest : Pieces) → Fine rest → Fine (path_pieces names t rest)
fine_path names (Step label false) named rest f = fine_predicate (name_of names label) rest named f
fine_path names (Step label true) named rest f =
    fine_sign Caret (Lexeme (Predicate [] (name_of names label)) ∷ rest) refl refl refl (fine_predicate (name_of names label) rest named f)
fine_path names (Seq a b) named rest f =
    let parts = and_parts (has_names names a) (has_names names b) named in
    let behind = nested_pieces (is_alt b || is_seq b) (path_pieces names b) rest in
    fine_nested (is_alt a) (path_pieces names a) (fine_path names a parts.0) (Lexeme Slash ∷ behind)
    (fine_sign Slash behind refl refl refl (fine_nested (is_alt b || is_seq b) (path_pieces names b) (fine_path names b parts.1) rest f))
fine_path names (Alt a b) named rest f =
    let parts = and_parts (has_names names a) (has_names names b) named in
    let behind = nested_pieces (is_alt b) (path_pieces names b) rest in
    fine_path names a parts.0 (Lexeme Bar ∷ behind)
    (fine_sign Bar behind refl refl refl (fine_nested (is_alt b) (path_pieces names b) (fine_path names b parts.1) rest f))
fine_path names (Star a) named rest f =
    fine_sign Open (path_pieces names a (Lexeme Close ∷ Lexeme Asterisk ∷ rest)) refl refl refl
    (fine_path names a named (Lexeme Close ∷ Lexeme Asterisk ∷ rest)
    (fine_sign Close (Lexeme Asterisk ∷ rest) refl refl refl (fine_sign Asterisk rest refl refl refl f)))
fine_path names (Opt a) named rest f =
    fine_sign Open (path_pieces names a (Lexeme Close ∷ Lexeme Question ∷ rest)) refl refl refl
    (fine_path names a named (Lexeme Close ∷ Lexeme Question ∷ rest)
    (fine_sign Close (Lexeme Question ∷ rest) refl refl refl (fine_sign Question rest f.ends refl refl f)))

fine_variable : (name : List ℕ) (rest : Pieces) → is_variable name ≡ true → Fine rest → Fine (variable_pieces name rest)
fine_variable name rest is f = fine_gap 32 (Lexeme (Variable name) ∷ rest) refl refl (kept_token (Variable name) rest (and_true is f.ends) refl f.kept)

fine_variables : (f : ℕ → List ℕ) (xs : List ℕ) → ((x : ℕ) → is_variable (f x) ≡ true) → (rest : Pieces) → Fine rest → Fine (variables_pieces (map f xs) rest)
fine_variables f [] are rest fine = fine
fine_variables f (x ∷ xs) are rest fine = fine_variable (f x) (variables_pieces (map f xs) rest) (are x) (fine_variables f xs are rest fine)

module _ (names : List (List ℕ)) (labels : List ℕ) where
  fine_conjunct : (heads : List ℕ) (c : ConjunctValue) → conjunct_has_names names labels c ≡ true → (rest : Pieces) → Fine rest → Fine (conjunct_pieces names labels heads c rest)
  fine_conjunct heads c named rest f =
      let dot = fine_gap 32 (Lexeme Dot ∷ rest) refl refl (kept_token Dot rest refl refl f.kept) in
      let second = variable_pieces (variable_of heads c.trg) (Gap 32 ∷ Lexeme Dot ∷ rest) in
      let path = path_pieces names (tree_of_conjunct labels c) second in
      fine_variable (variable_of heads c.src) (Gap 32 ∷ path) (variable_is_variable 0 heads c.src)
      (fine_gap 32 path refl refl
      (fine_path names (tree_of_conjunct labels c) named second
      (fine_variable (variable_of heads c.trg) (Gap 32 ∷ Lexeme Dot ∷ rest) (variable_is_variable 0 heads c.trg) dot)).kept)

  fine_conjuncts : (heads : List ℕ) (cs : List ConjunctValue) → list_all (conjunct_has_names names labels) cs ≡ true → (rest : Pieces) → Fine rest
      → Fine (conjuncts_pieces names labels heads cs rest)
  fine_conjuncts heads [] named rest f = f
  fine_conjuncts heads (c ∷ cs) named rest f =
      let parts = and_parts (conjunct_has_names names labels c) _ named in
      fine_conjunct heads c parts.0 (conjuncts_pieces names labels heads cs rest) (fine_conjuncts heads cs parts.1 rest f)

  fine_rule : (r : RuleValue) → list_all (conjunct_has_names names labels) r.conjuncts ≡ true → (rest : Pieces) → Kept rest → Fine (rule_pieces names labels r rest)
  fine_rule r named rest k =
      let end = fine_gap 32 (Lexeme RightBrace ∷ Gap 10 ∷ rest) refl refl (kept_token RightBrace (Gap 10 ∷ rest) refl refl (fine_gap 10 rest refl refl k).kept) in
      fine_sign LeftBrace (conjuncts_pieces names labels r.heads r.conjuncts (Gap 32 ∷ Lexeme RightBrace ∷ Gap 10 ∷ rest)) refl refl refl
      (fine_conjuncts r.heads r.conjuncts named (Gap 32 ∷ Lexeme RightBrace ∷ Gap 10 ∷ rest) end)

  rule_parts : (r : RuleValue) (rs : List RuleValue) → list_all (conjunct_has_names names labels) (conjuncts_of (r ∷ rs)) ≡ true
      → (list_all (conjunct_has_names names labels) r.conjuncts ≡ true) × (list_all (conjunct_has_names names labels) (conjuncts_of rs) ≡ true)
  rule_parts r rs named =
      and_parts (list_all (conjunct_has_names names labels) r.conjuncts) _
      (sym (list_all-append (conjunct_has_names names labels) r.conjuncts (conjuncts_of rs)) ∙ named)

  kept_more : (rs : List RuleValue) → list_all (conjunct_has_names names labels) (conjuncts_of rs) ≡ true → (rest : Pieces) → Kept rest → Kept (more_pieces names labels rs rest)
  kept_more [] named rest k = k
  kept_more (r ∷ rs) named rest k =
      let parts = rule_parts r rs named in
      let rule = fine_rule r parts.0 (more_pieces names labels rs rest) (kept_more rs parts.1 rest k) in
      kept_token (Word Union) (Gap 10 ∷ rule_pieces names labels r (more_pieces names labels rs rest)) refl refl
      (fine_gap 10 (rule_pieces names labels r (more_pieces names labels rs rest)) refl refl rule.kept).kept

  kept_rules : (rs : List RuleValue) → list_all (conjunct_has_names names labels) (conjuncts_of rs) ≡ true → (rest : Pieces) → Kept rest → Kept (rules_pieces names labels rs rest)
  kept_rules [] named rest k = k
  kept_rules (r ∷ rs) named rest k =
      let parts = rule_parts r rs named in
      (fine_rule r parts.0 (more_pieces names labels rs rest) (kept_more rs parts.1 rest k)).kept

fine_where : (rest : Pieces) → Kept rest → Fine (where_pieces rest)
fine_where rest k =
    fine_gap 32 (Lexeme (Word Where) ∷ Gap 32 ∷ Lexeme LeftBrace ∷ Gap 10 ∷ rest) refl refl
    (kept_token (Word Where) (Gap 32 ∷ Lexeme LeftBrace ∷ Gap 10 ∷ rest) refl refl
    (fine_gap 32 (Lexeme LeftBrace ∷ Gap 10 ∷ rest) refl refl (kept_token LeftBrace (Gap 10 ∷ rest) refl refl (fine_gap 10 rest refl refl k).kept)).kept)

kept_heads : (n : ℕ) (rest : Pieces) → Kept rest → Kept (heads_pieces n rest)
kept_heads zero rest k = kept_token (Word Ask) (where_pieces rest) refl refl (fine_where rest k).kept
kept_heads (suc n) rest k =
    let variables = variables_pieces (head_names (suc n)) (where_pieces rest) in
    kept_token (Word Select) (Gap 32 ∷ Lexeme (Word Distinct) ∷ variables) refl refl
    (fine_gap 32 (Lexeme (Word Distinct) ∷ variables) refl refl
    (kept_token (Word Distinct) variables refl refl
    (fine_variables head_name (range_with_len 0 (suc n)) head_is_variable (where_pieces rest) (fine_where rest k)).kept)).kept

pub kept_text : (names : List (List ℕ)) (q : QueryValue) → list_all (conjunct_has_names names q.labels) (conjuncts_of q.rules) ≡ true → Kept (text_pieces names q)
kept_text names q named =
    let rules = rules_pieces names q.labels q.rules end_pieces in
    let heads = heads_pieces (arity_of q.rules) rules in
    let none : Kept [] = record { apart = tt; marked = refl } in
    let end : Kept end_pieces = kept_token RightBrace (Gap 10 ∷ []) refl refl (fine_gap 10 [] refl refl none).kept in
    let first = kept_heads (arity_of q.rules) rules (kept_rules names q.labels q.rules named end_pieces end) in
    let iri = Lexeme (IriRef (codes "http://gmark.example/")) ∷ Gap 10 ∷ heads in
    let has_iri : Kept iri = kept_token (IriRef (codes "http://gmark.example/")) (Gap 10 ∷ heads) refl refl (fine_gap 10 heads refl refl first).kept in
    kept_token (Word Prefix) (Gap 32 ∷ Lexeme (Mark []) ∷ Gap 32 ∷ iri) refl refl
    (fine_gap 32 (Lexeme (Mark []) ∷ Gap 32 ∷ iri) refl refl
    (kept_token (Mark []) (Gap 32 ∷ iri) refl refl (fine_gap 32 iri refl refl has_iri).kept)).kept
