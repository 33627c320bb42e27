-- The pieces of a reading have the tokens of the reading, and are apart where its words are words and its numbers fit.
use Rattle.std.proofs.Common.{◌≡◌, ℕ, ◌^◌, Bool, true, false, ◌&&◌, nat_lt, List, [], ◌∷◌, refl, ap, ◌∙◌, arith, ◌||◌}
use Rattle.std.specs.List.{list_all}
use Rattle.std.proofs.lemmas.Bool.{and_parts}
use Rattle.token_text.specs.Spelled.{Gap, Lexeme, lexemes}
use Rattle.sql_read.specs.declared.tokens.Mark.{Mark}
use Rattle.sql_read.specs.declared.tokens.Mark.TheVariants.{With, Recursive, As, Select, Distinct, From, Where, And, Union, Open, Close, Comma, Dot, Equals}
use Rattle.sql_read.specs.Tokens.{Token, Fixed, Word, Number, is_word, is_blank}
use Rattle.sql_read.specs.Grammar.{Col, Right, Column, Value, Equation, Source, Query, Table, Reading, repeated, listed, word_then, col_then, source_then, right_then, equation_then}
use Rattle.sql_read.specs.Grammar.{columns_then, where_then, from_then, query_then, union_then, table_then, tokens_of_text, said}
use Rattle.sql_emit.proofs.Spelling.{Pieces, text, AreApart, ends_run, is_sign}
use Rattle.sql_emit.proofs.Pieces.{spaced, comma_space, comma_line, union_line, repeated_pieces, listed_pieces, word_pieces, col_pieces, source_pieces, right_pieces, equation_pieces}
use Rattle.sql_emit.proofs.Pieces.{columns_pieces, where_pieces, distinct_pieces, from_pieces, query_pieces, body_pieces, table_pieces, last_pieces, pieces_of}

-- ---- the tokens

abbrev tokens : Pieces → List Token
tokens pieces = said (lexemes pieces)

abbrev Says : {A : Type 0} → (A → Pieces → Pieces) → (A → List Token → List Token) → Type 0
Says {A = A} pieces part = (x : A) (rest : Pieces) → tokens (pieces x rest) ≡ part x (tokens rest)

module _ {A : Type 0} (pieces : A → Pieces → Pieces) (part : A → List Token → List Token) (says : Says pieces part)
    (between : Pieces → Pieces) (separator : Token) (separates : (rest : Pieces) → tokens (between rest) ≡ separator ∷ tokens rest) where
  says_repeated : (xs : List A) (rest : Pieces) → tokens (repeated_pieces pieces between xs rest) ≡ repeated part separator xs (tokens rest)
  says_repeated [] rest = refl
  says_repeated (x ∷ xs) rest =
      separates _ ∙ ap (λ (ts : List Token). separator ∷ ts) (says x _ ∙ ap (part x) (says_repeated xs rest))

  pub says_listed : (xs : List A) (rest : Pieces) → tokens (listed_pieces pieces between xs rest) ≡ listed part separator xs (tokens rest)
  says_listed [] rest = refl
  says_listed (x ∷ xs) rest = says x _ ∙ ap (part x) (says_repeated xs rest)

says_right : Says right_pieces right_then
says_right (Column c) rest = refl
says_right (Value n) rest = refl

says_equation : Says equation_pieces equation_then
says_equation e rest = ap (λ (ts : List Token). col_then e.left (Fixed Equals ∷ ts)) (says_right e.right rest)

says_columns : Says columns_pieces columns_then
says_columns [] rest = refl
says_columns (c ∷ columns) rest = says_listed col_pieces col_then (λ x r. refl) comma_space (Fixed Comma) (λ r. refl) (c ∷ columns) rest

says_where : Says where_pieces where_then
says_where [] rest = refl
says_where (e ∷ equations) rest =
    ap (λ (ts : List Token). Fixed Where ∷ ts) (says_listed equation_pieces equation_then says_equation (spaced And) (Fixed And) (λ r. refl) (e ∷ equations) rest)

says_from : Says from_pieces from_then
says_from q rest =
    ap (λ (ts : List Token). Fixed From ∷ ts)
    (says_listed source_pieces source_then (λ x r. refl) comma_space (Fixed Comma) (λ r. refl) q.sources (where_pieces q.equations rest)
    ∙ ap (listed source_then (Fixed Comma) q.sources) (says_where q.equations rest))

-- what stands behind `SELECT` is not `DISTINCT`
plain_select : (columns : List Col) (rest : Pieces) → tokens (Lexeme (Fixed Select) ∷ Gap 32 ∷ columns_pieces columns rest) ≡ Fixed Select ∷ tokens (columns_pieces columns rest)
plain_select [] rest = refl
plain_select (c ∷ columns) rest = refl

says_select : (distinct : Bool) (columns : List Col) (rest : Pieces)
    → tokens (Lexeme (Fixed Select) ∷ Gap 32 ∷ distinct_pieces distinct (columns_pieces columns rest)) ≡ Fixed Select ∷ tokens (columns_pieces columns rest)
says_select false columns rest = plain_select columns rest
says_select true columns rest = refl

says_query : (distinct : Bool) → Says (query_pieces distinct) query_then
says_query distinct q rest =
    says_select distinct q.columns (from_pieces q rest)
    ∙ ap (λ (ts : List Token). Fixed Select ∷ ts) (says_columns q.columns (from_pieces q rest) ∙ ap (columns_then q.columns) (says_from q rest))

says_body : (qs : List Query) (rest : Pieces) → tokens (body_pieces qs rest) ≡ union_then qs (tokens rest)
says_body qs rest = says_listed (query_pieces false) query_then (says_query false) (spaced Union) (Fixed Union) (λ r. refl) qs rest

says_table : Says table_pieces table_then
says_table t rest =
    ap (λ (ts : List Token). Word t.name ∷ Fixed Open ∷ ts)
    (says_listed word_pieces word_then (λ x r. refl) comma_space (Fixed Comma) (λ r. refl) t.columns _
    ∙ ap (λ (ts : List Token). listed word_then (Fixed Comma) t.columns (Fixed Close ∷ Fixed As ∷ Fixed Open ∷ ts)) (says_body t.body (Lexeme (Fixed Close) ∷ rest)))

says_last : (qs : List Query) → tokens (last_pieces qs) ≡ union_then qs []
says_last qs = says_listed (query_pieces true) query_then (says_query true) union_line (Fixed Union) (λ r. refl) qs (Gap 10 ∷ [])

pub says_reading : (r : Reading) → tokens (pieces_of r) ≡ tokens_of_text r
says_reading r =
    ap (λ (ts : List Token). Fixed With ∷ Fixed Recursive ∷ ts)
    (says_listed table_pieces table_then says_table comma_line (Fixed Comma) (λ x. refl) r.tables (last_pieces r.last)
    ∙ ap (listed table_then (Fixed Comma) r.tables) (says_last r.last))

-- ---- apart

-- no token runs into what follows it
record Kept (rest : Pieces) : Type 0 where
  apart : AreApart rest

-- and no letter, digit or `_` stands first
record Fine (rest : Pieces) : Type 0 where
  kept : Kept rest
  ends : ends_run (text rest) ≡ true

and_both : (a b : Bool) → a ≡ true → b ≡ true → (a && b) ≡ true
and_both a b g h = grind arith

or_true : (a : Bool) → (a || true) ≡ true
or_true a = grind arith

gap_kept : (gap : ℕ) (rest : Pieces) → is_blank gap ≡ true → Kept rest → Kept (Gap gap ∷ rest)
gap_kept gap rest blank kept = record { apart = (blank, kept.apart) }

-- before a gap stands anything
mark_kept : (mark : Mark) (gap : ℕ) (rest : Pieces) → is_blank gap ≡ true → ends_run (gap ∷ text rest) ≡ true → Kept rest
    → Kept (Lexeme (Fixed mark) ∷ Gap gap ∷ rest)
mark_kept mark gap rest blank ends kept = record { apart = (rw ends (or_true (is_sign mark)), (gap_kept gap rest blank kept).apart) }

-- a sign stands before anything
sign_fine : (sign : Mark) (rest : Pieces) → is_sign sign ≡ true → ends_run (text (Lexeme (Fixed sign) ∷ rest)) ≡ true → Kept rest
    → Fine (Lexeme (Fixed sign) ∷ rest)
sign_fine sign rest is ends kept = record { kept = record { apart = (rw is refl, kept.apart) }; ends = ends }

spaced_fine : (mark : Mark) (rest : Pieces) → Kept rest → Fine (spaced mark rest)
spaced_fine mark rest kept = record { kept = gap_kept 32 _ refl (mark_kept mark 32 rest refl refl kept); ends = refl }

word_kept : (w : List ℕ) (rest : Pieces) → is_word w ≡ true → Fine rest → Kept (Lexeme (Word w) ∷ rest)
word_kept w rest word fine = record { apart = (and_both (is_word w) (ends_run (text rest)) word fine.ends, fine.kept.apart) }

number_kept : (n : ℕ) (rest : Pieces) → nat_lt n (2 ^ 32) ≡ true → Fine rest → Kept (Lexeme (Number n) ∷ rest)
number_kept n rest fits fine = record { apart = (and_both (nat_lt n (2 ^ 32)) (ends_run (text rest)) fits fine.ends, fine.kept.apart) }

abbrev Keeps : {A : Type 0} → (A → Pieces → Pieces) → (A → Bool) → Type 0
Keeps {A = A} pieces good = (x : A) (rest : Pieces) → good x ≡ true → Fine rest → Kept (pieces x rest)

abbrev Separates : (Pieces → Pieces) → Type 0
Separates between = (rest : Pieces) → Kept rest → Fine (between rest)

module _ {A : Type 0} (pieces : A → Pieces → Pieces) (good : A → Bool) (keeps : Keeps pieces good) (between : Pieces → Pieces) (separates : Separates between) where
  keeps_repeated : (xs : List A) (rest : Pieces) → list_all good xs ≡ true → Fine rest → Fine (repeated_pieces pieces between xs rest)
  keeps_repeated [] rest all fine = fine
  keeps_repeated (x ∷ xs) rest all fine =
      let parts = and_parts (good x) (list_all good xs) all in separates _ (keeps x _ parts.0 (keeps_repeated xs rest parts.1 fine))

  keeps_listed : (xs : List A) (rest : Pieces) → list_all good xs ≡ true → Fine rest → Kept (listed_pieces pieces between xs rest)
  keeps_listed [] rest all fine = fine.kept
  keeps_listed (x ∷ xs) rest all fine =
      let parts = and_parts (good x) (list_all good xs) all in keeps x _ parts.0 (keeps_repeated xs rest parts.1 fine)

-- the words are words
abbrev pub good_col : Col → Bool
good_col c = is_word c.alias && is_word c.column

abbrev pub good_source : Source → Bool
good_source s = is_word s.table && is_word s.alias

-- and the numbers are numbers of texts
abbrev pub good_right : Right → Bool
good_right (Column c) = good_col c
good_right (Value n) = nat_lt n (2 ^ 32)

abbrev pub good_equation : Equation → Bool
good_equation e = good_col e.left && good_right e.right

abbrev pub good_query : Query → Bool
good_query q = (list_all good_col q.columns && list_all good_source q.sources) && list_all good_equation q.equations

abbrev pub good_table : Table → Bool
good_table t = (is_word t.name && list_all is_word t.columns) && list_all good_query t.body

abbrev pub good_reading : Reading → Bool
good_reading r = list_all good_table r.tables && list_all good_query r.last

space_comma : Separates comma_space
space_comma rest kept = sign_fine Comma _ refl refl (gap_kept 32 rest refl kept)

line_comma : Separates comma_line
line_comma rest kept = sign_fine Comma _ refl refl (gap_kept 10 rest refl kept)

line_union : Separates union_line
line_union rest kept = record { kept = gap_kept 10 _ refl (mark_kept Union 10 rest refl refl kept); ends = refl }

keeps_col : Keeps col_pieces good_col
keeps_col c rest good fine =
    let parts = and_parts (is_word c.alias) (is_word c.column) good in
    word_kept c.alias _ parts.0 (sign_fine Dot _ refl refl (word_kept c.column rest parts.1 fine))

keeps_source : Keeps source_pieces good_source
keeps_source s rest good fine =
    let parts = and_parts (is_word s.table) (is_word s.alias) good in
    word_kept s.table _ parts.0 (spaced_fine As _ (word_kept s.alias rest parts.1 fine))

keeps_right : Keeps right_pieces good_right
keeps_right (Column c) rest good fine = keeps_col c rest good fine
keeps_right (Value n) rest good fine = number_kept n rest good fine

keeps_equation : Keeps equation_pieces good_equation
keeps_equation e rest good fine =
    let parts = and_parts (good_col e.left) (good_right e.right) good in
    keeps_col e.left _ parts.0 (spaced_fine Equals _ (keeps_right e.right rest parts.1 fine))

keeps_columns : (columns : List Col) (rest : Pieces) → list_all good_col columns ≡ true → Fine rest → Kept (columns_pieces columns rest)
keeps_columns [] rest all fine = number_kept 1 rest refl fine
keeps_columns (c ∷ columns) rest all fine = keeps_listed col_pieces good_col keeps_col comma_space space_comma (c ∷ columns) rest all fine

keeps_where : (equations : List Equation) (rest : Pieces) → list_all good_equation equations ≡ true → Fine rest → Fine (where_pieces equations rest)
keeps_where [] rest all fine = fine
keeps_where (e ∷ equations) rest all fine =
    spaced_fine Where _ (keeps_listed equation_pieces good_equation keeps_equation (spaced And) (spaced_fine And) (e ∷ equations) rest all fine)

keeps_from : (q : Query) (rest : Pieces) → list_all good_source q.sources ≡ true → list_all good_equation q.equations ≡ true → Fine rest → Fine (from_pieces q rest)
keeps_from q rest sources equations fine =
    spaced_fine From _ (keeps_listed source_pieces good_source keeps_source comma_space space_comma q.sources _ sources (keeps_where q.equations rest equations fine))

keeps_distinct : (distinct : Bool) (rest : Pieces) → Kept rest → Kept (distinct_pieces distinct rest)
keeps_distinct false rest kept = kept
keeps_distinct true rest kept = mark_kept Distinct 32 rest refl refl kept

keeps_query : (distinct : Bool) → Keeps (query_pieces distinct) good_query
keeps_query distinct q rest good fine =
    let outer = and_parts (list_all good_col q.columns && list_all good_source q.sources) (list_all good_equation q.equations) good in
    let inner = and_parts (list_all good_col q.columns) (list_all good_source q.sources) outer.0 in
    mark_kept Select 32 _ refl refl (keeps_distinct distinct _ (keeps_columns q.columns _ inner.0 (keeps_from q rest inner.1 outer.1 fine)))

keeps_word : Keeps word_pieces is_word
keeps_word name rest word fine = word_kept name rest word fine

keeps_table : Keeps table_pieces good_table
keeps_table t rest good fine =
    let outer = and_parts (is_word t.name && list_all is_word t.columns) (list_all good_query t.body) good in
    let inner = and_parts (is_word t.name) (list_all is_word t.columns) outer.0 in
    let after = sign_fine Close rest refl refl fine.kept in
    let body = keeps_listed (query_pieces false) good_query (keeps_query false) (spaced Union) (spaced_fine Union) t.body _ outer.1 after in
    let as_body = spaced_fine As _ (sign_fine Open _ refl refl body).kept in
    let columns = keeps_listed word_pieces is_word keeps_word comma_space space_comma t.columns _ inner.1 (sign_fine Close _ refl refl as_body.kept) in
    word_kept t.name _ inner.0 (sign_fine Open _ refl refl columns)

keeps_last : (qs : List Query) → list_all good_query qs ≡ true → Fine (last_pieces qs)
keeps_last qs all =
    let end : Fine (Gap 10 ∷ []) = record { kept = gap_kept 10 [] refl (record { apart = tt }); ends = refl } in
    record {
      kept = gap_kept 10 _ refl (keeps_listed (query_pieces true) good_query (keeps_query true) union_line line_union qs _ all end);
      ends = refl;
    }

pub keeps_reading : (r : Reading) → good_reading r ≡ true → AreApart (pieces_of r)
keeps_reading r good =
    let parts = and_parts (list_all good_table r.tables) (list_all good_query r.last) good in
    let tables = keeps_listed table_pieces good_table keeps_table comma_line line_comma r.tables _ parts.0 (keeps_last r.last parts.1) in
    (mark_kept With 32 _ refl refl (mark_kept Recursive 10 _ refl refl tables)).apart
