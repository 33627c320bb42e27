-- No tokens are those of two readings: each production is told by the tokens at its front.
use Rattle.std.proofs.Common.{◌≡◌, ℕ, Bool, true, ◌&&◌, List, [], ◌∷◌, ◌++◌, refl, sym, ap, ◌∙◌, true≢false, arith}
use Rattle.std.specs.List.{list_all}
use Rattle.sql_read.specs.declared.tokens.Mark.{Mark}
use Rattle.sql_read.specs.declared.tokens.Mark.TheVariants.{Select, From, Where, And, Union, Close, Comma, Equals}
use Rattle.sql_read.specs.Tokens.{Token, Fixed, Word, Number}
use Rattle.sql_read.specs.Grammar.{Col, Column, Value, Equation, Source, Query, Reading, repeated, listed, word_then, col_then, source_then, right_then, equation_then, columns_then, where_then, query_then, union_then, body_then, table_then, tokens_of_text, some, is_full_query, is_full_union, is_full_table, is_full}
use Rattle.sql_read.specs.Parsed.{EndsColumns}
use Rattle.sql_read.specs.Absent.{NotFirst, NoGood, NoList, any, always, good_list, ends_query}

pub and_left : (a b : Bool) → (a && b) ≡ true → a ≡ true
and_left a b h = grind arith

pub and_right : (a b : Bool) → (a && b) ≡ true → b ≡ true
and_right a b h = grind arith

pub and_both : (a b : Bool) → a ≡ true → b ≡ true → (a && b) ≡ true
and_both a b g h = grind arith

pub head_same : (t u : Token) (ts us : List Token) → t ∷ ts ≡ u ∷ us → t ≡ u
head_same t u ts us e = cc

pub tail_same : (t u : Token) (ts us : List Token) → t ∷ ts ≡ u ∷ us → ts ≡ us
tail_same t u ts us e = cc

word_same : (x y : List ℕ) → Word x ≡ Word y → x ≡ y
word_same x y e = cc

number_same : (m n : ℕ) → Number m ≡ Number n → m ≡ n
number_same m n e = cc

word_number : (x : List ℕ) (n : ℕ) → Word x ≡ Number n → ⊥
word_number x n e = cc

-- each part is the only one at the front of its tokens, among those that pass a test before tokens that pass another
abbrev pub AreOne : {A : Type 0} → (A → List Token → List Token) → (A → Bool) → (List Token → Bool) → Type 0
AreOne {A = A} part good clear = (x y : A) (r s : List Token) → good x ≡ true → good y ≡ true → clear r ≡ true → clear s ≡ true
    → part x r ≡ part y s → (x ≡ y) × (r ≡ s)

module _ {A : Type 0} (part : A → List Token → List Token) (good : A → Bool) (clear : List Token → Bool) (separator : Token)
    (one : AreOne part good clear) (behind : (ts : List Token) → clear (separator ∷ ts) ≡ true) where
  pub clear_repeated : (xs : List A) (rest : List Token) → clear rest ≡ true → clear (repeated part separator xs rest) ≡ true
  clear_repeated [] rest h = h
  clear_repeated (x ∷ xs) rest h = behind (part x (repeated part separator xs rest))

  repeated_one : (xs ys : List A) (r s : List Token) → list_all good xs ≡ true → list_all good ys ≡ true → clear r ≡ true → clear s ≡ true
      → NotFirst separator r → NotFirst separator s → repeated part separator xs r ≡ repeated part separator ys s → (xs ≡ ys) × (r ≡ s)
  repeated_one [] [] r s g h c d m n e = (refl, e)
  repeated_one [] (y ∷ ys) r s g h c d m n e = absurd (m _ e)
  repeated_one (x ∷ xs) [] r s g h c d m n e = absurd (n _ (sym e))
  repeated_one (x ∷ xs) (y ∷ ys) r s g h c d m n e =
      let first = one x y (repeated part separator xs r) (repeated part separator ys s) (and_left (good x) _ g) (and_left (good y) _ h)
      (clear_repeated xs r c) (clear_repeated ys s d) (tail_same separator separator _ _ e) in
      let more = repeated_one xs ys r s (and_right (good x) _ g) (and_right (good y) _ h) c d m n first.1 in
      (λ i. first.0 i ∷ more.0 i, more.1)

  pub listed_one : (xs ys : List A) (r s : List Token) → good_list good xs ≡ true → good_list good ys ≡ true → clear r ≡ true → clear s ≡ true
      → NotFirst separator r → NotFirst separator s → listed part separator xs r ≡ listed part separator ys s → (xs ≡ ys) × (r ≡ s)
  listed_one [] ys r s g h c d m n e = absurd (true≢false (sym g))
  listed_one (x ∷ xs) [] r s g h c d m n e = absurd (true≢false (sym h))
  listed_one (x ∷ xs) (y ∷ ys) r s g h c d m n e =
      let first = one x y (repeated part separator xs r) (repeated part separator ys s) (and_left (good x) _ g) (and_left (good y) _ h)
      (clear_repeated xs r c) (clear_repeated ys s d) e in
      let more = repeated_one xs ys r s (and_right (good x) _ g) (and_right (good y) _ h) c d m n first.1 in
      (λ i. first.0 i ∷ more.0 i, more.1)

  -- so many parts, each with a separator behind it
  abbrev pub each : List A → List Token → List Token
  each [] here = here
  each (x ∷ xs) here = part x (separator ∷ each xs here)

  pub each_push : (xs : List A) (x : A) (here : List Token) → each xs (part x (separator ∷ here)) ≡ each (xs ++ x ∷ []) here
  each_push [] x here = refl
  each_push (y ∷ ys) x here = ap (λ (z : List Token). part y (separator ∷ z)) (each_push ys x here)

  each_repeated : (xs : List A) (x : A) (rest : List Token) → separator ∷ each xs (part x rest) ≡ repeated part separator (xs ++ x ∷ []) rest
  each_repeated [] x rest = refl
  each_repeated (y ∷ ys) x rest = ap (λ (z : List Token). separator ∷ part y z) (each_repeated ys x rest)

  pub each_listed : (xs : List A) (x : A) (rest : List Token) → each xs (part x rest) ≡ listed part separator (xs ++ x ∷ []) rest
  each_listed [] x rest = refl
  each_listed (y ∷ ys) x rest = ap (part y) (each_repeated ys x rest)

  -- where no part stands behind the last separator, no list stands at the front
  pub each_none : (xs : List A) (here : List Token) → list_all good xs ≡ true → NoGood part good clear here → NoList part good clear separator (each xs here)
  each_none xs here g none [] rest h c n e = true≢false (sym h)
  each_none [] here g none (z ∷ zs) rest h c n e =
      none z (repeated part separator zs rest) (and_left (good z) _ h) (clear_repeated zs rest c) e
  each_none (y ∷ ys) here g none (z ∷ []) rest h c n e =
      n (each ys here) (sym (one y z (separator ∷ each ys here) rest (and_left (good y) _ g) (and_left (good z) _ h) (behind _) c e).1)
  each_none (y ∷ ys) here g none (z ∷ w ∷ ws) rest h c n e =
      each_none ys here (and_right (good y) _ g) none (w ∷ ws) rest (and_right (good z) _ h) c n
      (tail_same separator separator _ _ (one y z (separator ∷ each ys here) (separator ∷ part w (repeated part separator ws rest))
      (and_left (good y) _ g) (and_left (good z) _ h) (behind _) (behind _) e).1)

pub words_are_one : AreOne word_then any always
words_are_one x y r s g h c d e = (word_same x y (head_same _ _ _ _ e), tail_same _ _ _ _ e)

pub cols_are_one : AreOne col_then any always
cols_are_one x y r s g h c d e =
    let alias = word_same _ _ (head_same _ _ _ _ e) in
    let more = tail_same _ _ _ _ (tail_same _ _ _ _ e) in
    let column = word_same _ _ (head_same _ _ _ _ more) in
    (λ i. record { alias = alias i; column = column i }, tail_same _ _ _ _ more)

pub froms_are_one : AreOne source_then any always
froms_are_one x y r s g h c d e =
    let table = word_same _ _ (head_same _ _ _ _ e) in
    let more = tail_same _ _ _ _ (tail_same _ _ _ _ e) in
    let alias = word_same _ _ (head_same _ _ _ _ more) in
    (λ i. record { table = table i; alias = alias i }, tail_same _ _ _ _ more)

rights_are_one : AreOne right_then any always
rights_are_one (Column x) (Column y) r s g h c d e = let both = cols_are_one x y r s refl refl refl refl e in (ap Column both.0, both.1)
rights_are_one (Column x) (Value n) r s g h c d e = absurd (word_number _ n (head_same _ _ _ _ e))
rights_are_one (Value m) (Column y) r s g h c d e = absurd (word_number _ m (sym (head_same _ _ _ _ e)))
rights_are_one (Value m) (Value n) r s g h c d e = (ap Value (number_same m n (head_same _ _ _ _ e)), tail_same _ _ _ _ e)

pub equations_are_one : AreOne equation_then any always
equations_are_one x y r s g h c d e =
    let left = cols_are_one x.left y.left (Fixed Equals ∷ right_then x.right r) (Fixed Equals ∷ right_then y.right s) refl refl refl refl e in
    let right = rights_are_one x.right y.right r s refl refl refl refl (tail_same _ _ _ _ left.1) in
    (λ i. record { left = left.0 i; right = right.0 i }, right.1)

pub all_any : {A : Type 0} → (xs : List A) → list_all any xs ≡ true
all_any [] = refl
all_any (x ∷ xs) = all_any xs

-- what is clear behind a select is none of these
pub no_comma : (ts : List Token) → ends_query ts ≡ true → NotFirst (Fixed Comma) ts
no_comma ts h us e = true≢false (sym h ∙ ap ends_query e)

pub no_where : (ts : List Token) → ends_query ts ≡ true → NotFirst (Fixed Where) ts
no_where ts h us e = true≢false (sym h ∙ ap ends_query e)

pub no_and : (ts : List Token) → ends_query ts ≡ true → NotFirst (Fixed And) ts
no_and ts h us e = true≢false (sym h ∙ ap ends_query e)

mark_differs : (a b : Mark) (ts us : List Token) → Fixed a ∷ ts ≡ Fixed b ∷ us → a ≡ b
mark_differs a b ts us e = cc

pub from_comma : (ts : List Token) → NotFirst (Fixed Comma) (Fixed From ∷ ts)
from_comma ts us e = let m = mark_differs From Comma ts us e in grind arith

where_comma : (ts : List Token) → NotFirst (Fixed Comma) (Fixed Where ∷ ts)
where_comma ts us e = let m = mark_differs Where Comma ts us e in grind arith

-- no comma stands before the conditions of a select
pub conditions_comma : (es : List Equation) (rest : List Token) → ends_query rest ≡ true → NotFirst (Fixed Comma) (where_then es rest)
conditions_comma [] rest h = no_comma rest h
conditions_comma (e ∷ es) rest h = where_comma (listed equation_then (Fixed And) (e ∷ es) rest)

-- columns are the only ones at the front, where no further one follows
pub columns_first : (xs ys : List Col) (r s : List Token) → EndsColumns xs r → EndsColumns ys s → columns_then xs r ≡ columns_then ys s → (xs ≡ ys) × (r ≡ s)
columns_first [] [] r s m n e = (refl, tail_same _ _ _ _ e)
columns_first [] (y ∷ ys) r s m n e = absurd (word_number _ 1 (sym (head_same _ _ _ _ e)))
columns_first (x ∷ xs) [] r s m n e = absurd (word_number _ 1 (head_same _ _ _ _ e))
columns_first (x ∷ xs) (y ∷ ys) r s m n e =
    listed_one col_then any always (Fixed Comma) cols_are_one (λ ts. refl) (x ∷ xs) (y ∷ ys) r s (all_any xs) (all_any ys) refl refl m n e

pub from_ends : (xs : List Col) (r : List Token) → EndsColumns xs (Fixed From ∷ r)
from_ends [] r = tt
from_ends (x ∷ xs) r = from_comma r

columns_are_one : (xs ys : List Col) (r s : List Token) → columns_then xs (Fixed From ∷ r) ≡ columns_then ys (Fixed From ∷ s) → (xs ≡ ys) × (r ≡ s)
columns_are_one xs ys r s e =
    let both = columns_first xs ys (Fixed From ∷ r) (Fixed From ∷ s) (from_ends xs r) (from_ends ys s) e in
    (both.0, tail_same _ _ _ _ both.1)

pub where_is_one : (es fs : List Equation) (r s : List Token) → ends_query r ≡ true → ends_query s ≡ true
    → where_then es r ≡ where_then fs s → (es ≡ fs) × (r ≡ s)
where_is_one [] [] r s c d e = (refl, e)
where_is_one [] (f ∷ fs) r s c d e = absurd (no_where r c _ e)
where_is_one (x ∷ es) [] r s c d e = absurd (no_where s d _ (sym e))
where_is_one (x ∷ es) (f ∷ fs) r s c d e =
    listed_one equation_then any always (Fixed And) equations_are_one (λ ts. refl) (x ∷ es) (f ∷ fs) r s
    (all_any es) (all_any fs) refl refl (no_and r c) (no_and s d) (tail_same _ _ _ _ e)

pub some_any : {A : Type 0} → (xs : List A) → some xs ≡ true → good_list any xs ≡ true
some_any xs h = and_both (some xs) _ h (all_any xs)

pub sources_are_one : (xs ys : List Source) (es fs : List Equation) (r s : List Token) → some xs ≡ true → some ys ≡ true
    → ends_query r ≡ true → ends_query s ≡ true
    → listed source_then (Fixed Comma) xs (where_then es r) ≡ listed source_then (Fixed Comma) ys (where_then fs s)
    → (xs ≡ ys) × (where_then es r ≡ where_then fs s)
sources_are_one xs ys es fs r s g h c d e =
    listed_one source_then any always (Fixed Comma) froms_are_one (λ ts. refl) xs ys (where_then es r) (where_then fs s)
    (some_any xs g) (some_any ys h) refl refl (conditions_comma es r c) (conditions_comma fs s d) e

pub queries_are_one : AreOne query_then is_full_query ends_query
queries_are_one x y r s g h c d e =
    let columns = columns_are_one x.columns y.columns _ _ (tail_same _ _ _ _ e) in
    let sources = sources_are_one x.sources y.sources x.equations y.equations r s g h c d columns.1 in
    let equations = where_is_one x.equations y.equations r s c d sources.1 in
    (λ i. record { columns = columns.0 i; sources = sources.0 i; equations = equations.0 i }, equations.1)

-- what may follow a union
pub unions_are_one : (xs ys : List Query) (r s : List Token) → is_full_union xs ≡ true → is_full_union ys ≡ true → ends_query r ≡ true → ends_query s ≡ true
    → NotFirst (Fixed Union) r → NotFirst (Fixed Union) s → union_then xs r ≡ union_then ys s → (xs ≡ ys) × (r ≡ s)
unions_are_one xs ys r s g h c d m n e =
    listed_one query_then is_full_query ends_query (Fixed Union) queries_are_one (λ ts. refl) xs ys r s g h c d m n e

pub close_union : (ts : List Token) → NotFirst (Fixed Union) (Fixed Close ∷ ts)
close_union ts us e = let m = mark_differs Close Union ts us e in grind arith

pub close_comma : (ts : List Token) → NotFirst (Fixed Comma) (Fixed Close ∷ ts)
close_comma ts us e = let m = mark_differs Close Comma ts us e in grind arith

pub bodies_are_one : (xs ys : List Query) (r s : List Token) → is_full_union xs ≡ true → is_full_union ys ≡ true
    → body_then xs r ≡ body_then ys s → (xs ≡ ys) × (r ≡ s)
bodies_are_one xs ys r s g h e =
    let both = unions_are_one xs ys (Fixed Close ∷ r) (Fixed Close ∷ s) g h refl refl (close_union r) (close_union s)
    (tail_same _ _ _ _ (tail_same _ _ _ _ e)) in
    (both.0, tail_same _ _ _ _ both.1)

pub names_are_one : (xs ys : List (List ℕ)) (r s : List Token) → some xs ≡ true → some ys ≡ true
    → listed word_then (Fixed Comma) xs (Fixed Close ∷ r) ≡ listed word_then (Fixed Comma) ys (Fixed Close ∷ s) → (xs ≡ ys) × (r ≡ s)
names_are_one xs ys r s g h e =
    let both = listed_one word_then any always (Fixed Comma) words_are_one (λ ts. refl) xs ys (Fixed Close ∷ r) (Fixed Close ∷ s)
    (some_any xs g) (some_any ys h) refl refl (close_comma r) (close_comma s) e in
    (both.0, tail_same _ _ _ _ both.1)

pub tables_are_one : AreOne table_then is_full_table always
tables_are_one x y r s g h c d e =
    let name = word_same _ _ (head_same _ _ _ _ e) in
    let names = names_are_one x.columns y.columns _ _ (and_left (some x.columns) _ g) (and_left (some y.columns) _ h) (tail_same _ _ _ _ (tail_same _ _ _ _ e)) in
    let body = bodies_are_one x.body y.body r s (and_right (some x.columns) _ g) (and_right (some y.columns) _ h) names.1 in
    (λ i. record { name = name i; columns = names.0 i; body = body.0 i }, body.1)

select_comma : (ts : List Token) → NotFirst (Fixed Comma) (Fixed Select ∷ ts)
select_comma ts us e = let m = mark_differs Select Comma ts us e in grind arith

-- a union begins with `SELECT`
pub union_comma : (qs : List Query) (rest : List Token) → some qs ≡ true → NotFirst (Fixed Comma) (union_then qs rest)
union_comma [] rest h = absurd (true≢false (sym h))
union_comma (q ∷ qs) rest h = select_comma _

pub nothing : (t : Token) → NotFirst t []
nothing t us e = cc

pub readings_are_one : (x y : Reading) → is_full x ≡ true → is_full y ≡ true → tokens_of_text x ≡ tokens_of_text y → x ≡ y
readings_are_one x y g h e =
    let tables = listed_one table_then is_full_table always (Fixed Comma) tables_are_one (λ ts. refl) x.tables y.tables (union_then x.last []) (union_then y.last [])
    (and_left (good_list is_full_table x.tables) _ g) (and_left (good_list is_full_table y.tables) _ h) refl refl
    (union_comma x.last [] (and_left (some x.last) _ (and_right (good_list is_full_table x.tables) _ g)))
    (union_comma y.last [] (and_left (some y.last) _ (and_right (good_list is_full_table y.tables) _ h)))
    (tail_same _ _ _ _ (tail_same _ _ _ _ e)) in
    let last = unions_are_one x.last y.last [] [] (and_right (good_list is_full_table x.tables) _ g) (and_right (good_list is_full_table y.tables) _ h) refl refl
    (nothing (Fixed Union)) (nothing (Fixed Union)) tables.1 in
    λ i. record { tables = tables.0 i; last = last.0 i }
