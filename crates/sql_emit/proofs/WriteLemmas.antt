-- How a text grows, item by item.
use Rattle.std.proofs.Common.{◌≡◌, ℕ, zero, suc, ◌+◌, ◌<◌, Bool, true, false, if◌then◌else◌, Option, Some, None, List, [], ◌∷◌, ◌++◌, length, take, drop, map, codes, refl, sym, ap, subst}
use Rattle.std.proofs.Common.{◌∙◌, true≢false, arith}
use Rattle.std.specs.Prelude.{◌==◌, slice_get, is_some, unwrap_or}
use Rattle.std.specs.List.{join_by, flat_map, list_all, take-map}
use Rattle.std.specs.Option.{option_or, option_map}
use Rattle.std.proofs.lemmas.Bool.Decides.{nat_tests}
use Rattle.std.proofs.lemmas.Bool.{and_parts}
use Rattle.std.proofs.lemmas.Option.{slice_get_within, slice_get-map}
use Rattle.std.proofs.lemmas.List.{append_assoc, append-nil, length-take}
use Rattle.std.proofs.lemmas.List.Folds.{list_all-append}
use Rattle.std.proofs.lemmas.Grind.{flat_map-append}
use Rattle.query_terms.specs.declared.terms.Term.{Term}
use Rattle.sql_read.specs.Grammar.{Col, Equation, Column}
use Rattle.sql_emit.specs.declared.links.Link.{Link}
use Rattle.sql_emit.specs.declared.links.LinkRule.{LinkRule}
use Rattle.sql_emit.specs.declared.columns.End.TheVariants.{Src, Trg}
use Rattle.sql_emit.specs.declared.columns.Column.{Column as CodeColumn}
use Rattle.sql_emit.specs.declared.columns.Ends.{Ends}
use Rattle.sql_emit.specs.Rules.{occurs, is_link_rule, are_link_rules}
use Rattle.sql_emit.specs.Reading.{table_name, alias_name, col, source, equal, Occurrence, occurrences_from, first_of, head_column, equation_for, equations_from, sources_from}
use Rattle.sql_emit.specs.Text.{nodes_line, term_line, tables_text, col_text, source_text, equation_text, where_text}
use Rattle.sql_emit.specs.Writing.{lead, lines_left, joint, column_view, occurrence, column_of, AreEnds}
use Rattle.sql_emit.proofs.SpellingLemmas.{list_all_weaker}
use Rattle.sql_emit.proofs.HoldsLemmas.{heads_found, rule_parts, rules_parts}

-- ---- lists

later : (i : ℕ) → suc (i + 1) ≡ suc i + 1
later i = omega arith

pub drop_at : {A : Type 0} → (xs : List A) (i : ℕ) (x : A) → slice_get xs i ≡ Some x → drop i xs ≡ x ∷ drop (i + 1) xs
drop_at [] i x at = cc
drop_at (y ∷ xs) zero x at = some_first y x xs at
  where
    some_first : {A : Type 0} → (y x : A) (xs : List A) → ◌≡◌ {A = Option A} (Some y) (Some x) → y ∷ xs ≡ x ∷ xs
    some_first y x xs e = cc
drop_at (y ∷ xs) (suc i) x at = drop_at xs i x at ∙ ap (λ (n : ℕ). x ∷ drop n (y ∷ xs)) (later i)

pub take_at : {A : Type 0} → (xs : List A) (i : ℕ) (x : A) → slice_get xs i ≡ Some x → take (i + 1) xs ≡ take i xs ++ x ∷ []
take_at [] i x at = cc
take_at (y ∷ xs) zero x at = some_only y x at
  where
    some_only : {A : Type 0} → (y x : A) → ◌≡◌ {A = Option A} (Some y) (Some x) → y ∷ [] ≡ x ∷ []
    some_only y x e = cc
take_at (y ∷ xs) (suc i) x at = ap (λ (n : ℕ). take n (y ∷ xs)) (sym (later i)) ∙ ap (λ zs. y ∷ zs) (take_at xs i x at)

-- ---- lines

pub lines_start : (terms : List Term) (old out : List ℕ) → out ≡ old ++ nodes_line → out ++ lines_left 0 terms ≡ old ++ tables_text terms
lines_start terms old out is = rw is (append_assoc old nodes_line (lines_left 0 terms))

pub lines_next : (terms : List Term) (n : ℕ) (t : Term) (all out next : List ℕ) → slice_get terms n ≡ Some t → out ++ lines_left n (drop n terms) ≡ all
    → next ≡ out ++ (codes ",\n" ++ term_line (t, n)) → next ++ lines_left (n + 1) (drop (n + 1) terms) ≡ all
lines_next terms n t all out next at so_far is =
    ap (λ (bs : List ℕ). bs ++ lines_left (n + 1) (drop (n + 1) terms)) is
    ∙ append_assoc out (codes ",\n" ++ term_line (t, n)) (lines_left (n + 1) (drop (n + 1) terms))
    ∙ ap (λ (ts : List Term). out ++ lines_left n ts) (sym (drop_at terms n t at)) ∙ so_far

pub all_more : {A : Type 0} → (p : A → Bool) (xs : List A) (i : ℕ) (x : A) → slice_get xs i ≡ Some x → list_all p (take i xs) ≡ true → p x ≡ true
    → list_all p (take (i + 1) xs) ≡ true
all_more p xs i x at so_far is = rw (take_at xs i x at, list_all-append p (take i xs) (x ∷ []), so_far, is) refl

-- ---- items with separators

not_first : (i : ℕ) → (suc i == 0) ≡ false
not_first i = grind (arith, nat_tests)

joined_push : {X : Type 0} → (f : X → List ℕ) (separator : List ℕ) (y : X) (xs : List X) (x : X)
    → join_by f separator (y ∷ (xs ++ x ∷ [])) ≡ join_by f separator (y ∷ xs) ++ (separator ++ f x)
joined_push f separator y xs x =
    ap (λ (bs : List ℕ). f y ++ bs) (flat_map-append (λ z. separator ++ f z) xs (x ∷ []))
    ∙ ap (λ (bs : List ℕ). f y ++ (flat_map (λ z. separator ++ f z) xs ++ bs)) (append-nil (separator ++ f x))
    ∙ sym (append_assoc (f y) (flat_map (λ z. separator ++ f z) xs) (separator ++ f x))

-- one item more, with what stands before it
pub joined_more : {X : Type 0} → (f : X → List ℕ) (separator : List ℕ) (xs : List X) (i : ℕ) (x : X) → slice_get xs i ≡ Some x
    → join_by f separator (take (i + 1) xs) ≡ join_by f separator (take i xs) ++ (lead i separator ++ f x)
joined_more f separator [] i x at = cc
joined_more f separator (y ∷ xs) zero x at = ap (join_by f separator) (take_at (y ∷ xs) zero x at) ∙ append-nil (f x)
joined_more f separator (y ∷ xs) (suc i) x at =
    ap (join_by f separator) (take_at (y ∷ xs) (suc i) x at) ∙ joined_push f separator y (take i xs) x
    ∙ ap (λ (bs : List ℕ). join_by f separator (y ∷ take i xs) ++ (bs ++ f x)) (sym (rw (not_first i) refl))

-- what was written before, then the first items, and then one item more
pub written_more : {X : Type 0} → (f : X → List ℕ) (separator : List ℕ) (xs : List X) (i : ℕ) (x : X) (old out led next : List ℕ) → slice_get xs i ≡ Some x
    → out ≡ old ++ join_by f separator (take i xs) → led ≡ out ++ lead i separator → next ≡ led ++ f x → next ≡ old ++ join_by f separator (take (i + 1) xs)
written_more f separator xs i x old out led next at so_far is more =
    more ∙ ap (λ (bs : List ℕ). bs ++ f x) is ∙ append_assoc out (lead i separator) (f x)
    ∙ ap (λ (bs : List ℕ). bs ++ (lead i separator ++ f x)) so_far ∙ append_assoc old (join_by f separator (take i xs)) (lead i separator ++ f x)
    ∙ ap (λ (bs : List ℕ). old ++ bs) (sym (joined_more f separator xs i x at))

-- ---- ends

first_push : (os : List Occurrence) (o : Occurrence) (v : ℕ) → first_of (os ++ o ∷ []) v ≡ option_or (first_of os v) (if o.variable == v then Some o.at else None)
first_push [] o v = refl
first_push (p ∷ os) o v = either (p.variable == v) (first_push os o v)
  where
    either : (b : Bool) → first_of (os ++ o ∷ []) v ≡ option_or (first_of os v) (if o.variable == v then Some o.at else None)
        → (if b then Some p.at else first_of (os ++ o ∷ []) v) ≡ option_or (if b then Some p.at else first_of os v) (if o.variable == v then Some o.at else None)
    either true e = refl
    either false e = e

equations_push : (before os : List Occurrence) (o : Occurrence)
    → equations_from before (os ++ o ∷ []) ≡ equations_from before os ++ equation_for (first_of (before ++ os) o.variable) o.at
equations_push before [] o = append-nil _ ∙ ap (λ bs. equation_for (first_of bs o.variable) o.at) (sym (append-nil before))
equations_push before (p ∷ os) o =
    ap (λ es. equation_for (first_of before p.variable) p.at ++ es)
    (equations_push (before ++ p ∷ []) os o
    ∙ ap (λ bs. equations_from (before ++ p ∷ []) os ++ equation_for (first_of bs o.variable) o.at) (append_assoc before (p ∷ []) os))
    ∙ sym (append_assoc (equation_for (first_of before p.variable) p.at) (equations_from (before ++ p ∷ []) os) _)

where_push : (es : List Equation) (e : Equation) → where_text (es ++ e ∷ []) ≡ where_text es ++ (joint (length (where_text es) == 0) ++ equation_text e)
where_push [] e = ap (λ (bs : List ℕ). codes " WHERE " ++ bs) (append-nil (equation_text e))
where_push (d ∷ es) e =
    ap (λ (bs : List ℕ). codes " WHERE " ++ bs) (joined_push equation_text (codes " AND ") d es e)
    ∙ ap (λ b. where_text (d ∷ es) ++ (joint b ++ equation_text e)) (sym (not_first _))

-- an occurrence of a variable that occurred, in a column that is equal to its first
firsts_again : (os : List Occurrence) (o : Occurrence) → is_some (first_of os o.variable) ≡ true → (w : ℕ) → first_of os w ≡ first_of (os ++ o ∷ []) w
firsts_again os o there w = either (first_of os w) (o.variable == w) found ∙ sym (first_push os o w)
  where
    either : (first : Option Col) (b : Bool) → (b ≡ true → is_some first ≡ true) → first ≡ option_or first (if b then Some o.at else None)
    either (Some c) b h = refl
    either None true h = absurd (true≢false (sym (h refl)))
    either None false h = refl

    found : (o.variable == w) ≡ true → is_some (first_of os w) ≡ true
    found e = let same : o.variable ≡ w = grind (arith, nat_tests) in subst (λ v. is_some (first_of os v) ≡ true) same there

-- an occurrence of a variable that did not occur
firsts_new : (os : List Occurrence) (o : Occurrence) → first_of os o.variable ≡ None → (w : ℕ)
    → (if o.variable == w then Some o.at else first_of os w) ≡ first_of (os ++ o ∷ []) w
firsts_new os o none w = either (first_of os w) (o.variable == w) absent ∙ sym (first_push os o w)
  where
    either : (first : Option Col) (b : Bool) → (b ≡ true → first ≡ None) → (if b then Some o.at else first) ≡ option_or first (if b then Some o.at else None)
    either first true h = rw (h refl) refl
    either None false h = refl
    either (Some c) false h = refl

    absent : (o.variable == w) ≡ true → first_of os w ≡ None
    absent e = let same : o.variable ≡ w = grind (arith, nat_tests) in subst (λ v. first_of os v ≡ None) same none

equations_again : (os : List Occurrence) (o : Occurrence) (c : Col) (old next : List ℕ) → first_of os o.variable ≡ Some c → old ≡ where_text (equations_from [] os)
    → next ≡ old ++ (joint (length old == 0) ++ equation_text (equal c (Column o.at))) → next ≡ where_text (equations_from [] (os ++ o ∷ []))
equations_again os o c old next first is more =
    more ∙ ap (λ (bs : List ℕ). bs ++ (joint (length bs == 0) ++ equation_text (equal c (Column o.at)))) is
    ∙ sym (where_push (equations_from [] os) (equal c (Column o.at)))
    ∙ ap (λ found. where_text (equations_from [] os ++ equation_for found o.at)) (sym first)
    ∙ ap where_text (sym (equations_push [] os o))

equations_new : (os : List Occurrence) (o : Occurrence) (old : List ℕ) → first_of os o.variable ≡ None → old ≡ where_text (equations_from [] os)
    → old ≡ where_text (equations_from [] (os ++ o ∷ []))
equations_new os o old none is =
    is ∙ ap where_text (sym (append-nil (equations_from [] os)))
    ∙ ap (λ found. where_text (equations_from [] os ++ equation_for found o.at)) (sym none)
    ∙ ap where_text (sym (equations_push [] os o))

pub ends_again : (os : List Occurrence) (v : ℕ) (first column : CodeColumn) (old new : Ends) → AreEnds os old → Some first ≡ column_of old v
    → ((w : ℕ) → column_of new w ≡ column_of old w)
    → new.equations.items ≡ old.equations.items ++ (joint (length old.equations.items == 0) ++ equation_text (equal (column_view first) (Column (column_view column))))
    → AreEnds (os ++ occurrence v column ∷ []) new
ends_again os v first column old new are found same more =
    let here : first_of os v ≡ Some (column_view first) = sym (are.firsts v) ∙ ap (option_map column_view) (sym found) in
    record {
      firsts = λ w. ap (option_map column_view) (same w) ∙ are.firsts w ∙ firsts_again os (occurrence v column) (ap is_some here) w;
      equations = equations_again os (occurrence v column) (column_view first) old.equations.items new.equations.items here are.equations more;
    }

pub ends_new : (os : List Occurrence) (v : ℕ) (column : CodeColumn) (old new : Ends) → AreEnds os old → None ≡ column_of old v
    → ((w : ℕ) → column_of new w ≡ (if v == w then Some column else column_of old w))
    → new.equations.items ≡ old.equations.items → AreEnds (os ++ occurrence v column ∷ []) new
ends_new os v column old new are none same kept =
    let here : first_of os v ≡ None = sym (are.firsts v) ∙ ap (option_map column_view) (sym none) in
    record {
      firsts = λ w. ap (option_map column_view) (same w) ∙ viewed w (v == w) ∙ firsts_new os (occurrence v column) here w;
      equations = kept ∙ equations_new os (occurrence v column) old.equations.items here are.equations;
    }
  where
    viewed : (w : ℕ) (b : Bool) → option_map column_view (if b then Some column else column_of old w) ≡ (if b then Some (column_view column) else first_of os w)
    viewed w true = refl
    viewed w false = are.firsts w

occurrences_push : (links : List Link) (k : ℕ) (l : Link) (n : ℕ) → n ≡ k + length links
    → occurrences_from k (links ++ l ∷ [])
    ≡ (occurrences_from k links ++ occurrence l.src (record { link = n; end = Src }) ∷ []) ++ occurrence l.trg (record { link = n; end = Trg }) ∷ []
occurrences_push [] k l n is =
    let same : n ≡ k = omega (arith, is) in
    subst (λ m. occurrences_from k (l ∷ []) ≡ occurrence l.src (record { link = m; end = Src }) ∷ occurrence l.trg (record { link = m; end = Trg }) ∷ []) (sym same) refl
occurrences_push (x ∷ links) k l n is =
    ap (λ os. record { variable = x.src; at = col (alias_name k) (codes "src") } ∷ record { variable = x.trg; at = col (alias_name k) (codes "trg") } ∷ os)
    (occurrences_push links (k + 1) l n (omega (arith, is)))

pub occurrences_more : (links : List Link) (i : ℕ) (l : Link) → slice_get links i ≡ Some l
    → occurrences_from 0 (take (i + 1) links)
    ≡ (occurrences_from 0 (take i links) ++ occurrence l.src (record { link = i; end = Src }) ∷ []) ++ occurrence l.trg (record { link = i; end = Trg }) ∷ []
occurrences_more links i l at =
    let within : i < length links = slice_get_within links i l at in
    ap (occurrences_from 0) (take_at links i l at) ∙ occurrences_push (take i links) 0 l i (let n = length-take i links in omega (arith, n, within))

-- ---- sources and heads

sources_take : (links : List Link) (k i : ℕ) → sources_from k (take i links) ≡ take i (sources_from k links)
sources_take links k zero = refl
sources_take [] k (suc i) = refl
sources_take (l ∷ links) k (suc i) = ap (λ ss. source (table_name l.term) (alias_name k) ∷ ss) (sources_take links (k + 1) i)

sources_at : (links : List Link) (k i : ℕ) (l : Link) (n : ℕ) → n ≡ k + i → slice_get links i ≡ Some l
    → slice_get (sources_from k links) i ≡ Some (source (table_name l.term) (alias_name n))
sources_at [] k i l n is at = cc
sources_at (x ∷ links) k zero l n is at =
    let same : n ≡ k = omega (arith, is) in
    rw same (ap (option_map (λ m. source (table_name m.term) (alias_name k))) at)
sources_at (x ∷ links) k (suc i) l n is at = sources_at links (k + 1) i l n (omega (arith, is)) at

pub sources_more : (links : List Link) (i : ℕ) (l : Link) (old out led next : List ℕ) → slice_get links i ≡ Some l
    → out ≡ old ++ join_by source_text (codes ", ") (sources_from 0 (take i links)) → led ≡ out ++ lead i (codes ", ")
    → next ≡ led ++ source_text (source (table_name l.term) (alias_name i))
    → next ≡ old ++ join_by source_text (codes ", ") (sources_from 0 (take (i + 1) links))
sources_more links i l old out led next at so_far is more =
    written_more source_text (codes ", ") (sources_from 0 links) i (source (table_name l.term) (alias_name i)) old out led next
    (sources_at links 0 i l i (omega arith) at)
    (so_far ∙ ap (λ ss. old ++ join_by source_text (codes ", ") ss) (sources_take links 0 i)) is more
    ∙ ap (λ ss. old ++ join_by source_text (codes ", ") ss) (sym (sources_take links 0 (i + 1)))

pub heads_more : (os : List Occurrence) (heads : List ℕ) (i v : ℕ) (column : CodeColumn) (ends : Ends) (old out led next : List ℕ) → slice_get heads i ≡ Some v
    → AreEnds os ends → Some column ≡ column_of ends v
    → out ≡ old ++ join_by col_text (codes ", ") (map (head_column os) (take i heads)) → led ≡ out ++ lead i (codes ", ") → next ≡ led ++ col_text (column_view column)
    → next ≡ old ++ join_by col_text (codes ", ") (map (head_column os) (take (i + 1) heads))
heads_more os heads i v column ends old out led next at are found so_far is more =
    let first : first_of os v ≡ Some (column_view column) = sym (are.firsts v) ∙ ap (option_map column_view) (sym found) in
    let head : head_column os v ≡ column_view column = ap (λ c. unwrap_or c (col [] [])) first in
    written_more col_text (codes ", ") (map (head_column os) heads) i (column_view column) old out led next
    (slice_get-map (head_column os) heads i ∙ ap (option_map (head_column os)) at ∙ ap (λ c. Some c) head)
    (so_far ∙ ap (λ cs. old ++ join_by col_text (codes ", ") cs) (sym (take-map (head_column os) i heads))) is more
    ∙ ap (λ cs. old ++ join_by col_text (codes ", ") cs) (take-map (head_column os) (i + 1) heads)

some_map : {A B : Type 0} → (f : A → B) (o : Option A) → is_some (option_map f o) ≡ is_some o
some_map f None = refl
some_map f (Some x) = refl

-- heads that occur have a first column
pub heads_have_columns : (links : List Link) (heads : List ℕ) (ends : Ends) → AreEnds (occurrences_from 0 links) ends → list_all (occurs links) heads ≡ true
    → list_all (λ v. is_some (column_of ends v)) heads ≡ true
heads_have_columns links heads ends are all =
    list_all_weaker (λ v. is_some (first_of (occurrences_from 0 links) v)) (λ v. is_some (column_of ends v))
    (λ v e. sym (some_map column_view (column_of ends v)) ∙ ap is_some (are.firsts v) ∙ e) heads (heads_found links heads all)

-- ---- rules

-- five parts, one after the other
pub five_written : (a b c d e f p q r s t : List ℕ) → b ≡ a ++ p → c ≡ b ++ q → d ≡ c ++ r → e ≡ d ++ s → f ≡ e ++ t
    → f ≡ a ++ (p ++ (q ++ (r ++ (s ++ t))))
five_written a b c d e f p q r s t is_b is_c is_d is_e is_f =
    is_f ∙ ap (λ (bs : List ℕ). bs ++ t) (is_e ∙ ap (λ (bs : List ℕ). bs ++ s) (is_d ∙ ap (λ (bs : List ℕ). bs ++ r) (is_c ∙ ap (λ (bs : List ℕ). bs ++ q) is_b)))
    ∙ append_assoc (((a ++ p) ++ q) ++ r) s t ∙ append_assoc ((a ++ p) ++ q) r (s ++ t) ∙ append_assoc (a ++ p) q (r ++ (s ++ t))
    ∙ append_assoc a p (q ++ (r ++ (s ++ t)))

heads_part : (terms : ℕ) (r : LinkRule) → is_link_rule terms r ≡ true → list_all (occurs r.links) r.heads ≡ true
heads_part terms r e = (rule_parts terms r e).heads

pub rules_have_heads : (terms : ℕ) (rules : List LinkRule) → are_link_rules terms rules ≡ true → list_all (λ r. list_all (occurs r.links) r.heads) rules ≡ true
rules_have_heads terms rules e =
    list_all_weaker (is_link_rule terms) (λ r. list_all (occurs r.links) r.heads) (heads_part terms) rules (rules_parts terms rules e).are

pub all_at : {A : Type 0} → (p : A → Bool) (xs : List A) (i : ℕ) (x : A) → slice_get xs i ≡ Some x → list_all p xs ≡ true → p x ≡ true
all_at p [] i x at all = cc
all_at p (y ∷ xs) zero x at all = let same : y ≡ x = some_same y x at in subst (λ z. p z ≡ true) same (and_parts (p y) (list_all p xs) all).0
  where
    some_same : {A : Type 0} → (y x : A) → ◌≡◌ {A = Option A} (Some y) (Some x) → y ≡ x
    some_same y x e = cc
all_at p (y ∷ xs) (suc i) x at all = all_at p xs i x at (and_parts (p y) (list_all p xs) all).1
