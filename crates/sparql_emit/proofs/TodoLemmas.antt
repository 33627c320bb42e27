-- A path's text is written from a list of what is still to be written: each step of it keeps the whole text.
use Rattle.std.proofs.Common.{◌≡◌, ℕ, zero, suc, ◌+◌, ◌<◌, Bool, true, false, ◌||◌, ◌&&◌, List, [], ◌∷◌, ◌++◌, length, take, drop, get_or, Some, slice_get, refl, sym, ap, subst, ◌∙◌, arith}
use Rattle.std.specs.List.{list_all}
use Rattle.std.proofs.lemmas.Bool.{and_parts, lt-ltb}
use Rattle.std.proofs.lemmas.List.{append-nil, append_assoc, length-take-le}
use Rattle.std.proofs.lemmas.List.Folds.{list_all-append}
use Rattle.std.proofs.lemmas.Option.{slice_get_within, slice_get-get_or, get_or_from_slice_get, same_Some}
use Rattle.std.proofs.Math.Seq.{split_at}
use Rattle.path_pairs.specs.Trees.{Tree}
use Rattle.query_terms.specs.declared.terms.Term.{Term}
use Rattle.query_terms.specs.declared.terms.Term.TheVariants.{Step, Seq, Alt, Star, Opt}
use Rattle.query_terms.specs.Store.{ChildrenBelow, IsStore}
use Rattle.query_terms.specs.Trees.{tree_in, tree_of, trees_of, tree_at}
use Rattle.query_terms.proofs.SpanLemmas.{and_true}
use Rattle.query_terms.proofs.TreeLemmas.{tree_at-is}
use Rattle.sparql_emit.specs.declared.paths.Todo.{Todo}
use Rattle.sparql_emit.specs.declared.paths.Todo.TheVariants as todo
use Rattle.sparql_emit.specs.PathText.{in_parentheses, is_alt, is_seq, path_text_of}
use Rattle.sparql_emit.specs.Laws.{has_names}
use Rattle.sparql_emit.specs.Todo.{is_alt_at, is_seq_at, nested, after, step_text, step_names, parts, item_text, todo_text, item_names, item_fits, tree_weight, item_weight, todo_weight}

-- ---- the tree of a term that is in the store

pub tree_is : (terms : List Term) (k : ℕ) (t : Term) → IsStore terms → slice_get terms k ≡ Some t → tree_at terms k ≡ tree_of (trees_of terms) t
tree_is terms k t store at =
    let less : k < length terms = slice_get_within terms k t at in
    let whole : terms ≡ take k terms ++ t ∷ drop (suc k) terms =
    split_at terms k t less ∙ ap (λ u. take k terms ++ u ∷ drop (suc k) terms) (get_or_from_slice_get terms k t t at) in
    let long : length (take k terms) ≡ k = length-take-le k terms (omega (arith, less)) in
    (λ i. tree_at (whole i) (sym long i))
    ∙ (tree_at-is (take k terms) (drop (suc k) terms) t (subst (λ n. ChildrenBelow n t) (sym long) (store.children k t at))
    ∙ ap (λ ts. tree_of (trees_of ts) t) (sym whole))

-- what passes for each item of a list passes for one of them
pub list_all-get : {X : Type 0} (p : X → Bool) (xs : List X) (k : ℕ) (x : X) → list_all p xs ≡ true → slice_get xs k ≡ Some x → p x ≡ true
list_all-get p [] k x all at = absurd (omega (arith, slice_get_within [] k x at))
list_all-get p (y ∷ xs) zero x all at = ap p (sym (same_Some y x at)) ∙ (and_parts (p y) (list_all p xs) all).0
list_all-get p (y ∷ xs) (suc k) x all at = list_all-get p xs k x (and_parts (p y) (list_all p xs) all).1 at

children_more : (m n : ℕ) (t : Term) → m < n → ChildrenBelow m t → ChildrenBelow n t
children_more m n (Step label back) more below = tt
children_more m n (Seq a b) more below = (omega (arith, more, below.0), omega (arith, more, below.1))
children_more m n (Alt a b) more below = (omega (arith, more, below.0), omega (arith, more, below.1))
children_more m n (Star a) more below = omega (arith, more, below)
children_more m n (Opt a) more below = omega (arith, more, below)

-- the parts of a term of the store are terms of the store
pub parts_below : (terms : List Term) (k : ℕ) (t : Term) → IsStore terms → slice_get terms k ≡ Some t → ChildrenBelow (length terms) t
parts_below terms k t store at = children_more k (length terms) t (slice_get_within terms k t at) (store.children k t at)

pub record IsHere (terms : List Term) (k : ℕ) : Type 0 where
  pub term : Term
  pub at : slice_get terms k ≡ Some term

pub is_here : (terms : List Term) (k : ℕ) → k < length terms → IsHere terms k
is_here terms k less = record { term = get_or terms k (Star 0); at = slice_get-get_or terms k (Star 0) less }

alt_of : (trees : List Tree) (t : Term) → is_alt_at (t ∷ []) 0 ≡ is_alt (tree_of trees t)
alt_of trees (Step label back) = refl
alt_of trees (Seq first second) = refl
alt_of trees (Alt left right) = refl
alt_of trees (Star child) = refl
alt_of trees (Opt child) = refl

seq_of : (trees : List Tree) (t : Term) → is_seq_at (t ∷ []) 0 ≡ is_seq (tree_of trees t)
seq_of trees (Step label back) = refl
seq_of trees (Seq first second) = refl
seq_of trees (Alt left right) = refl
seq_of trees (Star child) = refl
seq_of trees (Opt child) = refl

-- ---- lists of what is to be written

module _ (names : List (List ℕ)) (trees : List Tree) where
  todo_text-append : (xs ys : List Todo) → todo_text names trees (xs ++ ys) ≡ todo_text names trees ys ++ todo_text names trees xs
  todo_text-append [] ys = sym (append-nil (todo_text names trees ys))
  todo_text-append (x ∷ xs) ys =
      ap (λ (bs : List ℕ). bs ++ item_text names trees x) (todo_text-append xs ys)
      ∙ append_assoc (todo_text names trees ys) (todo_text names trees xs) (item_text names trees x)

  nested_text : (b : Bool) (id : ℕ) → todo_text names trees (nested b id) ≡ in_parentheses b (path_text_of names (tree_in trees id))
  nested_text true id = refl
  nested_text false id = refl

  nested_names : (b : Bool) (id : ℕ) → list_all (item_names names trees) (nested b id) ≡ true → has_names names (tree_in trees id) ≡ true
  nested_names true id named = (and_parts (has_names names (tree_in trees id)) true named).0
  nested_names false id named = (and_parts (has_names names (tree_in trees id)) true named).0

  nested_fits : (count : ℕ) (b : Bool) (id : ℕ) → id < count → list_all (item_fits count) (nested b id) ≡ true
  nested_fits count true id less = and_true (lt-ltb id count less) refl
  nested_fits count false id less = and_true (lt-ltb id count less) refl

  after_text : (byte : ℕ) (b : Bool) (id : ℕ) → todo_text names trees (after byte b id) ≡ byte ∷ in_parentheses b (path_text_of names (tree_in trees id))
  after_text byte true id = refl
  after_text byte false id = refl

  after_names : (byte : ℕ) (b : Bool) (id : ℕ) → list_all (item_names names trees) (after byte b id) ≡ true → has_names names (tree_in trees id) ≡ true
  after_names byte true id named = (and_parts (has_names names (tree_in trees id)) true named).0
  after_names byte false id named = (and_parts (has_names names (tree_in trees id)) true named).0

  after_fits : (count byte : ℕ) (b : Bool) (id : ℕ) → id < count → list_all (item_fits count) (after byte b id) ≡ true
  after_fits count byte true id less = and_true (lt-ltb id count less) refl
  after_fits count byte false id less = and_true (lt-ltb id count less) refl

-- ---- what the text of a term consists of

module _ (names : List (List ℕ)) (terms : List Term) (store : IsStore terms) where
  alt_same : (k : ℕ) → k < length terms → is_alt_at terms k ≡ is_alt (tree_at terms k)
  alt_same k less =
      let here = is_here terms k less in
      rw here.at (alt_of (trees_of terms) here.term ∙ ap is_alt (sym (tree_is terms k here.term store here.at)))

  seq_same : (k : ℕ) → k < length terms → is_seq_at terms k ≡ is_seq (tree_at terms k)
  seq_same k less =
      let here = is_here terms k less in
      rw here.at (seq_of (trees_of terms) here.term ∙ ap is_seq (sym (tree_is terms k here.term store here.at)))

  joined_text : (a b : Bool) (first second sign : ℕ)
      → todo_text names (trees_of terms) (after sign b second ++ nested a first)
      ≡ in_parentheses a (path_text_of names (tree_at terms first)) ++ (sign ∷ in_parentheses b (path_text_of names (tree_at terms second)))
  joined_text a b first second sign =
      let trees = trees_of terms in
      todo_text-append names trees (after sign b second) (nested a first)
      ∙ (λ i. nested_text names trees a first i ++ after_text names trees sign b second i)

  parts_text : (t : Term) → ChildrenBelow (length terms) t → step_text names t ++ todo_text names (trees_of terms) (parts terms t) ≡ path_text_of names (tree_of (trees_of terms) t)
  parts_text (Step label back) below = append-nil (path_text_of names (Tree.Step label back))
  parts_text (Seq a b) below =
      joined_text (is_alt_at terms a) (is_alt_at terms b || is_seq_at terms b) a b 47
      ∙ (λ i. in_parentheses (alt_same a below.0 i) (path_text_of names (tree_at terms a))
      ++ (47 ∷ in_parentheses (alt_same b below.1 i || seq_same b below.1 i) (path_text_of names (tree_at terms b))))
  parts_text (Alt a b) below =
      joined_text false (is_alt_at terms b) a b 124
      ∙ (λ i. path_text_of names (tree_at terms a) ++ (124 ∷ in_parentheses (alt_same b below.1 i) (path_text_of names (tree_at terms b))))
  parts_text (Star a) below = λ i. 40 ∷ append_assoc (path_text_of names (tree_at terms a)) (41 ∷ []) (42 ∷ []) i
  parts_text (Opt a) below = λ i. 40 ∷ append_assoc (path_text_of names (tree_at terms a)) (41 ∷ []) (63 ∷ []) i

  joined_names : (a b : Bool) (first second sign : ℕ) → list_all (item_names names (trees_of terms)) (after sign b second ++ nested a first) ≡ true
      → (has_names names (tree_at terms first) && has_names names (tree_at terms second)) ≡ true
  joined_names a b first second sign named =
      let test = item_names names (trees_of terms) in
      let both = and_parts (list_all test (after sign b second)) (list_all test (nested a first)) (sym (list_all-append test (after sign b second) (nested a first)) ∙ named) in
      and_true (nested_names names (trees_of terms) a first both.1) (after_names names (trees_of terms) sign b second both.0)

  parts_names : (t : Term) → step_names names t ≡ true → list_all (item_names names (trees_of terms)) (parts terms t) ≡ true
      → has_names names (tree_of (trees_of terms) t) ≡ true
  parts_names (Step label back) step named = step
  parts_names (Seq a b) step named = joined_names (is_alt_at terms a) (is_alt_at terms b || is_seq_at terms b) a b 47 named
  parts_names (Alt a b) step named = joined_names false (is_alt_at terms b) a b 124 named
  parts_names (Star a) step named = (and_parts _ true named).0
  parts_names (Opt a) step named = (and_parts _ true named).0

  joined_fits : (a b : Bool) (first second sign : ℕ) → first < length terms → second < length terms
      → list_all (item_fits (length terms)) (after sign b second ++ nested a first) ≡ true
  joined_fits a b first second sign one two =
      let test = item_fits (length terms) in
      list_all-append test (after sign b second) (nested a first)
      ∙ and_true (after_fits names (trees_of terms) (length terms) sign b second two) (nested_fits names (trees_of terms) (length terms) a first one)

  parts_fit : (t : Term) → ChildrenBelow (length terms) t → list_all (item_fits (length terms)) (parts terms t) ≡ true
  parts_fit (Step label back) below = refl
  parts_fit (Seq a b) below = joined_fits (is_alt_at terms a) (is_alt_at terms b || is_seq_at terms b) a b 47 below.0 below.1
  parts_fit (Alt a b) below = joined_fits false (is_alt_at terms b) a b 124 below.0 below.1
  parts_fit (Star a) below = nested_fits names (trees_of terms) (length terms) true a below
  parts_fit (Opt a) below = nested_fits names (trees_of terms) (length terms) true a below

-- ---- the writing

module _ (names : List (List ℕ)) (terms : List Term) where
  -- what was written and what is still to be written are the whole text; its labels have names if those that are left have
  pub record Writing (all : List ℕ) (named : Bool) (out : List ℕ) (items : List Todo) : Type 0 where
    pub whole : out ++ todo_text names (trees_of terms) items ≡ all
    pub names_are : list_all (item_names names (trees_of terms)) items ≡ true → named ≡ true
    pub fit : list_all (item_fits (length terms)) items ≡ true

  pub writing_begun : (out : List ℕ) (id : ℕ) → id < length terms
      → Writing (out ++ path_text_of names (tree_at terms id)) (has_names names (tree_at terms id)) out (todo.Path id ∷ [])
  writing_begun out id less = record {
    whole = refl;
    names_are = λ named. (and_parts (has_names names (tree_at terms id)) true named).0;
    fit = and_true (lt-ltb id (length terms) less) refl;
  }

  pub writing_done : (all : List ℕ) (named : Bool) (out : List ℕ) → Writing all named out [] → (out ≡ all) × (named ≡ true)
  writing_done all named out w = (sym (append-nil out) ∙ w.whole, w.names_are refl)

-- a last item in the place of another of which the test says the same
all_same : (p : Todo → Bool) (before : List Todo) (one other : Todo) → p one ≡ p other → list_all p (before ++ one ∷ []) ≡ list_all p (before ++ other ∷ [])
all_same p before one other same =
    list_all-append p before (one ∷ []) ∙ (ap (λ b. list_all p before && (b && true)) same ∙ sym (list_all-append p before (other ∷ [])))

module _ (names : List (List ℕ)) (terms : List Term) (store : IsStore terms) (all : List ℕ) (named : Bool) (out : List ℕ) (items before : List Todo) where
  -- the last item is written
  pub item_written : (item : Todo) (more : List ℕ) → Writing names terms all named out items → items ≡ before ++ item ∷ []
      → more ≡ out ++ item_text names (trees_of terms) item → item_names names (trees_of terms) item ≡ true → Writing names terms all named more before
  item_written item more w is said name =
      let trees = trees_of terms in
      record {
        whole = ap (λ (bs : List ℕ). bs ++ todo_text names trees before) said
            ∙ (append_assoc out (item_text names trees item) (todo_text names trees before)
            ∙ (ap (λ (bs : List ℕ). out ++ bs) (sym (todo_text-append names trees before (item ∷ [])))
            ∙ (ap (λ xs. out ++ todo_text names trees xs) (sym is) ∙ w.whole)));
        names_are = λ each. w.names_are
            (ap (list_all (item_names names trees)) is ∙ (list_all-append (item_names names trees) before (item ∷ []) ∙ and_true each (and_true name refl)));
        fit = (and_parts (list_all (item_fits (length terms)) before) _
            (sym (list_all-append (item_fits (length terms)) before (item ∷ [])) ∙ (ap (list_all (item_fits (length terms))) (sym is) ∙ w.fit))).0;
      }

  -- the byte of the last item is written, and its term is left
  pub byte_written : (byte id : ℕ) (more : List ℕ) → Writing names terms all named out items → items ≡ before ++ todo.After byte id ∷ [] → more ≡ out ++ byte ∷ []
      → Writing names terms all named more (before ++ todo.Path id ∷ [])
  byte_written byte id more w is said =
      let trees = trees_of terms in
      let text = path_text_of names (tree_at terms id) in
      record {
        whole = (λ i. said i ++ todo_text-append names trees before (todo.Path id ∷ []) i)
            ∙ (append_assoc out (byte ∷ []) (text ++ todo_text names trees before)
            ∙ (ap (λ (bs : List ℕ). out ++ bs) (sym (todo_text-append names trees before (todo.After byte id ∷ [])))
            ∙ (ap (λ xs. out ++ todo_text names trees xs) (sym is) ∙ w.whole)));
        names_are = λ each. w.names_are
            (ap (list_all (item_names names trees)) is ∙ (all_same (item_names names trees) before (todo.After byte id) (todo.Path id) refl ∙ each));
        fit = all_same (item_fits (length terms)) before (todo.Path id) (todo.After byte id) refl ∙ (ap (list_all (item_fits (length terms))) (sym is) ∙ w.fit);
      }

  -- of the last item's term a step is written, or it is replaced by what its term consists of
  pub term_written : (id : ℕ) (t : Term) (more : List ℕ) (now : List Todo) → Writing names terms all named out items → items ≡ before ++ todo.Path id ∷ [] → slice_get terms id ≡ Some t
      → more ≡ out ++ step_text names t → step_names names t ≡ true → now ≡ before ++ parts terms t → Writing names terms all named more now
  term_written id t more now w is at said step now_is =
      let trees = trees_of terms in
      let below = parts_below terms id t store at in
      let same : tree_at terms id ≡ tree_of trees t = tree_is terms id t store at in
      let fits = item_fits (length terms) in
      record {
        whole = (λ i. said i ++ todo_text names trees (now_is i))
            ∙ (ap (λ (bs : List ℕ). (out ++ step_text names t) ++ bs) (todo_text-append names trees before (parts terms t))
            ∙ (append_assoc out (step_text names t) (todo_text names trees (parts terms t) ++ todo_text names trees before)
            ∙ (ap (λ (bs : List ℕ). out ++ bs)
            (sym (append_assoc (step_text names t) (todo_text names trees (parts terms t)) (todo_text names trees before))
            ∙ ((λ i. (parts_text names terms store t below ∙ ap (path_text_of names) (sym same)) i ++ todo_text names trees before)
            ∙ sym (todo_text-append names trees before (todo.Path id ∷ []))))
            ∙ (ap (λ xs. out ++ todo_text names trees xs) (sym is) ∙ w.whole))));
        names_are = λ each.
            let both = and_parts (list_all (item_names names trees) before) (list_all (item_names names trees) (parts terms t))
            (sym (list_all-append (item_names names trees) before (parts terms t)) ∙ (ap (list_all (item_names names trees)) (sym now_is) ∙ each)) in
            w.names_are
            (ap (list_all (item_names names trees)) is
            ∙ (list_all-append (item_names names trees) before (todo.Path id ∷ [])
            ∙ and_true both.0 (and_true (ap (has_names names) same ∙ parts_names names terms store t step both.1) refl)));
        fit = ap (list_all fits) now_is
            ∙ (list_all-append fits before (parts terms t)
            ∙ and_true (and_parts (list_all fits before) _ (sym (list_all-append fits before (todo.Path id ∷ [])) ∙ (ap (list_all fits) (sym is) ∙ w.fit))).0
            (parts_fit names terms store t below));
      }

-- ---- each step of it leaves less to do

module _ (trees : List Tree) where
  todo_weight-append : (xs ys : List Todo) → todo_weight trees (xs ++ ys) ≡ todo_weight trees xs + todo_weight trees ys
  todo_weight-append [] ys = omega arith
  todo_weight-append (x ∷ xs) ys = omega (arith, todo_weight-append xs ys)

  nested_weight : (b : Bool) (id : ℕ) → todo_weight trees (nested b id) < 3 + tree_weight (tree_in trees id)
  nested_weight true id = omega arith
  nested_weight false id = omega arith

  after_weight : (byte : ℕ) (b : Bool) (id : ℕ) → todo_weight trees (after byte b id) < 4 + tree_weight (tree_in trees id)
  after_weight byte true id = omega arith
  after_weight byte false id = omega arith

module _ (terms : List Term) where
  parts_weight : (t : Term) → todo_weight (trees_of terms) (parts terms t) < tree_weight (tree_of (trees_of terms) t)
  parts_weight (Step label back) = omega arith
  parts_weight (Seq a b) =
      let trees = trees_of terms in
      let one = is_alt_at terms b || is_seq_at terms b in
      omega (arith, todo_weight-append trees (after 47 one b) (nested (is_alt_at terms a) a), after_weight trees 47 one b, nested_weight trees (is_alt_at terms a) a)
  parts_weight (Alt a b) =
      let trees = trees_of terms in
      omega (arith, todo_weight-append trees (after 124 (is_alt_at terms b) b) (todo.Path a ∷ []), after_weight trees 124 (is_alt_at terms b) b)
  parts_weight (Star a) = omega arith
  parts_weight (Opt a) = omega arith

  module _ (store : IsStore terms) (items before : List Todo) where
    pub item_lighter : (item : Todo) → items ≡ before ++ item ∷ [] → 0 < item_weight (trees_of terms) item → todo_weight (trees_of terms) before < todo_weight (trees_of terms) items
    item_lighter item is some =
        let trees = trees_of terms in
        omega (arith, ap (todo_weight trees) is, todo_weight-append trees before (item ∷ []), some)

    pub term_lighter : (id : ℕ) (t : Term) (now : List Todo) → items ≡ before ++ todo.Path id ∷ [] → slice_get terms id ≡ Some t → now ≡ before ++ parts terms t
        → todo_weight (trees_of terms) now < todo_weight (trees_of terms) items
    term_lighter id t now is at now_is =
        let trees = trees_of terms in
        omega (
          arith,
          ap (todo_weight trees) is,
          ap (todo_weight trees) now_is,
          todo_weight-append trees before (parts terms t),
          todo_weight-append trees before (todo.Path id ∷ []),
          parts_weight t,
          ap tree_weight (tree_is terms id t store at),
        )

    pub after_lighter : (byte id : ℕ) (t : Term) (now : List Todo) → items ≡ before ++ todo.After byte id ∷ [] → slice_get terms id ≡ Some t → now ≡ before ++ parts terms t
        → todo_weight (trees_of terms) now < todo_weight (trees_of terms) items
    after_lighter byte id t now is at now_is =
        let trees = trees_of terms in
        omega (
          arith,
          ap (todo_weight trees) is,
          ap (todo_weight trees) now_is,
          todo_weight-append trees before (parts terms t),
          todo_weight-append trees before (todo.After byte id ∷ []),
          parts_weight t,
          ap tree_weight (tree_is terms id t store at),
        )
