-- The trees of terms: a term keeps its tree as the store grows, and what is put for words has the words' trees.
use Rattle.std.proofs.Common.{◌≡◌, ℕ, suc, ◌<◌, ◌≤◌, Bool, true, false, nat_lt, List, [], ◌∷◌, ◌++◌, length, map, take, drop, fold, get_or, Some, if◌then◌else◌, refl, sym, ap, subst, ◌∙◌, inl, inr, arith}
use Rattle.std.proofs.lemmas.Bool.{and_parts, cases_lt, lt-ltb, ltb-true}
use Rattle.std.proofs.lemmas.List.{append-nil, append_assoc, length-append, get_or_push, get_or_append_left, length-take-le, map-append}
use Rattle.std.proofs.lemmas.List.Sums.{fold_push, fold-append}
use Rattle.std.proofs.lemmas.Option.{slice_get_within, slice_get-get_or}
use Rattle.std.specs.List.{list_all}
use Rattle.path_pairs.specs.Trees.{Tree, step_tree, word_tree, union_tree}
use Rattle.sel_algebra.specs.declared.vocabulary.Symbol.{Symbol}
use Rattle.query_terms.specs.declared.terms.Term.{Term}
use Rattle.query_terms.specs.declared.terms.Term.TheVariants.{Step, Seq, Alt, Star, Opt}
use Rattle.query_terms.specs.Values.{ConjunctValue, is_word, is_conjunct}
use Rattle.query_terms.specs.Store.{ChildrenBelow, IsStore, Placed, number_of, put_of}
use Rattle.query_terms.specs.Numbering.{step_of, in_sequence, then_symbol, put_word, in_choice, then_word, put_union, starred, put_conjunct, Numbered, with_number, then_conjunct, numbered}
use Rattle.query_terms.specs.Trees.{tree_in, tree_of, with_tree, trees_of, tree_at}
use Rattle.query_terms.specs.Laws.{TermsKeepTrees, PutIsTree, ConjunctsAreTrees, tree_of_conjunct}
use Rattle.query_terms.proofs.SpanLemmas.{and_true, list_all_more, map_where}
use Rattle.std.proofs.lemmas.List.Folds.{list_all-append}
use Rattle.std.proofs.Math.Seq.{split_at}
use Rattle.query_terms.proofs.StoreLemmas.{number_of-there, put_is_there, put_is_new, store_push}

-- the trees of more terms are added at the end
abbrev more_trees : List Tree → List Term → List Tree
more_trees done [] = []
more_trees done (t ∷ terms) = tree_of done t ∷ more_trees (with_tree done t) terms

trees-more : (done : List Tree) (terms : List Term) → fold with_tree done terms ≡ done ++ more_trees done terms
trees-more done [] = sym (append-nil done)
trees-more done (t ∷ terms) = trees-more (with_tree done t) terms ∙ append_assoc done (tree_of done t ∷ []) (more_trees (with_tree done t) terms)

length-more : (done : List Tree) (terms : List Term) → length (more_trees done terms) ≡ length terms
length-more done [] = refl
length-more done (t ∷ terms) = ap suc (length-more (with_tree done t) terms)

length-trees : (terms : List Term) → length (trees_of terms) ≡ length terms
length-trees terms = ap length (trees-more [] terms) ∙ length-more [] terms

pub terms_keep : TermsKeepTrees
terms_keep terms more n within =
    ap (λ trees. tree_in trees n) (fold-append with_tree [] terms more ∙ trees-more (trees_of terms) more)
    ∙ get_or_append_left (trees_of terms) (more_trees (trees_of terms) more) (Tree.Step 0 false) n (omega (arith, within, length-trees terms))

tree_at-push : (terms : List Term) (term : Term) → tree_at (terms ++ term ∷ []) (length terms) ≡ tree_of (trees_of terms) term
tree_at-push terms term =
    ap (λ trees. tree_in trees (length terms)) (fold_push with_tree [] terms term)
    ∙ get_or_push (trees_of terms) (tree_of (trees_of terms) term) (Tree.Step 0 false) (length terms) (length-trees terms)

-- the tree of a term depends on the trees of its children alone
tree_of-same : (S T : List Tree) (n : ℕ) (term : Term) → ChildrenBelow n term → ((k : ℕ) → k < n → tree_in S k ≡ tree_in T k) → tree_of S term ≡ tree_of T term
tree_of-same S T n (Step label back) below same = refl
tree_of-same S T n (Seq a b) below same = λ i. Tree.Seq (same a below.0 i) (same b below.1 i)
tree_of-same S T n (Alt a b) below same = λ i. Tree.Alt (same a below.0 i) (same b below.1 i)
tree_of-same S T n (Star a) below same = ap Tree.Star (same a below)
tree_of-same S T n (Opt a) below same = ap Tree.Opt (same a below)

-- a term that is in the store has the tree of its children's trees
pub tree_at-is : (before after : List Term) (term : Term) → ChildrenBelow (length before) term
    → tree_at (before ++ term ∷ after) (length before) ≡ tree_of (trees_of (before ++ term ∷ after)) term
tree_at-is before after term below =
    let all : before ++ term ∷ after ≡ (before ++ term ∷ []) ++ after = sym (append_assoc before (term ∷ []) after) in
    ap (λ terms. tree_at terms (length before)) all
    ∙ (terms_keep (before ++ term ∷ []) after (length before) (omega (arith, length-append before (term ∷ [])))
    ∙ (tree_at-push before term
    ∙ tree_of-same (trees_of before) (trees_of (before ++ term ∷ after)) (length before) term below (λ k less. sym (terms_keep before (term ∷ after) k less))))

-- a number stands for a tree in terms that go on from others
record Stands (before : List Term) (p : Placed) (tree : Tree) : Type 0 where
  more : List Term
  grows : p.terms ≡ before ++ more
  store : IsStore p.terms
  inside : p.number < length p.terms
  is : tree_at p.terms p.number ≡ tree

there_stands : (terms : List Term) (term : Term) → IsStore terms → number_of terms term < length terms → Stands terms (record { terms = terms; number = number_of terms term }) (tree_of (trees_of terms) term)
there_stands terms term store less =
    let k = number_of terms term in
    let at : get_or terms k term ≡ term = number_of-there terms term term less in
    let whole : terms ≡ take k terms ++ term ∷ drop (suc k) terms = split_at terms k term less ∙ ap (λ t. take k terms ++ t ∷ drop (suc k) terms) at in
    let long : length (take k terms) ≡ k = length-take-le k terms (omega (arith, less)) in
    let below : ChildrenBelow k term = store.children k term (slice_get-get_or terms k term less ∙ ap Some at) in
    record {
      more = [];
      grows = sym (append-nil terms);
      store = store;
      inside = less;
      is = (λ i. tree_at (whole i) (sym long i))
          ∙ (tree_at-is (take k terms) (drop (suc k) terms) term (subst (λ n. ChildrenBelow n term) (sym long) below) ∙ ap (λ ts. tree_of (trees_of ts) term) (sym whole));
    }

new_stands : (terms : List Term) (term : Term) → IsStore terms → ChildrenBelow (length terms) term → length terms ≤ number_of terms term
    → Stands terms (record { terms = terms ++ term ∷ []; number = length terms }) (tree_of (trees_of terms) term)
new_stands terms term store below most = record {
  more = term ∷ [];
  grows = refl;
  store = store_push terms term store below most;
  inside = omega (arith, length-append terms (term ∷ []));
  is = tree_at-push terms term;
}

put_stands : (terms : List Term) (term : Term) → IsStore terms → ChildrenBelow (length terms) term → Stands terms (put_of terms term) (tree_of (trees_of terms) term)
put_stands terms term store below = elim (cases_lt (number_of terms term) (length terms)) [
  | inl less ↦ subst (λ p. Stands terms p (tree_of (trees_of terms) term)) (sym (put_is_there terms term less)) (there_stands terms term store less)
  | inr most ↦ subst (λ p. Stands terms p (tree_of (trees_of terms) term)) (sym (put_is_new terms term most)) (new_stands terms term store below most)
]

pub put_is_tree : PutIsTree
put_is_tree terms term store below = (put_stands terms term store below).is

-- a term over two that stand
pair_stands : (before : List Term) (p q : Placed) (a b : Tree) (term : Term) → Stands before p a → Stands p.terms q b → ChildrenBelow (length q.terms) term
    → (r : Tree) → tree_of (trees_of q.terms) term ≡ r → Stands before (put_of q.terms term) r
pair_stands before p q a b term sp sq below r is =
    let s = put_stands q.terms term sq.store below in
    record {
      more = sp.more ++ (sq.more ++ s.more);
      grows = s.grows ∙ ((λ i. (sq.grows ∙ (λ j. sp.grows j ++ sq.more)) i ++ s.more)
          ∙ (append_assoc (before ++ sp.more) sq.more s.more ∙ append_assoc before sp.more (sq.more ++ s.more)));
      store = s.store;
      inside = s.inside;
      is = s.is ∙ is;
    }

-- a number that stands does so in terms that go on
kept_tree : (before : List Term) (p q : Placed) (a b : Tree) → Stands before p a → Stands p.terms q b → (p.number < length q.terms) × (tree_at q.terms p.number ≡ a)
kept_tree before p q a b sp sq = (
  omega (arith, sp.inside, ap length sq.grows, length-append p.terms sq.more),
  ap (λ ts. tree_at ts p.number) sq.grows ∙ (terms_keep p.terms sq.more p.number sp.inside ∙ sp.is),
)

sequence_stands : (before : List Term) (p q : Placed) (a b : Tree) → Stands before p a → Stands p.terms q b → Stands before (in_sequence p.number q) (Tree.Seq a b)
sequence_stands before p q a b sp sq =
    let k = kept_tree before p q a b sp sq in
    pair_stands before p q a b (Seq p.number q.number) sp sq (k.0, sq.inside) (Tree.Seq a b) (λ i. Tree.Seq (k.1 i) (sq.is i))

choice_stands : (before : List Term) (p q : Placed) (a b : Tree) → Stands before p a → Stands p.terms q b → Stands before (in_choice p.number q) (Tree.Alt a b)
choice_stands before p q a b sp sq =
    let k = kept_tree before p q a b sp sq in
    pair_stands before p q a b (Alt p.number q.number) sp sq (k.0, sq.inside) (Tree.Alt a b) (λ i. Tree.Alt (k.1 i) (sq.is i))

symbols_stand : (labels : List ℕ) (before : List Term) (p : Placed) (tree : Tree) (word : List Symbol) → Stands before p tree
    → Stands before (fold (then_symbol labels) p word) (fold Tree.Seq tree (map (step_tree labels) word))
symbols_stand labels before p tree [] s = s
symbols_stand labels before p tree (x ∷ word) s =
    symbols_stand labels before (then_symbol labels p x) (Tree.Seq tree (step_tree labels x)) word
    (sequence_stands before p (put_of p.terms (step_of labels x)) tree (step_tree labels x) s (put_stands p.terms (step_of labels x) s.store tt))

word_stands : (labels : List ℕ) (edges : ℕ) (terms : List Term) (word : List Symbol) → IsStore terms → is_word edges word ≡ true → Stands terms (put_word labels terms word) (word_tree labels word)
word_stands labels edges terms [] store h = absurd (omega (arith, ltb-true 0 0 (and_parts (nat_lt 0 0) true h).0))
word_stands labels edges terms (x ∷ word) store h =
    symbols_stand labels terms (put_of terms (step_of labels x)) (step_tree labels x) word (put_stands terms (step_of labels x) store tt)

words_stand : (labels : List ℕ) (edges : ℕ) (before : List Term) (p : Placed) (tree : Tree) (words : List (List Symbol)) → Stands before p tree → list_all (is_word edges) words ≡ true
    → Stands before (fold (then_word labels) p words) (fold Tree.Alt tree (map (word_tree labels) words))
words_stand labels edges before p tree [] s h = s
words_stand labels edges before p tree (w ∷ words) s h =
    words_stand labels edges before (then_word labels p w) (Tree.Alt tree (word_tree labels w)) words
    (choice_stands before p (put_word labels p.terms w) tree (word_tree labels w) s (word_stands labels edges p.terms w s.store (and_parts _ _ h).0)) (and_parts _ _ h).1

union_stands : (labels : List ℕ) (edges : ℕ) (terms : List Term) (words : List (List Symbol)) → IsStore terms → nat_lt 0 (length words) ≡ true → list_all (is_word edges) words ≡ true
    → Stands terms (put_union labels terms words) (union_tree labels words)
union_stands labels edges terms [] store some h = absurd (omega (arith, ltb-true 0 0 some))
union_stands labels edges terms (w ∷ words) store some h =
    words_stand labels edges terms (put_word labels terms w) (word_tree labels w) words (word_stands labels edges terms w store (and_parts _ _ h).0) (and_parts _ _ h).1

starred_stands : (before : List Term) (p : Placed) (tree : Tree) (star : Bool) → Stands before p tree → Stands before (starred star p) (if star then Tree.Star tree else tree)
starred_stands before p tree true s =
    let t = put_stands p.terms (Star p.number) s.store s.inside in
    record {
      more = s.more ++ t.more;
      grows = t.grows ∙ ((λ i. s.grows i ++ t.more) ∙ append_assoc before s.more t.more);
      store = t.store;
      inside = t.inside;
      is = t.is ∙ ap Tree.Star s.is;
    }
starred_stands before p tree false s = s

conjunct_stands : (labels : List ℕ) (terms : List Term) (c : ConjunctValue) → IsStore terms → is_conjunct (length labels) c ≡ true → Stands terms (put_conjunct labels terms c) (tree_of_conjunct labels c)
conjunct_stands labels terms c store h =
    starred_stands terms (put_union labels terms c.words) (union_tree labels c.words) c.star
    (union_stands labels (length labels) terms c.words store (and_parts _ _ h).0 (and_parts _ _ h).1)

-- the numbers of conjuncts stand for their trees
pub record AreNumbered (n : Numbered) (trees : List Tree) : Type 0 where
  pub store : IsStore n.terms
  pub inside : list_all (λ k. nat_lt k (length n.terms)) n.numbers ≡ true
  pub are : map (tree_at n.terms) n.numbers ≡ trees

conjunct_numbered : (n : Numbered) (trees : List Tree) (p : Placed) (tree : Tree) → AreNumbered n trees → Stands n.terms p tree → AreNumbered (with_number n.numbers p) (trees ++ tree ∷ [])
conjunct_numbered n trees p tree is s =
    let within : ℕ → Bool = λ k. nat_lt k (length n.terms) in
    let grown : (k : ℕ) → within k ≡ true → nat_lt k (length p.terms) ≡ true =
    λ k less. lt-ltb k (length p.terms) (omega (arith, ltb-true k (length n.terms) less, ap length s.grows, length-append n.terms s.more)) in
    record {
      store = s.store;
      inside = list_all-append (λ k. nat_lt k (length p.terms)) n.numbers (p.number ∷ [])
          ∙ and_true (list_all_more within (λ k. nat_lt k (length p.terms)) n.numbers grown is.inside) (and_true (lt-ltb p.number (length p.terms) s.inside) refl);
      are = map-append (tree_at p.terms) n.numbers (p.number ∷ [])
          ∙ (λ i. (map_where (tree_at p.terms) (tree_at n.terms) within n.numbers is.inside
          (λ k less. ap (λ ts. tree_at ts k) s.grows ∙ terms_keep n.terms s.more k (ltb-true k (length n.terms) less)) ∙ is.are) i ++ s.is i ∷ []);
    }

conjuncts_numbered : (labels : List ℕ) (n : Numbered) (trees : List Tree) (cs : List ConjunctValue) → AreNumbered n trees → list_all (is_conjunct (length labels)) cs ≡ true
    → AreNumbered (fold (then_conjunct labels) n cs) (trees ++ map (tree_of_conjunct labels) cs)
conjuncts_numbered labels n trees [] is h = subst (AreNumbered n) (sym (append-nil trees)) is
conjuncts_numbered labels n trees (c ∷ cs) is h =
    subst (AreNumbered (fold (then_conjunct labels) n (c ∷ cs))) (append_assoc trees (tree_of_conjunct labels c ∷ []) (map (tree_of_conjunct labels) cs))
    (conjuncts_numbered labels (then_conjunct labels n c) (trees ++ tree_of_conjunct labels c ∷ []) cs
    (conjunct_numbered n trees (put_conjunct labels n.terms c) (tree_of_conjunct labels c) is (conjunct_stands labels n.terms c is.store (and_parts _ _ h).0)) (and_parts _ _ h).1)

no_store : IsStore []
no_store = record { children = λ n term at. absurd (omega (arith, slice_get_within [] n term at)); differ = λ i j d less within. absurd (omega (arith, within)) }

pub are_numbered : (labels : List ℕ) (cs : List ConjunctValue) → list_all (is_conjunct (length labels)) cs ≡ true → AreNumbered (numbered labels cs) (map (tree_of_conjunct labels) cs)
are_numbered labels cs h =
    conjuncts_numbered labels (record { terms = []; numbers = [] }) [] cs (record { store = no_store; inside = refl; are = refl }) h

pub conjuncts_are_trees : ConjunctsAreTrees
conjuncts_are_trees labels cs h = (are_numbered labels cs h).are
