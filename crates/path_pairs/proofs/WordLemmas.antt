-- The trees of words and of unions lead where their symbols and their words lead.
use Rattle.std.proofs.Common.{◌≡◌, ◌≢◌, ◌⊎◌, ◌↔◌, inl, inr, ℕ, List, [], ◌∷◌, map, fold, refl, sym, subst, arith}
use Rattle.std.specs.List.{All, Contains}
use Rattle.sel_algebra.specs.declared.vocabulary.Symbol.{Symbol}
use Rattle.graph_text.specs.declared.graphs.Triple.{Triple}
use Rattle.path_pairs.specs.Trees.{Tree, step_tree, word_tree, union_tree}
use Rattle.path_pairs.specs.Pairs.{Pairs}
use Rattle.path_pairs.specs.Words.{WordPairs, UnionPairs}
use Rattle.path_pairs.specs.Laws.{WordsLead, UnionsLead}
use Rattle.graph_text.proofs.MemberLemmas.{Contains-first, Contains-later, Contains-cases, Contains-none}

-- ---- a path, and then symbols

symbols-from : (labels : List ℕ) (graph : List Triple) (path : Tree) (word : List Symbol) (a c : ℕ)
    → Pairs (fold Tree.Seq path (map (step_tree labels) word)) graph a c → (b : ℕ) × Pairs path graph a b × WordPairs labels graph word b c
symbols-from labels graph path [] a c h = (c, h, refl)
symbols-from labels graph path (s ∷ word) a c h =
    let later = symbols-from labels graph (Tree.Seq path (step_tree labels s)) word a c h in
    (later.1.0, later.1.1, (later.0, later.1.2, later.2))

symbols-to : (labels : List ℕ) (graph : List Triple) (path : Tree) (word : List Symbol) (a b c : ℕ)
    → Pairs path graph a b → WordPairs labels graph word b c → Pairs (fold Tree.Seq path (map (step_tree labels) word)) graph a c
symbols-to labels graph path [] a b c h w = subst (λ m. Pairs path graph a m) w h
symbols-to labels graph path (s ∷ word) a b c h w =
    symbols-to labels graph (Tree.Seq path (step_tree labels s)) word a w.0 c (b, h, w.1) w.2

pub words_lead : WordsLead
words_lead labels graph [] some a b = absurd (some refl)
words_lead labels graph (s ∷ word) some a c = (
  symbols-from labels graph (step_tree labels s) word a c,
  λ w. symbols-to labels graph (step_tree labels s) word a w.0 c w.1 w.2,
)

-- ---- a path, or one of words

words-from : (labels : List ℕ) (graph : List Triple) (path : Tree) (words : List (List Symbol)) (a b : ℕ)
    → Pairs (fold Tree.Alt path (map (word_tree labels) words)) graph a b
    → Pairs path graph a b ⊎ ((word : List Symbol) × Contains words word × Pairs (word_tree labels word) graph a b)
words-from labels graph path [] a b h = inl h
words-from labels graph path (w ∷ words) a b h =
    elim (words-from labels graph (Tree.Alt path (word_tree labels w)) words a b h) [
      | inl before ↦ elim before [ inl path ↦ inl path | inr here ↦ inr (w, Contains-first w words, here) ]
      | inr later ↦ inr (later.0, Contains-later w later.0 words later.1, later.2)
    ]

words-to : (labels : List ℕ) (graph : List Triple) (path : Tree) (words : List (List Symbol)) (a b : ℕ)
    → Pairs path graph a b → Pairs (fold Tree.Alt path (map (word_tree labels) words)) graph a b
words-to labels graph path [] a b h = h
words-to labels graph path (w ∷ words) a b h = words-to labels graph (Tree.Alt path (word_tree labels w)) words a b (inl h)

word-to : (labels : List ℕ) (graph : List Triple) (path : Tree) (words : List (List Symbol)) (word : List Symbol) (a b : ℕ) → Contains words word
    → Pairs (word_tree labels word) graph a b → Pairs (fold Tree.Alt path (map (word_tree labels) words)) graph a b
word-to labels graph path [] word a b has h = absurd (Contains-none word has)
word-to labels graph path (w ∷ words) word a b has h =
    elim (Contains-cases w word words has) [
      | inl same ↦ words-to labels graph (Tree.Alt path (word_tree labels w)) words a b (inr (subst (λ v. Pairs (word_tree labels v) graph a b) (sym same) h))
      | inr later ↦ word-to labels graph (Tree.Alt path (word_tree labels w)) words word a b later h
    ]

-- the first word, or a later one, as a tree
some_word-from : (labels : List ℕ) (graph : List Triple) (words : List (List Symbol)) → words ≢ [] → (a b : ℕ)
    → Pairs (union_tree labels words) graph a b → (word : List Symbol) × Contains words word × Pairs (word_tree labels word) graph a b
some_word-from labels graph [] some a b h = absurd (some refl)
some_word-from labels graph (w ∷ words) some a b h =
    elim (words-from labels graph (word_tree labels w) words a b h) [
      | inl here ↦ (w, Contains-first w words, here)
      | inr later ↦ (later.0, Contains-later w later.0 words later.1, later.2)
    ]

some_word-to : (labels : List ℕ) (graph : List Triple) (words : List (List Symbol)) (word : List Symbol) (a b : ℕ)
    → Contains words word → Pairs (word_tree labels word) graph a b → Pairs (union_tree labels words) graph a b
some_word-to labels graph [] word a b has h = absurd (Contains-none word has)
some_word-to labels graph (w ∷ words) word a b has h =
    elim (Contains-cases w word words has) [
      | inl same ↦ words-to labels graph (word_tree labels w) words a b (subst (λ v. Pairs (word_tree labels v) graph a b) (sym same) h)
      | inr later ↦ word-to labels graph (word_tree labels w) words word a b later h
    ]

-- what is true of each member is true of this one
member-is : {X : Type 0} (P : X → Type 0) (xs : List X) → All P xs → (x : X) → Contains xs x → P x
member-is P xs each x has = subst P has.2 (each has.0 x has.1)

pub unions_lead : UnionsLead
unions_lead labels graph words some each a b = (
  λ h. let found = some_word-from labels graph words some a b h in
      (found.0, found.1, (words_lead labels graph found.0 (member-is (λ w. w ≢ []) words each found.0 found.1) a b).0 found.2),
  λ u. some_word-to labels graph words u.0 a b u.1 ((words_lead labels graph u.0 (member-is (λ w. w ≢ []) words each u.0 u.1) a b).1 u.2),
)
