-- A builder keeps its terms with its lists.
use Rattle.std.proofs.Common.{◌≡◌, ℕ, ◌+◌, ◌<◌, Bool, true, ◌==◌, List, [], ◌∷◌, ◌++◌, length, Some, None, is_some, refl, sym, ap, ◌∙◌, arith}
use Rattle.std.proofs.lemmas.Bool.{and_parts, lt-ltb, eqb-true, eq-eqb}
use Rattle.std.proofs.lemmas.List.{append_assoc, append-nil}
use Rattle.std.proofs.lemmas.List.Folds.{list_all-append}
use Rattle.std.proofs.lemmas.List.Sums.{fold_push}
use Rattle.std.proofs.lemmas.Grind.{flat_map-append}
use Rattle.std.specs.List.{list_all}
use Rattle.sel_algebra.specs.declared.vocabulary.Symbol.{Symbol}
use Rattle.query_terms.specs.declared.terms.Term.{Term}
use Rattle.query_terms.specs.Values.{ConjunctValue, RuleValue, conjuncts_of, has_edge, is_word, is_conjunct, has_heads, is_rule, have_heads, arity_of}
use Rattle.query_terms.specs.Store.{Placed, put_of}
use Rattle.query_terms.specs.Numbering.{step_of, then_symbol, put_word, then_word, put_union, put_conjunct, then_conjunct, numbered}
use Rattle.query_terms.specs.Building.{symbols_most}
use Rattle.query_terms.specs.Underway.{Underway, underway, underway_from, with_step, with_choice, with_end, closed}
use Rattle.query_terms.specs.Layout.{LayoutValue, with_conjunct, with_rule}
use Rattle.query_terms.specs.Tied.{IsBuilding}
use Rattle.query_terms.proofs.SpanLemmas.{and_true}

-- the conjuncts so far
abbrev pub all_of : LayoutValue → List ConjunctValue
all_of l = conjuncts_of l.rules ++ l.conjuncts

pub step-underway : (labels : List ℕ) (words : List (List Symbol)) (word : List Symbol) (p : Placed) (s : Symbol)
    → with_step (underway_from labels words word p) (step_of labels s) ≡ underway_from labels words (word ++ s ∷ []) p
step-underway labels words [] p s = refl
step-underway labels words (t ∷ word) p s =
    let more : put_word labels p.terms ((t ∷ word) ++ s ∷ []) ≡ then_symbol labels (put_word labels p.terms (t ∷ word)) s =
    fold_push (then_symbol labels) (put_of p.terms (step_of labels t)) word s in
    λ i. record (underway_from labels words (t ∷ word) p) { terms = (sym more i).terms; word = Some (sym more i).number }

choice-underway : (labels : List ℕ) (terms : List Term) (words : List (List Symbol)) (s : Symbol) (word : List Symbol)
    → with_choice (underway_from labels words (s ∷ word) (put_union labels terms words)) ≡ underway_from labels (words ++ (s ∷ word) ∷ []) [] (put_union labels terms (words ++ (s ∷ word) ∷ []))
choice-underway labels terms [] s word = refl
choice-underway labels terms (v ∷ words) s word =
    let more : put_union labels terms ((v ∷ words) ++ (s ∷ word) ∷ []) ≡ then_word labels (put_union labels terms (v ∷ words)) (s ∷ word) =
    fold_push (then_word labels) (put_word labels terms v) words (s ∷ word) in
    λ i. record { terms = (sym more i).terms; word = None; union = Some (sym more i).number }

closed-underway : (labels : List ℕ) (cs : List ConjunctValue) (v : List Symbol) (words : List (List Symbol)) (src trg : ℕ) (star : Bool)
    → closed star (underway labels cs (v ∷ words) []) ≡ put_conjunct labels (numbered labels cs).terms (record { src = src; trg = trg; star = star; words = v ∷ words })
closed-underway labels cs v words src trg star = refl

pub numbered-push : (labels : List ℕ) (cs : List ConjunctValue) (c : ConjunctValue) → numbered labels (cs ++ c ∷ []) ≡ then_conjunct labels (numbered labels cs) c
numbered-push labels cs c = fold_push (then_conjunct labels) (record { terms = []; numbers = [] }) cs c

push-all : {X : Type 0} (p : X → Bool) (xs : List X) (x : X) → list_all p xs ≡ true → p x ≡ true → list_all p (xs ++ x ∷ []) ≡ true
push-all p xs x all one = list_all-append p xs (x ∷ []) ∙ and_true all (and_true one refl)

-- nothing was put in
pub tied_new : (labels : List ℕ) → IsBuilding labels (record { rules = []; conjuncts = []; words = []; word = []; numbers = []; taken = 0 }) (record { terms = []; word = None; union = None })
tied_new labels = record {
  terms_are = refl;
  numbers_are = refl;
  few_symbols = omega arith;
  rules = refl;
  heads = refl;
  conjuncts = refl;
  words = refl;
  word = refl;
}

-- a symbol more
pub tied_symbol : (labels : List ℕ) (l : LayoutValue) (u v : Underway) (s : Symbol) → IsBuilding labels l u → has_edge (length labels) s ≡ true → l.taken < symbols_most
    → v ≡ with_step u (step_of labels s) → IsBuilding labels (record l { word = l.word ++ s ∷ []; taken = l.taken + 1 }) v
tied_symbol labels l u v s is edge room goes =
    let N = (numbered labels (all_of l)).terms in
    record {
      terms_are = goes ∙ (ap (λ w. with_step w (step_of labels s)) is.terms_are ∙ step-underway labels l.words l.word (put_union labels N l.words) s);
      numbers_are = is.numbers_are;
      few_symbols = omega (arith, room);
      rules = is.rules;
      heads = is.heads;
      conjuncts = is.conjuncts;
      words = is.words;
      word = push-all (has_edge (length labels)) l.word s is.word edge;
    }

-- where a word has a symbol, its term is known
word-begun : (labels : List ℕ) (words : List (List Symbol)) (word : List Symbol) (p : Placed) → 0 < length word → is_some (underway_from labels words word p).word ≡ true
word-begun labels words [] p some = absurd (omega (arith, some))
word-begun labels words (s ∷ word) p some = refl

pub begun_word : (labels : List ℕ) (l : LayoutValue) (u : Underway) → IsBuilding labels l u → 0 < length l.word → is_some u.word ≡ true
begun_word labels l u is some = ap (λ w. is_some w.word) is.terms_are ∙ word-begun labels l.words l.word (put_union labels (numbered labels (all_of l)).terms l.words) some

pub choice-step : (labels : List ℕ) (terms : List Term) (words : List (List Symbol)) (word : List Symbol) → 0 < length word
    → with_choice (underway_from labels words word (put_union labels terms words)) ≡ underway_from labels (words ++ word ∷ []) [] (put_union labels terms (words ++ word ∷ []))
choice-step labels terms words [] some = absurd (omega (arith, some))
choice-step labels terms words (s ∷ word) some = choice-underway labels terms words s word

-- a word more
pub tied_word : (labels : List ℕ) (l : LayoutValue) (u v : Underway) → IsBuilding labels l u → 0 < length l.word
    → v ≡ with_choice u → IsBuilding labels (record l { words = l.words ++ l.word ∷ []; word = [] }) v
tied_word labels l u v is some goes =
    let N = (numbered labels (all_of l)).terms in
    record {
      terms_are = goes ∙ (ap with_choice is.terms_are ∙ choice-step labels N l.words l.word some);
      numbers_are = is.numbers_are;
      few_symbols = is.few_symbols;
      rules = is.rules;
      heads = is.heads;
      conjuncts = is.conjuncts;
      words = push-all (is_word (length labels)) l.words l.word is.words (and_true (lt-ltb 0 (length l.word) some) is.word);
      word = refl;
    }

begun-union : (labels : List ℕ) (words : List (List Symbol)) (word : List Symbol) (p : Placed) → 0 < length words → is_some (underway_from labels words word p).union ≡ true
begun-union labels [] word p some = absurd (omega (arith, some))
begun-union labels (w ∷ words) word p some = refl

pub begun_union : (labels : List ℕ) (l : LayoutValue) (u : Underway) → IsBuilding labels l u → 0 < length l.words → is_some u.union ≡ true
begun_union labels l u is some = ap (λ w. is_some w.union) is.terms_are ∙ begun-union labels l.words l.word (put_union labels (numbered labels (all_of l)).terms l.words) some

pub ended_word : (labels : List ℕ) (l : LayoutValue) (u : Underway) → IsBuilding labels l u → l.word ≡ [] → u.word ≡ None
ended_word labels l u is none = ap (λ w. w.word) is.terms_are ∙ ap (λ w. (underway labels (all_of l) l.words w).word) none

pub closed-step : (labels : List ℕ) (cs : List ConjunctValue) (words : List (List Symbol)) (src trg : ℕ) (star : Bool) → 0 < length words
    → closed star (underway labels cs words []) ≡ put_conjunct labels (numbered labels cs).terms (record { src = src; trg = trg; star = star; words = words })
closed-step labels cs [] src trg star some = absurd (omega (arith, some))
closed-step labels cs (w ∷ words) src trg star some = refl

-- the number that a conjunct's term has
pub closed_is : (labels : List ℕ) (l : LayoutValue) (u : Underway) (src trg : ℕ) (star : Bool) → IsBuilding labels l u → 0 < length l.words → l.word ≡ []
    → closed star u ≡ put_conjunct labels (numbered labels (all_of l)).terms (record { src = src; trg = trg; star = star; words = l.words })
closed_is labels l u src trg star is some none =
    ap (closed star) is.terms_are ∙ (ap (λ w. closed star (underway labels (all_of l) l.words w)) none ∙ closed-step labels (all_of l) l.words src trg star some)

-- a conjunct more
pub tied_conjunct : (labels : List ℕ) (l : LayoutValue) (u v : Underway) (src trg : ℕ) (star : Bool) (term : ℕ) → IsBuilding labels l u → 0 < length l.words → l.word ≡ []
    → v ≡ with_end star u → term ≡ (closed star u).number
    → IsBuilding labels (with_conjunct l (record { src = src; trg = trg; star = star; words = l.words }) term) v
tied_conjunct labels l u v src trg star term is some none goes at =
    let c : ConjunctValue = record { src = src; trg = trg; star = star; words = l.words } in
    let closes = closed_is labels l u src trg star is some none in
    let more : conjuncts_of l.rules ++ (l.conjuncts ++ c ∷ []) ≡ all_of l ++ c ∷ [] = sym (append_assoc (conjuncts_of l.rules) l.conjuncts (c ∷ [])) in
    let all : numbered labels (conjuncts_of l.rules ++ (l.conjuncts ++ c ∷ [])) ≡ then_conjunct labels (numbered labels (all_of l)) c =
    ap (numbered labels) more ∙ numbered-push labels (all_of l) c in
    record {
      terms_are = goes
          ∙ ((λ i. record { terms = ((λ j. (closes j).terms) ∙ (λ j. (sym all j).terms)) i; word = None; union = None })
          ∙ ap (λ w. underway labels (conjuncts_of l.rules ++ (l.conjuncts ++ c ∷ [])) [] w) (sym none));
      numbers_are = (λ i. is.numbers_are i ++ (at ∙ (λ j. (closes j).number)) i ∷ []) ∙ (λ i. (sym all i).numbers);
      few_symbols = is.few_symbols;
      rules = is.rules;
      heads = is.heads;
      conjuncts = push-all (is_conjunct (length labels)) l.conjuncts c is.conjuncts (and_true (lt-ltb 0 (length l.words) some) is.words);
      words = refl;
      word = is.word;
    }

heads-push : (rules : List RuleValue) (r : RuleValue) → have_heads (length r.heads) rules ≡ true → have_heads (arity_of rules) rules ≡ true
    → have_heads (arity_of (rules ++ r ∷ [])) (rules ++ r ∷ []) ≡ true
heads-push [] r same all = and_true (eq-eqb (length r.heads) (length r.heads) refl) refl
heads-push (s ∷ rules) r same all =
    push-all (λ t. length t.heads == length s.heads) (s ∷ rules) r all (eq-eqb (length r.heads) (length s.heads) (sym (eqb-true (length s.heads) (length r.heads) (and_parts _ _ same).0)))

-- a rule more
pub tied_rule : (labels : List ℕ) (l : LayoutValue) (u : Underway) (heads : List ℕ) → IsBuilding labels l u → 0 < length l.conjuncts
    → have_heads (length heads) l.rules ≡ true → has_heads (record { heads = heads; conjuncts = l.conjuncts }) ≡ true
    → IsBuilding labels (with_rule l (record { heads = heads; conjuncts = l.conjuncts })) u
tied_rule labels l u heads is some same fit =
    let r : RuleValue = record { heads = heads; conjuncts = l.conjuncts } in
    let all : all_of l ≡ conjuncts_of (l.rules ++ r ∷ []) ++ [] =
    ap (λ cs. conjuncts_of l.rules ++ cs) (sym (append-nil l.conjuncts)) ∙ (sym (flat_map-append (λ t. t.conjuncts) l.rules (r ∷ [])) ∙ sym (append-nil _)) in
    record {
      terms_are = is.terms_are ∙ ap (λ cs. underway labels cs l.words l.word) all;
      numbers_are = is.numbers_are ∙ ap (λ cs. (numbered labels cs).numbers) all;
      few_symbols = is.few_symbols;
      rules = push-all (is_rule (length labels)) l.rules r is.rules (and_true (and_true (lt-ltb 0 (length l.conjuncts) some) is.conjuncts) fit);
      heads = heads-push l.rules r same is.heads;
      conjuncts = refl;
      words = is.words;
      word = is.word;
    }
