-- The matrices of a query's words and conjuncts, one after another.
use Rattle.std.proofs.Common.{◌≡◌, ℕ, zero, suc, ◌+◌, ◌<◌, nat_lt, Bool, true, false, ◌&&◌, if◌then◌else◌, Option, Some, None, Result, Ok, Err, List, [], ◌∷◌, ◌++◌, length, map, take, drop, slice_get, slice_index_or, refl, sym, ap, subst, ◌∙◌, arith, IfOk}
use Rattle.std.specs.List.{fold, list_all}
use Rattle.std.proofs.lemmas.Bool.{and_parts}
use Rattle.std.proofs.lemmas.List.{take_more, drop_more, take-map, drop-map, length-map}
use Rattle.std.proofs.lemmas.List.Folds.{list_all-map}
use Rattle.std.proofs.lemmas.Option.{get_or_from_slice_get}
use Rattle.gm_text.specs.declared.lists.Span.{Span}
use Rattle.sel_algebra.specs.declared.vocabulary.Class.{Class}
use Rattle.sel_algebra.specs.declared.vocabulary.Shape.{Shape}
use Rattle.sel_algebra.specs.declared.vocabulary.Symbol.{Symbol}
use Rattle.sel_algebra.specs.Entries.{greater_class}
use Rattle.sel_algebra.specs.Table.{Table, zero_of, one_of, times_of, plus_of}
use Rattle.sel_algebra.specs.Closure.{closure_of}
use Rattle.schema_graph.specs.Schema.{SchemaValue}
use Rattle.query_terms.specs.declared.terms.Conjunct.{Conjunct}
use Rattle.query_terms.specs.declared.terms.Rule.{Rule}
use Rattle.query_terms.specs.Values.{RuleValue, has_edge, is_word, is_conjunct, is_rule, are_rules, has_heads, have_heads, arity_of}
use Rattle.query_terms.specs.Spans.{cut}
use Rattle.query_terms.proofs.SpanLemmas.{fold_map_more, passes_mapped, cut-map}
use Rattle.query_terms.specs.Lists.{words_in, conjunct_in, conjuncts_in, rule_in, rules_in}
use Rattle.skeletons.specs.Skeleton.{spine_of}
use Rattle.query_draw.specs.Values.{spine, greatest_of}
use Rattle.query_draw.specs.Wide.{symbol_matrix, times_symbol, word_matrix, plus_word, union_matrix, conjunct_matrix, times_conjunct}

-- ---- lists

fold_snoc : {X Y : Type 0} (f : Y → X → Y) (a : Y) (xs : List X) (x : X) → fold f a (xs ++ x ∷ []) ≡ f (fold f a xs) x
fold_snoc f a [] x = refl
fold_snoc f a (y ∷ xs) x = fold_snoc f (f a y) xs x

passes_take : {X : Type 0} (p : X → Bool) (n : ℕ) (xs : List X) → list_all p xs ≡ true → list_all p (take n xs) ≡ true
passes_take p zero xs all = refl
passes_take p (suc n) [] all = refl
passes_take p (suc n) (x ∷ xs) all =
    let (one, rest) = and_parts (p x) (list_all p xs) all in
    (λ k. one k && list_all p (take n xs)) ∙ passes_take p n xs rest

passes_drop : {X : Type 0} (p : X → Bool) (n : ℕ) (xs : List X) → list_all p xs ≡ true → list_all p (drop n xs) ≡ true
passes_drop p zero xs all = all
passes_drop p (suc n) [] all = refl
passes_drop p (suc n) (x ∷ xs) all = passes_drop p n xs (and_parts (p x) (list_all p xs) all).1

pub passes_first : {X : Type 0} (p : X → Bool) (n : ℕ) (xs : List X) → list_all p xs ≡ true → list_all p (take n xs) ≡ true
passes_first p n xs all = passes_take p n xs all

-- what passes on a list passes on each part of it
pub passes_cut : {X : Type 0} (p : X → Bool) (xs : List X) (span : Span) → list_all p xs ≡ true → list_all p (cut xs span) ≡ true
passes_cut p xs span all = passes_take p span.count (drop span.first xs) (passes_drop p span.first xs all)

pub if_ok : {T E : Type 0} (P Q : T → Type 0) → ((x : T) → P x → Q x) → (r : Result T E) → IfOk r P → IfOk r Q
if_ok P Q f (Ok x) p = f x p
if_ok P Q f (Err e) p = p

-- ---- words

pub word_more : (g : SchemaValue) (a m b : Table) (word : List Symbol) (i : ℕ) (d : Symbol) → i < length word → a ≡ fold (times_symbol g) (one_of g.kinds) (take i word)
    → m ≡ symbol_matrix g (slice_index_or word i d) → b ≡ times_of a m → b ≡ fold (times_symbol g) (one_of g.kinds) (take (i + 1) word)
word_more g a m b word i d lt so_far next product =
    product ∙ ((λ k. times_of (so_far k) (next k))
    ∙ sym (ap (fold (times_symbol g) (one_of g.kinds)) (take_more word i d lt) ∙ fold_snoc (times_symbol g) (one_of g.kinds) (take i word) (slice_index_or word i d)))

pub word_edges : (n : ℕ) (symbols : List Symbol) (words : List Span) (i : ℕ) (d : Span) → list_all (is_word n) (words_in symbols words) ≡ true → i < length words
    → list_all (has_edge n) (cut symbols (slice_index_or words i d)) ≡ true
word_edges n symbols words i d all lt =
    let word = cut symbols (slice_index_or words i d) in
    (and_parts (nat_lt 0 (length word)) (list_all (has_edge n) word) (passes_mapped (is_word n) (cut symbols) words i d all lt)).1

pub union_more : (g : SchemaValue) (symbols : List Symbol) (a m b : Table) (words : List Span) (i : ℕ) (d : Span) → i < length words → a ≡ fold (plus_word g) (zero_of g.kinds) (words_in symbols (take i words))
    → m ≡ word_matrix g (cut symbols (slice_index_or words i d)) → b ≡ plus_of a m → b ≡ fold (plus_word g) (zero_of g.kinds) (words_in symbols (take (i + 1) words))
union_more g symbols a m b words i d lt so_far next join =
    join ∙ ((λ k. plus_of (so_far k) (next k)) ∙ sym (fold_map_more (plus_word g) (cut symbols) (zero_of g.kinds) words i d lt))

-- ---- conjuncts

pub conjunct_words : (n : ℕ) (symbols : List Symbol) (words : List Span) (c : Conjunct) → is_conjunct n (conjunct_in (words_in symbols words) c) ≡ true
    → list_all (is_word n) (words_in symbols (cut words c.words)) ≡ true
conjunct_words n symbols words c is =
    let all = cut (words_in symbols words) c.words in
    subst (λ ws. list_all (is_word n) ws ≡ true) (cut-map (cut symbols) words c.words) (and_parts (nat_lt 0 (length all)) (list_all (is_word n) all) is).1

pub plain_matrix : (g : SchemaValue) (symbols : List Symbol) (words : List Span) (c : Conjunct) (u : Table) → c.star ≡ false → u ≡ union_matrix g (words_in symbols (cut words c.words))
    → u ≡ conjunct_matrix g (conjunct_in (words_in symbols words) c)
plain_matrix g symbols words c u plain is =
    is ∙ (ap (union_matrix g) (sym (cut-map (cut symbols) words c.words)) ∙ (λ k. if sym plain k then closure_of (union_matrix g (cut (words_in symbols words) c.words)) else union_matrix g (cut (words_in symbols words) c.words)))

pub starred_matrix : (g : SchemaValue) (symbols : List Symbol) (words : List Span) (c : Conjunct) (u : Table) → c.star ≡ true → u ≡ union_matrix g (words_in symbols (cut words c.words))
    → closure_of u ≡ conjunct_matrix g (conjunct_in (words_in symbols words) c)
starred_matrix g symbols words c u starred is =
    ap closure_of (is ∙ ap (union_matrix g) (sym (cut-map (cut symbols) words c.words)))
    ∙ (λ k. if sym starred k then closure_of (union_matrix g (cut (words_in symbols words) c.words)) else union_matrix g (cut (words_in symbols words) c.words))

pub got_is : {X : Type 0} (xs : List X) (i : ℕ) (x : X) → slice_get xs i ≡ Some x → slice_index_or xs i x ≡ x
got_is xs i x is = get_or_from_slice_get xs i x x is

pub got_within : {X : Type 0} (xs : List X) (i : ℕ) (x : X) → slice_get xs i ≡ Some x → i < length xs
got_within [] i x is = absurd (cc)
got_within (y ∷ xs) zero x is = omega arith
got_within (y ∷ xs) (suc i) x is = let rest = got_within xs i x is in omega (arith, rest)

pub spine_more : (g : SchemaValue) (symbols : List Symbol) (spans : List Span) (a m b : Table) (cs : List Conjunct) (i : ℕ) (c : Conjunct) → i < length cs → slice_index_or cs i c ≡ c
    → a ≡ fold (times_conjunct g) (one_of g.kinds) (conjuncts_in symbols spans (take i cs)) → m ≡ conjunct_matrix g (conjunct_in (words_in symbols spans) c) → b ≡ times_of a m
    → b ≡ fold (times_conjunct g) (one_of g.kinds) (conjuncts_in symbols spans (take (i + 1) cs))
spine_more g symbols spans a m b cs i c lt at so_far next product =
    let there : m ≡ conjunct_matrix g (conjunct_in (words_in symbols spans) (slice_index_or cs i c)) = next ∙ ap (λ x. conjunct_matrix g (conjunct_in (words_in symbols spans) x)) (sym at) in
    product ∙ ((λ k. times_of (so_far k) (there k)) ∙ sym (fold_map_more (times_conjunct g) (conjunct_in (words_in symbols spans)) (one_of g.kinds) cs i c lt))

-- ---- classes

greater-assoc : (a b c : Option Class) → greater_class a (greater_class b c) ≡ greater_class (greater_class a b) c
greater-assoc None b c = refl
greater-assoc (Some a) None c = refl
greater-assoc (Some a) (Some b) None = grind (arith)
greater-assoc (Some a) (Some b) (Some c) = grind (arith)

-- the greatest class, with that of one more rule
pub greatest_more : (f : RuleValue → Option Class) (all : Option Class) (wide new : Option Class) (rules : List RuleValue) (i : ℕ) (d : RuleValue) → i < length rules
    → all ≡ greater_class wide (greatest_of (map f (drop i rules))) → new ≡ greater_class wide (f (slice_index_or rules i d)) → all ≡ greater_class new (greatest_of (map f (drop (i + 1) rules)))
greatest_more f all wide new rules i d lt so_far next =
    so_far ∙ (ap (λ xs. greater_class wide (greatest_of (map f xs))) (drop_more rules i d lt)
    ∙ (greater-assoc wide (f (slice_index_or rules i d)) (greatest_of (map f (drop (i + 1) rules))) ∙ ap (λ x. greater_class x (greatest_of (map f (drop (i + 1) rules)))) (sym next)))

-- ---- rules

middle : (a b c : Bool) → (a && b && c) ≡ true → b ≡ true
middle a b c all = grind (arith)

-- the conjuncts of a rule name edges of the schema
pub rule_conjuncts_pass : (n : ℕ) (symbols : List Symbol) (words : List Span) (conjuncts first : List Conjunct) (rule : Rule) (m : ℕ) → is_rule n (rule_in (conjuncts_in symbols words conjuncts) rule) ≡ true
    → first ≡ take m (cut conjuncts rule.conjuncts) → list_all (is_conjunct n) (conjuncts_in symbols words first) ≡ true
rule_conjuncts_pass n symbols words conjuncts first rule m is are =
    let whole = conjunct_in (words_in symbols words) in
    let all = cut (conjuncts_in symbols words conjuncts) rule.conjuncts in
    let pass = middle (nat_lt 0 (length all)) (list_all (is_conjunct n) all) (has_heads (rule_in (conjuncts_in symbols words conjuncts) rule)) is in
    let part : take m all ≡ map whole first = ap (take m) (cut-map whole conjuncts rule.conjuncts) ∙ (take-map whole m (cut conjuncts rule.conjuncts) ∙ ap (map whole) (sym are)) in
    subst (λ cs. list_all (is_conjunct n) cs ≡ true) part (passes_first (is_conjunct n) m all pass)

pub spine_part : (symbols : List Symbol) (words : List Span) (conjuncts first : List Conjunct) (rule : Rule) (shape : Shape) (m : ℕ) → first ≡ take m (cut conjuncts rule.conjuncts)
    → m ≡ spine_of shape (length (cut conjuncts rule.conjuncts)) → conjuncts_in symbols words first ≡ spine shape (rule_in (conjuncts_in symbols words conjuncts) rule)
spine_part symbols words conjuncts first rule shape m are short =
    let whole = conjunct_in (words_in symbols words) in
    let cs = cut conjuncts rule.conjuncts in
    let same = cut-map whole conjuncts rule.conjuncts in
    let long : spine_of shape (length cs) ≡ spine_of shape (length (map whole cs)) = ap (spine_of shape) (sym (length-map cs whole)) in
    ap (map whole) are ∙ (sym (take-map whole m cs) ∙ ((λ k. take (short k) (map whole cs)) ∙ ((λ k. take (long k) (map whole cs)) ∙ (λ k. take (spine_of shape (length (sym same k))) (sym same k)))))

pub rules_pass : (n m : ℕ) (symbols : List Symbol) (words : List Span) (conjuncts : List Conjunct) (rules : List Rule) (i : ℕ) (d : Rule) → are_rules n (rules_in symbols words conjuncts rules) ≡ true → n ≡ m
    → i < length rules → is_rule m (rule_in (conjuncts_in symbols words conjuncts) (slice_index_or rules i d)) ≡ true
rules_pass n m symbols words conjuncts rules i d are same lt =
    let all = rules_in symbols words conjuncts rules in
    let pass = middle (nat_lt 0 (length all)) (list_all (is_rule n) all) (have_heads (arity_of all) all) are in
    let whole = rule_in (conjuncts_in symbols words conjuncts) in
    subst (λ e. is_rule e (whole (slice_index_or rules i d)) ≡ true) same (passes_mapped (is_rule n) whole rules i d pass lt)

pub got_mapped : {X Y : Type 0} (h : X → Y) (xs : List X) (i : ℕ) (d : X) → slice_index_or (map h xs) i (h d) ≡ h (slice_index_or xs i d)
got_mapped h [] i d = refl
got_mapped h (y ∷ xs) zero d = refl
got_mapped h (y ∷ xs) (suc i) d = got_mapped h xs i d
