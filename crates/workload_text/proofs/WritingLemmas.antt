-- Texts of which a front has been appended: of parts joined by a byte, and of lines.
use Rattle.std.proofs.Common.{◌≡◌, ℕ, ◌+◌, ◌<◌, ◌≤◌, Bool, true, false, ◌&&◌, decimal, codes, List, [], ◌∷◌, ◌++◌, length, map, take, drop, get_or, refl, sym, ap, subst, ◌∙◌, arith}
use Rattle.std.specs.List.{join_with_byte, flat_map}
use Rattle.std.proofs.lemmas.Bool.{ne_eqb}
use Rattle.std.proofs.lemmas.Bool.Decides.{nat_tests}
use Rattle.std.proofs.lemmas.Grind.{flat_map-append}
use Rattle.std.proofs.lemmas.List.{append_assoc, append-nil, take_more, take-append-drop, map-append, length-map, length-take-le, take-map}
use Rattle.std.proofs.Math.Numerals.{add-one}
use Rattle.std.proofs.lemmas.Simd.{map-map}
use Rattle.graph_text.specs.EdgesText.{AppendsPart}
use Rattle.graph_text.proofs.PartLemmas.{AppendsPart-more, AppendsPart-after}
use Rattle.sel_algebra.specs.declared.vocabulary.Kind.{Kind}
use Rattle.sel_algebra.specs.declared.vocabulary.Symbol.{Symbol}
use Rattle.schema_graph.specs.declared.edge.SchemaEdge.{SchemaEdge}
use Rattle.query_terms.specs.declared.query.Query.{Query}
use Rattle.query_terms.specs.declared.terms.Conjunct.{Conjunct}
use Rattle.query_terms.specs.declared.terms.Heads.{Heads}
use Rattle.query_terms.specs.declared.terms.Rule.{Rule}
use Rattle.query_terms.specs.Spans.{cut}
use Rattle.query_terms.specs.Lists.{words_in, heads_in, is_heads}
use Rattle.query_terms.proofs.SpanLemmas.{cut-map}
use Rattle.workload_text.specs.declared.writing.Word.{Word}
use Rattle.workload_text.specs.declared.writing.Word.TheVariants.{Variable}
use Rattle.workload_text.specs.Lines.{WrittenSymbol, WorkLine, line_bytes, lines_text, written, symbol_word, path_word, union_word, expr_word, variable_word, head_lines, label_lines, type_lines, edge_line, rule_lines, conjunct_line}
use Rattle.workload_text.specs.Lines.WorkLine.{FirstLine, LabelLine, TypeLine, RuleLine}
use Rattle.workload_text.specs.Values.{HeadValue}
use Rattle.workload_text.specs.Writing.{word_bytes, gap, mark, conjunct_of, conjuncts_lines, rule_of, rules_lines}

-- two parts have been appended
pub appended-two : (old middle new first second text : List ℕ) → middle ≡ old ++ first → new ≡ middle ++ second → first ++ second ≡ text → new ≡ old ++ text
appended-two old middle new first second text before put is =
    put ∙ ap (λ bs. bs ++ second) before ∙ append_assoc old first second ∙ ap (λ bs. old ++ bs) is

-- a front has been appended, and a part of the item that follows
pub AppendsPart-stopped : (old middle new front item rest whole : List ℕ) → whole ≡ (front ++ item) ++ rest
    → middle ≡ old ++ front → AppendsPart middle new item → AppendsPart old new whole
AppendsPart-stopped old middle new front item rest whole is before part =
    subst (AppendsPart old new) (sym is) (AppendsPart-more old new (front ++ item) rest (AppendsPart-after old new middle front item before part))

-- ---- parts joined by a byte

gap-some : (b : ℕ) (w : List ℕ) (ws : List (List ℕ)) → gap b (length (w ∷ ws)) ≡ b ∷ []
gap-some b w ws = rw (ne_eqb (length (w ∷ ws)) 0 (λ none. omega arith)) refl

join-push : (b : ℕ) (ws : List (List ℕ)) (w : List ℕ) → join_with_byte b (ws ++ w ∷ []) ≡ join_with_byte b ws ++ (gap b (length ws) ++ w)
join-push b [] w = refl
join-push b (v ∷ []) w = refl
join-push b (v ∷ u ∷ ws) w =
    ap (λ bs. v ++ (b ∷ bs)) (join-push b (u ∷ ws) w ∙ ap (λ g. join_with_byte b (u ∷ ws) ++ (g ++ w)) (gap-some b u ws))
    ∙ sym (append_assoc v (b ∷ join_with_byte b (u ∷ ws)) (b ∷ w))
    ∙ ap (λ g. join_with_byte b (v ∷ u ∷ ws) ++ (g ++ w)) (sym (gap-some b v (u ∷ ws)))

join-front : (b : ℕ) (xs ys : List (List ℕ)) → (rest : List ℕ) × (join_with_byte b (xs ++ ys) ≡ join_with_byte b xs ++ rest)
join-front b [] ys = (join_with_byte b ys, refl)
join-front b (x ∷ []) [] = ([], sym (append-nil x))
join-front b (x ∷ []) (y ∷ ys) = (b ∷ join_with_byte b (y ∷ ys), refl)
join-front b (x ∷ z ∷ xs) ys =
    let front = join-front b (z ∷ xs) ys in
    (front.0, ap (λ bs. x ++ (b ∷ bs)) front.1 ∙ sym (append_assoc x (b ∷ join_with_byte b (z ∷ xs)) front.0))

-- parts that stand for the items of a list, one for each
pub record Parts {X : Type 0} (M : List X → List (List ℕ)) : Type 0 where
  pub split : (xs ys : List X) → M (xs ++ ys) ≡ M xs ++ M ys
  pub len : (xs : List X) → length (M xs) ≡ length xs

module _ {X : Type 0} (M : List X → List (List ℕ)) (parts : Parts M) (b : ℕ) (xs : List X) (i : ℕ) (d : X) (in_range : i < length xs)
    (item : List ℕ) (one : M (get_or xs i d ∷ []) ≡ item ∷ []) where
  -- the parts before an index, and then its own
  joined-more : join_with_byte b (M (take (i + 1) xs)) ≡ join_with_byte b (M (take i xs)) ++ (gap b i ++ item)
  joined-more =
      let at : length (M (take i xs)) ≡ i = omega (arith, parts.len (take i xs), length-take-le i xs (omega (arith, in_range))) in
      ap (λ ys. join_with_byte b (M ys)) (take_more xs i d in_range)
      ∙ ap (join_with_byte b) (parts.split (take i xs) (get_or xs i d ∷ []) ∙ ap (λ ws. M (take i xs) ++ ws) one)
      ∙ join-push b (M (take i xs)) item
      ∙ ap (λ n. join_with_byte b (M (take i xs)) ++ (gap b n ++ item)) at

  -- and those after it
  joined-whole : (rest : List ℕ) × (join_with_byte b (M xs) ≡ (join_with_byte b (M (take i xs)) ++ (gap b i ++ item)) ++ rest)
  joined-whole =
      let front = join-front b (M (take (i + 1) xs)) (M (drop (i + 1) xs)) in
      let all : M (take (i + 1) xs) ++ M (drop (i + 1) xs) ≡ M xs =
      sym (parts.split (take (i + 1) xs) (drop (i + 1) xs)) ∙ ap M (take-append-drop (i + 1) xs) in
      (front.0, ap (join_with_byte b) (sym all) ∙ (front.1 ∙ ap (λ bs. bs ++ front.0) joined-more))

  module _ (old first : List ℕ) (so_far : first ≡ old ++ join_with_byte b (M (take i xs))) where
    -- the part with an index has been appended
    pub joined-step : (middle new : List ℕ) → middle ≡ first ++ gap b i → new ≡ middle ++ item → new ≡ old ++ join_with_byte b (M (take (i + 1) xs))
    joined-step middle new gapped put =
        rw (put, gapped, so_far, joined-more) (simp append_assoc)

    -- it was refused at what stands before the part
    pub joined-gap : (new : List ℕ) → AppendsPart first new (gap b i) → AppendsPart old new (join_with_byte b (M xs))
    joined-gap new part =
        let whole = joined-whole in
        AppendsPart-stopped old first new (join_with_byte b (M (take i xs))) (gap b i) (item ++ whole.0) (join_with_byte b (M xs))
        (whole.1 ∙ simp append_assoc) so_far part

    -- it was refused at the part
    pub joined-item : (middle new : List ℕ) → middle ≡ first ++ gap b i → AppendsPart middle new item → AppendsPart old new (join_with_byte b (M xs))
    joined-item middle new gapped part =
        let whole = joined-whole in
        AppendsPart-stopped old middle new (join_with_byte b (M (take i xs)) ++ gap b i) item whole.0 (join_with_byte b (M xs))
        (whole.1 ∙ simp append_assoc) (rw (gapped, so_far) (append_assoc old (join_with_byte b (M (take i xs))) (gap b i))) part

-- a symbol is its mark and its number
pub symbol_word-parts : (s : Symbol) → mark s.back ++ decimal s.edge ≡ symbol_word (written s)
symbol_word-parts s = by s.back
  where
    by : (back : Bool) → mark back ++ decimal s.edge ≡ symbol_word (record { back = back; number = decimal s.edge })
    by true = refl
    by false = refl

-- the symbols of a word, and the words of a conjunct
pub Parts-symbols : Parts (λ symbols. map symbol_word (map written symbols))
Parts-symbols = record {
  split = λ xs ys. ap (map symbol_word) (map-append written xs ys) ∙ map-append symbol_word (map written xs) (map written ys);
  len = λ xs. length-map (map written xs) symbol_word ∙ length-map xs written;
}

pub Parts-words : (symbols : List Symbol) → Parts (λ words. map path_word (map (map written) (words_in symbols words)))
Parts-words symbols = record {
  split = λ xs ys. ap (λ ws. map path_word (map (map written) ws)) (map-append (cut symbols) xs ys)
      ∙ ap (map path_word) (map-append (map written) (words_in symbols xs) (words_in symbols ys))
      ∙ map-append path_word (map (map written) (words_in symbols xs)) (map (map written) (words_in symbols ys));
  len = λ xs. length-map (map (map written) (words_in symbols xs)) path_word ∙ length-map (words_in symbols xs) (map written) ∙ length-map xs (cut symbols);
}

-- the words of a line
pub Parts-line : Parts (map word_bytes)
Parts-line = record { split = map-append word_bytes; len = λ xs. length-map xs word_bytes }

-- words that are repeated
pub expr_word-starred : (star : Bool) (words : List (List WrittenSymbol)) → star ≡ true
    → (40 ∷ []) ++ (union_word words ++ codes ")*") ≡ expr_word star words
expr_word-starred true words starred = refl
expr_word-starred false words starred = cc

pub and-true : (b : Bool) → b ≡ true → (b && true) ≡ true
and-true b is = λ i. is i && true

-- ---- lines

pub lines_text-append : (xs ys : List WorkLine) → lines_text (xs ++ ys) ≡ lines_text xs ++ lines_text ys
lines_text-append xs ys = flat_map-append (λ line. line_bytes line ++ 10 ∷ []) xs ys

-- the text of one line
pub line-text : (line : WorkLine) → lines_text (line ∷ []) ≡ line_bytes line ++ 10 ∷ []
line-text line = append-nil (line_bytes line ++ 10 ∷ [])

-- the words of a conjunct's line
pub conjunct-text : (q : Query) (c : Conjunct)
    → join_with_byte 32 (variable_word (decimal c.src) ∷ expr_word c.star (map (map written) (words_in q.symbols.now (cut q.words.now c.words))) ∷ variable_word (decimal c.trg) ∷ []) ++ 10 ∷ []
    ≡ lines_text (conjunct_line (conjunct_of q c) ∷ [])
conjunct-text q c =
    ap (λ ws. join_with_byte 32 (variable_word (decimal c.src) ∷ expr_word c.star (map (map written) ws) ∷ variable_word (decimal c.trg) ∷ []) ++ 10 ∷ [])
    (sym (cut-map (cut q.symbols.now) q.words.now c.words))
    ∙ sym (line-text (conjunct_line (conjunct_of q c)))

-- the words of a rule's line
pub rule-words : (first : Word) (vars : List ℕ) (count : ℕ) → length vars ≡ 4
    → map word_bytes (take (count + 1) (first ∷ Variable (get_or vars 0 0) ∷ Variable (get_or vars 1 0) ∷ Variable (get_or vars 2 0) ∷ Variable (get_or vars 3 0) ∷ []))
    ≡ word_bytes first ∷ map variable_word (map decimal (take count vars))
rule-words first [] count four = absurd (omega (arith, four))
rule-words first (a ∷ []) count four = absurd (omega (arith, four))
rule-words first (a ∷ b ∷ []) count four = absurd (omega (arith, four))
rule-words first (a ∷ b ∷ c ∷ []) count four = absurd (omega (arith, four))
rule-words first (a ∷ b ∷ c ∷ d ∷ e ∷ more) count four = absurd (omega (arith, four))
rule-words first (a ∷ b ∷ c ∷ d ∷ []) count four =
    let vars : List ℕ = a ∷ b ∷ c ∷ d ∷ [] in
    rw (add-one count) (ap (λ ws. word_bytes first ∷ ws)
    (sym (take-map word_bytes count (Variable a ∷ Variable b ∷ Variable c ∷ Variable d ∷ []))
    ∙ (take-map (λ v. variable_word (decimal v)) count vars ∙ sym (map-map variable_word decimal (take count vars)))))

-- a rule's line, and the lines of its conjuncts
rule_of-lines : (q : Query) (r : Rule)
    → rule_lines (rule_of q r) ≡ RuleLine (map decimal (heads_in r.heads)) ∷ conjuncts_lines q (cut q.conjuncts.now r.conjuncts)
rule_of-lines q r = ap (λ cs. RuleLine (map decimal (heads_in r.heads)) ∷ map conjunct_line cs) (cut-map (conjunct_of q) q.conjuncts.now r.conjuncts)

has_four : (h : Heads) → is_heads h ≡ true → length h.vars ≡ 4
has_four h is = grind (arith, nat_tests)

-- its text
pub rule-text : (q : Query) (r : Rule) (first : Word) → is_heads r.heads ≡ true → word_bytes first ≡ codes "rule"
    → (join_with_byte 32 (map word_bytes (take (r.heads.count + 1) (first ∷ Variable (get_or r.heads.vars 0 0) ∷ Variable (get_or r.heads.vars 1 0)
    ∷ Variable (get_or r.heads.vars 2 0) ∷ Variable (get_or r.heads.vars 3 0) ∷ []))) ++ 10 ∷ []) ++ lines_text (conjuncts_lines q (cut q.conjuncts.now r.conjuncts))
    ≡ lines_text (rule_lines (rule_of q r))
rule-text q r first heads is =
    let four : length r.heads.vars ≡ 4 = has_four r.heads heads in
    let words = rule-words first r.heads.vars r.heads.count four ∙ ap (λ w. w ∷ map variable_word (map decimal (heads_in r.heads))) is in
    ap (λ ws. (join_with_byte 32 ws ++ 10 ∷ []) ++ lines_text (conjuncts_lines q (cut q.conjuncts.now r.conjuncts))) words
    ∙ ap lines_text (sym (rule_of-lines q r))

-- ---- texts one after another

module _ {X : Type 0} (T : List X → List ℕ) (split : (xs ys : List X) → T (xs ++ ys) ≡ T xs ++ T ys) (xs : List X) (i : ℕ) (d x : X)
    (at : get_or xs i d ≡ x) (in_range : i < length xs) where
  -- the text of those before an index, and then its own
  text-more : T (take (i + 1) xs) ≡ T (take i xs) ++ T (x ∷ [])
  text-more = ap T (take_more xs i d in_range) ∙ split (take i xs) (get_or xs i d ∷ []) ∙ ap (λ y. T (take i xs) ++ T (y ∷ [])) at

  -- and that of those after it
  text-whole : T xs ≡ (T (take i xs) ++ T (x ∷ [])) ++ T (drop (i + 1) xs)
  text-whole = ap T (sym (take-append-drop (i + 1) xs)) ∙ split (take (i + 1) xs) (drop (i + 1) xs)
      ∙ ap (λ bs. bs ++ T (drop (i + 1) xs)) text-more

  module _ (old first item : List ℕ) (so_far : first ≡ old ++ T (take i xs)) (one : T (x ∷ []) ≡ item) where
    -- the text of the one with an index has been appended
    pub text-step : (new : List ℕ) → new ≡ first ++ item → new ≡ old ++ T (take (i + 1) xs)
    text-step new put =
        appended-two old first new (T (take i xs)) item (T (take (i + 1) xs)) so_far put (sym (text-more ∙ ap (λ bs. T (take i xs) ++ bs) one))

    -- it was refused
    pub text-stopped : (new : List ℕ) → AppendsPart first new item → AppendsPart old new (T xs)
    text-stopped new part =
        AppendsPart-stopped old first new (T (take i xs)) item (T (drop (i + 1) xs)) (T xs)
        (text-whole ∙ ap (λ bs. (T (take i xs) ++ bs) ++ T (drop (i + 1) xs)) one) so_far part

pub split-labels : (xs ys : List (List ℕ)) → lines_text (label_lines (xs ++ ys)) ≡ lines_text (label_lines xs) ++ lines_text (label_lines ys)
split-labels xs ys = ap lines_text (map-append LabelLine xs ys) ∙ lines_text-append (label_lines xs) (label_lines ys)

pub split-edges : (xs ys : List SchemaEdge) → lines_text (map edge_line (xs ++ ys)) ≡ lines_text (map edge_line xs) ++ lines_text (map edge_line ys)
split-edges xs ys = ap lines_text (map-append edge_line xs ys) ∙ lines_text-append (map edge_line xs) (map edge_line ys)

pub split-conjuncts : (q : Query) (xs ys : List Conjunct)
    → lines_text (conjuncts_lines q (xs ++ ys)) ≡ lines_text (conjuncts_lines q xs) ++ lines_text (conjuncts_lines q ys)
split-conjuncts q xs ys =
    ap (λ cs. lines_text (map conjunct_line cs)) (map-append (conjunct_of q) xs ys)
    ∙ ap lines_text (map-append conjunct_line (map (conjunct_of q) xs) (map (conjunct_of q) ys))
    ∙ lines_text-append (conjuncts_lines q xs) (conjuncts_lines q ys)

pub split-rules : (q : Query) (xs ys : List Rule) → lines_text (rules_lines q (xs ++ ys)) ≡ lines_text (rules_lines q xs) ++ lines_text (rules_lines q ys)
split-rules q xs ys =
    ap (λ rs. lines_text (flat_map rule_lines rs)) (map-append (rule_of q) xs ys)
    ∙ ap lines_text (flat_map-append rule_lines (map (rule_of q) xs) (map (rule_of q) ys))
    ∙ lines_text-append (rules_lines q xs) (rules_lines q ys)

-- the lines of a head, part by part
pub head-text : (h : HeadValue)
    → (line_bytes (FirstLine h.format) ++ 10 ∷ []) ++ (lines_text (label_lines h.labels) ++ (lines_text (type_lines h.types h.schema.kinds) ++ lines_text (map edge_line h.schema.edges)))
    ≡ lines_text (head_lines h)
head-text h =
    let tail = lines_text-append (type_lines h.types h.schema.kinds) (map edge_line h.schema.edges) in
    let rest = lines_text-append (label_lines h.labels) (type_lines h.types h.schema.kinds ++ map edge_line h.schema.edges) in
    ap (λ bs. (line_bytes (FirstLine h.format) ++ 10 ∷ []) ++ bs) (ap (λ bs. lines_text (label_lines h.labels) ++ bs) (sym tail) ∙ sym rest)

-- ---- the lines of types

type_lines-append : (ns ms : List (List ℕ)) (ks ls : List Kind) → length ns ≡ length ks → type_lines (ns ++ ms) (ks ++ ls) ≡ type_lines ns ks ++ type_lines ms ls
type_lines-append [] ms [] ls same = refl
type_lines-append [] ms (k ∷ ks) ls same = absurd (omega (arith, same))
type_lines-append (n ∷ ns) ms [] ls same = absurd (omega (arith, same))
type_lines-append (n ∷ ns) ms (k ∷ ks) ls same = ap (λ lines. TypeLine n k ∷ lines) (type_lines-append ns ms ks ls (omega (arith, same)))

module _ (ns : List (List ℕ)) (ks : List Kind) (same : length ks ≡ length ns) (i : ℕ) (d : List ℕ) (e : Kind) (x : List ℕ)
    (at : get_or ns i d ≡ x) (in_range : i < length ns) where
  abbrev pub types-text : ℕ → List ℕ
  types-text n = lines_text (type_lines (take n ns) (take n ks))

  same-take : (n : ℕ) → n ≤ length ns → length (take n ns) ≡ length (take n ks)
  same-take n few = omega (arith, length-take-le n ns few, length-take-le n ks (omega (arith, few, same)))

  types-more : types-text (i + 1) ≡ types-text i ++ lines_text (TypeLine x (get_or ks i e) ∷ [])
  types-more =
      ap lines_text ((λ j. type_lines (take_more ns i d in_range j) (take_more ks i e (omega (arith, in_range, same)) j))
      ∙ type_lines-append (take i ns) (get_or ns i d ∷ []) (take i ks) (get_or ks i e ∷ []) (same-take i (omega (arith, in_range))))
      ∙ lines_text-append (type_lines (take i ns) (take i ks)) (TypeLine (get_or ns i d) (get_or ks i e) ∷ [])
      ∙ ap (λ y. types-text i ++ lines_text (TypeLine y (get_or ks i e) ∷ [])) at

  types-whole : lines_text (type_lines ns ks)
      ≡ (types-text i ++ lines_text (TypeLine x (get_or ks i e) ∷ [])) ++ lines_text (type_lines (drop (i + 1) ns) (drop (i + 1) ks))
  types-whole =
      ap lines_text ((λ j. type_lines (sym (take-append-drop (i + 1) ns) j) (sym (take-append-drop (i + 1) ks) j))
      ∙ type_lines-append (take (i + 1) ns) (drop (i + 1) ns) (take (i + 1) ks) (drop (i + 1) ks) (same-take (i + 1) (omega (arith, in_range))))
      ∙ lines_text-append (type_lines (take (i + 1) ns) (take (i + 1) ks)) (type_lines (drop (i + 1) ns) (drop (i + 1) ks))
      ∙ ap (λ bs. bs ++ lines_text (type_lines (drop (i + 1) ns) (drop (i + 1) ks))) types-more

  module _ (old first item : List ℕ) (so_far : first ≡ old ++ types-text i) (one : lines_text (TypeLine x (get_or ks i e) ∷ []) ≡ item) where
    pub types-step : (new : List ℕ) → new ≡ first ++ item → new ≡ old ++ lines_text (type_lines (take (i + 1) ns) (take (i + 1) ks))
    types-step new put =
        appended-two old first new (types-text i) item (types-text (i + 1)) so_far put (sym (types-more ∙ ap (λ bs. types-text i ++ bs) one))

    pub types-stopped : (new : List ℕ) → AppendsPart first new item → AppendsPart old new (lines_text (type_lines ns ks))
    types-stopped new part =
        AppendsPart-stopped old first new (types-text i) item (lines_text (type_lines (drop (i + 1) ns) (drop (i + 1) ks))) (lines_text (type_lines ns ks))
        (types-whole ∙ ap (λ bs. (types-text i ++ bs) ++ lines_text (type_lines (drop (i + 1) ns) (drop (i + 1) ks))) one) so_far part
