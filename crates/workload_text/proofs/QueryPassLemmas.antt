-- The lines of queries pass.
use Rattle.std.proofs.Common.{◌≡◌, ℕ, ◌+◌, ◌<◌, ◌≤◌, ◌^◌, Bool, true, false, not, ◌&&◌, ◌||◌, ◌==◌, if◌then◌else◌, decimal, Option, Some, None, is_some, Ok, List, [], ◌∷◌, ◌++◌, length, map, All, refl, sym, ap, subst, ◌∙◌, arith, true≢false}
use Rattle.std.specs.Prelude.{nat_lt}
use Rattle.std.specs.List.{list_all, flat_map}
use Rattle.std.proofs.lemmas.Bool.{and_parts, eqb-true, eq-eqb}
use Rattle.std.proofs.lemmas.Bool.Decides.{nat_tests}
use Rattle.std.proofs.lemmas.List.{append_assoc, append-nil, length-append, length-map}
use Rattle.std.proofs.lemmas.List.Elements.{All-head, All-tail}
use Rattle.std.proofs.lemmas.List.Folds.{list_all-append}
use Rattle.gm_text.specs.Decimal.{is_canonical}
use Rattle.gm_text.proofs.DecimalLemmas.{decimal_is_canonical, digits_value_decimal}
use Rattle.sel_algebra.specs.declared.vocabulary.Symbol.{Symbol}
use Rattle.schema_graph.specs.declared.edge.SchemaEdge.{SchemaEdge}
use Rattle.query_terms.specs.Store.{same_bool}
use Rattle.query_terms.specs.Values.{ConjunctValue, RuleValue, QueryValue, occurs, differ, arity_built, arity_of, have_heads, has_class, has_edge, is_word, is_conjunct, has_heads}
use Rattle.query_terms.proofs.SpanLemmas.{and_true}
use Rattle.workload_text.specs.declared.sorts.Sort.{Sort}
use Rattle.workload_text.specs.declared.sorts.Sort.TheVariants.{Edge, Query, Rule, Conjunct, End}
use Rattle.workload_text.specs.Values.{HeadValue, WorkValue, IsConjunct, IsRule, IsQuery, IsWork, labels_of}
use Rattle.workload_text.specs.Lines.{Asked, is_line, is_symbol, is_path, is_union, has_heads_of, has_classes_of, written, conjunct_line, rule_lines, query_lines, queries_lines, work_lines, work_text, asked_of, head_lines, IsReading}
use Rattle.workload_text.specs.Lines.WorkLine.{QueryLine, RuleLine, EndLine}
use Rattle.workload_text.specs.Sofar.{Sofar, before_all, after, after_conjunct, number, symbol_of, symbols_of, ended_rules, ended_queries, open_query, value_of}
use Rattle.workload_text.specs.Rules.{follows, after_end, heads_occur, broken, broken_by_line, is_next_query, are_new_heads, are_small_heads, Verdict, verdict, verdict_of}
use Rattle.workload_text.proofs.LineLemmas.{list_all-map, map-back, three}
use Rattle.workload_text.proofs.PassLemmas.{text_line, broken-late, verdict-passes, lines_of-lines_text}
use Rattle.workload_text.proofs.HeadPassLemmas.{Leads, Leads-append, Leads-cons, edges_from, head-pass}

pub small-below : (n m : ℕ) → nat_lt n m ≡ true → n < m
small-below n m is = grind (arith, nat_tests)

-- ---- the words of a conjunct

module _ (edges : List SchemaEdge) (few_edges : length edges ≤ 128) where
  symbol-form : (s : Symbol) → has_edge (length edges) s ≡ true → is_symbol (written s) ≡ true
  symbol-form s is = decimal_is_canonical s.edge (omega (arith, few_edges, small-below s.edge (length edges) is))

  symbol-back : (s : Symbol) → has_edge (length edges) s ≡ true → symbol_of (written s) ≡ s
  symbol-back s is = λ i. record { edge = digits_value_decimal s.edge (omega (arith, few_edges, small-below s.edge (length edges) is)) i; back = s.back }

  word-form : (w : List Symbol) → is_word (length edges) w ≡ true → is_path (map written w) ≡ true
  word-form w is =
      and_true (ap (nat_lt 0) (length-map w written) ∙ (and_parts (nat_lt 0 (length w)) (list_all (has_edge (length edges)) w) is).0)
      (list_all-map is_symbol (has_edge (length edges)) written symbol-form w (and_parts (nat_lt 0 (length w)) (list_all (has_edge (length edges)) w) is).1)

  word-back : (w : List Symbol) → is_word (length edges) w ≡ true → map symbol_of (map written w) ≡ w
  word-back w is = map-back (has_edge (length edges)) written symbol_of symbol-back w (and_parts (nat_lt 0 (length w)) (list_all (has_edge (length edges)) w) is).1

  words-form : (c : ConjunctValue) → is_conjunct (length edges) c ≡ true → is_union (map (map written) c.words) ≡ true
  words-form c is =
      and_true (ap (nat_lt 0) (length-map c.words (map written)) ∙ (and_parts (nat_lt 0 (length c.words)) (list_all (is_word (length edges)) c.words) is).0)
      (list_all-map is_path (is_word (length edges)) (map written) word-form c.words (and_parts (nat_lt 0 (length c.words)) (list_all (is_word (length edges)) c.words) is).1)

  words-back : (c : ConjunctValue) → is_conjunct (length edges) c ≡ true → symbols_of (map (map written) c.words) ≡ c.words
  words-back c is =
      map-back (is_word (length edges)) (map written) (map symbol_of) word-back c.words (and_parts (nat_lt 0 (length c.words)) (list_all (is_word (length edges)) c.words) is).1

-- ---- conjuncts

-- a rule is begun, with these conjuncts
abbrev pub rule_at : Option Sort → HeadValue → List QueryValue → Asked → List RuleValue → List ℕ → List ConjunctValue → Sofar
rule_at last h queries asked rules heads conjuncts =
    record { last = last; head = h; queries = queries; asked = asked; rules = rules; heads = heads; conjuncts = conjuncts }

-- the rest of the lines goes on after a rule or a conjunct
abbrev pub GoesOn : Option Sort → Type 0
GoesOn last = (after_end last ≡ false) × (follows last Conjunct ≡ true)

module _ (h : HeadValue) (queries : List QueryValue) (asked : Asked) (rules : List RuleValue) (heads : List ℕ) (few_edges : length h.schema.edges ≤ 128) where
  pub conjunct-step : (last : Option Sort) (c : ConjunctValue) (done : List ConjunctValue) → GoesOn last → (not (after_conjunct last) || true) ≡ true
      → IsConjunct h.schema.edges c → is_conjunct (length h.schema.edges) c ≡ true → length done < 8
      → (is_line h.format (conjunct_line c) ≡ true) × (broken (rule_at last h queries asked rules heads done) (text_line (conjunct_line c)) ≡ None)
      × (after (rule_at last h queries asked rules heads done) (conjunct_line c) ≡ rule_at (Some Conjunct) h queries asked rules heads (done ++ c ∷ []))
  conjunct-step last c done (going, stands) closes is built few =
      let edges = h.schema.edges in
      let src : c.src < 2 ^ 64 = omega (arith, is.src) in
      let trg : c.trg < 2 ^ 64 = omega (arith, is.trg) in
      let src-back : number (decimal c.src) ≡ c.src = digits_value_decimal c.src src in
      let trg-back : number (decimal c.trg) ≡ c.trg = digits_value_decimal c.trg trg in
      let back : symbols_of (map (map written) c.words) ≡ c.words = words-back edges few_edges c built in
      let form : is_line h.format (conjunct_line c) ≡ true = rw (decimal_is_canonical c.src src, decimal_is_canonical c.trg trg, words-form edges few_edges c built) refl in
      let room : nat_lt (length done) 8 ≡ true = grind (arith, nat_tests, few) in
      let low : nat_lt c.src 16 ≡ true = grind (arith, nat_tests, is.src) in
      let high : nat_lt c.trg 16 ≡ true = grind (arith, nat_tests, is.trg) in
      let late : broken_by_line (rule_at last h queries asked rules heads done) (conjunct_line c) ≡ None =
      rw (src-back, trg-back, back, room, low, high, is.short, is.chains, is.same_ends, is.starred) refl in
      let goes : (not (after_conjunct last) || true || heads_occur (rule_at last h queries asked rules heads done)) ≡ true = by (after_conjunct last) in (
        form,
        broken-late (rule_at last h queries asked rules heads done) (conjunct_line c) form going stands goes ∙ late,
        λ i. rule_at (Some Conjunct) h queries asked rules heads (done ++ record { src = src-back i; trg = trg-back i; star = c.star; words = back i } ∷ []),
      )
    where
      by : (b : Bool) → (not b || true || heads_occur (rule_at last h queries asked rules heads done)) ≡ true
      by true = refl
      by false = refl

  pub conjuncts-pass : (done cs : List ConjunctValue) → All (IsConjunct h.schema.edges) cs → list_all (is_conjunct (length h.schema.edges)) cs ≡ true
      → length done + length cs ≤ 8
      → Leads (rule_at (Some Conjunct) h queries asked rules heads done) (map conjunct_line cs) (rule_at (Some Conjunct) h queries asked rules heads (done ++ cs))
  conjuncts-pass done [] each built few = (tt, ap (rule_at (Some Conjunct) h queries asked rules heads) (sym (append-nil done)))
  conjuncts-pass done (c ∷ cs) each built few =
      let parts = and_parts (is_conjunct (length h.schema.edges) c) (list_all (is_conjunct (length h.schema.edges)) cs) built in
      let step = conjunct-step (Some Conjunct) c done (refl, refl) refl (All-head (IsConjunct h.schema.edges) c cs each) parts.0 (omega (arith, few)) in
      let others = conjuncts-pass (done ++ c ∷ []) cs (All-tail (IsConjunct h.schema.edges) c cs each) parts.1 (omega (arith, few, length-append done (c ∷ []))) in
      Leads-cons (rule_at (Some Conjunct) h queries asked rules heads done) _ _ (conjunct_line c) (map conjunct_line cs) step.0 step.1 step.2
      (others.0, others.1 ∙ ap (rule_at (Some Conjunct) h queries asked rules heads) (append_assoc done (c ∷ []) cs))

-- ---- rules

-- after a line of the first sort, which isn't `end`, one of the second may stand
abbrev MayStand : Sort → Sort → Type 0
MayStand last sort = (after_end (Some last) ≡ false) × (follows (Some last) sort ≡ true)

-- after these rules of a query, under a head and after queries
record AfterRules (last : Sort) (h : HeadValue) (qs : List QueryValue) (a : Asked) (rs : List RuleValue) (s : Sofar) : Type 0 where
  sort : s.last ≡ Some last
  head : s.head ≡ h
  queries : s.queries ≡ qs
  asked : s.asked ≡ a
  rules : ended_rules s ≡ rs
  closed : (not (after_conjunct s.last) || false || heads_occur s) ≡ true

-- small numbers are their decimals'
small-numbers : (ns : List ℕ) → All (λ v. v < 16) ns
    → (list_all is_canonical (map decimal ns) ≡ true) × (map number (map decimal ns) ≡ ns) × (list_all (λ v. nat_lt v 16) ns ≡ true)
small-numbers [] small = (refl, refl, refl)
small-numbers (n ∷ ns) small =
    let low : n < 16 = All-head (λ v. v < 16) n ns small in
    let fits : n < 2 ^ 64 = omega (arith, low) in
    let rest = small-numbers ns (All-tail (λ v. v < 16) n ns small) in
    let test : nat_lt n 16 ≡ true = grind (arith, nat_tests, low) in
    (and_true (decimal_is_canonical n fits) rest.0, (λ i. digits_value_decimal n fits i ∷ rest.1 i), and_true test rest.2)

-- what is true of a number of heads in a query
record AreHeads (h : HeadValue) (a : Asked) (n : ℕ) : Type 0 where
  class : same_bool (is_some a.class) (n == 2) ≡ true
  form : has_heads_of h.format n ≡ true

module _ (h : HeadValue) (qs : List QueryValue) (a : Asked) (few_edges : length h.schema.edges ≤ 128) where
  abbrev edges : List SchemaEdge
  edges = h.schema.edges

  rule-line : (last : Sort) (s : Sofar) (done : List RuleValue) (heads : List ℕ) → MayStand last Rule → AfterRules last h qs a done s → AreHeads h a (length heads)
      → All (λ v. v < 16) heads → arity_built (length heads) ≡ true → differ heads ≡ true → have_heads (length heads) done ≡ true → length done < 4
      → (is_line s.head.format (RuleLine (map decimal heads)) ≡ true) × (broken s (text_line (RuleLine (map decimal heads))) ≡ None)
      × (after s (RuleLine (map decimal heads)) ≡ rule_at (Some Rule) h qs a done heads [])
  rule-line last s done heads (going, stands) is own small arity apart same few =
      let numbers = small-numbers heads small in
      let form : is_line s.head.format (RuleLine (map decimal heads)) ≡ true =
      and_true (ap (λ k. has_heads_of k.format (length (map decimal heads))) is.head ∙ ap (has_heads_of h.format) (length-map heads decimal) ∙ own.form) numbers.0 in
      let room : nat_lt (length done) 4 ≡ true = grind (arith, nat_tests, few) in
      let small : are_small_heads heads ≡ true = and_true (and_true numbers.2 arity) apart in
      let limits : are_new_heads s heads ≡ true =
      and_true (and_true (and_true (ap (λ rs. nat_lt (length rs) 4) is.rules ∙ room) small) (ap (have_heads (length heads)) is.rules ∙ same))
      (ap (λ k. same_bool (is_some k.class) (length heads == 2)) is.asked ∙ own.class) in
      let late : broken_by_line s (RuleLine (map decimal heads)) ≡ None =
      ap (λ b. if not b then Some 5 else None) (ap (are_new_heads s) numbers.1 ∙ limits) in (
        form,
        broken-late s (RuleLine (map decimal heads)) form (ap after_end is.sort ∙ going) (ap (λ x. follows x Rule) is.sort ∙ stands) is.closed ∙ late,
        λ i. rule_at (Some Rule) (is.head i) (is.queries i) (is.asked i) (is.rules i) (numbers.1 i) [],
      )

  rule-lines-pass : (last : Sort) (s : Sofar) (done : List RuleValue) (heads : List ℕ) (conjuncts : List ConjunctValue) → MayStand last Rule → AfterRules last h qs a done s
      → AreHeads h a (length heads) → IsRule edges (record { heads = heads; conjuncts = conjuncts }) → have_heads (length heads) done ≡ true → length done < 4
      → Leads s (RuleLine (map decimal heads) ∷ map conjunct_line conjuncts) (rule_at (Some Conjunct) h qs a done heads conjuncts)
  rule-lines-pass last s done heads [] may is own rule same few = absurd (true≢false (sym rule.built))
  rule-lines-pass last s done heads (c ∷ cs) may is own rule same few =
      let all = three (nat_lt 0 (length (c ∷ cs))) (list_all (is_conjunct (length edges)) (c ∷ cs)) (has_heads (record { heads = heads; conjuncts = c ∷ cs })) rule.built in
      let each = and_parts (is_conjunct (length edges) c) (list_all (is_conjunct (length edges)) cs) all.1 in
      let head = three (arity_built (length heads)) (differ heads) (list_all (occurs (c ∷ cs)) heads) all.2 in
      let line = rule-line last s done heads may is own rule.small head.0 head.1 same few in
      let one = conjunct-step h qs a done heads few_edges (Some Rule) c [] (refl, refl) refl (All-head (IsConjunct edges) c cs rule.each) each.0 (omega arith) in
      let others = conjuncts-pass h qs a done heads few_edges (c ∷ []) cs (All-tail (IsConjunct edges) c cs rule.each) each.1 (omega (arith, rule.few)) in
      Leads-cons s (rule_at (Some Rule) h qs a done heads []) _ (RuleLine (map decimal heads)) (conjunct_line c ∷ map conjunct_line cs) line.0 line.1 line.2
      (Leads-cons (rule_at (Some Rule) h qs a done heads []) (rule_at (Some Conjunct) h qs a done heads (c ∷ [])) _ (conjunct_line c) (map conjunct_line cs) one.0 one.1 one.2 others)

  -- after a rule
  after-rule : (done : List RuleValue) (r : RuleValue) → IsRule edges r
      → AfterRules Conjunct h qs a (done ++ r ∷ []) (rule_at (Some Conjunct) h qs a done r.heads r.conjuncts)
  after-rule done r is =
      let heads = three (nat_lt 0 (length r.conjuncts)) (list_all (is_conjunct (length edges)) r.conjuncts) (has_heads r) is.built in
      let closed = three (arity_built (length r.heads)) (differ r.heads) (list_all (occurs r.conjuncts) r.heads) heads.2 in
      record { sort = refl; head = refl; queries = refl; asked = refl; rules = refl; closed = closed.2 }

  rule-pass : (n : ℕ) (last : Sort) (s : Sofar) (done : List RuleValue) (r : RuleValue) → AreHeads h a n → MayStand last Rule → AfterRules last h qs a done s
      → IsRule edges r → (length r.heads == n) ≡ true → have_heads n done ≡ true → length done < 4
      → Leads s (rule_lines r) (rule_at (Some Conjunct) h qs a done r.heads r.conjuncts)
  rule-pass n last s done r own may is rule count same few =
      let size : n ≡ length r.heads = sym (eqb-true (length r.heads) n count) in
      rule-lines-pass last s done r.heads r.conjuncts may is (subst (AreHeads h a) size own) rule (subst (λ m. have_heads m done ≡ true) size same) few

  rules-pass : (n : ℕ) (s : Sofar) (done rs : List RuleValue) → AreHeads h a n → AfterRules Conjunct h qs a done s → All (IsRule edges) rs
      → have_heads n done ≡ true → have_heads n rs ≡ true → length done + length rs ≤ 4
      → (t : Sofar) × Leads s (flat_map rule_lines rs) t × AfterRules Conjunct h qs a (done ++ rs) t
  rules-pass n s done [] own is each same others few = (s, (tt, refl), subst (λ rs. AfterRules Conjunct h qs a rs s) (sym (append-nil done)) is)
  rules-pass n s done (r ∷ rs) own is each same others few =
      let rule = All-head (IsRule edges) r rs each in
      let heads = and_parts (length r.heads == n) (have_heads n rs) others in
      let t = rule_at (Some Conjunct) h qs a done r.heads r.conjuncts in
      let first = rule-pass n Conjunct s done r own (refl, refl) is rule heads.0 same (omega (arith, few)) in
      let more : have_heads n (done ++ r ∷ []) ≡ true = list_all-append (λ k. length k.heads == n) done (r ∷ []) ∙ and_true same (and_true heads.0 refl) in
      let (u, rest, end) = rules-pass n t (done ++ r ∷ []) rs own (after-rule done r rule) (All-tail (IsRule edges) r rs each) more heads.1
      (omega (arith, few, length-append done (r ∷ []))) in (
        u,
        Leads-append s t u (rule_lines r) (flat_map rule_lines rs) first rest,
        subst (λ ks. AfterRules Conjunct h qs a ks u) (append_assoc done (r ∷ []) rs) end,
      )

-- ---- queries

-- after these queries, under a head
record AfterQueries (last : Sort) (h : HeadValue) (qs : List QueryValue) (s : Sofar) : Type 0 where
  sort : s.last ≡ Some last
  head : s.head ≡ h
  queries : ended_queries s ≡ qs
  closed : (not (after_conjunct s.last) || false || heads_occur s) ≡ true

same_bool-is : (a b : Bool) → a ≡ b → same_bool a b ≡ true
same_bool-is a true same = rw same refl
same_bool-is a false same = rw same refl

format-one : (format : ℕ) (b : Bool) → (format ≡ 1 → b ≡ true) → (not (format == 1) || b) ≡ true
format-one format b holds = by (format == 1) refl
  where
    by : (one : Bool) → (format == 1) ≡ one → (not (format == 1) || b) ≡ true
    by true is = rw is (holds (eqb-true format 1 is))
    by false is = rw is refl

module _ (h : HeadValue) (few_edges : length h.schema.edges ≤ 128) where
  heads-of : (q : QueryValue) → IsQuery h q → AreHeads h (asked_of q) (arity_of q.rules)
  heads-of q is = record {
    class = same_bool-is (is_some q.class) (has_class q.rules) is.class;
    form = format-one h.format (has_class q.rules) is.format;
  }

  query-line : (last : Sort) (s : Sofar) (done : List QueryValue) (q : QueryValue) → MayStand last Query → AfterQueries last h done s → IsQuery h q → length done < 1000
      → (is_line s.head.format (QueryLine (decimal (length done)) (asked_of q)) ≡ true)
      × (broken s (text_line (QueryLine (decimal (length done)) (asked_of q))) ≡ None)
  query-line last s done q (going, stands) is own few =
      let n : ℕ = length done in
      let small : n < 2 ^ 64 = omega (arith, few) in
      let classes : has_classes_of h.format (asked_of q) ≡ true = format-one h.format (is_some q.class && is_some q.wide)
      (λ one. and_true (own.class ∙ own.format one) (own.wide ∙ own.format one)) in
      let form : is_line s.head.format (QueryLine (decimal n) (asked_of q)) ≡ true =
      and_true (decimal_is_canonical n small) (ap (λ k. has_classes_of k.format (asked_of q)) is.head ∙ classes) in
      let room : nat_lt n 1000 ≡ true = grind (arith, nat_tests, few) in
      let limits : is_next_query n n (asked_of q) ≡ true = and_true (and_true room (eq-eqb n n refl)) (same_bool-is (is_some q.class) (is_some q.wide) (own.class ∙ sym own.wide)) in
      let within : is_next_query (length (ended_queries s)) (number (decimal n)) (asked_of q) ≡ true =
      (λ i. is_next_query (length (is.queries i)) (digits_value_decimal n small i) (asked_of q)) ∙ limits in
      let late : broken_by_line s (QueryLine (decimal n) (asked_of q)) ≡ None = ap (λ b. if not b then Some 5 else None) within in
      (form, broken-late s (QueryLine (decimal n) (asked_of q)) form (ap after_end is.sort ∙ going) (ap (λ x. follows x Query) is.sort ∙ stands) is.closed ∙ late)

  -- after a query's rules it ends
  after-query : (done : List QueryValue) (q : QueryValue) (s : Sofar) → q.labels ≡ labels_of h.schema.edges → AfterRules Conjunct h done (asked_of q) q.rules s
      → AfterQueries Conjunct h (done ++ q ∷ []) s
  after-query done q s labels is =
      let same : labels_of s.head.schema.edges ≡ q.labels = ap (λ k. labels_of k.schema.edges) is.head ∙ sym labels in
      record {
        sort = is.sort;
        head = is.head;
        queries = ap (λ l. if after_conjunct l then s.queries ++ open_query s ∷ [] else s.queries) is.sort ∙ (λ i. is.queries i ++ record {
          labels = same i;
          shape = (is.asked i).shape;
          class = (is.asked i).class;
          wide = (is.asked i).wide;
          rules = is.rules i;
        } ∷ []);
        closed = is.closed;
      }

  query-pass : (last : Sort) (s : Sofar) (done : List QueryValue) (q : QueryValue) → MayStand last Query → AfterQueries last h done s → IsQuery h q → length done < 1000
      → (rules : List RuleValue) → q.rules ≡ rules
      → (t : Sofar) × Leads s (QueryLine (decimal (length done)) (asked_of q) ∷ flat_map rule_lines rules) t × AfterRules Conjunct h done (asked_of q) rules t
  query-pass last s done q may is own few [] same = absurd (omega (arith, own.some, ap length same))
  query-pass last s done q may is own few (r ∷ rs) same =
      let line = query-line last s done q may is own few in
      let begun = after s (QueryLine (decimal (length done)) (asked_of q)) in
      let each : All (IsRule h.schema.edges) (r ∷ rs) = subst (All (IsRule h.schema.edges)) same own.each in
      let rule = All-head (IsRule h.schema.edges) r rs each in
      let heads : AreHeads h (asked_of q) (length r.heads) = subst (λ ks. AreHeads h (asked_of q) (arity_of ks)) same (heads-of q own) in
      let all : have_heads (length r.heads) (r ∷ rs) ≡ true = subst (λ ks. have_heads (arity_of ks) ks ≡ true) same own.arity in
      let count = and_parts (length r.heads == length r.heads) (have_heads (length r.heads) rs) all in
      let size : length (r ∷ rs) ≤ 4 = subst (λ ks. length ks ≤ 4) same own.few in
      let one = rule_at (Some Conjunct) h done (asked_of q) [] r.heads r.conjuncts in
      let first = rule-pass h done (asked_of q) few_edges (length r.heads) Query begun [] r heads (refl, refl)
      (record { sort = refl; head = is.head; queries = is.queries; asked = refl; rules = refl; closed = refl }) rule count.0 refl (omega arith) in
      let (t, rest, end) = rules-pass h done (asked_of q) few_edges (length r.heads) one (r ∷ []) rs heads (after-rule h done (asked_of q) few_edges [] r rule)
      (All-tail (IsRule h.schema.edges) r rs each) (and_true count.0 refl) count.1 (omega (arith, size)) in (
        t,
        Leads-cons s begun t (QueryLine (decimal (length done)) (asked_of q)) (rule_lines r ++ flat_map rule_lines rs) line.0 line.1 refl
            (Leads-append begun one t (rule_lines r) (flat_map rule_lines rs) first rest),
        end,
      )

  -- the lines of queries, and the last line
  queries-pass : (last : Sort) (s : Sofar) (done qs : List QueryValue) → MayStand last Query → MayStand last End → AfterQueries last h done s → All (IsQuery h) qs
      → length done + length qs ≤ 1000
      → (t : Sofar) × Leads s (queries_lines (length done) qs ++ EndLine ∷ []) t × (t.last ≡ Some End) × (value_of t ≡ record { head = h; queries = done ++ qs })
  queries-pass last s done [] may (going, stands) is each few =
      let ok : broken s (text_line EndLine) ≡ None = broken-late s EndLine refl (ap after_end is.sort ∙ going) (ap (λ x. follows x End) is.sort ∙ stands) is.closed in
      (after s EndLine, ((refl, ok, tt), refl), refl, λ i. record { head = is.head i; queries = (is.queries ∙ sym (append-nil done)) i })
  queries-pass last s done (q ∷ qs) may end is each few =
      let own = All-head (IsQuery h) q qs each in
      let (t, lines, now) = query-pass last s done q may is own (omega (arith, few)) q.rules refl in
      let (u, rest, ended, value) = queries-pass Conjunct t (done ++ q ∷ []) qs (refl, refl) (refl, refl) (after-query done q t own.labels now)
      (All-tail (IsQuery h) q qs each) (omega (arith, few, length-append done (q ∷ []))) in
      let all = Leads-append s t u (query_lines (length done) q) (queries_lines (length (done ++ q ∷ [])) qs ++ EndLine ∷ []) lines rest in
      let same : query_lines (length done) q ++ (queries_lines (length (done ++ q ∷ [])) qs ++ EndLine ∷ []) ≡ queries_lines (length done) (q ∷ qs) ++ EndLine ∷ [] =
      ap (λ n. query_lines (length done) q ++ (queries_lines n qs ++ EndLine ∷ [])) (length-append done (q ∷ []))
      ∙ sym (append_assoc (query_lines (length done) q) (queries_lines (length done + 1) qs) (EndLine ∷ [])) in
      (u, subst (λ ls. Leads s ls u) same all, ended, value ∙ ap (λ ks. record { head = h; queries = ks }) (append_assoc done (q ∷ []) qs))

-- the text of a value that keeps the rules is read back as it
pub read-back : (v : WorkValue) → IsWork v → verdict_of (work_text v) ≡ Ok v
read-back v is =
    let h = v.head in
    let head = head-pass h is.head in
    let (t, lines, ended, value) = queries-pass h is.head.schema.few_edges Edge (edges_from (Some Edge) h) [] v.queries (refl, refl) (refl, refl)
    (record { sort = refl; head = refl; queries = refl; closed = refl }) is.each (omega (arith, is.few)) in
    let all : Leads before_all (work_lines v) t = Leads-append before_all (edges_from (Some Edge) h) t (head_lines h) (queries_lines 0 v.queries ++ EndLine ∷ []) head lines in
    ap (verdict before_all 1) (lines_of-lines_text before_all (work_lines v) all.0)
    ∙ verdict-passes before_all 1 (work_lines v) all.0 (ap (λ r. after_end r.last) all.1 ∙ ap after_end ended)
    ∙ ap Ok (ap value_of all.1 ∙ value)

-- a text is that of one value at most
pub one-reading : (text : List ℕ) (v w : WorkValue) → IsReading text v → IsReading text w → v ≡ w
one-reading text v w first other =
    let same : ◌≡◌ {A = Verdict} (Ok v) (Ok w) =
    sym (read-back v first.0) ∙ ap verdict_of (first.1 ∙ sym other.1) ∙ read-back w other.0 in
    cc same
