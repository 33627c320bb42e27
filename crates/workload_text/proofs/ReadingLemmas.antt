-- Lines that pass are those of a head and queries that keep the rules.
use Rattle.std.proofs.Common.{◌≡◌, ℕ, if◌then◌else◌, ◌+◌, ◌<◌, ◌≤◌, ◌^◌, Bool, true, false, not, ◌&&◌, ◌||◌, ◌==◌, decimal, Some, is_some, Ok, Err, List, [], ◌∷◌, ◌++◌, length, map, get_or, All, refl, sym, ap, subst, ◌∙◌, arith}
use Rattle.std.specs.Prelude.{⊤, nat_lt}
use Rattle.std.specs.List.{list_all, flat_map}
use Rattle.std.proofs.lemmas.Bool.{and_parts, eqb-true}
use Rattle.std.proofs.lemmas.Bool.Decides.{nat_tests}
use Rattle.std.proofs.lemmas.List.{append_assoc, append-nil, length-append, length-map, map-append}
use Rattle.std.proofs.lemmas.List.Elements.{All-nil, All-push}
use Rattle.std.proofs.lemmas.List.Folds.{list_all-append}
use Rattle.std.proofs.lemmas.List.Recursion.{and_at}
use Rattle.gm_text.specs.Decimal.{is_canonical}
use Rattle.gm_text.specs.Lines.{lines_of}
use Rattle.gm_text.proofs.DecimalLemmas.{canonical_is_decimal}
use Rattle.sel_algebra.specs.declared.vocabulary.Op.{Op}
use Rattle.sel_algebra.specs.declared.vocabulary.Kind.{Kind}
use Rattle.schema_graph.specs.declared.edge.SchemaEdge.{SchemaEdge}
use Rattle.query_terms.specs.Store.{same_bool}
use Rattle.query_terms.specs.Values.{ConjunctValue, RuleValue, QueryValue, differ, arity_built, arity_of, have_heads, has_class, has_edge, is_word, is_conjunct}
use Rattle.query_terms.proofs.SpanLemmas.{and_true}
use Rattle.workload_text.specs.declared.sorts.Sort.TheVariants.{First, Label, NodeType, Edge, Query, Rule, Conjunct, End}
use Rattle.workload_text.specs.Values.{HeadValue, WorkValue, IsConjunct, IsRule, IsQuery, IsWork, is_short_word, is_short_union}
use Rattle.workload_text.specs.Lines.{WorkLine, Asked, WrittenSymbol, is_line, is_symbol, is_path, is_union, has_heads_of, has_classes_of, written, label_lines, type_lines, edge_line, head_lines, conjunct_line, rule_lines, query_lines, queries_lines, work_lines, work_text, lines_text, IsReading}
use Rattle.workload_text.specs.Lines.WorkLine.{FirstLine, LabelLine, TypeLine, EdgeLine, QueryLine, RuleLine, ConjunctLine, EndLine}
use Rattle.workload_text.specs.Sofar.{Sofar, no_head, with_edge, before_all, after, after_conjunct, number, symbol_of, symbols_of, open_rule, open_query, ended_rules, ended_queries, value_of}
use Rattle.workload_text.specs.Rules.{in_limits, follows, heads_occur, after_end, are_small_heads, Verdict, verdict_of, IsFirstBroken}
use Rattle.workload_text.specs.Laws.{ReadingIsVerdict, ReadWhereUnbroken}
use Rattle.workload_text.proofs.LineLemmas.{three}
use Rattle.workload_text.proofs.PassLemmas.{Passes, after_all, sort_line, IsKept, kept, ArePassing, verdict-lines, text-of-lines}
use Rattle.workload_text.proofs.SoundLemmas.{IsSound, stage, comes, is_new, sound_none, sound_later, sound_after, whole_head}
use Rattle.workload_text.proofs.QueryPassLemmas.{small-below, read-back}

-- ---- what lines so far say, before a line of each sort

-- before the first line nothing is said
record BeforeFirst (ls : List WorkLine) (s : Sofar) : Type 0 where
  lines : ls ≡ []
  head : s.head ≡ no_head
  queries : s.queries ≡ []

record BeforeLabel (ls : List WorkLine) (s : Sofar) : Type 0 where
  lines : ls ≡ FirstLine s.head.format ∷ label_lines s.head.labels
  types : s.head.types ≡ []
  kinds : s.head.schema.kinds ≡ []
  edges : s.head.schema.edges ≡ []
  queries : s.queries ≡ []

record BeforeType (ls : List WorkLine) (s : Sofar) : Type 0 where
  lines : ls ≡ FirstLine s.head.format ∷ (label_lines s.head.labels ++ type_lines s.head.types s.head.schema.kinds)
  edges : s.head.schema.edges ≡ []
  queries : s.queries ≡ []

record BeforeEdge (ls : List WorkLine) (s : Sofar) : Type 0 where
  lines : ls ≡ head_lines s.head
  queries : s.queries ≡ []

record BeforeQuery (ls : List WorkLine) (s : Sofar) : Type 0 where
  lines : ls ≡ head_lines s.head ++ queries_lines 0 (ended_queries s)
  each : All (IsQuery s.head) (ended_queries s)
  few : length (ended_queries s) ≤ 1000

-- a query is begun after others, and has rules
record Asks (h : HeadValue) (qs : List QueryValue) (a : Asked) (rs : List RuleValue) : Type 0 where
  queries : All (IsQuery h) qs
  room : length qs < 1000
  wide : is_some a.class ≡ is_some a.wide
  classes : has_classes_of h.format a ≡ true
  rules : All (IsRule h.schema.edges) rs

-- the lines to these rules
abbrev asked_lines : HeadValue → List QueryValue → Asked → List RuleValue → List WorkLine
asked_lines h qs a rs = head_lines h ++ (queries_lines 0 qs ++ QueryLine (decimal (length qs)) a ∷ flat_map rule_lines rs)

record BeforeRule (ls : List WorkLine) (s : Sofar) : Type 0 where
  asks : Asks s.head s.queries s.asked (ended_rules s)
  lines : ls ≡ asked_lines s.head s.queries s.asked (ended_rules s)

record BeforeConjunct (ls : List WorkLine) (s : Sofar) : Type 0 where
  asks : Asks s.head s.queries s.asked s.rules
  lines : ls ≡ asked_lines s.head s.queries s.asked s.rules ++ (RuleLine (map decimal s.heads) ∷ map conjunct_line s.conjuncts)
  room : length s.rules < 4
  small : All (λ v. v < 16) s.heads
  built : arity_built (length s.heads) ≡ true
  apart : differ s.heads ≡ true
  same : have_heads (length s.heads) s.rules ≡ true
  class : is_some s.asked.class ≡ (length s.heads == 2)
  few : length s.conjuncts ≤ 8
  each : All (IsConjunct s.head.schema.edges) s.conjuncts
  words : list_all (is_conjunct (length s.head.schema.edges)) s.conjuncts ≡ true

-- the heads of the rule that is begun occur in it, where it ends here
abbrev Closed : Sofar → Type 0
Closed s = (not (after_conjunct s.last) || false || heads_occur s) ≡ true

-- a fact, where a test passes
abbrev Where : Bool → Type 0 → Type 0
Where true P = P
Where false P = ⊤

given : (b : Bool) (P : Type 0) → b ≡ true → Where b P → P
given b P is holds = subst (λ c. Where c P) is holds

-- the lines so far say what may stand before each line that may follow
record Good (ls : List WorkLine) (s : Sofar) : Type 0 where
  first : Where (follows s.last First) (BeforeFirst ls s)
  label : Where (follows s.last Label) (BeforeLabel ls s)
  type : Where (follows s.last NodeType) (BeforeType ls s)
  edge : Where (follows s.last Edge) (BeforeEdge ls s)
  query : Where (follows s.last Query) (Closed s → BeforeQuery ls s)
  rule : Where (follows s.last Rule) (Closed s → BeforeRule ls s)
  conjunct : Where (follows s.last Conjunct) (BeforeConjunct ls s)
  end : Where (follows s.last End) (Closed s → BeforeQuery ls s)
  ended : Where (after_end s.last) (IsWork (value_of s) × (ls ≡ work_lines (value_of s)))

-- what the line of a conjunct says
abbrev conjunct_of : List ℕ → List ℕ → Bool → List (List WrittenSymbol) → ConjunctValue
conjunct_of src trg star words = record { src = number src; trg = number trg; star = star; words = symbols_of words }

good_none : Good [] before_all
good_none = record {
  first = record { lines = refl; head = refl; queries = refl };
  label = tt;
  type = tt;
  edge = tt;
  query = tt;
  rule = tt;
  conjunct = tt;
  end = tt;
  ended = tt;
}

-- ---- numbers that are read

-- a canonical decimal of a small number is its number's
number-back : (word : List ℕ) → is_canonical word ≡ true → number word < 2 ^ 64 → decimal (number word) ≡ word
number-back word is small = sym (canonical_is_decimal word is small)

all-small : (ns : List ℕ) → list_all (λ v. nat_lt v 16) ns ≡ true → All (λ v. v < 16) ns
all-small ns is k d within = small-below (get_or ns k d) 16 (and_at (list_all (λ v. nat_lt v 16)) (λ v. nat_lt v 16) refl (λ _ _. refl) ns k d within is)

heads-back : (heads : List (List ℕ)) → list_all is_canonical heads ≡ true → list_all (λ v. nat_lt v 16) (map number heads) ≡ true
    → map decimal (map number heads) ≡ heads
heads-back [] form small = refl
heads-back (word ∷ heads) form small =
    let (is, others) = and_parts (is_canonical word) (list_all is_canonical heads) form in
    let (low, lows) = and_parts (nat_lt (number word) 16) (list_all (λ v. nat_lt v 16) (map number heads)) small in
    let below : number word < 16 = small-below (number word) 16 low in
    λ i. number-back word is (omega (arith, below)) i ∷ heads-back heads others lows i

module _ (edges : ℕ) (few : edges ≤ 128) where
  symbols-back : (w : List WrittenSymbol) → list_all is_symbol w ≡ true → list_all (has_edge edges) (map symbol_of w) ≡ true → map written (map symbol_of w) ≡ w
  symbols-back [] form small = refl
  symbols-back (x ∷ w) form small =
      let (is, others) = and_parts (is_symbol x) (list_all is_symbol w) form in
      let (low, lows) = and_parts (nat_lt (number x.number) edges) (list_all (has_edge edges) (map symbol_of w)) small in
      let below : number x.number < edges = small-below (number x.number) edges low in
      λ i. record { back = x.back; number = number-back x.number is (omega (arith, below, few)) i } ∷ symbols-back w others lows i

  word-back : (w : List WrittenSymbol) → is_path w ≡ true → is_short_word edges (map symbol_of w) ≡ true
      → (map written (map symbol_of w) ≡ w) × (is_word edges (map symbol_of w) ≡ true)
  word-back w form short =
      let (some, symbols) = and_parts (nat_lt 0 (length w)) (list_all is_symbol w) form in
      let (_, low) = and_parts _ (list_all (has_edge edges) (map symbol_of w)) short in
      (symbols-back w symbols low, and_true (ap (nat_lt 0) (length-map w symbol_of) ∙ some) low)

  words-back : (ws : List (List WrittenSymbol)) → list_all is_path ws ≡ true → list_all (is_short_word edges) (symbols_of ws) ≡ true
      → (map (map written) (symbols_of ws) ≡ ws) × (list_all (is_word edges) (symbols_of ws) ≡ true)
  words-back [] form short = (refl, refl)
  words-back (w ∷ ws) form short =
      let (is, others) = and_parts (is_path w) (list_all is_path ws) form in
      let (low, lows) = and_parts (is_short_word edges (map symbol_of w)) (list_all (is_short_word edges) (symbols_of ws)) short in
      let one = word-back w is low in
      let rest = words-back ws others lows in
      (λ i. one.0 i ∷ rest.0 i, and_true one.1 rest.1)

-- ---- lists that get longer

flat_map-more : {A B : Type 0} (f : A → List B) (xs : List A) (x : A) → flat_map f (xs ++ x ∷ []) ≡ flat_map f xs ++ f x
flat_map-more f [] x = append-nil (f x)
flat_map-more f (y ∷ xs) x = ap (λ l. f y ++ l) (flat_map-more f xs x) ∙ sym (append_assoc (f y) (flat_map f xs) (f x))

type_lines-more : (names : List (List ℕ)) (kinds : List Kind) (name : List ℕ) (kind : Kind) → length kinds ≡ length names
    → type_lines (names ++ name ∷ []) (kinds ++ kind ∷ []) ≡ type_lines names kinds ++ TypeLine name kind ∷ []
type_lines-more [] [] name kind same = refl
type_lines-more [] (k ∷ kinds) name kind same = absurd (omega (arith, same))
type_lines-more (n ∷ names) [] name kind same = absurd (omega (arith, same))
type_lines-more (n ∷ names) (k ∷ kinds) name kind same = ap (λ ls. TypeLine n k ∷ ls) (type_lines-more names kinds name kind (omega (arith, same)))

queries_lines-more : (n m : ℕ) (qs : List QueryValue) (q : QueryValue) → m ≡ n + length qs → queries_lines n (qs ++ q ∷ []) ≡ queries_lines n qs ++ query_lines m q
queries_lines-more n m [] q same = append-nil (query_lines n q) ∙ ap (λ k. query_lines k q) (omega (arith, same))
queries_lines-more n m (p ∷ qs) q same =
    ap (λ ls. query_lines n p ++ ls) (queries_lines-more (n + 1) m qs q (omega (arith, same)))
    ∙ sym (append_assoc (query_lines n p) (queries_lines (n + 1) qs) (query_lines m q))

asked_lines-more : (h : HeadValue) (qs : List QueryValue) (a : Asked) (rs : List RuleValue) (r : RuleValue)
    → asked_lines h qs a (rs ++ r ∷ []) ≡ asked_lines h qs a rs ++ rule_lines r
asked_lines-more h qs a rs r =
    let line : WorkLine = QueryLine (decimal (length qs)) a in
    ap (λ ls. head_lines h ++ (queries_lines 0 qs ++ line ∷ ls)) (flat_map-more rule_lines rs r)
    ∙ sym (append_assoc (head_lines h) (queries_lines 0 qs ++ line ∷ flat_map rule_lines rs) (rule_lines r)
    ∙ ap (λ ls. head_lines h ++ ls) (append_assoc (queries_lines 0 qs) (line ∷ flat_map rule_lines rs) (rule_lines r)))

-- ---- a rule and a query that end

arity_of-more : (n : ℕ) (rs : List RuleValue) (r : RuleValue) → have_heads n rs ≡ true → length r.heads ≡ n → arity_of (rs ++ r ∷ []) ≡ n
arity_of-more n [] r same last = last
arity_of-more n (p ∷ rs) r same last = eqb-true (length p.heads) n (and_parts (length p.heads == n) (have_heads n rs) same).0

same_bool-same : (a b : Bool) → same_bool a b ≡ true → a ≡ b
same_bool-same true true is = refl
same_bool-same true false is = cc
same_bool-same false true is = cc
same_bool-same false false is = refl

some-class : (format : ℕ) (a : Asked) → has_classes_of format a ≡ true → format ≡ 1 → is_some a.class ≡ true
some-class format a is one =
    let classes : (is_some a.class && is_some a.wide) ≡ true = rw one at is in
    (and_parts (is_some a.class) (is_some a.wide) classes).0

module _ (ls : List WorkLine) (s : Sofar) (is : BeforeConjunct ls s) (some : 0 < length s.conjuncts) (occur : heads_occur s ≡ true) where
  abbrev edges : List SchemaEdge
  edges = s.head.schema.edges

  abbrev rules : List RuleValue
  rules = s.rules ++ open_rule s ∷ []

  rule-ends : IsRule edges (open_rule s)
  rule-ends =
      let any : nat_lt 0 (length s.conjuncts) ≡ true = grind (arith, nat_tests, some) in
      record { small = is.small; built = and_true (and_true any is.words) (and_true (and_true is.built is.apart) occur); few = is.few; each = is.each }

  rules-asked : Asks s.head s.queries s.asked rules
  rules-asked = record {
    queries = is.asks.queries;
    room = is.asks.room;
    wide = is.asks.wide;
    classes = is.asks.classes;
    rules = All-push (IsRule edges) s.rules (open_rule s) is.asks.rules rule-ends;
  }

  rules-lines : ls ≡ asked_lines s.head s.queries s.asked rules
  rules-lines = is.lines ∙ sym (asked_lines-more s.head s.queries s.asked s.rules (open_rule s))

  abbrev query : QueryValue
  query = record { labels = map (λ e. e.label) edges; shape = s.asked.shape; class = s.asked.class; wide = s.asked.wide; rules = rules }

  query-ends : IsQuery s.head query
  query-ends =
      let arity : arity_of rules ≡ length s.heads = arity_of-more (length s.heads) s.rules (open_rule s) is.same refl in
      let class : is_some s.asked.class ≡ has_class rules = is.class ∙ ap (λ n. n == 2) (sym arity) in
      let count : length rules ≡ length s.rules + 1 = length-append s.rules (open_rule s ∷ []) in
      let own : (length s.heads == length s.heads) ≡ true = grind (arith, nat_tests) in
      record {
        labels = refl;
        some = omega (arith, count);
        few = omega (arith, count, is.room);
        each = rules-asked.rules;
        arity = ap (λ n. have_heads n rules) arity ∙ list_all-append (λ r. length r.heads == length s.heads) s.rules (open_rule s ∷ []) ∙ and_true is.same (and_true own refl);
        class = class;
        wide = sym is.asks.wide ∙ class;
        format = λ one. sym class ∙ some-class s.head.format s.asked is.asks.classes one;
      }

  queries-each : All (IsQuery s.head) (s.queries ++ query ∷ [])
  queries-each = All-push (IsQuery s.head) s.queries query is.asks.queries query-ends

  queries-few : length (s.queries ++ query ∷ []) ≤ 1000
  queries-few = omega (arith, is.asks.room, length-append s.queries (query ∷ []))

  queries-said : ls ≡ head_lines s.head ++ queries_lines 0 (s.queries ++ query ∷ [])
  queries-said = rules-lines ∙ ap (λ xs. head_lines s.head ++ xs) (sym (queries_lines-more 0 (length s.queries) s.queries query (omega arith)))

-- ---- the lines of a head

abbrev with_line : WorkLine → List WorkLine → List WorkLine
with_line l ls = ls ++ l ∷ []

first-said : (ls : List WorkLine) (s : Sofar) (format : ℕ) → BeforeFirst ls s → Good (ls ++ FirstLine format ∷ []) (after s (FirstLine format))
first-said ls s format b = record {
  first = tt;
  label = record {
    lines = ap (with_line (FirstLine format)) b.lines ∙ (λ i. FirstLine format ∷ label_lines (sym b.head i).labels);
    types = ap (λ h. h.types) b.head;
    kinds = ap (λ h. h.schema.kinds) b.head;
    edges = ap (λ h. h.schema.edges) b.head;
    queries = b.queries;
  };
  type = tt;
  edge = tt;
  query = tt;
  rule = tt;
  conjunct = tt;
  end = tt;
  ended = tt;
}

label-said : (ls : List WorkLine) (s : Sofar) (name : List ℕ) → BeforeLabel ls s → Good (ls ++ LabelLine name ∷ []) (after s (LabelLine name))
label-said ls s name b =
    let first : WorkLine = FirstLine s.head.format in
    let labels : List WorkLine = label_lines (s.head.labels ++ name ∷ []) in
    let lines : ls ++ LabelLine name ∷ [] ≡ first ∷ labels =
    ap (with_line (LabelLine name)) b.lines ∙ ap (λ xs. first ∷ xs) (sym (map-append LabelLine s.head.labels (name ∷ []))) in
    record {
      first = tt;
      label = record { lines = lines; types = b.types; kinds = b.kinds; edges = b.edges; queries = b.queries };
      type = record {
        lines = lines ∙ ap (λ xs. first ∷ xs) (sym (append-nil labels)) ∙ (λ i. first ∷ (labels ++ type_lines (sym b.types i) (sym b.kinds i)));
        edges = b.edges;
        queries = b.queries;
      };
      edge = tt;
      query = tt;
      rule = tt;
      conjunct = tt;
      end = tt;
      ended = tt;
    }

type-said : (ls : List WorkLine) (s : Sofar) (name : List ℕ) (kind : Kind) → length s.head.schema.kinds ≡ length s.head.types → BeforeType ls s
    → Good (ls ++ TypeLine name kind ∷ []) (after s (TypeLine name kind))
type-said ls s name kind same b =
    let first : WorkLine = FirstLine s.head.format in
    let labels : List WorkLine = label_lines s.head.labels in
    let types : List WorkLine = type_lines (s.head.types ++ name ∷ []) (s.head.schema.kinds ++ kind ∷ []) in
    let lines : ls ++ TypeLine name kind ∷ [] ≡ first ∷ (labels ++ types) =
    ap (with_line (TypeLine name kind)) b.lines
    ∙ ap (λ xs. first ∷ xs) (append_assoc labels (type_lines s.head.types s.head.schema.kinds) (TypeLine name kind ∷ [])
    ∙ ap (λ xs. labels ++ xs) (sym (type_lines-more s.head.types s.head.schema.kinds name kind same))) in
    record {
      first = tt;
      label = tt;
      type = record { lines = lines; edges = b.edges; queries = b.queries };
      edge = record {
        lines = lines ∙ ap (λ xs. first ∷ (labels ++ xs)) (sym (append-nil types)) ∙ (λ i. first ∷ (labels ++ (types ++ map edge_line (sym b.edges i))));
        queries = b.queries;
      };
      query = tt;
      rule = tt;
      conjunct = tt;
      end = tt;
      ended = tt;
    }

edge-said : (ls : List WorkLine) (s : Sofar) (e : SchemaEdge) → BeforeEdge ls s → ls ++ edge_line e ∷ [] ≡ head_lines (with_edge s.head e)
edge-said ls s e b =
    let first : WorkLine = FirstLine s.head.format in
    let labels : List WorkLine = label_lines s.head.labels in
    let types : List WorkLine = type_lines s.head.types s.head.schema.kinds in
    let edges : List WorkLine = map edge_line s.head.schema.edges in
    ap (with_line (edge_line e)) b.lines
    ∙ ap (λ xs. first ∷ xs) (append_assoc labels (types ++ edges) (edge_line e ∷ []) ∙ ap (λ xs. labels ++ xs) (append_assoc types edges (edge_line e ∷ [])))
    ∙ ap (λ xs. first ∷ (labels ++ (types ++ xs))) (sym (map-append edge_line s.head.schema.edges (e ∷ [])))

-- after an edge
edge-good : (ls : List WorkLine) (s : Sofar) → s.last ≡ Some Edge → BeforeEdge ls s → BeforeQuery ls s
edge-good ls s last b =
    let none : ended_queries s ≡ [] = ap (λ o. if after_conjunct o then s.queries ++ open_query s ∷ [] else s.queries) last ∙ b.queries in
    record {
      lines = b.lines ∙ sym (append-nil (head_lines s.head)) ∙ ap (λ qs. head_lines s.head ++ queries_lines 0 qs) (sym none);
      each = subst (All (IsQuery s.head)) (sym none) (All-nil (IsQuery s.head));
      few = omega (arith, ap length none);
    }

edge-line-said : (ls : List WorkLine) (s : Sofar) (source label target : List ℕ) (op : Op) → IsSound (stage s.last) s.head
    → is_line s.head.format (EdgeLine source label target op) ≡ true → in_limits s (EdgeLine source label target op) ≡ true → BeforeEdge ls s
    → Good (ls ++ EdgeLine source label target op ∷ []) (after s (EdgeLine source label target op))
edge-line-said ls s source label target op sound form within b =
    let e : SchemaEdge = record { source = number source; label = number label; target = number target; op = op } in
    let t : Sofar = after s (EdgeLine source label target op) in
    let (canon-source, canon-label, canon-target) = three (is_canonical source) (is_canonical label) (is_canonical target) form in
    let new = is_new (length s.head.labels) s.head.schema.kinds s.head.schema.edges e within in
    let line : edge_line e ≡ EdgeLine source label target op = λ i. EdgeLine
    (number-back source canon-source (omega (arith, new.source, sound.schema.few_types)) i)
    (number-back label canon-label (omega (arith, new.label, sound.labels.few)) i)
    (number-back target canon-target (omega (arith, new.target, sound.schema.few_types)) i) op in
    let lines : ls ++ EdgeLine source label target op ∷ [] ≡ head_lines t.head = ap (λ l. ls ++ l ∷ []) (sym line) ∙ edge-said ls s e b in
    let edge : BeforeEdge (ls ++ EdgeLine source label target op ∷ []) t = record { lines = lines; queries = b.queries } in
    let query : BeforeQuery (ls ++ EdgeLine source label target op ∷ []) t = edge-good (ls ++ EdgeLine source label target op ∷ []) t refl edge in
    record {
      first = tt;
      label = tt;
      type = tt;
      edge = edge;
      query = λ closed. query;
      rule = tt;
      conjunct = tt;
      end = λ closed. query;
      ended = tt;
    }

-- ---- the lines of queries

query-said : (ls : List WorkLine) (s : Sofar) (n : List ℕ) (a : Asked) → is_line s.head.format (QueryLine n a) ≡ true → in_limits s (QueryLine n a) ≡ true → BeforeQuery ls s
    → Good (ls ++ QueryLine n a ∷ []) (after s (QueryLine n a))
query-said ls s n a form within b =
    let count : ℕ = length (ended_queries s) in
    let (canon, classes) = and_parts (is_canonical n) (has_classes_of s.head.format a) form in
    let (room, next, wide) = three (nat_lt count 1000) (number n == count) (same_bool (is_some a.class) (is_some a.wide)) within in
    let below : count < 1000 = small-below count 1000 room in
    let same : number n ≡ count = eqb-true (number n) count next in
    let back : n ≡ decimal count = sym (number-back n canon (omega (arith, below, same))) ∙ ap decimal same in
    record {
      first = tt;
      label = tt;
      type = tt;
      edge = tt;
      query = tt;
      rule = λ closed. record {
        asks = record { queries = b.each; room = below; wide = same_bool-same (is_some a.class) (is_some a.wide) wide; classes = classes; rules = All-nil (IsRule s.head.schema.edges) };
        lines = ap (with_line (QueryLine n a)) b.lines
            ∙ append_assoc (head_lines s.head) (queries_lines 0 (ended_queries s)) (QueryLine n a ∷ [])
            ∙ ap (λ k. head_lines s.head ++ (queries_lines 0 (ended_queries s) ++ QueryLine k a ∷ [])) back;
      };
      conjunct = tt;
      end = tt;
      ended = tt;
    }

rule-said : (ls : List WorkLine) (s : Sofar) (heads : List (List ℕ)) → is_line s.head.format (RuleLine heads) ≡ true → in_limits s (RuleLine heads) ≡ true → BeforeRule ls s
    → Good (ls ++ RuleLine heads ∷ []) (after s (RuleLine heads))
rule-said ls s heads form within b =
    let rules : List RuleValue = ended_rules s in
    let numbers : List ℕ = map number heads in
    let (_, canon) = and_parts (has_heads_of s.head.format (length heads)) (list_all is_canonical heads) form in
    let (others, class) = and_parts (nat_lt (length rules) 4 && are_small_heads numbers && have_heads (length numbers) rules) (same_bool (is_some s.asked.class) (length numbers == 2)) within in
    let (room, heads-small, same) = three (nat_lt (length rules) 4) (are_small_heads numbers) (have_heads (length numbers) rules) others in
    let (small, built, apart) = three (list_all (λ v. nat_lt v 16) numbers) (arity_built (length numbers)) (differ numbers) heads-small in
    let back : heads ≡ map decimal numbers = sym (heads-back heads canon small) in
    record {
      first = tt;
      label = tt;
      type = tt;
      edge = tt;
      query = tt;
      rule = tt;
      conjunct = record {
        asks = b.asks;
        lines = ap (with_line (RuleLine heads)) b.lines ∙ ap (λ hs. asked_lines s.head s.queries s.asked rules ++ RuleLine hs ∷ []) back;
        room = small-below (length rules) 4 room;
        small = all-small numbers small;
        built = built;
        apart = apart;
        same = same;
        class = same_bool-same (is_some s.asked.class) (length numbers == 2) class;
        few = omega arith;
        each = All-nil (IsConjunct s.head.schema.edges);
        words = refl;
      };
      end = tt;
      ended = tt;
    }

-- what a conjunct that is read is
conjunct-read : (s : Sofar) (src trg : List ℕ) (star : Bool) (words : List (List WrittenSymbol)) → length s.head.schema.edges ≤ 128
    → is_line s.head.format (ConjunctLine src trg star words) ≡ true → IsKept s (ConjunctLine src trg star words)
    → (conjunct_line (conjunct_of src trg star words) ≡ ConjunctLine src trg star words) × IsConjunct s.head.schema.edges (conjunct_of src trg star words)
    × (is_conjunct (length s.head.schema.edges) (conjunct_of src trg star words) ≡ true) × (length s.conjuncts < 8)
conjunct-read s src trg star words few form is =
    let edges : ℕ = length s.head.schema.edges in
    let (canon-src, canon-trg, union) = three (is_canonical src) (is_canonical trg) (is_union words) form in
    let (some, paths) = and_parts (nat_lt 0 (length words)) (list_all is_path words) union in
    let (ends, short) = and_parts (nat_lt (length s.conjuncts) 8 && nat_lt (number src) 16 && nat_lt (number trg) 16) (is_short_union edges (symbols_of words)) is.limits in
    let (room, low-src, low-trg) = three (nat_lt (length s.conjuncts) 8) (nat_lt (number src) 16) (nat_lt (number trg) 16) ends in
    let small-src : number src < 16 = small-below (number src) 16 low-src in
    let small-trg : number trg < 16 = small-below (number trg) 16 low-trg in
    let (_, short-words) = and_parts _ (list_all (is_short_word edges) (symbols_of words)) short in
    let back = words-back edges few words paths short-words in (
      λ i. ConjunctLine (number-back src canon-src (omega (arith, small-src)) i) (number-back trg canon-trg (omega (arith, small-trg)) i) star (back.0 i),
      record { src = small-src; trg = small-trg; short = short; chains = is.chains; same_ends = is.ends; starred = is.returns },
      and_true (ap (nat_lt 0) (length-map words (map symbol_of)) ∙ some) back.1,
      small-below (length s.conjuncts) 8 room,
    )

conjunct-said : (ls : List WorkLine) (s : Sofar) (src trg : List ℕ) (star : Bool) (words : List (List WrittenSymbol)) → length s.head.schema.edges ≤ 128
    → is_line s.head.format (ConjunctLine src trg star words) ≡ true → IsKept s (ConjunctLine src trg star words) → BeforeConjunct ls s
    → Good (ls ++ ConjunctLine src trg star words ∷ []) (after s (ConjunctLine src trg star words))
conjunct-said ls s src trg star words few_edges form is b =
    let c : ConjunctValue = conjunct_of src trg star words in
    let t : Sofar = after s (ConjunctLine src trg star words) in
    let all : List WorkLine = ls ++ ConjunctLine src trg star words ∷ [] in
    let (line, own, built, room) = conjunct-read s src trg star words few_edges form is in
    let before : List WorkLine = asked_lines s.head s.queries s.asked s.rules in
    let count : length t.conjuncts ≡ length s.conjuncts + 1 = length-append s.conjuncts (c ∷ []) in
    let some : 0 < length t.conjuncts = omega (arith, count) in
    let now : BeforeConjunct all t = record {
      asks = b.asks;
      lines = ap (with_line (ConjunctLine src trg star words)) b.lines
          ∙ append_assoc before (RuleLine (map decimal s.heads) ∷ map conjunct_line s.conjuncts) (ConjunctLine src trg star words ∷ [])
          ∙ ap (λ xs. before ++ (RuleLine (map decimal s.heads) ∷ xs)) (ap (λ k. map conjunct_line s.conjuncts ++ k ∷ []) (sym line)
          ∙ sym (map-append conjunct_line s.conjuncts (c ∷ [])));
      room = b.room;
      small = b.small;
      built = b.built;
      apart = b.apart;
      same = b.same;
      class = b.class;
      few = omega (arith, count, room);
      each = All-push (IsConjunct s.head.schema.edges) s.conjuncts c b.each own;
      words = list_all-append (is_conjunct (length s.head.schema.edges)) s.conjuncts (c ∷ []) ∙ and_true b.words (and_true built refl);
    } in
    let query : heads_occur t ≡ true → BeforeQuery all t = λ closed. record {
      lines = queries-said all t now some closed;
      each = queries-each all t now some closed;
      few = queries-few all t now some closed;
    } in
    record {
      first = tt;
      label = tt;
      type = tt;
      edge = tt;
      query = query;
      rule = λ closed. record { asks = rules-asked all t now some closed; lines = rules-lines all t now some closed };
      conjunct = now;
      end = query;
      ended = tt;
    }

end-said : (ls : List WorkLine) (s : Sofar) → IsSound 4 s.head → BeforeQuery ls s → Good (ls ++ EndLine ∷ []) (after s EndLine)
end-said ls s sound b = record {
  first = tt;
  label = tt;
  type = tt;
  edge = tt;
  query = tt;
  rule = tt;
  conjunct = tt;
  end = tt;
  ended = (
    record { head = whole_head s.head sound; few = b.few; each = b.each },
    ap (with_line EndLine) b.lines ∙ append_assoc (head_lines s.head) (queries_lines 0 (ended_queries s)) (EndLine ∷ []),
  );
}

-- ---- texts

-- a line that passes leaves lines that say what may stand
good-after : (ls : List WorkLine) (s : Sofar) (l : WorkLine) → IsSound (stage s.last) s.head → Good ls s → is_line s.head.format l ≡ true → IsKept s l
    → Good (ls ++ l ∷ []) (after s l)
good-after ls s (FirstLine format) sound good form is = first-said ls s format (given (follows s.last First) (BeforeFirst ls s) is.stands good.first)
good-after ls s (LabelLine name) sound good form is = label-said ls s name (given (follows s.last Label) (BeforeLabel ls s) is.stands good.label)
good-after ls s (TypeLine name kind) sound good form is =
    type-said ls s name kind sound.kinds (given (follows s.last NodeType) (BeforeType ls s) is.stands good.type)
good-after ls s (EdgeLine source label target op) sound good form is =
    edge-line-said ls s source label target op sound form is.limits (given (follows s.last Edge) (BeforeEdge ls s) is.stands good.edge)
good-after ls s (QueryLine n a) sound good form is =
    query-said ls s n a form is.limits (given (follows s.last Query) (Closed s → BeforeQuery ls s) is.stands good.query is.closes)
good-after ls s (RuleLine heads) sound good form is =
    rule-said ls s heads form is.limits (given (follows s.last Rule) (Closed s → BeforeRule ls s) is.stands good.rule is.closes)
good-after ls s (ConjunctLine src trg star words) sound good form is =
    conjunct-said ls s src trg star words sound.schema.few_edges form is (given (follows s.last Conjunct) (BeforeConjunct ls s) is.stands good.conjunct)
good-after ls s EndLine sound good form is =
    end-said ls s (sound_later (stage s.last) s.head sound (comes s.last End is.stands))
    (given (follows s.last End) (Closed s → BeforeQuery ls s) is.stands good.end is.closes)

all-said : (before ls : List WorkLine) (s : Sofar) → IsSound (stage s.last) s.head → Good before s → Passes s ls → after_end (after_all s ls).last ≡ true
    → IsWork (value_of (after_all s ls)) × (work_lines (value_of (after_all s ls)) ≡ before ++ ls)
all-said before [] s sound good passes ended =
    let (work, lines) = given (after_end s.last) (IsWork (value_of s) × (before ≡ work_lines (value_of s))) ended good.ended in
    (work, sym lines ∙ sym (append-nil before))
all-said before (l ∷ ls) s sound good (form, ok, rest) ended =
    let is = kept s l form ok in
    let next = sound_after s l sound (comes s.last (sort_line l) is.stands) form is.limits in
    let (work, lines) = all-said (before ++ l ∷ []) ls (after s l) next (good-after before s l sound good form is) rest ended in
    (work, lines ∙ append_assoc before (l ∷ []) ls)

-- a text in which no line breaks a rule is that of the value that it says
pub reading : (text : List ℕ) (v : WorkValue) → verdict_of text ≡ Ok v → IsReading text v
reading text v ok =
    let p : ArePassing before_all (lines_of text) v = verdict-lines before_all 1 (lines_of text) v ok in
    let (work, lines) = all-said [] p.found before_all sound_none good_none p.passes p.ended in
    (subst IsWork p.value work, ap work_text (sym p.value) ∙ ap lines_text lines ∙ text-of-lines text p.found p.same)

pub reading-is-verdict : ReadingIsVerdict
reading-is-verdict text v = (λ is. sym (ap verdict_of is.1) ∙ read-back v is.0, reading text v)

pub read-where-unbroken : ReadWhereUnbroken
read-where-unbroken text = (
  λ (v, is) line rule broken. absurd (cc ((reading-is-verdict text v).0 is, broken)),
  λ none. by (verdict_of text) refl none,
)
  where
    by : (r : Verdict) → verdict_of text ≡ r → ((line rule : ℕ) → IsFirstBroken text line rule → ⊥) → (v : WorkValue) × IsReading text v
    by (Ok v) is none = (v, reading text v is)
    by (Err (line, rule)) is none = absurd (none line rule is)
