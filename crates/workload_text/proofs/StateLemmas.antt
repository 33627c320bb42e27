-- The state of the reader, as rules and queries end.
use Rattle.std.proofs.Common.{◌≡◌, ℕ, drop, ◌+◌, ◌<◌, ◌≤◌, ◌==◌, Bool, true, false, ◌&&◌, ◌||◌, nat_lt, List, [], ◌∷◌, ◌++◌, length, map, Option, Some, None, is_some, refl, sym, ap, subst, ◌∙◌, arith}
use Rattle.std.specs.List.{list_all}
use Rattle.std.proofs.lemmas.Bool.Decides.{nat_tests}
use Rattle.std.proofs.lemmas.List.{length-append, map-append}
use Rattle.std.proofs.lemmas.List.Folds.{list_all-append}
use Rattle.query_terms.specs.Values.{ConjunctValue, RuleValue, QueryValue, occurs, differ, arity_built, have_heads, has_class}
use Rattle.query_terms.specs.Store.{same_bool}
use Rattle.query_terms.specs.declared.terms.Heads.{Heads}
use Rattle.workload_text.specs.declared.sorts.Sort.{Sort}
use Rattle.workload_text.specs.declared.sorts.Sort.TheVariants.{First, Label, NodeType, Edge, Query, Rule, Conjunct, End}
use Rattle.workload_text.specs.declared.state.Reading.{Reading}
use Rattle.workload_text.specs.Lines.{WorkLine, WrittenSymbol}
use Rattle.workload_text.specs.Lines.WorkLine.{RuleLine, ConjunctLine}
use Rattle.workload_text.specs.Rules.{in_limits, broken_by_line, are_new_heads, are_small_heads}
use Rattle.workload_text.specs.Union.{IsFacts}
use Rattle.workload_text.specs.declared.unions.Facts.{Facts}
use Rattle.workload_text.specs.Sofar.{Sofar, number, symbols_of, after, after_conjunct, open_rule, open_query, ended_rules}
use Rattle.workload_text.specs.State.{in_rule, in_query, sofar_of, values_of, broken_by_facts, IsUsable, IsRuleEnded, IsQueryEnded, IsAccepted}
use Rattle.workload_text.specs.Front.{front_view}
use Rattle.workload_text.specs.View.{asked_view}
use Rattle.query_terms.specs.Lists.{heads_in, is_heads}
use Rattle.query_terms.specs.Building.{Building, begun, with_conjunct}
use Rattle.sel_algebra.specs.declared.vocabulary.Symbol.{Symbol}
use Rattle.workload_text.specs.Values.{is_short_union}
use Rattle.query_terms.specs.View.{query_value}
use Rattle.query_terms.specs.declared.query.Query as code
use Rattle.workload_text.specs.Heads.{ends_of, heads_of, is_end, occur}

-- the ends of conjuncts decide what occurs in them
is_end-is : (cs : List ConjunctValue) (v : ℕ) → is_end (map ends_of cs) v ≡ occurs cs v
is_end-is [] v = refl
is_end-is (c ∷ cs) v = ap (λ b. ((c.src == v) || (c.trg == v)) || b) (is_end-is cs v)

pub occur-is : (cs : List ConjunctValue) (heads : List ℕ) → occur (map ends_of cs) heads ≡ list_all (occurs cs) heads
occur-is cs [] = refl
occur-is cs (v ∷ heads) = rw (is_end-is cs v, occur-is cs heads) refl

-- as many heads as all rules have
pub have_heads-as : (n m : ℕ) (rules : List RuleValue) → have_heads n rules ≡ true → have_heads m rules ≡ ((length rules == 0) || (n == m))
have_heads-as n m [] all = refl
have_heads-as n m (r ∷ rules) all =
    let rest : have_heads n rules ≡ true = grind arith in
    let here : length r.heads ≡ n = grind (arith, nat_tests) in
    let more = have_heads-as n m rules rest in
    let some : (length (r ∷ rules) == 0) ≡ false = grind (arith, nat_tests) in
    rw (some, here, more) (either (n == m) (length rules == 0))
  where
    either : (a b : Bool) → (a && (b || a)) ≡ (false || a)
    either a b = grind arith

-- rules with so many heads, and one more
pub have_heads-more : (n : ℕ) (rules : List RuleValue) (r : RuleValue) → have_heads n rules ≡ true → length r.heads ≡ n → have_heads n (rules ++ r ∷ []) ≡ true
have_heads-more n rules r all same =
    let last : (length r.heads == n) ≡ true = grind (arith, nat_tests) in
    list_all-append (λ q. length q.heads == n) rules (r ∷ []) ∙ rw (all, last) refl

-- they have two heads exactly where one has
pub has_class-more : (n : ℕ) (rules : List RuleValue) (r : RuleValue) → have_heads n rules ≡ true → length r.heads ≡ n → has_class (rules ++ r ∷ []) ≡ (n == 2)
has_class-more n [] r all same = rw same refl
has_class-more n (q ∷ rules) r all same =
    let first : length q.heads ≡ n = grind (arith, nat_tests) in
    rw first refl

-- after a conjunct a rule and a query are begun
pub in_rule-after : (last : Option Sort) → after_conjunct last ≡ true → in_rule last ≡ true
in_rule-after None h = cc h
in_rule-after (Some First) h = cc h
in_rule-after (Some Label) h = cc h
in_rule-after (Some NodeType) h = cc h
in_rule-after (Some Edge) h = cc h
in_rule-after (Some Query) h = cc h
in_rule-after (Some Rule) h = refl
in_rule-after (Some Conjunct) h = refl
in_rule-after (Some End) h = cc h

pub in_query-rule : (last : Option Sort) → in_rule last ≡ true → in_query last ≡ true
in_query-rule None h = cc h
in_query-rule (Some First) h = cc h
in_query-rule (Some Label) h = cc h
in_query-rule (Some NodeType) h = cc h
in_query-rule (Some Edge) h = cc h
in_query-rule (Some Query) h = refl
in_query-rule (Some Rule) h = refl
in_query-rule (Some Conjunct) h = refl
in_query-rule (Some End) h = cc h

-- the rules have as many heads as the one that is begun, which may be one of them
pub have_heads-ended : (r : Reading) → IsUsable r → have_heads r.heads.count (ended_rules (sofar_of r)) ≡ true
have_heads-ended r u = by (after_conjunct r.last) refl
  where
    by : (b : Bool) → after_conjunct r.last ≡ b → have_heads r.heads.count (ended_rules (sofar_of r)) ≡ true
    by true is = rw is (have_heads-more r.heads.count r.builder.rules (open_rule (sofar_of r)) u.same u.arity)
    by false is = rw is u.same

-- what is known once the rule is ended, where it was begun
module _ (old new : Reading) (u : IsUsable old) (ended : IsRuleEnded old new) (after : after_conjunct new.last ≡ true) where
  last_same : new.last ≡ old.last
  last_same = ap (λ r. r.last) ended.rest

  after_old : after_conjunct old.last ≡ true
  after_old = ap after_conjunct (sym last_same) ∙ after

  rules_are : new.builder.rules ≡ old.builder.rules ++ open_rule (sofar_of old) ∷ []
  rules_are = ap (λ b. b.rules) ended.builder ∙ rw after_old refl

  -- there are classes exactly where the rules have two heads
  pub class_ended : is_some new.asked.class ≡ has_class new.builder.rules
  class_ended =
      ap (λ r. is_some r.asked.class) ended.rest ∙ u.class (in_rule-after old.last after_old)
      ∙ sym (ap has_class rules_are ∙ has_class-more old.heads.count old.builder.rules (open_rule (sofar_of old)) u.same u.arity)

  pub wide_ended : is_some new.asked.wide ≡ has_class new.builder.rules
  wide_ended = ap (λ r. is_some r.asked.wide) ended.rest ∙ sym u.wide ∙ ap (λ r. is_some r.asked.class) (sym ended.rest) ∙ class_ended

  -- the query that is begun
  pub query_ended : (q : QueryValue)
      → q ≡ record { labels = new.builder.labels; shape = new.asked.shape; class = new.asked.class; wide = new.asked.wide; rules = new.builder.rules }
      → q ≡ open_query (sofar_of old)
  query_ended q is = is ∙ λ i. record {
    labels = (ap (λ b. b.labels) ended.builder ∙ u.labels (in_query-rule old.last (in_rule-after old.last after_old)) ∙ u.front.labels) i;
    shape = (ended.rest i).asked.shape;
    class = (ended.rest i).asked.class;
    wide = (ended.rest i).asked.wide;
    rules = (ap (λ b. b.rules) ended.builder) i;
  }

  -- the query is ended, and the next can begin
  pub query_is_ended : (last : Reading) (q : code.Query)
      → last ≡ record new { queries = last.queries; builder = last.builder; rules = 0; heads = record { count = 0; vars = 0 ∷ 0 ∷ 0 ∷ 0 ∷ [] } }
      → last.queries.items ≡ new.queries.items ++ q ∷ [] → query_value q ≡ open_query (sofar_of old) → last.builder ≡ begun old.front.edge_labels.items
      → IsQueryEnded old last
  query_is_ended last q same items value builder =
      let before : new.queries ≡ old.queries = ap (λ r. r.queries) ended.rest in
      let room : length old.queries.items < 1000 = u.open_queries (in_query-rule old.last (in_rule-after old.last after_old)) in
      let count : length last.queries.items ≡ length old.queries.items + 1 =
      ap length items ∙ length-append new.queries.items (q ∷ []) ∙ ap (λ qs. length qs.items + 1) before in
      record {
        queries = ap values_of items ∙ map-append query_value new.queries.items (q ∷ []) ∙ (λ i. values_of (before i).items ++ value i ∷ [])
            ∙ sym (rw after_old refl);
        few = omega (arith, count, room);
        builder = builder;
        ends = ap (λ r. r.ends.items) same ∙ ended.ends;
        count = ap (λ r. r.rules) same;
        heads = ap (λ r. r.heads) same;
        rest = same ∙ λ i. record (ended.rest i) {
          queries = last.queries;
          builder = last.builder;
          ends = (sym same i).ends;
          rules = (sym same i).rules;
          heads = (sym same i).heads;
        };
      }

-- a line that isn't in its limits breaks rule 5
pub refused : (old : Sofar) (line : WorkLine) (new : Reading) → in_limits old line ≡ false → IsAccepted old line (Some 5) new
refused old line new out = record { broken = rw out refl; usable = λ e. cc e; value = λ e. cc e }

-- what was seen of the words of a conjunct in its limits gives the least rule that it breaks
pub broken_is : (s : Sofar) (src trg : List ℕ) (star : Bool) (words : List (List WrittenSymbol)) (f : Facts)
    → in_limits s (ConjunctLine src trg star words) ≡ true → IsFacts s.head.schema.edges (symbols_of words) f
    → broken_by_facts f star ≡ broken_by_line s (ConjunctLine src trg star words)
broken_is s src trg star words f within is = rw (within, is.chains, is.same, is.back) refl

-- the rule that is begun has one conjunct more
module _ (r new : Reading) (u : IsUsable r) (rule : in_rule r.last ≡ true) (c : ConjunctValue)
    (same : new ≡ record r { last = Some Conjunct; builder = new.builder; ends = new.ends })
    (put : new.builder ≡ record r.builder { conjuncts = r.builder.conjuncts ++ c ∷ []; words = []; taken = new.builder.taken })
    (ends : new.ends.items ≡ r.ends.items ++ ends_of c ∷ [])
    (room : length r.builder.conjuncts < 8) (taken : new.builder.taken ≤ r.builder.taken + 256) where
  conjuncts : new.builder.conjuncts ≡ r.builder.conjuncts ++ c ∷ []
  conjuncts = ap (λ b. b.conjuncts) put

  count : length new.builder.conjuncts ≡ length r.builder.conjuncts + 1
  count = ap length conjuncts ∙ length-append r.builder.conjuncts (c ∷ [])

  pub conjunct_usable : IsUsable new
  conjunct_usable = subst IsUsable (sym same) (record {
    front = u.front;
    free = ap (λ b. b.refused) put ∙ u.free;
    word = ap (λ b. b.word) put ∙ u.word;
    words = ap (λ b. b.words) put;
    labels = λ _. ap (λ b. b.labels) put ∙ u.labels (in_query-rule r.last rule);
    rules = u.rules ∙ ap (λ b. length b.rules) (sym put);
    few_rules = u.few_rules;
    open_rules = λ _. u.open_rules rule;
    ends = ends ∙ ap (λ es. es ++ ends_of c ∷ []) u.ends ∙ sym (ap (map ends_of) conjuncts ∙ map-append ends_of r.builder.conjuncts (c ∷ []));
    begun = grind (arith, nat_tests, count);
    few = omega (arith, count, room);
    taken = omega (arith, count, taken, u.taken);
    heads = u.heads;
    arity = u.arity;
    differ = u.differ;
    same = ap (λ b. have_heads r.heads.count b.rules) put ∙ u.same;
    wide = u.wide;
    class = λ _. u.class rule;
    queries = u.queries;
    open_queries = λ _. u.open_queries (in_query-rule r.last rule);
  })

  pub conjunct_value : (src trg : List ℕ) (star : Bool) (words : List (List WrittenSymbol))
      → c ≡ record { src = number src; trg = number trg; star = star; words = symbols_of words }
      → sofar_of new ≡ after (sofar_of r) (ConjunctLine src trg star words)
  conjunct_value src trg star words is = ap sofar_of same ∙ λ i. record {
    last = Some Conjunct;
    head = front_view r.front;
    queries = values_of r.queries.items;
    asked = asked_view r.asked;
    rules = (put i).rules;
    heads = heads_in r.heads;
    conjuncts = (conjuncts ∙ ap (λ d. r.builder.conjuncts ++ d ∷ []) is) i;
  }

-- few conjuncts, small variables and short words are in their limits, and other words aren't
pub within_limits : (s : Sofar) (src trg : List ℕ) (star : Bool) (words : List (List WrittenSymbol)) → length s.conjuncts < 8 → number src < 16 → number trg < 16
    → is_short_union (length s.head.schema.edges) (symbols_of words) ≡ true → in_limits s (ConjunctLine src trg star words) ≡ true
within_limits s src trg star words room src_small trg_small short =
    let count : nat_lt (length s.conjuncts) 8 ≡ true = grind (arith, nat_tests) in
    let first : nat_lt (number src) 16 ≡ true = grind (arith, nat_tests) in
    let second : nat_lt (number trg) 16 ≡ true = grind (arith, nat_tests) in
    rw (count, first, second, short) refl

pub out_of_limits : (s : Sofar) (src trg : List ℕ) (star : Bool) (words : List (List WrittenSymbol))
    → is_short_union (length s.head.schema.edges) (symbols_of words) ≡ false → in_limits s (ConjunctLine src trg star words) ≡ false
out_of_limits s src trg star words long =
    fail (nat_lt (length s.conjuncts) 8) (nat_lt (number src) 16) (nat_lt (number trg) 16) (is_short_union (length s.head.schema.edges) (symbols_of words)) long
  where
    fail : (a b c d : Bool) → d ≡ false → (a && b && c && d) ≡ false
    fail a b c d fails = grind arith

-- the words that were put are those of the conjunct
pub put_conjunct : (a b e : Building) (src trg : ℕ) (star : Bool) (words : List (List Symbol))
    → b ≡ record a { words = words; taken = b.taken } → e ≡ with_conjunct b src trg star
    → e ≡ record a { conjuncts = a.conjuncts ++ record { src = src; trg = trg; star = star; words = words } ∷ []; words = []; taken = e.taken }
put_conjunct a b e src trg star words put ended = λ i. record {
  labels = (ap (λ x. x.labels) ended ∙ ap (λ x. x.labels) put) i;
  rules = (ap (λ x. x.rules) ended ∙ ap (λ x. x.rules) put) i;
  conjuncts = (ap (λ x. x.conjuncts) ended ∙ λ j. (put j).conjuncts ++ record { src = src; trg = trg; star = star; words = (put j).words } ∷ []) i;
  words = ap (λ x. x.words) ended i;
  word = (ap (λ x. x.word) ended ∙ ap (λ x. x.word) put) i;
  taken = e.taken;
  refused = (ap (λ x. x.refused) ended ∙ ap (λ x. x.refused) put) i;
}

four_hold : (a b c d : Bool) → (a && b && c && d) ≡ true → (a ≡ true) × (b ≡ true) × (c ≡ true) × (d ≡ true)
four_hold true true true true h = (refl, refl, refl, refl)
four_hold true true true false h = absurd (cc)
four_hold true true false d h = absurd (cc)
four_hold true false c d h = absurd (cc)
four_hold false b c d h = absurd (cc)

same_are : (a b : Bool) → same_bool a b ≡ true → a ≡ b
same_are true b h = sym h
same_are false true h = absurd (cc)
same_are false false h = refl

-- the rule that was begun is ended, and one with new heads is begun
module _ (old mid next : Reading) (u : IsUsable old) (ended : IsRuleEnded old mid) (query : in_query old.last ≡ true) (h : Heads) (words : List (List ℕ))
    (same : next ≡ record mid { last = Some Rule; heads = h }) (is : is_heads h ≡ true) (heads : heads_in h ≡ heads_of words)
    (count : length (heads_in h) ≡ h.count) (may : are_new_heads (sofar_of old) (heads_of words) ≡ true) where
  parts : (nat_lt (length (ended_rules (sofar_of old))) 4 ≡ true) × (are_small_heads (heads_of words) ≡ true)
      × (have_heads (length (heads_of words)) (ended_rules (sofar_of old)) ≡ true) × (same_bool (is_some old.asked.class) (length (heads_of words) == 2) ≡ true)
  parts = four_hold _ _ _ _ may

  length_is : length (heads_of words) ≡ h.count
  length_is = ap length (sym heads) ∙ count

  whole : next ≡ record old { last = Some Rule; builder = mid.builder; rules = mid.rules; heads = h; ends = mid.ends }
  whole = same ∙ λ i. record (ended.rest i) { last = Some Rule; heads = h }

  rule_usable : IsUsable next
  rule_usable = subst IsUsable (sym whole) (record {
    front = u.front;
    free = ap (λ b. b.refused) ended.builder ∙ u.free;
    word = ap (λ b. b.word) ended.builder ∙ u.word;
    words = ap (λ b. b.words) ended.builder ∙ u.words;
    labels = λ _. ap (λ b. b.labels) ended.builder ∙ u.labels query;
    rules = ended.count ∙ ap (λ b. length b.rules) (sym ended.builder);
    few_rules = ended.few;
    open_rules = λ _. grind (arith, nat_tests, parts.0, ended.count);
    ends = ended.ends ∙ sym (ap (λ b. map ends_of b.conjuncts) ended.builder);
    begun = ap (λ b. nat_lt 0 (length b.conjuncts)) ended.builder;
    few = omega (arith, ap (λ b. length b.conjuncts) ended.builder);
    taken = omega (arith, ended.taken);
    heads = is;
    arity = count;
    differ = ap differ heads ∙ last_holds (list_all (λ v. nat_lt v 16) (heads_of words)) (arity_built (length (heads_of words))) (differ (heads_of words)) parts.1;
    same = (λ i. have_heads (sym length_is i) (ended.builder i).rules) ∙ parts.2;
    wide = u.wide;
    class = λ _. same_are _ _ parts.3 ∙ ap (λ n. n == 2) length_is;
    queries = u.queries;
    open_queries = λ _. u.open_queries query;
  })
    where
      last_holds : (a b c : Bool) → (a && b && c) ≡ true → c ≡ true
      last_holds a b c h = grind arith

  pub rule_accepted : IsAccepted (sofar_of old) (RuleLine (map (drop 1) words)) None next
  rule_accepted = record {
    broken = rw may refl;
    usable = λ _. rule_usable;
    value = λ _. ap sofar_of whole ∙ λ i. record {
      last = Some Rule;
      head = front_view old.front;
      queries = values_of old.queries.items;
      asked = asked_view old.asked;
      rules = (ended.builder i).rules;
      heads = heads i;
      conjuncts = (ended.builder i).conjuncts;
    };
  }
