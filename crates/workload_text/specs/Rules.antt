-- The rules of workload texts, each asked of a line and of what the lines before it say.
--   rule_1 .. rule_9         the rules F1 to F9
--   broken s line            the least rule that a line breaks
--   verdict s n lines        what lines from line n on say after others: all, or the first that breaks a rule, and the rule
--   verdict_of text          that of a text
--   IsFirstBroken text n r   line n is the first that breaks a rule, and r is the least that it breaks
use Rattle.std.specs.Prelude.{◌≡◌, ℕ, ◌+◌, ◌==◌, Bool, true, false, not, ◌&&◌, ◌||◌, nat_lt, if◌then◌else◌, List, [], ◌∷◌, length, map, Option, Some, None, is_some, Result, Ok, Err}
use Rattle.std.specs.List.{list_all, list_any}
use Rattle.std.specs.Str.{bytes_eq}
use Rattle.sel_algebra.specs.declared.vocabulary.Op.{Op}
use Rattle.sel_algebra.specs.declared.vocabulary.Op.TheVariants.{Equal, Less, Greater, Diamond, Cross}
use Rattle.sel_algebra.specs.declared.vocabulary.Kind.{Kind}
use Rattle.sel_algebra.specs.declared.vocabulary.Symbol.{Symbol}
use Rattle.sel_algebra.specs.Operators.{normal_of}
use Rattle.sel_algebra.specs.Table.{kind_at}
use Rattle.schema_graph.specs.declared.edge.SchemaEdge.{SchemaEdge}
use Rattle.query_terms.specs.Store.{same_bool}
use Rattle.query_terms.specs.Values.{occurs, differ, have_heads, arity_built}
use Rattle.gm_text.specs.Lines.{lines_of}
use Rattle.workload_text.specs.declared.sorts.Sort.{Sort}
use Rattle.workload_text.specs.declared.sorts.Sort.TheVariants.{First, Label, NodeType, Edge, Query, Rule, Conjunct, End}
use Rattle.workload_text.specs.Values.{WorkValue, names_most, edges_most, queries_most, rules_most, conjuncts_most, variables_most, is_chain, is_short_union, have_same_ends, may_be_starred}
use Rattle.workload_text.specs.Lines.{Asked, WorkLine, WrittenSymbol}
use Rattle.workload_text.specs.Lines.WorkLine.{FirstLine, LabelLine, TypeLine, EdgeLine, QueryLine, RuleLine, ConjunctLine, EndLine}
use Rattle.workload_text.specs.Forms.{first_word, sort_of, line_of}
use Rattle.workload_text.specs.Sofar.{Sofar, before_all, after, after_conjunct, ended_rules, ended_queries, number, symbols_of, value_of}

-- the line of a text: its bytes, and whether an LF ends it
abbrev pub TextLine : Type 0
TextLine = List ℕ × Bool

-- the sort of a line
abbrev pub sort_of_line : TextLine → Option Sort
sort_of_line line = sort_of (first_word line.0)

-- what a line says
abbrev pub said : Sofar → TextLine → Option WorkLine
said s line = line_of s.head.format line.0

-- ---- F2

-- a line of this sort may follow a line
abbrev pub follows : Option Sort → Sort → Bool
follows None First = true
follows (Some First) Label = true
follows (Some Label) Label = true
follows (Some Label) NodeType = true
follows (Some NodeType) NodeType = true
follows (Some NodeType) Edge = true
follows (Some Edge) Edge = true
follows (Some Edge) Query = true
follows (Some Edge) End = true
follows (Some Query) Rule = true
follows (Some Rule) Conjunct = true
follows (Some Conjunct) Conjunct = true
follows (Some Conjunct) Rule = true
follows (Some Conjunct) Query = true
follows (Some Conjunct) End = true
follows last sort = false

-- the first word begins a line that may stand here
abbrev pub may_follow : Option Sort → Option Sort → Bool
may_follow last None = false
may_follow last (Some sort) = follows last sort

-- ---- F3

-- each head of the rule that is begun stands at an end of one of its conjuncts
abbrev pub heads_occur : Sofar → Bool
heads_occur s = list_all (occurs s.conjuncts) s.heads

-- the line goes on with the conjuncts of the rule
abbrev pub goes_on : Option Sort → Bool
goes_on None = false
goes_on (Some sort) = after_conjunct (Some sort)

-- ---- F5

-- the name is none of those before
abbrev pub is_new_name : List ℕ → List (List ℕ) → Bool
is_new_name name names = nat_lt (length names) names_most && not (list_any (bytes_eq name) names)

-- the edge has this source, label and target
abbrev pub is_at : ℕ → ℕ → ℕ → SchemaEdge → Bool
is_at source label target e = (e.source == source) && (e.label == label) && (e.target == target)

-- two operators are the same
abbrev pub same_op : Op → Op → Bool
same_op Equal Equal = true
same_op Less Less = true
same_op Greater Greater = true
same_op Diamond Diamond = true
same_op Cross Cross = true
same_op a b = false

-- the operator is normal between two types
abbrev pub is_normal_at : List Kind → ℕ → ℕ → Op → Bool
is_normal_at kinds source target op = same_op (normal_of op (kind_at kinds source) (kind_at kinds target)) op

-- the numbers name a type, a label and a type, and no edge before has them; and the operator is normal
abbrev pub is_new_edge : ℕ → List Kind → List SchemaEdge → SchemaEdge → Bool
is_new_edge labels kinds edges e =
    nat_lt (length edges) edges_most && nat_lt e.source (length kinds) && nat_lt e.label labels && nat_lt e.target (length kinds)
    && not (list_any (is_at e.source e.label e.target) edges) && is_normal_at kinds e.source e.target e.op

-- it has the next number, and two classes or none
abbrev pub is_next_query : ℕ → ℕ → Asked → Bool
is_next_query queries n asked = nat_lt queries queries_most && (n == queries) && same_bool (is_some asked.class) (is_some asked.wide)

-- heads that are small, of a built number, and differ
abbrev pub are_small_heads : List ℕ → Bool
are_small_heads heads = list_all (λ v. nat_lt v variables_most) heads && arity_built (length heads) && differ heads

-- the heads are such, as many as those of the rules before, and two exactly where there is a class
abbrev pub are_new_heads : Sofar → List ℕ → Bool
are_new_heads s heads =
    nat_lt (length (ended_rules s)) rules_most && are_small_heads heads && have_heads (length heads) (ended_rules s)
    && same_bool (is_some s.asked.class) (length heads == 2)

-- small variables, and short words of symbols that have an edge
abbrev pub is_small_conjunct : Sofar → ℕ → ℕ → List (List WrittenSymbol) → Bool
is_small_conjunct s src trg words =
    nat_lt (length s.conjuncts) conjuncts_most && nat_lt src variables_most && nat_lt trg variables_most
    && is_short_union (length s.head.schema.edges) (symbols_of words)

-- the numbers and counts of a line are in their limits
abbrev pub in_limits : Sofar → WorkLine → Bool
in_limits s (FirstLine format) = true
in_limits s (LabelLine name) = is_new_name name s.head.labels
in_limits s (TypeLine name kind) = is_new_name name s.head.types
in_limits s (EdgeLine source label target op) =
    is_new_edge (length s.head.labels) s.head.schema.kinds s.head.schema.edges
    (record { source = number source; label = number label; target = number target; op = op })
in_limits s (QueryLine n asked) = is_next_query (length (ended_queries s)) (number n) asked
in_limits s (RuleLine heads) = are_new_heads s (map number heads)
in_limits s (ConjunctLine src trg star words) = is_small_conjunct s (number src) (number trg) words
in_limits s EndLine = true

-- ---- F6 to F8

-- the words of a line
abbrev pub words_in : WorkLine → List (List Symbol)
words_in (ConjunctLine src trg star words) = symbols_of words
words_in line = []

-- the words may be repeated
abbrev pub is_starred : WorkLine → Bool
is_starred (ConjunctLine src trg star words) = star
is_starred line = false

-- in each word each symbol starts at the type where the one before it ends
abbrev pub has_chains : Sofar → WorkLine → Bool
has_chains s line = list_all (is_chain s.head.schema.edges) (words_in line)

-- all words start at one type and end at one type
abbrev pub has_same_ends : Sofar → WorkLine → Bool
has_same_ends s line = have_same_ends s.head.schema.edges (words_in line)

-- starred words end where they start
abbrev pub has_returning_words : Sofar → WorkLine → Bool
has_returning_words s line = may_be_starred s.head.schema.edges (is_starred line) (words_in line)

-- ---- the rules

-- what is asked of what a line says, where it says something
abbrev pub of_said : (Sofar → WorkLine → Bool) → Sofar → Option WorkLine → Bool
of_said holds s None = true
of_said holds s (Some line) = holds s line

-- the last line is `end`
abbrev pub after_end : Option Sort → Bool
after_end None = false
after_end (Some First) = false
after_end (Some Label) = false
after_end (Some NodeType) = false
after_end (Some Edge) = false
after_end (Some Query) = false
after_end (Some Rule) = false
after_end (Some Conjunct) = false
after_end (Some End) = true

-- F1: an LF ends the line
abbrev pub rule_1 : Sofar → TextLine → Bool
rule_1 s line = line.1

-- F2: its first word is one that may stand here
abbrev pub rule_2 : Sofar → TextLine → Bool
rule_2 s line = may_follow s.last (sort_of_line line)

-- F3: where it is the first after a rule's conjuncts, all heads of the rule occur in them
abbrev pub rule_3 : Sofar → TextLine → Bool
rule_3 s line = not (after_conjunct s.last) || goes_on (sort_of_line line) || heads_occur s

-- F4: it has the form of its line
abbrev pub rule_4 : Sofar → TextLine → Bool
rule_4 s line = is_some (said s line)

-- F5: all numbers and counts are in their limits
abbrev pub rule_5 : Sofar → TextLine → Bool
rule_5 s line = of_said in_limits s (said s line)

-- F6: in each word each symbol starts at the type where the one before it ends
abbrev pub rule_6 : Sofar → TextLine → Bool
rule_6 s line = of_said has_chains s (said s line)

-- F7: all words of the conjunct start at one type and end at one type
abbrev pub rule_7 : Sofar → TextLine → Bool
rule_7 s line = of_said has_same_ends s (said s line)

-- F8: a starred conjunct's words end at the type where they start
abbrev pub rule_8 : Sofar → TextLine → Bool
rule_8 s line = of_said has_returning_words s (said s line)

-- F9: it doesn't follow the line `end`
abbrev pub rule_9 : Sofar → TextLine → Bool
rule_9 s line = not (after_end s.last)

-- the least of F5 to F8 that a line breaks
abbrev pub broken_by_line : Sofar → WorkLine → Option ℕ
broken_by_line s line = if not (in_limits s line) then Some 5
    else (if not (has_chains s line) then Some 6
    else (if not (has_same_ends s line) then Some 7
    else (if not (has_returning_words s line) then Some 8
    else None)))

-- the least rule that a line breaks; after `end` no rule but F9 is asked
abbrev pub broken : Sofar → TextLine → Option ℕ
broken s line = if not (rule_9 s line) then Some 9
    else (if not (rule_1 s line) then Some 1
    else (if not (rule_2 s line) then Some 2
    else (if not (rule_3 s line) then Some 3
    else (if not (rule_4 s line) then Some 4
    else (if not (rule_5 s line) then Some 5
    else (if not (rule_6 s line) then Some 6
    else (if not (rule_7 s line) then Some 7
    else (if not (rule_8 s line) then Some 8
    else None))))))))

-- ---- texts

-- what a text says, or the first line that breaks a rule, and the rule
abbrev pub Verdict : Type 0
Verdict = Result WorkValue (ℕ × ℕ)

-- with what a line says, where it says something
abbrev pub after_said : Sofar → Option WorkLine → Sofar
after_said s None = s
after_said s (Some line) = after s line

-- with a line of a text more
abbrev pub after_line : Sofar → TextLine → Sofar
after_line s line = after_said s (said s line)

-- line n breaks a rule, or else the verdict is that of the lines after it
abbrev pub unless_broken : ℕ → Option ℕ → Verdict → Verdict
unless_broken n None verdict = verdict
unless_broken n (Some rule) verdict = Err (n, rule)

-- the verdict of lines from line n on; where the last is missing, F1 is broken
abbrev pub verdict : Sofar → ℕ → List TextLine → Verdict
verdict s n [] = if after_end s.last then Ok (value_of s) else Err (n, 1)
verdict s n (line ∷ lines) = unless_broken n (broken s line) (verdict (after_line s line) (n + 1) lines)

-- the verdict of a text
abbrev pub verdict_of : List ℕ → Verdict
verdict_of text = verdict before_all 1 (lines_of text)

-- line n is the first that breaks a rule, and it breaks this one and none below
abbrev pub IsFirstBroken : List ℕ → ℕ → ℕ → Type 0
IsFirstBroken text n rule = verdict_of text ≡ Err (n, rule)
