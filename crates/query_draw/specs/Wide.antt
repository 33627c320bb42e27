-- The wide class of a query: what the classes of all paths along its labels are at most.
--   symbol_matrix g c           the matrix of a symbol: that of its label and direction
--   word_matrix g word          the product of the matrices of a word's symbols
--   union_matrix g words        the join of the matrices of words
--   conjunct_matrix g c         that of a conjunct's words, and its closure where the conjunct is starred
--   spine_matrix g cs           the product of the matrices of conjuncts
--   rule_wide g shape rule      the greatest class in the matrix of a rule's spine
--   query_wide g shape rules    with two heads, the greatest of the rules
use Rattle.std.specs.Prelude.{if◌then◌else◌, Option, None, List, map}
use Rattle.std.specs.List.{fold}
use Rattle.sel_algebra.specs.declared.vocabulary.Class.{Class}
use Rattle.sel_algebra.specs.declared.vocabulary.Shape.{Shape}
use Rattle.sel_algebra.specs.declared.vocabulary.Symbol.{Symbol}
use Rattle.sel_algebra.specs.Table.{Table, zero_of, one_of, times_of, plus_of}
use Rattle.sel_algebra.specs.Closure.{closure_of}
use Rattle.sel_algebra.specs.Greatest.{greatest_class_of}
use Rattle.schema_graph.specs.Edge.{label_of}
use Rattle.schema_graph.specs.Labelled.{matrix_of}
use Rattle.schema_graph.specs.Schema.{SchemaValue}
use Rattle.query_terms.specs.Values.{ConjunctValue, RuleValue, has_class}
use Rattle.query_draw.specs.Values.{spine, greatest_of}

-- the matrix of a symbol: of all edges with the label of its edge, in its direction
abbrev pub symbol_matrix : SchemaValue → Symbol → Table
symbol_matrix g c = matrix_of g (label_of g.edges c) c.back

-- a matrix, times that of a further symbol
abbrev pub times_symbol : SchemaValue → Table → Symbol → Table
times_symbol g a c = times_of a (symbol_matrix g c)

-- the product of the matrices of the symbols
abbrev pub word_matrix : SchemaValue → List Symbol → Table
word_matrix g word = fold (times_symbol g) (one_of g.kinds) word

-- a matrix, joined with that of a further word
abbrev pub plus_word : SchemaValue → Table → List Symbol → Table
plus_word g a word = plus_of a (word_matrix g word)

-- the join of the matrices of words
abbrev pub union_matrix : SchemaValue → List (List Symbol) → Table
union_matrix g words = fold (plus_word g) (zero_of g.kinds) words

-- the matrix of a conjunct: the join of its words, and the closure of that where it is starred
abbrev pub conjunct_matrix : SchemaValue → ConjunctValue → Table
conjunct_matrix g c = if c.star then closure_of (union_matrix g c.words) else union_matrix g c.words

-- a matrix, times that of a further conjunct
abbrev pub times_conjunct : SchemaValue → Table → ConjunctValue → Table
times_conjunct g a c = times_of a (conjunct_matrix g c)

-- the product of the matrices of conjuncts
abbrev pub spine_matrix : SchemaValue → List ConjunctValue → Table
spine_matrix g cs = fold (times_conjunct g) (one_of g.kinds) cs

-- the wide class of a rule: the greatest class in the matrix of its spine
abbrev pub rule_wide : SchemaValue → Shape → RuleValue → Option Class
rule_wide g shape rule = greatest_class_of (spine_matrix g (spine shape rule))

-- the wide class of a query: with two heads, the greatest of its rules, and else none
abbrev pub query_wide : SchemaValue → Shape → List RuleValue → Option Class
query_wide g shape rules = if has_class rules then greatest_of (map (rule_wide g shape) rules) else None
