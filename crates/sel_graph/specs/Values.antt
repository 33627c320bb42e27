-- The value of a typed word.
--   value_from g kind a word    a, and then the operators of a word's symbols, by typed composition from a start of this kind
--   value_of g t word           the value of a word that starts at type t
use Rattle.std.specs.Prelude.{ℕ, List, [], ◌∷◌}
use Rattle.sel_algebra.specs.declared.vocabulary.Op.{Op}
use Rattle.sel_algebra.specs.declared.vocabulary.Op.TheVariants.{Equal}
use Rattle.sel_algebra.specs.declared.vocabulary.Kind.{Kind}
use Rattle.sel_algebra.specs.declared.vocabulary.Symbol.{Symbol}
use Rattle.sel_algebra.specs.Operators.{typed_composition}
use Rattle.sel_algebra.specs.Table.{kind_at}
use Rattle.schema_graph.specs.Edge.{end_of, op_of}
use Rattle.schema_graph.specs.Schema.{SchemaValue}

-- an operator, and then the operators of a word's symbols, by typed composition from a start of a kind
abbrev pub value_from : SchemaValue → Kind → Op → List Symbol → Op
value_from g kind a [] = a
value_from g kind a (c ∷ word) = value_from g kind (typed_composition a (op_of g.edges c) kind (kind_at g.kinds (end_of g.edges c))) word

-- the value of a word that starts at type t
abbrev pub value_of : SchemaValue → ℕ → List Symbol → Op
value_of g t word = value_from g (kind_at g.kinds t) Equal word
