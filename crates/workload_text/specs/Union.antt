-- The words of a conjunct as they are put into a query.
--   word_of bytes                the symbols of a word
--   union_of bytes               the words
--   put_word b word              the builder with one word more
--   IsEnds edges word ends       what was seen of a word
--   IsFacts edges words facts    what was seen of words
use Rattle.std.specs.Prelude.{◌≡◌, ℕ, ◌+◌, ◌==◌, Bool, true, ◌&&◌, List, [], ◌∷◌, ◌++◌, length, map, Option, Some, None}
use Rattle.std.specs.List.{list_all}
use Rattle.sel_algebra.specs.declared.vocabulary.Symbol.{Symbol}
use Rattle.schema_graph.specs.declared.edge.SchemaEdge.{SchemaEdge}
use Rattle.query_terms.specs.Building.{Building}
use Rattle.workload_text.specs.Values.{word_start, word_end, is_chain, have_same_ends, comes_back}
use Rattle.workload_text.specs.Forms.{read_path, read_union}
use Rattle.workload_text.specs.Sofar.{symbol_of, symbols_of}
use Rattle.workload_text.specs.declared.unions.Ends.{Ends}
use Rattle.workload_text.specs.declared.unions.Facts.{Facts}

-- the symbols of a word
abbrev pub word_of : List ℕ → List Symbol
word_of bytes = map symbol_of (read_path bytes)

-- the words of a conjunct
abbrev pub union_of : List ℕ → List (List Symbol)
union_of bytes = symbols_of (read_union bytes)

-- one word more
abbrev pub put_word : Building → List Symbol → Building
put_word b word = record b { words = b.words ++ word ∷ []; word = []; taken = b.taken + length word }

-- where a word starts and ends, and whether each of its symbols starts where the one before it ends
pub record IsEnds (edges : List SchemaEdge) (word : List Symbol) (ends : Ends) : Type 0 where
  pub chain : ends.chain ≡ is_chain edges word
  pub start : ends.start ≡ word_start edges word
  pub finish : ends.finish ≡ word_end edges word

-- where the first of the words starts and ends
abbrev pub first_ends : List SchemaEdge → List (List Symbol) → Option (ℕ × ℕ)
first_ends edges [] = None
first_ends edges (word ∷ words) = Some (word_start edges word, word_end edges word)

-- the ends are those of the first word, if there is one
abbrev pub agree : Option (ℕ × ℕ) → ℕ → ℕ → Bool
agree None start finish = true
agree (Some ends) start finish = (start == ends.0) && (finish == ends.1)

-- how many words there are, where the first one starts and ends, and what holds of all
pub record IsFacts (edges : List SchemaEdge) (words : List (List Symbol)) (facts : Facts) : Type 0 where
  pub count : facts.count ≡ length words
  pub first : facts.first ≡ first_ends edges words
  pub chains : facts.chains ≡ list_all (is_chain edges) words
  pub same : facts.same ≡ have_same_ends edges words
  pub back : facts.back ≡ list_all (comes_back edges) words

-- the ends of the first word, once there is a word with these ends
abbrev pub first_with : Option (ℕ × ℕ) → ℕ → ℕ → Option (ℕ × ℕ)
first_with None start finish = Some (start, finish)
first_with (Some ends) start finish = Some ends
