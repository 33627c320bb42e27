-- How lines are put into a text, word by word.
--   Word              a word to be written, as it is kept
--   word_bytes word   its bytes
--   is_fit word       its parts lie in their list
--   gap byte i        what stands before the part with an index: nothing before the first, and else a byte
--   mark back         what stands before the number of a symbol's edge
--   rule_of q r       a rule of a query, and conjunct_of q c a conjunct of it
--   rules_lines q rules   the lines of rules of a query, and conjuncts_lines q conjuncts those of conjuncts
use Rattle.std.specs.Prelude.{ℕ, ◌==◌, Bool, true, if◌then◌else◌, List, [], ◌∷◌, length, map, decimal}
use Rattle.std.specs.List.{list_all, flat_map}
use Rattle.query_terms.specs.declared.query.Query.{Query}
use Rattle.query_terms.specs.declared.terms.Conjunct.{Conjunct}
use Rattle.query_terms.specs.declared.terms.Rule.{Rule}
use Rattle.query_terms.specs.Values.{ConjunctValue, RuleValue}
use Rattle.query_terms.specs.Spans.{lies}
use Rattle.query_terms.specs.Lists.{words_in, conjunct_in, conjuncts_in, rule_in}
use Rattle.workload_text.specs.declared.writing.Word.{Word}
use Rattle.workload_text.specs.declared.writing.Word.TheVariants as code
use Rattle.workload_text.specs.Lines.{WorkLine, variable_word, expr_word, written, conjunct_line, rule_lines}

-- the bytes of a word
abbrev pub word_bytes : Word → List ℕ
word_bytes (code.Bytes bytes) = bytes.now
word_bytes (code.Number n) = decimal n
word_bytes (code.Variable v) = variable_word (decimal v)
word_bytes (code.Union star symbols words) = expr_word star (map (map written) (words_in symbols.now words.now))

-- the words of a conjunct lie in the list of symbols
abbrev pub is_fit : Word → Bool
is_fit (code.Bytes bytes) = true
is_fit (code.Number n) = true
is_fit (code.Variable v) = true
is_fit (code.Union star symbols words) = list_all (lies (length symbols.now)) words.now

-- what stands before the part with an index
abbrev pub gap : ℕ → ℕ → List ℕ
gap byte i = if i == 0 then [] else byte ∷ []

-- what stands before the number of a symbol's edge
abbrev pub mark : Bool → List ℕ
mark back = if back then 94 ∷ [] else []

-- a conjunct of a query
abbrev pub conjunct_of : Query → Conjunct → ConjunctValue
conjunct_of q c = conjunct_in (words_in q.symbols.now q.words.now) c

-- the lines of conjuncts of a query
abbrev pub conjuncts_lines : Query → List Conjunct → List WorkLine
conjuncts_lines q conjuncts = map conjunct_line (map (conjunct_of q) conjuncts)

-- a rule of a query
abbrev pub rule_of : Query → Rule → RuleValue
rule_of q r = rule_in (conjuncts_in q.symbols.now q.words.now q.conjuncts.now) r

-- the lines of rules of a query
abbrev pub rules_lines : Query → List Rule → List WorkLine
rules_lines q rules = flat_map rule_lines (map (rule_of q) rules)
