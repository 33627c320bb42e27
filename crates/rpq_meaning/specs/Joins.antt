-- The rows of a query as a list, by mappings that grow by one conjunct after the other.
--   Mapping                            numbers for some variables
--   fits_pair m u v p                  the mapping can have the numbers of the pair for two variables
--   grown u v pairs m                  the mapping with each pair that fits
--   mappings tables conjuncts          the mappings for all conjuncts
--   assigned m v                       the number of a variable
--   rule_rows, rows_of                 the rows of a rule, and of rules
use Rattle.std.specs.Prelude.{◌≡◌, ℕ, Bool, true, not, ◌==◌, ◌&&◌, ◌||◌, if◌then◌else◌, List, [], ◌∷◌, ◌++◌, map, fold}
use Rattle.std.specs.List.{flat_map, list_all}
use Rattle.query_terms.specs.declared.terms.Conjunct.{Conjunct}
use Rattle.query_terms.specs.declared.terms.Heads.{Heads}
use Rattle.query_terms.specs.declared.terms.Rule.{Rule}
use Rattle.query_terms.specs.Lists.{heads_in, is_heads}
use Rattle.query_terms.specs.Spans.{cut, lies}
use Rattle.node_tables.specs.Tables.{table_in}

-- variables with numbers; a variable may stand twice, with the same number
abbrev pub Mapping : Type 0
Mapping = List (ℕ × ℕ)

-- the entry is of another variable, or has this number
abbrev pub agrees : ℕ → ℕ → ℕ × ℕ → Bool
agrees v a entry = not (entry.0 == v) || (entry.1 == a)

-- the variable has no other number
abbrev pub fits : Mapping → ℕ → ℕ → Bool
fits m v a = list_all (agrees v a) m

-- neither variable has another number, and they have the same one where they are the same
abbrev pub fits_pair : ℕ → ℕ → Mapping → ℕ × ℕ → Bool
fits_pair u v m p = fits m u p.0 && (fits m v p.1 && agrees v p.1 (u, p.0))

-- the numbers of the pair for two variables more
abbrev pub with_pair : ℕ → ℕ → Mapping → ℕ × ℕ → Mapping
with_pair u v m p = m ++ (u, p.0) ∷ (v, p.1) ∷ []

-- with the pair, where it fits
abbrev pub if_fits : ℕ → ℕ → Mapping → ℕ × ℕ → List Mapping
if_fits u v m p = if fits_pair u v m p then with_pair u v m p ∷ [] else []

-- with each pair that fits
abbrev pub grown : ℕ → ℕ → List (ℕ × ℕ) → Mapping → List Mapping
grown u v pairs m = flat_map (if_fits u v m) pairs

-- each mapping with each pair of a conjunct that fits
abbrev pub grow : List (List (ℕ × ℕ)) → List Mapping → Conjunct → List Mapping
grow tables ms c = flat_map (grown c.src c.trg (table_in tables c.term)) ms

-- from the mapping of no variable
abbrev pub mappings : List (List (ℕ × ℕ)) → List Conjunct → List Mapping
mappings tables conjuncts = fold (grow tables) ([] ∷ []) conjuncts

-- the number of a variable, and 0 for one that has none
unfoldable pub assigned : Mapping → ℕ → ℕ
assigned [] v = 0
assigned (entry ∷ m) v = if entry.0 == v then entry.1 else assigned m v

-- the numbers of the heads
abbrev pub head_row : Heads → Mapping → List ℕ
head_row heads m = map (assigned m) (heads_in heads)

-- a row of each mapping
abbrev pub rule_rows : List (List (ℕ × ℕ)) → List Conjunct → Rule → List (List ℕ)
rule_rows tables conjuncts r = map (head_row r.heads) (mappings tables (cut conjuncts r.conjuncts))

-- the rows of the rules, with repeats
abbrev pub rows_of : List (List (ℕ × ℕ)) → List Conjunct → List Rule → List (List ℕ)
rows_of tables conjuncts rules = flat_map (rule_rows tables conjuncts) rules

-- a rule of so many heads, whose conjuncts are a part of so many
pub record IsRuleOf (conjuncts count : ℕ) (r : Rule) : Type 0 where
  pub part : lies conjuncts r.conjuncts ≡ true
  pub heads : is_heads r.heads ≡ true
  pub count_is : r.heads.count ≡ count
