-- Rules of links, and those of a query.
--   occurs links v                  the variable stands at an end of a link
--   heads_most                      a rule has at most so many heads
--   is_link_rule terms r            it has a link, its terms are among so many, and its heads occur in its links
--   are_link_rules terms rules      there is a rule, all are such rules, and they have one number of heads
--   link_rules rules numbers        the rules of a query, with the number of each conjunct's term
use Rattle.std.specs.Prelude.{ℕ, Bool, ◌==◌, ◌&&◌, ◌||◌, nat_le, nat_lt, List, [], ◌∷◌, length, drop}
use Rattle.std.specs.List.{list_all, list_any}
use Rattle.query_terms.specs.Values.{ConjunctValue, RuleValue}
use Rattle.sql_emit.specs.declared.links.Link.{Link}
use Rattle.sql_emit.specs.declared.links.LinkRule.{LinkRule}

-- some link begins or ends at the variable
abbrev pub occurs : List Link → ℕ → Bool
occurs links v = list_any (λ l. (l.src == v) || (l.trg == v)) links

abbrev pub heads_most : ℕ
heads_most = 4

-- there is a link, the links' terms are among so many, and the heads occur in the links
abbrev pub is_link_rule : ℕ → LinkRule → Bool
is_link_rule terms r = nat_lt 0 (length r.links) && list_all (λ l. nat_lt l.term terms) r.links && list_all (occurs r.links) r.heads

-- so many heads
abbrev pub has_heads : ℕ → LinkRule → Bool
has_heads count r = length r.heads == count

-- the number of heads of the first rule
abbrev pub heads_of : List LinkRule → ℕ
heads_of [] = 0
heads_of (r ∷ rules) = length r.heads

-- there is a rule, all are rules over so many terms, and they have one number of heads, at most four
abbrev pub are_link_rules : ℕ → List LinkRule → Bool
are_link_rules terms rules =
    (nat_lt 0 (length rules) && list_all (is_link_rule terms) rules)
    && (nat_le (heads_of rules) heads_most && list_all (has_heads (heads_of rules)) rules)

-- conjuncts with the numbers of their terms
abbrev pub links_of : List ConjunctValue → List ℕ → List Link
links_of [] numbers = []
links_of (c ∷ conjuncts) [] = []
links_of (c ∷ conjuncts) (n ∷ numbers) = record { src = c.src; term = n; trg = c.trg } ∷ links_of conjuncts numbers

-- rules, where the numbers are those of all conjuncts in order
abbrev pub link_rules : List RuleValue → List ℕ → List LinkRule
link_rules [] numbers = []
link_rules (r ∷ rules) numbers =
    record { heads = r.heads; links = links_of r.conjuncts numbers } ∷ link_rules rules (drop (length r.conjuncts) numbers)
