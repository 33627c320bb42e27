-- The lists of a query, and the rules that they stand for.
--   words_in symbols spans                          the words of spans
--   heads_in h                                      the variables of heads
--   is_heads h                                      heads of a built number, with 0 after them
--   conjunct_in words c                             a conjunct with its words
--   conjuncts_in symbols words conjuncts            the conjuncts of the lists
--   rule_in conjuncts r                             a rule with its conjuncts
--   rules_in symbols words conjuncts rules          the rules of the lists
use Rattle.std.specs.Prelude.{ℕ, Bool, ◌==◌, ◌&&◌, List, length, map, take, drop}
use Rattle.std.specs.List.{list_all}
use Rattle.gm_text.specs.declared.lists.Span.{Span}
use Rattle.sel_algebra.specs.declared.vocabulary.Symbol.{Symbol}
use Rattle.query_terms.specs.declared.terms.Heads.{Heads}
use Rattle.query_terms.specs.declared.terms.Conjunct.{Conjunct}
use Rattle.query_terms.specs.declared.terms.Rule.{Rule}
use Rattle.query_terms.specs.Values.{ConjunctValue, RuleValue, arity_built}
use Rattle.query_terms.specs.Spans.{cut}

-- the word of each span
abbrev pub words_in : List Symbol → List Span → List (List Symbol)
words_in symbols spans = map (cut symbols) spans

-- as many of its variables as it counts
abbrev pub heads_in : Heads → List ℕ
heads_in h = take h.count h.vars

-- it has four places and counts no more than can be built, and the places that it doesn't count have 0
abbrev pub is_heads : Heads → Bool
is_heads h = (length h.vars == 4) && arity_built h.count && list_all (λ v. v == 0) (drop h.count h.vars)

-- a conjunct, with the words of its span
abbrev pub conjunct_in : List (List Symbol) → Conjunct → ConjunctValue
conjunct_in words c = record { src = c.src; trg = c.trg; star = c.star; words = cut words c.words }

-- each conjunct, with its words
abbrev pub conjuncts_in : List Symbol → List Span → List Conjunct → List ConjunctValue
conjuncts_in symbols words conjuncts = map (conjunct_in (words_in symbols words)) conjuncts

-- a rule, with the conjuncts of its span
abbrev pub rule_in : List ConjunctValue → Rule → RuleValue
rule_in conjuncts r = record { heads = heads_in r.heads; conjuncts = cut conjuncts r.conjuncts }

-- each rule, with its conjuncts
abbrev pub rules_in : List Symbol → List Span → List Conjunct → List Rule → List RuleValue
rules_in symbols words conjuncts rules = map (rule_in (conjuncts_in symbols words conjuncts)) rules
