-- The symbols of the first edges are those with such an edge.
use Rattle.std.proofs.Common.{◌≡◌, ℕ, zero, suc, ◌<◌, Bool, true, false, inl, inr, refl, sym, subst, arith}
use Rattle.std.specs.List.{Contains}
use Rattle.std.proofs.lemmas.Bool.{cases_lt}
use Rattle.std.proofs.lemmas.List.Elements.{All-contains, Contains-append_left, Contains-append_right}
use Rattle.sel_algebra.specs.declared.vocabulary.Symbol.{Symbol}
use Rattle.schema_graph.specs.Symbols.{both_ways, first_symbols}
use Rattle.schema_graph.proofs.SymbolLemmas.{first_symbols-suc, first_symbols-below}

-- the symbols of the first n edges have such an edge
pub first_symbols-edge : (n : ℕ) (c : Symbol) → Contains (first_symbols n) c → c.edge < n
first_symbols-edge n c has = All-contains (λ s. s.edge < n) (first_symbols n) c (first_symbols-below n) has

-- each symbol of an edge is one of its two
both_ways-contain : (n : ℕ) (back : Bool) → Contains (both_ways n) (record { edge = n; back = back })
both_ways-contain n false = (0, omega arith, refl)
both_ways-contain n true = (1, omega arith, refl)

-- each symbol with such an edge is one of them
pub first_symbols-contain : (n : ℕ) (c : Symbol) → c.edge < n → Contains (first_symbols n) c
first_symbols-contain zero c known = absurd (omega (arith, known))
first_symbols-contain (suc n) c known = subst (λ xs. Contains xs c) (sym (first_symbols-suc n)) (elim (cases_lt c.edge n) [
  | inl before ↦ Contains-append_left (first_symbols n) (both_ways n) c (first_symbols-contain n c before)
  | inr last ↦
      let edge : n ≡ c.edge = omega (arith, known, last) in
      let same : record { edge = n; back = c.back } ≡ c = λ i. record { edge = edge i; back = c.back } in
      Contains-append_right (first_symbols n) (both_ways n) c (subst (Contains (both_ways n)) same (both_ways-contain n c.back))
])
