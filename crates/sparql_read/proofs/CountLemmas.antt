-- A text has no more paths than tokens.
use Rattle.std.proofs.Common.{◌≡◌, ◌≤◌, ◌+◌, ℕ, Bool, true, false, List, [], ◌∷◌, ◌++◌, refl, ap, sym, subst, ◌∙◌, length, arith}
use Rattle.std.proofs.lemmas.List.{length-append, append-nil}
use Rattle.sparql_read.specs.Tokens.{Token}
use Rattle.sparql_read.specs.Grammar.{Path, Pattern, IsPath, one_seq, more_alt, IsSeq, one_elt, more_seq, IsElt, plain, inverse, IsSigned, bare, star, plus, opt, IsPrim, predicate, nested}
use Rattle.sparql_read.specs.Grammar.{IsTriple, triple, IsTriples, one_triple, dotted, more_triples, IsGroup, group, IsGroups, one_group, more_groups, IsBody, triples, groups}
use Rattle.sparql_read.specs.Grammar.{Asked, variables_then, heads_then, brace_then, IsText}
use Rattle.sparql_read.specs.Grammar as tree
use Rattle.sparql_read.specs.Layout.{Node, number, nodes, all_nodes, flat, laid_out}

-- the paths in a path
size : Path → ℕ
size (tree.Iri name) = 1
size (tree.Inverse p) = size p + 1
size (tree.Seq p q) = size p + size q + 1
size (tree.Alt p q) = size p + size q + 1
size (tree.Star p) = size p + 1
size (tree.Plus p) = size p + 1
size (tree.Opt p) = size p + 1

one_more : (xs : List Node) (x : Node) (k : ℕ) → length xs ≡ k → length (xs ++ x ∷ []) ≡ k + 1
one_more xs x k e = omega (arith, length-append xs (x ∷ []), e)

two_more : (xs ys : List Node) (x : Node) (j k : ℕ) → length xs ≡ j → length ys ≡ k → length (xs ++ (ys ++ x ∷ [])) ≡ j + k + 1
two_more xs ys x j k e f = omega (arith, length-append xs (ys ++ x ∷ []), length-append ys (x ∷ []), e, f)

sized : (n : ℕ) (p : Path) → length (nodes n p) ≡ size p
unfolding size
sized n (tree.Iri name) = refl
sized n (tree.Inverse p) = one_more (nodes n p) _ (size p) (sized n p)
sized n (tree.Seq p q) = two_more (nodes n p) (nodes (number n p + 1) q) _ (size p) (size q) (sized n p) (sized (number n p + 1) q)
sized n (tree.Alt p q) = two_more (nodes n p) (nodes (number n p + 1) q) _ (size p) (size q) (sized n p) (sized (number n p + 1) q)
sized n (tree.Star p) = one_more (nodes n p) _ (size p) (sized n p)
sized n (tree.Plus p) = one_more (nodes n p) _ (size p) (sized n p)
sized n (tree.Opt p) = one_more (nodes n p) _ (size p) (sized n p)

mutual
  unfolding size

  path_few : {ts : List Token} {p : Path} {rest : List Token} → IsPath ts p rest → size p + length rest ≤ length ts
  path_few (one_seq s) = seq_few s
  path_few (more_alt s t) = let a = path_few s in let b = seq_few t in omega (arith, a, b)

  seq_few : {ts : List Token} {p : Path} {rest : List Token} → IsSeq ts p rest → size p + length rest ≤ length ts
  seq_few (one_elt s) = elt_few s
  seq_few (more_seq s t) = let a = seq_few s in let b = elt_few t in omega (arith, a, b)

  elt_few : {ts : List Token} {p : Path} {rest : List Token} → IsElt ts p rest → size p + length rest ≤ length ts
  elt_few (plain s) = signed_few s
  elt_few (inverse s) = let a = signed_few s in omega (arith, a)

  signed_few : {ts : List Token} {p : Path} {rest : List Token} → IsSigned ts p rest → size p + length rest ≤ length ts
  signed_few (bare s) = prim_few s
  signed_few (star s) = let a = prim_few s in omega (arith, a)
  signed_few (plus s) = let a = prim_few s in omega (arith, a)
  signed_few (opt s) = let a = prim_few s in omega (arith, a)

  prim_few : {ts : List Token} {p : Path} {rest : List Token} → IsPrim ts p rest → size p + length rest ≤ length ts
  prim_few predicate = omega arith
  prim_few (nested s) = let a = path_few s in omega (arith, a)

-- the paths of patterns
sizes : List Pattern → ℕ
sizes [] = 0
sizes (p ∷ ps) = size p.path + sizes ps

all_sized : (n : ℕ) (ps : List Pattern) → length (all_nodes n ps) ≡ sizes ps
unfolding sizes
all_sized n [] = refl
all_sized n (p ∷ ps) =
    let one = sized n p.path in
    let more = all_sized (number n p.path + 1) ps in
    omega (arith, one, more, length-append (nodes n p.path) (all_nodes (number n p.path + 1) ps))

sizes_append : (ps qs : List Pattern) → sizes (ps ++ qs) ≡ sizes ps + sizes qs
unfolding sizes
sizes_append [] qs = omega arith
sizes_append (p ∷ ps) qs = let more = sizes_append ps qs in omega (arith, more)

triple_few : {ts : List Token} {p : Pattern} {rest : List Token} → IsTriple ts p rest → size p.path + length rest ≤ length ts
triple_few (triple d) = let a = path_few d in omega (arith, a)

triples_few : {ts : List Token} {ps : List Pattern} {rest : List Token} → IsTriples ts ps rest → sizes ps + length rest ≤ length ts
unfolding sizes
triples_few (one_triple d) = let a = triple_few d in omega (arith, a)
triples_few (dotted d) = let a = triple_few d in omega (arith, a)
triples_few (more_triples d ds) = let a = triple_few d in let b = triples_few ds in omega (arith, a, b)

group_few : {ts : List Token} {ps : List Pattern} {rest : List Token} → IsGroup ts ps rest → sizes ps + length rest ≤ length ts
group_few (group d) = let a = triples_few d in omega (arith, a)

nothing_more : (ps : List Pattern) → sizes (ps ++ []) ≡ sizes ps
nothing_more ps = ap sizes (append-nil ps)

groups_few : {ts : List Token} {gs : List (List Pattern)} {rest : List Token} → IsGroups ts gs rest → sizes (flat gs) + length rest ≤ length ts
groups_few (one_group {ps = ps} d) = let a = group_few d in omega (arith, a, nothing_more ps)
groups_few (more_groups {ps = ps} {gs = gs} d ds) =
    let a = group_few d in
    let b = groups_few ds in
    omega (arith, a, b, sizes_append ps (flat gs))

body_few : {ts : List Token} {gs : List (List Pattern)} {rest : List Token} → IsBody ts gs rest → sizes (flat gs) + length rest ≤ length ts
body_few (triples {ps = ps} d) = let a = triples_few d in omega (arith, a, nothing_more ps)
body_few (groups d) = groups_few d

variables_few : (xs : List (List ℕ)) (rest : List Token) → length rest ≤ length (variables_then xs rest)
variables_few [] rest = omega arith
variables_few (x ∷ xs) rest = let a = variables_few xs rest in omega (arith, a)

heads_few : (xs : List (List ℕ)) (rest : List Token) → length rest ≤ length (heads_then xs rest)
heads_few [] rest = omega arith
heads_few (x ∷ xs) rest = let a = variables_few xs rest in omega (arith, a)

brace_few : (w : Bool) (rest : List Token) → length rest ≤ length (brace_then w rest)
brace_few false rest = omega arith
brace_few true rest = omega arith

pub text_few : (ts : List Token) (mark : List ℕ) (q : Asked) (d : IsText ts mark q) → length (laid_out q).paths + 3 ≤ length ts
text_few ts mark q d =
    let a = body_few d.body_is in
    let b = brace_few d.has_where d.body in
    let c = heads_few q.heads (brace_then d.has_where d.body) in
    omega (arith, a, b, c, all_sized 0 (flat q.groups), ap length d.is)
