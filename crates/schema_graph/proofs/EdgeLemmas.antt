-- Edges that are taken along or against, and lists of edges in which no two have the same ends.
use Rattle.std.proofs.Common.{◌≡◌, ◌≢◌, ℕ, ◌<◌, Bool, true, false, List, length, map, take, min, slice_index_or, inl, inr, refl, sym, ap, ◌∙◌, arith}
use Rattle.std.proofs.lemmas.Bool.{cases_lt}
use Rattle.std.proofs.lemmas.List.{get_or-map, length-map, length-take, get_or-take}
use Rattle.std.proofs.lemmas.List.Elements.{at_from_Contains}
use Rattle.std.specs.List.{Contains, AllPairs}
use Rattle.sel_algebra.specs.declared.vocabulary.Op.{Op}
use Rattle.sel_algebra.specs.declared.vocabulary.Kind.{Kind}
use Rattle.sel_algebra.specs.Operators.{mirror_of, IsNormal}
use Rattle.schema_graph.specs.declared.edge.SchemaEdge.{SchemaEdge}
use Rattle.schema_graph.specs.Edge.{taken, ends, IsSchemaEdge}

IsNormal-mirror_of : (op : Op) (from to : Kind) → IsNormal op from to → IsNormal (mirror_of op) to from
IsNormal-mirror_of op from to n = grind arith

-- an edge of a schema is one against its direction too
pub IsSchemaEdge-taken : (kinds : List Kind) (back : Bool) (e : SchemaEdge) → IsSchemaEdge kinds e → IsSchemaEdge kinds (taken back e)
IsSchemaEdge-taken kinds false e is = is
IsSchemaEdge-taken kinds true e is = record { source = is.target; label = is.label; target = is.source; normal = IsNormal-mirror_of e.op _ _ is.normal }

-- no two edges have the same ends
abbrev pub EdgesDiffer : List SchemaEdge → Type 0
EdgesDiffer edges = AllPairs (λ d e. ends d ≢ ends e) edges

taken-differ : (back : Bool) (d e : SchemaEdge) → ends d ≢ ends e → ends (taken back d) ≢ ends (taken back e)
taken-differ false d e differ same = differ same
taken-differ true d e differ same =
    let targets : d.target ≡ e.target = ap (λ p. p.0) same in
    let labels : d.label ≡ e.label = ap (λ p. p.1.0) same in
    let sources : d.source ≡ e.source = ap (λ p. p.1.1) same in
    differ (rw (sources, labels, targets) refl)

-- nor have two when all are taken along or all against
pub EdgesDiffer-taken : (back : Bool) (edges : List SchemaEdge) → EdgesDiffer edges → EdgesDiffer (map (taken back) edges)
EdgesDiffer-taken back edges differ i j d lt within =
    let more : j < length edges = rw (length-map edges (taken back)) at within in
    rw (get_or-map (taken back) edges i d d (omega arith), get_or-map (taken back) edges j d d more) (taken-differ back _ _ (differ i j d lt more))

-- edges of the list with the same ends are the same
pub same_edge : (edges : List SchemaEdge) → EdgesDiffer edges → (d e : SchemaEdge) → Contains edges d → Contains edges e → ends d ≡ ends e → d ≡ e
same_edge edges differ d e in_d in_e same =
    let (i, p, at_d) = at_from_Contains edges d in_d in
    let (j, q, at_e) = at_from_Contains edges e in_e in
    elim (cases_lt i j) [
      | inl lt ↦ absurd (differ i j d lt q (rw (at_d d, at_e d) same))
      | inr ge ↦ elim (cases_lt j i) [
        | inl lt ↦ absurd (differ j i d lt p (rw (at_d d, at_e d) (sym same)))
        | inr le ↦ let here : i ≡ j = omega arith in sym (at_d d) ∙ (ap (λ k. slice_index_or edges k d) here ∙ at_e d)
      ]
    ]

-- nor have two of the first ones
pub EdgesDiffer-take : (n : ℕ) (edges : List SchemaEdge) → EdgesDiffer edges → EdgesDiffer (take n edges)
EdgesDiffer-take n edges differ i j d lt within =
    let short : j < min n (length edges) = rw (length-take n edges) at within in
    rw (get_or-take n edges i d (omega arith), get_or-take n edges j d (omega arith)) (differ i j d lt (omega arith))
