-- One token of a text, over what the lists hold.
use Rattle.std.proofs.Common.{◌≡◌, ℕ, Bool, true, false, ◌&&◌, if◌then◌else◌, Some, None, List, [], ◌∷◌, ◌++◌, ◌-◌, ◌<◌, zero, suc, refl, sym, ap, subst, ◌∙◌, length, drop, take, nat_lt, Bor, arith}
use Rattle.std.proofs.lemmas.List.{append_assoc, append-nil, length-append, map-append, length-map, take_all, length-drop}
use Rattle.gm_text.specs.declared.lists.Span.{Span}
use Rattle.sparql_read.specs.Tokens.{Token, Word, Variable, LeftBrace, RightBrace, Dot, Where, Union}
use Rattle.sparql_read.specs.Grammar.{Pattern}
use Rattle.sparql_read.specs.Layout.{Node, number, nodes, all_nodes, entries, flat}
use Rattle.sparql_read.specs.Text.{has_all, heads_most}
use Rattle.sparql_read.specs.PathMachine as path
use Rattle.sparql_read.specs.TextMachine as spots
use Rattle.sparql_read.specs.TextMachine.{Part, part, with_patterns, pattern, closed, step}
use Rattle.sparql_read.specs.Query.{texts, entry_view, entries_view, nodes_view, entries_have_all}
use Rattle.sparql_read.specs.State.{PathIs, NextIs}
use Rattle.sparql_read.specs.Places.{PartIs, RestIs, IsAt, StepIs, NotVariable, nothing}
use Rattle.sparql_read.specs.declared.paths.PathId.{PathId}
use Rattle.sparql_read.specs.declared.levels.Next.{Next}
use Rattle.sparql_read.specs.declared.levels.Next.TheVariants as nexts
use Rattle.std.proofs.lemmas.Bool.Decides.{nat_tests}
use Rattle.sparql_read.specs.declared.levels.Mode.TheVariants as modes
use Rattle.sparql_read.specs.declared.levels.Mode.{Mode}
use Rattle.sparql_read.specs.declared.query.Pattern as code
use Rattle.sparql_read.specs.declared.places.Parts.{Parts}
use Rattle.sparql_read.specs.declared.places.Place.TheVariants as places
use Rattle.sparql_read.proofs.LevelLemmas.{nothing_is}
use Rattle.sparql_read.proofs.LayoutLemmas.{nodes_more, entries_more, entries_length, flat_more, spans_more, group_has_all, all_snoc}

path_begins : (l : Parts) (o : Part) → RestIs l o
    → PathIs (nodes_view l.paths.items) (nodes_view l.paths.items) l.levels.outer.items l.levels.inner modes.Want [] path.empty path.Want
path_begins l o x = record {
  outer = nodes_view l.paths.items;
  inner = nodes_view l.paths.items;
  stack = (x.outer, refl);
  level = rw x.inner (nothing_is (nodes_view l.paths.items));
  mode = (refl, refl);
}

-- the same lists but for the braces
pub record Rebraced (l k : Parts) : Type 0 where
  pub heads : k.heads ≡ l.heads
  pub groups : k.groups ≡ l.groups
  pub patterns : k.patterns ≡ l.patterns
  pub paths : k.paths ≡ l.paths
  pub levels : k.levels ≡ l.levels
  pub first : k.first ≡ l.first
  pub all_occur : k.all_occur ≡ l.all_occur

rest_as : (l k : Parts) (heads : List (List ℕ)) (gs : List (List Pattern)) (b : Bool) → Rebraced l k → k.braced ≡ b → RestIs l (part heads gs l.braced)
    → RestIs k (part heads gs b)
rest_as l k heads gs b same e x = record {
  is = record {
    heads = rw same.heads x.is.heads;
    groups = rw same.groups x.is.groups;
    first = same.first ∙ x.is.first;
    braced = e;
    all_occur = same.all_occur ∙ x.is.all_occur;
    patterns = rw same.patterns x.is.patterns;
    nodes = rw same.paths x.is.nodes;
  };
  outer = rw same.levels x.outer;
  inner = rw same.levels x.inner;
}

module _ (l : Parts) (s : spots.Place) where
  pub where_where : IsAt l places.AtWhere s → StepIs l (Some places.AtBrace) (step s (Word Where))
  where_where x = (spots.AtBrace [], (λ i. step (x.0 i) (Word Where)), ([], refl, x.1))

  pub where_brace : IsAt l places.AtWhere s → StepIs l (Some places.AtBody) (step s LeftBrace)
  where_brace x = (spots.AtBody [], (λ i. step (x.0 i) LeftBrace), ([], refl, x.1))

  pub brace_body : IsAt l places.AtBrace s → StepIs l (Some places.AtBody) (step s LeftBrace)
  brace_body x = (spots.AtBody x.0, (λ i. step (x.1 i) LeftBrace), (x.0, refl, x.2))

  pub heads_where : IsAt l places.AtHeads s → StepIs l (Some places.AtBrace) (step s (Word Where))
  heads_where x = (spots.AtBrace x.0, (λ i. step (x.1 i) (Word Where)), (x.0, refl, x.2))

  pub heads_brace : IsAt l places.AtHeads s → StepIs l (Some places.AtBody) (step s LeftBrace)
  heads_brace x = (spots.AtBody x.0, (λ i. step (x.1 i) LeftBrace), (x.0, refl, x.2))

  pub group_subject : IsAt l places.AtGroup s → StepIs l (Some places.AtSubject) (step s LeftBrace)
  group_subject x = (spots.AtSubject (part x.0 x.1 true), (λ i. step (x.2 i) LeftBrace), (part x.0 x.1 true, refl, x.3))

  pub group_union : IsAt l places.BehindGroup s → StepIs l (Some places.AtGroup) (step s (Word Union))
  group_union x = (spots.AtGroup x.0 x.1, (λ i. step (x.2 i) (Word Union)), (x.0, x.1, refl, x.3))

  pub group_end : IsAt l places.BehindGroup s → StepIs l (Some places.AtEnd) (step s RightBrace)
  group_end x = (
    spots.AtEnd x.0 x.1,
    (λ i. step (x.2 i) RightBrace),
    (x.0, x.1, refl, subst (λ (b : Bool). RestIs l (part x.0 x.1 b)) (sym x.3.is.braced) x.3),
  )

  pub triple_dot : IsAt l places.BehindTriple s → StepIs l (Some places.BehindDot) (step s Dot)
  triple_dot x = (spots.BehindDot x.0, (λ i. step (x.1 i) Dot), (x.0, refl, x.2))

  pub subject_path : (name : Bor (List ℕ)) → IsAt l places.AtSubject s → StepIs l (Some (places.InPath name modes.Want)) (step s (Variable name.now))
  subject_path name x = (
    spots.InPath x.0 name.now path.Want [] path.empty,
    (λ i. step (x.1 i) (Variable name.now)),
    (x.0, path.Want, [], path.empty, nodes_view l.paths.items, refl, x.2.is, path_begins l x.0 x.2),
  )

  pub dot_path : (name : Bor (List ℕ)) → IsAt l places.BehindDot s → StepIs l (Some (places.InPath name modes.Want)) (step s (Variable name.now))
  dot_path name x = (
    spots.InPath x.0 name.now path.Want [] path.empty,
    (λ i. step (x.1 i) (Variable name.now)),
    (x.0, path.Want, [], path.empty, nodes_view l.paths.items, refl, x.2.is, path_begins l x.0 x.2),
  )

  pub body_subject : (k : Parts) → Rebraced l k → k.braced ≡ true → IsAt l places.AtBody s → StepIs k (Some places.AtSubject) (step s LeftBrace)
  body_subject k same e x =
      (spots.AtSubject (part x.0 [] true), (λ i. step (x.1 i) LeftBrace), (part x.0 [] true, refl, rest_as l k x.0 [] true same e x.2))

  pub body_path : (k : Parts) (name : Bor (List ℕ)) → Rebraced l k → k.braced ≡ false → IsAt l places.AtBody s
      → StepIs k (Some (places.InPath name modes.Want)) (step s (Variable name.now))
  body_path k name same e x =
      let rest = rest_as l k x.0 [] false same e x.2 in (
        spots.InPath (part x.0 [] false) name.now path.Want [] path.empty,
        (λ i. step (x.1 i) (Variable name.now)),
        (part x.0 [] false, path.Want, [], path.empty, nodes_view k.paths.items, refl, rest.is, path_begins k (part x.0 [] false) rest),
      )

-- the same lists but for the selected variables
pub record Reheaded (l k : Parts) : Type 0 where
  pub groups : k.groups ≡ l.groups
  pub patterns : k.patterns ≡ l.patterns
  pub paths : k.paths ≡ l.paths
  pub levels : k.levels ≡ l.levels
  pub first : k.first ≡ l.first
  pub all_occur : k.all_occur ≡ l.all_occur

texts_push : (xs ys : List (Bor (List ℕ))) (x : Bor (List ℕ)) (heads : List (List ℕ)) → ys ≡ xs ++ x ∷ [] → texts xs ≡ heads → texts ys ≡ heads ++ x.now ∷ []
texts_push xs ys x heads e f =
    ap texts e ∙ (map-append (λ (y : Bor (List ℕ)). y.now) xs (x ∷ []) ∙ ap (λ (zs : List (List ℕ)). zs ++ x.now ∷ []) f)

rest_pushed : (l k : Parts) (x : Bor (List ℕ)) (heads : List (List ℕ)) → k.heads.items ≡ l.heads.items ++ x ∷ [] → Reheaded l k
    → RestIs l (part heads [] l.braced) → RestIs k (part (heads ++ x.now ∷ []) [] k.braced)
rest_pushed l k x heads e same r = record {
  is = record {
    heads = texts_push l.heads.items k.heads.items x heads e r.is.heads;
    groups = rw same.groups r.is.groups;
    first = same.first ∙ r.is.first;
    braced = refl;
    all_occur = same.all_occur ∙ r.is.all_occur;
    patterns = rw same.patterns r.is.patterns;
    nodes = rw same.paths r.is.nodes;
  };
  outer = rw same.levels r.outer;
  inner = rw same.levels r.inner;
}

module _ (l k : Parts) (s : spots.Place) (x : Bor (List ℕ)) (e : k.heads.items ≡ l.heads.items ++ x ∷ []) (same : Reheaded l k) where
  pub head_first : IsAt l places.AtHead s → StepIs k (Some places.AtHeads) (step s (Variable x.now))
  head_first y =
      (spots.AtHeads (x.now ∷ []), (λ i. step (y.0 i) (Variable x.now)), (x.now ∷ [], refl, rest_pushed l k x [] e same y.1))

  pub head_next : length l.heads.items < 4 → IsAt l places.AtHeads s → StepIs k (Some places.AtHeads) (step s (Variable x.now))
  head_next few y =
      let n : length y.0 ≡ length l.heads.items = ap length (sym y.2.is.heads) ∙ length-map l.heads.items (λ (z : Bor (List ℕ)). z.now) in
      let lt : nat_lt (length y.0) heads_most ≡ true = grind (arith, nat_tests, n, few) in (
        spots.AtHeads (y.0 ++ x.now ∷ []),
        (λ i. step (y.1 i) (Variable x.now)) ∙ ap (λ (b : Bool). if b then Some (spots.AtHeads (y.0 ++ x.now ∷ [])) else None) lt,
        (y.0 ++ x.now ∷ [], refl, rest_pushed l k x y.0 e same y.2),
      )

-- the same lists but for the paths and levels
pub record Repathed (l k : Parts) : Type 0 where
  pub heads : k.heads ≡ l.heads
  pub groups : k.groups ≡ l.groups
  pub patterns : k.patterns ≡ l.patterns
  pub first : k.first ≡ l.first
  pub braced : k.braced ≡ l.braced
  pub all_occur : k.all_occur ≡ l.all_occur

part_moved : (l k : Parts) (base : List Node) (o : Part) → Repathed l k → PartIs l base o → PartIs k base o
part_moved l k base o same x = record {
  heads = rw same.heads x.heads;
  groups = rw same.groups x.groups;
  first = same.first ∙ x.first;
  braced = same.braced ∙ x.braced;
  all_occur = same.all_occur ∙ x.all_occur;
  patterns = rw same.patterns x.patterns;
  nodes = x.nodes;
}

-- a token led to this within a path
abbrev pub Leads : Parts → Parts → Mode → Next → Token → Type 0
Leads l k n next t =
    (below : List Node) (fs : List path.Frame) (f : path.Frame) (m : path.Mode)
    → PathIs below (nodes_view l.paths.items) l.levels.outer.items l.levels.inner n fs f m
    → NextIs below (nodes_view k.paths.items) k.levels.outer.items k.levels.inner next (path.step m fs f t)

module _ (l k : Parts) (s : spots.Place) (x : Bor (List ℕ)) (n : Mode) (t : Token) (y : IsAt l (places.InPath x n) s) where
  pub path_goes : (u : Mode) → Repathed l k → Leads l k n (nexts.Go u) t → StepIs k (Some (places.InPath x u)) (step s t)
  path_goes u same leads =
      let z = leads y.4 y.2 y.3 y.1 y.7 in (
        spots.InPath y.0 x.now z.0 z.1 z.2,
        (λ i. step (y.5 i) t) ∙ ap (λ (w : path.Next). spots.in_path y.0 x.now w t) z.3,
        (y.0, z.0, z.1, z.2, y.4, refl, part_moved l k y.4 y.0 same y.6, z.4),
      )

  pub path_fails : Leads l k n nexts.Fail t → step s t ≡ None
  path_fails leads =
      (λ i. step (y.5 i) t) ∙ ap (λ (w : path.Next). spots.in_path y.0 x.now w t) (leads y.4 y.2 y.3 y.1 y.7)

  pub path_unstopped : (id : PathId) → Leads l k n (nexts.Stop id) t → NotVariable t → step s t ≡ None
  path_unstopped id leads none =
      let z = leads y.4 y.2 y.3 y.1 y.7 in
      (λ i. step (y.5 i) t) ∙ (ap (λ (w : path.Next). spots.in_path y.0 x.now w t) z.1 ∙ none y.0 x.now z.0)

-- a pattern was added, and its path has ended
pub record Patterned (l k j : Parts) (added : code.Pattern) : Type 0 where
  pub heads : j.heads ≡ l.heads
  pub groups : j.groups ≡ l.groups
  pub patterns : j.patterns.items ≡ l.patterns.items ++ added ∷ []
  pub paths : j.paths ≡ k.paths
  pub outer : j.levels.outer ≡ k.levels.outer
  pub inner : j.levels.inner ≡ nothing
  pub first : j.first ≡ l.first
  pub braced : j.braced ≡ l.braced
  pub all_occur : j.all_occur ≡ l.all_occur

abbrev made : Bor (List ℕ) → PathId → Bor (List ℕ) → code.Pattern
made x id z = record { subject = x; path = id; object = z }

pub path_stops : (l k j : Parts) (s : spots.Place) (x z : Bor (List ℕ)) (n : Mode) (t : Token) (id : PathId) → IsAt l (places.InPath x n) s
    → Leads l k n (nexts.Stop id) t → t ≡ Variable z.now → Patterned l k j (made x id z) → StepIs j (Some places.BehindTriple) (step s t)
path_stops l k j s x z n t id y leads e same =
    let w = leads y.4 y.2 y.3 y.1 y.7 in
    let o = y.0 in
    let p = pattern x.now w.0 z.now in
    let all = flat o.groups ++ o.patterns in
    let base = y.6.nodes in (
      spots.BehindTriple (with_patterns o (p ∷ [])),
      (λ i. step (y.5 i) t) ∙ (ap (λ (v : path.Next). spots.in_path o x.now v t) w.1 ∙ ap (spots.at_object o x.now w.0) e),
      (
        with_patterns o (p ∷ []),
        refl,
        record {
          is = record {
            heads = rw same.heads y.6.heads;
            groups = rw same.groups y.6.groups;
            first = same.first ∙ y.6.first;
            braced = same.braced ∙ y.6.braced;
            all_occur = same.all_occur ∙ y.6.all_occur;
            patterns =
                ap entries_view same.patterns
                ∙ (map-append entry_view l.patterns.items (made x id z ∷ [])
                ∙ ((λ i. y.6.patterns i ++ record { subject = x.now; path = (w.2.numbered ∙ ap (λ (b : List Node). number (length b) w.0) base) i; object = z.now } ∷ [])
                ∙ (sym (entries_more all p) ∙ ap (entries 0) (append_assoc (flat o.groups) o.patterns (p ∷ [])))));
            nodes =
                rw same.paths
                (w.2.paths
                ∙ (ap (λ (b : List Node). b ++ nodes (length b) w.0) base ∙ (sym (nodes_more all p) ∙ ap (all_nodes 0) (append_assoc (flat o.groups) o.patterns (p ∷ [])))));
          };
          outer = rw same.outer w.3;
          inner = same.inner;
        },
      ),
    )

-- a group was added
pub record Closed (l k : Parts) (added : Span) (found : Bool) : Type 0 where
  pub heads : k.heads ≡ l.heads
  pub groups : k.groups.items ≡ l.groups.items ++ added ∷ []
  pub patterns : k.patterns ≡ l.patterns
  pub paths : k.paths ≡ l.paths
  pub levels : k.levels ≡ l.levels
  pub first : k.first ≡ length l.patterns.items
  pub braced : k.braced ≡ l.braced
  pub all_occur : k.all_occur ≡ (l.all_occur && found)
  pub span_first : added.first ≡ l.first
  pub span_count : added.count ≡ length l.patterns.items - l.first
  pub finds : found ≡ entries_have_all (texts l.heads.items) (entries_view (take (length l.patterns.items - l.first) (drop l.first l.patterns.items)))

map_drop : (n : ℕ) (ps : List code.Pattern) → entries_view (drop n ps) ≡ drop n (entries_view ps)
map_drop zero ps = refl
map_drop (suc n) [] = refl
map_drop (suc n) (p ∷ ps) = map_drop n ps

module _ (l k : Parts) (o : Part) (added : Span) (found : Bool) (x : RestIs l o) (c : Closed l k added found) where
  -- all patterns up to here
  count_is : length l.patterns.items ≡ length (flat o.groups ++ o.patterns)
  count_is = sym (length-map l.patterns.items entry_view) ∙ (ap length x.is.patterns ∙ entries_length 0 (flat o.groups ++ o.patterns))

  found_is : found ≡ has_all o.heads o.patterns
  found_is =
      c.finds
      ∙ (ap (λ (ps : List code.Pattern). entries_have_all (texts l.heads.items) (entries_view ps))
      (take_all (length l.patterns.items - l.first) (drop l.first l.patterns.items) (rw length-drop (omega arith)))
      ∙ ((λ i. entries_have_all (x.is.heads i) (map_drop l.first l.patterns.items i))
      ∙ ((λ i. entries_have_all o.heads (drop (x.is.first i) (x.is.patterns i))) ∙ group_has_all o.heads (flat o.groups) o.patterns)))

  rest_closed : RestIs k (part o.heads (o.groups ++ o.patterns ∷ []) l.braced)
  rest_closed = record {
    is = record {
      heads = rw c.heads x.is.heads;
      groups =
          c.groups
          ∙ ((λ i. x.is.groups i ++ record { first = (c.span_first ∙ x.is.first) i; count = count_of i } ∷ []) ∙ sym (spans_more o.groups o.patterns));
      first = c.first ∙ (count_is ∙ ap length (sym (flat_more o.groups o.patterns)));
      braced = c.braced;
      all_occur = c.all_occur ∙ ((λ i. x.is.all_occur i && found_is i) ∙ sym (all_snoc (has_all o.heads) o.groups o.patterns));
      patterns = rw c.patterns (x.is.patterns ∙ ap (entries 0) all_is);
      nodes = rw c.paths (x.is.nodes ∙ ap (all_nodes 0) all_is);
    };
    outer = rw c.levels x.outer;
    inner = rw c.levels x.inner;
  }
    where
      all_is : flat o.groups ++ o.patterns ≡ flat (o.groups ++ o.patterns ∷ []) ++ []
      all_is = sym (flat_more o.groups o.patterns) ∙ sym (append-nil (flat (o.groups ++ o.patterns ∷ [])))

      count_of : added.count ≡ length o.patterns
      count_of = c.span_count ∙ omega (arith, count_is, length-append (flat o.groups) o.patterns, x.is.first)

  pub closes_braced : l.braced ≡ true → IsAt k places.BehindGroup (closed o)
  closes_braced e = (
    o.heads,
    o.groups ++ o.patterns ∷ [],
    ap (λ (b : Bool). if b then spots.BehindGroup o.heads (o.groups ++ o.patterns ∷ []) else spots.AtEnd o.heads (o.groups ++ o.patterns ∷ [])) (sym x.is.braced ∙ e),
    subst (λ (b : Bool). RestIs k (part o.heads (o.groups ++ o.patterns ∷ []) b)) e rest_closed,
  )

  pub closes_bare : l.braced ≡ false → IsAt k places.AtEnd (closed o)
  closes_bare e = (
    o.heads,
    o.groups ++ o.patterns ∷ [],
    ap (λ (b : Bool). if b then spots.BehindGroup o.heads (o.groups ++ o.patterns ∷ []) else spots.AtEnd o.heads (o.groups ++ o.patterns ∷ [])) (sym x.is.braced ∙ e),
    subst (λ (b : Bool). RestIs k (part o.heads (o.groups ++ o.patterns ∷ []) b)) (sym c.braced) rest_closed,
  )
