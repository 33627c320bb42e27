-- Paths in one list, each behind its parts.
use Rattle.std.proofs.Common.{◌≡◌, ℕ, Bool, true, Option, Some, None, List, [], ◌∷◌, ◌++◌, ◌+◌, refl, sym, ap, subst, ◌∙◌, length, arith, Result, Ok, Err, IfOk}
use Rattle.std.proofs.lemmas.List.{append_assoc, length-append, map-append, length-map}
use Rattle.sparql_read.specs.Grammar as tree
use Rattle.sparql_read.specs.Grammar.{Path}
use Rattle.sparql_read.specs.Layout.{Node, number, nodes, Iri, Inverse, Seq, Alt, Star, Plus, Opt}
use Rattle.sparql_read.specs.PathMachine.{with_caret, with_seq, with_alt}
use Rattle.sparql_read.specs.declared.paths.PathId.{PathId}
use Rattle.sparql_read.specs.declared.paths.Path as code
use Rattle.sparql_read.specs.declared.paths.Path.TheVariants as paths
use Rattle.sparql_read.specs.Query.{node_view}
use Rattle.sparql_read.specs.State.{stored, Placed, OptionIs, Pushed}

-- one node more
unary : (n k m : ℕ) (xs : List Node) (x : Node) → n + length xs ≡ k + 1 → n + length (xs ++ x ∷ []) ≡ k + 1 + 1
unary n k m xs x e = omega (arith, length-append xs (x ∷ []), e)

binary : (n k m : ℕ) (xs ys : List Node) (x : Node) → n + length xs ≡ k + 1 → (k + 1) + length ys ≡ m + 1
    → n + length (xs ++ (ys ++ x ∷ [])) ≡ m + 1 + 1
binary n k m xs ys x e f = omega (arith, length-append xs (ys ++ x ∷ []), length-append ys (x ∷ []), e, f)

-- a path takes as many numbers as it has nodes
pub numbers : (n : ℕ) (p : Path) → n + length (nodes n p) ≡ number n p + 1
numbers n (tree.Iri name) = refl
numbers n (tree.Inverse p) = unary n (number n p) 0 (nodes n p) (Inverse (number n p)) (numbers n p)
numbers n (tree.Seq p q) =
    binary n (number n p) (number (number n p + 1) q) (nodes n p) (nodes (number n p + 1) q) (Seq (number n p) (number (number n p + 1) q))
    (numbers n p) (numbers (number n p + 1) q)
numbers n (tree.Alt p q) =
    binary n (number n p) (number (number n p + 1) q) (nodes n p) (nodes (number n p + 1) q) (Alt (number n p) (number (number n p + 1) q))
    (numbers n p) (numbers (number n p + 1) q)
numbers n (tree.Star p) = unary n (number n p) 0 (nodes n p) (Star (number n p)) (numbers n p)
numbers n (tree.Plus p) = unary n (number n p) 0 (nodes n p) (Plus (number n p)) (numbers n p)
numbers n (tree.Opt p) = unary n (number n p) 0 (nodes n p) (Opt (number n p)) (numbers n p)

-- behind a placed path stands the next number
pub placed_length : (below above : List Node) (p : Path) (id : ℕ) → Placed below above p id → length above ≡ id + 1
placed_length below above p id x =
    ap length x.paths ∙ (length-append below (nodes (length below) p) ∙ (numbers (length below) p ∙ ap (λ (k : ℕ). k + 1) (sym x.numbered)))

-- a path with one part
pub placed_one : (below above : List Node) (p q : Path) (id : ℕ) (x : Node) → Placed below above p id
    → nodes (length below) q ≡ nodes (length below) p ++ x ∷ [] → number (length below) q ≡ number (length below) p + 1
    → Placed below (above ++ x ∷ []) q (length above)
placed_one below above p q id x d e f = record {
  paths = ap (λ (ys : List Node). ys ++ x ∷ []) d.paths ∙ (append_assoc below (nodes (length below) p) (x ∷ []) ∙ ap (λ (ys : List Node). below ++ ys) (sym e));
  numbered = placed_length below above p id d ∙ (ap (λ (k : ℕ). k + 1) d.numbered ∙ sym f);
}

-- a path with two parts
pub placed_two : (below mid above : List Node) (p q r : Path) (i j : ℕ) (x : Node) → Placed below mid p i → Placed mid above q j
    → nodes (length below) r ≡ nodes (length below) p ++ (nodes (length mid) q ++ x ∷ []) → number (length below) r ≡ number (length mid) q + 1
    → Placed below (above ++ x ∷ []) r (length above)
placed_two below mid above p q r i j x c d e f = record {
  paths =
      ap (λ (ys : List Node). ys ++ x ∷ []) d.paths
      ∙ (append_assoc mid (nodes (length mid) q) (x ∷ [])
      ∙ (ap (λ (ys : List Node). ys ++ (nodes (length mid) q ++ x ∷ [])) c.paths
      ∙ (append_assoc below (nodes (length below) p) (nodes (length mid) q ++ x ∷ []) ∙ ap (λ (ys : List Node). below ++ ys) (sym e))));
  numbered = placed_length mid above q j d ∙ (ap (λ (k : ℕ). k + 1) d.numbered ∙ sym f);
}

-- behind the first part stands the number that the second begins with
pub next_number : (below mid : List Node) (p : Path) (i : ℕ) → Placed below mid p i → length mid ≡ number (length below) p + 1
next_number below mid p i c = placed_length below mid p i c ∙ ap (λ (k : ℕ). k + 1) c.numbered

pub placed_seq : (below mid above : List Node) (p q : Path) (i j : ℕ) → Placed below mid p i → Placed mid above q j
    → Placed below (above ++ Seq i j ∷ []) (tree.Seq p q) (length above)
placed_seq below mid above p q i j c d =
    placed_two below mid above p q (tree.Seq p q) i j (Seq i j) c d
    (rw (c.numbered, d.numbered, next_number below mid p i c) refl)
    (rw (next_number below mid p i c) refl)

pub placed_alt : (below mid above : List Node) (p q : Path) (i j : ℕ) → Placed below mid p i → Placed mid above q j
    → Placed below (above ++ Alt i j ∷ []) (tree.Alt p q) (length above)
placed_alt below mid above p q i j c d =
    placed_two below mid above p q (tree.Alt p q) i j (Alt i j) c d
    (rw (c.numbered, d.numbered, next_number below mid p i c) refl)
    (rw (next_number below mid p i c) refl)

pub placed_inverse : (below above : List Node) (p : Path) (i : ℕ) → Placed below above p i → Placed below (above ++ Inverse i ∷ []) (tree.Inverse p) (length above)
placed_inverse below above p i d = placed_one below above p (tree.Inverse p) i (Inverse i) d (rw d.numbered refl) refl

pub placed_star : (below above : List Node) (p : Path) (i : ℕ) → Placed below above p i → Placed below (above ++ Star i ∷ []) (tree.Star p) (length above)
placed_star below above p i d = placed_one below above p (tree.Star p) i (Star i) d (rw d.numbered refl) refl

pub placed_plus : (below above : List Node) (p : Path) (i : ℕ) → Placed below above p i → Placed below (above ++ Plus i ∷ []) (tree.Plus p) (length above)
placed_plus below above p i d = placed_one below above p (tree.Plus p) i (Plus i) d (rw d.numbered refl) refl

pub placed_opt : (below above : List Node) (p : Path) (i : ℕ) → Placed below above p i → Placed below (above ++ Opt i ∷ []) (tree.Opt p) (length above)
placed_opt below above p i d = placed_one below above p (tree.Opt p) i (Opt i) d (rw d.numbered refl) refl

pub placed_iri : (below : List Node) (name : List ℕ) → Placed below (below ++ Iri name ∷ []) (tree.Iri name) (length below)
placed_iri below name = record { paths = refl; numbered = refl }

-- what holds of a made value, where more holds
pub ok_then : {A E : Type 0} {P Q : A → Type 0} (r : Result A E) → IfOk r P → ((x : A) → P x → Q x) → IfOk r Q
ok_then (Ok x) p more = more x p
ok_then (Err e) p more = p

pub stored_length : (ps : List code.Path) → length (stored ps) ≡ length ps
stored_length ps = length-map ps node_view

pub stored_pushed : (old new : List code.Path) (x : code.Path) (id : ℕ) → Pushed old new x id → stored new ≡ stored old ++ node_view x ∷ []
stored_pushed old new x id e = ap stored e.items ∙ map-append node_view old (x ∷ [])

pub number_pushed : (old new : List code.Path) (x : code.Path) (id : ℕ) → Pushed old new x id → id ≡ length (stored old)
number_pushed old new x id e = e.numbered ∙ sym (stored_length old)

pub placed_pushed : (below : List Node) (old new : List code.Path) (x : code.Path) (id : ℕ) (q : Path) → Pushed old new x id
    → Placed below (stored old ++ node_view x ∷ []) q (length (stored old)) → Placed below (stored new) q id
placed_pushed below old new x id q e d = rw (stored_pushed old new x id e, number_pushed old new x id e) d

pub elt_made : (below : List Node) (old new : List code.Path) (id : PathId) (made : ℕ) (caret : Bool) (p : Path) → caret ≡ true
    → Pushed old new (paths.Inverse id) made → Placed below (stored old) p id.0 → Placed below (stored new) (with_caret caret p) made
elt_made below old new id made caret p e x d =
    rw e (placed_pushed below old new (paths.Inverse id) made (tree.Inverse p) x (placed_inverse below (stored old) p id.0 d))

pub seq_made : (below mid : List Node) (old new : List code.Path) (left elt : PathId) (made : ℕ) (seq : Option Path) (q : Path)
    → OptionIs below mid (Some left) seq → Pushed old new (paths.Seq left elt) made → Placed mid (stored old) q elt.0 → Placed below (stored new) (with_seq seq q) made
seq_made below mid old new left elt made seq q o x d =
    rw o.1 (placed_pushed below old new (paths.Seq left elt) made (tree.Seq o.0 q) x (placed_seq below mid (stored old) o.0 q left.0 elt.0 o.2 d))

pub alt_made : (below mid : List Node) (old new : List code.Path) (left seq : PathId) (made : ℕ) (alt : Option Path) (q : Path)
    → OptionIs below mid (Some left) alt → Pushed old new (paths.Alt left seq) made → Placed mid (stored old) q seq.0 → Placed below (stored new) (with_alt alt q) made
alt_made below mid old new left seq made alt q o x d =
    rw o.1 (placed_pushed below old new (paths.Alt left seq) made (tree.Alt o.0 q) x (placed_alt below mid (stored old) o.0 q left.0 seq.0 o.2 d))

pub alt_none : (below mid new : List Node) (id : ℕ) (alt : Option Path) (q : Path) → OptionIs below mid None alt → Placed mid new q id
    → Placed below new (with_alt alt q) id
alt_none below mid new id alt q o d = rw o.0 (subst (λ (x : List Node). Placed x new q id) o.1 d)
