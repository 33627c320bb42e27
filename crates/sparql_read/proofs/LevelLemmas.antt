-- One token of a path, over the levels that are open.
use Rattle.std.proofs.Common.{◌≡◌, ℕ, Bool, true, false, Option, Some, None, List, [], ◌∷◌, ◌++◌, refl, sym, ap, subst, ◌∙◌, length, drop}
use Rattle.sparql_read.specs.Tokens.{Token, Predicate, Variable, Open, Close, Slash, Bar, Caret}
use Rattle.sparql_read.specs.Grammar as tree
use Rattle.sparql_read.specs.Grammar.{Path}
use Rattle.sparql_read.specs.Layout.{Node, Iri}
use Rattle.sparql_read.specs.PathMachine as path
use Rattle.sparql_read.specs.PathMachine.{frame, seq_of, path_of}
use Rattle.sparql_read.specs.declared.paths.PathId.{PathId}
use Rattle.sparql_read.specs.declared.paths.Frame.{Frame}
use Rattle.sparql_read.specs.declared.levels.Mode.TheVariants as modes
use Rattle.sparql_read.specs.declared.paths.Path as code
use Rattle.sparql_read.specs.declared.levels.Next.{Next}
use Rattle.sparql_read.specs.declared.levels.Next.TheVariants as nexts
use Rattle.sparql_read.specs.Query.{node_view}
use Rattle.sparql_read.specs.State.{Placed, OptionIs, FrameIs, StackIs, PathIs, NextIs, NotSigned, SignedIs}
use Rattle.sparql_read.proofs.PlaceLemmas.{placed_iri}

-- a level at which nothing was read
abbrev nothing : Frame
nothing = record { alt = None; seq = None; caret = false }

pub nothing_is : (below : List Node) → FrameIs below below nothing path.empty
nothing_is below = record { alt = None; seq = None; is = refl; mid = below; alts = (refl, refl); seqs = (refl, refl) }

not_empty : (hs : List Frame) (h : Frame) → ◌≡◌ {A = List Frame} [] (hs ++ h ∷ []) → ⊥
not_empty [] h e = cc
not_empty (g ∷ hs) h e = cc

snoc_same : (xs ys : List Frame) (x y : Frame) → xs ++ x ∷ [] ≡ ys ++ y ∷ [] → (xs ≡ ys) × (x ≡ y)
snoc_same [] [] x y e = (refl, cc)
snoc_same [] (z ∷ ys) x y e = absurd (not_empty ys y (ap (drop 1) e))
snoc_same (z ∷ xs) [] x y e = absurd (not_empty xs x (ap (drop 1) (sym e)))
snoc_same (z ∷ xs) (w ∷ ys) x y e =
    let tails = snoc_same xs ys x y (ap (drop 1) e) in
    let heads : z ≡ w = cc in
    ((λ i. heads i ∷ tails.0 i), tails.1)

-- a last level leads to the machine's first
popped : (below above : List Node) (gs hs : List Frame) (h : Frame) (fs : List path.Frame) → gs ≡ hs ++ h ∷ [] → StackIs below above gs fs
    → (mid : List Node) × (f : path.Frame) × (rest : List path.Frame) × (fs ≡ f ∷ rest) × StackIs below mid hs rest × FrameIs mid above h f
popped below above gs hs h [] e s = absurd (not_empty hs h (sym s.0 ∙ e))
popped below above gs hs h (f ∷ fs) e s =
    let same = snoc_same s.1 hs s.2 h (sym s.3 ∙ e) in
    (s.0, f, fs, refl, subst (λ (x : List Frame). StackIs below s.0 x fs) same.0 s.4, subst (λ (x : Frame). FrameIs s.0 above x f) same.1 s.5)

-- no level leads to none
no_stack : (below above : List Node) (gs : List Frame) (fs : List path.Frame) → gs ≡ [] → StackIs below above gs fs → (fs ≡ []) × (above ≡ below)
no_stack below above gs [] e s = (refl, s.1)
no_stack below above gs (f ∷ fs) e s = absurd (not_empty s.1 s.2 (sym e ∙ s.3))

-- a whole path of a level
abbrev MakesPath : List Node → List Node → Frame → PathId → PathId → Type 0
MakesPath a b g id made =
    (below mid above : List Node) (alt seq : Option Path) (p : Path) → OptionIs below mid g.alt alt → OptionIs mid above g.seq seq → Placed above a p id.0
    → Placed below b (path_of (frame alt seq g.caret) p) made.0

module _ (below a b : List Node) (gs : List Frame) (g : Frame) (id made : PathId) (fs : List path.Frame) (f : path.Frame) (m : path.Mode)
    (x : PathIs below a gs g (modes.Done id) fs f m) where
  pub done_slash : ((mid above : List Node) (seq : Option Path) (p : Path) → OptionIs mid above g.seq seq → Placed above a p id.0 → Placed mid b (seq_of seq g.caret p) made.0)
      → NextIs below b gs (record { alt = g.alt; seq = Some made; caret = false }) (nexts.Go modes.Want) (path.step m fs f Slash)
  done_slash makes =
      let l = x.level in
      let d = x.mode in
      let seq = makes l.mid x.inner l.seq d.0 l.seqs d.2 in (
        path.Want,
        fs,
        frame l.alt (Some (seq_of l.seq g.caret d.0)) false,
        (λ i. path.step (d.1 i) fs (l.is i) Slash),
        record {
          outer = x.outer;
          inner = b;
          stack = x.stack;
          level = record { alt = l.alt; seq = Some (seq_of l.seq g.caret d.0); is = refl; mid = l.mid; alts = l.alts; seqs = (seq_of l.seq g.caret d.0, refl, seq) };
          mode = (refl, refl);
        },
      )

  whole_placed : MakesPath a b g id made → Placed x.outer b (path_of (frame x.level.alt x.level.seq g.caret) x.mode.0) made.0
  whole_placed makes = makes x.outer x.level.mid x.inner x.level.alt x.level.seq x.mode.0 x.level.alts x.level.seqs x.mode.2

  pub done_bar : MakesPath a b g id made
      → NextIs below b gs (record { alt = Some made; seq = None; caret = false }) (nexts.Go modes.Want) (path.step m fs f Bar)
  done_bar makes =
      let l = x.level in
      let d = x.mode in
      let all = path_of (frame l.alt l.seq g.caret) d.0 in (
        path.Want,
        fs,
        frame (Some all) None false,
        (λ i. path.step (d.1 i) fs (l.is i) Bar),
        record {
          outer = x.outer;
          inner = b;
          stack = x.stack;
          level = record { alt = Some all; seq = None; is = refl; mid = b; alts = (all, refl, whole_placed makes); seqs = (refl, refl) };
          mode = (refl, refl);
        },
      )

  pub done_close : (hs : List Frame) (h : Frame) → gs ≡ hs ++ h ∷ [] → MakesPath a b g id made
      → NextIs below b hs h (nexts.Go (modes.Have made)) (path.step m fs f Close)
  done_close hs h e makes =
      let l = x.level in
      let d = x.mode in
      let all = path_of (frame l.alt l.seq g.caret) d.0 in
      let y = popped below x.outer gs hs h fs e x.stack in (
        path.Have all,
        y.2,
        y.1,
        (λ i. path.step (d.1 i) (y.3 i) (l.is i) Close),
        record {
          outer = y.0;
          inner = x.outer;
          stack = y.4;
          level = y.5;
          mode = (all, refl, whole_placed makes);
        },
      )

  pub done_unopened : (hs : List Frame) → gs ≡ [] → MakesPath a b g id made → NextIs below b hs g nexts.Fail (path.step m fs f Close)
  done_unopened hs e makes = λ i. path.step (x.mode.1 i) ((no_stack below x.outer gs fs e x.stack).0 i) (x.level.is i) Close

  pub done_stop : (name : List ℕ) (hs : List Frame) → gs ≡ [] → hs ≡ [] → MakesPath a b g id made → NextIs below b hs g (nexts.Stop made) (path.step m fs f (Variable name))
  done_stop name hs e k makes =
      let l = x.level in
      let d = x.mode in
      let y = no_stack below x.outer gs fs e x.stack in
      let all = path_of (frame l.alt l.seq g.caret) d.0 in
      (all, (λ i. path.step (d.1 i) (y.0 i) (l.is i) (Variable name)), subst (λ (z : List Node). Placed z b all made.0) y.1 (whole_placed makes), k)

  pub done_open : (name : List ℕ) (hs : List Frame) (h : Frame) → gs ≡ hs ++ h ∷ [] → MakesPath a b g id made
      → NextIs below b hs g nexts.Fail (path.step m fs f (Variable name))
  done_open name hs h e makes =
      let y = popped below x.outer gs hs h fs e x.stack in
      λ i. path.step (x.mode.1 i) (y.3 i) (x.level.is i) (Variable name)

module _ (below a : List Node) (gs : List Frame) (g : Frame) (fs : List path.Frame) (f : path.Frame) (m : path.Mode)
    (x : PathIs below a gs g modes.Want fs f m) where
  pub want_predicate : (b : List Node) (mark name : List ℕ) (made : PathId) → b ≡ a ++ Iri name ∷ [] → made.0 ≡ length a
      → NextIs below b gs g (nexts.Go (modes.Have made)) (path.step m fs f (Predicate mark name))
  want_predicate b mark name made e k =
      let here : Placed x.inner (x.inner ++ Iri name ∷ []) (tree.Iri name) (length x.inner) = placed_iri x.inner name in (
        path.Have (tree.Iri name),
        fs,
        f,
        (λ i. path.step (x.mode.0 i) fs f (Predicate mark name)),
        record {
          outer = x.outer;
          inner = x.inner;
          stack = x.stack;
          level = x.level;
          mode = (tree.Iri name, refl, rw (e, k, x.mode.1) here);
        },
      )

  pub want_open : (hs : List Frame) (h : Frame) → hs ≡ gs ++ g ∷ [] → h ≡ nothing → NextIs below a hs h (nexts.Go modes.Want) (path.step m fs f Open)
  want_open hs h e k = (
    path.Want,
    f ∷ fs,
    path.empty,
    (λ i. path.step (x.mode.0 i) fs f Open),
    record {
      outer = x.inner;
      inner = x.inner;
      stack = (x.outer, gs, g, e, x.stack, x.level);
      level = rw k (nothing_is x.inner);
      mode = (refl, x.mode.1);
    },
  )

  pub want_caret : g.caret ≡ false
      → NextIs below a gs (record { alt = g.alt; seq = g.seq; caret = true }) (nexts.Go modes.Want) (path.step m fs f Caret)
  want_caret e =
      let l = x.level in
      let is : f ≡ frame l.alt l.seq false = l.is ∙ ap (λ (c : Bool). frame l.alt l.seq c) e in (
        path.Want,
        fs,
        frame l.alt l.seq true,
        (λ i. path.step (x.mode.0 i) fs (is i) Caret),
        record {
          outer = x.outer;
          inner = x.inner;
          stack = x.stack;
          level = record { alt = l.alt; seq = l.seq; is = refl; mid = l.mid; alts = l.alts; seqs = l.seqs };
          mode = (refl, x.mode.1);
        },
      )

  pub want_no_caret : g.caret ≡ true → NextIs below a gs g nexts.Fail (path.step m fs f Caret)
  want_no_caret e =
      let l = x.level in
      let is : f ≡ frame l.alt l.seq true = l.is ∙ ap (λ (c : Bool). frame l.alt l.seq c) e in
      λ i. path.step (x.mode.0 i) fs (is i) Caret

module _ (below a b : List Node) (gs : List Frame) (g : Frame) (id : PathId) (fs : List path.Frame) (f : path.Frame) (m : path.Mode) (t : Token)
    (x : PathIs below a gs g (modes.Have id) fs f m) where
  pub have_done : (hs : List Frame) (h : Frame) (next : Next) → NotSigned t
      → ((es : List path.Frame) (e : path.Frame) (n : path.Mode) → PathIs below a gs g (modes.Done id) es e n → NextIs below b hs h next (path.step n es e t))
      → NextIs below b hs h next (path.step m fs f t)
  have_done hs h next none more =
      let d = x.mode in
      let same : path.step m fs f t ≡ path.done d.0 fs f t = (λ i. path.step (d.1 i) fs f t) ∙ none d.0 fs f in
      subst (λ (n : path.Next). NextIs below b hs h next n) (sym same)
      (more fs f (path.Done d.0) record { outer = x.outer; inner = x.inner; stack = x.stack; level = x.level; mode = (d.0, refl, d.2) })

  pub have_signed : (node : code.Path) (made : PathId) → SignedIs id.0 node t → b ≡ a ++ node_view node ∷ [] → made.0 ≡ length a
      → NextIs below b gs g (nexts.Go (modes.Done made)) (path.step m fs f t)
  have_signed node made signed e k =
      let d = x.mode in
      let s = signed x.inner a d.0 d.2 in (
        path.Done s.0,
        fs,
        f,
        (λ i. path.step (d.1 i) fs f t) ∙ s.1 fs f,
        record {
          outer = x.outer;
          inner = x.inner;
          stack = x.stack;
          level = x.level;
          mode = (s.0, refl, rw (e, k) s.2);
        },
      )
