-- What the grammar reads as a text the machine reads, so no text has two readings.
use Rattle.std.proofs.Common.{◌≡◌, ℕ, Bool, true, false, ◌&&◌, Option, Some, None, List, [], ◌∷◌, ◌++◌, refl, sym, ap, subst, ◌∙◌, drop, IsTrue, length, ◌≤◌, nat_lt, nat_le, arith}
use Rattle.std.proofs.lemmas.Bool.Decides.{nat_tests}
use Rattle.std.specs.List.{list_all}
use Rattle.std.proofs.lemmas.List.{append_assoc, append-nil, length-append}
use Rattle.token_text.proofs.TokenLemmas.{tokens_are_one}
use Rattle.sparql_read.specs.Tokens.{Token, Variable, RightBrace, first}
use Rattle.sparql_read.specs.Grammar.{Path, Pattern, IsTriple, triple, IsTriples, one_triple, dotted, more_triples, IsGroup, group, IsGroups, one_group, more_groups, IsBody, triples, groups}
use Rattle.sparql_read.specs.Grammar.{Asked, variables_then, heads_then, brace_then, IsText}
use Rattle.sparql_read.specs.PathMachine as path
use Rattle.sparql_read.specs.PathMachine.{Mode, Frame, Reading}
use Rattle.sparql_read.specs.TextMachine.{Part, Place, AtForm, AtHeads, AtBody, AtSubject, InPath, BehindTriple, BehindDot, BehindGroup, AtGroup}
use Rattle.sparql_read.specs.TextMachine.{part, with_patterns, pattern, closed, at_object, in_path, step, go_on, run, checked}
use Rattle.sparql_read.specs.Text.{has_mark, heads_most, are_different, has_all, holds, ReadingIsOne}
use Rattle.sparql_read.proofs.PathComplete.{reads}

none_path : (x : Path × List Token) → ◌≡◌ {A = Reading} None (Some x) → ⊥
none_path x e = cc

some_path : (p q : Path) (ts us : List Token) → ◌≡◌ {A = Reading} (Some (p, ts)) (Some (q, us)) → (p ≡ q) × (ts ≡ us)
some_path p q ts us e =
    let same : ◌≡◌ {A = Path × List Token} (p, ts) (q, us) = cc in
    (ap (λ (y : Path × List Token). y.0) same, ap (λ (y : Path × List Token). y.1) same)

-- behind a path
abbrev object : Part → List ℕ → Path → List Token → Option Asked
object o s p [] = None
object o s p (t ∷ ts) = go_on (at_object o s p t) (run ts)

in_path_next : (o : Part) (s : List ℕ) (n : path.Next) (t : Token) (ts : List Token) (p : Path) (x : List ℕ) (rest : List Token)
    → path.go_on n (path.run ts) (t ∷ ts) ≡ Some (p, Variable x ∷ rest)
    → ((m : Mode) (fs : List Frame) (f : Frame) → path.run ts m fs f ≡ Some (p, Variable x ∷ rest)
    → run ts (InPath o s m fs f) ≡ run rest (BehindTriple (with_patterns o (pattern s p x ∷ []))))
    → go_on (in_path o s n t) (run ts) ≡ run rest (BehindTriple (with_patterns o (pattern s p x ∷ [])))
in_path_next o s (path.Go m fs f) t ts p x rest e more = more m fs f e
in_path_next o s (path.Stop q) t ts p x rest e more =
    let same = some_path q p (t ∷ ts) (Variable x ∷ rest) e in
    λ i. object o s (same.0 i) (same.1 i)
in_path_next o s path.Fail t ts p x rest e more = absurd (none_path _ e)

-- what the machine of paths reads up to a variable is a path here too
in_path_runs : (o : Part) (s : List ℕ) (ts : List Token) (m : Mode) (fs : List Frame) (f : Frame) (p : Path) (x : List ℕ) (rest : List Token)
    → path.run ts m fs f ≡ Some (p, Variable x ∷ rest)
    → run ts (InPath o s m fs f) ≡ run rest (BehindTriple (with_patterns o (pattern s p x ∷ [])))
in_path_runs o s [] m fs f p x rest e = absurd (none_path _ e)
in_path_runs o s (t ∷ ts) m fs f p x rest e =
    in_path_next o s (path.step m fs f t) t ts p x rest e (λ n gs g. in_path_runs o s ts n gs g p x rest)

triple_runs : {ts : List Token} {p : Pattern} {rest : List Token} → IsTriple ts p rest → (o : Part)
    → run ts (AtSubject o) ≡ run rest (BehindTriple (with_patterns o (p ∷ [])))
triple_runs (triple {s = s} {o = x} {p = p} {ts = ts} {rest = rest} d) o =
    in_path_runs o s ts path.Want [] path.empty p x rest (reads ts p (Variable x ∷ rest) tt d)

triple_dot : {ts : List Token} {p : Pattern} {rest : List Token} → IsTriple ts p rest → (o : Part) → run ts (BehindDot o) ≡ run ts (AtSubject o)
triple_dot (triple d) o = refl

triples_dot : {ts : List Token} {ps : List Pattern} {rest : List Token} → IsTriples ts ps rest → (o : Part)
    → run ts (BehindDot o) ≡ run ts (AtSubject o)
triples_dot (one_triple d) o = triple_dot d o
triples_dot (dotted d) o = triple_dot d o
triples_dot (more_triples d ds) o = triple_dot d o

pub with_more : (o : Part) (p : Pattern) (ps : List Pattern) → with_patterns (with_patterns o (p ∷ [])) ps ≡ with_patterns o (p ∷ ps)
with_more o p ps =
    ap (λ (qs : List Pattern). record { heads = o.heads; groups = o.groups; patterns = qs; braced = o.braced })
    (append_assoc o.patterns (p ∷ []) ps)

triples_run : {ts : List Token} {ps : List Pattern} {end : List Token} → IsTriples ts ps end → (rest : List Token) → end ≡ RightBrace ∷ rest
    → (o : Part) → run ts (AtSubject o) ≡ run rest (closed (with_patterns o ps))
triples_run (one_triple {p = p} d) rest e o =
    triple_runs d o ∙ ap (λ (us : List Token). run us (BehindTriple (with_patterns o (p ∷ [])))) e
triples_run (dotted {p = p} d) rest e o =
    triple_runs d o ∙ ap (λ (us : List Token). run us (BehindDot (with_patterns o (p ∷ [])))) e
triples_run (more_triples {p = p} {ps = ps} d ds) rest e o =
    triple_runs d o
    ∙ (triples_dot ds (with_patterns o (p ∷ []))
    ∙ (triples_run ds rest e (with_patterns o (p ∷ [])) ∙ ap (λ (q : Part). run rest (closed q)) (with_more o p ps)))

group_runs : {ts : List Token} {ps : List Pattern} {rest : List Token} → IsGroup ts ps rest → (heads : List (List ℕ)) (gs : List (List Pattern))
    → run ts (AtGroup heads gs) ≡ run rest (BehindGroup heads (gs ++ ps ∷ []))
group_runs (group {rest = rest} d) heads gs = triples_run d rest refl (part heads gs true)

abbrev asked : List (List ℕ) → List (List Pattern) → Option Asked
asked heads gs = Some (record { heads = heads; groups = gs })

groups_run : {ts : List Token} {hs : List (List Pattern)} {end : List Token} → IsGroups ts hs end → end ≡ RightBrace ∷ []
    → (heads : List (List ℕ)) (gs : List (List Pattern)) → run ts (AtGroup heads gs) ≡ asked heads (gs ++ hs)
groups_run (one_group {ps = ps} d) e heads gs =
    group_runs d heads gs ∙ ap (λ (us : List Token). run us (BehindGroup heads (gs ++ ps ∷ []))) e
groups_run (more_groups {ps = ps} {gs = hs} d ds) e heads gs =
    group_runs d heads gs ∙ (groups_run ds e heads (gs ++ ps ∷ []) ∙ ap (asked heads) (append_assoc gs (ps ∷ []) hs))

triple_body : {ts : List Token} {p : Pattern} {rest : List Token} → IsTriple ts p rest → (heads : List (List ℕ))
    → run ts (AtBody heads) ≡ run ts (AtSubject (part heads [] false))
triple_body (triple d) heads = refl

triples_body : {ts : List Token} {ps : List Pattern} {rest : List Token} → IsTriples ts ps rest → (heads : List (List ℕ))
    → run ts (AtBody heads) ≡ run ts (AtSubject (part heads [] false))
triples_body (one_triple d) heads = triple_body d heads
triples_body (dotted d) heads = triple_body d heads
triples_body (more_triples d ds) heads = triple_body d heads

group_body : {ts : List Token} {ps : List Pattern} {rest : List Token} → IsGroup ts ps rest → (heads : List (List ℕ))
    → run ts (AtBody heads) ≡ run ts (AtGroup heads [])
group_body (group d) heads = refl

groups_body : {ts : List Token} {gs : List (List Pattern)} {rest : List Token} → IsGroups ts gs rest → (heads : List (List ℕ))
    → run ts (AtBody heads) ≡ run ts (AtGroup heads [])
groups_body (one_group d) heads = group_body d heads
groups_body (more_groups d ds) heads = group_body d heads

body_runs : {ts : List Token} {gs : List (List Pattern)} {end : List Token} → IsBody ts gs end → end ≡ RightBrace ∷ [] → (heads : List (List ℕ))
    → run ts (AtBody heads) ≡ asked heads gs
body_runs (triples d) e heads = triples_body d heads ∙ triples_run d [] e (part heads [] false)
body_runs (groups d) e heads = groups_body d heads ∙ groups_run d e heads []

room_for : (heads xs : List (List ℕ)) (x : List ℕ) → length (heads ++ x ∷ xs) ≤ heads_most → nat_lt (length heads) heads_most ≡ true
room_for heads xs x e = grind (arith, nat_tests, length-append heads (x ∷ xs), e)

variables_run : (xs : List (List ℕ)) (rest : List Token) (heads : List (List ℕ)) → length (heads ++ xs) ≤ heads_most
    → run (variables_then xs rest) (AtHeads heads) ≡ run rest (AtHeads (heads ++ xs))
variables_run [] rest heads e = ap (λ (hs : List (List ℕ)). run rest (AtHeads hs)) (sym (append-nil heads))
variables_run (x ∷ xs) rest heads e =
    let same = append_assoc heads (x ∷ []) xs in
    rw (room_for heads xs x e)
    (variables_run xs rest (heads ++ x ∷ []) (subst (λ (hs : List (List ℕ)). length hs ≤ heads_most) (sym same) e)
    ∙ ap (λ (hs : List (List ℕ)). run rest (AtHeads hs)) same)

brace_runs : (has_where : Bool) (rest : List Token) (heads : List (List ℕ)) → run (brace_then has_where rest) (AtHeads heads) ≡ run rest (AtBody heads)
brace_runs false rest heads = refl
brace_runs true rest heads = refl

heads_run : (heads : List (List ℕ)) (has_where : Bool) (rest : List Token) → length heads ≤ heads_most
    → run (heads_then heads (brace_then has_where rest)) AtForm ≡ run rest (AtBody heads)
heads_run [] false rest e = refl
heads_run [] true rest e = refl
heads_run (x ∷ xs) has_where rest e = variables_run xs (brace_then has_where rest) (x ∷ []) e ∙ brace_runs has_where rest (x ∷ xs)

-- a text is read from behind its declaration on
pub text_runs : (ts : List Token) (mark : List ℕ) (q : Asked) (d : IsText ts mark q) → length q.heads ≤ heads_most
    → run (heads_then q.heads (brace_then d.has_where d.body)) AtForm ≡ Some q
text_runs ts mark q d e = heads_run q.heads d.has_where d.body e ∙ body_runs d.body_is refl q.heads

pub and_both : (a b : Bool) → (a && b) ≡ true → (a ≡ true) × (b ≡ true)
and_both true true e = (refl, refl)
and_both true false e = (refl, e)
and_both false b e = (e, cc)

-- where all predicates have the mark, the check says nothing
pub checked_marked : (mark : List ℕ) (ts : List Token) (place : Place) → list_all (has_mark mark) ts ≡ true → checked mark ts place ≡ run ts place
checked_marked mark [] place e = refl
checked_marked mark (t ∷ ts) place e =
    let both = and_both (has_mark mark t) (list_all (has_mark mark) ts) e in
    rw both.0 (checked_next mark (step place t) ts (λ (next : Place). checked_marked mark ts next both.1))
  where
    checked_next : (mark : List ℕ) (n : Option Place) (ts : List Token) → ((next : Place) → checked mark ts next ≡ run ts next)
        → go_on n (checked mark ts) ≡ go_on n (run ts)
    checked_next mark None ts more = refl
    checked_next mark (Some next) ts more = more next

some_asked : (p q : Asked) → ◌≡◌ {A = Option Asked} (Some p) (Some q) → p ≡ q
some_asked p q e = cc

-- the tokens of a text that are left behind its declaration are one list
pub behind_head : (ts : List Token) (m n : List ℕ) (q r : Asked) (c : IsText ts m q) (d : IsText ts n r)
    → heads_then q.heads (brace_then c.has_where c.body) ≡ heads_then r.heads (brace_then d.has_where d.body)
behind_head ts m n q r c d = ap (λ (us : List Token). drop 3 us) (sym c.is ∙ d.is)

-- at most four variables are selected
pub few_heads : (q : Asked) → IsTrue (holds q) → length q.heads ≤ heads_most
few_heads q h =
    let le : nat_le (length q.heads) heads_most ≡ true =
    (and_both (nat_le (length q.heads) heads_most) (are_different q.heads)
    (and_both (nat_le (length q.heads) heads_most && are_different q.heads) (list_all (has_all q.heads) q.groups) h).0).0 in
    grind (arith, nat_tests, le)

text_is_one : (ts : List Token) (m n : List ℕ) (q r : Asked) → IsText ts m q → length q.heads ≤ heads_most → IsText ts n r → length r.heads ≤ heads_most → q ≡ r
text_is_one ts m n q r c few d less =
    some_asked q r (sym (text_runs ts m q c few) ∙ (ap (λ (us : List Token). run us AtForm) (behind_head ts m n q r c d) ∙ text_runs ts n r d less))

pub reading_is_one : ReadingIsOne
reading_is_one bytes q r c d =
    text_is_one c.tokens c.mark d.mark q r c.text (few_heads q c.holds)
    (subst (λ (ts : List Token). IsText ts d.mark r) (tokens_are_one first bytes d.tokens c.tokens d.cut c.cut) d.text) (few_heads r d.holds)
