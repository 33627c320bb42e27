-- What the machine reads as a text the grammar reads.
use Rattle.std.proofs.Common.{◌≡◌, ℕ, Bool, true, false, ◌&&◌, Option, Some, None, List, [], ◌∷◌, ◌++◌, ◌⊎◌, inl, inr, refl, sym, ap, subst, ◌∙◌, if◌then◌else◌, nat_lt, length}
use Rattle.std.specs.List.{list_all}
use Rattle.std.proofs.lemmas.List.{append_assoc, append-nil}
use Rattle.sparql_read.specs.Tokens.{Token, Word, Mark, IriRef, Variable, LeftBrace, RightBrace, Dot, Prefix, Select, Distinct, Ask, Where, Union}
use Rattle.sparql_read.specs.Grammar.{Path, Pattern, IsPath, IsTriple, triple, IsTriples, one_triple, dotted, more_triples, IsGroup, group, IsGroups, one_group, more_groups, IsBody, triples, groups}
use Rattle.sparql_read.specs.Grammar.{Asked, variables_then, heads_then, brace_then, IsText}
use Rattle.sparql_read.specs.PathMachine as path
use Rattle.sparql_read.specs.PathMachine.{Mode, Frame, Reading, reading}
use Rattle.sparql_read.specs.TextMachine.{Part, Place, AtForm, AtDistinct, AtHead, AtHeads, AtWhere, AtBrace, AtBody, AtSubject, InPath, BehindTriple, BehindDot, BehindGroup, AtGroup, AtEnd}
use Rattle.sparql_read.specs.TextMachine.{part, with_patterns, pattern, closed, at_form, at_distinct, at_head, at_heads, at_where, at_brace, at_body, at_subject, at_object, in_path}
use Rattle.sparql_read.specs.TextMachine.{behind_triple, behind_dot, behind_group, at_group, step, go_on, finish, run, checked}
use Rattle.sparql_read.specs.Text.{has_mark, heads_most}
use Rattle.sparql_read.proofs.PathSound.{reading_good, GoodReading}
use Rattle.sparql_read.proofs.TextComplete.{with_more}

abbrev asked_of : List (List ℕ) → List (List Pattern) → Asked
asked_of heads gs = record { heads = heads; groups = gs }

-- { UNION Group } "}"
abbrev MoreGroups : List Token → List (List Pattern) → Type 0
MoreGroups ts gs = ((gs ≡ []) × (ts ≡ RightBrace ∷ [])) ⊎ ((us : List Token) × (ts ≡ Word Union ∷ us) × IsGroups us gs (RightBrace ∷ []))

-- behind the brace of a group
abbrev SaysClosed : Place → List Token → Asked → Type 0
SaysClosed (AtEnd heads gs) ts q = (ts ≡ []) × (q ≡ asked_of heads gs)
SaysClosed (BehindGroup heads gs) ts q = (hs : List (List Pattern)) × MoreGroups ts hs × (q ≡ asked_of heads (gs ++ hs))
SaysClosed _ ts q = ⊥

-- behind a dot: triples, or the end of the group
abbrev MoreDot : List Token → List Pattern → List Token → Type 0
MoreDot ts ps end = ((ps ≡ []) × (ts ≡ end)) ⊎ IsTriples ts ps end

-- behind a triple
abbrev MoreTriples : List Token → List Pattern → List Token → Type 0
MoreTriples ts ps end = ((ps ≡ []) × (ts ≡ end)) ⊎ ((us : List Token) × (ts ≡ Dot ∷ us) × MoreDot us ps end)

abbrev SaysGroup : (List Token → List Pattern → List Token → Type 0) → Part → List Token → Asked → Type 0
SaysGroup More o ts q = (ps : List Pattern) × (rest : List Token) × More ts ps (RightBrace ∷ rest) × SaysClosed (closed (with_patterns o ps)) rest q

abbrev SaysBody : List (List ℕ) → List Token → Asked → Type 0
SaysBody heads ts q = (gs : List (List Pattern)) × IsBody ts gs (RightBrace ∷ []) × (q ≡ asked_of heads gs)

-- what tokens say from a place on
abbrev Says : Place → List Token → Asked → Type 0
Says AtForm ts q = (heads : List (List ℕ)) × (w : Bool) × (us : List Token) × (ts ≡ heads_then heads (brace_then w us)) × SaysBody heads us q
Says AtDistinct ts q =
    (x : List ℕ) × (xs : List (List ℕ)) × (w : Bool) × (us : List Token)
    × (ts ≡ Word Distinct ∷ Variable x ∷ variables_then xs (brace_then w us)) × SaysBody (x ∷ xs) us q
Says AtHead ts q =
    (x : List ℕ) × (xs : List (List ℕ)) × (w : Bool) × (us : List Token)
    × (ts ≡ Variable x ∷ variables_then xs (brace_then w us)) × SaysBody (x ∷ xs) us q
Says (AtHeads heads) ts q =
    (xs : List (List ℕ)) × (w : Bool) × (us : List Token) × (ts ≡ variables_then xs (brace_then w us)) × SaysBody (heads ++ xs) us q
Says AtWhere ts q = (w : Bool) × (us : List Token) × (ts ≡ brace_then w us) × SaysBody [] us q
Says (AtBrace heads) ts q = (us : List Token) × (ts ≡ LeftBrace ∷ us) × SaysBody heads us q
Says (AtBody heads) ts q = SaysBody heads ts q
Says (AtSubject o) ts q = SaysGroup IsTriples o ts q
Says (InPath o s m fs f) ts q =
    (p : Path) × (x : List ℕ) × (rest : List Token) × (path.run ts m fs f ≡ Some (p, Variable x ∷ rest))
    × SaysGroup MoreTriples (with_patterns o (pattern s p x ∷ [])) rest q
Says (BehindTriple o) ts q = SaysGroup MoreTriples o ts q
Says (BehindDot o) ts q = SaysGroup MoreDot o ts q
Says (BehindGroup heads gs) ts q = SaysClosed (BehindGroup heads gs) ts q
Says (AtGroup heads gs) ts q = (hs : List (List Pattern)) × IsGroups ts hs (RightBrace ∷ []) × (q ≡ asked_of heads (gs ++ hs))
Says (AtEnd heads gs) ts q = SaysClosed (AtEnd heads gs) ts q

none_some : (q : Asked) → ◌≡◌ {A = Option Asked} None (Some q) → ⊥
none_some q e = cc

some_asked : (p q : Asked) → ◌≡◌ {A = Option Asked} (Some p) (Some q) → q ≡ p
some_asked p q e = cc

-- what is read from any place on is what tokens say there
abbrev More : List Token → Asked → Type 0
More ts q = (place : Place) → run ts place ≡ Some q → Says place ts q

form_says : (t : Token) (ts : List Token) (q : Asked) → go_on (at_form t) (run ts) ≡ Some q → More ts q → Says AtForm (t ∷ ts) q
form_says (Word Ask) ts q e more = let x = more AtWhere e in ([], x.0, x.1, ap (λ (us : List Token). Word Ask ∷ us) x.2, x.3)
form_says (Word Select) ts q e more =
    let x = more AtDistinct e in
    (x.0 ∷ x.1, x.2, x.3, ap (λ (us : List Token). Word Select ∷ us) x.4, x.5)
form_says _ ts q e more = absurd (none_some q e)

distinct_says : (t : Token) (ts : List Token) (q : Asked) → go_on (at_distinct t) (run ts) ≡ Some q → More ts q → Says AtDistinct (t ∷ ts) q
distinct_says (Word Distinct) ts q e more =
    let x = more AtHead e in
    (x.0, x.1, x.2, x.3, ap (λ (us : List Token). Word Distinct ∷ us) x.4, x.5)
distinct_says _ ts q e more = absurd (none_some q e)

head_says : (t : Token) (ts : List Token) (q : Asked) → go_on (at_head t) (run ts) ≡ Some q → More ts q → Says AtHead (t ∷ ts) q
head_says (Variable y) ts q e more =
    let x = more (AtHeads (y ∷ [])) e in
    (y, x.0, x.1, x.2, ap (λ (us : List Token). Variable y ∷ us) x.3, x.4)
head_says _ ts q e more = absurd (none_some q e)

one_more_head : (b : Bool) (heads : List (List ℕ)) (y : List ℕ) (ts : List Token) (q : Asked)
    → go_on (if b then Some (AtHeads (heads ++ y ∷ [])) else None) (run ts) ≡ Some q → More ts q → Says (AtHeads (heads ++ y ∷ [])) ts q
one_more_head true heads y ts q e more = more (AtHeads (heads ++ y ∷ [])) e
one_more_head false heads y ts q e more = absurd (none_some q e)

heads_say : (heads : List (List ℕ)) (t : Token) (ts : List Token) (q : Asked) → go_on (at_heads heads t) (run ts) ≡ Some q → More ts q
    → Says (AtHeads heads) (t ∷ ts) q
heads_say heads (Variable y) ts q e more =
    let x = one_more_head (nat_lt (length heads) heads_most) heads y ts q e more in (
      y ∷ x.0,
      x.1,
      x.2,
      ap (λ (us : List Token). Variable y ∷ us) x.3,
      subst (λ (hs : List (List ℕ)). SaysBody hs x.2 q) (append_assoc heads (y ∷ []) x.0) x.4,
    )
heads_say heads (Word Where) ts q e more =
    let x = more (AtBrace heads) e in
    ([], true, x.0, ap (λ (us : List Token). Word Where ∷ us) x.1, subst (λ (hs : List (List ℕ)). SaysBody hs x.0 q) (sym (append-nil heads)) x.2)
heads_say heads LeftBrace ts q e more =
    let x = more (AtBody heads) e in
    ([], false, ts, refl, subst (λ (hs : List (List ℕ)). SaysBody hs ts q) (sym (append-nil heads)) x)
heads_say heads _ ts q e more = absurd (none_some q e)

where_says : (t : Token) (ts : List Token) (q : Asked) → go_on (at_where t) (run ts) ≡ Some q → More ts q → Says AtWhere (t ∷ ts) q
where_says (Word Where) ts q e more = let x = more (AtBrace []) e in (true, x.0, ap (λ (us : List Token). Word Where ∷ us) x.1, x.2)
where_says LeftBrace ts q e more = (false, ts, refl, more (AtBody []) e)
where_says _ ts q e more = absurd (none_some q e)

brace_says : (heads : List (List ℕ)) (t : Token) (ts : List Token) (q : Asked) → go_on (at_brace heads t) (run ts) ≡ Some q → More ts q
    → Says (AtBrace heads) (t ∷ ts) q
brace_says heads LeftBrace ts q e more = (ts, refl, more (AtBody heads) e)
brace_says heads _ ts q e more = absurd (none_some q e)

closed_says : (b : Bool) (heads : List (List ℕ)) (gs : List (List Pattern)) (ts : List Token) (q : Asked)
    → Says (if b then BehindGroup heads gs else AtEnd heads gs) ts q → SaysClosed (if b then BehindGroup heads gs else AtEnd heads gs) ts q
closed_says true heads gs ts q s = s
closed_says false heads gs ts q s = s

with_none : (o : Part) → with_patterns o [] ≡ o
with_none o = ap (λ (qs : List Pattern). record { heads = o.heads; groups = o.groups; patterns = qs; braced = o.braced }) (append-nil o.patterns)

-- at the brace that ends a group
close_says : (o : Part) (ts : List Token) (q : Asked) → run ts (closed o) ≡ Some q → More ts q → SaysClosed (closed (with_patterns o [])) ts q
close_says o ts q e more =
    subst (λ (x : Part). SaysClosed (closed x) ts q) (sym (with_none o))
    (closed_says o.braced o.heads (o.groups ++ o.patterns ∷ []) ts q (more (closed o) e))

path_good : (ts : List Token) (r : Reading) (p : Path) (rest : List Token) → GoodReading ts r → r ≡ Some (p, rest) → IsPath ts p rest
path_good ts r p rest good e = (subst (GoodReading ts) e good).1

triples_from : {ts : List Token} {p : Pattern} {rest : List Token} → IsTriple ts p rest → (ps : List Pattern) (end : List Token) → MoreTriples rest ps end
    → IsTriples ts (p ∷ ps) end
triples_from {ts = ts} {p = p} d ps end more = elim more [
  | inl last ↦ subst (λ (qs : List Pattern). IsTriples ts (p ∷ qs) end) (sym last.0) (one_triple (subst (IsTriple ts p) last.1 d))
  | inr dot ↦ (
      let next : IsTriple ts p (Dot ∷ dot.0) = subst (IsTriple ts p) dot.1 d in
      elim dot.2 [
        | inl last ↦ subst (λ (qs : List Pattern). IsTriples ts (p ∷ qs) end) (sym last.0)
            (dotted (subst (λ (us : List Token). IsTriple ts p (Dot ∷ us)) last.1 next))
        | inr ds ↦ more_triples next ds
      ]
      )
]

-- at the first variable of a triple
subject_says : (o : Part) (s : List ℕ) (ts : List Token) (q : Asked) → run ts (InPath o s path.Want [] path.empty) ≡ Some q → More ts q
    → SaysGroup IsTriples o (Variable s ∷ ts) q
subject_says o s ts q e more =
    let x = more (InPath o s path.Want [] path.empty) e in
    let d = path_good ts (reading ts) x.0 (Variable x.1 ∷ x.2) (reading_good ts) x.3 in
    let y = x.4 in (
      pattern s x.0 x.1 ∷ y.0,
      y.1,
      triples_from (triple d) y.0 (RightBrace ∷ y.1) y.2,
      subst (λ (p : Part). SaysClosed (closed p) y.1 q) (with_more o (pattern s x.0 x.1) y.0) y.3,
    )

groups_from : {ts : List Token} {ps : List Pattern} {rest : List Token} → IsGroup ts ps rest → (gs : List (List Pattern)) → MoreGroups rest gs
    → IsGroups ts (ps ∷ gs) (RightBrace ∷ [])
groups_from {ts = ts} {ps = ps} d gs more = elim more [
  | inl last ↦ subst (λ (hs : List (List Pattern)). IsGroups ts (ps ∷ hs) (RightBrace ∷ [])) (sym last.0) (one_group (subst (IsGroup ts ps) last.1 d))
  | inr next ↦ more_groups (subst (IsGroup ts ps) next.1 d) next.2
]

body_says : (heads : List (List ℕ)) (t : Token) (ts : List Token) (q : Asked) → go_on (at_body heads t) (run ts) ≡ Some q → More ts q
    → Says (AtBody heads) (t ∷ ts) q
body_says heads (Variable s) ts q e more =
    let x = subject_says (part heads [] false) s ts q e more in
    (x.0 ∷ [], triples (subst (λ (us : List Token). IsTriples (Variable s ∷ ts) x.0 (RightBrace ∷ us)) x.3.0 x.2), x.3.1)
body_says heads LeftBrace ts q e more =
    let x = more (AtSubject (part heads [] true)) e in
    (x.0 ∷ x.3.0, groups (groups_from (group x.2) x.3.0 x.3.1), x.3.2)
body_says heads _ ts q e more = absurd (none_some q e)

subjects_say : (o : Part) (t : Token) (ts : List Token) (q : Asked) → go_on (at_subject o t) (run ts) ≡ Some q → More ts q
    → Says (AtSubject o) (t ∷ ts) q
subjects_say o (Variable s) ts q e more = subject_says o s ts q e more
subjects_say o _ ts q e more = absurd (none_some q e)

object_says : (o : Part) (s : List ℕ) (p : Path) (t : Token) (ts : List Token) (q : Asked) → go_on (at_object o s p t) (run ts) ≡ Some q → More ts q
    → (r : Path) × (x : List ℕ) × (rest : List Token) × (◌≡◌ {A = Reading} (Some (p, t ∷ ts)) (Some (r, Variable x ∷ rest)))
    × SaysGroup MoreTriples (with_patterns o (pattern s r x ∷ [])) rest q
object_says o s p (Variable x) ts q e more = (p, x, ts, refl, more (BehindTriple (with_patterns o (pattern s p x ∷ []))) e)
object_says o s p _ ts q e more = absurd (none_some q e)

in_path_says : (o : Part) (s : List ℕ) (n : path.Next) (t : Token) (ts : List Token) (q : Asked) → go_on (in_path o s n t) (run ts) ≡ Some q → More ts q
    → (r : Path) × (x : List ℕ) × (rest : List Token) × (path.go_on n (path.run ts) (t ∷ ts) ≡ Some (r, Variable x ∷ rest))
    × SaysGroup MoreTriples (with_patterns o (pattern s r x ∷ [])) rest q
in_path_says o s (path.Go m fs f) t ts q e more = more (InPath o s m fs f) e
in_path_says o s (path.Stop p) t ts q e more = object_says o s p t ts q e more
in_path_says o s path.Fail t ts q e more = absurd (none_some q e)

triple_says : (o : Part) (t : Token) (ts : List Token) (q : Asked) → go_on (behind_triple o t) (run ts) ≡ Some q → More ts q
    → Says (BehindTriple o) (t ∷ ts) q
triple_says o Dot ts q e more = let x = more (BehindDot o) e in (x.0, x.1, inr (ts, refl, x.2), x.3)
triple_says o RightBrace ts q e more = ([], ts, inl (refl, refl), close_says o ts q e more)
triple_says o _ ts q e more = absurd (none_some q e)

dot_says : (o : Part) (t : Token) (ts : List Token) (q : Asked) → go_on (behind_dot o t) (run ts) ≡ Some q → More ts q
    → Says (BehindDot o) (t ∷ ts) q
dot_says o (Variable s) ts q e more = let x = subject_says o s ts q e more in (x.0, x.1, inr x.2, x.3)
dot_says o RightBrace ts q e more = ([], ts, inl (refl, refl), close_says o ts q e more)
dot_says o _ ts q e more = absurd (none_some q e)

group_says : (heads : List (List ℕ)) (gs : List (List Pattern)) (t : Token) (ts : List Token) (q : Asked)
    → go_on (behind_group heads gs t) (run ts) ≡ Some q → More ts q → Says (BehindGroup heads gs) (t ∷ ts) q
group_says heads gs (Word Union) ts q e more = let x = more (AtGroup heads gs) e in (x.0, inr (ts, refl, x.1), x.2)
group_says heads gs RightBrace ts q e more =
    let x = more (AtEnd heads gs) e in
    ([], inl (refl, ap (λ (us : List Token). RightBrace ∷ us) x.0), x.1 ∙ ap (asked_of heads) (sym (append-nil gs)))
group_says heads gs _ ts q e more = absurd (none_some q e)

next_group_says : (heads : List (List ℕ)) (gs : List (List Pattern)) (t : Token) (ts : List Token) (q : Asked)
    → go_on (at_group heads gs t) (run ts) ≡ Some q → More ts q → Says (AtGroup heads gs) (t ∷ ts) q
next_group_says heads gs LeftBrace ts q e more =
    let x = more (AtSubject (part heads gs true)) e in
    (x.0 ∷ x.3.0, groups_from (group x.2) x.3.0 x.3.1, x.3.2 ∙ ap (asked_of heads) (append_assoc gs (x.0 ∷ []) x.3.0))
next_group_says heads gs _ ts q e more = absurd (none_some q e)

step_says : (place : Place) (t : Token) (ts : List Token) (q : Asked) → go_on (step place t) (run ts) ≡ Some q → More ts q → Says place (t ∷ ts) q
step_says AtForm t ts q e more = form_says t ts q e more
step_says AtDistinct t ts q e more = distinct_says t ts q e more
step_says AtHead t ts q e more = head_says t ts q e more
step_says (AtHeads heads) t ts q e more = heads_say heads t ts q e more
step_says AtWhere t ts q e more = where_says t ts q e more
step_says (AtBrace heads) t ts q e more = brace_says heads t ts q e more
step_says (AtBody heads) t ts q e more = body_says heads t ts q e more
step_says (AtSubject o) t ts q e more = subjects_say o t ts q e more
step_says (InPath o s m fs f) t ts q e more = in_path_says o s (path.step m fs f t) t ts q e more
step_says (BehindTriple o) t ts q e more = triple_says o t ts q e more
step_says (BehindDot o) t ts q e more = dot_says o t ts q e more
step_says (BehindGroup heads gs) t ts q e more = group_says heads gs t ts q e more
step_says (AtGroup heads gs) t ts q e more = next_group_says heads gs t ts q e more
step_says (AtEnd heads gs) t ts q e more = absurd (none_some q e)

end_says : (place : Place) (q : Asked) → finish place ≡ Some q → Says place [] q
end_says (AtEnd heads gs) q e = (refl, some_asked (asked_of heads gs) q e)
end_says _ q e = absurd (none_some q e)

run_says : (ts : List Token) (q : Asked) → More ts q
run_says [] q place e = end_says place q e
run_says (t ∷ ts) q place e = step_says place t ts q e (run_says ts q)

-- tokens that the machine reads are a text, behind a declaration
pub run_is_text : (mark iri : List ℕ) (ts : List Token) (q : Asked) → run ts AtForm ≡ Some q → IsText (Word Prefix ∷ Mark mark ∷ IriRef iri ∷ ts) mark q
run_is_text mark iri ts q e =
    let x = run_says ts q AtForm e in
    let heads : x.0 ≡ q.heads = ap (λ (r : Asked). r.heads) (sym x.4.2) in
    let gs : x.4.0 ≡ q.groups = ap (λ (r : Asked). r.groups) (sym x.4.2) in
    record {
      iri = iri;
      has_where = x.1;
      body = x.2;
      is = ap (λ (us : List Token). Word Prefix ∷ Mark mark ∷ IriRef iri ∷ us) (subst (λ (hs : List (List ℕ)). ts ≡ heads_then hs (brace_then x.1 x.2)) heads x.3);
      body_is = subst (λ (hs : List (List Pattern)). IsBody x.2 hs (RightBrace ∷ [])) gs x.4.1;
    }

and_true : (a b : Bool) → a ≡ true → b ≡ true → (a && b) ≡ true
and_true a b p q = cc

-- a read text has the mark everywhere
abbrev Marked : List ℕ → List Token → Asked → Type 0
Marked mark ts q = (place : Place) → checked mark ts place ≡ Some q → (list_all (has_mark mark) ts ≡ true) × (run ts place ≡ Some q)

checked_go : (mark : List ℕ) (ts : List Token) (q : Asked) → Marked mark ts q → (n : Option Place) → go_on n (checked mark ts) ≡ Some q
    → (list_all (has_mark mark) ts ≡ true) × (go_on n (run ts) ≡ Some q)
checked_go mark ts q more None e = absurd (none_some q e)
checked_go mark ts q more (Some next) e = more next e

checked_if : (mark : List ℕ) (ts : List Token) (q : Asked) → Marked mark ts q → (n : Option Place) (b : Bool)
    → (if b then go_on n (checked mark ts) else None) ≡ Some q
    → ((b && list_all (has_mark mark) ts) ≡ true) × (go_on n (run ts) ≡ Some q)
checked_if mark ts q more n true e = checked_go mark ts q more n e
checked_if mark ts q more n false e = absurd (none_some q e)

-- what is read with the check has the mark everywhere
pub checked_says : (mark : List ℕ) (ts : List Token) (q : Asked) → Marked mark ts q
checked_says mark [] q place e = (refl, e)
checked_says mark (t ∷ ts) q place e = checked_if mark ts q (checked_says mark ts q) (step place t) (has_mark mark t) e
