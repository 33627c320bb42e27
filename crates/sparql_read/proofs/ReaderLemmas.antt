-- A text read token by token.
use Rattle.std.proofs.Common.{◌≡◌, ◌≤◌, ◌<◌, ◌+◌, ◌&&◌, ℕ, Bool, true, false, if◌then◌else◌, Option, Some, None, List, [], ◌∷◌, ◌++◌, refl, sym, ap, subst, ◌∙◌, length, drop, get_or, arith, nat_le, Bor, MatchOption}
use Rattle.std.specs.List.{list_all}
use Rattle.std.proofs.lemmas.List.{append_assoc, append-nil, length-map, length-append}
use Rattle.token_text.specs.Tokens.{HasTokens, no_bytes, HasNoTokens}
use Rattle.token_text.proofs.TokenLemmas.{Lexed, lex_start, tokens_are_one}
use Rattle.sparql_read.specs.Tokens.{Token, Word, Mark, IriRef, Prefix, first}
use Rattle.sparql_read.specs.Grammar.{Asked, heads_then, brace_then}
use Rattle.sparql_read.specs.Layout.{Lists, laid_out, flat, entries, all_nodes}
use Rattle.sparql_read.specs.Text.{has_mark, are_different, holds, IsSparql, HasNoReading}
use Rattle.sparql_read.specs.TextMachine as spots
use Rattle.sparql_read.specs.TextMachine.{part, step, go_on, run, checked}
use Rattle.sparql_read.specs.Query.{AreWithin, texts}
use Rattle.sparql_read.specs.Places.{IsAt, StepIs, HasRoom, HasGrown}
use Rattle.sparql_read.specs.Reader.{head_mark, name_option, NoToken, HeadIs, NoHead, NoBody, BodyIs, PartsAsk, EndIs, Reading}
use Rattle.sparql_read.specs.declared.places.Parts.{Parts}
use Rattle.sparql_read.specs.declared.places.Place.{Place}
use Rattle.sparql_read.specs.declared.places.Place.TheVariants as places
use Rattle.sparql_read.proofs.CountLemmas.{text_few}
use Rattle.sparql_read.proofs.LayoutLemmas.{groups_within}
use Rattle.sparql_read.proofs.ScanLemmas.{lexed_then}
use Rattle.sparql_read.proofs.TextComplete.{text_runs, few_heads, checked_marked, and_both}
use Rattle.sparql_read.proofs.TextSound.{run_is_text, checked_says}

none_some : (q : Asked) → ◌≡◌ {A = Option Asked} None (Some q) → ⊥
none_some q e = cc

no_more : (ts : List Token) → HasTokens first [] ts → [] ≡ ts
no_more ts no_bytes = refl

nil_cons : (t : Token) (us : List Token) → ◌≡◌ {A = List Token} [] (t ∷ us) → ⊥
nil_cons t us e = cc

pub no_token_end : (bytes : List ℕ) → Lexed first bytes [] [] → NoToken bytes
no_token_end bytes l t us d = let x = l.forth (t ∷ us) d in nil_cons t us (no_more x.0 x.2 ∙ sym x.1)

pub no_token_other : (bytes : List ℕ) → HasNoTokens first bytes → NoToken bytes
no_token_other bytes none t us d = none (t ∷ us) d

-- three tokens at the front
three : (a b c d : List ℕ) (t u v : Token) → Lexed first a (t ∷ []) b → Lexed first b (u ∷ []) c → Lexed first c (v ∷ []) d
    → Lexed first a (t ∷ u ∷ v ∷ []) d
three a b c d t u v x y z = lexed_then a c d (t ∷ u ∷ []) (v ∷ []) (lexed_then a b c (t ∷ []) (u ∷ []) x y) z

heads_same : (t u : Token) (ts us : List Token) → t ∷ ts ≡ u ∷ us → (t ≡ u) × (ts ≡ us)
heads_same t u ts us e = (ap (λ (xs : List Token). get_or xs 0 t) e, ap (λ (xs : List Token). drop 1 xs) e)

pub no_first : (a : List ℕ) → NoToken a → NoHead a
no_first a none mark iri us d = none (Word Prefix) (Mark mark ∷ IriRef iri ∷ us) d

pub no_second : (a b : List ℕ) (t : Token) → Lexed first a (t ∷ []) b → NoToken b → NoHead a
no_second a b t x none mark iri us d =
    let y = x.forth (Word Prefix ∷ Mark mark ∷ IriRef iri ∷ us) d in
    let same = heads_same (Word Prefix) t (Mark mark ∷ IriRef iri ∷ us) y.0 y.1 in
    none (Mark mark) (IriRef iri ∷ us) (subst (HasTokens first b) (sym same.1) y.2)

pub no_third : (a b c : List ℕ) (t u : Token) → Lexed first a (t ∷ []) b → Lexed first b (u ∷ []) c → NoToken c → NoHead a
no_third a b c t u x y none mark iri us d =
    let z = (lexed_then a b c (t ∷ []) (u ∷ []) x y).forth (Word Prefix ∷ Mark mark ∷ IriRef iri ∷ us) d in
    none (IriRef iri) us (subst (HasTokens first c) (sym (ap (λ (xs : List Token). drop 2 xs) z.1)) z.2)

none_mark : (m : List ℕ) → ◌≡◌ {A = Option (List ℕ)} None (Some m) → ⊥
none_mark m e = cc

pub no_head : (a b c e : List ℕ) (t u v : Token) → Lexed first a (t ∷ []) b → Lexed first b (u ∷ []) c → Lexed first c (v ∷ []) e
    → None ≡ head_mark t u v → NoHead a
no_head a b c e t u v x y z none mark iri us d =
    let w = (three a b c e t u v x y z).forth (Word Prefix ∷ Mark mark ∷ IriRef iri ∷ us) d in
    let one : Word Prefix ≡ t = ap (λ (xs : List Token). get_or xs 0 t) w.1 in
    let two : Mark mark ≡ u = ap (λ (xs : List Token). get_or xs 1 t) w.1 in
    let last : IriRef iri ≡ v = ap (λ (xs : List Token). get_or xs 2 t) w.1 in
    none_mark mark (none ∙ sym (λ i. head_mark (one i) (two i) (last i)))

marks_three : (t u v : Token) (mark : List ℕ) → head_mark t u v ≡ Some mark
    → (iri : List ℕ) × (t ∷ u ∷ v ∷ [] ≡ Word Prefix ∷ Mark mark ∷ IriRef iri ∷ [])
marks_three (Word Prefix) (Mark m) (IriRef iri) mark e =
    let same : m ≡ mark = cc in
    (iri, ap (λ (n : List ℕ). Word Prefix ∷ Mark n ∷ IriRef iri ∷ []) same)
marks_three _ _ _ mark e = absurd (none_mark mark e)

pub head_is : (a b c d : List ℕ) (t u v : Token) (mark : List ℕ) → Lexed first a (t ∷ []) b → Lexed first b (u ∷ []) c → Lexed first c (v ∷ []) d
    → length b < length a → length c < length b → length d < length c → Some mark ≡ head_mark t u v → HeadIs a mark d
head_is a b c d t u v mark x y z e f g some =
    let m = marks_three t u v mark (sym some) in
    (m.0, subst (λ (ts : List Token). Lexed first a ts d) m.1 (three a b c d t u v x y z), omega (arith, e, f, g))

pub head_found : (a b c d : List ℕ) (t u v : Token) (r : Option (Bor (List ℕ))) → Lexed first a (t ∷ []) b × (length b < length a)
    → Lexed first b (u ∷ []) c × (length c < length b) → Lexed first c (v ∷ []) d × (length d < length c) → name_option r ≡ head_mark t u v
    → MatchOption r (NoHead a) (λ mark. HeadIs a mark.now d)
head_found a b c d t u v None x y z e = no_head a b c d t u v x.0 y.0 z.0 e
head_found a b c d t u v (Some mark) x y z e = head_is a b c d t u v mark.now x.0 y.0 z.0 x.1 y.1 z.1 e

pub reading_start : (mark text : List ℕ) (l : Parts) → length text ≤ 16777216 → IsAt l places.AtForm spots.AtForm
    → length l.paths.items + length l.patterns.items + length l.groups.items ≡ 0 → l.first ≡ 0 → Reading mark text text l places.AtForm
reading_start mark text l e at few zero = record {
  front = [];
  spot = spots.AtForm;
  lexed = lex_start first text;
  run = λ more. refl;
  here = at;
  paths = omega (arith, few, e);
  patterns = omega (arith, few, e);
  groups = omega (arith, few, e);
  first_within = omega (arith, zero);
  tokens = omega (arith, e);
}

pub reading_room : (mark text rest all : List ℕ) (l : Parts) (place : Place) → Reading mark text all l place → length rest < length all → HasRoom l
reading_room mark text rest all l place x e = record { paths = omega (arith, x.paths, e); patterns = omega (arith, x.patterns, e); first = x.first_within }

-- one token more
pub reading_more : (mark text all rest : List ℕ) (l k : Parts) (place next : Place) (t : Token) → Reading mark text all l place
    → Lexed first all (t ∷ []) rest → length rest < length all → has_mark mark t ≡ true
    → ((s : spots.Place) → IsAt l place s → StepIs k (Some next) (step s t)) → HasGrown l k → Reading mark text rest k next
reading_more mark text all rest l k place next t x lexed shorter marked steps grown =
    let y = steps x.spot x.here in
    record {
      front = x.front ++ t ∷ [];
      spot = y.0;
      lexed = lexed_then text all rest x.front (t ∷ []) x.lexed lexed;
      run = λ more.
          ap (λ (ts : List Token). checked mark ts spots.AtForm) (append_assoc x.front (t ∷ []) more)
          ∙ (x.run (t ∷ more)
          ∙ (ap (λ (b : Bool). if b then go_on (step x.spot t) (checked mark more) else None) marked ∙ ap (λ (n : Option spots.Place). go_on n (checked mark more)) y.1));
      here = y.2;
      paths = omega (arith, x.paths, shorter, grown.paths);
      patterns = omega (arith, x.patterns, shorter, grown.patterns);
      groups = omega (arith, x.groups, shorter, grown.groups);
      first_within = grown.first x.first_within;
      tokens = omega (arith, x.tokens, shorter, length-append x.front (t ∷ []));
    }

pub reading_unmarked : (mark text all rest : List ℕ) (l : Parts) (place : Place) (t : Token) → Reading mark text all l place
    → Lexed first all (t ∷ []) rest → has_mark mark t ≡ false → NoBody mark text
reading_unmarked mark text all rest l place t x lexed marked ts q d e =
    let y = x.lexed.forth ts d in
    let z = lexed.forth y.0 y.2 in
    none_some q (sym (ap (λ (b : Bool). if b then go_on (step x.spot t) (checked mark z.0) else None) marked)
    ∙ (sym (x.run (t ∷ z.0)) ∙ (ap (λ (us : List Token). checked mark (x.front ++ us) spots.AtForm) (sym z.1) ∙ (ap (λ (us : List Token). checked mark us spots.AtForm) (sym y.1) ∙ e))))

pub reading_stuck : (mark text all rest : List ℕ) (l k : Parts) (place : Place) (t : Token) → Reading mark text all l place
    → Lexed first all (t ∷ []) rest → ((s : spots.Place) → IsAt l place s → StepIs k None (step s t)) → NoBody mark text
reading_stuck mark text all rest l k place t x lexed steps ts q d e =
    let y = x.lexed.forth ts d in
    let z = lexed.forth y.0 y.2 in
    none_some q (sym (nothing (has_mark mark t) (checked mark z.0) (step x.spot t) (steps x.spot x.here))
    ∙ (sym (x.run (t ∷ z.0)) ∙ (ap (λ (us : List Token). checked mark (x.front ++ us) spots.AtForm) (sym z.1) ∙ (ap (λ (us : List Token). checked mark us spots.AtForm) (sym y.1) ∙ e))))
  where
    nothing : (b : Bool) (more : spots.Place → Option Asked) (n : Option spots.Place) → n ≡ None → (if b then go_on n more else None) ≡ None
    nothing true more n e = ap (λ (m : Option spots.Place). go_on m more) e
    nothing false more n e = refl

pub reading_other : (mark text all : List ℕ) (l : Parts) (place : Place) → Reading mark text all l place → HasNoTokens first all → NoBody mark text
reading_other mark text all l place x none ts q d e = let y = x.lexed.forth ts d in none y.0 y.2

-- the text ends: the tokens are those in front
end_tokens : (mark text all : List ℕ) (l : Parts) (place : Place) (x : Reading mark text all l place) → Lexed first all [] [] → HasTokens first text x.front
end_tokens mark text all l place x end =
    subst (HasTokens first text) (append-nil x.front) (x.lexed.back [] (end.back [] no_bytes))

pub reading_end : (mark text all : List ℕ) (l : Parts) (place : Place) (x : Reading mark text all l place) → Lexed first all [] [] → EndIs true l x.spot
    → BodyIs mark text l
reading_end mark text all l place x end e =
    let r = e.3 in
    record {
      tokens = x.front;
      asked = record { heads = e.0; groups = e.1 };
      cut = end_tokens mark text all l place x end;
      read = ap (λ (ts : List Token). checked mark ts spots.AtForm) (sym (append-nil x.front)) ∙ (x.run [] ∙ ap spots.finish e.2);
      lists = λ i. record {
        variables = r.is.heads i;
        groups = r.is.groups i;
        patterns = (r.is.patterns ∙ ap (entries 0) (append-nil (flat e.1))) i;
        paths = (r.is.nodes ∙ ap (all_nodes 0) (append-nil (flat e.1))) i;
      };
      all_occur = r.is.all_occur;
      few_groups = omega (arith, x.groups);
      few_patterns = omega (arith, x.patterns);
      few_tokens = omega (arith, x.tokens);
    }

pub reading_unended : (mark text all : List ℕ) (l : Parts) (place : Place) (x : Reading mark text all l place) → Lexed first all [] [] → EndIs false l x.spot
    → NoBody mark text
reading_unended mark text all l place x end e ts q d f =
    let one : x.front ≡ ts = tokens_are_one first text x.front ts (end_tokens mark text all l place x end) d in
    none_some q
    (sym e ∙ (sym (x.run []) ∙ (ap (λ (us : List Token). checked mark us spots.AtForm) (append-nil x.front ∙ one) ∙ f)))

-- the whole text
pub no_reading_head : (text : List ℕ) → NoHead text → HasNoReading text
no_reading_head text none q d = none d.mark d.text.iri _ (subst (HasTokens first text) d.text.is d.cut)

mark_same : (m n i j : List ℕ) (t u : Token) (ts us : List Token)
    → ◌≡◌ {A = List Token} (t ∷ Mark m ∷ IriRef i ∷ ts) (u ∷ Mark n ∷ IriRef j ∷ us) → m ≡ n
mark_same m n i j t u ts us e = cc

marked_behind : (mark : List ℕ) (a b c : Token) (ts : List Token) → has_mark mark a ≡ true → has_mark mark b ≡ true → has_mark mark c ≡ true
    → list_all (has_mark mark) (a ∷ b ∷ c ∷ ts) ≡ true → list_all (has_mark mark) ts ≡ true
marked_behind mark a b c ts p q r e =
    (and_both (has_mark mark c) (list_all (has_mark mark) ts)
    (and_both (has_mark mark b) (list_all (has_mark mark) (c ∷ ts)) (and_both (has_mark mark a) (list_all (has_mark mark) (b ∷ c ∷ ts)) e).1).1).1

-- behind the declaration
abbrev After : (text rest mark : List ℕ) → HeadIs text mark rest → (q : Asked) → IsSparql text q → Type 0
After text rest mark h q d = (ts : List Token) × HasTokens first rest ts × (checked mark ts spots.AtForm ≡ Some q)

after_head : (text rest mark : List ℕ) (h : HeadIs text mark rest) (q : Asked) (d : IsSparql text q) → After text rest mark h q d
after_head text rest mark h q d =
    let x = h.1.forth d.tokens d.cut in
    let all : Word Prefix ∷ Mark d.mark ∷ IriRef d.text.iri ∷ heads_then q.heads (brace_then d.text.has_where d.text.body) ≡ Word Prefix ∷ Mark mark ∷ IriRef h.0 ∷ x.0 = sym d.text.is ∙ x.1 in
    let behind : heads_then q.heads (brace_then d.text.has_where d.text.body) ≡ x.0 = ap (λ (us : List Token). drop 3 us) all in
    let same : d.mark ≡ mark = mark_same _ _ _ _ _ _ _ _ all in
    let marked : list_all (has_mark mark) x.0 ≡ true =
    (marked_behind mark (Word Prefix) (Mark mark) (IriRef h.0) x.0 refl refl refl (subst (λ (us : List Token). list_all (has_mark mark) us ≡ true) x.1 (subst (λ (m : List ℕ). list_all (has_mark m) d.tokens ≡ true) same d.marked))) in
    (x.0, x.2, checked_marked mark x.0 spots.AtForm marked ∙ (ap (λ (us : List Token). run us spots.AtForm) (sym behind) ∙ text_runs d.tokens d.mark q d.text (few_heads q d.holds)))

pub no_reading_body : (text rest mark : List ℕ) → HeadIs text mark rest → NoBody mark rest → HasNoReading text
no_reading_body text rest mark h none q d = let x = after_head text rest mark h q d in none x.0 q x.1 x.2

-- the one reading of what was read behind the declaration
only : (text rest mark : List ℕ) (l : Parts) (h : HeadIs text mark rest) (b : BodyIs mark rest l) (q : Asked) → IsSparql text q → b.asked ≡ q
only text rest mark l h b q d =
    let x = after_head text rest mark h q d in
    let ts : b.tokens ≡ x.0 = tokens_are_one first rest b.tokens x.0 b.cut x.1 in
    some_asked (sym b.read ∙ (ap (λ (us : List Token). checked mark us spots.AtForm) ts ∙ x.2))
  where
    some_asked : ◌≡◌ {A = Option Asked} (Some b.asked) (Some q) → b.asked ≡ q
    some_asked e = cc

pub no_reading_holds : (text rest mark : List ℕ) (l : Parts) → HeadIs text mark rest → (b : BodyIs mark rest l) → holds b.asked ≡ false → HasNoReading text
no_reading_holds text rest mark l h b bad q d =
    false_true (sym bad ∙ (ap holds (only text rest mark l h b q d) ∙ d.holds))
  where
    false_true : ◌≡◌ {A = Bool} false true → ⊥
    false_true e = cc

-- a list of paths is no longer than the list of tokens
few_paths : (v : Lists) (q : Asked) (t u w : Token) (ts : List Token) → v ≡ laid_out q → length (laid_out q).paths + 3 ≤ length (t ∷ u ∷ w ∷ ts)
    → length ts ≤ 16777216 → length v.paths ≤ 16777216
few_paths v q t u w ts e f g = subst (λ (x : Lists). length x.paths ≤ 16777216) (sym e) (omega (arith, f, g))

pub reading_is : (text rest mark : List ℕ) (l : Parts) → HeadIs text mark rest → (b : BodyIs mark rest l) → holds b.asked ≡ true → PartsAsk text l
reading_is text rest mark l h b good =
    let x = checked_says mark b.tokens b.asked spots.AtForm b.read in
    record {
      asked = b.asked;
      is = record {
        tokens = Word Prefix ∷ Mark mark ∷ IriRef h.0 ∷ b.tokens;
        mark = mark;
        cut = h.1.back b.tokens b.cut;
        text = run_is_text mark h.0 b.tokens b.asked x.1;
        marked = x.0;
        holds = good;
      };
      lists = b.lists;
      few = record {
        within = subst (λ (v : Lists). AreWithin (length v.patterns) v.groups) (sym b.lists) (groups_within b.asked.groups);
        variables = subst (λ (v : Lists). length v.variables ≤ 4) (sym b.lists) (few_heads b.asked good);
        groups = b.few_groups;
        patterns = rw length-map b.few_patterns;
        paths = few_paths _ b.asked (Word Prefix) (Mark mark) (IriRef h.0) b.tokens b.lists (text_few _ mark b.asked (run_is_text mark h.0 b.tokens b.asked x.1)) b.few_tokens;
      };
    }

pub holds_same : (mark rest : List ℕ) (l : Parts) (b : BodyIs mark rest l)
    → (nat_le (length (texts l.heads.items)) 4 && are_different (texts l.heads.items) && l.all_occur) ≡ holds b.asked
holds_same mark rest l b =
    let heads : texts l.heads.items ≡ b.asked.heads = ap (λ (x : Lists). x.variables) b.lists in
    λ i. nat_le (length (heads i)) 4 && are_different (heads i) && b.all_occur i
