-- Lists of parts with a separator between each two, as they are read one by one and kept.
use Rattle.std.proofs.Common.{◌≡◌, ◌+◌, Bool, true, List, [], ◌∷◌, ◌++◌, map, take, drop, length, refl, sym, ap, subst, ◌∙◌, arith}
use Rattle.std.specs.Prelude.{⊤}
use Rattle.std.proofs.lemmas.List.{append_assoc, append-nil, map-append, length-append, take_at, drop_at}
use Rattle.std.specs.List.{list_all}
use Rattle.gm_text.specs.declared.lists.Span.{Span}
use Rattle.sql_read.specs.Tokens.{Token}
use Rattle.sql_read.specs.Grammar.{listed, some}
use Rattle.sql_read.specs.Absent.{NoPart, NoGood, NoList, any, always, good_list}
use Rattle.sql_read.specs.Kept.{Kept, cut, IsWithin, AllFit}
use Rattle.sql_read.specs.Parsed.{Begins, Extends, Parsed}
use Rattle.sql_read.proofs.GrammarLemmas.{and_both, and_left, and_right, AreOne, each, each_push, each_listed, each_none}

pub begins_refl : {A : Type 0} → (xs : List A) → Begins xs xs
begins_refl xs = ([], sym (append-nil xs))

pub begins_push : {A : Type 0} → (xs ys : List A) (x : A) → ys ≡ xs ++ x ∷ [] → Begins xs ys
begins_push xs ys x e = (x ∷ [], e)

begins_then : {A : Type 0} → (xs ys zs : List A) → Begins xs ys → Begins ys zs → Begins xs zs
begins_then xs ys zs a b = (a.0 ++ b.0, b.1 ∙ ap (λ (l : List _). l ++ b.0) a.1 ∙ append_assoc xs a.0 b.0)

pub extends_refl : (a : Kept) → Extends a a
extends_refl a = record {
  columns = begins_refl a.columns;
  froms = begins_refl a.froms;
  equations = begins_refl a.equations;
  names = begins_refl a.names;
  selects = begins_refl a.selects;
  tables = begins_refl a.tables;
}

pub extends_then : (a b c : Kept) → Extends a b → Extends b c → Extends a c
extends_then a b c x y = record {
  columns = begins_then a.columns b.columns c.columns x.columns y.columns;
  froms = begins_then a.froms b.froms c.froms x.froms y.froms;
  equations = begins_then a.equations b.equations c.equations x.equations y.equations;
  names = begins_then a.names b.names c.names x.names y.names;
  selects = begins_then a.selects b.selects c.selects x.selects y.selects;
  tables = begins_then a.tables b.tables c.tables x.tables y.tables;
}

-- a part of a list stays where the list grows behind it
cut_added : {A : Type 0} → (xs added all : List A) (span : Span) → Begins (xs ++ added) all → span.first ≡ length xs → span.count ≡ length added
    → cut all span ≡ added
cut_added xs added all span b first count =
    let whole : all ≡ xs ++ (added ++ b.0) = b.1 ∙ append_assoc xs added b.0 in
    ap (λ (l : List _). take span.count (drop span.first l)) whole ∙ ap (take span.count) (drop_at xs (added ++ b.0) span.first (sym first))
    ∙ take_at added b.0 span.count (sym count)

cut_within : {A : Type 0} → (xs added all : List A) (span : Span) → Begins (xs ++ added) all → span.first ≡ length xs → span.count ≡ length added
    → IsWithin all span
cut_within xs added all span b first count =
    omega (arith, first, count, ap length b.1 ∙ length-append (xs ++ added) b.0, length-append xs added)

all_fit_push : {A : Type 0} → (Fits : A → Type 0) (xs : List A) (x : A) → AllFit Fits xs → Fits x → AllFit Fits (xs ++ x ∷ [])
all_fit_push Fits [] x all fits = (fits, tt)
all_fit_push Fits (y ∷ ys) x all fits = (all.0, all_fit_push Fits ys x all.1 fits)

all_push : {A : Type 0} → (good : A → Bool) (xs : List A) (x : A) → list_all good xs ≡ true → good x ≡ true → list_all good (xs ++ x ∷ []) ≡ true
all_push good [] x all g = and_both (good x) true g refl
all_push good (y ∷ ys) x all g = and_both (good y) _ (and_left (good y) _ all) (all_push good ys x (and_right (good y) _ all) g)

some_push : {A : Type 0} → (xs : List A) (x : A) → some (xs ++ x ∷ []) ≡ true
some_push [] x = refl
some_push (y ∷ ys) x = refl

module _ {A C : Type 0} (part : A → List Token → List Token) (good : A → Bool) (clear : List Token → Bool) (separator : Token)
    (one : AreOne part good clear) (behind : (ts : List Token) → clear (separator ∷ ts) ≡ true)
    (view : C → Kept → A) (Fits : C → Kept → Type 0)
    (field : Kept → List C) (field_grows : (a b : Kept) → Extends a b → Begins (field a) (field b)) where
  -- so many parts were read, each with a separator behind it, and here the next is to stand
  pub record Listing (start now : Kept) (ts here : List Token) : Type 0 where
    pub added : List C
    pub values : List A
    pub kept : field now ≡ field start ++ added
    pub goods : list_all good values ≡ true
    pub says : ts ≡ each part good clear separator one behind values here
    pub grown : Extends start now
    pub shown : (later : Kept) → Extends now later → map (λ c. view c later) added ≡ values
    pub fits : (later : Kept) → Extends now later → AllFit (λ c. Fits c later) added

  pub listing_start : (start : Kept) (ts : List Token) → Listing start start ts ts
  listing_start start ts = record {
    added = [];
    values = [];
    kept = sym (append-nil (field start));
    goods = refl;
    says = refl;
    grown = extends_refl start;
    shown = λ later e. refl;
    fits = λ later e. tt;
  }

  -- one more is read and pushed
  record Read (start next : Kept) (ts rest : List Token) : Type 0 where
    added : List C
    before : List A
    value : A
    kept : field next ≡ field start ++ added
    goods : list_all good before ≡ true
    is_good : good value ≡ true
    says : ts ≡ each part good clear separator one behind before (part value rest)
    grown : Extends start next
    shown : (later : Kept) → Extends next later → map (λ c. view c later) added ≡ before ++ value ∷ []
    fits : (later : Kept) → Extends next later → AllFit (λ c. Fits c later) added

  read_one : (start now mid next : Kept) (ts here rest : List Token) (c : C) → Listing start now ts here
      → Parsed part good (view c) (Fits c) now mid here rest → field mid ≡ field now → Extends mid next → field next ≡ field mid ++ c ∷ []
      → Read start next ts rest
  read_one start now mid next ts here rest c l p same grows pushed =
      let whole = extends_then now mid next p.grown grows in
      record {
        added = l.added ++ c ∷ [];
        before = l.values;
        value = p.value;
        kept = pushed ∙ ap (λ (xs : List C). xs ++ c ∷ []) (same ∙ l.kept) ∙ append_assoc (field start) l.added (c ∷ []);
        goods = l.goods;
        is_good = p.is_good;
        says = l.says ∙ ap (each part good clear separator one behind l.values) p.says;
        grown = extends_then start now next l.grown whole;
        shown = λ later e.
            map-append (λ c. view c later) l.added (c ∷ [])
            ∙ (λ i. l.shown later (extends_then now next later whole e) i ++ p.shown later (extends_then mid next later grows e) i ∷ []);
        fits = λ later e.
            all_fit_push (λ c. Fits c later) l.added c (l.fits later (extends_then now next later whole e)) (p.fits later (extends_then mid next later grows e));
      }

  -- a separator follows
  pub listing_more : (start now mid next : Kept) (ts here rest more : List Token) (c : C) → Listing start now ts here
      → Parsed part good (view c) (Fits c) now mid here rest → field mid ≡ field now → Extends mid next → field next ≡ field mid ++ c ∷ []
      → rest ≡ separator ∷ more → Listing start next ts more
  listing_more start now mid next ts here rest more c l p same grows pushed follows =
      let r = read_one start now mid next ts here rest c l p same grows pushed in
      record {
        added = r.added;
        values = r.before ++ r.value ∷ [];
        kept = r.kept;
        goods = all_push good r.before r.value r.goods r.is_good;
        says = r.says ∙ ap (λ (x : List Token). each part good clear separator one behind r.before (part r.value x)) follows
            ∙ each_push part good clear separator one behind r.before r.value more;
        grown = r.grown;
        shown = r.shown;
        fits = r.fits;
      }

  -- the whole list is read, and a part of the kept list shows it
  pub listing_end : (start now mid next : Kept) (ts here rest : List Token) (c : C) (span : Span) → Listing start now ts here
      → Parsed part good (view c) (Fits c) now mid here rest → field mid ≡ field now → Extends mid next → field next ≡ field mid ++ c ∷ []
      → span.first ≡ length (field start) → span.first + span.count ≡ length (field next)
      → Parsed (listed part separator) (good_list good) (λ later. map (λ c. view c later) (cut (field later) span))
      (λ later. IsWithin (field later) span × AllFit (λ c. Fits c later) (cut (field later) span)) start next ts rest
  listing_end start now mid next ts here rest c span l p same grows pushed first count =
      let r = read_one start now mid next ts here rest c l p same grows pushed in
      let many : span.count ≡ length r.added = omega (arith, first, count, ap length r.kept ∙ length-append (field start) r.added) in
      let begins : (later : Kept) → Extends next later → Begins (field start ++ r.added) (field later) =
      λ later e. subst (λ xs. Begins xs (field later)) r.kept (field_grows next later e) in
      let is : (later : Kept) → Extends next later → cut (field later) span ≡ r.added =
      λ later e. cut_added (field start) r.added (field later) span (begins later e) first many in
      record {
        value = r.before ++ r.value ∷ [];
        is_good = and_both _ _ (some_push r.before r.value) (all_push good r.before r.value r.goods r.is_good);
        says = r.says ∙ each_listed part good clear separator one behind r.before r.value rest;
        grown = r.grown;
        shown = λ later e. ap (map (λ c. view c later)) (is later e) ∙ r.shown later e;
        fits = λ later e. (
          cut_within (field start) r.added (field later) span (begins later e) first many,
          subst (AllFit (λ c. Fits c later)) (sym (is later e)) (r.fits later e),
        );
      }

  -- the whole list is read, and the kept list shows it as long as it doesn't grow
  pub record Whole (next : Kept) (ts rest : List Token) : Type 0 where
    pub value : List A
    pub is_good : good_list good value ≡ true
    pub says : ts ≡ listed part separator value rest
    pub shown : (later : Kept) → Extends next later → field later ≡ field next → map (λ c. view c later) (field later) ≡ value
    pub fits : (later : Kept) → Extends next later → field later ≡ field next → AllFit (λ c. Fits c later) (field later)

  pub listing_whole : (start now mid next : Kept) (ts here rest : List Token) (c : C) → Listing start now ts here
      → Parsed part good (view c) (Fits c) now mid here rest → field mid ≡ field now → Extends mid next → field next ≡ field mid ++ c ∷ []
      → field start ≡ [] → Whole next ts rest
  listing_whole start now mid next ts here rest c l p same grows pushed empty =
      let r = read_one start now mid next ts here rest c l p same grows pushed in
      let is : field next ≡ r.added = r.kept ∙ ap (λ (xs : List C). xs ++ r.added) empty in
      record {
        value = r.before ++ r.value ∷ [];
        is_good = and_both _ _ (some_push r.before r.value) (all_push good r.before r.value r.goods r.is_good);
        says = r.says ∙ each_listed part good clear separator one behind r.before r.value rest;
        shown = λ later e stays. ap (map (λ c. view c later)) (stays ∙ is) ∙ r.shown later e;
        fits = λ later e stays. subst (AllFit (λ c. Fits c later)) (sym (stays ∙ is)) (r.fits later e);
      }

  -- no part stands here, so no list stands where the first was to
  pub listing_none : (start now : Kept) (ts here : List Token) → Listing start now ts here → NoGood part good clear here → NoList part good clear separator ts
  listing_none start now ts here l none =
      subst (NoList part good clear separator) (sym l.says) (each_none part good clear separator one behind l.values here l.goods none)

-- parts that are read without entries of other lists
module _ {A C : Type 0} (part : A → List Token → List Token) (separator : Token) (one : AreOne part any always) (view : C → A)
    (field : Kept → List C) (field_grows : (a b : Kept) → Extends a b → Begins (field a) (field b)) where
  abbrev pub LeafListing : Kept → Kept → List Token → List Token → Type 0
  LeafListing = Listing part any always separator one (λ ts. refl) (λ c k. view c) (λ c k. ⊤) field field_grows

  leaf : (now : Kept) (here rest : List Token) (c : C) → here ≡ part (view c) rest → Parsed part any (λ k. view c) (λ k. ⊤) now now here rest
  leaf now here rest c is = record {
    value = view c;
    is_good = refl;
    says = is;
    grown = extends_refl now;
    shown = λ later e. refl;
    fits = λ later e. tt;
  }

  pub leaf_start : (start : Kept) (ts : List Token) → LeafListing start start ts ts
  leaf_start start ts = listing_start part any always separator one (λ us. refl) (λ c k. view c) (λ c k. ⊤) field field_grows start ts

  pub leaf_more : (start now next : Kept) (ts here rest more : List Token) (c : C) → LeafListing start now ts here → here ≡ part (view c) rest
      → Extends now next → field next ≡ field now ++ c ∷ [] → rest ≡ separator ∷ more → LeafListing start next ts more
  leaf_more start now next ts here rest more c l is grows pushed follows =
      listing_more part any always separator one (λ us. refl) (λ c k. view c) (λ c k. ⊤) field field_grows start now now next ts here rest more c l
      (leaf now here rest c is) refl grows pushed follows

  pub leaf_end : (start now next : Kept) (ts here rest : List Token) (c : C) (span : Span) → LeafListing start now ts here → here ≡ part (view c) rest
      → Extends now next → field next ≡ field now ++ c ∷ [] → span.first ≡ length (field start) → span.first + span.count ≡ length (field next)
      → Parsed (listed part separator) (good_list any) (λ later. map view (cut (field later) span)) (λ later. IsWithin (field later) span) start next ts rest
  leaf_end start now next ts here rest c span l is grows pushed first count =
      let p = listing_end part any always separator one (λ us. refl) (λ c k. view c) (λ c k. ⊤) field field_grows start now now next ts here rest c span l
      (leaf now here rest c is) refl grows pushed first count in
      record {
        value = p.value;
        is_good = p.is_good;
        says = p.says;
        grown = p.grown;
        shown = p.shown;
        fits = λ later e. (p.fits later e).0;
      }

  pub leaf_none : (start now : Kept) (ts here : List Token) → LeafListing start now ts here → NoPart part here → NoList part any always separator ts
  leaf_none start now ts here l none =
      listing_none part any always separator one (λ us. refl) (λ c k. view c) (λ c k. ⊤) field field_grows start now ts here l (λ x us g k e. none x us e)
