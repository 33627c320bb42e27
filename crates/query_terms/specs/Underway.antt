-- The numbering in the middle of a query: the terms so far, and the terms of the word and the conjunct that are begun.
--   Underway                                    these
--   underway labels conjuncts words word        those of what was put in
--   with_step, with_choice, with_end            a step more, a word more, the conjunct's end
--   number_where xs n                           the number, where there is anything
use Rattle.std.specs.Prelude.{ℕ, Bool, List, [], ◌∷◌, Option, Some, None, IfSome, unwrap_or, ◌<◌, length}
use Rattle.sel_algebra.specs.declared.vocabulary.Symbol.{Symbol}
use Rattle.query_terms.specs.declared.terms.Term.{Term}
use Rattle.query_terms.specs.Store.{Placed, put_of}
use Rattle.query_terms.specs.Values.{ConjunctValue}
use Rattle.query_terms.specs.Numbering.{in_sequence, in_choice, put_word, put_union, starred, numbered}

-- the terms so far, and the numbers of the term of the word that is begun, and of the words of the conjunct
pub record Underway : Type 0 where
  pub terms : List Term
  pub word : Option ℕ
  pub union : Option ℕ

-- the number is known where the list has an item
abbrev pub number_where : {X : Type 0} → List X → ℕ → Option ℕ
number_where [] n = None
number_where (x ∷ xs) n = Some n

-- the numbering of ended words and of a word that is begun, after other terms
abbrev pub underway_from : List ℕ → List (List Symbol) → List Symbol → Placed → Underway
underway_from labels words word union = record {
  terms = (put_word labels union.terms word).terms;
  word = number_where word (put_word labels union.terms word).number;
  union = number_where words union.number;
}

-- the numbering of ended conjuncts, of the ended words of a conjunct and of a word that is begun
abbrev pub underway : List ℕ → List ConjunctValue → List (List Symbol) → List Symbol → Underway
underway labels conjuncts words word = underway_from labels words word (put_union labels (numbered labels conjuncts).terms words)

-- the first step alone, or the sequence of what there is and a further step
abbrev pub stepped : Option ℕ → Placed → Placed
stepped None step = step
stepped (Some before) step = in_sequence before step

-- the word has one step more
abbrev pub with_step : Underway → Term → Underway
with_step u step = record u {
  terms = (stepped u.word (put_of u.terms step)).terms;
  word = Some (stepped u.word (put_of u.terms step)).number;
}

-- the first word alone, or the choice of what there is and a further word
abbrev pub chosen : Option ℕ → Placed → Placed
chosen None word = word
chosen (Some before) word = in_choice before word

-- the terms so far, and the term of the word that is begun
abbrev pub ended_word : Underway → Placed
ended_word u = record { terms = u.terms; number = unwrap_or u.word 0 }

-- the word that was begun is one of the conjunct's
abbrev pub with_choice : Underway → Underway
with_choice u = record {
  terms = (chosen u.union (ended_word u)).terms;
  word = None;
  union = Some (chosen u.union (ended_word u)).number;
}

-- the terms so far, and the term of the conjunct's words, or of their repetition
abbrev pub closed : Bool → Underway → Placed
closed star u = starred star (record { terms = u.terms; number = unwrap_or u.union 0 })

-- the conjunct is ended
abbrev pub with_end : Bool → Underway → Underway
with_end star u = record { terms = (closed star u).terms; word = None; union = None }

-- the numbers are those of terms
pub record IsUnderway (u : Underway) : Type 0 where
  pub word : IfSome u.word (λ n. n < length u.terms)
  pub union : IfSome u.union (λ n. n < length u.terms)
