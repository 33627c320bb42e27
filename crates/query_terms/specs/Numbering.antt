-- The terms of a query: which there are, in which order, and which is each conjunct's.
--   step_of labels s                    the step of a symbol
--   then_symbol, put_word               the terms of a word, put into terms
--   then_word, put_union                the terms of some words
--   starred star p                      the term of a conjunct, from that of its words
--   put_conjunct labels terms c         the terms of a conjunct
--   Numbered                            terms, and the numbers of the conjuncts' terms among them
--   numbered labels conjuncts           the terms of conjuncts, put into no terms
--   numbering labels rules              those of rules
use Rattle.std.specs.Prelude.{ℕ, Bool, true, false, List, [], ◌∷◌, ◌++◌, fold, slice_index}
use Rattle.sel_algebra.specs.declared.vocabulary.Symbol.{Symbol}
use Rattle.query_terms.specs.declared.terms.Term.{Term}
use Rattle.query_terms.specs.declared.terms.Term.TheVariants.{Step, Seq, Alt, Star}
use Rattle.query_terms.specs.Store.{Placed, put_of}
use Rattle.query_terms.specs.Values.{ConjunctValue, RuleValue, conjuncts_of}

-- along the label of the symbol's edge, or back on it
abbrev pub step_of : List ℕ → Symbol → Term
step_of labels s = Step (slice_index labels s.edge) s.back

-- the sequence of a term and a step that was put after it
abbrev pub in_sequence : ℕ → Placed → Placed
in_sequence before step = put_of step.terms (Seq before step.number)

-- a further symbol of a word: its step, and then the sequence of what there is so far and that step
abbrev pub then_symbol : List ℕ → Placed → Symbol → Placed
then_symbol labels p s = in_sequence p.number (put_of p.terms (step_of labels s))

-- a word: the step of its first symbol, and then its further symbols; no word is without a symbol
abbrev pub put_word : List ℕ → List Term → List Symbol → Placed
put_word labels terms [] = record { terms = terms; number = 0 }
put_word labels terms (s ∷ word) = fold (then_symbol labels) (put_of terms (step_of labels s)) word

-- the choice of a term and a word that was put after it
abbrev pub in_choice : ℕ → Placed → Placed
in_choice before word = put_of word.terms (Alt before word.number)

-- a further word of a conjunct: its terms, and then the choice of what there is so far and that word
abbrev pub then_word : List ℕ → Placed → List Symbol → Placed
then_word labels p word = in_choice p.number (put_word labels p.terms word)

-- the words of a conjunct: the first, and then the further ones; no conjunct is without a word
abbrev pub put_union : List ℕ → List Term → List (List Symbol) → Placed
put_union labels terms [] = record { terms = terms; number = 0 }
put_union labels terms (word ∷ words) = fold (then_word labels) (put_word labels terms word) words

-- where it is starred, last the repetition
abbrev pub starred : Bool → Placed → Placed
starred true p = put_of p.terms (Star p.number)
starred false p = p

-- a conjunct: its words, and then its repetition
abbrev pub put_conjunct : List ℕ → List Term → ConjunctValue → Placed
put_conjunct labels terms c = starred c.star (put_union labels terms c.words)

-- terms, and the number of each conjunct's term
pub record Numbered : Type 0 where
  pub terms : List Term
  pub numbers : List ℕ

-- one conjunct more has the number of its term
abbrev pub with_number : List ℕ → Placed → Numbered
with_number numbers p = record { terms = p.terms; numbers = numbers ++ p.number ∷ [] }

-- a further conjunct
abbrev pub then_conjunct : List ℕ → Numbered → ConjunctValue → Numbered
then_conjunct labels n c = with_number n.numbers (put_conjunct labels n.terms c)

-- conjuncts in order, where at first there is no term
abbrev pub numbered : List ℕ → List ConjunctValue → Numbered
numbered labels conjuncts = fold (then_conjunct labels) (record { terms = []; numbers = [] }) conjuncts

-- the conjuncts of rules in order
abbrev pub numbering : List ℕ → List RuleValue → Numbered
numbering labels rules = numbered labels (conjuncts_of rules)
