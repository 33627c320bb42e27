-- What the reader does with a line is what the rules say of it.
use Rattle.std.proofs.Common.{◌≡◌, ℕ, Bool, true, false, not, if◌then◌else◌, Option, Some, None, is_some, Result, Ok, Err, IfOk, refl, sym, ap, ◌∙◌}
use Rattle.workload_text.specs.declared.sorts.Sort.{Sort}
use Rattle.workload_text.specs.declared.state.Reading.{Reading}
use Rattle.gm_text.specs.Lines.{words_of}
use Rattle.workload_text.specs.Lines.{WorkLine}
use Rattle.workload_text.specs.Forms.{first_word, rest_of, line_of_sort}
use Rattle.workload_text.specs.Sofar.{Sofar}
use Rattle.workload_text.specs.Rules.{TextLine, sort_of_line, said, follows, of_said, in_limits, has_chains, has_same_ends, has_returning_words, broken, broken_by_line, after_said, rule_1, rule_2, rule_3, rule_9}
use Rattle.workload_text.specs.State.{IsAccepted}
use Rattle.workload_text.specs.Reader.{may_close, broken_early, IsTaken}

-- where none of the first rules is broken, they hold
early_hold : (a b c d : Bool)
    → ◌≡◌ {A = Option ℕ} (if not a then Some 9 else (if not b then Some 1 else (if not c then Some 2 else (if not d then Some 3 else None)))) None
    → (a ≡ true) × (b ≡ true) × (c ≡ true) × (d ≡ true)
early_hold false b c d none = absurd (cc)
early_hold true false c d none = absurd (cc)
early_hold true true false d none = absurd (cc)
early_hold true true true false none = absurd (cc)
early_hold true true true true none = (refl, refl, refl, refl)

module _ (s : Sofar) (line : TextLine) (none : broken_early s line ≡ None) where
  hold : (rule_9 s line ≡ true) × (rule_1 s line ≡ true) × (rule_2 s line ≡ true) × (rule_3 s line ≡ true)
  hold = early_hold (rule_9 s line) (rule_1 s line) (rule_2 s line) (rule_3 s line) none

  -- the line may stand here
  pub stands : (sort : Sort) → sort_of_line line ≡ Some sort → follows s.last sort ≡ true
  stands sort is = rw is at hold.2

  -- and the rule may end before it
  pub closes : (sort : Sort) → sort_of_line line ≡ Some sort → may_close s sort ≡ true
  closes sort is = rw is at hold.3

  late : (a b c d : Bool) (o : Option WorkLine) (l : WorkLine) → a ≡ true → b ≡ true → c ≡ true → d ≡ true → o ≡ Some l
      → (if not a then Some 9 else (if not b then Some 1 else (if not c then Some 2 else (if not d then Some 3 else (if not (is_some o) then Some 4
      else (if not (of_said in_limits s o) then Some 5 else (if not (of_said has_chains s o) then Some 6
      else (if not (of_said has_same_ends s o) then Some 7 else (if not (of_said has_returning_words s o) then Some 8 else None))))))))) ≡ broken_by_line s l
  late a b c d o l p q r t is = rw (p, q, r, t, is) refl

  -- the least rule that it breaks is then one of those on what it says
  pub broken_late : (l : WorkLine) → said s line ≡ Some l → broken s line ≡ broken_by_line s l
  broken_late l is = late (rule_9 s line) (rule_1 s line) (rule_2 s line) (rule_3 s line) (said s line) l hold.0 hold.1 hold.2 hold.3 is

  -- what is done with what it says is done with the line
  pub taken_line : (l : WorkLine) (rule : Option ℕ) (new : Reading) → said s line ≡ Some l → IsAccepted s l rule new → IsTaken s line rule new
  taken_line l rule new is done = record {
    broken = done.broken ∙ sym (broken_late l is);
    usable = done.usable;
    value = λ e. done.value e ∙ sym (ap (after_said s) is);
  }

  pub taken_result : {E : Type 0} (r : Result (Option ℕ) E) (l : WorkLine) (new : Reading) → said s line ≡ Some l
      → IfOk r (λ rule. IsAccepted s l rule new) → IfOk r (λ rule. IsTaken s line rule new)
  taken_result (Ok rule) l new is done = taken_line l rule new is done
  taken_result (Err e) l new is done = done

-- what a line of a sort says
pub said_is : (s : Sofar) (line : TextLine) (sort : Sort) (o : Option WorkLine) → sort_of_line line ≡ Some sort
    → o ≡ line_of_sort s.head.format sort (first_word line.0) (rest_of (words_of line.0)) → said s line ≡ o
said_is s line sort o first is = rw first (sym is)
