-- What the reader does with a line of a text.
--   may_close s sort             a line of this sort goes on with the conjuncts of the rule, or the rule may end before it
--   broken_early s line          the least of the rules F9, F1, F2 and F3 that a line breaks
--   IsTaken old line rule new    the line breaks this rule, or it is taken
use Rattle.std.specs.Prelude.{◌≡◌, ℕ, Bool, not, ◌||◌, if◌then◌else◌, Option, Some, None}
use Rattle.workload_text.specs.declared.sorts.Sort.{Sort}
use Rattle.workload_text.specs.declared.state.Reading.{Reading}
use Rattle.workload_text.specs.Sofar.{Sofar, after_conjunct}
use Rattle.workload_text.specs.Rules.{TextLine, heads_occur, rule_1, rule_2, rule_3, rule_9, broken, after_line}
use Rattle.workload_text.specs.State.{sofar_of, IsUsable}

-- the line goes on with the conjuncts of the rule, or the rule may end
abbrev pub may_close : Sofar → Sort → Bool
may_close s sort = not (after_conjunct s.last) || after_conjunct (Some sort) || heads_occur s

-- the least of the rules that are asked before what a line says
abbrev pub broken_early : Sofar → TextLine → Option ℕ
broken_early s line = if not (rule_9 s line) then Some 9
    else (if not (rule_1 s line) then Some 1
    else (if not (rule_2 s line) then Some 2
    else (if not (rule_3 s line) then Some 3
    else None)))

-- the line breaks this rule, or what it says was added
pub record IsTaken (old : Sofar) (line : TextLine) (rule : Option ℕ) (new : Reading) : Type 0 where
  pub broken : rule ≡ broken old line
  pub usable : rule ≡ None → IsUsable new
  pub value : rule ≡ None → sofar_of new ≡ after_line old line
