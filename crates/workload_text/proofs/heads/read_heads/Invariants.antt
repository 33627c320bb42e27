use Rattle.std.proofs.Common.{◌≡◌, ◌≤◌, ◌==◌, ◌++◌, true, nat_lt, length, take, drop}
use Rattle.std.specs.List.{list_all}
use Rattle.workload_text.specs.Forms.{is_variable}
use Rattle.workload_text.specs.Heads.{heads_of}
use Rattle.workload_text.proofs.heads.read_heads.Given as goal

-- the heads so far are small, and 0 stands after them
abbrev pub invariant-loop-word : goal.invariant-loop-word
invariant-loop-word l = record {
  whole : heads_of l.fn.words ≡ take l.heads.count l.heads.vars ++ heads_of l.words;
  four : length l.heads.vars ≡ 4;
  few : l.heads.count ≤ 4;
  small : list_all (λ v. nat_lt v 16) (take l.heads.count l.heads.vars) ≡ true;
  zeros : list_all (λ v. v == 0) (drop l.heads.count l.heads.vars) ≡ true;
  left : list_all is_variable l.words ≡ true;
}

abbrev pub decreases-loop-word : goal.decreases-loop-word
decreases-loop-word l = length l.words
