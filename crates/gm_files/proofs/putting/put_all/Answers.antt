use Rattle.std.proofs.Common.{rules, arith}
use Rattle.std.proofs.lemmas.Result.{err_from_is_err_and}
use Rattle.gm_files.proofs.Gains.{GainedPart-append, GainedPart-longer, GainedWhole-append, GainedWhole-longer}
use Rattle.gm_files.proofs.Splits.{files_of-split_at, all_calls-split}
use Rattle.gm_files.proofs.putting.put_all.Goals as goal

pub returns-in_err-put_file : goal.returns-in_err-put_file
returns-in_err-put_file g c =
    let before = c.loop-file.invariant in
    let at_fault = c.in_err-put_file.ensures in
    let p = err_from_is_err_and c.from_residual.result c.from_residual.ensures.1 in
    let split =
    files_of-split_at _ _ _ _ _ _ c.as_slice-files.ensures c.loop-file-test.true c.file-item.is c.as_str.ensures c.as_slice.ensures in
    record {
      gained = search rules;
      finished = search rules;
      calls = search rules;
      cause = search rules;
      part = rw (p.1, split) (GainedPart-longer _ _ _ _ (GainedPart-append _ _ _ _ _ before.gained at_fault.part));
      whole =
          rw (p.1, split)
          (λ finished. GainedWhole-longer _ _ _ _ (GainedWhole-append _ _ _ _ _ before.gained (at_fault.whole finished)));
      calls_within = omega (arith, before.calls, at_fault.calls_within, all_calls-split _ _ _ _ _ split);
    }
