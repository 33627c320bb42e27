use Rattle.std.proofs.Common.{◌∙◌, ap, length, refl, arith}
use Rattle.std.proofs.lemmas.Grind.{common_steps}
use Rattle.std.proofs.lemmas.List.{length_push}
use Rattle.sql_read.proofs.PartLemmas.{union_start, union_none, union_more, union_end}
use Rattle.sql_read.proofs.ListLemmas.{begins_push, begins_refl}
use Rattle.sql_read.proofs.parts.pass_union.Goals as goal

pub loop-select-init : goal.loop-select-init
loop-select-init c = record {
  first = grind (arith, common_steps);
  listing = union_start _ _;
  paid = (omega arith, omega arith);
  others = refl;
  longer = omega arith;
}

pub returns-in_default-clause-is : goal.returns-in_default-clause-is
returns-in_default-clause-is c = union_none _ _ _ _ c.loop-select.invariant.listing (rw c.in_default.is at c.in_ok-select.ensures.is)

pub returns-then-not-pass_mark-clause-is : goal.returns-then-not-pass_mark-clause-is
returns-then-not-pass_mark-clause-is c =
    let kept = c.if-not-pass_mark.ensures.kept refl in
    let same = c.in_ok-select.ensures.others.0 in
    let pushed = ap length c.in_ok-push.ensures.items ∙ length_push _ _ in
    rw kept (union_end _ _ _ _ _ _ _ _ _ c.loop-select.invariant.listing (rw c.in-Some.is at c.in_ok-select.ensures.is) same
    (record {
      columns = begins_refl _;
      froms = begins_refl _;
      equations = begins_refl _;
      names = begins_refl _;
      selects = begins_push _ _ _ c.in_ok-push.ensures.items;
      tables = begins_refl _;
    })
    c.in_ok-push.ensures.items c.loop-select.invariant.first
    (omega (arith, c.len.ensures, c.push.new.self.ok.0, pushed, ap length same, c.loop-select.invariant.first, c.loop-select.invariant.longer))
    (c.if-not-pass_mark.ensures.none refl))

pub loop-select-preserved : goal.loop-select-preserved
loop-select-preserved c =
    let same = c.in_ok-select.ensures.others.0 in
    let pushed = ap length c.in_ok-push.ensures.items ∙ length_push _ _ in
    let paid = rw c.in-Some.is at c.in_ok-select.ensures.paid in
    record {
      first = c.loop-select.invariant.first;
      listing =
          union_more _ _ _ _ _ _ _ _ _ c.loop-select.invariant.listing (rw c.in-Some.is at c.in_ok-select.ensures.is) same
          (record {
            columns = begins_refl _;
            froms = begins_refl _;
            equations = begins_refl _;
            names = begins_refl _;
            selects = begins_push _ _ _ c.in_ok-push.ensures.items;
            tables = begins_refl _;
          })
          c.in_ok-push.ensures.items (c.if-not-pass_mark.ensures.passed refl);
      paid = (
        omega (arith, pushed, c.loop-select.invariant.paid.0, paid.0, c.if-not-pass_mark.ensures.count),
        omega (arith, c.loop-select.invariant.paid.1, paid.1, c.if-not-pass_mark.ensures.count),
      );
      others = c.in_ok-select.ensures.others.1 ∙ c.loop-select.invariant.others;
      longer = omega (arith, pushed, ap length same, c.loop-select.invariant.longer);
    }
