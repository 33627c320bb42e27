use Rattle.std.proofs.Common.{◌∙◌, ap, length, refl, arith}
use Rattle.std.proofs.lemmas.Grind.{common_steps}
use Rattle.std.proofs.lemmas.List.{length_push}
use Rattle.sql_read.specs.declared.tokens.Mark.TheVariants.{Comma}
use Rattle.sql_read.specs.Tokens.{Fixed}
use Rattle.sql_read.specs.Grammar.{col_then}
use Rattle.sql_read.specs.View.{col_view}
use Rattle.sql_read.proofs.GrammarLemmas.{cols_are_one}
use Rattle.sql_read.proofs.ListLemmas.{leaf_start, leaf_more, leaf_end, leaf_none, begins_push, begins_refl}
use Rattle.sql_read.proofs.lists.pass_cols.Goals as goal

pub loop-col-init : goal.loop-col-init
loop-col-init c = record {
  first = grind (arith, common_steps);
  listing = leaf_start col_then (Fixed Comma) cols_are_one col_view (λ k. k.columns) (λ a b e. e.columns) _ _;
  paid = (omega arith, omega arith);
  others = (refl, refl);
  longer = omega arith;
}

pub returns-in_default-clause-is : goal.returns-in_default-clause-is
returns-in_default-clause-is c =
    leaf_none col_then (Fixed Comma) cols_are_one col_view (λ k. k.columns) (λ a b e. e.columns) _ _ _ _ c.loop-col.invariant.listing c.in_default.ensures.is

pub returns-then-not-pass_mark-clause-is : goal.returns-then-not-pass_mark-clause-is
returns-then-not-pass_mark-clause-is c =
    let kept = c.if-not-pass_mark.ensures.kept refl in
    let pushed = ap length c.in_ok-push.ensures.items ∙ length_push _ _ in
    record {
      parsed =
          leaf_end col_then (Fixed Comma) cols_are_one col_view (λ k. k.columns) (λ a b e. e.columns) _ _ _ _ _ _ _ _ c.loop-col.invariant.listing
          (rw kept c.in-Some.ensures.is) (record {
            columns = begins_push _ _ _ c.in_ok-push.ensures.items;
            froms = begins_refl _;
            equations = begins_refl _;
            names = begins_refl _;
            selects = begins_refl _;
            tables = begins_refl _;
          }) c.in_ok-push.ensures.items c.loop-col.invariant.first
          (omega (arith, c.len.ensures, c.push.new.self.ok.0, pushed, c.loop-col.invariant.first, c.loop-col.invariant.longer));
      ends = rw kept (c.if-not-pass_mark.ensures.none refl);
    }

pub loop-col-preserved : goal.loop-col-preserved
loop-col-preserved c =
    let pushed = ap length c.in_ok-push.ensures.items ∙ length_push _ _ in
    record {
      first = c.loop-col.invariant.first;
      listing =
          leaf_more col_then (Fixed Comma) cols_are_one col_view (λ k. k.columns) (λ a b e. e.columns) _ _ _ _ _ _ _ _ c.loop-col.invariant.listing c.in-Some.ensures.is
          (record {
            columns = begins_push _ _ _ c.in_ok-push.ensures.items;
            froms = begins_refl _;
            equations = begins_refl _;
            names = begins_refl _;
            selects = begins_refl _;
            tables = begins_refl _;
          }) c.in_ok-push.ensures.items (c.if-not-pass_mark.ensures.passed refl);
      paid = (
        omega (arith, pushed, c.loop-col.invariant.paid.0, c.in-Some.ensures.count, c.if-not-pass_mark.ensures.count),
        omega (arith, c.loop-col.invariant.paid.1, c.in-Some.ensures.count, c.if-not-pass_mark.ensures.count),
      );
      others = c.loop-col.invariant.others;
      longer = omega (arith, pushed, c.loop-col.invariant.longer);
    }
