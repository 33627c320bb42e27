use Rattle.std.proofs.Common.{◌∙◌, ap, length, refl, arith}
use Rattle.std.proofs.lemmas.Grind.{common_steps}
use Rattle.std.proofs.lemmas.List.{length_push}
use Rattle.sql_read.specs.declared.tokens.Mark.TheVariants.{Comma}
use Rattle.sql_read.specs.Tokens.{Fixed}
use Rattle.sql_read.specs.Grammar.{source_then}
use Rattle.sql_read.specs.View.{source_view}
use Rattle.sql_read.proofs.GrammarLemmas.{froms_are_one}
use Rattle.sql_read.proofs.ListLemmas.{leaf_start, leaf_more, leaf_end, leaf_none, begins_push, begins_refl}
use Rattle.sql_read.proofs.lists.pass_froms.Goals as goal

pub loop-from-init : goal.loop-from-init
loop-from-init c = record {
  first = grind (arith, common_steps);
  listing = leaf_start source_then (Fixed Comma) froms_are_one source_view (λ k. k.froms) (λ a b e. e.froms) _ _;
  paid = (omega arith, omega arith);
  others = (refl, refl);
  longer = omega arith;
}

pub returns-in_default-clause-is : goal.returns-in_default-clause-is
returns-in_default-clause-is c =
    leaf_none source_then (Fixed Comma) froms_are_one source_view (λ k. k.froms) (λ a b e. e.froms) _ _ _ _ c.loop-from.invariant.listing c.in_default.ensures.is

pub returns-then-not-pass_mark-clause-is : goal.returns-then-not-pass_mark-clause-is
returns-then-not-pass_mark-clause-is c =
    let kept = c.if-not-pass_mark.ensures.kept refl in
    let pushed = ap length c.in_ok-push.ensures.items ∙ length_push _ _ in
    record {
      parsed =
          leaf_end source_then (Fixed Comma) froms_are_one source_view (λ k. k.froms) (λ a b e. e.froms) _ _ _ _ _ _ _ _ c.loop-from.invariant.listing
          (rw kept c.in-Some.ensures.is) (record {
            columns = begins_refl _;
            froms = begins_push _ _ _ c.in_ok-push.ensures.items;
            equations = begins_refl _;
            names = begins_refl _;
            selects = begins_refl _;
            tables = begins_refl _;
          }) c.in_ok-push.ensures.items c.loop-from.invariant.first
          (omega (arith, c.len.ensures, c.push.new.self.ok.0, pushed, c.loop-from.invariant.first, c.loop-from.invariant.longer));
      ends = rw kept (c.if-not-pass_mark.ensures.none refl);
    }

pub loop-from-preserved : goal.loop-from-preserved
loop-from-preserved c =
    let pushed = ap length c.in_ok-push.ensures.items ∙ length_push _ _ in
    record {
      first = c.loop-from.invariant.first;
      listing =
          leaf_more source_then (Fixed Comma) froms_are_one source_view (λ k. k.froms) (λ a b e. e.froms) _ _ _ _ _ _ _ _ c.loop-from.invariant.listing c.in-Some.ensures.is
          (record {
            columns = begins_refl _;
            froms = begins_push _ _ _ c.in_ok-push.ensures.items;
            equations = begins_refl _;
            names = begins_refl _;
            selects = begins_refl _;
            tables = begins_refl _;
          }) c.in_ok-push.ensures.items (c.if-not-pass_mark.ensures.passed refl);
      paid = (
        omega (arith, pushed, c.loop-from.invariant.paid.0, c.in-Some.ensures.count, c.if-not-pass_mark.ensures.count),
        omega (arith, c.loop-from.invariant.paid.1, c.in-Some.ensures.count, c.if-not-pass_mark.ensures.count),
      );
      others = c.loop-from.invariant.others;
      longer = omega (arith, pushed, c.loop-from.invariant.longer);
    }
