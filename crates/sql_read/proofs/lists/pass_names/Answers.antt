use Rattle.std.proofs.Common.{◌∙◌, ap, length, refl, arith}
use Rattle.std.proofs.lemmas.Grind.{common_steps}
use Rattle.std.proofs.lemmas.List.{length_push}
use Rattle.sql_read.specs.declared.tokens.Mark.TheVariants.{Comma}
use Rattle.sql_read.specs.Tokens.{Fixed}
use Rattle.sql_read.specs.Grammar.{word_then}
use Rattle.sql_read.specs.View.{name_view}
use Rattle.sql_read.proofs.GrammarLemmas.{words_are_one}
use Rattle.sql_read.proofs.ListLemmas.{leaf_start, leaf_more, leaf_end, leaf_none, begins_push, begins_refl}
use Rattle.sql_read.proofs.lists.pass_names.Goals as goal

pub loop-name-init : goal.loop-name-init
loop-name-init c = record {
  first = grind (arith, common_steps);
  listing = leaf_start word_then (Fixed Comma) words_are_one name_view (λ k. k.names) (λ a b e. e.names) _ _;
  paid = (omega arith, omega arith);
  others = (refl, refl);
  longer = omega arith;
}

pub returns-in_default-clause-is : goal.returns-in_default-clause-is
returns-in_default-clause-is c =
    leaf_none word_then (Fixed Comma) words_are_one name_view (λ k. k.names) (λ a b e. e.names) _ _ _ _ c.loop-name.invariant.listing c.in_default.ensures.is

pub returns-then-not-pass_mark-clause-is : goal.returns-then-not-pass_mark-clause-is
returns-then-not-pass_mark-clause-is c =
    let kept = c.if-not-pass_mark.ensures.kept refl in
    let pushed = ap length c.in_ok-push.ensures.items ∙ length_push _ _ in
    record {
      parsed =
          leaf_end word_then (Fixed Comma) words_are_one name_view (λ k. k.names) (λ a b e. e.names) _ _ _ _ _ _ _ _ c.loop-name.invariant.listing
          (rw kept c.in-Some.ensures.is) (record {
            columns = begins_refl _;
            froms = begins_refl _;
            equations = begins_refl _;
            names = begins_push _ _ _ c.in_ok-push.ensures.items;
            selects = begins_refl _;
            tables = begins_refl _;
          }) c.in_ok-push.ensures.items c.loop-name.invariant.first
          (omega (arith, c.len.ensures, c.push.new.self.ok.0, pushed, c.loop-name.invariant.first, c.loop-name.invariant.longer));
      ends = rw kept (c.if-not-pass_mark.ensures.none refl);
    }

pub loop-name-preserved : goal.loop-name-preserved
loop-name-preserved c =
    let pushed = ap length c.in_ok-push.ensures.items ∙ length_push _ _ in
    record {
      first = c.loop-name.invariant.first;
      listing =
          leaf_more word_then (Fixed Comma) words_are_one name_view (λ k. k.names) (λ a b e. e.names) _ _ _ _ _ _ _ _ c.loop-name.invariant.listing c.in-Some.ensures.is
          (record {
            columns = begins_refl _;
            froms = begins_refl _;
            equations = begins_refl _;
            names = begins_push _ _ _ c.in_ok-push.ensures.items;
            selects = begins_refl _;
            tables = begins_refl _;
          }) c.in_ok-push.ensures.items (c.if-not-pass_mark.ensures.passed refl);
      paid = (
        omega (arith, pushed, c.loop-name.invariant.paid.0, c.in-Some.ensures.count, c.if-not-pass_mark.ensures.count),
        omega (arith, c.loop-name.invariant.paid.1, c.in-Some.ensures.count, c.if-not-pass_mark.ensures.count),
      );
      others = c.loop-name.invariant.others;
      longer = omega (arith, pushed, c.loop-name.invariant.longer);
    }
