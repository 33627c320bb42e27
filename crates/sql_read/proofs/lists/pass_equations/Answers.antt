use Rattle.std.proofs.Common.{◌∙◌, ap, length, refl, arith}
use Rattle.std.proofs.lemmas.Grind.{common_steps}
use Rattle.std.proofs.lemmas.List.{length_push}
use Rattle.sql_read.specs.declared.tokens.Mark.TheVariants.{And}
use Rattle.sql_read.specs.Tokens.{Fixed}
use Rattle.sql_read.specs.Grammar.{equation_then}
use Rattle.sql_read.specs.View.{equation_view}
use Rattle.sql_read.proofs.GrammarLemmas.{equations_are_one}
use Rattle.sql_read.proofs.ListLemmas.{leaf_start, leaf_more, leaf_end, leaf_none, begins_push, begins_refl}
use Rattle.sql_read.proofs.lists.pass_equations.Goals as goal

pub loop-equation-init : goal.loop-equation-init
loop-equation-init c = record {
  first = grind (arith, common_steps);
  listing = leaf_start equation_then (Fixed And) equations_are_one equation_view (λ k. k.equations) (λ a b e. e.equations) _ _;
  paid = (omega arith, omega arith);
  others = (refl, refl);
  longer = omega arith;
}

pub returns-in_default-clause-is : goal.returns-in_default-clause-is
returns-in_default-clause-is c =
    leaf_none equation_then (Fixed And) equations_are_one equation_view (λ k. k.equations) (λ a b e. e.equations) _ _ _ _ c.loop-equation.invariant.listing c.in_default.ensures.is

pub returns-then-not-pass_mark-clause-is : goal.returns-then-not-pass_mark-clause-is
returns-then-not-pass_mark-clause-is c =
    let kept = c.if-not-pass_mark.ensures.kept refl in
    let pushed = ap length c.in_ok-push.ensures.items ∙ length_push _ _ in
    record {
      parsed =
          leaf_end equation_then (Fixed And) equations_are_one equation_view (λ k. k.equations) (λ a b e. e.equations) _ _ _ _ _ _ _ _ c.loop-equation.invariant.listing
          (rw kept c.in-Some.ensures.is) (record {
            columns = begins_refl _;
            froms = begins_refl _;
            equations = begins_push _ _ _ c.in_ok-push.ensures.items;
            names = begins_refl _;
            selects = begins_refl _;
            tables = begins_refl _;
          }) c.in_ok-push.ensures.items c.loop-equation.invariant.first
          (omega (arith, c.len.ensures, c.push.new.self.ok.0, pushed, c.loop-equation.invariant.first, c.loop-equation.invariant.longer));
      ends = rw kept (c.if-not-pass_mark.ensures.none refl);
    }

pub loop-equation-preserved : goal.loop-equation-preserved
loop-equation-preserved c =
    let pushed = ap length c.in_ok-push.ensures.items ∙ length_push _ _ in
    record {
      first = c.loop-equation.invariant.first;
      listing =
          leaf_more equation_then (Fixed And) equations_are_one equation_view (λ k. k.equations) (λ a b e. e.equations) _ _ _ _ _ _ _ _ c.loop-equation.invariant.listing c.in-Some.ensures.is
          (record {
            columns = begins_refl _;
            froms = begins_refl _;
            equations = begins_push _ _ _ c.in_ok-push.ensures.items;
            names = begins_refl _;
            selects = begins_refl _;
            tables = begins_refl _;
          }) c.in_ok-push.ensures.items (c.if-not-pass_mark.ensures.passed refl);
      paid = (
        omega (arith, pushed, c.loop-equation.invariant.paid.0, c.in-Some.ensures.count, c.if-not-pass_mark.ensures.count),
        omega (arith, c.loop-equation.invariant.paid.1, c.in-Some.ensures.count, c.if-not-pass_mark.ensures.count),
      );
      others = c.loop-equation.invariant.others;
      longer = omega (arith, pushed, c.loop-equation.invariant.longer);
    }
