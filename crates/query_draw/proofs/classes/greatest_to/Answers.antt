use Rattle.std.proofs.Common.{◌<◌, Some, ap, sym, subst, ◌∙◌, arith}
use Rattle.sel_algebra.specs.Operators.{growth_class}
use Rattle.sel_algebra.specs.Entries.{greater_class}
use Rattle.sel_algebra.specs.Table.{types_most, kind_at}
use Rattle.query_draw.proofs.TypeSetLemmas.{IsWithout-lesser, AreIn-without}
use Rattle.query_draw.proofs.ClassLemmas.{IsGreatestBut, IsGreatestBut-none, IsGreatestBut-more, IsGreatestBut-all}
use Rattle.query_draw.proofs.classes.greatest_to.Goals as goal

pub loop-from-init : goal.loop-from-init
loop-from-init c = record { there = λ k lt there. there; greatest = IsGreatestBut-none c.args.kinds.now c.args.column c.args.to }

pub loop-from-preserved : goal.loop-from-preserved
loop-from-preserved c =
    let kinds = c.args.kinds.now in
    let m = c.in-Some.from in
    let next = c.without-rest.result in
    let less = c.without-rest.ensures in
    let within = c.in-Some.ensures.within in
    let small : m < types_most = omega (arith, within, c.requires) in
    let class = c.class_of-class.ensures ∙ ap (λ op. growth_class op (kind_at kinds m) c.args.to) c.told_op.ensures in
    record {
      there = AreIn-without c.loop-from.rest c.args.column.there m next less c.loop-from.invariant.there;
      greatest =
          subst (IsGreatestBut next kinds c.args.column c.args.to) (sym (c.greater_class-greatest.ensures ∙ ap (λ x. greater_class c.loop-from.greatest (Some x)) class))
          (IsGreatestBut-more c.loop-from.rest next kinds c.args.column c.args.to c.loop-from.greatest m c.requires within c.in-Some.ensures.here
          (c.loop-from.invariant.there m small c.in-Some.ensures.here) less.here less.others c.loop-from.invariant.greatest);
    }

pub loop-from-smaller : goal.loop-from-smaller
loop-from-smaller c = IsWithout-lesser c.loop-from.rest c.in-Some.from c.without-rest.result c.in-Some.ensures.here c.without-rest.ensures

pub returns : goal.returns
returns c = IsGreatestBut-all c.loop-from.rest c.args.kinds.now c.args.column c.args.to c.loop-from.greatest c.in_default.ensures c.loop-from.invariant.greatest
