use Rattle.std.proofs.Common.{◌≡◌, length, inl, inr, refl, sym, subst, ◌∙◌, arith}
use Rattle.std.proofs.lemmas.Bool.Decides.{eqb_tells}
use Rattle.std.proofs.lemmas.List.{ext_get_or}
use Rattle.query_draw.specs.Columns.{no_column, column_at}
use Rattle.query_draw.proofs.ColumnLemmas.{same_column}
use Rattle.query_draw.proofs.column_list.Columns.has_columns_of.Goals as goal

pub loop-t-preserved : goal.loop-t-preserved
loop-t-preserved c j lt =
    let t = c.loop-t.t in
    elim (eqb_tells j t) [
      | inl hit ↦
          subst (λ k. column_at c.args.self.now k ≡ column_at c.args.other.now k) (sym hit.1)
          (sym c.at.ensures ∙ (same_column c.at.result c.at-in-loop-t.result c.if-ne.ensures ∙ c.at-in-loop-t.ensures))
      | inr miss ↦ c.loop-t.invariant j (let e = miss.1 in omega (arith, lt, e))
    ]

pub returns : goal.returns
returns c =
    let all : c.loop-t.t ≡ length c.args.self.now = omega (arith, c.loop-t-test.false, c.loop-t.auto.t-end, c.count-t-end.ensures.count) in
    (λ _. ext_get_or no_column c.args.self.now c.args.other.now c.requires (λ j lt. c.loop-t.invariant j (omega (arith, lt, all))), λ _. refl)
