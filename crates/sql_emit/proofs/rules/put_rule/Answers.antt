use Rattle.std.proofs.Common.{◌∙◌, ◌++◌, ap, List, ℕ}
use Rattle.sql_emit.proofs.WriteLemmas.{heads_have_columns, five_written}
use Rattle.sql_emit.proofs.rules.put_rule.Goals as goal

pub put_heads-requires : goal.put_heads-requires
put_heads-requires c =
    let ends = rw c.as_slice-links.ensures at c.in_ok-ends.ensures in
    record { occur = rw c.as_slice.ensures (heads_have_columns c.args.rule.now.links c.args.rule.now.heads c.in_ok-ends.ends ends c.requires.heads) }

pub returns-clause-text : goal.returns-clause-text
returns-clause-text c =
    let ends = rw c.as_slice-links.ensures at c.in_ok-ends.ensures in
    let heads = rw c.as_slice.ensures at (c.in_ok-put_heads.ensures _ ends) in
    let sources = rw c.as_slice-links.ensures at c.in_ok-put_sources.ensures.text in
    let equations = c.in_ok-extend_from_slice-3.ensures.items ∙ ap (λ (bs : List ℕ). c.put_sources.new.out.items ++ bs) (c.deref.ensures.value ∙ ends.equations) in
    five_written _ _ _ _ _ _ _ _ _ _ _ c.in_ok-extend_from_slice.ensures.items heads c.in_ok-extend_from_slice-2.ensures.items sources equations
