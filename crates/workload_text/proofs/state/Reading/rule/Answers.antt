use Rattle.std.proofs.Common.{Some, refl}
use Rattle.workload_text.specs.declared.sorts.Sort.TheVariants.{Rule}
use Rattle.workload_text.specs.declared.state.Reading.{Reading}
use Rattle.workload_text.proofs.StateLemmas.{rule_accepted}
use Rattle.workload_text.proofs.state.Reading.rule.Goals as goal

pub returns : goal.returns
returns c =
    let heads = c.in-Some.heads in
    let (is, in_heads, count, may) = c.in-Some.ensures in
    let next : Reading = record c.end_rule.new.self { last = Some Rule; heads = heads } in
    rule_accepted c.args.self.now c.end_rule.new.self next c.requires.usable c.in_ok-end_rule.ensures c.requires.query heads c.args.words.now refl is in_heads count may
