use Rattle.std.proofs.Common.{ap, sym, subst, ◌*◌, ◌∙◌}
use Rattle.gm_config.specs.Config.{ConfigValue, IsConfig}
use Rattle.gm_config.proofs.SampleLemmas.{config-sample, sample-no_fault, IsConfig-sample_of}
use Rattle.gm_config.proofs.sample.sample_config.Goals as goal

pub with_nodes-requires : goal.with_nodes-requires
with_nodes-requires c =
    let k = c.args.k in
    let same = config-sample c.as_bytes.result.now c.in-Ok.config c.as_bytes.ensures.value c.in-Ok.ensures.answer in
    subst (λ (v : ConfigValue). IsConfig record v { nodes = 1000 * k }) (sym same) (IsConfig-sample_of k c.requires.some c.requires.few)

pub unreachable-requires : goal.unreachable-requires
unreachable-requires c = sample-no_fault c.as_bytes.result.now c.in-Err-Fault.field-0 c.in-Err-Fault.field-0-0 c.in-Err-Fault.field-0-is c.as_bytes.ensures.value c.in-Err-Fault.ensures.answer

pub returns-in-Ok-clause-sample : goal.returns-in-Ok-clause-sample
returns-in-Ok-clause-sample c =
    let k = c.args.k in
    let same = config-sample c.as_bytes.result.now c.in-Ok.config c.as_bytes.ensures.value c.in-Ok.ensures.answer in
    c.with_nodes.ensures ∙ ap (λ (v : ConfigValue). let made : ConfigValue = record v { nodes = 1000 * k } in made) same
