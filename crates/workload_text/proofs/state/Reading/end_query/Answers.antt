use Rattle.std.proofs.Common.{◌≡◌, true, [], ◌∷◌, refl, rules}
use Rattle.query_terms.specs.declared.terms.Heads.{Heads}
use Rattle.workload_text.specs.declared.state.Reading.{Reading}
use Rattle.workload_text.specs.Sofar.{after_conjunct}
use Rattle.workload_text.proofs.StateLemmas.{class_ended, wide_ended, query_ended, query_is_ended}
use Rattle.workload_text.proofs.state.Reading.end_query.Goals as goal

pub finish-requires-clause-class : goal.finish-requires-clause-class
finish-requires-clause-class c =
    let after : after_conjunct c.end_rule.new.self.last ≡ true = search rules in
    rw c.replace-builder.ensures.value (class_ended c.args.self.now c.end_rule.new.self c.requires.usable c.in_ok-end_rule.ensures after)

pub finish-requires-clause-wide : goal.finish-requires-clause-wide
finish-requires-clause-wide c =
    let after : after_conjunct c.end_rule.new.self.last ≡ true = search rules in
    rw c.replace-builder.ensures.value (wide_ended c.args.self.now c.end_rule.new.self c.requires.usable c.in_ok-end_rule.ensures after)

pub returns : goal.returns
returns c =
    let after : after_conjunct c.end_rule.new.self.last ≡ true = search rules in
    let usable = c.requires.usable in
    let ended = c.in_ok-end_rule.ensures in
    let value = query_ended c.args.self.now c.end_rule.new.self usable ended after _ (rw c.replace-builder.ensures.value at c.in_ok-query.ensures) in
    let none : Heads = record { count = 0; vars = 0 ∷ 0 ∷ 0 ∷ 0 ∷ [] } in
    let last : Reading = record c.end_rule.new.self { queries = c.push.new.self; builder = c.replace-builder.new.dest; rules = 0; heads = none } in
    query_is_ended c.args.self.now c.end_rule.new.self usable ended after last c.in_ok-query.query refl c.in_ok-push.ensures.items value (search rules)
