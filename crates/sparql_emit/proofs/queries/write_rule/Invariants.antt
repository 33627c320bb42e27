use Rattle.std.proofs.Common.{◌≡◌, ◌++◌, true, take}
use Rattle.std.specs.List.{flat_map, list_all}
use Rattle.sparql_emit.specs.QueryText.{conjunct_text}
use Rattle.sparql_emit.specs.Words.{conjunct_of, is_plain}
use Rattle.sparql_emit.proofs.queries.write_rule.Given as goal

abbrev pub invariant-loop-conjunct : goal.invariant-loop-conjunct
invariant-loop-conjunct l = record {
  text : l.out.items ≡ l.initial.out.items ++ flat_map (λ c. conjunct_text l.names l.query.labels.now l.heads (conjunct_of l.query c)) (take l.conjunct-index l.conjunct-items);
  plain : list_all (λ c. is_plain l.names l.query.labels.now (conjunct_of l.query c)) (take l.conjunct-index l.conjunct-items) ≡ true;
}
