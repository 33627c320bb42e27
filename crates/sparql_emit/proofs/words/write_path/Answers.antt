use Rattle.std.proofs.Common.{length, ap, ◌++◌, ◌∙◌}
use Rattle.std.proofs.lemmas.Result.{on_ok_weaker}
use Rattle.sparql_emit.proofs.WordLemmas.{path_plain, path_starred, path_named}
use Rattle.sparql_emit.proofs.words.write_path.Goals as goal

pub returns-then-not-conjunct-clause-text : goal.returns-then-not-conjunct-clause-text
returns-then-not-conjunct-clause-text c =
    on_ok_weaker c.write_union.result
    (λ text. text ∙ ap (λ bs. c.args.out.now.items ++ bs)
    (path_plain c.args.names.now c.args.query.now (length c.args.names.now) c.args.conjunct.now c.requires _ c.part_of-words.ensures c.if-not-conjunct.true))
    c.write_union.ensures.text

pub returns-then-not-conjunct-clause-names : goal.returns-then-not-conjunct-clause-names
returns-then-not-conjunct-clause-names c =
    on_ok_weaker c.write_union.result
    (path_named c.args.names.now c.args.query.now (length c.args.names.now) c.args.conjunct.now c.requires _ c.part_of-words.ensures)
    c.write_union.ensures.names

pub returns-clause-text : goal.returns-clause-text
returns-clause-text c =
    path_starred c.args.names.now c.args.query.now (length c.args.names.now) c.args.conjunct.now c.requires _ c.part_of-words.ensures c.if-not-conjunct.false
    _ _ _ _ c.in_ok-push.ensures.items c.in_ok-write_union.ensures.text c.in_ok-extend_from_slice.ensures.items

pub returns-clause-names : goal.returns-clause-names
returns-clause-names c =
    path_named c.args.names.now c.args.query.now (length c.args.names.now) c.args.conjunct.now c.requires _ c.part_of-words.ensures c.in_ok-write_union.ensures.names
