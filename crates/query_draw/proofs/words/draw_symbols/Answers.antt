use Rattle.std.proofs.Common.{◌≡◌, ◌+◌, ◌-◌, ◌<◌, suc, length, ap, sym, subst, ◌∙◌, arith}
use Rattle.sel_graph.specs.States.{carried}
use Rattle.query_draw.specs.Drawers.{random_words, draws_at, symbols_by, with_symbols}
use Rattle.query_draw.proofs.PutLemmas.{SymbolsLeft, SymbolsLeft-more, SymbolsLeft-none}
use Rattle.query_draw.proofs.words.draw_symbols.Goals as goal

pub loop-j-preserved : goal.loop-j-preserved
loop-j-preserved c =
    let d = c.args.drawer.now in
    let g = d.schema.now in
    let j = c.loop-j.j in
    let place = c.loop-j.draws.taken in
    let symbol = c.draw_symbol-symbol.result in
    let draws = c.draw_symbol-symbol.ensures.draws in
    let put = c.in_ok-symbol.ensures in
    let wanted = with_symbols c.args.builder.now (symbols_by d c.args.to c.args.from c.args.len c.args.draws.now.taken) in
    let same : c.args.len - j ≡ suc (c.args.len - 1 - j) = omega (arith, c.loop-j-test.true) in
    let less : c.args.len - 1 - j ≡ c.args.len - (j + 1) = omega arith in
    let there : c.draw_symbol-symbol.new.draws.taken ≡ place + 1 = ap (λ x. x.taken) draws in
    let moved : c.carried-state.result ≡ carried g c.loop-j.state symbol = c.carried-state.ensures.state ∙ ap (λ x. carried x c.loop-j.state symbol) d.schema_is in
    let left =
    SymbolsLeft-more g (random_words d) c.args.to wanted c.loop-j.builder c.symbol.new.self c.loop-j.state c.carried-state.result symbol (c.args.len - j) (c.args.len - 1 - j) place c.draw_symbol-symbol.new.draws.taken
    c.loop-j.invariant.left same there c.draw_symbol-symbol.ensures.symbol c.draw_symbol-symbol.ensures.walk put moved in
    record {
      start = subst (λ x. c.carried-state.result.start < length x.kinds) d.schema_is c.carried-state.ensures.start;
      here = subst (λ x. c.carried-state.result.at < length x.kinds) d.schema_is c.carried-state.ensures.here;
      usable = ap (λ b. b.refused) put ∙ c.loop-j.invariant.usable;
      labels = ap (λ b. length b.labels) put ∙ c.loop-j.invariant.labels;
      few = omega (arith, ap (λ b. b.taken) put, c.loop-j.invariant.few, c.loop-j-test.true);
      draws = draws ∙ ap (draws_at d) (sym there);
      place = omega (arith, there, c.loop-j.invariant.place);
      left = subst (λ m. SymbolsLeft g (random_words d) c.args.to wanted c.symbol.new.self c.carried-state.result m c.draw_symbol-symbol.new.draws.taken) less left;
    }

pub returns : goal.returns
returns c =
    SymbolsLeft-none c.args.drawer.now.schema.now (random_words c.args.drawer.now) c.args.to
    (with_symbols c.args.builder.now (symbols_by c.args.drawer.now c.args.to c.args.from c.args.len c.args.draws.now.taken))
    c.loop-j.builder c.loop-j.state (c.args.len - c.loop-j.j) c.loop-j.draws.taken c.loop-j.invariant.left (omega (arith, c.loop-j-test.false))
