use Rattle.std.proofs.Common.{◌≡◌, ◌+◌, ◌-◌, ◌<◌, ◌≤◌, false, length}
use Rattle.seeded_draw.specs.Draw.{word}
use Rattle.query_terms.specs.Building.{symbols_most}
use Rattle.query_draw.specs.Drawers.{draws_at, symbols_by, with_symbols}
use Rattle.query_draw.proofs.PutLemmas.{SymbolsLeft}
use Rattle.query_draw.proofs.words.draw_symbols.Given as goal

abbrev pub invariant-loop-j : goal.invariant-loop-j
invariant-loop-j l = record {
  start : l.state.start < length l.drawer.schema.now.kinds;
  here : l.state.at < length l.drawer.schema.now.kinds;
  usable : l.builder.refused ≡ false;
  labels : length l.builder.labels ≡ length l.drawer.schema.now.edges;
  few : l.builder.taken + (l.len - l.j) ≤ symbols_most;
  draws : l.draws ≡ draws_at l.drawer l.draws.taken;
  place : l.draws.taken ≡ l.fn.draws.taken + l.j;
  left : SymbolsLeft l.drawer.schema.now (word l.drawer.seed l.drawer.stream) l.to (with_symbols l.fn.builder (symbols_by l.drawer l.to l.fn.from l.len l.fn.draws.taken)) l.builder l.state (l.len - l.j) l.draws.taken;
}
