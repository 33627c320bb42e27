use Rattle.std.proofs.Common.{◌≡◌, ◌<◌, slice_index_or, ap, ◌∙◌, arith}
use Rattle.bit_rows.specs.Sets.{has}
use Rattle.sel_graph.specs.States.{place, carried}
use Rattle.walk_pick.specs.Candidates.{nth_symbol}
use Rattle.walk_pick.proofs.PickLemmas.{kept_walk, next_symbol, next_inside}
use Rattle.walk_pick.proofs.walking.SymbolsCandidates.is_live.Goals as goal

pub get-requires : goal.get-requires
get-requires c =
    let s = c.args.self.now in
    let g = s.schema.now in
    let i = c.args.i in
    let after : slice_index_or s.next.now i 0 ≡ place (carried g s.at (nth_symbol g s.at.at i)) = ap (λ xs. slice_index_or xs i 0) s.next_are ∙ next_symbol g s.at i 0 c.requires in
    let below : slice_index_or s.next.now i 0 < 320 = omega (arith, after, next_inside g s.known s.at i c.requires, s.known.few_types) in
    (omega arith, below)

pub returns-then-self : goal.returns-then-self
returns-then-self c =
    let s = c.args.self.now in
    let g = s.schema.now in
    let i = c.args.i in
    let after : slice_index_or s.next.now i 0 ≡ place (carried g s.at (nth_symbol g s.at.at i)) = ap (λ xs. slice_index_or xs i 0) s.next_are ∙ next_symbol g s.at i 0 c.requires in
    c.get.ensures
    ∙ (ap (has s.before.now) after ∙ (s.before_are (place (carried g s.at (nth_symbol g s.at.at i))) ∙ kept_walk g s.at s.to s.left (nth_symbol g s.at.at i) c.if-self.true))
