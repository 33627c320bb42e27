use Rattle.std.proofs.Common.{◌≡◌, true, false, ◌||◌, ◌&&◌, refl, ap, sym, ◌∙◌}
use Rattle.std.specs.List.{list_any, range_with_len}
use Rattle.std.proofs.Math.Bool.{or-false}
use Rattle.bit_rows.specs.Sets.{has}
use Rattle.sel_graph.specs.Steps.{star_steps}
use Rattle.sel_graph.proofs.StepLemmas.{steps_tested}
use Rattle.sel_graph.proofs.move_rows.MoveRowsRows.row.Goals as goal

pub returns-then-stars : goal.returns-then-stars
returns-then-stars c = λ q.
    let r = c.args.self.now.moves.now in
    let plain = has c.plain_row-row.result q in
    let stars = list_any (star_steps r c.args.self.now.kind c.args.r q) (range_with_len 0 5) in
    let tested = steps_tested r c.args.self.now.known c.args.self.now.kind c.args.r q plain stars (c.plain_row-row.ensures q) refl in
    let may : true ≡ r.stars = sym (sym c.stars.ensures ∙ c.if-stars.true) in
    let is : has c.add_stars.new.row q ≡ (plain || (r.stars && stars)) = c.add_stars.ensures q ∙ ap (λ b. plain || (b && stars)) may in
    (λ h. tested.0 (sym is ∙ h), λ step. is ∙ tested.1 step)

pub returns-else-stars : goal.returns-else-stars
returns-else-stars c = λ q.
    let r = c.args.self.now.moves.now in
    let plain = has c.plain_row-row.result q in
    let stars = list_any (star_steps r c.args.self.now.kind c.args.r q) (range_with_len 0 5) in
    let tested = steps_tested r c.args.self.now.known c.args.self.now.kind c.args.r q plain stars (c.plain_row-row.ensures q) refl in
    let never : false ≡ r.stars = sym (sym c.stars.ensures ∙ c.if-stars.false) in
    let is : plain ≡ (plain || (r.stars && stars)) = sym (or-false plain) ∙ ap (λ b. plain || (b && stars)) never in
    (λ h. tested.0 (sym is ∙ h), λ step. is ∙ tested.1 step)
