use Rattle.std.proofs.Common.{◌≡◌, ◌-◌, ◌++◌, ◌∙◌, length, set, arith}
use Rattle.std.proofs.lemmas.Grind.{common_steps}
use Rattle.gm_io.proofs.PlaceLemmas.{with_end, set-last, IsLaidOut-with_end, map-file_at-with_end}
use Rattle.gm_io.proofs.file_stores.FileStore.append.Goals as goal

-- the text has gained the piece
text_is : (c : goal.After-self-2-1) → c.extend_from_slice.new.self.items ≡ c.self.inside.text.items ++ c.args.piece.now
text_is c = rw c.unwrap.ensures at c.extend_from_slice.ensures.items

-- the last file ends where the text does
places_is : (c : goal.After-self-2-1)
    → set c.self.inside.places.items (c.len-last.result - 1) (record c.index_mut.result.now { end = c.len.result })
    ≡ with_end c.self.inside.places.items (length (c.self.inside.text.items ++ c.args.piece.now))
places_is c =
    let end : c.len.result ≡ length (c.self.inside.text.items ++ c.args.piece.now) = rw (← text_is c) (c.len.ensures ∙ c.extend_from_slice.new.self.ok.0) in
    rw (← end) (set-last c.self.inside.places.items _ _ _ (grind (arith, common_steps)) c.index_mut.ensures.value)

pub invariant_of-self : goal.invariant_of-self
invariant_of-self c = record {
  laid_out = rw (text_is c, places_is c) (IsLaidOut-with_end _ _ _ c.self.invariant.laid_out);
  files = grind (arith, common_steps);
  bytes = grind (arith, common_steps);
}

pub returns-clause-files : goal.returns-clause-files
returns-clause-files c =
    rw (text_is c, places_is c, ← c.self.view_is) (map-file_at-with_end _ _ _ c.self.invariant.laid_out.each c.self.invariant.laid_out.last)
