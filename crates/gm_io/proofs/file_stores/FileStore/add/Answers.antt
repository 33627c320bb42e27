use Rattle.std.proofs.Common.{◌≡◌, ◌++◌, ◌∷◌, ◌∙◌, [], arith}
use Rattle.std.proofs.lemmas.Grind.{common_steps}
use Rattle.gm_io.proofs.PlaceLemmas.{new_place, new_place_is, map-file_at-push, IsLaidOut-push}
use Rattle.gm_io.proofs.file_stores.FileStore.add.Goals as goal

-- the text has gained the name
text_is : (c : goal.After-self-2-1) → c.extend_from_slice.new.self.items ≡ c.self.inside.text.items ++ c.args.name.now
text_is c = rw (c.unwrap.ensures, c.as_bytes.ensures.value) at c.extend_from_slice.ensures.items

-- the places have gained the new file's
places_is : (c : goal.After-self-2-1) → c.push.new.self.items ≡ c.self.inside.places.items ++ new_place c.self.inside.text.items c.args.name.now ∷ []
places_is c =
    let place = new_place_is _ _ _ _ _ (text_is c) (c.len-start.ensures ∙ c.self.inside.text.ok.0) (c.len-end.ensures ∙ c.extend_from_slice.new.self.ok.0) in
    rw (← place) (rw c.unwrap-2.ensures at c.push.ensures.items)

pub invariant_of-self : goal.invariant_of-self
invariant_of-self c = record {
  laid_out = rw (text_is c, places_is c) (IsLaidOut-push _ _ _ c.utf8.name c.self.invariant.laid_out);
  files = grind (arith, common_steps);
  bytes = grind (arith, common_steps);
}

pub returns-clause-files : goal.returns-clause-files
returns-clause-files c = rw (text_is c, places_is c, ← c.self.view_is) (map-file_at-push _ _ _ c.self.invariant.laid_out.each)
