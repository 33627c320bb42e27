use Rattle.std.proofs.Common.{refl, arith}
use Rattle.std.proofs.lemmas.Grind.{common_steps}
use Rattle.sparql_read.proofs.SpotLemmas.{closes_braced, closes_bare}
use Rattle.sparql_read.proofs.places.close.Goals as goal

pub returns-then-parts-clause-is : goal.returns-then-parts-clause-is
returns-then-parts-clause-is c = λ o x. closes_braced c.args.parts.now _ o _ _ x record {
  heads = refl;
  groups = c.in_ok-push.ensures.items;
  patterns = refl;
  paths = refl;
  levels = refl;
  first = grind (arith, common_steps, c.len-end.ensures, c.args.parts.now.patterns.ok.0);
  braced = refl;
  all_occur = c.are_both-parts.ensures;
  span_first = grind (arith, common_steps, c.requires.room.first, c.requires.room.patterns);
  span_count = grind (arith, common_steps, c.len-end.ensures, c.args.parts.now.patterns.ok.0, c.requires.room.first, c.requires.room.patterns);
  finds = rw (c.deref.ensures.value, c.deref-2.ensures.value) at c.has_all-occur.ensures;
} c.if-parts.true

pub returns-else-parts-clause-is : goal.returns-else-parts-clause-is
returns-else-parts-clause-is c = λ o x. closes_bare c.args.parts.now _ o _ _ x record {
  heads = refl;
  groups = c.in_ok-push.ensures.items;
  patterns = refl;
  paths = refl;
  levels = refl;
  first = grind (arith, common_steps, c.len-end.ensures, c.args.parts.now.patterns.ok.0);
  braced = refl;
  all_occur = c.are_both-parts.ensures;
  span_first = grind (arith, common_steps, c.requires.room.first, c.requires.room.patterns);
  span_count = grind (arith, common_steps, c.len-end.ensures, c.args.parts.now.patterns.ok.0, c.requires.room.first, c.requires.room.patterns);
  finds = rw (c.deref.ensures.value, c.deref-2.ensures.value) at c.has_all-occur.ensures;
} c.if-parts.false
