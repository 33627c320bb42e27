-- The trees of words, grown by one at the end.
use Rattle.std.proofs.Common.{◌≡◌, ◌≢◌, List, [], ◌∷◌, ◌++◌, map, fold, refl, ap, ◌∙◌}
use Rattle.std.proofs.lemmas.List.{map-append}
use Rattle.std.proofs.lemmas.List.Sums.{fold_push}
use Rattle.path_pairs.specs.Trees.{Tree, nested, step_tree, word_tree}
use Rattle.path_pairs.specs.Laws.{WordGrows, UnionGrows}

-- the trees of items and of one more, joined from the left
nested-push : {X : Type 0} (join : Tree → Tree → Tree) (tree : X → Tree) (xs : List X) (x : X) → xs ≢ []
    → nested join (map tree (xs ++ x ∷ [])) ≡ join (nested join (map tree xs)) (tree x)
nested-push join tree [] x some = absurd (some refl)
nested-push join tree (y ∷ ys) x some =
    ap (fold join (tree y)) (map-append tree ys (x ∷ [])) ∙ fold_push join (tree y) (map tree ys) (tree x)

pub word_grows : WordGrows
word_grows labels word s some = nested-push Tree.Seq (step_tree labels) word s some

pub union_grows : UnionGrows
union_grows labels words word some = nested-push Tree.Alt (word_tree labels) words word some
