-- A pattern of a group.
use Rattle.std.proofs.Common.{◌≡◌, ◌≤◌, ◌<◌, ◌+◌, ◌^◌, ℕ, Option, Some, List, sym, ap, subst, ◌∙◌, length, get_or, option_map, IfSome, arith}
use Rattle.std.specs.List.{slice_get}
use Rattle.std.proofs.lemmas.Option.{slice_get-get_or, slice_get-map}
use Rattle.std.proofs.lemmas.List.{length-map}
use Rattle.gm_text.specs.declared.lists.Span.{Span}
use Rattle.sparql_read.specs.Query.{entry_view, entries_view, AreWithin}
use Rattle.sparql_read.specs.declared.query.Pattern.{Pattern}
use Rattle.sparql_read.proofs.LayoutLemmas.{within_at}

module _ (groups : List Span) (ps : List Pattern) (g i : ℕ) (d : Span) (e : g < length groups) (w : AreWithin (length (entries_view ps)) groups)
    (h : IfSome (slice_get groups g) (λ s. i < s.count)) where
  pub pattern_within : (get_or groups g d).first + i < length ps
  pattern_within =
      let here : i < (get_or groups g d).count = subst (λ (o : Option Span). IfSome o (λ s. i < s.count)) (slice_get-get_or groups g d e) h in
      omega (arith, here, within_at (length (entries_view ps)) groups g d w e, length-map ps entry_view)

  pub pattern_fits : length (entries_view ps) ≤ 16777216 → (get_or groups g d).first + i < 2 ^ 32
  pattern_fits few = omega (arith, pattern_within, few, length-map ps entry_view)

  pub pattern_is : (p : Pattern)
      → IfSome (slice_get groups g) (λ s. slice_get (entries_view ps) (s.first + i) ≡ Some (entry_view (get_or ps ((get_or groups g d).first + i) p)))
  pattern_is p =
      subst (λ (o : Option Span). IfSome o (λ s. slice_get (entries_view ps) (s.first + i) ≡ Some (entry_view (get_or ps ((get_or groups g d).first + i) p))))
      (sym (slice_get-get_or groups g d e))
      (slice_get-map entry_view ps ((get_or groups g d).first + i)
      ∙ ap (option_map entry_view) (slice_get-get_or ps ((get_or groups g d).first + i) p pattern_within))
