-- How the terms of a store are kept.
--   terms_in kept     the terms, in order
use Rattle.std.specs.Prelude.{List}
use Rattle.query_terms.specs.declared.terms.Term.{Term}
use Rattle.query_terms.specs.declared.store.Terms.{Terms}
use Rattle.query_terms.specs.declared.store.Terms.TheVariants.{Indexed, Listed, Plain}

-- those of the index, or of the list
abbrev pub terms_in : Terms → List Term
terms_in (Indexed index) = index
terms_in (Listed terms) = terms
terms_in (Plain terms) = terms.now
