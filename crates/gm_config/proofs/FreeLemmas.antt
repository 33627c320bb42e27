-- A value whose degree specification is `Free` has that kind.
use Rattle.std.proofs.Common.{◌≡◌, ◌≢◌, ℕ, ◌+◌, List, [], ◌∷◌, Bool, true, false, ◌&&◌, nat_le, Option, Some, None, option_map, refl}
use Rattle.std.specs.Prelude.{if◌then◌else◌, option_and_then, unwrap_or, is_some, codes}
use Rattle.std.specs.Option.{option_or}
use Rattle.serde_json.specs.Data.{Data}
use Rattle.gm_config.specs.Json.{number_at, elements_at, has_exactly}
use Rattle.gm_config.specs.Limits.{degree_most, exponent_most}
use Rattle.gm_config.specs.DegreeSpec.{is_of_kind, are_weights, uniform_in, bell_in, zipf_in, zipf_to_max_in, free_in, plain_in, table_in, degree_spec_in, is_degree_spec, degree_spec_of, weights_of}
use Rattle.gm_config.specs.ConstraintRules.{is_free}
use Rattle.gm_config.specs.declared.degree_specs.DegreeSpec.{DegreeSpec}
use Rattle.gm_config.specs.declared.degree_specs.DegreeSpec.TheVariants.{Uniform, Bell, Zipf, Table, Free}

-- only a free specification is `Free`
record IsFreeOnly (free : Bool) (o : Option DegreeSpec) : Type 0 where
  only : o ≡ Some Free → free ≡ true

free_or : (free : Bool) (o p : Option DegreeSpec) → IsFreeOnly free o → IsFreeOnly free p → IsFreeOnly free (option_or o p)
free_or free None p k l = l
free_or free (Some spec) p k l = k

free_if : (free b : Bool) (o : Option DegreeSpec) → IsFreeOnly free o → IsFreeOnly free (if b then o else None)
free_if free true o k = k
free_if free false o k = record { only = λ e. absurd (cc) }

free_then : (free : Bool) (o : Option ℕ) (f : ℕ → Option DegreeSpec) → ((n : ℕ) → IsFreeOnly free (f n)) → IsFreeOnly free (option_and_then f o)
free_then free None f k = record { only = λ e. absurd (cc) }
free_then free (Some n) f k = k n

free_last : (free : Bool) (o : Option ℕ) (f : ℕ → DegreeSpec) → ((n : ℕ) → f n ≢ Free) → IsFreeOnly free (option_map f o)
free_last free None f k = record { only = λ e. absurd (cc) }
free_last free (Some n) f k = record { only = λ e. absurd (k n (some_is (f n) e)) }
  where
    some_is : (spec : DegreeSpec) → Some spec ≡ Some Free → spec ≡ Free
    some_is spec e = cc

free_when : (free b : Bool) (spec : DegreeSpec) → spec ≢ Free → IsFreeOnly free (if b then Some spec else None)
free_when free true spec k = record { only = λ e. absurd (k (cc)) }
free_when free false spec k = record { only = λ e. absurd (cc) }

free_kind : (kind members : Bool) → IsFreeOnly kind (if kind && members then Some Free else None)
free_kind true members = record { only = λ e. refl }
free_kind false members = record { only = λ e. absurd (cc) }

free_found : (free : Bool) (o : Option DegreeSpec) → IsFreeOnly free o → is_some o ≡ true → unwrap_or o Free ≡ Free → free ≡ true
free_found free None k found e = absurd (cc)
free_found free (Some spec) k found e = k.only (cc)

is_uniform : (min max : ℕ) → Uniform min max ≢ Free
is_uniform min max e = absurd (cc)

is_bell : (center width : ℕ) → Bell center width ≢ Free
is_bell center width e = absurd (cc)

is_zipf : (exponent : ℕ) (max : Option ℕ) → Zipf exponent max ≢ Free
is_zipf exponent max e = absurd (cc)

is_table : (weights : List ℕ) → Table weights ≢ Free
is_table weights e = absurd (cc)

free_uniform : (free : Bool) (d : Data) → IsFreeOnly free (uniform_in d)
free_uniform free d =
    free_if free (is_of_kind (codes "uniform") (codes "min" ∷ codes "max" ∷ []) d) _
    (free_then free (number_at (codes "max") 0 degree_most d) _ (λ max. free_last free (number_at (codes "min") 0 max d) _ (λ min. is_uniform min max)))

free_bell : (free : Bool) (d : Data) → IsFreeOnly free (bell_in d)
free_bell free d =
    free_if free (is_of_kind (codes "bell") (codes "center" ∷ codes "width" ∷ []) d) _
    (free_then free (number_at (codes "center") 0 degree_most d) _ (λ center. free_then free (number_at (codes "width") 0 degree_most d) _
    (λ width. free_when free (nat_le (center + width) degree_most) _ (is_bell center width))))

free_zipf : (free : Bool) (d : Data) → IsFreeOnly free (zipf_in d)
free_zipf free d =
    free_if free (is_of_kind (codes "zipf") (codes "exponent" ∷ []) d) _
    (free_last free (number_at (codes "exponent") 1 exponent_most d) _ (λ exponent. is_zipf exponent None))

free_zipf_to_max : (free : Bool) (d : Data) → IsFreeOnly free (zipf_to_max_in d)
free_zipf_to_max free d =
    free_if free (is_of_kind (codes "zipf") (codes "exponent" ∷ codes "max" ∷ []) d) _
    (free_then free (number_at (codes "exponent") 1 exponent_most d) _ (λ exponent. free_last free (number_at (codes "max") 1 degree_most d) _ (λ max. is_zipf exponent (Some max))))

free_table : (free : Bool) (d : Data) → IsFreeOnly free (table_in d)
free_table free d =
    free_when free (is_of_kind (codes "table") (codes "weights" ∷ []) d && are_weights (elements_at (codes "weights") d)) _ (is_table (weights_of (elements_at (codes "weights") d)))

IsFreeOnly-degree_spec_in : (d : Data) → IsFreeOnly (is_free d) (degree_spec_in d)
IsFreeOnly-degree_spec_in d =
    free_or _ (plain_in d) (table_in d)
    (free_or _ (uniform_in d) _ (free_uniform _ d)
    (free_or _ (bell_in d) _ (free_bell _ d)
    (free_or _ (zipf_in d) _ (free_zipf _ d)
    (free_or _ (zipf_to_max_in d) (free_in d) (free_zipf_to_max _ d) (free_kind (is_free d) (has_exactly (codes "kind" ∷ []) d))))))
    (free_table _ d)

pub is_free-Free : (d : Data) → is_degree_spec d ≡ true → degree_spec_of d ≡ Free → is_free d ≡ true
is_free-Free d found e = free_found (is_free d) (degree_spec_in d) (IsFreeOnly-degree_spec_in d) found e
