use Rattle.std.proofs.Common.{◌≡◌, ◌↔◌, None, Some, Option, refl, subst}
use Rattle.std.proofs.lemmas.Option.{same_Some}

-- no value has the property
pub exactly_none : {A : Type 0} (P : A → Type 0) → ((x : A) → P x → ⊥) → (x : A) → P x ↔ (◌≡◌ {A = Option A} None (Some x))
exactly_none P none x = ((λ p. absurd (none x p)), (λ e. cc))

-- one value alone has the property
pub exactly_some : {A : Type 0} (P : A → Type 0) (y : A) → P y → ((x : A) → P x → x ≡ y) → (x : A) → P x ↔ (◌≡◌ {A = Option A} (Some y) (Some x))
exactly_some P y has only x = ((λ p. rw (only x p) refl), (λ e. subst P (same_Some y x e) has))
